-- The parity of a full stripe in flight, as the machine has it; its record fits its bytes. Assumes nothing.
use Rattle.std.specs.Prelude.{◌≡◌, Bool, true, false, ◌≢◌, ltb, length, get_or}
use Rattle.std.proofs.Math.Path.{refl, sym, ap, ap₂}
use Rattle.std.proofs.Common.{◌∙◌, subst, inl, inr, lt-ltb, le-ltb, ne_eqb}
use mathlib.Core.List.{List, [], ◌∷◌, map}
use Rattle.std.proofs.Math.Bool.{not}
use Prim.Native.Nat.{ℕ, zero, suc, ◌+◌, ◌-◌, ◌^◌, ◌≤◌, ◌<◌}
use Rattle.std.proofs.Math.Decide.{ℕ_discrete}
use native.Mathlib.Omega.{arith}
use Rattle.std.proofs.lemmas.List.{length-map}
use Rattle.spec.specs.declared.Params.{Params}
use Rattle.spec.specs.Bytes.{parity}
use Rattle.spec.specs.Layout.{parity_drive, data_drive, is_data, data_drives, Rec}
use Rattle.spec.specs.Lists.{up_from, below, keep}
use Rattle.spec.specs.Params.{data_count}
use Rattle.spec.specs.Parity.{Piece, mk_piece, parity_rec, parity_piece}
use Rattle.law_basic.specs.Geometry.{Ranged, addresses_all, data_drive_lt}
use Rattle.law_basic.specs.Ranges.{length-below, map-below_same, map-map, get_d_map-below, keep_hit, keep_miss, keep_none}
use Rattle.law_basic.specs.Xor.{xor_all-lt}
use Rattle.law_drives.specs.Tests.{cond_true, cond_false}
use Rattle.proof_crash_machine.specs.Facts.{Good}
use Rattle.proof_crash_machine.specs.History.{State as m-State, Inv}
use Rattle.proof_crash_machine.specs.Memory.{Mem, MemOk}
use Rattle.proof_crash_machine.specs.Val.{Val, 𝟘, pads, ⊕-self, ⊕-left, xor_n, xor_n-put}
use Rattle.proof_crash_machine.specs.View.{Item}
use Rattle.proof_crash_items.specs.Codec.{Wide}
use Rattle.proof_crash_items.specs.Items.{value_of}
use Rattle.proof_crash_items.specs.Member.{below_has}
use Rattle.proof_crash_items.specs.Ranges.{parity_on, par_of}
use Rattle.proof_crash_items.specs.Values.{piece_value, value_same, xor_l, PiecesLong, pieces_long, parity_value, only_where, only_there, only_else, xor_below}
use Rattle.proof_crash_calls.specs.Base.{eqb_self}
use Rattle.proof_crash_calls.specs.Rel.{SlotRel}

-- ---- data drives

module _ (p : Params) (s : ℕ) where
  abbrev q : ℕ
  q = parity_drive p s

  data_below-parity : (i : ℕ) → i < q → (data_drive p s i ≡ i) × (is_data p s i ≡ true)
  unfolding data_drive is_data
  data_below-parity i l = (cond_true (ltb i q) i (suc i) (lt-ltb i q l), ap not (ne_eqb i q (omega arith)))

  data_high : (i : ℕ) → q ≤ i → (data_drive p s i ≡ suc i) × (is_data p s (suc i) ≡ true)
  unfolding data_drive is_data
  data_high i l = (cond_false (ltb i q) i (suc i) (le-ltb i q l), ap not (ne_eqb (suc i) q (omega arith)))

  data_above_parity : (i n : ℕ) → q ≤ i → map (data_drive p s) (up_from i n) ≡ keep (is_data p s) (up_from (suc i) n)
  unfolding up_from
  data_above_parity i zero l = unfold keep in refl
  data_above_parity i (suc n) l =
      ap₂ (λ (x : ℕ) (y : List ℕ). x ∷ y) (data_high i l).0 (data_above_parity (suc i) n (omega arith)) ∙ sym (keep_hit (is_data p s) (suc i) (up_from (suc (suc i)) n) (data_high i l).1)

  not_data : is_data p s q ≡ false
  unfolding is_data
  not_data = ap not (eqb_self q)

  both_ways : (i n : ℕ) → i ≤ q → q ≤ i + n → map (data_drive p s) (up_from i n) ≡ keep (is_data p s) (up_from i (suc n))
  unfolding up_from
  both_ways i zero a b =
      let e : i ≡ q = omega arith in
      sym (keep_miss (is_data p s) i [] (ap (is_data p s) e ∙ not_data) ∙ (let w : keep (is_data p s) [] ≡ [] = keep_none (is_data p s) in w))
  both_ways i (suc n) a b = go (ℕ_discrete i q) (both_ways (suc i) n)
    where
      go : Dec (i ≡ q) → (suc i ≤ q → q ≤ suc i + n → map (data_drive p s) (up_from (suc i) n) ≡ keep (is_data p s) (up_from (suc i) (suc n)))
          → data_drive p s i ∷ map (data_drive p s) (up_from (suc i) n) ≡ keep (is_data p s) (i ∷ up_from (suc i) (suc n))
      go (yes e) ih = data_above_parity i (suc n) (omega arith) ∙ sym (keep_miss (is_data p s) i (up_from (suc i) (suc n)) (ap (is_data p s) e ∙ not_data))
      go (no e) ih =
          ap₂ (λ (x : ℕ) (y : List ℕ). x ∷ y) (data_below-parity i (omega arith)).0 (ih (omega arith) (omega arith))
          ∙ sym (keep_hit (is_data p s) i (up_from (suc i) (suc n)) (data_below-parity i (omega arith)).1)

  pub data_drives_are : Ranged p → data_drives p s ≡ keep (is_data p s) (below p.N)
  unfolding data_drives data_count below
  data_drives_are h =
      let l : q < p.N = parity_on p h s in
      both_ways 0 (p.N - 1) (omega arith) (omega (arith, l)) ∙ ap (λ (n : ℕ). keep (is_data p s) (up_from 0 n)) (let e : suc (p.N - 1) ≡ p.N = omega (arith, h.drives_low) in e)

-- the parity is the exclusive or of the data
pub parity_of : (p : Params) → Ranged p → (s : ℕ) (G : ℕ → Val) → xor_n p.N G ≡ 𝟘 → xor_l (map G (data_drives p s)) ≡ G (parity_drive p s)
parity_of p h s G z =
    ap (λ (l : List ℕ). xor_l (map G l)) (data_drives_are p s h) ∙ xor_below (is_data p s) G p.N
    ∙ ⊕-left (xor_n p.N H) (G q) (G q) (sym (xor_n-put p.N q G H (parity_on p h s) same (only_else (is_data p s) G q lost)) ∙ z ∙ sym (⊕-self (G q)))
  where
    q : ℕ
    q = parity_drive p s

    H : ℕ → Val
    H = only_where (is_data p s) G

    lost : is_data p s (parity_drive p s) ≡ false
    lost = unfold is_data in ap not (eqb_self (parity_drive p s))

    same : (d : ℕ) → d < p.N → d ≢ parity_drive p s → G d ≡ only_where (is_data p s) G d
    same d l n = sym (only_there (is_data p s) G d (unfold is_data in ap not (ne_eqb d (parity_drive p s) n)))

-- ---- a full eighth

module _ (p : Params) (h : Ranged p) (W : ℕ → List Item) (B : ℕ → List ℕ) (E : ℕ → Rec) (O : ℕ → ℕ) (s k m : ℕ) (G : ℕ → Val) (r : ℕ → Bool)
    (a : SlotRel p W B E O s k m G r)
    (long : (d : ℕ) → d < p.N → length (B d) ≡ p.B) (full : k ≡ data_count p) (z : xor_n p.N G ≡ 𝟘) where
  piece : ℕ → Piece
  piece j = mk_piece (B (data_drive p s j)) (E j)

  abbrev qs : List Piece
  qs = map piece (below (data_count p))

  pieces_fit : PiecesLong p.B qs
  unfolding piece
  pieces_fit = pieces_long p.B piece (below (data_count p)) (λ j i. long (data_drive p s j) (data_drive_lt p s j (below_has j (data_count p) i)))

  blocks : map (λ (x : Piece). x.block) qs ≡ map B (data_drives p s)
  unfolding piece data_drives
  blocks = map-map (λ (x : Piece). x.block) piece (below (data_count p)) ∙ sym (map-map B (data_drive p s) (below (data_count p)))

  recs : map (λ (x : Piece). x.rec) qs ≡ map E (below k)
  unfolding piece
  recs = map-map (λ (x : Piece). x.rec) piece (below (data_count p)) ∙ ap (λ (n : ℕ). map E (below n)) (sym full)

  values : map piece_value qs ≡ map G (data_drives p s)
  unfolding piece data_drives
  values = map-map piece_value piece (below (data_count p))
      ∙ map-below_same (λ (j : ℕ). piece_value (mk_piece (B (data_drive p s j)) (E j))) (λ (j : ℕ). G (data_drive p s j)) (data_count p)
      (λ j l. value_same (B (data_drive p s j)) (E j) ∙ sym (a.held j (omega (arith, full))))
      ∙ sym (map-map G (data_drive p s) (below (data_count p)))

  pub parity_is : value_of (B (parity_drive p s)) (parity_rec s (map E (below k))) ≡ G (parity_drive p s)
  unfolding parity_piece
  parity_is =
      ap₂ (λ (b : List ℕ) (l : List Rec). value_of b (parity_rec s l)) (a.xored full ∙ ap (parity p.B) (sym blocks)) (sym recs)
      ∙ sym (value_same (parity p.B (map (λ (x : Piece). x.block) qs)) (parity_rec s (map (λ (x : Piece). x.rec) qs)))
      ∙ parity_value p s qs pieces_fit ∙ ap xor_l values ∙ parity_of p h s G z

-- ---- widths

pub record Fits8 (x : Val) : Type 0 where
  pub addr : x.addr < 256 ^ 8
  pub stamp : x.stamp < 256 ^ 8

pads_fit : Fits8 pads
unfolding pads
pads_fit = record { addr = omega arith; stamp = omega arith }

-- what is sent or padding fits
pub good_fits : (p : Params) (h : Ranged p) (off : List ℕ) (σ : m-State) (M : Mem) → Inv (par_of p h off) σ → MemOk (par_of p h off) σ.g σ.v M → M.stamp < 256 ^ 8 → (x : Val)
    → Good σ.g x → Fits8 x
good_fits p h off σ M i m t x (inl e) = rw e pads_fit
good_fits p h off σ M i m t x (inr k) = record { addr = omega (arith, (i.ones x k).1, addresses_all p h); stamp = omega (arith, m.stamps x k, t) }

-- the record of the parity
pub parity-wide : (s n : ℕ) (E : ℕ → Rec) → s < 256 ^ 4 → ((j : ℕ) → j < n → ((E j).address < 256 ^ 8) × ((E j).stamp < 256 ^ 8)) → Wide (parity_rec s (map E (below n)))
unfolding parity_rec
parity-wide s n E sl w = record {
  address =
      xor_all-lt 64 (map (λ (r : Rec). r.address) (map E (below n)))
      (λ i l. subst (λ (x : ℕ). x < 2 ^ 64) (sym (at (λ (r : Rec). r.address) i l)) (w i (low (λ (r : Rec). r.address) i l)).0);
  stamp = xor_all-lt 64 (map (λ (r : Rec). r.stamp) (map E (below n))) (λ i l. subst (λ (x : ℕ). x < 2 ^ 64) (sym (at (λ (r : Rec). r.stamp) i l)) (w i (low (λ (r : Rec). r.stamp) i l)).1);
  stripe = sl;
}
  where
    low : (f : Rec → ℕ) (i : ℕ) → i < length (map f (map E (below n))) → i < n
    low f i l = omega (arith, l, length-map (map E (below n)) f, length-map (below n) E, length-below n)

    at : (f : Rec → ℕ) (i : ℕ) → i < length (map f (map E (below n))) → get_or (map f (map E (below n))) i 0 ≡ f (E i)
    at f i l = ap (λ (x : List ℕ). get_or x i 0) (map-map f E (below n)) ∙ get_d_map-below (λ (j : ℕ). f (E j)) n i 0 (low f i l)
