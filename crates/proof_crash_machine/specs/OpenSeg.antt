-- A segment is opened: its headers on all drives, at every prefix. Assumes nothing.
use Rattle.std.specs.Prelude.{◌≡◌, refl, ◌⊎◌, ◌≢◌, true, length}
use Rattle.std.proofs.Common.{sym, ◌∙◌, subst, inl, inr, ⊎_elim, arith}
use Rattle.std.proofs.Math.Path.{ap}
use mathlib.Core.List.{List, [], ◌∷◌, ◌++◌}
use Prim.Native.Nat.{ℕ, suc, ◌≤◌, ◌<◌}
use Rattle.std.proofs.Math.Decide.{ℕ_discrete, dec_lt}
use Rattle.proof_crash_machine.specs.Val.{Val}
use Rattle.proof_crash_machine.specs.Facts.Pair.{alone}
use Rattle.proof_crash_machine.specs.Lemma.{pair_alone}
use Rattle.proof_crash_machine.specs.View.{Item, ItemView, ItemStore, InI, with_item, apply, apply_all, chunk_hdr, upd_same}
use Rattle.proof_crash_machine.specs.View.Item.{hdr, chunk}
use Rattle.proof_crash_machine.specs.View.ItemStore.{put}
use Rattle.proof_crash_machine.specs.Facts.{Par, None, InPair, Ghost, Used, Ragged, Facts}
use Rattle.proof_crash_machine.specs.Put
use Rattle.proof_crash_machine.specs.Header.{Opening, header_facts}
use Rattle.proof_crash_machine.specs.Name.{set_n_same, set_n-other, naming, name_facts}
use Rattle.proof_crash_machine.specs.Steps.{list, Prefix, list_prefix, list_end}

-- the stores
unfoldable pub headers : Par → Ghost → ℕ → ℕ → (ℕ → ℕ) → List ItemStore
headers p g w r ζ = list (λ (d : ℕ). put d w (hdr ((naming g w r 0 ζ alone).hd.ser w) ((naming g w r 0 ζ alone).hd.cop w) ((naming g w r 0 ζ alone).hd.zn w))) 0 p.N

-- what a write knows before it opens w under serial r
pub record Fresh (p : Par) (g : Ghost) (v : ItemView) (w r : ℕ) : Type 0 where
  pub none : None p g.un
  pub no_pair : g.pr ≡ alone
  pub empty : (e : ℕ) → e < p.N → v e w ≡ []
  pub newest : (y : ℕ) → Used p g.un v y → g.hd.ser y < r
  pub first : 0 < r
  -- w's zones: good, and no other segment's
  pub zs : ℕ → ℕ
  pub fits : (d : ℕ) → d < p.N → (zs d < p.Z) × (p.fine d (zs d) ≡ true)
  pub clear : (y : ℕ) → Used p g.un v y → (d : ℕ) → d < p.N → g.hd.zn y d ≢ zs d
  pub sealed : (y : ℕ) → Ragged p g.un v y → ⊥
  -- another zone of each drive stays empty (refusal 8)
  pub space : (d : ℕ) → d < p.N → (y : ℕ) × (y < p.Z) × (p.fine d y ≡ true) × (zs d ≢ y) × ((z : ℕ) → Used p g.un v z → g.hd.zn z d ≢ y)

module _ (p : Par) (g : Ghost) (v : ItemView) (w r : ℕ) (a : Fresh p g v w r) where
  abbrev g' : Ghost
  g' = naming g w r 0 a.zs alone

  idle : Used p g.un v w → ⊥
  idle (e, t, b) = let q : 0 < length {A = Item} [] = subst (λ (l : List Item). 0 < length l) (a.empty e t.0) b in let z : ⊥ = omega arith in z

  abbrev i : Item
  i = hdr (g'.hd.ser w) (g'.hd.cop w) (g'.hd.zn w)

  -- drives below d have the header
  abbrev I : ℕ → ItemView → Type 0
  I d u = Facts p g' u × ((e : ℕ) → e < p.N → (e < d → u e w ≡ i ∷ []) × (d ≤ e → u e w ≡ [])) × ((e y : ℕ) → y ≢ w → u e y ≡ v e y)

  header_opening : (d : ℕ) (u : ItemView) → d < p.N → I d u → Opening p g' u d w
  header_opening d u l (h, c, q) = record {
    none = a.none;
    drive = l;
    empty = (c d l).1 (omega arith);
    room = omega (arith, p.fits);
    fits = λ e k. rw (set_n_same g.hd.zn w a.zs) (a.fits e k);
    clear = λ y k n e j z. clear y k n e j z;
    bare = λ e s x k m. bare e s x k m (dec_lt e d);
    newest = λ y k n. rw (set_n-other g.hd.ser w r y n, set_n_same g.hd.ser w r) (a.newest y (old y n k));
    below = rw (set_n_same g.hd.cop w 0, set_n_same g.hd.ser w r) a.first;
    link = λ o k n e. absurd (zero_ser o k e);
    old = λ w' o e. absurd (pair_alone (sym e));
    lone = λ y (e, t, k, j) n. absurd (a.sealed y (e, t, subst (λ (x : List Item). 0 < length x) (q e y n) k, subst (λ (x : List Item). length x < p.cap) (q e y n) j));
    space = λ e k.
        let s : (y : ℕ) × (y < p.Z) × (p.fine e y ≡ true) × (a.zs e ≢ y) × ((z : ℕ) → Used p g.un v z → g.hd.zn z e ≢ y) = a.space e k in
        inl (s.0, s.1, s.2, (λ z. s.3 (sym (here e) ∙ z)), λ z j n x. free z j n e s.0 s.4 x);
  }
    where
      here : (e : ℕ) → g'.hd.zn w e ≡ a.zs e
      here e = ap (λ (f : ℕ → ℕ). f e) (set_n_same g.hd.zn w a.zs)

      there : (y e : ℕ) → y ≢ w → g'.hd.zn y e ≡ g.hd.zn y e
      there y e n = ap (λ (f : ℕ → ℕ). f e) (set_n-other g.hd.zn w a.zs y n)

      clear : (y : ℕ) → (Used p g.un u y) ⊎ (InPair alone y) → y ≢ w → (e : ℕ) → e < p.N → g'.hd.zn y e ≢ g'.hd.zn w e
      clear y (inl (d', t, k)) n e j z = a.clear y (d', t, subst (λ (x : List Item). 0 < length x) (q d' y n) k) e j (sym (there y e n) ∙ z ∙ here e)
      clear y (inr (inl (o, k))) n e j z = pair_alone (sym k)
      clear y (inr (inr (o, k))) n e j z = pair_alone (sym k)

      free : (z : ℕ) → (Used p g.un u z) ⊎ (InPair alone z) → z ≢ w → (e y : ℕ) → ((z : ℕ) → Used p g.un v z → g.hd.zn z e ≢ y) → g'.hd.zn z e ≡ y → ⊥
      free z (inl (d', t, k)) n e y f x = f z (d', t, subst (λ (x : List Item). 0 < length x) (q d' z n) k) (sym (there z e n) ∙ x)
      free z (inr (inl (o, k))) n e y f x = pair_alone (sym k)
      free z (inr (inr (o, k))) n e y f x = pair_alone (sym k)

      old : (y : ℕ) → y ≢ w → Used p g.un u y → Used p g.un v y
      old y n (e, t, k) = (e, t, subst (λ (x : List Item). 0 < length x) (q e y n) k)

      bare : (e s : ℕ) (x : Val) → e < p.N → InI (chunk s x) (u e w) → Dec (e < d) → ⊥
      bare e s x k m (yes b) = ⊎_elim (λ (j : chunk s x ≡ i). chunk_hdr j) (λ j. j) (subst (λ (y : List Item). InI (chunk s x) y) ((c e k).0 b) m)
      bare e s x k m (no b) = subst (λ (y : List Item). InI (chunk s x) y) ((c e k).1 (omega arith)) m

      zero_ser : (o : ℕ) → Used p g.un u o → g'.hd.cop w ≡ g'.hd.ser o → ⊥
      zero_ser o k e = let b : g'.hd.cop o < g'.hd.ser o = h.swap.below o k in let z : g'.hd.cop w ≡ 0 = set_n_same g.hd.cop w 0 in let j : ⊥ = omega (arith, b, z, e) in j

  opening_step : (d : ℕ) (u : ItemView) → d < p.N → I d u → I (suc d) (apply u (put d w i))
  unfolding apply with_item
  opening_step d u l (h, c, q) = (header_facts p g' u d w (header_opening d u l (h, c, q)) h, (λ e k. (low e k (ℕ_discrete e d), high e k)), λ e y n. Put.zone_other u d w i e y n ∙ q e y n)
    where
      low : (e : ℕ) → e < p.N → Dec (e ≡ d) → e < suc d → with_item u d w i e w ≡ i ∷ []
      low e k (yes j) b = rw j (upd_same u d w (u d w ++ (i ∷ [])) ∙ ap (λ (x : List Item). x ++ (i ∷ [])) ((c d l).1 (omega arith)))
      low e k (no j) b = Put.drive_other u d w i e w j ∙ (c e k).0 (omega arith)

      high : (e : ℕ) → e < p.N → suc d ≤ e → with_item u d w i e w ≡ []
      high e k b = Put.drive_other u d w i e w (omega arith) ∙ (c e k).1 (omega arith)

  start : Facts p g v → I 0 v
  start h = (
    name_facts p g v w r 0 a.zs alone a.no_pair idle (λ w' o e. absurd (pair_alone (sym e))) a.fits a.clear h,
    (λ e k. ((λ b. absurd (let z : ⊥ = omega arith in z)), λ b. a.empty e k)),
    λ e y n. refl,
  )

  -- wherever the power is cut
  pub opened_prefix : Facts p g v → Prefix (Facts p g') v (headers p g w r a.zs)
  unfolding headers
  opened_prefix h = list_prefix (Facts p g') I (λ (d : ℕ). put d w i) p.N (λ j u k. k.0) opening_step 0 p.N (omega arith) v (start h)

  pub open_facts : Facts p g v → I p.N (apply_all v (headers p g w r a.zs))
  unfolding headers
  open_facts h = list_end (Facts p g') I (λ (d : ℕ). put d w i) p.N (λ j u k. k.0) opening_step 0 p.N p.N (omega arith) (omega arith) v (start h)
