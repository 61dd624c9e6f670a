-- The candidates told so far and the address table of them; the record that the table holds is found again by its place. Assumes nothing.
use Rattle.std.specs.Prelude.{◌≡◌, true, false, ◌⊎◌, ℕ, ◌+◌, ◌*◌, ◌^◌, ◌≤◌, ◌<◌, length, replicate}
use Rattle.std.proofs.Math.Path.{refl, ap}
use Rattle.std.proofs.Common.{sym, ◌∙◌, subst, inl, inr, lit<, ext_get_or}
use mathlib.Core.List.{List, [], ◌∷◌, ◌++◌}
use native.Mathlib.Omega.{arith}
use Rattle.std.proofs.lemmas.List.{length-replicate, get_or-replicate}
use Rattle.spec.specs.declared.Params.{Params}
use Rattle.spec.specs.Bytes.{to_be, part}
use Rattle.spec.specs.Counts.{never_place}
use Rattle.spec.specs.Drives.{View}
use Rattle.spec.specs.Lists.{Opt, keep}
use Rattle.spec.specs.Lists.Opt.{none, some}
use Rattle.spec.specs.Memory.{place_at_of, set_place}
use Rattle.spec.specs.Params.{addresses_len}
use Rattle.spec.specs.Rank.{Cand, beats, better, best, place_or, cands_of}
use Rattle.spec.specs.Segments.{address_table}
use Rattle.law_basic.specs.Geometry.{Ranged}
use Rattle.law_basic.specs.Splice.{length_part, get_d_part}
use Rattle.recover_compact.specs.Compacts.{SegmentShown}
use Rattle.law_drives.specs.Best.{best_in}
use Rattle.law_drives.specs.Members.{In, in_append}
use Rattle.law_drives.specs.Segs.{CandAt, Here}
use Rattle.law_drives.specs.Spots.{SpotsApart, spot_of, spot_low}
use Rattle.law_drives.specs.Tables.{length_addresses, place_at, addresses_ext}
use Rattle.law_drives.specs.Tests.{cond_true, cond_false}
use Rattle.recover_addresses.specs.Offers.{offer_high, offer_kept, offer_set}

-- a candidate of a segment whose rows of the compact table are as the drives say
abbrev pub Near : Params → View → ℕ → List ℕ → Cand → Type 0
Near p v gone co c = (k : CandAt p v gone c) × SegmentShown p v gone k.of co

-- candidates of the drives, and the table of them
pub record Told (p : Params) (v : View) (gone : ℕ) (co tb : List ℕ) (cs : List Cand) : Type 0 where
  pub table : tb ≡ address_table p cs
  pub said : (c : Cand) → In c cs → Near p v gone co c

-- the table is that of some candidates of the drives
abbrev pub Known : Params → View → ℕ → List ℕ → List ℕ → Type 0
Known p v gone co tb = (cs : List Cand) × Told p v gone co tb cs

-- the candidates that the table tells are followed by new ones
abbrev pub Tells : Params → View → ℕ → List ℕ → List ℕ → List ℕ → List Cand → Type 0
Tells p v gone co tb tb' new = (cs : List Cand) → Told p v gone co tb cs → Told p v gone co tb' (cs ++ new)

pub told_long : (p : Params) (v : View) (gone : ℕ) (co tb : List ℕ) (cs : List Cand) → Told p v gone co tb cs → length tb ≡ addresses_len p
told_long p v gone co tb cs t = ap length t.table ∙ length_addresses p cs

pub told_fits : (p : Params) (v : View) (gone : ℕ) (co tb : List ℕ) (cs : List Cand) → Told p v gone co tb cs → (a : ℕ) → a < p.L → 4 * a + 4 ≤ length tb
unfolding addresses_len
told_fits p v gone co tb cs t a h = let e : length tb ≡ 4 * p.L = told_long p v gone co tb cs t in omega arith

-- ---- no candidate yet: every address is never written

pub nothing_told : (p : Params) (v : View) (gone : ℕ) (co tb : List ℕ) → tb ≡ replicate (addresses_len p) 255 → Told p v gone co tb []
nothing_told p v gone co tb e = record {
  table = e ∙ addresses_ext p (replicate (addresses_len p) 255) [] (length-replicate {A = ℕ} (addresses_len p) 255) (λ a h. row a h);
  said = λ c m. absurd m;
}
  where
    long : addresses_len p ≡ 4 * p.L
    long = unfold addresses_len in refl

    never : to_be 4 (place_or (best none (cands_of 0 []))) ≡ replicate 4 255
    never = unfold to_be place_or best cands_of keep in refl

    same : (a : ℕ) → to_be 4 (place_or (best none (cands_of a []))) ≡ to_be 4 (place_or (best none (cands_of 0 [])))
    same a = unfold cands_of keep in refl

    row : (a : ℕ) → a < p.L → part (4 * a) 4 (replicate (addresses_len p) 255) ≡ to_be 4 (place_or (best none (cands_of a [])))
    row a h = ext_get_or 0 (part (4 * a) 4 (replicate (addresses_len p) 255)) (replicate 4 255)
        (length_part (4 * a) 4 (replicate (addresses_len p) 255) (omega (arith, long, length-replicate {A = ℕ} (addresses_len p) 255)) ∙ sym (length-replicate {A = ℕ} 4 255))
        (λ j l. let k : j < 4 = subst (λ (x : ℕ). j < x) (length_part (4 * a) 4 (replicate (addresses_len p) 255) (omega (arith, long, length-replicate {A = ℕ} (addresses_len p) 255))) l in
        get_d_part (4 * a) 4 (replicate (addresses_len p) 255) j k ∙ get_or-replicate {A = ℕ} (addresses_len p) (4 * a + j) 255 0 (omega (arith, long))
        ∙ sym (get_or-replicate {A = ℕ} 4 j 255 0 k))
        ∙ sym never ∙ sym (same a)

-- ---- what the table holds of an address

pub data Holding (p : Params) (v : View) (gone : ℕ) (co tb : List ℕ) (cs : List Cand) (a : ℕ) : Type 0 where
  holds_none : best none (cands_of a cs) ≡ none → place_at_of tb a ≡ never_place → Holding p v gone co tb cs a
  holds-one : (h : Cand) → best none (cands_of a cs) ≡ some h → Near p v gone co h → h.address ≡ a → place_at_of tb a ≡ h.place → h.place < never_place → Holding p v gone co tb cs a

-- a candidate at a place
abbrev pub HasCand : Params → View → ℕ → List ℕ → ℕ → ℕ → Type 0
HasCand p v gone co a q = (h : Cand) × Near p v gone co h × (h.place ≡ q) × (h.address ≡ a)

-- the candidate at the place is x
abbrev pub IsCandAt : Params → View → ℕ → List ℕ → ℕ → ℕ → Cand → Type 0
IsCandAt p v gone co a q x = (h : Cand) → Near p v gone co h → h.place ≡ q → h.address ≡ a → x ≡ h

module _ (p : Params) (r : Ranged p) (v : View) (gone : ℕ) (here : Here p gone) (apart : SpotsApart p v gone) (co tb : List ℕ) (cs : List Cand) (t : Told p v gone co tb cs) where
  pub holding : (a : ℕ) → a < p.L → Holding p v gone co tb cs a
  holding a h = go (best none (cands_of a cs)) refl
    where
      go : (o : Opt Cand) → best none (cands_of a cs) ≡ o → Holding p v gone co tb cs a
      go none e =
          let q : place_or (best none (cands_of a cs)) ≡ never_place = ap place_or e ∙ (unfold place_or in refl) in
          holds_none e (ap (λ (x : List ℕ). place_at_of x a) t.table ∙ place_at p cs a h (subst (λ (x : ℕ). x < 256 ^ 4) (sym q) (lit< tt)) ∙ q)
      go (some c) e =
          let i = best_in a cs c e in
          let k = t.said c i.0 in
          let l = spot_low p r v gone here apart c (spot_of p r v gone here apart c k.0) in
          let q : place_or (best none (cands_of a cs)) ≡ c.place = ap place_or e ∙ (unfold place_or in refl) in
          holds-one c e k i.1 (ap (λ (x : List ℕ). place_at_of x a) t.table
          ∙ place_at p cs a h (subst (λ (x : ℕ). x < 256 ^ 4) (sym q) (let z : c.place < 256 ^ 4 = omega arith in z)) ∙ q) l

  pub told_placed : (a : ℕ) → a < p.L → (place_at_of tb a ≡ never_place → ⊥) → HasCand p v gone co a (place_at_of tb a)
  told_placed a h n = go (holding a h)
    where
      go : Holding p v gone co tb cs a → HasCand p v gone co a (place_at_of tb a)
      go (holds_none e q) = absurd (n q)
      go (holds-one x e k i q l) = (x, k, sym q, i)

  and_one : (c : Cand) → Near p v gone co c → (x : Cand) → In x (cs ++ (c ∷ [])) → Near p v gone co x
  and_one c k x m = go (in_append x cs (c ∷ []) m)
    where
      go : In x cs ⊎ In x (c ∷ []) → Near p v gone co x
      go (inl i) = t.said x i
      go (inr (inl e)) = subst (λ (y : Cand). Near p v gone co y) (sym e) k
      go (inr (inr i)) = absurd i

  module _ (c : Cand) (k : Near p v gone co c) where
    -- an address that no table has
    pub told_high : p.L ≤ c.address → Told p v gone co tb (cs ++ (c ∷ []))
    told_high h = record { table = t.table ∙ offer_high p cs c h; said = and_one c k }

    -- the first of its address
    pub told_fresh : c.address < p.L → place_at_of tb c.address ≡ never_place → Told p v gone co (set_place tb c.address c.place) (cs ++ (c ∷ []))
    told_fresh h n = go (holding c.address h)
      where
        go : Holding p v gone co tb cs c.address → Told p v gone co (set_place tb c.address c.place) (cs ++ (c ∷ []))
        go (holds_none e q) = record {
          table = ap (λ (x : List ℕ). set_place x c.address c.place) t.table
              ∙ offer_set p cs c h (ap (λ (o : Opt Cand). better o c) e ∙ (unfold better in refl));
          said = and_one c k;
        }
        go (holds-one x e i y q l) = absurd (let z : ⊥ = omega (arith, n, q, l) in z)

    module _ (h : c.address < p.L) (n : place_at_of tb c.address ≡ never_place → ⊥) (x : Cand) (f : IsCandAt p v gone co c.address (place_at_of tb c.address) x) where
      holds_it : best none (cands_of c.address cs) ≡ some x
      holds_it = go (holding c.address h)
        where
          go : Holding p v gone co tb cs c.address → best none (cands_of c.address cs) ≡ some x
          go (holds_none e q) = absurd (n q)
          go (holds-one y e i a q l) = e ∙ ap some (sym (f y i (sym q) a))

      -- it beats the one held
      pub told_won : beats c x ≡ true → Told p v gone co (set_place tb c.address c.place) (cs ++ (c ∷ []))
      told_won b = record {
        table = ap (λ (x : List ℕ). set_place x c.address c.place) t.table
            ∙ offer_set p cs c h (ap (λ (o : Opt Cand). better o c) holds_it ∙ won);
        said = and_one c k;
      }
        where
          won : better (some x) c ≡ some c
          won = unfold better in ap some (cond_true (beats c x) c x b)

      -- it does not
      pub told_lost : beats c x ≡ false → Told p v gone co tb (cs ++ (c ∷ []))
      told_lost b = record {
        table = t.table ∙ offer_kept p cs c (ap (λ (o : Opt Cand). better o c) holds_it ∙ lost ∙ sym holds_it);
        said = and_one c k;
      }
        where
          lost : better (some x) c ≡ some x
          lost = unfold better in ap some (cond_false (beats c x) c x b)
