-- Whose a zone is: by drive and zone, the row of the remaining segment that has it (02, item 4). Assumes nothing.
use Prim.Native.Nat.{ℕ, zero, suc, ◌+◌, ◌*◌, ◌/◌, ◌%◌, ◌≤◌, ◌<◌}
use Rattle.law_basic.specs.Geometry.{zone_index_lt}
use Rattle.law_basic.specs.Ranges.{Test, test}
use Rattle.law_basic.specs.Ranges.Test.{yes!, no! }
use Rattle.law_basic.specs.Segs.{ZonesLow}
use Rattle.spec.specs.Bytes.{part}
use Rattle.spec.specs.Drives.{seg, zone_on}
use Rattle.spec.specs.declared.Params.{Params}
use Rattle.spec.specs.declared.Seg.{Seg}
use Rattle.std.proofs.Common.{lt-ltb, le-ltb, eq-eqb, eqb-true, get_or-set_same, get_or-set_other, ap₂, ◌∙◌, add-one}
use Rattle.std.proofs.lemmas.Bool.{eqb-false}
use Rattle.std.proofs.Math.Arith.{digits_div, digits_mod, lt_of_le-ne}
use Rattle.std.specs.Prelude.{ltb, eqb, length, get_or, set, Bool, ◌&&◌, List}
use Rattle.std.proofs.Math.Bool.{true, false, cond, and-false}
use Rattle.std.proofs.Math.Path.{◌≡◌, refl, sym, ap}
use Rattle.std.proofs.Math.Decide.{dec_lt}
use native.Mathlib.Omega.{arith}

-- 02, item 4: the segment in row g
abbrev pub row_seg : List ℕ → ℕ → Seg
row_seg rows g = seg (part (8 * g) 8 rows)

-- the zones in flagged rows are zones
abbrev pub OwnersRowsLow : Params → List ℕ → List Bool → Type 0
OwnersRowsLow p rows flags = (g : ℕ) → g < p.Z → get_or flags g false ≡ true → ZonesLow p 0 (row_seg rows g)

-- 02, item 4: the last of the first n rows that is kept and has zone z of drive d; 1024 if none has
unfoldable pub owner_of : List ℕ → List Bool → ℕ → ℕ → ℕ → ℕ
owner_of rows kept d z zero = 1024
owner_of rows kept d z (suc n) = cond (get_or kept n false && eqb z (zone_on (row_seg rows n) d)) n (owner_of rows kept d z n)

-- ---- the row of a zone

module _ (rows : List ℕ) (kept : List Bool) (d z : ℕ) where
  abbrev has : ℕ → Bool
  has g = get_or kept g false && eqb z (zone_on (row_seg rows g) d)

  pub owner_none : owner_of rows kept d z 0 ≡ 1024
  unfolding owner_of
  owner_none = refl

  pub owner_more : (n : ℕ) → owner_of rows kept d z (n + 1) ≡ cond (has n) n (owner_of rows kept d z n)
  unfolding owner_of
  owner_more n = ap (owner_of rows kept d z) (add-one n)

  pub owner_low : (n : ℕ) → n ≤ 1024 → owner_of rows kept d z n ≤ 1024
  unfolding owner_of
  owner_low zero h = omega arith
  owner_low (suc n) h = go (has n) (owner_low n (omega arith))
    where
      go : (b : Bool) → owner_of rows kept d z n ≤ 1024 → cond b n (owner_of rows kept d z n) ≤ 1024
      go true l = omega arith
      go false l = l

  -- it is one that has the zone
  pub owner_has : (n : ℕ) → owner_of rows kept d z n < 1024 → (has (owner_of rows kept d z n) ≡ true) × (owner_of rows kept d z n < n)
  unfolding owner_of
  owner_has zero h = absurd (let q : ⊥ = omega arith in q)
  owner_has (suc n) h = go (has n) refl h (owner_has n)
    where
      go : (b : Bool) → has n ≡ b → cond b n (owner_of rows kept d z n) < 1024
          → (owner_of rows kept d z n < 1024 → (has (owner_of rows kept d z n) ≡ true) × (owner_of rows kept d z n < n))
          → (has (cond b n (owner_of rows kept d z n)) ≡ true) × (cond b n (owner_of rows kept d z n) < suc n)
      go true e l ih = (e, omega arith)
      go false e l ih = let t = ih l in (t.0, omega (arith, t.1))

  -- and that one, where there is no other
  pub owner_is : (n g : ℕ) → g < n → has g ≡ true → ((k : ℕ) → k < n → has k ≡ true → k ≡ g) → owner_of rows kept d z n ≡ g
  unfolding owner_of
  owner_is zero g l e once = absurd (let q : ⊥ = omega arith in q)
  owner_is (suc n) g l e once = go (has n) refl (λ m. owner_is n g m e (λ k h. once k (omega arith)))
    where
      go : (b : Bool) → has n ≡ b → (g < n → owner_of rows kept d z n ≡ g) → cond b n (owner_of rows kept d z n) ≡ g
      go true f ih = once n (omega arith) f
      go false f ih = low (dec_lt g n)
        where
          low : Dec (g < n) → owner_of rows kept d z n ≡ g
          low (yes m) = ih m
          low (no m) = let s : g ≡ n = omega arith in absurd (eqb-false 0 0 (sym (clash s)) refl)
            where
              clash : g ≡ n → ◌≡◌ {A = Bool} false (eqb 0 0)
              clash s = sym f ∙ ap has (sym s) ∙ e

-- a segment's row put at one zone more: at its zone on drive d
pub own_more : (p : Params) (was ss : List ℕ) (h : Seg) (g d : ℕ) → d < p.N → zone_on h d < p.Z → p.N * p.Z ≤ length ss
    → ((e z : ℕ) → e < p.N → z < p.Z → get_or ss (e * p.Z + z) 0 ≡ cond (ltb e d && eqb z (zone_on h e)) g (get_or was (e * p.Z + z) 0))
    → (e z : ℕ) → e < p.N → z < p.Z → get_or (set ss (d * p.Z + zone_on h d) g) (e * p.Z + z) 0 ≡ cond (ltb e (d + 1) && eqb z (zone_on h e)) g (get_or was (e * p.Z + z) 0)
own_more p was ss h g d hd hz long so e z he low = go (test (eqb (e * p.Z + z) at)) (test (eqb z (zone_on h e)))
  where
    at : ℕ
    at = d * p.Z + zone_on h d

    goal : ℕ → Type 0
    goal x = x ≡ cond (ltb e (d + 1) && eqb z (zone_on h e)) g (get_or was (e * p.Z + z) 0)

    go : Test (eqb (e * p.Z + z) at) → Test (eqb z (zone_on h e)) → goal (get_or (set ss at g) (e * p.Z + z) 0)
    go (yes! f) t =
        let w : e * p.Z + z ≡ at = eqb-true (e * p.Z + z) at f in
        let a : e ≡ d = sym (digits_div e low) ∙ ap (λ (x : ℕ). x / p.Z) w ∙ digits_div d hz in
        let b : z ≡ zone_on h e = sym (digits_mod e low) ∙ ap (λ (x : ℕ). x % p.Z) w ∙ digits_mod d hz ∙ ap (zone_on h) (sym a) in
        ap (λ (x : ℕ). get_or (set ss at g) x 0) w ∙ get_or-set_same ss at g 0 (omega (arith, zone_index_lt p d (zone_on h d) hd hz, long))
        ∙ sym (λ j. cond (lt-ltb e (d + 1) (omega (arith, a)) j && eq-eqb z (zone_on h e) b j) g (get_or was (e * p.Z + z) 0))
    go (no! f) (no! t) =
        let n : e * p.Z + z ≡ at → ⊥ = eqb-false (e * p.Z + z) at f in
        get_or-set_other ss at (e * p.Z + z) g 0 n ∙ so e z he low
        ∙ ap (λ (b : Bool). cond b g (get_or was (e * p.Z + z) 0))
        (ap (λ (b : Bool). ltb e d && b) t ∙ and-false (ltb e d) ∙ sym (ap (λ (b : Bool). ltb e (d + 1) && b) t ∙ and-false (ltb e (d + 1))))
    go (no! f) (yes! t) =
        let n : e * p.Z + z ≡ at → ⊥ = eqb-false (e * p.Z + z) at f in
        let m : e ≡ d → ⊥ = λ s. n (ap₂ (λ (x y : ℕ). x * p.Z + y) s (eqb-true z (zone_on h e) t ∙ ap (zone_on h) s)) in
        get_or-set_other ss at (e * p.Z + z) g 0 n ∙ so e z he low
        ∙ ap (λ (b : Bool). cond (b && eqb z (zone_on h e)) g (get_or was (e * p.Z + z) 0)) (same m (dec_lt e d))
      where
        same : (e ≡ d → ⊥) → Dec (e < d) → ltb e d ≡ ltb e (d + 1)
        same m (yes l) = lt-ltb e d l ∙ sym (lt-ltb e (d + 1) (omega arith))
        same m (no l) = le-ltb e d (omega arith) ∙ sym (le-ltb e (d + 1) (let w : d < e = lt_of_le-ne (omega arith) (λ s. m (sym s)) in omega (arith, w)))
