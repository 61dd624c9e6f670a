-- The places of data blocks (01, What a zone holds; Refusals, 9). Assumes nothing.
use Rattle.std.specs.Prelude.{◌≡◌, refl, [], ◌∷◌, Bool, true, false, cond, not, ◌&&◌, ◌||◌, ℕ, ◌≤◌, ◌<◌, leb, ltb, eqb, length}
use Rattle.std.proofs.Common.{ap, ltb-true, arith}
use Rattle.std.proofs.lemmas.Bool.{not-false}
use Rattle.spec.specs.declared.Params.{Params}
use Rattle.spec.specs.Drives.{View, pointer_at, is_good}
use Rattle.spec.specs.Lists.{cons_if, is_in}
use Rattle.spec.specs.Params.{between, place_block, place_zone, place_drive}
use Rattle.spec.specs.Read.{place_faults}
use Rattle.spec.specs.Segments.{holders, is_place}
use Rattle.law_basic.specs.Ranges.{and_left}
use Rattle.law_basic.specs.Geometry.{between-low, between_high}

-- 01, Refusals, 9: a place that is a data block of the image
pub record DataPlace (p : Params) (q : ℕ) : Type 0 where
  pub drive_low : place_drive p q < p.N
  pub block_low : 1 ≤ place_block p q
  pub block_high : place_block p q ≤ p.S

pub data_place : (p : Params) (q : ℕ) → place_drive p q < p.N → between 1 p.S (place_block p q) ≡ true → DataPlace p q
data_place p q h e = record { drive_low = h; block_low = between-low 1 p.S (place_block p q) e; block_high = between_high 1 p.S (place_block p q) e }

-- a place with no fault is one
fault_free : (a b x : Bool) (z : ℕ) → cond a (0 ∷ []) (cons_if (not b || x) z []) ≡ [] → (a ≡ false) × (b ≡ true)
unfolding cons_if
fault_free true b x z e = absurd (let q : ◌≡◌ {A = ℕ} 1 0 = ap length e in let w : ⊥ = omega arith in w)
fault_free false true x z e = (refl, refl)
fault_free false false x z e = absurd (let q : ◌≡◌ {A = ℕ} 1 0 = ap length e in let w : ⊥ = omega arith in w)

-- its drive is one of the array
place_here : (p : Params) (v : View) (gone q : ℕ) → is_place p v gone q ≡ true → place_drive p q < p.N
unfolding is_place
place_here p v gone q e =
    let d = place_drive p q in
    let z = place_zone p q in
    ltb-true d p.N (and_left (ltb d p.N) (is_good p v.offline d z) (and_left (ltb d p.N && is_good p v.offline d z) (eqb (length (holders p v gone d z)) 1) e))

pub place_free : (p : Params) (v : View) (gone q : ℕ) → place_faults p v gone q ≡ [] → DataPlace p q
unfolding place_faults
place_free p v gone q e =
    let d = place_drive p q in
    let b = place_block p q in
    let f = fault_free (not (is_place p v gone q)) (between 1 p.S b) (not (is_in gone d) && leb (pointer_at v d (place_zone p q)) b) (place_zone p q) e in
    data_place p q (place_here p v gone q (not-false (is_place p v gone q) f.0)) f.1
