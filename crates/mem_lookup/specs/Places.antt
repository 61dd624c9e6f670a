-- What is wrong with a place to be read, by the pointers' bytes (01, Refusals, 9). Assumes nothing.
use Rattle.std.specs.Prelude.{ℕ, ◌≤◌, ◌<◌, length, Bool, true, false, ◌&&◌, ◌||◌, List, [], ◌∷◌, ◌≡◌, refl, Option, Some, None}
use Rattle.spec.specs.Drives.{View, view_of, mk_disk, pointer_at, pointer_of}
use Rattle.spec.specs.Lists.{cons_if, is_in}
use Rattle.spec.specs.Params.{between, image_len, pointers_len, place_block, place_zone, place_drive}
use Rattle.spec.specs.Read.{place_faults}
use Rattle.spec.specs.Segments.{is_place}
use Rattle.spec.specs.declared.Params.{Params}
use Rattle.law_views.specs.Views.{pointer_view}
use Rattle.disk_holders.specs.Held.{place_outside}
use borrow.Author.Tests.{le-leb, lt-leb}
use Rattle.std.proofs.Math.Dec.{leb}
use Rattle.std.proofs.Math.Bool.{cond, not}
use Rattle.std.proofs.Math.Path.{sym, ap}
use Rattle.std.proofs.Common.{◌∙◌, subst, arith}

-- a block of a zone with this pointer is no data block, or lies on a present drive and not below the pointer
abbrev pub is_bad : Params → ℕ → ℕ → ℕ → ℕ → Bool
is_bad p n gone d b = not (between 1 p.S b) || (not (is_in gone d) && leb n b)

-- the bad zone, if there is one, as the list of them
abbrev pub one_fault : Option ℕ → List ℕ
one_fault None = []
one_fault (Some z) = z ∷ []

module _ (p : Params) (off im ps : List ℕ) (gone q : ℕ) (h : length im ≡ image_len p) (g : length ps ≡ pointers_len p) where
  abbrev v : View
  v = view_of p off im ps

  -- outside the image: zone 0
  pub fault_outside : is_place p (view_of p off im ps) gone q ≡ false → place_faults p (view_of p off im ps) gone q ≡ 0 ∷ []
  unfolding place_faults
  fault_outside e =
      ap (λ (x : Bool). cond (not x) (0 ∷ []) (cons_if (is_bad p (pointer_at v (place_drive p q) (place_zone p q)) gone (place_drive p q) (place_block p q)) (place_zone p q) [])) e

  module _ (d z b : ℕ) (ed : d ≡ place_drive p q) (ez : z ≡ place_zone p q) (eb : b ≡ place_block p q) where
    fault_at : is_place p v gone q ≡ true → place_faults p v gone q ≡ cons_if (is_bad p (pointer_at v d z) gone d b) z []
    unfolding place_faults
    fault_at e =
        ap (λ (x : Bool). cond (not x) (0 ∷ []) (cons_if (is_bad p (pointer_at v (place_drive p q) (place_zone p q)) gone (place_drive p q) (place_block p q)) (place_zone p q) [])) e
        ∙ sym (λ j. cons_if (is_bad p (pointer_at v (ed j) (ez j)) gone (ed j) (eb j)) (ez j) [])

    -- a drive from N on is outside
    pub fault_past : p.N ≤ d → place_faults p (view_of p off im ps) gone q ≡ 0 ∷ []
    fault_past e = fault_outside (place_outside p v gone q (subst (λ (n : ℕ). p.N ≤ n) ed e))

    module _ (hd : d < p.N) (hz : z < p.Z) (is : is_place p (view_of p off im ps) gone q ≡ true) where
      fault_within : place_faults p v gone q ≡ cons_if (is_bad p (pointer_of p ps d z) gone d b) z []
      fault_within =
          fault_at is ∙ ap (λ (x : ℕ). cons_if (is_bad p x gone d b) z []) (pointer_view p off (mk_disk im ps) d z hd hz (record { image_long = h; pointers_long = g }))

      pub fault_bad : is_bad p (pointer_of p ps d z) gone d b ≡ true → place_faults p (view_of p off im ps) gone q ≡ z ∷ []
      unfolding cons_if
      fault_bad e = fault_within ∙ ap (λ (x : Bool). cons_if x z []) e

      pub place_fault_none : is_bad p (pointer_of p ps d z) gone d b ≡ false → place_faults p (view_of p off im ps) gone q ≡ []
      unfolding cons_if
      place_fault_none e = fault_within ∙ ap (λ (x : Bool). cons_if x z []) e

-- a place with no fault is one
pub fault_free_place : (p : Params) (v : View) (gone q : ℕ) → place_faults p v gone q ≡ [] → is_place p v gone q ≡ true
unfolding place_faults
fault_free_place p v gone q e =
    go (is_place p v gone q) (cons_if (is_bad p (pointer_at v (place_drive p q) (place_zone p q)) gone (place_drive p q) (place_block p q)) (place_zone p q) []) e
  where
    go : (b : Bool) (zs : List ℕ) → cond (not b) (0 ∷ []) zs ≡ [] → b ≡ true
    go true zs e = refl
    go false zs e = absurd (let x : ◌≡◌ {A = ℕ} 1 0 = ap length e in let w : ⊥ = omega arith in w)

-- the test by its parts
module _ (p : Params) (n gone d b : ℕ) where
  pub bad_header : b < 1 → is_bad p n gone d b ≡ true
  unfolding between
  bad_header h = ap (λ (x : Bool). not (x && leb b p.S) || (not (is_in gone d) && leb n b)) (lt-leb 1 b h)

  pub bad_footer : 1 ≤ b → p.S < b → is_bad p n gone d b ≡ true
  unfolding between
  bad_footer h g = λ j. not (le-leb 1 b h j && lt-leb b p.S g j) || (not (is_in gone d) && leb n b)

  pub bad_data_holds : 1 ≤ b → b ≤ p.S → (m : Bool) → is_in gone d ≡ m → is_bad p n gone d b ≡ (not m && leb n b)
  unfolding between
  bad_data_holds h g m e = λ j. not (le-leb 1 b h j && le-leb b p.S g j) || (not (e j) && leb n b)
