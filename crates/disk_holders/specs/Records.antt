-- The record at a place of a present drive, by footer or spare of its zone alone (01, Restart, 3). Assumes nothing.
use Rattle.std.specs.Prelude.{◌≡◌, refl, true, false, ◌&&◌}
use Rattle.std.proofs.Common.{sym, ◌∙◌, eqb-true}
use Rattle.std.proofs.Math.Path.{ap}
use Rattle.std.proofs.Math.Bool.{Bool}
use Prim.Native.Nat.{ℕ, ◌-◌}
use Rattle.std.proofs.Math.Dec.{eqb}
use Rattle.spec.specs.declared.Params.{Params}
use Rattle.spec.specs.declared.Seg.{Seg}
use Rattle.spec.specs.Drives.{View, zone_at, pointer_at, zone_on, sealed_in, record_in, record_at}
use Rattle.spec.specs.Layout.{Rec, mk_rec}
use Rattle.spec.specs.Lists.{all, is_in}
use Rattle.spec.specs.Params.{capacity, place_block, place_zone, place_drive, present}
use Rattle.spec.specs.Segments.{serial_in, seg_for, is_place, place_segment, place_record}
use Rattle.law_basic.specs.Ranges.{Test, test, and_left, and_right}
use Rattle.law_basic.specs.Ranges.Test.{yes!, no! }
use Rattle.law_drives.specs.Gather.{in_present}
use Rattle.law_drives.specs.Members.{all_in}
use Rattle.law_drives.specs.Segs.{Here}
use Rattle.disk_records.specs.declared.Record.{Record}
use Rattle.disk_records.specs.Record.{rec_val}
use Rattle.disk_holders.specs.Held.{place_held-one, held_segment}
use Rattle.law_drives.specs.Holders.{place_drive_low, place_zone_on}

-- records with the same fields are the same
pub same_record : (a b : Record) → (eqb a.address.0 b.address.0 && (eqb a.stamp.0 b.stamp.0 && eqb a.stripe b.stripe)) ≡ true → rec_val a ≡ rec_val b
same_record a b q =
    let x = eqb a.address.0 b.address.0 in
    let y = eqb a.stamp.0 b.stamp.0 in
    let z = eqb a.stripe b.stripe in
    let r : y && z ≡ true = and_right x (y && z) q in
    let e = eqb-true a.address.0 b.address.0 (and_left x (y && z) q) in
    let f = eqb-true a.stamp.0 b.stamp.0 (and_left y z r) in
    let g = eqb-true a.stripe b.stripe (and_right y z r) in
    λ j. mk_rec (e j) (f j) (g j)

module _ (p : Params) (v : View) (gone : ℕ) (here : Here p gone) (q : ℕ) (e : is_place p v gone q ≡ true) (pr : is_in gone (place_drive p q) ≡ false) where
  abbrev d : ℕ
  d = place_drive p q

  abbrev z : ℕ
  z = place_zone p q

  abbrev o : ℕ
  o = place_block p q - 1

  abbrev g : Seg
  g = place_segment p v gone q

  by_zone : place_record p v gone q ≡ record_in p (sealed_in p v gone g) (zone_at v d z) o
  unfolding record_at
  by_zone = ap (λ (n : ℕ). record_in p (sealed_in p v gone g) (zone_at v d n) o) (place_zone_on p v gone q e)

  -- its own zone is not full
  not_sealed : (pointer_at v d z ≡ capacity p → ⊥) → sealed_in p v gone g ≡ false
  unfolding sealed_in
  not_sealed n = go (test (all f (present p gone)))
    where
      f : ℕ → Bool
      f e = eqb (pointer_at v e (zone_on g e)) (capacity p)

      go : Test (all f (present p gone)) → all f (present p gone) ≡ false
      go (yes! t) = absurd (n (ap (pointer_at v d) (sym (place_zone_on p v gone q e))
          ∙ eqb-true (pointer_at v d (zone_on g d)) (capacity p) (all_in f (present p gone) t d (in_present p gone d (place_drive_low p v gone q e) pr))))
      go (no! t) = t

  place_by_spare : (pointer_at v (place_drive p q) (place_zone p q) ≡ capacity p → ⊥)
      → place_record p v gone q ≡ record_in p false (zone_at v (place_drive p q) (place_zone p q)) (place_block p q - 1)
  place_by_spare n = by_zone ∙ ap (λ (b : Bool). record_in p b (zone_at v d z) o) (not_sealed n)

  -- both say the same
  place_by_both : record_in p false (zone_at v (place_drive p q) (place_zone p q)) (place_block p q - 1) ≡ record_in p true (zone_at v (place_drive p q) (place_zone p q)) (place_block p q - 1)
      → place_record p v gone q ≡ record_in p true (zone_at v (place_drive p q) (place_zone p q)) (place_block p q - 1)
  place_by_both s = by_zone ∙ go (sealed_in p v gone g)
    where
      go : (b : Bool) → record_in p b (zone_at v d z) o ≡ record_in p true (zone_at v d z) o
      go true = refl
      go false = s

  -- else the whole segment says it
  place_by_seal : (b : Bool) → sealed_in p v gone (seg_for p v gone (serial_in p v (place_drive p q) (place_zone p q))) ≡ b
      → place_record p v gone q ≡ record_in p b (zone_at v (place_drive p q) (place_zone p q)) (place_block p q - 1)
  place_by_seal b s =
      by_zone ∙ ap (λ (b : Bool). record_in p b (zone_at v d z) o) (ap (sealed_in p v gone) (held_segment p v gone q (serial_in p v d z) (place_held-one p v gone q e here pr)) ∙ s)

  -- the same of equal numbers
  module _ (d' z' o' : ℕ) (ed : d' ≡ place_drive p q) (ez : z' ≡ place_zone p q) (eo : o' ≡ place_block p q - 1) where
    record_moved : (b : Bool) → record_in p b (zone_at v d' z') o' ≡ record_in p b (zone_at v d z) o
    record_moved b = λ j. record_in p b (zone_at v (ed j) (ez j)) (eo j)

    pub spare_is : (a : Rec) → a ≡ record_in p false (zone_at v d' z') o' → (pointer_at v d' z' ≡ capacity p → ⊥) → a ≡ place_record p v gone q
    spare_is a x n = x ∙ record_moved false ∙ sym (place_by_spare (λ y. n ((λ j. pointer_at v (ed j) (ez j)) ∙ y)))

    pub both_is : (a b : Rec) → a ≡ record_in p false (zone_at v d' z') o' → b ≡ record_in p true (zone_at v d' z') o' → a ≡ b → b ≡ place_record p v gone q
    both_is a b x y w = y ∙ record_moved true ∙ sym (place_by_both (sym (x ∙ record_moved false) ∙ w ∙ y ∙ record_moved true))

    pub seal_is : (t : Bool) (a : Rec) → a ≡ record_in p t (zone_at v d' z') o' → sealed_in p v gone (seg_for p v gone (serial_in p v d' z')) ≡ t → a ≡ place_record p v gone q
    seal_is t a x y = x ∙ record_moved t ∙ sym (place_by_seal t (sym (λ j. sealed_in p v gone (seg_for p v gone (serial_in p v (ed j) (ez j)))) ∙ y))
