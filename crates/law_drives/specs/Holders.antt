-- The segment of a place, which alone has its zone (02, item 4). Assumes nothing.
use Rattle.std.specs.Prelude.{◌≡◌, refl, true, false, ◌&&◌, ℕ, ◌<◌, ltb, length}
use Rattle.std.proofs.Common.{sym, inl, arith, eqb-true, ltb-true}
use Rattle.std.proofs.Math.Path.{subst}
use mathlib.Core.List.{List, [], ◌∷◌}
use Rattle.std.proofs.Math.Dec.{eqb}
use Rattle.spec.specs.declared.Params.{Params}
use Rattle.spec.specs.declared.Seg.{Seg}
use Rattle.spec.specs.Drives.{View, is_good, zone_on, no_seg}
use Rattle.spec.specs.Lists.{first_or, is_nil}
use Rattle.spec.specs.Params.{place_zone, place_drive}
use Rattle.spec.specs.Segments.{remaining, holders, is_place, place_segment}
use Rattle.law_basic.specs.Ranges.{and_left, and_right}
use Rattle.law_drives.specs.Members.{In, keep_in, first_in}

-- it is the first that has the zone
pub place_first : (p : Params) (v : View) (gone q : ℕ) → place_segment p v gone q ≡ first_or no_seg (holders p v gone (place_drive p q) (place_zone p q))
unfolding place_segment
place_first p v gone q = refl

-- a list of one
single : {A : Type 0} (n : A) (l : List A) → length l ≡ 1 → l ≡ first_or n l ∷ []
unfolding first_or
single n [] h = absurd (let z : ⊥ = omega arith in z)
single n (a ∷ []) h = refl
single n (a ∷ b ∷ l) h = absurd (let z : ⊥ = omega arith in z)

-- where some segment has the zone, it is one that remains
pub held_remains : (p : Params) (v : View) (gone q : ℕ) → is_nil (holders p v gone (place_drive p q) (place_zone p q)) ≡ false → In (place_segment p v gone q) (remaining p v gone)
unfolding holders
held_remains p v gone q n =
    subst (λ (g : Seg). In g (remaining p v gone)) (sym (place_first p v gone q))
    (keep_in (λ g. eqb (zone_on g (place_drive p q)) (place_zone p q)) (remaining p v gone) (first_or no_seg (holders p v gone (place_drive p q) (place_zone p q)))
    (first_in (holders p v gone (place_drive p q) (place_zone p q)) no_seg n)).0

-- a place: its drive and zone, and its segment
module _ (p : Params) (v : View) (gone q : ℕ) (e : is_place p v gone q ≡ true) where
  abbrev d : ℕ
  d = place_drive p q

  abbrev z : ℕ
  z = place_zone p q

  good_drive : (ltb d p.N && is_good p v.offline d z) ≡ true
  unfolding is_place
  good_drive = and_left (ltb d p.N && is_good p v.offline d z) (eqb (length (holders p v gone d z)) 1) e

  pub place_drive_low : place_drive p q < p.N
  place_drive_low = ltb-true d p.N (and_left (ltb d p.N) (is_good p v.offline d z) good_drive)

  pub place_zone_good : is_good p v.offline (place_drive p q) (place_zone p q) ≡ true
  place_zone_good = and_right (ltb d p.N) (is_good p v.offline d z) good_drive

  pub place_alone : holders p v gone (place_drive p q) (place_zone p q) ≡ place_segment p v gone q ∷ []
  unfolding is_place
  place_alone = subst (λ (g : Seg). holders p v gone d z ≡ g ∷ []) (sym (place_first p v gone q)) (single no_seg (holders p v gone d z)
      (eqb-true (length (holders p v gone d z)) 1 (and_right (ltb d p.N && is_good p v.offline d z) (eqb (length (holders p v gone d z)) 1) e)))

  it_holds : In (place_segment p v gone q) (remaining p v gone) × (eqb (zone_on (place_segment p v gone q) d) z ≡ true)
  it_holds = go place_alone
    where
      go : holders p v gone d z ≡ place_segment p v gone q ∷ [] → In (place_segment p v gone q) (remaining p v gone) × (eqb (zone_on (place_segment p v gone q) d) z ≡ true)
      go a = unfold holders in keep_in (λ g. eqb (zone_on g d) z) (remaining p v gone) (place_segment p v gone q) (subst (λ (l : List Seg). In (place_segment p v gone q) l) (sym a) (inl refl))

  pub place_remains : In (place_segment p v gone q) (remaining p v gone)
  place_remains = it_holds.0

  pub place_zone_on : zone_on (place_segment p v gone q) (place_drive p q) ≡ place_zone p q
  place_zone_on = eqb-true (zone_on (place_segment p v gone q) d) z it_holds.1
