-- Missing footers, drive by drive (01, Restart, 4). Assumes nothing.
use Rattle.std.specs.Prelude.{ℕ, ◌+◌, ◌-◌, ◌≤◌, ◌<◌, eqb, get_or, Bool, Result, Ok, ◌&&◌, List, [], ◌++◌, map, ◌≡◌, refl}
use Rattle.spec.specs.Drives.{Zone, no_zone, View, zone_at, pointer_at, Store, Disk, pointer_of, zone_on, footer_stores}
use Rattle.spec.specs.Faults.{footers_stored}
use Rattle.spec.specs.Lists.{up_from, below, flat}
use Rattle.spec.specs.Params.{footers, capacity, drives_of}
use Rattle.spec.specs.Restart.{missing_footers}
use Rattle.spec.specs.Segments.{Segment, segment_of}
use Rattle.spec.specs.declared.Params.{Params}
use Rattle.recover_drop.specs.Going.{owes_cut, owes_done, Going, going_start, going_as, going_turn, going_kept, flat_step, flat_end, flat_start}
use Rattle.law_basic.specs.Geometry.{Ranged}
use Rattle.law_drives.specs.Footers.{footer_chunks, footer_puts}
use Rattle.law_drives.specs.Puts.{put_at, hits-puts}
use Rattle.law_drives.specs.Segs.{zone_by, seg_is}
use Rattle.law_drives.specs.Tests.{cond_false}
use Rattle.law_drives.specs.Zones.{hits}
use Rattle.law_views.specs.Views.{Whole, pointer_view, AllFit, seen}
use Rattle.disk_zones.specs.Made.{too_few, Storing}
use Rattle.disk_zones.specs.declared.TooFew.{TooFew}
use Rattle.std.proofs.Common.{ne_eqb, sym, ap₂, ◌∙◌, subst, arith}
use Rattle.std.proofs.Math.Path.{ap}
use Rattle.spec.specs.declared.Seg.{Seg}
use Rattle.law_basic.specs.Segs.{ZonesLow, low_here}

-- 01, Restart, 4: the footers that drive d lacks
unfoldable pub missing_on : Params → Segment → ℕ → List Store
missing_on p g d = footer_stores p d (zone_on g.seg d) (get_or g.zones_by_holds d no_zone) (footers_stored p (get_or g.zones_by_holds d no_zone))
    (footers p - footers_stored p (get_or g.zones_by_holds d no_zone))

pub missing_are : (p : Params) (g : Segment) → missing_footers p g ≡ flat (missing_on p g) (below p.N)
unfolding missing_footers missing_on drives_of
missing_are p g = refl

-- those of a segment as a view shows it
pub missing_feet_on : (p : Params) (v : View) (gone : ℕ) (g : Seg) (d : ℕ) (q : Zone) → d < p.N → q ≡ zone_at v d (zone_on g d)
    → footer_stores p d (zone_on g d) q (footers_stored p q) (footers p - footers_stored p q) ≡ missing_on p (segment_of p v gone g) d
unfolding missing_on
missing_feet_on p v gone g d q hd e =
    ap₂ (λ (z : Seg) (x : Zone). footer_stores p d (zone_on z d) x (footers_stored p x) (footers p - footers_stored p x)) (sym (seg_is p v gone g)) (e ∙ sym (zone_by p v gone g d hd))

-- a zone whose data are all stored has room for the footers that it lacks
pub lack_room : (p : Params) → Ranged p → (q : Zone) → 1 + p.S ≤ q.pointer → q.pointer ≤ capacity p → q.pointer + (footers p - footers_stored p q) ≤ capacity p
unfolding footers_stored capacity
lack_room p r q a b = omega arith

-- footers of one drive leave the other drives alone
pub feet_apart : (p : Params) (d z e y : ℕ) (q : Zone) (i n : ℕ) → (d ≡ e → ⊥) → hits e y (footer_stores p d z q i n) ≡ []
feet_apart p d z e y q i n ne =
    ap (hits e y) (footer_puts p d z q i n) ∙ hits-puts e y d z (footer_chunks p q i n)
    ∙ cond_false (eqb d e && eqb z y) (map (put_at d z) (footer_chunks p q i n)) [] (ap (λ (b : Bool). b && eqb z y) (ne_eqb d e ne))

-- the same, by the bytes
pub lack_fits : (p : Params) → Ranged p → (off : List ℕ) (k : Disk) (d z f : ℕ) → d < p.N → z < p.Z → Whole p k → f ≡ footers_stored p (zone_at (seen p off k) d z)
    → 1 + p.S ≤ pointer_of p k.pointers d z → pointer_of p k.pointers d z ≤ capacity p → pointer_of p k.pointers d z + (footers p - f) ≤ capacity p
lack_fits p r off k d z f hd hz w e a b =
    subst (λ (x : ℕ). pointer_of p k.pointers d z + (footers p - x) ≤ capacity p) (sym e)
    (subst (λ (x : ℕ). x + (footers p - footers_stored p (zone_at (seen p off k) d z)) ≤ capacity p) same
    (lack_room p r (zone_at (seen p off k) d z) (subst (λ (x : ℕ). 1 + p.S ≤ x) (sym same) a) (subst (λ (x : ℕ). x ≤ capacity p) (sym same) b)))
  where
    same : (zone_at (seen p off k) d z).pointer ≡ pointer_of p k.pointers d z
    same = as! (pointer_view p off k d z hd hz w)
      where
        as! : pointer_at (seen p off k) d z ≡ pointer_of p k.pointers d z → (zone_at (seen p off k) d z).pointer ≡ pointer_of p k.pointers d z
        as! q = unfold pointer_at in q

-- the footers of a zone, by its numbers of them
pub lack_stores : (p : Params) (n d z : ℕ) (q : Zone) (f g : ℕ) (k : Disk) (m : Result ℕ TooFew) (k' : Disk) → f ≡ footers_stored p q → g ≡ footers p
    → Storing p n (footer_stores p d z q f (g - f)) k m k' → Storing p n (footer_stores p d z q (footers_stored p q) (footers p - footers_stored p q)) k m k'
lack_stores p n d z q f g k m k' a b s =
    subst (λ (x : ℕ). Storing p n (footer_stores p d z q x (footers p - x)) k m k') a (subst (λ (x : ℕ). Storing p n (footer_stores p d z q f (x - f)) k m k') b s)

-- ---- drive by drive: those from drive d on are still to be done, and their zones are as they were

abbrev pub foot_found : Params → List ℕ → Disk → Seg → Segment
foot_found p off k sg = segment_of p (seen p off k) 0 sg

pub record FeetUpto (p : Params) (off : List ℕ) (n : ℕ) (sg : Seg) (k₀ : Disk) (d left : ℕ) (k : Disk) : Type 0 where
  pub up_to : d ≤ p.N
  pub same : (e : ℕ) → d ≤ e → e < p.N → zone_at (seen p off k) e (zone_on sg e) ≡ zone_at (seen p off k₀) e (zone_on sg e)
  pub going : Going p off n (missing_footers p (foot_found p off k₀ sg)) k₀ (flat (missing_on p (foot_found p off k₀ sg)) (up_from d (p.N - d))) left k

module _ (p : Params) (r : Ranged p) (off : List ℕ) (n : ℕ) (sg : Seg) (hz : ZonesLow p 0 sg) (k₀ : Disk) where
  abbrev ss : List Store
  ss = missing_footers p (foot_found p off k₀ sg)

  abbrev each : ℕ → List Store
  each d = missing_on p (foot_found p off k₀ sg) d

  pub feet_start : Whole p k₀ → AllFit p (seen p off k₀) (missing_footers p (foot_found p off k₀ sg)) → FeetUpto p off n sg k₀ 0 n k₀
  feet_start w f = record {
    up_to = omega arith;
    same = λ e h l. refl;
    going = going_as p off n ss k₀ ss (flat each (up_from 0 (p.N - 0))) n k₀ (missing_are p (foot_found p off k₀ sg) ∙ flat_start each p.N) (going_start p off n ss k₀ w f);
  }

  module _ (d left : ℕ) (k : Disk) (g : FeetUpto p off n sg k₀ d left k) where
    -- the pointers of the drives to come
    pub feet_pointer : (e : ℕ) → d ≤ e → e < p.N → Whole p k₀ → pointer_of p k.pointers e (zone_on sg e) ≡ pointer_of p k₀.pointers e (zone_on sg e)
    feet_pointer e h l w = sym (pointer_view p off k e (zone_on sg e) l (low_here p sg e hz l) g.going.whole) ∙ as! ∙ pointer_view p off k₀ e (zone_on sg e) l (low_here p sg e hz l) w
      where
        as! : pointer_at (seen p off k) e (zone_on sg e) ≡ pointer_at (seen p off k₀) e (zone_on sg e)
        as! = unfold pointer_at in ap (λ (q : Zone). q.pointer) (g.same e h l)

    pub feet_done : p.N ≤ d → Storing p n ss k₀ (Ok left) k
    feet_done h = owes_done p n ss k₀ left k (going_as p off n ss k₀ (flat each (up_from d (p.N - d))) [] left k (flat_end each d p.N h) g.going).owes

    module _ (l : d < p.N) (z : ℕ) (ez : z ≡ zone_on sg d) where
      -- its stores, by the bytes
      abbrev due : List Store
      due = footer_stores p d z (zone_at (seen p off k) d z) (footers_stored p (zone_at (seen p off k) d z)) (footers p - footers_stored p (zone_at (seen p off k) d z))

      abbrev rest : List Store
      rest = flat each (up_from (d + 1) (p.N - (d + 1)))

      drive_feet_step : Going p off n ss k₀ (each d ++ rest) left k
      drive_feet_step = going_as p off n ss k₀ (flat each (up_from d (p.N - d))) (each d ++ rest) left k (flat_step each d p.N l) g.going

      this : (m : Result ℕ TooFew) (k' : Disk) → Storing p left due k m k' → Storing p left (each d) k m k'
      this m k' = subst (λ (x : List Store). Storing p left x k m k')
          (ap (λ (y : ℕ). footer_stores p d y (zone_at (seen p off k) d y) (footers_stored p (zone_at (seen p off k) d y)) (footers p - footers_stored p (zone_at (seen p off k) d y))) ez
          ∙ missing_feet_on p (seen p off k₀) 0 sg d (zone_at (seen p off k) d (zone_on sg d)) l (g.same d (omega arith) l))

      pub feet_cut : (k' : Disk) → Storing p left due k too_few k' → Storing p n ss k₀ too_few k'
      feet_cut k' s = owes_cut p n ss k₀ (each d) rest left k k' drive_feet_step.owes (this too_few k' s)

      pub feet_turn : (y : ℕ) (k' : Disk) → Storing p left due k (Ok y) k' → FeetUpto p off n sg k₀ (d + 1) y k'
      feet_turn y k' s = record {
        up_to = omega arith;
        same =
            λ e h j. going_kept p r off n ss k₀ (each d) rest left k y k' drive_feet_step (this (Ok y) k' s) e (zone_on sg e) j (low_here p sg e hz j)
            (apart e (λ q. let bad : ⊥ = omega arith in bad))
            ∙ g.same e (omega arith) j;
        going = going_turn p r off n ss k₀ (each d) rest left k y k' drive_feet_step (this (Ok y) k' s);
      }
        where
          apart : (e : ℕ) → (d ≡ e → ⊥) → hits e (zone_on sg e) (each d) ≡ []
          apart e ne =
              unfold missing_on in feet_apart p d (zone_on (foot_found p off k₀ sg).seg d) e (zone_on sg e) (get_or (foot_found p off k₀ sg).zones_by_holds d no_zone)
              (footers_stored p (get_or (foot_found p off k₀ sg).zones_by_holds d no_zone)) (footers p - footers_stored p (get_or (foot_found p off k₀ sg).zones_by_holds d no_zone)) ne
