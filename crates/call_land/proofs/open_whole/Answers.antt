-- `open_whole`: Z where none has the serial; else the segment of the serial, which remains (`serial_found`, `found_zone`). Assumes nothing.
use Prim.Native.Nat.{◌<◌}
use native.Mathlib.Omega.{arith}
use borrow.Author.Tests.{ne_eqb}
use lib.Arith.{lt_of_le-ne}
use mathlib.Core.Bool.{true}
use mathlib.Core.Path.{◌≡◌, ap, ◌∙◌}
use Rattle.spec.specs.declared.Seg.{Seg}
use Rattle.spec.specs.Drives.{View, zone_on}
use Rattle.disk_drives.specs.Viewed.{viewed}
use Rattle.law_basic.specs.Geometry.{ranged}
use Rattle.disk_holders.specs.Borne.{serial_remains}
use Rattle.disk_holders.specs.Opened.{OpenedOn, opened_at}
use Rattle.call_land.specs.Ready.{serial_found, found_zone}
use Rattle.call_land.proofs.open_whole.Goals as goal
use Rattle.call_land.proofs.open_whole.Goals.{After-open_zone-first}

pub open_zone-first-requires : goal.open_zone-first-requires
open_zone-first-requires c = let r = ranged c.args.drives.now.p c.args.drives.now.sound in record { drive_lt_n = omega (arith, r.drives_low) }

module _ (c : After-open_zone-first) where
  abbrev view : View
  view = viewed c.args.drives.now

  -- the zone on drive 0, or Z
  said : OpenedOn c.args.drives.now.p view 0 c.args.opened c.open_zone-first.result
  said = let z = c.open_zone-first.ensures in (z.st_value, z.value, z.upper_bound)

  module _ (some : c.open_zone-first.result ≡ c.args.drives.now.p.Z → ⊥) where
    remains : serial_remains c.args.drives.now.p view 0 c.args.opened ≡ true
    remains =
        let d = c.args.drives.now in serial_found d.p (ranged d.p d.sound) view c.args.opened (λ st e. said.0 st e ∙ ne_eqb c.open_zone-first.result d.p.Z some)

    low : c.open_zone-first.result < c.args.drives.now.p.Z
    low = lt_of_le-ne said.2 some

pub returns-then-first-drives : goal.returns-then-first-drives
returns-then-first-drives c =
    let z = said (goal.at.returns-then-first-drives c).After-open_zone-first in record { st_value = z.0; target_at = (λ st e n. absurd (n c.if-first-drives.true)); zone_le_z = z.2 }

pub open_segment-segment-requires : goal.open_segment-segment-requires
open_segment-segment-requires c =
    let g = (goal.at.open_segment-segment-requires c).After-open_zone-first in
    let r = ranged c.args.drives.now.p c.args.drives.now.sound in
    let q = remains g c.if-first-drives.false in
    let l = low g c.if-first-drives.false in
    record { serial_value = (q, l, found_zone c.args.drives.now.p r (view g) c.args.opened 0 c.open_zone-first.result q (omega (arith, r.drives_low)) (λ st e. (said g).1 st e l)) }

pub zone_on-zone-requires : goal.zone_on-zone-requires
zone_on-zone-requires c = record { p_value = c.args.drives.now.sound; drive_lt_n = c.requires.drive_lt_n }

pub returns : goal.returns
returns c =
    let n = (goal.at.returns c).After-open_zone-first in
    let p = c.args.drives.now.p in
    let r = ranged p c.args.drives.now.sound in
    let q = remains n c.if-first-drives.false in
    let g = c.open_segment-segment in
    let o : OpenedOn p (view n) c.args.drive c.args.opened c.zone_on-zone.result =
    opened_at p r (view n) c.args.drive c.args.opened c.zone_on-zone.result q c.requires.drive_lt_n
    (found_zone p r (view n) c.args.opened c.args.drive c.zone_on-zone.result q c.requires.drive_lt_n
    (λ st e. c.zone_on-zone.ensures ∙ ap (λ (x : Seg). zone_on x c.args.drive) (g.ensures st e))) in record {
      st_value = o.0;
      target_at = λ st e x. record {
        some = o.0 st e ∙ ne_eqb c.zone_on-zone.result p.Z x;
        zone = o.1 st e (lt_of_le-ne o.2 x);
        whole = λ w. g.ensures st e;
      };
      zone_le_z = o.2;
    }
