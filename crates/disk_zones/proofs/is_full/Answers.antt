-- `is_full`: a missing drive makes the or true; else it is the comparison of pointer and capacity. Assumes nothing.
use mathlib.Core.Path.{sym, ap, ap₂, ◌∙◌}
use mathlib.Core.Bool.{Bool, ◌||◌}
use lib.Dec.{eqb}
use Rattle.spec.specs.Drives.{pointer_of, zone_on}
use Rattle.spec.specs.Params.{capacity}
use Rattle.law_basic.specs.Segs.{low_zone}
use Rattle.disk_zones.proofs.is_full.Goals as goal

pub returns-then-has_drive : goal.returns-then-has_drive
returns-then-has_drive c =
    let a = c.args in
    sym (ap (λ (b : Bool). b || eqb (pointer_of a.p a.pointers.now a.drive (zone_on a.segment a.drive)) (capacity a.p)) (sym c.has_drive.ensures ∙ c.if-has_drive.true))

pub pointer-requires : goal.pointer-requires
pointer-requires c =
    let a = c.args in
    let pre = c.requires in record {
      p_value = pre.p_value;
      pointers_len = (
        pre.pointers_len.0,
        pre.pointers_len.1,
        rw c.zone_on-zone.ensures (low_zone a.p a.gone a.segment a.drive pre.pointers_len.2 pre.pointers_len.1 (sym c.has_drive.ensures
            ∙ c.if-has_drive.false)),
      );
    }

pub returns : goal.returns
returns c =
    let a = c.args in
    let zone_on_holds = c.zone_on-zone in
    let if1 = c.if-has_drive in
    let has-drive = c.has_drive in
    let q = pointer_of a.p a.pointers.now a.drive in
    ap₂ eqb (c.pointer.ensures ∙ ap q zone_on_holds.ensures) c.capacity.ensures.0
    ∙ sym (ap (λ (b : Bool). b || eqb (q (zone_on a.segment a.drive)) (capacity a.p)) (sym has-drive.ensures ∙ if1.false))
