-- `is_flying`: the record's address and stamp are looked for in the stripes in flight, which for a data block is `flying_in` (`flying_is`). Assumes nothing.
use Rattle.spec.specs.Drives.{view_of}
use Rattle.spec.specs.Memory.{state_of}
use Rattle.spec.specs.Params.{place_drive}
use Rattle.disk_records.specs.Record.{rec_val}
use Rattle.law_basic.specs.Segs.{low_here}
use Rattle.call_reclaim_victim.specs.Waiting.{flying_is, data_there}
use mathlib.Core.Path.{◌∙◌}
use Rattle.call_reclaim_victim.proofs.is_flying.Goals as goal

pub place_record-r-requires : goal.place_record-r-requires
place_record-r-requires c =
    let a = c.args in
    let pre = c.requires in
    let d = data_there a.p a.place.0 pre.p_value pre.place_bound.0 pre.place_bound.1 in
    record { p_value = pre.p_value; whole = pre.whole.0; data_place = (d, pre.whole.1, low_here a.p a.segment (place_drive a.p a.place.0) pre.whole.1 d.drive_low) }

pub returns : goal.returns
returns c =
    let a = c.args in
    let record! = c.place_record-r in
    λ off. c.holds.ensures
    ∙ flying_is a.p (view_of a.p off a.image.now a.pointers.now) (state_of a.bytes.now) a.segment a.place.0 (rec_val record!.result)
    c.requires.place_bound.1 (record!.ensures off)
