-- `seek_away`: a place that no segment holds names zone 0, one at fault its zone; for another `seek_lost` settles what is left. Assumes nothing.
use Rattle.disk_drives.specs.Viewed.{viewed}
use Rattle.spec.specs.Read.{found_faults}
use Rattle.spec.specs.Read.Found.{away}
use Rattle.disk_stored.specs.Places.{place_free}
use Rattle.mem_lookup.specs.Places.{fault_outside}
use Rattle.call_read.specs.Sought.{seeks_bad, seeks_fine}
use Rattle.call_read.proofs.seek_away.Goals as goal

pub returns-in_default : goal.returns-in_default
unfolding found_faults
returns-in_default c =
    let a = c.args in
    let w = c.args.drives.now.whole in
    let v = viewed a.drives.now in
    seeks_bad a.drives.now.p a.drives.now.image.now v a.gone a.compact.now (away a.q.0) a.bytes.now 0
    (fault_outside a.drives.now.p a.drives.now.offline.now a.drives.now.image.now a.drives.now.pointers.now a.gone a.q.0 w.image_long w.pointers_long c.in_default.ensures.place_value)

pub returns-in-Some-held_fault : goal.returns-in-Some-held_fault
unfolding found_faults
returns-in-Some-held_fault c =
    let a = c.args in
    let v = viewed a.drives.now in
    let f = c.in-Some-held_fault in
    seeks_bad a.drives.now.p a.drives.now.image.now v a.gone a.compact.now (away a.q.0) a.bytes.now f.zone
    (f.ensures.faults a.drives.now.offline.now a.drives.now.image.now c.args.drives.now.whole.image_long c.in-Some.ensures.place_value)

pub seek_lost-requires-clause-compact_len : goal.seek_lost-requires-clause-compact_len
seek_lost-requires-clause-compact_len c =
    let a = c.args in
    let f = c.in_default-held_fault.ensures.faults a.drives.now.offline.now a.drives.now.image.now c.args.drives.now.whole.image_long c.in-Some.ensures.place_value in
    (c.requires.compact_len.0, c.requires.compact_len.1, place_free a.drives.now.p (viewed a.drives.now) a.gone a.q.0 f)

pub returns : goal.returns
unfolding found_faults
returns c =
    let a = c.args in
    let v = viewed a.drives.now in
    let lost = c.seek_lost in
    seeks_fine a.drives.now.p a.drives.now.image.now v a.gone a.compact.now (away a.q.0) lost.new.bytes lost.result
    (c.in_default-held_fault.ensures.faults a.drives.now.offline.now a.drives.now.image.now c.args.drives.now.whole.image_long c.in-Some.ensures.place_value) lost.ensures
