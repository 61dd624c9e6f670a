-- `seek_here`: a place at fault names its zone, at another the record has the stamp. Assumes nothing.
use Rattle.disk_drives.specs.Viewed.{viewed}
use Rattle.spec.specs.Read.{found_faults}
use Rattle.spec.specs.Read.Found.{here}
use Rattle.disk_stored.specs.Places.{place_free}
use Rattle.mem_lookup.specs.Places.{fault_free_place}
use Rattle.call_read.specs.Sought.{seeks_bad, seeks_here}
use Rattle.call_read.proofs.seek_here.Goals as goal

pub returns-in-Some : goal.returns-in-Some
unfolding found_faults
returns-in-Some c =
    let a = c.args in
    let v = viewed a.drives.now in
    λ cs bs. seeks_bad a.drives.now.p a.drives.now.image.now v a.gone cs (here a.q.0) bs c.in-Some.zone c.in-Some.ensures.faults

pub held_record-r-requires : goal.held_record-r-requires
held_record-r-requires c =
    let a = c.args in
    let v = viewed a.drives.now in
    let f = c.in_default.ensures.faults in
    record { here = c.requires.here; data_place = (place_free a.drives.now.p v a.gone a.q.0 f, c.requires.q_value, fault_free_place a.drives.now.p v a.gone a.q.0 f) }

pub returns : goal.returns
returns c =
    let a = c.args in
    let v = viewed a.drives.now in
    λ cs bs. seeks_here a.drives.now.p a.drives.now.image.now v a.gone cs bs a.q c.held_record-r.result c.in_default.ensures.faults c.held_record-r.ensures
