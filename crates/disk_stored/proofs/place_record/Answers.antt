-- `place_record`: drive and block of the place name the record that `record_at` reads. Assumes nothing.
use mathlib.Core.Path.{◌∙◌}
use Prim.Native.Nat.{◌-◌, ◌<◌}
use native.Mathlib.Omega.{arith}
use Rattle.spec.specs.Drives.{view_of, record_at, zone_on}
use Rattle.disk_stored.proofs.place_record.Goals as goal

pub record_at-requires : goal.record_at-requires
record_at-requires c =
    let a = c.args in
    let pre = c.requires in
    let p = a.p in
    let d = c.place_drive-drive in
    let dp = pre.data_place.0 in
    let hd : d.result < p.N = omega (arith, d.ensures.0, dp.drive_low) in
    let hz : zone_on a.segment d.result < p.Z = rw d.ensures.0 pre.data_place.2 in
    record { p_value = pre.p_value; whole = pre.whole; drive_lt_n = (hd, pre.data_place.1, omega (arith, c.place_block-offset.ensures.0, dp.block_low, dp.block_high), hz) }

pub returns : goal.returns
returns c =
    let a = c.args in
    let p = a.p in
    let ed = c.place_drive-drive.ensures.0 in
    let eb = c.place_block-offset.ensures.0 in
    λ off. c.record_at.ensures off ∙ (λ j. record_at p (view_of p off a.image.now a.pointers.now) a.gone (ed j) a.segment (eb j - 1))
