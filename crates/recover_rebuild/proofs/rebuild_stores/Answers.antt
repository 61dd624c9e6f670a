-- `rebuild_stores`: the resets are cut or made; then the drive is empty, the others as they were, and the zones' stores are the rest. Assumes nothing.
use Rattle.spec.specs.Drives.{mk_disk}
use Rattle.law_basic.specs.Geometry.{ranged}
use Rattle.recover_rebuild.specs.Drive.{drive_resets, resets-cut, resets_whole, resets_fit, resets_good, drive_resets_empty, resets-made}
use Rattle.disk_zones.specs.Made.{storing_exit}
use Rattle.recover_rebuild.proofs.rebuild_stores.Goals as goal

pub reset_drive-requires : goal.reset_drive-requires
reset_drive-requires c =
    let pre = c.requires in record { p_value = pre.p_value; pointers_len = (pre.whole.0.pointers_long, pre.whole.1, pre.gone_value.1) }

pub returns-in_err-left : goal.returns-in_err-left
unfolding drive_resets
returns-in_err-left c =
    let a = c.args in
    let q = c.requires in
    let reset-drive = c.reset_drive in
    let p = a.p in
    let r = ranged p q.p_value in
    let h = q.gone_value in
    let k₀ = mk_disk a.image.now a.pointers.now in
    let k = mk_disk a.image.now reset-drive.new.pointers in
    let t = c.in_err-left.ensures a.image.now in
    storing_exit c.from_residual.result c.from_residual.ensures.0 (resets-cut p r a.offline.now a.drive a.count h.1 a.kept.now a.serials.now a.rows.now h.2 k₀ q.whole.0 q.all_fit k t)

pub rebuild_zones-requires : goal.rebuild_zones-requires
unfolding drive_resets
rebuild_zones-requires c =
    let a = c.args in
    let q = c.requires in
    let reset-drive = c.reset_drive in
    let p = a.p in
    let r = ranged p q.p_value in
    let h = q.gone_value in
    let k₀ = mk_disk a.image.now a.pointers.now in
    let m = c.in_ok-left.left in
    let k = mk_disk a.image.now reset-drive.new.pointers in
    let t = c.in_ok-left.ensures a.image.now in record {
      p_value = q.p_value;
      whole = resets_whole p r a.offline.now a.drive a.count h.1 a.kept.now a.serials.now a.rows.now h.2 k₀ q.whole.0
          q.all_fit m k t;
      gone_value = (h.0, h.1, h.2);
      zones_empty = drive_resets_empty p r a.offline.now a.drive a.count h.1 a.kept.now a.serials.now a.rows.now h.2
          k₀ q.whole.0 q.all_fit m k t h.3;
      by_index = resets_good p r a.offline.now a.drive a.count h.1 a.kept.now a.serials.now a.rows.now h.2 k₀ q.whole.0
          q.all_fit m k t q.good_recs;
      by_index_2 = resets_fit p r a.offline.now a.drive a.count h.1 a.kept.now a.serials.now a.rows.now h.2 k₀ q.whole.0 q.all_fit m k t;
    }

pub returns : goal.returns
unfolding drive_resets
returns c =
    let a = c.args in
    let q = c.requires in
    let rebuild-zones = c.rebuild_zones in
    let reset-drive = c.reset_drive in
    let p = a.p in
    let r = ranged p q.p_value in
    let h = q.gone_value in
    let k₀ = mk_disk a.image.now a.pointers.now in
    let m = c.in_ok-left.left in
    let k = mk_disk a.image.now reset-drive.new.pointers in
    let t = c.in_ok-left.ensures a.image.now in
    resets-made p r a.offline.now a.drive a.count h.1 a.kept.now a.serials.now a.rows.now h.2 k₀ q.whole.0 q.all_fit m k t
    rebuild-zones.result (mk_disk rebuild-zones.new.image rebuild-zones.new.pointers) (rebuild-zones.ensures a.offline.now)
