-- `restore`: with no fault the rows are apart, the records good and the stores fit; then `ends_rebuild_cut` or `ends_rebuild_done`. Assumes nothing.
-- image and pointers, and the rest
use mathlib.Core.Path.{sym, ◌∙◌}
use native.Mathlib.Omega.{arith}
use Rattle.spec.specs.Drives.{Disk, mk_disk}
use Rattle.call_rebuild.specs.Order.{rebuild_ready}
use Rattle.spec.specs.Memory.{Memory, mk_memory}
use Rattle.law_drives.specs.Lengths.{whole_of, lengths_of}
use Rattle.law_views.specs.Views.{seen}
use Rattle.recover_rebuild.specs.Drive.{drive_stores}
use Rattle.call_rebuild.specs.Ends.{ends_rebuild_cut, ends_rebuild_done, rows-ready, zones_ready, recs_ready, stores_fit, stores_are, rebuild_faultless}
use Rattle.law_drives.specs.Masks.{only-named}
use Rattle.call_rebuild.proofs.restore.Goals as goal
use Rattle.call_rebuild.proofs.restore.Goals.{Start}

abbrev disk_in : Start → Disk
disk_in s = mk_disk s.args.image.now s.args.pointers.now

abbrev memory_in : Start → Memory
memory_in s = mk_memory s.args.state s.args.addresses.now s.args.compact.now s.args.inflight.now

pub rebuild_stores-made-requires : goal.rebuild_stores-made-requires
rebuild_stores-made-requires c =
    let slice-known = c.slice_known-1 in
    let a = c.args in
    let q = c.requires in
    let p = a.p in
    let d = a.drive in
    let off = a.offline.now in
    let k = disk_in (goal.at.rebuild_stores-made-requires c).Start in
    let m = memory_in (goal.at.rebuild_stores-made-requires c).Start in
    let rd = rebuild_ready p off k m d q.drive_value in record {
      p_value = rd.in_range_holds;
      whole = (whole_of p off k m rd.lent, (lengths_of p off k m rd.lent).offline_ok);
      gone_value = (
        c.only_drive-gone.ensures ∙ only-named d,
        rd.drive_low,
        rows-ready p off k m d rd q.drive_value_2 a.kept.now a.serials.now a.rows.now q.ends_gathered,
        zones_ready p off k m d rd q.drive_value_2 a.kept.now a.serials.now a.rows.now q.ends_gathered,
      );
      good_recs = recs_ready p off k m d rd q.drive_value_2 a.kept.now a.serials.now a.rows.now q.ends_gathered;
      all_fit = stores_fit p off k m d rd q.drive_value_2 a.kept.now a.serials.now a.rows.now q.ends_gathered (λ i. omega (arith, slice-known.given i));
    }

pub returns-then-is_err : goal.returns-then-is_err
returns-then-is_err c =
    let cut = c.cut in
    let z = c.rebuild_stores-made in
    let a = c.args in
    let q = c.requires in
    let p = a.p in
    let d = a.drive in
    let off = a.offline.now in
    let k = disk_in (goal.at.returns-then-is_err c).Start in
    let m = memory_in (goal.at.returns-then-is_err c).Start in
    let rd = rebuild_ready p off k m d q.drive_value in
    ends_rebuild_cut p off k m d a.count (rebuild_faultless p off k m d q.drive_value q.drive_value_2) z.result (mk_disk z.new.image z.new.pointers)
    (drive_stores p off d (seen p off k) a.kept.now a.serials.now a.rows.now)
    (stores_are p off k m d rd q.drive_value_2 a.kept.now a.serials.now a.rows.now q.ends_gathered) z.ensures (sym c.is_err.ensures.value ∙ c.if-is_err.true) rd.lent
    cut.result cut.new.addresses cut.new.compact cut.ensures.answer_value.0 cut.ensures.answer_value.1 cut.ensures.addresses_after.0 cut.ensures.addresses_after.1

pub returns : goal.returns
returns c =
    let z = c.rebuild_stores-made in
    let a = c.args in
    let q = c.requires in
    let p = a.p in
    let d = a.drive in
    let off = a.offline.now in
    let k = disk_in (goal.at.returns c).Start in
    let m = memory_in (goal.at.returns c).Start in
    let rd = rebuild_ready p off k m d q.drive_value in
    ends_rebuild_done p off k m d a.count (rebuild_faultless p off k m d q.drive_value q.drive_value_2) z.result (mk_disk z.new.image z.new.pointers)
    (drive_stores p off d (seen p off k) a.kept.now a.serials.now a.rows.now)
    (stores_are p off k m d rd q.drive_value_2 a.kept.now a.serials.now a.rows.now q.ends_gathered) z.ensures (sym c.is_err.ensures.value ∙ c.if-is_err.false)
