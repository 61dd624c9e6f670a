-- `put_lost_with`: the stripe counts, so every present drive has its chunk; block and record are the lost ones, and make the one store. Assumes nothing.
-- every present drive has the chunk
use Rattle.disk_records.specs.Record.{rec_val}
use mathlib.Core.Path.{sym, ◌∙◌, subst}
use mathlib.Core.List.{List, [], ◌∷◌}
use Prim.Native.Nat.{ℕ, ◌+◌, ◌<◌}
use Rattle.spec.specs.Drives.{view_of, Store, mk_disk, pointer_of}
use Rattle.spec.specs.Drives.Store.{put}
use Rattle.spec.specs.Layout.{record_bytes}
use Rattle.spec.specs.Params.{capacity}
use Rattle.law_basic.specs.Geometry.{spare_len_lem}
use Rattle.disk_zones.specs.Made.{Storing}
use Rattle.recover_groups.specs.Chunks.{counts-entered}
use Rattle.recover_groups.specs.Groups.{AllEntered, segment_in}
use Rattle.recover_decode.specs.Group.{lost_store_is}
use Rattle.recover_decode.proofs.put_lost_with.Goals as goal
use Rattle.recover_decode.proofs.put_lost_with.Goals.{After-lost_block-arg-1}

entered :
    (c : After-lost_block-arg-1)
    → AllEntered c.args.p c.args.w.gone
    c.args.w.base c.args.at.now
    c.args.k
entered c =
    let a = c.args in
    let pre = c.requires in
    counts-entered a.p a.w.gone (segment_in a.p [] a.image.now a.pointers.now a.w) a.w.base a.at.now a.k (pre.by_index []).indexed pre.block_len.4 (pre.by_index_2 [])

pub lost_block-requires : goal.lost_block-requires
lost_block-requires c =
    let q = c.requires in
    let h = q.block_len in record {
      p_value = q.p_value;
      image_len = (q.whole.image_long, h.1, h.2, h.3, q.lacks.drive_low, h.4, h.0);
      all_entered = entered
          (goal.at.lost_block-requires c).After-lost_block-arg-1;
    }

pub lost_rec-q-requires : goal.lost_rec-q-requires
lost_rec-q-requires c =
    let q = c.requires in
    let h = q.block_len in record {
      p_value = q.p_value;
      image_len = (q.whole.image_long, h.1, h.2, h.3, q.lacks.drive_low, h.4);
      all_entered = entered
          (goal.at.lost_rec-q-requires c).After-lost_block-arg-1;
    }

pub write_record-requires : goal.write_record-requires
write_record-requires c = sym spare_len_lem

pub zone_on-zone-requires : goal.zone_on-zone-requires
zone_on-zone-requires c =
    let q = c.requires in record { p_value = q.p_value; drive_lt_n = q.lacks.drive_low }

pub put_limited-requires : goal.put_limited-requires
put_limited-requires c =
    let a = c.args in
    let q = c.requires in
    let zone_on_holds = c.zone_on-zone in
    let write-record = c.write_record in
    let lost-block = c.lost_block in
    let h = q.block_len in
    let z = zone_on_holds.ensures in record {
      p_value = q.p_value;
      whole = q.whole;
      drive_lt_n = (
        q.lacks.drive_low,
        subst (λ (x : ℕ). x < a.p.Z) (sym z) h.6,
        subst (λ (x : ℕ). pointer_of a.p a.pointers.now a.drive x < capacity a.p) (sym z) h.5,
      );
      block_len = (lost-block.auto.block ∙ h.0, write-record.auto.dst ∙ sym spare_len_lem);
    }

pub returns : goal.returns
returns c =
    let put-limited = c.put_limited in
    let zone_on_holds = c.zone_on-zone in
    let write-record = c.write_record in
    let lost-rec = c.lost_rec-q in
    let lost-block = c.lost_block in
    let a =
    c.args in
    let q =
    c.requires in
    let k = mk_disk a.image.now a.pointers.now in
    let k' = mk_disk put-limited.new.image put-limited.new.pointers in
    let m = put-limited.result in
    λ off.
    let rd = q.by_index off in
    let b = lost-block.ensures off a.pointers.now rd in
    let x = lost-rec.ensures off a.pointers.now rd in
    let e =
    lost_store_is a.p (view_of a.p off a.image.now a.pointers.now) a.w.gone a.w.seg a.drive (a.w.base + a.k)
    lost-block.new.block (rec_val lost-rec.result) q.lacks.lost b x in
    subst (λ (s : Store). Storing a.p a.count (s ∷ []) k m k') e
    (subst (λ (z : ℕ). Storing a.p a.count (put a.drive z lost-block.new.block (record_bytes (rec_val lost-rec.result)) ∷ []) k m k') zone_on_holds.ensures
    (subst (λ (y : List ℕ). Storing a.p a.count (put a.drive zone_on_holds.result lost-block.new.block y ∷ []) k m k') write-record.ensures put-limited.ensures))
