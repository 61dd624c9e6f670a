-- `rec_of`: a missing drive takes the first branch of `rec_of`, the exclusive or of the others; a present one has the chunk and its record. Assumes nothing.
use mathlib.Core.Path.{sym, ◌∙◌}
use Prim.Native.Nat.{◌+◌}
use Rattle.law_code.specs.Chunks.{rec_here, rec_lost}
use Rattle.recover_groups.specs.Groups.{segment_in}
use Rattle.law_basic.specs.Segs.{low_zone}
use Rattle.recover_groups.proofs.rec_of.Goals as goal

pub lost_rec-requires : goal.lost_rec-requires
lost_rec-requires c =
    let pre = c.requires in record { p_value = pre.p_value; image_len = pre.image_len; all_entered = pre.all_entered }

pub returns-then-has_drive : goal.returns-then-has_drive
returns-then-has_drive c =
    let a = c.args in
    let p = a.p in
    let w = a.w in
    λ off ps x. c.lost_rec.ensures off ps x
    ∙ sym (rec_lost p w.gone (segment_in p off a.image.now ps w) (w.base + a.k) a.drive (sym c.has_drive.ensures ∙ c.if-has_drive.true))

pub stored_rec-requires : goal.stored_rec-requires
stored_rec-requires c =
    let args = c.args in
    let pre = c.requires in
    let q = pre.image_len in
    let here = sym c.has_drive.ensures ∙ c.if-has_drive.false in
    record { p_value = pre.p_value; image_len = (q.0, q.1, low_zone args.p args.w.gone args.w.seg args.drive q.2 q.4 here, q.3, q.4, q.5); entered = pre.all_entered args.drive q.4 here }

pub returns : goal.returns
returns c =
    let a = c.args in
    let p = a.p in
    let w = a.w in
    λ off ps x. c.stored_rec.ensures off ps x
    ∙ sym (rec_here p w.gone (segment_in p off a.image.now ps w) (w.base + a.k) a.drive (sym c.has_drive.ensures ∙ c.if-has_drive.false))
