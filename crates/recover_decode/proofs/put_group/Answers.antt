-- `put_group`: what is owed are the lost chunks of the stripes from base + k on; the present drives stay, and with them the index. Assumes nothing.
use mathlib.Core.Path.{sym, ◌∙◌}
use mathlib.Core.List.{List, []}
use Prim.Native.Nat.{ℕ, ◌<◌}
use native.Mathlib.Omega.{arith}
use Rattle.spec.specs.Drives.{mk_disk}
use Rattle.law_basic.specs.Geometry.{ranged}
use Rattle.recover_groups.specs.Groups.{group_len, GroupReads}
use Rattle.recover_decode.specs.Group.{stripes_start, stripes_done, stripes_fit, stripes_read, stripes_cut, stripes_turn}
use Rattle.disk_zones.specs.Made.{storing_exit}
use Rattle.recover_decode.proofs.put_group.Goals as goal

pub index_group-requires : goal.index_group-requires
index_group-requires c =
    let q = c.requires in
    let h = q.at_len in record { p_value = q.p_value; whole = q.whole; at_len = (h.0, h.1, h.2, h.3) }

pub group_len-len-requires : goal.group_len-len-requires
group_len-len-requires c =
    let pre = c.requires in record { p_value = pre.p_value; base_lt_s = pre.at_len.2 }

pub loop-k-init : goal.loop-k-init
loop-k-init c =
    let a = c.args in
    let q = c.requires in
    λ off. stripes_start a.p off a.w a.drive a.count (mk_disk a.image.now a.pointers.now) q.whole (q.by_index_3 off)

pub put_if-requires : goal.put_if-requires
put_if-requires c =
    let a = c.args in
    let q = c.requires in
    let loop-test = c.loop-k-test in
    let l = c.loop-k in
    let group-len = c.group_len-len in
    let index-group = c.index_group in
    let h = q.at_len in
    let d = mk_disk a.image.now a.pointers.now in
    let x = mk_disk l.image l.pointers in
    let r = ranged a.p q.p_value in
    let k : l.k < group_len a.p a.w.base = omega (arith, loop-test.true, group-len.ensures.0) in
    let rd : (off : List ℕ) → GroupReads a.p off a.image.now a.pointers.now a.w index-group.new.at =
    λ off. record {
      long = q.whole.pointers_long;
      full_right = q.by_index off;
      indexed = index-group.ensures.by_index_2 off (q.by_index off) (q.by_index_2 off);
    } in record {
      p_value = q.p_value;
      whole = (l.invariant []).moving.going.whole;
      lacks = q.lacks;
      at_len = (index-group.auto.at ∙ h.0, h.1, h.2, k, h.4);
      by_index =
          λ off. stripes_read a.p r off a.w a.drive a.count d q.lacks h.1 l.k l.left x (l.invariant off) k index-group.new.at (rd off);
      by_index_2 = λ off. stripes_fit
          a.p r off a.w a.drive a.count d q.lacks h.1 l.k l.left x (l.invariant off) k;
    }

pub shape_of-image-in_err-left : goal.shape_of-image-in_err-left
shape_of-image-in_err-left c =
    let put_if = c.put_if in
    let loop = c.loop-k in
    let pre = c.requires in
    put_if.auto.image ∙ (loop.invariant []).moving.going.whole.image_long ∙ sym pre.whole.image_long

pub shape_of-pointers-in_err-left : goal.shape_of-pointers-in_err-left
shape_of-pointers-in_err-left c =
    let put_if = c.put_if in
    let loop = c.loop-k in
    let pre = c.requires in
    put_if.auto.pointers ∙ (loop.invariant []).moving.going.whole.pointers_long ∙ sym pre.whole.pointers_long

pub shape_of-at-in_err-left : goal.shape_of-at-in_err-left
shape_of-at-in_err-left c =
    let index-group = c.index_group in
    index-group.auto.at

pub returns-in_err-left : goal.returns-in_err-left
returns-in_err-left c =
    let a = c.args in
    let q = c.requires in
    let l = c.loop-k in
    let put_if = c.put_if in
    let loop-test = c.loop-k-test in
    let group-len = c.group_len-len in
    let k : l.k < group_len a.p a.w.base = omega (arith, loop-test.true, group-len.ensures.0) in
    λ off. storing_exit c.from_residual.result c.from_residual.ensures.0 (stripes_cut a.p (ranged a.p q.p_value) off a.w a.drive a.count (mk_disk a.image.now a.pointers.now) q.lacks q.at_len.1
    l.k l.left (mk_disk l.image l.pointers) (l.invariant off) k
    (mk_disk put_if.new.image put_if.new.pointers) (c.in_err-left.ensures off))

pub loop-k-preserved : goal.loop-k-preserved
loop-k-preserved c =
    let a = c.args in
    let q = c.requires in
    let l = c.loop-k in
    let put_if = c.put_if in
    let loop-test = c.loop-k-test in
    let group-len = c.group_len-len in
    let k : l.k < group_len a.p a.w.base = omega (arith, loop-test.true, group-len.ensures.0) in
    λ off. stripes_turn a.p (ranged a.p q.p_value) off a.w a.drive a.count (mk_disk a.image.now a.pointers.now) q.lacks
    q.at_len.1 l.k l.left (mk_disk l.image l.pointers) (l.invariant off) k
    c.in_ok-left.left (mk_disk put_if.new.image put_if.new.pointers) (c.in_ok-left.ensures off)

pub shape_of-image : goal.shape_of-image
shape_of-image c =
    let pre = c.requires in
    (c.loop-k.invariant []).moving.going.whole.image_long ∙ sym pre.whole.image_long

pub shape_of-pointers : goal.shape_of-pointers
shape_of-pointers c =
    let pre = c.requires in
    (c.loop-k.invariant []).moving.going.whole.pointers_long ∙ sym pre.whole.pointers_long

pub shape_of-at : goal.shape_of-at
shape_of-at c =
    let index-group = c.index_group in
    index-group.auto.at

pub returns : goal.returns
returns c =
    let a = c.args in
    let l = c.loop-k in
    λ off. stripes_done a.p off a.w a.drive a.count (mk_disk a.image.now a.pointers.now) l.k l.left (mk_disk l.image l.pointers)
    (l.invariant off) (omega (arith, c.loop-k-test.false, c.group_len-len.ensures.0))
