-- `put_lost`: a block is at most 4096 bytes, so there is room for it. Assumes nothing.
use mathlib.Core.Path.{sym}
use mathlib.Core.List.{List}
use Prim.Native.Nat.{ℕ}
use native.Mathlib.Omega.{arith}
use lib.ListN.{replicate}
use lib.Seq.{length-take-le}
use Rattle.law_basic.specs.Geometry.{ranged}
use Rattle.recover_decode.proofs.put_lost.Goals as goal

pub slice_bounds-block-end : goal.slice_bounds-block-end
slice_bounds-block-end c =
    let args = c.args in
    let pre = c.requires in
    let r = ranged args.p pre.p_value in
    omega (arith, r.block_high)

pub slice_bounds-put_lost_with-end : goal.slice_bounds-put_lost_with-end
slice_bounds-put_lost_with-end c =
    let args = c.args in
    let pre = c.requires in
    let p = args.p in
    let r = ranged p pre.p_value in
    let s : List ℕ = replicate 4096 0 in
    sym (length-take-le p.B s r.block_high)

pub put_lost_with-requires : goal.put_lost_with-requires
put_lost_with-requires c =
    let args = c.args in
    let q = c.requires in
    let p = args.p in
    let r = ranged p q.p_value in
    let h = q.at_len in
    let s : List ℕ = replicate 4096 0 in record {
      p_value = q.p_value;
      whole = q.whole;
      lacks = q.lacks;
      block_len =
          (length-take-le p.B s r.block_high, h.0, h.1, h.2, h.3, h.4, h.5);
      by_index = q.by_index;
      by_index_2 = q.by_index_2;
    }

pub returns : goal.returns
returns c =
    let put-lost-with = c.put_lost_with in
    put-lost-with.ensures
