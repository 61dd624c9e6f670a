-- `write_footers`: a block is at most 4096 bytes, so a prefix of the array is room for one; `write_with` says the rest. Assumes nothing.
use mathlib.Core.Path.{sym}
use mathlib.Core.List.{List}
use Prim.Native.Nat.{ℕ}
use native.Mathlib.Omega.{arith}
use lib.ListN.{replicate}
use lib.Seq.{length-take-le}
use Rattle.law_basic.specs.Geometry.{ranged}
use Rattle.disk_footers.proofs.write_footers.Goals as goal

pub slice_bounds-block-end : goal.slice_bounds-block-end
slice_bounds-block-end c =
    let r = ranged c.args.p c.requires.p_value in
    omega (arith, r.block_high)

pub slice_bounds-write_with-end : goal.slice_bounds-write_with-end
slice_bounds-write_with-end c =
    let pre = c.requires in
    let p = c.args.p in
    let r = ranged p pre.p_value in
    let h = pre.image_len in
    let s : List ℕ = replicate 4096 0 in
    sym (length-take-le p.B s r.block_high)

pub write_with-requires : goal.write_with-requires
write_with-requires c =
    let args = c.args in
    let pre = c.requires in
    let p = args.p in
    let r = ranged p pre.p_value in
    let h = pre.image_len in
    let s : List ℕ = replicate 4096 0 in record { p_value = pre.p_value; image_len = (h.0, length-take-le p.B s r.block_high, h.1, h.2, h.3, h.4) }

pub returns : goal.returns
returns c = c.write_with.ensures
