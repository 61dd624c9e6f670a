-- `leaf_xor_part`: the two tests are, without overflow, that at + the length of src is above that of dst; else it is `xor_part`. Assumes nothing.
use Prim.Native.Nat.{◌+◌}
use native.Mathlib.Omega.{arith}
use lib.ListN.{length}
use borrow.Author.Tests.{le-leb, lt-leb}
use Rattle.bench_leaves.proofs.leaf_xor_part.Goals as goal

pub returns-then-dst-at : goal.returns-then-dst-at
returns-then-dst-at c =
    let args = c.args in
    simp (lt-leb (args.at + length args.src.now) (length args.dst.now) (omega arith))

pub returns-then-dst-at-2 : goal.returns-then-dst-at-2
returns-then-dst-at-2 c =
    let args = c.args in
    simp (lt-leb (args.at + length args.src.now) (length args.dst.now) (omega arith))

pub returns : goal.returns
returns c =
    let xor-part = c.xor_part in
    let args = c.args in
    simp (le-leb (args.at + length args.src.now) (length args.dst.now) (omega arith)) xor-part.ensures
