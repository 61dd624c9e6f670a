-- `leaf_xor_within`: the four tests are, without overflow, that b + n is above the length or a + n above b; else the parts lie apart. Assumes nothing.
use mathlib.Core.Logic.{inl}
use Prim.Native.Nat.{◌+◌}
use native.Mathlib.Omega.{arith}
use lib.ListN.{length}
use borrow.Author.Tests.{le-leb, lt-leb}
use Rattle.bench_leaves.proofs.leaf_xor_within.Goals as goal

pub returns-then-buf-b : goal.returns-then-buf-b
returns-then-buf-b c =
    let args = c.args in
    simp (lt-leb (args.b + args.n) (length args.buf.now) (omega arith))

pub returns-then-buf-b-2 : goal.returns-then-buf-b-2
returns-then-buf-b-2 c =
    let args = c.args in
    simp (lt-leb (args.b + args.n) (length args.buf.now) (omega arith))

pub returns-then-b-a : goal.returns-then-b-a
returns-then-b-a c =
    let args = c.args in
    simp (le-leb (args.b + args.n) (length args.buf.now) (omega arith), lt-leb (args.a + args.n) args.b (omega arith))

pub returns-then-b-a-2 : goal.returns-then-b-a-2
returns-then-b-a-2 c =
    let args = c.args in
    simp (le-leb (args.b + args.n) (length args.buf.now) (omega arith), lt-leb (args.a + args.n) args.b (omega arith))

pub xor_within-requires : goal.xor_within-requires
xor_within-requires c = (omega arith, omega arith, inl (omega arith))

pub returns : goal.returns
returns c =
    let xor-within = c.xor_within in
    let args = c.args in
    simp (le-leb (args.b + args.n) (length args.buf.now) (omega arith), le-leb (args.a + args.n) args.b (omega arith)) xor-within.ensures
