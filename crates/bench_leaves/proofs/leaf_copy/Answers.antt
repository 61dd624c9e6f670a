-- `leaf_copy`: unequal lengths: the test of the contract is false and dst stays; else it is `copy`. Assumes nothing.
use borrow.Author.Tests.{eq-eqb, ne_eqb}
use Rattle.bench_leaves.proofs.leaf_copy.Goals as goal

pub returns-then-src-dst : goal.returns-then-src-dst
returns-then-src-dst c = simp (ne_eqb _ _ c.if-src-dst.true)

pub returns : goal.returns
returns c =
    let if1 = c.if-src-dst in
    simp (eq-eqb _ _ if1.false) c.copy.ensures
