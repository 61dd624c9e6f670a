-- `index_of`: the first d drives have their index, and from d on nothing is entered. Assumes nothing.
use Rattle.disk_drives.specs.Viewed.{viewed}
use mathlib.Core.Path.{◌≡◌, subst, ◌∙◌}
use Prim.Native.Nat.{ℕ}
use native.Mathlib.Omega.{arith}
use Rattle.disk_gather.specs.Index.{ChainedTo}
use Rattle.disk_gather.proofs.index_of.Goals as goal

pub loop-d-preserved : goal.loop-d-preserved
loop-d-preserved c =
    let l = c.loop-d in
    let i = c.chain_present in (
      omega (arith, c.loop-d-test.true),
      i.auto.heads ∙ l.invariant.1,
      i.auto.links ∙ l.invariant.2,
      i.ensures.blank_2,
      i.ensures.chained_to,
    )

pub returns-clause-index : goal.returns-clause-index
returns-clause-index c =
    let a = c.args in
    let l = c.loop-d in
    let e : l.d ≡ a.drives.now.p.N = omega (arith, l.invariant.0, c.loop-d-test.false) in
    subst (λ (n : ℕ). ChainedTo a.drives.now.p (viewed a.drives.now) a.gone a.mask n l.heads l.links) e l.invariant.4
