-- `is_free`: the two tests in their order. Assumes nothing.
use mathlib.Core.Path.{sym, ap, ◌∙◌}
use mathlib.Core.Bool.{Bool, ◌&&◌}
use Prim.Native.Nat.{ℕ}
use borrow.Author.Tests.{not-true, not-false}
use lib.Dec.{eqb}
use Rattle.spec.specs.Drives.{pointer_of}
use Rattle.disk_zones.specs.Empty.{free_by}
use Rattle.disk_zones.proofs.is_free.Goals as goal

pub returns-then-not-is_good : goal.returns-then-not-is_good
unfolding free_by
returns-then-not-is_good c =
    let a = c.args in
    sym (ap (λ (b : Bool). b && eqb (pointer_of a.p a.pointers.now a.drive a.zone) 0) (sym c.is_good.ensures ∙ not-true c.is_good.result c.if-not-is_good.true-raw))

pub returns : goal.returns
unfolding free_by
returns c =
    let a = c.args in
    ap (λ (n : ℕ). eqb n 0) c.pointer.ensures
    ∙ sym (ap (λ (b : Bool). b && eqb (pointer_of a.p a.pointers.now a.drive a.zone) 0) (sym c.is_good.ensures
    ∙ not-false c.is_good.result c.if-not-is_good.false-raw))
