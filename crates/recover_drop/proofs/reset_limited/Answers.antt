-- `reset_limited`: count 0: none of one store, cut; else the one reset is made and count - 1 is left. Assumes nothing.
use native.Mathlib.Omega.{arith}
use Rattle.spec.specs.Drives.{mk_disk}
use Rattle.spec.specs.Drives.Store.{reset}
use Rattle.disk_zones.specs.Made.{storing_one-cut, storing_one, reset_disk}
use Rattle.recover_drop.proofs.reset_limited.Goals as goal

pub returns-then-count-eq0 : goal.returns-then-count-eq0
returns-then-count-eq0 c =
    let a = c.args in
    λ im. rw c.if-count-eq0.true (storing_one-cut a.p (reset a.drive a.zone) (mk_disk im a.pointers.now))

pub returns : goal.returns
returns c =
    let a = c.args in
    let m = c.reset in
    λ im. storing_one a.p a.count (reset a.drive a.zone) (mk_disk im a.pointers.now) (mk_disk im m.new.pointers) (omega (arith, c.if-count-eq0.false))
    (reset_disk a.p a.drive a.zone im a.pointers.now m.new.pointers m.ensures)
