-- `put_limited`: count 0: none of one store, cut; else the one store is made and count - 1 is left. Assumes nothing.
use native.Mathlib.Omega.{arith}
use Rattle.spec.specs.Drives.{mk_disk}
use Rattle.spec.specs.Drives.Store.{put}
use Rattle.disk_zones.specs.Made.{storing_one-cut, storing_one}
use Rattle.disk_zones.proofs.put_limited.Goals as goal

pub returns-then-count-eq0 : goal.returns-then-count-eq0
returns-then-count-eq0 c =
    let a = c.args in
    let k = mk_disk a.image.now a.pointers.now in
    let s = put a.drive a.zone a.block.now a.spare.now in
    rw c.if-count-eq0.true (storing_one-cut a.p s k)

pub returns : goal.returns
returns c =
    let a = c.args in
    let put' = c.put in
    let if1 = c.if-count-eq0 in
    let k = mk_disk a.image.now a.pointers.now in
    let s = put a.drive a.zone a.block.now a.spare.now in
    storing_one a.p a.count s k (mk_disk put'.new.image put'.new.pointers) (omega (arith, if1.false)) put'.ensures
