-- `keep_flags`: zone by zone the array says where one remains (`set_more`), and keeps its length. Assumes nothing.
use mathlib.Core.Path.{◌∙◌}
use mathlib.Core.Bool.{false}
use native.Mathlib.Omega.{arith}
use lib.ListN.{length-set}
use Rattle.spec.specs.Drives.{view_of}
use Rattle.law_drives.specs.Tables.{remains_at}
use Rattle.disk_gather.specs.Found.{set_more}
use Rattle.disk_gather.proofs.keep_flags.Goals as goal

pub loop-z-preserved : goal.loop-z-preserved
loop-z-preserved c =
    let a = c.args in
    let i = a.index.now in
    let p = i.p in
    let l = c.loop-z in
    let s = c.is_kept.result in (
      length-set l.out l.z s ∙ l.invariant.0,
      λ off ps h here x y. set_more l.out l.z s false (remains_at p (view_of p off a.image.now ps) i.gone) (omega (arith, l.invariant.0, c.loop-z-test.true, c.requires.z_in_bounds.1))
          (l.invariant.1 off ps h here x y) (c.is_kept.ensures off ps h here x y),
    )

pub returns : goal.returns
returns c =
    let l = c.loop-z in
    let q = c.requires in
    λ off ps h here x y. (omega (arith, l.invariant.0, q.z_in_bounds.1), λ j i. l.invariant.1 off ps h here x y j (omega (arith, i, c.loop-z-test.false)))
