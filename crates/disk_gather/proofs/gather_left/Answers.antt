-- `gather_left`: zone by zone the rows (`rows_more`) and the flags (`set_more`) are as asked, and keep their lengths. Assumes nothing.
use mathlib.Core.Path.{◌∙◌}
use mathlib.Core.Bool.{false}
use Prim.Native.Nat.{◌*◌, ◌≤◌, ◌<◌}
use native.Mathlib.Omega.{arith}
use lib.ListN.{length, length-set}
use Rattle.spec.specs.Drives.{view_of}
use Rattle.law_basic.specs.Geometry.{ranged}
use Rattle.disk_gather.specs.Flags.{left_at}
use Rattle.disk_gather.specs.Found.{set_more, rows_more}
use Rattle.disk_gather.proofs.gather_left.Goals as goal

pub loop-z-preserved : goal.loop-z-preserved
loop-z-preserved c =
    let a = c.args in
    let i = a.index.now in
    let p = i.p in
    let q = c.requires in
    let l = c.loop-z in
    let g = c.gather_zone in
    let rows = g.new.rows in
    let h = c.loop-z-test.true in
    let few = (ranged p i.sound).drives_high in
    let room : 8 * p.Z ≤ length l.rows = omega (arith, l.invariant.0, q.here.2) in
    let on : l.z < length l.left = omega (arith, l.invariant.1, h, q.here.3) in (
      g.auto.rows ∙ l.invariant.0,
      length-set l.left l.z g.result ∙ l.invariant.1,
      (λ off ps long t s.
          rows_more p (view_of p off a.image.now ps) i.gone l.z l.rows rows few room h (g.ensures.by_index_2 off ps long t (s.1 l.z h)) (l.invariant.2 off ps long t s)),
      (λ off ps long t s.
          set_more l.left l.z g.result false (left_at p (view_of p off a.image.now ps) i.gone) on (l.invariant.3 off ps long t s)
          (g.ensures.by_index off ps long t (s.1 l.z h))),
    )

pub returns : goal.returns
returns c =
    let q = c.requires in
    let l = c.loop-z in record {
      by_index = (λ off ps long t s.
          (omega (arith, l.invariant.0, q.here.2), λ j x y. l.invariant.2 off ps long t s j (omega (arith, x, c.loop-z-test.false)) y));
      by_index_2 =
          (λ off ps long t s. (omega (arith, l.invariant.1, q.here.3), λ j x. l.invariant.3 off ps long t s j (omega (arith, x, c.loop-z-test.false))));
    }
