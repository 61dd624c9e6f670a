-- `walk`: up to z none bears the serial, and z is of its bucket; one that bears it is the nearest, from another the walk goes on, and at Z there is none. Assumes nothing.
use mathlib.Core.Path.{subst, sym}
use Prim.Native.Nat.{ℕ, ◌+◌}
use native.Mathlib.Omega.{arith}
use Rattle.disk_gather.specs.Index.{Along, walk_start, index_walk_hit, index_walk_miss, walk_end}
use Rattle.disk_gather.proofs.walk.Goals as goal

pub loop-z-init : goal.loop-z-init
loop-z-init c =
    let b = c.args.part.now in λ v d i h x n. walk_start b.p v b.mask d c.args.serial.0 i c.args.from n

pub returns-then-part-z : goal.returns-then-part-z
returns-then-part-z c =
    let b = c.args.part.now in
    let l = c.loop-z in record {
      nearest = (λ v d i h x n. index_walk_hit b.p v b.mask d c.args.serial.0 b.heads.now b.links.now x i l.z (l.invariant v d i h x n)
          c.loop-z-test.true c.if-part-z.true);
      upper_bound = omega (arith, c.loop-z-test.true);
    }

pub loop-z-preserved : goal.loop-z-preserved
loop-z-preserved c =
    let b = c.args.part.now in
    let r = c.args.serial.0 in
    let l = c.loop-z in
    λ v d i h x n. subst (λ (k : ℕ). Along b.p v b.mask d r i (l.z + 1 + k)) (sym c.from.ensures)
    (index_walk_miss b.p v b.mask d r b.heads.now b.links.now x i l.z (l.invariant v d i h x n) c.loop-z-test.true c.if-part-z.false)

pub returns : goal.returns
returns c =
    let b = c.args.part.now in
    let l = c.loop-z in record {
      nearest = (λ v d i h x n. walk_end b.p v b.mask d c.args.serial.0 b.heads.now b.links.now x i l.z (l.invariant v d i h x n)
          (omega (arith, c.loop-z-test.false)) h);
      upper_bound = omega arith;
    }
