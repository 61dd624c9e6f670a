-- `is_twice`: where none bears the serial it is not borne twice; else the walk goes on behind the lowest that does (`twice_is`). Assumes nothing.
use mathlib.Core.Path.{sym, subst}
use Prim.Native.Nat.{ℕ, ◌+◌}
use native.Mathlib.Omega.{arith}
use lib.Bits.{bit_and}
use Rattle.disk_gather.specs.Index.{in_bucket, Nearest, once_none, twice_is, next_of_lem}
use Rattle.disk_gather.proofs.is_twice.Goals as goal

pub returns-then-part-z : goal.returns-then-part-z
returns-then-part-z c =
    let b = c.args.part.now in
    λ v d x. sym (once_none b.p v d c.args.serial.0 c.lowest_in-z.result (c.lowest_in-z.ensures.nearest v d x) c.if-part-z.true)

pub returns : goal.returns
returns c =
    let b = c.args.part.now in
    let p = b.p in
    let r = c.args.serial.0 in
    let z = c.lowest_in-z.result in
    λ v d x.
    let n = c.lowest_in-z.ensures.nearest v d x in
    sym (twice_is p v d r z n (omega (arith, c.if-part-z.false)) c.walk.result
    (c.walk.ensures.nearest v d (z + 1) (omega (arith, c.if-part-z.false)) x
    (subst (λ (k : ℕ). Nearest (in_bucket p v b.mask d (bit_and r b.mask)) p.Z (z + 1) (z + 1 + k)) (sym c.from.ensures)
    (next_of_lem p v b.mask d r b.heads.now b.links.now x z (omega (arith, c.if-part-z.false)) n))))
