-- `walk`: up to z none bears the serial, and z is of its bucket; one that bears it is the nearest, from another the walk goes on, and at Z there is none. Assumes nothing.
use Prim.Native.Nat.{ℕ, ◌-◌, ◌≤◌}
use lib.Bits.{bit_and}
use Rattle.spec.specs.Drives.{View}
use Rattle.disk_gather.specs.Index.{Nearest, in_bucket, Along}
use Rattle.disk_gather.specs.Values.{BucketsOf}
use Rattle.disk_gather.proofs.walk.Given as goal

abbrev pub invariant-loop-z : goal.invariant-loop-z
invariant-loop-z l =
    let b = l.part in
    (v : View) (d i : ℕ) → i ≤ b.p.Z → BucketsOf v d b → Nearest (in_bucket b.p v b.mask d (bit_and l.serial.0 b.mask)) b.p.Z i l.fn.from
    → Along b.p v b.mask d l.serial.0 i l.z

abbrev pub decreases-loop-z : goal.decreases-loop-z
decreases-loop-z l = l.part.p.Z - l.z
