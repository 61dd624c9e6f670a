-- `offset_on`: base and the number in the index, less 1; a number of 16 bits does not overflow there, and `entered_chunk` makes it the offset. Assumes nothing.
use mathlib.Core.Path.{refl}
use Prim.Native.Nat.{◌+◌, ◌*◌}
use native.Mathlib.Omega.{arith}
use Rattle.recover_groups.specs.Chunks.{entered_chunk}
use Rattle.recover_groups.proofs.offset_on.Goals as goal

pub overflow_add-result : goal.overflow_add-result
overflow_add-result c =
    let args = c.args in
    omega (arith, c.requires.3, c.shared_slice_known-1.given (256 * args.drive + args.k))

pub returns : goal.returns
returns c =
    let args = c.args in
    let pre = c.requires in record { value = refl; value_2 = λ p g x hd hk. (entered_chunk p g args.w.base args.at.now x args.drive args.k hd hk pre.4).1 }
