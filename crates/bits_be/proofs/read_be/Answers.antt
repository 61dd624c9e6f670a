-- `read_be`: n is the number of the i bytes passed, and below 256 ^ i. Assumes nothing.
use Rattle.std.proofs.Common.{ap₂, ◌∙◌, ℕ, ◌+◌, ◌*◌, arith}
use Rattle.law_basic.specs.Be.{be_room, room64, be_of-part-zero, be_of-part-suc}
use Rattle.bits_be.proofs.read_be.Goals as goal

pub loop-i-init : goal.loop-i-init
loop-i-init c = (be_of-part-zero c.args.at c.args.src.now, omega arith)

pub overflow_mul-n : goal.overflow_mul-n
overflow_mul-n c = omega (arith, room64 c.loop-i.n c.loop-i.i 0 c.loop-i.invariant.1 (omega arith) (omega arith))

pub overflow_add-n : goal.overflow_add-n
overflow_add-n c = record { fits = room64 c.loop-i.n c.loop-i.i c.from.result c.loop-i.invariant.1 (omega (arith, c.from.ensures)) (omega arith) }

pub loop-i-preserved : goal.loop-i-preserved
loop-i-preserved c =
    let l = c.loop-i in
    let a = c.args in (
      ap₂ (λ (x y : ℕ). x * 256 + y) l.invariant.0 c.from.ensures ∙ be_of-part-suc a.at l.i a.src.now (omega arith),
      be_room l.n l.i c.from.result l.invariant.1 (omega (arith, c.from.ensures)),
    )
