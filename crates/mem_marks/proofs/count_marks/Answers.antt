-- `count_marks`: no whole byte: one count; else the range is split at 8 * a and 8 * b and the three counts add up (`kept_split`). Assumes nothing.
use Prim.Native.Nat.{ℕ, ◌+◌, ◌*◌, ◌/◌}
use Rattle.mem_marks.specs.Marks.{is_marked, kept_split}
use mathlib.Core.Bool.{Bool}
use native.Mathlib.Omega.{arith}
use Rattle.mem_marks.proofs.count_marks.Goals as goal

pub returns : goal.returns
returns c =
    let s = c.args in
    let count-few2 = c.count_few-head in
    let if1 = c.if-b-a in
    let f : ℕ → Bool = is_marked s.marks.now in
    let a : ℕ = (s.lo + 7) / 8 in
    let b : ℕ = s.hi / 8 in
    let h = if1.false in
    let e = kept_split f s.lo (8 * a) s.hi (omega arith) (omega arith) in
    let g = kept_split f (8 * a) (8 * b) s.hi (omega arith) (omega arith) in (
      omega (arith, c.count_few-tail.ensures.0, c.count_bytes-rest.ensures.0, count-few2.ensures.0, e, g),
      omega (arith, c.count_few-tail.ensures.1, c.count_bytes-rest.ensures.1, count-few2.ensures.1),
    )
