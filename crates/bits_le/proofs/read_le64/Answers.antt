-- `read_le64`: the number of the first four bytes, and four times one byte more above it. Assumes nothing.
use Rattle.std.proofs.Common.{arith, ℕ, ◌+◌, ◌*◌, ◌^◌, ◌<◌, ◌≡◌, get_or, ap, ◌∙◌, sym}
use Rattle.spec.specs.Bytes.{le_of, part}
use Rattle.law_basic.specs.Le.{le_of_part-one, le_of_part_four, le_of_part-add}
use Rattle.bits_le.proofs.read_le64.Goals as goal

pub returns : goal.returns
returns c =
    let a = c.args.at in
    let l = c.args.src.now in
    let h = c.requires in
    let more : (k : ℕ) → k < 8 → le_of (part a (k + 1) l) ≡ get_or l (a + k) 0 * 256 ^ k + le_of (part a k l) = λ k q.
    le_of_part-add a k 1 l (omega (arith, h, q)) ∙ ap (λ (x : ℕ). x * 256 ^ k + le_of (part a k l)) (sym (le_of_part-one (a + k) l (omega (arith, h, q)))) in
    omega (arith, c.from_le_bytes.ensures, le_of_part_four a l (omega arith), more 4 (omega arith), more 5 (omega arith), more 6 (omega arith), more 7 (omega arith))
