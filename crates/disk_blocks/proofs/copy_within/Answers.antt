-- `copy_within`: the parts lie apart, so that the buffer is cut before the later one: one is read in one half, the other written in the other. Assumes nothing.
use Rattle.std.proofs.Common.{arith, List, ℕ, ◌++◌, ap, ◌∙◌}
use Rattle.spec.specs.Bytes.{part, splice}
use Rattle.law_basic.specs.Splice.{length_part}
use Rattle.disk_blocks.specs.Split.{left_written, right_written, left_taken, right_taken}
use Rattle.disk_blocks.proofs.copy_within.Goals as goal

pub returns-then-a-b : goal.returns-then-a-b
returns-then-a-b c =
    let a = c.args in
    let d = a.buf.now in
    let s = c.split_at_mut-low in
    let low = s.result.0.now in
    let high = s.result.1.now in
    let q = part a.b a.n d in
    ap (λ (x : List ℕ). x ++ high) (c.copy_part.ensures ∙ ap (splice low a.a) (right_taken d low high s.ensures.value a.b a.n s.ensures.front_len))
    ∙ left_written d low high s.ensures.value a.a q (omega (arith, length_part a.b a.n d (omega arith), s.ensures.front_len))

pub returns-else-a-b : goal.returns-else-a-b
returns-else-a-b c =
    let a = c.args in
    let d = a.buf.now in
    let s = c.split_at_mut-low-else-a-b in
    let low = s.result.0.now in
    let high = s.result.1.now in
    ap (λ (x : List ℕ). low ++ x) (c.copy_part-else-a-b.ensures ∙ ap (splice high 0) (left_taken d low high s.ensures.value a.b a.n (omega (arith, s.ensures.front_len))))
    ∙ right_written d low high s.ensures.value a.a (part a.b a.n d) s.ensures.front_len
