-- `xor_within`: the parts lie apart, so that the buffer is cut before the later one: one is read in one half, the other changed in the other. Assumes nothing.
use Rattle.std.proofs.Common.{◌≡◌, arith, List, length, ℕ, ◌++◌, ap, ◌∙◌}
use Rattle.spec.specs.Bytes.{part, splice, xors}
use Rattle.law_basic.specs.Splice.{length_part}
use Rattle.law_basic.specs.Turns.{length-xors-part}
use Rattle.disk_blocks.specs.Split.{left_written, right_written, left_taken, right_taken, left_xored, right_xored}
use Rattle.disk_blocks.proofs.xor_within.Goals as goal

pub returns-then-a-b : goal.returns-then-a-b
returns-then-a-b c =
    let a = c.args in
    let d = a.buf.now in
    let s = c.split_at_mut-low in
    let low = s.result.0.now in
    let high = s.result.1.now in
    let e = s.ensures.value in
    let q = part a.b a.n d in
    let long : length q ≡ a.n = length_part a.b a.n d (omega arith) in
    let p = right_taken d low high e a.b a.n s.ensures.front_len in
    ap (λ (x : List ℕ). x ++ high) (c.xor_part.ensures ∙ ap (splice low a.a) (left_xored d low high e a.a a.n _ q p long (omega (arith, s.ensures.front_len))))
    ∙ left_written d low high e a.a (xors (part a.a a.n d) q) (omega (arith, length-xors-part d q a.a a.n (omega arith), s.ensures.front_len))

pub returns-else-a-b : goal.returns-else-a-b
returns-else-a-b c =
    let a = c.args in
    let d = a.buf.now in
    let s = c.split_at_mut-low-else-a-b in
    let low = s.result.0.now in
    let high = s.result.1.now in
    let e = s.ensures.value in
    let q = part a.b a.n d in
    let p = left_taken d low high e a.b a.n (omega (arith, s.ensures.front_len)) in
    ap (λ (x : List ℕ). low ++ x) (c.xor_part-else-a-b.ensures ∙ ap (splice high 0) (right_xored d low high e a.a a.n _ q p (length_part a.b a.n d (omega arith)) s.ensures.front_len))
    ∙ right_written d low high e a.a (xors (part a.a a.n d) q) s.ensures.front_len
