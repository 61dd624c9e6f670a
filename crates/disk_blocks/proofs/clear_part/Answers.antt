-- `clear_part`: after i turns the first i bytes from at are zero and the rest is as it came; one turn appends one zero. Assumes nothing.
use Rattle.std.proofs.Common.{sym, ap, ◌∙◌, ℕ, ◌≡◌, ◌+◌, arith, replicate}
use Rattle.std.proofs.lemmas.List.{length-replicate}
use Rattle.spec.specs.Bytes.{splice}
use Rattle.law_basic.specs.Ranges.{replicate-snoc}
use Rattle.law_basic.specs.Splice.{splice-nil}
use Rattle.law_basic.specs.Turns.{turn}
use Rattle.disk_blocks.proofs.clear_part.Goals as goal

pub loop-i-init : goal.loop-i-init
loop-i-init c = sym (splice-nil c.args.dst.now c.args.at)

pub loop-i-preserved : goal.loop-i-preserved
loop-i-preserved c =
    let l = c.loop-i in
    let a = c.args in
    turn a.dst.now l.dst a.at l.i (replicate l.i 0) l.invariant (length-replicate l.i 0) 0 (replicate (l.i + 1) 0) (omega arith) (replicate-snoc l.i)

pub returns : goal.returns
returns c = let e : c.loop-i.i ≡ c.args.n = omega arith in c.loop-i.invariant ∙ ap (λ (k : ℕ). splice c.args.dst.now c.args.at (replicate k 0)) e
