-- `add_part`: a part that is left out adds nothing; else its bytes, which lie in the buffer, are exclusive-ored in. Assumes nothing.
use mathlib.Core.Path.{◌≡◌, sym, ap, ◌∙◌}
use mathlib.Core.Bool.{Bool, false, cond}
use lib.ListN.{length, get_or}
use Rattle.spec.specs.Bytes.{part, xors}
use Rattle.spec.specs.Lists.{is_in}
use Rattle.law_basic.specs.Splice.{part_lent}
use Rattle.disk_code.proofs.add_part.Goals as goal
use Rattle.disk_code.proofs.add_part.Goals.{After-shared_slice_known-3-1}

pub returns-then-has_drive : goal.returns-then-has_drive
returns-then-has_drive c =
    let a = c.args in
    let x = xors a.block.now (part (get_or a.at.now a.k 0) (length a.block.now) a.src.now) in
    sym (ap (λ (y : Bool). cond y a.block.now x) (sym c.has_drive.ensures ∙ c.if-has_drive.true))

here : (c : After-shared_slice_known-3-1) → is_in c.args.out c.args.k ≡ false
here c = sym c.has_drive.ensures ∙ c.if-has_drive.false

pub returns : goal.returns
returns c =
    let a = c.args in
    let n = length a.block.now in
    let at = get_or a.at.now a.k 0 in
    c.xor_into.ensures
    ∙ ap (xors a.block.now) (part_lent at n a.src.now)
    ∙ sym (ap (λ (y : Bool). cond y a.block.now (xors a.block.now (part at n a.src.now))) (here (goal.at.returns c).After-shared_slice_known-3-1))
