-- `kept`: `no_row` is the eighth of zeros; the answer and the front are copied, the slot is 8. Assumes nothing.
use Rattle.mem_rows.proofs.kept.Goals as goal

pub returns : goal.returns
returns c =
    let a = c.args in
    λ j. record { answer = a.answer; stamp = a.f.stamp; serial = a.f.serial; opened = a.f.opened; next = a.f.next; slot = 8; row = c.no_row-row.ensures j }
