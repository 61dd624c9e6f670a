-- `later_checks`: a failed test closes its end, and behind both none is left. Assumes nothing.
use Rattle.call_empty.specs.Order.{empty_missing_fails, empty_address_fails, empty_address_passes}
use Rattle.call_empty.proofs.later_checks.Goals as goal

pub returns-then-missing-ne0 : goal.returns-then-missing-ne0
returns-then-missing-ne0 c =
    let a = c.args in
    empty_missing_fails a.missing a.bound a.address c.if-missing-ne0.true

pub returns-then-bound-address : goal.returns-then-bound-address
returns-then-bound-address c =
    let a = c.args in
    empty_address_fails a.missing a.bound a.address c.if-missing-ne0.false c.if-bound-address.true

pub returns : goal.returns
returns c =
    let a = c.args in
    empty_address_passes a.missing a.bound a.address c.if-missing-ne0.false c.if-bound-address.false
