-- What the checks answer is a refusal, so that the state stays (01, Refusals; Store count). Assumes nothing.
use Rattle.std.specs.Prelude.{List, ◌≡◌}
use Rattle.mem_rows.specs.Rows.{state_after, after-refused}
use Rattle.mem_rows.specs.declared.Change.{Change}
use Rattle.spec.specs.Calls.{Check, first_refusal}
use Rattle.spec.specs.Lists.Opt.{some}
use Rattle.spec.specs.declared.State.{State}
use Rattle.law_calls.specs.Refusals.{refusal_kind}

-- a call that is refused leaves the state
pub refused_state : (cs : List Check) (st : State) (c : Change) → first_refusal cs ≡ some c.answer → state_after st c ≡ st
refused_state cs st c e = after-refused st c (refusal_kind cs c.answer e)
