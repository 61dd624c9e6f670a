-- `has_fault`: a bad state names zone 0 (`fault_state`); with a good one a place outside does, else the zones behind decide (`fault_table`). Assumes nothing.
use Rattle.spec.specs.Memory.{state_of}
use Rattle.call_reclaim.specs.Choosing.{fault_state, fault_table}
use Rattle.call_reclaim_victim.specs.Outside.{outside_told}
use mathlib.Core.Path.{sym, ◌∙◌}
use Rattle.call_reclaim.proofs.has_fault.Goals as goal

pub returns-then-not-state_ok : goal.returns-then-not-state_ok
returns-then-not-state_ok c =
    let a = c.args in
    let ok = c.state_ok in
    λ v tb zs e. fault_state a.p v (state_of a.bytes.now) tb zs (sym ok.ensures ∙ c.if-not-state_ok.true)

pub returns : goal.returns
returns c =
    let a = c.args in
    let ok = c.state_ok in
    λ v tb zs e. fault_table a.p v (state_of a.bytes.now) tb zs (sym ok.ensures ∙ c.if-not-state_ok.false) a.outside (outside_told a.p v tb a.outside e)
