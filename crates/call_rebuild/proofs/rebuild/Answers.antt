-- `rebuild`: a check that fails refuses the whole call (`rebuild_front_refused`); with none `examined` gives the rest. Assumes nothing.
use mathlib.Core.Path.{sym, ap, ◌∙◌}
use Rattle.spec.specs.Lists.Opt.{some}
use Rattle.mem_calls.specs.Left.{checked}
use Rattle.call_rebuild.specs.Ends.{ends_rebuild_refused}
use Rattle.call_rebuild.specs.Order.{rebuild_front_refused}
use Rattle.call_rebuild.proofs.rebuild.Goals as goal

pub returns-in-Err : goal.returns-in-Err
returns-in-Err c =
    ends_rebuild_refused _ _ _ _ _ c.args.count c.from.result (rebuild_front_refused _ _ _ _ _ c.from.result (sym c.checks.ensures ∙ ap checked c.in-Err.is ∙ ap some (sym c.from.ensures)))

pub examined-requires : goal.examined-requires
examined-requires c = sym c.in_default.ensures
