-- `scarce_checks`: `left_fails`, `close_numbers_fail`, `table_fails` close the refusals, `table_passes` the end; what is left the look tells. Assumes nothing.
use Rattle.disk_drives.specs.Viewed.{viewed}
use Rattle.call_close.specs.Order.{left_fails, close_numbers_fail, table_fails, table_passes}
use Rattle.spec.specs.Lists.{cons_if, is_nil}
use Rattle.spec.specs.Memory.{state_of}
use Rattle.spec.specs.Reclaim.{victim, idle}
use Rattle.call_reclaim_victim.specs.Outside.{outside_told}
use Rattle.call_reclaim_victim.specs.Waiting.{number_absent, foremost_none, foremost_held}
use mathlib.Core.Bool.{Bool, false, not}
use mathlib.Core.List.{[]}
use mathlib.Core.Path.{◌≡◌, sym, ap, ◌∙◌}
use Rattle.call_close.proofs.scarce_checks.Goals as goal
use Rattle.call_close.proofs.scarce_checks.Goals.{Else-is_some}

pub returns-then-is_some : goal.returns-then-is_some
returns-then-is_some c =
    let look = c.look-seen in
    left_fails _ _ _ _ _ (ap not (foremost_held _ _ look.ensures.first (sym c.is_some.ensures ∙ c.if-is_some.true)))

-- no block of the segment is left
nothing_left : (c : Else-is_some) → let a = c.args in let v = viewed a.drives.now in
    not (is_nil (idle a.drives.now.p v (state_of a.bytes.now) (victim a.drives.now.p v a.addresses.now))) ≡ false
nothing_left c = ap not (foremost_none _ (sym c.look-seen.ensures.first ∙ number_absent c.look-seen.result.first (sym c.is_some.ensures ∙ c.if-is_some.false)))

pub returns-then-not-state_ok : goal.returns-then-not-state_ok
returns-then-not-state_ok c =
    close_numbers_fail _ _ _ _ _ (nothing_left (goal.at.returns-then-not-state_ok c).Else-is_some) (sym c.state_ok.ensures ∙ c.if-not-state_ok.true)

pub is_outside-requires : goal.is_outside-requires
is_outside-requires c =
    let look = c.look-seen in record {
      addresses_len = c.requires.addresses_len.0;
      addresses_value = λ h. outside_told c.args.drives.now.p _ c.args.addresses.now
          look.result.outside (look.ensures.outside h);
    }

pub returns-then-is_outside : goal.returns-then-is_outside
returns-then-is_outside c =
    table_fails _ _ _ _ _ (nothing_left (goal.at.returns-then-is_outside c).Else-is_some) (sym c.state_ok.ensures ∙ c.if-not-state_ok.false)
    (c.is_outside.ensures ∙ ap (λ (x : Bool). cons_if x 0 []) c.if-is_outside.true)

pub returns : goal.returns
returns c =
    table_passes _ _ _ _ _ (nothing_left (goal.at.returns c).Else-is_some) (sym c.state_ok.ensures ∙ c.if-not-state_ok.false)
    (c.is_outside.ensures ∙ ap (λ (x : Bool). cons_if x 0 []) c.if-is_outside.false)
