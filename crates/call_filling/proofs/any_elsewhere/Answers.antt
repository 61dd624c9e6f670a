-- `any_elsewhere`: some eighth from i on is in flight elsewhere just when any stripe in flight is; a found one ends it, one passed drops off. Assumes nothing.
use Rattle.mem_rows.specs.Rows.{behind}
use Rattle.spec.specs.Lists.{below}
use Rattle.spec.specs.Memory.{slot_count, slots, is_free, in_flight}
use Rattle.spec.specs.Write.{other_group}
use Rattle.law_scans.specs.Scans.{any_found, any_passed, any-ended, any-start, any-keep}
use mathlib.Core.Bool.{not, ◌&&◌}
use mathlib.Core.Path.{sym, ◌∙◌}
use native.Mathlib.Omega.{arith}
use Rattle.call_filling.proofs.any_elsewhere.Goals as goal

pub loop-i-init : goal.loop-i-init
unfolding in_flight slots slot_count
loop-i-init c =
    let a = c.args in
    any-start (λ k. not (is_free (behind a.f) k) && other_group a.p (behind a.f) k) 8
    ∙ sym (any-keep (λ k. not (is_free (behind a.f) k)) (other_group a.p (behind a.f)) (below 8))

pub is_elsewhere-requires : goal.is_elsewhere-requires
is_elsewhere-requires c = record { p_value = c.requires; i_bound = omega arith }

pub returns-then-is_elsewhere : goal.returns-then-is_elsewhere
returns-then-is_elsewhere c =
    let a = c.args in
    let l = c.loop-i in
    sym (any_found (λ k. not (is_free (behind a.f) k) && other_group a.p (behind a.f) k) l.i 8 (omega arith) (sym c.is_elsewhere.ensures ∙ c.if-is_elsewhere.true)) ∙ l.invariant

pub loop-i-preserved : goal.loop-i-preserved
loop-i-preserved c =
    let a = c.args in
    let l = c.loop-i in
    sym (any_passed (λ k. not (is_free (behind a.f) k) && other_group a.p (behind a.f) k) l.i 8 (omega arith)
    (sym c.is_elsewhere.ensures ∙ c.if-is_elsewhere.false))
    ∙ l.invariant

pub returns : goal.returns
returns c =
    let a = c.args in
    let l = c.loop-i in
    sym (any-ended (λ k. not (is_free (behind a.f) k) && other_group a.p (behind a.f) k) l.i 8 (omega arith)) ∙ l.invariant
