-- `idle_step`: `step_odd` for a header or footer block; a data block is the first (`step_new`) only where there is none yet and it does not fly. Assumes nothing.
use Rattle.spec.specs.Memory.{state_of}
use Rattle.spec.specs.Drives.{view_of}
use Rattle.call_reclaim_victim.specs.Waiting.{place_number, number_or, step_odd, step_kept, step-flying, step_new}
use Rattle.std.specs.Prelude.{Some, unwrap_or}
use Prim.Native.Nat.{ℕ, min}
use mathlib.Core.Path.{refl, sym, ap, ◌∙◌}
use Rattle.call_reclaim_victim.proofs.idle_step.Goals as goal

pub place_zone-zone-requires : goal.place_zone-zone-requires
place_zone-zone-requires c = c.requires.p_value

pub is_flying-requires : goal.is_flying-requires
is_flying-requires c =
    let pre = c.requires in record { p_value = pre.p_value; whole = pre.whole; place_bound = (pre.place_bound.0, sym c.is_odd.ensures ∙ c.if-is_odd.false, pre.place_bound.1) }

pub returns-then-is_odd : goal.returns-then-is_odd
returns-then-is_odd c =
    let a = c.args in
    let z = c.place_zone-zone.ensures.0 in
    λ off. step_odd a.p (view_of a.p off a.image.now a.pointers.now) (state_of a.bytes.now) a.segment a.idle a.place.0 (sym c.is_odd.ensures ∙ c.if-is_odd.true) _
    (ap place_number c.or.ensures ∙ number_or a.idle.first a.place)
    (ap Some (c.min-odd.ensures ∙ ap (λ (x : ℕ). min x c.place_zone-zone.result) c.unwrap_or.ensures ∙ ap (λ (x : ℕ). min (unwrap_or a.idle.odd x) x) z))

pub returns-then-is_some : goal.returns-then-is_some
returns-then-is_some c =
    let a = c.args in
    λ off. step_kept a.p (view_of a.p off a.image.now a.pointers.now) (state_of a.bytes.now) a.segment a.idle a.place.0 (sym c.is_odd.ensures ∙ c.if-is_odd.false)
    (sym c.is_some.ensures ∙ c.if-is_some.true)

pub returns-then-is_flying : goal.returns-then-is_flying
returns-then-is_flying c =
    let a = c.args in
    λ off. step-flying a.p (view_of a.p off a.image.now a.pointers.now) (state_of a.bytes.now) a.segment a.idle a.place.0 (sym c.is_odd.ensures ∙ c.if-is_odd.false)
    (sym c.is_some.ensures ∙ c.if-is_some.false) (sym (c.is_flying.ensures off) ∙ c.if-is_flying.true)

pub returns : goal.returns
returns c =
    let a = c.args in
    λ off. step_new a.p (view_of a.p off a.image.now a.pointers.now) (state_of a.bytes.now) a.segment a.idle a.place.0 (sym c.is_odd.ensures ∙ c.if-is_odd.false)
    (sym c.is_some.ensures ∙ c.if-is_some.false) (sym (c.is_flying.ensures off) ∙ c.if-is_flying.false) _ refl refl
