-- `shown_offsets`: the first d entries say where the drives show the stripe; each turn sets the next, or one hides it. Assumes nothing.
use mathlib.Core.Path.{◌≡◌, refl, ◌∙◌}
use Prim.Native.Nat.{ℕ}
use mathlib.Core.List.{List}
use native.Mathlib.Omega.{arith}
use lib.ListN.{length, length-set}
use Rattle.std.specs.Prelude.{Some}
use Rattle.spec.specs.Drives.{view_of}
use Rattle.spec.specs.Params.{image_len}
use Rattle.law_basic.specs.Each.{set_next}
use Rattle.law_basic.specs.Geometry.{ranged}
use Rattle.call_read.specs.Decode.{ShownOn, hidden_here}
use Rattle.call_read.proofs.shown_offsets.Goals as goal

pub loop-d-init : goal.loop-d-init
loop-d-init c = (refl, λ e h. absurd (let z : ⊥ = omega (arith, h) in z))

pub returns-in_err-at : goal.returns-in_err-at
returns-in_err-at c =
    let a = c.args in
    rw c.from_residual.ensures (λ off im h.
    hidden_here a.p (view_of a.p off im a.pointers.now) a.gone a.compact.now a.segment a.s c.loop-d.d c.loop-d-test.true (c.in_err-at.ensures off im h))

pub offset_bounds-at-d : goal.offset_bounds-at-d
offset_bounds-at-d c =
    omega (arith, c.loop-d-test.true, (ranged c.args.p c.requires.p_value).drives_high)

pub bounds-at-d : goal.bounds-at-d
bounds-at-d c =
    omega (arith, c.loop-d-test.true, (ranged c.args.p c.requires.p_value).drives_high)

pub loop-d-preserved : goal.loop-d-preserved
loop-d-preserved c =
    let a = c.args in
    let l = c.loop-d in
    let o = c.in_ok-at.field-0 in (
      length-set l.at l.d o ∙ l.invariant.0,
      set_next (λ e y. (off im : List ℕ) → length im ≡ image_len a.p → ShownOn a.p (view_of a.p off im a.pointers.now) a.gone a.compact.now a.segment a.s e (Some y))
          l.at l.d o (omega (arith, c.loop-d-test.true, (ranged a.p c.requires.p_value).drives_high, l.invariant.0)) l.invariant.1 c.in_ok-at.ensures,
    )

pub returns : goal.returns
returns c off im h =
    let l = c.loop-d in
    record { long = l.invariant.0; shows = λ d k. l.invariant.1 d (omega (arith, k)) off im h }
