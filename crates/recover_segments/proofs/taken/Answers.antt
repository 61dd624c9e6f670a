-- `taken`: the table says which zones the first z flagged rows have; after Z rows that is what the remaining segments have. Assumes nothing.
use mathlib.Core.Path.{◌≡◌, refl, ◌∙◌, subst}
use Prim.Native.Nat.{ℕ}
use native.Mathlib.Omega.{arith}
use Rattle.recover_segments.specs.Taken.{MarkedBy, marks_start, marks_next, marks_taken}
use Rattle.recover_segments.proofs.taken.Goals as goal

pub clear_marks-requires : goal.clear_marks-requires
clear_marks-requires c = record { p_value = c.requires.p_value; z_in_bounds = c.requires.z_in_bounds.2 }

pub loop-z-init : goal.loop-z-init
loop-z-init c =
    let a = c.args in
    (omega arith, refl, marks_start a.p a.kept.now a.rows.now c.clear_marks.new.marks c.clear_marks.ensures)

pub mark_if-requires : goal.mark_if-requires
mark_if-requires c =
    let k = c.clear_marks.auto.marks in record {
      p_value = c.requires.p_value;
      z_in_bounds =
          (omega (arith, c.requires.z_in_bounds.2, c.loop-z.invariant.1, k), c.requires.z_in_bounds.1, c.loop-z-test.true);
    }

pub loop-z-preserved : goal.loop-z-preserved
loop-z-preserved c =
    let a = c.args in
    let l = c.loop-z in (
      omega (arith, c.loop-z-test.true),
      c.mark_if.auto.marks ∙ l.invariant.1,
      marks_next a.p a.kept.now a.rows.now l.z l.marks c.mark_if.new.marks l.invariant.2 c.mark_if.ensures,
    )

pub shape_of-marks : goal.shape_of-marks
shape_of-marks c = c.loop-z.invariant.1 ∙ c.clear_marks.auto.marks

pub returns : goal.returns
returns c =
    let a = c.args in
    let l = c.loop-z in
    let n : l.z ≡ a.p.Z = omega (arith, l.invariant.0, c.loop-z-test.false) in
    λ v gone k r. marks_taken a.p v gone a.kept.now a.rows.now l.marks k r (omega (arith, c.requires.z_in_bounds.2, l.invariant.1, c.clear_marks.auto.marks))
    (subst (λ (x : ℕ). MarkedBy a.p a.kept.now a.rows.now x l.marks) n l.invariant.2)
