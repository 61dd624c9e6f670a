-- `unsealed_count`: n and the number of unsealed segments from z on are that of all; an unsealed one adds 1 to n, and n is at most z. Assumes nothing.
use mathlib.Core.Path.{◌≡◌, sym, ap, ◌∙◌}
use mathlib.Core.List.{List}
use mathlib.Core.Bool.{Bool}
use Prim.Native.Nat.{ℕ, ◌+◌, ◌-◌, ◌≤◌}
use native.Mathlib.Omega.{arith}
use lib.ListN.{length}
use Rattle.spec.specs.Drives.{view_of}
use Rattle.spec.specs.Lists.{up_from, below, keep}
use Rattle.spec.specs.Params.{image_len}
use Rattle.law_scans.specs.Scans.{kept-one, kept_none, kept-ended, kept-start}
use Rattle.disk_gather.specs.Flags.{Keeps, FlagsRows}
use Rattle.recover_segments.specs.Kept.{unsealed_at, unsealed_is, unsealed-length}
use Rattle.recover_segments.proofs.unsealed_count.Goals as goal
use Rattle.recover_segments.proofs.unsealed_count.Goals.{else-is_unsealed, then-is_unsealed}

pub loop-z-init : goal.loop-z-init
loop-z-init c =
    let a = c.args in
    (omega arith, omega arith, λ off im h k r. kept-start (unsealed_at a.p (view_of a.p off im a.pointers.now) a.gone) a.p.Z)

pub is_unsealed-requires : goal.is_unsealed-requires
is_unsealed-requires c = record { p_value = c.requires.p_value; pointers_len = (c.requires.pointers_len.0, c.requires.pointers_len.1, c.loop-z-test.true) }

pub loop-z-preserved : goal.loop-z-preserved
loop-z-preserved c =
    let a = c.args in
    let if1 = c.loop-z-test in
    let l = c.loop-z in
    let p = a.p in
    let f : List ℕ → List ℕ → ℕ → Bool = λ off im. unsealed_at p (view_of p off im a.pointers.now) a.gone in
    let b : (l.z + 1 ≤ p.Z)
    × (c.if-is_unsealed.n ≤ l.z + 1)
    × ((off im : List ℕ) → length im ≡ image_len p → Keeps p (view_of p off im a.pointers.now) a.gone a.kept.now
    → FlagsRows p (view_of p off im a.pointers.now) a.gone a.rows.now
    → c.if-is_unsealed.n + length (keep (f off im) (up_from (l.z + 1) (p.Z - (l.z + 1)))) ≡ length (keep (f off im) (below p.Z))) =
    elim c.if-is_unsealed.branch [
      | then-is_unsealed w ↦ (
        omega (arith, if1.true),
        omega (arith, w.n-is),
        λ off im h k r. ap (λ (x : ℕ). x + length (keep (f off im) (up_from (l.z + 1) (p.Z - (l.z + 1))))) w.n-is
            ∙ sym (kept-one (f off im) l.z p.Z l.n if1.true
            (sym (unsealed_is p (view_of p off im a.pointers.now) a.gone a.rows.now a.kept.now r k l.z if1.true)
            ∙ sym (c.is_unsealed.ensures off im h) ∙ w.if-is_unsealed.true))
            ∙ l.invariant.2 off im h k r,
      )
      | else-is_unsealed w ↦ (
        omega (arith, if1.true),
        omega (arith, w.n-is),
        λ off im h k r. ap (λ (x : ℕ). x + length (keep (f off im) (up_from (l.z + 1) (p.Z - (l.z + 1))))) w.n-is
            ∙ sym (kept_none (f off im) l.z p.Z l.n if1.true
            (sym (unsealed_is p (view_of p off im a.pointers.now) a.gone a.rows.now a.kept.now r k l.z if1.true)
            ∙ sym (c.is_unsealed.ensures off im h) ∙ w.if-is_unsealed.false))
            ∙ l.invariant.2 off im h k r,
      )
    ] in
    b

pub returns : goal.returns
returns c =
    let a = c.args in
    let l = c.loop-z in
    let p = a.p in record {
      upper_bound = omega (arith, l.invariant.1, l.invariant.0);
      by_index = λ off im h k r. let v = view_of p off im a.pointers.now in
          sym (kept-ended (unsealed_at p v a.gone) l.z p.Z l.n (omega (arith, c.loop-z-test.false)))
          ∙ l.invariant.2 off im h k r
          ∙ sym (unsealed-length p v a.gone);
    }
