-- `count_bytes`: n is how many numbers of the bytes a to i - 1 are marked; one turn adds the ones of byte i (`byte_more`). Assumes nothing.
use Prim.Native.Nat.{ℕ, ◌+◌, ◌-◌, ◌*◌}
use Rattle.spec.specs.Lists.{up_from, keep}
use Rattle.mem_marks.specs.Marks.{is_marked, kept_nothing, byte_more}
use lib.ListN.{length}
use mathlib.Core.Path.{◌≡◌, sym, ap, ◌∙◌}
use native.Mathlib.Omega.{arith}
use Rattle.mem_marks.proofs.count_bytes.Goals as goal

pub loop-i-init : goal.loop-i-init
loop-i-init c =
    let a = c.args in
    (sym (kept_nothing (is_marked a.marks.now) (8 * a.a)), omega arith)

pub loop-i-preserved : goal.loop-i-preserved
loop-i-preserved c =
    let a = c.args in
    let l = c.loop-i in (
      ap (λ (x : ℕ). l.n + x) c.count-n.ensures.0 ∙ byte_more a.marks.now a.a l.i l.n (omega arith) (omega (arith, c.shared_slice_known-in-loop-i-1.given l.i)) l.invariant.0,
      omega (arith, c.count-n.ensures.1),
    )

pub returns : goal.returns
returns c =
    let a = c.args in
    let l = c.loop-i in
    let e : l.i ≡ a.b = omega arith in
    (l.invariant.0 ∙ ap (λ (x : ℕ). length (keep (is_marked a.marks.now) (up_from (8 * a.a) (8 * x - 8 * a.a)))) e, omega arith)
