-- `greatest_serial`: after z turns it is the greatest serial of the kept among the first z; at Z that is the greatest of the segments. Assumes nothing.
use mathlib.Core.Path.{◌≡◌, sym, ap, ◌∙◌}
use mathlib.Core.Bool.{false, cond}
use Prim.Native.Nat.{ℕ, max}
use native.Mathlib.Omega.{arith}
use lib.ListN.{get_or}
use Rattle.recover_segments.specs.Kept.{greatest_in, greatest_first, greatest_next, greatest-all}
use Rattle.recover_segments.proofs.greatest_serial.Goals as goal

pub loop-z-init : goal.loop-z-init
loop-z-init c = let a = c.args in (omega arith, sym (greatest_first a.kept.now a.serials.now))

pub loop-z-preserved : goal.loop-z-preserved
loop-z-preserved c =
    let l = c.loop-z in
    let a = c.args in (
      omega (arith, c.loop-z-test.true),
      c.greater_if-most.ensures
          ∙ ap (λ (x : ℕ). cond (get_or a.kept.now l.z false) (max x (get_or a.serials.now l.z 0)) x) l.invariant.1
          ∙ sym (greatest_next l.z a.kept.now a.serials.now),
    )

pub returns : goal.returns
returns c =
    let l = c.loop-z in
    let a = c.args in
    λ v gone here k s. l.invariant.1
    ∙ ap (λ (x : ℕ). greatest_in x a.kept.now a.serials.now) (let q : l.z ≡ a.p.Z = omega (arith, c.loop-z-test.false, l.invariant.0) in q)
    ∙ greatest-all a.p v gone a.kept.now a.serials.now here k s
