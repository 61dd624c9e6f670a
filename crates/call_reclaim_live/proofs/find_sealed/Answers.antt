-- `find_sealed`: below g each flag says whether its row is kept and sealed; a turn sets one more (`set_more`). Assumes nothing.
use Prim.Native.Nat.{◌<◌}
use Rattle.call_reclaim_live.specs.Owners.{sealed_at}
use Rattle.disk_gather.specs.Found.{set_more}
use Rattle.spec.specs.Drives.{view_of}
use lib.ListN.{length, length-set}
use mathlib.Core.Bool.{false}
use mathlib.Core.Path.{refl, ◌∙◌}
use native.Mathlib.Omega.{arith}
use Rattle.call_reclaim_live.proofs.find_sealed.Goals as goal

pub loop-g-init : goal.loop-g-init
loop-g-init c = (omega arith, refl, λ off im h k l. absurd (let q : ⊥ = omega (arith, l) in q))

pub is_sealed_at-requires : goal.is_sealed_at-requires
is_sealed_at-requires c =
    let pre = c.requires.pointers_len in record { p_value = c.requires.p_value; pointers_len = (pre.0, pre.1, pre.2, pre.3, c.loop-g-test.true) }

pub bounds-sealed-g : goal.bounds-sealed-g
bounds-sealed-g c = omega (arith, c.loop-g.invariant.1, c.loop-g-test.true, c.requires.z_in_bounds)

pub loop-g-preserved : goal.loop-g-preserved
loop-g-preserved c =
    let a = c.args in
    let l = c.loop-g in
    let t = c.loop-g-test.true in
    let on : l.g < length l.sealed = omega (arith, l.invariant.1, t, c.requires.z_in_bounds) in (
      omega (arith, t),
      length-set l.sealed l.g c.is_sealed_at.result ∙ l.invariant.1,
      (λ off im h. set_more l.sealed l.g c.is_sealed_at.result false (sealed_at a.p (view_of a.p off im a.pointers.now) a.rows.now a.kept.now) on
          (l.invariant.2 off im h) (c.is_sealed_at.ensures off im h)),
    )

pub shape_of-sealed : goal.shape_of-sealed
shape_of-sealed c = c.loop-g.invariant.1

pub returns : goal.returns
returns c =
    let l = c.loop-g in
    λ off im h k x. l.invariant.2 off im h k (omega (arith, x, c.loop-g-test.false))
