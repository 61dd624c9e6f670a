-- `own_zones`: drive by drive the segment's row stands at its zone (`own_more`), and nothing else changes. Assumes nothing.
use Prim.Native.Nat.{ℕ, ◌+◌, ◌*◌}
use Rattle.disk_gather.specs.Owners.{own_more}
use Rattle.law_basic.specs.Segs.{low_here}
use Rattle.spec.specs.Drives.{zone_on}
use Rattle.spec.specs.Params.{offline_len}
use borrow.Author.Tests.{lt-ltb}
use lib.Dec.{eqb}
use lib.ListN.{get_or, set, length-set}
use mathlib.Core.Bool.{Bool, cond, ◌&&◌}
use mathlib.Core.Path.{◌≡◌, ap, ◌∙◌}
use native.Mathlib.Omega.{arith}
use Rattle.disk_gather.proofs.own_zones.Goals as goal

pub offline_at-at-requires-clause-drive_lt_n : goal.offline_at-at-requires-clause-drive_lt_n
offline_at-at-requires-clause-drive_lt_n c =
    let a = c.args in
    let t = c.loop-d-test.true in (t, rw c.zone_on-zone.ensures (low_here a.p a.segment c.loop-d.d c.requires.z_in_bounds.1 t))

pub bounds-owners-at : goal.bounds-owners-at
unfolding offline_len
bounds-owners-at c = omega (arith, c.offline_at-at.ensures.1, c.loop-d.invariant.1, c.requires.z_in_bounds.0)

pub loop-d-preserved : goal.loop-d-preserved
loop-d-preserved c =
    let a = c.args in
    let l = c.loop-d in
    let t = c.loop-d-test.true in
    let pre = c.requires.z_in_bounds in
    let h = a.segment in
    let at : c.offline_at-at.result ≡ l.d * a.p.Z + zone_on h l.d = c.offline_at-at.ensures.0 ∙ ap (λ (x : ℕ). l.d * a.p.Z + x) c.zone_on-zone.ensures in (
      omega (arith, t),
      length-set l.owners c.offline_at-at.result a.g ∙ l.invariant.1,
      (λ e z x y.
          ap (λ (i : ℕ). get_or (set l.owners i a.g) (e * a.p.Z + z) 0) at
          ∙ own_more a.p a.owners.now l.owners h a.g l.d t (low_here a.p h l.d pre.1 t) (omega (arith, l.invariant.1, pre.0)) l.invariant.2 e z x y),
    )

pub returns : goal.returns
returns c =
    let a = c.args in
    let l = c.loop-d in
    λ e z x y. l.invariant.2 e z x y
    ∙ ap (λ (b : Bool). cond (b && eqb z (zone_on a.segment e)) a.g (get_or a.owners.now (e * a.p.Z + z) 0)) (lt-ltb e l.d (omega (arith, x, c.loop-d-test.false)))
