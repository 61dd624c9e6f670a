-- `count_names`: the names of the drives below d are counted. Assumes nothing.
use mathlib.Core.Path.{refl, ap, ◌∙◌}
use mathlib.Core.Bool.{cond, ◌&&◌}
use Prim.Native.Nat.{ℕ, ◌+◌, ◌*◌, min}
use native.Mathlib.Omega.{arith}
use lib.Dec.{eqb}
use lib.ListN.{get_or}
use Rattle.recover_headers.specs.Names.{counted_start, counted_turn, names_counted-all}
use Rattle.recover_headers.proofs.count_names.Goals as goal

pub loop-d-init : goal.loop-d-init
loop-d-init c = let a = c.args in (omega arith, refl, counted_start a.p a.names a.counts.now)

pub zone_on-requires : goal.zone_on-requires
zone_on-requires c = record { p_value = c.requires.p_value; drive_lt_n = c.loop-d-test.true }

pub count_name-requires : goal.count_name-requires
count_name-requires c = record { p_value = c.requires.p_value; z_in_bounds = (omega (arith, c.requires.z_in_bounds, c.loop-d.invariant.1), c.loop-d-test.true) }

pub loop-d-preserved : goal.loop-d-preserved
loop-d-preserved c =
    let a = c.args in
    let l = c.loop-d in
    let n = c.count_name in
    let q = c.zone_on.ensures in (
      omega (arith, c.loop-d-test.true),
      n.auto.counts ∙ l.invariant.1,
      counted_turn a.p a.names l.d a.counts.now l.counts n.new.counts l.invariant.2
          (λ d z hd hz. n.ensures d z hd hz
          ∙ ap (λ (y : ℕ). cond (eqb l.d d && eqb y z) (min 2 (get_or l.counts (d * a.p.Z + z) 0 + 1)) (get_or l.counts (d * a.p.Z + z) 0)) q),
    )

pub shape_of-counts : goal.shape_of-counts
shape_of-counts c = c.loop-d.invariant.1

pub returns : goal.returns
returns c =
    let a = c.args in
    let l = c.loop-d in
    names_counted-all a.p a.names l.d a.counts.now l.counts (omega (arith, c.loop-d-test.false)) l.invariant.2
