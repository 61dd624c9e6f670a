-- `free_zone`: the lowest free zone, if there is one. Assumes nothing.
use mathlib.Core.Path.{ap, ◌∙◌, subst, sym}
use mathlib.Core.Bool.{Bool}
use Prim.Native.Nat.{ℕ, ◌<◌}
use native.Mathlib.Omega.{arith}
use Rattle.std.specs.Option.{unwrap_or}
use Rattle.std.specs.Prelude.{Option}
use Rattle.spec.specs.Lists.{keep, below}
use Rattle.law_basic.specs.Geometry.{ranged}
use Rattle.disk_gather.specs.Ranges.{opt_first_or}
use Rattle.recover_segments.specs.Taken.{free_in, first_low}
use Rattle.recover_segments.proofs.free_zone.Goals as goal

pub returns : goal.returns
returns c =
    let a = c.args in
    let f : ℕ → Bool = free_in a.p a.offline.now a.marks.now a.drive in
    let e = c.unwrap_or.ensures ∙ ap (λ (o : Option ℕ). unwrap_or o 0) c.lowest_free.ensures ∙ opt_first_or 0 (keep f (below a.p.Z)) in
    (e, subst (λ (z : ℕ). z < a.p.Z) (sym e) (first_low f a.p.Z (omega (arith, (ranged a.p c.requires.p_value).zones_low))))
