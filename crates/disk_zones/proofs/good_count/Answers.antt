-- `good_count`: the fewest so far and those of the drives from d on come to the fewest of all, at most most. Assumes nothing.
use mathlib.Core.Path.{◌≡◌, sym, ap, ◌∙◌}
use mathlib.Core.List.{map}
use Prim.Native.Nat.{ℕ, ◌+◌, ◌-◌, min}
use native.Mathlib.Omega.{arith}
use Rattle.spec.specs.Drives.{is_good, good_zones, good_count}
use Rattle.spec.specs.Lists.{up_from, below, tally, least}
use Rattle.spec.specs.Params.{drives_of}
use Rattle.disk_zones.specs.Empty.{min_least, least_start, empty_least_turn, least_end}
use Rattle.disk_zones.proofs.good_count.Goals as goal

pub loop-d-init : goal.loop-d-init
unfolding good_count good_zones drives_of tally
loop-d-init c =
    let a = c.args in
    let f : ℕ → ℕ = λ e. tally (is_good a.p a.offline.now e) (below a.p.Z) in
    let e : min a.most a.p.Z ≡ a.most = omega (arith, c.requires.offline_len.1) in
    (omega arith, omega arith, least_start f a.p.N a.most ∙ sym (min_least a.most a.p.Z (map f (below a.p.N)) ∙ ap (λ (k : ℕ). least k (map f (below a.p.N))) e))

pub good_on-n-requires : goal.good_on-n-requires
good_on-n-requires c = record { p_value = c.requires.p_value; offline_len = (c.requires.offline_len.0, c.loop-d-test.true) }

pub loop-d-preserved : goal.loop-d-preserved
loop-d-preserved c =
    let a = c.args in
    let l = c.loop-d in
    let f : ℕ → ℕ = λ e. tally (is_good a.p a.offline.now e) (below a.p.Z) in
    let r = c.good_on-n.ensures in (
      omega arith,
      omega (arith, r, l.invariant.1),
      ap (λ (k : ℕ). least k (map f (up_from (l.d + 1) (a.p.N - (l.d + 1))))) r ∙ empty_least_turn f a.p.N l.n l.d c.loop-d-test.true ∙ l.invariant.2,
    )

pub returns : goal.returns
returns c =
    let a = c.args in
    let l = c.loop-d in
    let f : ℕ → ℕ = λ e. tally (is_good a.p a.offline.now e) (below a.p.Z) in
    (sym (least_end f a.p.N l.n l.d (omega (arith, c.loop-d-test.false))) ∙ l.invariant.2, l.invariant.1)
