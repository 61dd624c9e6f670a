-- `empty_zones`: the fewest so far and those of the drives from d on come to the fewest of all and of most. Assumes nothing.
use mathlib.Core.Path.{sym, ap, ◌∙◌}
use mathlib.Core.List.{map}
use Prim.Native.Nat.{ℕ, ◌+◌, ◌-◌, min}
use native.Mathlib.Omega.{arith}
use Rattle.spec.specs.Lists.{up_from, below, tally, least}
use Rattle.disk_zones.specs.Empty.{free_by, empty_count_holds, min_least, least_start, empty_least_turn, least_end}
use Rattle.disk_zones.proofs.empty_zones.Goals as goal

pub loop-d-init : goal.loop-d-init
loop-d-init c =
    let a = c.args in
    let f : ℕ → ℕ = λ e. tally (free_by a.p a.pointers.now a.offline.now e) (below a.p.Z) in
    (omega arith, ap (λ (k : ℕ). least k (map f (up_from 0 (a.p.N - 0)))) c.min-n.ensures ∙ least_start f a.p.N (min a.most a.p.Z))

pub free_on-n-requires : goal.free_on-n-requires
free_on-n-requires c = record { p_value = c.requires.p_value; pointers_len = c.requires.pointers_len; drive_lt_n = c.loop-d-test.true }

pub loop-d-preserved : goal.loop-d-preserved
loop-d-preserved c =
    let a = c.args in
    let l = c.loop-d in
    let f : ℕ → ℕ = λ e. tally (free_by a.p a.pointers.now a.offline.now e) (below a.p.Z) in
    let r = c.free_on-n.ensures in
    (omega arith, ap (λ (k : ℕ). least k (map f (up_from (l.d + 1) (a.p.N - (l.d + 1))))) r ∙ empty_least_turn f a.p.N l.n l.d c.loop-d-test.true ∙ l.invariant.1)

pub returns : goal.returns
returns c =
    let a = c.args in
    let l = c.loop-d in
    let f : ℕ → ℕ = λ c. tally (free_by a.p a.pointers.now a.offline.now c) (below a.p.Z) in
    λ im h. sym (least_end f a.p.N l.n l.d (omega (arith, c.loop-d-test.false))) ∙ l.invariant.1 ∙ sym (min_least a.most a.p.Z (map f (below a.p.N)))
    ∙ ap (min a.most) (sym (empty_count_holds a.p a.offline.now im a.pointers.now h c.requires.pointers_len.0))
