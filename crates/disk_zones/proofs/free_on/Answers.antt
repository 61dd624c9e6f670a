-- `free_on`: min(most, n + the free zones below z) is min(most, all of them); such a zone z - 1 moves to n in its turn.
-- The loop ends at n = most or at z = 0, and then that minimum is n. Assumes nothing.
use mathlib.Core.Path.{◌≡◌, sym, ap, ◌∙◌}
use mathlib.Core.Bool.{Bool}
use Prim.Native.Nat.{ℕ, ◌+◌, ◌-◌, min}
use native.Mathlib.Omega.{arith}
use Rattle.spec.specs.Lists.{below, up_from, keep, tally}
use Rattle.law_basic.specs.Ranges.{tally-below_hit, tally-below_miss}
use Rattle.disk_zones.specs.Empty.{free_by}
use Rattle.disk_zones.proofs.free_on.Goals as goal

pub loop-z-init : goal.loop-z-init
loop-z-init c = (omega arith, omega arith, omega arith, omega arith)

pub returns-then-n-most : goal.returns-then-n-most
unfolding tally
returns-then-n-most c =
    let a = c.args in
    let l = c.loop-z in
    let f : ℕ → Bool = free_by a.p a.pointers.now a.offline.now a.drive in
    let e : l.n ≡ min a.most (l.n + tally f (below l.z)) = omega (arith, c.if-n-most.true) in
    e ∙ l.invariant.3

pub is_free-requires : goal.is_free-requires
is_free-requires c = record { p_value = c.requires.p_value; pointers_len = c.requires.pointers_len; drive_lt_n = (c.requires.drive_lt_n, omega arith) }

pub overflow_add-n : goal.overflow_add-n
overflow_add-n c = omega arith

pub loop-z-smaller-then-is_free : goal.loop-z-smaller-then-is_free
loop-z-smaller-then-is_free c = omega arith

pub loop-z-preserved-then-is_free : goal.loop-z-preserved-then-is_free
loop-z-preserved-then-is_free c =
    let a = c.args in
    let l = c.loop-z in
    let f : ℕ → Bool = free_by a.p a.pointers.now a.offline.now a.drive in
    let z : l.z ≡ l.z - 1 + 1 = omega arith in
    let t : tally f (below l.z) ≡ tally f (below (l.z - 1)) + 1 =
    ap (λ (x : ℕ). tally f (below x)) z ∙ tally-below_hit f (l.z - 1) (sym c.is_free.ensures ∙ c.if-is_free.true) in
    let e : min a.most (l.n + 1 + tally f (below (l.z - 1))) ≡ min a.most (l.n + tally f (below l.z)) = omega (arith, t) in
    (omega arith, omega arith, omega arith, e ∙ l.invariant.3)

pub loop-z-smaller : goal.loop-z-smaller
loop-z-smaller c = omega arith

pub loop-z-preserved : goal.loop-z-preserved
loop-z-preserved c =
    let a = c.args in
    let l = c.loop-z in
    let f : ℕ → Bool = free_by a.p a.pointers.now a.offline.now a.drive in
    let z : l.z ≡ l.z - 1 + 1 = omega arith in
    let t : tally f (below l.z) ≡ tally f (below (l.z - 1)) =
    ap (λ (x : ℕ). tally f (below x)) z ∙ tally-below_miss f (l.z - 1) (sym c.is_free.ensures ∙ c.if-is_free.false) in
    let e : min a.most (l.n + tally f (below (l.z - 1))) ≡ min a.most (l.n + tally f (below l.z)) = omega (arith, t) in
    (omega arith, omega arith, omega arith, e ∙ l.invariant.3)

pub returns : goal.returns
unfolding tally below up_from keep
returns c =
    let a = c.args in
    let l = c.loop-z in
    let f : ℕ → Bool = free_by a.p a.pointers.now a.offline.now a.drive in
    let z : l.z ≡ 0 = omega arith in
    let e : l.n ≡ min a.most (l.n + tally f (below 0)) = omega (arith, l.invariant.1) in
    e ∙ ap (λ (x : ℕ). min a.most (l.n + tally f (below x))) (sym z) ∙ l.invariant.3
