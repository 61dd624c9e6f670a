-- `lowest_free`: the first from z on is the first of all; such a zone z is it, another passes on; at Z there is none. Assumes nothing.
use mathlib.Core.Path.{sym, ap, ◌∙◌}
use mathlib.Core.Bool.{Bool}
use mathlib.Core.List.{List}
use Prim.Native.Nat.{ℕ}
use native.Mathlib.Omega.{arith}
use Rattle.spec.specs.Lists.{keep, first_or}
use Rattle.law_basic.specs.Geometry.{ranged}
use Rattle.law_basic.specs.Ranges.{below-start, first_turn, first_pass, first_end}
use Rattle.disk_zones.specs.Empty.{free_by}
use Rattle.disk_zones.proofs.lowest_free.Goals as goal

pub loop-z-init : goal.loop-z-init
loop-z-init c =
    let a = c.args in
    let f : ℕ → Bool = free_by a.p a.pointers.now a.offline.now a.drive in
    (omega arith, ap (λ (l : List ℕ). first_or 0 (keep f l)) (sym (below-start a.p.Z)))

pub is_free-requires : goal.is_free-requires
is_free-requires c = record { p_value = c.requires.p_value; pointers_len = c.requires.pointers_len; drive_lt_n = (c.requires.drive_lt_n, c.loop-z-test.true) }

pub returns-then-is_free : goal.returns-then-is_free
returns-then-is_free c =
    let a = c.args in
    let l = c.loop-z in
    let f : ℕ → Bool = free_by a.p a.pointers.now a.offline.now a.drive in
    (sym (first_turn f l.z a.p.Z c.loop-z-test.true (sym c.is_free.ensures ∙ c.if-is_free.true)) ∙ l.invariant.1, c.loop-z-test.true)

pub loop-z-preserved : goal.loop-z-preserved
loop-z-preserved c =
    let a = c.args in
    let l = c.loop-z in
    let f : ℕ → Bool = free_by a.p a.pointers.now a.offline.now a.drive in
    (omega (arith, c.loop-z-test.true), sym (first_pass f l.z a.p.Z c.loop-z-test.true (sym c.is_free.ensures ∙ c.if-is_free.false)) ∙ l.invariant.1)

pub returns : goal.returns
returns c =
    let a = c.args in
    let l = c.loop-z in
    let f : ℕ → Bool = free_by a.p a.pointers.now a.offline.now a.drive in
    (sym (first_end f l.z a.p.Z (omega (arith, c.loop-z-test.false))) ∙ l.invariant.1, omega (arith, (ranged a.p c.requires.p_value).zones_low))
