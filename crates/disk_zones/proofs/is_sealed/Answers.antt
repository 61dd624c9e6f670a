-- `is_sealed`: all drives are missing or full iff those from d on are; one that is not ends it; `sealed-list` says this of the view. Assumes nothing.
use mathlib.Core.Path.{sym, ◌∙◌}
use mathlib.Core.Bool.{Bool, ◌||◌}
use Prim.Native.Nat.{ℕ}
use native.Mathlib.Omega.{arith}
use lib.Dec.{eqb}
use borrow.Author.Tests.{not-true, not-false}
use Rattle.spec.specs.Drives.{pointer_of, zone_on}
use Rattle.spec.specs.Lists.{is_in}
use Rattle.spec.specs.Params.{capacity}
use Rattle.law_scans.specs.Scans.{all_broken, all_passed, all-ended, all_start}
use Rattle.disk_zones.specs.Empty.{sealed-list}
use Rattle.disk_zones.proofs.is_sealed.Goals as goal

pub loop-d-init : goal.loop-d-init
loop-d-init c =
    let a = c.args in
    (omega arith, all_start (λ e. is_in a.gone e || eqb (pointer_of a.p a.pointers.now e (zone_on a.segment e)) (capacity a.p)) a.p.N)

pub is_full-requires : goal.is_full-requires
is_full-requires c =
    let pre = c.requires in record { p_value = pre.p_value; pointers_len = (pre.pointers_len.0, c.loop-d-test.true, pre.pointers_len.1) }

pub returns-then-not-is_full : goal.returns-then-not-is_full
returns-then-not-is_full c =
    let a = c.args in
    let if1 = c.loop-d-test in
    let l = c.loop-d in
    let pre = c.requires in
    let p = a.p in
    let ps = a.pointers.now in
    let f : ℕ → Bool = λ e. is_in a.gone e || eqb (pointer_of p ps e (zone_on a.segment e)) (capacity p) in
    λ off im h. (sym (all_broken f l.d p.N if1.true (sym c.is_full.ensures ∙ not-true c.is_full.result c.if-not-is_full.true-raw))
    ∙ l.invariant.1)
    ∙ sym (sealed-list p off im ps a.gone a.segment pre.pointers_len.1 h pre.pointers_len.0)

pub loop-d-preserved : goal.loop-d-preserved
loop-d-preserved c =
    let a = c.args in
    let if1 = c.loop-d-test in
    let l = c.loop-d in
    let p = a.p in
    let ps = a.pointers.now in
    let f : ℕ → Bool = λ e. is_in a.gone e || eqb (pointer_of p ps e (zone_on a.segment e)) (capacity p) in
    (omega (arith, if1.true), sym (all_passed f l.d p.N if1.true (sym c.is_full.ensures ∙ not-false c.is_full.result c.if-not-is_full.false-raw)) ∙ l.invariant.1)

pub returns : goal.returns
returns c =
    let a = c.args in
    let l = c.loop-d in
    let pre = c.requires in
    let p = a.p in
    let ps = a.pointers.now in
    let f : ℕ → Bool = λ e. is_in a.gone e || eqb (pointer_of p ps e (zone_on a.segment e)) (capacity p) in
    λ off im h. (sym (all-ended f l.d p.N (omega (arith, c.loop-d-test.false))) ∙ l.invariant.1)
    ∙ sym (sealed-list p off im ps a.gone a.segment pre.pointers_len.1 h pre.pointers_len.0)
