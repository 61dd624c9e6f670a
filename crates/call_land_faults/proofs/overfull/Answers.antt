-- `overfull`: the lowest of worst and the zones from drive e on is the answer; a turn takes drive e's zone if it is lower (`faults_next`). Assumes nothing.
use Prim.Native.Nat.{ℕ}
use Rattle.spec.specs.Drives.{zone_on}
use Rattle.spec.specs.Lists.{least, cons_if}
use Rattle.law_basic.specs.Ranges.{least-le}
use Rattle.mem_lookup.specs.Places.{one_fault}
use Rattle.call_land_faults.specs.Lowest.{over_by, over_view, faults_first, faults_next, faults_end}
use mathlib.Core.List.{List, []}
use mathlib.Core.Path.{sym, ap, ◌∙◌}
use native.Mathlib.Omega.{arith}
use Rattle.call_land_faults.proofs.overfull.Goals as goal

pub loop-e-init : goal.loop-e-init
loop-e-init c =
    let a = c.args in
    (c.requires.pointers_len.2, faults_first (λ x. cons_if (over_by a.p a.pointers.now a.d a.segment x) (zone_on a.segment x) []) a.zone a.p.N)

pub full_zone-requires : goal.full_zone-requires
full_zone-requires c =
    let q = c.requires in record { p_value = q.p_value; pointers_len = (q.pointers_len.0, omega (arith, c.loop-e-test.true), q.pointers_len.1) }

pub loop-e-preserved : goal.loop-e-preserved
loop-e-preserved c =
    let a = c.args in
    let l = c.loop-e in
    let f : ℕ → List ℕ = λ x. cons_if (over_by a.p a.pointers.now a.d a.segment x) (zone_on a.segment x) [] in
    let z = one_fault c.full_zone.result in (
      omega (arith, c.lowest-worst.ensures, least-le l.worst z, l.invariant.0),
      faults_next f l.worst c.lowest-worst.result l.e a.p.N z (omega (arith, c.loop-e-test.true)) c.full_zone.ensures c.lowest-worst.ensures ∙ l.invariant.1,
    )

pub returns : goal.returns
returns c =
    let a = c.args in
    let q = c.requires.pointers_len in
    let l = c.loop-e in
    let p = a.p in
    let f : ℕ → List ℕ = λ x. cons_if (over_by p a.pointers.now a.d a.segment x) (zone_on a.segment x) [] in record {
      by_index = λ off im h. sym (faults_end f l.worst l.e p.N (omega (arith, c.loop-e-test.false)))
          ∙ l.invariant.1 ∙ ap (least a.zone) (over_view p off im a.pointers.now h q.0 a.d a.segment q.1);
      upper_bound = l.invariant.0;
    }
