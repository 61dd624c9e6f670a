-- `sooner`: a zone that is not flagged or not above leaves the other; it comes first where there is no other, or where its serial is the lower. Assumes nothing.
use mathlib.Core.Bool.{false}
use Prim.Native.Nat.{◌≤◌, ◌<◌}
use borrow.Author.Tests.{not-true, not-false}
use native.Mathlib.Omega.{arith}
use lib.ListN.{get_or}
use Rattle.law_drives.specs.Tests.{clash}
use Rattle.recover_rebuild.specs.Rising.{next_stays, next_takes}
use Rattle.recover_rebuild.proofs.sooner.Goals as goal

pub returns-then-not-kept-z : goal.returns-then-not-kept-z
returns-then-not-kept-z c =
    let a = c.args in
    let f = get_or a.kept.now a.z false in record {
      rising_next = λ x. next_stays a.p.Z a.kept.now a.serials.now a.last.0 a.z a.other x
          (λ t g. clash t (not-true f c.if-not-kept-z.true-raw));
      upper_bound = c.requires.3;
    }

pub returns-then-serials-z : goal.returns-then-serials-z
returns-then-serials-z c =
    let a = c.args in
    let h : get_or a.serials.now a.z 0 ≤ a.last.0 = c.if-serials-z.true in
    record { rising_next = λ x. next_stays a.p.Z a.kept.now a.serials.now a.last.0 a.z a.other x (λ t g. absurd (let q : ⊥ = omega arith in q)); upper_bound = c.requires.3 }

pub returns-then-p-other : goal.returns-then-p-other
returns-then-p-other c =
    let if2 = c.if-serials-z in
    let if1 = c.if-not-kept-z in
    let a = c.args in
    let h : a.p.Z ≤ a.other = c.if-p-other.true in
    let g : a.last.0 < get_or a.serials.now a.z 0 = if2.false in record {
      rising_next = λ x. next_takes a.p.Z a.kept.now a.serials.now a.last.0 a.z a.other x c.requires.2 (not-false (get_or a.kept.now a.z false) if1.false-raw) g
          (λ k. absurd (let q : ⊥ = omega arith in q));
      upper_bound = omega (arith, c.requires.2);
    }

pub returns-then-serials-other : goal.returns-then-serials-other
returns-then-serials-other c =
    let if3 = c.if-p-other in
    let a = c.args in
    let l : a.other < a.p.Z = if3.false in
    let h : get_or a.serials.now a.other 0 ≤ get_or a.serials.now a.z 0 = c.if-serials-other.true in
    record { rising_next = λ x. next_stays a.p.Z a.kept.now a.serials.now a.last.0 a.z a.other x (λ t g. (l, h)); upper_bound = c.requires.3 }

pub returns : goal.returns
returns c =
    let if2 = c.if-serials-z in
    let if1 = c.if-not-kept-z in
    let a = c.args in
    let h : get_or a.serials.now a.z 0 < get_or a.serials.now a.other 0 = c.if-serials-other.false in
    let g : a.last.0 < get_or a.serials.now a.z 0 = if2.false in record {
      rising_next = λ x. next_takes a.p.Z a.kept.now a.serials.now a.last.0 a.z a.other x c.requires.2 (not-false (get_or a.kept.now a.z false) if1.false-raw) g
          (λ k. omega arith);
      upper_bound = omega (arith, c.requires.2);
    }
