-- `no_room`: pointer, footers and capacity are those of `over_by`, whose one block more is added just where e is d. Assumes nothing.
use Prim.Native.Nat.{◌+◌}
use Rattle.spec.specs.Drives.{pointer_of, zone_on}
use Rattle.spec.specs.Params.{footers, capacity}
use Rattle.law_basic.specs.Segs.{low_here}
use Rattle.call_land_faults.specs.Lowest.{over_by}
use borrow.Author.Tests.{eq-eqb, ne_eqb}
use lib.Dec.{ltb, eqb}
use mathlib.Core.Bool.{true, false, cond}
use mathlib.Core.Path.{◌≡◌, sym, ap, ◌∙◌}
use native.Mathlib.Omega.{arith}
use Rattle.call_land_faults.proofs.no_room.Goals as goal

pub pointer-n-requires : goal.pointer-n-requires
pointer-n-requires c =
    let a = c.args in
    let q = c.requires in record {
      p_value = q.p_value;
      pointers_len =
          (q.pointers_len.0, q.pointers_len.1, omega (arith, c.zone_on-zone.ensures, low_here a.p a.segment a.e q.pointers_len.2 q.pointers_len.1));
    }

pub returns-then-e-d : goal.returns-then-e-d
unfolding over_by
returns-then-e-d c =
    let a = c.args in
    let footers' = c.footers-f in
    let pointer = c.pointer-n in
    let zone_on_holds = c.zone_on-zone in
    let p = a.p in
    let n : pointer.result ≡ pointer_of p a.pointers.now a.e (zone_on a.segment a.e) = pointer.ensures ∙ ap (pointer_of p a.pointers.now a.e) zone_on_holds.ensures in
    let b : true ≡ eqb a.e a.d = sym (eq-eqb a.e a.d c.if-e-d.true) in
    let f : footers'.result ≡ footers p = footers'.ensures.0 in
    let m : c.capacity-most.result ≡ capacity p = c.capacity-most.ensures.0 in
    λ j. ltb (m j) (n j + cond (b j) 1 0 + f j)

pub returns : goal.returns
unfolding over_by
returns c =
    let a = c.args in
    let footers' = c.footers-f in
    let pointer = c.pointer-n in
    let zone_on_holds = c.zone_on-zone in
    let p = a.p in
    let x = pointer.result in
    let y = footers'.result in
    let n : x ≡ pointer_of p a.pointers.now a.e (zone_on a.segment a.e) = pointer.ensures ∙ ap (pointer_of p a.pointers.now a.e) zone_on_holds.ensures in
    let b : false ≡ eqb a.e a.d = sym (ne_eqb a.e a.d c.if-e-d.false) in
    let f : y ≡ footers p = footers'.ensures.0 in
    let m : c.capacity-most.result ≡ capacity p = c.capacity-most.ensures.0 in
    let z : x + y ≡ x + 0 + y = omega arith in
    ap (ltb c.capacity-most.result) z ∙ (λ j. ltb (m j) (n j + cond (b j) 1 0 + f j))
