-- `footers_stored`: the definition is the lesser of pointer - 1 - S and the footers: the three ends are none, more than these, and between. Assumes nothing.
use mathlib.Core.Path.{◌≡◌}
use native.Mathlib.Omega.{arith}
use Rattle.spec.specs.Drives.{pointer_of}
use Rattle.law_basic.specs.Geometry.{ranged}
use Rattle.disk_stored.specs.Stored.{footers-stored_by}
use Rattle.disk_stored.proofs.footers_stored.Goals as goal

pub overflow_add-p : goal.overflow_add-p
overflow_add-p c = omega (arith, (ranged c.args.p c.requires.p_value).stripes_high)

pub returns-then-n-p : goal.returns-then-n-p
returns-then-n-p c =
    let a = c.args in
    let pointer = c.pointer-n in
    let pre = c.requires in
    let p = a.p in
    let h = pre.pointers_len in
    let n : pointer.result ≡ pointer_of p a.pointers.now a.drive a.zone = pointer.ensures in
    record {
      by_index = (λ off im hi. let e = footers-stored_by p (ranged p pre.p_value) off im a.pointers.now hi h.0 a.drive a.zone h.1 h.2 in omega
          (arith, e, n, c.if-n-p.true));
      upper_bound = omega arith;
    }

pub returns-then-f-m : goal.returns-then-f-m
returns-then-f-m c =
    let a = c.args in
    let pointer = c.pointer-n in
    let pre = c.requires in
    let p = a.p in
    let h = pre.pointers_len in
    let n : pointer.result ≡ pointer_of p a.pointers.now a.drive a.zone = pointer.ensures in record {
      by_index = (λ off im hi. let e = footers-stored_by p (ranged p pre.p_value) off im a.pointers.now hi h.0 a.drive a.zone h.1 h.2 in omega
          (arith, e, n, c.if-f-m.true, c.footers-f.ensures.0));
      upper_bound = omega (arith, c.footers-f.ensures.0);
    }

pub returns : goal.returns
returns c =
    let a = c.args in
    let pointer = c.pointer-n in
    let pre = c.requires in
    let p = a.p in
    let h = pre.pointers_len in
    let n : pointer.result ≡ pointer_of p a.pointers.now a.drive a.zone = pointer.ensures in record {
      by_index = (λ off im hi. let e = footers-stored_by p (ranged p pre.p_value) off im a.pointers.now hi h.0 a.drive a.zone h.1 h.2 in omega
          (arith, e, n, c.if-f-m.false, c.footers-f.ensures.0));
      upper_bound = omega (arith, c.if-f-m.false, c.footers-f.ensures.0);
    }
