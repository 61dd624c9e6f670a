-- `data_stored`: the definition is the lesser of pointer - 1 and S: the three ends are pointer 0, more than S, and between. Assumes nothing.
use mathlib.Core.Path.{◌≡◌}
use native.Mathlib.Omega.{arith}
use Rattle.spec.specs.Drives.{pointer_of}
use Rattle.law_basic.specs.Geometry.{ranged}
use Rattle.disk_stored.specs.Stored.{data_stored_by}
use Rattle.disk_stored.proofs.data_stored.Goals as goal

pub returns-then-n-eq0 : goal.returns-then-n-eq0
returns-then-n-eq0 c =
    let a = c.args in
    let pre = c.requires in
    let p = a.p in
    let h = pre.pointers_len in
    let n : c.pointer-n.result ≡ pointer_of p a.pointers.now a.drive a.zone = c.pointer-n.ensures in
    record {
      by_index = (λ off im hi. let e = data_stored_by p (ranged p pre.p_value) off im a.pointers.now hi h.0 a.drive a.zone h.1 h.2 in omega
          (arith, e, n, c.if-n-eq0.true));
      upper_bound = omega arith;
    }

pub returns-then-p-n : goal.returns-then-p-n
returns-then-p-n c =
    let a = c.args in
    let pointer = c.pointer-n in
    let pre = c.requires in
    let p = a.p in
    let h = pre.pointers_len in
    let n : pointer.result ≡ pointer_of p a.pointers.now a.drive a.zone = pointer.ensures in
    record {
      by_index = (λ off im hi. let e = data_stored_by p (ranged p pre.p_value) off im a.pointers.now hi h.0 a.drive a.zone h.1 h.2 in omega
          (arith, e, n, c.if-p-n.true));
      upper_bound = omega arith;
    }

pub returns : goal.returns
returns c =
    let a = c.args in
    let pointer = c.pointer-n in
    let pre = c.requires in
    let p = a.p in
    let h = pre.pointers_len in
    let n : pointer.result ≡ pointer_of p a.pointers.now a.drive a.zone = pointer.ensures in record {
      by_index = (λ off im hi. let e = data_stored_by p (ranged p pre.p_value) off im a.pointers.now hi h.0 a.drive a.zone h.1 h.2 in omega (arith, e, n, c.if-p-n.false));
      upper_bound = omega
          (arith, c.if-p-n.false);
    }
