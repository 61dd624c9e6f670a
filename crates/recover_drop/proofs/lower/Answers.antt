-- `lower`: no zone so far, or a higher serial: this one; else the one so far. Assumes nothing.
use mathlib.Core.Path.{sym}
use mathlib.Core.Bool.{◌||◌}
use Prim.Native.Nat.{ℕ}
use native.Mathlib.Omega.{arith}
use borrow.Author.Tests.{le-leb, lt-leb, lt-ltb, le-ltb}
use lib.Dec.{leb, ltb}
use Rattle.spec.specs.Drives.{view_of}
use Rattle.law_drives.specs.Tests.{cond_true, cond_false, or_true_left, or_true_right, or_neither}
use Rattle.recover_drop.specs.Dropped.{serial_no}
use Rattle.recover_drop.proofs.lower.Goals as goal

pub returns-then-n-best : goal.returns-then-n-best
returns-then-n-best c =
    let a = c.args in
    λ off ps h.
    let s : ℕ → ℕ = serial_no a.p (view_of a.p off a.image.now ps) in
    let u = leb a.n a.best in
    let v = ltb (s a.i) (s a.best) in
    sym (cond_true (u || v) a.i a.best (or_true_left u v (le-leb a.n a.best c.if-n-best.true)))

pub serial_no-a-requires : goal.serial_no-a-requires
serial_no-a-requires c =
    let q = c.requires in record { p_value = q.p_value; image_len = (q.image_len.0, omega (arith, q.image_len.1, q.image_len.2)) }

pub serial_no-b-requires : goal.serial_no-b-requires
serial_no-b-requires c =
    let q = c.requires in record { p_value = q.p_value; image_len = (q.image_len.0, omega (arith, q.image_len.1, c.if-n-best.false)) }

pub returns-then-a-b : goal.returns-then-a-b
returns-then-a-b c =
    let a = c.args in
    λ off ps h.
    let s : ℕ → ℕ = serial_no a.p (view_of a.p off a.image.now ps) in
    let u = leb a.n a.best in
    let v = ltb (s a.i) (s a.best) in
    let x = c.serial_no-a.ensures off ps h in
    let y = c.serial_no-b.ensures off ps h in
    sym (cond_true (u || v) a.i a.best (or_true_right u v (lt-ltb (s a.i) (s a.best) (omega (arith, x, y, c.if-a-b.true)))))

pub returns : goal.returns
returns c =
    let a = c.args in
    λ off ps h.
    let s : ℕ → ℕ = serial_no a.p (view_of a.p off a.image.now ps) in
    let u = leb a.n a.best in
    let v = ltb (s a.i) (s a.best) in
    let x = c.serial_no-a.ensures off ps h in
    let y = c.serial_no-b.ensures off ps h in
    sym (cond_false (u || v) a.i a.best (or_neither u v (lt-leb a.n a.best c.if-n-best.false)
    (le-ltb (s a.i) (s a.best) (omega (arith, x, y, c.if-a-b.false)))))
