-- `data_position`: below the parity's drive it is the drive, else one less; below 0 it is 0, as subtraction is in the definition. Assumes nothing.
use mathlib.Core.Path.{◌≡◌, sym, ap, ◌∙◌}
use mathlib.Core.Bool.{Bool, true, false, cond}
use Prim.Native.Nat.{◌-◌}
use native.Mathlib.Omega.{arith}
use lib.Dec.{ltb}
use borrow.Author.Tests.{lt-ltb, le-ltb}
use Rattle.spec.specs.Layout.{parity_drive, data_position}
use Rattle.disk_shape.proofs.data_position.Goals as goal

pub returns-then-drive-parity_drive : goal.returns-then-drive-parity_drive
unfolding data_position
returns-then-drive-parity_drive c =
    let a = c.args in
    let p = a.p in
    let s = a.stripe in
    let d = a.drive in
    let q = c.parity_drive.ensures.0 in
    let e : ltb d (parity_drive p s) ≡ true = lt-ltb d (parity_drive p s) (omega (arith, q, c.if-drive-parity_drive.true)) in
    (sym (ap (λ (b : Bool). cond b d (d - 1)) e), omega arith)

pub returns : goal.returns
unfolding data_position
returns c =
    let a = c.args in
    let p = a.p in
    let s = a.stripe in
    let d = a.drive in
    let q = c.parity_drive.ensures.0 in
    let e : ltb d (parity_drive p s) ≡ false = le-ltb d (parity_drive p s) (omega (arith, q, c.if-drive-parity_drive.false)) in
    (c.saturating_sub.ensures ∙ sym (ap (λ (b : Bool). cond b d (d - 1)) e), omega (arith, c.saturating_sub.ensures))
