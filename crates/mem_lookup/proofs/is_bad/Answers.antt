-- `is_bad`: block 0 and a block above S are bad; a data block on a missing drive is not; on a present one the pointer decides. Assumes nothing.
use Prim.Native.Nat.{ℕ}
use Rattle.spec.specs.Drives.{pointer_of}
use Rattle.mem_lookup.specs.Places.{bad_header, bad_footer, bad_data_holds}
use lib.Dec.{leb}
use mathlib.Core.Bool.{true, false}
use mathlib.Core.Path.{sym, ap, ◌∙◌}
use native.Mathlib.Omega.{arith}
use Rattle.mem_lookup.proofs.is_bad.Goals as goal

pub returns-then-block-lt1 : goal.returns-then-block-lt1
returns-then-block-lt1 c =
    let a = c.args in
    sym (bad_header a.p (pointer_of a.p a.pointers.now a.drive a.zone) a.gone a.drive a.block c.if-block-lt1.true)

pub returns-then-p-block : goal.returns-then-p-block
returns-then-p-block c =
    let a = c.args in
    sym (bad_footer a.p (pointer_of a.p a.pointers.now a.drive a.zone) a.gone a.drive a.block (omega (arith, c.if-block-lt1.false)) c.if-p-block.true)

pub returns-then-has_drive : goal.returns-then-has_drive
returns-then-has_drive c =
    let a = c.args in
    let if1 = c.if-block-lt1 in
    sym (bad_data_holds a.p (pointer_of a.p a.pointers.now a.drive a.zone) a.gone a.drive a.block (omega (arith, if1.false))
    (omega (arith, c.if-p-block.false)) true (sym c.has_drive.ensures ∙ c.if-has_drive.true))

pub returns : goal.returns
returns c =
    let a = c.args in
    let has-drive = c.has_drive in
    let if2 = c.if-p-block in
    let if1 = c.if-block-lt1 in
    ap (λ (x : ℕ). leb x a.block) c.pointer.ensures
    ∙ sym (bad_data_holds a.p (pointer_of a.p a.pointers.now a.drive a.zone) a.gone a.drive a.block (omega (arith, if1.false))
    (omega (arith, if2.false)) false (sym has-drive.ensures ∙ c.if-has_drive.false))
