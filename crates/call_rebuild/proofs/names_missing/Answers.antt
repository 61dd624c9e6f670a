-- `names_missing`: a drive not below N makes the first part false; else its mask is what `named` gives (`only-named`), compared with missing. Assumes nothing.
use mathlib.Core.Path.{sym, ap, ◌∙◌}
use mathlib.Core.Bool.{Bool, ◌&&◌}
use Prim.Native.Nat.{ℕ}
use borrow.Author.Tests.{lt-ltb, le-ltb}
use lib.Dec.{eqb}
use Rattle.spec.specs.Params.{named}
use Rattle.law_drives.specs.Masks.{only-named}
use Rattle.call_rebuild.proofs.names_missing.Goals as goal

pub returns-then-p-drive : goal.returns-then-p-drive
returns-then-p-drive c =
    let a = c.args in
    sym (ap (λ (x : Bool). x && eqb a.missing (named a.drive)) (le-ltb a.drive a.p.N c.if-p-drive.true))

pub returns : goal.returns
returns c =
    let a = c.args in
    ap (λ (x : ℕ). eqb a.missing x) (c.only_drive.ensures ∙ only-named a.drive)
    ∙ sym (ap (λ (x : Bool). x && eqb a.missing (named a.drive)) (lt-ltb a.drive a.p.N c.if-p-drive.false))
