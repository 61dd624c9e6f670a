-- `remains_from`: the two tests in their order. Assumes nothing.
use Rattle.disk_drives.specs.Viewed.{viewed}
use mathlib.Core.Path.{sym, ap, ◌∙◌, subst}
use mathlib.Core.Bool.{not}
use Prim.Native.Nat.{ℕ, ◌<◌}
use borrow.Author.Tests.{not-true, not-false}
use Rattle.disk_holders.specs.Borne.{unborne_dropped, remains_by}
use Rattle.disk_holders.proofs.remains_from.Goals as goal

pub is_borne-requires : goal.is_borne-requires
is_borne-requires c =
    let a = c.args in record { low_lt_n = (subst (λ (n : ℕ). n < a.drives.now.p.N) (sym c.requires.low_value.0) c.requires.here.0, c.requires.low_value.1) }

pub returns-then-not-is_borne : goal.returns-then-not-is_borne
returns-then-not-is_borne c =
    let a = c.args in
    let v = viewed a.drives.now in
    let b = c.is_borne in
    sym (unborne_dropped a.drives.now.p v a.gone a.serial.0 (sym b.ensures ∙ not-true b.result c.if-not-is_borne.true-raw))

pub is_copy-requires : goal.is_copy-requires
is_copy-requires c = record { here = c.requires.here; low_value = c.requires.low_value }

pub returns : goal.returns
returns c =
    let a = c.args in
    let v = viewed a.drives.now in
    let b = c.is_borne in
    ap not c.is_copy.ensures ∙ sym (remains_by a.drives.now.p v a.gone a.serial.0 (sym b.ensures ∙ not-false b.result c.if-not-is_borne.false-raw))
