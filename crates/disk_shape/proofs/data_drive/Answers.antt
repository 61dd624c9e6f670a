-- `data_drive`: below the parity's drive it is the position, else one more; a data position has its drive below N. Assumes nothing.
use mathlib.Core.Path.{◌≡◌, sym, ap, ◌∙◌, subst}
use mathlib.Core.Bool.{Bool, true, false, cond}
use Prim.Native.Nat.{suc, ◌<◌}
use native.Mathlib.Omega.{arith}
use native.Mathlib.Numerals.{add-one}
use lib.Dec.{ltb}
use borrow.Author.Tests.{lt-ltb, le-ltb}
use Rattle.spec.specs.Layout.{parity_drive, data_drive}
use Rattle.law_basic.specs.Geometry.{ranged, data_count_high, data_drive_lt}
use Rattle.disk_shape.proofs.data_drive.Goals as goal

pub returns-then-position-parity_drive : goal.returns-then-position-parity_drive
unfolding data_drive
returns-then-position-parity_drive c =
    let a = c.args in
    let p = a.p in
    let s = a.stripe in
    let i = a.position in
    let h = c.requires.position_bound in
    let q = c.parity_drive.ensures.0 in
    let e : ltb i (parity_drive p s) ≡ true = lt-ltb i (parity_drive p s) (omega (arith, q, c.if-position-parity_drive.true)) in
    (sym (ap (λ (b : Bool). cond b i (suc i)) e), omega (arith, c.if-position-parity_drive.true, c.parity_drive.ensures.1))

pub overflow_add-result : goal.overflow_add-result
overflow_add-result c =
    let args = c.args in
    let pre = c.requires in
    let r = ranged args.p pre.p_value in omega (arith, pre.position_bound, data_count_high args.p r)

pub returns : goal.returns
unfolding data_drive
returns c =
    let a = c.args in
    let p = a.p in
    let s = a.stripe in
    let i = a.position in
    let h = c.requires.position_bound in
    let q = c.parity_drive.ensures.0 in
    let e : ltb i (parity_drive p s) ≡ false = le-ltb i (parity_drive p s) (omega (arith, q, c.if-position-parity_drive.false)) in
    let w : cond (ltb i (parity_drive p s)) i (suc i) < p.N = data_drive_lt p s i h in
    (add-one i ∙ sym (ap (λ (b : Bool). cond b i (suc i)) e), omega (arith, subst (λ (b : Bool). cond b i (suc i) < p.N) e w))
