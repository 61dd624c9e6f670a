-- `copy_full`: zones are counted only where a segment is opened. Assumes nothing.
use Rattle.spec.specs.Drives.{view_of}
use Rattle.spec.specs.Write.{scarce}
use borrow.Author.Tests.{not-true, not-false}
use mathlib.Core.Bool.{Bool, ◌&&◌}
use mathlib.Core.Path.{sym, ap, ◌∙◌}
use Rattle.call_reclaim.proofs.copy_full.Goals as goal

pub returns-then-not-a : goal.returns-then-not-a
returns-then-not-a c =
    let a = c.args in
    λ im h. sym (ap (λ (x : Bool). x && scarce a.p (view_of a.p a.offline.now im a.pointers.now) 1) (not-true a.a.opens c.if-not-a.true))

pub returns : goal.returns
returns c =
    let a = c.args in
    λ im h.
    c.scarce.ensures im h
    ∙ sym (ap (λ (x : Bool). x && scarce a.p (view_of a.p a.offline.now im a.pointers.now) 1) (not-false a.a.opens c.if-not-a.false))
