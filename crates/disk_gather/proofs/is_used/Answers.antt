-- `is_used`: the two tests in their order (`used_bytes`). Assumes nothing.
use mathlib.Core.Path.{sym, ap, ◌∙◌}
use mathlib.Core.Bool.{Bool, not, ◌&&◌}
use Prim.Native.Nat.{ℕ}
use lib.Dec.{eqb}
use Rattle.spec.specs.Drives.{pointer_of}
use Rattle.disk_gather.specs.Found.{used_bytes}
use Rattle.disk_gather.proofs.is_used.Goals as goal

pub returns-then-is_good : goal.returns-then-is_good
returns-then-is_good c =
    let a = c.args in
    λ im h. ap (λ (n : ℕ). not (eqb n 0)) c.pointer.ensures
    ∙ sym (used_bytes a.p a.offline.now im a.pointers.now h c.requires.pointers_len.0 a.drive a.zone c.requires.drive_lt_n.0 c.requires.drive_lt_n.1
    ∙ ap (λ (b : Bool). b && not (eqb (pointer_of a.p a.pointers.now a.drive a.zone) 0)) (sym c.is_good.ensures ∙ c.if-is_good.true))

pub returns-else-is_good : goal.returns-else-is_good
returns-else-is_good c =
    let a = c.args in
    λ im h. c.if-is_good.false
    ∙ sym (used_bytes a.p a.offline.now im a.pointers.now h c.requires.pointers_len.0 a.drive a.zone c.requires.drive_lt_n.0 c.requires.drive_lt_n.1
    ∙ ap (λ (b : Bool). b && not (eqb (pointer_of a.p a.pointers.now a.drive a.zone) 0)) (sym c.is_good.ensures ∙ c.if-is_good.false))
