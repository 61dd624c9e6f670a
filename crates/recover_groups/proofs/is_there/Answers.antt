-- `is_there`: a missing drive makes the first part true; else it is false, and the index decides. Assumes nothing.
use mathlib.Core.Path.{sym, ap, ◌∙◌}
use mathlib.Core.Bool.{Bool, not, ◌||◌}
use Prim.Native.Nat.{◌+◌, ◌*◌}
use lib.Dec.{eqb}
use lib.ListN.{get_or}
use native.Mathlib.Omega.{arith}
use Rattle.law_basic.specs.Geometry.{ranged}
use Rattle.recover_groups.proofs.is_there.Goals as goal

pub has_chunk-requires : goal.has_chunk-requires
has_chunk-requires c =
    let h = c.requires in
    (h.at_len.0, omega (arith, h.at_len.1, (ranged c.args.p h.p_value).drives_high), h.at_len.2)

pub returns-then-has_drive : goal.returns-then-has_drive
returns-then-has_drive c =
    let args = c.args in
    sym (ap (λ (b : Bool). b || not (eqb (get_or args.at.now (256 * args.drive + args.k) 0) 0)) (sym c.has_drive.ensures ∙ c.if-has_drive.true))

pub returns : goal.returns
returns c =
    let has-drive = c.has_drive in
    let args = c.args in
    c.has_chunk.ensures.value ∙ sym (ap (λ (b : Bool). b || not (eqb (get_or args.at.now (256 * args.drive + args.k) 0) 0)) (sym has-drive.ensures ∙ c.if-has_drive.false))
