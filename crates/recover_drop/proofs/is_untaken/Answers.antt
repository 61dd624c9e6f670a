-- `is_untaken`: a taken zone is none; else it is one if it is used. Assumes nothing.
use mathlib.Core.Path.{sym, ap, ◌∙◌}
use mathlib.Core.Bool.{Bool, not, ◌&&◌}
use Prim.Native.Nat.{◌/◌, ◌%◌}
use native.Mathlib.Omega.{arith}
use Rattle.spec.specs.Drives.{view_of}
use Rattle.spec.specs.Segments.{is_used}
use Rattle.law_basic.specs.Geometry.{ranged}
use Rattle.recover_drop.specs.Dropped.{untaken_no, number_drive, number_zone}
use Rattle.recover_drop.proofs.is_untaken.Goals as goal

pub returns-then-taken-i : goal.returns-then-taken-i
unfolding untaken_no
returns-then-taken-i c =
    let a = c.args in
    λ im h. sym (ap (λ (b : Bool). not b && is_used a.p (view_of a.p a.offline.now im a.pointers.now) (a.i / a.p.Z) (a.i % a.p.Z)) c.if-taken-i.true)

pub nonzero_div-i : goal.nonzero_div-i
nonzero_div-i c = omega (arith, (ranged c.args.p c.requires.p_value).zones_low)

pub nonzero_rem-i : goal.nonzero_rem-i
nonzero_rem-i c = omega (arith, (ranged c.args.p c.requires.p_value).zones_low)

pub is_used-requires : goal.is_used-requires
is_used-requires c =
    let a = c.args in
    let q = c.requires in
    let r = ranged a.p q.p_value in record { p_value = q.p_value; pointers_len = (q.pointers_len.0, q.pointers_len.1); drive_lt_n = (number_drive a.p r a.i q.pointers_len.3, number_zone a.p r a.i) }

pub returns : goal.returns
unfolding untaken_no
returns c =
    let a = c.args in
    λ im h. c.is_used.ensures im h
    ∙ sym (ap (λ (b : Bool). not b && is_used a.p (view_of a.p a.offline.now im a.pointers.now) (a.i / a.p.Z) (a.i % a.p.Z)) c.if-taken-i.false)
