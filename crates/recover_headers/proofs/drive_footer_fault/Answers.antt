-- `drive_footer_fault`: a missing drive makes the first part false; else it is true, and the segment's zone there decides. Assumes nothing.
use mathlib.Core.Path.{sym, ap, ◌∙◌}
use mathlib.Core.Bool.{Bool, not, ◌&&◌}
use Prim.Native.Nat.{ℕ}
use Rattle.spec.specs.Drives.{view_of, zone_at, zone_on}
use Rattle.spec.specs.Faults.{footer_fault_in}
use Rattle.law_basic.specs.Segs.{low_zone}
use Rattle.recover_headers.proofs.drive_footer_fault.Goals as goal

pub returns-then-has_drive : goal.returns-then-has_drive
returns-then-has_drive c =
    let a = c.args in
    λ off.
    let v = view_of a.p off a.image.now a.pointers.now in
    sym (ap (λ (x : Bool). not x && footer_fault_in a.p (zone_at v a.drive (zone_on a.segment a.drive))) (sym c.has_drive.ensures ∙ c.if-has_drive.true))

pub zone_footer_fault-requires : goal.zone_footer_fault-requires
zone_footer_fault-requires c =
    let a = c.args in
    let h = c.requires in
    let low = low_zone a.p a.gone a.segment a.drive h.drive_lt_n.1 h.drive_lt_n.0 (sym c.has_drive.ensures ∙ c.if-has_drive.false) in
    record { p_value = h.p_value; whole = h.whole; drive_lt_n = (h.drive_lt_n.0, rw c.zone_on-zone.ensures low) }

pub returns : goal.returns
returns c =
    let a = c.args in
    λ off.
    let v = view_of a.p off a.image.now a.pointers.now in
    c.zone_footer_fault.ensures off ∙ ap (λ (z : ℕ). footer_fault_in a.p (zone_at v a.drive z)) c.zone_on-zone.ensures
    ∙ sym (ap (λ (x : Bool). not x && footer_fault_in a.p (zone_at v a.drive (zone_on a.segment a.drive)))
    (sym c.has_drive.ensures ∙ c.if-has_drive.false))
