-- `record_at`: `is_sealed` is the flag and `zone_on` the zone that the definition hands to `record_in`. Assumes nothing.
use mathlib.Core.Path.{ap₂, ◌∙◌}
use mathlib.Core.Bool.{Bool}
use Prim.Native.Nat.{ℕ}
use Rattle.spec.specs.Drives.{view_of, zone_at, record_in, record_at}
use Rattle.disk_stored.proofs.record_at.Goals as goal

pub record_in-requires : goal.record_in-requires
record_in-requires c =
    let a = c.args in
    let pre = c.requires in
    let h = pre.drive_lt_n in
    let w = pre.whole in record { p_value = pre.p_value; image_len = (w.image_long, h.0, rw c.zone_on-zone.ensures h.3, h.2) }

pub returns : goal.returns
unfolding record_at
returns c =
    let a = c.args in
    let pre = c.requires in
    let w = pre.whole in
    λ off.
    let v = view_of a.p off a.image.now a.pointers.now in
    c.record_in.ensures off a.pointers.now w.pointers_long
    ∙ ap₂ (λ (f : Bool) (z : ℕ). record_in a.p f (zone_at v a.drive z) a.offset) (c.is_sealed-full.ensures off a.image.now w.image_long) c.zone_on-zone.ensures
