-- `bears`: the two tests in their order. Assumes nothing.
use Rattle.disk_drives.specs.Viewed.{viewed}
use mathlib.Core.Path.{sym, ap, ◌∙◌}
use mathlib.Core.Bool.{Bool, ◌&&◌}
use Prim.Native.Nat.{ℕ}
use lib.Dec.{eqb}
use Rattle.spec.specs.Segments.{serial_in}
use Rattle.law_basic.specs.Geometry.{ranged}
use Rattle.disk_gather.specs.Found.{serial_bytes, found_header_room}
use Rattle.disk_gather.specs.Index.{bears_at}
use Rattle.disk_gather.proofs.bears.Goals as goal

pub serial_here-requires-clause-p_in_bounds : goal.serial_here-requires-clause-p_in_bounds
serial_here-requires-clause-p_in_bounds c =
    let a = c.args in
    let q = c.requires in found_header_room a.drives.now.p a.drive a.zone a.at a.drives.now.image.now (ranged a.drives.now.p c.args.drives.now.sound) q.drive_lt_n.0
    q.drive_lt_n.1 q.drive_lt_n.2 c.args.drives.now.whole.image_long

pub returns-then-is_used : goal.returns-then-is_used
unfolding bears_at
returns-then-is_used c =
    let a = c.args in
    let q = c.requires in
    let v = viewed a.drives.now in
    ap (λ (n : ℕ). eqb n a.serial.0)
    (c.serial_here.ensures
    ∙ serial_bytes a.drives.now.p a.drives.now.offline.now a.drives.now.image.now a.drives.now.pointers.now c.args.drives.now.whole.image_long
    c.args.drives.now.whole.pointers_long a.drive a.zone q.drive_lt_n.0 q.drive_lt_n.1
    (ranged a.drives.now.p c.args.drives.now.sound) a.at q.drive_lt_n.2)
    ∙ sym (ap (λ (b : Bool). b && eqb (serial_in a.drives.now.p v a.drive a.zone) a.serial.0)
    (sym (c.is_used.ensures a.drives.now.image.now c.args.drives.now.whole.image_long) ∙ c.if-is_used.true))

pub returns-else-is_used : goal.returns-else-is_used
unfolding bears_at
returns-else-is_used c =
    let a = c.args in
    let v = viewed a.drives.now in
    c.if-is_used.false ∙ sym (ap (λ (b : Bool). b && eqb (serial_in a.drives.now.p v a.drive a.zone) a.serial.0)
    (sym (c.is_used.ensures a.drives.now.image.now c.args.drives.now.whole.image_long) ∙ c.if-is_used.false))
