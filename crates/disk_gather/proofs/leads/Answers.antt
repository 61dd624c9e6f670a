-- `leads`: the two tests in their order. Assumes nothing.
use Rattle.disk_drives.specs.Viewed.{viewed}
use mathlib.Core.Path.{sym, ap, ◌∙◌}
use mathlib.Core.Bool.{Bool, ◌&&◌}
use Prim.Native.Nat.{ℕ}
use lib.Dec.{eqb}
use Rattle.spec.specs.Segments.{serial_in, lowest_bearing, leads}
use Rattle.disk_gather.proofs.leads.Goals as goal

pub returns-then-is_used : goal.returns-then-is_used
unfolding leads
returns-then-is_used c =
    let a = c.args in
    let v = viewed a.drives.now in
    ap (λ (n : ℕ). eqb n a.zone)
    (c.lowest_bearing.ensures.0 ∙ ap (lowest_bearing a.drives.now.p v a.drive) (c.serial_in.ensures a.drives.now.offline.now a.drives.now.pointers.now c.args.drives.now.whole.pointers_long))
    ∙ sym (ap (λ (b : Bool). b && eqb (lowest_bearing a.drives.now.p v a.drive (serial_in a.drives.now.p v a.drive a.zone)) a.zone)
    (sym (c.is_used.ensures a.drives.now.image.now c.args.drives.now.whole.image_long) ∙ c.if-is_used.true))

pub returns-else-is_used : goal.returns-else-is_used
unfolding leads
returns-else-is_used c =
    let a = c.args in
    let v = viewed a.drives.now in
    c.if-is_used.false
    ∙ sym (ap (λ (b : Bool). b && eqb (lowest_bearing a.drives.now.p v a.drive (serial_in a.drives.now.p v a.drive a.zone)) a.zone)
    (sym (c.is_used.ensures a.drives.now.image.now c.args.drives.now.whole.image_long) ∙ c.if-is_used.false))
