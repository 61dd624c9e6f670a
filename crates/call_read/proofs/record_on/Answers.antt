-- `record_on`: of a missing drive nothing is asked; else `record_in` reads the record in the segment's zone there. Assumes nothing.
use mathlib.Core.Path.{◌≡◌, sym, ap, ◌∙◌}
use mathlib.Core.Bool.{true, false}
use Prim.Native.Nat.{ℕ}
use Rattle.spec.specs.Drives.{view_of, zone_at, record_in}
use Rattle.spec.specs.Lists.{is_in}
use Rattle.law_basic.specs.Ranges.{not_both}
use Rattle.law_basic.specs.Segs.{low_zone}
use Rattle.call_read.proofs.record_on.Goals as goal

pub returns-then-has_drive : goal.returns-then-has_drive
returns-then-has_drive c =
    let a = c.args in
    let t : is_in a.gone a.drive ≡ true = sym c.has_drive.ensures ∙ c.if-has_drive.true in
    λ off ps h e. absurd (not_both (is_in a.gone a.drive) t e)

pub record_in-requires : goal.record_in-requires
record_in-requires c =
    let a = c.args in
    let q = c.requires in
    let n : is_in a.gone a.drive ≡ false = sym c.has_drive.ensures
    ∙ c.if-has_drive.false in record {
      p_value = q.p_value;
      image_len =
          (q.image_len.0, q.image_len.1, rw c.zone_on-zone.ensures (low_zone a.p a.gone a.segment a.drive q.image_len.2 q.image_len.1 n), q.image_len.3);
    }

pub returns : goal.returns
returns c =
    let a = c.args in
    λ off ps h e. c.record_in.ensures off ps h ∙ ap (λ (z : ℕ). record_in a.p a.full (zone_at (view_of a.p off a.image.now ps) a.drive z) a.o) c.zone_on-zone.ensures
