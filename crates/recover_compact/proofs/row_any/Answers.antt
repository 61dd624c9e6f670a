-- `row_any`: a missing drive leaves the table as it is; a present one's row is put in its place. Assumes nothing.
use mathlib.Core.Path.{sym, ap, ◌∙◌, subst}
use mathlib.Core.List.{List}
use Prim.Native.Nat.{ℕ, ◌<◌}
use Rattle.spec.specs.Bytes.{splice}
use Rattle.spec.specs.Drives.{view_of, zone_at, zone_on}
use Rattle.spec.specs.Lists.{is_in}
use Rattle.spec.specs.Memory.{compact_at}
use Rattle.spec.specs.Segments.{records_in, compact_row}
use Rattle.law_basic.specs.Segs.{low_zone}
use Rattle.law_drives.specs.Tests.{cond_true, cond_false}
use Rattle.recover_compact.proofs.row_any.Goals as goal

pub returns-then-has_drive : goal.returns-then-has_drive
returns-then-has_drive c =
    let a = c.args in
    let p = a.p in
    λ off. sym (cond_true (is_in a.gone a.drive) a.compact.now
    (splice a.compact.now (compact_at p a.drive (zone_on a.segment a.drive) 0)
    (compact_row p (records_in p a.full (zone_at (view_of p off a.image.now a.pointers.now) a.drive (zone_on a.segment a.drive)))))
    (sym c.has_drive.ensures ∙ c.if-has_drive.true))

pub row-requires : goal.row-requires
row-requires c =
    let a = c.args in
    let q = c.requires.compact_len in
    let low = low_zone a.p a.gone a.segment a.drive q.2 q.1 (sym c.has_drive.ensures ∙ c.if-has_drive.false) in
    record { p_value = c.requires.p_value; whole = c.requires.whole; compact_len = (q.0, q.1, subst (λ (n : ℕ). n < a.p.Z) (sym c.zone_on.ensures) low) }

pub returns : goal.returns
returns c =
    let row = c.row in
    let zone_on_holds = c.zone_on in
    let has-drive = c.has_drive in
    let if1 = c.if-has_drive in
    let a = c.args in
    let p = a.p in
    λ off.
    let put : ℕ → List ℕ = λ z. splice a.compact.now (compact_at p a.drive z 0)
    (compact_row p (records_in p a.full (zone_at (view_of p off a.image.now a.pointers.now) a.drive z))) in
    row.ensures off ∙ ap put zone_on_holds.ensures
    ∙ sym (cond_false (is_in a.gone a.drive) a.compact.now (put (zone_on a.segment a.drive)) (sym has-drive.ensures ∙ if1.false))
