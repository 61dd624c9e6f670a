-- `place_held`: outside the drives nothing; on a missing drive as its zone is named, on a present one as it is held there. Assumes nothing.
use Rattle.disk_drives.specs.Viewed.{viewed}
use mathlib.Core.Path.{◌≡◌, sym, ◌∙◌, subst}
use mathlib.Core.Bool.{false}
use Prim.Native.Nat.{ℕ, ◌≤◌}
use borrow.Author.Tests.{not-true, not-false}
use Rattle.spec.specs.Drives.{view_of}
use Rattle.spec.specs.Lists.{is_in}
use Rattle.std.specs.Prelude.{Some, None}
use Rattle.disk_holders.specs.Held.{HeldOne, held_one, held_good, place_outside, answer_at}
use Rattle.disk_holders.proofs.place_held.Goals as goal

pub place_drive-drive-requires : goal.place_drive-drive-requires
place_drive-drive-requires c = c.args.drives.now.sound

pub returns-then-drives-drive : goal.returns-then-drives-drive
returns-then-drives-drive c =
    let a = c.args in
    let v = viewed a.drives.now in
    record { place_value = place_outside a.drives.now.p v a.gone a.place.0 (subst (λ (n : ℕ). a.drives.now.p.N ≤ n) c.place_drive-drive.ensures.0 c.if-drives-drive.true); held_as = tt }

pub place_zone-zone-requires : goal.place_zone-zone-requires
place_zone-zone-requires c = c.args.drives.now.sound

pub named_held-requires : goal.named_held-requires
named_held-requires c = record { here = c.requires.here; drive_lt_n = (c.if-drives-drive.false, c.place_zone-zone.ensures.1, sym c.has_drive.ensures ∙ c.if-has_drive.true) }

pub returns-then-has_drive : goal.returns-then-has_drive
unfolding view_of
returns-then-has_drive c =
    let a = c.args in
    let v = viewed a.drives.now in
    let r = answer_at a.drives.now.p v a.gone a.place.0 c.place_drive-drive.result c.place_zone-zone.result c.named_held.result
    c.place_drive-drive.ensures.0 c.place_zone-zone.ensures.0
    c.if-drives-drive.false c.named_held.ensures.zone_value c.named_held.ensures.held_as in record { place_value = r.0; held_as = r.1 }

pub held_here-requires : goal.held_here-requires
held_here-requires c = record { here = c.requires.here; drive_lt_n = (c.if-drives-drive.false, c.place_zone-zone.ensures.1) }

pub returns-then-not-held_here : goal.returns-then-not-held_here
returns-then-not-held_here c =
    let a = c.args in
    let v = viewed a.drives.now in
    let d = c.place_drive-drive in
    let z = c.place_zone-zone in
    let h = c.held_here in
    let pr : is_in a.gone d.result ≡ false = sym c.has_drive.ensures ∙ c.if-has_drive.false in
    let r = answer_at a.drives.now.p v a.gone a.place.0 d.result z.result None d.ensures.0 z.ensures.0 c.if-drives-drive.false
    (held_good a.drives.now.p v a.gone c.requires.here d.result z.result c.if-drives-drive.false pr ∙ sym h.ensures ∙ not-true h.result c.if-not-held_here.true-raw) tt in
    record { place_value = r.0; held_as = r.1 }

pub serial_in-requires : goal.serial_in-requires
serial_in-requires c = record { p_value = c.args.drives.now.sound; image_len = (c.args.drives.now.whole.image_long, c.if-drives-drive.false, c.place_zone-zone.ensures.1) }

pub returns : goal.returns
returns c =
    let a = c.args in
    let v = viewed a.drives.now in
    let d = c.place_drive-drive in
    let z = c.place_zone-zone in
    let h = c.held_here in
    let hd = c.if-drives-drive.false in
    let pr : is_in a.gone d.result ≡ false = sym c.has_drive.ensures ∙ c.if-has_drive.false in
    let t = sym h.ensures ∙ not-false h.result c.if-not-held_here.false-raw in
    let s = c.serial_in.ensures a.drives.now.offline.now a.drives.now.pointers.now c.args.drives.now.whole.pointers_long in
    let k : HeldOne a.drives.now.p v a.gone d.result z.result c.serial_in.result.0 =
    subst (HeldOne a.drives.now.p v a.gone d.result z.result) (sym s) (held_one a.drives.now.p v a.gone c.requires.here d.result z.result hd pr t) in
    let r = answer_at a.drives.now.p v a.gone a.place.0 d.result z.result (Some c.serial_in.result) d.ensures.0 z.ensures.0 hd
    (held_good a.drives.now.p v a.gone c.requires.here d.result z.result hd pr ∙ t) k in record { place_value = r.0; held_as = r.1 }
