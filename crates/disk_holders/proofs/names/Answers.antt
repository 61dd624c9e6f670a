-- `names`: the tests in their order, the cheap ones first (`names_unused`, `names_other`, `names_held`). Assumes nothing.
use Rattle.disk_drives.specs.Viewed.{viewed}
use mathlib.Core.Path.{sym, ◌∙◌, subst}
use Prim.Native.Nat.{ℕ, ◌<◌}
use borrow.Author.Tests.{not-true}
use Rattle.disk_holders.specs.Held.{names_unused, names_other, names_held}
use Rattle.disk_holders.proofs.names.Goals as goal

pub is_used-requires : goal.is_used-requires
is_used-requires c =
    let a = c.args in record {
      p_value = c.args.drives.now.sound;
      pointers_len = (c.args.drives.now.whole.pointers_long, c.args.drives.now.listed);
      drive_lt_n =
          (subst (λ (n : ℕ). n < a.drives.now.p.N) (sym c.requires.low_value.0) c.requires.here.0, c.requires.low_value.2);
    }

pub returns-then-not-is_used : goal.returns-then-not-is_used
returns-then-not-is_used c =
    let a = c.args in
    let v = viewed a.drives.now in
    let u = c.is_used in
    sym (names_unused a.drives.now.p v a.gone a.low a.drive a.zone a.y c.requires.low_value.0
    (sym (u.ensures a.drives.now.image.now c.args.drives.now.whole.image_long) ∙ not-true u.result c.if-not-is_used.true-raw))

pub zone_named-named-requires : goal.zone_named-named-requires
zone_named-named-requires c =
    let a = c.args in record {
      p_value = c.args.drives.now.sound;
      image_len =
          (c.args.drives.now.whole.image_long, subst (λ (n : ℕ). n < a.drives.now.p.N) (sym c.requires.low_value.0) c.requires.here.0, c.requires.low_value.2, c.requires.low_value.1);
    }

pub returns-then-named-zone : goal.returns-then-named-zone
returns-then-named-zone c =
    let a = c.args in
    let v = viewed a.drives.now in
    let n = c.zone_named-named in
    sym (names_other a.drives.now.p v a.gone a.low a.drive a.zone a.y c.requires.low_value.0 n.result
    (n.ensures a.drives.now.offline.now a.drives.now.pointers.now c.args.drives.now.whole.pointers_long) c.if-named-zone.true)

pub held_here-requires : goal.held_here-requires
held_here-requires c =
    let a = c.args in record { here = c.requires.here; drive_lt_n = (subst (λ (n : ℕ). n < a.drives.now.p.N) (sym c.requires.low_value.0) c.requires.here.0, c.requires.low_value.2) }

pub returns : goal.returns
returns c =
    let a = c.args in
    let v = viewed a.drives.now in
    let n = c.zone_named-named in
    c.held_here.ensures
    ∙ sym (names_held a.drives.now.p v a.gone a.low a.drive a.zone a.y c.requires.low_value.0 n.result
    (n.ensures a.drives.now.offline.now a.drives.now.pointers.now c.args.drives.now.whole.pointers_long) c.if-named-zone.false)
