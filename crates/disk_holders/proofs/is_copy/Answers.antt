-- `is_copy`: the copied serial by the header of the segment's zone on the lowest present drive (`copies_none`, `copies_self`, `copies_left`). Assumes nothing.
use Rattle.disk_drives.specs.Viewed.{viewed}
use mathlib.Core.Path.{◌≡◌, sym, ◌∙◌, subst}
use Prim.Native.Nat.{ℕ, ◌<◌}
use mathlib.Core.Bool.{false}
use Rattle.spec.specs.Lists.{is_in}
use Rattle.disk_holders.specs.Borne.{copies_none, copies_self, copies_left}
use Rattle.disk_holders.proofs.is_copy.Goals as goal

pub copied_in-c-requires : goal.copied_in-c-requires
copied_in-c-requires c =
    let a = c.args in record {
      p_value = c.args.drives.now.sound;
      image_len =
          (c.args.drives.now.whole.image_long, subst (λ (n : ℕ). n < a.drives.now.p.N) (sym c.requires.low_value.0) c.requires.here.0, c.requires.low_value.1);
    }

pub returns-then-c-eq0 : goal.returns-then-c-eq0
returns-then-c-eq0 c =
    let a = c.args in
    let v = viewed a.drives.now in
    let k = c.copied_in-c in
    sym (copies_none a.drives.now.p v a.gone a.serial.0 a.low a.first k.result.0 c.requires.low_value.0 c.requires.low_value.2
    (k.ensures a.drives.now.offline.now a.drives.now.pointers.now c.args.drives.now.whole.pointers_long) c.if-c-eq0.true)

pub returns-then-c-serial : goal.returns-then-c-serial
returns-then-c-serial c =
    let a = c.args in
    let v = viewed a.drives.now in
    let k = c.copied_in-c in
    sym (copies_self a.drives.now.p v a.gone a.serial.0 a.low a.first k.result.0 c.requires.low_value.0 c.requires.low_value.2
    (k.ensures a.drives.now.offline.now a.drives.now.pointers.now c.args.drives.now.whole.pointers_long) c.if-c-serial.true)

pub is_left-requires : goal.is_left-requires
is_left-requires c =
    let a = c.args in
    let here = c.requires.here in
    let q = sym c.requires.low_value.0 in record { low_lt_n = (subst (λ (n : ℕ). n < a.drives.now.p.N) q here.0, subst (λ (n : ℕ). is_in a.gone n ≡ false) q here.1) }

pub returns : goal.returns
returns c =
    let a = c.args in
    let v = viewed a.drives.now in
    let k = c.copied_in-c in
    c.is_left.ensures
    ∙ sym (copies_left a.drives.now.p v a.gone a.serial.0 a.low a.first k.result.0 c.requires.low_value.0 c.requires.low_value.2
    (k.ensures a.drives.now.offline.now a.drives.now.pointers.now c.args.drives.now.whole.pointers_long) c.if-c-eq0.false c.if-c-serial.false)
