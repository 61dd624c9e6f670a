-- `drop_zone`: no stores where the zone is taken, not used or bears another serial; else its reset. Assumes nothing.
use Rattle.std.specs.Prelude.{Ok}
use mathlib.Core.Path.{sym, ◌∙◌, subst}
use mathlib.Core.List.{List}
use native.Mathlib.Omega.{arith}
use borrow.Author.Tests.{not-true, not-false}
use Rattle.spec.specs.Drives.{Store, mk_disk, view_of}
use Rattle.law_basic.specs.Geometry.{ranged}
use Rattle.disk_zones.specs.Made.{Storing, storing_none}
use Rattle.recover_drop.specs.Dropped.{reset_no, one_none, dropped_one-other, one_is, number_drive, number_zone}
use Rattle.recover_drop.proofs.drop_zone.Goals as goal

pub is_untaken-requires : goal.is_untaken-requires
is_untaken-requires c =
    let q = c.requires in record { p_value = q.p_value; pointers_len = (q.whole.0.pointers_long, q.whole.1, q.whole.2, q.whole.3) }

pub returns-then-not-is_untaken : goal.returns-then-not-is_untaken
returns-then-not-is_untaken c =
    let a = c.args in
    let q = c.requires in
    let k = mk_disk a.image.now a.pointers.now in
    subst (λ (l : List Store). Storing a.p a.count l k (Ok a.count) k)
    (sym (one_none a.p (view_of a.p a.offline.now a.image.now a.pointers.now) a.taken.now a.serial.0 a.i
    (sym (c.is_untaken.ensures a.image.now q.whole.0.image_long) ∙ not-true c.is_untaken.result c.if-not-is_untaken.true-raw))) (storing_none a.p a.count k)

pub serial_no-s-requires : goal.serial_no-s-requires
serial_no-s-requires c =
    let q = c.requires in record { p_value = q.p_value; image_len = (q.whole.0.image_long, q.whole.3) }

pub returns-then-s-serial : goal.returns-then-s-serial
returns-then-s-serial c =
    let a = c.args in
    let q = c.requires in
    let k = mk_disk a.image.now a.pointers.now in
    let e = c.serial_no-s.ensures a.offline.now a.pointers.now q.whole.0.pointers_long in
    subst (λ (l : List Store). Storing a.p a.count l k (Ok a.count) k)
    (sym (dropped_one-other a.p (view_of a.p a.offline.now a.image.now a.pointers.now) a.taken.now a.serial.0 a.i (λ x. c.if-s-serial.true (e ∙ x))))
    (storing_none a.p a.count k)

pub nonzero_div-i : goal.nonzero_div-i
nonzero_div-i c = omega (
  arith,
  (ranged c.args.p
      c.requires.p_value).zones_low,
)

pub nonzero_rem-i : goal.nonzero_rem-i
nonzero_rem-i c = omega (
  arith,
  (ranged c.args.p
      c.requires.p_value).zones_low,
)

pub reset_limited-requires : goal.reset_limited-requires
reset_limited-requires c =
    let a = c.args in
    let q = c.requires in
    let r = ranged a.p q.p_value in record { p_value = q.p_value; pointers_len = (q.whole.0.pointers_long, number_drive a.p r a.i q.whole.3, number_zone a.p r a.i) }

pub returns : goal.returns
unfolding reset_no
returns c =
    let a = c.args in
    let q = c.requires in
    let m = c.reset_limited in
    let e = c.serial_no-s.ensures a.offline.now a.pointers.now q.whole.0.pointers_long in
    subst (λ (l : List Store). Storing a.p a.count l (mk_disk a.image.now a.pointers.now) m.result (mk_disk a.image.now m.new.pointers))
    (sym (one_is a.p (view_of a.p a.offline.now a.image.now a.pointers.now) a.taken.now a.serial.0 a.i
    (sym (c.is_untaken.ensures a.image.now q.whole.0.image_long) ∙ not-false
    c.is_untaken.result
    c.if-not-is_untaken.false-raw) (sym e ∙ c.if-s-serial.false)))
    (m.ensures a.image.now)
