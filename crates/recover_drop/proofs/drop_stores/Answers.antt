-- `drop_stores`: what is owed are the resets that the drives still ask for; a turn pays those of the lowest serial, and fewer zones wait. Assumes nothing.
use Rattle.std.specs.Prelude.{Ok}
use mathlib.Core.Path.{sym, ◌∙◌, subst}
use mathlib.Core.List.{List}
use Prim.Native.Nat.{◌*◌, ◌<◌}
use native.Mathlib.Omega.{arith}
use Rattle.spec.specs.Drives.{Store, mk_disk, view_of}
use Rattle.spec.specs.Params.{offline_len}
use Rattle.law_basic.specs.Geometry.{ranged}
use Rattle.disk_zones.specs.Made.{too_few, Storing, storing_exit}
use Rattle.recover_drop.specs.Dropped.{drops_are, serials-start, serials_done, serials-cut, serials_turn, serials-fewer}
use Rattle.recover_drop.proofs.drop_stores.Goals as goal
use Rattle.recover_drop.proofs.drop_stores.Goals.{After-drop_serial}

pub offline_len-n-requires : goal.offline_len-n-requires
offline_len-n-requires c = c.requires.p_value

pub lowest_untaken-at-requires : goal.lowest_untaken-at-requires
lowest_untaken-at-requires c = let q = c.requires in record { taken_long = q.drops.0 }

pub loop-at-init : goal.loop-at-init
loop-at-init c =
    let a = c.args in
    let q = c.requires in (
      serials-start a.p (ranged a.p q.p_value) a.offline.now a.image.now q.whole.0.image_long a.taken.now a.count a.pointers.now
          q.whole.0.pointers_long,
      c.lowest_untaken-at.ensures,
    )

pub serial_no-serial-requires : goal.serial_no-serial-requires
unfolding offline_len
serial_no-serial-requires c =
    let q = c.requires in record { p_value = q.p_value; image_len = (q.whole.0.image_long, omega (arith, c.loop-at-test.true, c.offline_len-n.ensures.0)) }

pub drop_serial-requires : goal.drop_serial-requires
drop_serial-requires c =
    let q = c.requires in record { p_value = q.p_value; whole = (record { image_long = q.whole.0.image_long; pointers_long = c.loop-at.invariant.0.serials_long }, q.whole.1, q.drops.0) }

pub shape_of-pointers-in_err-left : goal.shape_of-pointers-in_err-left
shape_of-pointers-in_err-left c = c.drop_serial.auto.pointers ∙ c.loop-at.invariant.0.serials_long ∙ sym
    c.requires.whole.0.pointers_long

-- a zone was found
found : (c : After-drop_serial)
    → c.loop-at.at < c.args.p.N
    * c.args.p.Z
unfolding offline_len
found c = omega (arith, c.loop-at-test.true, c.offline_len-n.ensures.0)

pub returns-in_err-left : goal.returns-in_err-left
returns-in_err-left c =
    let a = c.args in
    let q = c.requires in
    let r = ranged a.p q.p_value in
    let l = c.loop-at in
    let m = c.drop_serial in
    let s = c.serial_no-serial in
    let k = mk_disk a.image.now a.pointers.now in
    let v = view_of a.p a.offline.now a.image.now a.pointers.now in
    storing_exit c.from_residual.result c.from_residual.ensures.0
    (subst (λ (x : List Store). Storing a.p a.count x k too_few (mk_disk a.image.now m.new.pointers)) (sym (drops_are a.p r v a.taken.now q.drops))
    (serials-cut a.p r a.offline.now a.image.now q.whole.0.image_long a.taken.now a.count a.pointers.now q.whole.0.pointers_long l.left l.pointers l.invariant.0
    l.at l.invariant.1 (found (goal.at.returns-in_err-left c).After-drop_serial) s.result.0 (s.ensures a.offline.now l.pointers l.invariant.0.serials_long) m.new.pointers c.in_err-left.ensures))

pub lowest_untaken-at-requires-in-loop-at : goal.lowest_untaken-at-requires-in-loop-at
lowest_untaken-at-requires-in-loop-at c =
    let q = c.requires in record { taken_long = q.drops.0 }

pub loop-at-smaller : goal.loop-at-smaller
loop-at-smaller c =
    let a = c.args in
    let q = c.requires in
    let l = c.loop-at in
    let m = c.drop_serial in
    let s = c.serial_no-serial in
    serials-fewer a.p (ranged a.p q.p_value) a.offline.now a.image.now q.whole.0.image_long a.taken.now a.count a.pointers.now q.whole.0.pointers_long
    l.left l.pointers l.invariant.0 l.at l.invariant.1 (found (goal.at.loop-at-smaller c).After-drop_serial) s.result.0
    (s.ensures a.offline.now l.pointers l.invariant.0.serials_long) c.in_ok-left.left m.new.pointers c.in_ok-left.ensures

pub loop-at-preserved : goal.loop-at-preserved
loop-at-preserved c =
    let a = c.args in
    let q = c.requires in
    let l = c.loop-at in
    let m = c.drop_serial in
    let s = c.serial_no-serial in (
      serials_turn a.p (ranged a.p q.p_value) a.offline.now a.image.now q.whole.0.image_long a.taken.now a.count a.pointers.now q.whole.0.pointers_long
          l.left l.pointers l.invariant.0 l.at l.invariant.1 (found (goal.at.loop-at-preserved c).After-drop_serial) s.result.0
          (s.ensures a.offline.now l.pointers l.invariant.0.serials_long) c.in_ok-left.left m.new.pointers c.in_ok-left.ensures m.auto.pointers,
      c.lowest_untaken-at-in-loop-at.ensures,
    )

pub shape_of-pointers : goal.shape_of-pointers
shape_of-pointers c = c.loop-at.invariant.0.serials_long ∙ sym c.requires.whole.0.pointers_long

pub returns : goal.returns
unfolding offline_len
returns c =
    let a = c.args in
    let q = c.requires in
    let r = ranged a.p q.p_value in
    let l = c.loop-at in
    let k = mk_disk a.image.now a.pointers.now in
    let v = view_of a.p a.offline.now a.image.now a.pointers.now in
    subst (λ (x : List Store). Storing a.p a.count x k (Ok l.left) (mk_disk a.image.now l.pointers)) (sym (drops_are a.p r v a.taken.now q.drops))
    (serials_done a.p r a.offline.now a.image.now q.whole.0.image_long a.taken.now a.count a.pointers.now q.whole.0.pointers_long l.left l.pointers l.invariant.0
    l.at l.invariant.1 (omega (arith, c.loop-at-test.false, c.offline_len-n.ensures.0)))
