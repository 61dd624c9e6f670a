-- `drop_serial`: what is owed are the resets of the zones from i on that bear the serial; these zones are as they came. Assumes nothing.
use mathlib.Core.Path.{sym, ◌∙◌}
use Prim.Native.Nat.{◌*◌, ◌<◌}
use native.Mathlib.Omega.{arith}
use Rattle.spec.specs.Params.{offline_len}
use Rattle.law_basic.specs.Geometry.{ranged}
use Rattle.recover_drop.specs.Dropped.{serial_start, serial_done, serial_cut, serial_turn}
use Rattle.disk_zones.specs.Made.{storing_exit}
use Rattle.recover_drop.proofs.drop_serial.Goals as goal
use Rattle.recover_drop.proofs.drop_serial.Goals.{After-drop_zone}

pub offline_len-n-requires : goal.offline_len-n-requires
offline_len-n-requires c = c.requires.p_value

pub loop-i-init : goal.loop-i-init
loop-i-init c =
    let a = c.args in
    let q = c.requires in
    serial_start a.p (ranged a.p q.p_value) a.offline.now a.image.now q.whole.0.image_long a.taken.now a.count a.pointers.now q.whole.0.pointers_long a.serial.0

pub drop_zone-requires : goal.drop_zone-requires
unfolding offline_len
drop_zone-requires c =
    let q = c.requires in record {
      p_value = q.p_value;
      whole = (
        record { image_long = q.whole.0.image_long; pointers_long = c.loop-i.invariant.long },
        q.whole.1,
        q.whole.2,
        omega (arith, c.loop-i-test.true, c.offline_len-n.ensures.0),
      );
    }

pub shape_of-pointers-in_err-left : goal.shape_of-pointers-in_err-left
shape_of-pointers-in_err-left c = c.drop_zone.auto.pointers ∙ c.loop-i.invariant.long ∙ sym
    c.requires.whole.0.pointers_long

-- the stores of a turn
abbrev below! : (c : After-drop_zone)
    → c.loop-i.i < c.args.p.N
    * c.args.p.Z
unfolding offline_len
below! c = omega (arith, c.loop-i-test.true, c.offline_len-n.ensures.0)

pub returns-in_err-left : goal.returns-in_err-left
returns-in_err-left c =
    let a = c.args in
    let q = c.requires in
    let l = c.loop-i in
    let m = c.drop_zone in
    storing_exit c.from_residual.result c.from_residual.ensures.0
    (serial_cut a.p (ranged a.p q.p_value) a.offline.now a.image.now q.whole.0.image_long a.taken.now a.count a.pointers.now q.whole.0.pointers_long a.serial.0
    l.i l.left l.pointers l.invariant (below! (goal.at.returns-in_err-left c).After-drop_zone) m.new.pointers c.in_err-left.ensures)

pub loop-i-preserved : goal.loop-i-preserved
loop-i-preserved c =
    let a = c.args in
    let q = c.requires in
    let l = c.loop-i in
    let m = c.drop_zone in
    serial_turn a.p (ranged a.p q.p_value) a.offline.now a.image.now q.whole.0.image_long a.taken.now a.count a.pointers.now q.whole.0.pointers_long a.serial.0
    l.i l.left l.pointers l.invariant (below! (goal.at.loop-i-preserved c).After-drop_zone) c.in_ok-left.left m.new.pointers c.in_ok-left.ensures m.auto.pointers

pub shape_of-pointers : goal.shape_of-pointers
shape_of-pointers c = c.loop-i.invariant.long ∙ sym c.requires.whole.0.pointers_long

pub returns : goal.returns
unfolding offline_len
returns c =
    let a = c.args in
    let q = c.requires in
    let l = c.loop-i in
    serial_done a.p (ranged a.p q.p_value) a.offline.now a.image.now q.whole.0.image_long a.taken.now a.count a.pointers.now q.whole.0.pointers_long a.serial.0
    l.i l.left l.pointers l.invariant (omega (arith, c.loop-i-test.false, c.offline_len-n.ensures.0))
