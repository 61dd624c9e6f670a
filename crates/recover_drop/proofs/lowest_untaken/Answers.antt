-- `lowest_untaken`: among the zones below i, best has the lowest serial. Assumes nothing.
use Rattle.disk_drives.specs.Viewed.{viewed}
use mathlib.Core.Path.{sym, ◌∙◌, subst}
use Prim.Native.Nat.{ℕ, ◌+◌}
use native.Mathlib.Omega.{arith}
use Rattle.spec.specs.Params.{offline_len}
use Rattle.recover_drop.specs.Dropped.{serial_no, untaken_no}
use Rattle.recover_drop.specs.Rising.{LeastKey, LeastSo, least_begin, least-all, least_miss, least_hit}
use Rattle.recover_drop.proofs.lowest_untaken.Goals as goal
use Rattle.recover_drop.proofs.lowest_untaken.Goals.{else-is_untaken, then-is_untaken}

pub offline_len-n-requires : goal.offline_len-n-requires
offline_len-n-requires c = c.args.drives.now.sound

pub loop-i-init : goal.loop-i-init
loop-i-init c =
    let a = c.args in
    let v = viewed a.drives.now in
    least_begin (untaken_no a.drives.now.p v a.taken.now) (serial_no a.drives.now.p v) c.offline_len-n.result

pub is_untaken-requires : goal.is_untaken-requires
unfolding offline_len
is_untaken-requires c =
    let q = c.requires in record {
      p_value = c.args.drives.now.sound;
      pointers_len =
          (c.args.drives.now.whole.pointers_long, c.args.drives.now.listed, q.taken_long, omega (arith, c.loop-i-test.true, c.offline_len-n.ensures.0));
    }

pub lower-best-requires : goal.lower-best-requires
unfolding offline_len
lower-best-requires c =
    let q = c.requires in record { p_value = c.args.drives.now.sound; image_len = (c.args.drives.now.whole.image_long, c.offline_len-n.ensures.0, c.loop-i-test.true) }

pub loop-i-preserved : goal.loop-i-preserved
loop-i-preserved c =
    let a = c.args in
    let q = c.requires in
    let v = viewed a.drives.now in
    let l = c.loop-i in
    let t = c.loop-i-test.true in
    let e = c.is_untaken.ensures a.drives.now.image.now c.args.drives.now.whole.image_long in
    let n = c.offline_len-n.result in
    let f = untaken_no a.drives.now.p v a.taken.now in
    let g = serial_no a.drives.now.p v in
    elim c.if-is_untaken.branch [
      | then-is_untaken w ↦ subst (λ (b : ℕ). LeastSo f g n (l.i + 1) b) (sym w.best-is)
          (least_hit f g n l.i l.best l.invariant t w.lower-best.result (sym e ∙ w.if-is_untaken.true)
          (w.lower-best.ensures a.drives.now.offline.now a.drives.now.pointers.now c.args.drives.now.whole.pointers_long))
      | else-is_untaken w ↦ subst (λ (b : ℕ). LeastSo f g n (l.i + 1) b) (sym w.best-is) (least_miss f g n l.i l.best l.invariant t (sym e ∙ w.if-is_untaken.false))
    ]

pub returns : goal.returns
unfolding offline_len
returns c =
    let a = c.args in
    let v = viewed a.drives.now in
    let l = c.loop-i in
    subst (λ (n : ℕ). LeastKey (untaken_no a.drives.now.p v a.taken.now) (serial_no a.drives.now.p v) n l.best) c.offline_len-n.ensures.0
    (least-all (untaken_no a.drives.now.p v a.taken.now) (serial_no a.drives.now.p v) c.offline_len-n.result l.i l.best l.invariant (omega (arith, c.loop-i-test.false)))
