-- `move_if`: a stripe that does not count leaves all as it was (`step_none`); one that counts is moved once, and the next number is one higher (`step-one`). Assumes nothing.
use Prim.Native.Nat.{ℕ, ◌+◌}
use Rattle.spec.specs.Drives.{mk_disk}
use Rattle.spec.specs.Segments.{counts}
use Rattle.recover_groups.specs.Bases.{group_len_le}
use Rattle.recover_groups.specs.Chunks.{counts-entered}
use Rattle.recover_groups.specs.Groups.{segment_in}
use Rattle.law_basic.specs.Geometry.{ranged}
use Rattle.recover_move.specs.Moves.{shown-low}
use Rattle.recover_rewrite.specs.Due.{itself, itself-counts, itself_none, step_none, step-one, step_short, fit_one}
use Rattle.law_views.specs.Views.{seen}
use borrow.Author.Tests.{not-true, not-false}
use mathlib.Core.Bool.{true}
use mathlib.Core.List.{List, []}
use mathlib.Core.Path.{◌≡◌, sym, ap, ◌∙◌}
use native.Mathlib.Omega.{arith}
use Rattle.disk_zones.specs.Made.{only_cut}
use Rattle.recover_rewrite.proofs.move_if.Goals as goal
use Rattle.recover_rewrite.proofs.move_if.Goals.{After-counts}

pub counts-requires : goal.counts-requires
counts-requires c =
    let args = c.args in
    let pre = c.requires in record {
      p_value = pre.p_value;
      at_len =
          (pre.moves_shown.at_long, omega (arith, group_len_le args.p args.w.base, pre.moves_shown.in_group, (ranged args.p pre.p_value).group_high));
    }

pub returns-then-not-counts : goal.returns-then-not-counts
returns-then-not-counts c =
    let args = c.args in
    let pre = c.requires in
    λ off. step_none args.p (segment_in args.p off args.image.now args.pointers.now args.w) args.to
    (itself args.p (segment_in args.p off args.image.now args.pointers.now args.w) (args.w.base + args.k)) args.m
    (mk_disk args.image.now args.pointers.now)
    (itself_none args.p (segment_in args.p off args.image.now args.pointers.now args.w) (args.w.base + args.k)
    (ap (λ (y : ℕ). counts args.p y (segment_in args.p off args.image.now args.pointers.now args.w) (args.w.base + args.k))
    (sym pre.moves_shown.none_gone)
    ∙ sym (c.counts.ensures (segment_in args.p off args.image.now args.pointers.now args.w) args.w.base
    (pre.by_index off).indexed pre.moves_shown.in_group)
    ∙ not-true c.counts.result c.if-not-counts.true-raw))

-- the stripe counts
counted! : (c : After-counts) → c.counts.result ≡ true → (off : List ℕ)
    → counts c.args.p 0 (segment_in c.args.p off c.args.image.now c.args.pointers.now c.args.w) (c.args.w.base + c.args.k) ≡ true
counted! c e off =
    let args = c.args in
    let pre = c.requires in
    ap (λ (y : ℕ). counts args.p y (segment_in args.p off args.image.now args.pointers.now args.w) (args.w.base + args.k)) (sym pre.moves_shown.none_gone)
    ∙ sym (c.counts.ensures (segment_in args.p off args.image.now args.pointers.now args.w) args.w.base (pre.by_index off).indexed pre.moves_shown.in_group) ∙ e

pub move_stripe-requires : goal.move_stripe-requires
move_stripe-requires c =
    let args = c.args in
    let pre = c.requires in
    let cnt = counted! (goal.at.move_stripe-requires c).After-counts (not-false c.counts.result c.if-not-counts.false-raw) in record {
      p_value = pre.p_value;
      whole = pre.whole;
      moves_shown = pre.moves_shown;
      all_entered = counts-entered args.p 0 (segment_in args.p [] args.image.now args.pointers.now args.w) args.w.base args.at.now
          args.k (pre.by_index []).indexed pre.moves_shown.in_group (cnt []);
      by_index = pre.by_index;
      zones_low = (
        pre.zones_low.0,
        omega (
          arith,
          shown-low args.p args.w args.at.now args.k pre.moves_shown,
          (ranged args.p pre.p_value).stripes_high,
          pre.zones_low.1,
        ),
        pre.zones_low.2,
      );
      by_index_2 = λ off. fit_one args.p (seen args.p off (mk_disk args.image.now args.pointers.now))
          (segment_in args.p off args.image.now args.pointers.now args.w) args.to (args.w.base + args.k)
          args.m.next (cnt off) (pre.by_index_2 off);
    }

pub overflow_add-result : goal.overflow_add-result
overflow_add-result c =
    let args = c.args in
    let pre = c.requires in
    omega (arith, shown-low args.p args.w args.at.now args.k pre.moves_shown, (ranged args.p pre.p_value).stripes_high, pre.zones_low.1)

pub returns-in_err-left : goal.returns-in_err-left
returns-in_err-left c =
    let args = c.args in
    λ off.
    let g = segment_in args.p off args.image.now args.pointers.now args.w in
    let s = args.w.base + args.k in
    let cnt = counted! (goal.at.returns-in_err-left c).After-counts (not-false c.counts.result c.if-not-counts.false-raw) off in
    rw (only_cut c.from_residual.result c.from_residual.ensures.0) (step_short args.p g args.to s (itself args.p g s) args.m
    (mk_disk args.image.now args.pointers.now) (mk_disk c.move_stripe.new.image c.move_stripe.new.pointers) (itself-counts args.p g s cnt) (c.in_err-left.ensures off))

pub returns : goal.returns
returns c =
    let args = c.args in
    λ off.
    let g = segment_in args.p off args.image.now args.pointers.now args.w in
    let s = args.w.base + args.k in
    let cnt = counted! (goal.at.returns c).After-counts (not-false c.counts.result c.if-not-counts.false-raw) off in
    step-one args.p g args.to s (itself args.p g s) args.m (mk_disk args.image.now args.pointers.now) c.in_ok-left.left
    (mk_disk c.move_stripe.new.image c.move_stripe.new.pointers) (itself-counts args.p g s cnt) (c.in_ok-left.ensures off)
