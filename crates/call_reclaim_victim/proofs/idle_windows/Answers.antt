-- `idle_windows`: found is right for the live blocks below first; a turn marks the next window and goes over its zones. Assumes nothing.
use Rattle.spec.specs.Memory.{state_of}
use Prim.Native.Nat.{ℕ, ◌*◌}
use Rattle.call_reclaim_live.specs.Live.{window_nearer}
use Rattle.spec.specs.Drives.{View, view_of}
use Rattle.spec.specs.Params.{capacity, addresses_len}
use Rattle.call_reclaim_victim.specs.Waiting.{waiting-at, waiting_none}
use lib.ListN.{length}
use mathlib.Core.List.{List}
use mathlib.Core.Path.{◌≡◌, refl, ◌∙◌}
use native.Mathlib.Omega.{arith}
use Rattle.call_reclaim_victim.proofs.idle_windows.Goals as goal

pub places-all-requires : goal.places-all-requires
places-all-requires c = c.requires.p_value

pub overflow_mul-step : goal.overflow_mul-step
overflow_mul-step c = omega arith

pub loop-first-init : goal.loop-first-init
loop-first-init c =
    let a = c.args in
    let v : List ℕ → View = λ off. view_of a.p off a.image.now a.pointers.now in (
      omega arith,
      refl,
      λ off. waiting_none a.p (v off) (state_of a.bytes.now) a.segment a.addresses.now,
    )

pub overflow_add-first : goal.overflow_add-first
overflow_add-first c = omega arith

pub mark_window-requires : goal.mark_window-requires
unfolding addresses_len
mark_window-requires c =
    let e = c.min-end.ensures in
    let l = c.loop-first in
    (omega (arith, c.requires.addresses_len.0), omega (arith, e, l.invariant.0), omega (arith, e, l.invariant.1))

pub idle_zones-found-requires : goal.idle_zones-found-requires
idle_zones-found-requires c =
    let pre = c.requires in
    let i = c.loop-first.invariant in
    let e = c.min-end.ensures in
    let k = c.mark_window.auto.marks in
    let s = c.places-all.ensures in record { p_value = pre.p_value; whole = pre.whole; first_le_end = (omega (arith, e, i.0), omega (arith, e, k, i.1), omega (arith, e, s.0), pre.addresses_len.3) }

pub loop-first-smaller : goal.loop-first-smaller
loop-first-smaller c =
    let l = c.loop-first in
    let clip = c.min-end in
    window_nearer l.first clip.result c.places-all.result (8 * length c.args.marks.now) c.loop-first-test.true (omega (arith, c.requires.addresses_len.1)) clip.ensures

pub loop-first-preserved : goal.loop-first-preserved
loop-first-preserved c =
    let a = c.args in
    let m = c.mark_window in
    let i = c.loop-first.invariant in
    (omega (arith, c.min-end.ensures), m.auto.marks ∙ i.1, λ off. c.idle_zones-found.ensures off a.addresses.now m.ensures.marks (i.2 off))

pub shape_of-marks : goal.shape_of-marks
shape_of-marks c = c.loop-first.invariant.1

pub returns : goal.returns
returns c =
    let a = c.args in
    let l = c.loop-first in
    let p = a.p in
    let v : List ℕ → View = λ off. view_of p off a.image.now a.pointers.now in
    let s = c.places-all.ensures.0 in
    let f : l.first ≡ c.places-all.result = omega (arith, l.invariant.0, c.loop-first-test.false) in
    λ off. waiting-at p (v off) (state_of a.bytes.now) a.segment a.addresses.now l.first (p.N * p.Z * capacity p) l.found (f ∙ s) (l.invariant.2 off)
