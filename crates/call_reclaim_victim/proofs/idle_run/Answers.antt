-- `idle_run`: found is right below q; a turn skips to the next mark (`run_skip`) and takes it (`idle-step`); `run_other` if not mine. Assumes nothing.
use Rattle.spec.specs.Memory.{state_of}
use Prim.Native.Nat.{ℕ, ◌+◌, ◌-◌, ◌≤◌}
use Rattle.call_reclaim_live.specs.Live.{places_high}
use Rattle.spec.specs.Drives.{View, view_of}
use Rattle.law_basic.specs.Geometry.{ranged}
use Rattle.mem_marks.specs.Marks.{is_marked}
use Rattle.call_reclaim_victim.specs.Waiting.{waiting-at, run_other, run_skip, idle-step}
use borrow.Author.Tests.{not-true, not-false}
use mathlib.Core.List.{List}
use mathlib.Core.Path.{◌≡◌, ap, ◌∙◌}
use native.Mathlib.Omega.{arith}
use Rattle.call_reclaim_victim.proofs.idle_run.Goals as goal

pub returns-then-not-mine : goal.returns-then-not-mine
returns-then-not-mine c =
    let a = c.args in
    let v : List ℕ → View = λ off. view_of a.p off a.image.now a.pointers.now in
    λ off tb told same w. run_other a.p (v off) (state_of a.bytes.now) a.segment tb a.lo a.hi a.idle c.requires.first_le_lo.1
    (λ q x y. same q x y ∙ not-true a.mine c.if-not-mine.true-raw) w

pub loop-q-init : goal.loop-q-init
loop-q-init c = (omega arith, omega arith, λ off tb told same w. w)

pub overflow_sub-q : goal.overflow_sub-q
overflow_sub-q c = omega arith

pub overflow_sub-hi : goal.overflow_sub-hi
overflow_sub-hi c = omega arith

pub next_marked-requires : goal.next_marked-requires
next_marked-requires c =
    let a = c.args in
    let h = c.requires.first_le_lo in
    let i = c.loop-q.invariant in
    (omega (arith, h, i.0, i.1), omega (arith, h), omega (arith, h.3, places_high a.p (ranged a.p c.requires.p_value)))

pub overflow_add-next : goal.overflow_add-next
overflow_add-next c =
    let a = c.args in
    omega (arith, c.next_marked.ensures.1, c.requires.first_le_lo.3, places_high a.p (ranged a.p c.requires.p_value))

pub returns-then-hi-next : goal.returns-then-hi-next
returns-then-hi-next c =
    let a = c.args in
    let v : List ℕ → View = λ off. view_of a.p off a.image.now a.pointers.now in
    let l = c.loop-q in
    let h = c.requires.first_le_lo in
    let n = c.next_marked.ensures in
    λ off tb told same w. run_skip a.p (v off) (state_of a.bytes.now) a.segment tb a.marks.now a.first a.hi told l.q a.hi l.found
    (omega (arith, h.0, l.invariant.0)) l.invariant.1 (omega arith) (λ j x y. n.2 j x (omega (arith, y, c.if-hi-next.true))) (l.invariant.2 off tb told same w)

pub overflow_cast-next : goal.overflow_cast-next
overflow_cast-next c =
    let a = c.args in
    omega (arith, c.if-hi-next.false, c.requires.first_le_lo.3, places_high a.p (ranged a.p c.requires.p_value))

pub idle_step-found-requires : goal.idle_step-found-requires
idle_step-found-requires c =
    let pre = c.requires in record { p_value = pre.p_value; whole = pre.whole; place_bound = (omega (arith, c.if-hi-next.false, pre.first_le_lo.3), pre.first_le_lo.4) }

pub overflow_add-q : goal.overflow_add-q
overflow_add-q c = omega arith

pub loop-q-smaller : goal.loop-q-smaller
loop-q-smaller c = omega (arith, c.if-hi-next.false, c.next_marked.ensures.0)

pub loop-q-preserved : goal.loop-q-preserved
loop-q-preserved c =
    let a = c.args in
    let pre = c.requires in
    let l = c.loop-q in
    let v : List ℕ → View = λ off. view_of a.p off a.image.now a.pointers.now in
    let h = pre.first_le_lo in
    let n = c.next_marked.ensures in
    let k = c.next_marked.result in
    let f = c.if-hi-next.false in
    let low : l.q ≤ a.first + k = omega (arith, n.0, h.0, l.invariant.0) in
    let s : a.first + k - a.first ≡ k = omega arith in (
      omega (arith, low, l.invariant.0),
      omega (arith, f),
      λ off tb told same w.
          idle-step a.p (v off) (state_of a.bytes.now) a.segment tb a.marks.now a.first a.hi told (a.first + k) l.found c.idle_step-found.result (omega arith) (omega (arith, f))
          (same (a.first + k) (omega (arith, low, l.invariant.0)) (omega (arith, f)) ∙ not-false a.mine c.if-not-mine.false-raw)
          (ap (is_marked a.marks.now) s ∙ n.3 (omega (arith, f)))
          (run_skip a.p (v off) (state_of a.bytes.now) a.segment tb a.marks.now a.first a.hi told l.q (a.first + k) l.found (omega (arith, h.0, l.invariant.0)) low
          (omega (arith, f)) (λ j x y. n.2 j x (omega (arith, y, s))) (l.invariant.2 off tb told same w)) (c.idle_step-found.ensures off),
    )

pub returns : goal.returns
returns c =
    let a = c.args in
    let v : List ℕ → View = λ off. view_of a.p off a.image.now a.pointers.now in
    let l = c.loop-q in
    λ off tb told same w. waiting-at a.p (v off) (state_of a.bytes.now) a.segment tb l.q a.hi l.found (omega (arith, l.invariant.1, c.loop-q-test.false)) (l.invariant.2 off tb told same w)
