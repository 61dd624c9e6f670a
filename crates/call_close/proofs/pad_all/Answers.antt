-- `pad_all`: k is the number filled, and padding the rest from here gives what padding from the start gives; a turn pads one position. Assumes nothing.
use Prim.Native.Nat.{ℕ, ◌+◌, ◌-◌}
use Rattle.call_close.specs.Pads.{padded_row, pads_turn, pads_end, pad_filled}
use Rattle.spec.specs.Params.{data_count}
use Rattle.call_filling.specs.Entries.{PlacedRow}
use Rattle.mem_rows.specs.declared.Row.{Row}
use mathlib.Core.Path.{sym, ap, ◌∙◌}
use native.Mathlib.Omega.{arith}
use Rattle.call_close.proofs.pad_all.Goals as goal

pub loop-k-init : goal.loop-k-init
loop-k-init c =
    let a = c.args in
    (c.from-k.ensures, ap (λ (x : ℕ). padded_row a.p a.i (data_count a.p - x) a.row a.inflight.now) c.from-k.ensures)

pub pad-next-requires-clause-i_bound : goal.pad-next-requires-clause-i_bound
pad-next-requires-clause-i_bound c =
    let l = c.loop-k in
    (c.requires.i_bound.0, omega (arith, c.loop-k-test.true, c.data_count-n.ensures.0, l.invariant.0), l.auto.inflight ∙ c.requires.i_bound.2)

pub loop-k-preserved : goal.loop-k-preserved
loop-k-preserved c =
    let a = c.args in
    let l = c.loop-k in
    let r = c.pad-next.ensures in (
      pad_filled a.p a.i l.next l.inflight l._k l.invariant.0 ∙ ap (λ (x : Row). x.filled) (sym r.value),
      (λ j. padded_row a.p a.i (data_count a.p - (l._k + 1)) (r.value j) (r.inflight_after j))
          ∙ pads_turn a.p a.i l.next l.inflight l._k (omega (arith, c.loop-k-test.true, c.data_count-n.ensures.0)) ∙ l.invariant.1,
    )

pub returns : goal.returns
returns c =
    let a = c.args in
    let l = c.loop-k in
    let q = sym (pads_end a.p a.i l.next l.inflight l._k (omega (arith, c.loop-k-test.false, c.data_count-n.ensures.0))) ∙ l.invariant.1 in
    record { value = ap (λ (x : PlacedRow). x.row) q; inflight_after = ap (λ (x : PlacedRow). x.inflight) q }
