-- `pad_all`: k is the number filled, and padding the rest from here gives what padding from the start gives; a turn pads one position. Assumes nothing.
use Prim.Native.Nat.{◌-◌}
use Rattle.call_close.specs.Pads.{padded_row}
use Rattle.spec.specs.Params.{data_count}
use mathlib.Core.Path.{◌≡◌}
use Rattle.call_close.proofs.pad_all.Given as goal

abbrev pub invariant-loop-k : goal.invariant-loop-k
invariant-loop-k l =
    (l._k ≡ l.next.filled) × (padded_row l.p l.i (data_count l.p - l._k) l.next l.inflight ≡ padded_row l.p l.i (data_count l.p - l.initial.next.filled) l.initial.next l.fn.inflight)
