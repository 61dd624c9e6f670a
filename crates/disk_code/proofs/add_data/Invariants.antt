-- `add_data`: after the turns up to k the parity's place holds the exclusive or of data blocks 0 to k - 1 as they came, all else stays;
-- one turn adds data block k, which lies apart from that place. At k = data count it is the parity. Assumes nothing.
use mathlib.Core.Path.{◌≡◌}
use Prim.Native.Nat.{◌≤◌}
use lib.ListN.{length}
use Rattle.disk_code.specs.Slots.{data_parity}
use Rattle.spec.specs.Bytes.{splice}
use Rattle.spec.specs.Layout.{parity_drive}
use Rattle.spec.specs.Memory.{slot_byte}
use Rattle.disk_code.proofs.add_data.Given as goal

abbrev pub invariant-loop-k : goal.invariant-loop-k
invariant-loop-k l =
    (1 ≤ l.k) × (l.k ≤ l.n) × (length l.inflight ≡ length l.initial.inflight)
    × (l.inflight ≡ splice l.initial.inflight (slot_byte l.p l.slot (parity_drive l.p l.stripe)) (data_parity l.p l.initial.inflight l.slot l.stripe l.k))
