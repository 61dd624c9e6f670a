-- `decode_record`: the first d entries are address and stamp of the present drives' records; from all of them `disk_code` decodes. Assumes nothing.
use mathlib.Core.Path.{◌≡◌}
use mathlib.Core.List.{List}
use mathlib.Core.Bool.{false}
use Prim.Native.Nat.{ℕ, ◌≤◌, ◌<◌}
use lib.ListN.{length, get_or}
use Rattle.spec.specs.Drives.{view_of, record_at}
use Rattle.spec.specs.Lists.{is_in}
use Rattle.call_read.proofs.decode_record.Given as goal

abbrev pub invariant-loop-d : goal.invariant-loop-d
invariant-loop-d l =
    (l.d ≤ l.p.N)
    × (length l.addresses ≡ 8)
    × (length l.stamps ≡ 8)
    × ((e : ℕ) → e < l.d → is_in l.gone e ≡ false → (off : List ℕ)
    → get_or l.addresses e 0 ≡ (record_at l.p (view_of l.p off l.image l.pointers) l.gone e l.segment (get_or l.at e 0)).address)
    × ((e : ℕ) → e < l.d → is_in l.gone e ≡ false → (off : List ℕ)
    → get_or l.stamps e 0 ≡ (record_at l.p (view_of l.p off l.image l.pointers) l.gone e l.segment (get_or l.at e 0)).stamp)
