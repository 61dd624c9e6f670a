-- Where an address lies, as the code has it, and its entry in the table (01, Read). Assumes nothing.
use Rattle.std.specs.Prelude.{ℕ, ◌+◌, ◌*◌, ◌≤◌, ◌<◌, length, List, ◌≡◌}
use Rattle.spec.specs.Params.{addresses_len}
use Rattle.spec.specs.Read.{Found as Lies}
use Rattle.spec.specs.Read.Found.{nowhere, here, away}
use Rattle.mem_lookup.specs.declared.Found.{Found}
use Rattle.mem_lookup.specs.declared.Found.TheVariants.{Nowhere, Here, Away}
use Rattle.spec.specs.declared.Params.{Params}
use Rattle.std.proofs.Common.{arith}

-- 01, Read: what the code finds
abbrev pub found_of : Found → Lies
found_of Nowhere = nowhere
found_of (Here q) = here q.0
found_of (Away q) = away q.0

-- the entry of an address lies within the table
pub place_entry_within : (p : Params) (tb : List ℕ) (a : ℕ) → length tb ≡ addresses_len p → a < p.L → 4 * a + 4 ≤ length tb
unfolding addresses_len
place_entry_within p tb a e h = omega (arith, e)
