-- What a write of no bytes does, on the lent bytes, as a statement (02, item 1). Assumes nothing.
use Rattle.std.specs.Prelude.{◌≡◌, [], Bool, true, false, ◌&&◌, ◌⊎◌, ℕ, ◌≤◌, ◌<◌, eqb}
use Rattle.spec.specs.declared.Params.{Params}
use Rattle.spec.specs.declared.State.{State}
use Rattle.spec.specs.declared.Answer.TheVariants.{Refused, BadZone, Nothing}
use Rattle.spec.specs.Answers.{is_refused}
use Rattle.spec.specs.Demands.{are_bytes}
use Rattle.spec.specs.Engine.{Lent, Left, lent_disk, lent_long, call_bytes}
use Rattle.spec.specs.Engine.Call.{write, close}
use Rattle.spec.specs.History.{sent_by}
use Rattle.spec.specs.Memory.{state_of, has_filling, state_ok}
use Rattle.spec.specs.Params.{in_range}
use Rattle.spec.specs.Drives.{list_ok}

-- the state that the lent bytes say
unfoldable pub state_in : Lent → State
state_in l = state_of l.state

-- 01, Refusals, 1 to 3, and 02, item 4: parameters, lengths and the list are in order, and no drive is missing
unfoldable pub writable : Params → Lent → Bool
writable p l = in_range p && lent_long p l && list_ok p l.offline && eqb (state_in l).missing 0

-- 02, item 1: what the write leaves
unfoldable pub empty_left : Params → Lent → ℕ → ℕ → Left
empty_left p l a n = call_bytes p l (write a [] n)

-- 02, item 1, of one write of no bytes at address a, told n as its store count
pub record EmptyWritten (p : Params) (l : Lent) (a n : ℕ) : Type 0 where
  -- "close the filling stripe, if there is one": answer, refusals and all bytes are those of a closing, whatever that is told
  pub closes : has_filling p (state_in l) ≡ true → a < p.L → (k : ℕ) → empty_left p l a n ≡ call_bytes p l (close k)
  -- "else accept": whatever is in flight, however few zones are empty
  pub accepts : has_filling p (state_in l) ≡ false → a < p.L → writable p l ≡ true → state_ok p (state_in l) ≡ true → (empty_left p l a n).answer ≡ Nothing
  -- and a state that no call left is refused 9, as by every call (01, Refusals, 9)
  pub faults : has_filling p (state_in l) ≡ false → a < p.L → writable p l ≡ true → state_ok p (state_in l) ≡ false → (empty_left p l a n).answer ≡ BadZone 0
  -- "and do nothing": all bytes are as they came
  pub idles : has_filling p (state_in l) ≡ false → are_bytes l.state ≡ true
      → ((empty_left p l a n).lent ≡ l) × (((empty_left p l a n).answer ≡ Nothing) ⊎ (is_refused (empty_left p l a n).answer ≡ true))
  -- "The address is still checked", filling or not; 4 is refused where 1, 2 and 3 are not
  pub stops : p.L ≤ a → (is_refused (empty_left p l a n).answer ≡ true) × ((empty_left p l a n).lent ≡ l)
  pub stops_fourth : p.L ≤ a → writable p l ≡ true → (empty_left p l a n).answer ≡ Refused 4
  -- "It takes no stamp": it sends no block, and the last stamp given out is the one before it
  pub sends_nothing : sent_by (write a [] n) (empty_left p l a n).answer ≡ []
  pub keeps_stamp : are_bytes l.state ≡ true → (state_in (empty_left p l a n).lent).stamp ≡ (state_in l).stamp
  -- "and changes no address": drives and tables are as they came, and so is the block of no bytes
  pub keeps_drives : lent_disk (empty_left p l a n).lent ≡ lent_disk l
  pub keeps_addresses : (empty_left p l a n).lent.addresses ≡ l.addresses
  pub keeps_compact : (empty_left p l a n).lent.compact ≡ l.compact
  pub keeps_block : (empty_left p l a n).block ≡ []

-- 02, item 1
abbrev pub EmptyWrite : Type 0
EmptyWrite = (p : Params) (l : Lent) (a n : ℕ) → EmptyWritten p l a n
