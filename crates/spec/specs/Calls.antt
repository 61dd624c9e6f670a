-- What a call does: checks in order, then the stores that are due, under the store count (01, Store count; Refusals). Assumes nothing.
use Rattle.std.specs.Prelude.{List, [], ◌∷◌, Bool, true, false, ℕ, leb, length, take, replicate}
use Rattle.spec.specs.declared.Params.{Params}
use Rattle.spec.specs.declared.Answer.{Answer}
use Rattle.spec.specs.declared.Answer.TheVariants.{Refused, BadZone, Cut}
use Rattle.spec.specs.Drives.{Store, store_all}
use Rattle.spec.specs.Lists.{Opt, least}
use Rattle.spec.specs.Lists.Opt.{none, some}
use Rattle.spec.specs.Memory.{Memory, mk_memory, zero_state}
use Rattle.spec.specs.Params.{addresses_len, compact_len}

-- 01, Refusals: a numbered condition, or the zones that are bad (9)
pub data Check : Type 0 where
  rule : ℕ → Bool → Check
  zones : List ℕ → Check

-- 01, Refusals: 9 gives the lowest bad zone
unfoldable pub ninth : List ℕ → Opt Answer → Opt Answer
ninth [] r = r
ninth (z ∷ zs) r = some (BadZone (least z zs))

-- 01, Refusals: a condition that holds gives its number
unfoldable pub ruled : ℕ → Bool → Opt Answer → Opt Answer
ruled n true r = some (Refused n)
ruled n false r = r

-- 01, Refusals: the first check that holds
unfoldable pub first_refusal : List Check → Opt Answer
first_refusal [] = none
first_refusal (rule n b ∷ cs) = ruled n b (first_refusal cs)
first_refusal (zones zs ∷ cs) = ninth zs (first_refusal cs)

-- what is due: the stores in order; answer, memory and the lent block once all are made
pub record Plan : Type 0 where
  pub stores : List Store
  pub answer : Answer
  pub memory : Memory
  pub block : List ℕ

abbrev pub mk_plan : List Store → Answer → Memory → List ℕ → Plan
mk_plan ss a m b = record { stores = ss; answer = a; memory = m; block = b }

-- a call is refused, or something is due
pub data Verdict : Type 0 where
  refused : Answer → Verdict
  due : Plan → Verdict

-- due, where no check holds
unfoldable pub decided : Opt Answer → Plan → Verdict
decided none q = due q
decided (some a) q = refused a

-- ---- the store count

-- what a call leaves: the answer, the drives (bytes or view), memory, and the lent block
pub record After (D : Type 0) : Type 0 where
  pub answer : Answer
  pub drives : D
  pub memory : Memory
  pub block : List ℕ

abbrev pub mk_after : {D : Type 0} → Answer → D → Memory → List ℕ → After D
mk_after a d m b = record { answer = a; drives = d; memory = m; block = b }

-- 01, Store count: state and tables all zeros, other buffers as they came
unfoldable pub cut_memory : Params → Memory → Memory
cut_memory p m = mk_memory zero_state (replicate (addresses_len p) 0) (replicate (compact_len p) 0) m.inflight

-- 01, Store count: all stores made, or just so many and cut
unfoldable pub limited : {D : Type 0} → Bool → Params → (Store → D → D) → ℕ → D → Memory → List ℕ → Plan → After D
limited true p f n d m b q = mk_after q.answer (store_all f q.stores d) q.memory q.block
limited false p f n d m b q = mk_after Cut (store_all f (take n q.stores) d) (cut_memory p m) b

-- 01, Store count: a refusal changes nothing; with as many stores due as the number, or fewer, the call is done; else it is cut
unfoldable pub outcome : {D : Type 0} → Params → (Store → D → D) → ℕ → D → Memory → List ℕ → Verdict → After D
outcome p f n d m b (refused a) = mk_after a d m b
outcome p f n d m b (due q) = limited (leb (length q.stores) n) p f n d m b q
