-- What became of each call when 8 came before 7, on the lent bytes, as a statement (02, item 3). Assumes nothing.
use Rattle.std.specs.Prelude.{◌≡◌, List, [], ◌∷◌, Bool, true, false, ◌&&◌, ℕ}
use Rattle.spec.specs.declared.Params.{Params}
use Rattle.spec.specs.declared.Answer.{Answer}
use Rattle.spec.specs.declared.Answer.TheVariants.{Refused}
use Rattle.spec.specs.Calls.{Check, first_refusal, Verdict}
use Rattle.spec.specs.Drives.{View}
use Rattle.spec.specs.Engine.{Call, lent_block, verdict, carry_out, Lent, Left, lent_disk, lent_memory, lent_long, left_as, call_bytes}
use Rattle.spec.specs.Engine.Call.{write, land, close, reclaim, read, fill, restart, rebuild}
use Rattle.spec.specs.Lists.{Opt}
use Rattle.spec.specs.Lists.Opt.{none, some}
use Rattle.spec.specs.Memory.{Memory}
use Rattle.spec.specs.Reclaim.{victim, copy_waits, copy_full, reclaim_before, reclaim_verdict_in}
use Rattle.spec.specs.Write.{must_wait, CheckOrder, write_full, write_before, write_verdict_in}
use Rattle.spec.specs.Write.CheckOrder.{full_first, wait_first}
use Rattle.spec_demands.specs.Engines.{on_bytes, view_in}

-- ---- a call with 7 and 8 checked in either order

-- what a call does, 7 and 8 in order o; only a write of some bytes and reclaim have both
unfoldable pub verdict_in : CheckOrder → Params → Bool → View → Memory → Call → Verdict
verdict_in o p long v m (write a [] n) = verdict p long v m (write a [] n)
verdict_in o p long v m (write a (x ∷ b) n) = write_verdict_in o p long v m a (x ∷ b)
verdict_in o p long v m (land d s n) = verdict p long v m (land d s n)
verdict_in o p long v m (close n) = verdict p long v m (close n)
verdict_in o p long v m (reclaim n) = reclaim_verdict_in o p long v m
verdict_in o p long v m (read a) = verdict p long v m (read a)
verdict_in o p long v m (fill a b) = verdict p long v m (fill a b)
verdict_in o p long v m (restart d n) = verdict p long v m (restart d n)
verdict_in o p long v m (rebuild d n) = verdict p long v m (rebuild d n)

-- the call on the lent bytes: with waitFirst the old one
unfoldable pub call_in : CheckOrder → Params → Lent → Call → Left
call_in o p l c = left_as l (carry_out p (lent_disk l) (lent_memory l) c (verdict_in o p (lent_long p l) (view_in on_bytes p l) (lent_memory l) c))

-- ---- where the answer changes

-- no check holds
unfoldable pub unrefused : Opt Answer → Bool
unrefused none = true
unrefused (some r) = false

-- "both conditions hold and none checked before"
unfoldable pub both_hold : List Check → Bool → Bool → Bool
both_hold before wait full = unrefused (first_refusal before) && wait && full

-- "those of writes and copies at which both conditions hold and none checked before"
unfoldable pub crowded : Params → Lent → Call → Bool
crowded p l (write a [] n) = false
crowded p l (write a (x ∷ b) n) =
    let m = lent_memory l in
    both_hold (write_before p (lent_long p l) (view_in on_bytes p l) m a (x ∷ b)) (must_wait p m.state) (write_full p (view_in on_bytes p l) m.state)
crowded p l (land d s n) = false
crowded p l (close n) = false
crowded p l (reclaim n) =
    let m = lent_memory l in
    let v = view_in on_bytes p l in
    let w = victim p v m.addresses in
    both_hold (reclaim_before p (lent_long p l) v m w) (copy_waits p m.state w) (copy_full p v m.state w)
crowded p l (read a) = false
crowded p l (fill a b) = false
crowded p l (restart d n) = false
crowded p l (rebuild d n) = false

-- refused as n, all as it came
unfoldable pub refused_as_of : ℕ → Lent → Call → Left
refused_as_of n l c = record { answer = Refused n; lent = l; block = lent_block c }

-- 02, item 3, of one call
pub record Reordered (p : Params) (l : Lent) (c : Call) : Type 0 where
  -- "From now on 8 is checked before 7"
  pub is_new_holds : call_bytes p l c ≡ call_in full_first p l c
  -- "The old answers that change are just those": elsewhere the answer and all that is left are the old ones
  pub same : crowded p l c ≡ false → call_bytes p l c ≡ call_in wait_first p l c
  -- "All were 7"
  pub was : crowded p l c ≡ true → call_in wait_first p l c ≡ refused_as_of 7 l c
  -- "and become 8"
  pub becomes : crowded p l c ≡ true → call_bytes p l c ≡ refused_as_of 8 l c

-- 02, item 3: every call, for any numbers, bytes and buffer lengths
abbrev pub FullBeforeWaiting : Type 0
FullBeforeWaiting = (p : Params) (l : Lent) (c : Call) → Reordered p l c
