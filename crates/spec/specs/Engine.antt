-- Every public call, with its numbers and lent blocks, on the lent bytes (01, The calls). Assumes nothing.
use Rattle.std.specs.Prelude.{List, [], ◌∷◌, Bool, true, false, ◌&&◌, ℕ, eqb, length}
use Rattle.spec.specs.declared.Params.{Params}
use Rattle.spec.specs.declared.Answer.{Answer}
use Rattle.spec.specs.Answers.{is_refused}
use Rattle.spec.specs.Calls.{Verdict, After, outcome}
use Rattle.spec.specs.Closing.{close_verdict, empty_verdict}
use Rattle.spec.specs.Drives.{View, view_of, Disk, mk_disk, store_disk}
use Rattle.spec.specs.Landing.{land_verdict}
use Rattle.spec.specs.Memory.{Memory, mk_memory, state_len, state_bytes, state_of}
use Rattle.spec.specs.Params.{image_len, pointers_len, offline_len, addresses_len, compact_len, inflight_len}
use Rattle.spec.specs.Read.{read_verdict, fill_verdict}
use Rattle.spec.specs.Rebuild.{rebuild_verdict}
use Rattle.spec.specs.Reclaim.{reclaim_verdict}
use Rattle.spec.specs.Restart.{restart_verdict}
use Rattle.spec.specs.Write.{write_verdict}

-- 01, The calls: those that can store are also told a store count
pub data Call : Type 0 where
  write : ℕ → List ℕ → ℕ → Call
  land : ℕ → ℕ → ℕ → Call
  close : ℕ → Call
  reclaim : ℕ → Call
  read : ℕ → Call
  fill : ℕ → List ℕ → Call
  restart : ℕ → ℕ → Call
  rebuild : ℕ → ℕ → Call

-- 01, Store count: the number
unfoldable pub store_count : Call → ℕ
store_count (write a b n) = n
store_count (land d s n) = n
store_count (close n) = n
store_count (reclaim n) = n
store_count (read a) = 0
store_count (fill a b) = 0
store_count (restart d n) = n
store_count (rebuild d n) = n

-- the block that the call is lent: a write's, or the one that the second read fills
unfoldable pub lent_block : Call → List ℕ
lent_block (write a b n) = b
lent_block (land d s n) = []
lent_block (close n) = []
lent_block (reclaim n) = []
lent_block (read a) = []
lent_block (fill a b) = b
lent_block (restart d n) = []
lent_block (rebuild d n) = []

-- what a call does on a view, where long says whether the lent buffers have their lengths
unfoldable pub verdict : Params → Bool → View → Memory → Call → Verdict
verdict p long v m (write a [] n) = empty_verdict p long v m a
verdict p long v m (write a (x ∷ b) n) = write_verdict p long v m a (x ∷ b)
verdict p long v m (land d s n) = land_verdict p long v m d s
verdict p long v m (close n) = close_verdict p long v m
verdict p long v m (reclaim n) = reclaim_verdict p long v m
verdict p long v m (read a) = read_verdict p long v m a
verdict p long v m (fill a b) = fill_verdict p long v m a b
verdict p long v m (restart d n) = restart_verdict p long v m d
verdict p long v m (rebuild d n) = rebuild_verdict p long v m d

-- 01, Refusals, 2: the lent buffers' lengths; 02, item 4: the list's too
unfoldable pub lent_ok_of : Params → List ℕ → Disk → Memory → Bool
lent_ok_of p off k m =
    eqb (length off) (offline_len p) && eqb (length k.image) (image_len p) && eqb (length k.pointers) (pointers_len p) && eqb (length m.addresses) (addresses_len p)
    && eqb (length m.compact) (compact_len p) && eqb (length m.inflight) (inflight_len p)

-- 01, The calls: what a call leaves on the lent bytes, where x is its verdict
abbrev pub carry_out : Params → Disk → Memory → Call → Verdict → After Disk
carry_out p k m c x = outcome p (store_disk p) (store_count c) k m (lent_block c) x

-- 01, The calls: a call on the lent bytes, its state as a value; 02, item 4: off is the list of offline zones
unfoldable pub call_on : Params → List ℕ → Bool → Disk → Memory → Call → After Disk
call_on p off long k m c =
    let v = view_of p off k.image k.pointers in
    carry_out p k m c (verdict p long v m c)

-- 01, The calls: the same, with the lengths checked
unfoldable pub call_disk : Params → List ℕ → Disk → Memory → Call → After Disk
call_disk p off k m c = call_on p off (lent_ok_of p off k m) k m c

-- ---- the state as bytes

-- 01, The array: all that the host lends: the list of offline zones (02, item 4), five buffers and the state's bytes
pub record Lent : Type 0 where
  pub offline : List ℕ
  pub image : List ℕ
  pub pointers : List ℕ
  pub addresses : List ℕ
  pub compact : List ℕ
  pub inflight : List ℕ
  pub state : List ℕ

-- what a call of the host leaves
pub record Left : Type 0 where
  pub answer : Answer
  pub lent : Lent
  pub block : List ℕ

-- image and pointers of what is lent
unfoldable pub lent_disk : Lent → Disk
lent_disk l = mk_disk l.image l.pointers

-- the rest of it, the state decoded
unfoldable pub lent_memory : Lent → Memory
lent_memory l = mk_memory (state_of l.state) l.addresses l.compact l.inflight

-- the buffers again
unfoldable pub lent_all : List ℕ → Disk → Memory → List ℕ → Lent
lent_all off k m s =
    record { offline = off; image = k.image; pointers = k.pointers; addresses = m.addresses; compact = m.compact; inflight = m.inflight; state = s }

-- a refusal leaves all as it came
unfoldable pub left_by : Lent → After Disk → Bool → Left
left_by l r true = record { answer = r.answer; lent = l; block = r.block }
left_by l r false = record { answer = r.answer; lent = lent_all l.offline r.drives r.memory (state_bytes r.memory.state); block = r.block }

-- 01, Refusals, 2: the lengths of all that is lent
abbrev pub lent_long : Params → Lent → Bool
lent_long p l = lent_ok_of p l.offline (lent_disk l) (lent_memory l) && eqb (length l.state) state_len

-- what is left of the lent bytes, where r is what the call leaves with its state as a value
abbrev pub left_as : Lent → After Disk → Left
left_as l r = left_by l r (is_refused r.answer)

-- 01, The array: a call of the host, on bytes alone; a refusal leaves the state's bytes too
unfoldable pub call_bytes : Params → Lent → Call → Left
call_bytes p l c = left_as l (call_on p l.offline (lent_long p l) (lent_disk l) (lent_memory l) c)
