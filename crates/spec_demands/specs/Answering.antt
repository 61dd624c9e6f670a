-- Demand 1 as a statement: every public call answers, for any numbers, bytes and buffer lengths. Assumes nothing.
use Rattle.std.specs.Prelude.{◌≡◌, List, [], ◌∷◌, Bool, true, false, ℕ, ◌≤◌, ◌<◌, length, get_or, take, replicate}
use Rattle.spec.specs.declared.Params.{Params}
use Rattle.spec.specs.declared.Answer.{Answer}
use Rattle.spec.specs.declared.Answer.TheVariants.{Cut}
use Rattle.spec.specs.Answers.{kind, values, is_refused, is_cut_of}
use Rattle.spec.specs.Drives.{Store, store_disk, store_all}
use Rattle.spec.specs.Engine.{Call, lent_block, Lent, Left, lent_disk, call_bytes}
use Rattle.spec.specs.Engine.Call.{write, land, close, reclaim, read, fill, restart, rebuild}
use Rattle.spec.specs.Lists.{is_member_of}
use Rattle.spec.specs.Memory.{state_len}
use Rattle.spec.specs.Params.{addresses_len, compact_len}

-- 01, Refusals, and 02, items 1 and 4: the numbers that the table gives a call
unfoldable pub refusals_of : Call → List ℕ
refusals_of (write a [] n) = 1 ∷ 2 ∷ 10 ∷ 3 ∷ 4 ∷ 5 ∷ 9 ∷ []
refusals_of (write a (x ∷ b) n) = 1 ∷ 2 ∷ 10 ∷ 3 ∷ 4 ∷ 6 ∷ 7 ∷ 8 ∷ 9 ∷ []
refusals_of (land d s n) = 1 ∷ 2 ∷ 10 ∷ 3 ∷ 5 ∷ 9 ∷ []
refusals_of (close n) = 1 ∷ 2 ∷ 10 ∷ 3 ∷ 5 ∷ 9 ∷ []
refusals_of (reclaim n) = 1 ∷ 2 ∷ 10 ∷ 3 ∷ 5 ∷ 6 ∷ 7 ∷ 8 ∷ 9 ∷ []
refusals_of (read a) = 1 ∷ 2 ∷ 10 ∷ 4 ∷ 9 ∷ []
refusals_of (fill a b) = 1 ∷ 2 ∷ 10 ∷ 4 ∷ 9 ∷ []
refusals_of (restart d n) = 1 ∷ 2 ∷ 10 ∷ 9 ∷ 6 ∷ 8 ∷ []
refusals_of (rebuild d n) = 1 ∷ 2 ∷ 10 ∷ 9 ∷ []

-- 01, The calls: the kinds of a call's own result
unfoldable pub results_of : Call → List ℕ
results_of (write a [] n) = 5 ∷ 14 ∷ []
results_of (write a (x ∷ b) n) = 3 ∷ []
results_of (land d s n) = 4 ∷ []
results_of (close n) = 5 ∷ []
results_of (reclaim n) = 6 ∷ 7 ∷ []
results_of (read a) = 8 ∷ 9 ∷ 10 ∷ []
results_of (fill a b) = 11 ∷ []
results_of (restart d n) = 12 ∷ []
results_of (rebuild d n) = 13 ∷ []

-- 01, Store count: the calls that can store
unfoldable pub can_store : Call → Bool
can_store (write a [] n) = false
can_store (write a (x ∷ b) n) = true
can_store (land d s n) = true
can_store (close n) = false
can_store (reclaim n) = true
can_store (read a) = false
can_store (fill a b) = false
can_store (restart d n) = true
can_store (rebuild d n) = true

-- 01, Refusals: the number of a refusal
unfoldable pub refusal_number : Answer → ℕ
refusal_number r = get_or (values r) 0 0

-- demand 1: "the result, word that it was cut at its store count, or one of nine numbered refusals"; 02, item 4: "each new number joins demand 1's nine"
pub data Answers (c : Call) (r : Answer) : Type 0 where
  result : is_member_of (kind r) (results_of c) ≡ true → Answers c r
  cut : is_cut_of r ≡ true → can_store c ≡ true → Answers c r
  refusal : is_refused r ≡ true → is_member_of (refusal_number r) (refusals_of c) ≡ true → Answers c r

-- 01, Store count: the same call, told another number; the reads are told none
unfoldable pub with_count : ℕ → Call → Call
with_count k (write a b n) = write a b k
with_count k (land d s n) = land d s k
with_count k (close n) = close k
with_count k (reclaim n) = reclaim k
with_count k (read a) = read a
with_count k (fill a b) = fill a b
with_count k (restart d n) = restart d k
with_count k (rebuild d n) = rebuild d k

-- 01, Store count: "image and pointers are as after those stores, state and tables all zeros, other buffers as they came"
unfoldable pub cut_left : Params → Lent → Call → List Store → Left
cut_left p l c ss =
    let k = store_all (store_disk p) ss (lent_disk l) in
    record {
      answer = Cut;
      lent = record {
        offline = l.offline;
        image = k.image;
        pointers = k.pointers;
        addresses = replicate (addresses_len p) 0;
        compact = replicate (compact_len p) 0;
        inflight = l.inflight;
        state = replicate state_len 0;
      };
      block = lent_block c;
    }

-- 01, Store count: ss are the stores that are due
pub record Due (p : Params) (l : Lent) (c : Call) (ss : List Store) : Type 0 where
  -- "if more are due than the number, the call makes just that many and answers 'cut'"
  pub cuts : (n : ℕ) → n < length ss → call_bytes p l (with_count n c) ≡ cut_left p l c (take n ss)
  -- else it makes all of them, and is not cut
  pub makes : (n : ℕ) → length ss ≤ n → lent_disk (call_bytes p l (with_count n c)).lent ≡ store_all (store_disk p) ss (lent_disk l)
  pub whole : (n : ℕ) → length ss ≤ n → is_cut_of (call_bytes p l (with_count n c)).answer ≡ false
  -- "the number chooses nothing else"
  pub alike : (n : ℕ) → length ss ≤ n → call_bytes p l (with_count n c) ≡ call_bytes p l (with_count (length ss) c)

-- demand 1, of one call
pub record Answered (p : Params) (l : Lent) (c : Call) : Type 0 where
  pub answers : Answers c (call_bytes p l c).answer
  -- "a refusal changes no state, drive or buffer"
  pub keeps : is_refused (call_bytes p l c).answer ≡ true → ((call_bytes p l c).lent ≡ l) × ((call_bytes p l c).block ≡ lent_block c)
  -- "cut at its store count"
  pub stores : (ss : List Store) × Due p l c ss

-- demand 1: "every public call answers, for any numbers, bytes and buffer lengths"
abbrev pub Demand1 : Type 0
Demand1 = (p : Params) (l : Lent) (c : Call) → Answered p l c
