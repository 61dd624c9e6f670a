-- What was told as a list of numbers, and back. Assumes nothing.
use mathlib.Core.Path.{◌≡◌, refl, ap, ap₂, ◌∙◌}
use mathlib.Core.List.{List, [], ◌∷◌, ◌++◌, append-nil}
use mathlib.Core.Bool.{Bool, true, false}
use Prim.Native.Nat.{ℕ, zero, suc, ◌+◌, ◌-◌, ◌*◌, ◌/◌, ◌%◌, ◌<◌, min}
use native.Mathlib.Omega.{arith}
use lib.Dec.{eqb, ltb}
use lib.ListN.{length, get_or, take, drop}
use borrow.Author.Tests.{ltb-true}
use Rattle.spec.specs.declared.State.{State}
use Rattle.spec.specs.Demands.{are_bytes}
use Rattle.spec.specs.Drives.{mk_disk}
use Rattle.spec.specs.History.{World, mk_world, Send, mk_send, Mark}
use Rattle.spec.specs.Lists.{Opt, flat, all}
use Rattle.spec.specs.Lists.Opt.{none, some}
use Rattle.spec.specs.Memory.{mk_memory, mk_state, state_numbers}
use Rattle.proof_crash_witness.proofs.Told.{Told, mk_told, and_left, and_right}

-- ---- bytes, 24 to a number

-- j more bytes go into n
unfoldable pub pack_from : ℕ → ℕ → List ℕ → List ℕ
pack_from j n [] = n ∷ []
pack_from zero n (b ∷ l) = n ∷ pack_from 23 b l
pack_from (suc j) n (b ∷ l) = pack_from j (n * 256 + b) l

-- the last k bytes of n, before l
unfoldable pub unpack : ℕ → ℕ → List ℕ → List ℕ
unpack zero n l = l
unpack (suc k) n l = unpack k (n / 256) (n % 256 ∷ l)

-- k bytes
unfoldable pub unpack_all : ℕ → List ℕ → List ℕ
unpack_all k [] = []
unpack_all k (n ∷ l) = unpack (min k 24) n (unpack_all (k - 24) l)

-- what was packed is unpacked: n holds k bytes so far
unpack-pack_from : (j k n : ℕ) (l : List ℕ) → j + k ≡ 24 → are_bytes l ≡ true → unpack_all (k + length l) (pack_from j n l) ≡ unpack k n l
unfolding pack_from unpack_all unpack are_bytes all
unpack-pack_from j k n [] e h =
    let q : min (k + 0) 24 ≡ k = omega arith in
    ap (λ (i : ℕ). unpack i n []) q
unpack-pack_from zero k n (b ∷ l) e h =
    let q : min (k + suc (length l)) 24 ≡ k = omega arith in
    let r : k + suc (length l) - 24 ≡ 1 + length l = omega arith in
    let c : b < 256 = ltb-true b 256 (and_left (ltb b 256) (are_bytes l) h) in
    let m : b % 256 ≡ b = omega arith in
    ap₂ (λ (i : ℕ) (t : List ℕ). unpack i n t) q
    (ap (λ (i : ℕ). unpack_all i (pack_from 23 b l)) r ∙ unpack-pack_from 23 1 b l refl (and_right (ltb b 256) (are_bytes l) h) ∙ ap (λ (i : ℕ). i ∷ l) m)
unpack-pack_from (suc j) k n (b ∷ l) e h =
    let r : k + suc (length l) ≡ suc k + length l = omega arith in
    let c : b < 256 = ltb-true b 256 (and_left (ltb b 256) (are_bytes l) h) in
    let d : (n * 256 + b) / 256 ≡ n = omega arith in
    let m : (n * 256 + b) % 256 ≡ b = omega arith in
    ap (λ (i : ℕ). unpack_all i (pack_from j (n * 256 + b) l)) r
    ∙ unpack-pack_from j (suc k) (n * 256 + b) l (omega arith) (and_right (ltb b 256) (are_bytes l) h)
    ∙ ap₂ (λ (i x : ℕ). unpack k i (x ∷ l)) d m

-- 1 more than how many bytes there are, then the packed ones; numbers that aren't bytes stand as they are, after a 0
unfoldable pub packed : Bool → List ℕ → List ℕ
packed true l = suc (length l) ∷ pack_from 24 0 l
packed false l = 0 ∷ l

-- and back
unfoldable pub unpacked : List ℕ → List ℕ
unpacked [] = []
unpacked (zero ∷ l) = l
unpacked (suc n ∷ l) = unpack_all n l

-- nothing is lost by it
unpacked-packed : (b : Bool) (l : List ℕ) → are_bytes l ≡ b → unpacked (packed b l) ≡ l
unfolding unpacked packed unpack
unpacked-packed true l h =
    let q : length l ≡ 0 + length l = omega arith in
    ap (λ (i : ℕ). unpack_all i (pack_from 24 0 l)) q ∙ unpack-pack_from 24 0 0 l refl h
unpacked-packed false l h = refl

-- ---- several lists in one: of each its length, then its numbers

-- the lists in one
unfoldable pub joined : List (List ℕ) → List ℕ
joined [] = []
joined (l ∷ ls) =
    let c = packed (are_bytes l) l in
    length c ∷ c ++ joined ls

-- the first n lists
unfoldable pub parted : ℕ → List ℕ → List (List ℕ)
parted zero l = []
parted (suc n) [] = []
parted (suc n) (k ∷ l) = unpacked (take k l) ∷ parted n (drop k l)

-- the front of two lists, and the rest
module _ {A : Type 0} where
  take_front : (l r : List A) → take (length l) (l ++ r) ≡ l
  take_front [] r = refl
  take_front (a ∷ l) r = ap (λ (x : List A). a ∷ x) (take_front l r)

  drop_front : (l r : List A) → drop (length l) (l ++ r) ≡ r
  drop_front [] r = refl
  drop_front (a ∷ l) r = drop_front l r

-- nothing is lost by joining
parted-joined : (ls : List (List ℕ)) → parted (length ls) (joined ls) ≡ ls
unfolding parted joined
parted-joined [] = refl
parted-joined (l ∷ ls) =
    let c = packed (are_bytes l) l in
    ap₂ (λ (x : List ℕ) (y : List (List ℕ)). x ∷ y) (ap unpacked (take_front c (joined ls)) ∙ unpacked-packed (are_bytes l) l refl)
    (ap (parted (length ls)) (drop_front c (joined ls)) ∙ parted-joined ls)

-- ---- numbers that are computed before the list has a first cell

-- each one higher, in reverse, before a; `suc` computes what it is given
unfoldable pub firm : List ℕ → List ℕ → List ℕ
firm a [] = a
firm a (n ∷ l) = firm (suc n ∷ a) l

-- and back
unfoldable pub soft : List ℕ → List ℕ → List ℕ
soft a [] = a
soft a (n ∷ l) = soft ((n - 1) ∷ a) l

-- nothing is lost by it
soft-firm : (a b l : List ℕ) → soft a (firm b l) ≡ soft (l ++ a) b
unfolding soft firm
soft-firm a b [] = refl
soft-firm a b (n ∷ l) =
    let q : suc n - 1 ≡ n = omega arith in
    soft-firm a (suc n ∷ b) l ∙ ap (λ (i : ℕ). soft (i ∷ l ++ a) b) q

-- ---- what was told as lists of numbers

-- a world in 18 lists
unfoldable pub world_lists : World → List (List ℕ)
world_lists w =
    w.disk.image ∷ w.disk.pointers ∷ w.memory.addresses ∷ w.memory.compact ∷ w.memory.inflight ∷ state_numbers w.memory.state

-- a state from its 13 lists
unfoldable pub state_from : List (List ℕ) → State
state_from ls =
    let at : ℕ → List ℕ = λ i. get_or ls i [] in
    let one : ℕ → ℕ = λ i. get_or (at i) 0 0 in
    mk_state (one 0) (one 1) (one 2) (one 3) (one 4) (one 5) (at 6) (at 7) (at 8) (at 9) (at 10) (at 11) (at 12)

-- a world from its 18 lists
unfoldable pub world_from : List (List ℕ) → World
world_from ls =
    let at : ℕ → List ℕ = λ i. get_or ls i [] in
    mk_world (mk_disk (at 0) (at 1)) (mk_memory (state_from (drop 5 ls)) (at 2) (at 3) (at 4))

-- no list, or those of a mark
unfoldable pub mark_lists : Opt Mark → List (List ℕ)
mark_lists none = []
mark_lists (some k) = (k.sent_then ∷ []) ∷ world_lists k.world

-- and back
unfoldable pub mark_from : List (List ℕ) → Opt Mark
mark_from [] = none
mark_from (l ∷ ls) = some (record { world = world_from ls; sent_then = get_or l 0 0 })

-- nothing is lost of a mark
mark_from-mark_lists : (k : Opt Mark) → mark_from (mark_lists k) ≡ k
unfolding mark_from mark_lists world_from world_lists state_from state_numbers
mark_from-mark_lists none = refl
mark_from-mark_lists (some k) = refl

-- 1 for true
unfoldable pub bit : Bool → ℕ
bit true = 1
bit false = 0

-- and back
unfoldable pub is_one_of : ℕ → Bool
is_one_of n = eqb n 1

-- nothing is lost of a test
is_one-bit : (b : Bool) → is_one_of (bit b) ≡ b
unfolding is_one_of bit
is_one-bit true = refl
is_one-bit false = refl

-- a send in two lists
unfoldable pub send_lists : Send → List (List ℕ)
send_lists s = s.block ∷ (s.address ∷ s.stamp ∷ s.stripe ∷ bit s.waits ∷ bit s.acked ∷ []) ∷ []

-- sends from their lists
unfoldable pub sends_from : List (List ℕ) → List Send
sends_from [] = []
sends_from (b ∷ []) = []
sends_from (b ∷ l ∷ ls) = mk_send (get_or l 0 0) (get_or l 1 0) b (get_or l 2 0) (is_one_of (get_or l 3 0)) (is_one_of (get_or l 4 0)) ∷ sends_from ls

-- nothing is lost of the sends
sends_from-send_lists : (ss : List Send) → sends_from (flat send_lists ss) ≡ ss
unfolding sends_from send_lists flat
sends_from-send_lists [] = refl
sends_from-send_lists (s ∷ ss) = λ i.
    mk_send s.address s.stamp s.block s.stripe (is_one-bit s.waits i) (is_one-bit s.acked i) ∷ sends_from-send_lists ss i

-- answers, reads, sends, the world, the mark
unfoldable pub told_lists : Told → List (List ℕ)
told_lists t =
    let h = t.hist in
    t.answers ++ (t.reads ++ (flat send_lists h.sends ++ (world_lists h.world ++ mark_lists h.mark)))

-- and back, with the numbers of lists of the first three sorts, the untrusted drives, and whether all was allowed
unfoldable pub told_in : ℕ → ℕ → ℕ → ℕ → ℕ → List (List ℕ) → Told
told_in a r s u f ls =
    let rs = drop a ls in
    let ss = drop r rs in
    let ws = drop s ss in
    mk_told (record { world = world_from (take 18 ws); sends = sends_from (take s ss); untrusted = u; mark = mark_from (drop 18 ws) }) (is_one_of f)
    (take a ls) (take r rs)

-- nothing is lost by the lists
told_in-told_lists : (t : Told) → told_in (length t.answers) (length t.reads) (length (flat send_lists t.hist.sends)) t.hist.untrusted
    (bit t.fine) (told_lists t) ≡ t
unfolding told_in told_lists world_from world_lists state_from state_numbers
told_in-told_lists t =
    let h = t.hist in
    let ws = world_lists h.world ++ mark_lists h.mark in
    let ss = flat send_lists h.sends in
    let rs = t.reads in
    let xs = t.answers in
    let q₁ = drop_front xs (rs ++ (ss ++ ws)) in
    let q₂ = ap (drop (length rs)) q₁ ∙ drop_front rs (ss ++ ws) in
    let q₃ = ap (drop (length ss)) q₂ ∙ drop_front ss ws in
    let m = ap (λ (l : List (List ℕ)). mark_from (drop 18 l)) q₃ ∙ mark_from-mark_lists h.mark in
    let s = ap (λ (l : List (List ℕ)). sends_from (take (length ss) l)) q₂ ∙ ap sends_from (take_front ss ws) ∙ sends_from-send_lists h.sends in
    λ i. mk_told (record { world = world_from (take 18 (q₃ i)); sends = s i; untrusted = h.untrusted; mark = m i }) (is_one-bit t.fine i)
    (take_front xs (rs ++ (ss ++ ws)) i) ((ap (take (length rs)) q₁ ∙ take_front rs (ss ++ ws)) i)

-- ---- all in one list

-- what was told in numbers
unfoldable pub told_numbers : Told → List ℕ
told_numbers t =
    let ls = told_lists t in
    firm [] (length t.answers ∷ length t.reads ∷ length (flat send_lists t.hist.sends) ∷ t.hist.untrusted ∷ bit t.fine ∷ length ls ∷ joined ls)

-- and back, from the numbers in order
unfoldable pub told_of : List ℕ → Told
told_of l =
    let at : ℕ → ℕ = λ i. get_or l i 0 in
    told_in (at 0) (at 1) (at 2) (at 3) (at 4) (parted (at 5) (drop 6 l))

-- and back
unfoldable pub told_from : List ℕ → Told
told_from l = told_of (soft [] l)

-- nothing is lost
pub told_from-told_numbers : (t : Told) → told_from (told_numbers t) ≡ t
unfolding told_from told_numbers told_of soft
told_from-told_numbers t =
    let ls = told_lists t in
    let n = length t.answers in
    let m = length t.reads in
    let k = length (flat send_lists t.hist.sends) in
    let l = n ∷ m ∷ k ∷ t.hist.untrusted ∷ bit t.fine ∷ length ls ∷ joined ls in
    ap told_of (soft-firm [] [] l ∙ append-nil l) ∙ ap (told_in n m k t.hist.untrusted (bit t.fine)) (parted-joined ls) ∙ told_in-told_lists t
