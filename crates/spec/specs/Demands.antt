-- Demand 3 with the state as a value, the lower half of that over bytes (crate spec_demands), and what demand 2 says of the drives. Not proved here. Assumes nothing.
use Rattle.std.specs.Prelude.{◌≡◌, List, [], ◌∷◌, Bool, true, false, cond, ℕ, suc, ◌≤◌, ◌<◌, ltb, length, get_or}
use Rattle.spec.specs.declared.Params.{Params}
use Rattle.spec.specs.declared.Answer.{Answer}
use Rattle.spec.specs.Answers.{is_refused, is_refused_as, finished}
use Rattle.spec.specs.Drives.{View, Disk, record_at}
use Rattle.spec.specs.History.{Event, happens, restart_in, Send, mk_send, Mark, Hist, step, empty_disk, began, allowed, Seen, seen_at}
use Rattle.spec.specs.History.Seen.{unwritten, got, failed}
use Rattle.spec.specs.Lists.{Opt, all, is_in}
use Rattle.spec.specs.Lists.Opt.{none, some}
use Rattle.spec.specs.Params.{in_range}
use Rattle.spec.specs.Rank.{Cand, best, cands_of}
use Rattle.spec.specs.Segments.{seg_for, segment_of, segments, piece_of, candidates}

-- ---- demand 3

abbrev pub send_at : List Send → ℕ → Send
send_at ss i = get_or ss i (mk_send 0 0 [] 0 false false)

-- nothing is acknowledged at address a from the send with index i on
abbrev pub NoneAckedFrom : List Send → ℕ → ℕ → Type 0
NoneAckedFrom ss a i = (j : ℕ) → i ≤ j → j < length ss → (send_at ss j).address ≡ a → (send_at ss j).acked ≡ false

-- "a block sent there before it, no earlier than the latest-sent acknowledged one, or, only where none was acknowledged, 'never written'"; 02, item 2:
-- "with the block, the stamp with which it was sent"
abbrev pub ReadOk : List Send → ℕ → Seen → Type 0
ReadOk ss a unwritten = NoneAckedFrom ss a 0
ReadOk ss a (got b t) =
    (i : ℕ) × (i < length ss) × ((send_at ss i).address ≡ a) × ((send_at ss i).block ≡ b) × ((send_at ss i).stamp ≡ t) × NoneAckedFrom ss a (suc i)
ReadOk ss a failed = ⊥

-- "and it reads as the finished restart before it did if no block was sent between"
abbrev pub SameAs : Params → List ℕ → Opt Mark → Hist → Type 0
SameAs p off none h = Unit {0}
SameAs p off (some k) h = length h.sends ≡ k.sent_then → (a : ℕ) → a < p.L → seen_at p off h.world a ≡ seen_at p off k.world a

-- what is claimed of a restart in order: from h, with answer r, to h'
pub record RestartOk (p : Params) (off : List ℕ) (h : Hist) (r : Answer) (h' : Hist) : Type 0 where
  -- "no restart whose numbers, lists and buffer lengths are in order is refused"
  pub not_refused : is_refused r ≡ false
  -- "each finished restart reads at every address ..", and as the one before it
  pub reads : finished r ≡ true → (a : ℕ) → a < p.L → ReadOk h'.sends a (seen_at p off h'.world a)
  pub same : finished r ≡ true → SameAs p off h.mark h'

-- of an event that is no restart in order nothing is claimed
abbrev pub ClaimOf : Params → List ℕ → Hist → Event → Opt ℕ → Type 0
ClaimOf p off h e none = Unit {0}
ClaimOf p off h e (some d) = RestartOk p off h (happens p off h.world e).answer (step p off h e)

-- the premises at every event: "no call is refused 6, and a missing drive is named so at each restart until its rebuild has finished, and
-- likewise from the start of any further rebuild of it" (`allowed`). "Nothing else changes the drives" and "the parameters never change"
-- are the shape of a history: one p, and each event gets image and pointers as the one before left them, but for a drive that a restart in
-- order names missing (`before`)
abbrev pub Allowed : Params → List ℕ → Hist → List Event → Type 0
Allowed p off h [] = Unit {0}
Allowed p off h (e ∷ es) = (allowed p off h e ≡ true) × Allowed p off (step p off h e) es

-- the claim at every event
abbrev pub Claims : Params → List ℕ → Hist → List Event → Type 0
Claims p off h [] = Unit {0}
Claims p off h (e ∷ es) = ClaimOf p off h e (restart_in p off h.world e) × Claims p off (step p off h e) es

-- demand 3, one claim about the list: "for every list of writes, landings, closings, reclaims, reads, restarts and rebuilds" (es) "from empty
-- drives" (emptyDisk), refused and cut ones included, with parameters in range
abbrev pub Demand3Values : Type 0
Demand3Values = (p : Params) (off : List ℕ) → in_range p ≡ true → (k : Disk) → empty_disk p off k ≡ true → (es : List Event) → Allowed p off (began p k) es
    → Claims p off (began p k) es

-- ---- demand 2: what the drives say

-- "bytes": numbers below 256; of the image, since a stamp of more than 8 bytes could be read from other numbers
unfoldable pub are_bytes : List ℕ → Bool
are_bytes l = all (λ b. ltb b 256) l

-- the block of a record that counts: stored, or decoded from the present drives; 02, item 2: and its stamp
unfoldable pub said_block : Params → View → ℕ → Opt Cand → Seen
said_block p v gone none = unwritten
said_block p v gone (some c) =
    let g = seg_for p v gone c.serial in
    let s = cond (is_in gone c.drive) c.offset (record_at p v gone c.drive g c.offset).stripe in
    got (piece_of p gone (segment_of p v gone g) s c.drive).block c.stamp

-- "from those bytes alone, a read gives the latest-sent block among whole stripes": the record that holds among those of counted stripes
unfoldable pub said_at : Params → View → ℕ → ℕ → Seen
said_at p v gone a = said_block p v gone (best none (cands_of a (candidates p gone (segments p v gone))))

-- 01, How tightly, 2: "9, except from restart, .. where it never comes"
abbrev pub NotNinth : Opt ℕ → Answer → Type 0
NotNinth none r = is_refused_as 9 r ≡ false
NotNinth (some d) r = Unit {0}
