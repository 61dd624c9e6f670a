-- Demand 3 as a statement about lists of calls on lent bytes: the state is bytes and nothing else, each step is what the C functions equal. Assumes nothing.
use Rattle.std.specs.Prelude.{◌≡◌, List, [], ◌∷◌, Bool, true, false, cond, not, ◌&&◌, ℕ, ◌<◌, eqb, length, replicate}
use Rattle.spec.specs.declared.Params.{Params}
use Rattle.spec.specs.declared.Answer.{Answer}
use Rattle.spec.specs.Answers.{is_refused, is_refused_as, finished}
use Rattle.spec.specs.Demands.{are_bytes, ReadOk}
use Rattle.spec.specs.Drives.{Disk, list_ok}
use Rattle.spec.specs.Engine.{Call, lent_block, lent_ok_of, Lent, Left, lent_disk, lent_memory, call_bytes}
use Rattle.spec.specs.Engine.Call.{restart}
use Rattle.spec.specs.History.{restart_of, swapped, only_if, Send, sent_after, untrusted_after, empty_disk, names_all}
use Rattle.spec.specs.Lists.{Opt}
use Rattle.spec.specs.Lists.Opt.{none, some}
use Rattle.spec.specs.Memory.{state_len}
use Rattle.spec.specs.Params.{in_range, addresses_len, compact_len, inflight_len}
use Rattle.spec.specs.Restart.{names_drive}
use Rattle.spec_demands.specs.Engines.{on_bytes, reads_as}

-- ---- events

-- 01, How tightly, 4: an event is a call on all as left; or a restart d n on image and pointers as left, with any bytes in tables, in-flight buffer
-- and state (those of u), and, for a drive that it names missing, any bytes and pointers (im, ps)
pub data LentEvent : Type 0 where
  calls : Call → LentEvent
  boots : ℕ → ℕ → Lent → List ℕ → List ℕ → LentEvent

-- the event's call
unfoldable pub lent_call : LentEvent → Call
lent_call (calls c) = c
lent_call (boots d n u im ps) = restart d n

-- the buffers of u with other drives; 02, item 4: the list never changes
unfoldable pub with_disk : List ℕ → Lent → Disk → Lent
with_disk off u k =
    record { offline = off; image = k.image; pointers = k.pointers; addresses = u.addresses; compact = u.compact; inflight = u.inflight; state = u.state }

-- demand 3: a restart whose numbers, lists and buffer lengths are in order, the state's length among them
unfoldable pub lent_in_order : Params → Lent → ℕ → Bool
lent_in_order p l d = in_range p && names_drive p d && lent_ok_of p l.offline (lent_disk l) (lent_memory l) && list_ok p l.offline && eqb (length l.state) state_len

-- what the event's call gets
unfoldable pub lent_before : Params → Lent → LentEvent → Lent
lent_before p l (calls c) = l
lent_before p l (boots d n u im ps) =
    let k = lent_disk l in
    let w = with_disk l.offline u (swapped p k d im ps) in
    cond (lent_in_order p (with_disk l.offline u k) d) w (with_disk l.offline u k)

-- the event's call and what it leaves
unfoldable pub lent_happens : Params → Lent → LentEvent → Left
lent_happens p l e = call_bytes p (lent_before p l e) (lent_call e)

-- demand 3: the drive that a restart in order names
unfoldable pub lent_orderly : Params → Lent → Opt ℕ → Opt ℕ
lent_orderly p l none = none
lent_orderly p l (some d) = only_if (lent_in_order p l d) (some d)

-- demand 3: the drive that the event names, if it is a restart in order
unfoldable pub lent_restart : Params → Lent → LentEvent → Opt ℕ
lent_restart p l e = lent_orderly p (lent_before p l e) (restart_of (lent_call e))

-- 01, How tightly, 4: a restart that isn't in order is refused, and leaves the run its memory
unfoldable pub lent_after : Params → Lent → LentEvent → Left → Lent
lent_after p l (calls c) r = r.lent
lent_after p l (boots d n u im ps) r = cond (lent_in_order p (with_disk l.offline u (lent_disk l)) d) r.lent l

-- ---- the history

-- what a finished restart left, and how many blocks had been sent
pub record LentMark : Type 0 where
  pub lent : Lent
  pub sent_then : ℕ

-- demand 3: the lent buffers, what was sent, the untrusted drive, and the last finished restart
pub record LentHist : Type 0 where
  pub lent : Lent
  pub sends : List Send
  pub untrusted : ℕ
  pub mark : Opt LentMark

-- demand 3: a finished restart is remembered
unfoldable pub lent_marked : Bool → Lent → ℕ → Opt LentMark → Opt LentMark
lent_marked true l n o = some (record { lent = l; sent_then = n })
lent_marked false l n o = o

-- demand 3: one event; what was sent and acknowledged is read off the answers
unfoldable pub lent_step : Params → LentHist → LentEvent → LentHist
lent_step p h e =
    let r = lent_happens p h.lent e in
    let l = lent_after p h.lent e r in
    let ss = sent_after (lent_call e) r.answer h.sends in
    record {
      lent = l;
      sends = ss;
      untrusted = untrusted_after (lent_call e) r.answer h.untrusted;
      mark = lent_marked (finished r.answer) l (length ss) h.mark;
    }

-- 01, How tightly, 4: the history of no event: these drives, all else zeros; 02, item 4: and this list
unfoldable pub lent_began : Params → List ℕ → Disk → LentHist
lent_began p off k = record {
  lent = record {
    offline = off;
    image = k.image;
    pointers = k.pointers;
    addresses = replicate (addresses_len p) 0;
    compact = replicate (compact_len p) 0;
    inflight = replicate (inflight_len p) 0;
    state = replicate state_len 0;
  };
  sends = [];
  untrusted = 0;
  mark = none;
}

-- ---- premises

-- a buffer of the host holds bytes
unfoldable pub lent_bytes : Lent → Bool
lent_bytes l =
    are_bytes l.image && are_bytes l.pointers && are_bytes l.addresses && are_bytes l.compact && are_bytes l.inflight && are_bytes l.state

-- and so does all that an event brings
unfoldable pub event_bytes : LentEvent → Bool
event_bytes (calls c) = are_bytes (lent_block c)
event_bytes (boots d n u im ps) = lent_bytes u && are_bytes im && are_bytes ps

-- demand 3, premises: no call is refused 6; an untrusted drive is named at each restart in order
unfoldable pub lent_allowed : Params → LentHist → LentEvent → Bool
lent_allowed p h e =
    event_bytes e && not (is_refused_as 6 (lent_happens p h.lent e).answer) && names_all h.untrusted (lent_restart p h.lent e)

abbrev pub LentAllowed : Params → LentHist → List LentEvent → Type 0
LentAllowed p h [] = Unit {0}
LentAllowed p h (e ∷ es) = (lent_allowed p h e ≡ true) × LentAllowed p (lent_step p h e) es

-- ---- the claim

-- "and it reads as the finished restart before it did if no block was sent between"
abbrev pub LentSame : Params → Opt LentMark → LentHist → Type 0
LentSame p none h = Unit {0}
LentSame p (some k) h = length h.sends ≡ k.sent_then → (a : ℕ) → a < p.L → reads_as on_bytes p h.lent a ≡ reads_as on_bytes p k.lent a

-- what is claimed of a restart in order: from h, with answer r, to h'
pub record LentRestartOk (p : Params) (h : LentHist) (r : Answer) (h' : LentHist) : Type 0 where
  -- "no restart whose numbers, lists and buffer lengths are in order is refused"
  pub not_refused : is_refused r ≡ false
  -- "each finished restart reads at every address a block sent there before it ..", and as the one before it
  pub reads : finished r ≡ true → (a : ℕ) → a < p.L → ReadOk h'.sends a (reads_as on_bytes p h'.lent a)
  pub same : finished r ≡ true → LentSame p h.mark h'

-- of an event that is no restart in order nothing is claimed
abbrev pub LentClaim : Params → LentHist → LentEvent → Opt ℕ → Type 0
LentClaim p h e none = Unit {0}
LentClaim p h e (some d) = LentRestartOk p h (lent_happens p h.lent e).answer (lent_step p h e)

abbrev pub LentClaims : Params → LentHist → List LentEvent → Type 0
LentClaims p h [] = Unit {0}
LentClaims p h (e ∷ es) = LentClaim p h e (lent_restart p h.lent e) × LentClaims p (lent_step p h e) es

-- demand 3, one claim about the list: every list of calls of the C functions, from empty drives with any bytes
abbrev pub Demand3 : Type 0
Demand3 = (p : Params) (off : List ℕ) → in_range p ≡ true → (k : Disk) → empty_disk p off k ≡ true → are_bytes k.image ≡ true
    → (es : List LentEvent) → LentAllowed p (lent_began p off k) es → LentClaims p (lent_began p off k) es
