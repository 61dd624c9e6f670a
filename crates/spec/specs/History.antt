-- Histories: events, runs, what was sent and acknowledged (demand 3; 01, How tightly, 4). Assumes nothing.
use Rattle.std.specs.Prelude.{List, [], ◌++◌, map, Bool, true, false, cond, not, ◌&&◌, ◌||◌, ℕ, ◌*◌, ltb, eqb, length, get_or, replicate}
use Rattle.spec.specs.declared.Params.{Params}
use Rattle.spec.specs.declared.Answer.{Answer}
use Rattle.spec.specs.Answers.{kind, values, stamp_told, is_refused, is_refused_as, is_cut_of, finished}
use Rattle.spec.specs.Bytes.{splice}
use Rattle.spec.specs.Calls.{After}
use Rattle.spec.specs.Drives.{Disk, mk_disk, pointer_byte, pointer_of, good_zones, list_ok}
use Rattle.spec.specs.Engine.{Call, lent_ok_of, call_disk}
use Rattle.spec.specs.Engine.Call.{write, land, close, reclaim, read, fill, restart, rebuild}
use Rattle.spec.specs.Lists.{Opt, all, cons_if}
use Rattle.spec.specs.Lists.Opt.{none, some}
use Rattle.spec.specs.Memory.{Memory, mk_memory, zero_state}
use Rattle.spec.specs.Params.{in_range, drive_len, image_len, pointers_len, addresses_len, compact_len, inflight_len, named, drives_of}
use Rattle.spec.specs.Restart.{names_drive}

-- image, pointers and memory as a call left them
pub record World : Type 0 where
  pub disk : Disk
  pub memory : Memory

abbrev pub mk_world : Disk → Memory → World
mk_world k m = record { disk = k; memory = m }

-- 01, How tightly, 4: an event is a call on all as left; or a restart d n on image and pointers as left, with any contents and lengths of
-- all else (m), and, for a drive that it names missing, any bytes and pointers (im, ps)
pub data Event : Type 0 where
  calls : Call → Event
  boots : ℕ → ℕ → Memory → List ℕ → List ℕ → Event

-- the event's call
unfoldable pub call_of : Event → Call
call_of (calls c) = c
call_of (boots d n m im ps) = restart d n

-- the drive that a restart names
unfoldable pub restart_of : Call → Opt ℕ
restart_of (write a b n) = none
restart_of (land d s n) = none
restart_of (close n) = none
restart_of (reclaim n) = none
restart_of (read a) = none
restart_of (fill a b) = none
restart_of (restart d n) = some d
restart_of (rebuild d n) = none

-- demand 3: a restart whose numbers, lists and buffer lengths are in order; 02, item 4: enough good zones, L within the narrower bound
unfoldable pub in_order_of : Params → List ℕ → World → ℕ → Bool
in_order_of p off w d = in_range p && names_drive p d && lent_ok_of p off w.disk w.memory && list_ok p off

-- demand 3: a drive may hold any bytes and pointers at a restart in order that names it missing
unfoldable pub swapped : Params → Disk → ℕ → List ℕ → List ℕ → Disk
swapped p k d im ps =
    let s = mk_disk (splice k.image (d * drive_len p) im) (splice k.pointers (pointer_byte p d 0) ps) in
    cond (ltb d p.N && eqb (length im) (drive_len p) && eqb (length ps) (4 * p.Z)) s k

-- what the event's call gets
unfoldable pub before : Params → List ℕ → World → Event → World
before p off w (calls c) = w
before p off w (boots d n m im ps) =
    let k = swapped p w.disk d im ps in
    cond (in_order_of p off (mk_world w.disk m) d) (mk_world k m) (mk_world w.disk m)

-- the event's call and what it leaves
unfoldable pub happens : Params → List ℕ → World → Event → After Disk
happens p off w e =
    let u = before p off w e in
    call_disk p off u.disk u.memory (call_of e)

-- the number, where the test holds
unfoldable pub only_if : Bool → Opt ℕ → Opt ℕ
only_if true o = o
only_if false o = none

-- demand 3: the drive that a restart in order names
unfoldable pub orderly : Params → List ℕ → World → Opt ℕ → Opt ℕ
orderly p off w none = none
orderly p off w (some d) = only_if (in_order_of p off w d) (some d)

-- demand 3: the drive that the event names, if it is a restart in order
unfoldable pub restart_in : Params → List ℕ → World → Event → Opt ℕ
restart_in p off w e = orderly p off (before p off w e) (restart_of (call_of e))

-- 01, How tightly, 4: a restart in order gets other memory, and begins a run; one that isn't in order is refused, and leaves the run its memory
unfoldable pub world_after : Params → List ℕ → World → Event → After Disk → World
world_after p off w (calls c) r = mk_world r.drives r.memory
world_after p off w (boots d n m im ps) r = cond (in_order_of p off (mk_world w.disk m) d) (mk_world r.drives r.memory) w

-- ---- what was sent

-- 01, How tightly, 4: a write that answers with a stamp sends its block; 02, item 2: with that stamp
-- waits: its run goes on and its stripe isn't complete; acked: acknowledged
pub record Send : Type 0 where
  pub address : ℕ
  pub stamp : ℕ
  pub block : List ℕ
  pub stripe : ℕ
  pub waits : Bool
  pub acked : Bool

abbrev pub mk_send : ℕ → ℕ → List ℕ → ℕ → Bool → Bool → Send
mk_send a t b s w k = record { address = a; stamp = t; block = b; stripe = s; waits = w; acked = k }

-- 01, Landing: the stripe is complete, its writes are acknowledged
unfoldable pub acknowledge : ℕ → Send → Send
acknowledge s x = cond (x.waits && eqb x.stripe s) (mk_send x.address x.stamp x.block x.stripe false true) x

-- 01, Store count: the run is over: what waits is never acknowledged
unfoldable pub forget : Send → Send
forget x = mk_send x.address x.stamp x.block x.stripe false x.acked

-- a write's block is sent where the answer is a stamp
unfoldable pub sent_by : Call → Answer → List Send
sent_by (write a b n) r = cons_if (eqb (kind r) 3) (mk_send a (get_or (values r) 0 0) b (get_or (values r) 1 0) true false) []
sent_by (land d s n) r = []
sent_by (close n) r = []
sent_by (reclaim n) r = []
sent_by (read a) r = []
sent_by (fill a b) r = []
sent_by (restart d n) r = []
sent_by (rebuild d n) r = []

-- 01, Landing: a landing acknowledges where the answer gives a number above 0
unfoldable pub acked_by : Call → Answer → List Send → List Send
acked_by (write a b n) r ss = ss
acked_by (land d s n) r ss = cond (eqb (kind r) 4 && ltb 0 (get_or (values r) 0 0)) (map (acknowledge s) ss) ss
acked_by (close n) r ss = ss
acked_by (reclaim n) r ss = ss
acked_by (read a) r ss = ss
acked_by (fill a b) r ss = ss
acked_by (restart d n) r ss = ss
acked_by (rebuild d n) r ss = ss

-- a run ends with a cut, and where the next begins, with a finished restart
unfoldable pub ends_run : Answer → Bool
ends_run r = is_cut_of r || finished r

-- the blocks sent, in order, after a call and its answer
unfoldable pub sent_after : Call → Answer → List Send → List Send
sent_after c r ss = cond (ends_run r) (map forget ss) (acked_by c r ss ++ sent_by c r)

-- ---- which drive is missing

-- demand 3: a drive is untrusted from a restart that names it missing until its rebuild has finished, and likewise from the start of any
-- further rebuild of it; a mask, as in the state
unfoldable pub untrusted_after : Call → Answer → ℕ → ℕ
untrusted_after (write a b n) r us = us
untrusted_after (land d s n) r us = us
untrusted_after (close n) r us = us
untrusted_after (reclaim n) r us = us
untrusted_after (read a) r us = us
untrusted_after (fill a b) r us = us
untrusted_after (restart d n) r us = cond (is_refused r) us (named d)
untrusted_after (rebuild d n) r us = cond (is_refused r) us (cond (is_cut_of r) (named d) 0)

-- ---- the history

-- what a finished restart left, and how many blocks had been sent
pub record Mark : Type 0 where
  pub world : World
  pub sent_then : ℕ

-- demand 3: the world, what was sent, the untrusted drive, and the last finished restart
pub record Hist : Type 0 where
  pub world : World
  pub sends : List Send
  pub untrusted : ℕ
  pub mark : Opt Mark

-- demand 3: a finished restart is remembered
unfoldable pub marked : Bool → World → ℕ → Opt Mark → Opt Mark
marked true w n o = some (record { world = w; sent_then = n })
marked false w n o = o

-- demand 3: one event
unfoldable pub step : Params → List ℕ → Hist → Event → Hist
step p off h e =
    let r = happens p off h.world e in
    let w = world_after p off h.world e r in
    let ss = sent_after (call_of e) r.answer h.sends in
    record {
      world = w;
      sends = ss;
      untrusted = untrusted_after (call_of e) r.answer h.untrusted;
      mark = marked (finished r.answer) w (length ss) h.mark;
    }

-- 01, How tightly, 4: empty: every pointer 0, any bytes; nothing runs yet; 02, item 4: of offline zones nothing is asked
unfoldable pub empty_disk : Params → List ℕ → Disk → Bool
empty_disk p off k =
    eqb (length k.image) (image_len p) && eqb (length k.pointers) (pointers_len p)
    && all (λ d. all (λ z. eqb (pointer_of p k.pointers d z) 0) (good_zones p off d)) (drives_of p)

-- 01, How tightly, 4: the history of no event
unfoldable pub began : Params → Disk → Hist
began p k = record {
  world = mk_world k (mk_memory zero_state (replicate (addresses_len p) 0) (replicate (compact_len p) 0) (replicate (inflight_len p) 0));
  sends = [];
  untrusted = 0;
  mark = none;
}

-- demand 3, premise: a missing drive is named so at each restart until its rebuild has finished
unfoldable pub names_all : ℕ → Opt ℕ → Bool
names_all us none = true
names_all us (some d) = eqb us 0 || eqb us (named d)

-- demand 3, premises: no call is refused 6; an untrusted drive is named at each restart in order
unfoldable pub allowed : Params → List ℕ → Hist → Event → Bool
allowed p off h e = not (is_refused_as 6 (happens p off h.world e).answer) && names_all h.untrusted (restart_in p off h.world e)

-- ---- what a finished restart reads

-- 01, How tightly, 4: what an address reads: never written, or a block; 02, item 2: and its stamp
pub data Seen : Type 0 where
  unwritten : Seen
  got : List ℕ → ℕ → Seen
  failed : Seen

-- 01, How tightly, 4: "never written" where the first read call says so (r), else the block that the second fills (s, b); 02, item 2: with the stamp,
-- which both pass on: neither is refused, and they tell the same
unfoldable pub seen_by : Answer → Answer → List ℕ → Seen
seen_by r s b =
    let x = cond (eqb (kind s) 11) (got b (stamp_told s)) failed in
    let y = cond (eqb (kind r) 9) unwritten x in
    cond (not (is_refused r) && eqb (stamp_told r) (stamp_told s)) y failed

-- 01, How tightly, 4: what the two reads give
unfoldable pub seen_at : Params → List ℕ → World → ℕ → Seen
seen_at p off w a =
    let s = call_disk p off w.disk w.memory (fill a (replicate p.B 0)) in
    seen_by (call_disk p off w.disk w.memory (read a)).answer s.answer s.block
