-- Demand 2 as a statement, in full: zone rules, layout, tables, reads, landings, restarts and rebuilds. Assumes nothing.
use Rattle.std.specs.Prelude.{◌≡◌, List, [], ◌∷◌, ◌++◌, map, Bool, true, false, cond, not, ◌&&◌, ℕ, ◌<◌, ltb, eqb, length, get_or}
use Rattle.spec.specs.declared.Params.{Params}
use Rattle.spec.specs.declared.Answer.{Answer}
use Rattle.spec.specs.declared.Answer.TheVariants.{Landed, Restarted}
use Rattle.spec.specs.Answers.{kind, values, is_refused, is_refused_as, is_cut_of, finished}
use Rattle.spec.specs.Demands.{are_bytes, said_at, NotNinth}
use Rattle.spec.specs.Drives.{View, Store, store_view_of, store_all, zone_on, sealed_in}
use Rattle.spec.specs.Drives.Store.{put}
use Rattle.spec.specs.Engine.{Call, Lent, lent_disk, call_bytes}
use Rattle.spec.specs.Engine.Call.{write, land, close, reclaim, read, fill, restart, rebuild}
use Rattle.spec.specs.History.{restart_of, ends_run, empty_disk}
use Rattle.spec.specs.Landing.{seal_stores}
use Rattle.spec.specs.Layout.{Rec, record_bytes}
use Rattle.spec.specs.Lists.{below, all, any, cons_if, keep, tally, total}
use Rattle.spec.specs.Params.{no_drive, named, present}
use Rattle.spec.specs.Segments.{remaining, Segment, segment_of, segments, has_chunk, counts, candidates, address_table, compact_table, open_segment}
use Rattle.spec_demands.specs.Engines.{Reply, Engine, on_bytes, view_in, reads_as}
use Rattle.spec_demands.specs.Histories.{lent_in_order}
use Rattle.spec_demands.specs.Latest.{SaidIsLatest}
use Rattle.spec_demands.specs.Layouts.{Layout}
use Rattle.spec_demands.specs.Rules.{ZoneRules, OfflineApart}
use Rattle.spec.specs.declared.Seg.{Seg}

-- ---- what was sent in this run and is not acknowledged

-- 01, Write: a write's stripe and drive, its record and its block
pub record Pending : Type 0 where
  pub stripe : ℕ
  pub drive : ℕ
  pub address : ℕ
  pub stamp : ℕ
  pub block : List ℕ

-- nothing
unfoldable pub no_pending : Pending
no_pending = record { stripe = 0; drive = 0; address = 0; stamp = 0; block = [] }

-- 01, Write: "a write answers with its stamp, stripe and drive"
unfoldable pub pending_by : Call → Answer → List Pending
pending_by (write a b n) r =
    let vs = values r in
    cons_if (eqb (kind r) 3) (record { stripe = get_or vs 1 0; drive = get_or vs 2 0; address = a; stamp = get_or vs 0 0; block = b }) []
pending_by (land d s n) r = []
pending_by (close n) r = []
pending_by (reclaim n) r = []
pending_by (read a) r = []
pending_by (fill a b) r = []
pending_by (restart d n) r = []
pending_by (rebuild d n) r = []

-- 01, Landing: the writes of the stripe, acknowledged where the answer gives a number above 0, wait no longer
unfoldable pub still_pending : Call → Answer → List Pending → List Pending
still_pending (write a b n) r ws = ws
still_pending (land d s n) r ws = cond (eqb (kind r) 4 && ltb 0 (get_or (values r) 0 0)) (keep (λ (w : Pending). not (eqb w.stripe s)) ws) ws
still_pending (close n) r ws = ws
still_pending (reclaim n) r ws = ws
still_pending (read a) r ws = ws
still_pending (fill a b) r ws = ws
still_pending (restart d n) r ws = ws
still_pending (rebuild d n) r ws = ws

-- after a call and its answer; a run ends with a cut, and where the next begins
unfoldable pub pending_after : Call → Answer → List Pending → List Pending
pending_after c r ws = cond (ends_run r) [] (still_pending c r ws ++ pending_by c r)

-- the writes of a stripe
unfoldable pub pending_in : List Pending → ℕ → ℕ
pending_in ws s = tally (λ (w : Pending). eqb w.stripe s) ws

-- ---- what a restart finds

-- 01, Restart: "the number of stripes with some chunk but not counted, in remaining segments": on some present drive and not on every one
unfoldable pub half_stored : Params → View → ℕ → Seg → ℕ
half_stored p v gone g =
    let h = has_chunk (segment_of p v gone g) in
    tally (λ s. any (h s) (present p gone) && not (all (h s) (present p gone))) (below p.S)

unfoldable pub uncounted_number : Params → View → ℕ → ℕ
uncounted_number p v gone = total (map (half_stored p v gone) (remaining p v gone))

-- the segments that the restart of this run found, as the drives were when it came
unfoldable pub found_after : Params → View → Call → Answer → List Segment → List Segment
found_after p v (write a b n) r old = old
found_after p v (land d s n) r old = old
found_after p v (close n) r old = old
found_after p v (reclaim n) r old = old
found_after p v (read a) r old = old
found_after p v (fill a b) r old = old
found_after p v (restart d n) r old = cond (finished r) (segments p v (named d)) old
found_after p v (rebuild d n) r old = old

module _ {W : Type 0} (E : Engine W) where
  -- ---- between calls

  -- "the tables in memory equal what the drives say", and so do the reads, under the drive that the restart named missing
  pub record Says (p : Params) (w : W) : Type 0 where
    pub addresses_say : (E.memory w).addresses ≡ address_table p (candidates p (E.memory w).state.missing (segments p (view_in E p w) (E.memory w).state.missing))
    pub compact_says : (E.memory w).compact ≡ compact_table p (segments p (view_in E p w) (E.memory w).state.missing)
    pub reads_say : (a : ℕ) → a < p.L → reads_as E p w a ≡ said_at p (view_in E p w) (E.memory w).state.missing a

  -- ---- one call, from w with reply r

  -- 01, Write: the open segment
  unfoldable pub open_in : Params → W → Seg
  open_in p w = open_segment p (view_in E p w) (E.memory w).state

  -- 01, Landing: the chunk, and, where the segment is sealed with it, the footers
  unfoldable pub landing_stores : Params → W → Store → Bool → List Store
  landing_stores p w c sealed = c ∷ cond sealed (seal_stores p (store_view_of c (view_in E p w)) (open_in p w)) []

  -- 01, Landing: one chunk more on that drive, with what was sent; acknowledged just where the stripe now counts
  pub record Lands (p : Params) (w : W) (ws : List Pending) (d s : ℕ) (r : Reply W) (n : ℕ) : Type 0 where
    pub block : List ℕ
    pub rec : Rec
    -- the chunk, with the footers where it seals the segment, and nothing else
    pub stored : view_in E p r.world
        ≡ store_all store_view_of (landing_stores p w (put d (zone_on (open_in p w) d) block (record_bytes rec)) (sealed_in p (view_in E p r.world) 0 (open_in p w))) (view_in E p w)
    pub numbered : rec.stripe ≡ s
    pub sent : (i : ℕ) → i < length ws → (get_or ws i no_pending).stripe ≡ s → (get_or ws i no_pending).drive ≡ d
        → (block ≡ (get_or ws i no_pending).block) × (rec.address ≡ (get_or ws i no_pending).address) × (rec.stamp ≡ (get_or ws i no_pending).stamp)
    pub acknowledges : n ≡ cond (counts p 0 (segment_of p (view_in E p r.world) 0 (open_in p w)) s) (pending_in ws s) 0

  -- 01, Restart: the answer, and the drive under which the tables are read
  pub record Restarts (p : Params) (w : W) (d : ℕ) (r : Reply W) : Type 0 where
    pub reports : r.answer ≡ Restarted (record { uncounted = uncounted_number p (view_in E p w) (named d) })
    pub under : (E.memory r.world).state.missing ≡ named d

  -- 01, Rebuild: with none missing the drives say what they said with the drive missing, and a restart finds nothing wrong on them
  pub record Rebuilds (p : Params) (w : W) (r : Reply W) : Type 0 where
    pub says_same : (a : ℕ) → a < p.L → said_at p (view_in E p r.world) 0 a ≡ said_at p (view_in E p w) (E.memory w).state.missing a
    pub accepted : (u : W) (n : ℕ) → E.disk u ≡ E.disk r.world → E.offline u ≡ E.offline w → is_refused_as 9 (E.call p u (restart no_drive n)).answer ≡ false

  -- what is claimed of a call beside the tables
  abbrev pub CallSays : Params → W → List Pending → Call → Reply W → Type 0
  CallSays p w ws (write a b n) r = Unit {0}
  CallSays p w ws (land d s n) r = (x : ℕ) → r.answer ≡ Landed x → Lands p w ws d s r x
  CallSays p w ws (close n) r = Unit {0}
  CallSays p w ws (reclaim n) r = Unit {0}
  CallSays p w ws (read a) r = Unit {0}
  CallSays p w ws (fill a b) r = Unit {0}
  CallSays p w ws (restart d n) r = finished r.answer ≡ true → Restarts p w d r
  CallSays p w ws (rebuild d n) r = eqb (kind r.answer) 13 ≡ true → Rebuilds p w r

  -- ---- lists of calls

  -- "every call on what it left, none of them cut"; ws: the writes that wait, old: the segments that the restart of this run found
  abbrev pub SaysOn : Params → W → List Pending → List Segment → List Call → Type 0
  SaysOn p w ws old [] = Says p w × Layout p (view_in E p w) (E.memory w).state.missing old
  SaysOn p w ws old (c ∷ cs) =
      Says p w × Layout p (view_in E p w) (E.memory w).state.missing old
      × NotNinth (restart_of c) (E.call p w c).answer
      × CallSays p w ws c (E.call p w c)
      × (is_cut_of (E.call p w c).answer ≡ false
      → SaysOn p (E.call p w c).world (pending_after c (E.call p w c).answer ws) (found_after p (view_in E p w) c (E.call p w c).answer old) cs)

  -- demand 2: "after a restart" that finished, on any bytes that it accepts, "and every call on what it left, none of them cut"
  abbrev pub AfterRestart : Type 0
  AfterRestart = (p : Params) (w : W) (d n : ℕ) (cs : List Call) → are_bytes (E.disk w).image ≡ true → finished (E.call p w (restart d n)).answer ≡ true
      → Restarts p w d (E.call p w (restart d n)) × SaysOn p (E.call p w (restart d n)).world [] (segments p (view_in E p w) (named d)) cs

-- demand 2, of the lent bytes: the zone rules in every call, and what a restart and the calls after it leave
pub record Demand2 : Type 0 where
  -- "under the NVMe zone rules"
  pub zone_rules : ZoneRules
  -- 02, item 4: "never read .. or checked"
  pub offline_apart : OfflineApart
  -- 01, How tightly, 2: no restart "that refuses all images": empty drives are accepted
  pub accepts : (p : Params) (l : Lent) (d n : ℕ) → lent_in_order p l d ≡ true → empty_disk p l.offline (lent_disk l) ≡ true → is_refused (call_bytes p l (restart d n)).answer ≡ false
  -- "From those bytes alone, a read gives the latest-sent block among whole stripes": what `said_at` gives is that; 02, item 2: with its stamp
  pub latest : SaidIsLatest
  -- "and after a restart and every call on what it left, none of them cut, the tables in memory equal what the drives say"
  pub after_restart : AfterRestart on_bytes
