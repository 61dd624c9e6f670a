-- What holds between uncut calls of the stripes in flight: landed chunks, parity, and the writes that wait. Assumes nothing.
use Rattle.std.specs.Prelude.{◌≡◌, List, map, true, false, ℕ, ◌+◌, ◌≤◌, ◌<◌, eqb, length, get_or}
use Rattle.spec.specs.declared.Params.{Params}
use Rattle.spec.specs.declared.State.{State}
use Rattle.spec.specs.Drives.{mk_chunk, View, chunk_at, Disk, zone_on}
use Rattle.spec.specs.Landing.{flight_rec}
use Rattle.spec.specs.Layout.{parity_drive, data_drive, data_drives, record_bytes}
use Rattle.spec.specs.Lists.{below, keep, is_in}
use Rattle.spec.specs.Memory.{Memory, stripe_in, filled_in_of, landed_in, is_write, entry_in_of, offset_in, is_full, slot_block}
use Rattle.spec.specs.Parity.{encode_block}
use Rattle.spec.specs.Segments.{Segment, segment_of, counts, open_segment}
use Rattle.spec_demands.specs.Layouts.{Remains, found_counted, ParityMade}
use Rattle.spec_demands.specs.Tables.{Pending, no_pending}
use Rattle.proof_tables.specs.Run.{flies}
use Rattle.law_views.specs.Views.{seen}
use Rattle.spec.specs.declared.Seg.{Seg}

-- data position k of eighth i, as the write that filled it sent it
unfoldable pub pending_of : Params → State → List ℕ → ℕ → ℕ → Pending
pending_of p st fl i k =
    let s = stripe_in st i in
    let d = data_drive p s k in
    record { stripe = s; drive = d; address = (entry_in_of st i k).address; stamp = (entry_in_of st i k).stamp; block = slot_block p fl i d }

pub record Flights (p : Params) (v : View) (st : State) (fl : List ℕ) (ws : List Pending) : Type 0 where
  -- a chunk that has landed is what its eighth holds
  pub landed_is : (i d : ℕ) → i < 8 → flies st i ≡ true → d < p.N → is_in (landed_in st i) d ≡ true
      → chunk_at v d (zone_on (open_segment p v st) d) (1 + offset_in st i d) ≡ mk_chunk (slot_block p fl i d) (record_bytes (flight_rec p st i d))
  -- parity has landed only of a full stripe
  pub parity_full : (i : ℕ) → i < 8 → flies st i ≡ true → is_in (landed_in st i) (parity_drive p (stripe_in st i)) ≡ true → is_full p st i ≡ true
  -- and it is worked out once the stripe is full
  pub parity-ready : (i : ℕ) → i < 8 → flies st i ≡ true → is_full p st i ≡ true
      → slot_block p fl i (parity_drive p (stripe_in st i)) ≡ encode_block p.B 0 (map (slot_block p fl i) (data_drives p (stripe_in st i)))
  -- the writes that wait are those of the stripes in flight, by data position
  pub pending_is : (i : ℕ) → i < 8 → flies st i ≡ true
      → keep (λ (w : Pending). eqb w.stripe (stripe_in st i)) ws ≡ map (pending_of p st fl i) (keep (is_write st i) (below (filled_in_of st i)))
  -- no position that is yet to fill is marked as a write
  pub writes_low : (i k : ℕ) → i < 8 → flies st i ≡ true → filled_in_of st i ≤ k → k < 8 → is_write st i k ≡ false
  pub pending_flies : (j : ℕ) → j < length ws → (i : ℕ) × (i < 8) × (flies st i ≡ true) × (stripe_in st i ≡ (get_or ws j no_pending).stripe)

-- the restart of this run found every counted stripe
abbrev pub FoundBefore : Params → View → ℕ → List Segment → Type 0
FoundBefore p v gone old =
    (g : Seg) (s : ℕ) → Remains p v gone g → s < p.S → counts p gone (segment_of p v gone g) s ≡ true → found_counted p gone old (segment_of p v gone g).serial s ≡ true

pub record Flown (p : Params) (off : List ℕ) (k : Disk) (m : Memory) (ws : List Pending) (old : List Segment) : Type 0 where
  pub flights : m.state.missing ≡ 0 → Flights p (seen p off k) m.state m.inflight ws
  pub parities : ParityMade p (seen p off k) m.state.missing old
  -- with a drive missing nothing was written in this run
  pub all_found : (m.state.missing ≡ 0 → ⊥) → FoundBefore p (seen p off k) m.state.missing old
