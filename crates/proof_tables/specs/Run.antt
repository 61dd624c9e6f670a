-- What holds between the uncut calls that follow a finished restart. Assumes nothing.
use Rattle.std.specs.Prelude.{◌≡◌, List, Bool, true, false, not, ◌&&◌, ◌⊎◌, ℕ, suc, ◌+◌, ◌*◌, ◌^◌, ◌≤◌, ◌<◌, length}
use Rattle.spec.specs.declared.Params.{Params}
use Rattle.spec.specs.declared.State.{State}
use Rattle.spec.specs.Answers.{is_refused_as, is_cut_of}
use Rattle.spec.specs.Calls.{After}
use Rattle.spec.specs.Drives.{View, pointer_at, Disk, zone_on}
use Rattle.spec.specs.Layout.{data_position, is_data, group, header_serial}
use Rattle.spec.specs.Lists.{tally, is_in}
use Rattle.spec.specs.Memory.{Memory, slots, stripe_in, filled_in_of, landed_in, entry_in_of, offset_in, is_free}
use Rattle.spec.specs.Params.{capacity, named}
use Rattle.law_views.specs.Views.{seen}
use Rattle.law_drives.specs.Accept.{Accepted}
use Rattle.law_drives.specs.Tidy.{spare_at, Tidy, There}
use Rattle.proof_tables.specs.Base.{Base}
use Rattle.spec.specs.declared.Seg.{Seg}
use Rattle.spec.specs.Segments.{header_at}

-- ---- one drive is missing: nothing is wrong on the others

pub record LostDrive (p : Params) (off : List ℕ) (k : Disk) (m : Memory) : Type 0 where
  pub which : ℕ
  pub which_low : which < p.N
  pub names_it : m.state.missing ≡ named which
  pub accepts : Accepted p (seen p off k) m.state.missing

-- an eighth in use
abbrev pub flies : State → ℕ → Bool
flies st i = not (is_free st i)

-- a stripe in flight that drive d doesn't have
abbrev pub awaits : State → (ℕ → Bool) → ℕ → ℕ → Bool
awaits st busy d i = busy i && not (is_in (landed_in st i) d)

-- where drive d has the stripe of eighth i
pub record LandedAt (p : Params) (v : View) (st : State) (z : Seg) (i d : ℕ) : Type 0 where
  pub lies : 1 + offset_in st i d < pointer_at v d (zone_on z d)
  pub of_stripe : (spare_at p v d (zone_on z d) (offset_in st i d)).stripe ≡ stripe_in st i
  pub not_before : (o : ℕ) → o < offset_in st i d → (spare_at p v d (zone_on z d) o).stripe ≡ stripe_in st i → ⊥
  pub is_entry : is_data p (stripe_in st i) d ≡ true
      → (data_position p (stripe_in st i) d < filled_in_of st i) × (spare_at p v d (zone_on z d) (offset_in st i d) ≡ entry_in_of st i (data_position p (stripe_in st i) d))

pub record SlotFlies (p : Params) (v : View) (st : State) (z : Seg) (i : ℕ) : Type 0 where
  pub begun : stripe_in st i < st.next
  pub group-low : (d : ℕ) → d < p.N → group p (stripe_in st i) * p.G < pointer_at v d (zone_on z d)
  pub group_high : st.next ≤ suc (group p (stripe_in st i)) * p.G
  pub not_there : (d o : ℕ) → d < p.N → is_in (landed_in st i) d ≡ false → 1 + o < pointer_at v d (zone_on z d) → (spare_at p v d (zone_on z d) o).stripe ≡ stripe_in st i → ⊥
  pub lands : (d : ℕ) → d < p.N → is_in (landed_in st i) d ≡ true → LandedAt p v st z i d
  pub entries_low : (e : ℕ) → e < filled_in_of st i → ((entry_in_of st i e).address < 256 ^ 8) × ((entry_in_of st i e).stamp < 256 ^ 8)

-- the open segment
pub record OpenZone (p : Params) (v : View) (st : State) (busy : ℕ → Bool) (z : Seg) : Type 0 where
  pub opened_zone : There p v z
  pub has_header : (d : ℕ) → d < p.N → 1 ≤ pointer_at v d (zone_on z d)
  pub count : (d : ℕ) → d < p.N → pointer_at v d (zone_on z d) + tally (awaits st busy d) slots ≡ suc st.next
  pub below_next : (d o : ℕ) → d < p.N → 1 + o < pointer_at v d (zone_on z d) → (spare_at p v d (zone_on z d) o).stripe < st.next
  pub flight : (i : ℕ) → i < 8 → busy i ≡ true → SlotFlies p v st z i
  pub once : (i j : ℕ) → i < 8 → j < 8 → busy i ≡ true → busy j ≡ true → stripe_in st i ≡ stripe_in st j → i ≡ j
  pub goes_on : st.next ≡ p.S → 0 < tally busy slots

-- the state's lists have their lengths
pub record Lists (st : State) : Type 0 where
  pub numbers_long : length st.numbers ≡ 8
  pub filled_long : length st.filled ≡ 8
  pub writes_long : length st.writes ≡ 8
  pub landed_long : length st.landed ≡ 8
  pub addresses_long : length st.addresses ≡ 64
  pub stamps_long : length st.stamps ≡ 64
  pub offsets_long : length st.offsets ≡ 64

pub record HealthyState (p : Params) (v : View) (st : State) : Type 0 where
  pub tidy : Tidy p v st.serial.0
  pub sealed_but : (z : Seg) → There p v z → (st.opened ≡ header_serial p (header_at v 0 z)) ⊎ ((d : ℕ) → d < p.N → pointer_at v d (zone_on z d) ≡ capacity p)
  -- the open segment is there, by its serial
  pub opens_at : (st.opened ≡ 0 → ⊥) → (z : Seg) × (st.opened ≡ header_serial p (header_at v 0 z)) × OpenZone p v st (flies st) z
  pub shut : st.opened ≡ 0 → (i : ℕ) → i < 8 → flies st i ≡ false
  pub serial_fits : st.serial.0 < 256 ^ 8
  pub stamp_fits : st.stamp.0 < 256 ^ 8
  pub lists : Lists st

pub record Well (p : Params) (off : List ℕ) (k : Disk) (m : Memory) : Type 0 where
  pub none_missing : m.state.missing ≡ 0
  pub healthy : HealthyState p (seen p off k) m.state

-- ---- together

pub record Run (p : Params) (off : List ℕ) (k : Disk) (m : Memory) : Type 0 where
  pub base : Base p off k m
  pub mode : LostDrive p off k m ⊎ Well p off k m

-- what a step must give
pub record Kept (p : Params) (off : List ℕ) (r : After Disk) : Type 0 where
  pub never_ninth : is_refused_as 9 r.answer ≡ false
  pub runs_on : is_cut_of r.answer ≡ false → Run p off r.drives r.memory
