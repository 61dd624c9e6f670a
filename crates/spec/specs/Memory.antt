-- What the engine keeps: state, tables, in-flight buffer (01, The array; Write). Assumes nothing.
use Rattle.std.specs.Prelude.{List, [], ◌∷◌, map, Bool, not, ◌&&◌, ℕ, suc, ◌+◌, ◌*◌, ◌/◌, ◌%◌, ◌^◌, leb, ltb, eqb, get_or, take, set, replicate}
use Rattle.std.specs.Int.Bits.{bit_or}
use Rattle.std.specs.Int.Count.{ones}
use Rattle.spec.specs.declared.Params.{Params}
use Rattle.spec.specs.declared.State.{State}
use Rattle.spec.specs.Bytes.{be_of, to_be, le_of, to_le, part, splice}
use Rattle.spec.specs.Counts.{a_stamp, a_serial}
use Rattle.spec.specs.Drives.{View, pointer_at}
use Rattle.spec.specs.Layout.{parity_drive, data_drives, group_offsets, compact_entry, Rec, mk_rec}
use Rattle.spec.specs.Lists.{below, all, any, cons_if, keep, index_of, flat, total, zipped, only, is_in}
use Rattle.spec.specs.Params.{parity_count, data_count}
use Rattle.spec.specs.Parity.{encode_block}

-- 01, The calls: what a call is lent beside image and pointers
pub record Memory : Type 0 where
  pub state : State
  pub addresses : List ℕ
  pub compact : List ℕ
  pub inflight : List ℕ

abbrev pub mk_memory : State → List ℕ → List ℕ → List ℕ → Memory
mk_memory st tb cs fl = record { state = st; addresses = tb; compact = cs; inflight = fl }

-- ---- the state: fields that stand for themselves

-- 01, Write: the state, field by field
abbrev pub mk_state : ℕ → ℕ → ℕ → ℕ → ℕ → ℕ → List ℕ → List ℕ → List ℕ → List ℕ → List ℕ → List ℕ → List ℕ → State
mk_state live gone stamp serial opened next ns fs ws ms ads ts os = record {
  live = live;
  missing = gone;
  stamp = a_stamp stamp;
  serial = a_serial serial;
  opened = opened;
  next = next;
  numbers = ns;
  filled = fs;
  writes = ws;
  landed = ms;
  addresses = ads;
  stamps = ts;
  offsets = os;
}

-- 01, Write: up to eight stripes in flight; a stripe's addresses, stamps and offsets are eight to a stripe
unfoldable pub slot_count : ℕ
slot_count = 8

-- 01, Write: the eighths of the in-flight buffer
unfoldable pub slots : List ℕ
slots = below slot_count

-- 01, Write: the index of position or drive k of eighth i
unfoldable pub cell : ℕ → ℕ → ℕ
cell i k = 8 * i + k

-- a state with nothing in flight
unfoldable pub idle_state : ℕ → ℕ → ℕ → ℕ → ℕ → ℕ → State
idle_state live gone stamp serial opened next =
    mk_state live gone stamp serial opened next (replicate 8 0) (replicate 8 0) (replicate 8 0) (replicate 8 0) (replicate 64 0) (replicate 64 0)
    (replicate 64 0)

-- 01, Store count: all zeros
unfoldable pub zero_state : State
zero_state = idle_state 0 0 0 0 0 0

-- ---- the state's bytes: sections of little-endian numbers of one width, in the order of the fields

-- numbers of one width, so many
pub record Section : Type 0 where
  pub width : ℕ
  pub count : ℕ

abbrev pub section : ℕ → ℕ → Section
section w n = record { width = w; count = n }

-- 01, The array: the sections of the state
unfoldable pub state_sections : List Section
state_sections =
    section 1 1 ∷ section 1 1 ∷ section 8 1 ∷ section 8 1 ∷ section 8 1 ∷ section 4 1
    ∷ section 4 8 ∷ section 1 8 ∷ section 1 8 ∷ section 1 8 ∷ section 8 64 ∷ section 8 64 ∷ section 4 64 ∷ []

-- the bytes of a section
unfoldable pub section_len : Section → ℕ
section_len s = s.width * s.count

-- where section k begins; the whole length
unfoldable pub section_at : ℕ → ℕ
section_at k = total (map section_len (take k state_sections))

-- 01, The array: the state's bytes in all
unfoldable pub state_len : ℕ
state_len = total (map section_len state_sections)

-- n numbers of w bytes from offset at on
unfoldable pub numbers_at : ℕ → ℕ → ℕ → List ℕ → List ℕ
numbers_at w n at bs = map (λ i. le_of (part (at + w * i) w bs)) (below n)

-- the numbers of section k
unfoldable pub section_of : List ℕ → ℕ → List ℕ
section_of bs k =
    let s = get_or state_sections k (section 0 0) in
    numbers_at s.width s.count (section_at k) bs

-- the one number of section k
unfoldable pub number_of : List ℕ → ℕ → ℕ
number_of bs k = get_or (section_of bs k) 0 0

-- 01, The array: the state as bytes, and back
unfoldable pub state_numbers : State → List (List ℕ)
state_numbers st =
    (st.live ∷ []) ∷ (st.missing ∷ []) ∷ (st.stamp.0 ∷ []) ∷ (st.serial.0 ∷ []) ∷ (st.opened ∷ []) ∷ (st.next ∷ [])
    ∷ st.numbers ∷ st.filled ∷ st.writes ∷ st.landed ∷ st.addresses ∷ st.stamps ∷ st.offsets ∷ []

-- a section in bytes
unfoldable pub section_bytes : Section → List ℕ → List ℕ
section_bytes s ns = flat (to_le s.width) ns

-- 01, The array: the state as bytes
unfoldable pub state_bytes : State → List ℕ
state_bytes st = flat (λ (bs : List ℕ). bs) (zipped section_bytes state_sections (state_numbers st))

-- 01, The array: and back
unfoldable pub state_of : List ℕ → State
state_of bs =
    mk_state (number_of bs 0) (number_of bs 1) (number_of bs 2) (number_of bs 3) (number_of bs 4) (number_of bs 5) (section_of bs 6) (section_of bs 7)
    (section_of bs 8) (section_of bs 9) (section_of bs 10) (section_of bs 11) (section_of bs 12)

-- ---- questions to the state: the stripe in eighth i

-- 01, Write: its number
unfoldable pub stripe_in : State → ℕ → ℕ
stripe_in st i = get_or st.numbers i 0

-- 01, Write: how many data positions are filled
unfoldable pub filled_in_of : State → ℕ → ℕ
filled_in_of st i = get_or st.filled i 0

-- 01, Write: which drives have it
unfoldable pub landed_in : State → ℕ → ℕ
landed_in st i = get_or st.landed i 0

-- data position k of it is a write, and no copy or padding
unfoldable pub is_write : State → ℕ → ℕ → Bool
is_write st i k = is_in (get_or st.writes i 0) k

-- the record of data position k
unfoldable pub entry_in_of : State → ℕ → ℕ → Rec
entry_in_of st i k = mk_rec (get_or st.addresses (cell i k) 0) (get_or st.stamps (cell i k) 0) (stripe_in st i)

-- the records of the filled positions
unfoldable pub entries_in : State → ℕ → List Rec
entries_in st i = map (entry_in_of st i) (below (filled_in_of st i))

-- 01, Landing: the offset at which drive d has it
unfoldable pub offset_in : State → ℕ → ℕ → ℕ
offset_in st i d = get_or st.offsets (cell i d) 0

-- 01, Write: the eighth is free
unfoldable pub is_free : State → ℕ → Bool
is_free st i = eqb (filled_in_of st i) 0

-- 01, Write: all data positions are filled
unfoldable pub is_full : Params → State → ℕ → Bool
is_full p st i = leb (data_count p) (filled_in_of st i)

-- 01, Write: the stripe is filling
unfoldable pub is_filling : Params → State → ℕ → Bool
is_filling p st i = not (is_free st i) && not (is_full p st i)

-- the eighths in use
unfoldable pub in_flight : State → List ℕ
in_flight st = keep (λ i. not (is_free st i)) slots

-- 01, Write: the lowest free eighth; the filling stripe's eighth; 8 if there is none
unfoldable pub free_slot : State → ℕ
free_slot st = index_of (is_free st) slots

-- 01, Write: the filling stripe's eighth; 8 if there is none
unfoldable pub filling_slot : Params → State → ℕ
filling_slot p st = index_of (is_filling p st) slots

-- 01, Write: a stripe is filling
unfoldable pub has_filling : Params → State → Bool
has_filling p st = any (is_filling p st) slots

-- 01, Reclaim: a stripe in flight holds the address with the stamp
unfoldable pub holds_at : State → ℕ → ℕ → ℕ → Bool
holds_at st a t j = ltb (j % 8) (filled_in_of st (j / 8)) && eqb (get_or st.addresses j 0) a && eqb (get_or st.stamps j 0) t

-- 01, Reclaim: some stripe in flight holds the address with the stamp
unfoldable pub holds : State → ℕ → ℕ → Bool
holds st a t = any (holds_at st a t) (below 64)

-- 01, Refusals, 9: each number of the state in its range
unfoldable pub slot_ok_of : Params → State → ℕ → Bool
slot_ok_of p st i =
    ltb (stripe_in st i) p.S && leb (filled_in_of st i) (data_count p) && ltb (get_or st.writes i 0) (2 ^ data_count p) && ltb (landed_in st i) (2 ^ p.N)

-- 01, Refusals, 9: no state number out of range
unfoldable pub state_ok : Params → State → Bool
unfolding parity_count
state_ok p st =
    eqb st.live 1 && ltb st.missing (2 ^ p.N) && leb (ones st.missing) (parity_count p) && leb st.opened st.serial.0 && leb st.next p.S
    && all (slot_ok_of p st) slots && all (λ o. ltb o p.S) st.offsets

-- 01, Refusals, 9: a state number out of range names zone 0
unfoldable pub state_faults : Params → State → List ℕ
state_faults p st = cons_if (not (state_ok p st)) 0 []

-- ---- the state with a part changed

-- 01, Write: the last stamp given out
unfoldable pub set_stamp : State → ℕ → State
set_stamp st t =
    mk_state st.live st.missing t st.serial.0 st.opened st.next st.numbers st.filled st.writes st.landed
    st.addresses st.stamps st.offsets

-- 01, Write: a segment is opened under serial r, its stripe 0 next; 02, item 4: the state names it by its serial
unfoldable pub set_open : State → ℕ → State
set_open st r =
    mk_state st.live st.missing st.stamp.0 r r 0 st.numbers st.filled st.writes st.landed st.addresses
    st.stamps st.offsets

-- no segment open
unfoldable pub set_closed : State → State
set_closed st =
    mk_state st.live st.missing st.stamp.0 st.serial.0 0 0 st.numbers st.filled st.writes st.landed
    st.addresses st.stamps st.offsets

-- 01, Write: begins the next stripe number in eighth i
unfoldable pub begin_stripe : State → ℕ → State
begin_stripe st i =
    mk_state st.live st.missing st.stamp.0 st.serial.0 st.opened (suc st.next)
    (set st.numbers i st.next) (set st.filled i 0) (set st.writes i 0) (set st.landed i 0) st.addresses st.stamps
    st.offsets

-- 01, Write: address a with stamp t at the next data position of eighth i; w: 1 for a write, 0 for a copy or padding
unfoldable pub add_entry : State → ℕ → ℕ → ℕ → ℕ → State
add_entry st i a t w =
    let k = filled_in_of st i in
    mk_state st.live st.missing st.stamp.0 st.serial.0 st.opened st.next st.numbers
    (set st.filled i (suc k)) (set st.writes i (bit_or (get_or st.writes i 0) (w * only k))) st.landed
    (set st.addresses (cell i k) a) (set st.stamps (cell i k) t) st.offsets

-- 01, Landing: drive d has the stripe of eighth i, at data offset o
unfoldable pub landed_mask : State → ℕ → ℕ → ℕ
landed_mask st i d = bit_or (landed_in st i) (only d)

-- 01, Landing: its bit set and its offset remembered
unfoldable pub mark_landed : State → ℕ → ℕ → ℕ → State
mark_landed st i d o =
    mk_state st.live st.missing st.stamp.0 st.serial.0 st.opened st.next st.numbers st.filled
    st.writes (set st.landed i (landed_mask st i d)) st.addresses st.stamps (set st.offsets (cell i d) o)

-- 01, Landing: the stripe of eighth i is complete, the eighth is free
unfoldable pub free_stripe : State → ℕ → State
free_stripe st i =
    mk_state st.live st.missing st.stamp.0 st.serial.0 st.opened st.next st.numbers (set st.filled i 0)
    st.writes st.landed st.addresses st.stamps st.offsets

-- ---- tables

-- 01, The array: the address table, places of 4 bytes
unfoldable pub place_at_of : List ℕ → ℕ → ℕ
place_at_of tb a = be_of (part (4 * a) 4 tb)

-- 01, The array: a place replaced
unfoldable pub set_place : List ℕ → ℕ → ℕ → List ℕ
set_place tb a q = splice tb (4 * a) (to_be 4 q)

-- 01, What a zone holds: the compact table's index of a drive, zone and offset
unfoldable pub compact_at : Params → ℕ → ℕ → ℕ → ℕ
compact_at p d z o = (d * p.Z + z) * p.S + o

-- 01, What a zone holds: the offsets, below the pointer, at which the table shows stripe s on a drive; the lowest is meant
unfoldable pub shown_at : Params → View → List ℕ → ℕ → ℕ → ℕ → List ℕ
shown_at p v cs d z s =
    keep (λ o. ltb (1 + o) (pointer_at v d z) && eqb (get_or cs (compact_at p d z o) 0) (compact_entry p s)) (group_offsets p s)

-- ---- in-flight buffer: an eighth, then by drive

-- 01, Write: where the block of a drive lies in eighth i
unfoldable pub slot_byte : Params → ℕ → ℕ → ℕ
slot_byte p i d = (i * p.N + d) * p.B

-- 01, Write: the block of a drive in eighth i
unfoldable pub slot_block : Params → List ℕ → ℕ → ℕ → List ℕ
slot_block p fl i d = part (slot_byte p i d) p.B fl

-- 01, Write: that block replaced
unfoldable pub set_slot_block : Params → List ℕ → ℕ → ℕ → List ℕ → List ℕ
set_slot_block p fl i d b = splice fl (slot_byte p i d) b

-- 01, Write: parity is worked out there
unfoldable pub set_slot_parity : Params → List ℕ → ℕ → ℕ → List ℕ
set_slot_parity p fl i s = set_slot_block p fl i (parity_drive p s) (encode_block p.B 0 (map (slot_block p fl i) (data_drives p s)))
