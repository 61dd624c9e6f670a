-- The write call, and what it shares with a copy and with closing (01, Write). Assumes nothing.
use Rattle.std.specs.Prelude.{List, [], ◌∷◌, ◌++◌, Bool, cond, not, ◌&&◌, ◌||◌, ℕ, suc, leb, eqb, length}
use Rattle.spec.specs.declared.Params.{Params}
use Rattle.spec.specs.declared.State.{State}
use Rattle.spec.specs.declared.Answer.TheVariants.{Sent}
use Rattle.spec.specs.Calls.{Check, first_refusal, Plan, mk_plan, Verdict, decided}
use Rattle.spec.specs.Calls.Check.{rule, zones}
use Rattle.spec.specs.Counts.{last_count, a_stamp}
use Rattle.spec.specs.Drives.{View, Store, few_good, above_narrow, empty_count, new_seg, header_stores}
use Rattle.spec.specs.Layout.{data_drive, group}
use Rattle.spec.specs.Lists.{any, is_nil}
use Rattle.spec.specs.Memory.{Memory, mk_memory, slot_count, stripe_in, filled_in_of, is_full, in_flight, free_slot, filling_slot, has_filling, state_faults}
use Rattle.spec.specs.Memory.{set_stamp, set_open, begin_stripe, add_entry, set_slot_block, set_slot_parity}
use Rattle.spec.specs.Params.{in_range}

-- 01, Write: a stripe that begins now needs a new segment
unfoldable pub must_open : Params → State → Bool
must_open p st = eqb st.opened 0 || eqb st.next p.S

-- 01, Write: a block taken now opens a segment
unfoldable pub opens : Params → State → Bool
opens p st = not (has_filling p st) && must_open p st

-- 01, Refusals, 6: no next stamp for a write, or no next serial where a segment must be opened
unfoldable pub no_stamp : State → Bool
no_stamp st = eqb st.stamp.0 last_count

-- 01, Refusals, 6: no next serial where a segment must be opened
unfoldable pub no_serial : Params → State → Bool
no_serial p st = opens p st && eqb st.serial.0 last_count

-- 01, Refusals, 7: a stripe must begin and eight are in flight, or it is in the next group or segment and any is in flight
unfoldable pub other_group : Params → State → ℕ → Bool
other_group p st i = not (eqb (group p (stripe_in st i)) (group p st.next))

-- 01, Refusals, 7: wait
unfoldable pub must_wait : Params → State → Bool
must_wait p st =
    not (has_filling p st)
    && (leb slot_count (length (in_flight st)) || (must_open p st && not (is_nil (in_flight st)))
    || (not (must_open p st) && any (other_group p st) (in_flight st)))

-- 01, Refusals, 8: n zones empty, or fewer
unfoldable pub scarce : Params → View → ℕ → Bool
scarce p v n = leb (empty_count p v) n

-- 02, item 4: refusal 10, fewer than four good zones on some drive, checked after 2; L above only the narrower bound is refused 1 just after 10
abbrev pub list_rules : Params → View → List Check
list_rules p v = rule 10 (few_good p v.offline) ∷ rule 1 (above_narrow p v.offline) ∷ []

-- 02, item 3: which of 7 and 8 is checked first; 01 has waiting first
pub data CheckOrder : Type 0 where
  full_first : CheckOrder
  wait_first : CheckOrder

-- 01, Refusals, 7 and 8, in order o
abbrev pub room_rules : CheckOrder → Bool → Bool → List Check
room_rules full_first wait full = rule 8 full ∷ rule 7 wait ∷ []
room_rules wait_first wait full = rule 7 wait ∷ rule 8 full ∷ []

-- ---- a data position filled

-- 01, Write: what filling a position leaves
pub record Placed : Type 0 where
  pub state : State
  pub inflight : List ℕ
  pub drive : ℕ

-- 01, Write: the block lies in its eighth by drive; parity is worked out when the last data block is in
unfoldable pub placed : Params → State → List ℕ → ℕ → ℕ → ℕ → ℕ → List ℕ → Placed
placed p st fl i a t w b =
    let s = stripe_in st i in
    let d = data_drive p s (filled_in_of st i) in
    let st' = add_entry st i a t w in
    let fl' = set_slot_block p fl i d b in
    let fl'' = set_slot_parity p fl' i s in
    record { state = st'; inflight = cond (is_full p st' i) fl'' fl'; drive = d }

-- ---- a block sent: write or copy

-- 01, Write: what sending a block leaves
pub record Sending : Type 0 where
  pub stores : List Store
  pub state : State
  pub inflight : List ℕ
  pub stripe : ℕ
  pub drive : ℕ

-- 01, Write: the segment that is opened has the next serial
unfoldable pub opened_by : Params → State → State
opened_by p st =
    let st' = set_open st (suc st.serial.0) in
    cond (opens p st) st' st

-- 01, Write: the next data position of the filling stripe, or the next stripe number in the lowest free eighth
unfoldable pub slot_for : Params → State → ℕ
slot_for p st = cond (has_filling p st) (filling_slot p st) (free_slot st)

-- 01, Write: the state with that stripe begun
unfoldable pub begun_by : Params → State → State → State
begun_by p st st₁ =
    let st₂ = begin_stripe st₁ (free_slot st) in
    cond (has_filling p st) st st₂

-- 01, Write: address a with stamp t and block b; headers first where a segment is opened
unfoldable pub sending : Params → View → State → List ℕ → ℕ → ℕ → ℕ → List ℕ → Sending
sending p v st fl a t w b =
    let i = slot_for p st in
    let st₂ = begun_by p st (opened_by p st) in
    let q = placed p st₂ fl i a t w b in
    let hs = header_stores p (new_seg p v) (suc st.serial.0) 0 in
    record {
      stores = cond (opens p st) hs [];
      state = q.state;
      inflight = q.inflight;
      stripe = stripe_in st₂ i;
      drive = q.drive;
    }

-- 01, Refusals, 8: too few zones are empty for a write
abbrev pub write_full : Params → View → State → Bool
write_full p v st = scarce p v (cond (opens p st) 2 1)

-- 01, Refusals: what a write checks before 7 and 8
abbrev pub write_before : Params → Bool → View → Memory → ℕ → List ℕ → List Check
write_before p long v m a b =
    let st = m.state in
    rule 1 (not (in_range p)) ∷ rule 2 (not long || not (eqb (length b) p.B)) ∷ list_rules p v
    ++ (rule 3 (not (eqb st.missing 0)) ∷ rule 4 (leb p.L a) ∷ rule 6 (no_stamp st || no_serial p st) ∷ [])

-- 01, Refusals: the checks of a write, 7 and 8 in order o
unfoldable pub write_checks_in : CheckOrder → Params → Bool → View → Memory → ℕ → List ℕ → List Check
write_checks_in o p long v m a b =
    let st = m.state in
    write_before p long v m a b ++ room_rules o (must_wait p st) (write_full p v st) ++ (zones (state_faults p st) ∷ [])

-- 02, item 3: full before waiting, in a write
abbrev pub write_order : CheckOrder
write_order = full_first

-- 01, Refusals: the checks of a write
abbrev pub write_checks : Params → Bool → View → Memory → ℕ → List ℕ → List Check
write_checks p long v m a b = write_checks_in write_order p long v m a b

-- 01, Write: the block takes the next stamp
unfoldable pub write_plan : Params → View → Memory → ℕ → List ℕ → Plan
write_plan p v m a b =
    let st = m.state in
    let t = suc st.stamp.0 in
    let q = sending p v st m.inflight a t 1 b in
    mk_plan q.stores (Sent (a_stamp t) q.stripe q.drive) (mk_memory (set_stamp q.state t) m.addresses m.compact q.inflight) b

-- 01, Write: the call, 7 and 8 in order o
unfoldable pub write_verdict_in : CheckOrder → Params → Bool → View → Memory → ℕ → List ℕ → Verdict
write_verdict_in o p long v m a b =
    let q = write_plan p v m a b in
    decided (first_refusal (write_checks_in o p long v m a b)) q

-- 01, Write: the call
abbrev pub write_verdict : Params → Bool → View → Memory → ℕ → List ℕ → Verdict
write_verdict p long v m a b = write_verdict_in write_order p long v m a b
