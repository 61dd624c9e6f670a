-- Reclaim (01, Reclaim). Assumes nothing.
use Rattle.std.specs.Prelude.{List, [], ◌∷◌, ◌++◌, map, Bool, true, false, cond, not, ◌&&◌, ◌||◌, ℕ, ltb, eqb, length, replicate}
use Rattle.spec.specs.declared.Params.{Params}
use Rattle.spec.specs.declared.State.{State}
use Rattle.spec.specs.declared.Answer.TheVariants.{Copied, Reset}
use Rattle.spec.specs.Bytes.{splice}
use Rattle.spec.specs.Calls.{Check, first_refusal, Plan, mk_plan, Verdict, decided}
use Rattle.spec.specs.Calls.Check.{rule, zones}
use Rattle.spec.specs.Counts.{never_place, a_stamp}
use Rattle.spec.specs.Drives.{View, chunk_at, zone_on, sealed_in, reset_stores, no_seg}
use Rattle.spec.specs.Lists.{Opt, below, any, is_member_of, cons_if, keep, is_nil, flat, first_or}
use Rattle.spec.specs.Lists.Opt.{none, some}
use Rattle.spec.specs.Memory.{Memory, mk_memory, holds, state_faults, place_at_of, compact_at}
use Rattle.spec.specs.Params.{between, in_range, capacity, place_of, place_block, place_zone, place_drive, drives_of}
use Rattle.spec.specs.Segments.{remaining, is_place, place_record}
use Rattle.spec.specs.Write.{opens, no_serial, must_wait, scarce, list_rules, CheckOrder, room_rules, sending}
use Rattle.spec.specs.Write.CheckOrder.{full_first}
use Rattle.spec.specs.declared.Seg.{Seg}

-- ---- live blocks

-- the places that the address table holds
unfoldable pub places_in : Params → List ℕ → List ℕ
places_in p tb = keep (λ q. not (eqb q never_place)) (map (place_at_of tb) (below p.L))

-- 01, Refusals, 9: a place outside the image names zone 0
unfoldable pub table_faults : Params → View → List ℕ → List ℕ
table_faults p v tb = cons_if (any (λ q. not (is_place p v 0 q)) (places_in p tb)) 0 []

-- 01, Reclaim: the places of segment g's live blocks, by drive, then offset
unfoldable pub segment_places : Params → Seg → List ℕ
segment_places p g = flat (λ d. map (place_of p d (zone_on g d)) (below (capacity p))) (drives_of p)

-- 01, Reclaim: the live blocks of segment g
unfoldable pub live_in : Params → List ℕ → Seg → List ℕ
live_in p qs g = keep (λ q. is_member_of q qs) (segment_places p g)

-- 01, Reclaim: a live block is in flight while a stripe in flight holds its address with its stamp
unfoldable pub flying : Params → View → State → ℕ → Bool
flying p v st q =
    let r = place_record p v 0 q in
    let w = holds st r.address r.stamp in
    between 1 p.S (place_block p q) && w

-- ---- the segment that reclaim takes

-- 01, Reclaim: a sealed segment with its live blocks
pub record Victim : Type 0 where
  pub segment : Seg
  pub live : List ℕ

-- 01, Reclaim: segment g with its live blocks
unfoldable pub victim_of : Params → List ℕ → Seg → Victim
victim_of p qs g = record { segment = g; live = live_in p qs g }

-- 01, Reclaim: the one with fewer, the first on a tie
unfoldable pub fewer : Opt Victim → Victim → Opt Victim
fewer none b = some b
fewer (some a) b = some (cond (ltb (length b.live) (length a.live)) b a)

-- 01, Reclaim: the one with fewest
unfoldable pub fewest : Opt Victim → List Victim → Opt Victim
fewest a [] = a
fewest a (b ∷ bs) = fewest (fewer a b) bs

-- 01, Reclaim: the sealed segment with fewest live blocks; 02, item 4: ties go by zone on drive 0, the order of what remains
unfoldable pub victim : Params → View → List ℕ → Opt Victim
victim p v tb =
    let qs = places_in p tb in
    fewest none (map (victim_of p qs) (keep (sealed_in p v 0) (remaining p v 0)))

-- 01, Refusals, 5: no sealed segment
unfoldable pub is_none : Opt Victim → Bool
is_none none = true
is_none (some w) = false

-- 01, Reclaim: the segment taken
unfoldable pub victim_segment : Opt Victim → Seg
victim_segment none = no_seg
victim_segment (some w) = w.segment

-- 01, Reclaim: its live blocks
unfoldable pub victim_live : Opt Victim → List ℕ
victim_live none = []
victim_live (some w) = w.live

-- its live blocks not in flight
unfoldable pub idle : Params → View → State → Opt Victim → List ℕ
idle p v st w = keep (λ q. not (flying p v st q)) (victim_live w)

-- ---- reclaim

-- 01, Reclaim: with a live block, reclaim is a copy
abbrev pub must_copy : Opt Victim → Bool
must_copy w = not (is_nil (victim_live w))

-- 01, Refusals, 7: a copy must wait
abbrev pub copy_waits : Params → State → Opt Victim → Bool
copy_waits p st w = must_copy w && must_wait p st

-- 01, Refusals, 8: too few zones are empty for a copy
abbrev pub copy_full : Params → View → State → Opt Victim → Bool
copy_full p v st w = must_copy w && opens p st && scarce p v 1

-- 01, Refusals: what reclaim checks before 7 and 8
abbrev pub reclaim_before : Params → Bool → View → Memory → Opt Victim → List Check
reclaim_before p long v m w =
    let st = m.state in
    rule 1 (not (in_range p)) ∷ rule 2 (not long) ∷ list_rules p v
    ++ (rule 3 (not (eqb st.missing 0)) ∷ rule 5 (is_none w || (must_copy w && is_nil (idle p v st w))) ∷ rule 6 (must_copy w && no_serial p st) ∷ [])

-- 01, Refusals: the checks of reclaim, 7 and 8 in order o
unfoldable pub reclaim_checks_in : CheckOrder → Params → Bool → View → Memory → Opt Victim → List Check
reclaim_checks_in o p long v m w =
    let st = m.state in
    reclaim_before p long v m w ++ room_rules o (copy_waits p st w) (copy_full p v st w)
    ++ (zones (state_faults p st ++ table_faults p v m.addresses
    ++ map (place_zone p) (keep (λ q. not (between 1 p.S (place_block p q))) (victim_live w))) ∷ [])

-- 02, item 3: full before waiting, in a copy
abbrev pub copy_order : CheckOrder
copy_order = full_first

-- 01, Refusals: the checks of reclaim
abbrev pub reclaim_checks : Params → Bool → View → Memory → Opt Victim → List Check
reclaim_checks p long v m w = reclaim_checks_in copy_order p long v m w

-- 01, Reclaim: with none live it resets its zones; the compact table is 0 where no chunk is stored
unfoldable pub cleared_row : Params → List ℕ → ℕ → ℕ → List ℕ
cleared_row p cs d z = splice cs (compact_at p d z 0) (replicate p.S 0)

-- 01, What a zone holds: the rows of a segment zeroed
unfoldable pub cleared : Params → Seg → List ℕ → List ℕ → List ℕ
cleared p g [] cs = cs
cleared p g (d ∷ ds) cs = cleared p g ds (cleared_row p cs d (zone_on g d))

-- 01, Reclaim: the reset; 02, item 4: its answer is the zone on drive 0
unfoldable pub reset_plan : Params → Memory → Seg → Plan
reset_plan p m g =
    mk_plan (reset_stores p g) (Reset (zone_on g 0)) (mk_memory m.state m.addresses (cleared p g (drives_of p) m.compact) m.inflight) []

-- 01, Reclaim: otherwise the first live block not in flight goes into the filling stripe with its old stamp
unfoldable pub copy_plan : Params → View → Memory → ℕ → Plan
copy_plan p v m q =
    let r = place_record p v 0 q in
    let w = sending p v m.state m.inflight r.address r.stamp 0 (chunk_at v (place_drive p q) (place_zone p q) (place_block p q)).block in
    mk_plan w.stores (Copied (a_stamp r.stamp) w.stripe w.drive) (mk_memory w.state m.addresses m.compact w.inflight) []

-- 01, Reclaim: the call, 7 and 8 in order o
unfoldable pub reclaim_verdict_in : CheckOrder → Params → Bool → View → Memory → Verdict
reclaim_verdict_in o p long v m =
    let w = victim p v m.addresses in
    let a = reset_plan p m (victim_segment w) in
    let b = copy_plan p v m (first_or 0 (idle p v m.state w)) in
    let q = cond (is_nil (victim_live w)) a b in
    decided (first_refusal (reclaim_checks_in o p long v m w)) q

-- 01, Reclaim: the call
abbrev pub reclaim_verdict : Params → Bool → View → Memory → Verdict
reclaim_verdict p long v m = reclaim_verdict_in copy_order p long v m
