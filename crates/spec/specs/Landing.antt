-- Landing (01, Landing). Assumes nothing.
use Rattle.std.specs.Prelude.{List, [], ◌∷◌, ◌++◌, map, Bool, cond, not, ◌&&◌, ℕ, ◌+◌, ◌-◌, ltb, eqb, length, set}
use Rattle.std.specs.Int.Count.{ones}
use Rattle.spec.specs.declared.Params.{Params}
use Rattle.spec.specs.declared.State.{State}
use Rattle.spec.specs.declared.Answer.TheVariants.{Landed}
use Rattle.spec.specs.Calls.{Check, first_refusal, Plan, mk_plan, Verdict, decided}
use Rattle.spec.specs.Calls.Check.{rule, zones}
use Rattle.spec.specs.Counts.{never_place}
use Rattle.spec.specs.Drives.{View, zone_at, pointer_at, Store, store_view_of, zone_on, footer_stores}
use Rattle.spec.specs.Drives.Store.{put}
use Rattle.spec.specs.Layout.{data_drive, data_position, is_data, parity_position, group, compact_entry, Rec, record_bytes}
use Rattle.spec.specs.Lists.{Opt, below, cons_if, is_nil, keep, tally, index_of, flat, is_in}
use Rattle.spec.specs.Lists.Opt.{none, some}
use Rattle.spec.specs.Memory.{Memory, mk_memory, slot_count, slots, stripe_in, filled_in_of, landed_in, is_write, entry_in_of, entries_in, offset_in}
use Rattle.spec.specs.Memory.{is_free, is_full, in_flight, state_faults, set_closed, landed_mask, mark_landed, free_stripe, place_at_of, set_place, compact_at}
use Rattle.spec.specs.Memory.{slot_block}
use Rattle.spec.specs.Params.{between, in_range, footers, capacity, place_of, place_block, place_drive, drives_of}
use Rattle.spec.specs.Parity.{encode_rec}
use Rattle.spec.specs.Rank.{Cand, best, place_or, cands_of}
use Rattle.spec.specs.Read.{Found, place_faults, lookup}
use Rattle.spec.specs.Read.Found.{nowhere, here, away}
use Rattle.spec.specs.Segments.{place_segment, serial_at, open_segments, open_segment}
use Rattle.spec.specs.Write.{list_rules}
use Rattle.spec.specs.declared.Seg.{Seg}

-- 01, Landing: the eighth of a stripe in flight; 8 if it isn't
unfoldable pub slot_of : State → ℕ → ℕ
slot_of st s = index_of (λ i. not (is_free st i) && eqb (stripe_in st i) s) slots

-- 01, Landing: data once filled, parity once all data positions are filled, and not landed before
unfoldable pub ready : Params → State → ℕ → ℕ → Bool
ready p st i d =
    not (is_in (landed_in st i) d)
    && cond (is_data p (stripe_in st i) d) (ltb (data_position p (stripe_in st i) d) (filled_in_of st i)) (is_full p st i)

-- 01, Refusals, 5: a chunk that waits
unfoldable pub waiting : Params → State → ℕ → ℕ → Bool
waiting p st d s =
    let i = slot_of st s in
    ltb d p.N && ltb i slot_count && ready p st i d

-- 01, Landing: complete when as many drives have landed it as there are drives
unfoldable pub completes : Params → State → ℕ → ℕ → Bool
completes p st i d = eqb (ones (landed_mask st i d)) p.N

-- 01, Landing: after it all S stripes of the segment are complete
unfoldable pub seals : Params → State → ℕ → ℕ → Bool
seals p st i d = completes p st i d && eqb st.next p.S && eqb (length (in_flight st)) 1

-- 01, What a zone holds: the record of a chunk in flight
unfoldable pub flight_rec : Params → State → ℕ → ℕ → Rec
flight_rec p st i d =
    let s = stripe_in st i in
    let r = encode_rec (parity_position p s d) s (entries_in st i) in
    cond (is_data p s d) (entry_in_of st i (data_position p s d)) r

-- ---- refusal 9

-- 01, Refusals, 9: a landing at a pointer that isn't at a data block of the stripe's group
unfoldable pub misplaced : Params → View → ℕ → ℕ → ℕ → Bool
misplaced p v d z s = not (between 1 p.S (pointer_at v d z) && eqb (group p (pointer_at v d z - 1)) (group p s))

-- 01, Refusals, 9: the zones that the call would fill above capacity
unfoldable pub overfull : Params → View → ℕ → Seg → List ℕ
overfull p v d g = map (zone_on g) (keep (λ e. ltb (capacity p) (pointer_at v e (zone_on g e) + cond (eqb e d) 1 0 + footers p)) (drives_of p))

-- 01, Refusals, 9: places to be read: of the stripe's addresses, when it completes
unfoldable pub entry_faults : Params → View → List ℕ → Rec → List ℕ
entry_faults p v tb e =
    let q = place_at_of tb e.address in
    let zs = place_faults p v 0 q in
    let ws = cond (eqb q never_place) [] zs in
    cond (ltb e.address p.L) ws []

-- 01, Refusals, 9: the bad zones of a landing; 02, item 4: a state whose open serial no remaining segment has is out of range
unfoldable pub land_faults : Params → View → Memory → ℕ → ℕ → List ℕ
land_faults p v m d s =
    let st = m.state in
    let i = slot_of st s in
    let g = open_segment p v st in
    let zs = flat (entry_faults p v m.addresses) (entries_in st i) in
    cons_if (is_nil (open_segments p v st)) 0 (cons_if (misplaced p v d (zone_on g d) s) (zone_on g d) (cond (seals p st i d) (overfull p v d g) [] ++ cond (completes p st i d) zs []))

-- ---- the address table when a stripe completes

-- 01, The calls: the record of stamp t that the table holds of an address at place q
unfoldable pub held_cand : Params → View → ℕ → ℕ → ℕ → Cand
held_cand p v a t q =
    let g = place_segment p v 0 q in
    record { address = a; stamp = t; serial = serial_at p v g; drive = place_drive p q; offset = place_block p q - 1; place = q }

-- 01, The calls: none where the address was never written
unfoldable pub held_by_of : Params → View → ℕ → ℕ → Found → Opt Cand
held_by_of p v a t nowhere = none
held_by_of p v a t (here q) = some (held_cand p v a t q)
held_by_of p v a t (away q) = some (held_cand p v a t q)

-- 01, The calls: what the lookup gives of an address (02, item 2); no drive is missing, so nothing is decoded
unfoldable pub held : Params → View → List ℕ → ℕ → Opt Cand
held p v tb a =
    let l = lookup p v 0 [] tb a in
    held_by_of p v a l.stamp l.found

-- the completed stripe's records, by data position
unfoldable pub landed_cand : Params → View → Seg → State → ℕ → ℕ → Cand
landed_cand p v g st i k =
    let e = entry_in_of st i k in
    let d = data_drive p (stripe_in st i) k in
    let o = offset_in st i d in
    record { address = e.address; stamp = e.stamp; serial = serial_at p v g; drive = d; offset = o; place = place_of p d (zone_on g d) (1 + o) }

-- 01, The calls: all of the stripe's records
unfoldable pub landed_cands : Params → View → Seg → State → ℕ → List Cand
landed_cands p v g st i = map (landed_cand p v g st i) (below (filled_in_of st i))

-- 01, The calls: landing uses the rule too; the table's record and all of the stripe's compete at once
unfoldable pub pointed : Params → View → List ℕ → List Cand → List Cand → List ℕ → List ℕ
pointed p v tb cs [] t = t
pointed p v tb cs (c ∷ ds) t =
    let a = c.address in
    let t' = set_place t a (place_or (best (held p v tb a) (cands_of a cs))) in
    pointed p v tb cs ds (cond (ltb a p.L) t' t)

-- ---- the call

-- 01, Refusals: the checks of a landing
unfoldable pub land_checks : Params → Bool → View → Memory → ℕ → ℕ → List Check
land_checks p long v m d s =
    let st = m.state in
    let zs = land_faults p v m d s in
    rule 1 (not (in_range p)) ∷ rule 2 (not long) ∷ list_rules p v
    ++ (rule 3 (not (eqb st.missing 0)) ∷ rule 5 (not (waiting p st d s)) ∷ zones (state_faults p st ++ zs) ∷ [])

-- 01, Landing: footers on every drive, once the chunk has landed
unfoldable pub seal_stores : Params → View → Seg → List Store
seal_stores p v g = flat (λ d. footer_stores p d (zone_on g d) (zone_at v d (zone_on g d)) 0 (footers p)) (drives_of p)

-- 01, Landing: its writes are acknowledged, and the answer gives their number (copies and padding not counted)
unfoldable pub writes_in : State → ℕ → ℕ
writes_in st i = tally (is_write st i) (below (filled_in_of st i))

-- 01, Landing: the chunk's store
unfoldable pub land_store : Params → View → Memory → ℕ → ℕ → Store
land_store p v m d s =
    let st = m.state in
    let i = slot_of st s in
    put d (zone_on (open_segment p v st) d) (slot_block p m.inflight i d) (record_bytes (flight_rec p st i d))

-- 01, Landing: the chunk, on completion the table, at the end of a segment the footers
unfoldable pub land_plan : Params → View → Memory → ℕ → ℕ → Plan
land_plan p v m d s =
    let st = m.state in
    let i = slot_of st s in
    let g = open_segment p v st in
    let z = zone_on g d in
    let o = pointer_at v d z - 1 in
    let w = land_store p v m d s in
    let v' = store_view_of w v in
    let st₁ = mark_landed st i d o in
    let cs = landed_cands p v' g st₁ i in
    let tb' = pointed p v' m.addresses cs cs m.addresses in
    let done = completes p st i d in
    let st₂ = free_stripe st₁ i in
    let st₃ = cond done st₂ st₁ in
    let ss = seal_stores p v' g in
    mk_plan (w ∷ cond (seals p st i d) ss []) (Landed (cond done (writes_in st i) 0))
    (mk_memory (cond (seals p st i d) (set_closed st₃) st₃) (cond done tb' m.addresses) (set m.compact (compact_at p d z o) (compact_entry p s)) m.inflight) []

-- 01, Landing: the call
unfoldable pub land_verdict : Params → Bool → View → Memory → ℕ → ℕ → Verdict
land_verdict p long v m d s =
    let q = land_plan p v m d s in
    decided (first_refusal (land_checks p long v m d s)) q
