-- Two views that differ in offline zones alone: a write, a closing, a reclaim and a read decide the same (02, item 4). Assumes nothing.
use Rattle.std.specs.Prelude.{◌≡◌, refl, ◌&&◌, ◌||◌, leb, ltb, length}
use Rattle.std.proofs.Math.Path.{sym, ap, ap₂, subst}
use Rattle.std.proofs.Common.{◌∙◌, inl, inr, eq-eqb}
use mathlib.Core.List.{List, [], ◌∷◌, ◌++◌, map}
use Rattle.std.proofs.Math.Bool.{Bool, true, false, cond, not}
use Prim.Native.Nat.{ℕ, suc, ◌-◌, ◌<◌}
use Rattle.std.proofs.lemmas.Bool.{not-false}
use Rattle.std.proofs.Math.Dec.{eqb}
use Rattle.spec.specs.declared.Answer.{Answer}
use Rattle.spec.specs.declared.Answer.TheVariants.{Sent, Copied, Filled, BadZone}
use Rattle.spec.specs.declared.Params.{Params}
use Rattle.spec.specs.declared.Seg.{Seg}
use Rattle.spec.specs.declared.State.{State}
use Rattle.spec.specs.Calls.{ninth, ruled, first_refusal, Plan, mk_plan, decided, zones}
use Rattle.spec.specs.Closing.{reclaim_first, close_checks, close_plan, close_verdict, empty_checks, empty_plan, empty_verdict}
use Rattle.spec.specs.Counts.{a_stamp}
use Rattle.spec.specs.Drives.{Chunk, View, chunk_at, few_good, above_narrow, is_good, zone_on, sealed_in, header_stores, record_at}
use Rattle.spec.specs.Layout.{Rec}
use Rattle.spec.specs.Lists.{Opt, below, cons_if, is_member_of, is_nil, keep, first_or}
use Rattle.spec.specs.Lists.Opt.{none, some}
use Rattle.spec.specs.Memory.{Memory, mk_memory, holds, has_filling, state_ok, state_faults, stripe_in, set_stamp}
use Rattle.spec.specs.Params.{between, in_range, capacity, place_of, place_block, place_zone, place_drive, drives_of}
use Rattle.spec.specs.Parity.{Piece}
use Rattle.spec.specs.Read.{Found, lies, found_faults, decode_faults, Lookup, lookup, read_answer_of, read_checks, read_plan, read_verdict, fill_plan, fill_verdict}
use Rattle.spec.specs.Reclaim.{places_in, table_faults, segment_places, live_in, flying, Victim, victim_of, fewer, fewest, victim, is_none, victim_segment, victim_live, idle}
use Rattle.spec.specs.Reclaim.{must_copy, reclaim_checks_in, reclaim_checks, reset_plan, copy_plan, reclaim_verdict_in, reclaim_verdict}
use Rattle.spec.specs.Segments.{remaining, holders, is_place, place_segment, place_record}
use Rattle.spec.specs.Write.CheckOrder.{full_first, wait_first}
use Rattle.spec.specs.Write.{opens, no_stamp, no_serial, must_wait, scarce, placed, Sending, opened_by, slot_for}
use Rattle.spec.specs.Write.{begun_by, sending, CheckOrder, room_rules, write_order, write_checks_in, write_plan, write_verdict_in, write_verdict}
use Rattle.law_basic.specs.Geometry.{Ranged, ranged, place_zone_lem, place_drive_lem}
use Rattle.law_basic.specs.Mask.{is_in_empty}
use Rattle.law_basic.specs.Ranges.{Test, test, or-false, and_left, any_same}
use Rattle.law_basic.specs.Ranges.Test.{yes!, no! }
use Rattle.law_calls.specs.Refusals.{least_zero, state_fault}
use Rattle.law_checks.specs.Passed.{nil_both, write_passed, ReclaimPassed, reclaim_passed, ReadPassed, read_passed}
use Rattle.law_drives.specs.Members.{In, map_in, flat_in, keep_in, in_keep, below_in, keep_cong, first_in, in_some}
use Rattle.law_drives.specs.Segs.{Here}
use Rattle.law_drives.specs.Settled.{zero_here}
use Rattle.law_drives.specs.Tests.{cond_true, cond_false}
use Rattle.law_drives.specs.Holders.{held_remains}
use Rattle.proof_answers.specs.UnseenPlaces.{state_here, is_place_same, place_segment_same, found_faults_same, decode_faults_same, lies_piece_same, lookup_same}
use Rattle.proof_answers.specs.UnseenZones.{UnseenZonesAlike, same_new, same_scarce, chunk_same, remains, its_low, its_good, its_sealed_same, its_record_same}
use Rattle.spec.specs.Write.{write_checks}

-- ---- what is decided

-- the checks give the same, and where they give nothing what is due is the same
pub decided_same : (x y : Opt Answer) (a b : Plan) → x ≡ y → (x ≡ none → a ≡ b) → decided x a ≡ decided y b
unfolding decided
decided_same none y a b e f = ap₂ decided e (f refl)
decided_same (some r) y a b e f = ap (λ (o : Opt Answer). decided o b) e

pub unseen_calls_past : (n : ℕ) (b : Bool) (x y : Opt Answer) → (b ≡ false → x ≡ y) → ruled n b x ≡ ruled n b y
unfolding ruled
unseen_calls_past n true x y f = refl
unseen_calls_past n false x y f = f refl

pub past_zones : (zs : List ℕ) (x y : Opt Answer) → (zs ≡ [] → x ≡ y) → ninth zs x ≡ ninth zs y
unfolding ninth
past_zones [] x y f = f refl
past_zones (z ∷ zs) x y f = refl

-- a list of bad zones with 0 first
pub unseen_calls_zero_first : (zs ys : List ℕ) (x y : Opt Answer) → ninth (0 ∷ zs) x ≡ ninth (0 ∷ ys) y
unfolding ninth
unseen_calls_zero_first zs ys x y = ap (λ (n : ℕ). some (BadZone n)) (least_zero zs ∙ sym (least_zero ys))

-- a state out of range names zone 0, whatever else is bad
pub state_first : (p : Params) (st : State) (zs ys : List ℕ) (x y : Opt Answer)
    → (state_ok p st ≡ true → ninth (state_faults p st ++ zs) x ≡ ninth (state_faults p st ++ ys) y) → ninth (state_faults p st ++ zs) x ≡ ninth (state_faults p st ++ ys) y
state_first p st zs ys x y f = go (test (state_ok p st))
  where
    go : Test (state_ok p st) → ninth (state_faults p st ++ zs) x ≡ ninth (state_faults p st ++ ys) y
    go (yes! e) = f e
    go (no! e) =
        let s = state_fault p st e in
        ap (λ (l : List ℕ). ninth (l ++ zs) x) s ∙ unseen_calls_zero_first zs ys x y ∙ sym (ap (λ (l : List ℕ). ninth (l ++ ys) y) s)

-- 1, 2, 10 and the narrow 1 come first
pub front : (p : Params) (v u : View) → v.offline ≡ u.offline → (a b : Bool) (x y : Opt Answer) → (a ≡ false → b ≡ false → x ≡ y)
    → ruled 1 a (ruled 2 b (ruled 10 (few_good p v.offline) (ruled 1 (above_narrow p v.offline) x)))
    ≡ ruled 1 a (ruled 2 b (ruled 10 (few_good p u.offline) (ruled 1 (above_narrow p u.offline) y)))
front p v u e a b x y f =
    unseen_calls_past 1 a (ruled 2 b (rest v.offline x)) (ruled 2 b (rest v.offline y))
    (λ c1. unseen_calls_past 2 b (rest v.offline x) (rest v.offline y) (λ c2. ap (rest v.offline) (f c1 c2)))
    ∙ ap (λ (l : List ℕ). ruled 1 a (ruled 2 b (rest l y))) e
  where
    rest : List ℕ → Opt Answer → Opt Answer
    rest l x = ruled 10 (few_good p l) (ruled 1 (above_narrow p l) x)

-- ---- sending a block

module _ (p : Params) (v u : View) (al : UnseenZonesAlike p v u) where
  pub sending_same : (st : State) (fl : List ℕ) (a t w : ℕ) (b : List ℕ) → sending p v st fl a t w b ≡ sending p u st fl a t w b
  unfolding sending
  sending_same st fl a t w b = ap (λ (g : Seg).
      let i = slot_for p st in
      let st2 = begun_by p st (opened_by p st) in
      let q = placed p st2 fl i a t w b in
      let x : Sending = record {
        stores = cond (opens p st) (header_stores p g (suc st.serial.0) 0) [];
        state = q.state;
        inflight = q.inflight;
        stripe = stripe_in st2 i;
        drive = q.drive;
      } in
      x) (same_new p v u al)

  write_plan_same : (m : Memory) (a : ℕ) (b : List ℕ) → write_plan p v m a b ≡ write_plan p u m a b
  unfolding write_plan
  write_plan_same m a b =
      let t = suc m.state.stamp.0 in
      ap (λ (q : Sending). mk_plan q.stores (Sent (a_stamp t) q.stripe q.drive) (mk_memory (set_stamp q.state t) m.addresses m.compact q.inflight) b)
      (sending_same m.state m.inflight a t 1 b)

-- ---- the segment that reclaim takes

-- holds of the one taken, where there is one
abbrev OfTaken : (Victim → Type 0) → Opt Victim → Type 0
OfTaken P none = Unit {0}
OfTaken P (some w) = P w

fewest_of : (P : Victim → Type 0) (a : Opt Victim) (bs : List Victim) → OfTaken P a → ((b : Victim) → In b bs → P b) → OfTaken P (fewest a bs)
unfolding fewest
fewest_of P a [] h f = h
fewest_of P a (b ∷ bs) h f = fewest_of P (fewer a b) bs (next a h (f b (inl refl))) (λ c m. f c (inr m))
  where
    next : (a : Opt Victim) → OfTaken P a → P b → OfTaken P (fewer a b)
    next none h q = unfold fewer in q
    next (some c) h q = unfold fewer in pick (ltb (length b.live) (length c.live))
      where
        pick : (t : Bool) → P (cond t b c)
        pick true = q
        pick false = h

module _ (p : Params) (r : Ranged p) (v u : View) (al : UnseenZonesAlike p v u) where
  low0 : Here p 0
  low0 = zero_here p r

  pub table_faults_same : (tb : List ℕ) → table_faults p v tb ≡ table_faults p u tb
  unfolding table_faults
  table_faults_same tb = ap (λ (b : Bool). cons_if b 0 [])
      (any_same (λ q. not (is_place p v 0 q)) (λ q. not (is_place p u 0 q)) (places_in p tb) (λ q. ap not (is_place_same p r v u al 0 low0 q)))

  pub victim_same : (tb : List ℕ) → victim p v tb ≡ victim p u tb
  unfolding victim
  victim_same tb = ap (λ (l : List Seg). fewest none (map (victim_of p (places_in p tb)) l))
      (keep_cong (sealed_in p v 0) (sealed_in p u 0) (remaining p v 0) (λ g m. its_sealed_same p v u al 0 low0 g m) ∙ ap (keep (sealed_in p u 0)) (remains p v u al 0 low0))

  -- a place of a segment that remains
  pub record Held (q : ℕ) : Type 0 where
    pub held_drive : place_drive p q < p.N
    pub held_low : place_zone p q < p.Z
    pub held_good : is_good p v.offline (place_drive p q) (place_zone p q) ≡ true
    pub held_some : is_nil (holders p v 0 (place_drive p q) (place_zone p q)) ≡ false

  places_held : (g : Seg) → In g (remaining p v 0) → (q : ℕ) → In q (segment_places p g) → Held q
  unfolding segment_places drives_of holders
  places_held g m q i =
      let (d, id, j) = flat_in (λ d. map (place_of p d (zone_on g d)) (below (capacity p))) (below p.N) q i in
      let (b, ib, e) = map_in (place_of p d (zone_on g d)) (below (capacity p)) q j in
      let hd = below_in p.N d id in
      let hb = below_in (capacity p) b ib in
      let hz = its_low p v u al 0 low0 g m d hd (is_in_empty d) in
      let ed : place_drive p q ≡ d = ap (place_drive p) e ∙ place_drive_lem p d (zone_on g d) b hz hb in
      let ez : place_zone p q ≡ zone_on g d = ap (place_zone p) e ∙ place_zone_lem p d (zone_on g d) b hz hb in
      record {
        held_drive = subst (λ (n : ℕ). n < p.N) (sym ed) hd;
        held_low = subst (λ (n : ℕ). n < p.Z) (sym ez) hz;
        held_good = ap₂ (is_good p v.offline) ed ez ∙ its_good p v u al 0 low0 g m d hd (is_in_empty d);
        held_some = in_some (keep (λ g. eqb (zone_on g (place_drive p q)) (place_zone p q)) (remaining p v 0)) g
            (in_keep (λ g. eqb (zone_on g (place_drive p q)) (place_zone p q)) (remaining p v 0) g m
            (eq-eqb (zone_on g (place_drive p q)) (place_zone p q) (ap (zone_on g) ed ∙ sym ez)));
      }

  abbrev AllHeld : Victim → Type 0
  AllHeld w = (q : ℕ) → In q w.live → Held q

  victim-held : (tb : List ℕ) → OfTaken AllHeld (victim p v tb)
  unfolding victim
  victim-held tb = fewest_of AllHeld none (map (victim_of p (places_in p tb)) (keep (sealed_in p v 0) (remaining p v 0))) tt one
    where
      one : (b : Victim) → In b (map (victim_of p (places_in p tb)) (keep (sealed_in p v 0) (remaining p v 0))) → AllHeld b
      one b i q j =
          let (g, ig, e) = map_in (victim_of p (places_in p tb)) (keep (sealed_in p v 0) (remaining p v 0)) b i in
          let k : In q (live_in p (places_in p tb) g) = unfold victim_of in subst (λ (w : Victim). In q w.live) e j in
          places_held g (keep_in (sealed_in p v 0) (remaining p v 0) g ig).0 q (within g q k)
        where
          within : (g : Seg) (q : ℕ) → In q (live_in p (places_in p tb) g) → In q (segment_places p g)
          within g q k = unfold live_in in (keep_in (λ q. is_member_of q (places_in p tb)) (segment_places p g) q k).0

  live_held : (tb : List ℕ) (q : ℕ) → In q (victim_live (victim p v tb)) → Held q
  live_held tb q i = go (victim p v tb) (victim-held tb) i
    where
      go : (w : Opt Victim) → OfTaken AllHeld w → In q (victim_live w) → Held q
      go none h i = absurd (unfold victim_live in i)
      go (some w) h i = h q (unfold victim_live in i)

  -- its record
  record_held : (q : ℕ) → Held q → place_record p v 0 q ≡ place_record p u 0 q
  record_held q h =
      its_record_same p v u al 0 low0 (place_segment p v 0 q) (held_remains p v 0 q h.held_some) (place_drive p q) (place_block p q - 1) h.held_drive (is_in_empty (place_drive p q))
      ∙ ap (λ (g : Seg). record_at p u 0 (place_drive p q) g (place_block p q - 1)) (place_segment_same p r v u al 0 low0 q)

  idle_same : (st : State) (tb : List ℕ) → idle p v st (victim p v tb) ≡ idle p u st (victim p u tb)
  unfolding idle flying
  idle_same st tb =
      keep_cong (λ q. not (flying p v st q)) (λ q. not (flying p u st q)) (victim_live (victim p v tb))
      (λ q i. ap (λ (x : Rec). not (between 1 p.S (place_block p q) && holds st x.address x.stamp)) (record_held q (live_held tb q i)))
      ∙ ap (λ (w : Opt Victim). keep (λ q. not (flying p u st q)) (victim_live w)) (victim_same tb)

  copy_plan_same : (m : Memory) (q : ℕ) → Held q → copy_plan p v m q ≡ copy_plan p u m q
  unfolding copy_plan
  copy_plan_same m q h =
      ap₂ (λ (x : Rec) (c : Chunk).
      let w = sending p v m.state m.inflight x.address x.stamp 0 c.block in
      mk_plan w.stores (Copied (a_stamp x.stamp) w.stripe w.drive) (mk_memory w.state m.addresses m.compact w.inflight) [])
      (record_held q h) (chunk_same p v u al (place_drive p q) (place_zone p q) (place_block p q) h.held_drive h.held_low h.held_good)
      ∙ ap (λ (w : Sending). mk_plan w.stores (Copied (a_stamp (place_record p u 0 q).stamp) w.stripe w.drive) (mk_memory w.state m.addresses m.compact w.inflight) [])
      (sending_same p v u al m.state m.inflight (place_record p u 0 q).address (place_record p u 0 q).stamp 0 (chunk_at u (place_drive p q) (place_zone p q) (place_block p q)).block)

  first_same : (m : Memory) → reclaim_first p v m ≡ reclaim_first p u m
  first_same m = ap₂ (λ (b : Bool) (l : List ℕ). b && not (is_nil l)) (same_scarce p v u al 1) (idle_same m.state m.addresses)

idle_in : (p : Params) (v : View) (st : State) (w : Opt Victim) (q : ℕ) → In q (idle p v st w) → In q (victim_live w)
unfolding idle
idle_in p v st w q i = (keep_in (λ q. not (flying p v st q)) (victim_live w) q i).0

-- ---- the calls

module _ (p : Params) (long : Bool) (v u : View) (list : v.offline ≡ u.offline) (alike : long ≡ true → UnseenZonesAlike p v u) (m : Memory) where
  abbrev st : State
  st = m.state

  in_order : not (in_range p) ≡ false → Ranged p
  in_order c1 = ranged p (not-false (in_range p) c1)

  whole : not long ≡ false → UnseenZonesAlike p v u
  whole c2 = alike (not-false long c2)

  -- 01, Write; 02, item 3: in either order of 7 and 8
  write_checks_same : (o : CheckOrder) (a : ℕ) (b : List ℕ) → first_refusal (write_checks_in o p long v m a b) ≡ first_refusal (write_checks_in o p long u m a b)
  unfolding write_checks_in first_refusal
  write_checks_same o a b = go o
    where
      full : View → Bool
      full w = scarce p w (cond (opens p st) 2 1)

      behind : CheckOrder → Bool → Opt Answer
      behind o f =
          ruled 3 (not (eqb st.missing 0)) (ruled 4 (leb p.L a) (ruled 6 (no_stamp st || no_serial p st) (first_refusal (room_rules o (must_wait p st) f ++ (zones (state_faults p st) ∷ [])))))

      same! : (o : CheckOrder) → (not (in_range p)) ≡ false → (not long || not (eqb (length b) p.B)) ≡ false → behind o (full v) ≡ behind o (full u)
      same! o c1 c2 = ap (behind o) (same_scarce p v u (whole (or-false (not long) (not (eqb (length b) p.B)) c2).0) (cond (opens p st) 2 1))

      go : (o : CheckOrder) → first_refusal (write_checks_in o p long v m a b) ≡ first_refusal (write_checks_in o p long u m a b)
      go full_first = front p v u list (not (in_range p)) (not long || not (eqb (length b) p.B)) (behind full_first (full v)) (behind full_first (full u)) (same! full_first)
      go wait_first = front p v u list (not (in_range p)) (not long || not (eqb (length b) p.B)) (behind wait_first (full v)) (behind wait_first (full u)) (same! wait_first)

  pub write_same : (a : ℕ) (b : List ℕ) → write_verdict p long v m a b ≡ write_verdict p long u m a b
  unfolding write_verdict_in
  write_same a b = decided_same (first_refusal (write_checks p long v m a b)) (first_refusal (write_checks p long u m a b)) (write_plan p v m a b) (write_plan p u m a b)
      (write_checks_same write_order a b)
      (λ e. write_plan_same p v u (alike (write_passed p long v m a b e).lent) m a b)

  -- 01, Closing
  abbrev tables : View → List ℕ
  tables w = table_faults p w m.addresses

  pub close_same : close_verdict p long v m ≡ close_verdict p long u m
  unfolding close_verdict close_checks first_refusal
  close_same = ap (λ (o : Opt Answer). decided o (close_plan p m))
      (front p v u list (not (in_range p)) (not long) (behind (reclaim_first p v m) (scarce p v 1) (tables v)) (behind (reclaim_first p u m) (scarce p u 1) (tables u))
      (λ c1 c2. let r = in_order c1 in let al = whole c2 in
      λ i. behind (first_same p r v u al m i) (same_scarce p v u al 1 i) (table_faults_same p r v u al m.addresses i)))
    where
      behind : Bool → Bool → List ℕ → Opt Answer
      behind f s ts = ruled 3 (not (eqb st.missing 0)) (ruled 5 (not (has_filling p st) || f) (ninth (state_faults p st ++ cond s ts []) none))

  -- 02, item 1
  pub empty_same : (a : ℕ) → empty_verdict p long v m a ≡ empty_verdict p long u m a
  unfolding empty_verdict empty_checks first_refusal
  empty_same a = ap (λ (o : Opt Answer). decided o (empty_plan p m))
      (front p v u list (not (in_range p)) (not long) (behind (reclaim_first p v m) (scarce p v 1) (tables v)) (behind (reclaim_first p u m) (scarce p u 1) (tables u))
      (λ c1 c2. let r = in_order c1 in let al = whole c2 in
      λ i. behind (first_same p r v u al m i) (same_scarce p v u al 1 i) (table_faults_same p r v u al m.addresses i)))
    where
      behind : Bool → Bool → List ℕ → Opt Answer
      behind f s ts = ruled 3 (not (eqb st.missing 0)) (ruled 4 (leb p.L a) (ruled 5 (has_filling p st && f) (ninth (state_faults p st ++ cond (has_filling p st && s) ts []) none)))

  -- 01, Reclaim
  abbrev taking : View → Opt Victim
  taking w = victim p w m.addresses

  abbrev idling : View → List ℕ
  idling w = idle p w st (taking w)

  abbrev plan : View → Plan
  plan w = cond (is_nil (victim_live (taking w))) (reset_plan p m (victim_segment (taking w))) (copy_plan p w m (first_or 0 (idling w)))

  reclaim_checks_same : first_refusal (reclaim_checks p long v m (taking v)) ≡ first_refusal (reclaim_checks p long u m (taking u))
  unfolding reclaim_checks_in first_refusal
  reclaim_checks_same =
      front p v u list (not (in_range p)) (not long) (behind (taking v) (idling v) (scarce p v 1) (tables v)) (behind (taking u) (idling u) (scarce p u 1) (tables u))
      (λ c1 c2. let r = in_order c1 in let al = whole c2 in
      λ i. behind (victim_same p r v u al m.addresses i) (idle_same p r v u al st m.addresses i) (same_scarce p v u al 1 i) (table_faults_same p r v u al m.addresses i))
    where
      behind : Opt Victim → List ℕ → Bool → List ℕ → Opt Answer
      behind w l s ts = ruled 3 (not (eqb st.missing 0)) (ruled 5 (is_none w || (must_copy w && is_nil l)) (ruled 6 (must_copy w && no_serial p st)
          (ruled 8 (must_copy w && opens p st && s) (ruled 7 (must_copy w && must_wait p st)
          (ninth (state_faults p st ++ ts ++ map (place_zone p) (keep (λ q. not (between 1 p.S (place_block p q))) (victim_live w))) none)))))

  reclaim_plan_same : first_refusal (reclaim_checks p long v m (taking v)) ≡ none → plan v ≡ plan u
  reclaim_plan_same e = go (test (is_nil (victim_live (taking v))))
    where
      c : ReclaimPassed p long v m (taking v)
      c = reclaim_passed p long v m (taking v) e

      r : Ranged p
      r = ranged p c.in_range_holds

      al : UnseenZonesAlike p v u
      al = alike c.lent

      ew : taking v ≡ taking u
      ew = victim_same p r v u al m.addresses

      copied : is_nil (victim_live (taking v)) ≡ false → copy_plan p v m (first_or 0 (idling v)) ≡ copy_plan p u m (first_or 0 (idling u))
      copied n =
          let q = first_or 0 (idling v) in
          let i : In q (idling v) = first_in (idling v) 0 (c.some_idle n) in
          copy_plan_same p r v u al m q (live_held p r v u al m.addresses q (idle_in p v st (taking v) q i))
          ∙ ap (λ (l : List ℕ). copy_plan p u m (first_or 0 l)) (idle_same p r v u al st m.addresses)

      go : Test (is_nil (victim_live (taking v))) → plan v ≡ plan u
      go (yes! n) = cond_true (is_nil (victim_live (taking v))) (reset_plan p m (victim_segment (taking v))) (copy_plan p v m (first_or 0 (idling v))) n
          ∙ ap (λ (w : Opt Victim). reset_plan p m (victim_segment w)) ew
          ∙ sym (cond_true (is_nil (victim_live (taking u))) (reset_plan p m (victim_segment (taking u))) (copy_plan p u m (first_or 0 (idling u)))
          (sym (ap (λ (w : Opt Victim). is_nil (victim_live w)) ew) ∙ n))
      go (no! n) = cond_false (is_nil (victim_live (taking v))) (reset_plan p m (victim_segment (taking v))) (copy_plan p v m (first_or 0 (idling v))) n
          ∙ copied n
          ∙ sym (cond_false (is_nil (victim_live (taking u))) (reset_plan p m (victim_segment (taking u))) (copy_plan p u m (first_or 0 (idling u)))
          (sym (ap (λ (w : Opt Victim). is_nil (victim_live w)) ew) ∙ n))

  pub reclaim_same : reclaim_verdict p long v m ≡ reclaim_verdict p long u m
  unfolding reclaim_verdict_in
  reclaim_same = decided_same (first_refusal (reclaim_checks p long v m (taking v))) (first_refusal (reclaim_checks p long u m (taking u))) (plan v) (plan u) reclaim_checks_same reclaim_plan_same

  -- 01, Read: both, whichever lengths are looked at
  module _ (a : ℕ) where
    abbrev found : Found
    found = lies p st.missing m.addresses a

    read_checks_same : (also : Bool) → (also ≡ true → long ≡ true) → first_refusal (read_checks p also v m a) ≡ first_refusal (read_checks p also u m a)
    unfolding read_checks first_refusal
    read_checks_same also h =
        front p v u list (not (in_range p)) (not also) (behind v) (behind u)
        (λ c1 c2. ap (ruled 4 (leb p.L a)) (places (in_order c1) (alike (h (not-false also c2)))))
      where
        decode : View → Opt Answer
        decode w = ninth (decode_faults p w st.missing m.compact found) none

        placing : View → Opt Answer
        placing w = ninth (state_faults p st ++ found_faults p w st.missing found) (decode w)

        behind : View → Opt Answer
        behind w = ruled 4 (leb p.L a) (placing w)

        places : Ranged p → UnseenZonesAlike p v u → placing v ≡ placing u
        places r al = state_first p st (found_faults p v st.missing found) (found_faults p u st.missing found) (decode v) (decode u) (λ ok.
            let low = state_here p r st ok in
            past_zones (state_faults p st ++ found_faults p v st.missing found) (decode v) (decode u)
            (λ e. ap (λ (zs : List ℕ). ninth zs none)
            (decode_faults_same p r v u al st.missing low m.compact found (nil_both (state_faults p st) (found_faults p v st.missing found) e).1))
            ∙ ap (λ (zs : List ℕ). ninth (state_faults p st ++ zs) (decode u)) (found_faults_same p r v u al st.missing low found))

    -- what is found
    module _ (also : Bool) (h : also ≡ true → long ≡ true) (e : first_refusal (read_checks p also v m a) ≡ none) where
      passed : ReadPassed p also v m a
      passed = read_passed p also v m a e

      r : Ranged p
      r = ranged p passed.in_range_holds

      al : UnseenZonesAlike p v u
      al = alike (h passed.lent)

      low : Here p st.missing
      low = state_here p r st passed.state_fine

      looked : lookup p v st.missing m.compact m.addresses a ≡ lookup p u st.missing m.compact m.addresses a
      looked = lookup_same p r v u al st.missing low m.compact m.addresses a passed.place_fine

      read_plan_same : read_plan p v m a ≡ read_plan p u m a
      unfolding read_plan
      read_plan_same = ap (λ (l : Lookup). mk_plan [] (read_answer_of p l.stamp l.found) m []) looked

      fill_plan_same : fill_plan p v m a ≡ fill_plan p u m a
      unfolding fill_plan lookup
      fill_plan_same = ap₂ (λ (l : Lookup) (q : Piece). mk_plan [] (Filled (a_stamp l.stamp)) m q.block) looked
          (lies_piece_same p r v u al st.missing low m.compact m.addresses a passed.place_fine)

    pub read_same : read_verdict p long v m a ≡ read_verdict p long u m a
    unfolding read_verdict
    read_same = decided_same (first_refusal (read_checks p long v m a)) (first_refusal (read_checks p long u m a)) (read_plan p v m a) (read_plan p u m a)
        (read_checks_same long (λ x. x)) (λ e. read_plan_same long (λ x. x) e)

    pub fill_same : (b : List ℕ) → fill_verdict p long v m a b ≡ fill_verdict p long u m a b
    unfolding fill_verdict
    fill_same b =
        let also = long && eqb (length b) p.B in
        let h : also ≡ true → long ≡ true = and_left long (eqb (length b) p.B) in
        decided_same (first_refusal (read_checks p also v m a)) (first_refusal (read_checks p also u m a)) (fill_plan p v m a) (fill_plan p u m a)
        (read_checks_same also h) (λ e. fill_plan_same also h e)
