-- The NVMe zone rules: the stores that a call's verdict makes due have room, whatever the bytes; a cut call makes the first of them. Assumes nothing.
use Rattle.std.specs.Prelude.{◌≡◌, List, [], ◌∷◌, Bool, true, cond, ◌&&◌, ◌⊎◌, ℕ, suc, ◌≤◌, ◌<◌, eqb, length, take}
use Rattle.std.proofs.Math.Path.{refl, subst}
use Rattle.std.proofs.Common.{sym, ap, ◌∙◌, inl, inr, ne_eqb, arith}
use Rattle.std.proofs.Math.Bool.{false}
use Rattle.std.proofs.Math.Decide.{dec_le, ℕ_discrete}
use Rattle.spec.specs.Lists.Opt.{none}
use Rattle.spec.specs.declared.Params.{Params}
use Rattle.spec.specs.declared.Answer.TheVariants.{Rebuilt}
use Rattle.spec.specs.Calls.{Check, first_refusal, Plan, mk_plan, Verdict, decided}
use Rattle.spec.specs.Calls.Verdict.{refused, due}
use Rattle.spec.specs.Drives.{View, zone_at, chunk_at, Store, Disk, store_disk, store_all, view_of}
use Rattle.spec.specs.Engine.{Call, store_count, verdict, lent_ok_of, Lent, Left, lent_disk, lent_memory, lent_all, call_bytes}
use Rattle.spec.specs.Engine.Call.{write, land, close, reclaim, read, fill, restart, rebuild}
use Rattle.spec.specs.Landing.{land_checks, land_plan, land_verdict}
use Rattle.spec.specs.Lists.{Opt, is_nil, first_or}
use Rattle.spec.specs.Memory.{Memory, state_len}
use Rattle.spec.specs.Params.{in_range, place_block, place_zone, place_drive, named}
use Rattle.spec.specs.Rebuild.{rebuild_checks, rebuild_stores, rebuild_verdict}
use Rattle.spec.specs.Reclaim.{Victim, victim, is_none, victim_segment, victim_live, idle, reclaim_checks, reset_plan, copy_plan, reclaim_verdict, reclaim_verdict_in}
use Rattle.spec.specs.Restart.{restart_stores, rewrites, restart_checks, restart_plan, restart_verdict, none_free_of}
use Rattle.spec.specs.Segments.{segments, place_record}
use Rattle.spec.specs.Write.{opens, scarce, write_checks, write_plan, write_verdict, write_verdict_in}
use Rattle.law_basic.specs.Geometry.{Ranged, ranged}
use Rattle.law_basic.specs.Ranges.{Test, test, and_left}
use Rattle.law_basic.specs.Ranges.Test.{yes!, no! }
use Rattle.spec_demands.specs.Answering.{can_store, with_count, cut_left}
use Rattle.spec_demands.specs.Rules.{ObeyAll, ZoneRules}
use Rattle.law_drives.specs.Accept.{Accepted}
use Rattle.law_checks.specs.Checks.{Decided, decide}
use Rattle.law_checks.specs.Passed.{write_passed, land_passed, reclaim_passed, restart_passed, rebuild_passed}
use Rattle.law_checks.specs.Checks.Decided.{stops, goes}
use Rattle.law_drives.specs.Image.{sized_of}
use Rattle.law_drives.specs.Lengths.{lengths_of, whole_of}
use Rattle.law_drives.specs.Range.{capacity_word}
use Rattle.law_drives.specs.Tests.{clash}
use Rattle.law_drives.specs.Zones.{Sized}
use Rattle.proof_tables.specs.Reclaiming.{victim_taken}
use Rattle.law_views.specs.Views.{Whole, seen}
use Rattle.proof_answers.specs.Answered.{due_of, long, decided_by, decided_due}
use Rattle.proof_answers.specs.Lengths.{Fair, fair_of}
use Rattle.proof_answers.specs.Rebuilt.{rebuild_able}
use Rattle.proof_answers.specs.Restarted.{restart_able}
use Rattle.proof_answers.specs.Rising.{Able, able_none, able_fits, obey_all, obey_take, Proper}
use Rattle.proof_answers.specs.Sent.{resets_able, sending_able, land_able, there_on}
use Rattle.proof_tables.specs.Sending.{plenty}
use Rattle.proof_answers.specs.Verdicts.{VerdictSays, verdict_says, own_count}
use Rattle.proof_answers.specs.Verdicts.VerdictSays.{says_no, says_yes}

-- 01, Restart: a restart that misses a drive stores nothing
restarting : (p : Params) (r : Ranged p) (v : View) → ((d z : ℕ) → d < p.N → z < p.Z → Fair p (zone_at v d z)) → (gone : ℕ) → Accepted p v gone
    → rewrites p gone (segments p v gone) && none_free_of p v (segments p v gone) ≡ false → Able p v (restart_stores p v gone (segments p v gone))
restarting p r v fair gone acc c8 = go (ℕ_discrete gone 0) acc c8
  where
    none : eqb gone 0 ≡ false → Able p v (restart_stores p v gone (segments p v gone))
    none q = unfold restart_stores in rw q (able_none p v)

    go : Dec (gone ≡ 0) → Accepted p v gone → rewrites p gone (segments p v gone) && none_free_of p v (segments p v gone) ≡ false
        → Able p v (restart_stores p v gone (segments p v gone))
    go (yes e) = subst (λ (g : ℕ). Accepted p v g → rewrites p g (segments p v g) && none_free_of p v (segments p v g) ≡ false → Able p v (restart_stores p v g (segments p v g)))
        (sym e) (restart_able p r v fair)
    go (no n) = λ a c. none (ne_eqb gone 0 n)

module _ (p : Params) (l : Lent) (c : Call) where
  abbrev k : Disk
  k = lent_disk l

  abbrev m : Memory
  m = lent_memory l

  abbrev lo : Bool
  lo = long p l c

  abbrev off : List ℕ
  off = l.offline

  abbrev v : View
  v = seen p off k

  -- what the first two checks give
  pub record RuledReady : Type 0 where
    pub in_range_holds : Ranged p
    pub lent_ok : lent_ok_of p off k m ≡ true
    pub whole : Whole p k
    pub fair : (d z : ℕ) → d < p.N → z < p.Z → Fair p (zone_at v d z)
    pub sized : Sized p v

  ready : in_range p ≡ true → lo ≡ true → RuledReady
  ready a b =
      let e = and_left (lent_ok_of p off k m) (eqb (length l.state) state_len) b in
      let w = whole_of p off k m e in
      record { in_range_holds = ranged p a; lent_ok = e; whole = w; fair = fair_of p off k w; sized = sized_of p off k w }

  obeyed : RuledReady → (ss : List Store) → Able p v ss → ObeyAll p off k ss
  obeyed h ss a = obey_all p off k ss (capacity_word p h.in_range_holds) h.whole (able_fits p v ss h.sized a) (λ s m. at_off s (a.proper s m))
    where
      at_off : (s : Store) → Proper p v.offline s → Proper p off s
      at_off s q = unfold view_of in q

  -- the stores of what is decided
  obeys_of : (cs : List Check) (q : Plan) → (first_refusal cs ≡ none → ObeyAll p off k q.stores) → ObeyAll p off k (due_of (decided (first_refusal cs) q))
  obeys_of cs q f = go (decide cs q)
    where
      go : Decided cs q (decided (first_refusal cs) q) → ObeyAll p off k (due_of (decided (first_refusal cs) q))
      go (stops a e w) = subst (λ (x : Verdict). ObeyAll p off k (due_of x)) (sym w) (unfold due_of in tt)
      go (goes i w) = subst (λ (x : Verdict). ObeyAll p off k (due_of x)) (sym w) (unfold due_of in f i)

  -- ---- call by call

  write_obeys : (a : ℕ) (b : List ℕ) → ObeyAll p off k (due_of (write_verdict p lo v m a b))
  unfolding write_verdict_in
  write_obeys a b = obeys_of (write_checks p lo v m a b) (write_plan p v m a b) go
    where
      go : first_refusal (write_checks p lo v m a b) ≡ none → ObeyAll p off k (write_plan p v m a b).stores
      go i = unfold write_plan in
          (let c = write_passed p lo v m a b i in
          let h = ready c.in_range_holds c.lent in
          let st = m.state in
          obeyed h (write_plan p v m a b).stores
          (sending_able p h.in_range_holds v st m.inflight a (suc st.stamp.0) 1 b (λ q. plenty p v (cond (opens p st) 2 1) c.room)))

  land_obeys : (d s : ℕ) → ObeyAll p off k (due_of (land_verdict p lo v m d s))
  unfolding land_verdict
  land_obeys d s = obeys_of (land_checks p lo v m d s) (land_plan p v m d s) go
    where
      go : first_refusal (land_checks p lo v m d s) ≡ none → ObeyAll p off k (land_plan p v m d s).stores
      go i =
          let c = land_passed p lo v m d s i in
          let h = ready c.in_range_holds c.lent in
          obeyed h (land_plan p v m d s).stores
          (land_able p h.in_range_holds v h.sized h.fair m (lengths_of p off k m h.lent_ok).inflight_ok d s c.waits c.chunk_fine)

  abbrev taking : Opt Victim
  taking = victim p v m.addresses

  abbrev resetting : Plan
  resetting = reset_plan p m (victim_segment taking)

  abbrev copying : Plan
  copying = copy_plan p v m (first_or 0 (idle p v m.state taking))

  reclaim_obeys : ObeyAll p off k (due_of (reclaim_verdict p lo v m))
  unfolding reclaim_verdict_in
  reclaim_obeys = obeys_of (reclaim_checks p lo v m taking) (cond (is_nil (victim_live taking)) resetting copying) go
    where
      reset_able : RuledReady → is_none taking ≡ false → Able p v resetting.stores
      reset_able h q = unfold reset_plan in resets_able p h.in_range_holds v (victim_segment taking)
          (there_on p h.in_range_holds v (victim_segment taking) (victim_taken p v m.addresses q).taken_low)

      copy_able : RuledReady → (opens p m.state ≡ true → scarce p v 1 ≡ false) → Able p v copying.stores
      copy_able h c8 = unfold copy_plan in
          (let q = first_or 0 (idle p v m.state taking) in
          let n = place_record p v 0 q in
          sending_able p h.in_range_holds v m.state m.inflight n.address n.stamp 0 (chunk_at v (place_drive p q) (place_zone p q) (place_block p q)).block
          (λ e. plenty p v 1 (c8 e)))

      go : first_refusal (reclaim_checks p lo v m taking) ≡ none → ObeyAll p off k (cond (is_nil (victim_live taking)) resetting copying).stores
      go i =
          let c = reclaim_passed p lo v m taking i in
          let h = ready c.in_range_holds c.lent in
          obeyed h (cond (is_nil (victim_live taking)) resetting copying).stores (either h c.taken (test (is_nil (victim_live taking))) c.room)
        where
          either : RuledReady → is_none taking ≡ false → Test (is_nil (victim_live taking)) → (is_nil (victim_live taking) ≡ false → opens p m.state ≡ true → scarce p v 1 ≡ false)
              → Able p v (cond (is_nil (victim_live taking)) resetting copying).stores
          either h q5 (yes! e) c8 = rw e (reset_able h q5)
          either h q5 (no! e) c8 = rw e (copy_able h (c8 e))

  restart_obeys : (d : ℕ) → ObeyAll p off k (due_of (restart_verdict p lo v m d))
  unfolding restart_verdict
  restart_obeys d = obeys_of (restart_checks p lo v d (segments p v (named d))) (restart_plan p v d (segments p v (named d)) m.inflight) go
    where
      go : first_refusal (restart_checks p lo v d (segments p v (named d))) ≡ none → ObeyAll p off k (restart_plan p v d (segments p v (named d)) m.inflight).stores
      go i = unfold restart_plan in
          (let gs = segments p v (named d) in
          let c = restart_passed p lo v d gs i in
          let h = ready c.in_range_holds c.lent in
          let acc : Accepted p v (named d) = record { pointers_ok = c.pointers_fine; segments_ok = c.segments_fine } in
          obeyed h (restart_stores p v (named d) gs) (restarting p h.in_range_holds v h.fair (named d) acc c.zone_left))

  rebuild_obeys : (d : ℕ) → ObeyAll p off k (due_of (rebuild_verdict p lo v m d))
  unfolding rebuild_verdict
  rebuild_obeys d = obeys_of (rebuild_checks p lo v m d (segments p v (named d))) (mk_plan (rebuild_stores p v d (segments p v (named d))) Rebuilt m []) go
    where
      go : first_refusal (rebuild_checks p lo v m d (segments p v (named d))) ≡ none → ObeyAll p off k (rebuild_stores p v d (segments p v (named d)))
      go i =
          let c = rebuild_passed p lo v m d (segments p v (named d)) i in
          let h = ready c.in_range_holds c.lent in
          let acc : Accepted p v (named d) = record { pointers_ok = c.pointers_fine; segments_ok = c.segments_fine } in
          obeyed h (rebuild_stores p v d (segments p v (named d))) (rebuild_able p h.in_range_holds v h.fair d c.drive_low acc)

  -- 01, Store count: a call that cannot store
  still_obeys : can_store c ≡ false → ObeyAll p off k (due_of (decided_by p l c))
  still_obeys f = go (verdict_says p lo v m c)
    where
      of : (w : Verdict) → decided_by p l c ≡ w → ObeyAll p off k (due_of w) → ObeyAll p off k (due_of (decided_by p l c))
      of w e o = subst (λ (x : Verdict). ObeyAll p off k (due_of x)) (sym e) o

      none : (ss : List Store) → (can_store c ≡ true) ⊎ (ss ≡ []) → ObeyAll p off k ss
      none ss (inl t) = clash t f
      none ss (inr e) = subst (λ (x : List Store). ObeyAll p off k x) (sym e) tt

      go : VerdictSays c (decided_by p l c) → ObeyAll p off k (due_of (decided_by p l c))
      go (says_no a e h i) = of (refused a) e (unfold due_of in tt)
      go (says_yes q e i s) = of (due q) e (unfold due_of in none q.stores s)

pub due_obeys : (p : Params) (l : Lent) (c : Call) → ObeyAll p l.offline (lent_disk l) (due_of (decided_by p l c))
unfolding verdict
due_obeys p l (write a [] n) = still_obeys p l (write a [] n) (unfold can_store in refl)
due_obeys p l (write a (x ∷ b) n) = write_obeys p l (write a (x ∷ b) n) a (x ∷ b)
due_obeys p l (land d s n) = land_obeys p l (land d s n) d s
due_obeys p l (close n) = still_obeys p l (close n) (unfold can_store in refl)
due_obeys p l (reclaim n) = reclaim_obeys p l (reclaim n)
due_obeys p l (read a) = still_obeys p l (read a) (unfold can_store in refl)
due_obeys p l (fill a b) = still_obeys p l (fill a b) (unfold can_store in refl)
due_obeys p l (restart d n) = restart_obeys p l (restart d n) d
due_obeys p l (rebuild d n) = rebuild_obeys p l (rebuild d n) d

-- ---- the call with its own store count

-- what a call leaves on the drives: stores one after the other that obey the rules
abbrev Ruled : Params → Lent → Call → Type 0
Ruled p l c = (ss : List Store) × (lent_disk (call_bytes p l c).lent ≡ store_all (store_disk p) ss (lent_disk l)) × ObeyAll p l.offline (lent_disk l) ss

all-ruled : (p : Params) (l : Lent) (c : Call) (n : ℕ) → Ruled p l (with_count n c)
all-ruled p l c n = go (dec_le (length ss) n)
  where
    ss : List Store
    ss = due_of (decided_by p l c)

    go : Dec (length ss ≤ n) → Ruled p l (with_count n c)
    go (yes h) = (ss, (decided_due p l c).makes n h, due_obeys p l c)
    go (no h) = (
      take n ss,
      ap (λ (x : Left). lent_disk x.lent) ((decided_due p l c).cuts n (omega arith)) ∙ first_made,
      obey_take p l.offline (lent_disk l) n ss (due_obeys p l c),
    )
      where
        first_made : lent_disk (cut_left p l c (take n ss)).lent ≡ store_all (store_disk p) (take n ss) (lent_disk l)
        first_made = unfold cut_left lent_disk lent_all in refl

-- demand 2, the NVMe zone rules
pub zone_rules : ZoneRules
zone_rules p l c = subst (λ (x : Call). Ruled p l x) (own_count c) (all-ruled p l c (store_count c))
