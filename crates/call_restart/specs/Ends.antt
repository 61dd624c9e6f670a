-- The ends of a restart: refused, cut, done (01, Restart; Store count; 02, item 4). Assumes nothing.
use Rattle.std.specs.Prelude.{ℕ, ◌≤◌, ◌<◌, length, take, replicate, Bool, false, cond, Result, Ok, Err, IsErrAnd, ◌≡◌}
use Rattle.mem_calls.specs.Left.{answer_of}
use Rattle.spec.specs.Host.{after}
use Rattle.mem_calls.specs.declared.Refusal.{Refusal}
use Rattle.spec.specs.declared.Done.{Done}
use Rattle.spec.specs.Calls.{first_refusal, Plan, mk_plan, decided, After, mk_after, cut_memory, outcome}
use Rattle.spec.specs.Drives.{View, Store, store_view_of, Disk, store_disk, store_all}
use Rattle.spec.specs.Engine.{store_count, lent_block, verdict, lent_ok_of, call_on, call_disk}
use Rattle.spec.specs.Engine.Call.{restart}
use Rattle.spec.specs.Faults.{pointer_faults, stripe_fault, stored_bad}
use Rattle.spec.specs.Lists.{Opt, any, flat}
use Rattle.spec.specs.Lists.Opt.{none, some}
use Rattle.spec.specs.Memory.{Memory, mk_memory, zero_state}
use Rattle.spec.specs.Params.{addresses_len, compact_len, named, present}
use Rattle.spec.specs.Restart.{drop_stores, mend_stores, restart_stores, restart_memory, uncounted_in, report_of, restart_checks, restart_plan, restart_verdict}
use Rattle.spec.specs.Segments.{remaining, Segment, segment_of, segments, recs_on, unsealed}
use Rattle.spec.specs.declared.Answer.{Answer}
use Rattle.spec.specs.declared.Answer.TheVariants.{Cut, Restarted}
use Rattle.spec.specs.declared.Params.{Params}
use Rattle.spec.specs.declared.State.{State}
use Rattle.recover_groups.specs.Faulty.{recs_fault_is}
use Rattle.recover_groups.specs.Groups.{recs_fault}
use Rattle.law_basic.specs.Geometry.{Ranged}
use Rattle.law_calls.specs.Refusals.{call_refused, call_done, call_cut}
use Rattle.recover_stores.specs.Refit.{RefitReady}
use Rattle.call_restart.specs.Order.{front_checks, rest_checks, restart_front_refused, Fronted, Rested, rested}
use Rattle.call_restart.specs.declared.Halt.{Halt}
use Rattle.call_restart.specs.declared.Halt.TheVariants.{Check, Count}
use Rattle.law_restart.specs.Frames.{seen-after, whole_after}
use Rattle.law_restart.specs.Settled.{AllGood, accepted_fine, settled}
use Rattle.law_restart.specs.Stripes.{bad_data}
use Rattle.law_drives.specs.Accept.{Accepted, accepted_apart}
use Rattle.law_drives.specs.Segs.{Here}
use Rattle.law_drives.specs.Spots.{SpotsApart, none_apart}
use Rattle.law_drives.specs.Joins.{stores_none}
use Rattle.law_drives.specs.Members.{map_in, in_none}
use Rattle.law_drives.specs.Tests.{or_neither}
use Rattle.law_drives.specs.Unsealed.{loose}
use Rattle.law_drives.specs.Zones.{Shaped}
use Rattle.law_views.specs.Views.{Whole, AllFit, seen}
use Rattle.disk_zones.specs.Made.{too_few, Storing, storing_cut, storing_done, storing_all}
use Rattle.std.proofs.Common.{ne_eqb, ◌∙◌, subst}
use mathlib.Core.List.{List, [], ◌++◌, map}
use Rattle.std.proofs.Math.Path.{refl, sym, ap}
use Rattle.std.proofs.Math.Decide.{ℕ_discrete}
use Rattle.spec.specs.declared.Seg.{Seg}

-- 01, Restart: what is due, by the missing drives
unfoldable pub restart_due : Params → View → ℕ → List Segment → List ℕ → Plan
restart_due p v gone gs fl =
    mk_plan (restart_stores p v gone gs) (Restarted (report_of p gone gs)) (restart_memory p (store_all store_view_of (restart_stores p v gone gs) v) gone fl) []

-- 01, Restart: what a restart leaves once 1, 2 and the pointers of 9 are past
unfoldable pub recovered : Params → List ℕ → Disk → Memory → ℕ → ℕ → After Disk
recovered p off k m gone n =
    outcome p (store_disk p) n k m []
    (decided (first_refusal (rest_checks p (seen p off k) gone (segments p (seen p off k) gone))) (restart_due p (seen p off k) gone (segments p (seen p off k) gone) m.inflight))

module _ (p : Params) (off : List ℕ) (k : Disk) (m : Memory) (d n : ℕ) where
  abbrev segs : List Segment
  segs = segments p (seen p off k) (named d)

  abbrev checks! : Opt Answer
  checks! = first_refusal (restart_checks p (lent_ok_of p off k m) (seen p off k) d (segments p (seen p off k) (named d)))

  -- 01, Store count: a refusal changes nothing
  pub restart_refused : (a : Answer) → first_refusal (front_checks p (lent_ok_of p off k m) (seen p off k) d) ≡ some a → mk_after a k m [] ≡ call_disk p off k m (restart d n)
  unfolding call_disk call_on store_count lent_block verdict restart_verdict
  restart_refused a e = sym (call_refused p (store_disk p) n k m [] checks! (restart_plan p (seen p off k) d segs m.inflight) a
      (restart_front_refused p (lent_ok_of p off k m) (seen p off k) d segs a e))

  -- past the first checks
  pub restart_recovers : Fronted p (lent_ok_of p off k m) (seen p off k) d (segments p (seen p off k) (named d)) → recovered p off k m (named d) n ≡ call_disk p off k m (restart d n)
  unfolding call_disk call_on store_count lent_block verdict restart_verdict recovered restart_due restart_plan
  restart_recovers f = ap (λ (r : Opt Answer). outcome p (store_disk p) n k m [] (decided r (restart_plan p (seen p off k) d segs m.inflight))) (sym f.goes_on)

module _ (p : Params) (off : List ℕ) (k : Disk) (m : Memory) (gone n : ℕ) where
  abbrev gs : List Segment
  gs = segments p (seen p off k) gone

  abbrev ss : List Store
  ss = restart_stores p (seen p off k) gone (segments p (seen p off k) gone)

  pub recovered-refused : (a : Answer) → first_refusal (rest_checks p (seen p off k) gone (segments p (seen p off k) gone)) ≡ some a → mk_after a k m [] ≡ recovered p off k m gone n
  unfolding recovered
  recovered-refused a e = sym (call_refused p (store_disk p) n k m [] (first_refusal (rest_checks p (seen p off k) gone gs)) (restart_due p (seen p off k) gone gs m.inflight) a e)

  -- just so many stores
  pub recovered-cut : first_refusal (rest_checks p (seen p off k) gone (segments p (seen p off k) gone)) ≡ none → n < length (restart_stores p (seen p off k) gone (segments p (seen p off k) gone))
      → mk_after Cut (store_all (store_disk p) (take n (restart_stores p (seen p off k) gone (segments p (seen p off k) gone))) k) (cut_memory p m) [] ≡ recovered p off k m gone n
  unfolding recovered restart_due
  recovered-cut e h = sym (call_cut p (store_disk p) n k m [] (first_refusal (rest_checks p (seen p off k) gone gs)) (restart_due p (seen p off k) gone gs m.inflight) e h)

  -- all of them
  pub recovered_done : first_refusal (rest_checks p (seen p off k) gone (segments p (seen p off k) gone)) ≡ none
      → length (restart_stores p (seen p off k) gone (segments p (seen p off k) gone)) ≤ n
      → mk_after (Restarted (report_of p gone (segments p (seen p off k) gone))) (store_all (store_disk p) (take n (restart_stores p (seen p off k) gone (segments p (seen p off k) gone))) k)
      (restart_memory p (store_all store_view_of (restart_stores p (seen p off k) gone (segments p (seen p off k) gone)) (seen p off k)) gone m.inflight) [] ≡ recovered p off k m gone n
  unfolding recovered restart_due
  recovered_done e h = sym (call_done p (store_disk p) n k m [] (first_refusal (rest_checks p (seen p off k) gone gs)) (restart_due p (seen p off k) gone gs m.inflight) e h)

-- ---- what the drives are like behind the stores

-- all stores made
pub record AllStored (p : Params) (off : List ℕ) (gone n : ℕ) (k : Disk) (loose : ℕ) (k' : Disk) : Type 0 where
  pub first : first_refusal (rest_checks p (seen p off k) gone (segments p (seen p off k) gone)) ≡ none
  pub enough : length (restart_stores p (seen p off k) gone (segments p (seen p off k) gone)) ≤ n
  pub disk_is : k' ≡ store_all (store_disk p) (take n (restart_stores p (seen p off k) gone (segments p (seen p off k) gone))) k
  pub loose_is : loose ≡ uncounted_in p gone (segments p (seen p off k) gone)
  pub whole_is : Whole p k'
  pub view_is : seen p off k' ≡ store_all store_view_of (restart_stores p (seen p off k) gone (segments p (seen p off k) gone)) (seen p off k)
  pub apart_is : SpotsApart p (seen p off k') gone
  pub good : any (recs_fault p gone) (segments p (seen p off k') gone) ≡ false

-- 01, Restart: the checks behind the pointers of 9, then the stores
abbrev pub Settles : Params → List ℕ → ℕ → ℕ → Disk → Result ℕ Halt → Disk → Type 0
Settles p off gone n k (Err (Check r)) k' =
    (first_refusal (rest_checks p (seen p off k) gone (segments p (seen p off k) gone)) ≡ some (answer_of r)) × (k' ≡ k)
Settles p off gone n k (Err Count) k' =
    (first_refusal (rest_checks p (seen p off k) gone (segments p (seen p off k) gone)) ≡ none)
    × (n < length (restart_stores p (seen p off k) gone (segments p (seen p off k) gone)))
    × (k' ≡ store_all (store_disk p) (take n (restart_stores p (seen p off k) gone (segments p (seen p off k) gone))) k)
Settles p off gone n k (Ok loose) k' = AllStored p off gone n k loose k'

pub settles_refused : (p : Params) (off : List ℕ) (gone n : ℕ) (k : Disk) (r : Refusal) (t : Result ℕ Halt) → IsErrAnd t (λ h. h ≡ Check r)
    → some (answer_of r) ≡ first_refusal (rest_checks p (seen p off k) gone (segments p (seen p off k) gone)) → Settles p off gone n k t k
settles_refused p off gone n k r (Ok l) h e = absurd h
settles_refused p off gone n k r (Err h) q e = subst (λ (x : Halt). Settles p off gone n k (Err x) k) (sym q) (sym e, refl)

-- no bad record in any segment
pub good_segments : (p : Params) (v : View) (gone : ℕ) → AllGood p v gone → any (recs_fault p gone) (segments p v gone) ≡ false
good_segments p v gone f = as! (in_none (recs_fault p gone) (map (segment_of p v gone) (remaining p v gone)) (λ x m.
    let (g, i, e) = map_in (segment_of p v gone) (remaining p v gone) x m in
    let (a, b) = f g i in
    ap (recs_fault p gone) e ∙ recs_fault_is p gone (segment_of p v gone g)
    ∙ or_neither (stripe_fault p gone (segment_of p v gone g)) (any (λ d. any (stored_bad p d) (recs_on (segment_of p v gone g) d)) (present p gone)) a (bs! g b)))
  where
    as! : any (recs_fault p gone) (map (segment_of p v gone) (remaining p v gone)) ≡ false → any (recs_fault p gone) (segments p v gone) ≡ false
    as! q = unfold segments in q

    bs! : (g : Seg) → bad_data p gone (segment_of p v gone g) ≡ false → any (λ d. any (stored_bad p d) (recs_on (segment_of p v gone g) d)) (present p gone) ≡ false
    bs! g q = unfold bad_data in q

-- with a drive missing nothing is stored
pub missing_stores : (p : Params) (v : View) (gone : ℕ) (gs : List Segment) → (gone ≡ 0 → ⊥) → restart_stores p v gone gs ≡ []
unfolding restart_stores
missing_stores p v gone gs n = ap (λ (b : Bool). cond b (drop_stores p v gs ++ flat (mend_stores p v gs) (unsealed gs)) []) (ne_eqb gone 0 n)

module _ (p : Params) (r : Ranged p) (off : List ℕ) (gone n : ℕ) (here : Here p gone) (k : Disk) (w : Whole p k) (sh : Shaped p (seen p off k)) (po : pointer_faults p (seen p off k) gone ≡ [])
    (e : none ≡ first_refusal (rest_checks p (seen p off k) gone (segments p (seen p off k) gone))) where
  abbrev st : List Store
  st = restart_stores p (seen p off k) gone (segments p (seen p off k) gone)

  ok : Rested p (seen p off k) gone (segments p (seen p off k) gone)
  ok = rested p (seen p off k) gone (segments p (seen p off k) gone) (sym e)

  acc : Accepted p (seen p off k) gone
  acc = record { pointers_ok = po; segments_ok = ok.segments_ok }

  -- nothing wrong, so the stores can be made
  pub is_sane : gone ≡ 0 → RefitReady p (seen p off k)
  is_sane q = subst (λ (g : ℕ). Accepted p (seen p off k) g → Rested p (seen p off k) g (segments p (seen p off k) g) → RefitReady p (seen p off k)) (sym q)
      (λ a o. record { shaped = sh; accepted = a; sixth = o.sixth; eighth = o.eighth }) acc ok

  -- they fit, and what they leave can be loaded
  fit_and_good : (AllFit p (seen p off k) st) × AllGood p (store_all store_view_of st (seen p off k)) gone
  fit_and_good = go (ℕ_discrete gone 0)
    where
      go : Dec (gone ≡ 0) → (AllFit p (seen p off k) st) × AllGood p (store_all store_view_of st (seen p off k)) gone
      go (yes q) =
          let s = is_sane q in
          let z = settled p r (seen p off k) s.shaped s.accepted s.sixth s.eighth in
          subst (λ (g : ℕ). (AllFit p (seen p off k) (restart_stores p (seen p off k) g (segments p (seen p off k) g)))
          × AllGood p (store_all store_view_of (restart_stores p (seen p off k) g (segments p (seen p off k) g)) (seen p off k)) g) (sym q) (z.fits, z.fine)
      go (no q) =
          let f = missing_stores p (seen p off k) gone (segments p (seen p off k) gone) q in (
            subst (λ (l : List Store). AllFit p (seen p off k) l) (sym f) tt,
            subst (λ (l : List Store). AllGood p (store_all store_view_of l (seen p off k)) gone) (sym f)
                (subst (λ (u : View). AllGood p u gone) (sym (stores_none (seen p off k))) (accepted_fine p (seen p off k) gone acc)),
          )

  -- no zone is of two segments: on present drives by their headers, on a missing one by what the segments name
  ends_still_apart : (u : View) → u ≡ store_all store_view_of st (seen p off k) → SpotsApart p u gone
  ends_still_apart u e = go (ℕ_discrete gone 0)
    where
      go : Dec (gone ≡ 0) → SpotsApart p u gone
      go (yes q) = subst (λ (g : ℕ). SpotsApart p u g) (sym q) (none_apart p u)
      go (no q) =
          let f = missing_stores p (seen p off k) gone (segments p (seen p off k) gone) q in
          subst (λ (x : View). SpotsApart p x gone) (sym (e ∙ ap (λ (l : List Store). store_all store_view_of l (seen p off k)) f ∙ stores_none (seen p off k)))
          (accepted_apart p (seen p off k) gone acc here)

  pub settles_cut : (t : Result ℕ Halt) (k' : Disk) → IsErrAnd t (λ h. h ≡ Count)
      → Storing p n (restart_stores p (seen p off k) gone (segments p (seen p off k) gone)) k too_few k' → Settles p off gone n k t k'
  settles_cut (Ok l) k' h s = absurd h
  settles_cut (Err h) k' q s = subst (λ (x : Halt). Settles p off gone n k (Err x) k') (sym q) (sym e, storing_cut p n st k k' s, s.disk)

  pub settles_stored : (left : ℕ) (k' : Disk) (loose : ℕ) → Storing p n (restart_stores p (seen p off k) gone (segments p (seen p off k) gone)) k (Ok left) k'
      → loose ≡ uncounted_in p gone (segments p (seen p off k) gone) → Settles p off gone n k (Ok loose) k'
  settles_stored left k' u s el =
      let all = storing_all p n st k left k' s in
      let v = seen-after p r off k k' st w fit_and_good.0 all in record {
        first = sym e;
        enough = storing_done p n st k left k' s;
        disk_is = s.disk;
        loose_is = el;
        whole_is = whole_after p r off k k' st w fit_and_good.0 all;
        view_is = v;
        apart_is = ends_still_apart (seen p off k') v;
        good = good_segments p (seen p off k') gone (subst (λ (u : View). AllGood p u gone) (sym v) fit_and_good.1);
      }

-- ---- the three ends

module _ (p : Params) (off : List ℕ) (k : Disk) (m : Memory) (gone n : ℕ) (k' : Disk) where
  pub ends_restart_refused : (r : Refusal) → Settles p off gone n k (Err (Check r)) k' → mk_after (answer_of r) k' m [] ≡ recovered p off k m gone n
  ends_restart_refused r s = ap (λ (x : Disk). mk_after (answer_of r) x m []) s.1 ∙ recovered-refused p off k m gone n (answer_of r) s.0

  pub ends_restart_cut : Settles p off gone n k (Err Count) k' → (d : Done) (ad co : List ℕ) → length m.addresses ≡ addresses_len p → length m.compact ≡ compact_len p
      → d.answer ≡ Cut → d.state ≡ zero_state
      → ad ≡ replicate (length m.addresses) 0 → co ≡ replicate (length m.compact) 0 → after d k'.image k'.pointers ad co m.inflight [] ≡ recovered p off k m gone n
  ends_restart_cut s d ad co la lc ea es ead eco =
      (λ j. mk_after (ea j) (s.2 j) (mk_memory (es j) (ead j) (eco j) m.inflight) [])
      ∙ ap (λ (x : Memory). mk_after Cut (store_all (store_disk p) (take n (restart_stores p (seen p off k) gone (segments p (seen p off k) gone))) k) x []) cleared!
      ∙ recovered-cut p off k m gone n s.0 s.1
    where
      cleared! : mk_memory zero_state (replicate (length m.addresses) 0) (replicate (length m.compact) 0) m.inflight ≡ cut_memory p m
      cleared! = unfold cut_memory in λ j. mk_memory zero_state (replicate (la j) 0) (replicate (lc j) 0) m.inflight

  pub ends_restart_done : (loose : ℕ) → Settles p off gone n k (Ok loose) k' → (st : State) (ad co : List ℕ)
      → ((fl : List ℕ) → mk_memory st ad co fl ≡ restart_memory p (seen p off k') gone fl)
      → after (record { answer = Restarted (record { uncounted = loose }); state = st }) k'.image k'.pointers ad co m.inflight [] ≡ recovered p off k m gone n
  ends_restart_done u s x ad co f =
      (λ j. mk_after (Restarted (record { uncounted = s.loose_is j })) (s.disk_is j) ((f m.inflight ∙ ap (λ (u : View). restart_memory p u gone m.inflight) s.view_is) j) [])
      ∙ answer!
      ∙ recovered_done p off k m gone n s.first s.enough
    where
      answer! : mk_after (Restarted (record { uncounted = uncounted_in p gone (segments p (seen p off k) gone) }))
          (store_all (store_disk p) (take n (restart_stores p (seen p off k) gone (segments p (seen p off k) gone))) k)
          (restart_memory p (store_all store_view_of (restart_stores p (seen p off k) gone (segments p (seen p off k) gone)) (seen p off k)) gone m.inflight) []
          ≡ mk_after (Restarted (report_of p gone (segments p (seen p off k) gone))) (store_all (store_disk p) (take n (restart_stores p (seen p off k) gone (segments p (seen p off k) gone))) k)
          (restart_memory p (store_all store_view_of (restart_stores p (seen p off k) gone (segments p (seen p off k) gone)) (seen p off k)) gone m.inflight) []
      answer! = unfold report_of in refl
