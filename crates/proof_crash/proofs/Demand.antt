-- Demand 3. Assumes nothing.
use Rattle.std.specs.Prelude.{◌≡◌, List, [], ◌∷◌, Bool, not, ◌&&◌, ◌≢◌, ℕ, ◌≤◌, ◌<◌, length}
use Rattle.std.proofs.Math.Path.{refl, sym, ap, subst}
use Rattle.std.proofs.Common.{◌∙◌, inl, ⊎_elim, arith}
use Rattle.std.proofs.Math.Bool.{true, false}
use borrow.Author.Tests.{not-true}
use Rattle.spec.specs.declared.Params.{Params}
use Rattle.spec.specs.Answers.{is_refused_as, finished}
use Rattle.spec.specs.Calls.{first_refusal, After}
use Rattle.spec.specs.Demands.{RestartOk, ClaimOf, Allowed, Claims, Demand3Values}
use Rattle.spec.specs.Drives.{zone_at, Disk, above_narrow, few_good, list_ok, view_of}
use Rattle.spec.specs.Engine.{Call, lent_ok_of, call_disk}
use Rattle.spec.specs.Engine.Call.{write, land, close, reclaim, read, fill, restart, rebuild}
use Rattle.spec.specs.History.{World, mk_world, Event, call_of, restart_of, in_order_of, swapped, before, happens, only_if, orderly, restart_in, world_after, sent_after}
use Rattle.spec.specs.History.{untrusted_after, Hist, marked, step, empty_disk, began, names_all, allowed}
use Rattle.spec.specs.History.Event.{calls, boots}
use Rattle.spec.specs.Lists.{Opt}
use Rattle.spec.specs.Lists.Opt.{none, some}
use Rattle.spec.specs.Memory.{Memory}
use Rattle.spec.specs.Params.{in_range, no_drive, named}
use Rattle.spec.specs.Restart.{names_drive, restart_checks}
use Rattle.spec.specs.Segments.{segments}
use Rattle.law_basic.specs.Geometry.{Ranged, ranged}
use Rattle.law_basic.specs.Ranges.{Test, test, and_left, and_right, and_both}
use Rattle.law_basic.specs.Ranges.Test.{yes!, no! }
use Rattle.law_views.specs.Views.{Whole, seen}
use Rattle.law_drives.specs.Tests.{cond_true, cond_false, clash, not_so}
use Rattle.law_checks.specs.Passed.{restart_passed}
use Rattle.law_basic.specs.Mask.{is_in_empty}
use Rattle.proof_crash_machine.specs.History.Mode.{off as m-off}
use Rattle.proof_crash_machine.specs.History.{Inv, start}
use Rattle.proof_crash_machine.specs.Order.{Tracked, no_track}
use Rattle.proof_crash_items.specs.Ranges.{par_of}
use Rattle.proof_crash_items.specs.RestMem.{names_cases}
use Rattle.proof_crash_items.specs.Start.{empty_whole, start_on}
use Rattle.proof_crash_items.specs.Named.{named_out}
use Rattle.proof_crash_calls.specs.Go.{mst, Go, go_none, go_start}
use Rattle.proof_crash_calls.proofs.Others.{refused-any}
use Rattle.proof_crash_calls.proofs.Refusals.{decides, boot-step}
use Rattle.proof_crash.proofs.Boot.{Booted}
use Rattle.proof_crash.proofs.Fresh.{boot_healthy}
use Rattle.proof_crash.proofs.Calls.{call_leaves, call_step}
use Rattle.proof_crash.proofs.Missed.{boot_missing}
use Rattle.proof_crash.specs.Stand.{Stands, Holds, leaves, hist}
use Rattle.proof_crash.proofs.Stand.{stands_of}
use Rattle.proof_crash.specs.Stand.Holds.{rests}
use Rattle.proof_crash.specs.Swap.{swapped_none, swapped_ok, swapped_whole, swapped_lent}
use Rattle.proof_crash_items.specs.Carry.{on_tie}

demand_list_ok : (p : Params) (off : List ℕ) → few_good p off ≡ false → above_narrow p off ≡ false → list_ok p off ≡ true
unfolding list_ok
demand_list_ok p off e f = and_both (not (few_good p off)) (not (above_narrow p off)) (ap not e) (ap not f)

module _ (p : Params) (h : Ranged p) (off : List ℕ) (s : Hist) (H : Holds p h off s) where
  none_claimed : (e : Event) → restart_in p off s.world e ≡ none → ClaimOf p off s e (restart_in p off s.world e)
  none_claimed e q = subst (ClaimOf p off s e) (sym q) tt

  -- ---- a restart in order, on drives k with memory m: as the drives are, but for the drive that it names
  booted : (k : Disk) (m : Memory) (d c : ℕ) → Whole p k → ((e y : ℕ) → e ≢ d → zone_at (seen p off k) e y ≡ zone_at (seen p off s.world.disk) e y)
      → (p.N ≤ d → k ≡ s.world.disk)
      → in_order_of p off (mk_world k m) d ≡ true
      → is_refused_as 6 (call_disk p off k m (restart d c)).answer ≡ false
      → names_all s.untrusted (some d) ≡ true
      → Booted p h off s (restart d c) (call_disk p off k m (restart d c))
  booted k m d c wk same out ord al us = ⊎_elim
      (λ (l : d < p.N). boot_missing p h off s N.0 N.1 k wk m d c l (λ e y b n. same e y (named_out p h d e b n)) us ord al)
      (λ (e : d ≡ no_drive). none-lost e (out (far e)) ord al us)
      (names_cases p d nm)
    where
      N : (n : ℕ) × Stands p h off s n
      N = stands_of p h off s H

      nm : names_drive p d ≡ true
      nm = unfold in_order_of in and_right (in_range p) (names_drive p d) (and_left (in_range p && names_drive p d) (lent_ok_of p off k m)
          (and_left (in_range p && names_drive p d && lent_ok_of p off k m) (list_ok p off) (reveal ord)))
        where
          reveal : in_order_of p off (mk_world k m) d ≡ true → (in_range p && names_drive p d && lent_ok_of p off k m && list_ok p off) ≡ true
          reveal q = unfold in_order_of in q

      far : d ≡ no_drive → p.N ≤ d
      far e = unfold no_drive in (let q : d ≡ 255 = e in omega (arith, q, h.drives_high))

      none-lost :
          d ≡ no_drive
          → k ≡ s.world.disk
          → in_order_of p off (mk_world k m) d ≡ true
          → is_refused_as 6 (call_disk p off k m (restart d c)).answer ≡ false
          → names_all s.untrusted (some d) ≡ true
          → Booted p h off s (restart d c) (call_disk p off k m (restart d c))
      none-lost e f =
          subst (λ (i : ℕ). in_order_of p off (mk_world k m) i ≡ true
          → is_refused_as 6 (call_disk p off k m (restart i c)).answer ≡ false
          → names_all s.untrusted (some i) ≡ true
          → Booted p h off s (restart i c) (call_disk p off k m (restart i c))) (sym e)
          (subst (λ (z : Disk). in_order_of p off (mk_world z m) no_drive ≡ true
          → is_refused_as 6 (call_disk p off z m (restart no_drive c)).answer ≡ false
          → names_all s.untrusted (some no_drive) ≡ true
          → Booted p h off s (restart no_drive c) (call_disk p off z m (restart no_drive c))) (sym f)
          (λ ord al us. boot_healthy p h off s N.0 N.1 m c us ord al))

  -- ---- a restart, whatever its event
  abbrev Both : Event → Type 0
  Both e = ClaimOf p off s e (restart_in p off s.world e) × Holds p h off (step p off s e)

  ordered-event :
      (e : Event) (d c : ℕ) (k : Disk) (m : Memory)
      → happens p off s.world e ≡ call_disk p off k m (restart d c)
      → step p off s e ≡ leaves s (restart d c) (call_disk p off k m (restart d c))
      → restart_in p off s.world e ≡ some d
      → Whole p k
      → ((e y : ℕ) → e ≢ d → zone_at (seen p off k) e y ≡ zone_at (seen p off s.world.disk) e y)
      → (p.N ≤ d → k ≡ s.world.disk)
      → in_order_of p off (mk_world k m) d ≡ true
      → allowed p off s e ≡ true
      → Both e
  ordered-event e d c k m hp st rs wk same out ord al = (
    subst (ClaimOf p off s e) (sym rs)
        (subst (λ (r : After Disk). RestartOk p off s r.answer (step p off s e)) (sym hp) (subst (RestartOk p off s (call_disk p off k m (restart d c)).answer) (sym st) b.0)),
    subst (Holds p h off) (sym st) b.1,
  )
    where
      al' : (not (is_refused_as 6 (happens p off s.world e).answer) && names_all s.untrusted (restart_in p off s.world e)) ≡ true
      al' = reveal al
        where
          reveal : allowed p off s e ≡ true → (not (is_refused_as 6 (happens p off s.world e).answer) && names_all s.untrusted (restart_in p off s.world e)) ≡ true
          reveal q = unfold allowed in q

      six : is_refused_as 6 (call_disk p off k m (restart d c)).answer ≡ false
      six =
          ap (λ (r : After Disk). is_refused_as 6 r.answer) (sym hp)
          ∙ not-true (is_refused_as 6 (happens p off s.world e).answer)
          (and_left (not (is_refused_as 6 (happens p off s.world e).answer)) (names_all s.untrusted (restart_in p off s.world e)) al')

      us : names_all s.untrusted (some d) ≡ true
      us = ap (names_all s.untrusted) (sym rs) ∙ and_right (not (is_refused_as 6 (happens p off s.world e).answer)) (names_all s.untrusted (restart_in p off s.world e)) al'

      b : Booted p h off s (restart d c) (call_disk p off k m (restart d c))
      b = booted k m d c wk same out ord six us

  whole? : Whole p s.world.disk
  whole? = (stands_of p h off s H).1.whole

  -- a restart call
  restart_event : (d c : ℕ) → allowed p off s (calls (restart d c)) ≡ true → Both (calls (restart d c))
  restart_event d c al = go (test (in_order_of p off s.world d))
    where
      is : (b : Bool) → in_order_of p off s.world d ≡ b → restart_in p off s.world (calls (restart d c)) ≡ only_if b (some d)
      is b q = unfold restart_in before call_of restart_of orderly in ap (λ (x : Bool). only_if x (some d)) q

      go : Test (in_order_of p off s.world d) → Both (calls (restart d c))
      go (yes! q) =
          ordered-event (calls (restart d c)) d c s.world.disk s.world.memory (unfold happens before call_of in refl)
          (call_leaves p off s (restart d c)) (is true q ∙ (unfold only_if in refl)) whole? (λ e y n. refl) (λ l. refl) q al
      go (no! q) = (
        none_claimed (calls (restart d c)) (is false q ∙ (unfold only_if in refl)),
        subst (Holds p h off) (sym (refused-any p off s (restart d c) (λ f. clash (passed (reveal f)) q))) H,
      )
        where
          reveal : first_refusal (decides p (lent_ok_of p off s.world.disk s.world.memory) (seen p off s.world.disk) s.world.memory (restart d c)).checks ≡ none
              → first_refusal (restart_checks p (lent_ok_of p off s.world.disk s.world.memory) (seen p off s.world.disk) d (segments p (seen p off s.world.disk) (named d))) ≡ none
          reveal f = unfold decides in f

          viewed : few_good p (seen p off s.world.disk).offline ≡ false → few_good p off ≡ false
          viewed q = unfold view_of in q

          narrow : above_narrow p (seen p off s.world.disk).offline ≡ false → above_narrow p off ≡ false
          narrow q = unfold view_of in q

          passed :
              first_refusal (restart_checks p (lent_ok_of p off s.world.disk s.world.memory) (seen p off s.world.disk) d
              (segments p (seen p off s.world.disk) (named d))) ≡ none
              → in_order_of p off s.world d ≡ true
          passed f = unfold in_order_of in
              let c = restart_passed p (lent_ok_of p off s.world.disk s.world.memory) (seen p off s.world.disk) d (segments p (seen p off s.world.disk) (named d)) f in
              and_both (in_range p && names_drive p d && lent_ok_of p off s.world.disk s.world.memory) (list_ok p off)
              (and_both (in_range p && names_drive p d) (lent_ok_of p off s.world.disk s.world.memory) (and_both (in_range p) (names_drive p d) c.in_range_holds c.names) c.lent)
              (demand_list_ok p off (viewed c.zones_enough) (narrow c.addresses_fit))

  -- a restart with other memory, and any bytes on the drive that it names
  boot_event : (d c : ℕ) (m : Memory) (im ps : List ℕ) → allowed p off s (boots d c m im ps) ≡ true → Both (boots d c m im ps)
  boot_event d c m im ps al = go (test (in_order_of p off (mk_world s.world.disk m) d))
    where
      k : Disk
      k = swapped p s.world.disk d im ps

      e : Event
      e = boots d c m im ps

      go : Test (in_order_of p off (mk_world s.world.disk m) d) → Both (boots d c m im ps)
      go (no! q) = (none_claimed (boots d c m im ps) is, subst (Holds p h off) (sym (boot-step p off s d c m im ps q)) H)
        where
          was : before p off s.world (boots d c m im ps) ≡ mk_world s.world.disk m
          was = unfold before in cond_false (in_order_of p off (mk_world s.world.disk m) d) (mk_world (swapped p s.world.disk d im ps) m) (mk_world s.world.disk m) q

          is : restart_in p off s.world (boots d c m im ps) ≡ none
          is = unfold restart_in call_of restart_of in
              (ap (λ (x : World). orderly p off x (some d)) was ∙ (unfold orderly in (ap (λ (x : Bool). only_if x (some d)) q ∙ (unfold only_if in refl))))
      go (yes! q) =
          ordered-event (boots d c m im ps) d c k m hp st is (swapped_whole p off s.world.disk whole? d im ps)
          (swapped_ok p off s.world.disk whole? d im ps).others (swapped_none p off s.world.disk whole? d im ps) ord al
        where
          was : before p off s.world (boots d c m im ps) ≡ mk_world k m
          was = unfold before in cond_true (in_order_of p off (mk_world s.world.disk m) d) (mk_world (swapped p s.world.disk d im ps) m) (mk_world s.world.disk m) q

          ord : in_order_of p off (mk_world k m) d ≡ true
          ord = unfold in_order_of in (ap (λ (b : Bool). in_range p && names_drive p d && b && list_ok p off) (swapped_lent p off s.world.disk whole? d im ps m) ∙ reveal q)
            where
              reveal : in_order_of p off (mk_world s.world.disk m) d ≡ true → (in_range p && names_drive p d && lent_ok_of p off s.world.disk m && list_ok p off) ≡ true
              reveal q = unfold in_order_of in q

          is : restart_in p off s.world (boots d c m im ps) ≡ some d
          is = unfold restart_in call_of restart_of in
              (ap (λ (x : World). orderly p off x (some d)) was ∙ (unfold orderly in (ap (λ (x : Bool). only_if x (some d)) ord ∙ (unfold only_if in refl))))

          hp : happens p off s.world (boots d c m im ps) ≡ call_disk p off k m (restart d c)
          hp = unfold happens call_of in ap (λ (x : World). call_disk p off x.disk x.memory (restart d c)) was

          after? : (r : After Disk) → world_after p off s.world (boots d c m im ps) r ≡ mk_world r.drives r.memory
          after? r = unfold world_after in cond_true (in_order_of p off (mk_world s.world.disk m) d) (mk_world r.drives r.memory) s.world q

          st : step p off s (boots d c m im ps) ≡ leaves s (restart d c) (call_disk p off k m (restart d c))
          st = unfold step call_of leaves in (
              ap (λ (x : World). hist x (sent_after (restart d c) (happens p off s.world e).answer s.sends) (untrusted_after (restart d c) (happens p off s.world e).answer s.untrusted)
              (marked (finished (happens p off s.world e).answer) x (length (sent_after (restart d c) (happens p off s.world e).answer s.sends)) s.mark)) (after?
              (happens p off s.world e))
              ∙ ap (λ (r : After Disk). hist (mk_world r.drives r.memory) (sent_after (restart d c) r.answer s.sends) (untrusted_after (restart d c) r.answer s.untrusted)
              (marked (finished r.answer) (mk_world r.drives r.memory) (length (sent_after (restart d c) r.answer s.sends)) s.mark)) hp)

  -- any other call
  call_event : (c : Call) → restart_of c ≡ none → Both (calls c)
  call_event c r = (none_claimed (calls c) (unfold restart_in before call_of in (ap (orderly p off s.world) r ∙ (unfold orderly in refl))), call_step p h off s H c r)

  pub event_ok : (e : Event) → allowed p off s e ≡ true → ClaimOf p off s e (restart_in p off s.world e) × Holds p h off (step p off s e)
  event_ok (calls (write a b n)) al = call_event (write a b n) (unfold restart_of in refl)
  event_ok (calls (land d t n)) al = call_event (land d t n) (unfold restart_of in refl)
  event_ok (calls (close n)) al = call_event (close n) (unfold restart_of in refl)
  event_ok (calls (reclaim n)) al = call_event (reclaim n) (unfold restart_of in refl)
  event_ok (calls (read a)) al = call_event (read a) (unfold restart_of in refl)
  event_ok (calls (fill a b)) al = call_event (fill a b) (unfold restart_of in refl)
  event_ok (calls (restart d n)) al = restart_event d n al
  event_ok (calls (rebuild d n)) al = call_event (rebuild d n) (unfold restart_of in refl)
  event_ok (boots d n m im ps) al = boot_event d n m im ps al

-- every list of events
pub all_claims : (p : Params) (h : Ranged p) (off : List ℕ) (es : List Event) (s : Hist) → Holds p h off s → Allowed p off s es → Claims p off s es
all_claims p h off [] s x al = tt
all_claims p h off (e ∷ es) s x (a, al) = ((event_ok p h off s x e a).0, all_claims p h off es (step p off s e) (event_ok p h off s x e a).1 al)

-- empty drives
pub empty_holds : (p : Params) (h : Ranged p) (off : List ℕ) (k : Disk) → few_good p off ≡ false → empty_disk p off k ≡ true → Holds p h off (began p k)
unfolding began
empty_holds p h off k few e = rests 0 (record {
  g = (start (par_of p h off)).g;
  u = λ d z. [];
  a = [];
  c = false;
  m = m-off;
  T = no_track;
  whole = empty_whole p h off k e;
  reached = record {
    inv = I.0;
    tracked = I.1;
    tie = on_tie p h off (start (par_of p h off)).g (seen p off k) (λ d z. []) (start_on p h off k e few);
    logged = record { count = refl; same = λ j l. absurd (let z : ⊥ = omega arith in z); acks = λ j l q. absurd (let z : ⊥ = omega arith in z) };
    marked = omega arith;
    still = λ q. refl;
  };
  trust = λ d l. unfold start in sym (is_in_empty d);
  mark = tt;
}) (inl refl)
  where
    go : Go (par_of p h off) (start (par_of p h off)) (mst (start (par_of p h off)).g (λ d z. []) [] false m-off) no_track no_track
    go = unfold start in go_none (par_of p h off) (start (par_of p h off)) no_track

    I : Inv (par_of p h off) (mst (start (par_of p h off)).g (λ d z. []) [] false m-off) × Tracked (mst (start (par_of p h off)).g (λ d z. []) [] false m-off) no_track
    I = go_start (par_of p h off) (mst (start (par_of p h off)).g (λ d z. []) [] false m-off) no_track go

-- ---- with too few good zones no restart is in order

module _ (p : Params) (off : List ℕ) (few : few_good p off ≡ true) where
  none_orderly : (w : World) (o : Opt ℕ) → orderly p off w o ≡ none
  none_orderly w none = unfold orderly in refl
  none_orderly w (some d) = unfold orderly in (ap (λ (b : Bool). only_if b (some d)) (not_so (in_order_of p off w d) (λ q. clash few (enough q))) ∙ (unfold only_if in refl))
    where
      enough : in_order_of p off w d ≡ true → few_good p off ≡ false
      enough q = not-true (few_good p off) (and_left (not (few_good p off)) (not (above_narrow p off))
          (listed (and_right (in_range p && names_drive p d && lent_ok_of p off w.disk w.memory) (list_ok p off) (reveal q))))
        where
          reveal : in_order_of p off w d ≡ true → (in_range p && names_drive p d && lent_ok_of p off w.disk w.memory && list_ok p off) ≡ true
          reveal q = unfold in_order_of in q

          listed : list_ok p off ≡ true → (not (few_good p off) && not (above_narrow p off)) ≡ true
          listed q = unfold list_ok in q

  demand_none_in : (w : World) (e : Event) → restart_in p off w e ≡ none
  demand_none_in w e = unfold restart_in in none_orderly (before p off w e) (restart_of (call_of e))

  no_claims : (es : List Event) (s : Hist) → Claims p off s es
  no_claims [] s = tt
  no_claims (e ∷ es) s = (subst (ClaimOf p off s e) (sym (demand_none_in s.world e)) tt, no_claims es (step p off s e))

-- DEMAND 3
pub demand_3 : Demand3Values
demand_3 p off r k e es al = go (test (few_good p off))
  where
    go : Test (few_good p off) → Claims p off (began p k) es
    go (yes! q) = no_claims p off q es (began p k)
    go (no! q) = all_claims p (ranged p r) off es (began p k) (empty_holds p (ranged p r) off k q e) al
