-- The write of no bytes on the lent bytes (02, item 1): it is refused, or a closing, or does nothing, and then the state's bytes come back as they were. Assumes nothing.
use Rattle.std.specs.Prelude.{◌≡◌, Bool, false, ◌&&◌, ◌⊎◌, ℕ, zero, suc, ◌≤◌, ◌<◌, length, get_or, replicate}
use Rattle.std.proofs.Math.Path.{refl, ap}
use Rattle.std.proofs.Common.{sym, ◌∙◌, inl, inr}
use mathlib.Core.List.{List, [], ◌∷◌}
use Rattle.std.proofs.Math.Bool.{true}
use native.Mathlib.Omega.{arith}
use borrow.Author.Tests.{lt-leb, le-leb, leb-true, eqb-true, ne_eqb}
use Rattle.std.proofs.Math.Dec.{eqb}
use Rattle.spec.specs.declared.Params.{Params}
use Rattle.spec.specs.declared.State.{State}
use Rattle.spec.specs.declared.Stamp.{Stamp}
use Rattle.spec.specs.declared.Answer.{Answer}
use Rattle.spec.specs.declared.Answer.TheVariants.{Refused, BadZone, Nothing}
use Rattle.spec.specs.Answers.{kind, values, is_refused}
use Rattle.spec.specs.Calls.{first_refusal, Plan, mk_plan, Verdict, decided, After, mk_after, outcome}
use Rattle.spec.specs.Calls.Check.{zones}
use Rattle.spec.specs.Calls.Verdict.{refused, due}
use Rattle.spec.specs.Closing.{padded, close_checks, close_plan, close_verdict, empty_checks, empty_plan, empty_verdict}
use Rattle.spec.specs.Counts.{padding_address}
use Rattle.spec.specs.Demands.{are_bytes}
use Rattle.spec.specs.Drives.{View, Disk, store_disk, store_all, above_narrow, few_good, list_ok, view_of}
use Rattle.spec.specs.Engine.{store_count, lent_block, verdict, lent_ok_of, call_on, Lent, Left, lent_disk, lent_memory, lent_all, left_by, lent_long, left_as, call_bytes}
use Rattle.spec.specs.Engine.Call.{write, close}
use Rattle.spec.specs.History.{Send, mk_send, sent_by}
use Rattle.spec.specs.Lists.{Opt, cons_if}
use Rattle.spec.specs.Lists.Opt.{none, some}
use Rattle.spec.specs.Memory.{Memory, state_len, state_bytes, state_of, has_filling, state_ok, state_faults, add_entry}
use Rattle.spec.specs.Params.{in_range}
use Rattle.spec.specs.Write.{placed}
use Rattle.law_basic.specs.Ranges.{and_left, and_right}
use Rattle.law_basic.specs.Sections.{state_of_state_bytes, state_bytes_state_of}
use Rattle.law_basic.specs.Stores.{done_all, no_count}
use Rattle.law_calls.specs.Refusals.{refusal_kind, zone_fails, zones_pass, none_left, state_fault, state_fine}
use Rattle.law_checks.specs.Checks.{Decided, decide}
use Rattle.law_checks.specs.Checks.Decided.{stops, goes}
use Rattle.law_checks.specs.Empty.{empty_closes, far_refusal, idle_refusal, Emptied, empty_decided}
use Rattle.law_checks.specs.Empty.Emptied.{as_closing, as_refused, as_nothing}
use Rattle.law_checks.specs.Passed.{EmptyPassed, list_parts}
use Rattle.law_drives.specs.Image.{bytes_of_lem}
use Rattle.law_drives.specs.Tests.{clash}
use Rattle.law_views.specs.Views.{seen}
use Rattle.spec_demands.specs.EmptyWrites.{state_in, writable, empty_left, EmptyWritten, EmptyWrite}
use Rattle.proof_bytes.specs.Fitted.{close_fits}
use Rattle.proof_bytes.specs.Sections.{StateFits, fits_state_of, state_sections_counted, fitting}

-- padding takes no stamp
padded_stamp : (p : Params) (i k : ℕ) (st : State) (fl : List ℕ) → (padded p i k st fl).state.stamp ≡ st.stamp
unfolding padded placed add_entry
padded_stamp p i zero st fl = refl
padded_stamp p i (suc k) st fl =
    padded_stamp p i k (add_entry st i padding_address 0 0) (placed p st fl i padding_address 0 0 (replicate p.B 0)).inflight

module _ (p : Params) (l : Lent) (a n : ℕ) where
  abbrev disk : Disk
  disk = lent_disk l

  abbrev memory : Memory
  memory = lent_memory l

  abbrev long : Bool
  long = lent_long p l

  abbrev view : View
  view = seen p l.offline disk

  -- what a verdict leaves, told k
  abbrev leaves! : ℕ → Verdict → Left
  leaves! k w = left_as l (outcome p (store_disk p) k disk memory [] w)

  empty_is : empty_left p l a n ≡ leaves! n (empty_verdict p long view memory a)
  unfolding empty_left call_bytes call_on store_count lent_block verdict
  empty_is = refl

  close_is : (k : ℕ) → call_bytes p l (close k) ≡ leaves! k (close_verdict p long view memory)
  unfolding call_bytes call_on store_count lent_block verdict
  close_is k = refl

  lent_filling : has_filling p (state_in l) ≡ has_filling p memory.state
  unfolding state_in lent_memory
  lent_filling = refl

  -- ---- a closing

  closing_counts : (k : ℕ) → leaves! n (close_verdict p long view memory) ≡ leaves! k (close_verdict p long view memory)
  unfolding close_verdict
  closing_counts k = ap (λ (r : After Disk). left_by l r (is_refused r.answer))
      (no_count p (store_disk p) n k disk memory [] (first_refusal (close_checks p long view memory)) (close_plan p memory) none_due)
    where
      none_due : (close_plan p memory).stores ≡ []
      none_due = unfold close_plan in refl

  is_closing : has_filling p (state_in l) ≡ true → a < p.L → (k : ℕ) → empty_left p l a n ≡ call_bytes p l (close k)
  is_closing h low k =
      empty_is ∙ ap (leaves! n) (empty_closes p long view memory a (sym lent_filling ∙ h) (lt-leb p.L a low)) ∙ closing_counts k ∙ sym (close_is k)

  -- ---- refused, closed, or nothing

  abbrev made : Plan → Left
  made q = record { answer = q.answer; lent = lent_all l.offline disk q.memory (state_bytes q.memory.state); block = q.block }

  stopped_left : (r : Answer) → is_refused r ≡ true → leaves! n (refused r) ≡ record { answer = r; lent = l; block = [] }
  unfolding outcome left_by
  stopped_left r h = ap (left_by l (outcome p (store_disk p) n disk memory [] (refused r))) h

  made_left : (r : Answer) (m : Memory) → is_refused r ≡ false → leaves! n (due (mk_plan [] r m [])) ≡ made (mk_plan [] r m [])
  unfolding left_by store_all
  made_left r m f =
      ap (λ (x : After Disk). left_by l x (is_refused x.answer)) (done_all p (store_disk p) n disk memory [] (mk_plan [] r m []) (omega arith))
      ∙ ap (left_by l (mk_after r disk m [])) f

  data EmptyEnds : Type 0 where
    ends_stopped : (r : Answer) → is_refused r ≡ true → empty_left p l a n ≡ record { answer = r; lent = l; block = [] } → EmptyEnds
    ends_closed : has_filling p memory.state ≡ true → a < p.L → first_refusal (close_checks p long view memory) ≡ none → empty_left p l a n ≡ made (close_plan p memory) → EmptyEnds
    ends_idle : EmptyPassed p long view memory a → empty_left p l a n ≡ made (mk_plan [] Nothing memory []) → EmptyEnds

  empty_ends : EmptyEnds
  empty_ends = go (empty_decided p long view memory a)
    where
      stopped : (r : Answer) → is_refused r ≡ true → empty_verdict p long view memory a ≡ refused r → EmptyEnds
      stopped r h e = ends_stopped r h (empty_is ∙ ap (leaves! n) e ∙ stopped_left r h)

      closed_left : leaves! n (due (close_plan p memory)) ≡ made (close_plan p memory)
      closed_left = unfold close_plan in made_left _ _ (unfold is_refused kind in refl)

      closes : has_filling p memory.state ≡ true → a < p.L → empty_verdict p long view memory a ≡ close_verdict p long view memory
          → Decided (close_checks p long view memory) (close_plan p memory) (close_verdict p long view memory) → EmptyEnds
      closes h low e (stops r f w) = stopped r (refusal_kind (close_checks p long view memory) r f) (e ∙ w)
      closes h low e (goes f w) = ends_closed h low f (empty_is ∙ ap (leaves! n) (e ∙ w) ∙ closed_left)

      closing! : Decided (close_checks p long view memory) (close_plan p memory) (close_verdict p long view memory)
      closing! = unfold close_verdict in decide (close_checks p long view memory) (close_plan p memory)

      go : Emptied p long view memory a → EmptyEnds
      go (as_closing h low e) = closes h low e closing!
      go (as_refused r e f) = stopped r (refusal_kind (empty_checks p long view memory a) r e) f
      go (as_nothing c h e) = ends_idle c (empty_is ∙ ap (leaves! n) e ∙ made_left Nothing memory (unfold is_refused kind in refl))

  -- ---- where nothing is done the bytes are as they came

  back : are_bytes l.state ≡ true → long ≡ true → lent_all l.offline disk memory (state_bytes memory.state) ≡ l
  unfolding lent_all lent_disk lent_memory
  back b h =
      let e = eqb-true (length l.state) state_len (and_right (lent_ok_of p l.offline disk memory) (eqb (length l.state) state_len) h) in
      ap (λ (s : List ℕ). record { offline = l.offline; image = l.image; pointers = l.pointers; addresses = l.addresses; compact = l.compact; inflight = l.inflight; state = s })
      (state_bytes_state_of l.state e (λ k _. bytes_of_lem l.state b k))

  is_idle : has_filling p (state_in l) ≡ false → are_bytes l.state ≡ true
      → ((empty_left p l a n).lent ≡ l) × (((empty_left p l a n).answer ≡ Nothing) ⊎ (is_refused (empty_left p l a n).answer ≡ true))
  is_idle h b = go empty_ends
    where
      go : EmptyEnds → ((empty_left p l a n).lent ≡ l) × (((empty_left p l a n).answer ≡ Nothing) ⊎ (is_refused (empty_left p l a n).answer ≡ true))
      go (ends_stopped r x e) = (ap (λ (y : Left). y.lent) e, inr (ap (λ (y : Left). is_refused y.answer) e ∙ x))
      go (ends_closed f low x e) = clash (lent_filling ∙ f) h
      go (ends_idle c e) = (ap (λ (y : Left). y.lent) e ∙ back b c.lent, inl (ap (λ (y : Left). y.answer) e))

  -- ---- the checks

  passed : writable p l ≡ true
      → (in_range p ≡ true) × (long ≡ true) × (few_good p view.offline ≡ false) × (above_narrow p view.offline ≡ false) × (eqb memory.state.missing 0 ≡ true)
  unfolding writable state_in lent_memory view_of
  passed w =
      let z = eqb memory.state.missing 0 in
      let ok = list_ok p l.offline in
      let xyo = and_left (in_range p && long && ok) z w in
      let xy = and_left (in_range p && long) ok xyo in
      let (few, fit) = list_parts p l.offline (and_right (in_range p && long) ok xyo) in
      (and_left (in_range p) long xy, and_right (in_range p) long xy, few, fit, and_right (in_range p && long && ok) z w)

  -- ---- none is filling, or the address is out of range: the first check that holds

  refused_as : (r : Answer) → is_refused r ≡ true → first_refusal (empty_checks p long view memory a) ≡ some r → (empty_left p l a n).answer ≡ r
  refused_as r k e = ap (λ (y : Left). y.answer) (empty_is ∙ ap (leaves! n) (stops! e) ∙ stopped_left r k)
    where
      stops! : first_refusal (empty_checks p long view memory a) ≡ some r → empty_verdict p long view memory a ≡ refused r
      stops! f = unfold empty_verdict decided in ap (λ (o : Opt Answer). decided o (empty_plan p memory)) f

  -- the state's numbers are looked at, and no more
  idle_first : has_filling p (state_in l) ≡ false → a < p.L → writable p l ≡ true
      → first_refusal (empty_checks p long view memory a) ≡ first_refusal (zones (state_faults p memory.state) ∷ [])
  idle_first h low w =
      let (x, y, few, fit, z) = passed w in
      idle_refusal p long view memory a x y few fit z (lt-leb p.L a low) (sym lent_filling ∙ h)

  is_accepted : has_filling p (state_in l) ≡ false → a < p.L → writable p l ≡ true → state_ok p (state_in l) ≡ true → (empty_left p l a n).answer ≡ Nothing
  is_accepted h low w s = go (empty_decided p long view memory a)
    where
      all_pass : first_refusal (empty_checks p long view memory a) ≡ none
      all_pass = idle_first h low w ∙ ap (λ (zs : List ℕ). first_refusal (zones zs ∷ [])) (state_fine p memory.state (unfold state_in lent_memory in s)) ∙ zones_pass [] [] refl ∙ none_left

      go : Emptied p long view memory a → (empty_left p l a n).answer ≡ Nothing
      go (as_closing f x e) = clash (lent_filling ∙ f) h
      go (as_refused r e f) = let q : none ≡ some r = sym all_pass ∙ e in absurd (let z : ◌≡◌ {A = ℕ} 0 1 = cc in let y : ⊥ = omega arith in y)
      go (as_nothing c f e) = ap (λ (y : Left). y.answer) (empty_is ∙ ap (leaves! n) e ∙ made_left Nothing memory (unfold is_refused kind in refl))

  is_faulty : has_filling p (state_in l) ≡ false → a < p.L → writable p l ≡ true → state_ok p (state_in l) ≡ false → (empty_left p l a n).answer ≡ BadZone 0
  is_faulty h low w s = refused_as (BadZone 0) (unfold is_refused kind in refl)
      (idle_first h low w ∙ ap (λ (zs : List ℕ). first_refusal (zones zs ∷ [])) (state_fault p memory.state (unfold state_in lent_memory in s)) ∙ zone_fails 0 [])

  is_fourth : p.L ≤ a → writable p l ≡ true → (empty_left p l a n).answer ≡ Refused 4
  is_fourth h w =
      let (x, y, few, fit, z) = passed w in
      refused_as (Refused 4) (unfold is_refused kind in refl) (far_refusal p long view memory a x y few fit z (le-leb p.L a h))

  is_stopped : p.L ≤ a → (is_refused (empty_left p l a n).answer ≡ true) × ((empty_left p l a n).lent ≡ l)
  is_stopped h = go empty_ends
    where
      go : EmptyEnds → (is_refused (empty_left p l a n).answer ≡ true) × ((empty_left p l a n).lent ≡ l)
      go (ends_stopped r x e) = (ap (λ (y : Left). is_refused y.answer) e ∙ x, ap (λ (y : Left). y.lent) e)
      go (ends_closed f low x e) = absurd (let y : ⊥ = omega arith in y)
      go (ends_idle c e) = absurd (let y : ⊥ = omega (arith, c.address_low) in y)

  -- ---- stamp, drives and tables

  empty_stamp : are_bytes l.state ≡ true → (state_in (empty_left p l a n).lent).stamp ≡ (state_in l).stamp
  unfolding state_in
  empty_stamp b = go empty_ends
    where
      stamp_of : Left → Stamp
      stamp_of y = (state_of y.lent.state).stamp

      closed_stamp : first_refusal (close_checks p long view memory) ≡ none → stamp_of (made (close_plan p memory)) ≡ (state_of l.state).stamp
      closed_stamp e = unfold lent_all in
          (let f = close_fits p long view memory fits e in
          let st = (close_plan p memory).memory.state in
          ap (λ (x : State). x.stamp) (state_of_state_bytes st (state_sections_counted st f) (fitting st f)) ∙ padding)
        where
          fits : StateFits memory.state
          fits = unfold lent_memory in fits_state_of l.state (bytes_of_lem l.state b)

          padding : (close_plan p memory).memory.state.stamp ≡ (state_of l.state).stamp
          padding = unfold close_plan lent_memory in padded_stamp p _ _ (state_of l.state) l.inflight

      go : EmptyEnds → (state_of (empty_left p l a n).lent.state).stamp ≡ (state_of l.state).stamp
      go (ends_stopped r x e) = ap stamp_of e
      go (ends_closed f low x e) = ap stamp_of e ∙ closed_stamp x
      go (ends_idle c e) = ap stamp_of e ∙ ap (λ (y : Lent). (state_of y.state).stamp) (back b c.lent)

  empty_unsent : sent_by (write a [] n) (empty_left p l a n).answer ≡ []
  unfolding sent_by
  empty_unsent = go empty_ends
    where
      sent : Answer → List Send
      sent r = cons_if (eqb (kind r) 3) (mk_send a (get_or (values r) 0 0) [] (get_or (values r) 1 0) true false) []

      refused-sent : (r : Answer) → is_refused r ≡ true → sent r ≡ []
      refused-sent r h = unfold is_refused in
          (let k = leb-true (kind r) 1 h in
          let e = ne_eqb (kind r) 3 (λ e. let y : ⊥ = omega arith in y) in
          rw e (unfold cons_if in refl))

      go : EmptyEnds → sent (empty_left p l a n).answer ≡ []
      go (ends_stopped r x e) = ap (λ (y : Left). sent y.answer) e ∙ refused-sent r x
      go (ends_closed f low x e) = ap (λ (y : Left). sent y.answer) e ∙ (unfold close_plan kind cons_if in refl)
      go (ends_idle c e) = ap (λ (y : Left). sent y.answer) e ∙ (unfold kind cons_if in refl)

  -- what it leaves of drives, tables and block
  rest_kept : {X : Type 0} (f : Left → X) (x : X) → ((r : Answer) → f (record { answer = r; lent = l; block = [] }) ≡ x)
      → ((r : Answer) (m : Memory) → m.addresses ≡ l.addresses → m.compact ≡ l.compact → f (made (mk_plan [] r m [])) ≡ x) → f (empty_left p l a n) ≡ x
  rest_kept f x g h = go empty_ends
    where
      closed : f (made (close_plan p memory)) ≡ x
      closed = unfold close_plan lent_memory in h _ _ refl refl

      go : EmptyEnds → f (empty_left p l a n) ≡ x
      go (ends_stopped r y e) = ap f e ∙ g r
      go (ends_closed y low z e) = ap f e ∙ closed
      go (ends_idle c e) = ap f e ∙ h Nothing memory (unfold lent_memory in refl) (unfold lent_memory in refl)

  pub written_empty : EmptyWritten p l a n
  unfolding lent_all lent_disk
  written_empty = record {
    closes = is_closing;
    accepts = is_accepted;
    faults = is_faulty;
    idles = is_idle;
    stops = is_stopped;
    stops_fourth = is_fourth;
    sends_nothing = empty_unsent;
    keeps_stamp = empty_stamp;
    keeps_drives = rest_kept (λ (y : Left). lent_disk y.lent) (lent_disk l) (λ r. refl) (λ r m e f. refl);
    keeps_addresses = rest_kept (λ (y : Left). y.lent.addresses) l.addresses (λ r. refl) (λ r m e f. e);
    keeps_compact = rest_kept (λ (y : Left). y.lent.compact) l.compact (λ r. refl) (λ r m e f. f);
    keeps_block = rest_kept (λ (y : Left). y.block) [] (λ r. refl) (λ r m e f. refl);
  }

-- 02, item 1
pub empty_write : EmptyWrite
empty_write p l a n = written_empty p l a n
