-- Calls that change nothing: the reads, and every call that is refused. Assumes nothing.
use Rattle.std.specs.Prelude.{◌≡◌, List, [], ◌++◌, Bool, true, false, not, ◌&&◌, ℕ, ◌≤◌, leb, ltb, get_or, length}
use Rattle.std.proofs.Math.Path.{refl}
use Rattle.std.proofs.Common.{sym, ap, ap₂, ◌∙◌, subst, append-nil, arith, ne_eqb, leb-true}
use Rattle.std.proofs.Math.Dec.{eqb}
use Rattle.spec.specs.Lists.Opt.{none}
use Rattle.spec.specs.declared.Params.{Params}
use Rattle.spec.specs.declared.Answer.{Answer}
use Rattle.spec.specs.declared.Answer.TheVariants.{Filled}
use Rattle.spec.specs.Answers.{kind, values, is_refused, is_cut_of, finished}
use Rattle.spec.specs.Calls.{Check, Plan, After, first_refusal}
use Rattle.spec.specs.Counts.{a_stamp}
use Rattle.spec.specs.Drives.{Disk, store_disk, store_all}
use Rattle.spec.specs.Engine.{Call, store_count, lent_block, verdict, lent_ok_of, call_on, call_disk}
use Rattle.spec.specs.Engine.Call.{write, land, close, reclaim, read, fill, restart, rebuild}
use Rattle.spec.specs.History.{ends_run}
use Rattle.spec.specs.Lists.{cons_if, keep}
use Rattle.spec.specs.Memory.{Memory}
use Rattle.spec.specs.Read.{Found, lookup, read_answer_of, read_verdict, fill_verdict, Lookup, read_checks, read_plan, fill_plan}
use Rattle.spec.specs.Read.Found.{nowhere, here, away}
use Rattle.spec.specs.Segments.{Segment}
use Rattle.spec_demands.specs.Tables.{Pending, pending_by, still_pending, pending_after}
use Rattle.law_drives.specs.Tests.{clash, cond_false, and_false_left, or_neither}
use Rattle.proof_tables.specs.Outcomes.{EndedAs, outcome_ends, cut-cut}
use Rattle.proof_tables.specs.Outcomes.EndedAs.{ended-refused, ended_done, ended-cut}
use Rattle.proof_tables.specs.Run.{Run}
use Rattle.law_views.specs.Views.{seen}
use Rattle.law_calls.specs.Refusals.{refusal_kind}
use Rattle.proof_flights.specs.Flown.{Flown}

-- ---- the writes that wait, after an answer that sends none and lands none

-- neither cut nor a finished restart, no block sent, none landed
pub record QuietAnswer (a : Answer) : Type 0 where
  pub goes_on : ends_run a ≡ false
  pub sends_none : eqb (kind a) 3 ≡ false
  pub lands_none : eqb (kind a) 4 ≡ false

still : (c : Call) (a : Answer) (ws : List Pending) → eqb (kind a) 4 ≡ false → still_pending c a ws ≡ ws
unfolding still_pending
still (write x b n) a ws q = refl
still (land d s n) a ws q =
    cond_false (eqb (kind a) 4 && ltb 0 (get_or (values a) 0 0)) (keep (λ (w : Pending). not (eqb w.stripe s)) ws) ws (and_false_left (eqb (kind a) 4) (ltb 0 (get_or (values a) 0 0)) q)
still (close n) a ws q = refl
still (reclaim n) a ws q = refl
still (read x) a ws q = refl
still (fill x b) a ws q = refl
still (restart d n) a ws q = refl
still (rebuild d n) a ws q = refl

none_sent : (c : Call) (a : Answer) → eqb (kind a) 3 ≡ false → pending_by c a ≡ []
unfolding pending_by
none_sent (write x b n) a q =
    ap (λ (t : Bool). cons_if t (record { stripe = get_or (values a) 1 0; drive = get_or (values a) 2 0; address = x; stamp = get_or (values a) 0 0; block = b }) []) q ∙ (unfold cons_if in refl)
none_sent (land d s n) a q = refl
none_sent (close n) a q = refl
none_sent (reclaim n) a q = refl
none_sent (read x) a q = refl
none_sent (fill x b) a q = refl
none_sent (restart d n) a q = refl
none_sent (rebuild d n) a q = refl

pub pending_quiet : (c : Call) (a : Answer) (ws : List Pending) → QuietAnswer a → pending_after c a ws ≡ ws
unfolding pending_after
pending_quiet c a ws q =
    cond_false (ends_run a) [] (still_pending c a ws ++ pending_by c a) q.goes_on ∙ ap₂ ◌++◌ (still c a ws q.lands_none) (none_sent c a q.sends_none) ∙ append-nil ws

-- a kind that is none of those
pub quiet_kind : (a : Answer) (n : ℕ) → kind a ≡ n → eqb n 2 ≡ false → eqb n 3 ≡ false → eqb n 4 ≡ false → eqb n 12 ≡ false → QuietAnswer a
quiet_kind a n e x y z w = record {
  goes_on = ends;
  sends_none = ap (λ (m : ℕ). eqb m 3) e ∙ y;
  lands_none = ap (λ (m : ℕ). eqb m 4) e ∙ z;
}
  where
    ends : ends_run a ≡ false
    ends = unfold ends_run is_cut_of finished in or_neither (eqb (kind a) 2) (eqb (kind a) 12) (ap (λ (m : ℕ). eqb m 2) e ∙ x) (ap (λ (m : ℕ). eqb m 12) e ∙ w)

pub quiet_refused : (a : Answer) → is_refused a ≡ true → QuietAnswer a
quiet_refused a q = quiet_kind a (kind a) refl (not_it 2 (omega arith)) (not_it 3 (omega arith)) (not_it 4 (omega arith)) (not_it 12 (omega arith))
  where
    low : leb (kind a) 1 ≡ true
    low = unfold is_refused in q

    not_it : (n : ℕ) → 2 ≤ n → eqb (kind a) n ≡ false
    not_it n h = let x = leb-true (kind a) 1 low in ne_eqb (kind a) n (λ e. let bad : ⊥ = omega arith in bad)

-- ---- nothing changed

-- the same drives, memory and writes, told otherwise
pub flown_as : (p : Params) (off : List ℕ) (k : Disk) (m : Memory) (ws ws' : List Pending) (old : List Segment) (x : Disk) (y : Memory) → x ≡ k → y ≡ m → ws ≡ ws'
    → Flown p off k m ws' old → Flown p off x y ws old
flown_as p off k m ws ws' old x y ex ey ew f =
    subst (λ (a : Disk). Flown p off a y ws old) (sym ex) (subst (λ (a : Memory). Flown p off k a ws old) (sym ey) (subst (λ (a : List Pending). Flown p off k m a old) (sym ew) f))

pub flown_still : (p : Params) (off : List ℕ) (k : Disk) (m : Memory) (ws : List Pending) (old : List Segment) → Flown p off k m ws old → (c : Call) (r : After Disk)
    → r.drives ≡ k → r.memory ≡ m → QuietAnswer r.answer → Flown p off r.drives r.memory (pending_after c r.answer ws) old
flown_still p off k m ws old f c r e g q = flown_as p off k m (pending_after c r.answer ws) ws old r.drives r.memory e g (pending_quiet c r.answer ws q) f

-- a call as it ends: what is left once all is done, else nothing changed
pub flown-ended : (p : Params) (off : List ℕ) (k : Disk) (m : Memory) (ws : List Pending) (old : List Segment) → Flown p off k m ws old → (c : Call) (cs : List Check) (q : Plan) (r : After Disk)
    → (first_refusal cs ≡ none → Flown p off (store_all (store_disk p) q.stores k) q.memory (pending_after c q.answer ws) old)
    → is_cut_of r.answer ≡ false → EndedAs p k m cs q r → Flown p off r.drives r.memory (pending_after c r.answer ws) old
flown-ended p off k m ws old f c cs q r done nc (ended-refused a e x y z) =
    flown_still p off k m ws old f c r y z (subst (λ (b : Answer). QuietAnswer b) (sym x) (quiet_refused a (refusal_kind cs a e)))
flown-ended p off k m ws old f c cs q r done nc (ended_done h x y z) =
    flown_as p off _ _ _ _ old r.drives r.memory y z (ap (λ (b : Answer). pending_after c b ws) x) (done h)
flown-ended p off k m ws old f c cs q r done nc (ended-cut h x) = clash (ap is_cut_of x ∙ cut-cut) nc

-- ---- the reads

module _ (p : Params) (off : List ℕ) (k : Disk) (m : Memory) (u : Run p off k m) (ws : List Pending) (old : List Segment) (f : Flown p off k m ws old) where
  abbrev looked : ℕ → Lookup
  looked a = lookup p (seen p off k) m.state.missing m.compact m.addresses a

  -- no store, and memory as it was
  pub idle-flown : (c : Call) (a : Answer) → QuietAnswer a → Flown p off (store_all (store_disk p) [] k) m (pending_after c a ws) old
  unfolding store_all
  idle-flown c a q = flown_as p off k m (pending_after c a ws) ws old k m refl refl (pending_quiet c a ws q) f

  quiet_read : (t : ℕ) (x : Found) → QuietAnswer (read_answer_of p t x)
  unfolding read_answer_of kind
  quiet_read t nowhere = quiet_kind (read_answer_of p t nowhere) 9 refl refl refl refl refl
  quiet_read t (here q) = quiet_kind (read_answer_of p t (here q)) 8 refl refl refl refl refl
  quiet_read t (away q) = quiet_kind (read_answer_of p t (away q)) 10 refl refl refl refl refl

  quiet_filled : (t : ℕ) → QuietAnswer (Filled (a_stamp t))
  unfolding kind
  quiet_filled t = quiet_kind (Filled (a_stamp t)) 11 refl refl refl refl refl

  pub flown_read : (a : ℕ) → is_cut_of (call_disk p off k m (read a)).answer ≡ false
      → Flown p off (call_disk p off k m (read a)).drives (call_disk p off k m (read a)).memory (pending_after (read a) (call_disk p off k m (read a)).answer ws) old
  unfolding call_disk call_on verdict store_count lent_block read_verdict read_plan
  flown_read a nc =
      let l = looked a in
      let cs = read_checks p (lent_ok_of p off k m) (seen p off k) m a in
      flown-ended p off k m ws old f (read a) cs (read_plan p (seen p off k) m a) _ (λ h. idle-flown (read a) (read_answer_of p l.stamp l.found) (quiet_read l.stamp l.found)) nc
      (outcome_ends p k m cs (read_plan p (seen p off k) m a) 0 [])

  pub flown_fill : (a : ℕ) (b : List ℕ) → is_cut_of (call_disk p off k m (fill a b)).answer ≡ false
      → Flown p off (call_disk p off k m (fill a b)).drives (call_disk p off k m (fill a b)).memory (pending_after (fill a b) (call_disk p off k m (fill a b)).answer ws) old
  unfolding call_disk call_on verdict store_count lent_block fill_verdict fill_plan
  flown_fill a b nc =
      let cs = read_checks p (lent_ok_of p off k m && eqb (length b) p.B) (seen p off k) m a in
      flown-ended p off k m ws old f (fill a b) cs (fill_plan p (seen p off k) m a) _ (λ h. idle-flown (fill a b) (Filled (a_stamp (looked a).stamp)) (quiet_filled (looked a).stamp)) nc
      (outcome_ends p k m cs (fill_plan p (seen p off k) m a) 0 b)
