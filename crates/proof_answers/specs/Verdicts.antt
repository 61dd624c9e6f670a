-- What each call's verdict says: a refusal of the call's numbers, or a plan with the call's result; the store count is no part of it. Assumes nothing.
use Rattle.std.specs.Prelude.{◌≡◌, Bool, cond, ◌&&◌, ◌⊎◌, ℕ, ◌≤◌, leb, length}
use Rattle.std.proofs.Math.Path.{refl}
use Rattle.std.proofs.Common.{subst, inl, inr, ne_eqb, leb-true, arith}
use mathlib.Core.List.{List, [], ◌∷◌}
use Rattle.std.proofs.Math.Bool.{true, false}
use Rattle.std.proofs.lemmas.Bool.{lt-leb}
use Rattle.std.proofs.Math.Dec.{eqb}
use Rattle.spec.specs.declared.Params.{Params}
use Rattle.spec.specs.declared.Answer.{Answer}
use Rattle.spec.specs.declared.Answer.TheVariants.{Refused, BadZone, Rebuilt, Nothing}
use Rattle.spec.specs.Answers.{kind, values, is_refused, is_cut_of}
use Rattle.spec.specs.Calls.{Check, ninth, ruled, first_refusal, Plan, mk_plan, Verdict, decided, outcome}
use Rattle.spec.specs.Calls.Check.{rule, zones}
use Rattle.spec.specs.Calls.Verdict.{refused, due}
use Rattle.spec.specs.Closing.{close_checks, close_plan, close_verdict, empty_checks, empty_plan, empty_verdict}
use Rattle.spec.specs.Drives.{View, Disk, store_disk}
use Rattle.spec.specs.Engine.{Call, store_count, lent_block, verdict, call_on}
use Rattle.spec.specs.Engine.Call.{write, land, close, reclaim, read, fill, restart, rebuild}
use Rattle.spec.specs.Faults.{image_checks}
use Rattle.spec.specs.Landing.{land_checks, land_plan, land_verdict}
use Rattle.spec.specs.Lists.{all, any, is_member_of, is_nil, first_or, least}
use Rattle.spec.specs.Lists.Opt.{some}
use Rattle.spec.specs.Memory.{Memory, has_filling}
use Rattle.spec.specs.Params.{named}
use Rattle.spec.specs.Read.{Found, lookup, read_answer_of, read_checks, read_verdict, fill_verdict, read_plan, fill_plan}
use Rattle.spec.specs.Read.Found.{nowhere, here, away}
use Rattle.spec.specs.Rebuild.{rebuild_checks, rebuild_stores, rebuild_verdict}
use Rattle.spec.specs.Reclaim.{victim, victim_segment, victim_live, idle, reclaim_checks, reclaim_checks_in, reset_plan, copy_plan, reclaim_verdict, reclaim_verdict_in}
use Rattle.spec.specs.Restart.{restart_checks, restart_plan, restart_verdict}
use Rattle.spec.specs.Segments.{segments}
use Rattle.spec.specs.Write.{write_checks, write_checks_in, write_plan, write_verdict, write_verdict_in}
use Rattle.law_basic.specs.Ranges.{and_left, and_right, member_all}
use Rattle.law_basic.specs.Stores.{no_count}
use Rattle.spec_demands.specs.Answering.{refusals_of, results_of, can_store, refusal_number, with_count}
use Rattle.law_checks.specs.Checks.{Decided, decide}
use Rattle.law_checks.specs.Checks.Decided.{stops, goes}
use Rattle.law_views.specs.Views.{seen}
use Rattle.law_calls.specs.Refusals.{refusal_kind}
use Rattle.spec.specs.declared.Seg.{Seg}

-- ---- numbers of refusals

-- 01, Refusals: the numbers that a list of checks can give
unfoldable pub numbers_of : List Check → List ℕ
numbers_of [] = []
numbers_of (rule n b ∷ cs) = n ∷ numbers_of cs
numbers_of (zones zs ∷ cs) = 9 ∷ numbers_of cs

-- a test that all of them pass is passed by the number of the first refusal
pub refusal_number_lem : (f : ℕ → Bool) (cs : List Check) (a : Answer) → all f (numbers_of cs) ≡ true → first_refusal cs ≡ some a → f (refusal_number a) ≡ true
unfolding first_refusal ruled ninth numbers_of all refusal_number values
refusal_number_lem f [] a h e = absurd (let z : ◌≡◌ {A = ℕ} 0 1 = cc in let y : ⊥ = omega arith in y)
refusal_number_lem f (rule n true ∷ cs) a h e =
    let g : Refused n ≡ a = cc in
    subst (λ (x : Answer). f (refusal_number x) ≡ true) g (and_left (f n) (all f (numbers_of cs)) h)
refusal_number_lem f (rule n false ∷ cs) a h e = refusal_number_lem f cs a (and_right (f n) (all f (numbers_of cs)) h) e
refusal_number_lem f (zones [] ∷ cs) a h e = refusal_number_lem f cs a (and_right (f 9) (all f (numbers_of cs)) h) e
refusal_number_lem f (zones (z ∷ zs) ∷ cs) a h e =
    let g : BadZone (least z zs) ≡ a = cc in
    subst (λ (x : Answer). f (refusal_number x) ≡ true) g (and_left (f 9) (all f (numbers_of cs)) h)

-- ---- verdicts

-- a refusal of the call's numbers, or stores of a call that can store and the call's own result
pub data VerdictSays (c : Call) (w : Verdict) : Type 0 where
  says_no : (a : Answer) → w ≡ refused a → is_refused a ≡ true → is_member_of (refusal_number a) (refusals_of c) ≡ true → VerdictSays c w
  says_yes : (q : Plan) → w ≡ due q → is_member_of (kind q.answer) (results_of c) ≡ true → (can_store c ≡ true) ⊎ (q.stores ≡ []) → VerdictSays c w

says_decided : (c : Call) (cs : List Check) (q : Plan) → all (λ n. is_member_of n (refusals_of c)) (numbers_of cs) ≡ true
    → is_member_of (kind q.answer) (results_of c) ≡ true → (can_store c ≡ true) ⊎ (q.stores ≡ []) → VerdictSays c (decided (first_refusal cs) q)
says_decided c cs q h k s = go (decide cs q)
  where
    go : Decided cs q (decided (first_refusal cs) q) → VerdictSays c (decided (first_refusal cs) q)
    go (stops a e w) = says_no a w (refusal_kind cs a e) (refusal_number_lem (λ n. is_member_of n (refusals_of c)) cs a h e)
    go (goes i w) = says_yes q w k s

module _ (p : Params) (long : Bool) (v : View) (m : Memory) where
  none_says : (a n : ℕ) → VerdictSays (write a [] n) (empty_verdict p long v m a)
  unfolding empty_verdict empty_checks empty_plan numbers_of all any is_member_of refusals_of results_of can_store
  none_says a n = says_decided (write a [] n) (empty_checks p long v m a) (empty_plan p m) refl (answers (has_filling p m.state)) (inr (stores (has_filling p m.state)))
    where
      answers : (t : Bool) → is_member_of (kind (cond t (close_plan p m) (mk_plan [] Nothing m [])).answer) (results_of (write a [] n)) ≡ true
      answers true = unfold close_plan kind results_of is_member_of any in refl
      answers false = unfold kind results_of is_member_of any in refl

      stores : (t : Bool) → (cond t (close_plan p m) (mk_plan [] Nothing m [])).stores ≡ []
      stores true = unfold close_plan in refl
      stores false = refl

  write_says : (a x : ℕ) (b : List ℕ) (n : ℕ) → VerdictSays (write a (x ∷ b) n) (write_verdict p long v m a (x ∷ b))
  unfolding write_verdict_in write_checks_in write_plan numbers_of all any is_member_of refusals_of results_of can_store kind
  write_says a x b n = says_decided (write a (x ∷ b) n) (write_checks p long v m a (x ∷ b)) (write_plan p v m a (x ∷ b)) refl refl (inl refl)

  land_says : (d s n : ℕ) → VerdictSays (land d s n) (land_verdict p long v m d s)
  unfolding land_verdict land_checks land_plan numbers_of all any is_member_of refusals_of results_of can_store kind
  land_says d s n = says_decided (land d s n) (land_checks p long v m d s) (land_plan p v m d s) refl refl (inl refl)

  close_says : (n : ℕ) → VerdictSays (close n) (close_verdict p long v m)
  unfolding close_verdict close_checks close_plan numbers_of all any is_member_of refusals_of results_of can_store kind
  close_says n = says_decided (close n) (close_checks p long v m) (close_plan p m) refl refl (inr refl)

  reclaim_says : (n : ℕ) → VerdictSays (reclaim n) (reclaim_verdict p long v m)
  unfolding reclaim_verdict_in reclaim_checks_in numbers_of all any is_member_of refusals_of results_of can_store
  reclaim_says n =
      let w = victim p v m.addresses in
      let a = reset_plan p m (victim_segment w) in
      let b = copy_plan p v m (first_or 0 (idle p v m.state w)) in
      says_decided (reclaim n) (reclaim_checks p long v m w) (cond (is_nil (victim_live w)) a b) refl
      (either (is_nil (victim_live w)) (victim_segment w) (first_or 0 (idle p v m.state w))) (inl refl)
    where
      either : (t : Bool) (g : Seg) (q : ℕ) → is_member_of (kind (cond t (reset_plan p m g) (copy_plan p v m q)).answer) (results_of (reclaim n)) ≡ true
      either true g q = unfold reset_plan kind results_of is_member_of any in refl
      either false g q = unfold copy_plan kind results_of is_member_of any in refl

  read_says : (a : ℕ) → VerdictSays (read a) (read_verdict p long v m a)
  unfolding read_verdict read_checks read_plan numbers_of all any is_member_of refusals_of results_of can_store
  read_says a =
      let l = lookup p v m.state.missing m.compact m.addresses a in
      says_decided (read a) (read_checks p long v m a) (read_plan p v m a) refl (found l.stamp l.found) (inr refl)
    where
      found : (t : ℕ) (f : Found) → is_member_of (kind (read_answer_of p t f)) (results_of (read a)) ≡ true
      found t nowhere = unfold read_answer_of kind results_of is_member_of any in refl
      found t (here q) = unfold read_answer_of kind results_of is_member_of any in refl
      found t (away q) = unfold read_answer_of kind results_of is_member_of any in refl

  fill_says : (a : ℕ) (b : List ℕ) → VerdictSays (fill a b) (fill_verdict p long v m a b)
  unfolding fill_verdict read_checks fill_plan numbers_of all any is_member_of refusals_of results_of can_store kind
  fill_says a b = says_decided (fill a b) (read_checks p (long && eqb (length b) p.B) v m a) (fill_plan p v m a) refl refl (inr refl)

  restart_says : (d n : ℕ) → VerdictSays (restart d n) (restart_verdict p long v m d)
  unfolding restart_verdict restart_checks image_checks restart_plan numbers_of all any is_member_of refusals_of results_of can_store kind
  restart_says d n =
      let gs = segments p v (named d) in
      says_decided (restart d n) (restart_checks p long v d gs) (restart_plan p v d gs m.inflight) refl refl (inl refl)

  rebuild_says : (d n : ℕ) → VerdictSays (rebuild d n) (rebuild_verdict p long v m d)
  unfolding rebuild_verdict rebuild_checks image_checks numbers_of all any is_member_of refusals_of results_of can_store kind
  rebuild_says d n =
      let gs = segments p v (named d) in
      says_decided (rebuild d n) (rebuild_checks p long v m d gs) (mk_plan (rebuild_stores p v d gs) Rebuilt m []) refl refl (inl refl)

  pub verdict_says : (c : Call) → VerdictSays c (verdict p long v m c)
  unfolding verdict
  verdict_says (write a [] n) = none_says a n
  verdict_says (write a (x ∷ b) n) = write_says a x b n
  verdict_says (land d s n) = land_says d s n
  verdict_says (close n) = close_says n
  verdict_says (reclaim n) = reclaim_says n
  verdict_says (read a) = read_says a
  verdict_says (fill a b) = fill_says a b
  verdict_says (restart d n) = restart_says d n
  verdict_says (rebuild d n) = rebuild_says d n

-- ---- the store count chooses only how many stores are made

pub counted_on : (p : Params) (off : List ℕ) (long : Bool) (k : Disk) (m : Memory) (c : Call) (n : ℕ)
    → call_on p off long k m (with_count n c) ≡ outcome p (store_disk p) n k m (lent_block c) (verdict p long (seen p off k) m c)
unfolding call_on store_count lent_block verdict with_count
counted_on p off long k m (write a [] i) n = refl
counted_on p off long k m (write a (x ∷ b) i) n = refl
counted_on p off long k m (land d s i) n = refl
counted_on p off long k m (close i) n = refl
counted_on p off long k m (reclaim i) n = refl
counted_on p off long k m (read a) n = plain
  where
    plain : outcome p (store_disk p) 0 k m [] (read_verdict p long (seen p off k) m a) ≡ outcome p (store_disk p) n k m [] (read_verdict p long (seen p off k) m a)
    plain = unfold read_verdict read_plan in no_count p (store_disk p) 0 n k m [] (first_refusal (read_checks p long (seen p off k) m a)) (read_plan p (seen p off k) m a) refl
counted_on p off long k m (fill a b) n = plain
  where
    plain : outcome p (store_disk p) 0 k m b (fill_verdict p long (seen p off k) m a b) ≡ outcome p (store_disk p) n k m b (fill_verdict p long (seen p off k) m a b)
    plain = unfold fill_verdict fill_plan in no_count p (store_disk p) 0 n k m b (first_refusal (read_checks p (long && eqb (length b) p.B) (seen p off k) m a)) (fill_plan p (seen p off k) m a) refl
counted_on p off long k m (restart d i) n = refl
counted_on p off long k m (rebuild d i) n = refl

-- the call as it came
pub own_count : (c : Call) → with_count (store_count c) c ≡ c
unfolding store_count with_count
own_count (write a b n) = refl
own_count (land d s n) = refl
own_count (close n) = refl
own_count (reclaim n) = refl
own_count (read a) = refl
own_count (fill a b) = refl
own_count (restart d n) = refl
own_count (rebuild d n) = refl

-- ---- results

-- 01, The calls: a call's own result is neither a refusal nor a cut
results_high : (c : Call) → all (λ n. leb 3 n) (results_of c) ≡ true
unfolding results_of all
results_high (write a [] n) = refl
results_high (write a (x ∷ b) n) = refl
results_high (land d s n) = refl
results_high (close n) = refl
results_high (reclaim n) = refl
results_high (read a) = refl
results_high (fill a b) = refl
results_high (restart d n) = refl
results_high (rebuild d n) = refl

pub result_high : (c : Call) (a : Answer) → is_member_of (kind a) (results_of c) ≡ true → (is_refused a ≡ false) × (is_cut_of a ≡ false)
unfolding is_refused is_cut_of
result_high c a h =
    let g : 3 ≤ kind a = leb-true 3 (kind a) (member_all (λ n. leb 3 n) (kind a) (results_of c) h (results_high c)) in
    (lt-leb (kind a) 1 (omega arith), ne_eqb (kind a) 2 (λ e. let x : ⊥ = omega arith in x))
