-- Calls that are lent a buffer of another length, and refusals that change nothing, call by call (01, Refusals, 1 and 2; Store count). Assumes nothing.
use Rattle.std.specs.Prelude.{◌≡◌, Bool, true, cond, not, ◌&&◌, ◌||◌, ℕ, length}
use Rattle.std.proofs.Math.Path.{refl}
use Rattle.std.proofs.Common.{ap, ◌∙◌}
use mathlib.Core.List.{List, [], ◌∷◌}
use Rattle.std.proofs.Math.Bool.{false}
use Rattle.std.proofs.Math.Dec.{eqb}
use Rattle.std.proofs.Math.ListN.{drop}
use Rattle.spec.specs.declared.Params.{Params}
use Rattle.spec.specs.declared.Answer.{Answer}
use Rattle.spec.specs.declared.Answer.TheVariants.{Refused, Rebuilt, Nothing}
use Rattle.spec.specs.Answers.{kind, is_refused}
use Rattle.spec.specs.Calls.{Check, first_refusal, Plan, mk_plan, mk_after}
use Rattle.spec.specs.Calls.Check.{rule}
use Rattle.spec.specs.Closing.{close_checks, close_plan, close_verdict, empty_checks, empty_plan, empty_verdict}
use Rattle.spec.specs.Drives.{View, Disk, store_disk}
use Rattle.spec.specs.Engine.Call.{write, land, close, reclaim, read, fill, restart, rebuild}
use Rattle.spec.specs.Engine.{store_count, lent_block, verdict, lent_ok_of, call_on, call_disk}
use Rattle.spec.specs.Landing.{land_checks, land_plan, land_verdict}
use Rattle.spec.specs.Lists.{Opt, is_nil, first_or}
use Rattle.spec.specs.Lists.Opt.{some}
use Rattle.spec.specs.Memory.{Memory, has_filling}
use Rattle.spec.specs.Params.{in_range, named}
use Rattle.spec.specs.Read.{Found, lookup, read_answer_of, read_checks, read_plan, read_verdict, fill_plan, fill_verdict}
use Rattle.spec.specs.Read.Found.{nowhere, here, away}
use Rattle.spec.specs.Rebuild.{names_missing, rebuild_checks, rebuild_stores, rebuild_verdict}
use Rattle.spec.specs.Reclaim.{Victim, victim, victim_segment, victim_live, idle, reclaim_checks, reclaim_checks_in, reset_plan, copy_plan, reclaim_verdict_in}
use Rattle.spec.specs.Restart.{names_drive, restart_checks, restart_plan, restart_verdict}
use Rattle.spec.specs.Segments.{Segment, segments}
use Rattle.spec.specs.Write.{write_checks, write_checks_in, write_plan, write_verdict_in}
use Rattle.law_calls.specs.Refusals.{rule_fails, rule_passes, call_refused}
use Rattle.law_views.specs.Views.{seen}
use Rattle.law_lent.specs.Hosts.{refused_keeps}

-- 01, Refusals: 1, where a number is not good, and then 2
abbrev pub short_answer : Bool → Answer
short_answer good = Refused (cond good 2 1)

pub short_refused : (good : Bool) → is_refused (short_answer good) ≡ true
unfolding is_refused kind
short_refused good = refl

-- checks that begin with the numbers and a length that is wrong
short_rules : (good : Bool) (cs : List Check) → first_refusal (rule 1 (not good) ∷ rule 2 true ∷ cs) ≡ some (short_answer good)
short_rules true cs = rule_passes 1 false (rule 2 true ∷ cs) refl ∙ rule_fails 2 true cs refl
short_rules false cs = rule_fails 1 true (rule 2 true ∷ cs) refl

not_and : (a b : Bool) → (not a || not b) ≡ not (a && b)
not_and true b = refl
not_and false b = refl

-- what is due answers with no refusal
read_answer : (p : Params) (t : ℕ) (f : Found) → is_refused (read_answer_of p t f) ≡ false
unfolding is_refused kind read_answer_of
read_answer p t nowhere = refl
read_answer p t (here q) = refl
read_answer p t (away q) = refl

either_answer : (t : Bool) (a b : Plan) → is_refused a.answer ≡ false → is_refused b.answer ≡ false → is_refused (cond t a b).answer ≡ false
either_answer true a b f g = f
either_answer false a b f g = g

module _ (p : Params) (off : List ℕ) (k : Disk) (m : Memory) where
  abbrev v : View
  v = seen p off k

  -- ---- write

  pub write_short : (a : ℕ) (b : List ℕ) (n : ℕ) → call_on p off false k m (write a b n) ≡ mk_after (short_answer (in_range p)) k m b
  unfolding call_on store_count lent_block verdict write_verdict_in write_checks_in empty_verdict empty_checks
  write_short a [] n =
      call_refused p (store_disk p) n k m [] (first_refusal (empty_checks p false v m a)) (empty_plan p m) (short_answer (in_range p))
      (short_rules (in_range p) (drop 2 (empty_checks p false v m a)))
  write_short a (x ∷ b) n =
      call_refused p (store_disk p) n k m (x ∷ b) (first_refusal (write_checks p false v m a (x ∷ b))) (write_plan p v m a (x ∷ b)) (short_answer (in_range p))
      (short_rules (in_range p) (drop 2 (write_checks p false v m a (x ∷ b))))

  pub write_keeps : (a : ℕ) (b : List ℕ) (n : ℕ) → is_refused (call_disk p off k m (write a b n)).answer ≡ true
      → call_disk p off k m (write a b n) ≡ mk_after (call_disk p off k m (write a b n)).answer k m b
  unfolding call_disk call_on store_count lent_block verdict write_verdict_in write_plan empty_verdict empty_plan close_plan is_refused kind
  write_keeps a [] n =
      refused_keeps p (store_disk p) n k m [] (first_refusal (empty_checks p (lent_ok_of p off k m) v m a)) (empty_plan p m)
      (either_answer (has_filling p m.state) (close_plan p m) (mk_plan [] Nothing m []) refl refl)
  write_keeps a (x ∷ b) n = refused_keeps p (store_disk p) n k m (x ∷ b) (first_refusal (write_checks p (lent_ok_of p off k m) v m a (x ∷ b))) (write_plan p v m a (x ∷ b)) refl

  -- ---- landing

  pub land_short : (d s n : ℕ) → call_on p off false k m (land d s n) ≡ mk_after (short_answer (in_range p)) k m []
  unfolding call_on store_count lent_block verdict land_verdict land_checks
  land_short d s n =
      call_refused p (store_disk p) n k m [] (first_refusal (land_checks p false v m d s)) (land_plan p v m d s) (short_answer (in_range p))
      (short_rules (in_range p) (drop 2 (land_checks p false v m d s)))

  pub land_keeps : (d s n : ℕ) → is_refused (call_disk p off k m (land d s n)).answer ≡ true → call_disk p off k m (land d s n) ≡ mk_after (call_disk p off k m (land d s n)).answer k m []
  unfolding call_disk call_on store_count lent_block verdict land_verdict land_plan is_refused kind
  land_keeps d s n = refused_keeps p (store_disk p) n k m [] (first_refusal (land_checks p (lent_ok_of p off k m) v m d s)) (land_plan p v m d s) refl

  -- ---- closing

  pub close_short : (n : ℕ) → call_on p off false k m (close n) ≡ mk_after (short_answer (in_range p)) k m []
  unfolding call_on store_count lent_block verdict close_verdict close_checks
  close_short n =
      call_refused p (store_disk p) n k m [] (first_refusal (close_checks p false v m)) (close_plan p m) (short_answer (in_range p))
      (short_rules (in_range p) (drop 2 (close_checks p false v m)))

  pub close_keeps : (n : ℕ) → is_refused (call_disk p off k m (close n)).answer ≡ true → call_disk p off k m (close n) ≡ mk_after (call_disk p off k m (close n)).answer k m []
  unfolding call_disk call_on store_count lent_block verdict close_verdict close_plan is_refused kind
  close_keeps n = refused_keeps p (store_disk p) n k m [] (first_refusal (close_checks p (lent_ok_of p off k m) v m)) (close_plan p m) refl

  -- ---- reclaim

  abbrev w : Opt Victim
  w = victim p v m.addresses

  abbrev due_plan : Plan
  due_plan = cond (is_nil (victim_live w)) (reset_plan p m (victim_segment w)) (copy_plan p v m (first_or 0 (idle p v m.state w)))

  pub reclaim_short : (n : ℕ) → call_on p off false k m (reclaim n) ≡ mk_after (short_answer (in_range p)) k m []
  unfolding call_on store_count lent_block verdict reclaim_verdict_in reclaim_checks_in
  reclaim_short n =
      call_refused p (store_disk p) n k m [] (first_refusal (reclaim_checks p false v m w)) due_plan (short_answer (in_range p))
      (short_rules (in_range p) (drop 2 (reclaim_checks p false v m w)))

  due_answer : is_refused due_plan.answer ≡ false
  unfolding reset_plan copy_plan is_refused kind
  due_answer = either_answer (is_nil (victim_live w)) (reset_plan p m (victim_segment w)) (copy_plan p v m (first_or 0 (idle p v m.state w))) refl refl

  pub reclaim_keeps : (n : ℕ) → is_refused (call_disk p off k m (reclaim n)).answer ≡ true → call_disk p off k m (reclaim n) ≡ mk_after (call_disk p off k m (reclaim n)).answer k m []
  unfolding call_disk call_on store_count lent_block verdict reclaim_verdict_in
  reclaim_keeps n = refused_keeps p (store_disk p) n k m [] (first_refusal (reclaim_checks p (lent_ok_of p off k m) v m w)) due_plan due_answer

  -- ---- the two reads

  pub read_short : (a : ℕ) → call_on p off false k m (read a) ≡ mk_after (short_answer (in_range p)) k m []
  unfolding call_on store_count lent_block verdict read_verdict read_checks
  read_short a =
      call_refused p (store_disk p) 0 k m [] (first_refusal (read_checks p false v m a)) (read_plan p v m a) (short_answer (in_range p))
      (short_rules (in_range p) (drop 2 (read_checks p false v m a)))

  pub read_keeps : (a : ℕ) → is_refused (call_disk p off k m (read a)).answer ≡ true → call_disk p off k m (read a) ≡ mk_after (call_disk p off k m (read a)).answer k m []
  unfolding call_disk call_on store_count lent_block verdict read_verdict read_plan
  read_keeps a =
      let l = lookup p v m.state.missing m.compact m.addresses a in
      refused_keeps p (store_disk p) 0 k m [] (first_refusal (read_checks p (lent_ok_of p off k m) v m a)) (read_plan p v m a) (read_answer p l.stamp l.found)

  pub fill_short : (a : ℕ) (b : List ℕ) → call_on p off false k m (fill a b) ≡ mk_after (short_answer (in_range p)) k m b
  unfolding call_on store_count lent_block verdict fill_verdict read_checks
  fill_short a b =
      call_refused p (store_disk p) 0 k m b (first_refusal (read_checks p (false && eqb (length b) p.B) v m a)) (fill_plan p v m a) (short_answer (in_range p))
      (short_rules (in_range p) (drop 2 (read_checks p false v m a)))

  pub fill_keeps : (a : ℕ) (b : List ℕ) → is_refused (call_disk p off k m (fill a b)).answer ≡ true
      → call_disk p off k m (fill a b) ≡ mk_after (call_disk p off k m (fill a b)).answer k m b
  unfolding call_disk call_on store_count lent_block verdict fill_verdict fill_plan is_refused kind
  fill_keeps a b = refused_keeps p (store_disk p) 0 k m b (first_refusal (read_checks p (lent_ok_of p off k m && eqb (length b) p.B) v m a)) (fill_plan p v m a) refl

  -- ---- restart and rebuild: 1 has more conditions

  abbrev gs : ℕ → List Segment
  gs d = segments p v (named d)

  pub restart_short : (d n : ℕ) → call_on p off false k m (restart d n) ≡ mk_after (short_answer (in_range p && names_drive p d)) k m []
  unfolding call_on store_count lent_block verdict restart_verdict restart_checks
  restart_short d n =
      call_refused p (store_disk p) n k m [] (first_refusal (restart_checks p false v d (gs d))) (restart_plan p v d (gs d) m.inflight) (short_answer (in_range p && names_drive p d))
      (ap (λ (x : Bool). first_refusal (rule 1 x ∷ drop 1 (restart_checks p false v d (gs d)))) (not_and (in_range p) (names_drive p d))
      ∙ short_rules (in_range p && names_drive p d) (drop 2 (restart_checks p false v d (gs d))))

  pub restart_keeps : (d n : ℕ) → is_refused (call_disk p off k m (restart d n)).answer ≡ true
      → call_disk p off k m (restart d n) ≡ mk_after (call_disk p off k m (restart d n)).answer k m []
  unfolding call_disk call_on store_count lent_block verdict restart_verdict restart_plan is_refused kind
  restart_keeps d n =
      refused_keeps p (store_disk p) n k m [] (first_refusal (restart_checks p (lent_ok_of p off k m) v d (gs d))) (restart_plan p v d (gs d) m.inflight) refl

  abbrev rebuild_plan : ℕ → Plan
  rebuild_plan d = mk_plan (rebuild_stores p v d (gs d)) Rebuilt m []

  pub rebuild_short : (d n : ℕ) → call_on p off false k m (rebuild d n) ≡ mk_after (short_answer (in_range p && names_missing p m.state d)) k m []
  unfolding call_on store_count lent_block verdict rebuild_verdict rebuild_checks
  rebuild_short d n =
      call_refused p (store_disk p) n k m [] (first_refusal (rebuild_checks p false v m d (gs d))) (rebuild_plan d) (short_answer (in_range p && names_missing p m.state d))
      (ap (λ (x : Bool). first_refusal (rule 1 x ∷ drop 1 (rebuild_checks p false v m d (gs d)))) (not_and (in_range p) (names_missing p m.state d))
      ∙ short_rules (in_range p && names_missing p m.state d) (drop 2 (rebuild_checks p false v m d (gs d))))

  pub rebuild_keeps : (d n : ℕ) → is_refused (call_disk p off k m (rebuild d n)).answer ≡ true
      → call_disk p off k m (rebuild d n) ≡ mk_after (call_disk p off k m (rebuild d n)).answer k m []
  unfolding call_disk call_on store_count lent_block verdict rebuild_verdict is_refused kind
  rebuild_keeps d n = refused_keeps p (store_disk p) n k m [] (first_refusal (rebuild_checks p (lent_ok_of p off k m) v m d (gs d))) (rebuild_plan d) refl
