-- 8 before 7 on the lent bytes (02, item 3): the two orders of the checks refuse alike but where both rules hold and none before them. Assumes nothing.
use Rattle.std.specs.Prelude.{◌≡◌, Bool, true, false, ◌&&◌, ℕ}
use Rattle.std.proofs.Math.Path.{refl, sym, ap}
use Rattle.std.proofs.Common.{◌∙◌}
use mathlib.Core.List.{List, [], ◌∷◌, ◌++◌}
use Rattle.spec.specs.declared.Params.{Params}
use Rattle.spec.specs.declared.Answer.{Answer}
use Rattle.spec.specs.declared.Answer.TheVariants.{Refused}
use Rattle.spec.specs.Answers.{kind, is_refused}
use Rattle.spec.specs.Calls.{Check, ruled, first_refusal, Plan, Verdict, decided, outcome}
use Rattle.spec.specs.Calls.Verdict.{refused}
use Rattle.spec.specs.Drives.{View}
use Rattle.spec.specs.Engine.{Call, verdict, carry_out, call_on, Lent, Left, lent_disk, lent_memory, left_by, lent_long, left_as, call_bytes}
use Rattle.spec.specs.Engine.Call.{write, land, close, reclaim, read, fill, restart, rebuild}
use Rattle.spec.specs.Lists.{Opt}
use Rattle.spec.specs.Lists.Opt.{none, some}
use Rattle.spec.specs.Memory.{Memory}
use Rattle.spec.specs.Reclaim.{victim, copy_waits, copy_full, reclaim_before, reclaim_checks_in, reclaim_verdict_in}
use Rattle.spec.specs.Write.{must_wait, CheckOrder, room_rules, write_full, write_before, write_checks_in, write_verdict_in}
use Rattle.spec.specs.Write.CheckOrder.{full_first, wait_first}
use Rattle.law_calls.specs.Refusals.{or_next, refusal_append}
use Rattle.law_drives.specs.Tests.{clash}
use Rattle.spec_demands.specs.Engines.{on_bytes, view_in}
use Rattle.spec_demands.specs.FullFirst.{verdict_in, call_in, unrefused, both_hold, crowded, refused_as_of, Reordered, FullBeforeWaiting}

-- ---- lists of checks

module _ (cs : List Check) (wait full : Bool) where
  -- what checks with 7 and 8 in order o refuse, where r is what those before refuse and cs stand behind
  abbrev refused_in : CheckOrder → Opt Answer → Opt Answer
  refused_in o r = or_next (or_next r (first_refusal (room_rules o wait full))) (first_refusal cs)

  list_refuses : (before : List Check) (o : CheckOrder) → first_refusal (before ++ room_rules o wait full ++ cs) ≡ refused_in o (first_refusal before)
  list_refuses before o =
      refusal_append (before ++ room_rules o wait full) cs ∙ ap (λ (r : Opt Answer). or_next r (first_refusal cs)) (refusal_append before (room_rules o wait full))

one_alike : (cs : List Check) (wait full : Bool) (r : Opt Answer) → (unrefused r && wait && full) ≡ false
    → refused_in cs wait full full_first r ≡ refused_in cs wait full wait_first r
unfolding unrefused first_refusal ruled
one_alike cs wait full (some a) h = refl
one_alike cs false full none h = refl
one_alike cs true false none h = refl
one_alike cs true true none h = clash refl h

both_refuse : (cs : List Check) (wait full : Bool) (r : Opt Answer) → (unrefused r && wait && full) ≡ true
    → (refused_in cs wait full wait_first r ≡ some (Refused 7)) × (refused_in cs wait full full_first r ≡ some (Refused 8))
unfolding unrefused first_refusal ruled
both_refuse cs wait full (some a) h = clash h refl
both_refuse cs false full none h = clash h refl
both_refuse cs true false none h = clash h refl
both_refuse cs true true none h = (refl, refl)

-- ---- verdicts

-- what is decided in order o, with plan q
module _ (before cs : List Check) (wait full : Bool) (q : Plan) where
  abbrev decided_in : CheckOrder → Verdict
  decided_in o = decided (first_refusal (before ++ room_rules o wait full ++ cs)) q

  decided_alike : both_hold before wait full ≡ false → decided_in full_first ≡ decided_in wait_first
  unfolding both_hold
  decided_alike h =
      let e = list_refuses cs wait full before in
      ap (λ (r : Opt Answer). decided r q) (e full_first ∙ one_alike cs wait full (first_refusal before) h ∙ sym (e wait_first))

  decided_both : both_hold before wait full ≡ true → (decided_in wait_first ≡ refused (Refused 7)) × (decided_in full_first ≡ refused (Refused 8))
  unfolding both_hold decided
  decided_both h =
      let e = list_refuses cs wait full before in
      let r = both_refuse cs wait full (first_refusal before) h in
      (ap (λ (r : Opt Answer). decided r q) (e wait_first ∙ r.0), ap (λ (r : Opt Answer). decided r q) (e full_first ∙ r.1))

module _ (p : Params) (l : Lent) where
  abbrev memory : Memory
  memory = lent_memory l

  abbrev view : View
  view = view_in on_bytes p l

  abbrev decides : CheckOrder → Call → Verdict
  decides o c = verdict_in o p (lent_long p l) view memory c

  verdict_alike : (c : Call) → crowded p l c ≡ false → decides full_first c ≡ decides wait_first c
  unfolding crowded verdict_in write_verdict_in write_checks_in reclaim_verdict_in reclaim_checks_in
  verdict_alike (write a [] n) h = refl
  verdict_alike (write a (x ∷ b) n) h = decided_alike (write_before p (lent_long p l) view memory a (x ∷ b)) _ (must_wait p memory.state) (write_full p view memory.state) _ h
  verdict_alike (land d s n) h = refl
  verdict_alike (close n) h = refl
  verdict_alike (reclaim n) h =
      let w = victim p view memory.addresses in
      decided_alike (reclaim_before p (lent_long p l) view memory w) _ (copy_waits p memory.state w) (copy_full p view memory.state w) _ h
  verdict_alike (read a) h = refl
  verdict_alike (fill a b) h = refl
  verdict_alike (restart d n) h = refl
  verdict_alike (rebuild d n) h = refl

  verdict_both : (c : Call) → crowded p l c ≡ true → (decides wait_first c ≡ refused (Refused 7)) × (decides full_first c ≡ refused (Refused 8))
  unfolding crowded verdict_in write_verdict_in write_checks_in reclaim_verdict_in reclaim_checks_in
  verdict_both (write a [] n) h = clash h refl
  verdict_both (write a (x ∷ b) n) h = decided_both (write_before p (lent_long p l) view memory a (x ∷ b)) _ (must_wait p memory.state) (write_full p view memory.state) _ h
  verdict_both (land d s n) h = clash h refl
  verdict_both (close n) h = clash h refl
  verdict_both (reclaim n) h =
      let w = victim p view memory.addresses in
      decided_both (reclaim_before p (lent_long p l) view memory w) _ (copy_waits p memory.state w) (copy_full p view memory.state w) _ h
  verdict_both (read a) h = clash h refl
  verdict_both (fill a b) h = clash h refl
  verdict_both (restart d n) h = clash h refl
  verdict_both (rebuild d n) h = clash h refl

  -- ---- calls

  -- the engine has 8 first
  is_first : (c : Call) → verdict p (lent_long p l) view memory c ≡ decides full_first c
  unfolding verdict verdict_in
  is_first (write a [] n) = refl
  is_first (write a (x ∷ b) n) = refl
  is_first (land d s n) = refl
  is_first (close n) = refl
  is_first (reclaim n) = refl
  is_first (read a) = refl
  is_first (fill a b) = refl
  is_first (restart d n) = refl
  is_first (rebuild d n) = refl

  module _ (c : Call) where
    -- what a verdict leaves
    abbrev left_of : Verdict → Left
    left_of x = left_as l (carry_out p (lent_disk l) memory c x)

    call_first : call_bytes p l c ≡ call_in full_first p l c
    unfolding call_bytes call_on call_in view_in lent_disk
    call_first = ap left_of (is_first c)

    left_refused_as : (n : ℕ) (o : CheckOrder) → decides o c ≡ refused (Refused n) → call_in o p l c ≡ refused_as_of n l c
    unfolding call_in refused_as_of outcome left_by is_refused kind
    left_refused_as n o e = ap left_of e

    call_alike : crowded p l c ≡ false → call_in full_first p l c ≡ call_in wait_first p l c
    unfolding call_in
    call_alike h = ap left_of (verdict_alike c h)

    reordered : Reordered p l c
    reordered = record {
      is_new_holds = call_first;
      same = λ h. call_first ∙ call_alike h;
      was = λ h. left_refused_as 7 wait_first (verdict_both c h).0;
      becomes = λ h. call_first ∙ left_refused_as 8 full_first (verdict_both c h).1;
    }

-- 02, item 3
pub full_before-waiting : FullBeforeWaiting
full_before-waiting p l c = reordered p l c
