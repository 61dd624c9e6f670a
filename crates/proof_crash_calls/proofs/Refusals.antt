-- A refused call, and a restart that isn't in order, leave a history as it is. Assumes nothing.
use Rattle.std.specs.Prelude.{◌≡◌, List, [], ◌∷◌, Bool, true, false, cond, ◌&&◌, ℕ, eqb, length}
use Rattle.std.proofs.Math.Path.{refl}
use Rattle.std.proofs.Common.{sym, ap, ◌∙◌}
use Rattle.std.proofs.Math.Bool.{not}
use Rattle.spec.specs.Lists.Opt.{none, some}
use Rattle.spec.specs.declared.Params.{Params}
use Rattle.spec.specs.declared.Answer.{Answer}
use Rattle.spec.specs.declared.Answer.TheVariants.{Rebuilt}
use Rattle.spec.specs.Answers.{is_refused, is_cut_of, finished}
use Rattle.spec.specs.Calls.{Check, first_refusal, Plan, mk_plan, decided, After, mk_after, outcome}
use Rattle.spec.specs.Closing.{close_checks, close_plan, close_verdict, empty_checks, empty_plan, empty_verdict}
use Rattle.spec.specs.Drives.{View, Disk, store_disk, above_narrow, few_good, list_ok, view_of}
use Rattle.spec.specs.Engine.{Call, store_count, lent_block, verdict, lent_ok_of, call_on, call_disk}
use Rattle.spec.specs.Engine.Call.{write, land, close, reclaim, read, fill, restart, rebuild}
use Rattle.spec.specs.History.{World, mk_world, call_of, in_order_of, swapped, before, happens, world_after, sent_after, untrusted_after, Mark, Hist, marked, step}
use Rattle.spec.specs.History.Event.{calls, boots}
use Rattle.spec.specs.Landing.{land_checks, land_plan, land_verdict}
use Rattle.spec.specs.Lists.{Opt, is_nil, first_or}
use Rattle.spec.specs.Memory.{Memory}
use Rattle.spec.specs.Params.{in_range, named}
use Rattle.spec.specs.Read.{read_checks, read_plan, read_verdict, fill_plan, fill_verdict}
use Rattle.spec.specs.Rebuild.{rebuild_checks, rebuild_stores, rebuild_verdict}
use Rattle.spec.specs.Reclaim.{victim, victim_segment, victim_live, idle, reclaim_checks, reset_plan, copy_plan, reclaim_verdict_in}
use Rattle.spec.specs.Restart.{names_drive, restart_checks, restart_plan, restart_verdict}
use Rattle.spec.specs.Segments.{segments}
use Rattle.spec.specs.Write.{write_checks, write_plan, write_verdict_in}
use Rattle.law_drives.specs.Tests.{clash, cond_true, cond_false}
use Rattle.law_basic.specs.Ranges.{and_both}
use Rattle.law_views.specs.Views.{seen}
use Rattle.law_calls.specs.Refusals.{refusal_kind, refused_unfinished}
use Rattle.law_checks.specs.Passed.{restart_passed}
use Rattle.proof_crash_machine.specs.Exec.{true≢false}
use Rattle.proof_crash_calls.proofs.Join.{sent-refused}

-- ---- every verdict is decided by checks

pub record Decides (p : Params) (long : Bool) (v : View) (m : Memory) (c : Call) : Type 0 where
  pub checks : List Check
  pub plan : Plan
  pub is : verdict p long v m c ≡ decided (first_refusal checks) plan

unfoldable pub decides : (p : Params) (long : Bool) (v : View) (m : Memory) (c : Call) → Decides p long v m c
unfolding verdict write_verdict_in empty_verdict land_verdict close_verdict reclaim_verdict_in read_verdict fill_verdict restart_verdict rebuild_verdict
decides p long v m (write a [] n) = record { checks = empty_checks p long v m a; plan = empty_plan p m; is = refl }
decides p long v m (write a (x ∷ b) n) = record { checks = write_checks p long v m a (x ∷ b); plan = write_plan p v m a (x ∷ b); is = refl }
decides p long v m (land d s n) = record { checks = land_checks p long v m d s; plan = land_plan p v m d s; is = refl }
decides p long v m (close n) = record { checks = close_checks p long v m; plan = close_plan p m; is = refl }
decides p long v m (reclaim n) = record {
  checks = reclaim_checks p long v m (victim p v m.addresses);
  plan =
      cond (is_nil (victim_live (victim p v m.addresses))) (reset_plan p m (victim_segment (victim p v m.addresses))) (copy_plan p v m (first_or 0 (idle p v m.state (victim p v m.addresses))));
  is = refl;
}
decides p long v m (read a) = record { checks = read_checks p long v m a; plan = read_plan p v m a; is = refl }
decides p long v m (fill a b) = record { checks = read_checks p (long && eqb (length b) p.B) v m a; plan = fill_plan p v m a; is = refl }
decides p long v m (restart d n) = record { checks = restart_checks p long v d (segments p v (named d)); plan = restart_plan p v d (segments p v (named d)) m.inflight; is = refl }
decides p long v m (rebuild d n) = record { checks = rebuild_checks p long v m d (segments p v (named d)); plan = mk_plan (rebuild_stores p v d (segments p v (named d))) Rebuilt m []; is = refl }

-- what a call leaves where its checks refuse it
pub refused-after :
    (p : Params) (off : List ℕ) (k : Disk) (m : Memory) (c : Call) (a : Answer)
    → first_refusal (decides p (lent_ok_of p off k m) (seen p off k) m c).checks ≡ some a
    → call_disk p off k m c ≡ mk_after a k m (lent_block c)
unfolding call_disk call_on
refused-after p off k m c a e =
    ap (outcome p (store_disk p) (store_count c) k m (lent_block c))
    ((decides p (lent_ok_of p off k m) (seen p off k) m c).is ∙ ap (λ (o : Opt Answer). decided o (decides p (lent_ok_of p off k m) (seen p off k) m c).plan) e)
    ∙ done
  where
    done : outcome p (store_disk p) (store_count c) k m (lent_block c) (decided (some a) (decides p (lent_ok_of p off k m) (seen p off k) m c).plan) ≡ mk_after a k m (lent_block c)
    done = unfold decided outcome in refl

-- ---- a history stays as it is

untrusted_refused : (c : Call) (a : Answer) (us : ℕ) → is_refused a ≡ true → untrusted_after c a us ≡ us
unfolding untrusted_after
untrusted_refused (write x y n) a us e = refl
untrusted_refused (land d s n) a us e = refl
untrusted_refused (close n) a us e = refl
untrusted_refused (reclaim n) a us e = refl
untrusted_refused (read x) a us e = refl
untrusted_refused (fill x y) a us e = refl
untrusted_refused (restart d n) a us e = cond_true (is_refused a) us (named d) e
untrusted_refused (rebuild d n) a us e = cond_true (is_refused a) us (cond (is_cut_of a) (named d) 0) e

mark_refused : (a : Answer) (w : World) (j : ℕ) (o : Opt Mark) → is_refused a ≡ true → marked (finished a) w j o ≡ o
mark_refused a w j o e = go (finished a) (refused_unfinished a e)
  where
    go : (b : Bool) → b ≡ false → marked b w j o ≡ o
    go true q = true≢false (sym q)
    go false q = unfold marked in refl

-- a call that is refused
pub refused-step :
    (p : Params) (off : List ℕ) (s : Hist) (c : Call) (a : Answer)
    → first_refusal (decides p (lent_ok_of p off s.world.disk s.world.memory) (seen p off s.world.disk) s.world.memory c).checks ≡ some a
    → step p off s (calls c) ≡ s
unfolding step happens before call_of world_after
refused-step p off s c a e = λ j. record {
  world = mk_world (r j).drives (r j).memory;
  sends = (ap (λ (x : After Disk). sent_after c x.answer s.sends) r ∙ sent-refused c a s.sends no) j;
  untrusted = (ap (λ (x : After Disk). untrusted_after c x.answer s.untrusted) r ∙ untrusted_refused c a s.untrusted no) j;
  mark = (ap (λ (x : After Disk). marked (finished x.answer) (mk_world x.drives x.memory) (length (sent_after c x.answer s.sends)) s.mark) r
      ∙ mark_refused a (mk_world s.world.disk s.world.memory) (length (sent_after c a s.sends)) s.mark no) j;
}
  where
    no : is_refused a ≡ true
    no = refusal_kind (decides p (lent_ok_of p off s.world.disk s.world.memory) (seen p off s.world.disk) s.world.memory c).checks a e

    r : call_disk p off s.world.disk s.world.memory c ≡ mk_after a s.world.disk s.world.memory (lent_block c)
    r = refused-after p off s.world.disk s.world.memory c a e

-- ---- a restart that isn't in order

out_of_order : (p : Params) (off : List ℕ) (k : Disk) (m : Memory) (d n : ℕ) → in_order_of p off (mk_world k m) d ≡ false → (a : Answer)
    × (first_refusal (decides p (lent_ok_of p off k m) (seen p off k) m (restart d n)).checks ≡ some a)
out_of_order p off k m d n e = go (first_refusal (decides p (lent_ok_of p off k m) (seen p off k) m (restart d n)).checks) refl
  where
    fine : few_good p (seen p off k).offline ≡ false → above_narrow p (seen p off k).offline ≡ false → list_ok p off ≡ true
    fine a b = unfold list_ok view_of in and_both (not (few_good p off)) (not (above_narrow p off)) (ap not a) (ap not b)

    passed : first_refusal (decides p (lent_ok_of p off k m) (seen p off k) m (restart d n)).checks ≡ none → in_order_of p off (mk_world k m) d ≡ true
    passed f = unfold in_order_of in
        let c = restart_passed p (lent_ok_of p off k m) (seen p off k) d (segments p (seen p off k) (named d)) (unfold decides in f) in
        and_both (in_range p && names_drive p d && lent_ok_of p off k m) (list_ok p off)
        (and_both (in_range p && names_drive p d) (lent_ok_of p off k m) (and_both (in_range p) (names_drive p d) c.in_range_holds c.names) c.lent)
        (fine c.zones_enough c.addresses_fit)

    go : (o : Opt Answer) → first_refusal (decides p (lent_ok_of p off k m) (seen p off k) m (restart d n)).checks ≡ o
        → (a : Answer) × (first_refusal (decides p (lent_ok_of p off k m) (seen p off k) m (restart d n)).checks ≡ some a)
    go (some a) f = (a, f)
    go none f = clash {b = in_order_of p off (mk_world k m) d} (passed f) e

-- it begins no run: the history is as it was
pub boot-step : (p : Params) (off : List ℕ) (s : Hist) (d n : ℕ) (m : Memory) (im ps : List ℕ) → in_order_of p off (mk_world s.world.disk m) d ≡ false
    → step p off s (boots d n m im ps) ≡ s
unfolding step happens before call_of world_after
boot-step p off s d n m im ps e = λ j. record {
  world =
      cond_false (in_order_of p off (mk_world s.world.disk m) d) (mk_world (call_disk p off u.disk u.memory (restart d n)).drives (call_disk p off u.disk u.memory (restart d n)).memory)
      s.world e j;
  sends = (ap (λ (x : After Disk). sent_after (restart d n) x.answer s.sends) r ∙ sent-refused (restart d n) o.0 s.sends no) j;
  untrusted = (ap (λ (x : After Disk). untrusted_after (restart d n) x.answer s.untrusted) r ∙ untrusted_refused (restart d n) o.0 s.untrusted no) j;
  mark = (ap (λ (x : After Disk). marked (finished x.answer) w (length (sent_after (restart d n) x.answer s.sends)) s.mark) r
      ∙ mark_refused o.0 w (length (sent_after (restart d n) o.0 s.sends)) s.mark no) j;
}
  where
    u : World
    u = cond (in_order_of p off (mk_world s.world.disk m) d) (mk_world (swapped p s.world.disk d im ps) m) (mk_world s.world.disk m)

    w : World
    w = cond (in_order_of p off (mk_world s.world.disk m) d) (mk_world (call_disk p off u.disk u.memory (restart d n)).drives (call_disk p off u.disk u.memory (restart d n)).memory)
        s.world

    same : u ≡ mk_world s.world.disk m
    same = cond_false (in_order_of p off (mk_world s.world.disk m) d) (mk_world (swapped p s.world.disk d im ps) m) (mk_world s.world.disk m) e

    o : (a : Answer) × (first_refusal (decides p (lent_ok_of p off s.world.disk m) (seen p off s.world.disk) m (restart d n)).checks ≡ some a)
    o = out_of_order p off s.world.disk m d n e

    no : is_refused o.0 ≡ true
    no = refusal_kind (decides p (lent_ok_of p off s.world.disk m) (seen p off s.world.disk) m (restart d n)).checks o.0 o.1

    r : call_disk p off u.disk u.memory (restart d n) ≡ mk_after o.0 s.world.disk m (lent_block (restart d n))
    r = ap (λ (x : World). call_disk p off x.disk x.memory (restart d n)) same ∙ refused-after p off s.world.disk m (restart d n) o.0 o.1
