-- What demand 2 claims of a rebuild that finished, between the uncut calls after a restart: only the named drive's rebuild finishes, and then Accepted and Said apply. Assumes nothing.
use Rattle.std.specs.Prelude.{◌≡◌, true, false, ◌⊎◌, ℕ, ◌<◌, eqb}
use Rattle.std.proofs.Math.Path.{refl, ap}
use Rattle.std.proofs.Common.{sym, ◌∙◌, subst, inl, inr, lit≤}
use mathlib.Core.List.{List, []}
use borrow.Author.Tests.{eq-eqb, leb-true, eqb-true}
use native.Mathlib.Omega.{arith}
use Rattle.spec.specs.declared.Params.{Params}
use Rattle.spec.specs.declared.Answer.{Answer}
use Rattle.spec.specs.declared.Answer.TheVariants.{Cut, Restarted, Rebuilt}
use Rattle.spec.specs.declared.Report.{Report}
use Rattle.spec.specs.Answers.{kind, is_refused, is_refused_as}
use Rattle.spec.specs.Calls.{Check, first_refusal, Plan, mk_plan, decided, outcome}
use Rattle.spec.specs.Demands.{said_at}
use Rattle.spec.specs.Drives.{View, Disk, store_disk, store_all}
use Rattle.spec.specs.Engine.Call.{restart, rebuild}
use Rattle.spec.specs.Engine.{store_count, lent_block, verdict, lent_ok_of, call_on, call_disk}
use Rattle.spec.specs.History.{mk_world}
use Rattle.spec.specs.Memory.{Memory}
use Rattle.spec.specs.Params.{no_drive, named}
use Rattle.spec.specs.Rebuild.{rebuild_checks, rebuild_stores, rebuild_verdict}
use Rattle.spec.specs.Restart.{report_of, restart_checks, restart_plan, restart_verdict}
use Rattle.spec.specs.Segments.{segments}
use Rattle.law_basic.specs.Geometry.{Ranged, ranged}
use Rattle.law_basic.specs.Mask.{only_none}
use Rattle.spec_demands.specs.Engines.{call_world, on_values, view_in}
use Rattle.spec_demands.specs.Tables.{Rebuilds}
use Rattle.law_views.specs.Views.{seen, view_stores}
use Rattle.law_calls.specs.Refusals.{refusal_kind}
use Rattle.law_drives.specs.Accept.{Accepted}
use Rattle.law_checks.specs.Checks.{Mild}
use Rattle.law_checks.specs.Passed.{restart_mild as start-mild, rebuild_passed}
use Rattle.law_drives.specs.Lengths.{whole_of}
use Rattle.law_drives.specs.Masks.{named_some}
use Rattle.law_drives.specs.Range.{capacity_word}
use Rattle.law_drives.specs.Rebuilding.{rebuild_roomy, rebuild_within}
use Rattle.law_drives.specs.Tests.{clash, false_true}
use Rattle.law_drives.specs.Zones.{all_fit}
use Rattle.proof_tables.specs.Outcomes.{EndedAs, outcome_ends, cut_mild}
use Rattle.proof_tables.specs.Outcomes.EndedAs.{ended-refused, ended_done, ended-cut}
use Rattle.proof_tables.specs.Run.{LostDrive, Well, Run}
use Rattle.proof_rebuilt.specs.Accepted.{rebuilt_accepted}
use Rattle.proof_rebuilt.specs.Said.{rebuilt_said}
use Rattle.proof_rebuilt.specs.Zone.{rebuilt_view, Loss, drive_lost_holds, zone_lost_apart}

-- ---- a restart of drives on which nothing is wrong

no_drive_lem : named no_drive ≡ 0
unfolding named no_drive
no_drive_lem = only_none 255 (lit≤ tt)

-- it is not refused 9, with whatever memory
restart_not_ninth : (p : Params) (off : List ℕ) (k : Disk) (m : Memory) (n : ℕ) → Accepted p (seen p off k) 0 → is_refused_as 9 (call_disk p off k m (restart no_drive n)).answer ≡ false
unfolding call_disk call_on verdict store_count lent_block restart_verdict
restart_not_ninth p off k m n acc = go (outcome_ends p k m checks plan n [])
  where
    checks : List Check
    checks = restart_checks p (lent_ok_of p off k m) (seen p off k) no_drive (segments p (seen p off k) (named no_drive))

    plan : Plan
    plan = restart_plan p (seen p off k) no_drive (segments p (seen p off k) (named no_drive)) m.inflight

    fine : Mild checks
    fine =
        let a : Accepted p (seen p off k) (named no_drive) = subst (λ (g : ℕ). Accepted p (seen p off k) g) (sym no_drive_lem) acc in
        start-mild p (lent_ok_of p off k m) (seen p off k) no_drive (segments p (seen p off k) (named no_drive)) a.pointers_ok a.segments_ok

    restarted_mild : (q : Report) → is_refused_as 9 (Restarted q) ≡ false
    restarted_mild q = unfold is_refused_as is_refused kind in refl

    answer_is : plan.answer ≡ Restarted (report_of p (named no_drive) (segments p (seen p off k) (named no_drive)))
    answer_is = unfold restart_plan in refl

    go : EndedAs p k m checks plan (outcome p (store_disk p) n k m [] (decided (first_refusal checks) plan))
        → is_refused_as 9 (outcome p (store_disk p) n k m [] (decided (first_refusal checks) plan)).answer ≡ false
    go (ended-refused a e f g h) = ap (is_refused_as 9) f ∙ fine a e
    go (ended_done c f g h) = ap (is_refused_as 9) (f ∙ answer_is) ∙ restarted_mild (report_of p (named no_drive) (segments p (seen p off k) (named no_drive)))
    go (ended-cut c f) = ap (is_refused_as 9) f ∙ cut_mild

-- ---- the rebuild

module _ (p : Params) (off : List ℕ) (k : Disk) (m : Memory) (u : Run p off k m) (d n : ℕ) where
  abbrev v : View
  v = seen p off k

  rg : Ranged p
  rg = ranged p u.base.ranged

  -- the named drive is the missing one, and nothing is wrong on the others
  record Done : Type 0 where
    loses : Loss p v d
    named_so : m.state.missing ≡ named d
    leaves : (call_disk p off k m (rebuild d n)).drives ≡ store_all (store_disk p) (rebuild_stores p v d (segments p v (named d))) k

  rebuild_done : eqb (kind (call_disk p off k m (rebuild d n)).answer) 13 ≡ true → Done
  unfolding call_disk call_on verdict store_count lent_block rebuild_verdict
  rebuild_done q = go (outcome_ends p k m checks plan n [])
    where
      plan : Plan
      plan = mk_plan (rebuild_stores p v d (segments p v (named d))) Rebuilt m []

      checks : List Check
      checks = rebuild_checks p (lent_ok_of p off k m) v m d (segments p v (named d))

      accepts_of : (d < p.N) → m.state.missing ≡ named d → LostDrive p off k m ⊎ Well p off k m → Accepted p v (named d)
      accepts_of hd e (inl lo) = subst (λ (g : ℕ). Accepted p v g) e lo.accepts
      accepts_of hd e (inr we) = clash (eq-eqb (named d) 0 (sym e ∙ we.none_missing)) (named_some p rg d hd)

      refused_not : (a : Answer) → is_refused a ≡ true → eqb (kind a) 13 ≡ true → ⊥
      refused_not a x y = unfold is_refused in (let h = leb-true (kind a) 1 x in let e = eqb-true (kind a) 13 y in let z : ⊥ = omega arith in z)

      cut_not : eqb (kind Cut) 13 ≡ true → ⊥
      cut_not y = unfold kind in false_true y

      go : EndedAs p k m checks plan (outcome p (store_disk p) n k m [] (decided (first_refusal checks) plan)) → Done
      go (ended-refused a e f g h) = absurd (refused_not a (refusal_kind checks a e) (ap (λ (b : Answer). eqb (kind b) 13) (sym f) ∙ q))
      go (ended_done c f g h) = let r = rebuild_passed p (lent_ok_of p off k m) v m d (segments p v (named d)) c in record {
        loses = record { ranged = rg; shaped = u.base.shaped; drive_low = r.drive_low; accepts = accepts_of r.drive_low r.names u.mode };
        named_so = r.names;
        leaves = g;
      }
      go (ended-cut c f) = absurd (cut_not (ap (λ (b : Answer). eqb (kind b) 13) (sym f) ∙ q))

  -- the view that it leaves
  rebuild_view : (o : Done) → seen p off (call_disk p off k m (rebuild d n)).drives ≡ rebuilt_view p v d
  rebuild_view o =
      let ss = rebuild_stores p v d (segments p v (named d)) in
      let sh = u.base.shaped in
      let hd = o.loses.drive_low in
      let nd = drive_lost_holds p v d o.loses in
      let na = zone_lost_apart p v d o.loses in
      ap (seen p off) o.leaves
      ∙ view_stores p off k ss (capacity_word p rg) (whole_of p off k m u.base.lent)
      (all_fit p v ss sh.sized (rebuild_within p rg v sh d hd nd na) (rebuild_roomy p rg v sh d hd nd na))

  rebuilds_done : Done → Rebuilds (on_values off) p (mk_world k m) (call_world off p (mk_world k m) (rebuild d n))
  unfolding view_in call_world
  rebuilds_done o = record {
    says_same = λ a h.
        ap (λ (t : View). said_at p t 0 a) (rebuild_view o) ∙ rebuilt_said p v d o.loses a
        ∙ ap (λ (g : ℕ). said_at p v g a) (sym o.named_so);
    accepted = λ w i e _. restart_not_ninth p off w.disk w.memory i
        (subst (λ (t : View). Accepted p t 0) (sym (ap (seen p off) e ∙ rebuild_view o)) (rebuilt_accepted p v d o.loses));
  }

-- demand 2, of a rebuild that finished
pub rebuilds_say : (p : Params) (off : List ℕ) (k : Disk) (m : Memory) → Run p off k m → (d n : ℕ) → eqb (kind (call_disk p off k m (rebuild d n)).answer) 13 ≡ true
    → Rebuilds (on_values off) p (mk_world k m) (call_world off p (mk_world k m) (rebuild d n))
rebuilds_say p off k m u d n q = rebuilds_done p off k m u d n (rebuild_done p off k m u d n q)
