-- With a drive missing: the restart that names it, the calls that are refused, and its rebuild. Assumes nothing.
use Rattle.std.specs.Prelude.{◌≡◌, true, ℕ, ◌<◌, eqb}
use Rattle.std.proofs.Math.Path.{refl}
use Rattle.std.proofs.Common.{sym, ap, ◌∙◌, subst, inl, eq-eqb}
use mathlib.Core.List.{List, [], ◌∷◌}
use Rattle.std.proofs.Math.Bool.{false}
use Rattle.spec.specs.Lists.Opt.{none}
use Rattle.spec.specs.declared.Answer.{Answer}
use Rattle.spec.specs.declared.Answer.TheVariants.{Cut, Rebuilt}
use Rattle.spec.specs.declared.Params.{Params}
use Rattle.spec.specs.Answers.{kind, is_refused, is_refused_as, is_cut_of}
use Rattle.spec.specs.Calls.{Check, first_refusal, Plan, mk_plan, decided, After, outcome}
use Rattle.spec.specs.Closing.{close_checks, close_verdict}
use Rattle.spec.specs.Drives.{View, store_view_of, Disk, store_disk, store_all}
use Rattle.spec.specs.Engine.{store_count, lent_block, verdict, lent_ok_of, call_on, call_disk}
use Rattle.spec.specs.Engine.Call.{write, land, close, reclaim, rebuild}
use Rattle.spec.specs.Faults.{pointer_faults, segment_faults}
use Rattle.spec.specs.Landing.{land_checks, land_verdict}
use Rattle.spec.specs.Memory.{Memory}
use Rattle.spec.specs.Params.{named}
use Rattle.spec.specs.Rebuild.{rebuild_checks, rebuild_stores, rebuild_verdict}
use Rattle.spec.specs.Reclaim.{reclaim_checks, reclaim_verdict_in, victim}
use Rattle.spec.specs.Segments.{segments, candidates, address_table, compact_table}
use Rattle.spec.specs.Write.{write_checks, write_verdict_in}
use Rattle.law_basic.specs.Geometry.{Ranged, ranged}
use Rattle.law_views.specs.Views.{seen, view_stores, whole_stores}
use Rattle.law_drives.specs.Accept.{Accepted, in_groups, accepted_apart}
use Rattle.law_checks.specs.Checks.{Mild}
use Rattle.law_checks.specs.Passed.{write_passed, write_mild, land_passed, land_mild, close_passed, close_mild, reclaim_passed, reclaim_mild, rebuild_passed, rebuild_mild}
use Rattle.law_drives.specs.Frame.{Agree, same_candidates, same_compact, same_accepted}
use Rattle.law_drives.specs.Lengths.{lengths_of, whole_of, of_lengths}
use Rattle.law_drives.specs.Masks.{named_in, named_some}
use Rattle.law_drives.specs.Range.{capacity_word}
use Rattle.law_drives.specs.Rebuilding.{rebuild_roomy, rebuild_within, rebuild_agrees}
use Rattle.law_drives.specs.Spots.{InGroups, SpotsApart}
use Rattle.law_drives.specs.Tests.{clash}
use Rattle.law_drives.specs.Zones.{Shaped, all_fit, shaped_after}
use Rattle.proof_tables.specs.Base.{Base}
use Rattle.proof_tables.specs.Outcomes.{EndedAs, outcome_ends, cut-cut, cut_mild}
use Rattle.proof_tables.specs.Reading.{Idle}
use Rattle.proof_tables.specs.Run.{LostDrive, Run, Kept}
use Rattle.proof_tables.specs.Outcomes.EndedAs.{ended-refused, ended_done, ended-cut}
use Rattle.law_basic.specs.Segs.{low_here}
use Rattle.law_views.specs.Alike.{offline_after}

-- ---- a call that changes nothing keeps what holds

pub idle-kept : (p : Params) (off : List ℕ) (k : Disk) (m : Memory) (b : Base p off k m) (r : After Disk) → Run p off k m → Idle p off k m b r → Kept p off r
idle-kept p off k m b r u i = record {
  never_ninth = i.mild;
  runs_on = λ c. subst (λ (x : Disk). Run p off x r.memory) (sym i.same_drives) (subst (λ (x : Memory). Run p off k x) (sym i.same_memory) u);
}

-- a refusal that isn't the ninth keeps all
pub refused-kept : (p : Params) (off : List ℕ) (k : Disk) (m : Memory) (r : After Disk) (a : Answer) → Run p off k m
    → is_refused_as 9 a ≡ false → r.answer ≡ a → r.drives ≡ k → r.memory ≡ m
    → Kept p off r
refused-kept p off k m r a u h e f g = record {
  never_ninth = ap (is_refused_as 9) e ∙ h;
  runs_on = λ c. subst (λ (x : Disk). Run p off x r.memory) (sym f) (subst (λ (x : Memory). Run p off k x) (sym g) u);
}

pub cut-kept : (p : Params) (off : List ℕ) (r : After Disk) → r.answer ≡ Cut → Kept p off r
cut-kept p off r e = record {
  never_ninth = ap (is_refused_as 9) e ∙ cut_mild;
  runs_on = λ c. clash (ap is_cut_of e ∙ cut-cut) c;
}

-- ---- calls while a drive is missing

module _ (p : Params) (off : List ℕ) (k : Disk) (m : Memory) (u : Run p off k m) (lo : LostDrive p off k m) where
  abbrev v : View
  v = seen p off k

  abbrev d : ℕ
  d = lo.which

  rg : Ranged p
  rg = ranged p u.base.ranged

  missing_some : eqb m.state.missing 0 ≡ false
  missing_some = ap (λ (x : ℕ). eqb x 0) lo.names_it ∙ named_some p rg d lo.which_low

  not_healthy : {X : Type 0} → m.state.missing ≡ 0 → X
  not_healthy e = clash (eq-eqb m.state.missing 0 e) missing_some

  -- a list of checks that wants no drive missing stops a call
  stopped_kept : (cs : List Check) (q : Plan) (n : ℕ) (b : List ℕ) → Mild cs → (first_refusal cs ≡ none → m.state.missing ≡ 0)
      → Kept p off (outcome p (store_disk p) n k m b (decided (first_refusal cs) q))
  stopped_kept cs q n b mild healthy = go (outcome_ends p k m cs q n b)
    where
      go : EndedAs p k m cs q (outcome p (store_disk p) n k m b (decided (first_refusal cs) q)) → Kept p off (outcome p (store_disk p) n k m b (decided (first_refusal cs) q))
      go (ended-refused a e f g h) = refused-kept p off k m _ a u (mild a e) f g h
      go (ended_done c f g h) = not_healthy (healthy c)
      go (ended-cut c f) = cut-kept p off _ f

  pub lost_write : (a x : ℕ) (b : List ℕ) (n : ℕ) → Kept p off (call_disk p off k m (write a (x ∷ b) n))
  unfolding call_disk call_on verdict store_count lent_block write_verdict_in
  lost_write a x b n =
      stopped_kept (write_checks p (lent_ok_of p off k m) v m a (x ∷ b)) _ n (x ∷ b) (write_mild p (lent_ok_of p off k m) v m a (x ∷ b) u.base.state_ok_holds)
      (λ e. (write_passed p (lent_ok_of p off k m) v m a (x ∷ b) e).healthy)

  pub lost_land : (e s n : ℕ) → Kept p off (call_disk p off k m (land e s n))
  unfolding call_disk call_on verdict store_count lent_block land_verdict
  lost_land e s n =
      stopped_kept (land_checks p (lent_ok_of p off k m) v m e s) _ n [] (land_mild p (lent_ok_of p off k m) v m e s u.base.state_ok_holds (λ z w. not_healthy z))
      (λ c. (land_passed p (lent_ok_of p off k m) v m e s c).healthy)

  pub lost_close : (n : ℕ) → Kept p off (call_disk p off k m (close n))
  unfolding call_disk call_on verdict store_count lent_block close_verdict
  lost_close n = stopped_kept (close_checks p (lent_ok_of p off k m) v m) _ n [] (close_mild p (lent_ok_of p off k m) v m u.base.state_ok_holds (λ z. not_healthy z))
      (λ c. (close_passed p (lent_ok_of p off k m) v m c).healthy)

  pub lost_reclaim : (n : ℕ) → Kept p off (call_disk p off k m (reclaim n))
  unfolding call_disk call_on verdict store_count lent_block reclaim_verdict_in
  lost_reclaim n =
      let w = victim p v m.addresses in
      stopped_kept (reclaim_checks p (lent_ok_of p off k m) v m w) _ n [] (reclaim_mild p (lent_ok_of p off k m) v m w u.base.state_ok_holds (λ z. not_healthy z) (λ z t. not_healthy z))
      (λ c. (reclaim_passed p (lent_ok_of p off k m) v m w c).healthy)

  -- ---- the rebuild

  module _ (e n : ℕ) where
    abbrev plan : Plan
    plan = mk_plan (rebuild_stores p v e (segments p v (named e))) Rebuilt m []

    abbrev checks : List Check
    checks = rebuild_checks p (lent_ok_of p off k m) v m e (segments p v (named e))

    fine : e < p.N → m.state.missing ≡ named e → (pointer_faults p v (named e) ≡ []) × (segment_faults p v (named e) (segments p v (named e)) ≡ [])
    fine l q =
        let a : Accepted p v (named e) = subst (λ (x : ℕ). Accepted p v x) q lo.accepts in
        (a.pointers_ok, a.segments_ok)

    lost_run : first_refusal checks ≡ none → (x : Disk) → x ≡ store_all (store_disk p) plan.stores k → Run p off x m
    lost_run c x ex =
        let r = rebuild_passed p (lent_ok_of p off k m) v m e (segments p v (named e)) c in
        let he = r.drive_low in
        let q = r.names in
        let w = whole_of p off k m u.base.lent in
        let lost = named_in p rg e he in
        let apart : SpotsApart p v (named e) = subst (λ (y : ℕ). SpotsApart p v y) q u.base.apart in
        let room = rebuild_roomy p rg v u.base.shaped e he lost apart in
        let fit = all_fit p v plan.stores u.base.shaped.sized (rebuild_within p rg v u.base.shaped e he lost apart) room in
        let ev : seen p off (store_all (store_disk p) plan.stores k) ≡ store_all store_view_of plan.stores v = view_stores p off k plan.stores (capacity_word p rg) w fit in
        let w' = whole_stores p off k plan.stores (capacity_word p rg) w fit in
        let l = lengths_of p off k m u.base.lent in
        let v' = store_all store_view_of plan.stores v in
        let ag : Agree p (named e) v v' = rebuild_agrees p rg v u.base.shaped e he lost apart in
        let eo : v.offline ≡ v'.offline = sym (offline_after plan.stores v) in
        let gone = m.state.missing in
        let low = u.base.low_here in
        let ag' : Agree p gone v v' = subst (λ (y : ℕ). Agree p y v v') (sym q) ag in
        let acc : Accepted p v' gone = same_accepted p gone v v' low ag' eo lo.accepts in
        subst (λ (y : Disk). Run p off y m) (sym ex)
        (back e he q (store_all (store_disk p) plan.stores k) v' ev
        (of_lengths p off (store_all (store_disk p) plan.stores k) m
        (record {
          offline_ok = l.offline_ok;
          image_ok = w'.image_long;
          pointers_ok = w'.pointers_long;
          addresses_ok = l.addresses_ok;
          compact_ok = l.compact_ok;
          inflight_ok = l.inflight_ok;
        }))
        (shaped_after p v plan.stores u.base.shaped room)
        (u.base.addresses_say ∙ ap (address_table p) (same_candidates p gone v v' low ag' eo))
        (u.base.compact_says ∙ same_compact p gone v v' low ag' eo) acc)
      where
        back : (e : ℕ) → e < p.N → m.state.missing ≡ named e → (y : Disk) (w : View) → seen p off y ≡ w → lent_ok_of p off y m ≡ true → Shaped p w
            → m.addresses ≡ address_table p (candidates p m.state.missing (segments p w m.state.missing))
            → m.compact ≡ compact_table p (segments p w m.state.missing) → Accepted p w m.state.missing → Run p off y m
        back e he q y w ew ll sh a1 a2 acc =
            let g = m.state.missing in
            record {
              base = record {
                ranged = u.base.ranged;
                lent = ll;
                zones_enough = u.base.zones_enough;
                addresses_fit = u.base.addresses_fit;
                low_here = u.base.low_here;
                apart = subst (λ (x : View). SpotsApart p x g) (sym ew) (accepted_apart p w g acc u.base.low_here);
                shaped = subst (λ (x : View). Shaped p x) (sym ew) sh;
                state_ok_holds = u.base.state_ok_holds;
                addresses_say = subst (λ (x : View). m.addresses ≡ address_table p (candidates p g (segments p x g))) (sym ew) a1;
                compact_says = subst (λ (x : View). m.compact ≡ compact_table p (segments p x g)) (sym ew) a2;
                decodes = λ d h. subst (λ (x : View). InGroups p x g) (sym ew) (in_groups p w g acc);
              };
              mode = inl (record { which = e; which_low = he; names_it = q; accepts = subst (λ (x : View). Accepted p x g) (sym ew) acc });
            }

    pub lost_rebuild : Kept p off (call_disk p off k m (rebuild e n))
    unfolding call_disk call_on verdict store_count lent_block rebuild_verdict
    lost_rebuild = go (outcome_ends p k m checks plan n [])
      where
        mild_rebuilt : is_refused_as 9 Rebuilt ≡ false
        mild_rebuilt = unfold is_refused_as is_refused kind in refl

        go : EndedAs p k m checks plan (outcome p (store_disk p) n k m [] (decided (first_refusal checks) plan))
            → Kept p off (outcome p (store_disk p) n k m [] (decided (first_refusal checks) plan))
        go (ended-refused a x f g h) = refused-kept p off k m _ a u (rebuild_mild p (lent_ok_of p off k m) v m e (segments p v (named e)) fine a x) f g h
        go (ended_done c f g h) = record {
          never_ninth = ap (is_refused_as 9) f ∙ mild_rebuilt;
          runs_on = λ x. subst (λ (y : Memory). Run p off (outcome p (store_disk p) n k m [] (decided (first_refusal checks) plan)).drives y) (sym h) (lost_run c _ g);
        }
        go (ended-cut c f) = cut-kept p off _ f
