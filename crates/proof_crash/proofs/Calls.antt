-- Every call that is no restart keeps where a history stands: while it rests it leaves it at rest. Assumes nothing.
use Rattle.std.specs.Prelude.{◌≡◌, refl, Bool, true, ◌≢◌, ℕ, ◌<◌}
use Rattle.std.proofs.Common.{sym, ap, ◌∙◌, inl, inr, arith}
use Rattle.std.proofs.Math.Path.{subst}
use mathlib.Core.List.{List}
use Rattle.std.proofs.Math.Bool.{false}
use Rattle.spec.specs.declared.Params.{Params}
use Rattle.spec.specs.declared.Answer.{Answer}
use Rattle.spec.specs.Calls.{first_refusal}
use Rattle.spec.specs.Engine.{Call, lent_ok_of, call_disk}
use Rattle.spec.specs.Engine.Call.{write, land, close, reclaim, read, fill, restart, rebuild}
use Rattle.spec.specs.History.{call_of, restart_of, before, happens, world_after, Hist, step}
use Rattle.spec.specs.History.Event.{calls}
use Rattle.spec.specs.Lists.{Opt, is_in}
use Rattle.spec.specs.Lists.Opt.{none, some}
use Rattle.spec.specs.Params.{named}
use Rattle.spec.specs.Rebuild.{rebuild_checks}
use Rattle.spec.specs.Segments.{segments}
use Rattle.law_basic.specs.Geometry.{Ranged}
use Rattle.law_views.specs.Views.{seen}
use Rattle.law_drives.specs.Tests.{clash}
use Rattle.law_checks.specs.Passed.{rebuild_passed}
use Rattle.proof_crash_machine.specs.History.Mode.{off as m-off}
use Rattle.proof_crash_machine.specs.Facts.{Choice}
use Rattle.proof_crash_items.specs.Ranges.{par_of}
use Rattle.proof_crash_calls.proofs.Others.{off_step, missing_step}
use Rattle.proof_crash_calls.proofs.Refusals.{decides, refused-step}
use Rattle.proof_crash_calls.specs.Steps.{Stepped}
use Rattle.proof_crash_calls.proofs.Steps.{run_step}
use Rattle.proof_crash_calls.specs.Steps.Stepped.{goes_on, is_over}
use Rattle.proof_crash.specs.Stand.{StateQuiet, MarkOk, Stands, Holds, leaves}
use Rattle.proof_crash.proofs.Stand.{mark_moves, named_same, named_not, none_trust}
use Rattle.proof_crash.specs.Stand.Holds.{goes, rests}
use Rattle.proof_crash.proofs.Mend.{rebuilt_ok}

-- what a call leaves
pub call_leaves : (p : Params) (off : List ℕ) (s : Hist) (c : Call) → step p off s (calls c) ≡ leaves s c (call_disk p off s.world.disk s.world.memory c)
unfolding step happens before call_of world_after leaves
call_leaves p off s c = refl

unfoldable is_rebuild : Call → Bool
is_rebuild (write a b n) = false
is_rebuild (land d s n) = false
is_rebuild (close n) = false
is_rebuild (reclaim n) = false
is_rebuild (read a) = false
is_rebuild (fill a b) = false
is_rebuild (restart d n) = false
is_rebuild (rebuild d n) = true

not_rebuild : (c : Call) → is_rebuild c ≡ false → (d n : ℕ) → c ≡ rebuild d n → ⊥
not_rebuild c q d n e = clash (ap is_rebuild e ∙ (unfold is_rebuild in refl)) q

-- ---- every call that is no restart

module _ (p : Params) (h : Ranged p) (off : List ℕ) (s : Hist) (n : ℕ) (x : Stands p h off s n) where
  abbrev long : Bool
  long = lent_ok_of p off s.world.disk s.world.memory

  as_it_was : StateQuiet p h off x.g.un s.world.memory.state → (c : Call) → step p off s (calls c) ≡ s → Holds p h off (step p off s (calls c))
  as_it_was q c e = subst (Holds p h off) (sym e) (rests n x q)

  rebuild_any : (d : ℕ) → d < p.N → s.world.memory.state.missing ≡ named d → Choice (par_of p h off) x.g.un (is_in (named d)) → (e c : ℕ)
      → Holds p h off (step p off s (calls (rebuild e c)))
  rebuild_any d dl is ch e c = go (first_refusal (decides p long (seen p off s.world.disk) s.world.memory (rebuild e c)).checks) refl
    where
      go : (o : Opt Answer) → first_refusal (decides p long (seen p off s.world.disk) s.world.memory (rebuild e c)).checks ≡ o → Holds p h off (step p off s (calls (rebuild e c)))
      go (some a) f = as_it_was (inr (d, dl, is, ch)) (rebuild e c) (refused-step p off s (rebuild e c) a f)
      go none f = subst (Holds p h off) (sym (call_leaves p off s (rebuild e c)))
          (subst (λ (i : ℕ). Holds p h off (leaves s (rebuild i c) (call_disk p off s.world.disk s.world.memory (rebuild i c)))) one
          (rebuilt_ok p h off s n x d c dl ch is (subst (λ (i : ℕ). first_refusal
          (rebuild_checks p long (seen p off s.world.disk) s.world.memory i (segments p (seen p off s.world.disk) (named i)))
          ≡ none) (sym one) f')))
        where
          f' : first_refusal (rebuild_checks p long (seen p off s.world.disk) s.world.memory e (segments p (seen p off s.world.disk) (named e))) ≡ none
          f' = reveal f
            where
              reveal :
                  first_refusal (decides p long (seen p off s.world.disk) s.world.memory (rebuild e c)).checks ≡ none
                  → first_refusal
                  (rebuild_checks p long (seen p off s.world.disk) s.world.memory e (segments p (seen p off s.world.disk) (named e))) ≡ none
              reveal f = unfold decides in f

          one : d ≡ e
          one = named_same d e (omega (arith, dl, h.drives_high)) (sym is ∙ same f')
            where
              same :
                  first_refusal (rebuild_checks p long (seen p off s.world.disk) s.world.memory e (segments p (seen p off s.world.disk) (named e)))
                  ≡ none
                  → s.world.memory.state.missing ≡ named e
              same f = (rebuild_passed p long (seen p off s.world.disk) s.world.memory e (segments p (seen p off s.world.disk) (named e)) f).names

  pub rest_step : StateQuiet p h off x.g.un s.world.memory.state → (c : Call) → restart_of c ≡ none → Holds p h off (step p off s (calls c))
  rest_step (inl z) c r = as_it_was (inl z) c (off_step p off s c r z)
  rest_step (inr (d, dl, is, ch)) c r = go c r
    where
      lost : s.world.memory.state.missing ≢ 0
      lost e = named_not p h d dl (sym is ∙ e)

      other : (c : Call) → restart_of c ≡ none → is_rebuild c ≡ false → Holds p h off (step p off s (calls c))
      other c r q = as_it_was (inr (d, dl, is, ch)) c (missing_step p off s c r (not_rebuild c q) lost)

      go : (c : Call) → restart_of c ≡ none → Holds p h off (step p off s (calls c))
      go (write a b n) r = other (write a b n) r (unfold is_rebuild in refl)
      go (land d s n) r = other (land d s n) r (unfold is_rebuild in refl)
      go (close n) r = other (close n) r (unfold is_rebuild in refl)
      go (reclaim n) r = other (reclaim n) r (unfold is_rebuild in refl)
      go (read a) r = other (read a) r (unfold is_rebuild in refl)
      go (fill a b) r = other (fill a b) r (unfold is_rebuild in refl)
      go (restart e n) r = other (restart e n) r (unfold is_rebuild in refl)
      go (rebuild e n) r = rebuild_any d dl is ch e n

-- in a healthy run, too
pub call_step : (p : Params) (h : Ranged p) (off : List ℕ) (s : Hist) → Holds p h off s → (c : Call) → restart_of c ≡ none → Holds p h off (step p off s (calls c))
call_step p h off s (rests n x q) c r = rest_step p h off s n x q c r
call_step p h off s (goes n x k) c r = go (run_step p h off s n x c r)
  where
    go : Stepped p h off x.healthy.live.g n s (step p off s (calls c)) → Holds p h off (step p off s (calls c))
    go (goes_on e y l) = goes n y (subst (MarkOk p off y.healthy.live.g n) (sym e) (mark_moves p off x.healthy.live.g y.healthy.live.g n s.mark l.sent l.last k))
    go (is_over e y l) = rests n (record {
      g = y.ended.stopped.g;
      u = y.ended.stopped.u;
      a = y.ended.stopped.a;
      c = y.ended.stopped.c;
      m = m-off;
      T = y.ended.stopped.T;
      whole = y.ended.whole;
      reached = y.ended.stopped.reached;
      trust = none_trust p h off (step p off s (calls c)).untrusted y.ended.stopped.g.un y.trusted y.ended.stopped.healthy;
      mark = subst (MarkOk p off y.ended.stopped.g n) (sym e) (mark_moves p off x.healthy.live.g y.ended.stopped.g n s.mark l.sent l.last k);
    }) (inl y.dark)
