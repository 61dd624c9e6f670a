-- While a history rests, a rebuild of the missing drive, cut or finished, leaves it at rest. Assumes nothing.
use Rattle.std.specs.Prelude.{◌≡◌, refl, Bool, true, ℕ, ◌<◌, leb, length, take}
use Rattle.std.proofs.Common.{sym, ap, ◌∙◌, inl, inr}
use Rattle.std.proofs.Math.Path.{subst}
use mathlib.Core.List.{List, [], map}
use Rattle.std.proofs.Math.Bool.{false}
use Rattle.spec.specs.declared.Params.{Params}
use Rattle.spec.specs.declared.Answer.{Answer}
use Rattle.spec.specs.declared.Answer.TheVariants.{Rebuilt}
use Rattle.spec.specs.Calls.{first_refusal, Plan, mk_plan, decided, After, cut_memory, limited, outcome}
use Rattle.spec.specs.Drives.{View, Store, Disk, store_disk, store_all}
use Rattle.spec.specs.Engine.{store_count, lent_block, verdict, lent_ok_of, call_on, call_disk}
use Rattle.spec.specs.Engine.Call.{rebuild}
use Rattle.spec.specs.History.{mk_world, forget, Hist}
use Rattle.spec.specs.Lists.{Opt, is_in}
use Rattle.spec.specs.Lists.Opt.{none}
use Rattle.spec.specs.Params.{named}
use Rattle.spec.specs.Rebuild.{rebuild_checks, rebuild_stores, rebuild_verdict}
use Rattle.spec.specs.Segments.{segments}
use Rattle.law_basic.specs.Geometry.{Ranged}
use Rattle.law_views.specs.Views.{Whole, seen}
use Rattle.law_basic.specs.Mask.{is_in_empty}
use Rattle.proof_crash_machine.specs.History.Mode.{off as m-off, ro}
use Rattle.proof_crash_machine.specs.Rebuild.{with_un}
use Rattle.proof_crash_machine.specs.Facts.{Choice}
use Rattle.proof_crash_machine.specs.Mask.{tf}
use Rattle.proof_crash_items.specs.Seen.{seen_stores, seen-cut, whole_all, whole_cut}
use Rattle.proof_crash_items.specs.Sound.{AllSound}
use Rattle.proof_crash_items.specs.Ranges.{par_of}
use Rattle.proof_crash_restarts.specs.Link.{Linked}
use Rattle.proof_crash_rebuilds.specs.Drive.{rebuild_cut, rebuild_end, rebuild_sound}
use Rattle.proof_crash_calls.specs.Live.{Reached}
use Rattle.proof_crash_calls.proofs.Resumed.{reached_to, reached_forget}
use Rattle.proof_crash.specs.Stand.{Stands, Holds, leaves, hist}
use Rattle.proof_crash.proofs.Stand.{mark_moves, rebuild_leaves-cut, rebuild_leaves}
use Rattle.proof_crash.specs.Stand.Holds.{rests}
use Rattle.proof_crash.proofs.Boot.{stands_linked}
use Rattle.proof_crash_machine.specs.View.{ItemView}

module _ (p : Params) (h : Ranged p) (off : List ℕ) (s : Hist) (n : ℕ) (x : Stands p h off s n) (d c : ℕ) (dl : d < p.N) (ch : Choice (par_of p h off) x.g.un (is_in (named d)))
    (is : s.world.memory.state.missing ≡ named d) where
  abbrev v₀ : View
  v₀ = seen p off s.world.disk

  abbrev k₀ : Disk
  k₀ = s.world.disk

  abbrev ss : List Store
  ss = rebuild_stores p (seen p off s.world.disk) d (segments p (seen p off s.world.disk) (named d))

  lk : Linked p h off v₀ x.u x.g x.a x.c x.m
  lk = stands_linked p h off s n x

  right? : AllSound p v₀ ss
  right? = rebuild_sound p h off v₀ x.u x.g x.a x.c x.m lk d dl ch

  cut? : (k : Disk) → Whole p k → Linked p h off (seen p off k) x.u (with_un x.g (is_in (named d))) x.a x.c m-off
      → Holds p h off (hist (mk_world k (cut_memory p s.world.memory)) (map forget s.sends) (named d) s.mark)
  cut? k wk l = rests n (record {
    g = with_un x.g (is_in (named d));
    u = x.u;
    a = x.a;
    c = x.c;
    m = m-off;
    T = x.T;
    whole = wk;
    reached =
        reached_to p h off v₀ x.u (map forget s.sends) n x.g x.a x.c x.m x.T forgot (seen p off k) x.u (with_un x.g (is_in (named d))) x.c m-off n l.inv
        l.tie (λ y i. i) forgot.marked forgot.still;
    trust = λ e l. refl;
    mark = mark_moves p off x.g (with_un x.g (is_in (named d))) n s.mark (λ y i. i) refl x.mark;
  }) (inl (unfold cut_memory in refl))
    where
      forgot : Reached p h off v₀ x.u (map forget s.sends) n x.g x.a x.c x.m x.T
      forgot = reached_forget p h off v₀ x.u s.sends n x.g x.a x.c x.m x.T x.reached

  done? : (k : Disk) → Whole p k → (w : ItemView) → Linked p h off (seen p off k) w (with_un (with_un x.g (is_in (named d))) (is_in 0)) x.a x.c ro
      → Holds p h off (hist (mk_world k s.world.memory) s.sends 0 s.mark)
  done? k wk w l = rests n (record {
    g = with_un (with_un x.g (is_in (named d))) (is_in 0);
    u = w;
    a = x.a;
    c = x.c;
    m = ro;
    T = x.T;
    whole = wk;
    reached =
        reached_to p h off v₀ x.u s.sends n x.g x.a x.c x.m x.T x.reached (seen p off k) w (with_un (with_un x.g (is_in (named d))) (is_in 0)) x.c ro n
        l.inv l.tie (λ y i. i) x.reached.marked x.reached.still;
    trust = λ e l. refl;
    mark = mark_moves p off x.g (with_un (with_un x.g (is_in (named d))) (is_in 0)) n s.mark (λ y i. i) refl x.mark;
  }) (inr (d, dl, is, again))
    where
      -- it may be rebuilt again
      again : Choice (par_of p h off) (is_in 0) (is_in (named d))
      again = (ch.0, λ e l q. tf q (is_in_empty e))

  pub rebuilt_ok : first_refusal (rebuild_checks p (lent_ok_of p off s.world.disk s.world.memory) (seen p off s.world.disk) s.world.memory d
      (segments p (seen p off s.world.disk) (named d))) ≡ none
      → Holds p h off (leaves s (rebuild d c) (call_disk p off s.world.disk s.world.memory (rebuild d c)))
  rebuilt_ok e = subst (λ (r : After Disk). Holds p h off (leaves s (rebuild d c) r)) (sym call_is) (go (leb (length ss) c))
    where
      q : Plan
      q = mk_plan ss Rebuilt s.world.memory []

      call_is : call_disk p off k₀ s.world.memory (rebuild d c) ≡ limited (leb (length ss) c) p (store_disk p) c k₀ s.world.memory [] (mk_plan ss Rebuilt s.world.memory [])
      call_is =
          unfold call_disk call_on verdict rebuild_verdict store_count lent_block in
          (ap (λ (o : Opt Answer). outcome p (store_disk p) c k₀ s.world.memory [] (decided o (mk_plan ss Rebuilt s.world.memory []))) e
          ∙ (unfold decided outcome in refl))

      go : (b : Bool) → Holds p h off (leaves s (rebuild d c) (limited b p (store_disk p) c k₀ s.world.memory [] (mk_plan ss Rebuilt s.world.memory [])))
      go true = unfold limited in subst (Holds p h off) (sym (rebuild_leaves s d c (store_all (store_disk p) ss k₀) s.world.memory []))
          (done? (store_all (store_disk p) ss k₀) (whole_all p h off k₀ x.whole ss right?) (rebuild_end p h off v₀ x.u x.g x.a x.c x.m lk d dl ch).0
          (subst (λ (w : View). Linked p h off w (rebuild_end p h off v₀ x.u x.g x.a x.c x.m lk d dl ch).0
          (with_un (with_un x.g (is_in (named d))) (is_in 0)) x.a x.c ro) (sym (seen_stores p h off k₀ x.whole ss right?))
          (rebuild_end p h off v₀ x.u x.g x.a x.c x.m lk d dl ch).1))
      go false = unfold limited in subst (Holds p h off) (sym (rebuild_leaves-cut s d c (store_all (store_disk p) (take c ss) k₀) (cut_memory p s.world.memory) []))
          (cut? (store_all (store_disk p) (take c ss) k₀) (whole_cut p h off k₀ x.whole ss right? c)
          (subst (λ (w : View). Linked p h off w x.u (with_un x.g (is_in (named d))) x.a x.c m-off) (sym (seen-cut p h off k₀ x.whole ss right? c))
          (rebuild_cut p h off v₀ x.u x.g x.a x.c x.m lk d dl ch c)))
