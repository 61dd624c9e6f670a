-- What is claimed of a restart in order, cut or finished, from wherever a history stands. Assumes nothing.
use Rattle.std.specs.Prelude.{◌≡◌, List, map, ℕ, ◌<◌, ◌≤◌}
use Rattle.std.proofs.Math.Path.{refl}
use Rattle.std.proofs.Common.{sym, ap, ◌∙◌, subst}
use Rattle.std.proofs.Math.Bool.{false}
use Rattle.std.proofs.Math.ListN.{length}
use Rattle.spec.specs.declared.Params.{Params}
use Rattle.spec.specs.declared.Report.{Report}
use Rattle.spec.specs.declared.Answer.TheVariants.{Cut, Restarted}
use Rattle.spec.specs.Answers.{kind, is_refused, finished}
use Rattle.spec.specs.Calls.{After, mk_after}
use Rattle.spec.specs.Demands.{ReadOk, SameAs, RestartOk}
use Rattle.spec.specs.Drives.{View, Disk}
use Rattle.spec.specs.Engine.{Call}
use Rattle.spec.specs.Engine.Call.{restart}
use Rattle.spec.specs.History.{World, mk_world, forget, Mark, Hist, seen_at}
use Rattle.spec.specs.Lists.{Opt}
use Rattle.spec.specs.Lists.Opt.{none, some}
use Rattle.spec.specs.Memory.{Memory}
use Rattle.spec.specs.Params.{named}
use Rattle.law_basic.specs.Geometry.{Ranged}
use Rattle.law_views.specs.Views.{seen}
use Rattle.law_drives.specs.Tests.{clash}
use Rattle.proof_crash_machine.specs.Facts.{InV}
use Rattle.proof_crash_machine.specs.History.{State as m-State, Claim}
use Rattle.proof_crash_machine.specs.Val.{Val}
use Rattle.proof_crash_machine.specs.Mask.{Mask, count}
use Rattle.proof_crash_items.specs.Ranges.{parities, par_of}
use Rattle.proof_crash_items.specs.Named.{never_beyond}
use Rattle.proof_crash_restarts.specs.Link.{Linked}
use Rattle.proof_crash_calls.specs.Go.{mst}
use Rattle.proof_crash_calls.specs.Readings.{Shows, read_ok, same_reads}
use Rattle.proof_crash_calls.proofs.Sends.{length-forget, forget_logged}
use Rattle.proof_crash.specs.Stand.{MarkOk, Stands, Holds, leaves, hist}
use Rattle.proof_crash.proofs.Stand.{leaves-finished, leaves-cut}

-- ---- what is claimed of it

abbrev pub Booted : (p : Params) → Ranged p → List ℕ → Hist → Call → After Disk → Type 0
Booted p h off s c r = RestartOk p off s r.answer (leaves s c r) × Holds p h off (leaves s c r)

module _ (p : Params) (h : Ranged p) (off : List ℕ) (s : Hist) (n : ℕ) (x : Stands p h off s n) where
  abbrev v₀ : View
  v₀ = seen p off s.world.disk

  abbrev σ : m-State
  σ = mst x.g x.u x.a x.c x.m

  pub stands_linked : Linked p h off (seen p off s.world.disk) x.u x.g x.a x.c x.m
  stands_linked = record { tie = x.reached.tie; inv = x.reached.inv }

  pub stands_known : (y : Val) → InV y x.g.sent → (0 < y.stamp) × (y.addr < p.L)
  stands_known y i = x.reached.inv.ones y i

  -- it finished in world w, and reads K
  module _ (w : World) (m : Mask) (few : count p.N m ≤ parities p) (K : ℕ → ℕ)
      (cl : Claim (par_of p h off) (mst x.g x.u x.a x.c x.m) m K) (sh : (i : ℕ) → i < p.L → Shows p x.g.sent K i (seen_at p off w i)) where
    pub boot_reads : (i : ℕ) → i < p.L → ReadOk (map forget s.sends) i (seen_at p off w i)
    boot_reads i l = read_ok p h off σ x.T m K (map forget s.sends) x.reached.inv x.reached.tracked cl (forget_logged p x.a x.T s.sends x.reached.logged) i
        (seen_at p off w i)
        (sh i l)

    pub boot_same : (us : ℕ) (o : Opt Mark) → SameAs p off s.mark (hist w (map forget s.sends) us o)
    boot_same us o = go s.mark x.mark
      where
        go : (q : Opt Mark) → MarkOk p off x.g n q → SameAs p off q (hist w (map forget s.sends) us o)
        go none k = tt
        go (some q) k = λ e i l. same_reads p h off σ m K x.reached.inv cl (never_beyond p h off x.g.said m few) (x.reached.still (sym (length-forget s.sends) ∙ e ∙ k.0))
            q.world
            k.1 i l (seen_at p off w i) (sh i l)

    -- all of it
    pub boot_done : (d c : ℕ) (q : Report) (k : Disk) (me : Memory) (b : List ℕ) → w ≡ mk_world k me
        → Holds p h off (hist w (map forget s.sends) (named d) (some (record { world = w; sent_then = length (map forget s.sends) })))
        → Booted p h off s (restart d c) (mk_after (Restarted q) k me b)
    boot_done d c q k me b e y =
        subst (λ (z : Hist). RestartOk p off s (Restarted q) z × Holds p h off z)
        (ap (λ (u : World). hist u (map forget s.sends) (named d) (some (record { world = u; sent_then = length (map forget s.sends) }))) e
        ∙ sym (leaves-finished s d c q k me b)) (
          record {
            not_refused = unfold is_refused kind in refl;
            reads = λ f i l. boot_reads i l;
            same = λ f. boot_same (named d) (some (record { world = w; sent_then = length (map forget s.sends) }));
          },
          y,
        )

  -- it was cut
  pub boot-cut : (d c : ℕ) (k : Disk) (m : Memory) (b : List ℕ) → Holds p h off (hist (mk_world k m) (map forget s.sends) (named d) s.mark)
      → Booted p h off s (restart d c) (mk_after Cut k m b)
  boot-cut d c k m b y = subst (λ (z : Hist). RestartOk p off s Cut z × Holds p h off z) (sym (leaves-cut s d c k m b)) (
    record {
      not_refused = unfold is_refused kind in refl;
      reads = λ f. absurd (clash f no_finish);
      same = λ f. absurd (clash f no_finish);
    },
    y,
  )
    where
      no_finish : finished Cut ≡ false
      no_finish = unfold finished kind in refl
