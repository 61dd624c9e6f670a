-- Across a restart or a rebuild: log and acknowledgements stay, and what is read shows what was sent. Assumes nothing.
use Rattle.std.specs.Prelude.{◌≡◌, List, map, Bool, true, false, ℕ, ◌≤◌, ◌<◌, length}
use Rattle.std.proofs.Common.{sym, ◌∙◌, subst, inl, inr, ⊎_elim, arith}
use Rattle.std.proofs.Math.Path.{ap}
use Rattle.spec.specs.declared.Params.{Params}
use Rattle.spec.specs.Drives.{View, Disk, above_narrow}
use Rattle.spec.specs.Engine.{lent_ok_of}
use Rattle.spec.specs.History.{mk_world, Send, forget, seen_at}
use Rattle.spec.specs.History.Seen.{unwritten, got}
use Rattle.spec.specs.Memory.{Memory}
use Rattle.spec.specs.Params.{in_range}
use Rattle.spec.specs.Lists.{is_in}
use Rattle.law_basic.specs.Geometry.{Ranged, addresses_all}
use Rattle.law_views.specs.Views.{Whole, seen}
use Rattle.proof_crash_machine.specs.Facts.{Ghost, InV, Choice, Counted}
use Rattle.proof_crash_machine.specs.History.{Mode, Inv}
use Rattle.proof_crash_machine.specs.Order.{Track}
use Rattle.proof_crash_machine.proofs.Order.{less}
use Rattle.proof_crash_machine.specs.Val.{Val, pads}
use Rattle.proof_crash_items.specs.Cands.{stamp_read_holds}
use Rattle.proof_crash_items.specs.Carry.{Tie}
use Rattle.proof_crash_machine.specs.View.{ItemView}
use Rattle.proof_crash_items.specs.Ranges.{par_of}
use Rattle.proof_crash_items.specs.Reading.{Tabled, ReadsBlock, seen_is}
use Rattle.proof_crash_items.specs.Segs.{OnDrives}
use Rattle.proof_crash_calls.specs.Go.{mst}
use Rattle.proof_crash_calls.specs.Live.{Reached}
use Rattle.proof_crash_calls.specs.Readings.{Shows}
use Rattle.proof_crash_calls.proofs.Sends.{length-forget, forget_logged}

module _ (p : Params) (h : Ranged p) (off : List ℕ) (v : View) (u : ItemView) (ss : List Send) (n : ℕ) (g : Ghost) (a : List Val) (c : Bool) (m : Mode) (T : Track)
    (r : Reached p h off v u ss n g a c m T) where
  -- other drives v', which the machine sees as u', ghost, mode and mark, what was acknowledged is as it was
  pub reached_to : (v' : View) (u' : ItemView) (g' : Ghost) (c' : Bool) (m' : Mode) (n' : ℕ) → Inv (par_of p h off) (mst g' u' a c' m')
      → Tie p h off g'.un g'.hd v' u'
      → ((x : Val) → InV x g'.sent → InV x g.sent) → n' ≤ length ss → (length ss ≡ n' → c' ≡ false) → Reached p h off v' u' ss n' g' a c' m' T
  reached_to v' u' g' c' m' n' I tie fewer low still = record {
    inv = I;
    tracked = less (mst g u a c m) (mst g' u' a c' m') T fewer r.tracked;
    tie = tie;
    logged = r.logged;
    marked = low;
    still = still;
  }

  -- the run is over
  pub reached_forget : Reached p h off v u (map forget ss) n g a c m T
  reached_forget = record {
    inv = r.inv;
    tracked = r.tracked;
    tie = r.tie;
    logged = forget_logged p a T ss r.logged;
    marked = omega (arith, r.marked, length-forget ss);
    still = λ e. r.still (sym (length-forget ss) ∙ e);
  }

-- what the read calls give on a restart's tables, m missing: the block of a value sent
pub shows_read : (p : Params) (h : Ranged p) (off : List ℕ) (g : Ghost) (dk : Disk) (u : ItemView) (w : Whole p dk) (k : OnDrives p h off g (seen p off dk) u)
    (known : (x : Val) → InV x g.sent → (0 < x.stamp) × (x.addr < p.L))
    (m : ℕ) (c : Choice (par_of p h off) g.un (is_in m)) (mem : Memory) (t : Tabled p (seen p off dk) m mem) (h₁ : in_range p ≡ true) (h₂ : lent_ok_of p off dk mem ≡ true)
    (fit : above_narrow p off ≡ false) (a : ℕ) → a < p.L → Shows p g.sent (stamp_read_holds p h off g (seen p off dk) u k m c) a (seen_at p off (mk_world dk mem) a)
shows_read p h off g dk u w k known m c mem t h₁ h₂ fit a l = ⊎_elim
    (λ (e : (stamp_read_holds p h off g (seen p off dk) u k m c a ≡ 0) × (seen_at p off (mk_world dk mem) a ≡ unwritten)). inl e)
    (λ (y : ReadsBlock p h off g dk u w k known m c mem t h₁ h₂ fit a). inr (record {
      block = y.block;
      value = y.value;
      sent = sent? y.value y.counts (subst (λ (i : ℕ). i < p.L) (sym y.addr) l);
      addr = y.addr;
      stamp = y.stamp;
      long = y.long;
      is = y.is;
      shows = y.shows ∙ ap (got y.block) y.stamp;
    })) (seen_is p h off g dk u w k known m c mem t h₁ h₂ fit a l)
  where
    sent? : (y : Val) → Counted (par_of p h off) g.hd u (is_in m) y → y.addr < p.L → InV y g.sent
    sent? y q b = ⊎_elim (λ (e : y ≡ pads). absurd (let i : ⊥ = omega (arith, pads_high y e, b, addresses_all p h) in i)) (λ (i : InV y g.sent). i)
        (k.facts.parity.sound (is_in m) c q.z q.s q.f q.st y q.dt)
      where
        pads_high : (y : Val) → y ≡ pads → y.addr ≡ 18446744073709551615
        pads_high y e = unfold pads in ap (λ (x : Val). x.addr) e
