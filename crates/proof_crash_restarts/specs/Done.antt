-- A healthy restart has finished: the drives u, what it read, and the machine's state. Assumes nothing.
use Rattle.std.specs.Prelude.{◌≡◌, refl, List, Bool, false, ℕ, ◌≤◌, ◌<◌}
use Rattle.std.proofs.Math.ListN.{set}
use Rattle.spec.specs.declared.Params.{Params}
use Rattle.spec.specs.Drives.{View}
use Rattle.spec.specs.Lists.Opt.{none}
use Rattle.spec.specs.Segments.{segments, candidates, greatest_stamp, greatest_serial}
use Rattle.law_basic.specs.Geometry.{Ranged}
use Rattle.proof_crash_machine.specs.Facts.{Ghost, InV, Counted, Used, None, none_fair, self_none}
use Rattle.proof_crash_machine.specs.Facts.Pair.{alone}
use Rattle.proof_crash_machine.specs.Finish.{Reads, up_to, finishing}
use Rattle.proof_crash_machine.specs.Ghosts.{with_pr}
use Rattle.proof_crash_machine.specs.History.{Mode, Dropping, Step, Claim}
use Rattle.proof_crash_machine.proofs.History.{claim}
use Rattle.proof_crash_machine.specs.History.Mode.{run}
use Rattle.proof_crash_machine.specs.History.Step.{restart_plain}
use Rattle.proof_crash_machine.specs.Memory2.{rest_mem}
use Rattle.proof_crash_machine.specs.Val.{Val}
use Rattle.proof_crash_machine.specs.View.{ItemView, ItemStore, apply_all}
use Rattle.proof_crash_items.specs.Cands.{stamp_read_holds}
use Rattle.proof_crash_items.specs.Ranges.{par_of}
use Rattle.proof_crash_restarts.specs.Ends.{InOrder, Opened, none_choice, tidy, opened_is, ends_reads, ends_stamps, ends_serials}
use Rattle.proof_crash_restarts.specs.Link.{state_on, Linked, linked_step, SameHistory}
use Rattle.proof_crash_restarts.specs.Rest.{SettledOn}
use Rattle.proof_crash_items.specs.Carry.{on_tie}

unfoldable pub stamp_top : Params → View → ℕ
stamp_top p v = greatest_stamp (candidates p 0 (segments p v 0))

unfoldable pub serial_top : Params → View → ℕ
serial_top p v = greatest_serial (segments p v 0)

-- what it read: at each address the greatest counted stamp
unfoldable pub read_on : (p : Params) (r : Ranged p) (off : List ℕ) (g : Ghost) (v : View) (u : ItemView) → SettledOn p r off g v u → ℕ → ℕ
read_on p r off g v u k = stamp_read_holds p r off g v u k.on 0 (none_choice p r off g v u k)

-- z is the open segment's serial
pub record RestartDone (p : Params) (r : Ranged p) (off : List ℕ) (g : Ghost) (a : List Val) (s : Bool) (v : View) : Type 0 where
  pub u : ItemView
  pub g' : Ghost
  pub same : SameHistory g g'
  pub set : SettledOn p r off g' v u
  pub b : Bool
  pub z : ℕ
  pub n : ℕ
  pub opened : Opened p r off g' v u b z n
  pub linked : Linked p r off v u (finishing g' g'.un (read_on p r off g' v u set) (stamp_top p v) (up_to (stamp_top p v) g'.sent)) a false
      (run (rest_mem b z n (stamp_top p v) (serial_top p v)))
  -- what is claimed of it, for the history before it
  pub acked : (x : Val) → InV x a → x.stamp ≤ read_on p r off g' v u set x.addr
  pub sent : (i : ℕ) → 0 < read_on p r off g' v u set i → (x : Val) × InV x g.sent × (x.addr ≡ i) × (x.stamp ≡ read_on p r off g' v u set i)
  pub floor : (i : ℕ) → g.last i ≤ read_on p r off g' v u set i
  pub still : s ≡ false → (i : ℕ) → read_on p r off g' v u set i ≡ g.last i

-- ---- nothing to rewrite: v becomes v' by resets alone

module _ (p : Params) (r : Ranged p) (off : List ℕ) (v v' : View) (u : ItemView) (g : Ghost) (a : List Val) (s : Bool) (m : Mode) (k : Linked p r off v u g a s m)
    (none : None (par_of p r off) g.un) (ms : List ItemStore) (d : Dropping (par_of p r off) g u none ms) (set : SettledOn p r off (with_pr g alone) v' (apply_all u ms)) (ord : InOrder p v') where
  abbrev u' : ItemView
  u' = apply_all u ms

  o : (b : Bool) × (z : ℕ) × (n : ℕ) × Opened p r off (with_pr g alone) v' u' b z n
  o = opened_is p r off (with_pr g alone) v' u' set ord

  done_reads : Reads (par_of p r off) g.hd u' g.un (read_on p r off (with_pr g alone) v' u' set)
  done_reads = unfold read_on in ends_reads p r off (with_pr g alone) v' u' set

  done_stamps : (x : Val) → Counted (par_of p r off) g.hd u' g.un x → x.stamp ≤ stamp_top p v'
  done_stamps = unfold stamp_top in ends_stamps p r off (with_pr g alone) v' u' set

  done_serials : (y : ℕ) → Used (par_of p r off) g.un u' y → g.hd.ser y ≤ serial_top p v'
  done_serials = unfold serial_top in ends_serials p r off (with_pr g alone) v' u' set

  abbrev g_f : Ghost
  g_f = finishing (with_pr g alone) g.un (read_on p r off (with_pr g alone) v' u' set) (stamp_top p v') (up_to (stamp_top p v') g.sent)

  done_step : Step (par_of p r off) (state_on u g a s m) (state_on u' g_f a false (run (rest_mem o.0 o.1 o.2 (stamp_top p v') (serial_top p v'))))
  done_step = restart_plain (state_on u g a s m) none ms d (tidy p r off (with_pr g alone) v' u' set ord) (read_on p r off (with_pr g alone) v' u' set) (stamp_top p v') done_reads done_stamps
      o.0 o.1 o.2 o.3.few o.3.lone o.3.whole o.3.low (serial_top p v') done_serials

  done_claim : Claim (par_of p r off) (state_on u g a s m) g.un (read_on p r off (with_pr g alone) v' u' set)
  done_claim = claim (par_of p r off) (state_on u g a s m) k.inv (with_pr g alone) u' set.on.facts refl refl refl refl refl g.un (self_none (par_of p r off) g.un none)
      (read_on p r off (with_pr g alone) v' u' set) done_reads

  pub plain_done : RestartDone p r off g a s v'
  plain_done = record {
    u = u';
    g' = with_pr g alone;
    same = record { un = refl; said = refl; sent = refl; last = refl; base = refl; top = refl };
    set = set;
    b = o.0;
    z = o.1;
    n = o.2;
    opened = o.3;
    linked = linked_step p r off v v' u u' g g_f a a s false m (run (rest_mem o.0 o.1 o.2 (stamp_top p v') (serial_top p v'))) k done_step
        (on_tie p r off (with_pr g alone) v' u' set.on);
    acked = done_claim.acked;
    sent = done_claim.sent;
    floor = done_claim.floor;
    still = λ q. done_claim.same q (none_fair (par_of p r off) g.said g.un none);
  }
