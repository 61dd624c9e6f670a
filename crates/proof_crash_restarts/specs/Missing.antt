-- A restart that names drives missing, whatever they hold. Assumes nothing.
use Rattle.std.specs.Prelude.{◌≡◌, refl, List, [], ◌∷◌, Bool, false, true, ℕ, max, ◌≤◌, ◌<◌}
use Rattle.std.proofs.Common.{ap, inl, inr, arith}
use Rattle.spec.specs.declared.Params.{Params}
use Rattle.spec.specs.Drives.{View, zone_at}
use Rattle.spec.specs.Lists.{is_in}
use Rattle.law_basic.specs.Geometry.{Ranged}
use Rattle.proof_crash_machine.specs.Distrust.{distrust}
use Rattle.proof_crash_machine.specs.Facts.{Ghost, InV, Choice, self}
use Rattle.proof_crash_machine.specs.Finish.{Reads, finishing}
use Rattle.proof_crash_machine.specs.History.{Mode, Step, Claim}
use Rattle.proof_crash_machine.proofs.History.{claim}
use Rattle.proof_crash_machine.specs.History.Step.{missing}
use Rattle.proof_crash_machine.specs.History.Mode.{ro}
use Rattle.proof_crash_machine.specs.Rebuild.{with_un}
use Rattle.proof_crash_machine.specs.Val.{Val}
use Rattle.proof_crash_machine.specs.Untrusted.{untrusted}
use Rattle.proof_crash_items.specs.Cands.{stamp_read_holds, reads}
use Rattle.proof_crash_items.specs.Ranges.{par_of}
use Rattle.proof_crash_items.specs.Segs.{OnDrives}
use Rattle.proof_crash_items.specs.Shape.{Shape}
use Rattle.proof_crash_restarts.specs.Link.{state_on, Linked, linked_step}
use Rattle.proof_crash_items.specs.Carry.{Tie, tie_less, tie_on}
use Rattle.proof_crash_machine.specs.View.{ItemView}

-- no stamp in the list is greater
pub stamps_top_lem : List Val → ℕ
stamps_top_lem [] = 0
stamps_top_lem (x ∷ l) = max x.stamp (stamps_top_lem l)

pub stamps_top : (l : List Val) (x : Val) → InV x l → x.stamp ≤ stamps_top_lem l
unfolding stamps_top_lem
stamps_top [] x m = absurd m
stamps_top (y ∷ l) x (inl e) = let q : x.stamp ≡ y.stamp = ap (λ (w : Val). w.stamp) e in omega arith
stamps_top (y ∷ l) x (inr m) = let q : x.stamp ≤ stamps_top_lem l = stamps_top l x m in omega arith

-- v: the drives before, v': as this restart finds them, alike where m misses none; u, u' the machine's views of them
module _ (p : Params) (r : Ranged p) (off : List ℕ) (v v' : View) (u u' : ItemView) (g : Ghost) (a : List Val) (s : Bool) (mo : Mode) (lk : Linked p r off v u g a s mo)
    (m : ℕ) (lost : (d : ℕ) × (d < p.N) × (is_in m d ≡ true)) (ch : Choice (par_of p r off) g.un (is_in m))
    (sh : Shape p v') (list-kept : v'.offline ≡ off) (same : (e y : ℕ) → e < p.N → is_in m e ≡ false → zone_at v' e y ≡ zone_at v e y)
    (items-same : (e y : ℕ) → e < p.N → is_in m e ≡ false → u e y ≡ u' e y) where
  pub missing_tie : Tie p r off (is_in m) g.hd v' u'
  missing_tie = tie_less p r off g.un (is_in m) g.hd v v' u u' ch sh list-kept same items-same lk.tie

  -- the drives as this restart sees them
  pub missing_on_holds : OnDrives p r off (with_un g (is_in m)) v' u'
  missing_on_holds = tie_on p r off (with_un g (is_in m)) v' u' missing_tie
      (untrusted (par_of p r off) (with_un g (is_in m)) u u' items-same (distrust (par_of p r off) g u (is_in m) ch lk.inv.facts))

  abbrev pub missing_self : Choice (par_of p r off) (is_in m) (is_in m)
  missing_self = self (par_of p r off) (is_in m) ch.0

  unfoldable pub missing_read : ℕ → ℕ
  missing_read = stamp_read_holds p r off (with_un g (is_in m)) v' u' missing_on_holds m missing_self

  reads? : Reads (par_of p r off) g.hd u' (is_in m) missing_read
  reads? = unfold missing_read in reads p r off (with_un g (is_in m)) v' u' missing_on_holds m missing_self

  missing_finish_step : Step (par_of p r off) (state_on u g a s mo) (state_on u' (finishing g (is_in m) missing_read (stamps_top_lem g.sent) g.sent) a false ro)
  missing_finish_step = missing (state_on u g a s mo) (is_in m) (stamps_top_lem g.sent) u' missing_read lost ch items-same reads? (stamps_top g.sent)

  pub missing_linked : Linked p r off v' u' (finishing g (is_in m) missing_read (stamps_top_lem g.sent) g.sent) a false ro
  missing_linked = linked_step p r off v v' u u' g (finishing g (is_in m) missing_read (stamps_top_lem g.sent) g.sent) a a s false mo ro lk missing_finish_step missing_tie

  pub missing_claim : Claim (par_of p r off) (state_on u g a s mo) (is_in m) missing_read
  missing_claim = claim (par_of p r off) (state_on u g a s mo) lk.inv (with_un g (is_in m)) u' missing_on_holds.facts refl refl refl refl refl (is_in m) missing_self missing_read reads?
