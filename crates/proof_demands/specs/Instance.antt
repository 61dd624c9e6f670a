-- The premises of demand 2 can be met: on empty drives some store count lets a restart finish, by demand 1. Assumes nothing.
use Rattle.std.specs.Prelude.{◌≡◌, refl, List, [], Bool, true, false, ◌||◌, ℕ, eqb}
use Rattle.std.proofs.Common.{sym, ◌∙◌, arith}
use Rattle.std.proofs.Math.ListN.{length}
use Rattle.spec.specs.declared.Params.{Params}
use Rattle.spec.specs.declared.Answer.{Answer}
use Rattle.spec.specs.Answers.{kind, is_refused, is_cut_of, finished}
use Rattle.spec.specs.Demands.{are_bytes}
use Rattle.spec.specs.Engine.{Call, Lent, lent_disk, call_bytes}
use Rattle.spec.specs.Engine.Call.{restart}
use Rattle.spec.specs.History.{empty_disk}
use Rattle.spec.specs.Lists.{any, is_member_of}
use Rattle.spec.specs.Params.{named}
use Rattle.spec.specs.Segments.{segments}
use Rattle.spec_demands.specs.Answering.{results_of, Answers, with_count}
use Rattle.spec_demands.specs.Answering.Answers.{result, cut, refusal}
use Rattle.spec_demands.specs.Engines.{call_lent, on_bytes, view_in}
use Rattle.spec_demands.specs.Histories.{lent_in_order}
use Rattle.spec_demands.specs.Tables.{SaysOn}
use Rattle.proof_answers.specs.Answered.{demand_1}
use Rattle.law_drives.specs.Tests.{clash}
use Rattle.proof_demands.specs.Demand.{demand_2}
use Rattle.proof_demands.specs.Empty.{accepts_empty}

or-false : (b : Bool) → b || false ≡ b
or-false true = refl
or-false false = refl

-- neither refused nor cut is finished
is_finished : (d n : ℕ) (r : Answer) → Answers (restart d n) r → is_refused r ≡ false → is_cut_of r ≡ false → finished r ≡ true
unfolding results_of is_member_of any finished
is_finished d n r (result q) nr nc = sym (or-false (eqb (kind r) 12)) ∙ q
is_finished d n r (cut q s) nr nc = clash q nc
is_finished d n r (refusal q s) nr nc = clash q nr

module _ (p : Params) (l : Lent) (d : ℕ) (o : lent_in_order p l d ≡ true) (e : empty_disk p l.offline (lent_disk l) ≡ true) where
  -- a store count that is enough
  restart_finishes : (n : ℕ) × (finished (call_bytes p l (restart d n)).answer ≡ true)
  unfolding with_count
  restart_finishes =
      let (ss, due) = (demand_1 p l (restart d 0)).stores in
      let n = length ss in
      (n, is_finished d n (call_bytes p l (restart d n)).answer (demand_1 p l (restart d n)).answers (accepts_empty p l d n o e) (due.whole n (omega arith)))

  -- so the theorem speaks of what any calls leave there
  pub empty_says : are_bytes l.image ≡ true → (cs : List Call)
      → (n : ℕ) × SaysOn on_bytes p (call_lent p l (restart d n)).world [] (segments p (view_in on_bytes p l) (named d)) cs
  unfolding call_lent lent_disk
  empty_says by cs = let (n, q) = restart_finishes in (n, (demand_2.after_restart p l d n cs by q).1)
