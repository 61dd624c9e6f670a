-- How a call ends: refused, done or cut. Assumes nothing.
use Rattle.std.specs.Prelude.{◌≡◌, refl, List, Bool, true, ℕ, length}
use Rattle.std.proofs.Common.{sym, ap, subst}
use Rattle.std.proofs.Math.Bool.{false}
use Rattle.std.proofs.Math.Dec.{leb}
use Rattle.spec.specs.declared.Answer.{Answer}
use Rattle.spec.specs.declared.Answer.TheVariants.{Cut}
use Rattle.spec.specs.declared.Params.{Params}
use Rattle.spec.specs.Answers.{kind, is_refused, is_refused_as, is_cut_of, finished}
use Rattle.spec.specs.Calls.{Check, first_refusal, Plan, Verdict, decided, After, mk_after, limited, outcome}
use Rattle.spec.specs.Drives.{Disk, store_disk, store_all}
use Rattle.spec.specs.Lists.Opt.{none, some}
use Rattle.spec.specs.Memory.{Memory}
use Rattle.law_basic.specs.Stores.{refused_same}
use Rattle.law_checks.specs.Checks.{Decided, decide}
use Rattle.law_checks.specs.Checks.Decided.{stops, goes}
use Rattle.spec.specs.Calls.Verdict.{due}

pub data EndedAs (p : Params) (k : Disk) (m : Memory) (cs : List Check) (q : Plan) (r : After Disk) : Type 0 where
  ended-refused : (a : Answer) → first_refusal cs ≡ some a → r.answer ≡ a → r.drives ≡ k → r.memory ≡ m → EndedAs p k m cs q r
  ended_done : first_refusal cs ≡ none → r.answer ≡ q.answer → r.drives ≡ store_all (store_disk p) q.stores k → r.memory ≡ q.memory → EndedAs p k m cs q r
  ended-cut : first_refusal cs ≡ none → r.answer ≡ Cut → EndedAs p k m cs q r

pub outcome_ends : (p : Params) (k : Disk) (m : Memory) (cs : List Check) (q : Plan) (n : ℕ) (b : List ℕ) → EndedAs p k m cs q (outcome p (store_disk p) n k m b (decided (first_refusal cs) q))
outcome_ends p k m cs q n b = go (decide cs q)
  where
    limits : (t : Bool) → leb (length q.stores) n ≡ t → first_refusal cs ≡ none → EndedAs p k m cs q (outcome p (store_disk p) n k m b (due q))
    limits true e c = ended_done c (ap (λ (r : After Disk). r.answer) (all! e)) (ap (λ (r : After Disk). r.drives) (all! e)) (ap (λ (r : After Disk). r.memory) (all! e))
      where
        all! : leb (length q.stores) n ≡ true → outcome p (store_disk p) n k m b (due q) ≡ mk_after q.answer (store_all (store_disk p) q.stores k) q.memory q.block
        all! e = unfold outcome limited in rw e
    limits false e c = ended-cut c (cut! e)
      where
        cut! : leb (length q.stores) n ≡ false → (outcome p (store_disk p) n k m b (due q)).answer ≡ Cut
        cut! e = unfold outcome limited in rw e

    go : Decided cs q (decided (first_refusal cs) q) → EndedAs p k m cs q (outcome p (store_disk p) n k m b (decided (first_refusal cs) q))
    go (stops a e w) = subst (λ (x : Verdict). EndedAs p k m cs q (outcome p (store_disk p) n k m b x)) (sym w)
        (ended-refused a e (ap (λ (r : After Disk). r.answer) (refused_same p (store_disk p) n k m b a))
        (ap (λ (r : After Disk). r.drives) (refused_same p (store_disk p) n k m b a))
        (ap (λ (r : After Disk). r.memory) (refused_same p (store_disk p) n k m b a)))
    go (goes c w) = subst (λ (x : Verdict). EndedAs p k m cs q (outcome p (store_disk p) n k m b x)) (sym w) (limits (leb (length q.stores) n) refl c)

pub cut_unfinished : finished Cut ≡ false
unfolding finished kind
cut_unfinished = refl

pub cut-cut : is_cut_of Cut ≡ true
unfolding is_cut_of kind
cut-cut = refl

pub cut_mild : is_refused_as 9 Cut ≡ false
unfolding is_refused_as is_refused kind
cut_mild = refl
