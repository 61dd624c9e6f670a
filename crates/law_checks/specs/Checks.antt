-- Lists of checks: what is decided, that a refusal is one, and lists of which the ninth refuses nothing. Assumes nothing.
use Rattle.std.specs.Prelude.{◌≡◌, List, false}
use Rattle.std.proofs.Math.Path.{refl}
use Rattle.std.proofs.Common.{ap, ◌∙◌}
use Rattle.spec.specs.declared.Answer.{Answer}
use Rattle.spec.specs.Answers.{is_refused_as}
use Rattle.spec.specs.Calls.{Check, first_refusal, Plan, Verdict, decided}
use Rattle.spec.specs.Calls.Verdict.{refused, due}
use Rattle.spec.specs.Lists.{Opt}
use Rattle.spec.specs.Lists.Opt.{none, some}

-- if a check refuses, it isn't the ninth
abbrev pub Mild : List Check → Type 0
Mild cs = (a : Answer) → first_refusal cs ≡ some a → is_refused_as 9 a ≡ false

-- ---- what is decided

pub data Decided (cs : List Check) (q : Plan) (w : Verdict) : Type 0 where
  stops : (a : Answer) → first_refusal cs ≡ some a → w ≡ refused a → Decided cs q w
  goes : first_refusal cs ≡ none → w ≡ due q → Decided cs q w

pub decide : (cs : List Check) (q : Plan) → Decided cs q (decided (first_refusal cs) q)
decide cs q = go (first_refusal cs) refl
  where
    go : (o : Opt Answer) → first_refusal cs ≡ o → Decided cs q (decided (first_refusal cs) q)
    go none e = goes e (ap (λ (x : Opt Answer). decided x q) e ∙ due_is)
      where
        due_is : decided none q ≡ due q
        due_is = unfold decided in refl
    go (some a) e = stops a e (ap (λ (x : Opt Answer). decided x q) e ∙ refused_is)
      where
        refused_is : decided (some a) q ≡ refused a
        refused_is = unfold decided in refl

-- ---- answers
