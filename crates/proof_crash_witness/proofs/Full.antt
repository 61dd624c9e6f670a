-- The history of item 3: that the write meets both rules is evaluated, the rest is the theorem. Assumes nothing.
use mathlib.Core.Path.{◌≡◌, refl, ap}
use mathlib.Core.Bool.{true}
use Rattle.spec.specs.Engine.{Left}
use Rattle.spec.specs.Examples.{small}
use Rattle.spec_demands.specs.FullFirst.{crowded, refused_as_of}
use Rattle.proof_bytes.specs.Reordered.{full_before-waiting}
use Rattle.proof_crash_witness.specs.Crowded.{lent_then, one_more_of, Crowded}
use Rattle.proof_crash_witness.proofs.Evaluation.{evaluated}

crowds : crowded small lent_then one_more_of ≡ true
unfolding evaluated
crowds = refl

pub crowded-holds : Crowded
unfolding refused_as_of
crowded-holds =
    let item3 = full_before-waiting small lent_then one_more_of in
    record {
      meets = crowds;
      was = ap (λ (x : Left). x.answer) (item3.was crowds);
      is_now = ap (λ (x : Left). x.answer) (item3.becomes crowds);
    }
