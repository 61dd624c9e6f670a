-- `is_stripe`: both tests are those of the conjunction. Assumes nothing.
use Rattle.std.proofs.Common.{not, ◌&&◌, eqb}
use Rattle.spec.specs.Memory.{filled_in_of, is_free}
use Rattle.mem_state.proofs.is_stripe.Goals as goal

pub returns : goal.returns
unfolding is_free filled_in_of
returns c = λ j. not (c.is_free.ensures j) && eqb (c.stripe_in.ensures j) c.args.stripe
