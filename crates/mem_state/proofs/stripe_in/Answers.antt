-- `stripe_in`: the number at index i is what the definition takes. Assumes nothing.
use Rattle.std.proofs.Common.{refl}
use Rattle.spec.specs.Memory.{stripe_in}
use Rattle.mem_state.proofs.stripe_in.Goals as goal

pub returns : goal.returns
unfolding stripe_in
returns c = refl
