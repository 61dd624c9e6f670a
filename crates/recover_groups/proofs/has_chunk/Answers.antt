-- `has_chunk`: the number in the index is not 0 just where the segment has the chunk, by `entry_has_chunk`. Assumes nothing.
use mathlib.Core.Path.{refl}
use Rattle.recover_groups.specs.Chunks.{entry_has_chunk}
use Rattle.recover_groups.proofs.has_chunk.Goals as goal

pub returns : goal.returns
returns c = record { value = refl; value_2 = λ p g base x hd hk. entry_has_chunk p g base c.args.at.now x c.args.drive c.args.k hd hk }
