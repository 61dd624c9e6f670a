-- `place_at`: the four bytes at 4 * a are what the definition reads. Assumes nothing.
use Rattle.spec.specs.Memory.{place_at_of}
use Rattle.mem_tables.proofs.place_at.Goals as goal

pub returns : goal.returns
unfolding place_at_of
returns c = c.read_be32.ensures
