-- `set_place`: the four bytes written at 4 * a are the definition's splice. Assumes nothing.
use Rattle.spec.specs.Memory.{set_place}
use Rattle.mem_tables.proofs.set_place.Goals as goal

pub returns : goal.returns
unfolding set_place
returns c = c.write_be32.ensures
