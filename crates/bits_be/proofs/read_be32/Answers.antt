-- `read_be32`: the four worths added up are the nested sum of `be_of-part_four`. Assumes nothing.
use Rattle.std.proofs.Common.{arith}
use Rattle.law_basic.specs.Be.{be_of-part_four}
use Rattle.bits_be.proofs.read_be32.Goals as goal

pub returns : goal.returns
returns c = omega (arith, c.from_be_bytes.ensures, be_of-part_four c.args.at c.args.src.now c.requires)
