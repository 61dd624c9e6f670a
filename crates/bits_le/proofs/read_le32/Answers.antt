-- `read_le32`: the four worths added up are the nested sum of `le_of_part_four`. Assumes nothing.
use Rattle.std.proofs.Common.{arith}
use Rattle.law_basic.specs.Le.{le_of_part_four}
use Rattle.bits_le.proofs.read_le32.Goals as goal

pub returns : goal.returns
returns c = omega (arith, c.from_le_bytes.ensures, le_of_part_four c.args.at c.args.src.now c.requires)
