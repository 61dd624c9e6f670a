-- `read` of a byte: it is the number that it says. Assumes nothing.
use Rattle.std.proofs.Common.{arith}
use Rattle.law_basic.specs.Le.{le_of_part-one}
use Rattle.mem_codec.proofs.U8Number.read.Goals as goal

pub returns : goal.returns
returns c = le_of_part-one c.args.at c.args.src.now (omega arith)
