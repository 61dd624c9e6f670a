-- `read_be64`: the number of the first four bytes, and four times one byte more. Assumes nothing.
use Rattle.std.proofs.Common.{arith}
use Rattle.law_basic.specs.Be.{be_of-part_four, be_of-part-suc}
use Rattle.bits_be.proofs.read_be64.Goals as goal

pub returns : goal.returns
returns c =
    let a = c.args.at in
    let l = c.args.src.now in
    omega (
      arith,
      c.from_be_bytes.ensures,
      be_of-part_four a l (omega arith),
      be_of-part-suc a 4 l (omega arith),
      be_of-part-suc a 5 l (omega arith),
      be_of-part-suc a 6 l (omega arith),
      be_of-part-suc a 7 l (omega arith),
    )
