-- `write` of a byte: it is its own number below 256. Assumes nothing.
use Rattle.std.proofs.Common.{arith}
use Rattle.mem_codec.specs.Codec.{byte_written}
use Rattle.mem_codec.proofs.U8Number.write.Goals as goal

pub returns : goal.returns
returns c = byte_written c.args.dst.now c.args.at c.args.self (omega arith) (omega arith)
