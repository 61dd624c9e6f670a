-- `write_be`: the bytes from at + i on are the lowest width - i of n, and rest is what stands above them. Assumes nothing.
use Rattle.std.proofs.Common.{arith}
use Rattle.law_basic.specs.Be.{written-zero, written-suc}
use Rattle.bits_be.proofs.write_be.Goals as goal

pub loop-i-init : goal.loop-i-init
loop-i-init c = written-zero c.args.dst.now c.args.at c.args.width c.args.n

pub loop-i-preserved : goal.loop-i-preserved
loop-i-preserved c =
    let l = c.loop-i in
    let a = c.args in
    written-suc a.dst.now a.at a.width a.n l.i l.rest l.dst (omega arith) (omega arith) (omega arith) l.invariant.0 l.invariant.1
