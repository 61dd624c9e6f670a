-- `run_width`: after i turns the bytes of the first i numbers stand in front; one turn appends the 8 bytes of first + i, by `write_be`. Assumes nothing.
use native.Mathlib.Omega.{arith}
use Rattle.spec.specs.Bytes.{to_be}
use Rattle.spec.specs.Lists.{up_from}
use Rattle.mem_codec.specs.Codec.{written_none, written_all}
use Rattle.law_basic.specs.Be.{length-to_be}
use Rattle.law_basic.specs.Ranges.{length_up_from}
use Rattle.bench_leaves.specs.Bench.{run_one}
use Rattle.bench_leaves.proofs.run_width.Goals as goal

pub loop-i-init : goal.loop-i-init
loop-i-init c = written_none (to_be 8) 8 (length-to_be 8) 0 c.args.dst.now (up_from c.args.first c.args.n)

pub loop-i-preserved : goal.loop-i-preserved
loop-i-preserved c =
    let l = c.loop-i in
    let a = c.args in
    let q = c.write_be in
    let pre = c.requires in
    run_one a.dst.now l.dst q.new.dst l.i a.n a.first (omega arith) (pre) l.invariant q.ensures

pub returns : goal.returns
returns c =
    let l = c.loop-i in
    let a = c.args in
    written_all (to_be 8) 8 (length-to_be 8) 0 l.i a.dst.now l.dst (up_from a.first a.n) (omega (arith, length_up_from a.first a.n)) l.invariant
