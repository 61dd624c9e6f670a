-- `fold_longs`: x is the exclusive or of the first i numbers; one turn adds number i, as `read_be64` reads it. Assumes nothing.
use mathlib.Core.Path.{◌≡◌, ap, ◌∙◌}
use Prim.Native.Nat.{ℕ}
use native.Mathlib.Omega.{arith}
use Rattle.spec.specs.Bytes.{xor_all}
use Rattle.bench_leaves.specs.Bench.{longs_in, fold_none, fold_one}
use Rattle.bench_leaves.proofs.fold_longs.Goals as goal

pub loop-i-init : goal.loop-i-init
loop-i-init c = fold_none c.args.src.now

pub loop-i-preserved : goal.loop-i-preserved
loop-i-preserved c =
    let l = c.loop-i in
    let args = c.args in
    fold_one args.src.now l.i l.x c.read_be64-x.result l.invariant c.read_be64-x.ensures

pub returns : goal.returns
returns c =
    let l = c.loop-i in
    let a = c.args in
    let e : l.i ≡ a.n = omega arith in
    l.invariant ∙ ap (λ (k : ℕ). xor_all (longs_in k a.src.now)) e
