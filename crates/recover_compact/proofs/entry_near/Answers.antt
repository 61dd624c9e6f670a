-- `entry_near`: for s less than G behind base, a multiple of G, s - base is the entry, by `near`, and below 256; else it is worked out. Assumes nothing.
use Prim.Native.Nat.{◌-◌}
use native.Mathlib.Omega.{arith}
use Rattle.law_basic.specs.Geometry.{ranged}
use Rattle.recover_compact.specs.Compacts.{near}
use Rattle.recover_compact.proofs.entry_near.Goals as goal

pub overflow_cast-result : goal.overflow_cast-result
overflow_cast-result c =
    let r = ranged c.args.p c.requires.p_value in
    omega (arith, c.if-k-p.true, r.group_high)

pub returns-then-k-p : goal.returns-then-k-p
returns-then-k-p c =
    let a = c.args in
    let if1 = c.if-s-base in
    let pre = c.requires in
    let r = ranged a.p pre.p_value in
    near a.p a.base (a.s - a.base) a.s (omega (arith, r.group-low)) pre.g_value c.if-k-p.true (omega (arith, if1.false))
