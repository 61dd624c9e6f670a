-- `first_byte`: full: the start of block 1 + S, the first footer; else B bytes behind that of block 1. Both blocks are below the capacity. Assumes nothing.
use mathlib.Core.Path.{◌≡◌, sym, ap, ◌∙◌}
use mathlib.Core.Bool.{Bool, false}
use Prim.Native.Nat.{ℕ, ◌+◌}
use native.Mathlib.Omega.{arith}
use Rattle.law_basic.specs.Geometry.{ranged, capacity-low, image_high}
use Rattle.spec.specs.Params.{unit_len}
use Rattle.disk_stored.specs.Stored.{first_byte, first_foot_below}
use Rattle.disk_stored.proofs.first_byte.Goals as goal

pub overflow_add-p : goal.overflow_add-p
overflow_add-p c = let r = ranged c.args.p c.requires.p_value in omega (arith, r.stripes_high)

pub block_byte-requires : goal.block_byte-requires
block_byte-requires c =
    let args = c.args in
    let pre = c.requires in
    let p = args.p in
    let r = ranged p pre.p_value in record { p_value = pre.p_value; drive_lt_n = (pre.drive_lt_n.0, pre.drive_lt_n.1, first_foot_below p r) }

pub returns-then-full : goal.returns-then-full
unfolding first_byte
returns-then-full c =
    let a = c.args in
    let p = a.p in
    let r = ranged p c.requires.p_value in
    let v = c.if-full.true in
    (c.block_byte.ensures.0 ∙ ap (λ (x : Bool). first_byte p x a.drive a.zone) (sym v), omega (arith, c.block_byte.ensures.2))

pub block_byte-requires-2 : goal.block_byte-requires-2
block_byte-requires-2 c =
    let p = c.args.p in
    let r = ranged p c.requires.p_value in record { p_value = c.requires.p_value; drive_lt_n = (c.requires.drive_lt_n.0, c.requires.drive_lt_n.1, omega (arith, capacity-low p r)) }

pub overflow_add-result : goal.overflow_add-result
overflow_add-result c =
    let r = ranged c.args.p c.requires.p_value in
    omega (arith, c.block_byte-2.ensures.2, r.block_high)

pub returns : goal.returns
unfolding first_byte unit_len
returns c =
    let a = c.args in
    let p = a.p in
    let r = ranged p c.requires.p_value in
    let v = c.if-full.false in
    let e : c.block_byte-2.result + p.B ≡ first_byte p false a.drive a.zone = ap (λ (x : ℕ). x + p.B) c.block_byte-2.ensures.0 in
    (e ∙ ap (λ (x : Bool). first_byte p x a.drive a.zone) (sym v), omega (arith, c.block_byte-2.ensures.1, image_high p r))
