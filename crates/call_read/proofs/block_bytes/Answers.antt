-- `block_bytes`: the first d entries are the bytes at which the present drives' blocks begin; each turn sets the next. Assumes nothing.
use mathlib.Core.Path.{◌≡◌, refl, ◌∙◌}
use mathlib.Core.Bool.{false}
use mathlib.Core.List.{List}
use Prim.Native.Nat.{ℕ}
use native.Mathlib.Omega.{arith}
use lib.ListN.{length, get_or, length-set}
use Rattle.spec.specs.Lists.{is_in}
use Rattle.spec.specs.Params.{image_len}
use Rattle.law_basic.specs.Each.{set_next}
use Rattle.law_basic.specs.Geometry.{ranged}
use Rattle.call_read.specs.Decode.{BlockAt}
use Rattle.call_read.proofs.block_bytes.Goals as goal

pub loop-d-init : goal.loop-d-init
loop-d-init c = (omega arith, refl, λ e h. absurd (let z : ⊥ = omega (arith, h) in z))

pub offset_bounds-at-d : goal.offset_bounds-at-d
offset_bounds-at-d c =
    omega (arith, c.loop-d-test.true, (ranged c.args.p c.requires.p_value).drives_high)

pub bounds-at-d : goal.bounds-at-d
bounds-at-d c =
    omega (arith, c.loop-d-test.true, (ranged c.args.p c.requires.p_value).drives_high, c.requires.zones_low.1.long)

pub block_on-requires : goal.block_on-requires
block_on-requires c =
    let q = c.requires in record { p_value = q.p_value; drive_lt_n = (c.loop-d-test.true, q.zones_low.0, q.zones_low.1.low c.loop-d.d c.loop-d-test.true) }

pub offset_bounds-bytes-d : goal.offset_bounds-bytes-d
offset_bounds-bytes-d c =
    omega (arith, c.loop-d-test.true, (ranged c.args.p c.requires.p_value).drives_high)

pub bounds-bytes-d : goal.bounds-bytes-d
bounds-bytes-d c =
    omega (arith, c.loop-d-test.true, (ranged c.args.p c.requires.p_value).drives_high, c.loop-d.invariant.1, c.requires.zones_low.2)

pub loop-d-preserved : goal.loop-d-preserved
loop-d-preserved c =
    let a = c.args in
    let l = c.loop-d in
    let t = c.loop-d-test.true in
    let d = (ranged a.p c.requires.p_value).drives_high in (
      omega (arith, t),
      length-set l.bytes l.d c.block_on.result ∙ l.invariant.1,
      set_next (λ e y. (im : List ℕ) → length im ≡ image_len a.p → is_in a.gone e ≡ false → BlockAt a.p im a.segment e (get_or a.at.now e 0) y)
          l.bytes l.d c.block_on.result (omega (arith, t, d, l.invariant.1, c.requires.zones_low.2)) l.invariant.2 c.block_on.ensures,
    )

pub shape_of-bytes : goal.shape_of-bytes
shape_of-bytes c = c.loop-d.invariant.1

pub returns : goal.returns
returns c =
    let l = c.loop-d in
    let e : l.d ≡ c.args.p.N = omega (arith, c.loop-d-test.false, l.invariant.0) in
    λ im h. (l.invariant.1 ∙ c.requires.zones_low.2, λ d k n. l.invariant.2 d (omega (arith, e, k)) im h n)
