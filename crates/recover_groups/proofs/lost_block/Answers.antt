-- `lost_block`: the first d entries are the offsets of the blocks of present drives; from all of them `decode_block` decodes. Assumes nothing.
use mathlib.Core.Path.{◌≡◌, refl, sym, ◌∙◌}
use mathlib.Core.Bool.{false}
use mathlib.Core.List.{List}
use Prim.Native.Nat.{ℕ, ◌+◌, ◌≤◌}
use native.Mathlib.Omega.{arith}
use lib.ListN.{get_or, length-set}
use Rattle.spec.specs.Bytes.{part}
use Rattle.spec.specs.Lists.{is_in}
use Rattle.spec.specs.Params.{image_len}
use Rattle.spec.specs.Segments.{stored_piece}
use Rattle.law_basic.specs.Each.{set_next}
use Rattle.law_basic.specs.Geometry.{ranged}
use Rattle.law_code.specs.Code.{decode_block_same}
use Rattle.recover_groups.specs.Bases.{group_len_fits}
use Rattle.recover_groups.specs.Groups.{segment_in, GroupReads}
use Rattle.recover_groups.proofs.lost_block.Goals as goal

pub loop-d-init : goal.loop-d-init
loop-d-init c = (omega arith, refl, λ e h n. absurd (let z : ⊥ = omega (arith, h) in z))

pub present_block-requires : goal.present_block-requires
present_block-requires c =
    let pre = c.requires in record { p_value = pre.p_value; at_len = (pre.image_len.1, pre.image_len.2, pre.image_len.3, c.loop-d-test.true, pre.image_len.5); all_entered = pre.all_entered }

pub offset_bounds-from-d : goal.offset_bounds-from-d
offset_bounds-from-d c =
    omega (arith, c.loop-d-test.true, (ranged c.args.p c.requires.p_value).drives_high)

pub bounds-from-d : goal.bounds-from-d
bounds-from-d c =
    omega (arith, c.loop-d-test.true, (ranged c.args.p c.requires.p_value).drives_high)

pub loop-d-preserved : goal.loop-d-preserved
loop-d-preserved c =
    let a = c.args in
    let pre = c.requires in
    let l = c.loop-d in
    let p = a.p in
    let w = a.w in
    let im = a.image.now in
    let t = c.loop-d-test.true in
    let d = (ranged p pre.p_value).drives_high in (
      omega (arith, t),
      length-set l.from l.d c.present_block.result ∙ l.invariant.1,
      set_next
          (λ e y. is_in w.gone e ≡ false → (y + p.B ≤ image_len p) × ((off ps : List ℕ) → GroupReads p off im ps w a.at.now
          → (stored_piece (segment_in p off im ps w) (w.base + a.k) e).block ≡ part y p.B im))
          l.from l.d c.present_block.result (omega (arith, t, d, l.invariant.1)) l.invariant.2
          (λ n. (c.present_block.ensures.b_bound n, λ off ps x. c.present_block.ensures.by_index off im ps pre.image_len.0 x n)),
    )

pub overflow_add-s : goal.overflow_add-s
overflow_add-s c =
    let a = c.args in
    let pre = c.requires in
    let g = group_len_fits a.p a.w.base (omega (arith, pre.image_len.3)) in
    omega (arith, g, pre.image_len.5, (ranged a.p pre.p_value).stripes_high)

pub decode_block-requires : goal.decode_block-requires
decode_block-requires c =
    let pre = c.requires in
    let l = c.loop-d in
    let e : l.d ≡ c.args.p.N = omega (arith, c.loop-d-test.false, l.invariant.0) in
    record {
      p_value = pre.p_value;
      at_len = (l.invariant.1, pre.image_len.6, pre.image_len.4);
      parts_within = λ k h n. omega
          (arith, (l.invariant.2 k (omega (arith, h, e)) n).0, pre.image_len.0);
    }

pub returns : goal.returns
returns c =
    let a = c.args in
    let l = c.loop-d in
    let p = a.p in
    let w = a.w in
    let im = a.image.now in
    let e : l.d ≡ p.N = omega (arith, c.loop-d-test.false, l.invariant.0) in
    λ off ps x. c.decode_block.ensures
    ∙ decode_block_same p w.gone (w.base + a.k) a.drive (λ k. part (get_or l.from k 0) p.B im) (λ k. (stored_piece (segment_in p off im ps w) (w.base + a.k) k).block)
    (λ k h n. sym ((l.invariant.2 k (omega (arith, h, e)) n).1 off ps x))
