-- `lost_rec`: the first d entries are the addresses and stamps of present drives; from all of them `decode_record` decodes. Assumes nothing.
use mathlib.Core.Path.{◌≡◌, refl, sym, ap, ◌∙◌}
use mathlib.Core.Bool.{false}
use mathlib.Core.List.{List}
use Prim.Native.Nat.{ℕ, ◌+◌}
use native.Mathlib.Omega.{arith}
use lib.ListN.{get_or, length-set}
use Rattle.spec.specs.Layout.{Rec, mk_rec}
use Rattle.spec.specs.Lists.{is_in}
use Rattle.spec.specs.Segments.{stored_rec}
use Rattle.law_basic.specs.Each.{set_next}
use Rattle.law_basic.specs.Geometry.{ranged}
use Rattle.law_code.specs.Code.{decode_rec_same}
use Rattle.recover_groups.specs.Bases.{group_len_fits}
use Rattle.recover_groups.specs.Groups.{segment_in, GroupReads}
use Rattle.recover_groups.proofs.lost_rec.Goals as goal

pub loop-d-init : goal.loop-d-init
loop-d-init c = (omega arith, refl, refl, λ e h n. absurd (let z : ⊥ = omega (arith, h) in z), λ e h n. absurd (let z : ⊥ = omega (arith, h) in z))

pub present_rec-r-requires : goal.present_rec-r-requires
present_rec-r-requires c =
    let pre = c.requires in record {
      p_value = pre.p_value;
      image_len =
          (pre.image_len.0, pre.image_len.1, pre.image_len.2, pre.image_len.3, c.loop-d-test.true, pre.image_len.5);
      all_entered = pre.all_entered;
    }

pub offset_bounds-addresses-d : goal.offset_bounds-addresses-d
offset_bounds-addresses-d c = omega (arith, c.loop-d-test.true, (ranged c.args.p c.requires.p_value).drives_high)

pub bounds-addresses-d : goal.bounds-addresses-d
bounds-addresses-d c =
    omega (arith, c.loop-d-test.true, (ranged c.args.p c.requires.p_value).drives_high)

pub offset_bounds-stamps-d : goal.offset_bounds-stamps-d
offset_bounds-stamps-d c = omega (arith, c.loop-d-test.true, (ranged c.args.p c.requires.p_value).drives_high)

pub bounds-stamps-d : goal.bounds-stamps-d
bounds-stamps-d c =
    omega (arith, c.loop-d-test.true, (ranged c.args.p c.requires.p_value).drives_high)

pub loop-d-preserved : goal.loop-d-preserved
loop-d-preserved c =
    let a = c.args in
    let l = c.loop-d in
    let p = a.p in
    let w = a.w in
    let im = a.image.now in
    let t = c.loop-d-test.true in
    let d = (ranged p c.requires.p_value).drives_high in
    let r = c.present_rec-r in (
      omega (arith, t),
      length-set l.addresses l.d r.result.address.0 ∙ l.invariant.1,
      length-set l.stamps l.d r.result.stamp.0 ∙ l.invariant.2,
      set_next (λ e y. is_in w.gone e ≡ false → (off ps : List ℕ) → GroupReads p off im ps w a.at.now → (stored_rec (segment_in p off im ps w) (w.base + a.k) e).address ≡ y)
          l.addresses l.d r.result.address.0 (omega (arith, t, d, l.invariant.1)) l.invariant.3 (λ n off ps x. sym (ap (λ (q : Rec). q.address) (r.ensures off ps x n))),
      set_next (λ e y. is_in w.gone e ≡ false → (off ps : List ℕ) → GroupReads p off im ps w a.at.now → (stored_rec (segment_in p off im ps w) (w.base + a.k) e).stamp ≡ y)
          l.stamps l.d r.result.stamp.0 (omega (arith, t, d, l.invariant.2)) l.invariant.4 (λ n off ps x. sym (ap (λ (q : Rec). q.stamp) (r.ensures off ps x n))),
    )

pub overflow_add-s : goal.overflow_add-s
overflow_add-s c =
    let a = c.args in
    let pre = c.requires in
    let g = group_len_fits a.p a.w.base (omega (arith, pre.image_len.3)) in
    omega (arith, g, pre.image_len.5, (ranged a.p pre.p_value).stripes_high)

pub overflow_cast-s : goal.overflow_cast-s
overflow_cast-s c =
    let a = c.args in
    let pre = c.requires in
    let g = group_len_fits a.p a.w.base (omega (arith, pre.image_len.3)) in
    omega (arith, g, pre.image_len.5, (ranged a.p pre.p_value).stripes_high)

pub decode_record-requires : goal.decode_record-requires
decode_record-requires c =
    let pre = c.requires in
    let l = c.loop-d in record { p_value = pre.p_value; addresses_len = (l.invariant.1, l.invariant.2, pre.image_len.4) }

pub returns : goal.returns
returns c =
    let a = c.args in
    let l = c.loop-d in
    let p = a.p in
    let w = a.w in
    let e : l.d ≡ p.N = omega (arith, c.loop-d-test.false, l.invariant.0) in
    λ off ps x. c.decode_record.ensures
    ∙ decode_rec_same p w.gone (w.base + a.k) a.drive (λ i. mk_rec (get_or l.addresses i 0) (get_or l.stamps i 0) (w.base + a.k))
    (stored_rec (segment_in p off a.image.now ps w) (w.base + a.k))
    (λ i h n. (sym (l.invariant.3 i (omega (arith, h, e)) n off ps x), sym (l.invariant.4 i (omega (arith, h, e)) n off ps x)))
