-- `decode_record`: the first d entries are address and stamp of the present drives' records; from all of them `disk_code` decodes. Assumes nothing.
use mathlib.Core.Path.{◌≡◌, refl, ap, ◌∙◌}
use mathlib.Core.List.{List}
use mathlib.Core.Bool.{false}
use Prim.Native.Nat.{ℕ}
use native.Mathlib.Omega.{arith}
use lib.ListN.{get_or, length-set}
use Rattle.spec.specs.Drives.{View, view_of, record_at}
use Rattle.spec.specs.Layout.{Rec, mk_rec}
use Rattle.spec.specs.Lists.{is_in}
use Rattle.law_basic.specs.Each.{set_next}
use Rattle.law_basic.specs.Geometry.{ranged}
use Rattle.law_code.specs.Code.{decode_rec_same}
use Rattle.call_read.specs.Decode.{record_as_sealed}
use Rattle.call_read.proofs.decode_record.Goals as goal

pub is_sealed-full-requires : goal.is_sealed-full-requires
is_sealed-full-requires c =
    let q = c.requires in record { p_value = q.p_value; pointers_len = (q.whole.pointers_long, q.drive_lt_n.1) }

pub loop-d-init : goal.loop-d-init
loop-d-init c = (omega arith, refl, refl, λ e h n. absurd (let z : ⊥ = omega (arith, h) in z), λ e h n. absurd (let z : ⊥ = omega (arith, h) in z))

pub offset_bounds-at-d : goal.offset_bounds-at-d
offset_bounds-at-d c =
    omega (arith, c.loop-d-test.true, (ranged c.args.p c.requires.p_value).drives_high)

pub bounds-at-d : goal.bounds-at-d
bounds-at-d c =
    omega (arith, c.loop-d-test.true, (ranged c.args.p c.requires.p_value).drives_high, c.requires.drive_lt_n.3.long)

pub record_on-r-requires : goal.record_on-r-requires
record_on-r-requires c =
    let q = c.requires in record { p_value = q.p_value; image_len = (q.whole.image_long, c.loop-d-test.true, q.drive_lt_n.1, q.drive_lt_n.3.low c.loop-d.d c.loop-d-test.true) }

pub offset_bounds-addresses-d : goal.offset_bounds-addresses-d
offset_bounds-addresses-d c =
    omega (arith, c.loop-d-test.true, (ranged c.args.p c.requires.p_value).drives_high)

pub bounds-addresses-d : goal.bounds-addresses-d
bounds-addresses-d c =
    omega (arith, c.loop-d-test.true, (ranged c.args.p c.requires.p_value).drives_high)

pub offset_bounds-stamps-d : goal.offset_bounds-stamps-d
offset_bounds-stamps-d c =
    omega (arith, c.loop-d-test.true, (ranged c.args.p c.requires.p_value).drives_high)

pub bounds-stamps-d : goal.bounds-stamps-d
bounds-stamps-d c =
    omega (arith, c.loop-d-test.true, (ranged c.args.p c.requires.p_value).drives_high)

pub loop-d-preserved : goal.loop-d-preserved
loop-d-preserved c =
    let a = c.args in
    let w = c.requires.whole in
    let l = c.loop-d in
    let sealed = c.is_sealed-full in
    let t = c.loop-d-test.true in
    let high = (ranged a.p c.requires.p_value).drives_high in
    let r = c.record_on-r.result in
    let v : List ℕ → View = λ off. view_of a.p off a.image.now a.pointers.now in
    let at : List ℕ → ℕ → Rec = λ off e. record_at a.p (v off) a.gone e a.segment (get_or a.at.now e 0) in
    let same : is_in a.gone l.d ≡ false → (off : List ℕ) → mk_rec r.address.0 r.stamp.0 r.stripe ≡ at off l.d =
    λ n off. record_as_sealed a.p (v off) a.gone l.d a.segment (get_or a.at.now l.d 0) sealed.result (sealed.ensures off a.image.now w.image_long)
    _ (c.record_on-r.ensures off a.pointers.now w.pointers_long n) in (
      omega (arith, t),
      length-set l.addresses l.d r.address.0 ∙ l.invariant.1,
      length-set l.stamps l.d r.stamp.0 ∙ l.invariant.2,
      set_next (λ e y. is_in a.gone e ≡ false → (off : List ℕ) → y ≡ (at off e).address) l.addresses l.d r.address.0 (omega (arith, t, high, l.invariant.1)) l.invariant.3
          (λ n off. ap (λ (x : Rec). x.address) (same n off)),
      set_next (λ e y. is_in a.gone e ≡ false → (off : List ℕ) → y ≡ (at off e).stamp) l.stamps l.d r.stamp.0 (omega (arith, t, high, l.invariant.2)) l.invariant.4
          (λ n off. ap (λ (x : Rec). x.stamp) (same n off)),
    )

pub overflow_cast-s : goal.overflow_cast-s
overflow_cast-s c =
    omega (arith, c.requires.drive_lt_n.2, (ranged c.args.p c.requires.p_value).stripes_high)

pub decode_record-requires : goal.decode_record-requires
decode_record-requires c =
    let q = c.requires in
    let l = c.loop-d in record { p_value = q.p_value; addresses_len = (l.invariant.1, l.invariant.2, q.drive_lt_n.0) }

pub returns : goal.returns
returns c =
    let a = c.args in
    let l = c.loop-d in
    let e : l.d ≡ a.p.N = omega (arith, c.loop-d-test.false, l.invariant.0) in
    λ off. c.decode_record.ensures
    ∙ decode_rec_same a.p a.gone a.s a.drive (λ k. mk_rec (get_or l.addresses k 0) (get_or l.stamps k 0) a.s)
    (λ k. record_at a.p (view_of a.p off a.image.now a.pointers.now) a.gone k a.segment (get_or a.at.now k 0))
    (λ k h n. (l.invariant.3 k (omega (arith, h, e)) n off, l.invariant.4 k (omega (arith, h, e)) n off))
