-- `make_footer`: after j turns the block holds the first j records of footer i, zeros behind them, and at is the spare of record j;
-- one turn appends that spare; blocks lie one unit apart. At n the block is the footer. Assumes nothing.
use mathlib.Core.Path.{◌≡◌, refl, sym, ap, ◌∙◌, subst}
use mathlib.Core.List.{List, []}
use Prim.Native.Nat.{ℕ, suc, ◌+◌, ◌-◌, ◌*◌, ◌≤◌, ◌<◌}
use native.Mathlib.Omega.{arith}
use native.Mathlib.Nat.{add_assoc, mul_comm}
use lib.ListN.{length, get_or, take, drop, replicate}
use Rattle.spec.specs.Bytes.{part, splice}
use Rattle.spec.specs.Layout.{footer_block}
use Rattle.spec.specs.Lists.{flat}
use Rattle.spec.specs.Params.{spare_len, per_footer, unit_len, image_len, place_of, place_byte}
use Rattle.law_basic.specs.Geometry.{Ranged, ranged, item_fits, spare_len_lem, per_footer_fits, image_high, data_below, block_within}
use Rattle.law_basic.specs.Splice.{length_part, part_lent, splice-nil}
use Rattle.disk_footers.specs.Feet.{spares_by, records_of, byte_next, footer_start, spares_by-count, spare_of, spare_long, spares_view, footer_is, footer_turn}
use Rattle.spec.specs.declared.Params.{Params}
use Rattle.disk_footers.proofs.make_footer.Goals as goal

unit_is : (p : Params) → unit_len p ≡ p.B + spare_len
unfolding unit_len
unit_is p = refl

-- n: the bytes of a spare
row_room : (p : Params) → Ranged p → (n j : ℕ) → n ≡ spare_len → j < per_footer p → n * j + n ≤ p.B
row_room p r n j e h = subst (λ (x : ℕ). x * j + x ≤ p.B) (sym e) (omega (arith, mul_comm spare_len j, item_fits j (per_footer p) spare_len h, per_footer_fits p r))

lent_long_lem : (n at : ℕ) (im : List ℕ) → n ≡ spare_len → at + spare_len ≤ length im → length (take (at + n - at) (drop at im)) ≡ n
lent_long_lem n at im e h = ap length (part_lent at n im) ∙ length_part at n im (omega arith)

begun : (p : Params) (ss : List (List ℕ)) (i : ℕ) → ◌≡◌ {A = List ℕ} (replicate p.B 0) (splice (replicate p.B 0) 0 (records_of p ss i 0))
unfolding records_of flat
begun p ss i = sym (splice-nil (replicate p.B 0) 0)

pub overflow_mul-i : goal.overflow_mul-i
overflow_mul-i c =
    let a = c.args in
    let pre = c.requires in
    let p = a.p in
    let r = ranged p pre.p_value in
    let h = pre.image_len in
    let k : c.per_footer-per.result ≡ per_footer p = c.per_footer-per.ensures.0 in
    let e : a.i * c.per_footer-per.result ≡ a.i * per_footer p = ap (λ (x : ℕ). a.i * x) k in
    let s = footer_start p r a.i h.3 in
    omega (arith, e, s, r.stripes_high)

pub overflow_add-i : goal.overflow_add-i
overflow_add-i c =
    let a = c.args in
    let pre = c.requires in
    let p = a.p in
    let r = ranged p pre.p_value in
    let h = pre.image_len in
    let k : c.per_footer-per.result ≡ per_footer p = c.per_footer-per.ensures.0 in
    let e : a.i * c.per_footer-per.result ≡ a.i * per_footer p = ap (λ (x : ℕ). a.i * x) k in
    let s = footer_start p r a.i h.3 in
    omega (arith, e, s, r.stripes_high)

pub spare_byte-at-requires : goal.spare_byte-at-requires
spare_byte-at-requires c =
    let a = c.args in
    let pre = c.requires in
    let p = a.p in
    let r = ranged p pre.p_value in
    let h = pre.image_len in
    let k : c.per_footer-per.result ≡ per_footer p = c.per_footer-per.ensures.0 in
    let e : a.i * c.per_footer-per.result ≡ a.i * per_footer p = ap (λ (x : ℕ). a.i * x) k in
    let s = footer_start p r a.i h.3 in record { p_value = pre.p_value; drive_lt_n = (h.1, h.2, data_below p r (1 + a.i * c.per_footer-per.result) (omega (arith, e, s))) }

pub loop-j-init : goal.loop-j-init
loop-j-init c =
    let a = c.args in
    let clear = c.clear in
    let pre = c.requires in
    let p = a.p in
    let r = ranged p pre.p_value in
    let h = pre.image_len in
    let k : c.per_footer-per.result ≡ per_footer p = c.per_footer-per.ensures.0 in
    let e : a.i * c.per_footer-per.result ≡ a.i * per_footer p = ap (λ (x : ℕ). a.i * x) k in
    let s = footer_start p r a.i h.3 in
    let q : c.spare_byte-at.result ≡ place_byte p (place_of p a.drive a.zone (1 + a.i * per_footer p + 0)) + p.B =
    c.spare_byte-at.ensures.0
    ∙ ap (λ (x : ℕ). place_byte p (place_of p a.drive a.zone x) + p.B)
    (let v : 1 + a.i * c.per_footer-per.result ≡ 1 + a.i * per_footer p + 0 = omega (arith, e) in v) in
    (omega arith, refl, q, clear.ensures ∙ ap (λ (x : ℕ). replicate x 0) h.4 ∙ begun p (spares_by p a.image.now a.drive a.zone) a.i)

pub overflow_add-end : goal.overflow_add-end
overflow_add-end c =
    let a = c.args in
    let records-of = c.records_of-n in
    let pre = c.requires in
    let p = a.p in
    let r = ranged p pre.p_value in
    let h = pre.image_len in
    let n = records-of.ensures in
    let l = c.loop-j in
    let t = c.loop-j-test.true in
    let o : a.i * per_footer p + l.j < p.S = omega (arith, n.1, t) in
    let w = block_within p a.drive a.zone (1 + a.i * per_footer p + l.j) h.1 h.2 (data_below p r (1 + a.i * per_footer p + l.j) (omega arith)) in
    let u : unit_len p ≡ p.B + spare_len = unit_is p in
    let m : l.at + spare_len ≤ image_len p = omega (arith, l.invariant.2, w, u) in
    omega (arith, m, image_high p r, spare_len_lem)

pub overflow_mul-j : goal.overflow_mul-j
overflow_mul-j c =
    let a = c.args in
    let l = c.loop-j in
    let records-of = c.records_of-n in
    let pre = c.requires in
    let p = a.p in
    let r = ranged p pre.p_value in
    let h = pre.image_len in
    let n = records-of.ensures in
    let t = c.loop-j-test.true in
    let o : a.i * per_footer p + l.j < p.S = omega (arith, n.1, t) in
    let w = block_within p a.drive a.zone (1 + a.i * per_footer p + l.j) h.1 h.2 (data_below p r (1 + a.i * per_footer p + l.j) (omega arith)) in
    let u : unit_len p ≡ p.B + spare_len = unit_is p in
    let m : l.at + spare_len ≤ image_len p = omega (arith, l.invariant.2, w, u) in
    let room = row_room p r _ l.j (sym spare_len_lem) (omega (arith, n.0, t)) in
    omega (arith, room, r.block_high)

pub slice_bounds-copy-count : goal.slice_bounds-copy-count
slice_bounds-copy-count c = omega arith

pub slice_bounds-copy-start : goal.slice_bounds-copy-start
slice_bounds-copy-start c = omega arith

pub slice_bounds-copy-end-in-loop-j : goal.slice_bounds-copy-end-in-loop-j
slice_bounds-copy-end-in-loop-j c =
    let a = c.args in
    let l = c.loop-j in
    let records-of = c.records_of-n in
    let pre = c.requires in
    let p = a.p in
    let r = ranged p pre.p_value in
    let h = pre.image_len in
    let n = records-of.ensures in
    let t = c.loop-j-test.true in
    let o : a.i * per_footer p + l.j < p.S = omega (arith, n.1, t) in
    let w = block_within p a.drive a.zone (1 + a.i * per_footer p + l.j) h.1 h.2 (data_below p r (1 + a.i * per_footer p + l.j) (omega arith)) in
    let u : unit_len p ≡ p.B + spare_len = unit_is p in
    let m : l.at + spare_len ≤ image_len p = omega (arith, l.invariant.2, w, u) in
    omega (arith, m, h.0, spare_len_lem)

pub copy_part-requires : goal.copy_part-requires
unfolding part
copy_part-requires c =
    let a = c.args in
    let loop-test = c.loop-j-test in
    let l = c.loop-j in
    let records-of = c.records_of-n in
    let clear = c.clear in
    let pre = c.requires in
    let p = a.p in
    let r = ranged p pre.p_value in
    let h = pre.image_len in
    let n = records-of.ensures in
    let t = loop-test.true in
    let o : a.i * per_footer p + l.j < p.S = omega (arith, n.1, t) in
    let w = block_within p a.drive a.zone (1 + a.i * per_footer p + l.j) h.1 h.2 (data_below p r (1 + a.i * per_footer p + l.j) (omega arith)) in
    let u : unit_len p ≡ p.B + spare_len = unit_is p in
    let m : l.at + spare_len ≤ image_len p = omega (arith, l.invariant.2, w, u) in
    let room = row_room p r _ l.j (sym spare_len_lem) (omega (arith, n.0, t)) in
    let q = lent_long_lem _ l.at a.image.now (sym spare_len_lem) (omega (arith, m, h.0)) in
    omega (arith, room, q, l.invariant.1, clear.auto.dst, h.4)

pub overflow_add-at : goal.overflow_add-at
overflow_add-at c =
    let a = c.args in
    let loop-test = c.loop-j-test in
    let l = c.loop-j in
    let records-of = c.records_of-n in
    let pre = c.requires in
    let p = a.p in
    let r = ranged p pre.p_value in
    let h = pre.image_len in
    let n = records-of.ensures in
    let t = loop-test.true in
    let o : a.i * per_footer p + l.j < p.S = omega (arith, n.1, t) in
    let w = block_within p a.drive a.zone (1 + a.i * per_footer p + l.j) h.1 h.2 (data_below p r (1 + a.i * per_footer p + l.j) (omega arith)) in
    let u : unit_len p ≡ p.B + spare_len = unit_is p in
    let m : l.at + spare_len ≤ image_len p = omega (arith, l.invariant.2, w, u) in
    omega (arith, r.block_high)

pub overflow_add-at-in-loop-j : goal.overflow_add-at-in-loop-j
overflow_add-at-in-loop-j c =
    let a = c.args in
    let loop-test = c.loop-j-test in
    let l = c.loop-j in
    let records-of = c.records_of-n in
    let pre = c.requires in
    let p = a.p in
    let r = ranged p pre.p_value in
    let h = pre.image_len in
    let n = records-of.ensures in
    let t = loop-test.true in
    let o : a.i * per_footer p + l.j < p.S = omega (arith, n.1, t) in
    let w = block_within p a.drive a.zone (1 + a.i * per_footer p + l.j) h.1 h.2 (data_below p r (1 + a.i * per_footer p + l.j) (omega arith)) in
    let u : unit_len p ≡ p.B + spare_len = unit_is p in
    let m : l.at + spare_len ≤ image_len p = omega (arith, l.invariant.2, w, u) in
    omega (arith, r.block_high, m, image_high p r, spare_len_lem)

pub loop-j-preserved : goal.loop-j-preserved
loop-j-preserved c =
    let a = c.args in
    let copy-part = c.copy_part in
    let loop-test = c.loop-j-test in
    let l = c.loop-j in
    let records-of = c.records_of-n in
    let pre = c.requires in
    let p = a.p in
    let r = ranged p pre.p_value in
    let h = pre.image_len in
    let n = records-of.ensures in
    let t = loop-test.true in
    let o : a.i * per_footer p + l.j < p.S = omega (arith, n.1, t) in
    let w = block_within p a.drive a.zone (1 + a.i * per_footer p + l.j) h.1 h.2 (data_below p r (1 + a.i * per_footer p + l.j) (omega arith)) in
    let u : unit_len p ≡ p.B + spare_len = unit_is p in
    let m : l.at + spare_len ≤ image_len p = omega (arith, l.invariant.2, w, u) in
    let b₁ : 1 + a.i * per_footer p + (l.j + 1) ≡ suc (1 + a.i * per_footer p + l.j) = omega arith in
    let im = a.image.now in
    let ss = spares_by p im a.drive a.zone in
    let d : part l.at spare_len im ≡ get_or ss (a.i * per_footer p + l.j) [] =
    ap (λ (x : ℕ). part x spare_len im) (l.invariant.2 ∙ ap (λ (x : ℕ). place_byte p (place_of p a.drive a.zone x) + p.B) (add_assoc 1 (a.i * per_footer p) l.j))
    ∙ sym (spare_of p r a.drive a.zone h.1 h.2 im h.0 (a.i * per_footer p + l.j) o) in (
      omega arith,
      copy-part.auto.dst ∙ l.invariant.1,
      omega (arith, l.invariant.2, u, spare_len_lem, byte_next p a.drive a.zone (1 + a.i * per_footer p + l.j), ap (λ (x : ℕ). place_byte p (place_of p a.drive a.zone x)) b₁),
      footer_turn p r ss (spares_by-count p r a.drive a.zone h.1 h.2 im h.0) (spare_long p r a.drive a.zone h.1 h.2 im h.0)
          l.block copy-part.new.dst _ _ a.i l.j (sym spare_len_lem) l.invariant.3 o (omega (arith, n.0, t))
          (c.copy.ensures ∙ part_lent l.at _ im ∙ ap (λ (x : ℕ). part l.at x im) (sym spare_len_lem) ∙ d) copy-part.ensures,
    )

pub shape_of-block : goal.shape_of-block
shape_of-block c =
    let clear = c.clear in
    c.loop-j.invariant.1 ∙ clear.auto.dst

pub returns : goal.returns
returns c =
    let a = c.args in
    let records-of = c.records_of-n in
    let pre = c.requires in
    let p = a.p in
    let r = ranged p pre.p_value in
    let h = pre.image_len in
    let n = records-of.ensures in
    let l = c.loop-j in
    let im = a.image.now in
    let ss = spares_by p im a.drive a.zone in
    let e : l.j ≡ records-of.result = omega (arith, c.loop-j-test.false) in
    λ off ps hp. l.invariant.3 ∙ ap (λ (x : ℕ). splice (replicate p.B 0) 0 (records_of p ss a.i x)) e
    ∙ footer_is p r ss (spares_by-count p r a.drive a.zone h.1 h.2 im h.0) (spare_long p r a.drive a.zone h.1 h.2 im h.0) a.i records-of.result n.0
    ∙ ap (λ (x : List (List ℕ)). footer_block p x a.i) (sym (spares_view p r a.drive a.zone h.1 h.2 im h.0 off ps hp))
