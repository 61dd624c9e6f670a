-- `mark_places`: after a turns a place within is marked iff it was or one of the first a addresses has it; one turn adds that of address a. Assumes nothing.
use Prim.Native.Nat.{ℕ, ◌+◌, ◌-◌}
use Rattle.mem_marks.specs.Marks.{is_marked, with_mark, is_pointed, no_pointed, turned}
use Rattle.mem_tables.specs.Tables.{is_within, count_places, bit_le, count_no_places, count-one, count-le}
use mathlib.Core.Bool.{Bool, cond, ◌||◌}
use mathlib.Core.Path.{◌≡◌, sym, ap, ap₂, ◌∙◌}
use mir.Val.{bool_byte}
use native.Mathlib.Omega.{arith}
use Rattle.mem_marks.proofs.mark_places.Goals as goal

pub loop-a-init : goal.loop-a-init
loop-a-init c =
    let s = c.args in
    let tb = s.addresses.now in (
      (λ q x y. ap (λ (b : Bool). b || is_marked s.marks.now (q - s.first)) (sym (no_pointed tb q))),
      count_no_places tb s.end 4294967295,
      omega arith,
    )

pub overflow_add-k : goal.overflow_add-k
overflow_add-k c =
    let s = c.args in
    let l = c.loop-a in
    let mark-place = c.mark_place-k in
    let loop-test = c.loop-a-test in
    let q = c.place_at-q.result.0 in
    omega (arith, mark-place.ensures.value, bit_le (is_within s.end 4294967295 q), l.invariant.2, loop-test.true)

pub loop-a-preserved : goal.loop-a-preserved
loop-a-preserved c =
    let m = c.mark_place-k in
    let place_at = c.place_at-q in
    let l = c.loop-a in
    let s = c.args in
    let tb = s.addresses.now in
    let e = place_at.ensures in
    let n : l.k + m.result ≡ count_places tb (l.a + 1) s.end 4294967295 =
    ap₂ ◌+◌ l.invariant.1 (m.ensures.value ∙ ap (λ (x : ℕ). bool_byte (is_within s.end 4294967295 x)) e) ∙ count-one tb l.a s.end 4294967295 in (
      turned tb l.a s.marks.now l.marks m.new.marks s.first s.end (omega (arith, c.requires.2, l.auto.marks)) l.invariant.0
          (m.ensures.marks_after ∙ ap (λ (x : ℕ). cond (is_within s.first s.end x) (with_mark l.marks (x - s.first)) l.marks) e),
      n,
      omega (arith, n, count-le tb (l.a + 1) s.end 4294967295),
    )

pub returns : goal.returns
returns c =
    let s = c.args in
    let l = c.loop-a in
    let e : l.a ≡ s.n = omega arith in record {
      by_index =
          (λ q x y. l.invariant.0 q x y ∙ ap (λ (k : ℕ). is_pointed s.addresses.now k q || is_marked s.marks.now (q - s.first)) e);
      value = l.invariant.1
          ∙ ap (λ (k : ℕ). count_places s.addresses.now k s.end 4294967295) e;
    }
