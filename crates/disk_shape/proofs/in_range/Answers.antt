-- `in_range`: the tests are the conjuncts of the definition, in its order; the ranges of Z, S and N bound the product of the last by 468378645. Assumes nothing.
use Rattle.std.proofs.Common.{◌≡◌, sym, ap, ◌∙◌, Bool, true, ◌&&◌, ℕ, ◌-◌, ◌*◌, ◌≤◌, arith}
use Rattle.spec.specs.declared.Params.{Params}
use Rattle.spec.specs.Lists.{is_member_of}
use Rattle.spec.specs.Params.{between, block_sizes, data_count, most_with, most_addresses, in_range}
use Rattle.law_basic.specs.Geometry.{prod_le, between-low, between_high}
use Rattle.law_basic.specs.Ranges.{and_left, and_right}
use Rattle.disk_shape.proofs.in_range.Goals as goal

-- all but the last conjunct
abbrev shaped : Params → Bool
shaped p = between 3 8 p.N && is_member_of p.B block_sizes && between 4 1024 p.Z && between 1 65535 p.S && between 1 256 p.G

sizes : (p : Params) → shaped p ≡ true → (3 ≤ p.N) × (p.N ≤ 8) × (4 ≤ p.Z) × ((p.Z - 3) * p.S ≤ 66911235)
sizes p h =
    let a = between 3 8 p.N in
    let b = is_member_of p.B block_sizes in
    let z = between 4 1024 p.Z in
    let s = between 1 65535 p.S in
    let h4 = and_left (a && b && z && s) (between 1 256 p.G) h in
    let h3 = and_left (a && b && z) s h4 in
    let h1 = and_left a b (and_left (a && b) z h3) in
    let hz = and_right (a && b) z h3 in (
      between-low 3 8 p.N h1,
      between_high 3 8 p.N h1,
      between-low 4 1024 p.Z hz,
      prod_le (p.Z - 3) p.S 1021 65535 66911235 (omega (arith, between_high 4 1024 p.Z hz)) (between_high 1 65535 p.S (and_right (a && b && z) s h4)) (omega arith),
    )

pub returns-then-not-shaped : goal.returns-then-not-shaped
unfolding in_range
returns-then-not-shaped c =
    let p = c.args.p in
    let e : _ ≡ shaped p = λ j. c.is_between.ensures j && c.is_block_size.ensures j && c.is_between-2.ensures j && c.is_between-3.ensures j && c.is_between-4.ensures j in
    sym (ap (λ (x : Bool). x && between 1 (most_addresses p) p.L) (sym e ∙ c.if-not-shaped.true))

pub overflow_sub-p : goal.overflow_sub-p
overflow_sub-p c =
    let p = c.args.p in
    let e : _ ≡ shaped p = λ j. c.is_between.ensures j && c.is_block_size.ensures j && c.is_between-2.ensures j && c.is_between-3.ensures j && c.is_between-4.ensures j in
    omega (arith, sizes p (sym e ∙ c.if-not-shaped.false))

pub overflow_mul-p : goal.overflow_mul-p
overflow_mul-p c =
    let p = c.args.p in
    let e : _ ≡ shaped p = λ j. c.is_between.ensures j && c.is_block_size.ensures j && c.is_between-2.ensures j && c.is_between-3.ensures j && c.is_between-4.ensures j in
    omega (arith, sizes p (sym e ∙ c.if-not-shaped.false))

pub overflow_sub-p-2 : goal.overflow_sub-p-2
overflow_sub-p-2 c =
    let p = c.args.p in
    let e : _ ≡ shaped p = λ j. c.is_between.ensures j && c.is_block_size.ensures j && c.is_between-2.ensures j && c.is_between-3.ensures j && c.is_between-4.ensures j in
    omega (arith, sizes p (sym e ∙ c.if-not-shaped.false), c.parity_count.ensures)

pub overflow_mul-p-2 : goal.overflow_mul-p-2
overflow_mul-p-2 c =
    let p = c.args.p in
    let e : _ ≡ shaped p = λ j. c.is_between.ensures j && c.is_block_size.ensures j && c.is_between-2.ensures j && c.is_between-3.ensures j && c.is_between-4.ensures j in
    let h = sizes p (sym e ∙ c.if-not-shaped.false) in
    omega (arith, prod_le ((p.Z - 3) * p.S) (p.N - c.parity_count.result) 66911235 7 468378645 h.3 (omega (arith, h, c.parity_count.ensures)) (omega arith))

pub returns : goal.returns
unfolding in_range most_addresses most_with data_count
returns c =
    let p = c.args.p in
    let e : _ ≡ shaped p = λ j. c.is_between.ensures j && c.is_block_size.ensures j && c.is_between-2.ensures j && c.is_between-3.ensures j && c.is_between-4.ensures j in
    c.is_between-5.ensures ∙ ap (λ (k : ℕ). between 1 ((p.Z - 3) * p.S * (p.N - k)) p.L) c.parity_count.ensures.0
    ∙ sym (ap (λ (x : Bool). x && between 1 (most_addresses p) p.L) (sym e ∙ c.if-not-shaped.false))
