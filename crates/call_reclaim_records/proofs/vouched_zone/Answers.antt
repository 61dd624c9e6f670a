-- `vouched_zone`: c is at most those pointed at of the first o data blocks, and footer block f begins at byte at; a turn adds its run. Assumes nothing.
-- the o data blocks whose records lie in footer blocks before f, which begins at byte at
use Prim.Native.Nat.{ℕ, ◌+◌, ◌*◌, ◌≤◌}
use Rattle.call_reclaim_live.specs.Live.{places_high}
use Rattle.spec.specs.Params.{per_footer, capacity, unit_len, addresses_len, place_of, place_byte}
use Rattle.spec.specs.declared.Params.{Params}
use Rattle.law_basic.specs.Geometry.{ranged, spare_len_lem, per_footer_fits, data_below, footers-low, place_lt, block_within, image_high}
use Rattle.mem_marks.specs.Marks.{is_pointed}
use Rattle.call_reclaim_records.specs.Vouch.{pointed_from, run_add, run_le, run_longer, next_byte}
use lib.ListN.{length}
use mathlib.Core.List.{List}
use mathlib.Core.Path.{◌≡◌, sym, ap, ◌∙◌, subst}
use native.Mathlib.Nat.{add-zero}
use native.Mathlib.Omega.{arith}
use Rattle.call_reclaim_records.proofs.vouched_zone.Goals as goal
use Rattle.call_reclaim_records.proofs.vouched_zone.Lts
use Rattle.call_reclaim_records.proofs.vouched_zone.Reads
use Rattle.call_reclaim_records.proofs.vouched_zone.Tie

abbrev After-vouched_run : Type 0
After-vouched_run = Lts.After-vouched_run Tie.the-claims Reads.Pre Reads.Post goal.the-invariant-loop-f goal.the-decreases-loop-f Tie.handed_clauses

pub per_footer-per-requires : goal.per_footer-per-requires
per_footer-per-requires c = c.requires.p_value

pub footers-feet-requires : goal.footers-feet-requires
footers-feet-requires c =
    c.requires.p_value

pub unit_len-unit-requires : goal.unit_len-unit-requires
unit_len-unit-requires c =
    c.requires.p_value

pub place_of-first-requires : goal.place_of-first-requires
place_of-first-requires c =
    let p = c.args.p in
    let r = ranged p c.requires.p_value in record { p_value = c.requires.p_value; drive_lt_n = (c.requires.image_len.2, c.requires.image_len.3, data_below p r 1 r.stripes_low) }

pub overflow_cast-first : goal.overflow_cast-first
overflow_cast-first c = omega arith

pub overflow_add-p : goal.overflow_add-p
overflow_add-p c =
    omega (arith, (ranged c.args.p c.requires.p_value).stripes_high)

pub block_byte-at-requires : goal.block_byte-at-requires
unfolding capacity
block_byte-at-requires c =
    let p = c.args.p in
    let r = ranged p c.requires.p_value in record { p_value = c.requires.p_value; drive_lt_n = (c.requires.image_len.2, c.requires.image_len.3, omega (arith, footers-low p r)) }

pub loop-f-init : goal.loop-f-init
loop-f-init c =
    let a = c.args in
    (omega arith, omega arith, omega arith, c.block_byte-at.ensures.0 ∙ ap (λ (x : ℕ). place_byte a.p (place_of a.p a.drive a.zone x)) (sym (add-zero (1 + a.p.S))))

-- what is counted, of all data blocks of the zone
of_all : (p : Params) (addresses : List ℕ) (first first' c o : ℕ) → first ≡ first' → o ≤ p.S → c ≤ length (pointed_from addresses p.L first o)
    → (c ≤ length (pointed_from addresses p.L first' p.S)) × (c ≤ p.S)
of_all p addresses first first' c o e h k =
    let f = is_pointed addresses p.L in
    let w = subst (λ (x : ℕ). length (pointed_from addresses p.L first o) ≤ length (pointed_from addresses p.L x p.S)) e (run_longer f first o p.S h) in
    (omega (arith, k, w), omega (arith, k, h, run_le f first o))

pub returns-then-most-c : goal.returns-then-most-c
returns-then-most-c c =
    let loop = c.loop-f in
    let a = c.args in
    let i = loop.invariant in
    let first = c.place_of-first.result.0 in
    let w = of_all a.p a.addresses.now first (place_of a.p a.drive a.zone 1) loop.c loop.o c.place_of-first.ensures.0 i.1 i.2 in
    (w.0, omega (arith, w.1, (ranged a.p c.requires.p_value).stripes_high))

pub overflow_add-first : goal.overflow_add-first
overflow_add-first c =
    omega (arith, c.place_of-first.ensures.1, c.loop-f.invariant.1, (ranged c.args.p c.requires.p_value).stripes_high)

pub vouched_run-c-requires : goal.vouched_run-c-requires
unfolding capacity unit_len addresses_len place_of
vouched_run-c-requires c =
    let loop-test = c.loop-f-test in
    let a = c.args in
    let p = a.p in
    let r = ranged p c.requires.p_value in
    let h = c.requires.image_len in
    let i = c.loop-f.invariant in
    let per = subst (λ (x : ℕ). per_footer p * x ≤ p.B) spare_len_lem (per_footer_fits p r) in
    let inside = block_within p a.drive a.zone (1 + p.S + c.loop-f.f) h.2 h.3 (omega (arith, loop-test.true, c.footers-feet.ensures.0)) in
    let last = place_lt p a.drive a.zone p.S h.2 h.3 (data_below p r p.S (omega arith)) in
    let n = c.run_len-n.ensures in (
      omega (arith, r.addresses_low),
      omega (arith, h.1),
      subst (λ (x : ℕ). c.loop-f.at + x * c.run_len-n.result ≤ length a.image.now) (sym spare_len_lem) (omega (arith, n, c.per_footer-per.ensures.0, per, inside, i.3, h.0, spare_len_lem)),
      omega (arith, n, c.place_of-first.ensures.0, last, places_high p r, i.1),
    )

-- one footer block more
block_more : (c : After-vouched_run)
    → c.before.before.before.before.loop-f.c + c.vouched_run-c.result
    ≤ length
    (pointed_from c.before.before.before.before.before.before.before.before.before.before.before.before.before.before.args.addresses.now
    c.before.before.before.before.before.before.before.before.before.before.before.before.before.before.args.p.L
    c.before.before.before.before.before.before.before.before.place_of-first.result.0
    (c.before.before.before.before.loop-f.o + c.before.run_len-n.result))
block_more c =
    let at_loop_f = c.before.before.before.before in
    let at_place_of_first = at_loop_f.before.before.before.before in
    let start = at_place_of_first.before.before.before.before.before.before in
    let a = start.args in
    omega (
      arith,
      c.vouched_run-c.ensures,
      at_loop_f.loop-f.invariant.2,
      run_add (is_pointed a.addresses.now a.p.L) at_place_of_first.place_of-first.result.0
          at_loop_f.loop-f.o c.before.run_len-n.result,
    )

within : (c : After-vouched_run)
    → (c.before.before.before.before.loop-f.o + c.before.run_len-n.result
    ≤ c.before.before.before.before.before.before.before.before.before.before.before.before.before.before.args.p.S)
    × (c.before.before.before.before.loop-f.c + c.vouched_run-c.result
    ≤ c.before.before.before.before.before.before.before.before.before.before.before.before.before.before.args.p.S)
within c =
    let at_loop_f = c.before.before.before.before in
    let at_place_of_first = at_loop_f.before.before.before.before in
    let start = at_place_of_first.before.before.before.before.before.before in
    let a = start.args in
    let e : at_loop_f.loop-f.o + c.before.run_len-n.result ≤ a.p.S = omega (arith, c.before.run_len-n.ensures, at_loop_f.loop-f.invariant.1) in
    (e, omega (arith, e, block_more c, run_le (is_pointed a.addresses.now a.p.L) at_place_of_first.place_of-first.result.0 (at_loop_f.loop-f.o + c.before.run_len-n.result)))

pub overflow_add-c : goal.overflow_add-c
overflow_add-c c =
    omega (arith, (within c.before).1, (ranged c.args.p c.requires.p_value).stripes_high)

pub overflow_add-o : goal.overflow_add-o
overflow_add-o c =
    omega (arith, (within c.before).0, (ranged c.args.p c.requires.p_value).stripes_high)

-- the footer block lies in the image
in_image : (c : After-vouched_run) → c.before.before.before.before.loop-f.at ≤ 2946336325632
unfolding capacity
in_image c =
    let at_loop_f_test = c.before.before.before in
    let at_loop_f = at_loop_f_test.before in
    let at_footers_feet = at_loop_f.before.before.before.before.before.before in
    let start = at_footers_feet.before.before.before.before in
    let a = start.args in
    let p = a.p in
    let r = ranged p start.requires.p_value in
    let h = start.requires.image_len in
    omega (
      arith,
      at_loop_f.loop-f.invariant.3,
      image_high p r,
      block_within p a.drive a.zone (1 + p.S + at_loop_f.loop-f.f) h.2 h.3
          (omega (arith, at_loop_f_test.loop-f-test.true, at_footers_feet.footers-feet.ensures.0)),
    )

pub overflow_add-at : goal.overflow_add-at
overflow_add-at c =
    omega (arith, in_image c.before, c.unit_len-unit.ensures.2, spare_len_lem)

pub loop-f-preserved : goal.loop-f-preserved
loop-f-preserved c =
    let a = c.args in
    let p = a.p in
    let l = c.loop-f in
    let b : ℕ = 1 + p.S + l.f in
    let e : b + 1 ≡ 1 + p.S + (l.f + 1) = omega arith in
    let w : l.at + c.unit_len-unit.result ≡ place_byte p (place_of p a.drive a.zone (1 + p.S + (l.f + 1))) =
    (λ j. l.invariant.3 j + c.unit_len-unit.ensures.0 j) ∙ sym (next_byte p a.drive a.zone b) ∙ ap (λ (x : ℕ). place_byte p (place_of p a.drive a.zone x)) e in
    (omega (arith, c.loop-f-test.true), (within c.before).0, block_more c.before, w)

pub returns : goal.returns
returns c =
    let a = c.args in
    let i = c.loop-f.invariant in
    let first = c.place_of-first.result.0 in
    let w = of_all a.p a.addresses.now first (place_of a.p a.drive a.zone 1) c.loop-f.c c.loop-f.o c.place_of-first.ensures.0 i.1 i.2 in
    (w.0, omega (arith, w.1, (ranged a.p c.requires.p_value).stripes_high))
