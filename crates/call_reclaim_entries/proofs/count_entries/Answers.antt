-- `count_entries`: used holds the entries of the first a addresses by number; a turn adds that of address a (`entered-more`), at most a for each. Assumes nothing.
use Prim.Native.Nat.{ℕ, ◌+◌, ◌*◌, ◌/◌, ◌≤◌, ◌<◌}
use Rattle.spec.specs.Params.{capacity, addresses_len}
use Rattle.spec.specs.Memory.{place_at_of}
use Rattle.call_reclaim_entries.specs.Entries.{TakenCounted, entered-more}
use Rattle.call_reclaim_entries.specs.Inverse.{inverse}
use Rattle.call_reclaim_live.specs.Live.{zone_number_low}
use Rattle.law_basic.specs.Geometry.{ranged, zones_all, addresses_all}
use Rattle.mem_tables.specs.Tables.{is_within, count_places, bit_le, count_no_places, count-one, count-le}
use lib.Dec.{ltb}
use lib.ListN.{length, get_or, set}
use mathlib.Core.Bool.{cond}
use mathlib.Core.Path.{◌≡◌, refl, sym, ap, ap₂, ◌∙◌, subst}
use mir.Val.{bool_byte}
use native.Mathlib.Nat.{mul-le-mul_right, div-le_self}
use native.Mathlib.Omega.{arith}
use Rattle.call_reclaim_entries.proofs.count_entries.Goals as goal

pub places-all-requires : goal.places-all-requires
places-all-requires c =
    c.requires.p_value

pub capacity-cap-requires : goal.capacity-cap-requires
capacity-cap-requires c =
    c.requires.p_value

pub nonzero_div-m : goal.nonzero_div-m
nonzero_div-m c = omega (arith, c.capacity-cap.ensures.1)

pub overflow_add-m : goal.overflow_add-m
overflow_add-m c = omega (arith, quotient c.capacity-cap.result)
  where
    quotient : (n : ℕ) → 140737488355328 / n ≤ 140737488355328
    quotient n = div-le_self 140737488355328 n

pub loop-a-init : goal.loop-a-init
loop-a-init c =
    (omega arith, refl, c.requires.taken_counted, count_no_places c.args.addresses.now c.places-all.result 4294967295, omega arith)

pub place_at-q-requires : goal.place_at-q-requires
unfolding addresses_len
place_at-q-requires c =
    omega (arith, c.requires.addresses_len.0)

pub overflow_cast-q : goal.overflow_cast-q
overflow_cast-q c = omega arith

pub add_entry-k-requires : goal.add_entry-k-requires
unfolding inverse
add_entry-k-requires c =
    let place_at = c.place_at-q in
    let a = c.args in
    let p = a.p in
    let r = ranged p c.requires.p_value in
    let q = place_at.result.0 in
    let ec = c.capacity-cap.ensures in
    let ea = c.places-all.ensures.0 in
    let cap = c.capacity-cap.result in
    let all! = c.places-all.result in
    let ep : p.N * p.Z * capacity p ≡ p.N * p.Z * cap = ap (λ (x : ℕ). p.N * p.Z * x) (sym ec.0) in
    let many : p.N * p.Z * cap ≤ 8192 * cap = mul-le-mul_right cap (zones_all p r) in
    let long : p.N * p.Z * cap ≤ length a.segments.now * cap = mul-le-mul_right cap c.requires.addresses_len.1.0 in
    let seg : q < all! → get_or a.segments.now (q / cap) 0 ≤ 1024 = λ l.
    c.requires.addresses_len.1.1 (q / cap) (subst (λ (x : ℕ). q / x < p.N * p.Z) (sym ec.0) (zone_number_low p r q (omega (arith, l, ea)))) in record {
      le_cap = (ec.1, ec.2, omega (arith, ea, ep, many), refl, omega (arith, ea, ep, long));
      cap_in_bounds = (λ l. omega (arith, seg l, c.loop-a.invariant.1, c.requires.addresses_len.2));
      cap_bound = λ l.
          omega (arith, c.loop-a.invariant.2.low (get_or a.segments.now (q / cap) 0) (seg l), c.loop-a.invariant.0, addresses_all p r);
    }

pub overflow_add-k : goal.overflow_add-k
overflow_add-k c =
    let l = c.loop-a in
    let add_entry_holds = c.add_entry-k in
    let place_at = c.place_at-q in
    let places = c.places-all in
    let all! = places.result in
    let q = place_at.result.0 in
    omega (arith, add_entry_holds.ensures.value, bit_le (is_within all! 4294967295 q), l.invariant.4, l.invariant.0, addresses_all c.args.p (ranged c.args.p c.requires.p_value))

pub loop-a-preserved : goal.loop-a-preserved
loop-a-preserved c =
    let add_entry_holds = c.add_entry-k in
    let a = c.args in
    let p = a.p in
    let r = ranged p c.requires.p_value in
    let l = c.loop-a in
    let i = l.invariant in
    let u = l.used in
    let sg = a.segments.now in
    let tb = a.addresses.now in
    let q = c.place_at-q.result.0 in
    let eq = c.place_at-q.ensures in
    let ec = c.capacity-cap.ensures.0 in
    let ea = c.places-all.ensures.0 in
    let told = add_entry_holds.ensures.used_after ∙ (λ j. cond (ltb (eq j) (ea j)) (set u (get_or sg (eq j / ec j) 0) (get_or u (get_or sg (eq j / ec j) 0) 0 + 1)) u) in
    let now' = add_entry_holds.new.used in
    let more = entered-more p sg a.addresses.now l.a u i.2
    (λ x. omega (arith, i.1, c.requires.addresses_len.2, c.requires.addresses_len.1.1 (place_at_of tb l.a / capacity p) (zone_number_low p r (place_at_of tb l.a) x))) now' told in
    let all! = c.places-all.result in
    let n : l.k + add_entry_holds.result ≡ count_places tb (l.a + 1) all! 4294967295 =
    ap₂ ◌+◌ i.3 (add_entry_holds.ensures.value ∙ ap (λ (x : ℕ). bool_byte (is_within all! 4294967295 x)) eq) ∙ count-one tb l.a all! 4294967295 in
    (omega (arith, c.loop-a-test.true), add_entry_holds.auto.used ∙ i.1, more, n, omega (arith, n, count-le tb (l.a + 1) all! 4294967295))

pub shape_of-used : goal.shape_of-used
shape_of-used c = c.loop-a.invariant.1

pub returns : goal.returns
returns c =
    let places = c.places-all in
    let a = c.args in
    let l = c.loop-a in
    let e : l.a ≡ a.p.L = omega (arith, c.loop-a-test.false, l.invariant.0) in
    let s = places.ensures.0 in record {
      taken_counted_2 = subst (λ (x : ℕ). TakenCounted a.p a.segments.now a.addresses.now x l.used) e l.invariant.2;
      value =
          l.invariant.3 ∙ (λ j. count_places a.addresses.now (e j) (s j) 4294967295);
    }
