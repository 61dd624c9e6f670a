-- `add_entry`: a place outside counts nowhere; another's zone q / cap is numbered and its segment has a count, which one more fits. Assumes nothing.
use Prim.Native.Nat.{ℕ, ◌+◌, ◌*◌, ◌/◌, ◌<◌}
use borrow.Author.Tests.{lt-ltb, le-ltb, le-leb, lt-leb}
use lib.ListN.{length, get_or, set}
use lib.Dec.{ltb}
use mathlib.Core.Bool.{Bool, cond, ◌&&◌}
use mir.Val.{bool_byte}
use mathlib.Core.Path.{◌≡◌, sym, ap, ◌∙◌, subst}
use native.Mathlib.Nat.{div-lt_iff_lt-mul}
use native.Mathlib.Omega.{arith}
use Rattle.call_reclaim_entries.proofs.add_entry.Goals as goal
use Rattle.call_reclaim_entries.proofs.add_entry.Lts
use Rattle.call_reclaim_entries.proofs.add_entry.Reads
use Rattle.call_reclaim_entries.proofs.add_entry.Tie

abbrev After-zone_number : Type 0
After-zone_number = Lts.After-zone_number Tie.the-claims Reads.Pre Reads.Post Tie.handed_clauses

abbrev After-from : Type 0
After-from = Lts.After-from Tie.the-claims Reads.Pre Reads.Post Tie.handed_clauses

pub returns-then-all-q : goal.returns-then-all-q
returns-then-all-q c =
    let a = c.args in
    let u = a.used.now in
    let g = get_or a.segments.now (a.q / a.cap) 0 in
    record {
      used_after = ap (λ (b : Bool). cond b (set u g (get_or u g 0 + 1)) u) (sym (le-ltb a.q a.all c.if-all-q.true));
      value = ap
          (λ (b : Bool). bool_byte (b && ltb a.q 4294967295)) (sym (le-leb a.all a.q c.if-all-q.true));
    }

pub zone_number-t-requires : goal.zone_number-t-requires
zone_number-t-requires c =
    let h = c.requires.le_cap in (h.0, h.1, omega (arith, h.2, c.if-all-q.false), h.3)

-- the zone is one of those numbered
in_zones : (c : After-zone_number) → c.zone_number-t.result < length c.before.before.before.before.args.segments.now
in_zones c =
    let start = c.before.before.before.before in
    let a = start.args in
    let h = start.requires.le_cap in
    let n = length a.segments.now in
    let k : a.q < n * a.cap = omega (arith, h.4, c.before.if-all-q.false) in
    subst (λ (x : ℕ). x < n) (sym c.zone_number-t.ensures) ((div-lt_iff_lt-mul {k = a.cap} {x = a.q} {y = n} (omega (arith, h.0))).1 k)

pub offset_bounds-segments-t : goal.offset_bounds-segments-t
offset_bounds-segments-t c = omega (arith, in_zones c.before)

pub bounds-segments-t : goal.bounds-segments-t
bounds-segments-t c = in_zones c.before.before

-- the segment, as it is read
its_segment : (c : After-from)
    → c.from-g.result
    ≡ get_or c.before.before.before.before.before.before.args.segments.now
    (c.before.before.before.before.before.before.args.q / c.before.before.before.before.before.before.args.cap) 0
its_segment c =
    let start = c.before.before.before.before.before.before in
    c.from-g.ensures ∙ ap (λ (x : ℕ). get_or start.args.segments.now x 0) c.before.before.zone_number-t.ensures

-- it has a count
counted : (c : After-from) → c.from-g.result < length c.before.before.before.before.before.before.args.used.now
counted c =
    let at_if_all_q = c.before.before.before in
    let start = at_if_all_q.before.before.before in
    subst (λ (x : ℕ). x < length start.args.used.now) (sym (its_segment c)) (start.requires.cap_in_bounds (omega (arith, at_if_all_q.if-all-q.false)))

pub offset_bounds-used-g : goal.offset_bounds-used-g
offset_bounds-used-g c = omega (arith, counted c.before)

pub bounds-used-g : goal.bounds-used-g
bounds-used-g c = counted c.before.before

pub overflow_add-used : goal.overflow_add-used
overflow_add-used c =
    let a = c.args in
    let h = c.requires.cap_bound (omega (arith, c.if-all-q.false)) in
    let k : get_or a.used.now c.from-g.result 0 < 18446744073709551615 = subst (λ (x : ℕ). get_or a.used.now x 0 < 18446744073709551615) (sym (its_segment c.before.before)) h in
    omega (arith, k)

pub offset_bounds-used-g-2 : goal.offset_bounds-used-g-2
offset_bounds-used-g-2 c = omega (arith, counted c.before.before)

pub bounds-used-g-2 : goal.bounds-used-g-2
bounds-used-g-2 c = counted c.before.before

pub returns : goal.returns
returns c =
    let a = c.args in
    let u = a.used.now in
    let g = get_or a.segments.now (a.q / a.cap) 0 in
    let h : a.q < a.all = omega (arith, c.if-all-q.false) in
    record {
      used_after = ap (λ (x : ℕ). set u x (get_or u x 0 + 1)) (its_segment c.before.before)
          ∙ ap (λ (b : Bool). cond b (set u g (get_or u g 0 + 1)) u) (sym (lt-ltb a.q a.all h));
      value = ap (λ (b : Bool). bool_byte (b && ltb a.q 4294967295)) (sym (lt-leb a.all a.q h));
    }
