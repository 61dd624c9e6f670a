-- `shown_at`: the offsets from o on at which the table shows the stripe are all of them: a hit at o is the lowest, a miss passes on;
-- from `group_end` on no offset of the group shows it, and there is none. Assumes nothing.
-- the offsets from o on at which the table shows the stripe are all of them
use Prim.Native.Nat.{ℕ, ◌+◌, ◌-◌, ◌*◌, ◌≤◌, ◌<◌}
use Rattle.spec.specs.Drives.{view_of}
use Rattle.spec.specs.Lists.{up_from, keep}
use Rattle.spec.specs.Memory.{compact_at, shown_at}
use Rattle.spec.specs.Params.{image_len, compact_len}
use Rattle.law_basic.specs.Geometry.{ranged, compact_within, compact_high}
use Rattle.mem_lookup.specs.Shown.{shows, shown-list, search_hit, search_miss, search_end, shows_entry, shows-past, row_entry, group_first_low}
use borrow.Author.Tests.{eq-eqb, ne_eqb}
use lib.Dec.{eqb}
use lib.ListN.{length, get_or}
use mathlib.Core.Bool.{true, false}
use mathlib.Core.List.{List}
use mathlib.Core.Path.{◌≡◌, refl, sym, ap, ◌∙◌, subst}
use native.Mathlib.Omega.{arith}
use Rattle.mem_lookup.proofs.shown_at.Goals as goal
use Rattle.mem_lookup.proofs.shown_at.Goals.{After-group, After-group_end-end, In-loop-o}

pub overflow_cast-pointer : goal.overflow_cast-pointer
overflow_cast-pointer c = omega arith

pub compact_at-row-requires : goal.compact_at-row-requires
compact_at-row-requires c =
    let args = c.args in
    let pre = c.requires in record { p_value = pre.p_value; drive_lt_n = (pre.drive_lt_n.0, pre.drive_lt_n.1, omega (arith, (ranged args.p pre.p_value).stripes_low)) }

first_in : (c : After-group) → c.group.result * c.args.p.G < c.args.p.S
first_in c =
    let a = c.args in
    let pre = c.requires in
    let e : c.group.result * a.p.G ≤ a.s = subst (λ (x : ℕ). x * a.p.G ≤ a.s) (sym c.group.ensures.0) (group_first_low a.p a.s) in
    omega (arith, e, pre.drive_lt_n.2)

pub overflow_mul-first : goal.overflow_mul-first
overflow_mul-first c =
    let args = c.args in
    let pre = c.requires in
    omega (arith, first_in (goal.at.overflow_mul-first c).After-group, (ranged args.p pre.p_value).stripes_high)

pub group_end-end-requires : goal.group_end-end-requires
group_end-end-requires c =
    let pre = c.requires in record { p_value = pre.p_value; first_lt_s = first_in (goal.at.group_end-end-requires c).After-group }

pub loop-o-init : goal.loop-o-init
loop-o-init c = refl

row_in :
    (c : In-loop-o)
    → c.compact_at-row.result + c.loop-o.o < length
    c.args.compact.now
row_in c =
    let a = c.args in
    let group-end = c.group_end-end in
    let compact_at_holds = c.compact_at-row in
    let pre = c.requires in
    let o = c.loop-o.o in
    let h : o < a.p.S = omega (arith, c.loop-o-test.true, group-end.ensures.upper_bound.1) in
    let w : compact_at a.p a.drive a.zone o < compact_len a.p = compact_within a.p a.drive a.zone o pre.drive_lt_n.0 pre.drive_lt_n.1 h in
    let e : compact_at_holds.result + o ≡ compact_at a.p a.drive a.zone o = row_entry a.p a.drive a.zone o compact_at_holds.result compact_at_holds.ensures.0 in
    omega (arith, w, e, pre.pointers_len.1)

pub overflow_add-row : goal.overflow_add-row
overflow_add-row c =
    let args = c.args in
    let pre = c.requires in
    omega (arith, row_in (goal.at.overflow_add-row c).In-loop-o, pre.pointers_len.1, compact_high args.p (ranged args.p pre.p_value))

pub bounds-compact-row : goal.bounds-compact-row
bounds-compact-row c = row_in (goal.at.bounds-compact-row c).In-loop-o

-- the test at an offset below the end is that of its entry
entry_at :
    (c : In-loop-o)
    → shows c.args.p
    c.pointer-pointer.result
    c.args.compact.now
    c.args.drive
    c.args.zone
    c.args.s c.loop-o.o
    ≡ eqb (get_or c.args.compact.now
    (c.compact_at-row.result + c.loop-o.o) 0)
    c.compact_entry-entry.result
entry_at c =
    let a = c.args in
    let group-end = c.group_end-end in
    let group' = c.group in
    let compact-entry = c.compact_entry-entry in
    let compact_at_holds = c.compact_at-row in
    let pointer = c.pointer-pointer in
    let o = c.loop-o.o in
    let cs = a.compact.now in
    shows_entry a.p pointer.result cs a.drive a.zone a.s group-end.result (group'.result * a.p.G + a.p.G) group-end.ensures.by_index o c.loop-o-test.true
    ∙ (λ j. eqb (get_or cs (sym (row_entry a.p a.drive a.zone o compact_at_holds.result compact_at_holds.ensures.0) j) 0) (sym compact-entry.ensures j))

-- what the table shows, as the loop has it
shown_all : (c : After-group_end-end) (off im : List ℕ) → length im ≡ image_len c.args.p
    → keep (shows c.args.p
    c.pointer-pointer.result
    c.args.compact.now
    c.args.drive
    c.args.zone
    c.args.s)
    (up_from (c.group.result * c.args.p.G)
    (c.group.result * c.args.p.G +
    c.args.p.G - c.group.result *
    c.args.p.G))
    ≡ shown_at c.args.p
    (view_of c.args.p off im
    c.args.pointers.now)
    c.args.compact.now
    c.args.drive
    c.args.zone
    c.args.s
shown_all c off im h =
    let a = c.args in
    let group' = c.group in
    let pointer = c.pointer-pointer in
    let pre = c.requires in
    shown-list a.p off im a.pointers.now a.compact.now a.drive a.zone a.s pointer.result (group'.result * a.p.G) pre.drive_lt_n.0 pre.drive_lt_n.1 h pre.pointers_len.0
    pointer.ensures (ap (λ (x : ℕ). x * a.p.G) group'.ensures.0)

pub returns-then-compact-row : goal.returns-then-compact-row
returns-then-compact-row c =
    let a = c.args in
    let loop-test = c.loop-o-test in
    let loop = c.loop-o in
    let group-end = c.group_end-end in
    let group' = c.group in
    let compact-entry = c.compact_entry-entry in
    let compact_at_holds = c.compact_at-row in
    let pointer = c.pointer-pointer in
    let o = loop.o in
    let f = shows a.p pointer.result a.compact.now a.drive a.zone a.s in
    let m = group'.result * a.p.G + a.p.G in
    let l : List ℕ → List ℕ → List ℕ = λ off im. shown_at a.p (view_of a.p off im a.pointers.now) a.compact.now a.drive a.zone a.s in
    let lt : o < a.p.S = omega (arith, loop-test.true, group-end.ensures.upper_bound.1) in
    let gt : o < m = omega (arith, loop-test.true, group-end.ensures.upper_bound.0) in
    let hit : f o ≡ true = entry_at (goal.at.returns-then-compact-row c).In-loop-o
    ∙ eq-eqb (get_or a.compact.now (compact_at_holds.result + o) 0) compact-entry.result c.if-compact-row.true in
    record {
      by_index = (λ off im h. (search_hit f o m a.p.S (l off im)
          (loop.invariant ∙ shown_all (goal.at.returns-then-compact-row c).After-group_end-end off im h) gt hit).0);
      by_index_2 = λ off im h. sym (search_hit f o m a.p.S (l off im) (loop.invariant ∙ shown_all (goal.at.returns-then-compact-row c).After-group_end-end off im h) gt hit).1;
      upper_bound = lt;
    }

pub loop-o-preserved : goal.loop-o-preserved
loop-o-preserved c =
    let a = c.args in
    let loop-test = c.loop-o-test in
    let loop = c.loop-o in
    let group-end = c.group_end-end in
    let group' = c.group in
    let compact-entry = c.compact_entry-entry in
    let compact_at_holds = c.compact_at-row in
    let pointer = c.pointer-pointer in
    let o = loop.o in
    let f = shows a.p pointer.result a.compact.now a.drive a.zone a.s in
    let i = group'.result * a.p.G in
    let gt : o < i + a.p.G = omega (arith, loop-test.true, group-end.ensures.upper_bound.0) in
    search_miss f o (i + a.p.G) a.p.S (keep f (up_from i (i + a.p.G - i))) loop.invariant gt
    (entry_at (goal.at.loop-o-preserved c).In-loop-o ∙ ne_eqb (get_or a.compact.now (compact_at_holds.result + o) 0) compact-entry.result c.if-compact-row.false)

pub returns : goal.returns
returns c =
    let a = c.args in
    let group-end = c.group_end-end in
    let group' = c.group in
    let pointer = c.pointer-pointer in
    let o = c.loop-o.o in
    let f = shows a.p pointer.result a.compact.now a.drive a.zone a.s in
    let m = group'.result * a.p.G + a.p.G in
    let l : List ℕ → List ℕ → List ℕ = λ off im. shown_at a.p (view_of a.p off im a.pointers.now) a.compact.now a.drive a.zone a.s in
    let past : (k : ℕ) → o ≤ k → k < m → f k ≡ false =
    λ k g h. shows-past a.p pointer.result a.compact.now a.drive a.zone a.s group-end.result m group-end.ensures.by_index k
    (omega (arith, c.loop-o-test.false)) h in
    record {
      by_index = (λ off im h. (search_end f o m a.p.S (l off im) (c.loop-o.invariant ∙ shown_all (goal.at.returns c).After-group_end-end off im h) past).0);
      by_index_2 = λ off im h. sym (search_end f o m a.p.S (l off im) (c.loop-o.invariant ∙ shown_all (goal.at.returns c).After-group_end-end off im h) past).1;
      upper_bound = tt;
    }
