-- `row`: the entries of the stored data, then zeros up to S, by `row_both`. Assumes nothing.
use mathlib.Core.Path.{◌≡◌, sym, ap, ap₂, ◌∙◌}
use mathlib.Core.List.{List, map, ◌++◌}
use Prim.Native.Nat.{ℕ, ◌-◌}
use native.Mathlib.Omega.{arith}
use lib.ListN.{replicate, length-map}
use Rattle.spec.specs.Bytes.{splice}
use Rattle.spec.specs.Drives.{Zone, view_of, zone_at, data_stored}
use Rattle.spec.specs.Lists.{below}
use Rattle.law_basic.specs.Geometry.{ranged, row_fits}
use Rattle.law_basic.specs.Ranges.{length-below}
use Rattle.recover_compact.specs.Compacts.{entry_said, row_stored, row_both}
use Rattle.recover_compact.proofs.row.Goals as goal

pub compact_at-at-requires : goal.compact_at-at-requires
compact_at-at-requires c = record { p_value = c.requires.p_value; drive_lt_n = (c.requires.compact_len.1, c.requires.compact_len.2, (ranged c.args.p c.requires.p_value).stripes_low) }

pub entries-requires : goal.entries-requires
entries-requires c =
    let q = c.requires.compact_len in
    let f = row_fits c.args.p c.args.drive c.args.zone q.1 q.2 in
    record { p_value = c.requires.p_value; image_len = (c.requires.whole.image_long, q.1, q.2, c.data_stored-n.ensures.upper_bound, omega (arith, c.compact_at-at.ensures.0, q.0, f)) }

pub overflow_add-at : goal.overflow_add-at
overflow_add-at c =
    let compact_at_holds = c.compact_at-at in
    let data-stored = c.data_stored-n in
    omega (arith, compact_at_holds.ensures.2, data-stored.ensures.upper_bound, (ranged c.args.p c.requires.p_value).stripes_high)

pub overflow_sub-p : goal.overflow_sub-p
overflow_sub-p c = c.data_stored-n.ensures.upper_bound

pub clear_part-requires : goal.clear_part-requires
clear_part-requires c =
    let compact_at_holds = c.compact_at-at in
    let data-stored = c.data_stored-n in
    let entries = c.entries in
    let q = c.requires.compact_len in
    let f = row_fits c.args.p c.args.drive c.args.zone q.1 q.2 in
    omega (arith, compact_at_holds.ensures.0, q.0, data-stored.ensures.upper_bound, entries.auto.compact, f)

pub shape_of-compact : goal.shape_of-compact
shape_of-compact c = c.clear_part.auto.dst ∙ c.entries.auto.compact

pub returns : goal.returns
returns c =
    let data-stored = c.data_stored-n in
    let compact_at_holds = c.compact_at-at in
    let entries = c.entries in
    let clear-part = c.clear_part in
    let a = c.args in
    let p = a.p in
    let q = c.requires.compact_len in
    let n = data-stored.result in
    let at = compact_at_holds.ensures.0 in
    let f = row_fits p a.drive a.zone q.1 q.2 in
    λ off.
    let z : Zone = zone_at (view_of p off a.image.now a.pointers.now) a.drive a.zone in
    let s : List ℕ = map (entry_said p a.full z) (below n) in
    let d : n ≡ data_stored p z = data-stored.ensures.by_index off a.image.now c.requires.whole.image_long in
    row_both a.compact.now entries.new.compact clear-part.new.dst compact_at_holds.result n (p.S - n) s
    (omega (arith, at, q.0, data-stored.ensures.upper_bound, f))
    (length-map (below n) (entry_said p a.full z) ∙ length-below n)
    (entries.ensures off a.pointers.now c.requires.whole.pointers_long) clear-part.ensures
    ∙ ap₂ (splice a.compact.now) at
    (ap (λ (m : ℕ). map (entry_said p a.full z) (below m) ++ replicate (p.S - m) 0) d ∙ sym (row_stored p a.full z))
