-- The place in the table is that of the law compactAt at the segment's zone, which lies in the table; the byte there is the entry.
use mathlib.Core.Path.{◌≡◌, ap, ◌∙◌}
use Prim.Native.Nat.{ℕ, ◌+◌, ◌<◌}
use native.Mathlib.Omega.{arith}
use lib.ListN.{get_or}
use Rattle.spec.specs.Memory.{compact_at}
use Rattle.spec.specs.Params.{compact_len}
use Rattle.spec.specs.Drives.{zone_on}
use Rattle.recover_groups.specs.Bases.{group_len_fits}
use Rattle.law_basic.specs.Geometry.{ranged}
use Rattle.recover_tables.specs.Index.{compact_entry_within}
use Rattle.recover_tables.proofs.entry_at.Goals as goal
use Rattle.recover_tables.proofs.entry_at.Lts
use Rattle.recover_tables.proofs.entry_at.Reads
use Rattle.recover_tables.proofs.entry_at.Tie

pub zone_on-zone-requires : goal.zone_on-zone-requires
zone_on-zone-requires c =
    let pre = c.requires in record { p_value = pre.p_value; drive_lt_n = pre.compact_len.1 }

pub compact_at-from-requires : goal.compact_at-from-requires
compact_at-from-requires c =
    let pre = c.requires in
    let h = pre.compact_len in record { p_value = pre.p_value; drive_lt_n = (h.1, rw c.zone_on-zone.ensures h.2, h.3) }

pub overflow_add-result : goal.overflow_add-result
overflow_add-result c =
    let a = c.args in
    let pre = c.requires in
    let h = pre.compact_len in
    omega (arith, c.compact_at-from.ensures.2, group_len_fits a.p a.w.base (omega (arith, h.3)), h.3, h.4, (ranged a.p pre.p_value).stripes_high)

at_is : (c : Lts.After-compact_at Tie.the-claims Reads.Pre Reads.Post Tie.handed_clauses)
    → let a = c.before.before.before.before.args in c.compact_at-from.result ≡ compact_at a.p a.drive (zone_on a.w.seg a.drive) a.w.base
at_is c =
    let a = c.before.before.before.before.args in
    c.compact_at-from.ensures.0 ∙ ap (λ (z : ℕ). compact_at a.p a.drive z a.w.base) c.before.zone_on-zone.ensures

within : (c : Lts.After-compact_at Tie.the-claims Reads.Pre Reads.Post Tie.handed_clauses) → let a = c.before.before.before.before.args in c.compact_at-from.result + a.i < compact_len a.p
within c =
    let a = c.before.before.before.before.args in
    let pre = c.before.before.before.before.requires in
    let h = pre.compact_len in
    let e = at_is c in
    omega (
      arith,
      e,
      compact_entry_within a.p a.drive (zone_on a.w.seg a.drive) a.w.base a.i h.1
          h.2 (omega (arith, group_len_fits a.p a.w.base (omega (arith, h.3)), h.4)),
    )

pub bounds-compact-from : goal.bounds-compact-from
bounds-compact-from c =
    let pre = c.requires in
    omega (arith, within c.before.before, pre.compact_len.0)

pub overflow_cast-result : goal.overflow_cast-result
overflow_cast-result c =
    let args = c.args in
    let k = c.shared_slice_known-2-1.given (c.compact_at-from.result + args.i) in omega (arith, k)

pub returns : goal.returns
returns c =
    let a = c.args in
    let k = c.shared_slice_known-2-1.given (c.compact_at-from.result + a.i) in
    (ap (λ (x : ℕ). get_or a.compact.now (x + a.i) 0) (at_is c.before.before), omega (arith, k))
