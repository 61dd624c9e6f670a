-- The row is clear first. A missing drive has no entry, so a clear row is its row; of a present one index_drive fills it.
use mathlib.Core.Path.{sym, ◌∙◌}
use Prim.Native.Nat.{◌+◌}
use native.Mathlib.Omega.{arith}
use Rattle.spec.specs.Drives.{view_of}
use Rattle.recover_groups.specs.Bases.{group_len_le}
use Rattle.recover_groups.specs.Chunks.{missing_entry}
use Rattle.recover_tables.proofs.index_any.Goals as goal

pub returns-then-has_drive : goal.returns-then-has_drive
returns-then-has_drive c =
    let clear-row = c.clear_row in
    let a = c.args in
    let p = a.p in
    let w = a.w in
    let q = c.requires in
    let f = group_len_le p w.base in
    λ off im G m sh. (
      clear-row.ensures.same_below,
      λ k hk. clear-row.ensures.by_index k (omega (arith, f, hk))
          ∙ sym (missing_entry p (view_of p off im a.pointers.now) w.gone w.seg w.base a.drive (w.base + k) q.drive_lt_n.0 (sym c.has_drive.ensures ∙ c.if-has_drive.true)),
    )

pub index_drive-requires : goal.index_drive-requires
index_drive-requires c =
    let r = c.clear_row in
    let a = c.args in
    let q = c.requires in
    let f = group_len_le a.p a.w.base in record {
      p_value = q.p_value;
      pointers_len = (q.pointers_len.0, q.pointers_len.1, r.auto.at ∙ q.pointers_len.2);
      drive_lt_n =
          (q.drive_lt_n.0, q.drive_lt_n.1, q.drive_lt_n.2, q.drive_lt_n.3, sym c.has_drive.ensures ∙ c.if-has_drive.false);
      by_index = λ k hk. r.ensures.by_index k (omega (arith, f, hk));
    }

pub returns : goal.returns
returns c =
    let clear-row = c.clear_row in
    λ off im G m sh.
    let z = c.index_drive.ensures off im G m sh in
    ((λ j h. z.0 j h ∙ clear-row.ensures.same_below j h), z.1)
