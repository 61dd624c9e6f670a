-- `entries`: the first o entries of the row are those of the zone's records, and base is a multiple of G at or below o; one turn sets entry o. Assumes nothing.
use mathlib.Core.Path.{◌≡◌, refl, ap, ◌∙◌}
use mathlib.Core.List.{List, map}
use Prim.Native.Nat.{ℕ, ◌+◌}
use native.Mathlib.Omega.{arith}
use lib.ListN.{length, set, length-set}
use Rattle.spec.specs.Bytes.{splice}
use Rattle.spec.specs.Drives.{Zone, view_of, zone_at}
use Rattle.spec.specs.Layout.{Rec}
use Rattle.spec.specs.Lists.{below}
use Rattle.spec.specs.Params.{pointers_len}
use Rattle.recover_compact.specs.Compacts.{entry_said, entry_of_lem, entries_turn, entries_none, zero_base}
use Rattle.recover_compact.proofs.entries.Goals as goal

pub loop-o-init : goal.loop-o-init
loop-o-init c =
    let a = c.args in (
      omega arith,
      omega arith,
      zero_base a.p.G,
      refl,
      λ off ps h. entries_none a.p a.full (zone_at (view_of a.p off a.image.now ps) a.drive a.zone) a.compact.now a.row,
    )

pub record_in-r-requires : goal.record_in-r-requires
record_in-r-requires c =
    let q = c.requires in record { p_value = q.p_value; image_len = (q.image_len.0, q.image_len.1, q.image_len.2, omega (arith, c.loop-o-test.true, q.image_len.3)) }

pub base_at-base-requires : goal.base_at-base-requires
base_at-base-requires c =
    let q = c.requires in
    let l = c.loop-o in record { p_value = q.p_value; base_le_o = (l.invariant.1, omega (arith, c.loop-o-test.true, q.image_len.3), l.invariant.2) }

pub entry_near-requires : goal.entry_near-requires
entry_near-requires c =
    let pre = c.requires in record { p_value = pre.p_value; g_value = c.base_at-base.ensures.1 }

pub overflow_add-compact : goal.overflow_add-compact
overflow_add-compact c =
    let loop-test = c.loop-o-test in
    let pre = c.requires in
    omega (arith, pre, loop-test)

pub bounds-compact-row : goal.bounds-compact-row
bounds-compact-row c =
    let loop-test = c.loop-o-test in
    let pre = c.requires in
    omega (arith, pre, loop-test)

pub loop-o-preserved : goal.loop-o-preserved
loop-o-preserved c =
    let l = c.loop-o in
    let a = c.args in
    let q = c.requires in
    let base-at = c.base_at-base in
    let record-in = c.record_in-r in
    let loop-test = c.loop-o-test in
    let v : List ℕ → List ℕ → Zone = λ off ps. zone_at (view_of a.p off a.image.now ps) a.drive a.zone in
    let e : (off ps : List ℕ) → length ps ≡ pointers_len a.p → c.entry_near.result ≡ entry_said a.p a.full (v off ps) l.o =
    λ off ps h. c.entry_near.ensures ∙ entry_of_lem a.p a.full (v off ps) l.o record-in.result.stripe (ap (λ (x : Rec). x.stripe) (record-in.ensures off ps h)) in (
      omega arith,
      omega (arith, base-at.ensures.0),
      base-at.ensures.1,
      simp length-set l.invariant.3,
      λ off ps h. ap (set l.compact (a.row + l.o)) (e off ps h)
          ∙ entries_turn a.p a.full (v off ps) a.compact.now l.compact a.row l.o (omega (arith, loop-test.true, q.image_len.3, q.image_len.4))
          (l.invariant.4 off ps h),
    )

pub shape_of-compact : goal.shape_of-compact
shape_of-compact c = c.loop-o.invariant.3

pub returns : goal.returns
returns c =
    let l = c.loop-o in
    let a = c.args in
    let e : l.o ≡ a.n = omega (arith, c.loop-o-test.false) in
    λ off ps h. l.invariant.4 off ps h
    ∙ ap (λ (x : ℕ). splice a.compact.now a.row (map (entry_said a.p a.full (zone_at (view_of a.p off a.image.now ps) a.drive a.zone)) (below x))) e
