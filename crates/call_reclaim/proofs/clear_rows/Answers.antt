-- `clear_rows`: clearing the rows of drives d on in the table so far gives what clearing all gives; a turn clears drive d's (`cleared_turn`). Assumes nothing.
use Prim.Native.Nat.{ℕ}
use Rattle.spec.specs.Bytes.{splice}
use Rattle.spec.specs.Drives.{zone_on}
use Rattle.spec.specs.Memory.{compact_at}
use Rattle.law_basic.specs.Geometry.{ranged, row_fits}
use Rattle.call_reclaim.specs.Clearing.{cleared-start, cleared_turn, cleared_end}
use lib.ListN.{replicate}
use mathlib.Core.Path.{◌≡◌, ap, ◌∙◌}
use native.Mathlib.Omega.{arith}
use Rattle.law_basic.specs.Segs.{low_here}
use Rattle.call_reclaim.proofs.clear_rows.Goals as goal

pub loop-d-init : goal.loop-d-init
loop-d-init c = cleared-start c.args.p c.args.segment c.args.compact.now

pub zone_on-zone-requires : goal.zone_on-zone-requires
zone_on-zone-requires c = record { p_value = c.requires.p_value; drive_lt_n = c.loop-d-test.true }

pub compact_at-at-requires : goal.compact_at-at-requires
compact_at-at-requires c =
    let a = c.args in
    let loop = c.loop-d in
    let pre = c.requires in
    let z = low_here a.p a.segment loop.d pre.compact_len.1 c.loop-d-test.true in
    record { p_value = pre.p_value; drive_lt_n = (c.loop-d-test.true, omega (arith, c.zone_on-zone.ensures, z), omega (arith, (ranged a.p pre.p_value).stripes_low)) }

pub clear_part-requires : goal.clear_part-requires
clear_part-requires c =
    let a = c.args in
    let l = c.loop-d in
    let zone_on_holds = c.zone_on-zone in
    let if1 = c.loop-d-test in
    let pre = c.requires in
    let z = low_here a.p a.segment l.d pre.compact_len.1 if1.true in
    omega (arith, c.compact_at-at.ensures.0, row_fits a.p l.d zone_on_holds.result if1.true (omega (arith, zone_on_holds.ensures, z)), l.auto.compact, pre.compact_len.0)

pub loop-d-preserved : goal.loop-d-preserved
loop-d-preserved c =
    let a = c.args in
    let l = c.loop-d in
    let e : c.compact_at-at.result ≡ compact_at a.p l.d (zone_on a.segment l.d) 0 = c.compact_at-at.ensures.0 ∙ ap (λ (z : ℕ). compact_at a.p l.d z 0) c.zone_on-zone.ensures in
    cleared_turn a.p a.segment l.d l.compact c.clear_part.new.dst c.loop-d-test.true (c.clear_part.ensures ∙ ap (λ (x : ℕ). splice l.compact x (replicate a.p.S 0)) e) ∙ l.invariant

pub returns : goal.returns
returns c = cleared_end c.args.p c.args.segment c.loop-d.d c.loop-d.compact (omega (arith, c.loop-d-test.false)) ∙ c.loop-d.invariant
