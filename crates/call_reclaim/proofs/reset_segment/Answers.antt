-- `reset_segment`: the stores only reset pointers, so any image will do; cut is `reset_cut`, else the rows are cleared (`reset_done`). Assumes nothing.
use Rattle.spec.specs.Drives.{mk_disk}
use Rattle.spec.specs.Memory.{mk_memory}
use Rattle.law_basic.specs.Geometry.{ranged}
use Rattle.spec.specs.declared.Answer.TheVariants.{Reset}
use Rattle.call_reclaim.specs.Clearing.{reset_cut, reset_done}
use Rattle.mem_rows.specs.Rows.{kept_as}
use Rattle.mem_rows.specs.declared.Change.{Change}
use mathlib.Core.Path.{sym, ap, ◌∙◌}
use native.Mathlib.Omega.{arith}
use Rattle.call_reclaim.proofs.reset_segment.Goals as goal

pub reset_stores-made-requires : goal.reset_stores-made-requires
reset_stores-made-requires c = record { p_value = c.requires.p_value; pointers_len = (c.requires.pointers_len.0, c.requires.pointers_len.3) }

pub returns-then-is_err : goal.returns-then-is_err
returns-then-is_err c =
    let o = c.cut in
    let r = c.reset_stores-made in
    let a = c.args in
    λ st im fl e. reset_cut a.p a.count a.segment (mk_disk im a.pointers.now) (mk_disk im r.new.pointers)
    (mk_memory st a.addresses.now a.compact.now fl) r.result (r.ensures im) c.requires.pointers_len.1 c.requires.pointers_len.2 (sym c.is_err.ensures.value ∙ c.if-is_err.true)
    o.result o.new.addresses o.new.compact (ap (λ (x : Change). x.answer) o.ensures.value) o.ensures.addresses_after.0 o.ensures.addresses_after.1

pub clear_rows-requires : goal.clear_rows-requires
clear_rows-requires c = record { p_value = c.requires.p_value; compact_len = (c.requires.pointers_len.2, c.requires.pointers_len.3) }

pub zone_on-zone-requires : goal.zone_on-zone-requires
zone_on-zone-requires c = record { p_value = c.requires.p_value; drive_lt_n = omega (arith, (ranged c.args.p c.requires.p_value).drives_low) }

pub returns : goal.returns
returns c =
    let a = c.args in
    let r = c.reset_stores-made in
    let rows = c.clear_rows in
    let zone = c.zone_on-zone.ensures in
    λ st im fl e. reset_done a.p a.count a.segment (mk_disk im a.pointers.now) (mk_disk im r.new.pointers)
    (mk_memory st a.addresses.now a.compact.now fl) r.result (r.ensures im) (sym c.is_err.ensures.value ∙ c.if-is_err.false)
    c.kept.result (c.kept.ensures ∙ (λ j. kept_as (Reset (zone j)) (e j))) rows.new.compact rows.ensures
