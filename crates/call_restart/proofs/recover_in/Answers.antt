-- `recover_in`: refused, cut or done: the laws of the three ends (Ends) say what is left, by what gather, settle and load say; behind the stores the segments are gathered again. Assumes nothing.
use Rattle.mem_calls.specs.Left.{answer_of}
use Rattle.spec.specs.Calls.{mk_after}
use Rattle.spec.specs.declared.Answer.{Answer}
use mathlib.Core.List.{[]}
use Rattle.spec.specs.Drives.{mk_disk}
use Rattle.spec.specs.Memory.{mk_memory}
use Rattle.call_restart.specs.Ends.{ends_restart_refused, ends_restart_cut, ends_restart_done}
use mathlib.Core.Path.{ap, ◌∙◌}
use Rattle.call_restart.proofs.recover_in.Goals as goal

pub gather-requires : goal.gather-requires
gather-requires c =
    let q = c.requires in
    let s = q.z_in_bounds in record { here = q.whole.2; z_in_bounds = (s.0, s.1, s.2, s.3) }

pub settle-requires : goal.settle-requires
settle-requires c =
    let q = c.requires in
    let g = c.gather.ensures in record { p_value = q.p_value; whole = q.whole; gone_value = q.gone_value; keeps = (g.keeps, g.flags_rows); serials = (g.serials, q.z_in_bounds.4) }

pub returns-in-Err-Check : goal.returns-in-Err-Check
returns-in-Err-Check c = λ fl.
    let a = c.args in
    let t = c.settle.new in
    let k = mk_disk a.image.now a.pointers.now in
    let k' = mk_disk t.image t.pointers in
    let m = mk_memory a.state a.addresses.now a.compact.now fl in
    ap (λ (x : Answer). mk_after x k' m []) (c.from.ensures ∙ ap answer_of c.in-Err-Check.why-is)
    ∙ ends_restart_refused a.p a.offline.now k m a.gone a.count k' c.in-Err-Check.why (rw c.in-Err-Check.field-0-is at c.in-Err-Check.ensures)

pub returns-in-Err-Count : goal.returns-in-Err-Count
returns-in-Err-Count c = λ fl.
    let a = c.args in
    let q = c.requires in
    let t = c.settle.new in
    let x = c.cut in
    ends_restart_cut a.p a.offline.now (mk_disk a.image.now a.pointers.now) (mk_memory a.state a.addresses.now a.compact.now fl) a.gone a.count (mk_disk t.image t.pointers)
    (rw c.in-Err-Count.field-0-is at c.in-Err-Count.ensures) x.result x.new.addresses x.new.compact
    q.addresses_len.0 q.addresses_len.1 x.ensures.answer_value.0 x.ensures.answer_value.1 x.ensures.addresses_after.0 x.ensures.addresses_after.1

pub gather-requires-2 : goal.gather-requires-2
gather-requires-2 c =
    let q = c.requires in
    let g = c.gather.ensures in
    record {
      here = q.whole.2;
      z_in_bounds = (g.flags_rows.0, g.serials.0, g.left_flags.0, g.keeps.0);
    }

pub load-next-requires : goal.load-next-requires
load-next-requires c =
    let q = c.requires in
    let g = c.gather-2.ensures in
    let t = c.in-Ok.ensures in record {
      p_value = q.p_value;
      whole = t.whole_is;
      addresses_len = q.addresses_len;
      loading =
          record { here = q.whole.2; apart = t.apart_is; clean = t.good; rows_are = g.flags_rows; serials_are = g.serials; kept_are = g.keeps };
    }

pub shape_of-image : goal.shape_of-image
shape_of-image c =
    c.settle.auto.image

pub shape_of-pointers : goal.shape_of-pointers
shape_of-pointers c =
    c.settle.auto.pointers

pub shape_of-rows : goal.shape_of-rows
shape_of-rows c =
    c.gather-2.auto.rows ∙ c.gather.auto.rows

pub shape_of-serials : goal.shape_of-serials
shape_of-serials c =
    c.gather-2.auto.serials ∙ c.gather.auto.serials

pub shape_of-flags : goal.shape_of-flags
shape_of-flags c =
    c.gather-2.auto.left ∙ c.gather.auto.left

pub shape_of-kept : goal.shape_of-kept
shape_of-kept c =
    c.gather-2.auto.kept ∙ c.gather.auto.kept

pub shape_of-marks : goal.shape_of-marks
shape_of-marks c =
    c.settle.auto.marks

pub returns : goal.returns
returns c = λ fl.
    let a = c.args in
    let t = c.settle in
    let x = c.load-next in
    ends_restart_done a.p a.offline.now (mk_disk a.image.now a.pointers.now) (mk_memory a.state a.addresses.now a.compact.now fl) a.gone a.count (mk_disk t.new.image t.new.pointers)
    _ c.in-Ok.ensures x.result x.new.addresses x.new.compact x.ensures
