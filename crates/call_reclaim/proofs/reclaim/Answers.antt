-- `reclaim`: front and aim are those of the state, which the bytes say. The choice says the rest: refused is `reclaim_refused`, no live block
-- `reclaim_clear`, one to copy `reclaim_copy`. Assumes nothing.
use Rattle.mem_calls.specs.Left.{checked}
use Rattle.spec.specs.Calls.{outcome}
use Rattle.spec.specs.Calls.Verdict.{due}
use Rattle.spec.specs.Drives.{view_of, mk_disk, store_disk}
use Rattle.spec.specs.Lists.Opt.{none, some}
use Rattle.spec.specs.Memory.{mk_memory}
use Rattle.spec.specs.Reclaim.{victim, copy_plan}
use Rattle.spec.specs.declared.State.{State}
use Rattle.call_copy.specs.Copying.{CopyReady}
use Rattle.call_filling.specs.Aims.{aim_of, front_aim}
use Rattle.call_reclaim.specs.Choosing.{reclaim_refusal, Chose}
use Rattle.call_reclaim.specs.Ends.{lent, copy_ready, reclaim_refused, reclaim_clear, reclaim_copy}
use Rattle.call_reclaim.specs.declared.Picked.{Picked}
use Rattle.mem_rows.specs.Rows.{front_of, after_change}
use Rattle.mem_rows.specs.declared.Change.{Change}
use mathlib.Core.List.{[]}
use mathlib.Core.Path.{◌≡◌, sym, ap, ◌∙◌, subst}
use Rattle.call_reclaim.proofs.reclaim.Goals as goal
use Rattle.call_reclaim.proofs.reclaim.Goals.{After-aim_of-a, In-Ok}

-- the aim is the state's
aimed : (c : After-aim_of-a) → c.aim_of-a.result ≡ aim_of c.args.p c.args.state
aimed c = c.aim_of-a.ensures ∙ front_aim c.args.p c.args.state c.front_of-f.result c.front_of-f.ensures

pub choose-requires : goal.choose-requires
choose-requires c =
    let e = c.requires.0 in
    (c.front_of-f.ensures ∙ ap front_of e, aimed (goal.at.choose-requires c).After-aim_of-a ∙ ap (aim_of c.args.p) e, ap (λ (x : State). x.missing) e, c.requires.1)

pub returns-in-Err : goal.returns-in-Err
returns-in-Err c =
    let a = c.args in
    let e = subst (λ (x : State). checked c.choose.result ≡ reclaim_refusal a.p a.offline.now (mk_disk a.image.now a.pointers.now) (mk_memory x a.addresses.now a.compact.now a.inflight.now))
    (sym c.requires.0) c.choose.ensures.check_value in
    reclaim_refused _ _ _ _ a.count c.kept.result (sym e ∙ ap checked c.in-Err.is ∙ ap some (sym c.from.ensures ∙ ap (λ (x : Change). x.answer) (sym c.kept.ensures)))

-- what is chosen, of the state
module _ (c : In-Ok) where
  passed : reclaim_refusal c.args.p c.args.offline.now (mk_disk c.args.image.now c.args.pointers.now) (mk_memory c.args.state c.args.addresses.now c.args.compact.now c.args.inflight.now) ≡ none
  passed =
      let a = c.args in
      subst (λ (x : State). reclaim_refusal a.p a.offline.now (mk_disk a.image.now a.pointers.now) (mk_memory x a.addresses.now a.compact.now a.inflight.now) ≡ none)
      (sym c.requires.0) (sym c.in-Ok.ensures.check_value)

  chosen : (x : Picked) → c.in-Ok.picked ≡ x
      → let v = view_of c.args.p c.args.offline.now c.args.image.now c.args.pointers.now in Chose c.args.p v c.args.state (victim c.args.p v c.args.addresses.now) x
  chosen x e =
      let a = c.args in
      let v = view_of a.p a.offline.now a.image.now a.pointers.now in
      subst (λ (st : State). Chose a.p v st (victim a.p v a.addresses.now) x) (sym c.requires.0) (subst (Chose a.p v _ (victim a.p v a.addresses.now)) e c.in-Ok.ensures.chosen)

pub reset_segment-requires : goal.reset_segment-requires
reset_segment-requires c =
    let g = (goal.at.reset_segment-requires c).In-Ok in
    let l = lent _ _ _ _ (passed g) in
    record { p_value = l.in_range_holds; pointers_len = (l.whole.pointers_long, l.addresses_long, l.compact_long, (chosen g _ c.in-Clear.is).2) }

pub copy_block-requires : goal.copy_block-requires
copy_block-requires c =
    let a = c.args in
    let e = c.requires.0 in
    let p = goal.at.copy_block-requires c in
    let h = chosen p.In-Ok _ c.in-Copy.is in
    let k = mk_disk a.image.now a.pointers.now in
    let r = subst (λ (x : State). CopyReady a.p a.offline.now k (mk_memory x a.addresses.now a.compact.now a.inflight.now)) e (copy_ready _ _ _ _ (passed p.In-Ok) h.0) in
    record { copy_ready = r; f_value = (c.front_of-f.ensures ∙ ap front_of e, aimed p.After-aim_of-a ∙ ap (aim_of a.p) e, c.requires.1); q_bound = (h.2, h.3); q_value = (h.4, h.5) }

pub returns-in-Clear : goal.returns-in-Clear
returns-in-Clear c =
    let a = c.args in
    let g = (goal.at.returns-in-Clear c).In-Ok in
    let h = chosen g _ c.in-Clear.is in
    c.reset_segment.ensures a.state a.image.now a.inflight.now c.front_of-f.ensures ∙ reclaim_clear _ _ _ _ a.count c.in-Clear.segment (passed g) h.0 h.1

pub returns-in-Copy : goal.returns-in-Copy
returns-in-Copy c =
    let a = c.args in
    let g = (goal.at.returns-in-Copy c).In-Ok in
    let h = chosen g _ c.in-Copy.is in
    let l = c.copy_block.new in
    let q = c.in-Copy.q.0 in
    let k = mk_disk a.image.now a.pointers.now in
    let v = view_of a.p a.offline.now a.image.now a.pointers.now in
    subst (λ (st : State). after_change st c.copy_block.result l.image l.pointers l.addresses l.compact l.inflight []
    ≡ outcome a.p (store_disk a.p) a.count k (mk_memory st a.addresses.now a.compact.now a.inflight.now) [] (due (copy_plan a.p v (mk_memory st a.addresses.now a.compact.now a.inflight.now) q)))
    (sym c.requires.0) c.copy_block.ensures
    ∙ reclaim_copy _ _ _ _ a.count q (passed g) h.0 h.1
