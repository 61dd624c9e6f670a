-- `land`: refused, or looked at and planned; what the bytes say is the state. Assumes nothing.
use Rattle.mem_calls.specs.Left.{checked}
use Rattle.mem_codec.specs.Changes.{read_sized}
use Rattle.spec.specs.Drives.{mk_disk}
use Rattle.spec.specs.Lists.Opt.{none, some}
use Rattle.spec.specs.declared.State.{State}
use Rattle.call_land.specs.Plan.{Looks, TargetAt}
use Rattle.spec.specs.Memory.{mk_memory}
use Rattle.call_land.specs.Ends.{Chosen, land_refused}
use Rattle.call_land.specs.Ready.{land_refusal}
use Rattle.mem_rows.specs.declared.Change.{Change}
use Rattle.mem_rows.specs.Rows.{RowsSized}
use Rattle.law_views.specs.Views.{seen}
use mathlib.Core.Path.{◌≡◌, sym, ap, ◌∙◌, subst}
use Rattle.call_land.proofs.land.Goals as goal
use Rattle.call_land.proofs.land.Goals.{In-Ok}

pub checks-requires : goal.checks-requires
checks-requires c =
    let a = c.args in
    let e = c.requires.0 in record {
      looks = subst (λ (x : State). Looks a.p x a.drive a.stripe c.look_at-seen.result) e c.look_at-seen.ensures;
      missing_value =
          (ap (λ (x : State). x.missing) e, c.requires.1, ap (λ (x : State). x.opened) e);
    }

pub returns-in-Err : goal.returns-in-Err
returns-in-Err c =
    let a = c.args in
    let e = subst (λ (x : State). checked c.checks.result
    ≡ land_refusal a.p a.offline.now (mk_disk a.image.now a.pointers.now) (mk_memory x a.addresses.now a.compact.now a.inflight.now) a.drive a.stripe)
    (sym c.requires.0) c.checks.ensures.check_value in
    land_refused _ _ _ _ _ _ a.count c.kept.result (sym e ∙ ap checked c.in-Err.is ∙ ap some (sym c.from.ensures ∙ ap (λ (x : Change). x.answer) (sym c.kept.ensures)))

-- the state, looked at and not refused
chosen : (c : In-Ok) → let a = c.args in
    Chosen a.p a.offline.now (mk_disk a.image.now a.pointers.now) a.addresses.now a.compact.now a.inflight.now a.drive a.stripe
    c.look_at-seen.result c.in-Ok.target c.front_of-front.result a.state
chosen c =
    let a = c.args in
    let k = mk_disk a.image.now a.pointers.now in
    let s = sym c.requires.0 in record {
      sized = subst RowsSized s (read_sized a.bytes.now);
      front = c.front_of-front.ensures;
      looks = c.look_at-seen.ensures;
      target = subst (λ (x : State). TargetAt a.p (seen a.p a.offline.now k) x a.drive c.look_at-seen.result.done c.in-Ok.target) s c.in-Ok.ensures.target_at;
      none! = subst (λ (x : State). land_refusal a.p a.offline.now k (mk_memory x a.addresses.now a.compact.now a.inflight.now) a.drive a.stripe ≡ none) s (sym c.in-Ok.ensures.check_value);
    }

pub plan-requires : goal.plan-requires
plan-requires c = (c.args.state, chosen (goal.at.plan-requires c).In-Ok)

pub returns : goal.returns
returns c = c.plan.ensures c.args.state (chosen (goal.at.returns c).In-Ok)
