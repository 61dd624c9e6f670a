-- `sorgizhed_restart`: a state of another length is refused with 1 or 2 (`hears_short`). Else the restart starts from no state at all:
-- the law `hears_restart` says that it leaves the same. Assumes nothing.
use Rattle.spec.specs.Host.{told_of, lending, hears}
use Rattle.api_answers.specs.Hears.{hears_short}
use Rattle.api_answers.specs.Stateless.{hears_restart}
use Rattle.spec.specs.declared.Told.{Told}
use Rattle.spec.specs.Engine.{Lent, lent_disk, lent_memory}
use Rattle.spec.specs.Engine.Call.{restart}
use Rattle.spec.specs.Params.{mk_params, in_range}
use Rattle.spec.specs.declared.Params.{Params}
use Rattle.spec.specs.Restart.{names_drive}
use Rattle.law_lent.specs.Shorts.{short_answer, restart_short}
use mathlib.Core.Bool.{Bool, ◌&&◌}
use mathlib.Core.List.{[]}
use mathlib.Core.Path.{sym, ap, ◌∙◌}
use Rattle.api_c.proofs.sorgizhed_restart.Goals as goal

pub returns-then-state-state_len : goal.returns-then-state-state_len
returns-then-state-state_len c =
    let a = c.args in
    let p : Params = mk_params a.n a.b a.z a.s a.g a.l in
    let l : Lent = lending a.offline.now a.image.now a.pointers.now a.addresses.now a.compact.now a.inflight.now a.state.now in
    ap (λ (x : Told). hears x l []) (c.short_of.ensures ∙ ap (λ (x : Bool). told_of (short_answer x)) c.good_restart.ensures)
    ∙ hears_short p l (restart a.missing a.count) [] (λ e. c.if-state-state_len.true (e ∙ sym c.state_len.ensures)) (in_range p && names_drive p a.missing)
    (restart_short p a.offline.now (lent_disk l) (lent_memory l) a.missing a.count)

pub finish-requires : goal.finish-requires
finish-requires c =
    c.if-state-state_len.false ∙ c.state_len.ensures

pub returns : goal.returns
unfolding lent_disk
returns c =
    let a = c.args in
    let r = c.restart-done in
    let p : Params = mk_params a.n a.b a.z a.s a.g a.l in
    let l : Lent = lending a.offline.now a.image.now a.pointers.now a.addresses.now a.compact.now a.inflight.now a.state.now in
    let f = c.finish in
    hears_restart p l a.missing a.count (c.if-state-state_len.false ∙ c.state_len.ensures) c.zero_state-before.result
    r.result r.new.image r.new.pointers r.new.addresses r.new.compact
    f.new.state f.result r.ensures f.ensures.0 f.ensures.1
