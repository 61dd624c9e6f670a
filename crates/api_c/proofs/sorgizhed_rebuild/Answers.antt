-- `sorgizhed_rebuild`: a state of another length is refused with 1 or 2, by `good_rebuild`
-- (`hears_short`); else `rebuild` on it decoded, and the new one encoded: `hears_call`. Assumes nothing.
use Rattle.spec.specs.Host.{told_of, lending, hears}
use Rattle.api_answers.specs.Hears.{hears_short, hears_call}
use Rattle.spec.specs.declared.Told.{Told}
use Rattle.spec.specs.Host.{after}
use Rattle.spec.specs.Engine.{call_disk, Lent, lent_disk, lent_memory}
use Rattle.spec.specs.Engine.Call.{rebuild}
use Rattle.spec.specs.Memory.{mk_memory}
use Rattle.spec.specs.Params.{mk_params, in_range}
use Rattle.spec.specs.declared.Params.{Params}
use Rattle.spec.specs.declared.State.{State}
use Rattle.spec.specs.Rebuild.{names_missing}
use Rattle.law_lent.specs.Shorts.{short_answer, rebuild_short, rebuild_keeps}
use mathlib.Core.Bool.{Bool, ◌&&◌}
use mathlib.Core.List.{[]}
use mathlib.Core.Path.{◌≡◌, sym, ap, ◌∙◌}
use Rattle.api_c.proofs.sorgizhed_rebuild.Goals as goal

pub returns-then-state-state_len : goal.returns-then-state-state_len
unfolding lent_memory
returns-then-state-state_len c =
    let a = c.args in
    let state_len_lem = c.state_len in
    let p : Params = mk_params a.n a.b a.z a.s a.g a.l in
    let l : Lent = lending a.offline.now a.image.now a.pointers.now a.addresses.now a.compact.now a.inflight.now a.state.now in
    let d = lent_disk l in
    let m = lent_memory l in
    ap (λ (x : Told). hears x l []) (c.short_of.ensures ∙ ap (λ (x : Bool). told_of (short_answer x)) c.good_rebuild.ensures)
    ∙ hears_short p l (rebuild a.drive a.count) [] (λ e. c.if-state-state_len.true (e ∙ sym state_len_lem.ensures))
    (in_range p && names_missing p m.state a.drive) (rebuild_short p a.offline.now d m a.drive a.count)

pub decode-before-requires : goal.decode-before-requires
decode-before-requires c = c.if-state-state_len.false ∙ c.state_len.ensures

pub finish-requires : goal.finish-requires
finish-requires c =
    let if1 = c.if-state-state_len in
    let state_len_lem = c.state_len in
    if1.false ∙ state_len_lem.ensures

pub returns : goal.returns
unfolding lent_disk lent_memory
returns c =
    let finish = c.finish in
    let rebuild' = c.rebuild-done in
    let decode = c.decode-before in
    let if1 = c.if-state-state_len in
    let state_len_lem = c.state_len in
    let a =
    c.args in
    let p : Params = mk_params a.n a.b a.z a.s a.g a.l in
    let l : Lent = lending a.offline.now a.image.now a.pointers.now a.addresses.now a.compact.now a.inflight.now a.state.now in
    let e : after rebuild'.result rebuild'.new.image rebuild'.new.pointers rebuild'.new.addresses rebuild'.new.compact a.inflight.now []
    ≡ call_disk p a.offline.now (lent_disk l) (lent_memory l) (rebuild a.drive a.count) =
    rebuild'.ensures
    ∙ ap (λ (x : State). call_disk p a.offline.now (lent_disk l) (mk_memory x a.addresses.now a.compact.now a.inflight.now) (rebuild a.drive a.count)) decode.ensures in
    hears_call p l (rebuild a.drive a.count) [] (if1.false ∙ state_len_lem.ensures) (rebuild_keeps p a.offline.now (lent_disk l) (lent_memory l) a.drive a.count)
    rebuild'.result rebuild'.new.image rebuild'.new.pointers rebuild'.new.addresses rebuild'.new.compact a.inflight.now finish.new.state [] finish.result e finish.ensures.0 finish.ensures.1
