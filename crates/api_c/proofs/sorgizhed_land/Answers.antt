-- `sorgizhed_land`: a state of another length is `hears_short`; else `land` on it decoded, then the change made there: `hears_change`. Assumes nothing.
use Rattle.spec.specs.Host.{told_of, lending, hears}
use Rattle.api_answers.specs.Applied.{hears_change}
use Rattle.api_answers.specs.Hears.{hears_short}
use Rattle.spec.specs.declared.Told.{Told}
use Rattle.mem_rows.specs.Rows.{after_change}
use Rattle.spec.specs.Engine.{call_disk, Lent, lent_disk, lent_memory}
use Rattle.spec.specs.Engine.Call.{land}
use Rattle.spec.specs.Memory.{mk_memory, state_of}
use Rattle.spec.specs.Params.{mk_params, in_range}
use Rattle.spec.specs.declared.Params.{Params}
use Rattle.spec.specs.declared.State.{State}
use Rattle.law_lent.specs.Shorts.{short_answer, land_short, land_keeps}
use mathlib.Core.Bool.{Bool}
use mathlib.Core.List.{[]}
use mathlib.Core.Path.{◌≡◌, sym, ap, ◌∙◌, subst}
use Rattle.api_c.proofs.sorgizhed_land.Goals as goal

pub returns-then-state-state_len : goal.returns-then-state-state_len
returns-then-state-state_len c =
    let a = c.args in
    let p : Params = mk_params a.n a.b a.z a.s a.g a.l in
    let l : Lent = lending a.offline.now a.image.now a.pointers.now a.addresses.now a.compact.now a.inflight.now a.state.now in
    let d = lent_disk l in
    let m = lent_memory l in
    ap (λ (x : Told). hears x l []) (c.short_of.ensures ∙ ap (λ (x : Bool). told_of (short_answer x)) c.in_range.ensures)
    ∙ hears_short p l (land a.drive a.stripe a.count) []
    (λ e. c.if-state-state_len.true (e ∙ sym c.state_len.ensures)) (in_range p)
    (land_short p a.offline.now d m a.drive a.stripe a.count)

pub decode-before-requires : goal.decode-before-requires
decode-before-requires c = c.if-state-state_len.false ∙ c.state_len.ensures

pub land-change-requires : goal.land-change-requires
land-change-requires c =
    (c.decode-before.ensures, c.if-state-state_len.false ∙ c.state_len.ensures)

pub apply-requires : goal.apply-requires
apply-requires c =
    let if1 = c.if-state-state_len in
    let state_len_lem = c.state_len in
    if1.false ∙ state_len_lem.ensures

pub returns : goal.returns
unfolding lent_disk lent_memory
returns c =
    let apply = c.apply in
    let land' = c.land-change in
    let decode = c.decode-before in
    let if1 = c.if-state-state_len in
    let state_len_lem =
    c.state_len in
    let a =
    c.args in
    let p : Params = mk_params a.n a.b a.z a.s a.g a.l in
    let l : Lent = lending a.offline.now a.image.now a.pointers.now a.addresses.now a.compact.now a.inflight.now a.state.now in
    let call = land a.drive a.stripe a.count in
    let r = land'.result in
    let e : after_change (state_of a.state.now) r land'.new.image land'.new.pointers land'.new.addresses land'.new.compact a.inflight.now []
    ≡ call_disk p a.offline.now (lent_disk l) (lent_memory l) call =
    subst (λ (x : State). after_change x r land'.new.image land'.new.pointers land'.new.addresses land'.new.compact a.inflight.now []
    ≡ call_disk p a.offline.now (lent_disk l) (mk_memory x a.addresses.now a.compact.now a.inflight.now) call)
    decode.ensures land'.ensures in
    hears_change p l call [] (if1.false ∙ state_len_lem.ensures) (land_keeps p a.offline.now (lent_disk l) (lent_memory l) a.drive a.stripe a.count)
    r land'.new.image land'.new.pointers land'.new.addresses land'.new.compact
    a.inflight.now apply.new.state [] apply.result e apply.ensures.0 apply.ensures.1
