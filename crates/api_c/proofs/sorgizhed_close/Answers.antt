-- `sorgizhed_close`: a state of another length is `hears_short`; else `close` on it decoded, for any count, and the change: `hears_change`. Assumes nothing.
use Rattle.spec.specs.Host.{told_of, lending, hears}
use Rattle.api_answers.specs.Applied.{hears_change}
use Rattle.api_answers.specs.Hears.{hears_short}
use Rattle.spec.specs.declared.Told.{Told}
use Rattle.mem_rows.specs.Rows.{after_change}
use Rattle.spec.specs.Engine.{call_disk, Lent, lent_disk, lent_memory}
use Rattle.spec.specs.Engine.Call.{close}
use Rattle.spec.specs.Memory.{mk_memory, state_of}
use Rattle.spec.specs.Params.{mk_params, in_range}
use Rattle.spec.specs.declared.Params.{Params}
use Rattle.spec.specs.declared.State.{State}
use Rattle.law_lent.specs.Shorts.{short_answer, close_short, close_keeps}
use mathlib.Core.Bool.{Bool}
use mathlib.Core.List.{[]}
use mathlib.Core.Path.{◌≡◌, sym, ap, ◌∙◌}
use Rattle.api_c.proofs.sorgizhed_close.Goals as goal

pub returns-then-state-state_len : goal.returns-then-state-state_len
returns-then-state-state_len c n =
    let a = c.args in
    let p : Params = mk_params a.n a.b a.z a.s a.g a.l in
    let l : Lent = lending a.offline.now a.image.now a.pointers.now a.addresses.now a.compact.now a.inflight.now a.state.now in
    let d = lent_disk l in
    let m = lent_memory l in
    ap (λ (x : Told). hears x l []) (c.short_of.ensures ∙ ap (λ (x : Bool). told_of (short_answer x)) c.in_range.ensures)
    ∙ hears_short p l (close n) [] (λ e. c.if-state-state_len.true (e ∙ sym c.state_len.ensures)) (in_range p) (close_short p a.offline.now d m n)

pub decode-before-requires : goal.decode-before-requires
decode-before-requires c = c.if-state-state_len.false ∙ c.state_len.ensures

pub close-change-requires : goal.close-change-requires
close-change-requires c =
    (c.decode-before.ensures, c.if-state-state_len.false ∙ c.state_len.ensures)

pub apply-requires : goal.apply-requires
apply-requires c =
    let if1 = c.if-state-state_len in
    let state_len_lem = c.state_len in
    if1.false ∙ state_len_lem.ensures

pub returns : goal.returns
unfolding lent_disk lent_memory
returns c n =
    let a = c.args in
    let apply = c.apply in
    let close' = c.close-change in
    let decode = c.decode-before in
    let if1 = c.if-state-state_len in
    let state_len_lem = c.state_len in
    let p : Params = mk_params a.n a.b a.z a.s a.g a.l in
    let l : Lent = lending a.offline.now a.image.now a.pointers.now a.addresses.now a.compact.now a.inflight.now a.state.now in
    let e : after_change (state_of a.state.now) close'.result a.image.now a.pointers.now a.addresses.now a.compact.now
    close'.new.inflight []
    ≡ call_disk p a.offline.now (lent_disk l) (lent_memory l) (close n) =
    ap (λ (x : State). after_change x close'.result a.image.now a.pointers.now a.addresses.now a.compact.now close'.new.inflight
    []) (sym decode.ensures)
    ∙ close'.ensures n
    ∙ ap (λ (x : State). call_disk p a.offline.now (lent_disk l) (mk_memory x a.addresses.now a.compact.now a.inflight.now) (close n)) decode.ensures
    in
    hears_change p l (close n) [] (if1.false ∙ state_len_lem.ensures) (close_keeps p a.offline.now (lent_disk l) (lent_memory l) n)
    close'.result a.image.now a.pointers.now a.addresses.now a.compact.now close'.new.inflight apply.new.state [] apply.result e apply.ensures.0 apply.ensures.1
