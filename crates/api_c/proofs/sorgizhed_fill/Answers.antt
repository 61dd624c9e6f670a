-- `sorgizhed_fill`: a state of another length is `hears_short`; else `fill` reads its bytes, which decoding and encoding keeps: `hears_read`. Assumes nothing.
use Rattle.spec.specs.Host.{told_of, lending, hears}
use Rattle.api_answers.specs.Hears.{hears_short, hears_read}
use Rattle.spec.specs.declared.Told.{Told}
use Rattle.law_basic.specs.Sections.{state_bytes_state_of}
use Rattle.spec.specs.Engine.{Lent, lent_disk, lent_memory}
use Rattle.spec.specs.Engine.Call.{fill}
use Rattle.spec.specs.Params.{mk_params, in_range}
use Rattle.spec.specs.declared.Params.{Params}
use Rattle.law_lent.specs.Shorts.{short_answer, fill_short, fill_keeps}
use mathlib.Core.Bool.{Bool}
use mathlib.Core.Path.{sym, ap, ◌∙◌}
use native.Mathlib.Omega.{arith}
use Rattle.api_c.proofs.sorgizhed_fill.Goals as goal

pub returns-then-state-state_len : goal.returns-then-state-state_len
returns-then-state-state_len c =
    let a = c.args in
    let p : Params = mk_params a.n a.b a.z a.s a.g a.l in
    let l : Lent = lending a.offline.now a.image.now a.pointers.now a.addresses.now a.compact.now a.inflight.now a.state.now in
    let d = lent_disk l in
    let m = lent_memory l in
    ap (λ (x : Told). hears x l a.block.now) (c.short_of.ensures ∙ ap (λ (x : Bool). told_of (short_answer x)) c.in_range.ensures)
    ∙ hears_short p l (fill a.address a.block.now) a.block.now
    (λ e. c.if-state-state_len.true (e ∙ sym c.state_len.ensures)) (in_range p)
    (fill_short p a.offline.now d m a.address a.block.now)

pub fill-answer-requires : goal.fill-answer-requires
fill-answer-requires c = c.if-state-state_len.false ∙ c.state_len.ensures

pub returns : goal.returns
unfolding lent_disk lent_memory
returns c =
    let a = c.args in
    let p : Params = mk_params a.n a.b a.z a.s a.g a.l in
    let l : Lent = lending a.offline.now a.image.now a.pointers.now a.addresses.now a.compact.now a.inflight.now a.state.now in
    let long = c.if-state-state_len.false ∙ c.state_len.ensures in
    hears_read p l (fill a.address a.block.now) a.block.now long (fill_keeps p a.offline.now (lent_disk l) (lent_memory l) a.address a.block.now)
    (state_bytes_state_of a.state.now long (λ k h. omega (arith, c.shared_slice_known-7-1.given k)))
    c.fill-answer.result c.fill-answer.new.block c.told_of.result c.fill-answer.ensures c.told_of.ensures
