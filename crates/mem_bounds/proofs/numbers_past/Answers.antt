-- `numbers_past`: bad is how many of the first i numbers are out of range, at most i; one turn adds number i. Assumes nothing.
use Rattle.std.proofs.Common.{ap, ◌∙◌, ◌≡◌, ℕ, ◌+◌, ◌*◌, length, arith}
use Rattle.spec.specs.Bytes.{le_of, part}
use Rattle.mem_codec.specs.Codec.{number_fits}
use Rattle.mem_bounds.specs.Bounds.{past_none, past_one, past_all}
use Rattle.mem_bounds.proofs.numbers_past.Goals as goal

pub loop-i-init : goal.loop-i-init
loop-i-init g c = (past_none g.T.Number.WIDTH c.args.at c.args.limit c.args.bytes.now, omega arith)

pub overflow_mul-WIDTH : goal.overflow_mul-WIDTH
overflow_mul-WIDTH g c = omega (arith, number_fits g.T.Number.WIDTH c.WIDTH.result c.args.n c.loop-i.i c.args.at (length c.args.bytes.now) c.WIDTH.ensures (omega arith) c.requires.room.0)

pub overflow_add-at : goal.overflow_add-at
overflow_add-at g c = omega (arith, number_fits g.T.Number.WIDTH c.WIDTH.result c.args.n c.loop-i.i c.args.at (length c.args.bytes.now) c.WIDTH.ensures (omega arith) c.requires.room.0)

pub read-x-requires : goal.read-x-requires
read-x-requires g c = omega (arith, number_fits g.T.Number.WIDTH c.WIDTH.result c.args.n c.loop-i.i c.args.at (length c.args.bytes.now) c.WIDTH.ensures (omega arith) c.requires.room.0)

pub loop-i-preserved : goal.loop-i-preserved
loop-i-preserved g c =
    let a = c.args in
    let l = c.loop-i in
    let w = g.T.Number.WIDTH in
    let bs = a.bytes.now in
    let e : c.into.result ≡ le_of (part (a.at + w * l.i) w bs) =
    c.requires.into_value c.read-x.result c.into.result c.into.ensures ∙ c.read-x.ensures ∙ ap (λ (k : ℕ). le_of (part (a.at + k * l.i) w bs)) c.WIDTH.ensures in (
      ap (λ (k : ℕ). l.bad + k) c.past-bad.ensures.0 ∙ past_one w a.at a.limit l.i bs l.bad c.into.result l.invariant.0 e,
      omega (arith, c.past-bad.ensures.1),
    )

pub returns : goal.returns
returns g c =
    let a = c.args in
    let l = c.loop-i in
    (past_all g.T.Number.WIDTH a.at a.limit l.i a.n a.bytes.now l.bad l.invariant.0 (omega arith), omega arith)
