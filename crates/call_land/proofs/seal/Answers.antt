-- `seal`: without sealing there is no store (`seals_none`); with it there are those of `seal_stores`, whose room is required (`seals_some`). Assumes nothing.
use Rattle.spec.specs.Drives.{mk_disk}
use Rattle.call_land.specs.Plan.{seals_none, seals_some}
use Rattle.call_land.proofs.seal.Goals as goal

pub returns-then-not-seals : goal.returns-then-not-seals
returns-then-not-seals c = λ off. seals_none c.args.p off c.args.count c.args.segment c.args.seals (mk_disk c.args.image.now c.args.pointers.now) c.if-not-seals.true

pub seal_stores-requires : goal.seal_stores-requires
seal_stores-requires c = let q = c.requires in record { p_value = q.p_value; whole = q.whole; zones_low = (q.zones_low.0, q.zones_low.1 c.if-not-seals.false) }

pub returns : goal.returns
returns c =
    let a = c.args in
    let r = c.seal_stores in
    λ off. seals_some a.p off a.count a.segment a.seals (mk_disk a.image.now a.pointers.now) r.result (mk_disk r.new.image r.new.pointers) c.if-not-seals.false (r.ensures off)
