-- `compete`: a record of another address is dropped (`other_address`); one of this address is the first to compete (`best_same_address`). Assumes nothing.
use Rattle.spec.specs.Landing.{landed_cand}
use Rattle.spec.specs.Layout.{Rec}
use Rattle.spec.specs.Rank.{better}
use Rattle.law_basic.specs.Geometry.{ranged, data_count_high}
use Rattle.call_land_table.specs.Winners.{other_address, best_same_address}
use Rattle.disk_rank.specs.Ranked.{ranked_best}
use Rattle.call_land_chunk.specs.Alone.{alone}
use mathlib.Core.Path.{sym, ap, ◌∙◌}
use native.Mathlib.Omega.{arith}
use Rattle.call_land_table.proofs.compete.Goals as goal

pub entry-e-requires : goal.entry-e-requires
entry-e-requires c = let q = c.requires in omega (arith, q.zones_low.1, data_count_high c.args.p (ranged c.args.p q.p_value))

pub returns-then-e-address : goal.returns-then-e-address
unfolding landed_cand
returns-then-e-address c v cs h =
    let a = c.args in
    let e = ap (λ (r : Rec). r.address) c.entry-e.ensures in
    other_address a.address.0 (ranked_best a.b) (landed_cand a.p v a.segment (alone a.row) 0 a.k) cs (λ f. c.if-e-address.true (e ∙ f))

pub returns : goal.returns
unfolding landed_cand
returns c v cs h =
    let a = c.args in
    let entry = c.entry-e in
    let e = ap (λ (r : Rec). r.address) entry.ensures in
    best_same_address a.address.0 (ranked_best a.b) (ranked_best c.better.result) (landed_cand a.p v a.segment (alone a.row) 0 a.k) cs
    (sym e ∙ c.if-e-address.false) (c.better.ensures ∙ ap (better (ranked_best a.b)) (c.landed_cand-c.ensures v h))
