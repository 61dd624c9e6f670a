-- `winner`: the best of b and positions k on is the best of the table's and all; a turn lets position k compete (`winner_turn`). Assumes nothing.
use Rattle.disk_drives.specs.Viewed.{viewed}
use Rattle.spec.specs.Drives.{View}
use Rattle.spec.specs.Landing.{landed_cands}
use Rattle.spec.specs.Lists.{Opt}
use Rattle.spec.specs.Rank.{Cand, best, place_or, cands_of}
use Rattle.call_land_table.specs.Winners.{rest_first, winner_turn, rest_last}
use Rattle.disk_rank.specs.Ranked.{ranked_best}
use Rattle.call_land_chunk.specs.Alone.{alone}
use mathlib.Core.Path.{sym, ap, ◌∙◌}
use native.Mathlib.Omega.{arith}
use Rattle.call_land_table.proofs.winner.Goals as goal

pub held-b-requires : goal.held-b-requires
held-b-requires c =
    let q = c.requires in record { addresses_len = q.addresses_len }

pub loop-k-init : goal.loop-k-init
loop-k-init c =
    let a = c.args in
    let v : View = viewed a.drives.now in
    let e = c.filled_in-n.ensures in (
      e,
      omega arith,
      rest_first a.drives.now.p v a.segment (alone a.row) 0 a.address.0 (ranked_best c.held-b.result) c.filled_in-n.result e
          ∙ ap (λ (x : Opt Cand). best x (cands_of a.address.0 (landed_cands a.drives.now.p v a.segment (alone a.row) 0))) c.held-b.ensures,
    )

pub compete-b-requires : goal.compete-b-requires
compete-b-requires c =
    let q = c.requires in record { p_value = c.args.drives.now.sound; zones_low = (q.zones_low.0, omega (arith, c.loop-k-test.true, c.filled_in-n.ensures, q.zones_low.1), q.zones_low.2) }

pub loop-k-preserved : goal.loop-k-preserved
loop-k-preserved c =
    let a = c.args in
    let l = c.loop-k in
    let filled_in = c.filled_in-n in
    let pre = c.requires in
    let v : View = viewed a.drives.now in
    let n = filled_in.result in (
      l.invariant.0,
      omega arith,
      winner_turn a.drives.now.p v a.segment (alone a.row) 0 a.address.0 (ranked_best l.b) (ranked_best c.compete-b.result) l.k n (omega (arith, c.loop-k-test.true))
          (λ cs. c.compete-b.ensures v cs pre.serial_value) ∙ l.invariant.2,
    )

pub returns : goal.returns
returns c =
    let a = c.args in
    let l = c.loop-k in
    let filled_in = c.filled_in-n in
    let v : View = viewed a.drives.now in
    let n = filled_in.result in
    c.place_or.ensures
    ∙ ap place_or (sym (rest_last a.drives.now.p v a.segment (alone a.row) 0 a.address.0 (ranked_best l.b) l.k n (omega (arith, c.loop-k-test.false))) ∙ l.invariant.2)
