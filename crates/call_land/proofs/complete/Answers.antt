-- `complete`: the table is `point`'s, the stores `seal`'s; a cut is `completing_cut`, none `completing_done` with the writes counted. Assumes nothing.
use Prim.Native.Nat.{ℕ}
use Rattle.spec.specs.Drives.{Disk, mk_disk}
use Rattle.spec.specs.declared.Answer.TheVariants.{Landed}
use Rattle.call_land.specs.Plan.{completing_cut, completing_done}
use lib.ListN.{replicate}
use mathlib.Core.Path.{refl, sym, ap, ◌∙◌}
use Rattle.call_land.proofs.complete.Goals as goal

pub point-requires : goal.point-requires
point-requires c =
    let q = c.requires in record { addresses_len = q.addresses_len; zones_low = (q.zones_low.0, q.row_bound.0, q.row_bound.1) }

pub seal-made-requires : goal.seal-made-requires
seal-made-requires c =
    let q = c.requires in record { p_value = q.p_value; whole = q.whole.0; zones_low = q.zones_low }

pub returns-then-is_err : goal.returns-then-is_err
returns-then-is_err c =
    let cut = c.cut in
    let seal = c.seal-made in
    let point = c.point in
    let a =
    c.args in
    let k : Disk = mk_disk a.image.now a.pointers.now in
    let k' : Disk = mk_disk seal.new.image seal.new.pointers in
    let u = cut.ensures in
    completing_cut a.p a.offline.now a.count a.row a.segment a.seals k a.addresses.now a.compact.now seal.result k' (seal.ensures a.offline.now)
    cut.result cut.new.addresses cut.new.compact
    (sym c.is_err.ensures.value ∙ c.if-is_err.true) u.0 (u.1 ∙ ap (λ (x : ℕ). replicate x 0) point.auto.addresses) u.2

pub returns : goal.returns
returns c =
    let a = c.args in
    let seal = c.seal-made in
    let point = c.point in
    let k : Disk = mk_disk a.image.now a.pointers.now in
    let k' : Disk = mk_disk seal.new.image seal.new.pointers in
    completing_done a.p a.offline.now a.count a.row a.segment a.seals k a.addresses.now a.compact.now seal.result k' (seal.ensures a.offline.now)
    (Landed c.writes_in-n.result) point.new.addresses a.compact.now
    (sym c.is_err.ensures.value ∙ c.if-is_err.false) (ap Landed c.writes_in-n.ensures) point.ensures refl
