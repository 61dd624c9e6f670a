-- `is_quick`: it promises nothing, only sums must fit: t is at most 245561556524880 * g, and twice the passes times L at most 320370993180. Assumes nothing.
use Prim.Native.Nat.{◌+◌, ◌*◌, ◌/◌, ◌≤◌}
use Rattle.law_basic.specs.Geometry.{ranged, prod_le, addresses_all}
use native.Mathlib.Omega.{arith}
use Rattle.call_reclaim_records.proofs.is_quick.Goals as goal
use Rattle.call_reclaim_records.proofs.is_quick.Goals.{Start}

-- the records of a segment
few : (c : Start) → c.args.p.N * c.args.p.S ≤ 524280
few c = let r = ranged c.args.p c.requires.p_value in prod_le c.args.p.N c.args.p.S 8 65535 524280 r.drives_high r.stripes_high (omega arith)

pub overflow_mul-records : goal.overflow_mul-records
overflow_mul-records c = record { fits = omega (arith, few (goal.at.overflow_mul-records c).Start) }

pub places-requires : goal.places-requires
places-requires c = c.requires.p_value

pub overflow_add-passes : goal.overflow_add-passes
overflow_add-passes c = omega (arith, c.places.ensures.1)

pub loop-g-init : goal.loop-g-init
loop-g-init c = (omega arith, omega arith)

pub offset_bounds-used-g : goal.offset_bounds-used-g
offset_bounds-used-g c = omega arith

pub bounds-used-g : goal.bounds-used-g
bounds-used-g c = omega arith

pub asked-t-requires : goal.asked-t-requires
asked-t-requires c =
    (few (goal.at.asked-t-requires c).Start, c.requires.z_in_bounds.1)

pub overflow_add-t : goal.overflow_add-t
overflow_add-t c =
    omega (arith, c.asked-t.ensures, c.loop-g.invariant.1, c.loop-g-test.true, (ranged c.args.p c.requires.p_value).zones_high)

pub loop-g-preserved : goal.loop-g-preserved
loop-g-preserved c =
    (omega (arith, c.loop-g-test.true), omega (arith, c.asked-t.ensures, c.loop-g.invariant.1))

pub overflow_mul-result : goal.overflow_mul-result
overflow_mul-result c =
    let loop = c.loop-g in
    omega (arith, loop.invariant.0, loop.invariant.1, (ranged c.args.p c.requires.p_value).zones_high)

pub overflow_mul-result-2 : goal.overflow_mul-result-2
overflow_mul-result-2 c =
    omega (arith, c.places.ensures.1)

pub overflow_mul-result-3 : goal.overflow_mul-result-3
overflow_mul-result-3 c =
    let p = c.args.p in
    let k : 2 * (c.places.result / 2097152 + 1) ≤ 684 = omega (arith, c.places.ensures.1) in
    record { fits = omega (arith, prod_le (2 * (c.places.result / 2097152 + 1)) p.L 684 468378645 320370993180 k (addresses_all p (ranged p c.requires.p_value)) (omega arith)) }
