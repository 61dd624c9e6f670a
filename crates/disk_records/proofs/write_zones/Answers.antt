-- `write_zones`: what remains to be written makes at each turn what all zones make of the buffer at the start (`ZonesLeft`). Assumes nothing.
use mathlib.Core.Path.{sym, ap, ◌∙◌}
use Prim.Native.Nat.{ℕ, ◌+◌, ◌*◌, ◌<◌}
use native.Mathlib.Omega.{arith}
use Rattle.spec.specs.Bytes.{to_be, splice}
use Rattle.law_basic.specs.Fields.{header_length}
use Rattle.law_basic.specs.Geometry.{ranged}
use Rattle.law_basic.specs.Segs.{zone_is}
use Rattle.disk_records.specs.Header.{zones_none, zones_more, header_zones_all}
use Rattle.disk_records.proofs.write_zones.Goals as goal

pub loop-d-init : goal.loop-d-init
loop-d-init c =
    zones_none c.args.p c.args.segment c.args.dst.now

pub overflow_mul-d : goal.overflow_mul-d
overflow_mul-d c =
    omega (arith, (ranged c.args.p c.requires.0).drives_high)

pub overflow_add-d : goal.overflow_add-d
overflow_add-d c =
    omega (arith, (ranged c.args.p c.requires.0).drives_high)

pub offset_bounds-zones-d : goal.offset_bounds-zones-d
offset_bounds-zones-d c =
    omega (arith, (ranged c.args.p c.requires.0).drives_high)

pub bounds-zones-d : goal.bounds-zones-d
bounds-zones-d c =
    omega (arith, (ranged c.args.p c.requires.0).drives_high)

pub write_be32-requires : goal.write_be32-requires
write_be32-requires c =
    let l = c.loop-d in
    omega (arith, header_length c.args.p, c.requires.1, l.auto.dst)

pub loop-d-preserved : goal.loop-d-preserved
loop-d-preserved c =
    let l = c.loop-d in
    let w = c.write_be32 in
    let g = c.args.segment in
    let t : l.d < c.args.p.N = omega arith in
    zones_more c.args.p g c.args.dst.now l.dst w.new.dst l.d t l.invariant
    (w.ensures ∙ ap (λ (z : ℕ). splice l.dst (13 + 4 * l.d) (to_be 4 z)) (sym (zone_is g l.d)))

pub returns : goal.returns
returns c =
    let l = c.loop-d in
    header_zones_all c.args.p c.args.segment c.args.dst.now l.dst l.d (omega arith) c.requires.1 l.invariant
