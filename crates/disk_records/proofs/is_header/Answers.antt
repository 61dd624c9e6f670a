-- `is_header`: the room is that of 256 bytes and a spare, or that of the longest block with its spare. Assumes nothing.
use Rattle.std.proofs.Common.{arith, ◌+◌, ◌≤◌}
use Rattle.spec.specs.Params.{spare_len, unit_len}
use Rattle.spec.specs.declared.Params.{Params}
use Rattle.law_basic.specs.Geometry.{ranged, spare_len_lem, unit_high}
use Rattle.disk_records.proofs.is_header.Goals as goal

small : (p : Params) → p.B ≤ 256 → unit_len p ≤ 256 + spare_len
unfolding unit_len
small p h = omega arith

pub is_header_within-requires : goal.is_header_within-requires
is_header_within-requires c =
    let h = c.requires in
    (h.0, h.1, omega (arith, small c.args.p (omega arith), spare_len_lem), omega arith, h.2)

pub is_header_within-requires-2 : goal.is_header_within-requires-2
is_header_within-requires-2 c =
    let h = c.requires in
    (h.0, h.1, omega (arith, unit_high c.args.p (ranged c.args.p h.0), spare_len_lem), omega arith, h.2)
