-- `header_zone`: four bytes at the drive's place behind the first fields (`zone_read`). Assumes nothing.
use mathlib.Core.Path.{sym, ◌∙◌}
use native.Mathlib.Omega.{arith}
use Rattle.law_basic.specs.Fields.{header_length, zone_read}
use Rattle.disk_records.proofs.header_zone.Goals as goal

pub overflow_mul-drive : goal.overflow_mul-drive
overflow_mul-drive c = omega (arith, header_length c.args.p)

pub overflow_add-drive : goal.overflow_add-drive
overflow_add-drive c = omega (arith, header_length c.args.p)

pub read_be32-requires : goal.read_be32-requires
read_be32-requires c = omega (arith, header_length c.args.p)

pub returns : goal.returns
returns c =
    c.read_be32.ensures ∙ sym (zone_read c.args.p c.args.src.now c.args.drive c.requires.1)
