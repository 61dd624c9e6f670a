-- `header_copied`: behind the zones, and 8 bytes wide (`copied_read`). Assumes nothing.
use mathlib.Core.Path.{sym, ◌∙◌}
use native.Mathlib.Omega.{arith}
use Rattle.law_basic.specs.Fields.{header_length, copied_read}
use Rattle.disk_records.proofs.header_copied.Goals as goal

pub overflow_mul-p : goal.overflow_mul-p
overflow_mul-p c = omega (arith, header_length c.args.p)

pub overflow_add-p : goal.overflow_add-p
overflow_add-p c = omega (arith, header_length c.args.p)

pub read_be64-requires : goal.read_be64-requires
read_be64-requires c = omega (arith, header_length c.args.p)

pub returns : goal.returns
returns c = c.read_be64.ensures ∙ sym (copied_read c.args.p c.args.src.now)
