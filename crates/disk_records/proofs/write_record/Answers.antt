-- `write_record`: the table's fields, one behind the other, fill the spare. Assumes nothing.
use native.Mathlib.Omega.{arith}
use Rattle.law_basic.specs.Geometry.{spare_len_lem}
use Rattle.disk_records.specs.Record.{rec_val, record_written}
use Rattle.disk_records.proofs.write_record.Goals as goal

pub write_be64-requires : goal.write_be64-requires
write_be64-requires c = omega (arith, spare_len_lem)

pub write_be64-requires-2 : goal.write_be64-requires-2
write_be64-requires-2 c = omega (arith, spare_len_lem)

pub write_be32-requires : goal.write_be32-requires
write_be32-requires c = omega (arith, spare_len_lem)

pub returns : goal.returns
returns c =
    let write-be32 = c.write_be32 in
    let write-be642 = c.write_be64-2 in
    let write-be64 = c.write_be64 in
    let args = c.args in
    let pre = c.requires in
    record_written args.dst.now write-be64.new.dst write-be642.new.dst write-be32.new.dst (rec_val args.r) (pre) write-be64.ensures write-be642.ensures write-be32.ensures
