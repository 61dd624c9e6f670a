-- `read_record`: the constants are where the table's fields begin, and each read is its field. Assumes nothing.
use native.Mathlib.Omega.{arith}
use Rattle.spec.specs.Bytes.{widths_of, field_at, read_field}
use Rattle.spec.specs.Layout.{record_of_of}
use Rattle.spec.specs.Lists.{total}
use Rattle.spec.specs.Params.{record_table, record_widths}
use Rattle.law_basic.specs.Geometry.{spare_len_lem}
use Rattle.disk_records.proofs.read_record.Goals as goal

pub read_be64-requires : goal.read_be64-requires
read_be64-requires c = omega (arith, spare_len_lem)

pub read_be64-requires-2 : goal.read_be64-requires-2
read_be64-requires-2 c = omega (arith, spare_len_lem)

pub read_be32-stripe-requires : goal.read_be32-stripe-requires
read_be32-stripe-requires c = omega (arith, spare_len_lem)

pub returns : goal.returns
unfolding record_of_of read_field field_at record_widths record_table widths_of total
returns c =
    let x = c.read_be64.ensures in
    let y = c.read_be64-2.ensures in
    let z = c.read_be32-stripe.ensures in
    λ i. record { address = x i; stamp = y i; stripe = z i }
