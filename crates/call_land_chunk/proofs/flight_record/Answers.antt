-- `flight_record`: on a data drive it is `entry` at the drive's position, which is below 8; on the parity's it is `parity_entry`. Assumes nothing.
use Rattle.spec.specs.Layout.{is_data, parity_position}
use Rattle.spec.specs.Memory.{stripe_in, entry_in_of}
use Rattle.law_basic.specs.Geometry.{ranged}
use Rattle.law_code.specs.Chunks.{flight_data, flight_parity}
use Rattle.call_land_chunk.specs.Alone.{alone}
use mathlib.Core.Bool.{true, false}
use mathlib.Core.Path.{◌≡◌, sym, ap, ◌∙◌}
use native.Mathlib.Omega.{arith}
use Rattle.call_land_chunk.proofs.flight_record.Goals as goal

pub entry-requires : goal.entry-requires
entry-requires c =
    let q = c.requires in
    let args = c.args in
    omega (arith, c.data_position.ensures.1, q.1, (ranged args.p q.0).drives_high)

pub returns-then-is_data : goal.returns-then-is_data
unfolding alone stripe_in
returns-then-is_data c =
    let a = c.args in
    let m = alone a.row in
    let f : is_data a.p (stripe_in m 0) a.d ≡ true = sym c.is_data.ensures ∙ c.if-is_data.true in
    c.entry.ensures ∙ ap (entry_in_of m 0) c.data_position.ensures.0 ∙ sym (flight_data a.p m 0 a.d f)

pub parity_entry-requires : goal.parity_entry-requires
parity_entry-requires c = c.requires.2

pub returns : goal.returns
unfolding parity_position alone stripe_in
returns c =
    let a = c.args in
    let m = alone a.row in
    let f : is_data a.p (stripe_in m 0) a.d ≡ false = sym c.is_data.ensures ∙ c.if-is_data.false in
    c.parity_entry.ensures ∙ sym (flight_parity a.p m 0 a.d f)
