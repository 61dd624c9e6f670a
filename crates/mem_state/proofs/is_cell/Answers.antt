-- `is_cell`: the address is read at its place in the bytes, and another one ends it; with the same one the stamp decides. Assumes nothing.
use Rattle.mem_state.specs.Flights.{flight_other_address, flight_same_address}
use Rattle.mem_state.proofs.is_cell.Goals as goal

pub returns-then-a-address : goal.returns-then-a-address
returns-then-a-address c =
    let a = c.args in
    let r = c.read_le64-a in
    flight_other_address a.bytes.now a.j a.address.0 a.stamp.0 r.result c.requires.1 r.ensures c.if-a-address.true

pub returns : goal.returns
returns c =
    let a = c.args in
    let r = c.read_le64-a in
    let w = c.read_le64-t in
    flight_same_address a.bytes.now a.j a.address.0 a.stamp.0 r.result c.requires.1 r.ensures c.if-a-address.false w.result w.ensures
