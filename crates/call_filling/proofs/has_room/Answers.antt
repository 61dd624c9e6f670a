-- `has_room`: k + 1 below N says that k is below the data count, N - 1 (`room_test`). Assumes nothing.
use Rattle.call_filling.specs.Aims.{room_test}
use Rattle.call_filling.proofs.has_room.Goals as goal

pub returns : goal.returns
returns c =
    let a = c.args in
    room_test a.p a.k
