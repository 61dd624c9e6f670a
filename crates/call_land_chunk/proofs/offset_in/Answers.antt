-- `offset_in`: the element at the drive, made wide, is the offset in the state with one stripe (`alone_offset`). Assumes nothing.
use Rattle.call_land_chunk.specs.Alone.{alone_offset}
use mathlib.Core.Path.{sym}
use Rattle.call_land_chunk.proofs.offset_in.Goals as goal

pub returns : goal.returns
returns c =
    let args = c.args in
    sym (alone_offset args.row args.drive)
