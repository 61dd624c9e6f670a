-- `entry`: the elements at k of the row are those of its state with one stripe (`alone_entry`). Assumes nothing.
use Rattle.call_land_chunk.specs.Alone.{alone_entry}
use mathlib.Core.Path.{sym}
use Rattle.call_land_chunk.proofs.entry.Goals as goal

pub returns : goal.returns
returns c =
    let args = c.args in
    sym (alone_entry args.row args.k)
