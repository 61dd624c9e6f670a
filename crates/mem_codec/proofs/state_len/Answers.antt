-- `state_len`: the lengths of the sections add up to 1366 (`state_len_lem`). Assumes nothing.
use mathlib.Core.Path.{sym}
use Rattle.mem_codec.specs.Codec.{state_len_lem}
use Rattle.mem_codec.proofs.state_len.Goals as goal

pub returns : goal.returns
returns c = sym state_len_lem
