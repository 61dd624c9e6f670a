-- `add_mark`: `with_drive` puts bit k % 8 into byte k / 8, as the definition does. Assumes nothing.
use Prim.Native.Nat.{◌/◌}
use Rattle.mem_marks.specs.Marks.{with_mark}
use lib.ListN.{set}
use mathlib.Core.Path.{ap}
use Rattle.mem_marks.proofs.add_mark.Goals as goal

pub returns : goal.returns
unfolding with_mark
returns c =
    let args = c.args in
    ap (set args.marks.now (args.k / 8)) c.with_drive.ensures
