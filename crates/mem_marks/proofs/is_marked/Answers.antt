-- `is_marked`: `has_drive` looks at bit k % 8 of byte k / 8, as the definition does. Assumes nothing.
use Rattle.mem_marks.specs.Marks.{is_marked}
use Rattle.mem_marks.proofs.is_marked.Goals as goal

pub returns : goal.returns
unfolding is_marked
returns c = c.has_drive.ensures
