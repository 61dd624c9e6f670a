-- `next_drive`: the stripe's number and its filled positions are the arguments of `drive_for`; `data_drive` gives the bound N. Assumes nothing.
use Rattle.call_filling.specs.Entries.{drive_for}
use Rattle.call_filling.proofs.next_drive.Goals as goal

pub returns : goal.returns
unfolding drive_for
returns c = c.data_drive.ensures
