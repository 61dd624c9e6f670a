-- `data_byte`: `slot_byte` of the drive that `data_drive` says; the block there ends inside the in-flight buffer. Assumes nothing.
use mathlib.Core.Path.{ap, ◌∙◌}
use Rattle.spec.specs.Memory.{slot_byte}
use Rattle.disk_code.proofs.data_byte.Goals as goal

pub returns : goal.returns
returns c =
    let args = c.args in
    (c.slot_byte.ensures.0 ∙ ap (slot_byte args.p args.slot) c.data_drive.ensures.0, c.slot_byte.ensures.1)
