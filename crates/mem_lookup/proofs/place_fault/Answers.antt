-- `place_fault`: the segment looked up is what `held_fault` asks for. Assumes nothing.
use Rattle.mem_lookup.proofs.place_fault.Goals as goal

pub place_held-held-requires : goal.place_held-held-requires
place_held-held-requires c = record { here = c.requires.here }

pub returns : goal.returns
returns c = record {
  faults = c.held_fault.ensures.faults c.args.drives.now.offline.now c.args.drives.now.image.now c.args.drives.now.whole.image_long c.place_held-held.ensures.place_value;
  low = c.held_fault.ensures.low;
}
