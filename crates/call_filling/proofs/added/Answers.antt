-- `added`: field by field: k is the number filled, so mask bit, address and stamp are set there; filled + 1 is its successor. Assumes nothing.
use Rattle.call_filling.specs.Entries.{added_row}
use lib.ListN.{set}
use native.Mathlib.Numerals.{add-one}
use Rattle.call_filling.proofs.added.Goals as goal

pub returns : goal.returns
unfolding added_row
returns c =
    let a = c.args in
    let r = a.row in
    λ j. record {
      number = r.number;
      filled = add-one r.filled j;
      writes = c.with_write-w.ensures j;
      landed = r.landed;
      addresses = set r.addresses r.filled a.address.0;
      stamps = set r.stamps r.filled a.stamp.0;
      offsets = r.offsets;
    }
