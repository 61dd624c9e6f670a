-- `mark_landed`: field by field: landed is the mask with drive d, the offsets have o set at d, and o fits 32 bits. Assumes nothing.
use Rattle.call_land_chunk.specs.Alone.{mark_row}
use lib.ListN.{set}
use Rattle.call_land_chunk.proofs.mark_landed.Goals as goal

pub returns : goal.returns
unfolding mark_row
returns c =
    let r = c.args.row in
    let e = c.with_drive.ensures in
    λ j. record {
      number = r.number;
      filled = r.filled;
      writes = r.writes;
      landed = e j;
      addresses = r.addresses;
      stamps = r.stamps;
      offsets = set r.offsets c.args.d c.args.o;
    }
