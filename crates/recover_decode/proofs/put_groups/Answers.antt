-- `put_groups`: an index has 2048 numbers, for which there is room. Assumes nothing.
use mathlib.Core.Path.{refl}
use Rattle.recover_decode.proofs.put_groups.Goals as goal

pub put_groups_with-requires : goal.put_groups_with-requires
put_groups_with-requires c =
    let q = c.requires in record {
      p_value = q.p_value;
      whole = q.whole;
      lacks = q.lacks;
      at_len = (refl, q.zones_low.0, q.zones_low.1);
      by_index = q.by_index;
      by_index_2 = q.by_index_2;
      by_index_3 = q.by_index_3;
    }
