-- `recover`: all zones of a box have room in the arrays. Assumes nothing.
use Rattle.law_basic.specs.Geometry.{ranged, prod_le}
use native.Mathlib.Omega.{arith}
use Rattle.call_restart.proofs.recover.Goals as goal

pub recover_in-requires : goal.recover_in-requires
recover_in-requires c =
    let q = c.requires in
    let p = c.args.p in
    let r = ranged p q.p_value in
    let z = r.zones_high in record {
      p_value = q.p_value;
      whole = q.whole;
      gone_value = q.gone_value;
      addresses_len = q.addresses_len;
      z_in_bounds =
          (omega (arith, z), z, z, z, prod_le p.N p.Z 8 1024 8192 r.drives_high z (omega arith));
    }
