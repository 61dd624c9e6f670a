-- `examine`: what `many` says, the flags of repeated serials and the counts of names are made once, and the examination of all zones is the answer. Assumes nothing.
use Rattle.disk_drives.specs.Viewed.{viewed}
use mathlib.Core.Path.{refl, ap}
use native.Mathlib.Omega.{arith}
use lib.Dec.{leb}
use Rattle.law_basic.specs.Geometry.{ranged, zones_all}
use Rattle.recover_segments.specs.Kept.{kept-rows-low}
use Rattle.recover_check.proofs.examine.Goals as goal

pub unsealed_count-many-requires : goal.unsealed_count-many-requires
unsealed_count-many-requires c =
    let a = c.args in
    let v = viewed a.drives.now in
    let q = c.requires.keeps in record {
      p_value = c.args.drives.now.sound;
      pointers_len =
          (c.args.drives.now.whole.pointers_long, kept-rows-low a.drives.now.p v a.gone a.rows.now a.kept.now q.2 q.0 c.requires.here);
    }

pub repeats-requires : goal.repeats-requires
repeats-requires c = record { here = c.requires.here; z_in_bounds = omega (arith, (ranged c.args.drives.now.p c.args.drives.now.sound).zones_high) }

pub name_counts-requires : goal.name_counts-requires
name_counts-requires c =
    let p = c.args.drives.now.p in record {
      p_value = c.args.drives.now.sound;
      image_len =
          (c.args.drives.now.whole.image_long, c.requires.keeps.0.0, omega (arith, zones_all p (ranged p c.args.drives.now.sound)));
    }

pub exam_segments-requires : goal.exam_segments-requires
exam_segments-requires c =
    let a = c.args in
    let q = c.requires.keeps in
    let f = c.repeats in
    let long = f.auto.out in
    let n = c.name_counts.ensures a.drives.now.offline.now a.drives.now.pointers.now c.args.drives.now.whole.pointers_long q.0 in
    let u = c.unsealed_count-many.ensures.by_index a.drives.now.offline.now a.drives.now.image.now c.args.drives.now.whole.image_long q.0 q.2 in record {
      arrays = record {
        here = c.requires.here;
        keeps = q.0;
        serials = q.1;
        zones = q.2;
        repeated_long = omega (arith, long, (ranged a.drives.now.p c.args.drives.now.sound).zones_high);
        repeated = f.ensures;
        named = n;
      };
      many_value = (ap (leb 2) u, refl);
    }
