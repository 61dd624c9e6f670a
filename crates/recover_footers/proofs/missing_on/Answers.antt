-- `missing_on`: the footers from the first lacking one on fit below capacity, as the pointer is right behind the stored ones. Assumes nothing.
use Rattle.spec.specs.Drives.{zone_at, mk_disk}
use Rattle.law_basic.specs.Geometry.{ranged}
use Rattle.recover_footers.specs.Feet.{lack_fits, lack_stores}
use Rattle.law_views.specs.Views.{seen}
use mathlib.Core.List.{[]}
use native.Mathlib.Omega.{arith}
use Rattle.recover_footers.proofs.missing_on.Goals as goal

pub footer_stores-requires : goal.footer_stores-requires
footer_stores-requires c =
    let footers = c.footers in
    let footers-stored = c.footers_stored-first in
    let args = c.args in
    let pre = c.requires in record {
      p_value = pre.p_value;
      whole = pre.whole;
      drive_lt_n = (
        pre.drive_lt_n.0,
        pre.drive_lt_n.1,
        omega (arith, footers.ensures.0, footers-stored.ensures.upper_bound),
        omega (
          arith,
          footers.ensures.0,
          lack_fits args.p (ranged args.p pre.p_value) [] (mk_disk args.image.now args.pointers.now) args.drive args.zone
              footers-stored.result pre.drive_lt_n.0 pre.drive_lt_n.1 pre.whole (footers-stored.ensures.by_index [] args.image.now pre.whole.image_long)
              pre.drive_lt_n.2 pre.drive_lt_n.3,
        ),
      );
    }

pub returns : goal.returns
returns c =
    let a = c.args in
    let footer-stores = c.footer_stores in
    let footers = c.footers in
    let footers-stored = c.footers_stored-first in
    let pre = c.requires in
    let k = (mk_disk a.image.now a.pointers.now) in
    λ off. lack_stores a.p a.count a.drive a.zone (zone_at (seen a.p off k) a.drive a.zone) footers-stored.result footers.result k
    footer-stores.result (mk_disk footer-stores.new.image footer-stores.new.pointers)
    (footers-stored.ensures.by_index off a.image.now pre.whole.image_long) footers.ensures.0 (footer-stores.ensures off)
