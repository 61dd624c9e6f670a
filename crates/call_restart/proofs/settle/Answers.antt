-- `settle`: the exam and the marks say what the checks ask; refused, all stays (`settles_refused`); else nothing is wrong (`is_sane`), and the stores are made (`settles_stored`). Assumes nothing.
use Rattle.spec.specs.Calls.{first_refusal}
use Rattle.spec.specs.Drives.{View, Disk, mk_disk}
use Rattle.spec.specs.Lists.Opt.{none}
use Rattle.spec.specs.Segments.{segments}
use Rattle.law_basic.specs.Geometry.{ranged}
use Rattle.call_restart.specs.Ends.{settles_refused, is_sane, settles_cut, settles_stored}
use Rattle.call_restart.specs.Order.{rest_checks, rested, zone_all}
use Rattle.law_drives.specs.Image.{shaped_of}
use Rattle.law_views.specs.Views.{seen}
use mathlib.Core.Path.{◌≡◌, sym}
use native.Mathlib.Omega.{arith}
use Rattle.law_drives.specs.Zones.{Shaped}
use Rattle.call_restart.proofs.settle.Goals as goal
use Rattle.call_restart.proofs.settle.Goals.{In_ok-rest_checks}

pub examine-e-requires : goal.examine-e-requires
examine-e-requires c =
    let q = c.requires in record { here = q.whole.2; keeps = (q.keeps.0, q.serials.0, q.keeps.1) }

pub taken-requires : goal.taken-requires
taken-requires c =
    let q = c.requires in record { p_value = q.p_value; z_in_bounds = (q.keeps.0.0, q.keeps.1.0, q.serials.1) }

pub rest_checks-requires : goal.rest_checks-requires
rest_checks-requires c =
    let a = c.args in
    let q = c.requires in
    let v : View = seen a.p a.offline.now (mk_disk a.image.now a.pointers.now) in
    let t = c.taken.ensures v a.gone q.keeps.0 q.keeps.1 in record { p_value = q.p_value; z_in_bounds = (q.keeps.0.0, q.serials.0.0, t.0, q.whole.1) }

pub returns-in_err-rest_checks : goal.returns-in_err-rest_checks
returns-in_err-rest_checks c =
    let a = c.args in
    let q = c.requires in
    let k : Disk = mk_disk a.image.now a.pointers.now in
    let t = c.taken.ensures (seen a.p a.offline.now k) a.gone q.keeps.0 q.keeps.1 in
    settles_refused a.p a.offline.now a.gone a.count k c.in_err-rest_checks.field-0.0 c.from_residual.result c.from_residual.ensures.1
    (c.in_err-rest_checks.ensures a.image.now a.pointers.now q.keeps.0 q.serials.0 t c.examine-e.ensures)

module _ (c : In_ok-rest_checks) where
  abbrev disk_in : Disk
  disk_in = mk_disk c.args.image.now c.args.pointers.now

  -- none of the checks holds
  passed : let v = seen c.args.p c.args.offline.now disk_in in none ≡ first_refusal (rest_checks c.args.p v c.args.gone (segments c.args.p v c.args.gone))
  passed =
      let q = c.requires in
      c.in_ok-rest_checks.ensures c.args.image.now c.args.pointers.now q.keeps.0 q.serials.0 (c.taken.ensures (seen c.args.p c.args.offline.now disk_in) c.args.gone q.keeps.0 q.keeps.1)
      c.examine-e.ensures

  zone_is : c.examine-e.result.zone ≡ c.args.p.Z
  zone_is =
      let v = seen c.args.p c.args.offline.now disk_in in
      zone_all c.args.p v c.args.gone c.examine-e.result c.examine-e.ensures (rested c.args.p v c.args.gone (segments c.args.p v c.args.gone) (sym passed)).segments_ok

shaped : (c : In_ok-rest_checks) → Shaped c.args.p (seen c.args.p c.args.offline.now (mk_disk c.args.image.now c.args.pointers.now))
shaped c = shaped_of c.args.p c.args.offline.now (mk_disk c.args.image.now c.args.pointers.now) c.requires.whole.0 (λ i. omega (arith, c.slice_known-1.given i))

pub stores-requires : goal.stores-requires
stores-requires c =
    let a = c.args in
    let q = c.requires in
    let g = (goal.at.stores-requires c).In_ok-rest_checks in
    record {
      p_value = q.p_value;
      whole = (q.whole.0, q.whole.1);
      keeps = q.keeps;
      serials = (q.serials.0, c.taken.ensures (seen a.p a.offline.now (disk_in g)) a.gone q.keeps.0 q.keeps.1);
      examined = (
        c.examine-e.ensures,
        zone_is g,
        is_sane a.p (ranged a.p q.p_value) a.offline.now a.gone a.count q.whole.2 (disk_in g) q.whole.0 (shaped g) q.gone_value (passed g),
      );
    }

pub returns-in_err-stores : goal.returns-in_err-stores
returns-in_err-stores c =
    let a = c.args in
    let q = c.requires in
    let g = (goal.at.returns-in_err-stores c).In_ok-rest_checks in
    let m = c.stores in
    let f = c.from_residual-in_err-stores in
    settles_cut a.p (ranged a.p q.p_value) a.offline.now a.gone a.count q.whole.2 (disk_in g) q.whole.0 (shaped g) q.gone_value (passed g) f.result
    (mk_disk m.new.image m.new.pointers) f.ensures.1 c.in_err-stores.ensures

pub returns : goal.returns
returns c =
    let a = c.args in
    let q = c.requires in
    let g = (goal.at.returns c).In_ok-rest_checks in
    let m = c.stores in
    settles_stored a.p (ranged a.p q.p_value) a.offline.now a.gone a.count q.whole.2 (disk_in g) q.whole.0 (shaped g) q.gone_value (passed g) c.in_ok-stores.field-0
    (mk_disk m.new.image m.new.pointers) c.examine-e.result.loose c.in_ok-stores.ensures (c.examine-e.ensures.loose_is (zone_is g))
