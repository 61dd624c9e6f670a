-- `look`: the segments are gathered; with none sealed there is no victim (`looked_none`), else it is looked for with the tables at hand (`shown`). Assumes nothing.
use Rattle.disk_drives.specs.Viewed.{viewed}
use Rattle.spec.specs.Memory.{state_of}
use Prim.Native.Nat.{ℕ, ◌*◌, ◌≤◌}
use Rattle.spec.specs.Drives.{view_of}
use Rattle.spec.specs.Lists.{below}
use Rattle.law_basic.specs.Geometry.{ranged, zones_all}
use Rattle.law_drives.specs.Members.{none_in, in_below}
use Rattle.call_reclaim_live.specs.Least.{victim_nobody}
use Rattle.call_reclaim_live.specs.Owners.{owners_rows-low, flags_told, fitted, owners_shown}
use Rattle.call_reclaim_victim.specs.Looked.{looked_none}
use borrow.Author.Tests.{not-true}
use lib.ListN.{get_or, length-replicate, get_or-replicate}
use mathlib.Core.Bool.{Bool, false}
use mathlib.Core.Path.{sym, ◌∙◌, subst}
use native.Mathlib.Omega.{arith}
use Rattle.call_reclaim_victim.proofs.look.Goals as goal

pub find_kept-requires : goal.find_kept-requires
find_kept-requires c =
    let high = (ranged c.args.drives.now.p c.args.drives.now.sound).zones_high in record { z_in_bounds = (omega (arith, high), high) }

pub find_sealed-requires : goal.find_sealed-requires
find_sealed-requires c =
    let a = c.args in
    let r = ranged a.drives.now.p c.args.drives.now.sound in
    let k = c.find_kept in
    let v = viewed a.drives.now in record {
      p_value = c.args.drives.now.sound;
      pointers_len = (
        c.args.drives.now.whole.pointers_long,
        k.ensures.flags_rows.0,
        k.ensures.keeps.0,
        owners_rows-low a.drives.now.p r v k.new.rows k.new.kept k.ensures.flags_rows k.ensures.keeps,
      );
      z_in_bounds = r.zones_high;
    }

pub any_sealed-requires : goal.any_sealed-requires
any_sealed-requires c =
    subst (λ (x : ℕ). c.args.drives.now.p.Z ≤ x) (sym (c.find_sealed.auto.sealed ∙ length-replicate {A = Bool} 1024 false)) (ranged c.args.drives.now.p c.args.drives.now.sound).zones_high

pub returns-then-not-any_sealed : goal.returns-then-not-any_sealed
returns-then-not-any_sealed c =
    let a = c.args in
    let p = a.drives.now.p in
    let tb = a.addresses.now in
    let w = c.args.drives.now.whole in
    let v = view_of p a.drives.now.offline.now a.drives.now.image.now a.drives.now.pointers.now in
    let k = c.find_kept in
    let s = c.find_sealed in
    let sealed = s.new.sealed in
    let any! = c.any_sealed in
    let no = sym any!.ensures ∙ not-true any!.result c.if-not-any_sealed.true-raw in
    let flagged = flags_told p (ranged p c.args.drives.now.sound) v k.new.rows k.new.kept k.ensures.flags_rows k.ensures.keeps sealed
    (s.ensures a.drives.now.offline.now a.drives.now.image.now w.image_long) in
    let e = c.nobody.ensures in
    looked_none p v tb (state_of a.bytes.now) p.Z
    (victim_nobody p v tb sealed flagged (λ g h. none_in (λ x. get_or sealed x false) (below p.Z) no g (in_below p.Z g h)) p.Z (omega arith)) (omega arith)
    c.nobody.result (omega (arith, e.0)) e.1 e.2 e.3

pub find_owners-requires : goal.find_owners-requires
find_owners-requires c =
    let a = c.args in
    let r = ranged a.drives.now.p c.args.drives.now.sound in
    let k = c.find_kept in
    let v = viewed a.drives.now in
    let few = zones_all a.drives.now.p r in record {
      p_value = c.args.drives.now.sound;
      z_in_bounds =
          (k.ensures.flags_rows.0, k.ensures.keeps.0, few, owners_rows-low a.drives.now.p r v k.new.rows k.new.kept k.ensures.flags_rows k.ensures.keeps);
      by_index = λ t l.
          get_or-replicate 8192 t 1024 0 (omega (arith, l, few));
    }

pub look_in-requires : goal.look_in-requires
look_in-requires c =
    let a = c.args in
    let p = a.drives.now.p in
    let r = ranged p c.args.drives.now.sound in
    let k = c.find_kept in
    let s = c.find_sealed in
    let f = c.find_owners in
    let w = c.args.drives.now.whole in
    let v = view_of p a.drives.now.offline.now a.drives.now.image.now a.drives.now.pointers.now in
    let long = subst (λ (x : ℕ). p.Z ≤ x) (sym (s.auto.sealed ∙ length-replicate {A = Bool} 1024 false)) r.zones_high in
    let all! = subst (λ (x : ℕ). p.N * p.Z ≤ x) (sym (f.auto.owners ∙ length-replicate {A = ℕ} 8192 1024)) (zones_all p r) in record {
      p_value = c.args.drives.now.sound;
      whole = (
        w,
        fitted p r v k.new.rows k.new.kept k.ensures.flags_rows k.ensures.keeps f.new.owners f.ensures s.new.sealed long all!
            (s.ensures a.drives.now.offline.now a.drives.now.image.now w.image_long),
      );
      addresses_len = c.requires.addresses_len;
    }

pub returns : goal.returns
returns c =
    let a = c.args in
    let p = a.drives.now.p in
    let k = c.find_kept in
    let s = c.find_sealed in
    let f = c.find_owners in
    let v = view_of p a.drives.now.offline.now a.drives.now.image.now a.drives.now.pointers.now in
    c.look_in.ensures a.drives.now.offline.now
    (owners_shown p (ranged p c.args.drives.now.sound) v k.new.rows k.new.kept k.ensures.flags_rows k.ensures.keeps f.new.owners f.ensures s.new.sealed
    (s.ensures a.drives.now.offline.now a.drives.now.image.now c.args.drives.now.whole.image_long))
