-- `any_outside`: the entries beyond the last place and those in zones of no segment are counted, and there is a fault just when some are (`outside-count`). Assumes nothing.
use Rattle.disk_drives.specs.Viewed.{viewed}
use Prim.Native.Nat.{ℕ, ◌+◌, ◌*◌, ◌≤◌}
use Rattle.spec.specs.Drives.{view_of}
use Rattle.spec.specs.Params.{capacity, addresses_len}
use Rattle.law_basic.specs.Geometry.{ranged, zones_all, addresses_all}
use Rattle.mem_tables.specs.Tables.{count-le}
use Rattle.call_reclaim_entries.specs.Entries.{entered_none, taken_live}
use Rattle.call_reclaim_live.specs.Owners.{owners_rows-low, owners_low, place_told}
use Rattle.call_reclaim_victim.specs.Outside.{outside_told, outside-count}
use lib.Dec.{eqb}
use lib.ListN.{length, get_or, replicate, length-replicate, get_or-replicate}
use mathlib.Core.Bool.{not}
use mathlib.Core.Path.{sym, ap, ◌∙◌, subst}
use native.Mathlib.Omega.{arith}
use Rattle.call_reclaim_victim.proofs.any_outside.Goals as goal

pub find_kept-requires : goal.find_kept-requires
find_kept-requires c =
    let high = (ranged c.args.drives.now.p c.args.drives.now.sound).zones_high in record { z_in_bounds = (omega (arith, high), high) }

pub find_owners-requires : goal.find_owners-requires
find_owners-requires c =
    let a = c.args in
    let r = ranged a.drives.now.p c.args.drives.now.sound in
    let k = c.find_kept in
    let v = viewed a.drives.now in
    let few = zones_all a.drives.now.p r in record {
      p_value = c.args.drives.now.sound;
      z_in_bounds =
          (k.ensures.flags_rows.0, k.ensures.keeps.0, few, owners_rows-low a.drives.now.p r v k.new.rows k.new.kept k.ensures.flags_rows k.ensures.keeps);
      by_index = λ t l.
          get_or-replicate 8192 t 1024 0 (omega (arith, l, few));
    }

pub count_entries-beyond-requires : goal.count_entries-beyond-requires
count_entries-beyond-requires c =
    let a = c.args in
    let p = a.drives.now.p in
    let r = ranged p c.args.drives.now.sound in
    let k = c.find_kept in
    let f = c.find_owners in
    let v = view_of p a.drives.now.offline.now a.drives.now.image.now a.drives.now.pointers.now in
    let ss = f.new.owners in
    let all! = subst (λ (x : ℕ). p.N * p.Z ≤ x) (sym (f.auto.owners ∙ length-replicate {A = ℕ} 8192 1024)) (zones_all p r) in
    let low = owners_low p r v k.new.rows k.new.kept k.ensures.flags_rows k.ensures.keeps ss f.ensures in
    record {
      p_value = c.args.drives.now.sound;
      addresses_len = (c.requires.addresses_len, (all!, low), omega arith);
      taken_counted = entered_none p ss a.addresses.now
          (replicate 1025 0) (λ g l. get_or-replicate 1025 g 0 0 (omega (arith, l)));
    }

pub overflow_add-result : goal.overflow_add-result
overflow_add-result c =
    let p = c.args.drives.now.p in
    let n = c.count_entries-beyond in
    let few = addresses_all p (ranged p c.args.drives.now.sound) in
    omega (arith, n.ensures.value, count-le c.args.addresses.now p.L (p.N * p.Z * capacity p) 4294967295, n.ensures.taken_counted_2.low 1024 (omega arith), few)

pub returns : goal.returns
unfolding addresses_len
returns c =
    let a = c.args in
    let p = a.drives.now.p in
    let r = ranged p c.args.drives.now.sound in
    let tb = a.addresses.now in
    let k = c.find_kept in
    let f = c.find_owners in
    let n = c.count_entries-beyond in
    let used = n.new.used in
    let ss = f.new.owners in
    let v = view_of p a.drives.now.offline.now a.drives.now.image.now a.drives.now.pointers.now in
    let t = ap length (taken_live p ss tb 1024) in
    outside_told p v tb (not (eqb (n.result + get_or used 1024 0) 0))
    (outside-count p r v tb ss (omega (arith, c.requires.addresses_len)) (λ x. omega (arith, c.shared_slice_known-1.given x))
    (place_told p r v k.new.rows k.new.kept k.ensures.flags_rows k.ensures.keeps ss f.ensures) n.result (get_or used 1024 0) n.ensures.value
    (omega (arith, t, n.ensures.taken_counted_2.most 1024 (omega arith))) (λ x. omega (arith, t, n.ensures.taken_counted_2.least 1024 (omega arith) x)))
