-- `load_tables`: the cleared tables are those of no record, and the tour of all segments tells the rest of both. Assumes nothing.
use mathlib.Core.Path.{refl, ap, ◌∙◌}
use Prim.Native.Nat.{ℕ}
use native.Mathlib.Omega.{arith}
use lib.ListN.{replicate}
use Rattle.spec.specs.Drives.{View, view_of}
use Rattle.spec.specs.Params.{offline_len}
use Rattle.law_basic.specs.Geometry.{ranged}
use Rattle.recover_addresses.specs.Owners.{rows-all-low, owners_told}
use Rattle.recover_tables.specs.Walk.{toured_all}
use Rattle.recover_tables.proofs.load_tables.Goals as goal

pub find_owners-requires : goal.find_owners-requires
unfolding offline_len
find_owners-requires c =
    let a = c.args in
    let q = c.requires in
    let v : View = view_of a.p a.offline.now a.image.now a.pointers.now in
    let l = q.loading in record {
      p_value = q.p_value;
      z_in_bounds =
          (l.rows_are.0, l.kept_are.0, q.whole.1, rows-all-low a.p v a.gone l.here l.apart a.rows.now a.kept.now l.rows_are l.kept_are);
      by_index = q.whole.2;
    }

pub slice_bounds-load_segments-end : goal.slice_bounds-load_segments-end
slice_bounds-load_segments-end c = omega arith

pub load_segments-requires : goal.load_segments-requires
load_segments-requires c =
    let a = c.args in
    let q = c.requires in
    let v : View = view_of a.p a.offline.now a.image.now a.pointers.now in
    let l = q.loading in
    let f = c.find_owners in
    let owned = owners_told a.p v a.gone l.here l.apart a.rows.now a.kept.now l.rows_are l.kept_are f.new.owners
    (omega (arith, f.auto.owners, q.whole.1)) f.ensures in
    let e = c.clear.ensures ∙ ap (λ (n : ℕ). replicate {A = ℕ} n 0) q.addresses_len.1 in record {
      ground = record {
        in_range_holds = q.p_value;
        whole = q.whole.0;
        here = l.here;
        apart = l.apart;
        clean = l.clean;
        compact_long = c.clear.auto.dst ∙ q.addresses_len.1;
      };
      gathered = record {
        rows_are = l.rows_are;
        serials_are = l.serials_are;
        owners_are = owned;
      };
      keeps = l.kept_are;
      addresses_value = (
        c.clear_table.ensures ∙ ap
            (λ (n : ℕ). replicate {A = ℕ} n 255) q.addresses_len.0,
        e,
        refl,
      );
    }

pub returns : goal.returns
returns c =
    let a = c.args in
    let q = c.requires in
    let v : View = view_of a.p a.offline.now a.image.now a.pointers.now in
    let r = ranged a.p q.p_value in
    let x = c.load_segments in
    let (t, u, m) = toured_all a.p v a.gone q.loading.here x.new.compact x.new.addresses x.result.stamp.0 (omega (arith, r.stripes_low))
    (omega (arith, r.zones_low)) x.ensures.toured in record { said_tables = record { addresses = t; compact = u; most = m }; next_le_s = x.ensures.next_le_s }
