-- The open segment and the greatest serial are those of the segments that remain; with the tables they make the memory (memory-is). Assumes nothing.
use mathlib.Core.Path.{ap, ◌∙◌}
use Prim.Native.Nat.{ℕ}
use native.Mathlib.Omega.{arith}
use Rattle.std.specs.Option.{unwrap_or}
use Rattle.std.specs.Prelude.{Option}
use Rattle.spec.specs.Lists.{keep, below}
use Rattle.disk_gather.specs.Ranges.{opt_first_or}
use lib.ListN.{get_or-replicate}
use Rattle.spec.specs.Drives.{View, view_of}
use Rattle.law_basic.specs.Geometry.{ranged, offline_high}
use Rattle.recover_segments.specs.Kept.{kept-rows-low, unsealed_at}
use Rattle.recover_tables.specs.Head.{open_found, memory_is}
use Rattle.recover_tables.proofs.load.Goals as goal

pub first_unsealed-first-requires : goal.first_unsealed-first-requires
first_unsealed-first-requires c =
    let a = c.args in
    let q = c.requires in
    let v : View = view_of a.p a.offline.now a.image.now a.pointers.now in
    let l = q.loading in record { p_value = q.p_value; pointers_len = (q.whole.pointers_long, kept-rows-low a.p v a.gone a.rows.now a.kept.now l.rows_are l.kept_are l.here) }

pub greatest_serial-serial-requires : goal.greatest_serial-serial-requires
greatest_serial-serial-requires c =
    let l = c.requires.loading in
    (l.kept_are.0, l.serials_are.0)

pub load_tables-h-requires : goal.load_tables-h-requires
load_tables-h-requires c =
    let a = c.args in
    let q = c.requires in
    let few = offline_high a.p (ranged a.p q.p_value) in
    record { p_value = q.p_value; whole = (q.whole, few, λ t h. get_or-replicate 8192 t 1024 0 (omega (arith, h, few))); addresses_len = q.addresses_len; loading = q.loading }

pub state_of-requires : goal.state_of-requires
state_of-requires c =
    let a = c.args in
    let q = c.requires in
    let r = ranged a.p q.p_value in
    (r.zones_high, r.stripes_high, c.load_tables-h.ensures.next_le_s.0, q.loading.serials_are.0)

pub returns : goal.returns
returns c =
    let a = c.args in
    let q = c.requires in
    let t = c.load_tables-h in
    let n = c.greatest_serial-serial in
    let u = c.unwrap_or-opened in
    let v : View = view_of a.p a.offline.now a.image.now a.pointers.now in
    let h = t.result in
    let l = q.loading in
    λ fl. memory_is a.p v a.gone h.stamp.0 n.result.0 u.result h.next a.serials.now c.state_of.result t.new.addresses t.new.compact fl
    l.here l.serials_are t.ensures.said_tables (n.ensures v a.gone l.here l.kept_are l.serials_are)
    (open_found a.p v a.gone u.result (u.ensures
    ∙ ap (λ (o : Option ℕ). unwrap_or o a.p.Z) (c.first_unsealed-first.ensures.first a.offline.now a.image.now q.whole.image_long l.kept_are l.rows_are)
    ∙ opt_first_or a.p.Z (keep (unsealed_at a.p v a.gone) (below a.p.Z)))) t.ensures.next_le_s.1 c.state_of.ensures
