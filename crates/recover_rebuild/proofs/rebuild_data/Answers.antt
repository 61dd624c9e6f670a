-- `rebuild_data`: the chunks are cut or made; not sealed, they are all; sealed, S of them count, so the footers fit and come of their spares. Assumes nothing.
use mathlib.Core.Path.{◌≡◌, sym, ap, ◌∙◌, subst}
use mathlib.Core.List.{List, []}
use mathlib.Core.Bool.{true}
use Prim.Native.Nat.{ℕ, ◌+◌, ◌≤◌, ◌<◌}
use borrow.Author.Tests.{not-true, not-false}
use native.Mathlib.Omega.{arith}
use Rattle.spec.specs.Drives.{zone_at, mk_disk, pointer_of, sealed_in, footer_stores}
use Rattle.spec.specs.Lists.{below}
use Rattle.spec.specs.Params.{footers, capacity, named}
use Rattle.spec.specs.Segments.{segment_of}
use Rattle.law_basic.specs.Geometry.{ranged}
use Rattle.law_basic.specs.Segs.{ZonesLow}
use Rattle.law_views.specs.Views.{AllFit, seen}
use Rattle.disk_zones.specs.Made.{Storing}
use Rattle.recover_groups.specs.Groups.{recs_fault}
use Rattle.recover_reset.specs.Lost.{lost_stores}
use Rattle.recover_decode.specs.Moving.{Lacks, lacks_named}
use Rattle.recover_rebuild.specs.Zone.{chunks_fit, chunks_cut, chunks_only, whole_now, room_now, feet_made}
use Rattle.std.specs.Prelude.{Ok}
use Rattle.disk_zones.specs.Made.{too_few, storing_exit}
use Rattle.recover_rebuild.proofs.rebuild_data.Goals as goal

pub put_groups-requires : goal.put_groups-requires
put_groups-requires c =
    let a = c.args in
    let q = c.requires in
    let p = a.p in
    let r = ranged p q.p_value in
    let h = q.gone_value in
    let d = a.drive in
    let k₀ = mk_disk a.image.now a.pointers.now in
    let e = sym h.0 in record {
      p_value = q.p_value;
      whole = q.whole;
      lacks = subst (λ (x : ℕ). Lacks p x d) e (lacks_named p r d h.1);
      zones_low = (subst (λ (x : ℕ). ZonesLow p x a.seg) e h.2, h.4);
      by_index = λ off. q.by_index off ∙ ap (λ (x : ℕ). sealed_in p (seen p off k₀) x a.seg) e;
      by_index_2 = λ off. ap (λ (x : ℕ). recs_fault p x (segment_of p (seen p off k₀) x a.seg)) h.0 ∙ q.by_index_2 off;
      by_index_3 = λ off. subst (λ (x : ℕ). AllFit p (seen p off k₀) (lost_stores p x d (segment_of p (seen p off k₀) x a.seg) (below p.S))) e
          (chunks_fit p r off d a.seg a.count h.1 h.2 h.4 k₀ q.whole (q.by_index_3 off));
    }

pub returns-in_err-left : goal.returns-in_err-left
returns-in_err-left c =
    let a = c.args in
    let q = c.requires in
    let put-groups = c.put_groups in
    let p = a.p in
    let r = ranged p q.p_value in
    let h = q.gone_value in
    let d = a.drive in
    let k₀ = mk_disk a.image.now a.pointers.now in
    let k = mk_disk put-groups.new.image put-groups.new.pointers in
    let s : (off : List ℕ) → Storing p a.count (lost_stores p (named d) d (segment_of p (seen p off k₀) (named d) a.seg) (below p.S)) k₀ too_few k =
    λ off. subst (λ (x : ℕ). Storing p a.count (lost_stores p x d (segment_of p (seen p off k₀) x a.seg) (below p.S)) k₀ too_few k) h.0 (c.in_err-left.ensures off) in
    λ off. storing_exit c.from_residual.result c.from_residual.ensures.0 (chunks_cut p r off d a.seg a.count h.1 h.2 h.4 k₀ q.whole (q.by_index_3 off) k (s off))

pub returns-then-not-full : goal.returns-then-not-full
returns-then-not-full c =
    let a = c.args in
    let q = c.requires in
    let put-groups = c.put_groups in
    let p = a.p in
    let r = ranged p q.p_value in
    let h = q.gone_value in
    let d = a.drive in
    let k₀ = mk_disk a.image.now a.pointers.now in
    let m = c.in_ok-left.left in
    let k = mk_disk put-groups.new.image put-groups.new.pointers in
    let s : (off : List ℕ) → Storing p a.count (lost_stores p (named d) d (segment_of p (seen p off k₀) (named d) a.seg) (below p.S)) k₀ (Ok m) k =
    λ off. subst (λ (x : ℕ). Storing p a.count (lost_stores p x d (segment_of p (seen p off k₀) x a.seg) (below p.S)) k₀ (Ok m) k) h.0 (c.in_ok-left.ensures off) in
    λ off. chunks_only p r off d a.seg a.count h.1 h.2 h.4 k₀ q.whole (q.by_index_3 off) m k (s off)
    (sym (q.by_index off) ∙ not-true a.full c.if-not-full.true-raw)

pub zone_on-zone-requires : goal.zone_on-zone-requires
zone_on-zone-requires c =
    let q = c.requires in record { p_value = q.p_value; drive_lt_n = q.gone_value.1 }

pub footers-n-requires : goal.footers-n-requires
footers-n-requires c =
    let pre = c.requires in
    pre.p_value

pub footer_stores-requires : goal.footer_stores-requires
footer_stores-requires c =
    let a = c.args in
    let q = c.requires in
    let footers' = c.footers-n in
    let zone_on_holds = c.zone_on-zone in
    let if2 = c.if-not-full in
    let put-groups = c.put_groups in
    let p = a.p in
    let r = ranged p q.p_value in
    let h = q.gone_value in
    let d = a.drive in
    let k₀ = mk_disk a.image.now a.pointers.now in
    let m = c.in_ok-left.left in
    let k = mk_disk put-groups.new.image put-groups.new.pointers in
    let s : (off : List ℕ) → Storing p a.count (lost_stores p (named d) d (segment_of p (seen p off k₀) (named d) a.seg) (below p.S)) k₀ (Ok m) k =
    λ off. subst (λ (x : ℕ). Storing p a.count (lost_stores p x d (segment_of p (seen p off k₀) x a.seg) (below p.S)) k₀ (Ok m) k) h.0 (c.in_ok-left.ensures off) in
    let f : (off : List ℕ) → sealed_in p (seen p off k₀) (named d) a.seg ≡ true = λ off. sym (q.by_index off) ∙ not-false a.full if2.false-raw in
    let n = footers'.ensures.0 in
    let z = zone_on_holds.ensures in
    let t = room_now p r [] d a.seg a.count h.1 h.2 h.4 k₀ q.whole (q.by_index_3 []) m k (s []) (f []) (q.by_index_2 []) q.p_value h.3 in record {
      p_value = q.p_value;
      whole = whole_now p r [] d a.seg a.count h.1 h.2 h.4 k₀ q.whole (q.by_index_3 []) m k (s []) (f []) (q.by_index_2 []) q.p_value h.3;
      drive_lt_n = (
        h.1,
        subst (λ (x : ℕ). x < p.Z) (sym z) h.4,
        omega (arith, n),
        subst (λ (x : ℕ). pointer_of p k.pointers d x + footers'.result ≤ capacity p) (sym z) (omega (arith, t, n)),
      );
    }

pub returns : goal.returns
returns c =
    let a = c.args in
    let q = c.requires in
    let footer-stores = c.footer_stores in
    let footers' = c.footers-n in
    let zone_on_holds = c.zone_on-zone in
    let if2 = c.if-not-full in
    let put-groups = c.put_groups in
    let p = a.p in
    let r = ranged p q.p_value in
    let h = q.gone_value in
    let d = a.drive in
    let k₀ = mk_disk a.image.now a.pointers.now in
    let m = c.in_ok-left.left in
    let k = mk_disk put-groups.new.image put-groups.new.pointers in
    let s : (off : List ℕ) → Storing p a.count (lost_stores p (named d) d (segment_of p (seen p off k₀) (named d) a.seg) (below p.S)) k₀ (Ok m) k =
    λ off. subst (λ (x : ℕ). Storing p a.count (lost_stores p x d (segment_of p (seen p off k₀) x a.seg) (below p.S)) k₀ (Ok m) k) h.0 (c.in_ok-left.ensures off) in
    let f : (off : List ℕ) → sealed_in p (seen p off k₀) (named d) a.seg ≡ true = λ off. sym (q.by_index off) ∙ not-false a.full if2.false-raw in
    let k' = mk_disk footer-stores.new.image footer-stores.new.pointers in
    let m' = footer-stores.result in
    λ off. feet_made p r off d a.seg a.count h.1 h.2 h.4 k₀ q.whole (q.by_index_3 off) m k (s off) (f off) (q.by_index_2 off) q.p_value h.3 m' k'
    (subst (λ (x : ℕ). Storing p m (footer_stores p d x (zone_at (seen p off k) d x) 0 (footers p)) k m' k') zone_on_holds.ensures
    (subst (λ (x : ℕ). Storing p m (footer_stores p d zone_on_holds.result (zone_at (seen p off k) d zone_on_holds.result) 0 x) k
    m' k') footers'.ensures.0 (footer-stores.ensures off)))
