-- A block put into a zone that is not empty leaves what remains (02, item 4): pointers that are 0 or not, and the headers, stay. Assumes nothing.
use Rattle.std.specs.Prelude.{◌≡◌, true, false, ◌&&◌, ℕ, ◌≤◌, ◌<◌, length, get_or}
use Rattle.std.proofs.Common.{sym, ◌∙◌, get_or-set_other}
use Rattle.std.proofs.Math.Path.{ap, ap₂, subst}
use mathlib.Core.List.{List}
use borrow.Author.Tests.{eqb-true}
use native.Mathlib.Omega.{arith}
use Rattle.std.proofs.Math.Dec.{eqb, ltb}
use Rattle.spec.specs.declared.Params.{Params}
use Rattle.spec.specs.declared.Seg.{Seg}
use Rattle.spec.specs.Drives.{mk_chunk, no_chunk, Zone, View, zone_at, pointer_at, chunk_at, put_zone, store_view_of, zone_on, is_good}
use Rattle.spec.specs.Drives.Store.{put}
use Rattle.spec.specs.Lists.{keep}
use Rattle.spec.specs.Params.{place_zone, place_drive}
use Rattle.spec.specs.Segments.{is_used, holders, is_place}
use Rattle.law_basic.specs.Geometry.{Ranged}
use Rattle.law_basic.specs.Ranges.{Test, test, and_left, and_right}
use Rattle.law_basic.specs.Ranges.Test.{yes!, no! }
use Rattle.law_views.specs.Alike.{offline_kept}
use Rattle.law_drives.specs.Gather.{SameHeads, gather_same_remaining}
use Rattle.law_drives.specs.Growing.{used_zone, used_both, head_zone}
use Rattle.law_drives.specs.Settled.{zero_here}
use Rattle.law_drives.specs.Tests.{cond_true, cond_false}
use Rattle.law_drives.specs.Zones.{Sized, hits_at_of, zone_store, zone_stored}

module _ (p : Params) (v : View) (d z : ℕ) (b s : List ℕ) (sized : Sized p v) (some : 1 ≤ pointer_at v d z) where
  abbrev u : View
  u = store_view_of (put d z b s) v

  -- any other zone
  kept-other : (e y : ℕ) → e < p.N → y < p.Z → hits_at_of e y (put d z b s) ≡ false → zone_at (store_view_of (put d z b s) v) e y ≡ zone_at v e y
  kept-other e y he hy q =
      zone_stored p v e y (put d z b s) sized he hy ∙ cond_false (hits_at_of e y (put d z b s)) (zone_store (put d z b s) (zone_at v e y)) (zone_at v e y) q

  -- the zone itself
  kept_hit : (e y : ℕ) → e < p.N → y < p.Z → hits_at_of e y (put d z b s) ≡ true → zone_at (store_view_of (put d z b s) v) e y ≡ put_zone b s (zone_at v e y)
  unfolding zone_store
  kept_hit e y he hy q =
      zone_stored p v e y (put d z b s) sized he hy ∙ cond_true (hits_at_of e y (put d z b s)) (put_zone b s (zone_at v e y)) (zone_at v e y) q

  hit_some : (e y : ℕ) → hits_at_of e y (put d z b s) ≡ true → 1 ≤ pointer_at v e y
  unfolding hits_at_of
  hit_some e y q =
      let a : d ≡ e = eqb-true d e (and_left (eqb d e) (eqb z y) q) in
      let c : z ≡ y = eqb-true z y (and_right (eqb d e) (eqb z y) q) in
      subst (λ (x : ℕ). 1 ≤ x) (ap₂ (pointer_at v) a c) some

  put_used : (e y : ℕ) → e < p.N → y < p.Z → is_used p v e y ≡ is_used p (store_view_of (put d z b s) v) e y
  unfolding pointer_at put_zone
  put_used e y he hy = go (test (hits_at_of e y (put d z b s)))
    where
      go : Test (hits_at_of e y (put d z b s)) → is_used p v e y ≡ is_used p u e y
      go (no! q) = used_zone p v u e y (offline_kept (put d z b s) v) (kept-other e y he hy q)
      go (yes! q) = used_both p v u e y (offline_kept (put d z b s) v) (hit_some e y q)
          (subst (λ (x : Zone). 1 ≤ x.pointer) (sym (kept_hit e y he hy q)) (omega arith))

  kept-put_head : (e y : ℕ) → e < p.N → y < p.Z → (chunk_at v e y 0).block ≡ (chunk_at (store_view_of (put d z b s) v) e y 0).block
  unfolding chunk_at put_zone pointer_at
  kept-put_head e y he hy = go (test (hits_at_of e y (put d z b s)))
    where
      go : Test (hits_at_of e y (put d z b s)) → (get_or (zone_at v e y).blocks 0 no_chunk).block ≡ (get_or (zone_at u e y).blocks 0 no_chunk).block
      go (no! q) = head_zone v u e y (kept-other e y he hy q)
      go (yes! q) =
          let x = zone_at v e y in
          let l = hit_some e y q in
          ap (λ c. c.block) (sym (get_or-set_other x.blocks x.pointer 0 (mk_chunk b s) no_chunk (λ i. let w : ⊥ = omega arith in w)))
          ∙ ap (λ (y : Zone). (get_or y.blocks 0 no_chunk).block) (sym (kept_hit e y he hy q))

  pub put_heads : (gone : ℕ) → SameHeads p gone v (store_view_of (put d z b s) v)
  put_heads gone = record {
    same_used = λ e y he _ hy. put_used e y he hy;
    same_head = λ e y he _ hy _. kept-put_head e y he hy;
  }

  -- so places stay places
  pub put_place : Ranged p → (q : ℕ) → is_place p v 0 q ≡ is_place p (store_view_of (put d z b s) v) 0 q
  unfolding is_place holders
  put_place r q =
      ap₂ (λ (o : List ℕ) (l : List Seg).
      ltb (place_drive p q) p.N && is_good p o (place_drive p q) (place_zone p q) && eqb (length (keep (λ g. eqb (zone_on g (place_drive p q)) (place_zone p q)) l)) 1)
      (sym (offline_kept (put d z b s) v)) (gather_same_remaining p 0 v u (put_heads 0) (zero_here p r))
