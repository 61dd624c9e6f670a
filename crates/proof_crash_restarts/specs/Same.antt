-- A segment as read depends on its own zones alone; with none missing it doesn't matter which number says so. Assumes nothing.
use Rattle.std.specs.Prelude.{◌≡◌, ℕ, ◌≤◌, ◌<◌, get_or}
use Rattle.std.proofs.Math.Path.{ap}
use mathlib.Core.List.{[], map}
use Rattle.std.proofs.Math.Bool.{cond, not}
use Rattle.std.proofs.Common.{inl, inr, ⊎_elim, arith}
use Rattle.std.proofs.Math.Dec.{eqb}
use Rattle.spec.specs.declared.Params.{Params}
use Rattle.spec.specs.Drives.{no_chunk, Zone, no_zone, View, zone_at, pointer_at, chunk_at, zone_on, sealed_in, seg}
use Rattle.spec.specs.Layout.{header_serial, header_copied, header_zones}
use Rattle.spec.specs.Lists.Opt.{some}
use Rattle.spec.specs.Lists.{below, is_in}
use Rattle.spec.specs.Params.{capacity, drives_of, present}
use Rattle.spec.specs.Segments.{low_drive, header_at, records_in, segment_of}
use Rattle.law_basic.specs.Geometry.{Ranged}
use Rattle.law_basic.specs.Ranges.{map-below_same, all-keep_same}
use Rattle.proof_crash_machine.specs.Facts.{Par, Heads, R, Stripe, Counted, None, Choice, Stripe-more, Counted_mask, R_mask, none_few}
use Rattle.proof_crash_machine.specs.Finish.{Reads}
use Rattle.proof_crash_machine.specs.Val.{Val}
use Rattle.proof_crash_machine.specs.View.{ItemView}
use Rattle.proof_crash_machine.specs.Mask.{Mask, tf, count}
use Rattle.proof_crash_items.specs.Named.{low_drive_holds}
use Rattle.proof_crash_items.specs.Ranges.{parities}
use Rattle.spec.specs.declared.Seg.{Seg}

module _ (p : Params) (r : Ranged p) (v u : View) (m : ℕ) (z : Seg) (few : count p.N (is_in m) ≤ parities p)
    (same : (d : ℕ) → d < p.N → zone_at u d (zone_on z d) ≡ zone_at v d (zone_on z d)) where
  pub pointer_same : (d : ℕ) → d < p.N → pointer_at u d (zone_on z d) ≡ pointer_at v d (zone_on z d)
  unfolding pointer_at
  pointer_same d l = ap (λ (q : Zone). q.pointer) (same d l)

  pub sealed_same : sealed_in p u m z ≡ sealed_in p v m z
  unfolding sealed_in present drives_of below
  sealed_same = all-keep_same (λ d. not (is_in m d)) (λ d. eqb (pointer_at u d (zone_on z d)) (capacity p)) (λ d. eqb (pointer_at v d (zone_on z d)) (capacity p)) 0 p.N
      (λ d a l. ap (λ (x : ℕ). eqb x (capacity p)) (pointer_same d (omega arith)))

  pub header_same : header_at u (low_drive p m) z ≡ header_at v (low_drive p m) z
  unfolding header_at chunk_at
  header_same = ap (λ (q : Zone). (get_or q.blocks 0 no_chunk).block) (same (low_drive p m) (low_drive_holds p m r few).0)

  zones_same : map (λ d. zone_at u d (zone_on z d)) (below p.N) ≡ map (λ d. zone_at v d (zone_on z d)) (below p.N)
  zones_same = map-below_same (λ d. zone_at u d (zone_on z d)) (λ d. zone_at v d (zone_on z d)) p.N same

  pub segment_same : segment_of p u m z ≡ segment_of p v m z
  unfolding segment_of drives_of
  segment_same = λ j. record {
    seg = z;
    names = header_zones p (header_same j);
    serial = header_serial p (header_same j);
    copied = header_copied p (header_same j);
    full = sealed_same j;
    zones_by_holds = zones_same j;
    recs = map (λ d. cond (is_in m d) [] (records_in p (sealed_same j) (get_or (zones_same j) d no_zone))) (below p.N);
  }

-- ---- none missing, whatever the mask

module _ (P : Par) (h : Heads) (v : ItemView) (a b : Mask) (na : None P a) (nb : None P b) where
  choice_any : Choice P a b
  choice_any = (none_few P b nb, λ d l e. tf e (na d l))

  pub Stripe_none_any : (z s : ℕ) (f : ℕ → Val) → Stripe P v a z s f → Stripe P v b z s f
  Stripe_none_any z s f st = Stripe-more P v a b z s f choice_any st

pub R_none_any : (P : Par) (h : Heads) (v : ItemView) (a b : Mask) → None P a → None P b → (z : ℕ) → R P h v a z → R P h v b z
R_none_any P h v a b na nb z r = R_mask P h v a b z (choice_any P h v a b na nb) (choice_any P h v b a nb na) r

pub Counted_none_any : (P : Par) (h : Heads) (v : ItemView) (a b : Mask) → None P a → None P b → (x : Val) → Counted P h v a x → Counted P h v b x
Counted_none_any P h v a b na nb x c = Counted_mask P h v a b x (choice_any P h v a b na nb) (choice_any P h v b a nb na) c

pub Reads_none_any : (P : Par) (h : Heads) (v : ItemView) (a b : Mask) → None P a → None P b → (K : ℕ → ℕ) → Reads P h v a K → Reads P h v b K
Reads_none_any P h v a b na nb K r = record {
  most = λ x c. r.most x (Counted_none_any P h v b a nb na x c);
  some =
      λ i. ⊎_elim (λ e. inl e) (λ (q : (x : Val) × Counted P h v a x × (x.addr ≡ i) × (x.stamp ≡ K i)). inr (q.0, Counted_none_any P h v a b na nb q.0 q.1, q.2, q.3))
      (r.some i);
}
