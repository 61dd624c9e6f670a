-- The zones of a view and its list of offline ones, apart: stores keep the list, and most looks are at the zones alone (02, item 4). Assumes nothing.
use Rattle.std.specs.Prelude.{◌≡◌, refl, Bool, ℕ}
use Rattle.std.proofs.Common.{sym, ◌∙◌}
use Rattle.std.proofs.Math.Path.{ap, ap₂}
use mathlib.Core.List.{List, [], ◌∷◌}
use Rattle.std.proofs.Math.Dec.{eqb}
use Rattle.std.proofs.Math.ListN.{get_or, set}
use Rattle.spec.specs.declared.Params.{Params}
use Rattle.spec.specs.declared.Seg.{Seg}
use Rattle.spec.specs.Drives.{Zone, no_zone, View, zone_at, pointer_at, zones_of, view_of, Store, put_zone, reset_zone, set_zone, store_view_of, store_all}
use Rattle.spec.specs.Drives.{Disk, zone_on, sealed_in, record_in, record_at}
use Rattle.spec.specs.Drives.Store.{put, reset}
use Rattle.spec.specs.Params.{capacity, present}
use Rattle.law_basic.specs.Ranges.{all_same}
use Rattle.law_views.specs.Views.{seen}

-- ---- the list

pub seen_offline : (p : Params) (off : List ℕ) (k : Disk) → (seen p off k).offline ≡ off
unfolding view_of
seen_offline p off k = refl

-- a store keeps it
pub offline_kept : (s : Store) (v : View) → (store_view_of s v).offline ≡ v.offline
unfolding store_view_of set_zone
offline_kept (put d z b t) v = refl
offline_kept (reset d z) v = refl

pub offline_after : (ss : List Store) (v : View) → (store_all store_view_of ss v).offline ≡ v.offline
unfolding store_all
offline_after [] v = refl
offline_after (s ∷ ss) v = offline_after ss (store_view_of s v) ∙ offline_kept s v

-- ---- the zones

pub seen_zones : (p : Params) (off : List ℕ) (k : Disk) → (seen p off k).zones ≡ zones_of p k.image k.pointers
unfolding view_of
seen_zones p off k = refl

-- whatever the lists are
pub seen_alike : (p : Params) (off list : List ℕ) (k : Disk) → (seen p off k).zones ≡ (seen p list k).zones
seen_alike p off list k = seen_zones p off k ∙ sym (seen_zones p list k)

-- two views with the same zones
module _ (v u : View) (e : v.zones ≡ u.zones) where
  pub zone_alike : (d z : ℕ) → zone_at v d z ≡ zone_at u d z
  unfolding zone_at
  zone_alike d z = ap (λ (l : List (List Zone)). get_or (get_or l d []) z no_zone) e

  pub pointer_alike : (d z : ℕ) → pointer_at v d z ≡ pointer_at u d z
  unfolding pointer_at
  pointer_alike d z = ap (λ (q : Zone). q.pointer) (zone_alike d z)

  pub sealed_alike : (p : Params) (gone : ℕ) (g : Seg) → sealed_in p v gone g ≡ sealed_in p u gone g
  unfolding sealed_in
  sealed_alike p gone g =
      all_same (λ d. eqb (pointer_at v d (zone_on g d)) (capacity p)) (λ d. eqb (pointer_at u d (zone_on g d)) (capacity p)) (present p gone)
      (λ d. ap (λ (n : ℕ). eqb n (capacity p)) (pointer_alike d (zone_on g d)))

  pub record_alike : (p : Params) (gone d : ℕ) (g : Seg) (o : ℕ) → record_at p v gone d g o ≡ record_at p u gone d g o
  unfolding record_at
  record_alike p gone d g o = ap₂ (λ (w : Bool) (q : Zone). record_in p w q o) (sealed_alike p gone g) (zone_alike d (zone_on g d))

  zone_set_alike : (d z : ℕ) (q r : Zone) → q ≡ r → (set_zone v d z q).zones ≡ (set_zone u d z r).zones
  unfolding set_zone
  zone_set_alike d z q r f = ap₂ (λ (l : List (List Zone)) (x : Zone). set l d (set (get_or l d []) z x)) e f

  pub store_alike : (s : Store) → (store_view_of s v).zones ≡ (store_view_of s u).zones
  unfolding store_view_of
  store_alike (put d z b t) = zone_set_alike d z (put_zone b t (zone_at v d z)) (put_zone b t (zone_at u d z)) (ap (put_zone b t) (zone_alike d z))
  store_alike (reset d z) = zone_set_alike d z (reset_zone (zone_at v d z)) (reset_zone (zone_at u d z)) (ap reset_zone (zone_alike d z))
