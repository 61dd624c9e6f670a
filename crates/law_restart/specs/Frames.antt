-- Stores one list after the other: what fits, and what a zone keeps that no store hits (01, The array; Store count). Assumes nothing.
use Rattle.std.specs.Prelude.{ℕ, ◌<◌, List, [], ◌∷◌, ◌++◌, ◌≡◌}
use Rattle.spec.specs.Drives.{Zone, View, zone_at, Store, store_view_of, Disk, store_disk, store_all}
use Rattle.spec.specs.declared.Params.{Params}
use Rattle.law_basic.specs.Geometry.{Ranged}
use Rattle.law_drives.specs.Image.{sized_of}
use Rattle.law_drives.specs.Range.{capacity_word}
use Rattle.law_drives.specs.Zones.{zone_store, hits, zone_after}
use Rattle.law_views.specs.Views.{Whole, AllFit, seen, view_stores, whole_stores}
use Rattle.std.proofs.Math.Path.{refl}
use Rattle.std.proofs.Common.{sym, ap, ◌∙◌, subst}

-- stores that fit, in two parts
pub fits_split : (p : Params) (v : View) (ss ts : List Store) → AllFit p v (ss ++ ts) → AllFit p v ss × AllFit p (store_all store_view_of ss v) ts
unfolding store_all
fits_split p v [] ts f = (tt, f)
fits_split p v (s ∷ ss) ts (h, f) = let (a, b) = fits_split p (store_view_of s v) ss ts f in ((h, a), b)

module _ (p : Params) (r : Ranged p) (off : List ℕ) (k k' : Disk) (ss : List Store) (w : Whole p k) (f : AllFit p (seen p off k) ss) (e : k' ≡ store_all (store_disk p) ss k) where
  -- the view behind stores that fit
  pub seen-after : seen p off k' ≡ store_all store_view_of ss (seen p off k)
  seen-after = ap (seen p off) e ∙ view_stores p off k ss (capacity_word p r) w f

  -- and lengths stay
  pub whole_after : Whole p k'
  whole_after = subst (λ (x : Disk). Whole p x) (sym e) (whole_stores p off k ss (capacity_word p r) w f)

  -- a zone that none of them hits
  pub zone_kept : (d z : ℕ) → d < p.N → z < p.Z → hits d z ss ≡ [] → zone_at (seen p off k') d z ≡ zone_at (seen p off k) d z
  zone_kept d z hd hz q =
      ap (λ (v : View). zone_at v d z) seen-after ∙ zone_after p (seen p off k) d z ss (sized_of p off k w) hd hz
      ∙ ap (λ (l : List Store). store_all zone_store l (zone_at (seen p off k) d z)) q ∙ nothing (zone_at (seen p off k) d z)
    where
      nothing : (q : Zone) → store_all zone_store [] q ≡ q
      nothing q = unfold store_all in refl
