-- What does not depend on the list of offline zones: what fits, and a segment as read (02, item 4). Assumes nothing.
use Rattle.std.specs.Prelude.{◌≡◌, List, [], ◌∷◌, ℕ, ◌<◌}
use Rattle.std.proofs.Common.{ap, subst}
use Rattle.spec.specs.declared.Params.{Params}
use Rattle.spec.specs.declared.Seg.{Seg}
use Rattle.spec.specs.Drives.{Zone, View, mk_view, zone_at, pointer_at, chunk_at, Store, store_view_of, sealed_in}
use Rattle.spec.specs.Drives.Store.{put, reset}
use Rattle.spec.specs.Params.{capacity}
use Rattle.spec.specs.Segments.{header_at, segment_of}
use Rattle.law_views.specs.Alike.{pointer_alike, store_alike}
use Rattle.law_views.specs.Views.{Fits, AllFit}

fit_alike : (p : Params) (s : Store) (v u : View) → v.zones ≡ u.zones → Fits p v s → Fits p u s
fit_alike p (put d z b t) v u e (a, c, h, f, g) = (a, c, subst (λ (n : ℕ). n < capacity p) (pointer_alike v u e d z) h, f, g)
fit_alike p (reset d z) v u e f = f

-- stores fit by the zones alone
pub fits_alike : (p : Params) (ss : List Store) (v u : View) → v.zones ≡ u.zones → AllFit p v ss → AllFit p u ss
fits_alike p [] v u e f = tt
fits_alike p (s ∷ ss) v u e (h, f) = (fit_alike p s v u e h, fits_alike p ss (store_view_of s v) (store_view_of s u) (store_alike v u e s) f)

-- and so is a segment read
pub segment_alike : (p : Params) (v u : View) (gone : ℕ) (g : Seg) → v.zones ≡ u.zones → segment_of p v gone g ≡ segment_of p u gone g
unfolding segment_of header_at chunk_at zone_at sealed_in pointer_at
segment_alike p v u gone g e = ap (λ (zs : List (List Zone)). segment_of p (mk_view zs []) gone g) e
