-- Restart, 4: the resets of dropped segments are the machine's. Assumes nothing.
use Rattle.std.specs.Prelude.{◌≡◌, refl, ℕ, ◌<◌, length}
use Rattle.std.proofs.Common.{sym, subst, inl, inr}
use mathlib.Core.List.{List, [], ◌∷◌, map}
use Rattle.spec.specs.declared.Params.{Params}
use Rattle.spec.specs.declared.Seg.{Seg}
use Rattle.spec.specs.Drives.{View, store_view_of, zone_on, reset_stores}
use Rattle.spec.specs.Drives.Store.{reset}
use Rattle.spec.specs.Lists.{flat, is_in}
use Rattle.spec.specs.Params.{drives_of}
use Rattle.spec.specs.Restart.{drop_stores, dropped_serials}
use Rattle.spec.specs.Segments.{Segment, segments, bearing}
use Rattle.law_basic.specs.Geometry.{Ranged}
use Rattle.proof_crash_machine.specs.Drop.{DropOf}
use Rattle.proof_crash_machine.specs.Facts.{Ghost, Heads, None, Used}
use Rattle.proof_crash_machine.specs.History.{Dropping}
use Rattle.proof_crash_machine.specs.Rest.{InS, Dropped}
use Rattle.proof_crash_machine.specs.View.{ItemView, ItemStore, AllS}
use Rattle.proof_crash_machine.specs.View.ItemStore.{reset as m-reset}
use Rattle.proof_crash_items.specs.Found.{bearing_has, bearing-one, has_serials, dropped_has, has_dropped}
use Rattle.proof_crash_items.specs.Member.{Has, below_has, has_below, flat_has, has_flat, map_has}
use Rattle.proof_crash_items.specs.Named.{zero_choice, none_out}
use Rattle.proof_crash_items.specs.Places.{store_seg}
use Rattle.proof_crash_items.specs.Ranges.{par_of}
use Rattle.proof_crash_items.specs.Segs.{OnDrives}
use Rattle.proof_crash_items.specs.Sound.{Follows, follows-cons, follows_nil, store_reset}
use Rattle.proof_crash_restarts.specs.Order.{all-S, in_S, follows_flat}
use Rattle.proof_crash_restarts.specs.Same.{R_none_any}

-- the same resets, by drive and serial
unfoldable pub drop_items : Params → View → List Segment → List ItemStore
drop_items p v gs = flat (λ n. flat (λ d. map (λ z. m-reset d n) (bearing p v d n)) (drives_of p)) (dropped_serials p v gs)

-- resets of zones of segment n on drive d follow, whatever the drives hold
resets_follow : (p : Params) (h : Heads) (d n : ℕ) → d < p.N → (l : List ℕ) → ((z : ℕ) → Has z l → (z < p.Z) × (z ≡ h.zn n d)) → (v : View)
    → Follows p h v (map (reset d) l) (map (λ z. m-reset d n) l)
resets_follow p h d n b [] k v = follows_nil p h v
resets_follow p h d n b (z ∷ l) k v =
    follows-cons p h v (reset d z) (map (reset d) l) (m-reset d n) (map (λ z. m-reset d n) l) (b, (k z (inl refl)).0) (store_reset p h v d n z (k z (inl refl)).1)
    (resets_follow p h d n b l (λ y i. k y (inr i)) (store_view_of (reset d z) v))

-- resets of a segment's zones, one on each drive of a list
pub reset_all : (p : Params) (h : Heads) (z : Seg) (n : ℕ) → (l : List ℕ) → ((d : ℕ) → Has d l → (d < p.N) × (zone_on z d < p.Z) × (zone_on z d ≡ h.zn n d)) → (v : View)
    → Follows p h v (map (λ d. reset d (zone_on z d)) l) (map (λ d. m-reset d n) l)
reset_all p h z n [] k v = follows_nil p h v
reset_all p h z n (d ∷ l) k v =
    let a = k d (inl refl) in
    follows-cons p h v (reset d (zone_on z d)) (map (λ d. reset d (zone_on z d)) l) (m-reset d n) (map (λ d. m-reset d n) l) (a.0, a.1) (store_reset p h v d n (zone_on z d) a.2)
    (reset_all p h z n l (λ e i. k e (inr i)) (store_view_of (reset d (zone_on z d)) v))

pub reset_follows : (p : Params) (h : Heads) (z : Seg) (n : ℕ) → ((d : ℕ) → d < p.N → (zone_on z d < p.Z) × (zone_on z d ≡ h.zn n d)) → (v : View)
    → Follows p h v (reset_stores p z) (map (λ d. m-reset d n) (drives_of p))
unfolding reset_stores
reset_follows p h z n k v = reset_all p h z n (drives_of p) (λ d i. let l : d < p.N = (unfold drives_of in below_has d p.N i) in (l, (k d l).0, (k d l).1)) v

module _ (p : Params) (r : Ranged p) (off : List ℕ) (g : Ghost) (v : View) (u : ItemView) (k : OnDrives p r off g v u) (none : None (par_of p r off) g.un) where
  drives_low : (d : ℕ) → Has d (drives_of p) → d < p.N
  unfolding drives_of
  drives_low d i = below_has d p.N i

  -- they follow on any drives
  pub drops_follow : (gs : List Segment) (w : View) → Follows p g.hd w (drop_stores p v gs) (drop_items p v gs)
  unfolding drop_stores drop_items
  drops_follow gs w =
      follows_flat p g.hd (λ n. flat (λ d. map (reset d) (bearing p v d n)) (drives_of p)) (λ n. flat (λ d. map (λ z. m-reset d n) (bearing p v d n)) (drives_of p)) (dropped_serials p v gs)
      (λ x n i. follows_flat p g.hd (λ d. map (reset d) (bearing p v d n)) (λ d. map (λ z. m-reset d n) (bearing p v d n)) (drives_of p)
      (λ y d j. let l : d < p.N = drives_low d j in
      resets_follow p g.hd d n l (bearing p v d n) (λ z a. let b = bearing_has p r off g v u k d n z l (none d l) a in (b.0, b.1)) y) x) w

  far : None (par_of p r off) (is_in 0)
  far = none_out p r off

  item_of : (gs : List Segment) (s : ItemStore) → Has s (drop_items p v gs) → (d : ℕ) × (n : ℕ) × (d < p.N) × Has n (dropped_serials p v gs) × (0 < length (u d n)) × (s ≡ m-reset d n)
  unfolding drop_items
  item_of gs s i =
      let (n, a, b) = flat_has (λ n. flat (λ d. map (λ z. m-reset d n) (bearing p v d n)) (drives_of p)) s (dropped_serials p v gs) i in
      let (d, c, e) = flat_has (λ d. map (λ z. m-reset d n) (bearing p v d n)) s (drives_of p) b in
      let (z, f, h) = map_has (λ z. m-reset d n) s (bearing p v d n) e in
      let l : d < p.N = drives_low d c in
      (d, n, l, a, (bearing_has p r off g v u k d n z l (none d l) f).2, h)

  -- the segments that they reset are in use
  pub drops_used : (gs : List Segment) → AllS (λ (s : ItemStore). Used (par_of p r off) g.un u (store_seg s)) (drop_items p v gs)
  drops_used gs = all-S (λ (s : ItemStore). Used (par_of p r off) g.un u (store_seg s)) (drop_items p v gs) (λ s i. one s (item_of gs s i))
    where
      one : (s : ItemStore) → (d : ℕ) × (n : ℕ) × (d < p.N) × Has n (dropped_serials p v gs) × (0 < length (u d n)) × (s ≡ m-reset d n) → Used (par_of p r off) g.un u (store_seg s)
      one s (d, n, l, a, b, e) = rw e (unfold store_seg in (d, (l, none d l), b))

  -- ---- the machine's Dropping
  pub dropping : Dropping (par_of p r off) g u none (drop_items p v (segments p v 0))
  dropping = record { are = are; every = every }
    where
      gs : List Segment
      gs = segments p v 0

      ms : List ItemStore
      ms = drop_items p v (segments p v 0)

      are : AllS (DropOf (par_of p r off) g none (Dropped (par_of p r off) g u)) (drop_items p v (segments p v 0))
      are = all-S (DropOf (par_of p r off) g none (Dropped (par_of p r off) g u)) (drop_items p v (segments p v 0)) (λ s i.
          let (d, n, l, a, b, e) = item_of (segments p v 0) s i in
          (d, n, l, (λ q. (dropped_has p r off g v u k 0 (zero_choice p r off g.un none) n a).1 (R_none_any (par_of p r off) g.hd u g.un (is_in 0) none far n q)), e))

      every : (n : ℕ) → Dropped (par_of p r off) g u n → (d : ℕ) → d < p.N → 0 < length (u d n) → InS (m-reset d n) (drop_items p v (segments p v 0))
      every n q d l b = in_S (m-reset d n) (drop_items p v (segments p v 0)) (unfold drop_items in
          has_flat (λ n. flat (λ d. map (λ z. m-reset d n) (bearing p v d n)) (drives_of p)) (m-reset d n) (dropped_serials p v (segments p v 0)) n
          (has_dropped p r off g v u k 0 (zero_choice p r off g.un none) n (has_serials p r off g v u k none d n l b) (λ h. q (R_none_any (par_of p r off) g.hd u (is_in 0) g.un far none n h)))
          (has_flat (λ d. map (λ z. m-reset d n) (bearing p v d n)) (m-reset d n) (drives_of p) d (unfold drives_of in has_below d p.N l)
          (subst (λ (x : List ℕ). Has (m-reset d n) (map (λ z. m-reset d n) x)) (sym (bearing-one p r off g v u k d n l (none d l) b)) (inl refl))))
