-- What the tie of drives and machine keeps: stores in the segments, a segment that is named, drives that are given up; and where a new segment goes. Assumes nothing.
use Rattle.std.specs.Prelude.{◌≡◌, refl, true, false, ◌⊎◌, ◌≢◌, length, get_or, take}
use Rattle.std.proofs.Common.{sym, ◌∙◌, inl, eqb-true, eq-eqb}
use Rattle.std.proofs.Math.Path.{ap, subst}
use mathlib.Core.List.{List, [], ◌∷◌}
use Rattle.std.proofs.Math.Bool.{not}
use Rattle.std.proofs.Math.Logic.{inr}
use Prim.Native.Nat.{ℕ, zero, suc, ◌+◌, ◌^◌, ◌≤◌, ◌<◌}
use native.Mathlib.Omega.{arith}
use Rattle.std.proofs.Math.Dec.{eqb}
use Rattle.spec.specs.declared.Params.{Params}
use Rattle.spec.specs.declared.Seg.{Seg}
use Rattle.spec.specs.Drives.{View, Zone, zone_at, pointer_at, Store, put_zone, store_view_of, store_all, is_good, good_zones, few_good, empty_zones, empty_count}
use Rattle.spec.specs.Drives.{new_seg, zone_on, zones_in, header_stores, zero_spare}
use Rattle.spec.specs.Drives.Store.{put}
use Rattle.spec.specs.Layout.{header_block}
use Rattle.spec.specs.Lists.{any, below, keep, first_or, is_in, is_nil}
use Rattle.spec.specs.Params.{drives_of}
use Rattle.law_basic.specs.Geometry.{Ranged}
use Rattle.law_basic.specs.Segs.{with_zone, zones_in_lem, zones_in_long}
use Rattle.law_drives.specs.Headers.{Vacant, empty_some, new_vacant}
use Rattle.law_views.specs.Views.{Fits}
use Rattle.proof_crash_machine.specs.Facts.{Par, Heads, Ghost, Tr, Choice, None, Used, WholeZone, Facts, trust, InV, R}
use Rattle.proof_crash_machine.specs.Exec.{not_2}
use Rattle.proof_crash_machine.specs.Val.{Val}
use Rattle.proof_crash_machine.specs.Mask.{Mask}
use Rattle.proof_crash_machine.specs.Name.{set_n, set_n_same, set_n-other}
use Rattle.proof_crash_machine.specs.Steps.{list}
use Rattle.proof_crash_machine.specs.View.{Item, ItemView, ItemStore, apply_all, AllS}
use Rattle.proof_crash_machine.specs.View.Item.{hdr}
use Rattle.proof_crash_machine.specs.View.ItemStore.{put as m-put}
use Rattle.proof_crash_items.specs.Items.{items_of, items_in, store_item, take_stores}
use Rattle.proof_crash_items.specs.Member.{Has, keep_has, below_has, any_false_in, first_or_has, has_any, has_below, has_map}
use Rattle.proof_crash_items.specs.Places.{PlacesPlaced, PlacesLies, lies_placed, lies_used, lies_new, lies_stores, place_store, store_seg, take_places, placed-named, placed_less}
use Rattle.proof_crash_items.specs.Ranges.{par_of, fine_of}
use Rattle.proof_crash_items.specs.Refuse.{Rising, rising-keep, rising-below, free_seg_holds}
use Rattle.proof_crash_items.specs.Segs.{OnDrives, On, is_on, good_fine, zone_len_holds, has_remaining, named_zone, named_seg}
use Rattle.proof_crash_items.specs.Shape.{Shape, shape_store, shape_stores, zone_set_else}
use Rattle.proof_crash_items.specs.Sound.{BytesOk, Sound, sound_fits, sounds_fit, sound_take, bytes_stores, Follows, follows_all, follows_list, store_put}
use Rattle.proof_crash_items.specs.ZoneBytes.{ZoneBytes, Kind, kind_item}
use Rattle.proof_crash_items.specs.ZoneBytes.Kind.{header}
use Rattle.proof_crash_machine.specs.Memory.{Ok}
use Rattle.law_drives.specs.Segs.{seg_is}
use Rattle.spec.specs.Restart.{free_seg, free_zones, none_free_of}
use Rattle.spec.specs.Segments.{Segment, segment_of, remaining, segments}
use Rattle.law_views.specs.Alike.{offline_after}

-- ---- the tie without the machine's facts: what calls carry beside the machine's invariant

pub record Tie (p : Params) (r : Ranged p) (off : List ℕ) (n : Mask) (h : Heads) (v : View) (u : ItemView) : Type 0 where
  pub shape : Shape p v
  pub offline : v.offline ≡ off
  pub enough : few_good p off ≡ false
  pub bytes : BytesOk p n v
  pub placed : PlacesPlaced (par_of p r off) n h (items_in p v) u

pub on_tie : (p : Params) (r : Ranged p) (off : List ℕ) (g : Ghost) (v : View) (u : ItemView) → OnDrives p r off g v u → Tie p r off g.un g.hd v u
on_tie p r off g v u k = record { shape = k.shape; offline = k.offline; enough = k.enough; bytes = k.bytes; placed = k.placed }

pub tie_on : (p : Params) (r : Ranged p) (off : List ℕ) (g : Ghost) (v : View) (u : ItemView) → Tie p r off g.un g.hd v u → Facts (par_of p r off) g u → OnDrives p r off g v u
tie_on p r off g v u t f = record { shape = t.shape; offline = t.offline; enough = t.enough; bytes = t.bytes; placed = t.placed; facts = f }

-- ---- lists of stores

pub follows_take : (p : Params) (h : Heads) (v : View) (ss : List Store) (ms : List ItemStore) (n : ℕ) → Follows p h v ss ms → Follows p h v (take n ss) (take n ms)
follows_take p h v ss ms n f = record { sound = sound_take p v ss n f.sound; items = take_stores p v ss n ∙ ap (take n) f.items ∙ take_places h ms n }

pub alls_take : (Ok : ItemStore → Type 0) (ms : List ItemStore) (n : ℕ) → AllS Ok ms → AllS Ok (take n ms)
alls_take Ok [] zero a = tt
alls_take Ok [] (suc n) a = tt
alls_take Ok (m ∷ ms) zero a = tt
alls_take Ok (m ∷ ms) (suc n) a = (a.0, alls_take Ok ms n a.1)

pub alls_list : (Ok : ItemStore → Type 0) (f : ℕ → ItemStore) (hi j n : ℕ) → j + n ≤ hi → ((i : ℕ) → i < hi → Ok (f i)) → AllS Ok (list f j n)
unfolding list
alls_list Ok f hi j zero b k = tt
alls_list Ok f hi j (suc n) b k = (k j (omega arith), alls_list Ok f hi (suc j) n (omega arith) k)

-- stores in the segments A keep the tie, and where the segments lie
module _ (p : Params) (r : Ranged p) (off : List ℕ) (n : Mask) (h : Heads) (v : View) (u : ItemView) (t : Tie p r off n h v u) (A : ℕ → Type 0)
    (k : PlacesLies (par_of p r off) n h A (items_in p v) u) (ss : List Store) (ms : List ItemStore) (f : Follows p h v ss ms) (a : AllS (λ (s : ItemStore). A (store_seg s)) ms) where
  pub lies-after : PlacesLies (par_of p r off) n h A (items_in p (store_all store_view_of ss v)) (apply_all u ms)
  lies-after = subst (λ (W : ItemView). PlacesLies (par_of p r off) n h A W (apply_all u ms)) (sym (follows_all p r h v ss ms t.shape f)) (lies_stores (par_of p r off) n h A (items_in p v) u ms a k)

  pub tie_after : Tie p r off n h (store_all store_view_of ss v) (apply_all u ms)
  tie_after = record {
    shape = shape_stores p v ss t.shape (sounds_fit p r v ss t.shape f.sound);
    offline = offline_after ss v ∙ t.offline;
    enough = t.enough;
    bytes = λ d l q. bytes_stores p r v ss t.shape f.sound d (t.bytes d l q);
    placed = lies_placed (par_of p r off) n h A (items_in p (store_all store_view_of ss v)) (apply_all u ms) lies-after;
  }

-- the first i of them
pub tie_cut : (p : Params) (r : Ranged p) (off : List ℕ) (n : Mask) (h : Heads) (v : View) (u : ItemView) → Tie p r off n h v u → (A : ℕ → Type 0)
    → PlacesLies (par_of p r off) n h A (items_in p v) u
    → (ss : List Store) (ms : List ItemStore) → Follows p h v ss ms → AllS (λ (s : ItemStore). A (store_seg s)) ms → (i : ℕ)
    → Tie p r off n h (store_all store_view_of (take i ss) v) (apply_all u (take i ms))
tie_cut p r off n h v u t A k ss ms f a i =
    tie_after p r off n h v u t A k (take i ss) (take i ms) (follows_take p h v ss ms i f) (alls_take (λ (s : ItemStore). A (store_seg s)) ms i a)

-- ---- a segment not in use is named

abbrev pub heads_with : Heads → ℕ → ℕ → ℕ → (ℕ → ℕ) → Heads
heads_with h w s c ζ = record { ser = set_n h.ser w s; cop = set_n h.cop w c; zn = set_n h.zn w ζ }

pub tie_named : (p : Params) (r : Ranged p) (off : List ℕ) (n : Mask) (h : Heads) (v : View) (u : ItemView) (w s c : ℕ) (ζ : ℕ → ℕ) → (Used (par_of p r off) n u w → ⊥)
    → Tie p r off n h v u
    → Tie p r off n (heads_with h w s c ζ) v u
tie_named p r off n h v u w s c ζ idle t = record {
  shape = t.shape;
  offline = t.offline;
  enough = t.enough;
  bytes = t.bytes;
  placed = placed-named (par_of p r off) n h (items_in p v) u w s c ζ idle t.placed;
}

pub lies-named : (p : Par) (n : Mask) (h : Heads) (A : ℕ → Type 0) (W v : ItemView) (w s c : ℕ) (ζ : ℕ → ℕ) → (A w → ⊥) → PlacesLies p n h A W v
    → PlacesLies p n (heads_with h w s c ζ) A W v
lies-named p n h A W v w s c ζ idle k = record {
  own = λ z a. set_n-other h.ser w s z (no z a) ∙ k.own z a;
  apart = λ y z d a b l e. k.apart y z d a b l (sym (zn' y d a) ∙ e ∙ zn' z d b);
  at = λ d z t a. ap (W d) (zn' z d a) ∙ k.at d z t a;
  within = k.within;
  from = λ d y t l f b. let (z, a, e) = k.from d y t l f b in (z, a, zn' z d a ∙ e);
}
  where
    no : (z : ℕ) → A z → z ≢ w
    no z a e = idle (subst A e a)

    zn' : (z d : ℕ) → A z → set_n h.zn w ζ z d ≡ h.zn z d
    zn' z d a = ap (λ (f : ℕ → ℕ). f d) (set_n-other h.zn w ζ z (no z a))

-- ---- zones that no segment in use names, and those that are empty

module _ (p : Params) (r : Ranged p) (off : List ℕ) (g : Ghost) (v : View) (u : ItemView) (k : OnDrives p r off g v u) where
  -- a good zone that none names is empty
  pub unnamed_empty : (d y : ℕ) → d < p.N → g.un d ≡ false → y < p.Z → is_good p v.offline d y ≡ true → ((z : ℕ) → Used (par_of p r off) g.un u z → g.hd.zn z d ≢ y)
      → items_in p v d y ≡ []
  unnamed_empty d y l t b q n = go (items_in p v d y) refl
    where
      go : (x : List Item) → items_in p v d y ≡ x → items_in p v d y ≡ []
      go [] e = e
      go (i ∷ x) e =
          let c : 0 < length (items_in p v d y) = subst (λ (w : List Item). 0 < length w) (sym e) (let z : 0 < length (i ∷ x) = omega arith in z) in
          let (z, a, s) = k.placed.from d y (l, t) b (good_fine p r off g v u k d y l q) c in
          absurd (n z (d, (l, t), subst (λ (w : List Item). 0 < length w) (sym s) c) a)

  pub unnamed_pointer : (d y : ℕ) → d < p.N → g.un d ≡ false → y < p.Z → is_good p v.offline d y ≡ true → ((z : ℕ) → Used (par_of p r off) g.un u z → g.hd.zn z d ≢ y)
      → pointer_at v d y ≡ 0
  unnamed_pointer d y l t b q n = sym (zone_len_holds p r off g v u k d y l t b q) ∙ ap length (unnamed_empty d y l t b q n)

  -- where every segment in use is whole, an empty zone is named by none
  pub empty_unnamed : ((z : ℕ) → Used (par_of p r off) g.un u z → WholeZone (par_of p r off) g.un u z) → (d y : ℕ) → d < p.N → g.un d ≡ false → pointer_at v d y ≡ 0
      → (z : ℕ) → Used (par_of p r off) g.un u z → g.hd.zn z d ≢ y
  empty_unnamed whole d y l t e z i q =
      let o : On p r off g v u k d z = is_on p r off g v u k d z l t (whole z i d l t) in
      let b : 0 < pointer_at v d y = subst (λ (x : ℕ). 0 < pointer_at v d x) q o.begun in
      let j : ⊥ = omega (arith, b, e) in j

  -- the segments in use, and a new one w with zones ζ of its own: where they lie
  pub lies_open : (w c : ℕ) (ζ : ℕ → ℕ) → (Used (par_of p r off) g.un u w → ⊥) → ((d : ℕ) → d < p.N → (ζ d < p.Z) × (is_good p v.offline d (ζ d) ≡ true))
      → ((y : ℕ) → Used (par_of p r off) g.un u y → (d : ℕ) → d < p.N → g.hd.zn y d ≢ ζ d)
      → PlacesLies (par_of p r off) g.un (heads_with g.hd w w c ζ) (λ (z : ℕ). (Used (par_of p r off) g.un u z) ⊎ (z ≡ w)) (items_in p v) u
  lies_open w c ζ idle fits clear =
      lies_new (par_of p r off) g.un (heads_with g.hd w w c ζ) (Used (par_of p r off) g.un u) (items_in p v) u w
      (lies-named (par_of p r off) g.un g.hd (Used (par_of p r off) g.un u) (items_in p v) u w w c ζ idle (lies_used (par_of p r off) g (items_in p v) u k.facts k.placed))
      (set_n_same g.hd.ser w w)
      (λ y d a l e. absurd (clear y a d l (sym (old y d a) ∙ e ∙ new d)))
      (λ d t. ap (items_in p v d) (new d) ∙ unnamed_empty d (ζ d) t.0 t.1 (fits d t.0).0 (fits d t.0).1 (λ z i. clear z i d t.0) ∙ sym (bare d t (u d w) refl))
    where
      new : (d : ℕ) → set_n g.hd.zn w ζ w d ≡ ζ d
      new d = ap (λ (f : ℕ → ℕ). f d) (set_n_same g.hd.zn w ζ)

      old : (y d : ℕ) → Used (par_of p r off) g.un u y → set_n g.hd.zn w ζ y d ≡ g.hd.zn y d
      old y d a = ap (λ (f : ℕ → ℕ). f d) (set_n-other g.hd.zn w ζ y (λ e. idle (subst (Used (par_of p r off) g.un u) e a)))

      bare : (d : ℕ) → Tr (par_of p r off) g.un d → (x : List Item) → u d w ≡ x → u d w ≡ []
      bare d t [] e = e
      bare d t (i ∷ x) e = absurd (idle (d, t, subst (λ (y : List Item). 0 < length y) (sym e) (let z : 0 < length (i ∷ x) = omega arith in z)))

-- ---- the zones of a segment as its header names them

abbrev pub names_of : Params → Seg → ℕ → ℕ
names_of p z = λ (e : ℕ). get_or (zones_in p z) e 0

-- the headers of a segment on all drives, into empty zones
module _ (p : Params) (r : Ranged p) (h : Heads) (z : Seg) (w s c : ℕ) (low : (d : ℕ) → d < p.N → zone_on z d < p.Z) (lies : (d : ℕ) → d < p.N → zone_on z d ≡ h.zn w d)
    (sl : s < 256 ^ 8) (cl : c < 256 ^ 8) where
  abbrev header_put : ℕ → Store
  header_put d = put d (zone_on z d) (header_block p d (zones_in p z) s c) zero_spare

  abbrev header_item : ℕ → ItemStore
  header_item d = m-put d w (hdr s c (names_of p z))

  -- drives from j on are still empty
  pub record EmptyFrom (j : ℕ) (v : View) : Type 0 where
    pub shape : Shape p v
    pub empty : (e : ℕ) → j ≤ e → e < p.N → pointer_at v e (zone_on z e) ≡ 0

  one_header : (j : ℕ) (v : View) → j < p.N → EmptyFrom j v
      → Sound p v (header_put j) × (store_item p v (header_put j) ≡ place_store h (header_item j)) × EmptyFrom (suc j) (store_view_of (header_put j) v)
  one_header j v l i = (sound, item?, record { shape = shape_store p v (header_put j) i.shape fits; empty = λ e b q. other e b q ∙ i.empty e (omega arith) q })
    where
      kind : Kind p j (zone_at v j (zone_on z j)) (header_block p j (zones_in p z) s c) zero_spare
      kind = header (zones_in p z) s c (unfold pointer_at in i.empty j (omega arith) l) (zones_in_long p z)
          (λ e b. subst (λ (x : ℕ). x < 256 ^ 4) (sym (zones_in_lem p z e b)) (omega (arith, low e b, r.zones_high))) sl cl

      sound : Sound p v (header_put j)
      sound = (l, low j l, kind)

      fits : Fits p v (header_put j)
      fits = sound_fits p r v (header_put j) i.shape sound

      item? : store_item p v (header_put j) ≡ place_store h (header_item j)
      item? = store_put p h v j w z (header_block p j (zones_in p z) s c) zero_spare (lies j l) kind ∙ (unfold kind_item in refl)

      other : (e : ℕ) → suc j ≤ e → e < p.N → pointer_at (store_view_of (header_put j) v) e (zone_on z e) ≡ pointer_at v e (zone_on z e)
      other e b q' = unfold pointer_at store_view_of in
          ap (λ (q : Zone). q.pointer) (zone_set_else p v i.shape j (zone_on z j) (put_zone (header_block p j (zones_in p z) s c) zero_spare (zone_at v j (zone_on z j))) l e
          (zone_on z e) (inl (let n : e ≢ j = omega arith in n)))

  pub headers_follow : (v : View) → Shape p v → ((e : ℕ) → e < p.N → pointer_at v e (zone_on z e) ≡ 0) → Follows p h v (header_stores p z s c) (list header_item 0 p.N)
  unfolding header_stores drives_of below
  headers_follow v sh q = follows_list p h EmptyFrom header_put header_item p.N one_header 0 p.N (omega arith) v (record { shape = sh; empty = λ e a b. q e b })

-- ---- the lowest empty zones: where a write opens a segment

second_of : (l : List ℕ) → Rising l → 2 ≤ length l → (y : ℕ) × Has y l × (first_or 0 l ≢ y)
second_of [] k b = absurd (let q : ⊥ = omega arith in q)
second_of (a ∷ []) k b = absurd (let q : ⊥ = omega arith in q)
second_of (a ∷ (c ∷ l)) k b = unfold first_or in (c, inr (inl refl), λ e. let q : ⊥ = omega (arith, e, k.0 c (inl refl)) in q)

pub empty_has : (p : Params) (v : View) (d y : ℕ) → Has y (empty_zones p v d) → (y < p.Z) × (is_good p v.offline d y ≡ true) × (pointer_at v d y ≡ 0)
unfolding empty_zones good_zones
empty_has p v d y i =
    let (a, q) = keep_has (λ z. eqb (pointer_at v d z) 0) y (keep (is_good p v.offline d) (below p.Z)) i in
    let (b, t) = keep_has (is_good p v.offline d) y (below p.Z) a in
    (below_has y p.Z b, t, eqb-true (pointer_at v d y) 0 q)

pub empty_rising : (p : Params) (v : View) (d : ℕ) → Rising (empty_zones p v d)
unfolding empty_zones good_zones
empty_rising p v d = rising-keep (λ z. eqb (pointer_at v d z) 0) (keep (is_good p v.offline d) (below p.Z)) (rising-keep (is_good p v.offline d) (below p.Z) (rising-below p.Z))

module _ (p : Params) (r : Ranged p) (off : List ℕ) (g : Ghost) (v : View) (u : ItemView) (k : OnDrives p r off g v u) (none : None (par_of p r off) g.un)
    (whole : (z : ℕ) → Used (par_of p r off) g.un u z → WholeZone (par_of p r off) g.un u z) (two : 2 ≤ empty_count p v) where
  vacant : Vacant p v (new_seg p v)
  vacant = new_vacant p v (omega (arith, two))

  carry_at : (d : ℕ) → d < p.N → names_of p (new_seg p v) d ≡ zone_on (new_seg p v) d
  carry_at d l = zones_in_lem p (new_seg p v) d l

  pub new_fits : (d : ℕ) → d < p.N → (names_of p (new_seg p v) d < p.Z) × (fine_of p off d (names_of p (new_seg p v) d) ≡ true)
  new_fits d l = (
    subst (λ (x : ℕ). x < p.Z) (sym (carry_at d l)) (vacant.vacant_low d l),
    good_fine p r off g v u k d (names_of p (new_seg p v) d) l (ap (is_good p v.offline d) (carry_at d l) ∙ vacant.vacant_good d l),
  )

  pub new_clear : (y : ℕ) → Used (par_of p r off) g.un u y → (d : ℕ) → d < p.N → g.hd.zn y d ≢ names_of p (new_seg p v) d
  new_clear y i d l e = empty_unnamed p r off g v u k whole d (zone_on (new_seg p v) d) l (none d l) (vacant.vacant_empty d l) y i (e ∙ carry_at d l)

  pub new_space : (d : ℕ) → d < p.N → (y : ℕ) × (y < p.Z) × (fine_of p off d y ≡ true) × (names_of p (new_seg p v) d ≢ y) ×
      ((z : ℕ) → Used (par_of p r off) g.un u z → g.hd.zn z d ≢ y)
  new_space d l =
      let (y, i, n) = second_of (empty_zones p v d) (empty_rising p v d) (omega (arith, two, empty_some p v d l)) in
      let (b, q, e) = empty_has p v d y i in
      (y, b, good_fine p r off g v u k d y l q, (λ w. n (sym first ∙ w)), empty_unnamed p r off g v u k whole d y l (none d l) e)
    where
      first : names_of p (new_seg p v) d ≡ first_or 0 (empty_zones p v d)
      first = carry_at d l ∙ (unfold new_seg in with_zone p (λ d. first_or 0 (empty_zones p v d)) d l)

-- ---- the lowest zones that no remaining segment has: where a restart rewrites a segment

module _ (p : Params) (r : Ranged p) (off : List ℕ) (g : Ghost) (v : View) (u : ItemView) (k : OnDrives p r off g v u) (known : (x : Val) → InV x g.sent → (0 < x.stamp) × (x.addr < p.L))
    (m : ℕ) (c : Choice (par_of p r off) g.un (is_in m)) where
  abbrev free : ℕ → ℕ
  free d = first_or 0 (free_zones p v (segments p v m) d)

  pub free_zone : (d : ℕ) → d < p.N
      → (free d < p.Z) × (is_good p v.offline d (free d) ≡ true) × ((n : ℕ) → R (par_of p r off) g.hd u (is_in m) n → g.hd.zn n d ≢ free d)
  unfolding free_zones good_zones
  free_zone d l =
      let (a, q) = keep_has (λ z. not (any (λ (g : Segment). eqb (zone_on g.seg d) z) (segments p v m))) (free d) (keep (is_good p v.offline d) (below p.Z)) (first_or_has 0 (free? d) some) in
      let (b, t) = keep_has (is_good p v.offline d) (free d) (below p.Z) a in
      (below_has (free d) p.Z b, t, λ n h e. other n h e q)
    where
      free? : ℕ → List ℕ
      free? d = free_zones p v (segments p v m) d

      some : is_nil (free? d) ≡ false
      some = unfold none_free_of drives_of in any_false_in (λ d. is_nil (free? d)) (below p.N) (free_seg_holds p r off g v u k known m c) d (has_below d p.N l)

      other : (n : ℕ) → R (par_of p r off) g.hd u (is_in m) n → g.hd.zn n d ≡ free d → not (any (λ (g : Segment). eqb (zone_on g.seg d) (free d)) (segments p v m)) ≡ true → ⊥
      other n h e q = not_2 (any (λ (g : Segment). eqb (zone_on g.seg d) (free d)) (segments p v m)) q
          (has_any (λ (g : Segment). eqb (zone_on g.seg d) (free d)) (segments p v m) (segment_of p v m (named_seg p g n))
          (unfold segments in has_map (segment_of p v m) (remaining p v m) (named_seg p g n) (has_remaining p r off g v u k m c n h))
          (eq-eqb (zone_on (segment_of p v m (named_seg p g n)).seg d) (free d) (ap (λ (x : Seg). zone_on x d) (seg_is p v m (named_seg p g n)) ∙ named_zone p g n d l ∙ e)))

  pub free_zone_on : (d : ℕ) → d < p.N → zone_on (free_seg p v (segments p v m)) d ≡ free d
  unfolding free_seg
  free_zone_on d l = with_zone p (λ d. first_or 0 (free_zones p v (segments p v m) d)) d l

-- ---- drives are given up

pub tie_less : (p : Params) (r : Ranged p) (off : List ℕ) (n m : Mask) (h : Heads) (v v' : View) (u u' : ItemView) → Choice (par_of p r off) n m → Shape p v' → v'.offline ≡ off
    → ((e y : ℕ) → e < p.N → m e ≡ false → zone_at v' e y ≡ zone_at v e y) → ((e y : ℕ) → e < p.N → m e ≡ false → u e y ≡ u' e y) → Tie p r off n h v u
    → Tie p r off m h v' u'
tie_less p r off n m h v v' u u' ch sh o same su t = record {
  shape = sh;
  offline = o;
  enough = t.enough;
  bytes = λ d l q z b s. subst (ZoneBytes p d) (sym (same d z l q)) (t.bytes d l (trust (par_of p r off) n m ch d l q) z b (ap (λ (x : List ℕ). is_good p x d z) (t.offline ∙ sym o) ∙ s));
  placed = placed_less (par_of p r off) n m h (items_in p v) u (items_in p v') u' ch (λ e y l q. items e y (same e y l q)) su t.placed;
}
  where
    items : (e y : ℕ) → zone_at v' e y ≡ zone_at v e y → items_in p v e y ≡ items_in p v' e y
    items e y q = unfold items_in in ap (items_of p) (sym q)
