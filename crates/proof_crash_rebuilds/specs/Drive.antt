-- Rebuild: all of the drive. Wherever it is cut, and where it ends. Assumes nothing.
use Rattle.std.specs.Prelude.{◌≡◌, Bool, false, true, cond, ◌⊎◌, ◌≢◌, ℕ, zero, suc, ◌<◌, ◌≤◌, take, length, ltb, eqb}
use Rattle.std.proofs.Math.Path.{refl, sym, ap, subst}
use Rattle.std.proofs.Common.{◌∙◌, arith, ltb-true, ltb-false, eq-eqb, ne_eqb}
use mathlib.Core.List.{List, [], ◌∷◌, ◌++◌, map}
use Rattle.std.proofs.Math.Logic.{inl, inr, ⊎_elim}
use Rattle.std.proofs.Math.Decide.{ℕ_discrete}
use Rattle.proof_crash_machine.specs.View.ItemStore.{put as m-put}
use Rattle.spec.specs.declared.Params.{Params}
use Rattle.spec.specs.Drives.{Zone, stored, View, zone_at, pointer_at, Store, put_zone, reset_zone, store_view_of, store_all, zone_on, good_zones, is_good}
use Rattle.spec.specs.Drives.Store.{put, reset}
use Rattle.spec.specs.Lists.{below, flat, is_in, keep}
use Rattle.spec.specs.Params.{named}
use Rattle.spec.specs.Rebuild.{rebuilt_zone, rebuild_stores, by_serial, insert_segment}
use Rattle.spec.specs.Segments.{remaining, Segment, segment_of, segments, low_drive}
use Rattle.law_basic.specs.Geometry.{Ranged}
use Rattle.law_basic.specs.Stores.{store_all-append}
use Rattle.proof_crash_machine.specs.Facts.{Ghost, Choice, R, self, Heads, Par, Tr, Used}
use Rattle.proof_crash_machine.specs.History.{Mode}
use Rattle.proof_crash_machine.specs.History.Mode.{off as stopped, ro}
use Rattle.proof_crash_machine.specs.History.Step.{rebuild as m-rebuild, rebuild_store, rebuild_done}
use Rattle.proof_crash_machine.specs.Rebuild.{with_un, Rebuilt as m-Rebuilt}
use Rattle.proof_crash_machine.specs.Rebuild2.{puts, puts_here, puts-other, column, column_stored, RPlan}
use Rattle.proof_crash_machine.specs.Steps.{apply_all-append}
use Rattle.proof_crash_machine.specs.Val.{Val}
use Rattle.proof_crash_machine.specs.View.{Item, ItemView, ItemStore, apply_all, AllS, upd_drive, with_item, apply, alls_append}
use Rattle.proof_crash_items.specs.Items.{items_from, items_of, items_in}
use Rattle.proof_crash_items.specs.Member.{Has, append_has, below_has, has_below, flat_has, map_has, has_map, has_keep, keep_has}
use Rattle.proof_crash_items.specs.Ranges.{par_of, fine_of}
use Rattle.proof_crash_items.specs.Refuse.{Rising, rising_apart, remaining-rising, seg_zones}
use Rattle.proof_crash_items.specs.SegFacts.{seg-R, seg_used, serial_name}
use Rattle.proof_crash_items.specs.Segs.{OnDrives, drive_here, fine_good, has_remaining, name_once, name_of, named_seg, one_there, put_there, segs_name_is}
use Rattle.proof_crash_items.specs.Shape.{Shape, zone_set_at, zone_set_else, shape_store, shape_stores}
use Rattle.proof_crash_items.specs.Sound.{AllSound, BytesOn, BytesOk, sound_fits, bytes_stores, sound_take, Follows, follows_nil, follows_append, sound_append, sounds_fit}
use Rattle.proof_crash_items.specs.Stripes.{pointer_is}
use Rattle.proof_crash_items.specs.ZoneBytes.{bytes_empty}
use Rattle.proof_crash_items.specs.Named.{never_beyond, none_out, named_other, named_out, named_self, named-only}
use Rattle.proof_crash_restarts.specs.Link.{state_on, Linked, linked_step}
use Rattle.proof_crash_restarts.specs.Missing.{missing_on_holds}
use Rattle.proof_crash_restarts.specs.Order.{pointer_zone}
use Rattle.proof_crash_rebuilds.specs.Column.{plan, column_foots}
use Rattle.proof_crash_rebuilds.specs.Zones.{on-other, zone_items, zone_follows, zone_on_holds, AllOn}
use Rattle.spec.specs.declared.Seg.{Seg}
use Rattle.law_drives.specs.Rebuilding.{in_serial, rebuilding_serial_in}
use Rattle.law_drives.specs.Segs.{seg_is}
use Rattle.law_drives.specs.Tests.{cond_false, cond_true}
use Rattle.proof_crash_items.specs.Carry.{Tie, on_tie, tie_after, tie_less}
use Rattle.proof_crash_items.specs.Places.{PlacesLies, lies_more, lies_placed, lies_used, store_seg}
use Rattle.proof_crash_machine.specs.Mask.{Mask}
use Rattle.proof_crash_machine.specs.Memory.{Ok}
use Rattle.law_views.specs.Alike.{offline_after}

-- ---- segments by rising serial

abbrev serials : List Segment → List ℕ
serials l = map (λ (x : Segment). x.serial) l

-- serials that differ
abbrev Differ : List Segment → Type 0
Differ [] = Unit {0}
Differ (x ∷ l) = ((y : Segment) → Has y l → x.serial ≢ y.serial) × Differ l

insert_rising : (x : Segment) (l : List Segment) → Rising (serials l) → ((y : Segment) → Has y l → x.serial ≢ y.serial) → Rising (serials (insert_segment x l))
unfolding insert_segment
insert_rising x [] r n = ((λ b i. absurd i), tt)
insert_rising x (y ∷ l) r n = go (ltb y.serial x.serial) refl (insert_rising x l r.1 (λ z i. n z (inr i)))
  where
    go : (b : Bool) → ltb y.serial x.serial ≡ b → Rising (serials (insert_segment x l)) → Rising (serials (cond b (y ∷ insert_segment x l) (x ∷ (y ∷ l))))
    go true e ih = ((λ b i. above b (map_has (λ (z : Segment). z.serial) b (insert_segment x l) i)), ih)
      where
        above : (b : ℕ) → (z : Segment) × Has z (insert_segment x l) × (b ≡ z.serial) → y.serial < b
        above b (z, i, q) = subst (λ (w : ℕ). y.serial < w) (sym q) (two z (insert_in x l z i))
          where
            insert_in : (x : Segment) (l : List Segment) (z : Segment) → Has z (insert_segment x l) → (z ≡ x) ⊎ Has z l
            insert_in x [] z (inl e) = inl e
            insert_in x [] z (inr i) = absurd i
            insert_in x (y ∷ l) z i = pick (ltb y.serial x.serial) i (insert_in x l z)
              where
                pick : (b : Bool) → Has z (cond b (y ∷ insert_segment x l) (x ∷ (y ∷ l))) → (Has z (insert_segment x l) → (z ≡ x) ⊎ Has z l) → (z ≡ x) ⊎ Has z (y ∷ l)
                pick true (inl e) ih = inr (inl e)
                pick true (inr i) ih = ⊎_elim (λ (e : z ≡ x). inl e) (λ (j : Has z l). inr (inr j)) (ih i)
                pick false (inl e) ih = inl e
                pick false (inr i) ih = inr i

            two : (z : Segment) → (z ≡ x) ⊎ Has z l → y.serial < z.serial
            two z (inl w) = subst (λ (s : Segment). y.serial < s.serial) (sym w) (ltb-true y.serial x.serial e)
            two z (inr i) = r.0 z.serial (has_map (λ (z : Segment). z.serial) l z i)
    go false e ih = ((λ b i. above b i), r)
      where
        first : x.serial < y.serial
        first = let a : x.serial ≤ y.serial = ltb-false y.serial x.serial e in let b : x.serial ≢ y.serial = n y (inl refl) in omega (arith, a, b)

        above : (b : ℕ) → Has b (serials (y ∷ l)) → x.serial < b
        above b (inl q) = omega (arith, q, first)
        above b (inr i) = let c : y.serial < b = r.0 b i in omega (arith, c, first)

pub drive_serial_rising : (l : List Segment) → Differ l → Rising (serials (by_serial l))
unfolding by_serial
drive_serial_rising [] d = tt
drive_serial_rising (x ∷ l) d = insert_rising x (by_serial l) (drive_serial_rising l d.1) (λ y i. d.0 y (rebuilding_serial_in l y i))

-- ---- the machine's runs of puts

puts-elsewhere : (f : Segment → List Item) (d : ℕ) (l : List Segment) (x : ItemView) (n : ℕ) → (Has n (serials l) → ⊥)
    → apply_all x (flat (λ (z : Segment). puts d z.serial (f z)) l) d n ≡ x d n
unfolding flat apply_all
puts-elsewhere f d [] x n h = refl
puts-elsewhere f d (z ∷ l) x n h = ap (λ (u : ItemView). u d n) (apply_all-append x (puts d z.serial (f z)) (flat (λ (z : Segment). puts d z.serial (f z)) l))
    ∙ puts-elsewhere f d l (apply_all x (puts d z.serial (f z))) n (λ i. h (inr i)) ∙ puts-other x d z.serial (f z) d n (λ e. h (inl e))

puts-at : (f : Segment → List Item) (d : ℕ) (l : List Segment) → Rising (serials l) → (x : ItemView) (y : Segment) → Has y l
    → apply_all x (flat (λ (z : Segment). puts d z.serial (f z)) l) d y.serial ≡ x d y.serial ++ f y
unfolding flat apply_all
puts-at f d [] r x y i = absurd i
puts-at f d (z ∷ l) r x y (inl e) = ap (λ (u : ItemView). u d y.serial) (apply_all-append x (puts d z.serial (f z)) (flat (λ (z : Segment). puts d z.serial (f z)) l))
    ∙ puts-elsewhere f d l (apply_all x (puts d z.serial (f z))) y.serial none ∙ rw e (puts_here x d z.serial (f z))
  where
    none : Has y.serial (serials l) → ⊥
    none i = let q : y.serial ≡ z.serial = ap (λ (x : Segment). x.serial) e in let w : ⊥ = omega (arith, r.0 y.serial i, q) in w
puts-at f d (z ∷ l) r x y (inr i) = ap (λ (u : ItemView). u d y.serial) (apply_all-append x (puts d z.serial (f z)) (flat (λ (z : Segment). puts d z.serial (f z)) l))
    ∙ puts-at f d l r.1 (apply_all x (puts d z.serial (f z))) y i
    ∙ ap (λ (q : List Item). q ++ f y) (puts-other x d z.serial (f z) d y.serial other)
  where
    other : y.serial ≢ z.serial
    other e = let w : ⊥ = omega (arith, r.0 y.serial (has_map (λ (x : Segment). x.serial) l y i), e) in w

-- other drives get nothing
puts_drive : (x : ItemView) (d z : ℕ) (l : List Item) (e y : ℕ) → e ≢ d → apply_all x (puts d z l) e y ≡ x e y
unfolding puts apply_all apply
puts_drive x d z [] e y n = refl
puts_drive x d z (i ∷ l) e y n = puts_drive (with_item x d z i) d z l e y n ∙ (unfold with_item in upd_drive x d z (x d z ++ (i ∷ [])) e y n)

all-puts_drive : (f : Segment → List Item) (d : ℕ) (l : List Segment) (x : ItemView) (e y : ℕ) → e ≢ d → apply_all x (flat (λ (z : Segment). puts d z.serial (f z)) l) e y ≡ x e y
unfolding flat apply_all
all-puts_drive f d [] x e y n = refl
all-puts_drive f d (z ∷ l) x e y n = ap (λ (u : ItemView). u e y) (apply_all-append x (puts d z.serial (f z)) (flat (λ (z : Segment). puts d z.serial (f z)) l))
    ∙ all-puts_drive f d l (apply_all x (puts d z.serial (f z))) e y n ∙ puts_drive x d z.serial (f z) e y n

alls_puts : (Ok : ItemStore → Type 0) (d z : ℕ) (l : List Item) → ((i : Item) → Ok (m-put d z i)) → AllS Ok (puts d z l)
unfolding puts
alls_puts Ok d z [] h = tt
alls_puts Ok d z (i ∷ l) h = (h i, alls_puts Ok d z l h)

alls_flat : (Ok : ItemStore → Type 0) (f : Segment → List ItemStore) (l : List Segment) → ((x : Segment) → Has x l → AllS Ok (f x)) → AllS Ok (flat f l)
unfolding flat
alls_flat Ok f [] h = tt
alls_flat Ok f (x ∷ l) h = alls_append Ok (f x) (flat f l) (h x (inl refl)) (alls_flat Ok f l (λ y i. h y (inr i)))

-- the view with nothing on drive d
unfoldable off_drive : ItemView → ℕ → ItemView
off_drive u d e y = cond (eqb e d) [] (u e y)

drive_off_here : (u : ItemView) (d y : ℕ) → off_drive u d d y ≡ []
unfolding off_drive
drive_off_here u d y = cond_true (eqb d d) [] (u d y) (eq-eqb d d refl)

off_other : (u : ItemView) (d e y : ℕ) → e ≢ d → off_drive u d e y ≡ u e y
unfolding off_drive
off_other u d e y n = cond_false (eqb e d) [] (u e y) (ne_eqb e d n)

-- where segments lie depends on the trusted drives alone
drive_lies_same : (P : Par) (n : Mask) (h : Heads) (A : ℕ → Type 0) (X Y x y : ItemView) → ((e z : ℕ) → Tr P n e → X e z ≡ Y e z) → ((e z : ℕ) → Tr P n e → x e z ≡ y e z)
    → PlacesLies P n h A X x → PlacesLies P n h A Y y
drive_lies_same P n h A X Y x y a b k = record {
  own = k.own;
  apart = k.apart;
  at = λ d z t i. sym (a d (h.zn z d) t) ∙ k.at d z t i ∙ b d z t;
  within = λ d z t i. k.within d z t (subst (λ (l : List Item). 0 < length l) (sym (b d z t)) i);
  from = λ d z t l f i. k.from d z t l f (subst (λ (l : List Item). 0 < length l) (sym (a d z t)) i);
}

-- ---- resets of the drive

resets_sound : (p : Params) (d : ℕ) → d < p.N → (l : List ℕ) → ((z : ℕ) → Has z l → z < p.Z) → (v : View) → AllSound p v (map (reset d) l)
resets_sound p d b [] h v = tt
resets_sound p d b (z ∷ l) h v = ((b, h z (inl refl)), resets_sound p d b l (λ e i. h e (inr i)) (store_view_of (reset d z) v))

reset_step-zero : (p : Params) (d z : ℕ) → d < p.N → z < p.Z → (v : View) → Shape p v → (y : ℕ) → (pointer_at v d y ≡ 0) ⊎ (y ≡ z)
    → pointer_at (store_view_of (reset d z) v) d y ≡ 0
reset_step-zero p d z l b v s y q = go (ℕ_discrete y z) q
  where
    at : pointer_at (store_view_of (reset d z) v) d z ≡ 0
    at = unfold store_view_of pointer_at in (ap (λ (x : Zone). x.pointer) (zone_set_at p v s d z (reset_zone (zone_at v d z)) l b) ∙ (unfold reset_zone in refl))

    other : y ≢ z → pointer_at (store_view_of (reset d z) v) d y ≡ pointer_at v d y
    other n = pointer_zone (store_view_of (reset d z) v) v d y (unfold store_view_of in zone_set_else p v s d z (reset_zone (zone_at v d z)) l d y (inr n))

    go : Dec (y ≡ z) → (pointer_at v d y ≡ 0) ⊎ (y ≡ z) → pointer_at (store_view_of (reset d z) v) d y ≡ 0
    go (yes e) w = ap (pointer_at (store_view_of (reset d z) v) d) e ∙ at
    go (no n) (inl w) = other n ∙ w
    go (no n) (inr w) = absurd (n w)

drive_resets-zero : (p : Params) → Ranged p → (d : ℕ) → d < p.N → (l : List ℕ) → ((z : ℕ) → Has z l → z < p.Z) → (v : View) → Shape p v → (y : ℕ)
    → (pointer_at v d y ≡ 0) ⊎ Has y l
    → pointer_at (store_all store_view_of (map (reset d) l) v) d y ≡ 0
unfolding store_all
drive_resets-zero p r d b [] h v s y (inl q) = q
drive_resets-zero p r d b [] h v s y (inr q) = absurd q
drive_resets-zero p r d b (z ∷ l) h v s y q =
    drive_resets-zero p r d b l (λ e i. h e (inr i)) (store_view_of (reset d z) v) (shape_store p v (reset d z) s (b, h z (inl refl))) y (go q)
  where
    go : (pointer_at v d y ≡ 0) ⊎ Has y (z ∷ l) → (pointer_at (store_view_of (reset d z) v) d y ≡ 0) ⊎ Has y l
    go (inl w) = inl (reset_step-zero p d z b (h z (inl refl)) v s y (inl w))
    go (inr (inl w)) = inl (reset_step-zero p d z b (h z (inl refl)) v s y (inr w))
    go (inr (inr w)) = inr w

-- ---- the rebuild

module _ (p : Params) (r : Ranged p) (off : List ℕ) (v : View) (u : ItemView) (g : Ghost) (a : List Val) (s : Bool) (mo : Mode) (lk : Linked p r off v u g a s mo) (d : ℕ) (dl : d < p.N)
    (ch : Choice (par_of p r off) g.un (is_in (named d))) where
  abbrev g_d : Ghost
  g_d = with_un g (is_in (named d))

  abbrev lost : (e : ℕ) × (e < p.N) × (is_in (named d) e ≡ true)
  lost = (d, dl, named_self p r d dl)

  abbrev sh : Shape p v
  sh = lk.tie.shape

  abbrev k_d : OnDrives p r off (with_un g (is_in (named d))) v u
  k_d = missing_on_holds p r off v v u u g a s mo lk (named d) lost ch lk.tie.shape lk.tie.offline (λ e y l n. refl) (λ e y l n. refl)

  abbrev c_d : Choice (par_of p r off) (is_in (named d)) (is_in (named d))
  c_d = self (par_of p r off) (is_in (named d)) ch.0

  -- it starts: from now on the drive isn't trusted
  pub started : Linked p r off v u (with_un g (is_in (named d))) a s ro
  started = linked_step p r off v v u u g (with_un g (is_in (named d))) a a s s mo ro lk
      (m-rebuild (state_on u g a s mo) (is_in (named d)) ch (never_beyond p r off g.said (is_in (named d)) ch.0)) (on_tie p r off (with_un g (is_in (named d))) v u k_d)

  abbrev gs : List Segment
  gs = segments p v (named d)

  abbrev G : Seg → Segment
  G z = segment_of p v (named d) z

  abbrev zs : List ℕ
  zs = good_zones p v.offline d

  zones_low : (z : ℕ) → Has z zs → (z < p.Z) × (is_good p v.offline d z ≡ true)
  zones_low z i = unfold good_zones in (let (x, q) = keep_has (is_good p v.offline d) z (below p.Z) (reveal i) in (below_has z p.Z x, q))
    where
      reveal : Has z zs → Has z (keep (is_good p v.offline d) (below p.Z))
      reveal i = unfold good_zones in i

  abbrev v₁ : View
  v₁ = store_all store_view_of (map (reset d) (good_zones p v.offline d)) v

  first : AllSound p v (map (reset d) zs)
  first = resets_sound p d dl zs (λ z i. (zones_low z i).0) v

  shape₁ : Shape p v₁
  shape₁ = shape_stores p v (map (reset d) zs) sh (sounds_fit p r v (map (reset d) zs) sh first)

  offline₁ : v₁.offline ≡ v.offline
  offline₁ = offline_after (map (reset d) zs) v

  zero₁ : (z : ℕ) → z < p.Z → is_good p v.offline d z ≡ true → pointer_at v₁ d z ≡ 0
  zero₁ z b q = drive_resets-zero p r d dl zs (λ y i. (zones_low y i).0) v sh z (inr (unfold good_zones in has_keep (is_good p v.offline d) z (below p.Z) (has_below z p.Z b) q))

  -- ---- segment after segment

  drive_seg_of : (x : Segment) → Has x (by_serial (segments p v (named d))) → (z : Seg) × Has z (remaining p v (named d)) × (x ≡ segment_of p v (named d) z)
  drive_seg_of x i = unfold segments in map_has (segment_of p v (named d)) x (remaining p v (named d)) (reveal (rebuilding_serial_in gs x i))
    where
      reveal : Has x (segments p v (named d)) → Has x (map (segment_of p v (named d)) (remaining p v (named d)))
      reveal i = unfold segments in i

  abbrev its : Segment → List Item
  its x = zone_items p r off (with_un g (is_in (named d))) v u k_d (named d) c_d d x.seg

  name_of_holds : (z : Seg) → Has z (remaining p v (named d)) → (segment_of p v (named d) z).serial ≡ name_of p v (named d) z
  name_of_holds z i = serial_name p r off (with_un g (is_in (named d))) v u k_d (named d) c_d z i

  drive_zone_low : (z : Seg) → Has z (remaining p v (named d)) → (zone_on z d < p.Z) × (is_good p v.offline d (zone_on z d) ≡ true)
  drive_zone_low z i = put_there p r off (with_un g (is_in (named d))) v u k_d (named d) c_d z i d dl

  segs_follow : (l : List Segment) → Rising (serials l) → ((x : Segment) → Has x l → (z : Seg) × Has z (remaining p v (named d)) × (x ≡ segment_of p v (named d) z)) → (w : View)
      → Shape p w
      → ((x : Segment) → Has x l → pointer_at w d (zone_on x.seg d) ≡ 0)
      → Follows p g.hd w (flat (rebuilt_zone p d) l) (flat (λ (x : Segment). puts d x.serial (its x)) l)
  unfolding flat
  segs_follow [] q h w sw e = follows_nil p g.hd w
  segs_follow (x ∷ l) q h w sw e =
      follows_append p g.hd w (rebuilt_zone p d x) (flat (rebuilt_zone p d) l) (puts d x.serial (its x)) (flat (λ (x : Segment). puts d x.serial (its x)) l) f
      (segs_follow l q.1 (λ y i. h y (inr i)) (store_all store_view_of (rebuilt_zone p d x) w) (shape_stores p w (rebuilt_zone p d x) sw (sounds_fit p r w (rebuilt_zone p d x) sw f.sound)) (λ y i.
      pointer_zone (store_all store_view_of (rebuilt_zone p d x) w) w d (zone_on y.seg d)
      (on-other p r d (zone_on x.seg d) (rebuilt_zone p d x) w sw f.sound on? dl d (zone_on y.seg d) (inr (differ y i)))
      ∙ e y (inr i)))
    where
      z : Seg
      z = (h x (inl refl)).0

      zi : Has z (remaining p v (named d))
      zi = (h x (inl refl)).1

      zx : x ≡ segment_of p v (named d) z
      zx = (h x (inl refl)).2

      same_seg_holds : x.seg ≡ z
      same_seg_holds = ap (λ (y : Segment). y.seg) zx ∙ seg_is p v (named d) z

      f : Follows p g.hd w (rebuilt_zone p d x) (puts d x.serial (its x))
      f = subst (λ (y : Segment). Follows p g.hd w (rebuilt_zone p d y) (puts d x.serial (its x))) (sym zx)
          (subst (Follows p g.hd w (rebuilt_zone p d (segment_of p v (named d) z)))
          (λ j. puts d (sym (ap (λ (y : Segment). y.serial) zx ∙ name_of_holds z zi) j) (zone_items p r off (with_un g (is_in (named d))) v u k_d (named d) c_d d (sym same_seg_holds j)))
          (zone_follows p r off (with_un g (is_in (named d))) v u k_d d c_d dl z zi w sw (subst (λ (y : Seg). pointer_at w d (zone_on y d) ≡ 0) same_seg_holds (e x (inl refl)))))

      on? : AllOn d (zone_on x.seg d) (rebuilt_zone p d x)
      on? = λ t m. subst (λ (y : Seg). (b : List ℕ) × (c : List ℕ) × (t ≡ put d (zone_on y d) b c)) (sym same_seg_holds)
          (zone_on_holds p r off (with_un g (is_in (named d))) v u k_d d c_d dl z zi t (subst (λ (y : Segment). Has t (rebuilt_zone p d y)) zx m))

      differ : (y : Segment) → Has y l → zone_on y.seg d ≢ zone_on x.seg d
      differ y i b =
          let (z', zi', zy) = h y (inr i) in
          let sy : y.seg ≡ z' = ap (λ (y : Segment). y.seg) zy ∙ seg_is p v (named d) z' in
          let same : z' ≡ z = one_there p r off (with_un g (is_in (named d))) v u k_d (named d) c_d z' z zi' zi d dl
          (ap (λ (b : Seg). zone_on b d) (sym sy) ∙ b ∙ ap (λ (b : Seg). zone_on b d) same_seg_holds) in
          let ser : y.serial ≡ x.serial = ap (λ (y : Segment). y.serial) (zy ∙ ap (segment_of p v (named d)) same ∙ sym zx) in
          let j : ⊥ = omega (arith, ser, q.0 y.serial (has_map (λ (b : Segment). b.serial) l y i)) in j

  abbrev ts : List Store
  ts = flat (rebuilt_zone p d) (by_serial (segments p v (named d)))

  abbrev ns : List ItemStore
  ns = flat (λ (x : Segment). puts d x.serial (its x)) (by_serial (segments p v (named d)))

  abbrev ss : List Store
  ss = rebuild_stores p v d (segments p v (named d))

  rises : Rising (serials (by_serial (segments p v (named d))))
  rises = drive_serial_rising gs (unfold segments in differ (remaining p v (named d)) (λ z i. i)
      (remaining-rising p v (named d) (drive_here p r off (with_un g (is_in (named d))) v u k_d (named d) c_d)))
    where
      differ : (l : List Seg) → ((z : Seg) → Has z l → Has z (remaining p v (named d))) → Rising (seg_zones (low_drive p (named d)) l) → Differ (map (segment_of p v (named d)) l)
      differ [] h q = tt
      differ (z ∷ l) h q = (
        (λ y i e. let (x, j, w) = map_has (segment_of p v (named d)) y l i in
            rising_apart (low_drive p (named d)) z l q x j (sym (name_once p r off (with_un g (is_in (named d))) v u k_d (named d) c_d z x (h z (inl refl)) (h x (inr j))
            (sym (name_of_holds z (h z (inl refl))) ∙ e ∙ ap (λ (y : Segment). y.serial) w ∙ name_of_holds x (h x (inr j)))))),
        differ l (λ x j. h x (inr j)) q.1,
      )

  second : Follows p g.hd v₁ ts ns
  second = segs_follow (by_serial gs) rises drive_seg_of v₁ shape₁ (λ x i. let (z, j, e) = drive_seg_of x i in
      ap (λ (y : Segment). pointer_at v₁ d (zone_on y.seg d)) e ∙ ap (λ (y : Seg). pointer_at v₁ d (zone_on y d)) (seg_is p v (named d) z)
      ∙ zero₁ (zone_on z d) (drive_zone_low z j).0 (drive_zone_low z j).1)

  pub rebuild_sound : AllSound p v ss
  unfolding rebuild_stores
  rebuild_sound = sound_append p v (map (reset d) zs) ts first second.sound

  -- ---- the other drives are untouched
  abbrev OnDrive : Store → Type 0
  OnDrive x = ((z : ℕ) × (x ≡ reset d z)) ⊎ ((z : ℕ) × (b : List ℕ) × (t : List ℕ) × (x ≡ put d z b t))

  stores_on_drive : (x : Store) → Has x ss → OnDrive x
  unfolding rebuild_stores
  stores_on_drive x i = ⊎_elim
      (λ (q : Has x (map (reset d) zs)). let z : (z : ℕ) × Has z zs × (x ≡ reset d z) = map_has (reset d) x zs q in inl (z.0, z.2))
      (λ (q : Has x (flat (rebuilt_zone p d) (by_serial gs))).
      let y : (y : Segment) × Has y (by_serial gs) × Has x (rebuilt_zone p d y) = flat_has (rebuilt_zone p d) x (by_serial gs) q in
      let z : (z : Seg) × Has z (remaining p v (named d)) × (y.0 ≡ segment_of p v (named d) z) = drive_seg_of y.0 y.1 in
      let w : (b : List ℕ) × (t : List ℕ) × (x ≡ put d (zone_on z.0 d) b t) = zone_on_holds p r off (with_un g (is_in (named d))) v u k_d d c_d dl z.0 z.1 x
      (subst (λ (k : Segment). Has x (rebuilt_zone p d k)) z.2 y.2) in
      inr (zone_on z.0 d, w.0, w.1, w.2)) (append_has x (map (reset d) zs) (flat (rebuilt_zone p d) (by_serial gs)) i)

  stores_other : (l : List Store) (w : View) → Shape p w → AllSound p w l → ((x : Store) → Has x l → OnDrive x) → (e y : ℕ) → e ≢ d
      → zone_at (store_all store_view_of l w) e y ≡ zone_at w e y
  unfolding store_all
  stores_other [] w sw f h e y n = refl
  stores_other (x ∷ l) w sw f h e y n =
      stores_other l (store_view_of x w) (shape_store p w x sw (sound_fits p r w x sw f.0)) f.1 (λ t i. h t (inr i)) e y n ∙ one (h x (inl refl))
    where
      one : OnDrive x → zone_at (store_view_of x w) e y ≡ zone_at w e y
      one (inl (z, q)) = ap (λ (t : Store). zone_at (store_view_of t w) e y) q ∙ (unfold store_view_of in zone_set_else p w sw d z (reset_zone (zone_at w d z)) dl e y (inl n))
      one (inr (z, b, t, q)) = ap (λ (t : Store). zone_at (store_view_of t w) e y) q ∙ (unfold store_view_of in zone_set_else p w sw d z (put_zone b t (zone_at w d z)) dl e y (inl n))

  has_take : (n : ℕ) (l : List Store) (x : Store) → Has x (take n l) → Has x l
  has_take zero l x i = absurd i
  has_take (suc n) [] x i = absurd i
  has_take (suc n) (y ∷ l) x (inl e) = inl e
  has_take (suc n) (y ∷ l) x (inr i) = inr (has_take n l x i)

  -- wherever it is cut: the machine's view stays as it is, for it says nothing of the drive
  pub rebuild_cut : (n : ℕ) → Linked p r off (store_all store_view_of (take n ss) v) u (with_un g (is_in (named d))) a s stopped
  rebuild_cut n = linked_step p r off v v_n u u (with_un g (is_in (named d))) (with_un g (is_in (named d))) a a s s ro stopped started
      (rebuild_store (state_on u (with_un g (is_in (named d))) a s ro) u lost (λ e y l q. refl) stopped (inr refl))
      (tie_less p r off (is_in (named d)) (is_in (named d)) g.hd v v_n u u c_d (shape_stores p v (take n ss) sh (sounds_fit p r v (take n ss) sh cut))
      (offline_after (take n ss) v ∙ lk.tie.offline)
      (λ e y l q. stores_other (take n ss) v sh cut (λ x i. stores_on_drive x (has_take n ss x i)) e y (named_out p r d e l q)) (λ e y l q. refl)
      (on_tie p r off (with_un g (is_in (named d))) v u k_d))
    where
      v_n : View
      v_n = store_all store_view_of (take n ss) v

      cut : AllSound p v (take n ss)
      cut = sound_take p v ss n rebuild_sound

  -- ---- the end
  abbrev v_e : View
  v_e = store_all store_view_of ss v

  abbrev u₁ : ItemView
  u₁ = off_drive u d

  abbrev u_e : ItemView
  u_e = apply_all u₁ ns

  abbrev A : ℕ → Type 0
  A z = Used (par_of p r off) (is_in (named d)) u z

  -- nothing is left in the good zones of the drive
  clear₁ : (y : ℕ) → y < p.Z → is_good p v.offline d y ≡ true → items_in p v₁ d y ≡ []
  clear₁ y b q = unfold items_in in none_stored (zone_at v₁ d y) (pointer_is v₁ d y ∙ zero₁ y b q)
    where
      none_stored : (q : Zone) → q.pointer ≡ 0 → items_of p q ≡ []
      none_stored q e = unfold items_of stored in (ap (λ (n : ℕ). items_from p 0 (take n q.blocks)) e ∙ (unfold items_from in refl))

  items₁ : (e y : ℕ) → e ≢ d → items_in p v e y ≡ items_in p v₁ e y
  items₁ e y n = unfold items_in in ap (items_of p) (sym (stores_other (map (reset d) zs) v sh first (λ x i. inl (let z = map_has (reset d) x zs i in (z.0, z.2))) e y n))

  good_of : (y : ℕ) → fine_of p off d y ≡ true → is_good p v.offline d y ≡ true
  good_of y q = fine_good p r off (with_un g (is_in (named d))) v u k_d d y dl q

  lies₀ : PlacesLies (par_of p r off) (is_in (named d)) g.hd A (items_in p v₁) u₁
  lies₀ = drive_lies_same (par_of p r off) (is_in (named d)) g.hd A (items_in p v) (items_in p v₁) u u₁ (λ e z t. items₁ e z (named_out p r d e t.0 t.1))
      (λ e z t. sym (off_other u d e z (named_out p r d e t.0 t.1))) (lies_used (par_of p r off) (with_un g (is_in (named d))) (items_in p v) u k_d.facts k_d.placed)

  lies₁ : PlacesLies (par_of p r off) (is_in 0) g.hd A (items_in p v₁) u₁
  lies₁ = lies_more (par_of p r off) (is_in (named d)) (is_in 0) g.hd A (items_in p v₁) u₁ lies₀ (λ e l q n. subst
      (λ (x : ℕ). ((z : ℕ) → A z → items_in p v₁ x (g.hd.zn z x) ≡ []) × ((z : ℕ) → u₁ x z ≡ [])
      × ((y : ℕ) → y < p.Z → fine_of p off x y ≡ true → items_in p v₁ x y ≡ []))
      (sym (named-only p r d e l q)) (
        (λ z i. let b = k_d.facts.«open».place.put z (inl i) d dl in clear₁ (g.hd.zn z d) b.0 (good_of (g.hd.zn z d) b.1)),
        (λ z. drive_off_here u d z),
        (λ y b f. clear₁ y b (good_of y f)),
      ))

  bytes₁ : BytesOk p (is_in 0) v₁
  bytes₁ e l n = go (ℕ_discrete e d)
    where
      go : Dec (e ≡ d) → BytesOn p v₁ e
      go (no q) = bytes_stores p r v (map (reset d) zs) sh first e (k_d.bytes e l (named_other p r d e l q))
      go (yes q) = subst (BytesOn p v₁) (sym q) (λ z b f. bytes_empty p d (zone_at v₁ d z) (pointer_is v₁ d z ∙ zero₁ z b (ap (λ (x : List ℕ). is_good p x d z) (sym offline₁) ∙ f)))

  drive_tie₁ : Tie p r off (is_in 0) g.hd v₁ u₁
  drive_tie₁ = record {
    shape = shape₁;
    offline = offline₁ ∙ lk.tie.offline;
    enough = lk.tie.enough;
    bytes = bytes₁;
    placed = lies_placed (par_of p r off) (is_in 0) g.hd A (items_in p v₁) u₁ lies₁;
  }

  used_all : AllS (λ (x : ItemStore). A (store_seg x)) ns
  used_all = alls_flat (λ (x : ItemStore). A (store_seg x)) (λ (x : Segment). puts d x.serial (its x)) (by_serial gs) (λ x i.
      alls_puts (λ (x : ItemStore). A (store_seg x)) d x.serial (its x) (λ t. (unfold store_seg in of x (drive_seg_of x i))))
    where
      of : (x : Segment) → (z : Seg) × Has z (remaining p v (named d)) × (x ≡ segment_of p v (named d) z) → A x.serial
      of x (z, j, e) = subst A (sym (ap (λ (y : Segment). y.serial) e ∙ name_of_holds z j)) (seg_used p r off (with_un g (is_in (named d))) v u k_d (named d) c_d z j)

  tie_end : Tie p r off (is_in 0) g.hd v_e u_e
  tie_end = subst (λ (x : View). Tie p r off (is_in 0) g.hd x u_e) (sym split) (tie_after p r off (is_in 0) g.hd v₁ u₁ drive_tie₁ A lies₁ ts ns second used_all)
    where
      split : v_e ≡ store_all store_view_of ts v₁
      split = unfold rebuild_stores in store_all-append store_view_of (map (reset d) zs) ts v

  -- ---- what the drive holds now, by segment
  full-u :
      (n : ℕ)
      → R (par_of p r off) g.hd u (is_in (named d)) n
      → u_e d n ≡ column (par_of p r off) (with_un g (is_in (named d))) u (plan p r off g (named d) ch.0 v u k_d) d n ((plan p r off g (named d) ch.0 v u k_d).foots n)
  full-u n rr =
      let z : Seg = named_seg p g n in
      let i : Has (named_seg p (with_un g (is_in (named d))) n) (remaining p v (named d)) = has_remaining p r off (with_un g (is_in (named d))) v u k_d (named d) c_d n rr in
      let own : name_of p v (named d) (named_seg p (with_un g (is_in (named d))) n) ≡ n = segs_name_is p r off (with_un g (is_in (named d))) v u k_d (named d) c_d n rr.left in
      let x : Segment = segment_of p v (named d) (named_seg p (with_un g (is_in (named d))) n) in
      let e : (segment_of p v (named d) (named_seg p (with_un g (is_in (named d))) n)).serial ≡ n = name_of_holds (named_seg p (with_un g (is_in (named d))) n) i ∙ own in
      subst (λ (t : ℕ). u_e d t ≡ u₁ d t ++ its (segment_of p v (named d) (named_seg p (with_un g (is_in (named d))) n))) e
      (puts-at its d (by_serial gs) rises u₁ (segment_of p v (named d) (named_seg p (with_un g (is_in (named d))) n))
      (in_serial gs (segment_of p v (named d) (named_seg p (with_un g (is_in (named d))) n))
      (unfold segments in has_map (segment_of p v (named d)) (remaining p v (named d)) (named_seg p (with_un g (is_in (named d))) n) i)))
      ∙ ap (λ (l : List Item). l ++ its (segment_of p v (named d) (named_seg p (with_un g (is_in (named d))) n))) (drive_off_here u d n)
      ∙ ap (zone_items p r off (with_un g (is_in (named d))) v u k_d (named d) c_d d) (seg_is p v (named d) (named_seg p (with_un g (is_in (named d))) n))
      ∙ sym (column_foots p r off g (named d) ch.0 v u k_d d n i own)

  none_u : (n : ℕ) → (R (par_of p r off) g.hd u (is_in (named d)) n → ⊥) → u_e d n ≡ []
  none_u n h = puts-elsewhere its d (by_serial gs) u₁ n gone ∙ drive_off_here u d n
    where
      gone : Has n (serials (by_serial gs)) → ⊥
      gone i =
          let (x, j, e) = map_has (λ (x : Segment). x.serial) n (by_serial gs) i in
          let (z, k, w) = drive_seg_of x j in
          h (subst (R (par_of p r off) g.hd u (is_in (named d))) (sym (e ∙ ap (λ (y : Segment). y.serial) w ∙ name_of_holds z k))
          (seg-R p r off (with_un g (is_in (named d))) v u k_d (named d) c_d z k))

  same_u : (e y : ℕ) → e < p.N → is_in (named d) e ≡ false → u e y ≡ u_e e y
  same_u e y l n = sym (all-puts_drive its d (by_serial gs) u₁ e y (named_out p r d e l n) ∙ off_other u d e y (named_out p r d e l n))

  rebuilt? : m-Rebuilt (par_of p r off) (with_un g (is_in (named d))) u u_e
  rebuilt? = column_stored (par_of p r off) (with_un g (is_in (named d))) u π u_e k_d.facts same_u
      (λ e z i rr. subst (λ (x : ℕ). u_e x z ≡ column (par_of p r off) g_d u π x z (π.foots z)) (sym (named-only p r d e i.0 i.1)) (full-u z rr))
      (λ e z i n. subst (λ (x : ℕ). u_e x z ≡ []) (sym (named-only p r d e i.0 i.1)) (none_u z n))
    where
      π : RPlan (par_of p r off) g_d u
      π = plan p r off g (named d) ch.0 v u k_d

  pub rebuild_end : (x : ItemView) × Linked p r off v_e x (with_un (with_un g (is_in (named d))) (is_in 0)) a s ro
  rebuild_end = (
    u_e,
    linked_step p r off v v_e u u_e (with_un g (is_in (named d))) (with_un (with_un g (is_in (named d))) (is_in 0)) a a s s ro ro started
        (rebuild_done (state_on u (with_un g (is_in (named d))) a s ro) u_e (is_in 0) (none_out p r off) lost rebuilt?) tie_end,
  )
