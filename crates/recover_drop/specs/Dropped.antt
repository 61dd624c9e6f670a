-- The zones of dropped segments, number by number: drive after drive (01, Restart, 4; 02, item 4). Assumes nothing.
use Rattle.std.specs.Prelude.{Result, Ok, ◌≡◌, ◌&&◌, ◌||◌, get_or}
use Rattle.std.proofs.Math.Path.{refl, sym, ap, ap₂, subst}
use Rattle.std.proofs.Common.{◌∙◌, inl, inr, div-add-mod', div-lt_iff_lt-mul, mod-lt, arith, eqb-true, eq-eqb, ne_eqb}
use mathlib.Core.List.{List, [], ◌∷◌, ◌++◌, map}
use Rattle.std.proofs.Math.Bool.{Bool, true, false, cond, not}
use Prim.Native.Nat.{ℕ, ◌+◌, ◌-◌, ◌*◌, ◌/◌, ◌%◌, ◌≤◌, ◌<◌}
use Rattle.std.proofs.Math.Arith.{digits_div, digits_mod, digits_lt}
use Rattle.std.proofs.Math.Dec.{eqb}
use Rattle.std.proofs.Math.ListN.{length}
use Rattle.spec.specs.declared.Params.{Params}
use Rattle.spec.specs.declared.Seg.{Seg}
use Rattle.spec.specs.Drives.{mk_disk, view_of, Zone, View, zone_at, pointer_at, chunk_at, no_chunk, Store, reset_zone, store_view_of, store_all, is_good, zone_on, Disk, store_disk}
use Rattle.spec.specs.Drives.Store.{reset}
use Rattle.spec.specs.Layout.{header_serial}
use Rattle.spec.specs.Lists.{up_from, below, any, is_member_of, keep, tally, flat, rising}
use Rattle.spec.specs.Params.{image_len, pointers_len, drives_of}
use Rattle.spec.specs.Restart.{serials_there, dropped_serials, drop_stores}
use Rattle.spec.specs.Segments.{Segment, is_used, serial_in, bearing, remaining, segment_of, segments}
use Rattle.law_basic.specs.Geometry.{Ranged}
use Rattle.law_basic.specs.Mask.{is_in_empty}
use Rattle.law_basic.specs.Ranges.{Test, test, and_left, and_right, and_both, map-append, up_from_step, up_from_end, below-start, keep_hit, keep_miss, keep_none}
use Rattle.law_basic.specs.Ranges.Test.{yes!, no! }
use Rattle.law_drives.specs.Accept.{Accepted, bears_once, zone_borne}
use Rattle.law_drives.specs.Dropping.{drops_at}
use Rattle.law_drives.specs.Image.{sized_of}
use Rattle.law_drives.specs.Members.{In, in_map, map_in, in_flat, flat_in, in_keep, keep_in, in_below, below_in, in_any, any_in, keep_cong, flat_cong, keep-keep, member_is, is_member}
use Rattle.law_drives.specs.Segs.{remaining_left}
use Rattle.law_drives.specs.Settled.{zero_here}
use Rattle.law_drives.specs.Tests.{clash, cond_true, cond_false, same_test, and_false_left, and_false_right, or_neither}
use Rattle.law_drives.specs.Zones.{Sized, sized_store, hits_at_of, zone_store, zone_stored}
use Rattle.law_restart.specs.Frames.{seen-after}
use Rattle.law_views.specs.Views.{Whole, AllFit, seen}
use Rattle.disk_zones.specs.declared.TooFew.{TooFew}
use Rattle.disk_zones.specs.Made.{too_few, Storing, storing_all}
use Rattle.recover_drop.specs.Going.{Owes, owes_turn, owes_cut, owes_done}
use Rattle.recover_drop.specs.Rising.{by_keys, LeastKey, keys_none, keys_first, keys_cong, keep-fewer, keep-rising, rising_members, by_number}
use Rattle.law_views.specs.Alike.{offline_after}

-- ---- zone number i: drive i / Z, zone i % Z

unfoldable pub reset_no : Params → ℕ → Store
reset_no p i = reset (i / p.Z) (i % p.Z)

unfoldable pub serial_no : Params → View → ℕ → ℕ
serial_no p v i = serial_in p v (i / p.Z) (i % p.Z)

-- it is used, and not taken
unfoldable pub untaken_no : Params → View → List Bool → ℕ → Bool
untaken_no p v ts i = not (get_or ts i false) && is_used p v (i / p.Z) (i % p.Z)

-- and bears a serial
unfoldable pub bears_no : Params → View → List Bool → ℕ → ℕ → Bool
bears_no p v ts r i = untaken_no p v ts i && eqb (serial_no p v i) r

-- its reset, where it does
unfoldable pub one_drop : Params → View → List Bool → ℕ → ℕ → List Store
one_drop p v ts r i = cond (bears_no p v ts r i) (reset_no p i ∷ []) []

pub one_none : (p : Params) (v : View) (ts : List Bool) (r i : ℕ) → untaken_no p v ts i ≡ false → one_drop p v ts r i ≡ []
unfolding one_drop bears_no
one_none p v ts r i q = cond_false (untaken_no p v ts i && eqb (serial_no p v i) r) (reset_no p i ∷ []) [] (and_false_left (untaken_no p v ts i) (eqb (serial_no p v i) r) q)

pub dropped_one-other : (p : Params) (v : View) (ts : List Bool) (r i : ℕ) → (serial_no p v i ≡ r → ⊥) → one_drop p v ts r i ≡ []
unfolding one_drop bears_no
dropped_one-other p v ts r i n =
    cond_false (untaken_no p v ts i && eqb (serial_no p v i) r) (reset_no p i ∷ []) [] (and_false_right (untaken_no p v ts i) (eqb (serial_no p v i) r) (ne_eqb (serial_no p v i) r n))

pub one_is : (p : Params) (v : View) (ts : List Bool) (r i : ℕ) → untaken_no p v ts i ≡ true → serial_no p v i ≡ r → one_drop p v ts r i ≡ reset_no p i ∷ []
unfolding one_drop bears_no
one_is p v ts r i q e =
    cond_true (untaken_no p v ts i && eqb (serial_no p v i) r) (reset_no p i ∷ []) [] (and_both (untaken_no p v ts i) (eqb (serial_no p v i) r) q (eq-eqb (serial_no p v i) r e))

-- the resets of those that bear a serial
unfoldable pub serial_drops : Params → View → List Bool → ℕ → List Store
serial_drops p v ts r = map (reset_no p) (keep (bears_no p v ts r) (below (p.N * p.Z)))

-- of all, by rising serials
unfoldable pub all_drops : Params → View → List Bool → List Store
all_drops p v ts = map (reset_no p) (by_keys (untaken_no p v ts) (serial_no p v) (p.N * p.Z))

-- 01, Restart, 4: the used zones that are not taken are just those of dropped segments
abbrev pub Drops : Params → View → List Bool → Type 0
Drops p v ts = (p.N * p.Z ≤ length ts) × ((d z : ℕ) → d < p.N → z < p.Z → (not (get_or ts (d * p.Z + z) false) && is_used p v d z) ≡ drops_at p v (segments p v 0) d z)

-- drive and zone of a number
pub number_drive : (p : Params) → Ranged p → (i : ℕ) → i < p.N * p.Z → i / p.Z < p.N
number_drive p r i h = let z : 0 < p.Z = omega (arith, r.zones_low) in (div-lt_iff_lt-mul z).1 h

pub number_zone : (p : Params) → Ranged p → (i : ℕ) → i % p.Z < p.Z
number_zone p r i = mod-lt i (omega (arith, r.zones_low))

-- ---- the zones that no remaining segment has

module _ (p : Params) (r : Ranged p) (v : View) (acc : Accepted p v 0) (ts : List Bool) (long : p.N * p.Z ≤ length ts)
    (has : (d z : ℕ) → d < p.N → z < p.Z → get_or ts (d * p.Z + z) false ≡ any (λ (g : Seg). eqb (zone_on g d) z) (remaining p v 0)) where
  abbrev gs : List Segment
  gs = segments p v 0

  dropped_in_gs : (g : Seg) → In g (remaining p v 0) → In (segment_of p v 0 g) gs
  unfolding segments
  dropped_in_gs g m = in_map (segment_of p v 0) (remaining p v 0) g m

  gs_in : (x : Segment) → In x gs → (g : Seg) × In g (remaining p v 0) × (x ≡ segment_of p v 0 g)
  unfolding segments
  gs_in x m = map_in (segment_of p v 0) (remaining p v 0) x m

  -- a used zone bears the serial of a remaining segment just where it is that segment's
  module _ (d z : ℕ) (hd : d < p.N) (hz : z < p.Z) (u : is_used p v d z ≡ true) where
    dropped_its_zone : any (λ (g : Seg). eqb (zone_on g d) z) (remaining p v 0) ≡ any (λ (x : Segment). eqb x.serial (serial_in p v d z)) gs
    dropped_its_zone = same_test (any (λ (g : Seg). eqb (zone_on g d) z) (remaining p v 0)) (any (λ (x : Segment). eqb x.serial (serial_in p v d z)) gs)
        (λ q.
        let (g, m, e) = any_in (λ (g : Seg). eqb (zone_on g d) z) (remaining p v 0) q in
        let b = zone_borne p v 0 (zero_here p r) g d (remaining_left p v 0 g m) hd (is_in_empty d) in
        in_any (λ (x : Segment). eqb x.serial (serial_in p v d z)) gs (segment_of p v 0 g) (dropped_in_gs g m)
        (eq-eqb (segment_of p v 0 g).serial (serial_in p v d z) (sym b.serial ∙ ap (serial_in p v d) (eqb-true (zone_on g d) z e))))
        (λ q.
        let (x, m, e) = any_in (λ (x : Segment). eqb x.serial (serial_in p v d z)) gs q in
        let (g, k, f) = gs_in x m in
        in_any (λ (g : Seg). eqb (zone_on g d) z) (remaining p v 0) g k
        (eq-eqb (zone_on g d) z (sym (bears_once p v 0 acc (zero_here p r) g d z k hd (is_in_empty d) hz u
        (sym (eqb-true x.serial (serial_in p v d z) e) ∙ ap (λ (y : Segment). y.serial) f)))))

  pub taken_drops : Drops p v ts
  taken_drops = (long, λ d z hd hz. go d z hd hz (test (is_used p v d z)))
    where
      swap : (a b : Bool) → a && b ≡ b && a
      swap true true = refl
      swap true false = refl
      swap false true = refl
      swap false false = refl

      go : (d z : ℕ) → d < p.N → z < p.Z → Test (is_used p v d z) → (not (get_or ts (d * p.Z + z) false) && is_used p v d z) ≡ drops_at p v gs d z
      go d z hd hz (yes! q) = unfold drops_at in (swap (not (get_or ts (d * p.Z + z) false)) (is_used p v d z)
          ∙ ap (λ (b : Bool). is_used p v d z && not b) (has d z hd hz ∙ dropped_its_zone d z hd hz q))
      go d z hd hz (no! q) = unfold drops_at in (and_false_right (not (get_or ts (d * p.Z + z) false)) (is_used p v d z) q
          ∙ sym (and_false_left (is_used p v d z) (not (any (λ (x : Segment). eqb x.serial (serial_in p v d z)) gs)) q))

-- ---- the stores are those of the definition

module _ (p : Params) (r : Ranged p) (v : View) (ts : List Bool) (h : Drops p v ts) where
  abbrev gs₀ : List Segment
  gs₀ = segments p v 0

  abbrev size : ℕ
  size = p.N * p.Z

  untaken_is : (i : ℕ) → i < size → untaken_no p v ts i ≡ drops_at p v gs₀ (i / p.Z) (i % p.Z)
  unfolding untaken_no
  untaken_is i l =
      ap (λ (j : ℕ). not (get_or ts j false) && is_used p v (i / p.Z) (i % p.Z)) (sym (div-add-mod' i p.Z))
      ∙ h.1 (i / p.Z) (i % p.Z) (number_drive p r i l) (number_zone p r i)

  used_of : (d z : ℕ) → drops_at p v gs₀ d z ≡ true → (is_used p v d z ≡ true) × (not (any (λ (g : Segment). eqb g.serial (serial_in p v d z)) gs₀) ≡ true)
  unfolding drops_at
  used_of d z q = (
    and_left (is_used p v d z) (not (any (λ (g : Segment). eqb g.serial (serial_in p v d z)) gs₀)) q,
    and_right (is_used p v d z) (not (any (λ (g : Segment). eqb g.serial (serial_in p v d z)) gs₀)) q,
  )

  of_used : (d z : ℕ) → is_used p v d z ≡ true → not (any (λ (g : Segment). eqb g.serial (serial_in p v d z)) gs₀) ≡ true → drops_at p v gs₀ d z ≡ true
  unfolding drops_at
  of_used d z a b = and_both (is_used p v d z) (not (any (λ (g : Segment). eqb g.serial (serial_in p v d z)) gs₀)) a b

  -- the dropped serials
  serials_are : dropped_serials p v gs₀ ≡ rising (map (serial_no p v) (keep (untaken_no p v ts) (below size)))
  unfolding dropped_serials serials_there drives_of serial_no
  serials_are = keep-rising no all ∙ rising_members (keep no all) (map (serial_no p v) (keep (untaken_no p v ts) (below size))) to from
    where
      no : ℕ → Bool
      no k = not (any (λ (g : Segment). eqb g.serial k) gs₀)

      all : List ℕ
      all = flat (λ d. map (serial_in p v d) (keep (is_used p v d) (below p.Z))) (below p.N)

      to : (k : ℕ) → In k (keep no all) → In k (map (serial_no p v) (keep (untaken_no p v ts) (below size)))
      to k m =
          let (a, q) = keep_in no all k m in
          let (d, b, c) = flat_in (λ d. map (serial_in p v d) (keep (is_used p v d) (below p.Z))) (below p.N) k a in
          let (z, e, f) = map_in (serial_in p v d) (keep (is_used p v d) (below p.Z)) k c in
          let (g, u) = keep_in (is_used p v d) (below p.Z) z e in
          let hd = below_in p.N d b in
          let hz = below_in p.Z z g in
          let i = d * p.Z + z in
          let l : i < size = digits_lt hd hz in
          let t : drops_at p v gs₀ (i / p.Z) (i % p.Z) ≡ true = (λ j. drops_at p v gs₀ (digits_div d hz j) (digits_mod d hz j)) ∙ of_used d z u (subst (λ (x : ℕ). no x ≡ true) f q) in
          subst (λ (x : ℕ). In x (map (serial_no p v) (keep (untaken_no p v ts) (below size))))
          ((λ j. serial_in p v (digits_div d hz j) (digits_mod d hz j)) ∙ sym f)
          (in_map (serial_no p v) (keep (untaken_no p v ts) (below size)) i (in_keep (untaken_no p v ts) (below size) i (in_below size i l) (untaken_is i l ∙ t)))

      from : (k : ℕ) → In k (map (serial_no p v) (keep (untaken_no p v ts) (below size))) → In k (keep no all)
      from k m =
          let (i, a, e) = map_in (serial_no p v) (keep (untaken_no p v ts) (below size)) k m in
          let (b, q) = keep_in (untaken_no p v ts) (below size) i a in
          let l = below_in size i b in
          let d = i / p.Z in
          let z = i % p.Z in
          let hd = number_drive p r i l in
          let hz = number_zone p r i in
          let (u, n) = used_of d z (sym (untaken_is i l) ∙ q) in
          in_keep no all k (subst (λ (x : ℕ). In x all) (sym e)
          (in_flat (λ d. map (serial_in p v d) (keep (is_used p v d) (below p.Z))) (below p.N) d (serial_in p v d z) (in_below p.N d hd)
          (in_map (serial_in p v d) (keep (is_used p v d) (below p.Z)) z (in_keep (is_used p v d) (below p.Z) z (in_below p.Z z hz) u))))
          (subst (λ (x : ℕ). no x ≡ true) (sym e) n)

  -- the zones that bear one of them
  bearing_are : (k : ℕ) → In k (dropped_serials p v gs₀) → flat (λ d. map (reset d) (bearing p v d k)) (drives_of p) ≡ map (reset_no p)
      (keep (λ i. untaken_no p v ts i && eqb (serial_no p v i) k) (below size))
  unfolding drives_of bearing reset_no serial_no dropped_serials
  bearing_are k m =
      by_number p.Z (λ d z. is_used p v d z && eqb (serial_in p v d z) k) reset p.N
      ∙ ap (map (λ i. reset (i / p.Z) (i % p.Z))) (keep_cong (λ i. is_used p v (i / p.Z) (i % p.Z) && eqb (serial_in p v (i / p.Z) (i % p.Z)) k)
      (λ i. untaken_no p v ts i && eqb (serial_in p v (i / p.Z) (i % p.Z)) k) (below size)
      (λ i n. one i (below_in size i n) (test (eqb (serial_in p v (i / p.Z) (i % p.Z)) k))))
    where
      no : not (any (λ (g : Segment). eqb g.serial k) gs₀) ≡ true
      no = (keep_in (λ (k : ℕ). not (any (λ (g : Segment). eqb g.serial k) gs₀)) (serials_there p v) k m).1

      and-true : (a b : Bool) → b ≡ true → a && b ≡ a
      and-true true b q = q
      and-true false b q = refl

      drops : (d z : ℕ) → serial_in p v d z ≡ k → drops_at p v gs₀ d z ≡ is_used p v d z
      drops d z e = unfold drops_at in and-true (is_used p v d z) (not (any (λ (g : Segment). eqb g.serial (serial_in p v d z)) gs₀))
          (subst (λ (x : ℕ). not (any (λ (g : Segment). eqb g.serial x) gs₀) ≡ true) (sym e) no)

      one : (i : ℕ) → i < size → Test (eqb (serial_in p v (i / p.Z) (i % p.Z)) k)
          → (is_used p v (i / p.Z) (i % p.Z) && eqb (serial_in p v (i / p.Z) (i % p.Z)) k) ≡ (untaken_no p v ts i && eqb (serial_in p v (i / p.Z) (i % p.Z)) k)
      one i l (yes! q) =
          ap (λ (b : Bool). b && eqb (serial_in p v (i / p.Z) (i % p.Z)) k)
          (sym (untaken_is i l ∙ drops (i / p.Z) (i % p.Z) (eqb-true (serial_in p v (i / p.Z) (i % p.Z)) k q)))
      one i l (no! q) =
          and_false_right (is_used p v (i / p.Z) (i % p.Z)) (eqb (serial_in p v (i / p.Z) (i % p.Z)) k) q
          ∙ sym (and_false_right (untaken_no p v ts i) (eqb (serial_in p v (i / p.Z) (i % p.Z)) k) q)

  map-flat : {A B C : Type 0} (f : B → C) (g : A → List B) (l : List A) → flat (λ (a : A). map f (g a)) l ≡ map f (flat g l)
  unfolding flat
  map-flat f g [] = refl
  map-flat {A} {B} {C} f g (a ∷ l) = ap (λ (x : List C). map f (g a) ++ x) (map-flat f g l) ∙ sym (map-append f (g a) (flat g l))

  pub drops_are : drop_stores p v gs₀ ≡ all_drops p v ts
  unfolding drop_stores all_drops by_keys
  drops_are =
      flat_cong (λ k. flat (λ d. map (reset d) (bearing p v d k)) (drives_of p)) (λ k. map (reset_no p) (keep (λ i. untaken_no p v ts i && eqb (serial_no p v i) k) (below size)))
      (dropped_serials p v gs₀) bearing_are
      ∙ ap (flat (λ k. map (reset_no p) (keep (λ i. untaken_no p v ts i && eqb (serial_no p v i) k) (below size)))) serials_are
      ∙ map-flat (reset_no p) (λ k. keep (λ i. untaken_no p v ts i && eqb (serial_no p v i) k) (below size)) (rising (map (serial_no p v) (keep (untaken_no p v ts) (below size))))

-- ---- what resets leave

module _ (p : Params) (r : Ranged p) where
  abbrev size₁ : ℕ
  size₁ = p.N * p.Z

  -- resets fit
  pub reset_numbers_fit : (l : List ℕ) (v : View) → ((i : ℕ) → In i l → i < size₁) → AllFit p v (map (reset_no p) l)
  unfolding reset_no
  reset_numbers_fit [] v f = tt
  reset_numbers_fit (i ∷ l) v f = ((number_drive p r i (f i (inl refl)), number_zone p r i), reset_numbers_fit l (store_view_of (reset (i / p.Z) (i % p.Z)) v) (λ j m. f j (inr m)))

  -- zone by zone
  dropped_zone_reset : (l : List ℕ) (v : View) → Sized p v → ((i : ℕ) → In i l → i < size₁) → (d z : ℕ) → d < p.N → z < p.Z
      → zone_at (store_all store_view_of (map (reset_no p) l) v) d z ≡ cond (is_member_of (d * p.Z + z) l) (reset_zone (zone_at v d z)) (zone_at v d z)
  unfolding store_all is_member_of any reset_no
  dropped_zone_reset [] v sz f d z hd hz = refl
  dropped_zone_reset (i ∷ l) v sz f d z hd hz =
      go (test (eqb (d * p.Z + z) i)) (test (any (λ k. eqb (d * p.Z + z) k) l)) (dropped_zone_reset l u (sized_store p v s sz) (λ j m. f j (inr m)) d z hd hz)
    where
      s : Store
      s = reset (i / p.Z) (i % p.Z)

      u : View
      u = store_view_of s v

      stored! : zone_at u d z ≡ cond (eqb (i / p.Z) d && eqb (i % p.Z) z) (reset_zone (zone_at v d z)) (zone_at v d z)
      stored! = as! (zone_stored p v d z s sz hd hz)
        where
          as! : zone_at u d z ≡ cond (hits_at_of d z s) (zone_store s (zone_at v d z)) (zone_at v d z)
              → zone_at u d z ≡ cond (eqb (i / p.Z) d && eqb (i % p.Z) z) (reset_zone (zone_at v d z)) (zone_at v d z)
          as! e = unfold hits_at_of zone_store in e

      hit : eqb (d * p.Z + z) i ≡ true → zone_at u d z ≡ reset_zone (zone_at v d z)
      hit q =
          let e : d * p.Z + z ≡ i = eqb-true (d * p.Z + z) i q in
          stored! ∙ cond_true (eqb (i / p.Z) d && eqb (i % p.Z) z) (reset_zone (zone_at v d z)) (zone_at v d z)
          (and_both (eqb (i / p.Z) d) (eqb (i % p.Z) z) (eq-eqb (i / p.Z) d (ap (λ (x : ℕ). x / p.Z) (sym e) ∙ digits_div d hz))
          (eq-eqb (i % p.Z) z (ap (λ (x : ℕ). x % p.Z) (sym e) ∙ digits_mod d hz)))

      miss : eqb (d * p.Z + z) i ≡ false → zone_at u d z ≡ zone_at v d z
      miss q = stored! ∙ cond_false (eqb (i / p.Z) d && eqb (i % p.Z) z) (reset_zone (zone_at v d z)) (zone_at v d z) (off (test (eqb (i / p.Z) d && eqb (i % p.Z) z)))
        where
          off : Test (eqb (i / p.Z) d && eqb (i % p.Z) z) → (eqb (i / p.Z) d && eqb (i % p.Z) z) ≡ false
          off (no! x) = x
          off (yes! x) =
              let a = eqb-true (i / p.Z) d (and_left (eqb (i / p.Z) d) (eqb (i % p.Z) z) x) in
              let b = eqb-true (i % p.Z) z (and_right (eqb (i / p.Z) d) (eqb (i % p.Z) z) x) in
              clash (eq-eqb (d * p.Z + z) i (ap₂ (λ (m n : ℕ). m * p.Z + n) (sym a) (sym b) ∙ div-add-mod' i p.Z)) q

      twice : (q : Zone) → reset_zone (reset_zone q) ≡ reset_zone q
      twice q = unfold reset_zone in refl

      go : Test (eqb (d * p.Z + z) i) → Test (any (λ k. eqb (d * p.Z + z) k) l)
          → zone_at (store_all store_view_of (map (λ i. reset (i / p.Z) (i % p.Z)) l) u) d z ≡ cond (any (λ k. eqb (d * p.Z + z) k) l) (reset_zone (zone_at u d z)) (zone_at u d z)
          → zone_at (store_all store_view_of (map (λ i. reset (i / p.Z) (i % p.Z)) l) u) d z
          ≡ cond (eqb (d * p.Z + z) i || any (λ k. eqb (d * p.Z + z) k) l) (reset_zone (zone_at v d z)) (zone_at v d z)
      go (yes! q) (yes! w) ih = ih ∙ rw (q, w) (ap reset_zone (hit q) ∙ twice (zone_at v d z))
      go (yes! q) (no! w) ih = ih ∙ rw (q, w) (hit q)
      go (no! q) (yes! w) ih = ih ∙ rw (q, w) (ap reset_zone (miss q))
      go (no! q) (no! w) ih = ih ∙ rw (q, w) (miss q)

-- behind the resets of a serial's zones the others wait, with the serials that they had
module _ (p : Params) (r : Ranged p) (v : View) (sz : Sized p v) (ts : List Bool) (n : ℕ) where
  abbrev those : List ℕ
  those = keep (bears_no p v ts n) (below (p.N * p.Z))

  abbrev u : View
  u = store_all store_view_of (serial_drops p v ts n) v

  zone_then : (i : ℕ) → i < p.N * p.Z → zone_at u (i / p.Z) (i % p.Z)
      ≡ cond (bears_no p v ts n i) (reset_zone (zone_at v (i / p.Z) (i % p.Z))) (zone_at v (i / p.Z) (i % p.Z))
  unfolding serial_drops
  zone_then i l =
      let d = i / p.Z in
      let z = i % p.Z in
      dropped_zone_reset p r those v sz (λ j m. below_in (p.N * p.Z) j (keep_in (bears_no p v ts n) (below (p.N * p.Z)) j m).0) d z (number_drive p r i l) (number_zone p r i)
      ∙ ap (λ (b : Bool). cond b (reset_zone (zone_at v d z)) (zone_at v d z)) (ap (λ (j : ℕ). is_member_of j those) (div-add-mod' i p.Z) ∙ member!)
    where
      member! : is_member_of i those ≡ bears_no p v ts n i
      member! = same_test (is_member_of i those) (bears_no p v ts n i) (λ q. (keep_in (bears_no p v ts n) (below (p.N * p.Z)) i (is_member i those q)).1)
          (λ q. member_is i those (in_keep (bears_no p v ts n) (below (p.N * p.Z)) i (in_below (p.N * p.Z) i l) q))

  serial_then : (i : ℕ) → i < p.N * p.Z → serial_no p u i ≡ serial_no p v i
  unfolding serial_no serial_in chunk_at
  serial_then i l = ap (λ (q : Zone). header_serial p (get_or q.blocks 0 no_chunk).block) (zone_then i l) ∙ same (bears_no p v ts n i) (zone_at v (i / p.Z) (i % p.Z))
    where
      same : (b : Bool) (q : Zone) → header_serial p (get_or (cond b (reset_zone q) q).blocks 0 no_chunk).block ≡ header_serial p (get_or q.blocks 0 no_chunk).block
      same true q = unfold reset_zone in refl
      same false q = refl

  untaken_then : (i : ℕ) → i < p.N * p.Z → untaken_no p u ts i ≡ (untaken_no p v ts i && not (eqb (serial_no p v i) n))
  untaken_then i l = as! (zone_then i l) (test (bears_no p v ts n i))
    where
      d : ℕ
      d = i / p.Z

      z : ℕ
      z = i % p.Z

      used! : (w : View) → w.offline ≡ v.offline → is_used p w d z ≡ is_good p v.offline d z && not (eqb (zone_at w d z).pointer 0)
      used! w e = unfold is_used pointer_at in ap (λ (l : List ℕ). is_good p l d z && not (eqb (zone_at w d z).pointer 0)) e

      zero! : (q : Zone) → (reset_zone q).pointer ≡ 0
      zero! q = unfold reset_zone in refl

      off : u.offline ≡ v.offline
      off = offline_after (serial_drops p v ts n) v

      both! : bears_no p v ts n i ≡ true → (untaken_no p v ts i && not (eqb (serial_no p v i) n)) ≡ false
      both! q = unfold bears_no in (and_false_right (untaken_no p v ts i) (not (eqb (serial_no p v i) n))
          (ap not (and_right (untaken_no p v ts i) (eqb (serial_no p v i) n) (parts q))))
        where
          parts : bears_no p v ts n i ≡ true → (untaken_no p v ts i && eqb (serial_no p v i) n) ≡ true
          parts q = unfold bears_no in q

      neither! : bears_no p v ts n i ≡ false → (untaken_no p v ts i && not (eqb (serial_no p v i) n)) ≡ untaken_no p v ts i
      neither! q = go (untaken_no p v ts i) (eqb (serial_no p v i) n) (parts q)
        where
          parts : bears_no p v ts n i ≡ false → (untaken_no p v ts i && eqb (serial_no p v i) n) ≡ false
          parts q = unfold bears_no in q

          go : (a b : Bool) → a && b ≡ false → a && not b ≡ a
          go true true q = clash refl q
          go true false q = refl
          go false b q = refl

      as! : zone_at u d z ≡ cond (bears_no p v ts n i) (reset_zone (zone_at v d z)) (zone_at v d z) → Test (bears_no p v ts n i)
          → untaken_no p u ts i ≡ (untaken_no p v ts i && not (eqb (serial_no p v i) n))
      as! e (yes! q) = unfold untaken_no in (and_false_right (not (get_or ts i false)) (is_used p u d z) (used! u off
          ∙ ap (λ (x : Zone). is_good p v.offline d z && not (eqb x.pointer 0)) (e ∙ cond_true (bears_no p v ts n i) (reset_zone (zone_at v d z)) (zone_at v d z) q)
          ∙ and_false_right (is_good p v.offline d z) (not (eqb (reset_zone (zone_at v d z)).pointer 0)) (ap not (eq-eqb (reset_zone (zone_at v d z)).pointer 0 (zero! (zone_at v d z)))))
          ∙ sym (both! q))
      as! e (no! q) = same! ∙ sym (neither! q)
        where
          same! : untaken_no p u ts i ≡ untaken_no p v ts i
          same! = unfold untaken_no in ap (λ (b : Bool). not (get_or ts i false) && b) (used! u off
              ∙ ap (λ (x : Zone). is_good p v.offline d z && not (eqb x.pointer 0)) (e ∙ cond_false (bears_no p v ts n i) (reset_zone (zone_at v d z)) (zone_at v d z) q)
              ∙ sym (used! v refl))

-- a reset of one zone, and the others
module _ (p : Params) (r : Ranged p) (v : View) (sz : Sized p v) (ts : List Bool) (n i : ℕ) (h : i < p.N * p.Z) where
  pub one-leaves : (j : ℕ) → j < p.N * p.Z → (j ≡ i → ⊥) → bears_no p (store_all store_view_of (one_drop p v ts n i) v) ts n j ≡ bears_no p v ts n j
  one-leaves j l d = as! (go (test (bears_no p v ts n i))) (offline_after (one_drop p v ts n i) v)
    where
      x : View
      x = store_all store_view_of (one_drop p v ts n i) v

      stays : (w : View) → w ≡ v → zone_at w (j / p.Z) (j % p.Z) ≡ zone_at v (j / p.Z) (j % p.Z)
      stays w e = ap (λ (y : View). zone_at y (j / p.Z) (j % p.Z)) e

      none! : bears_no p v ts n i ≡ false → x ≡ v
      none! q = unfold one_drop store_all in rw q refl

      once! : bears_no p v ts n i ≡ true → x ≡ store_all store_view_of (map (reset_no p) (i ∷ [])) v
      once! q = unfold one_drop in rw q refl

      missed : is_member_of (j / p.Z * p.Z + j % p.Z) (i ∷ []) ≡ false
      missed = unfold is_member_of any in or_neither (eqb (j / p.Z * p.Z + j % p.Z) i) false (ne_eqb (j / p.Z * p.Z + j % p.Z) i (λ e. d (sym (div-add-mod' j p.Z) ∙ e))) refl

      go : Test (bears_no p v ts n i) → zone_at x (j / p.Z) (j % p.Z) ≡ zone_at v (j / p.Z) (j % p.Z)
      go (no! q) = stays x (none! q)
      go (yes! q) =
          ap (λ (y : View). zone_at y (j / p.Z) (j % p.Z)) (once! q)
          ∙ dropped_zone_reset p r (i ∷ []) v sz (λ k m. only! k m) (j / p.Z) (j % p.Z) (number_drive p r j l) (number_zone p r j)
          ∙ cond_false (is_member_of (j / p.Z * p.Z + j % p.Z) (i ∷ [])) (reset_zone (zone_at v (j / p.Z) (j % p.Z))) (zone_at v (j / p.Z) (j % p.Z)) missed
        where
          only! : (k : ℕ) → In k (i ∷ []) → k < p.N * p.Z
          only! k (inl e) = subst (λ (y : ℕ). y < p.N * p.Z) (sym e) h
          only! k (inr m) = absurd m

      as! : zone_at x (j / p.Z) (j % p.Z) ≡ zone_at v (j / p.Z) (j % p.Z) → x.offline ≡ v.offline → bears_no p x ts n j ≡ bears_no p v ts n j
      as! e o = unfold bears_no untaken_no serial_no is_used pointer_at serial_in chunk_at in
          ap₂ (λ (q : Zone) (l : List ℕ). (not (get_or ts j false) && (is_good p l (j / p.Z) (j % p.Z) && not (eqb q.pointer 0))) && eqb (header_serial p (get_or q.blocks 0 no_chunk).block)
          n) e o

pub dropped_one_fits : (p : Params) → Ranged p → (v : View) (ts : List Bool) (n i : ℕ) → i < p.N * p.Z → AllFit p v (one_drop p v ts n i)
unfolding one_drop reset_no
dropped_one_fits p r v ts n i h = go (bears_no p v ts n i)
  where
    go : (b : Bool) → AllFit p v (cond b (reset (i / p.Z) (i % p.Z) ∷ []) [])
    go true = ((number_drive p r i h, number_zone p r i), tt)
    go false = tt

-- ---- one serial after the other

module _ (p : Params) (r : Ranged p) (v : View) (sz : Sized p v) (ts : List Bool) (at : ℕ) (k : LeastKey (untaken_no p v ts) (serial_no p v) (p.N * p.Z) at) where
  pub drops_none : p.N * p.Z ≤ at → all_drops p v ts ≡ []
  unfolding all_drops
  drops_none h = ap (map (reset_no p)) (keys_none (untaken_no p v ts) (serial_no p v) (p.N * p.Z) at k h)

  module _ (l : at < p.N * p.Z) where
    abbrev w : View
    w = store_all store_view_of (serial_drops p v ts (serial_no p v at)) v

    pub drops_first : all_drops p v ts ≡ serial_drops p v ts (serial_no p v at) ++ all_drops p w ts
    unfolding all_drops serial_drops bears_no
    drops_first =
        let s = serial_no p v at in
        let f = untaken_no p v ts in
        let g : ℕ → Bool = λ i. f i && not (eqb (serial_no p v i) s) in
        let n = p.N * p.Z in
        ap (map (reset_no p)) (keys_first f (serial_no p v) n at k l
        ∙ ap (λ (x : List ℕ). keep (λ i. f i && eqb (serial_no p v i) s) (below n) ++ x)
        (keys_cong g (untaken_no p w ts) (serial_no p v) (serial_no p w) n (λ i h. sym (untaken_then p r v sz ts s i h)) (λ i h. sym (serial_then p r v sz ts s i h))))
        ∙ map-append (reset_no p) (keep (λ i. f i && eqb (serial_no p v i) s) (below n)) (by_keys (untaken_no p w ts) (serial_no p w) n)

    -- fewer wait
    pub drops_fewer : tally (untaken_no p w ts) (below (p.N * p.Z)) < tally (untaken_no p v ts) (below (p.N * p.Z))
    unfolding tally
    drops_fewer =
        let s = serial_no p v at in
        let f = untaken_no p v ts in
        let n = p.N * p.Z in
        let e : keep (untaken_no p w ts) (below n) ≡ keep (λ i. not (eqb (serial_no p v i) s)) (keep f (below n)) =
        keep_cong (untaken_no p w ts) (λ i. f i && not (eqb (serial_no p v i) s)) (below n) (λ i m. untaken_then p r v sz ts s i (below_in n i m))
        ∙ sym (keep-keep (λ i. not (eqb (serial_no p v i) s)) f (below n)) in
        subst (λ (x : List ℕ). length x < length (keep f (below n))) (sym e)
        (keep-fewer (λ i. not (eqb (serial_no p v i) s)) (keep f (below n)) at (in_keep f (below n) at (in_below n at l) (k.at_passes l)) (ap not (eq-eqb s s refl)))

-- the view behind the resets of a serial's zones
pub drops_seen : (p : Params) (r : Ranged p) (off : List ℕ) (k k' : Disk) (ts : List Bool) (n : ℕ) → Whole p k
    → k' ≡ store_all (store_disk p) (serial_drops p (seen p off k) ts n) k → seen p off k' ≡ store_all store_view_of (serial_drops p (seen p off k) ts n) (seen p off k)
unfolding serial_drops
drops_seen p r off k k' ts n w e =
    let l = keep (bears_no p (seen p off k) ts n) (below (p.N * p.Z)) in
    seen-after p r off k k' (map (reset_no p) l) w
    (reset_numbers_fit p r l (seen p off k) (λ i m. below_in (p.N * p.Z) i (keep_in (bears_no p (seen p off k) ts n) (below (p.N * p.Z)) i m).0)) e

-- ---- the loops

-- zones i and on wait, as they came
pub record SerialLeft (p : Params) (off im : List ℕ) (ts : List Bool) (count : ℕ) (ps₀ : List ℕ) (n i left : ℕ) (ps : List ℕ) : Type 0 where
  pub within : i ≤ p.N * p.Z
  pub long : length ps ≡ pointers_len p
  pub same : (j : ℕ) → i ≤ j → j < p.N * p.Z → bears_no p (view_of p off im ps) ts n j ≡ bears_no p (view_of p off im ps₀) ts n j
  pub owes : Owes p count (serial_drops p (view_of p off im ps₀) ts n) (mk_disk im ps₀)
      (map (reset_no p) (keep (bears_no p (view_of p off im ps₀) ts n) (up_from i (p.N * p.Z - i)))) left (mk_disk im ps)

-- the serials that wait, on the drives as they are
pub record SerialsLeft (p : Params) (off im : List ℕ) (ts : List Bool) (count : ℕ) (ps₀ : List ℕ) (left : ℕ) (ps : List ℕ) : Type 0 where
  pub serials_long : length ps ≡ pointers_len p
  pub serials_owe : Owes p count (all_drops p (view_of p off im ps₀) ts) (mk_disk im ps₀) (all_drops p (view_of p off im ps) ts) left (mk_disk im ps)

module _ (p : Params) (r : Ranged p) (off im : List ℕ) (li : length im ≡ image_len p) (ts : List Bool) (count : ℕ) (ps₀ : List ℕ) (l₀ : length ps₀ ≡ pointers_len p) where
  abbrev at_k : List ℕ → Disk
  at_k ps = mk_disk im ps

  abbrev view : List ℕ → View
  view ps = view_of p off im ps

  whole! : (ps : List ℕ) → length ps ≡ pointers_len p → Whole p (mk_disk im ps)
  whole! ps l = record { image_long = li; pointers_long = l }

  pub serial_start : (n : ℕ) → SerialLeft p off im ts count ps₀ n 0 count ps₀
  serial_start n = record { within = omega arith; long = l₀; same = λ j _ _. refl; owes = λ m k' h. as! m k' h }
    where
      as! : (m : Result ℕ TooFew) (k' : Disk) → Storing p count (map (reset_no p) (keep (bears_no p (view ps₀) ts n) (up_from 0 (p.N * p.Z - 0)))) (at_k ps₀) m k'
          → Storing p count (serial_drops p (view ps₀) ts n) (at_k ps₀) m k'
      as! m k' h = unfold serial_drops in subst (λ (l : List ℕ). Storing p count (map (reset_no p) (keep (bears_no p (view ps₀) ts n) l)) (at_k ps₀) m k') (sym (below-start (p.N * p.Z))) h

  pub serial_done : (n i left : ℕ) (ps : List ℕ) → SerialLeft p off im ts count ps₀ n i left ps → p.N * p.Z ≤ i
      → Storing p count (serial_drops p (view ps₀) ts n) (at_k ps₀) (Ok left) (at_k ps)
  serial_done n i left ps s h =
      owes_done p count (serial_drops p (view ps₀) ts n) (at_k ps₀) left (at_k ps)
      (subst (λ (l : List Store). Owes p count (serial_drops p (view ps₀) ts n) (at_k ps₀) l left (at_k ps))
      (ap (λ (l : List ℕ). map (reset_no p) (keep (bears_no p (view ps₀) ts n) l)) (up_from_end i (p.N * p.Z) h) ∙ ap (map (reset_no p)) (keep_none (bears_no p (view ps₀) ts n))) s.owes)

  module _ (n i left : ℕ) (ps : List ℕ) (s : SerialLeft p off im ts count ps₀ n i left ps) (h : i < p.N * p.Z) where
    abbrev rest : List Store
    rest = map (reset_no p) (keep (bears_no p (view ps₀) ts n) (up_from (i + 1) (p.N * p.Z - (i + 1))))

    parts : Owes p count (serial_drops p (view ps₀) ts n) (at_k ps₀) (one_drop p (view ps) ts n i ++ rest) left (at_k ps)
    parts = subst (λ (l : List Store). Owes p count (serial_drops p (view ps₀) ts n) (at_k ps₀) l left (at_k ps))
        (ap (λ (l : List ℕ). map (reset_no p) (keep f l)) (up_from_step i (p.N * p.Z) h) ∙ go (test (f i)) ∙ ap (λ (l : List Store). l ++ rest) as_came) s.owes
      where
        f : ℕ → Bool
        f = bears_no p (view ps₀) ts n

        as_came : cond (f i) (reset_no p i ∷ []) [] ≡ one_drop p (view ps) ts n i
        as_came = unfold one_drop in ap (λ (b : Bool). cond b (reset_no p i ∷ []) []) (sym (s.same i (omega arith) h))

        go : Test (f i) → map (reset_no p) (keep f (i ∷ up_from (i + 1) (p.N * p.Z - (i + 1)))) ≡ cond (f i) (reset_no p i ∷ []) [] ++ rest
        go (yes! q) = ap (map (reset_no p)) (keep_hit f i (up_from (i + 1) (p.N * p.Z - (i + 1))) q) ∙ rw q refl
        go (no! q) = ap (map (reset_no p)) (keep_miss f i (up_from (i + 1) (p.N * p.Z - (i + 1))) q) ∙ rw q refl

    pub serial_cut : (ps' : List ℕ) → Storing p left (one_drop p (view ps) ts n i) (at_k ps) too_few (at_k ps')
        → Storing p count (serial_drops p (view ps₀) ts n) (at_k ps₀) too_few (at_k ps')
    serial_cut ps' t = owes_cut p count (serial_drops p (view ps₀) ts n) (at_k ps₀) (one_drop p (view ps) ts n i) rest left (at_k ps) (at_k ps') parts t

    pub serial_turn : (y : ℕ) (ps' : List ℕ) → Storing p left (one_drop p (view ps) ts n i) (at_k ps) (Ok y) (at_k ps') → length ps' ≡ length ps
        → SerialLeft p off im ts count ps₀ n (i + 1) y ps'
    serial_turn y ps' t lp = record {
      within = omega arith;
      long = lp ∙ s.long;
      same = λ j a b. ap (λ (v : View). bears_no p v ts n j) seen! ∙ one-leaves p r (view ps) (sized_of p off (at_k ps) (whole! ps s.long)) ts n i h j b (λ e. let x : ⊥ = omega arith in x)
          ∙ s.same j (omega arith) b;
      owes = owes_turn p count (serial_drops p (view ps₀) ts n) (at_k ps₀) (one_drop p (view ps) ts n i) rest left (at_k ps) y (at_k ps') parts t;
    }
      where
        seen! : view ps' ≡ store_all store_view_of (one_drop p (view ps) ts n i) (view ps)
        seen! = seen-after p r off (at_k ps) (at_k ps') (one_drop p (view ps) ts n i) (whole! ps s.long) (dropped_one_fits p r (view ps) ts n i h)
            (storing_all p left (one_drop p (view ps) ts n i) (at_k ps) y (at_k ps') t)

  pub serials-start : SerialsLeft p off im ts count ps₀ count ps₀
  serials-start = record { serials_long = l₀; serials_owe = λ m k' h. h }

  module _ (left : ℕ) (ps : List ℕ) (a : SerialsLeft p off im ts count ps₀ left ps) (at : ℕ)
      (k : LeastKey (untaken_no p (view_of p off im ps) ts) (serial_no p (view_of p off im ps)) (p.N * p.Z) at) where
    sz! : Sized p (view ps)
    sz! = sized_of p off (at_k ps) (whole! ps a.serials_long)

    pub serials_done : p.N * p.Z ≤ at → Storing p count (all_drops p (view ps₀) ts) (at_k ps₀) (Ok left) (at_k ps)
    serials_done h = owes_done p count (all_drops p (view ps₀) ts) (at_k ps₀) left (at_k ps)
        (subst (λ (l : List Store). Owes p count (all_drops p (view ps₀) ts) (at_k ps₀) l left (at_k ps)) (drops_none p r (view ps) sz! ts at k h) a.serials_owe)

    module _ (h : at < p.N * p.Z) (n : ℕ) (e : n ≡ serial_no p (view_of p off im ps) at) where
      made! : (m : Result ℕ TooFew) (ps' : List ℕ) → Storing p left (serial_drops p (view ps) ts n) (at_k ps) m (at_k ps')
          → Storing p left (serial_drops p (view ps) ts (serial_no p (view ps) at)) (at_k ps) m (at_k ps')
      made! m ps' = subst (λ (x : ℕ). Storing p left (serial_drops p (view ps) ts x) (at_k ps) m (at_k ps')) e

      abbrev v₂ : View
      v₂ = store_all store_view_of (serial_drops p (view ps) ts (serial_no p (view ps) at)) (view ps)

      split! : Owes p count (all_drops p (view ps₀) ts) (at_k ps₀) (serial_drops p (view ps) ts (serial_no p (view ps) at) ++ all_drops p v₂ ts) left (at_k ps)
      split! = subst (λ (l : List Store). Owes p count (all_drops p (view ps₀) ts) (at_k ps₀) l left (at_k ps)) (drops_first p r (view ps) sz! ts at k h) a.serials_owe

      pub serials-cut : (ps' : List ℕ) → Storing p left (serial_drops p (view_of p off im ps) ts n) (mk_disk im ps) too_few (mk_disk im ps')
          → Storing p count (all_drops p (view ps₀) ts) (at_k ps₀) too_few (at_k ps')
      serials-cut ps' t =
          owes_cut p count (all_drops p (view ps₀) ts) (at_k ps₀) (serial_drops p (view ps) ts (serial_no p (view ps) at)) (all_drops p v₂ ts) left (at_k ps) (at_k ps') split!
          (made! too_few ps' t)

      module _ (y : ℕ) (ps' : List ℕ) (t : Storing p left (serial_drops p (view_of p off im ps) ts n) (mk_disk im ps) (Ok y) (mk_disk im ps')) where
        now! : view ps' ≡ v₂
        now! = drops_seen p r off (at_k ps) (at_k ps') ts (serial_no p (view ps) at) (whole! ps a.serials_long)
            (storing_all p left (serial_drops p (view ps) ts (serial_no p (view ps) at)) (at_k ps) y (at_k ps') (made! (Ok y) ps' t))

        pub serials_turn : length ps' ≡ length ps → SerialsLeft p off im ts count ps₀ y ps'
        serials_turn lp = record {
          serials_long = lp ∙ a.serials_long;
          serials_owe = subst (λ (v : View). Owes p count (all_drops p (view ps₀) ts) (at_k ps₀) (all_drops p v ts) y (at_k ps')) (sym now!)
              (owes_turn p count (all_drops p (view ps₀) ts) (at_k ps₀) (serial_drops p (view ps) ts (serial_no p (view ps) at)) (all_drops p v₂ ts) left (at_k ps)
              y (at_k ps') split! (made! (Ok y) ps' t));
        }

        pub serials-fewer : tally (untaken_no p (view ps') ts) (below (p.N * p.Z)) < tally (untaken_no p (view ps) ts) (below (p.N * p.Z))
        serials-fewer = subst (λ (v : View). tally (untaken_no p v ts) (below (p.N * p.Z)) < tally (untaken_no p (view ps) ts) (below (p.N * p.Z))) (sym now!)
            (drops_fewer p r (view ps) sz! ts at k h)
