-- The drops of a healthy restart (01, Restart, 4; 02, item 4): all zones that bear a serial that does not remain are reset, and what is left is tidy.
use Rattle.std.specs.Prelude.{◌≡◌, Bool, false, cond, ◌&&◌, ◌⊎◌, ℕ, ◌≤◌, ◌<◌, ltb, get_or}
use Rattle.std.proofs.Math.Path.{refl, ap, ap₂, subst}
use Rattle.std.proofs.Common.{sym, ◌∙◌, inl, inr}
use mathlib.Core.List.{List, [], ◌∷◌, map}
use Rattle.std.proofs.Math.Bool.{true, not}
use native.Mathlib.Omega.{arith}
use borrow.Author.Tests.{eqb-true, eq-eqb, ne_eqb, not-true}
use Rattle.std.proofs.Math.Dec.{eqb}
use Rattle.spec.specs.declared.Params.{Params}
use Rattle.spec.specs.Drives.{View, Zone, zone_at, reset_zone, store_view_of, store_all, Store, chunk_at, is_good, no_chunk, pointer_at, same_seg, zone_on}
use Rattle.spec.specs.Drives.Store.{reset}
use Rattle.spec.specs.Lists.{below, any, keep, is_nil, flat, greatest, insert_once, rising}
use Rattle.spec.specs.Params.{drives_of, capacity}
use Rattle.spec.specs.Restart.{serials_there, dropped_serials, drop_stores}
use Rattle.spec.specs.Segments.{Segment, is_used, serial_in, bearing, remaining, segments, greatest_serial, header_at, is_copy, left_by1, low_drive, segment_of}
use Rattle.law_basic.specs.Ranges.{Test, test, and_left, and_right, and_both}
use Rattle.law_basic.specs.Ranges.Test.{yes!, no! }
use Rattle.law_drives.specs.Members.{In, in_map, map_in, in_flat, flat_in, in_keep, keep_in, in_below, below_in, in_some, any_in, in_any}
use Rattle.law_drives.specs.Tests.{clash, true_false, eqb_self, and_false_right}
use Rattle.law_drives.specs.Zones.{Sized, hits_at_of, zone_store, hits, zone_after, Shaped}
use Rattle.law_basic.specs.Geometry.{Ranged}
use Rattle.law_basic.specs.Mask.{is_in_empty}
use Rattle.law_basic.specs.Segs.{seg-other, segs_differ}
use Rattle.law_drives.specs.Accept.{Accepted, bears_once, copied-low, pointer_ok, zone_borne, zone_in_range}
use Rattle.law_drives.specs.Counting.{in_greatest}
use Rattle.law_drives.specs.Heads.{Cleared, cleared_keeps, cleared_was}
use Rattle.law_drives.specs.Segs.{copied_is, remaining_left, serial_is}
use Rattle.law_drives.specs.Settled.{SameZones, low_first, zero_here, zones_header}
use Rattle.law_drives.specs.Tidy.{There, Tidy}
use Rattle.spec.specs.Layout.{header_copied, header_serial}
use Rattle.spec.specs.declared.Seg.{Seg}
use Rattle.law_views.specs.Alike.{offline_after}

-- ---- a rising list has the numbers of the list

pub in_insert : (n : ℕ) (l : List ℕ) (k : ℕ) → (k ≡ n) ⊎ In k l → In k (insert_once n l)
unfolding insert_once
in_insert n [] k (inl e) = inl e
in_insert n [] k (inr x) = absurd x
in_insert n (a ∷ l) k h = go (test (ltb n a)) (test (eqb n a)) h (in_insert n l k)
  where
    go : Test (ltb n a) → Test (eqb n a) → (k ≡ n) ⊎ In k (a ∷ l) → ((k ≡ n) ⊎ In k l → In k (insert_once n l))
        → In k (cond (ltb n a) (n ∷ a ∷ l) (a ∷ cond (eqb n a) l (insert_once n l)))
    go (yes! q) e (inl x) ih = rw q (inl x)
    go (yes! q) e (inr x) ih = rw q (inr x)
    go (no! q) (yes! e) (inl x) ih = rw (q, e) (inl (x ∙ eqb-true n a e))
    go (no! q) (yes! e) (inr x) ih = rw (q, e) x
    go (no! q) (no! e) (inl x) ih = rw (q, e) (inr (ih (inl x)))
    go (no! q) (no! e) (inr (inl x)) ih = rw (q, e) (inl x)
    go (no! q) (no! e) (inr (inr x)) ih = rw (q, e) (inr (ih (inr x)))

pub insert_in : (n : ℕ) (l : List ℕ) (k : ℕ) → In k (insert_once n l) → (k ≡ n) ⊎ In k l
unfolding insert_once
insert_in n [] k (inl e) = inl e
insert_in n [] k (inr x) = absurd x
insert_in n (a ∷ l) k h = go (test (ltb n a)) (test (eqb n a)) h (insert_in n l k)
  where
    go : Test (ltb n a) → Test (eqb n a) → In k (cond (ltb n a) (n ∷ a ∷ l) (a ∷ cond (eqb n a) l (insert_once n l))) → (In k (insert_once n l) → (k ≡ n) ⊎ In k l)
        → (k ≡ n) ⊎ In k (a ∷ l)
    go (yes! q) e x ih = rw q at x
    go (no! q) (yes! e) x ih = inr (rw (q, e) at x)
    go (no! q) (no! e) x ih = later (rw (q, e) at x)
      where
        later : In k (a ∷ insert_once n l) → (k ≡ n) ⊎ In k (a ∷ l)
        later (inl y) = inr (inl y)
        later (inr y) = there (ih y)
          where
            there : (k ≡ n) ⊎ In k l → (k ≡ n) ⊎ In k (a ∷ l)
            there (inl z) = inl z
            there (inr z) = inr (inr z)

pub in_rising : (l : List ℕ) (k : ℕ) → In k l → In k (rising l)
unfolding rising
in_rising (n ∷ l) k (inl e) = in_insert n (rising l) k (inl e)
in_rising (n ∷ l) k (inr m) = in_insert n (rising l) k (inr (in_rising l k m))
in_rising [] k m = absurd m

pub rising_in : (l : List ℕ) (k : ℕ) → In k (rising l) → In k l
unfolding rising
rising_in [] k m = absurd m
rising_in (n ∷ l) k m = go (insert_in n (rising l) k m) (rising_in l k)
  where
    go : (k ≡ n) ⊎ In k (rising l) → (In k (rising l) → In k l) → In k (n ∷ l)
    go (inl e) ih = inl e
    go (inr x) ih = inr (ih x)

-- ---- which zones are reset

-- a zone that bears a serial that does not remain
unfoldable pub drops_at : Params → View → List Segment → ℕ → ℕ → Bool
drops_at p v gs d z = is_used p v d z && not (any (λ (g : Segment). eqb g.serial (serial_in p v d z)) gs)

module _ (p : Params) (v : View) (gs : List Segment) where
  abbrev ds : List Store
  ds = drop_stores p v gs

  -- each of the stores is the reset of such a zone
  pub drop_is : (s : Store) → In s ds → (d : ℕ) × (z : ℕ) × (s ≡ reset d z) × (d < p.N) × (z < p.Z) × (drops_at p v gs d z ≡ true)
  unfolding drop_stores dropped_serials bearing drives_of drops_at
  drop_is s m =
      let (r, ir, k) = flat_in (λ r. flat (λ d. map (reset d) (bearing p v d r)) (below p.N)) (keep (λ r. not (any (λ (g : Segment). eqb g.serial r) gs)) (serials_there p v)) s m in
      let (d, id, j) = flat_in (λ d. map (reset d) (bearing p v d r)) (below p.N) s k in
      let (z, iz, e) = map_in (reset d) (bearing p v d r) s j in
      let (a, q) = keep_in (λ z. is_used p v d z && eqb (serial_in p v d z) r) (below p.Z) z iz in
      let (b, t) = keep_in (λ r. not (any (λ (g : Segment). eqb g.serial r) gs)) (serials_there p v) r ir in
      let er : serial_in p v d z ≡ r = eqb-true (serial_in p v d z) r (and_right (is_used p v d z) (eqb (serial_in p v d z) r) q) in (
        d,
        z,
        e,
        below_in p.N d id,
        below_in p.Z z a,
        and_both (is_used p v d z) (not (any (λ (g : Segment). eqb g.serial (serial_in p v d z)) gs)) (and_left (is_used p v d z) (eqb (serial_in p v d z) r) q)
            (subst (λ (n : ℕ). not (any (λ (g : Segment). eqb g.serial n) gs) ≡ true) (sym er) t),
      )

  -- and each such zone is reset
  pub is_drop : (d z : ℕ) → d < p.N → z < p.Z → drops_at p v gs d z ≡ true → In (reset d z) ds
  unfolding drop_stores dropped_serials serials_there bearing drives_of drops_at
  is_drop d z hd hz q =
      let r = serial_in p v d z in
      let u = and_left (is_used p v d z) (not (any (λ (g : Segment). eqb g.serial r) gs)) q in
      let n = and_right (is_used p v d z) (not (any (λ (g : Segment). eqb g.serial r) gs)) q in
      let all = flat (λ d. map (serial_in p v d) (keep (is_used p v d) (below p.Z))) (below p.N) in
      let mr : In r all = in_flat (λ d. map (serial_in p v d) (keep (is_used p v d) (below p.Z))) (below p.N) d r (in_below p.N d hd)
      (in_map (serial_in p v d) (keep (is_used p v d) (below p.Z)) z (in_keep (is_used p v d) (below p.Z) z (in_below p.Z z hz) u)) in
      in_flat (λ r. flat (λ d. map (reset d) (keep (λ z. is_used p v d z && eqb (serial_in p v d z) r) (below p.Z))) (below p.N))
      (keep (λ r. not (any (λ (g : Segment). eqb g.serial r) gs)) (rising all)) r (reset d z)
      (in_keep (λ r. not (any (λ (g : Segment). eqb g.serial r) gs)) (rising all) r (in_rising all r mr) n)
      (in_flat (λ d. map (reset d) (keep (λ z. is_used p v d z && eqb (serial_in p v d z) r) (below p.Z))) (below p.N) d (reset d z) (in_below p.N d hd)
      (in_map (reset d) (keep (λ z. is_used p v d z && eqb (serial_in p v d z) r) (below p.Z)) z
      (in_keep (λ z. is_used p v d z && eqb (serial_in p v d z) r) (below p.Z) z (in_below p.Z z hz) (and_both (is_used p v d z) (eqb (serial_in p v d z) r) u (eqb_self r)))))

  -- ---- what a zone holds behind them

  one-step : (s : Store) (l : List Store) (q : Zone) → store_all zone_store (s ∷ l) q ≡ store_all zone_store l (zone_store s q)
  unfolding store_all
  one-step s l q = refl

  dropping_none_left : (q : Zone) → store_all zone_store [] q ≡ q
  unfolding store_all
  dropping_none_left q = refl

  reset_is : (d z : ℕ) (q : Zone) → zone_store (reset d z) q ≡ reset_zone q
  unfolding zone_store
  reset_is d z q = refl

  reset_twice : (q : Zone) → reset_zone (reset_zone q) ≡ reset_zone q
  unfolding reset_zone
  reset_twice q = refl

  resets-one : (d z : ℕ) (l : List Store) (q : Zone) → ((s : Store) → In s l → s ≡ reset d z) → is_nil l ≡ false → store_all zone_store l q ≡ reset_zone q
  unfolding is_nil
  resets-one d z [] q h n = true_false n
  resets-one d z (s ∷ []) q h n = one-step s [] q ∙ dropping_none_left (zone_store s q) ∙ ap (λ (x : Store). zone_store x q) (h s (inl refl)) ∙ reset_is d z q
  resets-one d z (s ∷ t ∷ l) q h n =
      one-step s (t ∷ l) q ∙ ap (λ (x : Store). store_all zone_store (t ∷ l) (zone_store x q)) (h s (inl refl))
      ∙ resets-one d z (t ∷ l) (zone_store (reset d z) q) (λ x m. h x (inr m)) refl ∙ ap reset_zone (reset_is d z q) ∙ reset_twice q

  module _ (sz : Sized p v) (d z : ℕ) (hd : d < p.N) (hz : z < p.Z) where
    abbrev u : View
    u = store_all store_view_of ds v

    hits_are : (s : Store) → In s (hits d z ds) → (s ≡ reset d z) × (drops_at p v gs d z ≡ true)
    unfolding hits_at_of
    hits_are s m =
        let (i, q) = keep_in (hits_at_of d z) ds s m in
        let (e, y, x, _, _, t) = drop_is s i in
        let w : (eqb e d && eqb y z) ≡ true = subst (λ (k : Store). hits_at_of d z k ≡ true) x q in
        let a = eqb-true e d (and_left (eqb e d) (eqb y z) w) in
        let b = eqb-true y z (and_right (eqb e d) (eqb y z) w) in
        (x ∙ ap₂ reset a b, subst (λ (k : ℕ). drops_at p v gs k z ≡ true) a (subst (λ (k : ℕ). drops_at p v gs e k ≡ true) b t))

    pub drop_reset : drops_at p v gs d z ≡ true → zone_at u d z ≡ reset_zone (zone_at v d z)
    drop_reset q =
        zone_after p v d z ds sz hd hz
        ∙ resets-one d z (hits d z ds) (zone_at v d z) (λ s m. (hits_are s m).0) (in_some (hits d z ds) (reset d z) (in_keep (hits_at_of d z) ds (reset d z) (is_drop d z hd hz q) self))
      where
        self : hits_at_of d z (reset d z) ≡ true
        self = unfold hits_at_of in and_both (eqb d d) (eqb z z) (eqb_self d) (eqb_self z)

    pub drop_keeps : drops_at p v gs d z ≡ false → zone_at u d z ≡ zone_at v d z
    drop_keeps q =
        zone_after p v d z ds sz hd hz
        ∙ ap (λ (l : List Store). store_all zone_store l (zone_at v d z)) (nothing (hits d z ds) (λ s m. clash (hits_are s m).1 q))
        ∙ dropping_none_left (zone_at v d z)
      where
        nothing : (l : List Store) → ((s : Store) → In s l → ⊥) → l ≡ []
        nothing [] h = refl
        nothing (s ∷ l) h = absurd (h s (inl refl))

-- ---- behind the drops of an accepted image

module _ (p : Params) (r : Ranged p) (v : View) (sh : Shaped p v) (acc : Accepted p v 0) where
  abbrev gs : List Segment
  gs = segments p v 0

  abbrev va : View
  va = store_all store_view_of (drop_stores p v gs) v

  h0 : 0 < p.N
  h0 = omega (arith, r.drives_low)

  abbrev Kept : Seg → Type 0
  Kept g = In g (remaining p v 0)

  dropping_serial_in : (g : Seg) (d : ℕ) → Kept g → d < p.N → serial_in p v d (zone_on g d) ≡ (segment_of p v 0 g).serial
  dropping_serial_in g d m hd = (zone_borne p v 0 (zero_here p r) g d (remaining_left p v 0 g m) hd (is_in_empty d)).serial

  in_gs : (g : Seg) → Kept g → In (segment_of p v 0 g) gs
  unfolding segments
  in_gs g m = in_map (segment_of p v 0) (remaining p v 0) g m

  -- the zones of what remains are not reset
  pub kept_stays : (g : Seg) (d : ℕ) → Kept g → d < p.N → drops_at p v gs d (zone_on g d) ≡ false
  unfolding drops_at
  kept_stays g d m hd = and_false_right (is_used p v d (zone_on g d)) (not (any (λ (x : Segment). eqb x.serial (serial_in p v d (zone_on g d))) gs))
      (ap not (in_any (λ (x : Segment). eqb x.serial (serial_in p v d (zone_on g d))) gs (segment_of p v 0 g) (in_gs g m)
      (eq-eqb (segment_of p v 0 g).serial (serial_in p v d (zone_on g d)) (sym (dropping_serial_in g d m hd)))))

  zone_low! : (g : Seg) (d : ℕ) → Kept g → d < p.N → zone_on g d < p.Z
  zone_low! g d m hd = zone_in_range p v 0 acc (zero_here p r) g d m hd

  pub drop_same : (g : Seg) → Kept g → SameZones p v va g
  drop_same g m d hd = sym (drop_keeps p v gs sh.sized d (zone_on g d) hd (zone_low! g d m hd) (kept_stays g d m hd))

  -- any other zone that is used is reset
  used_after : (d z : ℕ) → d < p.N → z < p.Z → is_used p va d z ≡ true → (is_used p v d z ≡ true) × (drops_at p v gs d z ≡ false)
  used_after d z hd hz q = go (test (drops_at p v gs d z))
    where
      off : va.offline ≡ v.offline
      off = offline_after (drop_stores p v gs) v

      empty! : (zone_at va d z).pointer ≡ 0 → is_used p va d z ≡ false
      empty! e = unfold is_used pointer_at in and_false_right (is_good p va.offline d z) (not (eqb (zone_at va d z).pointer 0)) (ap not (eq-eqb (zone_at va d z).pointer 0 e))

      same! : zone_at va d z ≡ zone_at v d z → is_used p va d z ≡ is_used p v d z
      same! e = unfold is_used pointer_at in ap₂ (λ (l : List ℕ) (x : Zone). is_good p l d z && not (eqb x.pointer 0)) off e

      zero! : (reset_zone (zone_at v d z)).pointer ≡ 0
      zero! = unfold reset_zone in refl

      go : Test (drops_at p v gs d z) → (is_used p v d z ≡ true) × (drops_at p v gs d z ≡ false)
      go (yes! x) = clash q (empty! (ap (λ (y : Zone). y.pointer) (drop_reset p v gs sh.sized d z hd hz x) ∙ zero!))
      go (no! x) = (sym (same! (drop_keeps p v gs sh.sized d z hd hz x)) ∙ q, x)

  kept_used : (g : Seg) (d : ℕ) → Kept g → d < p.N → is_used p va d (zone_on g d) ≡ true
  kept_used g d m hd = same! (drop_same g m d hd) ∙ (zone_borne p v 0 (zero_here p r) g d (remaining_left p v 0 g m) hd (is_in_empty d)).used
    where
      same! : zone_at v d (zone_on g d) ≡ zone_at va d (zone_on g d) → is_used p va d (zone_on g d) ≡ is_used p v d (zone_on g d)
      same! e = unfold is_used pointer_at in ap₂ (λ (l : List ℕ) (x : Zone). is_good p l d (zone_on g d) && not (eqb x.pointer 0)) (offline_after (drop_stores p v gs) v) (sym e)

  not_dropped : (d z : ℕ) → is_used p v d z ≡ true → drops_at p v gs d z ≡ false → any (λ (x : Segment). eqb x.serial (serial_in p v d z)) gs ≡ true
  unfolding drops_at
  not_dropped d z u q = go (test (any (λ (x : Segment). eqb x.serial (serial_in p v d z)) gs))
    where
      go : Test (any (λ (x : Segment). eqb x.serial (serial_in p v d z)) gs) → any (λ (x : Segment). eqb x.serial (serial_in p v d z)) gs ≡ true
      go (yes! e) = e
      go (no! e) = clash (and_both (is_used p v d z) (not (any (λ (x : Segment). eqb x.serial (serial_in p v d z)) gs)) u (ap not e)) q

  -- just what remains is there
  pub drop-cleared : Cleared p v va Kept
  drop-cleared = record {
    stays_there = λ g m. remaining_left p v 0 g m;
    stays_used = λ d g hd m. kept_used g d m hd;
    stays_serial = λ d g hd m. serial! d g (drop_same g m d hd);
    others_gone = λ d z hd hz q.
        let (u, n) = used_after d z hd hz q in
        let (x, i, e) = any_in (λ (x : Segment). eqb x.serial (serial_in p v d z)) gs (not_dropped d z u n) in
        let (g, m, f) = of! x i in
        let s : serial_in p v d z ≡ (segment_of p v 0 g).serial = sym (ap (λ (y : Segment). y.serial) (sym f) ∙ eqb-true x.serial (serial_in p v d z) e) in
        (g, m, sym (bears_once p v 0 acc (zero_here p r) g d z m hd (is_in_empty d) hz u s));
  }
    where
      serial! : (d : ℕ) (g : Seg) → zone_at v d (zone_on g d) ≡ zone_at va d (zone_on g d) → serial_in p v d (zone_on g d) ≡ serial_in p va d (zone_on g d)
      serial! d g e = unfold serial_in chunk_at in ap (λ (x : Zone). header_serial p (get_or x.blocks 0 no_chunk).block) e

      of! : (x : Segment) → In x gs → (g : Seg) × Kept g × (x ≡ segment_of p v 0 g)
      of! x i = unfold segments in map_in (segment_of p v 0) (remaining p v 0) x i

  pub drop_there : (g : Seg) → Kept g → There p va g
  drop_there g m = cleared_keeps p r v va Kept drop-cleared g m

  pub there_kept : (g : Seg) → There p va g → Kept g
  there_kept g m = cleared_was p r v va Kept drop-cleared g m

  -- ---- serials

  abbrev ser : Seg → ℕ
  ser y = header_serial p (header_at v 0 y)

  abbrev cop : Seg → ℕ
  cop y = header_copied p (header_at v 0 y)

  ser_is : (y : Seg) → (segment_of p v 0 y).serial ≡ ser y
  ser_is y = serial_is p v 0 y ∙ ap (λ (x : ℕ). header_serial p (header_at v x y)) (low_first p r)

  cop_is : (y : Seg) → (segment_of p v 0 y).copied ≡ cop y
  cop_is y = copied_is p v 0 y ∙ ap (λ (x : ℕ). header_copied p (header_at v x y)) (low_first p r)

  pub kept_less : (y : Seg) → Kept y → cop y < ser y
  kept_less y m = let a = copied-low p v 0 acc y m in let e = ser_is y in let f = cop_is y in omega arith

  pub kept_known : (y : Seg) → Kept y → ser y ≤ greatest_serial gs
  kept_known y m =
      as! (in_greatest (ser y) (map (λ (g : Segment). g.serial) gs)
      (subst (λ (n : ℕ). In n (map (λ (g : Segment). g.serial) gs)) (ser_is y) (in_map (λ (g : Segment). g.serial) gs (segment_of p v 0 y) (in_gs y m))))
    where
      as! : ser y ≤ greatest (map (λ (g : Segment). g.serial) gs) → ser y ≤ greatest_serial gs
      as! x = unfold greatest_serial in x

  pub kept_no_copy : (y z : Seg) → Kept y → Kept z → cop y ≡ ser z → ⊥
  kept_no_copy y z a b e = go (segs_differ z y)
    where
      not_copy : is_copy p v (low_drive p 0) (left_by1 p v 0) y ≡ false
      not_copy = not-true (is_copy p v (low_drive p 0) (left_by1 p v 0) y) (right! a)
        where
          right! : Kept y → not (is_copy p v (low_drive p 0) (left_by1 p v 0) y) ≡ true
          right! m = unfold remaining in (keep_in (λ g. not (is_copy p v (low_drive p 0) (left_by1 p v 0) g)) (left_by1 p v 0) y m).1

      copy! : (z ≡ y → ⊥) → is_copy p v 0 (left_by1 p v 0) y ≡ true
      copy! n = unfold is_copy in and_both (not (eqb (cop y) 0)) (any (λ h. not (same_seg h y) && eqb (ser h) (cop y)) (left_by1 p v 0))
          (ap not (ne_eqb (cop y) 0 (λ x. let c = kept_less z b in let bad : ⊥ = omega arith in bad)))
          (in_any (λ h. not (same_seg h y) && eqb (ser h) (cop y)) (left_by1 p v 0) z (remaining_left p v 0 z b)
          (and_both (not (same_seg z y)) (eqb (ser z) (cop y)) (ap not (seg-other z y n)) (eq-eqb (ser z) (cop y) (sym e))))

      go : Dec (z ≡ y) → ⊥
      go (yes x) = let c = kept_less y a in let f : ser z ≡ ser y = ap ser x in let bad : ⊥ = omega arith in bad
      go (no n) = clash (copy! n) (subst (λ (x : ℕ). is_copy p v x (left_by1 p v 0) y ≡ false) (low_first p r) not_copy)

  -- ---- the view is tidy

  hdr : (y : Seg) → Kept y → header_at v 0 y ≡ header_at va 0 y
  hdr y m = zones_header p r v va y (drop_same y m)

  pub drop_tidy : Tidy p va (greatest_serial gs)
  drop_tidy = record {
    pointer_low = λ d z hd hz q. low d z hd hz (subst (λ (l : List ℕ). is_good p l d z ≡ true) (offline_after (drop_stores p v gs) v) q) (test (drops_at p v gs d z));
    together = λ d z hd hz q. let (g, m, e) = drop-cleared.others_gone d z hd hz q in (g, drop_there g m, e);
    copied_less = λ y m. let k = there_kept y m in subst (λ (x : List ℕ). header_copied p x < header_serial p x) (hdr y k) (kept_less y k);
    serial_known = λ y m. let k = there_kept y m in subst (λ (x : List ℕ). header_serial p x ≤ greatest_serial gs) (hdr y k) (kept_known y k);
    no_copy = λ y z m n e.
        let k = there_kept y m in
        let l = there_kept z n in
        kept_no_copy y z k l (ap (header_copied p) (hdr y k) ∙ e ∙ ap (header_serial p) (sym (hdr z l)));
  }
    where
      low : (d z : ℕ) → d < p.N → z < p.Z → is_good p v.offline d z ≡ true → Test (drops_at p v gs d z) → pointer_at va d z ≤ capacity p
      low d z hd hz g (yes! q) = zero! (drop_reset p v gs sh.sized d z hd hz q)
        where
          zero! : zone_at va d z ≡ reset_zone (zone_at v d z) → pointer_at va d z ≤ capacity p
          zero! e = unfold pointer_at in (subst (λ (x : Zone). x.pointer ≤ capacity p) (sym e) (unfold reset_zone in omega arith))
      low d z hd hz g (no! q) = same! (drop_keeps p v gs sh.sized d z hd hz q) (pointer_ok p v 0 acc d z hd hz (is_in_empty d) g)
        where
          same! : zone_at va d z ≡ zone_at v d z → pointer_at v d z ≤ capacity p → pointer_at va d z ≤ capacity p
          same! e l = unfold pointer_at in subst (λ (x : Zone). x.pointer ≤ capacity p) (sym e) l
