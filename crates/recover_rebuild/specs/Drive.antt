-- The rebuild of a drive: resets, then each flagged segment by rising serial (01, Rebuild; 02, item 4). Assumes nothing.
use Rattle.std.specs.Prelude.{Result, Ok, ◌≡◌, Bool, true, false, ◌&&◌, eqb, length}
use Rattle.std.proofs.Math.Path.{refl, sym, ap}
use Rattle.std.proofs.Common.{◌∙◌, subst, ne_eqb, eqb-true, arith}
use mathlib.Core.List.{List, [], ◌∷◌, ◌++◌, map}
use Prim.Native.Nat.{ℕ, ◌*◌, ◌≤◌, ◌<◌}
use Rattle.std.proofs.Math.ListN.{get_or}
use Rattle.spec.specs.declared.Params.{Params}
use Rattle.spec.specs.Bytes.{part}
use Rattle.spec.specs.Drives.{Zone, View, zone_at, pointer_at, Store, Disk, pointer_of, store_all, zone_on, seg, is_good, good_zones}
use Rattle.spec.specs.Drives.Store.{reset}
use Rattle.spec.specs.Lists.{below, keep, flat}
use Rattle.spec.specs.Params.{named}
use Rattle.spec.specs.Rebuild.{rebuilt_zone, rebuild_stores, by_serial}
use Rattle.spec.specs.Segments.{low_drive, remaining, Segment, segment_of, segments}
use Rattle.law_basic.specs.Geometry.{Ranged}
use Rattle.law_basic.specs.Ranges.{Test, test, keep-map, keep-below_same, flat_none, flat-cons}
use Rattle.law_basic.specs.Ranges.Test.{yes!, no! }
use Rattle.law_basic.specs.Segs.{ZonesLow}
use Rattle.law_views.specs.Alike.{seen_alike}
use Rattle.law_views.specs.Views.{Whole, pointer_view, AllFit, seen}
use Rattle.law_drives.specs.Accept.{Accepted, named_here, faults_apart, zone_in_range, zone_good, zone_once, serials_differ, copied-low}
use Rattle.law_drives.specs.Frame.{Agree}
use Rattle.law_drives.specs.Image.{sized_of}
use Rattle.law_drives.specs.Masks.{named_in}
use Rattle.law_drives.specs.Members.{In, map_in, keep_in, flat_cong, keep_nothing, keep-keep, flat_map, below_in}
use Rattle.law_drives.specs.Puts.{keep-one-below}
use Rattle.law_drives.specs.Segs.{Here, seg_is, serial_is, remaining-low}
use Rattle.law_drives.specs.Tables.{seg_at, remains_at, at-remaining, seg-at_zone}
use Rattle.law_drives.specs.Tests.{and_false_left, and_false_right, eqb_self}
use Rattle.law_drives.specs.Zones.{hits_at_of, zone_store, hits, zone_after, reset_pointer}
use Rattle.law_restart.specs.Frames.{seen-after}
use Rattle.recover_drop.specs.AnyList.{fits_alike, segment_alike}
use Rattle.recover_drop.specs.Going.{going_kept, going_first}
use Rattle.disk_zones.specs.declared.TooFew.{TooFew}
use Rattle.disk_zones.specs.Made.{too_few, Storing, storing_all}
use Rattle.disk_gather.specs.Flags.{Serials, Keeps, FlagsRows}
use Rattle.disk_gather.specs.Found.{remains_leads, kept_serial}
use Rattle.recover_groups.specs.Faulty.{no_recs_fault}
use Rattle.recover_groups.specs.Groups.{recs_fault}
use Rattle.recover_segments.specs.Kept.{kept_row, segments-list}
use Rattle.recover_reset.specs.Rebuilt.{rebuilt_apart, same_rebuilt}
use Rattle.recover_decode.specs.Group.{same_recs_fault}
use Rattle.recover_decode.specs.Moving.{OnDrive, Moving, moving_list, moving_start, moving_as, moving_cut, moving_turn, moving_done, drive_apart}
use Rattle.spec.specs.declared.Seg.{Seg}
use Rattle.recover_rebuild.specs.Rising.{rising-rising, rising-rising_in, serial_rising, rising-in_order, order_in, order_all, RisingNext, order_next, order_end}

-- 01, Rebuild: the stores of the segment that the row of a zone says
unfoldable pub one_stores : Params → ℕ → View → List ℕ → ℕ → List Store
one_stores p d v rows z = rebuilt_zone p d (segment_of p v (named d) (seg (part (8 * z) 8 rows)))

-- 01, Rebuild; 02, item 4: those of each flagged segment with a serial above last, by rising serial
unfoldable pub zones_stores : Params → ℕ → View → List Bool → List ℕ → List ℕ → ℕ → List Store
zones_stores p d v flags ns rows last = flat (one_stores p d v rows) (rising-in_order p.Z flags ns last)

-- 01, Rebuild; 02, item 4: resets the good zones of the named drive
unfoldable pub drive_resets : Params → List ℕ → ℕ → List Store
drive_resets p off d = map (reset d) (good_zones p off d)

-- 01, Rebuild: all the stores
unfoldable pub drive_stores : Params → List ℕ → ℕ → View → List Bool → List ℕ → List ℕ → List Store
drive_stores p off d v flags ns rows = drive_resets p off d ++ zones_stores p d v flags ns rows 0

-- ---- what the flagged rows are

-- no two have a serial or a zone of the drive in common
pub record RowsApart (p : Params) (d : ℕ) (flags : List Bool) (ns rows : List ℕ) : Type 0 where
  pub flags_long : p.Z ≤ length flags
  pub serials_long : p.Z ≤ length ns
  pub rows_long : 8 * p.Z ≤ length rows
  pub zones_low : (z : ℕ) → z < p.Z → get_or flags z false ≡ true → ZonesLow p (named d) (seg (part (8 * z) 8 rows))
  pub zone_low : (z : ℕ) → z < p.Z → get_or flags z false ≡ true → zone_on (seg (part (8 * z) 8 rows)) d < p.Z
  pub zone_own : (z y : ℕ) → z < p.Z → y < p.Z → get_or flags z false ≡ true → get_or flags y false ≡ true
      → zone_on (seg (part (8 * z) 8 rows)) d ≡ zone_on (seg (part (8 * y) 8 rows)) d → z ≡ y
  pub serial_own : (z y : ℕ) → z < p.Z → y < p.Z → get_or flags z false ≡ true → get_or flags y false ≡ true → get_or ns z 0 ≡ get_or ns y 0 → z ≡ y
  pub serial_some : (z : ℕ) → z < p.Z → get_or flags z false ≡ true → 0 < get_or ns z 0

-- the zones that they name for the drive are good
abbrev pub GoodZones : Params → List ℕ → ℕ → List Bool → List ℕ → Type 0
GoodZones p off d flags rows = (z : ℕ) → z < p.Z → get_or flags z false ≡ true → is_good p off d (zone_on (seg (part (8 * z) 8 rows)) d) ≡ true

-- no record of a flagged segment is bad
abbrev pub GoodRecs : Params → ℕ → View → List Bool → List ℕ → Type 0
GoodRecs p d v flags rows = (z : ℕ) → z < p.Z → get_or flags z false ≡ true → recs_fault p (named d) (segment_of p v (named d) (seg (part (8 * z) 8 rows))) ≡ false

-- the drive's zones of those with serials above last are empty
abbrev pub ZonesEmpty : Params → ℕ → List Bool → List ℕ → List ℕ → ℕ → List ℕ → Type 0
ZonesEmpty p d flags ns rows last ps =
    (z : ℕ) → z < p.Z → get_or flags z false ≡ true → last < get_or ns z 0 → pointer_of p ps d (zone_on (seg (part (8 * z) 8 rows)) d) ≡ 0

-- ---- arrays that say which segments remain, where no check of a rebuild holds

module _ (p : Params) (v : View) (d : ℕ) (here : Here p (named d)) (hd : d < p.N) (acc : Accepted p v (named d)) (flags : List Bool) (ns rows : List ℕ)
    (kp : Keeps p v (named d) flags) (sr : Serials p v (named d) ns) (ro : FlagsRows p v (named d) rows) where
  abbrev row! : ℕ → Seg
  row! z = seg (part (8 * z) 8 rows)

  remains! : (z : ℕ) → z < p.Z → get_or flags z false ≡ true → remains_at p v (named d) z ≡ true
  remains! z hz f = sym (kp.1 z hz) ∙ f

  in! : (z : ℕ) → z < p.Z → get_or flags z false ≡ true → In (row! z) (remaining p v (named d))
  in! z hz f = subst (λ (g : Seg). In g (remaining p v (named d))) (sym (kept_row p v (named d) rows flags ro kp z hz (remains! z hz f))) (at-remaining p v (named d) here z hz (remains! z hz f))

  row_is! : (z : ℕ) → z < p.Z → get_or flags z false ≡ true → row! z ≡ seg_at p v (named d) z
  row_is! z hz f = kept_row p v (named d) rows flags ro kp z hz (remains! z hz f)

  serial! : (z : ℕ) → z < p.Z → get_or flags z false ≡ true → get_or ns z 0 ≡ (segment_of p v (named d) (row! z)).serial
  serial! z hz f =
      kept_serial p v (named d) here ns z sr hz (remains_leads p v (named d) z (remains! z hz f)) ∙ sym (serial_is p v (named d) (seg_at p v (named d) z))
      ∙ ap (λ (g : Seg). (segment_of p v (named d) g).serial) (sym (row_is! z hz f))

  -- a segment has one zone on the lowest present drive
  same_zone : (z y : ℕ) → z < p.Z → y < p.Z → get_or flags z false ≡ true → get_or flags y false ≡ true → row! z ≡ row! y → z ≡ y
  same_zone z y hz hy f g e = sym (at! z hz f) ∙ ap (λ (x : Seg). zone_on x (low_drive p (named d))) e ∙ at! y hy g
    where
      at! : (z : ℕ) → z < p.Z → get_or flags z false ≡ true → zone_on (row! z) (low_drive p (named d)) ≡ z
      at! z hz f = ap (λ (x : Seg). zone_on x (low_drive p (named d))) (row_is! z hz f) ∙ seg-at_zone p v (named d) here z (remains_leads p v (named d) z (remains! z hz f))

  pub drive_rows_apart : RowsApart p d flags ns rows
  drive_rows_apart = record {
    flags_long = kp.0;
    serials_long = sr.0;
    rows_long = ro.0;
    zones_low = λ z hz f. remaining-low p v (named d) here (row! z) (in! z hz f);
    zone_low = λ z hz f. zone_in_range p v (named d) acc here (row! z) d (in! z hz f) hd;
    zone_own = λ z y hz hy f g e. same_zone z y hz hy f g (zone_once p v (named d) acc here (row! z) (row! y) d (in! z hz f) (in! y hy g) hd e);
    serial_own = λ z y hz hy f g e. same_zone z y hz hy f g (serials_differ p v (named d) here (row! z) (row! y) (in! z hz f) (in! y hy g) (sym (serial! z hz f) ∙ e ∙ serial! y hy g));
    serial_some = λ z hz f.
        let q : (segment_of p v (named d) (row! z)).copied < (segment_of p v (named d) (row! z)).serial = copied-low p v (named d) acc (row! z) (in! z hz f) in
        let e : get_or ns z 0 ≡ (segment_of p v (named d) (row! z)).serial = serial! z hz f in
        omega arith;
  }

  pub good_zones_holds : GoodZones p v.offline d flags rows
  good_zones_holds z hz f = zone_good p v (named d) acc here (row! z) d (in! z hz f) hd

  pub good_recs : GoodRecs p d v flags rows
  good_recs z hz f =
      let o = faults_apart p v (named d) acc (row! z) (in! z hz f) in
      no_recs_fault p (named d) (segment_of p v (named d) (row! z)) o.no_stripe_fault o.no_address_fault

  -- the stores are those of the definition
  pub drive_stores_are : drive_stores p v.offline d v flags ns rows ≡ rebuild_stores p v d (segments p v (named d))
  unfolding drive_stores drive_resets zones_stores one_stores rebuild_stores
  drive_stores_are =
      let f : ℕ → Segment = λ z. segment_of p v (named d) (seg_at p v (named d) z) in
      let s : ℕ → ℕ = λ z. get_or ns z 0 in
      let zs = keep (remains_at p v (named d)) (below p.Z) in
      ap (λ (l : List Store). map (reset d) (good_zones p v.offline d) ++ l)
      (ap (flat (λ z. rebuilt_zone p d (segment_of p v (named d) (row! z)))) (order_all p.Z flags ns drive_rows_apart.serial_some
      ∙ ap (rising-rising s) (keep-below_same (λ z. get_or flags z false) (remains_at p v (named d)) p.Z kp.1))
      ∙ flat_cong (λ z. rebuilt_zone p d (segment_of p v (named d) (row! z))) (λ z. rebuilt_zone p d (f z)) (rising-rising s zs)
      (λ z m. let (i, q) = keep_in (remains_at p v (named d)) (below p.Z) z (rising-rising_in s zs z m) in
      ap (λ (g : Seg). rebuilt_zone p d (segment_of p v (named d) g)) (kept_row p v (named d) rows flags ro kp z (below_in p.Z z i) q))
      ∙ sym (flat_map (rebuilt_zone p d) f (rising-rising s zs))
      ∙ ap (flat (rebuilt_zone p d)) (sym (serial_rising f s zs (λ z m.
      let (i, q) = keep_in (remains_at p v (named d)) (below p.Z) z m in
      serial_is p v (named d) (seg_at p v (named d) z) ∙ sym (kept_serial p v (named d) here ns z sr (below_in p.Z z i) (remains_leads p v (named d) z q))))
      ∙ ap by_serial (sym (segments-list p v (named d)))))

-- ---- one segment

one_apart : (p : Params) (d : ℕ) (v : View) (rows : List ℕ) (z e y : ℕ) → (eqb d e && eqb (zone_on (seg (part (8 * z) 8 rows)) d) y) ≡ false → hits e y (one_stores p d v rows z) ≡ []
unfolding one_stores
one_apart p d v rows z e y q =
    let g = seg (part (8 * z) 8 rows) in
    rebuilt_apart p d (segment_of p v (named d) g) e y (ap (λ (x : Seg). eqb d e && eqb (zone_on x d) y) (seg_is p v (named d) g) ∙ q)

module _ (p : Params) (r : Ranged p) (d : ℕ) (hd : d < p.N) (flags : List Bool) (ns rows : List ℕ) (ra : RowsApart p d flags ns rows) (v u : View)
    (ag : Agree p (named d) v u) (off : v.offline ≡ u.offline) where
  pub drive_one_same : (z : ℕ) → z < p.Z → get_or flags z false ≡ true → one_stores p d v rows z ≡ one_stores p d u rows z
  unfolding one_stores
  drive_one_same z hz f = same_rebuilt p d v u (named_here p r d hd) (named_in p r d hd) ag off (seg (part (8 * z) 8 rows)) (ra.zones_low z hz f)

  pub same_zones : (last : ℕ) → zones_stores p d v flags ns rows last ≡ zones_stores p d u flags ns rows last
  unfolding zones_stores
  same_zones last = flat_cong (one_stores p d v rows) (one_stores p d u rows) (rising-in_order p.Z flags ns last) (λ z m. let (h, f) = order_in p.Z flags ns last z m in drive_one_same z h f)

-- ---- segment by segment

module _ (p : Params) (off : List ℕ) (d n : ℕ) (flags : List Bool) (ns rows : List ℕ) (k₀ : Disk) where
  -- those with serials above last are left
  pub record Zones (last left : ℕ) (k : Disk) : Type 0 where
    pub moving : Moving p off (named d) n (zones_stores p d (seen p off k₀) flags ns rows 0) k₀ (zones_stores p d (seen p off k₀) flags ns rows last) left k
    pub empty : ZonesEmpty p d flags ns rows last k.pointers

  pub zones_start : Whole p k₀ → AllFit p (seen p off k₀) (zones_stores p d (seen p off k₀) flags ns rows 0) → ZonesEmpty p d flags ns rows 0 k₀.pointers → Zones 0 n k₀
  zones_start w f e = record { moving = moving_start p off (named d) n (zones_stores p d (seen p off k₀) flags ns rows 0) k₀ w f; empty = e }

  pub zones_done : (last left : ℕ) (k : Disk) → Zones last left k → (z : ℕ) → RisingNext p.Z flags ns last p.Z z → p.Z ≤ z
      → Storing p n (zones_stores p d (seen p off k₀) flags ns rows 0) k₀ (Ok left) k
  zones_done last left k s z x h =
      moving_done p off (named d) n (zones_stores p d (seen p off k₀) flags ns rows 0) k₀ left k
      (moving_as p off (named d) n (zones_stores p d (seen p off k₀) flags ns rows 0) k₀ (zones_stores p d (seen p off k₀) flags ns rows last) [] left k none! s.moving)
    where
      none! : zones_stores p d (seen p off k₀) flags ns rows last ≡ []
      none! = unfold zones_stores in (ap (flat (one_stores p d (seen p off k₀) rows)) (order_end p.Z flags ns last z x h) ∙ flat_none (one_stores p d (seen p off k₀) rows))

module _ (p : Params) (r : Ranged p) (off : List ℕ) (d n : ℕ) (hd : d < p.N) (flags : List Bool) (ns rows : List ℕ) (ra : RowsApart p d flags ns rows) (k₀ : Disk)
    (last left : ℕ) (k : Disk) (s : Zones p off d n flags ns rows k₀ last left k) (z : ℕ) (x : RisingNext p.Z flags ns last p.Z z) (hz : z < p.Z) where
  abbrev flag! : get_or flags z false ≡ true
  flag! = (x.is_one hz).0

  abbrev ours : List Store
  ours = one_stores p d (seen p off k₀) rows z

  abbrev rest : List Store
  rest = zones_stores p d (seen p off k₀) flags ns rows (get_or ns z 0)

  abbrev whole! : List Store
  whole! = zones_stores p d (seen p off k₀) flags ns rows 0

  zone_step : Moving p off (named d) n whole! k₀ (ours ++ rest) left k
  zone_step = moving_as p off (named d) n whole! k₀ (zones_stores p d (seen p off k₀) flags ns rows last) (ours ++ rest) left k step! s.moving
    where
      step! : zones_stores p d (seen p off k₀) flags ns rows last ≡ one_stores p d (seen p off k₀) rows z ++ zones_stores p d (seen p off k₀) flags ns rows (get_or ns z 0)
      step! = unfold zones_stores in
          (ap (flat (one_stores p d (seen p off k₀) rows)) (order_next p.Z flags ns last z x hz (λ y w hy hw f g e. ra.serial_own y w hy hw f g e))
          ∙ flat-cons (one_stores p d (seen p off k₀) rows) z (rising-in_order p.Z flags ns (get_or ns z 0)))

  zone_stores_same : rebuilt_zone p d (segment_of p (seen p off k) (named d) (seg (part (8 * z) 8 rows))) ≡ ours
  zone_stores_same = as! ∙ sym (drive_one_same p r d hd flags ns rows ra (seen p off k₀) (seen p off k) s.moving.agree (moving_list p off k₀ k) z hz flag!)
    where
      as! : rebuilt_zone p d (segment_of p (seen p off k) (named d) (seg (part (8 * z) 8 rows))) ≡ one_stores p d (seen p off k) rows z
      as! = unfold one_stores in refl

  pub zones_fit : AllFit p (seen p off k) (rebuilt_zone p d (segment_of p (seen p off k) (named d) (seg (part (8 * z) 8 rows))))
  zones_fit = subst (λ (l : List Store). AllFit p (seen p off k) l) (sym zone_stores_same) (going_first p off n whole! k₀ ours rest left k zone_step.going)

  pub zones_good : GoodRecs p d (seen p off k₀) flags rows → recs_fault p (named d) (segment_of p (seen p off k) (named d) (seg (part (8 * z) 8 rows))) ≡ false
  zones_good h =
      sym (same_recs_fault p (named d) (seen p off k₀) (seen p off k) (named_here p r d hd) s.moving.agree (moving_list p off k₀ k) (seg (part (8 * z) 8 rows)) (ra.zones_low z hz flag!))
      ∙ h z hz flag!

  pub zones_cut : (k' : Disk) → Storing p left (rebuilt_zone p d (segment_of p (seen p off k) (named d) (seg (part (8 * z) 8 rows)))) k too_few k' → Storing p n whole! k₀ too_few k'
  zones_cut k' t = moving_cut p off (named d) n whole! k₀ ours rest left k zone_step k' (subst (λ (l : List Store). Storing p left l k too_few k') zone_stores_same t)

  module _ (l : ℕ) (k' : Disk) (t : Storing p left (rebuilt_zone p d (segment_of p (seen p off k) (named d) (seg (part (8 * z) 8 rows)))) k (Ok l) k') where
    this : Storing p left ours k (Ok l) k'
    this = subst (λ (x : List Store). Storing p left x k (Ok l) k') zone_stores_same t

    on : OnDrive d ours
    on e y q = one_apart p d (seen p off k₀) rows z e y (drive_apart d e (zone_on (seg (part (8 * z) 8 rows)) d) y q)

    pub zones_turn : Zones p off d n flags ns rows k₀ (get_or ns z 0) l k'
    zones_turn = record {
      moving = next;
      empty = λ y hy f g.
          let w : ℕ = zone_on (seg (part (8 * y) 8 rows)) d in
          let low : w < p.Z = ra.zone_low y hy f in
          sym (pointer_view p off k' d w hd low next.going.whole) ∙ as! y hy f g ∙ pointer_view p off k d w hd low s.moving.going.whole
          ∙ s.empty y hy f (let i : last < get_or ns z 0 = (x.is_one hz).1 in omega arith);
    }
      where
        next : Moving p off (named d) n whole! k₀ rest l k'
        next = moving_turn p off (named d) n whole! k₀ ours rest left k zone_step l k' this r d (named_in p r d hd) on

        other : (y : ℕ) → y < p.Z → get_or flags y false ≡ true → get_or ns z 0 < get_or ns y 0
            → eqb (zone_on (seg (part (8 * z) 8 rows)) d) (zone_on (seg (part (8 * y) 8 rows)) d) ≡ false
        other y hy f g = ne_eqb (zone_on (seg (part (8 * z) 8 rows)) d) (zone_on (seg (part (8 * y) 8 rows)) d)
            (λ q. let i : get_or ns z 0 ≡ get_or ns y 0 = ap (λ (j : ℕ). get_or ns j 0) (ra.zone_own z y hz hy flag! f q) in let o : ⊥ = omega arith in o)

        as! : (y : ℕ) → y < p.Z → get_or flags y false ≡ true → get_or ns z 0 < get_or ns y 0
            → pointer_at (seen p off k') d (zone_on (seg (part (8 * y) 8 rows)) d) ≡ pointer_at (seen p off k) d (zone_on (seg (part (8 * y) 8 rows)) d)
        as! y hy f g = unfold pointer_at in ap (λ (q : Zone). q.pointer)
            (going_kept p r off n whole! k₀ ours rest left k l k' zone_step.going this d (zone_on (seg (part (8 * y) 8 rows)) d) hd (ra.zone_low y hy f)
            (one_apart p d (seen p off k₀) rows z d (zone_on (seg (part (8 * y) 8 rows)) d)
            (and_false_right (eqb d d) (eqb (zone_on (seg (part (8 * z) 8 rows)) d) (zone_on (seg (part (8 * y) 8 rows)) d)) (other y hy f g))))

-- ---- the resets first

resets_apart : (p : Params) (off : List ℕ) (d : ℕ) → OnDrive d (drive_resets p off d)
unfolding drive_resets
resets_apart p off d e y q = keep_nothing (hits_at_of e y) (map (reset d) (good_zones p off d))
    (λ s m. let (z, i, f) = map_in (reset d) (good_zones p off d) s m in ap (hits_at_of e y) f ∙ miss z)
  where
    miss : (z : ℕ) → hits_at_of e y (reset d z) ≡ false
    miss z = unfold hits_at_of in and_false_left (eqb d e) (eqb z y) q

reset_hit : (p : Params) (off : List ℕ) (d z : ℕ) → z < p.Z → is_good p off d z ≡ true → hits d z (drive_resets p off d) ≡ reset d z ∷ []
unfolding drive_resets good_zones
reset_hit p off d z hz g =
    keep-map (hits_at_of d z) (reset d) (keep (is_good p off d) (below p.Z))
    ∙ ap (map (reset d)) (keep-keep (λ y. hits_at_of d z (reset d y)) (is_good p off d) (below p.Z)
    ∙ keep-one-below (λ y. is_good p off d y && hits_at_of d z (reset d y)) z p.Z (λ y. ap (λ (b : Bool). is_good p off d y && b) (at! y) ∙ go y (test (eqb y z))) hz)
  where
    at! : (y : ℕ) → hits_at_of d z (reset d y) ≡ eqb y z
    at! y = unfold hits_at_of in rw (eqb_self d)

    go : (y : ℕ) → Test (eqb y z) → (is_good p off d y && eqb y z) ≡ eqb y z
    go y (yes! q) = ap (λ (b : Bool). b && eqb y z) (ap (is_good p off d) (eqb-true y z q) ∙ g)
    go y (no! q) = and_false_right (is_good p off d y) (eqb y z) q ∙ sym q

module _ (p : Params) (r : Ranged p) (off : List ℕ) (d n : ℕ) (hd : d < p.N) (flags : List Bool) (ns rows : List ℕ) (ra : RowsApart p d flags ns rows) (k₀ : Disk) (w : Whole p k₀)
    (fits : AllFit p (seen p off k₀) (drive_stores p off d (seen p off k₀) flags ns rows)) where
  abbrev every : List Store
  every = drive_stores p off d (seen p off k₀) flags ns rows

  abbrev zones! : List Store
  zones! = zones_stores p d (seen p off k₀) flags ns rows 0

  drive_begun : Moving p off (named d) n every k₀ (drive_resets p off d ++ zones!) n k₀
  drive_begun = moving_as p off (named d) n every k₀ every (drive_resets p off d ++ zones!) n k₀ as! (moving_start p off (named d) n every k₀ w fits)
    where
      as! : drive_stores p off d (seen p off k₀) flags ns rows ≡ drive_resets p off d ++ zones_stores p d (seen p off k₀) flags ns rows 0
      as! = unfold drive_stores in refl

  pub resets-cut : (k : Disk) → Storing p n (drive_resets p off d) k₀ too_few k → Storing p n every k₀ too_few k
  resets-cut k t = moving_cut p off (named d) n every k₀ (drive_resets p off d) zones! n k₀ drive_begun k t

  module _ (l : ℕ) (k : Disk) (t : Storing p n (drive_resets p off d) k₀ (Ok l) k) where
    empty! : Moving p off (named d) n every k₀ zones! l k
    empty! = moving_turn p off (named d) n every k₀ (drive_resets p off d) zones! n k₀ drive_begun l k t r d (named_in p r d hd) (resets_apart p off d)

    pub resets_whole : Whole p k
    resets_whole = empty!.going.whole

    zones_stores_same : zones! ≡ zones_stores p d (seen p off k) flags ns rows 0
    zones_stores_same = same_zones p r d hd flags ns rows ra (seen p off k₀) (seen p off k) empty!.agree (moving_list p off k₀ k) 0

    -- whatever the list is
    any_stores : (list : List ℕ) → zones_stores p d (seen p off k) flags ns rows 0 ≡ zones_stores p d (seen p list k) flags ns rows 0
    any_stores list = unfold zones_stores one_stores in
        flat_cong (λ z. rebuilt_zone p d (segment_of p (seen p off k) (named d) (seg (part (8 * z) 8 rows))))
        (λ z. rebuilt_zone p d (segment_of p (seen p list k) (named d) (seg (part (8 * z) 8 rows))))
        (rising-in_order p.Z flags ns 0) (λ z _. ap (rebuilt_zone p d) (segment_alike p (seen p off k) (seen p list k) (named d) (seg (part (8 * z) 8 rows)) (seen_alike p off list k)))

    pub resets_fit : (list : List ℕ) → AllFit p (seen p list k) (zones_stores p d (seen p list k) flags ns rows 0)
    resets_fit list =
        fits_alike p (zones_stores p d (seen p list k) flags ns rows 0) (seen p off k) (seen p list k) (seen_alike p off list k)
        (subst (λ (l : List Store). AllFit p (seen p off k) l) (zones_stores_same ∙ any_stores list) empty!.going.fits)

    pub resets_good : GoodRecs p d (seen p off k₀) flags rows → (list : List ℕ) → GoodRecs p d (seen p list k) flags rows
    resets_good h list z hz f =
        let g = seg (part (8 * z) 8 rows) in
        ap (recs_fault p (named d)) (sym (segment_alike p (seen p off k) (seen p list k) (named d) g (seen_alike p off list k)))
        ∙ sym (same_recs_fault p (named d) (seen p off k₀) (seen p off k) (named_here p r d hd) empty!.agree (moving_list p off k₀ k) g (ra.zones_low z hz f)) ∙ h z hz f

    -- every good zone of the drive is empty
    pub drive_resets_empty : GoodZones p off d flags rows → ZonesEmpty p d flags ns rows 0 k.pointers
    drive_resets_empty gz h hh f _ = empty_zone (zone_on (seg (part (8 * h) 8 rows)) d) (ra.zone_low h hh f) (gz h hh f)
      where
        zone! : (z : ℕ) → z < p.Z → is_good p off d z ≡ true → zone_at (seen p off k) d z ≡ store_all zone_store (reset d z ∷ []) (zone_at (seen p off k₀) d z)
        zone! z hz g =
            ap (λ (v : View). zone_at v d z) (seen-after p r off k₀ k (drive_resets p off d) w
            (going_first p off n every k₀ (drive_resets p off d) zones! n k₀ drive_begun.going)
            (storing_all p n (drive_resets p off d) k₀ l k t))
            ∙ zone_after p (seen p off k₀) d z (drive_resets p off d) (sized_of p off k₀ w) hd hz
            ∙ ap (λ (l : List Store). store_all zone_store l (zone_at (seen p off k₀) d z)) (reset_hit p off d z hz g)

        nought : (z : ℕ) → (store_all zone_store (reset d z ∷ []) (zone_at (seen p off k₀) d z)).pointer ≡ 0
        nought z = unfold store_all zone_store in reset_pointer (zone_at (seen p off k₀) d z)

        as! : (z : ℕ) → z < p.Z → is_good p off d z ≡ true → pointer_at (seen p off k) d z ≡ 0
        as! z hz g = unfold pointer_at in (ap (λ (q : Zone). q.pointer) (zone! z hz g) ∙ nought z)

        empty_zone : (z : ℕ) → z < p.Z → is_good p off d z ≡ true → pointer_of p k.pointers d z ≡ 0
        empty_zone z hz g = sym (pointer_view p off k d z hd hz resets_whole) ∙ as! z hz g

    pub resets-made : (m' : Result ℕ TooFew) (k' : Disk) → Storing p l (zones_stores p d (seen p off k) flags ns rows 0) k m' k' → Storing p n every k₀ m' k'
    resets-made m' k' s = empty!.going.owes m' k' (subst (λ (x : List Store). Storing p l x k m' k') (sym zones_stores_same) s)
