-- Two views that differ in offline zones alone: empty zones, the segments that remain and their zones are the same (02, item 4). Assumes nothing.
use Rattle.std.specs.Prelude.{◌≡◌, refl, Bool, true, false, cond, ◌&&◌, ℕ, ◌+◌, ◌*◌, ◌<◌, ◌≤◌}
use Rattle.std.proofs.Math.Path.{sym, ap, ap₂}
use Rattle.std.proofs.Common.{◌∙◌, subst, arith, add-mul, mul_assoc, ext_get_or}
use mathlib.Core.List.{List, [], ◌∷◌}
use Rattle.std.proofs.Math.Bool.{not}
use Rattle.std.proofs.Math.Dec.{eqb, leb}
use Rattle.std.proofs.Math.ListN.{length, get_or}
use Rattle.spec.specs.declared.Params.{Params}
use Rattle.spec.specs.declared.Seg.{Seg}
use Rattle.spec.specs.Bytes.{be_of, part}
use Rattle.spec.specs.Drives.{Chunk, no_chunk, Zone, mk_zone, View, zone_at, pointer_at, chunk_at, chunk_of, view_of, Store, store_view_of, store_all, Disk, pointer_byte, pointer_of}
use Rattle.spec.specs.Drives.{is_good, good_zones, empty_zones, empty_count, new_seg, zone_on, sealed_in, record_in, record_at}
use Rattle.spec.specs.Layout.{header_serial}
use Rattle.spec.specs.Lists.{below, keep, least, first_or, is_in}
use Rattle.spec.specs.Params.{capacity, unit_len, zone_len, drive_len, image_len, place_of, place_byte, drives_of, present}
use Rattle.spec.specs.Segments.{is_used, serial_in, bearing, header_at, remaining}
use Rattle.spec.specs.Write.{scarce}
use Rattle.spec_demands.specs.Rules.{SameGood}
use Rattle.law_basic.specs.Geometry.{item_fits}
use Rattle.law_basic.specs.Ranges.{Test, test, and_left, map-below_same}
use Rattle.law_basic.specs.Ranges.Test.{yes!, no! }
use Rattle.law_basic.specs.Segs.{with_same}
use Rattle.law_basic.specs.Splice.{part-part}
use Rattle.law_views.specs.Alike.{offline_kept}
use Rattle.law_views.specs.Views.{Whole, seen, pointer_view, chunk_view, blocks_long}
use Rattle.law_drives.specs.Gather.{SameHeads, gather_same_remaining, left_in, present_in}
use Rattle.law_drives.specs.Image.{sized_of}
use Rattle.law_drives.specs.Members.{In, keep_in, below_in, all_cong, keep_cong}
use Rattle.law_drives.specs.Segs.{Here, remaining_left}
use Rattle.law_drives.specs.Tests.{and_false_left}
use Rattle.law_drives.specs.Zones.{Sized, sized_store, hits_at_of, zone_store, zone_stored}

-- the same list, and the same good zones
pub record UnseenZonesAlike (p : Params) (v u : View) : Type 0 where
  pub same_list_holds : v.offline ≡ u.offline
  pub sized_one : Sized p v
  pub sized_two : Sized p u
  pub same_zone : (d z : ℕ) → d < p.N → z < p.Z → is_good p v.offline d z ≡ true → zone_at v d z ≡ zone_at u d z

-- ---- from the bytes

zone_byte : (p : Params) (d z b : ℕ) → place_byte p (place_of p d z b) ≡ place_byte p (place_of p d z 0) + b * unit_len p
unfolding place_byte place_of
zone_byte p d z b =
    let n = (d * p.Z + z) * capacity p in
    let e = add-mul n b (unit_len p) in
    let f = add-mul n 0 (unit_len p) in
    omega (arith, e, f)

zone_start : (p : Params) (d z : ℕ) → place_byte p (place_of p d z 0) ≡ d * drive_len p + z * zone_len p
unfolding place_byte place_of drive_len zone_len
zone_start p d z =
    let c = capacity p in
    let u = unit_len p in
    let e1 : ((d * p.Z + z) * c + 0) * u ≡ (d * p.Z + z) * c * u + 0 * u = add-mul ((d * p.Z + z) * c) 0 u in
    let e2 : (d * p.Z + z) * c * u ≡ (d * p.Z + z) * (c * u) = mul_assoc (d * p.Z + z) c u in
    let e3 : (d * p.Z + z) * (c * u) ≡ d * p.Z * (c * u) + z * (c * u) = add-mul (d * p.Z) z (c * u) in
    let e4 : d * p.Z * (c * u) ≡ d * (p.Z * (c * u)) = mul_assoc d p.Z (c * u) in
    omega (arith, e1, e2, e3, e4)

module _ (p : Params) (off : List ℕ) (d z : ℕ) (hd : d < p.N) (hz : z < p.Z) where
  -- a block of a view by the zone's bytes
  chunk_of_zone : (k : Disk) → Whole p k → (b : ℕ) → b < capacity p
      → chunk_at (seen p off k) d z b ≡ chunk_of p (part (b * unit_len p) (unit_len p) (part (place_byte p (place_of p d z 0)) (zone_len p) k.image))
  unfolding zone_len drive_len image_len
  chunk_of_zone k w b hb =
      let a = place_byte p (place_of p d z 0) in
      let fit : b * unit_len p + unit_len p ≤ capacity p * unit_len p = item_fits b (capacity p) (unit_len p) hb in
      let x = item_fits z p.Z (capacity p * unit_len p) hz in
      let y = item_fits d p.N (p.Z * (capacity p * unit_len p)) hd in
      let room : a + capacity p * unit_len p ≤ length k.image = omega (arith, zone_start p d z, x, y, w.image_long) in
      chunk_view p off k d z hd hz w b hb
      ∙ ap (λ (n : ℕ). chunk_of p (part n (unit_len p) k.image)) (zone_byte p d z b)
      ∙ ap (chunk_of p) (sym (part-part k.image a (zone_len p) (b * unit_len p) (unit_len p) fit room))

  module _ (k h : Disk) (wk : Whole p k) (wh : Whole p h)
      (im : part (place_byte p (place_of p d z 0)) (zone_len p) k.image ≡ part (place_byte p (place_of p d z 0)) (zone_len p) h.image)
      (ps : part (pointer_byte p d z) 4 k.pointers ≡ part (pointer_byte p d z) 4 h.pointers) where
    unseen_zones_blocks_same : (zone_at (seen p off k) d z).blocks ≡ (zone_at (seen p off h) d z).blocks
    unseen_zones_blocks_same = ext_get_or no_chunk (zone_at (seen p off k) d z).blocks (zone_at (seen p off h) d z).blocks
        (blocks_long p off k d z hd hz wk ∙ sym (blocks_long p off h d z hd hz wh))
        (λ b l. one b (subst (λ (n : ℕ). b < n) (blocks_long p off k d z hd hz wk) l))
      where
        one : (b : ℕ) → b < capacity p → get_or (zone_at (seen p off k) d z).blocks b no_chunk ≡ get_or (zone_at (seen p off h) d z).blocks b no_chunk
        one b l = unfold chunk_at in (chunk_of_zone k wk b l ∙ ap (λ (x : List ℕ). chunk_of p (part (b * unit_len p) (unit_len p) x)) im ∙ sym (chunk_of_zone h wh b l))

    unseen_zones_pointer_same : (zone_at (seen p off k) d z).pointer ≡ (zone_at (seen p off h) d z).pointer
    unfolding pointer_at pointer_of
    unseen_zones_pointer_same = pointer_view p off k d z hd hz wk ∙ ap be_of ps ∙ sym (pointer_view p off h d z hd hz wh)

    zone_from : zone_at (seen p off k) d z ≡ zone_at (seen p off h) d z
    zone_from = ap₂ mk_zone unseen_zones_pointer_same unseen_zones_blocks_same

pub alike_bytes : (p : Params) (off : List ℕ) (k h : Disk) → SameGood p off k h → Whole p k → UnseenZonesAlike p (seen p off k) (seen p off h)
alike_bytes p off k h s w = record {
  same_list_holds = unfold view_of in refl;
  sized_one = sized_of p off k w;
  sized_two = sized_of p off h wh;
  same_zone = λ d z hd hz g. zone_from p off d z hd hz k h w wh (s.zone_bytes d z hd hz (good d z g)) (s.pointer_bytes d z hd hz (good d z g));
}
  where
    good : (d z : ℕ) → is_good p (seen p off k).offline d z ≡ true → is_good p off d z ≡ true
    good d z g = unfold view_of in g

    wh : Whole p h
    wh = record { image_long = sym s.same_image ∙ w.image_long; pointers_long = sym s.same_pointers ∙ w.pointers_long }

-- ---- stores

pub alike_store : (p : Params) (v u : View) → UnseenZonesAlike p v u → (s : Store) → UnseenZonesAlike p (store_view_of s v) (store_view_of s u)
alike_store p v u al s = record {
  same_list_holds = offline_kept s v ∙ al.same_list_holds ∙ sym (offline_kept s u);
  sized_one = sized_store p v s al.sized_one;
  sized_two = sized_store p u s al.sized_two;
  same_zone = λ d z hd hz g.
      let e = al.same_zone d z hd hz (ap (λ (l : List ℕ). is_good p l d z) (sym (offline_kept s v)) ∙ g) in
      zone_stored p v d z s al.sized_one hd hz
      ∙ ap (λ (q : Zone). cond (hits_at_of d z s) (zone_store s q) q) e
      ∙ sym (zone_stored p u d z s al.sized_two hd hz);
}

pub alike_stores : (p : Params) (ss : List Store) (v u : View) → UnseenZonesAlike p v u → UnseenZonesAlike p (store_all store_view_of ss v) (store_all store_view_of ss u)
unfolding store_all
alike_stores p [] v u al = al
alike_stores p (s ∷ ss) v u al = alike_stores p ss (store_view_of s v) (store_view_of s u) (alike_store p v u al s)

-- ---- what is looked at

module _ (p : Params) (v u : View) (al : UnseenZonesAlike p v u) where
  pub same_good : (d z : ℕ) → is_good p v.offline d z ≡ is_good p u.offline d z
  same_good d z = ap (λ (l : List ℕ). is_good p l d z) al.same_list_holds

  pub unseen_zones_same_pointer : (d z : ℕ) → d < p.N → z < p.Z → is_good p v.offline d z ≡ true → pointer_at v d z ≡ pointer_at u d z
  unfolding pointer_at
  unseen_zones_same_pointer d z hd hz g = ap (λ (q : Zone). q.pointer) (al.same_zone d z hd hz g)

  pub same_empty : (d : ℕ) → d < p.N → empty_zones p v d ≡ empty_zones p u d
  unfolding empty_zones good_zones
  same_empty d hd =
      keep_cong (λ z. eqb (pointer_at v d z) 0) (λ z. eqb (pointer_at u d z) 0) (keep (is_good p v.offline d) (below p.Z))
      (λ z m. let (i, g) = keep_in (is_good p v.offline d) (below p.Z) z m in ap (λ (n : ℕ). eqb n 0) (unseen_zones_same_pointer d z hd (below_in p.Z z i) g))
      ∙ ap (λ (l : List ℕ). keep (λ z. eqb (pointer_at u d z) 0) (keep (is_good p l d) (below p.Z))) al.same_list_holds

  pub same_new : new_seg p v ≡ new_seg p u
  unfolding new_seg
  same_new = with_same p (λ d. first_or 0 (empty_zones p v d)) (λ d. first_or 0 (empty_zones p u d)) (λ d hd. ap (first_or 0) (same_empty d hd))

  pub same_count : empty_count p v ≡ empty_count p u
  unfolding empty_count drives_of
  same_count = ap (least p.Z)
      (map-below_same (λ d. length (empty_zones p v d)) (λ d. length (empty_zones p u d)) p.N (λ d hd. ap (λ (l : List ℕ). length l) (same_empty d hd)))

  pub same_scarce : (n : ℕ) → scarce p v n ≡ scarce p u n
  unfolding scarce
  same_scarce n = ap (λ (k : ℕ). leb k n) same_count

  -- ---- headers

  pub used_good : (d z : ℕ) → is_used p v d z ≡ true → is_good p v.offline d z ≡ true
  unfolding is_used
  used_good d z q = and_left (is_good p v.offline d z) (not (eqb (pointer_at v d z) 0)) q

  pub used_same : (d z : ℕ) → d < p.N → z < p.Z → is_used p v d z ≡ is_used p u d z
  unfolding is_used
  used_same d z hd hz = go (test (is_good p v.offline d z))
    where
      go : Test (is_good p v.offline d z) → (is_good p v.offline d z && not (eqb (pointer_at v d z) 0)) ≡ (is_good p u.offline d z && not (eqb (pointer_at u d z) 0))
      go (yes! g) = ap₂ (λ (a : Bool) (n : ℕ). a && not (eqb n 0)) (same_good d z) (unseen_zones_same_pointer d z hd hz g)
      go (no! g) = and_false_left (is_good p v.offline d z) (not (eqb (pointer_at v d z) 0)) g
          ∙ sym (and_false_left (is_good p u.offline d z) (not (eqb (pointer_at u d z) 0)) (sym (same_good d z) ∙ g))

  pub chunk_same : (d z b : ℕ) → d < p.N → z < p.Z → is_good p v.offline d z ≡ true → chunk_at v d z b ≡ chunk_at u d z b
  unfolding chunk_at
  chunk_same d z b hd hz g = ap (λ (x : Zone). get_or x.blocks b no_chunk) (al.same_zone d z hd hz g)

  pub alike_heads : (gone : ℕ) → SameHeads p gone v u
  alike_heads gone = record {
    same_used = λ d z hd q hz. used_same d z hd hz;
    same_head = λ d z hd q hz e. ap (λ (c : Chunk). c.block) (chunk_same d z 0 hd hz (used_good d z e));
  }

  pub serial_same : (d z : ℕ) → d < p.N → z < p.Z → is_used p v d z ≡ true → serial_in p v d z ≡ serial_in p u d z
  unfolding serial_in
  serial_same d z hd hz e = ap (λ (c : Chunk). header_serial p c.block) (chunk_same d z 0 hd hz (used_good d z e))

  pub bearing_same : (d r : ℕ) → d < p.N → bearing p v d r ≡ bearing p u d r
  unfolding bearing
  bearing_same d r hd =
      keep_cong (λ z. is_used p v d z && eqb (serial_in p v d z) r) (λ z. is_used p u d z && eqb (serial_in p u d z) r) (below p.Z) (λ z m. go z (below_in p.Z z m) (test (is_used p v d z)))
    where
      go : (z : ℕ) → z < p.Z → Test (is_used p v d z) → (is_used p v d z && eqb (serial_in p v d z) r) ≡ (is_used p u d z && eqb (serial_in p u d z) r)
      go z hz (yes! e) = ap₂ (λ (a : Bool) (n : ℕ). a && eqb n r) (used_same d z hd hz) (serial_same d z hd hz e)
      go z hz (no! e) = and_false_left (is_used p v d z) (eqb (serial_in p v d z) r) e
          ∙ sym (and_false_left (is_used p u d z) (eqb (serial_in p u d z) r) (sym (used_same d z hd hz) ∙ e))

  -- ---- the segments that remain

  module _ (gone : ℕ) (here : Here p gone) where
    pub remains : remaining p v gone ≡ remaining p u gone
    remains = gather_same_remaining p gone v u (alike_heads gone) here

    module _ (g : Seg) (m : In g (remaining p v gone)) where
      pub its_low : (d : ℕ) → d < p.N → is_in gone d ≡ false → zone_on g d < p.Z
      its_low d hd q = ((left_in p v gone here g (remaining_left p v gone g m)).on d hd q).zone_low

      pub its_good : (d : ℕ) → d < p.N → is_in gone d ≡ false → is_good p v.offline d (zone_on g d) ≡ true
      its_good d hd q = used_good d (zone_on g d) ((left_in p v gone here g (remaining_left p v gone g m)).on d hd q).used

      pub its_zone_same : (d : ℕ) → d < p.N → is_in gone d ≡ false → zone_at v d (zone_on g d) ≡ zone_at u d (zone_on g d)
      its_zone_same d hd q = al.same_zone d (zone_on g d) hd (its_low d hd q) (its_good d hd q)

      pub its_pointer_same : (d : ℕ) → d < p.N → is_in gone d ≡ false → pointer_at v d (zone_on g d) ≡ pointer_at u d (zone_on g d)
      its_pointer_same d hd q = unseen_zones_same_pointer d (zone_on g d) hd (its_low d hd q) (its_good d hd q)

      pub its_chunk_same : (d b : ℕ) → d < p.N → is_in gone d ≡ false → chunk_at v d (zone_on g d) b ≡ chunk_at u d (zone_on g d) b
      its_chunk_same d b hd q = chunk_same d (zone_on g d) b hd (its_low d hd q) (its_good d hd q)

      pub its_header_same : (d : ℕ) → d < p.N → is_in gone d ≡ false → header_at v d g ≡ header_at u d g
      unfolding header_at
      its_header_same d hd q = ap (λ (c : Chunk). c.block) (its_chunk_same d 0 hd q)

      pub its_sealed_same : sealed_in p v gone g ≡ sealed_in p u gone g
      unfolding sealed_in
      its_sealed_same = all_cong (λ d. eqb (pointer_at v d (zone_on g d)) (capacity p)) (λ d. eqb (pointer_at u d (zone_on g d)) (capacity p)) (present p gone)
          (λ d i. let (hd, q) = present_in p gone d i in ap (λ (n : ℕ). eqb n (capacity p)) (its_pointer_same d hd q))

      pub its_record_same : (d o : ℕ) → d < p.N → is_in gone d ≡ false → record_at p v gone d g o ≡ record_at p u gone d g o
      unfolding record_at
      its_record_same d o hd q = ap₂ (λ (w : Bool) (x : Zone). record_in p w x o) its_sealed_same (its_zone_same d hd q)
