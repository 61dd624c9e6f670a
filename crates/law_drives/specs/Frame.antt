-- Views that agree but on the missing drives say the same.
use Rattle.std.specs.Prelude.{◌≡◌, refl, Bool, false, ◌&&◌, ◌||◌, ℕ, ◌<◌, length, get_or}
use Rattle.std.proofs.Math.Path.{sym, ap, ap₂}
use Rattle.std.proofs.Common.{◌∙◌}
use mathlib.Core.List.{List, [], ◌∷◌, map}
use Rattle.std.proofs.Math.Bool.{cond, not}
use Rattle.std.proofs.Math.Dec.{leb, ltb, eqb}
use Rattle.std.proofs.lemmas.List.{length-map}
use Rattle.spec.specs.declared.Params.{Params}
use Rattle.spec.specs.Drives.{no_chunk, Zone, no_zone, View, zone_at, pointer_at, chunk_at, zone_on, sealed_in, zero_spare, same_seg, seg, is_good}
use Rattle.spec.specs.Faults.{pointer_faults, same_chunk, header_fault, serial_fault, stripe_fault, decoded_bad, address_fault, footer_fault_in, footer_fault, clashes, segment_fault, segment_faults}
use Rattle.spec.specs.Layout.{header_block, header_serial, header_copied, header_zones}
use Rattle.spec.specs.Lists.{below, any, keep, flat, is_in}
use Rattle.spec.specs.Params.{capacity, drives_of, present}
use Rattle.spec.specs.Segments.{low_drive, header_at, remaining, Segment, records_in, segment_of, segments, recs_on, offset_on, has_chunk, counts, is_used, serial_in, bearing}
use Rattle.spec.specs.Segments.{counted, stored_rec, rec_of, offset_of, cand_of, segment_cands, candidates, compact_row, row_of, compact_table, unsealed}
use Rattle.law_basic.specs.Ranges.{Test, test, map-map, get_d_map-below, keep-map}
use Rattle.law_basic.specs.Ranges.Test.{yes!, no! }
use Rattle.law_drives.specs.Gather.{gather_same_remaining}
use Rattle.law_drives.specs.Accept.{Accepted, names_is}
use Rattle.law_drives.specs.Members.{In, all_cong, any_cong, keep_cong, map_cong, flat_cong, flat_map, below_in}
use Rattle.law_drives.specs.Segs.{remaining-low, zone_by, seg_is, serial_is, copied_is, full_is, Here}
use Rattle.spec.specs.declared.Seg.{Seg}
use Rattle.law_basic.specs.Segs.{ZonesLow, low_zone}
use Rattle.law_drives.specs.Gather.{SameHeads, present_in}
use Rattle.spec.specs.Faults.{bad_name, name_clash, own_fault, serial_twice}

abbrev pub Agree : Params → ℕ → View → View → Type 0
Agree p gone v u = (d z : ℕ) → d < p.N → z < p.Z → is_in gone d ≡ false → zone_at v d z ≡ zone_at u d z

pub any_mapped : {A B : Type 0} (f : B → Bool) (g : A → B) (l : List A) → any f (map g l) ≡ any (λ a. f (g a)) l
unfolding any
any_mapped f g [] = refl
any_mapped f g (a ∷ l) = ap (λ (x : Bool). f (g a) || x) (any_mapped f g l)

-- a segment without its zones: what the tables see of it
unfoldable pub core : Segment → Segment
core g = record { seg = g.seg; names = g.names; serial = g.serial; copied = g.copied; full = g.full; zones_by_holds = []; recs = g.recs }

pub core_cands : (p : Params) (gone : ℕ) (g : Segment) → segment_cands p gone g ≡ segment_cands p gone (core g)
unfolding core segment_cands counted counts has_chunk recs_on cand_of rec_of stored_rec offset_on offset_of
core_cands p gone g = refl

pub core-candidates : (p : Params) (gone : ℕ) (gs : List Segment) → candidates p gone gs ≡ candidates p gone (map core gs)
unfolding candidates
core-candidates p gone gs = flat_cong (segment_cands p gone) (λ (g : Segment). segment_cands p gone (core g)) gs (λ g m. core_cands p gone g) ∙ sym (flat_map (segment_cands p gone) core gs)

core_row : (p : Params) (gs : List Segment) (d z : ℕ) → row_of p gs d z ≡ row_of p (map core gs) d z
unfolding row_of core recs_on
core_row p gs d z = sym (flat_map (λ (g : Segment). cond (eqb (zone_on g.seg d) z) (recs_on g d) []) core gs)

pub core_compact : (p : Params) (gs : List Segment) → compact_table p gs ≡ compact_table p (map core gs)
unfolding compact_table
core_compact p gs = flat_cong (λ d. flat (λ z. compact_row p (row_of p gs d z)) (below p.Z)) (λ d. flat (λ z. compact_row p (row_of p (map core gs) d z)) (below p.Z)) (drives_of p)
    (λ d m. flat_cong (λ z. compact_row p (row_of p gs d z)) (λ z. compact_row p (row_of p (map core gs) d z)) (below p.Z) (λ z n. ap (compact_row p) (core_row p gs d z)))

core_own : (p : Params) (gone : ℕ) (g : Segment) → own_fault p gone g ≡ own_fault p gone (core g)
unfolding own_fault core
core_own p gone g = refl

core_bad : (p : Params) (v : View) (g : Segment) → bad_name p v g ≡ bad_name p v (core g)
unfolding bad_name core
core_bad p v g = refl

core_name : (p : Params) (gs : List Segment) (g : Segment) → name_clash p gs g ≡ name_clash p (map core gs) (core g)
unfolding name_clash core
core_name p gs g =
    sym (any_mapped (λ (h : Segment). not (same_seg h.seg g.seg) && any (λ d. eqb (get_or h.names d 0) (get_or g.names d 0)) (drives_of p)) core gs)

core-twice : (p : Params) (v : View) (gone : ℕ) (g : Segment) → serial_twice p v gone g ≡ serial_twice p v gone (core g)
unfolding serial_twice core
core-twice p v gone g = refl

core_serial : (g : Segment) → serial_fault g ≡ serial_fault (core g)
unfolding serial_fault core
core_serial g = refl

core_stripe : (p : Params) (gone : ℕ) (g : Segment) → stripe_fault p gone g ≡ stripe_fault p gone (core g)
unfolding stripe_fault core recs_on
core_stripe p gone g = refl

core_address : (p : Params) (gone : ℕ) (g : Segment) → address_fault p gone g ≡ address_fault p gone (core g)
unfolding address_fault core recs_on decoded_bad counted counts has_chunk rec_of stored_rec offset_on
core_address p gone g = refl

core_clash : (gs : List Segment) (g : Segment) → clashes gs g ≡ clashes (map core gs) (core g)
unfolding clashes core unsealed
core_clash gs g = ap (λ (x : ℕ). not g.full && leb 2 x)
    (sym (length-map (keep (λ (h : Segment). not (core h).full) gs) core) ∙ ap length (sym (keep-map (λ (h : Segment). not h.full) core gs)))

-- views that agree have the same heads
pub agree_heads : (p : Params) (gone : ℕ) (v u : View) → Agree p gone v u → v.offline ≡ u.offline → SameHeads p gone v u
unfolding is_used pointer_at chunk_at
agree_heads p gone v u ag off = record {
  same_used = λ d z hd q hz. ap₂ (λ (l : List ℕ) (x : Zone). is_good p l d z && not (eqb x.pointer 0)) off (ag d z hd hz q);
  same_head = λ d z hd q hz w. ap (λ (x : Zone). (get_or x.blocks 0 no_chunk).block) (ag d z hd hz q);
}

module _ (p : Params) (gone : ℕ) (v u : View) (here : Here p gone) (ag : Agree p gone v u) (off : v.offline ≡ u.offline) where
  pub same_pointer : (d z : ℕ) → In d (present p gone) → z < p.Z → pointer_at v d z ≡ pointer_at u d z
  unfolding pointer_at
  same_pointer d z m hz = let (hd, q) = present_in p gone d m in ap (λ (x : Zone). x.pointer) (ag d z hd hz q)

  pub same_remaining : remaining p v gone ≡ remaining p u gone
  same_remaining = gather_same_remaining p gone v u (agree_heads p gone v u ag off) here

  -- the zones of a present drive that bear a serial
  pub same_bearing : (d r : ℕ) → d < p.N → is_in gone d ≡ false → bearing p v d r ≡ bearing p u d r
  unfolding bearing is_used serial_in pointer_at chunk_at
  same_bearing d r hd q =
      keep_cong (λ z. (is_good p v.offline d z && not (eqb (zone_at v d z).pointer 0)) && eqb (header_serial p (get_or (zone_at v d z).blocks 0 no_chunk).block) r)
      (λ z. (is_good p u.offline d z && not (eqb (zone_at u d z).pointer 0)) && eqb (header_serial p (get_or (zone_at u d z).blocks 0 no_chunk).block) r) (below p.Z)
      (λ z m. ap₂ (λ (l : List ℕ) (x : Zone). (is_good p l d z && not (eqb x.pointer 0)) && eqb (header_serial p (get_or x.blocks 0 no_chunk).block) r) off
      (ag d z hd (below_in p.Z z m) q))

  pub same_header : (g : Seg) → ZonesLow p gone g → header_at v (low_drive p gone) g ≡ header_at u (low_drive p gone) g
  unfolding header_at chunk_at
  same_header g h =
      ap (λ (x : Zone). (get_or x.blocks 0 no_chunk).block)
      (ag (low_drive p gone) (zone_on g (low_drive p gone)) here.0 (low_zone p gone g (low_drive p gone) h here.0 here.1) here.1)

  pub same_sealed : (g : Seg) → ZonesLow p gone g → sealed_in p v gone g ≡ sealed_in p u gone g
  unfolding sealed_in
  same_sealed g h =
      all_cong (λ d. eqb (pointer_at v d (zone_on g d)) (capacity p)) (λ d. eqb (pointer_at u d (zone_on g d)) (capacity p)) (present p gone)
      (λ d m. let (hd, q) = present_in p gone d m in ap (λ (x : ℕ). eqb x (capacity p)) (same_pointer d (zone_on g d) m (low_zone p gone g d h hd q)))

  same_recs : (g : Seg) → ZonesLow p gone g → (segment_of p v gone g).recs ≡ (segment_of p u gone g).recs
  unfolding segment_of drives_of
  same_recs g h =
      map_cong (λ d. cond (is_in gone d) [] (records_in p (sealed_in p v gone g) (get_or (map (λ d. zone_at v d (zone_on g d)) (below p.N)) d no_zone)))
      (λ d. cond (is_in gone d) [] (records_in p (sealed_in p u gone g) (get_or (map (λ d. zone_at u d (zone_on g d)) (below p.N)) d no_zone))) (below p.N)
      (λ d m. go d (below_in p.N d m) (test (is_in gone d)))
    where
      go : (d : ℕ) → d < p.N → Test (is_in gone d)
          → cond (is_in gone d) [] (records_in p (sealed_in p v gone g) (get_or (map (λ d. zone_at v d (zone_on g d)) (below p.N)) d no_zone))
          ≡ cond (is_in gone d) [] (records_in p (sealed_in p u gone g) (get_or (map (λ d. zone_at u d (zone_on g d)) (below p.N)) d no_zone))
      go d hd (yes! q) = rw q
      go d hd (no! q) = rw q (ap₂ (λ (x : Bool) (y : Zone). records_in p x y) (same_sealed g h)
          (get_d_map-below (λ d. zone_at v d (zone_on g d)) p.N d no_zone hd ∙ ag d (zone_on g d) hd (low_zone p gone g d h hd q) q
          ∙ sym (get_d_map-below (λ d. zone_at u d (zone_on g d)) p.N d no_zone hd)))

  pub same_core : (g : Seg) → ZonesLow p gone g → core (segment_of p v gone g) ≡ core (segment_of p u gone g)
  unfolding core
  same_core g h = λ i. record {
    seg = (seg_is p v gone g ∙ sym (seg_is p u gone g)) i;
    names = (names_is p v gone g ∙ ap (header_zones p) (same_header g h) ∙ sym (names_is p u gone g)) i;
    serial = (serial_is p v gone g ∙ ap (header_serial p) (same_header g h) ∙ sym (serial_is p u gone g)) i;
    copied = (copied_is p v gone g ∙ ap (header_copied p) (same_header g h) ∙ sym (copied_is p u gone g)) i;
    full = (full_is p v gone g ∙ same_sealed g h ∙ sym (full_is p u gone g)) i;
    zones_by_holds = [];
    recs = same_recs g h i;
  }

  pub same_cores : map core (segments p v gone) ≡ map core (segments p u gone)
  unfolding segments
  same_cores =
      map-map core (segment_of p v gone) (remaining p v gone)
      ∙ map_cong (λ g. core (segment_of p v gone g)) (λ g. core (segment_of p u gone g)) (remaining p v gone) (λ g m. same_core g (remaining-low p v gone here g m))
      ∙ ap (map (λ g. core (segment_of p u gone g))) same_remaining
      ∙ sym (map-map core (segment_of p u gone) (remaining p u gone))

  pub same_candidates : candidates p gone (segments p v gone) ≡ candidates p gone (segments p u gone)
  same_candidates = core-candidates p gone (segments p v gone) ∙ ap (candidates p gone) same_cores ∙ sym (core-candidates p gone (segments p u gone))

  pub same_compact : compact_table p (segments p v gone) ≡ compact_table p (segments p u gone)
  same_compact = core_compact p (segments p v gone) ∙ ap (compact_table p) same_cores ∙ sym (core_compact p (segments p u gone))

  -- ---- and nothing else is wrong

  same_zone_by : (g : Seg) (d : ℕ) → ZonesLow p gone g → In d (present p gone)
      → get_or (segment_of p v gone g).zones_by_holds d no_zone ≡ get_or (segment_of p u gone g).zones_by_holds d no_zone
  same_zone_by g d h m = let (hd, q) = present_in p gone d m in zone_by p v gone g d hd ∙ ag d (zone_on g d) hd (low_zone p gone g d h hd q) q ∙ sym (zone_by p u gone g d hd)

  same_header_fault : (g : Seg) → ZonesLow p gone g → header_fault p gone (segment_of p v gone g) ≡ header_fault p gone (segment_of p u gone g)
  unfolding header_fault core
  same_header_fault g h =
      any_cong (λ d. not (same_chunk (get_or (get_or (segment_of p v gone g).zones_by_holds d no_zone).blocks 0 no_chunk)
      (header_block p d (segment_of p v gone g).names (segment_of p v gone g).serial (segment_of p v gone g).copied) zero_spare))
      (λ d. not (same_chunk (get_or (get_or (segment_of p u gone g).zones_by_holds d no_zone).blocks 0 no_chunk)
      (header_block p d (segment_of p u gone g).names (segment_of p u gone g).serial (segment_of p u gone g).copied) zero_spare))
      (present p gone)
      (λ d m. ap₂ (λ (x : Zone) (y : Segment). not (same_chunk (get_or x.blocks 0 no_chunk) (header_block p d y.names y.serial y.copied) zero_spare)) (same_zone_by g d h m)
      (same_core g h))

  same_footer_fault : (g : Seg) → ZonesLow p gone g → footer_fault p gone (segment_of p v gone g) ≡ footer_fault p gone (segment_of p u gone g)
  unfolding footer_fault
  same_footer_fault g h = ap₂ (λ (x y : Bool). not x && y) (full_is p v gone g ∙ same_sealed g h ∙ sym (full_is p u gone g))
      (any_cong (λ d. footer_fault_in p (get_or (segment_of p v gone g).zones_by_holds d no_zone)) (λ d. footer_fault_in p (get_or (segment_of p u gone g).zones_by_holds d no_zone)) (present p gone)
      (λ d m. ap (footer_fault_in p) (same_zone_by g d h m)))

  same_twice_fault : (g : Segment) → serial_twice p v gone g ≡ serial_twice p u gone g
  unfolding serial_twice
  same_twice_fault g = any_cong (λ d. leb 2 (length (bearing p v d g.serial))) (λ d. leb 2 (length (bearing p u d g.serial))) (present p gone)
      (λ d m. let (hd, q) = present_in p gone d m in ap (λ (l : List ℕ). leb 2 (length l)) (same_bearing d g.serial hd q))

  same_bad : (g : Segment) → bad_name p v g ≡ bad_name p u g
  unfolding bad_name
  same_bad g = ap (λ (l : List ℕ). any (λ d. not (ltb (get_or g.names d 0) p.Z && is_good p l d (get_or g.names d 0))) (drives_of p)) off

  pub same_segment_fault : (g : Seg) → ZonesLow p gone g → segment_fault p v gone (segments p v gone) (segment_of p v gone g) ≡ segment_fault p u gone (segments p u gone) (segment_of p u gone g)
  unfolding segment_fault
  same_segment_fault g h =
      let x = segment_of p v gone g in
      let y = segment_of p u gone g in
      let e = same_core g h in
      let e2 : own_fault p gone x ≡ own_fault p gone y = core_own p gone x ∙ ap (own_fault p gone) e ∙ sym (core_own p gone y) in
      let e3 : bad_name p v x ≡ bad_name p u y = core_bad p v x ∙ ap (bad_name p v) e ∙ sym (core_bad p v y) ∙ same_bad y in
      let e4 : name_clash p (segments p v gone) x ≡ name_clash p (segments p u gone) y =
      core_name p (segments p v gone) x ∙ ap₂ (name_clash p) same_cores e ∙ sym (core_name p (segments p u gone) y) in
      let e5 : serial_twice p v gone x ≡ serial_twice p u gone y = core-twice p v gone x ∙ ap (serial_twice p v gone) e ∙ sym (core-twice p v gone y) ∙ same_twice_fault y in
      let e6 : serial_fault x ≡ serial_fault y = core_serial x ∙ ap serial_fault e ∙ sym (core_serial y) in
      let e7 : stripe_fault p gone x ≡ stripe_fault p gone y = core_stripe p gone x ∙ ap (stripe_fault p gone) e ∙ sym (core_stripe p gone y) in
      let e8 : address_fault p gone x ≡ address_fault p gone y = core_address p gone x ∙ ap (address_fault p gone) e ∙ sym (core_address p gone y) in
      let e10 : clashes (segments p v gone) x ≡ clashes (segments p u gone) y =
      core_clash (segments p v gone) x ∙ ap₂ clashes same_cores e ∙ sym (core_clash (segments p u gone) y) in
      λ i. same_header_fault g h i || e2 i || e3 i || e4 i || e5 i || e6 i || e7 i || e8 i || same_footer_fault g h i || e10 i

  faults-are :
      (w : View)
      → segment_faults p w gone (segments p w gone) ≡ map (λ g. zone_on (segment_of p w gone g).seg (low_drive p gone))
      (keep (λ g. segment_fault p w gone (segments p w gone) (segment_of p w gone g)) (remaining p w gone))
  unfolding segment_faults segments
  faults-are w =
      ap (map (λ (x : Segment). zone_on x.seg (low_drive p gone))) (keep-map (segment_fault p w gone (map (segment_of p w gone) (remaining p w gone))) (segment_of p w gone) (remaining p w gone))
      ∙ map-map (λ (x : Segment). zone_on x.seg (low_drive p gone)) (segment_of p w gone)
      (keep (λ g. segment_fault p w gone (map (segment_of p w gone) (remaining p w gone)) (segment_of p w gone g)) (remaining p w gone))

  -- what 9 finds is the same
  pub same_faults : segment_faults p v gone (segments p v gone) ≡ segment_faults p u gone (segments p u gone)
  same_faults =
      faults-are v
      ∙ ap (map (λ g. zone_on (segment_of p v gone g).seg (low_drive p gone)))
      (keep_cong (λ g. segment_fault p v gone (segments p v gone) (segment_of p v gone g)) (λ g. segment_fault p u gone (segments p u gone) (segment_of p u gone g)) (remaining p v gone)
      (λ g m. same_segment_fault g (remaining-low p v gone here g m))
      ∙ ap (keep (λ g. segment_fault p u gone (segments p u gone) (segment_of p u gone g))) same_remaining)
      ∙ map_cong (λ g. zone_on (segment_of p v gone g).seg (low_drive p gone)) (λ g. zone_on (segment_of p u gone g).seg (low_drive p gone))
      (keep (λ g. segment_fault p u gone (segments p u gone) (segment_of p u gone g)) (remaining p u gone))
      (λ g m. ap (λ (x : Seg). zone_on x (low_drive p gone)) (seg_is p v gone g ∙ sym (seg_is p u gone g)))
      ∙ sym (faults-are u)

  pub same_pointer_faults : pointer_faults p v gone ≡ pointer_faults p u gone
  unfolding pointer_faults
  same_pointer_faults =
      keep_cong (λ z. any (λ d. is_good p v.offline d z && ltb (capacity p) (pointer_at v d z)) (present p gone))
      (λ z. any (λ d. is_good p u.offline d z && ltb (capacity p) (pointer_at u d z)) (present p gone)) (below p.Z)
      (λ z m. any_cong (λ d. is_good p v.offline d z && ltb (capacity p) (pointer_at v d z)) (λ d. is_good p u.offline d z && ltb (capacity p) (pointer_at u d z)) (present p gone)
      (λ d n. ap₂ (λ (l : List ℕ) (x : ℕ). is_good p l d z && ltb (capacity p) x) off (same_pointer d z n (below_in p.Z z m))))

  pub same_accepted : Accepted p v gone → Accepted p u gone
  same_accepted a = record { pointers_ok = sym same_pointer_faults ∙ a.pointers_ok; segments_ok = sym same_faults ∙ a.segments_ok }
