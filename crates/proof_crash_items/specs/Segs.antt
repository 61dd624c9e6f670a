-- Steps 1 and 2 of a restart, as computed: the segments gathered by serial are the machine's, each in the zones that its header names. Assumes nothing.
use Rattle.std.specs.Prelude.{◌≡◌, Bool, ◌&&◌, ◌≢◌}
use Rattle.std.proofs.Math.Path.{refl, sym, ap, subst}
use Rattle.std.proofs.Common.{◌∙◌, inl, arith}
use mathlib.Core.List.{List}
use Rattle.std.proofs.Math.Bool.{true, false, not}
use Prim.Native.Nat.{ℕ, ◌≤◌, ◌<◌}
use borrow.Author.Tests.{eq-eqb, ne_eqb, eqb-true, eqb-false, not-true}
use Rattle.std.proofs.Math.Dec.{eqb}
use Rattle.std.proofs.Math.ListN.{length, get_or}
use Rattle.spec.specs.declared.Params.{Params}
use Rattle.spec.specs.declared.Seg.{Seg}
use Rattle.spec.specs.Drives.{no_chunk, View, zone_at, pointer_at, chunk_at, is_good, few_good, zone_on, seg_with, same_seg}
use Rattle.spec.specs.Layout.{header_serial, header_copied, header_zone, header_zones}
use Rattle.spec.specs.Lists.{any, is_in}
use Rattle.spec.specs.Segments.{low_drive, is_used, serial_in, lowest_bearing, zone_for, seg_for, header_at, left_by1, is_copy, remaining}
use Rattle.law_basic.specs.Geometry.{Ranged, zone_low}
use Rattle.law_basic.specs.Ranges.{Test, test, and_left, and_right, and_both, get_d_map-below, map-below_same}
use Rattle.law_basic.specs.Ranges.Test.{yes!, no! }
use Rattle.law_basic.specs.Segs.{seg-other, with_zone, with_same}
use Rattle.law_drives.specs.Gather.{Borne, borne_is, in_left_by_1, left_in, left_serial}
use Rattle.law_drives.specs.Segs.{Here}
use Rattle.law_drives.specs.Spots.{SpotsApart}
use Rattle.proof_crash_machine.specs.Exec.{and_2, both_true, not_1, not_2}
use Rattle.proof_crash_machine.specs.Facts.{Ghost, Choice, L, R, ZoneItems, Facts, used, Used, trust}
use Rattle.proof_crash_machine.specs.View.{Item, ItemView}
use Rattle.proof_crash_machine.specs.View.Item.{hdr, foot}
use Rattle.proof_crash_items.specs.Items.{item_at, items_of, items_in, length_of, get_d_of, named_zones}
use Rattle.proof_crash_items.specs.Member.{Has, keep_has, has_keep, any_has, has_any}
use Rattle.proof_crash_items.specs.Named.{low_drive_holds}
use Rattle.proof_crash_items.specs.Places.{PlacesPlaced}
use Rattle.proof_crash_items.specs.Ranges.{par_of, fine_of, fine_is}
use Rattle.proof_crash_items.specs.Shape.{Shape}
use Rattle.proof_crash_items.specs.Sound.{BytesOk}
use Rattle.proof_crash_items.specs.ZoneBytes.{ZoneBytes}
use Rattle.law_drives.specs.Masks.{named-low}

-- The tie. v: the drives by drive and zone, with the list off of offline zones. u: the machine's view by drive and segment; a segment's name is its serial.
-- On trusted drives, of good zones, just the zones that segments in use name hold something, and they hold what the machine's view has of the segment (placed);
-- their bytes are what items forget (bytes); and the machine's facts hold of u (facts). Of untrusted drives and offline zones nothing is said.
-- What holds in u follows for v: the segments left by 1 are `named_seg` of the machine's (has-left1, left1-has), those that remain likewise; `name_of` is the name back.
pub record OnDrives (p : Params) (r : Ranged p) (off : List ℕ) (g : Ghost) (v : View) (u : ItemView) : Type 0 where
  pub shape : Shape p v
  pub offline : v.offline ≡ off
  pub enough : few_good p off ≡ false
  pub bytes : BytesOk p g.un v
  pub placed : PlacesPlaced (par_of p r off) g.un g.hd (items_in p v) u
  pub facts : Facts (par_of p r off) g u

-- the segment with the zones that n's header names
unfoldable pub named_seg : Params → Ghost → ℕ → Seg
named_seg p g n = seg_with p (g.hd.zn n)

-- a segment's name: the serial in its header on the lowest present drive
unfoldable pub name_of : Params → View → ℕ → Seg → ℕ
name_of p v m z = header_serial p (header_at v (low_drive p m) z)

pub named_zone : (p : Params) (g : Ghost) (n d : ℕ) → d < p.N → zone_on (named_seg p g n) d ≡ g.hd.zn n d
unfolding named_seg
named_zone p g n d l = with_zone p (g.hd.zn n) d l

-- segment z is the machine's n, on the drives that m does not miss
pub record SegAt (p : Params) (v : View) (u : ItemView) (m : ℕ) (z : Seg) (n : ℕ) : Type 0 where
  pub low : (d : ℕ) → d < p.N → is_in m d ≡ false → zone_on z d < p.Z
  pub good : (d : ℕ) → d < p.N → is_in m d ≡ false → is_good p v.offline d (zone_on z d) ≡ true
  pub items : (d : ℕ) → d < p.N → is_in m d ≡ false → items_in p v d (zone_on z d) ≡ u d n

pub segs_used_of : (p : Params) (v : View) (d z : ℕ) → is_good p v.offline d z ≡ true → 0 < pointer_at v d z → is_used p v d z ≡ true
unfolding is_used
segs_used_of p v d z q b = and_both (is_good p v.offline d z) (not (eqb (pointer_at v d z) 0)) q (ap not (ne_eqb (pointer_at v d z) 0 (λ e. let j : ⊥ = omega (arith, e, b) in j)))

pub segs_of_used : (p : Params) (v : View) (d z : ℕ) → is_used p v d z ≡ true → (is_good p v.offline d z ≡ true) × (0 < pointer_at v d z)
unfolding is_used
segs_of_used p v d z q =
    let w : pointer_at v d z ≢ 0 = eqb-false (pointer_at v d z) 0 (not-true (eqb (pointer_at v d z) 0) (and_right (is_good p v.offline d z) (not (eqb (pointer_at v d z) 0)) q)) in
    (and_left (is_good p v.offline d z) (not (eqb (pointer_at v d z) 0)) q, omega (arith, w))

-- the zones that a header names, one by one and as a list
pub segs_named-at : (p : Params) (b : List ℕ) (d : ℕ) → d < p.N → named_zones p b d ≡ header_zone p b d
unfolding named_zones header_zones
segs_named-at p b d l = get_d_map-below (header_zone p b) p.N d 0 l

pub segs_zones_same : (p : Params) (a b : List ℕ) → named_zones p a ≡ named_zones p b → header_zones p a ≡ header_zones p b
unfolding header_zones
segs_zones_same p a b e = map-below_same (header_zone p a) (header_zone p b) p.N (λ d l. sym (segs_named-at p a d l) ∙ ap (λ (f : ℕ → ℕ). f d) e ∙ segs_named-at p b d l)

module _ (p : Params) (r : Ranged p) (off : List ℕ) (g : Ghost) (v : View) (u : ItemView) (k : OnDrives p r off g v u) where
  pub good_fine : (d z : ℕ) → d < p.N → is_good p v.offline d z ≡ true → fine_of p off d z ≡ true
  good_fine d z l q = fine_is p off k.enough d z l ∙ ap (λ (x : List ℕ). is_good p x d z) (sym k.offline) ∙ q

  pub fine_good : (d z : ℕ) → d < p.N → fine_of p off d z ≡ true → is_good p v.offline d z ≡ true
  fine_good d z l q = ap (λ (x : List ℕ). is_good p x d z) k.offline ∙ sym (fine_is p off k.enough d z l) ∙ q

  -- a good zone of a trusted drive
  pub zone_bytes : (d z : ℕ) → d < p.N → g.un d ≡ false → z < p.Z → is_good p v.offline d z ≡ true → ZoneBytes p d (zone_at v d z)
  zone_bytes d z l n b q = k.bytes d l n z b q

  pub zone_pointer_low : (d z : ℕ) → d < p.N → g.un d ≡ false → z < p.Z → is_good p v.offline d z ≡ true → (zone_at v d z).pointer ≤ length (zone_at v d z).blocks
  zone_pointer_low d z l n b q = omega (arith, (zone_bytes d z l n b q).low, k.shape.blocks d z l b)

  pub zone_len_holds : (d z : ℕ) → d < p.N → g.un d ≡ false → z < p.Z → is_good p v.offline d z ≡ true → length (items_in p v d z) ≡ pointer_at v d z
  unfolding pointer_at items_in
  zone_len_holds d z l n b q = length_of p (zone_at v d z) (zone_pointer_low d z l n b q)

  pub zone_facts : (d n : ℕ) → d < p.N → g.un d ≡ false → ZoneItems (par_of p r off) g d n (u d n)
  zone_facts d n l t = k.facts.zones d n (l, t)

  -- its header, if it isn't empty and holds what the machine's view has of n
  pub head_names : (d z n : ℕ) → d < p.N → g.un d ≡ false → z < p.Z → is_good p v.offline d z ≡ true → items_in p v d z ≡ u d n → 0 < pointer_at v d z
      → (header_serial p (chunk_at v d z 0).block ≡ g.hd.ser n) × (header_copied p (chunk_at v d z 0).block ≡ g.hd.cop n) × (named_zones p (chunk_at v d z 0).block ≡ g.hd.zn n)
  unfolding chunk_at pointer_at
  head_names d z n l t b q e w =
      let f : 0 < length (u d n) = subst (λ (x : List Item). 0 < length x) e (omega (arith, zone_len_holds d z l t b q, w)) in
      let h : get_or (u d n) 0 (foot 0) ≡ hdr (g.hd.ser n) (g.hd.cop n) (g.hd.zn n) = (zone_facts d n l t).head f in
      let i : get_or (items_of p (zone_at v d z)) 0 (foot 0) ≡ item_at p 0 (get_or (zone_at v d z).blocks 0 no_chunk) = get_d_of p (zone_at v d z) (zone_pointer_low d z l t b q) 0 w in
      go (sym i ∙ ap (λ (x : List Item). get_or x 0 (foot 0)) (same ∙ e) ∙ h)
    where
      same : items_of p (zone_at v d z) ≡ items_in p v d z
      same = unfold items_in in refl

      go : item_at p 0 (get_or (zone_at v d z).blocks 0 no_chunk) ≡ hdr (g.hd.ser n) (g.hd.cop n) (g.hd.zn n)
          → (header_serial p (get_or (zone_at v d z).blocks 0 no_chunk).block ≡ g.hd.ser n)
          × (header_copied p (get_or (zone_at v d z).blocks 0 no_chunk).block ≡ g.hd.cop n)
          × (named_zones p (get_or (zone_at v d z).blocks 0 no_chunk).block ≡ g.hd.zn n)
      go e = unfold item_at in (cc, cc, cc)

  -- ---- a zone that bears a serial is the machine's segment of that serial, and the one that it names
  pub borne_by : (d z : ℕ) → d < p.N → g.un d ≡ false → z < p.Z → is_used p v d z ≡ true → (items_in p v d z ≡ u d (serial_in p v d z)) × (g.hd.zn (serial_in p v d z) d ≡ z)
  unfolding serial_in
  borne_by d z l t b q =
      let (s, w) = segs_of_used p v d z q in
      let e : 0 < length (items_in p v d z) = omega (arith, zone_len_holds d z l t b s, w) in
      let (n, i, j) = k.placed.from d z (l, t) b (good_fine d z l s) e in
      let f : 0 < length (u d n) = subst (λ (x : List Item). 0 < length x) (sym j) e in
      let h : header_serial p (chunk_at v d z 0).block ≡ n = (head_names d z n l t b s (sym j) w).0 ∙ k.placed.is n (d, (l, t), f) in
      (sym j ∙ ap (u d) (sym h), ap (λ (x : ℕ). g.hd.zn x d) h ∙ i)

  -- and a segment that the machine has on a trusted drive is in the zone that it names
  pub record On (d n : ℕ) : Type 0 where
    pub low : g.hd.zn n d < p.Z
    pub good : is_good p v.offline d (g.hd.zn n d) ≡ true
    pub items : items_in p v d (g.hd.zn n d) ≡ u d n
    pub begun : 0 < pointer_at v d (g.hd.zn n d)
    pub serial : serial_in p v d (g.hd.zn n d) ≡ n

  pub is_on : (d n : ℕ) → d < p.N → g.un d ≡ false → 0 < length (u d n) → On d n
  unfolding serial_in
  is_on d n l t b =
      let f : (g.hd.zn n d < p.Z) × (fine_of p off d (g.hd.zn n d) ≡ true) = k.facts.«open».place.put n (inl (d, (l, t), b)) d l in
      let q : is_good p v.offline d (g.hd.zn n d) ≡ true = fine_good d (g.hd.zn n d) l f.1 in
      let e : items_in p v d (g.hd.zn n d) ≡ u d n = k.placed.at d n (l, t) b in
      let w : 0 < pointer_at v d (g.hd.zn n d) = omega (arith, zone_len_holds d (g.hd.zn n d) l t f.0 q, subst (λ (x : List Item). 0 < length x) (sym e) b) in
      record { low = f.0; good = q; items = e; begun = w; serial = (head_names d (g.hd.zn n d) n l t f.0 q e w).0 ∙ k.placed.is n (d, (l, t), b) }

  pub on_borne : (d n : ℕ) → d < p.N → g.un d ≡ false → 0 < length (u d n) → Borne p v d n (g.hd.zn n d)
  on_borne d n l t b =
      let o : On d n = is_on d n l t b in
      record {
        zone_low = o.low;
        used = segs_used_of p v d (g.hd.zn n d) o.good o.begun;
        serial = o.serial;
        first = λ z i q s.
            let e : g.hd.zn n d ≡ z = ap (λ (x : ℕ). g.hd.zn x d) (sym s) ∙ (borne_by d z l t (let a : z < p.Z = omega (arith, i, o.low) in a) q).1 in
            let j : ⊥ = omega (arith, e, i) in j;
      }

  pub lowest_is : (d n : ℕ) → d < p.N → g.un d ≡ false → 0 < length (u d n) → lowest_bearing p v d n ≡ g.hd.zn n d
  lowest_is d n l t b = borne_is p v d n (g.hd.zn n d) (on_borne d n l t b)

  pub borne_on : (d n z : ℕ) → d < p.N → g.un d ≡ false → Borne p v d n z → 0 < length (u d n)
  borne_on d n z l t b =
      let (s, w) = segs_of_used p v d z b.used in
      subst (λ (x : List Item). 0 < length x) ((borne_by d z l t b.zone_low b.used).0 ∙ ap (u d) b.serial) (omega (arith, zone_len_holds d z l t b.zone_low s, w))

  module _ (m : ℕ) (c : Choice (par_of p r off) g.un (is_in m)) where
    pub trusted : (d : ℕ) → d < p.N → is_in m d ≡ false → g.un d ≡ false
    trusted d l n = trust (par_of p r off) g.un (is_in m) c d l n

    pub drive_here : Here p m
    drive_here = low_drive_holds p m r c.0

    -- the zones of a segment that is the machine's n
    pub seg_bytes : {n : ℕ} (z : Seg) → SegAt p v u m z n → (d : ℕ) → d < p.N → is_in m d ≡ false → ZoneBytes p d (zone_at v d (zone_on z d))
    seg_bytes z b d l q = zone_bytes d (zone_on z d) l (trusted d l q) (b.low d l q) (b.good d l q)

    pub seg_pointer_low : {n : ℕ} (z : Seg) → SegAt p v u m z n → (d : ℕ) → d < p.N → is_in m d ≡ false
        → (zone_at v d (zone_on z d)).pointer ≤ length (zone_at v d (zone_on z d)).blocks
    seg_pointer_low z b d l q = zone_pointer_low d (zone_on z d) l (trusted d l q) (b.low d l q) (b.good d l q)

    pub seg_len : {n : ℕ} (z : Seg) → SegAt p v u m z n → (d : ℕ) → d < p.N → is_in m d ≡ false → length (u d n) ≡ pointer_at v d (zone_on z d)
    seg_len z b d l q = ap length (sym (b.items d l q)) ∙ zone_len_holds d (zone_on z d) l (trusted d l q) (b.low d l q) (b.good d l q)

    -- ---- step 1

    left_used : (n : ℕ) → L (par_of p r off) u (is_in m) n → Used (par_of p r off) g.un u n
    left_used n h = used (par_of p r off) g u (is_in m) n c h

    -- what the machine has on all present drives
    pub seg-at : (n : ℕ) → L (par_of p r off) u (is_in m) n → SegAt p v u m (named_seg p g n) n
    seg-at n h = record {
      low = λ d l q. subst (λ (x : ℕ). x < p.Z) (sym (named_zone p g n d l)) (o d l q).low;
      good = λ d l q. ap (is_good p v.offline d) (named_zone p g n d l) ∙ (o d l q).good;
      items = λ d l q. ap (items_in p v d) (named_zone p g n d l) ∙ (o d l q).items;
    }
      where
        o : (d : ℕ) → d < p.N → is_in m d ≡ false → On d n
        o d l q = is_on d n l (trusted d l q) (h d l q)

    -- the segment of its serial: by the lowest zones that bear it, and by its header on missing drives
    pub seg_for_holds : (n : ℕ) → L (par_of p r off) u (is_in m) n → seg_for p v m n ≡ named_seg p g n
    unfolding seg_for named_seg
    seg_for_holds n h = with_same p (zone_for p v m n) (g.hd.zn n) (λ d l. go d l (test (is_in m d)))
      where
        a : ℕ
        a = low_drive p m

        at : lowest_bearing p v a n ≡ g.hd.zn n a
        at = lowest_is a n drive_here.0 (trusted a drive_here.0 drive_here.1) (h a drive_here.0 drive_here.1)

        o : On a n
        o = is_on a n drive_here.0 (trusted a drive_here.0 drive_here.1) (h a drive_here.0 drive_here.1)

        names : named_zones p (chunk_at v a (lowest_bearing p v a n) 0).block ≡ g.hd.zn n
        names = ap (λ (x : ℕ). named_zones p (chunk_at v a x 0).block) at
            ∙ (head_names a (g.hd.zn n a) n drive_here.0 (trusted a drive_here.0 drive_here.1) o.low o.good o.items o.begun).2

        one : (d : ℕ) → d < p.N → header_zone p (chunk_at v a (lowest_bearing p v a n) 0).block d ≡ named_zones p (chunk_at v a (lowest_bearing p v a n) 0).block d
        one d l = sym (segs_named-at p (chunk_at v a (lowest_bearing p v a n) 0).block d l)

        go : (d : ℕ) → d < p.N → Test (is_in m d) → zone_for p v m n d ≡ g.hd.zn n d
        go d l (yes! q) = unfold zone_for in rw q (one d l ∙ ap (λ (f : ℕ → ℕ). f d) names)
        go d l (no! q) = unfold zone_for in rw q (lowest_is d n l (trusted d l q) (h d l q))

    pub has_left1 : (n : ℕ) → L (par_of p r off) u (is_in m) n → Has (named_seg p g n) (left_by1 p v m)
    has_left1 n h = subst (λ (x : Seg). Has x (left_by1 p v m)) (seg_for_holds n h) (in_left_by_1 p v m drive_here n (λ d l q.
        subst (λ (x : ℕ). x < p.Z) (sym (lowest_is d n l (trusted d l q) (h d l q))) (is_on d n l (trusted d l q) (h d l q)).low))

    pub left1_has : (z : Seg) → Has z (left_by1 p v m) → L (par_of p r off) u (is_in m) (name_of p v m z) × (z ≡ named_seg p g (name_of p v m z))
    unfolding name_of
    left1_has z i =
        let a = left_in p v m drive_here z i in
        let e : header_serial p (header_at v (low_drive p m) z) ≡ a.serial = left_serial p v m drive_here z i (low_drive p m) drive_here.0 drive_here.1 in
        let h : L (par_of p r off) u (is_in m) a.serial = λ d l q. borne_on d a.serial (zone_on z d) l (trusted d l q) (a.on d l q) in
        (subst (L (par_of p r off) u (is_in m)) (sym e) h, a.is_for ∙ seg_for_holds a.serial h ∙ ap (named_seg p g) (sym e))

    -- the headers that step 2 reads
    pub low-serials : (n : ℕ) → L (par_of p r off) u (is_in m) n
        → (header_serial p (header_at v (low_drive p m) (named_seg p g n)) ≡ n) × (header_copied p (header_at v (low_drive p m) (named_seg p g n)) ≡ g.hd.cop n)
    unfolding header_at
    low-serials n h =
        let a = low_drive p m in
        let t : g.un a ≡ false = trusted a drive_here.0 drive_here.1 in
        let o : On a n = is_on a n drive_here.0 t (h a drive_here.0 drive_here.1) in
        let w = head_names a (g.hd.zn n a) n drive_here.0 t o.low o.good o.items o.begun in
        let e : zone_on (named_seg p g n) a ≡ g.hd.zn n a = named_zone p g n a drive_here.0 in (
          ap (λ (x : ℕ). header_serial p (chunk_at v a x 0).block) e ∙ w.0 ∙ k.placed.is n (left_used n h),
          ap (λ (x : ℕ). header_copied p (chunk_at v a x 0).block) e ∙ w.1,
        )

    pub low_names : (n : ℕ) → L (par_of p r off) u (is_in m) n → named_zones p (header_at v (low_drive p m) (named_seg p g n)) ≡ g.hd.zn n
    unfolding header_at
    low_names n h =
        let a = low_drive p m in
        let t : g.un a ≡ false = trusted a drive_here.0 drive_here.1 in
        let o : On a n = is_on a n drive_here.0 t (h a drive_here.0 drive_here.1) in
        ap (λ (x : ℕ). named_zones p (chunk_at v a x 0).block) (named_zone p g n a drive_here.0) ∙ (head_names a (g.hd.zn n a) n drive_here.0 t o.low o.good o.items o.begun).2

    pub segs_name_is : (n : ℕ) → L (par_of p r off) u (is_in m) n → name_of p v m (named_seg p g n) ≡ n
    unfolding name_of
    segs_name_is n h = (low-serials n h).0

    own_name : (n : ℕ) → L (par_of p r off) u (is_in m) n → g.hd.ser n ≡ n
    own_name n h = k.placed.is n (left_used n h)

    -- ---- step 2
    abbrev copy_test : Seg → Seg → Bool
    copy_test z o = not (same_seg o z) && eqb (header_serial p (header_at v (low_drive p m) o)) (header_copied p (header_at v (low_drive p m) z))

    positive : (n : ℕ) → L (par_of p r off) u (is_in m) n → g.hd.cop n < g.hd.ser n
    positive n h = k.facts.swap.below n (left_used n h)

    pub has_remaining : (n : ℕ) → R (par_of p r off) g.hd u (is_in m) n → Has (named_seg p g n) (remaining p v m)
    unfolding remaining is_copy
    has_remaining n h =
        let z : Seg = named_seg p g n in
        has_keep (λ g. not (is_copy p v (low_drive p m) (left_by1 p v m) g)) z (left_by1 p v m) (has_left1 n h.left)
        (not_1 (is_copy p v (low_drive p m) (left_by1 p v m) z) (λ e.
        let q : (o : Seg) × Has o (left_by1 p v m) × (copy_test z o ≡ true) =
        any_has (copy_test z) (left_by1 p v m) (and_2 (not (eqb (header_copied p (header_at v (low_drive p m) z)) 0)) (any (copy_test z) (left_by1 p v m)) e) in
        let (lo, eo) = left1_has q.0 q.1 in
        h.own (name_of p v m q.0) lo (sym (low-serials n h.left).1
        ∙ sym (eqb-true (header_serial p (header_at v (low_drive p m) q.0)) (header_copied p (header_at v (low_drive p m) z))
        (and_2 (not (same_seg q.0 z)) (eqb (header_serial p (header_at v (low_drive p m) q.0)) (header_copied p (header_at v (low_drive p m) z))) q.2))
        ∙ same q.0 ∙ sym (own_name (name_of p v m q.0) lo))))
      where
        same : (o : Seg) → header_serial p (header_at v (low_drive p m) o) ≡ name_of p v m o
        same o = unfold name_of in refl

    pub remaining_has : (z : Seg) → Has z (remaining p v m) → R (par_of p r off) g.hd u (is_in m) (name_of p v m z) × (z ≡ named_seg p g (name_of p v m z))
    unfolding remaining is_copy
    remaining_has z i =
        let q : Has z (left_by1 p v m) × (not (is_copy p v (low_drive p m) (left_by1 p v m) z) ≡ true) =
        keep_has (λ g. not (is_copy p v (low_drive p m) (left_by1 p v m) g)) z (left_by1 p v m) i in
        let n : ℕ = name_of p v m z in
        let (h, s) = left1_has z q.0 in (
          record {
            left = h;
            own = λ o lo e.
                let y : Seg = named_seg p g o in
                let cz : header_copied p (header_at v (low_drive p m) z) ≡ g.hd.cop (name_of p v m z) = ap (λ (x : Seg). header_copied p (header_at v (low_drive p m) x)) s
                ∙ (low-serials (name_of p v m z) h).1 in
                let so : header_serial p (header_at v (low_drive p m) y) ≡ g.hd.ser o = (low-serials o lo).0 ∙ sym (own_name o lo) in
                let c₀ : eqb (header_copied p (header_at v (low_drive p m) z)) 0 ≡ false = ne_eqb (header_copied p (header_at v (low_drive p m) z)) 0
                (λ w. let j : ⊥ = omega (arith, w, cz, e, positive o lo) in j) in
                let oz : same_seg y z ≡ false = seg-other y z (λ w.
                let t : g.hd.ser o ≡ g.hd.ser (name_of p v m z) = ap g.hd.ser (sym (segs_name_is o lo) ∙ ap (name_of p v m) w) in
                let j : ⊥ = omega (arith, t, e, positive (name_of p v m z) h) in j) in
                not_2 (is_copy p v (low_drive p m) (left_by1 p v m) z) q.1
                (both_true (not (eqb (header_copied p (header_at v (low_drive p m) z)) 0)) (any (copy_test z) (left_by1 p v m)) (ap not c₀)
                (has_any (copy_test z) (left_by1 p v m) y (has_left1 o lo)
                (both_true (not (same_seg y z)) (eqb (header_serial p (header_at v (low_drive p m) y)) (header_copied p (header_at v (low_drive p m) z))) (ap not oz)
                (eq-eqb (header_serial p (header_at v (low_drive p m) y)) (header_copied p (header_at v (low_drive p m) z)) (so ∙ sym e ∙ sym cz)))));
          },
          s,
        )

    -- a segment that remains, as the machine's
    pub remains_at_holds : (z : Seg) → Has z (remaining p v m) → SegAt p v u m z (name_of p v m z)
    remains_at_holds z i = let (h, e) = remaining_has z i in subst (λ (x : Seg). SegAt p v u m x (name_of p v m z)) (sym e) (seg-at (name_of p v m z) h.left)

    pub name_once : (y z : Seg) → Has y (remaining p v m) → Has z (remaining p v m) → name_of p v m y ≡ name_of p v m z → y ≡ z
    name_once y z i j e = (remaining_has y i).1 ∙ ap (named_seg p g) e ∙ sym (remaining_has z j).1

    -- its zones are those that its header names, on every drive
    pub its_zones : (z : Seg) → Has z (remaining p v m) → (d : ℕ) → d < p.N → zone_on z d ≡ g.hd.zn (name_of p v m z) d
    its_zones z i d l = ap (λ (x : Seg). zone_on x d) (remaining_has z i).1 ∙ named_zone p g (name_of p v m z) d l

    -- ---- no two segments name one zone, on missing drives too
    pub put_there : (z : Seg) → Has z (remaining p v m) → (d : ℕ) → d < p.N → (zone_on z d < p.Z) × (is_good p v.offline d (zone_on z d) ≡ true)
    put_there z i d l =
        let f = k.facts.«open».place.put (name_of p v m z) (inl (left_used (name_of p v m z) (remaining_has z i).0.left)) d l in
        let e = its_zones z i d l in
        (subst (λ (x : ℕ). x < p.Z) (sym e) f.0, ap (is_good p v.offline d) e ∙ fine_good d (g.hd.zn (name_of p v m z) d) l f.1)

    pub one_there : (y z : Seg) → Has y (remaining p v m) → Has z (remaining p v m) → (d : ℕ) → d < p.N → zone_on y d ≡ zone_on z d → y ≡ z
    one_there y z i j d l e = name_once y z i j (k.facts.«open».place.apart (name_of p v m y) (name_of p v m z) (inl (left_used (name_of p v m y) (remaining_has y i).0.left))
        (inl (left_used (name_of p v m z) (remaining_has z j).0.left)) d l (sym (its_zones y i d l) ∙ e ∙ its_zones z j d l))

    pub apart_there : SpotsApart p v m
    apart_there = record {
      named-low = λ z d i l q. (put_there z i d l).0;
      named_good = λ z d i l q. (put_there z i d l).1;
      named_once = λ y z d i j l q e. one_there y z i j d l e;
    }
