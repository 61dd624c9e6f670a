-- What a restart's or rebuild's check of the drives gives.
use Rattle.std.specs.Prelude.{◌≡◌, ◌&&◌, ◌||◌, length}
use Rattle.std.proofs.Math.Path.{refl, sym, ap}
use Rattle.std.proofs.Common.{ap₂, ◌∙◌, subst, inl, inr, add-zero, zero-add, arith, ext_get_or}
use mathlib.Core.List.{List, [], ◌∷◌, map}
use Rattle.std.proofs.Math.Bool.{Bool, true, false, not}
use Prim.Native.Nat.{ℕ, zero, suc, ◌+◌, ◌≤◌, ◌<◌}
use borrow.Author.Tests.{eq-eqb, eqb-true, le-leb, leb-false, ltb-true, ltb-false, not-false}
use Rattle.std.proofs.Math.Dec.{leb, ltb, eqb}
use Rattle.std.proofs.Math.ListN.{get_or}
use Rattle.std.proofs.lemmas.List.{length-map}
use Rattle.spec.specs.declared.Params.{Params}
use Rattle.spec.specs.Drives.{View, zone_at, pointer_at, sealed_in, same_seg, zone_on, Chunk, Zone, chunk_at, data_stored, is_good, mk_chunk, no_chunk, no_zone, record_in, zero_spare, zones_in}
use Rattle.spec.specs.Faults.{pointer_faults, header_fault, serial_fault, outside, twice, stripe_fault, address_fault, footer_fault, clashes, segment_fault, segment_faults, same_blocks_of}
use Rattle.spec.specs.Layout.{in_group_of, Rec, mk_rec, header_block, header_serial, header_zone, header_zones}
use Rattle.spec.specs.Lists.{below, any, keep, is_in, same_list}
use Rattle.spec.specs.Params.{capacity, named, present, drives_of}
use Rattle.spec.specs.Segments.{low_drive, remaining, Segment, records_in, segment_of, segments, recs_on, bearing, unsealed, header_at, is_used, left_by1, lowest_bearing, serial_in}
use Rattle.law_basic.specs.Ranges.{and_both, and_left, and_right, same_list_true, Test, test, get_d_map-below, length-below}
use Rattle.law_basic.specs.Ranges.Test.{yes!, no! }
use Rattle.law_basic.specs.Segs.{seg-other, segs_differ, zones_in_lem, zones_in_long}
use Rattle.law_drives.specs.Members.{In, in_map, none_in, keep-nil_in, in_below, in_any, in_get_d, in_keep}
use Rattle.law_drives.specs.Segs.{length_records, record_at_lem, recs_here, seg_is, Here, full_is, remaining_left, serial_is, zone_by}
use Rattle.law_drives.specs.Spots.{InGroups, SpotsApart}
use Rattle.law_drives.specs.Tests.{clash, or_first, or_right, or_neither, false_true}
use Rattle.spec.specs.declared.Seg.{Seg}
use Rattle.law_basic.specs.Geometry.{Ranged}
use Rattle.law_drives.specs.Masks.{low-present}
use Rattle.law_drives.specs.Gather.{Borne, borne_is, for_gone, in_present, present_in, left_in, left_serial, serial_one}
use Rattle.spec.specs.Faults.{bad_name, footer_fault_in, name_clash, own_fault, same_chunk, serial_twice}

-- with one drive named missing, the lowest present drive is one
pub named_here : (p : Params) → Ranged p → (d : ℕ) → d < p.N → Here p (named d)
named_here p r d hd = present_in p (named d) (low_drive p (named d)) (low-present p r d hd)

-- nothing is wrong on the drives
pub record Accepted (p : Params) (v : View) (gone : ℕ) : Type 0 where
  pub pointers_ok : pointer_faults p v gone ≡ []
  pub segments_ok : segment_faults p v gone (segments p v gone) ≡ []

pub map-nil : {A B : Type 0} (f : A → B) (l : List A) → map f l ≡ [] → l ≡ []
map-nil f [] q = refl
map-nil f (a ∷ l) q = absurd (let x : ◌≡◌ {A = ℕ} 0 1 = cc in let y : ⊥ = omega arith in y)

-- records: in their groups, and none twice
pub outside_in : (p : Params) (b : ℕ) (rs : List Rec) → outside p b rs ≡ false → (i : ℕ) → i < length rs → in_group_of p (b + i) (get_or rs i (mk_rec 0 0 0)).stripe ≡ true
unfolding outside
outside_in p b [] q i h = absurd (let z : ⊥ = omega arith in z)
outside_in p b (r ∷ rs) q zero h =
    ap (λ (x : ℕ). in_group_of p x r.stripe) (add-zero b) ∙ not-false (in_group_of p b r.stripe) (or_first (not (in_group_of p b r.stripe)) (outside p (suc b) rs) q)
outside_in p b (r ∷ rs) q (suc i) h =
    ap (λ (x : ℕ). in_group_of p x (get_or rs i (mk_rec 0 0 0)).stripe) (let e : b + suc i ≡ suc b + i = omega arith in e)
    ∙ outside_in p (suc b) rs (or_right (not (in_group_of p b r.stripe)) (outside p (suc b) rs) q) i (omega arith)

-- a list of at most one has one
pub short_once : {A : Type 0} (l : List A) (a b : A) → leb 2 (length l) ≡ false → In a l → In b l → a ≡ b
short_once [] a b q m n = absurd m
short_once (x ∷ []) a b q (inl e) (inl f) = e ∙ sym f
short_once (x ∷ []) a b q (inl e) (inr n) = absurd n
short_once (x ∷ []) a b q (inr m) n = absurd m
short_once (x ∷ y ∷ l) a b q m n = clash (le-leb 2 (suc (suc (length l))) (omega arith)) q

-- equal chunks
pub same_chunk_lem : (c : Chunk) (b s : List ℕ) → same_chunk c b s ≡ true → c ≡ mk_chunk b s
unfolding same_chunk
same_chunk_lem c b s q =
    let e = same_list_true c.block b (and_left (same_list c.block b) (same_list c.spare s) q) in
    let f = same_list_true c.spare s (and_right (same_list c.block b) (same_list c.spare s) q) in
    λ i. mk_chunk (e i) (f i)

-- no number is twice
pub twice_once : (rs : List Rec) → twice rs ≡ false → (i j : ℕ) → i < length rs → j < length rs → (get_or rs i (mk_rec 0 0 0)).stripe ≡ (get_or rs j (mk_rec 0 0 0)).stripe → i ≡ j
unfolding twice
twice_once [] q i j h k e = absurd (let z : ⊥ = omega arith in z)
twice_once (r ∷ rs) q zero zero h k e = refl
twice_once (r ∷ rs) q zero (suc j) h k e =
    clash (eq-eqb (get_or rs j (mk_rec 0 0 0)).stripe r.stripe (sym e))
    (none_in (λ (x : Rec). eqb x.stripe r.stripe) rs (or_first (any (λ (x : Rec). eqb x.stripe r.stripe) rs) (twice rs) q)
    (get_or rs j (mk_rec 0 0 0)) (in_get_d rs j (mk_rec 0 0 0) (omega arith)))
twice_once (r ∷ rs) q (suc i) zero h k e =
    clash (eq-eqb (get_or rs i (mk_rec 0 0 0)).stripe r.stripe e)
    (none_in (λ (x : Rec). eqb x.stripe r.stripe) rs (or_first (any (λ (x : Rec). eqb x.stripe r.stripe) rs) (twice rs) q)
    (get_or rs i (mk_rec 0 0 0)) (in_get_d rs i (mk_rec 0 0 0) (omega arith)))
twice_once (r ∷ rs) q (suc i) (suc j) h k e =
    ap suc (twice_once rs (or_right (any (λ (x : Rec). eqb x.stripe r.stripe) rs) (twice rs) q) i j (omega arith) (omega arith) e)

-- ---- the zones that the header on the lowest present drive names

module _ (p : Params) (v : View) (gone : ℕ) where
  pub names_is : (g : Seg) → (segment_of p v gone g).names ≡ header_zones p (header_at v (low_drive p gone) g)
  unfolding segment_of
  names_is g = refl

  pub name_at : (g : Seg) (d : ℕ) → d < p.N → get_or (segment_of p v gone g).names d 0 ≡ header_zone p (header_at v (low_drive p gone) g) d
  name_at g d hd = ap (λ (l : List ℕ). get_or l d 0) (names_is g) ∙ as! (header_at v (low_drive p gone) g)
    where
      as! : (b : List ℕ) → get_or (header_zones p b) d 0 ≡ header_zone p b d
      as! b = unfold header_zones in get_d_map-below (header_zone p b) p.N d 0 hd

  pub names_long : (g : Seg) → length (segment_of p v gone g).names ≡ p.N
  names_long g = ap length (names_is g) ∙ as! (header_at v (low_drive p gone) g)
    where
      as! : (b : List ℕ) → length (header_zones p b) ≡ p.N
      as! b = unfold header_zones in (length-map (below p.N) (header_zone p b) ∙ length-below p.N)

  module _ (here : Here p gone) where
    -- on a missing drive they are the segment's
    pub name_gone : (g : Seg) (d : ℕ) → In g (left_by1 p v gone) → d < p.N → is_in gone d ≡ true → get_or (segment_of p v gone g).names d 0 ≡ zone_on g d
    unfolding header_at
    name_gone g d m hd q =
        let l = left_in p v gone here g m in
        let low = low_drive p gone in
        let z : zone_on g low ≡ lowest_bearing p v low l.serial = sym (borne_is p v low l.serial (zone_on g low) (l.on low here.0 here.1)) in
        name_at g d hd
        ∙ ap (λ (n : ℕ). header_zone p (chunk_at v low n 0).block d) z
        ∙ sym (ap (λ (x : Seg). zone_on x d) l.is_for ∙ for_gone p v gone l.serial d hd q)

    -- the serial, on every present drive
    pub serial_on : (g : Seg) (d : ℕ) → In g (left_by1 p v gone) → d < p.N → is_in gone d ≡ false → header_serial p (header_at v d g) ≡ (segment_of p v gone g).serial
    serial_on g d m hd q =
        left_serial p v gone here g m d hd q ∙ sym (left_serial p v gone here g m (low_drive p gone) here.0 here.1) ∙ sym (serial_is p v gone g)

    -- its zone there bears its serial
    pub zone_borne : (g : Seg) (d : ℕ) → In g (left_by1 p v gone) → d < p.N → is_in gone d ≡ false → Borne p v d (segment_of p v gone g).serial (zone_on g d)
    zone_borne g d m hd q =
        subst (λ (n : ℕ). Borne p v d n (zone_on g d)) (sym (left_serial p v gone here g m d hd q) ∙ serial_on g d m hd q) ((left_in p v gone here g m).on d hd q)

    -- one serial, one segment
    pub serials_differ : (g h : Seg) → In g (remaining p v gone) → In h (remaining p v gone) → (segment_of p v gone g).serial ≡ (segment_of p v gone h).serial → g ≡ h
    serials_differ g h m n e =
        serial_one p v gone here g h (remaining_left p v gone g m) (remaining_left p v gone h n) (sym (serial_is p v gone g) ∙ e ∙ serial_is p v gone h)

-- ---- what a check gives

module _ (p : Params) (v : View) (gone : ℕ) (acc : Accepted p v gone) where
  pub pointer_ok : (d z : ℕ) → d < p.N → z < p.Z → is_in gone d ≡ false → is_good p v.offline d z ≡ true → pointer_at v d z ≤ capacity p
  unfolding pointer_faults
  pointer_ok d z hd hz q k =
      let f : ℕ → Bool = λ d. is_good p v.offline d z && ltb (capacity p) (pointer_at v d z) in
      let n : f d ≡ false = none_in f (present p gone)
      (keep-nil_in (λ z. any (λ d. is_good p v.offline d z && ltb (capacity p) (pointer_at v d z)) (present p gone)) (below p.Z) acc.pointers_ok z (in_below p.Z z hz))
      d (in_present p gone d hd q) in
      ltb-false (capacity p) (pointer_at v d z) (rw k at n)

  pub segment_ok : (g : Seg) → In g (remaining p v gone) → segment_fault p v gone (segments p v gone) (segment_of p v gone g) ≡ false
  unfolding segment_faults segments
  segment_ok g m =
      keep-nil_in (segment_fault p v gone (map (segment_of p v gone) (remaining p v gone))) (map (segment_of p v gone) (remaining p v gone))
      (map-nil (λ (x : Segment). zone_on x.seg (low_drive p gone)) (keep (segment_fault p v gone (map (segment_of p v gone) (remaining p v gone))) (map (segment_of p v gone) (remaining p v gone)))
      acc.segments_ok)
      (segment_of p v gone g) (in_map (segment_of p v gone) (remaining p v gone) g m)

  pub record SegmentOk (g : Seg) : Type 0 where
    pub no_header_fault : header_fault p gone (segment_of p v gone g) ≡ false
    pub no_own_fault : own_fault p gone (segment_of p v gone g) ≡ false
    pub no_bad_name : bad_name p v (segment_of p v gone g) ≡ false
    pub no_name_clash : name_clash p (segments p v gone) (segment_of p v gone g) ≡ false
    pub no_serial_twice : serial_twice p v gone (segment_of p v gone g) ≡ false
    pub no_serial_fault : serial_fault (segment_of p v gone g) ≡ false
    pub no_stripe_fault : stripe_fault p gone (segment_of p v gone g) ≡ false
    pub no_address_fault : address_fault p gone (segment_of p v gone g) ≡ false
    pub no_footer_fault : footer_fault p gone (segment_of p v gone g) ≡ false
    pub no_clash : clashes (segments p v gone) (segment_of p v gone g) ≡ false

  pub faults_apart : (g : Seg) → In g (remaining p v gone) → SegmentOk g
  unfolding segment_fault
  faults_apart g m =
      let x = segment_of p v gone g in
      let f1 = header_fault p gone x in
      let f2 = own_fault p gone x in
      let f3 = bad_name p v x in
      let f4 = name_clash p (segments p v gone) x in
      let f5 = serial_twice p v gone x in
      let f6 = serial_fault x in
      let f7 = stripe_fault p gone x in
      let f8 = address_fault p gone x in
      let f9 = footer_fault p gone x in
      let f10 = clashes (segments p v gone) x in
      let q : f1 || f2 || f3 || f4 || f5 || f6 || f7 || f8 || f9 || f10 ≡ false = segment_ok g m in
      let q9 = or_first (f1 || f2 || f3 || f4 || f5 || f6 || f7 || f8 || f9) f10 q in
      let q8 = or_first (f1 || f2 || f3 || f4 || f5 || f6 || f7 || f8) f9 q9 in
      let q7 = or_first (f1 || f2 || f3 || f4 || f5 || f6 || f7) f8 q8 in
      let q6 = or_first (f1 || f2 || f3 || f4 || f5 || f6) f7 q7 in
      let q5 = or_first (f1 || f2 || f3 || f4 || f5) f6 q6 in
      let q4 = or_first (f1 || f2 || f3 || f4) f5 q5 in
      let q3 = or_first (f1 || f2 || f3) f4 q4 in
      let q2 = or_first (f1 || f2) f3 q3 in
      record {
        no_header_fault = or_first f1 f2 q2;
        no_own_fault = or_right f1 f2 q2;
        no_bad_name = or_right (f1 || f2) f3 q3;
        no_name_clash = or_right (f1 || f2 || f3) f4 q4;
        no_serial_twice = or_right (f1 || f2 || f3 || f4) f5 q5;
        no_serial_fault = or_right (f1 || f2 || f3 || f4 || f5) f6 q6;
        no_stripe_fault = or_right (f1 || f2 || f3 || f4 || f5 || f6) f7 q7;
        no_address_fault = or_right (f1 || f2 || f3 || f4 || f5 || f6 || f7) f8 q8;
        no_footer_fault = or_right (f1 || f2 || f3 || f4 || f5 || f6 || f7 || f8) f9 q9;
        no_clash = or_right (f1 || f2 || f3 || f4 || f5 || f6 || f7 || f8 || f9) f10 q;
      }

  pub zone_stripes : (g : Seg) (d : ℕ) → In g (remaining p v gone) → d < p.N → is_in gone d ≡ false
      → (outside p 0 (records_in p (sealed_in p v gone g) (zone_at v d (zone_on g d))) ≡ false) × (twice (records_in p (sealed_in p v gone g) (zone_at v d (zone_on g d))) ≡ false)
  unfolding stripe_fault
  zone_stripes g d m hd q =
      let x = segment_of p v gone g in
      let f : outside p 0 (recs_on x d) || twice (recs_on x d) ≡ false =
      none_in (λ d. outside p 0 (recs_on x d) || twice (recs_on x d)) (present p gone) (faults_apart g m).no_stripe_fault d (in_present p gone d hd q) in
      let e = recs_here p v gone g d hd q in
      (ap (outside p 0) (sym e) ∙ or_first (outside p 0 (recs_on x d)) (twice (recs_on x d)) f, ap twice (sym e) ∙ or_right (outside p 0 (recs_on x d)) (twice (recs_on x d)) f)

  pub in_groups : InGroups p v gone
  in_groups g d o m hd q h =
      let w = sealed_in p v gone g in
      let rs = records_in p w (zone_at v d (zone_on g d)) in
      let i = outside_in p 0 rs (zone_stripes g d m hd q).0 o (subst (λ (x : ℕ). o < x) (sym (length_records p w (zone_at v d (zone_on g d)))) h) in
      ap₂ (λ (x y : ℕ). in_group_of p x y) (sym (zero-add o)) (ap (λ (r : Rec). r.stripe) (sym (record_at_lem p w (zone_at v d (zone_on g d)) o (mk_rec 0 0 0) h))) ∙ i

  -- each stripe once in a zone
  pub accept_stripe_once : (g : Seg) (d o i : ℕ) → In g (remaining p v gone) → d < p.N → is_in gone d ≡ false → o < data_stored p (zone_at v d (zone_on g d))
      → i < data_stored p (zone_at v d (zone_on g d))
      → (record_in p (sealed_in p v gone g) (zone_at v d (zone_on g d)) o).stripe ≡ (record_in p (sealed_in p v gone g) (zone_at v d (zone_on g d)) i).stripe → o ≡ i
  accept_stripe_once g d o i m hd q h j e =
      let w = sealed_in p v gone g in
      let z = zone_at v d (zone_on g d) in
      let l = length_records p w z in
      twice_once (records_in p w z) (zone_stripes g d m hd q).1 o i (subst (λ (x : ℕ). o < x) (sym l) h) (subst (λ (x : ℕ). i < x) (sym l) j)
      (ap (λ (r : Rec). r.stripe) (record_at_lem p w z o (mk_rec 0 0 0) h) ∙ e ∙ ap (λ (r : Rec). r.stripe) (sym (record_at_lem p w z i (mk_rec 0 0 0) j)))

  pub copied-low : (g : Seg) → In g (remaining p v gone) → (segment_of p v gone g).copied < (segment_of p v gone g).serial
  unfolding serial_fault
  copied-low g m = leb-false (segment_of p v gone g).serial (segment_of p v gone g).copied (faults_apart g m).no_serial_fault

  -- the footers of an unsealed segment
  pub open_footers : (g : Seg) (d : ℕ) → In g (remaining p v gone) → d < p.N → is_in gone d ≡ false → sealed_in p v gone g ≡ false
      → footer_fault_in p (zone_at v d (zone_on g d)) ≡ false
  open_footers g d m hd hq ns =
      ap (footer_fault_in p) (sym (zone_by p v gone g d hd))
      ∙ none_in (λ e. footer_fault_in p (get_or (segment_of p v gone g).zones_by_holds e no_zone)) (present p gone) (as! (faults_apart g m).no_footer_fault) d (in_present p gone d hd hq)
    where
      as! : footer_fault p gone (segment_of p v gone g) ≡ false → any (λ e. footer_fault_in p (get_or (segment_of p v gone g).zones_by_holds e no_zone)) (present p gone) ≡ false
      as! e = unfold footer_fault in (sym (ap (λ (b : Bool). not b
          && any (λ e. footer_fault_in p (get_or (segment_of p v gone g).zones_by_holds e no_zone)) (present p gone)) (full_is p v gone g ∙ ns)) ∙ e)

  -- one unsealed segment at most
  pub unsealed_once : (g h : Seg) → In g (remaining p v gone) → In h (remaining p v gone) → sealed_in p v gone g ≡ false → sealed_in p v gone h ≡ false → g ≡ h
  unfolding clashes unsealed segments
  unsealed_once g h m n a b =
      let x = segment_of p v gone g in
      let y = segment_of p v gone h in
      let us = keep (λ (z : Segment). not z.full) (map (segment_of p v gone) (remaining p v gone)) in
      let f : not x.full && leb 2 (length us) ≡ false = (faults_apart g m).no_clash in
      let q : leb 2 (length us) ≡ false = sym (ap (λ (c : Bool). not c && leb 2 (length us)) (full_is p v gone g ∙ a)) ∙ f in
      let e : x ≡ y = short_once us x y q
      (in_keep (λ (z : Segment). not z.full) (map (segment_of p v gone) (remaining p v gone)) x (in_map (segment_of p v gone) (remaining p v gone) g m) (ap not (full_is p v gone g ∙ a)))
      (in_keep (λ (z : Segment). not z.full) (map (segment_of p v gone) (remaining p v gone)) y (in_map (segment_of p v gone) (remaining p v gone) h n) (ap not (full_is p v gone h ∙ b))) in
      sym (seg_is p v gone g) ∙ ap (λ (z : Segment). z.seg) e ∙ seg_is p v gone h

  -- ---- the headers

  -- on a present drive they are the segment's own
  pub name_own : (g : Seg) (d : ℕ) → In g (remaining p v gone) → d < p.N → is_in gone d ≡ false → get_or (segment_of p v gone g).names d 0 ≡ zone_on g d
  unfolding own_fault
  name_own g d m hd q =
      let x = segment_of p v gone g in
      eqb-true (get_or x.names d 0) (zone_on x.seg d) (not-false (eqb (get_or x.names d 0) (zone_on x.seg d))
      (none_in (λ d. not (eqb (get_or x.names d 0) (zone_on x.seg d))) (present p gone) (faults_apart g m).no_own_fault d (in_present p gone d hd q)))
      ∙ ap (λ (y : Seg). zone_on y d) (seg_is p v gone g)

  named_header : (g : Seg) (d : ℕ) → In g (remaining p v gone) → d < p.N → is_in gone d ≡ false
      → get_or (zone_at v d (zone_on g d)).blocks 0 no_chunk ≡ mk_chunk (header_block p d (segment_of p v gone g).names (segment_of p v gone g).serial (segment_of p v gone g).copied) zero_spare
  unfolding header_fault
  named_header g d m hd q =
      let x = segment_of p v gone g in
      let b : ℕ → List ℕ = λ e. header_block p e x.names x.serial x.copied in
      ap (λ (z : Zone). get_or z.blocks 0 no_chunk) (sym (zone_by p v gone g d hd))
      ∙ same_chunk_lem (get_or (get_or x.zones_by_holds d no_zone).blocks 0 no_chunk) (b d) zero_spare
      (not-false (same_chunk (get_or (get_or x.zones_by_holds d no_zone).blocks 0 no_chunk) (b d) zero_spare)
      (none_in (λ e. not (same_chunk (get_or (get_or x.zones_by_holds e no_zone).blocks 0 no_chunk) (b e) zero_spare)) (present p gone)
      (faults_apart g m).no_header_fault d (in_present p gone d hd q)))

  module _ (here : Here p gone) where
    -- on every drive the zone that its header names
    pub name_is : (g : Seg) (d : ℕ) → In g (remaining p v gone) → d < p.N → get_or (segment_of p v gone g).names d 0 ≡ zone_on g d
    name_is g d m hd = go (test (is_in gone d))
      where
        go : Test (is_in gone d) → get_or (segment_of p v gone g).names d 0 ≡ zone_on g d
        go (yes! q) = name_gone p v gone here g d (remaining_left p v gone g m) hd q
        go (no! q) = name_own g d m hd q

    pub names_are : (g : Seg) → In g (remaining p v gone) → (segment_of p v gone g).names ≡ zones_in p g
    names_are g m = ext_get_or 0 (segment_of p v gone g).names (zones_in p g) (names_long p v gone g ∙ sym (zones_in_long p g))
        (λ d h. let hd : d < p.N = subst (λ (n : ℕ). d < n) (names_long p v gone g) h in name_is g d m hd ∙ sym (zones_in_lem p g d hd))

    -- 01, Refusals, 9: its header on each present drive
    pub header_ok : (g : Seg) (d : ℕ) → In g (remaining p v gone) → d < p.N → is_in gone d ≡ false
        → get_or (zone_at v d (zone_on g d)).blocks 0 no_chunk ≡ mk_chunk (header_block p d (zones_in p g) (segment_of p v gone g).serial (segment_of p v gone g).copied) zero_spare
    header_ok g d m hd q =
        named_header g d m hd q ∙ ap (λ (l : List ℕ). mk_chunk (header_block p d l (segment_of p v gone g).serial (segment_of p v gone g).copied) zero_spare) (names_are g m)

    -- its zones are good zones
    name_ok : (g : Seg) (d : ℕ) → In g (remaining p v gone) → d < p.N → (ltb (zone_on g d) p.Z && is_good p v.offline d (zone_on g d)) ≡ true
    unfolding bad_name drives_of
    name_ok g d m hd =
        let x = segment_of p v gone g in
        let f : ℕ → ℕ → Bool = λ z d. ltb z p.Z && is_good p v.offline d z in
        ap (λ (z : ℕ). f z d) (sym (name_is g d m hd))
        ∙ not-false (f (get_or x.names d 0) d) (none_in (λ d. not (f (get_or x.names d 0) d)) (below p.N) (faults_apart g m).no_bad_name d (in_below p.N d hd))

    pub zone_in_range : (g : Seg) (d : ℕ) → In g (remaining p v gone) → d < p.N → zone_on g d < p.Z
    zone_in_range g d m hd = ltb-true (zone_on g d) p.Z (and_left (ltb (zone_on g d) p.Z) (is_good p v.offline d (zone_on g d)) (name_ok g d m hd))

    pub zone_good : (g : Seg) (d : ℕ) → In g (remaining p v gone) → d < p.N → is_good p v.offline d (zone_on g d) ≡ true
    zone_good g d m hd = and_right (ltb (zone_on g d) p.Z) (is_good p v.offline d (zone_on g d)) (name_ok g d m hd)

    -- and of no other segment, on any drive
    pub zone_once : (g h : Seg) (d : ℕ) → In g (remaining p v gone) → In h (remaining p v gone) → d < p.N → zone_on g d ≡ zone_on h d → g ≡ h
    unfolding name_clash segments drives_of
    zone_once g h d m n hd e = go (segs_differ h g)
      where
        go : Dec (h ≡ g) → g ≡ h
        go (yes i) = sym i
        go (no i) =
            let x = segment_of p v gone g in
            let y = segment_of p v gone h in
            let f : Segment → Bool = λ (k : Segment). not (same_seg k.seg x.seg) && any (λ d. eqb (get_or k.names d 0) (get_or x.names d 0)) (below p.N) in
            let t : any (λ d. eqb (get_or y.names d 0) (get_or x.names d 0)) (below p.N) ≡ true =
            in_any (λ d. eqb (get_or y.names d 0) (get_or x.names d 0)) (below p.N) d (in_below p.N d hd)
            (eq-eqb (get_or y.names d 0) (get_or x.names d 0) (name_is h d n hd ∙ sym e ∙ sym (name_is g d m hd))) in
            clash (and_both (not (same_seg y.seg x.seg)) (any (λ d. eqb (get_or y.names d 0) (get_or x.names d 0)) (below p.N))
            (ap not (ap₂ same_seg (seg_is p v gone h) (seg_is p v gone g) ∙ seg-other h g i)) t)
            (none_in f (map (segment_of p v gone) (remaining p v gone)) (faults_apart g m).no_name_clash y (in_map (segment_of p v gone) (remaining p v gone) h n))

    -- so the zones of missing drives are shut off from each other
    pub accepted_apart : SpotsApart p v gone
    accepted_apart = record {
      named-low = λ g d m hd q. zone_in_range g d m hd;
      named_good = λ g d m hd q. zone_good g d m hd;
      named_once = λ g h d m n hd q e. zone_once g h d m n hd e;
    }

    -- no serial twice on a present drive
    pub bears_once : (g : Seg) (d z : ℕ) → In g (remaining p v gone) → d < p.N → is_in gone d ≡ false → z < p.Z → is_used p v d z ≡ true
        → serial_in p v d z ≡ (segment_of p v gone g).serial → z ≡ zone_on g d
    unfolding serial_twice bearing
    bears_once g d z m hd q hz u e =
        let x = segment_of p v gone g in
        let b = zone_borne p v gone here g d (remaining_left p v gone g m) hd q in
        let f : ℕ → Bool = λ y. is_used p v d y && eqb (serial_in p v d y) x.serial in
        let t : (y : ℕ) → is_used p v d y ≡ true → serial_in p v d y ≡ x.serial → f y ≡ true =
        λ y a c. and_both (is_used p v d y) (eqb (serial_in p v d y) x.serial) a (eq-eqb (serial_in p v d y) x.serial c) in
        short_once (keep f (below p.Z)) z (zone_on g d)
        (none_in (λ d. leb 2 (length (keep (λ y. is_used p v d y && eqb (serial_in p v d y) x.serial) (below p.Z)))) (present p gone) (faults_apart g m).no_serial_twice
        d (in_present p gone d hd q))
        (in_keep f (below p.Z) z (in_below p.Z z hz) (t z u e))
        (in_keep f (below p.Z) (zone_on g d) (in_below p.Z (zone_on g d) b.zone_low) (t (zone_on g d) b.used b.serial))

-- 01, Refusals, 9: every number in its group
pub outside_none : (p : Params) (b : ℕ) (rs : List Rec) → ((i : ℕ) → i < length rs → in_group_of p (b + i) (get_or rs i (mk_rec 0 0 0)).stripe ≡ true) → outside p b rs ≡ false
unfolding outside
outside_none p b [] f = refl
outside_none p b (r ∷ rs) f =
    or_neither (not (in_group_of p b r.stripe)) (outside p (suc b) rs)
    (ap not (ap (λ (n : ℕ). in_group_of p n r.stripe) (sym (add-zero b)) ∙ f 0 (omega arith)))
    (outside_none p (suc b) rs (λ i h. ap (λ (n : ℕ). in_group_of p n (get_or rs i (mk_rec 0 0 0)).stripe) (let e : suc b + i ≡ b + suc i = omega arith in e) ∙ f (suc i) (omega arith)))

-- equal lists of blocks
pub same_blocks : (s t : List (List ℕ)) → same_blocks_of s t ≡ true → s ≡ t
unfolding same_blocks_of
same_blocks [] [] q = refl
same_blocks [] (b ∷ t) q = false_true q
same_blocks (a ∷ s) [] q = false_true q
same_blocks (a ∷ s) (b ∷ t) q =
    ap₂ (λ (x : List ℕ) (y : List (List ℕ)). x ∷ y) (same_list_true a b (and_left (same_list a b) (same_blocks_of s t) q)) (same_blocks s t (and_right (same_list a b) (same_blocks_of s t) q))
