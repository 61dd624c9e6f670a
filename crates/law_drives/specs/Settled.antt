-- With no drive missing and the segments tidy: what remains is what is used, and no two candidates are tied.
use Rattle.std.specs.Prelude.{◌≡◌, true, false, ◌&&◌, ℕ, zero, suc, ◌≤◌, ◌<◌, get_or}
use Rattle.std.proofs.Math.Path.{refl, ap, subst}
use Rattle.std.proofs.Common.{sym, ap₂, ◌∙◌, ne_eqb, eqb-true, arith}
use mathlib.Core.List.{List, [], map}
use Rattle.std.proofs.Math.Bool.{cond, not}
use Rattle.std.proofs.Math.Dec.{eqb}
use Rattle.spec.specs.declared.Params.{Params}
use Rattle.spec.specs.Drives.{no_chunk, Zone, no_zone, View, zone_at, pointer_at, chunk_at, zone_on, sealed_in, record_in, same_seg, seg}
use Rattle.spec.specs.Layout.{data_drive, data_position, header_serial, header_copied, header_zones}
use Rattle.spec.specs.Lists.{up_from, below, all, any, first_or, is_in}
use Rattle.spec.specs.Params.{capacity, drives_of, present}
use Rattle.spec.specs.Rank.{Cand}
use Rattle.spec.specs.Segments.{low_drive, header_at, left_by1, is_copy, remaining, Segment, records_in, segment_of, segments, recs_on, offset_on, counts, offset_of, cand_of, candidates, row_of}
use Rattle.law_basic.specs.Geometry.{Ranged, position_drive, data_drive_lt}
use Rattle.law_basic.specs.Mask.{is_in_empty}
use Rattle.law_drives.specs.Best.{CandsApart}
use Rattle.law_drives.specs.Members.{In, all_in, in_none, all_cong, map_cong, keep_all, below_in}
use Rattle.law_drives.specs.Segs.{serial_is, ChunkAt, chunk_at_holds, CandAt, cand_at, Here, remaining_left}
use Rattle.law_drives.specs.Spots.{counts_in}
use Rattle.law_drives.specs.Tables.{row_seg_holds}
use Rattle.law_drives.specs.Tests.{and_false_right, cond_false}
use Rattle.law_drives.specs.Tidy.{Tidy, There}
use Rattle.spec.specs.declared.Seg.{Seg}
use Rattle.law_basic.specs.Segs.{ZonesLow}
use Rattle.law_drives.specs.Gather.{Borne, in_present, left_in, left_once, left_serial, present_in, serial_one}

pub present-all : (p : Params) (d : ℕ) → d < p.N → In d (present p 0)
present-all p d h = in_present p 0 d h (is_in_empty d)

pub low_first : (p : Params) → Ranged p → low_drive p 0 ≡ 0
unfolding low_drive present drives_of first_or
low_first p r = ap (first_or 0) (keep_all (λ d. not (is_in 0 d)) (below p.N) (λ d m. ap not (is_in_empty d))) ∙ go p.N r.drives_low
  where
    go : (n : ℕ) → 3 ≤ n → first_or 0 (below n) ≡ 0
    go zero h = absurd (let z : ⊥ = omega arith in z)
    go (suc n) h = unfold below up_from first_or in refl

pub zero_here : (p : Params) → Ranged p → Here p 0
zero_here p r = (subst (λ (n : ℕ). n < p.N) (sym (low_first p r)) (omega (arith, r.drives_low)), is_in_empty (low_drive p 0))

-- a segment that there is: its zones, and its serial on every drive
module _ (p : Params) (r : Ranged p) (v : View) (g : Seg) (m : There p v g) where
  pub its_zone : (d : ℕ) → d < p.N → Borne p v d (header_serial p (header_at v 0 g)) (zone_on g d)
  its_zone d h =
      let l = left_in p v 0 (zero_here p r) g m in
      let h0 : 0 < p.N = omega (arith, r.drives_low) in
      subst (λ (n : ℕ). Borne p v d n (zone_on g d)) (sym (left_serial p v 0 (zero_here p r) g m 0 h0 (is_in_empty 0))) (l.on d h (is_in_empty d))

  pub its_zones_low : ZonesLow p 0 g
  unfolding ZonesLow
  its_zones_low = λ d h _. (its_zone d h).zone_low

-- two that have one zone are one
pub there_once : (p : Params) (r : Ranged p) (v : View) (g h : Seg) (d : ℕ) → There p v g → There p v h → d < p.N → zone_on g d ≡ zone_on h d → g ≡ h
there_once p r v g h d m n k = left_once p v 0 (zero_here p r) g h d m n k (is_in_empty d)

-- two that have one serial are one
pub there_serial : (p : Params) (r : Ranged p) (v : View) (g h : Seg) → There p v g → There p v h → header_serial p (header_at v 0 g) ≡ header_serial p (header_at v 0 h) → g ≡ h
there_serial p r v g h m n e =
    serial_one p v 0 (zero_here p r) g h m n (subst (λ (x : ℕ). header_serial p (header_at v x g) ≡ header_serial p (header_at v x h)) (sym (low_first p r)) e)

module _ (p : Params) (r : Ranged p) (v : View) (serial : ℕ) (t : Tidy p v serial) where
  no_copies : (g : Seg) → There p v g → is_copy p v (low_drive p 0) (left_by1 p v 0) g ≡ false
  unfolding is_copy
  no_copies g hg =
      let l = low_drive p 0 in
      and_false_right (not (eqb (header_copied p (header_at v l g)) 0)) (any (λ h. not (same_seg h g) && eqb (header_serial p (header_at v l h)) (header_copied p (header_at v l g))) (left_by1 p v 0))
      (in_none (λ h. not (same_seg h g) && eqb (header_serial p (header_at v l h)) (header_copied p (header_at v l g))) (left_by1 p v 0)
      (λ h m.
      and_false_right (not (same_seg h g)) (eqb (header_serial p (header_at v l h)) (header_copied p (header_at v l g)))
      (ne_eqb (header_serial p (header_at v l h)) (header_copied p (header_at v l g))
      (λ e. t.no_copy g h hg m (sym (subst (λ (x : ℕ). header_serial p (header_at v x h) ≡ header_copied p (header_at v x g)) (low_first p r) e))))))

  -- all of them remain
  pub remaining_there : remaining p v 0 ≡ left_by1 p v 0
  unfolding remaining
  remaining_there = keep_all (λ g. not (is_copy p v (low_drive p 0) (left_by1 p v 0) g)) (left_by1 p v 0) (λ g m. ap not (no_copies g m))

  pub there_remains : (g : Seg) → There p v g → In g (remaining p v 0)
  there_remains g m = subst (λ (l : List Seg). In g l) (sym remaining_there) m

module _ (p : Params) (r : Ranged p) (v : View) (serial : ℕ) (t : Tidy p v serial) where
  -- ---- candidates

  pub serial_of : (g : Seg) → (segment_of p v 0 g).serial ≡ header_serial p (header_at v 0 g)
  serial_of g = serial_is p v 0 g ∙ ap (λ (x : ℕ). header_serial p (header_at v x g)) (low_first p r)

  module _ (c : Cand) (k : CandAt p v 0 c) where
    pub its_drive : c.drive ≡ data_drive p k.stripe k.position
    unfolding cand_of
    its_drive = ap (λ (x : Cand). x.drive) k.it_is

    pub its_drive_low : c.drive < p.N
    its_drive_low = subst (λ (x : ℕ). x < p.N) (sym its_drive) (data_drive_lt p k.stripe k.position k.position_low)

    pub its_serial : c.serial ≡ header_serial p (header_at v 0 k.of)
    unfolding cand_of
    its_serial = ap (λ (x : Cand). x.serial) k.it_is ∙ serial_of k.of

    pub its_offset : c.offset ≡ offset_on (segment_of p v 0 k.of) c.drive k.stripe
    unfolding cand_of offset_of
    its_offset =
        let d = data_drive p k.stripe k.position in
        ap (λ (x : Cand). x.offset) k.it_is
        ∙ cond_false (is_in 0 d) k.stripe (offset_on (segment_of p v 0 k.of) d k.stripe) (is_in_empty d)
        ∙ ap (λ (x : ℕ). offset_on (segment_of p v 0 k.of) x k.stripe) (sym its_drive)

    pub chunk_of_it : ChunkAt p v 0 k.of c.drive k.stripe
    chunk_of_it =
        chunk_at_holds p v 0 k.of c.drive k.stripe its_drive_low (is_in_empty c.drive)
        (counts_in p 0 (segment_of p v 0 k.of) k.stripe c.drive k.it_counts its_drive_low (is_in_empty c.drive))

    pub stripe_at_offset : (record_in p (sealed_in p v 0 k.of) (zone_at v c.drive (zone_on k.of c.drive)) c.offset).stripe ≡ k.stripe
    stripe_at_offset = ap (λ (x : ℕ). (record_in p (sealed_in p v 0 k.of) (zone_at v c.drive (zone_on k.of c.drive)) x).stripe) its_offset ∙ chunk_of_it.its_stripe

  -- candidates of one segment, drive and offset are the same
  pub cand_same : (c d : Cand) (k : CandAt p v 0 c) (j : CandAt p v 0 d) → k.of ≡ j.of → c.drive ≡ d.drive → c.offset ≡ d.offset → c ≡ d
  cand_same c d k j e f g =
      let es : k.stripe ≡ j.stripe = sym (stripe_at_offset c k)
      ∙ (λ i. (record_in p (sealed_in p v 0 (e i)) (zone_at v (f i) (zone_on (e i) (f i))) (g i)).stripe) ∙ stripe_at_offset d j in
      let ep : k.position ≡ j.position =
      sym (position_drive p k.stripe k.position)
      ∙ ap₂ (data_position p) es (sym (its_drive c k) ∙ f ∙ its_drive d j)
      ∙ position_drive p j.stripe j.position in
      k.it_is ∙ (λ i. cand_of p 0 (segment_of p v 0 (e i)) (es i) (data_drive p (es i) (ep i))) ∙ sym j.it_is

  pub cands_apart : CandsApart (candidates p 0 (segments p v 0))
  cands_apart c d m n w =
      let k = cand_at p v 0 c m in
      let j = cand_at p v 0 d n in
      cand_same c d k j (there_serial p r v k.of j.of (remaining_left p v 0 k.of k.remains) (remaining_left p v 0 j.of j.remains)
      (sym (its_serial c k) ∙ w.same_serial ∙ its_serial d j)) w.same_drive w.same_offset

-- ---- segments whose zones are the same

abbrev pub SameZones : Params → View → View → Seg → Type 0
SameZones p v u g = (d : ℕ) → d < p.N → zone_at v d (zone_on g d) ≡ zone_at u d (zone_on g d)

module _ (p : Params) (r : Ranged p) (v u : View) (g : Seg) (sm : SameZones p v u g) where
  pub zones_sealed : sealed_in p v 0 g ≡ sealed_in p u 0 g
  unfolding sealed_in pointer_at
  zones_sealed = all_cong (λ d. eqb (zone_at v d (zone_on g d)).pointer (capacity p)) (λ d. eqb (zone_at u d (zone_on g d)).pointer (capacity p)) (present p 0)
      (λ d m. ap (λ (x : Zone). eqb x.pointer (capacity p)) (sm d (present_in p 0 d m).0))

  pub zones_header : header_at v 0 g ≡ header_at u 0 g
  unfolding header_at chunk_at
  zones_header = ap (λ (x : Zone). (get_or x.blocks 0 no_chunk).block) (sm 0 (omega (arith, r.drives_low)))

  pub zones_pointer : (d : ℕ) → d < p.N → pointer_at v d (zone_on g d) ≡ pointer_at u d (zone_on g d)
  unfolding pointer_at
  zones_pointer d h = ap (λ (x : Zone). x.pointer) (sm d h)

  pub zones_segment : segment_of p v 0 g ≡ segment_of p u 0 g
  unfolding segment_of drives_of
  zones_segment =
      let hd : header_at v (low_drive p 0) g ≡ header_at u (low_drive p 0) g = subst (λ (x : ℕ). header_at v x g ≡ header_at u x g) (sym (low_first p r)) zones_header in
      let zs : map (λ d. zone_at v d (zone_on g d)) (below p.N) ≡ map (λ d. zone_at u d (zone_on g d)) (below p.N) = map_cong (λ d. zone_at v d (zone_on g d)) (λ d. zone_at u d (zone_on g d))
      (below p.N) (λ d m. sm d (below_in p.N d m)) in
      λ i. record {
        seg = g;
        names = header_zones p (hd i);
        serial = header_serial p (hd i);
        copied = header_copied p (hd i);
        full = zones_sealed i;
        zones_by_holds = zs i;
        recs = map (λ d. cond (is_in 0 d) [] (records_in p (zones_sealed i) (get_or (zs i) d no_zone))) (below p.N);
      }

-- a candidate of a segment that is the same in both views
pub cand_goes : (p : Params) (r : Ranged p) (v u : View) (s : ℕ) → Tidy p u s → (c : Cand) (k : CandAt p v 0 c) → SameZones p v u k.of → There p u k.of → CandAt p u 0 c
cand_goes p r v u s t c k sm q =
    let e = zones_segment p r v u k.of sm in
    record {
      of = k.of;
      stripe = k.stripe;
      position = k.position;
      remains = there_remains p r u s t k.of q;
      stripe_low = k.stripe_low;
      it_counts = subst (λ (x : Segment). counts p 0 x k.stripe ≡ true) e k.it_counts;
      position_low = k.position_low;
      it_is = k.it_is ∙ ap (λ (x : Segment). cand_of p 0 x k.stripe (data_drive p k.stripe k.position)) e;
    }

-- the row of a segment that is the same in both
pub row_goes : (p : Params) (r : Ranged p) (v u : View) (s s' : ℕ) → Tidy p v s → Tidy p u s' → (d : ℕ) (g : Seg) → d < p.N → There p v g → There p u g → SameZones p v u g
    → row_of p (segments p v 0) d (zone_on g d) ≡ row_of p (segments p u 0) d (zone_on g d)
row_goes p r v u s s' t t' d g hd m n sm =
    row_seg_holds p v 0 (zero_here p r) d g hd (is_in_empty d) (there_remains p r v s t g m)
    ∙ ap (λ (y : Segment). recs_on y d) (zones_segment p r v u g sm)
    ∙ sym (row_seg_holds p u 0 (zero_here p r) d g hd (is_in_empty d) (there_remains p r u s' t' g n))

pub sealed_full : (p : Params) (v : View) (g : Seg) → sealed_in p v 0 g ≡ true → (d : ℕ) → d < p.N → pointer_at v d (zone_on g d) ≡ capacity p
sealed_full p v g q d h = eqb-true (pointer_at v d (zone_on g d)) (capacity p) (all_in (λ d. eqb (pointer_at v d (zone_on g d)) (capacity p)) (present p 0) (as! q) d (present-all p d h))
  where
    as! : sealed_in p v 0 g ≡ true → all (λ d. eqb (pointer_at v d (zone_on g d)) (capacity p)) (present p 0) ≡ true
    as! q = unfold sealed_in in q
