-- One segment that there is changes but for its headers: the others, and the order of what remains, stay.
use Rattle.std.specs.Prelude.{◌≡◌, refl, List, [], map, Bool, true, false, cond, not, ◌&&◌, ◌≢◌, ℕ, ◌≤◌, ◌<◌, eqb, get_or}
use Rattle.std.proofs.Math.Path.{sym, ap, subst}
use Rattle.std.proofs.Common.{ap₂, ◌∙◌, ne_eqb, arith}
use Rattle.std.proofs.Math.Decide.{ℕ_discrete}
use Rattle.spec.specs.declared.Params.{Params}
use Rattle.spec.specs.Drives.{no_chunk, Zone, no_zone, View, zone_at, pointer_at, zone_on, sealed_in, seg, chunk_at, is_good}
use Rattle.spec.specs.Layout.{header_serial, header_copied, Rec}
use Rattle.spec.specs.Lists.{below, flat, is_in}
use Rattle.spec.specs.Params.{capacity, drives_of}
use Rattle.spec.specs.Segments.{low_drive, header_at, remaining, Segment, records_in, segment_of, segments, recs_on, offset_on, has_chunk, counts, counted, stored_rec, is_used, left_by1}
use Rattle.spec.specs.Segments.{rec_of, offset_of, cand_of, segment_cands, candidates, compact_row, row_of, compact_table}
use Rattle.law_basic.specs.Geometry.{Ranged}
use Rattle.law_basic.specs.Ranges.{map-map, get_d_map-below}
use Rattle.law_basic.specs.Segs.{segs_differ}
use Rattle.law_drives.specs.Members.{map_cong, flat_cong, flat_map, below_in, In}
use Rattle.law_drives.specs.Segs.{seg_is, serial_is, copied_is, Here, remaining_left}
use Rattle.law_drives.specs.Settled.{low_first, SameZones, zones_segment, its_zone, there_once, zero_here}
use Rattle.law_drives.specs.Tidy.{Tidy, There}
use Rattle.spec.specs.declared.Seg.{Seg}
use Rattle.law_basic.specs.Mask.{is_in_empty}
use Rattle.law_drives.specs.Gather.{SameHeads, gather_same_left, gather_same_remaining}

-- a segment without its zones, sealed or not: what the tables see of it
unfoldable pub slim : Segment → Segment
slim g = record { seg = g.seg; names = []; serial = g.serial; copied = g.copied; full = false; zones_by_holds = []; recs = g.recs }

slim_cands : (p : Params) (gone : ℕ) (g : Segment) → segment_cands p gone g ≡ segment_cands p gone (slim g)
unfolding slim segment_cands counted counts has_chunk recs_on cand_of rec_of stored_rec offset_on offset_of
slim_cands p gone g = refl

slim-candidates : (p : Params) (gone : ℕ) (gs : List Segment) → candidates p gone gs ≡ candidates p gone (map slim gs)
unfolding candidates
slim-candidates p gone gs = flat_cong (segment_cands p gone) (λ (g : Segment). segment_cands p gone (slim g)) gs (λ g m. slim_cands p gone g) ∙ sym (flat_map (segment_cands p gone) slim gs)

slim_row : (p : Params) (gs : List Segment) (d z : ℕ) → row_of p gs d z ≡ row_of p (map slim gs) d z
unfolding row_of slim recs_on
slim_row p gs d z = sym (flat_map (λ (g : Segment). cond (eqb (zone_on g.seg d) z) (recs_on g d) []) slim gs)

slim_compact : (p : Params) (gs : List Segment) → compact_table p gs ≡ compact_table p (map slim gs)
unfolding compact_table
slim_compact p gs = flat_cong (λ d. flat (λ z. compact_row p (row_of p gs d z)) (below p.Z)) (λ d. flat (λ z. compact_row p (row_of p (map slim gs) d z)) (below p.Z)) (drives_of p)
    (λ d m. flat_cong (λ z. compact_row p (row_of p gs d z)) (λ z. compact_row p (row_of p (map slim gs) d z)) (below p.Z) (λ z n. ap (compact_row p) (slim_row p gs d z)))

-- v becomes u by changes in the zones of segment z alone, which there is before and after
pub record Grows (p : Params) (v u : View) (z : Seg) : Type 0 where
  pub zone_is : There p v z
  pub others : (d y : ℕ) → d < p.N → y < p.Z → y ≢ zone_on z d → zone_at u d y ≡ zone_at v d y
  pub used_before : (d : ℕ) → d < p.N → 1 ≤ pointer_at v d (zone_on z d)
  pub used_now : (d : ℕ) → d < p.N → 1 ≤ pointer_at u d (zone_on z d)
  pub low_now : (d : ℕ) → d < p.N → pointer_at u d (zone_on z d) ≤ capacity p
  pub same_head : (d : ℕ) → d < p.N → header_at v d z ≡ header_at u d z
  pub same_offline : u.offline ≡ v.offline

-- a zone of two views that is the same, or has a header in both
pub used_zone : (p : Params) (v u : View) (d z : ℕ) → u.offline ≡ v.offline → zone_at u d z ≡ zone_at v d z → is_used p v d z ≡ is_used p u d z
unfolding is_used pointer_at
used_zone p v u d z o e = ap₂ (λ (l : List ℕ) (q : Zone). is_good p l d z && not (eqb q.pointer 0)) (sym o) (sym e)

pub used_both : (p : Params) (v u : View) (d z : ℕ) → u.offline ≡ v.offline → 1 ≤ pointer_at v d z → 1 ≤ pointer_at u d z → is_used p v d z ≡ is_used p u d z
unfolding is_used
used_both p v u d z o a b = ap₂ (λ (l : List ℕ) (t : Bool). is_good p l d z && not t) (sym o)
    (ne_eqb (pointer_at v d z) 0 (λ e. let bad : ⊥ = omega arith in bad) ∙ sym (ne_eqb (pointer_at u d z) 0 (λ e. let bad : ⊥ = omega arith in bad)))

-- the header block of a zone that is the same
pub head_zone : (v u : View) (d z : ℕ) → zone_at u d z ≡ zone_at v d z → (chunk_at v d z 0).block ≡ (chunk_at u d z 0).block
unfolding chunk_at
head_zone v u d z e = ap (λ (q : Zone). (get_or q.blocks 0 no_chunk).block) (sym e)

module _ (p : Params) (r : Ranged p) (v u : View) (z : Seg) (w : Grows p v u z) where
  h0 : 0 < p.N
  h0 = omega (arith, r.drives_low)

  -- the heads are the same, whatever drive is missing
  pub grows_heads : (gone : ℕ) → SameHeads p gone v u
  grows_heads gone = record {
    same_used = λ d y hd _ hy. used! d y hd hy (ℕ_discrete y (zone_on z d));
    same_head = λ d y hd _ hy _. head! d y hd hy (ℕ_discrete y (zone_on z d));
  }
    where
      used! : (d y : ℕ) → d < p.N → y < p.Z → Dec (y ≡ zone_on z d) → is_used p v d y ≡ is_used p u d y
      used! d y hd hy (no n) = used_zone p v u d y w.same_offline (w.others d y hd hy n)
      used! d y hd hy (yes e) = subst (λ (n : ℕ). is_used p v d n ≡ is_used p u d n) (sym e) (used_both p v u d (zone_on z d) w.same_offline (w.used_before d hd) (w.used_now d hd))

      as! : (d : ℕ) → d < p.N → (chunk_at v d (zone_on z d) 0).block ≡ (chunk_at u d (zone_on z d) 0).block
      as! d hd = unfold header_at in w.same_head d hd

      head! : (d y : ℕ) → d < p.N → y < p.Z → Dec (y ≡ zone_on z d) → (chunk_at v d y 0).block ≡ (chunk_at u d y 0).block
      head! d y hd hy (no n) = head_zone v u d y (w.others d y hd hy n)
      head! d y hd hy (yes e) = subst (λ (n : ℕ). (chunk_at v d n 0).block ≡ (chunk_at u d n 0).block) (sym e) (as! d hd)

  pub grows_left : (gone : ℕ) → Here p gone → left_by1 p v gone ≡ left_by1 p u gone
  grows_left gone here = gather_same_left p gone v u (grows_heads gone) here

  -- what remains is the same, with any drives missing
  pub grows_remaining_with : (gone : ℕ) → Here p gone → remaining p v gone ≡ remaining p u gone
  grows_remaining_with gone here = gather_same_remaining p gone v u (grows_heads gone) here

  pub grows_remaining : remaining p v 0 ≡ remaining p u 0
  grows_remaining = grows_remaining_with 0 (zero_here p r)

  pub grows_there : (y : Seg) → There p v y → There p u y
  grows_there y m = subst (λ (l : List Seg). In y l) (grows_left 0 (zero_here p r)) m

  pub grows_was : (y : Seg) → There p u y → There p v y
  grows_was y m = subst (λ (l : List Seg). In y l) (sym (grows_left 0 (zero_here p r))) m

  -- the zones of the others
  pub grows_others : (y : Seg) → There p v y → (z ≡ y → ⊥) → SameZones p v u y
  grows_others y m n d hd =
      sym (w.others d (zone_on y d) hd (its_zone p r v y m d hd).zone_low (λ e. n (there_once p r v z y d w.zone_is m hd (sym e))))

  pub grows_header : (d : ℕ) (y : Seg) → d < p.N → There p v y → header_at v d y ≡ header_at u d y
  unfolding header_at
  grows_header d y hd m = let b = its_zone p r v y m d hd in (grows_heads 0).same_head d (zone_on y d) hd (is_in_empty d) b.zone_low b.used

  pub grows_tidy : (s : ℕ) → Tidy p v s → Tidy p u s
  grows_tidy s t = record {
    pointer_low = λ d y hd hy q. low d y hd hy q (ℕ_discrete y (zone_on z d));
    together = λ d y hd hy q.
        let (g, m, e) = t.together d y hd hy ((grows_heads 0).same_used d y hd (is_in_empty d) hy ∙ q) in (g, grows_there g m, e);
    copied_less = λ y m. let k = grows_was y m in subst (λ (x : List ℕ). header_copied p x < header_serial p x) (grows_header 0 y h0 k) (t.copied_less y k);
    serial_known = λ y m. let k = grows_was y m in subst (λ (x : List ℕ). header_serial p x ≤ s) (grows_header 0 y h0 k) (t.serial_known y k);
    no_copy = λ x y m n e.
        let k = grows_was x m in
        let l = grows_was y n in
        t.no_copy x y k l (ap (header_copied p) (grows_header 0 x h0 k) ∙ e ∙ ap (header_serial p) (sym (grows_header 0 y h0 l)));
  }
    where
      same! : (d y : ℕ) → zone_at u d y ≡ zone_at v d y → pointer_at v d y ≤ capacity p → pointer_at u d y ≤ capacity p
      same! d y e k = unfold pointer_at in subst (λ (q : Zone). q.pointer ≤ capacity p) (sym e) k

      low : (d y : ℕ) → d < p.N → y < p.Z → is_good p u.offline d y ≡ true → Dec (y ≡ zone_on z d) → pointer_at u d y ≤ capacity p
      low d y hd hy q (yes e) = subst (λ (n : ℕ). pointer_at u d n ≤ capacity p) (sym e) (w.low_now d hd)
      low d y hd hy q (no n) = same! d y (w.others d y hd hy n)
          (t.pointer_low d y hd hy (subst (λ (l : List ℕ). is_good p l d y ≡ true) w.same_offline q))

  -- where its records are the same too, the tables are
  module _ (same : (d : ℕ) → d < p.N → records_in p (sealed_in p v 0 z) (zone_at v d (zone_on z d)) ≡ records_in p (sealed_in p u 0 z) (zone_at u d (zone_on z d))) where
    recs_same : (segment_of p v 0 z).recs ≡ (segment_of p u 0 z).recs
    recs_same = as! (map_cong (λ d. cond (is_in 0 d) [] (records_in p (sealed_in p v 0 z) (get_or (map (λ d. zone_at v d (zone_on z d)) (below p.N)) d no_zone)))
        (λ d. cond (is_in 0 d) [] (records_in p (sealed_in p u 0 z) (get_or (map (λ d. zone_at u d (zone_on z d)) (below p.N)) d no_zone))) (below p.N)
        (λ d m. let hd = below_in p.N d m in
        ap (λ (l : List Rec). cond (is_in 0 d) [] l)
        (ap (records_in p (sealed_in p v 0 z)) (get_d_map-below (λ d. zone_at v d (zone_on z d)) p.N d no_zone hd)
        ∙ same d hd
        ∙ ap (records_in p (sealed_in p u 0 z)) (sym (get_d_map-below (λ d. zone_at u d (zone_on z d)) p.N d no_zone hd)))))
      where
        as! : map (λ d. cond (is_in 0 d) [] (records_in p (sealed_in p v 0 z) (get_or (map (λ d. zone_at v d (zone_on z d)) (below p.N)) d no_zone))) (below p.N)
            ≡ map (λ d. cond (is_in 0 d) [] (records_in p (sealed_in p u 0 z) (get_or (map (λ d. zone_at u d (zone_on z d)) (below p.N)) d no_zone))) (below p.N)
            → (segment_of p v 0 z).recs ≡ (segment_of p u 0 z).recs
        as! e = unfold segment_of drives_of in e

    slim_same : (g : Seg) → There p v g → slim (segment_of p v 0 g) ≡ slim (segment_of p u 0 g)
    slim_same g hg = go (segs_differ z g)
      where
        low_header : header_at v (low_drive p 0) z ≡ header_at u (low_drive p 0) z
        low_header = subst (λ (x : ℕ). header_at v x z ≡ header_at u x z) (sym (low_first p r)) (w.same_head 0 h0)

        here! : slim (segment_of p v 0 z) ≡ slim (segment_of p u 0 z)
        here! = unfold slim in λ i. record {
          seg = (seg_is p v 0 z ∙ sym (seg_is p u 0 z)) i;
          names = [];
          serial = (serial_is p v 0 z ∙ ap (header_serial p) low_header ∙ sym (serial_is p u 0 z)) i;
          copied = (copied_is p v 0 z ∙ ap (header_copied p) low_header ∙ sym (copied_is p u 0 z)) i;
          full = false;
          zones_by_holds = [];
          recs = recs_same i;
        }

        go : Dec (z ≡ g) → slim (segment_of p v 0 g) ≡ slim (segment_of p u 0 g)
        go (yes e) = subst (λ (x : Seg). slim (segment_of p v 0 x) ≡ slim (segment_of p u 0 x)) e here!
        go (no n) = ap slim (zones_segment p r v u g (grows_others g hg n))

    slims_same : map slim (segments p v 0) ≡ map slim (segments p u 0)
    slims_same = as! (map-map slim (segment_of p v 0) (remaining p v 0)
        ∙ map_cong (λ g. slim (segment_of p v 0 g)) (λ g. slim (segment_of p u 0 g)) (remaining p v 0) (λ g m. slim_same g (remaining_left p v 0 g m))
        ∙ ap (map (λ g. slim (segment_of p u 0 g))) grows_remaining
        ∙ sym (map-map slim (segment_of p u 0) (remaining p u 0)))
      where
        as! : map slim (map (segment_of p v 0) (remaining p v 0)) ≡ map slim (map (segment_of p u 0) (remaining p u 0)) → map slim (segments p v 0) ≡ map slim (segments p u 0)
        as! e = unfold segments in e

    pub grows_candidates : candidates p 0 (segments p v 0) ≡ candidates p 0 (segments p u 0)
    grows_candidates = slim-candidates p 0 (segments p v 0) ∙ ap (candidates p 0) slims_same ∙ sym (slim-candidates p 0 (segments p u 0))

    pub grows_compact : compact_table p (segments p v 0) ≡ compact_table p (segments p u 0)
    grows_compact = slim_compact p (segments p v 0) ∙ ap (compact_table p) slims_same ∙ sym (slim_compact p (segments p u 0))
