-- Where a candidate lies on the drives, and the offset that the compact table shows first.
use Rattle.std.specs.Prelude.{◌≡◌, not, ◌&&◌, eqb, get_or}
use Rattle.std.proofs.Math.Path.{refl, ap, ap₂, subst}
use Rattle.std.proofs.Common.{sym, ◌∙◌, arith}
use mathlib.Core.List.{List, []}
use Rattle.std.proofs.Math.Bool.{Bool, true, false, cond}
use Prim.Native.Nat.{ℕ, zero, suc, ◌+◌, ◌-◌, ◌*◌, ◌/◌, ◌%◌, ◌≤◌, ◌<◌}
use Rattle.std.proofs.Math.Nat.{div-add-mod', mod-lt}
use Rattle.std.proofs.Math.Decide.{ℕ_discrete}
use borrow.Author.Tests.{lt-leb, lt-ltb, eq-eqb, ltb-true, eqb-true}
use Rattle.std.proofs.Math.Dec.{leb, ltb}
use Rattle.std.proofs.Math.ListN.{length}
use Rattle.std.proofs.Math.Arith.{digits_div}
use Rattle.spec.specs.declared.Params.{Params}
use Rattle.spec.specs.Counts.{never_place}
use Rattle.spec.specs.Drives.{View, zone_at, pointer_at, zone_on, sealed_in, data_stored, record_in, is_good, no_seg}
use Rattle.spec.specs.Layout.{data_drive, group, in_group_of, group_offsets, compact_entry, Rec, mk_rec}
use Rattle.spec.specs.Lists.{up_from, cons_if, keep, is_nil, first_or, is_in}
use Rattle.spec.specs.Memory.{compact_at, shown_at}
use Rattle.spec.specs.Params.{capacity, place_of, place_block, place_zone, place_drive, present}
use Rattle.spec.specs.Rank.{Cand}
use Rattle.spec.specs.Read.{place_faults}
use Rattle.spec.specs.Read.Found.{here}
use Rattle.spec.specs.Segments.{remaining, Segment, records_in, segment_of, segments, offset_on, has_chunk, counts, offset_of, cand_of, compact_table, is_place, is_used}
use Rattle.spec.specs.Segments.{place_segment, row_of, holders}
use Rattle.law_basic.specs.Geometry.{between_of, Ranged, place_block_lem, place_zone_lem, place_drive_lem, data_drive_lt}
use Rattle.law_basic.specs.Ranges.{Test, test, and_left, and_right, and_both}
use Rattle.law_basic.specs.Ranges.Test.{yes!, no! }
use Rattle.law_drives.specs.Members.{In, all_in, keep-keep}
use Rattle.law_drives.specs.Range.{capacity_over, place_low}
use Rattle.law_drives.specs.Segs.{remaining-low, length_records, record_at_lem, data_low, low_data, recs_here, seg_is, chunk_at_holds, CandAt, Here, remaining_left, remaining_once}
use Rattle.law_drives.specs.Tables.{row_at, compact_at_holds, row_seg_holds, one_holder}
use Rattle.law_drives.specs.Tests.{true_false, not_so, clash}
use Rattle.spec.specs.declared.Seg.{Seg}
use Rattle.law_basic.specs.Mask.{is_in_empty}
use Rattle.law_basic.specs.Segs.{low_zone}
use Rattle.law_drives.specs.Holders.{place_first}
use Rattle.law_drives.specs.Gather.{in_present, left_in}

-- ---- the spot of a candidate

pub record Spot (p : Params) (v : View) (gone : ℕ) (c : Cand) : Type 0 where
  pub zone : ℕ
  pub drive_low : c.drive < p.N
  pub zone_low : zone < p.Z
  pub offset_low : c.offset < p.S
  pub place_is : c.place ≡ place_of p c.drive zone (1 + c.offset)
  pub visible : is_in gone c.drive ≡ false → 1 + c.offset < pointer_at v c.drive zone
  pub a_place : is_place p v gone c.place ≡ true

-- what 9 shuts out of the zones that headers name for missing drives: they are good zones, and no two segments have one
pub record SpotsApart (p : Params) (v : View) (gone : ℕ) : Type 0 where
  pub named-low : (g : Seg) (d : ℕ) → In g (remaining p v gone) → d < p.N → is_in gone d ≡ true → zone_on g d < p.Z
  pub named_good : (g : Seg) (d : ℕ) → In g (remaining p v gone) → d < p.N → is_in gone d ≡ true → is_good p v.offline d (zone_on g d) ≡ true
  pub named_once : (g h : Seg) (d : ℕ) → In g (remaining p v gone) → In h (remaining p v gone) → d < p.N → is_in gone d ≡ true → zone_on g d ≡ zone_on h d → g ≡ h

-- with none missing there is nothing to shut out
pub none_apart : (p : Params) (v : View) → SpotsApart p v 0
none_apart p v = record {
  named-low = λ g d m h q. clash q (is_in_empty d);
  named_good = λ g d m h q. clash q (is_in_empty d);
  named_once = λ g h d m n k q. clash q (is_in_empty d);
}

-- where a remaining segment lies, on any drive
module _ (p : Params) (v : View) (gone : ℕ) (here : Here p gone) (ap! : SpotsApart p v gone) (g : Seg) (m : In g (remaining p v gone)) (d : ℕ) (hd : d < p.N) where
  pub seg-low : zone_on g d < p.Z
  seg-low = go (test (is_in gone d))
    where
      go : Test (is_in gone d) → zone_on g d < p.Z
      go (yes! q) = ap!.named-low g d m hd q
      go (no! q) = low_zone p gone g d (remaining-low p v gone here g m) hd q

  pub seg_good : is_good p v.offline d (zone_on g d) ≡ true
  unfolding is_used
  seg_good = go (test (is_in gone d))
    where
      go : Test (is_in gone d) → is_good p v.offline d (zone_on g d) ≡ true
      go (yes! q) = ap!.named_good g d m hd q
      go (no! q) = and_left (is_good p v.offline d (zone_on g d)) (not (eqb (pointer_at v d (zone_on g d)) 0)) ((left_in p v gone here g (remaining_left p v gone g m)).on d hd q).used

  pub seg-alone : (h : Seg) → In h (remaining p v gone) → zone_on h d ≡ zone_on g d → h ≡ g
  seg-alone h n e = go (test (is_in gone d))
    where
      go : Test (is_in gone d) → h ≡ g
      go (yes! q) = ap!.named_once h g d n m hd q e
      go (no! q) = remaining_once p v gone here h g d n m hd q e

  -- its places are places, and of it
  module _ (r : Ranged p) (b : ℕ) (hb : b < capacity p) where
    abbrev q : ℕ
    q = place_of p d (zone_on g d) b

    at_drive : place_drive p q ≡ d
    at_drive = place_drive_lem p d (zone_on g d) b seg-low hb

    at_zone : place_zone p q ≡ zone_on g d
    at_zone = place_zone_lem p d (zone_on g d) b seg-low hb

    pub place_holder : place_segment p v gone q ≡ g
    unfolding first_or
    place_holder = place_first p v gone q ∙ ap (first_or no_seg) (ap₂ (holders p v gone) at_drive at_zone ∙ one_holder p v gone here d g m seg-alone)

    pub place_is_one : is_place p v gone q ≡ true
    unfolding is_place
    place_is_one = and_both (ltb (place_drive p q) p.N && is_good p v.offline (place_drive p q) (place_zone p q)) (eqb (length (holders p v gone (place_drive p q) (place_zone p q))) 1)
        (and_both (ltb (place_drive p q) p.N) (is_good p v.offline (place_drive p q) (place_zone p q)) (lt-ltb (place_drive p q) p.N (subst (λ (n : ℕ). n < p.N) (sym at_drive) hd))
        (ap₂ (is_good p v.offline) at_drive at_zone ∙ seg_good))
        (eq-eqb (length (holders p v gone (place_drive p q) (place_zone p q))) 1 (ap length (ap₂ (holders p v gone) at_drive at_zone ∙ one_holder p v gone here d g m seg-alone)))

pub counts_in : (p : Params) (gone : ℕ) (g : Segment) (s d : ℕ) → counts p gone g s ≡ true → d < p.N → is_in gone d ≡ false → has_chunk g s d ≡ true
unfolding counts
counts_in p gone g s d q h i = all_in (has_chunk g s) (present p gone) q d (in_present p gone d h i)

module _ (p : Params) (r : Ranged p) (v : View) (gone : ℕ) (here : Here p gone) (apart : SpotsApart p v gone) where
  pub spot_of : (c : Cand) → CandAt p v gone c → Spot p v gone c
  unfolding cand_of offset_of pointer_at
  spot_of c k =
      let g = k.of in
      let s = k.stripe in
      let d = data_drive p s k.position in
      let x = segment_of p v gone g in
      let hd : d < p.N = data_drive_lt p s k.position k.position_low in
      let hz : zone_on g d < p.Z = seg-low p v gone here apart g k.remains d hd in
      let o = offset_of gone x s d in
      let m : (o < p.S) × (is_in gone d ≡ false → 1 + o < (zone_at v d (zone_on g d)).pointer) = go g s d hd k.stripe_low k.it_counts (test (is_in gone d)) in
      subst (λ (y : Cand). Spot p v gone y) (sym k.it_is) (record {
        zone = zone_on g d;
        drive_low = hd;
        zone_low = hz;
        offset_low = m.0;
        place_is = ap (λ (u : Seg). place_of p d (zone_on u d) (1 + o)) (seg_is p v gone g);
        visible = m.1;
        a_place = ap (λ (u : Seg). is_place p v gone (place_of p d (zone_on u d) (1 + o))) (seg_is p v gone g)
            ∙ place_is_one p v gone here apart g k.remains d hd r (1 + o) (let l = m.0 in omega (arith, capacity_over p r));
      })
    where
      go : (g : Seg) (s d : ℕ) → d < p.N → s < p.S → counts p gone (segment_of p v gone g) s ≡ true → Test (is_in gone d)
          → (cond (is_in gone d) s (offset_on (segment_of p v gone g) d s) < p.S)
          × (is_in gone d ≡ false → 1 + cond (is_in gone d) s (offset_on (segment_of p v gone g) d s) < (zone_at v d (zone_on g d)).pointer)
      go g s d hd hs q (yes! e) = rw e (hs, λ f. true_false f)
      go g s d hd hs q (no! e) =
          let l = data_low p (zone_at v d (zone_on g d)) (offset_on (segment_of p v gone g) d s)
          (chunk_at_holds p v gone g d s hd e (counts_in p gone (segment_of p v gone g) s d q hd e)).stored_there in
          rw e (l.0, λ f. l.1)

  module _ (c : Cand) (t : Spot p v gone c) where
    block_fits : 1 + c.offset < capacity p
    block_fits = omega (arith, capacity_over p r, t.offset_low)

    pub spot_block : place_block p c.place ≡ 1 + c.offset
    spot_block = ap (place_block p) t.place_is ∙ place_block_lem p c.drive t.zone (1 + c.offset) block_fits

    pub spot_zone : place_zone p c.place ≡ t.zone
    spot_zone = ap (place_zone p) t.place_is ∙ place_zone_lem p c.drive t.zone (1 + c.offset) t.zone_low block_fits

    pub spot_drive : place_drive p c.place ≡ c.drive
    spot_drive = ap (place_drive p) t.place_is ∙ place_drive_lem p c.drive t.zone (1 + c.offset) t.zone_low block_fits

    pub spot_low : c.place < never_place
    spot_low = subst (λ (x : ℕ). x < never_place) (sym t.place_is) (place_low p r c.drive t.zone (1 + c.offset) t.drive_low t.zone_low block_fits)

    pub spot_faults : place_faults p v gone c.place ≡ []
    unfolding place_faults cons_if
    spot_faults = rw (
      spot_drive,
      spot_zone,
      spot_block,
      t.a_place,
      between_of 1 p.S (1 + c.offset) (omega arith) (omega (arith, t.offset_low)),
    ) (go (test (is_in gone c.drive)))
      where
        go : Test (is_in gone c.drive) → cons_if (not (is_in gone c.drive) && leb (pointer_at v c.drive t.zone) (1 + c.offset)) t.zone [] ≡ []
        go (yes! e) = rw e
        go (no! e) = rw (e, lt-leb (pointer_at v c.drive t.zone) (1 + c.offset) (t.visible e))

-- ---- the offsets that the compact table shows

first_kept : (f : ℕ → Bool) (b n o : ℕ) → b ≤ o → o < b + n → f o ≡ true → ((i : ℕ) → b ≤ i → i < o → f i ≡ false)
    → (first_or 0 (keep f (up_from b n)) ≡ o) × (is_nil (keep f (up_from b n)) ≡ false)
unfolding keep cons_if up_from first_or is_nil
first_kept f b zero o x y q g = absurd (let z : ⊥ = omega arith in z)
first_kept f b (suc n) o x y q g = go (ℕ_discrete b o) (first_kept f (suc b) n o)
  where
    go : Dec (b ≡ o) → (suc b ≤ o → o < suc b + n → f o ≡ true → ((i : ℕ) → suc b ≤ i → i < o → f i ≡ false)
        → (first_or 0 (keep f (up_from (suc b) n)) ≡ o) × (is_nil (keep f (up_from (suc b) n)) ≡ false))
        → (first_or 0 (cons_if (f b) b (keep f (up_from (suc b) n))) ≡ o) × (is_nil (cons_if (f b) b (keep f (up_from (suc b) n))) ≡ false)
    go (yes e) ih = let t : f b ≡ true = ap f e ∙ q in rw t (e, refl)
    go (no e) ih = let t : f b ≡ false = g b (omega arith) (omega arith) in rw t (ih (omega arith) (omega arith) q (λ i u w. g i (omega arith) w))

-- a number is its group and its place in the group
same_number : (g a b : ℕ) → a / g ≡ b / g → a % g ≡ b % g → a ≡ b
same_number g a b d m = sym (div-add-mod' a g) ∙ ap₂ (λ (x y : ℕ). x * g + y) d m ∙ div-add-mod' b g

-- every chunk of what remains sits at an offset of its group
abbrev pub InGroups : Params → View → ℕ → Type 0
InGroups p v gone = (g : Seg) (d o : ℕ) → In g (remaining p v gone) → d < p.N → is_in gone d ≡ false → o < data_stored p (zone_at v d (zone_on g d))
    → in_group_of p o (record_in p (sealed_in p v gone g) (zone_at v d (zone_on g d)) o).stripe ≡ true

module _ (p : Params) (r : Ranged p) (v : View) (gone : ℕ) (here : Here p gone) (groups : InGroups p v gone) (g : Seg) (d s : ℕ) (hg : In g (remaining p v gone)) (hd : d < p.N)
    (pr : is_in gone d ≡ false) (c : has_chunk (segment_of p v gone g) s d ≡ true) where
  abbrev table : List ℕ
  table = compact_table p (segments p v gone)

  abbrev shows : ℕ → Bool
  shows o = ltb (1 + o) (pointer_at v d (zone_on g d)) && eqb (get_or table (compact_at p d (zone_on g d) o) 0) (compact_entry p s)

  hz : zone_on g d < p.Z
  hz = low_zone p gone g d (remaining-low p v gone here g hg) hd pr

  entry_is : (o : ℕ) → o < data_stored p (zone_at v d (zone_on g d))
      → get_or table (compact_at p d (zone_on g d) o) 0 ≡ compact_entry p (record_in p (sealed_in p v gone g) (zone_at v d (zone_on g d)) o).stripe
  entry_is o h =
      let e : row_of p (segments p v gone) d (zone_on g d) ≡ records_in p (sealed_in p v gone g) (zone_at v d (zone_on g d)) =
      row_seg_holds p v gone here d g hd pr hg ∙ recs_here p v gone g d hd pr in
      let l : length (row_of p (segments p v gone) d (zone_on g d)) ≡ data_stored p (zone_at v d (zone_on g d)) = ap length e
      ∙ length_records p (sealed_in p v gone g) (zone_at v d (zone_on g d)) in
      compact_at_holds p v gone here d (zone_on g d) o hd hz (data_low p (zone_at v d (zone_on g d)) o h).0
      ∙ row_at p (row_of p (segments p v gone) d (zone_on g d)) o (subst (λ (x : ℕ). o < x) (sym l) h)
      ∙ ap (λ (x : Rec). compact_entry p x.stripe) (ap (λ (x : List Rec). get_or x o (mk_rec 0 0 0)) e ∙ record_at_lem p (sealed_in p v gone g) (zone_at v d (zone_on g d)) o (mk_rec 0 0 0) h)

  pub shown_first : (first_or 0 (shown_at p v table d (zone_on g d) s) ≡ offset_on (segment_of p v gone g) d s) × (is_nil (shown_at p v table d (zone_on g d) s) ≡ false)
  unfolding shown_at group_offsets pointer_at
  shown_first =
      let k = chunk_at_holds p v gone g d s hd pr c in
      let o = offset_on (segment_of p v gone g) d s in
      let b = group p s * p.G in
      let low = data_low p (zone_at v d (zone_on g d)) o k.stored_there in
      let gr : in_group_of p o s ≡ true = subst (λ (x : ℕ). in_group_of p o x ≡ true) k.its_stripe (groups g d o hg hd pr k.stored_there) in
      let same : s / p.G ≡ o / p.G = go_group o gr in
      let eo : o / p.G * p.G + o % p.G ≡ o = div-add-mod' o p.G in
      let mo : o % p.G < p.G = mod-lt o r.group-low in
      let es : s / p.G * p.G ≡ o / p.G * p.G = ap (λ (x : ℕ). x * p.G) same in
      let f : ℕ → Bool = λ x. ltb x p.S && shows x in
      let here : f o ≡ true = and_both (ltb o p.S) (shows o) (lt-ltb o p.S low.0)
      (and_both (ltb (1 + o) (pointer_at v d (zone_on g d))) (eqb (get_or table (compact_at p d (zone_on g d) o) 0) (compact_entry p s)) (lt-ltb (1 + o) (pointer_at v d (zone_on g d)) low.1)
      (eq-eqb (get_or table (compact_at p d (zone_on g d) o) 0) (compact_entry p s) (entry_is o k.stored_there ∙ ap (compact_entry p) k.its_stripe))) in
      let base : group p s * p.G ≡ s / p.G * p.G = group_base in
      let q = first_kept f b p.G o (omega arith) (omega arith) here (λ i u w. earlier i (omega arith) (omega arith) w) in
      let e : keep shows (keep (λ x. ltb x p.S) (up_from b p.G)) ≡ keep f (up_from b p.G) = keep-keep shows (λ x. ltb x p.S) (up_from b p.G) in
      (ap (first_or 0) e ∙ q.0, ap is_nil e ∙ q.1)
    where
      group_base : group p s * p.G ≡ s / p.G * p.G
      group_base = unfold group in refl

      go_group : (o : ℕ) → in_group_of p o s ≡ true → s / p.G ≡ o / p.G
      go_group o q = unfold in_group_of group in eqb-true (s / p.G) (o / p.G) (and_right (ltb s p.S) (eqb (s / p.G) (o / p.G)) q)

      earlier : (i : ℕ) → s / p.G * p.G ≤ i → i < s / p.G * p.G + p.G → i < offset_on (segment_of p v gone g) d s → ltb i p.S && shows i ≡ false
      earlier i u w l = not_so (ltb i p.S && shows i) (λ q.
          let a = and_left (ltb i p.S) (shows i) q in
          let x = and_right (ltb i p.S) (shows i) q in
          let y = ltb-true (1 + i) (pointer_at v d (zone_on g d))
          (and_left (ltb (1 + i) (pointer_at v d (zone_on g d))) (eqb (get_or table (compact_at p d (zone_on g d) i) 0) (compact_entry p s)) x) in
          let z = eqb-true (get_or table (compact_at p d (zone_on g d) i) 0) (compact_entry p s)
          (and_right (ltb (1 + i) (pointer_at v d (zone_on g d))) (eqb (get_or table (compact_at p d (zone_on g d) i) 0) (compact_entry p s)) x) in
          let st : i < data_stored p (zone_at v d (zone_on g d)) = low_data p (zone_at v d (zone_on g d)) i (ltb-true i p.S a) y in
          let t = (record_in p (sealed_in p v gone g) (zone_at v d (zone_on g d)) i).stripe in
          let gr : t / p.G ≡ i / p.G = in_same i t (groups g d i hg hd pr st) in
          let di : i / p.G ≡ s / p.G = ap (λ (x : ℕ). x / p.G) (let e : i ≡ s / p.G * p.G + (i - s / p.G * p.G) = omega arith in e)
          ∙ digits_div (s / p.G) (let e : i - s / p.G * p.G < p.G = omega arith in e) in
          let md : t % p.G ≡ s % p.G = mod_same t (sym (entry_is i st) ∙ z) in
          (chunk_at_holds p v gone g d s hd pr c).first i l (same_number p.G t s (gr ∙ di) md))
        where
          in_same : (o t : ℕ) → in_group_of p o t ≡ true → t / p.G ≡ o / p.G
          in_same o t q = unfold in_group_of group in eqb-true (t / p.G) (o / p.G) (and_right (ltb t p.S) (eqb (t / p.G) (o / p.G)) q)

          mod_same : (t : ℕ) → compact_entry p t ≡ compact_entry p s → t % p.G ≡ s % p.G
          mod_same t q = unfold compact_entry in q

module _ (p : Params) (r : Ranged p) (v : View) (gone : ℕ) (here : Here p gone) (apart : SpotsApart p v gone) where
  module _ (c : Cand) (k : CandAt p v gone c) (t : Spot p v gone c) where
    cand_drive : c.drive ≡ data_drive p k.stripe k.position
    unfolding cand_of
    cand_drive = ap (λ (x : Cand). x.drive) k.it_is

    pub cand_offset : c.offset ≡ offset_of gone (segment_of p v gone k.of) k.stripe c.drive
    unfolding cand_of
    cand_offset = ap (λ (x : Cand). x.offset) k.it_is ∙ ap (offset_of gone (segment_of p v gone k.of) k.stripe) (sym cand_drive)

    cand_place : c.place ≡ place_of p c.drive (zone_on k.of c.drive) (1 + c.offset)
    unfolding cand_of
    cand_place = ap (λ (x : Cand). x.place) k.it_is
        ∙ ap₂ (λ (x y : ℕ). place_of p x (zone_on (segment_of p v gone k.of).seg x) (1 + y)) (sym cand_drive) (sym (ap (λ (x : Cand). x.offset) k.it_is))
        ∙ ap (λ (x : Seg). place_of p c.drive (zone_on x c.drive) (1 + c.offset)) (seg_is p v gone k.of)

    pub cand_zone : place_zone p c.place ≡ zone_on k.of c.drive
    cand_zone = ap (place_zone p) cand_place
        ∙ place_zone_lem p c.drive (zone_on k.of c.drive) (1 + c.offset) (seg-low p v gone here apart k.of k.remains c.drive t.drive_low)
        (omega (arith, capacity_over p r, t.offset_low))

    pub cand_segment : place_segment p v gone c.place ≡ k.of
    cand_segment = ap (place_segment p v gone) cand_place
        ∙ place_holder p v gone here apart k.of k.remains c.drive t.drive_low r (1 + c.offset) (omega (arith, capacity_over p r, t.offset_low))
