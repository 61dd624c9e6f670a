-- What restart and rebuild learn of the drives (01, Refusals, 9; Restart, 4). Assumes nothing.
use Rattle.std.specs.Prelude.{◌≡◌, refl, Bool, ◌&&◌, ◌||◌, eqb, get_or}
use Rattle.std.proofs.Math.Path.{sym, ap, ap₂, subst}
use Rattle.std.proofs.Common.{◌∙◌, add-zero, zero-add, suc-mul, arith, lit≤}
use mathlib.Core.List.{List, [], ◌∷◌, ◌++◌, map}
use Rattle.std.proofs.Math.Bool.{true, false, not}
use Prim.Native.Nat.{ℕ, zero, suc, ◌+◌, ◌*◌, ◌≤◌, ◌<◌}
use Rattle.std.proofs.Math.Dec.{leb}
use Rattle.std.proofs.Math.ListN.{length}
use Rattle.spec.specs.declared.Params.{Params}
use Rattle.spec.specs.declared.Seg.{Seg}
use Rattle.spec.specs.Bytes.{part}
use Rattle.spec.specs.Drives.{no_zone, View, zone_on, sealed_in, seg}
use Rattle.spec.specs.Faults.{header_fault, own_fault, bad_name, name_clash, serial_twice, serial_fault, stripe_fault, address_fault, footer_fault_in, footer_fault}
use Rattle.spec.specs.Faults.{clashes, segment_fault, segment_faults}
use Rattle.spec.specs.Lists.{up_from, below, any, cons_if, keep, total, first_or}
use Rattle.spec.specs.Params.{in_range, present}
use Rattle.spec.specs.Restart.{uncounted_in}
use Rattle.spec.specs.Segments.{low_drive, bearing, remaining, Segment, segment_of, segments, has_chunk, counts, counted, uncounted, unsealed}
use Rattle.law_basic.specs.Geometry.{prod_le, ranged}
use Rattle.law_basic.specs.Ranges.{Test, test, length-below, map-append, map-map, length-keep, total-append, keep-below-snoc, keep-map}
use Rattle.law_basic.specs.Ranges.Test.{yes!, no! }
use Rattle.law_drives.specs.Members.{In, map_cong, keep_in, keep-keep}
use Rattle.law_drives.specs.Rebuilding.{counted-low}
use Rattle.law_drives.specs.Segs.{Here, seg_is, serial_is}
use Rattle.law_drives.specs.Tables.{seg_at, remains_at, seg-at_zone, at-remaining}
use Rattle.disk_gather.specs.Flags.{Keeps, Serials, FlagsRows, Repeats}
use Rattle.disk_gather.specs.Found.{remains_leads, kept_serial}
use Rattle.recover_segments.specs.Kept.{kept_row, segments-list, unsealed_at, unsealed-list}
use Rattle.recover_headers.specs.Fronts.{heads_fault}
use Rattle.recover_headers.specs.Names.{NameCounts}
use Rattle.recover_survey.specs.declared.Tally.{Tally}
use Rattle.recover_survey.specs.Tops.{top_of, Surveyed, last_le}
use Rattle.recover_check.specs.declared.Exam.{Exam}

-- the sum of a number of each segment
unfoldable pub summed : (Segment → ℕ) → List Segment → ℕ
summed f gs = total (map f gs)

-- 01, Refusals, 9: the lowest bad zone, or Z; where none is bad: the uncounted stripes of all segments, and what the unsealed one holds (all 0 if there is none):
-- how many stripes count, the last of them + 1, the uncounted ones. A drive is present: by the lowest zones are named
pub record Examined (p : Params) (v : View) (gone : ℕ) (gs : List Segment) (e : Exam) : Type 0 where
  pub here : Here p gone
  pub zone_is : e.zone ≡ first_or p.Z (segment_faults p v gone gs)
  pub loose_is : e.zone ≡ p.Z → e.loose ≡ uncounted_in p gone gs
  pub counted_is : e.zone ≡ p.Z → e.counted ≡ summed (λ (g : Segment). length (counted p gone g)) (unsealed gs)
  pub top_is : e.zone ≡ p.Z → e.top ≡ summed (top_of p gone) (unsealed gs)
  pub part_is : e.zone ≡ p.Z → e.part ≡ uncounted_in p gone (unsealed gs)

-- 01, Restart, 4: the unsealed segment's counted stripes aren't 0 to c - 1, or other chunks exist, by its numbers; false if there is none
unfoldable pub ragged_by : Params → Exam → Bool
ragged_by p e = not (eqb e.counted p.S) && (not (eqb e.top e.counted) || not (eqb e.part 0))

-- what the arrays say of the drives: the segments that remain, by their zones on the lowest present drive, their serials and zones, which serials a drive bears twice,
-- and how often the headers name a zone
pub record Arrays (p : Params) (v : View) (gone : ℕ) (ks : List Bool) (ns rows : List ℕ) (fl : List Bool) (cs : List ℕ) : Type 0 where
  pub here : Here p gone
  pub keeps : Keeps p v gone ks
  pub serials : Serials p v gone ns
  pub zones : FlagsRows p v gone rows
  pub repeated_long : p.Z ≤ length fl
  pub repeated : Repeats p v gone fl
  pub named : NameCounts p v gone cs

-- ---- the zones with a fault

-- 01, Refusals, 9: a segment remains at this zone of the lowest present drive, and it has a fault
unfoldable pub faulty : Params → View → ℕ → ℕ → Bool
faulty p v gone z = remains_at p v gone z && segment_fault p v gone (segments p v gone) (segment_of p v gone (seg_at p v gone z))

pub faults_list : (p : Params) (v : View) (gone : ℕ) → Here p gone → segment_faults p v gone (segments p v gone) ≡ keep (faulty p v gone) (below p.Z)
unfolding segment_faults faulty
faults_list p v gone here =
    let gs = segments p v gone in
    let f : ℕ → Segment = λ z. segment_of p v gone (seg_at p v gone z) in
    let bad : ℕ → Bool = λ z. segment_fault p v gone gs (f z) in
    let zs = keep bad (keep (remains_at p v gone) (below p.Z)) in
    ap (λ (l : List Segment). map low (keep (segment_fault p v gone gs) l)) (segments-list p v gone)
    ∙ ap (map low) (keep-map (segment_fault p v gone gs) f (keep (remains_at p v gone) (below p.Z)))
    ∙ map-map low f zs
    ∙ map_cong (λ z. low (f z)) (λ z. z) zs (λ z m. let (i, q) = keep_in bad (keep (remains_at p v gone) (below p.Z)) z m in
    ap (λ (g : Seg). zone_on g (low_drive p gone)) (seg_is p v gone (seg_at p v gone z))
    ∙ seg-at_zone p v gone here z (remains_leads p v gone z (keep_in (remains_at p v gone) (below p.Z) z i).1))
    ∙ map_id zs ∙ keep-keep bad (remains_at p v gone) (below p.Z)
  where
    low : Segment → ℕ
    low g = zone_on g.seg (low_drive p gone)

    map_id : (l : List ℕ) → map (λ z. z) l ≡ l
    map_id [] = refl
    map_id (z ∷ l) = ap (λ (x : List ℕ). z ∷ x) (map_id l)

-- ---- one segment: header, serials, then footers and clashes; then the records

or_true : (b : Bool) → true ≡ (b || true)
or_true true = refl
or_true false = refl

or_no_more : (b : Bool) → b ≡ (b || false)
or_no_more true = refl
or_no_more false = refl

-- what is looked at before the records
unfoldable pub front_fault : Params → View → ℕ → List Segment → Segment → Bool
front_fault p v gone gs g = heads_fault p v gone gs g || (footer_fault p gone g || clashes gs g)

pub fault_order : (p : Params) (v : View) (gone : ℕ) (gs : List Segment) (g : Segment)
    → segment_fault p v gone gs g ≡ (front_fault p v gone gs g || (stripe_fault p gone g || address_fault p gone g))
unfolding segment_fault front_fault heads_fault
fault_order p v gone gs g =
    go (header_fault p gone g || own_fault p gone g || bad_name p v g || name_clash p gs g || serial_twice p v gone g || serial_fault g) (stripe_fault p gone g) (address_fault p gone g)
    (footer_fault p gone g) (clashes gs g)
  where
    end : (y e f : Bool) → ((y || e) || f) ≡ ((e || f) || y)
    end true e f = or_true (e || f)
    end false e f = or_no_more (e || f)

    go : (x c d e f : Bool) → ((((x || c) || d) || e) || f) ≡ ((x || (e || f)) || (c || d))
    go true c d e f = refl
    go false c d e f = end (c || d) e f

-- its four ends
pub front_bad : (p : Params) (v : View) (gone : ℕ) (gs : List Segment) (g : Segment) → heads_fault p v gone gs g ≡ true → true ≡ front_fault p v gone gs g
unfolding front_fault
front_bad p v gone gs g e = sym (ap (λ (b : Bool). b || (footer_fault p gone g || clashes gs g)) e)

module _ (p : Params) (v : View) (gone : ℕ) (gs : List Segment) (g : Segment) (e : heads_fault p v gone gs g ≡ false) where
  pub front_full : g.full ≡ true → false ≡ front_fault p v gone gs g
  unfolding front_fault footer_fault clashes
  front_full q = sym (λ i. e i || ((not (q i) && any (λ d. footer_fault_in p (get_or g.zones_by_holds d no_zone)) (present p gone)) || (not (q i) && leb 2 (length (unsealed gs)))))

  pub front_many : g.full ≡ false → leb 2 (length (unsealed gs)) ≡ true → true ≡ front_fault p v gone gs g
  unfolding front_fault clashes
  front_many q m = or_true (footer_fault p gone g) ∙ sym (λ i. e i || (footer_fault p gone g || (not (q i) && m i)))

  pub front_footer : g.full ≡ false → leb 2 (length (unsealed gs)) ≡ false
      → any (λ d. footer_fault_in p (get_or g.zones_by_holds d no_zone)) (present p gone) ≡ front_fault p v gone gs g
  unfolding front_fault clashes footer_fault
  front_footer q m =
      or_no_more (any (λ d. footer_fault_in p (get_or g.zones_by_holds d no_zone)) (present p gone))
      ∙ sym (λ i. e i || ((not (q i) && any (λ d. footer_fault_in p (get_or g.zones_by_holds d no_zone)) (present p gone)) || (not (q i) && m i)))

-- ---- sums over the first segments

unfoldable pub sum_of : (ℕ → Bool) → (ℕ → ℕ) → ℕ → ℕ
sum_of f w n = total (map w (keep f (below n)))

sum_none : (f : ℕ → Bool) (w : ℕ → ℕ) → sum_of f w 0 ≡ 0
unfolding sum_of total keep below up_from
sum_none f w = refl

sum_more : (f : ℕ → Bool) (w : ℕ → ℕ) (n : ℕ) (b : Bool) → f n ≡ b → sum_of f w (n + 1) ≡ sum_of f w n + total (map w (cons_if b n []))
unfolding sum_of
sum_more f w n b e =
    ap (λ (l : List ℕ). total (map w l)) (keep-below-snoc f n ∙ ap (λ (x : Bool). keep f (below n) ++ cons_if x n []) e)
    ∙ ap total (map-append w (keep f (below n)) (cons_if b n [])) ∙ total-append (map w (keep f (below n))) (map w (cons_if b n []))

sum_hit : (f : ℕ → Bool) (w : ℕ → ℕ) (n : ℕ) → f n ≡ true → sum_of f w n + w n ≡ sum_of f w (n + 1)
unfolding cons_if total
sum_hit f w n e = ap (λ (x : ℕ). sum_of f w n + x) (sym (add-zero (w n))) ∙ sym (sum_more f w n true e)

sum_miss : (f : ℕ → Bool) (w : ℕ → ℕ) (n : ℕ) → f n ≡ false → sum_of f w n ≡ sum_of f w (n + 1)
unfolding cons_if total
sum_miss f w n e = sym (add-zero (sum_of f w n)) ∙ sym (sum_more f w n false e)

sum_from : (f : ℕ → Bool) (w : ℕ → ℕ) (b i n : ℕ) → ((g : ℕ) → w g ≤ b) → total (map w (keep f (up_from i n))) ≤ n * b
unfolding total keep up_from cons_if
sum_from f w b i zero h = omega arith
sum_from f w b i (suc n) h = go (f i) (sum_from f w b (suc i) n h)
  where
    go : (x : Bool) → total (map w (keep f (up_from (suc i) n))) ≤ n * b → total (map w (cons_if x i (keep f (up_from (suc i) n)))) ≤ suc n * b
    go true r = let m : suc n * b ≡ n * b + b = suc-mul n b in let k : w i ≤ b = h i in omega (arith, m, k)
    go false r = let m : suc n * b ≡ n * b + b = suc-mul n b in omega (arith, m)

sum_le : (f : ℕ → Bool) (w : ℕ → ℕ) (b n : ℕ) → ((g : ℕ) → w g ≤ b) → sum_of f w n ≤ n * b
unfolding sum_of below
sum_le f w b n h = sum_from f w b 0 n h

-- ---- what is known once the segments below n are looked at and none is bad

pub record ExamSays (p : Params) (v : View) (gone n : ℕ) (e : Exam) : Type 0 where
  pub zone_is : e.zone ≡ p.Z
  pub loose_is : e.loose ≡ sum_of (remains_at p v gone) (λ g. length (uncounted p gone (segment_of p v gone (seg_at p v gone g)))) n
  pub counted_is : e.counted ≡ sum_of (unsealed_at p v gone) (λ g. length (counted p gone (segment_of p v gone (seg_at p v gone g)))) n
  pub top_is : e.top ≡ sum_of (unsealed_at p v gone) (λ g. top_of p gone (segment_of p v gone (seg_at p v gone g))) n
  pub part_is : e.part ≡ sum_of (unsealed_at p v gone) (λ g. length (uncounted p gone (segment_of p v gone (seg_at p v gone g)))) n

kept_most : (f : ℕ → Bool) (n : ℕ) → length (keep f (below n)) ≤ n
kept_most f n = omega (arith, length-keep f (below n), length-below n)

module _ (p : Params) (gone : ℕ) (g : Segment) where
  pub uncounted_most : length (uncounted p gone g) ≤ p.S
  unfolding uncounted
  uncounted_most = kept_most (λ s. any (has_chunk g s) (present p gone) && not (counts p gone g s)) p.S

  pub top_most : top_of p gone g ≤ p.S
  unfolding top_of counted below
  top_most = subst (λ (x : ℕ). top_of p gone g ≤ x) (zero-add p.S) (last_le (counts p gone g) 0 p.S)

module _ (p : Params) (v : View) (gone : ℕ) where
  pub seen_none : ExamSays p v gone 0 (record { zone = p.Z; loose = 0; counted = 0; top = 0; part = 0 })
  seen_none = record {
    zone_is = refl;
    loose_is = sym (sum_none (remains_at p v gone) (λ g. length (uncounted p gone (segment_of p v gone (seg_at p v gone g)))));
    counted_is = sym (sum_none (unsealed_at p v gone) (λ g. length (counted p gone (segment_of p v gone (seg_at p v gone g)))));
    top_is = sym (sum_none (unsealed_at p v gone) (λ g. top_of p gone (segment_of p v gone (seg_at p v gone g))));
    part_is = sym (sum_none (unsealed_at p v gone) (λ g. length (uncounted p gone (segment_of p v gone (seg_at p v gone g)))));
  }

  module _ (n : ℕ) (e : Exam) (s : ExamSays p v gone n e) where
    -- the sums fit
    pub seen_fits : (e.loose ≤ n * p.S) × (e.counted ≤ n * p.S) × (e.top ≤ n * p.S) × (e.part ≤ n * p.S)
    seen_fits = (
      omega (
        arith,
        s.loose_is,
        sum_le (remains_at p v gone) (λ g. length (uncounted p gone (segment_of p v gone (seg_at p v gone g)))) p.S n (λ g. uncounted_most p gone (segment_of p v gone (seg_at p v gone g))),
      ),
      omega (
        arith,
        s.counted_is,
        sum_le (unsealed_at p v gone) (λ g. length (counted p gone (segment_of p v gone (seg_at p v gone g)))) p.S n (λ g. counted-low p gone (segment_of p v gone (seg_at p v gone g))),
      ),
      omega (
        arith,
        s.top_is,
        sum_le (unsealed_at p v gone) (λ g. top_of p gone (segment_of p v gone (seg_at p v gone g))) p.S n (λ g. top_most p gone (segment_of p v gone (seg_at p v gone g))),
      ),
      omega (
        arith,
        s.part_is,
        sum_le (unsealed_at p v gone) (λ g. length (uncounted p gone (segment_of p v gone (seg_at p v gone g)))) p.S n (λ g. uncounted_most p gone (segment_of p v gone (seg_at p v gone g))),
      ),
    )

    -- a segment that doesn't remain
    pub seen_gone : remains_at p v gone n ≡ false → ExamSays p v gone (n + 1) e
    unfolding unsealed_at
    seen_gone h =
        let k : (remains_at p v gone n && not (sealed_in p v gone (seg_at p v gone n))) ≡ false = ap (λ (b : Bool). b && not (sealed_in p v gone (seg_at p v gone n))) h in
        record {
          zone_is = s.zone_is;
          loose_is = s.loose_is ∙ sum_miss (remains_at p v gone) (λ g. length (uncounted p gone (segment_of p v gone (seg_at p v gone g)))) n h;
          counted_is = s.counted_is ∙ sum_miss (unsealed_at p v gone) (λ g. length (counted p gone (segment_of p v gone (seg_at p v gone g)))) n k;
          top_is = s.top_is ∙ sum_miss (unsealed_at p v gone) (λ g. top_of p gone (segment_of p v gone (seg_at p v gone g))) n k;
          part_is = s.part_is ∙ sum_miss (unsealed_at p v gone) (λ g. length (uncounted p gone (segment_of p v gone (seg_at p v gone g)))) n k;
        }

    module _ (t : Tally) (u : Surveyed p gone (segment_of p v gone (seg_at p v gone n)) t) (good : t.bad ≡ false) (h : remains_at p v gone n ≡ true) where
      more_loose : e.loose + t.loose ≡ sum_of (remains_at p v gone) (λ g. length (uncounted p gone (segment_of p v gone (seg_at p v gone g)))) (n + 1)
      more_loose = ap₂ (λ (x y : ℕ). x + y) s.loose_is (u.loose_is good) ∙ sum_hit (remains_at p v gone) (λ g. length (uncounted p gone (segment_of p v gone (seg_at p v gone g)))) n h

      -- one that is sealed
      pub seen_full : sealed_in p v gone (seg_at p v gone n) ≡ true → ExamSays p v gone (n + 1)
          (record { zone = e.zone; loose = e.loose + t.loose; counted = e.counted; top = e.top; part = e.part })
      unfolding unsealed_at
      seen_full q =
          let k : (remains_at p v gone n && not (sealed_in p v gone (seg_at p v gone n))) ≡ false = λ i. h i && not (q i) in
          record {
            zone_is = s.zone_is;
            loose_is = more_loose;
            counted_is = s.counted_is ∙ sum_miss (unsealed_at p v gone) (λ g. length (counted p gone (segment_of p v gone (seg_at p v gone g)))) n k;
            top_is = s.top_is ∙ sum_miss (unsealed_at p v gone) (λ g. top_of p gone (segment_of p v gone (seg_at p v gone g))) n k;
            part_is = s.part_is ∙ sum_miss (unsealed_at p v gone) (λ g. length (uncounted p gone (segment_of p v gone (seg_at p v gone g)))) n k;
          }

      -- one that is unsealed
      pub seen_open : sealed_in p v gone (seg_at p v gone n) ≡ false
          → ExamSays p v gone (n + 1) (record { zone = e.zone; loose = e.loose + t.loose; counted = e.counted + t.counted; top = e.top + t.top; part = e.part + t.loose })
      unfolding unsealed_at
      seen_open q =
          let k : (remains_at p v gone n && not (sealed_in p v gone (seg_at p v gone n))) ≡ true = λ i. h i && not (q i) in
          record {
            zone_is = s.zone_is;
            loose_is = more_loose;
            counted_is = ap₂ (λ (x y : ℕ). x + y) s.counted_is (u.counted_is good)
                ∙ sum_hit (unsealed_at p v gone) (λ g. length (counted p gone (segment_of p v gone (seg_at p v gone g)))) n k;
            top_is = ap₂ (λ (x y : ℕ). x + y) s.top_is (u.top_is good) ∙ sum_hit (unsealed_at p v gone) (λ g. top_of p gone (segment_of p v gone (seg_at p v gone g))) n k;
            part_is = ap₂ (λ (x y : ℕ). x + y) s.part_is (u.loose_is good) ∙ sum_hit (unsealed_at p v gone) (λ g. length (uncounted p gone (segment_of p v gone (seg_at p v gone g)))) n k;
          }

  -- all of them
  pub seen_all : (e : Exam) → Here p gone → ExamSays p v gone p.Z e → e.zone ≡ first_or p.Z (segment_faults p v gone (segments p v gone))
      → Examined p v gone (segments p v gone) e
  unfolding summed uncounted_in sum_of
  seen_all e here s z =
      let f : ℕ → Segment = λ g. segment_of p v gone (seg_at p v gone g) in
      let opens : (w : Segment → ℕ) → total (map (λ g. w (f g)) (keep (unsealed_at p v gone) (below p.Z))) ≡ total (map w (unsealed (segments p v gone))) =
      λ w. sym (ap (λ (l : List Segment). total (map w l)) (unsealed-list p v gone) ∙ ap total (map-map w f (keep (unsealed_at p v gone) (below p.Z)))) in
      record {
        here = here;
        zone_is = z;
        loose_is = λ _. s.loose_is
            ∙ sym (ap (λ (l : List Segment). total (map (λ (g : Segment). length (uncounted p gone g)) l)) (segments-list p v gone)
            ∙ ap total (map-map (λ (g : Segment). length (uncounted p gone g)) f (keep (remains_at p v gone) (below p.Z))));
        counted_is = λ _. s.counted_is ∙ opens (λ (g : Segment). length (counted p gone g));
        top_is = λ _. s.top_is ∙ opens (top_of p gone);
        part_is = λ _. s.part_is ∙ opens (λ (g : Segment). length (uncounted p gone g));
      }

  -- a bad one
  pub seen_bad : (e : Exam) → Here p gone → e.zone < p.Z → e.zone ≡ first_or p.Z (segment_faults p v gone (segments p v gone)) → Examined p v gone (segments p v gone) e
  seen_bad e here h z = record {
    here = here;
    zone_is = z;
    loose_is = λ q. absurd (let r : ⊥ = omega arith in r);
    counted_is = λ q. absurd (let r : ⊥ = omega arith in r);
    top_is = λ q. absurd (let r : ⊥ = omega arith in r);
    part_is = λ q. absurd (let r : ⊥ = omega arith in r);
  }

-- a segment's tally added; of a sealed one the uncounted stripes alone
unfoldable pub added : Bool → Exam → Tally → Exam
added true e t = record { zone = e.zone; loose = e.loose + t.loose; counted = e.counted; top = e.top; part = e.part }
added false e t = record { zone = e.zone; loose = e.loose + t.loose; counted = e.counted + t.counted; top = e.top + t.top; part = e.part + t.loose }

pub added_full : (b : Bool) (e : Exam) (t : Tally) → b ≡ true → added b e t ≡ record { zone = e.zone; loose = e.loose + t.loose; counted = e.counted; top = e.top; part = e.part }
unfolding added
added_full b e t q = ap (λ (x : Bool). added x e t) q

pub added_open : (b : Bool) (e : Exam) (t : Tally) → b ≡ false
    → added b e t ≡ record { zone = e.zone; loose = e.loose + t.loose; counted = e.counted + t.counted; top = e.top + t.top; part = e.part + t.loose }
unfolding added
added_open b e t q = ap (λ (x : Bool). added x e t) q

-- ---- one segment

module _ (p : Params) (v : View) (gone n : ℕ) (e : Exam) (s : ExamSays p v gone n e) where
  pub seen-added : (b : Bool) (t : Tally) → Surveyed p gone (segment_of p v gone (seg_at p v gone n)) t → t.bad ≡ false → remains_at p v gone n ≡ true
      → b ≡ sealed_in p v gone (seg_at p v gone n)
      → ExamSays p v gone (n + 1) (added b e t)
  unfolding added
  seen-added true t u good h q = seen_full p v gone n e s t u good h (sym q)
  seen-added false t u good h q = seen_open p v gone n e s t u good h (sym q)

-- faulty, of a segment that remains: in front, or by its records
pub faulty-kept : (p : Params) (v : View) (gone z : ℕ) (g : Seg) → remains_at p v gone z ≡ true → g ≡ seg_at p v gone z
    → faulty p v gone z ≡ (front_fault p v gone (segments p v gone) (segment_of p v gone g) || (stripe_fault p gone (segment_of p v gone g) || address_fault p gone (segment_of p v gone g)))
unfolding faulty
faulty-kept p v gone z g e i =
    ap₂ (λ (b : Bool) (x : Seg). b && segment_fault p v gone (segments p v gone) (segment_of p v gone x)) e (sym i) ∙ fault_order p v gone (segments p v gone) (segment_of p v gone g)

pub faulty_gone : (p : Params) (v : View) (gone z : ℕ) → remains_at p v gone z ≡ false → faulty p v gone z ≡ false
unfolding faulty
faulty_gone p v gone z e = ap (λ (b : Bool). b && segment_fault p v gone (segments p v gone) (segment_of p v gone (seg_at p v gone z))) e

-- what the arrays say of a segment that remains
module _ (p : Params) (v : View) (gone : ℕ) (ks : List Bool) (ns rows : List ℕ) (fl : List Bool) (cs : List ℕ) (a : Arrays p v gone ks ns rows fl cs) (z : ℕ) (hz : z < p.Z)
    (k : get_or ks z false ≡ true) where
  pub flag_remains : remains_at p v gone z ≡ true
  flag_remains = sym (a.keeps.1 z hz) ∙ k

  module _ (g : Seg) (e : g ≡ seg (part (8 * z) 8 rows)) where
    pub row_is_seg : g ≡ seg_at p v gone z
    row_is_seg = e ∙ kept_row p v gone rows ks a.zones a.keeps z hz flag_remains

    pub row_there : In g (remaining p v gone)
    row_there = subst (λ (x : Seg). In x (remaining p v gone)) (sym row_is_seg) (at-remaining p v gone a.here z hz flag_remains)

    pub flag_serial : get_or ns z 0 ≡ (segment_of p v gone g).serial
    flag_serial = kept_serial p v gone a.here ns z a.serials hz (remains_leads p v gone z flag_remains)
        ∙ sym (serial_is p v gone (seg_at p v gone z)) ∙ ap (λ (x : Seg). (segment_of p v gone x).serial) (sym row_is_seg)

    pub flag_repeat : get_or fl z false ≡ serial_twice p v gone (segment_of p v gone g)
    unfolding serial_twice
    flag_repeat = a.repeated z hz
        ∙ ap (λ (r : ℕ). any (λ d. leb 2 (length (bearing p v d r))) (present p gone)) (sym (a.serials.1 z hz) ∙ flag_serial)

-- ---- the loop's two ways on

module _ (p : Params) (v : View) (gone n : ℕ) (r : Exam) (bad : faulty p v gone n ≡ true → r.zone ≡ n)
    (good : faulty p v gone n ≡ false → ExamSays p v gone (n + 1) r) where
  pub stops : r.zone < p.Z → (faulty p v gone n ≡ true) × (r.zone ≡ n)
  stops h = go (test (faulty p v gone n))
    where
      go : Test (faulty p v gone n) → (faulty p v gone n ≡ true) × (r.zone ≡ n)
      go (yes! e) = (e, bad e)
      go (no! e) = absurd (let z : r.zone ≡ p.Z = (good e).zone_is in let q : ⊥ = omega (arith, z, h) in q)

  pub goes : n < p.Z → p.Z ≤ r.zone → (faulty p v gone n ≡ false) × ExamSays p v gone (n + 1) r
  goes k h = go (test (faulty p v gone n))
    where
      go : Test (faulty p v gone n) → (faulty p v gone n ≡ false) × ExamSays p v gone (n + 1) r
      go (yes! e) = absurd (let z : r.zone ≡ n = bad e in let q : ⊥ = omega (arith, z, h, k) in q)
      go (no! e) = (e, good e)

-- sums and tallies fit 32 bits
pub loose_sum_fits : (p : Params) (n x : ℕ) → in_range p ≡ true → n < p.Z → x ≤ n * p.S → x < 4294967296
loose_sum_fits p n x r h k =
    let g = ranged p r in
    let m : n * p.S ≤ 67107840 = prod_le n p.S 1024 65535 67107840 (omega (arith, h, g.zones_high)) g.stripes_high (lit≤ tt) in
    omega (arith, m, k)
