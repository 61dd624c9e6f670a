-- The walk over the counted stripes of the remaining segments: the candidates that it tells, in order (01, Restart, 3; The calls, last paragraph). Assumes nothing.
use Rattle.std.specs.Prelude.{◌≡◌, List, [], ◌∷◌, ◌++◌, map, true, false, ℕ, ◌+◌, max, ◌≤◌, ◌<◌, eqb, length, get_or, replicate}
use Rattle.std.proofs.Math.Path.{refl, sym}
use Rattle.std.proofs.Common.{ap, ◌∙◌, subst, append-nil, append_assoc, add_assoc, add-zero, eq-eqb, eqb-true, arith, add-one, length-append}
use Rattle.std.proofs.Math.Nat.{zero-add, zero-max, max-zero}
use Rattle.std.proofs.Math.Decide.{ℕ_discrete}
use Rattle.std.proofs.Math.Arith.{lt_of_le-ne}
use Rattle.std.proofs.lemmas.List.{length-replicate}
use Rattle.spec.specs.declared.Params.{Params}
use Rattle.spec.specs.Drives.{View, zone_on}
use Rattle.spec.specs.Layout.{data_drive, data_drives, Rec}
use Rattle.spec.specs.Lists.{up_from, below, any, keep, flat, greatest, is_in}
use Rattle.spec.specs.Memory.{compact_at}
use Rattle.spec.specs.Params.{data_count, addresses_len, compact_len}
use Rattle.spec.specs.Rank.{Cand}
use Rattle.spec.specs.Segments.{low_drive, remaining, Segment, segment_of, segments, counts, counted, cand_of, segment_cands, candidates, address_table, compact_row}
use Rattle.spec.specs.Segments.{row_of, compact_table, greatest_stamp}
use Rattle.law_basic.specs.Ranges.{up_from_snoc, below-snoc, map-append, map-below-snoc, keep_append, keep_hit, keep_miss, keep_none, length-keep, flat_append, greatest-append}
use Rattle.law_basic.specs.Ranges.{Test, test}
use Rattle.law_basic.specs.Ranges.Test.{yes!, no! }
use Rattle.law_basic.specs.Segs.{low_zone}
use Rattle.law_drives.specs.Members.{In, map_in, flat_in, flat_map, keep_in, any_in, none_in, below_in}
use Rattle.law_drives.specs.Segs.{Here, remaining-low, remaining_once, CandAt}
use Rattle.law_drives.specs.Tables.{zero-at, row_past, grid_ext, seg_at, remains_at, seg-at_zone, remaining-at, at-remaining, row_seg_holds, row_none, row_gone, compact_is, compact_row_long}
use Rattle.law_drives.specs.Tests.{clash}
use Rattle.disk_gather.specs.Found.{remains_leads}
use Rattle.recover_segments.specs.Kept.{segments-list}
use Rattle.recover_addresses.specs.Told.{Told, Known, Tells, nothing_told}
use Rattle.recover_compact.specs.Compacts.{SegmentShown, Else}
use Rattle.spec.specs.declared.Seg.{Seg}

-- 01, The calls: the candidates of a stripe
unfoldable pub stripe_cands : Params → ℕ → Segment → ℕ → List Cand
stripe_cands p gone g s = map (cand_of p gone g s) (data_drives p s)

-- those of its first n data positions
unfoldable pub first_cands : Params → ℕ → Segment → ℕ → ℕ → List Cand
first_cands p gone g s n = map (cand_of p gone g s) (map (data_drive p s) (below n))

-- those of the stripes ss that count
unfoldable pub walk_cands : Params → ℕ → Segment → List ℕ → List Cand
walk_cands p gone g ss = flat (stripe_cands p gone g) (keep (counts p gone g) ss)

-- those of the segments that remain at the zones zs of the lowest present drive
unfoldable pub tour_cands : Params → View → ℕ → List ℕ → List Cand
tour_cands p v gone zs = flat (λ z. segment_cands p gone (segment_of p v gone (seg_at p v gone z))) (keep (remains_at p v gone) zs)

-- ---- the greatest stamp

pub most_append : (m : ℕ) (xs ys : List Cand) → max m (greatest_stamp (xs ++ ys)) ≡ max (max m (greatest_stamp xs)) (greatest_stamp ys)
unfolding greatest_stamp
most_append m xs ys =
    ap (max m) (ap greatest (map-append (λ (c : Cand). c.stamp) xs ys) ∙ greatest-append (map (λ (c : Cand). c.stamp) xs) (map (λ (c : Cand). c.stamp) ys)) ∙ omega arith

pub most_none : (m : ℕ) → m ≡ max m (greatest_stamp [])
unfolding greatest_stamp greatest
most_none m = sym (max-zero m)

pub most_one : (m : ℕ) (c : Cand) → max m c.stamp ≡ max m (greatest_stamp (c ∷ []))
unfolding greatest_stamp greatest
most_one m c = ap (max m) (sym (max-zero c.stamp))

-- ---- told, then told more

module _ (p : Params) (v : View) (gone : ℕ) (co : List ℕ) where
  pub tells_none : (tb : List ℕ) (l : List Cand) → l ≡ [] → Tells p v gone co tb tb l
  tells_none tb l e cs t = subst (λ (x : List Cand). Told p v gone co tb (cs ++ x)) (sym e) (subst (λ (x : List Cand). Told p v gone co tb x) (sym (append-nil cs)) t)

  pub tells_join : (tb tb' tb'' : List ℕ) (xs ys : List Cand) → Tells p v gone co tb tb' xs → Tells p v gone co tb' tb'' ys → Tells p v gone co tb tb'' (xs ++ ys)
  tells_join tb tb' tb'' xs ys f g cs t = subst (λ (x : List Cand). Told p v gone co tb'' x) (append_assoc cs xs ys) (g (cs ++ xs) (f cs t))

  pub tells_known : (tb tb' : List ℕ) (xs : List Cand) → Tells p v gone co tb tb' xs → Known p v gone co tb → Known p v gone co tb'
  tells_known tb tb' xs f (cs, t) = (cs ++ xs, f cs t)

-- ---- a stripe, data position by data position

pub first_cands_none : (p : Params) (gone : ℕ) (g : Segment) (s : ℕ) → first_cands p gone g s 0 ≡ []
unfolding first_cands below up_from
first_cands_none p gone g s = refl

pub first_more : (p : Params) (gone : ℕ) (g : Segment) (s n : ℕ) → first_cands p gone g s (n + 1) ≡ first_cands p gone g s n ++ (cand_of p gone g s (data_drive p s n) ∷ [])
unfolding first_cands
first_more p gone g s n =
    ap (map (cand_of p gone g s)) (map-below-snoc (data_drive p s) n) ∙ map-append (cand_of p gone g s) (map (data_drive p s) (below n)) (data_drive p s n ∷ [])

pub first_all : (p : Params) (gone : ℕ) (g : Segment) (s : ℕ) → first_cands p gone g s (data_count p) ≡ stripe_cands p gone g s
unfolding first_cands stripe_cands data_drives
first_all p gone g s = refl

-- ---- the stripes of a segment

pub record Walked (p : Params) (v : View) (gone : ℕ) (co : List ℕ) (g : Seg) (ss : List ℕ) (tb tb' : List ℕ) (m m' n n' : ℕ) : Type 0 where
  pub tells : Tells p v gone co tb tb' (walk_cands p gone (segment_of p v gone g) ss)
  pub most : m' ≡ max m (greatest_stamp (walk_cands p gone (segment_of p v gone g) ss))
  pub count : n' ≡ n + length (keep (counts p gone (segment_of p v gone g)) ss)

walk_append : (p : Params) (gone : ℕ) (g : Segment) (ss ts : List ℕ) → walk_cands p gone g (ss ++ ts) ≡ walk_cands p gone g ss ++ walk_cands p gone g ts
unfolding walk_cands
walk_append p gone g ss ts =
    ap (flat (stripe_cands p gone g)) (keep_append (counts p gone g) ss ts) ∙ flat_append (stripe_cands p gone g) (keep (counts p gone g) ss) (keep (counts p gone g) ts)

walk_hit : (p : Params) (gone : ℕ) (g : Segment) (s : ℕ) → counts p gone g s ≡ true → walk_cands p gone g (s ∷ []) ≡ stripe_cands p gone g s
unfolding walk_cands flat
walk_hit p gone g s e =
    ap (flat (stripe_cands p gone g)) (keep_hit (counts p gone g) s [] e ∙ ap (λ (l : List ℕ). s ∷ l) (keep_none (counts p gone g))) ∙ append-nil (stripe_cands p gone g s)

walk_miss : (p : Params) (gone : ℕ) (g : Segment) (s : ℕ) → counts p gone g s ≡ false → walk_cands p gone g (s ∷ []) ≡ []
unfolding walk_cands flat
walk_miss p gone g s e = ap (flat (stripe_cands p gone g)) (keep_miss (counts p gone g) s [] e ∙ keep_none (counts p gone g))

walk_none : (p : Params) (gone : ℕ) (g : Segment) → walk_cands p gone g [] ≡ []
unfolding walk_cands flat keep
walk_none p gone g = refl

module _ (p : Params) (v : View) (gone : ℕ) (co : List ℕ) (g : Seg) where
  abbrev sg : Segment
  sg = segment_of p v gone g

  pub walked_none : (tb : List ℕ) (m n : ℕ) → Walked p v gone co g [] tb tb m m n n
  walked_none tb m n = record {
    tells = tells_none p v gone co tb (walk_cands p gone sg []) (walk_none p gone sg);
    most = most_none m ∙ ap (λ (x : List Cand). max m (greatest_stamp x)) (sym (walk_none p gone sg));
    count = sym (ap (λ (x : List ℕ). n + length x) (keep_none (counts p gone sg)) ∙ add-zero n);
  }

  pub walked_start : (b : ℕ) (tb : List ℕ) (m n : ℕ) → Walked p v gone co g (up_from b 0) tb tb m m n n
  unfolding up_from
  walked_start b tb m n = walked_none tb m n

  pub walked_join : (ss ts tb tb' tb'' : List ℕ) (m m' m'' n n' n'' : ℕ) → Walked p v gone co g ss tb tb' m m' n n' → Walked p v gone co g ts tb' tb'' m' m'' n' n''
      → Walked p v gone co g (ss ++ ts) tb tb'' m m'' n n''
  walked_join ss ts tb tb' tb'' m m' m'' n n' n'' a b = record {
    tells = subst (λ (x : List Cand). Tells p v gone co tb tb'' x) (sym (walk_append p gone sg ss ts))
        (tells_join p v gone co tb tb' tb'' (walk_cands p gone sg ss) (walk_cands p gone sg ts) a.tells b.tells);
    most = b.most ∙ ap (λ (x : ℕ). max x (greatest_stamp (walk_cands p gone sg ts))) a.most
        ∙ sym (most_append m (walk_cands p gone sg ss) (walk_cands p gone sg ts)) ∙ ap (λ (x : List Cand). max m (greatest_stamp x)) (sym (walk_append p gone sg ss ts));
    count = b.count ∙ ap (λ (x : ℕ). x + length (keep (counts p gone sg) ts)) a.count
        ∙ add_assoc n (length (keep (counts p gone sg) ss)) (length (keep (counts p gone sg) ts))
        ∙ ap (λ (x : ℕ). n + x) (sym (ap length (keep_append (counts p gone sg) ss ts) ∙ length-append (keep (counts p gone sg) ss) (keep (counts p gone sg) ts)));
  }

  pub walked_hit : (s : ℕ) (tb tb' : List ℕ) (m m' n : ℕ) → counts p gone sg s ≡ true → Tells p v gone co tb tb' (stripe_cands p gone sg s)
      → m' ≡ max m (greatest_stamp (stripe_cands p gone sg s)) → Walked p v gone co g (s ∷ []) tb tb' m m' n (n + 1)
  walked_hit s tb tb' m m' n e f h = record {
    tells = subst (λ (x : List Cand). Tells p v gone co tb tb' x) (sym (walk_hit p gone sg s e)) f;
    most = h ∙ ap (λ (x : List Cand). max m (greatest_stamp x)) (sym (walk_hit p gone sg s e));
    count = sym (ap (λ (x : List ℕ). n + length x) (keep_hit (counts p gone sg) s [] e ∙ ap (λ (l : List ℕ). s ∷ l) (keep_none (counts p gone sg))));
  }

  pub walked_miss : (s : ℕ) (tb : List ℕ) (m n : ℕ) → counts p gone sg s ≡ false → Walked p v gone co g (s ∷ []) tb tb m m n n
  walked_miss s tb m n e = record {
    tells = tells_none p v gone co tb (walk_cands p gone sg (s ∷ [])) (walk_miss p gone sg s e);
    most = most_none m ∙ ap (λ (x : List Cand). max m (greatest_stamp x)) (sym (walk_miss p gone sg s e));
    count = sym (ap (λ (x : List ℕ). n + length x) (keep_miss (counts p gone sg) s [] e ∙ keep_none (counts p gone sg)) ∙ add-zero n);
  }

  pub walked_low : (ss tb tb' : List ℕ) (m m' n n' : ℕ) → Walked p v gone co g ss tb tb' m m' n n' → n' ≤ n + length ss
  walked_low ss tb tb' m m' n n' a = omega (arith, a.count, length-keep (counts p gone sg) ss)

  -- one stripe more of a group
  pub walked_turn : (b k : ℕ) (tb tb' tb'' : List ℕ) (m m' m'' n n' n'' : ℕ) → Walked p v gone co g (up_from b k) tb tb' m m' n n'
      → Walked p v gone co g ((b + k) ∷ []) tb' tb'' m' m'' n' n''
      → Walked p v gone co g (up_from b (k + 1)) tb tb'' m m'' n n''
  walked_turn b k tb tb' tb'' m m' m'' n n' n'' a c =
      subst (λ (x : List ℕ). Walked p v gone co g x tb tb'' m m'' n n'') (sym (ap (up_from b) (add-one k) ∙ up_from_snoc b k))
      (walked_join (up_from b k) ((b + k) ∷ []) tb tb' tb'' m m' m'' n n' n'' a c)

  -- all of them
  pub walked_all : (tb tb' : List ℕ) (m m' n' : ℕ) → Walked p v gone co g (below p.S) tb tb' m m' 0 n'
      → Tells p v gone co tb tb' (segment_cands p gone sg) × (m' ≡ max m (greatest_stamp (segment_cands p gone sg))) × (n' ≡ length (counted p gone sg))
  unfolding segment_cands counted walk_cands stripe_cands
  walked_all tb tb' m m' n' a = (a.tells, a.most, a.count ∙ zero-add (length (keep (counts p gone sg) (below p.S))))

-- ---- the segments

-- no segment that remains at a zone below n has this zone of a present drive
abbrev pub NoneHas : Params → View → ℕ → ℕ → ℕ → ℕ → Type 0
NoneHas p v gone n d y = is_in gone d ≡ false → (z : ℕ) → z < n → remains_at p v gone z ≡ true → zone_on (seg_at p v gone z) d ≡ y → ⊥

-- the segments that remain at the zones below n: their rows of the compact table, and zeros elsewhere; their candidates in the address table, and the greatest stamp of these
pub record Toured (p : Params) (v : View) (gone n : ℕ) (co tb : List ℕ) (m : ℕ) : Type 0 where
  pub long : length co ≡ compact_len p
  pub shown : (z : ℕ) → z < n → remains_at p v gone z ≡ true → SegmentShown p v gone (seg_at p v gone z) co
  pub empty : (d y o : ℕ) → d < p.N → y < p.Z → o < p.S → NoneHas p v gone n d y → get_or co (compact_at p d y o) 0 ≡ 0
  pub table : tb ≡ address_table p (tour_cands p v gone (below n))
  pub most : m ≡ greatest_stamp (tour_cands p v gone (below n))

-- the candidates of the segment at zone z
abbrev cands_at : Params → View → ℕ → ℕ → List Cand
cands_at p v gone z = segment_cands p gone (segment_of p v gone (seg_at p v gone z))

tour_next : (p : Params) (v : View) (gone z : ℕ) (l : List Cand) → flat (cands_at p v gone) (keep (remains_at p v gone) (z ∷ [])) ≡ l
    → tour_cands p v gone (below (z + 1)) ≡ tour_cands p v gone (below z) ++ l
unfolding tour_cands
tour_next p v gone z l e =
    ap (λ (x : List ℕ). flat (cands_at p v gone) (keep (remains_at p v gone) x)) (below-snoc z)
    ∙ ap (flat (cands_at p v gone)) (keep_append (remains_at p v gone) (below z) (z ∷ []))
    ∙ flat_append (cands_at p v gone) (keep (remains_at p v gone) (below z)) (keep (remains_at p v gone) (z ∷ []))
    ∙ ap (λ (x : List Cand). flat (cands_at p v gone) (keep (remains_at p v gone) (below z)) ++ x) e

tour_hit : (p : Params) (v : View) (gone z : ℕ) → remains_at p v gone z ≡ true
    → tour_cands p v gone (below (z + 1)) ≡ tour_cands p v gone (below z) ++ segment_cands p gone (segment_of p v gone (seg_at p v gone z))
unfolding flat
tour_hit p v gone z e = tour_next p v gone z (cands_at p v gone z)
    (ap (flat (cands_at p v gone)) (keep_hit (remains_at p v gone) z [] e ∙ ap (λ (l : List ℕ). z ∷ l) (keep_none (remains_at p v gone)))
    ∙ append-nil (cands_at p v gone z))

tour_miss : (p : Params) (v : View) (gone z : ℕ) → remains_at p v gone z ≡ false → tour_cands p v gone (below (z + 1)) ≡ tour_cands p v gone (below z)
unfolding flat
tour_miss p v gone z e =
    tour_next p v gone z [] (ap (flat (cands_at p v gone)) (keep_miss (remains_at p v gone) z [] e ∙ keep_none (remains_at p v gone)))
    ∙ append-nil (tour_cands p v gone (below z))

tour_none : (p : Params) (v : View) (gone : ℕ) → tour_cands p v gone (below 0) ≡ []
unfolding tour_cands flat keep below up_from
tour_none p v gone = refl

-- a candidate of the segments below n is of one of them
tour_in : (p : Params) (v : View) (gone n : ℕ) → Here p gone → (c : Cand) → n ≤ p.Z → In c (tour_cands p v gone (below n))
    → (k : CandAt p v gone c) × (z : ℕ) × (z < n) × (remains_at p v gone z ≡ true) × (k.of ≡ seg_at p v gone z)
unfolding tour_cands segment_cands counted data_drives
tour_in p v gone n here c h m =
    let (z, i, j) = flat_in (cands_at p v gone) (keep (remains_at p v gone) (below n)) c m in
    let (a, b) = keep_in (remains_at p v gone) (below n) z i in
    let sg = segment_of p v gone (seg_at p v gone z) in
    let (s, x, y) = flat_in (λ s. map (cand_of p gone sg s) (map (data_drive p s) (below (data_count p)))) (keep (counts p gone sg) (below p.S)) c j in
    let (u, w) = keep_in (counts p gone sg) (below p.S) s x in
    let (d, t, e) = map_in (cand_of p gone sg s) (map (data_drive p s) (below (data_count p))) c y in
    let (q, o, f) = map_in (data_drive p s) (below (data_count p)) d t in
    let low = below_in n z a in (
      record {
        of = seg_at p v gone z;
        stripe = s;
        position = q;
        remains = at-remaining p v gone here z (omega arith) b;
        stripe_low = below_in p.S s u;
        it_counts = w;
        position_low = below_in (data_count p) q o;
        it_is = e ∙ ap (cand_of p gone sg s) f;
      },
      z,
      low,
      b,
      refl,
    )

module _ (p : Params) (v : View) (gone : ℕ) (here : Here p gone) where
  pub toured_none : (co tb : List ℕ) → co ≡ replicate (compact_len p) 0 → tb ≡ replicate (addresses_len p) 255 → Toured p v gone 0 co tb 0
  toured_none co tb z e = record {
    long = ap length z ∙ length-replicate {A = ℕ} (compact_len p) 0;
    shown = λ y h. absurd (let bad : ⊥ = omega arith in bad);
    empty = λ d y o hd hy ho n. ap (λ (l : List ℕ). get_or l (compact_at p d y o) 0) z ∙ zero-at (compact_len p) (compact_at p d y o);
    table = (nothing_told p v gone co tb e).table ∙ ap (address_table p) (sym (tour_none p v gone));
    most = none! ∙ ap greatest_stamp (sym (tour_none p v gone));
  }
    where
      none! : 0 ≡ greatest_stamp []
      none! = unfold greatest_stamp greatest in refl

  -- a segment that does not remain adds nothing
  pub toured_miss : (z : ℕ) (co tb : List ℕ) (m : ℕ) → Toured p v gone z co tb m → remains_at p v gone z ≡ false → Toured p v gone (z + 1) co tb m
  toured_miss z co tb m t e = record {
    long = t.long;
    shown = λ y h q. t.shown y (below! y h q) q;
    empty = λ d y o hd hy ho f. t.empty d y o hd hy ho (λ pr x h q. f pr x (omega arith) q);
    table = t.table ∙ ap (address_table p) (sym (tour_miss p v gone z e));
    most = t.most ∙ ap greatest_stamp (sym (tour_miss p v gone z e));
  }
    where
      below! : (y : ℕ) → y < z + 1 → remains_at p v gone y ≡ true → y < z
      below! y h q = lt_of_le-ne (omega arith) (λ i. clash q (ap (remains_at p v gone) i ∙ e))

  -- two that remain at different zones have no zone in common
  zones_differ : (y z d : ℕ) → y < p.Z → z < p.Z → d < p.N → is_in gone d ≡ false → remains_at p v gone y ≡ true → remains_at p v gone z ≡ true
      → zone_on (seg_at p v gone y) d ≡ zone_on (seg_at p v gone z) d → y ≡ z
  zones_differ y z d hy hz hd pr ty tz e =
      let my = at-remaining p v gone here y hy ty in
      let mz = at-remaining p v gone here z hz tz in
      sym (seg-at_zone p v gone here y (remains_leads p v gone y ty))
      ∙ ap (λ (g : Seg). zone_on g (low_drive p gone)) (remaining_once p v gone here (seg_at p v gone y) (seg_at p v gone z) d my mz hd pr e)
      ∙ seg-at_zone p v gone here z (remains_leads p v gone z tz)

  -- one that remains: its rows are said
  module _ (z : ℕ) (hz : z < p.Z) (e : remains_at p v gone z ≡ true) (co co' tb : List ℕ) (m : ℕ) (t : Toured p v gone z co tb m)
      (sh : SegmentShown p v gone (seg_at p v gone z) co') (el : Else p gone (seg_at p v gone z) co co') where
    -- the rows of those below, and its own
    shown_next : (y : ℕ) → y < z + 1 → remains_at p v gone y ≡ true → SegmentShown p v gone (seg_at p v gone y) co'
    shown_next y h q = go (ℕ_discrete y z)
      where
        go : Dec (y ≡ z) → SegmentShown p v gone (seg_at p v gone y) co'
        go (yes i) = subst (λ (n : ℕ). SegmentShown p v gone (seg_at p v gone n) co') (sym i) sh
        go (no i) = λ d o hd pr ho.
            let hy : y < z = lt_of_le-ne (omega arith) i in
            let low = low_zone p gone (seg_at p v gone y) d (remaining-low p v gone here (seg_at p v gone y) (at-remaining p v gone here y (omega arith) q)) hd pr in
            el d (zone_on (seg_at p v gone y) d) o hd low ho (λ pr x. i (zones_differ y z d (omega arith) hz hd pr q e x)) ∙ t.shown y hy q d o hd pr ho

    -- what is told is found again by these
    pub toured_told : Told p v gone co' tb (tour_cands p v gone (below z))
    toured_told = record {
      table = t.table;
      said = λ c j. let (k, i, l, q, f) = tour_in p v gone z here c (omega arith) j in (k, subst (λ (y : Seg). SegmentShown p v gone y co') (sym f) (shown_next i (omega arith) q));
    }

    pub toured_hit : length co' ≡ length co → (tb' : List ℕ) (m' n' : ℕ) → Walked p v gone co' (seg_at p v gone z) (below p.S) tb tb' m m' 0 n' → Toured p v gone
        (z + 1) co' tb' m'
    toured_hit l tb' m' n' a =
        let w = walked_all p v gone co' (seg_at p v gone z) tb tb' m m' n' a in
        let xs = tour_cands p v gone (below z) in
        let ys = segment_cands p gone (segment_of p v gone (seg_at p v gone z)) in
        record {
          long = l ∙ t.long;
          shown = shown_next;
          empty = λ d y o hd hy ho f.
              el d y o hd hy ho (λ pr x. f pr z (omega arith) e (sym x)) ∙ t.empty d y o hd hy ho (λ pr x h q. f pr x (omega arith) q);
          table = (w.0 xs toured_told).table ∙ ap (address_table p) (sym (tour_hit p v gone z e));
          most = w.1 ∙ ap (λ (x : ℕ). max x (greatest_stamp ys)) (t.most ∙ sym (zero-max (greatest_stamp xs))) ∙ sym (most_append 0 xs ys)
              ∙ zero-max (greatest_stamp (xs ++ ys)) ∙ ap greatest_stamp (sym (tour_hit p v gone z e));
        }

  all_cands : tour_cands p v gone (below p.Z) ≡ candidates p gone (segments p v gone)
  unfolding tour_cands candidates
  all_cands =
      sym (ap (flat (segment_cands p gone)) (segments-list p v gone)
      ∙ flat_map (segment_cands p gone) (λ z. segment_of p v gone (seg_at p v gone z)) (keep (remains_at p v gone) (below p.Z)))

  -- an entry of the compact table
  entry_said_holds : (co tb : List ℕ) (m : ℕ) → Toured p v gone p.Z co tb m → (d y o : ℕ) → d < p.N → y < p.Z → o < p.S
      → get_or co (compact_at p d y o) 0 ≡ get_or (compact_row p (row_of p (segments p v gone) d y)) o 0
  entry_said_holds co tb m t d y o hd hy ho = go (test (is_in gone d)) (test (any (λ g. eqb (zone_on g d) y) (remaining p v gone)))
    where
      none! : row_of p (segments p v gone) d y ≡ [] → NoneHas p v gone p.Z d y → get_or co (compact_at p d y o) 0 ≡ get_or (compact_row p (row_of p (segments p v gone) d y)) o 0
      none! q f = t.empty d y o hd hy ho f ∙ sym (ap (λ (rs : List Rec). get_or (compact_row p rs) o 0) q ∙ row_past p [] o (omega arith))

      go : Test (is_in gone d) → Test (any (λ g. eqb (zone_on g d) y) (remaining p v gone)) → get_or co (compact_at p d y o) 0 ≡ get_or (compact_row p (row_of p (segments p v gone) d y)) o 0
      go (yes! q) a = none! (row_gone p v gone here d y hd q) (λ pr. clash q pr)
      go (no! q) (yes! a) =
          let (g, i, e) = any_in (λ g. eqb (zone_on g d) y) (remaining p v gone) a in
          let w = remaining-at p v gone here g i in
          let f : zone_on g d ≡ y = eqb-true (zone_on g d) y e in
          subst (λ (x : ℕ). get_or co (compact_at p d x o) 0 ≡ get_or (compact_row p (row_of p (segments p v gone) d x)) o 0) f
          (subst (λ (x : Seg). SegmentShown p v gone x co) (sym w.it_is) (t.shown w.zone w.zone_low w.it_remains) d o hd q ho
          ∙ ap (λ (rs : List Rec). get_or (compact_row p rs) o 0) (sym (row_seg_holds p v gone here d g hd q i)))
      go (no! q) (no! a) =
          let none_has : (g : Seg) → In g (remaining p v gone) → zone_on g d ≡ y → ⊥ =
          λ g i e. clash (eq-eqb (zone_on g d) y e) (none_in (λ g. eqb (zone_on g d) y) (remaining p v gone) a g i) in
          none! (row_none p v gone here d y none_has) (λ pr z h r e. none_has (seg_at p v gone z) (at-remaining p v gone here z h r) e)

  -- all segments
  pub toured_all : (co tb : List ℕ) (m : ℕ) → 0 < p.S → 0 < p.Z → Toured p v gone p.Z co tb m
      → (tb ≡ address_table p (candidates p gone (segments p v gone))) × (co ≡ compact_table p (segments p v gone)) × (m ≡ greatest_stamp (candidates p gone (segments p v gone)))
  toured_all co tb m hs hz t = (
    t.table ∙ ap (address_table p) all_cands,
    grid_ext p (λ d z. compact_row p (row_of p (segments p v gone) d z)) (compact_row_long p v gone here) co t.long hs hz (entry_said_holds co tb m t) ∙ sym (compact_is p v gone here),
    t.most ∙ ap greatest_stamp all_cands,
  )
