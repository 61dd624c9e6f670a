-- Places of the table that are no places of the image (01, Refusals, 9; 02, item 4). Assumes nothing.
use Rattle.std.specs.Prelude.{ℕ, ◌+◌, ◌*◌, ◌/◌, ◌^◌, ◌≤◌, ◌<◌, leb, ltb, get_or, Bool, true, ◌&&◌, List, [], ◌∷◌, map, ◌≡◌, refl}
use Rattle.call_reclaim_live.specs.Live.{numbered, is_live_in, live_below, places_high}
use Rattle.call_reclaim_records.specs.Vouch.{pointed_by}
use Rattle.spec.specs.Bytes.{be_of, part}
use Rattle.spec.specs.Counts.{never_place}
use Rattle.spec.specs.Drives.{View}
use Rattle.spec.specs.Lists.{below, any, cons_if, keep, tally}
use Rattle.spec.specs.Memory.{place_at_of}
use Rattle.spec.specs.Params.{capacity}
use Rattle.spec.specs.Reclaim.{places_in, table_faults}
use Rattle.spec.specs.Segments.{is_place}
use Rattle.spec.specs.declared.Params.{Params}
use Rattle.law_basic.specs.Be.{be_of-lt}
use Rattle.law_basic.specs.Geometry.{Ranged}
use Rattle.law_basic.specs.Ranges.{Test, test, and_left, and_right, and_both}
use Rattle.law_basic.specs.Ranges.Test.{yes!, no! }
use Rattle.law_basic.specs.Splice.{length_part, get_d_part}
use Rattle.law_drives.specs.Members.{In, in_map, map_in, in_keep, keep_in, any_in, in_any, in_below, below_in}
use Rattle.mem_marks.specs.Marks.{is_pointed}
use Rattle.mem_tables.specs.Tables.{is_within, count_places}
use borrow.Author.Tests.{le-leb, lt-ltb, le-ltb, ne_eqb, eqb-true, eqb-false, ltb-true, leb-true, not-true, not-false}
use Rattle.std.proofs.Math.Arith.{lt_of_le-ne}
use Rattle.std.proofs.Math.Dec.{eqb}
use Rattle.std.proofs.Math.ListN.{length}
use Rattle.std.proofs.Math.Bool.{false, not}
use Rattle.std.proofs.Common.{inl, ap, ◌∙◌, arith}
use Rattle.std.proofs.Math.Path.{sym, subst}
use Rattle.std.proofs.Math.Decide.{dec_lt}

-- 01, Refusals, 9: some place of the table is no place of the image
unfoldable pub is_outside : Params → View → List ℕ → Bool
is_outside p v tb = any (λ q. not (is_place p v 0 q)) (places_in p tb)

pub outside_told : (p : Params) (v : View) (tb : List ℕ) (b : Bool) → b ≡ is_outside p v tb → table_faults p v tb ≡ cons_if b 0 []
unfolding is_outside table_faults
outside_told p v tb b e = ap (λ (x : Bool). cons_if x 0 []) (sym e)

-- a place of 4 bytes
pub place_fits : (tb : List ℕ) (a : ℕ) → 4 * a + 4 ≤ length tb → ((i : ℕ) → get_or tb i 0 < 256) → place_at_of tb a < 4294967296
unfolding place_at_of
place_fits tb a h bytes =
    let m : length (part (4 * a) 4 tb) ≡ 4 = length_part (4 * a) 4 tb h in
    let e = be_of-lt (part (4 * a) 4 tb) (λ k l. let s : get_or (part (4 * a) 4 tb) k 0 ≡ get_or tb (4 * a + k) 0 = get_d_part (4 * a) 4 tb k (omega arith) in omega
    (arith, s, bytes (4 * a + k))) in
    subst (λ (x : ℕ). be_of (part (4 * a) 4 tb) < 256 ^ x) m e

-- ---- lists with members

some_in : (l : List ℕ) → 0 < length l → (a : ℕ) × In a l
some_in [] h = absurd (let q : ⊥ = omega arith in q)
some_in (a ∷ l) h = (a, inl refl)

in_long : (l : List ℕ) (a : ℕ) → In a l → 0 < length l
in_long [] a m = absurd m
in_long (b ∷ l) a m = omega arith

-- ---- by counts: beyond the last place, and in zones of no segment

module _ (p : Params) (r : Ranged p) (v : View) (tb ss : List ℕ) (long : 4 * p.L ≤ length tb) (bytes : (i : ℕ) → get_or tb i 0 < 256)
    (placed : (q : ℕ) → is_place p v 0 q ≡ (ltb q (p.N * p.Z * capacity p) && not (eqb (get_or ss (q / capacity p) 0) 1024))) where
  abbrev all! : ℕ
  all! = p.N * p.Z * capacity p

  abbrev lost : List ℕ
  lost = live_below p tb (numbered p ss 1024) all!

  -- an entry that is not never written
  entry_in : (a : ℕ) → a < p.L → place_at_of tb a < never_place → In (place_at_of tb a) (places_in p tb)
  unfolding places_in
  entry_in a h l = in_keep (λ q. not (eqb q never_place)) (map (place_at_of tb) (below p.L)) (place_at_of tb a) (in_map (place_at_of tb) (below p.L) a (in_below p.L a h))
      (ap not (ne_eqb (place_at_of tb a) never_place (λ e. omega (arith, l, e))))

  in_entry : (q : ℕ) → In q (places_in p tb) → (a : ℕ) × (a < p.L) × (q ≡ place_at_of tb a) × (q < never_place)
  unfolding places_in
  in_entry q m =
      let (i, e) = keep_in (λ q. not (eqb q never_place)) (map (place_at_of tb) (below p.L)) q m in
      let (a, j, s) = map_in (place_at_of tb) (below p.L) q i in
      let h : a < p.L = below_in p.L a j in
      let f : place_at_of tb a < 4294967296 = place_fits tb a (omega (arith, h, long)) bytes in
      let n : q ≡ never_place → ⊥ = eqb-false q never_place (not-true (eqb q never_place) e) in
      (a, h, s, lt_of_le-ne (omega (arith, f, s)) n)

  -- no place: beyond the last, or in a zone of none
  beyond_last : (q : ℕ) → all! ≤ q → is_place p v 0 q ≡ false
  beyond_last q h = placed q ∙ ap (λ (b : Bool). b && not (eqb (get_or ss (q / capacity p) 0) 1024)) (le-ltb q all! h)

  of_none : (q : ℕ) → q < all! → numbered p ss 1024 q ≡ true → is_place p v 0 q ≡ false
  unfolding numbered
  of_none q h e = placed q ∙ (λ j. lt-ltb q all! h j && not (e j))

  number_none : (q : ℕ) → q < all! → is_place p v 0 q ≡ false → numbered p ss 1024 q ≡ true
  unfolding numbered
  number_none q h e =
      not-false (eqb (get_or ss (q / capacity p) 0) 1024) (sym (ap (λ (b : Bool). b && not (eqb (get_or ss (q / capacity p) 0) 1024)) (lt-ltb q all! h)) ∙ sym (placed q) ∙ e)

  lost_in : (q : ℕ) → In q lost → (q < all!) × (numbered p ss 1024 q ≡ true) × (is_pointed tb p.L q ≡ true)
  unfolding live_below is_live_in
  lost_in q m =
      let (i, e) = keep_in (is_live_in p tb (numbered p ss 1024)) (below all!) q m in
      (below_in all! q i, and_left (numbered p ss 1024 q) (is_pointed tb p.L q) e, and_right (numbered p ss 1024 q) (is_pointed tb p.L q) e)

  in_lost : (q : ℕ) → q < all! → numbered p ss 1024 q ≡ true → is_pointed tb p.L q ≡ true → In q lost
  unfolding live_below is_live_in
  in_lost q h e f = in_keep (is_live_in p tb (numbered p ss 1024)) (below all!) q (in_below all! q h) (and_both (numbered p ss 1024 q) (is_pointed tb p.L q) e f)

  pointed-at : (q : ℕ) → is_pointed tb p.L q ≡ true → (a : ℕ) × (a < p.L) × (q ≡ place_at_of tb a)
  unfolding is_pointed
  pointed-at q e = let (a, m, f) = any_in (λ a. eqb q (place_at_of tb a)) (below p.L) e in (a, below_in p.L a m, eqb-true q (place_at_of tb a) f)

  -- an entry that is no place gives it
  gives : (a : ℕ) → a < p.L → place_at_of tb a < never_place → is_place p v 0 (place_at_of tb a) ≡ false → is_outside p v tb ≡ true
  unfolding is_outside
  gives a h l e = in_any (λ q. not (is_place p v 0 q)) (places_in p tb) (place_at_of tb a) (entry_in a h l) (ap not e)

  counted_beyond : 0 < count_places tb p.L all! never_place → is_outside p v tb ≡ true
  unfolding count_places tally
  counted_beyond h =
      let (q, m) = some_in (keep (is_within all! never_place) (map (place_at_of tb) (below p.L))) h in
      let (i, e) = keep_in (is_within all! never_place) (map (place_at_of tb) (below p.L)) q m in
      let (a, j, s) = map_in (place_at_of tb) (below p.L) q i in
      let lo : all! ≤ place_at_of tb a = subst (λ (x : ℕ). all! ≤ x) s (leb-true all! q (and_left (leb all! q) (ltb q never_place) e)) in
      let hi : place_at_of tb a < never_place = subst (λ (x : ℕ). x < never_place) s (ltb-true q never_place (and_right (leb all! q) (ltb q never_place) e)) in
      gives a (below_in p.L a j) hi (beyond_last (place_at_of tb a) lo)

  counted-lost : 0 < length lost → is_outside p v tb ≡ true
  counted-lost h =
      let (q, m) = some_in lost h in
      let (l, e, f) = lost_in q m in
      let (a, k, s) = pointed-at q f in
      gives a k (omega (arith, l, s, places_high p r)) (ap (is_place p v 0) (sym s) ∙ of_none q l e)

  -- and is told by one of the counts
  some_counted : is_outside p v tb ≡ true → 0 < count_places tb p.L all! never_place + length lost
  unfolding is_outside count_places tally
  some_counted e =
      let (q, m, f) = any_in (λ q. not (is_place p v 0 q)) (places_in p tb) e in
      let (a, h, s, l) = in_entry q m in
      go q a h s l (not-true (is_place p v 0 q) f) (dec_lt q all!)
    where
      go : (q a : ℕ) → a < p.L → q ≡ place_at_of tb a → q < never_place → is_place p v 0 q ≡ false → Dec (q < all!)
          → 0 < length (keep (is_within all! never_place) (map (place_at_of tb) (below p.L))) + length lost
      go q a h s l f (yes d) = omega (arith, in_long lost q (in_lost q d (number_none q d f) (pointed_by tb p.L a q h (sym s))))
      go q a h s l f (no d) =
          let i : In q (map (place_at_of tb) (below p.L)) = subst (λ (x : ℕ). In x (map (place_at_of tb) (below p.L))) (sym s) (in_map (place_at_of tb) (below p.L) a (in_below p.L a h)) in
          let w = in_keep (is_within all! never_place) (map (place_at_of tb) (below p.L)) q i (and_both (leb all! q) (ltb q never_place) (le-leb all! q (omega arith)) (lt-ltb q never_place l)) in
          omega (arith, in_long (keep (is_within all! never_place) (map (place_at_of tb) (below p.L))) q w)

  -- 01, Refusals, 9: by the entries beyond the last place, and a count that is 0 just if no live block lies in a zone of none
  pub outside-count : (n m : ℕ) → n ≡ count_places tb p.L all! never_place → length lost ≤ m → (0 < m → 0 < length lost) → not (eqb (n + m) 0) ≡ is_outside p v tb
  outside-count n m e most least = go (test (eqb (n + m) 0)) (test (is_outside p v tb))
    where
      go : Test (eqb (n + m) 0) → Test (is_outside p v tb) → not (eqb (n + m) 0) ≡ is_outside p v tb
      go (yes! f) (yes! o) = absurd (let z : ⊥ = omega (arith, e, most, eqb-true (n + m) 0 f, some_counted o) in z)
      go (yes! f) (no! o) = ap not f ∙ sym o
      go (no! f) (yes! o) = ap not f ∙ sym o
      go (no! f) (no! o) = some (dec_lt 0 n)
        where
          some : Dec (0 < n) → not (eqb (n + m) 0) ≡ is_outside p v tb
          some (yes l) = ap not f ∙ sym (counted_beyond (omega (arith, e, l)))
          some (no l) = ap not f ∙ sym (counted-lost (least (pos l)))
            where
              pos : (0 < n → ⊥) → 0 < m
              pos l = let c : n ≡ 0 = omega arith in let d : m ≡ 0 → ⊥ = λ z. eqb-false (n + m) 0 f (omega (arith, c, z)) in go_pos d
                where
                  go_pos : (m ≡ 0 → ⊥) → 0 < m
                  go_pos d = lt_of_le-ne (omega arith) (λ z. d (sym z))
