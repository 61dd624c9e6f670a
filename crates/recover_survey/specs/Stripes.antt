-- The tally of a segment's first stripes, stripe by stripe (01, Restart, 3; Refusals, 9). Assumes nothing.
use Rattle.std.specs.Prelude.{◌≡◌, List, [], ◌∷◌, ◌++◌, map, Bool, ◌&&◌, ◌||◌, ℕ, suc, ◌+◌, min, ◌≤◌, ◌<◌, length}
use Rattle.std.proofs.Math.Path.{refl, sym, ap, ap₂}
use Rattle.std.proofs.Common.{◌∙◌, append-nil, eq-eqb, ne_eqb, arith}
use Rattle.std.proofs.Math.Bool.{true, false, not}
use Rattle.law_basic.specs.Ranges.{Test, test, not_both, below-snoc, map-append, any_append, any_miss, any_none, any_same, greatest-snoc, keep-below-snoc, tally-below_hit, tally-below_miss}
use Rattle.law_basic.specs.Ranges.Test.{yes!, no! }
use Rattle.law_basic.specs.Mask.{is_in_empty}
use Rattle.law_code.specs.Chunks.{rec_lost}
use Rattle.law_code.specs.Single.{decode_rec_xor}
use Rattle.law_scans.specs.Scans.{any-keep}
use Rattle.spec.specs.Segments.{Segment, segment_of, recs_on, has_chunk, counts, counted, uncounted, stored_rec}
use Rattle.recover_groups.specs.declared.Group.{Group}
use Rattle.recover_groups.specs.Bases.{bases_step, bases_end}
use Rattle.recover_groups.specs.Chunks.{recs_short, chunks_counts, chunks_some}
use Rattle.recover_groups.specs.Faulty.{any_swap, recs_fault_groups, recs_fault_is, no_group_fault}
use Rattle.recover_groups.specs.Groups.{group_len, bases_from, group_fault, recs_fault, Indexed, segment_in}
use Rattle.spec.specs.declared.Params.{Params}
use Rattle.spec.specs.Drives.{View, view_of, sealed_in}
use Rattle.spec.specs.Faults.{stripe_fault, bad_rec, stored_bad, decoded_bad, address_fault}
use Rattle.spec.specs.Layout.{is_data, Rec}
use Rattle.spec.specs.Lists.{up_from, below, any, cons_if, keep, tally, greatest, is_in}
use Rattle.spec.specs.Params.{pointers_len, drives_of, present, absent}
use Rattle.spec.specs.Parity.{decode_rec}
use Rattle.recover_survey.specs.declared.Tally.{Tally}
use Rattle.law_drives.specs.Members.{keep_nothing}
use Rattle.recover_survey.specs.Tops.{last_of, top_of, Surveyed, last_le}
use Rattle.spec.specs.declared.Seg.{Seg}

-- ---- decoded addresses, by stripe

-- 01, Read and Rebuild: the record that is lost of a counted stripe; with one parity it is the same whichever missing drive is asked for (02, item 5)
unfoldable pub lost_rec : Params → ℕ → Segment → ℕ → Rec
lost_rec p gone g s = decode_rec p gone s 0 (stored_rec g s)

-- 01, Refusals, 9: a missing drive has data of the stripe, and their address, decoded, is bad
unfoldable pub lost_bad : Params → ℕ → Segment → ℕ → Bool
lost_bad p gone g s = any (is_data p s) (absent p gone) && bad_rec p (lost_rec p gone g s)

-- 01, Refusals, 9: such a stripe counts
unfoldable pub lost_fault : Params → ℕ → Segment → ℕ → Bool
lost_fault p gone g s = counts p gone g s && lost_bad p gone g s

-- 01, Restart: the stripe has some chunk but isn't counted
unfoldable pub is_loose : Params → ℕ → Segment → ℕ → Bool
is_loose p gone g s = any (has_chunk g s) (present p gone) && not (counts p gone g s)

any-kept_same : {A : Type 0} (q f g : A → Bool) (l : List A) → ((a : A) → q a ≡ true → f a ≡ g a) → any f (keep q l) ≡ any g (keep q l)
unfolding keep cons_if any
any-kept_same q f g [] h = refl
any-kept_same q f g (a ∷ l) h = go (test (q a)) (any-kept_same q f g l h)
  where
    go : Test (q a) → any f (keep q l) ≡ any g (keep q l) → any f (cons_if (q a) a (keep q l)) ≡ any g (cons_if (q a) a (keep q l))
    go (yes! e) r = rw e (ap₂ (λ (x y : Bool). x || y) (h a e) r)
    go (no! e) r = rw e r

any_and : {A : Type 0} (f : A → Bool) (b : Bool) (l : List A) → any (λ (a : A). f a && b) l ≡ (any f l && b)
unfolding any
any_and f b [] = refl
any_and f b (a ∷ l) = ap (λ (x : Bool). (f a && b) || x) (any_and f b l) ∙ or_and (f a) (any f l) b
  where
    or_and : (x y b : Bool) → ((x && b) || (y && b)) ≡ ((x || y) && b)
    or_and true y true = refl
    or_and true true false = refl
    or_and true false false = refl
    or_and false y b = refl

decoded-one : (p : Params) (gone : ℕ) (g : Segment) (s : ℕ) → any (λ d. decoded_bad p gone g d s) (absent p gone) ≡ lost_bad p gone g s
unfolding decoded_bad lost_rec lost_bad absent
decoded-one p gone g s =
    any-kept_same (is_in gone) (λ d. decoded_bad p gone g d s) (λ d. is_data p s d && bad_rec p (lost_rec p gone g s)) (drives_of p)
    (λ d e. ap (λ (q : Rec). is_data p s d && bad_rec p q)
    (rec_lost p gone g s d e ∙ decode_rec_xor p gone s d (stored_rec g s) ∙ sym (decode_rec_xor p gone s 0 (stored_rec g s))))
    ∙ any_and (is_data p s) (bad_rec p (lost_rec p gone g s)) (keep (is_in gone) (drives_of p))

-- 01, Refusals, 9: the decoded addresses of all missing drives, by stripe
decoded-any : (p : Params) (gone : ℕ) (g : Segment) → any (λ d. any (decoded_bad p gone g d) (counted p gone g)) (absent p gone) ≡ any (lost_fault p gone g) (below p.S)
unfolding counted absent lost_fault
decoded-any p gone g =
    any_swap (decoded_bad p gone g) (absent p gone) (counted p gone g)
    ∙ any_same (λ s. any (λ d. decoded_bad p gone g d s) (absent p gone)) (lost_bad p gone g) (counted p gone g) (decoded-one p gone g)
    ∙ any-keep (counts p gone g) (lost_bad p gone g) (below p.S)

-- 01, Refusals, 9: stripe numbers, stored addresses and decoded ones
pub faults_split : (p : Params) (gone : ℕ) (g : Segment) → (stripe_fault p gone g || address_fault p gone g) ≡ (recs_fault p gone g || any (lost_fault p gone g) (below p.S))
unfolding address_fault
faults_split p gone g =
    let x = any (λ d. any (stored_bad p d) (recs_on g d)) (present p gone) in
    let y = any (λ d. any (decoded_bad p gone g d) (counted p gone g)) (absent p gone) in
    or_assoc (stripe_fault p gone g) x y ∙ ap₂ (λ (a b : Bool). a || b) (sym (recs_fault_is p gone g)) (decoded-any p gone g)
  where
    or_assoc : (a b c : Bool) → (a || (b || c)) ≡ ((a || b) || c)
    or_assoc true b c = refl
    or_assoc false b c = refl

-- ---- the tally of the stripes below n; it says nothing of a segment with a bad record, but for the bounds

-- what a group's index says, where no record of the segment is bad
abbrev pub Shown : Params → List ℕ → List ℕ → List ℕ → Group → List ℕ → Type 0
Shown p off im ps w at = (length ps ≡ pointers_len p) × (w.full ≡ sealed_in p (view_of p off im ps) w.gone w.seg)
    × (recs_fault p w.gone (segment_in p off im ps w) ≡ false → Indexed p (segment_in p off im ps w) w.base at)

pub record Tallied (p : Params) (gone : ℕ) (g : Segment) (n : ℕ) (t : Tally) : Type 0 where
  pub bad_is : recs_fault p gone g ≡ false → t.bad ≡ any (lost_fault p gone g) (below n)
  pub counted_is : recs_fault p gone g ≡ false → t.bad ≡ false → t.counted ≡ tally (counts p gone g) (below n)
  pub top_is : recs_fault p gone g ≡ false → t.bad ≡ false → t.top ≡ last_of (keep (counts p gone g) (below n))
  pub loose_is : recs_fault p gone g ≡ false → t.bad ≡ false → t.loose ≡ tally (is_loose p gone g) (below n)

-- the tally, bad
abbrev pub worse : Tally → Tally
worse t = record { bad = true; counted = t.counted; top = t.top; loose = t.loose }

any-more : (f : ℕ → Bool) (n : ℕ) → any f (below (n + 1)) ≡ (any f (below n) || f n)
unfolding any
any-more f n = ap (any f) (below-snoc n) ∙ any_append f (below n) (n ∷ []) ∙ ap (λ (x : Bool). any f (below n) || x) (or-false (f n))
  where
    or-false : (b : Bool) → (b || false) ≡ b
    or-false true = refl
    or-false false = refl

or_none : (a b : Bool) → b ≡ false → (a || b) ≡ a
or_none true b e = refl
or_none false b e = e

or_some : (a b : Bool) → b ≡ true → (a || b) ≡ true
or_some true b e = refl
or_some false b e = e

last_hit : (f : ℕ → Bool) (n : ℕ) → f n ≡ true → last_of (keep f (below (n + 1))) ≡ n + 1
unfolding last_of cons_if below
last_hit f n e =
    let l = keep f (up_from 0 n) in
    let h : greatest (map suc l) ≤ 0 + n = last_le f 0 n in
    ap (λ (x : List ℕ). greatest (map suc x)) (keep-below-snoc f n ∙ ap (λ (b : Bool). l ++ cons_if b n []) e)
    ∙ ap greatest (map-append suc l (n ∷ [])) ∙ greatest-snoc (map suc l) (suc n) ∙ omega (arith, h)

last_miss : (f : ℕ → Bool) (n : ℕ) → f n ≡ false → last_of (keep f (below (n + 1))) ≡ last_of (keep f (below n))
unfolding cons_if
last_miss f n e = ap last_of (keep-below-snoc f n ∙ ap (λ (b : Bool). keep f (below n) ++ cons_if b n []) e ∙ append-nil (keep f (below n)))

module _ (p : Params) (gone : ℕ) (g : Segment) (n : ℕ) (t : Tally) (T : Tallied p gone g n t) where
  -- a stripe without a chunk
  pub passes_none : (recs_fault p gone g ≡ false → (counts p gone g n ≡ false) × (is_loose p gone g n ≡ false)) → Tallied p gone g (n + 1) t
  unfolding lost_fault
  passes_none h = record {
    bad_is = λ e. T.bad_is e ∙ sym (any-more (lost_fault p gone g) n
        ∙ or_none (any (lost_fault p gone g) (below n)) (lost_fault p gone g n) (ap (λ (x : Bool). x && lost_bad p gone g n) (h e).0));
    counted_is = λ e b. T.counted_is e b ∙ sym (tally-below_miss (counts p gone g) n (h e).0);
    top_is = λ e b. T.top_is e b ∙ sym (last_miss (counts p gone g) n (h e).0);
    loose_is = λ e b. T.loose_is e b ∙ sym (tally-below_miss (is_loose p gone g) n (h e).1);
  }

  -- a stripe with some chunk that doesn't count
  pub passes_loose : (recs_fault p gone g ≡ false → (counts p gone g n ≡ false) × (is_loose p gone g n ≡ true))
      → Tallied p gone g (n + 1) (record { bad = t.bad; counted = t.counted; top = t.top; loose = t.loose + 1 })
  unfolding lost_fault
  passes_loose h = record {
    bad_is = λ e. T.bad_is e ∙ sym (any-more (lost_fault p gone g) n
        ∙ or_none (any (lost_fault p gone g) (below n)) (lost_fault p gone g n) (ap (λ (x : Bool). x && lost_bad p gone g n) (h e).0));
    counted_is = λ e b. T.counted_is e b ∙ sym (tally-below_miss (counts p gone g) n (h e).0);
    top_is = λ e b. T.top_is e b ∙ sym (last_miss (counts p gone g) n (h e).0);
    loose_is = λ e b. ap (λ (x : ℕ). x + 1) (T.loose_is e b) ∙ sym (tally-below_hit (is_loose p gone g) n (h e).1);
  }

  -- a stripe that counts
  pub passes_counted : (recs_fault p gone g ≡ false → (counts p gone g n ≡ true) × (lost_bad p gone g n ≡ false))
      → Tallied p gone g (n + 1) (record { bad = t.bad; counted = t.counted + 1; top = n + 1; loose = t.loose })
  unfolding lost_fault is_loose
  passes_counted h = record {
    bad_is = λ e. T.bad_is e ∙ sym (any-more (lost_fault p gone g) n ∙ or_none (any (lost_fault p gone g) (below n)) (lost_fault p gone g n) (λ i. (h e).0 i && (h e).1 i));
    counted_is = λ e b. ap (λ (x : ℕ). x + 1) (T.counted_is e b) ∙ sym (tally-below_hit (counts p gone g) n (h e).0);
    top_is = λ e b. sym (last_hit (counts p gone g) n (h e).0);
    loose_is =
        λ e b. T.loose_is e b
        ∙ sym (tally-below_miss (is_loose p gone g) n
        (ap (λ (x : Bool). any (has_chunk g n) (present p gone) && not x) (h e).0 ∙ and_none (any (has_chunk g n) (present p gone))));
  }
    where
      and_none : (b : Bool) → (b && false) ≡ false
      and_none true = refl
      and_none false = refl

  -- a stripe that counts, with a bad address
  pub passes_bad : (recs_fault p gone g ≡ false → (counts p gone g n ≡ true) × (lost_bad p gone g n ≡ true)) → Tallied p gone g (n + 1) (worse t)
  unfolding lost_fault
  passes_bad h = record {
    bad_is = λ e. sym (any-more (lost_fault p gone g) n ∙ or_some (any (lost_fault p gone g) (below n)) (lost_fault p gone g n) (λ i. (h e).0 i && (h e).1 i));
    counted_is = λ e b. absurd (not_both true refl b);
    top_is = λ e b. absurd (not_both true refl b);
    loose_is = λ e b. absurd (not_both true refl b);
  }

-- a segment with a bad record: its tally says nothing
pub bad_says : (p : Params) (gone : ℕ) (g : Segment) (n : ℕ) (t : Tally) → recs_fault p gone g ≡ true → Tallied p gone g n t
bad_says p gone g n t h = record {
  bad_is = λ e. absurd (not_both (recs_fault p gone g) h e);
  counted_is = λ e b. absurd (not_both (recs_fault p gone g) h e);
  top_is = λ e b. absurd (not_both (recs_fault p gone g) h e);
  loose_is = λ e b. absurd (not_both (recs_fault p gone g) h e);
}

-- at the start
pub tallied_none : (p : Params) (gone : ℕ) (g : Segment) → Tallied p gone g 0 (record { bad = false; counted = 0; top = 0; loose = 0 })
unfolding last_of below up_from keep any tally greatest
tallied_none p gone g = record { bad_is = λ e. refl; counted_is = λ e b. refl; top_is = λ e b. refl; loose_is = λ e b. refl }

-- at the end: a bad record makes the tally bad
pub surveyed : (p : Params) (gone : ℕ) (g : Segment) (t : Tally) → Tallied p gone g p.S t → (recs_fault p gone g ≡ true → t.bad ≡ true) → Surveyed p gone g t
unfolding top_of counted uncounted is_loose tally
surveyed p gone g t T h = go (test (recs_fault p gone g))
  where
    go : Test (recs_fault p gone g) → Surveyed p gone g t
    go (yes! e) = record {
      bad_is = h e ∙ sym (faults_split p gone g ∙ ap (λ (x : Bool). x || any (lost_fault p gone g) (below p.S)) e);
      counted_is = λ b. absurd (not_both t.bad (h e) b);
      top_is = λ b. absurd (not_both t.bad (h e) b);
      loose_is = λ b. absurd (not_both t.bad (h e) b);
    }
    go (no! e) = record {
      bad_is = T.bad_is e ∙ sym (faults_split p gone g ∙ ap (λ (x : Bool). x || any (lost_fault p gone g) (below p.S)) e);
      counted_is = T.counted_is e;
      top_is = T.top_is e;
      loose_is = T.loose_is e;
    }

-- ---- for the loops

pub absent-any : (p : Params) (gone : ℕ) (f : ℕ → Bool) → any f (absent p gone) ≡ any (λ d. is_in gone d && f d) (below p.N)
unfolding absent drives_of
absent-any p gone f = any-keep (is_in gone) f (below p.N)

-- no drive is missing
pub absent_none : (p : Params) (gone : ℕ) (f : ℕ → Bool) → gone ≡ 0 → false ≡ any f (absent p gone)
unfolding absent drives_of
absent_none p gone f e =
    sym (ap (any f) (keep_nothing (is_in gone) (below p.N) (λ d m. ap (λ (x : ℕ). is_in x d) e ∙ is_in_empty d)) ∙ any_none f)

pub no_lost_bad : (p : Params) (gone : ℕ) (g : Segment) (s : ℕ) → any (is_data p s) (absent p gone) ≡ false → false ≡ lost_bad p gone g s
unfolding lost_bad
no_lost_bad p gone g s e = sym (ap (λ (b : Bool). b && bad_rec p (lost_rec p gone g s)) e)

pub lost_some : (p : Params) (gone : ℕ) (g : Segment) (s : ℕ) (r : Rec) → any (is_data p s) (absent p gone) ≡ true
    → r ≡ decode_rec p gone s 0 (stored_rec g s) → bad_rec p r ≡ lost_bad p gone g s
unfolding lost_bad lost_rec
lost_some p gone g s r e q = ap (bad_rec p) q ∙ sym (ap (λ (b : Bool). b && bad_rec p (lost_rec p gone g s)) e)

-- a group's fault is one of the segment
pub group_fault_lem : (p : Params) (gone : ℕ) (g : Segment) (base : ℕ) → group_fault p gone g base ≡ true → recs_fault p gone g ≡ true
group_fault_lem p gone g base h = go (test (recs_fault p gone g))
  where
    go : Test (recs_fault p gone g) → recs_fault p gone g ≡ true
    go (yes! e) = e
    go (no! e) = absurd (not_both (group_fault p gone g base) h (no_group_fault p gone g base e))

-- 01, Restart, 3: n drives of m present ones have the stripe's chunk
module _ (p : Params) (v : View) (gone : ℕ) (sgm : Seg) (s n m : ℕ) (en : n ≡ length (keep (has_chunk (segment_of p v gone sgm) s) (drives_of p))) (em : m ≡ length (present p gone)) where
  pub counts_all : n ≡ m → counts p gone (segment_of p v gone sgm) s ≡ true
  counts_all e = chunks_counts p v gone sgm s ∙ eq-eqb (length (keep (has_chunk (segment_of p v gone sgm) s) (drives_of p))) (length (present p gone)) (sym en ∙ e ∙ em)

  pub counts_few : (n ≡ m → ⊥) → counts p gone (segment_of p v gone sgm) s ≡ false
  counts_few e = chunks_counts p v gone sgm s ∙ ne_eqb (length (keep (has_chunk (segment_of p v gone sgm) s) (drives_of p))) (length (present p gone)) (λ q. e (en ∙ q ∙ sym em))

  pub loose_none : n ≡ 0 → is_loose p gone (segment_of p v gone sgm) s ≡ false
  unfolding is_loose
  loose_none e =
      ap (λ (b : Bool). b && not (counts p gone (segment_of p v gone sgm) s))
      (chunks_some p v gone sgm s ∙ ap not (eq-eqb (length (keep (has_chunk (segment_of p v gone sgm) s) (drives_of p))) 0 (sym en ∙ e)))

  pub loose_some : (n ≡ m → ⊥) → (n ≡ 0 → ⊥) → is_loose p gone (segment_of p v gone sgm) s ≡ true
  unfolding is_loose
  loose_some e h =
      ap₂ (λ (a b : Bool). a && not b)
      (chunks_some p v gone sgm s ∙ ap not (ne_eqb (length (keep (has_chunk (segment_of p v gone sgm) s) (drives_of p))) 0 (λ q. h (en ∙ q))))
      (counts_few e)

  pub loose_counts : counts p gone (segment_of p v gone sgm) s ≡ false → (n ≡ 0 → ⊥) → is_loose p gone (segment_of p v gone sgm) s ≡ true
  loose_counts e h = loose_some (λ q. absurd (not_both (counts p gone (segment_of p v gone sgm) s) (counts_all q) e)) h

-- ---- from group to group

-- the stripes up to the next group
pub group_next : (p : Params) (base : ℕ) → base < p.S → base + group_len p base ≡ min (base + p.G) p.S
unfolding group_len
group_next p base h = omega arith

-- the faults of the groups left, where this one has none
pub groups_left_lem : (p : Params) (gone : ℕ) (g : Segment) (base : ℕ) → 0 < p.G → base < p.S → group_fault p gone g base ≡ false
    → any (group_fault p gone g) (bases_from p (base + p.G)) ≡ any (group_fault p gone g) (bases_from p base)
groups_left_lem p gone g base h k e = sym (ap (any (group_fault p gone g)) (bases_step p base h k) ∙ any_miss (group_fault p gone g) base (bases_from p (base + p.G)) e)

pub faults_start : (p : Params) (v : View) (gone : ℕ) (sgm : Seg) → 0 < p.G
    → any (group_fault p gone (segment_of p v gone sgm)) (bases_from p 0) ≡ recs_fault p gone (segment_of p v gone sgm)
faults_start p v gone sgm h = sym (recs_fault_groups p gone (segment_of p v gone sgm) h (recs_short p v gone sgm))

-- none left, and none found
pub groups_ended : (p : Params) (gone : ℕ) (g : Segment) (base : ℕ) (b : Bool) → 0 < p.G → p.S ≤ base
    → (b ≡ false → any (group_fault p gone g) (bases_from p base) ≡ recs_fault p gone g) → recs_fault p gone g ≡ true → b ≡ true
groups_ended p gone g base true h k q e = refl
groups_ended p gone g base false h k q e =
    absurd (not_both (recs_fault p gone g) e (sym (q refl) ∙ ap (any (group_fault p gone g)) (bases_end p base h k) ∙ any_none (group_fault p gone g)))
