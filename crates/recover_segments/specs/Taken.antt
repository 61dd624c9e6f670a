-- The zones that the remaining segments have, and those that are free, by a table of marks (02, item 4). Assumes nothing.
use Rattle.std.specs.Prelude.{◌≡◌, List, [], ◌∷◌, Bool, true, false, ◌&&◌, ◌||◌, ℕ, ◌+◌, ◌*◌, ◌≤◌, ◌<◌, ltb, length, get_or, set}
use Rattle.std.proofs.Math.Path.{refl, sym, ap}
use Rattle.std.proofs.Common.{ap₂, ◌∙◌, inl, eq-eqb, ne_eqb, eqb-true, lt-ltb, le-ltb, ltb-true, get_or-set_same, get_or-set_other}
use Rattle.std.proofs.Math.Bool.{not}
use native.Mathlib.Omega.{arith}
use Rattle.std.proofs.Math.Decide.{ℕ_discrete}
use Rattle.std.proofs.Math.Arith.{digits_lt, lt_of_le-ne}
use Rattle.std.proofs.Math.Dec.{eqb}
use Rattle.spec.specs.declared.Params.{Params}
use Rattle.spec.specs.declared.Seg.{Seg}
use Rattle.spec.specs.Bytes.{part}
use Rattle.spec.specs.Drives.{View, view_of, is_good, good_zones, zone_on, seg, seg_with}
use Rattle.spec.specs.Lists.{up_from, below, any, keep, is_nil, first_or}
use Rattle.spec.specs.Params.{drives_of}
use Rattle.spec.specs.Restart.{free_zones, free_seg, none_free_of}
use Rattle.spec.specs.Segments.{remaining, Segment, segment_of, segments}
use Rattle.law_basic.specs.Ranges.{and_left, and_right, any_append, any-map, below-snoc, keep-below_same, nil_is}
use Rattle.law_basic.specs.Segs.{with_same}
use Rattle.law_scans.specs.Scans.{any-keep}
use Rattle.law_views.specs.Pointers.{index_drive, index_zone}
use Rattle.law_drives.specs.Members.{In, any_cong, keep_in, keep-keep, below_in, first_any}
use Rattle.law_drives.specs.Segs.{seg_is}
use Rattle.law_drives.specs.Tests.{and_false_right, not_so, same_test}
use Rattle.disk_gather.specs.Flags.{Keeps, FlagsRows}
use Rattle.disk_gather.specs.Found.{kept-list}

or_true : (b : Bool) → b || true ≡ true
or_true true = refl
or_true false = refl

pub or_no : (b : Bool) → b || false ≡ b
or_no true = refl
or_no false = refl

-- ---- which zones the segments have

-- by drive and zone, a table says which zones the remaining segments have
abbrev pub TakenOfTaken : Params → View → ℕ → List Bool → Type 0
TakenOfTaken p v gone l = (p.N * p.Z ≤ length l) × ((d z : ℕ) → d < p.N → z < p.Z → get_or l (d * p.Z + z) false ≡ any (λ g. eqb (zone_on g d) z) (remaining p v gone))

-- it says which zones the first n flagged rows have
abbrev pub MarkedBy : Params → List Bool → List ℕ → ℕ → List Bool → Type 0
MarkedBy p ks rows n l =
    (d z : ℕ) → d < p.N → z < p.Z → get_or l (d * p.Z + z) false ≡ any (λ x. get_or ks x false && eqb (zone_on (seg (part (8 * x) 8 rows)) d) z) (below n)

-- a mark at a zone
pub mark_set : (p : Params) (l : List Bool) (e y d z : ℕ) → p.N * p.Z ≤ length l → e < p.N → y < p.Z → d < p.N → z < p.Z
    → get_or (set l (e * p.Z + y) true) (d * p.Z + z) false ≡ (get_or l (d * p.Z + z) false || (eqb e d && eqb y z))
mark_set p l e y d z h he hy hd hz = go (ℕ_discrete (d * p.Z + z) (e * p.Z + y))
  where
    go : Dec (d * p.Z + z ≡ e * p.Z + y) → get_or (set l (e * p.Z + y) true) (d * p.Z + z) false ≡ (get_or l (d * p.Z + z) false || (eqb e d && eqb y z))
    go (yes q) =
        let i : d * p.Z + z < p.N * p.Z = digits_lt hd hz in
        ap (λ (j : ℕ). get_or (set l j true) (d * p.Z + z) false) (sym q) ∙ get_or-set_same l (d * p.Z + z) true false (omega arith)
        ∙ sym (or_true (get_or l (d * p.Z + z) false))
        ∙ sym (λ j. get_or l (d * p.Z + z) false || (eq-eqb e d (index_drive p.Z e y d z hy hz (sym q)) j && eq-eqb y z (index_zone p.Z e y d z hy hz (sym q)) j))
    go (no q) =
        get_or-set_other l (e * p.Z + y) (d * p.Z + z) true false q
        ∙ sym (ap (λ (b : Bool). get_or l (d * p.Z + z) false || b) (not_so (eqb e d && eqb y z)
        (λ t. q (ap₂ (λ (a b : ℕ). a * p.Z + b) (sym (eqb-true e d (and_left (eqb e d) (eqb y z) t))) (sym (eqb-true y z (and_right (eqb e d) (eqb y z) t))))))
        ∙ or_no (get_or l (d * p.Z + z) false))

-- a number that is no zone marks nothing
pub taken_mark_none : (p : Params) (l : List Bool) (e y d z : ℕ) → p.Z ≤ y → z < p.Z → get_or l (d * p.Z + z) false ≡ (get_or l (d * p.Z + z) false || (eqb e d && eqb y z))
taken_mark_none p l e y d z h hz =
    sym (or_no (get_or l (d * p.Z + z) false))
    ∙ sym (ap (λ (b : Bool). get_or l (d * p.Z + z) false || b) (and_false_right (eqb e d) (eqb y z) (ne_eqb y z (λ q. let x : ⊥ = omega arith in x))))

-- ---- the zones of a segment, drive after drive

-- those of the drives below n are marked
abbrev pub MarkedOn : Params → Seg → ℕ → List Bool → List Bool → Type 0
MarkedOn p g n l l' = (d z : ℕ) → d < p.N → z < p.Z → get_or l' (d * p.Z + z) false ≡ (get_or l (d * p.Z + z) false || (ltb d n && eqb (zone_on g d) z))

pub on_start : (p : Params) (g : Seg) (l : List Bool) → MarkedOn p g 0 l l
on_start p g l d z hd hz = sym (ap (λ (b : Bool). get_or l (d * p.Z + z) false || (b && eqb (zone_on g d) z)) (le-ltb d 0 (omega arith)) ∙ or_no (get_or l (d * p.Z + z) false))

pub on_more : (p : Params) (g : Seg) (n : ℕ) (l l' l'' : List Bool) → MarkedOn p g n l l'
    → ((d z : ℕ) → d < p.N → z < p.Z → get_or l'' (d * p.Z + z) false ≡ (get_or l' (d * p.Z + z) false || (eqb n d && eqb (zone_on g n) z))) → MarkedOn p g (n + 1) l l''
on_more p g n l l' l'' a b d z hd hz =
    b d z hd hz ∙ ap (λ (x : Bool). x || (eqb n d && eqb (zone_on g n) z)) (a d z hd hz) ∙ go (ℕ_discrete n d)
  where
    old : Bool
    old = get_or l (d * p.Z + z) false

    here : Bool
    here = eqb (zone_on g d) z

    go : Dec (n ≡ d) → ((old || (ltb d n && here)) || (eqb n d && eqb (zone_on g n) z)) ≡ (old || (ltb d (n + 1) && here))
    go (yes q) =
        (λ j. (old || (le-ltb d n (omega arith) j && here)) || (eq-eqb n d q j && eqb (zone_on g (q j)) z))
        ∙ ap (λ (x : Bool). x || here) (or_no old) ∙ sym (ap (λ (x : Bool). old || (x && here)) (lt-ltb d (n + 1) (omega arith)))
    go (no q) =
        ap (λ (x : Bool). (old || (ltb d n && here)) || (x && eqb (zone_on g n) z)) (ne_eqb n d q) ∙ or_no (old || (ltb d n && here))
        ∙ ap (λ (x : Bool). old || (x && here)) (same_test (ltb d n) (ltb d (n + 1)) (λ t. lt-ltb d (n + 1) (let h = ltb-true d n t in omega arith))
        (λ t. lt-ltb d n (lt_of_le-ne (let h = ltb-true d (n + 1) t in omega arith) (λ e. q (sym e)))))

pub on_all : (p : Params) (g : Seg) (n : ℕ) (l l' : List Bool) → p.N ≤ n → MarkedOn p g n l l' → (d z : ℕ) → d < p.N → z < p.Z
    → get_or l' (d * p.Z + z) false ≡ (get_or l (d * p.Z + z) false || eqb (zone_on g d) z)
on_all p g n l l' h a d z hd hz = a d z hd hz ∙ ap (λ (x : Bool). get_or l (d * p.Z + z) false || (x && eqb (zone_on g d) z)) (lt-ltb d n (omega arith))

-- ---- row after row

pub marks_start : (p : Params) (ks : List Bool) (rows : List ℕ) (l : List Bool) → ((j : ℕ) → j < p.N * p.Z → get_or l j false ≡ false) → MarkedBy p ks rows 0 l
unfolding below up_from any
marks_start p ks rows l h d z hd hz = h (d * p.Z + z) (digits_lt hd hz)

pub marks_next : (p : Params) (ks : List Bool) (rows : List ℕ) (n : ℕ) (l l' : List Bool) → MarkedBy p ks rows n l
    → ((d z : ℕ) → d < p.N → z < p.Z → get_or l' (d * p.Z + z) false ≡ (get_or l (d * p.Z + z) false || (get_or ks n false && eqb (zone_on (seg (part (8 * n) 8 rows)) d) z)))
    → MarkedBy p ks rows (n + 1) l'
marks_next p ks rows n l l' a b d z hd hz =
    let f : ℕ → Bool = λ x. get_or ks x false && eqb (zone_on (seg (part (8 * x) 8 rows)) d) z in
    b d z hd hz ∙ ap (λ (x : Bool). x || f n) (a d z hd hz) ∙ sym (ap (any f) (below-snoc n) ∙ any_append f (below n) (n ∷ []) ∙ ap (λ (x : Bool). any f (below n) || x) (any-one f n))
  where
    any-one : (f : ℕ → Bool) (n : ℕ) → any f (n ∷ []) ≡ f n
    any-one f n = unfold any in or_no (f n)

pub marks_taken : (p : Params) (v : View) (gone : ℕ) (ks : List Bool) (rows : List ℕ) (l : List Bool) → Keeps p v gone ks → FlagsRows p v gone rows → p.N * p.Z ≤ length l
    → MarkedBy p ks rows p.Z l → TakenOfTaken p v gone l
marks_taken p v gone ks rows l k r h a = (
  h,
  λ d z hd hz.
      let row : ℕ → Seg = λ x. seg (part (8 * x) 8 rows) in
      a d z hd hz ∙ sym (ap (any (λ g. eqb (zone_on g d) z)) (kept-list p v gone rows ks r k)
      ∙ any-map (λ g. eqb (zone_on g d) z) row (keep (λ x. get_or ks x false) (below p.Z))
      ∙ any-keep (λ x. get_or ks x false) (λ x. eqb (zone_on (row x) d) z) (below p.Z)),
)

-- ---- zones that are free

-- by list and table: good, and no remaining segment has it
unfoldable pub free_in : Params → List ℕ → List Bool → ℕ → ℕ → Bool
free_in p off l d z = is_good p off d z && not (get_or l (d * p.Z + z) false)

-- a segment as read has its zones
any-segments : (p : Params) (v : View) (gone d z : ℕ) → any (λ (g : Segment). eqb (zone_on g.seg d) z) (segments p v gone) ≡ any (λ g. eqb (zone_on g d) z) (remaining p v gone)
unfolding segments
any-segments p v gone d z =
    any-map (λ (g : Segment). eqb (zone_on g.seg d) z) (segment_of p v gone) (remaining p v gone)
    ∙ any_cong (λ g. eqb (zone_on (segment_of p v gone g).seg d) z) (λ g. eqb (zone_on g d) z) (remaining p v gone) (λ g m. ap (λ (x : Seg). eqb (zone_on x d) z) (seg_is p v gone g))

module _ (p : Params) (off im ps : List ℕ) (gone : ℕ) (l : List Bool) (t : TakenOfTaken p (view_of p off im ps) gone l) where
  abbrev v : View
  v = view_of p off im ps

  free_list : (d : ℕ) → d < p.N → free_zones p v (segments p v gone) d ≡ keep (free_in p off l d) (below p.Z)
  unfolding free_zones good_zones free_in view_of
  free_list d hd =
      keep-keep (λ z. not (any (λ (g : Segment). eqb (zone_on g.seg d) z) (segments p v gone))) (is_good p off d) (below p.Z)
      ∙ keep-below_same (λ z. is_good p off d z && not (any (λ (g : Segment). eqb (zone_on g.seg d) z) (segments p v gone)))
      (λ z. is_good p off d z && not (get_or l (d * p.Z + z) false)) p.Z
      (λ z hz. ap (λ (b : Bool). is_good p off d z && not b) (any-segments p v gone d z ∙ sym (t.1 d z hd hz)))

  pub free_seg_by : free_seg p v (segments p v gone) ≡ seg_with p (λ d. first_or 0 (keep (free_in p off l d) (below p.Z)))
  unfolding free_seg
  free_seg_by = with_same p (λ d. first_or 0 (free_zones p v (segments p v gone) d)) (λ d. first_or 0 (keep (free_in p off l d) (below p.Z))) (λ d hd. ap (first_or 0) (free_list d hd))

  pub none_free : none_free_of p v (segments p v gone) ≡ any (λ d. is_nil (keep (free_in p off l d) (below p.Z))) (below p.N)
  unfolding none_free_of drives_of
  none_free = any_cong (λ d. is_nil (free_zones p v (segments p v gone) d)) (λ d. is_nil (keep (free_in p off l d) (below p.Z))) (below p.N)
      (λ d m. ap is_nil (free_list d (below_in p.N d m)))

-- the first, or none
pub taken_nil_first : (f : ℕ → Bool) (n : ℕ) → first_or n (keep f (below n)) ≡ n → is_nil (keep f (below n)) ≡ true
taken_nil_first f n e = go (keep f (below n)) (λ a m. below_in n a (keep_in f (below n) a m).0) e
  where
    go : (l : List ℕ) → ((a : ℕ) → In a l → a < n) → first_or n l ≡ n → is_nil l ≡ true
    go [] h q = unfold is_nil in refl
    go (a ∷ l) h q = unfold first_or in absurd (let x : a < n = h a (inl refl) in let y : a ≡ n = q in let z : ⊥ = omega arith in z)

pub some_first : (f : ℕ → Bool) (n m : ℕ) → first_or n (keep f (below n)) ≡ m → m < n → is_nil (keep f (below n)) ≡ false
some_first f n m e h = go (keep f (below n)) e
  where
    go : (l : List ℕ) → first_or n l ≡ m → is_nil l ≡ false
    go [] q = unfold first_or in absurd (let y : n ≡ m = q in let z : ⊥ = omega arith in z)
    go (a ∷ l) q = unfold is_nil in refl

pub first_else : (f : ℕ → Bool) (n : ℕ) → first_or n (keep f (below n)) < n → first_or 0 (keep f (below n)) ≡ first_or n (keep f (below n))
first_else f n h = first_any 0 n (keep f (below n)) (some_first f n (first_or n (keep f (below n))) refl h)

pub first_nil : (f : ℕ → Bool) (n : ℕ) → first_or n (keep f (below n)) ≡ n → first_or 0 (keep f (below n)) ≡ 0
unfolding first_or
first_nil f n e = ap (first_or 0) (nil_is (keep f (below n)) (taken_nil_first f n e))

-- it is below
pub first_low : (f : ℕ → Bool) (n : ℕ) → 0 < n → first_or 0 (keep f (below n)) < n
first_low f n h = go (keep f (below n)) (λ a m. below_in n a (keep_in f (below n) a m).0)
  where
    go : (l : List ℕ) → ((a : ℕ) → In a l → a < n) → first_or 0 l < n
    go [] k = unfold first_or in h
    go (a ∷ l) k = unfold first_or in k a (inl refl)
