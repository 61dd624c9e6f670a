-- The lowest bad zone of a landing (01, Refusals, 9). Assumes nothing.
use Rattle.std.specs.Prelude.{◌≡◌, ◌&&◌, ◌||◌, length}
use Rattle.std.proofs.Math.Path.{refl, sym, ap}
use Rattle.std.proofs.Common.{◌∙◌, subst}
use mathlib.Core.List.{List, [], ◌∷◌, ◌++◌, map, append-nil}
use Rattle.std.proofs.Math.Bool.{Bool, true, false, cond, not}
use Prim.Native.Nat.{ℕ, ◌+◌, ◌-◌, ◌/◌, min, ◌≤◌, ◌<◌}
use Rattle.std.proofs.Math.Nat.{mod-lt}
use borrow.Author.Tests.{le-leb, lt-leb, lt-ltb, le-ltb, eq-eqb, ne_eqb, ltb-true}
use native.Mathlib.Omega.{arith}
use Rattle.std.proofs.Math.Dec.{leb, ltb, eqb}
use Rattle.spec.specs.declared.Params.{Params}
use Rattle.spec.specs.declared.State.{State}
use Rattle.spec.specs.Calls.Check.{zones}
use Rattle.spec.specs.Calls.{ninth, first_refusal}
use Rattle.spec.specs.Counts.{never_place}
use Rattle.spec.specs.Drives.{View, pointer_at, view_of, mk_disk, pointer_of, zone_on}
use Rattle.spec.specs.Landing.{slot_of, completes, seals, misplaced, overfull, entry_faults, land_faults}
use Rattle.spec.specs.Layout.{group, Rec}
use Rattle.spec.specs.Lists.Opt.{none}
use Rattle.spec.specs.Lists.{up_from, below, all, is_nil, cons_if, keep, flat, least, is_in}
use Rattle.spec.specs.Memory.{Memory, filled_in_of, entry_in_of, entries_in, place_at_of}
use Rattle.spec.specs.Params.{between, footers, capacity, image_len, pointers_len, place_block, place_zone, place_drive, drives_of}
use Rattle.spec.specs.Read.{place_faults}
use Rattle.spec.specs.Segments.{is_place, open_segments, open_segment}
use Rattle.law_views.specs.Views.{pointer_view}
use Rattle.law_basic.specs.Geometry.{Ranged}
use Rattle.law_basic.specs.Ranges.{and_left, and_both, up_from_step, up_from_end, below-start, all_append, all_hit, all_none, flat_none, flat-cons, least-le}
use Rattle.law_basic.specs.Segs.{ZonesLow, low_here}
use Rattle.law_drives.specs.Members.{in_all, map_in, keep_in, below_in, flat_map, flat_cong}
use Rattle.spec.specs.declared.Seg.{Seg}

-- ---- the least of a list, from a start

pub least-append : (n : ℕ) (l m : List ℕ) → least n (l ++ m) ≡ least (least n l) m
unfolding least
least-append n [] m = refl
least-append n (k ∷ l) m = least-append (min n k) l m

-- one zone more, of which w is the least so far
pub least_lower : (w z Z : ℕ) (l : List ℕ) → z < w → w ≤ Z → least w (cons_if (ltb z Z) z [] ++ l) ≡ least z l
unfolding least cons_if
least_lower w z Z l h g =
    let e : min w z ≡ z = omega arith in
    ap (λ (x : Bool). least w (cons_if x z [] ++ l)) (lt-ltb z Z (omega arith)) ∙ ap (λ (x : ℕ). least x l) e

same_if : (b : Bool) (w z : ℕ) (l : List ℕ) → w ≤ z → least w (cons_if b z [] ++ l) ≡ least w l
unfolding least cons_if
same_if true w z l h = let e : min w z ≡ w = omega arith in ap (λ (x : ℕ). least x l) e
same_if false w z l h = refl

pub least_same : (w z Z : ℕ) (l : List ℕ) → w ≤ z → least w (cons_if (ltb z Z) z [] ++ l) ≡ least w l
least_same w z Z l h = same_if (ltb z Z) w z l h

-- 01, Refusals, 9: refused where the least is one of a zone
pub lowest_refused : (Z : ℕ) (zs : List ℕ) → all (λ z. ltb z Z) zs ≡ true → first_refusal (zones (cons_if (ltb (least Z zs) Z) (least Z zs) []) ∷ []) ≡ first_refusal (zones zs ∷ [])
unfolding first_refusal ninth least cons_if
lowest_refused Z [] h = ap (λ (x : Bool). ninth (cons_if x Z []) none) (le-ltb Z Z (omega arith))
lowest_refused Z (z ∷ zs) h =
    let a : z < Z = ltb-true z Z (and_left (ltb z Z) (all (λ x. ltb x Z) zs) (as! h)) in
    let e : min Z z ≡ z = omega arith in
    let q = least z zs in
    ap (λ (x : ℕ). ninth (cons_if (ltb (least x zs) Z) (least x zs) []) none) e
    ∙ ap (λ (x : Bool). ninth (cons_if x q []) none) (lt-ltb q Z (omega (arith, least-le z zs)))
  where
    as! : all (λ x. ltb x Z) (z ∷ zs) ≡ true → (ltb z Z && all (λ x. ltb x Z) zs) ≡ true
    as! e = unfold all in e

-- ---- the bad zones of a landing

-- 01, Refusals, 9: those of a landing on drive d in segment g, whose zone there is z, of a stripe with these entries; b: it completes the stripe, c: it seals the segment
unfoldable pub faults_of : Params → View → List ℕ → List Rec → ℕ → ℕ → Seg → ℕ → Bool → Bool → List ℕ
faults_of p v tb es d z g s b c =
    let zs = flat (entry_faults p v tb) es in
    cons_if (misplaced p v d z s) z (cond c (overfull p v d g) [] ++ cond b zs [])

-- ---- every bad zone is one of the drives' zones

module _ (Z : ℕ) where
  abbrev Low : List ℕ → Type 0
  Low zs = all (λ z. ltb z Z) zs ≡ true

  low_if : (b : Bool) (z : ℕ) (zs : List ℕ) → z < Z → Low zs → Low (cons_if b z zs)
  unfolding cons_if
  low_if true z zs h l = all_hit (λ x. ltb x Z) z zs (lt-ltb z Z h) ∙ l
  low_if false z zs h l = l

  low_none : Low []
  low_none = all_none (λ x. ltb x Z)

  low_cond : (b : Bool) (xs ys : List ℕ) → Low xs → Low ys → Low (cond b xs ys)
  low_cond true xs ys l m = l
  low_cond false xs ys l m = m

  low-flat : {A : Type 0} (f : A → List ℕ) (l : List A) → ((a : A) → Low (f a)) → Low (flat f l)
  low-flat f [] h = ap (all (λ x. ltb x Z)) (flat_none f) ∙ low_none
  low-flat f (a ∷ l) h =
      ap (all (λ x. ltb x Z)) (flat-cons f a l) ∙ all_append (λ x. ltb x Z) (f a) (flat f l)
      ∙ and_both (all (λ x. ltb x Z) (f a)) (all (λ x. ltb x Z) (flat f l)) (h a) (low-flat f l h)

module _ (p : Params) (r : Ranged p) (v : View) where
  low_place : (gone q : ℕ) → Low p.Z (place_faults p v gone q)
  unfolding place_faults place_zone
  low_place gone q =
      let d = place_drive p q in
      let z = place_zone p q in
      let b = place_block p q in
      let hz : z < p.Z = mod-lt (q / capacity p) (omega (arith, r.zones_low)) in
      low_cond p.Z (not (is_place p v gone q)) (0 ∷ []) (cons_if (not (between 1 p.S b) || (not (is_in gone d) && leb (pointer_at v d z) b)) z [])
      (all_hit (λ x. ltb x p.Z) 0 [] (lt-ltb 0 p.Z (omega (arith, r.zones_low))) ∙ low_none p.Z)
      (low_if p.Z (not (between 1 p.S b) || (not (is_in gone d) && leb (pointer_at v d z) b)) z [] hz (low_none p.Z))

  low_entry : (tb : List ℕ) (e : Rec) → Low p.Z (entry_faults p v tb e)
  unfolding entry_faults
  low_entry tb e =
      let q = place_at_of tb e.address in
      let zs = place_faults p v 0 q in
      low_cond p.Z (ltb e.address p.L) (cond (eqb q never_place) [] zs) []
      (low_cond p.Z (eqb q never_place) [] zs (low_none p.Z) (low_place 0 q)) (low_none p.Z)

  low_over : (d : ℕ) (g : Seg) → ZonesLow p 0 g → Low p.Z (overfull p v d g)
  unfolding overfull drives_of
  low_over d g h =
      let f : ℕ → Bool = λ e. ltb (capacity p) (pointer_at v e (zone_on g e) + cond (eqb e d) 1 0 + footers p) in
      in_all (λ x. ltb x p.Z) (map (zone_on g) (keep f (below p.N)))
      (λ z m.
      let (e, i, q) = map_in (zone_on g) (keep f (below p.N)) z m in
      let (j, _) = keep_in f (below p.N) e i in
      lt-ltb z p.Z (subst (λ (x : ℕ). x < p.Z) (sym q) (low_here p g e h (below_in p.N e j))))

  -- those of a landing in segment g
  pub low_faults : (tb : List ℕ) (es : List Rec) (d z : ℕ) (g : Seg) (s : ℕ) (b c : Bool) → z < p.Z → (c ≡ true → ZonesLow p 0 g)
      → all (λ x. ltb x p.Z) (faults_of p v tb es d z g s b c) ≡ true
  unfolding faults_of
  low_faults tb es d z g s b c hz hg =
      let zs = flat (entry_faults p v tb) es in
      low_if p.Z (misplaced p v d z s) z (cond c (overfull p v d g) [] ++ cond b zs []) hz
      (all_append (λ x. ltb x p.Z) (cond c (overfull p v d g) []) (cond b zs [])
      ∙ and_both (all (λ x. ltb x p.Z) (cond c (overfull p v d g) [])) (all (λ x. ltb x p.Z) (cond b zs []))
      (over c hg)
      (low_cond p.Z b zs [] (low-flat p.Z (entry_faults p v tb) es (low_entry tb)) (low_none p.Z)))
    where
      over : (c : Bool) → (c ≡ true → ZonesLow p 0 g) → Low p.Z (cond c (overfull p v d g) [])
      over true h = low_over d g (h refl)
      over false h = low_none p.Z

-- ---- by the pointers' bytes

-- drive e's zone has no room for its footers, once the chunk is on drive d
unfoldable pub over_by : Params → List ℕ → ℕ → Seg → ℕ → Bool
over_by p ps d g e = ltb (capacity p) (pointer_of p ps e (zone_on g e) + cond (eqb e d) 1 0 + footers p)

-- the numbers of those that pass
kept_by : (f : ℕ → Bool) (g : ℕ → ℕ) (l : List ℕ) → map g (keep f l) ≡ flat (λ e. cons_if (f e) (g e) []) l
unfolding keep flat
kept_by f g [] = refl
kept_by f g (e ∷ l) = go (f e) (kept_by f g l)
  where
    go : (b : Bool) → map g (keep f l) ≡ flat (λ e. cons_if (f e) (g e) []) l → map g (cons_if b e (keep f l)) ≡ cons_if b (g e) [] ++ flat (λ e. cons_if (f e) (g e) []) l
    go true q = unfold cons_if in ap (λ (x : List ℕ). g e ∷ x) q
    go false q = unfold cons_if in q

module _ (p : Params) (off im ps : List ℕ) (h : length im ≡ image_len p) (g : length ps ≡ pointers_len p) where
  pub over_view : (d : ℕ) (k : Seg) → ZonesLow p 0 k → flat (λ e. cons_if (over_by p ps d k e) (zone_on k e) []) (below p.N) ≡ overfull p (view_of p off im ps) d k
  unfolding overfull drives_of over_by
  over_view d k hk =
      let f : ℕ → Bool = λ e. ltb (capacity p) (pointer_at (view_of p off im ps) e (zone_on k e) + cond (eqb e d) 1 0 + footers p) in
      flat_cong (λ e. cons_if (over_by p ps d k e) (zone_on k e) []) (λ e. cons_if (f e) (zone_on k e) []) (below p.N)
      (λ e m. let he = below_in p.N e m in ap (λ (x : ℕ). cons_if (ltb (capacity p) (x + cond (eqb e d) 1 0 + footers p)) (zone_on k e) [])
      (sym (pointer_view p off (mk_disk im ps) e (zone_on k e) he (low_here p k e hk he) (record { image_long = h; pointers_long = g }))))
      ∙ sym (kept_by f (zone_on k) (below p.N))

  -- the pointer is not at a data block of the stripe's group
  module _ (d z s : ℕ) (hd : d < p.N) (hz : z < p.Z) where
    abbrev wrong : ℕ → Bool
    wrong n = not (between 1 p.S n && eqb (group p (n - 1)) (group p s))

    misplaced_is : misplaced p (view_of p off im ps) d z s ≡ wrong (pointer_of p ps d z)
    unfolding misplaced
    misplaced_is = ap wrong (pointer_view p off (mk_disk im ps) d z hd hz (record { image_long = h; pointers_long = g }))

    pub misplaced-low : pointer_of p ps d z < 1 → true ≡ misplaced p (view_of p off im ps) d z s
    unfolding between
    misplaced-low l =
        let n = pointer_of p ps d z in
        sym (misplaced_is ∙ ap (λ (x : Bool). not (x && leb n p.S && eqb (group p (n - 1)) (group p s))) (lt-leb 1 n l))

    pub misplaced_high : 1 ≤ pointer_of p ps d z → p.S < pointer_of p ps d z → true ≡ misplaced p (view_of p off im ps) d z s
    unfolding between
    misplaced_high k l =
        let n = pointer_of p ps d z in
        let a : leb 1 n ≡ true = le-leb 1 n k in
        let b : leb n p.S ≡ false = lt-leb n p.S l in
        sym (misplaced_is ∙ (λ j. not (a j && b j && eqb (group p (n - 1)) (group p s))))

    pub misplaced_else : 1 ≤ pointer_of p ps d z → pointer_of p ps d z ≤ p.S → not (eqb (group p (pointer_of p ps d z - 1)) (group p s)) ≡ misplaced p (view_of p off im ps) d z s
    unfolding between
    misplaced_else k l =
        let n = pointer_of p ps d z in
        let a : leb 1 n ≡ true = le-leb 1 n k in
        let b : leb n p.S ≡ true = le-leb n p.S l in
        sym (misplaced_is ∙ (λ j. not (a j && b j && eqb (group p (n - 1)) (group p s))))

-- ---- the zone of an entry

module _ (p : Params) (v : View) (tb : List ℕ) (e : Rec) where
  pub entry_outside : p.L ≤ e.address → entry_faults p v tb e ≡ []
  unfolding entry_faults
  entry_outside h =
      let q = place_at_of tb e.address in
      ap (λ (x : Bool). cond x (cond (eqb q never_place) [] (place_faults p v 0 q)) []) (le-ltb e.address p.L h)

  pub entry_never : e.address < p.L → place_at_of tb e.address ≡ never_place → entry_faults p v tb e ≡ []
  unfolding entry_faults
  entry_never h f =
      let q = place_at_of tb e.address in
      let a : ltb e.address p.L ≡ true = lt-ltb e.address p.L h in
      let b : eqb q never_place ≡ true = eq-eqb q never_place f in
      (λ j. cond (a j) (cond (b j) [] (place_faults p v 0 q)) [])

  pub entry_placed : e.address < p.L → (place_at_of tb e.address ≡ never_place → ⊥) → entry_faults p v tb e ≡ place_faults p v 0 (place_at_of tb e.address)
  unfolding entry_faults
  entry_placed h f =
      let q = place_at_of tb e.address in
      let a : ltb e.address p.L ≡ true = lt-ltb e.address p.L h in
      let b : eqb q never_place ≡ false = ne_eqb q never_place f in
      λ j. cond (a j) (cond (b j) [] (place_faults p v 0 q)) []

-- ---- the numbers of a range one after the other, each with at most one bad zone

module _ (f : ℕ → List ℕ) where
  -- the bad zones from number k on
  abbrev pub faults_from : ℕ → ℕ → List ℕ
  faults_from k n = flat f (up_from k (n - k))

  pub faults_first : (w n : ℕ) → least w (faults_from 0 n) ≡ least w (flat f (below n))
  faults_first w n = ap (λ (x : List ℕ). least w (flat f x)) (sym (below-start n))

  faults_step : (k n : ℕ) → k < n → faults_from k n ≡ f k ++ faults_from (k + 1) n
  faults_step k n h = ap (flat f) (up_from_step k n h) ∙ flat-cons f k (up_from (k + 1) (n - (k + 1)))

  -- those of number k more
  pub faults_next : (w w' k n : ℕ) (l : List ℕ) → k < n → f k ≡ l → w' ≡ least w l → least w' (faults_from (k + 1) n) ≡ least w (faults_from k n)
  faults_next w w' k n l h e q =
      ap (λ (x : ℕ). least x (faults_from (k + 1) n)) q ∙ sym (least-append w l (faults_from (k + 1) n))
      ∙ sym (ap (least w) (faults_step k n h ∙ ap (λ (x : List ℕ). x ++ faults_from (k + 1) n) e))

  pub faults_end : (w k n : ℕ) → n ≤ k → least w (faults_from k n) ≡ w
  unfolding least flat
  faults_end w k n h = ap (λ (x : List ℕ). least w (flat f x)) (up_from_end k n h)

-- number k's zone, if it has one: lower than all so far, or not
module _ (Z : ℕ) (f : ℕ → List ℕ) where
  pub faults_lower : (w z k n : ℕ) → k < n → f k ≡ cons_if (ltb z Z) z [] → z < w → w ≤ Z → least z (faults_from f (k + 1) n) ≡ least w (faults_from f k n)
  faults_lower w z k n h e l g =
      sym (ap (least w) (faults_step f k n h ∙ ap (λ (x : List ℕ). x ++ faults_from f (k + 1) n) e) ∙ least_lower w z Z (faults_from f (k + 1) n) l g)

  pub faults_same : (w z k n : ℕ) → k < n → f k ≡ cons_if (ltb z Z) z [] → w ≤ z → least w (faults_from f (k + 1) n) ≡ least w (faults_from f k n)
  faults_same w z k n h e l =
      sym (ap (least w) (faults_step f k n h ∙ ap (λ (x : List ℕ). x ++ faults_from f (k + 1) n) e) ∙ least_same w z Z (faults_from f (k + 1) n) l)

-- the entries of a stripe
pub entries_by : (p : Params) (v : View) (tb : List ℕ) (st : State) (i : ℕ)
    → flat (λ k. entry_faults p v tb (entry_in_of st i k)) (below (filled_in_of st i)) ≡ flat (entry_faults p v tb) (entries_in st i)
unfolding entries_in
entries_by p v tb st i = sym (flat_map (entry_faults p v tb) (entry_in_of st i) (below (filled_in_of st i)))

-- ---- a zone or none

module _ (Z z : ℕ) (hz : z < Z) where
  pub bad_lowest : z ≡ least Z (cons_if true z [])
  unfolding least cons_if
  bad_lowest = omega arith

  pub fine_lowest : Z ≡ least Z (cons_if false z [])
  unfolding least cons_if
  fine_lowest = refl

  pub bad_named : cons_if true z [] ≡ cons_if (ltb z Z) z []
  bad_named = ap (λ (x : Bool). cons_if x z []) (sym (lt-ltb z Z hz))

pub nbad_named : (Z z : ℕ) → cons_if false z [] ≡ cons_if (ltb Z Z) Z []
unfolding cons_if
nbad_named Z z = sym (ap (λ (x : Bool). cons_if x Z []) (le-ltb Z Z (omega arith)))

-- ---- the open segment, then the entries

if_append : (a : Bool) (z : ℕ) (xs ys : List ℕ) → cons_if a z (xs ++ ys) ≡ cons_if a z xs ++ ys
unfolding cons_if
if_append true z xs ys = refl
if_append false z xs ys = refl

module _ (p : Params) (v : View) (tb : List ℕ) (es : List Rec) (d z : ℕ) (g : Seg) (s : ℕ) where
  -- the chunk's zone and the footers' ones
  abbrev pub open_faults : Bool → List ℕ
  open_faults c = cons_if (misplaced p v d z s) z (cond c (overfull p v d g) [])

  -- the segment is sealed
  pub faults_sealed : least (least p.Z (cons_if (misplaced p v d z s) z [])) (overfull p v d g) ≡ least p.Z (open_faults true)
  faults_sealed = sym (least-append p.Z (cons_if (misplaced p v d z s) z []) (overfull p v d g)) ∙ ap (least p.Z) (sym (if_append (misplaced p v d z s) z [] (overfull p v d g)))

  split : (b c : Bool) → open_faults c ++ cond b (flat (entry_faults p v tb) es) [] ≡ faults_of p v tb es d z g s b c
  unfolding faults_of
  split b c = sym (if_append (misplaced p v d z s) z (cond c (overfull p v d g) []) (cond b (flat (entry_faults p v tb) es) []))

  -- the stripe doesn't complete
  pub faults_part : (c : Bool) → least p.Z (open_faults c) ≡ least p.Z (faults_of p v tb es d z g s false c)
  faults_part c = ap (least p.Z) (sym (append-nil (open_faults c)) ∙ split false c)

  -- it completes
  pub faults_whole : (c : Bool) → least (least p.Z (open_faults c)) (flat (entry_faults p v tb) es) ≡ least p.Z (faults_of p v tb es d z g s true c)
  faults_whole c = sym (least-append p.Z (open_faults c) (flat (entry_faults p v tb) es)) ∙ ap (least p.Z) (split true c)

-- ---- they are those of the definition

module _ (p : Params) (v : View) (m : Memory) (d s : ℕ) where
  -- one has it; its zones beside that of drive d are asked where it is sealed
  pub land_faults_are : is_nil (open_segments p v m.state) ≡ false → (es : List Rec) (z : ℕ) (g : Seg) (b c : Bool) → es ≡ entries_in m.state (slot_of m.state s)
      → z ≡ zone_on (open_segment p v m.state) d → (c ≡ true → g ≡ open_segment p v m.state)
      → b ≡ completes p m.state (slot_of m.state s) d → c ≡ seals p m.state (slot_of m.state s) d
      → faults_of p v m.addresses es d z g s b c ≡ land_faults p v m d s
  unfolding faults_of land_faults cons_if
  land_faults_are o es z g b c e f k h l =
      let g₀ = open_segment p v m.state in
      let zs : List Rec → List ℕ = λ x. flat (entry_faults p v m.addresses) x in
      ap (λ (x : List ℕ). cons_if (misplaced p v d z s) z (x ++ cond b (zs es) [])) (same c k)
      ∙ (λ j. cons_if (misplaced p v d (f j) s) (f j) (cond (l j) (overfull p v d g₀) [] ++ cond (h j) (zs (e j)) []))
      ∙ ap (λ (x : Bool). cons_if x 0 (cons_if (misplaced p v d (zone_on g₀ d) s) (zone_on g₀ d)
      (cond (seals p m.state (slot_of m.state s) d) (overfull p v d g₀) [] ++ cond (completes p m.state (slot_of m.state s) d) (zs (entries_in m.state (slot_of m.state s))) [])))
      (sym o)
    where
      same : (c : Bool) → (c ≡ true → g ≡ open_segment p v m.state) → cond c (overfull p v d g) [] ≡ cond c (overfull p v d (open_segment p v m.state)) []
      same true q = ap (overfull p v d) (q refl)
      same false q = refl
