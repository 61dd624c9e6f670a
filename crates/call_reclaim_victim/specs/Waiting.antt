-- The first live block that is not in flight, place after place (01, Reclaim). Assumes nothing.
use Rattle.std.specs.Option.{option_or, is_some}
use Rattle.std.specs.Prelude.{Option, Some, None, option_map, unwrap_or, ℕ, suc, ◌+◌, ◌-◌, ◌*◌, min, ◌≤◌, ◌<◌, leb, ltb, eqb, length, Bool, not, ◌&&◌, ◌≡◌}
use Rattle.call_reclaim_live.specs.Live.{drive_low, in_seg, is_live_in, live_below, keep_nobody, live_more, keep_single, live_split}
use Rattle.spec.specs.Counts.{never_place}
use Rattle.spec.specs.Drives.{View, record_at}
use Rattle.spec.specs.Layout.{Rec}
use Rattle.spec.specs.Lists.{up_from, below, cons_if, keep, is_nil, least, first_or}
use Rattle.spec.specs.Memory.{holds}
use Rattle.spec.specs.Params.{between, in_range, capacity, place_block, place_zone, place_drive}
use Rattle.spec.specs.Reclaim.{flying}
use Rattle.spec.specs.Segments.{place_segment}
use Rattle.spec.specs.declared.Params.{Params}
use Rattle.spec.specs.declared.Place.{Place}
use Rattle.spec.specs.declared.Seg.{Seg}
use Rattle.spec.specs.declared.State.{State}
use Rattle.law_basic.specs.Ranges.{and_left, and_both, keep_append, map-append}
use Rattle.law_basic.specs.Geometry.{ranged}
use Rattle.law_drives.specs.Tests.{true_false, false_true}
use Rattle.law_drives.specs.Members.{In, keep_in, below_in, keep-nil_in}
use Rattle.disk_stored.specs.Places.{DataPlace, data_place}
use Rattle.mem_marks.specs.Marks.{is_marked, is_pointed, Marks}
use Rattle.call_reclaim_victim.specs.declared.Idle.{Idle}
use Rattle.std.proofs.Common.{le-leb, lt-ltb, le-ltb, eq-eqb, ne_eqb, inl, ◌∙◌, subst, arith}
use Rattle.std.proofs.lemmas.Bool.{lt-leb, not-true, not-false}
use Rattle.std.proofs.Math.Bool.{true, false, cond, and-false}
use mathlib.Core.List.{List, [], ◌∷◌, ◌++◌, map, append-nil}
use Rattle.std.proofs.Math.Path.{refl, sym, ap}
use Rattle.std.proofs.Math.Decide.{dec_lt}

-- 01, Reclaim: a live block that is no data block
unfoldable pub is_odd : Params → ℕ → Bool
is_odd p q = not (between 1 p.S (place_block p q))

-- the number of a place, if there is one
abbrev pub place_number : Option Place → Option ℕ
place_number = option_map (λ q. q.0)

-- the first of a list, if there is one
unfoldable pub foremost : List ℕ → Option ℕ
foremost [] = None
foremost (x ∷ l) = Some x

pub number_or : (a : Option Place) (q : Place) → place_number (option_or a (Some q)) ≡ option_or (place_number a) (Some q.0)
number_or None q = refl
number_or (Some x) q = refl

-- there is one: it stays
pub number_kept : (a : Option Place) (x : Option ℕ) → is_some a ≡ true → place_number a ≡ option_or (place_number a) x
number_kept None x e = false_true e
number_kept (Some q) x e = refl

-- there is none: it is the other
pub number_other : (a : Option Place) (x : Option ℕ) → is_some a ≡ false → option_or (place_number a) x ≡ x
number_other None x e = refl
number_other (Some q) x e = true_false e

pub number_absent : (a : Option Place) → is_some a ≡ false → place_number a ≡ None
number_absent None e = refl
number_absent (Some q) e = true_false e

-- the first place, or the second where the first is never written
unfoldable pub or_else : ℕ → ℕ → ℕ
or_else a b = cond (eqb a never_place) b a

-- the least of a list, if there is one
unfoldable pub lowest : List ℕ → Option ℕ
lowest [] = None
lowest (x ∷ l) = Some (least x l)

-- 01, Reclaim: a data block of segment h is in flight while a stripe in flight holds its address with its stamp
unfoldable pub flying_in : Params → View → State → Seg → ℕ → Bool
flying_in p v st h q =
    let r = record_at p v 0 (place_drive p q) h (place_block p q - 1) in
    between 1 p.S (place_block p q) && holds st r.address r.stamp

-- 01, Refusals, 9: the lowest zone with one of these places that is no data block, if there is one
unfoldable pub odd_zone : Params → List ℕ → Option ℕ
odd_zone p l = lowest (map (place_zone p) (keep (is_odd p) l))

-- what a live block q of segment h makes of i
pub record IdleStepped (p : Params) (v : View) (st : State) (h : Seg) (i : Idle) (q : ℕ) (r : Idle) : Type 0 where
  pub first : place_number r.first ≡ option_or (place_number i.first) (cond (flying_in p v st h q) None (Some q))
  pub odd : r.odd ≡ cond (is_odd p q) (Some (min (unwrap_or i.odd (place_zone p q)) (place_zone p q))) i.odd

-- what r says of the live blocks of segment h below place n: the first that is not in flight, and the lowest zone with one that is no data block
pub record IdleBelow (p : Params) (v : View) (st : State) (h : Seg) (tb : List ℕ) (n : ℕ) (r : Idle) : Type 0 where
  pub first : place_number r.first ≡ foremost (keep (λ q. not (flying_in p v st h q)) (live_below p tb (in_seg p h) n))
  pub odd : r.odd ≡ odd_zone p (live_below p tb (in_seg p h) n)

-- ---- the first of a list

first_append : (l : List ℕ) (b : Bool) (q : ℕ) → foremost (l ++ cons_if (not b) q []) ≡ option_or (foremost l) (cond b None (Some q))
unfolding foremost cons_if
first_append [] true q = refl
first_append [] false q = refl
first_append (x ∷ l) b q = refl

-- there is none just in a list of nothing
pub foremost_none : (l : List ℕ) → foremost l ≡ None → is_nil l ≡ true
unfolding foremost is_nil
foremost_none [] e = refl
foremost_none (x ∷ l) e = let q : x ≡ x + 1 = ap (λ (o : Option ℕ). unwrap_or o (x + 1)) e in absurd (let z : ⊥ = omega (arith, q) in z)

pub foremost_some : (l : List ℕ) (q : ℕ) → foremost l ≡ Some q → (is_nil l ≡ false) × (first_or 0 l ≡ q) × In q l
unfolding foremost is_nil first_or
foremost_some [] q e = let k : q + 1 ≡ q = ap (λ (o : Option ℕ). unwrap_or o (q + 1)) e in absurd (let z : ⊥ = omega (arith, k) in z)
foremost_some (x ∷ l) q e = let k : x ≡ q = ap (λ (o : Option ℕ). unwrap_or o 0) e in (refl, k, inl (sym k))

-- a first one, so a list of something
pub foremost_held : (l : List ℕ) (a : Option Place) → place_number a ≡ foremost l → is_some a ≡ true → is_nil l ≡ false
foremost_held l None e h = false_true h
foremost_held l (Some q) e h = (foremost_some l q.0 (sym e)).0

-- the same where a place that is never written stands for none
pub else_first : (a b : ℕ) → a ≡ never_place → or_else a b ≡ b
unfolding or_else
else_first a b e = ap (λ (x : Bool). cond x b a) (eq-eqb a never_place e)

pub else_kept : (a b : ℕ) → (a ≡ never_place → ⊥) → or_else a b ≡ a
unfolding or_else
else_kept a b n = ap (λ (x : Bool). cond x b a) (ne_eqb a never_place n)

cons-nil : (x : ℕ) (l : List ℕ) → ◌≡◌ {A = List ℕ} (x ∷ l) [] → ⊥
cons-nil x l e = let q : suc (length l) ≡ 0 = ap length e in omega (arith, q)

pub nil_first : (l : List ℕ) → (first_or never_place l ≡ never_place → l ≡ []) → is_nil l ≡ eqb (first_or never_place l) never_place
unfolding first_or is_nil
nil_first [] h = refl
nil_first (x ∷ l) h = sym (ne_eqb x never_place (λ e. cons-nil x l (h e)))

-- of numbers below d, the first is d just if there is none
pub none_first : (l : List ℕ) (d : ℕ) → ((a : ℕ) → In a l → a < d) → first_or d l ≡ d → l ≡ []
unfolding first_or
none_first [] d h e = refl
none_first (x ∷ l) d h e = absurd (let q : ⊥ = omega (arith, e, h x (inl refl)) in q)

-- and else it is one of them
pub waiting_some_first : (l : List ℕ) (d : ℕ) → (first_or d l ≡ d → ⊥) → In (first_or d l) l
unfolding first_or
waiting_some_first [] d n = absurd (n refl)
waiting_some_first (x ∷ l) d n = inl refl

-- ---- the lowest zone

least-snoc : (n : ℕ) (l : List ℕ) (z : ℕ) → least n (l ++ (z ∷ [])) ≡ min (least n l) z
unfolding least
least-snoc n [] z = refl
least-snoc n (k ∷ l) z = least-snoc (min n k) l z

lowest-snoc : (l : List ℕ) (z : ℕ) → lowest (l ++ (z ∷ [])) ≡ Some (min (unwrap_or (lowest l) z) z)
unfolding lowest least
lowest-snoc [] z = ap Some (let e : z ≡ min z z = omega arith in e)
lowest-snoc (k ∷ l) z = ap Some (least-snoc k l z)

lowest-nil : (f : ℕ → ℕ) (l : List ℕ) → lowest (map f l) ≡ None → l ≡ []
unfolding lowest
lowest-nil f [] e = refl
lowest-nil f (a ∷ l) e =
    let x : ℕ = least (f a) (map f l) in
    let q : x ≡ x + 1 = ap (λ (o : Option ℕ). unwrap_or o (x + 1)) e in absurd (let z : ⊥ = omega (arith, q) in z)

module _ (p : Params) where
  pub odd_nobody : odd_zone p [] ≡ None
  unfolding odd_zone keep lowest
  odd_nobody = refl

  pub odd_more : (l : List ℕ) (q : ℕ) → odd_zone p (l ++ (q ∷ [])) ≡ cond (is_odd p q) (Some (min (unwrap_or (odd_zone p l) (place_zone p q)) (place_zone p q))) (odd_zone p l)
  unfolding odd_zone
  odd_more l q =
      ap (λ (x : List ℕ). lowest (map (place_zone p) x)) (keep_append (is_odd p) l (q ∷ []) ∙ ap (λ (x : List ℕ). keep (is_odd p) l ++ x) (keep_single (is_odd p) q))
      ∙ go (is_odd p q)
    where
      zones! : List ℕ
      zones! = map (place_zone p) (keep (is_odd p) l)

      go : (b : Bool) → lowest (map (place_zone p) (keep (is_odd p) l ++ cons_if b q [])) ≡ cond b (Some (min (unwrap_or (lowest zones!) (place_zone p q)) (place_zone p q))) (lowest zones!)
      go true = unfold cons_if in ap lowest (map-append (place_zone p) (keep (is_odd p) l) (q ∷ [])) ∙ lowest-snoc zones! (place_zone p q)
      go false = unfold cons_if in ap (λ (x : List ℕ). lowest (map (place_zone p) x)) (append-nil (keep (is_odd p) l))

  -- there is none
  pub odd_nil : (l : List ℕ) → odd_zone p l ≡ None → keep (is_odd p) l ≡ []
  unfolding odd_zone
  odd_nil l e = lowest-nil (place_zone p) (keep (is_odd p) l) e

-- ---- from place to place

module _ (p : Params) (v : View) (st : State) (h : Seg) (tb : List ℕ) where
  abbrev free : ℕ → Bool
  free q = not (flying_in p v st h q)

  abbrev live : ℕ → List ℕ
  live n = live_below p tb (in_seg p h) n

  -- a live block
  pub waiting_live_in : (n q : ℕ) → In q (live n) → (q < n) × (in_seg p h q ≡ true)
  unfolding live_below is_live_in
  waiting_live_in n q m =
      let (i, e) = keep_in (is_live_in p tb (in_seg p h)) (below n) q m in
      (below_in n q i, and_left (in_seg p h q) (is_pointed tb p.L q) e)

  pub waiting-nil : (n : ℕ) → n ≤ never_place → first_or never_place (keep free (live n)) ≡ never_place → keep free (live n) ≡ []
  waiting-nil n k e = none_first (keep free (live n)) never_place (λ q m. omega (arith, k, (waiting_live_in n q (keep_in free (live n) q m).0).0)) e

  -- where there is one: a live block of the segment
  pub waiting-found : (n q : ℕ) → foremost (keep free (live n)) ≡ Some q → (q < n) × (in_seg p h q ≡ true) × (odd_zone p (live n) ≡ None → is_odd p q ≡ false)
  waiting-found n q e =
      let m : In q (live n) = (keep_in free (live n) q (foremost_some (keep free (live n)) q e).2).0 in
      let t = waiting_live_in n q m in
      (t.0, t.1, λ o. keep-nil_in (is_odd p) (live n) (odd_nil p (live n) o) q m)

  pub waiting_none : IdleBelow p v st h tb 0 (record { first = None; odd = None })
  unfolding live_below below up_from keep foremost
  waiting_none = record { first = refl; odd = sym (odd_nobody p) }

  pub waiting_skip : (a b : ℕ) (r : Idle) → a ≤ b → ((q : ℕ) → a ≤ q → q < b → is_live_in p tb (in_seg p h) q ≡ false) → IdleBelow p v st h tb a r → IdleBelow p v st h tb b r
  waiting_skip a b r k miss w =
      let e : live b ≡ live a =
      live_split p tb (in_seg p h) a b k ∙ ap (λ (x : List ℕ). live a ++ x) (keep_nobody (is_live_in p tb (in_seg p h)) a (b - a) (λ q x y. miss q x (omega arith))) ∙ append-nil (live a) in
      record { first = w.first ∙ ap (λ (l : List ℕ). foremost (keep free l)) (sym e); odd = w.odd ∙ ap (odd_zone p) (sym e) }

  pub waiting-step : (q : ℕ) (i r : Idle) → is_live_in p tb (in_seg p h) q ≡ true → IdleBelow p v st h tb q i → IdleStepped p v st h i q r
      → IdleBelow p v st h tb (q + 1) r
  waiting-step q i r e w s =
      let a : List ℕ = live q in
      let m : live (q + 1) ≡ a ++ (q ∷ []) = live_more p tb (in_seg p h) q e in
      record {
        first = s.first ∙ ap (λ (x : Option ℕ). option_or x (cond (flying_in p v st h q) None (Some q))) w.first
            ∙ sym (first_append (keep free a) (flying_in p v st h q) q)
            ∙ ap foremost (sym (ap (keep free) m ∙ keep_append free a (q ∷ []) ∙ ap (λ (x : List ℕ). keep free a ++ x) (keep_single free q)));
        odd = s.odd ∙ ap (λ (x : Option ℕ). cond (is_odd p q) (Some (min (unwrap_or x (place_zone p q)) (place_zone p q))) x) w.odd ∙ sym (ap (odd_zone p) m ∙ odd_more p a q);
      }

-- ---- one block

pub odd_low : (p : Params) (q : ℕ) → place_block p q < 1 → is_odd p q ≡ true
unfolding is_odd between
odd_low p q h = ap (λ (x : Bool). not (x && leb (place_block p q) p.S)) (lt-leb 1 (place_block p q) h)

pub odd_high : (p : Params) (q : ℕ) → 1 ≤ place_block p q → is_odd p q ≡ ltb p.S (place_block p q)
unfolding is_odd between
odd_high p q h = ap (λ (x : Bool). not (x && leb (place_block p q) p.S)) (le-leb 1 (place_block p q) h) ∙ go (dec_lt p.S (place_block p q))
  where
    go : Dec (p.S < place_block p q) → not (leb (place_block p q) p.S) ≡ ltb p.S (place_block p q)
    go (yes l) = ap not (lt-leb (place_block p q) p.S l) ∙ sym (lt-ltb p.S (place_block p q) l)
    go (no l) = ap not (le-leb (place_block p q) p.S (omega arith)) ∙ sym (le-ltb p.S (place_block p q) (omega arith))

-- 01, What a zone holds: blocks 1 to S hold data
pub data_block : (p : Params) (q : ℕ) → is_odd p q ≡ false → between 1 p.S (place_block p q) ≡ true
unfolding is_odd
data_block p q e = not-false (between 1 p.S (place_block p q)) e

pub data_there : (p : Params) (q : ℕ) → in_range p ≡ true → q < p.N * p.Z * capacity p → is_odd p q ≡ false → DataPlace p q
data_there p q ok h e = data_place p q (drive_low p (ranged p ok) q h) (data_block p q e)

pub odd_block : (p : Params) (q : ℕ) → is_odd p q ≡ true → between 1 p.S (place_block p q) ≡ false
unfolding is_odd
odd_block p q e = not-true (between 1 p.S (place_block p q)) e

-- 01, Reclaim: a data block, by its record
pub flying_is : (p : Params) (v : View) (st : State) (h : Seg) (q : ℕ) (r : Rec) → is_odd p q ≡ false → r ≡ record_at p v 0 (place_drive p q) h (place_block p q - 1)
    → holds st r.address r.stamp ≡ flying_in p v st h q
unfolding flying_in
flying_is p v st h q r o e =
    let x : Rec = record_at p v 0 (place_drive p q) h (place_block p q - 1) in
    (λ j. holds st (e j).address (e j).stamp) ∙ ap (λ (b : Bool). b && holds st x.address x.stamp) (sym (data_block p q o))

-- the same of its own segment
pub flying_in_lem : (p : Params) (v : View) (st : State) (h : Seg) (q : ℕ) → place_segment p v 0 q ≡ h → flying p v st q ≡ flying_in p v st h q
unfolding flying flying_in
flying_in_lem p v st h q e = ap (λ (g : Seg). flying_in p v st g q) e

module _ (p : Params) (v : View) (st : State) (h : Seg) (i : Idle) (q : ℕ) where
  not_flying : is_odd p q ≡ true → flying_in p v st h q ≡ false
  unfolding flying_in
  not_flying o =
      let x : Rec = record_at p v 0 (place_drive p q) h (place_block p q - 1) in
      ap (λ (b : Bool). b && holds st x.address x.stamp) (odd_block p q o)

  same_odd : is_odd p q ≡ false → i.odd ≡ cond (is_odd p q) (Some (min (unwrap_or i.odd (place_zone p q)) (place_zone p q))) i.odd
  same_odd o = sym (ap (λ (b : Bool). cond b (Some (min (unwrap_or i.odd (place_zone p q)) (place_zone p q))) i.odd) o)

  -- a header or footer block
  pub step_odd : is_odd p q ≡ true → (r : Idle) → place_number r.first ≡ option_or (place_number i.first) (Some q)
      → r.odd ≡ Some (min (unwrap_or i.odd (place_zone p q)) (place_zone p q)) → IdleStepped p v st h i q r
  step_odd o r e f = record {
    first = e ∙ ap (λ (x : Bool). option_or (place_number i.first) (cond x None (Some q))) (sym (not_flying o));
    odd = f ∙ sym (ap (λ (b : Bool). cond b (Some (min (unwrap_or i.odd (place_zone p q)) (place_zone p q))) i.odd) o);
  }

  -- a data block
  pub step_even : is_odd p q ≡ false → (r : Idle) → place_number r.first ≡ option_or (place_number i.first) (cond (flying_in p v st h q) None (Some q)) → r.odd ≡ i.odd
      → IdleStepped p v st h i q r
  step_even o r e f = record { first = e; odd = f ∙ same_odd o }

  module _ (o : is_odd p q ≡ false) where
    -- there is one already
    pub step_kept : is_some i.first ≡ true → IdleStepped p v st h i q i
    step_kept n = step_even o i (number_kept i.first (cond (flying_in p v st h q) None (Some q)) n) refl

    -- it is in flight
    pub step-flying : is_some i.first ≡ false → flying_in p v st h q ≡ true → IdleStepped p v st h i q i
    step-flying e f =
        step_even o i (number_absent i.first e ∙ sym (number_other i.first (cond (flying_in p v st h q) None (Some q)) e ∙ ap (λ (x : Bool). cond x None (Some q)) f)) refl

    -- it is the first
    pub step_new : is_some i.first ≡ false → flying_in p v st h q ≡ false → (r : Idle) → place_number r.first ≡ Some q → r.odd ≡ i.odd → IdleStepped p v st h i q r
    step_new e f r a b =
        step_even o r (a ∙ sym (number_other i.first (cond (flying_in p v st h q) None (Some q)) e ∙ ap (λ (x : Bool). cond x None (Some q)) f)) b

-- ---- a zone by its marks

module _ (p : Params) (v : View) (st : State) (h : Seg) (tb : List ℕ) where
  -- another segment's zone
  pub run_other : (a b : ℕ) (r : Idle) → a ≤ b → ((q : ℕ) → a ≤ q → q < b → in_seg p h q ≡ false) → IdleBelow p v st h tb a r → IdleBelow p v st h tb b r
  unfolding is_live_in
  run_other a b r k miss w = waiting_skip p v st h tb a b r k (λ q x y. ap (λ (z : Bool). z && is_pointed tb p.L q) (miss q x y)) w

  module _ (ms : List ℕ) (first hi : ℕ) (told : Marks tb p.L ms first hi) where
    -- none marked
    pub run_skip : (a b : ℕ) (r : Idle) → first ≤ a → a ≤ b → b ≤ hi → ((j : ℕ) → a - first ≤ j → j < b - first → is_marked ms j ≡ false)
        → IdleBelow p v st h tb a r → IdleBelow p v st h tb b r
    unfolding is_live_in
    run_skip a b r low mid high miss w = waiting_skip p v st h tb a b r mid (λ q x y.
        ap (λ (z : Bool). in_seg p h q && z) (sym (told q (omega arith) (omega arith)) ∙ miss (q - first) (omega arith) (omega arith)) ∙ and-false (in_seg p h q)) w

    -- one marked
    pub idle-step : (q : ℕ) (i r : Idle) → first ≤ q → q < hi → in_seg p h q ≡ true → is_marked ms (q - first) ≡ true
        → IdleBelow p v st h tb q i → IdleStepped p v st h i q r → IdleBelow p v st h tb (q + 1) r
    unfolding is_live_in
    idle-step q i r low high z m w s =
        waiting-step p v st h tb q i r (and_both (in_seg p h q) (is_pointed tb p.L q) z (sym (told q low high) ∙ m)) w s

-- the same place
pub waiting-at : (p : Params) (v : View) (st : State) (h : Seg) (tb : List ℕ) (a b : ℕ) (r : Idle) → a ≡ b → IdleBelow p v st h tb a r → IdleBelow p v st h tb b r
waiting-at p v st h tb a b r e w = subst (λ (x : ℕ). IdleBelow p v st h tb x r) e w
