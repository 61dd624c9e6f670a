-- What is wrong with records: of a part of them, of one more, of all groups (01, Refusals, 9). Assumes nothing.
use Rattle.std.specs.Prelude.{◌≡◌, refl, List, [], ◌∷◌, ◌++◌, Bool, true, false, not, ◌&&◌, ◌||◌, ℕ, zero, suc, ◌+◌, ◌-◌, ◌*◌}
use Rattle.std.specs.Prelude.{◌/◌, min, ◌≤◌, ◌<◌, ltb, eqb, length, get_or, take, drop}
use Rattle.std.proofs.Common.{sym, ap, ◌∙◌, subst, append-nil, add-zero, suc-mul, arith, length-take, length-drop, take-append-drop, drop_of_length-le, length-take-le, drop-drop}
use Rattle.std.proofs.Math.Decide.{dec_le}
use borrow.Author.Tests.{le-leb, lt-leb, lt-ltb, le-ltb, eq-eqb, ne_eqb, ltb-true, eqb-true}
use Rattle.spec.specs.declared.Params.{Params}
use Rattle.spec.specs.Counts.{padding_address}
use Rattle.spec.specs.Faults.{outside, twice, stripe_fault, bad_rec, stored_bad, decoded_bad, address_fault}
use Rattle.spec.specs.Layout.{group, in_group_of, Rec, mk_rec}
use Rattle.spec.specs.Lists.{any}
use Rattle.spec.specs.Params.{present, absent}
use Rattle.spec.specs.Segments.{Segment, recs_on, counted}
use Rattle.law_basic.specs.Ranges.{and_left, and_right, not_both, any_append, any_same}
use Rattle.law_drives.specs.Accept.{outside_in}
use Rattle.law_drives.specs.Members.{none_in, in_none, any_in, in_any, get_d_in}
use Rattle.law_drives.specs.Tests.{or_first, or_right, or_neither, same_test}
use Rattle.recover_groups.specs.Bases.{group_len_whole, group_len_last, group_of, group_back, bases_step, bases_end}
use Rattle.recover_groups.specs.Groups.{group_len, bases_from, group_recs, recs_bad, group_fault, recs_fault}

-- ---- tests

or_four : (a b c d : Bool) → (a || b) || (c || d) ≡ (a || c) || (b || d)
or_four true b c d = refl
or_four false true true d = refl
or_four false true false d = refl
or_four false false true d = refl
or_four false false false d = refl

or_five : (a b c d e : Bool) → (a || b) || (c || (d || e)) ≡ (a || c) || (d || (b || e))
or_five true b c d e = refl
or_five false true true d e = refl
or_five false true false true e = refl
or_five false true false false e = refl
or_five false false c d e = refl

or_bad : (o₁ o₂ t₁ t₂ x b₁ b₂ : Bool) → (o₁ ≡ false → o₂ ≡ false → x ≡ false)
    → (o₁ || o₂) || (t₁ || (t₂ || x)) || (b₁ || b₂) ≡ (o₁ || t₁ || b₁) || (o₂ || t₂ || b₂)
or_bad true o₂ t₁ t₂ x b₁ b₂ h = refl
or_bad false true true t₂ x b₁ b₂ h = refl
or_bad false true false t₂ x true b₂ h = refl
or_bad false true false t₂ x false b₂ h = refl
or_bad false false true t₂ x b₁ b₂ h = refl
or_bad false false false true x true b₂ h = refl
or_bad false false false true x false b₂ h = refl
or_bad false false false false x b₁ b₂ h = ap (λ (y : Bool). y || (b₁ || b₂)) (h refl refl)

pub any_or : {A : Type 0} (f g : A → Bool) (l : List A) → any (λ (a : A). f a || g a) l ≡ (any f l || any g l)
unfolding any
any_or f g [] = refl
any_or f g (a ∷ l) = ap (λ (x : Bool). (f a || g a) || x) (any_or f g l) ∙ or_four (f a) (g a) (any f l) (any g l)

pub any_swap : {A B : Type 0} (f : A → B → Bool) (xs : List A) (ys : List B)
    → any (λ (a : A). any (f a) ys) xs ≡ any (λ (b : B). any (λ (a : A). f a b) xs) ys
any_swap {A} {B} f xs ys =
    same_test (any (λ (a : A). any (f a) ys) xs) (any (λ (b : B). any (λ (a : A). f a b) xs) ys)
    (λ t.
    let (a, m, u) = any_in (λ (a : A). any (f a) ys) xs t in
    let (b, n, w) = any_in (f a) ys u in
    in_any (λ (b : B). any (λ (a : A). f a b) xs) ys b n (in_any (λ (a : A). f a b) xs a m w))
    (λ t.
    let (b, n, u) = any_in (λ (b : B). any (λ (a : A). f a b) xs) ys t in
    let (a, m, w) = any_in (λ (a : A). f a b) xs u in
    in_any (λ (a : A). any (f a) ys) xs a m (in_any (f a) ys b n w))

-- 01, Refusals, 9: a bad record, by the tests of its address and stamp
pub bad_low : (p : Params) (r : Rec) → r.address < p.L → bad_rec p r ≡ eqb r.stamp 0
unfolding bad_rec
bad_low p r h = λ j. (lt-leb p.L r.address h j && not (eqb r.address padding_address)) || (lt-ltb r.address p.L h j && eqb r.stamp 0)

pub bad_high : (p : Params) (r : Rec) → p.L ≤ r.address → bad_rec p r ≡ not (eqb r.address padding_address)
unfolding bad_rec
bad_high p r h =
    (λ j. (le-leb p.L r.address h j && not (eqb r.address padding_address)) || (le-ltb r.address p.L h j && eqb r.stamp 0))
    ∙ or_no (not (eqb r.address padding_address))
  where
    or_no : (b : Bool) → b || false ≡ b
    or_no true = refl
    or_no false = refl

-- ---- records one after the other

outside-append : (p : Params) (o : ℕ) (xs ys : List Rec) → outside p o (xs ++ ys) ≡ (outside p o xs || outside p (o + length xs) ys)
unfolding outside
outside-append p o [] ys = ap (λ (n : ℕ). outside p n ys) (sym (add-zero o))
outside-append p o (x ∷ xs) ys =
    ap (λ (b : Bool). not (in_group_of p o x.stripe) || b) (outside-append p (suc o) xs ys
    ∙ ap (λ (n : ℕ). outside p (suc o) xs || outside p n ys) (let e : suc o + length xs ≡ o + suc (length xs) = omega arith in e))
    ∙ or_assoc (not (in_group_of p o x.stripe)) (outside p (suc o) xs) (outside p (o + suc (length xs)) ys)
  where
    or_assoc : (a b c : Bool) → a || (b || c) ≡ (a || b) || c
    or_assoc true b c = refl
    or_assoc false b c = refl

-- a stripe of xs among those of ys
abbrev cross : List Rec → List Rec → Bool
cross xs ys = any (λ (x : Rec). any (λ (y : Rec). eqb y.stripe x.stripe) ys) xs

twice-append : (xs ys : List Rec) → twice (xs ++ ys) ≡ (twice xs || (twice ys || cross xs ys))
unfolding twice any
twice-append [] ys = sym (or_no (twice ys))
  where
    or_no : (b : Bool) → b || false ≡ b
    or_no true = refl
    or_no false = refl
twice-append (x ∷ xs) ys =
    let f : Rec → Bool = λ (y : Rec). eqb y.stripe x.stripe in
    (λ j. any_append f xs ys j || twice-append xs ys j)
    ∙ or_five (any f xs) (any f ys) (twice xs) (twice ys) (cross xs ys)

bad_append : (p : Params) (d o : ℕ) (xs ys : List Rec) → (outside p o xs ≡ false → outside p (o + length xs) ys ≡ false → cross xs ys ≡ false)
    → recs_bad p d o (xs ++ ys) ≡ (recs_bad p d o xs || recs_bad p d (o + length xs) ys)
unfolding recs_bad
bad_append p d o xs ys h =
    (λ j. outside-append p o xs ys j || twice-append xs ys j || any_append (stored_bad p d) xs ys j)
    ∙ or_bad (outside p o xs) (outside p (o + length xs) ys) (twice xs) (twice ys) (cross xs ys) (any (stored_bad p d) xs) (any (stored_bad p d) ys) h

-- ---- one more record

-- a fault of the first ones stays
pub bad_more : (p : Params) (d o : ℕ) (xs ys : List Rec) → recs_bad p d o xs ≡ true → recs_bad p d o (xs ++ ys) ≡ true
unfolding recs_bad
bad_more p d o xs ys t =
    (λ j. outside-append p o xs ys j || twice-append xs ys j || any_append (stored_bad p d) xs ys j)
    ∙ more (outside p o xs) (outside p (o + length xs) ys) (twice xs) (twice ys || cross xs ys) (any (stored_bad p d) xs) (any (stored_bad p d) ys) t
  where
    more : (o₁ o₂ t₁ t₂ b₁ b₂ : Bool) → (o₁ || t₁ || b₁) ≡ true → (o₁ || o₂) || (t₁ || t₂) || (b₁ || b₂) ≡ true
    more true o₂ t₁ t₂ b₁ b₂ h = refl
    more false true t₁ t₂ b₁ b₂ h = refl
    more false false true t₂ b₁ b₂ h = refl
    more false false false true b₁ b₂ h = refl
    more false false false false true b₂ h = refl
    more false false false false false b₂ h = absurd (not_both false h refl)

-- what is wrong with a record r at offset o behind records rs
unfoldable pub next_bad : Params → ℕ → ℕ → List Rec → Rec → Bool
next_bad p d o rs r = not (in_group_of p o r.stripe) || any (λ (q : Rec). eqb q.stripe r.stripe) rs || stored_bad p d r

pub bad_next : (p : Params) (d o : ℕ) (rs : List Rec) (r : Rec) → recs_bad p d o rs ≡ false
    → recs_bad p d o (rs ++ (r ∷ [])) ≡ next_bad p d (o + length rs) rs r
unfolding recs_bad next_bad outside twice any
bad_next p d o rs r t =
    (λ j. outside-append p o rs (r ∷ []) j || twice-append rs (r ∷ []) j || any_append (stored_bad p d) rs (r ∷ []) j)
    ∙ (λ j. ((three (outside p o rs) (twice rs) (any (stored_bad p d) rs) t).0 j || (not (in_group_of p (o + length rs) r.stripe) || false))
    || ((three (outside p o rs) (twice rs) (any (stored_bad p d) rs) t).1 j || (false || crossed j))
    || ((three (outside p o rs) (twice rs) (any (stored_bad p d) rs) t).2 j || (stored_bad p d r || false)))
    ∙ (λ j. or_no (not (in_group_of p (o + length rs) r.stripe)) j || any (λ (q : Rec). eqb q.stripe r.stripe) rs || or_no (stored_bad p d r) j)
  where
    or_no : (b : Bool) → b || false ≡ b
    or_no true = refl
    or_no false = refl

    three : (a b c : Bool) → (a || b || c) ≡ false → (a ≡ false) × (b ≡ false) × (c ≡ false)
    three true b c h = absurd (not_both true refl h)
    three false true c h = absurd (not_both true refl h)
    three false false true h = absurd (not_both true refl h)
    three false false false h = (refl, refl, refl)

    eqb_turn : (a b : ℕ) → eqb a b ≡ eqb b a
    eqb_turn a b = same_test (eqb a b) (eqb b a) (λ h. eq-eqb b a (sym (eqb-true a b h))) (λ h. eq-eqb a b (sym (eqb-true b a h)))

    crossed : cross rs (r ∷ []) ≡ any (λ (q : Rec). eqb q.stripe r.stripe) rs
    crossed = any_same (λ (x : Rec). any (λ (y : Rec). eqb y.stripe x.stripe) (r ∷ [])) (λ (q : Rec). eqb q.stripe r.stripe) rs
        (λ x. or_no (eqb r.stripe x.stripe) ∙ eqb_turn r.stripe x.stripe)

-- ---- records at their offsets

-- and so its stripe has the group's number
pub stripe_group : (p : Params) (o : ℕ) (rs : List Rec) → outside p o rs ≡ false → (i : ℕ) → i < length rs
    → ((get_or rs i (mk_rec 0 0 0)).stripe < p.S) × ((get_or rs i (mk_rec 0 0 0)).stripe / p.G ≡ (o + i) / p.G)
stripe_group p o rs h i l =
    let s = (get_or rs i (mk_rec 0 0 0)).stripe in
    let t : (ltb s p.S && eqb (s / p.G) ((o + i) / p.G)) ≡ true = unfold in_group_of group in outside_in p o rs h i l in
    (ltb-true s p.S (and_left (ltb s p.S) (eqb (s / p.G) ((o + i) / p.G)) t), eqb-true (s / p.G) ((o + i) / p.G) (and_right (ltb s p.S) (eqb (s / p.G) ((o + i) / p.G)) t))

-- records of different groups have different stripes
cross_none : (p : Params) (o n q : ℕ) (xs ys : List Rec) → outside p o xs ≡ false → outside p n ys ≡ false
    → ((i : ℕ) → i < length xs → (o + i) / p.G ≡ q) → ((i : ℕ) → i < length ys → (n + i) / p.G ≡ q → ⊥) → cross xs ys ≡ false
cross_none p o n q xs ys h k a b =
    in_none (λ (x : Rec). any (λ (y : Rec). eqb y.stripe x.stripe) ys) xs
    (λ x m. in_none (λ (y : Rec). eqb y.stripe x.stripe) ys
    (λ y w.
    let (i, l, e) = get_d_in xs (mk_rec 0 0 0) x m in
    let (j, r, f) = get_d_in ys (mk_rec 0 0 0) y w in
    ne_eqb y.stripe x.stripe
    (λ z. b j r (sym (stripe_group p n ys k j r).1
    ∙ ap (λ (u : Rec). u.stripe / p.G) (sym f)
    ∙ ap (λ (u : ℕ). u / p.G) z
    ∙ ap (λ (u : Rec). u.stripe / p.G) e
    ∙ (stripe_group p o xs h i l).1
    ∙ a i l))))

-- ---- the records of a group, and those behind it

pub no_recs_bad : (p : Params) (d o : ℕ) → recs_bad p d o [] ≡ false
unfolding recs_bad outside twice any
no_recs_bad p d o = refl

-- no fault in all of them: none in a part
pub good_part : (p : Params) (d base n : ℕ) (rs : List Rec) → recs_bad p d 0 rs ≡ false → recs_bad p d base (take n (drop base rs)) ≡ false
unfolding recs_bad
good_part p d base n rs h = go (dec_le base (length rs))
  where
    three : (a b c : Bool) → (a || b || c) ≡ false → (a ≡ false) × (b ≡ false) × (c ≡ false)
    three true b c h = absurd (not_both true refl h)
    three false true c h = absurd (not_both true refl h)
    three false false true h = absurd (not_both true refl h)
    three false false false h = (refl, refl, refl)

    go : Dec (base ≤ length rs) → recs_bad p d base (take n (drop base rs)) ≡ false
    go (no l) = ap (λ (x : List Rec). recs_bad p d base (take n x)) (drop_of_length-le rs {i = base} (omega arith)) ∙ ap (recs_bad p d base) (take-nil n) ∙ no_recs_bad p d base
      where
        take-nil : (k : ℕ) → ◌≡◌ {A = List Rec} (take k []) []
        take-nil zero = refl
        take-nil (suc k) = refl
    go (yes l) =
        let xs = take base rs in
        let ys = take n (drop base rs) in
        let zs = drop n (drop base rs) in
        let e : rs ≡ xs ++ (ys ++ zs) = sym (take-append-drop base rs) ∙ ap (λ (x : List Rec). xs ++ x) (sym (take-append-drop n (drop base rs))) in
        let f : (outside p 0 (xs ++ (ys ++ zs)) || twice (xs ++ (ys ++ zs)) || any (stored_bad p d) (xs ++ (ys ++ zs))) ≡ false = ap (recs_bad p d 0) (sym e) ∙ h in
        let t = three (outside p 0 (xs ++ (ys ++ zs))) (twice (xs ++ (ys ++ zs))) (any (stored_bad p d) (xs ++ (ys ++ zs))) f in
        let lb : length xs ≡ base = length-take-le base rs l in
        let o₁ = or_right (outside p 0 xs) (outside p (0 + length xs) (ys ++ zs)) (sym (outside-append p 0 xs (ys ++ zs)) ∙ t.0) in
        let o₂ = or_first (outside p (0 + length xs) ys) (outside p (0 + length xs + length ys) zs) (sym (outside-append p (0 + length xs) ys zs) ∙ o₁) in
        let t₁ = or_first (twice (ys ++ zs)) (cross xs (ys ++ zs)) (or_right (twice xs) (twice (ys ++ zs) || cross xs (ys ++ zs)) (sym (twice-append xs (ys ++ zs)) ∙ t.1)) in
        let t₂ = or_first (twice ys) (twice zs || cross ys zs) (sym (twice-append ys zs) ∙ t₁) in
        let b₁ = or_right (any (stored_bad p d) xs) (any (stored_bad p d) (ys ++ zs)) (sym (any_append (stored_bad p d) xs (ys ++ zs)) ∙ t.2) in
        let b₂ = or_first (any (stored_bad p d) ys) (any (stored_bad p d) zs) (sym (any_append (stored_bad p d) ys zs) ∙ b₁) in
        let o₃ : outside p base ys ≡ false = ap (λ (x : ℕ). outside p x ys) (let w : base ≡ 0 + length xs = omega (arith, lb) in w) ∙ o₂ in
        or_neither (outside p base ys || twice ys) (any (stored_bad p d) ys) (or_neither (outside p base ys) (twice ys) o₃ t₂) b₂

-- the records from base on are the group's and those behind it
split_group : (p : Params) (base : ℕ) (rs : List Rec) → base < p.S → length rs ≤ p.S → drop base rs ≡ group_recs p base rs ++ drop (base + p.G) rs
unfolding group_recs
split_group p base rs b l =
    sym (take-append-drop (group_len p base) (drop base rs)) ∙ ap (λ (x : List Rec). take (group_len p base) (drop base rs) ++ x) (go (dec_le (base + p.G) p.S))
  where
    go : Dec (base + p.G ≤ p.S) → drop (group_len p base) (drop base rs) ≡ drop (base + p.G) rs
    go (yes h) = drop-drop (group_len p base) base rs ∙ ap (λ (n : ℕ). drop n rs) (let w = group_len_whole p base h in let e : base + group_len p base ≡ base + p.G = omega (arith, w) in e)
    go (no h) =
        let e = group_len_last p base (omega arith) (omega arith) in
        drop-drop (group_len p base) base rs ∙ drop_of_length-le rs {i = base + group_len p base} (omega (arith, e)) ∙ sym (drop_of_length-le rs {i = base + p.G} (omega arith))

pub length-group : (p : Params) (base : ℕ) (rs : List Rec) → length (group_recs p base rs) ≡ min (group_len p base) (length rs - base)
unfolding group_recs
length-group p base rs = length-take (group_len p base) (drop base rs) ∙ ap (min (group_len p base)) (length-drop base rs)

group-step : (p : Params) (d q : ℕ) (rs : List Rec) → 0 < p.G → q * p.G < p.S → length rs ≤ p.S
    → recs_bad p d (q * p.G) (drop (q * p.G) rs) ≡ (recs_bad p d (q * p.G) (group_recs p (q * p.G) rs) || recs_bad p d (q * p.G + p.G) (drop (q * p.G + p.G) rs))
group-step p d q rs g b l = ap (recs_bad p d base) (split_group p base rs b l) ∙ go (dec_le (length rs) (base + p.G))
  where
    base : ℕ
    base = q * p.G

    xs : List Rec
    xs = group_recs p base rs

    ys : List Rec
    ys = drop (base + p.G) rs

    or_no : (x : Bool) → x || false ≡ x
    or_no true = refl
    or_no false = refl

    go : Dec (length rs ≤ base + p.G) → recs_bad p d base (xs ++ ys) ≡ (recs_bad p d base xs || recs_bad p d (base + p.G) ys)
    go (yes h) =
        let e : ys ≡ [] = drop_of_length-le rs h in
        ap (λ (x : List Rec). recs_bad p d base (xs ++ x)) e ∙ ap (recs_bad p d base) (append-nil xs)
        ∙ sym (ap (λ (x : List Rec). recs_bad p d base xs || recs_bad p d (base + p.G) x) e ∙ ap (λ (x : Bool). recs_bad p d base xs || x) (no_recs_bad p d (base + p.G))
        ∙ or_no (recs_bad p d base xs))
    go (no h) =
        let w : group_len p base ≡ p.G = group_len_whole p base (omega arith) in
        let n : length xs ≡ p.G = length-group p base rs ∙ (let m : min (group_len p base) (length rs - base) ≡ p.G = omega (arith, w) in m) in
        bad_append p d base xs ys
        (λ o₁ o₂. cross_none p base (base + length xs) q xs ys o₁ o₂ (λ i k. group_of p q (base + i) (omega arith) (omega (arith, k, n)))
        (λ i k z. let r = group_back p (base + length xs + i) g in let t : (base ≤ base + length xs + i)
        × (base + length xs + i < base + p.G) = subst (λ (x : ℕ). (x * p.G ≤ base + length xs + i) × (base + length xs + i < x * p.G + p.G)) z r
        in
        let y : ⊥ = omega (arith, t.1, n) in y))
        ∙ ap (λ (m : ℕ). recs_bad p d base xs || recs_bad p d (base + m) ys) n

-- 01, Refusals, 9: a fault of the records of a drive is one of a group
bad_groups : (p : Params) (d : ℕ) (rs : List Rec) → 0 < p.G → length rs ≤ p.S → (n q : ℕ) → p.S ≤ q * p.G + n
    → any (λ b. recs_bad p d b (group_recs p b rs)) (bases_from p (q * p.G)) ≡ recs_bad p d (q * p.G) (drop (q * p.G) rs)
unfolding any
bad_groups p d rs g l zero q h =
    ap (any (λ b. recs_bad p d b (group_recs p b rs))) (bases_end p (q * p.G) g (omega arith))
    ∙ sym (ap (recs_bad p d (q * p.G)) (drop_of_length-le rs {i = q * p.G} (omega arith)) ∙ no_recs_bad p d (q * p.G))
bad_groups p d rs g l (suc m) q h = go (dec_le p.S (q * p.G)) (bad_groups p d rs g l m (suc q))
  where
    go : Dec (p.S ≤ q * p.G) → (p.S ≤ suc q * p.G + m → any (λ b. recs_bad p d b (group_recs p b rs)) (bases_from p (suc q * p.G)) ≡ recs_bad p d (suc q * p.G) (drop (suc q * p.G) rs))
        → any (λ b. recs_bad p d b (group_recs p b rs)) (bases_from p (q * p.G)) ≡ recs_bad p d (q * p.G) (drop (q * p.G) rs)
    go (yes k) ih =
        ap (any (λ b. recs_bad p d b (group_recs p b rs))) (bases_end p (q * p.G) g k)
        ∙ sym (ap (recs_bad p d (q * p.G)) (drop_of_length-le rs {i = q * p.G} (omega arith)) ∙ no_recs_bad p d (q * p.G))
    go (no k) ih =
        let e : suc q * p.G ≡ q * p.G + p.G = suc-mul q p.G in
        ap (any (λ b. recs_bad p d b (group_recs p b rs))) (bases_step p (q * p.G) g (omega arith))
        ∙ ap (λ (x : Bool). recs_bad p d (q * p.G) (group_recs p (q * p.G) rs) || x)
        (subst (λ (x : ℕ). any (λ b. recs_bad p d b (group_recs p b rs)) (bases_from p x) ≡ recs_bad p d x (drop x rs)) e (ih (omega (arith, e))))
        ∙ sym (group-step p d q rs g (omega arith) l)

-- 01, Refusals, 9: of all groups and present drives
pub recs_fault_groups : (p : Params) (gone : ℕ) (g : Segment) → 0 < p.G → ((d : ℕ) → length (recs_on g d) ≤ p.S)
    → recs_fault p gone g ≡ any (group_fault p gone g) (bases_from p 0)
unfolding recs_fault group_fault
recs_fault_groups p gone g h l =
    any_same (λ d. recs_bad p d 0 (recs_on g d)) (λ d. any (λ b. recs_bad p d b (group_recs p b (recs_on g d))) (bases_from p 0)) (present p gone)
    (λ d. let e : 0 * p.G ≡ 0 = omega arith in
    sym (subst (λ (x : ℕ). any (λ b. recs_bad p d b (group_recs p b (recs_on g d))) (bases_from p x) ≡ recs_bad p d x (drop x (recs_on g d))) e
    (bad_groups p d (recs_on g d) h (l d) p.S 0 (omega arith))))
    ∙ any_swap (λ d b. recs_bad p d b (group_recs p b (recs_on g d))) (present p gone) (bases_from p 0)

pub recs_fault_is : (p : Params) (gone : ℕ) (g : Segment)
    → recs_fault p gone g ≡ (stripe_fault p gone g || any (λ d. any (stored_bad p d) (recs_on g d)) (present p gone))
unfolding recs_fault recs_bad stripe_fault
recs_fault_is p gone g = any_or (λ d. outside p 0 (recs_on g d) || twice (recs_on g d)) (λ d. any (stored_bad p d) (recs_on g d)) (present p gone)

pub no_recs_fault : (p : Params) (gone : ℕ) (g : Segment) → stripe_fault p gone g ≡ false → address_fault p gone g ≡ false → recs_fault p gone g ≡ false
unfolding address_fault
no_recs_fault p gone g h k =
    recs_fault_is p gone g
    ∙ or_neither (stripe_fault p gone g) (any (λ d. any (stored_bad p d) (recs_on g d)) (present p gone)) h
    (or_first (any (λ d. any (stored_bad p d) (recs_on g d)) (present p gone)) (any (λ d. any (decoded_bad p gone g d) (counted p gone g)) (absent p gone)) k)

-- no fault in the segment: none in the group
pub no_group_fault : (p : Params) (gone : ℕ) (g : Segment) (base : ℕ) → recs_fault p gone g ≡ false → group_fault p gone g base ≡ false
unfolding recs_fault group_fault group_recs
no_group_fault p gone g base h =
    in_none (λ d. recs_bad p d base (take (group_len p base) (drop base (recs_on g d)))) (present p gone)
    (λ d m. good_part p d base (group_len p base) (recs_on g d) (none_in (λ d. recs_bad p d 0 (recs_on g d)) (present p gone) h d m))
