-- The range check on the state's bytes (01, Refusals, 9): the numbers out of range are counted in each section; a count is 0 just where all
-- of a section are in range, and a sum of counts is 0 just where each of them is. Assumes nothing.
use Rattle.std.specs.Prelude.{◌≡◌, Bool, true, false, cond, map, List, [], ◌∷◌, ℕ, zero, suc, ◌+◌, ◌*◌, ◌^◌, ◌<◌, length, get_or}
use Rattle.std.proofs.Math.Path.{refl, sym, ap, ap₂}
use Rattle.std.proofs.Common.{◌∙◌, arith, add-zero, zero-add, le-leb, lt-ltb, le-ltb, ne_eqb}
use Rattle.std.proofs.Math.Bool.{not, ◌&&◌}
use Rattle.std.proofs.Math.Decide.{dec_lt}
use Rattle.std.proofs.lemmas.Bool.{lt-leb}
use Rattle.std.specs.Int.Count.{ones}
use Rattle.std.proofs.Math.Dec.{leb, ltb, eqb}
use Rattle.spec.specs.declared.Params.{Params}
use Rattle.spec.specs.declared.State.{State}
use Rattle.spec.specs.Bytes.{le_of, part}
use Rattle.spec.specs.Lists.{up_from, below, all, cons_if, keep, tally}
use Rattle.spec.specs.Memory.{mk_state, numbers_at, slot_count, slots, stripe_in, filled_in_of, landed_in, slot_ok_of, state_ok, state_of}
use Rattle.spec.specs.Params.{in_range, data_count}
use Rattle.mem_codec.specs.Codec.{state_read}
use Rattle.law_basic.specs.Geometry.{ranged}
use Rattle.law_basic.specs.Ranges.{Test, yes!, no!, test, tally-below_hit, tally-below_miss, all-below_same, get_d_map-below}

-- ---- counts

-- 1 where the number is not 1
unfoldable pub other : ℕ → ℕ
other x = cond (eqb x 1) 0 1

-- 1 where the number is not below the limit
unfoldable pub past : ℕ → ℕ → ℕ
past limit x = cond (leb limit x) 1 0

-- 1 where the number is above the most that it may be
unfoldable pub bounds_above : ℕ → ℕ → ℕ
bounds_above most x = cond (leb x most) 0 1

-- number k of w bytes from offset at on is not below the limit
unfoldable pub past_at : ℕ → ℕ → ℕ → List ℕ → ℕ → Bool
past_at w at limit bs k = leb limit (le_of (part (at + w * k) w bs))

-- how many of n numbers of w bytes from offset at on are not below the limit
unfoldable pub past_in : ℕ → ℕ → ℕ → ℕ → List ℕ → ℕ
past_in w n at limit bs = tally (past_at w at limit bs) (below n)

-- 01, Refusals, 9: how many of the numbers in front of the arrays are out of range
unfoldable pub front_past : Params → List ℕ → ℕ
front_past p bs =
    let gone = le_of (part 1 1 bs) in
    other (le_of (part 0 1 bs)) + past (2 ^ p.N) gone + past 2 (ones gone) + bounds_above (le_of (part 10 8 bs)) (le_of (part 18 8 bs)) + past (p.S + 1) (le_of (part 26 4 bs))

-- 01, Refusals, 9: how many of the numbers of the eighths are out of range
unfoldable pub slots_past : Params → List ℕ → ℕ
slots_past p bs =
    past_in 4 8 30 p.S bs + past_in 1 8 62 p.N bs + past_in 1 8 70 (2 ^ data_count p) bs + past_in 1 8 78 (2 ^ p.N) bs

-- ---- the loops: one number more

pub past_none : (w at limit : ℕ) (bs : List ℕ) → 0 ≡ past_in w 0 at limit bs
unfolding past_in tally below up_from keep
past_none w at limit bs = refl

pub past_one : (w at limit i : ℕ) (bs : List ℕ) (bad x : ℕ) → bad ≡ past_in w i at limit bs → x ≡ le_of (part (at + w * i) w bs)
    → bad + past limit x ≡ past_in w (i + 1) at limit bs
unfolding past_in past_at past
past_one w at limit i bs bad x e f = ap₂ (λ (a b : ℕ). a + cond (leb limit b) 1 0) e f ∙ go (test (leb limit y))
  where
    y : ℕ
    y = le_of (part (at + w * i) w bs)

    g : ℕ → Bool
    g k = leb limit (le_of (part (at + w * k) w bs))

    go : Test (leb limit y) → tally g (below i) + cond (leb limit y) 1 0 ≡ tally g (below (i + 1))
    go (yes! h) = ap (λ (b : Bool). tally g (below i) + cond b 1 0) h ∙ sym (tally-below_hit g i h)
    go (no! h) = ap (λ (b : Bool). tally g (below i) + cond b 1 0) h ∙ add-zero (tally g (below i)) ∙ sym (tally-below_miss g i h)

pub past_all : (w at limit i n : ℕ) (bs : List ℕ) (bad : ℕ) → bad ≡ past_in w i at limit bs → i ≡ n → bad ≡ past_in w n at limit bs
past_all w at limit i n bs bad e q = e ∙ ap (λ (k : ℕ). past_in w k at limit bs) q

-- ---- a count is 0

-- a sum is 0
zero_sum : (a b : ℕ) → eqb (a + b) 0 ≡ (eqb a 0 && eqb b 0)
zero_sum zero b = ap (λ (x : ℕ). eqb x 0) (zero-add b)
zero_sum (suc a) b =
    ne_eqb (suc a + b) 0 (λ e. let q : ⊥ = omega arith in q)
    ∙ sym (ap (λ (x : Bool). x && eqb b 0) (ne_eqb (suc a) 0 (λ e. let q : ⊥ = omega arith in q)))

-- tests the other way round
not_leb : (limit x : ℕ) → not (leb limit x) ≡ ltb x limit
not_leb limit x = go (dec_lt x limit)
  where
    go : Dec (x < limit) → not (leb limit x) ≡ ltb x limit
    go (yes h) = ap not (lt-leb limit x h) ∙ sym (lt-ltb x limit h)
    go (no h) = ap not (le-leb limit x (omega arith)) ∙ sym (le-ltb x limit (omega arith))

leb_ltb : (x n m : ℕ) → m ≡ n + 1 → ltb x m ≡ leb x n
leb_ltb x n m e = go (dec_lt x m)
  where
    go : Dec (x < m) → ltb x m ≡ leb x n
    go (yes h) = lt-ltb x m h ∙ sym (le-leb x n (omega arith))
    go (no h) = le-ltb x m (omega arith) ∙ sym (lt-leb x n (omega arith))

zero-other : (x : ℕ) → eqb (other x) 0 ≡ eqb x 1
unfolding other
zero-other x = go (eqb x 1)
  where
    go : (b : Bool) → eqb (cond b 0 1) 0 ≡ b
    go true = refl
    go false = refl

zero_above : (most x : ℕ) → eqb (bounds_above most x) 0 ≡ leb x most
unfolding bounds_above
zero_above most x = go (leb x most)
  where
    go : (b : Bool) → eqb (cond b 0 1) 0 ≡ b
    go true = refl
    go false = refl

zero-past : (limit x : ℕ) → eqb (past limit x) 0 ≡ ltb x limit
unfolding past
zero-past limit x = go (leb limit x) ∙ not_leb limit x
  where
    go : (b : Bool) → eqb (cond b 1 0) 0 ≡ not b
    go true = refl
    go false = refl

-- a tally is 0 where no element passes
zero-tally : (f : ℕ → Bool) (l : List ℕ) → eqb (tally f l) 0 ≡ all (λ (k : ℕ). not (f k)) l
unfolding tally keep cons_if all
zero-tally f [] = refl
zero-tally f (a ∷ l) = go (f a) (zero-tally f l)
  where
    go : (b : Bool) → eqb (length (keep f l)) 0 ≡ all (λ (k : ℕ). not (f k)) l
        → eqb (length (cons_if b a (keep f l))) 0 ≡ (not b && all (λ (k : ℕ). not (f k)) l)
    go true e = ne_eqb (suc (length (keep f l))) 0 (λ q. let z : ⊥ = omega arith in z)
    go false e = e

-- ---- a section

all_map : (f : ℕ → Bool) (h : ℕ → ℕ) (l : List ℕ) → all f (map h l) ≡ all (λ (k : ℕ). f (h k)) l
unfolding all
all_map f h [] = refl
all_map f h (a ∷ l) = ap (λ (x : Bool). f (h a) && x) (all_map f h l)

all_and : (f g : ℕ → Bool) (l : List ℕ) → all (λ (k : ℕ). f k && g k) l ≡ (all f l && all g l)
unfolding all
all_and f g [] = refl
all_and f g (a ∷ l) = ap (λ (x : Bool). (f a && g a) && x) (all_and f g l) ∙ go (f a) (g a) (all f l) (all g l)
  where
    go : (x y u v : Bool) → ((x && y) && (u && v)) ≡ ((x && u) && (y && v))
    go false y u v = refl
    go true false false v = refl
    go true false true v = refl
    go true true u v = refl

module _ (w n at limit : ℕ) (bs : List ℕ) where
  abbrev value : ℕ → ℕ
  value k = le_of (part (at + w * k) w bs)

  zero-section : eqb (past_in w n at limit bs) 0 ≡ all (λ (k : ℕ). ltb (value k) limit) (below n)
  unfolding past_in past_at
  zero-section =
      zero-tally (past_at w at limit bs) (below n)
      ∙ all-below_same (λ (k : ℕ). not (leb limit (value k))) (λ (k : ℕ). ltb (value k) limit) n (λ k h. not_leb limit (value k))

  -- by index, and by element
  zero_numbers : eqb (past_in w n at limit bs) 0 ≡ all (λ (k : ℕ). ltb (get_or (numbers_at w n at bs) k 0) limit) (below n)
  unfolding numbers_at
  zero_numbers =
      zero-section
      ∙ all-below_same (λ (k : ℕ). ltb (value k) limit) (λ (k : ℕ). ltb (get_or (numbers_at w n at bs) k 0) limit) n
      (λ k h. ap (λ (x : ℕ). ltb x limit) (sym (get_d_map-below value n k 0 h)))

  zero_elements : eqb (past_in w n at limit bs) 0 ≡ all (λ (o : ℕ). ltb o limit) (numbers_at w n at bs)
  unfolding numbers_at
  zero_elements = zero-section ∙ sym (all_map (λ (o : ℕ). ltb o limit) value (below n))

-- ---- the state

module _ (p : Params) (bs : List ℕ) (ok : in_range p ≡ true) where
  -- 01, The array: the state that the bytes say, field by field
  abbrev said : State
  said =
      mk_state (le_of (part 0 1 bs)) (le_of (part 1 1 bs)) (le_of (part 2 8 bs)) (le_of (part 10 8 bs)) (le_of (part 18 8 bs)) (le_of (part 26 4 bs))
      (numbers_at 4 8 30 bs) (numbers_at 1 8 62 bs) (numbers_at 1 8 70 bs) (numbers_at 1 8 78 bs) (numbers_at 8 64 86 bs) (numbers_at 8 64 598 bs) (numbers_at 4 64 1110 bs)

  most : p.N ≡ data_count p + 1
  unfolding data_count
  most = omega (arith, (ranged p ok).drives_low)

  -- the four tests of an eighth
  abbrev stripe_in_holds : ℕ → Bool
  stripe_in_holds i = ltb (get_or (numbers_at 4 8 30 bs) i 0) p.S

  abbrev filled_in : ℕ → Bool
  filled_in i = leb (get_or (numbers_at 1 8 62 bs) i 0) (data_count p)

  abbrev writes_in_holds : ℕ → Bool
  writes_in_holds i = ltb (get_or (numbers_at 1 8 70 bs) i 0) (2 ^ data_count p)

  abbrev landed_in_holds : ℕ → Bool
  landed_in_holds i = ltb (get_or (numbers_at 1 8 78 bs) i 0) (2 ^ p.N)

  slots_by_parts : all (slot_ok_of p said) slots ≡ (all stripe_in_holds (below 8) && all filled_in (below 8) && all writes_in_holds (below 8) && all landed_in_holds (below 8))
  unfolding slot_ok_of stripe_in filled_in_of landed_in slots slot_count
  slots_by_parts =
      all_and (λ (i : ℕ). stripe_in_holds i && filled_in i && writes_in_holds i) landed_in_holds (below 8)
      ∙ ap (λ (x : Bool). x && all landed_in_holds (below 8)) (all_and (λ (i : ℕ). stripe_in_holds i && filled_in i) writes_in_holds (below 8)
      ∙ ap (λ (x : Bool). x && all writes_in_holds (below 8)) (all_and stripe_in_holds filled_in (below 8)))

  slots-past_none : eqb (slots_past p bs) 0 ≡ all (slot_ok_of p said) slots
  unfolding slots_past
  slots-past_none =
      let a = past_in 4 8 30 p.S bs in
      let b = past_in 1 8 62 p.N bs in
      let c = past_in 1 8 70 (2 ^ data_count p) bs in
      let d = past_in 1 8 78 (2 ^ p.N) bs in
      let eb : eqb b 0 ≡ all filled_in (below 8) =
      zero_numbers 1 8 62 p.N bs
      ∙ all-below_same (λ (k : ℕ). ltb (get_or (numbers_at 1 8 62 bs) k 0) p.N) filled_in 8 (λ k h. leb_ltb (get_or (numbers_at 1 8 62 bs) k 0) (data_count p) p.N most) in
      zero_sum (a + b + c) d
      ∙ ap₂ ◌&&◌ (zero_sum (a + b) c ∙ ap₂ ◌&&◌ (zero_sum a b ∙ ap₂ ◌&&◌ (zero_numbers 4 8 30 p.S bs) eb) (zero_numbers 1 8 70 (2 ^ data_count p) bs))
      (zero_numbers 1 8 78 (2 ^ p.N) bs) ∙ sym slots_by_parts

  front_in : eqb (front_past p bs) 0
      ≡ (eqb said.live 1 && ltb said.missing (2 ^ p.N) && leb (ones said.missing) 1 && leb said.opened said.serial.0 && leb said.next p.S)
  unfolding front_past
  front_in =
      let gone = le_of (part 1 1 bs) in
      let serial = le_of (part 10 8 bs) in
      let opened = le_of (part 18 8 bs) in
      let next = le_of (part 26 4 bs) in
      let a = other (le_of (part 0 1 bs)) in
      let b = past (2 ^ p.N) gone in
      let c = past 2 (ones gone) in
      let d = bounds_above serial opened in
      let ec : eqb c 0 ≡ leb (ones gone) 1 = zero-past 2 (ones gone) ∙ leb_ltb (ones gone) 1 2 refl in
      let ed : eqb d 0 ≡ leb opened serial = zero_above serial opened in
      let ee : eqb (past (p.S + 1) next) 0 ≡ leb next p.S = zero-past (p.S + 1) next ∙ leb_ltb next p.S (p.S + 1) refl in
      zero_sum (a + b + c + d) (past (p.S + 1) next)
      ∙ ap₂ ◌&&◌ (zero_sum (a + b + c) d ∙ ap₂ ◌&&◌ (zero_sum (a + b) c
      ∙ ap₂ ◌&&◌ (zero_sum a b ∙ ap₂ ◌&&◌ (zero-other (le_of (part 0 1 bs))) (zero-past (2 ^ p.N) gone)) ec) ed) ee

  -- 01, Refusals, 9: no number of the state is out of range
  pub state_in_holds : eqb (front_past p bs + slots_past p bs + past_in 4 64 1110 p.S bs) 0 ≡ state_ok p (state_of bs)
  unfolding state_ok
  state_in_holds =
      let f = front_past p bs in
      let s = slots_past p bs in
      zero_sum (f + s) (past_in 4 64 1110 p.S bs) ∙ ap₂ ◌&&◌ (zero_sum f s ∙ ap₂ ◌&&◌ front_in slots-past_none) (zero_elements 4 64 1110 p.S bs)
      ∙ sym (ap (state_ok p) (state_read bs))
