-- Entries of the address table by segment (01, Reclaim; 02, item 4): each live block takes at least one, so a segment has no more live blocks than entries,
-- and has one where it has an entry. By one address more, only its place can become live. Assumes nothing.
use Prim.Native.Nat.{ℕ, zero, suc, ◌+◌, ◌*◌, ◌/◌, ◌≤◌, ◌<◌}
use Rattle.call_reclaim_live.specs.Live.{numbered, is_live_in, live_below}
use Rattle.spec.specs.Lists.{up_from, below, cons_if, keep}
use Rattle.spec.specs.Memory.{place_at_of}
use Rattle.spec.specs.Params.{capacity}
use Rattle.spec.specs.declared.Params.{Params}
use Rattle.law_basic.specs.Ranges.{Test, test, keep_up_from_same, keep-below_same, and_both}
use Rattle.law_basic.specs.Ranges.Test.{yes!, no! }
use Rattle.mem_marks.specs.Marks.{is_pointed, no_pointed, pointed-more}
use borrow.Author.Tests.{lt-ltb, le-ltb, eq-eqb, ne_eqb, eqb-true, eqb-false}
use Rattle.std.proofs.Math.Arith.{lt_of_le-ne}
use Rattle.std.specs.Prelude.{ltb, length, set, Bool, cond, ◌&&◌, ◌||◌, List, ◌≡◌}
use Rattle.std.proofs.Math.Dec.{eqb}
use Rattle.std.proofs.Math.ListN.{get_or}
use Rattle.std.proofs.Common.{get_or-set_same, get_or-set_other, ◌∙◌, subst, arith}
use Rattle.std.proofs.Math.Bool.{true, false, or-false, and-false}
use Rattle.std.proofs.Math.Path.{refl, sym, ap}
use mir.Val.{bool_byte}
use Rattle.std.proofs.Math.Decide.{dec_lt}

-- 01, Reclaim: the counts with one entry more, with place q; all: the places of the image
abbrev pub with_entry : List ℕ → List ℕ → ℕ → ℕ → ℕ → List ℕ
with_entry segments used all cap q =
    let s = get_or segments (q / cap) 0 in
    cond (ltb q all) (set used s (get_or used s 0 + 1)) used

-- 01, Reclaim: q lies in a zone of number g, and one of the first n addresses has it
unfoldable pub is_taken : Params → List ℕ → List ℕ → ℕ → ℕ → ℕ → Bool
is_taken p ss tb n g q = numbered p ss g q && is_pointed tb n q

-- 01, Reclaim: the blocks in zones of number g that the first n addresses have
unfoldable pub taken_in : Params → List ℕ → List ℕ → ℕ → ℕ → List ℕ
taken_in p ss tb n g = keep (is_taken p ss tb n g) (below (p.N * p.Z * capacity p))

-- 01, Reclaim: the entries of the first n addresses, counted by the number of their zone
pub record TakenCounted (p : Params) (ss tb : List ℕ) (n : ℕ) (used : List ℕ) : Type 0 where
  pub most : (g : ℕ) → g ≤ 1024 → length (taken_in p ss tb n g) ≤ get_or used g 0
  pub least : (g : ℕ) → g ≤ 1024 → 0 < get_or used g 0 → 0 < length (taken_in p ss tb n g)
  pub low : (g : ℕ) → g ≤ 1024 → get_or used g 0 ≤ n

-- those of all addresses are the live blocks
pub taken_live : (p : Params) (ss tb : List ℕ) (g : ℕ) → taken_in p ss tb p.L g ≡ live_below p tb (numbered p ss g) (p.N * p.Z * capacity p)
unfolding taken_in is_taken live_below is_live_in
taken_live p ss tb g = refl

-- ---- lists kept by two tests

pub length-cons : (b : Bool) (a : ℕ) (l : List ℕ) → length (cons_if b a l) ≡ bool_byte b + length l
unfolding cons_if
length-cons true a l = omega arith
length-cons false a l = omega arith

-- tests that differ at x at most
keep_but_one : (f g : ℕ → Bool) (x i n : ℕ) → ((k : ℕ) → (k ≡ x → ⊥) → g k ≡ f k) → length (keep g (up_from i n)) ≤ length (keep f (up_from i n)) + 1
unfolding keep up_from
keep_but_one f g x i zero h = omega arith
keep_but_one f g x i (suc n) h = go (test (eqb i x)) (keep_but_one f g x (suc i) n h)
  where
    go : Test (eqb i x) → length (keep g (up_from (suc i) n)) ≤ length (keep f (up_from (suc i) n)) + 1
        → length (cons_if (g i) i (keep g (up_from (suc i) n))) ≤ length (cons_if (f i) i (keep f (up_from (suc i) n))) + 1
    go (yes! e) ih =
        let s : keep g (up_from (suc i) n) ≡ keep f (up_from (suc i) n) = keep_up_from_same g f (suc i) n (λ k a b. h k (λ c. omega (arith, a, c, eqb-true i x e))) in
        omega (arith, ap length s, length-cons (g i) i (keep g (up_from (suc i) n)), length-cons (f i) i (keep f (up_from (suc i) n)), bit (g i))
      where
        bit : (b : Bool) → bool_byte b ≤ 1
        bit true = omega arith
        bit false = omega arith
    go (no! e) ih =
        let s : bool_byte (g i) ≡ bool_byte (f i) = ap bool_byte (h i (eqb-false i x e)) in
        omega (arith, ih, s, length-cons (g i) i (keep g (up_from (suc i) n)), length-cons (f i) i (keep f (up_from (suc i) n)))

-- one that passes
pub keep_some : (f : ℕ → Bool) (x i n : ℕ) → i ≤ x → x < i + n → f x ≡ true → 0 < length (keep f (up_from i n))
unfolding keep up_from
keep_some f x i zero low high e = absurd (let z : ⊥ = omega arith in z)
keep_some f x i (suc n) low high e = go (test (eqb i x)) (keep_some f x (suc i) n)
  where
    go : Test (eqb i x) → (suc i ≤ x → x < suc i + n → f x ≡ true → 0 < length (keep f (up_from (suc i) n))) → 0 < length (cons_if (f i) i (keep f (up_from (suc i) n)))
    go (yes! t) ih =
        let s : bool_byte (f i) ≡ 1 = ap bool_byte (ap f (eqb-true i x t) ∙ e) in
        omega (arith, s, length-cons (f i) i (keep f (up_from (suc i) n)))
    go (no! t) ih = omega (arith, ih (lt_of_le-ne low (eqb-false i x t)) (omega arith) e, length-cons (f i) i (keep f (up_from (suc i) n)))

-- ---- one address more

module _ (p : Params) (ss tb : List ℕ) where
  abbrev all! : ℕ
  all! = p.N * p.Z * capacity p

  nobody : (g i n : ℕ) → length (keep (is_taken p ss tb 0 g) (up_from i n)) ≡ 0
  unfolding is_taken keep up_from
  nobody g i zero = refl
  nobody g i (suc n) =
      let e : bool_byte (is_taken p ss tb 0 g i) ≡ 0 = ap bool_byte (ap (λ (b : Bool). numbered p ss g i && b) (no_pointed tb i) ∙ and-false (numbered p ss g i)) in
      omega (arith, e, nobody g (suc i) n, length-cons (is_taken p ss tb 0 g i) i (keep (is_taken p ss tb 0 g) (up_from (suc i) n)))

  -- no address
  pub entered_none : (used : List ℕ) → ((g : ℕ) → g ≤ 1024 → get_or used g 0 ≡ 0) → TakenCounted p ss tb 0 used
  unfolding taken_in below
  entered_none used z = record {
    most = λ g h. omega (arith, nobody g 0 all!);
    least = λ g h l. absurd (let q : ⊥ = omega (arith, l, z g h) in q);
    low = λ g h. omega (arith, z g h);
  }

  module _ (n : ℕ) where
    abbrev x : ℕ
    x = place_at_of tb n

    -- the number of its zone
    abbrev at : ℕ
    at = get_or ss (x / capacity p) 0

    -- a place that is not this address's is taken as before
    taken_else : (g q : ℕ) → (q ≡ x → ⊥) → is_taken p ss tb (n + 1) g q ≡ is_taken p ss tb n g q
    unfolding is_taken
    taken_else g q c =
        ap (λ (b : Bool). numbered p ss g q && b) (pointed-more tb n q ∙ ap (λ (b : Bool). is_pointed tb n q || b) (ne_eqb q x c) ∙ or-false (is_pointed tb n q))

    -- and so are all of another number
    same_other : (g q : ℕ) → (at ≡ g → ⊥) → is_taken p ss tb (n + 1) g q ≡ is_taken p ss tb n g q
    unfolding is_taken numbered
    same_other g q c = go (test (eqb q x))
      where
        go : Test (eqb q x) → is_taken p ss tb (n + 1) g q ≡ is_taken p ss tb n g q
        go (yes! e) =
            let k : ℕ = get_or ss (q / capacity p) 0 in
            let z : eqb k g ≡ false = ne_eqb k g (λ d. c (sym (ap (λ (i : ℕ). get_or ss (i / capacity p) 0) (eqb-true q x e)) ∙ d)) in
            ap (λ (b : Bool). b && is_pointed tb (n + 1) q) z ∙ sym (ap (λ (b : Bool). b && is_pointed tb n q) z)
        go (no! e) = taken_else g q (eqb-false q x e)

    taken_last : is_taken p ss tb (n + 1) at x ≡ true
    unfolding is_taken numbered
    taken_last = and_both (eqb at at) (is_pointed tb (n + 1) x) (eq-eqb at at refl)
        (pointed-more tb n x ∙ ap (λ (b : Bool). is_pointed tb n x || b) (eq-eqb x x refl) ∙ or_true (is_pointed tb n x))
      where
        or_true : (b : Bool) → (b || true) ≡ true
        or_true true = refl
        or_true false = refl

    -- where its place lies outside, nothing is taken that was not
    module _ (used : List ℕ) (so : TakenCounted p ss tb n used) where
      taken_same : (g : ℕ) → ((q : ℕ) → q < all! → is_taken p ss tb (n + 1) g q ≡ is_taken p ss tb n g q) → taken_in p ss tb (n + 1) g ≡ taken_in p ss tb n g
      unfolding taken_in
      taken_same g h = keep-below_same (is_taken p ss tb (n + 1) g) (is_taken p ss tb n g) all! h

      entered_out : all! ≤ x → TakenCounted p ss tb (n + 1) used
      entered_out out = record {
        most = λ g h. omega (arith, so.most g h, ap length (s g));
        least = λ g h l. omega (arith, so.least g h l, ap length (s g));
        low = λ g h. omega (arith, so.low g h);
      }
        where
          s : (g : ℕ) → taken_in p ss tb (n + 1) g ≡ taken_in p ss tb n g
          s g = taken_same g (λ q l. taken_else g q (λ c. omega (arith, l, c, out)))

      entered_in : x < all! → at < length used → TakenCounted p ss tb (n + 1) (set used at (get_or used at 0 + 1))
      unfolding taken_in below
      entered_in within fits = record {
        most = λ g h. most' g h (test (eqb g z));
        least = λ g h l. least' g h l (test (eqb g z));
        low = λ g h. low' g h (test (eqb g z));
      }
        where
          z : ℕ
          z = at

          now' : List ℕ
          now' = set used z (get_or used z 0 + 1)

          here : (g : ℕ) → g ≡ z → get_or now' g 0 ≡ get_or used g 0 + 1
          here g e = ap (λ (k : ℕ). get_or now' k 0) e ∙ get_or-set_same used z (get_or used z 0 + 1) 0 fits ∙ ap (λ (k : ℕ). get_or used k 0 + 1) (sym e)

          there : (g : ℕ) → (g ≡ z → ⊥) → get_or now' g 0 ≡ get_or used g 0
          there g c = get_or-set_other used z g (get_or used z 0 + 1) 0 c

          same : (g : ℕ) → (g ≡ z → ⊥) → length (taken_in p ss tb (n + 1) g) ≡ length (taken_in p ss tb n g)
          same g c = ap length (taken_same g (λ q l. same_other g q (λ d. c (sym d))))

          most' : (g : ℕ) → g ≤ 1024 → Test (eqb g z) → length (taken_in p ss tb (n + 1) g) ≤ get_or now' g 0
          most' g h (yes! e) = omega (arith, here g (eqb-true g z e), so.most g h, keep_but_one (is_taken p ss tb n g) (is_taken p ss tb (n + 1) g) x 0 all! (λ q c. taken_else g q c))
          most' g h (no! e) = omega (arith, there g (eqb-false g z e), so.most g h, same g (eqb-false g z e))

          least' : (g : ℕ) → g ≤ 1024 → 0 < get_or now' g 0 → Test (eqb g z) → 0 < length (taken_in p ss tb (n + 1) g)
          least' g h l (yes! e) =
              keep_some (is_taken p ss tb (n + 1) g) x 0 all! (omega arith) (omega (arith, within)) (ap (λ (k : ℕ). is_taken p ss tb (n + 1) k x) (eqb-true g z e) ∙ taken_last)
          least' g h l (no! e) = omega (arith, so.least g h (omega (arith, l, there g (eqb-false g z e))), same g (eqb-false g z e))

          low' : (g : ℕ) → g ≤ 1024 → Test (eqb g z) → get_or now' g 0 ≤ n + 1
          low' g h (yes! e) = omega (arith, here g (eqb-true g z e), so.low g h)
          low' g h (no! e) = omega (arith, there g (eqb-false g z e), so.low g h)

      -- either way, by the number of its zone
      pub entered-more : (x < all! → at < length used) → (used' : List ℕ) → used' ≡ cond (ltb x all!) (set used at (get_or used at 0 + 1)) used → TakenCounted p ss tb (n + 1) used'
      entered-more fits used' e = go (dec_lt x all!)
        where
          go : Dec (x < all!) → TakenCounted p ss tb (n + 1) used'
          go (yes l) =
              let f = e ∙ ap (λ (b : Bool). cond b (set used at (get_or used at 0 + 1)) used) (lt-ltb x all! l) in
              subst (λ (u : List ℕ). TakenCounted p ss tb (n + 1) u) (sym f) (entered_in l (fits l))
          go (no l) =
              let f = e ∙ ap (λ (b : Bool). cond b (set used at (get_or used at 0 + 1)) used) (le-ltb x all! (omega arith)) in
              subst (λ (u : List ℕ). TakenCounted p ss tb (n + 1) u) (sym f) (entered_out (omega arith))
