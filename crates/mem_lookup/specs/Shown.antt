-- Where the compact table shows a stripe, by the pointers' bytes; the search through a group's offsets (01, What a zone holds). Assumes nothing.
use Rattle.std.specs.Prelude.{ℕ, zero, suc, ◌+◌, ◌-◌, ◌*◌, ◌≤◌, ◌<◌, ltb, eqb, length, get_or, Bool, true, false, ◌&&◌, ◌≡◌, refl}
use Rattle.spec.specs.Drives.{view_of, mk_disk, pointer_of}
use Rattle.spec.specs.Layout.{group, group_offsets, compact_entry}
use Rattle.spec.specs.Lists.{up_from, cons_if, keep, is_nil, first_or}
use Rattle.spec.specs.Memory.{compact_at, shown_at}
use Rattle.spec.specs.Params.{image_len, pointers_len}
use Rattle.spec.specs.declared.Params.{Params}
use Rattle.law_basic.specs.Ranges.{up_from_step, keep_hit, keep_miss, keep_up_from_same, and-false}
use Rattle.law_views.specs.Views.{pointer_view}
use Rattle.law_drives.specs.Members.{keep-keep}
use borrow.Author.Tests.{lt-ltb, le-ltb}
use mathlib.Core.List.{List, [], ◌∷◌}
use Rattle.std.proofs.Math.Path.{sym}
use Rattle.std.proofs.Common.{ap, ◌∙◌, div-add-mod', arith}
use Rattle.std.proofs.Math.Decide.{dec_lt}

-- the offset is a data offset below pointer n, and its entry is the stripe's
unfoldable pub shows : Params → ℕ → List ℕ → ℕ → ℕ → ℕ → ℕ → Bool
shows p n cs d z s o = ltb o p.S && (ltb (1 + o) n && eqb (get_or cs (compact_at p d z o) 0) (compact_entry p s))

keep_no : (i n : ℕ) → keep (λ (k : ℕ). false) (up_from i n) ≡ []
unfolding keep up_from cons_if
keep_no i zero = refl
keep_no i (suc n) = keep_no (suc i) n

-- 01, What a zone holds: the table shows the stripe at just these offsets of its group
pub shown-list : (p : Params) (off im ps cs : List ℕ) (d z s n i : ℕ) → d < p.N → z < p.Z → length im ≡ image_len p → length ps ≡ pointers_len p
    → n ≡ pointer_of p ps d z → i ≡ group p s * p.G → keep (shows p n cs d z s) (up_from i (i + p.G - i)) ≡ shown_at p (view_of p off im ps) cs d z s
unfolding shown_at group_offsets shows
shown-list p off im ps cs d z s n i hd hz h g e q =
    let f : ℕ → ℕ → Bool = λ m o. ltb (1 + o) m && eqb (get_or cs (compact_at p d z o) 0) (compact_entry p s) in
    let t : i + p.G - i ≡ p.G = omega arith in
    ap (λ (x : ℕ). keep (λ o. ltb o p.S && f n o) (up_from i x)) t
    ∙ sym (keep-keep (f n) (λ o. ltb o p.S) (up_from i p.G))
    ∙ (λ j. keep (f ((e ∙ sym (pointer_view p off (mk_disk im ps) d z hd hz (record { image_long = h; pointers_long = g }))) j)) (keep (λ o. ltb o p.S) (up_from (q j) p.G)))

-- the search at offset i of a range that ends at m
module _ (f : ℕ → Bool) (i m S : ℕ) (l : List ℕ) (e : keep f (up_from i (m - i)) ≡ l) where
  pub search_hit : i < m → f i ≡ true → (i ≡ first_or S l) × (is_nil l ≡ false)
  unfolding first_or is_nil
  search_hit h t =
      let q : i ∷ keep f (up_from (i + 1) (m - (i + 1))) ≡ l = sym (ap (keep f) (up_from_step i m h) ∙ keep_hit f i (up_from (i + 1) (m - (i + 1))) t) ∙ e in
      (ap (first_or S) q, sym (ap is_nil q))

  pub search_miss : i < m → f i ≡ false → keep f (up_from (i + 1) (m - (i + 1))) ≡ l
  search_miss h t = sym (ap (keep f) (up_from_step i m h) ∙ keep_miss f i (up_from (i + 1) (m - (i + 1))) t) ∙ e

  pub search_end : ((k : ℕ) → i ≤ k → k < m → f k ≡ false) → (S ≡ first_or S l) × (is_nil l ≡ true)
  unfolding first_or is_nil
  search_end t =
      let q : [] ≡ l = sym (keep_up_from_same f (λ (k : ℕ). false) i (m - i) (λ k a b. t k a (omega arith)) ∙ keep_no i (m - i)) ∙ e in
      (ap (first_or S) q, sym (ap is_nil q))

-- the test at an offset below the end of the search
module _ (p : Params) (n : ℕ) (cs : List ℕ) (d z s end m : ℕ) (below! : (o : ℕ) → ltb o end ≡ (ltb o m && ltb o p.S && ltb (1 + o) n)) (o : ℕ) where
  and_three : (a b c x : Bool) → (a && b && c) ≡ true → (b && (c && x)) ≡ x
  and_three true true true x e = refl
  and_three true true false x e = absurd (let q : ◌≡◌ {A = ℕ} 0 1 = cc in let w : ⊥ = omega arith in w)
  and_three true false c x e = absurd (let q : ◌≡◌ {A = ℕ} 0 1 = cc in let w : ⊥ = omega arith in w)
  and_three false b c x e = absurd (let q : ◌≡◌ {A = ℕ} 0 1 = cc in let w : ⊥ = omega arith in w)

  and_skip : (a b c x : Bool) → a ≡ true → (a && b && c) ≡ false → (b && (c && x)) ≡ false
  and_skip true true true x t e = absurd (let q : ◌≡◌ {A = ℕ} 0 1 = cc in let w : ⊥ = omega arith in w)
  and_skip true true false x t e = refl
  and_skip true false c x t e = refl
  and_skip false b c x t e = absurd (let q : ◌≡◌ {A = ℕ} 0 1 = cc in let w : ⊥ = omega arith in w)

  pub shows_entry : o < end → shows p n cs d z s o ≡ eqb (get_or cs (compact_at p d z o) 0) (compact_entry p s)
  unfolding shows
  shows_entry h =
      and_three (ltb o m) (ltb o p.S) (ltb (1 + o) n) (eqb (get_or cs (compact_at p d z o) 0) (compact_entry p s)) (sym (below! o) ∙ lt-ltb o end h)

  pub shows-past : end ≤ o → o < m → shows p n cs d z s o ≡ false
  unfolding shows
  shows-past h g =
      and_skip (ltb o m) (ltb o p.S) (ltb (1 + o) n) (eqb (get_or cs (compact_at p d z o) 0) (compact_entry p s)) (lt-ltb o m g) (sym (below! o) ∙ le-ltb o end h)

-- nothing lies below pointer 0
pub none_below : (a b n o : ℕ) → n ≡ 0 → ltb o 0 ≡ (ltb o a && ltb o b && ltb (1 + o) n)
none_below a b n o e =
    le-ltb o 0 (omega arith) ∙ sym (and-false (ltb o a && ltb o b) (ltb (1 + o) n) (le-ltb (1 + o) n (omega (arith, e))))

pub below_pointer : (o n : ℕ) → (n ≡ 0 → ⊥) → ltb o (n - 1) ≡ ltb (1 + o) n
below_pointer o n h = go (dec_lt o (n - 1))
  where
    go : Dec (o < n - 1) → ltb o (n - 1) ≡ ltb (1 + o) n
    go (yes k) = lt-ltb o (n - 1) k ∙ sym (lt-ltb (1 + o) n (omega arith))
    go (no k) = le-ltb o (n - 1) (omega arith) ∙ sym (le-ltb (1 + o) n (omega arith))

-- the lower of two bounds
pub lower_right : (a b : ℕ) → b ≤ a → (o : ℕ) → ltb o b ≡ (ltb o a && ltb o b)
lower_right a b h o = go (dec_lt o b)
  where
    go : Dec (o < b) → ltb o b ≡ (ltb o a && ltb o b)
    go (yes k) = sym (ap (λ (x : Bool). x && ltb o b) (lt-ltb o a (omega arith)))
    go (no k) = le-ltb o b (omega arith) ∙ sym (and-false (ltb o a) (ltb o b) (le-ltb o b (omega arith)))

pub lower_left : (a b : ℕ) → a ≤ b → (o : ℕ) → ltb o a ≡ (ltb o a && ltb o b)
lower_left a b h o = go (dec_lt o a)
  where
    go : Dec (o < a) → ltb o a ≡ (ltb o a && ltb o b)
    go (yes k) = lt-ltb o a k ∙ sym (λ j. lt-ltb o a k j && lt-ltb o b (omega arith) j)
    go (no k) = le-ltb o a (omega arith) ∙ sym (ap (λ (x : Bool). x && ltb o b) (le-ltb o a (omega arith)))

-- the row of a zone in the compact table
pub row_entry : (p : Params) (d z o row : ℕ) → row ≡ compact_at p d z 0 → row + o ≡ compact_at p d z o
unfolding compact_at
row_entry p d z o row e = omega (arith, e)

-- the group's first offset
pub group_first_low : (p : Params) (s : ℕ) → group p s * p.G ≤ s
unfolding group
group_first_low p s = omega (arith, div-add-mod' s p.G)
