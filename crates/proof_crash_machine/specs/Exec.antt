-- The same by tests, look-ups and maxima, as a restart computes it: the address table is what the facts speak of. Assumes nothing.
use Rattle.std.specs.Prelude.{◌≡◌, List, [], ◌∷◌, ◌⊎◌, Bool, ◌&&◌, ◌||◌, length, get_or}
use Rattle.std.proofs.Math.Path.{refl, sym, ap, subst}
use Rattle.std.proofs.Common.{ap₂, ◌∙◌, arith}
use Rattle.std.proofs.Math.Logic.{inl, inr, ⊎_elim}
use Rattle.std.proofs.Math.Bool.{true, false, not}
use Prim.Native.Nat.{ℕ, zero, suc, ◌+◌, ◌≤◌, ◌<◌, max}
use Rattle.std.proofs.Math.Decide.{ℕ_discrete, dec_le}
use Rattle.std.proofs.Math.Dec.{eqb, ltb}
use borrow.Author.Tests.{eqb-true, eq-eqb, ltb-true, lt-ltb}
use Rattle.proof_crash_machine.specs.Val.{Val, 𝟘}
use Rattle.proof_crash_machine.specs.View.{Item, ItemView, InI, chunk_num, chunk_hdr, chunk_foot, item_some}
use Rattle.proof_crash_machine.specs.View.Item.{hdr, chunk, foot}
use Rattle.proof_crash_machine.specs.Mask.{Mask, count, two, tf, low, low_from, low_from_is}
use Rattle.proof_crash_machine.specs.Facts.{Par, Word, trust, some_present, word_unique, respell, Ghost, Tr, Choice, L, R, Stripe, Counted, Off, Used, Facts, used}
use Rattle.proof_crash_machine.specs.Rebuild.{in_off, once_in}
use Rattle.proof_crash_machine.specs.Finish.{Reads}

-- ---- tests
pub true≢false : {A : Type 0} → false ≡ true → A
true≢false e = absurd (let z : ◌≡◌ {A = ℕ} 0 1 = cc in let q : ⊥ = omega arith in q)

pub and_1 : (a b : Bool) → (a && b) ≡ true → a ≡ true
and_1 true b e = refl
and_1 false b e = e

pub and_2 : (a b : Bool) → (a && b) ≡ true → b ≡ true
and_2 true b e = e
and_2 false b e = true≢false e

pub both_true : (a b : Bool) → a ≡ true → b ≡ true → (a && b) ≡ true
both_true a b p q = ap₂ ◌&&◌ p q

pub or_either : (a b : Bool) → (a || b) ≡ true → (a ≡ true) ⊎ (b ≡ true)
or_either true b e = inl refl
or_either false b e = inr e

pub or_1 : (a b : Bool) → a ≡ true → (a || b) ≡ true
or_1 a b p = ap (λ (x : Bool). x || b) p

pub or_2 : (a b : Bool) → b ≡ true → (a || b) ≡ true
or_2 true b p = refl
or_2 false b p = p

pub not_1 : (b : Bool) → (b ≡ true → ⊥) → not b ≡ true
not_1 true h = absurd (h refl)
not_1 false h = refl

pub not_2 : (b : Bool) → not b ≡ true → b ≡ true → ⊥
not_2 true h e = true≢false h
not_2 false h e = true≢false e

unfoldable pub all_b : ℕ → (ℕ → Bool) → Bool
all_b zero q = true
all_b (suc n) q = q n && all_b n q

pub all_true : (n : ℕ) (q : ℕ → Bool) → all_b n q ≡ true → (d : ℕ) → d < n → q d ≡ true
unfolding all_b
all_true zero q e d l = absurd (let z : ⊥ = omega arith in z)
all_true (suc n) q e d l = go (ℕ_discrete d n) (all_true n q (and_2 (q n) (all_b n q) e) d)
  where
    go : Dec (d ≡ n) → (d < n → q d ≡ true) → q d ≡ true
    go (yes r) ih = rw r (and_1 (q n) (all_b n q) e)
    go (no r) ih = ih (omega arith)

pub true_all : (n : ℕ) (q : ℕ → Bool) → ((d : ℕ) → d < n → q d ≡ true) → all_b n q ≡ true
unfolding all_b
true_all zero q h = refl
true_all (suc n) q h = both_true (q n) (all_b n q) (h n (omega arith)) (true_all n q (λ d l. h d (omega arith)))

-- ---- maxima
unfoldable pub max_n : ℕ → (ℕ → ℕ) → ℕ
max_n zero f = 0
max_n (suc n) f = max (f n) (max_n n f)

pub max_le : (n : ℕ) (f : ℕ → ℕ) (i : ℕ) → i < n → f i ≤ max_n n f
unfolding max_n
max_le zero f i l = absurd (let z : ⊥ = omega arith in z)
max_le (suc n) f i l = go (ℕ_discrete i n) (max_le n f i)
  where
    go : Dec (i ≡ n) → (i < n → f i ≤ max_n n f) → f i ≤ max (f n) (max_n n f)
    go (yes e) ih = let q : f i ≡ f n = ap f e in omega arith
    go (no e) ih = let q : f i ≤ max_n n f = ih (omega arith) in omega arith

pub max_some : (n : ℕ) (f : ℕ → ℕ) → (max_n n f ≡ 0) ⊎ ((i : ℕ) × (i < n) × (f i ≡ max_n n f))
unfolding max_n
max_some zero f = inl refl
max_some (suc n) f = go (dec_le (max_n n f) (f n)) (max_some n f)
  where
    go : Dec (max_n n f ≤ f n) → (max_n n f ≡ 0) ⊎ ((i : ℕ) × (i < n) × (f i ≡ max_n n f))
        → (max (f n) (max_n n f) ≡ 0) ⊎ ((i : ℕ) × (i < suc n) × (f i ≡ max (f n) (max_n n f)))
    go (yes b) ih = inr (n, omega arith, omega arith)
    go (no b) (inl e) = absurd (let z : ⊥ = omega arith in z)
    go (no b) (inr (i, l, e)) = inr (i, omega arith, omega arith)

-- n if the test holds
unfoldable pub when : Bool → ℕ → ℕ
when true n = n
when false n = 0

pub when_true : (b : Bool) (n : ℕ) → b ≡ true → when b n ≡ n
unfolding when
when_true true n e = refl
when_true false n e = true≢false e

pub when_pos : (b : Bool) (n : ℕ) → 0 < when b n → (b ≡ true) × (when b n ≡ n)
unfolding when
when_pos true n h = (refl, refl)
when_pos false n h = absurd (let z : ⊥ = omega arith in z)

-- ---- look-ups in a zone
unfoldable pub has_stripe : ℕ → List Item → Bool
has_stripe s [] = false
has_stripe s (hdr r c n ∷ l) = has_stripe s l
has_stripe s (chunk t x ∷ l) = eqb s t || has_stripe s l
has_stripe s (foot j ∷ l) = has_stripe s l

unfoldable pub stripe_value : ℕ → List Item → Val
stripe_value s [] = 𝟘
stripe_value s (hdr r c n ∷ l) = stripe_value s l
stripe_value s (chunk t x ∷ l) = elim (eqb s t) [ true ↦ x | false ↦ stripe_value s l ]
stripe_value s (foot j ∷ l) = stripe_value s l

pub found_in : (s : ℕ) (l : List Item) → has_stripe s l ≡ true → InI (chunk s (stripe_value s l)) l
unfolding has_stripe stripe_value
found_in s [] e = true≢false e
found_in s (hdr r c n ∷ l) e = inr (found_in s l e)
found_in s (chunk t x ∷ l) e = go (eqb s t) refl e (found_in s l)
  where
    go : (b : Bool) → eqb s t ≡ b → (b || has_stripe s l) ≡ true → (has_stripe s l ≡ true → InI (chunk s (stripe_value s l)) l)
        → (chunk s (elim b [ true ↦ x | false ↦ stripe_value s l ]) ≡ chunk t x) ⊎ InI (chunk s (elim b [ true ↦ x | false ↦ stripe_value s l ])) l
    go true q e ih = inl (ap (λ (n : ℕ). chunk n x) (eqb-true s t q))
    go false q e ih = inr (ih e)
found_in s (foot j ∷ l) e = inr (found_in s l e)

pub in_found : (s : ℕ) (x : Val) (l : List Item) → InI (chunk s x) l → has_stripe s l ≡ true
unfolding has_stripe
in_found s x [] m = absurd m
in_found s x (hdr r c n ∷ l) (inl e) = absurd (chunk_hdr e)
in_found s x (hdr r c n ∷ l) (inr m) = in_found s x l m
in_found s x (chunk t y ∷ l) (inl e) = or_1 (eqb s t) (has_stripe s l) (eq-eqb s t (chunk_num e))
in_found s x (chunk t y ∷ l) (inr m) = or_2 (eqb s t) (has_stripe s l) (in_found s x l m)
in_found s x (foot j ∷ l) (inl e) = absurd (chunk_foot e)
in_found s x (foot j ∷ l) (inr m) = in_found s x l m

unfoldable pub ser_of : List Item → ℕ
ser_of [] = 0
ser_of (hdr r c n ∷ l) = r
ser_of (chunk t x ∷ l) = 0
ser_of (foot j ∷ l) = 0

unfoldable pub cop_of : List Item → ℕ
cop_of [] = 0
cop_of (hdr r c n ∷ l) = c
cop_of (chunk t x ∷ l) = 0
cop_of (foot j ∷ l) = 0

-- ---- steps 1 to 3
-- E k is the segment that zone k of some drive bears: each that step 1 leaves is among E 0 .. E (Z - 1)
module _ (p : Par) (v : ItemView) (m : Mask) (E : ℕ → ℕ) where
  unfoldable pub left_b : ℕ → Bool
  left_b z = all_b p.N (λ (d : ℕ). m d || ltb 0 (length (v d z)))

  unfoldable pub rem_b : ℕ → Bool
  rem_b z = left_b z && all_b p.Z (λ (k : ℕ). not (left_b (E k) && (eqb (cop_of (v (low m p.N) z)) (ser_of (v (low m p.N) (E k))) && not (eqb (E k) z))))

  unfoldable pub count_b : ℕ → ℕ → Bool
  count_b z s = all_b p.N (λ (d : ℕ). m d || has_stripe s (v d z))

  -- the stripe: stored, or decoded
  unfoldable pub value_here_holds : ℕ → ℕ → ℕ → Val
  value_here_holds z s d = stripe_value s (v d z)

  unfoldable pub val_of : ℕ → ℕ → ℕ → Val
  val_of z s d = elim (m d) [ true ↦ p.code.dec s m (value_here_holds z s) d | false ↦ value_here_holds z s d ]

  -- the greatest stamp of address a
  unfoldable pub in_data : ℕ → ℕ → ℕ → ℕ → ℕ
  in_data a z s d = when (not (p.code.par s d) && eqb (val_of z s d).addr a) (val_of z s d).stamp

  unfoldable pub in_stripe : ℕ → ℕ → ℕ → ℕ
  in_stripe a z s = when (count_b z s) (max_n p.N (in_data a z s))

  unfoldable pub in_segment : ℕ → ℕ → ℕ
  in_segment a z = when (rem_b z) (max_n p.S (in_stripe a z))

  unfoldable pub best_stamp : ℕ → ℕ
  best_stamp a = max_n p.Z (λ (k : ℕ). in_segment a (E k))

  pub left_L : (z : ℕ) → left_b z ≡ true → L p v m z
  unfolding left_b
  left_L z e d l n = ⊎_elim (λ (q : m d ≡ true). tf q n) (λ (q : ltb 0 (length (v d z)) ≡ true). ltb-true 0 (length (v d z)) q)
      (or_either (m d) (ltb 0 (length (v d z))) (all_true p.N (λ (d : ℕ). m d || ltb 0 (length (v d z))) e d l))

  pub L_left : (z : ℕ) → L p v m z → left_b z ≡ true
  unfolding left_b
  L_left z h = true_all p.N (λ (d : ℕ). m d || ltb 0 (length (v d z))) (λ d l. go d l (two (m d)))
    where
      go : (d : ℕ) → d < p.N → (m d ≡ true) ⊎ (m d ≡ false) → (m d || ltb 0 (length (v d z))) ≡ true
      go d l (inl e) = or_1 (m d) (ltb 0 (length (v d z))) e
      go d l (inr n) = or_2 (m d) (ltb 0 (length (v d z))) (lt-ltb 0 (length (v d z)) (h d l n))

  pub low_is : count p.N m ≤ p.P → (low m p.N < p.N) × (m (low m p.N) ≡ false)
  unfolding low
  low_is few = let d : (d : ℕ) × (d < p.N) × (m d ≡ false) = some_present p m few in
      let r : (low_from m 0 p.N < 0 + p.N) × (m (low_from m 0 p.N) ≡ false) = low_from_is m 0 p.N d.0 (omega arith) (omega (arith, d.1)) d.2 in
      (omega (arith, r.0), r.1)

  val_here : (z s d : ℕ) → m d ≡ false → val_of z s d ≡ value_here_holds z s d
  unfolding val_of
  val_here z s d n = ap (λ (b : Bool). elim b as (λ _. Val) [ true ↦ p.code.dec s m (value_here_holds z s) d | false ↦ value_here_holds z s d ]) n

  val-lost : (z s d : ℕ) → m d ≡ true → val_of z s d ≡ p.code.dec s m (value_here_holds z s) d
  unfolding val_of
  val-lost z s d n = ap (λ (b : Bool). elim b as (λ _. Val) [ true ↦ p.code.dec s m (value_here_holds z s) d | false ↦ value_here_holds z s d ]) n

  -- decoding gives the code word that the present chunks are part of
  val_is : (z s : ℕ) (h : ℕ → Val) → count p.N m ≤ p.P → Word p s h → ((d : ℕ) → d < p.N → m d ≡ false → value_here_holds z s d ≡ h d) → (d : ℕ) → d < p.N
      → val_of z s d ≡ h d
  val_is z s h few w e d l = ⊎_elim (λ (q : m d ≡ true). val-lost z s d q ∙ p.code.law s m (value_here_holds z s) h few (λ i b n. e i b n ∙ w i b) d l q ∙ sym (w d l))
      (λ (q : m d ≡ false). val_here z s d q ∙ e d l q) (two (m d))

  value_here_in : (z s : ℕ) → count_b z s ≡ true → (d : ℕ) → d < p.N → m d ≡ false → InI (chunk s (value_here_holds z s d)) (v d z)
  unfolding count_b value_here_holds
  value_here_in z s e d l n = ⊎_elim (λ (q : m d ≡ true). tf q n) (λ (q : has_stripe s (v d z) ≡ true). found_in s (v d z) q)
      (or_either (m d) (has_stripe s (v d z)) (all_true p.N (λ (d : ℕ). m d || has_stripe s (v d z)) e d l))

  val_in : (z s : ℕ) → count_b z s ≡ true → (d : ℕ) → d < p.N → m d ≡ false → InI (chunk s (val_of z s d)) (v d z)
  val_in z s e d l n = subst (λ (x : Val). InI (chunk s x) (v d z)) (sym (val_here z s d n)) (value_here_in z s e d l n)

  in_count : (z s : ℕ) (f : ℕ → Val) → ((d : ℕ) → d < p.N → m d ≡ false → InI (chunk s (f d)) (v d z)) → count_b z s ≡ true
  unfolding count_b
  in_count z s f h = true_all p.N (λ (d : ℕ). m d || has_stripe s (v d z)) (λ d l. go d l (two (m d)))
    where
      go : (d : ℕ) → d < p.N → (m d ≡ true) ⊎ (m d ≡ false) → (m d || has_stripe s (v d z)) ≡ true
      go d l (inl e) = or_1 (m d) (has_stripe s (v d z)) e
      go d l (inr n) = or_2 (m d) (has_stripe s (v d z)) (in_found s (f d) (v d z) (h d l n))

-- the header's serials
pub head_is : (l : List Item) (r c : ℕ) (n : ℕ → ℕ) → 0 < length l → get_or l 0 (foot 0) ≡ hdr r c n → (ser_of l ≡ r) × (cop_of l ≡ c)
unfolding ser_of cop_of
head_is [] r c n b e = absurd (let z : ⊥ = omega arith in z)
head_is (hdr r' c' n' ∷ l) r c n b e = (cc, cc)
head_is (chunk t x ∷ l) r c n b e = absurd (chunk_hdr e)
head_is (foot j ∷ l) r c n b e = absurd (let z : ◌≡◌ {A = ℕ} 0 1 = cc in let q : ⊥ = omega arith in q)

-- ---- on drives with the facts, what is computed is what the facts speak of
module _ (p : Par) (g : Ghost) (v : ItemView) (h : Facts p g v) (m : Mask) (c : Choice p g.un m)
    (E : ℕ → ℕ) (cover : (z : ℕ) → L p v m z → (k : ℕ) × (k < p.Z) × (E k ≡ z)) where
  present_trusted : (d : ℕ) → d < p.N → m d ≡ false → Tr p g.un d
  present_trusted d l n = (l, trust p g.un m c d l n)

  heads : (z : ℕ) → L p v m z → (ser_of (v (low m p.N) z) ≡ g.hd.ser z) × (cop_of (v (low m p.N) z) ≡ g.hd.cop z)
  heads z l =
      let q : (low m p.N < p.N) × (m (low m p.N) ≡ false) = low_is p v m E c.0 in
      let b : 0 < length (v (low m p.N) z) = l (low m p.N) q.0 q.1 in
      head_is (v (low m p.N) z) (g.hd.ser z) (g.hd.cop z) (g.hd.zn z) b ((h.zones (low m p.N) z (present_trusted (low m p.N) q.0 q.1)).head b)

  abbrev test : ℕ → ℕ → Bool
  test z o = left_b p v m E o && (eqb (cop_of (v (low m p.N) z)) (ser_of (v (low m p.N) o)) && not (eqb o z))

  pub rem_R : (z : ℕ) → rem_b p v m E z ≡ true → R p g.hd v m z
  unfolding rem_b
  rem_R z e = record { left = lz; own = own }
    where
      lz : L p v m z
      lz = left_L p v m E z (and_1 (left_b p v m E z) (all_b p.Z (λ (k : ℕ). not (test z (E k)))) e)

      uz : Used p g.un v z
      uz = used p g v m z c lz

      own : (o : ℕ) → L p v m o → g.hd.cop z ≡ g.hd.ser o → ⊥
      own o lo q = let k : (k : ℕ) × (k < p.Z) × (E k ≡ o) = cover o lo in
          not_2 (test z o) (subst (λ (i : ℕ). not (test z i) ≡ true) k.2
          (all_true p.Z (λ (k : ℕ). not (test z (E k))) (and_2 (left_b p v m E z) (all_b p.Z (λ (k : ℕ). not (test z (E k)))) e) k.0 k.1))
          (both_true (left_b p v m E o) (eqb (cop_of (v (low m p.N) z)) (ser_of (v (low m p.N) o)) && not (eqb o z)) (L_left p v m E o lo)
          (both_true (eqb (cop_of (v (low m p.N) z)) (ser_of (v (low m p.N) o))) (not (eqb o z)) (eq-eqb (cop_of (v (low m p.N) z)) (ser_of (v (low m p.N) o))
          ((heads z lz).1 ∙ q ∙ sym (heads o lo).0))
          (not_1 (eqb o z) (λ k. same (eqb-true o z k)))))
        where
          same : o ≡ z → ⊥
          same k = let b : g.hd.cop z < g.hd.ser z = h.swap.below z uz in let r : g.hd.ser o ≡ g.hd.ser z = ap g.hd.ser k in let j : ⊥ = omega arith in j

  pub R_rem : (z : ℕ) → R p g.hd v m z → rem_b p v m E z ≡ true
  unfolding rem_b
  R_rem z r = both_true (left_b p v m E z) (all_b p.Z (λ (k : ℕ). not (test z (E k)))) (L_left p v m E z r.left)
      (true_all p.Z (λ (k : ℕ). not (test z (E k))) (λ k l. not_1 (test z (E k)) (λ q. clash (E k) q)))
    where
      clash : (o : ℕ) → test z o ≡ true → ⊥
      clash o k =
          let lo : L p v m o = left_L p v m E o (and_1 (left_b p v m E o) (eqb (cop_of (v (low m p.N) z)) (ser_of (v (low m p.N) o)) && not (eqb o z)) k) in
          let q : eqb (cop_of (v (low m p.N) z)) (ser_of (v (low m p.N) o)) ≡ true =
          and_1 (eqb (cop_of (v (low m p.N) z)) (ser_of (v (low m p.N) o))) (not (eqb o z))
          (and_2 (left_b p v m E o) (eqb (cop_of (v (low m p.N) z)) (ser_of (v (low m p.N) o)) && not (eqb o z)) k) in
          r.own o lo (sym (heads z r.left).1 ∙ eqb-true (cop_of (v (low m p.N) z)) (ser_of (v (low m p.N) o)) q ∙ (heads o lo).0)

  pub count_stripe : (z s : ℕ) → count_b p v m E z s ≡ true → Stripe p v m z s (val_of p v m E z s)
  count_stripe z s e = record { on = val_in p v m E z s e; word = respell p s w.0 (val_of p v m E z s) (λ d l. sym (val_is p v m E z s w.0 c.0 w.1 w.2 d l)) w.1 }
    where
      w : (f : ℕ → Val) × Word p s f × ((d : ℕ) → d < p.N → m d ≡ false → value_here_holds p v m E z s d ≡ f d)
      w = h.parity.whole m c z s (value_here_holds p v m E z s) (value_here_in p v m E z s e)

  -- and it is the only one
  pub stripe_is : (z s : ℕ) (f : ℕ → Val) → Stripe p v m z s f → (count_b p v m E z s ≡ true) × ((d : ℕ) → d < p.N → val_of p v m E z s d ≡ f d)
  stripe_is z s f st = (
    e,
    word_unique p s m c.0 (val_of p v m E z s) f (count_stripe z s e).word st.word
        (λ d l n. once_in p g d z (v d z) (h.zones d z (present_trusted d l n)) s (val_of p v m E z s d) (f d) (val_in p v m E z s e d l n) (st.on d l n)),
  )
    where
      e : count_b p v m E z s ≡ true
      e = in_count p v m E z s f st.on

  stripe_number : (z s : ℕ) (f : ℕ → Val) → Stripe p v m z s f → s < p.S
  stripe_number z s f st =
      let d : (d : ℕ) × (d < p.N) × (m d ≡ false) = some_present p m c.0 in
      let i : InI (chunk s (f d.0)) (v d.0 z) = st.on d.0 d.1 d.2 in
      let r : (k : ℕ) × Off (v d.0 z) k (chunk s (f d.0)) = in_off (chunk s (f d.0)) (v d.0 z) i in
      go d.0 (present_trusted d.0 d.1 d.2) i r.0 r.1
    where
      go : (d : ℕ) → Tr p g.un d → InI (chunk s (f d)) (v d z) → (k : ℕ) → Off (v d z) k (chunk s (f d)) → s < p.S
      go d t i zero o = absurd (chunk_hdr (sym o.1 ∙ (h.zones d z t).head (item_some (chunk s (f d)) (v d z) i)))
      go d t i (suc k) o = ((h.zones d z t).num k s (f d) o).0

  best_most : (x : Val) → Counted p g.hd v m x → x.stamp ≤ best_stamp p v m E x.addr
  unfolding best_stamp in_segment in_stripe in_data
  best_most x k =
      let e : (count_b p v m E k.z k.s ≡ true) × ((d : ℕ) → d < p.N → val_of p v m E k.z k.s d ≡ k.f d) = stripe_is k.z k.s k.f k.st in
      let y : val_of p v m E k.z k.s k.dt.d ≡ x = e.1 k.dt.d k.dt.lt ∙ k.dt.val in
      let a₁ : in_data p v m E x.addr k.z k.s k.dt.d ≡ (val_of p v m E k.z k.s k.dt.d).stamp =
      when_true (not (p.code.par k.s k.dt.d) && eqb (val_of p v m E k.z k.s k.dt.d).addr x.addr) (val_of p v m E k.z k.s k.dt.d).stamp
      (both_true (not (p.code.par k.s k.dt.d)) (eqb (val_of p v m E k.z k.s k.dt.d).addr x.addr)
      (not_1 (p.code.par k.s k.dt.d) (λ q. tf q k.dt.data?))
      (eq-eqb (val_of p v m E k.z k.s k.dt.d).addr x.addr (ap (λ (i : Val). i.addr) y))) in
      let b₁ : in_data p v m E x.addr k.z k.s k.dt.d ≤ max_n p.N (in_data p v m E x.addr k.z k.s) = max_le p.N (in_data p v m E x.addr k.z k.s) k.dt.d
      k.dt.lt in
      let a₂ : in_stripe p v m E x.addr k.z k.s ≡ max_n p.N (in_data p v m E x.addr k.z k.s) =
      when_true (count_b p v m E k.z k.s) (max_n p.N (in_data p v m E x.addr k.z k.s)) e.0 in
      let b₂ : in_stripe p v m E x.addr k.z k.s ≤ max_n p.S (in_stripe p v m E x.addr k.z) =
      max_le p.S (in_stripe p v m E x.addr k.z) k.s (stripe_number k.z k.s k.f k.st) in
      let a₃ : in_segment p v m E x.addr k.z ≡ max_n p.S (in_stripe p v m E x.addr k.z) =
      when_true (rem_b p v m E k.z) (max_n p.S (in_stripe p v m E x.addr k.z)) (R_rem k.z k.rem) in
      let b₃ : in_segment p v m E x.addr k.z ≤ max_n p.Z (λ (k : ℕ). in_segment p v m E x.addr (E k)) =
      let j : (j : ℕ) × (j < p.Z) × (E j ≡ k.z) = cover k.z k.rem.left in
      subst (λ (i : ℕ). in_segment p v m E x.addr i ≤ max_n p.Z (λ (k : ℕ). in_segment p v m E x.addr (E k))) j.2
      (max_le p.Z (λ (k : ℕ). in_segment p v m E x.addr (E k)) j.0
      j.1) in
      let s : (val_of p v m E k.z k.s k.dt.d).stamp ≡ x.stamp = ap (λ (i : Val). i.stamp) y in
      omega (arith, a₁, b₁, a₂, b₂, a₃, b₃, s)

  some : (a : ℕ) → (best_stamp p v m E a ≡ 0) ⊎ ((x : Val) × Counted p g.hd v m x × (x.addr ≡ a) × (x.stamp ≡ best_stamp p v m E a))
  unfolding best_stamp in_segment in_stripe in_data
  some a = go (best_stamp p v m E a) refl
    where
      go : (n : ℕ) → best_stamp p v m E a ≡ n → (best_stamp p v m E a ≡ 0) ⊎ ((x : Val) × Counted p g.hd v m x × (x.addr ≡ a) × (x.stamp ≡ best_stamp p v m E a))
      go zero e = inl e
      go (suc n) e = inr (seg (max_some p.Z (λ (k : ℕ). in_segment p v m E a (E k))))
        where
          dat : (z s : ℕ) → rem_b p v m E z ≡ true → count_b p v m E z s ≡ true → max_n p.N (in_data p v m E a z s) ≡ best_stamp p v m E a
              → (max_n p.N (in_data p v m E a z s) ≡ 0) ⊎ ((d : ℕ) × (d < p.N) × (in_data p v m E a z s d ≡ max_n p.N (in_data p v m E a z s)))
              → (x : Val) × Counted p g.hd v m x × (x.addr ≡ a) × (x.stamp ≡ best_stamp p v m E a)
          dat z s r k q (inl w) = absurd (let j : ⊥ = omega (arith, w, q, e) in j)
          dat z s r k q (inr (d, l, w)) =
              let t : ((not (p.code.par s d) && eqb (val_of p v m E z s d).addr a) ≡ true) × (in_data p v m E a z s d ≡ (val_of p v m E z s d).stamp) =
              when_pos (not (p.code.par s d) && eqb (val_of p v m E z s d).addr a) (val_of p v m E z s d).stamp (omega (arith, w, q, e)) in (
                val_of p v m E z s d,
                record {
                  z = z;
                  s = s;
                  f = val_of p v m E z s;
                  rem = rem_R z r;
                  st = count_stripe z s k;
                  dt = record {
                    d = d;
                    lt = l;
                    val = refl;
                    data? = ⊎_elim (λ (i : p.code.par s d ≡ true). absurd (not_2 (p.code.par s d) (and_1 (not (p.code.par s d)) (eqb (val_of p v m E z s d).addr a) t.0) i)) (λ i. i)
                        (two (p.code.par s d));
                  };
                },
                eqb-true (val_of p v m E z s d).addr a (and_2 (not (p.code.par s d)) (eqb (val_of p v m E z s d).addr a) t.0),
                sym t.1 ∙ w ∙ q,
              )

          str : (z : ℕ) → rem_b p v m E z ≡ true → max_n p.S (in_stripe p v m E a z) ≡ best_stamp p v m E a
              → (max_n p.S (in_stripe p v m E a z) ≡ 0) ⊎ ((s : ℕ) × (s < p.S) × (in_stripe p v m E a z s ≡ max_n p.S (in_stripe p v m E a z)))
              → (x : Val) × Counted p g.hd v m x × (x.addr ≡ a) × (x.stamp ≡ best_stamp p v m E a)
          str z r q (inl w) = absurd (let j : ⊥ = omega (arith, w, q, e) in j)
          str z r q (inr (s, l, w)) =
              let t : (count_b p v m E z s ≡ true) × (in_stripe p v m E a z s ≡ max_n p.N (in_data p v m E a z s)) =
              when_pos (count_b p v m E z s) (max_n p.N (in_data p v m E a z s)) (omega (arith, w, q, e)) in
              dat z s r t.0 (sym t.1 ∙ w ∙ q) (max_some p.N (in_data p v m E a z s))

          seg : (max_n p.Z (λ (k : ℕ). in_segment p v m E a (E k)) ≡ 0) ⊎ ((z : ℕ) × (z < p.Z) × (in_segment p v m E a (E z) ≡ max_n p.Z (λ (k : ℕ). in_segment p v m E a (E k))))
              → (x : Val) × Counted p g.hd v m x × (x.addr ≡ a) × (x.stamp ≡ best_stamp p v m E a)
          seg (inl w) = absurd (let j : ⊥ = omega (arith, w, e) in j)
          seg (inr (k, l, w)) =
              let t : (rem_b p v m E (E k) ≡ true) × (in_segment p v m E a (E k) ≡ max_n p.S (in_stripe p v m E a (E k))) =
              when_pos (rem_b p v m E (E k)) (max_n p.S (in_stripe p v m E a (E k))) (omega (arith, w, e)) in
              str (E k) t.0 (sym t.1 ∙ w) (max_some p.S (in_stripe p v m E a (E k)))

  -- the restart's table reads what the facts speak of
  pub computed : Reads p g.hd v m (best_stamp p v m E)
  computed = record { most = best_most; some = some }
