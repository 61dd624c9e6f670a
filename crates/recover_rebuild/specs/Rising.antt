-- Zones by rising serial, the least first (01, Rebuild; 02, item 4). Assumes nothing.
use Rattle.std.specs.Prelude.{◌≡◌, Bool, true, cond, ◌&&◌, ◌⊎◌}
use Rattle.std.proofs.Math.Path.{refl, ap}
use Rattle.std.proofs.Common.{sym, ap₂, ◌∙◌, subst, inl, inr, ⊎_elim, ltb-true, lt-ltb, le-ltb}
use mathlib.Core.List.{List, [], ◌∷◌, map}
use Rattle.std.proofs.Math.Bool.{false}
use Prim.Native.Nat.{ℕ, zero, suc, ◌+◌, ◌≤◌, ◌<◌}
use Rattle.std.proofs.Math.Decide.{ℕ_discrete}
use native.Mathlib.Omega.{arith}
use Rattle.std.proofs.Math.Dec.{ltb}
use Rattle.std.proofs.Math.ListN.{get_or}
use Rattle.spec.specs.Lists.{up_from, below, cons_if, keep}
use Rattle.spec.specs.Rebuild.{insert_segment, by_serial}
use Rattle.spec.specs.Segments.{Segment}
use Rattle.law_basic.specs.Ranges.{Test, test, and_left, and_right, and_both, keep-below_same}
use Rattle.law_basic.specs.Ranges.Test.{yes!, no! }
use Rattle.law_drives.specs.Members.{In, keep_in, keep_cong, keep_nothing, from_in, below_in}
use Rattle.law_drives.specs.Tests.{and_false_left, and_false_right, cond_true, cond_false, not_so}

-- ---- numbers

rising_less : (a b : ℕ) → a ≤ b → (a ≡ b → ⊥) → a < b
rising_less zero zero h q = absurd (q refl)
rising_less zero (suc b) h q = omega arith
rising_less (suc a) zero h q = absurd (let k : ⊥ = omega arith in k)
rising_less (suc a) (suc b) h q = let k : a < b = rising_less a b (omega arith) (λ i. q (ap suc i)) in omega arith

-- a zone among others by rising serial
unfoldable pub insert_zone : (ℕ → ℕ) → ℕ → List ℕ → List ℕ
insert_zone s z [] = z ∷ []
insert_zone s z (y ∷ l) = cond (ltb (s y) (s z)) (y ∷ insert_zone s z l) (z ∷ y ∷ l)

unfoldable pub rising-rising : (ℕ → ℕ) → List ℕ → List ℕ
rising-rising s [] = []
rising-rising s (z ∷ l) = insert_zone s z (rising-rising s l)

rising_inserted_in : (s : ℕ → ℕ) (z x : ℕ) (l : List ℕ) → In x (insert_zone s z l) → (x ≡ z) ⊎ In x l
unfolding insert_zone
rising_inserted_in s z x [] m = m
rising_inserted_in s z x (y ∷ l) k = go (ltb (s y) (s z)) (rising_inserted_in s z x l) k
  where
    go : (b : Bool) → (In x (insert_zone s z l) → (x ≡ z) ⊎ In x l) → In x (cond b (y ∷ insert_zone s z l) (z ∷ y ∷ l)) → (x ≡ z) ⊎ In x (y ∷ l)
    go true ih (inl e) = inr (inl e)
    go true ih (inr m) = ⊎_elim {A = x ≡ z} {B = In x l} (λ e. inl e) (λ i. inr (inr i)) (ih m)
    go false ih m = m

pub rising-rising_in : (s : ℕ → ℕ) (l : List ℕ) (x : ℕ) → In x (rising-rising s l) → In x l
unfolding rising-rising
rising-rising_in s [] x m = m
rising-rising_in s (z ∷ l) x m = go (rising_inserted_in s z x (rising-rising s l) m) (rising-rising_in s l x)
  where
    go : (x ≡ z) ⊎ In x (rising-rising s l) → (In x (rising-rising s l) → In x l) → (x ≡ z) ⊎ In x l
    go (inl e) ih = inl e
    go (inr k) ih = inr (ih k)

-- ---- of segments

inserts : (f : ℕ → Segment) (s : ℕ → ℕ) (z : ℕ) → (f z).serial ≡ s z → (l : List ℕ) → ((y : ℕ) → In y l → (f y).serial ≡ s y)
    → insert_segment (f z) (map f l) ≡ map f (insert_zone s z l)
unfolding insert_segment insert_zone
inserts f s z h [] q = refl
inserts f s z h (y ∷ l) q =
    ap₂ (λ (a b : ℕ). cond (ltb a b) (f y ∷ insert_segment (f z) (map f l)) (f z ∷ f y ∷ map f l)) (q y (inl refl)) h ∙ go (ltb (s y) (s z)) (inserts f s z h l (λ x i. q x (inr i)))
  where
    go : (b : Bool) → insert_segment (f z) (map f l) ≡ map f (insert_zone s z l)
        → cond b (f y ∷ insert_segment (f z) (map f l)) (f z ∷ f y ∷ map f l) ≡ map f (cond b (y ∷ insert_zone s z l) (z ∷ y ∷ l))
    go true e = ap (λ (x : List Segment). f y ∷ x) e
    go false e = refl

-- the segments of zones by rising serial
pub serial_rising : (f : ℕ → Segment) (s : ℕ → ℕ) (l : List ℕ) → ((z : ℕ) → In z l → (f z).serial ≡ s z) → by_serial (map f l) ≡ map f (rising-rising s l)
unfolding by_serial rising-rising
serial_rising f s [] h = refl
serial_rising f s (z ∷ l) h =
    ap (insert_segment (f z)) (serial_rising f s l (λ y m. h y (inr m))) ∙ inserts f s z (h z (inl refl)) (rising-rising s l) (λ y m. h y (inr (rising-rising_in s l y m)))

-- ---- the least first

insert_least : (s : ℕ → ℕ) (z : ℕ) (l : List ℕ) → ((y : ℕ) → In y l → s z < s y) → insert_zone s z l ≡ z ∷ l
unfolding insert_zone
insert_least s z [] h = refl
insert_least s z (y ∷ l) h =
    let q : s z < s y = h y (inl refl) in
    cond_false (ltb (s y) (s z)) (y ∷ insert_zone s z l) (z ∷ y ∷ l) (le-ltb (s y) (s z) (omega arith))

insert_more : (s : ℕ → ℕ) (z y : ℕ) (l : List ℕ) → s y < s z → insert_zone s z (y ∷ l) ≡ y ∷ insert_zone s z l
unfolding insert_zone
insert_more s z y l h = cond_true (ltb (s y) (s z)) (y ∷ insert_zone s z l) (z ∷ y ∷ l) (lt-ltb (s y) (s z) h)

keep_yes : (f : ℕ → Bool) (a : ℕ) (l : List ℕ) → f a ≡ true → keep f (a ∷ l) ≡ a ∷ keep f l
unfolding keep cons_if
keep_yes f a l q = rw q

rising-keep_no : (f : ℕ → Bool) (a : ℕ) (l : List ℕ) → f a ≡ false → keep f (a ∷ l) ≡ keep f l
unfolding keep cons_if
rising-keep_no f a l q = rw q

rising-cons : (s : ℕ → ℕ) (z : ℕ) (l : List ℕ) → rising-rising s (z ∷ l) ≡ insert_zone s z (rising-rising s l)
unfolding rising-rising
rising-cons s z l = refl

-- of the zones that pass a test, that with the least serial, then those with greater ones
rising_next : (s : ℕ → ℕ) (f : ℕ → Bool) (z b n : ℕ) → b ≤ z → z < b + n → f z ≡ true
    → ((y : ℕ) → b ≤ y → y < b + n → f y ≡ true → (y ≡ z) ⊎ (s z < s y))
    → rising-rising s (keep f (up_from b n)) ≡ z ∷ rising-rising s (keep (λ y. f y && ltb (s z) (s y)) (up_from b n))
unfolding up_from
rising_next s f z b zero l h t least = absurd (let q : ⊥ = omega arith in q)
rising_next s f z b (suc n) l h t least = go (ℕ_discrete b z) (test (f b))
    (λ k. rising_next s f z (suc b) n k (omega arith) t (λ y i j q. least y (omega arith) (omega arith) q))
  where
    g : ℕ → Bool
    g y = f y && ltb (s z) (s y)

    us : List ℕ
    us = up_from (suc b) n

    go : Dec (b ≡ z) → Test (f b) → (suc b ≤ z → rising-rising s (keep f us) ≡ z ∷ rising-rising s (keep g us))
        → rising-rising s (keep f (b ∷ us)) ≡ z ∷ rising-rising s (keep g (b ∷ us))
    go (yes e) q ih =
        ap (rising-rising s) (keep_yes f b us (ap f e ∙ t)) ∙ rising-cons s b (keep f us)
        ∙ insert_least s b (rising-rising s (keep f us)) (λ y m. above y (keep_in f us y (rising-rising_in s (keep f us) y m)))
        ∙ ap₂ (λ (x : ℕ) (k : List ℕ). x ∷ rising-rising s k) e
        (keep_cong f g us (λ y m. same y m (test (f y))) ∙ sym (rising-keep_no g b us (and_false_right (f b) (ltb (s z) (s b)) (le-ltb (s z) (s b) (self e)))))
      where
        self : b ≡ z → s b ≤ s z
        self e = let q : s b ≡ s z = ap s e in omega arith

        higher : (y : ℕ) → In y us → f y ≡ true → s z < s y
        higher y m q =
            let (i, j) = from_in (suc b) n y m in
            ⊎_elim {A = y ≡ z} {B = s z < s y} (λ x. absurd (let k : ⊥ = omega arith in k)) (λ x. x) (least y (omega arith) (omega arith) q)

        above : (y : ℕ) → In y us × (f y ≡ true) → s b < s y
        above y (m, q) = let k : s z < s y = higher y m q in let w : s b ≡ s z = ap s e in omega arith

        same : (y : ℕ) → In y us → Test (f y) → f y ≡ g y
        same y m (yes! q) = q ∙ sym (and_both (f y) (ltb (s z) (s y)) q (lt-ltb (s z) (s y) (higher y m q)))
        same y m (no! q) = q ∙ sym (and_false_left (f y) (ltb (s z) (s y)) q)
    go (no x) (no! q) ih =
        ap (rising-rising s) (rising-keep_no f b us q) ∙ ih (rising_less b z l x)
        ∙ ap (λ (k : List ℕ). z ∷ rising-rising s k) (sym (rising-keep_no g b us (and_false_left (f b) (ltb (s z) (s b)) q)))
    go (no x) (yes! q) ih =
        let k : s z < s b = ⊎_elim {A = b ≡ z} {B = s z < s b} (λ e. absurd (x e)) (λ e. e) (least b (omega arith) (omega arith) q) in
        ap (rising-rising s) (keep_yes f b us q) ∙ rising-cons s b (keep f us) ∙ ap (insert_zone s b) (ih (rising_less b z l x)) ∙ insert_more s b z (rising-rising s (keep g us)) k
        ∙ ap (λ (l : List ℕ). z ∷ l) (sym (ap (rising-rising s) (keep_yes g b us (and_both (f b) (ltb (s z) (s b)) q (lt-ltb (s z) (s b) k))) ∙ rising-cons s b (keep g us)))

-- ---- flagged zones with serials above one

-- the flagged zones whose serials are above last, by rising serial
unfoldable pub rising-in_order : ℕ → List Bool → List ℕ → ℕ → List ℕ
rising-in_order n fl ns last = rising-rising (λ z. get_or ns z 0) (keep (λ z. get_or fl z false && ltb last (get_or ns z 0)) (below n))

pub order_in : (n : ℕ) (fl : List Bool) (ns : List ℕ) (last z : ℕ) → In z (rising-in_order n fl ns last) → (z < n) × (get_or fl z false ≡ true)
unfolding rising-in_order
order_in n fl ns last z m =
    let f : ℕ → Bool = λ y. get_or fl y false && ltb last (get_or ns y 0) in
    let (i, q) = keep_in f (below n) z (rising-rising_in (λ y. get_or ns y 0) (keep f (below n)) z m) in
    (below_in n z i, and_left (get_or fl z false) (ltb last (get_or ns z 0)) q)

-- of the first n zones, r is a flagged one with the least serial above last; e: there is none
pub record RisingNext (e : ℕ) (fl : List Bool) (ns : List ℕ) (last n r : ℕ) : Type 0 where
  pub upto : r ≤ e
  pub is_one : r < e → (get_or fl r false ≡ true) × (last < get_or ns r 0)
  pub least : (y : ℕ) → y < n → get_or fl y false ≡ true → last < get_or ns y 0 → (r < e) × (get_or ns r 0 ≤ get_or ns y 0)

module _ (e : ℕ) (fl : List Bool) (ns : List ℕ) (last : ℕ) where
  pub next_first : RisingNext e fl ns last 0 e
  next_first = record { upto = omega arith; is_one = λ h. absurd (let q : ⊥ = omega arith in q); least = λ y h f g. absurd (let q : ⊥ = omega arith in q) }

  last_or : (y z : ℕ) → y < z + 1 → (y < z) ⊎ (y ≡ z)
  last_or y z h = go (ℕ_discrete y z)
    where
      go : Dec (y ≡ z) → (y < z) ⊎ (y ≡ z)
      go (yes q) = inr q
      go (no q) = inl (rising_less y z (omega arith) q)

  -- zone z is none, or not below it
  pub next_stays : (z r : ℕ) → RisingNext e fl ns last z r → (get_or fl z false ≡ true → last < get_or ns z 0 → (r < e) × (get_or ns r 0 ≤ get_or ns z 0))
      → RisingNext e fl ns last (z + 1) r
  next_stays z r x h = record { upto = x.upto; is_one = x.is_one; least = λ y k f g. go y f g (last_or y z k) }
    where
      go : (y : ℕ) → get_or fl y false ≡ true → last < get_or ns y 0 → (y < z) ⊎ (y ≡ z) → (r < e) × (get_or ns r 0 ≤ get_or ns y 0)
      go y f g (inl k) = x.least y k f g
      go y f g (inr k) = subst (λ (i : ℕ). (r < e) × (get_or ns r 0 ≤ get_or ns i 0)) (sym k)
          (h (subst (λ (i : ℕ). get_or fl i false ≡ true) k f) (subst (λ (i : ℕ). last < get_or ns i 0) k g))

  -- zone z is it
  pub next_takes : (z r : ℕ) → RisingNext e fl ns last z r → z < e → get_or fl z false ≡ true → last < get_or ns z 0 → (r < e → get_or ns z 0 ≤ get_or ns r 0)
      → RisingNext e fl ns last (z + 1) z
  next_takes z r x hz f g h = record { upto = omega arith; is_one = λ _. (f, g); least = λ y k i j. go y i j (last_or y z k) }
    where
      go : (y : ℕ) → get_or fl y false ≡ true → last < get_or ns y 0 → (y < z) ⊎ (y ≡ z) → (z < e) × (get_or ns z 0 ≤ get_or ns y 0)
      go y i j (inl k) = let (a, b) = x.least y k i j in (hz, (let c = h a in omega arith))
      go y i j (inr k) = (hz, (let c : get_or ns z 0 ≡ get_or ns y 0 = ap (λ (i : ℕ). get_or ns i 0) (sym k) in omega arith))

  module _ (z : ℕ) (x : RisingNext e fl ns last e z) where
    pub order_end : e ≤ z → rising-in_order e fl ns last ≡ []
    order_end h = unfold rising-in_order in (ap (rising-rising (λ y. get_or ns y 0))
        (keep_nothing (λ y. get_or fl y false && ltb last (get_or ns y 0)) (below e) (λ y m. not_so (get_or fl y false && ltb last (get_or ns y 0))
        (λ q. let k = (x.least y (below_in e y m) (and_left (get_or fl y false) (ltb last (get_or ns y 0)) q)
        (ltb-true last (get_or ns y 0) (and_right (get_or fl y false) (ltb last (get_or ns y 0)) q))).0 in
        let o : ⊥ = omega arith in o))) ∙ none!)
      where
        none! : rising-rising (λ y. get_or ns y 0) [] ≡ []
        none! = unfold rising-rising in refl

    -- that zone is the first of them
    pub order_next : z < e → ((y w : ℕ) → y < e → w < e → get_or fl y false ≡ true → get_or fl w false ≡ true → get_or ns y 0 ≡ get_or ns w 0 → y ≡ w)
        → rising-in_order e fl ns last ≡ z ∷ rising-in_order e fl ns (get_or ns z 0)
    order_next hz once = unfold rising-in_order below in
        (rising_next s (λ y. get_or fl y false && ltb last (s y)) z 0 e (omega arith) (omega arith) (and_both (get_or fl z false) (ltb last (s z)) (x.is_one hz).0 (lt-ltb last (s z) (x.is_one hz).1))
        (λ y _ h q. or y (omega arith) (and_left (get_or fl y false) (ltb last (s y)) q) (ltb-true last (s y) (and_right (get_or fl y false) (ltb last (s y)) q)) (ℕ_discrete y z))
        ∙ ap (λ (l : List ℕ). z ∷ rising-rising s l) (keep_cong (λ y. (get_or fl y false && ltb last (s y)) && ltb (s z) (s y)) (λ y. get_or fl y false && ltb (s z) (s y)) (up_from 0 e)
        (λ y _. drop! y (get_or fl y false) (test (ltb (s z) (s y))))))
      where
        s : ℕ → ℕ
        s y = get_or ns y 0

        or : (y : ℕ) → y < e → get_or fl y false ≡ true → last < s y → Dec (y ≡ z) → (y ≡ z) ⊎ (s z < s y)
        or y h f g (yes q) = inl q
        or y h f g (no q) = inr (rising_less (s z) (s y) (x.least y h f g).1 (λ i. q (once y z h hz f (x.is_one hz).0 (sym i))))

        drop! : (y : ℕ) (b : Bool) → Test (ltb (s z) (s y)) → (b && ltb last (s y)) && ltb (s z) (s y) ≡ b && ltb (s z) (s y)
        drop! y b (no! q) = and_false_right (b && ltb last (s y)) (ltb (s z) (s y)) q ∙ sym (and_false_right b (ltb (s z) (s y)) q)
        drop! y b (yes! q) =
            let k : last < s z = (x.is_one hz).1 in
            let l : s z < s y = ltb-true (s z) (s y) q in
            let t : ltb last (s y) ≡ true = lt-ltb last (s y) (omega arith) in
            ap (λ (i : Bool). (b && i) && ltb (s z) (s y)) t ∙ ap (λ (i : Bool). i && ltb (s z) (s y)) (and_true! b)
          where
            and_true! : (b : Bool) → b && true ≡ b
            and_true! true = refl
            and_true! false = refl

-- with serials above 0 they are all that are flagged
pub order_all : (n : ℕ) (fl : List Bool) (ns : List ℕ) → ((z : ℕ) → z < n → get_or fl z false ≡ true → 0 < get_or ns z 0)
    → rising-in_order n fl ns 0 ≡ rising-rising (λ z. get_or ns z 0) (keep (λ z. get_or fl z false) (below n))
unfolding rising-in_order
order_all n fl ns h = ap (rising-rising (λ z. get_or ns z 0))
    (keep-below_same (λ z. get_or fl z false && ltb 0 (get_or ns z 0)) (λ z. get_or fl z false) n (λ z hz. go z hz (test (get_or fl z false))))
  where
    go : (z : ℕ) → z < n → Test (get_or fl z false) → (get_or fl z false && ltb 0 (get_or ns z 0)) ≡ get_or fl z false
    go z hz (yes! q) = and_both (get_or fl z false) (ltb 0 (get_or ns z 0)) q (lt-ltb 0 (get_or ns z 0) (h z hz q)) ∙ sym q
    go z hz (no! q) = and_false_left (get_or fl z false) (ltb 0 (get_or ns z 0)) q ∙ sym q
