-- Which record of an address holds: the rule is a strict order, and the best of a list is its top, in whatever order the list is. Assumes nothing.
use Rattle.std.specs.Prelude.{◌≡◌, refl, List, [], ◌∷◌, ◌++◌, true, false, cond, ◌&&◌, ◌||◌, ◌⊎◌, ℕ, ◌<◌, ltb, eqb}
use Rattle.std.proofs.Common.{sym, ap, ◌∙◌, subst, inl, inr, ⊎_elim, lt-ltb, le-ltb, eq-eqb, ltb-true, eqb-true, arith}
use Rattle.spec.specs.Lists.{Opt}
use Rattle.spec.specs.Lists.Opt.{none, some}
use Rattle.spec.specs.Rank.{Cand, beats, better, best, cands_of}
use Rattle.law_basic.specs.Ranges.{Test, test, and_left, and_right, keep_append}
use Rattle.law_basic.specs.Ranges.Test.{yes!, no! }
use Rattle.law_drives.specs.Best.{Tied, ApartIn, OfAddress, CandsApart, at_of}
use Rattle.law_drives.specs.Members.{In, in_keep}
use Rattle.law_drives.specs.Tests.{clash, or_cases}

-- ---- the rule as a statement

pub data Beats (a b : Cand) : Type 0 where
  by_stamp : b.stamp < a.stamp → Beats a b
  by_serial_holds : a.stamp ≡ b.stamp → b.serial < a.serial → Beats a b
  by_drive : a.stamp ≡ b.stamp → a.serial ≡ b.serial → a.drive < b.drive → Beats a b
  by_offset : a.stamp ≡ b.stamp → a.serial ≡ b.serial → a.drive ≡ b.drive → a.offset < b.offset → Beats a b

pub beats_yes : (a b : Cand) → beats a b ≡ true → Beats a b
unfolding beats
beats_yes a b q =
    let s1 = ltb b.stamp a.stamp in
    let s2 = eqb a.stamp b.stamp in
    let r1 = ltb b.serial a.serial in
    let r2 = eqb a.serial b.serial in
    let d1 = ltb a.drive b.drive in
    let d2 = eqb a.drive b.drive in
    let o1 = ltb a.offset b.offset in
    ⊎_elim (λ x. by_stamp (ltb-true b.stamp a.stamp x))
    (λ x.
    let es = eqb-true a.stamp b.stamp (and_left s2 (r1 || (r2 && (d1 || (d2 && o1)))) x) in
    ⊎_elim (λ y. by_serial_holds es (ltb-true b.serial a.serial y))
    (λ y.
    let er = eqb-true a.serial b.serial (and_left r2 (d1 || (d2 && o1)) y) in
    ⊎_elim (λ u. by_drive es er (ltb-true a.drive b.drive u))
    (λ u. by_offset es er (eqb-true a.drive b.drive (and_left d2 o1 u)) (ltb-true a.offset b.offset (and_right d2 o1 u)))
    (or_cases d1 (d2 && o1) (and_right r2 (d1 || (d2 && o1)) y)))
    (or_cases r1 (r2 && (d1 || (d2 && o1))) (and_right s2 (r1 || (r2 && (d1 || (d2 && o1)))) x)))
    (or_cases s1 (s2 && (r1 || (r2 && (d1 || (d2 && o1))))) q)

pub yes_beats : (a b : Cand) → Beats a b → beats a b ≡ true
unfolding beats
yes_beats a b (by_stamp x) = rw (lt-ltb b.stamp a.stamp x)
yes_beats a b (by_serial_holds e x) = rw (le-ltb b.stamp a.stamp (omega arith), eq-eqb a.stamp b.stamp e, lt-ltb b.serial a.serial x)
yes_beats a b (by_drive e f x) =
    rw (le-ltb b.stamp a.stamp (omega arith), eq-eqb a.stamp b.stamp e, le-ltb b.serial a.serial (omega arith), eq-eqb a.serial b.serial f, lt-ltb a.drive b.drive x)
yes_beats a b (by_offset e f g x) =
    rw (
      le-ltb b.stamp a.stamp (omega arith),
      eq-eqb a.stamp b.stamp e,
      le-ltb b.serial a.serial (omega arith),
      eq-eqb a.serial b.serial f,
      le-ltb a.drive b.drive (omega arith),
      eq-eqb a.drive b.drive g,
      lt-ltb a.offset b.offset x,
    )

-- ---- a strict order

pub beats_trans : (a b c : Cand) → Beats a b → Beats b c → Beats a c
beats_trans a b c (by_stamp x) (by_stamp y) = by_stamp (omega arith)
beats_trans a b c (by_stamp x) (by_serial_holds e y) = by_stamp (omega arith)
beats_trans a b c (by_stamp x) (by_drive e f y) = by_stamp (omega arith)
beats_trans a b c (by_stamp x) (by_offset e f g y) = by_stamp (omega arith)
beats_trans a b c (by_serial_holds u x) (by_stamp y) = by_stamp (omega arith)
beats_trans a b c (by_serial_holds u x) (by_serial_holds e y) = by_serial_holds (omega arith) (omega arith)
beats_trans a b c (by_serial_holds u x) (by_drive e f y) = by_serial_holds (omega arith) (omega arith)
beats_trans a b c (by_serial_holds u x) (by_offset e f g y) = by_serial_holds (omega arith) (omega arith)
beats_trans a b c (by_drive u w x) (by_stamp y) = by_stamp (omega arith)
beats_trans a b c (by_drive u w x) (by_serial_holds e y) = by_serial_holds (omega arith) (omega arith)
beats_trans a b c (by_drive u w x) (by_drive e f y) = by_drive (omega arith) (omega arith) (omega arith)
beats_trans a b c (by_drive u w x) (by_offset e f g y) = by_drive (omega arith) (omega arith) (omega arith)
beats_trans a b c (by_offset u w t x) (by_stamp y) = by_stamp (omega arith)
beats_trans a b c (by_offset u w t x) (by_serial_holds e y) = by_serial_holds (omega arith) (omega arith)
beats_trans a b c (by_offset u w t x) (by_drive e f y) = by_drive (omega arith) (omega arith) (omega arith)
beats_trans a b c (by_offset u w t x) (by_offset e f g y) = by_offset (omega arith) (omega arith) (omega arith) (omega arith)

pub beats_self : (a : Cand) → Beats a a → ⊥
beats_self a (by_stamp x) = omega arith
beats_self a (by_serial_holds e x) = omega arith
beats_self a (by_drive e f x) = omega arith
beats_self a (by_offset e f g x) = omega arith

pub tied_of : (a b : Cand) → beats a b ≡ false → beats b a ≡ false → Tied a b
tied_of a b p q =
    let n : Beats a b → ⊥ = λ x. clash (yes_beats a b x) p in
    let m : Beats b a → ⊥ = λ x. clash (yes_beats b a x) q in
    let t1 : ¬ (b.stamp < a.stamp) = λ x. n (by_stamp x) in
    let t2 : ¬ (a.stamp < b.stamp) = λ x. m (by_stamp x) in
    let es : a.stamp ≡ b.stamp = omega arith in
    let r1 : ¬ (b.serial < a.serial) = λ x. n (by_serial_holds es x) in
    let r2 : ¬ (a.serial < b.serial) = λ x. m (by_serial_holds (sym es) x) in
    let er : a.serial ≡ b.serial = omega arith in
    let d1 : ¬ (a.drive < b.drive) = λ x. n (by_drive es er x) in
    let d2 : ¬ (b.drive < a.drive) = λ x. m (by_drive (sym es) (sym er) x) in
    let ed : a.drive ≡ b.drive = omega arith in
    let o1 : ¬ (a.offset < b.offset) = λ x. n (by_offset es er ed x) in
    let o2 : ¬ (b.offset < a.offset) = λ x. m (by_offset (sym es) (sym er) (sym ed) x) in
    record { same_stamp = es; same_serial = er; same_drive = ed; same_offset = omega arith }

-- ---- the top of what satisfies P

-- c is the top: each other is beaten
abbrev pub TopOf : (Cand → Type 0) → Opt Cand → Type 0
TopOf P none = (d : Cand) → P d → ⊥
TopOf P (some c) = P c × ((d : Cand) → P d → (d ≡ c) ⊎ Beats c d)

better_top : (P : Cand → Type 0) (b : Opt Cand) (c : Cand) → ApartIn (λ (d : Cand). P d ⊎ (d ≡ c)) → TopOf P b → TopOf (λ (d : Cand). P d ⊎ (d ≡ c)) (better b c)
unfolding better
better_top P none c ap! t = (inr refl, λ d x. ⊎_elim (λ y. absurd (t d y)) (λ y. inl y) x)
better_top P (some b) c ap! t = go (test (beats c b)) (test (beats b c))
  where
    go : Test (beats c b) → Test (beats b c) → TopOf (λ (d : Cand). P d ⊎ (d ≡ c)) (some (cond (beats c b) c b))
    go (yes! h) k = rw h (inr refl, over)
      where
        over : (d : Cand) → P d ⊎ (d ≡ c) → (d ≡ c) ⊎ Beats c d
        over d (inr e) = inl e
        over d (inl x) = ⊎_elim (λ e. inr (subst (λ (y : Cand). Beats c y) (sym e) (beats_yes c b h))) (λ y. inr (beats_trans c b d (beats_yes c b h) y)) (t.1 d x)
    go (no! h) (yes! k) = rw h (inl t.0, over)
      where
        over : (d : Cand) → P d ⊎ (d ≡ c) → (d ≡ b) ⊎ Beats b d
        over d (inl x) = t.1 d x
        over d (inr e) = inr (subst (λ (y : Cand). Beats b y) (sym e) (beats_yes b c k))
    go (no! h) (no! k) = rw h (inl t.0, over)
      where
        over : (d : Cand) → P d ⊎ (d ≡ c) → (d ≡ b) ⊎ Beats b d
        over d (inl x) = t.1 d x
        over d (inr e) = inl (e ∙ ap! c b (inr refl) (inl t.0) (tied_of c b h k))

top_same : (P Q : Cand → Type 0) (o : Opt Cand) → ((d : Cand) → P d → Q d) → ((d : Cand) → Q d → P d) → TopOf P o → TopOf Q o
top_same P Q none f g t = λ d x. t d (g d x)
top_same P Q (some c) f g t = (f c t.0, λ d x. t.1 d (g d x))

best_top : (P : Cand → Type 0) (b : Opt Cand) (cs : List Cand) → ApartIn (λ (d : Cand). P d ⊎ In d cs) → TopOf P b → TopOf (λ (d : Cand). P d ⊎ In d cs) (best b cs)
unfolding best
best_top P b [] ap! t = top_same P (λ (d : Cand). P d ⊎ ⊥) b (λ d x. inl x) (λ d x. ⊎_elim (λ y. y) (λ y. absurd y) x) t
best_top P b (c ∷ cs) ap! t =
    let Q : Cand → Type 0 = λ (d : Cand). P d ⊎ (d ≡ c) in
    let f : (d : Cand) → Q d ⊎ In d cs → P d ⊎ ((d ≡ c) ⊎ In d cs) = λ d x. ⊎_elim (λ y. ⊎_elim (λ z. inl z) (λ z. inr (inl z)) y) (λ y. inr (inr y)) x in
    let g : (d : Cand) → P d ⊎ ((d ≡ c) ⊎ In d cs) → Q d ⊎ In d cs = λ d x. ⊎_elim (λ y. inl (inl y)) (λ y. ⊎_elim (λ z. inl (inr z)) (λ z. inr z) y) x in
    let h : (d : Cand) → Q d → P d ⊎ ((d ≡ c) ⊎ In d cs) = λ d x. f d (inl x) in
    top_same (λ (d : Cand). Q d ⊎ In d cs) (λ (d : Cand). P d ⊎ ((d ≡ c) ⊎ In d cs)) (best (better b c) cs) f g
    (best_top Q (better b c) cs (λ x y u w k. ap! x y (f x u) (f y w) k)
    (better_top P b c (λ x y u w k. ap! x y (h x u) (h y w) k) t))

pub of_at : (a : ℕ) (cs : List Cand) (d : Cand) → OfAddress a cs d → In d (cands_of a cs)
unfolding cands_of
of_at a cs d m = in_keep (λ (c : Cand). eqb c.address a) cs d m.0 (eq-eqb d.address a m.1)

pub top_of_lem : (a : ℕ) (cs : List Cand) → CandsApart cs → TopOf (OfAddress a cs) (best none (cands_of a cs))
top_of_lem a cs ap! =
    top_same (λ (d : Cand). ⊥ ⊎ In d (cands_of a cs)) (OfAddress a cs) (best none (cands_of a cs))
    (λ d x. ⊎_elim (λ y. absurd y) (λ y. at_of a cs d y) x) (λ d x. inr (of_at a cs d x))
    (best_top (λ (d : Cand). ⊥) none (cands_of a cs)
    (λ x y u w k. ap! x y (⊎_elim (λ z. absurd z) (λ z. (at_of a cs x z).0) u) (⊎_elim (λ z. absurd z) (λ z. (at_of a cs y z).0) w) k)
    (λ d x. x))

-- there is one top
pub one_top : (P : Cand → Type 0) (o o' : Opt Cand) → TopOf P o → TopOf P o' → o ≡ o'
one_top P none none t u = refl
one_top P none (some c) t u = absurd (t c u.0)
one_top P (some c) none t u = absurd (u c t.0)
one_top P (some b) (some c) t u = ⊎_elim (λ e. ap some (sym e)) (λ x. ⊎_elim (λ e. ap some e) (λ y. absurd (beats_self b (beats_trans b c b x y))) (u.1 b t.0)) (t.1 c u.0)

-- the same records, the same best
pub same_best : (a : ℕ) (xs ys : List Cand) → CandsApart ys → ((d : Cand) → d.address ≡ a → In d xs → In d ys) → ((d : Cand) → d.address ≡ a → In d ys → In d xs)
    → best none (cands_of a xs) ≡ best none (cands_of a ys)
same_best a xs ys ap! f g =
    let P : Cand → Type 0 = λ (d : Cand). In d (cands_of a xs) in
    let aps : ApartIn (λ (d : Cand). ⊥ ⊎ In d (cands_of a xs)) =
    λ x y u w k. ⊎_elim (λ z. absurd z) (λ z. ⊎_elim (λ t. absurd t)
    (λ t. ap! x y (f x (at_of a xs x z).1 (at_of a xs x z).0) (f y (at_of a xs y t).1 (at_of a xs y t).0) k) w) u in
    one_top (OfAddress a ys) (best none (cands_of a xs)) (best none (cands_of a ys))
    (top_same (λ (d : Cand). ⊥ ⊎ In d (cands_of a xs)) (OfAddress a ys) (best none (cands_of a xs))
    (λ d x. ⊎_elim (λ y. absurd y) (λ y. (f d (at_of a xs d y).1 (at_of a xs d y).0, (at_of a xs d y).1)) x)
    (λ d x. inr (of_at a xs d (g d x.1 x.0, x.1)))
    (best_top (λ (d : Cand). ⊥) none (cands_of a xs) aps (λ d x. x)))
    (top_of_lem a ys ap!)

-- fewer records, the best among them, the same best
pub fewer-best : (a : ℕ) (xs ys : List Cand) → CandsApart xs → ((d : Cand) → In d ys → In d xs) → ((c : Cand) → best none (cands_of a xs) ≡ some c → In c ys)
    → best none (cands_of a ys) ≡ best none (cands_of a xs)
fewer-best a xs ys ap! f g =
    one_top (OfAddress a ys) (best none (cands_of a ys)) (best none (cands_of a xs)) (top_of_lem a ys (λ x y u w k. ap! x y (f x u) (f y w) k))
    (go (best none (cands_of a xs)) refl (top_of_lem a xs ap!))
  where
    go : (o : Opt Cand) → best none (cands_of a xs) ≡ o → TopOf (OfAddress a xs) o → TopOf (OfAddress a ys) o
    go none e t = λ d x. t d (f d x.0, x.1)
    go (some c) e t = ((g c e, t.0.1), λ d x. t.1 d (f d x.0, x.1))

pub cands_append : (a : ℕ) (xs ys : List Cand) → cands_of a (xs ++ ys) ≡ cands_of a xs ++ cands_of a ys
unfolding cands_of
cands_append a xs ys = keep_append (λ (c : Cand). eqb c.address a) xs ys
