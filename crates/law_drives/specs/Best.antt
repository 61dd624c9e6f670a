-- The best record of an address: it is one of the list, and a list in two parts has the better of two.
use Rattle.std.specs.Prelude.{◌≡◌, refl, List, [], ◌∷◌, ◌++◌, ◌⊎◌, ℕ, eqb, ltb, length}
use Rattle.std.proofs.Common.{sym, ap, ◌∙◌, inl, inr, ⊎_elim, eqb-true, arith}
use Rattle.spec.specs.Lists.{Opt}
use Rattle.spec.specs.Lists.Opt.{none, some}
use Rattle.spec.specs.Rank.{Cand, beats, better, best, cands_of}
use Rattle.spec.specs.Reclaim.{Victim, fewer}
use Rattle.law_basic.specs.Ranges.{Test, test}
use Rattle.law_basic.specs.Ranges.Test.{yes!, no! }
use Rattle.law_drives.specs.Members.{In, keep_in}
use Rattle.law_drives.specs.Tests.{cond_true, cond_false}

-- two records that the rule doesn't tell apart
pub record Tied (a b : Cand) : Type 0 where
  pub same_stamp : a.stamp ≡ b.stamp
  pub same_serial : a.serial ≡ b.serial
  pub same_drive : a.drive ≡ b.drive
  pub same_offset : a.offset ≡ b.offset

-- records of P that are tied are the same
abbrev pub ApartIn : (Cand → Type 0) → Type 0
ApartIn P = (c d : Cand) → P c → P d → Tied c d → c ≡ d

-- ---- by address

-- the records of an address in a list
abbrev pub OfAddress : ℕ → List Cand → Cand → Type 0
OfAddress a cs d = In d cs × (d.address ≡ a)

abbrev pub CandsApart : List Cand → Type 0
CandsApart cs = ApartIn (λ (d : Cand). In d cs)

pub at_of : (a : ℕ) (cs : List Cand) (d : Cand) → In d (cands_of a cs) → OfAddress a cs d
unfolding cands_of
at_of a cs d m = let (i, q) = keep_in (λ (c : Cand). eqb c.address a) cs d m in (i, eqb-true d.address a q)

pub some_is : {b c : Cand} → some b ≡ some c → b ≡ c
some_is e = cc

better_is : (b : Opt Cand) (d c : Cand) → better b d ≡ some c → (b ≡ some c) ⊎ (c ≡ d)
unfolding better
better_is none d c q = inr (sym (some_is q))
better_is (some h) d c q = go (test (beats d h))
  where
    go : Test (beats d h) → (some h ≡ some c) ⊎ (c ≡ d)
    go (yes! e) = let x : some d ≡ some c = rw e at q in inr (sym (some_is x))
    go (no! e) = let x : some h ≡ some c = rw e at q in inl x

best_of : (b : Opt Cand) (l : List Cand) (c : Cand) → best b l ≡ some c → (b ≡ some c) ⊎ In c l
unfolding best
best_of b [] c q = inl q
best_of b (d ∷ l) c q = two (best_of (better b d) l c q)
  where
    two : (better b d ≡ some c) ⊎ In c l → (b ≡ some c) ⊎ ((c ≡ d) ⊎ In c l)
    two (inr m) = inr (inr m)
    two (inl w) = ⊎_elim (λ x. inl x) (λ x. inr (inl x)) (better_is b d c w)

-- what holds is of the list, and of the address
pub best_in : (a : ℕ) (cs : List Cand) (c : Cand) → best none (cands_of a cs) ≡ some c → In c cs × (c.address ≡ a)
best_in a cs c e = at_of a cs c (go (best_of none (cands_of a cs) c e))
  where
    go : (none ≡ some c) ⊎ In c (cands_of a cs) → In c (cands_of a cs)
    go (inl x) = absurd (let z : ◌≡◌ {A = ℕ} 0 1 = cc in let q : ⊥ = omega arith in q)
    go (inr m) = m

-- ---- one list after the other

pub best-append : (b : Opt Cand) (xs ys : List Cand) → best b (xs ++ ys) ≡ best (best b xs) ys
unfolding best
best-append b [] ys = refl
best-append b (x ∷ xs) ys = best-append (better b x) xs ys

pub fewer_is : (a : Opt Victim) (b w : Victim) → fewer a b ≡ some w → (a ≡ some w) ⊎ (w ≡ b)
unfolding fewer
fewer_is none b w q = inr (let e : b ≡ w = cc in sym e)
fewer_is (some a) b w q = go (test (ltb (length b.live) (length a.live)))
  where
    go : Test (ltb (length b.live) (length a.live)) → (some a ≡ some w) ⊎ (w ≡ b)
    go (yes! e) = let x : some b ≡ some w = ap some (sym (cond_true (ltb (length b.live) (length a.live)) b a e)) ∙ q in inr (let y : b ≡ w = cc in sym y)
    go (no! e) = inl (ap some (sym (cond_false (ltb (length b.live) (length a.live)) b a e)) ∙ q)
