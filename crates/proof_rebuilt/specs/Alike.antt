-- Two lists of candidates, one for one alike: the rule picks alike ones, where it puts alike ones in the same order. Assumes nothing.
use Rattle.std.specs.Prelude.{◌≡◌, refl, Bool, cond, ◌&&◌, ◌||◌, ℕ, ltb}
use Rattle.std.proofs.Math.Path.{ap, subst}
use Rattle.std.proofs.Common.{◌∙◌, inl, inr, eqb-true}
use mathlib.Core.List.{List, [], ◌∷◌, ◌++◌, map}
use Rattle.std.proofs.Math.Bool.{true, false}
use Rattle.std.proofs.Math.Dec.{eqb}
use Rattle.spec.specs.Lists.{Opt, cons_if, keep, flat}
use Rattle.spec.specs.Lists.Opt.{none, some}
use Rattle.spec.specs.Rank.{Cand, beats, better, best, cands_of}
use Rattle.law_basic.specs.Ranges.{Test, test}
use Rattle.law_basic.specs.Ranges.Test.{yes!, no! }
use Rattle.law_drives.specs.Members.{In}

-- one for one
abbrev pub Alike : (Cand → Cand → Type 0) → List Cand → List Cand → Type 0
Alike R [] [] = Unit {0}
Alike R [] (c ∷ l) = ⊥
Alike R (c ∷ l) [] = ⊥
Alike R (c ∷ k) (e ∷ l) = R c e × Alike R k l

-- both, or none
abbrev pub AlikeOr : (Cand → Cand → Type 0) → Opt Cand → Opt Cand → Type 0
AlikeOr R none none = Unit {0}
AlikeOr R none (some c) = ⊥
AlikeOr R (some c) none = ⊥
AlikeOr R (some c) (some e) = R c e

module _ (R : Cand → Cand → Type 0) where
  pub alike_append : (k l k' l' : List Cand) → Alike R k k' → Alike R l l' → Alike R (k ++ l) (k' ++ l')
  alike_append [] l [] l' a b = b
  alike_append [] l (c ∷ k') l' a b = absurd a
  alike_append (c ∷ k) l [] l' a b = absurd a
  alike_append (c ∷ k) l (e ∷ k') l' a b = (a.0, alike_append k l k' l' a.1 b)

  pub alike_map : {A : Type 0} (f h : A → Cand) (l : List A) → ((a : A) → In a l → R (f a) (h a)) → Alike R (map f l) (map h l)
  alike_map f h [] q = tt
  alike_map f h (a ∷ l) q = (q a (inl refl), alike_map f h l (λ b m. q b (inr m)))

  pub alike_flat : {A : Type 0} (f h : A → List Cand) (l : List A) → ((a : A) → In a l → Alike R (f a) (h a)) → Alike R (flat f l) (flat h l)
  unfolding flat
  alike_flat f h [] q = tt
  alike_flat f h (a ∷ l) q = alike_append (f a) (flat f l) (h a) (flat h l) (q a (inl refl)) (alike_flat f h l (λ b m. q b (inr m)))

  alike_keep : (f : Cand → Bool) → ((c e : Cand) → R c e → f c ≡ f e) → (k l : List Cand) → Alike R k l → Alike R (keep f k) (keep f l)
  unfolding keep cons_if
  alike_keep f h [] [] a = tt
  alike_keep f h [] (e ∷ l) a = absurd a
  alike_keep f h (c ∷ k) [] a = absurd a
  alike_keep f h (c ∷ k) (e ∷ l) a = go (f c) (f e) (h c e a.0) (alike_keep f h k l a.1)
    where
      go : (x y : Bool) → x ≡ y → Alike R (keep f k) (keep f l) → Alike R (cons_if x c (keep f k)) (cons_if y e (keep f l))
      go x y q ih = subst (λ (z : Bool). Alike R (cons_if x c (keep f k)) (cons_if z e (keep f l))) q (two x ih)
        where
          two : (x : Bool) → Alike R (keep f k) (keep f l) → Alike R (cons_if x c (keep f k)) (cons_if x e (keep f l))
          two true ih = (a.0, ih)
          two false ih = ih

  module _ (same : (c e b f : Cand) → R c e → R b f → beats c b ≡ beats e f) where
    alike_better : (b f : Opt Cand) (c e : Cand) → AlikeOr R b f → R c e → AlikeOr R (better b c) (better f e)
    unfolding better
    alike_better none none c e a q = q
    alike_better none (some f) c e a q = absurd a
    alike_better (some b) none c e a q = absurd a
    alike_better (some b) (some f) c e a q = subst (λ (z : Bool). R (cond (beats c b) c b) (cond z e f)) (same c e b f q a) (two (beats c b))
      where
        two : (z : Bool) → R (cond z c b) (cond z e f)
        two true = q
        two false = a

    alike_best_of : (b f : Opt Cand) (k l : List Cand) → AlikeOr R b f → Alike R k l → AlikeOr R (best b k) (best f l)
    unfolding best
    alike_best_of b f [] [] a q = a
    alike_best_of b f [] (e ∷ l) a q = absurd q
    alike_best_of b f (c ∷ k) [] a q = absurd q
    alike_best_of b f (c ∷ k) (e ∷ l) a q = alike_best_of (better b c) (better f e) k l (alike_better b f c e a q.0) q.1

    pub alike_best : (a : ℕ) → ((c e : Cand) → R c e → c.address ≡ e.address) → (k l : List Cand) → Alike R k l → AlikeOr R (best none (cands_of a k)) (best none (cands_of a l))
    unfolding cands_of
    alike_best a h k l q = alike_best_of none none (keep (λ (c : Cand). eqb c.address a) k) (keep (λ (c : Cand). eqb c.address a) l) tt
        (alike_keep (λ (c : Cand). eqb c.address a) (λ c e x. ap (λ (n : ℕ). eqb n a) (h c e x)) k l q)

-- same stamps, serials and drives: the offsets decide, within a segment and drive
pub beats_same : (c e b f : Cand) → c.stamp ≡ e.stamp → b.stamp ≡ f.stamp → c.serial ≡ e.serial → b.serial ≡ f.serial → c.drive ≡ e.drive → b.drive ≡ f.drive
    → (c.serial ≡ b.serial → c.drive ≡ b.drive → ltb c.offset b.offset ≡ ltb e.offset f.offset) → beats c b ≡ beats e f
unfolding beats
beats_same c e b f s1 s2 r1 r2 d1 d2 h =
    last (test (eqb c.serial b.serial)) (test (eqb c.drive b.drive))
    ∙ (λ i. ltb (s2 i) (s1 i) || (eqb (s1 i) (s2 i) && (ltb (r2 i) (r1 i) || (eqb (r1 i) (r2 i) && (ltb (d1 i) (d2 i) || (eqb (d1 i) (d2 i) && ltb e.offset f.offset))))))
  where
    whole : Bool → Bool → Bool → Bool
    whole er ed o = ltb b.stamp c.stamp || (eqb c.stamp b.stamp && (ltb b.serial c.serial || (er && (ltb c.drive b.drive || (ed && o)))))

    last : Test (eqb c.serial b.serial) → Test (eqb c.drive b.drive)
        → whole (eqb c.serial b.serial) (eqb c.drive b.drive) (ltb c.offset b.offset)
        ≡ whole (eqb c.serial b.serial) (eqb c.drive b.drive) (ltb e.offset f.offset)
    last (no! q) t = rw q
    last (yes! q) (no! t) = rw t
    last (yes! q) (yes! t) = ap (whole (eqb c.serial b.serial) (eqb c.drive b.drive)) (h (eqb-true c.serial b.serial q) (eqb-true c.drive b.drive t))
