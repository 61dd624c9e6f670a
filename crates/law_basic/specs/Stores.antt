-- Laws of stores one at a time and of the store count (01, Store count). Assumes nothing.
use Rattle.std.specs.Prelude.{◌≡◌, refl, List, [], ◌∷◌, ◌++◌, true, false, ℕ, zero, suc, ◌-◌, ◌≤◌, ◌<◌, length, take, leb}
use Rattle.std.proofs.Common.{sym, ap, ◌∙◌, arith, take_all, le-leb}
use Rattle.std.proofs.Math.Nat.{sub-zero, suc-sub-suc, zero-sub}
use Rattle.std.proofs.lemmas.Bool.{lt-leb}
use Rattle.spec.specs.Calls.{Plan, decided, mk_after, cut_memory, limited, outcome}
use Rattle.spec.specs.Calls.Verdict.{refused, due}
use Rattle.spec.specs.Drives.{Store, store_all}
use Rattle.spec.specs.Lists.{Opt}
use Rattle.spec.specs.Lists.Opt.{none, some}
use Rattle.spec.specs.Memory.{Memory}
use Rattle.spec.specs.declared.Answer.{Answer}
use Rattle.spec.specs.declared.Answer.TheVariants.{Cut}
use Rattle.spec.specs.declared.Params.{Params}

pub store_all-append : {D : Type 0} (f : Store → D → D) (ss ts : List Store) (d : D) → store_all f (ss ++ ts) d ≡ store_all f ts (store_all f ss d)
unfolding store_all
store_all-append f [] ts d = refl
store_all-append f (s ∷ ss) ts d = store_all-append f ss ts (f s d)

pub take-append : {A : Type 0} (n : ℕ) (ss ts : List A) → take n (ss ++ ts) ≡ take n ss ++ take (n - length ss) ts
take-append zero [] ts = refl
take-append (suc n) [] ts = ap (λ (k : ℕ). take k ts) (sym (sub-zero (suc n)))
take-append zero (s ∷ ss) ts = ap (λ (k : ℕ). take k ts) (sym (zero-sub (suc (length ss))))
take-append {A} (suc n) (s ∷ ss) ts =
    ap (λ (r : List A). s ∷ r) (take-append n ss ts ∙ ap (λ (k : ℕ). take n ss ++ take k ts) (sym (suc-sub-suc n (length ss))))

-- the first n stores of two parts
pub stores_append : {D : Type 0} (f : Store → D → D) (n : ℕ) (ss ts : List Store) (d : D)
    → store_all f (take n (ss ++ ts)) d ≡ store_all f (take (n - length ss) ts) (store_all f (take n ss) d)
stores_append f n ss ts d = ap (λ (x : List Store). store_all f x d) (take-append n ss ts) ∙ store_all-append f (take n ss) (take (n - length ss) ts) d

-- a store, where the count is above 0, and where it is 0
pub stores_cons : {D : Type 0} (f : Store → D → D) (n : ℕ) (s : Store) (ss : List Store) (d : D) → 0 < n
    → store_all f (take n (s ∷ ss)) d ≡ store_all f (take (n - 1) ss) (f s d)
unfolding store_all
stores_cons f zero s ss d h = absurd (let q : ⊥ = omega arith in q)
stores_cons f (suc n) s ss d h = let e : n ≡ suc n - 1 = omega arith in ap (λ (k : ℕ). store_all f (take k ss) (f s d)) e

pub stores_zero : {D : Type 0} (f : Store → D → D) (ss : List Store) (d : D) → store_all f (take 0 ss) d ≡ d
unfolding store_all
stores_zero f ss d = refl

pub stores_nil : {D : Type 0} (f : Store → D → D) (n : ℕ) (d : D) → store_all f (take n []) d ≡ d
unfolding store_all
stores_nil f zero d = refl
stores_nil f (suc n) d = refl

pub stores_all : {D : Type 0} (f : Store → D → D) (n : ℕ) (ss : List Store) (d : D) → length ss ≤ n → store_all f (take n ss) d ≡ store_all f ss d
stores_all f n ss d h = ap (λ (x : List Store). store_all f x d) (take_all n ss h)

-- 01, Store count: a refusal changes nothing; enough is all; too few is a prefix
pub refused_same : {D : Type 0} (p : Params) (f : Store → D → D) (n : ℕ) (d : D) (m : Memory) (b : List ℕ) (a : Answer) → outcome p f n d m b (refused a) ≡ mk_after a d m b
unfolding outcome
refused_same p f n d m b a = refl

pub done_all : {D : Type 0} (p : Params) (f : Store → D → D) (n : ℕ) (d : D) (m : Memory) (b : List ℕ) (q : Plan) → length q.stores ≤ n
    → outcome p f n d m b (due q) ≡ mk_after q.answer (store_all f q.stores d) q.memory q.block
unfolding outcome limited
done_all p f n d m b q h = let e : leb (length q.stores) n ≡ true = le-leb (length q.stores) n h in rw e

pub cut_prefix : {D : Type 0} (p : Params) (f : Store → D → D) (n : ℕ) (d : D) (m : Memory) (b : List ℕ) (q : Plan) → n < length q.stores
    → outcome p f n d m b (due q) ≡ mk_after Cut (store_all f (take n q.stores) d) (cut_memory p m) b
unfolding outcome limited
cut_prefix p f n d m b q h = let e : leb (length q.stores) n ≡ false = lt-leb (length q.stores) n h in rw e

-- where no store is due the count chooses nothing
pub no_count : {D : Type 0} (p : Params) (f : Store → D → D) (i n : ℕ) (d : D) (m : Memory) (b : List ℕ) (r : Opt Answer) (q : Plan) → q.stores ≡ []
    → outcome p f i d m b (decided r q) ≡ outcome p f n d m b (decided r q)
unfolding decided
no_count p f i n d m b (some a) q e = refused_same p f i d m b a ∙ sym (refused_same p f n d m b a)
no_count p f i n d m b none q e =
    let h : length q.stores ≡ 0 = ap length e in
    done_all p f i d m b q (omega arith) ∙ sym (done_all p f n d m b q (omega arith))
