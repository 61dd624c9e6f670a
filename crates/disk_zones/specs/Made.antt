-- Stores under a number: what a function that stores leaves, and how two of them join (01, Store count). Assumes nothing.
use Rattle.std.specs.Prelude.{◌≡◌, refl, Bool, true, false, cond, Option, Some, None, Result, Ok, Err, ℕ, suc, ◌+◌, ◌-◌, ◌≤◌, ◌<◌, take}
use Rattle.std.proofs.Math.Path.{sym, ap, ap₂}
use Rattle.std.proofs.Common.{◌∙◌, add-zero}
use mathlib.Core.List.{map, List, [], ◌∷◌, ◌++◌}
use native.Mathlib.Omega.{arith}
use Rattle.std.proofs.Math.Decide.{dec_lt}
use Rattle.std.proofs.Math.ListN.{length, length-append}
use Rattle.std.proofs.lemmas.List.{length-map}
use Rattle.std.proofs.Math.Dec.{ltb}
use Rattle.std.proofs.Math.Nat.{sub-zero}
use borrow.Author.Tests.{ltb-true, ltb-false, lt-ltb, le-ltb}
use Rattle.std.specs.Option.{SomeIff, ok_or}
use Rattle.std.specs.Result.{IsErr, is_err}
use Rattle.spec.specs.Bytes.{splice}
use Rattle.spec.specs.Drives.{Store, Disk, mk_disk, pointer_of, set_pointer, store_disk, store_all, zone_on, zero_spare, zones_in}
use Rattle.spec.specs.Drives.Store.{put, reset}
use Rattle.spec.specs.Layout.{header_block}
use Rattle.spec.specs.Lists.{up_from, below}
use Rattle.spec.specs.Params.{unit_len, place_of, place_byte}
use Rattle.spec.specs.declared.Params.{Params}
use Rattle.law_basic.specs.Fields.{length-zero_spare, header_block_long}
use Rattle.law_basic.specs.Geometry.{Ranged}
use Rattle.law_basic.specs.Ranges.{up_from_step, up_from_end, below-start, length-below}
use Rattle.law_basic.specs.Stores.{stores_append, stores_cons, stores_zero, stores_nil, stores_all}
use Rattle.disk_zones.specs.declared.TooFew.{TooFew}
use Rattle.spec.specs.declared.Seg.{Seg}

-- the answer where the number is too small
abbrev pub too_few : Result ℕ TooFew
too_few = Err (record {})

-- of k stores due under the number n: what is left of it, or that it is too small
unfoldable pub made_of : ℕ → ℕ → Result ℕ TooFew
made_of n k = cond (ltb n k) too_few (Ok (n - k))

made_enough : (n k : ℕ) → k ≤ n → made_of n k ≡ Ok (n - k)
unfolding made_of
made_enough n k h = ap (λ (b : Bool). cond b too_few (Ok (n - k))) (le-ltb n k h)

made_short : (n k : ℕ) → n < k → made_of n k ≡ too_few
unfolding made_of
made_short n k h = ap (λ (b : Bool). cond b too_few (Ok (n - k))) (lt-ltb n k h)

-- the same by a checked difference
pub made_taken : (o : Option ℕ) (n k : ℕ) → SomeIff o (k ≤ n) (n - k) → ok_or o (record {}) ≡ made_of n k
made_taken (Some x) n k h = ap (λ (y : ℕ). Ok y) h.1 ∙ sym (made_enough n k h.0)
made_taken None n k h = sym (made_short n k (omega arith))

-- what an answer says of the number
enough_is : (n k left : ℕ) → Ok left ≡ made_of n k → (k ≤ n) × (left ≡ n - k)
enough_is n k left h = go (dec_lt n k)
  where
    go : Dec (n < k) → (k ≤ n) × (left ≡ n - k)
    go (yes w) = absurd (let q : ⊥ = grind (arith, h, made_short n k w) in q)
    go (no w) = let l : k ≤ n = omega arith in (l, (let q : left ≡ n - k = grind (arith, h, made_enough n k l) in q))

short_is : (n k : ℕ) → too_few ≡ made_of n k → n < k
short_is n k h = go (dec_lt n k)
  where
    go : Dec (n < k) → n < k
    go (yes w) = w
    go (no w) = absurd (let q : ⊥ = grind (arith, h, made_enough n k (omega arith)) in q)

-- the first n of the stores ss are made on the bytes k, which are then k'; r says so
pub record Storing (p : Params) (n : ℕ) (ss : List Store) (k : Disk) (r : Result ℕ TooFew) (k' : Disk) : Type 0 where
  pub made : r ≡ made_of n (length ss)
  pub disk : k' ≡ store_all (store_disk p) (take n ss) k

-- uncut: the number covers all, and all are made
module _ (p : Params) (n : ℕ) (ss : List Store) (k : Disk) (left : ℕ) (k' : Disk) (h : Storing p n ss k (Ok left) k') where
  pub storing_left : left ≡ n - length ss
  storing_left = (enough_is n (length ss) left h.made).1

  pub storing_done : length ss ≤ n
  storing_done = (enough_is n (length ss) left h.made).0

  pub storing_all : k' ≡ store_all (store_disk p) ss k
  storing_all = h.disk ∙ stores_all (store_disk p) n ss k storing_done

  -- the first part of a call's stores
  pub storing_join : (ts : List Store) (r' : Result ℕ TooFew) (k'' : Disk) → Storing p left ts k' r' k'' → Storing p n (ss ++ ts) k r' k''
  unfolding made_of
  storing_join ts r' k'' g =
      let m : length (ss ++ ts) ≡ length ss + length ts = length-append ss ts in
      let q = storing_left in
      let l = storing_done in
      let a : left - length ts ≡ n - length (ss ++ ts) = omega arith in
      let b : ltb left (length ts) ≡ ltb n (length (ss ++ ts)) = same_test (dec_lt left (length ts)) in
      record {
        made = g.made ∙ ap₂ (λ (x : ℕ) (y : Bool). cond y too_few (Ok x)) a b;
        disk = g.disk ∙ ap₂ (λ (x : ℕ) (y : Disk). store_all (store_disk p) (take x ts) y) q h.disk ∙ sym (stores_append (store_disk p) n ss ts k);
      }
    where
      same_test : Dec (left < length ts) → ltb left (length ts) ≡ ltb n (length (ss ++ ts))
      same_test (yes w) =
          lt-ltb left (length ts) w ∙ sym (lt-ltb n (length (ss ++ ts)) (omega (arith, length-append ss ts, storing_left, storing_done)))
      same_test (no w) =
          le-ltb left (length ts) (omega arith) ∙ sym (le-ltb n (length (ss ++ ts)) (omega (arith, length-append ss ts, storing_left, storing_done)))

-- cut: more are due than the number
module _ (p : Params) (n : ℕ) (ss : List Store) (k k' : Disk) (h : Storing p n ss k too_few k') where
  pub storing_cut : n < length ss
  storing_cut = short_is n (length ss) h.made

  -- and so of a call's stores that go on
  pub storing_stop : (ts : List Store) → Storing p n (ss ++ ts) k too_few k'
  storing_stop ts =
      let l = storing_cut in
      let m : length (ss ++ ts) ≡ length ss + length ts = length-append ss ts in
      let t : n - length ss ≡ 0 = omega arith in
      record {
        made = sym (made_short n (length (ss ++ ts)) (omega arith));
        disk = h.disk ∙ sym (stores_append (store_disk p) n ss ts k ∙ ap (λ (x : ℕ). store_all (store_disk p) (take x ts) (store_all (store_disk p) (take n ss) k)) t
            ∙ stores_zero (store_disk p) ts (store_all (store_disk p) (take n ss) k));
      }

-- by a test of the answer
module _ (p : Params) (n : ℕ) (ss : List Store) (k : Disk) (r : Result ℕ TooFew) (k' : Disk) (h : Storing p n ss k r k') where
  pub storing_tells : is_err r ≡ ltb n (length ss)
  unfolding made_of
  storing_tells = ap is_err h.made ∙ go (ltb n (length ss))
    where
      go : (b : Bool) → is_err (cond b too_few (Ok (n - length ss))) ≡ b
      go true = refl
      go false = refl

  pub storing_short : is_err r ≡ true → n < length ss
  storing_short e = ltb-true n (length ss) (sym storing_tells ∙ e)

  pub storing_enough : is_err r ≡ false → length ss ≤ n
  storing_enough e = ltb-false n (length ss) (sym storing_tells ∙ e)

  pub storing_made : is_err r ≡ false → k' ≡ store_all (store_disk p) ss k
  storing_made e = h.disk ∙ stores_all (store_disk p) n ss k (storing_enough e)

-- at the exit of a `?`
pub only_cut : {T : Type 0} (r : Result T TooFew) → IsErr r → r ≡ Err (record {})
only_cut (Err e) h = refl
only_cut (Ok x) h = absurd (let q : ⊥ = grind (arith, h) in q)

pub storing_exit : {p : Params} {n : ℕ} {ss : List Store} {k k' : Disk} (r : Result ℕ TooFew) → IsErr r → Storing p n ss k too_few k' → Storing p n ss k r k'
storing_exit r h s = rw (only_cut r h) s

pub storing_none : (p : Params) (n : ℕ) (k : Disk) → Storing p n [] k (Ok n) k
storing_none p n k = record {
  made = ap (λ (x : ℕ). Ok x) (sym (sub-zero n)) ∙ sym (made_enough n 0 (omega arith));
  disk = sym (stores_nil (store_disk p) n k);
}

-- ---- one store

pub storing_one-cut : (p : Params) (s : Store) (k : Disk) → Storing p 0 (s ∷ []) k too_few k
storing_one-cut p s k = record { made = sym (made_short 0 1 (omega arith)); disk = sym (stores_zero (store_disk p) (s ∷ []) k) }

pub storing_one : (p : Params) (n : ℕ) (s : Store) (k k' : Disk) → 0 < n → k' ≡ store_disk p s k → Storing p n (s ∷ []) k (Ok (n - 1)) k'
storing_one p n s k k' h e = record {
  made = sym (made_enough n 1 (omega arith));
  disk = e ∙ sym (stores_cons (store_disk p) n s [] k h ∙ stores_nil (store_disk p) (n - 1) (store_disk p s k));
}

-- ---- a loop that makes the stores f 0, f 1, .. f (m - 1) while the number lasts: at its head, i are made and left is what is left

module _ (p : Params) (f : ℕ → Store) (m number : ℕ) (k₀ : Disk) where
  -- what the rest comes to is what all comes to
  pub record StoresLeft (i left : ℕ) (k : Disk) : Type 0 where
    pub within : i ≤ m
    pub sum : left + i ≡ number
    pub rest : store_all (store_disk p) (take left (map f (up_from i (m - i)))) k ≡ store_all (store_disk p) (take number (map f (below m))) k₀

  pub rest_start : StoresLeft 0 number k₀
  rest_start = record {
    within = omega arith;
    sum = add-zero number;
    rest = ap (λ (x : List ℕ). store_all (store_disk p) (take number (map f x)) k₀) (sym (below-start m));
  }

  pub rest_turn : (i left : ℕ) (k k' : Disk) → StoresLeft i left k → i < m → 0 < left → k' ≡ store_disk p (f i) k → StoresLeft (i + 1) (left - 1) k'
  rest_turn i left k k' r h l e =
      let ss = map f (up_from (i + 1) (m - (i + 1))) in
      record {
        within = omega arith;
        sum = omega (arith, r.sum);
        rest = ap (store_all (store_disk p) (take (left - 1) ss)) e ∙ sym (stores_cons (store_disk p) left (f i) ss k l)
            ∙ ap (λ (x : List ℕ). store_all (store_disk p) (take left (map f x)) k) (sym (up_from_step i m h)) ∙ r.rest;
      }

  due_long : length (map f (below m)) ≡ m
  due_long = length-map (below m) f ∙ length-below m

  pub rest_cut : (i left : ℕ) (k : Disk) → StoresLeft i left k → i < m → left ≡ 0 → Storing p number (map f (below m)) k₀ too_few k
  rest_cut i left k r h e =
      record {
        made = sym (made_short number (length (map f (below m))) (omega (arith, due_long, r.sum)));
        disk = sym (stores_zero (store_disk p) (map f (up_from i (m - i))) k) ∙ ap (λ (x : ℕ). store_all (store_disk p) (take x (map f (up_from i (m - i)))) k) (sym e) ∙ r.rest;
      }

  pub rest_done : (i left : ℕ) (k : Disk) → StoresLeft i left k → m ≤ i → Storing p number (map f (below m)) k₀ (Ok left) k
  rest_done i left k r h =
      let n : length (map f (below m)) ≤ number = omega (arith, due_long, r.within, r.sum) in
      let a : left ≡ number - length (map f (below m)) = omega (arith, due_long, r.within, r.sum) in
      record {
        made = ap (λ (x : ℕ). Ok x) a ∙ sym (made_enough number (length (map f (below m))) n);
        disk = sym (stores_nil (store_disk p) left k) ∙ ap (λ (x : List ℕ). store_all (store_disk p) (take left (map f x)) k) (sym (up_from_end i m h)) ∙ r.rest;
      }

-- ---- image and pointers of a store

pub put_pointers : (p : Params) (d z : ℕ) (b s : List ℕ) (k : Disk)
    → (store_disk p (put d z b s) k).pointers ≡ set_pointer p k.pointers d z (suc (pointer_of p k.pointers d z))
unfolding store_disk
put_pointers p d z b s k = refl

pub put-disk : (p : Params) (d z : ℕ) (b s im ps im' ps' : List ℕ)
    → im' ≡ splice im (place_byte p (place_of p d z (pointer_of p ps d z))) (b ++ s) → ps' ≡ set_pointer p ps d z (suc (pointer_of p ps d z))
    → mk_disk im' ps' ≡ store_disk p (put d z b s) (mk_disk im ps)
unfolding store_disk
put-disk p d z b s im ps im' ps' e f = ap₂ (λ (x y : List ℕ). mk_disk x y) e f

pub reset_disk : (p : Params) (d z : ℕ) (im ps ps' : List ℕ) → ps' ≡ set_pointer p ps d z 0 → mk_disk im ps' ≡ store_disk p (reset d z) (mk_disk im ps)
unfolding store_disk
reset_disk p d z im ps ps' e = ap (mk_disk im) e

-- ---- the stores of a segment, drive by drive

unfoldable pub header_store : Params → Seg → ℕ → ℕ → ℕ → Store
header_store p g serial copied d = put d (zone_on g d) (header_block p d (zones_in p g) serial copied) zero_spare

unfoldable pub reset_store : Seg → ℕ → Store
reset_store g d = reset d (zone_on g d)

-- a header with its spare fills a block's place
pub header_unit : (p : Params) → Ranged p → (d : ℕ) (zs : List ℕ) (r c : ℕ) → length zs ≡ p.N → length (header_block p d zs r c ++ zero_spare) ≡ unit_len p
unfolding unit_len
header_unit p h d zs r c many =
    length-append (header_block p d zs r c) zero_spare ∙ ap₂ ◌+◌ (header_block_long p h d zs r c many) length-zero_spare
