-- An index of the serials in a drive's headers: buckets by serial, each with its zones that take part, rising; and what it says of the lowest zone that bears a serial
-- (02, item 4). Assumes nothing.
use Rattle.std.specs.Prelude.{◌≡◌, List, [], ◌∷◌, ◌++◌, Bool, ◌&&◌, ℕ, ◌+◌, ◌-◌, ◌*◌, ◌≤◌, ◌<◌, leb, ltb, length, take, drop, set, replicate}
use Rattle.std.proofs.Math.Path.{sym, ap}
use Rattle.std.proofs.Common.{subst, ◌∙◌, mul-add, suc-mul, add-one, lit≤, length-set}
use Rattle.std.proofs.Math.Bool.{true, false}
use Rattle.std.proofs.Math.Decide.{ℕ_discrete, dec_lt}
use native.Mathlib.Omega.{arith}
use borrow.Author.Tests.{eq-eqb, ne_eqb, eqb-true, le-leb, lt-ltb, le-ltb}
use Rattle.std.proofs.Math.Arith.{lt_of_le-ne}
use Rattle.std.specs.Int.Bits.{bit_and}
use Rattle.std.proofs.lemmas.Nat.{and_le_r}
use Rattle.std.proofs.Math.Dec.{eqb}
use Rattle.std.proofs.Math.ListN.{get_or}
use Rattle.std.proofs.lemmas.List.{get_or-replicate}
use Rattle.std.proofs.Math.Seq.{get_or-set_same, get_or-set_other}
use Rattle.spec.specs.declared.Params.{Params}
use Rattle.spec.specs.Bytes.{part, splice}
use Rattle.spec.specs.Drives.{View}
use Rattle.spec.specs.Lists.{up_from, keep, first_or, is_in}
use Rattle.spec.specs.Segments.{is_used, serial_in, bearing, lowest_bearing, leads}
use Rattle.law_basic.specs.Geometry.{Ranged, prod_le, item_fits, zones_all}
use Rattle.law_basic.specs.Ranges.{and_left, and_right, and_both, up_from_add, up_from_step, below-start, keep_append, keep_hit}
use Rattle.law_basic.specs.Splice.{length_part, get_d_part, get_d_splice-past, part-splice, part-splice-below, part_lent}
use Rattle.law_drives.specs.Gather.{borne}
use Rattle.law_drives.specs.Members.{keep_nothing, from_in}
use Rattle.law_drives.specs.Tests.{clash, and_false_left, and_false_right, not_so, same_test}

-- ---- the nearest that passes

-- from i on, n is the lowest that passes; where none below m does, n is m or above
pub record Nearest (f : ℕ → Bool) (m i n : ℕ) : Type 0 where
  pub from : i ≤ n
  pub skips : (y : ℕ) → i ≤ y → y < n → y < m → f y ≡ false
  pub hits : n < m → f n ≡ true

module _ (f : ℕ → Bool) (m i n : ℕ) (x : Nearest f m i n) where
  pub nearest_none : m ≤ n → keep f (up_from i (m - i)) ≡ []
  nearest_none h = keep_nothing f (up_from i (m - i)) (λ y q. let (a, b) = from_in i (m - i) y q in x.skips y a (omega arith) (omega arith))

  pub nearest_one : n < m → keep f (up_from i (m - i)) ≡ n ∷ keep f (up_from (n + 1) (m - (n + 1)))
  nearest_one h =
      let a = x.from in
      let e : m - i ≡ (n - i) + (m - n) = omega arith in
      let g : i + (n - i) ≡ n = omega arith in
      ap (λ (k : ℕ). keep f (up_from i k)) e ∙ ap (keep f) (up_from_add i (n - i) (m - n)) ∙ keep_append f (up_from i (n - i)) (up_from (i + (n - i)) (m - n))
      ∙ ap (λ (l : List ℕ). l ++ keep f (up_from (i + (n - i)) (m - n)))
      (keep_nothing f (up_from i (n - i)) (λ y q. let (b, c) = from_in i (n - i) y q in x.skips y b (omega arith) (omega arith)))
      ∙ ap (λ (k : ℕ). keep f (up_from k (m - n))) g ∙ ap (keep f) (up_from_step n m h) ∙ keep_hit f n (up_from (n + 1) (m - (n + 1))) (x.hits h)

-- ---- one drive

-- a zone takes part and bears the serial
unfoldable pub bears_at : Params → View → ℕ → ℕ → ℕ → Bool
bears_at p v d r z = is_used p v d z && eqb (serial_in p v d z) r

-- a zone takes part, and its serial is of the bucket
unfoldable pub in_bucket : Params → View → ℕ → ℕ → ℕ → ℕ → Bool
in_bucket p v mask d b z = is_used p v d z && eqb (bit_and (serial_in p v d z) mask) b

-- from zone i on: the serials; to each bucket its lowest zone; and to each zone, behind the buckets, how far it is to the next of its bucket
pub record Chained (p : Params) (v : View) (mask d i : ℕ) (hs ls : List ℕ) : Type 0 where
  pub heads : (z : ℕ) → i ≤ z → z < p.Z → is_used p v d z ≡ true → get_or hs z 0 ≡ serial_in p v d z
  pub firsts : (b : ℕ) → b ≤ mask → Nearest (in_bucket p v mask d b) p.Z i (get_or ls b 0)
  pub nexts : (z : ℕ) → i ≤ z → z < p.Z → is_used p v d z ≡ true
      → Nearest (in_bucket p v mask d (bit_and (serial_in p v d z) mask)) p.Z (z + 1) (z + 1 + get_or ls (mask + 1 + z) 0)

module _ (p : Params) (v : View) (mask d : ℕ) where
  -- at the end nothing is known: the buckets are empty
  pub chain_none : (hs ls : List ℕ) → ((b : ℕ) → b ≤ mask → p.Z ≤ get_or ls b 0) → Chained p v mask d p.Z hs ls
  chain_none hs ls e = record {
    heads = λ z a b u. absurd (let q : ⊥ = omega arith in q);
    firsts = λ b h. record { from = e b h; skips = λ y a c l. absurd (let q : ⊥ = omega arith in q); hits = λ l. absurd (let k = e b h in let q : ⊥ = omega arith in q) };
    nexts = λ z a b u. absurd (let q : ⊥ = omega arith in q);
  }

  module _ (z : ℕ) (hs ls : List ℕ) (x : Chained p v mask d (z + 1) hs ls) where
    above : (y : ℕ) → z ≤ y → (y ≡ z → ⊥) → z + 1 ≤ y
    above y a e = let l = lt_of_le-ne a (λ q. e (sym q)) in omega (arith, l)

    -- one zone more of the nearest, which does not pass
    nearest_more : (b n : ℕ) → in_bucket p v mask d b z ≡ false → Nearest (in_bucket p v mask d b) p.Z (z + 1) n → Nearest (in_bucket p v mask d b) p.Z z n
    nearest_more b n q k = let a = k.from in record { from = omega arith; skips = λ y a c l. go y a c l (ℕ_discrete y z); hits = k.hits }
      where
        go : (y : ℕ) → z ≤ y → y < n → y < p.Z → Dec (y ≡ z) → in_bucket p v mask d b y ≡ false
        go y a c l (yes e) = ap (in_bucket p v mask d b) e ∙ q
        go y a c l (no e) = k.skips y (above y a e) c l

    -- a zone that takes no part
    pub chain_pass : is_used p v d z ≡ false → Chained p v mask d z hs ls
    unfolding in_bucket
    chain_pass q = record {
      heads = λ y a b u. head y a b u (ℕ_discrete y z);
      firsts = λ b h. nearest_more b (get_or ls b 0) (and_false_left (is_used p v d z) (eqb (bit_and (serial_in p v d z) mask) b) q) (x.firsts b h);
      nexts = λ y a b u. next y a b u (ℕ_discrete y z);
    }
      where
        head : (y : ℕ) → z ≤ y → y < p.Z → is_used p v d y ≡ true → Dec (y ≡ z) → get_or hs y 0 ≡ serial_in p v d y
        head y a b u (yes e) = clash (ap (is_used p v d) (sym e) ∙ u) q
        head y a b u (no e) = x.heads y (above y a e) b u

        next : (y : ℕ) → z ≤ y → y < p.Z → is_used p v d y ≡ true → Dec (y ≡ z)
            → Nearest (in_bucket p v mask d (bit_and (serial_in p v d y) mask)) p.Z (y + 1) (y + 1 + get_or ls (mask + 1 + y) 0)
        next y a b u (yes e) = clash (ap (is_used p v d) (sym e) ∙ u) q
        next y a b u (no e) = x.nexts y (above y a e) b u

    -- one that does goes before the lowest of its bucket
    module _ (s b n : ℕ) (u : is_used p v d z ≡ true) (es : s ≡ serial_in p v d z) (eb : b ≡ bit_and s mask) (en : n ≡ get_or ls b 0 - (z + 1))
        (rh : z < length hs) (rl : mask + 1 + z < length ls) where
      mine : bit_and (serial_in p v d z) mask ≡ b
      mine = ap (λ (k : ℕ). bit_and k mask) (sym es) ∙ sym eb

      low : b ≤ mask
      low = subst (λ (k : ℕ). k ≤ mask) (sym eb) (and_le_r s mask)

      abbrev links : List ℕ
      links = set (set ls (mask + 1 + z) n) b z

      first_same : get_or links b 0 ≡ z
      first_same = get_or-set_same (set ls (mask + 1 + z) n) b z 0 (let k = length-set ls (mask + 1 + z) n in let l = low in omega arith)

      first_other : (c : ℕ) → c ≤ mask → (c ≡ b → ⊥) → get_or links c 0 ≡ get_or ls c 0
      first_other c h e = get_or-set_other (set ls (mask + 1 + z) n) b c z 0 e ∙ get_or-set_other ls (mask + 1 + z) c n 0 (λ q. let y : ⊥ = omega arith in y)

      next_same : get_or links (mask + 1 + z) 0 ≡ n
      next_same = get_or-set_other (set ls (mask + 1 + z) n) b (mask + 1 + z) z 0 (λ q. let l = low in let y : ⊥ = omega arith in y) ∙ get_or-set_same ls (mask + 1 + z) n 0 rl

      next_other : (y : ℕ) → (y ≡ z → ⊥) → get_or links (mask + 1 + y) 0 ≡ get_or ls (mask + 1 + y) 0
      next_other y e =
          get_or-set_other (set ls (mask + 1 + z) n) b (mask + 1 + y) z 0 (λ q. let l = low in let y : ⊥ = omega arith in y)
          ∙ get_or-set_other ls (mask + 1 + z) (mask + 1 + y) n 0 (λ q. e (omega arith))

      pub chain_put : Chained p v mask d z (set hs z s) (set (set ls (mask + 1 + z) n) b z)
      unfolding in_bucket
      chain_put = record { heads = λ y a h t. head y a h t (ℕ_discrete y z); firsts = λ c h. first c h (ℕ_discrete c b); nexts = λ y a h t. next y a h t (ℕ_discrete y z) }
        where
          head : (y : ℕ) → z ≤ y → y < p.Z → is_used p v d y ≡ true → Dec (y ≡ z) → get_or (set hs z s) y 0 ≡ serial_in p v d y
          head y a h t (yes e) = ap (λ (k : ℕ). get_or (set hs z s) k 0) e ∙ get_or-set_same hs z s 0 rh ∙ es ∙ ap (serial_in p v d) (sym e)
          head y a h t (no e) = get_or-set_other hs z y s 0 e ∙ x.heads y (above y a e) h t

          first : (c : ℕ) → c ≤ mask → Dec (c ≡ b) → Nearest (in_bucket p v mask d c) p.Z z (get_or links c 0)
          first c h (yes e) = subst (Nearest (in_bucket p v mask d c) p.Z z) (sym (ap (λ (k : ℕ). get_or links k 0) e ∙ first_same)) (record {
            from = omega arith;
            skips = λ y a k l. absurd (let q : ⊥ = omega arith in q);
            hits = λ l. and_both (is_used p v d z) (eqb (bit_and (serial_in p v d z) mask) c) u (eq-eqb (bit_and (serial_in p v d z) mask) c (mine ∙ sym e));
          })
          first c h (no e) = subst (Nearest (in_bucket p v mask d c) p.Z z) (sym (first_other c h e))
              (nearest_more c (get_or ls c 0)
              (and_false_right (is_used p v d z) (eqb (bit_and (serial_in p v d z) mask) c) (ne_eqb (bit_and (serial_in p v d z) mask) c (λ q. e (sym q ∙ mine))))
              (x.firsts c h))

          next : (y : ℕ) → z ≤ y → y < p.Z → is_used p v d y ≡ true → Dec (y ≡ z)
              → Nearest (in_bucket p v mask d (bit_and (serial_in p v d y) mask)) p.Z (y + 1) (y + 1 + get_or links (mask + 1 + y) 0)
          next y a h t (yes e) = subst
              (λ (k : ℕ). Nearest (in_bucket p v mask d (bit_and (serial_in p v d k) mask)) p.Z (k + 1) (k + 1 + get_or links (mask + 1 + k) 0)) (sym e)
              (subst (λ (k : ℕ). Nearest (in_bucket p v mask d k) p.Z (z + 1) (z + 1 + get_or links (mask + 1 + z) 0)) (sym mine)
              (subst (Nearest (in_bucket p v mask d b) p.Z (z + 1)) (far (x.firsts b low).from) (x.firsts b low)))
            where
              far : z + 1 ≤ get_or ls b 0 → get_or ls b 0 ≡ z + 1 + get_or links (mask + 1 + z) 0
              far k = let w = next_same in omega arith
          next y a h t (no e) = subst (λ (k : ℕ). Nearest (in_bucket p v mask d (bit_and (serial_in p v d y) mask)) p.Z (y + 1) (y + 1 + k)) (sym (next_other y e)) (x.nexts y (above y a e) h t)

-- ---- a walk along a bucket

-- from i on to z, none bears the serial; and z, below Z, is of its bucket
pub record Along (p : Params) (v : View) (mask d r i z : ℕ) : Type 0 where
  pub past : i ≤ z
  pub missed : (y : ℕ) → i ≤ y → y < z → y < p.Z → bears_at p v d r y ≡ false
  pub stands : z < p.Z → in_bucket p v mask d (bit_and r mask) z ≡ true

module _ (p : Params) (v : View) (mask d r : ℕ) where
  bucket_apart : (y : ℕ) → in_bucket p v mask d (bit_and r mask) y ≡ false → bears_at p v d r y ≡ false
  unfolding bears_at in_bucket
  bucket_apart y q = not_so (is_used p v d y && eqb (serial_in p v d y) r)
      (λ t. clash (and_both (is_used p v d y) (eqb (bit_and (serial_in p v d y) mask) (bit_and r mask)) (and_left (is_used p v d y) (eqb (serial_in p v d y) r) t)
      (eq-eqb (bit_and (serial_in p v d y) mask) (bit_and r mask) (ap (λ (k : ℕ). bit_and k mask) (eqb-true (serial_in p v d y) r (and_right (is_used p v d y) (eqb (serial_in p v d y) r) t))))) q)

  pub walk_start : (i n : ℕ) → Nearest (in_bucket p v mask d (bit_and r mask)) p.Z i n → Along p v mask d r i n
  walk_start i n x = record { past = x.from; missed = λ y a b l. bucket_apart y (x.skips y a b l); stands = x.hits }

  module _ (hs ls : List ℕ) (x : Chained p v mask d 0 hs ls) (i z : ℕ) (w : Along p v mask d r i z) where
    module _ (h : z < p.Z) where
      its_used : is_used p v d z ≡ true
      unfolding in_bucket
      its_used = and_left (is_used p v d z) (eqb (bit_and (serial_in p v d z) mask) (bit_and r mask)) (w.stands h)

      its_bucket : bit_and (serial_in p v d z) mask ≡ bit_and r mask
      unfolding in_bucket
      its_bucket = eqb-true (bit_and (serial_in p v d z) mask) (bit_and r mask) (and_right (is_used p v d z) (eqb (bit_and (serial_in p v d z) mask) (bit_and r mask)) (w.stands h))

      its_serial : get_or hs z 0 ≡ serial_in p v d z
      its_serial = x.heads z (omega arith) h its_used

      pub index_walk_hit : get_or hs z 0 ≡ r → Nearest (bears_at p v d r) p.Z i z
      unfolding bears_at
      index_walk_hit e = record {
        from = w.past;
        skips = w.missed;
        hits = λ l. and_both (is_used p v d z) (eqb (serial_in p v d z) r) its_used (eq-eqb (serial_in p v d z) r (sym its_serial ∙ e));
      }

      its_next : Nearest (in_bucket p v mask d (bit_and r mask)) p.Z (z + 1) (z + 1 + get_or ls (mask + 1 + z) 0)
      its_next = subst (λ (k : ℕ). Nearest (in_bucket p v mask d k) p.Z (z + 1) (z + 1 + get_or ls (mask + 1 + z) 0)) its_bucket (x.nexts z (omega arith) h its_used)

      pub index_walk_miss : (get_or hs z 0 ≡ r → ⊥) → Along p v mask d r i (z + 1 + get_or ls (mask + 1 + z) 0)
      unfolding bears_at
      index_walk_miss e = let a = w.past in record { past = omega arith; missed = λ y a b l. go y a b l (ℕ_discrete y z) (dec_lt y z); stands = its_next.hits }
        where
          go : (y : ℕ) → i ≤ y → y < z + 1 + get_or ls (mask + 1 + z) 0 → y < p.Z → Dec (y ≡ z) → Dec (y < z) → bears_at p v d r y ≡ false
          go y a b l (yes q) t =
              ap (bears_at p v d r) q ∙ and_false_right (is_used p v d z) (eqb (serial_in p v d z) r) (ne_eqb (serial_in p v d z) r (λ k. e (its_serial ∙ k)))
          go y a b l (no q) (yes t) = w.missed y a t l
          go y a b l (no q) (no t) = bucket_apart y (its_next.skips y (let k = lt_of_le-ne (let c : z ≤ y = omega arith in c) (λ c. q (sym c)) in omega (arith, k)) b l)

    pub walk_end : p.Z ≤ z → i ≤ p.Z → Nearest (bears_at p v d r) p.Z i p.Z
    walk_end h k = record { from = k; skips = λ y a b l. w.missed y a (omega arith) l; hits = λ l. absurd (let q : ⊥ = omega arith in q) }

-- what was found
module _ (p : Params) (v : View) (d r : ℕ) where
  bearing_is : bearing p v d r ≡ keep (bears_at p v d r) (up_from 0 (p.Z - 0))
  unfolding bearing bears_at
  bearing_is = ap (keep (λ z. is_used p v d z && eqb (serial_in p v d z) r)) (below-start p.Z)

  module _ (n : ℕ) (x : Nearest (bears_at p v d r) p.Z 0 n) where
    pub nearest_lowest : n ≤ p.Z → n ≡ lowest_bearing p v d r
    unfolding lowest_bearing first_or
    nearest_lowest h = sym (ap (first_or p.Z) bearing_is ∙ go (dec_lt n p.Z))
      where
        go : Dec (n < p.Z) → first_or p.Z (keep (bears_at p v d r) (up_from 0 (p.Z - 0))) ≡ n
        go (yes k) = ap (first_or p.Z) (nearest_one (bears_at p v d r) p.Z 0 n x k)
        go (no k) = ap (first_or p.Z) (nearest_none (bears_at p v d r) p.Z 0 n x (omega arith)) ∙ omega arith

    pub once_none : p.Z ≤ n → leb 2 (length (bearing p v d r)) ≡ false
    once_none h = ap (λ (l : List ℕ). leb 2 (length l)) (bearing_is ∙ nearest_none (bears_at p v d r) p.Z 0 n x h)

    pub twice_is : n < p.Z → (m : ℕ) → Nearest (bears_at p v d r) p.Z (n + 1) m → leb 2 (length (bearing p v d r)) ≡ ltb m p.Z
    twice_is h m y = ap (λ (l : List ℕ). leb 2 (length l)) (bearing_is ∙ nearest_one (bears_at p v d r) p.Z 0 n x h) ∙ go (dec_lt m p.Z)
      where
        rest : List ℕ
        rest = keep (bears_at p v d r) (up_from (n + 1) (p.Z - (n + 1)))

        go : Dec (m < p.Z) → leb 2 (length (n ∷ rest)) ≡ ltb m p.Z
        go (yes k) =
            let e : length (n ∷ rest) ≡ length (n ∷ m ∷ keep (bears_at p v d r) (up_from (m + 1) (p.Z - (m + 1)))) =
            ap (λ (l : List ℕ). length (n ∷ l)) (nearest_one (bears_at p v d r) p.Z (n + 1) m y k) in
            le-leb 2 (length (n ∷ rest)) (omega (arith, e)) ∙ sym (lt-ltb m p.Z k)
        go (no k) =
            ap (λ (l : List ℕ). leb 2 (length (n ∷ l))) (nearest_none (bears_at p v d r) p.Z (n + 1) m y (omega arith)) ∙ sym (le-ltb m p.Z (omega arith))

-- behind the lowest that bears a serial, the next of its bucket
pub next_of_lem : (p : Params) (v : View) (mask d r : ℕ) (hs ls : List ℕ) → Chained p v mask d 0 hs ls → (z : ℕ) → z < p.Z → Nearest (bears_at p v d r) p.Z 0 z
    → Nearest (in_bucket p v mask d (bit_and r mask)) p.Z (z + 1) (z + 1 + get_or ls (mask + 1 + z) 0)
unfolding bears_at
next_of_lem p v mask d r hs ls x z h n =
    subst (λ (k : ℕ). Nearest (in_bucket p v mask d (bit_and k mask)) p.Z (z + 1) (z + 1 + get_or ls (mask + 1 + z) 0))
    (eqb-true (serial_in p v d z) r (and_right (is_used p v d z) (eqb (serial_in p v d z) r) (n.hits h)))
    (x.nexts z (omega arith) h (and_left (is_used p v d z) (eqb (serial_in p v d z) r) (n.hits h)))

-- a zone leads where it is the lowest that bears what its header says
pub leads_lowest : (p : Params) (v : View) (d z : ℕ) → z < p.Z → leads p v d z ≡ eqb (lowest_bearing p v d (serial_in p v d z)) z
unfolding leads
leads_lowest p v d z h = same_test (is_used p v d z && eqb (lowest_bearing p v d (serial_in p v d z)) z) (eqb (lowest_bearing p v d (serial_in p v d z)) z)
    (and_right (is_used p v d z) (eqb (lowest_bearing p v d (serial_in p v d z)) z))
    (λ t.
    let e = eqb-true (lowest_bearing p v d (serial_in p v d z)) z t in
    and_both (is_used p v d z) (eqb (lowest_bearing p v d (serial_in p v d z)) z)
    (subst (λ (k : ℕ). is_used p v d k ≡ true) e (borne p v d (serial_in p v d z) (subst (λ (k : ℕ). k < p.Z) (sym e) h)).used) t)

pub lead_found : (p : Params) (v : View) (at low z s n : ℕ) → low ≡ at → z < p.Z → s ≡ serial_in p v at z → n ≡ lowest_bearing p v low s → leads p v at z ≡ eqb n z
lead_found p v at low z s n is h es en = leads_lowest p v at z h ∙ ap (λ (k : ℕ). eqb k z) (sym (en ∙ (λ j. lowest_bearing p v (is j) (es j))))

-- ---- all drives

-- the first k drives, as far as they are present, have an index
abbrev pub ChainedTo : Params → View → ℕ → ℕ → ℕ → List ℕ → List ℕ → Type 0
ChainedTo p v gone mask k hs ls =
    (d : ℕ) → d < k → is_in gone d ≡ false → Chained p v mask d 0 (part (d * p.Z) p.Z hs) (part (d * (mask + 1 + p.Z)) (mask + 1 + p.Z) ls)

pub chain_same : (p : Params) (v : View) (gone mask k : ℕ) (hs gs ls ms : List ℕ) → hs ≡ gs → ls ≡ ms → ChainedTo p v gone mask k hs ls → ChainedTo p v gone mask k gs ms
chain_same p v gone mask k hs gs ls ms e f x = subst (λ (l : List ℕ). ChainedTo p v gone mask k l ms) e (subst (λ (l : List ℕ). ChainedTo p v gone mask k hs l) f x)

-- from drive k on nothing is entered
abbrev pub Blank : Params → ℕ → ℕ → List ℕ → Type 0
Blank p mask k ls = (i : ℕ) → k * (mask + 1 + p.Z) ≤ i → i < p.N * (mask + 1 + p.Z) → 1024 ≤ get_or ls i 0

-- room for a drive's part of the arrays
pub chain_room : (p : Params) (mask d : ℕ) → Ranged p → d < p.N → mask ≤ 2047
    → (d * p.Z + p.Z ≤ p.N * p.Z) × (p.N * p.Z ≤ 8192) × (d * (mask + 1 + p.Z) + (mask + 1 + p.Z) ≤ p.N * (mask + 1 + p.Z)) × (p.N * (mask + 1 + p.Z) ≤ 24576)
chain_room p mask d r h m =
    let k : mask + 1 + p.Z ≤ 3072 = let z = r.zones_high in omega arith in
    (item_fits d p.N p.Z h, zones_all p r, item_fits d p.N (mask + 1 + p.Z) h, prod_le p.N (mask + 1 + p.Z) 8 3072 24576 r.drives_high k (lit≤ {m = 8 * 3072} {n = 24576} tt))

pub links_few : (p : Params) → Ranged p → p.N * p.Z ≤ 256 → p.N * (63 + 1 + p.Z) ≤ 768
links_few p r h = let e : p.N * (64 + p.Z) ≡ p.N * 64 + p.N * p.Z = mul-add p.N 64 p.Z in let n = r.drives_high in omega (arith, e, n, h)

pub length_lent : (a n : ℕ) (l : List ℕ) → a + n ≤ length l → length (take (a + n - a) (drop a l)) ≡ n
length_lent a n l h = ap length (part_lent a n l) ∙ length_part a n l h

pub chain_lent : (p : Params) (v : View) (mask d a b n : ℕ) (hs ls : List ℕ) → Chained p v mask d 0 (part a p.Z hs) (part b n ls)
    → Chained p v mask d 0 (take (a + p.Z - a) (drop a hs)) (take (b + n - b) (drop b ls))
chain_lent p v mask d a b n hs ls x =
    subst (λ (l : List ℕ). Chained p v mask d 0 l (take (b + n - b) (drop b ls))) (sym (part_lent a p.Z hs))
    (subst (λ (l : List ℕ). Chained p v mask d 0 (part a p.Z hs) l) (sym (part_lent b n ls)) x)

pub blank_new : (p : Params) (mask n : ℕ) → p.N * (mask + 1 + p.Z) ≤ n → Blank p mask 0 (replicate n 65535)
blank_new p mask n h i a b = let e = get_or-replicate {A = ℕ} n i 65535 0 (omega arith) in omega (arith, e)

module _ (p : Params) (v : View) (gone mask k : ℕ) (hs ls : List ℕ) where
  pub chain_gone : is_in gone k ≡ true → ChainedTo p v gone mask k hs ls → ChainedTo p v gone mask (k + 1) hs ls
  chain_gone q x d h t = go (ℕ_discrete d k)
    where
      go : Dec (d ≡ k) → Chained p v mask d 0 (part (d * p.Z) p.Z hs) (part (d * (mask + 1 + p.Z)) (mask + 1 + p.Z) ls)
      go (yes e) = clash (ap (is_in gone) e ∙ q) t
      go (no e) = x d (lt_of_le-ne (omega arith) e) t

  module _ (s t : List ℕ) (hk : k < p.N) (lh : p.N * p.Z ≤ length hs) (ll : p.N * (mask + 1 + p.Z) ≤ length ls) (ns : length s ≡ p.Z) (nt : length t ≡ mask + 1 + p.Z) where
    fit_s : k * p.Z + length s ≤ length hs
    fit_s = let a = item_fits k p.N p.Z hk in omega arith

    fit_t : k * (mask + 1 + p.Z) + length t ≤ length ls
    fit_t = let a = item_fits k p.N (mask + 1 + p.Z) hk in omega arith

    pub chain_more : Chained p v mask k 0 s t → ChainedTo p v gone mask k hs ls → ChainedTo p v gone mask (k + 1) (splice hs (k * p.Z) s) (splice ls (k * (mask + 1 + p.Z)) t)
    chain_more y x d h q = go (ℕ_discrete d k)
      where
        go : Dec (d ≡ k) → Chained p v mask d 0 (part (d * p.Z) p.Z (splice hs (k * p.Z) s)) (part (d * (mask + 1 + p.Z)) (mask + 1 + p.Z) (splice ls (k * (mask + 1 + p.Z)) t))
        go (yes e) = subst
            (λ (c : ℕ). Chained p v mask c 0 (part (c * p.Z) p.Z (splice hs (k * p.Z) s)) (part (c * (mask + 1 + p.Z)) (mask + 1 + p.Z) (splice ls (k * (mask + 1 + p.Z)) t))) (sym e)
            (subst (λ (l : List ℕ). Chained p v mask k 0 l (part (k * (mask + 1 + p.Z)) (mask + 1 + p.Z) (splice ls (k * (mask + 1 + p.Z)) t)))
            (sym (ap (λ (n : ℕ). part (k * p.Z) n (splice hs (k * p.Z) s)) (sym ns) ∙ part-splice hs (k * p.Z) s fit_s))
            (subst (λ (l : List ℕ). Chained p v mask k 0 s l)
            (sym (ap (λ (n : ℕ). part (k * (mask + 1 + p.Z)) n (splice ls (k * (mask + 1 + p.Z)) t)) (sym nt) ∙ part-splice ls (k * (mask + 1 + p.Z)) t fit_t)) y))
        go (no e) =
            let l : d < k = lt_of_le-ne (omega arith) e in
            subst (λ (m : List ℕ). Chained p v mask d 0 m (part (d * (mask + 1 + p.Z)) (mask + 1 + p.Z) (splice ls (k * (mask + 1 + p.Z)) t)))
            (sym (part-splice-below hs (k * p.Z) s fit_s (d * p.Z) p.Z (item_fits d k p.Z l)))
            (subst (λ (m : List ℕ). Chained p v mask d 0 (part (d * p.Z) p.Z hs) m)
            (sym (part-splice-below ls (k * (mask + 1 + p.Z)) t fit_t (d * (mask + 1 + p.Z)) (mask + 1 + p.Z) (item_fits d k (mask + 1 + p.Z) l))) (x d l q))

    pub blank_more : Blank p mask k ls → Blank p mask (k + 1) (splice ls (k * (mask + 1 + p.Z)) t)
    blank_more x i a b =
        let g = turn in
        subst (λ (n : ℕ). 1024 ≤ n) (sym (get_d_splice-past ls (k * (mask + 1 + p.Z)) t fit_t i (omega (arith, a, g, nt)))) (x i (omega (arith, a, g)) b)
      where
        turn : (k + 1) * (mask + 1 + p.Z) ≡ k * (mask + 1 + p.Z) + (mask + 1 + p.Z)
        turn = rw (add-one k) (suc-mul k (mask + 1 + p.Z))

  pub blank_next : Blank p mask k ls → Blank p mask (k + 1) ls
  blank_next x i a b = let g : (k + 1) * (mask + 1 + p.Z) ≡ k * (mask + 1 + p.Z) + (mask + 1 + p.Z) = rw (add-one k) (suc-mul k (mask + 1 + p.Z)) in x i (omega (arith, a, g)) b

  pub blank_part : k < p.N → Blank p mask k ls → (b : ℕ) → b ≤ mask → 1024 ≤ get_or (part (k * (mask + 1 + p.Z)) (mask + 1 + p.Z) ls) b 0
  blank_part h x b l =
      let a = item_fits k p.N (mask + 1 + p.Z) h in
      subst (λ (n : ℕ). 1024 ≤ n) (sym (get_d_part (k * (mask + 1 + p.Z)) (mask + 1 + p.Z) ls b (omega arith))) (x (k * (mask + 1 + p.Z) + b) (omega arith) (omega (arith, a)))
