-- The chunks of a group's stripes, by its index (01, Restart, 3; The array). Assumes nothing.
use Rattle.std.proofs.Math.Path.{◌≡◌, refl, sym, ap, subst}
use Rattle.std.proofs.Common.{◌∙◌, inl, inr, zero-add, arith, drop_of_length-le, get_or-take}
use mathlib.Core.List.{List, [], ◌∷◌, ◌++◌, map}
use Rattle.std.specs.Prelude.{Bool, true, ◌&&◌, ◌||◌, leb, ltb, take, drop}
use Rattle.std.proofs.Math.Bool.{false, cond, not}
use Prim.Native.Nat.{ℕ, zero, suc, ◌+◌, ◌-◌, ◌*◌, ◌/◌, ◌%◌, min, ◌≤◌, ◌<◌}
use Rattle.std.proofs.Math.Decide.{dec_lt}
use borrow.Author.Tests.{not-true, not-false, eq-eqb, ne_eqb, eqb-true, eqb-false}
use Rattle.std.proofs.Math.Dec.{eqb}
use Rattle.std.proofs.Math.ListN.{get_or-eq_default, length-map, length, get_or}
use Rattle.std.proofs.Math.Seq.{get_or-drop}
use Rattle.spec.specs.declared.Params.{Params}
use Rattle.spec.specs.Drives.{Zone, no_zone, View, zone_at, pointer_at, zone_on, sealed_in, data_stored, record_in}
use Rattle.spec.specs.Faults.{outside, twice, stripe_fault, stored_bad}
use Rattle.spec.specs.Layout.{in_group_of, Rec, mk_rec}
use Rattle.spec.specs.Lists.{below, all, any, cons_if, keep, suc_unless, index_of, is_in}
use Rattle.spec.specs.Params.{in_range, capacity, drives_of, present}
use Rattle.spec.specs.Segments.{Segment, records_in, segment_of, recs_on, offset_on, has_chunk, counts, counted}
use Rattle.law_basic.specs.Ranges.{Test, test, not_both, length-below, any_append, length-keep}
use Rattle.law_basic.specs.Ranges.Test.{yes!, no! }
use Rattle.law_drives.specs.Counting.{different_few, stripes_different}
use Rattle.law_drives.specs.Members.{In, map_in, all_in, in_all, none_in, in_none, in_any, keep_cong, keep_all, keep-keep, below_in, in_get_d, get_d_in, index_below, index_passes, index_first}
use Rattle.law_drives.specs.Members.{index_is}
use Rattle.law_drives.specs.Gather.{present_in, in_present}
use Rattle.law_drives.specs.Segs.{length_records, record_at_lem, recs_here, recs_gone}
use Rattle.law_drives.specs.Tests.{and_false_right, or_first, or_right, not_so, same_test, cond_true}
use Rattle.recover_groups.specs.Bases.{group_len_le, group_of, group_back, base_is, in_group}
use Rattle.recover_groups.specs.Faulty.{stripe_group, length-group}
use Rattle.recover_groups.specs.Groups.{group_len, group_recs, recs_bad, recs_fault, Indexed, Entered, AllEntered, entry_of, Row}
use Rattle.spec.specs.declared.Seg.{Seg}

-- ---- how many have a chunk

all-tally : {A : Type 0} (f : A → Bool) (l : List A) → all f l ≡ eqb (length (keep f l)) (length l)
unfolding all keep cons_if
all-tally f [] = sym (eq-eqb 0 0 refl)
all-tally {A} f (a ∷ l) = go (f a) (all-tally f l)
  where
    go : (b : Bool) → all f l ≡ eqb (length (keep f l)) (length l) → (b && all f l) ≡ eqb (length (cons_if b a (keep f l))) (suc (length l))
    go true e =
        e ∙ same_test (eqb (length (keep f l)) (length l)) (eqb (suc (length (keep f l))) (suc (length l)))
        (λ t. let x = eqb-true (length (keep f l)) (length l) t in eq-eqb (suc (length (keep f l))) (suc (length l)) (ap suc x))
        (λ t. let x = eqb-true (suc (length (keep f l))) (suc (length l)) t in eq-eqb (length (keep f l)) (length l) (omega (arith, x)))
    go false e = sym (ne_eqb (length (keep f l)) (suc (length l)) (λ x. let y = length-keep f l in let z : ⊥ = omega (arith, x, y) in z))

any-length : {A : Type 0} (f : A → Bool) (l : List A) → any f l ≡ not (eqb (length (keep f l)) 0)
unfolding any keep cons_if
any-length f [] = ap not (sym (eq-eqb 0 0 refl))
any-length {A} f (a ∷ l) = go (f a) (any-length f l)
  where
    go : (b : Bool) → any f l ≡ not (eqb (length (keep f l)) 0) → (b || any f l) ≡ not (eqb (length (cons_if b a (keep f l))) 0)
    go true e = ap not (sym (ne_eqb (suc (length (keep f l))) 0 (λ x. let z : ⊥ = omega (arith, x) in z)))
    go false e = e

-- ---- the records of a segment

data_most : (p : Params) (q : Zone) → data_stored p q ≤ p.S
unfolding data_stored
data_most p q = omega arith

module _ (p : Params) (v : View) (gone : ℕ) (sgm : Seg) where
  abbrev sg : Segment
  sg = segment_of p v gone sgm

  recs_out : (d : ℕ) → p.N ≤ d → recs_on sg d ≡ []
  unfolding recs_on segment_of drives_of
  recs_out d k =
      get_or-eq_default (map (λ d. cond (is_in gone d) [] (records_in p (sealed_in p v gone sgm) (get_or (map (λ d. zone_at v d (zone_on sgm d)) (below p.N)) d no_zone))) (below p.N)) [] {n = d}
      (let e = length-map (below p.N)
      (λ d. cond (is_in gone d) [] (records_in p (sealed_in p v gone sgm) (get_or (map (λ d. zone_at v d (zone_on sgm d)) (below p.N)) d no_zone)))
      ∙ length-below p.N in omega (arith, e, k))

  -- 01, Restart, 3: at most S records of a zone are read
  pub recs_short : (d : ℕ) → length (recs_on sg d) ≤ p.S
  recs_short d = go (dec_lt d p.N) (test (is_in gone d))
    where
      go : Dec (d < p.N) → Test (is_in gone d) → length (recs_on sg d) ≤ p.S
      go (yes h) (yes! q) = let e : length (recs_on sg d) ≡ 0 = ap length (recs_gone p v gone sgm d h q) in omega (arith, e)
      go (yes h) (no! q) =
          let e : length (recs_on sg d) ≡ data_stored p (zone_at v d (zone_on sgm d)) = ap length (recs_here p v gone sgm d h q)
          ∙ length_records p (sealed_in p v gone sgm) (zone_at v d (zone_on sgm d)) in
          let m : data_stored p (zone_at v d (zone_on sgm d)) ≤ p.S = data_most p (zone_at v d (zone_on sgm d)) in
          omega (arith, e, m)
      go (no h) t = let e : length (recs_on sg d) ≡ 0 = ap length (recs_out d (omega arith)) in omega (arith, e)

  -- how many records of the group a present drive has, and each of them
  pub group-stored_is : (base d : ℕ) → d < p.N → is_in gone d ≡ false
      → length (group_recs p base (recs_on sg d)) ≡ min (group_len p base) (data_stored p (zone_at v d (zone_on sgm d)) - base)
  group-stored_is base d h q =
      length-group p base (recs_on sg d)
      ∙ ap (λ (n : ℕ). min (group_len p base) (n - base)) (ap length (recs_here p v gone sgm d h q) ∙ length_records p (sealed_in p v gone sgm) (zone_at v d (zone_on sgm d)))

  pub group_record : (base d i : ℕ) → d < p.N → is_in gone d ≡ false → i < length (group_recs p base (recs_on sg d))
      → record_in p (sealed_in p v gone sgm) (zone_at v d (zone_on sgm d)) (base + i) ≡ get_or (group_recs p base (recs_on sg d)) i (mk_rec 0 0 0)
  unfolding group_recs
  group_record base d i h q l =
      let n = group-stored_is base d h q in
      let w = sealed_in p v gone sgm in
      sym (get_or-take (group_len p base) (drop base (recs_on sg d)) i (mk_rec 0 0 0) (omega (arith, n, l)) ∙ get_or-drop base (recs_on sg d) i (mk_rec 0 0 0)
      ∙ ap (λ (rs : List Rec). get_or rs (base + i) (mk_rec 0 0 0)) (recs_here p v gone sgm d h q)
      ∙ record_at_lem p w (zone_at v d (zone_on sgm d)) (base + i) (mk_rec 0 0 0) (omega (arith, n, l)))

  -- a missing drive has no entries
  pub missing_entry : (base d s : ℕ) → d < p.N → is_in gone d ≡ true → entry_of (group_recs p base (recs_on sg d)) s ≡ 0
  unfolding group_recs entry_of any
  missing_entry base d s h q =
      ap (λ (rs : List Rec). entry_of (take (group_len p base) (drop base rs)) s) (recs_gone p v gone sgm d h q)
      ∙ ap (λ (rs : List Rec). entry_of (take (group_len p base) rs) s) (drop_of_length-le [] {i = base} (omega arith))
      ∙ ap (λ (rs : List Rec). entry_of rs s) (take-nil (group_len p base))
    where
      take-nil : (k : ℕ) → ◌≡◌ {A = List Rec} (take k []) []
      take-nil zero = refl
      take-nil (suc k) = refl

  -- a missing drive has no chunks
  pub missing_none : (s d : ℕ) → is_in gone d ≡ true → has_chunk sg s d ≡ false
  unfolding has_chunk any
  missing_none s d q = go (dec_lt d p.N)
    where
      go : Dec (d < p.N) → any (λ (r : Rec). eqb r.stripe s) (recs_on sg d) ≡ false
      go (yes h) = ap (any (λ (r : Rec). eqb r.stripe s)) (recs_gone p v gone sgm d h q)
      go (no h) = ap (any (λ (r : Rec). eqb r.stripe s)) (recs_out d (omega arith))

  pub chunk_present : (s d : ℕ) → has_chunk sg s d ≡ true → is_in gone d ≡ false
  chunk_present s d h = not_so (is_in gone d) (λ q. not_both (has_chunk sg s d) h (missing_none s d q))

  -- the drives that have the chunk are present
  chunks_present : (s : ℕ) → keep (has_chunk sg s) (drives_of p) ≡ keep (has_chunk sg s) (present p gone)
  unfolding present
  chunks_present s =
      keep_cong (has_chunk sg s) (λ d. not (is_in gone d) && has_chunk sg s d) (drives_of p) (λ d m. go d (test (has_chunk sg s d)))
      ∙ sym (keep-keep (has_chunk sg s) (λ d. not (is_in gone d)) (drives_of p))
    where
      go : (d : ℕ) → Test (has_chunk sg s d) → has_chunk sg s d ≡ (not (is_in gone d) && has_chunk sg s d)
      go d (yes! e) = sym (ap (λ (b : Bool). not b && has_chunk sg s d) (chunk_present s d e))
      go d (no! e) = e ∙ sym (and_false_right (not (is_in gone d)) (has_chunk sg s d) e)

  -- 01, Restart, 3: the stripe counts where as many drives have it as are present
  pub chunks_counts : (s : ℕ) → counts p gone sg s ≡ eqb (length (keep (has_chunk sg s) (drives_of p))) (length (present p gone))
  unfolding counts
  chunks_counts s = all-tally (has_chunk sg s) (present p gone) ∙ ap (λ (l : List ℕ). eqb (length l) (length (present p gone))) (sym (chunks_present s))

  pub chunks_some : (s : ℕ) → any (has_chunk sg s) (present p gone) ≡ not (eqb (length (keep (has_chunk sg s) (drives_of p))) 0)
  chunks_some s = any-length (has_chunk sg s) (present p gone) ∙ ap (λ (l : List ℕ). not (eqb (length l) 0)) (sym (chunks_present s))

  -- S records, none twice: every stripe is there
  full_chunk : in_range p ≡ true → sealed_in p v gone sgm ≡ true → stripe_fault p gone sg ≡ false → (s d : ℕ) → s < p.S → In d (present p gone) → has_chunk sg s d ≡ true
  unfolding sealed_in stripe_fault has_chunk pointer_at
  full_chunk r f h s d l m =
      let rs = recs_on sg d in
      let (hd, hp) = present_in p gone d m in
      let t = none_in (λ d. outside p 0 (recs_on sg d) || twice (recs_on sg d)) (present p gone) h d m in
      let o : outside p 0 rs ≡ false = or_first (outside p 0 rs) (twice rs) t in
      let w : twice rs ≡ false = or_right (outside p 0 rs) (twice rs) t in
      let c : pointer_at v d (zone_on sgm d) ≡ capacity p = eqb-true (pointer_at v d (zone_on sgm d)) (capacity p)
      (all_in (λ d. eqb (pointer_at v d (zone_on sgm d)) (capacity p)) (present p gone) f d m) in
      let n : length rs ≡ p.S = ap length (recs_here p v gone sgm d hd hp) ∙ length_records p (sealed_in p v gone sgm) (zone_at v d (zone_on sgm d))
      ∙ full_data p (zone_at v d (zone_on sgm d)) c in
      not-false (any (λ (r : Rec). eqb r.stripe s) rs) (not_so (not (any (λ (r : Rec). eqb r.stripe s) rs)) (λ e.
      let z : any (λ (r : Rec). eqb r.stripe s) rs ≡ false = not-true (any (λ (r : Rec). eqb r.stripe s) rs) e in
      let few = different_few p.S (s ∷ map (λ (r : Rec). r.stripe) rs)
      ((λ i. let (x, j, y) = map_in (λ (r : Rec). r.stripe) rs s i in eqb-false x.stripe s (none_in (λ (r : Rec). eqb r.stripe s) rs z x j) (sym y)), stripes_different rs w)
      (λ x i. low_of rs o s l x i) in
      let k = length-map rs (λ (r : Rec). r.stripe) in
      let q : ⊥ = omega (arith, few, k, n) in q))
    where
      full_data : (p : Params) (q : Zone) → q.pointer ≡ capacity p → data_stored p q ≡ p.S
      full_data p q c = unfold data_stored capacity in omega (arith, c)

      low_of : (rs : List Rec) → outside p 0 rs ≡ false → (s : ℕ) → s < p.S → (x : ℕ) → In x (s ∷ map (λ (r : Rec). r.stripe) rs) → x < p.S
      low_of rs o s l x (inl e) = omega (arith, e, l)
      low_of rs o s l x (inr i) =
          let (y, j, e) = map_in (λ (r : Rec). r.stripe) rs x i in
          let (k, m, g) = get_d_in rs (mk_rec 0 0 0) y j in
          let a = (stripe_group p 0 rs o k m).0 in
          let b : x ≡ (get_or rs k (mk_rec 0 0 0)).stripe = e ∙ ap (λ (u : Rec). u.stripe) g in
          omega (arith, a, b)

  -- 01, Restart, 3: where all present zones are full and no stripe is wrong, every stripe counts
  pub counted_full : in_range p ≡ true → sealed_in p v gone sgm ≡ true → stripe_fault p gone sg ≡ false → counted p gone sg ≡ below p.S
  unfolding counted
  counted_full r f h =
      keep_all (counts p gone sg) (below p.S) (λ s m. (unfold counts in in_all (has_chunk sg s) (present p gone) (λ d n. full_chunk r f h s d (below_in p.S s m) n)))

-- ---- the entries of the index

pub entry_none : (s : ℕ) → entry_of [] s ≡ 0
unfolding entry_of any
entry_none s = refl

-- no entry: no record
pub entry_zero : (rs : List Rec) (s : ℕ) → any (λ (r : Rec). eqb r.stripe s) rs ≡ not (eqb (entry_of rs s) 0)
unfolding entry_of
entry_zero rs s = go (any f rs)
  where
    f : Rec → Bool
    f r = eqb r.stripe s

    go : (b : Bool) → b ≡ not (eqb (cond b (index_of f rs + 1) 0) 0)
    go true = ap not (sym (ne_eqb (index_of f rs + 1) 0 (λ x. let z : ⊥ = omega (arith, x) in z)))
    go false = ap not (sym (eq-eqb 0 0 refl))

index_append : {A : Type 0} (f : A → Bool) (xs ys : List A) → any f xs ≡ true → index_of f (xs ++ ys) ≡ index_of f xs
unfolding any index_of suc_unless
index_append f [] ys h = absurd (not_both false h refl)
index_append {A} f (x ∷ xs) ys h = go (f x) h (index_append f xs ys)
  where
    go : (b : Bool) → (b || any f xs) ≡ true → (any f xs ≡ true → index_of f (xs ++ ys) ≡ index_of f xs) → suc_unless b (index_of f (xs ++ ys)) ≡ suc_unless b (index_of f xs)
    go true h ih = refl
    go false h ih = ap suc (ih h)

index_miss : {A : Type 0} (f : A → Bool) (xs ys : List A) → any f xs ≡ false → index_of f (xs ++ ys) ≡ length xs + index_of f ys
unfolding any index_of suc_unless
index_miss f [] ys h = sym (zero-add (index_of f ys))
index_miss {A} f (x ∷ xs) ys h = go (f x) h (index_miss f xs ys)
  where
    go : (b : Bool) → (b || any f xs) ≡ false → (any f xs ≡ false → index_of f (xs ++ ys) ≡ length xs + index_of f ys)
        → suc_unless b (index_of f (xs ++ ys)) ≡ suc (length xs) + index_of f ys
    go true h ih = absurd (not_both true refl h)
    go false h ih = let e = ih h in omega (arith, e)

-- one more record: its own stripe gets an entry, others keep theirs
pub entry_new : (rs : List Rec) (r : Rec) → entry_of rs r.stripe ≡ 0 → entry_of (rs ++ (r ∷ [])) r.stripe ≡ length rs + 1
unfolding entry_of any index_of suc_unless
entry_new rs r h =
    let f : Rec → Bool = λ (q : Rec). eqb q.stripe r.stripe in
    let a : any f rs ≡ false = entry_zero rs r.stripe ∙ ap not (eq-eqb (entry_of rs r.stripe) 0 h) in
    let t : f r ≡ true = eq-eqb r.stripe r.stripe refl in
    let b : any f (rs ++ (r ∷ [])) ≡ true = any_append f rs (r ∷ []) ∙ (λ j. a j || (t j || false)) in
    let i : index_of f (rs ++ (r ∷ [])) ≡ length rs + 0 = index_miss f rs (r ∷ []) a ∙ ap (λ (x : Bool). length rs + suc_unless x 0) t in
    (λ j. cond (b j) (i j + 1) 0) ∙ (let x : length rs + 0 + 1 ≡ length rs + 1 = omega arith in x)

pub entry_old : (rs : List Rec) (r : Rec) (s : ℕ) → (r.stripe ≡ s → ⊥) → entry_of (rs ++ (r ∷ [])) s ≡ entry_of rs s
unfolding entry_of any index_of
entry_old rs r s h = go (test (any f rs))
  where
    f : Rec → Bool
    f q = eqb q.stripe s

    t : f r ≡ false
    t = ne_eqb r.stripe s h

    or_no : (b : Bool) → b || false ≡ b
    or_no true = refl
    or_no false = refl

    a : any f (rs ++ (r ∷ [])) ≡ any f rs
    a = any_append f rs (r ∷ []) ∙ ap (λ (x : Bool). any f rs || (x || false)) t ∙ or_no (any f rs)

    go : Test (any f rs) → cond (any f (rs ++ (r ∷ []))) (index_of f (rs ++ (r ∷ [])) + 1) 0 ≡ cond (any f rs) (index_of f rs + 1) 0
    go (yes! e) = λ j. cond (a j) (index_append f rs (r ∷ []) e j + 1) 0
    go (no! e) = ap (λ (x : Bool). cond x (index_of f (rs ++ (r ∷ [])) + 1) 0) (a ∙ e) ∙ sym (ap (λ (x : Bool). cond x (index_of f rs + 1) 0) e)

-- ---- with no stripe outside its group, a chunk lies in its stripe's group

module _ (p : Params) (q : ℕ) (rs : List Rec) (g : 0 < p.G) (b : q * p.G < p.S) (l : length rs ≤ p.S) (h : outside p 0 rs ≡ false)
    (k : ℕ) (hk : k < group_len p (q * p.G)) where
  abbrev its : Rec → Bool
  its r = eqb r.stripe (q * p.G + k)

  chunk_within : any its rs ≡ true → (q * p.G ≤ index_of its rs) × (index_of its rs < q * p.G + group_len p (q * p.G))
  unfolding group_len
  chunk_within t =
      let i = index_of its rs in
      let il : i < length rs = index_below its rs t in
      let s = (get_or rs i (mk_rec 0 0 0)).stripe in
      let e : s ≡ q * p.G + k = eqb-true s (q * p.G + k) (index_passes its rs (mk_rec 0 0 0) t) in
      let a : s / p.G ≡ (0 + i) / p.G = (stripe_group p 0 rs h i il).1 in
      let c : (q * p.G + k) / p.G ≡ q = group_of p q (q * p.G + k) (omega arith) (let z = group_len_le p (q * p.G) in omega arith) in
      let w : (0 + i) / p.G ≡ q = sym a ∙ ap (λ (x : ℕ). x / p.G) e ∙ c in
      let r : (q * p.G ≤ 0 + i) × (0 + i < q * p.G + p.G) = subst (λ (x : ℕ). (x * p.G ≤ 0 + i) × (0 + i < x * p.G + p.G)) w (group_back p (0 + i) g) in
      (omega (arith, r.0), omega (arith, r.0, r.1, il, l, b))

  chunk_entry : entry_of (group_recs p (q * p.G) rs) (q * p.G + k) ≡ cond (any its rs) (index_of its rs - q * p.G + 1) 0
  unfolding entry_of
  chunk_entry = go (test (any its rs))
    where
      mid : List Rec
      mid = group_recs p (q * p.G) rs

      mid_at : (j : ℕ) → j < length mid → get_or mid j (mk_rec 0 0 0) ≡ get_or rs (q * p.G + j) (mk_rec 0 0 0)
      mid_at j m =
          unfold group_recs in (get_or-take (group_len p (q * p.G)) (drop (q * p.G) rs) j (mk_rec 0 0 0)
          (let n = length-group p (q * p.G) rs in omega (arith, n, m))
          ∙ get_or-drop (q * p.G) rs j (mk_rec 0 0 0))

      go : Test (any its rs) → cond (any its mid) (index_of its mid + 1) 0 ≡ cond (any its rs) (index_of its rs - q * p.G + 1) 0
      go (yes! t) =
          let i = index_of its rs in
          let w = chunk_within t in
          let n = length-group p (q * p.G) rs in
          let j = i - q * p.G in
          let il : i < length rs = index_below its rs t in
          let jl : j < length mid = omega (arith, w.0, w.1, n, il) in
          let at : (m : ℕ) → m < length mid → its (get_or mid m (mk_rec 0 0 0)) ≡ its (get_or rs (q * p.G + m) (mk_rec 0 0 0)) = λ m x. ap its (mid_at m x) in
          let e : q * p.G + j ≡ i = omega (arith, w.0) in
          let y : its (get_or mid j (mk_rec 0 0 0)) ≡ true = at j jl ∙ ap (λ (x : ℕ). its (get_or rs x (mk_rec 0 0 0))) e ∙ index_passes its rs (mk_rec 0 0 0) t in
          let a : any its mid ≡ true = in_any its mid (get_or mid j (mk_rec 0 0 0)) (in_get_d mid j (mk_rec 0 0 0) jl) y in
          let f : index_of its mid ≡ j = index_is its mid (mk_rec 0 0 0) j jl y (λ m x. at m (omega (arith, x, jl)) ∙ index_first its rs (mk_rec 0 0 0) (q * p.G + m) (omega (arith, x, e))) in
          (λ z. cond (a z) (f z + 1) 0) ∙ sym (ap (λ (x : Bool). cond x (i - q * p.G + 1) 0) t)
      go (no! t) =
          let a : any its mid ≡ false = in_none its mid (λ x m.
          let (j, jl, e) = get_d_in mid (mk_rec 0 0 0) x m in
          let n = length-group p (q * p.G) rs in
          ap its (e ∙ mid_at j jl) ∙ none_in its rs t (get_or rs (q * p.G + j) (mk_rec 0 0 0)) (in_get_d rs (q * p.G + j) (mk_rec 0 0 0) (omega (arith, jl, n)))) in
          ap (λ (x : Bool). cond x (index_of its mid + 1) 0) a ∙ sym (ap (λ (x : Bool). cond x (index_of its rs - q * p.G + 1) 0) t)

-- the rows of the drives are the group's index
indexed_at : (p : Params) (v : View) (gone : ℕ) (sgm : Seg) (q : ℕ) (at : List ℕ) → 0 < p.G → q * p.G < p.S → recs_fault p gone (segment_of p v gone sgm) ≡ false
    → ((d : ℕ) → d < p.N → Row p (q * p.G) (group_recs p (q * p.G) (recs_on (segment_of p v gone sgm) d)) d at) → Indexed p (segment_of p v gone sgm) (q * p.G) at
unfolding has_chunk offset_on
indexed_at p v gone sgm q at g b h rows = record {
  entry = λ d k hd hk. rows d hd k hk ∙ chunk_entry p q (recs_on (segment_of p v gone sgm) d) g b (recs_short p v gone sgm d) (good d hd) k hk;
  within = λ d k hd hk t. chunk_within p q (recs_on (segment_of p v gone sgm) d) g b (recs_short p v gone sgm d) (good d hd) k hk t;
}
  where
    three : (a b c : Bool) → (a || b || c) ≡ false → a ≡ false
    three true b c h = absurd (not_both true refl h)
    three false b c h = refl

    good : (d : ℕ) → d < p.N → outside p 0 (recs_on (segment_of p v gone sgm) d) ≡ false
    good d hd = go (test (is_in gone d))
      where
        go : Test (is_in gone d) → outside p 0 (recs_on (segment_of p v gone sgm) d) ≡ false
        go (yes! e) = unfold outside in ap (outside p 0) (recs_gone p v gone sgm d hd e)
        go (no! e) = three (outside p 0 (recs_on (segment_of p v gone sgm) d)) (twice (recs_on (segment_of p v gone sgm) d)) (any (stored_bad p d) (recs_on (segment_of p v gone sgm) d))
            (unfold recs_fault recs_bad in none_in (λ d. recs_bad p d 0 (recs_on (segment_of p v gone sgm) d)) (present p gone) h d (in_present p gone d hd e))

pub indexed_of : (p : Params) (v : View) (gone : ℕ) (sgm : Seg) (base : ℕ) (at : List ℕ) → 0 < p.G → base < p.S → base % p.G ≡ 0
    → recs_fault p gone (segment_of p v gone sgm) ≡ false
    → ((d : ℕ) → d < p.N → Row p base (group_recs p base (recs_on (segment_of p v gone sgm) d)) d at) → Indexed p (segment_of p v gone sgm) base at
indexed_of p v gone sgm base at g b m h rows =
    let e = base_is p base m in
    subst (λ (x : ℕ). Indexed p (segment_of p v gone sgm) x at) (sym e)
    (indexed_at p v gone sgm (base / p.G) at g (subst (λ (x : ℕ). x < p.S) e b) h
    (λ d hd. subst (λ (x : ℕ). Row p x (group_recs p x (recs_on (segment_of p v gone sgm) d)) d at) e (rows d hd)))

-- a stripe number of the group
pub in_group_of_lem : (p : Params) (base o s : ℕ) → 0 < p.G → base < p.S → base % p.G ≡ 0 → base ≤ o → o < base + group_len p base
    → in_group_of p o s ≡ (leb base s && ltb (s - base) (group_len p base))
in_group_of_lem p base o s g b m h k =
    let e = base_is p base m in
    subst (λ (x : ℕ). in_group_of p o s ≡ (leb x s && ltb (s - x) (group_len p x))) (sym e)
    (in_group p (base / p.G) o s g (subst (λ (x : ℕ). x < p.S) e b) (subst (λ (x : ℕ). x ≤ o) e h) (subst (λ (x : ℕ). o < x + group_len p x) e k))

-- ---- questions of the index

module _ (p : Params) (g : Segment) (base : ℕ) (at : List ℕ) (x : Indexed p g base at) (d k : ℕ) (hd : d < p.N) (hk : k < group_len p base) where
  pub entry_has_chunk : not (eqb (get_or at (256 * d + k) 0) 0) ≡ has_chunk g (base + k) d
  entry_has_chunk = ap (λ (n : ℕ). not (eqb n 0)) (x.entry d k hd hk) ∙ go (has_chunk g (base + k) d)
    where
      go : (b : Bool) → not (eqb (cond b (offset_on g d (base + k) - base + 1) 0) 0) ≡ b
      go true = ap not (ne_eqb (offset_on g d (base + k) - base + 1) 0 (λ y. let z : ⊥ = omega (arith, y) in z))
      go false = ap not (eq-eqb 0 0 refl)

  pub indexed_entered : has_chunk g (base + k) d ≡ true → Entered p base at d k
  indexed_entered t =
      let e : get_or at (256 * d + k) 0 ≡ offset_on g d (base + k) - base + 1 = x.entry d k hd hk ∙ cond_true (has_chunk g (base + k) d) (offset_on g d (base + k) - base + 1) 0 t in
      let w = x.within d k hd hk t in
      (omega (arith, e), omega (arith, e, w.0, w.1))

  -- what an entry says
  pub entered_chunk : 1 ≤ get_or at (256 * d + k) 0 → (has_chunk g (base + k) d ≡ true) × (base + get_or at (256 * d + k) 0 - 1 ≡ offset_on g d (base + k))
  entered_chunk h =
      let t : has_chunk g (base + k) d ≡ true = sym entry_has_chunk ∙ ap not (ne_eqb (get_or at (256 * d + k) 0) 0 (λ y. let z : ⊥ = omega (arith, y, h) in z)) in
      let e : get_or at (256 * d + k) 0 ≡ offset_on g d (base + k) - base + 1 = x.entry d k hd hk ∙ cond_true (has_chunk g (base + k) d) (offset_on g d (base + k) - base + 1) 0 t in
      let w = x.within d k hd hk t in
      (t, omega (arith, e, w.0))

pub counts-entered : (p : Params) (gone : ℕ) (g : Segment) (base : ℕ) (at : List ℕ) (k : ℕ) → Indexed p g base at → k < group_len p base
    → counts p gone g (base + k) ≡ true → AllEntered p gone base at k
unfolding counts
counts-entered p gone g base at k x hk t d hd e =
    indexed_entered p g base at x d k hd hk (all_in (has_chunk g (base + k)) (present p gone) t d (in_present p gone d hd e))
