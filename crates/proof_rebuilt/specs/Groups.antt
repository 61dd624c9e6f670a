-- An accepted image with a drive missing: where a stripe counts, all stripes of the groups before it count, so a counted stripe's place among them is in its group. Assumes nothing.
use Rattle.std.specs.Prelude.{◌≡◌, refl, List, map, Bool, false, ◌&&◌, get_or, take}
use Rattle.std.proofs.Math.Path.{sym, ap}
use Rattle.std.proofs.Common.{◌∙◌, subst, div-lt_iff_lt-mul, length-take-le, get_or-take}
use Rattle.std.proofs.Math.Bool.{true}
use Prim.Native.Nat.{ℕ, ◌+◌, ◌-◌, ◌*◌, ◌/◌, ◌%◌, ◌≤◌, ◌<◌}
use Rattle.std.proofs.Math.Nat.{div-add-mod', mod-lt}
use borrow.Author.Tests.{ltb-true, eqb-true}
use native.Mathlib.Omega.{arith}
use Rattle.std.proofs.Math.Dec.{ltb, eqb}
use Rattle.std.proofs.Math.ListN.{length}
use Rattle.std.proofs.lemmas.List.{length-map}
use Rattle.std.proofs.Math.Arith.{digits_div}
use Rattle.spec.specs.declared.Params.{Params}
use Rattle.spec.specs.Drives.{Zone, View, zone_at, pointer_at, zone_on, sealed_in, data_stored, record_in}
use Rattle.spec.specs.Layout.{group, in_group_of, Rec, mk_rec}
use Rattle.spec.specs.Lists.{below, tally, is_in}
use Rattle.spec.specs.Params.{capacity, present}
use Rattle.spec.specs.Segments.{remaining, Segment, records_in, segment_of, offset_on, has_chunk, counts, counted}
use Rattle.law_basic.specs.Geometry.{Ranged}
use Rattle.law_basic.specs.Ranges.{and_left, and_right, get_d_map, length-below, tally-le}
use Rattle.law_drives.specs.Accept.{Accepted, zone_stripes, in_groups}
use Rattle.law_drives.specs.Counting.{stripes_different}
use Rattle.law_drives.specs.Members.{In, in_all, all_in, keep_all, below_in, get_d_in}
use Rattle.law_drives.specs.Range.{capacity_is}
use Rattle.law_drives.specs.Segs.{length_records, record_at_lem, chunk_at_holds, has_chunk_holds}
use Rattle.law_drives.specs.Spots.{counts_in}
use Rattle.proof_rebuilt.specs.Numbers.{rank_high, different_take, all_there}
use Rattle.spec.specs.declared.Seg.{Seg}
use Rattle.law_drives.specs.Gather.{in_present, present_in}

module _ (p : Params) (r : Ranged p) (v : View) (gone : ℕ) (acc : Accepted p v gone) (g : Seg) (m : In g (remaining p v gone)) where
  abbrev x : Segment
  x = segment_of p v gone g

  abbrev w : Bool
  w = sealed_in p v gone g

  gp : 0 < p.G
  gp = omega (arith, r.group-low)

  module _ (e : ℕ) (he : e < p.N) (pr : is_in gone e ≡ false) where
    abbrev q : Zone
    q = zone_at v e (zone_on g e)

    abbrev at : ℕ → ℕ
    at o = (record_in p w q o).stripe

    -- the stripe of an offset is in its group
    at-group : (o : ℕ) → o < data_stored p q → (at o < p.S) × (group p (at o) ≡ group p o)
    unfolding in_group_of
    at-group o h =
        let f1 = ltb (at o) p.S in
        let f2 = eqb (group p (at o)) (group p o) in
        let a : f1 && f2 ≡ true = in_groups p v gone acc g e o m he pr h in
        (ltb-true (at o) p.S (and_left f1 f2 a), eqb-true (group p (at o)) (group p o) (and_right f1 f2 a))

    -- the first n offsets have all stripes below n, where they have no other
    reach : (n : ℕ) → n ≤ data_stored p q → ((o : ℕ) → o < n → at o < n) → (t : ℕ) → t < n → has_chunk x t e ≡ true
    reach n h f t b =
        let rs = records_in p w q in
        let ss : List ℕ = map (λ (y : Rec). y.stripe) rs in
        let ls : length ss ≡ data_stored p q = length-map rs (λ (y : Rec). y.stripe) ∙ length_records p w q in
        let ll : length (take n ss) ≡ n = length-take-le n ss (omega arith) in
        let each : (k : ℕ) → k < n → get_or (take n ss) k 0 ≡ at k =
        λ k i. get_or-take n ss k 0 i
        ∙ get_d_map (λ (y : Rec). y.stripe) rs k 0 (mk_rec 0 0 0) (subst (λ (y : ℕ). k < y) (sym (length_records p w q)) (omega arith))
        ∙ ap (λ (y : Rec). y.stripe) (record_at_lem p w q k (mk_rec 0 0 0) (omega arith)) in
        let below! : (y : ℕ) → In y (take n ss) → y < n =
        λ y i. let (k, l, u) = get_d_in (take n ss) 0 y i in let l2 : k < n = omega arith in subst (λ (z : ℕ). z < n) (sym (u ∙ each k l2)) (f k l2) in
        let (k, l, u) = get_d_in (take n ss) 0 t (all_there n (take n ss) (different_take n ss (stripes_different rs (zone_stripes p v gone acc g e m he pr).1)) below! ll t b) in
        let l2 : k < n = omega arith in
        has_chunk_holds p v gone g e t k he pr (omega arith) (sym (u ∙ each k l2))

    -- a stripe's zone has all stripes of the groups before
    before_has : (s t : ℕ) → has_chunk x s e ≡ true → t < group p s * p.G → has_chunk x t e ≡ true
    before_has s t c h =
        let k = chunk_at_holds p v gone g e s he pr c in
        let o = offset_on x e s in
        let a = at-group o k.stored_there in
        let gs : group p s ≡ group p o = ap (group p) (sym k.its_stripe) ∙ a.1 in
        let n = group p o * p.G in
        let le : n ≤ o = group_floor o in
        let lt = k.stored_there in
        reach n (omega arith) (λ i l. in_first n o i refl l (at-group i (omega arith)).1) t (subst (λ (y : ℕ). t < y * p.G) gs h)
      where
        group_floor : (o : ℕ) → group p o * p.G ≤ o
        group_floor o = unfold group in (let z : o / p.G * p.G + o % p.G ≡ o = div-add-mod' o p.G in omega arith)

        in_first : (n o i : ℕ) → n ≡ group p o * p.G → i < n → group p (at i) ≡ group p i → at i < n
        in_first n o i en l eg = subst (λ (y : ℕ). at i < y) (sym en) (last o i (subst (λ (y : ℕ). i < y) en l) eg)
          where
            last : (o i : ℕ) → i < group p o * p.G → group p (at i) ≡ group p i → at i < group p o * p.G
            last o i l eg = unfold group in ((div-lt_iff_lt-mul gp).0 (subst (λ (y : ℕ). y < o / p.G) (sym eg) ((div-lt_iff_lt-mul gp).1 l)))

    -- a zone with S data blocks has every stripe
    full_has : data_stored p q ≡ p.S → (t : ℕ) → t < p.S → has_chunk x t e ≡ true
    full_has h t b = reach p.S (omega arith) (λ o l. (at-group o (omega arith)).0) t b

  -- ---- counted stripes

  counts_of : (s : ℕ) → ((e : ℕ) → e < p.N → is_in gone e ≡ false → has_chunk x s e ≡ true) → counts p gone x s ≡ true
  unfolding counts
  counts_of s f = in_all (has_chunk x s) (present p gone) (λ e i. let (he, pr) = present_in p gone e i in f e he pr)

  before-counts : (s t : ℕ) → counts p gone x s ≡ true → t < group p s * p.G → counts p gone x t ≡ true
  before-counts s t c h = counts_of t (λ e he pr. before_has e he pr s t (counts_in p gone x s e c he pr) h)

  -- a sealed segment counts all
  sealed_pointer : (e : ℕ) → e < p.N → is_in gone e ≡ false → w ≡ true → (zone_at v e (zone_on g e)).pointer ≡ capacity p
  unfolding sealed_in pointer_at
  sealed_pointer e he pr h =
      eqb-true (zone_at v e (zone_on g e)).pointer (capacity p) (all_in (λ e. eqb (zone_at v e (zone_on g e)).pointer (capacity p)) (present p gone) h e (in_present p gone e he pr))

  sealed-all-count : w ≡ true → (t : ℕ) → t < p.S → counts p gone x t ≡ true
  sealed-all-count h t b = counts_of t (λ e he pr. full_has e he pr (go e (sealed_pointer e he pr h)) t b)
    where
      go : (e : ℕ) → (zone_at v e (zone_on g e)).pointer ≡ capacity p → data_stored p (zone_at v e (zone_on g e)) ≡ p.S
      go e a = unfold data_stored in (let c = capacity_is p r in omega arith)

  pub sealed-all : w ≡ true → length (counted p gone x) ≡ p.S
  unfolding counted
  sealed-all h = ap length (keep_all (counts p gone x) (below p.S) (λ t i. sealed-all-count h t (below_in p.S t i))) ∙ length-below p.S

  -- the place of a stripe among the counted ones
  abbrev pub rank_of : ℕ → ℕ
  rank_of s = tally (counts p gone x) (below s)

  pub rank_group : (s : ℕ) → counts p gone x s ≡ true → group p s ≡ group p (rank_of s)
  unfolding group
  rank_group s c =
      let b : ℕ = s / p.G in
      let e : b * p.G + s % p.G ≡ s = div-add-mod' s p.G in
      let l : s % p.G < p.G = mod-lt s gp in
      let hi : rank_of s ≤ s = tally-le (counts p gone x) s in
      let lo : b * p.G ≤ rank_of s = rank_high (counts p gone x) (b * p.G) s (omega arith) (λ t h. before-counts s t c h) in
      sym (ap (λ (y : ℕ). y / p.G) (let z : rank_of s ≡ b * p.G + (rank_of s - b * p.G) = omega arith in z) ∙ digits_div b (let z : rank_of s - b * p.G < p.G = omega arith in z))
