-- Where a stripe is, all stripes of the groups before it are: so counted stripes in rising order lie at offsets of their groups. Assumes nothing.
use Rattle.std.specs.Prelude.{◌≡◌, refl, List, true, false, ℕ, suc, ◌+◌, ◌-◌, ◌*◌, ◌%◌, ◌≤◌, ◌<◌, length, get_or}
use Rattle.std.proofs.Common.{sym, ap, ◌∙◌, subst, suc-mul, mul-le-mul_right, div-add-mod', div-lt_iff_lt-mul, arith}
use Rattle.std.proofs.Math.Nat.{mod-lt}
use Rattle.std.proofs.Math.Decide.{dec_lt}
use Rattle.std.proofs.Math.Arith.{digits_div}
use Rattle.spec.specs.declared.Params.{Params}
use Rattle.spec.specs.Drives.{View, zone_at, zone_on, sealed_in, data_stored}
use Rattle.spec.specs.Layout.{group, record_of_of}
use Rattle.spec.specs.Lists.{below, is_in}
use Rattle.spec.specs.Params.{capacity}
use Rattle.spec.specs.Segments.{Segment, segment_of, offset_on, has_chunk, counts, counted}
use Rattle.law_basic.specs.Geometry.{Ranged}
use Rattle.law_drives.specs.Counting.{pigeon}
use Rattle.proof_crash_machine.specs.Facts.{Ghost, Choice, Off}
use Rattle.proof_crash_machine.specs.Put.{off_in}
use Rattle.proof_crash_machine.specs.Val.{Val}
use Rattle.proof_crash_machine.specs.View.{Item, InI, ItemView}
use Rattle.proof_crash_machine.specs.View.Item.{chunk}
use Rattle.proof_crash_items.specs.Items.{value_of, chunk_item, chunk_of_lem}
use Rattle.proof_crash_items.specs.Member.{Has, get_d_has, has_get_d}
use Rattle.proof_crash_items.specs.Ranges.{capacity_few, par_of}
use Rattle.proof_crash_items.specs.Refuse.{Rising, rising-keep, rising-below}
use Rattle.proof_crash_items.specs.Segs.{OnDrives, zone_facts, trusted, SegAt, seg_len, seg_pointer_low}
use Rattle.proof_crash_items.specs.Stripes.{stored-below, sealed-at-capacity, offset_on_holds, in_has_chunk, counted_has, has_counted, seg_items}
use Rattle.proof_crash_items.specs.ZoneBytes.{block_in_of}
use Rattle.proof_crash_rebuilds.specs.Sorted.{rising_index, rising-least, onto}
use Rattle.spec.specs.declared.Seg.{Seg}

module _ (p : Params) (r : Ranged p) (off : List ℕ) (g : Ghost) (v : View) (u : ItemView) (k : OnDrives p r off g v u) (m : ℕ) (c : Choice (par_of p r off) g.un (is_in m)) where
  abbrev G : Seg → Segment
  G z = segment_of p v m z

  gp : 0 < p.G
  gp = omega (arith, r.group-low)

  -- a number of group q
  group_at : (q i : ℕ) → i < p.G → group p (q * p.G + i) ≡ q
  unfolding group
  group_at q i l = digits_div q l

  group_split : (s : ℕ) → (group p s * p.G + s % p.G ≡ s) × (s % p.G < p.G)
  unfolding group
  group_split s = (div-add-mod' s p.G, mod-lt s gp)

  -- earlier groups are below
  below-group : (q s : ℕ) → q < group p s → q * p.G + p.G ≤ s
  below-group q s l =
      let a : (group p s * p.G + s % p.G ≡ s) × (s % p.G < p.G) = group_split s in
      let b : suc q * p.G ≤ group p s * p.G = mul-le-mul_right p.G l in
      omega (arith, a.0, b, suc-mul q p.G)

  module _ (z : Seg) (nm d : ℕ) (zb : SegAt p v u m z nm) (l : d < p.N) (n : is_in m d ≡ false) where
    at : ℕ → ℕ
    at o = (record_of_of (block_in_of (zone_at v d (zone_on z d)) (suc o)).spare).stripe

    ofs :
        (o : ℕ)
        → o < data_stored p (zone_at v d (zone_on z d))
        → Off (u d nm) (suc o) (chunk (record_of_of (block_in_of (zone_at v d (zone_on z d)) (suc o)).spare).stripe
        (value_of (block_in_of (zone_at v d (zone_on z d)) (suc o)).block (record_of_of (block_in_of (zone_at v d (zone_on z d)) (suc o)).spare)))
    ofs o w =
        let j : (o < p.S) × (suc o < (zone_at v d (zone_on z d)).pointer) = stored-below p (zone_at v d (zone_on z d)) o w in
        subst (λ (y : List Item). Off y (suc o) (chunk (record_of_of (block_in_of (zone_at v d (zone_on z d)) (suc o)).spare).stripe
        (value_of (block_in_of (zone_at v d (zone_on z d)) (suc o)).block (record_of_of (block_in_of (zone_at v d (zone_on z d)) (suc o)).spare))))
        (sym (seg_items p v u m z nm zb d l n)) (unfold chunk_item in chunk_of_lem p (zone_at v d (zone_on z d)) (seg_pointer_low p r off g v u k m c z zb d l n) o j.0 j.1)

    fact :
        (o : ℕ)
        → o < data_stored p (zone_at v d (zone_on z d))
        → ((record_of_of (block_in_of (zone_at v d (zone_on z d)) (suc o)).spare).stripe < p.S) × (o < p.S) ×
        (group p (record_of_of (block_in_of (zone_at v d (zone_on z d)) (suc o)).spare).stripe ≡ group p o)
    fact o w = (zone_facts p r off g v u k d nm l (trusted p r off g v u k m c d l n)).num o (record_of_of (block_in_of (zone_at v d (zone_on z d)) (suc o)).spare).stripe
        (value_of (block_in_of (zone_at v d (zone_on z d)) (suc o)).block (record_of_of (block_in_of (zone_at v d (zone_on z d)) (suc o)).spare)) (ofs o w)

    stripe_once : (i j : ℕ) → i < data_stored p (zone_at v d (zone_on z d)) → j < data_stored p (zone_at v d (zone_on z d))
        → (record_of_of (block_in_of (zone_at v d (zone_on z d)) (suc i)).spare).stripe ≡ (record_of_of (block_in_of (zone_at v d (zone_on z d)) (suc j)).spare).stripe → i ≡ j
    stripe_once i j a b e =
        let w : suc i ≡ suc j = (zone_facts p r off g v u k d nm l (trusted p r off g v u k m c d l n)).once (suc i) (suc j)
        (record_of_of (block_in_of (zone_at v d (zone_on z d)) (suc j)).spare).stripe
        (value_of (block_in_of (zone_at v d (zone_on z d)) (suc i)).block (record_of_of (block_in_of (zone_at v d (zone_on z d)) (suc i)).spare))
        (value_of (block_in_of (zone_at v d (zone_on z d)) (suc j)).block (record_of_of (block_in_of (zone_at v d (zone_on z d)) (suc j)).spare))
        (subst (λ (s : ℕ). Off (u d nm) (suc i)
        (chunk s (value_of (block_in_of (zone_at v d (zone_on z d)) (suc i)).block (record_of_of (block_in_of (zone_at v d (zone_on z d)) (suc i)).spare)))) e
        (ofs i a)) (ofs j b) in
        omega (arith, w)

    -- the zone has every stripe of an earlier group
    pub earlier : (s t : ℕ) → has_chunk (G z) s d ≡ true → t < p.S → group p t < group p s → has_chunk (G z) t d ≡ true
    earlier s t h tl e =
        let w : (offset_on (G z) d s < data_stored p (zone_at v d (zone_on z d))) × ((record_of_of (block_in_of (zone_at v d (zone_on z d)) (suc (offset_on (G z) d s))).spare).stripe ≡ s) =
        offset_on_holds p r off g v u k m c z s d zb l n h in
        let q : ℕ = group p t in
        let gs : group p (offset_on (G z) d s) ≡ group p s = sym (fact (offset_on (G z) d s) w.0).2 ∙ ap (group p) w.1 in
        let far : q * p.G + p.G ≤ offset_on (G z) d s = below-group q (offset_on (G z) d s) (omega (arith, e, gs)) in
        let inside : (i : ℕ) → i < p.G → q * p.G + i < data_stored p (zone_at v d (zone_on z d)) = λ i b. omega (arith, far, w.0, b) in
        let f : ℕ → ℕ = λ i. (record_of_of (block_in_of (zone_at v d (zone_on z d)) (suc (q * p.G + i))).spare).stripe - q * p.G in
        let here :
        (i : ℕ)
        → i < p.G
        → (q * p.G ≤ (record_of_of (block_in_of (zone_at v d (zone_on z d)) (suc (q * p.G + i))).spare).stripe) ×
        ((record_of_of (block_in_of (zone_at v d (zone_on z d)) (suc (q * p.G + i))).spare).stripe < q * p.G + p.G) =
        λ i b. in-group? q (q * p.G + i) i b refl (inside i b) in
        let a : (i : ℕ) × (i < p.G) × (f i ≡ t % p.G) = onto p.G f (λ i b. omega (arith, (here i b).0, (here i b).1))
        (λ i j x y e. let z : q * p.G + i
        ≡ q * p.G + j = stripe_once (q * p.G + i) (q * p.G + j) (inside i x) (inside j y) (omega (arith, e, (here i x).0, (here j y).0)) in omega
        (arith, z)) (t % p.G) (group_split t).1 in
        let uq : (record_of_of (block_in_of (zone_at v d (zone_on z d)) (suc (q * p.G + a.0))).spare).stripe ≡ t = omega (arith, a.2, (here a.0 a.1).0, (group_split t).0) in
        in_has_chunk p r off g v u k m c z t d
        (value_of (block_in_of (zone_at v d (zone_on z d)) (suc (q * p.G + a.0))).block (record_of_of (block_in_of (zone_at v d (zone_on z d)) (suc (q * p.G + a.0))).spare)) zb l n
        (subst (λ (s : ℕ). InI (chunk s (value_of (block_in_of (zone_at v d (zone_on z d)) (suc (q * p.G + a.0))).block
        (record_of_of (block_in_of (zone_at v d (zone_on z d)) (suc (q * p.G + a.0))).spare)))
        (u d nm)) uq
        (off_in (u d nm) (suc (q * p.G + a.0))
        (chunk (record_of_of (block_in_of (zone_at v d (zone_on z d)) (suc (q * p.G + a.0))).spare).stripe
        (value_of (block_in_of (zone_at v d (zone_on z d)) (suc (q * p.G + a.0))).block (record_of_of (block_in_of (zone_at v d (zone_on z d)) (suc (q * p.G + a.0))).spare)))
        (ofs (q * p.G + a.0) (inside a.0 a.1))))
      where
        in-group? : (q o i : ℕ) → i < p.G → o ≡ q * p.G + i → o < data_stored p (zone_at v d (zone_on z d))
            → (q * p.G ≤ (record_of_of (block_in_of (zone_at v d (zone_on z d)) (suc o)).spare).stripe)
            × ((record_of_of (block_in_of (zone_at v d (zone_on z d)) (suc o)).spare).stripe < q * p.G + p.G)
        in-group? q o i b e w =
            let x : group p (record_of_of (block_in_of (zone_at v d (zone_on z d)) (suc o)).spare).stripe ≡ q = (fact o w).2 ∙ ap (group p) e ∙ group_at q i b in
            let y : (group p (record_of_of (block_in_of (zone_at v d (zone_on z d)) (suc o)).spare).stripe * p.G + (record_of_of
            (block_in_of (zone_at v d (zone_on z d)) (suc o)).spare).stripe % p.G
            ≡ (record_of_of (block_in_of (zone_at v d (zone_on z d)) (suc o)).spare).stripe)
            × ((record_of_of (block_in_of (zone_at v d (zone_on z d)) (suc o)).spare).stripe % p.G < p.G) = group_split
            (record_of_of (block_in_of (zone_at v d (zone_on z d)) (suc o)).spare).stripe in
            let uq : group p (record_of_of (block_in_of (zone_at v d (zone_on z d)) (suc o)).spare).stripe * p.G ≡ q * p.G = ap (λ (n : ℕ). n * p.G) x in
            (omega (arith, y.0, uq), omega (arith, y.0, y.1, uq))

  -- ---- counted stripes
  abbrev cs : Seg → List ℕ
  cs z = counted p m (G z)

  pub counted-rising : (z : Seg) → Rising (counted p m (G z))
  counted-rising z = unfold counted in rising-keep (counts p m (G z)) (below p.S) (rising-below p.S)

  pub earlier_counts : {nm : ℕ} (z : Seg) (s t : ℕ) → SegAt p v u m z nm → Has s (counted p m (G z)) → t < p.S → group p t < group p s → Has t (counted p m (G z))
  earlier_counts {nm} z s t zb h tl e = has_counted p r off g v u k m c z t tl (λ d l n. earlier z nm d zb l n s t ((counted_has p r off g v u k m c z s h).1 d l n) tl e)

  pub counted-group :
      {nm : ℕ} (z : Seg) (j : ℕ)
      → SegAt p v u m z nm
      → j < length (counted p m (G z))
      → (get_or (counted p m (G z)) j 0 < p.S) × (j < p.S) × (group p (get_or (counted p m (G z)) j 0) ≡ group p j)
  counted-group z j zb jl =
      let s : ℕ = get_or (cs z) j 0 in
      let h : Has s (cs z) = get_d_has (cs z) j 0 jl in
      let sl : s < p.S = (counted_has p r off g v u k m c z s h).0 in
      let le : j ≤ s = rising-least (cs z) (counted-rising z) j jl in
      let q : ℕ = group p s in
      let qs : (group p s * p.G + s % p.G ≡ s) × (s % p.G < p.G) = group_split s in
      let low : q * p.G ≤ s = omega (arith, qs.0) in
      let in? : (t : ℕ) → t < q * p.G → Has t (cs z) = λ t b. earlier_counts z s t zb h (omega (arith, b, low, sl)) (smaller t s b) in
      let at : (t : ℕ) → (i : ℕ) × (t < q * p.G → (i < length (cs z)) × (get_or (cs z) i 0 ≡ t)) = λ t. index t (dec_lt t (q * p.G)) in? in
      let ge : q * p.G ≤ j = pigeon (q * p.G) j (λ t. (at t).0)
      (λ t b. rising_index (cs z) (counted-rising z) (at t).0 j ((at t).1 b).0 jl (omega (arith, ((at t).1 b).1, b, low)))
      (λ t u a b e. sym ((at t).1 a).1 ∙ ap (λ (x : ℕ). get_or (cs z) x 0) e ∙ ((at u).1 b).1) in
      (sl, omega (arith, le, sl), same_group s j ge (omega (arith, le, qs.0, qs.1)))
    where
      smaller : (t s : ℕ) → t < group p s * p.G → group p t < group p s
      smaller t s b = unfold group in (div-lt_iff_lt-mul gp).1 b

      same_group : (s j : ℕ) → group p s * p.G ≤ j → j < group p s * p.G + p.G → group p s ≡ group p j
      same_group s j a b = sym (ap (group p) (let e : j ≡ group p s * p.G + (j - group p s * p.G) = omega arith in e) ∙ group_at (group p s) (j - group p s * p.G) (omega arith))

      index : (t : ℕ) → Dec (t < group p (get_or (cs z) j 0) * p.G) → ((t : ℕ) → t < group p (get_or (cs z) j 0) * p.G → Has t (cs z))
          → (i : ℕ) × (t < group p (get_or (cs z) j 0) * p.G → (i < length (cs z)) × (get_or (cs z) i 0 ≡ t))
      index t (yes b) h = let q : (i : ℕ) × (i < length (cs z)) × (get_or (cs z) i 0 ≡ t) = has_get_d (cs z) t 0 (h t b) in (q.0, λ x. (q.1, q.2))
      index t (no b) h = (0, λ x. absurd (b x))

  -- a sealed segment has every stripe
  pub sealed-counts : {nm : ℕ} (z : Seg) (s : ℕ) → SegAt p v u m z nm → sealed_in p v m z ≡ true → s < p.S → Has s (counted p m (G z))
  sealed-counts {nm} z s zb e sl = has_counted p r off g v u k m c z s sl (λ d l n.
      let t : g.un d ≡ false = trusted p r off g v u k m c d l n in
      let b : length (u d nm) ≡ capacity p = seg_len p r off g v u k m c z zb d l n ∙ sealed-at-capacity p r off g v u k m c z d e l n in
      let x : (x : Val) × InI (chunk s x) (u d nm) = (zone_facts p r off g v u k d nm l t).sealed (omega (arith, b, capacity_few p r)) s sl in
      in_has_chunk p r off g v u k m c z s d x.0 zb l n x.1)
