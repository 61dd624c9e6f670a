-- No restart that names an allowed drive, or none, is refused 9 or 8 on drives with the facts. Assumes nothing.
use Rattle.std.specs.Prelude.{◌≡◌, ◌&&◌, ◌≢◌, take, drop}
use Rattle.std.proofs.Math.Path.{refl, sym, ap, ap₂, subst}
use Rattle.std.proofs.Common.{◌∙◌, inl, inr, get_or-take, get_or-drop, ext_get_or}
use mathlib.Core.List.{List, [], ◌∷◌, map}
use Rattle.std.proofs.Math.Bool.{Bool, true, false, not, ◌||◌}
use Prim.Native.Nat.{ℕ, zero, suc, ◌+◌, ◌≤◌, ◌<◌}
use borrow.Author.Tests.{lt-leb, lt-ltb, le-ltb, eq-eqb, ne_eqb, eqb-true, not-true}
use native.Mathlib.Omega.{arith}
use Rattle.std.proofs.Math.Dec.{leb, ltb, eqb}
use Rattle.std.proofs.Math.ListN.{length, get_or, length-drop, length-map}
use Rattle.std.proofs.Math.Seq.{length-take-le}
use Rattle.spec.specs.declared.Params.{Params}
use Rattle.spec.specs.Calls.{first_refusal}
use Rattle.spec.specs.Counts.{padding_address, last_count}
use Rattle.spec.specs.Drives.{Chunk, mk_chunk, no_chunk, Zone, no_zone, View, zone_at, pointer_at, chunk_at, same_seg, zone_on, data_stored, blocks_of, footers_of, zero_spare}
use Rattle.spec.specs.Faults.{pointer_faults, same_chunk, header_fault, serial_fault, outside, twice, stripe_fault, bad_rec, stored_bad, decoded_bad, address_fault}
use Rattle.spec.specs.Faults.{footers_stored, same_blocks_of, footer_fault_in, footer_fault, clashes, segment_fault, segment_faults, bad_name, name_clash, own_fault, serial_twice}
use Rattle.spec.specs.Layout.{is_data, group, in_group_of, header_block, Rec, mk_rec, record_of_of, footer_block}
use Rattle.spec.specs.Lists.Opt.{none}
use Rattle.spec.specs.Lists.{up_from, below, all, any, cons_if, keep, is_nil, same_list, is_in}
use Rattle.spec.specs.Params.{in_range, footers, capacity, named, present, absent, drives_of}
use Rattle.spec.specs.Restart.{names_drive, rewrites, restart_checks, free_zones, none_free_of}
use Rattle.spec.specs.Segments.{low_drive, header_at, remaining, Segment, segment_of, segments, recs_on, counted, piece_of, rec_of, greatest_serial, unsealed, is_used, serial_in, is_copy, left_by1}
use Rattle.law_checks.specs.Passed.{restart_goes}
use Rattle.law_basic.specs.Geometry.{Ranged, addresses_all}
use Rattle.law_basic.specs.Ranges.{and_both, length_up_from, get_d_up_from, get_d_map, same_list_refl, and-false, keep-map, and_left, and_right}
use Rattle.law_basic.specs.Segs.{seg_same, segs_differ, zones_in_lem}
use Rattle.law_drives.specs.Accept.{outside_none}
use Rattle.law_drives.specs.Records.{blocks_at}
use Rattle.law_drives.specs.Segs.{piece_rec, Here}
use Rattle.law_drives.specs.Tests.{not_so}
use Rattle.proof_crash_machine.specs.Accept.{accepted}
use Rattle.proof_crash_machine.specs.Facts.{Ghost, InV, Good, Choice, R, Off}
use Rattle.proof_crash_machine.specs.Put.{off_in}
use Rattle.proof_crash_machine.specs.Val.{Val, pads}
use Rattle.proof_crash_machine.specs.View.{Item, ItemView}
use Rattle.proof_crash_machine.specs.View.Item.{chunk}
use Rattle.proof_crash_items.specs.Items.{value_of, chunk_item, chunk_of_lem}
use Rattle.proof_crash_items.specs.Member.{Has, or_both_false, and_false_1, keep_has, has_keep, keep-nil, up_from_has, below_has, none_any, map_has, has_map, has_get_d, is_nil_has, has_below}
use Rattle.proof_crash_items.specs.Named.{has_absent, none_present}
use Rattle.proof_crash_items.specs.Ranges.{par_of, data_code}
use Rattle.proof_crash_items.specs.SegFacts.{segment-fields, seg-R, begun_on, serial_ghost, copied_ghost, seg_used, ragged_of, heads_alike, seg_names}
use Rattle.proof_crash_items.specs.Segs.{OnDrives, zone_facts, trusted, SegAt, borne_by, fine_good, its_zones, name_once, name_of, one_there, put_there, seg_bytes, seg_pointer_low, remains_at_holds}
use Rattle.proof_crash_items.specs.Shape.{ZoneShape, shape_zone}
use Rattle.proof_crash_items.specs.Stripes.{spare_recs, length-spare_recs, get_d_spare_recs, stored-below, pointer_is, zones_by, recs_by_spare, piece_at, counted_stripe, seg_items}
use Rattle.proof_crash_items.specs.Values.{piece_value}
use Rattle.proof_crash_items.specs.ZoneBytes.{spares_in, block_in_of, ZoneBytes, head_of}
use Rattle.spec.specs.declared.Seg.{Seg}
use Rattle.law_drives.specs.Tables.{remaining_is, remains_at, seg-at_zone, seg_at}
use Rattle.spec.specs.Drives.{above_narrow, few_good, good_zones, is_good}
use Rattle.spec.specs.Segments.{bearing, leads}
use Rattle.proof_crash_items.specs.Segs.{drive_here}

-- ---- rising lists

abbrev pub Rising : List ℕ → Type 0
Rising [] = Unit {0}
Rising (a ∷ l) = ((b : ℕ) → Has b l → a < b) × Rising l

pub rising_up_from : (i n : ℕ) → Rising (up_from i n)
unfolding up_from
rising_up_from i zero = tt
rising_up_from i (suc n) = ((λ b h. omega (arith, (up_from_has b (suc i) n h).0)), rising_up_from (suc i) n)

pub rising-keep : (f : ℕ → Bool) (l : List ℕ) → Rising l → Rising (keep f l)
unfolding keep
rising-keep f [] h = tt
rising-keep f (a ∷ l) h = go (f a) (rising-keep f l h.1)
  where
    go : (b : Bool) → Rising (keep f l) → Rising (cons_if b a (keep f l))
    go true ih = unfold cons_if in ((λ b i. h.0 b (keep_has f b l i).0), ih)
    go false ih = unfold cons_if in ih

pub rising-below : (n : ℕ) → Rising (below n)
unfolding below
rising-below n = rising_up_from 0 n

-- ---- segments, rising by their zones on a drive

abbrev pub seg_zones : ℕ → List Seg → List ℕ
seg_zones d l = map (λ (z : Seg). zone_on z d) l

-- of segments that rise the first is none of the others
pub rising_apart : (d : ℕ) (z : Seg) (l : List Seg) → Rising (seg_zones d (z ∷ l)) → (y : Seg) → Has y l → y ≡ z → ⊥
rising_apart d z l r y i e =
    let b : zone_on z d < zone_on y d = r.0 (zone_on y d) (has_map (λ (x : Seg). zone_on x d) l y i) in
    let o : zone_on y d ≡ zone_on z d = ap (λ (x : Seg). zone_on x d) e in
    let j : ⊥ = omega (arith, b, o) in j

-- the segments that remain rise by their zones on the lowest present drive
pub remaining-rising : (p : Params) (v : View) (gone : ℕ) → Here p gone → Rising (seg_zones (low_drive p gone) (remaining p v gone))
remaining-rising p v gone h =
    subst (λ (l : List Seg). Rising (seg_zones (low_drive p gone) l)) (sym (remaining_is p v gone))
    (subst Rising (sym (back ns (λ z i. seg-at_zone p v gone h z (leads! z (keep_has (remains_at p v gone) z (below p.Z) i).1))))
    (rising-keep (remains_at p v gone) (below p.Z) (rising-below p.Z)))
  where
    leads! : (z : ℕ) → remains_at p v gone z ≡ true → leads p v (low_drive p gone) z ≡ true
    leads! z q = unfold remains_at in (
        let l = all (λ d. ltb (zone_on (seg_at p v gone z) d) p.Z) (present p gone) in
        and_left (leads p v (low_drive p gone) z) l (and_left (leads p v (low_drive p gone) z && l) (not (is_copy p v (low_drive p gone) (left_by1 p v gone) (seg_at p v gone z))) q))

    ns : List ℕ
    ns = keep (remains_at p v gone) (below p.Z)

    back : (l : List ℕ) → ((z : ℕ) → Has z l → zone_on (seg_at p v gone z) (low_drive p gone) ≡ z) → seg_zones (low_drive p gone) (map (seg_at p v gone) l) ≡ l
    back [] f = refl
    back (z ∷ l) f = ap₂ (λ (x : ℕ) (y : List ℕ). x ∷ y) (f z (inl refl)) (back l (λ y i. f y (inr i)))

-- at most one passes
pub one-kept-at_most : (d : ℕ) (f : Seg → Bool) (l : List Seg) → Rising (seg_zones d l) → ((a b : Seg) → Has a l → Has b l → f a ≡ true → f b ≡ true → a ≡ b)
    → length (keep f l) ≤ 1
unfolding keep
one-kept-at_most d f [] h e = omega arith
one-kept-at_most d f (a ∷ l) h e = go (f a) refl (one-kept-at_most d f l h.1 (λ x y i j. e x y (inr i) (inr j)))
  where
    go : (b : Bool) → f a ≡ b → length (keep f l) ≤ 1 → length (cons_if b a (keep f l)) ≤ 1
    go true q ih = unfold cons_if in (let n : keep f l ≡ [] = keep-nil f l (λ x i. not_so (f x) (λ t.
        rising_apart d a l h x i (sym (e a x (inl refl) (inr i) q t)))) in
        let z : length (keep f l) ≡ 0 = ap length n in omega arith)
    go false q ih = unfold cons_if in ih

pub one_number_at_most : (f : ℕ → Bool) (l : List ℕ) → Rising l → ((a b : ℕ) → Has a l → Has b l → f a ≡ true → f b ≡ true → a ≡ b) → length (keep f l) ≤ 1
unfolding keep
one_number_at_most f [] h e = omega arith
one_number_at_most f (a ∷ l) h e = go (f a) refl (one_number_at_most f l h.1 (λ x y i j. e x y (inr i) (inr j)))
  where
    go : (b : Bool) → f a ≡ b → length (keep f l) ≤ 1 → length (cons_if b a (keep f l)) ≤ 1
    go true q ih = unfold cons_if in (let n : keep f l ≡ [] = keep-nil f l (λ x i. not_so (f x) (λ t.
        let w : a ≡ x = e a x (inl refl) (inr i) q t in let y : ⊥ = omega (arith, w, h.0 x i) in y)) in
        let z : length (keep f l) ≡ 0 = ap length n in omega arith)
    go false q ih = unfold cons_if in ih

-- ---- records by offset

not_twice : (rs : List Rec) → ((j k : ℕ) → j < length rs → k < length rs → (get_or rs j (mk_rec 0 0 0)).stripe ≡ (get_or rs k (mk_rec 0 0 0)).stripe → j ≡ k) → twice rs ≡ false
unfolding twice
not_twice [] h = refl
not_twice (x ∷ rs) h =
    or_both_false (any (λ (q : Rec). eqb q.stripe x.stripe) rs) (twice rs)
    (none_any (λ (q : Rec). eqb q.stripe x.stripe) rs (λ q i.
    let w : (j : ℕ) × (j < length rs) × (get_or rs j (mk_rec 0 0 0) ≡ q) = has_get_d rs q (mk_rec 0 0 0) i in
    ne_eqb q.stripe x.stripe (λ e. let z : suc w.0 ≡ 0 = h (suc w.0) 0 (omega (arith, w.1)) (omega arith) (ap (λ (y : Rec). y.stripe) w.2 ∙ e) in
    let n : ⊥ = omega (arith, z) in n)))
    (not_twice rs (λ j k a b e. let z : suc j ≡ suc k = h (suc j) (suc k) (omega arith) (omega arith) e in omega (arith, z)))

same_self : (l : List (List ℕ)) → same_blocks_of l l ≡ true
unfolding same_blocks_of
same_self [] = refl
same_self (x ∷ l) = and_both (same_list x x) (same_blocks_of l l) (same_list_refl x) (same_self l)

blocks_same : (a b : List (List ℕ)) → a ≡ b → same_blocks_of a b ≡ true
blocks_same a b e = subst (λ (x : List (List ℕ)). same_blocks_of a x ≡ true) e (same_self a)

-- the footers stored in a zone are made from its spares
footers-made : (p : Params) → Ranged p → (d : ℕ) (q : Zone) → ZoneShape p q → ZoneBytes p d q → footer_fault_in p q ≡ false
unfolding footer_fault_in
footers-made p r d q s f = ap not (blocks_same (blocks_of (take (footers_stored p q) (drop (1 + p.S) q.blocks))) (footers_of p q 0 (footers_stored p q)) same)
  where
    n : ℕ
    n = footers_stored p q

    few_footers : (footers_stored p q ≤ footers p) × ((j : ℕ) → j < footers_stored p q → suc (p.S + j) < q.pointer)
    few_footers = unfold footers_stored in (omega arith, λ j l. omega arith)

    long_a : length (blocks_of (take n (drop (1 + p.S) q.blocks))) ≡ n
    long_a = unfold blocks_of in (length-map (take n (drop (1 + p.S) q.blocks)) (λ (c : Chunk). c.block)
        ∙ length-take-le n (drop (1 + p.S) q.blocks) (unfold capacity in omega (arith, length-drop (1 + p.S) q.blocks, s.count, few_footers.0)))

    long_b : length (footers_of p q 0 n) ≡ n
    long_b = unfold footers_of in (length-map (up_from 0 n) (footer_block p (spares_in p q)) ∙ length_up_from 0 n)

    each : (j : ℕ) → j < n → get_or (blocks_of (take n (drop (1 + p.S) q.blocks))) j [] ≡ get_or (footers_of p q 0 n) j []
    each j l =
        blocks_at (take n (drop (1 + p.S) q.blocks)) j
        ∙ ap (λ (c : Chunk). c.block) (get_or-take n (drop (1 + p.S) q.blocks) j no_chunk l ∙ get_or-drop (1 + p.S) q.blocks j no_chunk
        ∙ ap (λ (i : ℕ). get_or q.blocks i no_chunk) (let e : 1 + p.S + j ≡ suc (p.S + j) = omega arith in e) ∙ f.feet j (few_footers.1 j l))
        ∙ sym right
      where
        right : get_or (footers_of p q 0 n) j [] ≡ footer_block p (spares_in p q) j
        right = unfold footers_of in (get_d_map (footer_block p (spares_in p q)) (up_from 0 n) j [] 0 (omega (arith, length_up_from 0 n))
            ∙ ap (footer_block p (spares_in p q)) (get_d_up_from 0 n j 0 l ∙ (let e : 0 + j ≡ j = omega arith in e)))

    same : blocks_of (take n (drop (1 + p.S) q.blocks)) ≡ footers_of p q 0 n
    same = ext_get_or [] (blocks_of (take n (drop (1 + p.S) q.blocks))) (footers_of p q 0 n) (long_a ∙ sym long_b) (λ j l. each j (omega (arith, l, long_a)))

module _ (p : Params) (r : Ranged p) (off : List ℕ) (g : Ghost) (v : View) (u : ItemView) (k : OnDrives p r off g v u) (known : (x : Val) → InV x g.sent → (0 < x.stamp) × (x.addr < p.L))
    (m : ℕ) (c : Choice (par_of p r off) g.un (is_in m)) where
  abbrev G : Seg → Segment
  G z = segment_of p v m z

  -- ---- pointers
  pub pointers_fine : pointer_faults p v m ≡ []
  unfolding pointer_faults
  pointers_fine = keep-nil (λ z. any (λ d. is_good p v.offline d z && ltb (capacity p) (pointer_at v d z)) (present p m)) (below p.Z) (λ z i.
      none_present p m (λ d. is_good p v.offline d z && ltb (capacity p) (pointer_at v d z)) (λ d l n. one z (below_has z p.Z i) d l n (is_good p v.offline d z) refl))
    where
      one : (z : ℕ) → z < p.Z → (d : ℕ) → d < p.N → is_in m d ≡ false → (b : Bool) → is_good p v.offline d z ≡ b
          → (is_good p v.offline d z && ltb (capacity p) (pointer_at v d z)) ≡ false
      one z i d l n true e = and-false (is_good p v.offline d z) (ltb (capacity p) (pointer_at v d z))
          (le-ltb (capacity p) (pointer_at v d z) (subst (λ (x : ℕ). x ≤ capacity p) (pointer_is v d z) (k.bytes d l (trusted p r off g v u k m c d l n) z i e).low))
      one z i d l n false e = and_false_1 (is_good p v.offline d z) (ltb (capacity p) (pointer_at v d z)) e

  module _ (z : Seg) (i : Has z (remaining p v m)) where
    nm : ℕ
    nm = name_of p v m z

    b : SegAt p v u m z (name_of p v m z)
    b = remains_at_holds p r off g v u k m c z i

    R? : R (par_of p r off) g.hd u (is_in m) (name_of p v m z)
    R? = seg-R p r off g v u k m c z i

    zone_begun : (d : ℕ) → d < p.N → is_in m d ≡ false → 0 < pointer_at v d (zone_on z d)
    zone_begun = begun_on p r off g v u k m c z i

    -- ---- headers
    header_fine : header_fault p m (G z) ≡ false
    unfolding header_fault
    header_fine = none_present p m
        (λ d. not (same_chunk (get_or (get_or (G z).zones_by_holds d no_zone).blocks 0 no_chunk) (header_block p d (G z).names (G z).serial (G z).copied) zero_spare)) (λ d l n.
        ap not (subst (λ (q : Zone). same_chunk (get_or q.blocks 0 no_chunk) (header_block p d (G z).names (G z).serial (G z).copied) zero_spare ≡ true)
        (sym (zones_by p r off g v u k m c z d l)) (one d l n)))
      where
        whole : (d : ℕ) → d < p.N → is_in m d ≡ false → block_in_of (zone_at v d (zone_on z d)) 0 ≡ head_of p d (header_at v d z)
        whole d l n =
            unfold header_at chunk_at in (seg_bytes p r off g v u k m c z b d l n).head (subst (λ (x : ℕ). 0 < x) (sym (pointer_is v d (zone_on z d))) (zone_begun d l n))

        chunk_self : (x y : List ℕ) → same_chunk (mk_chunk x y) x y ≡ true
        chunk_self x y = unfold same_chunk in and_both (same_list x x) (same_list y y) (same_list_refl x) (same_list_refl y)

        one : (d : ℕ) → d < p.N → is_in m d ≡ false → same_chunk (get_or (zone_at v d (zone_on z d)).blocks 0 no_chunk)
            (header_block p d (G z).names (G z).serial (G z).copied) zero_spare ≡ true
        one d l n =
            let a = heads_alike p r off g v u k m c z i d l n in
            let e : head_of p d (header_at v d z) ≡ mk_chunk (header_block p d (G z).names (G z).serial (G z).copied) zero_spare =
            λ j. mk_chunk (header_block p d (a.0 j) (a.1 j) (a.2 j)) zero_spare in
            subst (λ (x : Chunk). same_chunk x (header_block p d (G z).names (G z).serial (G z).copied) zero_spare ≡ true) (sym (whole d l n ∙ e))
            (chunk_self (header_block p d (G z).names (G z).serial (G z).copied) zero_spare)

    -- ---- the zones that they name
    refuse_name_is : (d : ℕ) → d < p.N → get_or (G z).names d 0 ≡ zone_on z d
    refuse_name_is d l = ap (λ (x : List ℕ). get_or x d 0) (seg_names p r off g v u k m c z i) ∙ zones_in_lem p z d l

    own_fine : own_fault p m (G z) ≡ false
    unfolding own_fault
    own_fine = none_present p m (λ d. not (eqb (get_or (G z).names d 0) (zone_on (G z).seg d))) (λ d l n.
        ap not (eq-eqb (get_or (G z).names d 0) (zone_on (G z).seg d) (refuse_name_is d l ∙ ap (λ (x : Seg). zone_on x d) (sym (segment-fields p r off g v u k m c z).0))))

    names_fine : bad_name p v (G z) ≡ false
    unfolding bad_name drives_of
    names_fine = none_any (λ d. not (ltb (get_or (G z).names d 0) p.Z && is_good p v.offline d (get_or (G z).names d 0))) (below p.N) (λ d j.
        let l : d < p.N = below_has d p.N j in
        let a = put_there p r off g v u k m c z i d l in
        ap not (and_both (ltb (get_or (G z).names d 0) p.Z) (is_good p v.offline d (get_or (G z).names d 0))
        (lt-ltb (get_or (G z).names d 0) p.Z (subst (λ (x : ℕ). x < p.Z) (sym (refuse_name_is d l)) a.0))
        (ap (is_good p v.offline d) (refuse_name_is d l) ∙ a.1)))

    -- no serial is twice on a drive
    twice_fine : serial_twice p v m (G z) ≡ false
    unfolding serial_twice bearing
    twice_fine = none_present p m (λ d. leb 2 (length (bears d))) (λ d l n.
        lt-leb 2 (length (bears d)) (let a : length (bears d) ≤ 1 = one_number_at_most (test? d) (below p.Z) (rising-below p.Z) (λ x y i j s t.
        sym (at d l n x (below_has x p.Z i) s) ∙ at d l n y (below_has y p.Z j) t) in omega (arith, a)))
      where
        test? : ℕ → ℕ → Bool
        test? d x = is_used p v d x && eqb (serial_in p v d x) (G z).serial

        bears : ℕ → List ℕ
        bears d = keep (test? d) (below p.Z)

        at : (d : ℕ) → d < p.N → is_in m d ≡ false → (x : ℕ) → x < p.Z → test? d x ≡ true → g.hd.zn (G z).serial d ≡ x
        at d l n x b s =
            ap (λ (y : ℕ). g.hd.zn y d) (sym (eqb-true (serial_in p v d x) (G z).serial (and_right (is_used p v d x) (eqb (serial_in p v d x) (G z).serial) s)))
            ∙ (borne_by p r off g v u k d x l (trusted p r off g v u k m c d l n) b (and_left (is_used p v d x) (eqb (serial_in p v d x) (G z).serial) s)).1

    serials_fine : serial_fault (G z) ≡ false
    unfolding serial_fault
    serials_fine = lt-leb (G z).serial (G z).copied
        (omega (arith, serial_ghost p r off g v u k m c z i, copied_ghost p r off g v u k m c z i, k.facts.swap.below (name_of p v m z) (seg_used p r off g v u k m c z i)))

    -- ---- stripe numbers
    off_rec : (d o : ℕ) → d < p.N → is_in m d ≡ false → o < data_stored p (zone_at v d (zone_on z d))
        → Off (u d (name_of p v m z)) (suc o) (chunk (record_of_of (block_in_of (zone_at v d (zone_on z d)) (suc o)).spare).stripe
        (value_of (block_in_of (zone_at v d (zone_on z d)) (suc o)).block (record_of_of (block_in_of (zone_at v d (zone_on z d)) (suc o)).spare)))
    off_rec d o l n w =
        let s : (o < p.S) × (suc o < (zone_at v d (zone_on z d)).pointer) = stored-below p (zone_at v d (zone_on z d)) o w in
        subst (λ (y : List Item). Off y (suc o) (chunk (record_of_of (block_in_of (zone_at v d (zone_on z d)) (suc o)).spare).stripe
        (value_of (block_in_of (zone_at v d (zone_on z d)) (suc o)).block (record_of_of (block_in_of (zone_at v d (zone_on z d)) (suc o)).spare))))
        (sym (seg_items p v u m z (name_of p v m z) b d l n)) (unfold chunk_item in chunk_of_lem p (zone_at v d (zone_on z d)) (seg_pointer_low p r off g v u k m c z b d l n) o s.0 s.1)

    stripes_fine : stripe_fault p m (G z) ≡ false
    unfolding stripe_fault
    stripes_fine = none_present p m (λ d. outside p 0 (recs_on (G z) d) || twice (recs_on (G z) d)) (λ d l n.
        subst (λ (x : List Rec). (outside p 0 x || twice x) ≡ false) (sym (recs_by_spare p r off g v u k m c z d b l n))
        (or_both_false (outside p 0 (spare_recs p (zone_at v d (zone_on z d)))) (twice (spare_recs p (zone_at v d (zone_on z d)))) (out d l n) (once d l n)))
      where
        at : (d o : ℕ) → o < length (spare_recs p (zone_at v d (zone_on z d)))
            → get_or (spare_recs p (zone_at v d (zone_on z d))) o (mk_rec 0 0 0) ≡ record_of_of (block_in_of (zone_at v d (zone_on z d)) (suc o)).spare
        at d o w = get_d_spare_recs p (zone_at v d (zone_on z d)) o (mk_rec 0 0 0) (omega (arith, w, length-spare_recs p (zone_at v d (zone_on z d))))

        out : (d : ℕ) → d < p.N → is_in m d ≡ false → outside p 0 (spare_recs p (zone_at v d (zone_on z d))) ≡ false
        out d l n = outside_none p 0 (spare_recs p (zone_at v d (zone_on z d))) (λ o w.
            let f : ((record_of_of (block_in_of (zone_at v d (zone_on z d)) (suc o)).spare).stripe < p.S) × (o < p.S)
            × (group p (record_of_of (block_in_of (zone_at v d (zone_on z d)) (suc o)).spare).stripe ≡ group p o) =
            (zone_facts p r off g v u k d (name_of p v m z) l (trusted p r off g v u k m c d l n)).num o (record_of_of (block_in_of (zone_at v d (zone_on z d)) (suc o)).spare).stripe
            (value_of (block_in_of (zone_at v d (zone_on z d)) (suc o)).block (record_of_of (block_in_of (zone_at v d (zone_on z d)) (suc o)).spare))
            (off_rec d o l n (omega (arith, w, length-spare_recs p (zone_at v d (zone_on z d))))) in
            ap₂ (λ (i : ℕ) (x : Rec). in_group_of p i x.stripe) (let e : 0 + o ≡ o = omega arith in e) (at d o w)
            ∙ (inside o (record_of_of (block_in_of (zone_at v d (zone_on z d)) (suc o)).spare).stripe f.0 f.2))
          where
            inside : (o s : ℕ) → s < p.S → group p s ≡ group p o → in_group_of p o s ≡ true
            inside o s a e = unfold in_group_of in and_both (ltb s p.S) (eqb (group p s) (group p o)) (lt-ltb s p.S a) (eq-eqb (group p s) (group p o) e)

        once : (d : ℕ) → d < p.N → is_in m d ≡ false → twice (spare_recs p (zone_at v d (zone_on z d))) ≡ false
        once d l n = not_twice (spare_recs p (zone_at v d (zone_on z d))) (λ i j a a' e.
            let ia : i < data_stored p (zone_at v d (zone_on z d)) = omega (arith, a, length-spare_recs p (zone_at v d (zone_on z d))) in
            let ja : j < data_stored p (zone_at v d (zone_on z d)) = omega (arith, a', length-spare_recs p (zone_at v d (zone_on z d))) in
            let q : (record_of_of (block_in_of (zone_at v d (zone_on z d)) (suc i)).spare).stripe ≡ (record_of_of (block_in_of (zone_at v d (zone_on z d)) (suc j)).spare).stripe =
            ap (λ (x : Rec). x.stripe) (sym (at d i a)) ∙ e ∙ ap (λ (x : Rec). x.stripe) (at d j a') in
            let w : suc i ≡ suc j = (zone_facts p r off g v u k d (name_of p v m z) l (trusted p r off g v u k m c d l n)).once (suc i) (suc j)
            (record_of_of (block_in_of (zone_at v d (zone_on z d)) (suc j)).spare).stripe
            (value_of (block_in_of (zone_at v d (zone_on z d)) (suc i)).block (record_of_of (block_in_of (zone_at v d (zone_on z d)) (suc i)).spare))
            (value_of (block_in_of (zone_at v d (zone_on z d)) (suc j)).block (record_of_of (block_in_of (zone_at v d (zone_on z d)) (suc j)).spare))
            (subst (λ (s : ℕ). Off (u d (name_of p v m z)) (suc i)
            (chunk s (value_of (block_in_of (zone_at v d (zone_on z d)) (suc i)).block (record_of_of (block_in_of (zone_at v d (zone_on z d)) (suc i)).spare)))) q
            (off_rec d i l n ia)) (off_rec d j l n ja) in
            omega (arith, w))

    -- ---- addresses
    good_rec : (b : List ℕ) (x : Rec) → Good g (value_of b x) → bad_rec p x ≡ false
    unfolding bad_rec
    good_rec b x (inl e) =
        let a : x.address ≡ padding_address = pads_address b x e in
        or_both_false (leb p.L x.address && not (eqb x.address padding_address)) (ltb x.address p.L && eqb x.stamp 0)
        (and-false (leb p.L x.address) (not (eqb x.address padding_address)) (ap not (eq-eqb x.address padding_address a)))
        (and_false_1 (ltb x.address p.L) (eqb x.stamp 0) (le-ltb x.address p.L (omega (arith, a, addresses_all p r))))
      where
        pads_address : (b : List ℕ) (x : Rec) → value_of b x ≡ pads → x.address ≡ padding_address
        pads_address b x e = unfold pads value_of in ap (λ (y : Val). y.addr) e
    good_rec b x (inr i) =
        let w : (0 < (value_of b x).stamp) × ((value_of b x).addr < p.L) = known (value_of b x) i in
        or_both_false (leb p.L x.address && not (eqb x.address padding_address)) (ltb x.address p.L && eqb x.stamp 0)
        (and_false_1 (leb p.L x.address) (not (eqb x.address padding_address)) (lt-leb p.L x.address (addr_is b x w.1)))
        (and-false (ltb x.address p.L) (eqb x.stamp 0) (ne_eqb x.stamp 0 (λ e. let j : ⊥ = omega (arith, e, stamp_is b x w.0) in j)))
      where
        addr_is : (b : List ℕ) (x : Rec) → (value_of b x).addr < p.L → x.address < p.L
        addr_is b x l = unfold value_of in l

        stamp_is : (b : List ℕ) (x : Rec) → 0 < (value_of b x).stamp → 0 < x.stamp
        stamp_is b x l = unfold value_of in l

    stored_fine : any (λ d. any (stored_bad p d) (recs_on (G z) d)) (present p m) ≡ false
    stored_fine = none_present p m (λ d. any (stored_bad p d) (recs_on (G z) d)) (λ d l n.
        subst (λ (y : List Rec). any (stored_bad p d) y ≡ false) (sym (recs_by_spare p r off g v u k m c z d b l n))
        (none_any (stored_bad p d) (spare_recs p (zone_at v d (zone_on z d))) (λ x i. one d l n x (has_get_d (spare_recs p (zone_at v d (zone_on z d))) x (mk_rec 0 0 0) i))))
      where
        one : (d : ℕ) → d < p.N → is_in m d ≡ false → (x : Rec) → (j : ℕ) × (j < length (spare_recs p (zone_at v d (zone_on z d))))
            × (get_or (spare_recs p (zone_at v d (zone_on z d))) j (mk_rec 0 0 0) ≡ x)
            → stored_bad p d x ≡ false
        one d l n x (j, a, e) =
            let w : j < data_stored p (zone_at v d (zone_on z d)) = omega (arith, a, length-spare_recs p (zone_at v d (zone_on z d))) in
            let q : record_of_of (block_in_of (zone_at v d (zone_on z d)) (suc j)).spare ≡ x = sym (get_d_spare_recs p (zone_at v d (zone_on z d)) j (mk_rec 0 0 0) w) ∙ e in
            let f : Off (u d (name_of p v m z)) (suc j) (chunk x.stripe (value_of (block_in_of (zone_at v d (zone_on z d)) (suc j)).block x)) =
            subst (λ (y : Rec). Off (u d (name_of p v m z)) (suc j) (chunk y.stripe (value_of (block_in_of (zone_at v d (zone_on z d)) (suc j)).block y))) q (off_rec d j l n w) in
            case (is_data p x.stripe d) refl f
          where
            case : (t : Bool) → is_data p x.stripe d ≡ t → Off (u d (name_of p v m z)) (suc j) (chunk x.stripe (value_of (block_in_of (zone_at v d (zone_on z d)) (suc j)).block x))
                → stored_bad p d x ≡ false
            case false e f = unfold stored_bad in and_false_1 (is_data p x.stripe d) (bad_rec p x) e
            case true e f = unfold stored_bad in and-false (is_data p x.stripe d) (bad_rec p x) (good_rec (block_in_of (zone_at v d (zone_on z d)) (suc j)).block x
                ((zone_facts p r off g v u k d (name_of p v m z) l (trusted p r off g v u k m c d l n)).origin x.stripe (value_of (block_in_of (zone_at v d (zone_on z d)) (suc j)).block x)
                (off_in (u d (name_of p v m z)) (suc j) (chunk x.stripe (value_of (block_in_of (zone_at v d (zone_on z d)) (suc j)).block x)) f) (data_code p r x.stripe d e)))

    decoded_fine : any (λ d. any (decoded_bad p m (G z) d) (counted p m (G z))) (absent p m) ≡ false
    decoded_fine = none_any (λ d. any (decoded_bad p m (G z) d) (counted p m (G z))) (absent p m) (λ d j.
        none_any (decoded_bad p m (G z) d) (counted p m (G z)) (λ s i. one d (has_absent p m d j).0 s i (is_data p s d) refl))
      where
        one : (d : ℕ) → d < p.N → (s : ℕ) → Has s (counted p m (G z)) → (t : Bool) → is_data p s d ≡ t → decoded_bad p m (G z) d s ≡ false
        one d l s i false e = unfold decoded_bad in and_false_1 (is_data p s d) (bad_rec p (rec_of p m (G z) s d)) e
        one d l s i true e = unfold decoded_bad in and-false (is_data p s d) (bad_rec p (rec_of p m (G z) s d)) (
            subst (λ (x : Rec). bad_rec p x ≡ false) (piece_rec p m (G z) s d) (good_rec (piece_of p m (G z) s d).block (piece_of p m (G z) s d).rec (good d l s i e)))
          where
            good : (d : ℕ) → d < p.N → (s : ℕ) → Has s (counted p m (G z)) → is_data p s d ≡ true → Good g (value_of (piece_of p m (G z) s d).block (piece_of p m (G z) s d).rec)
            good d l s i e =
                unfold piece_at piece_value in k.facts.parity.sound (is_in m) c (name_of p v m z) s (piece_at p r off g v u k m c z s) (counted_stripe p r off g v u k m c z s b i)
                (piece_at p r off g v u k m c z s d)
                (record { d = d; lt = l; data? = data_code p r s d e; val = refl })

    addresses_fine : address_fault p m (G z) ≡ false
    unfolding address_fault
    addresses_fine =
        or_both_false (any (λ d. any (stored_bad p d) (recs_on (G z) d)) (present p m))
        (any (λ d. any (decoded_bad p m (G z) d) (counted p m (G z))) (absent p m)) stored_fine decoded_fine

    -- ---- footers
    footers_fine : footer_fault p m (G z) ≡ false
    unfolding footer_fault
    footers_fine = and-false (not (G z).full) (any (λ d. footer_fault_in p (get_or (G z).zones_by_holds d no_zone)) (present p m))
        (none_present p m (λ d. footer_fault_in p (get_or (G z).zones_by_holds d no_zone)) (λ d l n.
        ap (footer_fault_in p) (zones_by p r off g v u k m c z d l)
        ∙ footers-made p r d (zone_at v d (zone_on z d)) (shape_zone p v k.shape d (zone_on z d) l (b.low d l n)) (seg_bytes p r off g v u k m c z b d l n)))

  -- ---- no two segments name one zone
  clash_fine : (z : Seg) → Has z (remaining p v m) → name_clash p (segments p v m) (G z) ≡ false
  unfolding name_clash segments drives_of
  clash_fine z i = none_any test? (map (segment_of p v m) (remaining p v m)) (λ h j. one h (map_has (segment_of p v m) h (remaining p v m) j))
    where
      test? : Segment → Bool
      test? h = not (same_seg h.seg (G z).seg) && any (λ d. eqb (get_or h.names d 0) (get_or (G z).names d 0)) (below p.N)

      one : (h : Segment) → (y : Seg) × Has y (remaining p v m) × (h ≡ G y) → test? h ≡ false
      one h (y, j, e) = rw e (go (segs_differ y z))
        where
          go : Dec (y ≡ z) → test? (G y) ≡ false
          go (yes q) =
              and_false_1 (not (same_seg (G y).seg (G z).seg)) (any (λ d. eqb (get_or (G y).names d 0) (get_or (G z).names d 0)) (below p.N))
              (ap not (seg_same (G y).seg (G z).seg ((segment-fields p r off g v u k m c y).0 ∙ q ∙ sym (segment-fields p r off g v u k m c z).0)))
          go (no q) = and-false (not (same_seg (G y).seg (G z).seg)) (any (λ d. eqb (get_or (G y).names d 0) (get_or (G z).names d 0)) (below p.N))
              (none_any (λ d. eqb (get_or (G y).names d 0) (get_or (G z).names d 0)) (below p.N) (λ d a.
              let l : d < p.N = below_has d p.N a in
              ne_eqb (get_or (G y).names d 0) (get_or (G z).names d 0) (λ w. q (one_there p r off g v u k m c y z j i d l (sym (refuse_name_is y j d l) ∙ w ∙ refuse_name_is z i d l)))))

  -- ---- one unsealed segment
  pub one-unsealed : length (unsealed (segments p v m)) ≤ 1
  unfolding unsealed segments
  one-unsealed =
      let e : keep (λ (g : Segment). not g.full) (map (segment_of p v m) (remaining p v m)) ≡ map (segment_of p v m) (keep (λ z. not (G z).full) (remaining p v m)) =
      keep-map (λ (g : Segment). not g.full) (segment_of p v m) (remaining p v m) in
      let n : length (keep (λ z. not (G z).full) (remaining p v m)) ≤ 1 = one-kept-at_most (low_drive p m) (λ z. not (G z).full) (remaining p v m)
      (remaining-rising p v m (drive_here p r off g v u k m c)) (λ y z i j a b.
      name_once p r off g v u k m c y z i j
      ((accepted (par_of p r off) g u k.facts (is_in m) c).one (name_of p v m y) (name_of p v m z) (R? y i) (R? z j) (ragged_of p r off g v u k m c y i (not-true (G y).full a))
      (ragged_of p r off g v u k m c z j (not-true (G z).full b)))) in
      omega (arith, n, ap length e ∙ length-map (keep (λ z. not (G z).full) (remaining p v m)) (segment_of p v m))

  segment_fine : (z : Seg) → Has z (remaining p v m) → segment_fault p v m (segments p v m) (G z) ≡ false
  unfolding segment_fault clashes
  segment_fine z i =
      ap₂ ◌||◌ (ap₂ ◌||◌ (ap₂ ◌||◌ (ap₂ ◌||◌ (ap₂ ◌||◌
      (ap₂ ◌||◌ (ap₂ ◌||◌ (ap₂ ◌||◌ (ap₂ ◌||◌ (header_fine z i) (own_fine z i)) (names_fine z i)) (clash_fine z i)) (twice_fine z i))
      (serials_fine z i)) (stripes_fine z i)) (addresses_fine z i)) (footers_fine z i))
      (and-false (not (G z).full) (leb 2 (length (unsealed (segments p v m)))) (lt-leb 2 (length (unsealed (segments p v m))) (omega (arith, one-unsealed))))

  pub segments_fine : segment_faults p v m (segments p v m) ≡ []
  unfolding segment_faults
  segments_fine = ap (map (λ (g : Segment). zone_on g.seg (low_drive p m))) (keep-nil (segment_fault p v m (segments p v m)) (segments p v m) (λ h j. one h (each h j)))
    where
      each : (h : Segment) → Has h (segments p v m) → (y : Seg) × Has y (remaining p v m) × (h ≡ G y)
      each h j = unfold segments in map_has (segment_of p v m) h (remaining p v m) j

      one : (h : Segment) → (y : Seg) × Has y (remaining p v m) × (h ≡ G y) → segment_fault p v m (segments p v m) h ≡ false
      one h (y, i, e) = rw e (segment_fine y i)

  -- ---- 8: on each drive a zone is free
  pub free_seg_holds : none_free_of p v (segments p v m) ≡ false
  unfolding none_free_of free_zones drives_of good_zones
  free_seg_holds = none_any (λ d. is_nil (free? d)) (below p.N) (λ d j.
      let l : d < p.N = below_has d p.N j in
      let a = (accepted (par_of p r off) g u k.facts (is_in m) c).room d l in
      is_nil_has (free? d) a.0 (has_keep (λ z. not (any (at? d z) (segments p v m))) a.0 (keep (is_good p v.offline d) (below p.Z))
      (has_keep (is_good p v.offline d) a.0 (below p.Z) (has_below a.0 p.Z a.1) (fine_good p r off g v u k d a.0 l a.2))
      (ap not (none_any (at? d a.0) (segments p v m) (λ h i. one d l a.0 a.3 h (each h i))))))
    where
      at? : ℕ → ℕ → Segment → Bool
      at? d z h = eqb (zone_on h.seg d) z

      free? : ℕ → List ℕ
      free? d = keep (λ z. not (any (at? d z) (segments p v m))) (keep (is_good p v.offline d) (below p.Z))

      each : (h : Segment) → Has h (segments p v m) → (y : Seg) × Has y (remaining p v m) × (h ≡ G y)
      each h j = unfold segments in map_has (segment_of p v m) h (remaining p v m) j

      one : (d : ℕ) → d < p.N → (z : ℕ) → ((n : ℕ) → R (par_of p r off) g.hd u (is_in m) n → g.hd.zn n d ≢ z) → (h : Segment)
          → (y : Seg) × Has y (remaining p v m) × (h ≡ G y)
          → at? d z h ≡ false
      one d l z f h (y, i, e) = rw e (ne_eqb (zone_on (G y).seg d) z (λ w.
          f (name_of p v m y) (R? y i) (sym (its_zones p r off g v u k m c y i d l) ∙ ap (λ (x : Seg). zone_on x d) (sym (segment-fields p r off g v u k m c y).0) ∙ w)))

-- ---- nothing refuses the restart (but for 6)
module _ (p : Params) (r : Ranged p) (off : List ℕ) (g : Ghost) (v : View) (u : ItemView) (k : OnDrives p r off g v u) (known : (x : Val) → InV x g.sent → (0 < x.stamp) × (x.addr < p.L))
    (d : ℕ) (c : Choice (par_of p r off) g.un (is_in (named d))) where
  pub not_refused : in_range p ≡ true → names_drive p d ≡ true → above_narrow p off ≡ false → (long : Bool) → long ≡ true
      → (rewrites p (named d) (segments p v (named d)) && eqb (greatest_serial (segments p v (named d))) last_count) ≡ false
      → first_refusal (restart_checks p long v d (segments p v (named d))) ≡ none
  not_refused h₁ h₂ fit long h₃ h₆ =
      let gs : List Segment = segments p v (named d) in
      restart_goes p long v d gs (record {
        in_range_holds = h₁;
        names = h₂;
        lent = h₃;
        zones_enough = ap (few_good p) k.offline ∙ k.enough;
        addresses_fit = ap (above_narrow p) k.offline ∙ fit;
        pointers_fine = pointers_fine p r off g v u k known (named d) c;
        segments_fine = segments_fine p r off g v u k known (named d) c;
        serial_left = h₆;
        zone_left = and-false (rewrites p (named d) gs) (none_free_of p v gs) (free_seg_holds p r off g v u k known (named d) c);
      })
