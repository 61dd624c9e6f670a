-- A table that is what the drives say, as a restart makes it, holds places of records that count. Assumes nothing.
use Rattle.std.specs.Prelude.{◌≡◌, Bool, true, false, ◌⊎◌, ℕ, suc, ◌+◌, ◌-◌, ◌^◌, ◌≤◌, ◌<◌}
use Rattle.std.proofs.Math.Path.{refl, ap, subst}
use Rattle.std.proofs.Common.{sym, ap₂, ◌∙◌, inl, inr, ⊎_elim, arith}
use mathlib.Core.List.{List, []}
use borrow.Author.Tests.{eq-eqb, eqb-true}
use Rattle.std.proofs.Math.Dec.{eqb}
use Rattle.spec.specs.declared.Params.{Params}
use Rattle.spec.specs.Counts.{never_place}
use Rattle.spec.specs.Drives.{Zone, View, zone_at, chunk_at, zone_on, sealed_in, record_at}
use Rattle.spec.specs.Layout.{record_of_of}
use Rattle.spec.specs.Lists.Opt.{none, some}
use Rattle.spec.specs.Lists.{is_in}
use Rattle.spec.specs.Memory.{place_at_of}
use Rattle.spec.specs.Params.{capacity, place_of, place_block, place_zone, place_drive}
use Rattle.spec.specs.Parity.{mk_piece}
use Rattle.spec.specs.Rank.{Cand, best, place_or, cands_of}
use Rattle.spec.specs.Segments.{segment_of, segments, offset_on, has_chunk, offset_of, cand_of, candidates, address_table, place_record, place_segment}
use Rattle.law_basic.specs.Geometry.{Ranged, place_block_lem, place_zone_lem, place_drive_lem, place_again, place_lt}
use Rattle.law_drives.specs.Tables.{place_at}
use Rattle.law_drives.specs.Tests.{cond_false}
use Rattle.law_basic.specs.Mask.{is_in_empty}
use Rattle.proof_crash_machine.specs.Facts.{Par, Heads, Ghost, Choice, Counted, Off, None}
use Rattle.proof_crash_machine.specs.History.{Mode, Inv}
use Rattle.proof_crash_machine.specs.Val.{Val}
use Rattle.proof_crash_machine.specs.View.{Item, ItemView}
use Rattle.proof_crash_machine.specs.View.Item.{chunk}
use Rattle.proof_crash_machine.specs.Mask.{Mask}
use Rattle.law_drives.specs.Spots.{place_holder}
use Rattle.proof_crash_items.specs.Cands.{best_none, cands_seen, From, cands_from, cand_value, of_counted}
use Rattle.proof_crash_items.specs.Items.{value_of, chunk_item, chunk_of_lem}
use Rattle.proof_crash_items.specs.Segs.{OnDrives, SegAt, name_of, remaining_has, remains_at_holds, its_zones, drive_here, apart_there, seg_bytes, seg_pointer_low}
use Rattle.proof_crash_items.specs.Stripes.{stored-below, record_by_spare, offset_on_holds, stored_piece_holds, counted_has, piece_at, piece_here, counted_stripe, seg_items}
use Rattle.proof_crash_items.specs.Member.{Has, keep_has, has_keep}
use Rattle.proof_crash_items.specs.Named.{zero_choice, none_out}
use Rattle.proof_crash_items.specs.Ranges.{capacity_few, par_of, data_code}
use Rattle.proof_crash_items.specs.Reading.{places_many}
use Rattle.proof_crash_items.specs.Values.{piece_value, value_same}
use Rattle.proof_crash_items.specs.ZoneBytes.{block_in_of}
use Rattle.proof_crash_calls.specs.Go.{mst}
use Rattle.proof_crash_calls.specs.Held.{Entry, TableOk}
use Rattle.proof_crash_calls.proofs.Sends.{value_stamp}
use Rattle.spec.specs.declared.Seg.{Seg}

-- counted with none missing, by any two masks without a drive
abbrev pub counted_none : (P : Par) (hd : Heads) (v : ItemView) (m n : Mask) → None P m → None P n → (x : Val) → Counted P hd v m x → Counted P hd v n x
counted_none P hd v m n a b x q = record {
  z = q.z;
  s = q.s;
  f = q.f;
  rem = record { left = λ d l k. q.rem.left d l (a d l); own = λ o w e. q.rem.own o (λ d l k. w d l (b d l)) e };
  st = record { on = λ d l k. q.st.on d l (a d l); word = q.st.word };
  dt = q.dt;
}

module _ (p : Params) (h : Ranged p) (off : List ℕ) (g : Ghost) (v : View) (u : ItemView) (k : OnDrives p h off g v u) (none? : None (par_of p h off) g.un) where
  pub choice_none : Choice (par_of p h off) g.un (is_in 0)
  choice_none = zero_choice p h off g.un none?

  abbrev pub said : List Cand
  said = candidates p 0 (segments p v 0)

  said_is : cands_seen p h off g v u k 0 choice_none ≡ said
  unfolding cands_seen
  said_is = refl

  not_m : (d : ℕ) → d < p.N → is_in 0 d ≡ false
  not_m d l = is_in_empty d

  -- the record at an offset, sealed or not
  pub record_of_spare : {n : ℕ} (d : ℕ) (z : Seg) (o : ℕ) → d < p.N → SegAt p v u 0 z n → o < p.S
      → record_at p v 0 d z o ≡ record_of_of (block_in_of (zone_at v d (zone_on z d)) (suc o)).spare
  unfolding record_at
  record_of_spare d z o l b ol = record_by_spare p h off g v u k 0 choice_none z d o (sealed_in p v 0 z) refl b l (not_m d l) ol

  -- ---- a record that counts

  module _ (x : Cand) (i : Has x said) where
    pub from : From p h off g v u k 0 choice_none x
    from = cands_from p h off g v u k 0 choice_none x (subst (λ (l : List Cand). Has x l) (sym said_is) i)

    -- its segment's name
    abbrev pub its_name_holds : ℕ
    its_name_holds = name_of p v 0 from.z

    zb : SegAt p v u 0 from.z (name_of p v 0 from.z)
    zb = remains_at_holds p h off g v u k 0 choice_none from.z from.rem

    abbrev its_zone : ℕ
    its_zone = zone_on from.z from.d

    its_zone_low : its_zone < p.Z
    its_zone_low = zb.low from.d from.drv (not_m from.d from.drv)

    has : has_chunk (segment_of p v 0 from.z) from.s from.d ≡ true
    has = (counted_has p h off g v u k 0 choice_none from.z from.s from.cnt).1 from.d from.drv (not_m from.d from.drv)

    o : ℕ
    o = offset_on (segment_of p v 0 from.z) from.d from.s

    o_low : (o < p.S) × (suc o < (zone_at v from.d its_zone).pointer)
    unfolding o
    o_low = stored-below p (zone_at v from.d its_zone) (offset_on (segment_of p v 0 from.z) from.d from.s)
        (offset_on_holds p h off g v u k 0 choice_none from.z from.s from.d zb from.drv (not_m from.d from.drv) has).0

    b_low : 1 + o < capacity p
    b_low = omega (arith, o_low.0, capacity_few p h)

    place : x.place ≡ place_of p from.d its_zone (1 + o)
    place = ap (λ (y : Cand). y.place) from.is ∙ here
      where
        off_here : offset_of 0 (segment_of p v 0 from.z) from.s from.d ≡ o
        off_here =
            unfold offset_of o in cond_false (is_in 0 from.d) from.s
            (offset_on (segment_of p v 0 from.z) from.d from.s)
            (not_m from.d from.drv)

        here : (cand_of p 0 (segment_of p v 0 from.z) from.s from.d).place ≡ place_of p from.d its_zone (1 + o)
        here = unfold cand_of segment_of in ap (λ (n : ℕ). place_of p from.d its_zone (1 + n)) off_here

    place_d : place_drive p x.place ≡ from.d
    place_d = ap (place_drive p) place ∙ place_drive_lem p from.d its_zone (1 + o) its_zone_low b_low

    place_z : place_zone p x.place ≡ its_zone
    place_z = ap (place_zone p) place ∙ place_zone_lem p from.d its_zone (1 + o) its_zone_low b_low

    place_seg : place_segment p v 0 x.place ≡ from.z
    place_seg = ap (place_segment p v 0) place
        ∙ place_holder p v 0 (drive_here p h off g v u k 0 choice_none) (apart_there p h off g v u k 0 choice_none) from.z from.rem from.d from.drv h (1 + o) b_low

    place_b : place_block p x.place ≡ suc o
    place_b = ap (place_block p) place ∙ place_block_lem p from.d its_zone (1 + o) b_low ∙ (let e : 1 + o ≡ suc o = omega arith in e)

    -- where it lies
    pub record Lies : Type 0 where
      pub drive : place_drive p x.place < p.N
      pub zone : place_zone p x.place < p.Z
      pub block_low : 1 ≤ place_block p x.place
      pub block_high : place_block p x.place ≤ p.S
      pub low : x.place < never_place
      pub again : place_of p (place_drive p x.place) (place_zone p x.place) (place_block p x.place) ≡ x.place

    pub cand_lies : Lies
    cand_lies = record {
      drive = subst (λ (n : ℕ). n < p.N) (sym place_d) from.drv;
      zone = subst (λ (n : ℕ). n < p.Z) (sym place_z) its_zone_low;
      block_low = omega (arith, place_b);
      block_high = omega (arith, place_b, o_low.0);
      low = omega (arith, place, place_lt p from.d its_zone (1 + o) from.drv its_zone_low b_low, places_many p h);
      again = place_again p x.place;
    }

    -- the block and record at its place
    abbrev pub value_at : Val
    value_at =
        value_of (chunk_at v (place_drive p x.place) (place_zone p x.place) (place_block p x.place)).block
        (place_record p v 0 x.place)

    value_here : value_at ≡ value_of (block_in_of (zone_at v from.d its_zone) (suc o)).block (record_of_of (block_in_of (zone_at v from.d its_zone) (suc o)).spare)
    value_here =
        (λ j. value_of (chunk_at v (place_d j) (place_z j) (place_b j)).block (record_at p v 0 (place_d j) (place_seg j) (place_b j - 1)))
        ∙ ap₂ value_of block_is (ap (record_at p v 0 from.d from.z) (let e : suc o - 1 ≡ o = omega arith in e) ∙ record_of_spare from.d from.z o from.drv zb o_low.0)
      where
        block_is : (chunk_at v from.d its_zone (suc o)).block ≡ (block_in_of (zone_at v from.d its_zone) (suc o)).block
        block_is = unfold chunk_at in refl

    value_is : value_at ≡ piece_at p h off g v u k 0 choice_none from.z from.s from.d
    value_is = value_here
        ∙ sym (piece-value ∙ value_same (block_in_of (zone_at v from.d its_zone) (suc o)).block (record_of_of (block_in_of (zone_at v from.d its_zone) (suc o)).spare))
      where
        piece-value :
            piece_at p h off g v u k 0 choice_none from.z from.s from.d
            ≡ piece_value
            (mk_piece (block_in_of (zone_at v from.d its_zone) (suc o)).block (record_of_of (block_in_of (zone_at v from.d its_zone) (suc o)).spare))
        piece-value = unfold piece_at o in ap piece_value (piece_here p h off g v u k 0 choice_none from.z from.s from.d from.drv (not_m from.d from.drv)
            ∙ stored_piece_holds p h off g v u k 0 choice_none from.z from.s from.d zb from.drv (not_m from.d from.drv) has)

    counts_here : Counted (par_of p h off) g.hd u (is_in 0) (piece_at p h off g v u k 0 choice_none from.z from.s from.d)
    counts_here = record {
      z = name_of p v 0 from.z;
      s = from.s;
      f = piece_at p h off g v u k 0 choice_none from.z from.s;
      rem = (remaining_has p h off g v u k 0 choice_none from.z from.rem).0;
      st = counted_stripe p h off g v u k 0 choice_none from.z from.s zb from.cnt;
      dt = record { d = from.d; lt = from.drv; data? = data_code p h from.s from.d from.dat; val = refl };
    }

    -- it counts, in its segment
    pub counted-at : (q : Counted (par_of p h off) g.hd u g.un value_at) × (q.z ≡ its_name_holds)
    unfolding counts_here
    counted-at = subst (λ (y : Val). (q : Counted (par_of p h off) g.hd u g.un y) × (q.z ≡ its_name_holds)) (sym value_is) (
      counted_none (par_of p h off) g.hd u (is_in 0) g.un (none_out p h off) none? (piece_at p h off g v u k 0 choice_none from.z from.s from.d)
          counts_here,
      refl,
    )

    -- whose zone it lies in
    pub named-at : g.hd.zn its_name_holds (place_drive p x.place) ≡ place_zone p x.place
    named-at = ap (g.hd.zn its_name_holds) place_d ∙ sym (its_zones p h off g v u k 0 choice_none from.z from.rem from.d from.drv) ∙ sym place_z

    pub value_address : value_at.addr ≡ x.address
    value_address = ap (λ (y : Val). y.addr) value_is ∙ sym (cand_value p h off g v u k 0 choice_none from.z from.s from.d).0 ∙ ap (λ (y : Cand). y.address) (sym from.is)

    pub value_stamped : value_at.stamp ≡ x.stamp
    value_stamped = ap (λ (y : Val). y.stamp) value_is ∙ sym (cand_value p h off g v u k 0 choice_none from.z from.s from.d).1 ∙ ap (λ (y : Cand). y.stamp) (sym from.is)

    -- its stamp takes 8 bytes
    pub cand_stamp_low : x.stamp < 256 ^ 8
    cand_stamp_low =
        subst (λ (n : ℕ). n < 256 ^ 8) (sym
        (value_stamp (block_in_of (zone_at v from.d its_zone) (suc o)).block (record_of_of (block_in_of (zone_at v from.d its_zone) (suc o)).spare))
        ∙ sym (ap (λ (y : Val). y.stamp) value_here)
        ∙ value_stamped)
        ((seg_bytes p h off g v u k 0 choice_none from.z zb from.d from.drv (not_m from.d from.drv)).wide o o_low.0 o_low.1).stamp

    -- the item there
    pub item_at_holds : (t : ℕ) × Off (u (place_drive p x.place) its_name_holds) (place_block p x.place) (chunk t value_at)
    item_at_holds = (
      n,
      subst (λ (y : ℕ). Off (u y its_name_holds) (place_block p x.place) (chunk n value_at)) (sym place_d)
          (subst (λ (y : ℕ). Off (u from.d its_name_holds) y (chunk n value_at)) (sym place_b)
          (subst (λ (y : Val). Off (u from.d its_name_holds) (suc o) (chunk n y)) (sym value_here) there)),
    )
      where
        q : Zone
        q = zone_at v from.d its_zone

        n : ℕ
        n = (record_of_of (block_in_of (zone_at v from.d its_zone) (suc o)).spare).stripe

        there :
            Off (u from.d its_name_holds) (suc o)
            (chunk n
            (value_of (block_in_of (zone_at v from.d its_zone) (suc o)).block (record_of_of (block_in_of (zone_at v from.d its_zone) (suc o)).spare)))
        there =
            subst (λ (l : List Item). Off l (suc o) (chunk n
            (value_of (block_in_of (zone_at v from.d its_zone) (suc o)).block (record_of_of (block_in_of (zone_at v from.d its_zone) (suc o)).spare))))
            (sym (seg_items p v u 0 from.z its_name_holds zb from.d from.drv (not_m from.d from.drv)))
            (unfold chunk_item in chunk_of_lem p (zone_at v from.d its_zone) (seg_pointer_low p h off g v u k 0 choice_none from.z zb from.d from.drv (not_m from.d from.drv)) o o_low.0
            o_low.1)

  -- ---- the best of an address

  said_of_address : (x : Cand) (a : ℕ) → Has x (cands_of a said) → Has x said × (x.address ≡ a)
  unfolding cands_of
  said_of_address x a i = let q : Has x said × (eqb x.address a ≡ true) = keep_has (λ (c : Cand). eqb c.address a) x said i in (q.0, eqb-true x.address a q.1)

  pub best_said : (a : ℕ) → (best none (cands_of a said) ≡ none) ⊎ ((w : Cand) × (best none (cands_of a said) ≡ some w) × Has w said × (w.address ≡ a))
  best_said a = ⊎_elim (λ (e : cands_of a said ≡ []). inl (ap (best none) e ∙ nothing))
      (λ (q : (w : Cand) × (best none (cands_of a said) ≡ some w) × Has w (cands_of a said) × ((c : Cand) → Has c (cands_of a said) → c.stamp ≤ w.stamp)).
      inr (q.0, q.1, (said_of_address q.0 a q.2).0, (said_of_address q.0 a q.2).1)) (best_none (cands_of a said))
    where
      nothing : best none [] ≡ none
      nothing = unfold best in refl

  -- a block that counts is beaten, or is the best
  pub counted-beaten :
      (x : Val)
      → Counted (par_of p h off) g.hd u g.un x
      → (w : Cand) × (best none (cands_of x.addr said) ≡ some w) × Has w said × (w.address ≡ x.addr) × (x.stamp ≤ w.stamp)
  counted-beaten x q =
      let y : (y : Cand) × Has y (cands_seen p h off g v u k 0 choice_none) × (y.address ≡ x.addr) × (y.stamp ≡ x.stamp) =
      of_counted p h off g v u k 0 choice_none x (counted_none (par_of p h off) g.hd u g.un (is_in 0) none? (none_out p h off) x q) in
      let i : Has y.0 (cands_of x.addr said) = at y.0 (subst (λ (l : List Cand). Has y.0 l) said_is y.1) y.2 in
      ⊎_elim (λ (e : cands_of x.addr said ≡ []). absurd (subst (λ (l : List Cand). Has y.0 l) e i))
      (λ (r : (w : Cand) × (best none (cands_of x.addr said) ≡ some w) × Has w (cands_of x.addr said) × ((c : Cand) → Has c (cands_of x.addr said) → c.stamp ≤ w.stamp)).
      (r.0, r.1, (said_of_address r.0 x.addr r.2).0, (said_of_address r.0 x.addr r.2).1, omega (arith, r.3 y.0 i, y.3))) (best_none (cands_of x.addr said))
    where
      at : (y : Cand) → Has y said → y.address ≡ x.addr → Has y (cands_of x.addr said)
      at y i e = unfold cands_of in has_keep (λ (c : Cand). eqb c.address x.addr) y said i (eq-eqb y.address x.addr e)

  -- ---- the table

  module _ (tb : List ℕ) (truth : tb ≡ address_table p (candidates p 0 (segments p v 0))) where
    pub table-best : (a : ℕ) → a < p.L → (w : Cand) → best none (cands_of a said) ≡ some w → Has w said → place_at_of tb a ≡ w.place
    table-best a l w e i = ap (λ (t : List ℕ). place_at_of t a) truth ∙ place_at p said a l small ∙ is
      where
        is : place_or (best none (cands_of a said)) ≡ w.place
        is = ap place_or e ∙ (unfold place_or in refl)

        small : place_or (best none (cands_of a said)) < 256 ^ 4
        small = omega (arith, is, (cand_lies w i).low)

    -- so its entries are as they should be, at the end of a restart
    pub table_said : (a : List Val) (b : Bool) (m : Mode) → Inv (par_of p h off) (mst g u a b m) → TableOk p h off g u tb
    table_said acks b m I a al =
        ⊎_elim (λ (e : best none (cands_of a said) ≡ none). inl (
          never e,
          ⊎_elim (λ f. f) (λ (w : (y : Val) × Counted (par_of p h off) g.hd u g.un y × (y.addr ≡ a) × (g.base a ≤ y.stamp)).
              absurd (unread e w)) (I.facts.content.floor a),
        ))
        (λ (q : (w : Cand) × (best none (cands_of a said) ≡ some w) × Has w said × (w.address ≡ a)).
        inr (subst (λ (y : ℕ). Entry p h off g u y a) (sym (table-best a al q.0 q.1 q.2)) (record {
          s = (item_at_holds q.0 q.2).0;
          x = value_at q.0 q.2;
          drive = (cand_lies q.0 q.2).drive;
          zone = (cand_lies q.0 q.2).zone;
          n = its_name_holds q.0 q.2;
          lies = named-at q.0 q.2;
          at = (item_at_holds q.0 q.2).1;
          counts = (counted-at q.0 q.2).0;
          same = (counted-at q.0 q.2).1;
          addr = value_address q.0 q.2 ∙ q.3;
          floor =
              ⊎_elim (λ (f : g.base a ≡ 0). omega arith)
              (λ (w : (y : Val) × Counted (par_of p h off) g.hd u g.un y × (y.addr ≡ a) × (g.base a ≤ y.stamp)). high q.0 q.1
              q.2 w) (I.facts.content.floor a);
        }))) (best_said a)
      where
        never : best none (cands_of a said) ≡ none → place_at_of tb a ≡ never_place
        never e =
            let is : place_or (best none (cands_of a said)) ≡ never_place = ap place_or e ∙ (let z : place_or none ≡ never_place = unfold place_or in refl in z) in
            ap (λ (t : List ℕ). place_at_of t a) truth ∙ place_at p said a al (let b : place_or (best none (cands_of a said)) < 256 ^ 4 = omega (arith, is) in b) ∙ is

        unread : best none (cands_of a said) ≡ none → (y : Val) × Counted (par_of p h off) g.hd u g.un y × (y.addr ≡ a) × (g.base a ≤ y.stamp) → ⊥
        unread e (y, q, ya, ys) =
            let w : (w : Cand) × (best none (cands_of y.addr said) ≡ some w) × Has w said × (w.address ≡ y.addr) × (y.stamp ≤ w.stamp) = counted-beaten y q in
            let f : none ≡ some w.0 = sym e ∙ ap (λ (n : ℕ). best none (cands_of n said)) (sym ya) ∙ w.1 in
            let z : ◌≡◌ {A = ℕ} 0 1 = cc in let r : ⊥ = omega arith in r

        high :
            (w : Cand)
            → best none (cands_of a said) ≡ some w
            → (i : Has w said)
            → (y : Val) × Counted (par_of p h off) g.hd u g.un y × (y.addr ≡ a) × (g.base a ≤ y.stamp)
            → g.base a ≤ (value_at w i).stamp
        high w e i (y, q, ya, ys) =
            let e₁ : (u : Cand) × (best none (cands_of y.addr said) ≡ some u) × Has u said × (u.address ≡ y.addr) × (y.stamp ≤ u.stamp) = counted-beaten y q in
            let f : e₁.0 ≡ w = one (sym e₁.1 ∙ ap (λ (n : ℕ). best none (cands_of n said)) ya ∙ e) in
            let k : e₁.0.stamp ≡ w.stamp = ap (λ (x : Cand). x.stamp) f in
            omega (arith, ys, e₁.4, k, value_stamped w i)
          where
            one : {x y : Cand} → some x ≡ some y → x ≡ y
            one e = cc
