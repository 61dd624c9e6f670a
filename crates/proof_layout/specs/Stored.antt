-- What stores do to one zone that is laid out: a header, a chunk, the missing footers. Assumes nothing.
use Rattle.std.specs.Prelude.{◌≡◌, List, [], Bool, true, false, ltb, eqb, length, get_or, set, drop}
use Rattle.std.proofs.Math.Path.{refl, ap}
use Rattle.std.proofs.Common.{sym, ◌∙◌, subst, div-lt_iff_lt-mul, eq-eqb, lt-ltb, ext_get_or, get_or-drop}
use Prim.Native.Nat.{ℕ, suc, ◌+◌, ◌-◌, ◌*◌, ◌/◌, ◌%◌, min, ◌≤◌, ◌<◌}
use Rattle.std.proofs.Math.Decide.{dec_lt, ℕ_discrete}
use native.Mathlib.Omega.{arith}
use Rattle.std.proofs.Math.Seq.{get_or-set_same, get_or-set_other}
use Rattle.spec.specs.declared.Params.{Params}
use Rattle.spec.specs.Bytes.{part}
use Rattle.spec.specs.Drives.{Chunk, mk_chunk, no_chunk, Zone, put_zone, data_stored, blocks_of, record_in, zero_spare, zones_in, zone_on}
use Rattle.spec.specs.Faults.{footers_stored}
use Rattle.spec.specs.Layout.{group, in_group_of, header_block, Rec, record_bytes, record_of_of, footer_block, footer_record}
use Rattle.spec.specs.Params.{spare_len, per_footer, footers, capacity}
use Rattle.spec.specs.Segments.{Segment}
use Rattle.law_basic.specs.Geometry.{Ranged, per_footer_low, footers_cover}
use Rattle.law_basic.specs.Ranges.{and_both}
use Rattle.law_drives.specs.Footers.{spares_in, footer_chunks, spares_long, spares_count, spare_at_holds, footers-count, footer_chunk, footer_rooms}
use Rattle.law_drives.specs.Laid.{record_stripe, get_d_footer}
use Rattle.law_drives.specs.Puts.{put_all, puts_pointer, puts_old, puts_new}
use Rattle.law_drives.specs.Range.{capacity_is, capacity_over}
use Rattle.law_drives.specs.Records.{blocks_at}
use Rattle.law_drives.specs.Segs.{data_low, low_data}
use Rattle.law_drives.specs.Zones.{ZoneOk, room_ok}
use Rattle.proof_layout.specs.Laid.{ZoneLaid}
use Rattle.spec.specs.declared.Seg.{Seg}

-- no footers behind the data, or before them
no_footers : (p : Params) (q : Zone) → q.pointer ≤ 1 + p.S → (i : ℕ) → i < footers_stored p q → ⊥
no_footers p q h i l = unfold footers_stored in omega arith

-- 01, What a zone holds: stripe o at offset o is of its group
pub own_group : (p : Params) (o : ℕ) → o < p.S → in_group_of p o o ≡ true
own_group p o h = unfold in_group_of in and_both (ltb o p.S) (eqb (group p o) (group p o)) (lt-ltb o p.S h) (eq-eqb (group p o) (group p o) refl)

-- a zone whose chunks are stripes 0, 1, .. in order, without footers
pub plain_laid : (p : Params) (old : List Segment) (serial copied d : ℕ) (g : Seg) (q : Zone) → get_or q.blocks 0 no_chunk ≡ mk_chunk (header_block p d (zones_in p g) serial copied) zero_spare
    → q.pointer ≤ 1 + p.S → ((o : ℕ) → o < data_stored p q → (record_in p false q o).stripe ≡ o) → ZoneLaid p old false serial copied d g q
plain_laid p old serial copied d g q e h f = record {
  header_is = e;
  group_is = λ o l. subst (λ (x : ℕ). in_group_of p o x ≡ true) (sym (f o l)) (own_group p o (data_low p q o l).0);
  once_is = λ o i l k x. sym (f o l) ∙ x ∙ f i k;
  footer_is = λ n i l. absurd (no_footers p q h i l);
}

-- 01, Write: a header in an empty zone
pub head_laid : (p : Params) (r : Ranged p) (old : List Segment) (w : Bool) (serial copied d : ℕ) (g : Seg) (q : Zone) → ZoneOk p q → q.pointer ≡ 0
    → ZoneLaid p old w serial copied d g (put_zone (header_block p d (zones_in p g) serial copied) zero_spare q)
unfolding put_zone
head_laid p r old w serial copied d g q k e =
    let c = mk_chunk (header_block p d (zones_in p g) serial copied) zero_spare in
    record {
      header_is = ap (λ (n : ℕ). get_or (set q.blocks n c) 0 no_chunk) e ∙ get_or-set_same q.blocks 0 c no_chunk (let l = k.blocks_long in let x = capacity_over p r in omega arith);
      group_is = λ o l. absurd (none! (suc q.pointer) o (ap suc e) l);
      once_is = λ o i l j x. absurd (none! (suc q.pointer) o (ap suc e) l);
      footer_is = λ n i l. absurd (few! (suc q.pointer) i (ap suc e) l);
    }
  where
    none! : (n o : ℕ) → n ≡ 1 → o < data_stored p (record { pointer = n; blocks = set q.blocks q.pointer (mk_chunk (header_block p d (zones_in p g) serial copied) zero_spare) }) → ⊥
    none! n o x l = unfold data_stored in omega arith

    few! : (n i : ℕ) → n ≡ 1 → i < footers_stored p (record { pointer = n; blocks = set q.blocks q.pointer (mk_chunk (header_block p d (zones_in p g) serial copied) zero_spare) }) → ⊥
    few! n i x l = unfold footers_stored in omega arith

-- 01, Landing: a chunk at the next offset of its group, of a stripe that isn't in the zone
module _ (p : Params) (r : Ranged p) (old : List Segment) (serial copied d : ℕ) (g : Seg) (q : Zone) (b : List ℕ) (rc : Rec) (k : ZoneOk p q) (some : 1 ≤ q.pointer) (room : q.pointer ≤ p.S)
    (fits : rc.stripe < p.S) (grouped : in_group_of p (q.pointer - 1) rc.stripe ≡ true) (fresh : (o : ℕ) → 1 + o < q.pointer → (record_in p false q o).stripe ≡ rc.stripe → ⊥) where
  abbrev q1 : Zone
  q1 = put_zone b (record_bytes rc) q

  point1 : q1.pointer ≡ suc q.pointer
  point1 = unfold put_zone in refl

  block_below-put : (x : ℕ) → x < q.pointer → get_or q1.blocks x no_chunk ≡ get_or q.blocks x no_chunk
  block_below-put x l = unfold put_zone in get_or-set_other q.blocks q.pointer x (mk_chunk b (record_bytes rc)) no_chunk (λ e. let bad : ⊥ = omega arith in bad)

  block_put : get_or q1.blocks q.pointer no_chunk ≡ mk_chunk b (record_bytes rc)
  block_put = unfold put_zone in get_or-set_same q.blocks q.pointer (mk_chunk b (record_bytes rc)) no_chunk (let l = k.blocks_long in let x = capacity_over p r in omega arith)

  -- a data offset is old, or the new one
  offset_old : (o : ℕ) → o < data_stored p q1 → (1 + o ≡ q.pointer → ⊥) → o < data_stored p q
  offset_old o l n = let a = data_low p q1 o l in low_data p q o a.0 (let e = point1 in let c = a.1 in omega arith)

  rec_old : (o : ℕ) → 1 + o < q.pointer → (record_in p false q1 o).stripe ≡ (record_in p false q o).stripe
  rec_old o l = as! (block_below-put (1 + o) l)
    where
      as! : get_or q1.blocks (1 + o) no_chunk ≡ get_or q.blocks (1 + o) no_chunk → (record_in p false q1 o).stripe ≡ (record_in p false q o).stripe
      as! e = unfold record_in in ap (λ (c : Chunk). (record_of_of c.spare).stripe) e

  rec_new : (o : ℕ) → 1 + o ≡ q.pointer → (record_in p false q1 o).stripe ≡ rc.stripe
  rec_new o e = as! (ap (λ (n : ℕ). get_or q1.blocks n no_chunk) e ∙ block_put) (record_stripe rc (let s = r.stripes_high in omega arith))
    where
      as! : get_or q1.blocks (1 + o) no_chunk ≡ mk_chunk b (record_bytes rc) → (record_of_of (record_bytes rc)).stripe ≡ rc.stripe → (record_in p false q1 o).stripe ≡ rc.stripe
      as! a c = unfold record_in in (ap (λ (c : Chunk). (record_of_of c.spare).stripe) a ∙ c)

  pub put-laid : ZoneLaid p old false serial copied d g q → ZoneLaid p old false serial copied d g q1
  put-laid z = record {
    header_is = block_below-put 0 some ∙ z.header_is;
    group_is = λ o l. grp o l (ℕ_discrete (1 + o) q.pointer);
    once_is = λ o i l j e. one o i l j e (ℕ_discrete (1 + o) q.pointer) (ℕ_discrete (1 + i) q.pointer);
    footer_is = λ n i l. absurd (no_footers p q1 (let e = point1 in omega arith) i l);
  }
    where
      low : (o : ℕ) → o < data_stored p q1 → (1 + o ≡ q.pointer → ⊥) → 1 + o < q.pointer
      low o l n = (data_low p q o (offset_old o l n)).1

      grp : (o : ℕ) → o < data_stored p q1 → Dec (1 + o ≡ q.pointer) → in_group_of p o (record_in p false q1 o).stripe ≡ true
      grp o l (yes e) =
          subst (λ (x : ℕ). in_group_of p o x ≡ true) (sym (rec_new o e)) (subst (λ (x : ℕ). in_group_of p x rc.stripe ≡ true) (let y : q.pointer - 1 ≡ o = omega arith in y) grouped)
      grp o l (no n) = subst (λ (x : ℕ). in_group_of p o x ≡ true) (sym (rec_old o (low o l n))) (z.group_is o (offset_old o l n))

      one : (o i : ℕ) → o < data_stored p q1 → i < data_stored p q1 → (record_in p false q1 o).stripe ≡ (record_in p false q1 i).stripe → Dec (1 + o ≡ q.pointer)
          → Dec (1 + i ≡ q.pointer) → o ≡ i
      one o i l j e (yes a) (yes c) = omega arith
      one o i l j e (yes a) (no c) = absurd (fresh i (low i j c) (sym (rec_old i (low i j c)) ∙ sym e ∙ rec_new o a))
      one o i l j e (no a) (yes c) = absurd (fresh o (low o l a) (sym (rec_old o (low o l a)) ∙ e ∙ rec_new i c))
      one o i l j e (no a) (no c) = z.once_is o i (offset_old o l a) (offset_old i j c) (sym (rec_old o (low o l a)) ∙ e ∙ rec_old i (low i j c))

-- ---- footers

-- a zone's records by footer are those by spare, where the footers are made from the spares
pub read_footers : (p : Params) (r : Ranged p) (q q2 : Zone) → ZoneOk p q → ((j : ℕ) → j < footers p → (get_or q2.blocks (1 + p.S + j) no_chunk).block ≡ footer_block p (spares_in p q) j)
    → (x : ℕ) → x < p.S → record_in p true q2 x ≡ record_in p false q x
read_footers p r q q2 k f x h =
    let pf = per_footer p in
    let j = x / pf in
    let hj : j < footers p = (div-lt_iff_lt-mul (let z = per_footer_low p r in let y : 0 < pf = omega arith in y)).1 (let f = footers_cover p r in omega arith) in
    as! (blocks_at (drop (1 + p.S) q2.blocks) j ∙ ap (λ (w : Chunk). w.block) (get_or-drop (1 + p.S) q2.blocks j no_chunk) ∙ f j hj)
    (get_d_footer p r (spares_in p q) x (spares_long p r q k) (subst (λ (n : ℕ). x < n) (sym (spares_count p r q k)) h) ∙ spare_at_holds p r q k x h)
  where
    as! : get_or (blocks_of (drop (1 + p.S) q2.blocks)) (x / per_footer p) [] ≡ footer_block p (spares_in p q) (x / per_footer p)
        → part (spare_len * (x % per_footer p)) spare_len (footer_block p (spares_in p q) (x / per_footer p)) ≡ (get_or q.blocks (1 + x) no_chunk).spare
        → record_in p true q2 x ≡ record_in p false q x
    as! a b = unfold record_in footer_record in ap record_of_of (ap (part (spare_len * (x % per_footer p)) spare_len) a ∙ b)

-- 01, Landing and Restart, 4: the footers from number i on, behind those that are there
module _ (p : Params) (r : Ranged p) (d : ℕ) (g : Seg) (q : Zone) (k : ZoneOk p q) (i : ℕ) (few : i ≤ footers p) (at : q.pointer ≡ 1 + p.S + i)
    (have : (j : ℕ) → j < i → (get_or q.blocks (1 + p.S + j) no_chunk).block ≡ footer_block p (spares_in p q) j) where
  abbrev cs : List Chunk
  cs = footer_chunks p q i (footers p - i)

  abbrev q2 : Zone
  q2 = put_all d (zone_on g d) cs q

  count2 : length cs ≡ footers p - i
  count2 = footers-count p r q k i (footers p - i)

  point2 : q2.pointer ≡ capacity p
  point2 = puts_pointer d (zone_on g d) cs q ∙ (let c = capacity_is p r in let a = at in let e = count2 in let x : q.pointer + length cs ≡ capacity p = omega arith in x)

  ok2 : ZoneOk p q2
  ok2 = room_ok p _ q (footer_rooms p r q k d (zone_on g d) i (footers p - i) (let c = capacity_is p r in let a = at in omega arith)) k

  old2 : (x : ℕ) → x < q.pointer → get_or q2.blocks x no_chunk ≡ get_or q.blocks x no_chunk
  old2 x l = puts_old d (zone_on g d) cs q x l

  spares2 : spares_in p q2 ≡ spares_in p q
  spares2 = ext_get_or [] (spares_in p q2) (spares_in p q) (spares_count p r q2 ok2 ∙ sym (spares_count p r q k))
      (λ x l. let h : x < p.S = subst (λ (n : ℕ). x < n) (spares_count p r q2 ok2) l in
      spare_at_holds p r q2 ok2 x h ∙ ap (λ (c : Chunk). c.spare) (old2 (1 + x) (let a = at in omega arith)) ∙ sym (spare_at_holds p r q k x h))

  made2 : (j : ℕ) → j < footers p → (get_or q2.blocks (1 + p.S + j) no_chunk).block ≡ footer_block p (spares_in p q) j
  made2 j h = go (dec_lt j i)
    where
      go : Dec (j < i) → (get_or q2.blocks (1 + p.S + j) no_chunk).block ≡ footer_block p (spares_in p q) j
      go (yes l) = ap (λ (c : Chunk). c.block) (old2 (1 + p.S + j) (let a = at in omega arith)) ∙ have j l
      go (no n) =
          let x = j - i in
          let e : 1 + p.S + j ≡ q.pointer + x = (let a = at in omega arith) in
          let hx : x < footers p - i = omega arith in
          ap (λ (c : Chunk). c.block) (ap (λ (y : ℕ). get_or q2.blocks y no_chunk) e
          ∙ puts_new d (zone_on g d) cs q x (let c = count2 in omega arith) (let c = count2 in let a = at in let l = k.blocks_long in let y = capacity_is p r in omega arith)
          ∙ footer_chunk p r q k i (footers p - i) x hx)
          ∙ ap (footer_block p (spares_in p q)) (let z : i + (j - i) ≡ j = omega arith in z)

  full_data : (q' : Zone) → 1 + p.S ≤ q'.pointer → data_stored p q' ≡ p.S
  full_data q' l = unfold data_stored in (let z : min (q'.pointer - 1) p.S ≡ p.S = omega arith in z)

  pub mend_laid : (old : List Segment) (serial copied : ℕ) → ZoneLaid p old false serial copied d g q → ZoneLaid p old true serial copied d g q2
  mend_laid old serial copied z =
      let n1 = full_data q (let a = at in omega arith) in
      let n2 = full_data q2 (let a = point2 in let c = capacity_over p r in omega arith) in
      record {
        header_is = old2 0 (let a = at in omega arith) ∙ z.header_is;
        group_is = λ o l. let h : o < p.S = subst (λ (n : ℕ). o < n) n2 l in
            subst (λ (x : Rec). in_group_of p o x.stripe ≡ true) (sym (read_footers p r q q2 k made2 o h)) (z.group_is o (subst (λ (n : ℕ). o < n) (sym n1) h));
        once_is = λ o j l m e.
            let h : o < p.S = subst (λ (n : ℕ). o < n) n2 l in
            let h2 : j < p.S = subst (λ (n : ℕ). j < n) n2 m in
            z.once_is o j (subst (λ (n : ℕ). o < n) (sym n1) h) (subst (λ (n : ℕ). j < n) (sym n1) h2)
            (ap (λ (x : Rec). x.stripe) (sym (read_footers p r q q2 k made2 o h)) ∙ e ∙ ap (λ (x : Rec). x.stripe) (read_footers p r q q2 k made2 j h2));
        footer_is = λ n j l. made2 j (low j l) ∙ ap (λ (y : List (List ℕ)). footer_block p y j) (sym spares2);
      }
    where
      low : (j : ℕ) → j < footers_stored p q2 → j < footers p
      low j l = unfold footers_stored in omega arith
