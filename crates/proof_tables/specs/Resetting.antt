-- A sealed segment with no live block is reset. Assumes nothing.
use Rattle.std.specs.Prelude.{◌≡◌, cond, ◌⊎◌, ℕ, ◌+◌, ◌-◌, ◌*◌, ◌≤◌, ◌<◌, eqb, replicate}
use Rattle.std.proofs.Math.Path.{refl, ap}
use Rattle.std.proofs.Common.{sym, ◌∙◌, subst, inl, inr, ⊎_elim, eq-eqb, ne_eqb}
use mathlib.Core.List.{List, [], ◌∷◌}
use Rattle.std.proofs.Math.Decide.{dec_lt, ℕ_discrete}
use native.Mathlib.Omega.{arith}
use Rattle.std.proofs.Math.ListN.{length, get_or, length-replicate}
use Rattle.spec.specs.declared.Params.{Params}
use Rattle.spec.specs.declared.State.{State}
use Rattle.spec.specs.Bytes.{splice}
use Rattle.spec.specs.Drives.{View, pointer_at, store_view_of, store_all, zone_on, reset_stores}
use Rattle.spec.specs.Layout.{Rec, header_serial}
use Rattle.spec.specs.Lists.Opt.{none, some}
use Rattle.spec.specs.Memory.{compact_at}
use Rattle.spec.specs.Params.{capacity, compact_len, drives_of}
use Rattle.spec.specs.Rank.{Cand, best, cands_of}
use Rattle.spec.specs.Reclaim.{cleared_row, cleared}
use Rattle.spec.specs.Segments.{segments, candidates, address_table, compact_row, compact_table, remaining, row_of}
use Rattle.law_basic.specs.Geometry.{item_fits, Ranged, compact_within}
use Rattle.law_basic.specs.Splice.{length-splice, get_d_splice-below, get_d_splice_in, get_d_splice-past}
use Rattle.law_views.specs.Pointers.{index_drive, index_zone}
use Rattle.law_drives.specs.Best.{best_in}
use Rattle.law_drives.specs.Members.{In, in_below, below_in}
use Rattle.law_drives.specs.Resets.{reset_same, reset_was, reset_tidy, Alone, reset_keeps, tidy_alone}
use Rattle.law_drives.specs.Segs.{CandAt, cand_at, at_cand, remaining_left}
use Rattle.law_drives.specs.Settled.{cands_apart, zones_pointer, cand_goes, row_goes, there_once, there_remains, zero_here, zones_header}
use Rattle.law_drives.specs.States.{StateOk}
use Rattle.law_drives.specs.Tables.{addresses_cong, zero-at, row_past, grid_ext, compact_is, compact_row_long, length_compact, compact_at_holds, row_none}
use Rattle.law_drives.specs.Tests.{cond_true, cond_false}
use Rattle.law_drives.specs.Tidy.{Tidy, There}
use Rattle.law_drives.specs.Zones.{Shaped}
use Rattle.proof_tables.specs.Bounds.{open_view, open_short}
use Rattle.proof_tables.specs.Ranks.{fewer-best}
use Rattle.proof_tables.specs.Run.{flies, HealthyState}
use Rattle.spec.specs.declared.Seg.{Seg}
use Rattle.law_basic.specs.Segs.{ZonesLow, low_here}
use Rattle.proof_tables.specs.Heading.{zone_kind}

module _ (p : Params) (r : Ranged p) (v : View) (sh : Shaped p v) (g : Seg) (hg : There p v g) where
  abbrev u : View
  u = store_all store_view_of (reset_stores p g) v

  -- none of its records holds: the address table stays
  pub reset_addresses : (s : ℕ) → Tidy p v s → ((a : ℕ) (c : Cand) (k : CandAt p v 0 c) → a < p.L → best none (cands_of a (candidates p 0 (segments p v 0))) ≡ some c
      → k.of ≡ g → ⊥)
      → address_table p (candidates p 0 (segments p v 0)) ≡ address_table p (candidates p 0 (segments p u 0))
  reset_addresses s t dead = addresses_cong p xs ys (λ a ha. sym (fewer-best a xs ys (cands_apart p r v s t) sub (win a ha)))
    where
      xs : List Cand
      xs = candidates p 0 (segments p v 0)

      ys : List Cand
      ys = candidates p 0 (segments p u 0)

      tu : Tidy p u s
      tu = reset_tidy p r v sh g hg s t

      sub : (d : Cand) → In d ys → In d xs
      sub d m =
          let k = cand_at p u 0 d m in
          let (w, n) = reset_was p r v sh g hg (tidy_alone p r v s t g hg) k.of (remaining_left p u 0 k.of k.remains) in
          at_cand p v 0 d (cand_goes p r u v s t d k (λ e he. sym (reset_same p r v sh g hg k.of w n e he)) w)

      win : (a : ℕ) → a < p.L → (c : Cand) → best none (cands_of a xs) ≡ some c → In c ys
      win a ha c e =
          let k = cand_at p v 0 c (best_in a xs c e).0 in
          let q = remaining_left p v 0 k.of k.remains in
          let n : g ≡ k.of → ⊥ = λ x. dead a c k ha e (sym x) in
          at_cand p u 0 c (cand_goes p r v u s tu c k (reset_same p r v sh g hg k.of q n) (reset_keeps p r v sh g hg (tidy_alone p r v s t g hg) k.of q n))

  pub reset_rows : (s : ℕ) → Tidy p v s → (d z : ℕ) → d < p.N → z < p.Z → row_of p (segments p u 0) d z ≡ cond (eqb z (zone_on g d)) [] (row_of p (segments p v 0) d z)
  reset_rows s t d z hd hz = go (ℕ_discrete z (zone_on g d)) (zone_kind p v d z)
    where
      al : Alone p v g
      al = tidy_alone p r v s t g hg

      was : (y : Seg) → In y (remaining p u 0) → There p v y × (g ≡ y → ⊥)
      was y m = reset_was p r v sh g hg al y (remaining_left p u 0 y m)

      go : Dec (z ≡ zone_on g d) → ((y : Seg) × In y (remaining p v 0) × (zone_on y d ≡ z)) ⊎ ((y : Seg) → In y (remaining p v 0) → zone_on y d ≡ z → ⊥)
          → row_of p (segments p u 0) d z ≡ cond (eqb z (zone_on g d)) [] (row_of p (segments p v 0) d z)
      go (yes e) k =
          row_none p u 0 (zero_here p r) d z (λ y m q. let (w, n) = was y m in n (there_once p r v g y d hg w hd (sym (q ∙ e))))
          ∙ sym (cond_true (eqb z (zone_on g d)) [] (row_of p (segments p v 0) d z) (eq-eqb z (zone_on g d) e))
      go (no i) (inl (y, m, e)) =
          let q = remaining_left p v 0 y m in
          let n : g ≡ y → ⊥ = λ x. i (sym e ∙ ap (λ (a : Seg). zone_on a d) (sym x)) in
          subst (λ (a : ℕ). row_of p (segments p u 0) d a ≡ row_of p (segments p v 0) d a) e
          (sym (row_goes p r v u s s t (reset_tidy p r v sh g hg s t) d y hd q (reset_keeps p r v sh g hg al y q n) (reset_same p r v sh g hg y q n)))
          ∙ sym (cond_false (eqb z (zone_on g d)) [] (row_of p (segments p v 0) d z) (ne_eqb z (zone_on g d) i))
      go (no i) (inr k) =
          row_none p u 0 (zero_here p r) d z (λ y m q. k y (there_remains p r v s t y (was y m).0) q)
          ∙ sym (row_none p v 0 (zero_here p r) d z k)
          ∙ sym (cond_false (eqb z (zone_on g d)) [] (row_of p (segments p v 0) d z) (ne_eqb z (zone_on g d) i))

  -- the state needs no change
  pub reset_healthy : (st : State) → HealthyState p v st → StateOk p st → ((d : ℕ) → d < p.N → pointer_at v d (zone_on g d) ≡ capacity p) → HealthyState p u st
  reset_healthy st h so full = record {
    tidy = reset_tidy p r v sh g hg st.serial.0 h.tidy;
    sealed_but = λ z m.
        let (w, n) = was z m in
        ⊎_elim (λ x. inl (x ∙ ap (header_serial p) (zones_header p r v u z (reset_same p r v sh g hg z w n))))
        (λ x. inr (λ d hd. sym (zones_pointer p r v u z (reset_same p r v sh g hg z w n) d hd) ∙ x d hd)) (h.sealed_but z w);
    opens_at = λ q.
        let (z, e, o) = h.opens_at q in
        let n : g ≡ z → ⊥ =
        λ i. (let h0 : 0 < p.N = omega (arith, r.drives_low) in let x = open_short p r v st z so o 0 h0 in
        let w : pointer_at v 0 (zone_on z 0) ≡ capacity p = subst (λ (a : Seg). pointer_at v 0 (zone_on a 0) ≡ capacity p) i (full 0 h0) in let bad : ⊥ = omega arith in
        bad) in
        let sm = reset_same p r v sh g hg z o.opened_zone n in (
          z,
          e ∙ ap (header_serial p) (zones_header p r v u z sm),
          open_view p v u st z sm (flies st) (reset_keeps p r v sh g hg al z o.opened_zone n) o,
        );
    shut = h.shut;
    serial_fits = h.serial_fits;
    stamp_fits = h.stamp_fits;
    lists = h.lists;
  }
    where
      al : Alone p v g
      al = tidy_alone p r v st.serial.0 h.tidy g hg

      was : (y : Seg) → There p u y → There p v y × (g ≡ y → ⊥)
      was y m = reset_was p r v sh g hg al y m

-- ---- the compact table with a segment's rows cleared

module _ (p : Params) (r : Ranged p) (g : Seg) (hg : ZonesLow p 0 g) where
  row_within : (e : ℕ) → e < p.N → compact_at p e (zone_on g e) 0 + p.S ≤ compact_len p
  row_within e he =
      let x = compact_within p e (zone_on g e) (p.S - 1) he (low_here p g e hg he) (let s = r.stripes_low in omega arith) in
      let y : compact_at p e (zone_on g e) (p.S - 1) ≡ compact_at p e (zone_on g e) 0 + (p.S - 1) = (unfold compact_at in omega arith) in
      let s = r.stripes_low in
      omega arith

  row_length : (e : ℕ) (cs : List ℕ) → e < p.N → length cs ≡ compact_len p → compact_at p e (zone_on g e) 0 + length (replicate {A = ℕ} p.S 0) ≤ length cs
  row_length e cs he l = let x = row_within e he in let y : length (replicate {A = ℕ} p.S 0) ≡ p.S = length-replicate p.S 0 in omega arith

  cleared_long : (e : ℕ) (cs : List ℕ) → e < p.N → length cs ≡ compact_len p → length (cleared_row p cs e (zone_on g e)) ≡ compact_len p
  unfolding cleared_row
  cleared_long e cs he l = length-splice cs (compact_at p e (zone_on g e) 0) (replicate p.S 0) (row_length e cs he l) ∙ l

  compact_cell : (d z o : ℕ) → compact_at p d z o ≡ (d * p.Z + z) * p.S + o
  compact_cell d z o = unfold compact_at in refl

  -- a cleared row: zeros there, the rest as it was
  cleared_here : (e o : ℕ) (cs : List ℕ) → e < p.N → o < p.S → length cs ≡ compact_len p → get_or (cleared_row p cs e (zone_on g e)) (compact_at p e (zone_on g e) o) 0 ≡ 0
  unfolding cleared_row
  cleared_here e o cs he ho l =
      let q : compact_at p e (zone_on g e) o ≡ compact_at p e (zone_on g e) 0 + o = compact_cell e (zone_on g e) o ∙ (let x = compact_cell e (zone_on g e) 0 in omega arith) in
      let n : length (replicate {A = ℕ} p.S 0) ≡ p.S = length-replicate p.S 0 in
      ap (λ (x : ℕ). get_or (splice cs (compact_at p e (zone_on g e) 0) (replicate p.S 0)) x 0) q
      ∙ get_d_splice_in cs (compact_at p e (zone_on g e) 0) (replicate p.S 0) (row_length e cs he l) o (omega arith) ∙ zero-at p.S o

  cleared_else : (e d z o : ℕ) (cs : List ℕ) → e < p.N → d < p.N → z < p.Z → o < p.S → length cs ≡ compact_len p → ((d ≡ e) × (z ≡ zone_on g e) → ⊥)
      → get_or (cleared_row p cs e (zone_on g e)) (compact_at p d z o) 0 ≡ get_or cs (compact_at p d z o) 0
  unfolding cleared_row
  cleared_else e d z o cs he hd hz ho l n = go (dec_lt (d * p.Z + z) (e * p.Z + zone_on g e)) (dec_lt (e * p.Z + zone_on g e) (d * p.Z + z))
    where
      ln : length (replicate {A = ℕ} p.S 0) ≡ p.S
      ln = length-replicate p.S 0

      go : Dec (d * p.Z + z < e * p.Z + zone_on g e) → Dec (e * p.Z + zone_on g e < d * p.Z + z)
          → get_or (splice cs (compact_at p e (zone_on g e) 0) (replicate p.S 0)) (compact_at p d z o) 0 ≡ get_or cs (compact_at p d z o) 0
      go (yes a) b =
          let m : (d * p.Z + z) * p.S + p.S ≤ (e * p.Z + zone_on g e) * p.S = item_fits (d * p.Z + z) (e * p.Z + zone_on g e) p.S a in
          get_d_splice-below cs (compact_at p e (zone_on g e) 0) (replicate p.S 0) (row_length e cs he l) (compact_at p d z o)
          (let x = compact_cell d z o in let y = compact_cell e (zone_on g e) 0 in omega arith)
      go (no a) (yes b) =
          let m : (e * p.Z + zone_on g e) * p.S + p.S ≤ (d * p.Z + z) * p.S = item_fits (e * p.Z + zone_on g e) (d * p.Z + z) p.S b in
          get_d_splice-past cs (compact_at p e (zone_on g e) 0) (replicate p.S 0) (row_length e cs he l) (compact_at p d z o)
          (let x = compact_cell d z o in let y = compact_cell e (zone_on g e) 0 in omega (arith, ln))
      go (no a) (no b) =
          let q : d * p.Z + z ≡ e * p.Z + zone_on g e = omega arith in
          absurd (n (index_drive p.Z d z e (zone_on g e) hz (low_here p g e hg he) q, index_zone p.Z d z e (zone_on g e) hz (low_here p g e hg he) q))

  -- over a list of drives
  clearings_long : (ds cs : List ℕ) → ((e : ℕ) → In e ds → e < p.N) → length cs ≡ compact_len p → length (cleared p g ds cs) ≡ compact_len p
  unfolding cleared
  clearings_long [] cs h l = l
  clearings_long (e ∷ ds) cs h l = clearings_long ds (cleared_row p cs e (zone_on g e)) (λ x m. h x (inr m)) (cleared_long e cs (h e (inl refl)) l)

  all_else : (ds cs : List ℕ) (d z o : ℕ) → ((e : ℕ) → In e ds → e < p.N) → d < p.N → z < p.Z → o < p.S → length cs ≡ compact_len p → (z ≡ zone_on g d → ⊥)
      → get_or (cleared p g ds cs) (compact_at p d z o) 0 ≡ get_or cs (compact_at p d z o) 0
  unfolding cleared
  all_else [] cs d z o h hd hz ho l n = refl
  all_else (e ∷ ds) cs d z o h hd hz ho l n =
      all_else ds (cleared_row p cs e (zone_on g e)) d z o (λ x m. h x (inr m)) hd hz ho (cleared_long e cs (h e (inl refl)) l) n
      ∙ cleared_else e d z o cs (h e (inl refl)) hd hz ho l (λ q. n (q.1 ∙ ap (zone_on g) (sym q.0)))

  -- a row that is zero stays so, and that of a drive of the list becomes so
  stays_zero : (ds cs : List ℕ) (d o : ℕ) → ((e : ℕ) → In e ds → e < p.N) → d < p.N → o < p.S → length cs ≡ compact_len p → get_or cs (compact_at p d (zone_on g d) o) 0 ≡ 0
      → get_or (cleared p g ds cs) (compact_at p d (zone_on g d) o) 0 ≡ 0
  unfolding cleared
  stays_zero [] cs d o h hd ho l q = q
  stays_zero (e ∷ ds) cs d o h hd ho l q = stays_zero ds (cleared_row p cs e (zone_on g e)) d o (λ x m. h x (inr m)) hd ho (cleared_long e cs (h e (inl refl)) l) (go (ℕ_discrete d e))
    where
      go : Dec (d ≡ e) → get_or (cleared_row p cs e (zone_on g e)) (compact_at p d (zone_on g d) o) 0 ≡ 0
      go (yes x) = ap (λ (y : ℕ). get_or (cleared_row p cs e (zone_on g e)) (compact_at p y (zone_on g y) o) 0) x ∙ cleared_here e o cs (h e (inl refl)) ho l
      go (no x) = cleared_else e d (zone_on g d) o cs (h e (inl refl)) hd (low_here p g d hg hd) ho l (λ y. x y.0) ∙ q

  becomes_zero : (ds cs : List ℕ) (d o : ℕ) → ((e : ℕ) → In e ds → e < p.N) → In d ds → d < p.N → o < p.S → length cs ≡ compact_len p
      → get_or (cleared p g ds cs) (compact_at p d (zone_on g d) o) 0 ≡ 0
  unfolding cleared
  becomes_zero [] cs d o h m hd ho l = absurd m
  becomes_zero (e ∷ ds) cs d o h (inl x) hd ho l = stays_zero ds (cleared_row p cs e (zone_on g e)) d o (λ y m. h y (inr m)) hd ho (cleared_long e cs (h e (inl refl)) l)
      (ap (λ (y : ℕ). get_or (cleared_row p cs e (zone_on g e)) (compact_at p y (zone_on g y) o) 0) x ∙ cleared_here e o cs (h e (inl refl)) ho l)
  becomes_zero (e ∷ ds) cs d o h (inr m) hd ho l = becomes_zero ds (cleared_row p cs e (zone_on g e)) d o (λ y n. h y (inr n)) m hd ho (cleared_long e cs (h e (inl refl)) l)

  -- the whole: the compact table of a view whose rows are those of v but for the segment's, which are empty
  pub cleared_is : (v u : View) → ((d z : ℕ) → d < p.N → z < p.Z → row_of p (segments p u 0) d z ≡ cond (eqb z (zone_on g d)) [] (row_of p (segments p v 0) d z))
      → cleared p g (drives_of p) (compact_table p (segments p v 0)) ≡ compact_table p (segments p u 0)
  cleared_is v u rows =
      grid_ext p (λ d z. compact_row p (row_of p (segments p u 0) d z)) (compact_row_long p u 0 (zero_here p r)) (cleared p g (drives_of p) cs)
      (clearings_long (drives_of p) cs low (length_compact p v 0 (zero_here p r))) r.stripes_low (let z = r.zones_low in omega arith) entry
      ∙ sym (compact_is p u 0 (zero_here p r))
    where
      cs : List ℕ
      cs = compact_table p (segments p v 0)

      low : (e : ℕ) → In e (drives_of p) → e < p.N
      low e m = unfold drives_of in below_in p.N e m

      in! : (d : ℕ) → d < p.N → In d (drives_of p)
      in! d h = unfold drives_of in in_below p.N d h

      entry : (d z o : ℕ) → d < p.N → z < p.Z → o < p.S
          → get_or (cleared p g (drives_of p) cs) (compact_at p d z o) 0 ≡ get_or (compact_row p (row_of p (segments p u 0) d z)) o 0
      entry d z o hd hz ho = go (ℕ_discrete z (zone_on g d))
        where
          go : Dec (z ≡ zone_on g d) → get_or (cleared p g (drives_of p) cs) (compact_at p d z o) 0 ≡ get_or (compact_row p (row_of p (segments p u 0) d z)) o 0
          go (yes e) =
              ap (λ (x : ℕ). get_or (cleared p g (drives_of p) cs) (compact_at p d x o) 0) e
              ∙ becomes_zero (drives_of p) cs d o low (in! d hd) hd ho (length_compact p v 0 (zero_here p r))
              ∙ sym (ap (λ (l : List Rec). get_or (compact_row p l) o 0) (rows d z hd hz ∙ cond_true (eqb z (zone_on g d)) [] (row_of p (segments p v 0) d z) (eq-eqb z (zone_on g d) e))
              ∙ row_past p [] o (omega arith))
          go (no n) =
              all_else (drives_of p) cs d z o low hd hz ho (length_compact p v 0 (zero_here p r)) n ∙ compact_at_holds p v 0 (zero_here p r) d z o hd hz ho
              ∙ ap (λ (l : List Rec). get_or (compact_row p l) o 0)
              (sym (rows d z hd hz ∙ cond_false (eqb z (zone_on g d)) [] (row_of p (segments p v 0) d z) (ne_eqb z (zone_on g d) n)))
