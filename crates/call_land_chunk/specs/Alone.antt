-- A stripe in flight by itself: what a landing asks of eighth i of a state, its row answers. Elements of a part first, then the questions one by one. Assumes nothing.
use Rattle.std.specs.Prelude.{◌≡◌, ℕ, ◌+◌, ◌*◌, ◌≤◌, ◌<◌, set}
use Rattle.std.proofs.Math.Path.{refl, ap}
use Rattle.std.proofs.Common.{◌∙◌}
use mathlib.Core.List.{List, [], ◌∷◌, map}
use Rattle.std.proofs.Math.Bool.{cond}
use native.Mathlib.Omega.{arith}
use Rattle.std.proofs.Math.ListN.{get_or}
use Rattle.std.specs.Int.Bits.{bit_or}
use Rattle.spec.specs.declared.Params.{Params}
use Rattle.spec.specs.declared.State.{State}
use Rattle.spec.specs.Bytes.{part}
use Rattle.spec.specs.Drives.{View, zone_on}
use Rattle.spec.specs.Landing.{ready, completes, flight_rec, landed_cand, landed_cands, writes_in}
use Rattle.spec.specs.Layout.{mk_rec, data_position, data_drive, is_data, parity_position}
use Rattle.spec.specs.Lists.{below, only}
use Rattle.spec.specs.Memory.{mk_state, cell, stripe_in, filled_in_of, landed_in, is_write, entry_in_of, entries_in, offset_in, is_full, landed_mask}
use Rattle.spec.specs.Params.{place_of}
use Rattle.spec.specs.Parity.{encode_rec}
use Rattle.spec.specs.Segments.{serial_at}
use Rattle.law_basic.specs.Ranges.{map-below_same}
use Rattle.law_basic.specs.Splice.{get_d_part}
use Rattle.mem_rows.specs.declared.Row.{Row}
use Rattle.mem_rows.specs.Rows.{slot_row}
use Rattle.spec.specs.declared.Seg.{Seg}

-- 01, Write: the state whose first eighth is the row, and which has no other
unfoldable pub alone : Row → State
alone r = mk_state 0 0 0 0 0 0 (r.number ∷ []) (r.filled ∷ []) (r.writes ∷ []) (r.landed ∷ []) r.addresses r.stamps r.offsets

-- 01, Landing: drive d has the stripe, at data offset o
unfoldable pub mark_row : Row → ℕ → ℕ → Row
mark_row r d o = record {
  number = r.number;
  filled = r.filled;
  writes = r.writes;
  landed = bit_or r.landed (only d);
  addresses = r.addresses;
  stamps = r.stamps;
  offsets = set r.offsets d o;
}

-- 01, Landing: the stripe is complete, the eighth is free
unfoldable pub free_row : Row → Row
free_row r = record {
  number = r.number;
  filled = 0;
  writes = r.writes;
  landed = r.landed;
  addresses = r.addresses;
  stamps = r.stamps;
  offsets = r.offsets;
}

-- its elements are the row's
pub alone_entry : (r : Row) (k : ℕ) → entry_in_of (alone r) 0 k ≡ mk_rec (get_or r.addresses k 0) (get_or r.stamps k 0) r.number
unfolding alone entry_in_of cell stripe_in
alone_entry r k =
    let e : 8 * 0 + k ≡ k = omega arith in
    ap (λ (x : ℕ). mk_rec (get_or r.addresses x 0) (get_or r.stamps x 0) r.number) e

pub alone_offset : (r : Row) (d : ℕ) → offset_in (alone r) 0 d ≡ get_or r.offsets d 0
unfolding alone offset_in cell
alone_offset r d = let e : 8 * 0 + d ≡ d = omega arith in ap (λ (x : ℕ). get_or r.offsets x 0) e

-- ---- the questions, of the row of eighth i

module _ (st : State) (i : ℕ) where
  abbrev me : State
  me = alone (slot_row st i)

  -- element k of the row is element 8 i + k of the state
  cell-alone : (l : List ℕ) (k : ℕ) → k < 8 → get_or (part (cell i 0) 8 l) (cell 0 k) 0 ≡ get_or l (cell i k) 0
  unfolding cell
  cell-alone l k h =
      let e : 8 * 0 + k ≡ k = omega arith in
      let f : 8 * i + 0 + k ≡ 8 * i + k = omega arith in
      ap (λ (x : ℕ). get_or (part (8 * i + 0) 8 l) x 0) e ∙ get_d_part (8 * i + 0) 8 l k h ∙ ap (λ (x : ℕ). get_or l x 0) f

  pub filled-alone : filled_in_of (alone (slot_row st i)) 0 ≡ filled_in_of st i
  unfolding alone slot_row filled_in_of
  filled-alone = refl

  pub entry_alone : (k : ℕ) → k < 8 → entry_in_of (alone (slot_row st i)) 0 k ≡ entry_in_of st i k
  unfolding alone slot_row entry_in_of stripe_in
  entry_alone k h =
      let a = cell-alone st.addresses k h in
      let t = cell-alone st.stamps k h in
      λ j. record { address = a j; stamp = t j; stripe = get_or st.numbers i 0 }

  pub row_offset : (d : ℕ) → d < 8 → offset_in (alone (slot_row st i)) 0 d ≡ offset_in st i d
  unfolding alone slot_row offset_in
  row_offset d h = cell-alone st.offsets d h

  pub row_entries : filled_in_of st i ≤ 8 → entries_in (alone (slot_row st i)) 0 ≡ entries_in st i
  unfolding entries_in
  row_entries h =
      ap (λ (n : ℕ). map (entry_in_of me 0) (below n)) filled-alone
      ∙ map-below_same (entry_in_of me 0) (entry_in_of st i) (filled_in_of st i) (λ k l. entry_alone k (omega arith))

  pub row_ready : (p : Params) (d : ℕ) → ready p (alone (slot_row st i)) 0 d ≡ ready p st i d
  unfolding alone slot_row ready stripe_in landed_in filled_in_of is_full
  row_ready p d = refl

  pub row_completes : (p : Params) (d : ℕ) → completes p (alone (slot_row st i)) 0 d ≡ completes p st i d
  unfolding alone slot_row completes landed_mask landed_in
  row_completes p d = refl

  pub row_writes : writes_in (alone (slot_row st i)) 0 ≡ writes_in st i
  unfolding alone slot_row writes_in is_write filled_in_of
  row_writes = refl

  pub row_record : (p : Params) (d : ℕ) → filled_in_of st i ≤ 8 → data_position p (stripe_in st i) d < 8 → flight_rec p (alone (slot_row st i)) 0 d ≡ flight_rec p st i d
  unfolding flight_rec
  row_record p d h l =
      let s = stripe_in st i in
      let e : stripe_in me 0 ≡ s = stripe_is in
      let a = entry_alone (data_position p s d) l in
      let b = row_entries h in
      (λ j. cond (is_data p (e j) d) (entry_in_of me 0 (data_position p (e j) d)) (encode_rec (parity_position p (e j) d) (e j) (entries_in me 0)))
      ∙ (λ j. cond (is_data p s d) (a j) (encode_rec (parity_position p s d) s (b j)))
    where
      stripe_is : stripe_in (alone (slot_row st i)) 0 ≡ stripe_in st i
      stripe_is = unfold alone slot_row stripe_in in refl

  pub row_cand : (p : Params) (v : View) (g : Seg) (k : ℕ) → k < 8 → data_drive p (stripe_in st i) k < 8 → landed_cand p v g (alone (slot_row st i)) 0 k ≡ landed_cand p v g st i k
  unfolding landed_cand
  row_cand p v g k h l =
      let d = data_drive p (stripe_in st i) k in
      let e = entry_alone k h in
      let q : data_drive p (stripe_in me 0) k ≡ d = ap (λ (x : ℕ). data_drive p x k) stripe_is in
      let o : offset_in me 0 (data_drive p (stripe_in me 0) k) ≡ offset_in st i d = ap (offset_in me 0) q ∙ row_offset d l in
      λ j. record { address = (e j).address; stamp = (e j).stamp; serial = serial_at p v g; drive = q j; offset = o j; place = place_of p (q j) (zone_on g (q j)) (1 + o j) }
    where
      stripe_is : stripe_in (alone (slot_row st i)) 0 ≡ stripe_in st i
      stripe_is = unfold alone slot_row stripe_in in refl

  pub row_cands : (p : Params) (v : View) (g : Seg) → filled_in_of st i ≤ 8 → ((k : ℕ) → k < filled_in_of st i → data_drive p (stripe_in st i) k < 8)
      → landed_cands p v g (alone (slot_row st i)) 0 ≡ landed_cands p v g st i
  unfolding landed_cands
  row_cands p v g h l =
      ap (λ (n : ℕ). map (landed_cand p v g me 0) (below n)) filled-alone
      ∙ map-below_same (landed_cand p v g me 0) (landed_cand p v g st i) (filled_in_of st i) (λ k m. row_cand p v g k (omega arith) (l k m))
