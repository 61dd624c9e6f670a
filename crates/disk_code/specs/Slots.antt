-- Parity of an eighth of the in-flight buffer, data position by data position (01, Write). Assumes nothing.
use Rattle.std.specs.Prelude.{◌≡◌, length}
use Rattle.std.proofs.Math.Path.{sym, ap}
use Rattle.std.proofs.Common.{ap₂, ◌∙◌, inl, inr, arith}
use mathlib.Core.List.{map, List}
use Prim.Native.Nat.{ℕ, ◌+◌, ◌≤◌, ◌<◌}
use Rattle.std.proofs.Math.Decide.{dec_lt}
use Rattle.std.proofs.Math.Arith.{lt_of_le-ne}
use Rattle.spec.specs.Bytes.{part, splice, xors, parity}
use Rattle.spec.specs.Layout.{parity_drive, data_drive, data_drives}
use Rattle.spec.specs.Lists.{up_from, below}
use Rattle.spec.specs.Memory.{slot_byte, slot_block, set_slot_block, set_slot_parity}
use Rattle.spec.specs.Params.{data_count, inflight_len}
use Rattle.spec.specs.Parity.{encode_block}
use Rattle.spec.specs.declared.Params.{Params}
use Rattle.law_basic.specs.Geometry.{slot_within, slots_apart, parity_drive_lt, data_drive_lt, data_not_parity}
use Rattle.law_basic.specs.Ranges.{map-below-snoc, map-below_same, map-map}
use Rattle.law_basic.specs.Splice.{length_part, length-splice, part-splice, part-splice-below, part-splice_above, splice-part, splice_again}
use Rattle.law_basic.specs.Turns.{Apart}
use Rattle.law_basic.specs.Xor.{length-xors, AllLong, length-parity, long_below, parity-one, parity-snoc}

-- the blocks of one eighth on two drives do not meet
pub slots_differ : (p : Params) (i d e : ℕ) → (d ≡ e → ⊥) → Apart (slot_byte p i d) (slot_byte p i e) p.B
slots_differ p i d e h = go (dec_lt d e)
  where
    go : Dec (d < e) → Apart (slot_byte p i d) (slot_byte p i e) p.B
    go (yes k) = inl (slots_apart p i d e k)
    go (no k) = inr (slots_apart p i e d (lt_of_le-ne (omega arith) (λ q. h (sym q))))

-- the parity of the first k data positions
unfoldable pub data_parity : Params → List ℕ → ℕ → ℕ → ℕ → List ℕ
data_parity p fl i s k = parity p.B (map (λ j. slot_block p fl i (data_drive p s j)) (below k))

module _ (p : Params) (fl : List ℕ) (i s : ℕ) (r : 0 < p.N) (hi : i < 8) (long : length fl ≡ inflight_len p) where
  abbrev at : ℕ
  at = slot_byte p i (parity_drive p s)

  abbrev from : ℕ → ℕ
  from k = slot_byte p i (data_drive p s k)

  at_fits : at + p.B ≤ length fl
  at_fits = omega (arith, slot_within p i (parity_drive p s) hi (parity_drive_lt p s r), long)

  from_fits : (k : ℕ) → k < data_count p → from k + p.B ≤ length fl
  from_fits k h = omega (arith, slot_within p i (data_drive p s k) hi (data_drive_lt p s k h), long)

  slot_blocks_long : (k : ℕ) → k < data_count p → length (slot_block p fl i (data_drive p s k)) ≡ p.B
  unfolding slot_block
  slot_blocks_long k h = length_part (from k) p.B fl (from_fits k h)

  slots_long : (k : ℕ) → k ≤ data_count p → AllLong p.B (map (λ j. slot_block p fl i (data_drive p s j)) (below k))
  slots_long k h = long_below p.B (λ j. slot_block p fl i (data_drive p s j)) k (λ j q. slot_blocks_long j (omega arith))

  pub slot_parity_long : (k : ℕ) → k ≤ data_count p → length (data_parity p fl i s k) ≡ p.B
  unfolding data_parity
  slot_parity_long k h = length-parity p.B (map (λ j. slot_block p fl i (data_drive p s j)) (below k)) (slots_long k h)

  -- one position
  pub parity_first : 0 < data_count p → part (from 0) p.B fl ≡ data_parity p fl i s 1
  unfolding data_parity slot_block below up_from
  parity_first h = sym (parity-one p.B (part (from 0) p.B fl) (length_part (from 0) p.B fl (from_fits 0 h)))

  -- one more
  pub parity_next : (k : ℕ) → k < data_count p → xors (data_parity p fl i s k) (part (from k) p.B fl) ≡ data_parity p fl i s (k + 1)
  unfolding data_parity slot_block
  parity_next k h =
      let f : ℕ → List ℕ = λ j. slot_block p fl i (data_drive p s j) in
      sym (ap (parity p.B) (map-below-snoc f k) ∙ parity-snoc p.B (map f (below k)) (f k) (slots_long k (omega arith)) (slot_blocks_long k h))

  -- a data block is as it was, whatever stands in the parity's place
  kept_at : (k : ℕ) (x : List ℕ) → k < data_count p → length x ≡ p.B → Apart at (from k) p.B → part (from k) p.B (splice fl at x) ≡ part (from k) p.B fl
  kept_at k x h n (inl q) = part-splice_above fl at x (omega (arith, at_fits)) (from k) p.B (omega arith) (from_fits k h)
  kept_at k x h n (inr q) = part-splice-below fl at x (omega (arith, at_fits)) (from k) p.B q

  kept_block : (k : ℕ) (x : List ℕ) → k < data_count p → length x ≡ p.B → part (from k) p.B (splice fl at x) ≡ part (from k) p.B fl
  kept_block k x h n = kept_at k x h n (slots_differ p i (parity_drive p s) (data_drive p s k) (λ q. data_not_parity p s k (sym q)))

  pub data_kept : (k : ℕ) (x : List ℕ) → k ≤ data_count p → length x ≡ p.B → data_parity p (splice fl at x) i s k ≡ data_parity p fl i s k
  unfolding data_parity slot_block
  data_kept k x h n =
      ap (parity p.B)
      (map-below_same (λ j. part (from j) p.B (splice fl at x)) (λ j. part (from j) p.B fl) k (λ j q. kept_block j x (omega arith) n))

  -- the buffer where the first data block stands in the parity's place, after one turn, and at the end
  pub parity-start : part at p.B fl ≡ data_parity p fl i s 1 → fl ≡ splice fl at (data_parity p fl i s 1)
  parity-start e = sym (ap (splice fl at) (sym e) ∙ splice-part fl at p.B at_fits)

  pub parity_turn : (k : ℕ) (fl' : List ℕ) → k < data_count p → fl' ≡ splice fl at (data_parity p fl i s k)
      → splice fl' at (xors (part at p.B fl') (part (from k) p.B fl')) ≡ splice fl at (data_parity p fl i s (k + 1))
  parity_turn k fl' h e =
      let x = data_parity p fl i s k in
      let n : length x ≡ p.B = slot_parity_long k (omega arith) in
      let fits : at + length x ≤ length fl = omega (arith, at_fits) in
      let a : part at p.B (splice fl at x) ≡ x = ap (λ (y : ℕ). part at y (splice fl at x)) (sym n) ∙ part-splice fl at x fits in
      let m : length (xors x (part (from k) p.B fl)) ≡ length x = length-xors x (part (from k) p.B fl) in
      ap (λ (y : List ℕ). splice y at (xors (part at p.B y) (part (from k) p.B y))) e
      ∙ ap₂ (λ (y z : List ℕ). splice (splice fl at x) at (xors y z)) a (kept_block k x h n)
      ∙ splice_again fl at x (xors x (part (from k) p.B fl)) fits m
      ∙ ap (splice fl at) (parity_next k h)

  pub parity_done : splice fl at (data_parity p fl i s (data_count p)) ≡ set_slot_parity p fl i s
  unfolding set_slot_parity set_slot_block data_parity data_drives encode_block
  parity_done = ap (λ (x : List (List ℕ)). splice fl at (parity p.B x)) (sym (map-map (slot_block p fl i) (data_drive p s) (below (data_count p))))

-- what stood in the parity's place does not count
pub parity_again : (p : Params) (fl : List ℕ) (i s : ℕ) → 0 < p.N → i < 8 → length fl ≡ inflight_len p → (x : List ℕ) → length x ≡ p.B
    → set_slot_parity p (splice fl (slot_byte p i (parity_drive p s)) x) i s ≡ set_slot_parity p fl i s
parity_again p fl i s r hi long x n =
    let a = slot_byte p i (parity_drive p s) in
    let fits : a + length x ≤ length fl = omega (arith, slot_within p i (parity_drive p s) hi (parity_drive_lt p s r), long) in
    let long' : length (splice fl a x) ≡ inflight_len p = length-splice fl a x fits ∙ long in
    let y = data_parity p fl i s (data_count p) in
    let m : length y ≡ length x = slot_parity_long p fl i s r hi long (data_count p) (omega arith) ∙ sym n in
    sym (parity_done p (splice fl a x) i s r hi long')
    ∙ ap (splice (splice fl a x) a) (data_kept p fl i s r hi long (data_count p) x (omega arith) n)
    ∙ splice_again fl a x y fits m
    ∙ parity_done p fl i s r hi long

-- the first data block copied to the parity's place
pub parity-copied : (p : Params) (fl : List ℕ) (i s : ℕ) → 0 < p.N → i < 8 → length fl ≡ inflight_len p → 0 < data_count p → (fl' : List ℕ)
    → fl' ≡ splice fl (slot_byte p i (parity_drive p s)) (part (slot_byte p i (data_drive p s 0)) p.B fl)
    → part (slot_byte p i (parity_drive p s)) p.B fl' ≡ data_parity p fl' i s 1
parity-copied p fl i s r hi long k fl' e =
    let a = slot_byte p i (parity_drive p s) in
    let f = slot_byte p i (data_drive p s 0) in
    let x = part f p.B fl in
    let n : length x ≡ p.B = length_part f p.B fl (omega (arith, slot_within p i (data_drive p s 0) hi (data_drive_lt p s 0 k), long)) in
    let fits : a + length x ≤ length fl = omega (arith, slot_within p i (parity_drive p s) hi (parity_drive_lt p s r), long) in
    ap (part a p.B) e ∙ ap (λ (y : ℕ). part a y (splice fl a x)) (sym n) ∙ part-splice fl a x fits
    ∙ parity_first p fl i s r hi long k ∙ sym (data_kept p fl i s r hi long 1 x (omega arith) n) ∙ ap (λ (y : List ℕ). data_parity p y i s 1) (sym e)
