-- The in-flight buffer: one block set, and the others. Assumes nothing.
use Rattle.std.specs.Prelude.{◌≡◌, List, map, ◌⊎◌, ◌≢◌, ℕ, ◌+◌, ◌*◌, ◌≤◌, ◌<◌, length}
use Rattle.std.proofs.Common.{sym, ◌∙◌, inr, arith}
use Rattle.std.proofs.Math.Path.{ap}
use Rattle.std.proofs.Math.Logic.{⊎_elim}
use Rattle.std.proofs.Math.Decide.{dec_lt}
use Rattle.spec.specs.declared.Params.{Params}
use Rattle.spec.specs.Bytes.{part, splice, parity}
use Rattle.spec.specs.Layout.{parity_drive, data_drive, data_drives}
use Rattle.spec.specs.Lists.{below}
use Rattle.spec.specs.Memory.{slot_byte, slot_block, set_slot_block, set_slot_parity}
use Rattle.spec.specs.Params.{data_count, inflight_len}
use Rattle.law_basic.specs.Geometry.{item_fits, Ranged, slot_within, data_drive_lt, data_not_parity}
use Rattle.law_basic.specs.Ranges.{map-below_same, map-map}
use Rattle.law_basic.specs.Splice.{length_part, length-splice, part-splice, part-splice-below, part-splice_above}
use Rattle.law_basic.specs.Xor.{AllLong, length-parity, long_below}
use Rattle.law_code.specs.Single.{encode_block_xor}
use Rattle.law_views.specs.Pointers.{index_drive, index_zone}
use Rattle.proof_crash_items.specs.Ranges.{parity_on}

module _ (p : Params) (fl : List ℕ) (long : length fl ≡ inflight_len p) (i d : ℕ) (b : List ℕ) (il : i < 8) (dl : d < p.N) (bl : length b ≡ p.B) where
  fits : slot_byte p i d + length b ≤ length fl
  fits = omega (arith, slot_within p i d il dl)

  pub length_slot : length (set_slot_block p fl i d b) ≡ inflight_len p
  unfolding set_slot_block
  length_slot = length-splice fl (slot_byte p i d) b fits ∙ long

  pub slot_same : slot_block p (set_slot_block p fl i d b) i d ≡ b
  unfolding slot_block set_slot_block
  slot_same = ap (λ (n : ℕ). part (slot_byte p i d) n (splice fl (slot_byte p i d) b)) (sym bl) ∙ part-splice fl (slot_byte p i d) b fits

  pub slot_other : (j e : ℕ) → j < 8 → e < p.N → (j ≢ i) ⊎ (e ≢ d) → slot_block p (set_slot_block p fl i d b) j e ≡ slot_block p fl j e
  unfolding slot_block set_slot_block slot_byte
  slot_other j e jl el n = go (dec_lt (j * p.N + e) (i * p.N + d))
    where
      apart : j * p.N + e ≢ i * p.N + d
      apart q = ⊎_elim (λ (k : j ≢ i). k (index_drive p.N j e i d el dl q)) (λ (k : e ≢ d). k (index_zone p.N j e i d el dl q)) n

      within : (j * p.N + e) * p.B + p.B ≤ inflight_len p
      within = unfold slot_byte in slot_within p j e jl el

      go : Dec (j * p.N + e < i * p.N + d)
          → part ((j * p.N + e) * p.B) p.B (splice fl ((i * p.N + d) * p.B) b) ≡ part ((j * p.N + e) * p.B) p.B fl
      go (yes l) = part-splice-below fl ((i * p.N + d) * p.B) b (unfold slot_byte in fits) ((j * p.N + e) * p.B) p.B (item_fits (j * p.N + e) (i * p.N + d) p.B l)
      go (no l) =
          let k : i * p.N + d < j * p.N + e = omega (arith, apart) in
          part-splice_above fl ((i * p.N + d) * p.B) b (unfold slot_byte in fits) ((j * p.N + e) * p.B) p.B
          (omega (arith, item_fits (i * p.N + d) (j * p.N + e) p.B k)) (omega (arith, within))

pub inflight_block_long : (p : Params) (fl : List ℕ) → length fl ≡ inflight_len p → (i d : ℕ) → i < 8 → d < p.N → length (slot_block p fl i d) ≡ p.B
unfolding slot_block
inflight_block_long p fl long i d il dl = length_part (slot_byte p i d) p.B fl (omega (arith, slot_within p i d il dl))

-- the blocks of a stripe's data positions
pub data_blocks_long : (p : Params) (fl : List ℕ) → length fl ≡ inflight_len p → (i s : ℕ) → i < 8 → AllLong p.B (map (slot_block p fl i) (data_drives p s))
unfolding data_drives
data_blocks_long p fl long i s il =
    rw map-map (long_below p.B (λ (k : ℕ). slot_block p fl i (data_drive p s k)) (data_count p) (λ k l. inflight_block_long p fl long i (data_drive p s k) il (data_drive_lt p s k l)))

pub data_blocks_same : (p : Params) (fl fl' : List ℕ) (i s : ℕ) → ((k : ℕ) → k < data_count p → slot_block p fl i (data_drive p s k) ≡ slot_block p fl' i (data_drive p s k))
    → map (slot_block p fl i) (data_drives p s) ≡ map (slot_block p fl' i) (data_drives p s)
unfolding data_drives
data_blocks_same p fl fl' i s h =
    map-map (slot_block p fl i) (data_drive p s) (below (data_count p))
    ∙ map-below_same (λ (k : ℕ). slot_block p fl i (data_drive p s k)) (λ (k : ℕ). slot_block p fl' i (data_drive p s k)) (data_count p) h
    ∙ sym (map-map (slot_block p fl' i) (data_drive p s) (below (data_count p)))

-- the parity block set
module _ (p : Params) (fl : List ℕ) (long : length fl ≡ inflight_len p) (r : Ranged p) (i s : ℕ) (il : i < 8) where
  par_lt : parity_drive p s < p.N
  par_lt = parity_on p r s

  par_long : length (parity p.B (map (slot_block p fl i) (data_drives p s))) ≡ p.B
  par_long = length-parity p.B (map (slot_block p fl i) (data_drives p s)) (data_blocks_long p fl long i s il)

  parity-laid : set_slot_parity p fl i s ≡ set_slot_block p fl i (parity_drive p s) (parity p.B (map (slot_block p fl i) (data_drives p s)))
  unfolding set_slot_parity
  parity-laid = ap (set_slot_block p fl i (parity_drive p s)) (encode_block_xor p.B 0 (map (slot_block p fl i) (data_drives p s)))

  pub slot_parity-other : (j e : ℕ) → j < 8 → e < p.N → (j ≢ i) ⊎ (e ≢ parity_drive p s) → slot_block p (set_slot_parity p fl i s) j e ≡ slot_block p fl j e
  slot_parity-other j e jl el n =
      ap (λ (y : List ℕ). slot_block p y j e) parity-laid
      ∙ slot_other p fl long i (parity_drive p s) (parity p.B (map (slot_block p fl i) (data_drives p s))) il par_lt par_long j e jl el n

  pub slot_parity : slot_block p (set_slot_parity p fl i s) i (parity_drive p s) ≡ parity p.B (map (slot_block p (set_slot_parity p fl i s) i) (data_drives p s))
  slot_parity = here ∙ ap (parity p.B) (data_blocks_same p fl (set_slot_parity p fl i s) i s (λ k l.
      sym (slot_parity-other i (data_drive p s k) il (data_drive_lt p s k l) (inr (λ e. data_not_parity p s k e)))))
    where
      here : slot_block p (set_slot_parity p fl i s) i (parity_drive p s) ≡ parity p.B (map (slot_block p fl i) (data_drives p s))
      here =
          ap (λ (y : List ℕ). slot_block p y i (parity_drive p s)) parity-laid
          ∙ slot_same p fl long i (parity_drive p s) (parity p.B (map (slot_block p fl i) (data_drives p s))) il par_lt par_long
