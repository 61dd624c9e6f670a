-- Eighths: found by a search, the cells of their lists, and the in-flight bytes, whose length stays.
use Rattle.std.specs.Prelude.{◌≡◌, Bool, true, ℕ, ◌<◌}
use Rattle.std.proofs.Common.{sym, ap, ◌∙◌, subst, arith}
use mathlib.Core.List.{List, map}
use Rattle.std.proofs.Math.ListN.{length}
use Rattle.spec.specs.declared.Params.{Params}
use Rattle.spec.specs.Layout.{parity_drive, data_drives}
use Rattle.spec.specs.Lists.{below, any, index_of}
use Rattle.spec.specs.Memory.{cell, slot_count, slots, slot_byte, slot_block, set_slot_block, set_slot_parity}
use Rattle.spec.specs.Params.{inflight_len}
use Rattle.spec.specs.Parity.{encode_block}
use Rattle.law_basic.specs.Each.{each_map, each_data}
use Rattle.law_basic.specs.Geometry.{Ranged, slot_within, parity_drive_lt}
use Rattle.law_basic.specs.Ranges.{length-below, get_d_below}
use Rattle.law_basic.specs.Splice.{length_part, length-splice}
use Rattle.law_code.specs.Code.{encode_long}
use Rattle.law_drives.specs.Members.{index_below, index_passes}

-- a cell of the lists of an eighth
pub cell-low : (i k : ℕ) → i < 8 → k < 8 → cell i k < 64
unfolding cell
cell-low i k h l = omega arith

-- an eighth that passes the test
pub slot_found : (f : ℕ → Bool) → any f slots ≡ true → (index_of f slots < 8) × (f (index_of f slots) ≡ true)
unfolding slots slot_count
slot_found f q =
    let l : index_of f (below 8) < 8 = subst (λ (x : ℕ). index_of f (below 8) < x) (length-below 8) (index_below f (below 8) q) in
    (l, ap f (sym (get_d_below 8 (index_of f (below 8)) 0 l)) ∙ index_passes f (below 8) 0 q)

module _ (p : Params) (r : Ranged p) (fl : List ℕ) (l : length fl ≡ inflight_len p) (i : ℕ) (hi : i < 8) where
  pub slot_long : (d : ℕ) (b : List ℕ) → d < p.N → length b ≡ p.B → length (set_slot_block p fl i d b) ≡ inflight_len p
  unfolding set_slot_block
  slot_long d b hd e = length-splice fl (slot_byte p i d) b (let w = slot_within p i d hi hd in omega arith) ∙ l

  pub block_long! : (d : ℕ) → d < p.N → length (slot_block p fl i d) ≡ p.B
  unfolding slot_block
  block_long! d hd = length_part (slot_byte p i d) p.B fl (let w = slot_within p i d hi hd in omega arith)

  pub parity_long : (s : ℕ) → length (set_slot_parity p fl i s) ≡ inflight_len p
  unfolding set_slot_parity
  parity_long s = slot_long (parity_drive p s) (encode_block p.B 0 (map (slot_block p fl i) (data_drives p s))) (parity_drive_lt p s (omega (arith, r.drives_low)))
      (encode_long p.B 0 (map (slot_block p fl i) (data_drives p s))
      (each_map (λ (b : List ℕ). length b ≡ p.B) (slot_block p fl i) (data_drives p s) (each_data (λ d. length (slot_block p fl i d) ≡ p.B) p s (λ d hd n. block_long! d hd))))
