-- Laws of the write pointers' bytes (01, The array: 4 big-endian bytes for each zone). Assumes nothing.
use Rattle.std.specs.Prelude.{◌≡◌, List, ℕ, ◌+◌, ◌*◌, ◌/◌, ◌%◌, ◌^◌, ◌≤◌, ◌<◌}
use Rattle.std.proofs.Common.{sym, ◌∙◌, arith}
use Rattle.std.proofs.Math.Path.{ap}
use Rattle.std.proofs.Math.Decide.{dec_lt}
use Rattle.std.proofs.Math.ListN.{length}
use Rattle.std.proofs.Math.Arith.{digits_div, digits_mod, lt_of_le-ne}
use Rattle.spec.specs.Bytes.{be_of, to_be, part, splice}
use Rattle.spec.specs.Drives.{pointer_byte, pointer_of, set_pointer}
use Rattle.spec.specs.Params.{pointers_len}
use Rattle.spec.specs.declared.Params.{Params}
use Rattle.law_basic.specs.Be.{length-to_be, be_of-to_be}
use Rattle.law_basic.specs.Geometry.{pointer_within}
use Rattle.law_basic.specs.Splice.{part-splice, part-splice-below, part-splice_above}

-- different zones have different indices
pub index_drive : (Z d z e y : ℕ) → z < Z → y < Z → d * Z + z ≡ e * Z + y → d ≡ e
index_drive Z d z e y hz hy q = sym (digits_div d hz) ∙ ap (λ (x : ℕ). x / Z) q ∙ digits_div e hy

pub index_zone : (Z d z e y : ℕ) → z < Z → y < Z → d * Z + z ≡ e * Z + y → z ≡ y
index_zone Z d z e y hz hy q = sym (digits_mod d hz) ∙ ap (λ (x : ℕ). x % Z) q ∙ digits_mod e hy

module _ (p : Params) (ptrs : List ℕ) (d z n : ℕ) (hd : d < p.N) (hz : z < p.Z) (long : length ptrs ≡ pointers_len p) where
  pointer_bytes_fit : pointer_byte p d z + length (to_be 4 n) ≤ length ptrs
  pointer_bytes_fit = omega (arith, pointer_within p d z hd hz, length-to_be 4 n, long)

  -- the pointer that was set
  pub pointer_set : n < 256 ^ 4 → pointer_of p (set_pointer p ptrs d z n) d z ≡ n
  unfolding pointer_of set_pointer
  pointer_set h =
      ap (λ (x : ℕ). be_of (part (pointer_byte p d z) x (splice ptrs (pointer_byte p d z) (to_be 4 n)))) (sym (length-to_be 4 n))
      ∙ ap be_of (part-splice ptrs (pointer_byte p d z) (to_be 4 n) pointer_bytes_fit) ∙ be_of-to_be 4 n h

  -- and any other
  pub pointer_other : (e y : ℕ) → e < p.N → y < p.Z → (d * p.Z + z ≡ e * p.Z + y → ⊥) → pointer_of p (set_pointer p ptrs d z n) e y ≡ pointer_of p ptrs e y
  unfolding pointer_of set_pointer pointer_byte
  pointer_other e y he hy q = go (dec_lt (e * p.Z + y) (d * p.Z + z))
    where
      l : length (to_be 4 n) ≡ 4
      l = length-to_be 4 n

      go : Dec (e * p.Z + y < d * p.Z + z) → pointer_of p (set_pointer p ptrs d z n) e y ≡ pointer_of p ptrs e y
      go (yes h) = ap be_of (part-splice-below ptrs (pointer_byte p d z) (to_be 4 n) pointer_bytes_fit (pointer_byte p e y) 4 (omega arith))
      go (no h) =
          let k : d * p.Z + z < e * p.Z + y = lt_of_le-ne (omega arith) q in
          ap be_of (part-splice_above ptrs (pointer_byte p d z) (to_be 4 n) pointer_bytes_fit (pointer_byte p e y) 4 (omega (arith, l))
          (omega (arith, pointer_within p e y he hy, long)))

  pub pointer_other_drive : (e y : ℕ) → e < p.N → y < p.Z → (d ≡ e → ⊥) → pointer_of p (set_pointer p ptrs d z n) e y ≡ pointer_of p ptrs e y
  pointer_other_drive e y he hy q = pointer_other e y he hy (λ r. q (index_drive p.Z d z e y hz hy r))
