-- The library's bytes of a number, the lowest first, are those of `to_le`: by induction over the width. Assumes nothing.
use Rattle.std.specs.Prelude.{◌≡◌, refl, List, ◌∷◌, ℕ, zero, suc, ◌^◌, ◌/◌}
use Rattle.std.proofs.Common.{sym, ap, ap₂, ◌∙◌, pow-suc}
use Rattle.std.proofs.Math.Nat.{div-one, div-div-eq-div-mul}
use Rattle.std.specs.Int.{bytes_low_first}
use Rattle.spec.specs.Bytes.{to_le}
use Rattle.bits_be.specs.Native.{byte_at_worth}

bytes_low_from : (i w n : ℕ) → bytes_low_first i w n ≡ to_le w (n / 256 ^ i)
unfolding to_le
bytes_low_from i zero n = refl
bytes_low_from i (suc w) n =
    let e : n / 256 ^ suc i ≡ n / 256 ^ i / 256 = ap (λ (x : ℕ). n / x) (pow-suc 256 i) ∙ sym (div-div-eq-div-mul n (256 ^ i) 256) in
    ap₂ (λ (x : ℕ) (s : List ℕ). x ∷ s) (byte_at_worth i n) (bytes_low_from (suc i) w n ∙ ap (to_le w) e)

pub bytes_low_first-to_le : (w n : ℕ) → bytes_low_first 0 w n ≡ to_le w n
bytes_low_first-to_le w n = bytes_low_from 0 w n ∙ ap (to_le w) (div-one n)
