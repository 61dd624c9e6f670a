-- The library's bytes of a number, the highest first, are those of `to_be`: by induction over the width. Assumes nothing.
use Rattle.std.specs.Prelude.{◌≡◌, refl, List, ◌∷◌, ℕ, zero, suc, ◌^◌, ◌/◌, ◌%◌}
use Rattle.std.proofs.Common.{sym, ap, ap₂, ◌∙◌}
use Rattle.std.proofs.Math.Nat.{div-one}
use Rattle.std.specs.Int.{bytes_high_first, byte_at}
use Rattle.spec.specs.Bytes.{to_be}
use Rattle.law_basic.specs.Be.{to_be-cons}

pub byte_at_worth : (k n : ℕ) → byte_at k n ≡ n / 256 ^ k % 256
byte_at_worth zero n = ap (λ (x : ℕ). x % 256) (sym (div-one n))
byte_at_worth (suc k) n = refl

pub bytes_high_first-to_be : (w n : ℕ) → bytes_high_first w n ≡ to_be w n
unfolding to_be
bytes_high_first-to_be zero n = refl
bytes_high_first-to_be (suc w) n = ap₂ (λ (x : ℕ) (s : List ℕ). x ∷ s) (byte_at_worth w n) (bytes_high_first-to_be w n) ∙ sym (to_be-cons w n)
