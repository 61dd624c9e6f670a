-- `zone_number`: q * m fits 64 bits (`inverse_fits`), and as m is 2^47 / cap + 1 the quotient by 2^47 is q / cap (`inverse_divides`). Assumes nothing.
use Rattle.call_reclaim_entries.specs.Inverse.{inverse_fits, inverse_divides}
use Prim.Native.Nat.{ℕ, ◌*◌, ◌/◌, ◌<◌}
use mathlib.Core.Path.{sym, ap, ◌∙◌, subst}
use Rattle.call_reclaim_entries.proofs.zone_number.Goals as goal

pub overflow_mul-result : goal.overflow_mul-result
overflow_mul-result c =
    let a = c.args in
    let h = c.requires in
    record { fits = subst (λ (x : ℕ). a.q * x < 18446744073709551616) (sym h.3) (inverse_fits a.q a.cap h.0 h.1 h.2) }

pub returns : goal.returns
returns c =
    let a = c.args in
    let h = c.requires in
    ap (λ (x : ℕ). a.q * x / 140737488355328) h.3 ∙ inverse_divides a.q a.cap h.0 h.1 h.2
