-- `per_footer`: the constant is the spare's length; B from 64 to 4096 gives 3 to 204. Assumes nothing.
use mathlib.Core.Path.{sym, ap, subst}
use Prim.Native.Nat.{ℕ, ◌/◌, ◌≤◌}
use Rattle.spec.specs.Params.{per_footer}
use Rattle.law_basic.specs.Geometry.{ranged, spare_len_lem, per_footer_low, per_footer_high}
use Rattle.disk_shape.proofs.per_footer.Goals as goal

pub returns : goal.returns
unfolding per_footer
returns c =
    let p = c.args.p in
    let r = ranged p c.requires in
    (ap (λ (n : ℕ). p.B / n) (sym spare_len_lem), subst (λ (n : ℕ). 3 ≤ p.B / n) spare_len_lem (per_footer_low p r), subst (λ (n : ℕ). p.B / n ≤ 204) spare_len_lem (per_footer_high p r))
