-- `records_of`: footer i starts inside the S records (`footer_start`); the branch takes the lesser of those left and a full footer. Assumes nothing.
use mathlib.Core.Path.{◌≡◌, ap}
use Prim.Native.Nat.{ℕ, ◌*◌}
use native.Mathlib.Omega.{arith}
use Rattle.spec.specs.Params.{per_footer}
use Rattle.law_basic.specs.Geometry.{ranged}
use Rattle.disk_footers.specs.Feet.{footer_start}
use Rattle.disk_footers.proofs.records_of.Goals as goal

pub overflow_mul-rest : goal.overflow_mul-rest
overflow_mul-rest c =
    let p = c.args.p in
    let i = c.args.i in
    let r = ranged p c.requires.p_value in
    let h = c.requires.i_bound in
    let k : c.per_footer-per.result ≡ per_footer p = c.per_footer-per.ensures.0 in
    let s = footer_start p r i h in
    let e : i * c.per_footer-per.result ≡ i * per_footer p = ap (λ (x : ℕ). i * x) k in
    omega (arith, e, s, r.stripes_high)

pub overflow_sub-rest : goal.overflow_sub-rest
overflow_sub-rest c =
    let args = c.args in
    let pre = c.requires in
    let p = args.p in
    let i = args.i in
    let r = ranged p pre.p_value in
    let h = pre.i_bound in
    let k : c.per_footer-per.result ≡ per_footer p = c.per_footer-per.ensures.0 in
    let s = footer_start p r i h in
    let e : i * c.per_footer-per.result ≡ i * per_footer p = ap (λ (x : ℕ). i * x) k in
    omega (arith, e, s)

pub returns : goal.returns
returns c =
    let per-footer = c.per_footer-per in
    let args = c.args in
    let pre = c.requires in
    let p = args.p in
    let i = args.i in
    let r = ranged p pre.p_value in
    let h = pre.i_bound in
    let k : per-footer.result ≡ per_footer p = per-footer.ensures.0 in
    let s = footer_start p r i h in
    let e : i * per-footer.result ≡ i * per_footer p = ap (λ (x : ℕ). i * x) k in
    (omega (arith, e, k, s, c.min.ensures), omega (arith, e, k, s, c.min.ensures), omega (arith, c.min.ensures, per-footer.ensures.2))
