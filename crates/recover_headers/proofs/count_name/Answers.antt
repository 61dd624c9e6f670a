-- `count_name`: a number at or above Z changes nothing; another's 0 becomes 1, and any other count 2. Assumes nothing.
use mathlib.Core.Path.{◌≡◌, sym, ap, ◌∙◌}
use Prim.Native.Nat.{ℕ, ◌+◌, ◌*◌, min}
use native.Mathlib.Omega.{arith}
use lib.ListN.{get_or, set}
use Rattle.spec.specs.Params.{offline_len}
use Rattle.recover_headers.specs.Names.{count_set, count_past}
use Rattle.recover_headers.proofs.count_name.Goals as goal

pub returns-then-p-zone : goal.returns-then-p-zone
returns-then-p-zone c =
    let a = c.args in
    λ d z hd hz. count_past a.p a.counts.now a.drive a.zone d z c.if-p-zone.true hz

pub bounds-counts-at : goal.bounds-counts-at
unfolding offline_len
bounds-counts-at c = omega (arith, c.offline_at-at.ensures.1, c.requires.z_in_bounds.0)

pub bounds-counts-at-then-counts-at-eq0 : goal.bounds-counts-at-then-counts-at-eq0
unfolding offline_len
bounds-counts-at-then-counts-at-eq0 c = omega (arith, c.offline_at-at.ensures.1, c.requires.z_in_bounds.0)

pub returns-then-counts-at-eq0 : goal.returns-then-counts-at-eq0
returns-then-counts-at-eq0 c =
    let a = c.args in
    let i = a.drive * a.p.Z + a.zone in
    let o = c.offline_at-at.ensures.0 in
    let q : get_or a.counts.now i 0 ≡ 0 = ap (λ (j : ℕ). get_or a.counts.now j 0) (sym o) ∙ c.if-counts-at-eq0.true in
    let n : 1 ≡ min 2 (get_or a.counts.now i 0 + 1) = omega (arith, q) in
    λ d z hd hz. ap (λ (j : ℕ). get_or (set a.counts.now j 1) (d * a.p.Z + z) 0) o
    ∙ count_set a.p a.counts.now a.drive a.zone 1 d z c.requires.z_in_bounds.0 c.requires.z_in_bounds.1 (omega (arith, c.if-p-zone.false)) n hd hz

pub bounds-counts-at-2 : goal.bounds-counts-at-2
unfolding offline_len
bounds-counts-at-2 c = omega (arith, c.offline_at-at.ensures.1, c.requires.z_in_bounds.0)

pub returns : goal.returns
returns c =
    let a = c.args in
    let i = a.drive * a.p.Z + a.zone in
    let o = c.offline_at-at.ensures.0 in
    let q : get_or a.counts.now i 0 ≡ 0 → ⊥ = λ z. c.if-counts-at-eq0.false (ap (λ (j : ℕ). get_or a.counts.now j 0) o ∙ z) in
    let n : 2 ≡ min 2 (get_or a.counts.now i 0 + 1) = omega (arith, q) in
    λ d z hd hz. ap (λ (j : ℕ). get_or (set a.counts.now j 2) (d * a.p.Z + z) 0) o
    ∙ count_set a.p a.counts.now a.drive a.zone 2 d z c.requires.z_in_bounds.0 c.requires.z_in_bounds.1 (omega (arith, c.if-p-zone.false)) n hd hz
