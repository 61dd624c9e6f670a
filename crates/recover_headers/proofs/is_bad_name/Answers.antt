-- `is_bad_name`: a number that is no zone, or an offline one, is bad; of a good zone the count says. Assumes nothing.
use mathlib.Core.Path.{sym, ap, ap₂, ◌∙◌}
use mathlib.Core.Bool.{Bool, not, ◌&&◌, ◌||◌}
use Prim.Native.Nat.{ℕ, ◌+◌, ◌*◌}
use native.Mathlib.Omega.{arith}
use borrow.Author.Tests.{not-true, not-false, le-ltb, lt-ltb}
use lib.Dec.{leb}
use lib.ListN.{get_or}
use Rattle.spec.specs.Drives.{is_good}
use Rattle.spec.specs.Params.{offline_len}
use Rattle.recover_headers.specs.Names.{name_bad}
use Rattle.recover_headers.proofs.is_bad_name.Goals as goal

pub returns-then-p-zone : goal.returns-then-p-zone
unfolding name_bad
returns-then-p-zone c =
    let a = c.args in
    sym (ap (λ (b : Bool). not (b && is_good a.p a.offline.now a.drive a.zone) || leb 2 (get_or a.counts.now (a.drive * a.p.Z + a.zone) 0))
    (le-ltb a.zone a.p.Z c.if-p-zone.true))

pub is_good-requires : goal.is_good-requires
is_good-requires c = record { p_value = c.requires.p_value; offline_len = (c.requires.offline_len.0, c.requires.offline_len.2, omega (arith, c.if-p-zone.false)) }

pub returns-then-not-is_good : goal.returns-then-not-is_good
unfolding name_bad
returns-then-not-is_good c =
    let a = c.args in
    sym (ap₂ (λ (b g : Bool). not (b && g) || leb 2 (get_or a.counts.now (a.drive * a.p.Z + a.zone) 0))
    (lt-ltb a.zone a.p.Z (omega (arith, c.if-p-zone.false))) (sym c.is_good.ensures ∙ not-true c.is_good.result c.if-not-is_good.true-raw))

pub offline_at-requires : goal.offline_at-requires
offline_at-requires c = record { p_value = c.requires.p_value; drive_lt_n = (c.requires.offline_len.2, omega (arith, c.if-p-zone.false)) }

pub bounds-counts-offline_at : goal.bounds-counts-offline_at
unfolding offline_len
bounds-counts-offline_at c = omega (arith, c.offline_at.ensures.1, c.requires.offline_len.1)

pub returns : goal.returns
unfolding name_bad
returns c =
    let offline-at = c.offline_at in
    let if1 = c.if-p-zone in
    let is-good = c.is_good in
    let if2 = c.if-not-is_good in
    let a = c.args in
    ap (λ (j : ℕ). leb 2 (get_or a.counts.now j 0)) offline-at.ensures.0
    ∙ sym (ap₂ (λ (b g : Bool). not (b && g) || leb 2 (get_or a.counts.now (a.drive * a.p.Z + a.zone) 0))
    (lt-ltb a.zone a.p.Z (omega (arith, if1.false))) (sym is-good.ensures ∙ not-false is-good.result if2.false-raw))
