-- `count_if`: unflagged nothing changes; flagged, the names in the header are counted. Assumes nothing.
use mathlib.Core.Path.{sym, ap, ap₂, ◌∙◌}
use mathlib.Core.Bool.{Bool, cond, ◌&&◌}
use Prim.Native.Nat.{ℕ, ◌+◌, ◌*◌, min}
use borrow.Author.Tests.{not-true, not-false}
use lib.Dec.{eqb}
use lib.ListN.{get_or}
use Rattle.spec.specs.Drives.{view_of, chunk_at}
use Rattle.spec.specs.Layout.{header_zone}
use Rattle.recover_headers.specs.Names.{named_for}
use Rattle.recover_headers.proofs.count_if.Goals as goal

pub returns-then-not-flag : goal.returns-then-not-flag
returns-then-not-flag c =
    let a = c.args in
    λ off ps h d y hd hy. sym (ap (λ (b : Bool). cond (b && eqb (header_zone a.p (chunk_at (view_of a.p off a.image.now ps) a.drive a.zone 0).block d) y)
    (min 2 (get_or a.counts.now (d * a.p.Z + y) 0 + 1)) (get_or a.counts.now (d * a.p.Z + y) 0)) (not-true a.flag c.if-not-flag.true-raw))

pub returns : goal.returns
returns c =
    let count-names = c.count_names in
    let if1 = c.if-not-flag in
    let names_in = c.names_in in
    let a = c.args in
    λ off ps h d y hd hy.
    let b = (chunk_at (view_of a.p off a.image.now ps) a.drive a.zone 0).block in
    count-names.ensures d y hd hy
    ∙ ap₂ (λ (f : Bool) (z : ℕ). cond (f && eqb z y) (min 2 (get_or a.counts.now (d * a.p.Z + y) 0 + 1)) (get_or a.counts.now (d * a.p.Z + y) 0))
    (sym (not-false a.flag if1.false-raw)) (named_for a.p b names_in.result (names_in.ensures off ps h) d hd)
