-- `greater_if`: unflagged the first stays; flagged, it is the greater. Assumes nothing.
use mathlib.Core.Path.{sym, ◌∙◌}
use Prim.Native.Nat.{max}
use borrow.Author.Tests.{not-true, not-false}
use Rattle.law_drives.specs.Tests.{cond_true, cond_false}
use Rattle.recover_segments.proofs.greater_if.Goals as goal

pub returns-then-not-flag : goal.returns-then-not-flag
returns-then-not-flag c = sym (cond_false c.args.flag (max c.args.a.0 c.args.b.0) c.args.a.0 (not-true c.args.flag c.if-not-flag.true-raw))

pub returns : goal.returns
returns c =
    let a = c.args in
    c.max.ensures ∙ sym (cond_true a.flag (max a.a.0 a.b.0) a.a.0 (not-false a.flag c.if-not-flag.false-raw))
