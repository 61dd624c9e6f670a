-- `scarce`: empty zones are counted up to n + 1, and that count is at most n just when all of them are (`scarce-count`). Assumes nothing.
use Prim.Native.Nat.{ℕ}
use Rattle.spec.specs.Drives.{view_of}
use Rattle.call_filling.specs.Left.{scarce-count}
use lib.Dec.{leb}
use mathlib.Core.Path.{ap, ◌∙◌}
use Rattle.call_filling.proofs.scarce.Goals as goal

pub returns : goal.returns
returns c = λ im h.
    let a = c.args in
    ap (λ (x : ℕ). leb x a.n) (c.empty_zones-k.ensures im h) ∙ scarce-count a.p (view_of a.p a.offline.now im a.pointers.now) a.n
