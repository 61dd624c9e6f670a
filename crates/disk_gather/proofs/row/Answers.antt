-- `row`: the eight zones there. Assumes nothing.
use mathlib.Core.Path.{ap, ◌∙◌}
use mathlib.Core.List.{List}
use Prim.Native.Nat.{ℕ, ◌*◌}
use Rattle.spec.specs.Drives.{seg}
use Rattle.law_basic.specs.Splice.{part_lent}
use Rattle.disk_gather.proofs.row.Goals as goal

pub returns : goal.returns
returns c =
    ap (λ (x : List ℕ). seg x) (c.copy_from_slice.ensures.after ∙ part_lent (8 * c.args.z) 8 c.args.rows.now)
