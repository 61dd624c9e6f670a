-- `chunk_fault`: `bad_lowest` for a misplaced chunk, else `fine_lowest`. Assumes nothing.
use Rattle.spec.specs.Lists.{least, cons_if}
use Rattle.call_land_faults.specs.Lowest.{bad_lowest, fine_lowest}
use mathlib.Core.Bool.{Bool}
use mathlib.Core.List.{[]}
use mathlib.Core.Path.{sym, ap, ◌∙◌}
use native.Mathlib.Omega.{arith}
use Rattle.call_land_faults.proofs.chunk_fault.Goals as goal

pub returns-then-misplaced : goal.returns-then-misplaced
returns-then-misplaced c =
    let a = c.args in
    let q = c.requires.pointers_len in record {
      by_index = λ off im h. bad_lowest a.p.Z a.zone q.2
          ∙ ap (λ (x : Bool). least a.p.Z (cons_if x a.zone [])) (sym c.if-misplaced.true ∙ c.misplaced.ensures off im h);
      upper_bound = omega (arith, q.2);
    }

pub returns : goal.returns
returns c =
    let a = c.args in
    let q = c.requires.pointers_len in record {
      by_index = λ off im h. fine_lowest a.p.Z a.zone q.2
          ∙ ap (λ (x : Bool). least a.p.Z (cons_if x a.zone [])) (sym c.if-misplaced.false ∙ c.misplaced.ensures off im h);
      upper_bound = omega arith;
    }
