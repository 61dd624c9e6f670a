-- `mark_window`: cleared marks mark nothing, so that after `mark_places` just the places of the addresses are marked. Assumes nothing.
use Prim.Native.Nat.{ℕ, ◌-◌}
use Rattle.mem_marks.specs.Marks.{is_marked, is_pointed, marked_none}
use lib.ListN.{length}
use mathlib.Core.Bool.{Bool, ◌||◌, or-false}
use mathlib.Core.List.{List}
use mathlib.Core.Path.{ap, ◌∙◌}
use Rattle.mem_marks.proofs.mark_window.Goals as goal

pub returns : goal.returns
returns c =
    let s = c.args in
    let clear = c.clear in
    let m = c.mark_places.ensures in
    let e = clear.ensures in record {
      marks = (λ q x y. m.by_index q x y
          ∙ ap (λ (b : Bool). is_pointed s.addresses.now s.n q || b) (ap (λ (l : List ℕ). is_marked l (q - s.first)) e ∙ marked_none (length s.marks.now) (q - s.first))
          ∙ or-false (is_pointed s.addresses.now s.n q));
      value = m.value;
    }
