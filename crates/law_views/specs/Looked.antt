-- Where an address lies by the table's place, and what a landing takes of it (01, Read; Landing; 02, item 2). Assumes nothing.
use Rattle.std.specs.Prelude.{◌≡◌, Bool, true, false, cond, ℕ}
use Rattle.std.proofs.Math.Path.{ap}
use Rattle.std.proofs.Common.{◌∙◌}
use mathlib.Core.List.{List, []}
use borrow.Author.Tests.{eq-eqb, ne_eqb}
use Rattle.spec.specs.declared.Params.{Params}
use Rattle.spec.specs.Counts.{never_place}
use Rattle.spec.specs.Drives.{View}
use Rattle.spec.specs.Landing.{held_cand, held_by_of, held}
use Rattle.spec.specs.Lists.{is_in}
use Rattle.spec.specs.Lists.Opt.{none, some}
use Rattle.spec.specs.Memory.{place_at_of}
use Rattle.spec.specs.Params.{place_drive}
use Rattle.spec.specs.Read.{Found, stored_at, read_piece, lies, lookup}
use Rattle.spec.specs.Read.Found.{nowhere, here, away}
use Rattle.spec.specs.Segments.{place_record}
use Rattle.law_basic.specs.Mask.{is_in_empty}

module _ (p : Params) (tb : List ℕ) (a q : ℕ) (e : place_at_of tb a ≡ q) where
  pub found_nowhere : (gone : ℕ) → q ≡ never_place → lies p gone tb a ≡ nowhere
  unfolding lies
  found_nowhere gone h = rw (e, eq-eqb q never_place h)

  pub found_some : (gone : ℕ) → (q ≡ never_place → ⊥) → lies p gone tb a ≡ cond (is_in gone (place_drive p q)) (away q) (here q)
  unfolding lies
  found_some gone h = rw (e, ne_eqb q never_place h)

  pub found_away : (gone : ℕ) → (q ≡ never_place → ⊥) → is_in gone (place_drive p q) ≡ true → lies p gone tb a ≡ away q
  found_away gone h g = found_some gone h ∙ ap (λ (x : Bool). cond x (away q) (here q)) g

  pub found_here : (gone : ℕ) → (q ≡ never_place → ⊥) → is_in gone (place_drive p q) ≡ false → lies p gone tb a ≡ here q
  found_here gone h g = found_some gone h ∙ ap (λ (x : Bool). cond x (away q) (here q)) g

  pub held_none : (v : View) → q ≡ never_place → held p v tb a ≡ none
  unfolding held lookup held_by_of
  held_none v h = ap (λ (f : Found). held_by_of p v a (read_piece p v 0 [] f).rec.stamp f) (found_nowhere 0 h)

  pub held_some : (v : View) → (q ≡ never_place → ⊥) → held p v tb a ≡ some (held_cand p v a (place_record p v 0 q).stamp q)
  unfolding held lookup held_by_of read_piece stored_at
  held_some v h = ap (λ (f : Found). held_by_of p v a (read_piece p v 0 [] f).rec.stamp f) (found_here 0 h (is_in_empty (place_drive p q)))
