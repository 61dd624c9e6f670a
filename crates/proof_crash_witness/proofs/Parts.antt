-- The history evaluated, a part after the other, and the statement from it. Assumes nothing.
use mathlib.Core.Path.{◌≡◌, refl, sym, ap, ◌∙◌}
use mathlib.Core.List.{List, [], ◌∷◌, ◌++◌}
use mathlib.Core.Bool.{true}
use Prim.Native.Nat.{ℕ}
use Rattle.spec.specs.History.{began}
use Rattle.proof_crash_witness.specs.Table.{worn, dead, Line, disk, events_in, answers_in, reads_in, first_use, moved, sealed, drive_lost, drive_back, overwritten, reclaimed}
use Rattle.proof_crash_witness.specs.Table.{moved_again, table, history}
use Rattle.proof_crash_witness.specs.Witness.{Witness}
use Rattle.proof_crash_witness.proofs.Evaluation.{evaluated}
use Rattle.proof_crash_witness.proofs.Told.{Told, heard, tell, start, tell_answers, tell_reads, tell-allowed}
use Rattle.proof_crash_witness.proofs.Numbers.{told_numbers, told_from, told_from-told_numbers}

-- ---- parts of the history, each from what the one before came to

-- a list, and that it is the given one: in `mk_got (_ ∷ _) refl` the checker finds the list by computing, and keeps its numbers, so that the
-- next part computes nothing of this one again (only where x is a parameter; where the field's type names the call, a blank becomes a call)
pub record Got (x : List ℕ) : Type 0 where
  pub value : List ℕ
  pub same : value ≡ x

-- a list with that equation
abbrev pub mk_got : {x : List ℕ} → (v : List ℕ) → v ≡ x → Got x
mk_got v e = record { value = v; same = e }

-- what some lines of the table come to
abbrev Part : Told → List Line → Type 0
Part t ls = Got (told_numbers (tell worn dead t (events_in ls)))

-- the lines come to just that
came : (t : Told) (ls : List Line) (c : Part t ls) → tell worn dead t (events_in ls) ≡ told_from c.value
came t ls c = sym (ap told_from c.same ∙ told_from-told_numbers (tell worn dead t (events_in ls)))

-- lines after lines
tell_lines : (t : Told) (ls ms : List Line) → tell worn dead t (events_in (ls ++ ms)) ≡ tell worn dead (tell worn dead t (events_in ls)) (events_in ms)
unfolding events_in tell
tell_lines t [] ms = refl
tell_lines t (l ∷ ls) ms = tell_lines (heard worn dead t l.event) ls ms

-- some lines come to c, and others from there to u
then : (t : Told) (ls ms : List Line) (c : Part t ls) (u : Told) → tell worn dead (told_from c.value) (events_in ms) ≡ u → tell worn dead t (events_in (ls ++ ms)) ≡ u
then t ls ms c u q = tell_lines t ls ms ∙ ap (λ (s : Told). tell worn dead s (events_in ms)) (came t ls c) ∙ q

-- before any event
begin : Told
begin = start (began worn disk)

c1 : Part begin first_use
unfolding evaluated begin
c1 = mk_got (_ ∷ _) refl

c2 : Part (told_from c1.value) moved
unfolding evaluated c1
c2 = mk_got (_ ∷ _) refl

c3 : Part (told_from c2.value) sealed
unfolding evaluated c2
c3 = mk_got (_ ∷ _) refl

c4 : Part (told_from c3.value) drive_lost
unfolding evaluated c3
c4 = mk_got (_ ∷ _) refl

c5 : Part (told_from c4.value) drive_back
unfolding evaluated c4
c5 = mk_got (_ ∷ _) refl

c6 : Part (told_from c5.value) overwritten
unfolding evaluated c5
c6 = mk_got (_ ∷ _) refl

c7 : Part (told_from c6.value) reclaimed
unfolding evaluated c6
c7 = mk_got (_ ∷ _) refl

c8 : Part (told_from c7.value) moved_again
unfolding evaluated c7
c8 = mk_got (_ ∷ _) refl

-- ---- the whole history

-- all lines come to what the last part came to
in_the_end : tell worn dead begin history ≡ told_from c8.value
unfolding history table
in_the_end =
    then _ _ _ c1 _ (then _ _ _ c2 _ (then _ _ _ c3 _ (then _ _ _ c4 _ (then _ _ _ c5 _ (then _ _ _ c6 _ (then _ _ _ c7 _ (came _ _ c8)))))))

-- every event was allowed
fine : (told_from c8.value).fine ≡ true
unfolding evaluated c8
fine = refl

-- the answers are those of the table
answers : (told_from c8.value).answers ≡ answers_in table
unfolding evaluated c8
answers = refl

-- and so are the reads
reads : (told_from c8.value).reads ≡ reads_in table
unfolding evaluated c8
reads = refl

-- the statement
pub witness_holds : Witness
unfolding evaluated begin
witness_holds = record {
  in_range_holds = refl;
  list_fine = refl;
  empty = refl;
  premises = tell-allowed worn dead begin history (ap (λ (t : Told). t.fine) in_the_end ∙ fine);
  answers = sym (tell_answers worn dead begin history) ∙ ap (λ (t : Told). t.answers) in_the_end ∙ answers;
  reads = sym (tell_reads worn dead begin history) ∙ ap (λ (t : Told). t.reads) in_the_end ∙ reads;
}
