-- The events one after the other, with all that is told of them. Assumes nothing.
use mathlib.Core.Path.{◌≡◌, refl, sym, ◌∙◌}
use mathlib.Core.List.{List, [], ◌∷◌, ◌++◌, append-nil, append_assoc}
use mathlib.Core.Bool.{Bool, true, false, ◌&&◌}
use Prim.Native.Nat.{ℕ}
use Rattle.spec.specs.declared.Params.{Params}
use Rattle.spec.specs.Answers.{finished}
use Rattle.spec.specs.Demands.{Allowed}
use Rattle.spec.specs.History.{Event, happens, Hist, step, allowed}
use Rattle.proof_crash_witness.specs.Observed.{answer_numbers, restart_reads, answers_of, reads_of}

-- a history; whether each event so far was allowed; answers and reads so far
pub record Told : Type 0 where
  pub hist : Hist
  pub fine : Bool
  pub answers : List (List ℕ)
  pub reads : List (List ℕ)

abbrev pub mk_told : Hist → Bool → List (List ℕ) → List (List ℕ) → Told
mk_told h f xs rs = record { hist = h; fine = f; answers = xs; reads = rs }

-- before any event
unfoldable pub start : Hist → Told
start h = mk_told h true [] []

-- one event
unfoldable pub heard : Params → List ℕ → Told → Event → Told
heard p off t e =
    let h = t.hist in
    let r = (happens p off h.world e).answer in
    let h' = step p off h e in
    mk_told h' (t.fine && allowed p off h e) (t.answers ++ (answer_numbers r ∷ [])) (t.reads ++ restart_reads (finished r) p off h'.world)

-- the events one after the other
unfoldable pub tell : Params → List ℕ → Told → List Event → Told
tell p off t [] = t
tell p off t (e ∷ es) = tell p off (heard p off t e) es

-- ---- what is told is true

pub tell_answers : (p : Params) (off : List ℕ) (t : Told) (es : List Event) → (tell p off t es).answers ≡ t.answers ++ answers_of p off t.hist es
unfolding tell heard answers_of
tell_answers p off t [] = sym (append-nil t.answers)
tell_answers p off t (e ∷ es) = tell_answers p off (heard p off t e) es ∙ append_assoc t.answers _ (answers_of p off (step p off t.hist e) es)

pub tell_reads : (p : Params) (off : List ℕ) (t : Told) (es : List Event) → (tell p off t es).reads ≡ t.reads ++ reads_of p off t.hist es
unfolding tell heard reads_of
tell_reads p off t [] = sym (append-nil t.reads)
tell_reads p off t (e ∷ es) = tell_reads p off (heard p off t e) es ∙ append_assoc t.reads _ (reads_of p off (step p off t.hist e) es)

pub and_left : (a b : Bool) → (a && b) ≡ true → a ≡ true
and_left true b h = refl
and_left false b h = h

pub and_right : (a b : Bool) → (a && b) ≡ true → b ≡ true
and_right true b h = h
and_right false true h = refl
and_right false false h = h

-- where all is fine in the end, it was so before
tell-before : (p : Params) (off : List ℕ) (t : Told) (es : List Event) → (tell p off t es).fine ≡ true → t.fine ≡ true
unfolding tell heard
tell-before p off t [] h = h
tell-before p off t (e ∷ es) h = and_left t.fine (allowed p off t.hist e) (tell-before p off (heard p off t e) es h)

-- and each event is allowed
pub tell-allowed : (p : Params) (off : List ℕ) (t : Told) (es : List Event) → (tell p off t es).fine ≡ true → Allowed p off t.hist es
unfolding tell heard
tell-allowed p off t [] h = tt
tell-allowed p off t (e ∷ es) h =
    (and_right t.fine (allowed p off t.hist e) (tell-before p off (heard p off t e) es h), tell-allowed p off (heard p off t e) es h)
