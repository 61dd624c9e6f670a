-- What the two reads give where their checks pass: block and record of where the address lies, the stamp by both (01, Read; How tightly, 4; 02, item 2). Assumes nothing.
use Rattle.std.specs.Prelude.{◌≡◌, refl, ◌&&◌, ℕ, length, replicate}
use Rattle.std.proofs.Math.Path.{ap, ap₂}
use Rattle.std.proofs.Common.{◌∙◌, eq-eqb, arith}
use mathlib.Core.List.{List, []}
use Rattle.std.proofs.Math.Dec.{eqb}
use Rattle.std.proofs.lemmas.List.{length-replicate}
use Rattle.spec.specs.declared.Params.{Params}
use Rattle.spec.specs.declared.Answer.TheVariants.{Filled}
use Rattle.spec.specs.Answers.{kind, values, stamp_told, is_refused}
use Rattle.spec.specs.Calls.{first_refusal, After, mk_after}
use Rattle.spec.specs.Counts.{a_stamp}
use Rattle.spec.specs.Drives.{Disk, store_disk}
use Rattle.spec.specs.Engine.{store_count, lent_block, verdict, lent_ok_of, call_on, call_disk}
use Rattle.spec.specs.Engine.Call.{read, fill}
use Rattle.spec.specs.History.{mk_world, Seen, seen_by, seen_at}
use Rattle.spec.specs.History.Seen.{unwritten, got}
use Rattle.spec.specs.Memory.{Memory}
use Rattle.spec.specs.Parity.{Piece}
use Rattle.spec.specs.Read.{Found, read_piece, lookup, read_answer_of, read_checks, read_plan, read_verdict, fill_plan, fill_verdict}
use Rattle.spec.specs.Read.Found.{nowhere, here, away}
use Rattle.law_basic.specs.Ranges.{and_both}
use Rattle.law_basic.specs.Stores.{stores_nil}
use Rattle.law_calls.specs.Refusals.{call_done}
use Rattle.law_views.specs.Views.{seen}
use Rattle.law_checks.specs.Passed.{found_in_of, ReadPassed, passed_too, read_goes}

-- block and record that the reads find at f
abbrev pub piece_in : Params → List ℕ → Disk → Memory → Found → Piece
piece_in p off k m f = read_piece p (seen p off k) m.state.missing m.compact f

-- what the two reads show of it
abbrev pub shown_both : Params → Piece → Found → Seen
shown_both p q f = seen_by (read_answer_of p q.rec.stamp f) (Filled (a_stamp q.rec.stamp)) q.block

module _ (p : Params) (off : List ℕ) (k : Disk) (m : Memory) (a : ℕ) (c : ReadPassed p (lent_ok_of p off k m) (seen p off k) m a) where
  abbrev piece : Piece
  piece = piece_in p off k m (found_in_of p m a)

  pub read_after : call_disk p off k m (read a) ≡ mk_after (read_answer_of p piece.rec.stamp (found_in_of p m a)) k m []
  unfolding call_disk call_on verdict store_count lent_block read_verdict read_plan lookup
  read_after =
      call_done p (store_disk p) 0 k m [] (first_refusal (read_checks p (lent_ok_of p off k m) (seen p off k) m a)) (read_plan p (seen p off k) m a)
      (read_goes p (lent_ok_of p off k m) (seen p off k) m a c) (omega arith)
      ∙ ap (λ (x : Disk). mk_after (read_plan p (seen p off k) m a).answer x m []) (stores_nil (store_disk p) 0 k)

  pub fill_after : (l : List ℕ) → length l ≡ p.B → call_disk p off k m (fill a l) ≡ mk_after (Filled (a_stamp piece.rec.stamp)) k m piece.block
  unfolding call_disk call_on verdict store_count lent_block fill_verdict fill_plan lookup
  fill_after l e =
      let long = lent_ok_of p off k m && eqb (length l) p.B in
      call_done p (store_disk p) 0 k m l (first_refusal (read_checks p long (seen p off k) m a)) (fill_plan p (seen p off k) m a)
      (read_goes p long (seen p off k) m a (passed_too p (lent_ok_of p off k m) long (seen p off k) m a
      (and_both (lent_ok_of p off k m) (eqb (length l) p.B) c.lent (eq-eqb (length l) p.B e)) c)) (omega arith)
      ∙ ap (λ (x : Disk). mk_after (Filled (a_stamp piece.rec.stamp)) x m piece.block) (stores_nil (store_disk p) 0 k)

  seen-found : seen_at p off (mk_world k m) a ≡ shown_both p piece (found_in_of p m a)
  unfolding seen_at
  seen-found =
      ap₂ (λ (x y : After Disk). seen_by x.answer y.answer y.block) read_after (fill_after (replicate p.B 0) (length-replicate p.B 0))

  -- where it lies
  module _ (f : Found) (e : found_in_of p m a ≡ f) where
    seen-at : seen_at p off (mk_world k m) a ≡ shown_both p (piece_in p off k m f) f
    seen-at = seen-found ∙ ap (λ (x : Found). shown_both p (piece_in p off k m x) x) e

  pub seen_never : found_in_of p m a ≡ nowhere → seen_at p off (mk_world k m) a ≡ unwritten
  unfolding seen_by is_refused stamp_told read_answer_of kind values read_piece
  seen_never e = seen-at nowhere e

  pub seen_here : (q : ℕ) → found_in_of p m a ≡ here q → seen_at p off (mk_world k m) a ≡ got (piece_in p off k m (here q)).block (piece_in p off k m (here q)).rec.stamp
  unfolding seen_by is_refused stamp_told read_answer_of kind values
  seen_here q e = seen-at (here q) e ∙ rw (eq-eqb (piece_in p off k m (here q)).rec.stamp (piece_in p off k m (here q)).rec.stamp refl)

  pub seen_away : (q : ℕ) → found_in_of p m a ≡ away q → seen_at p off (mk_world k m) a ≡ got (piece_in p off k m (away q)).block (piece_in p off k m (away q)).rec.stamp
  unfolding seen_by is_refused stamp_told read_answer_of kind values
  seen_away q e = seen-at (away q) e ∙ rw (eq-eqb (piece_in p off k m (away q)).rec.stamp (piece_in p off k m (away q)).rec.stamp refl)
