-- What the reads leave: refused, or answered (01, Read; 02, item 2). Assumes nothing.
use Rattle.std.proofs.Math.Path.{◌≡◌, refl, sym, ap, subst}
use Rattle.std.proofs.Common.{◌∙◌, eq-eqb}
use mathlib.Core.List.{List, []}
use Rattle.std.specs.Prelude.{Bool, true, false, ◌&&◌, ℕ, ◌+◌, ◌≤◌, length, Result, Ok, Err}
use native.Mathlib.Omega.{arith}
use Rattle.std.proofs.Math.ListN.{replicate}
use Rattle.spec.specs.declared.Params.{Params}
use Rattle.spec.specs.declared.Stamp.{Stamp}
use Rattle.spec.specs.declared.Answer.{Answer}
use Rattle.spec.specs.declared.Answer.TheVariants.{Part, Never as NeverWritten, Lost, Filled}
use Rattle.spec.specs.Bytes.{part}
use Rattle.spec.specs.Calls.{first_refusal, decided, After, mk_after, outcome}
use Rattle.spec.specs.Counts.{a_stamp}
use Rattle.spec.specs.Drives.{Disk, store_disk}
use Rattle.spec.specs.Engine.Call.{read, fill}
use Rattle.spec.specs.Engine.{store_count, lent_block, verdict, lent_ok_of, call_on, call_disk}
use Rattle.spec.specs.Lists.{Opt}
use Rattle.spec.specs.Lists.Opt.{none, some}
use Rattle.spec.specs.Memory.{Memory}
use Rattle.spec.specs.Params.{in_range, unit_len, image_len, place_byte}
use Rattle.spec.specs.Read.Found.{nowhere, here, away}
use Rattle.spec.specs.Read.{Found, read_piece, read_answer_of, read_checks, read_plan, read_verdict, fill_plan, fill_verdict}
use Rattle.law_calls.specs.Refusals.{call_refused}
use Rattle.mem_calls.specs.Left.{answer_of, checked}
use Rattle.mem_calls.specs.declared.Refusal.{Refusal}
use Rattle.law_views.specs.Views.{seen}
use Rattle.call_read.specs.Decode.{lost_block}
use Rattle.call_read.specs.Order.{read_refusal, both_checks, found_at}
use Rattle.call_read.specs.Part.{part_not_refused}
use Rattle.call_read.specs.Placed.{placed_at, found-placed, held_at, found-held, place_in_image, place_bytes}
use Rattle.law_checks.specs.Reads.{read_after, fill_after}
use Rattle.call_read.specs.Ready.{read_ready, ready_passed}
use Rattle.call_read.specs.Sought.{Gives}
use Rattle.call_read.specs.declared.Sought.{Sought}
use Rattle.call_read.specs.declared.Sought.TheVariants.{Never, Here, Away}

-- 01, Read: what the first call answers
abbrev pub find_answer : Params → Result Sought Refusal → Answer
find_answer p (Err r) = answer_of r
find_answer p (Ok Never) = NeverWritten
find_answer p (Ok (Here q t)) = Part (place_byte p q.0) t
find_answer p (Ok (Away q t)) = Lost t

-- 01, Read: what the second call answers
abbrev pub fill_answer : Result Sought Refusal → Answer
fill_answer (Err r) = answer_of r
fill_answer (Ok Never) = Filled (a_stamp 0)
fill_answer (Ok (Here q t)) = Filled t
fill_answer (Ok (Away q t)) = Filled t

and-true : (b : Bool) → (b && true) ≡ b
and-true true = refl
and-true false = refl

module _ (p : Params) (off : List ℕ) (k : Disk) (m : Memory) (a : ℕ) where
  abbrev gone : ℕ
  gone = m.state.missing

  -- 01, Read: what was sought is what the checks leave
  abbrev pub SoughtBy : ℕ → Result Sought Refusal → List ℕ → Type 0
  SoughtBy n x bs = (checked x ≡ read_refusal p off k m a n) × Gives p k.image (seen p off k) gone m.compact (found_at p off k m a n) x bs

  -- 01, Read: the first call is lent no block; as one of B bytes it has its length
  read_is : outcome p (store_disk p) 0 k m [] (decided (read_refusal p off k m a p.B) (read_plan p (seen p off k) m a)) ≡ call_disk p off k m (read a)
  unfolding call_disk call_on store_count lent_block verdict read_verdict
  read_is =
      ap (λ (x : Bool). outcome p (store_disk p) 0 k m [] (decided (first_refusal (read_checks p x (seen p off k) m a)) (read_plan p (seen p off k) m a)))
      (ap (λ (x : Bool). lent_ok_of p off k m && x) (eq-eqb p.B p.B refl) ∙ and-true (lent_ok_of p off k m))

  read_refused : (r : Answer) → read_refusal p off k m a p.B ≡ some r → mk_after r k m [] ≡ call_disk p off k m (read a)
  read_refused r e = sym (call_refused p (store_disk p) 0 k m [] (read_refusal p off k m a p.B) (read_plan p (seen p off k) m a) r e) ∙ read_is

  read_done : (r : Answer) → read_refusal p off k m a p.B ≡ none → (t : ℕ) (f : Found) → t ≡ (read_piece p (seen p off k) gone m.compact (found_at p off k m a p.B)).rec.stamp
      → found_at p off k m a p.B ≡ f → r ≡ read_answer_of p t f → mk_after r k m [] ≡ call_disk p off k m (read a)
  read_done r e t f et ef q =
      ap (λ (x : Answer). mk_after x k m []) (q ∙ λ j. read_answer_of p (et j) (sym ef j)) ∙ sym (read_after p off k m a (ready_passed p off k m a p.B e))

  -- 01, Read: the first call, by what was sought
  pub find_left : (x : Result Sought Refusal) (bs : List ℕ) → SoughtBy p.B x bs → mk_after (find_answer p x) k m [] ≡ call_disk p off k m (read a)
  unfolding read_answer_of
  find_left (Err r) bs h = read_refused (answer_of r) (sym h.0)
  find_left (Ok Never) bs h = read_done NeverWritten (sym h.0) _ nowhere refl h.1 refl
  find_left (Ok (Here q t)) bs h = read_done (Part (place_byte p q.0) t) (sym h.0) t.0 (here q.0) h.1.1 h.1.0 refl
  find_left (Ok (Away q t)) bs h = read_done (Lost t) (sym h.0) t.0 (away q.0) h.1.1 h.1.0 refl

  -- 01, Read: a part lies within the image
  here_within : (at : ℕ) (s : Stamp) (t : ℕ) (f : Found) → placed_at p f → in_range p ≡ true → length k.image ≡ image_len p → read_answer_of p t f ≡ Part at s
      → at + p.B ≤ length k.image
  unfolding read_answer_of unit_len
  here_within at s t nowhere h ok l e = absurd (let z : ◌≡◌ {A = ℕ} 0 1 = cc in let w : ⊥ = omega arith in w)
  here_within at s t (here x) h ok l e =
      let q : place_byte p x ≡ at = cc in
      omega (arith, q, l, place_in_image p x ok h)
  here_within at s t (away x) h ok l e = absurd (let z : ◌≡◌ {A = ℕ} 0 1 = cc in let w : ⊥ = omega arith in w)

  pub part_within : (at : ℕ) (s : Stamp) → (call_disk p off k m (read a)).answer ≡ Part at s → at + p.B ≤ length k.image
  part_within at s q = go (read_refusal p off k m a p.B) refl
    where
      go : (x : Opt Answer) → read_refusal p off k m a p.B ≡ x → at + p.B ≤ length k.image
      go none e =
          let r = read_ready p off k m a p.B e in
          let f = found_at p off k m a p.B in
          let t = (read_piece p (seen p off k) gone m.compact f).rec.stamp in
          here_within at s t f (found-placed p (seen p off k) gone f r.faultless) r.ranged r.whole.image_long
          (ap (λ (y : After Disk). y.answer) (read_done (read_answer_of p t f) e t f refl refl refl) ∙ q)
      go (some r) e =
          absurd (part_not_refused (both_checks p off k m a p.B) at s (e ∙ ap some (ap (λ (y : After Disk). y.answer) (read_refused r e) ∙ q)))

  module _ (b : List ℕ) where
    fill_is : outcome p (store_disk p) 0 k m b (decided (read_refusal p off k m a (length b)) (fill_plan p (seen p off k) m a)) ≡ call_disk p off k m (fill a b)
    unfolding call_disk call_on store_count lent_block verdict fill_verdict
    fill_is = refl

    fill_refused : (r : Answer) → read_refusal p off k m a (length b) ≡ some r → mk_after r k m b ≡ call_disk p off k m (fill a b)
    fill_refused r e = sym (call_refused p (store_disk p) 0 k m b (read_refusal p off k m a (length b)) (fill_plan p (seen p off k) m a) r e) ∙ fill_is

    fill_done : (t : Stamp) (b' : List ℕ) → read_refusal p off k m a (length b) ≡ none → t.0 ≡ (read_piece p (seen p off k) gone m.compact (found_at p off k m a (length b))).rec.stamp
        → b' ≡ (read_piece p (seen p off k) gone m.compact (found_at p off k m a (length b))).block → mk_after (Filled t) k m b' ≡ call_disk p off k m (fill a b)
    fill_done t b' e et eb =
        (λ j. mk_after (Filled (a_stamp (et j))) k m (eb j)) ∙ sym (fill_after p off k m a (ready_passed p off k m a (length b) e) b (read_ready p off k m a (length b) e).block_long)

    -- 01, Read: zeros, a copy or the decoded block; a refusal leaves it as it came
    abbrev pub Fills : Result Sought Refusal → List ℕ → List ℕ → Type 0
    Fills (Err r) bs b' = b' ≡ b
    Fills (Ok Never) bs b' = b' ≡ replicate (length b) 0
    Fills (Ok (Here q t)) bs b' = b' ≡ part (place_byte p q.0) p.B k.image
    Fills (Ok (Away q t)) bs b' = b' ≡ lost_block p k.image gone q.0 bs

    -- 01, Read: the second call, by what was sought
    pub fill_left : (x : Result Sought Refusal) (bs b' : List ℕ) → SoughtBy (length b) x bs → Fills x bs b' → mk_after (fill_answer x) k m b' ≡ call_disk p off k m (fill a b)
    unfolding read_piece
    fill_left (Err r) bs b' h e = ap (mk_after (answer_of r) k m) e ∙ fill_refused (answer_of r) (sym h.0)
    fill_left (Ok Never) bs b' h e =
        let r = read_ready p off k m a (length b) (sym h.0) in
        let f : nowhere ≡ found_at p off k m a (length b) = sym h.1 in
        fill_done (a_stamp 0) b' (sym h.0) (ap (λ (y : Found). (read_piece p (seen p off k) gone m.compact y).rec.stamp) f)
        (e ∙ ap (λ (n : ℕ). replicate n 0) r.block_long ∙ ap (λ (y : Found). (read_piece p (seen p off k) gone m.compact y).block) f)
    fill_left (Ok (Here q t)) bs b' h e =
        let r = read_ready p off k m a (length b) (sym h.0) in
        let d = subst (placed_at p) h.1.0 (found-placed p (seen p off k) gone (found_at p off k m a (length b)) r.faultless) in
        let is = subst (held_at p (seen p off k) gone) h.1.0 (found-held p (seen p off k) gone (found_at p off k m a (length b)) r.faultless) in
        fill_done t b' (sym h.0) h.1.1
        (e ∙ place_bytes p q.0 r.ranged d off k gone m.compact r.whole is ∙ ap (λ (y : Found). (read_piece p (seen p off k) gone m.compact y).block) (sym h.1.0))
    fill_left (Ok (Away q t)) bs b' h e = fill_done t b' (sym h.0) h.1.1 (e ∙ sym h.1.2.decoded)
