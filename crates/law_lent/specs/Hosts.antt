-- A call of the host, with the state as bytes, from the call on the decoded state (01, The array; Store count). Assumes nothing.
use Rattle.std.specs.Prelude.{ℕ, leb, length, Bool, true, cond, ◌&&◌, List, ◌≡◌, refl}
use Rattle.spec.specs.Answers.{kind, is_refused}
use Rattle.spec.specs.Calls.{Plan, decided, After, mk_after, limited, outcome}
use Rattle.spec.specs.Drives.{Store, Disk}
use Rattle.spec.specs.Engine.{Call, lent_ok_of, call_on, call_disk, Lent, Left, lent_disk, lent_memory, lent_all, left_by, call_bytes}
use Rattle.spec.specs.Lists.{Opt}
use Rattle.spec.specs.Lists.Opt.{none, some}
use Rattle.spec.specs.Memory.{Memory, state_len, state_bytes}
use Rattle.spec.specs.declared.Answer.{Answer}
use Rattle.spec.specs.declared.Answer.TheVariants.{Cut}
use Rattle.spec.specs.declared.Params.{Params}
use Rattle.law_basic.specs.Ranges.{not_both}
use Rattle.std.proofs.Common.{eq-eqb, ne_eqb, sym, ◌∙◌}
use Rattle.std.proofs.Math.Dec.{eqb}
use Rattle.std.proofs.Math.Bool.{false, and-false, and-true}
use Rattle.std.proofs.Math.Path.{ap}

-- 01, Store count: a refusal changes nothing, where the plan's own answer is none
pub refused_keeps : {D : Type 0} (p : Params) (f : Store → D → D) (n : ℕ) (d : D) (m : Memory) (b : List ℕ) (r : Opt Answer) (q : Plan) → is_refused q.answer ≡ false
    → is_refused (outcome p f n d m b (decided r q)).answer ≡ true → outcome p f n d m b (decided r q) ≡ mk_after (outcome p f n d m b (decided r q)).answer d m b
unfolding outcome decided limited is_refused kind
refused_keeps p f n d m b (some a) q h e = refl
refused_keeps {D} p f n d m b none q h e = absurd (go (leb (length q.stores) n) e)
  where
    go : (t : Bool) → is_refused (limited t p f n d m b q).answer ≡ true → ⊥
    go true g = not_both (is_refused q.answer) g h
    go false g = not_both (is_refused Cut) g refl

-- what the code leaves of the call on the decoded state: the state's bytes are encoded anew unless t says that it is refused
abbrev encoded : Lent → After Disk → Bool → Left
encoded l x t = record { answer = x.answer; lent = lent_all l.offline x.drives x.memory (cond t l.state (state_bytes x.memory.state)); block = x.block }

encoded_left : (l : Lent) (x : After Disk) (b : List ℕ) (t : Bool) → (t ≡ true → x ≡ mk_after x.answer (lent_disk l) (lent_memory l) b) → encoded l x t ≡ left_by l x t
unfolding left_by lent_all lent_disk lent_memory
encoded_left l x b false h = refl
encoded_left l x b true h = ap (λ (y : After Disk). record { answer = x.answer; lent = lent_all l.offline y.drives y.memory l.state; block = x.block }) (h refl)

module _ (p : Params) (l : Lent) (c : Call) where
  -- the lent buffers before the call
  abbrev off : List ℕ
  off = l.offline

  abbrev disk : Disk
  disk = lent_disk l

  abbrev memory : Memory
  memory = lent_memory l

  -- the state's bytes have their length: the call is that on the decoded state
  pub bytes_long : length l.state ≡ state_len → call_bytes p l c ≡ left_by l (call_disk p off disk memory c) (is_refused (call_disk p off disk memory c).answer)
  unfolding call_bytes call_disk
  bytes_long h =
      let long = lent_ok_of p off disk memory in
      let e : (long && eqb (length l.state) state_len) ≡ long = ap (λ (x : Bool). long && x) (eq-eqb (length l.state) state_len h) ∙ and-true long in
      ap (λ (x : Bool). left_by l (call_on p off x disk memory c) (is_refused (call_on p off x disk memory c).answer)) e

  -- another length: refused, as with any other buffer
  pub bytes_short : (length l.state ≡ state_len → ⊥) → (a : Answer) (b : List ℕ) → is_refused a ≡ true → call_on p off false disk memory c ≡ mk_after a disk memory b
      → record { answer = a; lent = l; block = b } ≡ call_bytes p l c
  unfolding call_bytes left_by
  bytes_short h a b r e =
      let long = lent_ok_of p off disk memory in
      let f : (long && eqb (length l.state) state_len) ≡ false = ap (λ (x : Bool). long && x) (ne_eqb (length l.state) state_len h) ∙ and-false long in
      ap (λ (x : Bool). left_by l (mk_after a disk memory b) x) (sym r)
      ∙ ap (λ (x : After Disk). left_by l x (is_refused x.answer)) (sym e)
      ∙ ap (λ (x : Bool). left_by l (call_on p off x disk memory c) (is_refused (call_on p off x disk memory c).answer)) (sym f)

  -- what the code leaves: r of the call on the decoded state, and the state's bytes encoded anew unless it is refused
  pub bytes_left : length l.state ≡ state_len → (b : List ℕ)
      → (is_refused (call_disk p off disk memory c).answer ≡ true → call_disk p off disk memory c ≡ mk_after (call_disk p off disk memory c).answer disk memory b)
      → (r : After Disk) → r ≡ call_disk p off disk memory c
      → (s : List ℕ) → s ≡ cond (is_refused r.answer) l.state (state_bytes r.memory.state)
      → record { answer = r.answer; lent = lent_all l.offline r.drives r.memory s; block = r.block } ≡ call_bytes p l c
  bytes_left h b kept r e s t =
      let x = call_disk p off disk memory c in
      ap (λ (y : List ℕ). record { answer = r.answer; lent = lent_all l.offline r.drives r.memory y; block = r.block }) t
      ∙ ap (λ (y : After Disk). encoded l y (is_refused y.answer)) e
      ∙ encoded_left l x b (is_refused x.answer) kept ∙ sym (bytes_long h)
