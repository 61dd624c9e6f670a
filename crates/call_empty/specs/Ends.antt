-- What a write of no bytes leaves: refused, as a closing, or nothing (02, item 1; 01, Store count). Assumes nothing.
use Rattle.std.specs.Prelude.{◌≡◌, true, false, ℕ, ◌<◌, length}
use Rattle.std.proofs.Math.Path.{refl, sym, ap}
use Rattle.std.proofs.Common.{◌∙◌, arith}
use mathlib.Core.List.{List, [], ◌∷◌}
use Rattle.std.proofs.lemmas.Bool.{lt-leb}
use Rattle.spec.specs.declared.Params.{Params}
use Rattle.spec.specs.declared.State.{State}
use Rattle.spec.specs.declared.Answer.TheVariants.{Nothing}
use Rattle.spec.specs.Answers.{kind, is_refused, is_cut_of}
use Rattle.spec.specs.Calls.{mk_after, outcome}
use Rattle.spec.specs.Closing.{empty_checks, empty_plan, empty_verdict}
use Rattle.spec.specs.Drives.{Disk, store_disk}
use Rattle.spec.specs.Engine.Call.{write, close}
use Rattle.spec.specs.Engine.{lent_ok_of, store_count, lent_block, verdict, call_on, call_disk}
use Rattle.spec.specs.Lists.{is_nil}
use Rattle.spec.specs.Lists.Opt.{none, some}
use Rattle.spec.specs.Memory.{Memory, mk_memory, has_filling}
use Rattle.law_basic.specs.Ranges.{not_both}
use Rattle.law_calls.specs.Refusals.{call_refused}
use Rattle.law_checks.specs.Empty.{empty_closes, EmptyLeaves, empty_leaves}
use Rattle.law_checks.specs.Empty.EmptyLeaves.{as_close, as_refusal, as_idle}
use Rattle.law_views.specs.Views.{seen}
use Rattle.mem_rows.specs.Refused.{refused_state}
use Rattle.mem_rows.specs.Rows.{state_after, after_change, front_of, kept_as, after_done, changed_none}
use Rattle.mem_rows.specs.declared.Change.{Change}
use Rattle.call_empty.specs.Order.{empty_refusal}

module _ (p : Params) (off : List ℕ) (k : Disk) (m : Memory) (a n : ℕ) where
  -- 01, Store count: a refusal changes nothing
  pub empty_refused : (c : Change) → empty_refusal p off k m a ≡ some c.answer
      → after_change m.state c k.image k.pointers m.addresses m.compact m.inflight [] ≡ call_disk p off k m (write a [] n)
  unfolding call_disk call_on store_count lent_block verdict empty_verdict
  empty_refused c e =
      ap (λ (x : State). mk_after c.answer k (mk_memory x m.addresses m.compact m.inflight) []) (refused_state (empty_checks p (lent_ok_of p off k m) (seen p off k) m a) m.state c e)
      ∙ sym (call_refused p (store_disk p) n k m [] (empty_refusal p off k m a) (empty_plan p m) c.answer e)

  -- 02, item 1: where a stripe is filling it is the closing
  pub empty_as_close : has_filling p m.state ≡ true → a < p.L → call_disk p off k m (close n) ≡ call_disk p off k m (write a [] n)
  unfolding call_disk call_on store_count lent_block verdict
  empty_as_close h l = sym (ap (outcome p (store_disk p) n k m []) (empty_closes p (lent_ok_of p off k m) (seen p off k) m a h (lt-leb p.L a l)))

  -- the state stays
  nothing_state : state_after m.state (kept_as Nothing (front_of m.state)) ≡ m.state
  unfolding is_refused is_cut_of kind
  nothing_state = after_done m.state (kept_as Nothing (front_of m.state)) refl refl ∙ changed_none m.state Nothing

  -- 02, item 1: where none is, nothing is done
  pub empty_nothing : empty_refusal p off k m a ≡ none → has_filling p m.state ≡ false → (c : Change) → c ≡ kept_as Nothing (front_of m.state)
      → after_change m.state c k.image k.pointers m.addresses m.compact m.inflight [] ≡ call_disk p off k m (write a [] n)
  empty_nothing e h c q =
      ap (λ (x : Change). after_change m.state x k.image k.pointers m.addresses m.compact m.inflight []) q
      ∙ ap (λ (x : State). mk_after Nothing k (mk_memory x m.addresses m.compact m.inflight) []) nothing_state ∙ go (empty_leaves p off k m a n)
    where
      go : EmptyLeaves p off k m a n → mk_after Nothing k m [] ≡ call_disk p off k m (write a [] n)
      go (as_close t l f) = absurd (not_both (has_filling p m.state) t h)
      go (as_refusal r t f) = absurd (let s : some r ≡ none = sym t ∙ e in let z : ◌≡◌ {A = ℕ} 0 1 = cc in let y : ⊥ = omega arith in y)
      go (as_idle t l f) = sym f

  -- a block of length 0 has no bytes
  pub empty_block : (b : List ℕ) → length b ≡ 0 → (c : Change) (fl : List ℕ)
      → after_change m.state c k.image k.pointers m.addresses m.compact fl [] ≡ call_disk p off k m (write a [] n)
      → after_change m.state c k.image k.pointers m.addresses m.compact fl b ≡ call_disk p off k m (write a b n)
  empty_block [] e c fl q = q
  empty_block (x ∷ b) e c fl q = absurd (let z : ⊥ = omega arith in z)

-- a block of another length has some
pub some_bytes : (b : List ℕ) → (length b ≡ 0 → ⊥) → is_nil b ≡ false
unfolding is_nil
some_bytes [] f = absurd (f refl)
some_bytes (x ∷ b) f = refl
