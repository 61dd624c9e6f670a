-- A restart reads no state: from any other state it leaves the same, but that a refusal keeps the state (01, Restart; Store count). Assumes nothing.
use Rattle.std.specs.Prelude.{ℕ, leb, length, Bool, ◌≡◌}
use Rattle.spec.specs.Host.{told_of, heard, lending, hears}
use Rattle.api_answers.specs.Hears.{hears_call}
use Rattle.spec.specs.declared.Told.{Told}
use Rattle.spec.specs.Host.{after}
use Rattle.spec.specs.declared.Done.{Done}
use Rattle.spec.specs.Answers.{kind, is_refused}
use Rattle.spec.specs.Calls.{first_refusal, Plan, decided, After, mk_after, cut_memory, limited, outcome}
use Rattle.spec.specs.Drives.{Disk, store_disk}
use Rattle.spec.specs.Engine.{store_count, lent_block, verdict, lent_ok_of, call_on, call_disk, Lent, lent_disk, lent_memory, call_bytes}
use Rattle.spec.specs.Engine.Call.{restart}
use Rattle.spec.specs.Lists.{Opt}
use Rattle.spec.specs.Lists.Opt.{none, some}
use Rattle.spec.specs.Memory.{mk_memory, state_len, state_bytes, state_of}
use Rattle.spec.specs.Params.{named}
use Rattle.spec.specs.Restart.{restart_checks, restart_plan, restart_verdict}
use Rattle.spec.specs.Segments.{segments}
use Rattle.spec.specs.declared.Answer.{Answer}
use Rattle.spec.specs.declared.Params.{Params}
use Rattle.spec.specs.declared.State.{State}
use Rattle.law_lent.specs.Shorts.{restart_keeps}
use Rattle.law_calls.specs.Refusals.{refusal_kind}
use Rattle.law_views.specs.Views.{seen}
use Rattle.std.proofs.Math.Bool.{true, false, cond}
use mathlib.Core.List.{List, []}
use Rattle.std.proofs.Math.Path.{refl, sym, ap}
use Rattle.std.proofs.Common.{◌∙◌}

-- what a call leaves, with another state where it is a refusal
abbrev keeping : State → After Disk → After Disk
keeping x r =
    mk_after r.answer r.drives (mk_memory (cond (is_refused r.answer) x r.memory.state) r.memory.addresses r.memory.compact r.memory.inflight) r.block

module _ (p : Params) (n : ℕ) (k : Disk) (x y : State) (ad co fl : List ℕ) (q : Plan) (h : is_refused q.answer ≡ false) where
  due_keeping : (t : Bool) → limited t p (store_disk p) n k (mk_memory x ad co fl) [] q ≡ keeping x (limited t p (store_disk p) n k (mk_memory y ad co fl) [] q)
  unfolding limited cut_memory is_refused kind
  due_keeping true =
      let r = limited true p (store_disk p) n k (mk_memory y ad co fl) [] q in
      ap (λ (t : Bool). mk_after r.answer r.drives (mk_memory (cond t x r.memory.state) r.memory.addresses r.memory.compact r.memory.inflight) r.block) (sym h)
  due_keeping false = refl

  outcome-keeping : (o : Opt Answer) → ((a : Answer) → o ≡ some a → is_refused a ≡ true)
      → outcome p (store_disk p) n k (mk_memory x ad co fl) [] (decided o q) ≡ keeping x (outcome p (store_disk p) n k (mk_memory y ad co fl) [] (decided o q))
  unfolding outcome decided
  outcome-keeping (some a) g = ap (λ (t : Bool). mk_after a k (mk_memory (cond t x y) ad co fl) []) (sym (g a refl))
  outcome-keeping none g = due_keeping (leb (length q.stores) n)

restart_keeping : (p : Params) (off : List ℕ) (k : Disk) (x y : State) (ad co fl : List ℕ) (d n : ℕ)
    → call_disk p off k (mk_memory x ad co fl) (restart d n) ≡ keeping x (call_disk p off k (mk_memory y ad co fl) (restart d n))
unfolding call_disk call_on store_count lent_block verdict restart_verdict restart_plan lent_ok_of is_refused kind
restart_keeping p off k x y ad co fl d n =
    let gs = segments p (seen p off k) (named d) in
    let cs = restart_checks p (lent_ok_of p off k (mk_memory x ad co fl)) (seen p off k) d gs in
    outcome-keeping p n k x y ad co fl (restart_plan p (seen p off k) d gs fl) refl (first_refusal cs) (refusal_kind cs)

same_bytes : (t : Bool) (s : List ℕ) (x y : State) → cond t s (state_bytes y) ≡ cond t s (state_bytes (cond t x y))
same_bytes true s x y = refl
same_bytes false s x y = refl

module _ (p : Params) (l : Lent) (missing n : ℕ) where
  -- a restart from any state y in place of the one that the bytes say
  pub hears_restart : length l.state ≡ state_len → (y : State) (d : Done) (im ps ad co st : List ℕ) (t : Told)
      → after d im ps ad co l.inflight [] ≡ call_disk p l.offline (lent_disk l) (mk_memory y l.addresses l.compact l.inflight) (restart missing n)
      → t ≡ told_of d.answer → st ≡ cond (is_refused d.answer) l.state (state_bytes d.state)
      → hears t (lending l.offline im ps ad co l.inflight st) [] ≡ heard (call_bytes p l (restart missing n))
  unfolding lent_memory
  hears_restart h y d im ps ad co st t e f g =
      let x = state_of l.state in
      let r = is_refused d.answer in
      let d' : Done = record { answer = d.answer; state = cond r x d.state } in
      let e' : after d' im ps ad co l.inflight [] ≡ call_disk p l.offline (lent_disk l) (lent_memory l) (restart missing n) =
      ap (keeping x) e ∙ sym (restart_keeping p l.offline (lent_disk l) x y l.addresses l.compact l.inflight missing n) in
      hears_call p l (restart missing n) [] h (restart_keeps p l.offline (lent_disk l) (lent_memory l) missing n) d' im ps ad co l.inflight st [] t e' f
      (g ∙ same_bytes r l.state x d.state)
