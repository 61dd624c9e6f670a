-- Demand 1: from the verdict of a call, what it leaves for every store count; then the call with its own. Assumes nothing.
use Rattle.std.specs.Prelude.{◌≡◌, Bool, true, false, ◌⊎◌, ℕ, ◌≤◌, ◌<◌, length, take, replicate}
use Rattle.std.proofs.Math.Path.{refl, ap}
use Rattle.std.proofs.Common.{sym, ◌∙◌, subst, inl, inr, le_refl}
use mathlib.Core.List.{List, []}
use borrow.Author.Tests.{ne_eqb, leb-true}
use Rattle.std.proofs.Math.Decide.{dec_le}
use native.Mathlib.Omega.{arith}
use Rattle.spec.specs.declared.Params.{Params}
use Rattle.spec.specs.declared.Answer.{Answer}
use Rattle.spec.specs.declared.Answer.TheVariants.{Cut}
use Rattle.spec.specs.Answers.{kind, is_refused, is_cut_of}
use Rattle.spec.specs.Bytes.{to_le}
use Rattle.spec.specs.Calls.{Plan, Verdict, After, mk_after, cut_memory, outcome}
use Rattle.spec.specs.Calls.Verdict.{refused, due}
use Rattle.spec.specs.Drives.{Store, Disk, store_disk, store_all}
use Rattle.spec.specs.Engine.{Call, store_count, lent_block, verdict, Lent, Left, lent_disk, lent_memory, lent_all, left_by, lent_long, call_bytes}
use Rattle.spec.specs.Lists.{flat, total, is_member_of, zipped}
use Rattle.spec.specs.Memory.{Memory, idle_state, zero_state, state_sections, section_len, state_len, state_numbers, section_bytes, state_bytes}
use Rattle.law_basic.specs.Stores.{refused_same, done_all, cut_prefix}
use Rattle.spec_demands.specs.Answering.{results_of, can_store, refusals_of, refusal_number, Answers, with_count, cut_left, Due, Answered, Demand1}
use Rattle.spec_demands.specs.Answering.Answers.{result, cut, refusal}
use Rattle.law_drives.specs.Tests.{clash}
use Rattle.law_views.specs.Views.{seen}
use Rattle.proof_answers.specs.Verdicts.{VerdictSays, verdict_says, counted_on, own_count, result_high}
use Rattle.proof_answers.specs.Verdicts.VerdictSays.{says_no, says_yes}

-- 01, Store count: the state's bytes are all zeros
pub zero_state_lem : state_bytes zero_state ≡ replicate state_len 0
unfolding state_bytes zero_state idle_state state_sections section_len state_len state_numbers section_bytes flat total zipped to_le
zero_state_lem = refl

-- 01, Store count: the stores that are due by a verdict
unfoldable pub due_of : Verdict → List Store
due_of (refused a) = []
due_of (due q) = q.stores

module _ (p : Params) (l : Lent) (c : Call) where
  abbrev disk : Disk
  disk = lent_disk l

  abbrev memory : Memory
  memory = lent_memory l

  -- 01, Refusals, 2: the lengths of all that is lent
  abbrev pub long : Bool
  long = lent_long p l

  abbrev pub decided_by : Verdict
  decided_by = verdict p long (seen p l.offline disk) memory c

  left_is : (n : ℕ) (r : After Disk) → outcome p (store_disk p) n disk memory (lent_block c) decided_by ≡ r
      → call_bytes p l (with_count n c) ≡ left_by l r (is_refused r.answer)
  unfolding call_bytes
  left_is n r e = ap (λ (x : After Disk). left_by l x (is_refused x.answer)) (counted_on p l.offline long disk memory c n ∙ e)

  of_verdict : (n : ℕ) (w : Verdict) → decided_by ≡ w
      → outcome p (store_disk p) n disk memory (lent_block c) decided_by ≡ outcome p (store_disk p) n disk memory (lent_block c) w
  of_verdict n w e = ap (outcome p (store_disk p) n disk memory (lent_block c)) e

  -- ---- refused, cut, done

  left_refused : (a : Answer) → decided_by ≡ refused a → is_refused a ≡ true → (n : ℕ)
      → call_bytes p l (with_count n c) ≡ record { answer = a; lent = l; block = lent_block c }
  unfolding left_by
  left_refused a e h n =
      let r = mk_after a disk memory (lent_block c) in
      left_is n r (of_verdict n (refused a) e ∙ refused_same p (store_disk p) n disk memory (lent_block c) a) ∙ ap (left_by l r) h

  module _ (q : Plan) (e : decided_by ≡ due q) where
    left_cut : (n : ℕ) → n < length q.stores → call_bytes p l (with_count n c) ≡ cut_left p l c (take n q.stores)
    unfolding lent_memory lent_all left_by cut_left cut_memory is_refused kind
    left_cut n h =
        let k = store_all (store_disk p) (take n q.stores) disk in
        let r = mk_after Cut k (cut_memory p memory) (lent_block c) in
        left_is n r (of_verdict n (due q) e ∙ cut_prefix p (store_disk p) n disk memory (lent_block c) q h)
        ∙ ap (λ (s : List ℕ). record { answer = Cut; lent = lent_all l.offline k (cut_memory p memory) s; block = lent_block c }) zero_state_lem

    abbrev done_left : Left
    done_left = record {
      answer = q.answer;
      lent = lent_all l.offline (store_all (store_disk p) q.stores disk) q.memory (state_bytes q.memory.state);
      block = q.block;
    }

    left_done : is_refused q.answer ≡ false → (n : ℕ) → length q.stores ≤ n → call_bytes p l (with_count n c) ≡ done_left
    unfolding left_by
    left_done f n h =
        let r = mk_after q.answer (store_all (store_disk p) q.stores disk) q.memory q.block in
        left_is n r (of_verdict n (due q) e ∙ done_all p (store_disk p) n disk memory (lent_block c) q h) ∙ ap (left_by l r) f

  -- ---- the stores that are due

  disk_of : (k : Disk) (m : Memory) (s : List ℕ) → lent_disk (lent_all l.offline k m s) ≡ k
  unfolding lent_disk lent_all
  disk_of k m s = refl

  refused_due : (a : Answer) → decided_by ≡ refused a → is_refused a ≡ true → Due p l c []
  refused_due a e h = record {
    cuts = λ n g. absurd (let x : ⊥ = omega arith in x);
    makes = λ n g. ap (λ (x : Left). lent_disk x.lent) (left_refused a e h n) ∙ none;
    whole = λ n g. ap (λ (x : Left). is_cut_of x.answer) (left_refused a e h n) ∙ refused_whole a h;
    alike = λ n g. left_refused a e h n ∙ sym (left_refused a e h 0);
  }
    where
      none : disk ≡ store_all (store_disk p) [] disk
      none = unfold store_all in refl

      refused_whole : (a : Answer) → is_refused a ≡ true → is_cut_of a ≡ false
      refused_whole a h = unfold is_refused is_cut_of in (let g = leb-true (kind a) 1 h in ne_eqb (kind a) 2 (λ e. let x : ⊥ = omega arith in x))

  planned_due : (q : Plan) → decided_by ≡ due q → (is_refused q.answer ≡ false) × (is_cut_of q.answer ≡ false) → Due p l c q.stores
  planned_due q e (f, g) =
      let ss = q.stores in
      record {
        cuts = left_cut q e;
        makes = λ n h. ap (λ (x : Left). lent_disk x.lent) (left_done q e f n h) ∙ disk_of (store_all (store_disk p) ss disk) q.memory (state_bytes q.memory.state);
        whole = λ n h. ap (λ (x : Left). is_cut_of x.answer) (left_done q e f n h) ∙ g;
        alike = λ n h. left_done q e f n h ∙ sym (left_done q e f (length ss) (le_refl (length ss)));
      }

  pub decided_due : Due p l c (due_of decided_by)
  decided_due = go (verdict_says p long (seen p l.offline disk) memory c)
    where
      of : (w : Verdict) → decided_by ≡ w → Due p l c (due_of w) → Due p l c (due_of decided_by)
      of w e d = subst (λ (x : Verdict). Due p l c (due_of x)) (sym e) d

      go : VerdictSays c decided_by → Due p l c (due_of decided_by)
      go (says_no a e h i) = of (refused a) e (unfold due_of in refused_due a e h)
      go (says_yes q e i s) = of (due q) e (unfold due_of in planned_due q e (result_high c q.answer i))

  -- ---- the answer

  abbrev left : ℕ → Left
  left n = call_bytes p l (with_count n c)

  -- demand 1, of one call told n
  pub record AnsweredWell (n : ℕ) : Type 0 where
    pub answered : Answers c (left n).answer
    pub kept : is_refused (left n).answer ≡ true → ((left n).lent ≡ l) × ((left n).block ≡ lent_block c)

  kept_absurd : {X : Type 0} (n : ℕ) (x : Left) → left n ≡ x → is_refused x.answer ≡ false → is_refused (left n).answer ≡ true → X
  kept_absurd n x e f h = clash h (ap (λ (y : Left). is_refused y.answer) e ∙ f)

  good_refused : (a : Answer) → decided_by ≡ refused a → is_refused a ≡ true → is_member_of (refusal_number a) (refusals_of c) ≡ true → (n : ℕ) → AnsweredWell n
  good_refused a e h i n =
      let q = left_refused a e h n in
      record {
        answered = subst (λ (x : Left). Answers c x.answer) (sym q) (refusal h i);
        kept = λ _. (ap (λ (x : Left). x.lent) q, ap (λ (x : Left). x.block) q);
      }

  good_planned : (q : Plan) → decided_by ≡ due q → is_member_of (kind q.answer) (results_of c) ≡ true → (can_store c ≡ true) ⊎ (q.stores ≡ []) → (n : ℕ) → AnsweredWell n
  good_planned q e i s n = go (dec_le (length q.stores) n)
    where
      f : is_refused q.answer ≡ false
      f = (result_high c q.answer i).0

      can : n < length q.stores → (can_store c ≡ true) ⊎ (q.stores ≡ []) → can_store c ≡ true
      can h (inl x) = x
      can h (inr x) = let y : length q.stores ≡ 0 = ap length x in absurd (let z : ⊥ = omega arith in z)

      is_cut : is_cut_of Cut ≡ true
      is_cut = unfold is_cut_of kind in refl

      mild : is_refused Cut ≡ false
      mild = unfold is_refused kind in refl

      cut_answer : (ss : List Store) → (cut_left p l c ss).answer ≡ Cut
      cut_answer ss = unfold cut_left in refl

      go : Dec (length q.stores ≤ n) → AnsweredWell n
      go (yes h) =
          let d = left_done q e f n h in
          record { answered = subst (λ (x : Left). Answers c x.answer) (sym d) (result i); kept = kept_absurd n (done_left q e) d f }
      go (no h) =
          let g : n < length q.stores = omega arith in
          let x = cut_left p l c (take n q.stores) in
          let d = left_cut q e n g in
          let t = cut_answer (take n q.stores) in
          record {
            answered = subst (λ (y : Answer). Answers c y) (sym (ap (λ (y : Left). y.answer) d ∙ t)) (cut is_cut (can g s));
            kept = kept_absurd n x d (ap is_refused t ∙ mild);
          }

  good : (n : ℕ) → AnsweredWell n
  good n = go (verdict_says p long (seen p l.offline disk) memory c)
    where
      go : VerdictSays c decided_by → AnsweredWell n
      go (says_no a e h i) = good_refused a e h i n
      go (says_yes q e i s) = good_planned q e i s n

  pub answered_call : Answered p l c
  answered_call =
      let g = good (store_count c) in
      record {
        answers = subst (λ (x : Call). Answers c (call_bytes p l x).answer) (own_count c) g.answered;
        keeps = subst (λ (x : Call). is_refused (call_bytes p l x).answer ≡ true → ((call_bytes p l x).lent ≡ l) × ((call_bytes p l x).block ≡ lent_block c)) (own_count c) g.kept;
        stores = (due_of decided_by, decided_due);
      }

-- demand 1
pub demand_1 : Demand1
demand_1 p l c = answered_call p l c
