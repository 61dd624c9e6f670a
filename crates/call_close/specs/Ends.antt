-- What a closing leaves: refused, or done (01, Closing; Store count). Assumes nothing.
use Rattle.call_close.specs.Order.{close_refusal}
use Rattle.call_close.specs.Pads.{padded_row, padded_row_lem}
use Rattle.law_calls.specs.Refusals.{call_refused, call_done}
use Rattle.std.specs.Prelude.{◌≡◌, refl, ℕ, ◌-◌, ◌≤◌, ◌<◌}
use Rattle.std.proofs.Math.Path.{sym, ap}
use Rattle.std.proofs.Common.{◌∙◌, arith}
use mathlib.Core.List.{List, []}
use Rattle.spec.specs.declared.Params.{Params}
use Rattle.spec.specs.declared.State.{State}
use Rattle.spec.specs.declared.Answer.TheVariants.{Closed}
use Rattle.spec.specs.Answers.{kind, is_refused, is_cut_of}
use Rattle.spec.specs.Calls.{mk_after}
use Rattle.spec.specs.Closing.{padded, close_checks, close_plan, close_verdict}
use Rattle.spec.specs.Drives.{Disk, store_disk}
use Rattle.spec.specs.Engine.Call.{close}
use Rattle.spec.specs.Engine.{lent_ok_of, store_count, lent_block, verdict, call_on, call_disk}
use Rattle.spec.specs.Lists.Opt.{none, some}
use Rattle.spec.specs.Memory.{Memory, mk_memory, stripe_in, filled_in_of, filling_slot}
use Rattle.spec.specs.Params.{data_count}
use Rattle.spec.specs.Write.{Placed}
use Rattle.call_filling.specs.Entries.{PlacedRow}
use Rattle.law_basic.specs.Stores.{stores_nil}
use Rattle.mem_rows.specs.Refused.{refused_state}
use Rattle.mem_rows.specs.Rows.{RowsSized, slot_row, put_row, put_front, state_after, after_change, front_of, after_done, changed_row}
use Rattle.mem_rows.specs.declared.Change.{Change}
use Rattle.mem_rows.specs.declared.Front.{Front}
use Rattle.mem_rows.specs.declared.Row.{Row}
use Rattle.law_views.specs.Views.{seen}

-- 01, Closing: what it changes
abbrev pub closed_as : Front → ℕ → ℕ → Row → Change
closed_as f i s r = record { answer = Closed s; stamp = f.stamp; serial = f.serial; opened = f.opened; next = f.next; slot = i; row = r }

-- the eighth alone
closed_state : (st : State) (i s : ℕ) (r : Row) → i < 8 → state_after st (closed_as (front_of st) i s r) ≡ put_row st i r
unfolding is_refused is_cut_of kind put_front
closed_state st i s r h = after_done st (closed_as (front_of st) i s r) refl refl ∙ changed_row st (closed_as (front_of st) i s r) h

module _ (p : Params) (off : List ℕ) (k : Disk) (m : Memory) where
  -- 01, Store count: a refusal changes nothing
  pub close_refused : (c : Change) → close_refusal p off k m ≡ some c.answer → (n : ℕ)
      → after_change m.state c k.image k.pointers m.addresses m.compact m.inflight [] ≡ call_disk p off k m (close n)
  unfolding call_disk call_on store_count lent_block verdict close_verdict
  close_refused c e n =
      ap (λ (x : State). mk_after c.answer k (mk_memory x m.addresses m.compact m.inflight) []) (refused_state (close_checks p (lent_ok_of p off k m) (seen p off k) m) m.state c e)
      ∙ sym (call_refused p (store_disk p) n k m [] (close_refusal p off k m) (close_plan p m) c.answer e)

  -- 01, Closing: no store is due
  plan_done : close_refusal p off k m ≡ none → (q : Placed) → q ≡ padded p (filling_slot p m.state) (data_count p - filled_in_of m.state (filling_slot p m.state)) m.state m.inflight
      → (n : ℕ) → mk_after (Closed (stripe_in m.state (filling_slot p m.state))) k (mk_memory q.state m.addresses m.compact q.inflight) [] ≡ call_disk p off k m (close n)
  unfolding call_disk call_on store_count lent_block verdict close_verdict close_plan
  plan_done e q f n =
      ap (λ (x : Placed). mk_after (Closed (stripe_in m.state (filling_slot p m.state))) k (mk_memory x.state m.addresses m.compact x.inflight) []) f
      ∙ ap (λ (x : Disk). mk_after (close_plan p m).answer x (close_plan p m).memory []) (sym (stores_nil (store_disk p) n k))
      ∙ sym (call_done p (store_disk p) n k m [] (close_refusal p off k m) (close_plan p m) e (omega arith))

  module _ (none! : close_refusal p off k m ≡ none) (sized : RowsSized m.state) (h : filling_slot p m.state < 8) (few : data_count p ≤ 8)
      (room : filled_in_of m.state (filling_slot p m.state) ≤ data_count p) where
    abbrev at : ℕ
    at = filling_slot p m.state

    -- the stripe padded, from what its eighth says
    abbrev pads : Row → PlacedRow
    pads r = padded_row p at (data_count p - r.filled) r m.inflight

    row-pads :
        mk_after (Closed (slot_row m.state at).number) k
        (mk_memory (put_row m.state at (pads (slot_row m.state at)).row) m.addresses m.compact (pads (slot_row m.state at)).inflight) []
        ≡ mk_after (Closed (stripe_in m.state at)) k
        (mk_memory (padded p at (data_count p - filled_in_of m.state at) m.state m.inflight).state m.addresses m.compact
        (padded p at (data_count p - filled_in_of m.state at) m.state m.inflight).inflight) []
    unfolding slot_row
    row-pads =
        ap (λ (x : Placed). mk_after (Closed (stripe_in m.state at)) k (mk_memory x.state m.addresses m.compact x.inflight) [])
        (padded_row_lem p at (data_count p - filled_in_of m.state at) m.state m.inflight h sized (omega arith))

    pub close_done : (f : Front) → f ≡ front_of m.state → (i : ℕ) → i ≡ at → (r : Row) → r ≡ slot_row m.state i → (last : Row) (fl : List ℕ)
        → last ≡ (padded_row p i (data_count p - r.filled) r m.inflight).row → fl ≡ (padded_row p i (data_count p - r.filled) r m.inflight).inflight
        → (n : ℕ) → after_change m.state (closed_as f i r.number last) k.image k.pointers m.addresses m.compact fl [] ≡ call_disk p off k m (close n)
    close_done f ef i ei r er last fl el eg n =
        let st = m.state in
        let e : r ≡ slot_row st at = er ∙ ap (slot_row st) ei in
        let w : Row = slot_row st at in
        (λ j. after_change st
        (closed_as (ef j) (ei j) (e j).number ((el ∙ (λ x. (padded_row p (ei x) (data_count p - (e x).filled) (e x) m.inflight).row)) j)) k.image
        k.pointers m.addresses m.compact
        ((eg ∙ (λ x. (padded_row p (ei x) (data_count p - (e x).filled) (e x) m.inflight).inflight)) j) [])
        ∙ ap (λ (x : State). mk_after (Closed w.number) k (mk_memory x m.addresses m.compact (pads w).inflight) []) (closed_state st at w.number (pads w).row h)
        ∙ row-pads ∙ plan_done none! (padded p at (data_count p - filled_in_of st at) st m.inflight) refl n
