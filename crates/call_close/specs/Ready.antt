-- What is so where no check of a closing holds (01, Closing; Refusals). Assumes nothing.
use Rattle.call_close.specs.Order.{close_refusal}
use Rattle.law_calls.specs.Slots.{filling-lt, filling_is, filling_room}
use Rattle.std.specs.Prelude.{◌≡◌, true, List, ℕ, ◌≤◌, ◌<◌, ltb, length}
use Rattle.std.proofs.Common.{sym, ap, ◌∙◌, subst, arith}
use Rattle.spec.specs.declared.Params.{Params}
use Rattle.spec.specs.declared.State.{State}
use Rattle.spec.specs.Drives.{Disk}
use Rattle.spec.specs.Engine.{lent_ok_of}
use Rattle.spec.specs.Lists.Opt.{none}
use Rattle.spec.specs.Memory.{Memory, filled_in_of, filling_slot, has_filling}
use Rattle.spec.specs.Params.{data_count, in_range, inflight_len}
use Rattle.call_filling.specs.Aims.{slot_is_filling}
use Rattle.law_views.specs.Views.{seen}
use Rattle.law_checks.specs.Passed.{close_passed}
use Rattle.call_write.specs.Ready.{lent_long_lem}

pub record CloseReady (p : Params) (off : List ℕ) (k : Disk) (m : Memory) : Type 0 where
  pub ranged : in_range p ≡ true
  pub inflight_long : length m.inflight ≡ inflight_len p
  pub filling : has_filling p m.state ≡ true

pub close_ready : (p : Params) (off : List ℕ) (k : Disk) (m : Memory) → close_refusal p off k m ≡ none → CloseReady p off k m
close_ready p off k m e =
    let c = close_passed p (lent_ok_of p off k m) (seen p off k) m e in
    record { ranged = c.in_range_holds; inflight_long = (lent_long_lem p off k m c.lent).4; filling = c.filling }

-- 01, Write: the filling stripe's eighth, and that it has positions left
module _ (p : Params) (st : State) (i : ℕ) (e : i ≡ filling_slot p st) (h : has_filling p st ≡ true) where
  pub slot_low : i < 8
  slot_low = subst (λ (x : ℕ). x < 8) (sym e) (filling-lt p st h)

  pub slot_open : filled_in_of st i ≤ data_count p
  slot_open =
      let q : filled_in_of st (filling_slot p st) < data_count p = filling_room p st (filling_slot p st) (filling_is p st (filling-lt p st h)) in
      subst (λ (x : ℕ). filled_in_of st x ≤ data_count p) (sym e) (omega (arith, q))

-- whether a stripe is filling
pub slot_is : (p : Params) (st : State) (i : ℕ) → i ≡ filling_slot p st → ltb i 8 ≡ has_filling p st
slot_is p st i e = ap (λ (x : ℕ). ltb x 8) e ∙ slot_is_filling p st
