-- `copy_rules`: what is asked of the front and the aim is so of any state with that front; then the three rules. Assumes nothing.
-- what the tests say of a state with this front
use Rattle.spec.specs.Drives.{view_of}
use Rattle.spec.specs.Params.{image_len}
use Rattle.spec.specs.Write.{opens, no_serial, must_wait, scarce}
use Rattle.spec.specs.declared.State.{State}
use Rattle.call_filling.specs.Aims.{front_aim, front_serial, front_wait}
use Rattle.call_filling.specs.declared.Aim.{Aim}
use Rattle.call_reclaim.specs.Choosing.{rules_serial, rules_full, rules_wait, rules_pass}
use Rattle.mem_rows.specs.Rows.{front_of}
use lib.ListN.{length}
use Prim.Native.Nat.{ℕ}
use mathlib.Core.Bool.{false, ◌&&◌}
use mathlib.Core.List.{List}
use mathlib.Core.Path.{◌≡◌, sym, ap, ◌∙◌}
use Rattle.call_reclaim.proofs.copy_rules.Goals as goal
use Rattle.call_reclaim.proofs.copy_rules.Goals.{After-must_wait-wait, After-no_serial}

serial_is : (c : After-no_serial) (st : State) → c.args.f ≡ front_of st → no_serial c.args.p st ≡ c.no_serial.result
serial_is c st e =
    let a = c.args in
    sym (front_serial a.p st a.f e a.a (c.requires.pointers_len.2 ∙ front_aim a.p st a.f e)) ∙ sym c.no_serial.ensures

module _ (c : After-must_wait-wait) (st : State) where
  module _ (e : c.args.f ≡ front_of st) where
    -- 6 does not hold
    counted : no_serial c.args.p st ≡ false
    counted =
        let a = c.args in
        sym (front_serial a.p st a.f e a.a (c.requires.pointers_len.2 ∙ front_aim a.p st a.f e)) ∙ sym c.no_serial.ensures ∙ c.if-no_serial.false

    full_is : (im : List ℕ) → length im ≡ image_len c.args.p
        → (opens c.args.p st && scarce c.args.p (view_of c.args.p c.args.offline.now im c.args.pointers.now) 1) ≡ c.copy_full-full.result
    full_is im h =
        let a = c.args in
        ap (λ (x : Aim). x.opens && scarce a.p (view_of a.p a.offline.now im a.pointers.now) 1) (sym (c.requires.pointers_len.2 ∙ front_aim a.p st a.f e))
        ∙ sym (c.copy_full-full.ensures im h)

    wait_is : must_wait c.args.p st ≡ c.must_wait-wait.result
    wait_is = sym (front_wait c.args.p st c.args.f e) ∙ sym c.must_wait-wait.ensures

pub returns-then-no_serial : goal.returns-then-no_serial
returns-then-no_serial c =
    let a = c.args in
    λ st im e h. rules_serial a.p (view_of a.p a.offline.now im a.pointers.now) st (serial_is (goal.at.returns-then-no_serial c).After-no_serial st e ∙ c.if-no_serial.true)

pub copy_full-full-requires : goal.copy_full-full-requires
copy_full-full-requires c =
    let pre = c.requires in record { p_value = pre.p_value; pointers_len = (pre.pointers_len.0, pre.pointers_len.1) }

pub must_wait-wait-requires : goal.must_wait-wait-requires
must_wait-wait-requires c =
    let pre = c.requires in record { p_value = pre.p_value; a_value = pre.pointers_len.2 }

pub returns-then-full : goal.returns-then-full
returns-then-full c = λ st im e h.
    let w = (goal.at.returns-then-full c).After-must_wait-wait in
    let a = c.args in
    rules_full a.p (view_of a.p a.offline.now im a.pointers.now) st (counted w st e) (full_is w st e im h ∙ c.if-full.true)

pub returns-then-wait : goal.returns-then-wait
returns-then-wait c = λ st im e h.
    let w = (goal.at.returns-then-wait c).After-must_wait-wait in
    let a = c.args in
    rules_wait a.p (view_of a.p a.offline.now im a.pointers.now) st (counted w st e) (full_is w st e im h ∙ c.if-full.false) (wait_is w st e ∙ c.if-wait.true)

pub returns : goal.returns
returns c = λ st im e h.
    let w = (goal.at.returns c).After-must_wait-wait in
    let a = c.args in
    rules_pass a.p (view_of a.p a.offline.now im a.pointers.now) st (counted w st e) (full_is w st e im h ∙ c.if-full.false) (wait_is w st e ∙ c.if-wait.false)
