-- `room_checks`: what is asked of the front and the aim is so of the state that the bytes say; then the rules in order. Assumes nothing.
use Rattle.spec.specs.Drives.{mk_disk}
use Rattle.spec.specs.Memory.{mk_memory, state_of}
use Rattle.spec.specs.Params.{image_len}
use Rattle.spec.specs.Write.{no_stamp, no_serial, must_wait, scarce, write_full}
use Rattle.call_filling.specs.Aims.{front_stamp, front_wait, front_aim, front_serial}
use Rattle.call_filling.specs.declared.Aim.{Aim}
use Rattle.law_views.specs.Views.{seen}
use Rattle.call_write.specs.Order.{write_from, stamp_fails, write_serial_fails, counts_pass, write_zones_fail, write_zones_suffice, wait_fails, wait_passes, write_state_fails}
use Rattle.call_write.specs.Order.{write_state_passes}
use lib.ListN.{length}
use mathlib.Core.Bool.{cond, false}
use mathlib.Core.List.{List}
use mathlib.Core.Path.{◌≡◌, sym, ap, ◌∙◌}
use Prim.Native.Nat.{ℕ}
use Rattle.call_write.proofs.room_checks.Goals as goal
use Rattle.call_write.proofs.room_checks.Goals.{After-no_stamp, After-no_serial, After-must_wait-wait}

-- what the tests say of the state
stamp_is : (c : After-no_stamp) → no_stamp (state_of c.args.bytes.now) ≡ c.no_stamp.result
stamp_is c = sym (front_stamp c.args.p _ c.args.f c.requires.f_value.0) ∙ sym c.no_stamp.ensures

serial_is : (c : After-no_serial) → no_serial c.args.p (state_of c.args.bytes.now) ≡ c.no_serial.result
serial_is c = sym (front_serial c.args.p _ c.args.f c.requires.f_value.0 c.args.a c.requires.f_value.1) ∙ sym c.no_serial.ensures

module _ (c : After-must_wait-wait) where
  wait_is : must_wait c.args.p (state_of c.args.bytes.now) ≡ c.must_wait-wait.result
  wait_is = sym (front_wait c.args.p _ c.args.f c.requires.f_value.0) ∙ sym c.must_wait-wait.ensures

  full_is : (im : List ℕ) → length im ≡ image_len c.args.p
      → write_full c.args.p (seen c.args.p c.args.offline.now (mk_disk im c.args.pointers.now)) (state_of c.args.bytes.now) ≡ c.scarce-full.result
  full_is im h =
      ap (scarce c.args.p (seen c.args.p c.args.offline.now (mk_disk im c.args.pointers.now))) (ap (λ (x : Aim). cond x.opens 2 1) (sym c.requires.f_value.1) ∙ sym c.reserve-n.ensures.0)
      ∙ sym (c.scarce-full.ensures im h)

  -- 6 does not hold, and the checks go on with 8
  counted : (im ad co fl b : List ℕ) (x : ℕ) → let m = mk_memory (state_of c.args.bytes.now) ad co fl in
      write_from c.args.p c.args.offline.now (mk_disk im c.args.pointers.now) m x b 7 ≡ write_from c.args.p c.args.offline.now (mk_disk im c.args.pointers.now) m x b 6
  counted im ad co fl b x =
      counts_pass c.args.p c.args.offline.now (mk_disk im c.args.pointers.now) (mk_memory (state_of c.args.bytes.now) ad co fl) x b
      (sym (front_stamp c.args.p _ c.args.f c.requires.f_value.0) ∙ sym c.no_stamp.ensures ∙ c.if-no_stamp.false)
      (sym (front_serial c.args.p _ c.args.f c.requires.f_value.0 c.args.a c.requires.f_value.1) ∙ sym c.no_serial.ensures ∙ c.if-no_serial.false)

  -- nor do 8 and 7, and the checks go on with 9
  roomy : c.scarce-full.result ≡ false → c.must_wait-wait.result ≡ false → (im ad co fl b : List ℕ) (x : ℕ) → length im ≡ image_len c.args.p
      → let m = mk_memory (state_of c.args.bytes.now) ad co fl in
      write_from c.args.p c.args.offline.now (mk_disk im c.args.pointers.now) m x b 9 ≡ write_from c.args.p c.args.offline.now (mk_disk im c.args.pointers.now) m x b 6
  roomy e f im ad co fl b x h = wait_passes _ _ _ _ x b (wait_is ∙ f) ∙ write_zones_suffice _ _ _ _ x b (full_is im h ∙ e) ∙ counted im ad co fl b x

pub returns-then-no_stamp : goal.returns-then-no_stamp
returns-then-no_stamp c = λ im ad co fl b x h. stamp_fails _ _ _ _ x b (stamp_is (goal.at.returns-then-no_stamp c).After-no_stamp ∙ c.if-no_stamp.true)

pub returns-then-no_serial : goal.returns-then-no_serial
returns-then-no_serial c =
    let g = goal.at.returns-then-no_serial c in
    λ im ad co fl b x h. write_serial_fails _ _ _ _ x b (stamp_is g.After-no_stamp ∙ c.if-no_stamp.false) (serial_is g.After-no_serial ∙ c.if-no_serial.true)

pub must_wait-wait-requires-clause-a_value : goal.must_wait-wait-requires-clause-a_value
must_wait-wait-requires-clause-a_value c = c.requires.f_value.1 ∙ sym (front_aim c.args.p _ c.args.f c.requires.f_value.0)

pub returns-then-full : goal.returns-then-full
returns-then-full c = λ im ad co fl b x h.
    let g = (goal.at.returns-then-full c).After-must_wait-wait in
    write_zones_fail _ _ _ _ x b (full_is g im h ∙ c.if-full.true) ∙ counted g im ad co fl b x

pub returns-then-wait : goal.returns-then-wait
returns-then-wait c = λ im ad co fl b x h.
    let g = (goal.at.returns-then-wait c).After-must_wait-wait in
    wait_fails _ _ _ _ x b (wait_is g ∙ c.if-wait.true) ∙ write_zones_suffice _ _ _ _ x b (full_is g im h ∙ c.if-full.false) ∙ counted g im ad co fl b x

pub returns-then-not-state_ok : goal.returns-then-not-state_ok
returns-then-not-state_ok c = λ im ad co fl b x h.
    write_state_fails _ _ _ _ x b (sym c.state_ok.ensures ∙ c.if-not-state_ok.true)
    ∙ roomy (goal.at.returns-then-not-state_ok c).After-must_wait-wait c.if-full.false c.if-wait.false im ad co fl b x h

pub returns : goal.returns
returns c = λ im ad co fl b x h.
    write_state_passes _ _ _ _ x b (sym c.state_ok.ensures ∙ c.if-not-state_ok.false) ∙ roomy (goal.at.returns c).After-must_wait-wait c.if-full.false c.if-wait.false im ad co fl b x h
