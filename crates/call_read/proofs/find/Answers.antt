-- `find`: what `seek` leaves, by its variants, is the first call's answer (`find_left`). Assumes nothing.
use Rattle.spec.specs.declared.Answer.TheVariants.{Part}
use Rattle.spec.specs.Calls.{mk_after}
use Rattle.spec.specs.Drives.{Disk, mk_disk}
use Rattle.spec.specs.Engine.{call_disk}
use Rattle.spec.specs.Engine.Call.{read}
use Rattle.spec.specs.Memory.{Memory, mk_memory, state_of}
use Rattle.call_read.specs.Ends.{find_answer, find_left}
use Rattle.call_read.specs.Ready.{read_ready}
use Rattle.mem_calls.specs.Left.{checked}
use Rattle.mem_calls.specs.declared.Refusal.{Refusal}
use Rattle.call_read.specs.declared.Sought.{Sought}
use Rattle.spec.specs.declared.Answer.{Answer}
use Rattle.std.specs.Prelude.{Result, Ok}
use Prim.Native.Nat.{ℕ}
use mathlib.Core.List.{[]}
use mathlib.Core.Path.{◌≡◌, sym, ap, ◌∙◌}
use Rattle.call_read.proofs.find.Goals as goal
use Rattle.call_read.proofs.find.Goals.{After-seek-sought}

-- what was sought, by the arm's variant
sought_is : {r : Result Sought Refusal} {y z : Sought} → r ≡ Ok y → y ≡ z → r ≡ Ok z
sought_is e f = e ∙ ap (λ (x : Sought). Ok x) f

module _ (c : After-seek-sought) where
  abbrev disk : Disk
  disk = mk_disk c.args.image.now c.args.pointers.now

  abbrev memory : Memory
  memory = mk_memory (state_of c.args.state.now) c.args.addresses.now c.args.compact.now c.args.inflight.now

  -- the answer of what was sought
  left : (x : Result Sought Refusal) → c.seek-sought.result ≡ x
      → mk_after (find_answer c.args.p x) disk memory [] ≡ call_disk c.args.p c.args.offline.now disk memory (read c.args.address.0)
  left x e =
      ap (λ (y : Result Sought Refusal). mk_after (find_answer c.args.p y) disk memory []) (sym e)
      ∙ find_left _ _ _ _ _ c.seek-sought.result c.seek-sought.new.bytes (c.seek-sought.ensures.result_value, c.seek-sought.ensures.gives)

pub place_byte-requires : goal.place_byte-requires
place_byte-requires c =
    (read_ready _ _ _ _ _ _ (sym c.seek-sought.ensures.result_value ∙ ap checked (sought_is c.in-Ok-Here.is (rw c.in-Ok-Here.is at c.in-Ok-Here.field-0-is)))).ranged

pub returns-in-Err : goal.returns-in-Err
returns-in-Err c =
    let q = (goal.at.returns-in-Err c).After-seek-sought in
    ap (λ (x : Answer). mk_after x (disk q) (memory q) []) c.from.ensures ∙ left q _ c.in-Err.is

pub returns-in-Ok-Never : goal.returns-in-Ok-Never
returns-in-Ok-Never c = left (goal.at.returns-in-Ok-Never c).After-seek-sought _ (sought_is c.in-Ok-Never.is (rw c.in-Ok-Never.is at c.in-Ok-Never.field-0-is))

pub returns-in-Ok-Here : goal.returns-in-Ok-Here
returns-in-Ok-Here c =
    let q = (goal.at.returns-in-Ok-Here c).After-seek-sought in
    ap (λ (n : ℕ). mk_after (Part n c.in-Ok-Here.t) (disk q) (memory q) []) c.place_byte.ensures.0
    ∙ left q _ (sought_is c.in-Ok-Here.is (rw c.in-Ok-Here.is at c.in-Ok-Here.field-0-is))

pub returns-in-Ok-Away : goal.returns-in-Ok-Away
returns-in-Ok-Away c = left (goal.at.returns-in-Ok-Away c).After-seek-sought _ (sought_is c.in-Ok-Away.is (rw c.in-Ok-Away.is at c.in-Ok-Away.field-0-is))
