-- `fill`: what `seek` leaves, by its variants, is the second call's answer and block (`fill_left`). Assumes nothing.
use Rattle.spec.specs.Calls.{mk_after}
use Rattle.spec.specs.Drives.{Disk, mk_disk}
use Rattle.spec.specs.Engine.{call_disk}
use Rattle.spec.specs.Engine.Call.{fill}
use Rattle.spec.specs.Lists.Opt.{none}
use Rattle.spec.specs.Memory.{Memory, mk_memory, state_of}
use Rattle.call_read.specs.Decode.{lost_block}
use Rattle.call_read.specs.Ends.{fill_answer, Fills, SoughtBy, fill_left}
use Rattle.call_read.specs.Order.{found_at}
use Rattle.call_read.specs.Placed.{placed_at, found-placed}
use Rattle.call_read.specs.Ready.{ReadReady, read_ready}
use Rattle.mem_calls.specs.Left.{checked}
use Rattle.mem_calls.specs.declared.Refusal.{Refusal}
use Rattle.call_read.specs.declared.Sought.{Sought}
use Rattle.spec.specs.declared.Answer.{Answer}
use Rattle.std.specs.Prelude.{Result, Ok}
use Prim.Native.Nat.{ℕ}
use mathlib.Core.Bool.{false}
use Rattle.spec.specs.Lists.{is_in}
use lib.ListN.{length}
use mathlib.Core.List.{List}
use mathlib.Core.Path.{◌≡◌, refl, sym, ap, ◌∙◌, subst}
use Rattle.call_read.proofs.fill.Goals as goal
use Rattle.call_read.proofs.fill.Goals.{After-seek-sought}

-- what was sought, by the arm's variant
sought_is : {r : Result Sought Refusal} {y z : Sought} → r ≡ Ok y → y ≡ z → r ≡ Ok z
sought_is e f = e ∙ ap (λ (x : Sought). Ok x) f

module _ (c : After-seek-sought) where
  abbrev disk : Disk
  disk = mk_disk c.args.image.now c.args.pointers.now

  abbrev memory : Memory
  memory = mk_memory (state_of c.args.state.now) c.args.addresses.now c.args.compact.now c.args.inflight.now

  -- the bytes that `seek` leaves
  abbrev starts : List ℕ
  starts = c.seek-sought.new.bytes

  -- what was sought, by its variant
  told : (x : Result Sought Refusal) → c.seek-sought.result ≡ x → SoughtBy c.args.p c.args.offline.now disk memory c.args.address.0 (length c.args.block.now) x starts
  told x e =
      subst (λ (y : Result Sought Refusal). SoughtBy c.args.p c.args.offline.now disk memory c.args.address.0 (length c.args.block.now) y starts) e
      (c.seek-sought.ensures.result_value, c.seek-sought.ensures.gives)

  -- no check refuses it
  ready : (x : Result Sought Refusal) → c.seek-sought.result ≡ x → checked x ≡ none → ReadReady c.args.p c.args.offline.now disk memory c.args.address.0 (length c.args.block.now)
  ready x e n = read_ready _ _ _ _ _ _ (sym (told x e).0 ∙ n)

  -- where it lies is a data place
  placed : (x : Result Sought Refusal) → c.seek-sought.result ≡ x → checked x ≡ none
      → placed_at c.args.p (found_at c.args.p c.args.offline.now disk memory c.args.address.0 (length c.args.block.now))
  placed x e n = found-placed _ _ _ _ (ready x e n).faultless

  -- what the call leaves, by the variant and the block
  left : (x : Result Sought Refusal) (b : List ℕ) → c.seek-sought.result ≡ x → Fills c.args.p c.args.offline.now disk memory c.args.address.0 c.args.block.now x starts b
      → mk_after (fill_answer x) disk memory b ≡ call_disk c.args.p c.args.offline.now disk memory (fill c.args.address.0 c.args.block.now)
  left x b e f = fill_left _ _ _ _ _ _ x starts b (told x e) f

pub fill_here-requires : goal.fill_here-requires
fill_here-requires c =
    let g = (goal.at.fill_here-requires c).After-seek-sought in
    let e = sought_is c.in-Ok-Here.is (rw c.in-Ok-Here.is at c.in-Ok-Here.field-0-is) in
    let r = ready g _ e refl in
    record { p_value = r.ranged; image_len = (r.whole.image_long, r.block_long, subst (placed_at c.args.p) (told g _ e).1.0 (placed g _ e refl)) }

pub fill_lost-requires : goal.fill_lost-requires
fill_lost-requires c =
    let g = (goal.at.fill_lost-requires c).After-seek-sought in
    let e = sought_is c.in-Ok-Away.is (rw c.in-Ok-Away.is at c.in-Ok-Away.field-0-is) in
    let t = told g _ e in
    let r = ready g _ e refl in
    let lost = t.1.2 in record {
      p_value = r.ranged;
      image_len = (r.whole.image_long, r.block_long, subst (placed_at c.args.p) t.1.0 (placed g _ e refl));
      bytes_len = (lost.long, λ k h n. lost.within k h (subst (λ (x : ℕ). is_in x k ≡ false) c.missing-gone.ensures n));
    }

pub returns-in-Err : goal.returns-in-Err
returns-in-Err c =
    let g = (goal.at.returns-in-Err c).After-seek-sought in
    ap (λ (x : Answer). mk_after x (disk g) (memory g) c.args.block.now) c.from.ensures ∙ left g _ c.args.block.now c.in-Err.is refl

pub returns-in-Ok-Never : goal.returns-in-Ok-Never
returns-in-Ok-Never c =
    left (goal.at.returns-in-Ok-Never c).After-seek-sought _ c.clear.new.dst (sought_is c.in-Ok-Never.is (rw c.in-Ok-Never.is at c.in-Ok-Never.field-0-is)) c.clear.ensures

pub returns-in-Ok-Here : goal.returns-in-Ok-Here
returns-in-Ok-Here c =
    left (goal.at.returns-in-Ok-Here c).After-seek-sought _ c.fill_here.new.block (sought_is c.in-Ok-Here.is (rw c.in-Ok-Here.is at c.in-Ok-Here.field-0-is)) c.fill_here.ensures

pub returns-in-Ok-Away : goal.returns-in-Ok-Away
returns-in-Ok-Away c =
    let g = (goal.at.returns-in-Ok-Away c).After-seek-sought in
    left g _ c.fill_lost.new.block (sought_is c.in-Ok-Away.is (rw c.in-Ok-Away.is at c.in-Ok-Away.field-0-is))
    (c.fill_lost.ensures ∙ ap (λ (x : ℕ). lost_block c.args.p c.args.image.now x c.in-Ok-Away.q.0 (starts g)) c.missing-gone.ensures)
