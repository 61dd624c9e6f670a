-- Where a history stands: a healthy run, or none (the power is off, or a drive was named missing). Assumes nothing.
use Rattle.std.specs.Prelude.{◌≡◌, List, Bool, ◌⊎◌, ℕ, ◌<◌, length}
use Rattle.spec.specs.declared.Params.{Params}
use Rattle.spec.specs.declared.State.{State}
use Rattle.spec.specs.Answers.{finished}
use Rattle.spec.specs.Calls.{After}
use Rattle.spec.specs.Drives.{Disk}
use Rattle.spec.specs.Engine.{Call}
use Rattle.spec.specs.History.{World, mk_world, Send, sent_after, untrusted_after, Mark, Hist, marked}
use Rattle.spec.specs.Lists.{Opt, is_in}
use Rattle.spec.specs.Lists.Opt.{none, some}
use Rattle.spec.specs.Memory.{zero_state}
use Rattle.spec.specs.Params.{named}
use Rattle.law_basic.specs.Geometry.{Ranged}
use Rattle.law_views.specs.Views.{Whole, seen}
use Rattle.proof_crash_machine.specs.Facts.{Ghost, Choice}
use Rattle.proof_crash_machine.specs.History.{Mode}
use Rattle.proof_crash_machine.specs.Order.{Track}
use Rattle.proof_crash_machine.specs.Val.{Val}
use Rattle.proof_crash_machine.specs.Mask.{Mask}
use Rattle.proof_crash_items.specs.Ranges.{par_of}
use Rattle.proof_crash_calls.specs.Live.{Reached}
use Rattle.proof_crash_calls.specs.Readings.{MarkShows}
use Rattle.proof_crash_calls.specs.Steps.{Running}
use Rattle.proof_crash_machine.specs.View.{ItemView}

-- what the last finished restart read; n blocks had been sent then
abbrev pub MarkOk : Params → List ℕ → Ghost → ℕ → Opt Mark → Type 0
MarkOk p off g n none = Unit {0}
MarkOk p off g n (some k) = (k.sent_then ≡ n) × MarkShows p off g k.world

-- the machine's untrusted drives are those of the mask
abbrev pub Trust : Params → ℕ → Mask → Type 0
Trust p us un = (d : ℕ) → d < p.N → un d ≡ is_in us d

pub record Stands (p : Params) (h : Ranged p) (off : List ℕ) (s : Hist) (n : ℕ) : Type 0 where
  pub g : Ghost
  pub u : ItemView
  pub a : List Val
  pub c : Bool
  pub m : Mode
  pub T : Track
  pub whole : Whole p s.world.disk
  pub reached : Reached p h off (seen p off s.world.disk) u s.sends n g a c m T
  pub trust : Trust p s.untrusted g.un
  pub mark : MarkOk p off g n s.mark

-- no call but restart, and rebuild of the drive that is missing, changes anything
abbrev pub StateQuiet : (p : Params) → Ranged p → List ℕ → Mask → State → Type 0
StateQuiet p h off un st = (st ≡ zero_state) ⊎ ((d : ℕ) × (d < p.N) × (st.missing ≡ named d) × Choice (par_of p h off) un (is_in (named d)))

pub data Holds (p : Params) (h : Ranged p) (off : List ℕ) (s : Hist) : Type 0 where
  goes : (n : ℕ) (x : Running p h off s n) → MarkOk p off x.healthy.live.g n s.mark → Holds p h off s
  rests : (n : ℕ) (x : Stands p h off s n) → StateQuiet p h off x.g.un s.world.memory.state → Holds p h off s

-- ---- what a call leaves of a history

unfoldable pub leaves : Hist → Call → After Disk → Hist
leaves s c r = record {
  world = mk_world r.drives r.memory;
  sends = sent_after c r.answer s.sends;
  untrusted = untrusted_after c r.answer s.untrusted;
  mark = marked (finished r.answer) (mk_world r.drives r.memory) (length (sent_after c r.answer s.sends)) s.mark;
}

abbrev pub hist : World → List Send → ℕ → Opt Mark → Hist
hist w ss us o = record { world = w; sends = ss; untrusted = us; mark = o }
