-- The drives as they are and a state of the machine that they show: what a call must lead on. Assumes nothing.
use Rattle.std.specs.Prelude.{◌≡◌, refl, List, Bool, ℕ}
use Rattle.proof_crash_items.specs.Carry.{Tie, tie_on}
use Rattle.spec.specs.declared.Params.{Params}
use Rattle.spec.specs.Drives.{View}
use Rattle.law_basic.specs.Geometry.{Ranged}
use Rattle.proof_crash_machine.specs.Facts.{Ghost}
use Rattle.proof_crash_machine.specs.History.{Mode, State as m-State, Inv, Step}
use Rattle.proof_crash_machine.proofs.History.{step_inv}
use Rattle.proof_crash_machine.specs.History.Mode.{off as stopped}
use Rattle.proof_crash_machine.specs.Val.{Val}
use Rattle.proof_crash_machine.specs.View.{ItemView}
use Rattle.proof_crash_items.specs.Ranges.{par_of}
use Rattle.proof_crash_items.specs.Segs.{OnDrives}

abbrev pub state_on : ItemView → Ghost → List Val → Bool → Mode → m-State
state_on u g a s m = record { g = g; v = u; acked = a; since = s; mode = m }

-- v: the drives. u: the machine's view, beside which their tie is carried
pub record Linked (p : Params) (r : Ranged p) (off : List ℕ) (v : View) (u : ItemView) (g : Ghost) (a : List Val) (s : Bool) (m : Mode) : Type 0 where
  pub tie : Tie p r off g.un g.hd v u
  pub inv : Inv (par_of p r off) (state_on u g a s m)

pub linked_on : (p : Params) (r : Ranged p) (off : List ℕ) (v : View) (u : ItemView) (g : Ghost) (a : List Val) (s : Bool) (m : Mode) → Linked p r off v u g a s m → OnDrives p r off g v u
linked_on p r off v u g a s m k = tie_on p r off g v u k.tie k.inv.facts

-- a step of the machine to a view that the drives w show
pub linked_step : (p : Params) (r : Ranged p) (off : List ℕ) (v v' : View) (u u' : ItemView) (g g' : Ghost) (a a' : List Val) (s s' : Bool) (m m' : Mode) → Linked p r off v u g a s m
    → Step (par_of p r off) (state_on u g a s m) (state_on u' g' a' s' m') → Tie p r off g'.un g'.hd v' u' → Linked p r off v' u' g' a' s' m'
linked_step p r off v v' u u' g g' a a' s s' m m' k st t = record { tie = t; inv = step_inv (par_of p r off) (state_on u g a s m) (state_on u' g' a' s' m') k.inv st }

-- what a cut leaves of the history
pub record SameHistory (g g' : Ghost) : Type 0 where
  pub un : g'.un ≡ g.un
  pub said : g'.said ≡ g.said
  pub sent : g'.sent ≡ g.sent
  pub last : g'.last ≡ g.last
  pub base : g'.base ≡ g.base
  pub top : g'.top ≡ g.top

-- the drives v after a cut: linked, with the same history, and nothing runs
pub record CutTo (p : Params) (r : Ranged p) (off : List ℕ) (g : Ghost) (a : List Val) (s : Bool) (v : View) : Type 0 where
  pub u : ItemView
  pub g' : Ghost
  pub same : SameHistory g g'
  pub linked : Linked p r off v u g' a s stopped

pub same_history : (g : Ghost) → SameHistory g g
same_history g = record { un = refl; said = refl; sent = refl; last = refl; base = refl; top = refl }
