-- How a list of calls is run: with the state as a value, or on the lent bytes alone, as C runs it. Assumes nothing.
use Rattle.std.specs.Prelude.{List, ℕ, replicate}
use Rattle.spec.specs.declared.Params.{Params}
use Rattle.spec.specs.declared.Answer.{Answer}
use Rattle.spec.specs.Drives.{View, view_of, Disk}
use Rattle.spec.specs.Engine.{Call, call_disk, Lent, lent_disk, lent_memory, call_bytes}
use Rattle.spec.specs.Engine.Call.{read, fill}
use Rattle.spec.specs.History.{World, mk_world, Seen, seen_by}
use Rattle.spec.specs.Memory.{Memory}

-- what a call gives: its answer, what it leaves, and the lent block
pub record Reply (W : Type 0) : Type 0 where
  pub answer : Answer
  pub world : W
  pub block : List ℕ

-- a way to run calls: the list of offline zones (02, item 4), image and pointers, memory, and a call
pub record Engine (W : Type 0) : Type 0 where
  pub offline : W → List ℕ
  pub disk : W → Disk
  pub memory : W → Memory
  pub call : Params → W → Call → Reply W

-- the state is a value, and the list is always the same
unfoldable pub call_world : List ℕ → Params → World → Call → Reply World
call_world off p w c =
    let r = call_disk p off w.disk w.memory c in
    record { answer = r.answer; world = mk_world r.drives r.memory; block = r.block }

abbrev pub on_values : List ℕ → Engine World
on_values off = record { offline = λ (w : World). off; disk = λ (w : World). w.disk; memory = λ (w : World). w.memory; call = call_world off }

-- the state is bytes and nothing else: each step is what the C functions equal
unfoldable pub call_lent : Params → Lent → Call → Reply Lent
call_lent p l c =
    let r = call_bytes p l c in
    record { answer = r.answer; world = r.lent; block = r.block }

abbrev pub on_bytes : Engine Lent
on_bytes = record { offline = λ (l : Lent). l.offline; disk = lent_disk; memory = lent_memory; call = call_lent }

module _ {W : Type 0} (E : Engine W) where
  -- what the drives hold
  unfoldable pub view_in : Params → W → View
  view_in p w = view_of p (E.offline w) (E.disk w).image (E.disk w).pointers

  -- 01, How tightly, 4: what the two reads give
  unfoldable pub reads_as : Params → W → ℕ → Seen
  reads_as p w a =
      let s = E.call p w (fill a (replicate p.B 0)) in
      seen_by (E.call p w (read a)).answer s.answer s.block
