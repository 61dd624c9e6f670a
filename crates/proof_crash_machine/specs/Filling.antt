-- A stripe of padding, a stripe with a block more in it, and the memory once no segment is open. Assumes nothing.
use Rattle.std.specs.Prelude.{false, ℕ}
use Rattle.proof_crash_machine.specs.Val.{Val, pads}
use Rattle.proof_crash_machine.specs.Facts.{Par}
use Rattle.proof_crash_machine.specs.Memory.{Mem, set_at}

-- a stripe of padding: what is not yet filled
unfoldable pub unfilled : Par → ℕ → ℕ → Val
unfilled p s = p.code.enc s (λ e. pads)

-- x goes to drive d; parity follows
unfoldable pub filled_word : Par → ℕ → (ℕ → Val) → ℕ → Val → ℕ → Val
filled_word p s G d x = p.code.enc s (set_at G d x)

-- ---- nothing is ragged any more: no segment is open

abbrev pub shut : Mem → Mem
shut M = record { is_open = false; zone = M.zone; next = M.next; fly = M.fly; ready = M.ready; F = M.F; stamp = M.stamp; serial = M.serial }
