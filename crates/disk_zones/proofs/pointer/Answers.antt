-- `pointer`: the four bytes at `pointer_byte` are what the definition reads. Assumes nothing.
use mathlib.Core.Path.{ap, ◌∙◌}
use Prim.Native.Nat.{ℕ}
use Rattle.spec.specs.Bytes.{be_of, part}
use Rattle.spec.specs.Drives.{pointer_of}
use Rattle.disk_zones.proofs.pointer.Goals as goal

pub returns : goal.returns
unfolding pointer_of
returns c = c.read_be32.ensures ∙ ap (λ (x : ℕ). be_of (part x 4 c.args.pointers.now)) c.pointer_byte.ensures.0
