-- `set_pointer`: the four bytes written at `pointer_byte` are the definition's splice. Assumes nothing.
use mathlib.Core.Path.{ap, ◌∙◌}
use Prim.Native.Nat.{ℕ}
use Rattle.spec.specs.Bytes.{to_be, splice}
use Rattle.spec.specs.Drives.{set_pointer}
use Rattle.disk_zones.proofs.set_pointer.Goals as goal

pub returns : goal.returns
unfolding set_pointer
returns c =
    let write-be32 = c.write_be32 in
    let pointer_byte_holds = c.pointer_byte-at in
    let args = c.args in
    write-be32.ensures ∙ ap (λ (x : ℕ). splice args.pointers.now x (to_be 4 args.n)) pointer_byte_holds.ensures.0
