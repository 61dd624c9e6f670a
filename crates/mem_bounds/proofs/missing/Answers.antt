-- `missing`: byte 1 is its own number, and the state reads its mask of missing drives there (`state_read`). Assumes nothing.
use mathlib.Core.Path.{sym, ap, ◌∙◌}
use native.Mathlib.Omega.{arith}
use Prim.Native.Nat.{◌<◌}
use lib.ListN.{length}
use Rattle.mem_codec.specs.Codec.{state_len_lem, state_read}
use Rattle.spec.specs.declared.State.{State}
use Rattle.law_basic.specs.Le.{le_of_part-one}
use Rattle.mem_bounds.proofs.missing.Goals as goal

pub bounds-bytes-1 : goal.bounds-bytes-1
bounds-bytes-1 c = omega (arith, state_len_lem)

pub returns : goal.returns
returns c =
    let bs = c.args.bytes.now in
    let h : 1 < length bs = omega (arith, state_len_lem, c.requires) in
    le_of_part-one 1 bs h ∙ ap (λ (x : State). x.missing) (sym (state_read bs))
