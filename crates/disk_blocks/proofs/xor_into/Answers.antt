-- `xor_into`: dst and src are equally long, so that the part from 0 is all of dst and so is what replaces it. Assumes nothing.
use mathlib.Core.Path.{◌≡◌, ap, ◌∙◌}
use mathlib.Core.List.{List}
use Prim.Native.Nat.{ℕ}
use native.Mathlib.Omega.{arith}
use lib.ListN.{length}
use Rattle.spec.specs.Bytes.{part, splice, xors}
use Rattle.law_basic.specs.Splice.{part-all, splice_all}
use Rattle.law_basic.specs.Xor.{length-xors}
use Rattle.disk_blocks.proofs.xor_into.Goals as goal

pub returns : goal.returns
returns c =
    let a = c.args in
    let pre = c.requires in
    let d = a.dst.now in
    let s = a.src.now in
    let e : part 0 (length s) d ≡ d = part-all (length s) d (omega (arith, pre)) in
    c.xor_part.ensures ∙ ap (λ (x : List ℕ). splice d 0 (xors x s)) e ∙ splice_all d (xors d s) (length-xors d s)
