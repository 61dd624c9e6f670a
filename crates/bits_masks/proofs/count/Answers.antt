-- `count`: a mask below 2 ^ 8 has at most 8 ones, so the cast loses nothing. Assumes nothing.
use mathlib.Core.Path.{refl}
use Prim.Native.Nat.{◌<◌}
use native.Mathlib.Omega.{arith}
use borrow.Author.Rules.{rules}
use lib.Count.{ones-le}
use Rattle.bits_masks.proofs.count.Goals as goal

pub overflow_cast-result : goal.overflow_cast-result
overflow_cast-result c =
    let m = c.args.mask in
    let f : m < 256 = search rules in
    omega (arith, ones-le 8 m f)

pub returns : goal.returns
returns c =
    let m = c.args.mask in
    let f : m < 256 = search rules in
    (refl, ones-le 8 m f)
