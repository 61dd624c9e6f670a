-- `base_at`: o less than G behind base keeps base; else base + G is at or below o, and a multiple of G again. Assumes nothing.
use native.Mathlib.Omega.{arith}
use Rattle.law_basic.specs.Geometry.{base_next}
use Rattle.recover_compact.proofs.base_at.Goals as goal

pub returns : goal.returns
returns c =
    let a = c.args in
    let h = c.requires.base_le_o in
    (omega (arith, c.if-o-base.false, h.0), base_next a.base a.p.G h.2)
