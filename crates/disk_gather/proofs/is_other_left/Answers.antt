-- `is_other_left`: the tests of the lowest zone that bears the serial, in their order (`other_none`, `other_same`, `other_flag`). Assumes nothing.
use mathlib.Core.Path.{sym}
use native.Mathlib.Omega.{arith}
use Rattle.disk_gather.specs.Found.{other_none, other_same, other_flag}
use Rattle.disk_gather.proofs.is_other_left.Goals as goal

pub returns-then-index-h : goal.returns-then-index-h
returns-then-index-h c =
    let a = c.args in
    let i = a.index.now in
    let n = c.lowest_on-h in
    λ v q x. sym (other_none i.p v i.low a.flags.now a.z a.c.0 n.result (n.ensures.value v q x) c.if-index-h.true)

pub returns-then-h-z : goal.returns-then-h-z
returns-then-h-z c =
    let a = c.args in
    let i = a.index.now in
    let n = c.lowest_on-h in
    λ v q x. sym (other_same i.p v i.low a.flags.now a.z a.c.0 n.result (n.ensures.value v q x) c.if-h-z.true)

pub returns : goal.returns
returns c =
    let a = c.args in
    let i = a.index.now in
    let n = c.lowest_on-h in
    λ v q x. sym (other_flag i.p v i.low a.flags.now a.z a.c.0 n.result (n.ensures.value v q x)
    (omega (arith, c.if-index-h.false)) c.if-h-z.false)
