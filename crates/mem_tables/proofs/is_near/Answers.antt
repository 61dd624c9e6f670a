-- `is_near`: q - lo modulo 2 ^ 32 is below hi - lo iff q lies from lo up to hi (`within_near`), since all three are below 2 ^ 32. Assumes nothing.
use Rattle.std.proofs.Common.{ℕ, ◌<◌, ltb, ap, ◌∙◌, rules}
use mir.Val.{bool_byte}
use Rattle.mem_tables.specs.Tables.{within_near}
use Rattle.mem_tables.proofs.is_near.Goals as goal

pub returns : goal.returns
returns c =
    let a = c.args in
    let d = c.wrapping_sub_u32.result in
    let q< : a.q < 4294967296 = search rules in
    let lo< : a.lo < 4294967296 = search rules in
    let hi< : a.hi < 4294967296 = search rules in
    let d< : d < 4294967296 = search rules in
    ap (λ (x : ℕ). bool_byte (ltb d x)) c.requires ∙ ap bool_byte (within_near a.q a.lo a.hi d q< lo< hi< d< c.wrapping_sub_u32.ensures.value)
