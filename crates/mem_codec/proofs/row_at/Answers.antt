-- `row_at`: each part is read at its place in its section; the laws of `Eighths` put them together. Assumes nothing.
use Rattle.std.proofs.Common.{arith, sym, ◌∙◌, length, ◌+◌, ◌<◌}
use Rattle.std.proofs.lemmas.List.{map-id}
use Rattle.mem_codec.specs.Codec.{state_len_lem}
use Rattle.mem_codec.specs.Eighths.{row_read}
use Rattle.law_basic.specs.Le.{le_of_part-one}
use Rattle.mem_codec.proofs.row_at.Goals as goal

pub returns : goal.returns
returns c =
    let a = c.args in
    let bs = a.bytes.now in
    let f : 62 + a.i < length bs = omega (arith, state_len_lem, c.requires.0, c.requires.1) in
    let w : 70 + a.i < length bs = omega (arith, state_len_lem, c.requires.0, c.requires.1) in
    let l : 78 + a.i < length bs = omega (arith, state_len_lem, c.requires.0, c.requires.1) in
    row_read bs a.i _ c.requires.1 c.read_le32-number.ensures (le_of_part-one (62 + a.i) bs f) (le_of_part-one (70 + a.i) bs w) (le_of_part-one (78 + a.i) bs l)
    (sym (map-id _) ∙ c.numbers_at-addresses.ensures) (sym (map-id _) ∙ c.numbers_at-stamps.ensures) (sym (map-id _) ∙ c.numbers_at-offsets.ensures)
