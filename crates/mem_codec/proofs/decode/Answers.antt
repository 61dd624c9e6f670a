-- `decode`: each section is read at its offset, inside 1366 bytes; `state_read` says that these are the fields of the state. Assumes nothing.
use Rattle.std.proofs.Common.{arith, sym, ◌∙◌, length, ◌<◌}
use Rattle.std.proofs.lemmas.List.{map-id}
use Rattle.spec.specs.Memory.{mk_state}
use Rattle.law_basic.specs.Le.{le_of_part-one}
use Rattle.mem_codec.specs.Codec.{state_len_lem, state_read}
use Rattle.mem_codec.proofs.decode.Goals as goal

pub returns : goal.returns
returns c =
    let bs = c.args.bytes.now in
    let h : 1 < length bs = omega (arith, state_len_lem, c.requires) in
    rw (state_read bs)
    (λ j.
    mk_state (le_of_part-one 0 bs (omega arith) j) (le_of_part-one 1 bs h j) (c.read_le64.ensures j) (c.read_le64-2.ensures j) (c.read_le64-3.ensures j) (c.read_le32.ensures j)
    ((sym (map-id _) ∙ c.numbers_at-numbers.ensures) j) ((sym (map-id _) ∙ c.numbers_at-filled.ensures) j) ((sym (map-id _) ∙ c.numbers_at-writes.ensures) j)
    ((sym (map-id _) ∙ c.numbers_at-landed.ensures) j) ((sym (map-id _) ∙ c.numbers_at-addresses.ensures) j) ((sym (map-id _) ∙ c.numbers_at-stamps.ensures) j)
    ((sym (map-id _) ∙ c.numbers_at-offsets.ensures) j))
