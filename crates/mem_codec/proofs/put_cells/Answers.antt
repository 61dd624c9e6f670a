-- `put_cells`: three runs of numbers, three edits. Assumes nothing.
use Rattle.std.proofs.Common.{ap, ◌∙◌, List, ℕ, ◌+◌, ◌*◌}
use Rattle.std.proofs.lemmas.List.{map-id}
use Rattle.spec.specs.Bytes.{to_le, splice}
use Rattle.spec.specs.Lists.{flat, total}
use Rattle.spec.specs.Memory.{state_sections, section_len}
use Rattle.mem_codec.specs.Edits.{edit_written, written_all_of}
use Rattle.mem_codec.proofs.put_cells.Goals as goal

pub returns : goal.returns
unfolding written_all_of edit_written state_sections section_len total
returns c =
    let a = c.args in
    let at = 8 * a.i in
    let l = c.put_numbers.new.dst in
    let l' = c.put_numbers-2.new.dst in
    let e = c.put_numbers.ensures ∙ ap (λ (ns : List ℕ). splice a.dst.now (86 + 8 * at) (flat (to_le 8) ns)) (map-id a.addresses.now) in
    let f = c.put_numbers-2.ensures ∙ ap (λ (ns : List ℕ). splice l (598 + 8 * at) (flat (to_le 8) ns)) (map-id a.stamps.now) in
    let h = c.put_numbers-3.ensures ∙ ap (λ (ns : List ℕ). splice l' (1110 + 4 * at) (flat (to_le 4) ns)) (map-id a.offsets.now) in
    h ∙ ap (λ (x : List ℕ). splice x (1110 + 4 * at) (flat (to_le 4) a.offsets.now)) (f ∙ ap (λ (x : List ℕ). splice x (598 + 8 * at) (flat (to_le 8) a.stamps.now)) e)
