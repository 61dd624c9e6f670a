-- `put_counts`: four stores, four edits. Assumes nothing.
use mathlib.Core.Path.{ap, ◌∙◌}
use Rattle.spec.specs.Bytes.{splice}
use Rattle.spec.specs.Lists.{total}
use Rattle.spec.specs.Memory.{state_sections, section_len}
use Rattle.mem_codec.specs.Changes.{number_written}
use Rattle.mem_codec.specs.Edits.{edit_written, written_all_of}
use Rattle.mem_codec.proofs.put_counts.Goals as goal

pub returns : goal.returns
unfolding written_all_of edit_written state_sections section_len total
returns c =
    let a = c.args in
    let write-le32 = c.write_le32 in
    let write-le643 = c.write_le64-3 in
    let write-le642 = c.write_le64-2 in
    let write-le64 = c.write_le64 in
    write-le32.ensures
    ∙ (λ j. splice ((write-le643.ensures
    ∙ (λ k. splice ((write-le642.ensures
    ∙ (λ m. splice ((write-le64.ensures ∙ ap (splice a.dst.now 2) (number_written 8 a.stamp)) m) 10 (number_written 8 a.serial m))) k) 18
    (number_written 8 a.opened k))) j) 26 (number_written 4 a.next j))
