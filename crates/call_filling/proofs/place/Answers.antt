-- `place`: the part copied is the block of the next drive in the eighth; `enter` goes on from that buffer, with the row of `placed_row_of`. Assumes nothing.
use Prim.Native.Nat.{ℕ}
use Rattle.spec.specs.Bytes.{splice}
use Rattle.spec.specs.Memory.{slot_byte, set_slot_block}
use Rattle.call_filling.specs.Entries.{drive_for, entered, placed_row_of}
use mathlib.Core.Path.{◌≡◌, ap, ◌∙◌}
use Rattle.call_filling.proofs.place.Goals as goal

pub returns : goal.returns
unfolding placed_row_of set_slot_block
returns c =
    let a = c.args in
    let q = c.enter-next in
    let copy-part = c.copy_part in
    let slot-byte = c.slot_byte-at in
    let next-drive = c.next_drive-drive in
    let d : next-drive.result ≡ drive_for a.p a.row = next-drive.ensures.0 in
    let b : copy-part.new.dst ≡ set_slot_block a.p a.inflight.now a.i (drive_for a.p a.row) a.block.now =
    copy-part.ensures ∙ ap (λ (x : ℕ). splice a.inflight.now x a.block.now) (slot-byte.ensures.0 ∙ ap (slot_byte a.p a.i) d) in
    let f = q.ensures.inflight_after ∙ ap (entered a.p a.row a.i) b in
    λ j. record { row = q.ensures.value j; inflight = f j; drive = d j }
