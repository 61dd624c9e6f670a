-- `pad`: the part cleared is the block of the next drive in the eighth, set to zeros; `enter` goes on from that buffer. Assumes nothing.
use Prim.Native.Nat.{ℕ}
use Rattle.spec.specs.Bytes.{splice}
use Rattle.spec.specs.Memory.{slot_byte, set_slot_block}
use Rattle.call_filling.specs.Entries.{drive_for, entered, placed_row_of}
use lib.ListN.{replicate}
use mathlib.Core.Path.{◌≡◌, ap, ◌∙◌}
use Rattle.call_close.proofs.pad.Goals as goal

pub returns : goal.returns
unfolding placed_row_of set_slot_block
returns c =
    let a = c.args in
    let q = c.enter in
    let clear-part = c.clear_part in
    let slot-byte = c.slot_byte-at in
    let next-drive = c.next_drive-drive in
    let d : next-drive.result ≡ drive_for a.p a.row = next-drive.ensures.0 in
    let b : clear-part.new.dst ≡ set_slot_block a.p a.inflight.now a.i (drive_for a.p a.row) (replicate a.p.B 0) =
    clear-part.ensures ∙ ap (λ (x : ℕ). splice a.inflight.now x (replicate a.p.B 0)) (slot-byte.ensures.0 ∙ ap (slot_byte a.p a.i) d) in
    record { value = q.ensures.value; inflight_after = q.ensures.inflight_after ∙ ap (entered a.p a.row a.i) b }
