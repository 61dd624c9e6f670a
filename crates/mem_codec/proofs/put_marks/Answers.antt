-- `put_marks`: four stores, four edits. Assumes nothing.
use mathlib.Core.Path.{◌≡◌, ap, ◌∙◌}
use mathlib.Core.List.{List, [], ◌∷◌}
use Prim.Native.Nat.{ℕ, ◌+◌, ◌*◌, ◌<◌}
use Rattle.spec.specs.Bytes.{to_le, splice}
use Rattle.spec.specs.Lists.{flat, total}
use Rattle.spec.specs.Memory.{state_sections, section_len}
use Rattle.mem_codec.specs.Changes.{number_written, marks_written}
use Rattle.mem_codec.specs.Edits.{edit_written, written_all_of}
use borrow.Author.Rules.{rules}
use native.Mathlib.Omega.{arith}
use Rattle.mem_codec.proofs.put_marks.Goals as goal
use Rattle.mem_codec.proofs.put_marks.Goals.{Start}

byte_fits : (c : Start) → (c.args.filled < 256) × (c.args.writes < 256) × (c.args.landed < 256)
byte_fits c = (search rules, search rules, search rules)

pub returns : goal.returns
unfolding written_all_of edit_written state_sections section_len total
returns c =
    let a = c.args in
    let b = byte_fits (goal.at.returns c).Start in
    let w = c.write_le32 in
    let e : w.new.dst ≡ splice a.dst.now (30 + 4 * a.i) (flat (to_le 4) (a.number ∷ [])) = w.ensures ∙ ap (splice a.dst.now (30 + 4 * a.i)) (number_written 4 a.number) in
    marks_written w.new.dst a.i a.filled a.writes a.landed b.0 b.1 b.2 (omega (arith, c.requires.0, c.requires.1, w.auto.dst))
    ∙ ap (λ (x : List ℕ). splice (splice (splice x (62 + 1 * a.i) (flat (to_le 1) (a.filled ∷ []))) (70 + 1 * a.i) (flat (to_le 1) (a.writes ∷ [])))
    (78 + 1 * a.i) (flat (to_le 1) (a.landed ∷ []))) e
