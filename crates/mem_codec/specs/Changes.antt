-- A change of the state written into its bytes: the edits of its numbers in front, of an eighth's marks and of its cells (01, The array; Write; Landing). Assumes nothing.
use Rattle.std.specs.Prelude.{◌≡◌, Bool, cond, ℕ, ◌+◌, ◌*◌, ◌≤◌, ◌<◌, replicate}
use Rattle.std.proofs.Math.Path.{refl, ap}
use Rattle.std.proofs.Common.{sym, ◌∙◌, arith, add-zero, one-mul, le-ltb, lit<, length-set}
use mathlib.Core.List.{List, [], ◌∷◌, append-nil}
use Rattle.std.proofs.Math.Dec.{lit≤}
use Rattle.std.proofs.Math.ListN.{length, set}
use Rattle.spec.specs.Bytes.{to_le, splice}
use Rattle.spec.specs.Lists.{flat, total, zipped}
use Rattle.spec.specs.Memory.{mk_state, slot_count, cell, idle_state, zero_state, section_len, state_sections, state_len, state_numbers, section_bytes, state_bytes, state_of}
use Rattle.spec.specs.declared.State.{State}
use Rattle.law_basic.specs.Sections.{SectionCounts, sections_bytes, state_of_counted, state_bytes_state_of, AllBytes}
use Rattle.mem_codec.specs.Codec.{byte_written}
use Rattle.mem_codec.specs.Edits.{Edit, edit, EditsFit, made, made_all_of, written_all_of, edits_bytes, edits_counted}
use Rattle.mem_rows.specs.Rows.{RowsSized, RowSized, one_set, put_row, put_front, changed, changed_row}
use Rattle.mem_rows.specs.declared.Change.{Change}
use Rattle.mem_rows.specs.declared.Row.{Row}

-- 01, Write: last stamp, last serial, the open segment's serial, next stripe number
abbrev pub count_edits : ℕ → ℕ → ℕ → ℕ → List Edit
count_edits t s o n = edit 2 0 (t ∷ []) ∷ edit 3 0 (s ∷ []) ∷ edit 4 0 (o ∷ []) ∷ edit 5 0 (n ∷ []) ∷ []

-- 01, Write: of eighth i the stripe's number, how many are filled, which are writes, which drives have it
abbrev pub mark_edits : ℕ → ℕ → ℕ → ℕ → ℕ → List Edit
mark_edits i n f w m = edit 6 i (n ∷ []) ∷ edit 7 i (f ∷ []) ∷ edit 8 i (w ∷ []) ∷ edit 9 i (m ∷ []) ∷ []

-- 01, Write; Landing: of eighth i the addresses, stamps and offsets
abbrev pub cell_edits : ℕ → List ℕ → List ℕ → List ℕ → List Edit
cell_edits i xs ts os = edit 10 (8 * i) xs ∷ edit 11 (8 * i) ts ∷ edit 12 (8 * i) os ∷ []

-- ---- the stores of the code are these edits

-- one number
pub number_written : (w n : ℕ) → to_le w n ≡ flat (to_le w) (n ∷ [])
unfolding flat
number_written w n = sym (append-nil (to_le w n))

-- one byte
mark_written : (l : List ℕ) (at i v : ℕ) → v < 256 → at + i < length l → set l (at + i) v ≡ splice l (at + 1 * i) (flat (to_le 1) (v ∷ []))
mark_written l at i v h g =
    byte_written l (at + i) v h g ∙ ap (splice l (at + i)) (number_written 1 v) ∙ ap (λ (x : ℕ). splice l (at + x) (flat (to_le 1) (v ∷ []))) (sym (one-mul i))

-- three bytes of one eighth
pub marks_written : (l : List ℕ) (i f w m : ℕ) → f < 256 → w < 256 → m < 256 → 78 + i < length l
    → set (set (set l (62 + i) f) (70 + i) w) (78 + i) m
    ≡ splice (splice (splice l (62 + 1 * i) (flat (to_le 1) (f ∷ []))) (70 + 1 * i) (flat (to_le 1) (w ∷ []))) (78 + 1 * i) (flat (to_le 1) (m ∷ []))
marks_written l i f w m hf hw hm h =
    let l₁ = set l (62 + i) f in
    let l₂ = set l₁ (70 + i) w in
    let n₁ : 70 + i < length l₁ = simp length-set (omega arith) in
    let n₂ : 78 + i < length l₂ = simp length-set (omega arith) in
    mark_written l₂ 78 i m hm n₂
    ∙ ap (λ (x : List ℕ). splice x (78 + 1 * i) (flat (to_le 1) (m ∷ [])))
    (mark_written l₁ 70 i w hw n₁ ∙ ap (λ (x : List ℕ). splice x (70 + 1 * i) (flat (to_le 1) (w ∷ []))) (mark_written l 62 i f hf (omega arith)))

-- ---- and the edits make the change

module _ (st : State) (c : Change) where
  -- the numbers in front
  counts-made : made_all_of (state_numbers st) (count_edits c.stamp.0 c.serial.0 c.opened c.next) ≡ state_numbers (put_front st c)
  unfolding made_all_of made state_numbers put_front splice
  counts-made = refl

  counts_fit : EditsFit state_sections (count_edits c.stamp.0 c.serial.0 c.opened c.next)
  unfolding state_sections
  counts_fit = ((lit< tt, lit≤ tt), ((lit< tt, lit≤ tt), ((lit< tt, lit≤ tt), ((lit< tt, lit≤ tt), tt))))

module _ (st : State) (i : ℕ) (h : i < 8) (sized : RowsSized st) (r : Row) (z : RowSized r) where
  marks_fit : EditsFit state_sections (mark_edits i r.number r.filled r.writes r.landed)
  unfolding state_sections
  marks_fit = ((lit< tt, omega arith), ((lit< tt, omega arith), ((lit< tt, omega arith), ((lit< tt, omega arith), tt))))

  cells_fit : EditsFit state_sections (cell_edits i r.addresses r.stamps r.offsets)
  unfolding state_sections
  cells_fit = ((lit< tt, omega (arith, z.addresses)), ((lit< tt, omega (arith, z.stamps)), ((lit< tt, omega (arith, z.offsets)), tt)))

  row_made : made_all_of (made_all_of (state_numbers st) (mark_edits i r.number r.filled r.writes r.landed)) (cell_edits i r.addresses r.stamps r.offsets)
      ≡ state_numbers (put_row st i r)
  unfolding made_all_of made state_numbers put_row cell
  row_made =
      let one : (ns : List ℕ) (v : ℕ) → length ns ≡ 8 → splice ns i (v ∷ []) ≡ set ns i v = λ ns v e. one_set ns i v (omega arith) in
      let at : (l s : List ℕ) → splice l (8 * i) s ≡ splice l (8 * i + 0) s = λ l s. ap (λ (x : ℕ). splice l x s) (sym (add-zero (8 * i))) in
      λ j.
      state_numbers (mk_state st.live st.missing st.stamp.0 st.serial.0 st.opened st.next (one st.numbers r.number sized.numbers j)
      (one st.filled r.filled sized.filled j) (one st.writes r.writes sized.writes j) (one st.landed r.landed sized.landed j)
      (at st.addresses r.addresses j) (at st.stamps r.stamps j) (at st.offsets r.offsets j))

-- the state that bytes say has arrays of their lengths
pub read_sized : (bs : List ℕ) → RowsSized (state_of bs)
unfolding state_sections state_numbers
read_sized bs =
    let q : SectionCounts state_sections (state_numbers (state_of bs)) = state_of_counted bs in
    let q₆ = q.1.1.1.1.1.1 in
    record {
      numbers = q₆.0;
      filled = q₆.1.0;
      writes = q₆.1.1.0;
      landed = q₆.1.1.1.0;
      addresses = q₆.1.1.1.1.0;
      stamps = q₆.1.1.1.1.1.0;
      offsets = q₆.1.1.1.1.1.1.0;
    }

state_counted : (st : State) → RowsSized st → SectionCounts state_sections (state_numbers st)
unfolding state_sections state_numbers
state_counted st z =
    (refl, (refl, (refl, (refl, (refl, (refl, (z.numbers, (z.filled, (z.writes, (z.landed, (z.addresses, (z.stamps, (z.offsets, tt)))))))))))))

front_sized : (st : State) (c : Change) → RowsSized st → RowsSized (put_front st c)
unfolding put_front
front_sized st c z = record {
  numbers = z.numbers;
  filled = z.filled;
  writes = z.writes;
  landed = z.landed;
  addresses = z.addresses;
  stamps = z.stamps;
  offsets = z.offsets;
}

module _ (bs : List ℕ) (long : length bs ≡ state_len) (bytes : AllBytes bs) (c : Change) (l : List ℕ)
    (counts : l ≡ written_all_of state_sections bs (count_edits c.stamp.0 c.serial.0 c.opened c.next)) where
  change_front_written : l ≡ sections_bytes state_sections (state_numbers (put_front (state_of bs) c))
  unfolding state_bytes
  change_front_written =
      let es = count_edits c.stamp.0 c.serial.0 c.opened c.next in
      counts ∙ ap (λ (x : List ℕ). written_all_of state_sections x es) (sym (state_bytes_state_of bs long bytes))
      ∙ edits_bytes state_sections (state_numbers (state_of bs)) es (counts_fit (state_of bs) c) (state_of_counted bs) ∙ ap (sections_bytes state_sections) (counts-made (state_of bs) c)

  -- no eighth changes
  pub change_front : 8 ≤ c.slot → l ≡ state_bytes (changed (state_of bs) c)
  unfolding state_bytes changed slot_count
  change_front h =
      let st = put_front (state_of bs) c in
      change_front_written
      ∙ ap (λ (x : Bool). sections_bytes state_sections (state_numbers (cond x (put_row st c.slot c.row) st))) (sym (le-ltb c.slot 8 h))

  -- one changes
  pub change_row : c.slot < 8 → RowSized c.row → (l' l'' : List ℕ)
      → l' ≡ written_all_of state_sections l (mark_edits c.slot c.row.number c.row.filled c.row.writes c.row.landed)
      → l'' ≡ written_all_of state_sections l' (cell_edits c.slot c.row.addresses c.row.stamps c.row.offsets)
      → l'' ≡ state_bytes (changed (state_of bs) c)
  unfolding state_bytes
  change_row h z l' l'' e f =
      let st = put_front (state_of bs) c in
      let i = c.slot in
      let r = c.row in
      let ms = mark_edits i r.number r.filled r.writes r.landed in
      let cs = cell_edits i r.addresses r.stamps r.offsets in
      let w : RowsSized st = front_sized (state_of bs) c (read_sized bs) in
      let n : SectionCounts state_sections (state_numbers st) = state_counted st w in
      let mf = marks_fit st i h w r z in
      f ∙ ap (λ (x : List ℕ). written_all_of state_sections x cs)
      (e ∙ ap (λ (x : List ℕ). written_all_of state_sections x ms) change_front_written ∙ edits_bytes state_sections (state_numbers st) ms mf n)
      ∙ edits_bytes state_sections (made_all_of (state_numbers st) ms) cs (cells_fit st i h w r z) (edits_counted state_sections (state_numbers st) ms mf n)
      ∙ ap (sections_bytes state_sections) (row_made st i h w r z)
      ∙ ap (λ (x : State). sections_bytes state_sections (state_numbers x)) (sym (changed_row (state_of bs) c h))

-- 01, Store count: a cut leaves zeros
pub zero_bytes : state_bytes zero_state ≡ replicate state_len 0
unfolding state_bytes state_numbers state_sections state_len section_len section_bytes zero_state idle_state flat zipped total to_le
zero_bytes = refl
