-- One eighth of the state in its bytes (01, The array; Write): number i of a section of 8, and eight numbers in a row of a section of 64. Each array is held to its
-- section element by element. Assumes nothing.
use Rattle.std.specs.Prelude.{List, ◌≡◌, ℕ, ◌+◌, ◌*◌, ◌<◌, get_or}
use Rattle.std.proofs.Common.{sym, ap, ◌∙◌, mul-add, arith, ext_get_or}
use Rattle.mem_codec.specs.Codec.{state_read}
use Rattle.law_basic.specs.Sections.{length-numbers_at}
use Rattle.spec.specs.Bytes.{le_of, part}
use Rattle.spec.specs.Memory.{cell, numbers_at, state_of, stripe_in, filled_in_of, landed_in}
use Rattle.spec.specs.declared.State.{State}
use Rattle.law_basic.specs.Ranges.{get_d_map-below}
use Rattle.law_basic.specs.Splice.{get_d_part, length_part}
use Rattle.mem_rows.specs.Rows.{slot_row}
use Rattle.mem_rows.specs.declared.Row.{Row}

-- number i of a section
pub number_at : (w n at i : ℕ) (bs : List ℕ) → i < n → get_or (numbers_at w n at bs) i 0 ≡ le_of (part (at + w * i) w bs)
unfolding numbers_at
number_at w n at i bs h = get_d_map-below (λ (k : ℕ). le_of (part (at + w * k) w bs)) n i 0 h

-- the eight numbers of eighth i
pub eighth_at : (w at start i : ℕ) (bs : List ℕ) → i < 8 → start ≡ at + w * cell i 0 → numbers_at w 8 start bs ≡ part (cell i 0) 8 (numbers_at w 64 at bs)
unfolding cell
eighth_at w at start i bs h e =
    let long = length-numbers_at w 64 at bs in
    ext_get_or 0 (numbers_at w 8 start bs) (part (cell i 0) 8 (numbers_at w 64 at bs))
    (length-numbers_at w 8 start bs ∙ sym (length_part (cell i 0) 8 (numbers_at w 64 at bs) (omega arith)))
    (λ k g.
    let j : k < 8 = omega (arith, g, length-numbers_at w 8 start bs) in
    let m : w * (cell i 0 + k) ≡ w * cell i 0 + w * k = mul-add w (cell i 0) k in
    let q : start + w * k ≡ at + w * (cell i 0 + k) = omega (arith, e, m) in
    number_at w 8 start k bs j
    ∙ ap (λ (x : ℕ). le_of (part x w bs)) q
    ∙ sym (number_at w 64 at (cell i 0 + k) bs (omega arith))
    ∙ sym (get_d_part (cell i 0) 8 (numbers_at w 64 at bs) k j))

-- the eighth, put together from its parts
pub row_read : (bs : List ℕ) (i : ℕ) (r : Row) → i < 8
    → r.number ≡ le_of (part (30 + 4 * i) 4 bs) → r.filled ≡ le_of (part (62 + i) 1 bs) → r.writes ≡ le_of (part (70 + i) 1 bs) → r.landed ≡ le_of (part (78 + i) 1 bs)
    → r.addresses ≡ numbers_at 8 8 (86 + 64 * i) bs → r.stamps ≡ numbers_at 8 8 (598 + 64 * i) bs → r.offsets ≡ numbers_at 4 8 (1110 + 32 * i) bs
    → r ≡ slot_row (state_of bs) i
unfolding slot_row stripe_in filled_in_of landed_in cell
row_read bs i r h n f w l a t o =
    let e : (at : ℕ) → at + i ≡ at + 1 * i = λ at. omega arith in
    let one : (at : ℕ) → le_of (part (at + i) 1 bs) ≡ get_or (numbers_at 1 8 at bs) i 0 = λ at. ap (λ (x : ℕ). le_of (part x 1 bs)) (e at) ∙ sym (number_at 1 8 at i bs h) in
    let n' = n ∙ sym (number_at 4 8 30 i bs h) in
    let f' = f ∙ one 62 in
    let w' = w ∙ one 70 in
    let l' = l ∙ one 78 in
    let a' = a ∙ eighth_at 8 86 (86 + 64 * i) i bs h (omega arith) in
    let t' = t ∙ eighth_at 8 598 (598 + 64 * i) i bs h (omega arith) in
    let o' = o ∙ eighth_at 4 1110 (1110 + 32 * i) i bs h (omega arith) in
    (λ j. record { number = n' j; filled = f' j; writes = w' j; landed = l' j; addresses = a' j; stamps = t' j; offsets = o' j })
    ∙ ap (λ (x : State). slot_row x i) (sym (state_read bs))
