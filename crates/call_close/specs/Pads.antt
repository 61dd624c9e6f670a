-- Open positions filled one after the other, on the stripe's eighth by value, and that it is what the definitions do to the state (01, Closing). By induction over the positions left.
-- Assumes nothing.
use Rattle.std.specs.Prelude.{◌≡◌, refl, List, replicate}
use Rattle.std.proofs.Math.Path.{sym, ap}
use Rattle.std.proofs.Common.{◌∙◌}
use Prim.Native.Nat.{ℕ, zero, suc, ◌+◌, ◌-◌, ◌≤◌, ◌<◌}
use native.Mathlib.Omega.{arith}
use Rattle.spec.specs.declared.Params.{Params}
use Rattle.spec.specs.declared.State.{State}
use Rattle.spec.specs.Closing.{padded}
use Rattle.spec.specs.Counts.{padding_address}
use Rattle.spec.specs.Memory.{filled_in_of}
use Rattle.spec.specs.Params.{data_count}
use Rattle.spec.specs.Write.{Placed}
use Rattle.call_filling.specs.Entries.{PlacedRow, added_row, placed_row_of, row_filled, added_sized, placed_row}
use Rattle.law_calls.specs.Sends.{mk_placed}
use Rattle.mem_rows.specs.Rows.{slot_row, put_row, RowsSized, RowSized, put_row_holds, row_put, put-put, row_sized, put_sized}
use Rattle.mem_rows.specs.declared.Row.{Row}

-- 01, Closing: one position filled
abbrev pub pad_one : Params → ℕ → Row → List ℕ → PlacedRow
pad_one p i r fl = placed_row_of p r fl i padding_address 0 0 (replicate p.B 0)

-- 01, Closing: k of them
unfoldable pub padded_row : Params → ℕ → ℕ → Row → List ℕ → PlacedRow
padded_row p i zero r fl = record { row = r; inflight = fl; drive = 0 }
padded_row p i (suc k) r fl =
    let q = pad_one p i r fl in
    padded_row p i k q.row q.inflight

module _ (p : Params) (i : ℕ) (r : Row) (fl : List ℕ) (k : ℕ) where
  pub pads_turn : k < data_count p → padded_row p i (data_count p - (k + 1)) (pad_one p i r fl).row (pad_one p i r fl).inflight ≡ padded_row p i (data_count p - k) r fl
  unfolding padded_row
  pads_turn h =
      let e : data_count p - k ≡ suc (data_count p - (k + 1)) = omega arith in
      sym (ap (λ (x : ℕ). padded_row p i x r fl) e)

  pub pads_end : data_count p ≤ k → padded_row p i (data_count p - k) r fl ≡ record { row = r; inflight = fl; drive = 0 }
  unfolding padded_row
  pads_end h =
      let e : data_count p - k ≡ 0 = omega arith in
      ap (λ (x : ℕ). padded_row p i x r fl) e

  -- one more is filled
  pub pad_filled : k ≡ r.filled → k + 1 ≡ (pad_one p i r fl).row.filled
  unfolding placed_row_of added_row
  pad_filled e = omega (arith, e)

pad_sized : (p : Params) (i : ℕ) (r : Row) (fl : List ℕ) → RowSized r → RowSized (pad_one p i r fl).row
unfolding placed_row_of
pad_sized p i r fl z = added_sized r padding_address 0 0 z

pads_sized : (p : Params) (i k : ℕ) (r : Row) (fl : List ℕ) → RowSized r → RowSized (padded_row p i k r fl).row
unfolding padded_row
pads_sized p i zero r fl z = z
pads_sized p i (suc k) r fl z = pads_sized p i k (pad_one p i r fl).row (pad_one p i r fl).inflight (pad_sized p i r fl z)

filled-one : (p : Params) (i : ℕ) (st : State) (fl : List ℕ) → (pad_one p i (slot_row st i) fl).row.filled ≡ suc (filled_in_of st i)
unfolding placed_row_of added_row slot_row
filled-one p i st fl = refl

-- what it leaves of the state
abbrev put : State → ℕ → PlacedRow → Placed
put st i q = mk_placed (put_row st i q.row) q.inflight q.drive

pub padded_row_lem : (p : Params) (i k : ℕ) (st : State) (fl : List ℕ) → i < 8 → RowsSized st → filled_in_of st i + k ≤ 8
    → put st i (padded_row p i k (slot_row st i) fl) ≡ padded p i k st fl
unfolding padded padded_row
padded_row_lem p i zero st fl h z g = ap (λ (x : State). mk_placed x fl 0) (put_row_holds st i h z)
padded_row_lem p i (suc k) st fl h z g =
    let r = slot_row st i in
    let q = pad_one p i r fl in
    let zq : RowSized q.row = pad_sized p i r fl (row_sized st i h z) in
    let st' = put_row st i q.row in
    let e : slot_row st' i ≡ q.row = row_put st i h z q.row zq in
    let n : filled_in_of st' i ≡ suc (filled_in_of st i) = sym (row_filled st' i) ∙ ap (λ (x : Row). x.filled) e ∙ filled-one p i st fl in
    let ih : put st' i (padded_row p i k (slot_row st' i) q.inflight) ≡ padded p i k st' q.inflight =
    padded_row_lem p i k st' q.inflight h (put_sized st i h z q.row zq) (omega (arith, n)) in
    let o : PlacedRow = padded_row p i k q.row q.inflight in
    ap (λ (x : State). mk_placed x o.inflight o.drive) (sym (put-put st i h z q.row zq o.row (pads_sized p i k q.row q.inflight zq)))
    ∙ ap (λ (x : Row). put st' i (padded_row p i k x q.inflight)) (sym e) ∙ ih
    ∙ ap (λ (x : Placed). padded p i k x.state x.inflight) (placed_row st i h z p fl padding_address 0 0 (replicate p.B 0) (omega arith))
