-- An eighth of the state by value, and the state after a change (01, Write; Landing; Store count). Laws field by field, from those of lists. Assumes nothing.
use mathlib.Core.List.{List, [], ◌∷◌, ◌++◌}
use Rattle.std.specs.Prelude.{Bool, true, false, cond, ◌≡◌, refl, ℕ, suc, ◌+◌, ◌*◌, ◌≤◌, ◌<◌, ltb, take, drop, set, replicate}
use Rattle.std.proofs.Common.{sym, ap, ap₂, ◌∙◌, set-set, arith, lt-ltb}
use Rattle.std.proofs.Math.ListN.{length, get_or, length-set}
use Rattle.std.proofs.lemmas.List.{set_split, set-get_or}
use Rattle.std.proofs.Math.Seq.{get_or-set_same}
use Rattle.mem_rows.specs.declared.Row.{Row}
use Rattle.mem_rows.specs.declared.Change.{Change}
use Rattle.mem_rows.specs.declared.Front.{Front}
use Rattle.spec.specs.declared.Answer.{Answer}
use Rattle.spec.specs.declared.State.{State}
use Rattle.spec.specs.Answers.{is_refused, is_cut_of}
use Rattle.spec.specs.Bytes.{part, splice}
use Rattle.spec.specs.Calls.{After, mk_after}
use Rattle.spec.specs.Drives.{Disk, mk_disk}
use Rattle.spec.specs.Memory.{mk_memory, mk_state, slot_count, cell, zero_state, stripe_in, filled_in_of, landed_in}
use Rattle.law_basic.specs.Splice.{length_part, length-splice, part-splice, splice-part, splice_inner, splice_again}

-- 01, Write: eighth i of the state
unfoldable pub slot_row : State → ℕ → Row
slot_row st i = record {
  number = stripe_in st i;
  filled = filled_in_of st i;
  writes = get_or st.writes i 0;
  landed = landed_in st i;
  addresses = part (cell i 0) 8 st.addresses;
  stamps = part (cell i 0) 8 st.stamps;
  offsets = part (cell i 0) 8 st.offsets;
}

-- the state with eighth i replaced
unfoldable pub put_row : State → ℕ → Row → State
put_row st i r =
    mk_state st.live st.missing st.stamp.0 st.serial.0 st.opened st.next (set st.numbers i r.number) (set st.filled i r.filled)
    (set st.writes i r.writes) (set st.landed i r.landed) (splice st.addresses (cell i 0) r.addresses) (splice st.stamps (cell i 0) r.stamps)
    (splice st.offsets (cell i 0) r.offsets)

-- the numbers in front replaced
unfoldable pub put_front : State → Change → State
put_front st c =
    mk_state st.live st.missing c.stamp.0 c.serial.0 c.opened c.next st.numbers st.filled st.writes st.landed st.addresses
    st.stamps st.offsets

-- the state with the change made
unfoldable pub changed : State → Change → State
changed st c = cond (ltb c.slot slot_count) (put_row (put_front st c) c.slot c.row) (put_front st c)

-- 01, Store count: a refusal leaves the state, a cut zeros, else the change is made
unfoldable pub state_after : State → Change → State
state_after st c = cond (is_refused c.answer) st (cond (is_cut_of c.answer) zero_state (changed st c))

-- all that a call leaves, its change made
abbrev pub after_change : State → Change → List ℕ → List ℕ → List ℕ → List ℕ → List ℕ → List ℕ → After Disk
after_change st c im ps ad co fl b = mk_after c.answer (mk_disk im ps) (mk_memory (state_after st c) ad co fl) b

-- the front of a state, and a state with that front and nothing else
abbrev pub front_of : State → Front
front_of st = record { stamp = st.stamp; serial = st.serial; opened = st.opened; next = st.next; numbers = st.numbers; filled = st.filled }

abbrev pub behind : Front → State
behind f = mk_state 0 0 f.stamp.0 f.serial.0 f.opened f.next f.numbers f.filled [] [] [] [] []

-- an eighth of zeros
unfoldable pub no_row : Row
no_row = record {
  number = 0;
  filled = 0;
  writes = 0;
  landed = 0;
  addresses = replicate 8 0;
  stamps = replicate 8 0;
  offsets = replicate 8 0;
}

-- an answer that changes nothing
abbrev pub kept_as : Answer → Front → Change
kept_as a f = record { answer = a; stamp = f.stamp; serial = f.serial; opened = f.opened; next = f.next; slot = 8; row = no_row }

-- ---- lengths

-- the arrays of a state have their lengths
pub record RowsSized (st : State) : Type 0 where
  pub numbers : length st.numbers ≡ 8
  pub filled : length st.filled ≡ 8
  pub writes : length st.writes ≡ 8
  pub landed : length st.landed ≡ 8
  pub addresses : length st.addresses ≡ 64
  pub stamps : length st.stamps ≡ 64
  pub offsets : length st.offsets ≡ 64

-- and those of an eighth
pub record RowSized (r : Row) : Type 0 where
  pub addresses : length r.addresses ≡ 8
  pub stamps : length r.stamps ≡ 8
  pub offsets : length r.offsets ≡ 8

-- eight of the 64
pub eighth_fits : (i : ℕ) (l : List ℕ) → i < 8 → length l ≡ 64 → cell i 0 + 8 ≤ length l
unfolding cell
eighth_fits i l h e = omega arith

-- ---- one number

-- a run of one number
pub one_set : (ns : List ℕ) (i v : ℕ) → i < length ns → splice ns i (v ∷ []) ≡ set ns i v
unfolding splice
one_set ns i v h =
    let e : i + 1 ≡ suc i = omega arith in
    ap (λ (x : ℕ). take i ns ++ (v ∷ drop x ns)) e ∙ sym (set_split ns i v h)

-- one cell of an eighth
pub cell-put : (l : List ℕ) (i k v : ℕ) → i < 8 → k < 8 → length l ≡ 64 → splice l (cell i 0) (set (part (cell i 0) 8 l) k v) ≡ set l (cell i k) v
unfolding cell
cell-put l i k v h g e =
    let at = 8 * i + 0 in
    let s : List ℕ = part at 8 l in
    let fit : at + 8 ≤ length l = eighth_fits i l h e in
    let n : length s ≡ 8 = length_part at 8 l fit in
    let m : at + k ≡ 8 * i + k = omega arith in
    ap (splice l at) (sym (one_set s k v (omega arith))) ∙ sym (splice_inner l at s k (v ∷ []) (omega arith) (omega arith))
    ∙ ap₂ (λ (x : List ℕ) (y : ℕ). splice x y (v ∷ [])) (splice-part l at 8 fit) m ∙ one_set l (8 * i + k) v (omega arith)

-- ---- laws of an eighth

module _ (i : ℕ) (h : i < 8) (l : List ℕ) (s : List ℕ) (long : length l ≡ 64) (eight : length s ≡ 8) where
  fits : cell i 0 + length s ≤ length l
  fits = omega (arith, eighth_fits i l h long)

  part-put : part (cell i 0) 8 (splice l (cell i 0) s) ≡ s
  part-put = ap (λ (n : ℕ). part (cell i 0) n (splice l (cell i 0) s)) (sym eight) ∙ part-splice l (cell i 0) s fits

  put_long : length (splice l (cell i 0) s) ≡ 64
  put_long = length-splice l (cell i 0) s fits ∙ long

  put_over : (t : List ℕ) → length t ≡ 8 → splice (splice l (cell i 0) s) (cell i 0) t ≡ splice l (cell i 0) t
  put_over t q = splice_again l (cell i 0) s t fits (q ∙ sym eight)

module _ (st : State) (i : ℕ) (h : i < 8) (sized : RowsSized st) where
  -- an eighth put back
  pub put_row_holds : put_row st i (slot_row st i) ≡ st
  unfolding put_row slot_row stripe_in filled_in_of landed_in
  put_row_holds =
      let same : (l : List ℕ) → length l ≡ 64 → splice l (cell i 0) (part (cell i 0) 8 l) ≡ l = λ l e. splice-part l (cell i 0) 8 (eighth_fits i l h e) in
      λ j.
      mk_state st.live st.missing st.stamp.0 st.serial.0 st.opened st.next (set-get_or st.numbers i 0 j) (set-get_or st.filled i 0 j)
      (set-get_or st.writes i 0 j) (set-get_or st.landed i 0 j) (same st.addresses sized.addresses j) (same st.stamps sized.stamps j)
      (same st.offsets sized.offsets j)

  pub row_sized : RowSized (slot_row st i)
  unfolding slot_row
  row_sized = record {
    addresses = length_part (cell i 0) 8 st.addresses (eighth_fits i st.addresses h sized.addresses);
    stamps = length_part (cell i 0) 8 st.stamps (eighth_fits i st.stamps h sized.stamps);
    offsets = length_part (cell i 0) 8 st.offsets (eighth_fits i st.offsets h sized.offsets);
  }

  module _ (r : Row) (z : RowSized r) where
    pub put_sized : RowsSized (put_row st i r)
    unfolding put_row
    put_sized = record {
      numbers = length-set st.numbers i r.number ∙ sized.numbers;
      filled = length-set st.filled i r.filled ∙ sized.filled;
      writes = length-set st.writes i r.writes ∙ sized.writes;
      landed = length-set st.landed i r.landed ∙ sized.landed;
      addresses = put_long i h st.addresses r.addresses sized.addresses z.addresses;
      stamps = put_long i h st.stamps r.stamps sized.stamps z.stamps;
      offsets = put_long i h st.offsets r.offsets sized.offsets z.offsets;
    }

    -- what is put is read
    pub row_put : slot_row (put_row st i r) i ≡ r
    unfolding put_row slot_row stripe_in filled_in_of landed_in
    row_put =
        let same : (l : List ℕ) (v : ℕ) → length l ≡ 8 → get_or (set l i v) i 0 ≡ v = λ l v e. get_or-set_same l i v 0 (omega arith) in
        λ j. record {
          number = same st.numbers r.number sized.numbers j;
          filled = same st.filled r.filled sized.filled j;
          writes = same st.writes r.writes sized.writes j;
          landed = same st.landed r.landed sized.landed j;
          addresses = part-put i h st.addresses r.addresses sized.addresses z.addresses j;
          stamps = part-put i h st.stamps r.stamps sized.stamps z.stamps j;
          offsets = part-put i h st.offsets r.offsets sized.offsets z.offsets j;
        }

    -- the last one put stays
    pub put-put : (r' : Row) → RowSized r' → put_row (put_row st i r) i r' ≡ put_row st i r'
    unfolding put_row
    put-put r' z' =
        λ j.
        mk_state st.live st.missing st.stamp.0 st.serial.0 st.opened st.next (set-set st.numbers i r.number r'.number j)
        (set-set st.filled i r.filled r'.filled j) (set-set st.writes i r.writes r'.writes j) (set-set st.landed i r.landed r'.landed j)
        (put_over i h st.addresses r.addresses sized.addresses z.addresses r'.addresses z'.addresses j)
        (put_over i h st.stamps r.stamps sized.stamps z.stamps r'.stamps z'.stamps j)
        (put_over i h st.offsets r.offsets sized.offsets z.offsets r'.offsets z'.offsets j)

-- ---- laws of a change

-- a refusal
pub after-refused : (st : State) (c : Change) → is_refused c.answer ≡ true → state_after st c ≡ st
unfolding state_after
after-refused st c e = ap (λ (x : Bool). cond x st (cond (is_cut_of c.answer) zero_state (changed st c))) e

-- a cut
pub after-cut : (st : State) (c : Change) → is_refused c.answer ≡ false → is_cut_of c.answer ≡ true → state_after st c ≡ zero_state
unfolding state_after
after-cut st c e f = ap₂ (λ (x y : Bool). cond x st (cond y zero_state (changed st c))) e f

-- neither
pub after_done : (st : State) (c : Change) → is_refused c.answer ≡ false → is_cut_of c.answer ≡ false → state_after st c ≡ changed st c
unfolding state_after
after_done st c e f = ap₂ (λ (x y : Bool). cond x st (cond y zero_state (changed st c))) e f

-- one eighth changes
pub changed_row : (st : State) (c : Change) → c.slot < 8 → changed st c ≡ put_row (put_front st c) c.slot c.row
unfolding changed slot_count
changed_row st c h = ap (λ (x : Bool). cond x (put_row (put_front st c) c.slot c.row) (put_front st c)) (lt-ltb c.slot 8 h)

-- nothing changes
pub changed_none : (st : State) (a : Answer) → changed st (kept_as a (front_of st)) ≡ st
unfolding changed slot_count put_front
changed_none st a = refl
