-- The state's bytes, section by section: what is read fits its width, and all are bytes; a state that fits is read back. Assumes nothing.
use Rattle.std.specs.Prelude.{◌≡◌, map, List, [], ◌∷◌, length, drop, replicate}
use Rattle.std.proofs.Math.Path.{refl, subst}
use Rattle.std.proofs.Common.{sym, mod-lt, lit<, length-take}
use Prim.Native.Nat.{ℕ, zero, suc, ◌+◌, ◌*◌, ◌/◌, ◌^◌, ◌≤◌, ◌<◌}
use native.Mathlib.Omega.{arith}
use Rattle.std.proofs.Math.Decide.{dec_lt}
use Rattle.std.proofs.Math.Nat.{pow-le-pow_right, one-le-pow}
use Rattle.std.proofs.Math.ListN.{get_or, get_or-eq_default}
use Rattle.std.proofs.lemmas.List.{length-map}
use Rattle.spec.specs.declared.State.{State}
use Rattle.spec.specs.Bytes.{le_of, to_le, part}
use Rattle.spec.specs.Lists.{up_from, below, flat, total, zipped}
use Rattle.spec.specs.Memory.{idle_state, zero_state, Section, section, state_sections, section_len, section_at, state_len, numbers_at, section_of, number_of}
use Rattle.spec.specs.Memory.{state_numbers, section_bytes, state_bytes, state_of}
use Rattle.law_basic.specs.Le.{le_of_lt}
use Rattle.law_basic.specs.Ranges.{length-below, get_d_map-below}
use Rattle.law_basic.specs.Sections.{length-numbers_at, SectionCounts, Fitting, sections_bytes, length_sections}
use Rattle.law_drives.specs.Image.{bytes_part}
use Rattle.law_drives.specs.Laid.{bytes_nil, bytes_append}
use Rattle.law_drives.specs.Zones.{Bytes}

-- ---- one section

bytes_to_le : (w n : ℕ) → Bytes (to_le w n)
unfolding to_le
bytes_to_le zero n i = bytes_nil i
bytes_to_le (suc w) n zero = mod-lt n (lit< tt)
bytes_to_le (suc w) n (suc i) = bytes_to_le w (n / 256) i

-- what is read from w bytes is below 256 ^ w
part_low : (w at : ℕ) (bs : List ℕ) → Bytes bs → le_of (part at w bs) < 256 ^ w
part_low w at bs h =
    let q = part at w bs in
    let m : 256 ^ length q ≤ 256 ^ w = pow-le-pow_right (lit< tt) {i = length q} {j = w} short in
    let b = le_of_lt q (λ k l. bytes_part at w bs h k) in
    omega arith
  where
    short : length (part at w bs) ≤ w
    short = unfold part in subst (λ (x : ℕ). x ≤ w) (sym (length-take w (drop at bs))) (omega arith)

numbers_low : (w n at : ℕ) (bs : List ℕ) → Bytes bs → (k : ℕ) → get_or (numbers_at w n at bs) k 0 < 256 ^ w
unfolding numbers_at
numbers_low w n at bs h k = go (dec_lt k n)
  where
    go : Dec (k < n) → get_or (map (λ i. le_of (part (at + w * i) w bs)) (below n)) k 0 < 256 ^ w
    go (yes l) = subst (λ (x : ℕ). x < 256 ^ w) (sym (get_d_map-below (λ (i : ℕ). le_of (part (at + w * i) w bs)) n k 0 l)) (part_low w (at + w * k) bs h)
    go (no l) =
        let e : length (map (λ i. le_of (part (at + w * i) w bs)) (below n)) ≤ k = simp (length-map, length-below) (omega arith) in
        subst (λ (x : ℕ). x < 256 ^ w) (sym (get_or-eq_default (map (λ i. le_of (part (at + w * i) w bs)) (below n)) 0 {n = k} e))
        (one-le-pow w 256 (lit< {m = 0} {n = 256} tt))

-- ---- sections one after the other

-- n numbers below m
abbrev pub LowList : ℕ → ℕ → List ℕ → Type 0
LowList n m l = (length l ≡ n) × ((k : ℕ) → get_or l k 0 < m)

bytes_section : (s : Section) (ns : List ℕ) → Bytes (section_bytes s ns)
unfolding section_bytes flat
bytes_section s [] = bytes_nil
bytes_section s (n ∷ ns) = bytes_append (to_le s.width n) (flat (to_le s.width) ns) (bytes_to_le s.width n) (bytes_section s ns)

bytes_sections : (ss : List Section) (nss : List (List ℕ)) → Bytes (sections_bytes ss nss)
unfolding flat zipped
bytes_sections [] nss = bytes_nil
bytes_sections (s ∷ ss) [] = bytes_nil
bytes_sections (s ∷ ss) (ns ∷ nss) = bytes_append (section_bytes s ns) (sections_bytes ss nss) (bytes_section s ns) (bytes_sections ss nss)

-- ---- the state

-- 01, The array: width and count of section i, and the bound of its numbers
abbrev pub wide : ℕ → ℕ
wide i = (get_or state_sections i (section 0 0)).width

abbrev pub many : ℕ → ℕ
many i = (get_or state_sections i (section 0 0)).count

abbrev pub limit : ℕ → ℕ
limit i = 256 ^ wide i

pub limit_pos : (i : ℕ) → 0 < limit i
limit_pos i = one-le-pow (wide i) 256 (lit< {m = 0} {n = 256} tt)

-- each number of the state fits the width of its section, each list has its length
pub record StateFits (st : State) : Type 0 where
  pub live_fits : st.live < limit 0
  pub missing_fits : st.missing < limit 1
  pub stamp_fits : st.stamp.0 < limit 2
  pub serial_fits : st.serial.0 < limit 3
  pub opened_fits : st.opened < limit 4
  pub next_fits : st.next < limit 5
  pub numbers_fit : LowList (many 6) (limit 6) st.numbers
  pub filled_fit : LowList (many 7) (limit 7) st.filled
  pub writes_fit : LowList (many 8) (limit 8) st.writes
  pub landed_fit : LowList (many 9) (limit 9) st.landed
  pub addresses_fit : LowList (many 10) (limit 10) st.addresses
  pub stamps_fit : LowList (many 11) (limit 11) st.stamps
  pub offsets_fit : LowList (many 12) (limit 12) st.offsets

-- what is decoded from bytes fits
pub fits_state_of : (bs : List ℕ) → Bytes bs → StateFits (state_of bs)
unfolding state_of number_of section_of
fits_state_of bs h = record {
  live_fits = numbers_low (wide 0) (many 0) (section_at 0) bs h 0;
  missing_fits = numbers_low (wide 1) (many 1) (section_at 1) bs h 0;
  stamp_fits = numbers_low (wide 2) (many 2) (section_at 2) bs h 0;
  serial_fits = numbers_low (wide 3) (many 3) (section_at 3) bs h 0;
  opened_fits = numbers_low (wide 4) (many 4) (section_at 4) bs h 0;
  next_fits = numbers_low (wide 5) (many 5) (section_at 5) bs h 0;
  numbers_fit = (length-numbers_at (wide 6) (many 6) (section_at 6) bs, numbers_low (wide 6) (many 6) (section_at 6) bs h);
  filled_fit = (length-numbers_at (wide 7) (many 7) (section_at 7) bs, numbers_low (wide 7) (many 7) (section_at 7) bs h);
  writes_fit = (length-numbers_at (wide 8) (many 8) (section_at 8) bs, numbers_low (wide 8) (many 8) (section_at 8) bs h);
  landed_fit = (length-numbers_at (wide 9) (many 9) (section_at 9) bs, numbers_low (wide 9) (many 9) (section_at 9) bs h);
  addresses_fit = (length-numbers_at (wide 10) (many 10) (section_at 10) bs, numbers_low (wide 10) (many 10) (section_at 10) bs h);
  stamps_fit = (length-numbers_at (wide 11) (many 11) (section_at 11) bs, numbers_low (wide 11) (many 11) (section_at 11) bs h);
  offsets_fit = (length-numbers_at (wide 12) (many 12) (section_at 12) bs, numbers_low (wide 12) (many 12) (section_at 12) bs h);
}

-- what is encoded is bytes
pub bytes_state_bytes : (st : State) → Bytes (state_bytes st)
unfolding state_bytes
bytes_state_bytes st = bytes_sections state_sections (state_numbers st)

module _ (st : State) (f : StateFits st) where
  -- such a state has its counts, and its numbers fit their widths
  pub state_sections_counted : SectionCounts state_sections (state_numbers st)
  unfolding state_sections state_numbers
  state_sections_counted = (
    refl,
    (
      refl,
      (
        refl,
        (
          refl,
          (
            refl,
            (
              refl,
              (
                f.numbers_fit.0,
                (
                  f.filled_fit.0,
                  (
                    f.writes_fit.0,
                    (
                      f.landed_fit.0,
                      (f.addresses_fit.0, (f.stamps_fit.0, (f.offsets_fit.0, tt))),
                    ),
                  ),
                ),
              ),
            ),
          ),
        ),
      ),
    ),
  )

  pub fitting : Fitting state_sections (state_numbers st)
  unfolding state_sections state_numbers
  fitting = (
    one (limit 0) st.live f.live_fits,
    (
      one (limit 1) st.missing f.missing_fits,
      (
        one (limit 2) st.stamp.0 f.stamp_fits,
        (
          one (limit 3) st.serial.0 f.serial_fits,
          (
            one (limit 4) st.opened f.opened_fits,
            (
              one (limit 5) st.next f.next_fits,
              (
                λ k l. f.numbers_fit.1 k,
                (
                  λ k l. f.filled_fit.1 k,
                  (
                    λ k l. f.writes_fit.1 k,
                    (λ k l. f.landed_fit.1 k, (λ k l. f.addresses_fit.1 k, (λ k l. f.stamps_fit.1 k, (λ k l. f.offsets_fit.1 k, tt)))),
                  ),
                ),
              ),
            ),
          ),
        ),
      ),
    ),
  )
    where
      one : (m n : ℕ) → n < m → (k : ℕ) → k < 1 → get_or (n ∷ []) k 0 < m
      one m n h zero l = h
      one m n h (suc k) l = absurd (let q : ⊥ = omega arith in q)

  -- a state that fits has its bytes
  pub length-state_bytes : length (state_bytes st) ≡ state_len
  unfolding state_bytes state_len
  length-state_bytes = length_sections state_sections (state_numbers st) state_sections_counted

-- 01, Store count: zeros are the state that a cut leaves
pub state_of_zeros : state_of (replicate state_len 0) ≡ zero_state
unfolding state_of number_of section_of section_at section_len state_sections total numbers_at below up_from part le_of zero_state idle_state state_len
state_of_zeros = refl
