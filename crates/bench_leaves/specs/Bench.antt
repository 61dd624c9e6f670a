-- What the exports for the benchmark do (01, The array). Assumes nothing.
use Rattle.std.specs.Prelude.{◌≡◌, refl, map, List, cond, ℕ, ◌+◌, ◌*◌, ◌≤◌, ◌<◌, leb, eqb, length, take, set}
use Rattle.std.proofs.Common.{sym, ap, ap₂, ◌∙◌, arith, zero-add}
use Rattle.std.specs.Int.Bits.{bit_xor}
use Rattle.spec.specs.Bytes.{be_of, to_be, part, splice, xor_all}
use Rattle.spec.specs.Lists.{up_from, below, flat}
use Rattle.spec.specs.Memory.{mk_state, state_len, state_bytes, state_of}
use Rattle.spec.specs.declared.State.{State}
use Rattle.mem_codec.specs.Codec.{written_one}
use Rattle.law_basic.specs.Be.{length-to_be}
use Rattle.law_basic.specs.Ranges.{map-below-snoc, length_up_from, get_d_up_from}
use Rattle.law_basic.specs.Xor.{xor_all-snoc}

-- 01, Write: v at cell k of the addresses, stamps and offsets
unfoldable pub set_cell : State → ℕ → ℕ → State
set_cell st k v =
    mk_state st.live st.missing st.stamp.0 st.serial.0 st.opened st.next st.numbers st.filled st.writes st.landed
    (set st.addresses k v) (set st.stamps k v) (set st.offsets k v)

-- the bytes of the state in bs, so changed, where the lengths and k fit; else the bytes in l
unfoldable pub bench_changed : List ℕ → List ℕ → ℕ → ℕ → List ℕ
bench_changed l bs k v = cond (eqb (length bs) state_len) (cond (eqb (length l) state_len) (cond (leb 64 k) l (state_bytes (set_cell (state_of bs) k v))) l) l

-- 01, The array: n big-endian numbers of 8 bytes
unfoldable pub longs_in : ℕ → List ℕ → List ℕ
longs_in n bs = map (λ i. be_of (part (8 * i) 8 bs)) (below n)

-- one number more
pub fold_none : (bs : List ℕ) → 0 ≡ xor_all (longs_in 0 bs)
unfolding longs_in below up_from xor_all
fold_none bs = refl

pub fold_one : (bs : List ℕ) (i x n : ℕ) → x ≡ xor_all (longs_in i bs) → n ≡ be_of (part (8 * i) 8 bs) → bit_xor x n ≡ xor_all (longs_in (i + 1) bs)
unfolding longs_in
fold_one bs i x n e f =
    ap₂ bit_xor e f ∙ sym (xor_all-snoc (longs_in i bs) (be_of (part (8 * i) 8 bs))) ∙ ap xor_all (sym (map-below-snoc (λ (k : ℕ). be_of (part (8 * k) 8 bs)) i))

pub run_one : (l l' l'' : List ℕ) (i n first : ℕ) → i < n → 8 * n ≤ length l → l' ≡ splice l 0 (flat (to_be 8) (take i (up_from first n)))
    → l'' ≡ splice l' (8 * i) (to_be 8 (first + i)) → l'' ≡ splice l 0 (flat (to_be 8) (take (i + 1) (up_from first n)))
run_one l l' l'' i n first h g e f =
    written_one (to_be 8) 8 (length-to_be 8) 0 i l l' l'' (up_from first n) (omega (arith, length_up_from first n)) (omega arith) e
    (f ∙ ap₂ (λ (x y : ℕ). splice l' x (to_be 8 y)) (sym (zero-add (8 * i))) (sym (get_d_up_from first n i 0 h)))
