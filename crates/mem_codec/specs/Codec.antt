-- The state as bytes: sections of little-endian numbers read and written, over width and count; what is written is read back (01, The array). Assumes nothing.
use Rattle.std.specs.Prelude.{◌≡◌, refl, map, List, [], ◌∷◌, ◌++◌, ℕ, suc, ◌+◌, ◌*◌, ◌≤◌, ◌<◌, length, get_or, take, drop, set}
use Rattle.std.proofs.Math.Path.{sym}
use Rattle.std.proofs.Common.{ap, ap₂, ◌∙◌, append-nil, arith, add-one, add-zero, mul_comm}
use Rattle.std.proofs.Common.{mod-eq_of_lt, lit<, length-set, drop_of_length-le, drop-cons, length-take-le, take_all, mul-add, mul-le-mul_left}
use Rattle.std.proofs.lemmas.List.{set_at}
use Rattle.std.proofs.Math.Seq.{append_snoc}
use Rattle.spec.specs.Bytes.{le_of, to_le, part, splice}
use Rattle.spec.specs.Lists.{up_from, below, flat, total, zipped}
use Rattle.spec.specs.Memory.{Section, section, state_sections, section_len, section_at, state_len, numbers_at, section_of, number_of, state_numbers, section_bytes, state_bytes, state_of, mk_state}
use Rattle.spec.specs.declared.State.{State}
use Rattle.law_basic.specs.Ranges.{map-below-snoc, get_d_map-below, flat-snoc, length-flat}
use Rattle.law_basic.specs.Sections.{length-numbers_at, SectionCounts, sections_bytes, length-section, length_sections}
use Rattle.law_basic.specs.Splice.{length-splice, splice-nil, splice_next, splice_all, wrote_one}
use Rattle.law_basic.specs.Turns.{take_more}

-- ---- a section read: the first i numbers, then what the array held

pub read_none : (w at : ℕ) (bs z : List ℕ) → z ≡ numbers_at w 0 at bs ++ drop 0 z
unfolding numbers_at below up_from
read_none w at bs z = refl

pub read_one : (w at i : ℕ) (bs z out : List ℕ) (v : ℕ) → i < length z → out ≡ numbers_at w i at bs ++ drop i z → v ≡ le_of (part (at + w * i) w bs)
    → set out i v ≡ numbers_at w (i + 1) at bs ++ drop (i + 1) z
unfolding numbers_at
read_one w at i bs z out v h e f =
    let ns : List ℕ = numbers_at w i at bs in
    let b : ℕ = le_of (part (at + w * i) w bs) in
    ap₂ (λ (x : List ℕ) (y : ℕ). set x i y) e f
    ∙ rw (drop-cons z i 0, add-one)
    (set_at ns (get_or z i 0) (drop (suc i) z) b i (length-numbers_at w i at bs)
    ∙ sym (append_snoc ns b (drop (suc i) z))
    ∙ ap (λ (x : List ℕ). x ++ drop (suc i) z) (sym (map-below-snoc (λ (k : ℕ). le_of (part (at + w * k) w bs)) i) ∙ ap (λ (k : ℕ). numbers_at w k at bs) (add-one i)))

pub read_all : (w at i n : ℕ) (bs z out : List ℕ) → i ≡ n → length z ≡ n → out ≡ numbers_at w i at bs ++ drop i z → out ≡ numbers_at w n at bs
read_all w at i n bs z out q h e =
    let f : length z ≤ n = omega arith in
    e ∙ ap (λ (k : ℕ). numbers_at w k at bs ++ drop k z) q
    ∙ ap (λ (x : List ℕ). numbers_at w n at bs ++ x) (drop_of_length-le z f) ∙ append-nil (numbers_at w n at bs)

-- number i of n ends within them
pub number_fits : (w v n i at m : ℕ) → v ≡ w → i < n → at + w * n ≤ m → at + v * i + w ≤ m
number_fits w v n i at m e h g =
    let k : i + 1 ≤ n = omega (arith, h) in
    let f : w * (i + 1) ≤ w * n = mul-le-mul_left w k in
    rw e (omega (arith, g, f, mul-add w i 1))

-- a section of one number
pub number_one : (w at : ℕ) (bs : List ℕ) → get_or (numbers_at w 1 at bs) 0 0 ≡ le_of (part at w bs)
unfolding numbers_at
number_one w at bs =
    get_d_map-below (λ (i : ℕ). le_of (part (at + w * i) w bs)) 1 0 0 (lit< tt)
    ∙ ap (λ (x : ℕ). le_of (part x w bs)) (let e : at + w * 0 ≡ at = omega arith in e)

-- ---- a section written: the first i numbers, each in the w bytes that e gives

module _ (e : ℕ → List ℕ) (w : ℕ) (long : (n : ℕ) → length (e n) ≡ w) where
  pub length_numbers : (ns : List ℕ) → length (flat e ns) ≡ w * length ns
  length_numbers ns = length-flat e w ns long ∙ mul_comm (length ns) w

  pub written_none : (at : ℕ) (l ns : List ℕ) → l ≡ splice l at (flat e (take 0 ns))
  unfolding flat
  written_none at l ns = sym (splice-nil l at)

  pub written_one : (at i : ℕ) (l l' l'' ns : List ℕ) → i < length ns → at + w * i + w ≤ length l → l' ≡ splice l at (flat e (take i ns))
      → l'' ≡ splice l' (at + w * i) (e (get_or ns i 0)) → l'' ≡ splice l at (flat e (take (i + 1) ns))
  written_one at i l l' l'' ns h g p q =
      let s : List ℕ = flat e (take i ns) in
      let b : List ℕ = e (get_or ns i 0) in
      let m : length s ≡ w * i = length_numbers (take i ns) ∙ ap (λ (x : ℕ). w * x) (length-take-le i ns (omega arith)) in
      let f : length b ≡ w = long (get_or ns i 0) in
      q ∙ ap (λ (x : List ℕ). splice x (at + w * i) b) p ∙ ap (λ (x : ℕ). splice (splice l at s) (at + x) b) (sym m) ∙ splice_next l at s b (omega arith)
      ∙ ap (splice l at) (sym (flat-snoc e (take i ns) (get_or ns i 0)) ∙ ap (flat e) (take_more ns i h))

  pub written_all : (at i : ℕ) (l l' ns : List ℕ) → length ns ≤ i → l' ≡ splice l at (flat e (take i ns)) → l' ≡ splice l at (flat e ns)
  written_all at i l l' ns h p = p ∙ ap (λ (x : List ℕ). splice l at (flat e x)) (take_all i ns h)

-- a byte stored, and bytes, are sections of width 1
pub byte_written : (l : List ℕ) (at v : ℕ) → v < 256 → at < length l → set l at v ≡ splice l at (to_le 1 v)
unfolding to_le
byte_written l at v h g =
    ap (λ (i : ℕ). set l i v) (sym (add-zero at)) ∙ wrote_one l l at 0 [] v (sym (splice-nil l at)) refl (omega arith)
    ∙ ap (λ (x : ℕ). splice l at (x ∷ [])) (sym (mod-eq_of_lt h))

pub bytes_same : (ns : List ℕ) → ((k : ℕ) → k < length ns → get_or ns k 0 < 256) → flat (to_le 1) ns ≡ ns
unfolding flat to_le
bytes_same [] f = refl
bytes_same (n ∷ ns) f = ap₂ ◌∷◌ (mod-eq_of_lt (f 0 (omega arith))) (bytes_same ns (λ k h. f (suc k) (omega arith)))

-- ---- the sections of the state

pub state_len_lem : state_len ≡ 1366
unfolding state_len section_len state_sections total
state_len_lem = refl

-- each field by its width, count and offset
pub state_read : (bs : List ℕ) → state_of bs ≡ mk_state (le_of (part 0 1 bs)) (le_of (part 1 1 bs)) (le_of (part 2 8 bs)) (le_of (part 10 8 bs)) (le_of (part 18 8 bs)) (le_of (part 26 4 bs))
    (numbers_at 4 8 30 bs) (numbers_at 1 8 62 bs) (numbers_at 1 8 70 bs) (numbers_at 1 8 78 bs) (numbers_at 8 64 86 bs) (numbers_at 8 64 598 bs) (numbers_at 4 64 1110 bs)
unfolding state_of number_of section_of section_at section_len state_sections total
state_read bs =
    λ j.
    mk_state (number_one 1 0 bs j) (number_one 1 1 bs j) (number_one 8 2 bs j) (number_one 8 10 bs j) (number_one 8 18 bs j) (number_one 4 26 bs j)
    (numbers_at 4 8 30 bs) (numbers_at 1 8 62 bs) (numbers_at 1 8 70 bs) (numbers_at 1 8 78 bs) (numbers_at 8 64 86 bs) (numbers_at 8 64 598 bs) (numbers_at 4 64 1110 bs)

-- ---- sections one after the other

-- the sections written one at a time, from index at
unfoldable pub put_sections : List ℕ → ℕ → List Section → List (List ℕ) → List ℕ
put_sections l at [] nss = l
put_sections l at (s ∷ ss) [] = l
put_sections l at (s ∷ ss) (ns ∷ nss) = put_sections (splice l at (section_bytes s ns)) (at + section_len s) ss nss

-- all of them at once
pub sections_written : (l : List ℕ) (at : ℕ) (ss : List Section) (nss : List (List ℕ)) → SectionCounts ss nss → at + total (map section_len ss) ≤ length l
    → put_sections l at ss nss ≡ splice l at (sections_bytes ss nss)
unfolding put_sections flat zipped total
sections_written l at [] nss h g = sym (splice-nil l at)
sections_written l at (s ∷ ss) [] h g = absurd h
sections_written l at (s ∷ ss) (ns ∷ nss) h g =
    let b : List ℕ = section_bytes s ns in
    let t : List ℕ = sections_bytes ss nss in
    let n : length b ≡ section_len s = length-section s ns h.0 in
    let m : length t ≡ total (map section_len ss) = length_sections ss nss h.1 in
    let e : length (splice l at b) ≡ length l = length-splice l at b (omega arith) in
    sections_written (splice l at b) (at + section_len s) ss nss h.1 (omega arith)
    ∙ ap (λ (x : ℕ). splice (splice l at b) (at + x) t) (sym n) ∙ splice_next l at b t (omega arith)

-- ---- the state written

-- the six numbers in front of the arrays
abbrev pub front_numbers : ℕ → ℕ → ℕ → ℕ → ℕ → ℕ → List (List ℕ)
front_numbers live gone stamp serial opened next =
    (live ∷ []) ∷ (gone ∷ []) ∷ (stamp ∷ []) ∷ (serial ∷ []) ∷ (opened ∷ []) ∷ (next ∷ []) ∷ []

section-one : (w n : ℕ) → section_bytes (section w 1) (n ∷ []) ≡ to_le w n
unfolding section_bytes flat
section-one w n = append-nil (to_le w n)

pub state_front_written : (l : List ℕ) (live gone stamp serial opened next : ℕ) → live < 256 → gone < 256 → 30 ≤ length l
    → splice (splice (splice (splice (set (set l 0 live) 1 gone) 2 (to_le 8 stamp)) 10 (to_le 8 serial)) 18 (to_le 8 opened)) 26 (to_le 4 next)
    ≡ put_sections l 0 (take 6 state_sections) (front_numbers live gone stamp serial opened next)
unfolding put_sections state_sections section_len
state_front_written l live gone stamp serial opened next h g f =
    let k : 1 < length (set l 0 live) = simp length-set (omega arith) in
    simp section-one
    (ap (λ (x : List ℕ). splice (splice (splice (splice x 2 (to_le 8 stamp)) 10 (to_le 8 serial)) 18 (to_le 8 opened)) 26 (to_le 4 next))
    (byte_written (set l 0 live) 1 gone g k ∙ ap (λ (x : List ℕ). splice x 1 (to_le 1 gone)) (byte_written l 0 live h (omega arith))))

pub state_written : (l : List ℕ) (st : State) → length l ≡ state_len → SectionCounts state_sections (state_numbers st)
    → put_sections l 0 state_sections (state_numbers st) ≡ state_bytes st
unfolding state_bytes state_len
state_written l st h g =
    let n : length (sections_bytes state_sections (state_numbers st)) ≡ length l = length_sections state_sections (state_numbers st) g ∙ sym h in
    sections_written l 0 state_sections (state_numbers st) g (omega arith) ∙ splice_all l (sections_bytes state_sections (state_numbers st)) n
