-- The state's bytes, section by section: what is written is read back, and what is read is written back (01, The array). By induction on the numbers of a section, then on the sections.
-- Assumes nothing.
use Rattle.std.specs.Prelude.{◌≡◌, refl, List, [], ◌∷◌, map, ◌++◌, ℕ, ◌^◌, ◌<◌, ◌≤◌, ◌*◌, ◌+◌, zero, suc, length, get_or, take}
use Rattle.std.proofs.Math.Path.{ap}
use Rattle.std.proofs.Common.{◌∙◌, ap₂, sym, subst, append_assoc, add_comm, mul-zero, mul-suc, zero-add, add_assoc, mul_comm, add-one, lit<, length-append, ext_get_or}
use native.Mathlib.Omega.{arith}
use Rattle.std.proofs.lemmas.List.{length-map}
use Rattle.spec.specs.declared.State.{State}
use Rattle.spec.specs.Bytes.{to_le, part, le_of}
use Rattle.spec.specs.Lists.{up_from, below, flat, zipped, total}
use Rattle.spec.specs.Memory.{numbers_at, Section, section_bytes, section_len, section, state_sections, section_at, state_len, section_of, number_of, state_numbers, state_bytes, state_of, mk_state}
use Rattle.law_basic.specs.Le.{length-to_le, le_of_to_le, to_le_le_of}
use Rattle.law_basic.specs.Ranges.{length-below, get_d_map-below, map-below_same, map-below-snoc, length-flat, flat-snoc}
use Rattle.law_basic.specs.Splice.{length_part, get_d_part, part-zero, part-add, part-all, part-append_left, part-append_right}

pub length-numbers_at : (w n at : ℕ) (bs : List ℕ) → length (numbers_at w n at bs) ≡ n
unfolding numbers_at
length-numbers_at w n at bs = simp length-map (length-below n)

-- each section has as many numbers as its count
abbrev pub SectionCounts : List Section → List (List ℕ) → Type 0
SectionCounts [] nss = Unit {0}
SectionCounts (s ∷ ss) [] = ⊥
SectionCounts (s ∷ ss) (ns ∷ nss) = (length ns ≡ s.count) × SectionCounts ss nss

-- each number fits the width of its section
abbrev pub Fitting : List Section → List (List ℕ) → Type 0
Fitting [] nss = Unit {0}
Fitting (s ∷ ss) [] = ⊥
Fitting (s ∷ ss) (ns ∷ nss) = ((k : ℕ) → k < length ns → get_or ns k 0 < 256 ^ s.width) × Fitting ss nss

-- their bytes
abbrev pub sections_bytes : List Section → List (List ℕ) → List ℕ
sections_bytes ss nss = flat (λ (bs : List ℕ). bs) (zipped section_bytes ss nss)

pub length-section : (s : Section) (ns : List ℕ) → length ns ≡ s.count → length (section_bytes s ns) ≡ section_len s
unfolding section_bytes section_len
length-section s ns e = length-flat (to_le s.width) s.width ns (length-to_le s.width) ∙ mul_comm (length ns) s.width ∙ ap (λ (x : ℕ). s.width * x) e

pub length_sections : (ss : List Section) (nss : List (List ℕ)) → SectionCounts ss nss → length (sections_bytes ss nss) ≡ total (map section_len ss)
unfolding flat zipped total
length_sections [] nss h = refl
length_sections (s ∷ ss) [] h = absurd h
length_sections (s ∷ ss) (ns ∷ nss) h =
    length-append (section_bytes s ns) (sections_bytes ss nss) ∙ ap₂ ◌+◌ (length-section s ns h.0) (length_sections ss nss h.1)

-- number k of a section
pub number_part : (w k : ℕ) (ns rest : List ℕ) → k < length ns → part (w * k) w (flat (to_le w) ns ++ rest) ≡ to_le w (get_or ns k 0)
unfolding flat
number_part w k [] rest h = absurd (let q : ⊥ = omega arith in q)
number_part w zero (n ∷ ns) rest h =
    let b : List ℕ = to_le w n in
    let e : length b ≡ w = length-to_le w n in
    let z : w * 0 ≡ 0 = mul-zero w in
    ap₂ (λ (x : ℕ) (y : List ℕ). part x w y) z (append_assoc b (flat (to_le w) ns) rest)
    ∙ part-append_left 0 w b (flat (to_le w) ns ++ rest) (omega arith) ∙ part-all w b (omega arith)
number_part w (suc k) (n ∷ ns) rest h =
    let b : List ℕ = to_le w n in
    let z : w * suc k ≡ length b + w * k = mul-suc w k ∙ add_comm (w * k) w ∙ ap (λ (x : ℕ). x + w * k) (sym (length-to_le w n)) in
    ap₂ (λ (x : ℕ) (y : List ℕ). part x w y) z (append_assoc b (flat (to_le w) ns) rest)
    ∙ part-append_right (w * k) w b (flat (to_le w) ns ++ rest) ∙ number_part w k ns rest (omega arith)

-- a section, and what follows it
pub numbers_back : (w n : ℕ) (ns rest : List ℕ) → length ns ≡ n → ((k : ℕ) → k < length ns → get_or ns k 0 < 256 ^ w)
    → numbers_at w n 0 (flat (to_le w) ns ++ rest) ≡ ns
unfolding numbers_at
numbers_back w n ns rest e f =
    let l : List ℕ = flat (to_le w) ns ++ rest in
    ext_get_or 0 (numbers_at w n 0 l) ns (length-numbers_at w n 0 l ∙ sym e)
    (λ k h.
    let q : k < length ns = omega (arith, length-numbers_at w n 0 l) in
    get_d_map-below (λ (i : ℕ). le_of (part (0 + w * i) w l)) n k 0 (omega arith) ∙ ap (λ (x : ℕ). le_of (part x w l)) (zero-add (w * k))
    ∙ ap le_of (number_part w k ns rest q) ∙ le_of_to_le w (get_or ns k 0) (f k q))

-- a section behind others
pub numbers_behind : (w n at : ℕ) (s t : List ℕ) → numbers_at w n (length s + at) (s ++ t) ≡ numbers_at w n at t
unfolding numbers_at
numbers_behind w n at s t =
    map-below_same (λ (i : ℕ). le_of (part (length s + at + w * i) w (s ++ t))) (λ (i : ℕ). le_of (part (at + w * i) w t)) n
    (λ k h. ap le_of (ap (λ (x : ℕ). part x w (s ++ t)) (add_assoc (length s) at (w * k)) ∙ part-append_right (at + w * k) w s t))

pub sections_back : (ss : List Section) (nss : List (List ℕ)) (k : ℕ) → k < length ss → SectionCounts ss nss → Fitting ss nss
    → numbers_at (get_or ss k (section 0 0)).width (get_or ss k (section 0 0)).count (total (map section_len (take k ss))) (sections_bytes ss nss) ≡ get_or nss k []
unfolding flat zipped total section_bytes
sections_back [] nss k h f g = absurd (let q : ⊥ = omega arith in q)
sections_back (s ∷ ss) [] k h f g = absurd f
sections_back (s ∷ ss) (ns ∷ nss) zero h f g = numbers_back s.width s.count ns (sections_bytes ss nss) f.0 g.0
sections_back (s ∷ ss) (ns ∷ nss) (suc k) h f g =
    let d : Section = get_or ss k (section 0 0) in
    let t : ℕ = total (map section_len (take k ss)) in
    ap (λ (x : ℕ). numbers_at d.width d.count (x + t) (flat (to_le s.width) ns ++ sections_bytes ss nss)) (sym (length-section s ns f.0))
    ∙ numbers_behind d.width d.count t (flat (to_le s.width) ns) (sections_bytes ss nss) ∙ sections_back ss nss k (omega arith) f.1 g.1

-- 01, The array: a state in bytes says that state
pub state_of_state_bytes : (st : State) → SectionCounts state_sections (state_numbers st) → Fitting state_sections (state_numbers st) → state_of (state_bytes st) ≡ st
unfolding state_of number_of section_of section_at state_bytes state_sections state_numbers
state_of_state_bytes st f g =
    let back : (k : ℕ) → k < 13 → section_of (state_bytes st) k ≡ get_or (state_numbers st) k [] = λ k h. sections_back state_sections (state_numbers st) k h f g in
    let one : (k : ℕ) → k < 13 → number_of (state_bytes st) k ≡ get_or (get_or (state_numbers st) k []) 0 0 = λ k h. ap (λ (l : List ℕ). get_or l 0 0) (back k h) in
    λ j.
    mk_state (one 0 (lit< tt) j) (one 1 (lit< tt) j) (one 2 (lit< tt) j) (one 3 (lit< tt) j) (one 4 (lit< tt) j) (one 5 (lit< tt) j)
    (back 6 (lit< tt) j) (back 7 (lit< tt) j) (back 8 (lit< tt) j) (back 9 (lit< tt) j) (back 10 (lit< tt) j) (back 11 (lit< tt) j) (back 12 (lit< tt) j)

-- ---- and the other way: what is read is written back

-- the elements are bytes
abbrev pub AllBytes : List ℕ → Type 0
AllBytes bs = (k : ℕ) → k < length bs → get_or bs k 0 < 256

-- w of them are written back as they stand
part_bytes : (w at : ℕ) (bs : List ℕ) → AllBytes bs → at + w ≤ length bs → AllBytes (part at w bs)
part_bytes w at bs f h k q =
    let e : k < w = omega (arith, length_part at w bs h) in
    subst (λ (x : ℕ). x < 256) (sym (get_d_part at w bs k e)) (f (at + k) (omega arith))

number_again : (w at : ℕ) (bs : List ℕ) → AllBytes bs → at + w ≤ length bs → to_le w (le_of (part at w bs)) ≡ part at w bs
number_again w at bs f h =
    ap (λ (x : ℕ). to_le x (le_of (part at w bs))) (sym (length_part at w bs h)) ∙ to_le_le_of (part at w bs) (part_bytes w at bs f h)

numbers_again : (w n at : ℕ) (bs : List ℕ) → AllBytes bs → at + w * n ≤ length bs → flat (to_le w) (numbers_at w n at bs) ≡ part at (w * n) bs
unfolding numbers_at flat below up_from
numbers_again w zero at bs f h = sym (ap (λ (x : ℕ). part at x bs) (mul-zero w) ∙ part-zero at bs)
numbers_again w (suc n) at bs f h =
    let e : w * suc n ≡ w * n + w = mul-suc w n in
    let v : ℕ = le_of (part (at + w * n) w bs) in
    ap (flat (to_le w)) (ap (λ (k : ℕ). numbers_at w k at bs) (sym (add-one n)) ∙ map-below-snoc (λ (k : ℕ). le_of (part (at + w * k) w bs)) n)
    ∙ flat-snoc (to_le w) (numbers_at w n at bs) v
    ∙ ap₂ ◌++◌ (numbers_again w n at bs f (omega arith)) (number_again w (at + w * n) bs f (omega arith))
    ∙ sym (ap (λ (x : ℕ). part at x bs) e ∙ part-add at (w * n) w bs)

-- the sections read one after the other, from index at
unfoldable read_sections : List Section → ℕ → List ℕ → List (List ℕ)
read_sections [] at bs = []
read_sections (s ∷ ss) at bs = numbers_at s.width s.count at bs ∷ read_sections ss (at + section_len s) bs

sections_again : (ss : List Section) (at : ℕ) (bs : List ℕ) → AllBytes bs → at + total (map section_len ss) ≤ length bs
    → sections_bytes ss (read_sections ss at bs) ≡ part at (total (map section_len ss)) bs
unfolding read_sections flat zipped total section_bytes section_len
sections_again [] at bs f h = sym (part-zero at bs)
sections_again (s ∷ ss) at bs f h =
    ap₂ ◌++◌ (numbers_again s.width s.count at bs f (omega arith)) (sections_again ss (at + s.width * s.count) bs f (omega arith))
    ∙ sym (part-add at (s.width * s.count) (total (map section_len ss)) bs)

-- what is read has its counts and fits its widths
sections_counted : (ss : List Section) (at : ℕ) (bs : List ℕ) → SectionCounts ss (read_sections ss at bs)
unfolding read_sections
sections_counted [] at bs = tt
sections_counted (s ∷ ss) at bs = (length-numbers_at s.width s.count at bs, sections_counted ss (at + section_len s) bs)

numbers_read : (bs : List ℕ) → read_sections state_sections 0 bs ≡ state_numbers (state_of bs)
unfolding read_sections state_sections section_len state_numbers state_of number_of section_of section_at total numbers_at below up_from
numbers_read bs = refl

pub state_of_counted : (bs : List ℕ) → SectionCounts state_sections (state_numbers (state_of bs))
state_of_counted bs = subst (SectionCounts state_sections) (numbers_read bs) (sections_counted state_sections 0 bs)

module _ (bs : List ℕ) (long : length bs ≡ state_len) (bytes : AllBytes bs) where
  all_read : 0 + total (map section_len state_sections) ≤ length bs
  unfolding state_len
  all_read = omega arith

  -- 01, The array: bytes that are read as a state are that state's bytes
  pub state_bytes_state_of : state_bytes (state_of bs) ≡ bs
  unfolding state_bytes state_len
  state_bytes_state_of =
      ap (sections_bytes state_sections) (sym (numbers_read bs)) ∙ sections_again state_sections 0 bs bytes all_read ∙ part-all (total (map section_len state_sections)) bs (omega arith)
