-- Numbers of the state replaced where they stand in its bytes (01, The array). An edit is a run of numbers of one section; the bytes with edits written are the bytes of the numbers
-- with the edits made: by induction over the sections, then over the edits. Assumes nothing.
use Rattle.std.specs.Prelude.{◌≡◌, refl, get_or, take, set}
use Rattle.std.proofs.Common.{sym, ◌∙◌, arith, zero-add, add_assoc, mul-le-mul_left, take-append-drop, length-take-le, take_at, drop_at}
use Rattle.std.proofs.Math.Path.{ap, ap₂}
use mathlib.Core.List.{List, [], ◌∷◌, ◌++◌, map}
use Prim.Native.Nat.{ℕ, zero, suc, ◌+◌, ◌*◌, ◌≤◌, ◌<◌}
use Rattle.std.proofs.Math.Nat.{mul-add}
use Rattle.std.proofs.Math.ListN.{length, drop}
use Rattle.spec.specs.Bytes.{to_le, splice}
use Rattle.spec.specs.Lists.{flat, total, zipped}
use Rattle.spec.specs.Memory.{Section, section, section_len, section_bytes}
use Rattle.disk_blocks.specs.Split.{splice_left, splice_right}
use Rattle.mem_codec.specs.Codec.{length_numbers}
use Rattle.law_basic.specs.Le.{length-to_le}
use Rattle.law_basic.specs.Ranges.{flat_append}
use Rattle.law_basic.specs.Sections.{SectionCounts, sections_bytes, length-section}
use Rattle.law_basic.specs.Splice.{length-splice}

-- ---- numbers of w bytes each

module _ (e : ℕ → List ℕ) (w : ℕ) (long : (n : ℕ) → length (e n) ≡ w) (ns : List ℕ) where
  cut_at : (j : ℕ) → j ≤ length ns → (take (w * j) (flat e ns) ≡ flat e (take j ns)) × (drop (w * j) (flat e ns) ≡ flat e (drop j ns))
  cut_at j h =
      let s : List ℕ = flat e (take j ns) in
      let t : List ℕ = flat e (drop j ns) in
      let n : length s ≡ w * j = length_numbers e w long (take j ns) ∙ ap (λ (x : ℕ). w * x) (length-take-le j ns h) in
      let q : flat e ns ≡ s ++ t = ap (flat e) (sym (take-append-drop j ns)) ∙ flat_append e (take j ns) (drop j ns) in
      (ap (take (w * j)) q ∙ take_at s t (w * j) n, ap (drop (w * j)) q ∙ drop_at s t (w * j) n)

  flat-splice : (j : ℕ) (ms : List ℕ) → j + length ms ≤ length ns → flat e (splice ns j ms) ≡ splice (flat e ns) (w * j) (flat e ms)
  unfolding splice
  flat-splice j ms h =
      let m : w * (j + length ms) ≡ w * j + length (flat e ms) = mul-add w j (length ms) ∙ ap (λ (x : ℕ). w * j + x) (sym (length_numbers e w long ms)) in
      let r : List ℕ = drop (j + length ms) ns in
      flat_append e (take j ns) (ms ++ r) ∙ ap (λ (x : List ℕ). flat e (take j ns) ++ x) (flat_append e ms r)
      ∙ ap₂ (λ (x y : List ℕ). x ++ (flat e ms ++ y)) (sym (cut_at j (omega arith)).0)
      (sym (cut_at (j + length ms) h).1 ∙ ap (λ (x : ℕ). drop x (flat e ns)) m)

-- ---- one edit

-- numbers in the place of those of section k from the j-th on
pub record Edit : Type 0 where
  pub part : ℕ
  pub from : ℕ
  pub numbers : List ℕ

abbrev pub edit : ℕ → ℕ → List ℕ → Edit
edit k j ms = record { part = k; from = j; numbers = ms }

-- the section that an edit names
abbrev pub edit_section : List Section → Edit → Section
edit_section ss e = get_or ss e.part (section 0 0)

-- it has so many numbers
abbrev pub EditFits : List Section → Edit → Type 0
EditFits ss e = (e.part < length ss) × (e.from + length e.numbers ≤ (edit_section ss e).count)

-- the edit made in the numbers
unfoldable pub made : List (List ℕ) → Edit → List (List ℕ)
made nss e = set nss e.part (splice (get_or nss e.part []) e.from e.numbers)

-- and in the bytes
unfoldable pub edit_written : List Section → List ℕ → Edit → List ℕ
edit_written ss l e = splice l (total (map section_len (take e.part ss)) + (edit_section ss e).width * e.from) (flat (to_le (edit_section ss e).width) e.numbers)

made_counted : (ss : List Section) (nss : List (List ℕ)) (k j : ℕ) (ms : List ℕ) → EditFits ss (edit k j ms) → SectionCounts ss nss → SectionCounts ss (made nss (edit k j ms))
unfolding made
made_counted [] nss k j ms f g = absurd (let q : ⊥ = omega (arith, f.0) in q)
made_counted (s ∷ ss) [] k j ms f g = absurd g
made_counted (s ∷ ss) (ns ∷ nss) zero j ms f g = (length-splice ns j ms (omega (arith, f.1, g.0)) ∙ g.0, g.1)
made_counted (s ∷ ss) (ns ∷ nss) (suc k) j ms f g = (g.0, made_counted ss nss k j ms (omega (arith, f.0), f.1) g.1)

edit_bytes : (ss : List Section) (nss : List (List ℕ)) (k j : ℕ) (ms : List ℕ) → EditFits ss (edit k j ms) → SectionCounts ss nss
    → edit_written ss (sections_bytes ss nss) (edit k j ms) ≡ sections_bytes ss (made nss (edit k j ms))
unfolding made edit_written flat zipped total section_bytes
edit_bytes [] nss k j ms f g = absurd (let q : ⊥ = omega (arith, f.0) in q)
edit_bytes (s ∷ ss) [] k j ms f g = absurd g
edit_bytes (s ∷ ss) (ns ∷ nss) zero j ms f g =
    let w = s.width in
    let b : List ℕ = flat (to_le w) ns in
    let q : length (flat (to_le w) ms) ≡ w * length ms = length_numbers (to_le w) w (length-to_le w) ms in
    let n : length b ≡ w * length ns = length_numbers (to_le w) w (length-to_le w) ns in
    let h : j + length ms ≤ length ns = omega (arith, f.1, g.0) in
    let t : w * j + length (flat (to_le w) ms) ≤ length b = omega (arith, q, n, mul-add w j (length ms), mul-le-mul_left w h) in
    ap (λ (x : ℕ). splice (b ++ sections_bytes ss nss) x (flat (to_le w) ms)) (zero-add (w * j)) ∙ splice_left b (sections_bytes ss nss) (w * j) (flat (to_le w) ms) t
    ∙ ap (λ (x : List ℕ). x ++ sections_bytes ss nss) (sym (flat-splice (to_le w) w (length-to_le w) ns j ms h))
edit_bytes (s ∷ ss) (ns ∷ nss) (suc k) j ms f g =
    let d = get_or ss k (section 0 0) in
    let b : List ℕ = flat (to_le s.width) ns in
    let t : ℕ = total (map section_len (take k ss)) in
    let m : List ℕ = flat (to_le d.width) ms in
    ap (λ (x : ℕ). splice (b ++ sections_bytes ss nss) x m) (ap (λ (x : ℕ). x + t + d.width * j) (sym (length-section s ns g.0)) ∙ add_assoc (length b) t (d.width * j))
    ∙ splice_right b (sections_bytes ss nss) (t + d.width * j) m ∙ ap (λ (x : List ℕ). b ++ x) (edit_bytes ss nss k j ms (omega (arith, f.0), f.1) g.1)

-- ---- edits one after the other

abbrev pub EditsFit : List Section → List Edit → Type 0
EditsFit ss [] = Unit {0}
EditsFit ss (e ∷ es) = EditFits ss e × EditsFit ss es

unfoldable pub made_all_of : List (List ℕ) → List Edit → List (List ℕ)
made_all_of nss [] = nss
made_all_of nss (e ∷ es) = made_all_of (made nss e) es

unfoldable pub written_all_of : List Section → List ℕ → List Edit → List ℕ
written_all_of ss l [] = l
written_all_of ss l (e ∷ es) = written_all_of ss (edit_written ss l e) es

pub edits_bytes : (ss : List Section) (nss : List (List ℕ)) (es : List Edit) → EditsFit ss es → SectionCounts ss nss
    → written_all_of ss (sections_bytes ss nss) es ≡ sections_bytes ss (made_all_of nss es)
unfolding written_all_of made_all_of
edits_bytes ss nss [] f g = refl
edits_bytes ss nss (e ∷ es) f g =
    ap (λ (x : List ℕ). written_all_of ss x es) (edit_bytes ss nss e.part e.from e.numbers f.0 g)
    ∙ edits_bytes ss (made nss e) es f.1 (made_counted ss nss e.part e.from e.numbers f.0 g)

pub edits_counted : (ss : List Section) (nss : List (List ℕ)) (es : List Edit) → EditsFit ss es → SectionCounts ss nss → SectionCounts ss (made_all_of nss es)
unfolding made_all_of
edits_counted ss nss [] f g = g
edits_counted ss nss (e ∷ es) f g = edits_counted ss (made nss e) es f.1 (made_counted ss nss e.part e.from e.numbers f.0 g)
