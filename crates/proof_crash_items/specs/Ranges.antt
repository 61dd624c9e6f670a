-- Parameters in range, as facts; and the machine's parameters from them. Assumes nothing.
use Rattle.std.specs.Prelude.{◌≡◌, List, [], ◌∷◌, map, Bool, not, ◌||◌, ◌≢◌, length, ℕ, ◌+◌, ◌^◌, ◌≤◌, ◌<◌}
use Rattle.std.proofs.Math.Path.{refl, sym}
use Rattle.std.proofs.Common.{ap, ◌∙◌, arith}
use Rattle.std.proofs.Math.Bool.{true, false, cond}
use borrow.Author.Tests.{not-true, eqb-true, ne_eqb, ltb-false}
use Rattle.spec.specs.declared.Params.{Params}
use Rattle.spec.specs.Drives.{is_good, good_zones, good_count, few_good}
use Rattle.spec.specs.Lists.{below, is_nil, first_or, least}
use Rattle.spec.specs.Layout.{parity_drive, is_data, group}
use Rattle.spec.specs.Params.{capacity, drives_of}
use Rattle.law_basic.specs.Geometry.{Ranged, footers-low, capacity_high}
use Rattle.law_drives.specs.Headers.{least_in}
use Rattle.law_drives.specs.Tests.{cond_true, cond_false}
use Rattle.proof_crash_machine.specs.Code.{Code, WordOf, xor_code, blank, blank_in, blank_out, xdec, word_xor, xor_word}
use Rattle.proof_crash_machine.specs.Exec.{or_1, or_2}
use Rattle.proof_crash_machine.specs.Facts.{Par}
use Rattle.proof_crash_machine.specs.Mask.{Mask}
use Rattle.proof_crash_machine.specs.Val.{Val, 𝟘, xor_n, xor_n_same}
use Rattle.proof_crash_items.specs.Member.{Has, or_both_false, keep_has, below_has, has_below, first_or_has, has_map}

module _ (p : Params) (h : Ranged p) where
  pub capacity_few : 1 + p.S < capacity p
  unfolding capacity
  capacity_few = omega (arith, footers-low p h)

  pub capacity-many : capacity p < 256 ^ 4
  capacity-many = omega (arith, capacity_high p h)

pub parity_on : (p : Params) → Ranged p → (s : ℕ) → parity_drive p s < p.N
unfolding parity_drive
parity_on p h s = omega (arith, h.drives_low)

-- ---- parity, as the machine's code

-- how many drives may be missing
unfoldable pub parities : Params → ℕ
parities p = 1

pub parities_few : (p : Params) → Ranged p → parities p < p.N
unfolding parities
parities_few p h = omega (arith, h.drives_low)

-- how stripes are protected: the exclusive or
unfoldable pub code_of : (p : Params) → Ranged p → Code p.N (parities p)
unfolding parities
code_of p h = xor_code p.N (parity_drive p) (parity_on p h)

module _ (p : Params) (h : Ranged p) (s : ℕ) where
  code_par : (d : ℕ) → not ((code_of p h).par s d) ≡ is_data p s d
  unfolding code_of xor_code is_data
  code_par d = refl

  pub data_code : (d : ℕ) → is_data p s d ≡ true → (code_of p h).par s d ≡ false
  data_code d e = not-true ((code_of p h).par s d) (code_par d ∙ e)

  pub code_data : (d : ℕ) → (code_of p h).par s d ≡ false → is_data p s d ≡ true
  code_data d e = sym (code_par d) ∙ ap not e

  -- one drive has the parity
  pub apart_code : (d : ℕ) → d ≢ parity_drive p s → (code_of p h).par s d ≡ false
  unfolding code_of xor_code
  apart_code d n = ne_eqb d (parity_drive p s) n

  pub code_lone : (d : ℕ) → (code_of p h).par s d ≡ true → d ≡ parity_drive p s
  unfolding code_of xor_code
  code_lone d e = eqb-true d (parity_drive p s) e

  -- its words: the exclusive or is 0
  pub word_code : (f : ℕ → Val) → xor_n p.N f ≡ 𝟘 → WordOf (code_of p h) s f
  unfolding code_of
  word_code f e = xor_word p.N (parity_drive p) (parity_on p h) s f e

  pub code_word : (f : ℕ → Val) → WordOf (code_of p h) s f → xor_n p.N f ≡ 𝟘
  unfolding code_of
  code_word f w = word_xor p.N (parity_drive p) (parity_on p h) s f w

  -- what is lost is the exclusive or of the others
  pub code_lost : (m : Mask) (f k : ℕ → Val) (d : ℕ) → ((e : ℕ) → e < p.N → k e ≡ cond (m e) 𝟘 (f e)) → (code_of p h).dec s m f d ≡ xor_n p.N k
  unfolding code_of xor_code xdec
  code_lost m f k d same = xor_n_same p.N (blank p.N (parity_drive p) (parity_on p h) m f) k (λ e l. at e (m e) refl ∙ sym (same e l))
    where
      at : (e : ℕ) (b : Bool) → m e ≡ b → blank p.N (parity_drive p) (parity_on p h) m f e ≡ cond (m e) 𝟘 (f e)
      at e true q = blank_in p.N (parity_drive p) (parity_on p h) m f e q ∙ sym (cond_true (m e) 𝟘 (f e) q)
      at e false q = blank_out p.N (parity_drive p) (parity_on p h) m f e q ∙ sym (cond_false (m e) 𝟘 (f e) q)

-- ---- zones that are not offline

-- a good zone; a drive that has none (all calls are refused then) counts as if the list were empty, so that the machine has its zones for every list
unfoldable pub fine_of : Params → List ℕ → ℕ → ℕ → Bool
fine_of p off d y = is_good p off d y || is_nil (good_zones p off d)

pub fine_some : (p : Params) → Ranged p → (off : List ℕ) (d : ℕ) → (y : ℕ) × (y < p.Z) × (fine_of p off d y ≡ true)
unfolding fine_of
fine_some p h off d = go (is_nil (good_zones p off d)) refl
  where
    go : (b : Bool) → is_nil (good_zones p off d) ≡ b → (y : ℕ) × (y < p.Z) × ((is_good p off d y || is_nil (good_zones p off d)) ≡ true)
    go true e = (0, omega (arith, h.zones_low), or_2 (is_good p off d 0) (is_nil (good_zones p off d)) e)
    go false e = low (first_or 0 (good_zones p off d)) (first_or_has 0 (good_zones p off d) e)
      where
        low : (y : ℕ) → Has y (good_zones p off d) → (y : ℕ) × (y < p.Z) × ((is_good p off d y || is_nil (good_zones p off d)) ≡ true)
        low y i = unfold good_zones in (let (a, q) = keep_has (is_good p off d) y (below p.Z) i in (y, below_has y p.Z a, or_1 (is_good p off d y) (is_nil (good_zones p off d)) q))

pub good_many : (p : Params) (off : List ℕ) → few_good p off ≡ false → (d : ℕ) → d < p.N → 4 ≤ length (good_zones p off d)
unfolding few_good good_count drives_of
good_many p off few d l =
    let a : 4 ≤ least p.Z (map (λ d. length (good_zones p off d)) (below p.N)) = ltb-false (least p.Z (map (λ d. length (good_zones p off d)) (below p.N))) 4 few in
    let b : least p.Z (map (λ d. length (good_zones p off d)) (below p.N)) ≤ length (good_zones p off d) =
    least_in p.Z (map (λ d. length (good_zones p off d)) (below p.N)) (length (good_zones p off d)) (has_map (λ d. length (good_zones p off d)) (below p.N) d (has_below d p.N l)) in
    omega (arith, a, b)

-- with four good zones on each drive they are the good ones
pub fine_is : (p : Params) (off : List ℕ) → few_good p off ≡ false → (d y : ℕ) → d < p.N → fine_of p off d y ≡ is_good p off d y
unfolding fine_of
fine_is p off few d y l = go (is_good p off d y) refl
  where
    is_nil_long : (l : List ℕ) → 4 ≤ length l → is_nil l ≡ false
    is_nil_long [] h = absurd (let q : ⊥ = omega arith in q)
    is_nil_long (a ∷ l) h = unfold is_nil in refl

    go : (b : Bool) → is_good p off d y ≡ b → (is_good p off d y || is_nil (good_zones p off d)) ≡ is_good p off d y
    go true e = or_1 (is_good p off d y) (is_nil (good_zones p off d)) e ∙ sym e
    go false e = or_both_false (is_good p off d y) (is_nil (good_zones p off d)) e (is_nil_long (good_zones p off d) (good_many p off few d l)) ∙ sym e

-- the machine's parameters, with the list of offline zones
abbrev pub par_of : (p : Params) → Ranged p → List ℕ → Par
par_of p h off = record {
  N = p.N;
  Z = p.Z;
  S = p.S;
  cap = capacity p;
  addrs = p.L;
  P = parities p;
  code = code_of p h;
  grp = group p;
  some = parities_few p h;
  fine = fine_of p off;
  zones = λ d l. fine_some p h off d;
  fits = omega (arith, capacity_few p h);
}
