-- Groups of stripes one after the other (01, What a zone holds). Assumes nothing.
use Rattle.std.specs.Prelude.{◌≡◌, refl, List, [], ◌∷◌, ◌++◌, map, ◌&&◌, ℕ, zero, suc, ◌+◌, ◌-◌, ◌*◌, ◌/◌, ◌%◌, ◌≤◌, ◌<◌, leb, ltb, eqb}
use Rattle.std.proofs.Common.{sym, ap, ap₂, ◌∙◌, subst, append-nil, div-add-mod', mod-lt, suc-mul, le-leb, lt-ltb, eq-eqb, leb-true, ltb-true, eqb-true, arith}
use Rattle.std.proofs.Math.Decide.{dec_le}
use Rattle.std.proofs.Math.Arith.{digits_div}
use Rattle.spec.specs.declared.Params.{Params}
use Rattle.spec.specs.Layout.{group, in_group_of}
use Rattle.spec.specs.Lists.{up_from, below}
use Rattle.law_basic.specs.Ranges.{and_left, and_right, and_both, up_from_add, up_from_end, map_same}
use Rattle.law_drives.specs.Tests.{same_test}
use Rattle.recover_groups.specs.Groups.{group_len, groups_left, bases_from}

pub group_len_le : (p : Params) (base : ℕ) → group_len p base ≤ p.G
unfolding group_len
group_len_le p base = omega arith

pub group_len_fits : (p : Params) (base : ℕ) → base ≤ p.S → base + group_len p base ≤ p.S
unfolding group_len
group_len_fits p base h = omega arith

-- a group is whole, or it is the last
pub group_len_whole : (p : Params) (base : ℕ) → base + p.G ≤ p.S → group_len p base ≡ p.G
unfolding group_len
group_len_whole p base h = omega arith

pub group_len_last : (p : Params) (base : ℕ) → base ≤ p.S → p.S ≤ base + p.G → base + group_len p base ≡ p.S
unfolding group_len
group_len_last p base h k = omega arith

-- ---- numbers of a group

-- the numbers of the group from q x G on
pub group_of : (p : Params) (q x : ℕ) → q * p.G ≤ x → x < q * p.G + p.G → x / p.G ≡ q
group_of p q x h k =
    let e : x ≡ q * p.G + (x - q * p.G) = omega arith in
    let l : x - q * p.G < p.G = omega arith in
    ap (λ (n : ℕ). n / p.G) e ∙ digits_div q l

pub group_back : (p : Params) (x : ℕ) → 0 < p.G → (x / p.G * p.G ≤ x) × (x < x / p.G * p.G + p.G)
group_back p x g =
    let e = div-add-mod' x p.G in
    let l = mod-lt x g in
    (omega (arith, e), omega (arith, e, l))

-- a group's first stripe is a multiple of G
pub base_is : (p : Params) (base : ℕ) → base % p.G ≡ 0 → base ≡ base / p.G * p.G
base_is p base h = sym (div-add-mod' base p.G) ∙ (let q : base / p.G * p.G + base % p.G ≡ base / p.G * p.G = omega (arith, h) in q)

-- 01, What a zone holds: a stripe is in the group of a data offset
pub in_group : (p : Params) (q o s : ℕ) → 0 < p.G → q * p.G < p.S → q * p.G ≤ o → o < q * p.G + group_len p (q * p.G)
    → in_group_of p o s ≡ (leb (q * p.G) s && ltb (s - q * p.G) (group_len p (q * p.G)))
unfolding in_group_of group group_len
in_group p q o s g b h k =
    let e : o / p.G ≡ q = group_of p q o h (let l = group_len_le p (q * p.G) in omega arith) in
    same_test (ltb s p.S && eqb (s / p.G) (o / p.G)) (leb (q * p.G) s && ltb (s - q * p.G) (group_len p (q * p.G)))
    (λ t.
    let u : s < p.S = ltb-true s p.S (and_left (ltb s p.S) (eqb (s / p.G) (o / p.G)) t) in
    let w : s / p.G ≡ q = eqb-true (s / p.G) (o / p.G) (and_right (ltb s p.S) (eqb (s / p.G) (o / p.G)) t) ∙ e in
    let r : (q * p.G ≤ s) × (s < q * p.G + p.G) = subst (λ (x : ℕ). (x * p.G ≤ s) × (s < x * p.G + p.G)) w (group_back p s g) in
    and_both (leb (q * p.G) s) (ltb (s - q * p.G) (group_len p (q * p.G))) (le-leb (q * p.G) s r.0) (lt-ltb (s - q * p.G) (group_len p (q * p.G)) (omega (arith, r.0, r.1))))
    (λ t.
    let u : q * p.G ≤ s = leb-true (q * p.G) s (and_left (leb (q * p.G) s) (ltb (s - q * p.G) (group_len p (q * p.G))) t) in
    let w : s - q * p.G < group_len p (q * p.G) = ltb-true (s - q * p.G) (group_len p (q * p.G)) (and_right (leb (q * p.G) s) (ltb (s - q * p.G) (group_len p (q * p.G))) t) in
    and_both (ltb s p.S) (eqb (s / p.G) (o / p.G)) (lt-ltb s p.S (omega arith)) (eq-eqb (s / p.G) (o / p.G) (group_of p q s u (omega arith) ∙ sym e)))

-- ---- the groups' first stripes

left_step : (p : Params) (base : ℕ) → 0 < p.G → base < p.S → groups_left p base ≡ suc (groups_left p (base + p.G))
unfolding groups_left
left_step p base g h = go (dec_le (base + p.G) p.S)
  where
    go : Dec (base + p.G ≤ p.S) → (p.S - base + p.G - 1) / p.G ≡ suc ((p.S - (base + p.G) + p.G - 1) / p.G)
    go (yes l) =
        let x = p.S - (base + p.G) + p.G - 1 in
        let r = group_back p x g in
        let e : p.S - base + p.G - 1 ≡ x + p.G = omega arith in
        let m : suc (x / p.G) * p.G ≡ x / p.G * p.G + p.G = suc-mul (x / p.G) p.G in
        group_of p (suc (x / p.G)) (p.S - base + p.G - 1) (omega (arith, e, r.0, m)) (omega (arith, e, r.1, m))
    go (no l) =
        let x = p.S - (base + p.G) + p.G - 1 in
        let z : x / p.G ≡ 0 = group_of p 0 x (omega arith) (omega arith) in
        group_of p 1 (p.S - base + p.G - 1) (omega arith) (omega arith) ∙ ap suc (sym z)

map_shift : {B : Type 0} (f : ℕ → B) (i n : ℕ) → map f (up_from (suc i) n) ≡ map (λ k. f (suc k)) (up_from i n)
unfolding up_from
map_shift f i zero = refl
map_shift f i (suc n) = ap (λ (x : List _). f (suc i) ∷ x) (map_shift f (suc i) n)

pub bases_step : (p : Params) (base : ℕ) → 0 < p.G → base < p.S → bases_from p base ≡ base ∷ bases_from p (base + p.G)
unfolding bases_from below up_from
bases_step p base g h =
    ap (λ (n : ℕ). map (λ i. base + i * p.G) (up_from 0 n)) (left_step p base g h)
    ∙ ap₂ (λ (x : ℕ) (y : List ℕ). x ∷ y) (let z : base + 0 * p.G ≡ base = omega arith in z)
    (map_shift (λ i. base + i * p.G) 0 (groups_left p (base + p.G))
    ∙ map_same (λ i. base + suc i * p.G) (λ i. base + p.G + i * p.G) (up_from 0 (groups_left p (base + p.G))) (λ i. let m = suc-mul i p.G in omega (arith, m)))

pub bases_end : (p : Params) (base : ℕ) → 0 < p.G → p.S ≤ base → bases_from p base ≡ []
unfolding bases_from groups_left below up_from
bases_end p base g h =
    ap (λ (n : ℕ). map (λ i. base + i * p.G) (up_from 0 n)) (group_of p 0 (p.S - base + p.G - 1) (omega arith) (omega arith))

-- the stripes of the groups from base on
pub stripes_step : (p : Params) (base : ℕ) → base < p.S
    → up_from base (p.S - base) ≡ up_from base (group_len p base) ++ up_from (base + p.G) (p.S - (base + p.G))
stripes_step p base h = go (dec_le (base + p.G) p.S)
  where
    go : Dec (base + p.G ≤ p.S) → up_from base (p.S - base) ≡ up_from base (group_len p base) ++ up_from (base + p.G) (p.S - (base + p.G))
    go (yes l) =
        let e : group_len p base ≡ p.G = group_len_whole p base l in
        ap (up_from base) (let x : p.S - base ≡ p.G + (p.S - (base + p.G)) = omega arith in x)
        ∙ up_from_add base p.G (p.S - (base + p.G))
        ∙ ap (λ (n : ℕ). up_from base n ++ up_from (base + p.G) (p.S - (base + p.G))) (sym e)
    go (no l) =
        let e : group_len p base ≡ p.S - base = (let x = group_len_last p base (omega arith) (omega arith) in omega (arith, x)) in
        let y : up_from (base + p.G) (p.S - (base + p.G)) ≡ [] = up_from_end (base + p.G) p.S (omega arith) in
        sym (append-nil (up_from base (p.S - base))) ∙ (λ j. up_from base (sym e j) ++ sym y j)
