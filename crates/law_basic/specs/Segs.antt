-- Segments and their zones: the few laws by which all else knows them. Each is a computation on the zones. Assumes nothing.
use Rattle.std.specs.Prelude.{◌≡◌, refl, List, [], ◌∷◌, ◌++◌, map, true, false, ℕ, suc, ◌+◌, ◌-◌, ◌≤◌, ◌<◌, length, get_or, set, replicate}
use Rattle.std.proofs.Common.{sym, ap, ◌∙◌, subst, arith, length-append}
use Rattle.std.proofs.lemmas.List.{length-map}
use Rattle.std.proofs.Math.ListN.{get_or-append}
use Rattle.spec.specs.declared.Params.{Params}
use Rattle.spec.specs.declared.Seg.{Seg}
use Rattle.spec.specs.Drives.{seg, same_seg, seg_with, zone_on, zones_in}
use Rattle.spec.specs.Lists.{up_from, below, same_list, pad_to, is_in}
use Rattle.spec.specs.Params.{drives_of}
use Rattle.law_basic.specs.Mask.{is_in_empty}
use Rattle.law_basic.specs.Ranges.{Test, test, not_both, length-below, length-pad_to, get_d_map-below, map-below_same, map-below-snoc, same_list_refl, same_list_true}
use Rattle.law_basic.specs.Ranges.Test.{yes!, no! }

-- ---- one segment

-- a segment's zones are all that it is
pub zones_once : (g h : Seg) → g.zones ≡ h.zones → g ≡ h
zones_once g h e = λ i. seg (e i)

pub seg_same : (g h : Seg) → g ≡ h → same_seg g h ≡ true
unfolding same_seg
seg_same g h e = subst (λ (x : Seg). same_list g.zones x.zones ≡ true) e (same_list_refl g.zones)

pub seg_true : (g h : Seg) → same_seg g h ≡ true → g ≡ h
unfolding same_seg
seg_true g h q = zones_once g h (same_list_true g.zones h.zones q)

pub seg-other : (g h : Seg) → (g ≡ h → ⊥) → same_seg g h ≡ false
seg-other g h n = go (test (same_seg g h))
  where
    go : Test (same_seg g h) → same_seg g h ≡ false
    go (yes! q) = absurd (n (seg_true g h q))
    go (no! q) = q

pub seg_false : (g h : Seg) → same_seg g h ≡ false → g ≡ h → ⊥
seg_false g h q e = not_both (same_seg g h) (seg_same g h e) q

pub seg_self : (g : Seg) → same_seg g g ≡ true
seg_self g = seg_same g g refl

pub segs_differ : (g h : Seg) → Dec (g ≡ h)
segs_differ g h = go (test (same_seg g h))
  where
    go : Test (same_seg g h) → Dec (g ≡ h)
    go (yes! q) = yes (seg_true g h q)
    go (no! q) = no (seg_false g h q)

-- the zone on a drive stands at its index
pub zone_is : (g : Seg) (d : ℕ) → zone_on g d ≡ get_or g.zones d 0
unfolding zone_on
zone_is g d = refl

-- ---- a segment with given zones

pub with_zone : (p : Params) (f : ℕ → ℕ) (d : ℕ) → d < p.N → zone_on (seg_with p f) d ≡ f d
unfolding zone_on seg_with pad_to drives_of
with_zone p f d h =
    let zs = map f (below p.N) in
    get_or-append zs (replicate (8 - length zs) 0) 0 d (subst (λ (n : ℕ). d < n) (sym (length-map (below p.N) f ∙ length-below p.N)) h)
    ∙ get_d_map-below f p.N d 0 h

-- two that agree on the drives are one
pub with_same : (p : Params) (f h : ℕ → ℕ) → ((d : ℕ) → d < p.N → f d ≡ h d) → seg_with p f ≡ seg_with p h
unfolding seg_with drives_of
with_same p f h e = ap (λ (l : List ℕ). seg (pad_to 8 l)) (map-below_same f h p.N e)

pub with_zones_long : (p : Params) (f : ℕ → ℕ) → p.N ≤ 8 → length (seg_with p f).zones ≡ 8
unfolding seg_with drives_of
with_zones_long p f h = length-pad_to 8 (map f (below p.N)) (omega (arith, length-map (below p.N) f, length-below p.N))

-- ---- zones filled in drive by drive

-- the first d zones are f's, the others 0
unfoldable pub filled_to : (ℕ → ℕ) → ℕ → List ℕ
filled_to f d = pad_to 8 (map f (below d))

pub filled_none : (f : ℕ → ℕ) → replicate 8 0 ≡ filled_to f 0
unfolding filled_to pad_to below up_from
filled_none f = refl

fill_one-more : (l : List ℕ) (n z : ℕ) → set (l ++ replicate (suc n) 0) (length l) z ≡ (l ++ (z ∷ [])) ++ replicate n 0
fill_one-more [] n z = refl
fill_one-more (a ∷ l) n z = ap (λ (x : List ℕ). a ∷ x) (fill_one-more l n z)

pub filled_more : (f : ℕ → ℕ) (d : ℕ) → d < 8 → set (filled_to f d) d (f d) ≡ filled_to f (d + 1)
unfolding filled_to pad_to
filled_more f d h =
    let l : List ℕ = map f (below d) in
    let n : length l ≡ d = length-map (below d) f ∙ length-below d in
    let m : length (l ++ (f d ∷ [])) ≡ suc d = length-append l (f d ∷ []) ∙ omega (arith, n) in
    let k : 8 - d ≡ suc (8 - suc d) = omega arith in
    ap (λ (i : ℕ). set (l ++ replicate (8 - i) 0) d (f d)) n
    ∙ ap (λ (i : ℕ). set (l ++ replicate i 0) d (f d)) k
    ∙ ap (λ (i : ℕ). set (l ++ replicate (suc (8 - suc d)) 0) i (f d)) (sym n)
    ∙ fill_one-more l (8 - suc d) (f d)
    ∙ ap (λ (i : ℕ). (l ++ (f d ∷ [])) ++ replicate (8 - i) 0) (sym m)
    ∙ ap (λ (x : List ℕ). x ++ replicate (8 - length x) 0) (sym (map-below-snoc f d))

pub filled_with : (p : Params) (f : ℕ → ℕ) → seg (filled_to f p.N) ≡ seg_with p f
unfolding filled_to seg_with drives_of
filled_with p f = refl

-- ---- its zones on the present drives are zones
unfoldable pub ZonesLow : Params → ℕ → Seg → Type 0
ZonesLow p gone g = (d : ℕ) → d < p.N → is_in gone d ≡ false → zone_on g d < p.Z

pub low_zone : (p : Params) (gone : ℕ) (g : Seg) (d : ℕ) → ZonesLow p gone g → d < p.N → is_in gone d ≡ false → zone_on g d < p.Z
unfolding ZonesLow
low_zone p gone g d h = h d

-- where f's are, so are those of the segment with f's zones
pub with_low : (p : Params) (f : ℕ → ℕ) (gone : ℕ) (g : Seg) → g ≡ seg_with p f → ((d : ℕ) → d < p.N → is_in gone d ≡ false → f d < p.Z) → ZonesLow p gone g
unfolding ZonesLow
with_low p f gone g e h d hd q = subst (λ (n : ℕ). n < p.Z) (sym (ap (λ (x : Seg). zone_on x d) e ∙ with_zone p f d hd)) (h d hd q)

-- with none missing, on every drive
pub low_here : (p : Params) (g : Seg) (d : ℕ) → ZonesLow p 0 g → d < p.N → zone_on g d < p.Z
low_here p g d h k = low_zone p 0 g d h k (is_in_empty d)

-- its zones by drive
pub zones_in_is : (p : Params) (g : Seg) → zones_in p g ≡ map (zone_on g) (below p.N)
unfolding zones_in drives_of
zones_in_is p g = refl

pub zones_in_lem : (p : Params) (g : Seg) (d : ℕ) → d < p.N → get_or (zones_in p g) d 0 ≡ zone_on g d
unfolding zones_in drives_of
zones_in_lem p g d h = get_d_map-below (zone_on g) p.N d 0 h

pub zones_in_long : (p : Params) (g : Seg) → length (zones_in p g) ≡ p.N
unfolding zones_in drives_of
zones_in_long p g = length-map (below p.N) (zone_on g) ∙ length-below p.N
