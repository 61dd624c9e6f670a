-- The sealed segment with fewest live blocks, by number (01, Reclaim; 02, item 4: ties go by zone on drive 0). Assumes nothing.
use Rattle.std.specs.Prelude.{ℕ, ◌≤◌, ◌<◌, leb, ltb, get_or, Bool, cond, ◌&&◌, List, map, ◌≡◌}
use Rattle.spec.specs.Drives.{View, sealed_in}
use Rattle.spec.specs.Lists.{Opt, below, keep}
use Rattle.spec.specs.Lists.Opt.{none, some}
use Rattle.spec.specs.Reclaim.{places_in, Victim, victim_of, fewest, victim}
use Rattle.spec.specs.declared.Params.{Params}
use Rattle.spec.specs.declared.Seg.{Seg}
use Rattle.law_basic.specs.Ranges.{map-map, keep-map}
use Rattle.law_drives.specs.Members.{keep-keep}
use Rattle.law_drives.specs.Tables.{seg_at, remains_at, remaining_is}
use Rattle.std.proofs.Common.{le-leb, lt-ltb, le-ltb, ap, ◌∙◌}
use Rattle.std.proofs.lemmas.Bool.{lt-leb}

-- the segment of a number below Z, with its live blocks; none for Z
unfoldable pub taken_as : Params → View → List ℕ → ℕ → Opt Victim
taken_as p v tb g = cond (leb p.Z g) none (some (victim_of p (places_in p tb) (seg_at p v 0 g)))

-- 01, Reclaim: of two segments the one with fewer live blocks, the first on a tie; g, where there is no best
unfoldable pub pick_of : Params → List ℕ → ℕ → ℕ → ℕ
pick_of p live best g = cond (leb p.Z best) g (cond (ltb (get_or live g 0) (get_or live best 0)) g best)

pub pick_new : (p : Params) (live : List ℕ) (best g : ℕ) → p.Z ≤ best → pick_of p live best g ≡ g
unfolding pick_of
pick_new p live best g h = ap (λ (x : Bool). cond x g (cond (ltb (get_or live g 0) (get_or live best 0)) g best)) (le-leb p.Z best h)

pub pick_less : (p : Params) (live : List ℕ) (best g : ℕ) → best < p.Z → get_or live g 0 < get_or live best 0 → pick_of p live best g ≡ g
unfolding pick_of
pick_less p live best g h l = (λ j. cond (lt-leb p.Z best h j) g (cond (lt-ltb (get_or live g 0) (get_or live best 0) l j) g best))

pub pick_old : (p : Params) (live : List ℕ) (best g : ℕ) → best < p.Z → get_or live best 0 ≤ get_or live g 0 → pick_of p live best g ≡ best
unfolding pick_of
pick_old p live best g h l = (λ j. cond (lt-leb p.Z best h j) g (cond (le-ltb (get_or live g 0) (get_or live best 0) l j) g best))

pub taken_none : (p : Params) (v : View) (tb : List ℕ) (g : ℕ) → p.Z ≤ g → taken_as p v tb g ≡ none
unfolding taken_as
taken_none p v tb g h = ap (λ (x : Bool). cond x none (some (victim_of p (places_in p tb) (seg_at p v 0 g)))) (le-leb p.Z g h)

pub taken_some : (p : Params) (v : View) (tb : List ℕ) (g : ℕ) → g < p.Z → taken_as p v tb g ≡ some (victim_of p (places_in p tb) (seg_at p v 0 g))
unfolding taken_as
taken_some p v tb g h = ap (λ (x : Bool). cond x none (some (victim_of p (places_in p tb) (seg_at p v 0 g)))) (lt-leb p.Z g h)

-- the sealed segments by number, rising
pub victim_number : (p : Params) (v : View) (tb : List ℕ)
    → victim p v tb ≡ fewest none (map (λ g. victim_of p (places_in p tb) (seg_at p v 0 g)) (keep (λ g. remains_at p v 0 g && sealed_in p v 0 (seg_at p v 0 g)) (below p.Z)))
unfolding victim
victim_number p v tb =
    let of : Seg → Victim = victim_of p (places_in p tb) in
    let ks = keep (remains_at p v 0) (below p.Z) in
    ap (λ (l : List Seg). fewest none (map of (keep (sealed_in p v 0) l))) (remaining_is p v 0)
    ∙ ap (λ (l : List Seg). fewest none (map of l)) (keep-map (sealed_in p v 0) (seg_at p v 0) ks)
    ∙ ap (fewest none) (map-map of (seg_at p v 0) (keep (λ g. sealed_in p v 0 (seg_at p v 0 g)) ks))
    ∙ ap (λ (l : List ℕ). fewest none (map (λ g. of (seg_at p v 0 g)) l)) (keep-keep (λ g. sealed_in p v 0 (seg_at p v 0 g)) (remains_at p v 0) (below p.Z))
