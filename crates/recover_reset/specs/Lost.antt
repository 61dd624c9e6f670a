-- The stores of a drive's lost chunks: of the stripes of a list, those that count (01, Rebuild). Assumes nothing.
use Rattle.std.specs.Prelude.{◌≡◌, List, [], ◌∷◌, ◌++◌, map, true, false, ◌&&◌, ℕ, ◌+◌, ◌-◌, ◌≤◌, ◌<◌, eqb}
use Rattle.std.proofs.Math.Path.{refl}
use Rattle.std.proofs.Common.{sym, ap, ap₂, ◌∙◌, add-zero, arith}
use Rattle.std.proofs.Math.Nat.{sub-zero}
use Rattle.spec.specs.declared.Params.{Params}
use Rattle.spec.specs.Drives.{Chunk, View, Store, zone_on}
use Rattle.spec.specs.Lists.{up_from, keep, is_in}
use Rattle.spec.specs.Parity.{Piece}
use Rattle.spec.specs.Segments.{Segment, segment_of, counts, piece_of, put_piece}
use Rattle.law_basic.specs.Ranges.{up_from_add, map-append, map_same, map-map, keep_append, keep_hit, keep_miss, keep_none}
use Rattle.law_basic.specs.Segs.{ZonesLow}
use Rattle.law_drives.specs.Frame.{Agree}
use Rattle.law_drives.specs.Members.{keep_cong}
use Rattle.law_drives.specs.Puts.{put_at, hits-puts}
use Rattle.law_drives.specs.Rebuilding.{piece_chunk, put-pieces}
use Rattle.law_drives.specs.Segs.{Here}
use Rattle.law_drives.specs.Tests.{cond_false}
use Rattle.law_drives.specs.Zones.{hits}
use Rattle.recover_reset.specs.Same.{same_seg_holds, same_counts, same_piece}
use Rattle.spec.specs.declared.Seg.{Seg}

-- 01, Rebuild: the store of stripe s's chunk
unfoldable pub lost_store : Params → ℕ → ℕ → Segment → ℕ → Store
lost_store p gone d g s = put_piece d (zone_on g.seg d) (piece_of p gone g s d)

-- 01, Rebuild: the chunk of each counted stripe
unfoldable pub lost_stores : Params → ℕ → ℕ → Segment → List ℕ → List Store
lost_stores p gone d g ss = map (lost_store p gone d g) (keep (counts p gone g) ss)

pub lost_none : (p : Params) (gone d : ℕ) (g : Segment) → lost_stores p gone d g [] ≡ []
unfolding lost_stores keep
lost_none p gone d g = refl

pub lost-append : (p : Params) (gone d : ℕ) (g : Segment) (ss ts : List ℕ) → lost_stores p gone d g (ss ++ ts) ≡ lost_stores p gone d g ss ++ lost_stores p gone d g ts
unfolding lost_stores
lost-append p gone d g ss ts =
    ap (map (lost_store p gone d g)) (keep_append (counts p gone g) ss ts) ∙ map-append (lost_store p gone d g) (keep (counts p gone g) ss) (keep (counts p gone g) ts)

pub lost_hit : (p : Params) (gone d : ℕ) (g : Segment) (s : ℕ) → counts p gone g s ≡ true → lost_stores p gone d g (s ∷ []) ≡ lost_store p gone d g s ∷ []
unfolding lost_stores
lost_hit p gone d g s e = ap (map (lost_store p gone d g)) (keep_hit (counts p gone g) s [] e ∙ ap (λ (l : List ℕ). s ∷ l) (keep_none (counts p gone g)))

pub lost_miss : (p : Params) (gone d : ℕ) (g : Segment) (s : ℕ) → counts p gone g s ≡ false → lost_stores p gone d g (s ∷ []) ≡ []
unfolding lost_stores
lost_miss p gone d g s e = ap (map (lost_store p gone d g)) (keep_miss (counts p gone g) s [] e ∙ keep_none (counts p gone g))

-- one stripe after the other
pub lost-step : (p : Params) (gone d : ℕ) (g : Segment) (base k n : ℕ) → k < n
    → lost_stores p gone d g (up_from (base + k) (n - k)) ≡ lost_stores p gone d g ((base + k) ∷ []) ++ lost_stores p gone d g (up_from (base + (k + 1)) (n - (k + 1)))
lost-step p gone d g base k n h =
    let e : n - k ≡ 1 + (n - (k + 1)) = omega arith in
    let f : base + k + 1 ≡ base + (k + 1) = omega arith in
    ap (λ (m : ℕ). lost_stores p gone d g (up_from (base + k) m)) e
    ∙ ap (lost_stores p gone d g) (up_from_add (base + k) 1 (n - (k + 1)) ∙ ap₂ (λ (x : List ℕ) (y : ℕ). x ++ up_from y (n - (k + 1))) one f)
    ∙ lost-append p gone d g ((base + k) ∷ []) (up_from (base + (k + 1)) (n - (k + 1)))
  where
    one : up_from (base + k) 1 ≡ (base + k) ∷ []
    one = unfold up_from in refl

pub lost_end : (p : Params) (gone d : ℕ) (g : Segment) (base k n : ℕ) → n ≤ k → lost_stores p gone d g (up_from (base + k) (n - k)) ≡ []
lost_end p gone d g base k n h =
    let e : n - k ≡ 0 = omega arith in
    ap (λ (m : ℕ). lost_stores p gone d g (up_from (base + k) m)) e ∙ ap (lost_stores p gone d g) none ∙ lost_none p gone d g
  where
    none : up_from (base + k) 0 ≡ []
    none = unfold up_from in refl

pub lost-start : (p : Params) (gone d : ℕ) (g : Segment) (base n : ℕ) → lost_stores p gone d g (up_from base n) ≡ lost_stores p gone d g (up_from (base + 0) (n - 0))
lost-start p gone d g base n = ap₂ (λ (x y : ℕ). lost_stores p gone d g (up_from x y)) (sym (add-zero base)) (sym (sub-zero n))

-- as puts of chunks
pub lost-puts : (p : Params) (gone d : ℕ) (g : Segment) (ss : List ℕ)
    → lost_stores p gone d g ss ≡ map (put_at d (zone_on g.seg d)) (map piece_chunk (map (λ s. piece_of p gone g s d) (keep (counts p gone g) ss)))
unfolding lost_stores lost_store
lost-puts p gone d g ss =
    sym (map-map (put_piece d (zone_on g.seg d)) (λ s. piece_of p gone g s d) (keep (counts p gone g) ss))
    ∙ put-pieces d (zone_on g.seg d) (map (λ s. piece_of p gone g s d) (keep (counts p gone g) ss))

-- they fall on the drive's zone of the segment alone
pub lost_apart : (p : Params) (gone d : ℕ) (g : Segment) (ss : List ℕ) (e y : ℕ) → (eqb d e && eqb (zone_on g.seg d) y) ≡ false → hits e y (lost_stores p gone d g ss) ≡ []
lost_apart p gone d g ss e y q =
    let cs : List Chunk = map piece_chunk (map (λ s. piece_of p gone g s d) (keep (counts p gone g) ss)) in
    let z = zone_on g.seg d in
    ap (hits e y) (lost-puts p gone d g ss) ∙ hits-puts e y d z cs ∙ cond_false (eqb d e && eqb z y) (map (put_at d z) cs) [] q

-- the same on views that agree but on the missing drives
pub same_lost : (p : Params) (gone : ℕ) (v u : View) → Here p gone → Agree p gone v u → v.offline ≡ u.offline → (g : Seg) → ZonesLow p gone g → (d : ℕ) → is_in gone d ≡ true
    → (ss : List ℕ) → lost_stores p gone d (segment_of p v gone g) ss ≡ lost_stores p gone d (segment_of p u gone g) ss
unfolding lost_stores lost_store
same_lost p gone v u here ag off g hg d q ss =
    let x = segment_of p v gone g in
    let y = segment_of p u gone g in
    ap (map (λ s. put_piece d (zone_on x.seg d) (piece_of p gone x s d))) (keep_cong (counts p gone x) (counts p gone y) ss (λ s m. same_counts p gone v u here ag off g hg s))
    ∙ map_same (λ s. put_piece d (zone_on x.seg d) (piece_of p gone x s d)) (λ s. put_piece d (zone_on y.seg d) (piece_of p gone y s d)) (keep (counts p gone y) ss)
    (λ s. ap₂ (λ (z : Seg) (t : Piece). put_piece d (zone_on z d) t) (same_seg_holds p gone v u here ag off g hg) (same_piece p gone v u here ag off g hg s d q))
