-- Stripes that count, and their parity from one view to the next, stripe by stripe: the same zones, the same pieces. Assumes nothing.
use Rattle.std.specs.Prelude.{◌≡◌, List, map, true, ◌⊎◌, ℕ, ◌<◌}
use Rattle.std.proofs.Math.Path.{sym}
use Rattle.std.proofs.Common.{ap, ◌∙◌, inl, inr, arith}
use Rattle.spec.specs.declared.Params.{Params}
use Rattle.spec.specs.Drives.{View, zone_at, zone_on, data_stored}
use Rattle.spec.specs.Layout.{parity_drive, data_drive, data_drives}
use Rattle.spec.specs.Lists.{below}
use Rattle.spec.specs.Params.{data_count}
use Rattle.spec.specs.Parity.{encode_piece}
use Rattle.spec.specs.Segments.{remaining, Segment, segment_of, has_chunk, counts, stored_piece}
use Rattle.law_basic.specs.Geometry.{Ranged, parity_drive_lt, data_drive_lt}
use Rattle.law_basic.specs.Mask.{is_in_empty}
use Rattle.law_basic.specs.Ranges.{map-map}
use Rattle.spec_demands.specs.Layouts.{Remains, found_counted, ParityMade}
use Rattle.law_drives.specs.Members.{map_cong, below_in}
use Rattle.law_drives.specs.Segs.{is_seg, seg_in, chunk_at_holds, remaining_left}
use Rattle.law_drives.specs.Settled.{SameZones, zones_segment, there_remains}
use Rattle.law_drives.specs.Spots.{counts_in}
use Rattle.law_drives.specs.Tidy.{Tidy, There}
use Rattle.spec.specs.declared.Seg.{Seg}

-- ---- what counts

pub count-all : (p : Params) (x : Segment) (s : ℕ) → counts p 0 x s ≡ true → (d : ℕ) → d < p.N → has_chunk x s d ≡ true
count-all p x s q d h = counts_in p 0 x s d q h (is_in_empty d)

-- nothing counts in a segment with no data on some drive
pub bare-counts : (p : Params) (v : View) (g : Seg) (s d : ℕ) → d < p.N → data_stored p (zone_at v d (zone_on g d)) ≡ 0 → counts p 0 (segment_of p v 0 g) s ≡ true → ⊥
bare-counts p v g s d h e q =
    let k = (chunk_at_holds p v 0 g d s h (is_in_empty d) (count-all p (segment_of p v 0 g) s q d h)).stored_there in
    let bad : ⊥ = omega arith in bad

-- ---- parity, from one view to the next

-- the stripe's pieces give its parity
abbrev pub ParityAt : Params → Segment → ℕ → Type 0
ParityAt p x s = stored_piece x s (parity_drive p s) ≡ encode_piece p 0 s (map (stored_piece x s) (data_drives p s))

-- a stripe whose pieces are the same in both
pub record SameStripe (p : Params) (gone : ℕ) (x y : Segment) (s : ℕ) : Type 0 where
  pub counted-before : counts p gone x s ≡ true
  pub serial_same : x.serial ≡ y.serial
  pub pieces_same : (d : ℕ) → d < p.N → stored_piece x s d ≡ stored_piece y s d

pub parity_goes : (p : Params) → Ranged p → (x y : Segment) (s : ℕ) → ((d : ℕ) → d < p.N → stored_piece x s d ≡ stored_piece y s d) → ParityAt p x s → ParityAt p y s
parity_goes p r x y s sm q =
    sym (sm (parity_drive p s) (parity_drive_lt p s (omega (arith, r.drives_low)))) ∙ q ∙ ap (encode_piece p 0 s) data_same
  where
    data_same : map (stored_piece x s) (data_drives p s) ≡ map (stored_piece y s) (data_drives p s)
    data_same = unfold data_drives in (
        map-map (stored_piece x s) (data_drive p s) (below (data_count p))
        ∙ map_cong (λ k. stored_piece x s (data_drive p s k)) (λ k. stored_piece y s (data_drive p s k)) (below (data_count p))
        (λ k m. sm (data_drive p s k) (data_drive_lt p s k (below_in (data_count p) k m)))
        ∙ sym (map-map (stored_piece y s) (data_drive p s) (below (data_count p))))

-- each stripe that counts was there before, or has its parity
pub parity_from : (p : Params) → Ranged p → (v u : View) (gone : ℕ) (old : List Segment) → ParityMade p v gone old
    → ((g : Seg) (s : ℕ) → Remains p u gone g → s < p.S → counts p gone (segment_of p u gone g) s ≡ true
    → (Remains p v gone g × SameStripe p gone (segment_of p v gone g) (segment_of p u gone g) s) ⊎ ParityAt p (segment_of p u gone g) s)
    → ParityMade p u gone old
parity_from p r v u gone old pm f g s rm hs c nf = go (f g s rm hs c)
  where
    go : (Remains p v gone g × SameStripe p gone (segment_of p v gone g) (segment_of p u gone g) s) ⊎ ParityAt p (segment_of p u gone g) s → ParityAt p (segment_of p u gone g) s
    go (inr q) = q
    go (inl (rv, sm)) = parity_goes p r (segment_of p v gone g) (segment_of p u gone g) s sm.pieces_same
        (pm g s rv hs sm.counted-before (ap (λ (x : ℕ). found_counted p gone old x s) sm.serial_same ∙ nf))

-- segments that remain are of before, with the same zones, or nothing counts in them
pub parity_zones : (p : Params) → Ranged p → (v u : View) (old : List Segment) → ParityMade p v 0 old
    → ((g : Seg) → Remains p u 0 g → (Remains p v 0 g × SameZones p v u g) ⊎ ((s : ℕ) → counts p 0 (segment_of p u 0 g) s ≡ true → ⊥))
    → ParityMade p u 0 old
parity_zones p r v u old pm f = parity_from p r v u 0 old pm (λ g s rm hs c. go g s c (f g rm))
  where
    go : (g : Seg) (s : ℕ) → counts p 0 (segment_of p u 0 g) s ≡ true → (Remains p v 0 g × SameZones p v u g) ⊎ ((s : ℕ) → counts p 0 (segment_of p u 0 g) s ≡ true → ⊥)
        → (Remains p v 0 g × SameStripe p 0 (segment_of p v 0 g) (segment_of p u 0 g) s) ⊎ ParityAt p (segment_of p u 0 g) s
    go g s c (inr n) = absurd (n s c)
    go g s c (inl (rv, sm)) =
        let e : segment_of p v 0 g ≡ segment_of p u 0 g = zones_segment p r v u g sm in
        inl (
          rv,
          record {
            counted-before = ap (λ (x : Segment). counts p 0 x s) e ∙ c;
            serial_same = ap (λ (x : Segment). x.serial) e;
            pieces_same = λ d hd. ap (λ (x : Segment). stored_piece x s d) e;
          },
        )

-- what remains, where none is missing and the segments are tidy: what there is
pub remains_of_there : (p : Params) (r : Ranged p) (v : View) (n : ℕ) → Tidy p v n → (g : Seg) → There p v g → Remains p v 0 g
remains_of_there p r v n t g m = seg_in g (remaining p v 0) (there_remains p r v n t g m)

pub there_of_remains : (p : Params) (v : View) (g : Seg) → Remains p v 0 g → There p v g
there_of_remains p v g q = remaining_left p v 0 g (is_seg g (remaining p v 0) q)
