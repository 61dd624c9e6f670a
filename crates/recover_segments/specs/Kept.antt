-- What the arrays of flags, serials and rows say of the segments that remain (01, Restart, 1, 2 and 4). Assumes nothing.
use Rattle.std.specs.Prelude.{◌≡◌, refl, Bool, true, cond, not, ◌&&◌, ℕ, ◌+◌, ◌*◌, max, ◌≤◌, ◌<◌, length, get_or}
use Rattle.std.proofs.Common.{sym, ◌∙◌, subst}
use Rattle.std.proofs.Math.Path.{ap}
use mathlib.Core.List.{List, [], ◌∷◌, ◌++◌, map, append-nil}
use Rattle.std.proofs.Math.Bool.{false}
use Rattle.std.proofs.lemmas.List.{length-map}
use Rattle.spec.specs.declared.Params.{Params}
use Rattle.spec.specs.declared.Seg.{Seg}
use Rattle.spec.specs.Bytes.{part}
use Rattle.spec.specs.Drives.{View, sealed_in, seg}
use Rattle.spec.specs.Lists.{up_from, below, cons_if, keep, greatest}
use Rattle.spec.specs.Segments.{Segment, segment_of, segments, greatest_serial, unsealed}
use Rattle.law_basic.specs.Ranges.{Test, test, map-append, map-map, keep-below_same, greatest-snoc, keep-below-snoc, keep-map}
use Rattle.law_basic.specs.Ranges.Test.{yes!, no! }
use Rattle.law_basic.specs.Segs.{ZonesLow}
use Rattle.law_drives.specs.Members.{keep_in, map_cong, keep-keep, below_in}
use Rattle.law_drives.specs.Segs.{Here, remaining-low, serial_is, full_is}
use Rattle.law_drives.specs.Tables.{seg_at, remains_at, remaining_is, at-remaining}
use Rattle.law_drives.specs.Tests.{and_false_left}
use Rattle.disk_gather.specs.Flags.{Serials, Keeps, FlagsRows}
use Rattle.disk_gather.specs.Found.{remains_leads, found_row_seg, kept_serial}

-- ---- rows

-- the rows that are flagged have zones on the present drives
abbrev pub RowsLow : Params → ℕ → List Bool → List ℕ → Type 0
RowsLow p gone ks l = (p.Z ≤ length ks) × (8 * p.Z ≤ length l) × ((z : ℕ) → z < p.Z → get_or ks z false ≡ true → ZonesLow p gone (seg (part (8 * z) 8 l)))

module _ (p : Params) (v : View) (gone : ℕ) (l : List ℕ) (ks : List Bool) (r : FlagsRows p v gone l) (k : Keeps p v gone ks) where
  -- the row of one that remains is its segment
  pub kept_row : (z : ℕ) → z < p.Z → remains_at p v gone z ≡ true → seg (part (8 * z) 8 l) ≡ seg_at p v gone z
  kept_row z h q = found_row_seg p v gone l z r h (remains_leads p v gone z q)

  pub kept-rows-low : Here p gone → RowsLow p gone ks l
  kept-rows-low here = (
    k.0,
    r.0,
    λ z h q.
        let t : remains_at p v gone z ≡ true = sym (k.1 z h) ∙ q in
        subst (ZonesLow p gone) (sym (kept_row z h t)) (remaining-low p v gone here (seg_at p v gone z) (at-remaining p v gone here z h t)),
  )

-- ---- the segments that remain, by their zones on the lowest present drive

pub segments-list : (p : Params) (v : View) (gone : ℕ) → segments p v gone ≡ map (λ z. segment_of p v gone (seg_at p v gone z)) (keep (remains_at p v gone) (below p.Z))
unfolding segments
segments-list p v gone = ap (map (segment_of p v gone)) (remaining_is p v gone) ∙ map-map (segment_of p v gone) (seg_at p v gone) (keep (remains_at p v gone) (below p.Z))

flags_keep : (p : Params) (v : View) (gone : ℕ) (ks : List Bool) → Keeps p v gone ks → keep (remains_at p v gone) (below p.Z) ≡ keep (λ z. get_or ks z false) (below p.Z)
flags_keep p v gone ks k = keep-below_same (remains_at p v gone) (λ z. get_or ks z false) p.Z (λ z h. sym (k.1 z h))

-- ---- the greatest serial

-- the greatest of the flagged among the first n
unfoldable pub greatest_in : ℕ → List Bool → List ℕ → ℕ
greatest_in n fl ns = greatest (map (λ g. get_or ns g 0) (keep (λ g. get_or fl g false) (below n)))

pub greatest_first : (fl : List Bool) (ns : List ℕ) → greatest_in 0 fl ns ≡ 0
unfolding greatest_in below up_from keep greatest
greatest_first fl ns = refl

pub greatest_next : (n : ℕ) (fl : List Bool) (ns : List ℕ)
    → greatest_in (n + 1) fl ns ≡ cond (get_or fl n false) (max (greatest_in n fl ns) (get_or ns n 0)) (greatest_in n fl ns)
unfolding greatest_in
greatest_next n fl ns = ap (λ (x : List ℕ). greatest (map at x)) (keep-below-snoc on n) ∙ go (on n)
  where
    at : ℕ → ℕ
    at g = get_or ns g 0

    on : ℕ → Bool
    on g = get_or fl g false

    go : (b : Bool) → greatest (map at (keep on (below n) ++ cons_if b n [])) ≡ cond b (max (greatest (map at (keep on (below n)))) (at n)) (greatest (map at (keep on (below n))))
    go true = unfold cons_if in ap greatest (map-append at (keep on (below n)) (n ∷ [])) ∙ greatest-snoc (map at (keep on (below n))) (at n)
    go false = unfold cons_if in ap (λ (x : List ℕ). greatest (map at x)) (append-nil (keep on (below n)))

pub greatest-all : (p : Params) (v : View) (gone : ℕ) (fl : List Bool) (ns : List ℕ) → Here p gone → Keeps p v gone fl → Serials p v gone ns
    → greatest_in p.Z fl ns ≡ greatest_serial (segments p v gone)
unfolding greatest_in greatest_serial
greatest-all p v gone fl ns here k s =
    let f : ℕ → Segment = λ z. segment_of p v gone (seg_at p v gone z) in
    let zs = keep (remains_at p v gone) (below p.Z) in
    ap (λ (x : List ℕ). greatest (map (λ z. get_or ns z 0) x)) (sym (flags_keep p v gone fl k))
    ∙ ap greatest (map_cong (λ z. get_or ns z 0) (λ z. (f z).serial) zs (λ z m.
    let (i, q) = keep_in (remains_at p v gone) (below p.Z) z m in
    kept_serial p v gone here ns z s (below_in p.Z z i) (remains_leads p v gone z q) ∙ sym (serial_is p v gone (seg_at p v gone z))))
    ∙ ap greatest (sym (map-map (λ (g : Segment). g.serial) f zs))
    ∙ ap (λ (x : List Segment). greatest (map (λ (g : Segment). g.serial) x)) (sym (segments-list p v gone))

-- ---- the unsealed segments

-- 01, Restart, 4: a segment remains at this zone of the lowest present drive, and it is not sealed
unfoldable pub unsealed_at : Params → View → ℕ → ℕ → Bool
unsealed_at p v gone z = remains_at p v gone z && not (sealed_in p v gone (seg_at p v gone z))

-- by flags and rows
pub unsealed_is : (p : Params) (v : View) (gone : ℕ) (l : List ℕ) (ks : List Bool) → FlagsRows p v gone l → Keeps p v gone ks → (z : ℕ) → z < p.Z
    → (get_or ks z false && not (sealed_in p v gone (seg (part (8 * z) 8 l)))) ≡ unsealed_at p v gone z
unfolding unsealed_at
unsealed_is p v gone l ks r k z h = ap (λ (b : Bool). b && not (sealed_in p v gone (seg (part (8 * z) 8 l)))) (k.1 z h) ∙ go (test (remains_at p v gone z))
  where
    go : Test (remains_at p v gone z)
        → (remains_at p v gone z && not (sealed_in p v gone (seg (part (8 * z) 8 l)))) ≡ (remains_at p v gone z && not (sealed_in p v gone (seg_at p v gone z)))
    go (yes! q) = ap (λ (g : Seg). remains_at p v gone z && not (sealed_in p v gone g)) (kept_row p v gone l ks r k z h q)
    go (no! q) = and_false_left (remains_at p v gone z) (not (sealed_in p v gone (seg (part (8 * z) 8 l)))) q
        ∙ sym (and_false_left (remains_at p v gone z) (not (sealed_in p v gone (seg_at p v gone z))) q)

pub unsealed-list : (p : Params) (v : View) (gone : ℕ)
    → unsealed (segments p v gone) ≡ map (λ z. segment_of p v gone (seg_at p v gone z)) (keep (unsealed_at p v gone) (below p.Z))
unfolding unsealed unsealed_at
unsealed-list p v gone =
    let f : ℕ → Segment = λ z. segment_of p v gone (seg_at p v gone z) in
    ap (keep (λ (s : Segment). not s.full)) (segments-list p v gone)
    ∙ keep-map (λ (s : Segment). not s.full) f (keep (remains_at p v gone) (below p.Z))
    ∙ ap (map f) (keep-keep (λ z. not (f z).full) (remains_at p v gone) (below p.Z)
    ∙ keep-below_same (λ z. remains_at p v gone z && not (f z).full) (λ z. remains_at p v gone z && not (sealed_in p v gone (seg_at p v gone z))) p.Z
    (λ z h. ap (λ (b : Bool). remains_at p v gone z && not b) (full_is p v gone (seg_at p v gone z))))

pub unsealed-length : (p : Params) (v : View) (gone : ℕ) → length (unsealed (segments p v gone)) ≡ length (keep (unsealed_at p v gone) (below p.Z))
unsealed-length p v gone = ap length (unsealed-list p v gone) ∙ length-map (keep (unsealed_at p v gone) (below p.Z)) (λ z. segment_of p v gone (seg_at p v gone z))
