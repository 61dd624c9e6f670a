-- Whose a zone is, of the segments that remain: the table by drive and zone has their rows (02, item 4). Assumes nothing.
use Rattle.std.specs.Prelude.{◌≡◌, List, Bool, false, eqb, length, get_or}
use Rattle.std.proofs.Math.Path.{sym, ap, subst}
use Rattle.std.proofs.Common.{ap₂, ◌∙◌, eq-eqb, eqb-true}
use Rattle.std.proofs.Math.Bool.{true, ◌&&◌}
use Prim.Native.Nat.{ℕ, ◌+◌, ◌*◌, ◌≤◌, ◌<◌}
use Rattle.spec.specs.declared.Params.{Params}
use Rattle.spec.specs.declared.Seg.{Seg}
use Rattle.spec.specs.Drives.{View, zone_on}
use Rattle.spec.specs.Params.{offline_len}
use Rattle.spec.specs.Segments.{low_drive}
use Rattle.law_basic.specs.Ranges.{and_left, and_right}
use Rattle.law_basic.specs.Segs.{ZonesLow}
use Rattle.law_drives.specs.Segs.{Here}
use Rattle.law_drives.specs.Spots.{SpotsApart, seg-low, seg-alone}
use Rattle.law_drives.specs.Tables.{seg_at, remains_at, seg-at_zone, at-remaining}
use Rattle.disk_gather.specs.Flags.{Keeps, FlagsRows}
use Rattle.disk_gather.specs.Found.{remains_leads}
use Rattle.disk_gather.specs.Owners.{row_seg, OwnersRowsLow, owner_of, owner_is}
use Rattle.recover_segments.specs.Kept.{kept_row}

-- the index of a segment's zone on a drive
unfoldable pub owner_at_of : Params → Seg → ℕ → ℕ
owner_at_of p g d = d * p.Z + zone_on g d

-- an array has, of every zone of a remaining segment, on any drive, the segment's zone on the lowest present one
abbrev pub Owners : Params → View → ℕ → List ℕ → Type 0
Owners p v gone l = (offline_len p ≤ length l) × ((z d : ℕ) → z < p.Z → d < p.N → remains_at p v gone z ≡ true → get_or l (owner_at_of p (seg_at p v gone z) d) 0 ≡ z)

module _ (p : Params) (v : View) (gone : ℕ) (here : Here p gone) (apart : SpotsApart p v gone) (rows : List ℕ) (ks : List Bool) (rs : FlagsRows p v gone rows) (kp : Keeps p v gone ks) where
  kept_low : (z d : ℕ) → z < p.Z → d < p.N → remains_at p v gone z ≡ true → zone_on (seg_at p v gone z) d < p.Z
  kept_low z d h hd t = seg-low p v gone here apart (seg_at p v gone z) (at-remaining p v gone here z h t) d hd

  -- the rows have zones
  pub rows-all-low : OwnersRowsLow p rows ks
  unfolding ZonesLow
  rows-all-low z h q d hd _ =
      let t : remains_at p v gone z ≡ true = sym (kp.1 z h) ∙ q in
      subst (λ (g : Seg). zone_on g d < p.Z) (sym (kept_row p v gone rows ks rs kp z h t)) (kept_low z d h hd t)

  -- zones of two segments differ
  rows_apart : (y z d : ℕ) → y < p.Z → z < p.Z → d < p.N → remains_at p v gone y ≡ true → remains_at p v gone z ≡ true
      → zone_on (seg_at p v gone y) d ≡ zone_on (seg_at p v gone z) d → y ≡ z
  rows_apart y z d hy hz hd ty tz q =
      let k : seg_at p v gone y ≡ seg_at p v gone z =
      seg-alone p v gone here apart (seg_at p v gone z) (at-remaining p v gone here z hz tz) d hd (seg_at p v gone y) (at-remaining p v gone here y hy ty) q in
      sym (seg-at_zone p v gone here y (remains_leads p v gone y ty)) ∙ ap (λ (g : Seg). zone_on g (low_drive p gone)) k ∙ seg-at_zone p v gone here z (remains_leads p v gone z tz)

  -- the table of the kept rows has them
  pub owners_told : (l : List ℕ) → offline_len p ≤ length l → ((d z : ℕ) → d < p.N → z < p.Z → get_or l (d * p.Z + z) 0 ≡ owner_of rows ks d z p.Z) → Owners p v gone l
  unfolding owner_at_of
  owners_told l long told = (
    long,
    λ z d hz hd t.
        let on : ℕ → ℕ = λ k. zone_on (row_seg rows k) d in
        let y = zone_on (seg_at p v gone z) d in
        let same : (k : ℕ) → k < p.Z → remains_at p v gone k ≡ true → on k ≡ zone_on (seg_at p v gone k) d =
        λ k h u. ap (λ (g : Seg). zone_on g d) (kept_row p v gone rows ks rs kp k h u) in
        told d y hd (kept_low z d hz hd t)
        ∙ owner_is rows ks d y p.Z z hz (ap₂ ◌&&◌ (kp.1 z hz ∙ t) (eq-eqb y (on z) (sym (same z hz t)))) (λ k hk f.
        let u : remains_at p v gone k ≡ true = sym (kp.1 k hk) ∙ and_left (get_or ks k false) (eqb y (on k)) f in
        rows_apart k z d hk hz hd u t (sym (same k hk u) ∙ sym (eqb-true y (on k) (and_right (get_or ks k false) (eqb y (on k)) f)))),
  )

-- ---- answers of the code

pub owner_at : (p : Params) (g : Seg) (d z i : ℕ) → z ≡ zone_on g d → i ≡ d * p.Z + z → i ≡ owner_at_of p g d
unfolding owner_at_of
owner_at p g d z i ez ei = ei ∙ ap (λ (n : ℕ). d * p.Z + n) ez
