-- What a healthy restart finds: stamps and serials of 8 bytes, and what is open. Assumes nothing.
use Rattle.std.specs.Prelude.{◌≡◌, List, map, Bool, true, false, ℕ, ◌^◌, ◌<◌, ◌⊎◌, ◌≢◌}
use Rattle.std.proofs.Common.{sym, ap, arith}
use Rattle.std.proofs.Math.Path.{subst}
use Rattle.spec.specs.declared.Params.{Params}
use Rattle.spec.specs.Drives.{View, zone_at, pointer_at, chunk_at, zone_on}
use Rattle.spec.specs.Layout.{header_serial}
use Rattle.spec.specs.Lists.{greatest, is_in}
use Rattle.spec.specs.Rank.{Cand}
use Rattle.spec.specs.Restart.{open_of_of, next_of}
use Rattle.spec.specs.Segments.{header_at, remaining, Segment, segment_of, segments, candidates, greatest_stamp, greatest_serial, unsealed, low_drive}
use Rattle.law_basic.specs.Geometry.{Ranged}
use Rattle.proof_crash_machine.specs.Val.{Val}
use Rattle.proof_crash_machine.specs.View.Item.{chunk}
use Rattle.std.proofs.Math.Logic.{⊎_elim}
use Rattle.proof_crash_machine.specs.Facts.{Ghost, None, Choice}
use Rattle.proof_crash_machine.specs.View.{ItemView, InI}
use Rattle.proof_crash_items.specs.SegFacts.{begun_on, serial_name}
use Rattle.proof_crash_items.specs.Segs.{OnDrives, name_of, drive_here, seg_bytes, remains_at_holds}
use Rattle.proof_crash_items.specs.Member.{Has, map_has, greatest_some}
use Rattle.proof_crash_items.specs.Named.{zero_choice}
use Rattle.proof_crash_items.specs.Stripes.{pointer_is}
use Rattle.proof_crash_items.specs.ZoneBytes.{block_in_of}
use Rattle.proof_crash_items.specs.Ranges.{par_of}
use Rattle.proof_crash_calls.proofs.Places.{cand_stamp_low}
use Rattle.spec.specs.declared.Seg.{Seg}

module _ (p : Params) (h : Ranged p) (off : List ℕ) (g : Ghost) (v : View) (u : ItemView) (k : OnDrives p h off g v u) (none? : None (par_of p h off) g.un) where
  -- ---- stamps and serials take 8 bytes

  pub stamps_fit : greatest_stamp (candidates p 0 (segments p v 0)) < 256 ^ 8
  unfolding greatest_stamp
  stamps_fit = ⊎_elim (λ (e : greatest (map (λ (x : Cand). x.stamp) (candidates p 0 (segments p v 0))) ≡ 0). omega arith)
      (λ (i : Has (greatest (map (λ (x : Cand). x.stamp) (candidates p 0 (segments p v 0)))) (map (λ (x : Cand). x.stamp) (candidates p 0 (segments p v 0)))).
      let x : (x : Cand) × Has x (candidates p 0 (segments p v 0)) × (greatest (map (λ (x : Cand). x.stamp) (candidates p 0 (segments p v 0))) ≡ x.stamp) =
      map_has (λ (x : Cand). x.stamp) (greatest (map (λ (x : Cand). x.stamp) (candidates p 0 (segments p v 0)))) (candidates p 0 (segments p v 0)) i in
      subst (λ (n : ℕ). n < 256 ^ 8) (sym x.2) (cand_stamp_low p h off g v u k none? x.0 x.1))
      (greatest_some (map (λ (x : Cand). x.stamp) (candidates p 0 (segments p v 0))))

  one_fits : (z : Seg) → Has z (remaining p v 0) → (segment_of p v 0 z).serial < 256 ^ 8
  one_fits z i =
      let c : Choice (par_of p h off) g.un (is_in 0) = zero_choice p h off g.un none? in
      let here = drive_here p h off g v u k 0 c in
      let b : 0 < pointer_at v (low_drive p 0) (zone_on z (low_drive p 0)) = begun_on p h off g v u k 0 c z i (low_drive p 0) here.0 here.1 in
      let q = seg_bytes p h off g v u k 0 c z (remains_at_holds p h off g v u k 0 c z i) (low_drive p 0) here.0 here.1 in
      subst (λ (x : ℕ). x < 256 ^ 8) (sym (serial_name p h off g v u k 0 c z i))
      (low? z (q.serials (subst (λ (x : ℕ). 0 < x) (sym (pointer_is v (low_drive p 0) (zone_on z (low_drive p 0)))) b)).0)
    where
      low? : (z : Seg) → header_serial p (block_in_of (zone_at v (low_drive p 0) (zone_on z (low_drive p 0))) 0).block < 256 ^ 8 → name_of p v 0 z < 256 ^ 8
      low? z l = unfold name_of header_at chunk_at in l

  pub serials_fit : greatest_serial (segments p v 0) < 256 ^ 8
  unfolding greatest_serial
  serials_fit = ⊎_elim (λ (e : greatest (map (λ (x : Segment). x.serial) (segments p v 0)) ≡ 0). omega arith)
      (λ (i : Has (greatest (map (λ (x : Segment). x.serial) (segments p v 0))) (map (λ (x : Segment). x.serial) (segments p v 0))).
      let x : (x : Segment) × Has x (segments p v 0) × (greatest (map (λ (x : Segment). x.serial) (segments p v 0)) ≡ x.serial) =
      map_has (λ (x : Segment). x.serial) (greatest (map (λ (x : Segment). x.serial) (segments p v 0))) (segments p v 0) i in
      subst (λ (n : ℕ). n < 256 ^ 8) (sym x.2) (seg_fits x.0 x.1))
      (greatest_some (map (λ (x : Segment). x.serial) (segments p v 0)))
    where
      seg_fits : (x : Segment) → Has x (segments p v 0) → x.serial < 256 ^ 8
      seg_fits x i = unfold segments in (
          let z : (z : Seg) × Has z (remaining p v 0) × (x ≡ segment_of p v 0 z) = map_has (segment_of p v 0) x (remaining p v 0) i in
          subst (λ (n : ℕ). n < 256 ^ 8) (ap (λ (y : Segment). y.serial) (sym z.2)) (one_fits z.0 z.1))

-- what a healthy restart finds open: b, segment z by name and next stripe n; if open, the stripes below n are on all drives, and they are not all S
pub record Finds (p : Params) (v : View) (u : ItemView) (b : Bool) (z n : ℕ) : Type 0 where
  pub is : ((b ≡ true) × (open_of_of (unsealed (segments p v 0)) ≡ z) × (z ≢ 0) × (next_of p (unsealed (segments p v 0)) ≡ n)) ⊎
      ((b ≡ false) × (open_of_of (unsealed (segments p v 0)) ≡ 0))
  pub less : b ≡ true → n < p.S
  pub full : b ≡ true → (s : ℕ) → s < n → (d : ℕ) → d < p.N → (x : Val) × InI (chunk s x) (u d z)
