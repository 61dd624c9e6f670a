-- A healthy run exists: empty drives, with the memory that a restart makes of them. Assumes nothing.
use Rattle.std.specs.Prelude.{◌≡◌, refl, true, false, cond, ℕ, ◌<◌, eqb}
use Rattle.std.proofs.Math.Path.{ap}
use Rattle.std.proofs.Common.{◌∙◌}
use mathlib.Core.List.{List, [], map}
use Rattle.std.proofs.Math.Bool.{not}
use Rattle.std.proofs.Math.Dec.{ltb}
use Rattle.spec.specs.declared.Params.{Params}
use Rattle.spec.specs.Drives.{View, Disk, zone_on}
use Rattle.spec.specs.History.{empty_disk}
use Rattle.spec.specs.Lists.{below, all, keep, flat, greatest}
use Rattle.spec.specs.Memory.{idle_state}
use Rattle.spec.specs.Params.{present}
use Rattle.spec.specs.Restart.{open_of_of, next_of, restart_memory}
use Rattle.spec.specs.Segments.{low_drive, left_by1, is_copy, remaining, Segment, segment_of, segments, candidates, greatest_stamp, greatest_serial, unsealed}
use Rattle.law_basic.specs.Geometry.{Ranged}
use Rattle.law_views.specs.Views.{seen}
use Rattle.proof_crash_items.specs.Member.{keep-nil, and_false_1, below_has}
use Rattle.proof_crash_items.specs.Start.{start_unused}
use Rattle.spec.specs.declared.Seg.{Seg}
use Rattle.proof_crash_items.specs.Named.{low_drive_holds, zero_few}
use Rattle.spec.specs.Segments.{gathered, is_used, leads, lowest_bearing, seg_for, serial_in}

module _ (p : Params) (h : Ranged p) (off : List ℕ) (k : Disk) (e : empty_disk p off k ≡ true) (fl : List ℕ) where
  abbrev v : View
  v = seen p off k

  none_used : (z : ℕ) → z < p.Z → leads p v (low_drive p 0) z ≡ false
  unfolding leads
  none_used z b = and_false_1 (is_used p v (low_drive p 0) z) (eqb (lowest_bearing p v (low_drive p 0) (serial_in p v (low_drive p 0) z)) z)
      (start_unused p h off k e (low_drive p 0) z (low_drive_holds p 0 h (zero_few p h)).0 b)

  none_left : left_by1 p v 0 ≡ []
  unfolding left_by1 gathered
  none_left =
      ap (λ (l : List ℕ). keep (λ g. all (λ d. ltb (zone_on g d) p.Z) (present p 0)) (map (λ z. seg_for p v 0 (serial_in p v (low_drive p 0) z)) l))
      (keep-nil (leads p v (low_drive p 0)) (below p.Z) (λ z i. none_used z (below_has z p.Z i))) ∙ (unfold keep in refl)

  none_segments : segments p v 0 ≡ []
  unfolding segments remaining
  none_segments = ap (λ (l : List Seg). map (segment_of p v 0) (keep (λ g. not (is_copy p v (low_drive p 0) l g)) l)) none_left ∙ (unfold keep in refl)

  state_is : (restart_memory p v 0 fl).state ≡ idle_state 1 0 0 0 0 0
  unfolding restart_memory
  state_is =
      ap (λ (gs : List Segment). idle_state 1 0 (greatest_stamp (candidates p 0 gs)) (greatest_serial gs) (open_of_of (cond (eqb 0 0) (unsealed gs) []))
      (next_of p (cond (eqb 0 0) (unsealed gs) []))) none_segments
      ∙ (unfold candidates flat greatest_stamp greatest_serial greatest unsealed keep open_of_of next_of in refl)

-- ---- and goes on, whatever is called but a restart
