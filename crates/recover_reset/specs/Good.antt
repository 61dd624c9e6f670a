-- The resets of a drive's good zones, zone by zone (01, Rebuild; 02, item 4). Assumes nothing.
use Rattle.std.specs.Prelude.{◌≡◌, ℕ, ◌+◌, ◌-◌, ◌≤◌, ◌<◌}
use Rattle.std.proofs.Math.Path.{ap}
use Rattle.std.proofs.Common.{◌∙◌}
use mathlib.Core.List.{List, [], ◌∷◌, ◌++◌, map}
use Rattle.std.proofs.Math.Bool.{cond}
use Rattle.spec.specs.Drives.{Store, is_good, good_zones}
use Rattle.spec.specs.Drives.Store.{reset}
use Rattle.spec.specs.Lists.{up_from, keep}
use Rattle.spec.specs.declared.Params.{Params}
use Rattle.law_basic.specs.Ranges.{Test, test, below-start, keep_hit, keep_miss, keep_none, up_from_end, up_from_step}
use Rattle.law_basic.specs.Ranges.Test.{yes!, no! }

module _ (p : Params) (off : List ℕ) (d : ℕ) where
  -- those of zones z and on
  unfoldable pub good_from : ℕ → List Store
  good_from z = map (reset d) (keep (is_good p off d) (up_from z (p.Z - z)))

  pub good_start : map (reset d) (good_zones p off d) ≡ good_from 0
  unfolding good_from good_zones
  good_start = ap (λ (l : List ℕ). map (reset d) (keep (is_good p off d) l)) (below-start p.Z)

  pub good_step : (z : ℕ) → z < p.Z → good_from z ≡ cond (is_good p off d z) (reset d z ∷ []) [] ++ good_from (z + 1)
  unfolding good_from
  good_step z h = ap (λ (l : List ℕ). map (reset d) (keep (is_good p off d) l)) (up_from_step z p.Z h) ∙ go (test (is_good p off d z))
    where
      go : Test (is_good p off d z) → map (reset d) (keep (is_good p off d) (z ∷ up_from (z + 1) (p.Z - (z + 1))))
          ≡ cond (is_good p off d z) (reset d z ∷ []) [] ++ map (reset d) (keep (is_good p off d) (up_from (z + 1) (p.Z - (z + 1))))
      go (yes! q) = rw q (ap (map (reset d)) (keep_hit (is_good p off d) z (up_from (z + 1) (p.Z - (z + 1))) q))
      go (no! q) = rw q (ap (map (reset d)) (keep_miss (is_good p off d) z (up_from (z + 1) (p.Z - (z + 1))) q))

  pub good_end : (z : ℕ) → p.Z ≤ z → good_from z ≡ []
  unfolding good_from
  good_end z h = ap (λ (l : List ℕ). map (reset d) (keep (is_good p off d) l)) (up_from_end z p.Z h) ∙ ap (map (reset d)) (keep_none (is_good p off d))
