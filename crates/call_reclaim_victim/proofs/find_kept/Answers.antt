-- `find_kept`: no drive is missing, and the arrays are as long as the most zones, so `gather` tells the rows and which remain. Assumes nothing.
use Prim.Native.Nat.{ℕ, ◌≤◌}
use Rattle.law_basic.specs.Geometry.{ranged}
use Rattle.law_drives.specs.Settled.{zero_here}
use lib.ListN.{length-replicate}
use mathlib.Core.Bool.{Bool, false}
use mathlib.Core.Path.{sym, subst}
use Rattle.call_reclaim_victim.proofs.find_kept.Goals as goal

pub gather-requires : goal.gather-requires
gather-requires c =
    let p = c.args.drives.now.p in
    let r = ranged p c.args.drives.now.sound in
    let serials = subst (λ (x : ℕ). p.Z ≤ x) (sym (length-replicate {A = ℕ} 1024 0)) r.zones_high in
    let left = subst (λ (x : ℕ). p.Z ≤ x) (sym (length-replicate {A = Bool} 1024 false)) r.zones_high in
    record { here = zero_here p r; z_in_bounds = (c.requires.z_in_bounds.0, serials, left, c.requires.z_in_bounds.1) }
