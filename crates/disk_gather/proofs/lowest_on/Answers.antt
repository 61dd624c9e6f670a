-- `lowest_on`: the lowest of the drive's index. Assumes nothing.
use mathlib.Core.Path.{subst}
use Prim.Native.Nat.{◌≤◌}
use Rattle.spec.specs.declared.Params.{Params}
use Rattle.disk_gather.specs.Index.{bears_at, Nearest, nearest_lowest}
use Rattle.disk_gather.proofs.lowest_on.Goals as goal

pub returns : goal.returns
returns c =
    let i = c.args.index.now in
    let d = c.args.drive in
    let r = c.args.serial.0 in
    let n = c.lowest_in.result in
    let b = c.buckets_of.ensures in
    let m : n ≤ i.p.Z = subst (λ (p : Params). n ≤ p.Z) b.same.0 c.lowest_in.ensures.upper_bound in record {
      value = (λ v q x. nearest_lowest i.p v d r n
          (subst (λ (p : Params). Nearest (bears_at p v d r) p.Z 0 n) b.same.0 (c.lowest_in.ensures.nearest v d (b.buckets v x q))) m);
      upper_bound = m;
    }
