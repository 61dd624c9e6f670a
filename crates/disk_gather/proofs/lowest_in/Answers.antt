-- `lowest_in`: the walk from the lowest zone of the serial's bucket. Assumes nothing.
use mathlib.Core.Path.{sym, subst, ap, ◌∙◌}
use Prim.Native.Nat.{ℕ, ◌≤◌}
use native.Mathlib.Omega.{arith}
use lib.Bits.{bit_and}
use lib.ListN.{get_or}
use Rattle.disk_gather.specs.Index.{in_bucket, Nearest}
use Rattle.disk_gather.proofs.lowest_in.Goals as goal

pub returns : goal.returns
returns c =
    let i = c.args.part.now in
    let b = bit_and c.args.serial.0 i.mask in
    let e = c.from.ensures ∙ ap (λ (k : ℕ). get_or i.links.now k 0) c.bucket-b.ensures.0 in
    let h = subst (λ (k : ℕ). k ≤ i.mask) c.bucket-b.ensures.0 c.bucket-b.ensures.1 in
    record {
      nearest = (λ v d x. c.walk.ensures.nearest v d 0 (omega arith) x (subst (Nearest (in_bucket i.p v i.mask d b) i.p.Z 0) (sym e) (x.firsts b h)));
      upper_bound = c.walk.ensures.upper_bound;
    }
