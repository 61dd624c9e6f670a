-- `buckets_of`: the drive's parts of the arrays are its index (`chain_lent`). Assumes nothing.
use Prim.Native.Nat.{◌+◌, ◌*◌}
use Rattle.disk_gather.specs.Index.{chain_lent}
use Rattle.disk_gather.proofs.buckets_of.Goals as goal

pub returns-clause-buckets : goal.returns-clause-buckets
returns-clause-buckets c =
    let i = c.args.index.now in
    let d = c.args.drive in
    let w = i.mask + 1 + i.p.Z in
    λ v x q. chain_lent i.p v i.mask d (d * i.p.Z) (d * w) w i.heads.now i.links.now (x d c.requires q)
