-- What the index says as a value (02, item 4). Assumes nothing.
use Rattle.std.specs.Prelude.{ℕ}
use Rattle.spec.specs.Drives.{View}
use Rattle.disk_gather.specs.declared.index.Index.{Index}
use Rattle.disk_gather.specs.declared.index.Buckets.{Buckets}
use Rattle.disk_gather.specs.Index.{Chained, ChainedTo}

-- each present drive has its index
abbrev pub IndexOf : View → Index → Type 0
IndexOf v i = ChainedTo i.p v i.gone i.mask i.p.N i.heads.now i.links.now

-- a drive has its
abbrev pub BucketsOf : View → ℕ → Buckets → Type 0
BucketsOf v d b = Chained b.p v b.mask d 0 b.heads.now b.links.now
