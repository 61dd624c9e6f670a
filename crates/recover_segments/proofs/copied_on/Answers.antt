-- `copied_on`: the header's copied serial at the segment's zone on the drive. Assumes nothing.
use mathlib.Core.Path.{ap, ◌∙◌}
use Prim.Native.Nat.{ℕ}
use Rattle.spec.specs.Drives.{view_of, chunk_at}
use Rattle.spec.specs.Layout.{header_copied}
use Rattle.spec.specs.Segments.{header_at}
use Rattle.recover_segments.proofs.copied_on.Goals as goal

pub returns : goal.returns
unfolding header_at
returns c =
    let a = c.args in
    λ off ps h. c.copied_in.ensures off ps h
    ∙ ap (λ (z : ℕ). header_copied a.p (chunk_at (view_of a.p off a.image.now ps) a.drive z 0).block) c.zone_on-zone.ensures
