-- `names_in`: after d turns the first d zones are those named for the first d drives, the others 0; after N it is the segment. Assumes nothing.
use mathlib.Core.Path.{◌≡◌, ap, ◌∙◌}
use mathlib.Core.List.{List}
use Prim.Native.Nat.{ℕ, ◌<◌}
use native.Mathlib.Omega.{arith}
use lib.ListN.{set}
use Rattle.spec.specs.Drives.{view_of, chunk_at, seg}
use Rattle.spec.specs.Layout.{header_zone}
use Rattle.law_basic.specs.Geometry.{ranged}
use Rattle.law_basic.specs.Segs.{filled_to, filled_none, filled_more, filled_with}
use Rattle.recover_headers.proofs.names_in.Goals as goal

pub loop-d-init : goal.loop-d-init
loop-d-init c =
    let a = c.args in
    (omega arith, λ off ps h. filled_none (header_zone a.p (chunk_at (view_of a.p off a.image.now ps) a.drive a.zone 0).block))

pub zone_named-requires : goal.zone_named-requires
zone_named-requires c = record { p_value = c.requires.p_value; image_len = (c.requires.image_len.0, c.requires.image_len.1, c.requires.image_len.2, c.loop-d-test.true) }

pub offset_bounds-zones-d : goal.offset_bounds-zones-d
offset_bounds-zones-d c = omega (arith, (ranged c.args.p c.requires.p_value).drives_high)

pub bounds-zones-d : goal.bounds-zones-d
bounds-zones-d c = omega (arith, (ranged c.args.p c.requires.p_value).drives_high)

pub loop-d-preserved : goal.loop-d-preserved
loop-d-preserved c =
    let a = c.args in
    let l = c.loop-d in
    let t : l.d < 8 = omega (arith, (ranged a.p c.requires.p_value).drives_high, c.loop-d-test.true) in (
      omega arith,
      λ off ps h. let f : ℕ → ℕ = header_zone a.p (chunk_at (view_of a.p off a.image.now ps) a.drive a.zone 0).block in
          ap (λ (x : List ℕ). set x l.d c.zone_named.result) (l.invariant.1 off ps h) ∙ ap (set (filled_to f l.d) l.d) (c.zone_named.ensures off ps h) ∙ filled_more f l.d t,
    )

pub returns : goal.returns
returns c =
    let a = c.args in
    let l = c.loop-d in
    let n : l.d ≡ a.p.N = omega (arith, l.invariant.0, c.loop-d-test.false) in
    λ off ps h. let f : ℕ → ℕ = header_zone a.p (chunk_at (view_of a.p off a.image.now ps) a.drive a.zone 0).block in
    ap (λ (x : List ℕ). seg x) (l.invariant.1 off ps h ∙ ap (filled_to f) n) ∙ filled_with a.p f
