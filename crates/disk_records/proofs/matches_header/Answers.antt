-- `matches_header`: the prefix of scratch is the header with its spare; src equals it iff block and spare do, each with its own. Assumes nothing.
use mathlib.Core.Path.{◌≡◌, sym, ap, ◌∙◌}
use mathlib.Core.List.{◌++◌}
use native.Mathlib.Omega.{arith}
use lib.Seq.{length-take-le, take_at}
use lib.ListN.{length, take, drop}
use Rattle.spec.specs.Drives.{zero_spare, zones_in}
use Rattle.spec.specs.Layout.{header_block}
use Rattle.spec.specs.Lists.{same_list}
use Rattle.law_basic.specs.Fields.{header_block_long}
use Rattle.law_basic.specs.Geometry.{ranged}
use Rattle.law_basic.specs.Segs.{zones_in_long}
use Rattle.disk_records.specs.Header.{same_unit}
use Rattle.disk_records.proofs.matches_header.Goals as goal

pub slice_bounds-write_header-end-2 : goal.slice_bounds-write_header-end-2
slice_bounds-write_header-end-2 c =
    let a = c.args in
    let h = c.requires in
    let p = a.p in
    let s = a.scratch.now in
    let n = c.unit_len-n.result in
    let t : length (take n s) ≡ n = length-take-le n s (omega (arith, c.unit_len-n.ensures.0, h.2)) in
    sym t

pub write_header-requires : goal.write_header-requires
write_header-requires c =
    let a = c.args in
    let h = c.requires in
    let p = a.p in
    let s = a.scratch.now in
    let n = c.unit_len-n.result in
    let t : length (take n s) ≡ n = length-take-le n s (omega (arith, c.unit_len-n.ensures.0, h.2)) in
    (h.0, t ∙ c.unit_len-n.ensures.0, h.3)

pub slice_bounds-same-end-2 : goal.slice_bounds-same-end-2
slice_bounds-same-end-2 c =
    let a = c.args in
    let write-header = c.write_header in
    let unit-len = c.unit_len-n in
    let h = c.requires in
    let p = a.p in
    let s = a.scratch.now in
    let n = unit-len.result in
    let t : length (take n s) ≡ n = length-take-le n s (omega (arith, unit-len.ensures.0, h.2)) in
    let w = write-header.new.dst in
    let k : length w ≡ n = write-header.auto.dst ∙ t in
    let e : take n (w ++ drop n s) ≡ w = take_at w (drop n s) n k in
    sym (ap length e ∙ k)

pub returns : goal.returns
returns c =
    let a = c.args in
    let write-header = c.write_header in
    let unit-len = c.unit_len-n in
    let h = c.requires in
    let p = a.p in
    let s = a.scratch.now in
    let n = unit-len.result in
    let t : length (take n s) ≡ n = length-take-le n s (omega (arith, unit-len.ensures.0, h.2)) in
    let w = write-header.new.dst in
    let k : length w ≡ n = write-header.auto.dst ∙ t in
    let e : take n (w ++ drop n s) ≡ w = take_at w (drop n s) n k in
    let b = header_block p a.drive (zones_in p a.segment) a.serial.0 a.copied.0 in
    let r = ranged p h.0 in
    c.same.ensures ∙ ap (same_list a.src.now) (e ∙ write-header.ensures)
    ∙ same_unit p a.src.now b zero_spare h.1 (header_block_long p r a.drive (zones_in p a.segment) a.serial.0 a.copied.0 (zones_in_long p a.segment))
