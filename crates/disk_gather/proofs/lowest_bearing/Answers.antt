-- `lowest_bearing`: the first from z on is the first of all; such a zone z is it, another passes on; at Z there is none. The header's byte goes along. Assumes nothing.
use Rattle.disk_drives.specs.Viewed.{viewed}
use mathlib.Core.Path.{sym, ◌∙◌}
use Prim.Native.Nat.{◌+◌, ◌<◌}
use native.Mathlib.Omega.{arith}
use Rattle.spec.specs.Params.{capacity}
use Rattle.spec.specs.Segments.{bearing, lowest_bearing}
use Rattle.law_basic.specs.Geometry.{ranged, capacity-low}
use Rattle.disk_gather.specs.Found.{lowest_start, lowest_turn, lowest_pass, lowest_end, head_step, found_header_room}
use Rattle.disk_gather.specs.Index.{bears_at}
use Rattle.disk_gather.proofs.lowest_bearing.Goals as goal

pub block_byte-at-requires-clause-drive_lt_n : goal.block_byte-at-requires-clause-drive_lt_n
block_byte-at-requires-clause-drive_lt_n c =
    let r = ranged c.args.drives.now.p c.args.drives.now.sound in
    let k : 0 < capacity c.args.drives.now.p = let x = capacity-low c.args.drives.now.p r in omega (arith, x) in (c.requires.drive_lt_n, omega (arith, r.zones_low), k)

pub loop-z-init : goal.loop-z-init
loop-z-init c =
    let a = c.args in
    let v = viewed a.drives.now in
    (omega arith, c.block_byte-at.ensures.0, lowest_start (bears_at a.drives.now.p v a.drive a.serial.0) a.drives.now.p.Z a.drives.now.p.Z)

pub returns-then-bears : goal.returns-then-bears
unfolding lowest_bearing bearing bears_at
returns-then-bears c =
    let a = c.args in
    let l = c.loop-z in
    let v = viewed a.drives.now in
    let h = c.loop-z-test.true in
    (sym (lowest_turn (bears_at a.drives.now.p v a.drive a.serial.0) a.drives.now.p.Z l.z a.drives.now.p.Z h (sym c.bears.ensures ∙ c.if-bears.true)) ∙ l.invariant.2, omega (arith, h))

pub overflow_add-at : goal.overflow_add-at
overflow_add-at c =
    let a = c.args in
    let r = ranged a.drives.now.p c.args.drives.now.sound in
    let l = c.loop-z in
    let k = found_header_room a.drives.now.p a.drive l.z l.at a.drives.now.image.now r c.requires.drive_lt_n c.loop-z-test.true l.invariant.1 c.args.drives.now.whole.image_long in
    omega (arith, k.1, c.zone_len-step.ensures.1)

pub loop-z-preserved : goal.loop-z-preserved
loop-z-preserved c =
    let a = c.args in
    let l = c.loop-z in
    let v = viewed a.drives.now in
    let h = c.loop-z-test.true in (
      omega (arith, h),
      (λ j. l.invariant.1 j + c.zone_len-step.ensures.0 j) ∙ sym (head_step a.drives.now.p a.drive l.z),
      sym (lowest_pass (bears_at a.drives.now.p v a.drive a.serial.0) a.drives.now.p.Z l.z a.drives.now.p.Z h (sym c.bears.ensures ∙ c.if-bears.false)) ∙ l.invariant.2,
    )

pub returns : goal.returns
unfolding lowest_bearing bearing bears_at
returns c =
    let a = c.args in
    let l = c.loop-z in
    let v = viewed a.drives.now in
    (sym (lowest_end (bears_at a.drives.now.p v a.drive a.serial.0) a.drives.now.p.Z l.z a.drives.now.p.Z (omega (arith, c.loop-z-test.false))) ∙ l.invariant.2, omega arith)
