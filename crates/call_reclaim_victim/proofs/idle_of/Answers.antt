-- `idle_of`: marks of fewer places leave it to `idle_windows`; else they are of all, and `idle_zones` goes over them from nothing found. Assumes nothing.
use Rattle.spec.specs.Memory.{state_of}
use Prim.Native.Nat.{ℕ, ◌*◌, ◌≤◌}
use Rattle.spec.specs.Drives.{View, view_of}
use Rattle.spec.specs.Params.{capacity}
use Rattle.call_reclaim_victim.specs.Waiting.{waiting-at, waiting_none}
use lib.ListN.{length}
use mathlib.Core.List.{List}
use native.Mathlib.Omega.{arith}
use Rattle.call_reclaim_victim.proofs.idle_of.Goals as goal

pub places-all-requires : goal.places-all-requires
places-all-requires c = c.requires.p_value

pub idle_windows-requires : goal.idle_windows-requires
idle_windows-requires c =
    let pre = c.requires in record { p_value = pre.p_value; whole = pre.whole; addresses_len = pre.addresses_len }

pub returns-then-marks-all : goal.returns-then-marks-all
returns-then-marks-all c = c.idle_windows.ensures

pub idle_zones-requires : goal.idle_zones-requires
idle_zones-requires c =
    let pre = c.requires in
    let s = c.places-all.ensures.0 in record { p_value = pre.p_value; whole = pre.whole; first_le_end = (omega arith, omega (arith, c.if-marks-all.false), omega (arith, s), pre.addresses_len.3) }

pub returns : goal.returns
returns c =
    let a = c.args in
    let pre = c.requires in
    let p = a.p in
    let v : List ℕ → View = λ off. view_of p off a.image.now a.pointers.now in
    let tb = a.addresses.now in
    let st = state_of a.bytes.now in
    let s = c.places-all.ensures.0 in
    let h : p.N * p.Z * capacity p ≤ 8 * length a.marks.now = omega (arith, s, c.if-marks-all.false) in
    λ off. waiting-at p (v off) st a.segment tb c.places-all.result (p.N * p.Z * capacity p) c.idle_zones.result s
    (c.idle_zones.ensures off tb (λ q x y. pre.marks h q x (omega (arith, y, s)))
    (waiting_none p (v off) st a.segment tb))
