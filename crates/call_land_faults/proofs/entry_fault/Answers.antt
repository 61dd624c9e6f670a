-- `entry_fault`: `entry_outside` for an address not below L, `entry_never` for one never written; else its place's fault (`entry_placed`). Assumes nothing.
use Rattle.disk_drives.specs.Viewed.{viewed}
use Rattle.spec.specs.Counts.{never_place}
use Rattle.spec.specs.Drives.{View}
use Rattle.spec.specs.Memory.{place_at_of}
use Rattle.spec.specs.Params.{addresses_len}
use Rattle.spec.specs.Read.{place_faults}
use Rattle.law_basic.specs.Geometry.{ranged}
use Rattle.law_drives.specs.Settled.{zero_here}
use Rattle.call_land_faults.specs.Lowest.{entry_outside, entry_never, entry_placed}
use mathlib.Core.Path.{◌≡◌, sym, ap, ◌∙◌}
use native.Mathlib.Omega.{arith}
use Rattle.call_land_faults.proofs.entry_fault.Goals as goal

pub returns-then-drives-address : goal.returns-then-drives-address
returns-then-drives-address c e q =
    let a = c.args in
    entry_outside a.drives.now.p (viewed a.drives.now) a.addresses.now e (omega (arith, c.if-drives-address.true, q))

pub place_at-q-requires : goal.place_at-q-requires
unfolding addresses_len
place_at-q-requires c =
    let pre = c.requires in
    omega (arith, c.if-drives-address.false, pre.addresses_long)

pub returns-then-q : goal.returns-then-q
returns-then-q c e q =
    let a = c.args in
    let tb = a.addresses.now in
    let f : place_at_of tb e.address ≡ never_place = ap (place_at_of tb) q ∙ sym c.place_at-q.ensures ∙ c.if-q.true in
    entry_never a.drives.now.p (viewed a.drives.now) tb e (omega (arith, c.if-drives-address.false, q)) f

pub place_fault-requires : goal.place_fault-requires
place_fault-requires c =
    let a = c.args in
    let q = c.requires in record { here = zero_here a.drives.now.p (ranged a.drives.now.p c.args.drives.now.sound) }

pub returns : goal.returns
returns c e q =
    let a = c.args in
    let place_at = c.place_at-q in
    let if1 = c.if-drives-address in
    let tb = a.addresses.now in
    let v : View = viewed a.drives.now in
    let f : place_at_of tb e.address ≡ place_at.result.0 = ap (place_at_of tb) q ∙ sym place_at.ensures in
    entry_placed a.drives.now.p v tb e (omega (arith, if1.false, q)) (λ x. c.if-q.false (sym f ∙ x))
    ∙ ap (place_faults a.drives.now.p v 0) f ∙ c.place_fault.ensures.faults
