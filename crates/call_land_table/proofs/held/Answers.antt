-- `held`: the place is within the table; never written gives none, any other is data as required and gives `held_cand`. Assumes nothing.
use Rattle.disk_drives.specs.Viewed.{viewed}
use Prim.Native.Nat.{ℕ}
use Rattle.spec.specs.Drives.{View}
use Rattle.spec.specs.Lists.Opt.{some}
use Rattle.spec.specs.Params.{addresses_len}
use Rattle.spec.specs.Segments.{is_place}
use Rattle.disk_stored.specs.Places.{DataPlace}
use Rattle.law_views.specs.Looked.{held_none, held_some}
use mathlib.Core.Bool.{true}
use mathlib.Core.Path.{◌≡◌, sym, ap, ◌∙◌, subst}
use native.Mathlib.Omega.{arith}
use Rattle.call_land_table.proofs.held.Goals as goal

pub place_at-place-requires : goal.place_at-place-requires
unfolding addresses_len
place_at-place-requires c =
    let pre = c.requires in
    omega (arith, pre.addresses_len.0, pre.addresses_len.1)

pub returns-then-place : goal.returns-then-place
returns-then-place c =
    let a = c.args in
    let place_at = c.place_at-place in
    let v : View = viewed a.drives.now in
    sym (held_none a.drives.now.p a.addresses.now a.address.0 place_at.result.0 (sym place_at.ensures) v c.if-place.true)

pub held_cand-requires : goal.held_cand-requires
held_cand-requires c =
    let a = c.args in
    let q = c.requires in
    let place_at = c.place_at-place in
    let v : View = viewed a.drives.now in
    let h = q.addresses_len.2 (λ e. c.if-place.false (place_at.ensures ∙ e)) in
    record { data_place = subst (λ (x : ℕ). DataPlace a.drives.now.p x × (is_place a.drives.now.p v 0 x ≡ true)) (sym place_at.ensures) h }

pub returns : goal.returns
returns c =
    let a = c.args in
    let place_at = c.place_at-place in
    let v : View = viewed a.drives.now in
    ap some c.held_cand.ensures
    ∙ sym (held_some a.drives.now.p a.addresses.now a.address.0 place_at.result.0 (sym place_at.ensures) v c.if-place.false)
