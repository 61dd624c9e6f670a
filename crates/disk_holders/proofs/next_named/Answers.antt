-- `next_named`: the next one from y on is the next one from the start on; one found is it, at Z there is none. Assumes nothing.
use Rattle.disk_drives.specs.Viewed.{viewed}
use mathlib.Core.Path.{refl, sym, ◌∙◌}
use native.Mathlib.Omega.{arith}
use Rattle.disk_holders.specs.Held.{names_zone}
use Rattle.disk_holders.specs.Next.{next_hit, next_miss, next_end}
use Rattle.disk_holders.proofs.next_named.Goals as goal

pub loop-y-init : goal.loop-y-init
loop-y-init c = refl

pub names-requires : goal.names-requires
names-requires c = record { here = c.requires.here; low_value = (c.requires.low_value.0, c.requires.low_value.1, c.loop-y-test.true) }

pub returns-then-names : goal.returns-then-names
returns-then-names c =
    let a = c.args in
    let l = c.loop-y in
    let h = c.loop-y-test.true in
    let v = viewed a.drives.now in
    (sym (next_hit (names_zone a.drives.now.p v a.gone a.drive a.zone) a.drives.now.p.Z l.y h (sym c.names.ensures ∙ c.if-names.true)) ∙ l.invariant, h)

pub loop-y-preserved : goal.loop-y-preserved
loop-y-preserved c =
    let a = c.args in
    let l = c.loop-y in
    let h = c.loop-y-test.true in
    let v = viewed a.drives.now in
    sym (next_miss (names_zone a.drives.now.p v a.gone a.drive a.zone) a.drives.now.p.Z l.y h (sym c.names.ensures ∙ c.if-names.false)) ∙ l.invariant

pub returns : goal.returns
returns c =
    let a = c.args in
    let l = c.loop-y in
    let v = viewed a.drives.now in
    (sym (next_end (names_zone a.drives.now.p v a.gone a.drive a.zone) a.drives.now.p.Z l.y (omega (arith, c.loop-y-test.false))) ∙ l.invariant, tt)
