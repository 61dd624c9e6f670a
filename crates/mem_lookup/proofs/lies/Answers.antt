-- `lies`: one law for each end: an entry of all ones lies nowhere, one on a missing drive is away, another is here. Assumes nothing.
use Rattle.spec.specs.Lists.{is_in}
use Rattle.law_views.specs.Looked.{found_nowhere, found_away, found_here}
use Rattle.mem_lookup.specs.Lies.{place_entry_within}
use mathlib.Core.Path.{sym, ap, ◌∙◌}
use Rattle.mem_lookup.proofs.lies.Goals as goal

pub place_at-q-requires : goal.place_at-q-requires
place_at-q-requires c = place_entry_within c.args.p c.args.addresses.now c.args.a c.requires.addresses_len.0 c.requires.addresses_len.1

pub returns-then-q : goal.returns-then-q
returns-then-q c =
    let a = c.args in
    let place_at = c.place_at-q in
    sym (found_nowhere a.p a.addresses.now a.a place_at.result.0 (sym place_at.ensures) a.gone c.if-q.true)

pub returns-then-has_drive : goal.returns-then-has_drive
returns-then-has_drive c =
    let a = c.args in
    let place_drive_lem = c.place_drive in
    let if1 = c.if-q in
    let place_at = c.place_at-q in
    sym (found_away a.p a.addresses.now a.a place_at.result.0 (sym place_at.ensures) a.gone if1.false
    (ap (is_in a.gone) (sym place_drive_lem.ensures.0) ∙ sym c.has_drive.ensures ∙ c.if-has_drive.true))

pub returns : goal.returns
returns c =
    let a = c.args in
    let place_drive_lem = c.place_drive in
    let if1 = c.if-q in
    let place_at = c.place_at-q in
    sym (found_here a.p a.addresses.now a.a place_at.result.0 (sym place_at.ensures) a.gone if1.false
    (ap (is_in a.gone) (sym place_drive_lem.ensures.0) ∙ sym c.has_drive.ensures ∙ c.if-has_drive.false))
