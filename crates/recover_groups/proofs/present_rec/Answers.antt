-- `present_rec`: a missing drive asks nothing; a present one has its entry. Assumes nothing.
use mathlib.Core.Path.{◌≡◌, sym, ◌∙◌}
use mathlib.Core.Bool.{true}
use Rattle.spec.specs.Lists.{is_in}
use Rattle.law_basic.specs.Ranges.{not_both}
use Rattle.law_basic.specs.Segs.{low_zone}
use Rattle.recover_groups.proofs.present_rec.Goals as goal

pub returns-then-has_drive : goal.returns-then-has_drive
returns-then-has_drive c =
    let a = c.args in
    let t : is_in a.w.gone a.drive ≡ true = sym c.has_drive.ensures ∙ c.if-has_drive.true in
    λ off ps x e. absurd (not_both (is_in a.w.gone a.drive) t e)

pub stored_rec-requires : goal.stored_rec-requires
stored_rec-requires c =
    let a = c.args in
    let pre = c.requires in
    let q = pre.image_len in
    let here = sym c.has_drive.ensures ∙ c.if-has_drive.false in
    record { p_value = pre.p_value; image_len = (q.0, q.1, low_zone a.p a.w.gone a.w.seg a.drive q.2 q.4 here, q.3, q.4, q.5); entered = pre.all_entered a.drive q.4 here }

pub returns : goal.returns
returns c = λ off ps x e. c.stored_rec.ensures off ps x
