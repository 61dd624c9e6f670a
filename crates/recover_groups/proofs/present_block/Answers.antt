-- `present_block`: a missing drive asks nothing; a present one has its entry. Assumes nothing.
use mathlib.Core.Path.{◌≡◌, sym, ◌∙◌}
use mathlib.Core.Bool.{true}
use Rattle.spec.specs.Lists.{is_in}
use Rattle.law_basic.specs.Ranges.{not_both}
use Rattle.law_basic.specs.Segs.{low_zone}
use Rattle.recover_groups.proofs.present_block.Goals as goal

pub returns-then-has_drive : goal.returns-then-has_drive
returns-then-has_drive c =
    let a = c.args in
    let t : is_in a.w.gone a.drive ≡ true = sym c.has_drive.ensures
    ∙ c.if-has_drive.true in record { b_bound = λ e. absurd (not_both (is_in a.w.gone a.drive) t e); by_index = λ off im ps h x e. absurd (not_both (is_in a.w.gone a.drive) t e) }

pub block_at-requires : goal.block_at-requires
block_at-requires c =
    let a = c.args in
    let pre = c.requires in
    let q = pre.at_len in
    let here = sym c.has_drive.ensures ∙ c.if-has_drive.false in
    record { p_value = pre.p_value; at_len = (q.0, low_zone a.p a.w.gone a.w.seg a.drive q.1 q.3 here, q.2, q.3, q.4); entered = pre.all_entered a.drive q.3 here }

pub returns : goal.returns
returns c = record { b_bound = λ e. c.block_at.ensures.b_bound; by_index = λ off im ps h x e. c.block_at.ensures.by_index off im ps h x }
