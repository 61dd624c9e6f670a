-- `offset_of`: a missing drive takes the first branch of `offset_of`, base + k; a present one is entered, and its offset is that of the index. Assumes nothing.
use mathlib.Core.Path.{sym, ◌∙◌}
use Prim.Native.Nat.{◌+◌}
use Rattle.spec.specs.Lists.{is_in}
use Rattle.spec.specs.Segments.{offset_on, offset_of}
use Rattle.law_drives.specs.Tests.{cond_true, cond_false}
use Rattle.recover_groups.proofs.offset_of.Goals as goal

pub returns-then-has_drive : goal.returns-then-has_drive
unfolding offset_of
returns-then-has_drive c =
    let has-drive = c.has_drive in
    let args = c.args in
    λ p g x hd hk. sym (cond_true (is_in args.w.gone args.drive) (args.w.base + args.k) (offset_on g args.drive (args.w.base + args.k))
    (sym has-drive.ensures ∙ c.if-has_drive.true))

pub offset_on-requires : goal.offset_on-requires
offset_on-requires c =
    let pre = c.requires in
    (pre.at_len.0, pre.at_len.1, pre.at_len.2, pre.at_len.3, pre.bound (sym c.has_drive.ensures ∙ c.if-has_drive.false))

pub returns : goal.returns
unfolding offset_of
returns c =
    let has-drive = c.has_drive in
    let args = c.args in
    λ p g x hd hk. c.offset_on.ensures.value_2 p g x hd hk
    ∙ sym (cond_false (is_in args.w.gone args.drive) (args.w.base + args.k) (offset_on g args.drive (args.w.base + args.k))
    (sym has-drive.ensures ∙ c.if-has_drive.false))
