-- `is_kept`: no flag is false, copied serial 0 is no copy, else another segment's serial decides (`remains_is`). Assumes nothing.
use mathlib.Core.Path.{◌≡◌, sym, ap, ◌∙◌}
use mathlib.Core.Bool.{false, not, ◌&&◌}
use Prim.Native.Nat.{ℕ}
use borrow.Author.Tests.{not-true, not-false, eq-eqb, ne_eqb}
use lib.ListN.{get_or}
use Rattle.spec.specs.Drives.{view_of, chunk_at}
use Rattle.spec.specs.Layout.{header_copied}
use Rattle.spec.specs.Lists.{is_in}
use Rattle.spec.specs.Segments.{low_drive}
use Rattle.disk_gather.specs.Flags.{other_left}
use Rattle.disk_gather.specs.Found.{remains_is, remains_not}
use Rattle.disk_gather.proofs.is_kept.Goals as goal

pub returns-then-not-flags-z : goal.returns-then-not-flags-z
returns-then-not-flags-z c =
    let a = c.args in
    let i = a.index.now in
    let fl = a.flags.now in
    λ off ps long here x k.
    sym (remains_not i.p (view_of i.p off a.image.now ps) i.gone here fl a.z c.requires.1 k (not-true (get_or fl a.z false) c.if-not-flags-z.true-raw))

pub returns-then-c-eq0 : goal.returns-then-c-eq0
returns-then-c-eq0 c =
    let a = c.args in
    let i = a.index.now in
    let p = i.p in
    let fl = a.flags.now in
    let n = c.copied_in-c.result.0 in
    let low = low_drive p i.gone in
    λ off ps long here x k.
    let v = view_of p off a.image.now ps in
    let y : n ≡ header_copied p (chunk_at v low a.z 0).block = c.copied_in-c.ensures off ps long ∙ (λ j. header_copied p (chunk_at v (i.lowest.0 j) a.z 0).block) in
    sym (remains_is p v i.gone here fl a.z n c.requires.1 k (not-false (get_or fl a.z false) c.if-not-flags-z.false-raw) y
    ∙ (λ j. not (not (eq-eqb n 0 c.if-c-eq0.true j) && other_left p v low fl a.z n)))

pub returns : goal.returns
returns c =
    let a = c.args in
    let i = a.index.now in
    let p = i.p in
    let fl = a.flags.now in
    let n = c.copied_in-c.result.0 in
    let low = low_drive p i.gone in
    λ off ps long here x k.
    let v = view_of p off a.image.now ps in
    let el = i.lowest.0 in
    let y : n ≡ header_copied p (chunk_at v low a.z 0).block = c.copied_in-c.ensures off ps long ∙ (λ j. header_copied p (chunk_at v (el j) a.z 0).block) in
    ap not (c.is_other_left.ensures v (ap (is_in i.gone) el ∙ here.1) x ∙ ap (λ (d : ℕ). other_left p v d fl a.z n) el)
    ∙ sym (remains_is p v i.gone here fl a.z n c.requires.1 k (not-false (get_or fl a.z false) c.if-not-flags-z.false-raw) y
    ∙ (λ j. not (not (ne_eqb n 0 c.if-c-eq0.false j) && other_left p v low fl a.z n)))
