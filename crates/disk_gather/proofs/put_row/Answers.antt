-- `put_row`: the eight zones are written from the row's place on. Assumes nothing.
use mathlib.Core.Path.{◌≡◌, ap, ◌∙◌}
use Prim.Native.Nat.{◌*◌}
use borrow.Author.Rules.{rules}
use lib.ListN.{length}
use Rattle.spec.specs.Bytes.{splice}
use Rattle.law_basic.specs.Splice.{splice_lent}
use Rattle.disk_gather.proofs.put_row.Goals as goal

pub returns : goal.returns
returns c =
    let a = c.args in
    let s = c.copy_from_slice.new.self in
    let n : length s ≡ 8 = search rules in
    splice_lent (8 * a.z) 8 a.rows.now s n ∙ ap (splice a.rows.now (8 * a.z)) c.copy_from_slice.ensures.after
