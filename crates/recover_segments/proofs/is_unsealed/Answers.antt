-- `is_unsealed`: not kept makes the first part false; kept, it is true, and the second is the seal's negation. Assumes nothing.
use mathlib.Core.Path.{sym, ap, ◌∙◌, subst}
use mathlib.Core.Bool.{Bool, false, not, ◌&&◌}
use Prim.Native.Nat.{◌*◌}
use borrow.Author.Tests.{not-true, not-false}
use native.Mathlib.Omega.{arith}
use lib.ListN.{get_or}
use Rattle.spec.specs.Bytes.{part}
use Rattle.spec.specs.Drives.{view_of, sealed_in, seg}
use Rattle.law_basic.specs.Geometry.{ranged}
use Rattle.law_basic.specs.Segs.{ZonesLow}
use Rattle.recover_segments.proofs.is_unsealed.Goals as goal

pub returns-then-not-kept-z : goal.returns-then-not-kept-z
returns-then-not-kept-z c =
    let a = c.args in
    λ off im h. sym (ap (λ (b : Bool). b && not (sealed_in a.p (view_of a.p off im a.pointers.now) a.gone (seg (part (8 * a.z) 8 a.rows.now))))
    (not-true (get_or a.kept.now a.z false) c.if-not-kept-z.true-raw))

pub row-requires : goal.row-requires
row-requires c =
    (omega (arith, c.requires.pointers_len.1.1, c.requires.pointers_len.2), omega (arith, c.requires.pointers_len.2, (ranged c.args.p c.requires.p_value).zones_high))

pub is_sealed-requires : goal.is_sealed-requires
is_sealed-requires c =
    let a = c.args in record {
      p_value = c.requires.p_value;
      pointers_len = (
        c.requires.pointers_len.0,
        subst (ZonesLow a.p a.gone) (sym c.row.ensures)
            (c.requires.pointers_len.1.2 a.z c.requires.pointers_len.2 (not-false (get_or a.kept.now a.z false) c.if-not-kept-z.false-raw)),
      );
    }

pub returns : goal.returns
returns c =
    let a = c.args in
    λ off im h. ap not (c.is_sealed.ensures off im h ∙ ap (sealed_in a.p (view_of a.p off im a.pointers.now) a.gone) c.row.ensures)
    ∙ sym (ap (λ (b : Bool). b && not (sealed_in a.p (view_of a.p off im a.pointers.now) a.gone (seg (part (8 * a.z) 8 a.rows.now))))
    (not-false (get_or a.kept.now a.z false) c.if-not-kept-z.false-raw))
