-- `shown_on`: a missing drive hides nothing, and 0 is below S; else `shown_at` finds the offset in the segment's zone there. Assumes nothing.
use mathlib.Core.Path.{◌≡◌, sym, ap, ◌∙◌}
use mathlib.Core.Bool.{Bool, true, false, not, ◌&&◌}
use Prim.Native.Nat.{ℕ}
use native.Mathlib.Omega.{arith}
use Rattle.spec.specs.Drives.{view_of, zone_on}
use Rattle.spec.specs.Lists.{is_nil, first_or, is_in}
use Rattle.spec.specs.Memory.{shown_at}
use Rattle.law_basic.specs.Geometry.{ranged}
use Rattle.law_basic.specs.Ranges.{not_both}
use Rattle.law_basic.specs.Segs.{low_zone}
use Rattle.call_read.proofs.shown_on.Goals as goal

pub returns-then-has_drive : goal.returns-then-has_drive
returns-then-has_drive c =
    let a = c.args in
    let q = c.requires in
    let r = ranged a.p q.p_value in
    let t : is_in a.gone a.drive ≡ true = sym c.has_drive.ensures ∙ c.if-has_drive.true in
    λ off im h. record {
      low = omega (arith, r.stripes_low);
      hidden = sym (ap (λ (x : Bool). not x && is_nil (shown_at a.p (view_of a.p off im a.pointers.now) a.compact.now a.drive (zone_on a.segment a.drive) a.s)) t);
      first = λ e. absurd (not_both (is_in a.gone a.drive) t e);
    }

pub shown_at-requires : goal.shown_at-requires
shown_at-requires c =
    let a = c.args in
    let q = c.requires in
    let n : is_in a.gone a.drive ≡ false = sym c.has_drive.ensures
    ∙ c.if-has_drive.false in record {
      p_value = q.p_value;
      pointers_len = q.pointers_len;
      drive_lt_n =
          (q.drive_lt_n.0, rw c.zone_on-zone.ensures (low_zone a.p a.gone a.segment a.drive q.drive_lt_n.1 q.drive_lt_n.0 n), q.drive_lt_n.2);
    }

pub returns : goal.returns
returns c =
    let a = c.args in
    let z = c.zone_on-zone.ensures in
    let n : is_in a.gone a.drive ≡ false = sym c.has_drive.ensures ∙ c.if-has_drive.false in
    λ off im h.
    let v = view_of a.p off im a.pointers.now in
    record {
      low = c.shown_at.ensures.upper_bound;
      hidden = c.shown_at.ensures.by_index_2 off im h ∙ ap (λ (x : ℕ). is_nil (shown_at a.p v a.compact.now a.drive x a.s)) z
          ∙ sym (ap (λ (x : Bool). not x && is_nil (shown_at a.p v a.compact.now a.drive (zone_on a.segment a.drive) a.s)) n);
      first = λ e. c.shown_at.ensures.by_index off im h ∙ ap (λ (x : ℕ). first_or a.p.S (shown_at a.p v a.compact.now a.drive x a.s)) z;
    }
