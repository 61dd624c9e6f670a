-- `gather_zone`: where none leads nothing is put and none is left; else the row is the segment's, and it is left if it is on every present drive. Assumes nothing.
use mathlib.Core.Path.{◌≡◌, sym, ap, ◌∙◌}
use mathlib.Core.Bool.{Bool, true, ◌&&◌}
use Prim.Native.Nat.{ℕ, ◌*◌}
use native.Mathlib.Omega.{arith}
use borrow.Author.Rules.{rules}
use borrow.Author.Tests.{eq-eqb, ne_eqb}
use lib.Dec.{ltb}
use Rattle.spec.specs.declared.Params.{Params}
use Rattle.spec.specs.declared.Seg.{Seg}
use Rattle.spec.specs.Bytes.{splice}
use Rattle.spec.specs.Drives.{View, view_of, zone_on}
use Rattle.spec.specs.Lists.{all, is_in}
use Rattle.spec.specs.Params.{present}
use Rattle.spec.specs.Segments.{low_drive, serial_in, seg_for, leads}
use Rattle.law_basic.specs.Geometry.{ranged}
use Rattle.law_drives.specs.Tables.{seg_at}
use Rattle.law_drives.specs.Tests.{and_false_left, cond_true, cond_false}
use Rattle.disk_gather.specs.Flags.{left_at}
use Rattle.disk_gather.specs.Index.{lead_found}
use Rattle.disk_gather.proofs.gather_zone.Goals as goal

seg_is : (p : Params) (v : View) (gone z s : ℕ) → s ≡ serial_in p v (low_drive p gone) z → seg_for p v gone s ≡ seg_at p v gone z
unfolding seg_at
seg_is p v gone z s e = ap (seg_for p v gone) e

pub returns-then-lowest_on-z : goal.returns-then-lowest_on-z
unfolding left_at
returns-then-lowest_on-z c =
    let a = c.args in
    let i = a.index.now in
    let p = i.p in
    let h = c.requires.here in
    let b = i.lowest.0 in
    let low = low_drive p i.gone in
    let n = c.lowest_on in
    let here = ap (is_in i.gone) b ∙ h.0.1 in record {
      by_index = (λ off ps long x e.
          let v = view_of p off a.image.now ps in
          let no = lead_found p v low i.low a.z a.serial.0 n.result b h.1 e (n.ensures.value v here x) ∙ ne_eqb n.result a.z c.if-lowest_on-z.true in
          sym (and_false_left (leads p v low a.z) (all (λ d. ltb (zone_on (seg_at p v i.gone a.z) d) p.Z) (present p i.gone)) no));
      by_index_2 = (λ off ps long x e.
          let v = view_of p off a.image.now ps in
          let no = lead_found p v low i.low a.z a.serial.0 n.result b h.1 e (n.ensures.value v here x) ∙ ne_eqb n.result a.z c.if-lowest_on-z.true in
          sym (cond_false (leads p v low a.z) (splice a.rows.now (8 * a.z) (seg_at p v i.gone a.z).zones) a.rows.now no));
    }

pub put_row-requires : goal.put_row-requires
put_row-requires c =
    let h = c.requires.here in
    (omega (arith, h.1, h.2), omega (arith, h.1, (ranged c.args.index.now.p c.args.index.now.sound).zones_high))

pub returns : goal.returns
unfolding left_at
returns c =
    let a = c.args in
    let i = a.index.now in
    let p = i.p in
    let h = c.requires.here in
    let b = i.lowest.0 in
    let low = low_drive p i.gone in
    let n = c.lowest_on in
    let yes = c.if-lowest_on-z.false in
    let seg = c.seg_by-segment in
    let here = ap (is_in i.gone) b ∙ h.0.1 in
    let on : Seg → Bool = λ x. all (λ d. ltb (zone_on x d) p.Z) (present p i.gone) in record {
      by_index = (λ off ps long x e.
          let v = view_of p off a.image.now ps in
          let f = n.ensures.value v here x in
          let l : leads p v low a.z ≡ true = lead_found p v low i.low a.z a.serial.0 n.result b h.1 e f ∙ eq-eqb n.result a.z yes in
          let q = seg.ensures off ps a.serial.0 long (sym yes ∙ f) (λ d k u m w. search rules) ∙ seg_is p v i.gone a.z a.serial.0 e in
          c.on_all.ensures ∙ ap on q ∙ sym (ap (λ (b : Bool). b && on (seg_at p v i.gone a.z)) l));
      by_index_2 = (λ off ps long x e.
          let v = view_of p off a.image.now ps in
          let f = n.ensures.value v here x in
          let l : leads p v low a.z ≡ true = lead_found p v low i.low a.z a.serial.0 n.result b h.1 e f ∙ eq-eqb n.result a.z yes in
          let q = seg.ensures off ps a.serial.0 long (sym yes ∙ f) (λ d k u m w. search rules) ∙ seg_is p v i.gone a.z a.serial.0 e in
          c.put_row.ensures ∙ ap (λ (x : Seg). splice a.rows.now (8 * a.z) x.zones) q
          ∙ sym (cond_true (leads p v low a.z) (splice a.rows.now (8 * a.z) (seg_at p v i.gone a.z).zones) a.rows.now l));
    }
