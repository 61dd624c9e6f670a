-- `chain_present`: a missing drive has none to enter (`chain_gone`); a present one's parts of the arrays get its index (`chain_more`). Assumes nothing.
use mathlib.Core.Path.{◌≡◌, sym, subst, ◌∙◌}
use mathlib.Core.List.{List}
use Prim.Native.Nat.{ℕ, ◌+◌, ◌*◌, ◌≤◌}
use native.Mathlib.Omega.{arith}
use lib.ListN.{length, get_or}
use Rattle.spec.specs.Bytes.{splice}
use Rattle.spec.specs.Drives.{view_of}
use Rattle.law_basic.specs.Geometry.{ranged}
use Rattle.law_basic.specs.Splice.{part_lent, splice_lent}
use Rattle.disk_gather.specs.Index.{Blank, chain_room, length_lent, chain_gone, chain_more, chain_same, blank_next, blank_more, blank_part}
use Rattle.disk_gather.proofs.chain_present.Goals as goal

pub returns-then-has_drive : goal.returns-then-has_drive
returns-then-has_drive c =
    let a = c.args in
    let p = a.drives.now.p in
    let h = c.requires.blank in
    let v = view_of p a.drives.now.offline.now a.drives.now.image.now a.drives.now.pointers.now in
    record {
      blank_2 = blank_next p v a.gone a.mask a.drive a.heads.now a.links.now h.0;
      chained_to = chain_gone p v a.gone a.mask a.drive a.heads.now a.links.now
          (sym c.has_drive.ensures ∙ c.if-has_drive.true) h.1;
    }

pub chain_drive-requires-clause-by_index : goal.chain_drive-requires-clause-by_index
chain_drive-requires-clause-by_index c =
    let a = c.args in
    let p = a.drives.now.p in
    let q = c.requires in
    let w = a.mask + 1 + p.Z in
    let v = view_of p a.drives.now.offline.now a.drives.now.image.now a.drives.now.pointers.now in
    λ b x. subst (λ (m : List ℕ). 1024 ≤ get_or m b 0) (sym (part_lent (a.drive * w) w a.links.now))
    (blank_part p v a.gone a.mask a.drive a.heads.now a.links.now q.drive_lt_n.0 q.blank.0 b x)

pub returns : goal.returns
returns c =
    let a = c.args in
    let p = a.drives.now.p in
    let q = c.requires in
    let w = a.mask + 1 + p.Z in
    let v = view_of p a.drives.now.offline.now a.drives.now.image.now a.drives.now.pointers.now in
    let k = chain_room p a.mask a.drive (ranged p c.args.drives.now.sound) q.drive_lt_n.0 q.drive_lt_n.1 in
    let h = length_lent (a.drive * p.Z) p.Z a.heads.now (omega (arith, k.0, q.drive_lt_n.2)) in
    let l = length_lent (a.drive * w) w a.links.now (omega (arith, k.2, q.drive_lt_n.3)) in
    let i = c.chain_drive in
    let s = i.new.heads in
    let t = i.new.links in
    let ns : length s ≡ p.Z = i.auto.heads ∙ h in
    let nt : length t ≡ w = i.auto.links ∙ l in
    let f = sym (splice_lent (a.drive * p.Z) p.Z a.heads.now s ns) in
    let g = sym (splice_lent (a.drive * w) w a.links.now t nt) in
    let u = q.drive_lt_n in
    let y = q.blank in record {
      blank_2 = subst (Blank p a.mask (a.drive + 1)) g (blank_more p v a.gone a.mask a.drive a.heads.now a.links.now s t u.0 u.2 u.3 ns nt y.0);
      chained_to = chain_same p v a.gone a.mask (a.drive + 1) (splice a.heads.now (a.drive * p.Z) s) _ (splice a.links.now (a.drive * w) t) _ f g
          (chain_more p v a.gone a.mask a.drive a.heads.now a.links.now s t u.0 u.2 u.3 ns nt i.ensures y.1);
    }
