-- `exam_segments`: e is what was seen of the zones below z, none at fault; the first at fault ends it by its number, and at Z all are seen. Assumes nothing.
use Rattle.disk_drives.specs.Viewed.{viewed}
use mathlib.Core.Path.{◌≡◌, refl, sym, ap, ◌∙◌, subst}
use Prim.Native.Nat.{ℕ}
use native.Mathlib.Omega.{arith}
use Rattle.spec.specs.Drives.{view_of}
use Rattle.spec.specs.Lists.{first_or}
use Rattle.disk_gather.specs.Found.{lowest_turn, lowest_pass, lowest_end, lowest_start}
use Rattle.recover_check.specs.Faults.{faulty, ExamSays, faults_list, seen_none, seen_all, seen_bad, stops, goes}
use Rattle.recover_check.proofs.exam_segments.Goals as goal

pub loop-z-init : goal.loop-z-init
loop-z-init c =
    let a = c.args in
    let v = viewed a.drives.now in
    (omega arith, refl, seen_none a.drives.now.p v a.gone, lowest_start (faulty a.drives.now.p v a.gone) a.drives.now.p.Z a.drives.now.p.Z)

pub exam_segment-e-requires : goal.exam_segment-e-requires
exam_segment-e-requires c =
    let l = c.loop-z in record { arrays = c.requires.arrays; z_lt_z = (c.loop-z-test.true, c.requires.many_value.0, l.invariant.2, l.invariant.1 ∙ c.requires.many_value.1) }

pub shape_of-at-then-e-drives : goal.shape_of-at-then-e-drives
shape_of-at-then-e-drives c =
    let exam-segment = c.exam_segment-e in
    let loop = c.loop-z in
    exam-segment.auto.at ∙ loop.invariant.1

pub returns-then-e-drives : goal.returns-then-e-drives
returns-then-e-drives c =
    let r = c.exam_segment-e in
    let l = c.loop-z in
    let if1 = c.loop-z-test in
    let a = c.args in
    let p = a.drives.now.p in
    let v = view_of p a.drives.now.offline.now a.drives.now.image.now a.drives.now.pointers.now in
    let here = c.requires.arrays.here in
    let w = stops p v a.gone l.z r.result r.ensures.zone_value r.ensures.exam_says c.if-e-drives.true in
    seen_bad p v a.gone r.result here c.if-e-drives.true
    (w.1 ∙ sym (lowest_turn (faulty p v a.gone) p.Z l.z p.Z if1.true w.0) ∙ l.invariant.3 ∙ ap (first_or p.Z) (sym (faults_list p v a.gone here)))

pub loop-z-preserved : goal.loop-z-preserved
loop-z-preserved c =
    let a = c.args in
    let p = a.drives.now.p in
    let v = view_of p a.drives.now.offline.now a.drives.now.image.now a.drives.now.pointers.now in
    let l = c.loop-z in
    let r = c.exam_segment-e in
    let k = c.loop-z-test.true in
    let w = goes p v a.gone l.z r.result r.ensures.zone_value r.ensures.exam_says k (omega (arith, c.if-e-drives.false)) in
    (omega (arith, k), r.auto.at ∙ l.invariant.1, w.1, sym (lowest_pass (faulty p v a.gone) p.Z l.z p.Z k w.0) ∙ l.invariant.3)

pub shape_of-at : goal.shape_of-at
shape_of-at c = c.loop-z.invariant.1

pub returns : goal.returns
returns c =
    let a = c.args in
    let p = a.drives.now.p in
    let v = view_of p a.drives.now.offline.now a.drives.now.image.now a.drives.now.pointers.now in
    let here = c.requires.arrays.here in
    let l = c.loop-z in
    let k : l.z ≡ p.Z = omega (arith, l.invariant.0, c.loop-z-test.false) in
    let s = subst (λ (n : ℕ). ExamSays p v a.gone n l.e) k l.invariant.2 in
    seen_all p v a.gone l.e here s
    (s.zone_is ∙ sym (lowest_end (faulty p v a.gone) p.Z l.z p.Z (omega (arith, k))) ∙ l.invariant.3 ∙ ap (first_or p.Z) (sym (faults_list p v a.gone here)))
