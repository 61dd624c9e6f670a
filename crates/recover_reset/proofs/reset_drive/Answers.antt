-- `reset_drive`: what is owed are the resets of the good zones from z on; one turn pays that of z, a cut ends it, at Z nothing is owed. Assumes nothing.
use mathlib.Core.Path.{refl, ◌∙◌, subst}
use mathlib.Core.List.{List, [], ◌∷◌, map}
use mathlib.Core.Bool.{cond}
use Prim.Native.Nat.{◌+◌}
use native.Mathlib.Omega.{arith}
use Rattle.spec.specs.Drives.{Store, mk_disk, is_good, good_zones}
use Rattle.spec.specs.Drives.Store.{reset}
use Rattle.recover_drop.specs.Going.{Owes, owes_turn, owes_cut, owes_done}
use Rattle.recover_reset.specs.Good.{good_from, good_start, good_step, good_end}
use Rattle.disk_zones.specs.Made.{storing_exit}
use Rattle.recover_reset.proofs.reset_drive.Goals as goal

pub loop-z-init : goal.loop-z-init
loop-z-init c =
    let a = c.args in
    let ss = map (reset a.drive) (good_zones a.p a.offline.now a.drive) in (
      omega arith,
      refl,
      λ im. subst (λ (l : List Store). Owes a.p a.count ss (mk_disk im a.pointers.now) l a.count (mk_disk im a.pointers.now))
          (good_start a.p a.offline.now a.drive) (λ m k' h. h),
    )

pub reset_good-requires : goal.reset_good-requires
reset_good-requires c =
    let q = c.requires in
    let l = c.loop-z in record { p_value = q.p_value; pointers_len = (l.invariant.1 ∙ q.pointers_len.0, q.pointers_len.1, q.pointers_len.2, c.loop-z-test.true) }

pub shape_of-pointers-in_err-left : goal.shape_of-pointers-in_err-left
shape_of-pointers-in_err-left c = c.reset_good.auto.pointers ∙ c.loop-z.invariant.1

pub returns-in_err-left : goal.returns-in_err-left
returns-in_err-left c =
    let a = c.args in
    let l = c.loop-z in
    let m = c.reset_good in
    let ss = map (reset a.drive) (good_zones a.p a.offline.now a.drive) in
    let one = cond (is_good a.p a.offline.now a.drive l.z) (reset a.drive l.z ∷ []) [] in
    λ im.
    let k = mk_disk im a.pointers.now in
    storing_exit c.from_residual.result c.from_residual.ensures.0
    (owes_cut a.p a.count ss k one (good_from a.p a.offline.now a.drive (l.z + 1)) l.left (mk_disk im l.pointers) (mk_disk im m.new.pointers)
    (subst (λ (x : List Store). Owes a.p a.count ss k x l.left (mk_disk im l.pointers))
    (good_step a.p a.offline.now a.drive l.z c.loop-z-test.true) (l.invariant.2 im))
    (c.in_err-left.ensures im))

pub loop-z-preserved : goal.loop-z-preserved
loop-z-preserved c =
    let a = c.args in
    let l = c.loop-z in
    let m = c.reset_good in
    let ss = map (reset a.drive) (good_zones a.p a.offline.now a.drive) in
    let one = cond (is_good a.p a.offline.now a.drive l.z) (reset a.drive l.z ∷ []) [] in (
      omega arith,
      m.auto.pointers ∙ l.invariant.1,
      λ im.
          let k = mk_disk im a.pointers.now in
          owes_turn a.p a.count ss k one (good_from a.p a.offline.now a.drive (l.z + 1)) l.left (mk_disk im l.pointers) c.in_ok-left.left (mk_disk im m.new.pointers)
          (subst (λ (x : List Store). Owes a.p a.count ss k x l.left (mk_disk im l.pointers))
          (good_step a.p a.offline.now a.drive l.z c.loop-z-test.true) (l.invariant.2 im))
          (c.in_ok-left.ensures im),
    )

pub shape_of-pointers : goal.shape_of-pointers
shape_of-pointers c = c.loop-z.invariant.1

pub returns : goal.returns
returns c =
    let a = c.args in
    let l = c.loop-z in
    let ss = map (reset a.drive) (good_zones a.p a.offline.now a.drive) in
    λ im.
    let k = mk_disk im a.pointers.now in
    owes_done a.p a.count ss k l.left (mk_disk im l.pointers)
    (subst (λ (x : List Store). Owes a.p a.count ss k x l.left (mk_disk im l.pointers))
    (good_end a.p a.offline.now a.drive l.z (omega (arith, c.loop-z-test.false))) (l.invariant.2 im))
