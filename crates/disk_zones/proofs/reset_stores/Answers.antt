-- `reset_stores`: d zones are reset and left + d = count: the rest under left comes to what all come to under count, whatever the image.
-- One turn resets the zone on drive d. left 0 is the cut end, d = N the end of all. Assumes nothing.
use mathlib.Core.Path.{refl, ap, ◌∙◌}
use Prim.Native.Nat.{ℕ}
use native.Mathlib.Omega.{arith}
use Rattle.spec.specs.Drives.{mk_disk, store_disk, reset_stores}
use Rattle.spec.specs.Drives.Store.{reset}
use Rattle.spec.specs.Params.{drives_of}
use Rattle.disk_zones.specs.Made.{rest_start, rest_turn, rest_cut, rest_done, reset_disk, reset_store}
use Rattle.law_basic.specs.Segs.{low_here}
use Rattle.disk_zones.proofs.reset_stores.Goals as goal

pub loop-d-init : goal.loop-d-init
loop-d-init c =
    let a = c.args in
    (refl, (λ im. rest_start a.p (reset_store a.segment) a.p.N a.count (mk_disk im a.pointers.now)))

pub shape_of-pointers-then-left-eq0 : goal.shape_of-pointers-then-left-eq0
shape_of-pointers-then-left-eq0 c = c.loop-d.invariant.0

pub returns-then-left-eq0 : goal.returns-then-left-eq0
unfolding reset_stores drives_of reset_store
returns-then-left-eq0 c =
    let a = c.args in
    let pre = c.requires in
    let p = a.p in
    let l = c.loop-d in
    let g = pre.pointers_len in
    let f = reset_store a.segment in
    λ im. rest_cut p f p.N a.count (mk_disk im a.pointers.now) l.d l.left (mk_disk im l.pointers) (l.invariant.1 im) (omega (arith, c.loop-d-test.true)) c.if-left-eq0.true

pub zone_on-zone-requires : goal.zone_on-zone-requires
zone_on-zone-requires c =
    let pre = c.requires in record { p_value = pre.p_value; drive_lt_n = c.loop-d-test.true }

pub reset-requires : goal.reset-requires
reset-requires c =
    let a = c.args in
    let if1 = c.loop-d-test in
    let l = c.loop-d in
    let pre = c.requires in
    let p = a.p in
    let g = pre.pointers_len in
    let f = reset_store a.segment in record { p_value = pre.p_value; pointers_len = (l.invariant.0 ∙ g.0, if1.true, rw c.zone_on-zone.ensures (low_here p a.segment l.d g.1 if1.true)) }

pub overflow_sub-left : goal.overflow_sub-left
overflow_sub-left c = omega arith

pub loop-d-preserved : goal.loop-d-preserved
unfolding reset_store
loop-d-preserved c =
    let a = c.args in
    let reset' = c.reset in
    let zone_on_holds = c.zone_on-zone in
    let if2 = c.if-left-eq0 in
    let if1 = c.loop-d-test in
    let l = c.loop-d in
    let pre = c.requires in
    let p = a.p in
    let g = pre.pointers_len in
    let f = reset_store a.segment in
    let q = l.d in (
      reset'.auto.pointers ∙ l.invariant.0,
      (λ im.
          rest_turn p f p.N a.count (mk_disk im a.pointers.now) q l.left (mk_disk im l.pointers) (mk_disk im reset'.new.pointers) (l.invariant.1 im) if1.true (omega (arith, if2.false))
          (reset_disk p q zone_on_holds.result im l.pointers reset'.new.pointers reset'.ensures ∙ ap (λ (x : ℕ). store_disk p (reset q x) (mk_disk im l.pointers)) zone_on_holds.ensures)),
    )

pub shape_of-pointers : goal.shape_of-pointers
shape_of-pointers c = c.loop-d.invariant.0

pub returns : goal.returns
unfolding reset_stores drives_of reset_store
returns c =
    let a = c.args in
    let pre = c.requires in
    let p = a.p in
    let l = c.loop-d in
    let g = pre.pointers_len in
    let f = reset_store a.segment in
    λ im. rest_done p f p.N a.count (mk_disk im a.pointers.now) l.d l.left (mk_disk im l.pointers) (l.invariant.1 im) (omega (arith, c.loop-d-test.false))
