-- `header_stores`: d headers are stored and left + d = count: the rest under left comes to what all come to under count; drives from d on have room.
-- One turn stores header d, which leaves the pointers of the other drives. left 0 is the cut end, d = N the end of all. Assumes nothing.
use mathlib.Core.Path.{◌≡◌, refl, ap, ◌∙◌}
use Prim.Native.Nat.{ℕ, suc, ◌<◌}
use native.Mathlib.Omega.{arith}
use lib.ListN.{length}
use Rattle.spec.specs.Drives.{Disk, mk_disk, pointer_of, set_pointer, store_disk, zone_on, zero_spare, header_stores, zones_in}
use Rattle.spec.specs.Drives.Store.{put}
use Rattle.spec.specs.Layout.{header_block}
use Rattle.spec.specs.Params.{pointers_len, drives_of}
use Rattle.law_views.specs.Pointers.{pointer_other_drive}
use Rattle.disk_zones.specs.Made.{rest_start, rest_turn, rest_cut, rest_done, put_pointers, header_store}
use Rattle.law_basic.specs.Segs.{low_here}
use Rattle.disk_zones.proofs.header_stores.Goals as goal

pub loop-d-init : goal.loop-d-init
loop-d-init c =
    let a = c.args in (
      refl,
      refl,
      (λ e _ h. c.requires.zones_low.1 e h),
      rest_start a.p (header_store a.p a.segment a.serial.0 a.copied.0) a.p.N a.count
          (mk_disk a.image.now a.pointers.now),
    )

pub shape_of-image-then-left-eq0 : goal.shape_of-image-then-left-eq0
shape_of-image-then-left-eq0 c = c.loop-d.invariant.0

pub shape_of-pointers-then-left-eq0 : goal.shape_of-pointers-then-left-eq0
shape_of-pointers-then-left-eq0 c = c.loop-d.invariant.1

pub returns-then-left-eq0 : goal.returns-then-left-eq0
unfolding header_stores drives_of header_store
returns-then-left-eq0 c =
    let a = c.args in
    let l = c.loop-d in
    let pre = c.requires in
    let p = a.p in
    let w = pre.whole in
    let g = pre.zones_low in
    let k₀ = mk_disk a.image.now a.pointers.now in
    let k = mk_disk l.image l.pointers in
    let f = header_store p a.segment a.serial.0 a.copied.0 in
    rest_cut p f p.N a.count k₀ l.d l.left k l.invariant.3 (omega (arith, c.loop-d-test.true)) c.if-left-eq0.true

pub zone_on-zone-requires : goal.zone_on-zone-requires
zone_on-zone-requires c =
    let pre = c.requires in record { p_value = pre.p_value; drive_lt_n = c.loop-d-test.true }

pub put_header-requires : goal.put_header-requires
put_header-requires c =
    let a = c.args in
    let zone_on_holds = c.zone_on-zone in
    let if1 = c.loop-d-test in
    let l = c.loop-d in
    let pre = c.requires in
    let p = a.p in
    let w = pre.whole in
    let g = pre.zones_low in
    let k₀ = mk_disk a.image.now a.pointers.now in
    let k = mk_disk l.image l.pointers in
    let f = header_store p a.segment a.serial.0 a.copied.0 in
    let z = zone_on_holds.ensures in record {
      p_value = pre.p_value;
      whole =
          record { image_long = l.invariant.0 ∙ w.image_long; pointers_long = l.invariant.1 ∙ w.pointers_long };
      drive_lt_n =
          (if1.true, rw z (low_here p a.segment l.d g.0 if1.true), rw z (l.invariant.2 l.d (omega arith) if1.true));
    }

pub overflow_sub-left : goal.overflow_sub-left
overflow_sub-left c = omega arith

pub loop-d-preserved : goal.loop-d-preserved
unfolding header_store
loop-d-preserved c =
    let a = c.args in
    let put_header = c.put_header in
    let zone_on_holds = c.zone_on-zone in
    let if2 = c.if-left-eq0 in
    let if1 = c.loop-d-test in
    let l = c.loop-d in
    let pre = c.requires in
    let p = a.p in
    let w = pre.whole in
    let g = pre.zones_low in
    let k₀ = mk_disk a.image.now a.pointers.now in
    let k = mk_disk l.image l.pointers in
    let f = header_store p a.segment a.serial.0 a.copied.0 in
    let z = zone_on_holds.ensures in
    let q = l.d in
    let b = header_block p q (zones_in p a.segment) a.serial.0 a.copied.0 in
    let k' = mk_disk put_header.new.image put_header.new.pointers in
    let s : k' ≡ store_disk p (f q) k = put_header.ensures ∙ ap (λ (x : ℕ). store_disk p (put q x (header_block p q (zones_in p a.segment) a.serial.0 a.copied.0) zero_spare) k) z in
    let ps : put_header.new.pointers ≡ set_pointer p l.pointers q zone_on_holds.result (suc (pointer_of p l.pointers q zone_on_holds.result)) =
    ap (λ (x : Disk). x.pointers) put_header.ensures ∙ put_pointers p q zone_on_holds.result b zero_spare k in
    let long : length l.pointers ≡ pointers_len p = l.invariant.1 ∙ w.pointers_long in
    let zl : zone_on_holds.result < p.Z = rw z (low_here p a.segment q g.0 if1.true) in (
      put_header.auto.image ∙ l.invariant.0,
      put_header.auto.pointers ∙ l.invariant.1,
      (λ e h j.
          let o =
          pointer_other_drive p l.pointers q zone_on_holds.result (suc (pointer_of p l.pointers q zone_on_holds.result)) if1.true zl long e
          (zone_on a.segment e) j (low_here p a.segment e g.0 j) (λ r. let x : ⊥ = omega arith in x) in
          rw (ps, o) (l.invariant.2 e (omega arith) j)),
      rest_turn p f p.N a.count k₀ q l.left k k' l.invariant.3 if1.true (omega (arith, if2.false)) s,
    )

pub shape_of-image : goal.shape_of-image
shape_of-image c = c.loop-d.invariant.0

pub shape_of-pointers : goal.shape_of-pointers
shape_of-pointers c = c.loop-d.invariant.1

pub returns : goal.returns
unfolding header_stores drives_of header_store
returns c =
    let a = c.args in
    let l = c.loop-d in
    let pre = c.requires in
    let p = a.p in
    let w = pre.whole in
    let g = pre.zones_low in
    let k₀ = mk_disk a.image.now a.pointers.now in
    let k = mk_disk l.image l.pointers in
    let f = header_store p a.segment a.serial.0 a.copied.0 in
    rest_done p f p.N a.count k₀ l.d l.left k l.invariant.3 (omega (arith, c.loop-d-test.false))
