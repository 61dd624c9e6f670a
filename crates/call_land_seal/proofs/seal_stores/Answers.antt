-- `seal_stores`: after d drives their footers are stored and left is the count less these; the next zone is untouched, so its room is there. Assumes nothing.
use mathlib.Core.List.{List, []}
use Prim.Native.Nat.{ℕ, ◌+◌, ◌≤◌}
use Rattle.spec.specs.Drives.{Disk, mk_disk, zone_at, zone_on, pointer_of, footer_stores}
use Rattle.spec.specs.Params.{footers, capacity}
use Rattle.law_basic.specs.Geometry.{ranged}
use Rattle.law_basic.specs.Segs.{low_here}
use Rattle.call_land_seal.specs.Feet.{sealing_start, sealing_done, sealing_room, sealing_turn, sealing_cut}
use Rattle.law_views.specs.Views.{seen}
use Rattle.disk_zones.specs.Made.{too_few, Storing, storing_exit}
use mathlib.Core.Path.{◌≡◌, sym, ◌∙◌, subst}
use native.Mathlib.Omega.{arith}
use Rattle.std.specs.Prelude.{Result, Ok}
use Rattle.disk_zones.specs.declared.TooFew.{TooFew}
use Rattle.call_land_seal.proofs.seal_stores.Goals as goal
use Rattle.call_land_seal.proofs.seal_stores.Goals.{After-footer_stores-arg-in-loop-d-1, After-slice_known-in-loop-d-2-1}

pub footers-n-requires : goal.footers-n-requires
footers-n-requires c = c.requires.p_value

pub loop-d-init : goal.loop-d-init
loop-d-init c =
    let a = c.args in
    (c.footers-n.ensures.0, λ off. sealing_start a.p off (mk_disk a.image.now a.pointers.now) a.segment a.count c.requires.whole)

pub zone_on-zone-requires : goal.zone_on-zone-requires
zone_on-zone-requires c = record { p_value = c.requires.p_value; drive_lt_n = c.loop-d-test.true }

-- the room that is left on the drive
room :
    (c : After-footer_stores-arg-in-loop-d-1)
    → pointer_of c.args.p
    c.loop-d.pointers c.loop-d.d
    (zone_on c.args.segment
    c.loop-d.d) + footers
    c.args.p ≤ capacity
    c.args.p
room c =
    let a = c.args in
    let l = c.loop-d in
    let if1 = c.loop-d-test in
    let pre = c.requires in
    sealing_room a.p [] (mk_disk a.image.now a.pointers.now) a.segment a.count l.d l.left (mk_disk l.image l.pointers)
    (l.invariant.1 []) if1.true pre.zones_low.0 pre.whole (pre.zones_low.1 l.d if1.true)

pub footer_stores-requires : goal.footer_stores-requires
footer_stores-requires c =
    let a = c.args in
    let zone_on_holds = c.zone_on-zone in
    let if1 = c.loop-d-test in
    let l = c.loop-d in
    let footers' = c.footers-n in
    let q = c.requires in
    let p = a.p in
    let z = zone_on_holds.ensures in
    let n : footers'.result ≡ footers p = footers'.ensures.0 in
    let h : pointer_of p l.pointers l.d zone_on_holds.result + footers p ≤ capacity p = subst (λ (x : ℕ). pointer_of p l.pointers l.d x + footers p ≤ capacity p)
    (sym z) (room (goal.at.footer_stores-requires c).After-footer_stores-arg-in-loop-d-1) in
    record {
      p_value = q.p_value;
      whole = (l.invariant.1 []).whole;
      drive_lt_n =
          (if1.true, omega (arith, z, low_here p a.segment l.d q.zones_low.0 if1.true), omega (arith, n), omega (arith, n, h));
    }

-- what the call leaves, with the zone and the number named
left_by : (c : After-slice_known-in-loop-d-2-1) (off : List ℕ) (r : Result ℕ TooFew)
    → Storing c.args.p c.loop-d.left
    (footer_stores c.args.p c.loop-d.d c.zone_on-zone.result
    (zone_at (seen c.args.p off (mk_disk c.loop-d.image c.loop-d.pointers)) c.loop-d.d c.zone_on-zone.result) 0 c.footers-n.result)
    (mk_disk c.loop-d.image c.loop-d.pointers) r (mk_disk c.footer_stores.new.image c.footer_stores.new.pointers)
    → Storing c.args.p
    c.loop-d.left
    (footer_stores c.args.p
    c.loop-d.d
    (zone_on c.args.segment
    c.loop-d.d)
    (zone_at (seen c.args.p off
    (mk_disk c.loop-d.image
    c.loop-d.pointers))
    c.loop-d.d
    (zone_on c.args.segment
    c.loop-d.d)) 0
    (footers c.args.p))
    (mk_disk c.loop-d.image
    c.loop-d.pointers)
    r
    (mk_disk c.footer_stores.new.image c.footer_stores.new.pointers)
left_by c off r h =
    let a = c.args in
    let footer-stores = c.footer_stores in
    let zone_on_holds = c.zone_on-zone in
    let l = c.loop-d in
    let footers' = c.footers-n in
    let p = a.p in
    let k : Disk = mk_disk l.image l.pointers in
    let k' : Disk = mk_disk footer-stores.new.image footer-stores.new.pointers in
    let g = zone_on a.segment l.d in
    subst (λ (x : ℕ). Storing p l.left (footer_stores p l.d g (zone_at (seen p off k) l.d g) 0 x) k r k') footers'.ensures.0
    (subst (λ (x : ℕ). Storing p l.left (footer_stores p l.d x (zone_at (seen p off k) l.d x) 0 footers'.result) k r k') zone_on_holds.ensures h)

pub shape_of-image-in_err-left : goal.shape_of-image-in_err-left
shape_of-image-in_err-left c =
    let footer-stores = c.footer_stores in
    let loop = c.loop-d in
    let pre = c.requires in
    footer-stores.auto.image ∙ (loop.invariant.1 []).whole.image_long ∙ sym pre.whole.image_long

pub shape_of-pointers-in_err-left : goal.shape_of-pointers-in_err-left
shape_of-pointers-in_err-left c =
    let footer-stores = c.footer_stores in
    let loop = c.loop-d in
    let pre = c.requires in
    footer-stores.auto.pointers ∙ (loop.invariant.1 []).whole.pointers_long ∙ sym pre.whole.pointers_long

pub returns-in_err-left : goal.returns-in_err-left
returns-in_err-left c =
    let a = c.args in
    let l = c.loop-d in
    let footer-stores = c.footer_stores in
    let if1 = c.loop-d-test in
    let pre = c.requires in
    λ off. storing_exit c.from_residual.result c.from_residual.ensures.0 (sealing_cut a.p off (mk_disk a.image.now a.pointers.now) a.segment a.count l.d l.left (mk_disk l.image l.pointers)
    (l.invariant.1 off) if1.true pre.zones_low.0 (mk_disk footer-stores.new.image footer-stores.new.pointers)
    (left_by (goal.at.returns-in_err-left c).After-slice_known-in-loop-d-2-1 off too_few (c.in_err-left.ensures off)))

pub loop-d-preserved : goal.loop-d-preserved
loop-d-preserved c =
    let a = c.args in
    let l = c.loop-d in
    let footer-stores = c.footer_stores in
    let if1 = c.loop-d-test in
    let pre = c.requires in (
      l.invariant.0,
      λ off. sealing_turn a.p off (mk_disk a.image.now a.pointers.now) a.segment a.count l.d l.left (mk_disk l.image l.pointers)
          (l.invariant.1 off) if1.true pre.zones_low.0 (mk_disk footer-stores.new.image footer-stores.new.pointers) c.in_ok-left.left
          (left_by (goal.at.loop-d-preserved c).After-slice_known-in-loop-d-2-1 off (Ok c.in_ok-left.left) (c.in_ok-left.ensures off)) (ranged a.p pre.p_value)
          (room (goal.at.loop-d-preserved c).After-footer_stores-arg-in-loop-d-1),
    )

pub shape_of-image : goal.shape_of-image
shape_of-image c =
    let pre = c.requires in
    (c.loop-d.invariant.1 []).whole.image_long ∙ sym pre.whole.image_long

pub shape_of-pointers : goal.shape_of-pointers
shape_of-pointers c =
    let pre = c.requires in
    (c.loop-d.invariant.1 []).whole.pointers_long ∙ sym pre.whole.pointers_long

pub returns : goal.returns
returns c =
    let a = c.args in
    let l = c.loop-d in
    λ off. sealing_done a.p off (mk_disk a.image.now a.pointers.now) a.segment a.count l.d l.left (mk_disk l.image l.pointers) (l.invariant.1 off) (omega (arith, c.loop-d-test.false))
