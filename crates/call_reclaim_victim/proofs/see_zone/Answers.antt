-- `see_zone`: if what came vouches for the places below at, found does for those below at + o, with at most o more; a turn sees block o. Assumes nothing.
use Rattle.spec.specs.Memory.{state_of}
use Prim.Native.Nat.{ℕ, ◌+◌, ◌<◌}
use Rattle.spec.specs.Drives.{View, view_of, zone_on}
use Rattle.spec.specs.Params.{place_of}
use Rattle.law_basic.specs.Geometry.{ranged, data_below}
use Rattle.law_basic.specs.Segs.{low_here}
use Rattle.call_reclaim_victim.specs.Vouched.{Vouched}
use mathlib.Core.List.{List}
use mathlib.Core.Path.{◌≡◌, sym, ap, ap₂, ◌∙◌, subst}
use native.Mathlib.Nat.{add-zero}
use native.Mathlib.Omega.{arith}
use Rattle.call_reclaim_victim.proofs.see_zone.Goals as goal

pub zone_on-zone-requires : goal.zone_on-zone-requires
zone_on-zone-requires c = record { p_value = c.requires.p_value; drive_lt_n = c.requires.addresses_len.1 }

pub place_of-at-requires : goal.place_of-at-requires
place_of-at-requires c =
    let p = c.args.p in
    let r = ranged p c.requires.p_value in
    let h = c.requires.addresses_len in
    let z = subst (λ (x : ℕ). x < p.Z) (sym c.zone_on-zone.ensures) (low_here p c.args.segment c.args.drive c.requires.whole.1 h.1) in
    record { p_value = c.requires.p_value; drive_lt_n = (h.1, z, data_below p r 1 r.stripes_low) }

pub overflow_cast-at : goal.overflow_cast-at
overflow_cast-at c = omega arith

pub loop-o-init : goal.loop-o-init
loop-o-init c =
    let a = c.args in
    let v : List ℕ → View = λ off. view_of a.p off a.image.now a.pointers.now in
    (omega arith, omega arith, λ off. subst (λ (x : ℕ). Vouched a.p (v off) (state_of a.bytes.now) a.segment a.addresses.now x a.seen) (sym (add-zero c.place_of-at.result.0)))

pub see_block-found-requires : goal.see_block-found-requires
see_block-found-requires c =
    let a = c.args in
    let r = ranged a.p c.requires.p_value in
    let h = c.requires.addresses_len in
    let i = c.loop-o.invariant in record {
      p_value = c.requires.p_value;
      whole = c.requires.whole;
      addresses_len =
          (h.0, h.1, c.zone_on-zone.ensures, c.place_of-at.ensures.0, c.loop-o-test.true, omega (arith, i.1, i.0, h.2, h.1, r.drives_high, r.stripes_high), h.3);
    }

pub loop-o-preserved : goal.loop-o-preserved
loop-o-preserved c =
    let a = c.args in
    let l = c.loop-o in
    let v : List ℕ → View = λ off. view_of a.p off a.image.now a.pointers.now in
    let e = c.see_block-found.ensures in
    let at = c.place_of-at.result.0 in
    let w : at + l.o + 1 ≡ at + (l.o + 1) = omega arith in
    let to : List ℕ → ℕ → Type 0 = λ off x. Vouched a.p (v off) (state_of a.bytes.now) a.segment a.addresses.now x c.see_block-found.result in
    (omega (arith, c.loop-o-test.true), omega (arith, e.live_bound, l.invariant.1), λ off z. subst (to off) w (e.by_index off (l.invariant.2 off z)))

pub returns : goal.returns
returns c =
    let a = c.args in
    let p = a.p in
    let r = ranged p c.requires.p_value in
    let l = c.loop-o in
    let v : List ℕ → View = λ off. view_of p off a.image.now a.pointers.now in
    let at = c.place_of-at.result.0 in
    let ea : at ≡ place_of p a.drive (zone_on a.segment a.drive) 1 = c.place_of-at.ensures.0 ∙ ap (λ (z : ℕ). place_of p a.drive z 1) c.zone_on-zone.ensures in
    let eo : l.o ≡ p.S = omega (arith, c.loop-o-test.false, l.invariant.0) in
    let from : List ℕ → ℕ → Type 0 = λ off x. Vouched p (v off) (state_of a.bytes.now) a.segment a.addresses.now x a.seen in
    let to : List ℕ → ℕ → Type 0 = λ off x. Vouched p (v off) (state_of a.bytes.now) a.segment a.addresses.now x l.found in
    record {
      live_bound = omega (arith, l.invariant.1, l.invariant.0, c.requires.addresses_len.2, r.stripes_high);
      by_index = λ off z. subst (to off)
          (ap₂ ◌+◌ ea eo) (l.invariant.2 off (subst (from off) (sym ea) z));
    }
