-- `see_segment`: what is found vouches for the drives below d, with at most 65535 * d; a turn skips to its zone, sees it and skips on. Assumes nothing.
-- all drives before d are seen
use Rattle.spec.specs.Memory.{state_of}
use Rattle.std.specs.Prelude.{None}
use Prim.Native.Nat.{ℕ, ◌+◌}
use Rattle.spec.specs.Drives.{View, view_of, zone_on}
use Rattle.spec.specs.Params.{place_of}
use Rattle.law_basic.specs.Geometry.{ranged}
use Rattle.law_basic.specs.Segs.{low_here}
use Rattle.call_reclaim_victim.specs.Vouched.{Vouched, vouched_none, vouched_skip}
use Rattle.call_reclaim_victim.specs.declared.Seen.{Seen}
use Rattle.call_reclaim_records.specs.Vouch.{drive_first, drive_last, drive_place_low, next_drive_place}
use mathlib.Core.List.{List}
use mathlib.Core.Path.{◌≡◌, sym, ap, ◌∙◌, subst}
use native.Mathlib.Omega.{arith}
use Rattle.call_reclaim_victim.proofs.see_segment.Goals as goal

pub loop-d-init : goal.loop-d-init
loop-d-init c =
    let a = c.args in
    let v : List ℕ → View = λ off. view_of a.p off a.image.now a.pointers.now in
    let st = state_of a.bytes.now in
    let s : Seen = record { live = 0; first = None } in (
      omega arith,
      omega arith,
      λ off. subst (λ (x : ℕ). Vouched a.p (v off) st a.segment a.addresses.now x s) (sym (drive_first a.p))
          (vouched_none a.p (v off) st a.segment a.addresses.now),
    )

pub see_zone-found-requires : goal.see_zone-found-requires
see_zone-found-requires c =
    let h = c.requires.addresses_len in record { p_value = c.requires.p_value; whole = c.requires.whole; addresses_len = (h.0, c.loop-d-test.true, c.loop-d.invariant.1, h.1) }

pub loop-d-preserved : goal.loop-d-preserved
loop-d-preserved c =
    let a = c.args in
    let p = a.p in
    let tb = a.addresses.now in
    let st = state_of a.bytes.now in
    let r = ranged p c.requires.p_value in
    let l = c.loop-d in
    let g = a.segment in
    let hz = low_here p g l.d c.requires.whole.1 c.loop-d-test.true in
    let v : List ℕ → View = λ off. view_of p off a.image.now a.pointers.now in
    let e = c.see_zone-found.ensures in
    let q : ℕ = place_of p l.d (zone_on g l.d) 1 in (
      omega (arith, c.loop-d-test.true),
      e.live_bound,
      λ off.
          let one = vouched_skip p (v off) st g tb (place_of p l.d 0 0) q l.found (drive_place_low p tb g r l.d hz) (l.invariant.2 off) in
          vouched_skip p (v off) st g tb (q + p.S) (place_of p (l.d + 1) 0 0) c.see_zone-found.result (next_drive_place p tb g r l.d hz) (e.by_index off one),
    )

pub returns : goal.returns
returns c =
    let a = c.args in
    let p = a.p in
    let l = c.loop-d in
    let v : List ℕ → View = λ off. view_of p off a.image.now a.pointers.now in
    let e : l.d ≡ p.N = omega (arith, c.loop-d-test.false, l.invariant.0) in
    λ off. subst (λ (x : ℕ). Vouched p (v off) (state_of a.bytes.now) a.segment a.addresses.now x l.found) (ap (λ (x : ℕ). place_of p x 0 0) e ∙ drive_last p) (l.invariant.2 off)
