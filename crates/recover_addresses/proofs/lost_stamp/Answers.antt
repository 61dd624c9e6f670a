-- `lost_stamp`: t is the exclusive or of the stamps of the present drives below d; one turn adds that of d, and at N they are all. Assumes nothing.
use mathlib.Core.Path.{◌≡◌, ap, ◌∙◌}
use mathlib.Core.Bool.{not}
use mathlib.Core.List.{map}
use Prim.Native.Nat.{ℕ}
use native.Mathlib.Omega.{arith}
use Rattle.spec.specs.Bytes.{xor_all}
use Rattle.spec.specs.Drives.{view_of}
use Rattle.spec.specs.Lists.{below, keep, is_in}
use Rattle.spec.specs.Segments.{segment_of, stored_rec}
use Rattle.recover_addresses.specs.Lies.{stamps_none, stamps_turn, stamps_all}
use Rattle.recover_addresses.proofs.lost_stamp.Goals as goal

pub loop-d-init : goal.loop-d-init
loop-d-init c =
    let a = c.args in (
      omega arith,
      stamps_none (λ e. (stored_rec (segment_of a.p (view_of a.p a.offline.now a.image.now a.pointers.now) a.gone a.segment) a.s e).stamp)
          (λ e. not (is_in a.gone e)),
    )

pub add_stamp-t-requires : goal.add_stamp-t-requires
add_stamp-t-requires c =
    let q = c.requires in record { ground = q.ground; drive_lt_n = (c.loop-d-test.true, q.stripe_counts.0, q.stripe_counts.1) }

pub loop-d-preserved : goal.loop-d-preserved
loop-d-preserved c =
    let a = c.args in
    let l = c.loop-d in
    let f : ℕ → ℕ = λ e. (stored_rec (segment_of a.p (view_of a.p a.offline.now a.image.now a.pointers.now) a.gone a.segment) a.s e).stamp in
    (omega (arith, c.loop-d-test.true), stamps_turn f a.gone l.d l.t.0 c.add_stamp-t.result.0 l.invariant.1 c.add_stamp-t.ensures)

pub returns : goal.returns
returns c =
    let a = c.args in
    let l = c.loop-d in
    let f : ℕ → ℕ = λ e. (stored_rec (segment_of a.p (view_of a.p a.offline.now a.image.now a.pointers.now) a.gone a.segment) a.s e).stamp in
    let e : l.d ≡ a.p.N = omega (arith, c.loop-d-test.false) in
    l.invariant.1 ∙ ap (λ (n : ℕ). xor_all (map f (keep (λ e. not (is_in a.gone e)) (below n)))) e ∙ stamps_all f a.p a.gone
