-- `load_if`: a stripe that does not count tells nothing, by `walked_miss`; one that counts is told whole, by `walked_hit`, and adds 1. Assumes nothing.
use mathlib.Core.Path.{◌≡◌, sym, ◌∙◌}
use mathlib.Core.Bool.{true}
use Prim.Native.Nat.{◌+◌}
use native.Mathlib.Omega.{arith}
use borrow.Author.Tests.{not-true, not-false}
use Rattle.spec.specs.Drives.{View, view_of}
use Rattle.spec.specs.Segments.{Segment, counts}
use Rattle.recover_groups.specs.Groups.{segment_in}
use Rattle.law_basic.specs.Geometry.{Ranged, ranged}
use Rattle.recover_tables.specs.Ready.{stripe_byte, group_stripe_below}
use Rattle.recover_tables.specs.Walk.{walked_hit, walked_miss}
use Rattle.recover_tables.proofs.load_if.Goals as goal

pub counts-requires : goal.counts-requires
counts-requires c =
    let a = c.args in
    let q = c.requires in
    let k = q.indexing.0 in record {
      p_value = q.ground.in_range_holds;
      at_len =
          (k.long, stripe_byte a.p a.offline.now a.image.now a.pointers.now a.w a.at.now a.k (ranged a.p q.ground.in_range_holds) k.stripe_in_holds);
    }

pub returns-then-not-counts : goal.returns-then-not-counts
returns-then-not-counts c =
    let a = c.args in
    let q = c.requires in
    let k = q.indexing.0 in
    let v : View = view_of a.p a.offline.now a.image.now a.pointers.now in
    let g : Segment = segment_in a.p a.offline.now a.image.now a.pointers.now a.w in
    walked_miss a.p v a.w.gone a.compact.now a.w.seg (a.w.base + a.k) a.addresses.now a.t.stamp.0 a.t.counted
    (sym (c.counts.ensures g a.w.base k.reads.indexed k.stripe_in_holds) ∙ not-true c.counts.result c.if-not-counts.true-raw)

pub load_stripe-stamp-requires : goal.load_stripe-stamp-requires
load_stripe-stamp-requires c =
    let a = c.args in
    let q = c.requires in
    let if1 = c.if-not-counts in
    let counts' = c.counts in
    let k = q.indexing.0 in
    let g : Segment = segment_in a.p a.offline.now a.image.now a.pointers.now a.w in
    let e : counts a.p a.w.gone g (a.w.base + a.k) ≡ true = sym (counts'.ensures g a.w.base k.reads.indexed k.stripe_in_holds)
    ∙ not-false counts'.result if1.false-raw in record { ground = q.ground; gathered = q.gathered; standing = record { index = k; it_counts = e }; known = q.known }

pub overflow_add-result : goal.overflow_add-result
overflow_add-result c =
    let a = c.args in
    let q = c.requires in
    let r : Ranged a.p = ranged a.p q.ground.in_range_holds in
    omega (
      arith,
      q.indexing.1,
      group_stripe_below a.p a.offline.now a.image.now a.pointers.now a.w a.at.now a.k q.indexing.0.base_low
          q.indexing.0.stripe_in_holds,
      r.stripes_high,
    )

pub shape_of-addresses : goal.shape_of-addresses
shape_of-addresses c = c.load_stripe-stamp.auto.addresses

pub returns : goal.returns
returns c =
    let a = c.args in
    let q = c.requires in
    let load-stripe = c.load_stripe-stamp in
    let if1 = c.if-not-counts in
    let counts' = c.counts in
    let k = q.indexing.0 in
    let v : View = view_of a.p a.offline.now a.image.now a.pointers.now in
    let g : Segment = segment_in a.p a.offline.now a.image.now a.pointers.now a.w in
    let e : counts a.p a.w.gone g (a.w.base + a.k) ≡ true = sym (counts'.ensures g a.w.base k.reads.indexed k.stripe_in_holds) ∙ not-false counts'.result if1.false-raw in
    walked_hit a.p v a.w.gone a.compact.now a.w.seg (a.w.base + a.k) a.addresses.now load-stripe.new.addresses a.t.stamp.0
    load-stripe.result.0 a.t.counted e load-stripe.ensures.tells load-stripe.ensures.result_value
