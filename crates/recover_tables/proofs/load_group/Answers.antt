-- Stripe by stripe, by the law walked-turn; the index is that of the group, which the ground of the tables gives (index_group).
use mathlib.Core.Path.{◌≡◌, refl, ◌∙◌, subst}
use Prim.Native.Nat.{ℕ, ◌<◌}
use native.Mathlib.Omega.{arith}
use Rattle.spec.specs.Drives.{View, view_of}
use Rattle.spec.specs.Lists.{up_from}
use Rattle.recover_groups.specs.Groups.{group_len, segment_in, GroupReads}
use Rattle.law_basic.specs.Ranges.{length_up_from}
use Rattle.law_drives.specs.Segs.{remaining-low}
use Rattle.recover_tables.specs.Walk.{Walked, walk_cands, walked_turn, walked_low, walked_start, tells_known}
use Rattle.recover_tables.proofs.load_group.Goals as goal

pub index_group-requires : goal.index_group-requires
index_group-requires c =
    let a = c.args in
    let q = c.requires in
    let x = q.at_len in
    let v : View = view_of a.p a.offline.now a.image.now a.pointers.now in
    let low = remaining-low a.p v a.w.gone q.ground.here a.w.seg x.4 in
    record { p_value = q.ground.in_range_holds; pointers_len = (q.ground.whole.pointers_long, q.ground.compact_long, x.0); zones_low = (low, x.1, x.2) }

pub group_len-len-requires : goal.group_len-len-requires
group_len-len-requires c =
    let q = c.requires in record { p_value = q.ground.in_range_holds; base_lt_s = q.at_len.1 }

pub loop-k-init : goal.loop-k-init
loop-k-init c =
    let a = c.args in
    let v : View = view_of a.p a.offline.now a.image.now a.pointers.now in
    (omega arith, refl, walked_start a.p v a.w.gone a.compact.now a.w.seg a.w.base a.addresses.now a.t.stamp.0 a.t.counted)

pub load_if-next-requires : goal.load_if-next-requires
load_if-next-requires c =
    let a = c.args in
    let q = c.requires in
    let loop-test = c.loop-k-test in
    let l = c.loop-k in
    let group-len = c.group_len-len in
    let i = c.index_group in
    let x = q.at_len in
    let v : View = view_of a.p a.offline.now a.image.now a.pointers.now in
    let rd : GroupReads a.p a.offline.now a.image.now a.pointers.now a.w i.new.at =
    record { long = q.ground.whole.pointers_long; full_right = x.3; indexed = i.ensures a.offline.now a.image.now q.ground x.4 x.5 } in record {
      ground = q.ground;
      gathered = q.gathered;
      indexing = (
        record {
          reads = rd;
          long = i.auto.at ∙ x.0;
          base_low = x.1;
          stripe_in_holds = subst (λ (n : ℕ). l.k < n) group-len.ensures.0 loop-test.true;
          remains = x.4;
          shown = x.5;
        },
        (
            let w = a.w in
            let t = a.t in
            let y = l.next in
            let low = walked_low a.p v w.gone a.compact.now w.seg (up_from w.base l.k) a.addresses.now l.addresses
            t.stamp.0 y.stamp.0 t.counted y.counted l.invariant.2 in
            omega (arith, low, length_up_from w.base l.k, x.6)
            ),
      );
      known = tells_known a.p v a.w.gone a.compact.now a.addresses.now l.addresses
          (walk_cands a.p a.w.gone (segment_in a.p a.offline.now a.image.now a.pointers.now a.w) (up_from a.w.base l.k)) l.invariant.2.tells q.known;
    }

pub loop-k-preserved : goal.loop-k-preserved
loop-k-preserved c =
    let a = c.args in
    let l = c.loop-k in
    let f = c.load_if-next in
    let loop-test = c.loop-k-test in
    let r = f.result in
    let w = a.w in
    let v : View = view_of a.p a.offline.now a.image.now a.pointers.now in (
      omega (arith, loop-test.true),
      f.auto.addresses ∙ l.invariant.1,
      walked_turn a.p v w.gone a.compact.now w.seg w.base l.k a.addresses.now l.addresses f.new.addresses
          a.t.stamp.0 l.next.stamp.0 r.stamp.0 a.t.counted l.next.counted r.counted l.invariant.2 f.ensures,
    )

pub shape_of-addresses : goal.shape_of-addresses
shape_of-addresses c = c.loop-k.invariant.1

pub shape_of-at : goal.shape_of-at
shape_of-at c =
    let index-group = c.index_group in
    index-group.auto.at

pub returns : goal.returns
returns c =
    let a = c.args in
    let l = c.loop-k in
    let v : View = view_of a.p a.offline.now a.image.now a.pointers.now in
    let e : l.k ≡ group_len a.p a.w.base = omega (arith, c.loop-k-test.false, c.group_len-len.ensures.0, l.invariant.0) in
    let w = a.w in
    let t = a.t in
    let y = l.next in
    subst (λ (x : ℕ). Walked a.p v w.gone a.compact.now w.seg (up_from w.base x) a.addresses.now l.addresses t.stamp.0 y.stamp.0 t.counted y.counted)
    e l.invariant.2
