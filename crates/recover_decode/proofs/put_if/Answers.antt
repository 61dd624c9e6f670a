-- `put_if`: a stripe that does not count gives no store and the count stays; one that counts gives its lost chunk, for which there is room. Assumes nothing.
use mathlib.Core.Path.{◌≡◌, sym, ◌∙◌, subst}
use mathlib.Core.List.{List, []}
use mathlib.Core.Bool.{true}
use Prim.Native.Nat.{ℕ, ◌+◌, ◌<◌}
use borrow.Author.Tests.{not-true, not-false}
use native.Mathlib.Omega.{arith}
use Rattle.spec.specs.Drives.{Store, mk_disk}
use Rattle.spec.specs.Segments.{counts}
use Rattle.law_basic.specs.Geometry.{ranged}
use Rattle.disk_zones.specs.Made.{Storing, storing_none}
use Rattle.recover_groups.specs.Bases.{group_len_le}
use Rattle.recover_groups.specs.Groups.{segment_in}
use Rattle.recover_reset.specs.Lost.{lost_hit, lost_miss}
use Rattle.recover_decode.specs.Group.{lost_room}
use Rattle.std.specs.Prelude.{Ok}
use Rattle.recover_decode.proofs.put_if.Goals as goal
use Rattle.recover_decode.proofs.put_if.Goals.{After-put_lost-arg-2-1, After-shared_slice_known-1}

few : (c : After-shared_slice_known-1) → c.args.k < 256
few c =
    let args = c.args in
    let pre = c.requires in
    let p = args.p in
    omega (arith, pre.at_len.3, group_len_le p args.w.base, (ranged p pre.p_value).group_high)

pub counts-requires : goal.counts-requires
counts-requires c =
    let pre = c.requires in record { p_value = pre.p_value; at_len = (pre.at_len.0, few (goal.at.counts-requires c).After-shared_slice_known-1) }

pub returns-then-not-counts : goal.returns-then-not-counts
returns-then-not-counts c =
    let a = c.args in
    let q = c.requires in
    let k = mk_disk a.image.now a.pointers.now in
    λ off.
    let g = segment_in a.p off a.image.now a.pointers.now a.w in
    let e = c.counts.ensures g a.w.base (q.by_index off).indexed q.at_len.3 in
    subst (λ (l : List Store). Storing a.p a.count l k (Ok a.count) k)
    (sym (lost_miss a.p a.w.gone a.drive g (a.w.base + a.k) (sym e ∙ not-true c.counts.result c.if-not-counts.true-raw))) (storing_none a.p a.count k)

-- the stripe counts
it_counts :
    (c : After-put_lost-arg-2-1) (off : List ℕ)
    → counts c.args.p
    c.args.w.gone
    (segment_in c.args.p off
    c.args.image.now
    c.args.pointers.now
    c.args.w)
    (c.args.w.base + c.args.k)
    ≡ true
it_counts c off =
    let a = c.args in
    let q = c.requires in
    let if1 = c.if-not-counts in
    let counts' = c.counts in
    let g = segment_in a.p off a.image.now a.pointers.now a.w in
    sym (counts'.ensures g a.w.base (q.by_index off).indexed q.at_len.3) ∙ not-false counts'.result if1.false-raw

pub put_lost-requires : goal.put_lost-requires
put_lost-requires c =
    let a = c.args in
    let q = c.requires in
    let h = q.at_len in
    let k = mk_disk a.image.now a.pointers.now in record {
      p_value = q.p_value;
      whole = q.whole;
      lacks = q.lacks;
      at_len = (
        h.0,
        h.1,
        h.2,
        h.3,
        lost_room a.p [] a.w.gone a.drive k a.w.seg (a.w.base + a.k) q.whole q.lacks.drive_low
            h.4 (it_counts (goal.at.put_lost-requires c).After-put_lost-arg-2-1 []) (q.by_index_2 []),
        h.4,
      );
      by_index = q.by_index;
      by_index_2 = it_counts (goal.at.put_lost-requires c).After-put_lost-arg-2-1;
    }

pub returns : goal.returns
returns c =
    let a = c.args in
    let put-lost = c.put_lost in
    let k = mk_disk a.image.now a.pointers.now in
    let k' = mk_disk put-lost.new.image put-lost.new.pointers in
    λ off.
    let g = segment_in a.p off a.image.now a.pointers.now a.w in
    subst (λ (l : List Store). Storing a.p a.count l k put-lost.result k')
    (sym (lost_hit a.p a.w.gone a.drive g (a.w.base + a.k) (it_counts (goal.at.returns c).After-put_lost-arg-2-1 off))) (put-lost.ensures off)
