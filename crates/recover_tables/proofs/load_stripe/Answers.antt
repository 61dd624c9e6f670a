-- `load_stripe`: the first i data records are told to the table, and most is the greatest of stamp and theirs; one turn offers record i. Assumes nothing.
use mathlib.Core.Path.{◌≡◌, refl, sym, ap, ◌∙◌, subst}
use mathlib.Core.List.{List}
use Prim.Native.Nat.{ℕ, ◌+◌, max, ◌<◌}
use native.Mathlib.Omega.{arith}
use Rattle.spec.specs.Drives.{View, view_of}
use Rattle.spec.specs.Layout.{data_drive}
use Rattle.spec.specs.Params.{data_count}
use Rattle.spec.specs.Rank.{Cand}
use Rattle.spec.specs.Segments.{Segment, cand_of, greatest_stamp}
use Rattle.recover_groups.specs.Groups.{segment_in}
use Rattle.law_basic.specs.Geometry.{ranged}
use Rattle.recover_addresses.specs.Told.{Tells}
use Rattle.disk_rank.specs.Ranked.{ranked}
use Rattle.recover_tables.specs.Ready.{standing_counted, standing_low, group_stripe_below, cand_there, stripe_turn}
use Rattle.recover_tables.specs.Walk.{first_cands, stripe_cands, first_cands_none, first_all, most_none, tells_none, tells_known}
use Rattle.law_drives.specs.Spots.{seg-low}
use Rattle.recover_tables.proofs.load_stripe.Goals as goal

pub overflow_add-s : goal.overflow_add-s
overflow_add-s c =
    let a = c.args in
    let pre = c.requires in
    let st = pre.standing in
    omega (
      arith,
      group_stripe_below a.p a.offline.now a.image.now a.pointers.now a.w a.at.now a.k st.index.base_low st.index.stripe_in_holds,
      (ranged a.p
          pre.ground.in_range_holds).stripes_high,
    )

pub data_count-n-requires : goal.data_count-n-requires
data_count-n-requires c =
    let pre = c.requires in
    pre.ground.in_range_holds

pub loop-i-init : goal.loop-i-init
loop-i-init c =
    let a = c.args in
    let v : View = view_of a.p a.offline.now a.image.now a.pointers.now in
    let g : Segment = segment_in a.p a.offline.now a.image.now a.pointers.now a.w in
    let e = first_cands_none a.p a.w.gone g (a.w.base + a.k) in (
      omega arith,
      refl,
      tells_none a.p v a.w.gone a.compact.now a.addresses.now (first_cands a.p a.w.gone g (a.w.base + a.k) 0) e,
      most_none a.stamp.0 ∙ ap (λ (x : List Cand). max a.stamp.0 (greatest_stamp x)) (sym e),
    )

pub data_drive-drive-requires : goal.data_drive-drive-requires
data_drive-drive-requires c =
    let pre = c.requires in record { p_value = pre.ground.in_range_holds; position_bound = subst (λ (x : ℕ). c.loop-i.i < x) c.data_count-n.ensures.0 c.loop-i-test.true }

pub cand_of-c-requires : goal.cand_of-c-requires
cand_of-c-requires c =
    let a = c.args in
    let q = c.requires in
    let st = q.standing in
    let v : View = view_of a.p a.offline.now a.image.now a.pointers.now in record {
      p_value = q.ground.in_range_holds;
      image_len = (
        q.ground.whole.image_long,
        st.index.long,
        standing_low a.p a.offline.now a.image.now a.pointers.now a.w a.at.now a.k q.ground.here a.compact.now st,
        st.index.base_low,
        c.data_drive-drive.ensures.1,
        st.index.stripe_in_holds,
        seg-low a.p v a.w.gone q.ground.here q.ground.apart a.w.seg st.index.remains c.data_drive-drive.result c.data_drive-drive.ensures.1,
      );
      reads_stripe = (a.offline.now, a.pointers.now, st.index.reads, st.it_counts);
    }

pub offer-requires : goal.offer-requires
offer-requires c =
    let a = c.args in
    let q = c.requires in
    let cand-of = c.cand_of-c in
    let data-drive = c.data_drive-drive in
    let loop-test = c.loop-i-test in
    let l = c.loop-i in
    let data-count = c.data_count-n in
    let st = q.standing in
    let v : View = view_of a.p a.offline.now a.image.now a.pointers.now in
    let s = a.w.base + a.k in
    let g : Segment = segment_in a.p a.offline.now a.image.now a.pointers.now a.w in
    let es = q.gathered.1 in
    let ec : ranked cand-of.result ≡ cand_of a.p a.w.gone g s (data_drive a.p s l.i) =
    cand-of.ensures a.offline.now a.pointers.now st.index.reads es ∙ ap (cand_of a.p a.w.gone g s) data-drive.ensures.0 in record {
      ground = q.ground;
      gathered = q.gathered.0;
      near = cand_there a.p v a.w.gone a.compact.now a.w.seg s l.i (ranked cand-of.result)
          (standing_counted a.p a.offline.now a.image.now a.pointers.now a.w a.at.now a.k a.compact.now st)
          (subst (λ (x : ℕ). l.i < x) data-count.ensures.0 loop-test.true) ec;
      known = tells_known a.p v a.w.gone a.compact.now a.addresses.now l.addresses (first_cands a.p a.w.gone g s l.i) l.invariant.2 q.known;
    }

pub loop-i-preserved : goal.loop-i-preserved
loop-i-preserved c =
    let a = c.args in
    let q = c.requires in
    let offer = c.offer in
    let cand-of = c.cand_of-c in
    let data-drive = c.data_drive-drive in
    let loop-test = c.loop-i-test in
    let l = c.loop-i in
    let st = q.standing in
    let v : View = view_of a.p a.offline.now a.image.now a.pointers.now in
    let s = a.w.base + a.k in
    let g : Segment = segment_in a.p a.offline.now a.image.now a.pointers.now a.w in
    let es = q.gathered.1 in
    let ec : ranked cand-of.result ≡ cand_of a.p a.w.gone g s (data_drive a.p s l.i) =
    cand-of.ensures a.offline.now a.pointers.now st.index.reads es ∙ ap (cand_of a.p a.w.gone g s) data-drive.ensures.0 in
    let t =
    stripe_turn a.p v a.w.gone a.compact.now a.w.seg s l.i a.addresses.now l.addresses offer.new.addresses a.stamp.0 l.most.0
    c.greater-most.result.0 (ranked cand-of.result) ec l.invariant.2 l.invariant.3 offer.ensures c.greater-most.ensures in
    (omega (arith, loop-test.true), offer.auto.addresses ∙ l.invariant.1, t.0, t.1)

pub shape_of-addresses : goal.shape_of-addresses
shape_of-addresses c = c.loop-i.invariant.1

pub returns : goal.returns
returns c =
    let a = c.args in
    let l = c.loop-i in
    let v : View = view_of a.p a.offline.now a.image.now a.pointers.now in
    let g : Segment = segment_in a.p a.offline.now a.image.now a.pointers.now a.w in
    let s = a.w.base + a.k in
    let e : l.i ≡ data_count a.p = omega (arith, c.loop-i-test.false, c.data_count-n.ensures.0, l.invariant.0) in
    let f : first_cands a.p a.w.gone g s l.i ≡ stripe_cands a.p a.w.gone g s = ap (first_cands a.p a.w.gone g s) e
    ∙ first_all a.p a.w.gone g s in record {
      tells = subst (λ (x : List Cand). Tells a.p v a.w.gone a.compact.now a.addresses.now l.addresses x) f l.invariant.2;
      result_value = l.invariant.3 ∙ ap (λ (x : List Cand). max a.stamp.0 (greatest_stamp x)) f;
    }
