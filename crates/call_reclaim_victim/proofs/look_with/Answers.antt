-- `look_with`: every number has a count, 0 at first; none sealed is `looked_none`, g with its idle block `looked_some`; what lies outside is counted. Assumes nothing.
use Rattle.spec.specs.Memory.{state_of}
use Prim.Native.Nat.{ℕ, ◌+◌, ◌*◌, ◌≤◌, ◌<◌}
use Rattle.call_reclaim_live.specs.Least.{least_taken}
use Rattle.call_reclaim_live.specs.Live.{in_seg, live_below, none_live, counted-le, live_owned, places_high}
use Rattle.call_reclaim_live.specs.Owners.{Owns}
use Rattle.spec.specs.Drives.{View, view_of}
use Rattle.spec.specs.Params.{capacity, addresses_len}
use Rattle.spec.specs.declared.Seg.{Seg}
use Rattle.law_basic.specs.Geometry.{ranged, addresses_all}
use Rattle.law_basic.specs.Segs.{ZonesLow}
use Rattle.law_drives.specs.Tables.{seg_at}
use Rattle.mem_tables.specs.Tables.{count-le}
use Rattle.call_reclaim_victim.specs.Looked.{looked_none, looked_some}
use Rattle.call_reclaim_victim.specs.Outside.{outside-count}
use Rattle.call_reclaim_victim.specs.Waiting.{IdleBelow}
use lib.Dec.{eqb}
use lib.ListN.{length, get_or, replicate, length-replicate, get_or-replicate}
use mathlib.Core.Bool.{not}
use mathlib.Core.List.{List}
use mathlib.Core.Path.{◌≡◌, refl, sym, ap, ◌∙◌, subst}
use native.Mathlib.Omega.{arith}
use Rattle.call_reclaim_victim.proofs.look_with.Goals as goal

pub count_windows-outside-requires : goal.count_windows-outside-requires
count_windows-outside-requires c =
    let a = c.args in
    let h = c.requires.addresses_len in
    let n : length {A = ℕ} (replicate 1025 0) ≡ 1025 = length-replicate {A = ℕ} 1025 0 in
    record {
      p_value = c.requires.p_value;
      addresses_len = (h.0, h.1, h.2, subst (λ (x : ℕ). 1024 < x) (sym n) (omega arith));
      owners_low =
          (c.requires.whole.1.owners, none_live a.p a.segments.now a.addresses.now (replicate 1025 0) (λ g l. get_or-replicate 1025 g 0 0 (omega (arith, l))));
    }

pub fewest-requires : goal.fewest-requires
fewest-requires c =
    let a = c.args in
    let n : length {A = ℕ} (replicate 1025 0) ≡ 1025 = length-replicate {A = ℕ} 1025 0 in
    (c.requires.whole.1.sealed_long, subst (λ (x : ℕ). a.p.Z ≤ x) (sym (c.count_windows-outside.auto.live ∙ n)) (omega (arith, (ranged a.p c.requires.p_value).zones_high)))

pub returns-in_default : goal.returns-in_default
returns-in_default c =
    let a = c.args in
    let p = a.p in
    let tb = a.addresses.now in
    let w = c.count_windows-outside in
    let e = c.nobody.ensures in
    let v : List ℕ → View = λ off. view_of p off a.image.now a.pointers.now in
    λ off sh. looked_none p (v off) tb (state_of a.bytes.now) p.Z
    (least_taken p (ranged p c.requires.p_value) (v off) tb a.rows.now a.segments.now a.sealed.now sh w.new.live w.ensures.live_counted p.Z c.in_default.ensures.least)
    (omega arith) c.nobody.result (omega (arith, e.0)) e.1 e.2 e.3

pub row-segment-requires : goal.row-segment-requires
row-segment-requires c =
    let l = c.in-Some.ensures.low in
    (omega (arith, l, c.requires.whole.1.rows_long), omega (arith, l, (ranged c.args.p c.requires.p_value).zones_high))

pub idle_of-idle-requires : goal.idle_of-idle-requires
idle_of-idle-requires c =
    let a = c.args in
    let nu = c.requires.whole.1 in
    let w = c.count_windows-outside in
    let g = c.in-Some.g in
    let l : g < a.p.Z = c.in-Some.ensures.low in
    let is = c.in-Some.ensures.least.taken l in
    let e = sym c.row-segment.ensures in
    let h = c.requires.addresses_len in
    let k = w.auto.marks in record {
      p_value = c.requires.p_value;
      whole = (
        c.requires.whole.0,
        subst (λ (s : Seg). ZonesLow a.p 0 s) e (nu.zones_low g l is),
        nu.owners.0,
        subst (λ (s : Seg). Owns a.p a.segments.now g s) e
            (nu.owned g l is),
      );
      addresses_len = (h.0, omega (arith, h.1, k), omega (arith, h.2, k), h.3);
      marks = λ x. w.ensures.marks (omega (arith, x, k));
    }

pub offset_bounds-live-g : goal.offset_bounds-live-g
offset_bounds-live-g c =
    omega (arith, c.in-Some.ensures.low, (ranged c.args.p c.requires.p_value).zones_high)

pub bounds-live-g : goal.bounds-live-g
bounds-live-g c =
    omega (arith, c.in-Some.ensures.low, (ranged c.args.p c.requires.p_value).zones_high)

pub overflow_add-result : goal.overflow_add-result
overflow_add-result c =
    let a = c.args in
    let p = a.p in
    let r = ranged p c.requires.p_value in
    let w = c.count_windows-outside in
    let all! = p.N * p.Z * capacity p in
    let m = counted-le p a.segments.now a.addresses.now w.new.live all! w.ensures.live_counted 1024 (omega arith) in
    omega (arith, w.ensures.value, count-le a.addresses.now p.L all! 4294967295, addresses_all p r, m, places_high p r)

pub returns : goal.returns
unfolding addresses_len
returns c =
    let a = c.args in
    let p = a.p in
    let r = ranged p c.requires.p_value in
    let tb = a.addresses.now in
    let ss = a.segments.now in
    let st = state_of a.bytes.now in
    let v : List ℕ → View = λ off. view_of p off a.image.now a.pointers.now in
    let w = c.count_windows-outside in
    let live = w.new.live in
    let so = w.ensures.live_counted in
    let g = c.in-Some.g in
    let le = c.in-Some.ensures.least in
    let i = c.idle_of-idle.result in
    let h : g < p.Z = omega (arith, c.in-Some.ensures.low) in
    let is = le.taken h in
    let all! = p.N * p.Z * capacity p in
    let lost = so 1024 (omega arith) in
    λ off sh.
    let seg : c.row-segment.result ≡ seg_at p (v off) 0 g = c.row-segment.ensures ∙ sh.its_row g h is in
    let count : length (live_below p tb (in_seg p (seg_at p (v off) 0 g)) all!) ≡ get_or live g 0 =
    ap length (sym (live_owned p r tb ss g (seg_at p (v off) 0 g) (sh.owns g h is) all! (omega arith))) ∙ sym (so g (omega (arith, h, r.zones_high))) in
    looked_some p r (v off) tb a.rows.now ss a.sealed.now sh st g h is (least_taken p r (v off) tb a.rows.now ss a.sealed.now sh live so g le) (get_or live g 0) count i
    (subst (λ (s : Seg). IdleBelow p (v off) st s tb all! i) seg (c.idle_of-idle.ensures off))
    (record { zone = g; segment = c.row-segment.result; live = get_or live g 0; first = i.first; odd = i.odd; outside = not (eqb (w.result + get_or live 1024 0) 0) }) refl seg refl refl refl
    (outside-count p r (v off) tb ss (omega (arith, c.requires.addresses_len.0)) (λ x. omega (arith, c.shared_slice_known-6-1.given x)) sh.placed w.result (get_or live 1024 0) w.ensures.value
    (omega (arith, lost)) (λ x. omega (arith, lost, x)))
