-- `look_by_records`: none promises nothing; no entry is no live block (`looked_empty`); all entries live, the others enough: `looked_seen`. Assumes nothing.
use Rattle.spec.specs.Memory.{state_of}
use Prim.Native.Nat.{ℕ, ◌+◌, ◌*◌, ◌≤◌, ◌<◌}
use Rattle.spec.specs.Drives.{view_of}
use Rattle.spec.specs.Params.{capacity, addresses_len}
use Rattle.spec.specs.declared.Seg.{Seg}
use Rattle.call_reclaim_live.specs.Owners.{OwnersShown}
use Rattle.call_reclaim_entries.specs.Entries.{entered_none, taken_live}
use Rattle.law_basic.specs.Geometry.{ranged, addresses_all}
use Rattle.law_basic.specs.Segs.{ZonesLow}
use Rattle.mem_tables.specs.Tables.{count-le}
use Rattle.call_reclaim_victim.specs.Outside.{is_outside, outside-count}
use Rattle.call_reclaim_victim.specs.Vouched.{Vouched, looked_empty, looked_seen}
use lib.Dec.{eqb}
use lib.ListN.{length, get_or, replicate, length-replicate, get_or-replicate}
use mathlib.Core.Bool.{not}
use mathlib.Core.List.{List}
use mathlib.Core.Path.{◌≡◌, refl, sym, ap, ◌∙◌, subst}
use native.Mathlib.Omega.{arith}
use Rattle.call_reclaim_victim.proofs.look_by_records.Goals as goal
use Rattle.call_reclaim_victim.proofs.look_by_records.Goals.{After-count_entries-beyond}

pub count_entries-beyond-requires : goal.count_entries-beyond-requires
count_entries-beyond-requires c =
    let a = c.args in
    let n : length {A = ℕ} (replicate 1025 0) ≡ 1025 = length-replicate {A = ℕ} 1025 0 in
    record {
      p_value = c.requires.p_value;
      addresses_len =
          (c.requires.addresses_len.0, c.requires.whole.1.owners, subst (λ (x : ℕ). 1024 < x) (sym n) (omega arith));
      taken_counted = entered_none a.p a.segments.now
          a.addresses.now (replicate 1025 0) (λ g l. get_or-replicate 1025 g 0 0 (omega (arith, l)));
    }

pub overflow_add-outside : goal.overflow_add-outside
overflow_add-outside c =
    let p = c.args.p in
    let n = c.count_entries-beyond in
    let few = addresses_all p (ranged p c.requires.p_value) in
    omega (arith, n.ensures.value, count-le c.args.addresses.now p.L (p.N * p.Z * capacity p) 4294967295, n.ensures.taken_counted_2.low 1024 (omega arith), few)

-- as many counts as before
long_used : (c : After-count_entries-beyond) → c.args.p.Z ≤ length c.count_entries-beyond.new.used
long_used c =
    let n : length {A = ℕ} (replicate 1025 0) ≡ 1025 = length-replicate {A = ℕ} 1025 0 in
    subst (λ (x : ℕ). c.args.p.Z ≤ x) (sym (c.count_entries-beyond.auto.used ∙ n)) (omega (arith, (ranged c.args.p c.requires.p_value).zones_high))

pub fewest-requires : goal.fewest-requires
fewest-requires c = (c.requires.whole.1.sealed_long, long_used (goal.at.fewest-requires c).After-count_entries-beyond)

-- what lies outside, by the entries
told_outside : (c : After-count_entries-beyond) (off : List ℕ) →
    let a = c.args in
    let v = view_of a.p off a.image.now a.pointers.now in
    OwnersShown a.p v a.rows.now a.segments.now a.sealed.now
    → not (eqb (c.count_entries-beyond.result + get_or c.count_entries-beyond.new.used 1024 0) 0) ≡ is_outside a.p v a.addresses.now
unfolding addresses_len
told_outside c off sh =
    let a = c.args in
    let p = a.p in
    let tb = a.addresses.now in
    let n = c.count_entries-beyond in
    let used = n.new.used in
    let t = ap length (taken_live p a.segments.now tb 1024) in
    outside-count p (ranged p c.requires.p_value) (view_of p off a.image.now a.pointers.now) tb a.segments.now (omega (arith, c.requires.addresses_len.0))
    (λ x. omega (arith, c.shared_slice_known-6-1.given x))
    sh.placed n.result (get_or used 1024 0) n.ensures.value (omega (arith, t, n.ensures.taken_counted_2.most 1024 (omega arith)))
    (λ x. omega (arith, t, n.ensures.taken_counted_2.least 1024 (omega arith) x))

pub bounds-used-g : goal.bounds-used-g
bounds-used-g c =
    omega (arith, c.in_ok-g.ensures.low, (ranged c.args.p c.requires.p_value).zones_high)

pub returns-then-n-eq0 : goal.returns-then-n-eq0
returns-then-n-eq0 c off sh =
    let a = c.args in
    let p = a.p in
    let v = view_of p off a.image.now a.pointers.now in
    let n = c.count_entries-beyond in
    let g = c.in_ok-g.g in
    let le = c.in_ok-g.ensures.least in
    let h = c.in_ok-g.ensures.low in
    looked_empty p (ranged p c.requires.p_value) v a.addresses.now a.rows.now a.segments.now a.sealed.now sh (state_of a.bytes.now) g h (le.taken h) n.new.used n.ensures.taken_counted_2 le
    c.if-n-eq0.true _ refl c.row-segment.ensures c.if-n-eq0.true refl refl (told_outside (goal.at.returns-then-n-eq0 c).After-count_entries-beyond off sh)

pub is_quick-requires : goal.is_quick-requires
is_quick-requires c =
    let p = c.args.p in
    let r = ranged p c.requires.p_value in
    let low = c.count_entries-beyond.ensures.taken_counted_2.low c.in_ok-g.g (omega (arith, c.in_ok-g.ensures.low, r.zones_high)) in
    record { p_value = c.requires.p_value; z_in_bounds = (long_used (goal.at.is_quick-requires c).After-count_entries-beyond, omega (arith, low, addresses_all p r)) }

pub row-segment-requires : goal.row-segment-requires
row-segment-requires c =
    let l = c.in_ok-g.ensures.low in
    (omega (arith, l, c.requires.whole.1.rows_long), omega (arith, l, (ranged c.args.p c.requires.p_value).zones_high))

pub see_segment-seen-requires : goal.see_segment-seen-requires
see_segment-seen-requires c =
    let nu = c.requires.whole.1 in
    let g = c.in_ok-g.g in
    let l : g < c.args.p.Z = c.in_ok-g.ensures.low in
    record {
      p_value = c.requires.p_value;
      whole =
          (c.requires.whole.0, subst (λ (s : Seg). ZonesLow c.args.p 0 s) (sym c.row-segment.ensures) (nu.zones_low g l (c.in_ok-g.ensures.least.taken l)));
      addresses_len = c.requires.addresses_len;
    }

pub is_fewest-requires : goal.is_fewest-requires
is_fewest-requires c =
    let p = c.args.p in
    let r = ranged p c.requires.p_value in
    let nu = c.requires.whole.1 in
    let low = c.count_entries-beyond.ensures.taken_counted_2.low c.in_ok-g.g (omega (arith, c.in_ok-g.ensures.low, r.zones_high)) in
    record {
      p_value = c.requires.p_value;
      image_len = (c.requires.whole.0.image_long, c.requires.addresses_len.0, omega (arith, low, addresses_all p r));
      z_in_bounds = (nu.rows_long, nu.sealed_long, nu.zones_low);
    }

pub returns : goal.returns
returns c off sh =
    let a = c.args in
    let p = a.p in
    let tb = a.addresses.now in
    let st = state_of a.bytes.now in
    let v = view_of p off a.image.now a.pointers.now in
    let n = c.count_entries-beyond in
    let g = c.in_ok-g.g in
    let le = c.in_ok-g.ensures.least in
    let h = c.in_ok-g.ensures.low in
    let s = c.see_segment-seen.result in
    let w = subst (λ (x : Seg). Vouched p v st x tb (p.N * p.Z * capacity p) s) c.row-segment.ensures (c.see_segment-seen.ensures off) in
    looked_seen p (ranged p c.requires.p_value) v tb a.rows.now a.segments.now a.sealed.now sh st g h (le.taken h) n.new.used n.ensures.taken_counted_2 le s w c.if-seen-n.false
    (c.is_fewest.ensures c.if-not-is_fewest.false) _ refl c.row-segment.ensures refl refl refl
    (told_outside (goal.at.returns c).After-count_entries-beyond off sh)
