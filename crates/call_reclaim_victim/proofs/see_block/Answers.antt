-- `see_block`: a place that the table has is live and not odd (`data_live`, `data_even`), so one more (`vouched_step`); any other is skipped. Assumes nothing.
-- the zone is one of the drive's
use Rattle.spec.specs.Memory.{state_of}
use Rattle.std.specs.Prelude.{None}
use Prim.Native.Nat.{ℕ, ◌+◌, ◌<◌}
use Rattle.call_reclaim_live.specs.Live.{places_high}
use Rattle.spec.specs.Drives.{View, view_of, zone_on}
use Rattle.spec.specs.Params.{addresses_len, place_of}
use Rattle.law_basic.specs.Geometry.{ranged}
use Rattle.law_basic.specs.Segs.{low_here}
use Rattle.call_reclaim_victim.specs.Vouched.{vouched_skip, vouched_step, vouched_low, data_even, data_live, step-seen}
use Rattle.call_reclaim_victim.specs.declared.Idle.{Idle}
use mathlib.Core.List.{List}
use mathlib.Core.Path.{◌≡◌, refl, sym, ap, ◌∙◌, subst}
use native.Mathlib.Omega.{arith}
use Rattle.call_reclaim_victim.proofs.see_block.Goals as goal
use Rattle.call_reclaim_victim.proofs.see_block.Lts
use Rattle.call_reclaim_victim.proofs.see_block.Reads
use Rattle.call_reclaim_victim.proofs.see_block.Tie

abbrev Start : Type 0
Start = Lts.Start Tie.the-claims Reads.Pre Reads.Post Tie.handed_clauses

zone_there : (c : Start) → zone_on c.args.segment c.args.drive < c.args.p.Z
zone_there c = low_here c.args.p c.args.segment c.args.drive c.requires.whole.1 c.requires.addresses_len.1

-- the place is that of its data block
place_there : (c : Start) → c.args.at + c.args.o ≡ place_of c.args.p c.args.drive (zone_on c.args.segment c.args.drive) 1 + c.args.o
place_there c =
    let a = c.args in
    let h = c.requires.addresses_len in
    ap (λ (x : ℕ). x + a.o) (h.3 ∙ ap (λ (z : ℕ). place_of a.p a.drive z 1) h.2)

-- the place lies in the image
in_image : (c : Start) → c.args.at + c.args.o < 715825152
in_image c =
    let a = c.args in
    let r = ranged a.p c.requires.p_value in
    let h = c.requires.addresses_len in
    omega (arith, places_high a.p r, vouched_low a.p r a.segment a.drive a.o (a.at + a.o) h.1 (zone_there c) h.4 (place_there c))

pub record_in-record-requires : goal.record_in-record-requires
record_in-record-requires c =
    let start = c.before.before.before.before.before in
    let h = c.requires.addresses_len in record {
      p_value = c.requires.p_value;
      image_len =
          (c.requires.whole.0.image_long, h.1, subst (λ (z : ℕ). z < c.args.p.Z) (sym h.2) (zone_there start), h.4);
    }

pub clipped-a-requires : goal.clipped-a-requires
clipped-a-requires c = omega (arith, (ranged c.args.p c.requires.p_value).addresses_low)

pub overflow_add-q : goal.overflow_add-q
overflow_add-q c =
    let start = c.before.before.before.before.before.before.before.before in
    omega (arith, in_image start)

pub overflow_cast-q : goal.overflow_cast-q
overflow_cast-q c =
    let start = c.before.before.before.before.before.before.before.before in
    omega (arith, in_image start)

pub place_at-there-requires : goal.place_at-there-requires
unfolding addresses_len
place_at-there-requires c = omega (arith, c.clipped-a.ensures, c.requires.addresses_len.0)

pub returns-then-there-q : goal.returns-then-there-q
returns-then-there-q c =
    let a = c.args in
    let v : List ℕ → View = λ off. view_of a.p off a.image.now a.pointers.now in
    record { live_bound = omega arith; by_index = λ off. vouched_skip a.p (v off) (state_of a.bytes.now) a.segment a.addresses.now (a.at + a.o) (a.at + a.o + 1) a.seen (omega arith) }

pub next_idle-first-requires : goal.next_idle-first-requires
next_idle-first-requires c =
    let start = c.before.before.before.before.before.before.before.before.before.before.before.before in
    let a = c.args in
    let p = a.p in
    let r = ranged p c.requires.p_value in
    let h = c.requires.addresses_len in
    let q : ℕ = a.at + a.o in record {
      p_value = c.requires.p_value;
      whole = c.requires.whole;
      place_bound = (
        vouched_low p r a.segment a.drive a.o q h.1 (zone_there start) h.4 (place_there start),
        data_even p r a.segment a.drive a.o q h.1 (zone_there start) h.4 (place_there start),
        h.6,
      );
    }

pub overflow_add-result : goal.overflow_add-result
overflow_add-result c = omega (arith, c.requires.addresses_len.5)

pub returns : goal.returns
returns c =
    let start = c.before.before.before.before.before.before.before.before.before.before.before.before.before.before in
    let a = c.args in
    let p = a.p in
    let tb = a.addresses.now in
    let v : List ℕ → View = λ off. view_of p off a.image.now a.pointers.now in
    let st = state_of a.bytes.now in
    let r = ranged p c.requires.p_value in
    let h = c.requires.addresses_len in
    let q : ℕ = a.at + a.o in
    let live = data_live p r a.segment a.drive a.o q h.1 (zone_there start) h.4 (place_there start) tb c.clipped-a.result c.clipped-a.ensures
    (sym c.place_at-there.ensures ∙ c.if-there-q.false) in
    let even = data_even p r a.segment a.drive a.o q h.1 (zone_there start) h.4 (place_there start) in
    let s : Idle = record { first = c.next_idle-first.result; odd = None } in record {
      live_bound = omega arith;
      by_index = λ off. vouched_step p (v off) st a.segment tb q a.seen (record { live = a.seen.live + 1; first = s.first }) s live even
          (step-seen p (v off) st a.segment q a.seen s even refl (c.next_idle-first.ensures off)) refl refl;
    }
