-- `plan`: three ends: no store left is `ends_none`, the chunk stored but others missing `ends_part`, the stripe completed `ends_whole`. Assumes nothing.
use Prim.Native.Nat.{ℕ, ◌-◌, ◌≤◌, ◌<◌}
use Rattle.spec.specs.Drives.{Disk, mk_disk, pointer_at, pointer_of, zone_on}
use Rattle.spec.specs.Landing.{slot_of, completes}
use Rattle.spec.specs.Memory.{Memory, mk_memory, filled_in_of}
use Rattle.spec.specs.Segments.{open_segment}
use Rattle.spec.specs.declared.Answer.TheVariants.{Landed}
use Rattle.call_land.specs.Ends.{row_eight, chunked, complete_ready, ends_none, ends_part, ends_whole}
use Rattle.call_land.specs.Marked.{change_to}
use Rattle.call_land.specs.Plan.{look_done, look_seals, completing_same}
use Rattle.call_land.specs.Ready.{land_ready, open_zone_low, land_pointer_data}
use Rattle.mem_rows.specs.declared.Change.{Change}
use Rattle.mem_rows.specs.declared.Row.{Row}
use Rattle.mem_rows.specs.Rows.{slot_row}
use Rattle.law_views.specs.Views.{seen}
use Rattle.call_land_chunk.specs.Alone.{alone, mark_row, free_row}
use borrow.Author.Tests.{not-true, not-false}
use mathlib.Core.Bool.{true, false}
use mathlib.Core.Path.{◌≡◌, sym, ap, ◌∙◌, subst}
use native.Mathlib.Omega.{arith}
use Rattle.call_land.proofs.plan.Goals as goal

pub returns-then-count-eq0 : goal.returns-then-count-eq0
returns-then-count-eq0 c st ch =
    let a = c.args in
    let cut = c.cut-answer in
    let if1 = c.if-count-eq0 in
    let p = a.p in
    let off = a.offline.now in
    let d = a.drive in
    let s = a.stripe in
    let k : Disk = mk_disk a.image.now a.pointers.now in
    let m : Memory = mk_memory st a.addresses.now a.compact.now a.inflight.now in
    let u = cut.ensures in
    ends_none p off k m d s a.count ch.none! if1.true c.kept.result cut.new.addresses cut.new.compact (ap (λ (x : Change). x.answer) c.kept.ensures ∙ u.0) u.1 u.2

pub store_chunk-marked-requires : goal.store_chunk-marked-requires
store_chunk-marked-requires c =
    let a = c.args in
    let st = c.requires.0 in
    let ch = c.requires.1 in
    let p = a.p in
    let off = a.offline.now in
    let d = a.drive in
    let s = a.stripe in
    let k : Disk = mk_disk a.image.now a.pointers.now in
    let m : Memory = mk_memory st a.addresses.now a.compact.now a.inflight.now in
    let r = land_ready p off k m d s ch.none! in
    let w = ch.looks in
    let q = land_pointer_data p off k m d s r in
    let e = sym ch.target.zone in
    let f : filled_in_of (alone a.seen.row) 0 ≤ 8 = subst (λ (x : Row). filled_in_of (alone x) 0 ≤ 8) (sym (w.row r.slot_low)) (row_eight p off k m d s r) in
    let z = subst (λ (x : ℕ). x < p.Z) e (open_zone_low p off k m d s r) in
    let l = subst (λ (x : ℕ). 1 ≤ pointer_of p k.pointers d x) e q.0 in
    let h = subst (λ (x : ℕ). pointer_of p k.pointers d x ≤ p.S) e q.1 in
    record { p_value = r.ranged; whole = r.whole; compact_len = (r.compact_long, r.inflight_long, subst (λ (x : ℕ). x < 8) (sym w.slot) r.slot_low, f); drive_lt_n = (r.drive_low, z, l, h) }

pub returns-then-not-seen : goal.returns-then-not-seen
returns-then-not-seen c st ch =
    let a = c.args in
    let store_Chunk = c.store_chunk-marked in
    let if1 = c.if-count-eq0 in
    let p = a.p in
    let off = a.offline.now in
    let d = a.drive in
    let s = a.stripe in
    let k : Disk = mk_disk a.image.now a.pointers.now in
    let m : Memory = mk_memory st a.addresses.now a.compact.now a.inflight.now in
    let r = land_ready p off k m d s ch.none! in
    let w = ch.looks in
    let k₁ : Disk = mk_disk store_Chunk.new.image store_Chunk.new.pointers in
    let co₁ = store_Chunk.new.compact in
    let u = store_Chunk.ensures in
    let x = chunked p off k m d s r ch.sized a.seen w a.target.zone ch.target.zone store_Chunk.result k₁ co₁ u.pointers_after u.compact_after.0 u.compact_after.1 in
    let f : completes p st (slot_of st s) d ≡ false = sym (look_done p st d s a.seen w r.slot_low) ∙ not-true a.seen.done c.if-not-seen.true in
    let n : 0 < a.count = omega (arith, if1.false) in
    let e = c.change_to.ensures ∙ (λ j. change_to (Landed 0) (ch.front j) (w.slot j) (x.0 j) false) in
    ends_part p off k m d s a.count ch.none! ch.sized n f c.change_to.result k₁ co₁ e x.1 x.2

pub complete-answer-requires : goal.complete-answer-requires
complete-answer-requires c =
    let if2 = c.if-not-seen in
    let store_Chunk = c.store_chunk-marked in
    let a = c.args in
    let st = c.requires.0 in
    let ch = c.requires.1 in
    let p = a.p in
    let off = a.offline.now in
    let d = a.drive in
    let s = a.stripe in
    let k : Disk = mk_disk a.image.now a.pointers.now in
    let m : Memory = mk_memory st a.addresses.now a.compact.now a.inflight.now in
    let r = land_ready p off k m d s ch.none! in
    let w = ch.looks in
    let k₁ : Disk = mk_disk store_Chunk.new.image store_Chunk.new.pointers in
    let co₁ = store_Chunk.new.compact in
    let u = store_Chunk.ensures in
    let x = chunked p off k m d s r ch.sized a.seen w a.target.zone ch.target.zone store_Chunk.result k₁ co₁ u.pointers_after u.compact_after.0 u.compact_after.1 in
    let b : a.seen.done ≡ true = not-false a.seen.done if2.false in
    let f : completes p st (slot_of st s) d ≡ true = sym (look_done p st d s a.seen w r.slot_low) ∙ b in record {
      p_value = (complete_ready p off k m d s r ch.sized f store_Chunk.result a.target.segment a.seen.seals k₁ x.0 (ch.target.whole b)
          (look_seals p st d s a.seen w r.slot_low) x.1).0;
      whole = (complete_ready p off k m d s r ch.sized f store_Chunk.result a.target.segment a.seen.seals k₁ x.0 (ch.target.whole b)
          (look_seals p st d s a.seen w r.slot_low) x.1).1.0;
      addresses_len = (complete_ready p off k m d s r ch.sized f store_Chunk.result a.target.segment a.seen.seals k₁ x.0 (ch.target.whole b)
          (look_seals p st d s a.seen w r.slot_low) x.1).1.1.0;
      row_bound = (complete_ready p off k m d s r ch.sized f store_Chunk.result a.target.segment a.seen.seals k₁ x.0 (ch.target.whole b)
          (look_seals p st d s a.seen w r.slot_low) x.1).1.1.1.0;
      zones_low = (complete_ready p off k m d s r ch.sized f store_Chunk.result a.target.segment a.seen.seals k₁ x.0 (ch.target.whole b)
          (look_seals p st d s a.seen w r.slot_low) x.1).1.1.1.1;
    }

pub shape_of-image : goal.shape_of-image
shape_of-image c =
    let complete = c.complete-answer in
    let store_Chunk = c.store_chunk-marked in
    complete.auto.image ∙ store_Chunk.auto.image

pub shape_of-pointers : goal.shape_of-pointers
shape_of-pointers c =
    let complete = c.complete-answer in
    let store_Chunk = c.store_chunk-marked in
    complete.auto.pointers ∙ store_Chunk.auto.pointers

pub shape_of-addresses : goal.shape_of-addresses
shape_of-addresses c =
    let complete = c.complete-answer in
    complete.auto.addresses

pub shape_of-compact : goal.shape_of-compact
shape_of-compact c =
    let complete = c.complete-answer in
    let store_Chunk = c.store_chunk-marked in
    complete.auto.compact ∙ store_Chunk.auto.compact

pub returns : goal.returns
returns c st ch =
    let complete = c.complete-answer in
    let if2 = c.if-not-seen in
    let a = c.args in
    let store_Chunk = c.store_chunk-marked in
    let if1 = c.if-count-eq0 in
    let p = a.p in
    let off = a.offline.now in
    let d = a.drive in
    let s = a.stripe in
    let k : Disk = mk_disk a.image.now a.pointers.now in
    let m : Memory = mk_memory st a.addresses.now a.compact.now a.inflight.now in
    let r = land_ready p off k m d s ch.none! in
    let w = ch.looks in
    let k₁ : Disk = mk_disk store_Chunk.new.image store_Chunk.new.pointers in
    let co₁ = store_Chunk.new.compact in
    let u = store_Chunk.ensures in
    let x = chunked p off k m d s r ch.sized a.seen w a.target.zone ch.target.zone store_Chunk.result k₁ co₁ u.pointers_after u.compact_after.0 u.compact_after.1 in
    let g : a.seen.done ≡ true = not-false a.seen.done if2.false in
    let f : completes p st (slot_of st s) d ≡ true = sym (look_done p st d s a.seen w r.slot_low) ∙ g in
    let n : 0 < a.count = omega (arith, if1.false) in
    let o = complete.result in
    let k₂ : Disk = mk_disk complete.new.image complete.new.pointers in
    let tb₂ = complete.new.addresses in
    let co₂ = complete.new.compact in
    let b = look_seals p st d s a.seen w r.slot_low in
    let q : c.free_stripe.result ≡ free_row (mark_row (slot_row st (slot_of st s)) d (pointer_at (seen p off k) d (zone_on (open_segment p (seen p off k) st) d) - 1)) =
    c.free_stripe.ensures ∙ ap free_row x.0 in
    let e = c.change_to-2.ensures ∙ (λ j. change_to o (ch.front j) (w.slot j) (q j) (b j)) in
    ends_whole p off k m d s a.count ch.none! ch.sized n f o c.change_to-2.result k₂ tb₂ co₂ e
    (completing_same p off (a.count - 1) a.addresses.now o k₂ tb₂ co₂ x.0 (ch.target.whole g) b x.1 x.2 complete.ensures)
