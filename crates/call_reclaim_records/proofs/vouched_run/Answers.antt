-- `vouched_run`: c is at most the places among the first i that the table points at, and at most i; a turn adds place q + i if it does. Assumes nothing.
use Prim.Native.Nat.{ℕ, ◌+◌, ◌*◌, ◌≤◌}
use Rattle.spec.specs.Params.{spare_len}
use Rattle.law_basic.specs.Geometry.{spare_len_lem}
use Rattle.mem_marks.specs.Marks.{is_pointed}
use Rattle.call_reclaim_records.specs.Vouch.{pointed_from, pointed-bit, run_snoc, run_le}
use lib.Dec.{eqb}
use lib.ListN.{length}
use mathlib.Core.Path.{◌≡◌, sym, ap, ◌∙◌}
use mir.Val.{bool_byte}
use native.Mathlib.Omega.{arith}
use Rattle.call_reclaim_records.proofs.vouched_run.Goals as goal
use Rattle.call_reclaim_records.proofs.vouched_run.Goals.{In-loop-i}
use Rattle.call_reclaim_records.proofs.vouched_run.Lts
use Rattle.call_reclaim_records.proofs.vouched_run.Reads
use Rattle.call_reclaim_records.proofs.vouched_run.Tie

abbrev After-same : Type 0
After-same = Lts.After-same Tie.the-claims Reads.Pre Reads.Post goal.the-invariant-loop-i goal.the-decreases-loop-i

pub loop-i-init : goal.loop-i-init
loop-i-init c = (omega arith, omega arith, omega arith)

-- the records lie in the image; n: the bytes of a record
room : (n : ℕ) (c : In-loop-i) → n ≡ spare_len
    → c.args.at + n * c.args.n ≤ length c.args.image.now
room n c e = rw e c.requires.2

pub overflow_mul-i : goal.overflow_mul-i
overflow_mul-i c = omega (arith, room _ c (sym spare_len_lem))

pub overflow_add-at : goal.overflow_add-at
overflow_add-at c = omega (arith, room _ c (sym spare_len_lem))

pub overflow_add-at-in-loop-i : goal.overflow_add-at-in-loop-i
overflow_add-at-in-loop-i c = omega (arith, room _ c (sym spare_len_lem))

pub read_be64-requires : goal.read_be64-requires
read_be64-requires c = omega (arith, room _ c (sym spare_len_lem))

pub clipped-a-requires : goal.clipped-a-requires
clipped-a-requires c =
    c.requires.0

pub place_at-requires : goal.place_at-requires
place_at-requires c = omega (arith, c.clipped-a.ensures)

pub overflow_add-q : goal.overflow_add-q
overflow_add-q c = omega arith

-- one place more
one_more : (c : After-same)
    → c.before.before.before.before.before.loop-i.c + c.same-c.result
    ≤ length
    (pointed_from c.before.before.before.before.before.before.before.before.args.addresses.now
    c.before.before.before.before.before.before.before.before.args.l c.before.before.before.before.before.before.before.before.args.q
    (c.before.before.before.before.before.loop-i.i + 1))
one_more c =
    let at_loop_i = c.before.before.before.before.before in
    let start = at_loop_i.before.before.before in
    let clipped = c.before.before.clipped-a in
    let s = start.args in
    let l = at_loop_i.loop-i in
    let tb = s.addresses.now in
    let e = c.same-c.ensures ∙ ap (λ (x : ℕ). bool_byte (eqb x (s.q + l.i))) c.before.place_at.ensures in
    let w = pointed-bit tb s.l clipped.result (s.q + l.i) clipped.ensures in
    omega (arith, l.invariant.1, e, w, run_snoc (is_pointed tb s.l) s.q l.i)

-- which is no more than the places
within : (c : After-same) → c.before.before.before.before.before.loop-i.c + c.same-c.result ≤ c.before.before.before.before.before.loop-i.i + 1
within c =
    let at_loop_i = c.before.before.before.before.before in
    let start = at_loop_i.before.before.before in
    let s = start.args in
    omega (arith, one_more c, run_le (is_pointed s.addresses.now s.l) s.q (at_loop_i.loop-i.i + 1))

pub overflow_add-c : goal.overflow_add-c
overflow_add-c c = omega (arith, within c.before)

pub loop-i-preserved : goal.loop-i-preserved
loop-i-preserved c = (omega arith, one_more c.before, within c.before)

pub returns : goal.returns
returns c =
    let s = c.args in
    let l = c.loop-i in
    let e : l.i ≡ s.n = omega arith in
    omega (arith, l.invariant.1, ap (λ (x : ℕ). length (pointed_from s.addresses.now s.l s.q x)) e)
