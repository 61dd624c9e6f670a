-- `leaf_state`: each of the three tests that holds leaves dst; else decoded, cell k set in three arrays and encoded, as the definition does. Assumes nothing.
use mathlib.Core.Path.{sym, ap, ◌∙◌}
use lib.ListN.{length}
use borrow.Author.Tests.{le-leb, lt-leb, eq-eqb, ne_eqb}
use native.Mathlib.Omega.{arith}
use Rattle.spec.specs.Memory.{state_len, state_bytes}
use Rattle.spec.specs.declared.State.{State}
use Rattle.bench_leaves.specs.Bench.{set_cell, bench_changed}
use Rattle.bench_leaves.proofs.leaf_state.Goals as goal

pub returns-then-src-state_len : goal.returns-then-src-state_len
unfolding bench_changed
returns-then-src-state_len c =
    let args = c.args in
    simp (ne_eqb (length args.src.now) state_len (λ e. c.if-src-state_len.true (e ∙ sym c.state_len.ensures)))

pub returns-then-dst-state_len : goal.returns-then-dst-state_len
unfolding bench_changed
returns-then-dst-state_len c =
    let if1 = c.if-src-state_len in
    let state_len_lem = c.state_len in
    let args = c.args in
    simp (eq-eqb (length args.src.now) state_len (if1.false ∙ state_len_lem.ensures), ne_eqb (length args.dst.now) state_len (λ e. c.if-dst-state_len.true (e ∙ sym c.state_len-2.ensures)))

pub returns-then-k-ge64 : goal.returns-then-k-ge64
unfolding bench_changed
returns-then-k-ge64 c =
    let state-len2 = c.state_len-2 in
    let if1 = c.if-src-state_len in
    let state_len_lem = c.state_len in
    let args = c.args in
    simp (
      eq-eqb (length args.src.now) state_len (if1.false ∙ state_len_lem.ensures),
      eq-eqb (length args.dst.now) state_len (c.if-dst-state_len.false ∙ state-len2.ensures),
      le-leb 64 args.k c.if-k-ge64.true,
    )

pub returns : goal.returns
unfolding bench_changed set_cell
returns c =
    let a = c.args in
    let encode = c.encode in
    let decode = c.decode-st in
    let if2 = c.if-dst-state_len in
    let state-len2 = c.state_len-2 in
    let if1 = c.if-src-state_len in
    let state_len_lem = c.state_len in
    simp (eq-eqb (length a.src.now) state_len (if1.false ∙ state_len_lem.ensures), eq-eqb (length a.dst.now) state_len (if2.false ∙ state-len2.ensures), lt-leb 64 a.k (omega arith))
    (encode.ensures ∙ ap (λ (st : State). state_bytes (set_cell st a.k a.v)) decode.ensures)
