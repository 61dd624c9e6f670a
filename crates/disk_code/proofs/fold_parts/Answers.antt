-- `fold_parts`: the block is the exclusive or of the first k parts, at first zeros; a turn adds the next (`blocks_more`). Assumes nothing.
use mathlib.Core.Path.{◌≡◌, sym, ap, ◌∙◌}
use mathlib.Core.Bool.{cond}
use mathlib.Core.List.{List}
use Prim.Native.Nat.{ℕ}
use native.Mathlib.Omega.{arith}
use lib.ListN.{get_or, replicate}
use Rattle.spec.specs.Bytes.{part, xors, parity}
use Rattle.spec.specs.Lists.{is_in}
use Rattle.disk_code.specs.Folds.{kept, parts_of, blocks_none, blocks_more, parts_long}
use Rattle.disk_code.proofs.fold_parts.Goals as goal

pub loop-k-init : goal.loop-k-init
loop-k-init c =
    let a = c.args in
    let clear = c.clear in
    let long = c.requires.n_in_bounds.1 in (
      omega arith,
      clear.auto.dst ∙ long,
      clear.ensures ∙ ap (λ (m : ℕ). replicate m 0) long ∙ sym (blocks_none a.b (λ i. part (get_or a.at.now i 0) a.b a.src.now) a.out),
    )

pub add_part-requires : goal.add_part-requires
add_part-requires c =
    let pre = c.requires in
    let l = c.loop-k in record { k_in_bounds = omega (arith, c.loop-k-test.true, pre.n_in_bounds.0); block_in_bounds = λ e. omega (arith, l.invariant.1, pre.parts_within l.k c.loop-k-test.true e) }

pub loop-k-preserved : goal.loop-k-preserved
loop-k-preserved c =
    let a = c.args in
    let pre = c.requires in
    let l = c.loop-k in
    let add = c.add_part in
    let n = a.b in
    let f : ℕ → List ℕ = λ i. part (get_or a.at.now i 0) n a.src.now in (
      omega (arith, c.loop-k-test.true),
      add.auto.block ∙ l.invariant.1,
      add.ensures
          ∙ ap (λ (m : ℕ). cond (is_in a.out l.k) l.block (xors l.block (part (get_or a.at.now l.k 0) m a.src.now))) l.invariant.1
          ∙ ap (λ (x : List ℕ). cond (is_in a.out l.k) x (xors x (f l.k))) l.invariant.2
          ∙ sym (blocks_more n f a.out l.k
          (λ i h e. parts_long a.src.now a.at.now n a.out a.n pre.parts_within i (omega (arith, h, c.loop-k-test.true)) e)),
    )

pub shape_of-block : goal.shape_of-block
shape_of-block c = c.loop-k.invariant.1 ∙ sym c.requires.n_in_bounds.1

pub returns : goal.returns
returns c =
    let a = c.args in
    let l = c.loop-k in
    let e : l.k ≡ a.n = omega (arith, c.loop-k-test.false, l.invariant.0) in
    l.invariant.2 ∙ ap (λ (x : ℕ). parity a.b (parts_of a.src.now a.at.now a.b (kept a.out x))) e
