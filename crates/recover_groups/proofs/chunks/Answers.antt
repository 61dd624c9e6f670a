-- `chunks`: n and the number of drives with the chunk from d on are that of all; a drive that has it adds 1 to n, and n is at most d. Assumes nothing.
use mathlib.Core.Path.{◌≡◌, sym, ap, ◌∙◌}
use Prim.Native.Nat.{ℕ, ◌+◌, ◌-◌, ◌≤◌, ◌<◌}
use native.Mathlib.Omega.{arith}
use lib.ListN.{length}
use Rattle.spec.specs.Lists.{up_from, below, keep}
use Rattle.spec.specs.Params.{drives_of}
use Rattle.spec.specs.Segments.{Segment, has_chunk}
use Rattle.law_basic.specs.Geometry.{ranged}
use Rattle.law_scans.specs.Scans.{kept-one, kept_none, kept-ended, kept-start}
use Rattle.recover_groups.specs.Groups.{group_len, Indexed}
use Rattle.recover_groups.proofs.chunks.Goals as goal
use Rattle.recover_groups.proofs.chunks.Goals.{else-has_chunk, then-has_chunk}

pub loop-d-init : goal.loop-d-init
loop-d-init c =
    let a = c.args in
    let p = a.p in
    (omega arith, omega arith, λ g base x hk. kept-start (has_chunk g (base + a.k)) p.N)

pub has_chunk-requires : goal.has_chunk-requires
has_chunk-requires c =
    let args = c.args in
    let pre = c.requires in
    (pre.at_len.0, omega (arith, c.loop-d-test.true, (ranged args.p pre.p_value).drives_high), pre.at_len.1)

pub loop-d-preserved : goal.loop-d-preserved
loop-d-preserved c =
    let a = c.args in
    let if1 = c.loop-d-test in
    let loop = c.loop-d in
    let p = a.p in
    let b : (loop.d + 1 ≤ p.N)
    × (c.if-has_chunk.n ≤ loop.d + 1)
    × ((g : Segment) (base : ℕ)
    → Indexed p g base a.at.now
    → a.k < group_len p base
    → c.if-has_chunk.n + length (keep (has_chunk g (base + a.k)) (up_from (loop.d + 1) (p.N - (loop.d + 1)))) ≡ length
    (keep (has_chunk g (base + a.k)) (below p.N))) =
    elim c.if-has_chunk.branch [
      | then-has_chunk w ↦ (
        omega (arith, if1.true),
        omega (arith, w.n-is),
        λ g base x hk. ap
            (λ (y : ℕ). y + length (keep (has_chunk g (base + a.k)) (up_from (loop.d + 1) (p.N - (loop.d + 1))))) w.n-is
            ∙ sym (kept-one (has_chunk g (base + a.k)) loop.d p.N loop.n if1.true
            (sym (c.has_chunk.ensures.value_2 p g base x if1.true hk) ∙ w.if-has_chunk.true))
            ∙ loop.invariant.2 g base x hk,
      )
      | else-has_chunk w ↦ (
        omega (arith, if1.true),
        omega (arith, w.n-is),
        λ g base x hk. ap
            (λ (y : ℕ). y + length (keep (has_chunk g (base + a.k)) (up_from (loop.d + 1) (p.N - (loop.d + 1))))) w.n-is
            ∙ sym (kept_none (has_chunk g (base + a.k)) loop.d p.N loop.n if1.true
            (sym (c.has_chunk.ensures.value_2 p g base x if1.true hk) ∙ w.if-has_chunk.false))
            ∙ loop.invariant.2 g base x hk,
      )
    ] in
    b

pub returns : goal.returns
unfolding drives_of
returns c =
    let a = c.args in
    let loop = c.loop-d in
    let p = a.p in record {
      upper_bound = omega (arith, loop.invariant.1, loop.invariant.0);
      value = λ g base x hk. sym
          (kept-ended (has_chunk g (base + a.k)) loop.d p.N loop.n (omega (arith, c.loop-d-test.false))) ∙ loop.invariant.2 g base x hk;
    }
