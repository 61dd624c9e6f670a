-- `xor_piece`: the array holds i exclusive-ored bytes; at the end it holds 64, which replace those in dst. Assumes nothing.
use Rattle.std.proofs.Common.{refl, sym, ap, ◌∙◌, ℕ, ◌+◌, arith, get_or, length, take_all, ◌≡◌, length-set}
use Rattle.std.specs.Int.Bits.{bit_xor}
use Rattle.spec.specs.Bytes.{part, splice, xors}
use Rattle.law_basic.specs.Xor.{xors-part-suc}
use Rattle.law_basic.specs.Splice.{splice_lent}
use Rattle.disk_blocks.specs.Held.{held_more}
use Rattle.disk_blocks.proofs.xor_piece.Goals as goal

pub loop-i-init : goal.loop-i-init
unfolding xors part
loop-i-init c = (refl, refl)

pub loop-i-preserved : goal.loop-i-preserved
loop-i-preserved c =
    let l = c.loop-i in
    let a = c.args in
    let long = l.invariant.0 in (
      simp length-set long,
      held_more l.held (xors (part a.at l.i a.dst.now) (part a.from l.i a.src.now))
          (xors (part a.at (l.i + 1) a.dst.now) (part a.from (l.i + 1) a.src.now)) l.i
          (bit_xor (get_or a.dst.now (a.at + l.i) 0) (get_or a.src.now (a.from + l.i) 0)) (omega arith) l.invariant.1
          (xors-part-suc a.dst.now a.src.now a.at a.from l.i (omega arith) (omega arith)),
    )

pub returns : goal.returns
returns c =
    let h = c.loop-i in
    let a = c.args in
    let n : h.i ≡ 64 = omega arith in
    let e = c.copy_from_slice.ensures.after in
    splice_lent a.at 64 a.dst.now _ (ap length e ∙ h.invariant.0)
    ∙ ap (splice a.dst.now a.at) (e ∙ sym (take_all h.i h.held (omega arith)) ∙ h.invariant.1 ∙ ap (λ (k : ℕ). xors (part a.at k a.dst.now) (part a.from k a.src.now)) n)
