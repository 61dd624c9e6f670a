-- `xor_bytes`: after i turns the first i bytes from at are those of dst and src exclusive-ored; byte at + i is still as it came. Assumes nothing.
use mathlib.Core.Path.{◌≡◌, sym, ap, ◌∙◌}
use mathlib.Core.List.{List}
use Prim.Native.Nat.{ℕ, ◌+◌}
use native.Mathlib.Omega.{arith}
use lib.Seq.{take-length}
use lib.ListN.{length, get_or, take, set}
use lib.Bits.{bit_xor}
use Rattle.spec.specs.Bytes.{part, splice, xors}
use Rattle.law_basic.specs.Splice.{splice-nil}
use Rattle.law_basic.specs.Turns.{still_here, turn, xors-more, length-xors-part}
use Rattle.disk_blocks.proofs.xor_bytes.Goals as goal

pub loop-i-init : goal.loop-i-init
unfolding xors part
loop-i-init c = sym (splice-nil c.args.dst.now c.args.at)

pub loop-i-preserved : goal.loop-i-preserved
loop-i-preserved c =
    let l = c.loop-i in
    let a = c.args in
    let d = a.dst.now in
    let m = a.src.now in
    let s = xors (part a.at l.i d) (take l.i m) in
    let n : length s ≡ l.i = length-xors-part d (take l.i m) a.at l.i (omega arith) in
    let q : get_or l.dst (a.at + l.i) 0 ≡ get_or d (a.at + l.i) 0 = still_here d l.dst a.at l.i s l.invariant n (omega arith) in
    ap (λ (x : ℕ). set l.dst (a.at + l.i) (bit_xor x (get_or m l.i 0))) q
    ∙ turn d l.dst a.at l.i s l.invariant n (bit_xor (get_or d (a.at + l.i) 0) (get_or m l.i 0))
    (xors (part a.at (l.i + 1) d) (take (l.i + 1) m)) (omega arith) (xors-more d m a.at l.i (omega arith) (omega arith))

pub returns : goal.returns
returns c =
    let a = c.args in
    let e : c.loop-i.i ≡ length a.src.now = omega arith in
    c.loop-i.invariant ∙ ap (λ (x : ℕ). splice a.dst.now a.at (xors (part a.at x a.dst.now) (take x a.src.now))) e
    ∙ ap (λ (x : List ℕ). splice a.dst.now a.at (xors (part a.at (length a.src.now) a.dst.now) x)) (take-length a.src.now)
