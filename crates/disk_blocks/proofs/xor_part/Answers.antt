-- `xor_part`: the first i bytes from at are exclusive-ored and those ahead are as they came; a piece adds 64 bytes, the last call the rest. Assumes nothing.
use mathlib.Core.Path.{◌≡◌, sym, ap, ◌∙◌}
use mathlib.Core.List.{List}
use Prim.Native.Nat.{ℕ, ◌+◌, ◌-◌}
use native.Mathlib.Omega.{arith}
use native.Mathlib.Nat.{zero-add}
use lib.ListN.{length}
use Rattle.spec.specs.Bytes.{part, splice, xors}
use Rattle.law_basic.specs.Splice.{length_part, part-all, splice-nil}
use Rattle.disk_blocks.specs.Held.{still_ahead, piece_more}
use Rattle.disk_blocks.proofs.xor_part.Goals as goal

pub loop-i-init : goal.loop-i-init
unfolding xors part
loop-i-init c =
    let args = c.args in
    (omega arith, sym (splice-nil args.dst.now args.at))

pub loop-i-preserved : goal.loop-i-preserved
loop-i-preserved c =
    let l = c.loop-i in
    let a = c.args in
    let q = c.xor_piece in
    let d = a.dst.now in
    let m = a.src.now in (
      omega arith,
      q.ensures
          ∙ piece_more d l.dst m a.at 0 l.i 64 l.invariant.1 (omega arith) (part (a.at + l.i) 64 l.dst) (part l.i 64 m) (omega arith)
          (still_ahead d l.dst m a.at 0 l.i 64 l.invariant.1 (omega arith)) (ap (λ (k : ℕ). part k 64 m) (sym (zero-add l.i))),
    )

pub xor_bytes-requires : goal.xor_bytes-requires
unfolding part
xor_bytes-requires c =
    let args = c.args in
    let i = c.loop-i.i in
    let m = args.src.now in
    let n : length (part i (length m - i) m) ≡ length m - i = length_part i (length m - i) m (omega arith) in
    omega arith

pub returns : goal.returns
unfolding part
returns c =
    let l = c.loop-i in
    let a = c.args in
    let d = a.dst.now in
    let m = a.src.now in
    let n = length m - l.i in
    let e : l.i + n ≡ length m = omega arith in
    let s = part l.i n m in
    c.xor_bytes.ensures ∙ ap (λ (k : ℕ). splice l.dst (a.at + l.i) (xors (part (a.at + l.i) k l.dst) s)) (length_part l.i n m (omega arith))
    ∙ piece_more d l.dst m a.at 0 l.i n l.invariant.1 (omega arith) (part (a.at + l.i) n l.dst) s (omega arith)
    (still_ahead d l.dst m a.at 0 l.i n l.invariant.1 (omega arith)) (ap (λ (k : ℕ). part k n m) (sym (zero-add l.i)))
    ∙ ap (λ (k : ℕ). splice d a.at (xors (part a.at k d) (part 0 k m))) e
    ∙ ap (λ (x : List ℕ). splice d a.at (xors (part a.at (length m) d) x)) (part-all (length m) m (omega arith))
