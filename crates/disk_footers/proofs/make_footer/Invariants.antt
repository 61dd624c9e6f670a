-- `make_footer`: after j turns the block holds the first j records of footer i, zeros behind them, and at is the spare of record j;
-- one turn appends that spare; blocks lie one unit apart. At n the block is the footer. Assumes nothing.
use mathlib.Core.Path.{◌≡◌}
use Prim.Native.Nat.{◌+◌, ◌*◌, ◌≤◌}
use lib.ListN.{length, replicate}
use Rattle.spec.specs.Bytes.{splice}
use Rattle.spec.specs.Params.{per_footer, place_of, place_byte}
use Rattle.disk_footers.specs.Feet.{spares_by, records_of}
use Rattle.disk_footers.proofs.make_footer.Given as goal

abbrev pub invariant-loop-j : goal.invariant-loop-j
invariant-loop-j l =
    (l.j ≤ l.n)
    × (length l.block ≡ length l.initial.block)
    × (l.at ≡ place_byte l.p (place_of l.p l.drive l.zone (1 + l.i * per_footer l.p + l.j)) + l.p.B)
    × (l.block ≡ splice (replicate l.p.B 0) 0 (records_of l.p (spares_by l.p l.image l.drive l.zone) l.i l.j))
