-- `find_place`: the search from a on finds what the search of all finds; a hit is the lowest, a miss passes on, at n there is none. Assumes nothing.
use Rattle.std.proofs.Common.{◌≡◌, sym, ◌∙◌, arith}
use Rattle.spec.specs.Memory.{place_at_of}
use Rattle.mem_tables.specs.Tables.{find_start, find_hit, find_miss, find_end}
use Rattle.mem_tables.proofs.find_place.Goals as goal

pub loop-a-init : goal.loop-a-init
loop-a-init c = find_start c.args.table.now c.args.n c.args.q.0

pub returns-then-read_be32-wanted : goal.returns-then-read_be32-wanted
unfolding place_at_of
returns-then-read_be32-wanted c =
    let s = c.args in
    let l = c.loop-a in
    sym (find_hit s.table.now s.n s.q.0 l.a c.loop-a-test.true (sym c.read_be32.ensures ∙ c.if-read_be32-wanted.true)) ∙ l.invariant

pub loop-a-preserved : goal.loop-a-preserved
unfolding place_at_of
loop-a-preserved c =
    let s = c.args in
    let l = c.loop-a in
    sym (find_miss s.table.now s.n s.q.0 l.a c.loop-a-test.true (λ e. c.if-read_be32-wanted.false (c.read_be32.ensures ∙ e))) ∙ l.invariant

pub returns : goal.returns
returns c =
    let s = c.args in
    let l = c.loop-a in
    let e : s.n ≡ l.a = omega arith in
    e ∙ sym (find_end s.table.now s.n s.q.0 l.a (omega arith)) ∙ l.invariant
