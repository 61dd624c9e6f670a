-- `must_wait`: the aim says whether a stripe fills and a segment opens; each end settles a part: filling, eight, any, any of another group. Assumes nothing.
-- what the aim says
use Prim.Native.Nat.{ℕ}
use Rattle.spec.specs.Lists.{any, is_nil}
use Rattle.spec.specs.Memory.{slot_count, in_flight, has_filling}
use Rattle.spec.specs.Write.{must_open, opens, other_group, must_wait}
use Rattle.call_filling.specs.declared.Aim.{Aim}
use Rattle.mem_rows.specs.Rows.{behind}
use Rattle.law_scans.specs.Scans.{is_nil-length}
use borrow.Author.Tests.{le-leb, lt-leb, not-true, not-false}
use lib.Dec.{leb, eqb}
use lib.ListN.{length}
use mathlib.Core.Bool.{Bool, true, false, not, ◌&&◌, ◌||◌, or-false}
use mathlib.Core.Path.{◌≡◌, sym, ap, ◌∙◌}
use native.Mathlib.Omega.{arith}
use Rattle.call_filling.proofs.must_wait.Goals as goal
use Rattle.call_filling.proofs.must_wait.Lts
use Rattle.call_filling.proofs.must_wait.Reads
use Rattle.call_filling.proofs.must_wait.Tie

abbrev Start : Type 0
Start = Lts.Start Tie.the-claims Reads.Pre Reads.Post Tie.handed_clauses

filling_is : (c : Start) → not c.args.a.begins ≡ true → has_filling c.args.p (behind c.args.f) ≡ true
filling_is c e = not-false (has_filling c.args.p (behind c.args.f)) (ap (λ (x : Aim). x.begins) (sym c.requires.a_value) ∙ not-true c.args.a.begins e)

filling_not : (c : Start) → not c.args.a.begins ≡ false → has_filling c.args.p (behind c.args.f) ≡ false
filling_not c e = not-true (has_filling c.args.p (behind c.args.f)) (ap (λ (x : Aim). x.begins) (sym c.requires.a_value) ∙ not-false c.args.a.begins e)

opens_is : (c : Start) → not c.args.a.begins ≡ false → must_open c.args.p (behind c.args.f) ≡ c.args.a.opens
unfolding opens
opens_is c e = ap (λ (x : Bool). not x && must_open c.args.p (behind c.args.f)) (sym (filling_not c e)) ∙ ap (λ (x : Aim). x.opens) (sym c.requires.a_value)

pub returns-then-not-a : goal.returns-then-not-a
unfolding must_wait slot_count
returns-then-not-a c =
    let a = c.args in
    let st = behind a.f in
    let h = filling_is c.before.before c.if-not-a.true in
    λ j. not (sym h j)
    && (leb 8 (length (in_flight st)) || (must_open a.p st && not (is_nil (in_flight st))) || (not (must_open a.p st) && any (other_group a.p st) (in_flight st)))

pub returns-then-n-ge8 : goal.returns-then-n-ge8
unfolding must_wait slot_count
returns-then-n-ge8 c =
    let start = c.before.before.before.before in
    let a = c.args in
    let st = behind a.f in
    let h = filling_not start c.if-not-a.false in
    let e : leb 8 (length (in_flight st)) ≡ true = le-leb 8 (length (in_flight st)) (omega (arith, c.if-n-ge8.true, c.in_flight-n.ensures)) in
    λ j. not (sym h j) && (sym e j || (must_open a.p st && not (is_nil (in_flight st))) || (not (must_open a.p st) && any (other_group a.p st) (in_flight st)))

pub returns-then-a : goal.returns-then-a
unfolding must_wait slot_count
returns-then-a c =
    let start = c.before.before.before.before.before in
    let in_flight_lem = c.in_flight-n in
    let if1 = c.if-not-a in
    let a = c.args in
    let st = behind a.f in
    let h = filling_not start if1.false in
    let e : leb 8 (length (in_flight st)) ≡ false = lt-leb 8 (length (in_flight st)) (omega (arith, c.if-n-ge8.false, in_flight_lem.ensures)) in
    let m : must_open a.p st ≡ true = opens_is start if1.false ∙ c.if-a.true in
    let n : eqb in_flight_lem.result 0 ≡ is_nil (in_flight st) = ap (λ (x : ℕ). eqb x 0) in_flight_lem.ensures ∙ sym (is_nil-length (in_flight st)) in
    sym (or-false (not (eqb in_flight_lem.result 0)))
    ∙ (λ j. not (sym h j) && (sym e j || (sym m j && not (n j)) || (not (sym m j) && any (other_group a.p st) (in_flight st))))

pub returns : goal.returns
unfolding must_wait slot_count
returns c =
    let start = c.before.before.before.before.before.before in
    let if2 = c.if-n-ge8 in
    let in_flight_lem = c.in_flight-n in
    let if1 = c.if-not-a in
    let a = c.args in
    let st = behind a.f in
    let h = filling_not start if1.false in
    let e : leb 8 (length (in_flight st)) ≡ false = lt-leb 8 (length (in_flight st)) (omega (arith, if2.false, in_flight_lem.ensures)) in
    let m : must_open a.p st ≡ false = opens_is start if1.false ∙ c.if-a.false in
    λ j. not (sym h j) && (sym e j || (sym m j && not (is_nil (in_flight st))) || (not (sym m j) && c.any_elsewhere.ensures j))
