-- `ready`: a drive that has landed gives false; else a data drive asks its position against the filled ones, the parity's the data count. Assumes nothing.
use Prim.Native.Nat.{ℕ}
use Rattle.spec.specs.Landing.{ready}
use Rattle.spec.specs.Layout.{data_position, is_data}
use Rattle.spec.specs.Lists.{is_in}
use Rattle.spec.specs.Memory.{stripe_in, filled_in_of, landed_in, is_full}
use Rattle.spec.specs.Params.{data_count}
use Rattle.call_land_chunk.specs.Alone.{alone}
use lib.Dec.{leb, ltb}
use mathlib.Core.Bool.{Bool, true, false, cond, not, ◌&&◌}
use mathlib.Core.Path.{◌≡◌, sym, ap, ◌∙◌}
use Rattle.call_land_chunk.proofs.ready.Goals as goal

pub returns-then-has_drive : goal.returns-then-has_drive
unfolding ready alone landed_in stripe_in filled_in_of is_full
returns-then-has_drive c =
    let a = c.args in
    let r = a.row in
    let e : true ≡ is_in r.landed a.d = sym c.if-has_drive.true ∙ c.has_drive.ensures in
    ap (λ (x : Bool). not x && cond (is_data a.p r.number a.d) (ltb (data_position a.p r.number a.d) r.filled) (leb (data_count a.p) r.filled)) e

pub returns-then-is_data : goal.returns-then-is_data
unfolding ready alone landed_in stripe_in filled_in_of is_full
returns-then-is_data c =
    let a = c.args in
    let is_data_holds = c.is_data in
    let if1 = c.if-has_drive in
    let has-drive = c.has_drive in
    let r = a.row in
    let s = r.number in
    let e : false ≡ is_in r.landed a.d = sym if1.false ∙ has-drive.ensures in
    let f : true ≡ is_data a.p s a.d = sym c.if-is_data.true ∙ is_data_holds.ensures in
    ap (λ (x : ℕ). ltb x r.filled) c.data_position.ensures.0
    ∙ (λ j. not (e j) && cond (f j) (ltb (data_position a.p s a.d) r.filled) (leb (data_count a.p) r.filled))

pub returns : goal.returns
unfolding ready alone landed_in stripe_in filled_in_of is_full
returns c =
    let a = c.args in
    let is_data_holds = c.is_data in
    let if1 = c.if-has_drive in
    let has-drive = c.has_drive in
    let r = a.row in
    let s = r.number in
    let e : false ≡ is_in r.landed a.d = sym if1.false ∙ has-drive.ensures in
    let f : false ≡ is_data a.p s a.d = sym c.if-is_data.false ∙ is_data_holds.ensures in
    ap (λ (x : ℕ). leb x r.filled) c.data_count.ensures.0
    ∙ (λ j. not (e j) && cond (f j) (ltb (data_position a.p s a.d) r.filled) (leb (data_count a.p) r.filled))
