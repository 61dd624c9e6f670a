-- `put_places`: putting positions k on into the table so far gives what putting all gives; a turn puts k (`put_one`) or not (`put_none`). Assumes nothing.
use Rattle.call_land_chunk.specs.Alone.{alone}
use Prim.Native.Nat.{ℕ, ◌+◌, ◌-◌, ◌<◌}
use Rattle.spec.specs.Layout.{Rec}
use Rattle.spec.specs.Lists.{up_from, below}
use Rattle.spec.specs.Memory.{entry_in_of, set_place}
use Rattle.spec.specs.Params.{addresses_len}
use Rattle.law_basic.specs.Geometry.{ranged, data_count_high}
use Rattle.law_basic.specs.Ranges.{below-start}
use Rattle.call_land_table.specs.Winners.{put_winners, put_one, put_none, put_end}
use lib.ListN.{length, get_or}
use mathlib.Core.List.{List}
use mathlib.Core.Path.{◌≡◌, refl, sym, ap, ◌∙◌}
use native.Mathlib.Omega.{arith}
use Rattle.call_land_table.proofs.put_places.Goals as goal
use Rattle.call_land_table.proofs.put_places.Goals.{else-a-p, then-a-p}
use Rattle.call_land_table.proofs.put_places.Goals.{In-loop-k}

pub loop-k-init : goal.loop-k-init
loop-k-init c =
    let a = c.args in
    let e = c.filled_in-n.ensures in
    (e, omega arith, refl, ap (λ (x : List ℕ). put_winners a.p (alone a.row) 0 a.places x a.addresses.now) (sym (below-start c.filled_in-n.result) ∙ ap below e))

-- a filled position
low : (c : In-loop-k) → c.loop-k.k < 8
low c =
    let filled_in = c.filled_in-n in
    let args = c.args in
    let pre = c.requires in
    let p = args.p in
    omega (arith, c.loop-k-test.true, filled_in.ensures, pre.addresses_len.1, data_count_high p (ranged p pre.p_value))

pub entry-e-requires : goal.entry-e-requires
entry-e-requires c = low (goal.at.entry-e-requires c).In-loop-k

pub offset_bounds-places-k : goal.offset_bounds-places-k
offset_bounds-places-k c = omega (arith, low (goal.at.offset_bounds-places-k c).In-loop-k)

pub bounds-places-k : goal.bounds-places-k
bounds-places-k c = omega (arith, low (goal.at.bounds-places-k c).In-loop-k)

pub set_place-requires : goal.set_place-requires
unfolding addresses_len
set_place-requires c =
    let loop = c.loop-k in
    let pre = c.requires in
    omega (arith, c.if-a-p.true, loop.invariant.2, pre.addresses_len.0)

pub loop-k-preserved : goal.loop-k-preserved
loop-k-preserved c =
    let a = c.args in
    let loop-test = c.loop-k-test in
    let l = c.loop-k in
    let filled_in = c.filled_in-n in
    let p = a.p in
    let st = alone a.row in
    let i : ℕ = 0 in
    let n = filled_in.result in
    let k = l.k in
    let qs = a.places in
    let e : c.entry-e.result.address.0 ≡ (entry_in_of st i k).address = ap (λ (r : Rec). r.address) c.entry-e.ensures in
    let t : List ℕ = up_from (k + 1) (n - (k + 1)) in
    let f : put_winners p st i qs t c.if-a-p.addresses ≡ put_winners p st i qs (up_from k (n - k)) l.addresses =
    elim c.if-a-p.branch [
      | then-a-p w ↦ ap (put_winners p st i qs t) (w.addresses-is ∙ w.set_place.ensures ∙ ap (λ (x : ℕ). set_place l.addresses x (get_or qs k 0)) e)
          ∙ put_one p st i qs k n l.addresses (omega (arith, loop-test.true)) (omega (arith, w.if-a-p.true, e))
      | else-a-p w ↦ ap (put_winners p st i qs t) w.addresses-is ∙ put_none p st i qs k n l.addresses (omega (arith, loop-test.true)) (omega (arith, w.if-a-p.false, e))
    ] in
    let g : length c.if-a-p.addresses ≡ length l.addresses = elim c.if-a-p.branch [ then-a-p w ↦ ap length w.addresses-is ∙ w.set_place.auto.table | else-a-p w ↦ ap length w.addresses-is ] in
    (l.invariant.0, omega (arith, loop-test.true), g ∙ l.invariant.2, f ∙ l.invariant.3)

pub shape_of-addresses : goal.shape_of-addresses
shape_of-addresses c = c.loop-k.invariant.2

pub returns : goal.returns
returns c =
    let a = c.args in
    let l = c.loop-k in
    sym (put_end a.p (alone a.row) 0 a.places l.k c.filled_in-n.result l.addresses (omega (arith, c.loop-k-test.false))) ∙ l.invariant.3
