-- `winners`: the first k places are the winners of addresses below L; a turn sets the next one (`set_winner`) or leaves one not below L. Assumes nothing.
use Rattle.disk_drives.specs.Viewed.{viewed}
use Rattle.call_land_chunk.specs.Alone.{alone}
use Prim.Native.Nat.{ℕ, ◌+◌, ◌<◌}
use Rattle.spec.specs.Drives.{View, view_of}
use Rattle.spec.specs.Landing.{landed_cands}
use Rattle.spec.specs.Layout.{Rec}
use Rattle.spec.specs.Memory.{entry_in_of, place_at_of}
use Rattle.law_basic.specs.Geometry.{ranged, data_count_high}
use Rattle.call_land_table.specs.Winners.{Sane, winner_of, set_winner, keep_winner}
use lib.ListN.{length, get_or, length-set}
use mathlib.Core.List.{List}
use mathlib.Core.Path.{◌≡◌, refl, sym, ap, ◌∙◌, subst}
use native.Mathlib.Omega.{arith}
use Rattle.call_land_table.proofs.winners.Goals as goal
use Rattle.call_land_table.proofs.winners.Goals.{else-address-drives, then-address-drives}
use Rattle.call_land_table.proofs.winners.Goals.{In-loop-k}

pub loop-k-init : goal.loop-k-init
loop-k-init c = (c.filled_in-n.ensures, omega arith, refl, λ h l. absurd (let q : ⊥ = omega arith in q))

-- a filled position
low : (c : In-loop-k) → c.loop-k.k < 8
low c =
    let filled_in = c.filled_in-n in
    let args = c.args in
    let pre = c.requires in
    let p = args.drives.now.p in
    omega (arith, c.loop-k-test.true, filled_in.ensures, pre.zones_low.1, data_count_high p (ranged p c.args.drives.now.sound))

pub entry-e-requires : goal.entry-e-requires
entry-e-requires c = low (goal.at.entry-e-requires c).In-loop-k

pub winner-q-requires : goal.winner-q-requires
winner-q-requires c =
    let a = c.args in
    let q = c.requires in
    let entry = c.entry-e in
    let loop-test = c.loop-k-test in
    let loop = c.loop-k in
    let filled_in = c.filled_in-n in
    let k = loop.k in
    let e : entry.result.address.0 ≡ (entry_in_of (alone a.row) 0 k).address = ap (λ (r : Rec). r.address) entry.ensures in
    let s = q.addresses_len.1 k (omega (arith, loop-test.true, filled_in.ensures)) (omega (arith, c.if-address-drives.true, e)) in
    let v : View = viewed a.drives.now in
    record {
      addresses_len = (
        q.addresses_len.0,
        omega (arith, c.if-address-drives.true),
        subst (λ (x : ℕ). Sane a.drives.now.p v (place_at_of a.addresses.now x))
            (sym e) s,
      );
      zones_low = q.zones_low;
      serial_value = q.serial_value;
    }

pub offset_bounds-out-k : goal.offset_bounds-out-k
offset_bounds-out-k c =
    omega (arith, low (goal.at.offset_bounds-out-k c).In-loop-k)

pub bounds-out-k : goal.bounds-out-k
bounds-out-k c =
    omega (arith, low (goal.at.bounds-out-k c).In-loop-k)

pub loop-k-preserved : goal.loop-k-preserved
loop-k-preserved c =
    let a = c.args in
    let entry = c.entry-e in
    let loop-test = c.loop-k-test in
    let l = c.loop-k in
    let p = a.drives.now.p in
    let st = alone a.row in
    let i : ℕ = 0 in
    let k = l.k in
    let v : View = view_of p a.drives.now.offline.now a.drives.now.image.now a.drives.now.pointers.now in
    let f : ℕ → ℕ = winner_of p v a.addresses.now (landed_cands p v a.segment st i) in
    let m : k < 8 = low (goal.at.loop-k-preserved c).In-loop-k in
    let e : entry.result.address.0 ≡ (entry_in_of st i k).address = ap (λ (r : Rec). r.address) entry.ensures in
    let g : length c.if-address-drives.out ≡ 8 = elim c.if-address-drives.branch
    [ then-address-drives w ↦ ap length w.out-is ∙ length-set l.out k w.winner-q.result.0 ∙ l.invariant.2 | else-address-drives w ↦ ap length w.out-is ∙ l.invariant.2 ] in
    let T : List ℕ → Type 0 = λ x. (h : ℕ) → h < k + 1 → (entry_in_of st i h).address < p.L → get_or x h 0 ≡ f (entry_in_of st i h).address in
    let b : T c.if-address-drives.out =
    elim c.if-address-drives.branch [
      | then-address-drives w ↦ subst T (sym w.out-is)
          (set_winner p st i f l.out k l.invariant.3 w.winner-q.result.0 (omega (arith, m, l.invariant.2)) (w.winner-q.ensures ∙ ap f e))
      | else-address-drives w ↦ subst T
          (sym w.out-is) (keep_winner p st i f l.out k l.invariant.3 (omega (arith, w.if-address-drives.false, e)))
    ] in
    (l.invariant.0, omega (arith, loop-test.true), g, b)

pub returns : goal.returns
returns c k h = c.loop-k.invariant.3 k (omega (arith, c.loop-k-test.false, c.filled_in-n.ensures))
