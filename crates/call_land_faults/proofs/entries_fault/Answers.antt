-- `entries_fault`: the lowest of worst and the faults of entries k on is the answer; a turn takes entry k's if it is lower (`faults_next`). Assumes nothing.
use Rattle.disk_drives.specs.Viewed.{viewed}
use Prim.Native.Nat.{ℕ}
use Rattle.spec.specs.Drives.{View}
use Rattle.spec.specs.Landing.{entry_faults}
use Rattle.spec.specs.Layout.{Rec}
use Rattle.spec.specs.Lists.{below, least, flat}
use Rattle.spec.specs.Memory.{entry_in_of}
use Rattle.mem_lookup.specs.Places.{one_fault}
use Rattle.call_land_faults.specs.Lowest.{faults_first, faults_next, faults_end, entries_by}
use Rattle.call_land_chunk.specs.Alone.{alone}
use mathlib.Core.List.{List}
use mathlib.Core.Path.{◌≡◌, sym, ap, ◌∙◌}
use native.Mathlib.Omega.{arith}
use Rattle.call_land_faults.proofs.entries_fault.Goals as goal

pub loop-k-init : goal.loop-k-init
loop-k-init c =
    let a = c.args in
    let v : View = viewed a.drives.now in
    (c.filled_in-n.ensures, faults_first (λ x. entry_faults a.drives.now.p v a.addresses.now (entry_in_of (alone a.row) 0 x)) a.zone c.filled_in-n.result)

pub entry-e-requires : goal.entry-e-requires
entry-e-requires c =
    let pre = c.requires in
    omega (arith, c.loop-k-test.true, c.filled_in-n.ensures, pre.row_bound.0)

pub entry_fault-z-requires : goal.entry_fault-z-requires
entry_fault-z-requires c =
    let q = c.requires in record { addresses_long = q.addresses_long }

pub loop-k-preserved : goal.loop-k-preserved
loop-k-preserved c =
    let a = c.args in
    let l = c.loop-k in
    let v : View = viewed a.drives.now in
    let f : ℕ → List ℕ = λ x. entry_faults a.drives.now.p v a.addresses.now (entry_in_of (alone a.row) 0 x) in
    let z = one_fault c.entry_fault-z.result in
    let e : f l.k ≡ z = c.entry_fault-z.ensures (entry_in_of (alone a.row) 0 l.k) (sym (ap (λ (r : Rec). r.address) c.entry-e.ensures)) in
    (l.invariant.0, faults_next f l.worst c.lowest-worst.result l.k c.filled_in-n.result z (omega (arith, c.loop-k-test.true)) e c.lowest-worst.ensures ∙ l.invariant.1)

pub returns : goal.returns
returns c =
    let a = c.args in
    let l = c.loop-k in
    let n = c.filled_in-n.result in
    let v : View = viewed a.drives.now in
    let f : ℕ → List ℕ = λ x. entry_faults a.drives.now.p v a.addresses.now (entry_in_of (alone a.row) 0 x) in
    sym (faults_end f l.worst l.k n (omega (arith, c.loop-k-test.false)))
    ∙ l.invariant.1 ∙ ap (λ (x : ℕ). least a.zone (flat f (below x))) c.filled_in-n.ensures
    ∙ ap (least a.zone) (entries_by a.drives.now.p v a.addresses.now (alone a.row) 0)
