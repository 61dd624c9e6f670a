-- `land_fault`: a stripe left incomplete has only the segment's faults (`faults_part`), a completed one also its entries' (`faults_whole`). Assumes nothing.
use Rattle.disk_drives.specs.Viewed.{viewed}
use Prim.Native.Nat.{ℕ}
use Rattle.spec.specs.Drives.{View}
use Rattle.spec.specs.Landing.{entry_faults}
use Rattle.spec.specs.Layout.{Rec}
use Rattle.spec.specs.Lists.{least, flat}
use Rattle.spec.specs.Memory.{entries_in}
use Rattle.call_land_faults.specs.Lowest.{faults_of, faults_part, faults_whole}
use Rattle.call_land_chunk.specs.Alone.{alone}
use borrow.Author.Tests.{not-true, not-false}
use mathlib.Core.Bool.{Bool}
use mathlib.Core.List.{List}
use mathlib.Core.Path.{sym, ap, ◌∙◌}
use Rattle.call_land_faults.proofs.land_fault.Goals as goal

pub segment_fault-z-requires : goal.segment_fault-z-requires
segment_fault-z-requires c =
    let q = c.requires in record { p_value = c.args.drives.now.sound; pointers_len = (c.args.drives.now.whole.pointers_long, q.d_lt_n.0, q.d_lt_n.1, q.d_lt_n.2) }

pub returns-then-not-done : goal.returns-then-not-done
returns-then-not-done c =
    let a = c.args in
    let q = c.requires in
    let v : View = viewed a.drives.now in
    let es : List Rec = entries_in (alone a.row) 0 in
    c.segment_fault-z.ensures.by_index a.drives.now.offline.now a.drives.now.image.now c.args.drives.now.whole.image_long
    ∙ faults_part a.drives.now.p v a.addresses.now es a.d a.zone a.segment a.stripe a.seals
    ∙ ap (λ (x : Bool). least a.drives.now.p.Z (faults_of a.drives.now.p v a.addresses.now es a.d a.zone a.segment a.stripe x a.seals)) (sym (not-true a.done c.if-not-done.true-raw))

pub entries_fault-requires : goal.entries_fault-requires
entries_fault-requires c =
    let q = c.requires in record { addresses_long = q.addresses_long; row_bound = (q.d_lt_n.3, c.segment_fault-z.ensures.upper_bound) }

pub returns : goal.returns
returns c =
    let a = c.args in
    let q = c.requires in
    let v : View = viewed a.drives.now in
    let es : List Rec = entries_in (alone a.row) 0 in
    c.entries_fault.ensures
    ∙ ap (λ (x : ℕ). least x (flat (entry_faults a.drives.now.p v a.addresses.now) es))
    (c.segment_fault-z.ensures.by_index a.drives.now.offline.now a.drives.now.image.now c.args.drives.now.whole.image_long)
    ∙ faults_whole a.drives.now.p v a.addresses.now es a.d a.zone a.segment a.stripe a.seals
    ∙ ap (λ (x : Bool). least a.drives.now.p.Z (faults_of a.drives.now.p v a.addresses.now es a.d a.zone a.segment a.stripe x a.seals)) (sym (not-false a.done c.if-not-done.false-raw))
