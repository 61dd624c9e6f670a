-- `examined`: what is gathered is what the examination asks for; a bad zone is a refusal (`ends_rebuild_refused`), else the stores are made (`restore`). Assumes nothing.
-- image and pointers, and the rest
use mathlib.Core.Path.{◌≡◌, sym, ◌∙◌, subst}
use mathlib.Core.List.{[]}
use Prim.Native.Nat.{ℕ}
use native.Mathlib.Omega.{arith}
use Rattle.spec.specs.declared.Answer.TheVariants.{BadZone}
use Rattle.spec.specs.Drives.{Disk, mk_disk}
use Rattle.spec.specs.Memory.{Memory, mk_memory}
use Rattle.spec.specs.Params.{named}
use Rattle.spec.specs.Segments.{segments}
use Rattle.law_basic.specs.Geometry.{ranged}
use Rattle.law_drives.specs.Accept.{named_here}
use Rattle.law_drives.specs.Lengths.{whole_of, lengths_of}
use Rattle.law_drives.specs.Segs.{Here}
use Rattle.law_views.specs.Views.{seen}
use Rattle.recover_check.specs.Faults.{Examined}
use Rattle.recover_check.specs.Mends.{no_faults, names_zone_lem, zone_le}
use Rattle.call_rebuild.specs.Ends.{ends_rebuild_refused, EndsGathered}
use Rattle.call_rebuild.specs.Order.{RebuildReady, rebuild_ready, rebuild_front_passed}
use Rattle.law_drives.specs.Masks.{only-named}
use Rattle.call_rebuild.proofs.examined.Goals as goal
use Rattle.call_rebuild.proofs.examined.Goals.{Start, After-examine-e}

abbrev disk_in : Start → Disk
disk_in s = mk_disk s.args.image.now s.args.pointers.now

abbrev memory_in : Start → Memory
memory_in s = mk_memory s.args.state s.args.addresses.now s.args.compact.now s.args.inflight.now

ready : (s : Start) → RebuildReady s.args.p s.args.offline.now (disk_in s) (memory_in s) s.args.drive
ready s = rebuild_ready s.args.p s.args.offline.now (disk_in s) (memory_in s) s.args.drive s.requires

-- some drive is present
some_here : (s : Start) (gone : ℕ) → gone ≡ named s.args.drive → Here s.args.p gone
some_here s gone e = subst (Here s.args.p) (sym e) (named_here s.args.p (ranged s.args.p (ready s).in_range_holds) s.args.drive (ready s).drive_low)

pub invariant_of-drives : goal.invariant_of-drives
invariant_of-drives c =
    let s = (goal.at.invariant_of-drives c).Start in
    let rd = ready s in record {
      sound = rd.in_range_holds;
      whole = whole_of c.args.p c.args.offline.now (disk_in s) (memory_in s) rd.lent;
      listed = (lengths_of c.args.p c.args.offline.now (disk_in s) (memory_in s) rd.lent).offline_ok;
    }

pub gather-requires : goal.gather-requires
gather-requires c =
    let s = (goal.at.gather-requires c).Start in
    let z = (ranged c.args.p (ready s).in_range_holds).zones_high in record {
      here = some_here s c.only_drive-gone.result (c.only_drive-gone.ensures ∙ only-named c.args.drive);
      z_in_bounds = (omega (arith, z), z, z, z);
    }

pub examine-e-requires : goal.examine-e-requires
examine-e-requires c =
    let g = c.gather.ensures in record {
      here = some_here (goal.at.examine-e-requires c).Start c.only_drive-gone.result (c.only_drive-gone.ensures ∙ only-named c.args.drive);
      keeps = (g.keeps, g.serials, g.flags_rows);
    }

-- what the examination says, of the named drive
said :
    (c : After-examine-e) → let a = c.args in
    let v = seen a.p a.offline.now (mk_disk a.image.now a.pointers.now) in Examined a.p v (named a.drive) (segments a.p v (named a.drive)) c.examine-e.result
said c =
    let a = c.args in
    let v = seen a.p a.offline.now (mk_disk a.image.now a.pointers.now) in
    subst (λ (g : ℕ). Examined a.p v g (segments a.p v g) c.examine-e.result) (c.only_drive-gone.ensures ∙ only-named a.drive) c.examine-e.ensures

pub returns-then-e-p : goal.returns-then-e-p
returns-then-e-p c =
    let g = goal.at.returns-then-e-p c in
    let a = c.args in
    let k = disk_in g.Start in
    let x = c.examine-e.result in
    ends_rebuild_refused a.p a.offline.now k (memory_in g.Start) a.drive a.count (BadZone x.zone)
    (rebuild_front_passed a.p a.offline.now k (memory_in g.Start) a.drive c.requires
    ∙ names_zone_lem a.p (seen a.p a.offline.now k) (named a.drive) x [] (said g.After-examine-e) c.if-e-p.true)

pub restore-requires : goal.restore-requires
restore-requires c =
    let g = goal.at.restore-requires c in
    let a = c.args in
    let v = seen a.p a.offline.now (disk_in g.Start) in
    let x = c.examine-e.result in
    let l = c.gather in
    let ex = said g.After-examine-e in
    let z : x.zone ≡ a.p.Z = omega (arith, c.if-e-p.false, zone_le a.p v (named a.drive) x ex) in record {
      drive_value = c.requires;
      drive_value_2 = no_faults a.p v (named a.drive) x ex z;
      ends_gathered = subst
          (λ (y : ℕ). EndsGathered a.p v y l.new.kept l.new.serials l.new.rows) (c.only_drive-gone.ensures ∙ only-named a.drive)
          (l.ensures.keeps, l.ensures.serials, l.ensures.flags_rows);
    }
