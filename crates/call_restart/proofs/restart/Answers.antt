-- `restart`: a failed check is `restart_refused`; passed, they give what `recover` asks (`restart_front_passed`), which is the call (`restart_recovers`). Assumes nothing.
use Prim.Native.Nat.{ℕ}
use Rattle.mem_calls.specs.Left.{checked}
use Rattle.spec.specs.Drives.{Disk, View, mk_disk}
use Rattle.spec.specs.Engine.{lent_ok_of}
use Rattle.spec.specs.Faults.{pointer_faults}
use Rattle.spec.specs.Lists.Opt.{some}
use Rattle.spec.specs.Memory.{Memory, mk_memory}
use Rattle.spec.specs.Params.{named}
use Rattle.spec.specs.Segments.{segments}
use Rattle.call_restart.specs.Ends.{recovered, restart_refused, restart_recovers}
use Rattle.call_restart.specs.Order.{restart_front_passed, names_here}
use Rattle.law_drives.specs.Lengths.{lengths_of, whole_of}
use Rattle.law_drives.specs.Segs.{Here}
use Rattle.law_views.specs.Views.{seen}
use mathlib.Core.List.{[]}
use mathlib.Core.Path.{◌≡◌, sym, ap, ◌∙◌, subst}
use Rattle.law_drives.specs.Masks.{only-named}
use Rattle.call_restart.proofs.restart.Goals as goal

pub returns-in-Err : goal.returns-in-Err
returns-in-Err c =
    restart_refused _ _ _ _ c.args.missing c.args.count c.from.result (sym (c.checks.ensures c.args.state) ∙ ap checked c.in-Err.is ∙ ap some (sym c.from.ensures))

pub recover-requires : goal.recover-requires
recover-requires c =
    let a = c.args in
    let p = a.p in
    let k : Disk = mk_disk a.image.now a.pointers.now in
    let m : Memory = mk_memory a.state a.addresses.now a.compact.now a.inflight.now in
    let v : View = seen p a.offline.now k in
    let f = restart_front_passed p (lent_ok_of p a.offline.now k m) v a.missing (segments p v (named a.missing))
    (sym (c.in_default.ensures a.state)) in
    let l = lengths_of p a.offline.now k m f.lent in
    let g = c.only_drive-gone.ensures ∙ only-named a.missing in
    record {
      p_value = f.in_range_holds;
      whole =
          (whole_of p a.offline.now k m f.lent, l.offline_ok, subst (λ (y : ℕ). Here p y) (sym g) (names_here p a.missing f.in_range_holds f.names));
      gone_value = subst
          (λ (y : ℕ). pointer_faults p v y ≡ []) (sym g) f.pointers_ok;
      addresses_len = (l.addresses_ok, l.compact_ok);
    }

pub returns : goal.returns
returns c =
    let a = c.args in
    let p = a.p in
    let k : Disk = mk_disk a.image.now a.pointers.now in
    let m : Memory = mk_memory a.state a.addresses.now a.compact.now a.inflight.now in
    let v : View = seen p a.offline.now k in
    let f = restart_front_passed p (lent_ok_of p a.offline.now k m) v a.missing (segments p v (named a.missing))
    (sym (c.in_default.ensures a.state)) in
    c.recover.ensures a.inflight.now
    ∙ ap (λ (g : ℕ). recovered p a.offline.now k m g a.count)
    (c.only_drive-gone.ensures ∙ only-named a.missing)
    ∙ restart_recovers p a.offline.now k m a.missing a.count f
