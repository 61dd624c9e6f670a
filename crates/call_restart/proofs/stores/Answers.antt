-- `stores`: with a drive missing there is no store (`missing_stores`); else the exam says whole and ragged, and `healthy_stores` has the rest. Assumes nothing.
use Prim.Native.Nat.{ℕ}
use Rattle.spec.specs.Drives.{Store, View, Disk, mk_disk}
use Rattle.spec.specs.Restart.{restart_stores}
use Rattle.spec.specs.Segments.{segments}
use Rattle.recover_check.specs.Faults.{Examined}
use Rattle.recover_check.specs.Mends.{whole_is, ragged_is}
use Rattle.recover_segments.specs.Taken.{TakenOfTaken}
use Rattle.disk_gather.specs.Flags.{Keeps, FlagsRows, Serials}
use Rattle.call_restart.specs.Ends.{missing_stores}
use Rattle.law_views.specs.Views.{seen}
use Rattle.disk_zones.specs.Made.{Storing, storing_none}
use mathlib.Core.List.{List}
use mathlib.Core.Path.{sym, ◌∙◌, subst}
use Rattle.std.specs.Prelude.{Ok}
use Rattle.call_restart.proofs.stores.Goals as goal

pub returns-then-gone-ne0 : goal.returns-then-gone-ne0
returns-then-gone-ne0 c =
    let a = c.args in
    let k : Disk = mk_disk a.image.now a.pointers.now in
    let v : View = seen a.p a.offline.now k in
    subst (λ (l : List Store). Storing a.p a.count l k (Ok a.count) k)
    (sym (missing_stores a.p v a.gone (segments a.p v a.gone) c.if-gone-ne0.true)) (storing_none a.p a.count k)

pub healthy_stores-requires : goal.healthy_stores-requires
healthy_stores-requires c =
    let a = c.args in
    let q = c.requires in
    let rag = c.is_ragged-ragged in
    let p = a.p in
    let v : View = seen p a.offline.now (mk_disk a.image.now a.pointers.now) in
    let z = c.if-gone-ne0.false in
    let s = q.examined in
    let x = subst (λ (g : ℕ). Examined p v g (segments p v g) a.e) z s.0 in
    record {
      p_value = q.p_value;
      whole = q.whole;
      keeps = subst (λ (g : ℕ). Keeps p v g a.kept.now × FlagsRows p v g a.rows.now) z q.keeps;
      serials = subst
          (λ (g : ℕ). Serials p v g a.serials.now × TakenOfTaken p v g a.marks.now) z q.serials;
      refit_ready = s.2 z;
      mend_marks = λ g us.
          (sym (whole_is p v (segments p v 0) a.e x s.1 g us), rag.ensures ∙ sym (ragged_is p v (segments p v 0) a.e x s.1 g us));
    }

pub returns : goal.returns
returns c =
    let a = c.args in
    let y = c.healthy_stores in
    let p = a.p in
    let k : Disk = mk_disk a.image.now a.pointers.now in
    let k' : Disk = mk_disk y.new.image y.new.pointers in
    let v : View = seen p a.offline.now k in
    subst (λ (g : ℕ). Storing p a.count (restart_stores p v g (segments p v g)) k y.result k')
    (sym c.if-gone-ne0.false) y.ensures
