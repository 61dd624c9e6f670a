-- `seek_found`: nowhere is never written, here and away what `seek_here` and `seek_away` give. Assumes nothing.
use Rattle.disk_drives.specs.Viewed.{viewed}
use Rattle.mem_lookup.specs.Lies.{found_of}
use Rattle.mem_lookup.specs.declared.Found.{Found}
use Rattle.call_read.specs.Placed.{Sorted}
use Rattle.call_read.specs.Sought.{SeeksAll, seeks_nowhere}
use Rattle.call_read.specs.declared.Sought.TheVariants.{Never}
use Rattle.std.specs.Prelude.{Ok}
use mathlib.Core.Path.{sym, subst}
use Rattle.call_read.proofs.seek_found.Goals as goal

pub seek_here-requires : goal.seek_here-requires
seek_here-requires c =
    let q = c.requires in record { here = q.here; q_value = subst (λ (x : Found). Sorted c.args.drives.now.p c.args.gone (found_of x)) c.in-Here.is q.compact_len.2 }

pub seek_away-requires : goal.seek_away-requires
seek_away-requires c =
    let q = c.requires in record { here = q.here; compact_len = (q.compact_len.0, q.compact_len.1) }

pub returns-in-Nowhere : goal.returns-in-Nowhere
returns-in-Nowhere c =
    let a = c.args in
    let v = viewed a.drives.now in
    subst (λ (x : Found). SeeksAll a.drives.now.p a.drives.now.image.now v a.gone a.compact.now (found_of x) (Ok Never) a.bytes.now) (sym c.in-Nowhere.is)
    (seeks_nowhere a.drives.now.p a.drives.now.image.now v a.gone a.compact.now a.bytes.now)

pub returns-in-Here : goal.returns-in-Here
returns-in-Here c =
    let a = c.args in
    let v = viewed a.drives.now in
    subst (λ (x : Found). SeeksAll a.drives.now.p a.drives.now.image.now v a.gone a.compact.now (found_of x) c.seek_here.result a.bytes.now) (sym c.in-Here.is)
    (c.seek_here.ensures a.compact.now a.bytes.now)

pub returns-in-Away : goal.returns-in-Away
returns-in-Away c =
    let a = c.args in
    let lost = c.seek_away in
    let v = viewed a.drives.now in
    subst (λ (x : Found). SeeksAll a.drives.now.p a.drives.now.image.now v a.gone a.compact.now (found_of x) lost.result lost.new.bytes)
    (sym c.in-Away.is) lost.ensures
