-- `reset_good`: an offline zone gives no stores and the count stays; a good one gives its reset. Assumes nothing.
use mathlib.Core.Path.{sym, ◌∙◌, subst}
use mathlib.Core.List.{List, [], ◌∷◌}
use borrow.Author.Tests.{not-true, not-false}
use Rattle.spec.specs.Drives.{Store, mk_disk, is_good}
use Rattle.spec.specs.Drives.Store.{reset}
use Rattle.law_drives.specs.Tests.{cond_true, cond_false}
use Rattle.disk_zones.specs.Made.{Storing, storing_none}
use Rattle.std.specs.Prelude.{Ok}
use Rattle.recover_reset.proofs.reset_good.Goals as goal

pub returns-then-not-is_good : goal.returns-then-not-is_good
returns-then-not-is_good c =
    let a = c.args in
    let g = c.is_good in
    λ im.
    let k = mk_disk im a.pointers.now in
    subst (λ (l : List Store). Storing a.p a.count l k (Ok a.count) k)
    (sym (cond_false (is_good a.p a.offline.now a.drive a.zone) (reset a.drive a.zone ∷ []) [] (sym g.ensures ∙ not-true g.result c.if-not-is_good.true-raw)))
    (storing_none a.p a.count k)

pub returns : goal.returns
returns c =
    let a = c.args in
    let g = c.is_good in
    let m = c.reset_limited in
    λ im. subst (λ (l : List Store). Storing a.p a.count l (mk_disk im a.pointers.now) m.result (mk_disk im m.new.pointers))
    (sym (cond_true (is_good a.p a.offline.now a.drive a.zone) (reset a.drive a.zone ∷ []) []
    (sym g.ensures ∙ not-false g.result c.if-not-is_good.false-raw)))
    (m.ensures im)
