-- `footer_stores`: the first count of n stores are the first m = min(count, n); m = 0 leaves the drives, else `store_footers` makes them. Assumes nothing.
use mathlib.Core.Path.{sym, ap, ◌∙◌}
use mathlib.Core.List.{List}
use Prim.Native.Nat.{ℕ}
use native.Mathlib.Omega.{arith}
use Rattle.spec.specs.Drives.{Zone, Store, view_of, mk_disk, zone_at, store_disk, store_all}
use Rattle.disk_zones.specs.Made.{made_of, made_taken}
use Rattle.disk_footers.specs.Laid.{feet_taken, feet_none, feet_count}
use Rattle.disk_footers.proofs.footer_stores.Goals as goal

pub returns-then-m-eq0 : goal.returns-then-m-eq0
unfolding made_of
returns-then-m-eq0 c =
    let a = c.args in
    let allowed = c.min-m in
    let pre = c.requires in
    let p = a.p in
    let k = mk_disk a.image.now a.pointers.now in
    let q : List ℕ → Zone = λ off. zone_at (view_of p off a.image.now a.pointers.now) a.drive a.zone in
    let w = pre.whole in
    let h = pre.drive_lt_n in
    let m = allowed.ensures in
    λ off. record {
      made = c.ok_or-left.ensures.value ∙ made_taken c.checked_sub.result a.count a.n c.checked_sub.ensures ∙ ap (made_of a.count) (sym (feet_count p a.drive a.zone (q off) a.first a.n));
      disk = sym (feet_none p a.drive a.zone (q off) a.first a.n a.count k (sym m ∙ c.if-m-eq0.true));
    }

pub store_footers-requires : goal.store_footers-requires
store_footers-requires c =
    let a = c.args in
    let if1 = c.if-m-eq0 in
    let allowed = c.min-m in
    let pre = c.requires in
    let p = a.p in
    let k = mk_disk a.image.now a.pointers.now in
    let w = pre.whole in
    let h = pre.drive_lt_n in
    let m = allowed.ensures in record { p_value = pre.p_value; whole = w; drive_lt_n = (h.0, h.1, omega (arith, if1.false), omega (arith, m, h.2), omega (arith, m, h.3)) }

pub returns : goal.returns
returns c =
    let a = c.args in
    let store-footers = c.store_footers in
    let allowed = c.min-m in
    let pre = c.requires in
    let p = a.p in
    let k = mk_disk a.image.now a.pointers.now in
    let q : List ℕ → Zone = λ off. zone_at (view_of p off a.image.now a.pointers.now) a.drive a.zone in
    let w = pre.whole in
    let h = pre.drive_lt_n in
    let m = allowed.ensures in
    λ off. record {
      made = c.ok_or-left.ensures.value ∙ made_taken c.checked_sub.result a.count a.n c.checked_sub.ensures ∙ ap (made_of a.count) (sym (feet_count p a.drive a.zone (q off) a.first a.n));
      disk = store-footers.ensures off ∙ sym (ap (λ (x : List Store). store_all (store_disk p) x k) (feet_taken p a.drive a.zone (q off) a.first a.n a.count allowed.result m));
    }
