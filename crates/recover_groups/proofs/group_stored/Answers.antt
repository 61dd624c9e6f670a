-- `group_stored`: the data stored on the zone less base, at least 0 and at most the group's length, as `group-stored_is` says. Assumes nothing.
use mathlib.Core.Path.{ap, ◌∙◌}
use Prim.Native.Nat.{ℕ}
use native.Mathlib.Omega.{arith}
use Rattle.spec.specs.Drives.{zone_at, view_of, data_stored}
use Rattle.recover_groups.specs.Chunks.{group-stored_is}
use Rattle.recover_groups.proofs.group_stored.Goals as goal

pub zone_on-requires : goal.zone_on-requires
zone_on-requires c =
    let pre = c.requires in record { p_value = pre.p_value; drive_lt_n = pre.pointers_len.1 }

pub data_stored-n-requires : goal.data_stored-n-requires
data_stored-n-requires c =
    let pre = c.requires in record { p_value = pre.p_value; pointers_len = (pre.pointers_len.0, pre.pointers_len.1, rw c.zone_on.ensures pre.pointers_len.2) }

pub returns-then-n-w : goal.returns-then-n-w
returns-then-n-w c =
    let a = c.args in
    let data-stored = c.data_stored-n in
    let zone_on_holds = c.zone_on in
    let pre = c.requires in
    let p = a.p in
    let w = a.w in record {
      by_index = (λ off im h q. let e =
          (data-stored.ensures.by_index off im h ∙ ap (λ (z : ℕ). data_stored p (zone_at (view_of p off im a.pointers.now) a.drive z)) zone_on_holds.ensures) in
          let f = group-stored_is p (view_of p off im a.pointers.now) w.gone w.seg w.base a.drive pre.pointers_len.1 q in omega
          (arith, e, f, c.if-n-w.true));
      upper_bound = omega arith;
    }

pub returns-then-len-m : goal.returns-then-len-m
returns-then-len-m c =
    let a = c.args in
    let if1 = c.if-n-w in
    let group-len = c.group_len-len in
    let data-stored = c.data_stored-n in
    let zone_on_holds = c.zone_on in
    let pre = c.requires in
    let p = a.p in
    let w = a.w in record {
      by_index = (λ off im h q. let e =
          (data-stored.ensures.by_index off im h ∙ ap (λ (z : ℕ). data_stored p (zone_at (view_of p off im a.pointers.now) a.drive z)) zone_on_holds.ensures) in
          let f = group-stored_is p (view_of p off im a.pointers.now) w.gone w.seg w.base a.drive pre.pointers_len.1 q in omega
          (arith, e, f, if1.false, c.if-len-m.true, group-len.ensures.0));
      upper_bound = omega (arith, group-len.ensures.0);
    }

pub returns : goal.returns
returns c =
    let a = c.args in
    let if1 = c.if-n-w in
    let group-len = c.group_len-len in
    let data-stored = c.data_stored-n in
    let zone_on_holds = c.zone_on in
    let pre = c.requires in
    let p = a.p in
    let w = a.w in record {
      by_index = (λ off im h q. let e =
          (data-stored.ensures.by_index off im h ∙ ap (λ (z : ℕ). data_stored p (zone_at (view_of p off im a.pointers.now) a.drive z)) zone_on_holds.ensures) in
          let f = group-stored_is p (view_of p off im a.pointers.now) w.gone w.seg w.base a.drive pre.pointers_len.1 q in omega
          (arith, e, f, if1.false, c.if-len-m.false, group-len.ensures.0));
      upper_bound = omega (arith, group-len.ensures.0, c.if-len-m.false);
    }
