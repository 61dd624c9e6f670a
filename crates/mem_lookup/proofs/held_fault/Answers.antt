-- `held_fault`: one law for each end: a drive from N on and a place that no segment holds make zone 0 bad, `is_bad` the zone of the place, else there is none. Assumes nothing.
use Rattle.std.specs.Prelude.{Option, is_some}
use Rattle.spec.specs.declared.Serial.{Serial}
use Rattle.law_basic.specs.Geometry.{ranged}
use Rattle.mem_lookup.specs.Places.{fault_outside, fault_past, fault_bad, place_fault_none}
use mathlib.Core.Path.{sym, ap, ◌∙◌}
use native.Mathlib.Omega.{arith}
use Rattle.mem_lookup.proofs.held_fault.Goals as goal

pub returns-then-p-drive : goal.returns-then-p-drive
returns-then-p-drive c =
    let a = c.args in
    let b = c.place_block-block in
    let z = c.place_zone-zone in
    let d = c.place_drive-drive in
    record {
      faults = λ off im h is. fault_past a.p off im a.pointers.now a.gone a.q.0 h c.requires.pointers_len d.result z.result b.result
          d.ensures.0 z.ensures.0 b.ensures.0 c.if-p-drive.true;
      low = omega (arith, (ranged a.p c.requires.p_value).zones_low);
    }

pub is_bad-requires : goal.is_bad-requires
is_bad-requires c = record { p_value = c.requires.p_value; pointers_len = (c.requires.pointers_len, c.if-p-drive.false, c.place_zone-zone.ensures.1) }

pub returns-in-None : goal.returns-in-None
returns-in-None c =
    let a = c.args in
    record {
      faults = λ off im h is. fault_outside a.p off im a.pointers.now a.gone a.q.0 h c.requires.pointers_len
          (is ∙ ap (λ (x : Option Serial). is_some x) c.in-None.is);
      low = omega (arith, (ranged a.p c.requires.p_value).zones_low);
    }

pub returns-in-Some-clause-faults : goal.returns-in-Some-clause-faults
returns-in-Some-clause-faults c =
    let a = c.args in
    let b = c.place_block-block in
    let z = c.place_zone-zone in
    let d = c.place_drive-drive in
    λ off im h is. fault_bad a.p off im a.pointers.now a.gone a.q.0 h c.requires.pointers_len d.result z.result b.result
    d.ensures.0 z.ensures.0 b.ensures.0 c.if-p-drive.false z.ensures.1 (is ∙ ap (λ (x : Option Serial). is_some x) c.in-Some.is)
    (sym c.is_bad.ensures ∙ c.if-is_bad.true)

pub returns-in-Some-2-clause-faults : goal.returns-in-Some-2-clause-faults
returns-in-Some-2-clause-faults c =
    let a = c.args in
    let b = c.place_block-block in
    let z = c.place_zone-zone in
    let d = c.place_drive-drive in
    λ off im h is. place_fault_none a.p off im a.pointers.now a.gone a.q.0 h c.requires.pointers_len d.result z.result b.result
    d.ensures.0 z.ensures.0 b.ensures.0 c.if-p-drive.false z.ensures.1 (is ∙ ap (λ (x : Option Serial). is_some x) c.in-Some.is)
    (sym c.is_bad.ensures ∙ c.if-is_bad.false)
