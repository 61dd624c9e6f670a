-- `zone_checks`: no segment found is zone 0 (`open_fails`); with one found, the lowest bad zone decides (`faults_refused`). Assumes nothing.
use Rattle.mem_calls.specs.Left.{passed_on}
use Rattle.std.proofs.lemmas.Result.{IfOk-from_err}
use Rattle.disk_drives.specs.Viewed.{viewed}
use Rattle.call_land.specs.Order.{looked_filled, open_fails, looked_zone, looked_low, faults_refused}
use borrow.Author.Tests.{eq-eqb}
use mathlib.Core.Path.{◌∙◌}
use Rattle.call_land.proofs.zone_checks.Goals as goal

pub open_at-target-requires : goal.open_at-target-requires
open_at-target-requires c = record { drive_lt_n = c.requires.drive_lt_n.0 }

pub returns-then-target-drives : goal.returns-then-target-drives
returns-then-target-drives c =
    let a = c.args in
    let target = c.open_at-target in record {
      check_value = λ m w. open_fails _ _ m _ _ _ _ _ w c.args.drives.now.sound (target.ensures.st_value m.state w.opened_is ∙ eq-eqb target.result.zone a.drives.now.p.Z c.if-target-drives.true);
      target_at = λ m w. tt;
    }

pub land_fault-z-requires : goal.land_fault-z-requires
land_fault-z-requires c =
    let a = c.args in
    let q = c.requires in
    let target = c.open_at-target in
    let m = q.drive_lt_n.1.0 in
    let w = q.drive_lt_n.1.1 in
    let o = target.ensures.target_at m.state w.opened_is c.if-target-drives.false in record {
      addresses_long = q.addresses_len;
      d_lt_n = (
        q.drive_lt_n.0,
        looked_zone _ _ m _ _ _ _ _ w c.args.drives.now.sound target.result o q.drive_lt_n.0,
        looked_low _ _ m _ _ _ _ _ w c.args.drives.now.sound target.result o,
        looked_filled a.drives.now.p (viewed a.drives.now) m _ _ _ _ _ w c.args.drives.now.sound,
      );
    }

pub returns-in_err-zone_check : goal.returns-in_err-zone_check
returns-in_err-zone_check c =
    let q = c.requires in
    let target = c.open_at-target in
    let z = c.land_fault-z in record {
      check_value = λ m w. passed_on _ c.in_err-zone_check.field-0.0 c.from_residual.ensures.1 ∙ c.in_err-zone_check.ensures
          ∙ faults_refused _ _ m _ _ _ _ _ w c.args.drives.now.sound target.result (target.ensures.target_at m.state w.opened_is c.if-target-drives.false) q.drive_lt_n.0 z.result z.ensures;
      target_at = λ m w. IfOk-from_err c.from_residual.result _ c.from_residual.ensures.0;
    }

pub returns : goal.returns
returns c =
    let q = c.requires in
    let target = c.open_at-target in
    let z = c.land_fault-z in record {
      check_value = λ m w. c.in_ok-zone_check.ensures
          ∙ faults_refused _ _ m _ _ _ _ _ w c.args.drives.now.sound target.result (target.ensures.target_at m.state w.opened_is c.if-target-drives.false) q.drive_lt_n.0 z.result z.ensures;
      target_at = λ m w. target.ensures.target_at m.state w.opened_is c.if-target-drives.false;
    }
