-- `bad_rec`: below L the stamp decides, by `bad_low`; else whether the address is padding, by `bad_high`. Assumes nothing.
use mathlib.Core.Path.{sym}
use native.Mathlib.Omega.{arith}
use Rattle.recover_groups.specs.Faulty.{bad_low, bad_high}
use Rattle.disk_records.specs.Record.{rec_val}
use Rattle.recover_groups.proofs.bad_rec.Goals as goal

pub returns-then-r-p : goal.returns-then-r-p
returns-then-r-p c =
    let args = c.args in
    sym (bad_low args.p (rec_val args.r) c.if-r-p.true)

pub returns : goal.returns
returns c =
    let args = c.args in
    sym (bad_high args.p (rec_val args.r) (omega (arith, c.if-r-p.false)))
