-- Demand 3 speaks of something: a history on drives with dead zones that meets every premise, and what it comes to. Assumes nothing.
use Rattle.std.specs.Prelude.{◌≡◌, true}
use Rattle.spec.specs.Demands.{Allowed}
use Rattle.spec.specs.Drives.{list_ok}
use Rattle.spec.specs.History.{empty_disk, began}
use Rattle.spec.specs.Params.{in_range}
use Rattle.proof_crash_witness.specs.Observed.{answers_of, reads_of}
use Rattle.proof_crash_witness.specs.Table.{worn, dead, disk, table, history, answers_in, reads_in}

pub record Witness : Type 0 where
  -- the premises of demand 3
  pub in_range_holds : in_range worn ≡ true
  pub list_fine : list_ok worn dead ≡ true
  pub empty : empty_disk worn dead disk ≡ true
  pub premises : Allowed worn dead (began worn disk) history
  -- kind and values of every answer
  pub answers : answers_of worn dead (began worn disk) history ≡ answers_in table
  -- what each finished restart reads, address by address
  pub reads : reads_of worn dead (began worn disk) history ≡ reads_in table
