-- Demand 2 of the lent bytes, from its parts. Assumes nothing.
use Rattle.spec_demands.specs.Tables.{Demand2}
use Rattle.proof_answers.specs.Ruled.{zone_rules}
use Rattle.proof_answers.specs.Unseen.{offline_apart}
use Rattle.proof_bytes.specs.Two.{lift_2}
use Rattle.proof_layout.specs.Plain.{said_plain}
use Rattle.proof_demands.specs.Empty.{accepts_empty}
use Rattle.proof_demands.specs.Values.{after_restart}

pub demand_2 : Demand2
demand_2 = record { zone_rules = zone_rules; offline_apart = offline_apart; accepts = accepts_empty; latest = said_plain; after_restart = lift_2 after_restart }
