-- Item 3 of 02 speaks of something: a history of the small box, on the lent bytes, after which a write meets 7 and 8 together. Assumes nothing.
use Rattle.std.specs.Prelude.{◌≡◌, List, [], ◌∷◌, ◌++◌, true, ℕ, suc}
use Rattle.spec.specs.declared.Answer.TheVariants.{Refused}
use Rattle.spec.specs.Engine.{Call, Lent, call_bytes}
use Rattle.spec.specs.Engine.Call.{write, land, restart}
use Rattle.spec.specs.Examples.{small, fresh, runs, block_of}
use Rattle.spec.specs.Write.CheckOrder.{wait_first}
use Rattle.spec_demands.specs.FullFirst.{call_in, crowded}

-- the two writes of a stripe
unfoldable pub stripe_for : ℕ → List Call
stripe_for a = write a (block_of a) 9 ∷ write (suc a) (block_of (suc a)) 9 ∷ []

-- the landings of a stripe
unfoldable pub stripe_lands : ℕ → List Call
stripe_lands s = land 0 s 9 ∷ land 1 s 9 ∷ land 2 s 9 ∷ []

-- a group of two stripes, from stripe s on, with the landings that the next group waits for
unfoldable pub group_from : ℕ → ℕ → List Call
group_from a s = stripe_for a ++ stripe_for (suc (suc a)) ++ stripe_lands s ++ stripe_lands (suc s)

-- one segment is sealed, and of the next "the last stripes are full and in flight": two zones are empty
unfoldable pub filling : List Call
filling = restart 255 100 ∷ group_from 0 0 ++ group_from 4 2 ++ group_from 0 0 ++ stripe_for 4 ++ stripe_for 6

-- what they leave
unfoldable pub lent_then : Lent
lent_then = (runs small (fresh small) filling).lent

-- one write more
abbrev pub one_more_of : Call
one_more_of = write 0 (block_of 9) 9

pub record Crowded : Type 0 where
  pub meets : crowded small lent_then one_more_of ≡ true
  -- 7 in the order of 01, and 8 now
  pub was : (call_in wait_first small lent_then one_more_of).answer ≡ Refused 7
  pub is_now : (call_bytes small lent_then one_more_of).answer ≡ Refused 8
