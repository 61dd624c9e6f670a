-- What a list of events comes to: its answers, and what its finished restarts read. Assumes nothing.
use Rattle.std.specs.Prelude.{List, [], ◌∷◌, ◌++◌, map, Bool, true, false, ℕ}
use Rattle.spec.specs.declared.Params.{Params}
use Rattle.spec.specs.declared.Answer.{Answer}
use Rattle.spec.specs.Answers.{kind, values, finished}
use Rattle.spec.specs.History.{World, Event, happens, Hist, step, Seen, seen_at}
use Rattle.spec.specs.History.Seen.{unwritten, got, failed}
use Rattle.spec.specs.Lists.{below}

-- an answer's kind and values
unfoldable pub answer_numbers : Answer → List ℕ
answer_numbers r = kind r ∷ values r

-- what an address reads: 0 for never written; 1, the stamp and the block's bytes; 2 where no block is read
unfoldable pub seen_numbers : Seen → List ℕ
seen_numbers unwritten = 0 ∷ []
seen_numbers (got b t) = 1 ∷ t ∷ b
seen_numbers failed = 2 ∷ []

-- what the addresses 0 to L - 1 read after a finished restart; nothing of any other event
unfoldable pub restart_reads : Bool → Params → List ℕ → World → List (List ℕ)
restart_reads true p off w = map (λ a. seen_numbers (seen_at p off w a)) (below p.L)
restart_reads false p off w = []

-- the answers of all events
unfoldable pub answers_of : Params → List ℕ → Hist → List Event → List (List ℕ)
answers_of p off h [] = []
answers_of p off h (e ∷ es) = answer_numbers (happens p off h.world e).answer ∷ answers_of p off (step p off h e) es

-- what the finished restarts read, one after the other
unfoldable pub reads_of : Params → List ℕ → Hist → List Event → List (List ℕ)
reads_of p off h [] = []
reads_of p off h (e ∷ es) = restart_reads (finished (happens p off h.world e).answer) p off (step p off h e).world ++ reads_of p off (step p off h e) es
