-- A block sent: where it lies, with and without parity, with and without a segment opened (01, Write). Assumes nothing.
use Rattle.std.specs.Prelude.{ℕ, List}
use Rattle.spec.specs.Drives.{Store}
use Rattle.spec.specs.Write.{Placed, Sending}
use Rattle.spec.specs.declared.State.{State}

abbrev pub mk_placed : State → List ℕ → ℕ → Placed
mk_placed st fl d = record { state = st; inflight = fl; drive = d }

abbrev pub mk_sending : List Store → State → List ℕ → ℕ → ℕ → Sending
mk_sending ss st fl s d = record { stores = ss; state = st; inflight = fl; stripe = s; drive = d }
