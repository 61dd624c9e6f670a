-- The order of sends: the log that a history leaves, and what it says of what a finished restart reads. Assumes nothing.
use Rattle.std.specs.Prelude.{◌≡◌, ℕ, suc, ◌≤◌, ◌<◌}
use Rattle.proof_crash_machine.specs.Val.{Val, 𝟘}
use Rattle.proof_crash_machine.specs.Facts.{Par, InV}
use Rattle.proof_crash_machine.specs.Memory.{set_at}
use Rattle.proof_crash_machine.specs.History.{State, Step, StepsTo}
use Rattle.proof_crash_machine.specs.History.Step.{ack, begin, close, copy, footer, land, lose, missing, open_cut, open_done, rebuild, rebuild_done, rebuild_store, reset_cut, reset_done}
use Rattle.proof_crash_machine.specs.History.Step.{restart, restart_cut₁, restart_cut₂, restart_footer, restart_plain, seal, send}
use Rattle.proof_crash_machine.specs.History.StepsTo.{stop, then}

-- all sends in their order: log q is the q-th block sent; pos t is where the block of cur with stamp t stands
pub record Track : Type 0 where
  pub log : ℕ → Val
  pub clock : ℕ
  pub pos : ℕ → ℕ

pub record Tracked (σ : State) (T : Track) : Type 0 where
  pub here : (x : Val) → InV x σ.g.sent → (T.pos x.stamp < T.clock) × (T.log (T.pos x.stamp) ≡ x)
  pub order : (x y : Val) → InV x σ.g.sent → InV y σ.g.sent → x.stamp < y.stamp → T.pos x.stamp < T.pos y.stamp

abbrev pub sent_to : Track → Val → Track
sent_to T x = record { log = set_at T.log T.clock x; clock = suc T.clock; pos = set_at T.pos x.stamp T.clock }

-- only a write sends
abbrev pub track : (p : Par) (σ τ : State) → Step p σ τ → Track → Track
track p _ _ (lose σ) T = T
track p _ _ (begin σ M e a b) T = T
track p _ _ (send σ M x s d r e a b w) T = sent_to T x
track p _ _ (copy σ M x s d r e a b) T = T
track p _ _ (close σ M s r e a b) T = T
track p _ _ (land σ M d s e a b c f g) T = T
track p _ _ (ack σ M s f l e a b c d) T = T
track p _ _ (open_cut σ M w k e a) T = T
track p _ _ (open_done σ M w e a) T = T
track p _ _ (footer σ M d z j e a b c f) T = T
track p _ _ (seal σ M e a b) T = T
track p _ _ (reset_cut σ M z k e q) T = T
track p _ _ (reset_done σ M z e q a) T = T
track p _ _ (missing σ m t u K a b c d e) T = T
track p _ _ (restart_cut₁ σ k none ss d) T = T
track p _ _ (restart_cut₂ σ k none ss d w o r π a) T = T
track p _ _ (restart σ none ss d w o r π a K t rd b o? z n ns rg wh bl sr up) T = T
track p _ _ (restart_plain σ none ss d cl K t rd b o? z n ns rg wh bl sr up) T = T
track p _ _ (restart_footer σ d z j a b c e f h) T = T
track p _ _ (rebuild σ d l c) T = T
track p _ _ (rebuild_store σ u l e m k) T = T
track p _ _ (rebuild_done σ u n l b a) T = T

-- ---- demand 3, in the order of sends: at a, block r was sent there before, and is no earlier than any acknowledged one; or none was acknowledged and it reads "never written"

pub record Reading (σ : State) (T : Track) (K : ℕ → ℕ) (a : ℕ) : Type 0 where
  pub r : ℕ
  pub before : r < T.clock
  pub there : (T.log r).addr ≡ a
  pub stamp : (T.log r).stamp ≡ K a
  pub latest : (x : Val) → InV x σ.acked → x.addr ≡ a → (T.log (T.pos x.stamp) ≡ x) × (T.pos x.stamp ≤ r)

-- ---- over a history

abbrev pub run_track : (p : Par) (σ τ : State) → StepsTo p σ τ → Track → Track
run_track p _ _ (stop σ) T = T
run_track p _ _ (then σ τ υ s r) T = run_track p τ υ r (track p σ τ s T)

abbrev pub no_track : Track
no_track = record { log = λ q. 𝟘; clock = 0; pos = λ t. 0 }
