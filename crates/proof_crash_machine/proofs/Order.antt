-- The order of sends: what a finished restart reads is no earlier than any acknowledged block of that address. Assumes nothing.
use Rattle.std.specs.Prelude.{◌≡◌, refl, List, ◌∷◌, ◌⊎◌, ℕ, suc, ◌≤◌, ◌<◌}
use Rattle.std.proofs.Common.{sym, ap, ◌∙◌, inl, inr, arith}
use Rattle.std.proofs.Math.Decide.{dec_lt}
use Rattle.proof_crash_machine.specs.Val.{Val}
use Rattle.proof_crash_machine.specs.Mask.{Mask}
use Rattle.proof_crash_machine.specs.Facts.{Par, InV}
use Rattle.proof_crash_machine.specs.Finish.{up_to_le}
use Rattle.proof_crash_machine.specs.Memory.{set_at_elim}
use Rattle.proof_crash_machine.specs.History.{State, Step, StepsTo, Inv, Claim, start}
use Rattle.proof_crash_machine.proofs.History.{step_inv, inv_start, mem_of}
use Rattle.proof_crash_machine.specs.History.Step.{ack, begin, close, copy, footer, land, lose, missing, open_cut, open_done, rebuild, rebuild_done, rebuild_store, reset_cut, reset_done}
use Rattle.proof_crash_machine.specs.History.Step.{restart, restart_cut₁, restart_cut₂, restart_footer, restart_plain, seal, send}
use Rattle.proof_crash_machine.specs.History.StepsTo.{stop, then}
use Rattle.proof_crash_machine.specs.Order.{Track, Tracked, sent_to, track, Reading, run_track, no_track}

-- fewer in cur
pub less : (σ τ : State) (T : Track) → ((x : Val) → InV x τ.g.sent → InV x σ.g.sent) → Tracked σ T → Tracked τ T
less σ τ T h k = record { here = λ x m. k.here x (h x m); order = λ x y m n b. k.order x y (h x m) (h y n) b }

-- one more, with a greater stamp
sent_order : (l : List Val) (n : ℕ) (x : Val) (T : Track) → ((y : Val) → InV y l → y.stamp ≤ n) → x.stamp ≡ suc n
    → ((y : Val) → InV y l → (T.pos y.stamp < T.clock) × (T.log (T.pos y.stamp) ≡ y))
    → ((y z : Val) → InV y l → InV z l → y.stamp < z.stamp → T.pos y.stamp < T.pos z.stamp)
    → ((y : Val) → InV y (x ∷ l) → ((sent_to T x).pos y.stamp < suc T.clock) × ((sent_to T x).log ((sent_to T x).pos y.stamp) ≡ y))
    × ((y z : Val) → InV y (x ∷ l) → InV z (x ∷ l) → y.stamp < z.stamp → (sent_to T x).pos y.stamp < (sent_to T x).pos z.stamp)
sent_order l n x T b e here order = (here', order')
  where
    new : (y : Val) → y ≡ x → (sent_to T x).pos y.stamp ≡ T.clock
    new y q = set_at_elim (λ (k : ℕ). k ≡ T.clock) T.pos x.stamp T.clock y.stamp (λ r. refl) (λ r. absurd (r (ap (λ (w : Val). w.stamp) q)))

    old : (y : Val) → InV y l → (sent_to T x).pos y.stamp ≡ T.pos y.stamp
    old y m = set_at_elim (λ (k : ℕ). k ≡ T.pos y.stamp) T.pos x.stamp T.clock y.stamp (λ r. absurd (let j : ⊥ = omega (arith, r, e, b y m) in j)) (λ r. refl)

    log_new : (sent_to T x).log T.clock ≡ x
    log_new = set_at_elim (λ (w : Val). w ≡ x) T.log T.clock x T.clock (λ r. refl) (λ r. absurd (r refl))

    log_old : (q : ℕ) → q < T.clock → (sent_to T x).log q ≡ T.log q
    log_old q h = set_at_elim (λ (w : Val). w ≡ T.log q) T.log T.clock x q (λ r. absurd (let j : ⊥ = omega arith in j)) (λ r. refl)

    here' : (y : Val) → InV y (x ∷ l) → ((sent_to T x).pos y.stamp < suc T.clock) × ((sent_to T x).log ((sent_to T x).pos y.stamp) ≡ y)
    here' y (inl q) = (omega (arith, new y q), ap (sent_to T x).log (new y q) ∙ log_new ∙ sym q)
    here' y (inr m) = (omega (arith, old y m, (here y m).0), ap (sent_to T x).log (old y m) ∙ log_old (T.pos y.stamp) (here y m).0 ∙ (here y m).1)

    order' : (y z : Val) → InV y (x ∷ l) → InV z (x ∷ l) → y.stamp < z.stamp → (sent_to T x).pos y.stamp < (sent_to T x).pos z.stamp
    order' y z (inl q) (inl r) h =
        absurd (let i : y.stamp ≡ x.stamp = ap (λ (w : Val). w.stamp) q in let k : z.stamp ≡ x.stamp = ap (λ (w : Val). w.stamp) r in let j : ⊥ = omega arith in j)
    order' y z (inl q) (inr r) h = absurd (let i : y.stamp ≡ x.stamp = ap (λ (w : Val). w.stamp) q in let j : ⊥ = omega (arith, i, e, b z r, h) in j)
    order' y z (inr q) (inl r) h = omega (arith, old y q, new z r, (here y q).0)
    order' y z (inr q) (inr r) h = omega (arith, old y q, old z r, order y z q r h)

pub tracked : (p : Par) (σ τ : State) → Inv p σ → (s : Step p σ τ) → (T : Track) → Tracked σ T → Tracked τ (track p σ τ s T)
tracked p _ _ i0 (lose σ) T tq = record { here = tq.here; order = tq.order }
tracked p _ _ i0 (begin σ M e a b) T tq = record { here = tq.here; order = tq.order }
tracked p _ _ i (send σ M x s d r e a b w) T k =
    let w' : ((y : Val) → InV y (x ∷ σ.g.sent) → ((sent_to T x).pos y.stamp < suc T.clock) × ((sent_to T x).log ((sent_to T x).pos y.stamp) ≡ y))
    × ((y z : Val) → InV y (x ∷ σ.g.sent) → InV z (x ∷ σ.g.sent) → y.stamp < z.stamp → (sent_to T x).pos y.stamp < (sent_to T x).pos z.stamp) =
    sent_order σ.g.sent M.stamp x T (mem_of p σ M i e).stamps b k.here k.order in
    record { here = w'.0; order = w'.1 }
tracked p _ _ i0 (copy σ M x s d r e a b) T tq = record { here = tq.here; order = tq.order }
tracked p _ _ i0 (close σ M s r e a b) T tq = record { here = tq.here; order = tq.order }
tracked p _ _ i0 (land σ M d s e a b c f g) T tq = record { here = tq.here; order = tq.order }
tracked p _ _ i0 (ack σ M s f l e a b c d) T tq = record { here = tq.here; order = tq.order }
tracked p _ _ i0 (open_cut σ M w k e a) T tq = record { here = tq.here; order = tq.order }
tracked p _ _ i0 (open_done σ M w e a) T tq = record { here = tq.here; order = tq.order }
tracked p _ _ i0 (footer σ M d z j e a b c f) T tq = record { here = tq.here; order = tq.order }
tracked p _ _ i0 (seal σ M e a b) T tq = record { here = tq.here; order = tq.order }
tracked p _ _ i0 (reset_cut σ M z k e q) T tq = record { here = tq.here; order = tq.order }
tracked p _ _ i0 (reset_done σ M z e q a) T tq = record { here = tq.here; order = tq.order }
tracked p _ _ i0 (missing σ m t u K a b c d e) T tq = record { here = tq.here; order = tq.order }
tracked p _ _ i0 (restart_cut₁ σ k none ss d) T tq = record { here = tq.here; order = tq.order }
tracked p _ _ i0 (restart_cut₂ σ k none ss d w o r π a) T tq = record { here = tq.here; order = tq.order }
tracked p _ _ i0 (restart σ none ss d w o r π a K t rd b o? z n ns rg wh bl sr up) T tq =
    record { here = λ x m. tq.here x (up_to_le t σ.g.sent x m).0; order = λ x y m k j. tq.order x y (up_to_le t σ.g.sent x m).0 (up_to_le t σ.g.sent y k).0 j }
tracked p _ _ i0 (restart_plain σ none ss d cl K t rd b o? z n ns rg wh bl sr up) T tq =
    record { here = λ x m. tq.here x (up_to_le t σ.g.sent x m).0; order = λ x y m k j. tq.order x y (up_to_le t σ.g.sent x m).0 (up_to_le t σ.g.sent y k).0 j }
tracked p _ _ i0 (restart_footer σ d z j a b c e f h) T tq = record { here = tq.here; order = tq.order }
tracked p _ _ i0 (rebuild σ d l c) T tq = record { here = tq.here; order = tq.order }
tracked p _ _ i0 (rebuild_store σ u l e m k) T tq = record { here = tq.here; order = tq.order }
tracked p _ _ i0 (rebuild_done σ u n l b a) T tq = record { here = tq.here; order = tq.order }

-- ---- demand 3, in the order of sends: at a, block r was sent there before, and is no earlier than any acknowledged one; or none was acknowledged and it reads "never written"

pub reading : (p : Par) (σ : State) (T : Track) (m : Mask) (K : ℕ → ℕ) → Inv p σ → Tracked σ T → Claim p σ m K → (a : ℕ)
    → (Reading σ T K a) ⊎ ((K a ≡ 0) × ((x : Val) → InV x σ.acked → x.addr ≡ a → ⊥))
reading p σ T m K i k c a = go (dec_lt 0 (K a))
  where
    go : Dec (0 < K a) → (Reading σ T K a) ⊎ ((K a ≡ 0) × ((x : Val) → InV x σ.acked → x.addr ≡ a → ⊥))
    go (no b) = inr (omega arith, λ x m e. let q : K x.addr ≡ K a = ap K e in let j : ⊥ = omega (arith, c.acked x m, q, b, (i.ones x (i.acks x m).0).0) in j)
    go (yes b) =
        let y : (x : Val) × InV x σ.g.sent × (x.addr ≡ a) × (x.stamp ≡ K a) = c.sent a b in
        let h : (T.pos y.0.stamp < T.clock) × (T.log (T.pos y.0.stamp) ≡ y.0) = k.here y.0 y.1 in
        inl (record {
          r = T.pos y.0.stamp;
          before = h.0;
          there = ap (λ (w : Val). w.addr) h.1 ∙ y.2;
          stamp = ap (λ (w : Val). w.stamp) h.1 ∙ y.3;
          latest = λ x m e. ((k.here x (i.acks x m).0).1, cmp y.0 y.1 y.3 x m e (dec_lt x.stamp y.0.stamp));
        })
      where
        cmp : (y : Val) → InV y σ.g.sent → y.stamp ≡ K a → (x : Val) → InV x σ.acked → x.addr ≡ a → Dec (x.stamp < y.stamp) → T.pos x.stamp ≤ T.pos y.stamp
        cmp y n s x m e (yes l) = let j : T.pos x.stamp < T.pos y.stamp = k.order x y (i.acks x m).0 n l in omega arith
        cmp y n s x m e (no l) =
            let q : K x.addr ≡ K a = ap K e in
            let j : x.stamp ≡ y.stamp = omega (arith, c.acked x m, q, s, l) in
            let z : T.pos x.stamp ≡ T.pos y.stamp = ap T.pos j in omega arith

-- ---- over a history

inv_tracked : (p : Par) (σ τ : State) (r : StepsTo p σ τ) (T : Track) → Inv p σ → Tracked σ T → Inv p τ × Tracked τ (run_track p σ τ r T)
inv_tracked p _ _ (stop σ) T i k = (i, k)
inv_tracked p _ _ (then σ τ υ s r) T i k = inv_tracked p τ υ r (track p σ τ s T) (step_inv p σ τ i s) (tracked p σ τ i s T k)

-- whatever a finished restart after the history r reads (`demand3` gives its claim), it is in order
pub ordered : (p : Par) (σ : State) (r : StepsTo p (start p) σ) (m : Mask) (K : ℕ → ℕ) → Claim p σ m K → (a : ℕ)
    → (Reading σ (run_track p (start p) σ r no_track) K a) ⊎ ((K a ≡ 0) × ((x : Val) → InV x σ.acked → x.addr ≡ a → ⊥))
unfolding start
ordered p σ r m K c a =
    let k : Inv p σ × Tracked σ (run_track p (start p) σ r no_track) =
    inv_tracked p (start p) σ r no_track (inv_start p) (record { here = λ x m. absurd m; order = λ x y m n b. absurd m }) in
    reading p σ (run_track p (start p) σ r no_track) m K k.0 k.1 c a
