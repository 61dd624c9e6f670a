-- (7) What a finished restart reads, from the drive facts. Assumes nothing.
use Rattle.std.specs.Prelude.{◌≡◌, ◌⊎◌, ℕ, ◌≤◌, ◌<◌}
use Rattle.std.proofs.Common.{ap, inl, inr, ⊎_elim, arith}
use Rattle.proof_crash_machine.specs.Val.{Val, pads, pads_stamp}
use Rattle.proof_crash_machine.specs.Lemma.{counted_choice}
use Rattle.proof_crash_machine.specs.View.{ItemView}
use Rattle.proof_crash_machine.specs.Mask.{Mask}
use Rattle.proof_crash_machine.specs.Facts.{Par, Beyond, Ghost, InV, Choice, Counted, Facts}
use Rattle.proof_crash_machine.specs.Finish.{Reads}

-- K is what a restart that names m reads, on drives with the facts
pub record Right (p : Par) (g : Ghost) (v : ItemView) (m : Mask) (K : ℕ → ℕ) : Type 0 where
  -- no earlier than the latest acknowledged
  pub kept : (a : ℕ) → g.base a ≤ K a
  -- a block that was sent there
  pub sent : (a : ℕ) → 0 < K a → (x : Val) × InV x g.sent × (x.addr ≡ a) × (x.stamp ≡ K a)
  -- what it read before, or something sent since; unless it names more than the restart before it did
  pub stable : (Beyond p g.said m → ⊥) → (a : ℕ) → (K a ≤ g.last a) ⊎ (g.top < K a)

pub right : (p : Par) (g : Ghost) (v : ItemView) → Facts p g v → (m : Mask) → Choice p g.un m → (K : ℕ → ℕ) → Reads p g.hd v m K → Right p g v m K
right p g v h m c K r = record { kept = kept; sent = sent; stable = stable }
  where
    kept : (a : ℕ) → g.base a ≤ K a
    kept a = ⊎_elim (λ (e : g.base a ≡ 0). omega arith)
        (λ (k : (x : Val) × Counted p g.hd v g.un x × (x.addr ≡ a) × (g.base a ≤ x.stamp)).
        let b : k.0.stamp ≤ K k.0.addr = r.most k.0 (counted_choice p g v h.swap m c h.lost.few k.0 k.1) in
        let e : K k.0.addr ≡ K a = ap K k.2 in omega (arith, k.3, b, e)) (h.content.floor a)

    sent : (a : ℕ) → 0 < K a → (x : Val) × InV x g.sent × (x.addr ≡ a) × (x.stamp ≡ K a)
    sent a b = ⊎_elim (λ (e : K a ≡ 0). absurd (let q : ⊥ = omega arith in q))
        (λ (k : (x : Val) × Counted p g.hd v m x × (x.addr ≡ a) × (x.stamp ≡ K a)).
        ⊎_elim (λ (e : k.0 ≡ pads). absurd (let q : ⊥ = omega (arith, k.3, pads_stamp k.0 e) in q)) (λ (i : InV k.0 g.sent). (k.0, i, k.2, k.3))
        (h.parity.sound m c k.1.z k.1.s k.1.f k.1.st k.0 k.1.dt)) (r.some a)

    stable : (Beyond p g.said m → ⊥) → (a : ℕ) → (K a ≤ g.last a) ⊎ (g.top < K a)
    stable nb a = ⊎_elim (λ (e : K a ≡ 0). inl (omega arith))
        (λ (k : (x : Val) × Counted p g.hd v m x × (x.addr ≡ a) × (x.stamp ≡ K a)).
        ⊎_elim (λ (b : k.0.stamp ≤ g.last k.0.addr). inl (let e : g.last k.0.addr ≡ g.last a = ap g.last k.2 in omega (arith, k.3, b, e)))
        (λ (b : g.top < k.0.stamp). inr (omega (arith, k.3, b))) (h.content.fresh m c nb k.0 k.1)) (r.some a)

-- nothing sent since the last finished restart, and nothing acknowledged: the same is read
pub unchanged : (p : Par) (g : Ghost) (v : ItemView) → Facts p g v → (m : Mask) → Choice p g.un m → (Beyond p g.said m → ⊥) → (K : ℕ → ℕ) → Reads p g.hd v m K
    → ((x : Val) → InV x g.sent → x.stamp ≤ g.top) → ((a : ℕ) → g.last a ≤ g.base a) → (a : ℕ) → K a ≡ g.last a
unchanged p g v h m c nb K r old grown a = go (right p g v h m c K r)
  where
    go : Right p g v m K → K a ≡ g.last a
    go q = ⊎_elim (λ (b : K a ≤ g.last a). omega (arith, q.kept a, grown a, b))
        (λ (b : g.top < K a).
        let k : (x : Val) × InV x g.sent × (x.addr ≡ a) × (x.stamp ≡ K a) = q.sent a (omega (arith, b)) in
        absurd (let z : ⊥ = omega (arith, old k.0 k.1, k.3, b) in z)) (q.stable nb a)
