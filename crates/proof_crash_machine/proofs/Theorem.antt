-- The theorem, proved: what is read and what is accepted, after every history. Assumes nothing.
use Rattle.std.specs.Prelude.{◌≡◌, refl, true, false, ℕ, ◌≤◌, ◌<◌}
use Rattle.std.proofs.Common.{ap, ◌∙◌, arith}
use Rattle.proof_crash_machine.specs.Mask.{Mask, count, count_two, tf}
use Rattle.proof_crash_machine.specs.Facts.{Par, L, Beyond, Choice}
use Rattle.proof_crash_machine.specs.History.{State, Claim, start, Inv}
use Rattle.proof_crash_machine.proofs.History.{claim, inv_start, kept-all, demand3}
use Rattle.proof_crash_machine.proofs.Order.{ordered}
use Rattle.proof_crash_machine.specs.Accept.{accepted}
use Rattle.proof_crash_machine.specs.Exec.{best_stamp, computed}
use Rattle.proof_crash_machine.specs.Theorem.{MachineDemand}

-- of at most one drive none is beyond another
pub never : (p : Par) → p.P ≤ 1 → (k m : Mask) → count p.N m ≤ p.P → Beyond p k m → ⊥
never p one k m few b =
    let d : (d : ℕ) × (d < p.N) × (k d ≡ true) = b.0 in
    let e : (d : ℕ) × (d < p.N) × (m d ≡ true) × (k d ≡ false) = b.2 in
    let w : 2 ≤ count p.N m = count_two p.N m d.0 e.0 d.1 e.1 (λ q. tf d.2 (ap k q ∙ e.3)) (b.1 d.0 d.1 d.2) e.2 in
    let j : ⊥ = omega (arith, w, one, few) in j

pub theorem : (p : Par) → MachineDemand p
theorem p = record {
  reads = demand3 p;
  order = ordered p;
  always = λ σ r m c. now σ (kept-all p (start p) σ r (inv_start p)) m c;
  single = λ one σ m K few c s a. c.same s (λ b. never p one σ.g.said m few b) a;
  accepts = λ σ r m c. accepted p σ.g σ.v (kept-all p (start p) σ r (inv_start p)).facts m c;
}
  where
    now : (σ : State) → Inv p σ → (m : Mask) → Choice p σ.g.un m → (E : ℕ → ℕ) → ((z : ℕ) → L p σ.v m z → (k : ℕ) × (k < p.Z) × (E k ≡ z))
        → Claim p σ m (best_stamp p σ.v m E)
    now σ i m c E cover = claim p σ i σ.g σ.v i.facts refl refl refl refl refl m c (best_stamp p σ.v m E) (computed p σ.g σ.v i.facts m c E cover)
