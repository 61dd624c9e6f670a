-- (4) Reclaim's resets of a segment without live blocks keep the drive facts at every prefix. Assumes nothing.
use Rattle.std.specs.Prelude.{◌≡◌, ◌⊎◌, ◌≢◌, ℕ, ◌≤◌, take}
use Rattle.std.proofs.Common.{sym, ◌∙◌, inl, inr, ⊎_elim, arith}
use Rattle.proof_crash_machine.specs.Val.{Val}
use Rattle.proof_crash_machine.specs.View.{ItemView, ItemStore, apply, apply_all, emptied_at, along, along_all, resets, ResetOf, resets_are}
use Rattle.proof_crash_machine.specs.Facts.{Par, None, Ghost, Counted, Facts}
use Rattle.proof_crash_machine.specs.Facts.Pair.{alone}
use Rattle.proof_crash_machine.specs.Lemma.{pair_alone}
use Rattle.proof_crash_machine.specs.Reset.{Floor, May, Counted_reset, reset_kept}

-- no live block in z: each address has a block at its floor or above that counts in another segment
abbrev pub Quiet : Par → Ghost → ItemView → ℕ → Type 0
Quiet p g v z = (a : ℕ) → (g.base a ≡ 0)
    ⊎ ((x : Val) × (c : Counted p g.hd v g.un x) × (c.z ≢ z) × (x.addr ≡ a) × (g.base a ≤ x.stamp))

module _ (p : Par) (g : Ghost) (z : ℕ) (none : None p g.un) (no_pair : g.pr ≡ alone) where
  may : (v : ItemView) → May p g v z
  may v = record { none = none; safe = λ w o e. absurd (pair_alone (sym e ∙ no_pair)) }

  quiet_kept : (v : ItemView) (d : ℕ) → Quiet p g v z → Quiet p g (emptied_at v d z) z
  quiet_kept v d q a = ⊎_elim (λ w. inl w)
      (λ (w : (x : Val) × (c : Counted p g.hd v g.un x) × (c.z ≢ z) × (x.addr ≡ a) × (g.base a ≤ x.stamp)).
      inr (w.0, Counted_reset v d z p g g.un w.0 w.1 w.2, w.2, w.3, w.4)) (q a)

  quiet_floor : (v : ItemView) → Quiet p g v z → Floor p g v
  quiet_floor v q a = ⊎_elim (λ w. inl w)
      (λ (w : (x : Val) × (c : Counted p g.hd v g.un x) × (c.z ≢ z) × (x.addr ≡ a) × (g.base a ≤ x.stamp)). inr (w.0, w.1, w.3, w.4)) (q a)

  quiet_reset_step : (v : ItemView) (s : ItemStore) → ResetOf p.N z s → Facts p g v × Quiet p g v z → Facts p g (apply v s) × Quiet p g (apply v s) z
  unfolding apply
  quiet_reset_step v s (d, l, e) (h, q) = rw e
      (reset_kept p g v d z l (may v) h (quiet_floor (emptied_at v d z) (quiet_kept v d q)), quiet_kept v d q)

  -- wherever the power is cut
  pub reclaim_facts : (v : ItemView) → Facts p g v → Quiet p g v z → (k : ℕ) → Facts p g (apply_all v (take k (resets z 0 p.N)))
  reclaim_facts v h q k = (along (λ (u : ItemView). Facts p g u × Quiet p g u z) (ResetOf p.N z) quiet_reset_step (resets z 0 p.N)
      (resets_are p.N z 0 p.N (omega arith)) v (h, q) k).0

  pub reclaimed_end : (v : ItemView) → Facts p g v → Quiet p g v z → Facts p g (apply_all v (resets z 0 p.N))
  reclaimed_end v h q = (along_all (λ (u : ItemView). Facts p g u × Quiet p g u z) (ResetOf p.N z) quiet_reset_step (resets z 0 p.N)
      (resets_are p.N z 0 p.N (omega arith)) v (h, q)).0
