-- Restart, step 4: the resets of the segments that steps 1 and 2 drop keep the drive facts at every prefix. Assumes nothing.
use Rattle.std.specs.Prelude.{◌≡◌, List, false, ◌⊎◌, ◌≢◌, ℕ, ◌≤◌, ◌<◌}
use Rattle.std.proofs.Common.{sym, ◌∙◌, subst}
use Rattle.std.proofs.Math.Logic.{inl, inr, ⊎_elim}
use Rattle.std.proofs.Math.Decide.{ℕ_discrete}
use Rattle.proof_crash_machine.specs.Val.{Val}
use Rattle.proof_crash_machine.specs.Facts.Pair.{alone, pair}
use Rattle.proof_crash_machine.specs.Lemma.{pair_o, old_own}
use Rattle.proof_crash_machine.specs.View.{ItemView, ItemStore, emptied_at, apply, apply_all, AllS, along, along_all}
use Rattle.proof_crash_machine.specs.View.ItemStore.{reset}
use Rattle.proof_crash_machine.specs.Facts.{Par, None, self_none, Ghost, L, R, Counted, Used, WholeZone, Moved, Swap, Facts, L_same, used, dec_l}
use Rattle.proof_crash_machine.specs.Reset.{Floor, May, reset_kept, Counted_reset, L_gone, L_reset, Same_reset}
use Rattle.proof_crash_machine.specs.Steps.{Prefix}
use Rattle.proof_crash_machine.specs.Ghosts.{with_pr, unpaired}

module _ (p : Par) (g : Ghost) (none : None p g.un) where
  abbrev Gone : ItemView → ℕ → Type 0
  Gone v z = R p g.hd v g.un z → ⊥

  -- w remains unless o is left
  w_own : (v : ItemView) → Swap p g v → (w o : ℕ) → g.pr ≡ pair w o → L p v g.un w → (L p v g.un o → ⊥) → R p g.hd v g.un w
  w_own v h w o e lw nl = record {
    left = lw;
    own = λ y ly q. nl
        (subst (λ (k : ℕ). L p v g.un k) (sym (pair_o (sym e ∙ h.one w y (used p g v g.un w (self_none p g.un none) lw) (used p g v g.un y (self_none p g.un none) ly) q))) ly);
  }

  -- a dropped segment may be reset
  drop_may : (v : ItemView) → Swap p g v → (z : ℕ) → Gone v z → May p g v z
  drop_may v h z k = record { none = none; safe = λ w o e. go w o e (ℕ_discrete z o) (ℕ_discrete z w) (h.safe w o e) }
    where
      go : (w o : ℕ) → g.pr ≡ pair w o → Dec (z ≡ o) → Dec (z ≡ w) → (WholeZone p g.un v o) ⊎ (Moved p g.un v w o)
          → ((z ≢ o) × WholeZone p g.un v o) ⊎ ((z ≢ w) × Moved p g.un v w o)
      go w o e (yes q) r (inl a) = absurd (k (rw q (old_own p g v g.un w o (self_none p g.un none) h e a)))
      go w o e (yes q) r (inr b) = inr ((λ s. (h.named w o e).0 (sym s ∙ q)), b)
      go w o e (no q) r (inl a) = inl (q, a)
      go w o e (no q) (no r) (inr b) = inr (r, b)
      go w o e (no q) (yes r) (inr b) = inl (q, whole (dec_l p v g.un o))
        where
          whole : Dec (L p v g.un o) → WholeZone p g.un v o
          whole (yes l) = l
          whole (no l) = absurd (k (rw r (w_own v h w o e b.whole l)))

  -- and then no dropped one comes back
  gone_kept : (v : ItemView) → Swap p g v → (d z : ℕ) → d < p.N → Gone v z → (y : ℕ) → Gone v y → Gone (emptied_at v d z) y
  gone_kept v h d z l k y j r = go (ℕ_discrete y z)
    where
      n : g.un d ≡ false
      n = none d l

      ly : L p v g.un y
      ly = L_reset v d z p g g.un y r.left

      go : Dec (y ≡ z) → ⊥
      go (yes q) = L_gone v d z p g g.un l n (subst (λ (i : ℕ). L p (emptied_at v d z) g.un i) q r.left)
      go (no q) = j (record { left = ly; own = λ o lo e. case o lo e (ℕ_discrete o z) })
        where
          case : (o : ℕ) → L p v g.un o → g.hd.cop y ≡ g.hd.ser o → Dec (o ≡ z) → ⊥
          case o lo e (no i) = r.own o (L_same p v (emptied_at v d z) g.un o (Same_reset v d z p g g.un o (inl i)) lo) e
          case o lo e (yes i) = k (subst (λ (t : ℕ). R p g.hd v g.un t) i
              (old_own p g v g.un y o (self_none p g.un none) h (h.one y o (used p g v g.un y (self_none p g.un none) ly) (used p g v g.un o (self_none p g.un none) lo) e) lo))

  -- what is reset: drives of segments that the start of the restart dropped
  abbrev pub DropOf : (ℕ → Type 0) → ItemStore → Type 0
  DropOf D s = (d : ℕ) × (z : ℕ) × (d < p.N) × D z × (s ≡ reset d z)

  abbrev I : (ℕ → Type 0) → ItemView → Type 0
  I D v = Facts p g v × ((z : ℕ) → D z → Gone v z)

  drop-step : (D : ℕ → Type 0) (v : ItemView) (s : ItemStore) → DropOf D s → I D v → I D (apply v s)
  unfolding apply
  drop-step D v s (d, z, l, k, e) (h, q) = rw e (reset_kept p g v d z l (drop_may v h.swap z (q z k)) h floor, λ y j. gone_kept v h.swap d z l (q z k) y (q y j))
    where
      floor : Floor p g (emptied_at v d z)
      floor a = ⊎_elim (λ t. inl t)
          (λ (t : (x : Val) × Counted p g.hd v g.un x × (x.addr ≡ a) × (g.base a ≤ x.stamp)).
          inr (t.0, Counted_reset v d z p g g.un t.0 t.1 (λ i. q z k (subst (λ (j : ℕ). R p g.hd v g.un j) i t.1.rem)), t.2, t.3)) (h.content.floor a)

  pub dropped : (D : ℕ → Type 0) (v : ItemView) (ss : List ItemStore) → AllS (DropOf D) ss → Facts p g v → ((z : ℕ) → D z → Gone v z) → Prefix (Facts p g) v ss
  dropped D v ss a h q k = (along (I D) (DropOf D) (drop-step D) ss a v (h, q) k).0

  pub dropped_end : (D : ℕ → Type 0) (v : ItemView) (ss : List ItemStore) → AllS (DropOf D) ss → Facts p g v → ((z : ℕ) → D z → Gone v z) → Facts p g (apply_all v ss)
  dropped_end D v ss a h q = (along_all (I D) (DropOf D) (drop-step D) ss a v (h, q)).0

  -- once all that is used remains, there is no pair
  pub settle_facts : (v : ItemView) → Facts p g v → ((z : ℕ) → Used p g.un v z → R p g.hd v g.un z) → Facts p (with_pr g alone) v
  settle_facts v h k = unpaired p g v h (λ w o e. go w o e (dec_l p v g.un o))
    where
      go : (w o : ℕ) → g.pr ≡ pair w o → Dec (L p v g.un o) → (Used p g.un v w → ⊥) ⊎ (Used p g.un v o → ⊥)
      go w o e (yes l) = inl (λ i. (k w i).own o l (h.swap.named w o e).1)
      go w o e (no l) = inr (λ i. l (k o i).left)
