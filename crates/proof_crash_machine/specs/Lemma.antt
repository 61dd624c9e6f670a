-- (2) What counts with none missing counts whichever drive is missing. Assumes nothing.
use Rattle.std.specs.Prelude.{◌≡◌, refl, ◌⊎◌, ℕ, ◌≤◌}
use Rattle.std.proofs.Common.{sym, ◌∙◌, subst, inl, inr, arith}
use Rattle.std.proofs.Math.Decide.{ℕ_discrete}
use Rattle.proof_crash_machine.specs.Val.{Val}
use Rattle.proof_crash_machine.specs.View.{ItemView}
use Rattle.proof_crash_machine.specs.Mask.{Mask, count}
use Rattle.proof_crash_machine.specs.Facts.{Par, self, Pair, Ghost, Choice, L, R, Stripe, Datum, Counted, Used, WholeZone, Moved, Swap, dec_l, L-more, Stripe-more, used, whole_L}
use Rattle.proof_crash_machine.specs.Facts.Pair.{alone, pair}

pub pair_w : {w o a b : ℕ} → pair w o ≡ pair a b → w ≡ a
pair_w e = cc

pub pair_o : {w o a b : ℕ} → pair w o ≡ pair a b → o ≡ b
pair_o e = cc

pub pair_alone : {w o : ℕ} → pair w o ≡ alone → ⊥
pair_alone e = let z : ◌≡◌ {A = ℕ} 0 1 = cc in let q : ⊥ = omega arith in q

-- the old segment of a pair is nobody's copy
pub old_own : (p : Par) (g : Ghost) (v : ItemView) (m : Mask) (w o : ℕ) → Choice p g.un m → Swap p g v → g.pr ≡ pair w o → L p v m o → R p g.hd v m o
old_own p g v m w o c h e l = record {
  left = l;
  own = λ y ly q.
      let uo : Used p g.un v o = used p g v m o c l in
      let q' : pair w o ≡ pair o y = sym e ∙ h.one o y uo (used p g v m y c ly) q in
      let ow : w ≡ o = pair_w q' in
      (h.named w o e).0 ow;
}

module _ (p : Par) (g : Ghost) (v : ItemView) (h : Swap p g v) (m : Mask) (mc : Choice p g.un m) (few : count p.N g.un ≤ p.P) where
  -- a segment that is the copy of none left for m remains
  left_remains_choice : (z : ℕ) → L p v g.un z → ((o : ℕ) → g.pr ≡ pair z o → L p v m o → ⊥) → R p g.hd v m z
  left_remains_choice z l k = record {
    left = L-more p v g.un m z mc l;
    own = λ o lo q. k o (h.one z o (used p g v m z mc (L-more p v g.un m z mc l)) (used p g v m o mc lo) q) lo;
  }

  -- for every choice: what counts for the least counts
  pub counted_choice : (x : Val) → Counted p g.hd v g.un x → Counted p g.hd v m x
  counted_choice x c = go g.pr refl
    where
      same : R p g.hd v m c.z → Counted p g.hd v m x
      same r = record { z = c.z; s = c.s; f = c.f; rem = r; st = Stripe-more p v g.un m c.z c.s c.f mc c.st; dt = c.dt }

      moved : (w o : ℕ) → g.pr ≡ pair w o → w ≡ c.z → L p v m o → (WholeZone p g.un v o) ⊎ (Moved p g.un v w o) → Counted p g.hd v m x
      moved w o e q l (inl a) =
          absurd (c.rem.own o (whole_L p g v g.un o (self p g.un few) a) (subst (λ (y : ℕ). g.hd.cop y ≡ g.hd.ser o) q (h.named w o e).1))
      moved w o e q l (inr b) =
          let t : (s' : ℕ) × (f' : ℕ → Val) × Stripe p v m o s' f' × Datum p s' f' x =
          b.still m mc l c.s c.f (subst (λ (y : ℕ). Stripe p v g.un y c.s c.f) (sym q) c.st) x c.dt in
          record { z = o; s = t.0; f = t.1; rem = old_own p g v m w o mc h e l; st = t.2; dt = t.3 }

      two : (w o : ℕ) → g.pr ≡ pair w o → Dec (w ≡ c.z) → Dec (L p v m o) → Counted p g.hd v m x
      two w o e (yes q) (yes l) = moved w o e q l (h.safe w o e)
      two w o e (yes q) (no l) = same (left_remains_choice c.z c.rem.left (λ o' e' l'. l (subst (λ (y : ℕ). L p v m y) (sym (pair_o (sym e ∙ e'))) l')))
      two w o e (no q) (yes l) = same (left_remains_choice c.z c.rem.left (λ o' e' l'. q (pair_w (sym e ∙ e'))))
      two w o e (no q) (no l) = same (left_remains_choice c.z c.rem.left (λ o' e' l'. q (pair_w (sym e ∙ e'))))

      go : (b : Pair) → g.pr ≡ b → Counted p g.hd v m x
      go alone e = same (left_remains_choice c.z c.rem.left (λ o' e' l'. absurd (pair_alone (sym e' ∙ e))))
      go (pair w o) e = two w o e (ℕ_discrete w c.z) (dec_l p v m o)
