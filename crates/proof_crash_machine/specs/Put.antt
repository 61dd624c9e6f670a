-- (1) What one more item in a zone that is not empty leaves as it was. Assumes nothing.
use Rattle.std.specs.Prelude.{◌≡◌, ◌⊎◌, ◌≢◌, ℕ, zero, suc, ◌<◌, get_or}
use Rattle.std.proofs.Common.{sym, ◌∙◌, arith, length-append}
use Rattle.std.proofs.Math.Path.{subst}
use mathlib.Core.List.{List, [], ◌∷◌, ◌++◌}
use Rattle.std.proofs.Math.Logic.{inl, inr, ⊎_elim}
use Rattle.std.proofs.Math.Decide.{dec_lt}
use Rattle.std.proofs.Math.ListN.{length, get_or-append}
use Rattle.std.proofs.Math.Seq.{get_or-append_seam}
use Rattle.proof_crash_machine.specs.Val.{Val}
use Rattle.proof_crash_machine.specs.View.{Item, ItemView, InI, with_item, upd_elim, upd_zone, upd_drive, item_left, in_cases}
use Rattle.proof_crash_machine.specs.View.Item.{chunk, foot}
use Rattle.proof_crash_machine.specs.Mask.{Mask}
use Rattle.proof_crash_machine.specs.Facts.{Par, Ghost, L, R, Stripe, Counted, Off, Used, WholeZone}

-- ---- one list
pub length-snoc : (l : List Item) (i : Item) → length (l ++ (i ∷ [])) ≡ suc (length l)
length-snoc l i = rw length-append (omega arith)

pub off_in : (l : List Item) (k : ℕ) (i : Item) → Off l k i → InI i l
off_in [] k i h = absurd (let q : ⊥ = omega (arith, h.0) in q)
off_in (j ∷ l) zero i h = inl (sym h.1)
off_in (j ∷ l) (suc k) i h = inr (off_in l k i (omega (arith, h.0), h.1))

pub off_cases : (l : List Item) (i j : Item) (k : ℕ) → Off (l ++ (i ∷ [])) k j → (Off l k j) ⊎ ((k ≡ length l) × (i ≡ j))
off_cases l i j k h = go (dec_lt k (length l))
  where
    go : Dec (k < length l) → (Off l k j) ⊎ ((k ≡ length l) × (i ≡ j))
    go (yes b) = inl (b, sym (get_or-append l (i ∷ []) (foot 0) k b) ∙ h.1)
    go (no b) =
        let e : k ≡ length l = omega (arith, h.0, length-snoc l i) in
        inr (e, sym (get_or-append_seam l i [] (foot 0)) ∙ subst (λ (n : ℕ). get_or (l ++ (i ∷ [])) n (foot 0) ≡ j) e h.1)

pub off_left : (l : List Item) (i : Item) (k : ℕ) → k < length l → get_or (l ++ (i ∷ [])) k (foot 0) ≡ get_or l k (foot 0)
off_left l i k b = get_or-append l (i ∷ []) (foot 0) k b

-- ---- the drives
module _ (v : ItemView) (d z : ℕ) (i : Item) where
  pub in_fwd : (j : Item) (e y : ℕ) → InI j (v e y) → InI j (with_item v d z i e y)
  unfolding with_item
  in_fwd j e y m = upd_elim (λ (l : List Item). InI j l) v d z (v d z ++ (i ∷ [])) e y
      (λ p q. item_left j (v d z) (i ∷ []) (subst (λ (k : ℕ). InI j (v d k)) q (subst (λ (k : ℕ). InI j (v k y)) p m))) (λ w. m)

  pub in_back : (j : Item) (e y : ℕ) → InI j (with_item v d z i e y) → (InI j (v e y)) ⊎ ((e ≡ d) × (y ≡ z) × (j ≡ i))
  unfolding with_item
  in_back j e y = upd_elim (λ (l : List Item). InI j l → (InI j (v e y)) ⊎ ((e ≡ d) × (y ≡ z) × (j ≡ i))) v d z (v d z ++ (i ∷ [])) e y
      (λ p q m. ⊎_elim (λ (w : InI j (v d z)). inl (subst (λ (k : ℕ). InI j (v k y)) (sym p) (subst (λ (k : ℕ). InI j (v d k)) (sym q) w)))
      (λ (w : j ≡ i). inr (p, q, w)) (in_cases j i (v d z) m)) (λ w m. inl m)

  pub len_fwd : (e y : ℕ) → 0 < length (v e y) → 0 < length (with_item v d z i e y)
  unfolding with_item
  len_fwd e y b = upd_elim (λ (l : List Item). 0 < length l) v d z (v d z ++ (i ∷ [])) e y (λ p q. omega (arith, length-snoc (v d z) i)) (λ w. b)

  pub zone_other : (e y : ℕ) → y ≢ z → with_item v d z i e y ≡ v e y
  unfolding with_item
  zone_other e y n = upd_zone v d z (v d z ++ (i ∷ [])) e y n

  pub drive_other : (e y : ℕ) → e ≢ d → with_item v d z i e y ≡ v e y
  unfolding with_item
  drive_other e y n = upd_drive v d z (v d z ++ (i ∷ [])) e y n

  -- what holds of each zone, if it holds of the changed one
  pub each_put : (Q : ℕ → ℕ → List Item → Type 0) → Q d z (v d z ++ (i ∷ [])) → (e y : ℕ) → Q e y (v e y) → Q e y (with_item v d z i e y)
  unfolding with_item
  each_put Q new e y old = upd_elim (Q e y) v d z (v d z ++ (i ∷ [])) e y
      (λ a b. subst (λ (k : ℕ). Q k y (v d z ++ (i ∷ []))) (sym a) (subst (λ (k : ℕ). Q d k (v d z ++ (i ∷ []))) (sym b) new)) (λ w. old)

  module _ (ne : 0 < length (v d z)) where
    pub len_back : (e y : ℕ) → 0 < length (with_item v d z i e y) → 0 < length (v e y)
    len_back e y = each_put (λ (e y : ℕ) (l : List Item). 0 < length l → 0 < length (v e y)) (λ b. ne) e y (λ b. b)

    module _ (p : Par) (g : Ghost) (m : Mask) where
      pub L_fwd : (y : ℕ) → L p v m y → L p (with_item v d z i) m y
      L_fwd y h e l n = len_fwd e y (h e l n)

      pub L_back : (y : ℕ) → L p (with_item v d z i) m y → L p v m y
      L_back y h e l n = len_back e y (h e l n)

      pub R_fwd : (y : ℕ) → R p g.hd v m y → R p g.hd (with_item v d z i) m y
      R_fwd y h = record { left = L_fwd y h.left; own = λ o l q. h.own o (L_back o l) q }

      pub R_back : (y : ℕ) → R p g.hd (with_item v d z i) m y → R p g.hd v m y
      R_back y h = record { left = L_back y h.left; own = λ o l q. h.own o (L_fwd o l) q }

      pub Stripe_fwd : (y s : ℕ) (f : ℕ → Val) → Stripe p v m y s f → Stripe p (with_item v d z i) m y s f
      Stripe_fwd y s f h = record { on = λ e l n. in_fwd (chunk s (f e)) e y (h.on e l n); word = h.word }

      pub Counted_fwd : (x : Val) → Counted p g.hd v m x → Counted p g.hd (with_item v d z i) m x
      Counted_fwd x c = record {
        z = c.z;
        s = c.s;
        f = c.f;
        rem = R_fwd c.z c.rem;
        st = Stripe_fwd c.z c.s c.f c.st;
        dt = c.dt;
      }

    pub Used_back : (p : Par) (g : Ghost) (y : ℕ) → Used p g.un (with_item v d z i) y → Used p g.un v y
    Used_back p g y (e, t, b) = (e, t, len_back e y b)

    pub Whole_fwd : (p : Par) (g : Ghost) (y : ℕ) → WholeZone p g.un v y → WholeZone p g.un (with_item v d z i) y
    Whole_fwd p g y h e l n = len_fwd e y (h e l n)
