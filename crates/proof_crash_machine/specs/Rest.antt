-- After the resets of a restart all that is used remains; and where nothing is to be rewritten the drives are clean. Assumes nothing.
use Rattle.std.specs.Prelude.{◌≡◌, ◌⊎◌, ℕ, ◌≤◌, ◌<◌}
use Rattle.std.proofs.Math.Path.{refl}
use Rattle.std.proofs.Common.{sym, ◌∙◌, subst, inl, inr, arith}
use mathlib.Core.List.{List, [], ◌∷◌}
use Rattle.std.proofs.Math.Decide.{ℕ_discrete, dec_le}
use Rattle.std.proofs.Math.ListN.{length}
use Rattle.proof_crash_machine.specs.Val.{Val}
use Rattle.proof_crash_machine.specs.Facts.Pair.{alone, pair}
use Rattle.proof_crash_machine.specs.Lemma.{pair_alone, pair_o, pair_w}
use Rattle.proof_crash_machine.specs.View.{Item, ItemView, ItemStore, InI, apply, apply_all, AllS}
use Rattle.proof_crash_machine.specs.View.Item.{chunk}
use Rattle.proof_crash_machine.specs.View.ItemStore.{reset}
use Rattle.proof_crash_machine.specs.Mask.{Mask}
use Rattle.proof_crash_machine.specs.Facts.{Par, None, self_none, Pair, Ghost, Choice, L, R, Stripe, Used, Swap, Facts, used, dec_l, dec_all}
use Rattle.proof_crash_machine.specs.Reset.{gone, reset_zone_kept, each_reset, len_reset}
use Rattle.proof_crash_machine.specs.Drop.{DropOf}
use Rattle.proof_crash_machine.specs.Restart.{full_stripe}
use Rattle.proof_crash_machine.specs.Rebuild.{once_in}
use Rattle.proof_crash_machine.specs.Finish.{Clean}

-- whether a segment remains can be decided: only its partner in the pair can push it out
pub dec_r : (p : Par) (g : Ghost) (v : ItemView) (m : Mask) → Choice p g.un m → Swap p g v → (z : ℕ) → Dec (R p g.hd v m z)
dec_r p g v m c h z = go (dec_l p v m z) g.pr refl
  where
    alright : L p v m z → ((o : ℕ) → g.pr ≡ pair z o → L p v m o → ⊥) → R p g.hd v m z
    alright l k = record { left = l; own = λ o lo q. k o (h.one z o (used p g v m z c l) (used p g v m o c lo) q) lo }

    two : L p v m z → (w o : ℕ) → g.pr ≡ pair w o → Dec (w ≡ z) → Dec (L p v m o) → Dec (R p g.hd v m z)
    two l w o e (no q) k = yes (alright l (λ o' e' lo. q (pair_w (sym e ∙ e'))))
    two l w o e (yes q) (yes k) = no (λ r. r.own o k (subst (λ (y : ℕ). g.hd.cop y ≡ g.hd.ser o) q (h.named w o e).1))
    two l w o e (yes q) (no k) = yes (alright l (λ o' e' lo. k (subst (λ (y : ℕ). L p v m y) (sym (pair_o (sym e ∙ e'))) lo)))

    go : Dec (L p v m z) → (b : Pair) → g.pr ≡ b → Dec (R p g.hd v m z)
    go (no l) b e = no (λ r. l r.left)
    go (yes l) alone e = yes (alright l (λ o e' lo. pair_alone (sym e' ∙ e)))
    go (yes l) (pair w o) e = two l w o e (ℕ_discrete w z) (dec_l p v m o)

abbrev pub InS : ItemStore → List ItemStore → Type 0
InS s [] = ⊥
InS s (t ∷ ss) = (s ≡ t) ⊎ InS s ss

module _ (p : Par) (g : Ghost) (none : None p g.un) (D : ℕ → Type 0) where
  drops_keep : (v : ItemView) (ss : List ItemStore) → AllS (DropOf p g none D) ss → (e y : ℕ) → (D y → ⊥) → apply_all v ss e y ≡ v e y
  unfolding apply_all apply
  drops_keep v [] a e y n = refl
  drops_keep v (s ∷ ss) a e y n = go a.0 (λ u. drops_keep u ss a.1 e y n)
    where
      go : DropOf p g none D s → ((u : ItemView) → apply_all u ss e y ≡ u e y) → apply_all (apply v s) ss e y ≡ v e y
      go (d, z, l, k, q) ih = ih (apply v s) ∙ rw q (sym (reset_zone_kept v d z e y (λ i. n (subst D (sym i) k))))

  empty_stays : (v : ItemView) (ss : List ItemStore) → AllS (DropOf p g none D) ss → (e y : ℕ) → v e y ≡ [] → apply_all v ss e y ≡ []
  unfolding apply_all apply
  empty_stays v [] a e y n = n
  empty_stays v (s ∷ ss) a e y n = go a.0 (empty_stays (apply v s) ss a.1 e y)
    where
      go : DropOf p g none D s → (apply v s e y ≡ [] → apply_all (apply v s) ss e y ≡ []) → apply_all (apply v s) ss e y ≡ []
      go (d, z, l, k, q) ih = ih (rw q (each_reset v d z (λ (e y : ℕ) (l : List Item). l ≡ []) refl e y n))

  shrink : (v : ItemView) (ss : List ItemStore) → AllS (DropOf p g none D) ss → (e y : ℕ) → 0 < length (apply_all v ss e y) → 0 < length (v e y)
  unfolding apply_all apply
  shrink v [] a e y b = b
  shrink v (s ∷ ss) a e y b = go a.0 (shrink (apply v s) ss a.1 e y b)
    where
      go : DropOf p g none D s → 0 < length (apply v s e y) → 0 < length (v e y)
      go (d, z, l, k, q) k' = len_reset v d z e y (subst (λ (t : ItemStore). 0 < length (apply v t e y)) q k')

  emptied : (v : ItemView) (ss : List ItemStore) → AllS (DropOf p g none D) ss → (e y : ℕ) → InS (reset e y) ss → apply_all v ss e y ≡ []
  unfolding apply_all apply
  emptied v [] a e y m = absurd m
  emptied v (s ∷ ss) a e y (inl q) = empty_stays (apply v s) ss a.1 e y (rw (← q) (gone v e y))
  emptied v (s ∷ ss) a e y (inr m) = emptied (apply v s) ss a.1 e y m

-- what steps 1 and 2 drop
abbrev pub Dropped : Par → Ghost → ItemView → ℕ → Type 0
Dropped p g v z = R p g.hd v g.un z → ⊥

-- a segment not full on all drives
abbrev pub Unsealed : Par → ItemView → ℕ → Type 0
Unsealed p v z = ((e : ℕ) → e < p.N → p.cap ≤ length (v e z)) → ⊥

module _ (p : Par) (g : Ghost) (v : ItemView) (h : Facts p g v) (none : None p g.un) (ss : List ItemStore) (are : AllS (DropOf p g none (Dropped p g v)) ss)
    (every : (z : ℕ) → Dropped p g v z → (d : ℕ) → d < p.N → 0 < length (v d z) → InS (reset d z) ss) where
  abbrev u : ItemView
  u = apply_all v ss

  empty : (z : ℕ) → Dropped p g v z → (e : ℕ) → e < p.N → 0 < length (u e z) → ⊥
  empty z k e l b =
      let q : 0 < length {A = Item} [] =
      subst (λ (x : List Item). 0 < length x) (emptied p g none (Dropped p g v) v ss are e z (every z k e l (shrink p g none (Dropped p g v) v ss are e z b))) b in
      let j : ⊥ = omega arith in
      j

  rest_same : (z : ℕ) → R p g.hd v g.un z → (e : ℕ) → u e z ≡ v e z
  rest_same z r e = drops_keep p g none (Dropped p g v) v ss are e z (λ k. k r)

  pub rest_of : (z : ℕ) → Used p g.un u z → R p g.hd u g.un z
  rest_of z (d, t, b) = go (dec_r p g v g.un (self_none p g.un none) h.swap z)
    where
      other : (o : ℕ) → L p u g.un o → Dec (R p g.hd v g.un o) → L p v g.un o
      other o l (yes r) = r.left
      other o l (no k) = absurd (empty o k 0 (omega (arith, p.some)) (l 0 (omega (arith, p.some)) (none 0 (omega (arith, p.some)))))

      go : Dec (R p g.hd v g.un z) → R p g.hd u g.un z
      go (yes r) = record {
        left = λ e l n. subst (λ (x : List Item). 0 < length x) (sym (rest_same z r e)) (r.left e l n);
        own = λ o l q. r.own o (other o l (dec_r p g v g.un (self_none p g.un none) h.swap o)) q;
      }
      go (no k) = absurd (empty z k d t.0 b)

-- nothing to rewrite: every chunk of an unsealed segment is of a counted stripe
pub clean_of : (p : Par) (g : Ghost) (v : ItemView) → Facts p g v → None p g.un → g.pr ≡ alone → ((z : ℕ) → Used p g.un v z → R p g.hd v g.un z)
    → ((d z s : ℕ) (x : Val) → d < p.N → Unsealed p v z → InI (chunk s x) (v d z) → (f : ℕ → Val) × Stripe p v g.un z s f × (f d ≡ x)) → Clean p g v
clean_of p g v h none no_pair rest tidy = record {
  none = none;
  no_pair = no_pair;
  whole = λ z i. (rest z i).left;
  counted = λ d z s x l m. go d z s x l m (dec_all p.N (λ (e : ℕ). p.cap ≤ length (v e z)) (λ e. dec_le p.cap (length (v e z))));
  once = λ d z s x y l m k. once_in p g d z (v d z) (h.zones d z (l, none d l)) s x y m k;
}
  where
    go : (d z s : ℕ) (x : Val) → d < p.N → InI (chunk s x) (v d z) → Dec ((e : ℕ) → e < p.N → p.cap ≤ length (v e z)) → (f : ℕ → Val) × Stripe p v g.un z s f
        × (f d ≡ x)
    go d z s x l m (yes k) = full_stripe p g v h none z (λ e b. omega (arith, k e b, p.fits)) d s x l m
    go d z s x l m (no k) = tidy d z s x l k m
