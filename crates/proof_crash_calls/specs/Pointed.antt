-- The address table when a stripe completes: every entry is still the place of a record that counts, at or above the floor. Assumes nothing.
use Rattle.std.specs.Prelude.{◌≡◌, Bool, cond, ◌⊎◌, ◌≢◌, ℕ, ◌*◌, ◌^◌, ◌≤◌, ◌<◌}
use Rattle.std.proofs.Math.Path.{refl, ap}
use Rattle.std.proofs.Common.{sym, ◌∙◌, ⊎_elim, lt-ltb, ltb-true, arith}
use mathlib.Core.List.{List, [], ◌∷◌}
use Rattle.std.proofs.Math.Bool.{true, false}
use Rattle.std.proofs.Math.Logic.{inl, inr}
use Rattle.std.proofs.Math.Decide.{dec_lt, ℕ_discrete}
use Rattle.std.proofs.Math.Dec.{ltb}
use Rattle.std.proofs.Math.ListN.{length}
use Rattle.spec.specs.declared.Params.{Params}
use Rattle.spec.specs.Bytes.{be_of, to_be, part, splice}
use Rattle.spec.specs.Drives.{View}
use Rattle.spec.specs.Landing.{held, pointed}
use Rattle.spec.specs.Lists.Opt.{some}
use Rattle.spec.specs.Memory.{place_at_of, set_place}
use Rattle.spec.specs.Params.{addresses_len}
use Rattle.spec.specs.Rank.{Cand, beats, better, best, place_or, cands_of}
use Rattle.law_basic.specs.Be.{length-to_be, be_of-to_be}
use Rattle.law_basic.specs.Splice.{part-splice, part-splice-below, part-splice_above}
use Rattle.law_drives.specs.Pointed.{set_fits, set_long}
use Rattle.law_drives.specs.Tests.{cond_true, cond_false}
use Rattle.proof_crash_items.specs.Cands.{beats_true, beats_false}
use Rattle.proof_crash_items.specs.Member.{Has}

-- ---- one place set

module _ (p : Params) (tb : List ℕ) (long : length tb ≡ addresses_len p) (a q : ℕ) (al : a < p.L) where
  pub place_set : q < 256 ^ 4 → place_at_of (set_place tb a q) a ≡ q
  unfolding place_at_of set_place
  place_set b =
      ap (λ (n : ℕ). be_of (part (4 * a) n (splice tb (4 * a) (to_be 4 q)))) (sym (length-to_be 4 q))
      ∙ ap be_of (part-splice tb (4 * a) (to_be 4 q) (set_fits p tb a q long al)) ∙ be_of-to_be 4 q b

  pub place_other : (b : ℕ) → b < p.L → b ≢ a → place_at_of (set_place tb a q) b ≡ place_at_of tb b
  unfolding place_at_of set_place
  place_other b bl n = go (dec_lt b a)
    where
      end : length tb ≡ 4 * p.L
      end = long ∙ (unfold addresses_len in refl)

      go : Dec (b < a) → be_of (part (4 * b) 4 (splice tb (4 * a) (to_be 4 q))) ≡ be_of (part (4 * b) 4 tb)
      go (yes l) = ap be_of (part-splice-below tb (4 * a) (to_be 4 q) (set_fits p tb a q long al) (4 * b) 4 (omega arith))
      go (no l) = ap be_of (part-splice_above tb (4 * a) (to_be 4 q) (set_fits p tb a q long al) (4 * b) 4 (omega (arith, n, length-to_be 4 q)) (omega (arith, end)))

-- ---- the table of a completed stripe

module _ (p : Params) (v : View) (tb : List ℕ) (cs : List Cand) where
  -- what an address of the stripe points at
  abbrev pub point_to : ℕ → ℕ
  point_to a = place_or (best (held p v tb a) (cands_of a cs))

  one : Cand → List ℕ → List ℕ
  one c t = cond (ltb c.address p.L) (set_place t c.address (point_to c.address)) t

  one_long : (c : Cand) (t : List ℕ) → length t ≡ addresses_len p → length (one c t) ≡ addresses_len p
  unfolding one
  one_long c t e = go (ltb c.address p.L) refl
    where
      go : (b : Bool) → ltb c.address p.L ≡ b → length (cond b (set_place t c.address (point_to c.address)) t) ≡ addresses_len p
      go true q = set_long p t c.address (point_to c.address) e (ltb-true c.address p.L q)
      go false q = e

  one-other : (c : Cand) (t : List ℕ) → length t ≡ addresses_len p → (a : ℕ) → a < p.L → c.address ≢ a → place_at_of (one c t) a ≡ place_at_of t a
  unfolding one
  one-other c t e a al n = go (ltb c.address p.L) refl
    where
      go : (b : Bool) → ltb c.address p.L ≡ b → place_at_of (cond b (set_place t c.address (point_to c.address)) t) a ≡ place_at_of t a
      go true q = place_other p t e c.address (point_to c.address) (ltb-true c.address p.L q) a al (λ w. n (sym w))
      go false q = refl

  one_same : (c : Cand) (t : List ℕ) → length t ≡ addresses_len p → (a : ℕ) → a < p.L → c.address ≡ a → point_to a < 256 ^ 4 → place_at_of (one c t) a ≡ point_to a
  unfolding one
  one_same c t e a al n b =
      ap (λ (x : ℕ). place_at_of (cond (ltb x p.L) (set_place t x (point_to x)) t) a) n
      ∙ ap (λ (x : List ℕ). place_at_of x a) (cond_true (ltb a p.L) (set_place t a (point_to a)) t (lt-ltb a p.L al)) ∙ place_set p t e a (point_to a) al b

  pointed-step : (c : Cand) (ds : List Cand) (t : List ℕ) → pointed p v tb cs (c ∷ ds) t ≡ pointed p v tb cs ds (one c t)
  unfolding pointed one
  pointed-step c ds t = refl

  pub pointed_none : (ds : List Cand) (t : List ℕ) → length t ≡ addresses_len p → (a : ℕ) → a < p.L → ((c : Cand) → Has c ds → c.address ≢ a)
      → place_at_of (pointed p v tb cs ds t) a ≡ place_at_of t a
  pointed_none [] t e a al n = unfold pointed in refl
  pointed_none (c ∷ ds) t e a al n =
      ap (λ (x : List ℕ). place_at_of x a) (pointed-step c ds t) ∙ pointed_none ds (one c t) (one_long c t e) a al (λ d m. n d (inr m)) ∙ one-other c t e a al (n c (inl refl))

  pub pointed_some : (ds : List Cand) (t : List ℕ) → length t ≡ addresses_len p → (a : ℕ) → a < p.L → point_to a < 256 ^ 4
      → (place_at_of t a ≡ point_to a) ⊎ ((c : Cand) × Has c ds × (c.address ≡ a))
      → place_at_of (pointed p v tb cs ds t) a ≡ point_to a
  pointed_some [] t e a al b (inl q) = unfold pointed in q
  pointed_some [] t e a al b (inr (c, m, q)) = absurd m
  pointed_some (c ∷ ds) t e a al b w = ap (λ (x : List ℕ). place_at_of x a) (pointed-step c ds t) ∙ pointed_some ds (one c t) (one_long c t e) a al b (go w (ℕ_discrete c.address a))
    where
      go : (place_at_of t a ≡ point_to a) ⊎ ((d : Cand) × Has d (c ∷ ds) × (d.address ≡ a)) → Dec (c.address ≡ a)
          → (place_at_of (one c t) a ≡ point_to a) ⊎ ((d : Cand) × Has d ds × (d.address ≡ a))
      go w (yes k) = inl (one_same c t e a al k b)
      go (inl q) (no k) = inl (one-other c t e a al k ∙ q)
      go (inr (d, inl m, q)) (no k) = absurd (k (ap (λ (x : Cand). x.address) (sym m) ∙ q))
      go (inr (d, inr m, q)) (no k) = inr (d, m, q)

-- ---- the best of one and some

pub best_some : (b : Cand) (l : List Cand) → (w : Cand) × (best (some b) l ≡ some w) × ((w ≡ b) ⊎ Has w l) × (b.stamp ≤ w.stamp) × ((c : Cand) → Has c l → c.stamp ≤ w.stamp)
unfolding best better
best_some b [] = (b, refl, inl refl, omega arith, λ c m. absurd m)
best_some b (c ∷ l) = go (beats c b) refl (best_some c l) (best_some b l)
  where
    go : (t : Bool) → beats c b ≡ t → (w : Cand) × (best (some c) l ≡ some w) × ((w ≡ c) ⊎ Has w l) × (c.stamp ≤ w.stamp) × ((d : Cand) → Has d l → d.stamp ≤ w.stamp)
        → (w : Cand) × (best (some b) l ≡ some w) × ((w ≡ b) ⊎ Has w l) × (b.stamp ≤ w.stamp) × ((d : Cand) → Has d l → d.stamp ≤ w.stamp)
        → (w : Cand) × (best (some (cond (beats c b) c b)) l ≡ some w) × ((w ≡ b) ⊎ Has w (c ∷ l)) × (b.stamp ≤ w.stamp) × ((d : Cand) → Has d (c ∷ l) → d.stamp ≤ w.stamp)
    go true e x y = (
      x.0,
      ap (λ (d : Cand). best (some d) l) (cond_true (beats c b) c b e) ∙ x.1,
      inr x.2,
      omega (arith, beats_true c b e, x.3),
      λ d m. ⊎_elim (λ (q : d ≡ c). let z : d.stamp ≡ c.stamp = ap (λ (y : Cand). y.stamp) q in omega (arith, z, x.3)) (λ (q : Has d l). x.4 d q) m,
    )
    go false e x y = (
      y.0,
      ap (λ (d : Cand). best (some d) l) (cond_false (beats c b) c b e) ∙ y.1,
      ⊎_elim (λ (q : y.0 ≡ b). inl q) (λ (q : Has y.0 l). inr (inr q)) y.2,
      y.3,
      λ d m. ⊎_elim (λ (q : d ≡ c). let z : d.stamp ≡ c.stamp = ap (λ (y : Cand). y.stamp) q in omega (arith, z, beats_false c b e, y.3)) (λ (q : Has d l). y.4 d q) m,
    )
