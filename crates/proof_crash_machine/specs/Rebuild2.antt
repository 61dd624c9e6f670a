-- What a rebuild stores on its drive, zone by zone, is what `Rebuilt` asks. Assumes nothing.
use Rattle.std.specs.Prelude.{◌≡◌, List, [], ◌∷◌, ◌++◌, false, ◌⊎◌, ◌≢◌, get_or}
use Rattle.std.proofs.Math.Path.{refl, ap}
use Rattle.std.proofs.Common.{sym, ◌∙◌, subst, append-nil, append_assoc, inl, inr}
use Rattle.std.proofs.Math.Logic.{⊎_elim}
use Prim.Native.Nat.{ℕ, zero, suc, ◌+◌, ◌≤◌, ◌<◌}
use native.Mathlib.Omega.{arith}
use Rattle.std.proofs.Math.Decide.{ℕ_discrete}
use Rattle.std.proofs.Math.ListN.{length}
use Rattle.proof_crash_machine.specs.Val.{Val}
use Rattle.proof_crash_machine.specs.View.{Item, ItemView, ItemStore, InI, with_item, apply, apply_all, upd_same, chunk_num, chunk_val, chunk_hdr, chunk_foot, item_left, in_last}
use Rattle.proof_crash_machine.specs.View.Item.{hdr, chunk, foot}
use Rattle.proof_crash_machine.specs.View.ItemStore.{put}
use Rattle.proof_crash_machine.specs.Facts.{Par, self, word_unique, Ghost, R, Stripe, Off, Ragged, Facts}
use Rattle.proof_crash_machine.specs.Put
use Rattle.proof_crash_machine.specs.Rebuild.{Un, Rebuilt, once_in, in_off}
use Rattle.proof_crash_machine.specs.Rest.{dec_r}

-- ---- a run of puts into one zone appends
unfoldable pub puts : ℕ → ℕ → List Item → List ItemStore
puts d z [] = []
puts d z (i ∷ l) = put d z i ∷ puts d z l

pub puts_here : (v : ItemView) (d z : ℕ) (l : List Item) → apply_all v (puts d z l) d z ≡ v d z ++ l
unfolding puts apply_all apply with_item
puts_here v d z [] = sym (append-nil (v d z))
puts_here v d z (i ∷ l) = puts_here (with_item v d z i) d z l ∙ ap (λ (x : List Item). x ++ l) (upd_same v d z (v d z ++ (i ∷ []))) ∙ append_assoc (v d z) (i ∷ []) l

pub puts-other : (v : ItemView) (d z : ℕ) (l : List Item) (e y : ℕ) → y ≢ z → apply_all v (puts d z l) e y ≡ v e y
unfolding puts apply_all apply
puts-other v d z [] e y n = refl
puts-other v d z (i ∷ l) e y n = puts-other (with_item v d z i) d z l e y n ∙ Put.zone_other v d z i e y n

-- ---- what is stored: for each remaining segment the header, its counted stripes E z 0 .. rising, and the footer blocks
pub record RPlan (p : Par) (g : Ghost) (v : ItemView) : Type 0 where
  pub c : ℕ → ℕ
  pub src : ℕ → ℕ → ℕ
  pub E : ℕ → ℕ → ℕ → Val
  pub foots : ℕ → ℕ
  pub st : (z : ℕ) → R p g.hd v g.un z → (k : ℕ) → k < c z → Stripe p v g.un z (src z k) (E z k)
  pub every : (z s : ℕ) (f : ℕ → Val) → R p g.hd v g.un z → Stripe p v g.un z s f → (k : ℕ) × (k < c z) × (src z k ≡ s)
  pub inj : (z j k : ℕ) → j < c z → k < c z → src z j ≡ src z k → j ≡ k
  -- the counted stripes are the earlier groups and some of one
  pub grp : (z k : ℕ) → k < c z → (src z k < p.S) × (k < p.S) × (p.grp (src z k) ≡ p.grp k)
  pub sealed : (z : ℕ) → suc p.S < suc (c z + foots z) → (s : ℕ) → s < p.S → (k : ℕ) × (k < c z) × (src z k ≡ s)
  pub room : (z : ℕ) → suc (c z + foots z) ≤ p.cap
  pub ragged : (z : ℕ) → R p g.hd v g.un z → suc (c z + foots z) < p.cap → Ragged p g.un v z

module _ (p : Par) (g : Ghost) (v : ItemView) (π : RPlan p g v) where
  unfoldable pub chunks : ℕ → ℕ → ℕ → List Item
  chunks d z zero = hdr (g.hd.ser z) (g.hd.cop z) (g.hd.zn z) ∷ []
  chunks d z (suc k) = chunks d z k ++ (chunk (π.src z k) (π.E z k d) ∷ [])

  unfoldable pub column : ℕ → ℕ → ℕ → List Item
  column d z zero = chunks d z (π.c z)
  column d z (suc j) = column d z j ++ (foot j ∷ [])

  length_chunks : (d z k : ℕ) → length (chunks d z k) ≡ suc k
  unfolding chunks
  length_chunks d z zero = refl
  length_chunks d z (suc k) = Put.length-snoc (chunks d z k) (chunk (π.src z k) (π.E z k d)) ∙ ap suc (length_chunks d z k)

  length_column : (d z j : ℕ) → length (column d z j) ≡ suc (π.c z + j)
  unfolding column
  length_column d z zero = length_chunks d z (π.c z) ∙ omega arith
  length_column d z (suc j) = Put.length-snoc (column d z j) (foot j) ∙ ap suc (length_column d z j) ∙ omega arith

  -- where a chunk stands
  abbrev Is : ℕ → ℕ → ℕ → ℕ → Val → Type 0
  Is d z i s x = (k : ℕ) × (i ≡ suc k) × (k < π.c z) × (π.src z k ≡ s) × (π.E z k d ≡ x)

  off_chunks : (d z n i s : ℕ) (x : Val) → n ≤ π.c z → Off (chunks d z n) i (chunk s x) → Is d z i s x
  unfolding chunks
  off_chunks d z zero i s x b o = absurd (⊎_elim (λ (q : chunk s x ≡ hdr (g.hd.ser z) (g.hd.cop z) (g.hd.zn z)). chunk_hdr q) (λ q. q)
      (Put.off_in (hdr (g.hd.ser z) (g.hd.cop z) (g.hd.zn z) ∷ []) i (chunk s x) o))
  off_chunks d z (suc n) i s x b o = ⊎_elim (λ (q : Off (chunks d z n) i (chunk s x)). off_chunks d z n i s x (omega arith) q)
      (λ (q : (i ≡ length (chunks d z n)) × (chunk (π.src z n) (π.E z n d) ≡ chunk s x)).
      (n, q.0 ∙ length_chunks d z n, omega arith, chunk_num q.1, chunk_val q.1))
      (Put.off_cases (chunks d z n) (chunk (π.src z n) (π.E z n d)) (chunk s x) i o)

  off_column : (d z j i s : ℕ) (x : Val) → Off (column d z j) i (chunk s x) → Is d z i s x
  unfolding column
  off_column d z zero i s x o = off_chunks d z (π.c z) i s x (omega arith) o
  off_column d z (suc j) i s x o = ⊎_elim (λ (q : Off (column d z j) i (chunk s x)). off_column d z j i s x q)
      (λ (q : (i ≡ length (column d z j)) × (foot j ≡ chunk s x)). absurd (chunk_foot (sym q.1))) (Put.off_cases (column d z j) (foot j) (chunk s x) i o)

  in_chunks : (d z n k : ℕ) → k < n → InI (chunk (π.src z k) (π.E z k d)) (chunks d z n)
  unfolding chunks
  in_chunks d z zero k b = absurd (let q : ⊥ = omega arith in q)
  in_chunks d z (suc n) k b = go (ℕ_discrete k n) (in_chunks d z n k)
    where
      go : Dec (k ≡ n) → (k < n → InI (chunk (π.src z k) (π.E z k d)) (chunks d z n))
          → InI (chunk (π.src z k) (π.E z k d)) (chunks d z n ++ (chunk (π.src z n) (π.E z n d) ∷ []))
      go (yes q) ih = rw q (in_last (chunk (π.src z n) (π.E z n d)) (chunks d z n))
      go (no q) ih = item_left (chunk (π.src z k) (π.E z k d)) (chunks d z n) (chunk (π.src z n) (π.E z n d) ∷ []) (ih (omega arith))

  in_column : (d z j k : ℕ) → k < π.c z → InI (chunk (π.src z k) (π.E z k d)) (column d z j)
  unfolding column
  in_column d z zero k b = in_chunks d z (π.c z) k b
  in_column d z (suc j) k b = item_left (chunk (π.src z k) (π.E z k d)) (column d z j) (foot j ∷ []) (in_column d z j k b)

  head_chunks : (d z k : ℕ) → get_or (chunks d z k) 0 (foot 0) ≡ hdr (g.hd.ser z) (g.hd.cop z) (g.hd.zn z)
  unfolding chunks
  head_chunks d z zero = refl
  head_chunks d z (suc k) = Put.off_left (chunks d z k) (chunk (π.src z k) (π.E z k d)) 0 (omega (arith, length_chunks d z k)) ∙ head_chunks d z k

  head_column : (d z j : ℕ) → get_or (column d z j) 0 (foot 0) ≡ hdr (g.hd.ser z) (g.hd.cop z) (g.hd.zn z)
  unfolding column
  head_column d z zero = head_chunks d z (π.c z)
  head_column d z (suc j) = Put.off_left (column d z j) (foot j) 0 (omega (arith, length_column d z j)) ∙ head_column d z j

  module _ (u : ItemView) (h : Facts p g v) (same : (e y : ℕ) → e < p.N → g.un e ≡ false → v e y ≡ u e y)
      (full : (d z : ℕ) → Un p g d → R p g.hd v g.un z → u d z ≡ column d z (π.foots z))
      (none : (d z : ℕ) → Un p g d → (R p g.hd v g.un z → ⊥) → u d z ≡ []) where
    -- a zone is empty, or is the column
    two' : (d y : ℕ) → Un p g d → ((R p g.hd v g.un y) × (u d y ≡ column d y (π.foots y))) ⊎ (u d y ≡ [])
    two' d y k = go (dec_r p g v g.un (self p g.un h.lost.few) h.swap y)
      where
        go : Dec (R p g.hd v g.un y) → ((R p g.hd v g.un y) × (u d y ≡ column d y (π.foots y))) ⊎ (u d y ≡ [])
        go (yes r) = inl (r, full d y k r)
        go (no r) = inr (none d y k r)

    -- what holds of [] and of the column
    by : (d y : ℕ) → Un p g d → (Q : List Item → Type 0) → Q [] → (R p g.hd v g.un y → Q (column d y (π.foots y))) → Q (u d y)
    by d y k Q a b = ⊎_elim (λ (q : (R p g.hd v g.un y) × (u d y ≡ column d y (π.foots y))). subst Q (sym q.1) (b q.0)) (λ (q : u d y ≡ []). subst Q (sym q) a) (two' d y k)

    pub column_stored : Rebuilt p g v u
    column_stored = record {
      same = same;
      len = λ d y un. by d y un (λ (l : List Item). length l ≤ p.cap) (omega arith) (λ r. omega (arith, length_column d y (π.foots y), π.room y));
      head = λ d y un. by d y un (λ (l : List Item). 0 < length l → get_or l 0 (foot 0) ≡ hdr (g.hd.ser y) (g.hd.cop y) (g.hd.zn y)) (λ b. absurd (let q : ⊥ = omega arith in q))
          (λ r b. head_column d y (π.foots y));
      num = λ d y un. by d y un (λ (l : List Item). (k s : ℕ) (x : Val) → Off l (suc k) (chunk s x) → (s < p.S) × (k < p.S) × (p.grp s ≡ p.grp k))
          (λ k s x o. absurd (let q : ⊥ = omega (arith, o.0) in q)) (λ r k s x o. number d y k s (off_column d y (π.foots y) (suc k) s x o));
      once = λ d y un. by d y un (λ (l : List Item). (j k s : ℕ) (x z : Val) → Off l j (chunk s x) → Off l k (chunk s z) → j ≡ k)
          (λ j k s x z o o'. absurd (let q : ⊥ = omega (arith, o.0) in q))
          (λ r j k s x z o o'.
          let a : Is d y j s x = off_column d y (π.foots y) j s x o in
          let b : Is d y k s z = off_column d y (π.foots y) k s z o' in
          a.1 ∙ ap suc (π.inj y a.0 b.0 a.2 b.2 (a.3 ∙ sym b.3)) ∙ sym b.1);
      sealed = λ d y un. by d y un (λ (l : List Item). suc p.S < length l → (s : ℕ) → s < p.S → (x : Val) × InI (chunk s x) l) (λ b. absurd (let q : ⊥ = omega arith in q))
          (λ r b s l.
          let a : (k : ℕ) × (k < π.c y) × (π.src y k ≡ s) = π.sealed y (omega (arith, b, length_column d y (π.foots y))) s l in
          (π.E y a.0 d, subst (λ (t : ℕ). InI (chunk t (π.E y a.0 d)) (column d y (π.foots y))) a.2 (in_column d y (π.foots y) a.0 a.1)));
      in? = λ d y k r. rw (full d y k r) (omega (arith, length_column d y (π.foots y)));
      out = λ d y un. by d y un (λ (l : List Item). 0 < length l → R p g.hd v g.un y) (λ b. absurd (let q : ⊥ = omega arith in q)) (λ r b. r);
      old = λ d y un. by d y un (λ (l : List Item). (s : ℕ) (x : Val) → InI (chunk s x) l → (f : ℕ → Val) × Stripe p v g.un y s f × (f d ≡ x)) (λ s x m. absurd m)
          (λ r s x m.
          let o : (k : ℕ) × Off (column d y (π.foots y)) k (chunk s x) = in_off (chunk s x) (column d y (π.foots y)) m in
          let a : Is d y o.0 s x = off_column d y (π.foots y) o.0 s x o.1 in
          (π.E y a.0, subst (λ (t : ℕ). Stripe p v g.un y t (π.E y a.0)) a.3 (π.st y r a.0 a.2), a.4));
      all = λ d y k s f r st. rw (full d y k r) (given d y s f k r st);
      ragged = λ d y un. by d y un (λ (l : List Item). 0 < length l → length l < p.cap → Ragged p g.un v y) (λ b. absurd (let q : ⊥ = omega arith in q))
          (λ r b k. π.ragged y r (omega (arith, k, length_column d y (π.foots y))));
    }
      where
        number : (d y k s : ℕ) {x : Val} → Is d y (suc k) s x → (s < p.S) × (k < p.S) × (p.grp s ≡ p.grp k)
        number d y k s a =
            let e : a.0 ≡ k = omega (arith, a.1) in
            let q : (π.src y a.0 < p.S) × (a.0 < p.S) × (p.grp (π.src y a.0) ≡ p.grp a.0) = π.grp y a.0 a.2 in
            (subst (λ (t : ℕ). t < p.S) a.3 q.0, subst (λ (t : ℕ). t < p.S) e q.1, ap p.grp (sym a.3) ∙ q.2 ∙ ap p.grp e)

        -- the decoded chunk of a counted stripe is the one that was stored
        given : (d y s : ℕ) (f : ℕ → Val) → Un p g d → R p g.hd v g.un y → Stripe p v g.un y s f → InI (chunk s (f d)) (column d y (π.foots y))
        given d y s f k r st =
            let a : (k : ℕ) × (k < π.c y) × (π.src y k ≡ s) = π.every y s f r st in
            let st' : Stripe p v g.un y s (π.E y a.0) = subst (λ (t : ℕ). Stripe p v g.un y t (π.E y a.0)) a.2 (π.st y r a.0 a.1) in
            let e : π.E y a.0 d ≡ f d = one y s (π.E y a.0) f st' st in
            subst (λ (x : Val). InI (chunk s x) (column d y (π.foots y))) e
            (subst (λ (t : ℕ). InI (chunk t (π.E y a.0 d)) (column d y (π.foots y))) a.2 (in_column d y (π.foots y) a.0 a.1))
          where
            one : (y s : ℕ) (f' f : ℕ → Val) → Stripe p v g.un y s f' → Stripe p v g.un y s f → f' d ≡ f d
            one y s f' f a b = word_unique p s g.un h.lost.few f' f a.word b.word
                (λ e l n. once_in p g e y (v e y) (h.zones e y (l, n)) s (f' e) (f e) (a.on e l n) (b.on e l n)) d k.0
