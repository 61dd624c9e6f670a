-- (3) A landed chunk keeps the drive facts. Assumes nothing.
use Rattle.std.specs.Prelude.{◌≡◌, refl, List, [], ◌∷◌, ◌++◌, false, ◌⊎◌, ◌≢◌, ℕ, zero, suc, ◌≤◌, ◌<◌, length}
use Rattle.std.proofs.Common.{sym, ap, ◌∙◌, subst, inl, inr, ⊎_elim, arith}
use Rattle.std.proofs.Math.Decide.{ℕ_discrete}
use Rattle.proof_crash_machine.specs.Val.{Val}
use Rattle.proof_crash_machine.specs.View.{Item, ItemView, InI, with_item, chunk_val, chunk_num}
use Rattle.proof_crash_machine.specs.View.Item.{chunk}
use Rattle.proof_crash_machine.specs.Mask.{Mask, count}
use Rattle.proof_crash_machine.specs.Facts.{Par, None, Word, placing_fewer, word_unique, Ghost, Good, Tr, Choice, Stripe, Datum, Counted, Off, ZoneItems, Parity, Used, WholeZone, Swap, Open}
use Rattle.proof_crash_machine.specs.Facts.{Content, Facts}
use Rattle.proof_crash_machine.specs.Facts.Pair.{pair}
use Rattle.proof_crash_machine.specs.Put

-- what memory knows of a chunk that lands (M3, M5, M6, M7)
pub record Landing (p : Par) (g : Ghost) (v : ItemView) (d z s : ℕ) (F : ℕ → Val) : Type 0 where
  pub none : None p g.un
  pub old : (w o : ℕ) → g.pr ≡ pair w o → WholeZone p g.un v o
  pub drive : d < p.N
  pub begun : 0 < length (v d z)
  pub room : length (v d z) < p.cap
  pub number : s < p.S
  pub off : (k : ℕ) → length (v d z) ≡ suc k → (k < p.S) × (p.grp s ≡ p.grp k)
  pub new : (x : Val) → InI (chunk s x) (v d z) → ⊥
  pub mine : (e : ℕ) (x : Val) → e < p.N → InI (chunk s x) (v e z) → x ≡ F e
  pub word : Word p s F
  pub good : (x : Val) → Datum p s F x → Good g x
  pub ok : (x : Val) → Datum p s F x → (x.stamp ≤ g.last x.addr) ⊎ (g.top < x.stamp)

-- data of equal stripes
pub Datum_same : (p : Par) (s : ℕ) (f h : ℕ → Val) (x : Val) → ((e : ℕ) → e < p.N → f e ≡ h e) → Datum p s f x → Datum p s h x
Datum_same p s f h x q t = record { d = t.d; lt = t.lt; data? = t.data?; val = sym (q t.d t.lt) ∙ t.val }

module _ (p : Par) (g : Ghost) (v : ItemView) (d z s : ℕ) (F : ℕ → Val) (a : Landing p g v d z s F) where
  abbrev i : Item
  i = chunk s (F d)

  abbrev u : ItemView
  u = with_item v d z i

  -- all chunks of the stripe are the flight's
  mine' : (e : ℕ) (x : Val) → e < p.N → InI (chunk s x) (u e z) → x ≡ F e
  mine' e x l m = ⊎_elim (λ (w : InI (chunk s x) (v e z)). a.mine e x l w)
      (λ (w : (e ≡ d) × (z ≡ z) × (chunk s x ≡ i)). rw w.0 (chunk_val w.2)) (Put.in_back v d z i (chunk s x) e z m)

  -- any other was there before
  chunk_elsewhere : (t : ℕ) (x : Val) (e y : ℕ) → (y ≢ z) ⊎ (t ≢ s) → InI (chunk t x) (u e y) → InI (chunk t x) (v e y)
  chunk_elsewhere t x e y n m = ⊎_elim (λ w. w)
      (λ (w : (e ≡ d) × (y ≡ z) × (chunk t x ≡ i)). absurd (⊎_elim (λ (k : y ≢ z). k w.1) (λ (k : t ≢ s). k (chunk_num w.2)) n))
      (Put.in_back v d z i (chunk t x) e y m)

  stripe_before : (m : Mask) (y t : ℕ) (f : ℕ → Val) → count p.N m ≤ p.P → Stripe p u m y t f
      → (Stripe p v m y t f) ⊎ ((y ≡ z) × (t ≡ s) × ((e : ℕ) → e < p.N → f e ≡ F e))
  stripe_before m y t f b h = go (ℕ_discrete y z) (ℕ_discrete t s)
    where
      old : (y ≢ z) ⊎ (t ≢ s) → Stripe p v m y t f
      old n = record { on = λ e l k. chunk_elsewhere t (f e) e y n (h.on e l k); word = h.word }

      go : Dec (y ≡ z) → Dec (t ≡ s) → (Stripe p v m y t f) ⊎ ((y ≡ z) × (t ≡ s) × ((e : ℕ) → e < p.N → f e ≡ F e))
      go (yes q) (yes r) = inr (
        q,
        r,
        word_unique p s m b f F (subst (λ (n : ℕ). Word p n f) r h.word) a.word
            (λ e l k. mine' e (f e) l (subst (λ (n : ℕ). InI (chunk n (f e)) (u e z)) r (subst (λ (n : ℕ). InI (chunk t (f e)) (u e n)) q (h.on e l k)))),
      )
      go (yes q) (no r) = inl (old (inr r))
      go (no q) (yes r) = inl (old (inl q))
      go (no q) (no r) = inl (old (inl q))

  -- D1, D2, D4, D5
  land_zone_kept : ZoneItems p g d z (v d z) → ZoneItems p g d z (v d z ++ (i ∷ []))
  land_zone_kept h = record {
    len = omega (arith, Put.length-snoc (v d z) i, a.room);
    head = λ b. Put.off_left (v d z) i 0 a.begun ∙ h.head a.begun;
    num = λ k t x o. ⊎_elim (λ (w : Off (v d z) (suc k) (chunk t x)). h.num k t x w)
        (λ (w : (suc k ≡ length (v d z)) × (i ≡ chunk t x)). let q : s ≡ t = chunk_num w.1 in
        let r : (k < p.S) × (p.grp s ≡ p.grp k) = a.off k (sym w.0) in
        (subst (λ (n : ℕ). n < p.S) q a.number, r.0, ap p.grp (sym q) ∙ r.1)) (Put.off_cases (v d z) i (chunk t x) (suc k) o);
    once = λ j k t x y o o'. ⊎_elim
        (λ (w : Off (v d z) j (chunk t x)). ⊎_elim (λ (w' : Off (v d z) k (chunk t y)). h.once j k t x y w w')
        (λ (w' : (k ≡ length (v d z)) × (i ≡ chunk t y)). absurd (clash j t x y w w'.1)) (Put.off_cases (v d z) i (chunk t y) k o'))
        (λ (w : (j ≡ length (v d z)) × (i ≡ chunk t x)). ⊎_elim (λ (w' : Off (v d z) k (chunk t y)). absurd (clash k t y x w' w.1))
        (λ (w' : (k ≡ length (v d z)) × (i ≡ chunk t y)). w.0 ∙ sym w'.0) (Put.off_cases (v d z) i (chunk t y) k o'))
        (Put.off_cases (v d z) i (chunk t x) j o);
    origin = λ t x m n. ⊎_elim (λ (w : InI (chunk t x) (v d z)). h.origin t x w n)
        (λ (w : chunk t x ≡ i). a.good x (record { d = d; lt = a.drive; data? = subst (λ (k : ℕ). p.code.par k d ≡ false) (chunk_num w) n; val = sym (chunk_val w) }))
        (in_cases' (chunk t x) m);
    sealed = λ q. absurd (full (length (v d z)) refl q);
  }
    where
      full : (n : ℕ) → length (v d z) ≡ n → suc p.S < length (v d z ++ (i ∷ [])) → ⊥
      full zero e q = let r : ⊥ = omega (arith, e, a.begun) in r
      full (suc k) e q = let r : ⊥ = omega (arith, e, q, (a.off k e).0, Put.length-snoc (v d z) i) in r

      clash : (j t : ℕ) (x y : Val) → Off (v d z) j (chunk t x) → i ≡ chunk t y → ⊥
      clash j t x y o e = a.new x (subst (λ (n : ℕ). InI (chunk n x) (v d z)) (sym (chunk_num e)) (Put.off_in (v d z) j (chunk t x) o))

      in_cases' : (j : Item) → InI j (v d z ++ (i ∷ [])) → InI j (v d z) ⊎ (j ≡ i)
      in_cases' j = Rattle.proof_crash_machine.specs.View.in_cases j i (v d z)

  -- D7
  parity-kept : Parity p g v → Parity p g u
  parity-kept h = record {
    whole = λ m c y t f on. all m c y t f on (ℕ_discrete y z) (ℕ_discrete t s);
    sound = λ m c y t f st x dt. ⊎_elim (λ (w : Stripe p v m y t f). h.sound m c y t f w x dt)
        (λ (w : (y ≡ z) × (t ≡ s) × ((e : ℕ) → e < p.N → f e ≡ F e)).
        a.good x (Datum_same p s f F x w.2 (subst (λ (n : ℕ). Datum p n f x) w.1 dt))) (stripe_before m y t f c.0 st);
  }
    where
      all : (m : Mask) → Choice p g.un m → (y t : ℕ) (f : ℕ → Val) → ((e : ℕ) → e < p.N → m e ≡ false → InI (chunk t (f e)) (u e y)) → Dec (y ≡ z) → Dec (t ≡ s)
          → (j : ℕ → Val) × Word p t j × ((e : ℕ) → e < p.N → m e ≡ false → f e ≡ j e)
      all m c y t f on (yes q) (yes r) = (
        F,
        subst (λ (n : ℕ). Word p n F) (sym r) a.word,
        (λ e l k. mine' e (f e) l (subst (λ (n : ℕ). InI (chunk n (f e)) (u e z)) r (subst (λ (n : ℕ). InI (chunk t (f e)) (u e n)) q (on e l k)))),
      )
      all m c y t f on (yes q) (no r) = h.whole m c y t f (λ e l k. chunk_elsewhere t (f e) e y (inr r) (on e l k))
      all m c y t f on (no q) (yes r) = h.whole m c y t f (λ e l k. chunk_elsewhere t (f e) e y (inl q) (on e l k))
      all m c y t f on (no q) (no r) = h.whole m c y t f (λ e l k. chunk_elsewhere t (f e) e y (inl q) (on e l k))

  -- D3, D8
  swap_kept : Swap p g v → Swap p g u
  swap_kept h = record {
    serials = λ y x b c q. h.serials y x (Put.Used_back v d z i a.begun p g y b) (Put.Used_back v d z i a.begun p g x c) q;
    below = λ y b. h.below y (Put.Used_back v d z i a.begun p g y b);
    one = λ w o b c q. h.one w o (Put.Used_back v d z i a.begun p g w b) (Put.Used_back v d z i a.begun p g o c) q;
    named = h.named;
    safe = λ w o e. inl (Put.Whole_fwd v d z i a.begun p g o (a.old w o e));
  }

  -- D11, D12
  content_kept : Content p g v → Content p g u
  content_kept h = record {
    fresh = λ m c nb x k. ⊎_elim
        (λ (w : Stripe p v m k.z k.s k.f). h.fresh m c nb x
        (record { z = k.z; s = k.s; f = k.f; rem = Put.R_back v d z i a.begun p g m k.z k.rem; st = w; dt = k.dt }))
        (λ (w : (k.z ≡ z) × (k.s ≡ s) × ((e : ℕ) → e < p.N → k.f e ≡ F e)).
        a.ok x (Datum_same p s k.f F x w.2 (subst (λ (n : ℕ). Datum p n k.f x) w.1 k.dt))) (stripe_before m k.z k.s k.f c.0 k.st);
    floor = λ b. ⊎_elim (λ w. inl w)
        (λ (w : (x : Val) × Counted p g.hd v g.un x × (x.addr ≡ b) × (g.base b ≤ x.stamp)).
        inr (w.0, Put.Counted_fwd v d z i a.begun p g g.un w.0 w.1, w.2, w.3)) (h.floor b);
  }

  -- D9, D10
  open_kept : Open p g v → Open p g u
  open_kept h = record {
    place = placing_fewer p g.hd g.pr (Used p g.un v) (Used p g.un u) (Put.Used_back v d z i a.begun p g) h.place;
    ragged = λ y x b c. h.ragged y x (rag y b) (rag x c);
  }
    where
      rag : (y : ℕ) → ((e : ℕ) × Tr p g.un e × (0 < length (u e y)) × (length (u e y) < p.cap))
          → (e : ℕ) × Tr p g.un e × (0 < length (v e y)) × (length (v e y) < p.cap)
      rag y (e, t, b, c) = (
        e,
        t,
        Put.len_back v d z i a.begun e y b,
        Put.each_put v d z i (λ (e y : ℕ) (l : List Item). length l < p.cap → length (v e y) < p.cap) (λ k. a.room) e y (λ k. k) c,
      )

  pub landing_facts : Facts p g v → Facts p g u
  landing_facts h = record {
    lost = h.lost;
    zones = λ e y t. Put.each_put v d z i (ZoneItems p g) (land_zone_kept (h.zones d z (a.drive, not_un))) e y (h.zones e y t);
    parity = parity-kept h.parity;
    swap = swap_kept h.swap;
    «open» = open_kept h.«open»;
    content = content_kept h.content;
  }
    where
      not_un : g.un d ≡ false
      not_un = a.none d a.drive
