-- (6) The end of a rebuild: the facts for the one choice d give the facts for every choice. Assumes nothing.
use Rattle.std.specs.Prelude.{◌≡◌, List, [], ◌∷◌, true, false, ◌⊎◌, ℕ, suc, ◌≤◌, ◌<◌, length, get_or}
use Rattle.std.proofs.Common.{sym, ap, ◌∙◌, subst, inl, inr, ⊎_elim, arith}
use Rattle.proof_crash_machine.specs.Val.{Val}
use Rattle.proof_crash_machine.specs.View.{Item, ItemView, InI, chunk_val}
use Rattle.proof_crash_machine.specs.View.Item.{hdr, chunk, foot}
use Rattle.proof_crash_machine.specs.Facts.Pair.{pair}
use Rattle.proof_crash_machine.specs.Lemma.{pair_o, old_own}
use Rattle.proof_crash_machine.specs.Mask.{Mask, count, two, within}
use Rattle.proof_crash_machine.specs.Facts.{Par, None, Beyond, trust, self, placing_fewer, none_few, word_unique, Ghost, Choice, L, R, Stripe, Datum, Counted, Off, ZoneItems, Used, WholeZone}
use Rattle.proof_crash_machine.specs.Facts.{Moved, Ragged, Facts}
use Rattle.proof_crash_machine.specs.Facts.{Same, L_same, Stripe_same, Counted_same, used, dec_l}

-- where a chunk stands
pub in_off : (i : Item) (l : List Item) → InI i l → (k : ℕ) × Off l k i
in_off i [] m = absurd m
in_off i (j ∷ l) (inl e) = (0, (omega arith, sym e))
in_off i (j ∷ l) (inr m) = let r : (k : ℕ) × Off l k i = in_off i l m in (suc r.0, (omega (arith, r.1.0), r.1.1))

-- D4: one chunk for a number
pub once_in : (p : Par) (g : Ghost) (d z : ℕ) (l : List Item) → ZoneItems p g d z l → (s : ℕ) (x y : Val) → InI (chunk s x) l → InI (chunk s y) l → x ≡ y
once_in p g d z l h s x y a b =
    let i : (k : ℕ) × Off l k (chunk s x) = in_off (chunk s x) l a in
    let j : (k : ℕ) × Off l k (chunk s y) = in_off (chunk s y) l b in
    let e : i.0 ≡ j.0 = h.once i.0 j.0 s x y i.1 j.1 in
    chunk_val (sym i.1.1 ∙ ap (λ (k : ℕ). get_or l k (foot 0)) e ∙ j.1.1)

abbrev pub with_un : Ghost → Mask → Ghost
with_un g n = record { un = n; said = g.said; hd = g.hd; pr = g.pr; sent = g.sent; last = g.last; base = g.base; top = g.top }

-- d is an untrusted drive
abbrev pub Un : Par → Ghost → ℕ → Type 0
Un p g d = (d < p.N) × (g.un d ≡ true)

-- u is v with the untrusted drives rebuilt
pub record Rebuilt (p : Par) (g : Ghost) (v u : ItemView) : Type 0 where
  pub same : (e y : ℕ) → e < p.N → g.un e ≡ false → v e y ≡ u e y
  -- the new zones are well formed: D1, D2, D4
  pub len : (d y : ℕ) → Un p g d → length (u d y) ≤ p.cap
  pub head : (d y : ℕ) → Un p g d → 0 < length (u d y) → get_or (u d y) 0 (foot 0) ≡ hdr (g.hd.ser y) (g.hd.cop y) (g.hd.zn y)
  pub num : (d y : ℕ) → Un p g d → (k s : ℕ) (x : Val) → Off (u d y) (suc k) (chunk s x) → (s < p.S) × (k < p.S) × (p.grp s ≡ p.grp k)
  pub once : (d y : ℕ) → Un p g d → (j k s : ℕ) (x z : Val) → Off (u d y) j (chunk s x) → Off (u d y) k (chunk s z) → j ≡ k
  pub sealed : (d y : ℕ) → Un p g d → suc p.S < length (u d y) → (s : ℕ) → s < p.S → (x : Val) × InI (chunk s x) (u d y)
  -- just the remaining segments, with just the counted stripes
  pub in? : (d y : ℕ) → Un p g d → R p g.hd v g.un y → 0 < length (u d y)
  pub out : (d y : ℕ) → Un p g d → 0 < length (u d y) → R p g.hd v g.un y
  pub old : (d y : ℕ) → Un p g d → (s : ℕ) (x : Val) → InI (chunk s x) (u d y) → (f : ℕ → Val) × Stripe p v g.un y s f × (f d ≡ x)
  pub all : (d y : ℕ) → Un p g d → (s : ℕ) (f : ℕ → Val) → R p g.hd v g.un y → Stripe p v g.un y s f → InI (chunk s (f d)) (u d y)
  -- full just where the others are
  pub ragged : (d y : ℕ) → Un p g d → 0 < length (u d y) → length (u d y) < p.cap → Ragged p g.un v y

module _ (p : Par) (g : Ghost) (n : Mask) (none : None p n) (fair : Beyond p g.said g.un → ⊥) (v u : ItemView) (a : Rebuilt p g v u) (h : Facts p g v) where
  abbrev U : Mask
  U = g.un

  abbrev g' : Ghost
  g' = with_un g n

  me : Choice p U U
  me = self p U h.lost.few

  -- by drive: rebuilt or not
  len_from : (e y : ℕ) → e < p.N → 0 < length (u e y) → U e ≡ false → 0 < length (v e y)
  len_from e y l b k = subst (λ (x : List Item). 0 < length x) (sym (a.same e y l k)) b

  used_from : (y : ℕ) → Used p n u y → Used p U v y
  used_from y (e, t, b) = ⊎_elim (λ (q : U e ≡ true). used p g v U y me (a.out e y (t.0, q) b).left) (λ (q : U e ≡ false). (e, (t.0, q), len_from e y t.0 b q)) (two (U e))

  rag_from : (y : ℕ) → Ragged p n u y → Ragged p U v y
  rag_from y (e, t, b, c) = ⊎_elim (λ (q : U e ≡ true). a.ragged e y (t.0, q) b c)
      (λ (q : U e ≡ false). (e, (t.0, q), len_from e y t.0 b q, subst (λ (x : List Item). length x < p.cap) (sym (a.same e y t.0 q)) c)) (two (U e))

  -- ---- a choice without some rebuilt drive d sees just what U saw
  module _ (m : Mask) (few : count p.N m ≤ p.P) (d : ℕ) (ud : Un p g d) (nd : m d ≡ false) where
    stripe_d : (y s : ℕ) (f : ℕ → Val) → ((e : ℕ) → e < p.N → m e ≡ false → InI (chunk s (f e)) (u e y))
        → (f' : ℕ → Val) × Stripe p v U y s f' × ((e : ℕ) → e < p.N → m e ≡ false → f e ≡ f' e)
    stripe_d y s f on =
        let r : (f' : ℕ → Val) × Stripe p v U y s f' × (f' d ≡ f d) = a.old d y ud s (f d) (on d ud.0 nd) in
        (r.0, r.1, λ e l w. go e l w r.0 r.1 (two (U e)))
      where
        -- D4: what two stripes have on a trusted drive is the same
        agree : (f₁ f₂ : ℕ → Val) → Stripe p v U y s f₁ → Stripe p v U y s f₂ → (e : ℕ) → e < p.N → U e ≡ false → f₁ e ≡ f₂ e
        agree f₁ f₂ s₁ s₂ e l r = once_in p g e y (v e y) (h.zones e y (l, r)) s (f₁ e) (f₂ e) (s₁.on e l r) (s₂.on e l r)

        go : (e : ℕ) → e < p.N → m e ≡ false → (f' : ℕ → Val) → Stripe p v U y s f' → (U e ≡ true) ⊎ (U e ≡ false) → f e ≡ f' e
        go e l w f' st (inl r) =
            let t : (f'' : ℕ → Val) × Stripe p v U y s f'' × (f'' e ≡ f e) = a.old e y (l, r) s (f e) (on e l w) in
            sym t.2 ∙ word_unique p s U h.lost.few t.0 f' t.1.word st.word (agree t.0 f' t.1 st) e l
        go e l w f' st (inr r) = once_in p g e y (v e y) (h.zones e y (l, r)) s (f e) (f' e)
            (subst (λ (x : List Item). InI (chunk s (f e)) x) (sym (a.same e y l r)) (on e l w)) (st.on e l r)

    stripe_a : (y s : ℕ) (f : ℕ → Val) → Stripe p u m y s f → Stripe p v U y s f
    stripe_a y s f st =
        let r : (f' : ℕ → Val) × Stripe p v U y s f' × ((e : ℕ) → e < p.N → m e ≡ false → f e ≡ f' e) = stripe_d y s f st.on in
        let e : (e : ℕ) → e < p.N → f e ≡ r.0 e = word_unique p s m few f r.0 st.word r.1.word r.2 in
        record { on = λ k l w. subst (λ (x : Val). InI (chunk s x) (v k y)) (sym (e k l)) (r.1.on k l w); word = st.word }

    R_a : (y : ℕ) → L p u m y → R p g.hd v U y
    R_a y k = a.out d y ud (k d ud.0 nd)

    counted_a : (x : Val) → Counted p g.hd u m x → Counted p g.hd v U x
    counted_a x c = record { z = c.z; s = c.s; f = c.f; rem = R_a c.z c.rem.left; st = stripe_a c.z c.s c.f c.st; dt = c.dt }

  -- ---- a choice with all rebuilt drives sees no change
  module _ (m : Mask) (mc : Choice p U m) where
    bw : (y : ℕ) → Same p u v m y
    bw y e l q = sym (a.same e y l (trust p U m mc e l q))

    fw : (y : ℕ) → Same p v u m y
    fw y e l q = a.same e y l (trust p U m mc e l q)

  -- ---- none missing
  L_n : (y : ℕ) → L p u n y → L p v U y
  L_n y k e l q = subst (λ (x : List Item). 0 < length x) (sym (a.same e y l q)) (k e l (none e l))

  whole_n : (m : Mask) (y : ℕ) → R p g.hd v U y → L p u m y
  whole_n m y k e l w = ⊎_elim (λ (q : U e ≡ true). a.in? e y (l, q) k) (λ (q : U e ≡ false). subst (λ (x : List Item). 0 < length x) (a.same e y l q) (k.left e l q)) (two (U e))

  R_n : (y : ℕ) → R p g.hd v U y → R p g.hd u n y
  R_n y k = record { left = whole_n n y k; own = λ o l e. k.own o (L_n o l) e }

  stripe_to : (m : Mask) (y s : ℕ) (f : ℕ → Val) → R p g.hd v U y → Stripe p v U y s f → Stripe p u m y s f
  stripe_to m y s f k st = record {
    on =
        λ e l w. ⊎_elim (λ (q : U e ≡ true). a.all e y (l, q) s f k st) (λ (q : U e ≡ false). subst (λ (x : List Item). InI (chunk s (f e)) x) (a.same e y l q) (st.on e l q)) (two (U e));
    word = st.word;
  }

  stripe_n : (y s : ℕ) (f : ℕ → Val) → Stripe p u n y s f → Stripe p v U y s f
  stripe_n y s f st = record { on = λ e l w. subst (λ (x : List Item). InI (chunk s (f e)) x) (sym (a.same e y l w)) (st.on e l (none e l)); word = st.word }

  counted_n : (x : Val) → Counted p g.hd v U x → Counted p g.hd u n x
  counted_n x c = record { z = c.z; s = c.s; f = c.f; rem = R_n c.z c.rem; st = stripe_to n c.z c.s c.f c.rem c.st; dt = c.dt }

  abbrev Some : Mask → Type 0
  Some m = (d : ℕ) × (d < p.N) × (U d ≡ true) × (m d ≡ false)

  abbrev Every : Mask → Type 0
  Every m = (d : ℕ) → d < p.N → U d ≡ true → m d ≡ true

  zone_new : (e y : ℕ) → e < p.N → (U e ≡ true) ⊎ (U e ≡ false) → ZoneItems p g' e y (u e y)
  zone_new e y l (inl q) = record {
    len = a.len e y (l, q);
    head = a.head e y (l, q);
    num = a.num e y (l, q);
    once = a.once e y (l, q);
    sealed = a.sealed e y (l, q);
    origin = λ s x m k.
        let r : (f : ℕ → Val) × Stripe p v U y s f × (f e ≡ x) = a.old e y (l, q) s x m in
        h.parity.sound U me y s r.0 r.1 x (record { d = e; lt = l; data? = k; val = r.2 });
  }
  zone_new e y l (inr q) = subst (ZoneItems p g' e y) (a.same e y l q)
      (let z : ZoneItems p g e y (v e y) = h.zones e y (l, q) in record { len = z.len; head = z.head; num = z.num; once = z.once; origin = z.origin; sealed = z.sealed })

  safe_new : (w o : ℕ) → g.pr ≡ pair w o → Dec (L p v U o) → (WholeZone p U v o) ⊎ (Moved p U v w o) → (WholeZone p n u o) ⊎ (Moved p n u w o)
  safe_new w o e (yes l) k = inl (whole_n n o (old_own p g v U w o me h.swap e l))
  safe_new w o e (no l) (inl k) = absurd (l k)
  safe_new w o e (no l) (inr k) = inr (record {
    whole = whole_n n w rw';
    clean = λ m c s f st. stripe_to n w s f rw' (⊎_elim (λ (q : Some m). stripe_a m c.0 q.0 (q.1, q.2) q.3 w s f st)
        (λ (q : Every m). k.clean m (c.0, q) s f (Stripe_same p u v m w s f (bw m (c.0, q) w) st)) (within p.N U m));
    still = λ m c q s f st x dt. ⊎_elim (λ (i : Some m). absurd (l (R_a m c.0 i.0 (i.1, i.2) i.3 o q).left))
        (λ (i : Every m).
        let t : (s' : ℕ) × (f' : ℕ → Val) × Stripe p v m o s' f' × Datum p s' f' x = k.still m (c.0, i) (L_same p u v m o (bw m (c.0, i) o) q) s f (stripe_n w s f st) x dt in
        (t.0, t.1, Stripe_same p v u m o t.0 t.1 (fw m (c.0, i) o) t.2, t.3)) (within p.N U m);
  })
    where
      rw' : R p g.hd v U w
      rw' = record {
        left = k.whole;
        own = λ y ly q. l (subst (λ (j : ℕ). L p v U j) (sym (pair_o (sym e ∙ h.swap.one w y (used p g v U w me k.whole) (used p g v U y me ly) q))) ly);
      }

  pub rebuild_facts : Facts p g' u
  rebuild_facts = record {
    lost = record { few = none_few p n none };
    zones = λ e y t. zone_new e y t.0 (two (U e));
    parity = record {
      whole = λ m c y s f on. ⊎_elim
          (λ (q : Some m).
          let r : (f' : ℕ → Val) × Stripe p v U y s f' × ((e : ℕ) → e < p.N → m e ≡ false → f e ≡ f' e) = stripe_d m c.0 q.0 (q.1, q.2) q.3 y s f on in
          (r.0, r.1.word, r.2))
          (λ (q : Every m). h.parity.whole m (c.0, q) y s f (λ e l w. subst (λ (x : List Item). InI (chunk s (f e)) x) (bw m (c.0, q) y e l w) (on e l w))) (within p.N U m);
      sound = λ m c y s f st x dt. ⊎_elim (λ (q : Some m). h.parity.sound U me y s f (stripe_a m c.0 q.0 (q.1, q.2) q.3 y s f st) x dt)
          (λ (q : Every m). h.parity.sound m (c.0, q) y s f (Stripe_same p u v m y s f (bw m (c.0, q) y) st) x dt) (within p.N U m);
    };
    swap = record {
      serials = λ y z b c q. h.swap.serials y z (used_from y b) (used_from z c) q;
      below = λ y b. h.swap.below y (used_from y b);
      one = λ w o b c q. h.swap.one w o (used_from w b) (used_from o c) q;
      named = h.swap.named;
      safe = λ w o e. safe_new w o e (dec_l p v U o) (h.swap.safe w o e);
    };
    «open» = record {
      place = placing_fewer p g.hd g.pr (Used p U v) (Used p n u) used_from h.«open».place;
      ragged = λ y z b c. h.«open».ragged y z (rag_from y b) (rag_from z c);
    };
    content = record {
      fresh = λ m c nb x k. ⊎_elim (λ (q : Some m). h.content.fresh U me fair x (counted_a m c.0 q.0 (q.1, q.2) q.3 x k))
          (λ (q : Every m). h.content.fresh m (c.0, q) nb x (Counted_same p g u v m (bw m (c.0, q)) (fw m (c.0, q)) x k)) (within p.N U m);
      floor = λ b. ⊎_elim (λ k. inl k)
          (λ (k : (x : Val) × Counted p g.hd v U x × (x.addr ≡ b) × (g.base b ≤ x.stamp)). inr (k.0, counted_n k.0 k.1, k.2, k.3))
          (h.content.floor b);
    };
  }
