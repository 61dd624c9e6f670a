-- (1), (4) What the reset of one zone leaves as it was, and when it keeps the drive facts. Assumes nothing.
use Rattle.std.specs.Prelude.{◌≡◌, refl, true, false, ◌⊎◌, ◌≢◌, ℕ, ◌≤◌, ◌<◌, length}
use Rattle.std.proofs.Math.Path.{sym, subst}
use Rattle.std.proofs.Common.{ap, ◌∙◌, inl, inr, ⊎_elim, arith}
use mathlib.Core.List.{List, []}
use Rattle.std.proofs.Math.Decide.{ℕ_discrete}
use Rattle.proof_crash_machine.specs.Val.{Val}
use Rattle.proof_crash_machine.specs.View.{Item, ItemView, InI, emptied_at, upd_elim, upd_same, upd_zone, upd_drive}
use Rattle.proof_crash_machine.specs.View.Item.{chunk}
use Rattle.proof_crash_machine.specs.Mask.{Mask, count, two, tf}
use Rattle.proof_crash_machine.specs.Facts.{Par, None, Beyond, self, self_none, none_fair, placing_fewer, none_few, Pair, Ghost, Tr, Choice, L, R, Stripe, Datum, Counted, ZoneItems, Parity}
use Rattle.proof_crash_machine.specs.Facts.{Used, WholeZone}
use Rattle.proof_crash_machine.specs.Facts.{Moved, Swap, Open, Content, Facts, Same, L_same, Stripe_same, Counted_same, used, whole_L, dec_l}
use Rattle.proof_crash_machine.specs.Facts.Pair.{alone, pair}
use Rattle.proof_crash_machine.specs.Lemma.{pair_alone, pair_o, pair_w, old_own}

abbrev pub Floor : Par → Ghost → ItemView → Type 0
Floor p g v = (a : ℕ) → (g.base a ≡ 0) ⊎ ((x : Val) × Counted p g.hd v g.un x × (x.addr ≡ a) × (g.base a ≤ x.stamp))

pub zone_nil : (p : Par) (g : Ghost) (d z : ℕ) → ZoneItems p g d z []
zone_nil p g d z = record {
  len = omega arith;
  head = λ b. absurd (let q : ⊥ = omega arith in q);
  num = λ k s x o. absurd (let q : ⊥ = omega (arith, o.0) in q);
  once = λ j k s x y o o'. absurd (let q : ⊥ = omega (arith, o.0) in q);
  origin = λ s x m n. absurd m;
  sealed = λ b. absurd (let q : ⊥ = omega arith in q);
}

module _ (v : ItemView) (d z : ℕ) where
  pub gone : emptied_at v d z d z ≡ []
  unfolding emptied_at
  gone = upd_same v d z []

  pub reset_zone_kept : (e y : ℕ) → y ≢ z → v e y ≡ emptied_at v d z e y
  unfolding emptied_at
  reset_zone_kept e y n = sym (upd_zone v d z [] e y n)

  pub drive_kept : (e y : ℕ) → e ≢ d → v e y ≡ emptied_at v d z e y
  unfolding emptied_at
  drive_kept e y n = sym (upd_drive v d z [] e y n)

  pub each_reset : (Q : ℕ → ℕ → List Item → Type 0) → Q d z [] → (e y : ℕ) → Q e y (v e y) → Q e y (emptied_at v d z e y)
  unfolding emptied_at
  each_reset Q new e y old = upd_elim (Q e y) v d z [] e y
      (λ a b. subst (λ (k : ℕ). Q k y []) (sym a) (subst (λ (k : ℕ). Q d k []) (sym b) new)) (λ w. old)

  pub in_reset : (j : Item) (e y : ℕ) → InI j (emptied_at v d z e y) → InI j (v e y)
  in_reset j e y = each_reset (λ (e y : ℕ) (l : List Item). InI j l → InI j (v e y)) (λ m. absurd m) e y (λ m. m)

  pub len_reset : (e y : ℕ) → 0 < length (emptied_at v d z e y) → 0 < length (v e y)
  len_reset e y = each_reset (λ (e y : ℕ) (l : List Item). 0 < length l → 0 < length (v e y)) (λ b. absurd (let q : ⊥ = omega arith in q)) e y (λ b. b)

  module _ (p : Par) (g : Ghost) where
    pub Used_reset : (y : ℕ) → Used p g.un (emptied_at v d z) y → Used p g.un v y
    Used_reset y (e, t, b) = (e, t, len_reset e y b)

    pub L_reset : (m : Mask) (y : ℕ) → L p (emptied_at v d z) m y → L p v m y
    L_reset m y h e l n = len_reset e y (h e l n)

    pub Stripe_back : (m : Mask) (y s : ℕ) (f : ℕ → Val) → Stripe p (emptied_at v d z) m y s f → Stripe p v m y s f
    Stripe_back m y s f h = record { on = λ e l n. in_reset (chunk s (f e)) e y (h.on e l n); word = h.word }

    -- other segments, and every segment for a choice that holds d
    pub Same_reset : (m : Mask) (y : ℕ) → (y ≢ z) ⊎ (m d ≡ true) → Same p v (emptied_at v d z) m y
    Same_reset m y (inl n) e l k = reset_zone_kept e y n
    Same_reset m y (inr q) e l k = drive_kept e y (λ w. tf q (sym (ap m w) ∙ k))

    -- the zone's segment is left only if d is missing
    pub L_gone : (m : Mask) → d < p.N → m d ≡ false → L p (emptied_at v d z) m z → ⊥
    L_gone m l n h = let b : 0 < length (emptied_at v d z d z) = h d l n in
        let b' : 0 < length {A = Item} [] = subst (λ (x : List Item). 0 < length x) gone b in
        let q : ⊥ = omega arith in q

    pub R_reset : (m : Mask) (y : ℕ) → y ≢ z → R p g.hd v m y → R p g.hd (emptied_at v d z) m y
    R_reset m y n h = record { left = L_same p v (emptied_at v d z) m y (Same_reset m y (inl n)) h.left; own = λ o l q. h.own o (L_reset m o l) q }

    abbrev pub Counted_reset : (m : Mask) (x : Val) (c : Counted p g.hd v m x) → c.z ≢ z → Counted p g.hd (emptied_at v d z) m x
    Counted_reset m x c n = record {
      z = c.z;
      s = c.s;
      f = c.f;
      rem = R_reset m c.z n c.rem;
      st = Stripe_same p v (emptied_at v d z) m c.z c.s c.f (Same_reset m c.z (inl n)) c.st;
      dt = c.dt;
    }

-- ---- what of w counts, for some choice, counts with none missing: in w, or in o
pub moved-counts : (p : Par) (g : Ghost) (v : ItemView) → count p.N g.un ≤ p.P → Swap p g v → (w o : ℕ) → g.pr ≡ pair w o → Moved p g.un v w o → (m : Mask)
    → Choice p g.un m
    → (s : ℕ) (f : ℕ → Val) → Stripe p v m w s f → (x : Val) → Datum p s f x → Counted p g.hd v g.un x
moved-counts p g v few h w o e b m c s f st x dt = go (dec_l p v g.un o)
  where
    st' : Stripe p v g.un w s f
    st' = b.clean m c s f st

    lw : L p v g.un w
    lw = whole_L p g v g.un w (self p g.un few) b.whole

    go : Dec (L p v g.un o) → Counted p g.hd v g.un x
    go (yes l) =
        let t : (s' : ℕ) × (f' : ℕ → Val) × Stripe p v g.un o s' f' × Datum p s' f' x = b.still g.un (self p g.un few) l s f st' x dt in
        record { z = o; s = t.0; f = t.1; rem = old_own p g v g.un w o (self p g.un few) h e l; st = t.2; dt = t.3 }
    go (no l) = record {
      z = w;
      s = s;
      f = f;
      rem = record {
        left = lw;
        own = λ y ly q. l (subst (λ (k : ℕ). L p v g.un k)
            (sym (pair_o (sym e ∙ h.one w y (used p g v g.un w (self p g.un few) lw) (used p g v g.un y (self p g.un few) ly) q))) ly);
      };
      st = st';
      dt = dt;
    }

-- ---- when a zone of segment z may be reset
pub record May (p : Par) (g : Ghost) (v : ItemView) (z : ℕ) : Type 0 where
  pub none : None p g.un
  pub safe : (w o : ℕ) → g.pr ≡ pair w o → ((z ≢ o) × WholeZone p g.un v o) ⊎ ((z ≢ w) × Moved p g.un v w o)

module _ (p : Par) (g : Ghost) (v : ItemView) (d z : ℕ) (lt : d < p.N) (a : May p g v z) where
  abbrev u : ItemView
  u = emptied_at v d z

  -- a w that is not reset stays as it should be
  pub moved-kept : (w o : ℕ) → z ≢ w → Moved p g.un v w o → Moved p g.un u w o
  moved-kept w o n b = record {
    whole = λ e l k. subst (λ (x : List Item). 0 < length x) (reset_zone_kept v d z e w (λ q. n (sym q))) (b.whole e l k);
    clean = λ m c s f st. fw (b.clean m c s f (Stripe_back v d z p g m w s f st));
    still = λ m c l s f st x dt. hold m l (ℕ_discrete o z) (b.still m c (L_reset v d z p g m o l) s f (Stripe_back v d z p g g.un w s f st) x dt);
  }
    where
      fw : {s : ℕ} {f : ℕ → Val} → Stripe p v g.un w s f → Stripe p u g.un w s f
      fw {s} {f} st = Stripe_same p v u g.un w s f (Same_reset v d z p g g.un w (inl (λ q. n (sym q)))) st

      -- o is left only where it was not reset
      where? : (m : Mask) → L p u m o → Dec (o ≡ z) → (o ≢ z) ⊎ (m d ≡ true)
      where? m l (no q) = inl q
      where? m l (yes q) = ⊎_elim (λ r. inr r) (λ (r : m d ≡ false). absurd (L_gone v d z p g m lt r (subst (λ (k : ℕ). L p u m k) q l))) (two (m d))

      hold : {x : Val} (m : Mask) → L p u m o → Dec (o ≡ z) → (s' : ℕ) × (f' : ℕ → Val) × Stripe p v m o s' f' × Datum p s' f' x
          → (s' : ℕ) × (f' : ℕ → Val) × Stripe p u m o s' f' × Datum p s' f' x
      hold m l q (s', f', st, dt) = (s', f', Stripe_same p v u m o s' f' (Same_reset v d z p g m o (where? m l q)) st, dt)

  whole_kept : (o : ℕ) → z ≢ o → WholeZone p g.un v o → WholeZone p g.un u o
  whole_kept o n h e l k = subst (λ (x : List Item). 0 < length x) (reset_zone_kept v d z e o (λ q. n (sym q))) (h e l k)

  swap_kept : Swap p g v → Swap p g u
  swap_kept h = record {
    serials = λ y x b c q. h.serials y x (Used_reset v d z p g y b) (Used_reset v d z p g x c) q;
    below = λ y b. h.below y (Used_reset v d z p g y b);
    one = λ w o b c q. h.one w o (Used_reset v d z p g w b) (Used_reset v d z p g o c) q;
    named = h.named;
    safe = λ w o e. ⊎_elim (λ (k : (z ≢ o) × WholeZone p g.un v o). inl (whole_kept o k.0 k.1))
        (λ (k : (z ≢ w) × Moved p g.un v w o). inr (moved-kept w o k.0 k.1)) (a.safe w o e);
  }

  parity-kept : Parity p g v → Parity p g u
  parity-kept h = record {
    whole = λ m c y s f on. h.whole m c y s f (λ e l n. in_reset v d z (chunk s (f e)) e y (on e l n));
    sound = λ m c y s f st x dt. h.sound m c y s f (Stripe_back v d z p g m y s f st) x dt;
  }

  open_kept : Open p g v → Open p g u
  open_kept h = record {
    place = placing_fewer p g.hd g.pr (Used p g.un v) (Used p g.un u) (Used_reset v d z p g) h.place;
    ragged = λ y x b c. h.ragged y x (rag y b) (rag x c);
  }
    where
      rag : (y : ℕ) → ((e : ℕ) × Tr p g.un e × (0 < length (u e y)) × (length (u e y) < p.cap))
          → (e : ℕ) × Tr p g.un e × (0 < length (v e y)) × (length (v e y) < p.cap)
      rag y (e, t, b, c) = (
        e,
        t,
        len_reset v d z e y b,
        each_reset v d z
            (λ (e y : ℕ) (l : List Item). 0 < length l → length l < p.cap → length (v e y) < p.cap) (λ k. absurd (let q : ⊥ = omega arith in q)) e y (λ k j. j) b c,
      )

  -- D11: what counts anew counted with none missing
  fresh_kept : Swap p g v → Content p g v → (m : Mask) → Choice p g.un m → (Beyond p g.said m → ⊥) → (x : Val) → Counted p g.hd u m x
      → (x.stamp ≤ g.last x.addr) ⊎ (g.top < x.stamp)
  fresh_kept h k m c nb x t = go (two (m d))
    where
      st : Stripe p v m t.z t.s t.f
      st = Stripe_back v d z p g m t.z t.s t.f t.st

      Goal : Type 0
      Goal = (x.stamp ≤ g.last x.addr) ⊎ (g.top < x.stamp)

      old : m d ≡ false → (g.pr ≡ pair t.z z → ⊥) → R p g.hd v m t.z
      old n w = record {
        left = L_reset v d z p g m t.z t.rem.left;
        own = λ o l q. case o l q (ℕ_discrete o z);
      }
        where
          case : (o : ℕ) → L p v m o → g.hd.cop t.z ≡ g.hd.ser o → Dec (o ≡ z) → ⊥
          case o l q (no r) = t.rem.own o (L_same p v u m o (Same_reset v d z p g m o (inl r)) l) q
          case o l q (yes r) = w (subst (λ (y : ℕ). g.pr ≡ pair t.z y) r
              (h.one t.z o (used p g v m t.z c (L_reset v d z p g m t.z t.rem.left)) (used p g v m o c l) q))

      other : m d ≡ false → (b : Pair) → g.pr ≡ b → (x.stamp ≤ g.last x.addr) ⊎ (g.top < x.stamp)
      other n alone e = k.fresh m c nb x (record { z = t.z; s = t.s; f = t.f; rem = old n (λ w. pair_alone (sym w ∙ e)); st = st; dt = t.dt })
      other n (pair w o) e = case (ℕ_discrete w t.z) (ℕ_discrete o z)
        where
          case : Dec (w ≡ t.z) → Dec (o ≡ z) → (x.stamp ≤ g.last x.addr) ⊎ (g.top < x.stamp)
          case (no q) r = k.fresh m c nb x (record { z = t.z; s = t.s; f = t.f; rem = old n (λ w'. q (pair_w (sym e ∙ w'))); st = st; dt = t.dt })
          case (yes q) (no r) = k.fresh m c nb x (record { z = t.z; s = t.s; f = t.f; rem = old n (λ w'. r (pair_o (sym e ∙ w'))); st = st; dt = t.dt })
          case (yes q) (yes r) = ⊎_elim (λ (j : (z ≢ o) × WholeZone p g.un v o). absurd (j.0 (sym r)))
              (λ (j : (z ≢ w) × Moved p g.un v w o). k.fresh g.un (self_none p g.un a.none) (none_fair p g.said g.un a.none) x
              (moved-counts p g v (none_few p g.un a.none) h w o e j.1 m c t.s t.f (subst (λ (y : ℕ). Stripe p v m y t.s t.f) (sym q) st) x t.dt)) (a.safe w o e)

      go : (m d ≡ true) ⊎ (m d ≡ false) → (x.stamp ≤ g.last x.addr) ⊎ (g.top < x.stamp)
      go (inl q) = k.fresh m c nb x (Counted_same p g u v m
          (λ y e l n. sym (Same_reset v d z p g m y (inr q) e l n)) (λ y. Same_reset v d z p g m y (inr q)) x t)
      go (inr n) = other n g.pr refl

  -- the rule for resets: all facts but the floor look after themselves
  pub reset_kept : Facts p g v → Floor p g u → Facts p g u
  reset_kept h fl = record {
    lost = h.lost;
    zones = λ e y t. each_reset v d z (ZoneItems p g) (zone_nil p g d z) e y (h.zones e y t);
    parity = parity-kept h.parity;
    swap = swap_kept h.swap;
    «open» = open_kept h.«open»;
    content = record { fresh = fresh_kept h.swap h.content; floor = fl };
  }
