-- (5) A header stored in an empty zone keeps the drive facts: of a segment opened by a write, and of a rewrite. Assumes nothing.
use Rattle.std.specs.Prelude.{◌≡◌, refl, List, [], ◌∷◌, true, false, ◌⊎◌, ◌≢◌, ℕ, ◌≤◌, ◌<◌, length}
use Rattle.std.proofs.Common.{sym, ap, ◌∙◌, subst, inl, inr, ⊎_elim, arith}
use Rattle.std.proofs.Math.Decide.{ℕ_discrete}
use Rattle.proof_crash_machine.specs.Val.{Val}
use Rattle.proof_crash_machine.specs.View.{Item, ItemView, InI, with_item, chunk_hdr}
use Rattle.proof_crash_machine.specs.View.Item.{hdr, chunk}
use Rattle.proof_crash_machine.specs.Mask.{Mask, count}
use Rattle.proof_crash_machine.specs.Facts.{Par, None, self_none, InPair, none_few, some_present, Ghost, L, Stripe, Counted, ZoneItems, Used, WholeZone, Swap, Ragged, Open, Content, Facts}
use Rattle.proof_crash_machine.specs.Facts.{used}
use Rattle.proof_crash_machine.specs.Facts.Pair.{pair}
use Rattle.proof_crash_machine.specs.Put

pub zone_head : (p : Par) (g : Ghost) (d w : ℕ) → 0 < p.cap → ZoneItems p g d w (hdr (g.hd.ser w) (g.hd.cop w) (g.hd.zn w) ∷ [])
zone_head p g d w b = record {
  len = omega arith;
  head = λ k. refl;
  num = λ k s x o. absurd (let q : ⊥ = omega (arith, o.0) in q);
  once = λ j k s x y o o'. absurd (no s x (Put.off_in (hdr (g.hd.ser w) (g.hd.cop w) (g.hd.zn w) ∷ []) j (chunk s x) o));
  origin = λ s x m n. absurd (no s x m);
  sealed = λ q. absurd (let r : ⊥ = omega arith in r);
}
  where
    no : (s : ℕ) (x : Val) → InI (chunk s x) (hdr (g.hd.ser w) (g.hd.cop w) (g.hd.zn w) ∷ []) → ⊥
    no s x (inl e) = chunk_hdr e
    no s x (inr m) = m

-- what is known where the header of segment w lands on drive d
pub record Opening (p : Par) (g : Ghost) (v : ItemView) (d w : ℕ) : Type 0 where
  pub none : None p g.un
  pub drive : d < p.N
  pub empty : v d w ≡ []
  pub room : 0 < p.cap
  -- its zones are good, no other segment's, and leave room for one more
  pub fits : (e : ℕ) → e < p.N → (g.hd.zn w e < p.Z) × (p.fine e (g.hd.zn w e) ≡ true)
  pub clear : (y : ℕ) → (Used p g.un v y) ⊎ (InPair g.pr y) → y ≢ w → (e : ℕ) → e < p.N → g.hd.zn y e ≢ g.hd.zn w e
  -- only headers in w so far
  pub bare : (e s : ℕ) (x : Val) → e < p.N → InI (chunk s x) (v e w) → ⊥
  pub newest : (y : ℕ) → Used p g.un v y → y ≢ w → g.hd.ser y < g.hd.ser w
  pub below : g.hd.cop w < g.hd.ser w
  pub link : (o : ℕ) → Used p g.un v o → o ≢ w → g.hd.cop w ≡ g.hd.ser o → g.pr ≡ pair w o
  pub old : (w' o : ℕ) → g.pr ≡ pair w' o → WholeZone p g.un v o
  pub lone : (y : ℕ) → Ragged p g.un v y → y ≢ w → g.pr ≡ pair w y
  pub space : (e : ℕ) → e < p.N → ((y : ℕ) × (y < p.Z) × (p.fine e y ≡ true) × (g.hd.zn w e ≢ y)
      × ((z : ℕ) → (Used p g.un v z) ⊎ (InPair g.pr z) → z ≢ w → g.hd.zn z e ≢ y))
      ⊎ ((x : ℕ) × (o : ℕ) × (g.pr ≡ pair x o))

module _ (p : Par) (g : Ghost) (v : ItemView) (d w : ℕ) (a : Opening p g v d w) where
  abbrev i : Item
  i = hdr (g.hd.ser w) (g.hd.cop w) (g.hd.zn w)

  abbrev u : ItemView
  u = with_item v d w i

  header_in_old : (s : ℕ) (x : Val) (e y : ℕ) → InI (chunk s x) (u e y) → InI (chunk s x) (v e y)
  header_in_old s x e y m = ⊎_elim (λ k. k) (λ (k : (e ≡ d) × (y ≡ w) × (chunk s x ≡ i)). absurd (chunk_hdr k.2)) (Put.in_back v d w i (chunk s x) e y m)

  header_stripe_old : (m : Mask) (y s : ℕ) (f : ℕ → Val) → Stripe p u m y s f → Stripe p v m y s f
  header_stripe_old m y s f h = record { on = λ e l n. header_in_old s (f e) e y (h.on e l n); word = h.word }

  -- a stripe has a chunk: so w has none
  stripe_not_new : (m : Mask) (y s : ℕ) (f : ℕ → Val) → count p.N m ≤ p.P → Stripe p v m y s f → y ≢ w
  stripe_not_new m y s f b h q = let d : (d : ℕ) × (d < p.N) × (m d ≡ false) = some_present p m b in
      a.bare d.0 s (f d.0) d.1 (subst (λ (k : ℕ). InI (chunk s (f d.0)) (v d.0 k)) q (h.on d.0 d.1 d.2))

  len_old : (e y : ℕ) → y ≢ w → 0 < length (u e y) → 0 < length (v e y)
  len_old e y n b = subst (λ (l : List Item). 0 < length l) (Put.zone_other v d w i e y n) b

  header_used_old : (y : ℕ) → y ≢ w → Used p g.un u y → Used p g.un v y
  header_used_old y n (e, t, b) = (e, t, len_old e y n b)

  L_old : (m : Mask) (y : ℕ) → y ≢ w → L p u m y → L p v m y
  L_old m y n h e l k = len_old e y n (h e l k)

  L_new : (m : Mask) (y : ℕ) → L p v m y → L p u m y
  L_new m y h e l k = Put.len_fwd v d w i e y (h e l k)

  swap_kept : Swap p g v → Swap p g u
  swap_kept h = record {
    serials = λ y z b c q. ser y z b c q (ℕ_discrete y w) (ℕ_discrete z w);
    below = λ y b. bel y b (ℕ_discrete y w);
    one = λ x o b c q. one' x o b c q (ℕ_discrete x w) (ℕ_discrete o w);
    named = h.named;
    safe = λ x o e. inl (λ e' l n. Put.len_fwd v d w i e' o (a.old x o e e' l n));
  }
    where
      bel : (y : ℕ) → Used p g.un u y → Dec (y ≡ w) → g.hd.cop y < g.hd.ser y
      bel y b (yes e) = rw e a.below
      bel y b (no e) = h.below y (header_used_old y e b)

      new : (y : ℕ) → Used p g.un u y → y ≢ w → g.hd.ser y < g.hd.ser w
      new y b n = a.newest y (header_used_old y n b) n

      ser : (y z : ℕ) → Used p g.un u y → Used p g.un u z → g.hd.ser y ≡ g.hd.ser z → Dec (y ≡ w) → Dec (z ≡ w) → y ≡ z
      ser y z b c q (yes e) (yes k) = e ∙ sym k
      ser y z b c q (yes e) (no k) = absurd (let r : g.hd.ser y ≡ g.hd.ser w = ap g.hd.ser e in let j : ⊥ = omega (arith, new z c k) in j)
      ser y z b c q (no e) (yes k) = absurd (let r : g.hd.ser z ≡ g.hd.ser w = ap g.hd.ser k in let j : ⊥ = omega (arith, new y b e) in j)
      ser y z b c q (no e) (no k) = h.serials y z (header_used_old y e b) (header_used_old z k c) q

      one' : (x o : ℕ) → Used p g.un u x → Used p g.un u o → g.hd.cop x ≡ g.hd.ser o → Dec (x ≡ w) → Dec (o ≡ w) → g.pr ≡ pair x o
      one' x o b c q (yes e) (yes k) = absurd (let r : g.hd.ser o ≡ g.hd.ser w = ap g.hd.ser k in
          let r' : g.hd.cop x ≡ g.hd.cop w = ap g.hd.cop e in let j : ⊥ = omega (arith, a.below) in j)
      one' x o b c q (no e) (yes k) = absurd (let r : g.hd.ser o ≡ g.hd.ser w = ap g.hd.ser k in
          let j : ⊥ = omega (arith, new x b e, h.below x (header_used_old x e b)) in j)
      one' x o b c q (yes e) (no k) = a.link o (header_used_old o k c) k (ap g.hd.cop (sym e) ∙ q) ∙ ap (λ (n : ℕ). pair n o) (sym e)
      one' x o b c q (no e) (no k) = h.one x o (header_used_old x e b) (header_used_old o k c) q

  content_kept : Swap p g v → Content p g v → Content p g u
  content_kept hs h = record {
    fresh = λ m c nb x k.
        let st : Stripe p v m k.z k.s k.f = header_stripe_old m k.z k.s k.f k.st in
        h.fresh m c nb x (record {
          z = k.z;
          s = k.s;
          f = k.f;
          rem = record { left = L_old m k.z (stripe_not_new m k.z k.s k.f c.0 st) k.rem.left; own = λ o l q. k.rem.own o (L_new m o l) q };
          st = st;
          dt = k.dt;
        });
    floor = λ b. ⊎_elim (λ k. inl k)
        (λ (k : (x : Val) × Counted p g.hd v g.un x × (x.addr ≡ b) × (g.base b ≤ x.stamp)). inr (k.0, fwd k.0 k.1, k.2, k.3)) (h.floor b);
  }
    where
      fwd : (x : Val) → Counted p g.hd v g.un x → Counted p g.hd u g.un x
      fwd x c = record {
        z = c.z;
        s = c.s;
        f = c.f;
        rem = record { left = L_new g.un c.z c.rem.left; own = λ o l q. own o l q (ℕ_discrete o w) };
        st = record { on = λ e l n. Put.in_fwd v d w i (chunk c.s (c.f e)) e c.z (c.st.on e l n); word = c.st.word };
        dt = c.dt;
      }
        where
          uz : Used p g.un v c.z
          uz = used p g v g.un c.z (self_none p g.un a.none) c.rem.left

          own : (o : ℕ) → L p u g.un o → g.hd.cop c.z ≡ g.hd.ser o → Dec (o ≡ w) → ⊥
          own o l q (no e) = c.rem.own o (L_old g.un o e l) q
          own o l q (yes e) =
              let r : g.hd.ser o ≡ g.hd.ser w = ap g.hd.ser e in
              let j : ⊥ = omega (arith, a.newest c.z uz (stripe_not_new g.un c.z c.s c.f (none_few p g.un a.none) c.st), hs.below c.z uz) in j

  open_kept : Open p g v → Open p g u
  open_kept h = record {
    place = record {
      put = λ y k. put₁ y k (ℕ_discrete y w);
      apart = λ y z k j e l q. apart₁ y z k j e l q (ℕ_discrete y w) (ℕ_discrete z w);
      room = λ e l. ⊎_elim
          (λ (k : (y : ℕ) × (y < p.Z) × (p.fine e y ≡ true) × (g.hd.zn w e ≢ y) × ((z : ℕ) → (Used p g.un v z) ⊎ (InPair g.pr z) → z ≢ w → g.hd.zn z e ≢ y)).
          inl (k.0, k.1, k.2, λ z i. room₁ e k.0 k.3 k.4 z i (ℕ_discrete z w))) (λ k. inr k) (a.space e l);
    };
    ragged = λ y z b c. go y z b c (ℕ_discrete y w) (ℕ_discrete z w);
  }
    where
      live : (y : ℕ) → y ≢ w → (Used p g.un u y) ⊎ (InPair g.pr y) → (Used p g.un v y) ⊎ (InPair g.pr y)
      live y n (inl k) = inl (header_used_old y n k)
      live y n (inr k) = inr k

      put₁ : (y : ℕ) → (Used p g.un u y) ⊎ (InPair g.pr y) → Dec (y ≡ w) → (e : ℕ) → e < p.N → (g.hd.zn y e < p.Z) × (p.fine e (g.hd.zn y e) ≡ true)
      put₁ y k (yes q) e l = rw q (a.fits e l)
      put₁ y k (no q) e l = h.place.put y (live y q k) e l

      apart₁ : (y z : ℕ) → (Used p g.un u y) ⊎ (InPair g.pr y) → (Used p g.un u z) ⊎ (InPair g.pr z) → (e : ℕ) → e < p.N
          → g.hd.zn y e ≡ g.hd.zn z e → Dec (y ≡ w) → Dec (z ≡ w)
          → y ≡ z
      apart₁ y z k j e l q (yes i) (yes i') = i ∙ sym i'
      apart₁ y z k j e l q (yes i) (no i') = absurd (a.clear z (live z i' j) i' e l (sym q ∙ ap (λ (t : ℕ). g.hd.zn t e) i))
      apart₁ y z k j e l q (no i) (yes i') = absurd (a.clear y (live y i k) i e l (q ∙ ap (λ (t : ℕ). g.hd.zn t e) i'))
      apart₁ y z k j e l q (no i) (no i') = h.place.apart y z (live y i k) (live z i' j) e l q

      room₁ : (e y : ℕ) → g.hd.zn w e ≢ y → ((z : ℕ) → (Used p g.un v z) ⊎ (InPair g.pr z) → z ≢ w → g.hd.zn z e ≢ y)
          → (z : ℕ) → (Used p g.un u z) ⊎ (InPair g.pr z) → Dec (z ≡ w) → g.hd.zn z e ≢ y
      room₁ e y n f z i (yes q) = λ k. n (ap (λ (t : ℕ). g.hd.zn t e) (sym q) ∙ k)
      room₁ e y n f z i (no q) = f z (live z q i) q

      rag : (y : ℕ) → y ≢ w → Ragged p g.un u y → Ragged p g.un v y
      rag y n (e, t, b, c) = (e, t, len_old e y n b, subst (λ (l : List Item). length l < p.cap) (Put.zone_other v d w i e y n) c)

      go : (y z : ℕ) → Ragged p g.un u y → Ragged p g.un u z → Dec (y ≡ w) → Dec (z ≡ w) → (y ≡ z) ⊎ (g.pr ≡ pair y z) ⊎ (g.pr ≡ pair z y)
      go y z b c (yes e) (yes k) = inl (e ∙ sym k)
      go y z b c (yes e) (no k) = inr (inl (a.lone z (rag z k c) k ∙ ap (λ (n : ℕ). pair n z) (sym e)))
      go y z b c (no e) (yes k) = inr (inr (a.lone y (rag y e b) e ∙ ap (λ (n : ℕ). pair n y) (sym k)))
      go y z b c (no e) (no k) = h.ragged y z (rag y e b) (rag z k c)

  pub header_facts : Facts p g v → Facts p g u
  header_facts h = record {
    lost = h.lost;
    zones = λ e y t. Put.each_put v d w i (ZoneItems p g) (rw a.empty (zone_head p g d w a.room)) e y (h.zones e y t);
    parity = record {
      whole = λ m c y s f on. h.parity.whole m c y s f (λ e l n. header_in_old s (f e) e y (on e l n));
      sound = λ m c y s f st x dt. h.parity.sound m c y s f (header_stripe_old m y s f st) x dt;
    };
    swap = swap_kept h.swap;
    «open» = open_kept h.«open»;
    content = content_kept h.swap h.content;
  }
