-- (5) A segment not in use gets its serials, and may become the new one of a pair, with no store: the ghost changes alone. Assumes nothing.
use Rattle.std.specs.Prelude.{◌≡◌, refl, true, ◌⊎◌, ◌≢◌, ℕ, ◌≤◌, ◌<◌}
use Rattle.std.proofs.Common.{sym, ap, ◌∙◌, subst, inl, inr, ⊎_elim}
use Rattle.std.proofs.Math.Decide.{ℕ_discrete}
use Rattle.proof_crash_machine.specs.Val.{Val}
use Rattle.proof_crash_machine.specs.View.{ItemView}
use Rattle.proof_crash_machine.specs.View.Item.{hdr}
use Rattle.proof_crash_machine.specs.Mask.{Mask}
use Rattle.proof_crash_machine.specs.Facts.{Par, self, Placing, InPair, Pair, Ghost, Choice, R, Counted, ZoneItems, Used, WholeZone, Facts, used}
use Rattle.proof_crash_machine.specs.Facts.Pair.{alone, pair}
use Rattle.proof_crash_machine.specs.Lemma.{pair_alone}

abbrev pub pick_n : {A P : Type 0} → Dec P → A → A → A
pick_n (yes q) a b = a
pick_n (no q) a b = b

unfoldable pub set_n : {A : Type 0} → (ℕ → A) → ℕ → A → ℕ → A
set_n f w r y = pick_n (ℕ_discrete y w) r (f y)

pub set_n_same : {A : Type 0} (f : ℕ → A) (w : ℕ) (r : A) → set_n f w r w ≡ r
unfolding set_n
set_n_same f w r = go (ℕ_discrete w w)
  where
    go : (q : Dec (w ≡ w)) → pick_n q r (f w) ≡ r
    go (yes q) = refl
    go (no q) = absurd (q refl)

pub set_n-other : {A : Type 0} (f : ℕ → A) (w : ℕ) (r : A) (y : ℕ) → y ≢ w → set_n f w r y ≡ f y
unfolding set_n
set_n-other f w r y n = go (ℕ_discrete y w)
  where
    go : (q : Dec (y ≡ w)) → pick_n q r (f y) ≡ f y
    go (yes q) = absurd (n q)
    go (no q) = refl

-- g with serials and zones for w, and a pair
abbrev pub naming : Ghost → ℕ → ℕ → ℕ → (ℕ → ℕ) → Pair → Ghost
naming g w r c ζ b = record {
  un = g.un;
  said = g.said;
  hd = record { ser = set_n g.hd.ser w r; cop = set_n g.hd.cop w c; zn = set_n g.hd.zn w ζ };
  pr = b;
  sent = g.sent;
  last = g.last;
  base = g.base;
  top = g.top;
}

module _ (p : Par) (g : Ghost) (v : ItemView) (w r c : ℕ) (ζ : ℕ → ℕ) (b : Pair) (no_pair : g.pr ≡ alone) (idle : Used p g.un v w → ⊥)
    (ok : (w' o : ℕ) → b ≡ pair w' o → (w' ≡ w) × (o ≢ w) × (c ≡ g.hd.ser o) × WholeZone p g.un v o)
    (fits : (d : ℕ) → d < p.N → (ζ d < p.Z) × (p.fine d (ζ d) ≡ true)) (clear : (y : ℕ) → Used p g.un v y → (d : ℕ) → d < p.N → g.hd.zn y d ≢ ζ d) where
  abbrev g' : Ghost
  g' = naming g w r c ζ b

  used_not_named : (y : ℕ) → Used p g.un v y → y ≢ w
  used_not_named y k e = idle (subst (λ (n : ℕ). Used p g.un v n) e k)

  ser' : (y : ℕ) → y ≢ w → g'.hd.ser y ≡ g.hd.ser y
  ser' y n = set_n-other g.hd.ser w r y n

  cop' : (y : ℕ) → y ≢ w → g'.hd.cop y ≡ g.hd.cop y
  cop' y n = set_n-other g.hd.cop w c y n

  zn' : (y : ℕ) → y ≢ w → g'.hd.zn y ≡ g.hd.zn y
  zn' y n = set_n-other g.hd.zn w ζ y n

  zn_w : g'.hd.zn w ≡ ζ
  zn_w = set_n_same g.hd.zn w ζ

  -- w is in the pair, or was in use
  two_of : Facts p g v → (y : ℕ) → (Used p g.un v y) ⊎ (InPair b y) → (Used p g.un v y) ⊎ ((y ≡ w) × InPair b w)
  two_of h y (inl i) = inl i
  two_of h y (inr (inl (o, e))) = let k : (y ≡ w) × (o ≢ w) × (c ≡ g.hd.ser o) × WholeZone p g.un v o = ok y o e in inr (k.0, inl (o, subst (λ (t : ℕ). b ≡ pair t o) k.0 e))
  two_of h y (inr (inr (x, e))) = let k : (x ≡ w) × (y ≢ w) × (c ≡ g.hd.ser y) × WholeZone p g.un v y = ok x y e in inl (used p g v g.un y (self p g.un h.lost.few) k.3)

  name_placing : Facts p g v → Placing p g'.hd b (Used p g.un v)
  name_placing h = record {
    put = λ y i. put₁ y (two_of h y i);
    apart = λ y z i j d l e. apart₁ y z (two_of h y i) (two_of h z j) d l e;
    room = λ d l. room₁ d l b refl;
  }
    where
      pl : Placing p g.hd g.pr (Used p g.un v)
      pl = h.«open».place

      put₁ : (y : ℕ) → (Used p g.un v y) ⊎ ((y ≡ w) × InPair b w) → (d : ℕ) → d < p.N → (g'.hd.zn y d < p.Z) × (p.fine d (g'.hd.zn y d) ≡ true)
      put₁ y (inl i) d l = rw (zn' y (used_not_named y i)) (pl.put y (inl i) d l)
      put₁ y (inr (e, i)) d l = rw (e, zn_w) (fits d l)

      apart₁ : (y z : ℕ) → (Used p g.un v y) ⊎ ((y ≡ w) × InPair b w) → (Used p g.un v z) ⊎ ((z ≡ w) × InPair b w) → (d : ℕ) → d < p.N
          → g'.hd.zn y d ≡ g'.hd.zn z d → y ≡ z
      apart₁ y z (inl i) (inl j) d l e =
          pl.apart y z (inl i) (inl j) d l (ap (λ (f : ℕ → ℕ). f d) (sym (zn' y (used_not_named y i))) ∙ e ∙ ap (λ (f : ℕ → ℕ). f d) (zn' z (used_not_named z j)))
      apart₁ y z (inl i) (inr (q, j)) d l e =
          absurd (clear y i d l (ap (λ (f : ℕ → ℕ). f d) (sym (zn' y (used_not_named y i))) ∙ e ∙ ap (λ (t : ℕ). g'.hd.zn t d) q ∙ ap (λ (f : ℕ → ℕ). f d) zn_w))
      apart₁ y z (inr (q, i)) (inl j) d l e =
          absurd (clear z j d l (ap (λ (f : ℕ → ℕ). f d) (sym (zn' z (used_not_named z j))) ∙ sym e ∙ ap (λ (t : ℕ). g'.hd.zn t d) q ∙ ap (λ (f : ℕ → ℕ). f d) zn_w))
      apart₁ y z (inr (q, i)) (inr (q', j)) d l e = q ∙ sym q'

      room₁ : (d : ℕ) → d < p.N → (b' : Pair) → b ≡ b'
          → ((y : ℕ) × (y < p.Z) × (p.fine d y ≡ true) × ((z : ℕ) → (Used p g.un v z) ⊎ (InPair b z) → g'.hd.zn z d ≢ y)) ⊎ ((w : ℕ) × (o : ℕ) × (b ≡ pair w o))
      room₁ d l (pair x o) e = inr (x, o, e)
      room₁ d l alone e = ⊎_elim
          (λ (q : (y : ℕ) × (y < p.Z) × (p.fine d y ≡ true) × ((z : ℕ) → (Used p g.un v z) ⊎ (InPair g.pr z) → g.hd.zn z d ≢ y)). inl
          (q.0, q.1, q.2, λ z i k. no z i q.0 q.3 k))
          (λ (q : (x : ℕ) × (o : ℕ) × (g.pr ≡ pair x o)). absurd (pair_alone (sym q.2 ∙ no_pair))) (pl.room d l)
        where
          no : (z : ℕ) → (Used p g.un v z) ⊎ (InPair b z) → (y : ℕ) → ((z : ℕ) → (Used p g.un v z) ⊎ (InPair g.pr z) → g.hd.zn z d ≢ y)
              → g'.hd.zn z d ≡ y → ⊥
          no z (inl i) y f k = f z (inl i) (ap (λ (f : ℕ → ℕ). f d) (sym (zn' z (used_not_named z i))) ∙ k)
          no z (inr (inl (o, q))) y f k = pair_alone (sym q ∙ e)
          no z (inr (inr (x, q))) y f k = pair_alone (sym q ∙ e)

  R_to : (m : Mask) → Choice p g.un m → (y : ℕ) → R p g.hd v m y → R p g'.hd v m y
  R_to m k y h = record {
    left = h.left;
    own = λ o l q. h.own o l (sym (cop' y (used_not_named y (used p g v m y k h.left))) ∙ q ∙ ser' o (used_not_named o (used p g v m o k l)));
  }

  R_from : (m : Mask) → Choice p g.un m → (y : ℕ) → R p g'.hd v m y → R p g.hd v m y
  R_from m k y h = record {
    left = h.left;
    own = λ o l q. h.own o l (cop' y (used_not_named y (used p g v m y k h.left)) ∙ q ∙ sym (ser' o (used_not_named o (used p g v m o k l))));
  }

  pub name_facts : Facts p g v → Facts p g' v
  name_facts h = record {
    lost = h.lost;
    zones = λ d z t.
        let q : ZoneItems p g d z (v d z) = h.zones d z t in
        record {
          len = q.len;
          head = λ k. q.head k ∙ sym (λ j. hdr (ser' z (used_not_named z (d, t, k)) j) (cop' z (used_not_named z (d, t, k)) j) (zn' z (used_not_named z (d, t, k)) j));
          num = q.num;
          once = q.once;
          origin = q.origin;
          sealed = q.sealed;
        };
    parity = record { whole = h.parity.whole; sound = h.parity.sound };
    swap = record {
      serials = λ y z k j q. h.swap.serials y z k j (sym (ser' y (used_not_named y k)) ∙ q ∙ ser' z (used_not_named z j));
      below = λ y k. rw (cop' y (used_not_named y k), ser' y (used_not_named y k)) (h.swap.below y k);
      one = λ x o k j q. absurd (pair_alone (sym (h.swap.one x o k j (sym (cop' x (used_not_named x k)) ∙ q ∙ ser' o (used_not_named o j))) ∙ no_pair));
      named = λ x o e.
          let k : (x ≡ w) × (o ≢ w) × (c ≡ g.hd.ser o) × WholeZone p g.un v o = ok x o e in
          ((λ q. k.1 (sym q ∙ k.0)), ap g'.hd.cop k.0 ∙ set_n_same g.hd.cop w c ∙ k.2 ∙ sym (ser' o k.1));
      safe = λ x o e. inl (ok x o e).3;
    };
    «open» = record {
      place = name_placing h;
      ragged = λ y z k j. inl (⊎_elim (λ q. q) (λ q. absurd (⊎_elim (λ (e : g.pr ≡ pair y z). pair_alone (sym e ∙ no_pair))
          (λ (e : g.pr ≡ pair z y). pair_alone (sym e ∙ no_pair)) q)) (h.«open».ragged y z k j));
    };
    content = record {
      fresh = λ m k nb x t. h.content.fresh m k nb x (record { z = t.z; s = t.s; f = t.f; rem = R_from m k t.z t.rem; st = t.st; dt = t.dt });
      floor = λ a. ⊎_elim (λ k. inl k)
          (λ (k : (x : Val) × Counted p g.hd v g.un x × (x.addr ≡ a) × (g.base a ≤ x.stamp)).
          let t : Counted p g.hd v g.un k.0 = k.1 in
          inr (k.0, record { z = t.z; s = t.s; f = t.f; rem = R_to g.un (self p g.un h.lost.few) t.z t.rem; st = t.st; dt = t.dt }, k.2, k.3))
          (h.content.floor a);
    };
  }
