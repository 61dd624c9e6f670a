-- A restart has finished: v, base, fresh and cur begin anew. Assumes nothing.
use Rattle.std.specs.Prelude.{◌≡◌, List, [], ◌∷◌, false, ◌⊎◌, ℕ, ◌≤◌, ◌<◌, length}
use Rattle.std.proofs.Common.{sym, ◌∙◌, subst, inl, inr, ⊎_elim, arith}
use Rattle.std.proofs.Math.Decide.{dec_le}
use Rattle.proof_crash_machine.specs.Val.{Val}
use Rattle.proof_crash_machine.specs.Facts.Pair.{alone}
use Rattle.proof_crash_machine.specs.Lemma.{pair_alone}
use Rattle.proof_crash_machine.specs.View.{ItemView, InI}
use Rattle.proof_crash_machine.specs.View.Item.{chunk}
use Rattle.proof_crash_machine.specs.Mask.{Mask, count}
use Rattle.proof_crash_machine.specs.Facts.{Par, None, self_none, none_few, some_present, word_unique, Heads, Ghost, InV, Good, Choice, R, Stripe, Datum, Counted, ZoneItems, Used, WholeZone}
use Rattle.proof_crash_machine.specs.Facts.{Facts, used}

-- K is what a restart that names m reads: at each address the greatest counted stamp
pub record Reads (p : Par) (h : Heads) (v : ItemView) (m : Mask) (K : ℕ → ℕ) : Type 0 where
  pub most : (x : Val) → Counted p h v m x → x.stamp ≤ K x.addr
  pub some : (a : ℕ) → (K a ≡ 0) ⊎ ((x : Val) × Counted p h v m x × (x.addr ≡ a) × (x.stamp ≡ K a))

-- cur, cut to the stamps up to t
abbrev keep_if : {P : Type 0} → Dec P → Val → List Val → List Val
keep_if (yes q) x l = x ∷ l
keep_if (no q) x l = l

unfoldable pub up_to : ℕ → List Val → List Val
up_to t [] = []
up_to t (x ∷ l) = keep_if (dec_le x.stamp t) x (up_to t l)

pub in_up_to : (t : ℕ) (l : List Val) (x : Val) → InV x l → x.stamp ≤ t → InV x (up_to t l)
unfolding up_to
in_up_to t [] x m b = absurd m
in_up_to t (y ∷ l) x (inl e) b = go (dec_le y.stamp t)
  where
    go : (q : Dec (y.stamp ≤ t)) → InV x (keep_if q y (up_to t l))
    go (yes q) = inl e
    go (no q) = absurd (q (subst (λ (z : Val). z.stamp ≤ t) e b))
in_up_to t (y ∷ l) x (inr m) b = go (dec_le y.stamp t) (in_up_to t l x m b)
  where
    go : (q : Dec (y.stamp ≤ t)) → InV x (up_to t l) → InV x (keep_if q y (up_to t l))
    go (yes q) ih = inr ih
    go (no q) ih = ih

pub up_to_le : (t : ℕ) (l : List Val) (x : Val) → InV x (up_to t l) → (InV x l) × (x.stamp ≤ t)
unfolding up_to
up_to_le t [] x m = absurd m
up_to_le t (y ∷ l) x m = go (dec_le y.stamp t) m (up_to_le t l x)
  where
    go : (q : Dec (y.stamp ≤ t)) → InV x (keep_if q y (up_to t l)) → (InV x (up_to t l) → (InV x l) × (x.stamp ≤ t)) → (InV x (y ∷ l)) × (x.stamp ≤ t)
    go (yes q) (inl e) ih = (inl e, subst (λ (z : Val). z.stamp ≤ t) (sym e) q)
    go (yes q) (inr k) ih = (inr (ih k).0, (ih k).1)
    go (no q) k ih = (inr (ih k).0, (ih k).1)

abbrev pub finishing : Ghost → Mask → (ℕ → ℕ) → ℕ → List Val → Ghost
finishing g n K t l = record { un = n; said = n; hd = g.hd; pr = g.pr; sent = l; last = K; base = K; top = t }

-- ---- none missing: every chunk is of a counted stripe, every used segment remains
pub record Clean (p : Par) (g : Ghost) (v : ItemView) : Type 0 where
  pub none : None p g.un
  pub no_pair : g.pr ≡ alone
  pub whole : (z : ℕ) → Used p g.un v z → WholeZone p g.un v z
  pub counted : (d z s : ℕ) (x : Val) → d < p.N → InI (chunk s x) (v d z) → (f : ℕ → Val) × Stripe p v g.un z s f × (f d ≡ x)
  -- D4 gives it: one value for a number
  pub once : (d z s : ℕ) (x y : Val) → d < p.N → InI (chunk s x) (v d z) → InI (chunk s y) (v d z) → x ≡ y

module _ (p : Par) (g : Ghost) (v : ItemView) (k : Clean p g v) (h : Facts p g v) where
  -- all choices see the same
  stripe_all : (m : Mask) (z s : ℕ) (f : ℕ → Val) → count p.N m ≤ p.P → Stripe p v m z s f → Stripe p v g.un z s f
  stripe_all m z s f few st = let d : (d : ℕ) × (d < p.N) × (m d ≡ false) = some_present p m few in from d.0 d.1 d.2
    where
      from : (d : ℕ) → d < p.N → m d ≡ false → Stripe p v g.un z s f
      from d l n =
          let r : (f' : ℕ → Val) × Stripe p v g.un z s f' × (f' d ≡ f d) = k.counted d z s (f d) l (st.on d l n) in
          let e : (e : ℕ) → e < p.N → f e ≡ r.0 e = word_unique p s m few f r.0 st.word r.1.word
          (λ e b w. k.once e z s (f e) (r.0 e) b (st.on e b w) (r.1.on e b (k.none e b))) in
          record { on = λ j b w. subst (λ (x : Val). InI (chunk s x) (v j z)) (sym (e j b)) (r.1.on j b w); word = st.word }

  used_remain : (z : ℕ) → Used p g.un v z → R p g.hd v g.un z
  used_remain z i = record {
    left = k.whole z i;
    own = λ o l q. pair_alone (sym (h.swap.one z o i (used p g v g.un o (self_none p g.un k.none) l) q) ∙ k.no_pair);
  }

  counted-all : (m : Mask) (x : Val) → Choice p g.un m → Counted p g.hd v m x → Counted p g.hd v g.un x
  counted-all m x mc c = record {
    z = c.z;
    s = c.s;
    f = c.f;
    rem = used_remain c.z (used p g v m c.z mc c.rem.left);
    st = stripe_all m c.z c.s c.f mc.0 c.st;
    dt = c.dt;
  }

  module _ (K : ℕ → ℕ) (r : Reads p g.hd v g.un K) (t : ℕ) (b : (x : Val) → Counted p g.hd v g.un x → x.stamp ≤ t) where
    abbrev g' : Ghost
    g' = finishing g g.un K t (up_to t g.sent)

    -- a stored datum is counted, so it stays in cur
    good_kept : (x : Val) → Counted p g.hd v g.un x → Good g x → Good g' x
    good_kept x c (inl e) = inl e
    good_kept x c (inr m) = inr (in_up_to t g.sent x m (b x c))

    datum_counted : (z s : ℕ) (f : ℕ → Val) (x : Val) → Stripe p v g.un z s f → Datum p s f x → Counted p g.hd v g.un x
    datum_counted z s f x st dt = record { z = z; s = s; f = f; rem = used_remain z (0, (z0, k.none 0 z0), some); st = st; dt = dt }
      where
        z0 : 0 < p.N
        z0 = omega (arith, p.some)

        some : 0 < length (v 0 z)
        some = Rattle.proof_crash_machine.specs.View.item_some (chunk s (f 0)) (v 0 z) (st.on 0 z0 (k.none 0 z0))

    pub finish_none : Facts p g' v
    finish_none = record {
      lost = record { few = none_few p g.un k.none };
      zones = λ d z i. let q : ZoneItems p g d z (v d z) = h.zones d z i in record {
        len = q.len;
        head = q.head;
        num = q.num;
        once = q.once;
        sealed = q.sealed;
        origin = λ s x m n.
            let f : (f : ℕ → Val) × Stripe p v g.un z s f × (f d ≡ x) = k.counted d z s x i.0 m in
            good_kept x (datum_counted z s f.0 x f.1 (record { d = d; lt = i.0; data? = n; val = f.2 })) (q.origin s x m n);
      };
      parity = record {
        whole = h.parity.whole;
        sound = λ m c z s f st x dt. good_kept x (datum_counted z s f x (stripe_all m z s f c.0 st) dt) (h.parity.sound m c z s f st x dt);
      };
      swap = record { serials = h.swap.serials; below = h.swap.below; one = h.swap.one; named = h.swap.named; safe = h.swap.safe };
      «open» = record { place = h.«open».place; ragged = h.«open».ragged };
      content = record {
        fresh = λ m c nb x i. inl (r.most x (counted-all m x c i));
        floor = λ a. ⊎_elim (λ i. inl i)
            (λ (i : (x : Val) × Counted p g.hd v g.un x × (x.addr ≡ a) × (x.stamp ≡ K a)). inr (i.0, i.1, i.2, omega (arith, i.3))) (r.some a);
      };
    }
