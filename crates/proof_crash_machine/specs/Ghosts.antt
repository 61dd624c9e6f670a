-- The ghost changes alone: a block is sent, writes are acknowledged, a pair has ended. Assumes nothing.
use Rattle.std.specs.Prelude.{◌≡◌, List, ◌∷◌, true, ◌⊎◌, ◌≢◌, ℕ, ◌≤◌, ◌<◌}
use Rattle.std.proofs.Common.{sym, ◌∙◌, subst, inl, inr, ⊎_elim}
use Rattle.proof_crash_machine.specs.Val.{Val}
use Rattle.proof_crash_machine.specs.View.{ItemView}
use Rattle.proof_crash_machine.specs.Facts.Pair.{alone, pair}
use Rattle.proof_crash_machine.specs.Lemma.{pair_alone}
use Rattle.proof_crash_machine.specs.Facts.{Par, Placing, InPair, Pair, Ghost, Good, Counted, ZoneItems, Used, Facts}

abbrev pub with_pr : Ghost → Pair → Ghost
with_pr g b = record { un = g.un; said = g.said; hd = g.hd; pr = b; sent = g.sent; last = g.last; base = g.base; top = g.top }

abbrev pub with_base : Ghost → (ℕ → ℕ) → Ghost
with_base g f = record { un = g.un; said = g.said; hd = g.hd; pr = g.pr; sent = g.sent; last = g.last; base = f; top = g.top }

abbrev pub with_sent : Ghost → List Val → Ghost
with_sent g l = record { un = g.un; said = g.said; hd = g.hd; pr = g.pr; sent = l; last = g.last; base = g.base; top = g.top }

-- zones once the pair is over: that of the empty one is free
solo : (p : Par) (g : Ghost) (v : ItemView) → Facts p g v → ((w o : ℕ) → g.pr ≡ pair w o → (Used p g.un v w → ⊥) ⊎ (Used p g.un v o → ⊥))
    → Placing p g.hd alone (Used p g.un v)
solo p g v h k = record {
  put = λ z i. pl.put z (up z i);
  apart = λ y z i j. pl.apart y z (up y i) (up z j);
  room =
      λ d l. ⊎_elim (λ (q : (y : ℕ) × (y < p.Z) × (p.fine d y ≡ true) × ((z : ℕ) → (Used p g.un v z) ⊎ (InPair g.pr z) → g.hd.zn z d ≢ y)). inl
      (q.0, q.1, q.2, λ z i. q.3 z (up z i)))
      (λ (q : (w : ℕ) × (o : ℕ) × (g.pr ≡ pair w o)). inl (⊎_elim
      (λ (n : Used p g.un v q.0 → ⊥). free d l q.0 (inl (q.1, q.2)) n) (λ (n : Used p g.un v q.1 → ⊥). free d l q.1 (inr (q.0, q.2)) n) (k q.0 q.1 q.2)))
      (pl.room d l);
}
  where
    pl : Placing p g.hd g.pr (Used p g.un v)
    pl = h.«open».place

    up : (z : ℕ) → (Used p g.un v z) ⊎ (InPair alone z) → (Used p g.un v z) ⊎ (InPair g.pr z)
    up z (inl i) = inl i
    up z (inr (inl (o, e))) = absurd (pair_alone (sym e))
    up z (inr (inr (w, e))) = absurd (pair_alone (sym e))

    free : (d : ℕ) → d < p.N → (x : ℕ) → InPair g.pr x → (Used p g.un v x → ⊥)
        → (y : ℕ) × (y < p.Z) × (p.fine d y ≡ true) × ((z : ℕ) → (Used p g.un v z) ⊎ (InPair alone z) → g.hd.zn z d ≢ y)
    free d l x i n = (g.hd.zn x d, (pl.put x (inr i) d l).0, (pl.put x (inr i) d l).1, λ z j e. clash z j (pl.apart z x (up z j) (inr i) d l e))
      where
        clash : (z : ℕ) → (Used p g.un v z) ⊎ (InPair alone z) → z ≡ x → ⊥
        clash z (inl j) e = n (subst (λ (t : ℕ). Used p g.un v t) e j)
        clash z (inr (inl (o, q))) e = pair_alone (sym q)
        clash z (inr (inr (w, q))) e = pair_alone (sym q)

-- the pair is over once one of the two is empty
pub unpaired : (p : Par) (g : Ghost) (v : ItemView) → Facts p g v
    → ((w o : ℕ) → g.pr ≡ pair w o → (Used p g.un v w → ⊥) ⊎ (Used p g.un v o → ⊥)) → Facts p (with_pr g alone) v
unpaired p g v h k = record {
  lost = h.lost;
  zones = λ d z t. let q : ZoneItems p g d z (v d z) = h.zones d z t in record { len = q.len; head = q.head; num = q.num; once = q.once; origin = q.origin; sealed = q.sealed };
  parity = record { whole = h.parity.whole; sound = h.parity.sound };
  swap = record {
    serials = h.swap.serials;
    below = h.swap.below;
    one = λ w o a b e. absurd (no w o a b (h.swap.one w o a b e));
    named = λ w o e. absurd (pair_alone (sym e));
    safe = λ w o e. absurd (pair_alone (sym e));
  };
  «open» = record {
    place = solo p g v h k;
    ragged = λ y z (d, t, a, b) (d', t', a', b'). ⊎_elim (λ e. inl e)
        (λ q. absurd (⊎_elim (λ (e : g.pr ≡ pair y z). no y z (d, t, a) (d', t', a') e) (λ (e : g.pr ≡ pair z y). no z y (d', t', a') (d, t, a) e) q))
        (h.«open».ragged y z (d, t, a, b) (d', t', a', b'));
  };
  content = record { fresh = h.content.fresh; floor = h.content.floor };
}
  where
    no : (w o : ℕ) → Used p g.un v w → Used p g.un v o → g.pr ≡ pair w o → ⊥
    no w o a b e = ⊎_elim (λ (n : Used p g.un v w → ⊥). n a) (λ (n : Used p g.un v o → ⊥). n b) (k w o e)

-- acknowledged: what is counted may become the floor
pub raised : (p : Par) (g : Ghost) (v : ItemView) (f : ℕ → ℕ) → Facts p g v
    → ((a : ℕ) → (f a ≡ g.base a) ⊎ ((x : Val) × Counted p g.hd v g.un x × (x.addr ≡ a) × (f a ≤ x.stamp))) → Facts p (with_base g f) v
raised p g v f h k = record {
  lost = h.lost;
  zones = λ d z t. let q : ZoneItems p g d z (v d z) = h.zones d z t in record { len = q.len; head = q.head; num = q.num; once = q.once; origin = q.origin; sealed = q.sealed };
  parity = record { whole = h.parity.whole; sound = h.parity.sound };
  swap = record { serials = h.swap.serials; below = h.swap.below; one = h.swap.one; named = h.swap.named; safe = h.swap.safe };
  «open» = record { place = h.«open».place; ragged = h.«open».ragged };
  content = record {
    fresh = h.content.fresh;
    floor = λ a. ⊎_elim (λ (e : f a ≡ g.base a). ⊎_elim (λ (q : g.base a ≡ 0). inl (e ∙ q))
        (λ (q : (x : Val) × Counted p g.hd v g.un x × (x.addr ≡ a) × (g.base a ≤ x.stamp)). inr (q.0, q.1, q.2, rw e q.3)) (h.content.floor a))
        (λ q. inr q) (k a);
  };
}

good_more : (g : Ghost) (x y : Val) → Good g y → Good (with_sent g (x ∷ g.sent)) y
good_more g x y (inl e) = inl e
good_more g x y (inr m) = inr (inr m)

-- a block is sent
pub send_facts : (p : Par) (g : Ghost) (v : ItemView) (x : Val) → Facts p g v → Facts p (with_sent g (x ∷ g.sent)) v
send_facts p g v x h = record {
  lost = h.lost;
  zones = λ d z t. let q : ZoneItems p g d z (v d z) = h.zones d z t in
      record { len = q.len; head = q.head; num = q.num; once = q.once; origin = λ s y m n. good_more g x y (q.origin s y m n); sealed = q.sealed };
  parity = record { whole = h.parity.whole; sound = λ m c z s f st y dt. good_more g x y (h.parity.sound m c z s f st y dt) };
  swap = record { serials = h.swap.serials; below = h.swap.below; one = h.swap.one; named = h.swap.named; safe = h.swap.safe };
  «open» = record { place = h.«open».place; ragged = h.«open».ragged };
  content = record { fresh = h.content.fresh; floor = h.content.floor };
}
