-- A drive may be given up at any time: facts for all choices give those for one. Assumes nothing.
use Rattle.std.specs.Prelude.{◌≡◌, ◌⊎◌, true, false, ℕ, ◌≤◌, ◌<◌}
use Rattle.std.proofs.Common.{inl, inr, ⊎_elim, arith}
use Rattle.proof_crash_machine.specs.Val.{Val}
use Rattle.proof_crash_machine.specs.Lemma.{counted_choice}
use Rattle.proof_crash_machine.specs.View.{ItemView}
use Rattle.proof_crash_machine.specs.Mask.{Mask, within}
use Rattle.proof_crash_machine.specs.Facts.{Par, trust, placing_fewer, further, Ghost, Tr, Choice, Stripe, Counted, ZoneItems, Used, WholeZone, Moved, Content, Facts, Counted_mask}
use Rattle.proof_crash_machine.specs.Rebuild.{with_un}
use Rattle.proof_crash_machine.specs.Finish.{Reads, finishing}

-- g, with m untrusted and other values of what was named and read
abbrev pub anew : Ghost → Mask → Mask → (ℕ → ℕ) → (ℕ → ℕ) → ℕ → Ghost
anew g m k la ba tp = record { un = m; said = k; hd = g.hd; pr = g.pr; sent = g.sent; last = la; base = ba; top = tp }

-- m is a choice: from now on it is the least
pub distrusted : (p : Par) (g : Ghost) (v : ItemView) (m k : Mask) (la ba : ℕ → ℕ) (tp : ℕ) → Choice p g.un m → Content p (anew g m k la ba tp) v → Facts p g v
    → Facts p (anew g m k la ba tp) v
distrusted p g v m k la ba tp ch co h = record {
  lost = record { few = ch.0 };
  content = co;
  zones = λ d z k. let q : ZoneItems p g d z (v d z) = h.zones d z (tr d k) in
      record { len = q.len; head = q.head; num = q.num; once = q.once; origin = q.origin; sealed = q.sealed };
  parity = record {
    whole = λ n c z s f on. h.parity.whole n (choice n c) z s f on;
    sound = λ n c z s f st x dt. h.parity.sound n (choice n c) z s f st x dt;
  };
  swap = record {
    serials = λ y z i j q. h.swap.serials y z (in_use_of y i) (in_use_of z j) q;
    below = λ y i. h.swap.below y (in_use_of y i);
    one = λ w o i j q. h.swap.one w o (in_use_of w i) (in_use_of o j) q;
    named = h.swap.named;
    safe = λ w o e. ⊎_elim (λ (k : WholeZone p g.un v o). inl (λ d l n. k d l (tr d (l, n)).1)) (λ (k : Moved p g.un v w o). moved w o k) (h.swap.safe w o e);
  };
  «open» = record {
    place = placing_fewer p g.hd g.pr (Used p g.un v) (Used p m v) in_use_of h.«open».place;
    ragged = λ y z (d, k, i, j) (d', k', i', j'). h.«open».ragged y z (d, tr d k, i, j) (d', tr d' k', i', j');
  };
}
  where
    choice : (n : Mask) → Choice p m n → Choice p g.un n
    choice n c = further p g.un m n ch c

    tr : (d : ℕ) → Tr p m d → Tr p g.un d
    tr d (l, n) = (l, trust p g.un m ch d l n)

    in_use_of : (y : ℕ) → Used p m v y → Used p g.un v y
    in_use_of y (d, k, i) = (d, tr d k, i)

    moved : (w o : ℕ) → Moved p g.un v w o → (WholeZone p m v o) ⊎ (Moved p m v w o)
    moved w o k = inr (record {
      whole = λ d l n. k.whole d l (tr d (l, n)).1;
      clean = λ n c s f st. weak (k.clean n (choice n c) s f st);
      still = λ n c l s f st x dt. k.still n (choice n c) l s f (k.clean m ch s f st) x dt;
    })
      where
        weak : {s : ℕ} {f : ℕ → Val} → Stripe p v g.un w s f → Stripe p v m w s f
        weak {s} {f} st = record { on = λ d l n. st.on d l (tr d (l, n)).1; word = st.word }

-- as a restart that names m sees the drives, or from the start of a further rebuild of m on
pub distrust : (p : Par) (g : Ghost) (v : ItemView) (m : Mask) → Choice p g.un m → Facts p g v → Facts p (with_un g m) v
distrust p g v m ch h = distrusted p g v m g.said g.last g.base g.top ch (record {
  fresh = λ n c ne x k. h.content.fresh n (further p g.un m n ch c) ne x k;
  -- the lemma: K_m is at least K of the least choice
  floor = λ a. ⊎_elim (λ k. inl k)
      (λ (k : (x : Val) × Counted p g.hd v g.un x × (x.addr ≡ a) × (g.base a ≤ x.stamp)). inr (k.0, counted_choice p g v h.swap m ch h.lost.few k.0 k.1, k.2, k.3))
      (h.content.floor a);
}) h

-- ---- a restart that names m, not none, has finished: nothing was stored, cur stays, nothing is fresh
pub finish_missing : (p : Par) (g : Ghost) (v : ItemView) (m : Mask) → (d : ℕ) × (d < p.N) × (m d ≡ true) → Choice p g.un m → Facts p g v → (K : ℕ → ℕ)
    → Reads p g.hd v m K
    → (t : ℕ) → Facts p (finishing g m K t g.sent) v
finish_missing p g v m some ch h K r t = distrusted p g v m m K K t ch (record {
  -- a choice holds those named, and more is excepted: so it is just those
  fresh = λ n c nb x k. ⊎_elim (λ (q : (d : ℕ) × (d < p.N) × (n d ≡ true) × (m d ≡ false)). absurd (nb (some, c.1, q)))
      (λ (q : (d : ℕ) → d < p.N → n d ≡ true → m d ≡ true). inl (r.most x (Counted_mask p g.hd v n m x (ch.0, q) c k))) (within p.N n m);
  floor = λ a. ⊎_elim (λ k. inl k)
      (λ (k : (x : Val) × Counted p g.hd v m x × (x.addr ≡ a) × (x.stamp ≡ K a)). inr (k.0, k.1, k.2, omega (arith, k.3))) (r.some a);
}) h
