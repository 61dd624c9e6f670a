-- (6) Stores on the untrusted drive keep all facts. Assumes nothing.
use Rattle.std.specs.Prelude.{◌≡◌, List, false, ℕ, ◌≤◌, ◌<◌, length}
use Rattle.std.proofs.Common.{sym, subst, inl, inr, ⊎_elim}
use Rattle.proof_crash_machine.specs.Val.{Val}
use Rattle.proof_crash_machine.specs.View.{Item, ItemView, InI}
use Rattle.proof_crash_machine.specs.View.Item.{chunk}
use Rattle.proof_crash_machine.specs.Mask.{Mask}
use Rattle.proof_crash_machine.specs.Facts.{Par, trust, self, placing_fewer, Ghost, Tr, Choice, Stripe, Datum, Counted, ZoneItems, Used, WholeZone, Moved, Ragged, Facts, Same, L_same}
use Rattle.proof_crash_machine.specs.Facts.{Stripe_same, Counted_same}

module _ (p : Par) (g : Ghost) (v u : ItemView) (same : (e y : ℕ) → e < p.N → g.un e ≡ false → v e y ≡ u e y) where
  same_trusted : (m : Mask) → Choice p g.un m → (y : ℕ) → Same p v u m y
  same_trusted m c y e l n = same e y l (trust p g.un m c e l n)

  trusted_same : (m : Mask) → Choice p g.un m → (y : ℕ) → Same p u v m y
  trusted_same m c y e l n = sym (same_trusted m c y e l n)

  len_fw : (y e : ℕ) → Tr p g.un e → 0 < length (v e y) → 0 < length (u e y)
  len_fw y e t b = subst (λ (x : List Item). 0 < length x) (same e y t.0 t.1) b

  len_bw : (y e : ℕ) → Tr p g.un e → 0 < length (u e y) → 0 < length (v e y)
  len_bw y e t b = subst (λ (x : List Item). 0 < length x) (sym (same e y t.0 t.1)) b

  used_bw : (y : ℕ) → Used p g.un u y → Used p g.un v y
  used_bw y (e, t, b) = (e, t, len_bw y e t b)

  rag_bw : (y : ℕ) → Ragged p g.un u y → Ragged p g.un v y
  rag_bw y (e, t, b, c) = (e, t, len_bw y e t b, subst (λ (x : List Item). length x < p.cap) (sym (same e y t.0 t.1)) c)

  pub untrusted : Facts p g v → Facts p g u
  untrusted h = record {
    lost = h.lost;
    zones = λ d z t. subst (ZoneItems p g d z) (same d z t.0 t.1) (h.zones d z t);
    parity = record {
      whole = λ m c y s f on. h.parity.whole m c y s f (λ e l n. subst (λ (x : List Item). InI (chunk s (f e)) x) (trusted_same m c y e l n) (on e l n));
      sound = λ m c y s f st x dt. h.parity.sound m c y s f (Stripe_same p u v m y s f (trusted_same m c y) st) x dt;
    };
    swap = record {
      serials = λ y z a b q. h.swap.serials y z (used_bw y a) (used_bw z b) q;
      below = λ y a. h.swap.below y (used_bw y a);
      one = λ w o a b q. h.swap.one w o (used_bw w a) (used_bw o b) q;
      named = h.swap.named;
      safe = λ w o e. ⊎_elim (λ (k : WholeZone p g.un v o). inl (λ d l n. len_fw o d (l, n) (k d l n)))
          (λ (k : Moved p g.un v w o). inr (record {
            whole = λ d l n. len_fw w d (l, n) (k.whole d l n);
            clean = λ m c s f st. Stripe_same p v u g.un w s f (same_trusted g.un (self p g.un h.lost.few) w) (k.clean m c s f (Stripe_same p u v m w s f (trusted_same m c w) st));
            still = λ m c l s f st x dt.
                let t : (s' : ℕ) × (f' : ℕ → Val) × Stripe p v m o s' f' × Datum p s' f' x =
                k.still m c (L_same p u v m o (trusted_same m c o) l) s f (Stripe_same p u v g.un w s f (trusted_same g.un (self p g.un h.lost.few) w) st) x dt in
                (t.0, t.1, Stripe_same p v u m o t.0 t.1 (same_trusted m c o) t.2, t.3);
          })) (h.swap.safe w o e);
    };
    «open» = record {
      place = placing_fewer p g.hd g.pr (Used p g.un v) (Used p g.un u) used_bw h.«open».place;
      ragged = λ y z a b. h.«open».ragged y z (rag_bw y a) (rag_bw z b);
    };
    content = record {
      fresh = λ m c nb x k. h.content.fresh m c nb x (Counted_same p g u v m (trusted_same m c) (same_trusted m c) x k);
      floor = λ a. ⊎_elim (λ k. inl k)
          (λ (k : (x : Val) × Counted p g.hd v g.un x × (x.addr ≡ a) × (g.base a ≤ x.stamp)).
          inr (k.0, Counted_same p g v u g.un (same_trusted g.un (self p g.un h.lost.few)) (trusted_same g.un (self p g.un h.lost.few)) k.0 k.1, k.2, k.3))
          (h.content.floor a);
    };
  }
