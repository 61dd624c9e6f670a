-- A footer block keeps the drive facts: nothing that counts is changed. Assumes nothing.
use Rattle.std.specs.Prelude.{◌≡◌, List, [], ◌∷◌, ◌++◌, ℕ, suc, ◌≤◌, ◌<◌, length}
use Rattle.std.proofs.Common.{sym, ◌∙◌, inl, inr, ⊎_elim, arith}
use Rattle.proof_crash_machine.specs.Val.{Val}
use Rattle.proof_crash_machine.specs.Facts.Pair.{pair}
use Rattle.proof_crash_machine.specs.View.{Item, ItemView, InI, with_item, in_cases, chunk_foot}
use Rattle.proof_crash_machine.specs.View.Item.{chunk, foot}
use Rattle.proof_crash_machine.specs.Mask.{Mask}
use Rattle.proof_crash_machine.specs.Facts.{Par, placing_fewer, Ghost, Tr, Stripe, Counted, Off, ZoneItems, Used, WholeZone, Ragged, Facts}
use Rattle.proof_crash_machine.specs.Put

module _ (p : Par) (g : Ghost) (v : ItemView) (d z j : ℕ) (drive : Tr p g.un d) (begun : 0 < length (v d z)) (room : length (v d z) < p.cap)
    (old : (w o : ℕ) → g.pr ≡ pair w o → WholeZone p g.un v o) (done : (s : ℕ) → s < p.S → (x : Val) × InI (chunk s x) (v d z)) where
  abbrev u : ItemView
  u = with_item v d z (foot j)

  foot_in_old : (s : ℕ) (x : Val) (e y : ℕ) → InI (chunk s x) (u e y) → InI (chunk s x) (v e y)
  foot_in_old s x e y m = ⊎_elim (λ k. k) (λ (k : (e ≡ d) × (y ≡ z) × (chunk s x ≡ foot j)). absurd (chunk_foot k.2)) (Put.in_back v d z (foot j) (chunk s x) e y m)

  foot_stripe_old : (m : Mask) (y s : ℕ) (f : ℕ → Val) → Stripe p u m y s f → Stripe p v m y s f
  foot_stripe_old m y s f h = record { on = λ e l n. foot_in_old s (f e) e y (h.on e l n); word = h.word }

  off_old : (k s : ℕ) (x : Val) → Off (v d z ++ (foot j ∷ [])) k (chunk s x) → Off (v d z) k (chunk s x)
  off_old k s x o = ⊎_elim (λ q. q) (λ (q : (k ≡ length (v d z)) × (foot j ≡ chunk s x)). absurd (chunk_foot (sym q.1))) (Put.off_cases (v d z) (foot j) (chunk s x) k o)

  foot_zone_kept : ZoneItems p g d z (v d z) → ZoneItems p g d z (v d z ++ (foot j ∷ []))
  foot_zone_kept h = record {
    len = omega (arith, Put.length-snoc (v d z) (foot j), room);
    head = λ b. Put.off_left (v d z) (foot j) 0 begun ∙ h.head begun;
    num = λ k s x o. h.num k s x (off_old (suc k) s x o);
    once = λ i k s x y o o'. h.once i k s x y (off_old i s x o) (off_old k s y o');
    origin = λ s x m n. ⊎_elim (λ (q : InI (chunk s x) (v d z)). h.origin s x q n) (λ (q : chunk s x ≡ foot j). absurd (chunk_foot q)) (in_cases (chunk s x) (foot j) (v d z) m);
    sealed = λ q s b. let r : (x : Val) × InI (chunk s x) (v d z) = done s b in (r.0, Rattle.proof_crash_machine.specs.View.item_left (chunk s r.0) (v d z) (foot j ∷ []) r.1);
  }

  foot_used_old : (y : ℕ) → Used p g.un u y → Used p g.un v y
  foot_used_old y k = Put.Used_back v d z (foot j) begun p g y k

  rag : (y : ℕ) → Ragged p g.un u y → Ragged p g.un v y
  rag y (e, t, b, c) = (
    e,
    t,
    Put.len_back v d z (foot j) begun e y b,
    Put.each_put v d z (foot j) (λ (e y : ℕ) (l : List Item). length l < p.cap → length (v e y) < p.cap) (λ k. room) e y (λ k. k) c,
  )

  pub footed : Facts p g v → Facts p g u
  footed h = record {
    lost = h.lost;
    zones = λ e y t. Put.each_put v d z (foot j) (ZoneItems p g) (foot_zone_kept (h.zones d z drive)) e y (h.zones e y t);
    parity = record {
      whole = λ m c y s f on. h.parity.whole m c y s f (λ e l n. foot_in_old s (f e) e y (on e l n));
      sound = λ m c y s f st x dt. h.parity.sound m c y s f (foot_stripe_old m y s f st) x dt;
    };
    swap = record {
      serials = λ y x b c q. h.swap.serials y x (foot_used_old y b) (foot_used_old x c) q;
      below = λ y b. h.swap.below y (foot_used_old y b);
      one = λ w o b c q. h.swap.one w o (foot_used_old w b) (foot_used_old o c) q;
      named = h.swap.named;
      safe = λ w o e. inl (Put.Whole_fwd v d z (foot j) begun p g o (old w o e));
    };
    «open» = record {
      place = placing_fewer p g.hd g.pr (Used p g.un v) (Used p g.un u) foot_used_old h.«open».place;
      ragged = λ y x b c. h.«open».ragged y x (rag y b) (rag x c);
    };
    content = record {
      fresh = λ m c nb x k. h.content.fresh m c nb x (record {
        z = k.z;
        s = k.s;
        f = k.f;
        rem = Put.R_back v d z (foot j) begun p g m k.z k.rem;
        st = foot_stripe_old m k.z k.s k.f k.st;
        dt = k.dt;
      });
      floor = λ a. ⊎_elim (λ k. inl k)
          (λ (k : (x : Val) × Counted p g.hd v g.un x × (x.addr ≡ a) × (g.base a ≤ x.stamp)).
          inr (k.0, Put.Counted_fwd v d z (foot j) begun p g g.un k.0 k.1, k.2, k.3)) (h.content.floor a);
    };
  }
