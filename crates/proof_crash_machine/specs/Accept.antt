-- No restart in order is refused: what refusals 9 and 8 ask follows from the drive facts, for every choice m. Assumes nothing.
use Rattle.std.specs.Prelude.{◌≡◌, ◌⊎◌, ◌≢◌, true, false, ℕ, ◌<◌}
use Rattle.std.proofs.Common.{subst, inl, inr, ⊎_elim}
use Rattle.proof_crash_machine.specs.Val.{Val}
use Rattle.proof_crash_machine.specs.Facts.Pair.{pair}
use Rattle.proof_crash_machine.specs.View.{ItemView}
use Rattle.proof_crash_machine.specs.Mask.{Mask}
use Rattle.proof_crash_machine.specs.Facts.{Par, trust, Placing, InPair, Ghost, Good, Tr, Choice, L, R, Stripe, Datum, ZoneItems, Used, Ragged, Facts, used, dec_l}

pub record Accepts (p : Par) (g : Ghost) (v : ItemView) (m : Mask) : Type 0 where
  -- pointers, headers, numbers, stored addresses, zone by zone, of the present drives
  pub zones : (d z : ℕ) → d < p.N → m d ≡ false → ZoneItems p g d z (v d z)
  -- serials
  pub below : (z : ℕ) → L p v m z → g.hd.cop z < g.hd.ser z
  pub serials : (y z : ℕ) → L p v m y → L p v m z → g.hd.ser y ≡ g.hd.ser z → y ≡ z
  -- addresses, stored or decoded
  pub decoded : (z s : ℕ) (f : ℕ → Val) → Stripe p v m z s f → (x : Val) → Datum p s f x → Good g x
  -- at most one unsealed segment
  pub one : (y z : ℕ) → R p g.hd v m y → R p g.hd v m z → Ragged p m v y → Ragged p m v z → y ≡ z
  -- the named zones are good, and no two segments have the same
  pub places : (z : ℕ) → L p v m z → (d : ℕ) → d < p.N → (g.hd.zn z d < p.Z) × (p.fine d (g.hd.zn z d) ≡ true)
  pub apart : (y z : ℕ) → L p v m y → L p v m z → (d : ℕ) → d < p.N → g.hd.zn y d ≡ g.hd.zn z d → y ≡ z
  -- on each drive a zone for the rewrite: empty, or of a dropped segment
  pub room : (d : ℕ) → d < p.N → (y : ℕ) × (y < p.Z) × (p.fine d y ≡ true) × ((z : ℕ) → R p g.hd v m z → g.hd.zn z d ≢ y)

pub accepted : (p : Par) (g : Ghost) (v : ItemView) → Facts p g v → (m : Mask) → Choice p g.un m → Accepts p g v m
accepted p g v h m c = record {
  zones = λ d z l n. h.zones d z (tr d l n);
  below = λ z l. h.swap.below z (used p g v m z c l);
  serials = λ y z a b e. h.swap.serials y z (used p g v m y c a) (used p g v m z c b) e;
  decoded = λ z s f st x dt. h.parity.sound m c z s f st x dt;
  one = λ y z a b i j. ⊎_elim (λ e. e)
      (λ q. absurd (⊎_elim (λ (e : g.pr ≡ pair y z). a.own z b.left (h.swap.named y z e).1) (λ (e : g.pr ≡ pair z y). b.own y a.left (h.swap.named z y e).1) q))
      (h.«open».ragged y z (rag y i) (rag z j));
  places = λ z l. pl.put z (inl (used p g v m z c l));
  apart = λ y z i j. pl.apart y z (inl (used p g v m y c i)) (inl (used p g v m z c j));
  room = λ d l. ⊎_elim (λ (k : (y : ℕ) × (y < p.Z) × (p.fine d y ≡ true) × ((z : ℕ) → (Used p g.un v z) ⊎ (InPair g.pr z) → g.hd.zn z d ≢ y)).
      (k.0, k.1, k.2, λ z r. k.3 z (inl (used p g v m z c r.left))))
      (λ (k : (w : ℕ) × (o : ℕ) × (g.pr ≡ pair w o)). both d l k.0 k.1 k.2 (dec_l p v m k.1)) (pl.room d l);
}
  where
    tr : (d : ℕ) → d < p.N → m d ≡ false → Tr p g.un d
    tr d l n = (l, trust p g.un m c d l n)

    rag : (y : ℕ) → Ragged p m v y → Ragged p g.un v y
    rag y (d, t, a, b) = (d, tr d t.0 t.1, a, b)

    pl : Placing p g.hd g.pr (Used p g.un v)
    pl = h.«open».place

    free : (d : ℕ) → d < p.N → (x : ℕ) → InPair g.pr x → (R p g.hd v m x → ⊥) → (y : ℕ) × (y < p.Z) × (p.fine d y ≡ true)
        × ((z : ℕ) → R p g.hd v m z → g.hd.zn z d ≢ y)
    free d l x i n = (
      g.hd.zn x d,
      (pl.put x (inr i) d l).0,
      (pl.put x (inr i) d l).1,
      λ z r e. n (subst (λ (t : ℕ). R p g.hd v m t) (pl.apart z x (inl (used p g v m z c r.left)) (inr i) d l e) r),
    )

    both : (d : ℕ) → d < p.N → (w o : ℕ) → g.pr ≡ pair w o → Dec (L p v m o) → (y : ℕ) × (y < p.Z) × (p.fine d y ≡ true)
        × ((z : ℕ) → R p g.hd v m z → g.hd.zn z d ≢ y)
    both d l w o e (yes k) = free d l w (inl (o, e)) (λ r. r.own o k (h.swap.named w o e).1)
    both d l w o e (no k) = free d l o (inr (w, e)) (λ r. k r.left)
