-- Memory between uncut calls (M2 to M7, as far as demand 3 needs them), and how calls keep them. Assumes nothing.
use Rattle.std.specs.Prelude.{◌≡◌, refl, List, ◌⊎◌, ◌≢◌, Bool, true, false, ℕ, zero, suc, ◌≤◌, ◌<◌, length}
use Rattle.std.proofs.Common.{sym, ap₂, ◌∙◌, subst, inl, inr, ⊎_elim, arith}
use Rattle.std.proofs.Math.Decide.{ℕ_discrete}
use Rattle.proof_crash_machine.specs.Val.{Val}
use Rattle.proof_crash_machine.specs.Facts.Pair.{alone, pair}
use Rattle.proof_crash_machine.specs.Lemma.{pair_alone}
use Rattle.proof_crash_machine.specs.View.{Item, ItemView, InI, with_item, chunk_num, chunk_val}
use Rattle.proof_crash_machine.specs.View.Item.{chunk}
use Rattle.proof_crash_machine.specs.Facts.{Par, None, Word, self_none, Ghost, InV, Good, Datum, Counted, Used, WholeZone, Ragged, Facts, used}
use Rattle.proof_crash_machine.specs.Put
use Rattle.proof_crash_machine.specs.Land.{Landing, landing_facts}
use Rattle.proof_crash_machine.specs.Ghosts.{with_base, with_sent}

-- ---- functions changed at one place
abbrev pub choose : {A P : Type 0} → Dec P → A → A → A
choose (yes q) a b = a
choose (no q) a b = b

unfoldable pub set_at : {A : Type 0} → (ℕ → A) → ℕ → A → ℕ → A
set_at f s a t = choose (ℕ_discrete t s) a (f t)

pub set_at_elim : {A : Type 0} (Q : A → Type 0) (f : ℕ → A) (s : ℕ) (a : A) (t : ℕ) → (t ≡ s → Q a) → (t ≢ s → Q (f t)) → Q (set_at f s a t)
unfolding set_at
set_at_elim Q f s a t h k = go (ℕ_discrete t s)
  where
    go : (q : Dec (t ≡ s)) → Q (choose q a (f t))
    go (yes q) = h q
    go (no q) = k q

-- a stripe in flight is known by its number; what is not yet filled is padding, and parity is the exclusive or of that
pub record Mem : Type 0 where
  pub is_open : Bool
  pub zone : ℕ
  pub next : ℕ
  pub fly : ℕ → Bool
  pub ready : ℕ → ℕ → Bool
  pub F : ℕ → ℕ → Val
  pub stamp : ℕ
  pub serial : ℕ

abbrev pub Ok : Ghost → Val → Type 0
Ok g x = (x.stamp ≤ g.last x.addr) ⊎ (g.top < x.stamp)

-- a flight's stripe
pub record Flight (p : Par) (g : Ghost) (v : ItemView) (z s : ℕ) (G : ℕ → Val) (r : ℕ → Bool) : Type 0 where
  -- what has landed is the flight's, and only what may land has
  pub mine : (e : ℕ) (x : Val) → e < p.N → InI (chunk s x) (v e z) → (x ≡ G e) × (r e ≡ true)
  pub word : Word p s G
  pub good : (x : Val) → Datum p s G x → Good g x
  pub ok : (x : Val) → Datum p s G x → Ok g x

pub record MemOk (p : Par) (g : Ghost) (v : ItemView) (M : Mem) : Type 0 where
  pub none : None p g.un
  pub no_pair : g.pr ≡ alone
  pub whole : (z : ℕ) → Used p g.un v z → WholeZone p g.un v z
  pub lone : (y : ℕ) → Ragged p g.un v y → (M.is_open ≡ true) × (y ≡ M.zone)
  pub begun : M.is_open ≡ true → WholeZone p g.un v M.zone
  pub few : M.next ≤ p.S
  pub below : M.is_open ≡ true → (e s : ℕ) (x : Val) → e < p.N → InI (chunk s x) (v e M.zone) → s < M.next
  pub flies : (s : ℕ) → M.fly s ≡ true → (M.is_open ≡ true) × (s < M.next) × Flight p g v M.zone s (M.F s) (M.ready s)
  pub stamps : (x : Val) → InV x g.sent → x.stamp ≤ M.stamp
  pub top : g.top ≤ M.stamp
  pub serials : (y : ℕ) → Used p g.un v y → g.hd.ser y ≤ M.serial

-- stripe s is G from now on
abbrev pub flown : Mem → ℕ → (ℕ → Val) → (ℕ → Bool) → ℕ → ℕ → Mem
flown M s G r n t = record {
  is_open = M.is_open;
  zone = M.zone;
  next = n;
  fly = set_at M.fly s true;
  ready = set_at M.ready s r;
  F = set_at M.F s G;
  stamp = t;
  serial = M.serial;
}

-- stripe s is no longer in flight
abbrev pub ended : Mem → ℕ → Mem
ended M s = record { is_open = M.is_open; zone = M.zone; next = M.next; fly = set_at M.fly s false; ready = M.ready; F = M.F; stamp = M.stamp; serial = M.serial }

module _ (p : Par) (g : Ghost) (v : ItemView) (M : Mem) (a : MemOk p g v M) where
  old_whole : (w o : ℕ) → g.pr ≡ pair w o → WholeZone p g.un v o
  old_whole w o e = absurd (pair_alone (sym e ∙ a.no_pair))

  -- ---- a chunk lands
  module _ (d s : ℕ) (lt : d < p.N) (f : M.fly s ≡ true) (new : (x : Val) → InI (chunk s x) (v d M.zone) → ⊥) (may : M.ready s d ≡ true)
      (off : (k : ℕ) → length (v d M.zone) ≡ suc k → (k < p.S) × (p.grp s ≡ p.grp k)) where
    flight_is : (M.is_open ≡ true) × (s < M.next) × Flight p g v M.zone s (M.F s) (M.ready s)
    flight_is = a.flies s f

    b : 0 < length (v d M.zone)
    b = a.begun flight_is.0 d lt (a.none d lt)

    flight_landing : Landing p g v d M.zone s (M.F s)
    flight_landing = record {
      none = a.none;
      old = old_whole;
      drive = lt;
      begun = b;
      room = room (length (v d M.zone)) refl;
      number = omega (arith, flight_is.1, a.few);
      off = off;
      new = new;
      mine = λ e x l m. (flight_is.2.mine e x l m).0;
      word = flight_is.2.word;
      good = flight_is.2.good;
      ok = flight_is.2.ok;
    }
      where
        room : (n : ℕ) → length (v d M.zone) ≡ n → length (v d M.zone) < p.cap
        room zero e = omega (arith, e, b)
        room (suc k) e = omega (arith, e, (off k e).0, p.fits)

    abbrev i : Item
    i = chunk s (M.F s d)

    abbrev u : ItemView
    u = with_item v d M.zone i

    pub land_facts : Facts p g v → Facts p g u
    land_facts h = landing_facts p g v d M.zone s (M.F s) flight_landing h

    pub land_mem : MemOk p g u M
    land_mem = record {
      none = a.none;
      no_pair = a.no_pair;
      few = a.few;
      stamps = a.stamps;
      top = a.top;
      serials = λ y k. a.serials y (Put.Used_back v d M.zone i b p g y k);
      whole = λ z k. Put.Whole_fwd v d M.zone i b p g z (a.whole z (Put.Used_back v d M.zone i b p g z k));
      lone = λ y (e, t, j, k). a.lone y (
        e,
        t,
        Put.len_back v d M.zone i b e y j,
        Put.each_put v d M.zone i (λ (e y : ℕ) (l : List Item). length l < p.cap → length (v e y) < p.cap) (λ q. flight_landing.room) e y (λ q. q) k,
      );
      begun = λ q. Put.Whole_fwd v d M.zone i b p g M.zone (a.begun q);
      below = λ q e t x l m. ⊎_elim (λ (k : InI (chunk t x) (v e M.zone)). a.below q e t x l k)
          (λ (k : (e ≡ d) × (M.zone ≡ M.zone) × (chunk t x ≡ i)). subst (λ (n : ℕ). n < M.next) (sym (chunk_num k.2)) flight_is.1)
          (Put.in_back v d M.zone i (chunk t x) e M.zone m);
      flies = λ t q. let r : (M.is_open ≡ true) × (t < M.next) × Flight p g v M.zone t (M.F t) (M.ready t) = a.flies t q in (
        r.0,
        r.1,
        record {
          mine = λ e x l m. ⊎_elim (λ (k : InI (chunk t x) (v e M.zone)). r.2.mine e x l k)
              (λ (k : (e ≡ d) × (M.zone ≡ M.zone) × (chunk t x ≡ i)).
              (chunk_val k.2 ∙ ap₂ (λ (n j : ℕ). M.F n j) (sym (chunk_num k.2)) (sym k.0), ap₂ (λ (n j : ℕ). M.ready n j) (chunk_num k.2) k.0 ∙ may))
              (Put.in_back v d M.zone i (chunk t x) e M.zone m);
          word = r.2.word;
          good = r.2.good;
          ok = r.2.ok;
        },
      );
    }

  -- ---- a stripe begins, or is filled further: a write, a copy, a closing
  module _ (l : List Val) (s n t : ℕ) (G : ℕ → Val) (r : ℕ → Bool) (op : M.is_open ≡ true) (sn : s < n) (mn : M.next ≤ n) (nS : n ≤ p.S)
      (more : (x : Val) → InV x g.sent → InV x l) (st : (x : Val) → InV x l → x.stamp ≤ t) (mt : M.stamp ≤ t)
      (fl : Flight p (with_sent g l) v M.zone s G r) where
    pub fill_mem : MemOk p (with_sent g l) v (flown M s G r n t)
    fill_mem = record {
      none = a.none;
      no_pair = a.no_pair;
      whole = a.whole;
      lone = a.lone;
      begun = a.begun;
      few = nS;
      serials = a.serials;
      stamps = st;
      top = omega (arith, a.top, mt);
      below = λ q e k x b m. omega (arith, a.below q e k x b m, mn);
      flies = λ k q. go k q (ℕ_discrete k s);
    }
      where
        M' : Mem
        M' = flown M s G r n t

        same : (k : ℕ) → k ≡ s → Flight p (with_sent g l) v M.zone k (set_at M.F s G k) (set_at M.ready s r k)
        same k e = set_at_elim (λ (H : ℕ → Val). Flight p (with_sent g l) v M.zone k H (set_at M.ready s r k)) M.F s G k
            (λ q. set_at_elim (λ (R : ℕ → Bool). Flight p (with_sent g l) v M.zone k G R) M.ready s r k (λ q'. rw e fl) (λ q'. absurd (q' e))) (λ q. absurd (q e))

        other : (k : ℕ) → k ≢ s → Flight p g v M.zone k (M.F k) (M.ready k) → Flight p (with_sent g l) v M.zone k (set_at M.F s G k) (set_at M.ready s r k)
        other k e f = set_at_elim (λ (H : ℕ → Val). Flight p (with_sent g l) v M.zone k H (set_at M.ready s r k)) M.F s G k (λ q. absurd (e q))
            (λ q. set_at_elim (λ (R : ℕ → Bool). Flight p (with_sent g l) v M.zone k (M.F k) R) M.ready s r k (λ q'. absurd (e q'))
            (λ q'. record { mine = f.mine; word = f.word; ok = f.ok; good = λ x j. ⊎_elim (λ w. inl w) (λ (w : InV x g.sent). inr (more x w)) (f.good x j) }))

        was : (k : ℕ) → k ≢ s → set_at M.fly s true k ≡ true → M.fly k ≡ true
        was k e = set_at_elim (λ (B : Bool). B ≡ true → M.fly k ≡ true) M.fly s true k (λ q. absurd (e q)) (λ q j. j)

        go : (k : ℕ) → set_at M.fly s true k ≡ true → Dec (k ≡ s)
            → (M.is_open ≡ true) × (k < n) × Flight p (with_sent g l) v M.zone k (set_at M.F s G k) (set_at M.ready s r k)
        go k q (yes e) = (op, subst (λ (j : ℕ). j < n) (sym e) sn, same k e)
        go k q (no e) = let w : (M.is_open ≡ true) × (k < M.next) × Flight p g v M.zone k (M.F k) (M.ready k) = a.flies k (was k e q) in (w.0, omega (arith, w.1, mn), other k e w.2)

  -- ---- a stripe is on all drives: it ends, and what it holds may become the floor
  pub end_mem : (s : ℕ) (f : ℕ → ℕ) → MemOk p (with_base g f) v (ended M s)
  end_mem s f = record {
    none = a.none;
    no_pair = a.no_pair;
    whole = a.whole;
    lone = a.lone;
    begun = a.begun;
    few = a.few;
    below = a.below;
    stamps = a.stamps;
    top = a.top;
    serials = a.serials;
    flies = λ t q. let r : (M.is_open ≡ true) × (t < M.next) × Flight p g v M.zone t (M.F t) (M.ready t) = a.flies t (was t q) in
        (r.0, r.1, record { mine = r.2.mine; word = r.2.word; good = r.2.good; ok = r.2.ok });
  }
    where
      was : (t : ℕ) → set_at M.fly s false t ≡ true → M.fly t ≡ true
      was t = set_at_elim (λ (B : Bool). B ≡ true → M.fly t ≡ true) M.fly s false t (λ q e. absurd (let z : ◌≡◌ {A = ℕ} 0 1 = cc in let j : ⊥ = omega arith in j)) (λ q e. e)

  -- its data count with none missing
  pub done_counts : Facts p g v → (s : ℕ) → M.fly s ≡ true → ((e : ℕ) → e < p.N → (x : Val) × InI (chunk s x) (v e M.zone))
      → (x : Val) → Datum p s (M.F s) x → Counted p g.hd v g.un x
  done_counts h s f on x dt =
      let r : (M.is_open ≡ true) × (s < M.next) × Flight p g v M.zone s (M.F s) (M.ready s) = a.flies s f in
      record {
        z = M.zone;
        s = s;
        f = M.F s;
        dt = dt;
        rem = record {
          left = a.begun r.0;
          own = λ o l q. pair_alone
              (sym (h.swap.one M.zone o (used p g v g.un M.zone (self_none p g.un a.none) (a.begun r.0)) (used p g v g.un o (self_none p g.un a.none) l) q)
              ∙ a.no_pair);
        };
        st = record {
          on = λ e l n. let w : (y : Val) × InI (chunk s y) (v e M.zone) = on e l in
              subst (λ (y : Val). InI (chunk s y) (v e M.zone)) (r.2.mine e w.0 l w.1).0 w.1;
          word = r.2.word;
        };
      }
