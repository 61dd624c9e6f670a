-- Laws of the log: one more block sent, the run over, a stripe acknowledged. Assumes nothing.
use Rattle.std.specs.Prelude.{◌≡◌, refl, Bool, cond, ◌&&◌, ◌⊎◌, ◌≢◌, length, get_or}
use Rattle.std.proofs.Common.{sym, ap, ◌∙◌, eq-eqb, eqb-true, length-append}
use Rattle.std.proofs.Math.Path.{subst}
use mathlib.Core.List.{List, [], ◌∷◌, ◌++◌, map}
use Rattle.std.proofs.Math.Bool.{true, false}
use Rattle.std.proofs.Math.Logic.{inl, inr, ⊎_elim}
use Prim.Native.Nat.{ℕ, zero, suc, ◌+◌, ◌≤◌, ◌<◌}
use Rattle.std.proofs.Math.Decide.{dec_lt, ℕ_discrete}
use Rattle.std.proofs.lemmas.Bool.{eqb-false}
use native.Mathlib.Omega.{arith}
use Rattle.std.proofs.Math.Dec.{eqb}
use Rattle.std.proofs.Math.ListN.{get_or-append}
use Rattle.std.proofs.lemmas.List.{length-map}
use Rattle.std.proofs.Math.Seq.{get_or-append_seam}
use Rattle.spec.specs.declared.Params.{Params}
use Rattle.spec.specs.Demands.{send_at}
use Rattle.spec.specs.History.{Send, mk_send, acknowledge, forget}
use Rattle.spec.specs.Layout.{Rec}
use Rattle.law_basic.specs.Ranges.{Test, test, and_left, and_right, and_both, get_d_map, and_fails}
use Rattle.law_basic.specs.Ranges.Test.{yes!, no! }
use Rattle.law_drives.specs.Tests.{cond_true, cond_false, clash}
use Rattle.proof_crash_machine.specs.Facts.{InV}
use Rattle.proof_crash_machine.specs.Memory.{set_at}
use Rattle.proof_crash_machine.specs.Order.{Track, sent_to}
use Rattle.proof_crash_machine.specs.Val.{Val}
use Rattle.proof_crash_items.specs.Items.{value_of}
use Rattle.proof_crash_calls.specs.Base.{set_at_here, set_at_else}
use Rattle.proof_crash_calls.specs.Sends.{SameSend, Logged, acked_to}

-- ---- values

pub value_addr : (b : List ℕ) (r : Rec) → (value_of b r).addr ≡ r.address
unfolding value_of
value_addr b r = refl

pub value_stamp : (b : List ℕ) (r : Rec) → (value_of b r).stamp ≡ r.stamp
unfolding value_of
value_stamp b r = refl

pub value_blk : (b : List ℕ) (r : Rec) → (value_of b r).blk ≡ (λ i. get_or b i 0)
unfolding value_of
value_blk b r = refl

-- ---- the log

-- whether it waits or is acknowledged
same_send : (p : Params) (x : Val) (y : Send) (w k : Bool) → SameSend p x y → SameSend p x (mk_send y.address y.stamp y.block y.stripe w k)
same_send p x y w k h = record { addr = h.addr; stamp = h.stamp; blk = h.blk; long = h.long }

-- ---- one more sent

module _ (p : Params) (a : List Val) (T : Track) (ss : List Send) (L : Logged p a T ss) (x : Val) (y : Send) (sx : SameSend p x y) (fresh : y.acked ≡ false) (t : ℕ) (up : t < x.stamp)
    (low : (z : Val) → InV z a → z.stamp ≤ t) where
  pub length-sent : length (ss ++ (y ∷ [])) ≡ suc (length ss)
  length-sent = length-append ss (y ∷ []) ∙ (let e : length ss + 1 ≡ suc (length ss) = omega arith in e)

  pub old_send : (j : ℕ) → j < length ss → send_at (ss ++ (y ∷ [])) j ≡ send_at ss j
  old_send j l = get_or-append ss (y ∷ []) (mk_send 0 0 [] 0 false false) j l

  pub new_send : send_at (ss ++ (y ∷ [])) (length ss) ≡ y
  new_send = get_or-append_seam ss y [] (mk_send 0 0 [] 0 false false)

  pub old_log : (j : ℕ) → j < length ss → (sent_to T x).log j ≡ T.log j
  old_log j l = set_at_else T.log T.clock x j (let n : j ≢ T.clock = omega (arith, L.count) in n)

  pub new_log : (sent_to T x).log (length ss) ≡ x
  new_log = ap (set_at T.log T.clock x) (sym L.count) ∙ set_at_here T.log T.clock x

  pub old_pos : (n : ℕ) → n ≤ t → (sent_to T x).pos n ≡ T.pos n
  old_pos n l = set_at_else T.pos x.stamp T.clock n (let q : n ≢ x.stamp = omega arith in q)

  pub new_pos : (sent_to T x).pos x.stamp ≡ length ss
  new_pos = set_at_here T.pos x.stamp T.clock ∙ L.count

  pub sent_logged : Logged p a (sent_to T x) (ss ++ (y ∷ []))
  sent_logged = record {
    count = ap suc L.count ∙ sym length-sent;
    same = λ j l. same j (dec_lt j (length ss)) l;
    acks = λ j l q. acks j (dec_lt j (length ss)) l q;
  }
    where
      last : (j : ℕ) → (j < length ss → ⊥) → j < length (ss ++ (y ∷ [])) → j ≡ length ss
      last j n l = omega (arith, length-sent)

      same : (j : ℕ) → Dec (j < length ss) → j < length (ss ++ (y ∷ [])) → SameSend p ((sent_to T x).log j) (send_at (ss ++ (y ∷ [])) j)
      same j (yes l) b = rw (old_log j l, old_send j l) (L.same j l)
      same j (no l) b = rw (last j l b, new_log, new_send) sx

      acks : (j : ℕ) → Dec (j < length ss) → j < length (ss ++ (y ∷ [])) → (send_at (ss ++ (y ∷ [])) j).acked ≡ true → InV ((sent_to T x).log j) a
          × ((sent_to T x).pos ((sent_to T x).log j).stamp ≡ j)
      acks j (yes l) b q =
          let k : InV (T.log j) a × (T.pos (T.log j).stamp ≡ j) = L.acks j l (ap (λ (z : Send). z.acked) (sym (old_send j l)) ∙ q) in
          (rw (old_log j l) k.0, ap (λ (z : Val). (sent_to T x).pos z.stamp) (old_log j l) ∙ old_pos (T.log j).stamp (low (T.log j) k.0) ∙ k.1)
      acks j (no l) b q = clash (ap (λ (z : Send). z.acked) (sym (ap (send_at (ss ++ (y ∷ []))) (last j l b) ∙ new_send)) ∙ q) fresh

-- ---- the run is over

pub length-forget : (ss : List Send) → length (map forget ss) ≡ length ss
length-forget ss = length-map ss forget

send_map : (f : Send → Send) (ss : List Send) (j : ℕ) → j < length ss → send_at (map f ss) j ≡ f (send_at ss j)
send_map f ss j l = get_d_map f ss j (mk_send 0 0 [] 0 false false) (mk_send 0 0 [] 0 false false) l

pub forget_logged : (p : Params) (a : List Val) (T : Track) (ss : List Send) → Logged p a T ss → Logged p a T (map forget ss)
unfolding forget
forget_logged p a T ss L = record {
  count = L.count ∙ sym (length-forget ss);
  same = λ j l. let b : j < length ss = omega (arith, l, length-forget ss) in rw (send_map forget ss j b) (same_send p (T.log j) (send_at ss j) false (send_at ss j).acked (L.same j b));
  acks = λ j l q. let b : j < length ss = omega (arith, l, length-forget ss) in L.acks j b (ap (λ (z : Send). z.acked) (sym (send_map forget ss j b)) ∙ q);
}

pub forget_waits : (ss : List Send) (j : ℕ) → j < length (map forget ss) → (send_at (map forget ss) j).waits ≡ false
unfolding forget
forget_waits ss j l = ap (λ (z : Send). z.waits) (send_map forget ss j (let b : j < length ss = omega (arith, l, length-forget ss) in b))

-- ---- a stripe is acknowledged

pub length_ack : (s : ℕ) (ss : List Send) → length (map (acknowledge s) ss) ≡ length ss
length_ack s ss = length-map ss (acknowledge s)

module _ (T : Track) (ss : List Send) (s : ℕ) (a : List Val) where
  abbrev hit : ℕ → Bool
  hit n = (send_at ss n).waits && eqb (send_at ss n).stripe s

  pub acked_from : (n : ℕ) (x : Val) → InV x (acked_to T ss s a n) → InV x a ⊎ ((j : ℕ) × (j < n) × ((send_at ss j).waits ≡ true) × ((send_at ss j).stripe ≡ s) × (x ≡ T.log j))
  unfolding acked_to
  acked_from zero x m = inl m
  acked_from (suc n) x m = go (λ q. more (acked_from n x q)) (test (hit n)) m
    where
      more : InV x a ⊎ ((j : ℕ) × (j < n) × ((send_at ss j).waits ≡ true) × ((send_at ss j).stripe ≡ s) × (x ≡ T.log j))
          → InV x a ⊎ ((j : ℕ) × (j < suc n) × ((send_at ss j).waits ≡ true) × ((send_at ss j).stripe ≡ s) × (x ≡ T.log j))
      more q =
          ⊎_elim (λ w. inl w) (λ (w : (j : ℕ) × (j < n) × ((send_at ss j).waits ≡ true) × ((send_at ss j).stripe ≡ s) × (x ≡ T.log j)). inr
          (w.0, omega (arith, w.1), w.2, w.3, w.4)) q

      go : (InV x (acked_to T ss s a n) → InV x a ⊎ ((j : ℕ) × (j < suc n) × ((send_at ss j).waits ≡ true) × ((send_at ss j).stripe ≡ s) × (x ≡ T.log j)))
          → Test (hit n)
          → InV x (cond (hit n) (T.log n ∷ acked_to T ss s a n) (acked_to T ss s a n))
          → InV x a ⊎ ((j : ℕ) × (j < suc n) × ((send_at ss j).waits ≡ true) × ((send_at ss j).stripe ≡ s) × (x ≡ T.log j))
      go back (yes! e) m = ⊎_elim (λ (w : x ≡ T.log n). inr (
        n,
        omega arith,
        and_left (send_at ss n).waits (eqb (send_at ss n).stripe s) e,
        eqb-true (send_at ss n).stripe s (and_right (send_at ss n).waits (eqb (send_at ss n).stripe s) e),
        w,
      )) (λ (w : InV x (acked_to T ss s a n)). back w)
          (subst (λ (l : List Val). InV x l) (cond_true (hit n) (T.log n ∷ acked_to T ss s a n) (acked_to T ss s a n) e) m)
      go back (no! e) m = back (subst (λ (l : List Val). InV x l) (cond_false (hit n) (T.log n ∷ acked_to T ss s a n) (acked_to T ss s a n) e) m)

  pub acked_old : (n : ℕ) (x : Val) → InV x a → InV x (acked_to T ss s a n)
  unfolding acked_to
  acked_old zero x m = m
  acked_old (suc n) x m = go (hit n) (acked_old n x m)
    where
      go : (b : Bool) → InV x (acked_to T ss s a n) → InV x (cond b (T.log n ∷ acked_to T ss s a n) (acked_to T ss s a n))
      go true q = inr q
      go false q = q

  pub acked_new : (n j : ℕ) → j < n → (send_at ss j).waits ≡ true → (send_at ss j).stripe ≡ s → InV (T.log j) (acked_to T ss s a n)
  unfolding acked_to
  acked_new zero j l w e = absurd (let z : ⊥ = omega arith in z)
  acked_new (suc n) j l w e = go (ℕ_discrete j n) (acked_new n j)
    where
      go :
          Dec (j ≡ n)
          → (j < n → (send_at ss j).waits ≡ true → (send_at ss j).stripe ≡ s → InV (T.log j) (acked_to T ss s a n))
          → InV (T.log j) (cond (hit n) (T.log n ∷ acked_to T ss s a n) (acked_to T ss s a n))
      go (yes q) ih = subst (λ (l : List Val). InV (T.log j) l)
          (sym (cond_true (hit n) (T.log n ∷ acked_to T ss s a n) (acked_to T ss s a n)
          (subst (λ (i : ℕ). hit i ≡ true) q (and_both (send_at ss j).waits (eqb (send_at ss j).stripe s) w (eq-eqb (send_at ss j).stripe s e)))))
          (inl (ap T.log q))
      go (no q) ih = more (hit n) (ih (omega arith) w e)
        where
          more : (b : Bool) → InV (T.log j) (acked_to T ss s a n) → InV (T.log j) (cond b (T.log n ∷ acked_to T ss s a n) (acked_to T ss s a n))
          more true m = inr m
          more false m = m

  -- what `acknowledge` does to a send
  pub ack_hit : (y : Send) → (y.waits && eqb y.stripe s) ≡ true → acknowledge s y ≡ mk_send y.address y.stamp y.block y.stripe false true
  unfolding acknowledge
  ack_hit y e = cond_true (y.waits && eqb y.stripe s) (mk_send y.address y.stamp y.block y.stripe false true) y e

  pub ack_miss : (y : Send) → (y.waits && eqb y.stripe s) ≡ false → acknowledge s y ≡ y
  unfolding acknowledge
  ack_miss y e = cond_false (y.waits && eqb y.stripe s) (mk_send y.address y.stamp y.block y.stripe false true) y e

  pub ack_logged : (p : Params) → Logged p a T ss → ((j : ℕ) → j < length ss → (send_at ss j).waits ≡ true → (send_at ss j).stripe ≡ s → T.pos (T.log j).stamp ≡ j)
      → Logged p (acked_to T ss s a (length ss)) T (map (acknowledge s) ss)
  ack_logged p L at = record {
    count = L.count ∙ sym (length_ack s ss);
    same = λ j l. let b : j < length ss = omega (arith, l, length_ack s ss) in rw (send_map (acknowledge s) ss j b) (same j b (test (hit j)));
    acks = λ j l q. let b : j < length ss = omega (arith, l, length_ack s ss) in acks j b (test (hit j)) (ap (λ (z : Send). z.acked) (sym (send_map (acknowledge s) ss j b)) ∙ q);
  }
    where
      same : (j : ℕ) → j < length ss → Test (hit j) → SameSend p (T.log j) (acknowledge s (send_at ss j))
      same j b (yes! e) = rw (ack_hit (send_at ss j) e) (same_send p (T.log j) (send_at ss j) false true (L.same j b))
      same j b (no! e) = rw (ack_miss (send_at ss j) e) (L.same j b)

      acks : (j : ℕ) → j < length ss → Test (hit j) → (acknowledge s (send_at ss j)).acked ≡ true → InV (T.log j) (acked_to T ss s a (length ss)) × (T.pos (T.log j).stamp ≡ j)
      acks j b (yes! e) q =
          let w : (send_at ss j).waits ≡ true = and_left (send_at ss j).waits (eqb (send_at ss j).stripe s) e in
          let n : (send_at ss j).stripe ≡ s = eqb-true (send_at ss j).stripe s (and_right (send_at ss j).waits (eqb (send_at ss j).stripe s) e) in
          (acked_new (length ss) j b w n, at j b w n)
      acks j b (no! e) q =
          let k : InV (T.log j) a × (T.pos (T.log j).stamp ≡ j) = L.acks j b (ap (λ (z : Send). z.acked) (sym (ack_miss (send_at ss j) e)) ∙ q) in
          (acked_old (length ss) (T.log j) k.0, k.1)

  -- those that wait afterwards waited before, in another stripe
  pub ack_waits : (j : ℕ) → j < length (map (acknowledge s) ss) → (send_at (map (acknowledge s) ss) j).waits ≡ true
      → (j < length ss) × ((send_at ss j).waits ≡ true) × ((send_at ss j).stripe ≢ s) × ((send_at (map (acknowledge s) ss) j).stripe ≡ (send_at ss j).stripe)
  ack_waits j l q = go (test (hit j))
    where
      b : j < length ss
      b = omega (arith, l, length_ack s ss)

      q' : (acknowledge s (send_at ss j)).waits ≡ true
      q' = ap (λ (z : Send). z.waits) (sym (send_map (acknowledge s) ss j b)) ∙ q

      go : Test (hit j) → (j < length ss) × ((send_at ss j).waits ≡ true) × ((send_at ss j).stripe ≢ s) × ((send_at (map (acknowledge s) ss) j).stripe ≡ (send_at ss j).stripe)
      go (yes! e) = clash q' (ap (λ (z : Send). z.waits) (ack_hit (send_at ss j) e))
      go (no! e) =
          let w : (send_at ss j).waits ≡ true = ap (λ (z : Send). z.waits) (sym (ack_miss (send_at ss j) e)) ∙ q' in (
            b,
            w,
            eqb-false (send_at ss j).stripe s (and_fails (send_at ss j).waits (eqb (send_at ss j).stripe s) e w),
            ap (λ (z : Send). z.stripe) (send_map (acknowledge s) ss j b ∙ ack_miss (send_at ss j) e),
          )
