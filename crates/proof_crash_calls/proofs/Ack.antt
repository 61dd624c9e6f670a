-- A stripe is on all drives: its writes are acknowledged, and the floor rises. Assumes nothing.
use Rattle.std.specs.Prelude.{◌≡◌, List, Bool, cond, not, ◌&&◌, ◌⊎◌, ◌≢◌, eqb, length}
use Rattle.std.proofs.Math.Path.{refl}
use Rattle.std.proofs.Common.{sym, ap, ◌∙◌, subst, eq-eqb, ne_eqb, eqb-true}
use Rattle.std.proofs.Math.Bool.{true, false}
use Rattle.std.proofs.Math.Logic.{inl, inr, ⊎_elim}
use Prim.Native.Nat.{ℕ, zero, suc, max, ◌≤◌, ◌<◌}
use Rattle.std.proofs.Math.Decide.{dec_le, ℕ_discrete}
use Rattle.std.proofs.lemmas.Bool.{eqb-false, not-true}
use native.Mathlib.Omega.{arith}
use Rattle.spec.specs.declared.Params.{Params}
use Rattle.spec.specs.declared.State.{State}
use Rattle.spec.specs.Demands.{send_at}
use Rattle.spec.specs.History.{Send}
use Rattle.spec.specs.Layout.{parity_drive, data_drive}
use Rattle.spec.specs.Memory.{filled_in_of}
use Rattle.spec.specs.Params.{data_count}
use Rattle.law_basic.specs.Geometry.{Ranged, data_drive_lt, data_not_parity}
use Rattle.law_basic.specs.Ranges.{and_left, and_right, and_both}
use Rattle.law_drives.specs.Tests.{cond_true, cond_false, clash}
use Rattle.proof_crash_machine.specs.History.Mode.{run}
use Rattle.proof_crash_machine.specs.Facts.{Ghost, InV, Datum}
use Rattle.proof_crash_machine.specs.Ghosts.{with_base}
use Rattle.proof_crash_machine.specs.History.Step.{ack}
use Rattle.proof_crash_machine.specs.Memory.{Mem, ended}
use Rattle.proof_crash_machine.specs.Order.{Track}
use Rattle.proof_crash_machine.specs.Val.{Val}
use Rattle.proof_crash_machine.specs.View.Item.{chunk}
use Rattle.proof_crash_machine.specs.View.{ItemView, InI}
use Rattle.proof_crash_items.specs.Ranges.{par_of, apart_code}
use Rattle.proof_crash_calls.specs.Go.{mst, Go, go_step}
use Rattle.proof_crash_calls.specs.Rel.{in_use_of, Waiting}
use Rattle.proof_crash_calls.specs.Sends.{acked_to}
use Rattle.proof_crash_calls.proofs.Sends.{acked_from}

-- the greatest stamp at address x among the data of drives below n, or the old floor
unfoldable pub raise_to : ℕ → (ℕ → Val) → (ℕ → ℕ) → ℕ → ℕ → ℕ
raise_to q G base x zero = base x
raise_to q G base x (suc n) =
    let r = raise_to q G base x n in
    cond (not (eqb n q) && eqb (G n).addr x) (max (G n).stamp r) r

module _ (q : ℕ) (G : ℕ → Val) (base : ℕ → ℕ) (x : ℕ) where
  abbrev f : ℕ → ℕ
  f n = raise_to q G base x n

  abbrev hit : ℕ → Bool
  hit n = not (eqb n q) && eqb (G n).addr x

  ack_step : (n : ℕ) → f (suc n) ≡ cond (hit n) (max (G n).stamp (f n)) (f n)
  unfolding raise_to
  ack_step n = refl

  pub raise_low : (n : ℕ) → base x ≤ raise_to q G base x n
  raise_low zero = unfold raise_to in omega arith
  raise_low (suc n) = go (hit n) refl (raise_low n)
    where
      go : (b : Bool) → hit n ≡ b → base x ≤ f n → base x ≤ f (suc n)
      go true e l = rw (ack_step n, e) (omega arith)
      go false e l = rw (ack_step n, e) l

  pub raise_most : (n d : ℕ) → d < n → d ≢ q → (G d).addr ≡ x → (G d).stamp ≤ raise_to q G base x n
  raise_most zero d l k e = absurd (let z : ⊥ = omega arith in z)
  raise_most (suc n) d l k e = go (ℕ_discrete d n) (hit n) refl (raise_most n d)
    where
      go : Dec (d ≡ n) → (b : Bool) → hit n ≡ b → (d < n → d ≢ q → (G d).addr ≡ x → (G d).stamp ≤ f n) → (G d).stamp ≤ f (suc n)
      go (yes w) true t ih = rw (ack_step n, t, w) (omega arith)
      go (yes w) false t ih = clash (subst (λ (j : ℕ). hit j ≡ true) w (and_both (not (eqb d q)) (eqb (G d).addr x) (ap not (ne_eqb d q k)) (eq-eqb (G d).addr x e))) t
      go (no w) true t ih = let r : (G d).stamp ≤ f n = ih (omega arith) k e in rw (ack_step n, t) (omega arith)
      go (no w) false t ih = rw (ack_step n, t) (ih (omega arith) k e)

  pub raise_is : (n : ℕ) → (raise_to q G base x n ≡ base x) ⊎ ((d : ℕ) × (d < n) × (d ≢ q) × ((G d).addr ≡ x) × (raise_to q G base x n ≡ (G d).stamp))
  raise_is zero = inl (unfold raise_to in refl)
  raise_is (suc n) = go (hit n) refl (dec_le (f n) (G n).stamp) (raise_is n)
    where
      more : (f n ≡ base x) ⊎ ((d : ℕ) × (d < n) × (d ≢ q) × ((G d).addr ≡ x) × (f n ≡ (G d).stamp)) → f (suc n) ≡ f n
          → (f (suc n) ≡ base x) ⊎ ((d : ℕ) × (d < suc n) × (d ≢ q) × ((G d).addr ≡ x) × (f (suc n) ≡ (G d).stamp))
      more w e =
          ⊎_elim (λ (k : f n ≡ base x). inl (e ∙ k)) (λ (k : (d : ℕ) × (d < n) × (d ≢ q) × ((G d).addr ≡ x) × (f n ≡ (G d).stamp)). inr
          (k.0, omega (arith, k.1), k.2, k.3, e ∙ k.4)) w

      go : (b : Bool) → hit n ≡ b → Dec (f n ≤ (G n).stamp) → (f n ≡ base x) ⊎ ((d : ℕ) × (d < n) × (d ≢ q) × ((G d).addr ≡ x) × (f n ≡ (G d).stamp))
          → (f (suc n) ≡ base x) ⊎ ((d : ℕ) × (d < suc n) × (d ≢ q) × ((G d).addr ≡ x) × (f (suc n) ≡ (G d).stamp))
      go true e (yes l) w =
          let m : max (G n).stamp (f n) ≡ (G n).stamp = omega arith in
          inr (
            n,
            omega arith,
            eqb-false n q (not-true (eqb n q) (and_left (not (eqb n q)) (eqb (G n).addr x) e)),
            eqb-true (G n).addr x (and_right (not (eqb n q)) (eqb (G n).addr x) e),
            ack_step n ∙ cond_true (hit n) (max (G n).stamp (f n)) (f n) e ∙ m,
          )
      go true e (no l) w = let m : max (G n).stamp (f n) ≡ f n = omega arith in more w (ack_step n ∙ cond_true (hit n) (max (G n).stamp (f n)) (f n) e ∙ m)
      go false e l w = more w (ack_step n ∙ cond_false (hit n) (max (G n).stamp (f n)) (f n) e)

-- ---- the step

module _ (p : Params) (h : Ranged p) (off : List ℕ) (g : Ghost) (v : ItemView) (a : List Val) (c : Bool) (M : Mem) (T : Track) (ss : List Send) (st : State) (s : ℕ)
    (fly : M.fly s ≡ true) (on : (e : ℕ) → e < p.N → (x : Val) × InI (chunk s x) (v e M.zone))
    (w : (j : ℕ) → j < length ss → (send_at ss j).waits ≡ true → Waiting p st M (T.log j) (send_at ss j).stripe × InV (T.log j) g.sent × (T.pos (T.log j).stamp ≡ j))
    (most : (i : ℕ) → i < 8 → in_use_of st i ≡ true → filled_in_of st i ≤ data_count p) where
  abbrev pub ack_base : ℕ → ℕ
  ack_base x = raise_to (parity_drive p s) (M.F s) g.base x p.N

  abbrev pub ack_list : List Val
  ack_list = acked_to T ss s a (length ss)

  base_up : (x : ℕ) → (ack_base x ≡ g.base x) ⊎ ((y : Val) × Datum (par_of p h off) s (M.F s) y × (y.addr ≡ x) × (ack_base x ≡ y.stamp) × (g.base x ≤ ack_base x))
  base_up x = ⊎_elim (λ e. inl e)
      (λ (k : (d : ℕ) × (d < p.N) × (d ≢ parity_drive p s) × ((M.F s d).addr ≡ x) × (ack_base x ≡ (M.F s d).stamp)).
      inr (M.F s k.0, record { d = k.0; lt = k.1; data? = apart_code p h s k.0 k.2; val = refl }, k.3, k.4, raise_low (parity_drive p s) (M.F s) g.base x p.N))
      (raise_is (parity_drive p s) (M.F s) g.base x p.N)

  al : (x : Val) → InV x ack_list → InV x a ⊎ ((InV x g.sent) × (x.stamp ≤ ack_base x.addr))
  al x m = ⊎_elim (λ k. inl k)
      (λ (k : (j : ℕ) × (j < length ss) × ((send_at ss j).waits ≡ true) × ((send_at ss j).stripe ≡ s) × (x ≡ T.log j)). inr (sent k.0 k.1 k.2 k.3 k.4))
      (acked_from T ss s a (length ss) x m)
    where
      sent : (j : ℕ) → j < length ss → (send_at ss j).waits ≡ true → (send_at ss j).stripe ≡ s → x ≡ T.log j → (InV x g.sent) × (x.stamp ≤ ack_base x.addr)
      sent j l q e n =
          let k : Waiting p st M (T.log j) (send_at ss j).stripe × InV (T.log j) g.sent × (T.pos (T.log j).stamp ≡ j) = w j l q in
          let y : Waiting p st M x s = subst (λ (t : ℕ). Waiting p st M x t) e (subst (λ (t : Val). Waiting p st M t (send_at ss j).stripe) (sym n) k.0) in
          let b : y.k < data_count p = omega (arith, y.filled, most y.i y.lt y.in_use_of?) in
          let z : M.F s (data_drive p s y.k) ≡ x = y.val in
          let r : (M.F s (data_drive p s y.k)).stamp ≤ ack_base x.addr =
          raise_most (parity_drive p s) (M.F s) g.base x.addr p.N (data_drive p s y.k) (data_drive_lt p s y.k b) (λ i. data_not_parity p s y.k i) (ap (λ (t : Val). t.addr) z) in
          (subst (λ (t : Val). InV t g.sent) (sym n) k.1, subst (λ (t : ℕ). t ≤ ack_base x.addr) (ap (λ (t : Val). t.stamp) z) r)

  pub ack_go : Go (par_of p h off) (mst g v a c (run M)) (mst (with_base g ack_base) v ack_list c (run (ended M s))) T T
  ack_go = go_step (par_of p h off) (mst g v a c (run M)) (mst (with_base g ack_base) v ack_list c (run (ended M s))) T (ack (mst g v a c (run M)) M s ack_base ack_list refl fly on base_up al)
