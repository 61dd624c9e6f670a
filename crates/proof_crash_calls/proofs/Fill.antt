-- A change of memory alone: padding, and what a write or copy puts into the filling stripe. Assumes nothing.
use Rattle.std.specs.Prelude.{◌≡◌, refl, Bool, true, false, ◌||◌, ◌≢◌, length, replicate}
use Rattle.std.proofs.Common.{sym, ◌∙◌, inl}
use Rattle.std.proofs.Math.Path.{ap}
use mathlib.Core.List.{List}
use Prim.Native.Nat.{ℕ, zero, suc, ◌+◌, ◌≤◌, ◌<◌}
use native.Mathlib.Omega.{arith}
use Rattle.std.proofs.lemmas.List.{length-replicate}
use Rattle.spec.specs.declared.Params.{Params}
use Rattle.spec.specs.declared.State.{State}
use Rattle.spec.specs.Closing.{padded}
use Rattle.spec.specs.Counts.{padding_address}
use Rattle.spec.specs.Layout.{data_drive, mk_rec}
use Rattle.spec.specs.Lists.{is_in}
use Rattle.spec.specs.Memory.{stripe_in, filled_in_of, landed_in, offset_in}
use Rattle.spec.specs.Params.{data_count, inflight_len}
use Rattle.spec.specs.Write.{placed}
use Rattle.law_basic.specs.Geometry.{Ranged, data_count_high}
use Rattle.law_drives.specs.Tables.{zero-at}
use Rattle.proof_crash_machine.specs.Exec.{or_1}
use Rattle.proof_crash_machine.specs.Facts.{Ghost, Off}
use Rattle.proof_crash_machine.specs.History.{State as m-State, Inv}
use Rattle.proof_crash_machine.specs.History.Mode.{run}
use Rattle.proof_crash_machine.specs.History.Step.{close as m-close}
use Rattle.proof_crash_machine.specs.Memory.{Mem, Flight, MemOk, flown}
use Rattle.proof_crash_machine.specs.Order.{Track, no_track}
use Rattle.proof_crash_machine.specs.Put.{off_in}
use Rattle.proof_crash_machine.specs.Val.{Val, pads}
use Rattle.proof_crash_machine.specs.View.Item.{chunk}
use Rattle.proof_crash_machine.specs.View.{ItemView}
use Rattle.proof_crash_items.specs.Items.{value_of}
use Rattle.proof_crash_items.specs.Ranges.{par_of}
use Rattle.proof_crash_calls.specs.Cells.{add-filled}
use Rattle.proof_crash_calls.specs.Go.{mst, Go, go_none, go_step, go_then, go_inv}
use Rattle.proof_crash_calls.proofs.Placed.{ready-more, placed_state, placed_long, placed_rel, placed_waits, placed_used}
use Rattle.proof_crash_calls.specs.Rel.{ready_at, in_use_of, filled_used, RelOn, Rel, rel_on, Waiting}

-- ---- values

pub pads_value : (n s : ℕ) → pads ≡ value_of (replicate n 0) (mk_rec padding_address 0 s)
unfolding pads value_of
pads_value n s = λ j. record { addr = 18446744073709551615; stamp = 0; blk = λ i. sym (zero-at n i) j }

-- ---- what may land, once k positions are filled

unfoldable pub risen : Params → ℕ → ℕ → (ℕ → Bool) → ℕ → Bool
risen p s k f d = f d || ready_at p s k d

pub risen-more : (p : Params) (s k : ℕ) (f : ℕ → Bool) (d : ℕ) → f d ≡ true → risen p s k f d ≡ true
unfolding risen
risen-more p s k f d e = or_1 (f d) (ready_at p s k d) e

pub risen_is : (p : Params) (s k : ℕ) (f : ℕ → Bool) (d : ℕ) → d < p.N → f d ≡ ready_at p s k d → risen p s (suc k) f d ≡ ready_at p s (suc k) d
unfolding risen
risen_is p s k f d l e = ap (λ (x : Bool). x || ready_at p s (suc k) d) e ∙ go (ready_at p s k d) refl
  where
    go : (b : Bool) → ready_at p s k d ≡ b → (b || ready_at p s (suc k) d) ≡ ready_at p s (suc k) d
    go true q = sym (ready-more p s k d l q)
    go false q = refl

-- ---- what has landed may

pub landed_may : (p : Params) (h : Ranged p) (off : List ℕ) (g : Ghost) (v : ItemView) (st : State) (fl : List ℕ) (M : Mem) (U : ℕ → Bool) → MemOk (par_of p h off) g v M
    → RelOn p v st fl M U
    → (i : ℕ) → i < 8 → U i ≡ true → (e : ℕ) → e < p.N → is_in (landed_in st i) e ≡ true → M.ready (stripe_in st i) e ≡ true
landed_may p h off g v st fl M U m R i il u e el q =
    let f : (M.is_open ≡ true) × (stripe_in st i < M.next) × Flight (par_of p h off) g v M.zone (stripe_in st i) (M.F (stripe_in st i)) (M.ready (stripe_in st i)) =
    m.flies (stripe_in st i) (R.flying i il u) in
    let o : Off (v e M.zone) (suc (offset_in st i e)) (chunk (stripe_in st i) (M.F (stripe_in st i) e)) = (R.slot i il u).on e el q in
    (f.2.mine e (M.F (stripe_in st i) e) el (off_in (v e M.zone) (suc (offset_in st i e)) (chunk (stripe_in st i) (M.F (stripe_in st i) e)) o)).1

-- ---- closing

-- memory alone changes: from st, fl and M to st', fl' and M'
pub record FillWithin (p : Params) (h : Ranged p) (off : List ℕ) (g : Ghost) (v : ItemView) (a : List Val) (c : Bool) (st st' : State) (fl' : List ℕ) (M : Mem) : Type 0 where
  pub M' : Mem
  pub go : (T : Track) → Go (par_of p h off) (mst g v a c (run M)) (mst g v a c (run M')) T T
  pub rel : Rel p v st' fl' M'
  pub waits : (x : Val) (s : ℕ) → Waiting p st M x s → Waiting p st' M' x s

module _ (p : Params) (h : Ranged p) (off : List ℕ) (g : Ghost) (v : ItemView) (a : List Val) (c : Bool) where
  abbrev σ : Mem → m-State
  σ M = mst g v a c (run M)

  -- one position padded
  pad_one_holds : (st : State) (fl : List ℕ) (M : Mem) → Rel p v st fl M → Inv (par_of p h off) (σ M) → length fl ≡ inflight_len p → (i : ℕ) → i < 8 → in_use_of st i ≡ true
      → filled_in_of st i < data_count p
      → FillWithin p h off g v a c st (placed p st fl i padding_address 0 0 (replicate p.B 0)).state (placed p st fl i padding_address 0 0 (replicate p.B 0)).inflight M
  pad_one_holds st fl M R I long i il u kl = record {
    M' = flown M s (M.F s) r M.next M.stamp;
    go = λ T. go_step (par_of p h off) (σ M) (σ (flown M s (M.F s) r M.next M.stamp)) T (m-close (σ M) M s r refl (R.flying i il u) (risen-more p s (suc k) (M.ready s)));
    rel = rel_on p v st' fl' (flown M s (M.F s) r M.next M.stamp) (in_use_of st) (in_use_of st')
        (placed_used p h st R.long fl long i il padding_address 0 0 b bl kl v M (in_use_of st) R u (M.F s) r mine new old may (λ j jl n. refl))
        (placed_rel p h st R.long fl long i il padding_address 0 0 b bl kl v M (in_use_of st) R u (M.F s) r mine new old may);
    waits = placed_waits p h st R.long fl long i il padding_address 0 0 b bl kl v M (in_use_of st) R u (M.F s) r mine new old may (inl refl) (λ j jl q. q);
  }
    where
      s : ℕ
      s = stripe_in st i

      k : ℕ
      k = filled_in_of st i

      b : List ℕ
      b = replicate p.B 0

      bl : length b ≡ p.B
      bl = length-replicate p.B 0

      st' : State
      st' = (placed p st fl i padding_address 0 0 b).state

      fl' : List ℕ
      fl' = (placed p st fl i padding_address 0 0 b).inflight

      r : ℕ → Bool
      r = risen p s (suc k) (M.ready s)

      mine : (e : ℕ) → e < p.N → is_in (landed_in st i) e ≡ true → M.ready s e ≡ true
      mine = landed_may p h off g v st fl M (in_use_of st) I.mode R i il u

      new : M.F s (data_drive p s k) ≡ value_of b (mk_rec padding_address 0 s)
      new = (R.slot i il u).blank k (omega arith) kl ∙ pads_value p.B s

      old : (j : ℕ) → j < data_count p → j ≢ k → M.F s (data_drive p s j) ≡ M.F s (data_drive p s j)
      old j l n = refl

      may : (e : ℕ) → e < p.N → r e ≡ ready_at p s (suc k) e
      may e el = risen_is p s k (M.ready s) e el ((R.slot i il u).may e el)

  pub within_none : (st : State) (fl : List ℕ) (M : Mem) → Rel p v st fl M → FillWithin p h off g v a c st st fl M
  within_none st fl M R = record { M' = M; go = λ T. go_none (par_of p h off) (σ M) T; rel = R; waits = λ x s q. q }

  pub pad-all :
      (n : ℕ) (st : State) (fl : List ℕ) (M : Mem)
      → Rel p v st fl M
      → Inv (par_of p h off) (σ M)
      → length fl ≡ inflight_len p
      → (i : ℕ)
      → i < 8
      → in_use_of st i ≡ true
      → filled_in_of st i + n ≤ data_count p
      → FillWithin p h off g v a c st (padded p i n st fl).state (padded p i n st fl).inflight M
  unfolding padded
  pad-all zero st fl M R I long i il u b = within_none st fl M R
  pad-all (suc n) st fl M R I long i il u b =
      let kl : filled_in_of st i < data_count p = omega arith in
      let st₁ : State = (placed p st fl i padding_address 0 0 (replicate p.B 0)).state in
      let fl₁ : List ℕ = (placed p st fl i padding_address 0 0 (replicate p.B 0)).inflight in
      let w : FillWithin p h off g v a c st st₁ fl₁ M = pad_one_holds st fl M R I long i il u kl in
      let e : filled_in_of st₁ i
      ≡ suc (filled_in_of st i) = ap (λ (x : State). filled_in_of x i)
      (placed_state p h st R.long fl long i il padding_address 0 0 (replicate p.B 0) (length-replicate p.B 0) kl)
      ∙ add-filled st R.long i il padding_address 0 0 (let z : filled_in_of st i < 8 = omega (arith, data_count_high p h) in z) in
      let y : FillWithin p h off g v a c st₁ (padded p i n st₁ fl₁).state (padded p i n st₁ fl₁).inflight w.M' =
      pad-all n st₁ fl₁ w.M' w.rel (go_inv (par_of p h off) (σ M) (σ w.M') no_track no_track (w.go no_track) I)
      (placed_long p h st R.long fl long i il padding_address 0 0 (replicate p.B 0) (length-replicate p.B 0) kl) i il
      (filled_used st₁ i (omega (arith, e))) (omega (arith, e)) in
      record {
        M' = y.M';
        go = λ T. go_then (par_of p h off) (σ M) (σ w.M') (σ y.M') T T T (w.go T) (y.go T);
        rel = y.rel;
        waits = λ x s q. y.waits x s (w.waits x s q);
      }
