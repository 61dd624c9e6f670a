-- A block goes into a stripe in flight: sent, or copied. Assumes nothing.
use Rattle.std.specs.Prelude.{◌≡◌, refl, List, ◌∷◌, Bool, true, false, ◌⊎◌, ◌≢◌, ℕ, suc, ◌^◌, ◌<◌, length}
use Rattle.std.proofs.Common.{sym, ap, ◌∙◌, le-ltb, arith}
use Rattle.std.proofs.Math.Decide.{ℕ_discrete}
use Rattle.std.proofs.lemmas.Bool.{lt-leb}
use Rattle.spec.specs.declared.Params.{Params}
use Rattle.spec.specs.declared.State.{State}
use Rattle.spec.specs.Layout.{parity_drive, data_drive, mk_rec}
use Rattle.spec.specs.Lists.{is_in}
use Rattle.spec.specs.Memory.{stripe_in, filled_in_of, landed_in, entry_in_of, offset_in, set_stamp, add_entry}
use Rattle.spec.specs.Params.{data_count, inflight_len}
use Rattle.spec.specs.Write.{placed}
use Rattle.law_basic.specs.Geometry.{Ranged, data_count_high, data_drive_lt, drive_is_data}
use Rattle.proof_crash_machine.specs.Facts.{Ghost, Counted}
use Rattle.proof_crash_machine.specs.Filling.{filled_word}
use Rattle.proof_crash_machine.proofs.Filling.{at_d, at_else}
use Rattle.proof_crash_machine.specs.Ghosts.{with_sent}
use Rattle.proof_crash_machine.specs.History.{Inv, Into}
use Rattle.proof_crash_machine.specs.History.Mode.{run}
use Rattle.proof_crash_machine.specs.History.Step.{send, copy}
use Rattle.proof_crash_machine.specs.Memory.{Mem, Flight, flown}
use Rattle.proof_crash_machine.specs.Order.{Track, sent_to}
use Rattle.proof_crash_machine.specs.Val.{Val, pads}
use Rattle.proof_crash_machine.specs.View.{ItemView}
use Rattle.proof_crash_items.specs.Items.{value_of}
use Rattle.proof_crash_items.specs.Ranges.{parity_on, par_of, data_code, code_of, code_lone}
use Rattle.proof_crash_calls.specs.Base.{set_at_here}
use Rattle.proof_crash_calls.specs.Cells.{same_used, add-filled, add_number, add_write_new, stamp_same}
use Rattle.proof_crash_calls.proofs.Fill.{risen, risen-more, risen_is, landed_may}
use Rattle.proof_crash_calls.specs.Go.{mst, Go, go_step}
use Rattle.proof_crash_calls.proofs.Placed.{ready_data, ready-parity, data_drive_once, placed_state, placed_rel, placed_waits, placed_used}
use Rattle.proof_crash_calls.specs.Rel.{ready_at, RowsLong, in_use_of, filled_used, RelOn, Rel, rel_on, Waiting}

-- ---- the stamp set

abbrev pub stamped_mem : Mem → ℕ → Mem
stamped_mem M t = record { is_open = M.is_open; zone = M.zone; next = M.next; fly = M.fly; ready = M.ready; F = M.F; stamp = t; serial = M.serial }

pub stamp_long : (st : State) (t : ℕ) → RowsLong st → RowsLong (set_stamp st t)
unfolding set_stamp
stamp_long st t L = record {
  numbers = L.numbers;
  filled = L.filled;
  writes = L.writes;
  landed = L.landed;
  addresses = L.addresses;
  stamps = L.stamps;
  offsets = L.offsets;
}

pub stamp_rel : (p : Params) → Ranged p → (v : ItemView) (st : State) (fl : List ℕ) (M : Mem) (t : ℕ) → t < 256 ^ 8 → Rel p v st fl M → Rel p v (set_stamp st t) fl (stamped_mem M t)
unfolding set_stamp stripe_in
stamp_rel p h v st fl M t tl R = record {
  long = stamp_long st t R.long;
  healthy = unfold set_stamp in R.healthy;
  is_open = unfold set_stamp in R.is_open;
  zone = unfold set_stamp in R.zone;
  next = unfold set_stamp in R.next;
  stamp = unfold set_stamp in refl;
  serial = unfold set_stamp in R.serial;
  stamp_fits = unfold set_stamp in tl;
  serial_fits = unfold set_stamp in R.serial_fits;
  flying = λ i il u. R.flying i il (sym (same_used st (set_stamp st t) i (stamp_same st t i)) ∙ u);
  slot = λ i il u. unfold set_stamp stripe_in filled_in_of landed_in entry_in_of offset_in in R.slot i il (sym (same_used st (set_stamp st t) i (stamp_same st t i)) ∙ u);
  once = λ i j il jl u w e. R.once i j il jl (sym (same_used st (set_stamp st t) i (stamp_same st t i)) ∙ u) (sym (same_used st (set_stamp st t) j (stamp_same st t j)) ∙ w) e;
  flies = λ s q. let f : (i : ℕ) × (i < 8) × (in_use_of st i ≡ true) × (stripe_in st i ≡ s) = R.flies s q in
      (f.0, f.1, same_used st (set_stamp st t) f.0 (stamp_same st t f.0) ∙ f.2, f.3);
  whole = R.whole;
  busy = R.busy;
}

pub stamp_waits : (p : Params) (st : State) (M : Mem) (t : ℕ) (x : Val) (s : ℕ) → Waiting p st M x s → Waiting p (set_stamp st t) (stamped_mem M t) x s
stamp_waits p st M t x s q = record {
  i = q.i;
  lt = q.lt;
  in_use_of? = same_used st (set_stamp st t) q.i (stamp_same st t q.i) ∙ q.in_use_of?;
  number = (stamp_same st t q.i).number ∙ q.number;
  k = q.k;
  filled = omega (arith, (stamp_same st t q.i).filled, q.filled);
  write = (stamp_same st t q.i).write q.k ∙ q.write;
  val = q.val;
}

-- ---- a block taken

module _ (p : Params) (h : Ranged p) (off : List ℕ) (g : Ghost) (v : ItemView) (a : List Val) (c : Bool) (st : State) (fl : List ℕ) (M : Mem) (U : ℕ → Bool) (R : RelOn p v st fl M U)
    (I : Inv (par_of p h off) (mst g v a c (run M))) (long : length fl ≡ inflight_len p) (i : ℕ) (il : i < 8) (u : U i ≡ true) (kl : filled_in_of st i < data_count p)
    (ad t w : ℕ) (b : List ℕ) (bl : length b ≡ p.B) where
  abbrev s : ℕ
  s = stripe_in st i

  abbrev k : ℕ
  k = filled_in_of st i

  abbrev d : ℕ
  d = data_drive p (stripe_in st i) (filled_in_of st i)

  abbrev x : Val
  x = value_of b (mk_rec ad t (stripe_in st i))

  abbrev G : ℕ → Val
  G = filled_word (par_of p h off) (stripe_in st i) (M.F (stripe_in st i)) (data_drive p (stripe_in st i) (filled_in_of st i)) (value_of b (mk_rec ad t (stripe_in st i)))

  abbrev r : ℕ → Bool
  r = risen p (stripe_in st i) (suc (filled_in_of st i)) (M.ready (stripe_in st i))

  flight : (M.is_open ≡ true) × (s < M.next) × Flight (par_of p h off) g v M.zone s (M.F s) (M.ready s)
  flight = I.mode.flies s (R.flying i il u)

  dn : d < p.N
  dn = data_drive_lt p s k kl

  dp : (code_of p h).par s d ≡ false
  dp = data_code p h s d (drive_is_data p s k)

  blank : M.F s d ≡ pads
  blank = (R.slot i il u).blank k (omega arith) kl

  free : M.ready s d ≡ false
  free = (R.slot i il u).may d dn ∙ ready_data p s k k ∙ le-ltb k k (omega arith)

  early : (e : ℕ) → (code_of p h).par s e ≡ true → M.ready s e ≡ false
  early e q = ap (M.ready s) (code_lone p h s e q) ∙ (R.slot i il u).may (parity_drive p s) (parity_on p h s) ∙ ready-parity p s k ∙ lt-leb (data_count p) k kl

  pub taken_into : Into (par_of p h off) M s d r
  taken_into = record { fly = R.flying i il u; drive = dn; data? = dp; blank = blank; free = free; early = early; more = risen-more p s (suc k) (M.ready s) }

  new : G d ≡ x
  new = at_d (par_of p h off) g v M.zone s (M.F s) (M.ready s) flight.2 d x dn dp free early

  others_as_before : (j : ℕ) → j < data_count p → j ≢ k → G (data_drive p s j) ≡ M.F s (data_drive p s j)
  others_as_before j l n = at_else (par_of p h off) g v M.zone s (M.F s) (M.ready s) flight.2 d x dn dp free early (data_drive p s j)
      (data_drive_lt p s j l) (λ e. n (data_drive_once p s j k e)) (data_code p h s (data_drive p s j) (drive_is_data p s j))

  landed-ready : (e : ℕ) → e < p.N → is_in (landed_in st i) e ≡ true → M.ready s e ≡ true
  landed-ready = landed_may p h off g v st fl M U I.mode R i il u

  taken_ready : (e : ℕ) → e < p.N → r e ≡ ready_at p s (suc k) e
  taken_ready e el = risen_is p s k (M.ready s) e el ((R.slot i il u).may e el)

  abbrev pub taken_mem : Mem
  taken_mem = flown M (stripe_in st i) G r M.next M.stamp

  module _ (cover : (j : ℕ) → j < 8 → j ≢ i → U j ≡ in_use_of st j) where
    pub taken_rel : Rel p v (placed p st fl i ad t w b).state (placed p st fl i ad t w b).inflight taken_mem
    taken_rel = rel_on p v (placed p st fl i ad t w b).state (placed p st fl i ad t w b).inflight taken_mem U (in_use_of (placed p st fl i ad t w b).state)
        (placed_used p h st R.long fl long i il ad t w b bl kl v M U R u G r landed-ready new others_as_before taken_ready cover)
        (placed_rel p h st R.long fl long i il ad t w b bl kl v M U R u G r landed-ready new others_as_before taken_ready)

    pub taken_waits : (w ≡ 0) ⊎ (w ≡ 1) → (y : Val) (z : ℕ) → Waiting p st M y z → Waiting p (placed p st fl i ad t w b).state taken_mem y z
    taken_waits ww = placed_waits p h st R.long fl long i il ad t w b bl kl v M U R u G r landed-ready new others_as_before taken_ready ww (λ j jl q. within j jl q (ℕ_discrete j i))
      where
        within : (j : ℕ) → j < 8 → in_use_of st j ≡ true → Dec (j ≡ i) → U j ≡ true
        within j jl q (yes e) = ap U e ∙ u
        within j jl q (no e) = cover j jl e ∙ q

    -- the new write
    pub taken_new : w ≡ 1 → Waiting p (placed p st fl i ad t w b).state taken_mem x s
    taken_new e = rw (placed_state p h st R.long fl long i il ad t w b bl kl) (record {
      i = i;
      lt = il;
      in_use_of? = filled_used (add_entry st i ad t w) i (omega (arith, add-filled st R.long i il ad t w k8));
      number = add_number st R.long i il ad t w k8 i;
      k = k;
      filled = omega (arith, add-filled st R.long i il ad t w k8);
      write = add_write_new st R.long i il ad t w k8 e;
      val = ap (λ (F : ℕ → Val). F d) (set_at_here M.F s G) ∙ new;
    })
      where
        k8 : k < 8
        k8 = omega (arith, kl, data_count_high p h)

  -- a write's step
  pub sent_go : (T : Track) → (value_of b (mk_rec ad t (stripe_in st i))).stamp ≡ suc M.stamp → (value_of b (mk_rec ad t (stripe_in st i))).addr < p.L
      → Go (par_of p h off) (mst g v a c (run M)) (mst (with_sent g (x ∷ g.sent)) v a true (run (stamped_mem taken_mem x.stamp))) T (sent_to T x)
  sent_go T e l = go_step (par_of p h off) (mst g v a c (run M)) (mst (with_sent g (x ∷ g.sent)) v a true (run (stamped_mem taken_mem x.stamp))) T
      (send (mst g v a c (run M)) M x s d r refl taken_into e l)

  -- a copy's
  pub copied_go : (T : Track) → Counted (par_of p h off) g.hd v g.un (value_of b (mk_rec ad t (stripe_in st i)))
      → Go (par_of p h off) (mst g v a c (run M)) (mst g v a c (run taken_mem)) T T
  copied_go T q = go_step (par_of p h off) (mst g v a c (run M)) (mst g v a c (run taken_mem)) T (copy (mst g v a c (run M)) M x s d r refl taken_into q)
