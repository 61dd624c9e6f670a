-- The next stripe begins, in a free eighth. Assumes nothing.
use Rattle.std.specs.Prelude.{◌≡◌, refl, List, Bool, false, ◌||◌, ◌⊎◌, ◌≢◌}
use Rattle.std.proofs.Math.Path.{sym, ap, subst}
use Rattle.std.proofs.Common.{◌∙◌, le-ltb, ne_eqb, eqb-true, arith}
use Rattle.std.proofs.Math.Bool.{true}
use Rattle.std.proofs.Math.Logic.{inl, inr, ⊎_elim}
use Prim.Native.Nat.{ℕ, suc, ◌<◌}
use Rattle.std.proofs.Math.Decide.{ℕ_discrete}
use Rattle.std.proofs.lemmas.Bool.{lt-leb}
use Rattle.std.proofs.Math.Dec.{eqb}
use Rattle.std.specs.Int.Count.{ones, ones_in}
use Rattle.spec.specs.declared.Params.{Params}
use Rattle.spec.specs.declared.State.{State}
use Rattle.spec.specs.Layout.{parity_drive, data_drive}
use Rattle.spec.specs.Memory.{stripe_in, filled_in_of, landed_in, entry_in_of, offset_in, begin_stripe, slot_block}
use Rattle.spec.specs.Params.{data_count}
use Rattle.law_basic.specs.Geometry.{Ranged, data_count-low, data_drive_lt, drive_is_data}
use Rattle.law_basic.specs.Mask.{is_in_empty}
use Rattle.law_drives.specs.Tests.{clash}
use Rattle.proof_crash_machine.specs.Exec.{or_either, or_1}
use Rattle.proof_crash_machine.specs.Facts.{Par, Ghost}
use Rattle.proof_crash_machine.specs.Filling.{unfilled}
use Rattle.proof_crash_machine.proofs.Filling.{unfilled_data}
use Rattle.proof_crash_machine.specs.Memory.{set_at, set_at_elim, Mem, MemOk, flown}
use Rattle.proof_crash_machine.specs.Val.{Val}
use Rattle.proof_crash_machine.specs.View.Item.{chunk}
use Rattle.proof_crash_machine.specs.View.{ItemView, InI}
use Rattle.proof_crash_items.specs.Ranges.{par_of, data_code}
use Rattle.proof_crash_calls.specs.Base.{eqb_self, set_at_here, set_at_else}
use Rattle.proof_crash_calls.specs.Cells.{SameSlot, same_used, begin_long, begin_number, begin_filled, begin_landed, begin_same}
use Rattle.proof_crash_calls.proofs.Placed.{ready_data, ready-parity, drive_cases}
use Rattle.proof_crash_calls.specs.Rel.{ready_at, SlotRel, SlotOf, slot_keep, in_use_of, RelOn, Rel, Waiting}

abbrev pub begun_mem : Par → Mem → Mem
begun_mem P M = flown M M.next (unfilled P M.next) (λ e. false) (suc M.next) M.stamp

-- the eighths in use, and i
unfoldable pub with_slot : State → ℕ → ℕ → Bool
with_slot st i j = eqb j i || in_use_of st j

pub with_here : (st : State) (i : ℕ) → with_slot st i i ≡ true
unfolding with_slot
with_here st i = or_1 (eqb i i) (in_use_of st i) (eqb_self i)

pub with_other : (st : State) (i j : ℕ) → j ≢ i → with_slot st i j ≡ in_use_of st j
unfolding with_slot
with_other st i j n = ap (λ (b : Bool). b || in_use_of st j) (ne_eqb j i n)

pub none_ready : (p : Params) → Ranged p → (s d : ℕ) → d < p.N → ready_at p s 0 d ≡ false
none_ready p h s d l = go (drive_cases p s d l)
  where
    go : ((j : ℕ) × (j < data_count p) × (d ≡ data_drive p s j)) ⊎ (d ≡ parity_drive p s) → ready_at p s 0 d ≡ false
    go (inl (j, b, q)) = ap (ready_at p s 0) q ∙ ready_data p s 0 j ∙ le-ltb j 0 (omega arith)
    go (inr q) = ap (ready_at p s 0) q ∙ ready-parity p s 0 ∙ lt-leb (data_count p) 0 (omega (arith, data_count-low p h))

no_ones : eqb (ones 0) 0 ≡ true
unfolding ones ones_in
no_ones = refl

pub none_landed : (p : Params) → Ranged p → eqb (ones 0) p.N ≡ false
none_landed p h = ne_eqb (ones 0) p.N (λ e. let z : ⊥ = omega (arith, eqb-true (ones 0) 0 no_ones, h.drives_low) in z)

module _ (p : Params) (h : Ranged p) (off : List ℕ) (g : Ghost) (v : ItemView) (st : State) (fl : List ℕ) (M : Mem) (R : Rel p v st fl M) (m : MemOk (par_of p h off) g v M)
    (o : M.is_open ≡ true) (i : ℕ) (il : i < 8) (free : in_use_of st i ≡ false) where
  abbrev s : ℕ
  s = M.next

  number : stripe_in (begin_stripe st i) i ≡ M.next
  number = begin_number st R.long i il ∙ sym (R.next o)

  -- the new eighth
  bare : SlotRel p (λ d. v d M.zone) (slot_block p fl i) (entry_in_of (begin_stripe st i) i) (offset_in (begin_stripe st i) i) s 0 0 (unfilled (par_of p h off) s) (λ e. false)
  bare = record {
    most = omega arith;
    mask = none_landed p h;
    held = λ j l. absurd (let z : ⊥ = omega arith in z);
    blank = λ j a b. unfilled_data (par_of p h off) s (data_drive p s j) (data_drive_lt p s j b) (data_code p h s (data_drive p s j) (drive_is_data p s j));
    xored = λ e. absurd (let z : ⊥ = omega (arith, e, data_count-low p h) in z);
    may = λ d l. sym (none_ready p h s d l);
    on = λ d l e. clash e (is_in_empty d);
    out = λ d l e x k. let z : ⊥ = omega (arith, m.below o d s x l k) in z;
  }

  slot_begun : SlotOf p v (begin_stripe st i) fl M.zone i ((begun_mem (par_of p h off) M).F (stripe_in (begin_stripe st i) i)) ((begun_mem (par_of p h off) M).ready (stripe_in (begin_stripe st i) i))
  slot_begun = rw (number, set_at_here M.F s (unfilled (par_of p h off) s), set_at_here M.ready s (λ e. false), begin_filled st R.long i il, begin_landed st R.long i il) bare

  -- the others are older
  older : (j : ℕ) → j < 8 → in_use_of st j ≡ true → stripe_in st j < M.next
  older j jl q = (m.flies (stripe_in st j) (R.flying j jl q)).1

  not_i : (j : ℕ) → in_use_of st j ≡ true → j ≢ i
  not_i j q e = clash q (ap (in_use_of st) e ∙ free)

  others_begun : (j : ℕ) → j < 8 → in_use_of st j ≡ true
      → SlotOf p v (begin_stripe st i) fl M.zone j ((begun_mem (par_of p h off) M).F (stripe_in (begin_stripe st i) j)) ((begun_mem (par_of p h off) M).ready (stripe_in (begin_stripe st i) j))
  others_begun j jl q =
      slot_keep p h (λ e. v e M.zone) (λ e. v e M.zone) (slot_block p fl j) (slot_block p fl j) (entry_in_of st j) (entry_in_of (begin_stripe st i) j) (offset_in st j)
      (offset_in (begin_stripe st i) j)
      (stripe_in st j) (stripe_in (begin_stripe st i) j) (filled_in_of st j) (filled_in_of (begin_stripe st i) j) (landed_in st j) (landed_in (begin_stripe st i) j)
      ((begun_mem (par_of p h off) M).F (stripe_in (begin_stripe st i) j)) ((begun_mem (par_of p h off) M).ready (stripe_in (begin_stripe st i) j))
      S.number S.filled S.landed (λ e el. refl) S.entry S.offset (λ e x y el w. w) (λ e x el w. w)
      (rw (S.number, set_at_else M.F s (unfilled (par_of p h off) s) (stripe_in st j) n, set_at_else M.ready s (λ e. false) (stripe_in st j) n) (R.slot j jl q))
    where
      S : SameSlot st (begin_stripe st i) j
      S = begin_same st R.long i il j (not_i j q)

      n : stripe_in st j ≢ s
      n = omega (arith, older j jl q)

  with_cases : (j : ℕ) → with_slot st i j ≡ true → (j ≡ i) ⊎ (in_use_of st j ≡ true)
  unfolding with_slot
  with_cases j q = ⊎_elim (λ (e : eqb j i ≡ true). inl (eqb-true j i e)) (λ e. inr e) (or_either (eqb j i) (in_use_of st j) q)

  numbers : (j : ℕ) → in_use_of st j ≡ true → stripe_in (begin_stripe st i) j ≡ stripe_in st j
  numbers j q = (begin_same st R.long i il j (not_i j q)).number

  pub begin_rel : RelOn p v (begin_stripe st i) fl (begun_mem (par_of p h off) M) (with_slot st i)
  begin_rel = record {
    long = begin_long st R.long i il;
    healthy = unfold begin_stripe in R.healthy;
    is_open = unfold begin_stripe in R.is_open;
    zone = unfold begin_stripe in R.zone;
    next = λ q. unfold begin_stripe in ap suc (R.next q);
    stamp = unfold begin_stripe in R.stamp;
    serial = unfold begin_stripe in R.serial;
    stamp_fits = unfold begin_stripe in R.stamp_fits;
    serial_fits = unfold begin_stripe in R.serial_fits;
    flying = λ j jl q. ⊎_elim (λ (e : j ≡ i). rw (e, number) (set_at_here M.fly s true))
        (λ (e : in_use_of st j ≡ true). rw (numbers j e) (set_at_elim (λ (x : Bool). x ≡ true) M.fly s true (stripe_in st j) (λ w. refl) (λ w. R.flying j jl e))) (with_cases j q);
    slot =
        λ j jl q. ⊎_elim (λ (e : j ≡ i). subst (λ (x : ℕ). SlotOf p v (begin_stripe st i) fl M.zone x
        ((begun_mem (par_of p h off) M).F (stripe_in (begin_stripe st i) x)) ((begun_mem (par_of p h off) M).ready (stripe_in (begin_stripe st i) x))) (sym e)
        slot_begun)
        (λ (e : in_use_of st j ≡ true). others_begun j jl e) (with_cases j q);
    once = λ j l jl ll q w e. once j l jl ll (with_cases j q) (with_cases l w) e;
    flies = λ x q. flies x q (ℕ_discrete x s);
    whole = λ q x l w. whole x l (ℕ_discrete x s) w;
    busy = λ q e. (s, set_at_here M.fly s true);
  }
    where
      once : (j l : ℕ) → j < 8 → l < 8 → (j ≡ i) ⊎ (in_use_of st j ≡ true) → (l ≡ i) ⊎ (in_use_of st l ≡ true)
          → stripe_in (begin_stripe st i) j ≡ stripe_in (begin_stripe st i) l → j ≡ l
      once j l jl ll (inl a) (inl b) e = a ∙ sym b
      once j l jl ll (inl a) (inr b) e = absurd (let z : ⊥ = omega (arith, older l ll b, sym number ∙ ap (stripe_in (begin_stripe st i)) (sym a) ∙ e ∙ numbers l b) in z)
      once j l jl ll (inr a) (inl b) e = absurd (let z : ⊥ = omega (arith, older j jl a, sym (numbers j a) ∙ e ∙ ap (stripe_in (begin_stripe st i)) b ∙ number) in z)
      once j l jl ll (inr a) (inr b) e = R.once j l jl ll a b (sym (numbers j a) ∙ e ∙ numbers l b)

      flies : (x : ℕ) → set_at M.fly s true x ≡ true → Dec (x ≡ s) → (j : ℕ) × (j < 8) × (with_slot st i j ≡ true) × (stripe_in (begin_stripe st i) j ≡ x)
      flies x q (yes e) = (i, il, with_here st i, number ∙ sym e)
      flies x q (no e) =
          let f : (j : ℕ) × (j < 8) × (in_use_of st j ≡ true) × (stripe_in st j ≡ x) = R.flies x (sym (set_at_else M.fly s true x e) ∙ q) in
          (f.0, f.1, with_other st i f.0 (not_i f.0 f.2) ∙ f.2, numbers f.0 f.2 ∙ f.3)

      whole : (x : ℕ) → x < suc s → Dec (x ≡ s) → set_at M.fly s true x ≡ false → (d : ℕ) → d < p.N → (y : Val) × InI (chunk x y) (v d M.zone)
      whole x l (yes e) w = clash (ap (set_at M.fly s true) e ∙ set_at_here M.fly s true) w
      whole x l (no e) w = R.whole o x (omega arith) (sym (set_at_else M.fly s true x e) ∙ w)

  pub begin_waits : (x : Val) (y : ℕ) → Waiting p st M x y → Waiting p (begin_stripe st i) (begun_mem (par_of p h off) M) x y
  begin_waits x y q =
      let n : q.i ≢ i = not_i q.i q.in_use_of? in
      let S : SameSlot st (begin_stripe st i) q.i = begin_same st R.long i il q.i n in
      record {
        i = q.i;
        lt = q.lt;
        in_use_of? = same_used st (begin_stripe st i) q.i S ∙ q.in_use_of?;
        number = S.number ∙ q.number;
        k = q.k;
        filled = omega (arith, S.filled, q.filled);
        write = S.write q.k ∙ q.write;
        val =
            ap (λ (F : ℕ → Val). F (data_drive p y q.k)) (set_at_else M.F s (unfilled (par_of p h off) s) y
            (let z : y ≢ s = omega (arith, older q.i q.lt q.in_use_of?, q.number) in z)) ∙ q.val;
      }

  -- the others as they were
  pub begin_cover : (j : ℕ) → j < 8 → j ≢ i → with_slot st i j ≡ in_use_of (begin_stripe st i) j
  begin_cover j jl n = with_other st i j n ∙ sym (same_used st (begin_stripe st i) j (begin_same st R.long i il j n))
