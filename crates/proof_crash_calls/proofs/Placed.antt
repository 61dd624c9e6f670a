-- A data position filled: the eighth, the buffer, and the relation to the machine's memory. Assumes nothing.
use Rattle.std.specs.Prelude.{◌≡◌, List, map, Bool, false, ◌⊎◌, ◌≢◌, ℕ, suc, ◌≤◌, ◌<◌, leb, ltb, eqb, length}
use Rattle.std.proofs.Math.Path.{refl, sym, ap, ap₂}
use Rattle.std.proofs.Common.{◌∙◌, subst, inr, ⊎_elim, arith}
use Rattle.std.proofs.Math.Bool.{true, not}
use Rattle.std.proofs.Math.Logic.{inl}
use Rattle.std.proofs.Math.Decide.{ℕ_discrete}
use borrow.Author.Tests.{le-leb, lt-leb, lt-ltb, ne_eqb, leb-true, ltb-true}
use Rattle.spec.specs.declared.Params.{Params}
use Rattle.spec.specs.declared.State.{State}
use Rattle.spec.specs.Bytes.{parity}
use Rattle.spec.specs.Layout.{parity_drive, data_drive, data_position, is_data, data_drives, Rec, mk_rec}
use Rattle.spec.specs.Lists.{is_in}
use Rattle.spec.specs.Memory.{stripe_in, filled_in_of, landed_in, is_write, entry_in_of, offset_in, is_full, add_entry, slot_block, set_slot_block, set_slot_parity}
use Rattle.spec.specs.Params.{data_count, inflight_len}
use Rattle.spec.specs.Write.{placed}
use Rattle.law_basic.specs.Geometry.{Ranged, data_count_high, position_drive, drive_is_data, data_drive_lt, data_not_parity, drive_position, position_lt}
use Rattle.law_drives.specs.Slots.{parity_long}
use Rattle.law_drives.specs.Tests.{cond_true, cond_false}
use Rattle.proof_crash_machine.specs.Exec.{true≢false}
use Rattle.proof_crash_machine.specs.Facts.{Off}
use Rattle.proof_crash_machine.specs.Memory.{set_at, set_at_elim, Mem, flown}
use Rattle.proof_crash_machine.specs.Val.{Val}
use Rattle.proof_crash_machine.specs.View.{Item, ItemView}
use Rattle.proof_crash_machine.specs.View.Item.{chunk}
use Rattle.proof_crash_items.specs.Items.{value_of}
use Rattle.proof_crash_calls.specs.Base.{eqb_self, set_at_here, set_at_else}
use Rattle.proof_crash_calls.specs.Cells.{SameSlot, same_used, add_long, add-filled, add_number, add_entry_holds, add_entry_old, add_same, add_write}
use Rattle.proof_crash_calls.specs.Rel.{ready_at, SlotRel, SlotOf, slot_keep, RowsLong, in_use_of, filled_used, RelOn, Waiting}
use Rattle.proof_crash_calls.specs.Slots.{length_slot, slot_same, slot_other, slot_parity-other, slot_parity}

-- ---- which chunks may land

pub ready_data : (p : Params) (s k j : ℕ) → ready_at p s k (data_drive p s j) ≡ ltb j k
unfolding ready_at
ready_data p s k j =
    cond_true (is_data p s (data_drive p s j)) (ltb (data_position p s (data_drive p s j)) k) (leb (data_count p) k) (drive_is_data p s j)
    ∙ ap (λ (n : ℕ). ltb n k) (position_drive p s j)

pub ready-parity : (p : Params) (s k : ℕ) → ready_at p s k (parity_drive p s) ≡ leb (data_count p) k
unfolding ready_at is_data
ready-parity p s k = cond_false (not (eqb (parity_drive p s) (parity_drive p s))) (ltb (data_position p s (parity_drive p s)) k) (leb (data_count p) k) (ap not (eqb_self (parity_drive p s)))

-- a drive has a data position or the parity
pub drive_cases : (p : Params) (s d : ℕ) → d < p.N → ((j : ℕ) × (j < data_count p) × (d ≡ data_drive p s j)) ⊎ (d ≡ parity_drive p s)
drive_cases p s d l = go (ℕ_discrete d (parity_drive p s))
  where
    go : Dec (d ≡ parity_drive p s) → ((j : ℕ) × (j < data_count p) × (d ≡ data_drive p s j)) ⊎ (d ≡ parity_drive p s)
    go (yes e) = inr e
    go (no e) =
        let q : is_data p s d ≡ true = unfold is_data in ap not (ne_eqb d (parity_drive p s) e) in
        inl (data_position p s d, position_lt p s d q l, sym (drive_position p s d q))

pub data_drive_once : (p : Params) (s i j : ℕ) → data_drive p s i ≡ data_drive p s j → i ≡ j
data_drive_once p s i j e = sym (position_drive p s i) ∙ ap (data_position p s) e ∙ position_drive p s j

pub ready-more : (p : Params) (s k d : ℕ) → d < p.N → ready_at p s k d ≡ true → ready_at p s (suc k) d ≡ true
ready-more p s k d l e = go (drive_cases p s d l)
  where
    go : ((j : ℕ) × (j < data_count p) × (d ≡ data_drive p s j)) ⊎ (d ≡ parity_drive p s) → ready_at p s (suc k) d ≡ true
    go (inl (j, b, q)) =
        let a : j < k = ltb-true j k (sym (ready_data p s k j) ∙ ap (ready_at p s k) (sym q) ∙ e) in
        ap (ready_at p s (suc k)) q ∙ ready_data p s (suc k) j ∙ lt-ltb j (suc k) (omega arith)
    go (inr q) =
        let a : data_count p ≤ k = leb-true (data_count p) k (sym (ready-parity p s k) ∙ ap (ready_at p s k) (sym q) ∙ e) in
        ap (ready_at p s (suc k)) q ∙ ready-parity p s (suc k) ∙ le-leb (data_count p) (suc k) (omega arith)

-- ---- the eighth

pub slot_add : (p : Params) → Ranged p → (W : ℕ → List Item) (B B' : ℕ → List ℕ) (E E' : ℕ → Rec) (O : ℕ → ℕ) (s k m : ℕ) (G G' : ℕ → Val) (r r' : ℕ → Bool)
    → SlotRel p W B E O s k m G r → k < data_count p → ((d : ℕ) → d < p.N → is_in m d ≡ true → r d ≡ true)
    → ((j : ℕ) → j < data_count p → j ≢ k → B' (data_drive p s j) ≡ B (data_drive p s j)) → ((j : ℕ) → j < k → E' j ≡ E j)
    → (suc k ≡ data_count p → B' (parity_drive p s) ≡ parity p.B (map B' (data_drives p s)))
    → G' (data_drive p s k) ≡ value_of (B' (data_drive p s k)) (E' k) → ((j : ℕ) → j < data_count p → j ≢ k → G' (data_drive p s j) ≡ G (data_drive p s j))
    → ((d : ℕ) → d < p.N → r' d ≡ ready_at p s (suc k) d)
    → SlotRel p W B' E' O s (suc k) m G' r'
slot_add p h W B B' E E' O s k m G G' r r' a kl mine eb ee xo new old may = record {
  most = omega arith;
  mask = a.mask;
  held = λ j l. held j l (ℕ_discrete j k);
  blank = λ j l b. old j b (omega arith) ∙ a.blank j (omega arith) b;
  xored = xo;
  may = may;
  on = λ d l e. subst (λ (x : Val). Off (W d) (suc (O d)) (chunk s x)) (same d l e (drive_cases p s d l)) (a.on d l e);
  out = a.out;
}
  where
    held : (j : ℕ) → j < suc k → Dec (j ≡ k) → G' (data_drive p s j) ≡ value_of (B' (data_drive p s j)) (E' j)
    held j l (yes e) = rw e new
    held j l (no e) =
        let b : j < k = omega arith in
        let c : j < data_count p = omega arith in
        old j c e ∙ a.held j b ∙ ap₂ value_of (sym (eb j c e)) (sym (ee j b))

    -- what has landed was ready, and is as it was
    same : (d : ℕ) → d < p.N → is_in m d ≡ true → ((j : ℕ) × (j < data_count p) × (d ≡ data_drive p s j)) ⊎ (d ≡ parity_drive p s) → G d ≡ G' d
    same d l e (inl (j, b, q)) =
        let c : j < k = ltb-true j k (sym (ready_data p s k j) ∙ ap (ready_at p s k) (sym q) ∙ sym (a.may d l) ∙ mine d l e) in
        rw q (sym (old j b (omega arith)))
    same d l e (inr q) =
        let c : data_count p ≤ k = leb-true (data_count p) k (sym (ready-parity p s k) ∙ ap (ready_at p s k) (sym q) ∙ sym (a.may d l) ∙ mine d l e) in
        absurd (let z : ⊥ = omega arith in z)

-- ---- the buffer and the state

module _ (p : Params) (h : Ranged p) (st : State) (L : RowsLong st) (fl : List ℕ) (long : length fl ≡ inflight_len p) (i : ℕ) (il : i < 8) (a t w : ℕ) (b : List ℕ) (bl : length b ≡ p.B)
    (kl : filled_in_of st i < data_count p) where
  abbrev k : ℕ
  k = filled_in_of st i

  abbrev s : ℕ
  s = stripe_in st i

  abbrev d : ℕ
  d = data_drive p (stripe_in st i) (filled_in_of st i)

  k8 : filled_in_of st i < 8
  k8 = omega (arith, data_count_high p h)

  pub placed_state : (placed p st fl i a t w b).state ≡ add_entry st i a t w
  unfolding placed
  placed_state = refl

  abbrev first : List ℕ
  first = set_slot_block p fl i d b

  dl : d < p.N
  dl = data_drive_lt p s k kl

  first_long : length first ≡ inflight_len p
  first_long = length_slot p fl long i d b il dl bl

  entry_fills : is_full p (add_entry st i a t w) i ≡ leb (data_count p) (suc k)
  unfolding is_full
  entry_fills = ap (leb (data_count p)) (add-filled st L i il a t w k8)

  -- the two forms of the buffer
  parity-placed : suc k ≡ data_count p → (placed p st fl i a t w b).inflight ≡ set_slot_parity p first i s
  unfolding placed
  parity-placed e = cond_true (is_full p (add_entry st i a t w) i) (set_slot_parity p first i s) first (entry_fills ∙ le-leb (data_count p) (suc k) (omega arith))

  part_full : suc k ≢ data_count p → (placed p st fl i a t w b).inflight ≡ first
  unfolding placed
  part_full e = cond_false (is_full p (add_entry st i a t w) i) (set_slot_parity p first i s) first (entry_fills ∙ lt-leb (data_count p) (suc k) (omega arith))

  abbrev now : List ℕ
  now = (placed p st fl i a t w b).inflight

  pub placed_long : length now ≡ inflight_len p
  placed_long = go (ℕ_discrete (suc k) (data_count p))
    where
      go : Dec (suc k ≡ data_count p) → length now ≡ inflight_len p
      go (yes e) = ap length (parity-placed e) ∙ parity_long p h first first_long i il s
      go (no e) = ap length (part_full e) ∙ first_long

  pub placed_here : slot_block p now i d ≡ b
  placed_here = go (ℕ_discrete (suc k) (data_count p))
    where
      go : Dec (suc k ≡ data_count p) → slot_block p now i d ≡ b
      go (yes e) =
          ap (λ (x : List ℕ). slot_block p x i d) (parity-placed e) ∙ slot_parity-other p first first_long h i s il i d il dl (inr (λ q. data_not_parity p s k q))
          ∙ slot_same p fl long i d b il dl bl
      go (no e) = ap (λ (x : List ℕ). slot_block p x i d) (part_full e) ∙ slot_same p fl long i d b il dl bl

  pub placed-other : (j e : ℕ) → j < 8 → e < p.N → (j ≢ i) ⊎ ((e ≢ d) × (e ≢ parity_drive p s)) → slot_block p now j e ≡ slot_block p fl j e
  placed-other j e jl el n = go (ℕ_discrete (suc k) (data_count p))
    where
      one : (j ≢ i) ⊎ (e ≢ d)
      one = ⊎_elim (λ (q : j ≢ i). inl q) (λ (q : (e ≢ d) × (e ≢ parity_drive p s)). inr q.0) n

      two : (j ≢ i) ⊎ (e ≢ parity_drive p s)
      two = ⊎_elim (λ (q : j ≢ i). inl q) (λ (q : (e ≢ d) × (e ≢ parity_drive p s)). inr q.1) n

      go : Dec (suc k ≡ data_count p) → slot_block p now j e ≡ slot_block p fl j e
      go (yes q) = ap (λ (x : List ℕ). slot_block p x j e) (parity-placed q) ∙ slot_parity-other p first first_long h i s il j e jl el two ∙ slot_other p fl long i d b il dl bl j e jl el one
      go (no q) = ap (λ (x : List ℕ). slot_block p x j e) (part_full q) ∙ slot_other p fl long i d b il dl bl j e jl el one

  pub placed-parity : suc k ≡ data_count p → slot_block p now i (parity_drive p s) ≡ parity p.B (map (slot_block p now i) (data_drives p s))
  placed-parity e =
      subst (λ (x : List ℕ). slot_block p x i (parity_drive p s) ≡ parity p.B (map (slot_block p x i) (data_drives p s))) (sym (parity-placed e)) (slot_parity p first first_long h i s il)

  -- ---- the relation
  module _ (v : ItemView) (M : Mem) (U : ℕ → Bool) (R : RelOn p v st fl M U) (u : U i ≡ true) (G : ℕ → Val) (r : ℕ → Bool)
      (mine : (e : ℕ) → e < p.N → is_in (landed_in st i) e ≡ true → M.ready s e ≡ true)
      (new : G d ≡ value_of b (mk_rec a t s)) (old : (j : ℕ) → j < data_count p → j ≢ k → G (data_drive p s j) ≡ M.F s (data_drive p s j))
      (may : (e : ℕ) → e < p.N → r e ≡ ready_at p s (suc k) e) where
    abbrev M' : Mem
    M' = flown M s G r M.next M.stamp

    slot_placed : SlotOf p v (add_entry st i a t w) now M.zone i G r
    unfolding add_entry offset_in stripe_in landed_in
    slot_placed =
        rw (add-filled st L i il a t w k8) (slot_add p h (λ e. v e M.zone) (slot_block p fl i) (slot_block p now i) (entry_in_of st i)
        (entry_in_of (add_entry st i a t w) i) (offset_in st i) s k (landed_in st i)
        (M.F s) G (M.ready s) r (R.slot i il u) kl mine
        (λ j l n. placed-other i (data_drive p s j) il (data_drive_lt p s j l) (inr ((λ e. n (data_drive_once p s j k e)), λ e. data_not_parity p s j e)))
        (λ j l. add_entry_old st L i il a t w k8 i j (omega (arith, k8)) (inr (omega arith)))
        placed-parity
        (new ∙ ap₂ value_of (sym placed_here) (sym (add_entry_holds st L i il a t w k8)))
        old may)

    others_placed : (j : ℕ) → j < 8 → U j ≡ true → j ≢ i → SlotOf p v (add_entry st i a t w) now M.zone j (M.F (stripe_in st j)) (M.ready (stripe_in st j))
    others_placed j jl q n =
        slot_keep p h (λ e. v e M.zone) (λ e. v e M.zone) (slot_block p fl j) (slot_block p now j) (entry_in_of st j)
        (entry_in_of (add_entry st i a t w) j) (offset_in st j) (offset_in (add_entry st i a t w) j)
        (stripe_in st j) (stripe_in (add_entry st i a t w) j) (filled_in_of st j) (filled_in_of (add_entry st i a t w) j) (landed_in st j)
        (landed_in (add_entry st i a t w) j) (M.F (stripe_in st j)) (M.ready (stripe_in st j))
        S.number S.filled S.landed (λ e el. placed-other j e jl el (inl n)) S.entry S.offset (λ e x y el o. o) (λ e x el o. o) (R.slot j jl q)
      where
        S : SameSlot st (add_entry st i a t w) j
        S = add_same st L i il a t w k8 j n

    -- another eighth has another stripe
    filling_apart : (j : ℕ) → j < 8 → U j ≡ true → j ≢ i → stripe_in st j ≢ s
    filling_apart j jl q n e = n (R.once j i jl il q u e)

    pub placed_rel : RelOn p v (placed p st fl i a t w b).state now M' U
    unfolding add_entry stripe_in
    placed_rel = rw placed_state (record {
      long = add_long st L i il a t w k8;
      healthy = unfold add_entry in R.healthy;
      is_open = unfold add_entry in R.is_open;
      zone = unfold add_entry in R.zone;
      next = unfold add_entry in R.next;
      stamp = unfold add_entry in R.stamp;
      serial = unfold add_entry in R.serial;
      stamp_fits = unfold add_entry in R.stamp_fits;
      serial_fits = unfold add_entry in R.serial_fits;
      flying = λ j jl q. rw (add_number st L i il a t w k8 j) (set_at_elim (λ (x : Bool). x ≡ true) M.fly s true (stripe_in st j) (λ e. refl) (λ e. R.flying j jl q));
      slot = λ j jl q. slot j jl q (ℕ_discrete j i);
      once = λ j l jl ll q o e. R.once j l jl ll q o (sym (add_number st L i il a t w k8 j) ∙ e ∙ add_number st L i il a t w k8 l);
      flies = λ x q. flies x q (ℕ_discrete x s);
      whole = λ o x l q. R.whole o x l (was x q);
      busy = λ o e. (s, set_at_here M.fly s true);
    })
      where
        slot : (j : ℕ) → j < 8 → U j ≡ true → Dec (j ≡ i) → SlotOf p v (add_entry st i a t w) now M.zone j (M'.F (stripe_in (add_entry st i a t w) j))
            (M'.ready (stripe_in (add_entry st i a t w) j))
        slot j jl q (yes e) = rw (e, add_number st L i il a t w k8 i, set_at_here M.F s G, set_at_here M.ready s r) slot_placed
        slot j jl q (no e) =
            rw (add_number st L i il a t w k8 j, set_at_else M.F s G (stripe_in st j) (filling_apart j jl q e), set_at_else M.ready s r (stripe_in st j) (filling_apart j jl q e))
            (others_placed j jl q e)

        flies : (x : ℕ) → set_at M.fly s true x ≡ true → Dec (x ≡ s) → (j : ℕ) × (j < 8) × (U j ≡ true) × (stripe_in (add_entry st i a t w) j ≡ x)
        flies x q (yes e) = (i, il, u, add_number st L i il a t w k8 i ∙ sym e)
        flies x q (no e) =
            let f : (j : ℕ) × (j < 8) × (U j ≡ true) × (stripe_in st j ≡ x) = R.flies x (sym (set_at_else M.fly s true x e) ∙ q) in
            (f.0, f.1, f.2, add_number st L i il a t w k8 f.0 ∙ f.3)

        was : (x : ℕ) → set_at M.fly s true x ≡ false → M.fly x ≡ false
        was x = set_at_elim (λ (y : Bool). y ≡ false → M.fly x ≡ false) M.fly s true x (λ e q. true≢false (sym q)) (λ e q. q)

    -- a write in flight stays one
    pub placed_waits : (w ≡ 0) ⊎ (w ≡ 1) → ((j : ℕ) → j < 8 → in_use_of st j ≡ true → U j ≡ true) → (x : Val) (y : ℕ) → Waiting p st M x y
        → Waiting p (placed p st fl i a t w b).state M' x y
    placed_waits ww cover x y q = rw placed_state (go (ℕ_discrete q.i i))
      where
        go : Dec (q.i ≡ i) → Waiting p (add_entry st i a t w) M' x y
        go (yes e) =
            let f : q.k < k = subst (λ (j : ℕ). q.k < filled_in_of st j) e q.filled in
            let n : y ≡ s = sym q.number ∙ ap (stripe_in st) e in
            record {
              i = i;
              lt = il;
              in_use_of? = filled_used (add_entry st i a t w) i (omega (arith, add-filled st L i il a t w k8));
              number = add_number st L i il a t w k8 i ∙ sym n;
              k = q.k;
              filled = omega (arith, f, add-filled st L i il a t w k8);
              write = add_write st L i il a t w k8 ww q.k (omega (arith, f, k8)) (subst (λ (j : ℕ). is_write st j q.k ≡ true) e q.write);
              val = ap₂ (λ (F : ℕ → Val) (z : ℕ). F (data_drive p z q.k)) (ap (set_at M.F s G) n ∙ set_at_here M.F s G) n
                  ∙ old q.k (omega (arith, f)) (omega (arith, f)) ∙ ap (λ (z : ℕ). M.F z (data_drive p z q.k)) (sym n) ∙ q.val;
            }
        go (no e) =
            let S : SameSlot st (add_entry st i a t w) q.i = add_same st L i il a t w k8 q.i e in
            record {
              i = q.i;
              lt = q.lt;
              in_use_of? = same_used st (add_entry st i a t w) q.i S ∙ q.in_use_of?;
              number = S.number ∙ q.number;
              k = q.k;
              filled = omega (arith, S.filled, q.filled);
              write = S.write q.k ∙ q.write;
              val =
                  ap (λ (F : ℕ → Val). F (data_drive p y q.k)) (set_at_else M.F s G y (λ n. filling_apart q.i q.lt (cover q.i q.lt q.in_use_of?) e (q.number ∙ n))) ∙ q.val;
            }

    -- the eighths in use afterwards
    pub placed_used : ((j : ℕ) → j < 8 → j ≢ i → U j ≡ in_use_of st j) → (j : ℕ) → j < 8 → U j ≡ in_use_of (placed p st fl i a t w b).state j
    placed_used cover j jl = rw placed_state (go (ℕ_discrete j i))
      where
        go : Dec (j ≡ i) → U j ≡ in_use_of (add_entry st i a t w) j
        go (yes e) = ap U e ∙ u ∙ sym (ap (in_use_of (add_entry st i a t w)) e ∙ filled_used (add_entry st i a t w) i (omega (arith, add-filled st L i il a t w k8)))
        go (no e) = cover j jl e ∙ sym (same_used st (add_entry st i a t w) j (add_same st L i il a t w k8 j e))
