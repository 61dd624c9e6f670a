-- Before a block goes in: a segment opened where one must be, a stripe begun where none is filling. Assumes nothing.
use Rattle.std.specs.Prelude.{◌≡◌, Bool, cond, ◌&&◌, ◌||◌, ◌⊎◌, ◌≢◌, ℕ, suc, ◌^◌, ◌≤◌, ◌<◌, eqb, length, get_or, take}
use Rattle.std.proofs.Math.Path.{refl, ap}
use Rattle.std.proofs.Common.{sym, ◌∙◌, subst, inl, inr, arith}
use mathlib.Core.List.{List, []}
use Rattle.std.proofs.Math.Bool.{true, false, not}
use borrow.Author.Tests.{leb-false, ltb-true, eqb-true, eqb-false, not-true, not-false}
use Rattle.std.proofs.Math.Dec.{leb, ltb}
use Rattle.std.proofs.Math.Seq.{take-nil}
use Rattle.std.specs.Int.Count.{ones}
use Rattle.spec.specs.declared.Params.{Params}
use Rattle.spec.specs.declared.State.{State}
use Rattle.spec.specs.Drives.{View, Store, store_view_of, store_all, header_stores, empty_count, new_seg}
use Rattle.spec.specs.Lists.{all, any, keep, is_nil, index_of}
use Rattle.spec.specs.Memory.{slot_count, slots, stripe_in, filled_in_of, landed_in, is_free, is_full, is_filling, in_flight, free_slot, filling_slot, has_filling}
use Rattle.spec.specs.Memory.{slot_ok_of, state_ok, set_open, begin_stripe}
use Rattle.spec.specs.Params.{data_count, place_block, place_drive, parity_count}
use Rattle.spec.specs.Write.{must_open, opens, no_serial, other_group, must_wait, opened_by, slot_for, begun_by}
use Rattle.law_basic.specs.Geometry.{Ranged, data_count-low}
use Rattle.law_basic.specs.Ranges.{Test, test, and_left, and_right, and_both, length-below, and_fails, and-false, or_left, nil_is}
use Rattle.law_basic.specs.Ranges.Test.{yes!, no! }
use Rattle.law_calls.specs.Refusals.{next_low}
use Rattle.law_drives.specs.Slots.{slot_found}
use Rattle.law_drives.specs.Tests.{cond_true, cond_false, clash, not_so}
use Rattle.proof_crash_machine.specs.Exec.{or_either}
use Rattle.proof_crash_machine.specs.Facts.Pair.{alone}
use Rattle.proof_crash_machine.specs.Facts.{Ghost, Counted, Off}
use Rattle.proof_crash_machine.specs.History.Step.{begin as History·begin, lose}
use Rattle.proof_crash_machine.specs.History.Mode.{off as m-off, run}
use Rattle.proof_crash_machine.specs.History.{State as m-State, Inv}
use Rattle.proof_crash_machine.specs.Memory.{Mem}
use Rattle.proof_crash_machine.specs.Memory2.{open_mem}
use Rattle.proof_crash_machine.specs.Name.{set_n-other, naming}
use Rattle.proof_crash_machine.specs.Order.{Track, no_track}
use Rattle.proof_crash_machine.specs.Val.{Val}
use Rattle.proof_crash_machine.specs.View.{Item, ItemView}
use Rattle.proof_crash_machine.specs.View.Item.{chunk, foot}
use Rattle.proof_crash_items.specs.Member.{Has, and_false_1, has_keep, all_has}
use Rattle.proof_crash_items.specs.Ranges.{par_of}
use Rattle.proof_crash_items.specs.Sound.{AllSound}
use Rattle.proof_crash_items.specs.Segs.{OnDrives}
use Rattle.proof_crash_calls.specs.Base.{or_r, has_slot, keep_rest}
use Rattle.proof_crash_calls.proofs.Begin.{begun_mem, with_slot, with_here, begin_rel, begin_waits, begin_cover}
use Rattle.proof_crash_calls.specs.Cells.{same_used, begin_filled, open_same}
use Rattle.proof_crash_calls.specs.Go.{mst, Later, later_same, Go, go_none, go_step, go_more, go_inv}
use Rattle.proof_crash_calls.proofs.Held.{counted-kept, entry_to}
use Rattle.proof_crash_calls.specs.Held.{Entry}
use Rattle.proof_crash_calls.specs.Opened.{open_view_holds, open_cut_view, open_none, open_tie, open_cut_tie, open_sound, open_go, open_cut_go, open_other, open_rel, open_waits}
use Rattle.proof_crash_items.specs.Carry.{Tie, on_tie, names_of}
use Rattle.proof_crash_calls.specs.Rel.{in_use_of, free_unused, RelOn, Rel, Waiting}

-- what the call's checks say
pub record Asked (p : Params) (v : View) (st : State) : Type 0 where
  pub ok : state_ok p st ≡ true
  pub waits : must_wait p st ≡ false
  pub serial : no_serial p st ≡ false
  pub room : opens p st ≡ true → 2 ≤ empty_count p v

-- ---- the state's ranges

slots-part : (p : Params) (st : State) → state_ok p st ≡ true → all (slot_ok_of p st) slots ≡ true
unfolding state_ok
slots-part p st e =
    let x = eqb st.live 1 && ltb st.missing (2 ^ p.N) && leb (ones st.missing) (parity_count p) && leb st.opened st.serial.0 && leb st.next p.S in
    let y = all (slot_ok_of p st) slots in
    and_right x y (and_left (x && y) (all (λ o. ltb o p.S) st.offsets) e)

pub slots_ok : (p : Params) (st : State) → state_ok p st ≡ true → (i : ℕ) → i < 8 → (stripe_in st i < p.S) × (landed_in st i < 2 ^ p.N)
slots_ok p st e i il = split (all_has (slot_ok_of p st) slots (slots-part p st e) i (has_slot i il))
  where
    split : slot_ok_of p st i ≡ true → (stripe_in st i < p.S) × (landed_in st i < 2 ^ p.N)
    split q = unfold slot_ok_of in
        let x : (ltb (stripe_in st i) p.S && leb (filled_in_of st i) (data_count p) && ltb (get_or st.writes i 0) (2 ^ data_count p)) ≡ true =
        and_left (ltb (stripe_in st i) p.S && leb (filled_in_of st i) (data_count p) && ltb (get_or st.writes i 0) (2 ^ data_count p)) (ltb (landed_in st i) (2 ^ p.N)) q in
        let y : (ltb (stripe_in st i) p.S && leb (filled_in_of st i) (data_count p)) ≡ true =
        and_left (ltb (stripe_in st i) p.S && leb (filled_in_of st i) (data_count p)) (ltb (get_or st.writes i 0) (2 ^ data_count p)) x in (
          ltb-true (stripe_in st i) p.S (and_left (ltb (stripe_in st i) p.S) (leb (filled_in_of st i) (data_count p)) y),
          ltb-true (landed_in st i) (2 ^ p.N) (and_right
              (ltb (stripe_in st i) p.S && leb (filled_in_of st i) (data_count p) && ltb (get_or st.writes i 0) (2 ^ data_count p))
              (ltb (landed_in st i) (2 ^ p.N)) q),
        )

-- ---- the eighths

pub filling_slot_lem : (p : Params) (st : State) → has_filling p st ≡ true → (filling_slot p st < 8) × (in_use_of st (filling_slot p st) ≡ true)
    × (filled_in_of st (filling_slot p st) < data_count p)
unfolding has_filling filling_slot
filling_slot_lem p st e =
    let q : (index_of (is_filling p st) slots < 8) × (is_filling p st (index_of (is_filling p st) slots) ≡ true) = slot_found (is_filling p st) e in
    let w : (in_use_of st (index_of (is_filling p st) slots) ≡ true) × (filled_in_of st (index_of (is_filling p st) slots) < data_count p) = at (index_of (is_filling p st) slots) q.1 in
    (q.0, w.0, w.1)
  where
    at : (i : ℕ) → is_filling p st i ≡ true → (in_use_of st i ≡ true) × (filled_in_of st i < data_count p)
    at i w = unfold is_filling in_use_of is_full in (
      and_left (not (is_free st i)) (not (leb (data_count p) (filled_in_of st i))) w,
      leb-false (data_count p) (filled_in_of st i) (not-true (leb (data_count p) (filled_in_of st i)) (and_right (not (is_free st i)) (not (leb (data_count p) (filled_in_of st i))) w)),
    )

pub free_slot_lem : (st : State) → length (in_flight st) < 8 → (free_slot st < 8) × (in_use_of st (free_slot st) ≡ false)
unfolding in_flight free_slot
free_slot_lem st b = go (test (any (is_free st) slots))
  where
    eight : length slots ≡ 8
    eight = unfold slots slot_count in length-below 8

    go : Test (any (is_free st) slots) → (index_of (is_free st) slots < 8) × (in_use_of st (index_of (is_free st) slots) ≡ false)
    go (yes! e) = let q : (index_of (is_free st) slots < 8)
        × (is_free st (index_of (is_free st) slots) ≡ true) = slot_found (is_free st) e in (q.0, free_unused st (index_of (is_free st) slots) q.1)
    go (no! e) = absurd (let z : ⊥ = omega (arith, b, keep_rest (is_free st) slots e, eight) in z)

pub none_flying : (st : State) → is_nil (in_flight st) ≡ true → (i : ℕ) → i < 8 → in_use_of st i ≡ false
unfolding in_flight in_use_of
none_flying st e i il =
    not_so (not (is_free st i)) (λ q. absurd (subst (λ (l : List ℕ). Has i l) (nil_is (keep (λ i. not (is_free st i)) slots) e) (has_keep (λ i. not (is_free st i)) i slots (has_slot i il) q)))

-- ---- the stripe that takes the block

-- eighth i of st₂ takes it, once ss are stored
pub record Target (p : Params) (h : Ranged p) (off : List ℕ) (g : Ghost) (v : View) (u : ItemView) (a : List Val) (c : Bool) (st : State) (fl : List ℕ) (M : Mem) (ss : List Store) (st₂ : State)
    (i : ℕ) : Type 0 where
  pub g' : Ghost
  pub u₂ : ItemView
  pub M₂ : Mem
  pub U : ℕ → Bool
  pub sound : AllSound p v ss
  pub tie : Tie p h off g'.un g'.hd (store_all store_view_of ss v) u₂
  pub go : (T : Track) → Go (par_of p h off) (mst g u a c (run M)) (mst g' u₂ a c (run M₂)) T T
  pub rel : RelOn p u₂ st₂ fl M₂ U
  pub low : i < 8
  pub used? : U i ≡ true
  pub room : filled_in_of st₂ i < data_count p
  pub cover : (j : ℕ) → j < 8 → j ≢ i → U j ≡ in_use_of st₂ j
  pub waits : (x : Val) (s : ℕ) → Waiting p st M x s → Waiting p st₂ M₂ x s
  pub stamp : M₂.stamp ≡ M.stamp
  pub sent : g'.sent ≡ g.sent
  pub later : Later g g'
  pub base : g'.base ≡ g.base
  -- what counts still does, in its segment, and every item is where it was
  pub counts : (x : Val) (q : Counted (par_of p h off) g.hd u g.un x) → (c : Counted (par_of p h off) g'.hd u₂ g'.un x) × (c.z ≡ q.z)
  pub kept : (e y j : ℕ) (t : Item) → e < p.N → Off (u e y) j t → Off (u₂ e y) j t
  pub named : (e y j : ℕ) (t : Item) → e < p.N → Off (u e y) j t → g'.hd.zn y ≡ g.hd.zn y
  -- and where the power is cut
  pub cut : (n : ℕ) → (g'' : Ghost) × (u'' : ItemView) × Later g g'' × Tie p h off g''.un g''.hd (store_all store_view_of (take n ss) v) u''
      × ((T : Track) → Go (par_of p h off) (mst g u a c (run M)) (mst g'' u'' a c m-off) T T)

module _ (p : Params) (h : Ranged p) (off : List ℕ) (g : Ghost) (v : View) (u : ItemView) (a : List Val) (c : Bool) (st : State) (fl : List ℕ) (M : Mem) (R : Rel p u st fl M)
    (I : Inv (par_of p h off) (mst g u a c (run M))) (on : OnDrives p h off g v u) where
  abbrev σ : m-State
  σ = mst g u a c (run M)

  -- a cut with no store due
  cut_none : (n : ℕ) → (g'' : Ghost) × (u'' : ItemView) × Later g g'' × Tie p h off g''.un g''.hd (store_all store_view_of (take n []) v) u''
      × ((T : Track) → Go (par_of p h off) (mst g u a c (run M)) (mst g'' u'' a c m-off) T T)
  unfolding store_all
  cut_none n = (
    g,
    u,
    later_same g,
    rw (take-nil {A = Store} n) (on_tie p h off g v u on),
    λ T. go_step (par_of p h off) σ (mst g u a c m-off) T (lose σ),
  )

  -- a stripe is filling
  target_filling : has_filling p st ≡ true → Target p h off g v u a c st fl M [] st (filling_slot p st)
  unfolding store_all
  target_filling e = record {
    g' = g;
    M₂ = M;
    U = in_use_of st;
    u₂ = u;
    sound = tt;
    tie = on_tie p h off g v u on;
    go = λ T. go_none (par_of p h off) σ T;
    rel = R;
    low = (filling_slot_lem p st e).0;
    used? = (filling_slot_lem p st e).1;
    room = (filling_slot_lem p st e).2;
    cover = λ j l n. refl;
    waits = λ x s q. q;
    stamp = refl;
    sent = refl;
    later = later_same g;
    base = refl;
    counts = λ x q. (q, refl);
    kept = λ e y j t l o. o;
    named = λ e y j t l o. refl;
    cut = cut_none;
  }

  -- a stripe begins in the open segment
  target_begin : M.is_open ≡ true → M.next < p.S → (i : ℕ) → i < 8 → in_use_of st i ≡ false → Target p h off g v u a c st fl M [] (begin_stripe st i) i
  unfolding store_all
  target_begin o nl i il free = record {
    g' = g;
    M₂ = begun_mem (par_of p h off) M;
    U = with_slot st i;
    u₂ = u;
    sound = tt;
    tie = on_tie p h off g v u on;
    go = λ T. go_step (par_of p h off) σ (mst g u a c (run (begun_mem (par_of p h off) M))) T (History·begin σ M refl o nl);
    rel = begin_rel p h off g u st fl M R I.mode o i il free;
    low = il;
    used? = with_here st i;
    room = omega (arith, begin_filled st R.long i il, data_count-low p h);
    cover = begin_cover p h off g u st fl M R I.mode o i il free;
    waits = begin_waits p h off g u st fl M R I.mode o i il free;
    stamp = refl;
    sent = refl;
    later = later_same g;
    base = refl;
    counts = λ x q. (q, refl);
    kept = λ e y j t l o. o;
    named = λ e y j t l o. refl;
    cut = cut_none;
  }

-- a segment is opened, and a stripe begins in it
module _ (p : Params) (h : Ranged p) (off : List ℕ) (g : Ghost) (v : View) (u : ItemView) (a : List Val) (c : Bool) (st : State) (fl : List ℕ) (M : Mem) (R : Rel p u st fl M)
    (I : Inv (par_of p h off) (mst g u a c (run M))) (on : OnDrives p h off g v u) (shut? : M.is_open ≡ false) (two : 2 ≤ empty_count p v) (fits : suc M.serial < 256 ^ 8)
    (idle : (i : ℕ) → i < 8 → in_use_of st i ≡ false) (i : ℕ) (il : i < 8) where
  abbrev w : ℕ
  w = suc M.serial

  abbrev hs : List Store
  hs = header_stores p (new_seg p v) (suc M.serial) 0

  abbrev u₁ : ItemView
  u₁ = open_view_holds p h off g v u a c M on I two shut? fits

  abbrev st₁ : State
  st₁ = set_open st (suc M.serial)

  abbrev M₁ : Mem
  M₁ = open_mem M (suc M.serial) (suc M.serial)

  abbrev g₁ : Ghost
  g₁ = naming g (suc M.serial) (suc M.serial) 0 (names_of p (new_seg p v)) alone

  go₁ : (T : Track) → Go (par_of p h off) (mst g u a c (run M)) (mst g₁ u₁ a c (run M₁)) T T
  go₁ = open_go p h off g v u a c M on I two shut? fits

  inv₁ : Inv (par_of p h off) (mst g₁ u₁ a c (run M₁))
  inv₁ = go_inv (par_of p h off) (mst g u a c (run M)) (mst g₁ u₁ a c (run M₁)) no_track no_track (go₁ no_track) I

  rel₁ : Rel p u₁ st₁ fl M₁
  rel₁ = open_rel p h off g v u a c M on I two shut? fits st fl R idle

  free₁ : in_use_of st₁ i ≡ false
  free₁ = same_used st st₁ i (open_same st (suc M.serial) i) ∙ idle i il

  open_items_other : (e y : ℕ) → y ≢ w → u₁ e y ≡ u e y
  open_items_other = open_other p h off g v u a c M on I two shut? fits

  -- w was empty
  used_apart : (e y j : ℕ) (t : Item) → e < p.N → Off (u e y) j t → y ≢ w
  used_apart e y j t l o q = let z : ⊥ = omega (arith, o.0, ap (λ (x : ℕ). length (u e x)) q, ap length (open_none p h off g v u a c M on I two shut? fits e l)) in z

  opened_counts : (x : Val) (q : Counted (par_of p h off) g.hd u g.un x) → (c : Counted (par_of p h off) g₁.hd u₁ g₁.un x) × (c.z ≡ q.z)
  opened_counts x q = (counted-kept (par_of p h off) g g₁ u u₁ inv₁.facts inv₁.mode.no_pair refl x q (λ d l. open_items_other d q.z apart), refl)
    where
      apart : q.z ≢ w
      apart = let b : 0 < length (u 0 q.z) = q.rem.left 0 (omega (arith, h.drives_low)) (I.mode.none 0 (omega (arith, h.drives_low))) in
          used_apart 0 q.z 0 (get_or (u 0 q.z) 0 (foot 0)) (omega (arith, h.drives_low)) (b, refl)

  pub target_open : Target p h off g v u a c st fl M hs (begin_stripe st₁ i) i
  target_open = record {
    g' = g₁;
    M₂ = begun_mem (par_of p h off) M₁;
    U = with_slot st₁ i;
    u₂ = u₁;
    sound = open_sound p h off g v u a c M on I two shut? fits;
    tie = open_tie p h off g v u a c M on I two shut? fits;
    go = λ T. go_more (par_of p h off) (mst g u a c (run M)) (mst g₁ u₁ a c (run M₁)) (mst g₁ u₁ a c (run (begun_mem (par_of p h off) M₁))) T T (go₁ T)
        (History·begin (mst g₁ u₁ a c (run M₁)) M₁ refl refl (omega (arith, h.stripes_low)));
    rel = begin_rel p h off g₁ u₁ st₁ fl M₁ rel₁ inv₁.mode refl i il free₁;
    low = il;
    used? = with_here st₁ i;
    room = omega (arith, begin_filled st₁ rel₁.long i il, data_count-low p h);
    cover = begin_cover p h off g₁ u₁ st₁ fl M₁ rel₁ inv₁.mode refl i il free₁;
    waits = λ x s q. begin_waits p h off g₁ u₁ st₁ fl M₁ rel₁ inv₁.mode refl i il free₁ x s (open_waits p h off g v u a c M on I two shut? fits st fl R idle x s q);
    stamp = refl;
    sent = refl;
    later = record { un = refl; last = refl; sent = λ x m. m };
    base = refl;
    counts = opened_counts;
    kept = λ e y j t l o. subst (λ (x : List Item). Off x j t) (sym (open_items_other e y (used_apart e y j t l o))) o;
    named = λ e y j t l o. set_n-other g.hd.zn w (names_of p (new_seg p v)) y (used_apart e y j t l o);
    cut = λ n. (
      g₁,
      open_cut_view p h off g v u a c M on I two shut? fits n,
      record { un = refl; last = refl; sent = λ x m. m },
      open_cut_tie p h off g v u a c M on I two shut? fits n,
      open_cut_go p h off g v u a c M on I two shut? fits n,
    );
  }

-- ---- as `sending` does it

-- the stores of a block sent
unfoldable pub send_stores : Params → View → State → List Store
send_stores p v st = cond (opens p st) (header_stores p (new_seg p v) (suc st.serial.0) 0) []

no_opening_stores : (p : Params) (v : View) (st : State) → opens p st ≡ false → send_stores p v st ≡ []
unfolding send_stores
no_opening_stores p v st e = cond_false (opens p st) (header_stores p (new_seg p v) (suc st.serial.0) 0) [] e

stores_some : (p : Params) (v : View) (st : State) → opens p st ≡ true → send_stores p v st ≡ header_stores p (new_seg p v) (suc st.serial.0) 0
unfolding send_stores
stores_some p v st e = cond_true (opens p st) (header_stores p (new_seg p v) (suc st.serial.0) 0) [] e

opened_old : (p : Params) (st : State) → opens p st ≡ false → opened_by p st ≡ st
unfolding opened_by
opened_old p st e = cond_false (opens p st) (set_open st (suc st.serial.0)) st e

opened_new : (p : Params) (st : State) → opens p st ≡ true → opened_by p st ≡ set_open st (suc st.serial.0)
unfolding opened_by
opened_new p st e = cond_true (opens p st) (set_open st (suc st.serial.0)) st e

begun_old : (p : Params) (st st₁ : State) → has_filling p st ≡ true → begun_by p st st₁ ≡ st
unfolding begun_by
begun_old p st st₁ e = cond_true (has_filling p st) st (begin_stripe st₁ (free_slot st)) e

begun_new : (p : Params) (st st₁ : State) → has_filling p st ≡ false → begun_by p st st₁ ≡ begin_stripe st₁ (free_slot st)
unfolding begun_by
begun_new p st st₁ e = cond_false (has_filling p st) st (begin_stripe st₁ (free_slot st)) e

slot_filling : (p : Params) (st : State) → has_filling p st ≡ true → slot_for p st ≡ filling_slot p st
unfolding slot_for
slot_filling p st e = cond_true (has_filling p st) (filling_slot p st) (free_slot st) e

slot_free : (p : Params) (st : State) → has_filling p st ≡ false → slot_for p st ≡ free_slot st
unfolding slot_for
slot_free p st e = cond_false (has_filling p st) (filling_slot p st) (free_slot st) e

target_as : (p : Params) (h : Ranged p) (off : List ℕ) (g : Ghost) (v : View) (u : ItemView) (a : List Val) (c : Bool) (st : State) (fl : List ℕ) (M : Mem) (ss ss' : List Store)
    (st₂ st₃ : State) (i j : ℕ)
    → ss ≡ ss' → st₂ ≡ st₃ → i ≡ j → Target p h off g v u a c st fl M ss' st₃ j → Target p h off g v u a c st fl M ss st₂ i
target_as p h off g v u a c st fl M ss ss' st₂ st₃ i j e f q t =
    subst (λ (x : List Store). Target p h off g v u a c st fl M x st₂ i) (sym e)
    (subst (λ (x : State). Target p h off g v u a c st fl M ss' x i) (sym f) (subst (λ (x : ℕ). Target p h off g v u a c st fl M ss' st₃ x) (sym q) t))

module _ (p : Params) (h : Ranged p) (off : List ℕ) (g : Ghost) (v : View) (u : ItemView) (a : List Val) (c : Bool) (st : State) (fl : List ℕ) (M : Mem) (R : Rel p u st fl M)
    (I : Inv (par_of p h off) (mst g u a c (run M))) (on : OnDrives p h off g v u) (A : Asked p v st) where
  module _ (not-filling : has_filling p st ≡ false) where
    waits? : ((leb slot_count (length (in_flight st)) || (must_open p st && not (is_nil (in_flight st)))) || (not (must_open p st) && any (other_group p st) (in_flight st))) ≡ false
    waits? = and_fails (not (has_filling p st))
        ((leb slot_count (length (in_flight st)) || (must_open p st && not (is_nil (in_flight st)))) || (not (must_open p st) && any (other_group p st) (in_flight st)))
        (unfold must_wait in A.waits) (ap not not-filling)

    few_in_flight : (leb slot_count (length (in_flight st)) || (must_open p st && not (is_nil (in_flight st)))) ≡ false
    few_in_flight = or_left (leb slot_count (length (in_flight st)) || (must_open p st && not (is_nil (in_flight st)))) (not (must_open p st) && any (other_group p st) (in_flight st)) waits?

    free : (free_slot st < 8) × (in_use_of st (free_slot st) ≡ false)
    free = free_slot_lem st (leb-false 8 (length (in_flight st)) (unfold slot_count in or_left (leb slot_count (length (in_flight st))) (must_open p st && not (is_nil (in_flight st))) few_in_flight))

    target_begun : must_open p st ≡ false → Target p h off g v u a c st fl M [] (begin_stripe st (free_slot st)) (free_slot st)
    target_begun e = target_begin p h off g v u a c st fl M R I on o
        (omega (arith, R.next o, next_low p st A.ok, eqb-false st.next p.S (or_r (eqb st.opened 0) (eqb st.next p.S) (unfold must_open in e)))) (free_slot st) free.0 free.1
      where
        o : M.is_open ≡ true
        o = R.is_open ∙ ap not (or_left (eqb st.opened 0) (eqb st.next p.S) (unfold must_open in e))

    -- a segment must be opened: none is open, since nothing is in flight
    opens-now :
        must_open p st ≡ true
        → Target p h off g v u a c st fl M (header_stores p (new_seg p v) (suc st.serial.0) 0)
        (begin_stripe (set_open st (suc st.serial.0)) (free_slot st)) (free_slot st)
    opens-now e =
        subst (λ (n : ℕ). Target p h off g v u a c st fl M (header_stores p (new_seg p v) (suc n) 0)
        (begin_stripe (set_open st (suc n)) (free_slot st)) (free_slot st)) R.serial
        (target_open p h off g v u a c st fl M R I on shut? (A.room op) (omega (arith, R.serial, R.serial_fits, last)) idle (free_slot st) free.0)
      where
        op : opens p st ≡ true
        op = unfold opens in and_both (not (has_filling p st)) (must_open p st) (ap not not-filling) e

        last : st.serial.0 ≢ 18446744073709551615
        last = eqb-false st.serial.0 18446744073709551615 (and_fails (opens p st) (eqb st.serial.0 18446744073709551615) (unfold no_serial in A.serial) op)

        idle : (i : ℕ) → i < 8 → in_use_of st i ≡ false
        idle =
            none_flying st (not-false (is_nil (in_flight st))
            (and_fails (must_open p st) (not (is_nil (in_flight st)))
            (or_r (leb slot_count (length (in_flight st))) (must_open p st && not (is_nil (in_flight st))) few_in_flight) e))

        shut? : M.is_open ≡ false
        shut? = go M.is_open refl
          where
            go : (b : Bool) → M.is_open ≡ b → M.is_open ≡ false
            go false q = q
            go true q = full (or_either (eqb st.opened 0) (eqb st.next p.S) (unfold must_open in e))
              where
                full : (eqb st.opened 0 ≡ true) ⊎ (eqb st.next p.S ≡ true) → M.is_open ≡ false
                full (inl x) = R.is_open ∙ ap not x
                full (inr x) =
                    let f : (s : ℕ) × (M.fly s ≡ true) = R.busy q (R.next q ∙ eqb-true st.next p.S x) in
                    let y : (i : ℕ) × (i < 8) × (in_use_of st i ≡ true) × (stripe_in st i ≡ f.0) = R.flies f.0 f.1 in
                    clash y.2 (idle y.0 y.1)

  pub target : Target p h off g v u a c st fl M (send_stores p v st) (begun_by p st (opened_by p st)) (slot_for p st)
  target = go (test (has_filling p st)) (test (must_open p st))
    where
      go : Test (has_filling p st) → Test (must_open p st) → Target p h off g v u a c st fl M (send_stores p v st) (begun_by p st (opened_by p st)) (slot_for p st)
      go (yes! e) m =
          target_as p h off g v u a c st fl M (send_stores p v st) [] (begun_by p st (opened_by p st)) st (slot_for p st) (filling_slot p st)
          (no_opening_stores p v st (unfold opens in and_false_1 (not (has_filling p st)) (must_open p st) (ap not e))) (begun_old p st (opened_by p st) e) (slot_filling p st e)
          (target_filling p h off g v u a c st fl M R I on e)
      go (no! e) (yes! m) =
          let o : opens p st ≡ true = unfold opens in and_both (not (has_filling p st)) (must_open p st) (ap not e) m in
          target_as p h off g v u a c st fl M (send_stores p v st) (header_stores p (new_seg p v) (suc st.serial.0) 0)
          (begun_by p st (opened_by p st)) (begin_stripe (set_open st (suc st.serial.0)) (free_slot st)) (slot_for p st) (free_slot st)
          (stores_some p v st o) (begun_new p st (opened_by p st) e ∙ ap (λ (x : State). begin_stripe x (free_slot st)) (opened_new p st o)) (slot_free p st e) (opens-now e m)
      go (no! e) (no! m) =
          let o : opens p st ≡ false = unfold opens in and-false (not (has_filling p st)) (must_open p st) m in
          target_as p h off g v u a c st fl M (send_stores p v st) [] (begun_by p st (opened_by p st)) (begin_stripe st (free_slot st)) (slot_for p st) (free_slot st)
          (no_opening_stores p v st o) (begun_new p st (opened_by p st) e ∙ ap (λ (x : State). begin_stripe x (free_slot st)) (opened_old p st o)) (slot_free p st e) (target_begun e m)

-- the table's entries, once the stores are made
pub target-entries :
    (p : Params) (h : Ranged p) (off : List ℕ) (g : Ghost) (v : View) (u : ItemView) (a : List Val) (c : Bool) (st : State) (fl : List ℕ) (M : Mem) (ss : List Store) (st₂ : State)
    (i : ℕ) (t : Target p h off g v u a c st fl M ss st₂ i)
    → (q b : ℕ) → Entry p h off g u q b → Entry p h off t.g' t.u₂ q b
target-entries p h off g v u a c st fl M ss st₂ i t q b e = entry_to p h off g t.g' u t.u₂ q b e
    (ap (λ (f : ℕ → ℕ). f (place_drive p q)) (t.named (place_drive p q) e.n (place_block p q) (chunk e.s e.x) e.drive e.at))
    (t.kept (place_drive p q) e.n (place_block p q) (chunk e.s e.x) e.drive e.at) (t.counts e.x e.counts).0 ((t.counts e.x e.counts).1 ∙ e.same)
    (subst (λ (f : ℕ → ℕ). f b ≤ e.x.stamp) (sym t.base) e.floor)
