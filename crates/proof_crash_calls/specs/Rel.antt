-- The engine's memory and the machine's, in a healthy run. Assumes nothing.
use Rattle.std.specs.Prelude.{◌≡◌, List, map, Bool, true, false, cond, not, ◌≢◌, ℕ, suc, ◌^◌, ◌≤◌, ◌<◌, leb, ltb, eqb, length}
use Rattle.std.proofs.Math.Path.{sym}
use Rattle.std.proofs.Common.{ap, ap₂, ◌∙◌, subst, ne_eqb, arith}
use Rattle.std.proofs.lemmas.Bool.{eqb-false, not-true}
use Rattle.std.specs.Int.Count.{ones}
use Rattle.spec.specs.declared.Params.{Params}
use Rattle.spec.specs.declared.State.{State}
use Rattle.spec.specs.Bytes.{parity}
use Rattle.spec.specs.Layout.{parity_drive, data_drive, data_position, is_data, data_drives, Rec}
use Rattle.spec.specs.Lists.{below, is_in}
use Rattle.spec.specs.Memory.{stripe_in, filled_in_of, landed_in, is_write, entry_in_of, offset_in, is_free, slot_block}
use Rattle.spec.specs.Params.{data_count}
use Rattle.law_basic.specs.Geometry.{Ranged, data_count_high, data_drive_lt}
use Rattle.law_basic.specs.Ranges.{map-below_same, map-map}
use Rattle.proof_crash_machine.specs.Facts.{Off}
use Rattle.proof_crash_machine.specs.Memory.{Mem}
use Rattle.proof_crash_machine.specs.Val.{Val, pads}
use Rattle.proof_crash_machine.specs.View.{Item, ItemView, InI}
use Rattle.proof_crash_machine.specs.View.Item.{chunk}
use Rattle.proof_crash_items.specs.Items.{value_of}
use Rattle.proof_crash_items.specs.Ranges.{parity_on}

-- ---- one eighth

-- which chunks of a stripe wait or have landed, with k data positions filled
unfoldable pub ready_at : Params → ℕ → ℕ → ℕ → Bool
ready_at p s k d = cond (is_data p s d) (ltb (data_position p s d) k) (leb (data_count p) k)

-- stripe s with k positions filled and mask m of landed drives, its blocks B, records E and offsets O; G and r: the machine's; W: the items of the open segment by drive
pub record SlotRel (p : Params) (W : ℕ → List Item) (B : ℕ → List ℕ) (E : ℕ → Rec) (O : ℕ → ℕ) (s k m : ℕ) (G : ℕ → Val) (r : ℕ → Bool) : Type 0 where
  pub most : k ≤ data_count p
  -- not on all drives
  pub mask : eqb (ones m) p.N ≡ false
  pub held : (j : ℕ) → j < k → G (data_drive p s j) ≡ value_of (B (data_drive p s j)) (E j)
  pub blank : (j : ℕ) → k ≤ j → j < data_count p → G (data_drive p s j) ≡ pads
  pub xored : k ≡ data_count p → B (parity_drive p s) ≡ parity p.B (map B (data_drives p s))
  pub may : (d : ℕ) → d < p.N → r d ≡ ready_at p s k d
  -- a landed bit is set just where the chunk is
  pub on : (d : ℕ) → d < p.N → is_in m d ≡ true → Off (W d) (suc (O d)) (chunk s (G d))
  pub out : (d : ℕ) → d < p.N → is_in m d ≡ false → (x : Val) → InI (chunk s x) (W d) → ⊥

-- the eighth i of a state
abbrev pub SlotOf : Params → ItemView → State → List ℕ → ℕ → ℕ → (ℕ → Val) → (ℕ → Bool) → Type 0
SlotOf p v st fl z i G r = SlotRel p (λ d. v d z) (slot_block p fl i) (entry_in_of st i) (offset_in st i) (stripe_in st i) (filled_in_of st i) (landed_in st i) G r

-- what changes nothing in an eighth
pub slot_keep : (p : Params) → Ranged p → (W W' : ℕ → List Item) (B B' : ℕ → List ℕ) (E E' : ℕ → Rec) (O O' : ℕ → ℕ) (s s' k k' m m' : ℕ)
    (G : ℕ → Val) (r : ℕ → Bool)
    → s' ≡ s → k' ≡ k → m' ≡ m → ((d : ℕ) → d < p.N → B' d ≡ B d) → ((j : ℕ) → j < 8 → E' j ≡ E j) → ((d : ℕ) → d < 8 → O' d ≡ O d)
    → ((d j : ℕ) (i : Item) → d < p.N → Off (W d) j i → Off (W' d) j i) → ((d : ℕ) (x : Val) → d < p.N → InI (chunk s x) (W' d) → InI (chunk s x) (W d))
    → SlotRel p W B E O s k m G r → SlotRel p W' B' E' O' s' k' m' G r
slot_keep p h W W' B B' E E' O O' s s' k k' m m' G r es ek em eb ee eo fwd back a = rw (es, ek, em) (record {
  most = a.most;
  mask = a.mask;
  held = λ j l. a.held j l ∙ ap₂ value_of (sym (eb (data_drive p s j) (data_drive_lt p s j (omega (arith, l, a.most))))) (sym (ee j (omega (arith, l, a.most, data_count_high p h))));
  blank = a.blank;
  xored = λ e. eb (parity_drive p s) (parity_on p h s) ∙ a.xored e ∙ ap (parity p.B) (sym blocks);
  may = a.may;
  on = λ d l e. fwd d (suc (O' d)) (chunk s (G d)) l (subst (λ (n : ℕ). Off (W d) (suc n) (chunk s (G d))) (sym (eo d (omega (arith, l, h.drives_high)))) (a.on d l e));
  out = λ d l e x i. a.out d l e x (back d x l i);
})
  where
    blocks : map B' (data_drives p s) ≡ map B (data_drives p s)
    blocks = unfold data_drives in (map-map B' (data_drive p s) (below (data_count p))
        ∙ map-below_same (λ (j : ℕ). B' (data_drive p s j)) (λ (j : ℕ). B (data_drive p s j)) (data_count p) (λ j l. eb (data_drive p s j) (data_drive_lt p s j l))
        ∙ sym (map-map B (data_drive p s) (below (data_count p))))

-- ---- the state

-- lengths of the state's lists
pub record RowsLong (st : State) : Type 0 where
  pub numbers : length st.numbers ≡ 8
  pub filled : length st.filled ≡ 8
  pub writes : length st.writes ≡ 8
  pub landed : length st.landed ≡ 8
  pub addresses : length st.addresses ≡ 64
  pub stamps : length st.stamps ≡ 64
  pub offsets : length st.offsets ≡ 64

-- an eighth in use
unfoldable pub in_use_of : State → ℕ → Bool
in_use_of st i = not (is_free st i)

pub used_filled : (st : State) (i : ℕ) → in_use_of st i ≡ true → 0 < filled_in_of st i
unfolding in_use_of is_free
used_filled st i e = let q : filled_in_of st i ≢ 0 = eqb-false (filled_in_of st i) 0 (not-true (eqb (filled_in_of st i) 0) e) in omega arith

pub filled_used : (st : State) (i : ℕ) → 0 < filled_in_of st i → in_use_of st i ≡ true
unfolding in_use_of is_free
filled_used st i l = ap not (ne_eqb (filled_in_of st i) 0 (omega arith))

pub free_unused : (st : State) (i : ℕ) → is_free st i ≡ true → in_use_of st i ≡ false
unfolding in_use_of
free_unused st i e = ap not e

-- the stripes in flight are those of the eighths in U
pub record RelOn (p : Params) (v : ItemView) (st : State) (fl : List ℕ) (M : Mem) (U : ℕ → Bool) : Type 0 where
  pub long : RowsLong st
  pub healthy : st.missing ≡ 0
  pub is_open : M.is_open ≡ not (eqb st.opened 0)
  -- a segment by its name, which is its serial
  pub zone : M.is_open ≡ true → st.opened ≡ M.zone
  pub next : M.is_open ≡ true → M.next ≡ st.next
  pub stamp : M.stamp ≡ st.stamp.0
  pub serial : M.serial ≡ st.serial.0
  pub stamp_fits : st.stamp.0 < 256 ^ 8
  pub serial_fits : st.serial.0 < 256 ^ 8
  -- a stripe flies just where an eighth of U has its number, in one eighth only
  pub flying : (i : ℕ) → i < 8 → U i ≡ true → M.fly (stripe_in st i) ≡ true
  pub slot : (i : ℕ) → i < 8 → U i ≡ true → SlotOf p v st fl M.zone i (M.F (stripe_in st i)) (M.ready (stripe_in st i))
  pub once : (i j : ℕ) → i < 8 → j < 8 → U i ≡ true → U j ≡ true → stripe_in st i ≡ stripe_in st j → i ≡ j
  pub flies : (s : ℕ) → M.fly s ≡ true → (i : ℕ) × (i < 8) × (U i ≡ true) × (stripe_in st i ≡ s)
  -- begun and not in flight: on all drives
  pub whole : M.is_open ≡ true → (s : ℕ) → s < M.next → M.fly s ≡ false → (d : ℕ) → d < p.N → (x : Val) × InI (chunk s x) (v d M.zone)
  -- all stripes begun: some in flight
  pub busy : M.is_open ≡ true → M.next ≡ p.S → (s : ℕ) × (M.fly s ≡ true)

-- between calls
abbrev pub Rel : Params → ItemView → State → List ℕ → Mem → Type 0
Rel p v st fl M = RelOn p v st fl M (in_use_of st)

-- the same eighths
pub rel_on : (p : Params) (v : ItemView) (st : State) (fl : List ℕ) (M : Mem) (U U' : ℕ → Bool) → ((i : ℕ) → i < 8 → U i ≡ U' i) → RelOn p v st fl M U → RelOn p v st fl M U'
rel_on p v st fl M U U' e a = record {
  long = a.long;
  healthy = a.healthy;
  is_open = a.is_open;
  zone = a.zone;
  next = a.next;
  stamp = a.stamp;
  serial = a.serial;
  stamp_fits = a.stamp_fits;
  serial_fits = a.serial_fits;
  flying = λ i l q. a.flying i l (e i l ∙ q);
  slot = λ i l q. a.slot i l (e i l ∙ q);
  once = λ i j l k q w. a.once i j l k (e i l ∙ q) (e j k ∙ w);
  flies = λ s q. let w : (i : ℕ) × (i < 8) × (U i ≡ true) × (stripe_in st i ≡ s) = a.flies s q in (w.0, w.1, sym (e w.0 w.1) ∙ w.2, w.3);
  whole = a.whole;
  busy = a.busy;
}

-- ---- a write in flight

-- x was sent to data position k of stripe s, in eighth i
pub record Waiting (p : Params) (st : State) (M : Mem) (x : Val) (s : ℕ) : Type 0 where
  pub i : ℕ
  pub lt : i < 8
  pub in_use_of? : in_use_of st i ≡ true
  pub number : stripe_in st i ≡ s
  pub k : ℕ
  pub filled : k < filled_in_of st i
  pub write : is_write st i k ≡ true
  pub val : M.F s (data_drive p s k) ≡ x
