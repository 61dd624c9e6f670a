-- What a landing stores and leaves, where its stripe completes and where it doesn't (01, Landing). Assumes nothing.
use Rattle.std.specs.Prelude.{Result, Ok, ◌≡◌, Bool, true, ◌&&◌, ℕ, ◌+◌, ◌-◌, ◌≤◌, ◌<◌, length, take, set, replicate}
use Rattle.std.proofs.Math.Path.{refl, ap}
use Rattle.std.proofs.Common.{sym, ◌∙◌, subst, arith}
use mathlib.Core.List.{List, [], ◌∷◌}
use Rattle.std.proofs.Math.Bool.{false, cond}
use Rattle.std.proofs.Math.Dec.{eqb}
use Rattle.spec.specs.declared.Params.{Params}
use Rattle.spec.specs.declared.State.{State}
use Rattle.spec.specs.declared.Answer.{Answer}
use Rattle.spec.specs.declared.Answer.TheVariants.{Cut, Landed}
use Rattle.spec.specs.Calls.{mk_plan}
use Rattle.spec.specs.Drives.{View, pointer_at, Store, store_view_of, Disk, pointer_of, store_disk, store_all, zone_on}
use Rattle.spec.specs.Landing.{slot_of, completes, seals, landed_cands, pointed, seal_stores, writes_in, land_store, land_plan}
use Rattle.spec.specs.Layout.{compact_entry}
use Rattle.spec.specs.Memory.{Memory, mk_memory, filled_in_of, is_write, offset_in, in_flight, set_closed, mark_landed, free_stripe, compact_at}
use Rattle.spec.specs.Rank.{Cand}
use Rattle.spec.specs.Lists.{is_nil}
use Rattle.spec.specs.Segments.{open_segments, open_segment}
use Rattle.spec.specs.Params.{data_count, in_range, footers, capacity, offline_len, addresses_len}
use Rattle.call_land_table.specs.Winners.{EntriesSane}
use Rattle.law_basic.specs.Ranges.{and_left}
use Rattle.law_basic.specs.Segs.{ZonesLow}
use Rattle.law_views.specs.Views.{Whole, seen}
use Rattle.disk_zones.specs.declared.TooFew.{TooFew}
use Rattle.std.specs.Result.{is_err}
use Rattle.disk_zones.specs.Made.{Storing, storing_short, storing_enough, storing_none}
use Rattle.mem_rows.specs.declared.Row.{Row}
use Rattle.mem_rows.specs.Rows.{slot_row}
use Rattle.call_land_chunk.specs.Alone.{alone, row_completes}
use Rattle.call_land.specs.declared.Look.{Look}
use Rattle.call_land.specs.declared.Target.{Target}
use Rattle.spec.specs.declared.Seg.{Seg}

-- what a landing asks of the state, asked once
pub record Looks (p : Params) (st : State) (d s : ℕ) (l : Look) : Type 0 where
  pub slot : l.slot ≡ slot_of st s
  pub row : slot_of st s < 8 → l.row ≡ slot_row st (slot_of st s)
  pub done : l.done ≡ completes p (alone l.row) 0 d
  pub seals : l.seals ≡ (l.done && eqb st.next p.S && eqb (length (in_flight st)) 1)

module _ (p : Params) (st : State) (d s : ℕ) (l : Look) (w : Looks p st d s l) (h : slot_of st s < 8) where
  -- what it says is what the definitions say
  pub look_done : l.done ≡ completes p st (slot_of st s) d
  look_done = w.done ∙ ap (λ (x : Row). completes p (alone x) 0 d) (w.row h) ∙ row_completes st (slot_of st s) p d

  pub look_seals : l.seals ≡ seals p st (slot_of st s) d
  unfolding seals
  look_seals = w.seals ∙ ap (λ (x : Bool). x && eqb st.next p.S && eqb (length (in_flight st)) 1) look_done

-- a landing of a chunk that waits, of a state in range: what was asked of it
pub record LookedAt (p : Params) (m : Memory) (tb : List ℕ) (opened d s : ℕ) (l : Look) : Type 0 where
  pub addresses : m.addresses ≡ tb
  pub opened_is : m.state.opened ≡ opened
  pub looks : Looks p m.state d s l
  pub slot_low : slot_of m.state s < 8
  pub filled-low : filled_in_of m.state (slot_of m.state s) ≤ data_count p

-- it seals only where it completes
pub seals_done : (p : Params) (st : State) (d s : ℕ) (l : Look) → Looks p st d s l → l.seals ≡ true → l.done ≡ true
seals_done p st d s l w e =
    let a = eqb st.next p.S in
    let b = eqb (length (in_flight st)) 1 in
    and_left l.done a (and_left (l.done && a) b (sym w.seals ∙ e))

-- 02, item 4: the open segment as a landing on drive d finds it; b: the stripe completes, so that all of its zones are asked for
pub record TargetAt (p : Params) (v : View) (st : State) (d : ℕ) (b : Bool) (o : Target) : Type 0 where
  pub some : is_nil (open_segments p v st) ≡ false
  pub zone : o.zone ≡ zone_on (open_segment p v st) d
  pub whole : b ≡ true → o.segment ≡ open_segment p v st

-- the footers' stores in segment g, where it is sealed
abbrev pub seals_of : Params → List ℕ → Disk → Seg → Bool → List Store
seals_of p off k g b = cond b (seal_stores p (seen p off k) g) []

-- the table that points at what holds
abbrev pub table_of : Params → View → Seg → State → ℕ → List ℕ → List ℕ
table_of p v g st i tb = pointed p v tb (landed_cands p v g st i) (landed_cands p v g st i) tb

-- what completing the stripe of row r in segment g asks: drives, table and stripe fit; b: it seals the segment
abbrev pub Complete : Params → List ℕ → List ℕ → Row → Seg → Bool → Disk → Type 0
Complete p off tb r g b k =
    (in_range p ≡ true) × ((Whole p k × (length off ≡ offline_len p)) × (((length tb ≡ addresses_len p) × EntriesSane p (seen p off k) (alone r) 0 tb)
    × (((filled_in_of (alone r) 0 ≤ data_count p) × ((d : ℕ) → d < p.N → offset_in (alone r) 0 d < p.S))
    × (ZonesLow p 0 g × (b ≡ true → (d : ℕ) → d < p.N → pointer_of p k.pointers d (zone_on g d) + footers p ≤ capacity p)))))

-- 01, Landing; Store count: the stripe of row r completes in segment g on the bytes k, with the tables tb and co, under the number n
pub record Completing (p : Params) (off : List ℕ) (n : ℕ) (r : Row) (g : Seg) (b : Bool) (k : Disk) (tb co : List ℕ) (a : Answer) (k' : Disk) (tb' co' : List ℕ) : Type 0 where
  pub disk : k' ≡ store_all (store_disk p) (take n (seals_of p off k g b)) k
  pub done : length (seals_of p off k g b) ≤ n → (a ≡ Landed (writes_in (alone r) 0)) × (tb' ≡ table_of p (seen p off k) g (alone r) 0 tb) × (co' ≡ co)
  pub cut : n < length (seals_of p off k g b) → (a ≡ Cut) × (tb' ≡ replicate (length tb) 0) × (co' ≡ replicate (length co) 0)

module _ (p : Params) (off : List ℕ) (n : ℕ) (w : Row) (g : Seg) (b : Bool) (k : Disk) (tb co : List ℕ) (a : Result ℕ TooFew) (k' : Disk)
    (h : Storing p n (seals_of p off k g b) k a k') (r : Answer)
    (tb' co' : List ℕ) where
  pub completing_cut : is_err a ≡ true → r ≡ Cut → tb' ≡ replicate (length tb) 0 → co' ≡ replicate (length co) 0 → Completing p off n w g b k tb co r k' tb' co'
  completing_cut c e f q = record {
    disk = h.disk;
    done = λ l. absurd (let m = storing_short p n (seals_of p off k g b) k a k' h c in let w : ⊥ = omega arith in w);
    cut = λ l. (e, f, q);
  }

  pub completing_done : is_err a ≡ false → r ≡ Landed (writes_in (alone w) 0) → tb' ≡ table_of p (seen p off k) g (alone w) 0 tb → co' ≡ co
      → Completing p off n w g b k tb co r k' tb' co'
  completing_done c e f q = record {
    disk = h.disk;
    done = λ l. (e, f, q);
    cut = λ l. absurd (let m = storing_enough p n (seals_of p off k g b) k a k' h c in let w : ⊥ = omega arith in w);
  }

-- the same of the same
pub completing_same : (p : Params) (off : List ℕ) (n : ℕ) (tb : List ℕ) (a : Answer) (k' : Disk) (tb' co' : List ℕ) {r r' : Row} {g g' : Seg} {b b' : Bool} {k k₁ : Disk}
    {co co₁ : List ℕ} → r ≡ r' → g ≡ g' → b ≡ b' → k ≡ k₁ → co ≡ co₁
    → Completing p off n r g b k tb co a k' tb' co' → Completing p off n r' g' b' k₁ tb co₁ a k' tb' co'
completing_same p off n tb a k' tb' co' {r} {r'} {g} {g'} {b} {b'} {k} {k₁} {co} {co₁} er eg eb ek ec h =
    subst (λ (x : Row). Completing p off n x g' b' k₁ tb co₁ a k' tb' co') er
    (subst (λ (x : Seg). Completing p off n r x b' k₁ tb co₁ a k' tb' co') eg
    (subst (λ (x : Bool). Completing p off n r g x k₁ tb co₁ a k' tb' co') eb
    (subst (λ (x : Disk). Completing p off n r g b x tb co₁ a k' tb' co') ek
    (subst (λ (x : List ℕ). Completing p off n r g b k tb x a k' tb' co') ec h))))

-- no footers are due
pub seals_none : (p : Params) (off : List ℕ) (n : ℕ) (g : Seg) (b : Bool) (k : Disk) → b ≡ false → Storing p n (seals_of p off k g b) k (Ok n) k
seals_none p off n g b k e =
    subst (λ (x : List Store). Storing p n x k (Ok n) k) (sym (ap (λ (x : Bool). cond x (seal_stores p (seen p off k) g) []) e)) (storing_none p n k)

-- they are
pub seals_some : (p : Params) (off : List ℕ) (n : ℕ) (g : Seg) (b : Bool) (k : Disk) (a : Result ℕ TooFew) (k' : Disk) → b ≡ true → Storing p n (seal_stores p (seen p off k) g) k a k'
    → Storing p n (seals_of p off k g b) k a k'
seals_some p off n g b k a k' e h =
    subst (λ (x : List Store). Storing p n x k a k') (sym (ap (λ (x : Bool). cond x (seal_stores p (seen p off k) g) []) e)) h

-- ---- a chunk marked as landed

module _ (p : Params) (st : State) (i d o : ℕ) where
  pub same_filled : (e : ℕ) → filled_in_of (mark_landed st i d o) e ≡ filled_in_of st e
  unfolding mark_landed filled_in_of
  same_filled e = refl

  pub same_writes : writes_in (mark_landed st i d o) i ≡ writes_in st i
  unfolding mark_landed writes_in is_write filled_in_of
  same_writes = refl

-- ---- the plan

module _ (p : Params) (v : View) (m : Memory) (d s : ℕ) where
  abbrev st : State
  st = m.state

  abbrev i : ℕ
  i = slot_of st s

  abbrev z : ℕ
  z = zone_on (open_segment p v st) d

  -- the state with the chunk landed, the compact table with its entry
  abbrev pub landed_state : State
  landed_state = mark_landed m.state (slot_of m.state s) d (pointer_at v d (zone_on (open_segment p v m.state) d) - 1)

  abbrev pub shown_table : List ℕ
  shown_table = set m.compact (compact_at p d (zone_on (open_segment p v m.state) d) (pointer_at v d (zone_on (open_segment p v m.state) d) - 1)) (compact_entry p s)

  abbrev v' : View
  v' = store_view_of (land_store p v m d s) v

  abbrev cs : List Cand
  cs = landed_cands p v' (open_segment p v st) landed_state i

  abbrev tb' : List ℕ
  tb' = pointed p v' m.addresses cs cs m.addresses

  abbrev ss : List Store
  ss = seal_stores p v' (open_segment p v st)

  abbrev st₂ : State
  st₂ = free_stripe landed_state i

  pub plan_part : completes p m.state (slot_of m.state s) d ≡ false
      → land_plan p v m d s ≡ mk_plan (land_store p v m d s ∷ []) (Landed 0) (mk_memory landed_state m.addresses shown_table m.inflight) []
  unfolding land_plan seals
  plan_part e =
      let l : seals p st i d ≡ false = ap (λ (x : Bool). x && eqb st.next p.S && eqb (length (in_flight st)) 1) e in
      λ j. mk_plan (land_store p v m d s ∷ cond (l j) ss []) (Landed (cond (e j) (writes_in st i) 0))
      (mk_memory (cond (l j) (set_closed (cond (e j) st₂ landed_state)) (cond (e j) st₂ landed_state)) (cond (e j) tb' m.addresses) shown_table m.inflight) []

  pub plan_whole : completes p m.state (slot_of m.state s) d ≡ true
      → land_plan p v m d s ≡ mk_plan (land_store p v m d s ∷ cond (seals p m.state (slot_of m.state s) d) (seal_stores p (store_view_of (land_store p v m d s) v) (open_segment p v m.state)) [])
      (Landed (writes_in m.state (slot_of m.state s)))
      (mk_memory (cond (seals p m.state (slot_of m.state s) d) (set_closed (free_stripe landed_state (slot_of m.state s))) (free_stripe landed_state (slot_of m.state s)))
      (table_of p (store_view_of (land_store p v m d s) v) (open_segment p v m.state) landed_state (slot_of m.state s) m.addresses) shown_table m.inflight) []
  unfolding land_plan
  plan_whole e =
      let b = seals p st i d in
      λ j. mk_plan (land_store p v m d s ∷ cond b ss []) (Landed (cond (e j) (writes_in st i) 0))
      (mk_memory (cond b (set_closed (cond (e j) st₂ landed_state)) (cond (e j) st₂ landed_state)) (cond (e j) tb' m.addresses) shown_table m.inflight) []
