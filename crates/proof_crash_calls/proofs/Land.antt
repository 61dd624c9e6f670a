-- Landing: the chunk, the acknowledgement, the footers; uncut and cut. Assumes nothing.
use Rattle.std.proofs.Math.Path.{◌≡◌, refl, ap, subst}
use Rattle.std.proofs.Common.{sym, ap₂, ◌∙◌, inl, ⊎_elim}
use mathlib.Core.List.{List, [], ◌∷◌, map}
use Rattle.std.specs.Prelude.{Bool, ◌&&◌, ◌||◌, ◌≢◌, ℕ, suc, ◌+◌, ◌-◌, ◌^◌, ◌≤◌, ◌<◌, ltb, take}
use Rattle.std.proofs.Math.Bool.{true, false, cond, not}
use Rattle.std.proofs.Math.Decide.{ℕ_discrete}
use borrow.Author.Tests.{le-ltb, eq-eqb, ne_eqb, leb-true, ltb-false, eqb-true, eqb-false}
use native.Mathlib.Omega.{arith}
use Rattle.std.proofs.Math.Dec.{eqb}
use Rattle.std.proofs.Math.ListN.{length}
use Rattle.std.specs.Int.Count.{ones}
use Rattle.spec.specs.declared.Params.{Params}
use Rattle.spec.specs.declared.State.{State}
use Rattle.spec.specs.Calls.{Plan}
use Rattle.spec.specs.Demands.{send_at}
use Rattle.spec.specs.Drives.{Zone, View, zone_at, pointer_at, Store, put_zone, store_view_of, store_all, zone_on}
use Rattle.spec.specs.History.{Send, acknowledge, forget}
use Rattle.spec.specs.Landing.{slot_of, completes, seals, flight_rec, landed_cands, pointed, seal_stores, writes_in, land_store, land_plan}
use Rattle.spec.specs.Layout.{parity_drive, data_drive, Rec, record_bytes}
use Rattle.spec.specs.Lists.{below, keep, tally, is_in}
use Rattle.spec.specs.Memory.{Memory, slot_count, slots, stripe_in, filled_in_of, landed_in, is_write, entry_in_of, offset_in, is_free, in_flight, set_closed}
use Rattle.spec.specs.Memory.{landed_mask, mark_landed, free_stripe, slot_block}
use Rattle.spec.specs.Params.{data_count, footers, capacity, addresses_len, inflight_len}
use Rattle.law_basic.specs.Geometry.{Ranged}
use Rattle.law_basic.specs.Ranges.{Test, test, and_left, and_right, and_both, and_fails}
use Rattle.law_basic.specs.Ranges.Test.{yes!, no! }
use Rattle.law_drives.specs.Tests.{cond_true, cond_false}
use Rattle.proof_crash_machine.specs.Exec.{or_either}
use Rattle.proof_crash_machine.specs.Facts.{Ghost, InV, L, Counted, Off, Ragged, used, self_none, None, Used}
use Rattle.proof_crash_machine.specs.Ghosts.{with_base}
use Rattle.proof_crash_machine.specs.History.{Inv}
use Rattle.proof_crash_machine.specs.History.Mode.{run}
use Rattle.proof_crash_machine.specs.History.Step.{seal}
use Rattle.proof_crash_machine.specs.Lemma.{pair_alone}
use Rattle.proof_crash_machine.specs.Memory.{Mem, ended}
use Rattle.proof_crash_machine.specs.Order.{Track}
use Rattle.proof_crash_machine.specs.Put.{off_in, in_fwd}
use Rattle.proof_crash_machine.specs.Val.{Val}
use Rattle.proof_crash_machine.specs.View.Item.{chunk}
use Rattle.proof_crash_machine.specs.View.{ItemView, ItemStore, AllS, apply, apply_all, InI}
use Rattle.proof_crash_machine.specs.Filling.{shut}
use Rattle.proof_crash_items.specs.Carry.{Tie, tie_on}
use Rattle.proof_crash_items.specs.Places.{store_seg}
use Rattle.proof_crash_items.specs.Segs.{OnDrives, On, is_on, zone_len_holds, named_seg, named_zone}
use Rattle.proof_crash_calls.specs.Go.{mst, Later, later_same, Go, go_then, go_more, go_inv, Chain, chain_follows, chain_go, chain_cut}
use Rattle.proof_crash_calls.proofs.Landed.{LandAsked, land_view, land_items, land_item, land_put, landed_zone_low, zone_used, land_zone}
use Rattle.proof_crash_calls.proofs.Landed.{land_sound, landed_item, land_tie, land_step, land_flies, land_flight, land_open, land_held, land_store_is}
use Rattle.proof_crash_calls.specs.Live.{Live, Stopped, CallOk}
use Rattle.proof_crash_calls.proofs.Live.{live_inv, live_none, live_trust, live_seg_len, live_tie, live_tie_cut, live_after, live_cut}
use Rattle.proof_crash_calls.proofs.Seal.{seal_items, seal_segs, all_stripes, Footed, seal_chain}
use Rattle.proof_crash_items.specs.Items.{value_of}
use Rattle.proof_crash_items.specs.Member.{Has, has_keep, has_up_from, has_below}
use Rattle.proof_crash_items.specs.Ranges.{parity_on, par_of, apart_code}
use Rattle.proof_crash_items.specs.Shape.{Shape, zone_set_at, zone_set_else}
use Rattle.proof_crash_items.specs.Sound.{AllSound, Follows}
use Rattle.proof_crash_calls.proofs.Ack.{ack_base, ack_go}
use Rattle.proof_crash_calls.specs.Base.{has_slot, another_kept, lone_pass, set_at_else}
use Rattle.proof_crash_calls.specs.Cells.{land_number, land_filled, land_entry}
use Rattle.proof_crash_calls.proofs.Completed.{table_done}
use Rattle.proof_crash_calls.proofs.Fill.{landed_may}
use Rattle.proof_crash_calls.specs.Held.{Grown, TableOk}
use Rattle.proof_crash_calls.proofs.Held.{grown_put, table_grown}
use Rattle.proof_crash_calls.specs.LandRel.{mask_bit, bit_on, landed_rel, landed_waits, mask_full, all_on, ended_rel, ended_waits, sealed_rel, sealed-idle}
use Rattle.proof_crash_calls.proofs.Placed.{ready-parity}
use Rattle.proof_crash_calls.specs.Rel.{ready_at, in_use_of, Waiting}
use Rattle.proof_crash_calls.proofs.Sending.{slots_ok}
use Rattle.proof_crash_calls.proofs.Sends.{value_addr, value_stamp, length_ack, acked_old, ack_logged, ack_waits}
use Rattle.proof_crash_calls.specs.Sends.{Logged, acked_to}
use Rattle.spec.specs.declared.Seg.{Seg}
use Rattle.spec.specs.Segments.{open_segment}

-- what is left of a plan where its parts are known
pub call_as : (p : Params) (h : Ranged p) (off : List ℕ) (g₀ : Ghost) (v : View) (q : Plan) (ws : List Store) (st : State) (fl tb : List ℕ) (ss ss' ss'' : List Send) (n : ℕ)
    → q.stores ≡ ws → q.memory.state ≡ st → q.memory.inflight ≡ fl → q.memory.addresses ≡ tb → ss' ≡ ss''
    → AllSound p v ws
    → (x : Live p h off (store_all store_view_of ws v) st fl tb ss'' n) × Later g₀ x.g
    → ((k : ℕ) → (x : Stopped p h off (store_all store_view_of (take k ws) v) (map forget ss) n) × Later g₀ x.g)
    → CallOk p h off g₀ v q ss ss' n
call_as p h off g₀ v q ws st fl tb ss ss' ss'' n e f g c o sound live cuts = record {
  sound = subst (AllSound p v) (sym e) sound;
  done = subst (λ (x : List Store). (y : Live p h off (store_all store_view_of x v) q.memory.state q.memory.inflight q.memory.addresses ss' n) × Later g₀ y.g) (sym e)
      (subst (λ (x : State). (y : Live p h off (store_all store_view_of ws v) x q.memory.inflight q.memory.addresses ss' n) × Later g₀ y.g) (sym f)
      (subst (λ (x : List ℕ). (y : Live p h off (store_all store_view_of ws v) st x q.memory.addresses ss' n) × Later g₀ y.g) (sym g)
      (subst (λ (x : List ℕ). (y : Live p h off (store_all store_view_of ws v) st fl x ss' n) × Later g₀ y.g) (sym c)
      (subst (λ (x : List Send). (y : Live p h off (store_all store_view_of ws v) st fl tb x n) × Later g₀ y.g) (sym o) live))));
  cut = λ k. subst (λ (x : List Store). (y : Stopped p h off (store_all store_view_of (take k x) v) (map forget ss) n) × Later g₀ y.g) (sym e) (cuts k);
}

-- the number that a landing answers with, and the sends after it
unfoldable pub land_count : Params → State → ℕ → ℕ → ℕ
land_count p st d s = cond (completes p st (slot_of st s) d) (writes_in st (slot_of st s)) 0

unfoldable pub land_sends : Params → State → ℕ → ℕ → List Send → List Send
land_sends p st d s ss = cond (ltb 0 (land_count p st d s)) (map (acknowledge s) ss) ss

pub sends_none : (p : Params) (st : State) (d s : ℕ) (ss : List Send) → completes p st (slot_of st s) d ≡ false → land_sends p st d s ss ≡ ss
unfolding land_sends land_count
sends_none p st d s ss e =
    cond_false (ltb 0 (cond (completes p st (slot_of st s) d) (writes_in st (slot_of st s)) 0)) (map (acknowledge s) ss) ss
    (ap (ltb 0) (cond_false (completes p st (slot_of st s) d) (writes_in st (slot_of st s)) 0 e) ∙ le-ltb 0 0 (omega arith))

pub sends-acked :
    (p : Params) (st : State) (d s : ℕ) (ss : List Send)
    → completes p st (slot_of st s) d ≡ true
    → ltb 0 (writes_in st (slot_of st s)) ≡ true
    → land_sends p st d s ss ≡ map (acknowledge s) ss
unfolding land_sends land_count
sends-acked p st d s ss e f =
    cond_true (ltb 0 (cond (completes p st (slot_of st s) d) (writes_in st (slot_of st s)) 0)) (map (acknowledge s) ss) ss
    (ap (ltb 0) (cond_true (completes p st (slot_of st s) d) (writes_in st (slot_of st s)) 0 e) ∙ f)

pub sends_as_were : (p : Params) (st : State) (d s : ℕ) (ss : List Send) → completes p st (slot_of st s) d ≡ true → ltb 0 (writes_in st (slot_of st s)) ≡ false
    → land_sends p st d s ss ≡ ss
unfolding land_sends land_count
sends_as_were p st d s ss e f =
    cond_false (ltb 0 (cond (completes p st (slot_of st s) d) (writes_in st (slot_of st s)) 0)) (map (acknowledge s) ss) ss
    (ap (ltb 0) (cond_true (completes p st (slot_of st s) d) (writes_in st (slot_of st s)) 0 e) ∙ f)

-- a write makes the number positive
pub write_counts : (st : State) (i k : ℕ) → k < filled_in_of st i → is_write st i k ≡ true → 0 < writes_in st i
unfolding writes_in tally
write_counts st i k l e = go (keep (is_write st i) (below (filled_in_of st i))) (has_keep (is_write st i) k (below (filled_in_of st i)) (has_below k (filled_in_of st i) l) e)
  where
    go : (l : List ℕ) → Has k l → 0 < length l
    go [] m = absurd m
    go (x ∷ l) m = omega arith

module _ (p : Params) (h : Ranged p) (off : List ℕ) (v : View) (m : Memory) (ss : List Send) (n : ℕ) (l : Live p h off v m.state m.inflight m.addresses ss n)
    (fits : length m.inflight ≡ inflight_len p)
    (whole-table : length m.addresses ≡ addresses_len p) (d s : ℕ) (A : LandAsked p v m.state d s) where
  abbrev st : State
  st = m.state

  abbrev fl : List ℕ
  fl = m.inflight

  abbrev i : ℕ
  i = slot_of m.state s

  abbrev M : Mem
  M = l.M

  abbrev z : Seg
  z = named_seg p l.g l.M.zone

  abbrev v₀ : ItemView
  v₀ = l.u

  abbrev u : View
  u = land_view p h off v m ss n l fits d s A

  -- as the machine sees them
  abbrev vi : ItemView
  vi = land_items p h off v m ss n l fits d s A

  abbrev wi : ItemStore
  wi = land_item p h off v m ss n l fits d s A

  abbrev w : Store
  w = land_put p h off v m ss n l fits d s A

  abbrev o : ℕ
  o = pointer_at v d (zone_on (named_seg p l.g l.M.zone) d) - 1

  inv_land : Inv (par_of p h off) (mst l.g l.u l.a l.c (run l.M))
  inv_land = live_inv p h off v m.state m.inflight m.addresses ss n l

  zin : (x : ℕ) → x < p.N → zone_on z x < p.Z
  zin = landed_zone_low p h off v m ss n l fits d s A

  land_lies : (x : ℕ) → x < p.N → zone_on z x ≡ l.g.hd.zn M.zone x
  land_lies x b = named_zone p l.g M.zone x b

  in_use : Used (par_of p h off) l.g.un l.u M.zone
  in_use = zone_used p h off v m ss n l fits d s A

  from : 1 ≤ pointer_at v d (zone_on z d)
  from = subst (λ (x : Seg). 1 ≤ pointer_at v d (zone_on x d)) (land_zone p h off v m ss n l fits d s A) A.from

  oe : suc o ≡ length (v₀ d M.zone)
  oe = let e : length (v₀ d M.zone) ≡ pointer_at v d (zone_on z d) =
      live_seg_len p h off v m.state m.inflight m.addresses ss n l M.zone in_use d A.drive in
      omega (arith, e, from)

  wide : landed_in st i < 2 ^ p.N
  wide = (slots_ok p st A.ok i A.low).1

  filled_most : (j : ℕ) → j < 8 → in_use_of st j ≡ true → filled_in_of st j ≤ data_count p
  filled_most j jl q = (l.rel.slot j jl q).most

  -- the state with the bit set
  abbrev st₁ : State
  st₁ = mark_landed m.state (slot_of m.state s) d (pointer_at v d (zone_on (named_seg p l.g l.M.zone) d) - 1)

  -- ---- the plan's parts
  plan_o : pointer_at v d (zone_on (open_segment p v st) d) - 1 ≡ o
  plan_o = ap (λ (x : Seg). pointer_at v d (zone_on x d) - 1) (land_zone p h off v m ss n l fits d s A)

  -- all but the footers
  sound₁ : AllSound p v (w ∷ [])
  sound₁ = (land_sound p h off v m ss n l fits d s A, tt)

  landing_step : (T : Track) → Go (par_of p h off) (mst l.g v₀ l.a l.c (run M)) (mst l.g vi l.a l.c (run M)) T T
  landing_step = land_step p h off v m ss n l fits d s A

  chain₁ : Chain p h off l.g l.a l.c (run M) v v₀ (w ∷ []) (wi ∷ [])
  unfolding apply
  chain₁ = (land_sound p h off v m ss n l fits d s A, landed_item p h off v m ss n l fits d s A, landing_step, tt)

  segs₁ : AllS (λ (x : ItemStore). Used (par_of p h off) l.g.un l.u (store_seg x)) (wi ∷ [])
  unfolding store_seg
  segs₁ = (in_use, tt)

  tie₁ : Tie p h off l.g.un l.g.hd u vi
  tie₁ = land_tie p h off v m ss n l fits d s A

  cut₁ : (k : ℕ) → (x : Stopped p h off (store_all store_view_of (take k (w ∷ [])) v) (map forget ss) n) × Later l.g x.g
  cut₁ k = live_cut p h off v m.state m.inflight m.addresses ss n l (w ∷ []) k (apply_all v₀ (take k (wi ∷ []))) l.g
      (live_tie_cut p h off v m.state m.inflight m.addresses ss n l (w ∷ []) (wi ∷ [])
      (chain_follows p h off l.g l.a l.c (run M) v v₀ (w ∷ []) (wi ∷ []) chain₁) segs₁ k)
      (later_same l.g) (chain_cut p h off l.g l.a l.c (run M) v v₀ (w ∷ []) (wi ∷ []) k l.T chain₁)

  -- ---- the drives with the chunk

  shape_u : Shape p u
  shape_u = tie₁.shape

  I₁ : Inv (par_of p h off) (mst l.g vi l.a l.c (run M))
  I₁ = go_inv (par_of p h off) (mst l.g v₀ l.a l.c (run M)) (mst l.g vi l.a l.c (run M)) l.T l.T (landing_step l.T) inv_land

  land-none? : None (par_of p h off) l.g.un
  land-none? = live_none p h off v m.state m.inflight m.addresses ss n l

  drives_u : OnDrives p h off l.g u vi
  drives_u = tie_on p h off l.g u vi tie₁ I₁.facts

  grew_u : Grown (par_of p h off) v₀ vi
  grew_u = grown_put (par_of p h off) v₀ d M.zone (chunk s (M.F s d)) (omega (arith, oe))

  -- ---- not complete

  live_part : completes p st i d ≡ false → (x : Live p h off (store_all store_view_of (w ∷ []) v) st₁ fl m.addresses ss n) × Later l.g x.g
  unfolding store_all completes
  live_part e = live_after p h off v m.state m.inflight m.addresses ss n l (w ∷ []) vi l.g tie₁ l.a l.c M l.T st₁ fl m.addresses ss (later_same l.g)
      (landing_step l.T)
      (landed_rel p h v₀ st fl M l.rel d s i o A.drive A.low A.used? A.number oe wide e)
      l.reached.logged
      (λ j b q. let k : Waiting p st M (l.T.log j) (send_at ss j).stripe × InV (l.T.log j) l.g.sent × (l.T.pos (l.T.log j).stamp ≡ j) = l.waits j b q in
      (landed_waits p h v₀ st fl M l.rel d s i o A.drive A.low A.used? A.number oe wide (l.T.log j) (send_at ss j).stripe k.0, k.1, k.2))
      l.reached.marked l.reached.still (table_grown p h off l.g v₀ vi m.addresses grew_u l.table)

  -- ---- complete

  module _ (done : completes p m.state (slot_of m.state s) d ≡ true) where
    done' : eqb (ones (landed_mask st i d)) p.N ≡ true
    done' = unfold completes in done

    abbrev st₂ : State
    st₂ = free_stripe st₁ i

    all_on_u : (e : ℕ) → e < p.N → (x : Val) × InI (chunk s x) (vi e M.zone)
    all_on_u e el = all_on p h v₀ st fl M l.rel d s i o A.drive A.low A.used? A.number oe wide done' e el

    abbrev g₂ : Ghost
    g₂ = with_base l.g (ack_base p h off l.g vi l.a l.c M l.T ss st s (land_flies p h off v m ss n l fits d s A) all_on_u l.waits filled_most)

    abbrev a₂ : List Val
    a₂ = acked_to l.T ss s l.a (length ss)

    later₂ : Later l.g g₂
    later₂ = record { un = refl; last = refl; sent = λ x k. k }

    go₂ : Go (par_of p h off) (mst l.g v₀ l.a l.c (run M)) (mst g₂ vi a₂ l.c (run (ended M s))) l.T l.T
    go₂ =
        go_then (par_of p h off) (mst l.g v₀ l.a l.c (run M)) (mst l.g vi l.a l.c (run M)) (mst g₂ vi a₂ l.c (run (ended M s))) l.T l.T l.T
        (landing_step l.T)
        (ack_go p h off l.g vi l.a l.c M l.T ss st s (land_flies p h off v m ss n l fits d s A) all_on_u l.waits filled_most)

    -- ---- the table
    abbrev tb₂ : List ℕ
    tb₂ = pointed p u m.addresses (landed_cands p u z st₁ i) (landed_cands p u z st₁ i) m.addresses

    bits : (e : ℕ) → e < p.N → Off (vi e M.zone) (suc (offset_in st₁ i e)) (chunk s (M.F s e))
    bits e el = bit_on p h v₀ st fl M l.rel d s i o A.drive A.low A.used? A.number oe wide e el
        (mask_full p h v₀ st fl M l.rel d s i o A.drive A.low A.used? A.number oe wide done' e el)

    -- the parity has landed, so all positions are filled
    filled-all : filled_in_of st i ≡ data_count p
    filled-all =
        let q : parity_drive p s < p.N = parity_on p h s in
        let b : (eqb (parity_drive p s) d || is_in (landed_in st i) (parity_drive p s)) ≡ true =
        sym (mask_bit p h v₀ st fl M l.rel d s i o A.drive A.low A.used? A.number oe wide (parity_drive p s) q)
        ∙ mask_full p h v₀ st fl M l.rel d s i o A.drive A.low A.used? A.number oe wide done' (parity_drive p s) q in
        let r : ready_at p s (filled_in_of st i) (parity_drive p s) ≡ true = ⊎_elim
        (λ (e : eqb (parity_drive p s) d ≡ true). ap (ready_at p s (filled_in_of st i)) (eqb-true (parity_drive p s) d e) ∙ A.may)
        (λ (e : is_in (landed_in st i) (parity_drive p s) ≡ true). old q e) (or_either (eqb (parity_drive p s) d) (is_in (landed_in st i) (parity_drive p s)) b) in
        let f : data_count p ≤ filled_in_of st i = leb-true (data_count p) (filled_in_of st i) (sym (ready-parity p s (filled_in_of st i)) ∙ r) in
        omega (arith, f, filled_most i A.low A.used?)
      where
        old : parity_drive p s < p.N → is_in (landed_in st i) (parity_drive p s) ≡ true → ready_at p s (filled_in_of st i) (parity_drive p s) ≡ true
        old q e = subst (λ (x : ℕ). ready_at p x (filled_in_of st i) (parity_drive p s) ≡ true) A.number
            (sym ((l.rel.slot i A.low A.used?).may (parity_drive p s) q)
            ∙ landed_may p h off l.g v₀ st fl M (in_use_of st) inv_land.mode l.rel i A.low A.used? (parity_drive p s) q e)

    entries : (j : ℕ) → j < data_count p → ((M.F s (data_drive p s j)).addr ≡ (entry_in_of st₁ i j).address) × ((M.F s (data_drive p s j)).stamp ≡ (entry_in_of st₁ i j).stamp)
    entries j b =
        let e : M.F s (data_drive p s j) ≡ value_of (slot_block p fl i (data_drive p s j)) (entry_in_of st i j) = (land_held p h off v m ss n l fits d s A j (omega (arith, filled-all))).0 in
        let f : entry_in_of st₁ i j ≡ entry_in_of st i j = land_entry st l.rel.long i d o A.low (omega (arith, A.drive, h.drives_high)) i j in (
          ap (λ (x : Val). x.addr) e ∙ value_addr (slot_block p fl i (data_drive p s j)) (entry_in_of st i j) ∙ ap (λ (x : Rec). x.address) (sym f),
          ap (λ (x : Val). x.stamp) e ∙ value_stamp (slot_block p fl i (data_drive p s j)) (entry_in_of st i j) ∙ ap (λ (x : Rec). x.stamp) (sym f),
        )

    landed-counts : (e : ℕ) → e < p.N → e ≢ parity_drive p s → (c : Counted (par_of p h off) l.g.hd vi l.g.un (M.F s e)) × (c.z ≡ M.zone)
    landed-counts e el np = (
      record {
        z = M.zone;
        s = s;
        f = M.F s;
        rem = record {
          left = left;
          own =
              λ x k q. pair_alone (sym (I₁.facts.swap.one M.zone x (used (par_of p h off) l.g vi l.g.un M.zone (self_none (par_of p h off) l.g.un land-none?) left)
              (used (par_of p h off) l.g vi l.g.un x (self_none (par_of p h off) l.g.un land-none?) k) q)
              ∙ I₁.mode.no_pair);
        };
        st = record { on = λ x b k. off_in (vi x M.zone) (suc (offset_in st₁ i x)) (chunk s (M.F s x)) (bits x b); word = (land_flight p h off v m ss n l fits d s A).2.word };
        dt = record { d = e; lt = el; data? = apart_code p h s e np; val = refl };
      },
      refl,
    )
      where
        left : L (par_of p h off) vi l.g.un M.zone
        left = I₁.mode.begun (land_open p h off v m ss n l fits d s A)

    table₂ : TableOk p h off g₂ vi tb₂
    table₂ = table_done p h off l.g u vi drives_u land-none? v₀ grew_u m.addresses whole-table l.table st₁ i z M.zone s (M.F s) zin land_lies
        (land_filled st l.rel.long i d o A.low (omega (arith, A.drive, h.drives_high)) i ∙ filled-all)
        (land_number st l.rel.long i d o A.low (omega (arith, A.drive, h.drives_high)) i ∙ A.number) entries bits landed-counts

    -- ---- the sends
    -- where nothing is counted, none of this stripe waits
    none_waits : writes_in st i ≡ 0 → (j : ℕ) → j < length ss → (send_at ss j).waits ≡ true → (send_at ss j).stripe ≢ s
    none_waits e j b q n =
        let k : Waiting p st M (l.T.log j) (send_at ss j).stripe = (l.waits j b q).0 in
        let x : k.i ≡ i = l.rel.once k.i i k.lt A.low k.in_use_of? A.used? (k.number ∙ n ∙ sym A.number) in
        let y : 0 < writes_in st i = write_counts st i k.k (subst (λ (t : ℕ). k.k < filled_in_of st t) x k.filled) (subst (λ (t : ℕ). is_write st t k.k ≡ true) x k.write) in
        let f : ⊥ = omega arith in f

    logged₂ : Logged p a₂ l.T (land_sends p st d s ss)
    logged₂ = go (test (ltb 0 (writes_in st i)))
      where
        go : Test (ltb 0 (writes_in st i)) → Logged p a₂ l.T (land_sends p st d s ss)
        go (yes! e) = subst (Logged p a₂ l.T) (sym (sends-acked p st d s ss done e))
            (ack_logged l.T ss s l.a p l.reached.logged (λ j b q x. (l.waits j b q).2))
        go (no! e) = subst (Logged p a₂ l.T) (sym (sends_as_were p st d s ss done e)) (record {
          count = l.reached.logged.count;
          same = l.reached.logged.same;
          acks =
              λ j b q. let k : InV (l.T.log j) l.a
              × (l.T.pos (l.T.log j).stamp ≡ j) = l.reached.logged.acks j b q in
              (acked_old l.T ss s l.a (length ss) (l.T.log j) k.0, k.1);
        })

    length₂ : length (land_sends p st d s ss) ≡ length ss
    length₂ = unfold land_sends in go (ltb 0 (land_count p st d s))
      where
        go : (b : Bool) → length (cond b (map (acknowledge s) ss) ss) ≡ length ss
        go true = length_ack s ss
        go false = refl

    -- what waits afterwards waited before, in another stripe
    still_waits : (j : ℕ) → j < length (land_sends p st d s ss) → (send_at (land_sends p st d s ss) j).waits ≡ true
        → (j < length ss) × ((send_at ss j).waits ≡ true) × ((send_at ss j).stripe ≢ s) × ((send_at (land_sends p st d s ss) j).stripe ≡ (send_at ss j).stripe)
    still_waits = go (test (ltb 0 (writes_in st i)))
      where
        go : Test (ltb 0 (writes_in st i)) → (j : ℕ) → j < length (land_sends p st d s ss) → (send_at (land_sends p st d s ss) j).waits ≡ true
            → (j < length ss) × ((send_at ss j).waits ≡ true) × ((send_at ss j).stripe ≢ s) × ((send_at (land_sends p st d s ss) j).stripe ≡ (send_at ss j).stripe)
        go (yes! e) =
            subst (λ (y : List Send). (j : ℕ)
            → j < length y
            → (send_at y j).waits ≡ true
            → (j < length ss) × ((send_at ss j).waits ≡ true) × ((send_at ss j).stripe ≢ s) × ((send_at y j).stripe ≡ (send_at ss j).stripe))
            (sym (sends-acked p st d s ss done e)) (ack_waits l.T ss s l.a)
        go (no! e) =
            subst (λ (y : List Send). (j : ℕ)
            → j < length y
            → (send_at y j).waits ≡ true
            → (j < length ss) × ((send_at ss j).waits ≡ true) × ((send_at ss j).stripe ≢ s) × ((send_at y j).stripe ≡ (send_at ss j).stripe))
            (sym (sends_as_were p st d s ss done e))
            (λ j b q. (b, q, none_waits (let x : writes_in st i ≤ 0 = ltb-false 0 (writes_in st i) e in omega arith) j b q, refl))

    -- ---- another stripe begins or is in flight
    live_done : (M.next ≡ p.S → (j : ℕ) × (j < 8) × (in_use_of st j ≡ true) × (j ≢ i))
        → (x : Live p h off (store_all store_view_of (w ∷ []) v) st₂ fl tb₂ (land_sends p st d s ss) n)
        × Later l.g x.g
    unfolding store_all
    live_done more = live_after p h off v m.state m.inflight m.addresses ss n l (w ∷ []) vi g₂ tie₁ a₂ l.c (ended M s) l.T st₂ fl tb₂ (land_sends p st d s ss) later₂ go₂
        (ended_rel p h v₀ st fl M l.rel d s i o A.drive A.low A.used? A.number oe wide done' more)
        logged₂
        (λ j b q. let k : (j < length ss) × ((send_at ss j).waits ≡ true) × ((send_at ss j).stripe ≢ s)
        × ((send_at (land_sends p st d s ss) j).stripe ≡ (send_at ss j).stripe) = still_waits j b q in
        let y : Waiting p st M (l.T.log j) (send_at ss j).stripe × InV (l.T.log j) l.g.sent × (l.T.pos (l.T.log j).stamp ≡ j) = l.waits j k.0 k.1 in (
          subst (λ (t : ℕ). Waiting p st₂ (ended M s) (l.T.log j) t) (sym k.3)
              (ended_waits p h v₀ st fl M l.rel d s i o A.drive A.low A.used? A.number oe wide done' (l.T.log j) (send_at ss j).stripe k.2 y.0),
          y.1,
          y.2,
        ))
        (omega (arith, l.reached.marked, length₂)) (λ e. l.reached.still (sym length₂ ∙ e)) table₂

    -- ---- the last stripe: footers, and the segment is sealed
    module _ (last : seals p m.state (slot_of m.state s) d ≡ true) (ends : l.M.next ≡ p.S) (lone : (j : ℕ) → j < 8 → in_use_of m.state j ≡ true → j ≡ slot_of m.state s) where
      room_u : (x : ℕ) → x < p.N → pointer_at v x (zone_on z x) + cond (eqb x d) 1 0 ≤ suc p.S
      unfolding capacity
      room_u x b =
          let k : pointer_at v x (zone_on z x) + cond (eqb x d) 1 0 + footers p ≤ capacity p =
          subst (λ (y : Seg). pointer_at v x (zone_on y x) + cond (eqb x d) 1 0 + footers p ≤ capacity p) (land_zone p h off v m ss n l fits d s A)
          (A.room last x b) in
          omega (arith, k)

      landed_pointer : (x : ℕ) → x < p.N → pointer_at u x (zone_on z x) ≡ pointer_at v x (zone_on z x) + cond (eqb x d) 1 0
      landed_pointer x b = go (ℕ_discrete x d)
        where
          go : Dec (x ≡ d) → pointer_at u x (zone_on z x) ≡ pointer_at v x (zone_on z x) + cond (eqb x d) 1 0
          go (yes e) =
              let k : pointer_at u d (zone_on z d) ≡ suc (pointer_at v d (zone_on z d)) = unfold pointer_at store_view_of put_zone in
              ap (λ (q : Zone). q.pointer) (zone_set_at p v l.reached.tie.shape d (zone_on z d) (put_zone (slot_block p fl i d) (record_bytes (flight_rec p st i d)) (zone_at v d (zone_on z d)))
              A.drive
              (zin d A.drive)) in
              let f : ◌≡◌ {A = ℕ} (cond (eqb x d) 1 0) 1 = cond_true (eqb x d) 1 0 (eq-eqb x d e) in
              let a : pointer_at u x (zone_on z x) ≡ pointer_at u d (zone_on z d) = ap (λ (y : ℕ). pointer_at u y (zone_on z y)) e in
              let c : pointer_at v x (zone_on z x) ≡ pointer_at v d (zone_on z d) = ap (λ (y : ℕ). pointer_at v y (zone_on z y)) e in
              omega (arith, k, f, a, c)
          go (no e) =
              let k : pointer_at u x (zone_on z x) ≡ pointer_at v x (zone_on z x) = unfold pointer_at store_view_of in
              ap (λ (q : Zone). q.pointer) (zone_set_else p v l.reached.tie.shape d (zone_on z d) (put_zone (slot_block p fl i d) (record_bytes (flight_rec p st i d)) (zone_at v d (zone_on z d)))
              A.drive x (zone_on z x) (inl e)) in
              let f : ◌≡◌ {A = ℕ} (cond (eqb x d) 1 0) 0 = cond_false (eqb x d) 1 0 (ne_eqb x d e) in
              omega (arith, k, f)

      len_u : (x : ℕ) → x < p.N → length (vi x M.zone) ≡ pointer_at u x (zone_on z x)
      len_u x b = ap length (sym there.items) ∙ zone_len_holds p h off l.g u vi drives_u x (l.g.hd.zn M.zone x) b trust there.low there.good ∙ ap (pointer_at u x) (sym (land_lies x b))
        where
          trust : l.g.un x ≡ false
          trust = live_trust p h off v m.state m.inflight m.addresses ss n l x b

          there : On p h off l.g u vi drives_u x M.zone
          there = is_on p h off l.g u vi drives_u x M.zone b trust (I₁.mode.begun (land_open p h off v m ss n l fits d s A) x b trust)

      -- every stripe is on every drive
      every : (x : ℕ) → x < p.N → (t : ℕ) → t < p.S → (y : Val) × InI (chunk t y) (vi x M.zone)
      every x b t tl = go (ℕ_discrete t s)
        where
          go : Dec (t ≡ s) → (y : Val) × InI (chunk t y) (vi x M.zone)
          go (yes e) = let k : (y : Val) × InI (chunk s y) (vi x M.zone) = all_on_u x b in (k.0, subst (λ (r : ℕ). InI (chunk r k.0) (vi x M.zone)) (sym e) k.1)
          go (no e) =
              let f : M.fly t ≡ false = sym (set_at_else M.fly s false t e) ∙ sealed-idle p h v₀ st fl M l.rel d s i o A.drive A.low A.used? A.number oe wide done' lone t in
              let k : (y : Val) × InI (chunk t y) (v₀ x M.zone) = l.rel.whole (land_open p h off v m ss n l fits d s A) t (omega (arith, tl, ends)) f x b in
              (k.0, in_fwd v₀ d M.zone (chunk s (M.F s d)) (chunk t k.0) x M.zone k.1)

      at_end : (x : ℕ) → x < p.N → pointer_at u x (zone_on z x) ≡ suc p.S
      at_end x b =
          let k : p.S < length (vi x M.zone) =
          all_stripes (par_of p h off) l.g x M.zone (vi x M.zone) (I₁.facts.zones x M.zone (b, live_trust p h off v m.state m.inflight m.addresses ss n l x b))
          (I₁.mode.begun (land_open p h off v m ss n l fits d s A) x b (live_trust p h off v m.state m.inflight m.addresses ss n l x b)) (every x b) in
          omega (arith, k, len_u x b, landed_pointer x b, room_u x b)

      len_end : (x : ℕ) → x < p.N → length (vi x M.zone) ≡ suc p.S
      len_end x b = len_u x b ∙ at_end x b

      abbrev fs : List Store
      fs = seal_stores p u z

      abbrev fi : List ItemStore
      fi = seal_items p l.M.zone

      abbrev u₃ : View
      u₃ = store_all store_view_of fs u

      abbrev vi₃ : ItemView
      vi₃ = apply_all vi fi

      chain : (g : Ghost) → ((x : ℕ) → x < p.N → zone_on z x ≡ g.hd.zn M.zone x) → (a : List Val) (N : Mem)
          → Chain p h off g a l.c (run N) u vi fs fi × Footed p h off M.zone z zin u vi at_end len_end every p.N 0 u₃ vi₃
      chain g x a N = seal_chain p h off M.zone z zin u vi at_end len_end every g x a l.c N shape_u

      chain₃ : Chain p h off l.g l.a l.c (run M) v v₀ (w ∷ fs) (wi ∷ fi)
      unfolding apply
      chain₃ = (land_sound p h off v m ss n l fits d s A, landed_item p h off v m ss n l fits d s A, landing_step, (chain l.g land_lies l.a M).0)

      follows₃ : Follows p l.g.hd v (w ∷ fs) (wi ∷ fi)
      follows₃ = chain_follows p h off l.g l.a l.c (run M) v v₀ (w ∷ fs) (wi ∷ fi) chain₃

      segs₃ : AllS (λ (x : ItemStore). Used (par_of p h off) l.g.un l.u (store_seg x)) (wi ∷ fi)
      unfolding store_seg
      segs₃ = (in_use, seal_segs p M.zone (Used (par_of p h off) l.g.un l.u) in_use)

      sound₃ : AllSound p v (w ∷ fs)
      sound₃ = follows₃.sound

      cut₃ : (k : ℕ) → (x : Stopped p h off (store_all store_view_of (take k (w ∷ fs)) v) (map forget ss) n) × Later l.g x.g
      cut₃ k = live_cut p h off v m.state m.inflight m.addresses ss n l (w ∷ fs) k (apply_all v₀ (take k (wi ∷ fi))) l.g
          (live_tie_cut p h off v m.state m.inflight m.addresses ss n l (w ∷ fs) (wi ∷ fi) follows₃ segs₃ k)
          (later_same l.g) (chain_cut p h off l.g l.a l.c (run M) v v₀ (w ∷ fs) (wi ∷ fi) k l.T chain₃)

      tie₃ : Tie p h off l.g.un l.g.hd (store_all store_view_of (w ∷ fs) v) vi₃
      unfolding apply_all apply
      tie₃ = live_tie p h off v m.state m.inflight m.addresses ss n l (w ∷ fs) (wi ∷ fi) follows₃ segs₃

      go₃ : Go (par_of p h off) (mst l.g v₀ l.a l.c (run M)) (mst g₂ vi₃ a₂ l.c (run (ended M s))) l.T l.T
      go₃ =
          go_then (par_of p h off) (mst l.g v₀ l.a l.c (run M)) (mst g₂ vi a₂ l.c (run (ended M s))) (mst g₂ vi₃ a₂ l.c (run (ended M s))) l.T
          l.T l.T go₂
          (chain_go p h off g₂ a₂ l.c (run (ended M s)) u vi fs fi l.T (chain g₂ land_lies a₂ (ended M s)).0)

      I₃ : Inv (par_of p h off) (mst g₂ vi₃ a₂ l.c (run (ended M s)))
      I₃ = go_inv (par_of p h off) (mst l.g v₀ l.a l.c (run M)) (mst g₂ vi₃ a₂ l.c (run (ended M s))) l.T l.T go₃ inv_land

      none_ragged : (y : ℕ) → Ragged (par_of p h off) g₂.un vi₃ y → ⊥
      none_ragged y (x, t, a, b) =
          let e : y ≡ M.zone = (I₃.mode.lone y (x, t, a, b)).1 in
          let k : length (vi₃ x M.zone) ≡ capacity p = (chain g₂ land_lies a₂ (ended M s)).1.full x t.0 in
          let f : length (vi₃ x y) ≡ length (vi₃ x M.zone) = ap (λ (q : ℕ). length (vi₃ x q)) e in
          let q : ⊥ = omega (arith, b, k, f) in q

      live_seal : (x : Live p h off (store_all store_view_of (w ∷ fs) v) (set_closed st₂) fl tb₂ (land_sends p st d s ss) n) × Later l.g x.g
      unfolding store_all
      live_seal =
          live_after p h off v m.state m.inflight m.addresses ss n l (w ∷ fs) vi₃ g₂ tie₃ a₂ l.c (shut (ended M s)) l.T (set_closed st₂) fl tb₂
          (land_sends p st d s ss) later₂
          (go_more (par_of p h off) (mst l.g v₀ l.a l.c (run M)) (mst g₂ vi₃ a₂ l.c (run (ended M s)))
          (mst g₂ vi₃ a₂ l.c (run (shut (ended M s)))) l.T l.T go₃
          (seal (mst g₂ vi₃ a₂ l.c (run (ended M s))) (ended M s) refl none_ragged
          (sealed-idle p h v₀ st fl M l.rel d s i o A.drive A.low A.used? A.number oe wide done' lone)))
          (sealed_rel p h v₀ st fl M l.rel d s i o A.drive A.low A.used? A.number oe wide done' vi₃ lone)
          logged₂
          (λ j b q. let k : (j < length ss) × ((send_at ss j).waits ≡ true) × ((send_at ss j).stripe ≢ s)
          × ((send_at (land_sends p st d s ss) j).stripe ≡ (send_at ss j).stripe) = still_waits j b q in
          let y : Waiting p st M (l.T.log j) (send_at ss j).stripe = (l.waits j k.0 k.1).0 in
          absurd (k.2 (sym y.number ∙ ap (stripe_in st) (lone y.i y.lt y.in_use_of?) ∙ A.number)))
          (omega (arith, l.reached.marked, length₂)) (λ e. l.reached.still (sym length₂ ∙ e))
          (table_grown p h off g₂ vi vi₃ tb₂ (chain g₂ land_lies a₂ (ended M s)).1.grew table₂)

  -- ---- the plan

  abbrev q : Plan
  q = land_plan p v m d s

  same_seg_holds : open_segment p v st ≡ z
  same_seg_holds = land_zone p h off v m ss n l fits d s A

  land_plan_stores : q.stores ≡ land_store p v m d s ∷ cond (seals p st i d) (seal_stores p (store_view_of (land_store p v m d s) v) (open_segment p v st)) []
  unfolding land_plan
  land_plan_stores = refl

  plan-state :
      q.memory.state
      ≡ cond (seals p st i d) (set_closed (cond (completes p st i d) (free_stripe (mark_landed st i d (pointer_at v d (zone_on (open_segment p v st) d) - 1)) i)
      (mark_landed st i d (pointer_at v d (zone_on (open_segment p v st) d) - 1))))
      (cond (completes p st i d) (free_stripe (mark_landed st i d (pointer_at v d (zone_on (open_segment p v st) d) - 1)) i)
      (mark_landed st i d (pointer_at v d (zone_on (open_segment p v st) d) - 1)))
  unfolding land_plan
  plan-state = refl

  plan_inflight : q.memory.inflight ≡ fl
  unfolding land_plan
  plan_inflight = refl

  plan_addresses : q.memory.addresses ≡ cond (completes p st i d) (pointed p (store_view_of (land_store p v m d s) v) m.addresses
      (landed_cands p (store_view_of (land_store p v m d s) v) (open_segment p v st) (mark_landed st i d (pointer_at v d (zone_on (open_segment p v st) d) - 1)) i)
      (landed_cands p (store_view_of (land_store p v m d s) v) (open_segment p v st) (mark_landed st i d (pointer_at v d (zone_on (open_segment p v st) d) - 1)) i) m.addresses) m.addresses
  unfolding land_plan
  plan_addresses = refl

  addresses_same : completes p st i d ≡ false → q.memory.addresses ≡ m.addresses
  addresses_same e = plan_addresses ∙ cond_false (completes p st i d) (pointed p (store_view_of (land_store p v m d s) v) m.addresses
      (landed_cands p (store_view_of (land_store p v m d s) v) (open_segment p v st) (mark_landed st i d (pointer_at v d (zone_on (open_segment p v st) d) - 1)) i)
      (landed_cands p (store_view_of (land_store p v m d s) v) (open_segment p v st) (mark_landed st i d (pointer_at v d (zone_on (open_segment p v st) d) - 1)) i) m.addresses) m.addresses e

  addresses_done : completes p st i d ≡ true → q.memory.addresses ≡ pointed p u m.addresses (landed_cands p u z st₁ i) (landed_cands p u z st₁ i) m.addresses
  addresses_done e = plan_addresses ∙ cond_true (completes p st i d) (pointed p (store_view_of (land_store p v m d s) v) m.addresses
      (landed_cands p (store_view_of (land_store p v m d s) v) (open_segment p v st) (mark_landed st i d (pointer_at v d (zone_on (open_segment p v st) d) - 1)) i)
      (landed_cands p (store_view_of (land_store p v m d s) v) (open_segment p v st) (mark_landed st i d (pointer_at v d (zone_on (open_segment p v st) d) - 1)) i) m.addresses) m.addresses e
      ∙ (λ j. pointed p (store_view_of (land_store_is p h off v m ss n l fits d s A j) v) m.addresses
      (landed_cands p (store_view_of (land_store_is p h off v m ss n l fits d s A j) v) (same_seg_holds j) (mark_landed st i d (plan_o j)) i)
      (landed_cands p (store_view_of (land_store_is p h off v m ss n l fits d s A j) v) (same_seg_holds j) (mark_landed st i d (plan_o j)) i) m.addresses)

  stores_one : seals p st i d ≡ false → q.stores ≡ w ∷ []
  stores_one e = land_plan_stores ∙ ap₂ (λ (x : Store) (y : List Store). x ∷ y) (land_store_is p h off v m ss n l fits d s A)
      (cond_false (seals p st i d) (seal_stores p (store_view_of (land_store p v m d s) v) (open_segment p v st)) [] e)

  stores_all_of : seals p st i d ≡ true → q.stores ≡ w ∷ seal_stores p u z
  stores_all_of e = land_plan_stores ∙ ap₂ (λ (x : Store) (y : List Store). x ∷ y) (land_store_is p h off v m ss n l fits d s A)
      (cond_true (seals p st i d) (seal_stores p (store_view_of (land_store p v m d s) v) (open_segment p v st)) [] e
      ∙ ap₂ (λ (x : Store) (y : Seg). seal_stores p (store_view_of x v) y) (land_store_is p h off v m ss n l fits d s A) same_seg_holds)

  state_part : completes p st i d ≡ false → seals p st i d ≡ false → q.memory.state ≡ st₁
  state_part e f = plan-state
      ∙ cond_false (seals p st i d) (set_closed (cond (completes p st i d)
      (free_stripe (mark_landed st i d (pointer_at v d (zone_on (open_segment p v st) d) - 1)) i)
      (mark_landed st i d (pointer_at v d (zone_on (open_segment p v st) d) - 1))))
      (cond (completes p st i d) (free_stripe (mark_landed st i d (pointer_at v d (zone_on (open_segment p v st) d) - 1)) i)
      (mark_landed st i d (pointer_at v d (zone_on (open_segment p v st) d) - 1))) f
      ∙ cond_false (completes p st i d) (free_stripe (mark_landed st i d (pointer_at v d (zone_on (open_segment p v st) d) - 1)) i)
      (mark_landed st i d (pointer_at v d (zone_on (open_segment p v st) d) - 1)) e
      ∙ ap (mark_landed st i d) plan_o

  land_state : completes p st i d ≡ true → seals p st i d ≡ false → q.memory.state ≡ free_stripe st₁ i
  land_state e f = plan-state
      ∙ cond_false (seals p st i d) (set_closed (cond (completes p st i d)
      (free_stripe (mark_landed st i d (pointer_at v d (zone_on (open_segment p v st) d) - 1)) i)
      (mark_landed st i d (pointer_at v d (zone_on (open_segment p v st) d) - 1))))
      (cond (completes p st i d) (free_stripe (mark_landed st i d (pointer_at v d (zone_on (open_segment p v st) d) - 1)) i)
      (mark_landed st i d (pointer_at v d (zone_on (open_segment p v st) d) - 1))) f
      ∙ cond_true (completes p st i d) (free_stripe (mark_landed st i d (pointer_at v d (zone_on (open_segment p v st) d) - 1)) i)
      (mark_landed st i d (pointer_at v d (zone_on (open_segment p v st) d) - 1)) e
      ∙ ap (λ (x : ℕ). free_stripe (mark_landed st i d x) i) plan_o

  state_sealed : completes p st i d ≡ true → seals p st i d ≡ true → q.memory.state ≡ set_closed (free_stripe st₁ i)
  state_sealed e f = plan-state
      ∙ cond_true (seals p st i d) (set_closed (cond (completes p st i d)
      (free_stripe (mark_landed st i d (pointer_at v d (zone_on (open_segment p v st) d) - 1)) i)
      (mark_landed st i d (pointer_at v d (zone_on (open_segment p v st) d) - 1))))
      (cond (completes p st i d) (free_stripe (mark_landed st i d (pointer_at v d (zone_on (open_segment p v st) d) - 1)) i)
      (mark_landed st i d (pointer_at v d (zone_on (open_segment p v st) d) - 1))) f
      ∙ ap set_closed (cond_true (completes p st i d) (free_stripe (mark_landed st i d (pointer_at v d (zone_on (open_segment p v st) d) - 1)) i)
      (mark_landed st i d (pointer_at v d (zone_on (open_segment p v st) d) - 1)) e
      ∙ ap (λ (x : ℕ). free_stripe (mark_landed st i d x) i) plan_o)

  -- ---- which of the three
  seals_is : seals p st i d ≡ (completes p st i d && eqb st.next p.S && eqb (length (in_flight st)) 1)
  unfolding seals
  seals_is = refl

  counted : 0 < length (in_flight st)
  counted = go (in_flight st) (unfold in_flight in has_keep (λ j. not (is_free st j)) i slots (has_slot i A.low) (unfold in_use_of in A.used?))
    where
      go : (y : List ℕ) → Has i y → 0 < length y
      go [] k = absurd k
      go (x ∷ y) k = omega arith

  another_flies : completes p st i d ≡ true → seals p st i d ≡ false → M.next ≡ p.S → (j : ℕ) × (j < 8) × (in_use_of st j ≡ true) × (j ≢ i)
  unfolding in_use_of in_flight slots slot_count
  another_flies e f k =
      let a : (completes p st i d && eqb st.next p.S) ≡ true = and_both (completes p st i d) (eqb st.next p.S) e
      (eq-eqb st.next p.S (sym (l.rel.next (land_open p h off v m ss n l fits d s A)) ∙ k)) in
      let b : length (in_flight st) ≢ 1 = eqb-false (length (in_flight st)) 1 (and_fails (completes p st i d && eqb st.next p.S) (eqb (length (in_flight st)) 1) (sym seals_is ∙ f) a) in
      let c : 2 ≤ length (in_flight st) = omega (arith, b, counted) in
      another_kept (λ j. not (is_free st j)) 8 i c

  only_one : seals p st i d ≡ true → (j : ℕ) → j < 8 → in_use_of st j ≡ true → j ≡ i
  unfolding in_use_of in_flight slots slot_count below
  only_one e j jl k =
      let a : length (in_flight st) ≡ 1 = eqb-true (length (in_flight st)) 1 (and_right (completes p st i d && eqb st.next p.S) (eqb (length (in_flight st)) 1) (sym seals_is ∙ e)) in
      lone_pass (λ j. not (is_free st j)) 0 8 a j i (has_up_from j 0 8 (omega arith) (omega arith)) (has_up_from i 0 8 (omega arith) (omega (arith, A.low))) k A.used?

  completed : seals p st i d ≡ true → (completes p st i d ≡ true) × (M.next ≡ p.S)
  completed e =
      let a : (completes p st i d && eqb st.next p.S) ≡ true = and_left (completes p st i d && eqb st.next p.S) (eqb (length (in_flight st)) 1) (sym seals_is ∙ e) in (
        and_left (completes p st i d) (eqb st.next p.S) a,
        l.rel.next (land_open p h off v m ss n l fits d s A) ∙ eqb-true st.next p.S (and_right (completes p st i d) (eqb st.next p.S) a),
      )

  pub land_ok : CallOk p h off l.g v (land_plan p v m d s) ss (land_sends p m.state d s ss) n
  land_ok = go (test (seals p st i d)) (test (completes p st i d))
    where
      go : Test (seals p st i d) → Test (completes p st i d) → CallOk p h off l.g v q ss (land_sends p st d s ss) n
      go (yes! e) t =
          let c : (completes p st i d ≡ true) × (M.next ≡ p.S) = completed e in
          call_as p h off l.g v q (w ∷ seal_stores p u z) (set_closed (free_stripe st₁ i)) fl (tb₂ c.0) ss (land_sends p st d s ss)
          (land_sends p st d s ss) n (stores_all_of e) (state_sealed c.0 e) plan_inflight (addresses_done c.0) refl
          (sound₃ c.0 e c.1 (only_one e)) (live_seal c.0 e c.1 (only_one e)) (cut₃ c.0 e c.1 (only_one e))
      go (no! e) (yes! c) =
          call_as p h off l.g v q (w ∷ []) (free_stripe st₁ i) fl (tb₂ c) ss (land_sends p st d s ss) (land_sends p st d s ss) n (stores_one e)
          (land_state c e) plan_inflight (addresses_done c) refl sound₁ (live_done c (another_flies c e)) cut₁
      go (no! e) (no! c) =
          call_as p h off l.g v q (w ∷ []) st₁ fl m.addresses ss (land_sends p st d s ss) ss n (stores_one e) (state_part c e) plan_inflight
          (addresses_same c) (sends_none p st d s ss c) sound₁ (live_part c) cut₁
