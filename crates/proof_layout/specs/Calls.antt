-- The layout is kept by every call that isn't a restart: refused ones leave all, the others store as the views say. Assumes nothing.
use Rattle.std.specs.Prelude.{◌≡◌, Bool, cond, ◌&&◌, length, replicate}
use Rattle.std.proofs.Math.Path.{refl, ap}
use Rattle.std.proofs.Common.{sym, ◌∙◌, subst, inl, inr, ⊎_elim, arith}
use mathlib.Core.List.{List, [], ◌∷◌, ◌++◌}
use Rattle.std.proofs.Math.Bool.{true, false}
use Prim.Native.Nat.{ℕ, zero, suc, ◌-◌, ◌^◌, ◌≤◌, ◌<◌}
use borrow.Author.Tests.{eq-eqb, eqb-true, eqb-false}
use Rattle.std.proofs.Math.Dec.{eqb}
use Rattle.spec.specs.Lists.Opt.{none}
use Rattle.spec.specs.declared.Params.{Params}
use Rattle.spec.specs.declared.State.{State}
use Rattle.spec.specs.declared.Answer.{Answer}
use Rattle.spec.specs.declared.Answer.TheVariants.{Rebuilt, Nothing}
use Rattle.spec.specs.Answers.{is_cut_of}
use Rattle.spec.specs.Calls.{Check, Plan, mk_plan, After, mk_after, first_refusal}
use Rattle.spec.specs.Closing.{padded, close_checks, close_plan, close_verdict}
use Rattle.spec.specs.Counts.{padding_address, last_count}
use Rattle.spec.specs.Drives.{Zone, View, zone_at, pointer_at, chunk_at, Store, store_view_of, Disk, store_disk, store_all, empty_count, new_seg}
use Rattle.spec.specs.Drives.{zone_on, sealed_in, header_stores, reset_stores}
use Rattle.spec.specs.Drives.Store.{put}
use Rattle.spec.specs.Engine.{store_count, lent_block, verdict, lent_ok_of, call_on, call_disk}
use Rattle.spec.specs.Engine.Call.{write, land, close, reclaim, read, fill, rebuild}
use Rattle.spec.specs.Landing.{slot_of, waiting, completes, seals, flight_rec, land_checks, seal_stores, land_store, land_plan, land_verdict}
use Rattle.spec.specs.Layout.{Rec, record_bytes}
use Rattle.spec.specs.Lists.{Opt, is_nil, first_or}
use Rattle.spec.specs.Memory.{Memory, filled_in_of, free_slot, filling_slot, has_filling, in_flight, set_stamp, set_open, set_closed, begin_stripe, add_entry, mark_landed, free_stripe, slot_block}
use Rattle.spec.specs.Params.{data_count, in_range, place_block, place_zone, place_drive, named}
use Rattle.spec.specs.Rebuild.{rebuild_checks, rebuild_stores, rebuild_verdict}
use Rattle.spec.specs.Reclaim.{Victim, victim, victim_segment, victim_live, idle, reclaim_checks, reset_plan, copy_plan, reclaim_verdict_in}
use Rattle.spec.specs.Segments.{remaining, Segment, segment_of, segments, open_segment, place_record}
use Rattle.spec.specs.Write.{opens, no_serial, placed, sending, opened_by, begun_by, write_checks, write_plan, write_verdict_in}
use Rattle.law_basic.specs.Geometry.{Ranged, ranged}
use Rattle.law_basic.specs.Ranges.{Test, test, and_left, and_right}
use Rattle.law_basic.specs.Ranges.Test.{yes!, no! }
use Rattle.law_basic.specs.Stores.{store_all-append}
use Rattle.law_checks.specs.Empty.{EmptyLeaves, empty_leaves}
use Rattle.law_checks.specs.Empty.EmptyLeaves.{as_close, as_refusal, as_idle}
use Rattle.law_checks.specs.Passed.{write_passed, land_passed, close_passed, ReclaimPassed, reclaim_passed, rebuild_passed}
use Rattle.law_drives.specs.Frame.{Agree, same_remaining, same_sealed, same_core, core}
use Rattle.law_drives.specs.Headers.{header_roomy, header_within, new_vacant, tidy_unborne}
use Rattle.law_drives.specs.Joins.{roomy_append, within_append, roomy_none, stores_none}
use Rattle.law_drives.specs.Lengths.{whole_of}
use Rattle.law_drives.specs.Masks.{named_in, named_some}
use Rattle.law_drives.specs.Members.{In}
use Rattle.law_drives.specs.Range.{capacity_word}
use Rattle.law_drives.specs.Rebuilding.{rebuild_roomy, rebuild_within, rebuild_agrees}
use Rattle.law_drives.specs.Resets.{reset_roomy, reset_within, tidy_alone}
use Rattle.law_drives.specs.Segs.{remaining-low}
use Rattle.law_drives.specs.Tests.{clash, cond_true, cond_false}
use Rattle.law_drives.specs.Tidy.{Tidy, There}
use Rattle.law_drives.specs.Zones.{Shaped, Within, Roomy, all_fit, shaped_after}
use Rattle.proof_tables.specs.Chunks.{chunk_roomy, all-behind, open_after, chunk_there}
use Rattle.proof_tables.specs.Going.{buffer_long}
use Rattle.proof_tables.specs.Landings.{LandWaits, land_waits}
use Rattle.proof_tables.specs.Outcomes.{EndedAs, outcome_ends, cut-cut}
use Rattle.proof_tables.specs.Outcomes.EndedAs.{ended-refused, ended_done, ended-cut}
use Rattle.proof_tables.specs.Reading.{read_idle, fill_idle}
use Rattle.proof_tables.specs.Reclaiming.{victim_taken}
use Rattle.proof_tables.specs.Run.{LostDrive, HealthyState, Well, Run}
use Rattle.proof_tables.specs.Sending.{plenty}
use Rattle.law_drives.specs.Spots.{SpotsApart}
use Rattle.proof_tables.specs.Sealing.{seal_roomy, seal_within}
use Rattle.proof_tables.specs.Theorem.{stepped}
use Rattle.law_views.specs.Views.{Whole, seen, view_stores}
use Rattle.law_drives.specs.Slots.{block_long! }
use Rattle.law_drives.specs.States.{StateOk, state_of_lem}
use Rattle.proof_layout.specs.Laid.{Laid, ZoneLaid, Zoned, WellLaid, laid_zoned, laid_accepted, laid_tidy, tidy_laid}
use Rattle.proof_layout.specs.Segments.{opened_laid, reset_laid, chunk_laid, seal_laid}
use Rattle.spec.specs.declared.Seg.{Seg}
use Rattle.law_basic.specs.Segs.{low_zone}
use Rattle.law_drives.specs.Settled.{its_zone, its_zones_low}
use Rattle.law_views.specs.Alike.{offline_after}

-- ---- what a call leaves

-- what is claimed of a call
abbrev pub KeepsLaid : Params → List ℕ → List Segment → After Disk → Type 0
KeepsLaid p off old r = Laid p (seen p off r.drives) r.memory.state.missing old

-- drives and memory as they were
pub same_keeps : (p : Params) (off : List ℕ) (k : Disk) (m : Memory) (old : List Segment) (r : After Disk) → Laid p (seen p off k) m.state.missing old
    → r.drives ≡ k → r.memory ≡ m → KeepsLaid p off old r
same_keeps p off k m old r l e f =
    subst (λ (x : Disk). Laid p (seen p off x) r.memory.state.missing old) (sym e) (subst (λ (x : Memory). Laid p (seen p off k) x.state.missing old) (sym f) l)

-- the view of the bytes after stores that fit
pub stored_view : (p : Params) (off : List ℕ) (k : Disk) (ss : List Store) → in_range p ≡ true → Whole p k → Shaped p (seen p off k) → Roomy p (seen p off k) ss
    → ((s : Store) → In s ss → Within p s) → seen p off (store_all (store_disk p) ss k) ≡ store_all store_view_of ss (seen p off k)
stored_view p off k ss ir w sh ro wi = view_stores p off k ss (capacity_word p (ranged p ir)) w (all_fit p (seen p off k) ss sh.sized wi ro)

-- with none missing the segments are tidy
pub run_tidy : (p : Params) (off : List ℕ) (k : Disk) (m : Memory) → Run p off k m → m.state.missing ≡ 0 → Tidy p (seen p off k) m.state.serial.0
run_tidy p off k m u e = ⊎_elim (λ (x : LostDrive p off k m). clash (eq-eqb (named x.which) 0 (sym x.names_it ∙ e)) (named_some p (ranged p u.base.ranged) x.which x.which_low))
    (λ (x : Well p off k m). x.healthy.tidy) u.mode

-- stores done with none missing, in a run that goes on
pub done_keeps : (p : Params) (off : List ℕ) (k : Disk) (m : Memory) (old : List Segment) (r : After Disk) (ss : List Store)
    → Run p off k m → Run p off r.drives r.memory → r.drives ≡ store_all (store_disk p) ss k → r.memory.state.missing ≡ 0
    → Roomy p (seen p off k) ss → ((s : Store) → In s ss → Within p s) → WellLaid p (store_all store_view_of ss (seen p off k)) old → KeepsLaid p off old r
done_keeps p off k m old r ss u u2 e mz ro wi l =
    let ev : seen p off r.drives ≡ store_all store_view_of ss (seen p off k) =
    ap (seen p off) e ∙ stored_view p off k ss u.base.ranged (whole_of p off k m u.base.lent) u.base.shaped ro wi in
    subst (λ (g : ℕ). Laid p (seen p off r.drives) g old) (sym mz)
    (laid_tidy p (ranged p u.base.ranged) (seen p off r.drives) r.memory.state.serial.0 (run_tidy p off r.drives r.memory u2 mz) old
    (subst (λ (v : View). WellLaid p v old) (sym ev) l))

-- ---- a drive is missing: the third check refuses

stopped_laid : (p : Params) (off : List ℕ) (k : Disk) (m : Memory) (cs : List Check) (q : Plan) (r : After Disk) (old : List Segment) → eqb m.state.missing 0 ≡ false
    → Laid p (seen p off k) m.state.missing old → EndedAs p k m cs q r → (first_refusal cs ≡ none → m.state.missing ≡ 0) → is_cut_of r.answer ≡ false → KeepsLaid p off old r
stopped_laid p off k m cs q r old ms l (ended-refused a e f g h) healthy nc = same_keeps p off k m old r l g h
stopped_laid p off k m cs q r old ms l (ended_done c f g h) healthy nc = clash (eq-eqb m.state.missing 0 (healthy c)) ms
stopped_laid p off k m cs q r old ms l (ended-cut c f) healthy nc = clash (ap is_cut_of f ∙ cut-cut) nc

module _ (p : Params) (off : List ℕ) (k : Disk) (m : Memory) (u : Run p off k m) (old : List Segment) (l : Laid p (seen p off k) m.state.missing old) where
  abbrev v : View
  v = seen p off k

  abbrev st : State
  st = m.state

  rg : Ranged p
  rg = ranged p u.base.ranged

  some_missing : LostDrive p off k m → eqb st.missing 0 ≡ false
  some_missing lo = ap (λ (x : ℕ). eqb x 0) lo.names_it ∙ named_some p rg lo.which lo.which_low

  well_laid : Well p off k m → WellLaid p v old
  well_laid we = tidy_laid p rg v st.serial.0 we.healthy.tidy old (subst (λ (g : ℕ). Laid p v g old) we.none_missing l)

  -- ---- a block sent

  abbrev headers : List Store
  headers = header_stores p (new_seg p v) (suc st.serial.0) 0

  sending_stores : (fl : List ℕ) (a t w : ℕ) (b : List ℕ) → (sending p v st fl a t w b).stores ≡ cond (opens p st) headers []
  sending_stores fl a t w b = unfold sending in refl

  sending_missing : (fl : List ℕ) (a t w : ℕ) (b : List ℕ) → (sending p v st fl a t w b).state.missing ≡ st.missing
  sending_missing fl a t w b = as! (begun (has_filling p st) (opens p st))
    where
      begun : (x y : Bool) → (cond x st (begin_stripe (cond y (set_open st (suc st.serial.0)) st) (free_slot st))).missing ≡ st.missing
      begun true y = refl
      begun false true = unfold begin_stripe set_open in refl
      begun false false = unfold begin_stripe in refl

      as! : (cond (has_filling p st) st (begin_stripe (cond (opens p st) (set_open st (suc st.serial.0)) st) (free_slot st))).missing ≡ st.missing
          → (sending p v st fl a t w b).state.missing ≡ st.missing
      as! e = unfold sending placed add_entry begun_by opened_by in e

  -- the stores fit, and leave the segments laid out
  abbrev Sent : List Store → Type 0
  Sent ss = Roomy p v ss × ((s : Store) → In s ss → Within p s) × WellLaid p (store_all store_view_of ss v) old

  sent-laid : Well p off k m → no_serial p st ≡ false → (opens p st ≡ true → 1 ≤ empty_count p v) → (ss : List Store) → ss ≡ cond (opens p st) headers [] → Sent ss
  sent-laid we ns ne ss e = subst (λ (x : List Store). Sent x) (sym e) (go (test (opens p st)))
    where
      sh : Shaped p v
      sh = u.base.shaped

      serial_next : opens p st ≡ true → suc st.serial.0 < 256 ^ 8
      serial_next q =
          let n : st.serial.0 ≡ last_count → ⊥ = eqb-false st.serial.0 last_count (no_serial_holds ns) in
          let k = we.healthy.serial_fits in
          omega arith
        where
          no_serial_holds : no_serial p st ≡ false → eqb st.serial.0 last_count ≡ false
          no_serial_holds x = unfold no_serial in (sym (ap (λ (c : Bool). c && eqb st.serial.0 last_count) q) ∙ x)

      go : Test (opens p st) → Sent (cond (opens p st) headers [])
      go (no! q) = subst (λ (x : List Store). Sent x) (sym (cond_false (opens p st) headers [] q))
          (roomy_none p v, λ s i. absurd i, subst (λ (x : View). WellLaid p x old) (sym (stores_none v)) (well_laid we))
      go (yes! q) = subst (λ (x : List Store). Sent x) (sym (cond_true (opens p st) headers [] q)) (
          let va = new_vacant p v (ne q) in
          let g = new_seg p v in
          let s = suc st.serial.0 in (
            header_roomy p rg v sh g s 0 va,
            header_within p rg v sh g s 0 va,
            opened_laid p rg v sh old g s va (serial_next q) (tidy_unborne p rg v st.serial.0 s we.healthy.tidy (omega arith)) (well_laid we),
          ))

  -- ---- write

  module _ (a x : ℕ) (more : List ℕ) (n : ℕ) where
    abbrev b : List ℕ
    b = x ∷ more

    abbrev wr : After Disk
    wr = call_disk p off k m (write a b n)

    write_ends : EndedAs p k m (write_checks p (lent_ok_of p off k m) v m a b) (write_plan p v m a b) wr
    unfolding call_disk call_on verdict store_count lent_block write_verdict_in
    write_ends = outcome_ends p k m (write_checks p (lent_ok_of p off k m) v m a b) (write_plan p v m a b) n b

    write_well : Well p off k m → is_cut_of wr.answer ≡ false → KeepsLaid p off old wr
    write_well we nc = go write_ends
      where
        parts : first_refusal (write_checks p (lent_ok_of p off k m) v m a b) ≡ none → (no_serial p st ≡ false) × (opens p st ≡ true → 1 ≤ empty_count p v)
        parts e = let c = write_passed p (lent_ok_of p off k m) v m a b e in (c.serial_left, λ q. plenty p v (cond (opens p st) 2 1) c.room)

        missing_is : (write_plan p v m a b).memory.state.missing ≡ (sending p v st m.inflight a (suc st.stamp.0) 1 b).state.missing
        missing_is = unfold write_plan set_stamp in refl

        stores_is : (write_plan p v m a b).stores ≡ (sending p v st m.inflight a (suc st.stamp.0) 1 b).stores
        stores_is = unfold write_plan in refl

        go : EndedAs p k m (write_checks p (lent_ok_of p off k m) v m a b) (write_plan p v m a b) wr → KeepsLaid p off old wr
        go (ended-refused x e f g h) = same_keeps p off k m old wr l g h
        go (ended_done c f g h) =
            let (ns, ne) = parts c in
            let (ro, wi, wl) = sent-laid we ns ne (write_plan p v m a b).stores (stores_is ∙ sending_stores m.inflight a (suc st.stamp.0) 1 b) in
            done_keeps p off k m old wr (write_plan p v m a b).stores u ((stepped p off k m u (write a b n)).1 nc) g
            (ap (λ (x : Memory). x.state.missing) h ∙ missing_is ∙ sending_missing m.inflight a (suc st.stamp.0) 1 b ∙ we.none_missing) ro wi wl
        go (ended-cut c f) = clash (ap is_cut_of f ∙ cut-cut) nc

    write_lost : LostDrive p off k m → is_cut_of wr.answer ≡ false → KeepsLaid p off old wr
    write_lost lo nc = stopped_laid p off k m _ _ wr old (some_missing lo) l write_ends (λ e. (write_passed p (lent_ok_of p off k m) v m a b e).healthy) nc

    -- 01, Write
    pub laid_write : is_cut_of wr.answer ≡ false → KeepsLaid p off old wr
    laid_write nc = ⊎_elim (λ x. write_lost x nc) (λ x. write_well x nc) u.mode

  -- ---- closing

  module _ (n : ℕ) where
    abbrev cl : After Disk
    cl = call_disk p off k m (close n)

    close_ends : EndedAs p k m (close_checks p (lent_ok_of p off k m) v m) (close_plan p m) cl
    unfolding call_disk call_on verdict store_count lent_block close_verdict
    close_ends = outcome_ends p k m (close_checks p (lent_ok_of p off k m) v m) (close_plan p m) n []

    padded_missing : (i x : ℕ) (su : State) (fl : List ℕ) → (padded p i x su fl).state.missing ≡ su.missing
    unfolding padded placed
    padded_missing i zero su fl = refl
    padded_missing i (suc x) su fl = padded_missing i x (add_entry su i padding_address 0 0) (placed p su fl i padding_address 0 0 (replicate p.B 0)).inflight ∙ same su
      where
        same : (su : State) → (add_entry su i padding_address 0 0).missing ≡ su.missing
        same su = unfold add_entry in refl

    close_well : Well p off k m → is_cut_of cl.answer ≡ false → KeepsLaid p off old cl
    close_well we nc = go close_ends
      where
        missing_is : (close_plan p m).memory.state.missing ≡ (padded p (filling_slot p st) (data_count p - filled_in_of st (filling_slot p st)) st m.inflight).state.missing
        missing_is = unfold close_plan in refl

        stores_is : (close_plan p m).stores ≡ []
        stores_is = unfold close_plan in refl

        go : EndedAs p k m (close_checks p (lent_ok_of p off k m) v m) (close_plan p m) cl → KeepsLaid p off old cl
        go (ended-refused x e f g h) = same_keeps p off k m old cl l g h
        go (ended_done c f g h) = done_keeps p off k m old cl [] u ((stepped p off k m u (close n)).1 nc) (g ∙ ap (λ (x : List Store). store_all (store_disk p) x k) stores_is)
            (ap (λ (x : Memory). x.state.missing) h ∙ missing_is ∙ padded_missing (filling_slot p st) (data_count p - filled_in_of st (filling_slot p st)) st m.inflight ∙ we.none_missing)
            (roomy_none p v) (λ s i. absurd i) (subst (λ (x : View). WellLaid p x old) (sym (stores_none v)) (well_laid we))
        go (ended-cut c f) = clash (ap is_cut_of f ∙ cut-cut) nc

    close_lost : LostDrive p off k m → is_cut_of cl.answer ≡ false → KeepsLaid p off old cl
    close_lost lo nc = stopped_laid p off k m _ _ cl old (some_missing lo) l close_ends (λ e. (close_passed p (lent_ok_of p off k m) v m e).healthy) nc

    -- 01, Closing
    pub laid_close : is_cut_of cl.answer ≡ false → KeepsLaid p off old cl
    laid_close nc = ⊎_elim (λ x. close_lost x nc) (λ x. close_well x nc) u.mode

    -- 02, item 1: a write of no bytes is a closing, or all stays
    pub laid_empty : (a : ℕ) → is_cut_of (call_disk p off k m (write a [] n)).answer ≡ false → KeepsLaid p off old (call_disk p off k m (write a [] n))
    laid_empty a nc = go (empty_leaves p off k m a n)
      where
        r : After Disk
        r = call_disk p off k m (write a [] n)

        stays : (y : Answer) → r ≡ mk_after y k m [] → KeepsLaid p off old r
        stays y e = same_keeps p off k m old r l (ap (λ (t : After Disk). t.drives) e) (ap (λ (t : After Disk). t.memory) e)

        go : EmptyLeaves p off k m a n → KeepsLaid p off old r
        go (as_close h low e) = subst (λ (t : After Disk). KeepsLaid p off old t) (sym e) (laid_close (ap (λ (t : After Disk). is_cut_of t.answer) (sym e) ∙ nc))
        go (as_refusal y c e) = stays y e
        go (as_idle c h e) = stays Nothing e

  -- ---- reads

  pub laid_read : (a : ℕ) → KeepsLaid p off old (call_disk p off k m (read a))
  laid_read a = let i = read_idle p off k m u.base a in same_keeps p off k m old (call_disk p off k m (read a)) l i.same_drives i.same_memory

  pub laid_fill : (a : ℕ) (b : List ℕ) → KeepsLaid p off old (call_disk p off k m (fill a b))
  laid_fill a b = let i = fill_idle p off k m u.base a b in same_keeps p off k m old (call_disk p off k m (fill a b)) l i.same_drives i.same_memory

  -- ---- reclaim

  module _ (n : ℕ) where
    abbrev rc : After Disk
    rc = call_disk p off k m (reclaim n)

    abbrev w : Opt Victim
    w = victim p v m.addresses

    abbrev place : ℕ
    place = first_or 0 (idle p v st w)

    abbrev rplan : Plan
    rplan = cond (is_nil (victim_live w)) (reset_plan p m (victim_segment w)) (copy_plan p v m place)

    reclaim_ends : EndedAs p k m (reclaim_checks p (lent_ok_of p off k m) v m w) rplan rc
    unfolding call_disk call_on verdict store_count lent_block reclaim_verdict_in
    reclaim_ends = outcome_ends p k m (reclaim_checks p (lent_ok_of p off k m) v m w) rplan n []

    reclaim_well : Well p off k m → is_cut_of rc.answer ≡ false → KeepsLaid p off old rc
    reclaim_well we nc = go reclaim_ends
      where
        parts : first_refusal (reclaim_checks p (lent_ok_of p off k m) v m w) ≡ none → ReclaimPassed p (lent_ok_of p off k m) v m w
        parts e = reclaim_passed p (lent_ok_of p off k m) v m w e

        reset_missing : (g : Seg) → (reset_plan p m g).memory.state.missing ≡ st.missing
        reset_missing g = unfold reset_plan in refl

        reset_stores_holds : (g : Seg) → (reset_plan p m g).stores ≡ reset_stores p g
        reset_stores_holds g = unfold reset_plan in refl

        copy_rec : ℕ → Rec
        copy_rec q = place_record p v 0 q

        copy_block : ℕ → List ℕ
        copy_block q = (chunk_at v (place_drive p q) (place_zone p q) (place_block p q)).block

        copy_missing : (q : ℕ) → (copy_plan p v m q).memory.state.missing ≡ (sending p v st m.inflight (copy_rec q).address (copy_rec q).stamp 0 (copy_block q)).state.missing
        copy_missing q = unfold copy_plan in refl

        copy_stores : (q : ℕ) → (copy_plan p v m q).stores ≡ (sending p v st m.inflight (copy_rec q).address (copy_rec q).stamp 0 (copy_block q)).stores
        copy_stores q = unfold copy_plan in refl

        done : Test (is_nil (victim_live w)) → ReclaimPassed p (lent_ok_of p off k m) v m w → rc.drives ≡ store_all (store_disk p) rplan.stores k → rc.memory ≡ rplan.memory
            → KeepsLaid p off old rc
        done (yes! q) c g h =
            let e : rplan ≡ reset_plan p m (victim_segment w) = cond_true (is_nil (victim_live w)) (reset_plan p m (victim_segment w)) (copy_plan p v m place) q in
            let hg = (victim_taken p v m.addresses c.taken).taken_low in
            let s = victim_segment w in
            done_keeps p off k m old rc (reset_stores p s) u ((stepped p off k m u (reclaim n)).1 nc)
            (g ∙ ap (λ (x : Plan). store_all (store_disk p) x.stores k) e ∙ ap (λ (x : List Store). store_all (store_disk p) x k) (reset_stores_holds s))
            (ap (λ (x : Memory). x.state.missing) h ∙ ap (λ (x : Plan). x.memory.state.missing) e ∙ reset_missing s ∙ we.none_missing)
            (reset_roomy p rg v u.base.shaped s (its_zones_low p rg v s hg)) (reset_within p rg v u.base.shaped s (its_zones_low p rg v s hg))
            (reset_laid p rg v u.base.shaped old s hg (tidy_alone p rg v st.serial.0 we.healthy.tidy s hg) (well_laid we))
        done (no! q) c g h =
            let e : rplan ≡ copy_plan p v m place = cond_false (is_nil (victim_live w)) (reset_plan p m (victim_segment w)) (copy_plan p v m place) q in
            let ne : opens p st ≡ true → 1 ≤ empty_count p v = λ z. plenty p v 1 (c.room q z) in
            let (ro, wi, wl) = sent-laid we (c.serial_left q) ne (copy_plan p v m place).stores
            (copy_stores place ∙ sending_stores m.inflight (copy_rec place).address (copy_rec place).stamp 0 (copy_block place)) in
            done_keeps p off k m old rc (copy_plan p v m place).stores u ((stepped p off k m u (reclaim n)).1 nc) (g ∙ ap (λ (x : Plan). store_all (store_disk p) x.stores k) e)
            (ap (λ (x : Memory). x.state.missing) h ∙ ap (λ (x : Plan). x.memory.state.missing) e
            ∙ copy_missing place ∙ sending_missing m.inflight (copy_rec place).address (copy_rec place).stamp 0 (copy_block place) ∙ we.none_missing)
            ro wi wl

        go : EndedAs p k m (reclaim_checks p (lent_ok_of p off k m) v m w) rplan rc → KeepsLaid p off old rc
        go (ended-refused x e f g h) = same_keeps p off k m old rc l g h
        go (ended_done c f g h) = done (test (is_nil (victim_live w))) (parts c) g h
        go (ended-cut c f) = clash (ap is_cut_of f ∙ cut-cut) nc

    reclaim_lost : LostDrive p off k m → is_cut_of rc.answer ≡ false → KeepsLaid p off old rc
    reclaim_lost lo nc = stopped_laid p off k m _ _ rc old (some_missing lo) l reclaim_ends (λ e. (reclaim_passed p (lent_ok_of p off k m) v m w e).healthy) nc

    -- 01, Reclaim
    pub laid_reclaim : is_cut_of rc.answer ≡ false → KeepsLaid p off old rc
    laid_reclaim nc = ⊎_elim (λ x. reclaim_lost x nc) (λ x. reclaim_well x nc) u.mode

  -- ---- landing

  module _ (d s n : ℕ) where
    abbrev ld : After Disk
    ld = call_disk p off k m (land d s n)

    land_ended : EndedAs p k m (land_checks p (lent_ok_of p off k m) v m d s) (land_plan p v m d s) ld
    unfolding call_disk call_on verdict store_count lent_block land_verdict
    land_ended = outcome_ends p k m (land_checks p (lent_ok_of p off k m) v m d s) (land_plan p v m d s) n []

    land_missing : (land_plan p v m d s).memory.state.missing ≡ st.missing
    land_missing = unfold land_plan in go (seals p st (slot_of st s) d) (completes p st (slot_of st s) d) (slot_of st s) (pointer_at v d (zone_on (open_segment p v st) d) - 1)
      where
        go : (x y : Bool) (i o : ℕ) → (cond x (set_closed (cond y (free_stripe (mark_landed st i d o) i) (mark_landed st i d o)))
            (cond y (free_stripe (mark_landed st i d o) i) (mark_landed st i d o))).missing ≡ st.missing
        go true true i o = unfold set_closed free_stripe mark_landed in refl
        go true false i o = unfold set_closed mark_landed in refl
        go false true i o = unfold free_stripe mark_landed in refl
        go false false i o = unfold mark_landed in refl

    land_well : Well p off k m → is_cut_of ld.answer ≡ false → KeepsLaid p off old ld
    land_well we nc = go land_ended
      where
        i : ℕ
        i = slot_of st s

        z : Seg
        z = open_segment p v st

        sh : Shaped p v
        sh = u.base.shaped

        so : StateOk p st
        so = state_of_lem p rg st u.base.state_ok_holds

        he : HealthyState p v st
        he = we.healthy

        b : List ℕ
        b = slot_block p m.inflight i d

        store : Store
        store = put d (zone_on z d) b (record_bytes (flight_rec p st i d))

        parts : first_refusal (land_checks p (lent_ok_of p off k m) v m d s) ≡ none → waiting p st d s ≡ true
        parts e = (land_passed p (lent_ok_of p off k m) v m d s e).waits

        plain_stores : seals p st (slot_of st s) d ≡ false → (land_plan p v m d s).stores ≡ store ∷ []
        plain_stores q = unfold land_plan land_store in rw q

        seal_stores_holds : seals p st (slot_of st s) d ≡ true → (land_plan p v m d s).stores ≡ (store ∷ []) ++ seal_stores p (store_view_of store v) z
        seal_stores_holds q = unfold land_plan land_store in rw q

        seal_parts : seals p st (slot_of st s) d ≡ true → (completes p st (slot_of st s) d ≡ true) × (st.next ≡ p.S) × (length (in_flight st) ≡ 1)
        seal_parts q = unfold seals in
            let x = completes p st (slot_of st s) d in
            let y = eqb st.next p.S in
            let t = eqb (length (in_flight st)) 1 in
            let q1 : x && y ≡ true = and_left (x && y) t q in
            (and_left x y q1, eqb-true st.next p.S (and_right x y q1), eqb-true (length (in_flight st)) 1 (and_right (x && y) t q))

        one_store : store_all store_view_of (store ∷ []) v ≡ store_view_of store v
        one_store = unfold store_all in refl

        done : Test (seals p st (slot_of st s) d) → LandWaits p v st d s → ld.drives ≡ store_all (store_disk p) (land_plan p v m d s).stores k → ld.memory ≡ (land_plan p v m d s).memory
            → KeepsLaid p off old ld
        done t x g h = two t
          where
            hd : d < p.N
            hd = x.drive_ok

            lb : length b ≡ p.B
            lb = block_long! p rg m.inflight (buffer_long p off k m u we) i x.slot_ok d hd

            v1 : View
            v1 = store_view_of store v

            hz : There p v z
            hz = x.slot_there

            hz1 : There p v1 z
            hz1 = chunk_there p rg v sh st he so z hz x.slot_opened d i hd x.slot_ok x.slot_flies x.slot_ready b lb

            ro : Roomy p v (store ∷ [])
            ro = chunk_roomy p rg v sh st he so z hz x.slot_opened d i hd x.slot_ok x.slot_flies x.slot_ready b lb

            wi : (y : Store) → In y (store ∷ []) → Within p y
            wi y (inl e) = subst (λ (a : Store). Within p a) (sym e) (hd, (its_zone p rg v z hz d hd).zone_low)
            wi y (inr e) = absurd e

            wl : WellLaid p v1 old
            wl = chunk_laid p rg v sh st he so z hz x.slot_opened d i hd x.slot_ok x.slot_flies x.slot_ready b lb old (well_laid we)

            mz : ld.memory.state.missing ≡ 0
            mz = ap (λ (y : Memory). y.state.missing) h ∙ land_missing ∙ we.none_missing

            two : Test (seals p st (slot_of st s) d) → KeepsLaid p off old ld
            two (no! q) = done_keeps p off k m old ld (store ∷ []) u ((stepped p off k m u (land d s n)).1 nc)
                (g ∙ ap (λ (y : List Store). store_all (store_disk p) y k) (plain_stores q)) mz ro wi
                (subst (λ (y : View). WellLaid p y old) (sym one_store) wl)
            two (yes! q) =
                let (cm, nx, fl) = seal_parts q in
                let ss = seal_stores p v1 z in
                let sh1 : Shaped p v1 = subst (λ (y : View). Shaped p y) one_store (shaped_after p v (store ∷ []) sh ro) in
                let behind = all-behind p rg v sh st he so z hz x.slot_opened d i hd x.slot_ok x.slot_flies x.slot_ready b lb cm nx fl in
                done_keeps p off k m old ld ((store ∷ []) ++ ss) u ((stepped p off k m u (land d s n)).1 nc) (g ∙ ap (λ (y : List Store). store_all (store_disk p) y k) (seal_stores_holds q)) mz
                (roomy_append p v (store ∷ []) ss sh.sized ro (subst (λ (y : View). Roomy p y ss) (sym one_store) (seal_roomy p rg v1 sh1 z hz1 behind)))
                (within_append p (store ∷ []) ss wi (seal_within p rg v1 sh1 z hz1 behind))
                (subst (λ (y : View). WellLaid p y old) (sym (store_all-append store_view_of (store ∷ []) ss v ∙ ap (store_all store_view_of ss) one_store))
                (seal_laid p rg v1 sh1 old z hz1 behind
                (open_after p rg v sh st he so z hz x.slot_opened d i hd x.slot_ok x.slot_flies x.slot_ready b lb) wl))

        go : EndedAs p k m (land_checks p (lent_ok_of p off k m) v m d s) (land_plan p v m d s) ld → KeepsLaid p off old ld
        go (ended-refused x e f g h) = same_keeps p off k m old ld l g h
        go (ended_done c f g h) = done (test (seals p st (slot_of st s) d)) (land_waits p rg v st d s he so (parts c)) g h
        go (ended-cut c f) = clash (ap is_cut_of f ∙ cut-cut) nc

    land_lost : LostDrive p off k m → is_cut_of ld.answer ≡ false → KeepsLaid p off old ld
    land_lost lo nc = stopped_laid p off k m _ _ ld old (some_missing lo) l land_ended (λ e. (land_passed p (lent_ok_of p off k m) v m d s e).healthy) nc

    -- 01, Landing
    pub laid_land : is_cut_of ld.answer ≡ false → KeepsLaid p off old ld
    laid_land nc = ⊎_elim (λ x. land_lost x nc) (λ x. land_well x nc) u.mode

  -- ---- rebuild

  module _ (e n : ℕ) where
    abbrev rb : After Disk
    rb = call_disk p off k m (rebuild e n)

    abbrev bplan : Plan
    bplan = mk_plan (rebuild_stores p v e (segments p v (named e))) Rebuilt m []

    rebuild_ended : EndedAs p k m (rebuild_checks p (lent_ok_of p off k m) v m e (segments p v (named e))) bplan rb
    unfolding call_disk call_on verdict store_count lent_block rebuild_verdict
    rebuild_ended = outcome_ends p k m (rebuild_checks p (lent_ok_of p off k m) v m e (segments p v (named e))) bplan n []

    names : first_refusal (rebuild_checks p (lent_ok_of p off k m) v m e (segments p v (named e))) ≡ none → (e < p.N) × (st.missing ≡ named e)
    names q = let c = rebuild_passed p (lent_ok_of p off k m) v m e (segments p v (named e)) q in (c.drive_low, c.names)

    rebuild_well : Well p off k m → is_cut_of rb.answer ≡ false → KeepsLaid p off old rb
    rebuild_well we nc = go rebuild_ended
      where
        never! : (e < p.N) × (st.missing ≡ named e) → KeepsLaid p off old rb
        never! (he, x) = clash (eq-eqb (named e) 0 (sym x ∙ we.none_missing)) (named_some p rg e he)

        go : EndedAs p k m (rebuild_checks p (lent_ok_of p off k m) v m e (segments p v (named e))) bplan rb → KeepsLaid p off old rb
        go (ended-refused x q f g h) = same_keeps p off k m old rb l g h
        go (ended_done c f g h) = never! (names c)
        go (ended-cut c f) = clash (ap is_cut_of f ∙ cut-cut) nc

    -- only the missing drive changes
    agree_zoned : (v2 : View) → Agree p st.missing v v2 → v.offline ≡ v2.offline → Zoned p v2 st.missing old
    agree_zoned v2 ag fo g d i hd hq =
        let gone = st.missing in
        let low = u.base.low_here in
        let j : In g (remaining p v gone) = subst (λ (x : List Seg). In g x) (sym (same_remaining p gone v v2 low ag fo)) i in
        let hg = remaining-low p v gone low g j in
        let c = same_core p gone v v2 low ag fo g hg in
        subst (λ (x : Zone). ZoneLaid p old (sealed_in p v2 gone g) (segment_of p v2 gone g).serial (segment_of p v2 gone g).copied d g x) (ag d (zone_on g d) hd (low_zone p gone g d hg hd hq) hq)
        (subst (λ (x : ℕ). ZoneLaid p old (sealed_in p v2 gone g) (segment_of p v2 gone g).serial x d g (zone_at v d (zone_on g d))) (copied! g c)
        (subst (λ (x : ℕ). ZoneLaid p old (sealed_in p v2 gone g) x (segment_of p v gone g).copied d g (zone_at v d (zone_on g d))) (serial! g c)
        (subst (λ (x : Bool). ZoneLaid p old x (segment_of p v gone g).serial (segment_of p v gone g).copied d g (zone_at v d (zone_on g d))) (same_sealed p gone v v2 low ag fo g hg)
        (laid_zoned p v gone old l g d j hd hq))))
      where
        serial! : (g : Seg) → core (segment_of p v st.missing g) ≡ core (segment_of p v2 st.missing g) → (segment_of p v st.missing g).serial ≡ (segment_of p v2 st.missing g).serial
        serial! g c = unfold core in ap (λ (x : Segment). x.serial) c

        copied! : (g : Seg) → core (segment_of p v st.missing g) ≡ core (segment_of p v2 st.missing g) → (segment_of p v st.missing g).copied ≡ (segment_of p v2 st.missing g).copied
        copied! g c = unfold core in ap (λ (x : Segment). x.copied) c

    rebuild_lost : LostDrive p off k m → is_cut_of rb.answer ≡ false → KeepsLaid p off old rb
    rebuild_lost lo nc = go rebuild_ended
      where
        done : (e < p.N) × (st.missing ≡ named e) → rb.drives ≡ store_all (store_disk p) bplan.stores k → rb.memory ≡ m → KeepsLaid p off old rb
        done (he, q) g h =
            let gone = st.missing in
            let lost = named_in p rg e he in
            let sh = u.base.shaped in
            let ap! : SpotsApart p v (named e) = subst (λ (y : ℕ). SpotsApart p v y) q u.base.apart in
            let ss = rebuild_stores p v e (segments p v (named e)) in
            let v2 = store_all store_view_of ss v in
            let ev : seen p off rb.drives ≡ v2 = ap (seen p off) g ∙ stored_view p off k ss u.base.ranged (whole_of p off k m u.base.lent) sh
            (rebuild_roomy p rg v sh e he lost ap!) (rebuild_within p rg v sh e he lost ap!) in
            let ag : Agree p gone v v2 = subst (λ (y : ℕ). Agree p y v v2) (sym q) (rebuild_agrees p rg v sh e he lost ap!) in
            let zn : Zoned p (seen p off rb.drives) gone old = subst (λ (y : View). Zoned p y gone old) (sym ev) (agree_zoned v2 ag (sym (offline_after ss v))) in
            let on = (stepped p off k m u (rebuild e n)).1 nc in
            let mm : rb.memory.state.missing ≡ gone = ap (λ (x : Memory). x.state.missing) h in
            ⊎_elim (λ (x : LostDrive p off rb.drives rb.memory).
            laid_accepted p (seen p off rb.drives) rb.memory.state.missing x.accepts on.base.low_here old (subst (λ (y : ℕ). Zoned p (seen p off rb.drives) y old) (sym mm) zn))
            (λ (x : Well p off rb.drives rb.memory). clash (eq-eqb gone 0 (sym mm ∙ x.none_missing)) (some_missing lo)) on.mode

        go : EndedAs p k m (rebuild_checks p (lent_ok_of p off k m) v m e (segments p v (named e))) bplan rb → KeepsLaid p off old rb
        go (ended-refused x q f g h) = same_keeps p off k m old rb l g h
        go (ended_done c f g h) = done (names c) g h
        go (ended-cut c f) = clash (ap is_cut_of f ∙ cut-cut) nc

    -- 01, Rebuild
    pub laid_rebuild : is_cut_of rb.answer ≡ false → KeepsLaid p off old rb
    laid_rebuild nc = ⊎_elim (λ x. rebuild_lost x nc) (λ x. rebuild_well x nc) u.mode
