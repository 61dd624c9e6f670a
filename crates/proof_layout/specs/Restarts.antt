-- What a finished restart says and leaves: its answer, the drive that it names, and the layout on any image that it accepts. Assumes nothing.
use Rattle.std.specs.Prelude.{◌≡◌, Bool, true, false, cond, ◌&&◌, ◌⊎◌, ℕ, suc, ◌+◌, ◌^◌, ◌<◌, eqb, length, get_or}
use Rattle.std.proofs.Math.Path.{refl, ap}
use Rattle.std.proofs.Common.{sym, ◌∙◌, subst, inl, inr, ⊎_elim, eq-eqb, arith}
use mathlib.Core.List.{List, [], ◌++◌, map}
use Rattle.spec.specs.declared.Params.{Params}
use Rattle.spec.specs.declared.Answer.TheVariants.{Restarted}
use Rattle.spec.specs.Answers.{kind, is_cut_of, finished}
use Rattle.spec.specs.Calls.{After}
use Rattle.spec.specs.Counts.{last_count}
use Rattle.spec.specs.Drives.{Chunk, no_chunk, Zone, View, zone_at, pointer_at, chunk_at, Store, store_view_of, Disk, store_disk, store_all, zone_on, sealed_in, zones_in}
use Rattle.spec.specs.Engine.{call_disk}
use Rattle.spec.specs.Engine.Call.{restart}
use Rattle.spec.specs.Faults.{footers_stored}
use Rattle.spec.specs.History.{mk_world}
use Rattle.spec.specs.Layout.{header_block, header_serial, header_copied}
use Rattle.spec.specs.Lists.{all, tally, flat, total}
use Rattle.spec.specs.Memory.{Memory}
use Rattle.spec.specs.Params.{capacity, named, present}
use Rattle.spec.specs.Restart.{is_whole, missing_footers, rewrite_stores, drop_stores, mend_stores, restart_stores, uncounted_in, report_of, rewrites, restart_plan, free_seg, none_free_of}
use Rattle.spec.specs.Segments.{low_drive, header_at, remaining, Segment, segment_of, segments, counts, counted, uncounted, greatest_serial, unsealed}
use Rattle.law_basic.specs.Geometry.{Ranged, ranged}
use Rattle.law_basic.specs.Mask.{is_in_empty}
use Rattle.law_basic.specs.Ranges.{Test, test, map-map}
use Rattle.law_basic.specs.Ranges.Test.{yes!, no! }
use Rattle.law_basic.specs.Stores.{store_all-append}
use Rattle.spec_demands.specs.Engines.{call_world, on_values, view_in}
use Rattle.spec_demands.specs.Tables.{half_stored, uncounted_number, found_after, Restarts}
use Rattle.law_drives.specs.Accept.{Accepted, named_here, open_footers, zone_in_range}
use Rattle.law_drives.specs.Dropping.{drop_same, kept_known, drop_there, there_kept}
use Rattle.law_drives.specs.Joins.{roomy_append, within_append, stores_none}
use Rattle.law_basic.specs.Fields.{header_serial_holds, header_copied_holds}
use Rattle.law_drives.specs.Lengths.{whole_of}
use Rattle.law_drives.specs.Masks.{named_some}
use Rattle.law_drives.specs.Members.{In, in_all}
use Rattle.law_drives.specs.Mended.{mended, serials-small, mends, mends_of, Mends}
use Rattle.law_drives.specs.Mended.Mends.{mends_none, mends_plain, mends_footers, mends-rewrite}
use Rattle.law_drives.specs.Mending.{has_pointer, have_few, b_zone, b_pointer, b_grows, drop_roomy, drop_within}
use Rattle.law_drives.specs.Rebuilding.{counted-low}
use Rattle.law_drives.specs.Rewriting.{same_else, new_pointer, new_stripe, new_header, open_now, used_moved}
use Rattle.law_drives.specs.Segs.{data_low, serial_is, copied_is}
use Rattle.law_drives.specs.Settled.{low_first, zero_here, zones_header}
use Rattle.law_drives.specs.Tests.{clash, cond_true, cond_false}
use Rattle.law_drives.specs.Zones.{Shaped}
use Rattle.proof_tables.specs.Outcomes.{EndedAs, cut_unfinished, cut-cut}
use Rattle.proof_tables.specs.Outcomes.EndedAs.{ended-refused, ended_done, ended-cut}
use Rattle.proof_tables.specs.Restarting.{names_or_none}
use Rattle.proof_tables.specs.Run.{Run}
use Rattle.proof_tables.specs.Starting.{memory_missing, start_checks, start_plan, Begins, start_begins}
use Rattle.proof_tables.specs.Theorem.{restart_ends, restart_finished}
use Rattle.law_views.specs.Views.{Whole, seen}
use Rattle.law_calls.specs.Refusals.{refusal_kind, refused_unfinished}
use Rattle.proof_layout.specs.Calls.{KeepsLaid, same_keeps, stored_view, run_tidy}
use Rattle.proof_layout.specs.Laid.{Laid, ZoneLaid, SegLaid, WellLaid, checked-footers, accepted_zoned, laid_accepted, laid_tidy, laid_same}
use Rattle.proof_layout.specs.Stored.{plain_laid, mend_laid}
use Rattle.spec.specs.declared.Seg.{Seg}
use Rattle.law_basic.specs.Segs.{zones_in_long}
use Rattle.law_drives.specs.Gather.{present_in}
use Rattle.law_drives.specs.Headers.{Vacant}
use Rattle.proof_layout.specs.Segments.{grown_laid}

-- ---- the answer

-- 01, Restart: "the number of stripes with some chunk but not counted, in remaining segments"
uncounted_number_lem : (p : Params) (v : View) (gone : ℕ) → uncounted_in p gone (segments p v gone) ≡ uncounted_number p v gone
unfolding uncounted_in uncounted_number segments
uncounted_number_lem p v gone = ap total (map-map (λ (g : Segment). length (uncounted p gone g)) (segment_of p v gone) (remaining p v gone) ∙ same!)
  where
    same! : map (λ g. length (uncounted p gone (segment_of p v gone g))) (remaining p v gone) ≡ map (half_stored p v gone) (remaining p v gone)
    same! = unfold half_stored uncounted counts tally in refl

pub restarts_say : (p : Params) (off : List ℕ) (k : Disk) (m : Memory) (d n : ℕ) → finished (call_disk p off k m (restart d n)).answer ≡ true
    → Restarts (on_values off) p (mk_world k m) d (call_world off p (mk_world k m) (restart d n))
unfolding call_world view_in
restarts_say p off k m d n q = go (restart_ends p off k m d n)
  where
    answer! : (start_plan p off k m d).answer ≡ Restarted (record { uncounted = uncounted_number p (seen p off k) (named d) })
    answer! = unfold restart_plan report_of in ap (λ (x : ℕ). Restarted (record { uncounted = x })) (uncounted_number_lem p (seen p off k) (named d))

    missing! : (start_plan p off k m d).memory.state.missing ≡ named d
    missing! = unfold restart_plan in memory_missing p _ (named d) m.inflight

    made : (call_disk p off k m (restart d n)).answer ≡ Restarted (record { uncounted = uncounted_number p (seen p off k) (named d) })
        → (call_disk p off k m (restart d n)).memory.state.missing ≡ named d → Restarts (on_values off) p (mk_world k m) d (call_world off p (mk_world k m) (restart d n))
    made e f = unfold call_world view_in in record { reports = e; under = f }

    go : EndedAs p k m (start_checks p off k m d) (start_plan p off k m d) (call_disk p off k m (restart d n))
        → Restarts (on_values off) p (mk_world k m) d (call_world off p (mk_world k m) (restart d n))
    go (ended-refused x e f g h) = clash q (ap finished f ∙ refused_unfinished x (refusal_kind (start_checks p off k m d) x e))
    go (ended_done c f g h) = made (f ∙ answer!) (ap (λ (x : Memory). x.state.missing) h ∙ missing!)
    go (ended-cut c f) = clash q (ap finished f ∙ cut_unfinished)

-- ---- with none missing: the view that the stores leave

module _ (p : Params) (r : Ranged p) (v : View) (sh : Shaped p v) (acc : Accepted p v 0) where
  abbrev gs : List Segment
  gs = segments p v 0

  abbrev va : View
  va = store_all store_view_of (drop_stores p v gs) v

  h0 : 0 < p.N
  h0 = omega (arith, r.drives_low)

  -- a segment that remains, as accepted
  kept-seg : (y : Seg) → In y (remaining p v 0) → SegLaid p v gs y
  kept-seg y q d hd =
      subst (λ (x : ℕ). ZoneLaid p gs (sealed_in p v 0 y) (header_serial p (header_at v x y)) (header_copied p (header_at v x y)) d y (zone_at v d (zone_on y d))) (low_first p r)
      (subst (λ (x : ℕ). ZoneLaid p gs (sealed_in p v 0 y) (header_serial p (header_at v (low_drive p 0) y)) x d y (zone_at v d (zone_on y d))) (copied_is p v 0 y)
      (subst (λ (x : ℕ). ZoneLaid p gs (sealed_in p v 0 y) x (segment_of p v 0 y).copied d y (zone_at v d (zone_on y d))) (serial_is p v 0 y)
      (accepted_zoned p v 0 acc (zero_here p r) y d q hd (is_in_empty d))))

  -- what doesn't remain is reset
  drop-laid : WellLaid p va gs
  drop-laid y hy = let k = there_kept p r v sh acc y hy in laid_same p r v va gs y (drop_same p r v sh acc y k) (kept-seg y k)

  nothing_laid : WellLaid p (store_all store_view_of [] va) gs
  nothing_laid = subst (λ (x : View). WellLaid p x gs) (sym (stores_none va)) drop-laid

  module _ (g : Seg) (kg : In g (remaining p v 0)) (ng : sealed_in p v 0 g ≡ false)
      (oth : (y : Seg) → In y (remaining p v 0) → (y ≡ g → ⊥) → sealed_in p v 0 y ≡ true) where
    abbrev x : Segment
    x = segment_of p v 0 g

    -- missing footers
    footers-laid : is_whole p x ≡ true → WellLaid p (store_all store_view_of (missing_footers p x) va) gs
    footers-laid wh = grown_laid p r va vb gs g (b_grows p r v sh acc g kg ng oth wh) seg drop-laid
      where
        vb : View
        vb = store_all store_view_of (missing_footers p x) va

        head : header_at v 0 g ≡ header_at vb 0 g
        head = zones_header p r v va g (drop_same p r v sh acc g kg) ∙ (b_grows p r v sh acc g kg ng oth wh).same_head 0 h0

        sealed_now : sealed_in p vb 0 g ≡ true
        sealed_now = as! (in_all (λ e. eqb (pointer_at vb e (zone_on g e)) (capacity p)) (present p 0)
            (λ e i. eq-eqb (pointer_at vb e (zone_on g e)) (capacity p) (b_pointer p r v sh acc g kg ng oth wh e (present_in p 0 e i).0)))
          where
            as! : all (λ e. eqb (pointer_at vb e (zone_on g e)) (capacity p)) (present p 0) ≡ true → sealed_in p vb 0 g ≡ true
            as! q = unfold sealed_in in q

        seg : SegLaid p vb gs g
        seg d hd =
            let q = zone_at v d (zone_on g d) in
            let i = footers_stored p q in
            let sn = header_serial p (header_at v 0 g) in
            let cn = header_copied p (header_at v 0 g) in
            let z : ZoneLaid p gs false sn cn d g q = subst (λ (w : Bool). ZoneLaid p gs w sn cn d g q) ng (kept-seg g kg d hd) in
            let ok = sh.zone_ok d (zone_on g d) hd (zone_in_range p v 0 acc (zero_here p r) g d kg hd) in
            subst (λ (c : List ℕ). ZoneLaid p gs (sealed_in p vb 0 g) (header_serial p c) (header_copied p c) d g (zone_at vb d (zone_on g d))) head
            (subst (λ (w : Bool). ZoneLaid p gs w sn cn d g (zone_at vb d (zone_on g d))) (sym sealed_now)
            (subst (λ (y : Zone). ZoneLaid p gs true sn cn d g y) (sym (b_zone p r v sh acc g kg ng oth wh d hd))
            (mend_laid p r d g q ok i (have_few p r v sh acc g kg ng oth wh d) (has_pointer p r v sh acc g kg ng oth wh d hd)
            (λ j l. checked-footers p q (open_footers p v 0 acc g d kg hd (is_in_empty d) ng) j l) gs sn cn z)))

    -- the rewrite
    rewrite_laid : is_whole p x ≡ false → (z0 : Seg) → Vacant p va z0 → suc (greatest_serial gs) < 256 ^ 8
        → WellLaid p (store_all store_view_of (rewrite_stores p x z0 (suc (greatest_serial gs))) va) gs
    rewrite_laid nw z0 vz fit y hy = go (used_moved p r v sh acc g kg ng oth z0 vz fit y hy)
      where
        sn : ℕ
        sn = suc (greatest_serial gs)

        vc : View
        vc = store_all store_view_of (rewrite_stores p x z0 (suc (greatest_serial gs))) va

        serial_low : x.serial < 256 ^ 8
        serial_low = let a = kept_known p r v sh acc g kg in
            let e : x.serial ≡ header_serial p (header_at v 0 g) = serial_is p v 0 g ∙ ap (λ (y : ℕ). header_serial p (header_at v y g)) (low_first p r) in omega arith

        head : header_at vc 0 z0 ≡ header_block p 0 (zones_in p z0) sn x.serial
        head = as! (ap (λ (c : Chunk). c.block) (new_header p r v sh acc g kg ng oth z0 vz fit 0 h0))
          where
            as! : (get_or (zone_at vc 0 (zone_on z0 0)).blocks 0 no_chunk).block ≡ header_block p 0 (zones_in p z0) sn x.serial → header_at vc 0 z0 ≡ header_block p 0 (zones_in p z0) sn x.serial
            as! e = unfold header_at chunk_at in e

        new_ptr : (d : ℕ) → d < p.N → (zone_at vc d (zone_on z0 d)).pointer ≡ 1 + length (counted p 0 x)
        new_ptr d hd = as! (new_pointer p r v sh acc g kg ng oth z0 vz fit d hd)
          where
            as! : pointer_at vc d (zone_on z0 d) ≡ 1 + length (counted p 0 x) → (zone_at vc d (zone_on z0 d)).pointer ≡ 1 + length (counted p 0 x)
            as! e = unfold pointer_at in e

        seg : SegLaid p vc gs z0
        seg d hd =
            let qz = zone_at vc d (zone_on z0 d) in
            let zs = zones_in p z0 in
            let ep = new_ptr d hd in
            let cl = counted-low p 0 x in
            subst (λ (b : List ℕ). ZoneLaid p gs (sealed_in p vc 0 z0) (header_serial p b) (header_copied p b) d z0 qz) (sym head)
            (subst (λ (a : ℕ). ZoneLaid p gs (sealed_in p vc 0 z0) a (header_copied p (header_block p 0 zs sn x.serial)) d z0 qz)
            (sym (header_serial_holds p 0 zs sn x.serial (zones_in_long p z0) fit))
            (subst (λ (a : ℕ). ZoneLaid p gs (sealed_in p vc 0 z0) sn a d z0 qz) (sym (header_copied_holds p 0 zs sn x.serial (zones_in_long p z0) serial_low))
            (subst (λ (w : Bool). ZoneLaid p gs w sn x.serial d z0 qz) (sym (open_now p r v sh acc g kg ng oth z0 vz fit nw))
            (plain_laid p gs sn x.serial d z0 qz (new_header p r v sh acc g kg ng oth z0 vz fit d hd) (omega arith)
            (λ o l. new_stripe p r v sh acc g kg ng oth z0 vz fit d o hd (let a = (data_low p qz o l).1 in omega arith))))))

        go : (y ≡ z0) ⊎ (In y (remaining p v 0) × ((z0 ≡ y → ⊥) × (g ≡ y → ⊥))) → SegLaid p vc gs y
        go (inl e) = subst (λ (n : Seg). SegLaid p vc gs n) (sym e) seg
        go (inr (k, n)) = laid_same p r va vc gs y (same_else p r v sh acc g kg ng oth z0 vz fit y k n.1) (drop-laid y (drop_there p r v sh acc y k))

  mended_laid : rewrites p 0 gs && eqb (greatest_serial gs) last_count ≡ false → rewrites p 0 gs && none_free_of p v gs ≡ false → greatest_serial gs < 256 ^ 8
      → WellLaid p (store_all store_view_of (mends_of p v) va) gs
  mended_laid c6 c8 bd = go (mends p r v sh acc c6 c8 bd)
    where
      by : (l : List Store) → mends_of p v ≡ l → WellLaid p (store_all store_view_of l va) gs → WellLaid p (store_all store_view_of (mends_of p v) va) gs
      by l e w = subst (λ (l : List Store). WellLaid p (store_all store_view_of l va) gs) (sym e) w

      go : Mends p v → WellLaid p (store_all store_view_of (mends_of p v) va) gs
      go (mends_none us f e) = by [] e nothing_laid
      go (mends_plain g o nw nr e) = by [] e nothing_laid
      go (mends_footers g o wh e) = by (missing_footers p (segment_of p v 0 g)) e (footers-laid g o.open_remains o.open_unsealed o.open_others wh)
      go (mends-rewrite g o nw rg vz fit e) =
          by (rewrite_stores p (segment_of p v 0 g) (free_seg p v gs) (suc (greatest_serial gs))) e
          (rewrite_laid g o.open_remains o.open_unsealed o.open_others nw (free_seg p v gs) vz fit)

-- ---- any finished restart

module _ (p : Params) (off : List ℕ) (k : Disk) (m : Memory) (d n : ℕ) (shk : Whole p k → Shaped p (seen p off k)) (fin : finished (call_disk p off k m (restart d n)).answer ≡ true) where
  abbrev v : View
  v = seen p off k

  abbrev a : After Disk
  a = call_disk p off k m (restart d n)

  abbrev Found : Type 0
  Found = Laid p (seen p off a.drives) (named d) (segments p v (named d))

  restart_stores_are : (start_plan p off k m d).stores ≡ restart_stores p v (named d) (segments p v (named d))
  restart_stores_are = unfold restart_plan in refl

  -- a drive is named: nothing is stored
  lost_first : Begins p off k m d → d < p.N → a.drives ≡ store_all (store_disk p) (start_plan p off k m d).stores k → Found
  lost_first b hd g =
      let gone = named d in
      let low = named_here p (ranged p b.in_range!) d hd in
      let s0 : (start_plan p off k m d).stores ≡ [] = restart_stores_are ∙ none! (named_some p (ranged p b.in_range!) d hd) in
      let ek : a.drives ≡ k = g ∙ ap (λ (x : List Store). store_all (store_disk p) x k) s0 ∙ nothing in
      subst (λ (x : Disk). Laid p (seen p off x) gone (segments p v gone)) (sym ek)
      (laid_accepted p v gone b.accepted! low (segments p v gone) (accepted_zoned p v gone b.accepted! low))
    where
      none! : eqb (named d) 0 ≡ false → restart_stores p v (named d) (segments p v (named d)) ≡ []
      none! q = unfold restart_stores in
          cond_false (eqb (named d) 0) (drop_stores p v (segments p v (named d)) ++ flat (mend_stores p v (segments p v (named d))) (unsealed (segments p v (named d)))) [] q

      nothing : store_all (store_disk p) [] k ≡ k
      nothing = unfold store_all in refl

  -- none is named
  well_first : Begins p off k m d → named d ≡ 0 → a.memory.state.missing ≡ named d → a.drives ≡ store_all (store_disk p) (start_plan p off k m d).stores k → Found
  well_first b nd mm g =
      let r = ranged p b.in_range! in
      let w = whole_of p off k m b.lent! in
      let sh = shk w in
      let gs = segments p v 0 in
      let acc : Accepted p v 0 = subst (λ (x : ℕ). Accepted p v x) nd b.accepted! in
      let c6 : rewrites p 0 gs && eqb (greatest_serial gs) last_count ≡ false =
      subst (λ (x : ℕ). rewrites p x (segments p v x) && eqb (greatest_serial (segments p v x)) last_count ≡ false) nd b.sixth! in
      let c8 : rewrites p 0 gs && none_free_of p v gs ≡ false = subst (λ (x : ℕ). rewrites p x (segments p v x) && none_free_of p v (segments p v x) ≡ false) nd b.eighth! in
      let bd = serials-small p r v sh in
      let md = mended p r v sh acc c6 c8 bd in
      let ds = drop_stores p v gs in
      let ts = flat (mend_stores p v gs) (unsealed gs) in
      let es : (start_plan p off k m d).stores ≡ ds ++ ts = restart_stores_are ∙ ap (λ (x : ℕ). restart_stores p v x (segments p v x)) nd ∙ zero! in
      let ev : seen p off a.drives ≡ store_all store_view_of ts (store_all store_view_of ds v) =
      ap (seen p off) (g ∙ ap (λ (x : List Store). store_all (store_disk p) x k) es)
      ∙ stored_view p off k (ds ++ ts) b.in_range! w sh (roomy_append p v ds ts sh.sized (drop_roomy p r v sh acc) md.mend_roomy)
      (within_append p ds ts (drop_within p r v sh acc) md.mend_within)
      ∙ store_all-append store_view_of ds ts v in
      let u = restart_finished p off k m d n shk fin in
      let wl : WellLaid p (seen p off a.drives) gs = subst (λ (x : View). WellLaid p x gs) (sym ev) (mended_laid p r v sh acc c6 c8 bd) in
      subst (λ (x : ℕ). Laid p (seen p off a.drives) x (segments p v x)) (sym nd)
      (laid_tidy p r (seen p off a.drives) a.memory.state.serial.0 (run_tidy p off a.drives a.memory u (mm ∙ nd)) gs wl)
    where
      zero! : restart_stores p v 0 (segments p v 0) ≡ drop_stores p v (segments p v 0) ++ flat (mend_stores p v (segments p v 0)) (unsealed (segments p v 0))
      zero! = unfold restart_stores in refl

  missing_is : a.memory.state.missing ≡ named d
  missing_is = as! (restarts_say p off k m d n fin).under
    where
      as! : (call_world off p (mk_world k m) (restart d n)).world.memory.state.missing ≡ named d → (call_disk p off k m (restart d n)).memory.state.missing ≡ named d
      as! e = unfold call_world in e

  -- 01, Restart: the layout, on what it found
  pub laid_restart : Found
  laid_restart = go (restart_ends p off k m d n)
    where
      go : EndedAs p k m (start_checks p off k m d) (start_plan p off k m d) (call_disk p off k m (restart d n)) → Found
      go (ended-refused x e f g h) = clash fin (ap finished f ∙ refused_unfinished x (refusal_kind (start_checks p off k m d) x e))
      go (ended_done c f g h) = let b = start_begins p off k m d c in ⊎_elim (λ x. lost_first b x g) (λ x. well_first b x missing_is g) (names_or_none p (ranged p b.in_range!) d b.names!)
      go (ended-cut c f) = clash fin (ap finished f ∙ cut_unfinished)

  pub laid_first : KeepsLaid p off (segments p v (named d)) a
  laid_first = subst (λ (x : ℕ). Laid p (seen p off a.drives) x (segments p v (named d))) (sym missing_is) laid_restart

-- a restart in a run, finished or refused
pub laid_again : (p : Params) (off : List ℕ) (k : Disk) (m : Memory) → Run p off k m → (old : List Segment) → Laid p (seen p off k) m.state.missing old → (d n : ℕ)
    → is_cut_of (call_disk p off k m (restart d n)).answer ≡ false
    → KeepsLaid p off (found_after p (seen p off k) (restart d n) (call_disk p off k m (restart d n)).answer old) (call_disk p off k m (restart d n))
unfolding found_after
laid_again p off k m u old l d n nc = go (test (finished (call_disk p off k m (restart d n)).answer)) (restart_ends p off k m d n)
  where
    a : After Disk
    a = call_disk p off k m (restart d n)

    go : Test (finished (call_disk p off k m (restart d n)).answer) → EndedAs p k m (start_checks p off k m d) (start_plan p off k m d) (call_disk p off k m (restart d n))
        → KeepsLaid p off (cond (finished (call_disk p off k m (restart d n)).answer) (segments p (seen p off k) (named d)) old) (call_disk p off k m (restart d n))
    go (yes! q) x = subst (λ (y : List Segment). KeepsLaid p off y (call_disk p off k m (restart d n))) (sym (cond_true (finished a.answer) (segments p (seen p off k) (named d)) old q))
        (laid_first p off k m d n (λ w. u.base.shaped) q)
    go (no! q) (ended-refused x e f g h) = subst (λ (y : List Segment). KeepsLaid p off y (call_disk p off k m (restart d n)))
        (sym (cond_false (finished a.answer) (segments p (seen p off k) (named d)) old q)) (same_keeps p off k m old (call_disk p off k m (restart d n)) l g h)
    go (no! q) (ended_done c f g h) = clash (ap finished f ∙ done!) q
      where
        done! : finished (start_plan p off k m d).answer ≡ true
        done! = unfold restart_plan finished kind in refl
    go (no! q) (ended-cut c f) = clash (ap is_cut_of f ∙ cut-cut) nc
