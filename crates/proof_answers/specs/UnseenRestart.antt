-- Two views that differ in offline zones alone: a restart and a rebuild decide the same (02, item 4). Assumes nothing.
use Rattle.std.specs.Prelude.{◌≡◌, false, ◌&&◌, ◌||◌, ltb, get_or}
use Rattle.std.proofs.Math.Path.{refl, sym, ap, ap₂}
use Rattle.std.proofs.Common.{◌∙◌, subst, ⊎_elim}
use mathlib.Core.List.{List, [], ◌∷◌, ◌++◌, map}
use Rattle.std.proofs.Math.Bool.{Bool, true, cond, not}
use Prim.Native.Nat.{ℕ, ◌+◌, ◌<◌}
use Rattle.std.proofs.Math.Decide.{ℕ_discrete}
use borrow.Author.Tests.{ne_eqb, not-false, ltb-true}
use Rattle.std.proofs.Math.Dec.{eqb}
use Rattle.std.proofs.Math.ListN.{length}
use Rattle.spec.specs.declared.Answer.{Answer}
use Rattle.spec.specs.declared.Answer.TheVariants.{Restarted, Rebuilt}
use Rattle.spec.specs.declared.Params.{Params}
use Rattle.spec.specs.Calls.{ninth, ruled, first_refusal, mk_plan}
use Rattle.spec.specs.Counts.{last_count}
use Rattle.spec.specs.Drives.{no_chunk, Zone, no_zone, View, Store, store_view_of, store_all, good_zones, zone_on, zones_in, zero_spare}
use Rattle.spec.specs.Drives.Store.{put, reset}
use Rattle.spec.specs.Faults.{pointer_faults, segment_faults, image_checks}
use Rattle.spec.specs.Layout.{header_block, record_bytes, footer_block, mk_rec}
use Rattle.spec.specs.Lists.{Opt, below, any, is_nil, keep, flat, total, greatest, rising, is_in}
use Rattle.spec.specs.Lists.Opt.{none}
use Rattle.spec.specs.Memory.{Memory, mk_memory, idle_state}
use Rattle.spec.specs.Params.{in_range, footers, named, drives_of, present}
use Rattle.spec.specs.Parity.{Piece, mk_piece, decode_piece}
use Rattle.spec.specs.Rebuild.{names_missing, rebuild_checks, rebuilt_zone, insert_segment, by_serial, rebuild_stores, rebuild_verdict}
use Rattle.spec.specs.Restart.{free_zones, free_seg, none_free_of, serials_there, dropped_serials, drop_stores, mend_stores, restart_stores, open_of_of, next_of}
use Rattle.spec.specs.Restart.{restart_memory, uncounted_in, report_of, names_drive}
use Rattle.spec.specs.Restart.{is_ragged, rewrites, restart_checks, restart_plan, restart_verdict}
use Rattle.spec.specs.Segments.{is_used, serial_in, bearing, Segment, segments, recs_on, offset_on, has_chunk}
use Rattle.spec.specs.Segments.{counts, counted, uncounted, stored_piece, piece_of, put_piece, stored_rec, rec_of, offset_of, cand_of}
use Rattle.spec.specs.Segments.{segment_cands, candidates, address_table, compact_row, row_of, compact_table, greatest_stamp, greatest_serial, unsealed}
use Rattle.law_basic.specs.Geometry.{Ranged, ranged}
use Rattle.law_basic.specs.Ranges.{map-map, and_left, or-false}
use Rattle.law_checks.specs.Passed.{restart_passed, rebuild_passed}
use Rattle.law_drives.specs.Accept.{named_here}
use Rattle.law_drives.specs.Masks.{named_in}
use Rattle.law_drives.specs.Gather.{in_present}
use Rattle.law_code.specs.Code.{decode_same}
use Rattle.law_drives.specs.Members.{In, keep_in, below_in, keep_cong, map_cong, flat_cong, flat_map}
use Rattle.law_drives.specs.Segs.{Here}
use Rattle.law_drives.specs.Settled.{zero_here}
use Rattle.law_drives.specs.Tests.{cond_true}
use Rattle.proof_tables.specs.Restarting.{names_or_none}
use Rattle.proof_answers.specs.UnseenCalls.{decided_same, front}
use Rattle.proof_answers.specs.UnseenDrives.{veil, veil_zone, veil-unsealed, pointer_faults_same, veiled_same, unseen_drives_segments_same, read_faults_same}
use Rattle.proof_answers.specs.UnseenZones.{UnseenZonesAlike, alike_stores, used_same, serial_same, bearing_same}

-- ---- the tables see nothing of missing drives

module _ (p : Params) (gone : ℕ) (gs : List Segment) where
  abbrev hs : List Segment
  hs = map (veil p gone) gs

  veil_cands : candidates p gone gs ≡ candidates p gone hs
  unfolding candidates
  veil_cands = flat_cong (segment_cands p gone) (λ (g : Segment). segment_cands p gone (veil p gone g)) gs (λ g i. one g) ∙ sym (flat_map (segment_cands p gone) (veil p gone) gs)
    where
      one : (g : Segment) → segment_cands p gone g ≡ segment_cands p gone (veil p gone g)
      one g = unfold veil segment_cands counted counts has_chunk recs_on cand_of rec_of stored_rec offset_on offset_of in refl

  veil_row : (d z : ℕ) → row_of p gs d z ≡ row_of p hs d z
  unfolding row_of veil recs_on
  veil_row d z = sym (flat_map (λ (g : Segment). cond (eqb (zone_on g.seg d) z) (recs_on g d) []) (veil p gone) gs)

  veil_compact : compact_table p gs ≡ compact_table p hs
  unfolding compact_table
  veil_compact = flat_cong (λ d. flat (λ z. compact_row p (row_of p gs d z)) (below p.Z)) (λ d. flat (λ z. compact_row p (row_of p hs d z)) (below p.Z)) (drives_of p)
      (λ d m. flat_cong (λ z. compact_row p (row_of p gs d z)) (λ z. compact_row p (row_of p hs d z)) (below p.Z) (λ z n. ap (compact_row p) (veil_row d z)))

  veil_serial : greatest_serial gs ≡ greatest_serial hs
  unfolding greatest_serial veil
  veil_serial = ap greatest (sym (map-map (λ (g : Segment). g.serial) (veil p gone) gs))

  veil-uncounted : uncounted_in p gone gs ≡ uncounted_in p gone hs
  unfolding uncounted_in
  veil-uncounted = ap total (map_cong (λ (g : Segment). length (uncounted p gone g)) (λ (g : Segment). length (uncounted p gone (veil p gone g))) gs (λ g i. one g)
      ∙ sym (map-map (λ (g : Segment). length (uncounted p gone g)) (veil p gone) gs))
    where
      one : (g : Segment) → length (uncounted p gone g) ≡ length (uncounted p gone (veil p gone g))
      one g = unfold veil uncounted counts has_chunk recs_on in refl

open_veil : (p : Params) (gone : ℕ) (us : List Segment) → open_of_of us ≡ open_of_of (map (veil p gone) us)
unfolding open_of_of veil
open_veil p gone [] = refl
open_veil p gone (g ∷ us) = refl

next_veil : (p : Params) (gone : ℕ) (us : List Segment) → next_of p us ≡ next_of p (map (veil p gone) us)
unfolding next_of veil counted counts has_chunk recs_on
next_veil p gone [] = refl
next_veil p gone (g ∷ us) = refl

-- memory by the segments
unfoldable memory_of : Params → ℕ → List ℕ → List Segment → Memory
memory_of p gone fl gs =
    let cs = candidates p gone gs in
    let us = cond (eqb gone 0) (unsealed gs) [] in
    mk_memory (idle_state 1 gone (greatest_stamp cs) (greatest_serial gs) (open_of_of us) (next_of p us)) (address_table p cs) (compact_table p gs) fl

unseen_restart_memory_is : (p : Params) (v : View) (gone : ℕ) (fl : List ℕ) → restart_memory p v gone fl ≡ memory_of p gone fl (segments p v gone)
unfolding restart_memory memory_of
unseen_restart_memory_is p v gone fl = refl

veil_memory : (p : Params) (v : View) (gone : ℕ) (fl : List ℕ) (gs : List Segment) → memory_of p gone fl gs ≡ memory_of p gone fl (map (veil p gone) gs)
unfolding memory_of
veil_memory p v gone fl gs = λ i.
    mk_memory (idle_state 1 gone (greatest_stamp (veil_cands p gone gs i)) (veil_serial p gone gs i) (opens i) (nexts i)) (address_table p (veil_cands p gone gs i)) (veil_compact p gone gs i) fl
  where
    hs : List Segment
    hs = map (veil p gone) gs

    unsealed_same : (b : Bool) → map (veil p gone) (cond b (unsealed gs) []) ≡ cond b (unsealed hs) []
    unsealed_same true = veil-unsealed p v gone gs
    unsealed_same false = refl

    opens : open_of_of (cond (eqb gone 0) (unsealed gs) []) ≡ open_of_of (cond (eqb gone 0) (unsealed hs) [])
    opens = open_veil p gone (cond (eqb gone 0) (unsealed gs) []) ∙ ap open_of_of (unsealed_same (eqb gone 0))

    nexts : next_of p (cond (eqb gone 0) (unsealed gs) []) ≡ next_of p (cond (eqb gone 0) (unsealed hs) [])
    nexts = next_veil p gone (cond (eqb gone 0) (unsealed gs) []) ∙ ap (next_of p) (unsealed_same (eqb gone 0))

-- ---- what is reset

module _ (p : Params) (v u : View) (al : UnseenZonesAlike p v u) where
  serials_same : serials_there p v ≡ serials_there p u
  unfolding serials_there drives_of
  serials_same = ap rising (flat_cong (on v) (on u) (below p.N) (λ d i. one d (below_in p.N d i)))
    where
      on : View → ℕ → List ℕ
      on w d = map (serial_in p w d) (keep (is_used p w d) (below p.Z))

      one : (d : ℕ) → d < p.N → on v d ≡ on u d
      one d hd =
          map_cong (serial_in p v d) (serial_in p u d) (keep (is_used p v d) (below p.Z))
          (λ z m. let (i, q) = keep_in (is_used p v d) (below p.Z) z m in serial_same p v u al d z hd (below_in p.Z z i) q)
          ∙ ap (map (serial_in p u d)) (keep_cong (is_used p v d) (is_used p u d) (below p.Z) (λ z i. used_same p v u al d z hd (below_in p.Z z i)))

  drops_same : (gs : List Segment) → drop_stores p v gs ≡ drop_stores p u gs
  unfolding drop_stores dropped_serials drives_of
  drops_same gs =
      flat_cong (λ r. flat (λ d. map (reset d) (bearing p v d r)) (below p.N)) (λ r. flat (λ d. map (reset d) (bearing p u d r)) (below p.N)) (kept (serials_there p v))
      (λ r i. flat_cong (λ d. map (reset d) (bearing p v d r)) (λ d. map (reset d) (bearing p u d r)) (below p.N)
      (λ d j. ap (map (reset d)) (bearing_same p v u al d r (below_in p.N d j))))
      ∙ ap (λ (l : List ℕ). flat (λ r. flat (λ d. map (reset d) (bearing p u d r)) (below p.N)) (kept l)) serials_same
    where
      kept : List ℕ → List ℕ
      kept l = keep (λ r. not (any (λ (g : Segment). eqb g.serial r) gs)) l

  mends_same : (gs : List Segment) (g : Segment) → mend_stores p v gs g ≡ mend_stores p u gs g
  unfolding mend_stores free_seg free_zones
  mends_same gs g = ap (λ (l : List ℕ). mends l) al.same_list_holds
    where
      mends : List ℕ → List Store
      mends l = unfold mend_stores free_seg free_zones in mend_stores p (let w : View = record { zones = v.zones; offline = l } in w) gs g

  stores_same : (gone : ℕ) (gs : List Segment) → restart_stores p v gone gs ≡ restart_stores p u gone gs
  unfolding restart_stores
  stores_same gone gs = ap₂ (λ (a b : List Store). cond (eqb gone 0) (a ++ b) []) (drops_same gs) (flat_cong (mend_stores p v gs) (mend_stores p u gs) (unsealed gs) (λ g i. mends_same gs g))

  unseen_restart_free_same : (gs : List Segment) → none_free_of p v gs ≡ none_free_of p u gs
  unfolding none_free_of free_zones
  unseen_restart_free_same gs = ap (λ (l : List ℕ). any (λ d. is_nil (keep (λ z. not (any (λ (g : Segment). eqb (zone_on g.seg d) z) gs)) (good_zones p l d))) (drives_of p)) al.same_list_holds

-- ---- restart

unseen_restart_names_here : (p : Params) (r : Ranged p) (d : ℕ) → names_drive p d ≡ true → Here p (named d)
unseen_restart_names_here p r d q = ⊎_elim (λ h. named_here p r d h) (λ e. subst (Here p) (sym e) (zero_here p r)) (names_or_none p r d q)

module _ (p : Params) (r : Ranged p) (v u : View) (al : UnseenZonesAlike p v u) (gone : ℕ) (low : Here p gone) where
  abbrev gv : List Segment
  gv = segments p v gone

  abbrev gu : List Segment
  gu = segments p u gone

  memory_same : (fl : List ℕ) → restart_memory p v gone fl ≡ restart_memory p u gone fl
  memory_same fl = unseen_restart_memory_is p v gone fl ∙ veil_memory p v gone fl gv ∙ ap (memory_of p gone fl) (veiled_same p v u al gone low) ∙ sym (veil_memory p u gone fl gu)
      ∙ sym (unseen_restart_memory_is p u gone fl)

  report_same : uncounted_in p gone gv ≡ uncounted_in p gone gu
  report_same = veil-uncounted p gone gv ∙ ap (uncounted_in p gone) (veiled_same p v u al gone low) ∙ sym (veil-uncounted p gone gu)

  -- with a drive missing nothing is stored
  unseen_restart_missing_stores : (w : View) (gs : List Segment) → eqb gone 0 ≡ false → restart_stores p w gone gs ≡ []
  unfolding restart_stores
  unseen_restart_missing_stores w gs e = ap (λ (b : Bool). cond b (drop_stores p w gs ++ flat (mend_stores p w gs) (unsealed gs)) []) e

  missing_rewrites : (gs : List Segment) (b : Bool) → eqb gone 0 ≡ false → rewrites p gone gs && b ≡ false
  unfolding rewrites
  missing_rewrites gs b e = ap (λ (x : Bool). x && any (is_ragged p) (unsealed gs) && b) e

  restart_stores_same : restart_stores p v gone gv ≡ restart_stores p u gone gu
  restart_stores_same = go (ℕ_discrete gone 0)
    where
      go : Dec (gone ≡ 0) → restart_stores p v gone gv ≡ restart_stores p u gone gu
      go (yes e) = stores_same p v u al gone gv ∙ ap (restart_stores p u gone) (unseen_drives_segments_same p v u al gone low e)
      go (no n) = unseen_restart_missing_stores v gv (ne_eqb gone 0 n) ∙ sym (unseen_restart_missing_stores u gu (ne_eqb gone 0 n))

  sixth_same : (rewrites p gone gv && eqb (greatest_serial gv) last_count) ≡ (rewrites p gone gu && eqb (greatest_serial gu) last_count)
  sixth_same = go (ℕ_discrete gone 0)
    where
      go : Dec (gone ≡ 0) → (rewrites p gone gv && eqb (greatest_serial gv) last_count) ≡ (rewrites p gone gu && eqb (greatest_serial gu) last_count)
      go (yes e) = ap (λ (gs : List Segment). rewrites p gone gs && eqb (greatest_serial gs) last_count) (unseen_drives_segments_same p v u al gone low e)
      go (no n) = missing_rewrites gv (eqb (greatest_serial gv) last_count) (ne_eqb gone 0 n) ∙ sym (missing_rewrites gu (eqb (greatest_serial gu) last_count) (ne_eqb gone 0 n))

  unseen_restart_eighth_same : (rewrites p gone gv && none_free_of p v gv) ≡ (rewrites p gone gu && none_free_of p u gu)
  unseen_restart_eighth_same = go (ℕ_discrete gone 0)
    where
      go : Dec (gone ≡ 0) → (rewrites p gone gv && none_free_of p v gv) ≡ (rewrites p gone gu && none_free_of p u gu)
      go (yes e) = ap (λ (b : Bool). rewrites p gone gv && b) (unseen_restart_free_same p v u al gv)
          ∙ ap (λ (gs : List Segment). rewrites p gone gs && none_free_of p u gs) (unseen_drives_segments_same p v u al gone low e)
      go (no n) = missing_rewrites gv (none_free_of p v gv) (ne_eqb gone 0 n) ∙ sym (missing_rewrites gu (none_free_of p u gu) (ne_eqb gone 0 n))

module _ (p : Params) (long : Bool) (v u : View) (list : v.offline ≡ u.offline) (alike : long ≡ true → UnseenZonesAlike p v u) (d : ℕ) where
  abbrev sv : List Segment
  sv = segments p v (named d)

  abbrev su : List Segment
  su = segments p u (named d)

  restart_checks_same : first_refusal (restart_checks p long v d sv) ≡ first_refusal (restart_checks p long u d su)
  unfolding restart_checks image_checks first_refusal
  restart_checks_same =
      front p v u list (not (in_range p) || not (names_drive p d)) (not long)
      (behind (pointer_faults p v (named d)) (segment_faults p v (named d) sv) (rewrites p (named d) sv && eqb (greatest_serial sv) last_count) (rewrites p (named d) sv && none_free_of p v sv))
      (behind (pointer_faults p u (named d)) (segment_faults p u (named d) su) (rewrites p (named d) su && eqb (greatest_serial su) last_count) (rewrites p (named d) su && none_free_of p u su))
      (λ c1 c2.
      let one = or-false (not (in_range p)) (not (names_drive p d)) c1 in
      let r = ranged p (not-false (in_range p) one.0) in
      let low = unseen_restart_names_here p r d (not-false (names_drive p d) one.1) in
      let al = alike (not-false long c2) in
      λ i. behind (pointer_faults_same p v u al (named d) i) (read_faults_same p v u al (named d) low i) (sixth_same p r v u al (named d) low i)
      (unseen_restart_eighth_same p r v u al (named d) low i))
    where
      behind : List ℕ → List ℕ → Bool → Bool → Opt Answer
      behind ps ss six eight = ninth ps (ninth (cond (is_nil ps) ss []) (ruled 6 six (ruled 8 eight none)))

  restart_plan_same : (fl : List ℕ) → first_refusal (restart_checks p long v d sv) ≡ none → restart_plan p v d sv fl ≡ restart_plan p u d su fl
  unfolding restart_plan report_of
  restart_plan_same fl e =
      let c = restart_passed p long v d sv e in
      let r = ranged p c.in_range_holds in
      let low = unseen_restart_names_here p r d c.names in
      let al = alike c.lent in
      let ss = restart_stores_same p r v u al (named d) low in
      λ i. mk_plan (ss i) (Restarted (record { uncounted = report_same p r v u al (named d) low i })) (memories r al low ss i) []
    where
      memories : (r : Ranged p) → UnseenZonesAlike p v u → (low : Here p (named d)) → restart_stores p v (named d) sv ≡ restart_stores p u (named d) su
          → restart_memory p (store_all store_view_of (restart_stores p v (named d) sv) v) (named d) fl ≡ restart_memory p
          (store_all store_view_of (restart_stores p u (named d) su) u) (named d) fl
      memories r al low ss =
          memory_same p r (store_all store_view_of (restart_stores p v (named d) sv) v) (store_all store_view_of (restart_stores p v (named d) sv) u)
          (alike_stores p (restart_stores p v (named d) sv) v u al) (named d) low fl
          ∙ ap (λ (l : List Store). restart_memory p (store_all store_view_of l u) (named d) fl) ss

  pub unseen_restart_restart_same : (m : Memory) → restart_verdict p long v m d ≡ restart_verdict p long u m d
  unfolding restart_verdict
  unseen_restart_restart_same m = decided_same (first_refusal (restart_checks p long v d sv)) (first_refusal (restart_checks p long u d su)) (restart_plan p v d sv m.inflight)
      (restart_plan p u d su m.inflight)
      restart_checks_same (restart_plan_same m.inflight)

-- ---- rebuild

veil_insert : (p : Params) (gone : ℕ) (g : Segment) (ys : List Segment) → map (veil p gone) (insert_segment g ys) ≡ insert_segment (veil p gone g) (map (veil p gone) ys)
unfolding insert_segment
veil_insert p gone g [] = refl
veil_insert p gone g (y ∷ ys) = go (ltb y.serial g.serial) (veil_insert p gone g ys) ∙ ap both serials
  where
    both : Bool → List Segment
    both b = cond b (veil p gone y ∷ insert_segment (veil p gone g) (map (veil p gone) ys)) (veil p gone g ∷ veil p gone y ∷ map (veil p gone) ys)

    serials : ltb y.serial g.serial ≡ ltb (veil p gone y).serial (veil p gone g).serial
    serials = unfold veil in refl

    go : (b : Bool) → map (veil p gone) (insert_segment g ys) ≡ insert_segment (veil p gone g) (map (veil p gone) ys)
        → map (veil p gone) (cond b (y ∷ insert_segment g ys) (g ∷ y ∷ ys)) ≡ both b
    go true ih = ap (λ (l : List Segment). veil p gone y ∷ l) ih
    go false ih = refl

veil_order : (p : Params) (gone : ℕ) (gs : List Segment) → map (veil p gone) (by_serial gs) ≡ by_serial (map (veil p gone) gs)
unfolding by_serial
veil_order p gone [] = refl
veil_order p gone (g ∷ gs) = veil_insert p gone g (by_serial gs) ∙ ap (insert_segment (veil p gone g)) (veil_order p gone gs)

veil-stored : (p : Params) (gone : ℕ) (g : Segment) (s e : ℕ) → In e (present p gone) → stored_piece g s e ≡ stored_piece (veil p gone g) s e
unfolding stored_piece offset_on recs_on
veil-stored p gone g s e i = ap (λ (z : Zone). mk_piece (get_or z.blocks (1 + offset_on g e s) no_chunk).block (get_or (recs_on g e) (offset_on g e s) (mk_rec 0 0 0))) (veil_zone p gone g e i)
    ∙ same
  where
    same : mk_piece (get_or (get_or (veil p gone g).zones_by_holds e no_zone).blocks (1 + offset_on g e s) no_chunk).block
        (get_or (recs_on g e) (offset_on g e s) (mk_rec 0 0 0)) ≡ stored_piece (veil p gone g) s e
    same = unfold stored_piece offset_on recs_on veil in refl

veil_piece : (p : Params) (gone : ℕ) (g : Segment) (s d : ℕ) → is_in gone d ≡ true → piece_of p gone g s d ≡ piece_of p gone (veil p gone g) s d
unfolding piece_of
veil_piece p gone g s d q =
    cond_true (is_in gone d) (decode_piece p gone s d (stored_piece g s)) (stored_piece g s d) q
    ∙ decode_same p gone s d (stored_piece g s) (stored_piece (veil p gone g) s) (λ e h i. veil-stored p gone g s e (in_present p gone e h i))
    ∙ sym (cond_true (is_in gone d) (decode_piece p gone s d (stored_piece (veil p gone g) s)) (stored_piece (veil p gone g) s d) q)

module _ (p : Params) (r : Ranged p) (d : ℕ) (hd : d < p.N) where
  veil-rebuilt : (g : Segment) → rebuilt_zone p d g ≡ rebuilt_zone p d (veil p (named d) g)
  veil-rebuilt g = with_is g ∙ ap (with_pieces g) pieces ∙ kept ∙ sym (with_is (veil p (named d) g))
    where
      with_pieces : Segment → List Piece → List Store
      with_pieces g qs =
          let z = zone_on g.seg d in
          let fs = map (λ i. put d z (footer_block p (map (λ (q : Piece). record_bytes q.rec) qs) i) zero_spare) (below (footers p)) in
          put d z (header_block p d (zones_in p g.seg) g.serial g.copied) zero_spare ∷ map (put_piece d z) qs ++ cond g.full fs []

      pieces_of : Segment → List Piece
      pieces_of g = map (λ s. piece_of p (named d) g s d) (counted p (named d) g)

      with_is : (g : Segment) → rebuilt_zone p d g ≡ with_pieces g (pieces_of g)
      with_is g = unfold rebuilt_zone in refl

      counted_same : counted p (named d) g ≡ counted p (named d) (veil p (named d) g)
      counted_same = unfold counted counts has_chunk recs_on veil in refl

      pieces : pieces_of g ≡ pieces_of (veil p (named d) g)
      pieces = map_cong (λ s. piece_of p (named d) g s d) (λ s. piece_of p (named d) (veil p (named d) g) s d) (counted p (named d) g) (λ s i. veil_piece p (named d) g s d (named_in p r d hd))
          ∙ ap (map (λ s. piece_of p (named d) (veil p (named d) g) s d)) counted_same

      kept : with_pieces g (pieces_of (veil p (named d) g)) ≡ with_pieces (veil p (named d) g) (pieces_of (veil p (named d) g))
      kept = unfold veil in refl

  veil_rebuilds : (gs : List Segment) → flat (rebuilt_zone p d) (by_serial gs) ≡ flat (rebuilt_zone p d) (by_serial (map (veil p (named d)) gs))
  veil_rebuilds gs =
      flat_cong (rebuilt_zone p d) (λ (g : Segment). rebuilt_zone p d (veil p (named d) g)) (by_serial gs) (λ g i. veil-rebuilt g)
      ∙ sym (flat_map (rebuilt_zone p d) (veil p (named d)) (by_serial gs))
      ∙ ap (flat (rebuilt_zone p d)) (veil_order p (named d) gs)

  rebuild_stores_same : (v u : View) → UnseenZonesAlike p v u → rebuild_stores p v d (segments p v (named d)) ≡ rebuild_stores p u d (segments p u (named d))
  unfolding rebuild_stores
  rebuild_stores_same v u al = ap₂ (λ (l : List ℕ) (ss : List Store). map (reset d) (good_zones p l d) ++ ss) al.same_list_holds
      (veil_rebuilds (segments p v (named d))
      ∙ ap (λ (gs : List Segment). flat (rebuilt_zone p d) (by_serial gs)) (veiled_same p v u al (named d) (named_here p r d hd))
      ∙ sym (veil_rebuilds (segments p u (named d))))

module _ (p : Params) (long : Bool) (v u : View) (list : v.offline ≡ u.offline) (alike : long ≡ true → UnseenZonesAlike p v u) (m : Memory) (d : ℕ) where
  abbrev bv : List Segment
  bv = segments p v (named d)

  abbrev bu : List Segment
  bu = segments p u (named d)

  rebuild_checks_same : first_refusal (rebuild_checks p long v m d bv) ≡ first_refusal (rebuild_checks p long u m d bu)
  unfolding rebuild_checks image_checks first_refusal
  rebuild_checks_same =
      front p v u list (not (in_range p) || not (names_missing p m.state d)) (not long)
      (behind (pointer_faults p v (named d)) (segment_faults p v (named d) bv)) (behind (pointer_faults p u (named d)) (segment_faults p u (named d) bu))
      (λ c1 c2.
      let one = or-false (not (in_range p)) (not (names_missing p m.state d)) c1 in
      let r = ranged p (not-false (in_range p) one.0) in
      let low = named_here p r d (low_drive_holds (not-false (names_missing p m.state d) one.1)) in
      let al = alike (not-false long c2) in
      λ i. behind (pointer_faults_same p v u al (named d) i) (read_faults_same p v u al (named d) low i))
    where
      low_drive_holds : names_missing p m.state d ≡ true → d < p.N
      low_drive_holds q = unfold names_missing in ltb-true d p.N (and_left (ltb d p.N) (eqb m.state.missing (named d)) q)

      behind : List ℕ → List ℕ → Opt Answer
      behind ps ss = ninth ps (ninth (cond (is_nil ps) ss []) none)

  pub rebuild_same : rebuild_verdict p long v m d ≡ rebuild_verdict p long u m d
  unfolding rebuild_verdict
  rebuild_same = decided_same (first_refusal (rebuild_checks p long v m d bv)) (first_refusal (rebuild_checks p long u m d bu))
      (mk_plan (rebuild_stores p v d bv) Rebuilt m []) (mk_plan (rebuild_stores p u d bu) Rebuilt m []) rebuild_checks_same
      (λ e. let c = rebuild_passed p long v m d bv e in
      ap (λ (ss : List Store). mk_plan ss Rebuilt m []) (rebuild_stores_same p (ranged p c.in_range_holds) d c.drive_low v u (alike c.lent)))
