-- Restart (01, Restart and rebuild). Assumes nothing.
use Rattle.std.specs.Prelude.{List, [], ◌∷◌, ◌++◌, map, Bool, cond, not, ◌&&◌, ◌||◌, ℕ, suc, ◌-◌, ltb, eqb, length, get_or}
use Rattle.spec.specs.declared.Params.{Params}
use Rattle.spec.specs.declared.Report.{Report}
use Rattle.spec.specs.declared.Answer.TheVariants.{Restarted}
use Rattle.spec.specs.Calls.{Check, first_refusal, Plan, mk_plan, Verdict, decided}
use Rattle.spec.specs.Calls.Check.{rule}
use Rattle.spec.specs.Counts.{last_count}
use Rattle.spec.specs.Drives.{no_zone, View, Store, store_view_of, store_all, good_zones, zone_on, header_stores, footer_stores, reset_stores, seg_with}
use Rattle.spec.specs.Drives.Store.{reset}
use Rattle.spec.specs.Faults.{footers_stored, image_checks}
use Rattle.spec.specs.Layout.{data_position, is_data, parity_position, data_drives, mk_rec}
use Rattle.spec.specs.Lists.{below, any, keep, is_nil, flat, total, first_or, same_list, rising}
use Rattle.spec.specs.Memory.{Memory, mk_memory, idle_state}
use Rattle.spec.specs.Params.{in_range, footers, no_drive, named, drives_of}
use Rattle.spec.specs.Parity.{Piece, mk_piece, encode_piece}
use Rattle.spec.specs.Segments.{Segment, segments, counted, uncounted, stored_piece, put_piece, candidates, address_table, compact_table, greatest_stamp, greatest_serial, unsealed}
use Rattle.spec.specs.Segments.{is_used, serial_in, bearing}
use Rattle.spec.specs.Write.{list_rules}
use Rattle.spec.specs.declared.Seg.{Seg}

-- ---- step 4

-- 02, item 4: the good zones of a drive that no remaining segment has: empty once the dropped ones are reset
unfoldable pub free_zones : Params → View → List Segment → ℕ → List ℕ
free_zones p v gs d = keep (λ z. not (any (λ (g : Segment). eqb (zone_on g.seg d) z) gs)) (good_zones p v.offline d)

-- 02, item 4: the rewrite takes each drive's lowest
unfoldable pub free_seg : Params → View → List Segment → Seg
free_seg p v gs = seg_with p (λ d. first_or 0 (free_zones p v gs d))

-- 01, Refusals, 8: some drive has none
unfoldable pub none_free_of : Params → View → List Segment → Bool
none_free_of p v gs = any (λ d. is_nil (free_zones p v gs d)) (drives_of p)

-- 02, item 4: every serial on the drives, rising
unfoldable pub serials_there : Params → View → List ℕ
serials_there p v = rising (flat (λ d. map (serial_in p v d) (keep (is_used p v d) (below p.Z))) (drives_of p))

-- 01, Restart, 1 and 2: those of dropped segments
unfoldable pub dropped_serials : Params → View → List Segment → List ℕ
dropped_serials p v gs = keep (λ r. not (any (λ (g : Segment). eqb g.serial r) gs)) (serials_there p v)

-- 01, Restart, 4: all S stripes count
unfoldable pub is_whole : Params → Segment → Bool
is_whole p g = eqb (length (counted p 0 g)) p.S

-- 01, Restart, 4: its counted stripes aren't 0 to c - 1, or other chunks exist
unfoldable pub is_ragged : Params → Segment → Bool
is_ragged p g =
    not (is_whole p g) && (not (same_list (counted p 0 g) (below (length (counted p 0 g)))) || not (is_nil (uncounted p 0 g)))

-- 01, Restart, 4: missing footers
unfoldable pub missing_footers : Params → Segment → List Store
missing_footers p g = flat (λ d.
    let q = get_or g.zones_by_holds d no_zone in
    footer_stores p d (zone_on g.seg d) q (footers_stored p q) (footers p - footers_stored p q)) (drives_of p)

-- 01, Restart, 4: stripe s of g as stripe k of zone z: data position i to position i, parity worked out anew
unfoldable pub renumbered : ℕ → Piece → Piece
renumbered k q = mk_piece q.block (mk_rec q.rec.address q.rec.stamp k)

-- 01, Restart, 4: the data of stripe s, renumbered
unfoldable pub moved_pieces : Params → Segment → ℕ → ℕ → List Piece
moved_pieces p g s k = map (λ d. renumbered k (stored_piece g s d)) (data_drives p s)

-- 01, Restart, 4: what drive d gets of it
unfoldable pub moved_on : Params → List Piece → ℕ → ℕ → Piece
moved_on p qs k d =
    let a = get_or qs (data_position p k d) (mk_piece [] (mk_rec 0 0 0)) in
    let b = encode_piece p (parity_position p k d) k qs in
    cond (is_data p k d) a b

-- 01, Restart, 4: its stores, by drive
unfoldable pub moved_stripe : Params → Segment → Seg → ℕ → ℕ → List Store
moved_stripe p g z s k =
    let qs = moved_pieces p g s k in
    map (λ d. put_piece d (zone_on z d) (moved_on p qs k d)) (drives_of p)

-- the stripes ss, numbered from k
unfoldable pub moved_stripes : Params → Segment → Seg → List ℕ → ℕ → List Store
moved_stripes p g z [] k = []
moved_stripes p g z (s ∷ ss) k = moved_stripe p g z s k ++ moved_stripes p g z ss (suc k)

-- 01, Restart, 4: headers naming the old serial, the counted stripes, then the old zones reset
unfoldable pub rewrite_stores : Params → Segment → Seg → ℕ → List Store
rewrite_stores p g z serial = header_stores p z serial g.serial ++ moved_stripes p g z (counted p 0 g) 0 ++ reset_stores p g.seg

-- 01, Restart, 4: dropped segments are reset; 02, item 4: all zones that bear a dropped serial, the lower serial first, by drive
unfoldable pub drop_stores : Params → View → List Segment → List Store
drop_stores p v gs = flat (λ r. flat (λ d. map (reset d) (bearing p v d r)) (drives_of p)) (dropped_serials p v gs)

-- 01, Restart, 4: missing footers, or the rewrite
unfoldable pub mend_stores : Params → View → List Segment → Segment → List Store
mend_stores p v gs g =
    let a = missing_footers p g in
    let b = rewrite_stores p g (free_seg p v gs) (suc (greatest_serial gs)) in
    let c = cond (is_ragged p g) b [] in
    cond (is_whole p g) a c

-- 01, Restart, 4 and 5: the stores of a restart
unfoldable pub restart_stores : Params → View → ℕ → List Segment → List Store
restart_stores p v gone gs =
    let ss = drop_stores p v gs ++ flat (mend_stores p v gs) (unsealed gs) in
    cond (eqb gone 0) ss []

-- ---- restart

-- 01, Restart: the open segment is the unsealed one; 02, item 4: by its serial
unfoldable pub open_of_of : List Segment → ℕ
open_of_of [] = 0
open_of_of (g ∷ gs) = g.serial

-- 01, Write: the next stripe number of the open segment
unfoldable pub next_of : Params → List Segment → ℕ
next_of p [] = 0
next_of p (g ∷ gs) = length (counted p 0 g)

-- 01, Restart: state and tables of what the drives say after its stores
unfoldable pub restart_memory : Params → View → ℕ → List ℕ → Memory
restart_memory p v gone fl =
    let gs = segments p v gone in
    let cs = candidates p gone gs in
    let us = cond (eqb gone 0) (unsealed gs) [] in
    mk_memory (idle_state 1 gone (greatest_stamp cs) (greatest_serial gs) (open_of_of us) (next_of p us)) (address_table p cs) (compact_table p gs) fl

-- 01, Restart: stripes with some chunk but not counted, in remaining segments, as found before step 4
unfoldable pub uncounted_in : Params → ℕ → List Segment → ℕ
uncounted_in p gone gs = total (map (λ (g : Segment). length (uncounted p gone g)) gs)

-- 01, Restart: what a restart did; today the answer gives the uncounted stripes alone (02, item 14)
unfoldable pub report_of : Params → ℕ → List Segment → Report
report_of p gone gs = record { uncounted = uncounted_in p gone gs }

-- 01, Refusals, 1: missing drive below N or 255
unfoldable pub names_drive : Params → ℕ → Bool
names_drive p d = ltb d p.N || eqb d no_drive

-- 01, Restart, 4: a rewrite is due
unfoldable pub rewrites : Params → ℕ → List Segment → Bool
rewrites p gone gs = eqb gone 0 && any (is_ragged p) (unsealed gs)

-- 01, Refusals: in restart 9 comes before 6 and 8
unfoldable pub restart_checks : Params → Bool → View → ℕ → List Segment → List Check
restart_checks p long v d gs =
    rule 1 (not (in_range p) || not (names_drive p d)) ∷ rule 2 (not long) ∷ list_rules p v ++ image_checks p v (named d) gs
    ++ (rule 6 (rewrites p (named d) gs && eqb (greatest_serial gs) last_count) ∷ rule 8 (rewrites p (named d) gs && none_free_of p v gs) ∷ [])

-- 01, Restart: stores, answer and memory
unfoldable pub restart_plan : Params → View → ℕ → List Segment → List ℕ → Plan
restart_plan p v d gs fl =
    let ss = restart_stores p v (named d) gs in
    mk_plan ss (Restarted (report_of p (named d) gs)) (restart_memory p (store_all store_view_of ss v) (named d) fl) []

-- 01, Restart
unfoldable pub restart_verdict : Params → Bool → View → Memory → ℕ → Verdict
restart_verdict p long v m d =
    let gs = segments p v (named d) in
    let q = restart_plan p v d gs m.inflight in
    decided (first_refusal (restart_checks p long v d gs)) q
