-- A restart's stores fit, and behind them no remaining segment has a bad stripe number or a bad data address (01, Restart, 4; Refusals, 9). Assumes nothing.
use Rattle.std.specs.Prelude.{ℕ, suc, ◌+◌, ◌^◌, ◌<◌, eqb, length, get_or, Bool, true, false, ◌&&◌, List, [], ◌++◌, ◌⊎◌, ◌≡◌}
use Rattle.spec.specs.Counts.{last_count}
use Rattle.spec.specs.Drives.{no_chunk, View, zone_at, pointer_at, Store, store_view_of, store_all, zone_on, sealed_in, data_stored, record_in}
use Rattle.spec.specs.Faults.{outside, twice, stripe_fault, stored_bad}
use Rattle.spec.specs.Layout.{data_drive, data_position, is_data, Rec, mk_rec, record_bytes, record_of_of}
use Rattle.spec.specs.Lists.{all, any, flat}
use Rattle.spec.specs.Params.{data_count, capacity, present}
use Rattle.spec.specs.Parity.{Piece}
use Rattle.spec.specs.Restart.{is_whole, missing_footers, renumbered, rewrite_stores, drop_stores, mend_stores, restart_stores, rewrites, free_seg, none_free_of}
use Rattle.spec.specs.Segments.{remaining, Segment, records_in, segment_of, segments, offset_on, has_chunk, counted, stored_piece, stored_rec, greatest_serial, unsealed}
use Rattle.spec.specs.declared.Params.{Params}
use Rattle.law_basic.specs.Geometry.{Ranged, drive_is_data, data_drive_lt, position_lt}
use Rattle.law_basic.specs.Mask.{is_in_empty}
use Rattle.law_basic.specs.Ranges.{Test, test}
use Rattle.law_basic.specs.Ranges.Test.{yes!, no! }
use Rattle.law_basic.specs.Stores.{store_all-append}
use Rattle.law_basic.specs.Segs.{segs_differ}
use Rattle.law_restart.specs.Feet.{records_footed}
use Rattle.law_restart.specs.Stripes.{fault_none, in_order, bad_data, data_none, bad-none, none-bad, zone_none_bad, good_at, moved_good, parity_good}
use Rattle.law_drives.specs.Accept.{Accepted, faults_apart, zone_stripes, open_footers, zone_in_range}
use Rattle.law_drives.specs.Dropping.{drop_same, there_kept}
use Rattle.law_drives.specs.Joins.{roomy_append, within_append, stores_none}
use Rattle.law_drives.specs.Laid.{record_back, address_low, stamp_low}
use Rattle.law_drives.specs.Members.{In, in_all, in_get_d}
use Rattle.law_drives.specs.Mended.{mended, mends, serials-small, Mends, mends_of}
use Rattle.law_drives.specs.Mended.Mends.{mends_none, mends_plain, mends_footers, mends-rewrite}
use Rattle.law_drives.specs.Mending.{Mended, has_pointer, b_zone, b_pointer, drop_roomy, drop_within, b_grows, b_same}
use Rattle.law_drives.specs.Range.{capacity_over}
use Rattle.law_drives.specs.Rebuilding.{counted-low, counted_in}
use Rattle.law_drives.specs.Rewriting.{moved_data, same_else, new_stripe, new_record, open_now, under!, used_moved}
use Rattle.law_drives.specs.Segs.{data_low, chunk_at_holds, remaining_left}
use Rattle.law_drives.specs.Settled.{SameZones, zones_segment, zero_here}
use Rattle.law_drives.specs.Spots.{counts_in}
use Rattle.law_drives.specs.Zones.{Bytes, Shaped, all_fit}
use Rattle.law_views.specs.Views.{AllFit}
use Rattle.std.proofs.Common.{eq-eqb, inl, inr, sym, ap, ap₂, ◌∙◌, subst, arith}
use Rattle.std.proofs.Math.Path.{refl}
use Rattle.spec.specs.declared.Seg.{Seg}
use Rattle.law_drives.specs.Gather.{present_in}
use Rattle.law_drives.specs.Growing.{grows_was}
use Rattle.law_drives.specs.Headers.{Vacant}
use Rattle.law_drives.specs.Tidy.{There}

-- what loading the memory asks for: no bad stripe number, and no bad data address stored
abbrev pub GoodSegment : Params → ℕ → Segment → Type 0
GoodSegment p gone g = (stripe_fault p gone g ≡ false) × (bad_data p gone g ≡ false)

-- of every remaining segment
abbrev pub AllGood : Params → View → ℕ → Type 0
AllGood p v gone = (g : Seg) → In g (remaining p v gone) → GoodSegment p gone (segment_of p v gone g)

-- what is accepted passes it
pub accepted_fine : (p : Params) (v : View) (gone : ℕ) → Accepted p v gone → AllGood p v gone
accepted_fine p v gone acc g m = let ok = faults_apart p v gone acc g m in (ok.no_stripe_fault, data_none p gone (segment_of p v gone g) ok.no_address_fault)

-- 01, Restart, 4: with none missing, the resets, then the mending
pub healthy_stores : (p : Params) (v : View) (gs : List Segment) → restart_stores p v 0 gs ≡ drop_stores p v gs ++ flat (mend_stores p v gs) (unsealed gs)
unfolding restart_stores
healthy_stores p v gs = refl

-- of every segment that there is
abbrev pub ThereGood : Params → View → Type 0
ThereGood p v = (y : Seg) → There p v y → GoodSegment p 0 (segment_of p v 0 y)

-- so of what remains
pub there_all_good : (p : Params) (v : View) → ThereGood p v → AllGood p v 0
there_all_good p v f g m = f g (remaining_left p v 0 g m)

module _ (p : Params) (r : Ranged p) (v : View) (sh : Shaped p v) (acc : Accepted p v 0) where
  abbrev gs : List Segment
  gs = segments p v 0

  abbrev va : View
  va = store_all store_view_of (drop_stores p v gs) v

  -- a segment whose zones are as they were found
  as_found : (u : View) (y : Seg) → In y (remaining p v 0) → SameZones p v u y → GoodSegment p 0 (segment_of p u 0 y)
  as_found u y k sm = subst (λ (x : Segment). GoodSegment p 0 x) (zones_segment p r v u y sm) (accepted_fine p v 0 acc y k)

  -- once the dropped segments are reset
  fine_none : ThereGood p va
  fine_none y q = let k = there_kept p r v sh acc y q in as_found va y k (drop_same p r v sh acc y k)

  module _ (g : Seg) (kg : In g (remaining p v 0)) (ng : sealed_in p v 0 g ≡ false)
      (oth : (y : Seg) → In y (remaining p v 0) → (y ≡ g → ⊥) → sealed_in p v 0 y ≡ true) where
    abbrev x : Segment
    x = segment_of p v 0 g

    -- 01, Restart, 4: all its stripes count, and its footers are completed
    module _ (wh : is_whole p x ≡ true) where
      abbrev vb : View
      vb = store_all store_view_of (missing_footers p x) va

      sealed_b : sealed_in p vb 0 g ≡ true
      sealed_b =
          as! (in_all (λ e. eqb (pointer_at vb e (zone_on g e)) (capacity p)) (present p 0)
          (λ e m. eq-eqb (pointer_at vb e (zone_on g e)) (capacity p) (b_pointer p r v sh acc g kg ng oth wh e (present_in p 0 e m).0)))
        where
          as! : all (λ e. eqb (pointer_at vb e (zone_on g e)) (capacity p)) (present p 0) ≡ true → sealed_in p vb 0 g ≡ true
          as! q = unfold sealed_in in q

      same_records : (d : ℕ) → d < p.N → records_in p (sealed_in p vb 0 g) (zone_at vb d (zone_on g d)) ≡ records_in p (sealed_in p v 0 g) (zone_at v d (zone_on g d))
      same_records d hd =
          ap₂ (records_in p) sealed_b (b_zone p r v sh acc g kg ng oth wh d hd)
          ∙ records_footed p r (zone_at v d (zone_on g d)) (sh.zone_ok d (zone_on g d) hd (zone_in_range p v 0 acc (zero_here p r) g d kg hd)) (has_pointer p r v sh acc g kg ng oth wh d hd)
          (open_footers p v 0 acc g d kg hd (is_in_empty d) ng) d (zone_on g d)
          ∙ ap (λ (w : Bool). records_in p w (zone_at v d (zone_on g d))) (sym ng)

      fine_footers : ThereGood p vb
      fine_footers y q = go (segs_differ y g)
        where
          go : Dec (y ≡ g) → GoodSegment p 0 (segment_of p vb 0 y)
          go (yes e) = subst (λ (n : Seg). GoodSegment p 0 (segment_of p vb 0 n)) (sym e) (
            fault_none p vb 0 g (λ d hd i.
                let (a, b) = zone_stripes p v 0 acc g d kg hd i in
                (ap (outside p 0) (same_records d hd) ∙ a, ap twice (same_records d hd) ∙ b)),
            bad-none p vb 0 g (λ d hd i. ap (any (stored_bad p d)) (same_records d hd) ∙ none-bad p v 0 g d hd i (accepted_fine p v 0 acc g kg).1),
          )
          go (no n) =
              let m : There p va y = grows_was p r va vb g (b_grows p r v sh acc g kg ng oth wh) y q in
              let sm : SameZones p va vb y = b_same p r v sh acc g kg ng oth wh y m (λ e. n (sym e)) in
              let k = there_kept p r v sh acc y m in
              as_found vb y k (λ d hd. drop_same p r v sh acc y k d hd ∙ sm d hd)

    -- 01, Restart, 4: the counted stripes are rewritten
    module _ (z0 : Seg) (vz : Vacant p (store_all store_view_of (drop_stores p v (segments p v 0)) v) z0) (fit : suc (greatest_serial (segments p v 0)) < 256 ^ 8) (nw : is_whole p x ≡ false) where
      abbrev vc : View
      vc = store_all store_view_of (rewrite_stores p x z0 (suc (greatest_serial gs))) va

      open! : sealed_in p vc 0 z0 ≡ false
      open! = open_now p r v sh acc g kg ng oth z0 vz fit nw

      -- the address and the stamp of a stored chunk have 8 bytes
      record-fields-low :
          (d o : ℕ)
          → d < p.N
          → o < data_stored p (zone_at v d (zone_on g d))
          → ((record_in p (sealed_in p v 0 g) (zone_at v d (zone_on g d)) o).address < 256 ^ 8) × ((record_in p (sealed_in p v 0 g) (zone_at v d (zone_on g d)) o).stamp < 256 ^ 8)
      record-fields-low d o hd h =
          let l : 1 + o < capacity p = (let a = (data_low p (zone_at v d (zone_on g d)) o h).0 in let b = capacity_over p r in omega arith) in
          as! ((sh.zone_ok d (zone_on g d) hd (zone_in_range p v 0 acc (zero_here p r) g d kg hd)).sound (1 + o) l).spare_bytes
        where
          as! :
              Bytes (get_or (zone_at v d (zone_on g d)).blocks (1 + o) no_chunk).spare
              → ((record_in p (sealed_in p v 0 g) (zone_at v d (zone_on g d)) o).address < 256 ^ 8) ×
              ((record_in p (sealed_in p v 0 g) (zone_at v d (zone_on g d)) o).stamp < 256 ^ 8)
          as! b = subst (λ (w : Bool). ((record_in p w (zone_at v d (zone_on g d)) o).address < 256 ^ 8) × ((record_in p w (zone_at v d (zone_on g d)) o).stamp < 256 ^ 8)) (sym ng)
              (unfold record_in in (address_low (get_or (zone_at v d (zone_on g d)).blocks (1 + o) no_chunk).spare b, stamp_low (get_or (zone_at v d (zone_on g d)).blocks (1 + o) no_chunk).spare b))

      -- a chunk that was moved is not bad
      new_good : (d o : ℕ) → d < p.N → o < length (counted p 0 x) → stored_bad p d (record_in p false (zone_at vc d (zone_on z0 d)) o) ≡ false
      new_good d o hd h = go (test (is_data p o d))
        where
          number! : (record_in p false (zone_at vc d (zone_on z0 d)) o).stripe ≡ o
          number! = new_stripe p r v sh acc g kg ng oth z0 vz fit d o hd h

          low_four : o < 256 ^ 4
          low_four = let a = counted-low p 0 x in let b = r.stripes_high in omega arith

          rec! : (s e : ℕ) → (renumbered o (stored_piece x s e)).rec ≡ mk_rec (stored_rec x s e).address (stored_rec x s e).stamp o
          rec! s e = unfold renumbered stored_piece stored_rec in refl

          go : Test (is_data p o d) → stored_bad p d (record_in p false (zone_at vc d (zone_on z0 d)) o) ≡ false
          go (no! q) = parity_good p d (record_in p false (zone_at vc d (zone_on z0 d)) o) (ap (λ (n : ℕ). is_data p n d) number! ∙ q)
          go (yes! q) =
              let s = get_or (counted p 0 x) o 0 in
              let m : In s (counted p 0 x) = in_get_d (counted p 0 x) o 0 h in
              let e = new_record p r v sh acc g kg ng oth z0 vz fit d o hd h in
              let i = data_position p o d in
              let hi : i < data_count p = position_lt p o d q hd in
              let D = data_drive p s i in
              let hD : D < p.N = data_drive_lt p s i hi in
              let has : has_chunk x s D ≡ true = counts_in p 0 x s D (counted_in p 0 x s m).1 hD (is_in_empty D) in
              let c = chunk_at_holds p v 0 g D s hD (is_in_empty D) has in
              let off = offset_on x D s in
              let y = record_in p (sealed_in p v 0 g) (zone_at v D (zone_on g D)) off in
              let (la, lt) = record-fields-low D off hD c.stored_there in
              let f : record_in p false (zone_at vc d (zone_on z0 d)) o ≡ mk_rec y.address y.stamp o =
              e ∙ ap (λ (a : Piece). record_of_of (record_bytes a.rec)) (moved_data p r v sh acc g kg ng oth z0 vz fit s o d q hd)
              ∙ ap (λ (a : Rec). record_of_of (record_bytes a)) (rec! s D ∙ ap (λ (a : Rec). mk_rec a.address a.stamp o) c.its_record)
              ∙ record_back (mk_rec y.address y.stamp o) la lt low_four in
              moved_good p D d y (record_in p false (zone_at vc d (zone_on z0 d)) o) (ap (λ (n : ℕ). is_data p n D) c.its_stripe ∙ drive_is_data p s i)
              (good_at p (sealed_in p v 0 g) (zone_at v D (zone_on g D)) D off c.stored_there (none-bad p v 0 g D hD (is_in_empty D) (accepted_fine p v 0 acc g kg).1))
              (ap (λ (a : Rec). a.address) f) (ap (λ (a : Rec). a.stamp) f)

      fine_rewrite : ThereGood p vc
      fine_rewrite y q = go (used_moved p r v sh acc g kg ng oth z0 vz fit y q)
        where
          few! : (d o : ℕ) → d < p.N → o < data_stored p (zone_at vc d (zone_on z0 d)) → o < length (counted p 0 x)
          few! d o hd h = under! p r v sh acc g kg ng oth z0 vz fit nw d o hd h

          go : (y ≡ z0) ⊎ (In y (remaining p v 0) × ((z0 ≡ y → ⊥) × (g ≡ y → ⊥))) → GoodSegment p 0 (segment_of p vc 0 y)
          go (inl e) = subst (λ (n : Seg). GoodSegment p 0 (segment_of p vc 0 n)) (sym e) (
            fault_none p vc 0 z0 (λ d hd i.
                in_order p (sealed_in p vc 0 z0) (zone_at vc d (zone_on z0 d)) (λ o h.
                ap (λ (w : Bool). (record_in p w (zone_at vc d (zone_on z0 d)) o).stripe) open!
                ∙ new_stripe p r v sh acc g kg ng oth z0 vz fit d o hd (few! d o hd h))),
            bad-none p vc 0 z0 (λ d hd i.
                zone_none_bad p (sealed_in p vc 0 z0) (zone_at vc d (zone_on z0 d)) d
                (λ o h. ap (λ (w : Bool). stored_bad p d (record_in p w (zone_at vc d (zone_on z0 d)) o)) open! ∙ new_good d o hd (few! d o hd h))),
          )
          go (inr (k, (a, b))) = as_found vc y k (λ d hd. drop_same p r v sh acc y k d hd ∙ same_else p r v sh acc g kg ng oth z0 vz fit y k b d hd)

  -- ---- the unsealed segment, in each case

  -- behind all stores, every segment that there is can be loaded
  fine_mend : rewrites p 0 gs && eqb (greatest_serial gs) last_count ≡ false → rewrites p 0 gs && none_free_of p v gs ≡ false → greatest_serial gs < 256 ^ 8
      → ThereGood p (store_all store_view_of (flat (mend_stores p v gs) (unsealed gs)) va)
  fine_mend c6 c8 bd = go (mends p r v sh acc c6 c8 bd)
    where
      by : (l : List Store) → mends_of p v ≡ l → ThereGood p (store_all store_view_of l va) → ThereGood p (store_all store_view_of (mends_of p v) va)
      by l e f = subst (λ (l : List Store). ThereGood p (store_all store_view_of l va)) (sym e) f

      none : ThereGood p (store_all store_view_of [] va)
      none = subst (λ (u : View). ThereGood p u) (sym (stores_none va)) fine_none

      go : Mends p v → ThereGood p (store_all store_view_of (mends_of p v) va)
      go (mends_none us f e) = by [] e none
      go (mends_plain g o nw nr e) = by [] e none
      go (mends_footers g o wh e) = by (missing_footers p (segment_of p v 0 g)) e (fine_footers g o.open_remains o.open_unsealed o.open_others wh)
      go (mends-rewrite g o nw rg vz fit e) =
          by (rewrite_stores p (segment_of p v 0 g) (free_seg p v gs) (suc (greatest_serial gs))) e
          (fine_rewrite g o.open_remains o.open_unsealed o.open_others (free_seg p v gs) vz fit nw)

-- 01, Restart, 4: the stores fit, and what they leave can be loaded
pub record Settled (p : Params) (v : View) : Type 0 where
  pub fits : AllFit p v (restart_stores p v 0 (segments p v 0))
  pub fine : AllGood p (store_all store_view_of (restart_stores p v 0 (segments p v 0)) v) 0

-- 01, Restart, 4: so it is where no check of the restart holds
pub settled : (p : Params) (r : Ranged p) (v : View) → Shaped p v → Accepted p v 0
    → rewrites p 0 (segments p v 0) && eqb (greatest_serial (segments p v 0)) last_count ≡ false → rewrites p 0 (segments p v 0) && none_free_of p v (segments p v 0) ≡ false → Settled p v
settled p r v sh acc c6 c8 =
    let gs = segments p v 0 in
    let bd = serials-small p r v sh in
    let ds = drop_stores p v gs in
    let ts = flat (mend_stores p v gs) (unsealed gs) in
    let va = store_all store_view_of ds v in
    let md : Mended p va ts = mended p r v sh acc c6 c8 bd in
    let v2 = store_all store_view_of ts va in
    let fm : ThereGood p v2 = fine_mend p r v sh acc c6 c8 bd in
    let ev : store_all store_view_of (ds ++ ts) v ≡ v2 = store_all-append store_view_of ds ts v in
    let es : restart_stores p v 0 gs ≡ ds ++ ts = healthy_stores p v gs in
    record {
      fits = subst (λ (l : List Store). AllFit p v l) (sym es)
          (all_fit p v (ds ++ ts) sh.sized (within_append p ds ts (drop_within p r v sh acc) md.mend_within) (roomy_append p v ds ts sh.sized (drop_roomy p r v sh acc) md.mend_roomy));
      fine = subst (λ (u : View). AllGood p u 0) (sym (ap (λ (l : List Store). store_all store_view_of l v) es ∙ ev)) (there_all_good p v2 fm);
    }
