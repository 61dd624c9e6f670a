-- What each call stores, keeps in flight and fills is bytes: headers, records and footers as they are laid out, data from the image or the
-- in-flight buffer, parity as the exclusive or of bytes. Assumes nothing.
use Rattle.std.proofs.Common.{sym, ap, ◌∙◌}
use Rattle.std.proofs.Math.Path.{subst, refl}
use Rattle.std.specs.Prelude.{◌≡◌, Bool, true, false, cond, not, eqb, get_or, take, drop, replicate}
use mathlib.Core.List.{List, [], ◌∷◌, ◌++◌, map}
use Prim.Native.Nat.{ℕ, zero, suc, ◌+◌, ◌-◌}
use Rattle.spec.specs.declared.Params.{Params}
use Rattle.spec.specs.declared.State.{State}
use Rattle.spec.specs.declared.Answer.{Answer}
use Rattle.spec.specs.declared.Answer.TheVariants.{Rebuilt}
use Rattle.spec.specs.Calls.{Plan, mk_plan}
use Rattle.spec.specs.Closing.{padded, close_plan}
use Rattle.spec.specs.Counts.{padding_address}
use Rattle.spec.specs.Drives.{Chunk, no_chunk, Zone, no_zone, View, zone_at, chunk_at, store_view_of, zone_on, spares_of, footers_of, zero_spare, header_stores, footer_stores, zones_in, good_zones}
use Rattle.spec.specs.Drives.{reset_stores, new_seg}
use Rattle.spec.specs.Drives.Store.{put, reset}
use Rattle.spec.specs.Landing.{slot_of, seals, flight_rec, seal_stores, land_store, land_plan}
use Rattle.spec.specs.Layout.{header_block, record_bytes, footer_block, mk_rec, data_position, is_data, data_drives, parity_position}
use Rattle.spec.specs.Lists.{up_from, below, flat, first_or, is_in, is_nil, keep, Opt}
use Rattle.spec.specs.Memory.{Memory, stripe_in, filled_in_of, filling_slot, is_full, shown_at, add_entry, slot_byte, slot_block, set_slot_block, set_slot_parity}
use Rattle.spec.specs.Params.{data_count, drives_of, footers, named, place_block, place_zone, place_drive}
use Rattle.spec.specs.Parity.{Piece, mk_piece, encode_block, encode_piece, decode_piece}
use Rattle.spec.specs.Read.{Found, stored_at, decoded_at, read_piece}
use Rattle.spec.specs.Read.Found.{nowhere, here, away}
use Rattle.spec.specs.Rebuild.{rebuilt_zone, rebuild_stores, by_serial}
use Rattle.spec.specs.Reclaim.{Victim, victim_segment, victim_live, reset_plan, copy_plan}
use Rattle.spec.specs.Restart.{is_whole, is_ragged, missing_footers, renumbered, moved_pieces, moved_on, moved_stripe, moved_stripes, rewrite_stores, drop_stores, mend_stores, restart_stores}
use Rattle.spec.specs.Restart.{restart_memory, restart_plan, dropped_serials, free_seg}
use Rattle.spec.specs.Segments.{remaining, Segment, segment_of, segments, counted, offset_on, stored_piece, piece_of, put_piece, greatest_serial, unsealed, open_segment, place_segment}
use Rattle.spec.specs.Segments.{bearing}
use Rattle.spec.specs.Write.{placed, slot_for, opens, opened_by, begun_by, sending, write_plan}
use Rattle.law_code.specs.Chunks.{chunk_stored, chunk_decoded, moved_is_data, moved_is_parity}
use Rattle.law_code.specs.Code.{encode_bytes, encode_apart, decode_bytes, decode_apart}
use Rattle.law_basic.specs.Each.{each_map, each_data}
use Rattle.law_basic.specs.Ranges.{Test, test}
use Rattle.law_basic.specs.Ranges.Test.{yes!, no! }
use Rattle.law_drives.specs.Image.{bytes_part}
use Rattle.law_drives.specs.Laid.{bytes_nil, bytes_zeros, bytes_header, bytes_zero_spare, bytes_record, bytes_footer, in_take, in_drop}
use Rattle.law_drives.specs.Members.{In, map_in, get_d_in, keep_in}
use Rattle.law_drives.specs.Zones.{Bytes}
use Rattle.proof_bytes.specs.Images.{bytes_splice, get_map, BytesOfZone, ViewBytes, no_zone_bytes, StoreBytes, StoresBytes, store_view, stores_bytes_none, stores_bytes_cons}
use Rattle.proof_bytes.specs.Images.{stores_bytes_append}
use Rattle.proof_bytes.specs.Images.{stores_cond, stores_map, stores_flat}
use Rattle.spec.specs.declared.Seg.{Seg}
use Rattle.law_drives.specs.Rebuilding.{rebuilding_serial_in}

-- ---- headers, footers, resets

headers_bytes : (p : Params) (g : Seg) (serial copied : ℕ) → StoresBytes (header_stores p g serial copied)
unfolding header_stores
headers_bytes p g serial copied = stores_map (λ d. put d (zone_on g d) (header_block p d (zones_in p g) serial copied) zero_spare) (drives_of p)
    (λ d m. (bytes_header p d (zones_in p g) serial copied, bytes_zero_spare))

resets_bytes : (p : Params) (g : Seg) → StoresBytes (reset_stores p g)
unfolding reset_stores
resets_bytes p g = stores_map (λ d. reset d (zone_on g d)) (drives_of p) (λ d m. tt)

zone_spares_bytes : (p : Params) (q : Zone) → BytesOfZone q → (s : List ℕ) → In s (spares_of (take p.S (drop 1 q.blocks))) → Bytes s
unfolding spares_of
zone_spares_bytes p q h s m =
    let (c, i, e) = map_in (λ (c : Chunk). c.spare) (take p.S (drop 1 q.blocks)) s m in
    let (k, l, f) = get_d_in q.blocks no_chunk c (in_drop 1 q.blocks c (in_take p.S (drop 1 q.blocks) c i)) in
    subst Bytes (sym (e ∙ ap (λ (c : Chunk). c.spare) f)) (h k).1

footers_bytes : (p : Params) (d z : ℕ) (q : Zone) (i n : ℕ) → BytesOfZone q → StoresBytes (footer_stores p d z q i n)
unfolding footer_stores footers_of
footers_bytes p d z q i n h =
    let ss = spares_of (take p.S (drop 1 q.blocks)) in
    stores_map (λ (b : List ℕ). put d z b zero_spare) (map (footer_block p ss) (up_from i n))
    (λ b m. let (j, x, e) = map_in (footer_block p ss) (up_from i n) b m in (subst Bytes (sym e) (bytes_footer p ss j (zone_spares_bytes p q h)), bytes_zero_spare))

-- ---- pieces of a segment

abbrev SegBytes : Segment → Type 0
SegBytes g = (d : ℕ) → BytesOfZone (get_or g.zones_by_holds d no_zone)

segment_bytes : (p : Params) (v : View) (gone : ℕ) (g : Seg) → ViewBytes v → SegBytes (segment_of p v gone g)
unfolding segment_of
segment_bytes p v gone g h d = get_map BytesOfZone (λ e. zone_at v e (zone_on g e)) (drives_of p) d no_zone no_zone_bytes (λ e. h e (zone_on g e))

segments_bytes : (p : Params) (v : View) (gone : ℕ) → ViewBytes v → (g : Segment) → In g (segments p v gone) → SegBytes g
unfolding segments
segments_bytes p v gone h g m =
    let (n, i, e) = map_in (segment_of p v gone) (remaining p v gone) g m in
    subst SegBytes (sym e) (segment_bytes p v gone n h)

piece_bytes : (g : Segment) (s d : ℕ) → SegBytes g → Bytes (stored_piece g s d).block
unfolding stored_piece
piece_bytes g s d h = (h d (1 + offset_on g d s)).0

-- what is kept by a choice
either : {A : Type 0} (P : A → Type 0) (b : Bool) (x y : A) → P x → P y → P (cond b x y)
either P true x y h g = h
either P false x y h g = g

put_piece_lem : (d z : ℕ) (q : Piece) → Bytes q.block → StoreBytes (put_piece d z q)
unfolding put_piece
put_piece_lem d z q h = (h, bytes_record q.rec)

pieces_bytes : (p : Params) (gone : ℕ) (g : Segment) (s d : ℕ) → SegBytes g → Bytes (piece_of p gone g s d).block
pieces_bytes p gone g s d h = go (test (is_in gone d))
  where
    go : Test (is_in gone d) → Bytes (piece_of p gone g s d).block
    go (yes! e) = subst (λ (q : Piece). Bytes q.block) (sym (chunk_decoded p gone g s d e ∙ decode_apart p gone s d (stored_piece g s)))
        (decode_bytes p gone s d (λ x. (stored_piece g s x).block) (λ x l n. piece_bytes g s x h))
    go (no! e) = subst (λ (q : Piece). Bytes q.block) (sym (chunk_stored p gone g s d e)) (piece_bytes g s d h)

-- ---- restart

module _ (p : Params) (g : Segment) (h : SegBytes g) where
  moved_bytes : (s k d : ℕ) → Bytes (moved_on p (moved_pieces p g s k) k d).block
  moved_bytes s k d = go (test (is_data p k d))
    where
      from : ℕ → Piece
      from e = renumbered k (stored_piece g s e)

      are : moved_pieces p g s k ≡ map from (data_drives p s)
      are = unfold moved_pieces in refl

      one : (e : ℕ) → Bytes (from e).block
      one e = unfold renumbered in piece_bytes g s e h

      go : Test (is_data p k d) → Bytes (moved_on p (moved_pieces p g s k) k d).block
      go (yes! e) = subst (λ (q : Piece). Bytes q.block)
          (sym (moved_is_data p (moved_pieces p g s k) k d e ∙ ap (λ (l : List Piece). get_or l (data_position p k d) (mk_piece [] (mk_rec 0 0 0))) are))
          (get_map (λ (q : Piece). Bytes q.block) from (data_drives p s) (data_position p k d) (mk_piece [] (mk_rec 0 0 0)) bytes_nil one)
      go (no! e) = subst (λ (q : Piece). Bytes q.block)
          (sym (moved_is_parity p (moved_pieces p g s k) k d e ∙ ap (encode_piece p (parity_position p k d) k) are ∙ encode_apart p (parity_position p k d) k from (data_drives p s)))
          (encode_bytes p.B (parity_position p k d) (map (λ x. (from x).block) (data_drives p s))
          (each_map Bytes (λ x. (from x).block) (data_drives p s) (each_data (λ x. Bytes (from x).block) p s (λ x l n. one x))))

  stripes_bytes : (z : Seg) (ss : List ℕ) (k : ℕ) → StoresBytes (moved_stripes p g z ss k)
  unfolding moved_stripes moved_stripe
  stripes_bytes z [] k = stores_bytes_none
  stripes_bytes z (s ∷ ss) k = stores_bytes_append (map (λ d. put_piece d (zone_on z d) (moved_on p (moved_pieces p g s k) k d)) (drives_of p)) (moved_stripes p g z ss (suc k))
      (stores_map (λ d. put_piece d (zone_on z d) (moved_on p (moved_pieces p g s k) k d)) (drives_of p)
      (λ d m. put_piece_lem d (zone_on z d) (moved_on p (moved_pieces p g s k) k d) (moved_bytes s k d)))
      (stripes_bytes z ss (suc k))

  rewrite_bytes : (z : Seg) (serial : ℕ) → StoresBytes (rewrite_stores p g z serial)
  unfolding rewrite_stores
  rewrite_bytes z serial =
      let a = header_stores p z serial g.serial in
      let b = moved_stripes p g z (counted p 0 g) 0 in
      stores_bytes_append (a ++ b) (reset_stores p g.seg) (stores_bytes_append a b (headers_bytes p z serial g.serial) (stripes_bytes z (counted p 0 g) 0)) (resets_bytes p g.seg)

  missing_bytes : StoresBytes (missing_footers p g)
  unfolding missing_footers
  missing_bytes = stores_flat _ (drives_of p) (λ d m. footers_bytes p d (zone_on g.seg d) (get_or g.zones_by_holds d no_zone) _ _ (h d))

  mend_bytes : (v : View) (gs : List Segment) → StoresBytes (mend_stores p v gs g)
  unfolding mend_stores
  mend_bytes v gs =
      stores_cond (is_whole p g) (missing_footers p g) (cond (is_ragged p g) (rewrite_stores p g (free_seg p v gs) (suc (greatest_serial gs))) []) missing_bytes
      (stores_cond (is_ragged p g) (rewrite_stores p g (free_seg p v gs) (suc (greatest_serial gs))) []
      (rewrite_bytes (free_seg p v gs) (suc (greatest_serial gs))) stores_bytes_none)

pub restart_bytes : (p : Params) (v : View) (gone : ℕ) (gs : List Segment) → ((g : Segment) → In g gs → SegBytes g) → StoresBytes (restart_stores p v gone gs)
unfolding restart_stores drop_stores unsealed
restart_bytes p v gone gs h =
    let a = flat (λ r. flat (λ d. map (reset d) (bearing p v d r)) (drives_of p)) (dropped_serials p v gs) in
    let us = keep (λ (g : Segment). not g.full) gs in
    let b = flat (mend_stores p v gs) us in
    stores_cond (eqb gone 0) (a ++ b) []
    (stores_bytes_append a b (stores_flat (λ r. flat (λ d. map (reset d) (bearing p v d r)) (drives_of p)) (dropped_serials p v gs)
    (λ r m. stores_flat (λ d. map (reset d) (bearing p v d r)) (drives_of p) (λ d i. stores_map (reset d) (bearing p v d r) (λ z j. tt))))
    (stores_flat (mend_stores p v gs) us (λ g m. mend_bytes p g (h g (keep_in (λ (g : Segment). not g.full) gs g m).0) v gs)))
    stores_bytes_none

-- ---- rebuild

rebuilt_bytes : (p : Params) (d : ℕ) (g : Segment) → SegBytes g → StoresBytes (rebuilt_zone p d g)
unfolding rebuilt_zone
rebuilt_bytes p d g h =
    let z = zone_on g.seg d in
    let qs = map (λ s. piece_of p (named d) g s d) (counted p (named d) g) in
    let fs = map (λ i. put d z (footer_block p (map (λ (q : Piece). record_bytes q.rec) qs) i) zero_spare) (below (footers p)) in
    let zs = zones_in p g.seg in
    stores_bytes_append (put d z (header_block p d zs g.serial g.copied) zero_spare ∷ map (put_piece d z) qs) (cond g.full fs [])
    (stores_bytes_cons (put d z (header_block p d zs g.serial g.copied) zero_spare) (map (put_piece d z) qs) (bytes_header p d zs g.serial g.copied, bytes_zero_spare)
    (stores_map (put_piece d z) qs
    (λ q m. let (s, i, e) = map_in (λ s. piece_of p (named d) g s d) (counted p (named d) g) q m in
    put_piece_lem d z q (subst (λ (y : Piece). Bytes y.block) (sym e) (pieces_bytes p (named d) g s d h)))))
    (stores_cond g.full fs []
    (stores_map (λ i. put d z (footer_block p (map (λ (q : Piece). record_bytes q.rec) qs) i) zero_spare) (below (footers p))
    (λ i m. (
      bytes_footer p (map (λ (q : Piece). record_bytes q.rec) qs) i
          (λ s x. let (q, j, e) = map_in (λ (q : Piece). record_bytes q.rec) qs s x in subst Bytes (sym e) (bytes_record q.rec)),
      bytes_zero_spare,
    )))
    stores_bytes_none)

rebuild_bytes : (p : Params) (v : View) (d : ℕ) (gs : List Segment) → ((g : Segment) → In g gs → SegBytes g) → StoresBytes (rebuild_stores p v d gs)
unfolding rebuild_stores
rebuild_bytes p v d gs h = stores_bytes_append (map (reset d) (good_zones p v.offline d)) (flat (rebuilt_zone p d) (by_serial gs))
    (stores_map (reset d) (good_zones p v.offline d) (λ z m. tt)) (stores_flat (rebuilt_zone p d) (by_serial gs) (λ g m. rebuilt_bytes p d g (h g (rebuilding_serial_in gs g m))))

-- ---- landing

landing_bytes : (p : Params) (v : View) (m : Memory) (d s : ℕ) → ViewBytes v → Bytes m.inflight → StoresBytes (land_plan p v m d s).stores
unfolding land_plan
landing_bytes p v m d s h g =
    let st = m.state in
    let w = land_store p v m d s in
    stores_bytes_cons w (cond (seals p st (slot_of st s) d) (seal_stores p (store_view_of w v) (open_segment p v st)) []) one
    (stores_cond (seals p st (slot_of st s) d) (seal_stores p (store_view_of w v) (open_segment p v st)) [] (seal (store_view_of w v) (open_segment p v st) (store_view v w h one)) stores_bytes_none)
  where
    one : StoreBytes (land_store p v m d s)
    one = unfold land_store slot_block in (bytes_part (slot_byte p (slot_of m.state s) d) p.B m.inflight g, bytes_record (flight_rec p m.state (slot_of m.state s) d))

    seal : (u : View) (z : Seg) → ViewBytes u → StoresBytes (seal_stores p u z)
    seal u z k = unfold seal_stores in stores_flat _ (drives_of p) (λ d m. footers_bytes p d (zone_on z d) (zone_at u d (zone_on z d)) 0 (footers p) (k d (zone_on z d)))

-- ---- in flight

parity_set : (p : Params) (fl : List ℕ) (i s : ℕ) → Bytes fl → Bytes (set_slot_parity p fl i s)
unfolding set_slot_parity set_slot_block slot_block
parity_set p fl i s h = bytes_splice fl _ (encode_block p.B 0 (map (slot_block p fl i) (data_drives p s))) h
    (encode_bytes p.B 0 (map (slot_block p fl i) (data_drives p s))
    (each_map Bytes (slot_block p fl i) (data_drives p s) (each_data (λ d. Bytes (slot_block p fl i d)) p s (λ d l n. bytes_part (slot_byte p i d) p.B fl h))))

placed_bytes : (p : Params) (st : State) (fl : List ℕ) (i a t w : ℕ) (b : List ℕ) → Bytes fl → Bytes b → Bytes (placed p st fl i a t w b).inflight
unfolding placed set_slot_block
placed_bytes p st fl i a t w b h g =
    let k = bytes_splice fl _ b h g in
    either Bytes (is_full p (add_entry st i a t w) i) _ _ (parity_set p _ i (stripe_in st i) k) k

module _ (p : Params) (v : View) (st : State) (fl : List ℕ) (a t w : ℕ) (b : List ℕ) where
  sending_inflight : Bytes fl → Bytes b → Bytes (sending p v st fl a t w b).inflight
  unfolding sending
  sending_inflight h g = placed_bytes p (begun_by p st (opened_by p st)) fl (slot_for p st) a t w b h g

  sending_bytes : StoresBytes (sending p v st fl a t w b).stores
  unfolding sending
  sending_bytes =
      stores_cond (opens p st) (header_stores p (new_seg p v) (suc st.serial.0) 0) []
      (headers_bytes p (new_seg p v) (suc st.serial.0) 0) stores_bytes_none

padded_bytes : (p : Params) (i k : ℕ) (st : State) (fl : List ℕ) → Bytes fl → Bytes (padded p i k st fl).inflight
unfolding padded
padded_bytes p i zero st fl h = h
padded_bytes p i (suc k) st fl h =
    let q = placed p st fl i padding_address 0 0 (replicate p.B 0) in
    padded_bytes p i k q.state q.inflight (placed_bytes p st fl i padding_address 0 0 (replicate p.B 0) h (bytes_zeros p.B))

-- ---- what is due at each call

-- what a plan stores and leaves is bytes
pub record PlanBytes (q : Plan) : Type 0 where
  pub stores_bytes : StoresBytes q.stores
  pub inflight_bytes : Bytes q.memory.inflight
  pub block_bytes : Bytes q.block

module _ (p : Params) (v : View) (m : Memory) (h : ViewBytes v) (g : Bytes m.inflight) where
  abbrev st : State
  st = m.state

  pub write_bytes : (a : ℕ) (b : List ℕ) → Bytes b → PlanBytes (write_plan p v m a b)
  unfolding write_plan
  write_bytes a b k =
      let t = suc st.stamp.0 in
      record { stores_bytes = sending_bytes p v st m.inflight a t 1 b; inflight_bytes = sending_inflight p v st m.inflight a t 1 b g k; block_bytes = k }

  pub land_bytes : (d s : ℕ) → PlanBytes (land_plan p v m d s)
  unfolding land_plan
  land_bytes d s = record { stores_bytes = landing_bytes p v m d s h g; inflight_bytes = g; block_bytes = bytes_nil }

  pub close_bytes : PlanBytes (close_plan p m)
  unfolding close_plan
  close_bytes = record {
    stores_bytes = stores_bytes_none;
    inflight_bytes = padded_bytes p (filling_slot p st) (data_count p - filled_in_of st (filling_slot p st)) st m.inflight g;
    block_bytes = bytes_nil;
  }

  reset_bytes : (z : Seg) → PlanBytes (reset_plan p m z)
  unfolding reset_plan
  reset_bytes z = record { stores_bytes = resets_bytes p z; inflight_bytes = g; block_bytes = bytes_nil }

  copy_bytes : (q : ℕ) → PlanBytes (copy_plan p v m q)
  unfolding copy_plan chunk_at
  copy_bytes q = record {
    stores_bytes = sending_bytes p v st m.inflight _ _ 0 _;
    inflight_bytes = sending_inflight p v st m.inflight _ _ 0 _ g (h (place_drive p q) (place_zone p q) (place_block p q)).0;
    block_bytes = bytes_nil;
  }

  pub reclaim_bytes : (w : Opt Victim) (q : ℕ) → PlanBytes (cond (is_nil (victim_live w)) (reset_plan p m (victim_segment w)) (copy_plan p v m q))
  reclaim_bytes w q = either PlanBytes (is_nil (victim_live w)) (reset_plan p m (victim_segment w)) (copy_plan p v m q) (reset_bytes (victim_segment w)) (copy_bytes q)

  -- a read stores nothing
  pub read_bytes : (x : Answer) (b : List ℕ) → Bytes b → PlanBytes (mk_plan [] x m b)
  read_bytes x b k = record { stores_bytes = stores_bytes_none; inflight_bytes = g; block_bytes = k }

  pub found_bytes : (gone : ℕ) (cs : List ℕ) (f : Found) → Bytes (read_piece p v gone cs f).block
  unfolding read_piece stored_at chunk_at
  found_bytes gone cs nowhere = bytes_zeros p.B
  found_bytes gone cs (here q) = (h (place_drive p q) (zone_on (place_segment p v gone q) (place_drive p q)) (1 + (place_block p q - 1))).0
  found_bytes gone cs (away q) = subst (λ (y : Piece). Bytes y.block) (sym (is ∙ decode_apart p gone s d at))
      (decode_bytes p gone s d (λ e. (at e).block) (λ e l n. (h e (zone_on z e) (1 + first_or 0 (shown_at p v cs e (zone_on z e) s))).0))
    where
      d : ℕ
      d = place_drive p q

      z : Seg
      z = place_segment p v gone q

      s : ℕ
      s = place_block p q - 1

      at : ℕ → Piece
      at e = stored_at p v gone e z (first_or 0 (shown_at p v cs e (zone_on z e) s))

      is : decoded_at p v gone cs (place_drive p q) (place_segment p v gone q) (place_block p q - 1) ≡ decode_piece p gone s d at
      is = unfold decoded_at in refl

  pub restarts_bytes : (d : ℕ) → PlanBytes (restart_plan p v d (segments p v (named d)) m.inflight)
  unfolding restart_plan restart_memory
  restarts_bytes d = record {
    stores_bytes = restart_bytes p v (named d) (segments p v (named d)) (segments_bytes p v (named d) h);
    inflight_bytes = g;
    block_bytes = bytes_nil;
  }

  pub rebuilds_bytes : (d : ℕ) → PlanBytes (mk_plan (rebuild_stores p v d (segments p v (named d))) Rebuilt m [])
  rebuilds_bytes d = record {
    stores_bytes = rebuild_bytes p v d (segments p v (named d)) (segments_bytes p v (named d) h);
    inflight_bytes = g;
    block_bytes = bytes_nil;
  }
