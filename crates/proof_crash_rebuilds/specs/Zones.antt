-- Rebuild: one zone of the drive: header, the chunks of counted stripes rising, footers. Assumes nothing.
use Rattle.std.specs.Prelude.{◌≡◌, Bool, ◌⊎◌, ◌≢◌}
use Rattle.std.proofs.Math.Path.{refl, ap, ap₂, subst}
use Rattle.std.proofs.Common.{sym, ◌∙◌, inl, inr, ⊎_elim, ext_get_or}
use mathlib.Core.List.{List, [], ◌∷◌, ◌++◌, map}
use Rattle.std.proofs.Math.Bool.{true, false, cond}
use Prim.Native.Nat.{ℕ, zero, suc, ◌+◌, ◌-◌, ◌^◌, ◌≤◌, ◌<◌}
use Rattle.std.proofs.Math.Decide.{ℕ_discrete}
use native.Mathlib.Omega.{arith}
use Rattle.std.proofs.Math.ListN.{length, get_or}
use Rattle.std.proofs.lemmas.List.{length-map}
use Rattle.spec.specs.declared.Params.{Params}
use Rattle.spec.specs.Drives.{Chunk, mk_chunk, Zone, View, zone_at, pointer_at, chunk_at, Store, put_zone, store_view_of, store_all, zone_on, data_stored, zero_spare, zones_in}
use Rattle.spec.specs.Drives.Store.{put}
use Rattle.spec.specs.Layout.{header_block, header_serial, header_copied, record_bytes, record_of_of, footer_block}
use Rattle.spec.specs.Lists.{up_from, below, is_in}
use Rattle.spec.specs.Params.{footers, named, present}
use Rattle.spec.specs.Parity.{Piece, parity_rec, parity_piece}
use Rattle.spec.specs.Rebuild.{rebuilt_zone}
use Rattle.spec.specs.Segments.{low_drive, header_at, remaining, Segment, segment_of, offset_on, has_chunk, counts, counted, stored_piece, piece_of, put_piece}
use Rattle.law_basic.specs.Geometry.{Ranged}
use Rattle.law_basic.specs.Ranges.{length-below, map-map, get_d_map, length-keep}
use Rattle.law_basic.specs.Xor.{length-parity}
use Rattle.proof_crash_machine.specs.Facts.{Ghost, Choice}
use Rattle.proof_crash_machine.specs.Rebuild2.{puts}
use Rattle.proof_crash_machine.specs.Steps.{list}
use Rattle.proof_crash_machine.specs.View.{Item, ItemStore, ItemView}
use Rattle.proof_crash_machine.specs.View.Item.{hdr, chunk, foot}
use Rattle.proof_crash_machine.specs.View.ItemStore.{put as m-put}
use Rattle.proof_crash_items.specs.ZoneBytes.Kind.{footer, header, datum}
use Rattle.proof_crash_items.specs.Codec.{Wide}
use Rattle.proof_crash_items.specs.Items.{value_of, item_at, item_foot, store_item, store_items}
use Rattle.proof_crash_items.specs.Member.{Has, append_has, below_has, has_below, map_has, get_d_has}
use Rattle.proof_crash_items.specs.Named.{present_has, low_drive_holds, named_self}
use Rattle.proof_crash_items.specs.Ranges.{capacity_few, par_of}
use Rattle.proof_crash_items.specs.Refuse.{rising-below}
use Rattle.proof_crash_items.specs.SegFacts.{segment-fields, begun_on, serial_ghost, copied_ghost, seg_zn}
use Rattle.proof_crash_items.specs.Segs.{OnDrives, SegAt, its_zones, name_of, put_there, remains_at_holds, seg_bytes}
use Rattle.proof_crash_items.specs.Shape.{Shape, zone_set_else, ZoneShape, shape_zone, shape_store, put-at, put_pointer_at}
use Rattle.proof_crash_items.specs.Sound.{Sound, AllSound, sound_fits, Follows, follows_nil, follows-cons, follows_append, store_put, follows_list, sound_put}
use Rattle.proof_crash_items.specs.Stripes.{stored-below, pointer_is, offset_on_holds, stored_piece_holds, stored_block_long, counted_has, piece_at, piece_lost}
use Rattle.proof_crash_items.specs.Values.{piece_value, blocks_of_long, pieces_long}
use Rattle.proof_crash_items.specs.ZoneBytes.{spares_in, block_in_of, Kind, length-spares_in, spare_in, kind_item, kind_item_lem, old_block, put_new_block, old_spares}
use Rattle.proof_crash_restarts.specs.MovedPlan.{moved-parity-wide}
use Rattle.proof_crash_restarts.specs.Order.{rising_same}
use Rattle.proof_crash_rebuilds.specs.Groups.{counted-rising, sealed-counts}
use Rattle.spec.specs.declared.Seg.{Seg}
use Rattle.law_basic.specs.Segs.{zones_in_lem, zones_in_long}
use Rattle.proof_crash_items.specs.Places.{place_store}

pub puts-append : (d z : ℕ) (a b : List Item) → puts d z (a ++ b) ≡ puts d z a ++ puts d z b
unfolding puts
puts-append d z [] b = refl
puts-append d z (x ∷ a) b = ap (λ (l : List ItemStore). m-put d z x ∷ l) (puts-append d z a b)

pub puts-list : (d z : ℕ) (f : ℕ → Item) (j n : ℕ) → puts d z (map f (up_from j n)) ≡ list (λ i. m-put d z (f i)) j n
unfolding puts up_from list
puts-list d z f j zero = refl
puts-list d z f j (suc n) = ap (λ (l : List ItemStore). m-put d z (f j) ∷ l) (puts-list d z f (suc j) n)

-- stores on one zone leave the others
abbrev pub AllOn : ℕ → ℕ → List Store → Type 0
AllOn d z ss = (s : Store) → Has s ss → (b : List ℕ) × (t : List ℕ) × (s ≡ put d z b t)

pub on-other :
    (p : Params)
    → Ranged p
    → (d z : ℕ) (ss : List Store) (v : View)
    → Shape p v
    → AllSound p v ss
    → AllOn d z ss
    → d < p.N
    → (e y : ℕ)
    → (e ≢ d) ⊎ (y ≢ z)
    → zone_at (store_all store_view_of ss v) e y ≡ zone_at v e y
unfolding store_all
on-other p r d z [] v h f a l e y n = refl
on-other p r d z (s ∷ ss) v h f a l e y n =
    on-other p r d z ss (store_view_of s v) (shape_store p v s h (sound_fits p r v s h f.0)) f.1 (λ t i. a t (inr i)) l e y n
    ∙ one (a s (inl refl))
  where
    one : (b : List ℕ) × (t : List ℕ) × (s ≡ put d z b t) → zone_at (store_view_of s v) e y ≡ zone_at v e y
    one (b, t, q) = ap (λ (x : Store). zone_at (store_view_of x v) e y) q ∙ (unfold store_view_of in zone_set_else p v h d z (put_zone b t (zone_at v d z)) l e y n)

-- what segment z gets on drive d, where the drives m are missing
unfoldable pub zone_items : (p : Params) (r : Ranged p) (off : List ℕ) (g : Ghost) (v : View) (u : ItemView) (k : OnDrives p r off g v u) (m : ℕ) (c : Choice (par_of p r off) g.un (is_in m))
    → ℕ → Seg → List Item
zone_items p r off g v u k m c d z =
    hdr (g.hd.ser (name_of p v m z)) (g.hd.cop (name_of p v m z)) (g.hd.zn (name_of p v m z)) ∷ (map (λ s. chunk s (piece_at p r off g v u k m c z s d)) (counted p m (segment_of p v m z)) ++ cond
    (segment_of p v m z).full (map foot (below (footers p))) [])

module _ (p : Params) (r : Ranged p) (off : List ℕ) (g : Ghost) (v : View) (u : ItemView) (k : OnDrives p r off g v u) (d : ℕ) (c : Choice (par_of p r off) g.un (is_in (named d)))
    (dl : d < p.N) (z : Seg)
    (i : Has z (remaining p v (named d))) where
  abbrev G : Segment
  G = segment_of p v (named d) z

  abbrev cs : List ℕ
  cs = counted p (named d) G

  zones_zb : SegAt p v u (named d) z (name_of p v (named d) z)
  zones_zb = remains_at_holds p r off g v u k (named d) c z i

  zl : zone_on z d < p.Z
  zl = (put_there p r off g v u k (named d) c z i d dl).0

  zn_is : zone_on z d ≡ g.hd.zn (name_of p v (named d) z) d
  zn_is = its_zones p r off g v u k (named d) c z i d dl

  abbrev piece : ℕ → Piece
  piece s = piece_of p (named d) (segment_of p v (named d) z) s d

  counted_chunk : (s e : ℕ) → Has s (counted p (named d) G) → e < p.N → is_in (named d) e ≡ false → has_chunk G s e ≡ true
  counted_chunk s e h l n = (counted_has p r off g v u k (named d) c z s h).1 e l n

  piece_is_parity : (s : ℕ) → piece s ≡ parity_piece p s (map (stored_piece G s) (present p (named d)))
  piece_is_parity s = piece_lost p r off g v u k (named d) c z s d (named_self p r d dl)

  pub piece_length : (s : ℕ) → Has s (counted p (named d) G) → length (piece s).block ≡ p.B
  piece_length s h = ap (λ (q : Piece). length q.block) (piece_is_parity s) ∙ long
    where
      long : length (parity_piece p s (map (stored_piece G s) (present p (named d)))).block ≡ p.B
      long = unfold parity_piece in length-parity p.B (map (λ (q : Piece). q.block) (map (stored_piece G s) (present p (named d))))
          (blocks_of_long p.B (map (stored_piece G s) (present p (named d))) (pieces_long p.B (stored_piece G s) (present p (named d))
          (λ e m. stored_block_long p r off g v u k (named d) c z s e zones_zb (present_has p (named d) e m).0 (present_has p (named d) e m).1
          (counted_chunk s e h (present_has p (named d) e m).0 (present_has p (named d) e m).1))))

  pub piece_fits : (s : ℕ) → Has s (counted p (named d) G) → Wide (piece s).rec
  piece_fits s h =
      subst (λ (q : Piece). Wide q.rec) (sym (piece_is_parity s)) (moved-parity-wide p s (map (stored_piece G s) (present p (named d)))
      (omega (arith, (counted_has p r off g v u k (named d) c z s h).0, r.stripes_high)) (λ q m.
      let e : (e : ℕ) × Has e (present p (named d)) × (q ≡ stored_piece G s e) = map_has (stored_piece G s) q (present p (named d)) m in
      let l : (e.0 < p.N) × (is_in (named d) e.0 ≡ false) = present_has p (named d) e.0 e.1 in
      subst (λ (x : Piece). Wide x.rec) (sym e.2) (wide_at e.0 l.0 l.1)))
    where
      wide_at : (e : ℕ) → e < p.N → is_in (named d) e ≡ false → Wide (stored_piece G s e).rec
      wide_at e l n =
          let a : (offset_on G e s < data_stored p (zone_at v e (zone_on z e))) × ((record_of_of (block_in_of (zone_at v e (zone_on z e)) (suc (offset_on G e s))).spare).stripe ≡ s) =
          offset_on_holds p r off g v u k (named d) c z s e zones_zb l n (counted_chunk s e h l n) in
          let b : (offset_on G e s < p.S) × (suc (offset_on G e s) < (zone_at v e (zone_on z e)).pointer) = stored-below p (zone_at v e (zone_on z e)) (offset_on G e s) a.0 in
          subst (λ (q : Piece). Wide q.rec) (sym (stored_piece_holds p r off g v u k (named d) c z s e zones_zb l n (counted_chunk s e h l n)))
          ((seg_bytes p r off g v u k (named d) c z zones_zb e l n).wide (offset_on G e s) b.0 b.1)

  pub piece_number : (s : ℕ) → (piece s).rec.stripe ≡ s
  piece_number s = ap (λ (q : Piece). q.rec.stripe) (piece_is_parity s) ∙ is
    where
      is : (parity_piece p s (map (stored_piece G s) (present p (named d)))).rec.stripe ≡ s
      is = unfold parity_piece parity_rec in refl

  abbrev chunk_it : ℕ → Item
  chunk_it s = chunk s (piece_at p r off g v u k (named d) c z s d)

  piece_chunk_holds : (s : ℕ) → chunk (piece s).rec.stripe (value_of (piece s).block (piece s).rec) ≡ chunk s (piece_at p r off g v u k (named d) c z s d)
  piece_chunk_holds s = ap₂ chunk (piece_number s) (unfold piece_at piece_value in refl)

  -- ---- chunks
  pub record Rows (j : ℕ) (w : View) : Type 0 where
    pub shape : Shape p w
    pub at : pointer_at w d (zone_on z d) ≡ suc j
    pub spares : (o : ℕ) → o < j → (block_in_of (zone_at w d (zone_on z d)) (suc o)).spare ≡ record_bytes (piece (get_or cs o 0)).rec

  rebuilt_row_step : (s j : ℕ) (w : View) → Has s cs → j < p.S → s ≡ get_or cs j 0 → Rows j w
      → Sound p w (put_piece d (zone_on z d) (piece s)) × (store_item p w (put_piece d (zone_on z d) (piece s)) ≡ place_store g.hd (m-put d (name_of p v (named d) z) (chunk_it s)))
      × Rows (suc j) (store_view_of (put_piece d (zone_on z d) (piece s)) w)
  unfolding put_piece
  rebuilt_row_step s j w h jl e a =
      let so : Sound p w (put d (zone_on z d) (piece s).block (record_bytes (piece s).rec)) = sound_put p w d z (piece s).block (record_bytes (piece s).rec) dl zl kd in (
        so,
        store_put p g.hd w d (name_of p v (named d) z) z (piece s).block (record_bytes (piece s).rec) zn_is kd
            ∙ ap (λ (x : Item). place_store g.hd (m-put d (name_of p v (named d) z) x)) item_is,
        record {
          shape =
              shape_store p w (put d (zone_on z d) (piece s).block (record_bytes (piece s).rec)) a.shape
              (sound_fits p r w (put d (zone_on z d) (piece s).block (record_bytes (piece s).rec)) a.shape so);
          at = put_pointer_at p w a.shape d (zone_on z d) (piece s).block (record_bytes (piece s).rec) dl zl ∙ ap suc a.at;
          spares = λ o ol. ap (λ (q : Zone). (block_in_of q (suc o)).spare) (put-at p w a.shape d (zone_on z d) (piece s).block (record_bytes (piece s).rec) dl zl) ∙ go o ol (ℕ_discrete o j);
        },
      )
    where
      kd : Kind p d (zone_at w d (zone_on z d)) (piece s).block (record_bytes (piece s).rec)
      kd = datum j (piece s).block (piece s).rec (pointer_is w d (zone_on z d) ∙ a.at) jl (piece_length s h) (piece_fits s h)

      item_is : kind_item p d (zone_at w d (zone_on z d)) (piece s).block (record_bytes (piece s).rec) kd ≡ chunk_it s
      item_is = unfold kind_item in piece_chunk_holds s

      go : (o : ℕ) → o < suc j → Dec (o ≡ j) → (block_in_of (put_zone (piece s).block (record_bytes (piece s).rec) (zone_at w d (zone_on z d))) (suc o)).spare ≡ record_bytes
          (piece (get_or cs o 0)).rec
      go o ol (yes q) =
          ap (λ (x : ℕ). (block_in_of (put_zone (piece s).block (record_bytes (piece s).rec) (zone_at w d (zone_on z d))) x).spare) (ap suc q ∙ sym (pointer_is w d (zone_on z d) ∙ a.at))
          ∙ ap (λ (x : Chunk). x.spare) (put_new_block p r d (zone_at w d (zone_on z d)) (shape_zone p w a.shape d (zone_on z d) dl zl) (piece s).block
          (record_bytes (piece s).rec) (omega (arith, pointer_is w d (zone_on z d) ∙ a.at, jl, capacity_few p r)))
          ∙ ap (λ (x : ℕ). record_bytes (piece x).rec) (e ∙ ap (λ (x : ℕ). get_or cs x 0) (sym q))
      go o ol (no q) =
          ap (λ (x : Chunk). x.spare) (old_block p r d (zone_at w d (zone_on z d)) (shape_zone p w a.shape d (zone_on z d) dl zl) (piece s).block
          (record_bytes (piece s).rec) (suc o) (omega (arith, pointer_is w d (zone_on z d) ∙ a.at, q, ol)))
          ∙ a.spares o (omega arith)

  few_cs : length (counted p (named d) G) ≤ p.S
  few_cs = unfold counted in omega (arith, length-keep (counts p (named d) G) (below p.S), length-below p.S)

  chunks_follow : (ss : List ℕ) (j : ℕ) → ((t : ℕ) → t < length ss → get_or ss t 0 ≡ get_or (counted p (named d) G) (j + t) 0) → j + length ss ≡ length (counted p (named d) G)
      → (w : View) → Rows j w
      → Follows p g.hd w (map (put_piece d (zone_on z d)) (map piece ss)) (puts d (name_of p v (named d) z) (map chunk_it ss))
      × Rows (length (counted p (named d) G)) (store_all store_view_of (map (put_piece d (zone_on z d)) (map piece ss)) w)
  unfolding puts store_all store_items
  chunks_follow [] j h e w a = (record { sound = tt; items = refl }, subst (λ (x : ℕ). Rows x w) (let q : j ≡ length cs = omega (arith, e) in q) a)
  chunks_follow (s ∷ ss) j h e w a =
      let q : s ≡ get_or cs j 0 = h 0 (omega arith) ∙ ap (λ (x : ℕ). get_or cs x 0) (let q : j + 0 ≡ j = omega arith in q) in
      let jl : j < length cs = omega (arith, e) in
      let one : Sound p w (put_piece d (zone_on z d) (piece s)) × (store_item p w (put_piece d (zone_on z d) (piece s)) ≡ place_store g.hd (m-put d (name_of p v (named d) z) (chunk_it s)))
      × Rows (suc j) (store_view_of (put_piece d (zone_on z d) (piece s)) w) =
      rebuilt_row_step s j w (subst (λ (x : ℕ). Has x cs) (sym q) (get_d_has cs j 0 jl)) (omega (arith, jl, few_cs)) q a in
      let more : Follows p g.hd (store_view_of (put_piece d (zone_on z d) (piece s)) w) (map (put_piece d (zone_on z d)) (map piece ss)) (puts d (name_of p v (named d) z) (map chunk_it ss))
      × Rows (length cs) (store_all store_view_of (map (put_piece d (zone_on z d)) (map piece ss)) (store_view_of (put_piece d (zone_on z d) (piece s)) w)) =
      chunks_follow ss (suc j) (λ t l. h (suc t) (omega arith) ∙ ap (λ (x : ℕ). get_or cs x 0) (let q : j + suc t ≡ suc j + t = omega arith in q))
      (omega (arith, e)) (store_view_of (put_piece d (zone_on z d) (piece s)) w) one.2 in
      (record { sound = (one.0, more.0.sound); items = ap₂ (λ (x : ItemStore) (y : List ItemStore). x ∷ y) one.1 more.0.items }, more.1)

  -- ---- header
  abbrev h_item : Item
  h_item = hdr (g.hd.ser (name_of p v (named d) z)) (g.hd.cop (name_of p v (named d) z)) (g.hd.zn (name_of p v (named d) z))

  wide_heads : (G.serial < 256 ^ 8) × (G.copied < 256 ^ 8)
  wide_heads =
      let e : (low_drive p (named d) < p.N) × (is_in (named d) (low_drive p (named d)) ≡ false) = low_drive_holds p (named d) r c.0 in
      let b : 0 < pointer_at v (low_drive p (named d)) (zone_on z (low_drive p (named d))) = begun_on p r off g v u k (named d) c z i (low_drive p (named d)) e.0 e.1 in
      let q : (header_serial p (block_in_of (zone_at v (low_drive p (named d)) (zone_on z (low_drive p (named d)))) 0).block < 256 ^ 8)
      × (header_copied p (block_in_of (zone_at v (low_drive p (named d)) (zone_on z (low_drive p (named d)))) 0).block < 256 ^ 8) =
      (seg_bytes p r off g v u k (named d) c z zones_zb (low_drive p (named d)) e.0 e.1).serials
      (subst (λ (x : ℕ). 0 < x) (sym (pointer_is v (low_drive p (named d)) (zone_on z (low_drive p (named d))))) b) in
      reveal q
    where
      reveal :
          (header_serial p (block_in_of (zone_at v (low_drive p (named d)) (zone_on z (low_drive p (named d)))) 0).block < 256 ^ 8) ×
          (header_copied p (block_in_of (zone_at v (low_drive p (named d)) (zone_on z (low_drive p (named d)))) 0).block < 256 ^ 8)
          → (G.serial < 256 ^ 8) × (G.copied < 256 ^ 8)
      reveal q = unfold segment_of header_at chunk_at in q

  header_step : (w : View) → Shape p w → pointer_at w d (zone_on z d) ≡ 0
      → Sound p w (put d (zone_on z d) (header_block p d (zones_in p z) G.serial G.copied) zero_spare)
      × (store_item p w (put d (zone_on z d) (header_block p d (zones_in p z) G.serial G.copied) zero_spare) ≡ place_store g.hd (m-put d (name_of p v (named d) z) h_item))
      × Rows 0 (store_view_of (put d (zone_on z d) (header_block p d (zones_in p z) G.serial G.copied) zero_spare) w)
  header_step w h e =
      let so : Sound p w (put d (zone_on z d) (header_block p d (zones_in p z) G.serial G.copied) zero_spare) =
      sound_put p w d z (header_block p d (zones_in p z) G.serial G.copied) zero_spare dl zl kd in (
        so,
        store_put p g.hd w d (name_of p v (named d) z) z (header_block p d (zones_in p z) G.serial G.copied) zero_spare zn_is kd
            ∙ ap (λ (x : Item). place_store g.hd (m-put d (name_of p v (named d) z) x)) item_is,
        record {
          shape =
              shape_store p w (put d (zone_on z d) (header_block p d (zones_in p z) G.serial G.copied) zero_spare) h
              (sound_fits p r w (put d (zone_on z d) (header_block p d (zones_in p z) G.serial G.copied) zero_spare) h so);
          at = put_pointer_at p w h d (zone_on z d) (header_block p d (zones_in p z) G.serial G.copied) zero_spare dl zl ∙ ap suc e;
          spares = λ o l. absurd (let q : ⊥ = omega arith in q);
        },
      )
    where
      kd : Kind p d (zone_at w d (zone_on z d)) (header_block p d (zones_in p z) G.serial G.copied) zero_spare
      kd = header (zones_in p z) G.serial G.copied (pointer_is w d (zone_on z d) ∙ e) (zones_in_long p z)
          (λ x b. subst (λ (y : ℕ). y < 256 ^ 4) (sym (zones_in_lem p z x b)) (omega (arith, (put_there p r off g v u k (named d) c z i x b).0, r.zones_high))) wide_heads.0 wide_heads.1

      item_is : kind_item p d (zone_at w d (zone_on z d)) (header_block p d (zones_in p z) G.serial G.copied) zero_spare kd ≡ h_item
      item_is = unfold kind_item in λ j. hdr (serial_ghost p r off g v u k (named d) c z i j) (copied_ghost p r off g v u k (named d) c z i j)
          (seg_zn p r off g v u k (named d) c z i j)

  -- ---- footers
  abbrev made : List (List ℕ)
  made = map (λ (q : Piece). record_bytes q.rec) (map piece cs)

  pub record Feet (j : ℕ) (w : View) : Type 0 where
    pub shape : Shape p w
    pub at : pointer_at w d (zone_on z d) ≡ suc (p.S + j)
    pub spares : spares_in p (zone_at w d (zone_on z d)) ≡ made

  feet_begin : length (counted p (named d) G) ≡ p.S → (w : View) → Rows (length (counted p (named d) G)) w → Feet 0 w
  feet_begin e w a =
      record {
        shape = a.shape;
        at = a.at
            ∙ ap suc (e ∙ (let q : p.S ≡ p.S + 0 = omega arith in q));
        spares = ext_get_or [] (spares_in p (zone_at w d (zone_on z d))) made
            (length-spares_in p r (zone_at w d (zone_on z d)) sz ∙ sym long) each;
      }
    where
      sz : ZoneShape p (zone_at w d (zone_on z d))
      sz = shape_zone p w a.shape d (zone_on z d) dl zl

      long : length made ≡ p.S
      long = length-map (map piece cs) (λ (q : Piece). record_bytes q.rec) ∙ length-map cs piece ∙ e

      each : (o : ℕ) → o < length (spares_in p (zone_at w d (zone_on z d))) → get_or (spares_in p (zone_at w d (zone_on z d))) o [] ≡ get_or made o []
      each o l =
          let ol : o < p.S = omega (arith, l, length-spares_in p r (zone_at w d (zone_on z d)) sz) in
          spare_in p r (zone_at w d (zone_on z d)) sz o ol ∙ a.spares o (omega (arith, ol, e))
          ∙ sym (ap (λ (x : List (List ℕ)). get_or x o []) (map-map (λ (q : Piece). record_bytes q.rec) piece cs)
          ∙ get_d_map (λ s. record_bytes (piece s).rec) cs o [] 0 (omega (arith, ol, e)))

  feet_step : (j : ℕ) (w : View) → j < footers p → Feet j w
      → Sound p w (put d (zone_on z d) (footer_block p made j) zero_spare)
      × (store_item p w (put d (zone_on z d) (footer_block p made j) zero_spare) ≡ place_store g.hd (m-put d (name_of p v (named d) z) (foot j)))
      × Feet (suc j) (store_view_of (put d (zone_on z d) (footer_block p made j) zero_spare) w)
  feet_step j w l a =
      let so : Sound p w (put d (zone_on z d) (footer_block p made j) zero_spare) = sound_put p w d z (footer_block p made j) zero_spare dl zl kd in (
        so,
        store_put p g.hd w d (name_of p v (named d) z) z (footer_block p made j) zero_spare zn_is kd ∙ ap (λ (x : Item). place_store g.hd (m-put d (name_of p v (named d) z) x)) item_is,
        record {
          shape = shape_store p w (put d (zone_on z d) (footer_block p made j) zero_spare) a.shape (sound_fits p r w (put d (zone_on z d) (footer_block p made j) zero_spare) a.shape so);
          at = put_pointer_at p w a.shape d (zone_on z d) (footer_block p made j) zero_spare dl zl ∙ ap suc a.at ∙ (let q : suc (suc (p.S + j)) ≡ suc (p.S + suc j) = omega arith in q);
          spares = ap (spares_in p) (put-at p w a.shape d (zone_on z d) (footer_block p made j) zero_spare dl zl)
              ∙ old_spares p r d (zone_at w d (zone_on z d)) (shape_zone p w a.shape d (zone_on z d) dl zl) (footer_block p made j) zero_spare j (pointer_is w d (zone_on z d) ∙ a.at)
              ∙ a.spares;
        },
      )
    where
      kd : Kind p d (zone_at w d (zone_on z d)) (footer_block p made j) zero_spare
      kd = subst (λ (ss : List (List ℕ)). Kind p d (zone_at w d (zone_on z d)) (footer_block p ss j) zero_spare) a.spares (footer j (pointer_is w d (zone_on z d) ∙ a.at) l)

      item_is : kind_item p d (zone_at w d (zone_on z d)) (footer_block p made j) zero_spare kd ≡ foot j
      item_is = sym (kind_item_lem p d (zone_at w d (zone_on z d)) (footer_block p made j) zero_spare kd)
          ∙ ap (λ (x : ℕ). item_at p x (mk_chunk (footer_block p made j) zero_spare)) (pointer_is w d (zone_on z d) ∙ a.at)
          ∙ item_foot p (p.S + j) (mk_chunk (footer_block p made j) zero_spare) (omega arith) ∙ ap foot (let e : p.S + j - p.S ≡ j = omega arith in e)

  full_counts-named : G.full ≡ true → length (counted p (named d) G) ≡ p.S
  full_counts-named e =
      ap length (rising_same cs (below p.S) (counted-rising p r off g v u k (named d) c z) (rising-below p.S) (λ s h. has_below s p.S (counted_has p r off g v u k (named d) c z s h).0)
      (λ s h. sealed-counts p r off g v u k (named d) c z s zones_zb (sym (segment-fields p r off g v u k (named d) c z).3 ∙ e) (below_has s p.S h))) ∙ length-below p.S

  abbrev fs : List Store
  fs = map (λ j. put d (zone_on z d) (footer_block p made j) zero_spare) (below (footers p))

  abbrev hs : Store
  hs = put d (zone_on z d) (header_block p d (zones_in p z) G.serial G.copied) zero_spare

  feet_follow : (b : Bool) → G.full ≡ b → (w : View) → Rows (length (counted p (named d) G)) w
      → Follows p g.hd w (cond b fs []) (puts d (name_of p v (named d) z) (cond b (map foot (below (footers p))) []))
  unfolding below
  feet_follow true e w a = subst (Follows p g.hd w (map (λ j. put d (zone_on z d) (footer_block p made j) zero_spare) (up_from 0 (footers p))))
      (sym (puts-list d (name_of p v (named d) z) foot 0 (footers p)))
      (follows_list p g.hd Feet (λ j. put d (zone_on z d) (footer_block p made j) zero_spare) (λ j. m-put d (name_of p v (named d) z) (foot j)) (footers p) feet_step 0 (footers p) (omega arith) w
      (feet_begin (full_counts-named e) w a))
  feet_follow false e w a = unfold puts in follows_nil p g.hd w

  rebuilt_zone_is : rebuilt_zone p d G ≡ hs ∷ (map (put_piece d (zone_on z d)) (map piece cs) ++ cond G.full fs [])
  unfolding rebuilt_zone
  rebuilt_zone_is =
      ap (λ (x : Seg). put d (zone_on x d) (header_block p d (zones_in p x) G.serial G.copied) zero_spare ∷
      (map (put_piece d (zone_on x d)) (map piece cs) ++ cond G.full (map (λ j. put d (zone_on x d) (footer_block p made j) zero_spare) (below (footers p))) []))
      (segment-fields p r off g v u k (named d) c z).0

  pub zone_follows : (w : View) → Shape p w → pointer_at w d (zone_on z d) ≡ 0
      → Follows p g.hd w (rebuilt_zone p d G) (puts d (name_of p v (named d) z) (zone_items p r off g v u k (named d) c d z))
  zone_follows w h e =
      subst (λ (x : List Store). Follows p g.hd w x (puts d (name_of p v (named d) z) (zone_items p r off g v u k (named d) c d z))) (sym rebuilt_zone_is) (subst
      (Follows p g.hd w (hs ∷ (map (put_piece d (zone_on z d)) (map piece cs) ++ cond G.full fs []))) (sym items_are)
      (follows-cons p g.hd w hs (map (put_piece d (zone_on z d)) (map piece cs) ++ cond G.full fs []) (m-put d (name_of p v (named d) z) h_item)
      (puts d (name_of p v (named d) z) (map chunk_it cs) ++ puts d (name_of p v (named d) z) (cond G.full (map foot (below (footers p))) [])) a.0 a.1
      (follows_append p g.hd (store_view_of hs w) (map (put_piece d (zone_on z d)) (map piece cs)) (cond G.full fs []) (puts d (name_of p v (named d) z) (map chunk_it cs))
      (puts d (name_of p v (named d) z) (cond G.full (map foot (below (footers p))) [])) b.0
      (feet_follow G.full refl (store_all store_view_of (map (put_piece d (zone_on z d)) (map piece cs)) (store_view_of hs w)) b.1))))
    where
      a : Sound p w hs × (store_item p w hs ≡ place_store g.hd (m-put d (name_of p v (named d) z) h_item)) × Rows 0 (store_view_of hs w)
      a = header_step w h e

      b : Follows p g.hd (store_view_of hs w) (map (put_piece d (zone_on z d)) (map piece cs)) (puts d (name_of p v (named d) z) (map chunk_it cs))
          × Rows (length cs) (store_all store_view_of (map (put_piece d (zone_on z d)) (map piece cs)) (store_view_of hs w))
      b = chunks_follow cs 0 (λ t l. ap (λ (x : ℕ). get_or cs x 0) (let q : t ≡ 0 + t = omega arith in q)) (omega arith) (store_view_of hs w) a.2

      items_are : puts d (name_of p v (named d) z) (zone_items p r off g v u k (named d) c d z)
          ≡ m-put d (name_of p v (named d) z) h_item ∷ (puts d (name_of p v (named d) z) (map chunk_it cs) ++ puts d (name_of p v (named d) z) (cond G.full (map foot (below (footers p))) []))
      items_are = unfold zone_items puts in
          ap (λ (l : List ItemStore). m-put d (name_of p v (named d) z) h_item ∷ l) (puts-append d (name_of p v (named d) z) (map chunk_it cs) (cond G.full (map foot (below (footers p))) []))

  -- all of it on its zone of drive d
  pub zone_on_holds : AllOn d (zone_on z d) (rebuilt_zone p d G)
  zone_on_holds s m = go (subst (λ (x : List Store). Has s x) rebuilt_zone_is m)
    where
      feet_on : (b : Bool) → Has s (cond b fs []) → (x : List ℕ) × (t : List ℕ) × (s ≡ put d (zone_on z d) x t)
      feet_on true q =
          let j : (j : ℕ) × Has j (below (footers p)) × (s ≡ put d (zone_on z d) (footer_block p made j) zero_spare) =
          map_has (λ j. put d (zone_on z d) (footer_block p made j) zero_spare) s (below (footers p)) q in
          (footer_block p made j.0, zero_spare, j.2)
      feet_on false q = absurd q

      go : Has s (hs ∷ (map (put_piece d (zone_on z d)) (map piece cs) ++ cond G.full fs [])) → (x : List ℕ) × (t : List ℕ) × (s ≡ put d (zone_on z d) x t)
      go (inl e) = (header_block p d (zones_in p z) G.serial G.copied, zero_spare, e)
      go (inr q) =
          ⊎_elim (λ (y : Has s (map (put_piece d (zone_on z d)) (map piece cs))). chunk_on y) (λ (y : Has s (cond G.full fs [])). feet_on G.full y)
          (append_has s (map (put_piece d (zone_on z d)) (map piece cs)) (cond G.full fs []) q)
        where
          chunk_on : Has s (map (put_piece d (zone_on z d)) (map piece cs)) → (x : List ℕ) × (t : List ℕ) × (s ≡ put d (zone_on z d) x t)
          chunk_on y =
              let q : (q : Piece) × Has q (map piece cs) × (s ≡ put_piece d (zone_on z d) q) = map_has (put_piece d (zone_on z d)) s (map piece cs) y in
              (q.0.block, record_bytes q.0.rec, unfolded q.0 q.2)
            where
              unfolded : (q : Piece) → s ≡ put_piece d (zone_on z d) q → s ≡ put d (zone_on z d) q.block (record_bytes q.rec)
              unfolded q e = unfold put_piece in e
