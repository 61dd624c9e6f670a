-- Step 3 of a restart, as computed: stripes that count are the machine's stripes, stored or decoded. Assumes nothing.
use Rattle.std.specs.Prelude.{◌≡◌, Bool, ◌||◌}
use Rattle.std.proofs.Math.Path.{refl, sym, ap, ap₂, subst}
use Rattle.std.proofs.Common.{◌∙◌}
use mathlib.Core.List.{List, [], ◌∷◌, map}
use Rattle.std.proofs.Math.Bool.{true, false, cond, not}
use Prim.Native.Nat.{ℕ, zero, suc, ◌+◌, ◌<◌}
use borrow.Author.Tests.{eq-eqb, eqb-true}
use native.Mathlib.Omega.{arith}
use Rattle.std.proofs.Math.Dec.{eqb}
use Rattle.std.proofs.Math.ListN.{length, get_or}
use Rattle.std.proofs.lemmas.List.{length-map}
use Rattle.spec.specs.declared.Params.{Params}
use Rattle.spec.specs.Drives.{no_chunk, Zone, no_zone, View, zone_at, pointer_at, zone_on, sealed_in, data_stored, record_in}
use Rattle.spec.specs.Layout.{Rec, mk_rec, record_of_of}
use Rattle.spec.specs.Lists.{below, all, any, keep, suc_unless, index_of, is_in}
use Rattle.spec.specs.Params.{capacity, drives_of, present}
use Rattle.spec.specs.Parity.{Piece, mk_piece, parity_piece}
use Rattle.spec.specs.Segments.{Segment, records_in, segment_of, recs_on, offset_on, has_chunk, counts, counted, stored_piece, piece_of, stored_rec}
use Rattle.law_basic.specs.Geometry.{Ranged}
use Rattle.law_basic.specs.Ranges.{length-below, map-below_same, map-map, get_d_map-below}
use Rattle.law_code.specs.Chunks.{chunk_stored, chunk_decoded}
use Rattle.law_code.specs.Single.{decode_xor}
use Rattle.law_drives.specs.Tests.{cond_true, cond_false}
use Rattle.proof_crash_machine.specs.Exec.{true≢false}
use Rattle.proof_crash_machine.specs.Facts.{L, Ghost, Choice, Stripe, Off, Word, word_unique, respell}
use Rattle.proof_crash_machine.specs.Put.{off_in}
use Rattle.proof_crash_machine.specs.Rebuild.{in_off, once_in}
use Rattle.proof_crash_machine.specs.Facts.{some_present}
use Rattle.proof_crash_machine.specs.Val.{Val, 𝟘}
use Rattle.proof_crash_machine.specs.View.{Item, InI, item_some, chunk_hdr, ItemView}
use Rattle.proof_crash_machine.specs.View.Item.{chunk}
use Rattle.proof_crash_items.specs.Items.{value_of, chunk_item, items_of, items_in, of_chunk, chunk_of_lem}
use Rattle.proof_crash_items.specs.Member.{Has, keep_has, has_keep, below_has, has_below, has_any, has_map}
use Rattle.proof_crash_items.specs.Named.{present_has, all-present, all_on_present}
use Rattle.proof_crash_items.specs.Ranges.{capacity_few, par_of, code_of, code_lost}
use Rattle.proof_crash_items.specs.Segs.{OnDrives, trusted, SegAt, named_seg, seg-at, seg_bytes, seg_pointer_low}
use Rattle.proof_crash_items.specs.Shape.{shape_zone}
use Rattle.proof_crash_items.specs.Values.{piece_value, xor_l, pieces_long, parity_value, only_where, only_there, only_else, xor_below}
use Rattle.proof_crash_items.specs.ZoneBytes.{block_in_of, by_footer}
use Rattle.spec.specs.declared.Seg.{Seg}

-- ---- what a zone's spares say

unfoldable pub spare_recs : Params → Zone → List Rec
spare_recs p q = map (λ o. record_of_of (block_in_of q (suc o)).spare) (below (data_stored p q))

pub length-spare_recs : (p : Params) (q : Zone) → length (spare_recs p q) ≡ data_stored p q
unfolding spare_recs
length-spare_recs p q = length-map (below (data_stored p q)) (λ o. record_of_of (block_in_of q (suc o)).spare) ∙ length-below (data_stored p q)

pub get_d_spare_recs : (p : Params) (q : Zone) (o : ℕ) (d : Rec) → o < data_stored p q → get_or (spare_recs p q) o d ≡ record_of_of (block_in_of q (suc o)).spare
unfolding spare_recs
get_d_spare_recs p q o d l = get_d_map-below (λ o. record_of_of (block_in_of q (suc o)).spare) (data_stored p q) o d l

pub stored-below : (p : Params) (q : Zone) (o : ℕ) → o < data_stored p q → (o < p.S) × (suc o < q.pointer)
unfolding data_stored
stored-below p q o l = (omega arith, omega arith)

pub below-stored : (p : Params) (q : Zone) (o : ℕ) → o < p.S → suc o < q.pointer → o < data_stored p q
unfolding data_stored
below-stored p q o l b = omega arith

pub pointer_is : (v : View) (d z : ℕ) → (zone_at v d z).pointer ≡ pointer_at v d z
unfolding pointer_at
pointer_is v d z = refl

-- the first that passes the test
pub index_hit : {A : Type 0} (f : A → Bool) (l : List A) (d : A) → any f l ≡ true → (index_of f l < length l) × (f (get_or l (index_of f l) d) ≡ true)
unfolding any index_of
index_hit f [] d e = true≢false e
index_hit {A} f (a ∷ l) d e = go (f a) refl e (index_hit f l d)
  where
    go : (b : Bool) → f a ≡ b → (b || any f l) ≡ true → (any f l ≡ true → (index_of f l < length l) × (f (get_or l (index_of f l) d) ≡ true))
        → (suc_unless b (index_of f l) < suc (length l)) × (f (get_or (a ∷ l) (suc_unless b (index_of f l)) d) ≡ true)
    go true q e ih = unfold suc_unless in (omega arith, q)
    go false q e ih = unfold suc_unless in (omega (arith, (ih e).0), (ih e).1)

-- what the machine has of a segment is what its zone holds
pub seg_items : (p : Params) (v : View) (u : ItemView) (m : ℕ) (z : Seg) (n : ℕ) → SegAt p v u m z n → (d : ℕ) → d < p.N → is_in m d ≡ false
    → u d n ≡ items_of p (zone_at v d (zone_on z d))
unfolding items_in
seg_items p v u m z n b d l q = sym (b.items d l q)

module _ (p : Params) (r : Ranged p) (off : List ℕ) (g : Ghost) (v : View) (u : ItemView) (k : OnDrives p r off g v u) (m : ℕ) (c : Choice (par_of p r off) g.un (is_in m)) where
  abbrev G : Seg → Segment
  G z = segment_of p v m z

  -- ---- the fields of a segment as read

  pub zones_by : (z : Seg) (d : ℕ) → d < p.N → get_or (G z).zones_by_holds d no_zone ≡ zone_at v d (zone_on z d)
  unfolding segment_of drives_of
  zones_by z d l = get_d_map-below (λ d. zone_at v d (zone_on z d)) p.N d no_zone l

  pub sealed-at-capacity : (z : Seg) (d : ℕ) → sealed_in p v m z ≡ true → d < p.N → is_in m d ≡ false → pointer_at v d (zone_on z d) ≡ capacity p
  unfolding sealed_in
  sealed-at-capacity z d e l n = eqb-true (pointer_at v d (zone_on z d)) (capacity p) (all-present p m (λ d. eqb (pointer_at v d (zone_on z d)) (capacity p)) e d l n)

  -- by footer or by spare
  pub record_by_spare : {nm : ℕ} (z : Seg) (d o : ℕ) (w : Bool) → sealed_in p v m z ≡ w → SegAt p v u m z nm → d < p.N → is_in m d ≡ false → o < p.S
      → record_in p w (zone_at v d (zone_on z d)) o ≡ record_of_of (block_in_of (zone_at v d (zone_on z d)) (suc o)).spare
  record_by_spare z d o true e b l n s =
      by_footer p r d (zone_at v d (zone_on z d)) (shape_zone p v k.shape d (zone_on z d) l (b.low d l n)) (seg_bytes p r off g v u k m c z b d l n)
      (pointer_is v d (zone_on z d) ∙ sealed-at-capacity z d e l n) o s
      ∙ by_spare_false
    where
      by_spare_false : record_in p false (zone_at v d (zone_on z d)) o ≡ record_of_of (block_in_of (zone_at v d (zone_on z d)) (suc o)).spare
      by_spare_false = unfold record_in in ap (λ (i : ℕ). record_of_of (get_or (zone_at v d (zone_on z d)).blocks i no_chunk).spare) (let e : 1 + o ≡ suc o = omega arith in e)
  record_by_spare z d o false e b l n s = unfold record_in in ap (λ (i : ℕ). record_of_of (get_or (zone_at v d (zone_on z d)).blocks i no_chunk).spare) (let e : 1 + o ≡ suc o = omega arith in e)

  pub recs_by_spare : {nm : ℕ} (z : Seg) (d : ℕ) → SegAt p v u m z nm → d < p.N → is_in m d ≡ false → recs_on (G z) d ≡ spare_recs p (zone_at v d (zone_on z d))
  unfolding recs_on segment_of drives_of records_in spare_recs
  recs_by_spare z d b l n =
      get_d_map-below (λ d. cond (is_in m d) [] (map (record_in p (sealed_in p v m z) (get_or (map (λ d. zone_at v d (zone_on z d)) (below p.N)) d no_zone))
      (below (data_stored p (get_or (map (λ d. zone_at v d (zone_on z d)) (below p.N)) d no_zone))))) p.N d [] l
      ∙ cond_false (is_in m d) [] (map (record_in p (sealed_in p v m z) (get_or (map (λ d. zone_at v d (zone_on z d)) (below p.N)) d no_zone))
      (below (data_stored p (get_or (map (λ d. zone_at v d (zone_on z d)) (below p.N)) d no_zone)))) n
      ∙ ap (λ (q : Zone). map (record_in p (sealed_in p v m z) q) (below (data_stored p q))) (zones_by z d l)
      ∙ map-below_same (record_in p (sealed_in p v m z) (zone_at v d (zone_on z d))) (λ o. record_of_of (block_in_of (zone_at v d (zone_on z d)) (suc o)).spare)
      (data_stored p (zone_at v d (zone_on z d)))
      (λ o i. record_by_spare z d o (sealed_in p v m z) refl b l n (stored-below p (zone_at v d (zone_on z d)) o i).0)

  -- ---- chunks

  abbrev is : ℕ → Rec → Bool
  is s x = eqb x.stripe s

  -- the offset that holds the chunk
  pub offset_on_holds : {nm : ℕ} (z : Seg) (s d : ℕ) → SegAt p v u m z nm → d < p.N → is_in m d ≡ false → has_chunk (G z) s d ≡ true
      → (offset_on (G z) d s < data_stored p (zone_at v d (zone_on z d))) × ((record_of_of (block_in_of (zone_at v d (zone_on z d)) (suc (offset_on (G z) d s))).spare).stripe ≡ s)
  unfolding offset_on has_chunk
  offset_on_holds z s d b l n e =
      let h : (index_of (is s) (recs_on (G z) d) < length (recs_on (G z) d)) × (is s (get_or (recs_on (G z) d) (index_of (is s) (recs_on (G z) d)) (mk_rec 0 0 0)) ≡ true) =
      index_hit (is s) (recs_on (G z) d) (mk_rec 0 0 0) e in
      let q : length (recs_on (G z) d) ≡ data_stored p (zone_at v d (zone_on z d)) = ap length (recs_by_spare z d b l n) ∙ length-spare_recs p (zone_at v d (zone_on z d)) in
      let j : index_of (is s) (recs_on (G z) d) < data_stored p (zone_at v d (zone_on z d)) = omega (arith, h.0, q) in
      let x : get_or (recs_on (G z) d) (index_of (is s) (recs_on (G z) d)) (mk_rec 0 0 0) ≡ record_of_of (block_in_of (zone_at v d (zone_on z d)) (suc (index_of (is s) (recs_on (G z) d)))).spare =
      ap (λ (y : List Rec). get_or y (index_of (is s) (recs_on (G z) d)) (mk_rec 0 0 0)) (recs_by_spare z d b l n)
      ∙ get_d_spare_recs p (zone_at v d (zone_on z d)) (index_of (is s) (recs_on (G z) d)) (mk_rec 0 0 0) j in
      (j, ap (λ (y : Rec). y.stripe) (sym x) ∙ eqb-true (get_or (recs_on (G z) d) (index_of (is s) (recs_on (G z) d)) (mk_rec 0 0 0)).stripe s h.1)

  pub stored_rec_holds : {nm : ℕ} (z : Seg) (s d : ℕ) → SegAt p v u m z nm → d < p.N → is_in m d ≡ false → has_chunk (G z) s d ≡ true
      → stored_rec (G z) s d ≡ record_of_of (block_in_of (zone_at v d (zone_on z d)) (suc (offset_on (G z) d s))).spare
  unfolding stored_rec
  stored_rec_holds z s d b l n e =
      ap (λ (y : List Rec). get_or y (offset_on (G z) d s) (mk_rec 0 0 0)) (recs_by_spare z d b l n)
      ∙ get_d_spare_recs p (zone_at v d (zone_on z d)) (offset_on (G z) d s) (mk_rec 0 0 0) (offset_on_holds z s d b l n e).0

  pub stored_piece_holds : {nm : ℕ} (z : Seg) (s d : ℕ) → SegAt p v u m z nm → d < p.N → is_in m d ≡ false → has_chunk (G z) s d ≡ true
      → stored_piece (G z) s d ≡ mk_piece (block_in_of (zone_at v d (zone_on z d)) (suc (offset_on (G z) d s))).block
      (record_of_of (block_in_of (zone_at v d (zone_on z d)) (suc (offset_on (G z) d s))).spare)
  unfolding stored_piece stored_rec
  stored_piece_holds z s d b l n e = ap₂ mk_piece
      (ap₂ (λ (q : Zone) (i : ℕ). (get_or q.blocks i no_chunk).block) (zones_by z d l) (let i : 1 + offset_on (G z) d s ≡ suc (offset_on (G z) d s) = omega arith in i))
      (stored_rec_holds z s d b l n e)

  pub stored_block_long : {nm : ℕ} (z : Seg) (s d : ℕ) → SegAt p v u m z nm → d < p.N → is_in m d ≡ false → has_chunk (G z) s d ≡ true → length (stored_piece (G z) s d).block ≡ p.B
  stored_block_long z s d b l n e =
      ap (λ (q : Piece). length q.block) (stored_piece_holds z s d b l n e)
      ∙ ((shape_zone p v k.shape d (zone_on z d) l (b.low d l n)).long (suc (offset_on (G z) d s))
      (omega (arith, (stored-below p (zone_at v d (zone_on z d)) (offset_on (G z) d s) (offset_on_holds z s d b l n e).0).0, capacity_few p r))).0

  -- the stored chunk is an item of the zone
  pub stored_in : {nm : ℕ} (z : Seg) (s d : ℕ) → SegAt p v u m z nm → d < p.N → is_in m d ≡ false → has_chunk (G z) s d ≡ true
      → InI (chunk s (piece_value (stored_piece (G z) s d))) (u d nm)
  stored_in {nm} z s d b l n e =
      let o : ℕ = offset_on (G z) d s in
      let q : Zone = zone_at v d (zone_on z d) in
      let h : (offset_on (G z) d s < data_stored p (zone_at v d (zone_on z d)))
      × ((record_of_of (block_in_of (zone_at v d (zone_on z d)) (suc (offset_on (G z) d s))).spare).stripe ≡ s) = offset_on_holds z s d b l n e in
      let i : (o < p.S) × (suc o < q.pointer) = stored-below p q o h.0 in
      let f : Off (items_of p q) (suc o) (chunk_item (block_in_of q (suc o))) = chunk_of_lem p q (seg_pointer_low p r off g v u k m c z b d l n) o i.0 i.1 in
      let x : chunk_item (block_in_of q (suc o)) ≡ chunk s (piece_value (stored_piece (G z) s d)) = named_chunk z s d b l n e in
      subst (λ (y : List Item). InI (chunk s (piece_value (stored_piece (G z) s d))) y) (sym (seg_items p v u m z nm b d l n))
      (subst (λ (y : Item). InI y (items_of p q)) x (off_in (items_of p q) (suc o) (chunk_item (block_in_of q (suc o))) f))
    where
      named_chunk : {nm : ℕ} (z : Seg) (s d : ℕ) → SegAt p v u m z nm → d < p.N → is_in m d ≡ false → has_chunk (G z) s d ≡ true
          → chunk_item (block_in_of (zone_at v d (zone_on z d)) (suc (offset_on (G z) d s))) ≡ chunk s (piece_value (stored_piece (G z) s d))
      named_chunk z s d b l n e = unfold chunk_item piece_value in
          ap₂ chunk (offset_on_holds z s d b l n e).1 (ap (λ (q : Piece). value_of q.block q.rec) (sym (stored_piece_holds z s d b l n e)))

  -- and an item is a stored chunk
  pub in_has_chunk : {nm : ℕ} (z : Seg) (s d : ℕ) (x : Val) → SegAt p v u m z nm → d < p.N → is_in m d ≡ false → InI (chunk s x) (u d nm) → has_chunk (G z) s d ≡ true
  unfolding has_chunk
  in_has_chunk {nm} z s d x b l n i =
      let q : Zone = zone_at v d (zone_on z d) in
      let j : (j : ℕ) × Off (items_of p q) j (chunk s x) = in_off (chunk s x) (items_of p q) (subst (λ (y : List Item). InI (chunk s x) y) (seg_items p v u m z nm b d l n) i) in
      let f : (o : ℕ) × (j.0 ≡ suc o) × (o < p.S) × (suc o < q.pointer) × ((record_of_of (get_or q.blocks (suc o) no_chunk).spare).stripe ≡ s)
      × (value_of (get_or q.blocks (suc o) no_chunk).block (record_of_of (get_or q.blocks (suc o) no_chunk).spare) ≡ x) =
      of_chunk p q (seg_pointer_low p r off g v u k m c z b d l n) j.0 s x j.1 in
      let w : f.0 < data_stored p q = below-stored p q f.0 f.2 f.3 in
      has_any (is s) (recs_on (G z) d) (record_of_of (block_in_of q (suc f.0)).spare)
      (subst (λ (y : List Rec). Has (record_of_of (block_in_of q (suc f.0)).spare) y) (sym (recs_by_spare z d b l n)) (at q f.0 w))
      (eq-eqb (record_of_of (block_in_of q (suc f.0)).spare).stripe s f.4)
    where
      at : (q : Zone) (o : ℕ) → o < data_stored p q → Has (record_of_of (block_in_of q (suc o)).spare) (spare_recs p q)
      at q o w = unfold spare_recs in has_map (λ o. record_of_of (block_in_of q (suc o)).spare) (below (data_stored p q)) o (has_below o (data_stored p q) w)

  -- ---- stripes that count

  pub counted_has : (z : Seg) (s : ℕ) → Has s (counted p m (G z)) → (s < p.S) × ((d : ℕ) → d < p.N → is_in m d ≡ false → has_chunk (G z) s d ≡ true)
  unfolding counted counts
  counted_has z s i =
      let q : Has s (below p.S) × (all (has_chunk (G z) s) (present p m) ≡ true) = keep_has (λ s. all (has_chunk (G z) s) (present p m)) s (below p.S) i in
      (below_has s p.S q.0, all-present p m (has_chunk (G z) s) q.1)

  pub has_counted : (z : Seg) (s : ℕ) → s < p.S → ((d : ℕ) → d < p.N → is_in m d ≡ false → has_chunk (G z) s d ≡ true) → Has s (counted p m (G z))
  unfolding counted counts
  has_counted z s l h = has_keep (λ s. all (has_chunk (G z) s) (present p m)) s (below p.S) (has_below s p.S l) (all_on_present p m (has_chunk (G z) s) h)

  -- the chunk of a counted stripe, as a value
  unfoldable pub piece_at : Seg → ℕ → ℕ → Val
  piece_at z s d = piece_value (piece_of p m (segment_of p v m z) s d)

  pub piece_here : (z : Seg) (s d : ℕ) → d < p.N → is_in m d ≡ false → piece_of p m (G z) s d ≡ stored_piece (G z) s d
  piece_here z s d l n = chunk_stored p m (G z) s d n

  pub piece_lost : (z : Seg) (s d : ℕ) → is_in m d ≡ true → piece_of p m (G z) s d ≡ parity_piece p s (map (stored_piece (G z) s) (present p m))
  piece_lost z s d n = chunk_decoded p m (G z) s d n ∙ decode_xor p m s d (stored_piece (G z) s)

  here_in : {nm : ℕ} (z : Seg) (s : ℕ) → SegAt p v u m z nm → ((d : ℕ) → d < p.N → is_in m d ≡ false → has_chunk (G z) s d ≡ true) → (d : ℕ) → d < p.N → is_in m d ≡ false
      → InI (chunk s (piece_at z s d)) (u d nm)
  unfolding piece_at
  here_in {nm} z s b h d l n = subst (λ (x : Piece). InI (chunk s (piece_value x)) (u d nm)) (sym (piece_here z s d l n)) (stored_in z s d b l n (h d l n))

  abbrev P : ℕ → Bool
  P d = not (is_in m d)

  abbrev F : Seg → ℕ → ℕ → Val
  F z s d = piece_value (stored_piece (G z) s d)

  -- what is lost is decoded from the others
  piece_decoded : {nm : ℕ} (z : Seg) (s d : ℕ) → SegAt p v u m z nm → is_in m d ≡ true → ((d : ℕ) → d < p.N → is_in m d ≡ false → has_chunk (G z) s d ≡ true)
      → piece_at z s d ≡ (code_of p r).dec s (is_in m) (F z s) d
  unfolding piece_at present drives_of
  piece_decoded z s d b n h =
      ap piece_value (piece_lost z s d n)
      ∙ parity_value p s (map (stored_piece (G z) s) (keep P (below p.N))) (pieces_long p.B (stored_piece (G z) s) (keep P (below p.N))
      (λ d i. stored_block_long z s d b (present_has p m d i).0 (present_has p m d i).1 (h d (present_has p m d i).0 (present_has p m d i).1)))
      ∙ ap xor_l (map-map piece_value (stored_piece (G z) s) (keep P (below p.N))) ∙ xor_below P (F z s) p.N
      ∙ sym (code_lost p r s (is_in m) (F z s) (only_where P (F z s)) d (λ e l. at e (is_in m e) refl))
    where
      at : (e : ℕ) (t : Bool) → is_in m e ≡ t → only_where P (F z s) e ≡ cond (is_in m e) 𝟘 (F z s e)
      at e true q = only_else P (F z s) e (ap not q) ∙ sym (cond_true (is_in m e) 𝟘 (F z s e) q)
      at e false q = only_there P (F z s) e (ap not q) ∙ sym (cond_false (is_in m e) 𝟘 (F z s e) q)

  -- it is a word with the stored ones
  pub counted_stripe : {nm : ℕ} (z : Seg) (s : ℕ) → SegAt p v u m z nm → Has s (counted p m (G z)) → Stripe (par_of p r off) (u) (is_in m) nm s (piece_at z s)
  counted_stripe {nm} z s b i = record { on = here; word = respell (par_of p r off) s w.0 (piece_at z s) (λ d l. sym (all d l (is_in m d) refl)) w.1 }
    where
      here : (d : ℕ) → d < p.N → is_in m d ≡ false → InI (chunk s (piece_at z s d)) (u d nm)
      here = here_in z s b (counted_has z s i).1

      w : (h : ℕ → Val) × Word (par_of p r off) s h × ((d : ℕ) → d < p.N → is_in m d ≡ false → piece_at z s d ≡ h d)
      w = k.facts.parity.whole (is_in m) c nm s (piece_at z s) here

      stored_is : (d : ℕ) → d < p.N → is_in m d ≡ false → F z s d ≡ w.0 d
      stored_is d l n = sym here_is ∙ w.2 d l n
        where
          here_is : piece_at z s d ≡ F z s d
          here_is = unfold piece_at in ap piece_value (piece_here z s d l n)

      all : (d : ℕ) → d < p.N → (t : Bool) → is_in m d ≡ t → piece_at z s d ≡ w.0 d
      all d l false n = w.2 d l n
      all d l true n =
          piece_decoded z s d b n (counted_has z s i).1
          ∙ (code_of p r).law s (is_in m) (F z s) w.0 c.0 (λ e q a. stored_is e q a ∙ w.1 e q) d l n ∙ sym (w.1 d l)

  pub stripe_left : (n s : ℕ) (f : ℕ → Val) → Stripe (par_of p r off) u (is_in m) n s f → L (par_of p r off) u (is_in m) n
  stripe_left n s f st d l q = item_some (chunk s (f d)) (u d n) (st.on d l q)

  pub stripe_below : (n s : ℕ) (f : ℕ → Val) → Stripe (par_of p r off) u (is_in m) n s f → s < p.S
  stripe_below y s f st = go (some_present (par_of p r off) (is_in m) c.0)
    where
      num : (d : ℕ) → d < p.N → g.un d ≡ false → InI (chunk s (f d)) (u d y) → (j : ℕ) → Off (u d y) j (chunk s (f d)) → s < p.S
      num d l t i zero o = absurd (chunk_hdr (sym o.1 ∙ (k.facts.zones d y (l, t)).head (item_some (chunk s (f d)) (u d y) i)))
      num d l t i (suc j) o = ((k.facts.zones d y (l, t)).num j s (f d) o).0

      go : (d : ℕ) × (d < p.N) × (is_in m d ≡ false) → s < p.S
      go (d, l, n) =
          let i : InI (chunk s (f d)) (u d y) = st.on d l n in
          let j : (j : ℕ) × Off (u d y) j (chunk s (f d)) = in_off (chunk s (f d)) (u d y) i in
          num d l (trusted p r off g v u k m c d l n) i j.0 j.1

  pub stripe_counted : {nm : ℕ} (z : Seg) (s : ℕ) (f : ℕ → Val) → SegAt p v u m z nm → Stripe (par_of p r off) (u) (is_in m) nm s f → Has s (counted p m (G z))
      × ((d : ℕ) → d < p.N → piece_at z s d ≡ f d)
  stripe_counted {nm} z s f b st =
      let i : Has s (counted p m (G z)) = has_counted z s (stripe_below nm s f st) (λ d l n. in_has_chunk z s d (f d) b l n (st.on d l n)) in
      let st' : Stripe (par_of p r off) (u) (is_in m) nm s (piece_at z s) = counted_stripe z s b i in (
        i,
        word_unique (par_of p r off) s (is_in m) c.0 (piece_at z s) f st'.word st.word (λ d l n.
            once_in (par_of p r off) g d nm (u d nm) (k.facts.zones d nm (l, trusted p r off g v u k m c d l n)) s
            (piece_at z s d) (f d) (st'.on d l n) (st.on d l n)),
      )

  -- by its name
  pub number_counted : (n s : ℕ) (f : ℕ → Val) → Stripe (par_of p r off) u (is_in m) n s f → Has s (counted p m (G (named_seg p g n)))
      × ((d : ℕ) → d < p.N → piece_at (named_seg p g n) s d ≡ f d)
  number_counted n s f st = stripe_counted (named_seg p g n) s f (seg-at p r off g v u k m c n (stripe_left n s f st)) st
