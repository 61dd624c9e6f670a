-- A restart rewrites a segment: each stripe in its new zones is a counted one moved, and its parity is what its data make. Assumes nothing.
use Rattle.std.specs.Prelude.{◌≡◌, List, map, Bool, true, false, ℕ, suc, ◌+◌, ◌^◌, ◌<◌, length, get_or}
use Rattle.std.proofs.Math.Path.{refl}
use Rattle.std.proofs.Common.{sym, ap, ap₂, ◌∙◌, subst}
use native.Mathlib.Omega.{arith}
use Rattle.spec.specs.declared.Params.{Params}
use Rattle.spec.specs.Drives.{Chunk, no_chunk, View, zone_at, pointer_at, store_view_of, store_all, zone_on, sealed_in, data_stored}
use Rattle.spec.specs.Drives.{record_in}
use Rattle.spec.specs.Layout.{parity_drive, data_drive, data_position, is_data, parity_position, data_drives, Rec, record_bytes, record_of_of}
use Rattle.spec.specs.Lists.{below}
use Rattle.spec.specs.Params.{data_count}
use Rattle.spec.specs.Parity.{Piece, mk_piece, encode_block, encode_rec, encode_piece}
use Rattle.spec.specs.Restart.{is_whole, renumbered, moved_pieces, moved_on, rewrite_stores, drop_stores}
use Rattle.spec.specs.Segments.{Segment, segment_of, segments, offset_on, counts, counted, stored_piece, stored_rec, greatest_serial, remaining}
use Rattle.law_basic.specs.Geometry.{Ranged, parity_drive_lt, position_drive, drive_is_data, data_drive_lt, parity_no_data, position_lt}
use Rattle.law_basic.specs.Mask.{is_in_empty}
use Rattle.law_basic.specs.Ranges.{Test, test, map-map}
use Rattle.law_basic.specs.Ranges.Test.{yes!, no! }
use Rattle.law_basic.specs.Each.{each_map, each_below}
use Rattle.law_code.specs.Chunks.{moved_is_parity}
use Rattle.law_code.specs.Code.{encode_low, encode_stripe, encode_apart}
use Rattle.law_drives.specs.Accept.{Accepted, zone_in_range}
use Rattle.law_drives.specs.Laid.{record_back}
use Rattle.law_drives.specs.Members.{map_cong, in_get_d, below_in, In}
use Rattle.law_drives.specs.Rebuilding.{counted-low, counted_in, piece_chunk}
use Rattle.law_drives.specs.Records.{record_low}
use Rattle.law_drives.specs.Rewriting.{new_pointer, new_stripe, open_now, under!, moved_data, new_chunk, new_record}
use Rattle.law_drives.specs.Segs.{low_data, chunk_at_holds, offset_is, has_chunk_holds}
use Rattle.law_drives.specs.Spots.{counts_in}
use Rattle.law_drives.specs.Zones.{Shaped}
use Rattle.proof_flights.specs.LandedPieces.{piece_parts}
use Rattle.proof_flights.specs.Pieces.{ParityAt}
use Rattle.spec.specs.declared.Seg.{Seg}
use Rattle.law_drives.specs.Headers.{Vacant}
use Rattle.law_drives.specs.Settled.{zero_here}

module _ (p : Params) (r : Ranged p) (v : View) (sh : Shaped p v) (acc : Accepted p v 0) (g : Seg) (kg : In g (remaining p v 0)) (ng : sealed_in p v 0 g ≡ false)
    (oth : (y : Seg) → In y (remaining p v 0) → (y ≡ g → ⊥) → sealed_in p v 0 y ≡ true)
    (z0 : Seg) (vz : Vacant p (store_all store_view_of (drop_stores p v (segments p v 0)) v) z0) (fit : suc (greatest_serial (segments p v 0)) < 256 ^ 8) where
  abbrev x : Segment
  x = segment_of p v 0 g

  abbrev cs : List ℕ
  cs = counted p 0 x

  abbrev vc : View
  vc = store_all store_view_of (rewrite_stores p x z0 (suc (greatest_serial (segments p v 0)))) (store_all store_view_of (drop_stores p v (segments p v 0)) v)

  -- ---- one stripe moved

  module _ (s k : ℕ) where
    abbrev qs : List Piece
    qs = moved_pieces p x s k

    abbrev on : ℕ → Piece
    on e = moved_on p (moved_pieces p x s k) k e

    -- data position n of it
    abbrev from : ℕ → Piece
    from n = renumbered k (stored_piece x s (data_drive p s n))

    qs_are : qs ≡ map from (below (data_count p))
    unfolding moved_pieces data_drives
    qs_are = map-map (λ d. renumbered k (stored_piece x s d)) (data_drive p s) (below (data_count p))

    moved_on_data : (e : ℕ) → e < p.N → is_data p k e ≡ true → on e ≡ from (data_position p k e)
    moved_on_data e he q = moved_data p r v sh acc g kg ng oth z0 vz fit s k e q he

    moved_on_parity : (e : ℕ) → is_data p k e ≡ false → on e ≡ encode_piece p 0 k qs
    moved_on_parity e q = moved_is_parity p qs k e q ∙ (unfold parity_position in refl)

    -- a segment that has these pieces
    moved_made : (y : Segment) → ((e : ℕ) → e < p.N → stored_piece y k e ≡ on e) → ParityAt p y k
    moved_made y f =
        f (parity_drive p k) (parity_drive_lt p k (omega (arith, r.drives_low))) ∙ moved_on_parity (parity_drive p k) (parity_no_data p k) ∙ ap (encode_piece p 0 k) (sym back)
      where
        as! : map (stored_piece y k) (map (data_drive p k) (below (data_count p))) ≡ qs → map (stored_piece y k) (data_drives p k) ≡ qs
        as! e = unfold data_drives in e

        back : map (stored_piece y k) (data_drives p k) ≡ qs
        back = as! (map-map (stored_piece y k) (data_drive p k) (below (data_count p))
            ∙ map_cong (λ n. stored_piece y k (data_drive p k n)) from (below (data_count p)) (λ n m.
            let hn = below_in (data_count p) n m in
            let he = data_drive_lt p k n hn in
            f (data_drive p k n) he ∙ moved_on_data (data_drive p k n) he (drive_is_data p k n) ∙ ap from (position_drive p k n))
            ∙ sym qs_are)

    -- its records fit their fields where those of the data do
    abbrev Low : Rec → Type 0
    Low q = (q.address < 256 ^ 8) × (q.stamp < 256 ^ 8)

    module _ (hk : k < p.S) (low : (e : ℕ) → e < p.N → Low (stored_piece x s e).rec) where
      from_low : (n : ℕ) → n < data_count p → Low (from n).rec
      unfolding renumbered
      from_low n h = low (data_drive p s n) (data_drive_lt p s n h)

      made_by_rewrite : encode_piece p 0 k qs ≡ mk_piece (encode_block p.B 0 (map (λ n. (from n).block) (below (data_count p)))) (encode_rec 0 k (map (λ n. (from n).rec) (below (data_count p))))
      made_by_rewrite = ap (encode_piece p 0 k) qs_are ∙ encode_apart p 0 k from (below (data_count p))

      parity-low : Low (encode_piece p 0 k qs).rec
      parity-low = subst (λ (x : Piece). Low x.rec) (sym made_by_rewrite)
          (encode_low 0 k (map (λ n. (from n).rec) (below (data_count p))) (each_map Low (λ n. (from n).rec) (below (data_count p)) (each_below (λ n. Low (from n).rec) (data_count p) from_low)))

      on_low : (e : ℕ) → e < p.N → Low (on e).rec × ((on e).rec.stripe ≡ k)
      on_low e he = go (test (is_data p k e))
        where
          stripe_data : (n : ℕ) → (from n).rec.stripe ≡ k
          stripe_data n = unfold renumbered in refl

          stripe_parity : (encode_piece p 0 k qs).rec.stripe ≡ k
          stripe_parity = ap (λ (x : Piece). x.rec.stripe) made_by_rewrite ∙ encode_stripe 0 k (map (λ n. (from n).rec) (below (data_count p)))

          go : Test (is_data p k e) → Low (on e).rec × ((on e).rec.stripe ≡ k)
          go (yes! q) = (
            subst (λ (y : Piece). Low y.rec) (sym (moved_on_data e he q)) (from_low (data_position p k e) (position_lt p k e q he)),
            ap (λ (y : Piece). y.rec.stripe) (moved_on_data e he q) ∙ stripe_data (data_position p k e),
          )
          go (no! q) = (subst (λ (y : Piece). Low y.rec) (sym (moved_on_parity e q)) parity-low, ap (λ (y : Piece). y.rec.stripe) (moved_on_parity e q) ∙ stripe_parity)

      moved_back : (e : ℕ) → e < p.N → record_of_of (record_bytes (on e).rec) ≡ (on e).rec
      moved_back e he =
          let (l, q) = on_low e he in
          record_back (on e).rec l.0 l.1 (subst (λ (w : ℕ). w < 256 ^ 4) (sym q) (let h = r.stripes_high in omega arith))

  -- ---- the rewritten segment

  module _ (nw : is_whole p x ≡ false) where
    abbrev y0 : Segment
    y0 = segment_of p vc 0 z0

    moved-unsealed : (e o : ℕ) → record_in p (sealed_in p vc 0 z0) (zone_at vc e (zone_on z0 e)) o ≡ record_in p false (zone_at vc e (zone_on z0 e)) o
    moved-unsealed e o = ap (λ (w : Bool). record_in p w (zone_at vc e (zone_on z0 e)) o) (open_now p r v sh acc g kg ng oth z0 vz fit nw)

    stored_piece_low : (s : ℕ) → counts p 0 x s ≡ true → (e : ℕ) → e < p.N → ((stored_piece x s e).rec.address < 256 ^ 8) × ((stored_piece x s e).rec.stamp < 256 ^ 8)
    stored_piece_low s c e he =
        let k = chunk_at_holds p v 0 g e s he (is_in_empty e) (counts_in p 0 x s e c he (is_in_empty e)) in
        let q : (stored_piece x s e).rec ≡ record_in p (sealed_in p v 0 g) (zone_at v e (zone_on g e)) (offset_on x e s) = ap (λ (y : Piece). y.rec) (piece_parts p v 0 g s e he) ∙ k.its_record in
        subst (λ (y : Rec). (y.address < 256 ^ 8) × (y.stamp < 256 ^ 8)) (sym q)
        (record_low p (zone_at v e (zone_on g e)) (sh.zone_ok e (zone_on g e) he (zone_in_range p v 0 acc (zero_here p r) g e kg he)) (sealed_in p v 0 g) (offset_on x e s))

    -- a stripe of it is a counted one moved
    new_piece : (o e : ℕ) → o < length cs → e < p.N → stored_piece y0 o e ≡ moved_on p (moved_pieces p x (get_or cs o 0) o) o e
    new_piece o e h he =
        let s = get_or cs o 0 in
        let cl = counted-low p 0 x in
        let st : (record_in p (sealed_in p vc 0 z0) (zone_at vc e (zone_on z0 e)) o).stripe ≡ o =
        ap (λ (a : Rec). a.stripe) (moved-unsealed e o) ∙ new_stripe p r v sh acc g kg ng oth z0 vz fit e o he h in
        let hs : o < data_stored p (zone_at vc e (zone_on z0 e)) = low_data p (zone_at vc e (zone_on z0 e)) o (omega arith) (lies (new_pointer p r v sh acc g kg ng oth z0 vz fit e he)) in
        let eo : offset_on y0 e o ≡ o = offset_is p vc 0 z0 e o o he (is_in_empty e) hs st (λ i k q. before i k q) in
        let hc = has_chunk_holds p vc 0 z0 e o o he (is_in_empty e) hs st in
        let er : stored_rec y0 o e ≡ record_of_of (record_bytes (moved_on p (moved_pieces p x s o) o e).rec) =
        (chunk_at_holds p vc 0 z0 e o he (is_in_empty e) hc).its_record ∙ ap (record_in p (sealed_in p vc 0 z0) (zone_at vc e (zone_on z0 e))) eo ∙ moved-unsealed e o
        ∙ new_record p r v sh acc g kg ng oth z0 vz fit e o he h in
        piece_parts p vc 0 z0 o e he
        ∙ ap₂ mk_piece (ap (λ (n : ℕ). (get_or (zone_at vc e (zone_on z0 e)).blocks (1 + n) no_chunk).block) eo
        ∙ ap (λ (y : Chunk). y.block) (new_chunk p r v sh acc g kg ng oth z0 vz fit e o he h)
        ∙ block! (moved_on p (moved_pieces p x s o) o e))
        (er ∙ moved_back s o (omega arith) (stored_piece_low s (counted_in p 0 x s (in_get_d cs o 0 h)).1) e he)
      where
        lies : pointer_at vc e (zone_on z0 e) ≡ 1 + length cs → 1 + o < (zone_at vc e (zone_on z0 e)).pointer
        lies q = unfold pointer_at in omega arith

        before : (i : ℕ) → i < o → (record_in p (sealed_in p vc 0 z0) (zone_at vc e (zone_on z0 e)) i).stripe ≡ o → ⊥
        before i k q =
            let w : i ≡ o = sym (new_stripe p r v sh acc g kg ng oth z0 vz fit e i he (omega arith)) ∙ ap (λ (a : Rec). a.stripe) (sym (moved-unsealed e i)) ∙ q in
            let bad : ⊥ = omega arith in bad

        block! : (q : Piece) → (piece_chunk q).block ≡ q.block
        block! q = unfold piece_chunk in refl

    -- the parity of every stripe that counts there
    pub rewritten_made : (o : ℕ) → counts p 0 y0 o ≡ true → ParityAt p y0 o
    rewritten_made o c =
        let h0 : 0 < p.N = omega (arith, r.drives_low) in
        let k = chunk_at_holds p vc 0 z0 0 o h0 (is_in_empty 0) (counts_in p 0 y0 o 0 c h0 (is_in_empty 0)) in
        let i = offset_on y0 0 o in
        let l : i < length cs = under! p r v sh acc g kg ng oth z0 vz fit nw 0 i h0 k.stored_there in
        let e : i ≡ o = sym (new_stripe p r v sh acc g kg ng oth z0 vz fit 0 i h0 l) ∙ ap (λ (a : Rec). a.stripe) (sym (moved-unsealed 0 i)) ∙ k.its_stripe in
        let h : o < length cs = subst (λ (n : ℕ). n < length cs) e l in
        moved_made (get_or cs o 0) o y0 (λ d hd. new_piece o d h hd)
