-- One segment in two views: a chunk that is in both is the same piece, and parity goes over with the pieces. Assumes nothing.
use Rattle.std.specs.Prelude.{◌≡◌, List, true, false, ◌⊎◌, ℕ, ◌+◌, ◌≤◌, ◌<◌, get_or}
use Rattle.std.proofs.Common.{sym, ap, ap₂, ◌∙◌, subst, inl, inr, ⊎_elim, arith}
use Rattle.spec.specs.declared.Params.{Params}
use Rattle.spec.specs.Drives.{no_chunk, Zone, View, zone_at, same_seg, zone_on, sealed_in, data_stored, record_in}
use Rattle.spec.specs.Layout.{data_drive, data_drives, header_serial, Rec}
use Rattle.spec.specs.Lists.{below, all, any, is_in}
use Rattle.spec.specs.Params.{data_count, present}
use Rattle.spec.specs.Parity.{mk_piece}
use Rattle.spec.specs.Segments.{Segment, segment_of, offset_on, has_chunk, counts, stored_piece, stored_rec}
use Rattle.law_basic.specs.Geometry.{Ranged, data_drive_lt}
use Rattle.spec_demands.specs.Layouts.{Remains, ParityMade}
use Rattle.law_drives.specs.Growing.{Grows, grows_tidy, grows_remaining, grows_others}
use Rattle.law_basic.specs.Segs.{segs_differ}
use Rattle.law_drives.specs.Members.{In, map_in, in_all, below_in}
use Rattle.law_drives.specs.Segs.{ChunkAt, zone_by, chunk_at_holds, has_chunk_holds, offset_is}
use Rattle.law_drives.specs.Settled.{serial_of, zones_segment}
use Rattle.law_drives.specs.Spots.{counts_in}
use Rattle.law_drives.specs.Tidy.{Tidy}
use Rattle.proof_flights.specs.Pieces.{ParityAt, SameStripe, parity_from, there_of_remains}
use Rattle.spec.specs.declared.Seg.{Seg}
use Rattle.law_drives.specs.Gather.{present_in}

-- a piece is the block and the record at the stripe's offset, whatever is missing
pub piece_parts : (p : Params) (v : View) (gone : ℕ) (g : Seg) (s e : ℕ) → e < p.N
    → stored_piece (segment_of p v gone g) s e
    ≡ mk_piece (get_or (zone_at v e (zone_on g e)).blocks (1 + offset_on (segment_of p v gone g) e s) no_chunk).block (stored_rec (segment_of p v gone g) s e)
unfolding stored_piece stored_rec
piece_parts p v gone g s e he = ap (λ (q : Zone). mk_piece (get_or q.blocks (1 + offset_on (segment_of p v gone g) e s) no_chunk).block
    (stored_rec (segment_of p v gone g) s e)) (zone_by p v gone g e he)

module _ (p : Params) (gone : ℕ) (v u : View) (g : Seg) where
  abbrev sv : Segment
  sv = segment_of p v gone g

  abbrev su : Segment
  su = segment_of p u gone g

  -- what drive e has of the segment in v it has in u too, at the same offsets
  pub record Extends (e : ℕ) : Type 0 where
    pub more : data_stored p (zone_at v e (zone_on g e)) ≤ data_stored p (zone_at u e (zone_on g e))
    pub same_record : (o : ℕ) → o < data_stored p (zone_at v e (zone_on g e))
        → record_in p (sealed_in p u gone g) (zone_at u e (zone_on g e)) o ≡ record_in p (sealed_in p v gone g) (zone_at v e (zone_on g e)) o
    pub same_block : (o : ℕ) → o < data_stored p (zone_at v e (zone_on g e))
        → (get_or (zone_at u e (zone_on g e)).blocks (1 + o) no_chunk).block ≡ (get_or (zone_at v e (zone_on g e)).blocks (1 + o) no_chunk).block

  module _ (e : ℕ) (he : e < p.N) (q : is_in gone e ≡ false) (x : Extends e) (t : ℕ) (c : has_chunk sv t e ≡ true) where
    at : ChunkAt p v gone g e t
    at = chunk_at_holds p v gone g e t he q c

    abbrev o : ℕ
    o = offset_on sv e t

    there : o < data_stored p (zone_at u e (zone_on g e))
    there = let a = at.stored_there in let b = x.more in omega arith

    its : (record_in p (sealed_in p u gone g) (zone_at u e (zone_on g e)) o).stripe ≡ t
    its = ap (λ (r : Rec). r.stripe) (x.same_record o at.stored_there) ∙ at.its_stripe

    pub extends_has : has_chunk su t e ≡ true
    extends_has = has_chunk_holds p u gone g e t o he q there its

    pub extends_offset : offset_on su e t ≡ o
    extends_offset = offset_is p u gone g e t o he q there its
        (λ i k y. at.first i k (ap (λ (r : Rec). r.stripe) (sym (x.same_record i (let a = at.stored_there in omega arith))) ∙ y))

    pub extends_piece : stored_piece sv t e ≡ stored_piece su t e
    extends_piece =
        let a = at.stored_there in
        let bl : (get_or (zone_at v e (zone_on g e)).blocks (1 + o) no_chunk).block ≡ (get_or (zone_at u e (zone_on g e)).blocks (1 + offset_on su e t) no_chunk).block =
        sym (x.same_block o a) ∙ ap (λ (n : ℕ). (get_or (zone_at u e (zone_on g e)).blocks (1 + n) no_chunk).block) (sym extends_offset) in
        let rc : stored_rec sv t e ≡ stored_rec su t e =
        at.its_record ∙ sym (x.same_record o a) ∙ ap (record_in p (sealed_in p u gone g) (zone_at u e (zone_on g e))) (sym extends_offset)
        ∙ sym (chunk_at_holds p u gone g e t he q extends_has).its_record in
        piece_parts p v gone g t e he ∙ ap₂ mk_piece bl rc ∙ sym (piece_parts p u gone g t e he)

  -- a chunk of u is in v, where v has that offset
  pub extends_back : (e : ℕ) → e < p.N → is_in gone e ≡ false → Extends e → (t : ℕ)
      → ((o : ℕ) → o < data_stored p (zone_at u e (zone_on g e)) → (record_in p (sealed_in p u gone g) (zone_at u e (zone_on g e)) o).stripe ≡ t
      → o < data_stored p (zone_at v e (zone_on g e)))
      → has_chunk su t e ≡ true → has_chunk sv t e ≡ true
  extends_back e he q x t f c =
      let k = chunk_at_holds p u gone g e t he q c in
      let l = f (offset_on su e t) k.stored_there k.its_stripe in
      has_chunk_holds p v gone g e t (offset_on su e t) he q l (ap (λ (r : Rec). r.stripe) (sym (x.same_record (offset_on su e t) l)) ∙ k.its_stripe)

  -- a stripe that counts in v counts in u
  pub extends_counts : ((e : ℕ) → e < p.N → is_in gone e ≡ false → Extends e) → (t : ℕ) → counts p gone sv t ≡ true → counts p gone su t ≡ true
  extends_counts x t c = as! (in_all (has_chunk su t) (present p gone)
      (λ e m. let (he, q) = present_in p gone e m in extends_has e he q (x e he q) t (counts_in p gone sv t e c he q)))
    where
      as! : all (has_chunk su t) (present p gone) ≡ true → counts p gone su t ≡ true
      as! a = unfold counts in a

-- and back
pub extends_sym : (p : Params) (gone : ℕ) (v u : View) (g : Seg) (e : ℕ) → data_stored p (zone_at u e (zone_on g e)) ≤ data_stored p (zone_at v e (zone_on g e)) → Extends p gone v u g e
    → Extends p gone u v g e
extends_sym p gone v u g e h x = record {
  more = h;
  same_record = λ o l. sym (x.same_record o (omega arith));
  same_block = λ o l. sym (x.same_block o (omega arith));
}

-- ---- parity

-- the drives of the data are drives
pub data_drives_in : (p : Params) (s e : ℕ) → In e (data_drives p s) → e < p.N
unfolding data_drives
data_drives_in p s e m =
    let (n, j, q) = map_in (data_drive p s) (below (data_count p)) e m in
    subst (λ (x : ℕ). x < p.N) (sym q) (data_drive_lt p s n (below_in (data_count p) n j))

-- one segment grows, whose counted stripes were counted with the same pieces, or are made
pub parity_grows : (p : Params) (r : Ranged p) (v u : View) (z : Seg) → Grows p v u z → (n : ℕ) → Tidy p v n → (old : List Segment) → ParityMade p v 0 old
    → ((t : ℕ) → t < p.S → counts p 0 (segment_of p u 0 z) t ≡ true
    → ((counts p 0 (segment_of p v 0 z) t ≡ true) × ((e : ℕ) → e < p.N → stored_piece (segment_of p v 0 z) t e ≡ stored_piece (segment_of p u 0 z) t e))
    ⊎ ParityAt p (segment_of p u 0 z) t)
    → ParityMade p u 0 old
parity_grows p r v u z w n ti old pm f = parity_from p r v u 0 old pm (λ g s rm hs c. go g s rm hs c (segs_differ z g))
  where
    Was : Seg → ℕ → Type 0
    Was g s = Remains p v 0 g × SameStripe p 0 (segment_of p v 0 g) (segment_of p u 0 g) s

    back : (g : Seg) → Remains p u 0 g → Remains p v 0 g
    back g rm = ap (any (same_seg g)) (grows_remaining p r v u z w) ∙ rm

    serial! : (segment_of p v 0 z).serial ≡ (segment_of p u 0 z).serial
    serial! = serial_of p r v n ti z ∙ ap (header_serial p) (w.same_head 0 (omega (arith, r.drives_low))) ∙ sym (serial_of p r u n (grows_tidy p r v u z w n ti) z)

    go : (g : Seg) (s : ℕ) → Remains p u 0 g → s < p.S → counts p 0 (segment_of p u 0 g) s ≡ true → Dec (z ≡ g) → Was g s ⊎ ParityAt p (segment_of p u 0 g) s
    go g s rm hs c (no q) =
        let e = zones_segment p r v u g (grows_others p r v u z w g (there_of_remains p v g (back g rm)) q) in
        inl (
          back g rm,
          record {
            counted-before = ap (λ (x : Segment). counts p 0 x s) e ∙ c;
            serial_same = ap (λ (x : Segment). x.serial) e;
            pieces_same = λ d hd. ap (λ (x : Segment). stored_piece x s d) e;
          },
        )
    go g s rm hs c (yes q) = subst (λ (x : Seg). Was x s ⊎ ParityAt p (segment_of p u 0 x) s) q
        (⊎_elim (λ k. inl (subst (λ (x : Seg). Remains p v 0 x) (sym q) (back g rm), record { counted-before = k.0; serial_same = serial!; pieces_same = k.1 })) (λ m. inr m)
        (f s hs (subst (λ (x : Seg). counts p 0 (segment_of p u 0 x) s ≡ true) (sym q) c)))
