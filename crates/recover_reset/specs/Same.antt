-- Segments on views that agree but on the missing drives: the same stripes count, and the same chunks are decoded (01, Restart, 3; Rebuild). Assumes nothing.
use Rattle.std.specs.Prelude.{◌≡◌, true, ℕ, ◌+◌}
use Rattle.std.proofs.Math.Path.{sym, ap}
use Rattle.std.proofs.Common.{◌∙◌}
use mathlib.Core.List.{List, []}
use Rattle.std.proofs.Math.Dec.{eqb}
use Rattle.std.proofs.Math.ListN.{get_or}
use Rattle.spec.specs.declared.Params.{Params}
use Rattle.spec.specs.Drives.{no_chunk, no_zone, View, zone_on}
use Rattle.spec.specs.Layout.{Rec, mk_rec}
use Rattle.spec.specs.Lists.{any, index_of, is_in}
use Rattle.spec.specs.Params.{present}
use Rattle.spec.specs.Parity.{mk_piece}
use Rattle.spec.specs.Segments.{Segment, segment_of, recs_on, offset_on, has_chunk, counts, stored_piece, piece_of}
use Rattle.law_basic.specs.Ranges.{all_same}
use Rattle.law_basic.specs.Segs.{ZonesLow, low_zone}
use Rattle.law_code.specs.Chunks.{chunk_decoded}
use Rattle.law_code.specs.Code.{decode_same}
use Rattle.law_drives.specs.Frame.{Agree, core, same_core}
use Rattle.law_drives.specs.Members.{In}
use Rattle.law_drives.specs.Gather.{present_in, in_present}
use Rattle.law_drives.specs.Segs.{Here, zone_by, seg_is}
use Rattle.spec.specs.declared.Seg.{Seg}

module _ (p : Params) (gone : ℕ) (v u : View) (here : Here p gone) (ag : Agree p gone v u) (off : v.offline ≡ u.offline) (g : Seg) (hg : ZonesLow p gone g) where
  abbrev x : Segment
  x = segment_of p v gone g

  abbrev y : Segment
  y = segment_of p u gone g

  pub same_seg_holds : x.seg ≡ y.seg
  same_seg_holds = seg_is p v gone g ∙ sym (seg_is p u gone g)

  pub same_serial : x.serial ≡ y.serial
  unfolding core
  same_serial = ap (λ (s : Segment). s.serial) (same_core p gone v u here ag off g hg)

  pub same_copied : x.copied ≡ y.copied
  unfolding core
  same_copied = ap (λ (s : Segment). s.copied) (same_core p gone v u here ag off g hg)

  pub same_full : x.full ≡ y.full
  unfolding core
  same_full = ap (λ (s : Segment). s.full) (same_core p gone v u here ag off g hg)

  pub seg_records_same : x.recs ≡ y.recs
  unfolding core
  seg_records_same = ap (λ (s : Segment). s.recs) (same_core p gone v u here ag off g hg)

  pub same_recs_on : (d : ℕ) → recs_on x d ≡ recs_on y d
  unfolding recs_on
  same_recs_on d = ap (λ (rs : List (List Rec)). get_or rs d []) seg_records_same

  pub same_has : (s d : ℕ) → has_chunk x s d ≡ has_chunk y s d
  unfolding has_chunk
  same_has s d = ap (any (λ (r : Rec). eqb r.stripe s)) (same_recs_on d)

  pub same_offset : (d s : ℕ) → offset_on x d s ≡ offset_on y d s
  unfolding offset_on
  same_offset d s = ap (index_of (λ (r : Rec). eqb r.stripe s)) (same_recs_on d)

  pub same_counts : (s : ℕ) → counts p gone x s ≡ counts p gone y s
  unfolding counts
  same_counts s = all_same (has_chunk x s) (has_chunk y s) (present p gone) (same_has s)

  same_stored : (s e : ℕ) → In e (present p gone) → stored_piece x s e ≡ stored_piece y s e
  unfolding stored_piece
  same_stored s e m =
      let (he, q) = present_in p gone e m in
      let z : get_or x.zones_by_holds e no_zone ≡ get_or y.zones_by_holds e no_zone = zone_by p v gone g e he ∙ ag e (zone_on g e) he (low_zone p gone g e hg he q) q
      ∙ sym (zone_by p u gone g e he) in
      λ j. mk_piece (get_or (z j).blocks (1 + same_offset e s j) no_chunk).block (get_or (same_recs_on e j) (same_offset e s j) (mk_rec 0 0 0))

  -- the chunk of a missing drive
  pub same_piece : (s d : ℕ) → is_in gone d ≡ true → piece_of p gone x s d ≡ piece_of p gone y s d
  same_piece s d q =
      chunk_decoded p gone x s d q
      ∙ decode_same p gone s d (stored_piece x s) (stored_piece y s) (λ e he n. same_stored s e (in_present p gone e he n))
      ∙ sym (chunk_decoded p gone y s d q)
