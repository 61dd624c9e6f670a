-- Records and blocks of a stripe, stored and lost, by the index of its group (01, Restart, 3; Read; Rebuild). Assumes nothing.
use Rattle.std.specs.Prelude.{◌≡◌, List, ℕ, ◌+◌, ◌-◌, ◌*◌, ◌≤◌, ◌<◌}
use Rattle.std.proofs.Common.{sym, ◌∙◌, arith}
use Rattle.std.proofs.Math.Path.{ap}
use Rattle.std.proofs.Math.ListN.{length, get_or}
use Rattle.spec.specs.declared.Params.{Params}
use Rattle.spec.specs.Bytes.{part}
use Rattle.spec.specs.Drives.{no_chunk, Zone, zone_at, chunk_at, view_of, mk_disk, zone_on, record_in}
use Rattle.spec.specs.Params.{unit_len, image_len, place_of, place_byte}
use Rattle.spec.specs.Segments.{Segment, offset_on, stored_piece, stored_rec}
use Rattle.law_basic.specs.Geometry.{Ranged, data_below, block_within}
use Rattle.law_basic.specs.Splice.{length_part}
use Rattle.law_views.specs.Views.{block_view}
use Rattle.law_drives.specs.Segs.{zone_by, chunk_at_holds}
use Rattle.recover_groups.specs.declared.Group.{Group}
use Rattle.recover_groups.specs.Bases.{group_len_fits}
use Rattle.recover_groups.specs.Chunks.{chunk_present, entered_chunk}
use Rattle.recover_groups.specs.Groups.{group_len, Entered, segment_in, GroupReads}

-- ---- stored

module _ (p : Params) (off im ps : List ℕ) (w : Group) (at : List ℕ) (r : Ranged p) (hi : length im ≡ image_len p) (x : GroupReads p off im ps w at)
    (hb : w.base < p.S) (k : ℕ) (hk : k < group_len p w.base) where
  abbrev seg_here : Segment
  seg_here = segment_in p off im ps w

  -- the record that an entry leads to
  pub record_read : (d : ℕ) → d < p.N → 1 ≤ get_or at (256 * d + k) 0
      → record_in p w.full (zone_at (view_of p off im ps) d (zone_on w.seg d)) (w.base + get_or at (256 * d + k) 0 - 1) ≡ stored_rec seg_here (w.base + k) d
  record_read d hd h =
      let v = view_of p off im ps in
      let (t, e) = entered_chunk p seg_here w.base at x.indexed d k hd hk h in
      let q = chunk_present p v w.gone w.seg (w.base + k) d t in
      let c = chunk_at_holds p v w.gone w.seg d (w.base + k) hd q t in
      (λ j. record_in p (x.full_right j) (zone_at v d (zone_on w.seg d)) (e j)) ∙ sym c.its_record

  -- the block
  pub block_read : (d : ℕ) → d < p.N → zone_on w.seg d < p.Z → 1 ≤ get_or at (256 * d + k) 0
      → (stored_piece seg_here (w.base + k) d).block ≡ part (place_byte p (place_of p d (zone_on w.seg d) (1 + (w.base + get_or at (256 * d + k) 0 - 1)))) p.B im
  unfolding stored_piece chunk_at
  block_read d hd hz h =
      let v = view_of p off im ps in
      let (t, e) = entered_chunk p seg_here w.base at x.indexed d k hd hk h in
      let o = offset_on seg_here d (w.base + k) in
      let n = x.indexed.within d k hd hk t in
      let f = group_len_fits p w.base (omega (arith, hb)) in
      ap (λ (z : Zone). (get_or z.blocks (1 + o) no_chunk).block) (zone_by p v w.gone w.seg d hd)
      ∙ block_view p off (mk_disk im ps) d (zone_on w.seg d) hd hz
      (record { image_long = hi; pointers_long = x.long }) (1 + o) (data_below p r (1 + o) (omega (arith, n.1, f)))
      ∙ ap (λ (y : ℕ). part (place_byte p (place_of p d (zone_on w.seg d) (1 + y))) p.B im) (sym e)

  pub piece_block_long : (d : ℕ) → d < p.N → zone_on w.seg d < p.Z → Entered p w.base at d k → length (stored_piece seg_here (w.base + k) d).block ≡ p.B
  unfolding unit_len
  piece_block_long d hd hz h =
      let f = group_len_fits p w.base (omega (arith, hb)) in
      let o = w.base + get_or at (256 * d + k) 0 - 1 in
      let a = block_within p d (zone_on w.seg d) (1 + o) hd hz (data_below p r (1 + o) (omega (arith, f, h.0, h.1))) in
      ap length (block_read d hd hz h.0) ∙ length_part (place_byte p (place_of p d (zone_on w.seg d) (1 + o))) p.B im (omega (arith, a, hi))
