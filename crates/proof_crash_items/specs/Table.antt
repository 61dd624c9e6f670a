-- The compact table that a restart makes shows each stripe where it is. Assumes nothing.
use Rattle.std.specs.Prelude.{◌≡◌, true, false, ℕ, suc, ◌<◌, ltb, eqb, length}
use Rattle.std.proofs.Math.Path.{refl, ap, subst}
use Rattle.std.proofs.Common.{sym, ◌∙◌, lt-ltb, eq-eqb}
use mathlib.Core.List.{List}
use Rattle.spec.specs.declared.Params.{Params}
use Rattle.spec.specs.declared.Seg.{Seg}
use Rattle.spec.specs.Drives.{View, zone_at, zone_on, sealed_in}
use Rattle.spec.specs.Layout.{group, in_group_of, Rec, record_of_of}
use Rattle.spec.specs.Lists.{is_nil, first_or, is_in}
use Rattle.spec.specs.Memory.{shown_at}
use Rattle.spec.specs.Params.{compact_len}
use Rattle.spec.specs.Segments.{remaining, Segment, segment_of, segments, offset_on, has_chunk, compact_table}
use Rattle.law_basic.specs.Geometry.{Ranged}
use Rattle.law_basic.specs.Ranges.{and_both}
use Rattle.law_drives.specs.Spots.{InGroups, shown_first}
use Rattle.law_drives.specs.Tables.{length_compact}
use Rattle.proof_crash_machine.specs.Facts.{Ghost, Choice, Off}
use Rattle.proof_crash_machine.specs.View.{Item, ItemView}
use Rattle.proof_crash_items.specs.Items.{value_of, chunk_item, items_of, chunk_of_lem}
use Rattle.proof_crash_items.specs.Member.{Has}
use Rattle.proof_crash_items.specs.Ranges.{par_of}
use Rattle.proof_crash_items.specs.Segs.{OnDrives, SegAt, name_of, trusted, drive_here, remains_at_holds, seg_pointer_low, zone_facts}
use Rattle.proof_crash_items.specs.Stripes.{stored-below, record_by_spare, seg_items}
use Rattle.proof_crash_items.specs.ZoneBytes.{block_in_of}

module _ (p : Params) (r : Ranged p) (off : List ℕ) (g : Ghost) (v : View) (u : ItemView) (k : OnDrives p r off g v u) (m : ℕ) (c : Choice (par_of p r off) g.un (is_in m)) where
  abbrev G : Seg → Segment
  G z = segment_of p v m z

  table_inside : (o s : ℕ) → s < p.S → group p s ≡ group p o → in_group_of p o s ≡ true
  unfolding in_group_of
  table_inside o s l e = and_both (ltb s p.S) (eqb (group p s) (group p o)) (lt-ltb s p.S l) (eq-eqb (group p s) (group p o) e)

  -- every chunk is at an offset of its group
  pub groups_there : InGroups p v m
  groups_there z d o i l n w =
      let b : SegAt p v u m z (name_of p v m z) = remains_at_holds p r off g v u k m c z i in
      let j : (o < p.S) × (suc o < (zone_at v d (zone_on z d)).pointer) = stored-below p (zone_at v d (zone_on z d)) o w in
      let a : Off (items_of p (zone_at v d (zone_on z d))) (suc o) (chunk_item (block_in_of (zone_at v d (zone_on z d)) (suc o))) =
      chunk_of_lem p (zone_at v d (zone_on z d)) (seg_pointer_low p r off g v u k m c z b d l n) o j.0 j.1 in
      let f = (zone_facts p r off g v u k d (name_of p v m z) l (trusted p r off g v u k m c d l n)).num o (record_of_of (block_in_of (zone_at v d (zone_on z d)) (suc o)).spare).stripe
      (value_of (block_in_of (zone_at v d (zone_on z d)) (suc o)).block (record_of_of (block_in_of (zone_at v d (zone_on z d)) (suc o)).spare))
      (unfold chunk_item in subst (λ (y : List Item). Off y (suc o) (chunk_item (block_in_of (zone_at v d (zone_on z d)) (suc o)))) (sym (seg_items p v u m z (name_of p v m z) b d l n)) a) in
      ap (λ (x : Rec). in_group_of p o x.stripe) (record_by_spare p r off g v u k m c z d o (sealed_in p v m z) refl b l n j.0)
      ∙ table_inside o (record_of_of (block_in_of (zone_at v d (zone_on z d)) (suc o)).spare).stripe f.0 f.2

  pub compact_length : length (compact_table p (segments p v m)) ≡ compact_len p
  compact_length = length_compact p v m (drive_here p r off g v u k m c)

  -- the table shows a stripe where it is
  module _ (z : Seg) (s d : ℕ) (i : Has z (remaining p v m)) (l : d < p.N) (n : is_in m d ≡ false) (h : has_chunk (G z) s d ≡ true) where
    shown_both_holds : (first_or 0 (shown_at p v (compact_table p (segments p v m)) d (zone_on z d) s) ≡ offset_on (G z) d s)
        × (is_nil (shown_at p v (compact_table p (segments p v m)) d (zone_on z d) s) ≡ false)
    shown_both_holds = shown_first p r v m (drive_here p r off g v u k m c) groups_there z d s i l n h

    pub shown_offset : first_or 0 (shown_at p v (compact_table p (segments p v m)) d (zone_on z d) s) ≡ offset_on (G z) d s
    shown_offset = shown_both_holds.0

    pub shown_some : is_nil (shown_at p v (compact_table p (segments p v m)) d (zone_on z d) s) ≡ false
    shown_some = shown_both_holds.1
