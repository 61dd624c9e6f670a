-- The index of a group from the compact table, which has it where no record is at fault: entry by entry, as from the records (01, What a zone holds; Restart, 3). Assumes nothing.
use Rattle.std.specs.Prelude.{◌≡◌, refl, List, true, false, ◌&&◌, ℕ, ◌+◌, ◌-◌, ◌*◌, ◌%◌, ◌≤◌, ◌<◌, leb, ltb, eqb, length, get_or, drop, set}
use Rattle.std.proofs.Common.{sym, ap, ◌∙◌, subst, leb-true, ltb-true, arith}
use Rattle.std.proofs.Math.Nat.{add_assoc}
use Rattle.std.proofs.Math.Seq.{get_or-take, get_or-drop}
use Rattle.spec.specs.declared.Params.{Params}
use Rattle.spec.specs.Drives.{View, view_of, zone_on}
use Rattle.spec.specs.Faults.{stored_bad}
use Rattle.spec.specs.Layout.{compact_entry, Rec, mk_rec}
use Rattle.spec.specs.Lists.{is_in}
use Rattle.spec.specs.Memory.{compact_at}
use Rattle.spec.specs.Params.{compact_len, present}
use Rattle.spec.specs.Segments.{remaining, segment_of, recs_on}
use Rattle.law_basic.specs.Geometry.{Ranged, compact_within}
use Rattle.law_basic.specs.Ranges.{Test, test, not_both, and_left, and_right}
use Rattle.law_basic.specs.Ranges.Test.{yes!, no! }
use Rattle.recover_compact.specs.Compacts.{near, SegmentShown}
use Rattle.recover_groups.specs.Bases.{group_len_le}
use Rattle.recover_groups.specs.Entering.{Entering, is_new, entering_bad_data, entering_bad, entering_next, entering_end}
use Rattle.recover_groups.specs.Faulty.{length-group, no_group_fault}
use Rattle.recover_groups.specs.Groups.{group_len, group_recs, recs_bad, group_fault, segment_in, Indexed, Row, SameBelow}
use Rattle.recover_groups.specs.declared.Group.{Group}
use Rattle.recover_addresses.specs.Lies.{Ground, seg_clean}
use Rattle.law_drives.specs.Members.{In, none_in}
use Rattle.law_drives.specs.Gather.{in_present}
use Rattle.law_drives.specs.Tables.{row_at, length_recs}
use Rattle.spec.specs.declared.Seg.{Seg}

module _ (p : Params) (r : Ranged p) (off im ps : List ℕ) (gone : ℕ) (cs : List ℕ) (G : Ground p off im ps gone cs) (sgm : Seg) (base d : ℕ)
    (m : In sgm (remaining p (view_of p off im ps) gone))
    (sh : SegmentShown p (view_of p off im ps) gone sgm cs)
    (hd : d < p.N) (hg : is_in gone d ≡ false) (hb : base < p.S) (hm : base % p.G ≡ 0) where
  abbrev v : View
  v = view_of p off im ps

  abbrev all : List Rec
  all = recs_on (segment_of p v gone sgm) d

  abbrev rs : List Rec
  rs = group_recs p base all

  some : 0 < p.G
  some = omega (arith, r.group-low)

  clean : recs_bad p d base rs ≡ false
  clean =
      none_in (λ e. recs_bad p e base (group_recs p base (recs_on (segment_of p v gone sgm) e))) (present p gone)
      ((unfold group_fault in no_group_fault p gone (segment_of p v gone sgm) base (seg_clean p v gone sgm G.clean m))) d (in_present p gone d hd hg)

  short : length rs ≤ group_len p base
  short = omega (arith, length-group p base all)

  compact_next : (i : ℕ) → compact_at p d (zone_on sgm d) base + i ≡ compact_at p d (zone_on sgm d) (base + i)
  unfolding compact_at
  compact_next i = add_assoc ((d * p.Z + zone_on sgm d) * p.S) base i

  record_in_group : (i : ℕ) → i < length rs → get_or rs i (mk_rec 0 0 0) ≡ get_or all (base + i) (mk_rec 0 0 0)
  unfolding group_recs
  record_in_group i h =
      let n = length-group p base all in
      get_or-take (group_len p base) (drop base all) i (mk_rec 0 0 0) (omega (arith, n, h)) ∙ get_or-drop base all i (mk_rec 0 0 0)

  -- the table's entry of the record at offset i of the group
  entry : (i : ℕ) → i < length rs → get_or cs (compact_at p d (zone_on sgm d) base + i) 0 ≡ compact_entry p (get_or rs i (mk_rec 0 0 0)).stripe
  entry i h =
      let n = length-group p base all in
      let o : base + i < length all = omega (arith, n, h) in
      let s : base + i < p.S = omega (arith, o, length_recs p v gone sgm d hd) in
      ap (λ (x : ℕ). get_or cs x 0) (compact_next i)
      ∙ sh d (base + i) hd hg s
      ∙ row_at p all (base + i) o
      ∙ ap (λ (x : Rec). compact_entry p x.stripe) (sym (record_in_group i h))

  module _ (old at : List ℕ) (i : ℕ) (x : Entering p d base rs old at i) (h : i < length rs) where
    abbrev c : Rec
    c = get_or rs i (mk_rec 0 0 0)

    fine : stored_bad p d c ≡ false
    fine = go (test (stored_bad p d c))
      where
        go : Test (stored_bad p d c) → stored_bad p d c ≡ false
        go (yes! e) = absurd (not_both (recs_bad p d base rs) (entering_bad_data p d base rs old at i x h some hb hm short c refl e) clean)
        go (no! e) = e

    fresh : is_new p d base at c.stripe ≡ true
    fresh = go (test (is_new p d base at c.stripe))
      where
        go : Test (is_new p d base at c.stripe) → is_new p d base at c.stripe ≡ true
        go (yes! e) = e
        go (no! e) = absurd (not_both (recs_bad p d base rs) (entering_bad p d base rs old at i x h some hb hm short c refl e) clean)

    -- it is the number of the stripe in the group
    entry_stripe : get_or cs (compact_at p d (zone_on sgm d) base + i) 0 ≡ c.stripe - base
    entry_stripe =
        let s = c.stripe in
        let y : (leb base s && ltb (s - base) (group_len p base)) ≡ true = and_left (leb base s && ltb (s - base) (group_len p base)) (eqb (get_or at (256 * d + (s - base)) 0) 0) fresh in
        let u = leb-true base s (and_left (leb base s) (ltb (s - base) (group_len p base)) y) in
        let w = ltb-true (s - base) (group_len p base) (and_right (leb base s) (ltb (s - base) (group_len p base)) y) in
        entry i h ∙ sym (near p base (s - base) s some hm (omega (arith, w, group_len_le p base)) (omega (arith, u)))

    pub index_entered : Entering p d base rs old (set at (256 * d + get_or cs (compact_at p d (zone_on sgm d) base + i) 0) (i + 1)) (i + 1)
    index_entered =
        subst (λ (n : ℕ). Entering p d base rs old (set at (256 * d + n) (i + 1)) (i + 1)) (sym entry_stripe)
        (entering_next p d base rs old at i x h some hb hm short c refl (omega (arith, hd, r.drives_high)) (omega (arith, group_len_le p base, r.group_high)) fine fresh)

  pub all-entered : (old at : List ℕ) (i : ℕ) → Entering p d base rs old at i → length rs ≤ i → SameBelow d old at × Row p base rs d at
  all-entered old at i x h = (x.lower, (entering_end p d base rs old at i x h).1)

-- a place of the table lies in it
pub compact_entry_within : (p : Params) (d z b i : ℕ) → d < p.N → z < p.Z → b + i < p.S → compact_at p d z b + i < compact_len p
unfolding compact_at
compact_entry_within p d z b i hd hz h =
    let e : (d * p.Z + z) * p.S + b + i ≡ (d * p.Z + z) * p.S + (b + i) = add_assoc ((d * p.Z + z) * p.S) b i in
    omega (arith, e, compact_within p d z (b + i) hd hz h)

-- the drive's row is that of its records, the lower ones are the same
abbrev pub Rowed : Params → List ℕ → List ℕ → List ℕ → ℕ → List ℕ → Seg → ℕ → ℕ → List ℕ → List ℕ → Type 0
Rowed p off im ps gone cs sgm base d old at = Ground p off im ps gone cs → In sgm (remaining p (view_of p off im ps) gone) → SegmentShown p (view_of p off im ps) gone sgm cs
    → SameBelow d old at × Row p base (group_recs p base (recs_on (segment_of p (view_of p off im ps) gone sgm) d)) d at

-- the index of the group is right
abbrev pub Grouped : Params → List ℕ → List ℕ → List ℕ → List ℕ → Group → List ℕ → Type 0
Grouped p off im ps cs w at = Ground p off im ps w.gone cs → In w.seg (remaining p (view_of p off im ps) w.gone) → SegmentShown p (view_of p off im ps) w.gone w.seg cs
    → Indexed p (segment_in p off im ps w) w.base at
