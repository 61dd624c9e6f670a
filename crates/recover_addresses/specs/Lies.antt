-- Where the record of a counted stripe lies, and that its stamp is read there (01, Restart, 3; Read). Assumes nothing.
use Rattle.std.specs.Prelude.{◌≡◌, refl, Bool, true, false, cond, not, ◌&&◌, ◌||◌, ℕ, ◌+◌, ◌-◌, ◌*◌, ◌≤◌, ◌<◌, length}
use Rattle.std.proofs.Math.Path.{sym, ap}
use Rattle.std.proofs.Common.{ap₂, ◌∙◌, subst, zero-add, arith}
use mathlib.Core.List.{List, [], ◌∷◌, ◌++◌, map, append-nil}
use borrow.Author.Tests.{ltb-true}
use Rattle.std.proofs.Math.Dec.{ltb, eqb}
use Rattle.std.proofs.Math.ListN.{get_or}
use Rattle.std.specs.Int.Bits.{bit_xor}
use Rattle.spec.specs.declared.Params.{Params}
use Rattle.spec.specs.Bytes.{part, xor_all}
use Rattle.spec.specs.Drives.{View, zone_at, pointer_at, view_of, mk_disk, zone_on, sealed_in, data_stored, record_in, seg}
use Rattle.spec.specs.Faults.{outside, twice, stored_bad}
use Rattle.spec.specs.Layout.{data_drive, group, in_group_of, group_offsets, compact_entry, Rec, mk_rec}
use Rattle.spec.specs.Lists.{up_from, below, any, cons_if, keep, first_or, is_in}
use Rattle.spec.specs.Memory.{compact_at, shown_at}
use Rattle.spec.specs.Params.{in_range, compact_len, place_block, place_zone, place_drive, drives_of, present}
use Rattle.spec.specs.Parity.{parity_rec}
use Rattle.spec.specs.Rank.{Cand}
use Rattle.spec.specs.Segments.{remaining, records_in, segment_of, segments, recs_on, offset_on, has_chunk, counts, stored_rec, rec_of, offset_of, cand_of, compact_row, compact_table}
use Rattle.law_basic.specs.Geometry.{Ranged}
use Rattle.law_basic.specs.Ranges.{Test, test, below_none, map-append, map-map, keep-below-snoc}
use Rattle.law_basic.specs.Ranges.Test.{yes!, no! }
use Rattle.law_basic.specs.Xor.{xor_all_none, xor_all-snoc}
use Rattle.law_basic.specs.Segs.{ZonesLow, low_zone}
use Rattle.law_code.specs.Chunks.{rec_here, rec_lost}
use Rattle.law_code.specs.Single.{decode_rec_xor}
use Rattle.law_views.specs.Views.{Whole}
use Rattle.law_drives.specs.Accept.{outside_in}
use Rattle.recover_compact.specs.Compacts.{SegmentShown}
use Rattle.recover_groups.specs.Groups.{recs_bad, recs_fault}
use Rattle.disk_gather.specs.Flags.{Serials, FlagsRows}
use Rattle.disk_gather.specs.Found.{kept_serial}
use Rattle.law_drives.specs.Members.{In, in_map, none_in, keep_in, keep_cong, first_any}
use Rattle.law_drives.specs.Gather.{in_present}
use Rattle.law_drives.specs.Segs.{Here, remaining-low, length_records, record_at_lem, data_low, recs_here, serial_is, chunk_at_holds, CandAt}
use Rattle.law_drives.specs.Spots.{SpotsApart, counts_in, spot_of, spot_block, spot_drive, InGroups, shown_first, cand_zone}
use Rattle.law_drives.specs.Tables.{seg_at, remaining-at, row_seg_holds, compact_at_holds}
use Rattle.law_drives.specs.Tests.{or_first, cond_true, cond_false}
use Rattle.spec.specs.declared.Seg.{Seg}
use Rattle.recover_addresses.specs.Owners.{owner_at_of, Owners, owner_at}

-- what the walk over the records rests on: buffers of their lengths, and records in order
pub record Ground (p : Params) (off im ps : List ℕ) (gone : ℕ) (cs : List ℕ) : Type 0 where
  pub in_range_holds : in_range p ≡ true
  pub whole : Whole p (mk_disk im ps)
  pub here : Here p gone
  pub apart : SpotsApart p (view_of p off im ps) gone
  pub clean : any (recs_fault p gone) (segments p (view_of p off im ps) gone) ≡ false
  pub compact_long : length cs ≡ compact_len p

-- 02, item 4: the segments that were gathered: their zones and their serials in rows, and whose row a zone is
pub record Gathered (p : Params) (v : View) (gone : ℕ) (rows serials owners : List ℕ) : Type 0 where
  pub rows_are : FlagsRows p v gone rows
  pub serials_are : Serials p v gone serials
  pub owners_are : Owners p v gone owners

-- a counted stripe of a remaining segment, whose rows of the compact table are as the drives say
pub record StripeCounts (p : Params) (v : View) (gone : ℕ) (cs : List ℕ) (g : Seg) (s : ℕ) : Type 0 where
  pub remains : In g (remaining p v gone)
  pub stripe_low : s < p.S
  pub it_counts : counts p gone (segment_of p v gone g) s ≡ true
  pub shown : SegmentShown p v gone g cs

-- its record on a drive stands at data offset o
pub record LiesIn (p : Params) (v : View) (gone : ℕ) (cs : List ℕ) (d : ℕ) (g : Seg) (o s : ℕ) : Type 0 where
  pub drive_low : d < p.N
  pub counted : StripeCounts p v gone cs g s
  pub offset_is : o ≡ offset_of gone (segment_of p v gone g) s d

-- the record of some counted stripe stands there
abbrev pub Somewhere : Params → View → ℕ → List ℕ → ℕ → Seg → ℕ → Type 0
Somewhere p v gone cs d g o = (s : ℕ) × LiesIn p v gone cs d g o s

pub counted_segment_low : (p : Params) (v : View) (gone : ℕ) → Here p gone → (cs : List ℕ) (g : Seg) (s : ℕ) → StripeCounts p v gone cs g s → ZonesLow p gone g
counted_segment_low p v gone here cs g s k = remaining-low p v gone here g k.remains

-- ---- every chunk of what remains sits at an offset of its group

-- a remaining segment has no such fault
pub seg_clean : (p : Params) (v : View) (gone : ℕ) (g : Seg) → any (recs_fault p gone) (segments p v gone) ≡ false → In g (remaining p v gone)
    → recs_fault p gone (segment_of p v gone g) ≡ false
unfolding segments
seg_clean p v gone g q m = none_in (recs_fault p gone) (map (segment_of p v gone) (remaining p v gone)) q (segment_of p v gone g) (in_map (segment_of p v gone) (remaining p v gone) g m)

pub no_fault_in_groups : (p : Params) (v : View) (gone : ℕ) → any (recs_fault p gone) (segments p v gone) ≡ false → InGroups p v gone
unfolding recs_fault recs_bad
no_fault_in_groups p v gone q g d o m hd pr h =
    let x = segment_of p v gone g in
    let w = sealed_in p v gone g in
    let z = zone_at v d (zone_on g d) in
    let f : recs_bad p d 0 (recs_on x d) ≡ false = none_in (λ d. recs_bad p d 0 (recs_on x d)) (present p gone) (seg_clean p v gone g q m) d (in_present p gone d hd pr) in
    let u : outside p 0 (recs_on x d) ≡ false =
    or_first (outside p 0 (recs_on x d)) (twice (recs_on x d))
    (or_first (outside p 0 (recs_on x d) || twice (recs_on x d)) (any (stored_bad p d) (recs_on x d)) f) in
    let e : recs_on x d ≡ records_in p w z = recs_here p v gone g d hd pr in
    let l : length (recs_on x d) ≡ data_stored p z = ap length e ∙ length_records p w z in
    let a : get_or (recs_on x d) o (mk_rec 0 0 0) ≡ record_in p w z o = ap (λ (y : List Rec). get_or y o (mk_rec 0 0 0)) e ∙ record_at_lem p w z o (mk_rec 0 0 0) h in
    ap₂ (λ (n : ℕ) (y : Rec). in_group_of p n y.stripe) (sym (zero-add o)) (sym a) ∙ outside_in p 0 (recs_on x d) u o (subst (λ (n : ℕ). o < n) (sym l) h)

-- ---- the stamp of a chunk that the table shows

module _ (p : Params) (r : Ranged p) (v : View) (gone : ℕ) (here : Here p gone) (cs : List ℕ) (g : Seg) (s : ℕ) (clean : any (recs_fault p gone) (segments p v gone) ≡ false)
    (k : StripeCounts p v gone cs g s) (d : ℕ) (hd : d < p.N) (pr : is_in gone d ≡ false) where
  -- its zone there
  pub counted_zone_low : zone_on g d < p.Z
  counted_zone_low = low_zone p gone g d (counted_segment_low p v gone here cs g s k) hd pr

  has_it : has_chunk (segment_of p v gone g) s d ≡ true
  has_it = counts_in p gone (segment_of p v gone g) s d k.it_counts hd pr

  -- the table shows the stripe where the whole one would
  shown_same : shown_at p v cs d (zone_on g d) s ≡ shown_at p v (compact_table p (segments p v gone)) d (zone_on g d) s
  unfolding shown_at group_offsets
  shown_same =
      let z = zone_on g d in
      keep_cong (λ o. ltb (1 + o) (pointer_at v d z) && eqb (get_or cs (compact_at p d z o) 0) (compact_entry p s))
      (λ o. ltb (1 + o) (pointer_at v d z) && eqb (get_or (compact_table p (segments p v gone)) (compact_at p d z o) 0) (compact_entry p s))
      (keep (λ o. ltb o p.S) (up_from (group p s * p.G) p.G))
      (λ o m.
      let l = ltb-true o p.S (keep_in (λ o. ltb o p.S) (up_from (group p s * p.G) p.G) o m).1 in
      let e = k.shown d o hd pr l ∙ ap (λ (rs : List Rec). get_or (compact_row p rs) o 0) (sym (row_seg_holds p v gone here d g hd pr k.remains))
      ∙ sym (compact_at_holds p v gone here d z o hd counted_zone_low l) in
      ap (λ (x : ℕ). ltb (1 + o) (pointer_at v d z) && eqb x (compact_entry p s)) e)

  -- the offset that the compact table shows
  pub shown_there : (o : ℕ) → o ≡ first_or p.S (shown_at p v cs d (zone_on g d) s) → o ≡ offset_on (segment_of p v gone g) d s
  shown_there o eo =
      let q = shown_first p r v gone here (no_fault_in_groups p v gone clean) g d s k.remains hd pr has_it in
      eo ∙ ap (first_or p.S) shown_same ∙ first_any p.S 0 (shown_at p v (compact_table p (segments p v gone)) d (zone_on g d) s) q.1 ∙ q.0

  pub offset_low : offset_on (segment_of p v gone g) d s < p.S
  offset_low = (data_low p (zone_at v d (zone_on g d)) (offset_on (segment_of p v gone g) d s) (chunk_at_holds p v gone g d s hd pr has_it).stored_there).0

  -- the record there
  pub record_there : (w : Bool) (o : ℕ) (q : Rec) → w ≡ sealed_in p v gone g → o ≡ offset_on (segment_of p v gone g) d s → q ≡ record_in p w (zone_at v d (zone_on g d)) o
      → q ≡ stored_rec (segment_of p v gone g) s d
  record_there w o q ew eo eq =
      eq ∙ ap₂ (λ (x : Bool) (y : ℕ). record_in p x (zone_at v d (zone_on g d)) y) ew eo ∙ sym (chunk_at_holds p v gone g d s hd pr has_it).its_record

-- ---- the exclusive or of the present drives' stamps, drive by drive

pub stamps_none : (f : ℕ → ℕ) (q : ℕ → Bool) → 0 ≡ xor_all (map f (keep q (below 0)))
unfolding keep
stamps_none f q = sym (ap (λ (l : List ℕ). xor_all (map f (keep q l))) below_none ∙ xor_all_none)

pub stamps_turn : (f : ℕ → ℕ) (gone n t u : ℕ) → t ≡ xor_all (map f (keep (λ d. not (is_in gone d)) (below n))) → u ≡ cond (is_in gone n) t (bit_xor t (f n))
    → u ≡ xor_all (map f (keep (λ d. not (is_in gone d)) (below (n + 1))))
unfolding cons_if
stamps_turn f gone n t u et eu = eu ∙ go (test (is_in gone n)) ∙ ap (λ (l : List ℕ). xor_all (map f l)) (sym (keep-below-snoc (λ d. not (is_in gone d)) n))
  where
    go : Test (is_in gone n) → cond (is_in gone n) t (bit_xor t (f n)) ≡ xor_all (map f (keep (λ d. not (is_in gone d)) (below n) ++ cons_if (not (is_in gone n)) n []))
    go (yes! e) = cond_true (is_in gone n) t (bit_xor t (f n)) e ∙ et
        ∙ ap (λ (l : List ℕ). xor_all (map f l)) (sym (append-nil (keep (λ d. not (is_in gone d)) (below n)))
        ∙ ap (λ (b : Bool). keep (λ d. not (is_in gone d)) (below n) ++ cons_if (not b) n []) (sym e))
    go (no! e) = cond_false (is_in gone n) t (bit_xor t (f n)) e ∙ ap (λ (x : ℕ). bit_xor x (f n)) et
        ∙ sym (xor_all-snoc (map f (keep (λ d. not (is_in gone d)) (below n))) (f n))
        ∙ ap xor_all (sym (map-append f (keep (λ d. not (is_in gone d)) (below n)) (n ∷ [])))
        ∙ ap (λ (b : Bool). xor_all (map f (keep (λ d. not (is_in gone d)) (below n) ++ cons_if (not b) n []))) (sym e)

pub stamps_all : (f : ℕ → ℕ) (p : Params) (gone : ℕ) → xor_all (map f (keep (λ d. not (is_in gone d)) (below p.N))) ≡ xor_all (map f (present p gone))
unfolding present drives_of
stamps_all f p gone = refl

-- ---- the stamp at a place

module _ (p : Params) (r : Ranged p) (v : View) (gone : ℕ) (cs : List ℕ) (d : ℕ) (g : Seg) (o s : ℕ) (k : LiesIn p v gone cs d g o s) where
  pub lies_away : is_in gone d ≡ true → o ≡ s
  unfolding offset_of
  lies_away e = k.offset_is ∙ cond_true (is_in gone d) s (offset_on (segment_of p v gone g) d s) e

  pub lies_here : is_in gone d ≡ false → o ≡ offset_on (segment_of p v gone g) d s
  unfolding offset_of
  lies_here e = k.offset_is ∙ cond_false (is_in gone d) s (offset_on (segment_of p v gone g) d s) e

  pub stamp_away : is_in gone d ≡ true → (t : ℕ) → t ≡ xor_all (map (λ e. (stored_rec (segment_of p v gone g) o e).stamp) (present p gone))
      → t ≡ (rec_of p gone (segment_of p v gone g) s d).stamp
  unfolding parity_rec
  stamp_away e t q =
      q ∙ ap (λ (x : ℕ). xor_all (map (λ e. (stored_rec (segment_of p v gone g) x e).stamp) (present p gone))) (lies_away e)
      ∙ ap xor_all (sym (map-map (λ (x : Rec). x.stamp) (stored_rec (segment_of p v gone g) s) (present p gone)))
      ∙ ap (λ (x : Rec). x.stamp) (sym (rec_lost p gone (segment_of p v gone g) s d e ∙ decode_rec_xor p gone s d (stored_rec (segment_of p v gone g) s)))

  pub stamp_here : is_in gone d ≡ false → (q : Rec) → q ≡ stored_rec (segment_of p v gone g) s d → q.stamp ≡ (rec_of p gone (segment_of p v gone g) s d).stamp
  stamp_here e q f = ap (λ (x : Rec). x.stamp) (f ∙ sym (rec_here p gone (segment_of p v gone g) s d e))

  pub away_counted : is_in gone d ≡ true → StripeCounts p v gone cs g o
  away_counted e = subst (λ (x : ℕ). StripeCounts p v gone cs g x) (sym (lies_away e)) k.counted

-- ---- a candidate by its place

module _ (p : Params) (r : Ranged p) (v : View) (gone : ℕ) (here : Here p gone) (apart : SpotsApart p v gone) (h : Cand) (k : CandAt p v gone h) where
  is_drive : place_drive p h.place ≡ h.drive
  is_drive = spot_drive p r v gone here apart h (spot_of p r v gone here apart h k)

  is_offset : place_block p h.place - 1 ≡ h.offset
  is_offset = ap (λ (x : ℕ). x - 1) (spot_block p r v gone here apart h (spot_of p r v gone here apart h k)) ∙ (let z : 1 + h.offset - 1 ≡ h.offset = omega arith in z)

  pub block_low : 1 ≤ place_block p h.place
  block_low = omega (arith, spot_block p r v gone here apart h (spot_of p r v gone here apart h k))

  pub lies_place_drive_low : place_drive p h.place < p.N
  lies_place_drive_low = subst (λ (x : ℕ). x < p.N) (sym is_drive) (spot_of p r v gone here apart h k).drive_low

  cand_on_drive : h.drive ≡ data_drive p k.stripe k.position
  unfolding cand_of
  cand_on_drive = ap (λ (x : Cand). x.drive) k.it_is

  its_lie : (cs : List ℕ) → SegmentShown p v gone k.of cs → LiesIn p v gone cs h.drive k.of h.offset k.stripe
  unfolding cand_of
  its_lie cs sh = record {
    drive_low = (spot_of p r v gone here apart h k).drive_low;
    counted = record { remains = k.remains; stripe_low = k.stripe_low; it_counts = k.it_counts; shown = sh };
    offset_is = ap (λ (x : Cand). x.offset) k.it_is ∙ ap (offset_of gone (segment_of p v gone k.of) k.stripe) (sym cand_on_drive);
  }

  -- the place says drive and offset
  pub place_lies : (cs : List ℕ) → SegmentShown p v gone k.of cs → (q : ℕ) → h.place ≡ q → LiesIn p v gone cs (place_drive p q) k.of (place_block p q - 1) k.stripe
  place_lies cs sh q e = subst (λ (x : ℕ). LiesIn p v gone cs (place_drive p x) k.of (place_block p x - 1) k.stripe) e
      (subst (λ (x : ℕ). LiesIn p v gone cs x k.of (place_block p h.place - 1) k.stripe) (sym is_drive)
      (subst (λ (x : ℕ). LiesIn p v gone cs h.drive k.of x k.stripe) (sym is_offset) (its_lie cs sh)))

  -- 02, item 4: its zone says the row of its segment
  pub record OwnerRow (y : ℕ) : Type 0 where
    pub row_low : y < p.Z
    pub row_is : (rows : List ℕ) → FlagsRows p v gone rows → seg (part (8 * y) 8 rows) ≡ k.of
    pub serial_there : (ns : List ℕ) → Serials p v gone ns → get_or ns y 0 ≡ (segment_of p v gone k.of).serial

  pub owner_row : (ow : List ℕ) → Owners p v gone ow → (q y : ℕ) → h.place ≡ q → y ≡ get_or ow (place_drive p q * p.Z + place_zone p q) 0 → OwnerRow y
  owner_row ow o q y e ey =
      let a = remaining-at p v gone here k.of k.remains in
      let t = spot_of p r v gone here apart h k in
      let at : owner_at_of p k.of h.drive ≡ place_drive p q * p.Z + place_zone p q =
      sym (owner_at p k.of h.drive (place_zone p h.place) (h.drive * p.Z + place_zone p h.place) (cand_zone p r v gone here apart h k t) refl)
      ∙ ap (λ (x : ℕ). x * p.Z + place_zone p h.place) (sym is_drive) ∙ ap (λ (x : ℕ). place_drive p x * p.Z + place_zone p x) e in
      let is : y ≡ a.zone = ey ∙ ap (λ (x : ℕ). get_or ow x 0) (sym at) ∙ ap (λ (g : Seg). get_or ow (owner_at_of p g h.drive) 0) a.it_is
      ∙ o.1 a.zone h.drive a.zone_low t.drive_low a.it_remains in
      record {
        row_low = subst (λ (x : ℕ). x < p.Z) (sym is) a.zone_low;
        row_is = λ rows rs. ap (λ (x : ℕ). seg (part (8 * x) 8 rows)) is ∙ ap (λ (zs : List ℕ). seg zs) (rs.1 a.zone a.zone_low a.it_leads) ∙ sym a.it_is;
        serial_there = λ ns s. ap (λ (x : ℕ). get_or ns x 0) is ∙ kept_serial p v gone here ns a.zone s a.zone_low a.it_leads ∙ sym (serial_is p v gone (seg_at p v gone a.zone))
            ∙ ap (λ (g : Seg). (segment_of p v gone g).serial) (sym a.it_is);
      }

  -- the record found there is the candidate
  pub it_is_found : (q a t n d o : ℕ) → h.place ≡ q → h.address ≡ a → d ≡ place_drive p q → o ≡ place_block p q - 1
      → t ≡ (rec_of p gone (segment_of p v gone k.of) k.stripe (place_drive p q)).stamp → n ≡ (segment_of p v gone k.of).serial
      → record { address = a; stamp = t; serial = n; drive = d; offset = o; place = q } ≡ h
  unfolding cand_of
  it_is_found q a t n d o eq ea ed eo et en =
      let es : t ≡ h.stamp =
      et ∙ ap (λ (y : ℕ). (rec_of p gone (segment_of p v gone k.of) k.stripe y).stamp) (ap (place_drive p) (sym eq) ∙ is_drive ∙ cand_on_drive)
      ∙ sym (ap (λ (x : Cand). x.stamp) k.it_is) in
      let er : n ≡ h.serial = en ∙ sym (ap (λ (x : Cand). x.serial) k.it_is) in
      let ed' : d ≡ h.drive = ed ∙ ap (place_drive p) (sym eq) ∙ is_drive in
      let eo' : o ≡ h.offset = eo ∙ ap (λ (x : ℕ). place_block p x - 1) (sym eq) ∙ is_offset in
      λ j. record { address = sym ea j; stamp = es j; serial = er j; drive = ed' j; offset = eo' j; place = sym eq j }

-- ---- answers of the code

pub add_away : (b : Bool) (t x : ℕ) → b ≡ true → t ≡ cond b t (bit_xor t x)
add_away b t x e = sym (cond_true b t (bit_xor t x) e)

pub add_here : (b : Bool) (t x y : ℕ) → b ≡ false → y ≡ x → bit_xor t y ≡ cond b t (bit_xor t x)
add_here b t x y e q = ap (bit_xor t) q ∙ sym (cond_false b t (bit_xor t x) e)

pub lies_same : (p : Params) (v : View) (gone : ℕ) (cs : List ℕ) (d : ℕ) (g : Seg) (o s e : ℕ) (h : Seg) (i : ℕ) → e ≡ d → h ≡ g → i ≡ o → LiesIn p v gone cs d g o s
    → LiesIn p v gone cs e h i s
lies_same p v gone cs d g o s e h i ed eg eo k =
    subst (λ (x : ℕ). LiesIn p v gone cs x h i s) (sym ed) (subst (λ (x : Seg). LiesIn p v gone cs d x i s) (sym eg) (subst (λ (x : ℕ). LiesIn p v gone cs d g x s) (sym eo) k))
