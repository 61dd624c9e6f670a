-- What a read gives, in plain terms: the best of a list is beaten by none of it, and its serial leads back to its segment. Assumes nothing.
use Rattle.std.specs.Prelude.{◌≡◌, List, [], ◌∷◌, false, cond, ℕ, ◌<◌}
use Rattle.std.proofs.Math.Path.{refl, sym, ap}
use Rattle.std.proofs.Common.{◌∙◌, subst, inl, inr, arith}
use Rattle.spec.specs.declared.Params.{Params}
use Rattle.spec.specs.Demands.{said_block, said_at}
use Rattle.spec.specs.Drives.{View, record_at, record_in, sealed_in, zone_at, zone_on}
use Rattle.spec.specs.History.Seen.{unwritten, got}
use Rattle.spec.specs.Layout.{data_drive, data_position}
use Rattle.spec.specs.Lists.{Opt, first_or, is_in}
use Rattle.spec.specs.Lists.Opt.{none, some}
use Rattle.spec.specs.Rank.{Cand, beats, better, best, cands_of}
use Rattle.spec.specs.Segments.{remaining, segment_of, segments, piece_of, cand_of, candidates, Segment, low_drive, offset_of, offset_on, seg_for, stored_piece}
use Rattle.law_basic.specs.Geometry.{drive_is_data, data_drive_lt, drive_position, position_lt}
use Rattle.law_basic.specs.Ranges.{Test, test}
use Rattle.law_basic.specs.Ranges.Test.{yes!, no! }
use Rattle.spec_demands.specs.Latest.{Recorded, Latest, SaidIsLatest}
use Rattle.spec_demands.specs.Latest.Latest.{never, latest}
use Rattle.law_drives.specs.Best.{Tied, best_in, some_is}
use Rattle.law_drives.specs.Segs.{CandAt, cand_at, at_cand, serial_is, remaining_left, chunk_at_holds, Here, is_seg, seg_in}
use Rattle.law_drives.specs.Gather.{present_in, in_present, left_in, left_serial}
use Rattle.law_drives.specs.Spots.{counts_in}
use Rattle.law_drives.specs.Members.{In, in_some, first_in}
use Rattle.spec.specs.Params.{present}
use Rattle.spec.specs.Parity.{Piece}
use Rattle.law_drives.specs.Tests.{clash, not_so, cond_true, cond_false}
use Rattle.proof_tables.specs.Ranks.{Beats, beats_yes, yes_beats, beats_trans, beats_self, tied_of, of_at}
use Rattle.proof_tables.specs.Ranks.Beats.{by_stamp, by_serial_holds, by_drive, by_offset}
use Rattle.law_code.specs.Chunks.{chunk_decoded}
use Rattle.law_code.specs.Code.{decode_same}
use Rattle.spec.specs.declared.Seg.{Seg}

-- ---- the rule

-- records that are tied beat the same
tied_beats : (a b c : Cand) → Tied a b → Beats a c → Beats b c
tied_beats a b c t (by_stamp x) = by_stamp (let e = t.same_stamp in omega arith)
tied_beats a b c t (by_serial_holds e x) = by_serial_holds (sym t.same_stamp ∙ e) (let f = t.same_serial in omega arith)
tied_beats a b c t (by_drive e f x) = by_drive (sym t.same_stamp ∙ e) (sym t.same_serial ∙ f) (let g = t.same_drive in omega arith)
tied_beats a b c t (by_offset e f g x) = by_offset (sym t.same_stamp ∙ e) (sym t.same_serial ∙ f) (sym t.same_drive ∙ g) (let h = t.same_offset in omega arith)

-- what doesn't beat b doesn't beat what b doesn't beat
not_through : (a b c : Cand) → beats a b ≡ false → beats b c ≡ false → beats a c ≡ false
not_through a b c n m = not_so (beats a c) (λ q. go (beats_yes a c q) (test (beats b a)))
  where
    no : Beats b c → ⊥
    no x = clash (yes_beats b c x) m

    go : Beats a c → Test (beats b a) → ⊥
    go x (yes! h) = no (beats_trans b a c (beats_yes b a h) x)
    go x (no! h) = no (tied_beats a b c (tied_of a b n h) x)

not_itself : (a : Cand) → beats a a ≡ false
not_itself a = not_so (beats a a) (λ q. beats_self a (beats_yes a a q))

-- no record of a list beats its best
unbeaten : (b : Cand) (cs : List Cand) (c : Cand) → best (some b) cs ≡ some c → (beats b c ≡ false) × ((e : Cand) → In e cs → beats e c ≡ false)
unfolding best better
unbeaten b [] c q = (subst (λ (x : Cand). beats b x ≡ false) (some_is q) (not_itself b), λ e m. absurd m)
unbeaten b (x ∷ cs) c q = go (test (beats x b)) (unbeaten b cs c) (unbeaten x cs c)
  where
    go : Test (beats x b) → (best (some b) cs ≡ some c → (beats b c ≡ false) × ((e : Cand) → In e cs → beats e c ≡ false))
        → (best (some x) cs ≡ some c → (beats x c ≡ false) × ((e : Cand) → In e cs → beats e c ≡ false))
        → (beats b c ≡ false) × ((e : Cand) → In e (x ∷ cs) → beats e c ≡ false)
    go (yes! h) fb fx =
        let (n, f) = fx (sym (ap (λ (y : Cand). best (some y) cs) (cond_true (beats x b) x b h)) ∙ q) in
        (not_so (beats b c) (λ y. clash (yes_beats x c (beats_trans x b c (beats_yes x b h) (beats_yes b c y))) n), both n f)
      where
        both : beats x c ≡ false → ((e : Cand) → In e cs → beats e c ≡ false) → (e : Cand) → In e (x ∷ cs) → beats e c ≡ false
        both n f e (inl y) = subst (λ (z : Cand). beats z c ≡ false) (sym y) n
        both n f e (inr y) = f e y
    go (no! h) fb fx =
        let (n, f) = fb (sym (ap (λ (y : Cand). best (some y) cs) (cond_false (beats x b) x b h)) ∙ q) in
        (n, both n f)
      where
        both : beats b c ≡ false → ((e : Cand) → In e cs → beats e c ≡ false) → (e : Cand) → In e (x ∷ cs) → beats e c ≡ false
        both n f e (inl y) = subst (λ (z : Cand). beats z c ≡ false) (sym y) (not_through x b c h n)
        both n f e (inr y) = f e y

-- of a list that isn't empty there is a best
always : (b : Cand) (cs : List Cand) → best (some b) cs ≡ none → ⊥
unfolding best better
always b [] q = let z : ◌≡◌ {A = ℕ} 0 1 = cc in omega arith
always b (x ∷ cs) q = always (cond (beats x b) x b) cs q

none_there : (cs : List Cand) → best none cs ≡ none → (e : Cand) → In e cs → ⊥
unfolding best better
none_there [] q e m = m
none_there (x ∷ cs) q e m = always x cs q

none_beats : (cs : List Cand) (c : Cand) → best none cs ≡ some c → (e : Cand) → In e cs → beats e c ≡ false
unfolding best better
none_beats [] c q e m = absurd m
none_beats (x ∷ cs) c q e (inl y) = subst (λ (z : Cand). beats z c ≡ false) (sym y) (unbeaten x cs c q).0
none_beats (x ∷ cs) c q e (inr y) = (unbeaten x cs c q).1 e y

-- ---- records of counted stripes

module _ (p : Params) (v : View) (gone a : ℕ) where
  abbrev said : List Cand
  said = candidates p gone (segments p v gone)

  recorded_in : (c : Cand) → Recorded p v gone a c → In c (cands_of a said)
  recorded_in c k = of_at a said c (
    at_cand p v gone c (record {
      of = k.segment;
      stripe = k.stripe;
      position = data_position p k.stripe k.drive;
      remains = is_seg k.segment (remaining p v gone) k.segment_remains;
      stripe_low = k.stripe_low;
      it_counts = k.stripe_counts;
      position_low = position_lt p k.stripe k.drive k.drive_data k.drive_low;
      it_is = k.it_is ∙ ap (cand_of p gone (segment_of p v gone k.segment) k.stripe) (sym (drive_position p k.stripe k.drive k.drive_data));
    }),
    k.of_address,
  )

  in_recorded : (c : Cand) → CandAt p v gone c → c.address ≡ a → Recorded p v gone a c
  in_recorded c k e = record {
    segment = k.of;
    stripe = k.stripe;
    drive = data_drive p k.stripe k.position;
    segment_remains = seg_in k.of (remaining p v gone) k.remains;
    stripe_low = k.stripe_low;
    stripe_counts = k.it_counts;
    drive_low = data_drive_lt p k.stripe k.position k.position_low;
    drive_data = drive_is_data p k.stripe k.position;
    it_is = k.it_is;
    of_address = e;
  }

  -- a drive that is present: the lowest one is
  present-low : (d : ℕ) → d < p.N → is_in gone d ≡ false → Here p gone
  unfolding low_drive
  present-low d hd q = present_in p gone (first_or 0 (present p gone)) (first_in (present p gone) 0 (in_some (present p gone) d (in_present p gone d hd q)))

  module _ (c : Cand) (k : CandAt p v gone c) where
    abbrev x : Segment
    x = segment_of p v gone k.of

    -- the segment of its serial
    plain_its_seg : Here p gone → seg_for p v gone c.serial ≡ k.of
    unfolding cand_of
    plain_its_seg low =
        let m = remaining_left p v gone k.of k.remains in
        let l = left_in p v gone low k.of m in
        let s : c.serial ≡ l.serial =
        ap (λ (y : Cand). y.serial) k.it_is ∙ serial_is p v gone k.of ∙ left_serial p v gone low k.of m (low_drive p gone) low.0 low.1 in
        ap (seg_for p v gone) s ∙ sym l.is_for

    plain_cand_drive : c.drive ≡ data_drive p k.stripe k.position
    unfolding cand_of
    plain_cand_drive = ap (λ (y : Cand). y.drive) k.it_is

    drive_low : c.drive < p.N
    drive_low = subst (λ (d : ℕ). d < p.N) (sym plain_cand_drive) (data_drive_lt p k.stripe k.position k.position_low)

    plain_cand_offset : c.offset ≡ offset_of gone x k.stripe c.drive
    unfolding cand_of
    plain_cand_offset = ap (λ (y : Cand). y.offset) k.it_is ∙ ap (offset_of gone x k.stripe) (sym plain_cand_drive)

    -- what a read gives is block and stamp of the record's stripe and drive; where its drive is missing, of the segment just what the present drives have counts
    block_there : said_block p v gone (some c) ≡ got (piece_of p gone x k.stripe c.drive).block c.stamp
    unfolding said_block record_at offset_of
    block_there = go (test (is_in gone c.drive))
      where
        g : Seg
        g = seg_for p v gone c.serial

        d : ℕ
        d = c.drive

        there : Seg → ℕ
        there y = (record_in p (sealed_in p v gone y) (zone_at v c.drive (zone_on y c.drive)) c.offset).stripe

        go : Test (is_in gone c.drive)
            → got (piece_of p gone (segment_of p v gone (seg_for p v gone c.serial)) (cond (is_in gone c.drive) c.offset (there (seg_for p v gone c.serial))) c.drive).block c.stamp
            ≡ got (piece_of p gone x k.stripe c.drive).block c.stamp
        go (yes! b) =
            ap (λ (s : ℕ). got (piece_of p gone (segment_of p v gone g) s d).block c.stamp)
            (cond_true (is_in gone d) c.offset (there g) b ∙ plain_cand_offset ∙ cond_true (is_in gone d) k.stripe (offset_on x d k.stripe) b)
            ∙ ap (λ (y : Piece). got y.block c.stamp)
            (chunk_decoded p gone (segment_of p v gone g) k.stripe d b
            ∙ decode_same p gone k.stripe d (stored_piece (segment_of p v gone g) k.stripe) (stored_piece x k.stripe)
            (λ e he q. ap (λ (y : Seg). stored_piece (segment_of p v gone y) k.stripe e) (plain_its_seg (present-low e he q)))
            ∙ sym (chunk_decoded p gone x k.stripe d b))
        go (no! b) =
            let low = present-low d drive_low b in
            let ck = chunk_at_holds p v gone k.of d k.stripe drive_low b (counts_in p gone x k.stripe d k.it_counts drive_low b) in
            let o : c.offset ≡ offset_on x d k.stripe = plain_cand_offset ∙ cond_false (is_in gone d) k.stripe (offset_on x d k.stripe) b in
            let s : there g ≡ k.stripe = ap there (plain_its_seg low)
            ∙ ap (λ (n : ℕ). (record_in p (sealed_in p v gone k.of) (zone_at v d (zone_on k.of d)) n).stripe) o ∙ ck.its_stripe in
            ap (λ (n : ℕ). got (piece_of p gone (segment_of p v gone g) n d).block c.stamp) (cond_false (is_in gone d) c.offset (there g) b ∙ s)
            ∙ ap (λ (y : Seg). got (piece_of p gone (segment_of p v gone y) k.stripe d).block c.stamp) (plain_its_seg low)

    block_of_lem : said_block p v gone (some c) ≡ got (piece_of p gone x k.stripe (data_drive p k.stripe k.position)).block c.stamp
    block_of_lem = block_there ∙ ap (λ (e : ℕ). got (piece_of p gone x k.stripe e).block c.stamp) plain_cand_drive

  said_latest : Latest p v gone a (best none (cands_of a said)) (said_at p v gone a)
  unfolding in_recorded
  said_latest = go (best none (cands_of a said)) refl
    where
      at! : (o : Opt Cand) → best none (cands_of a said) ≡ o → said_at p v gone a ≡ said_block p v gone o
      at! o e = unfold said_at in ap (said_block p v gone) e

      nothing : said_block p v gone none ≡ unwritten
      nothing = unfold said_block in refl

      go : (o : Opt Cand) → best none (cands_of a said) ≡ o → Latest p v gone a (best none (cands_of a said)) (said_at p v gone a)
      go none e = never (λ c k. none_there (cands_of a said) e c (recorded_in c k)) e (at! none e ∙ nothing)
      go (some c) e =
          let (m, ea) = best_in a said c e in
          let k = cand_at p v gone c m in
          latest c (in_recorded c k ea) (λ x j. none_beats (cands_of a said) c e x (recorded_in x j)) e (at! (some c) e ∙ block_of_lem c k)

-- demand 2, in plain terms
pub said_plain : SaidIsLatest
said_plain p ir v gone a = said_latest p v gone a
