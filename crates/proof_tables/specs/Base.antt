-- What holds between calls whichever drive is missing, and that the reads then give what the drives say. Assumes nothing.
use Rattle.std.specs.Prelude.{◌≡◌, refl, List, [], map, true}
use Rattle.std.proofs.Math.Path.{sym, ap}
use Rattle.std.proofs.Common.{◌∙◌, subst, lit<}
use Rattle.std.proofs.Math.Bool.{false, cond}
use Prim.Native.Nat.{ℕ, ◌+◌, ◌-◌, ◌^◌, ◌<◌}
use native.Mathlib.Omega.{arith}
use Rattle.spec.specs.declared.Params.{Params}
use Rattle.spec.specs.Counts.{never_place}
use Rattle.spec.specs.Demands.{said_block}
use Rattle.spec.specs.Drives.{View, zone_at, Disk, zone_on, sealed_in, record_in, record_at, above_narrow, few_good}
use Rattle.spec.specs.Engine.{lent_ok_of}
use Rattle.spec.specs.History.Seen.{got}
use Rattle.spec.specs.Layout.{Rec}
use Rattle.spec.specs.Lists.{Opt, any, cons_if, is_nil, first_or, is_in}
use Rattle.spec.specs.Lists.Opt.{none, some}
use Rattle.spec.specs.Memory.{Memory, state_ok, place_at_of, shown_at}
use Rattle.spec.specs.Params.{in_range, place_block, present}
use Rattle.spec.specs.Parity.{Piece}
use Rattle.spec.specs.Rank.{Cand, best, place_or, cands_of}
use Rattle.spec.specs.Read.{Found, found_faults, shown, decode_faults, stored_at, decoded_at, read_piece, lies}
use Rattle.spec.specs.Read.Found.{nowhere, here, away}
use Rattle.spec.specs.Segments.{segment_of, segments, offset_on, stored_piece, piece_of, offset_of, candidates, address_table, compact_table, Segment, rec_of, cand_of, low_drive, seg_for}
use Rattle.law_basic.specs.Geometry.{Ranged}
use Rattle.law_basic.specs.Ranges.{Test, test}
use Rattle.law_basic.specs.Ranges.Test.{yes!, no! }
use Rattle.law_code.specs.Chunks.{chunk_decoded, chunk_stored}
use Rattle.law_code.specs.Code.{decode_same}
use Rattle.law_views.specs.Looked.{found_nowhere, found_here, found_away}
use Rattle.law_views.specs.Views.{seen}
use Rattle.law_drives.specs.Best.{best_in}
use Rattle.law_drives.specs.Members.{map_in, in_none}
use Rattle.law_drives.specs.Segs.{ChunkAt, chunk_at_holds, CandAt, cand_at, piece_rec, stored-at, Here, remaining_left, serial_is}
use Rattle.law_drives.specs.Spots.{SpotsApart, Spot, counts_in, spot_of, spot_block, spot_drive, spot_low, spot_faults, InGroups, shown_first, cand_offset, cand_segment}
use Rattle.law_drives.specs.Tables.{place_at}
use Rattle.law_drives.specs.Tests.{cond_true, cond_false}
use Rattle.law_drives.specs.Zones.{Shaped}
use Rattle.spec.specs.declared.Seg.{Seg}
use Rattle.law_drives.specs.Gather.{present_in, left_in, left_serial}

-- every chunk of what remains sits at an offset of its group, where a drive is missing
abbrev pub Decodes : Params → View → ℕ → Type 0
Decodes p v gone = (d : ℕ) → is_in gone d ≡ true → InGroups p v gone

-- parameters in range, buffers of their lengths, a state in range, and both tables as the drives say
pub record Base (p : Params) (off : List ℕ) (k : Disk) (m : Memory) : Type 0 where
  pub ranged : in_range p ≡ true
  pub lent : lent_ok_of p off k m ≡ true
  pub zones_enough : few_good p off ≡ false
  pub addresses_fit : above_narrow p off ≡ false
  pub low_here : Here p m.state.missing
  pub apart : SpotsApart p (seen p off k) m.state.missing
  pub shaped : Shaped p (seen p off k)
  pub state_ok_holds : state_ok p m.state ≡ true
  pub addresses_say : m.addresses ≡ address_table p (candidates p m.state.missing (segments p (seen p off k) m.state.missing))
  pub compact_says : m.compact ≡ compact_table p (segments p (seen p off k) m.state.missing)
  pub decodes : Decodes p (seen p off k) m.state.missing

-- where an address is found
pub data FindsAt (p : Params) (v : View) (gone : ℕ) (o : Opt Cand) (f : Found) : Type 0 where
  finds_none : o ≡ none → f ≡ nowhere → FindsAt p v gone o f
  finds_here : (c : Cand) → o ≡ some c → CandAt p v gone c → Spot p v gone c → is_in gone c.drive ≡ false → f ≡ here c.place → FindsAt p v gone o f
  finds_away : (c : Cand) → o ≡ some c → CandAt p v gone c → Spot p v gone c → is_in gone c.drive ≡ true → f ≡ away c.place → FindsAt p v gone o f

never_word : never_place < 256 ^ 4
never_word = lit< tt

module _ (p : Params) (r : Ranged p) (v : View) (gone : ℕ) (low_here : Here p gone) (apart : SpotsApart p v gone) where
  abbrev said : List Cand
  said = candidates p gone (segments p v gone)

  pub lies-found : (a : ℕ) → a < p.L → FindsAt p v gone (best none (cands_of a said)) (lies p gone (address_table p said) a)
  lies-found a h = go (best none (cands_of a said)) refl
    where
      go : (o : Opt Cand) → best none (cands_of a said) ≡ o → FindsAt p v gone (best none (cands_of a said)) (lies p gone (address_table p said) a)
      go none e =
          let q : place_or (best none (cands_of a said)) ≡ never_place = ap place_or e ∙ (unfold place_or in refl) in
          finds_none e (found_nowhere p (address_table p said) a never_place (place_at p said a h (subst (λ (x : ℕ). x < 256 ^ 4) (sym q) never_word) ∙ q) gone refl)
      go (some c) e =
          let k = cand_at p v gone c (best_in a said c e).0 in
          let t = spot_of p r v gone low_here apart c k in
          let q : place_or (best none (cands_of a said)) ≡ c.place = ap place_or e ∙ (unfold place_or in refl) in
          let l = spot_low p r v gone low_here apart c t in
          let x : place_at_of (address_table p said) a ≡ c.place = place_at p said a h (subst (λ (y : ℕ). y < 256 ^ 4) (sym q) (let z : c.place < 256 ^ 4 = omega arith in z)) ∙ q in
          two c e k t x (test (is_in gone c.drive))
        where
          far : (c : Cand) → Spot p v gone c → c.place ≡ never_place → ⊥
          far c t n = let l = spot_low p r v gone low_here apart c t in let z : ⊥ = omega arith in z

          two : (c : Cand) → best none (cands_of a said) ≡ some c → CandAt p v gone c → Spot p v gone c → place_at_of (address_table p said) a ≡ c.place
              → Test (is_in gone c.drive) → FindsAt p v gone (best none (cands_of a said)) (lies p gone (address_table p said) a)
          two c e k t x (yes! b) =
              finds_away c e k t b (found_away p (address_table p said) a c.place x gone (far c t) (ap (is_in gone) (spot_drive p r v gone low_here apart c t) ∙ b))
          two c e k t x (no! b) =
              finds_here c e k t b (found_here p (address_table p said) a c.place x gone (far c t) (ap (is_in gone) (spot_drive p r v gone low_here apart c t) ∙ b))

  -- no place that is found is bad
  pub found_clear : (o : Opt Cand) (f : Found) → FindsAt p v gone o f → found_faults p v gone f ≡ []
  unfolding found_faults
  found_clear o f (finds_none e q) = rw q
  found_clear o f (finds_here c e k t b q) = rw q (spot_faults p r v gone low_here apart c t)
  found_clear o f (finds_away c e k t b q) = rw q (spot_faults p r v gone low_here apart c t)

  module _ (c : Cand) (k : CandAt p v gone c) (t : Spot p v gone c) where
    pub offset_here : is_in gone c.drive ≡ false → c.offset ≡ offset_on (segment_of p v gone k.of) c.drive k.stripe
    unfolding offset_of
    offset_here b = cand_offset p r v gone low_here apart c k t ∙ cond_false (is_in gone c.drive) k.stripe (offset_on (segment_of p v gone k.of) c.drive k.stripe) b

    pub offset_away : is_in gone c.drive ≡ true → c.offset ≡ k.stripe
    unfolding offset_of
    offset_away b = cand_offset p r v gone low_here apart c k t ∙ cond_true (is_in gone c.drive) k.stripe (offset_on (segment_of p v gone k.of) c.drive k.stripe) b

    pub its_chunk : is_in gone c.drive ≡ false → ChunkAt p v gone k.of c.drive k.stripe
    its_chunk b = chunk_at_holds p v gone k.of c.drive k.stripe t.drive_low b (counts_in p gone (segment_of p v gone k.of) k.stripe c.drive k.it_counts t.drive_low b)

    abbrev its_segment : Segment
    its_segment = segment_of p v gone k.of

    -- its chunk, stored or decoded
    abbrev its_piece : Piece
    its_piece = piece_of p gone its_segment k.stripe c.drive

    block_is : place_block p c.place - 1 ≡ c.offset
    block_is = ap (λ (y : ℕ). y - 1) (spot_block p r v gone low_here apart c t) ∙ (let z : 1 + c.offset - 1 ≡ c.offset = omega arith in z)

    -- the segment of its serial
    its_seg : seg_for p v gone c.serial ≡ k.of
    unfolding cand_of
    its_seg =
        let l = left_in p v gone low_here k.of (remaining_left p v gone k.of k.remains) in
        let s : c.serial ≡ l.serial = ap (λ (x : Cand). x.serial) k.it_is ∙ serial_is p v gone k.of
        ∙ left_serial p v gone low_here k.of (remaining_left p v gone k.of k.remains) (low_drive p gone) low_here.0 low_here.1 in
        ap (seg_for p v gone) s ∙ sym l.is_for

    -- what is said of a candidate is its block and its stamp
    pub base_said_is : said_block p v gone (some c) ≡ got its_piece.block c.stamp
    unfolding said_block record_at
    base_said_is =
        let stripe : Seg → ℕ = λ g. cond (is_in gone c.drive) c.offset (record_in p (sealed_in p v gone g) (zone_at v c.drive (zone_on g c.drive)) c.offset).stripe in
        ap (λ (g : Seg). got (piece_of p gone (segment_of p v gone g) (stripe g) c.drive).block c.stamp) its_seg
        ∙ ap (λ (s : ℕ). got (piece_of p gone its_segment s c.drive).block c.stamp) (stripe! (test (is_in gone c.drive)))
      where
        there : ℕ
        there = (record_in p (sealed_in p v gone k.of) (zone_at v c.drive (zone_on k.of c.drive)) c.offset).stripe

        stripe! : Test (is_in gone c.drive) → cond (is_in gone c.drive) c.offset there ≡ k.stripe
        stripe! (yes! b) = cond_true (is_in gone c.drive) c.offset there b ∙ offset_away b
        stripe! (no! b) = cond_false (is_in gone c.drive) c.offset there b
            ∙ ap (λ (o : ℕ). (record_in p (sealed_in p v gone k.of) (zone_at v c.drive (zone_on k.of c.drive)) o).stripe) (offset_here b) ∙ (its_chunk b).its_stripe

    its_stamp : c.stamp ≡ its_piece.rec.stamp
    unfolding cand_of
    its_stamp =
        ap (λ (x : Cand). x.stamp) k.it_is ∙ ap (λ (e : ℕ). (rec_of p gone its_segment k.stripe e).stamp) (sym (ap (λ (x : Cand). x.drive) k.it_is))
        ∙ sym (ap (λ (x : Rec). x.stamp) (piece_rec p gone its_segment k.stripe c.drive))

    -- what a present drive has of its stripe, read where it lies
    stored_is : (d : ℕ) → d < p.N → is_in gone d ≡ false → stored_at p v gone d k.of (offset_on its_segment d k.stripe) ≡ stored_piece its_segment k.stripe d
    stored_is d hd pr = stored-at p v gone k.of d k.stripe hd pr (counts_in p gone its_segment k.stripe d k.it_counts hd pr)

    -- what a read finds of it is its chunk
    pub read_here : (cs : List ℕ) → is_in gone c.drive ≡ false → read_piece p v gone cs (here c.place) ≡ its_piece
    unfolding read_piece
    read_here cs b =
        rw (spot_drive p r v gone low_here apart c t, cand_segment p r v gone low_here apart c k t, block_is)
        (ap (stored_at p v gone c.drive k.of) (offset_here b) ∙ stored_is c.drive t.drive_low b ∙ sym (chunk_stored p gone its_segment k.stripe c.drive b))

    pub read_away : InGroups p v gone → is_in gone c.drive ≡ true → read_piece p v gone (compact_table p (segments p v gone)) (away c.place) ≡ its_piece
    unfolding read_piece decoded_at
    read_away w b =
        rw (spot_drive p r v gone low_here apart c t, cand_segment p r v gone low_here apart c k t, block_is, offset_away b)
        (decode_same p gone k.stripe c.drive at (stored_piece its_segment k.stripe) shown! ∙ sym (chunk_decoded p gone its_segment k.stripe c.drive b))
      where
        at : ℕ → Piece
        at d = stored_at p v gone d k.of (first_or 0 (shown_at p v (compact_table p (segments p v gone)) d (zone_on k.of d) k.stripe))

        shown! : (d : ℕ) → d < p.N → is_in gone d ≡ false → at d ≡ stored_piece its_segment k.stripe d
        shown! d hd pr =
            ap (stored_at p v gone d k.of) (shown_first p r v gone low_here w k.of d k.stripe k.remains hd pr (counts_in p gone its_segment k.stripe d k.it_counts hd pr)).0
            ∙ stored_is d hd pr

    -- and what is said of it
    pub said_read : (q : Piece) → q ≡ its_piece → got q.block q.rec.stamp ≡ said_block p v gone (some c)
    said_read q e = ap (λ (x : Piece). got x.block x.rec.stamp) e ∙ ap (got its_piece.block) (sym its_stamp) ∙ sym base_said_is

    pub decode_clear : InGroups p v gone → is_in gone c.drive ≡ true → decode_faults p v gone (compact_table p (segments p v gone)) (away c.place) ≡ []
    unfolding decode_faults shown cons_if
    decode_clear w b =
        let g = k.of in
        let tb = compact_table p (segments p v gone) in
        let q : any is_nil (map (λ d. shown_at p v tb d (zone_on g d) k.stripe) (present p gone)) ≡ false =
        in_none is_nil (map (λ d. shown_at p v tb d (zone_on g d) k.stripe) (present p gone))
        (λ l m.
        let (d, i, e) = map_in (λ d. shown_at p v tb d (zone_on g d) k.stripe) (present p gone) l m in
        let (hd, pr) = present_in p gone d i in
        ap is_nil e ∙ (shown_first p r v gone low_here w g d k.stripe k.remains hd pr (counts_in p gone (segment_of p v gone g) k.stripe d k.it_counts hd pr)).1) in
        rw (cand_segment p r v gone low_here apart c k t, block_is ∙ offset_away b, q)

  -- no decode that is found is bad
  pub decodes_clear : (o : Opt Cand) (f : Found) → Decodes p v gone → FindsAt p v gone o f → decode_faults p v gone (compact_table p (segments p v gone)) f ≡ []
  unfolding decode_faults
  decodes_clear o f w (finds_none e q) = rw q
  decodes_clear o f w (finds_here c e k t b q) = rw q
  decodes_clear o f w (finds_away c e k t b q) = ap (decode_faults p v gone (compact_table p (segments p v gone))) q ∙ decode_clear c k t (w c.drive b) b
