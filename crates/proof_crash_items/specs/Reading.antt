-- What the read calls give on memory whose tables are a restart's: the block of the greatest counted stamp. Assumes nothing.
use Rattle.std.specs.Prelude.{◌≡◌, Bool, cond, ◌⊎◌, length, get_or}
use Rattle.std.proofs.Math.Path.{refl, sym, ap}
use Rattle.std.proofs.Common.{ap₂, ◌∙◌, subst, inl, inr, ⊎_elim, mul-le-mul, arith}
use mathlib.Core.List.{List, [], map}
use Rattle.std.proofs.Math.Bool.{true, false}
use Prim.Native.Nat.{ℕ, ◌+◌, ◌-◌, ◌*◌, ◌^◌, ◌≤◌, ◌<◌}
use Rattle.spec.specs.declared.Params.{Params}
use Rattle.spec.specs.Counts.{never_place}
use Rattle.spec.specs.Drives.{View, zone_at, Disk, zone_on, above_narrow, few_good}
use Rattle.spec.specs.Engine.{lent_ok_of}
use Rattle.spec.specs.History.{mk_world, Seen, seen_at}
use Rattle.spec.specs.History.Seen.{unwritten, got}
use Rattle.spec.specs.Lists.{Opt, any, cons_if, is_nil, first_or, is_in}
use Rattle.spec.specs.Lists.Opt.{none, some}
use Rattle.spec.specs.Memory.{Memory, state_ok, place_at_of, shown_at}
use Rattle.spec.specs.Params.{in_range, capacity, place_of, place_block, place_zone, place_drive, present}
use Rattle.spec.specs.Parity.{decode_piece, Piece, parity_piece}
use Rattle.spec.specs.Rank.{Cand, best, place_or, cands_of}
use Rattle.spec.specs.Read.{place_faults, Found, found_faults, shown, decode_faults, stored_at, decoded_at, read_piece}
use Rattle.spec.specs.Read.Found.{nowhere, here, away}
use Rattle.spec.specs.Segments.{Segment, segment_of, segments, offset_on, has_chunk, counts, stored_piece, piece_of, offset_of, cand_of, candidates, address_table, compact_table, place_segment}
use Rattle.law_checks.specs.Passed.{found_in_of, ReadPassed}
use Rattle.law_checks.specs.Reads.{seen_never, seen_here, seen_away}
use Rattle.law_basic.specs.Geometry.{Ranged, capacity_high, zones_all, addresses_all, place_block_lem, place_zone_lem, place_drive_lem, place_lt}
use Rattle.law_basic.specs.Xor.{length-parity}
use Rattle.law_code.specs.Chunks.{chunk_decoded}
use Rattle.law_code.specs.Code.{decode_same}
use Rattle.law_views.specs.Looked.{found_nowhere, found_some}
use Rattle.law_views.specs.Views.{Whole, seen}
use Rattle.law_calls.specs.Refusals.{state_fine}
use Rattle.law_drives.specs.Segs.{stored-at, cand_at}
use Rattle.law_drives.specs.Tables.{place_at}
use Rattle.law_drives.specs.Tests.{cond_true, cond_false}
use Rattle.proof_crash_machine.specs.Exec.{true≢false}
use Rattle.proof_crash_machine.specs.Facts.{Ghost, InV, Choice, Counted}
use Rattle.proof_crash_machine.specs.Val.{Val, pads}
use Rattle.proof_crash_items.specs.Cands.{stamp_of, stamp_some, stamp_none, cands_seen, From, cand_counted, stamp_read_holds, winner, has_cand}
use Rattle.proof_crash_items.specs.Items.{value_of}
use Rattle.proof_crash_items.specs.Member.{Has, none_any, map_has}
use Rattle.proof_crash_items.specs.Named.{present_has}
use Rattle.proof_crash_items.specs.Ranges.{capacity_few, par_of}
use Rattle.proof_crash_items.specs.Segs.{OnDrives, SegAt, apart_there, drive_here, name_of, put_there, remains_at_holds}
use Rattle.proof_crash_items.specs.Stripes.{stored-below, offset_on_holds, stored_block_long, counted_has, piece_at, piece_here, piece_lost}
use Rattle.proof_crash_items.specs.Table.{shown_offset, shown_some}
use Rattle.proof_crash_items.specs.Values.{piece_value, blocks_of_long, pieces_long}
use Rattle.spec.specs.declared.Seg.{Seg}
use Rattle.law_drives.specs.Laid.{address_low}
use Rattle.law_drives.specs.Spots.{place_holder, spot_faults, spot_of}
use Rattle.proof_crash_machine.specs.View.{ItemView}

-- memory whose tables are what the drives say, m missing
pub record Tabled (p : Params) (v : View) (m : ℕ) (mem : Memory) : Type 0 where
  pub addresses : mem.addresses ≡ address_table p (candidates p m (segments p v m))
  pub compact : mem.compact ≡ compact_table p (segments p v m)
  pub missing : mem.state.missing ≡ m
  pub ok : state_ok p mem.state ≡ true

-- ---- the place of a record

pub places_many : (p : Params) → Ranged p → p.N * p.Z * capacity p < never_place
places_many p r =
    let a : p.N * p.Z ≤ 8192 = zones_all p r in
    let b : p.N * p.Z * capacity p ≤ 8192 * 87381 = mul-le-mul a (capacity_high p r) in
    omega (arith, b)

module _ (p : Params) (r : Ranged p) (off : List ℕ) (g : Ghost) (dk : Disk) (u : ItemView) (w : Whole p dk) (k : OnDrives p r off g (seen p off dk) u)
    (known : (x : Val) → InV x g.sent → (0 < x.stamp) × (x.addr < p.L))
    (m : ℕ) (c : Choice (par_of p r off) g.un (is_in m)) (mem : Memory) (t : Tabled p (seen p off dk) m mem) (h₁ : in_range p ≡ true) (h₂ : lent_ok_of p off dk mem ≡ true)
    (fit : above_narrow p off ≡ false) where
  abbrev v : View
  v = seen p off dk

  abbrev G : Seg → Segment
  G z = segment_of p v m z

  abbrev cands : List Cand
  cands = candidates p m (segments p v m)

  -- no check of a read holds where the address lies at a place with no fault
  no_check_holds : (a : ℕ) → a < p.L → (f : Found) → found_in_of p mem a ≡ f → found_faults p v m f ≡ [] → decode_faults p v m (compact_table p (segments p v m)) f ≡ []
      → ReadPassed p (lent_ok_of p off dk mem) v mem a
  no_check_holds a l f e fine decodes = record {
    in_range_holds = h₁;
    lent = h₂;
    zones_enough = ap (few_good p) k.offline ∙ k.enough;
    addresses_fit = ap (above_narrow p) k.offline ∙ fit;
    address_low = l;
    state_fine = t.ok;
    place_fine = ap₂ (found_faults p v) t.missing e ∙ fine;
    decodes = (λ j. decode_faults p v (t.missing j) (t.compact j) (e j)) ∙ decodes;
  }

  -- where a record's piece lies
  module _ (x : Cand) (f : From p r off g v u k m c x) where
    reading_zb : SegAt p v u m f.z (name_of p v m f.z)
    reading_zb = remains_at_holds p r off g v u k m c f.z f.rem

    abbrev its_zone : ℕ
    its_zone = zone_on f.z f.d

    its_zone_low : its_zone < p.Z
    its_zone_low = (put_there p r off g v u k m c f.z f.rem f.d f.drv).0

    chunk_on : (d : ℕ) → d < p.N → is_in m d ≡ false → has_chunk (G f.z) f.s d ≡ true
    chunk_on = (counted_has p r off g v u k m c f.z f.s f.cnt).1

    ofs : ℕ
    ofs = offset_of m (G f.z) f.s f.d

    offset_read : is_in m f.d ≡ false → ofs ≡ offset_on (G f.z) f.d f.s
    unfolding ofs offset_of
    offset_read n = cond_false (is_in m f.d) f.s (offset_on (G f.z) f.d f.s) n

    off_lost : is_in m f.d ≡ true → ofs ≡ f.s
    unfolding ofs offset_of
    off_lost e = cond_true (is_in m f.d) f.s (offset_on (G f.z) f.d f.s) e

    off_few : ofs < p.S
    off_few = go (is_in m f.d) refl
      where
        go : (y : Bool) → is_in m f.d ≡ y → ofs < p.S
        go true e = subst (λ (x : ℕ). x < p.S) (sym (off_lost e)) (counted_has p r off g v u k m c f.z f.s f.cnt).0
        go false n =
            subst (λ (x : ℕ). x < p.S) (sym (offset_read n))
            (stored-below p (zone_at v f.d its_zone) (offset_on (G f.z) f.d f.s)
            (offset_on_holds p r off g v u k m c f.z f.s f.d reading_zb f.drv n (chunk_on f.d f.drv n)).0).0

    block_few : 1 + ofs < capacity p
    block_few = omega (arith, off_few, capacity_few p r)

    place_is : x.place ≡ place_of p f.d its_zone (1 + ofs)
    place_is = ap (λ (y : Cand). y.place) f.is ∙ go
      where
        go : (cand_of p m (G f.z) f.s f.d).place ≡ place_of p f.d its_zone (1 + ofs)
        go = unfold cand_of ofs segment_of in refl

    place_d : place_drive p x.place ≡ f.d
    place_d = ap (place_drive p) place_is ∙ place_drive_lem p f.d its_zone (1 + ofs) its_zone_low block_few

    place_z : place_zone p x.place ≡ its_zone
    place_z = ap (place_zone p) place_is ∙ place_zone_lem p f.d its_zone (1 + ofs) its_zone_low block_few

    place_seg : place_segment p v m x.place ≡ f.z
    place_seg = ap (place_segment p v m) place_is
        ∙ place_holder p v m (drive_here p r off g v u k m c) (apart_there p r off g v u k m c) f.z f.rem f.d f.drv r (1 + ofs) block_few

    place_b : place_block p x.place ≡ 1 + ofs
    place_b = ap (place_block p) place_is ∙ place_block_lem p f.d its_zone (1 + ofs) block_few

    place_low : x.place < never_place
    place_low =
        let q : place_of p f.d its_zone (1 + ofs) < p.N * p.Z * capacity p = place_lt p f.d its_zone (1 + ofs) f.drv its_zone_low block_few in omega (arith, place_is, q, places_many p r)

    no_place_fault : place_faults p v m x.place ≡ []
    no_place_fault =
        let h = drive_here p r off g v u k m c in
        let e = apart_there p r off g v u k m c in
        spot_faults p r v m h e x (spot_of p r v m h e x (cand_at p v m x it_is_one))
      where
        it_is_one : Has x cands
        it_is_one = subst (λ (y : Cand). Has y cands) (sym f.is) (unfold cands_seen in has_cand p r off g v u k m c f.z f.s f.d f.rem f.cnt f.drv f.dat)

    -- what is read is the piece
    read_stored : is_in m f.d ≡ false → read_piece p v m (compact_table p (segments p v m)) (here x.place) ≡ piece_of p m (G f.z) f.s f.d
    unfolding read_piece
    read_stored n =
        rw (place_d, place_seg, place_b) (
        ap (stored_at p v m f.d f.z) (let e : 1 + ofs - 1 ≡ offset_on (G f.z) f.d f.s = omega (arith, offset_read n) in e)
        ∙ stored-at p v m f.z f.d f.s f.drv n (chunk_on f.d f.drv n)
        ∙ sym (piece_here p r off g v u k m c f.z f.s f.d f.drv n))

    shown_piece : (d : ℕ) → d < p.N → is_in m d ≡ false
        → stored_at p v m d f.z (first_or 0 (shown_at p v (compact_table p (segments p v m)) d (zone_on f.z d) f.s)) ≡ stored_piece (G f.z) f.s d
    shown_piece d l n =
        ap (stored_at p v m d f.z) (shown_offset p r off g v u k m c f.z f.s d f.rem l n (chunk_on d l n))
        ∙ stored-at p v m f.z d f.s l n (chunk_on d l n)

    read_decoded : is_in m f.d ≡ true → read_piece p v m (compact_table p (segments p v m)) (away x.place) ≡ piece_of p m (G f.z) f.s f.d
    unfolding read_piece decoded_at
    read_decoded e =
        rw (place_d, place_seg, place_b)
        (ap (λ (s : ℕ). decode_piece p m s f.d (at s)) (let i : 1 + ofs - 1 ≡ f.s = omega (arith, off_lost e) in i)
        ∙ decode_same p m f.s f.d (at f.s) (stored_piece (G f.z) f.s) shown_piece
        ∙ sym (chunk_decoded p m (G f.z) f.s f.d e))
      where
        at : ℕ → ℕ → Piece
        at s d = stored_at p v m d f.z (first_or 0 (shown_at p v (compact_table p (segments p v m)) d (zone_on f.z d) s))

    no_decode_fault : is_in m f.d ≡ true → decode_faults p v m (compact_table p (segments p v m)) (away x.place) ≡ []
    unfolding decode_faults shown
    no_decode_fault e =
        nothing (any is_nil (map (λ d. shown_at p v (compact_table p (segments p v m)) d (zone_on (place_segment p v m x.place) d) (place_block p x.place - 1))
        (present p m))) (place_zone p x.place) go
      where
        nothing : (b : Bool) (z : ℕ) → b ≡ false → cons_if b z [] ≡ []
        nothing true z e = true≢false (sym e)
        nothing false z e = unfold cons_if in refl

        at : ℕ → List ℕ
        at d = shown_at p v (compact_table p (segments p v m)) d (zone_on f.z d) f.s

        go : any is_nil (map (λ d. shown_at p v (compact_table p (segments p v m)) d (zone_on (place_segment p v m x.place) d) (place_block p x.place - 1)) (present p m)) ≡ false
        go = ap₂ (λ (z : Seg) (s : ℕ). any is_nil (map (λ d. shown_at p v (compact_table p (segments p v m)) d (zone_on z d) s) (present p m))) place_seg
            (ap (λ (y : ℕ). y - 1) place_b ∙ (let i : 1 + ofs - 1 ≡ f.s = omega (arith, off_lost e) in i))
            ∙ none_any is_nil (map at (present p m)) (λ y i.
            let d : (d : ℕ) × Has d (present p m) × (y ≡ at d) = map_has at y (present p m) i in
            let l : (d.0 < p.N) × (is_in m d.0 ≡ false) = present_has p m d.0 d.1 in
            ap is_nil d.2 ∙ shown_some p r off g v u k m c f.z f.s d.0 f.rem l.0 l.1 (chunk_on d.0 l.0 l.1))

    -- the block has its length
    pub piece_long : length (piece_of p m (G f.z) f.s f.d).block ≡ p.B
    piece_long = go (is_in m f.d) refl
      where
        go : (y : Bool) → is_in m f.d ≡ y → length (piece_of p m (G f.z) f.s f.d).block ≡ p.B
        go false n =
            ap (λ (y : Piece). length y.block) (piece_here p r off g v u k m c f.z f.s f.d f.drv n)
            ∙ stored_block_long p r off g v u k m c f.z f.s f.d reading_zb f.drv n (chunk_on f.d f.drv n)
        go true e = ap (λ (y : Piece). length y.block) (piece_lost p r off g v u k m c f.z f.s f.d e)
            ∙ parity_long
          where
            parity_long : length (parity_piece p f.s (map (stored_piece (G f.z) f.s) (present p m))).block ≡ p.B
            parity_long = unfold parity_piece in length-parity p.B (map (λ (q : Piece). q.block) (map (stored_piece (G f.z) f.s) (present p m)))
                (blocks_of_long p.B (map (stored_piece (G f.z) f.s) (present p m)) (pieces_long p.B (stored_piece (G f.z) f.s) (present p m)
                (λ d i. stored_block_long p r off g v u k m c f.z f.s d reading_zb (present_has p m d i).0 (present_has p m d i).1
                (chunk_on d (present_has p m d i).0 (present_has p m d i).1))))

    -- ---- what the calls give
    pub seen_record : (a : ℕ) → a < p.L → best none (cands_of a cands) ≡ some x
        → seen_at p off (mk_world dk mem) a ≡ got (piece_of p m (G f.z) f.s f.d).block (piece_of p m (G f.z) f.s f.d).rec.stamp
    seen_record a l e = go (is_in m f.d) refl
      where
        entry : place_at_of mem.addresses a ≡ x.place
        entry = ap (λ (tb : List ℕ). place_at_of tb a) t.addresses
            ∙ place_at p cands a l (subst (λ (y : Opt Cand). place_or y < 256 ^ 4) (sym e) (unfold place_or in omega (arith, place_low)))
            ∙ (unfold place_or in ap place_or e)

        found : (b : Bool) → is_in m f.d ≡ b → found_in_of p mem a ≡ cond b (away x.place) (here x.place)
        found b q =
            found_some p mem.addresses a x.place entry mem.state.missing (omega (arith, place_low))
            ∙ ap (λ (y : Bool). cond y (away x.place) (here x.place)) (ap₂ is_in t.missing place_d ∙ q)

        seen_piece : Piece → Seen
        seen_piece y = got y.block y.rec.stamp

        fine_here : found_faults p v m (here x.place) ≡ []
        fine_here = unfold found_faults in no_place_fault

        fine_away : found_faults p v m (away x.place) ≡ []
        fine_away = unfold found_faults in no_place_fault

        go : (y : Bool) → is_in m f.d ≡ y → seen_at p off (mk_world dk mem) a ≡ seen_piece (piece_of p m (G f.z) f.s f.d)
        go false n =
            seen_here p off dk mem a (no_check_holds a l (here x.place) (found false n) fine_here (unfold decode_faults in refl)) x.place (found false n)
            ∙ ap seen_piece (ap₂ (λ (i : ℕ) (cs : List ℕ). read_piece p v i cs (here x.place)) t.missing t.compact ∙ read_stored n)
        go true n =
            seen_away p off dk mem a (no_check_holds a l (away x.place) (found true n) fine_away (no_decode_fault n)) x.place (found true n)
            ∙ ap seen_piece (ap₂ (λ (i : ℕ) (cs : List ℕ). read_piece p v i cs (away x.place)) t.missing t.compact ∙ read_decoded n)

  pub seen_nothing : (a : ℕ) → a < p.L → best none (cands_of a cands) ≡ none → seen_at p off (mk_world dk mem) a ≡ unwritten
  seen_nothing a l e = seen_never p off dk mem a (no_check_holds a l nowhere found (unfold found_faults in refl) (unfold decode_faults in refl)) found
    where
      entry : place_at_of mem.addresses a ≡ never_place
      entry = ap (λ (tb : List ℕ). place_at_of tb a) t.addresses
          ∙ place_at p cands a l (subst (λ (y : Opt Cand). place_or y < 256 ^ 4) (sym e) (unfold place_or in omega arith))
          ∙ (unfold place_or in ap place_or e)

      found : found_in_of p mem a ≡ nowhere
      found = found_nowhere p mem.addresses a never_place entry mem.state.missing refl

  -- what a read gives at an address: nothing, and no stamp counts; or the block of the greatest counted stamp, with it
  pub record ReadsBlock (a : ℕ) : Type 0 where
    pub block : List ℕ
    pub value : Val
    pub counts : Counted (par_of p r off) g.hd u (is_in m) value
    pub addr : value.addr ≡ a
    pub stamp : value.stamp ≡ stamp_read_holds p r off g v u k m c a
    pub given : 0 < value.stamp
    pub shows : seen_at p off (mk_world dk mem) a ≡ got block value.stamp
    pub long : length block ≡ p.B
    pub is : value.blk ≡ (λ i. get_or block i 0)

  pub seen_is : (a : ℕ) → a < p.L → ((stamp_read_holds p r off g v u k m c a ≡ 0) × (seen_at p off (mk_world dk mem) a ≡ unwritten)) ⊎ ReadsBlock a
  seen_is a l = ⊎_elim
      (λ (e : best none (cands_of a (cands_seen p r off g v u k m c)) ≡ none). inl (zero_of e, seen_nothing a l (same ∙ e)))
      (λ (h : (y : Cand) × (best none (cands_of a (cands_seen p r off g v u k m c)) ≡ some y) × From p r off g v u k m c y × (y.address ≡ a)).
      let f : From p r off g v u k m c h.0 = h.2 in
      let y : Counted (par_of p r off) g.hd u (is_in m) (piece_at p r off g v u k m c f.z f.s f.d) × ((piece_at p r off g v u k m c f.z f.s f.d).addr ≡ h.0.address)
      × ((piece_at p r off g v u k m c f.z f.s f.d).stamp ≡ h.0.stamp) = cand_counted p r off g v u k m c h.0 f in
      inr (record {
        block = (piece_of p m (G f.z) f.s f.d).block;
        value = piece_at p r off g v u k m c f.z f.s f.d;
        counts = y.0;
        addr = y.1 ∙ h.3;
        stamp = y.2 ∙ sym (stamp_of_holds h.0 h.1);
        given = positive (piece_at p r off g v u k m c f.z f.s f.d) y.0 (subst (λ (i : ℕ). i < p.L) (sym (y.1 ∙ h.3)) l);
        shows = unfold piece_at piece_value value_of in seen_record h.0 f a l (same ∙ h.1);
        long = piece_long h.0 f;
        is = unfold piece_at piece_value value_of in refl;
      })) (winner p r off g v u k m c a)
    where
      same : best none (cands_of a cands) ≡ best none (cands_of a (cands_seen p r off g v u k m c))
      same = unfold cands_seen in refl

      zero_of : best none (cands_of a (cands_seen p r off g v u k m c)) ≡ none → stamp_read_holds p r off g v u k m c a ≡ 0
      zero_of e = unfold stamp_read_holds in (ap stamp_of (same ∙ e) ∙ stamp_none)

      stamp_of_holds : (y : Cand) → best none (cands_of a (cands_seen p r off g v u k m c)) ≡ some y → stamp_read_holds p r off g v u k m c a ≡ y.stamp
      stamp_of_holds y e = unfold stamp_read_holds in (ap stamp_of (same ∙ e) ∙ stamp_some y)

      positive : (y : Val) → Counted (par_of p r off) g.hd u (is_in m) y → y.addr < p.L → 0 < y.stamp
      positive y q b = ⊎_elim (λ (e : y ≡ pads). absurd (let i : ⊥ = omega (arith, pads_high y e, b, addresses_all p r) in i)) (λ (i : InV y g.sent). (known y i).0)
          (k.facts.parity.sound (is_in m) c q.z q.s q.f q.st y q.dt)
        where
          pads_high : (y : Val) → y ≡ pads → y.addr ≡ 18446744073709551615
          pads_high y e = unfold pads in ap (λ (x : Val). x.addr) e
