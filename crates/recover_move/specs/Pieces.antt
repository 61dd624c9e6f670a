-- The chunks of a stripe that is moved: its data renumbered, its parity worked out anew (01, Restart, 4). Assumes nothing.
use Rattle.std.specs.Prelude.{ℕ, ◌+◌, ◌-◌, ◌≤◌, ◌<◌, length, get_or, replicate, true, false, ◌≡◌, refl}
use Rattle.spec.specs.Bytes.{xors, parity, xor_all}
use Rattle.spec.specs.Layout.{parity_position, data_drive, data_position, is_data, data_drives, Rec, mk_rec}
use Rattle.spec.specs.Lists.{below}
use Rattle.spec.specs.Params.{data_count, image_len}
use Rattle.spec.specs.Parity.{Piece, mk_piece, parity_rec, parity_piece}
use Rattle.spec.specs.Restart.{renumbered, moved_pieces, moved_on}
use Rattle.spec.specs.Segments.{Segment, stored_piece, stored_rec}
use Rattle.spec.specs.declared.Params.{Params}
use Rattle.recover_groups.specs.Groups.{group_len, AllEntered, segment_in, GroupReads}
use Rattle.recover_groups.specs.Pieces.{piece_block_long}
use Rattle.recover_groups.specs.declared.Group.{Group}
use Rattle.law_basic.specs.Geometry.{Ranged, data_drive_lt, position_lt}
use Rattle.law_basic.specs.Mask.{is_in_empty}
use Rattle.law_basic.specs.Ranges.{below_none, map-below-snoc, map-map, get_d_map-below}
use Rattle.law_basic.specs.Segs.{ZonesLow, low_here}
use Rattle.law_basic.specs.Xor.{long_below, parity_none, parity-snoc, xor_all_none, xor_all-below-snoc}
use Rattle.law_code.specs.Chunks.{moved_is_data, moved_is_parity}
use Rattle.law_code.specs.Single.{encode_xor}
use Rattle.std.specs.Int.Bits.{bit_xor}
use mathlib.Core.List.{List, [], map}
use Rattle.std.proofs.Math.Path.{sym}
use Rattle.std.proofs.Common.{ap, ◌∙◌, arith}

-- ---- data

-- a chunk under another stripe number
pub piece_moved : (g : Segment) (s d n : ℕ) (b : List ℕ) (q : Rec) → b ≡ (stored_piece g s d).block → q.address ≡ (stored_rec g s d).address → q.stamp ≡ (stored_rec g s d).stamp
    → q.stripe ≡ n
    → mk_piece b q ≡ renumbered n (stored_piece g s d)
unfolding renumbered stored_piece stored_rec
piece_moved g s d n b q e a t m = λ j. mk_piece (e j) (mk_rec (a j) (t j) (m j))

module _ (p : Params) (g : Segment) (s n : ℕ) where
  -- the data of the stripe, by position
  abbrev pub data_at : ℕ → Piece
  data_at i = renumbered n (stored_piece g s (data_drive p s i))

  moved_are : moved_pieces p g s n ≡ map (λ i. renumbered n (stored_piece g s (data_drive p s i))) (below (data_count p))
  unfolding moved_pieces data_drives
  moved_are = map-map (λ d. renumbered n (stored_piece g s d)) (data_drive p s) (below (data_count p))

  -- what a data drive gets
  pub renumbered_data : (d : ℕ) → d < p.N → is_data p n d ≡ true → renumbered n (stored_piece g s (data_drive p s (data_position p n d))) ≡ moved_on p (moved_pieces p g s n) n d
  renumbered_data d hd q =
      sym (moved_is_data p (moved_pieces p g s n) n d q
      ∙ ap (λ (l : List Piece). get_or l (data_position p n d) (mk_piece [] (mk_rec 0 0 0))) moved_are
      ∙ get_d_map-below (λ i. renumbered n (stored_piece g s (data_drive p s i))) (data_count p) (data_position p n d) (mk_piece [] (mk_rec 0 0 0)) (position_lt p n d q hd))

  -- what the parity drive gets
  pub parity-moved : (d : ℕ) → is_data p n d ≡ false → parity_piece p n (moved_pieces p g s n) ≡ moved_on p (moved_pieces p g s n) n d
  parity-moved d q = sym (moved_is_parity p (moved_pieces p g s n) n d q ∙ encode_xor p (parity_position p n d) n (moved_pieces p g s n))

  -- ---- parity: block and record after the first i data chunks

  abbrev block_at : ℕ → List ℕ
  block_at i = (stored_piece g s (data_drive p s i)).block

  abbrev rec_at : ℕ → Rec
  rec_at i = stored_rec g s (data_drive p s i)

  pub record Xored (i : ℕ) (b : List ℕ) (q : Rec) : Type 0 where
    pub blocks : b ≡ parity p.B (map (λ j. (stored_piece g s (data_drive p s j)).block) (below i))
    pub addresses : q.address ≡ xor_all (map (λ j. (stored_rec g s (data_drive p s j)).address) (below i))
    pub stamps : q.stamp ≡ xor_all (map (λ j. (stored_rec g s (data_drive p s j)).stamp) (below i))
    pub number : q.stripe ≡ n

  pub xored_start : (b : List ℕ) (q : Rec) → b ≡ replicate p.B 0 → q.address ≡ 0 → q.stamp ≡ 0 → q.stripe ≡ n → Xored 0 b q
  xored_start b q e a t m = record {
    blocks = e ∙ sym (ap (λ (l : List ℕ). parity p.B (map block_at l)) below_none ∙ parity_none p.B);
    addresses = a ∙ sym (ap (λ (l : List ℕ). xor_all (map (λ j. (rec_at j).address) l)) below_none ∙ xor_all_none);
    stamps = t ∙ sym (ap (λ (l : List ℕ). xor_all (map (λ j. (rec_at j).stamp) l)) below_none ∙ xor_all_none);
    number = m;
  }

  pub xored_turn : (i : ℕ) (b b' : List ℕ) (q q' : Rec) → Xored i b q → ((j : ℕ) → j ≤ i → length (stored_piece g s (data_drive p s j)).block ≡ p.B)
      → b' ≡ xors b (stored_piece g s (data_drive p s i)).block → q'.address ≡ bit_xor q.address (stored_rec g s (data_drive p s i)).address
      → q'.stamp ≡ bit_xor q.stamp (stored_rec g s (data_drive p s i)).stamp → q'.stripe ≡ q.stripe → Xored (i + 1) b' q'
  xored_turn i b b' q q' x long e a t m = record {
    blocks = e ∙ ap (λ (l : List ℕ). xors l (block_at i)) x.blocks
        ∙ sym (ap (parity p.B) (map-below-snoc block_at i)
        ∙ parity-snoc p.B (map block_at (below i)) (block_at i) (long_below p.B block_at i (λ j h. long j (omega arith)))
        (long i (omega arith)));
    addresses = a ∙ ap (λ (k : ℕ). bit_xor k (rec_at i).address) x.addresses ∙ sym (xor_all-below-snoc (λ j. (rec_at j).address) i);
    stamps = t ∙ ap (λ (k : ℕ). bit_xor k (rec_at i).stamp) x.stamps ∙ sym (xor_all-below-snoc (λ j. (rec_at j).stamp) i);
    number = m ∙ x.number;
  }

  pub xored_done : (b : List ℕ) (q : Rec) → Xored (data_count p) b q → mk_piece b q ≡ parity_piece p n (moved_pieces p g s n)
  xored_done b q x =
      (λ j. mk_piece (x.blocks j) (mk_rec (x.addresses j) (x.stamps j) (x.number j)))
      ∙ as!
      ∙ ap (parity_piece p n) (sym moved_are)
    where
      as! :
          mk_piece (parity p.B (map block_at (below (data_count p))))
          (mk_rec (xor_all (map (λ j. (rec_at j).address) (below (data_count p)))) (xor_all (map (λ j. (rec_at j).stamp) (below (data_count p)))) n)
          ≡ parity_piece p n (map data_at (below (data_count p)))
      as! = unfold parity_piece parity_rec renumbered stored_rec stored_piece in λ j. mk_piece
          (parity p.B (block j))
          (mk_rec (xor_all (addr j)) (xor_all (stamp j)) n)
        where
          block : map block_at (below (data_count p)) ≡ map (λ (y : Piece). y.block) (map data_at (below (data_count p)))
          block = unfold renumbered in sym (map-map (λ (y : Piece). y.block) data_at (below (data_count p)))

          addr : map (λ j. (rec_at j).address) (below (data_count p)) ≡ map (λ (r : Rec). r.address) (map (λ (y : Piece). y.rec) (map data_at (below (data_count p))))
          addr =
              unfold stored_rec stored_piece renumbered in sym
              (ap (map (λ (r : Rec). r.address)) (map-map (λ (y : Piece). y.rec) data_at (below (data_count p)))
              ∙ map-map (λ (r : Rec). r.address) (λ i. (data_at i).rec) (below (data_count p)))

          stamp : map (λ j. (rec_at j).stamp) (below (data_count p)) ≡ map (λ (r : Rec). r.stamp) (map (λ (y : Piece). y.rec) (map data_at (below (data_count p))))
          stamp =
              unfold stored_rec stored_piece renumbered in sym
              (ap (map (λ (r : Rec). r.stamp)) (map-map (λ (y : Piece). y.rec) data_at (below (data_count p)))
              ∙ map-map (λ (r : Rec). r.stamp) (λ i. (data_at i).rec) (below (data_count p)))

-- ---- as the code goes

module _ (p : Params) (r : Ranged p) (off im ps : List ℕ) (w : Group) (at : List ℕ) (k n : ℕ) (long : length im ≡ image_len p) (hs : ZonesLow p 0 w.seg) (hb : w.base < p.S)
    (hk : k < group_len p w.base)
    (en : AllEntered p 0 w.base at k) (x : GroupReads p off im ps w at) where
  abbrev g : Segment
  g = segment_in p off im ps w

  -- a data chunk moved
  pub data-moved :
      (i D : ℕ) (b : List ℕ) (y q : Rec)
      → D ≡ data_drive p (w.base + k) i
      → b ≡ (stored_piece (segment_in p off im ps w) (w.base + k) D).block
      → y ≡ stored_rec (segment_in p off im ps w) (w.base + k) D
      → q.address ≡ y.address → q.stamp ≡ y.stamp → q.stripe ≡ n → mk_piece b q ≡ renumbered n (stored_piece (segment_in p off im ps w) (w.base + k) (data_drive p (w.base + k) i))
  data-moved i D b y q e eb ey a t m =
      piece_moved g (w.base + k) D n b q eb (a ∙ ap (λ (z : Rec). z.address) ey) (t ∙ ap (λ (z : Rec). z.stamp) ey) m
      ∙ ap (λ (d : ℕ). renumbered n (stored_piece g (w.base + k) d)) e

  -- one data chunk more in the parity
  pub xored_step : (i D : ℕ) (b b' : List ℕ) (q q' y : Rec) → i < data_count p → D ≡ data_drive p (w.base + k) i → Xored p (segment_in p off im ps w) (w.base + k) n i b q
      → b' ≡ xors b (stored_piece (segment_in p off im ps w) (w.base + k) D).block → y ≡ stored_rec (segment_in p off im ps w) (w.base + k) D
      → q'.address ≡ bit_xor q.address y.address → q'.stamp ≡ bit_xor q.stamp y.stamp → q'.stripe ≡ q.stripe
      → Xored p (segment_in p off im ps w) (w.base + k) n (i + 1) b' q'
  xored_step i D b b' q q' y hi e xi eb ey a t m =
      xored_turn p g (w.base + k) n i b b' q q' xi
      (λ j h.
      let hd : data_drive p (w.base + k) j < p.N = data_drive_lt p (w.base + k) j (omega arith) in
      let D = data_drive p (w.base + k) j in
      piece_block_long p off im ps w at r long x hb k hk D hd (low_here p w.seg D hs hd) (en D hd (is_in_empty D)))
      (eb ∙ ap (λ (d : ℕ). xors b (stored_piece g (w.base + k) d).block) e)
      (a ∙ ap (λ (z : Rec). bit_xor q.address z.address) (ey ∙ ap (stored_rec g (w.base + k)) e))
      (t ∙ ap (λ (z : Rec). bit_xor q.stamp z.stamp) (ey ∙ ap (stored_rec g (w.base + k)) e))
      m

pub data_count_minus : (p : Params) → data_count p ≡ p.N - 1
unfolding data_count
data_count_minus p = refl
