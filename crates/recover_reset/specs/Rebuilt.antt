-- A rebuilt zone: its header, its chunks, and its footers, which repeat the spares just stored (01, Rebuild; What a zone holds). Assumes nothing.
use Rattle.std.specs.Prelude.{◌≡◌, Bool, false, ◌&&◌, ℕ, ◌+◌, min, ◌≤◌, ◌<◌, length, get_or, drop}
use Rattle.std.proofs.Math.Path.{refl, sym, ap, ap₂}
use Rattle.std.proofs.Common.{◌∙◌, eq-eqb, arith, length-take, length-drop, get_or-take, get_or-drop}
use mathlib.Core.List.{List, [], ◌∷◌, ◌++◌, map}
use Rattle.std.proofs.Math.Bool.{true, cond}
use Rattle.std.proofs.Math.Dec.{eqb}
use Rattle.std.proofs.Math.ListN.{take}
use Rattle.std.proofs.lemmas.List.{length-map}
use Rattle.std.proofs.Math.Seq.{ext_get_or}
use Rattle.spec.specs.declared.Params.{Params}
use Rattle.spec.specs.Drives.{Chunk, mk_chunk, no_chunk, Zone, View, zone_at, pointer_at, Store, Disk, pointer_of, store_disk, store_all, zone_on, spares_of, footers_of}
use Rattle.spec.specs.Drives.{zero_spare, footer_stores, zones_in}
use Rattle.spec.specs.Drives.Store.{put}
use Rattle.spec.specs.Layout.{header_block, mk_rec, record_bytes, footer_block}
use Rattle.spec.specs.Lists.{up_from, below, cons_if, keep, is_in}
use Rattle.spec.specs.Params.{footers, capacity, named}
use Rattle.spec.specs.Parity.{Piece, mk_piece}
use Rattle.spec.specs.Rebuild.{rebuilt_zone}
use Rattle.spec.specs.Segments.{Segment, segment_of, counts, counted, piece_of, put_piece}
use Rattle.law_basic.specs.Geometry.{Ranged}
use Rattle.law_basic.specs.Ranges.{and_both, length-below, map_same, map-map, get_d_map}
use Rattle.law_basic.specs.Segs.{ZonesLow}
use Rattle.law_views.specs.Views.{Whole, pointer_view, blocks_long, AllFit, seen}
use Rattle.law_drives.specs.Frame.{Agree}
use Rattle.law_drives.specs.Image.{sized_of}
use Rattle.law_drives.specs.Members.{keep_cong, nil-append}
use Rattle.law_drives.specs.Puts.{hits-append, put_at, hits-puts, put_all, puts_pointer, puts_new}
use Rattle.law_drives.specs.Range.{capacity_is, capacity_over}
use Rattle.law_drives.specs.Rebuilding.{piece_chunk}
use Rattle.law_drives.specs.Segs.{Here}
use Rattle.law_drives.specs.Tests.{cond_true, cond_false, eqb_self}
use Rattle.law_drives.specs.Zones.{hits_at_of, zone_store, hits, zone_after}
use Rattle.law_restart.specs.Frames.{seen-after, whole_after}
use Rattle.recover_reset.specs.Lost.{lost_store, lost_stores, lost-puts, lost_apart, same_lost}
use Rattle.recover_reset.specs.Same.{same_seg_holds, same_serial, same_copied, same_full, same_counts, same_piece}
use Rattle.spec.specs.declared.Seg.{Seg}

-- 01, Rebuild: the store of the header
unfoldable pub head_store : Params → ℕ → Segment → Store
head_store p d g = put d (zone_on g.seg d) (header_block p d (zones_in p g.seg) g.serial g.copied) zero_spare

-- the records of the drive's chunks
unfoldable pub lost_spares : Params → ℕ → Segment → List (List ℕ)
lost_spares p d g = map (λ (q : Piece). record_bytes q.rec) (map (λ s. piece_of p (named d) g s d) (counted p (named d) g))

-- 01, Rebuild: the footer if the survivors' zones are full
unfoldable pub lost_feet : Params → ℕ → Segment → List Store
lost_feet p d g = cond g.full (map (λ i. put d (zone_on g.seg d) (footer_block p (lost_spares p d g) i) zero_spare) (below (footers p))) []

-- 01, Rebuild: all behind the header
unfoldable pub lost_rest : Params → ℕ → Segment → List Store
lost_rest p d g = lost_stores p (named d) d g (below p.S) ++ lost_feet p d g

pub rebuilt_parts : (p : Params) (d : ℕ) (g : Segment) → rebuilt_zone p d g ≡ (head_store p d g ∷ []) ++ lost_rest p d g
unfolding rebuilt_zone head_store lost_rest lost_stores lost_store lost_feet lost_spares counted
rebuilt_parts p d g =
    let cs = keep (counts p (named d) g) (below p.S) in
    let z = zone_on g.seg d in
    ap (λ (l : List Store). put d z (header_block p d (zones_in p g.seg) g.serial g.copied) zero_spare ∷
    (l ++ cond g.full (map (λ i. put d z (footer_block p (lost_spares p d g) i) zero_spare) (below (footers p))) []))
    (map-map (put_piece d z) (λ s. piece_of p (named d) g s d) cs)

-- the stores of a rebuilt zone are puts on it
feet-puts :
    (p : Params) (d : ℕ) (g : Segment)
    → lost_feet p d g ≡ map (put_at d (zone_on g.seg d))
    (cond g.full (map (λ i. mk_chunk (footer_block p (lost_spares p d g) i) zero_spare) (below (footers p))) [])
unfolding lost_feet put_at
feet-puts p d g = go g.full
  where
    z : ℕ
    z = zone_on g.seg d

    go : (b : Bool) → cond b (map (λ i. put d z (footer_block p (lost_spares p d g) i) zero_spare) (below (footers p))) []
        ≡ map (λ (c : Chunk). put d z c.block c.spare) (cond b (map (λ i. mk_chunk (footer_block p (lost_spares p d g) i) zero_spare) (below (footers p))) [])
    go true = sym (map-map (λ (c : Chunk). put d z c.block c.spare) (λ i. mk_chunk (footer_block p (lost_spares p d g) i) zero_spare) (below (footers p)))
    go false = refl

pub lost_feet_apart : (p : Params) (d : ℕ) (g : Segment) (e y : ℕ) → (eqb d e && eqb (zone_on g.seg d) y) ≡ false → hits e y (lost_feet p d g) ≡ []
lost_feet_apart p d g e y q =
    let z = zone_on g.seg d in
    let cs : List Chunk = cond g.full (map (λ i. mk_chunk (footer_block p (lost_spares p d g) i) zero_spare) (below (footers p))) [] in
    ap (hits e y) (feet-puts p d g) ∙ hits-puts e y d z cs ∙ cond_false (eqb d e && eqb z y) (map (put_at d z) cs) [] q

pub head_apart : (p : Params) (d : ℕ) (g : Segment) (e y : ℕ) → (eqb d e && eqb (zone_on g.seg d) y) ≡ false → hits e y (head_store p d g ∷ []) ≡ []
unfolding head_store keep hits_at_of cons_if
head_apart p d g e y q = rw q

pub rebuilt_apart : (p : Params) (d : ℕ) (g : Segment) (e y : ℕ) → (eqb d e && eqb (zone_on g.seg d) y) ≡ false → hits e y (rebuilt_zone p d g) ≡ []
unfolding lost_rest
rebuilt_apart p d g e y q =
    let ls = lost_stores p (named d) d g (below p.S) in
    ap (hits e y) (rebuilt_parts p d g)
    ∙ hits-append e y (head_store p d g ∷ []) (ls ++ lost_feet p d g)
    ∙ nil-append (hits e y (head_store p d g ∷ [])) (hits e y (ls ++ lost_feet p d g)) (head_apart p d g e y q)
    (hits-append e y ls (lost_feet p d g) ∙ nil-append (hits e y ls) (hits e y (lost_feet p d g)) (lost_apart p (named d) d g (below p.S) e y q) (lost_feet_apart p d g e y q))

-- ---- the same on views that agree but on the drive

module _ (p : Params) (d : ℕ) (v u : View) (here : Here p (named d)) (lost : is_in (named d) d ≡ true) (ag : Agree p (named d) v u) (off : v.offline ≡ u.offline) (g : Seg)
    (hg : ZonesLow p (named d) g) where
  abbrev x : Segment
  x = segment_of p v (named d) g

  abbrev y : Segment
  y = segment_of p u (named d) g

  same_head : head_store p d x ≡ head_store p d y
  unfolding head_store
  same_head = λ j. let h = same_seg_holds p (named d) v u here ag off g hg j in
      put d (zone_on h d) (header_block p d (zones_in p h) (same_serial p (named d) v u here ag off g hg j) (same_copied p (named d) v u here ag off g hg j)) zero_spare

  same_spares : lost_spares p d x ≡ lost_spares p d y
  unfolding lost_spares counted
  same_spares = ap (map (λ (q : Piece). record_bytes q.rec))
      (ap (map (λ s. piece_of p (named d) x s d)) (keep_cong (counts p (named d) x) (counts p (named d) y) (below p.S) (λ s m. same_counts p (named d) v u here ag off g hg s))
      ∙ map_same (λ s. piece_of p (named d) x s d) (λ s. piece_of p (named d) y s d) (keep (counts p (named d) y) (below p.S)) (λ s. same_piece p (named d) v u here ag off g hg s d lost))

  same_feet : lost_feet p d x ≡ lost_feet p d y
  unfolding lost_feet
  same_feet = λ j. cond (same_full p (named d) v u here ag off g hg j)
      (map (λ i. put d (zone_on (same_seg_holds p (named d) v u here ag off g hg j) d) (footer_block p (same_spares j) i) zero_spare) (below (footers p))) []

  pub same_rest : lost_rest p d x ≡ lost_rest p d y
  unfolding lost_rest
  same_rest = ap₂ ◌++◌ (same_lost p (named d) v u here ag off g hg d lost (below p.S)) same_feet

  pub same_rebuilt : rebuilt_zone p d x ≡ rebuilt_zone p d y
  same_rebuilt = rebuilt_parts p d x ∙ ap₂ (λ (s : Store) (l : List Store). (s ∷ []) ++ l) same_head same_rest ∙ sym (rebuilt_parts p d y)

-- ---- the footers, once all S chunks are stored behind the header

module _ (p : Params) (r : Ranged p) (off : List ℕ) (d : ℕ) (g : Seg) (hd : d < p.N) (hz : zone_on g d < p.Z) (sg : Segment) (eg : sg.seg ≡ g) (k k' : Disk) (w : Whole p k)
    (fits : AllFit p (seen p off k) (lost_stores p (named d) d sg (below p.S))) (e : k' ≡ store_all (store_disk p) (lost_stores p (named d) d sg (below p.S)) k)
    (one : pointer_of p k.pointers d (zone_on g d) ≡ 1) (all! : counted p (named d) sg ≡ below p.S) where
  abbrev ls : List Store
  ls = lost_stores p (named d) d sg (below p.S)

  abbrev cs : List Chunk
  cs = map piece_chunk (map (λ s. piece_of p (named d) sg s d) (counted p (named d) sg))

  cs_long : length cs ≡ p.S
  cs_long =
      length-map (map (λ s. piece_of p (named d) sg s d) (counted p (named d) sg)) piece_chunk ∙ length-map (counted p (named d) sg) (λ s. piece_of p (named d) sg s d)
      ∙ ap length all! ∙ length-below p.S

  zone_eq : zone_on sg.seg d ≡ zone_on g d
  zone_eq = ap (λ (x : Seg). zone_on x d) eg

  puts_are : hits d (zone_on g d) ls ≡ map (put_at d (zone_on g d)) cs
  unfolding counted
  puts_are =
      let z = zone_on sg.seg d in
      let y = zone_on g d in
      let q : (eqb d d && eqb z y) ≡ true = and_both (eqb d d) (eqb z y) (eqb_self d) (eq-eqb z y zone_eq) in
      ap (hits d y) (lost-puts p (named d) d sg (below p.S)) ∙ hits-puts d y d z cs ∙ cond_true (eqb d d && eqb z y) (map (put_at d z) cs) [] q
      ∙ ap (λ (n : ℕ). map (put_at d n) cs) zone_eq

  abbrev q₀ : Zone
  q₀ = zone_at (seen p off k) d (zone_on g d)

  zone_now : zone_at (seen p off k') d (zone_on g d) ≡ put_all d (zone_on g d) cs q₀
  zone_now =
      ap (λ (v : View). zone_at v d (zone_on g d)) (seen-after p r off k k' ls w fits e) ∙ zone_after p (seen p off k) d (zone_on g d) ls (sized_of p off k w) hd hz
      ∙ ap (λ (l : List Store). store_all zone_store l q₀) puts_are

  pointer_one : q₀.pointer ≡ 1
  pointer_one = as! (pointer_view p off k d (zone_on g d) hd hz w ∙ one)
    where
      as! : pointer_at (seen p off k) d (zone_on g d) ≡ 1 → (zone_at (seen p off k) d (zone_on g d)).pointer ≡ 1
      as! h = unfold pointer_at in h

  -- there is room for them
  pub feet_room : pointer_of p k'.pointers d (zone_on g d) + footers p ≤ capacity p
  feet_room =
      let w' = whole_after p r off k k' ls w fits e in
      let a : pointer_of p k'.pointers d (zone_on g d) ≡ q₀.pointer + length cs = sym (pointer_view p off k' d (zone_on g d) hd hz w')
      ∙ as! (ap (λ (z : Zone). z.pointer) zone_now ∙ puts_pointer d (zone_on g d) cs q₀) in
      omega (arith, a, pointer_one, cs_long, capacity_is p r)
    where
      as! : (zone_at (seen p off k') d (zone_on g d)).pointer ≡ q₀.pointer + length cs → pointer_at (seen p off k') d (zone_on g d) ≡ q₀.pointer + length cs
      as! h = unfold pointer_at in h

  blocks_now : length (zone_at (seen p off k') d (zone_on g d)).blocks ≡ capacity p
  blocks_now = blocks_long p off k' d (zone_on g d) hd hz (whole_after p r off k k' ls w fits e)

  chunk_now : (o : ℕ) → o < p.S → get_or (zone_at (seen p off k') d (zone_on g d)).blocks (1 + o) no_chunk ≡ get_or cs o no_chunk
  chunk_now o h =
      let l : length q₀.blocks ≡ capacity p = blocks_long p off k d (zone_on g d) hd hz w in
      ap (λ (z : Zone). get_or z.blocks (1 + o) no_chunk) zone_now
      ∙ ap (λ (n : ℕ). get_or (put_all d (zone_on g d) cs q₀).blocks (n + o) no_chunk) (sym pointer_one)
      ∙ puts_new d (zone_on g d) cs q₀ o (omega (arith, cs_long)) (omega (arith, pointer_one, cs_long, l, capacity_over p r))

  spares_now : spares_of (take p.S (drop 1 (zone_at (seen p off k') d (zone_on g d)).blocks)) ≡ lost_spares p d sg
  unfolding spares_of lost_spares
  spares_now = ext_get_or [] (map (λ (c : Chunk). c.spare) row) made (long ∙ sym made_long) (λ o l. each o (omega (arith, long)))
    where
      row : List Chunk
      row = take p.S (drop 1 (zone_at (seen p off k') d (zone_on g d)).blocks)

      qs : List Piece
      qs = map (λ s. piece_of p (named d) sg s d) (counted p (named d) sg)

      made : List (List ℕ)
      made = map (λ (q : Piece). record_bytes q.rec) qs

      qs_long : length qs ≡ p.S
      qs_long = length-map (counted p (named d) sg) (λ s. piece_of p (named d) sg s d) ∙ ap length all! ∙ length-below p.S

      made_long : length made ≡ p.S
      made_long = length-map qs (λ (q : Piece). record_bytes q.rec) ∙ qs_long

      row_long : length row ≡ p.S
      row_long =
          length-take p.S (drop 1 (zone_at (seen p off k') d (zone_on g d)).blocks) ∙ ap (min p.S) (length-drop 1 (zone_at (seen p off k') d (zone_on g d)).blocks)
          ∙ omega (arith, blocks_now, capacity_over p r)

      long : length (map (λ (c : Chunk). c.spare) row) ≡ p.S
      long = length-map row (λ (c : Chunk). c.spare) ∙ row_long

      none! : Piece
      none! = mk_piece [] (mk_rec 0 0 0)

      spare_is : (q : Piece) → (piece_chunk q).spare ≡ record_bytes q.rec
      spare_is q = unfold piece_chunk in refl

      each : (o : ℕ) → o < p.S → get_or (map (λ (c : Chunk). c.spare) row) o [] ≡ get_or made o []
      each o h =
          get_d_map (λ (c : Chunk). c.spare) row o [] no_chunk (omega (arith, row_long))
          ∙ ap (λ (c : Chunk). c.spare)
          (get_or-take p.S (drop 1 (zone_at (seen p off k') d (zone_on g d)).blocks) o no_chunk h ∙ get_or-drop 1 (zone_at (seen p off k') d (zone_on g d)).blocks o no_chunk
          ∙ chunk_now o h ∙ get_d_map piece_chunk qs o no_chunk none! (omega (arith, qs_long)))
          ∙ spare_is (get_or qs o none!)
          ∙ sym (get_d_map (λ (q : Piece). record_bytes q.rec) qs o [] none! (omega (arith, qs_long)))

  -- they are made from the spares
  pub lost_feet_are : sg.full ≡ true → footer_stores p d (zone_on g d) (zone_at (seen p off k') d (zone_on g d)) 0 (footers p) ≡ lost_feet p d sg
  unfolding footer_stores footers_of lost_feet below
  lost_feet_are f =
      map-map (λ (b : List ℕ). put d (zone_on g d) b zero_spare) (footer_block p (spares_of (take p.S (drop 1 (zone_at (seen p off k') d (zone_on g d)).blocks)))) (up_from 0 (footers p))
      ∙ ap₂ (λ (ss : List (List ℕ)) (z : ℕ). map (λ i. put d z (footer_block p ss i) zero_spare) (up_from 0 (footers p))) spares_now (sym zone_eq)
      ∙ sym (cond_true sg.full (map (λ i. put d (zone_on sg.seg d) (footer_block p (lost_spares p d sg) i) zero_spare) (up_from 0 (footers p))) [] f)
