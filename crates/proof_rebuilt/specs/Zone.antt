-- The zones after a rebuild, from its stores: other drives are as before; on the named one, header, counted chunks and footers of what remains, and nothing else. Assumes nothing.
use Rattle.std.specs.Prelude.{◌≡◌, refl, List, [], ◌∷◌, ◌++◌, map, Bool, true, false, ℕ, suc, ◌+◌, ◌≤◌, ◌<◌, length, get_or}
use Rattle.std.proofs.Common.{sym, ◌∙◌, subst, zero-add, length-append, get_or-append-add}
use Rattle.std.proofs.Math.Path.{ap}
use Rattle.std.proofs.Math.Bool.{cond}
use Rattle.std.proofs.Math.Decide.{ℕ_discrete}
use borrow.Author.Tests.{ne_eqb}
use native.Mathlib.Omega.{arith}
use Rattle.std.proofs.lemmas.List.{length-map}
use Rattle.std.proofs.Math.ListN.{get_or-append}
use Rattle.spec.specs.declared.Params.{Params}
use Rattle.spec.specs.Drives.{Chunk, mk_chunk, no_chunk, Zone, View, zone_at, reset_zone, store_view_of, store_all, data_stored, zero_spare, zone_on, zones_in, is_good}
use Rattle.spec.specs.Layout.{header_block, mk_rec, record_bytes, footer_block}
use Rattle.spec.specs.Lists.{below, is_in}
use Rattle.spec.specs.Params.{footers, capacity, named}
use Rattle.spec.specs.Parity.{Piece, mk_piece}
use Rattle.spec.specs.Rebuild.{rebuild_stores}
use Rattle.spec.specs.Segments.{Segment, segment_of, segments, counted, piece_of, remaining}
use Rattle.law_basic.specs.Geometry.{Ranged}
use Rattle.law_basic.specs.Mask.{is_in-only}
use Rattle.law_basic.specs.Ranges.{length-below, get_d_map, get_d_map-below}
use Rattle.law_drives.specs.Accept.{Accepted, accepted_apart, named_here, zone_in_range}
use Rattle.law_drives.specs.Masks.{named_in}
use Rattle.law_drives.specs.Puts.{put_all, puts_pointer, puts_new}
use Rattle.law_drives.specs.Range.{capacity_is, capacity_over}
use Rattle.law_drives.specs.Rebuilding.{counted-low, piece_chunk, rebuilt_chunks, rebuild_agrees, zone_emptied, zone_rebuilt}
use Rattle.law_drives.specs.Spots.{SpotsApart}
use Rattle.law_drives.specs.Segs.{Here, full_is, remaining-low}
use Rattle.law_drives.specs.Zones.{Shaped, reset_pointer}
use Rattle.proof_rebuilt.specs.Groups.{sealed-all}
use Rattle.spec.specs.declared.Seg.{Seg}
use Rattle.law_drives.specs.Members.{In}

-- the view that a rebuild of drive d leaves
abbrev pub rebuilt_view : Params → View → ℕ → View
rebuilt_view p v d = store_all store_view_of (rebuild_stores p v d (segments p v (named d))) v

-- drive d is missing, and nothing is wrong on the others
pub record Loss (p : Params) (v : View) (d : ℕ) : Type 0 where
  pub ranged : Ranged p
  pub shaped : Shaped p v
  pub drive_low : d < p.N
  pub accepts : Accepted p v (named d)

module _ (p : Params) (v : View) (d : ℕ) (lo : Loss p v d) where
  abbrev r : Ranged p
  r = lo.ranged

  abbrev sh : Shaped p v
  sh = lo.shaped

  abbrev hd : d < p.N
  hd = lo.drive_low

  abbrev gone : ℕ
  gone = named d

  abbrev u : View
  u = rebuilt_view p v d

  abbrev pub drive_lost_holds : is_in (named d) d ≡ true
  drive_lost_holds = named_in p lo.ranged d lo.drive_low

  abbrev pub low-one : Here p (named d)
  low-one = named_here p lo.ranged d lo.drive_low

  abbrev pub zone_lost_apart : SpotsApart p v (named d)
  zone_lost_apart = accepted_apart p v (named d) lo.accepts (named_here p lo.ranged d lo.drive_low)

  -- no other drive is missing
  pub other_here : (e : ℕ) → e < p.N → (e ≡ d → ⊥) → is_in gone e ≡ false
  unfolding named
  other_here e he ne = let h = r.drives_high in is_in-only d e (omega arith) (omega arith) ∙ ne_eqb e d ne

  -- each drive is the rebuilt one or as it was
  pub each_drive : {P : ℕ → Type 0} → P d → ((e : ℕ) → e < p.N → is_in gone e ≡ false → P e) → (e : ℕ) → e < p.N → P e
  each_drive {P} a f e he = go (ℕ_discrete e d)
    where
      go : Dec (e ≡ d) → P e
      go (yes q) = subst P (sym q) a
      go (no q) = f e he (other_here e he q)

  pub present_zone_same : (e z : ℕ) → e < p.N → z < p.Z → is_in gone e ≡ false → zone_at u e z ≡ zone_at v e z
  present_zone_same e z he hz q = sym (rebuild_agrees p r v sh d hd drive_lost_holds zone_lost_apart e z he hz q)

  -- a good zone of none that remains
  pub zone_dropped : (z : ℕ) → z < p.Z → is_good p v.offline d z ≡ true → ((g : Seg) → In g (remaining p v gone) → zone_on g d ≡ z → ⊥) → (zone_at u d z).pointer ≡ 0
  zone_dropped z hz k n = ap (λ (y : Zone). y.pointer) (zone_emptied p r v sh d hd drive_lost_holds zone_lost_apart z hz k n) ∙ reset_pointer (zone_at v d z)

  -- ---- the zone of a segment that remains

  module _ (g : Seg) (m : In g (remaining p v gone)) where
    abbrev x : Segment
    x = segment_of p v gone g

    abbrev ss : List ℕ
    ss = counted p gone x

    abbrev chunks : List Chunk
    chunks = rebuilt_chunks p r v sh gone g d (remaining-low p v gone low-one g m) hd drive_lost_holds

    abbrev pieces : List Piece
    pieces = map (λ s. piece_of p gone x s d) ss

    -- what the footers are made of
    abbrev pub spares_lost : List (List ℕ)
    spares_lost = map (λ (q : Piece). record_bytes q.rec) (map (λ s. piece_of p gone x s d) ss)

    abbrev feet : List Chunk
    feet = map (λ i. mk_chunk (footer_block p spares_lost i) zero_spare) (below (footers p))

    abbrev first : Chunk
    first = mk_chunk (header_block p d (zones_in p g) x.serial x.copied) zero_spare

    zone_chunks_are : (b : Bool) → x.full ≡ b → chunks ≡ first ∷ (map piece_chunk pieces ++ cond b feet [])
    unfolding rebuilt_chunks
    zone_chunks_are b e = ap (λ (y : Bool). first ∷ (map piece_chunk pieces ++ cond y feet [])) e

    pieces_long : length (map piece_chunk pieces) ≡ length ss
    pieces_long = length-map pieces piece_chunk ∙ length-map ss (λ s. piece_of p gone x s d)

    feet_long : length feet ≡ footers p
    feet_long = length-map (below (footers p)) (λ i. mk_chunk (footer_block p spares_lost i) zero_spare) ∙ length-below (footers p)

    zone_chunks_long : (b : Bool) → x.full ≡ b → length chunks ≡ suc (length ss + length (cond b feet []))
    zone_chunks_long b e = ap length (zone_chunks_are b e) ∙ ap suc (length-append (map piece_chunk pieces) (cond b feet []) ∙ ap (λ (n : ℕ). n + length (cond b feet [])) pieces_long)

    few : length ss ≤ p.S
    few = counted-low p gone x

    chunks_low : length chunks ≤ capacity p
    chunks_low = go x.full refl
      where
        go : (b : Bool) → x.full ≡ b → length chunks ≤ capacity p
        go true e = let a = zone_chunks_long true e in let f = feet_long in let c = capacity_is p r in let n = few in omega arith
        go false e = let a : length chunks ≡ suc (length ss + 0) = zone_chunks_long false e in let c = capacity_over p r in let n = few in omega arith

    rebuilt_zone_holds : zone_at u d (zone_on g d) ≡ put_all d (zone_on g d) chunks (reset_zone (zone_at v d (zone_on g d)))
    rebuilt_zone_holds = zone_rebuilt p r v sh d hd drive_lost_holds zone_lost_apart g m

    reset_long : length (reset_zone (zone_at v d (zone_on g d))).blocks ≡ capacity p
    unfolding reset_zone
    reset_long = (sh.zone_ok d (zone_on g d) hd (zone_in_range p v gone lo.accepts low-one g d m hd)).blocks_long

    pointer_long : (zone_at u d (zone_on g d)).pointer ≡ length chunks
    pointer_long =
        ap (λ (y : Zone). y.pointer) rebuilt_zone_holds ∙ puts_pointer d (zone_on g d) chunks (reset_zone (zone_at v d (zone_on g d)))
        ∙ ap (λ (n : ℕ). n + length chunks) (reset_pointer (zone_at v d (zone_on g d))) ∙ zero-add (length chunks)

    rebuilt_chunk : (i : ℕ) → i < length chunks → get_or (zone_at u d (zone_on g d)).blocks i no_chunk ≡ get_or chunks i no_chunk
    rebuilt_chunk i h =
        let y = reset_zone (zone_at v d (zone_on g d)) in
        let z : y.pointer ≡ 0 = reset_pointer (zone_at v d (zone_on g d)) in
        let l = chunks_low in
        let k = reset_long in
        ap (λ (q : Zone). get_or q.blocks i no_chunk) rebuilt_zone_holds
        ∙ ap (λ (n : ℕ). get_or (put_all d (zone_on g d) chunks y).blocks n no_chunk) (let e : i ≡ y.pointer + i = omega arith in e)
        ∙ puts_new d (zone_on g d) chunks y i h (omega arith)

    -- the pointer
    pub rebuilt-low : (zone_at u d (zone_on g d)).pointer ≤ capacity p
    rebuilt-low = subst (λ (n : ℕ). n ≤ capacity p) (sym pointer_long) chunks_low

    pub rebuilt_open : x.full ≡ false → (zone_at u d (zone_on g d)).pointer ≡ suc (length ss)
    rebuilt_open e = pointer_long ∙ zone_chunks_long false e ∙ (let z : suc (length ss + 0) ≡ suc (length ss) = omega arith in z)

    pub rebuilt_full : x.full ≡ true
        → (zone_at u d (zone_on g d)).pointer ≡ suc (length ss + footers p)
    rebuilt_full e = pointer_long ∙ zone_chunks_long true e ∙ ap (λ (n : ℕ). suc (length ss + n)) feet_long

    -- its blocks
    after_first : (b : Bool) → x.full ≡ b → (i : ℕ) → i < length ss + length (cond b feet [])
        → get_or (zone_at u d (zone_on g d)).blocks (1 + i) no_chunk ≡ get_or (map piece_chunk pieces ++ cond b feet []) i no_chunk
    after_first b e i h =
        let a = zone_chunks_long b e in
        rebuilt_chunk (1 + i) (omega arith) ∙ ap (λ (l : List Chunk). get_or l (1 + i) no_chunk) (zone_chunks_are b e)
        ∙ ap (λ (n : ℕ). get_or (first ∷ (map piece_chunk pieces ++ cond b feet [])) n no_chunk) (let z : 1 + i ≡ suc i = omega arith in z)

    pub rebuilt_piece : (j : ℕ) → j < length ss
        → get_or (zone_at u d (zone_on g d)).blocks (1 + j) no_chunk
        ≡ piece_chunk (piece_of p gone x (get_or ss j 0) d)
    rebuilt_piece j h =
        let none! : Piece = mk_piece [] (mk_rec 0 0 0) in
        let l : j < length (map piece_chunk pieces) = subst (λ (n : ℕ). j < n) (sym pieces_long) h in
        let l2 : j < length pieces = subst (λ (n : ℕ). j < n) (length-map pieces piece_chunk) l in
        after_first x.full refl j (omega arith)
        ∙ get_or-append (map piece_chunk pieces) (cond x.full feet []) no_chunk j l
        ∙ get_d_map piece_chunk pieces j no_chunk none! l2 ∙ ap piece_chunk (get_d_map (λ s. piece_of p gone x s d) ss j none! 0 h)

    pub rebuilt_foot : x.full ≡ true → length ss ≡ p.S → (i : ℕ) → i < footers p
        → get_or (zone_at u d (zone_on g d)).blocks (1 + p.S + i) no_chunk ≡ mk_chunk (footer_block p spares_lost i) zero_spare
    rebuilt_foot e n i h =
        let f = feet_long in
        let l = pieces_long in
        ap (λ (k : ℕ). get_or (zone_at u d (zone_on g d)).blocks k no_chunk) (let z : 1 + p.S + i ≡ 1 + (length (map piece_chunk pieces) + i) = omega arith in z)
        ∙ after_first true e (length (map piece_chunk pieces) + i) (let z : length (map piece_chunk pieces) + i < length ss + length feet = omega arith in z)
        ∙ get_or-append-add (map piece_chunk pieces) feet i no_chunk ∙ get_d_map-below (λ i. mk_chunk (footer_block p spares_lost i) zero_spare) (footers p) i no_chunk h

    -- its data blocks are the counted ones
    pub rebuilt-stored : data_stored p (zone_at u d (zone_on g d)) ≡ length ss
    rebuilt-stored = go x.full refl
      where
        min_is : (y : Zone) (n : ℕ) → y.pointer ≡ suc n → n ≤ p.S → data_stored p y ≡ n
        min_is y n e l = unfold data_stored in omega arith

        min_over : (y : Zone) (n k : ℕ) → y.pointer ≡ suc (n + k) → n ≡ p.S → data_stored p y ≡ n
        min_over y n k e l = unfold data_stored in omega arith

        go : (b : Bool) → x.full ≡ b → data_stored p (zone_at u d (zone_on g d)) ≡ length ss
        go true e = min_over (zone_at u d (zone_on g d)) (length ss) (footers p) (rebuilt_full e) (sealed-all p r v gone lo.accepts g m (sym (full_is p v gone g) ∙ e))
        go false e = min_is (zone_at u d (zone_on g d)) (length ss) (rebuilt_open e) few
