-- Footers are stored: where they fall, that they fit, and the records that they hold.
use Rattle.std.specs.Prelude.{◌≡◌, List, [], map, Bool, true, false, cond, ◌&&◌, ℕ, ◌+◌, ◌*◌, ◌/◌, ◌%◌, min, ◌≤◌, ◌<◌, eqb, length, get_or, take, drop}
use Rattle.std.proofs.Math.Path.{refl, ap}
use Rattle.std.proofs.Common.{sym, ◌∙◌, subst, div-lt_iff_lt-mul, zero-add, arith, length-take, length-drop, get_or-take, get_or-drop}
use Rattle.std.proofs.lemmas.List.{length-map}
use Rattle.spec.specs.declared.Params.{Params}
use Rattle.spec.specs.Bytes.{part}
use Rattle.spec.specs.Drives.{Chunk, mk_chunk, no_chunk, Zone, Store, blocks_of, spares_of, record_in, footers_of, zero_spare, footer_stores, zone_on}
use Rattle.spec.specs.Drives.Store.{put}
use Rattle.spec.specs.Layout.{record_of_of, footer_block, footer_record}
use Rattle.spec.specs.Lists.{up_from, below, flat}
use Rattle.spec.specs.Params.{spare_len, per_footer, footers, capacity, drives_of}
use Rattle.law_basic.specs.Geometry.{Ranged, per_footer_low, footers_cover}
use Rattle.law_basic.specs.Ranges.{Test, test, length_up_from, get_d_up_from, map-map, get_d_map}
use Rattle.law_basic.specs.Ranges.Test.{yes!, no! }
use Rattle.law_drives.specs.Laid.{Long, in_take, in_drop, get_d_footer}
use Rattle.law_drives.specs.Members.{In, map_in, flat_in, flat_cong, keep_all, flat_nothing, below_in, get_d_in}
use Rattle.law_drives.specs.Puts.{hits-flat, put_at, hits-puts, flat-one, put_all, puts_new, room_puts, footer_sound, on_drive}
use Rattle.law_drives.specs.Range.{capacity_is, capacity_over}
use Rattle.law_drives.specs.Records.{blocks_at, spares_at}
use Rattle.law_drives.specs.Tests.{and_false_right, cond_true, cond_false}
use Rattle.law_drives.specs.Zones.{Bytes, SoundChunk, ZoneOk, hits, Room, Within}
use Rattle.spec.specs.declared.Seg.{Seg}
use Rattle.law_basic.specs.Segs.{ZonesLow, low_here}

-- a list of chunks for each drive, in the zone of one segment
pub hits_each : (p : Params) (e y : ℕ) (z : ℕ → ℕ) (f : ℕ → List Chunk) → e < p.N
    → hits e y (flat (λ d. map (put_at d (z d)) (f d)) (drives_of p)) ≡ cond (eqb (z e) y) (map (put_at e (z e)) (f e)) []
hits_each p e y z f he =
    hits-flat e y (λ d. map (put_at d (z d)) (f d)) (drives_of p)
    ∙ as! (flat_cong (λ d. hits e y (map (put_at d (z d)) (f d))) (λ d. cond (eqb d e && eqb (z d) y) (map (put_at d (z d)) (f d)) []) (below p.N)
    (λ d m. hits-puts e y d (z d) (f d))
    ∙ go (test (eqb (z e) y)))
  where
    as! :
        flat (λ d. hits e y (map (put_at d (z d)) (f d))) (below p.N) ≡ cond (eqb (z e) y) (map (put_at e (z e)) (f e)) []
        → flat (λ d. hits e y (map (put_at d (z d)) (f d))) (drives_of p) ≡ cond (eqb (z e) y) (map (put_at e (z e)) (f e)) []
    as! q = unfold drives_of in q

    and_true! : (b : Bool) → b && true ≡ b
    and_true! true = refl
    and_true! false = refl

    go : Test (eqb (z e) y) → flat (λ d. cond (eqb d e && eqb (z d) y) (map (put_at d (z d)) (f d)) []) (below p.N) ≡ cond (eqb (z e) y) (map (put_at e (z e)) (f e)) []
    go (no! q) =
        flat_nothing (λ d. cond (eqb d e && eqb (z d) y) (map (put_at d (z d)) (f d)) []) (below p.N)
        (λ d m. cond_false (eqb d e && eqb (z d) y) (map (put_at d (z d)) (f d)) [] (on_drive z d e y ∙ and_false_right (eqb d e) (eqb (z e) y) q))
        ∙ sym (cond_false (eqb (z e) y) (map (put_at e (z e)) (f e)) [] q)
    go (yes! q) =
        flat_cong (λ d. cond (eqb d e && eqb (z d) y) (map (put_at d (z d)) (f d)) []) (λ d. cond (eqb d e) (map (put_at d (z d)) (f d)) []) (below p.N)
        (λ d m. ap (λ (b : Bool). cond b (map (put_at d (z d)) (f d)) []) (on_drive z d e y ∙ ap (λ (b : Bool). eqb d e && b) q ∙ and_true! (eqb d e)))
        ∙ ap (flat (λ d. cond (eqb d e) (map (put_at d (z d)) (f d)) [])) (sym (keep_all (λ d. true) (below p.N) (λ d m. refl)))
        ∙ flat-one (λ d. true) (λ d. map (put_at d (z d)) (f d)) e p.N he
        ∙ sym (cond_true (eqb (z e) y) (map (put_at e (z e)) (f e)) [] q)

pub within_each : (p : Params) (z : Seg) (f : ℕ → List Chunk) → ZonesLow p 0 z → (s : Store) → In s (flat (λ d. map (put_at d (zone_on z d)) (f d)) (drives_of p)) → Within p s
within_each p z f hz s m =
    let (d, i, j) = flat_in (λ d. map (put_at d (zone_on z d)) (f d)) (drives_of p) s m in
    let (c, n, e) = map_in (put_at d (zone_on z d)) (f d) s j in
    subst (λ (x : Store). Within p x) (sym e) (put_within d c (low d i))
  where
    put_within : (d : ℕ) (c : Chunk) → d < p.N → Within p (put_at d (zone_on z d) c)
    put_within d c h = unfold put_at in (h, low_here p z d hz h)

    low : (d : ℕ) → In d (drives_of p) → d < p.N
    low d i = unfold drives_of in below_in p.N d i

-- ---- footers of a zone

-- the spares that they repeat
unfoldable pub spares_in : Params → Zone → List (List ℕ)
spares_in p q = spares_of (take p.S (drop 1 q.blocks))

unfoldable pub footer_chunks : Params → Zone → ℕ → ℕ → List Chunk
footer_chunks p q i n = map (λ j. mk_chunk (footer_block p (spares_in p q) j) zero_spare) (up_from i n)

pub footer_puts : (p : Params) (d z : ℕ) (q : Zone) (i n : ℕ) → footer_stores p d z q i n ≡ map (put_at d z) (footer_chunks p q i n)
footer_puts p d z q i n =
    as!
    ∙ map-map (λ (b : List ℕ). put d z b zero_spare) (footer_block p (spares_in p q)) (up_from i n)
    ∙ plain
    ∙ sym (map-map (put_at d z) (λ j. mk_chunk (footer_block p (spares_in p q) j) zero_spare) (up_from i n))
    ∙ bs!
  where
    as! : footer_stores p d z q i n ≡ map (λ (b : List ℕ). put d z b zero_spare) (map (footer_block p (spares_in p q)) (up_from i n))
    as! = unfold footer_stores footers_of spares_in in refl

    plain : map (λ j. put d z (footer_block p (spares_in p q) j) zero_spare) (up_from i n) ≡ map (λ j. put_at d z (mk_chunk (footer_block p (spares_in p q) j) zero_spare)) (up_from i n)
    plain = unfold put_at in refl

    bs! : map (put_at d z) (map (λ j. mk_chunk (footer_block p (spares_in p q) j) zero_spare) (up_from i n)) ≡ map (put_at d z) (footer_chunks p q i n)
    bs! = unfold footer_chunks in refl

module _ (p : Params) (r : Ranged p) (q : Zone) (k : ZoneOk p q) where
  spare_in_zone : (s : List ℕ) → In s (spares_in p q) → (b : ℕ) × (b < capacity p) × (s ≡ (get_or q.blocks b no_chunk).spare)
  spare_in_zone s m =
      let (c, i, e) = map_in (λ (c : Chunk). c.spare) (take p.S (drop 1 q.blocks)) s (as! m) in
      let (b, h, f) = get_d_in q.blocks no_chunk c (in_drop 1 q.blocks c (in_take p.S (drop 1 q.blocks) c i)) in
      (b, subst (λ (x : ℕ). b < x) k.blocks_long h, e ∙ ap (λ (x : Chunk). x.spare) f)
    where
      as! : In s (spares_in p q) → In s (map (λ (c : Chunk). c.spare) (take p.S (drop 1 q.blocks)))
      as! m = unfold spares_in spares_of in m

  pub spares_long : Long spare_len (spares_in p q)
  spares_long s m = let (b, h, e) = spare_in_zone s m in ap length e ∙ (k.sound b h).spare_long

  pub spares_bytes : (s : List ℕ) → In s (spares_in p q) → Bytes s
  spares_bytes s m = let (b, h, e) = spare_in_zone s m in subst (λ (x : List ℕ). Bytes x) (sym e) (k.sound b h).spare_bytes

  pub spares_count : length (spares_in p q) ≡ p.S
  spares_count = as! (length-map (take p.S (drop 1 q.blocks)) (λ (c : Chunk). c.spare) ∙ length-take p.S (drop 1 q.blocks)
      ∙ (let e = length-drop 1 q.blocks in let f = k.blocks_long in let c = capacity_over p r in let x : min p.S (length (drop 1 q.blocks)) ≡ p.S = omega arith in x))
    where
      as! : length (map (λ (c : Chunk). c.spare) (take p.S (drop 1 q.blocks))) ≡ p.S → length (spares_in p q) ≡ p.S
      as! e = unfold spares_in spares_of in e

  pub spare_at_holds : (x : ℕ) → x < p.S → get_or (spares_in p q) x [] ≡ (get_or q.blocks (1 + x) no_chunk).spare
  spare_at_holds x h = as! (spares_at (take p.S (drop 1 q.blocks)) x ∙ ap (λ (c : Chunk). c.spare) (get_or-take p.S (drop 1 q.blocks) x no_chunk h ∙ get_or-drop 1 q.blocks x no_chunk))
    where
      as! : get_or (spares_of (take p.S (drop 1 q.blocks))) x [] ≡ (get_or q.blocks (1 + x) no_chunk).spare → get_or (spares_in p q) x [] ≡ (get_or q.blocks (1 + x) no_chunk).spare
      as! e = unfold spares_in in e

  pub footers-count : (i n : ℕ) → length (footer_chunks p q i n) ≡ n
  footers-count i n = as! (length-map (up_from i n) (λ j. mk_chunk (footer_block p (spares_in p q) j) zero_spare) ∙ length_up_from i n)
    where
      as! : length (map (λ j. mk_chunk (footer_block p (spares_in p q) j) zero_spare) (up_from i n)) ≡ n → length (footer_chunks p q i n) ≡ n
      as! e = unfold footer_chunks in e

  pub footer_chunk : (i n j : ℕ) → j < n → get_or (footer_chunks p q i n) j no_chunk ≡ mk_chunk (footer_block p (spares_in p q) (i + j)) zero_spare
  footer_chunk i n j h =
      as! (get_d_map (λ j. mk_chunk (footer_block p (spares_in p q) j) zero_spare) (up_from i n) j no_chunk 0
      (subst (λ (x : ℕ). j < x) (sym (length_up_from i n)) h)
      ∙ ap (λ (x : ℕ). mk_chunk (footer_block p (spares_in p q) x) zero_spare) (get_d_up_from i n j 0 h))
    where
      as! :
          get_or (map (λ j. mk_chunk (footer_block p (spares_in p q) j) zero_spare) (up_from i n)) j no_chunk ≡ mk_chunk (footer_block p (spares_in p q) (i + j))
          zero_spare
          → get_or (footer_chunks p q i n) j no_chunk ≡ mk_chunk (footer_block p (spares_in p q) (i + j)) zero_spare
      as! e = unfold footer_chunks in e

  pub footer_rooms : (d z i n : ℕ) → q.pointer + n ≤ capacity p → Room p q.pointer (map (put_at d z) (footer_chunks p q i n))
  footer_rooms d z i n h = room_puts p d z q.pointer (footer_chunks p q i n) (let e = footers-count i n in omega arith)
      (λ j l. subst (λ (c : Chunk). SoundChunk p (q.pointer + j) c) (sym (footer_chunk i n j (subst (λ (x : ℕ). j < x) (footers-count i n) l)))
      (footer_sound p r (q.pointer + j) (spares_in p q) (i + j) spares_long spares_bytes))

  -- all footers behind the data: records by footer are those by spare
  pub footer_records : (d z : ℕ) → q.pointer ≡ 1 + p.S → (x : ℕ) → x < p.S → record_in p true (put_all d z (footer_chunks p q 0 (footers p)) q) x ≡ record_in p false q x
  footer_records d z e x h =
      let pf = per_footer p in
      let j = x / pf in
      let hj : j < footers p = (div-lt_iff_lt-mul (let z = per_footer_low p r in let y : 0 < pf = omega arith in y)).1 (let f = footers_cover p r in omega arith) in
      let q2 = put_all d z (footer_chunks p q 0 (footers p)) q in
      let c = footers-count 0 (footers p) in
      let fit : q.pointer + length (footer_chunks p q 0 (footers p)) ≤ length q.blocks = (let l = k.blocks_long in let y = capacity_is p r in omega arith) in
      let blk : get_or (blocks_of (drop (1 + p.S) q2.blocks)) j [] ≡ footer_block p (spares_in p q) j =
      blocks_at (drop (1 + p.S) q2.blocks) j ∙ ap (λ (w : Chunk). w.block)
      (get_or-drop (1 + p.S) q2.blocks j no_chunk ∙ ap (λ (n : ℕ). get_or q2.blocks (n + j) no_chunk) (sym e)
      ∙ puts_new d z (footer_chunks p q 0 (footers p)) q j (omega arith) fit ∙ footer_chunk 0 (footers p) j hj)
      ∙ ap (footer_block p (spares_in p q)) (zero-add j) in
      as! q2 blk (get_d_footer p r (spares_in p q) x spares_long (subst (λ (n : ℕ). x < n) (sym spares_count) h) ∙ spare_at_holds x h)
    where
      as! : (q2 : Zone) → get_or (blocks_of (drop (1 + p.S) q2.blocks)) (x / per_footer p) [] ≡ footer_block p (spares_in p q) (x / per_footer p)
          → part (spare_len * (x % per_footer p)) spare_len (footer_block p (spares_in p q) (x / per_footer p)) ≡ (get_or q.blocks (1 + x) no_chunk).spare
          → record_in p true q2 x ≡ record_in p false q x
      as! q2 a b = unfold record_in footer_record in ap record_of_of (ap (part (spare_len * (x % per_footer p)) spare_len) a ∙ b)
