-- The stores of a healthy restart behind its drops, in each case.
use Rattle.std.specs.Prelude.{◌≡◌, List, [], ◌∷◌, ◌++◌, map, Bool, true, false, ◌&&◌, ◌||◌, ℕ, suc, ◌^◌, ◌<◌, eqb, get_or}
use Rattle.std.proofs.Math.Path.{refl}
use Rattle.std.proofs.Common.{sym, ap, ◌∙◌, subst, append-nil, inl, arith, lit<}
use Rattle.std.proofs.lemmas.Bool.{eqb-false}
use Rattle.spec.specs.declared.Params.{Params}
use Rattle.spec.specs.declared.Seg.{Seg}
use Rattle.spec.specs.Counts.{last_count}
use Rattle.spec.specs.Drives.{no_chunk, View, zone_at, chunk_at, Store, store_view_of, store_all, zone_on, sealed_in}
use Rattle.spec.specs.Layout.{header_serial}
use Rattle.spec.specs.Lists.{any, flat, greatest}
use Rattle.spec.specs.Restart.{is_whole, is_ragged, missing_footers, rewrite_stores, drop_stores, mend_stores, rewrites, free_seg, none_free_of}
use Rattle.spec.specs.Segments.{header_at, remaining, Segment, segment_of, segments, greatest_serial, unsealed}
use Rattle.law_basic.specs.Geometry.{Ranged}
use Rattle.law_basic.specs.Ranges.{Test, test}
use Rattle.law_basic.specs.Ranges.Test.{yes!, no! }
use Rattle.law_basic.specs.Segs.{low_here}
use Rattle.law_drives.specs.Accept.{Accepted}
use Rattle.law_drives.specs.Counting.{greatest-low}
use Rattle.law_drives.specs.Headers.{Vacant}
use Rattle.law_drives.specs.Laid.{serial_low}
use Rattle.law_drives.specs.Members.{In, map_in}
use Rattle.law_drives.specs.Mending.{Mended, mend_none, mend_tidy_one, mend_footers}
use Rattle.law_drives.specs.Range.{capacity_over}
use Rattle.law_drives.specs.Rewriting.{free_vacant, mend_rewrite}
use Rattle.law_drives.specs.Segs.{remaining-low, serial_is}
use Rattle.law_drives.specs.Settled.{low_first, zero_here}
use Rattle.law_drives.specs.Unsealed.{Loose, loose}
use Rattle.law_drives.specs.Unsealed.Loose.{loose_none, loose-one}
use Rattle.law_drives.specs.Zones.{Bytes, Shaped}

-- the stores behind the drops
abbrev pub mends_of : Params → View → List Store
mends_of p v = flat (mend_stores p v (segments p v 0)) (unsealed (segments p v 0))

-- the one unsealed segment
pub record MendedOpen (p : Params) (v : View) (g : Seg) : Type 0 where
  pub open_remains : In g (remaining p v 0)
  pub open_unsealed : sealed_in p v 0 g ≡ false
  pub open_others : (y : Seg) → In y (remaining p v 0) → (y ≡ g → ⊥) → sealed_in p v 0 y ≡ true
  pub open_is : unsealed (segments p v 0) ≡ segment_of p v 0 g ∷ []

-- 01, Restart, 4: nothing, for want of an unsealed segment or as its stripes are 0 to c - 1; its missing footers; or the rewrite to free zones
pub data Mends (p : Params) (v : View) : Type 0 where
  mends_none : unsealed (segments p v 0) ≡ [] → ((y : Seg) → In y (remaining p v 0) → sealed_in p v 0 y ≡ true) → mends_of p v ≡ [] → Mends p v
  mends_plain : (g : Seg) → MendedOpen p v g → is_whole p (segment_of p v 0 g) ≡ false → is_ragged p (segment_of p v 0 g) ≡ false → mends_of p v ≡ [] → Mends p v
  mends_footers : (g : Seg) → MendedOpen p v g → is_whole p (segment_of p v 0 g) ≡ true → mends_of p v ≡ missing_footers p (segment_of p v 0 g) → Mends p v
  mends-rewrite :
      (g : Seg)
      → MendedOpen p v g
      → is_whole p (segment_of p v 0 g) ≡ false
      → is_ragged p (segment_of p v 0 g) ≡ true
      → Vacant p (store_all store_view_of (drop_stores p v (segments p v 0)) v) (free_seg p v (segments p v 0))
      → suc (greatest_serial (segments p v 0)) < 256 ^ 8
      → mends_of p v ≡ rewrite_stores p (segment_of p v 0 g) (free_seg p v (segments p v 0)) (suc (greatest_serial (segments p v 0)))
      → Mends p v

-- a rewrite is due where the one unsealed segment is ragged
pub rewrites-one : (p : Params) (v : View) (g : Seg) → unsealed (segments p v 0) ≡ segment_of p v 0 g ∷ [] → rewrites p 0 (segments p v 0) ≡ is_ragged p (segment_of p v 0 g)
unfolding rewrites
rewrites-one p v g us = ap (any (is_ragged p)) us ∙ one! (is_ragged p (segment_of p v 0 g)) refl
  where
    or_false! : (b : Bool) → b || false ≡ b
    or_false! true = refl
    or_false! false = refl

    one! : (b : Bool) → is_ragged p (segment_of p v 0 g) ≡ b → any (is_ragged p) (segment_of p v 0 g ∷ []) ≡ b
    one! b e = unfold any in (or_false! (is_ragged p (segment_of p v 0 g)) ∙ e)

module _ (p : Params) (r : Ranged p) (v : View) (sh : Shaped p v) (acc : Accepted p v 0) where
  abbrev gs : List Segment
  gs = segments p v 0

  abbrev va : View
  va = store_all store_view_of (drop_stores p v gs) v

  pub mends : rewrites p 0 gs && eqb (greatest_serial gs) last_count ≡ false → rewrites p 0 gs && none_free_of p v gs ≡ false → greatest_serial gs < 256 ^ 8 → Mends p v
  mends c6 c8 bd = go (loose p r v sh acc)
    where
      none! : flat (mend_stores p v gs) [] ≡ []
      none! = unfold flat in refl

      one! : (x : Segment) → flat (mend_stores p v gs) (x ∷ []) ≡ mend_stores p v gs x ++ []
      one! x = unfold flat in refl

      go : Loose p v → Mends p v
      go (loose_none e f) = mends_none e f (ap (flat (mend_stores p v gs)) e ∙ none!)
      go (loose-one g kg ng us oth) = case (test (is_whole p x)) (test (is_ragged p x))
        where
          x : Segment
          x = segment_of p v 0 g

          is : mends_of p v ≡ mend_stores p v gs (segment_of p v 0 g)
          is = ap (flat (mend_stores p v gs)) us ∙ one! (segment_of p v 0 g) ∙ append-nil (mend_stores p v gs (segment_of p v 0 g))

          o : MendedOpen p v g
          o = record { open_remains = kg; open_unsealed = ng; open_others = oth; open_is = us }

          whole! : is_whole p (segment_of p v 0 g) ≡ true → mend_stores p v gs (segment_of p v 0 g) ≡ missing_footers p (segment_of p v 0 g)
          whole! q = unfold mend_stores in rw q

          plain! : is_whole p (segment_of p v 0 g) ≡ false → is_ragged p (segment_of p v 0 g) ≡ false → mend_stores p v gs (segment_of p v 0 g) ≡ []
          plain! q w = unfold mend_stores in rw (q, w)

          ragged! :
              is_whole p (segment_of p v 0 g) ≡ false
              → is_ragged p (segment_of p v 0 g) ≡ true
              → mend_stores p v gs (segment_of p v 0 g) ≡ rewrite_stores p (segment_of p v 0 g) (free_seg p v gs) (suc (greatest_serial gs))
          ragged! q w = unfold mend_stores in rw (q, w)

          case : Test (is_whole p x) → Test (is_ragged p x) → Mends p v
          case (yes! q) w = mends_footers g o q (is ∙ whole! q)
          case (no! q) (no! w) = mends_plain g o q w (is ∙ plain! q w)
          case (no! q) (yes! w) =
              let due : rewrites p 0 gs ≡ true = rewrites-one p v g us ∙ w in
              let n6 : eqb (greatest_serial gs) last_count ≡ false = sym (ap (λ (b : Bool). b && eqb (greatest_serial gs) last_count) due) ∙ c6 in
              let n8 : none_free_of p v gs ≡ false = sym (ap (λ (b : Bool). b && none_free_of p v gs) due) ∙ c8 in
              let ne : ¬ (greatest_serial gs ≡ last_count) = eqb-false (greatest_serial gs) last_count n6 in
              mends-rewrite g o q w (free_vacant p r v sh acc n8) (let b = bd in omega arith) (is ∙ ragged! q w)

  pub mended : rewrites p 0 gs && eqb (greatest_serial gs) last_count ≡ false → rewrites p 0 gs && none_free_of p v gs ≡ false → greatest_serial gs < 256 ^ 8
      → Mended p va (flat (mend_stores p v gs) (unsealed gs))
  mended c6 c8 bd = go (mends c6 c8 bd)
    where
      by : (l : List Store) → mends_of p v ≡ l → Mended p va l → Mended p va (mends_of p v)
      by l e m = subst (λ (l : List Store). Mended p va l) (sym e) m

      go : Mends p v → Mended p va (mends_of p v)
      go (mends_none us f e) = by [] e (mend_none p r v sh acc f)
      go (mends_plain g o q w e) = by [] e (mend_tidy_one p r v sh acc g o.open_remains o.open_unsealed o.open_others q w)
      go (mends_footers g o q e) = by (missing_footers p (segment_of p v 0 g)) e (mend_footers p r v sh acc g o.open_remains o.open_unsealed o.open_others q)
      go (mends-rewrite g o q w vz fit e) =
          by (rewrite_stores p (segment_of p v 0 g) (free_seg p v gs) (suc (greatest_serial gs))) e
          (mend_rewrite p r v sh acc g o.open_remains o.open_unsealed o.open_others (free_seg p v gs) vz fit q)

-- the greatest serial of what a restart accepts is a number of 8 bytes
pub serials-small : (p : Params) (r : Ranged p) (v : View) → Shaped p v → greatest_serial (segments p v 0) < 256 ^ 8
serials-small p r v sh = as! (greatest-low (256 ^ 8) (map (λ (g : Segment). g.serial) (segments p v 0)) (lit< tt)
    (λ n m.
    let (x, i, e) = map_in (λ (g : Segment). g.serial) (segments p v 0) n m in
    let (z, j, f) = map_in (segment_of p v 0) (remaining p v 0) x (bs! x i) in
    let h0 : 0 < p.N = omega (arith, r.drives_low) in
    subst (λ (k : ℕ). k < 256 ^ 8) (sym (e ∙ ap (λ (y : Segment). y.serial) f ∙ serial_is p v 0 z ∙ ap (λ (k : ℕ). header_serial p (header_at v k z)) (low_first p r)))
    (serial_low p (header_at v 0 z) (cs! z (((sh.zone_ok 0 (zone_on z 0) h0 (low_here p z 0 (remaining-low p v 0 (zero_here p r) z j) h0)).sound 0
    (let c = capacity_over p r in omega arith)).block_bytes (inl refl))))))
  where
    as! : greatest (map (λ (g : Segment). g.serial) (segments p v 0)) < 256 ^ 8 → greatest_serial (segments p v 0) < 256 ^ 8
    as! x = unfold greatest_serial in x

    bs! : (x : Segment) → In x (segments p v 0) → In x (map (segment_of p v 0) (remaining p v 0))
    bs! x m = unfold segments in m

    cs! : (z : Seg) → Bytes (get_or (zone_at v 0 (zone_on z 0)).blocks 0 no_chunk).block → Bytes (header_at v 0 z)
    cs! z x = unfold header_at chunk_at in x
