-- After a restart with none missing every counted stripe was found so, or its parity is made: what is dropped goes, footers
-- come to a segment whose stripes all count, and a rewritten segment has its parity worked out anew. Assumes nothing.
use Rattle.std.specs.Prelude.{◌≡◌, List, [], map, true, false, ◌&&◌, ◌⊎◌, ℕ, suc, ◌^◌, ◌<◌, eqb, length}
use Rattle.std.proofs.Common.{sym, ap, ◌∙◌, subst, inl, inr, ⊎_elim, arith}
use borrow.Author.Tests.{eqb-true}
use Rattle.spec.specs.declared.Params.{Params}
use Rattle.spec.specs.Counts.{last_count}
use Rattle.spec.specs.Drives.{View, Store, store_view_of, store_all, sealed_in}
use Rattle.spec.specs.Layout.{header_serial}
use Rattle.spec.specs.Lists.{below, keep}
use Rattle.spec.specs.Restart.{is_whole, missing_footers, rewrite_stores, drop_stores, rewrites, free_seg, none_free_of}
use Rattle.spec.specs.Segments.{header_at, remaining, Segment, segment_of, segments, counts, counted, greatest_serial}
use Rattle.law_basic.specs.Geometry.{Ranged}
use Rattle.law_basic.specs.Ranges.{and_both, length-below}
use Rattle.law_basic.specs.Segs.{segs_differ}
use Rattle.spec_demands.specs.Layouts.{Remains, found_counted, ParityMade}
use Rattle.law_drives.specs.Accept.{Accepted}
use Rattle.law_drives.specs.Dropping.{drop_same, there_kept}
use Rattle.law_drives.specs.Joins.{stores_none}
use Rattle.law_drives.specs.Members.{In, in_map, in_any, in_below}
use Rattle.law_drives.specs.Rewriting.{same_else, used_moved}
use Rattle.law_drives.specs.Segs.{serial_is, is_seg, seg_in}
use Rattle.law_drives.specs.Settled.{low_first, SameZones, zones_segment, zones_header}
use Rattle.law_drives.specs.Tests.{clash, eqb_self}
use Rattle.law_drives.specs.Unsealed.{keep_full}
use Rattle.law_drives.specs.Mended.Mends.{mends_none, mends_plain, mends_footers, mends-rewrite}
use Rattle.law_drives.specs.Zones.{Shaped}
use Rattle.proof_flights.specs.Pieces.{ParityAt, there_of_remains}
use Rattle.proof_flights.specs.RestartedMoved.{rewritten_made}
use Rattle.spec.specs.declared.Seg.{Seg}
use Rattle.law_drives.specs.Growing.{grows_was}
use Rattle.law_drives.specs.Headers.{Vacant}
use Rattle.law_drives.specs.Mended.{mends, Mends, mends_of}
use Rattle.law_drives.specs.Mending.{b_grows, b_same}
use Rattle.law_drives.specs.Tidy.{There}

-- a counted stripe of a view is found in it
pub counted-found : (p : Params) (v : View) (gone : ℕ) (g : Seg) (s : ℕ) → Remains p v gone g → counts p gone (segment_of p v gone g) s ≡ true
    → found_counted p gone (segments p v gone) (segment_of p v gone g).serial s ≡ true
unfolding found_counted segments
counted-found p v gone g s rm c =
    let x = segment_of p v gone g in
    in_any (λ (y : Segment). eqb y.serial x.serial && counts p gone y s) (map (segment_of p v gone) (remaining p v gone)) x
    (in_map (segment_of p v gone) (remaining p v gone) g (is_seg g (remaining p v gone) rm)) (and_both (eqb x.serial x.serial) (counts p gone x s) (eqb_self x.serial) c)

module _ (p : Params) (r : Ranged p) (v : View) (sh : Shaped p v) (acc : Accepted p v 0) where
  abbrev gs : List Segment
  gs = segments p v 0

  abbrev va : View
  va = store_all store_view_of (drop_stores p v gs) v

  -- every counted stripe was found, or is made
  abbrev pub SettlesCounted : View → Type 0
  SettlesCounted u = (y : Seg) (s : ℕ) → There p u y → s < p.S → counts p 0 (segment_of p u 0 y) s ≡ true
      → (found_counted p 0 (segments p v 0) (segment_of p u 0 y).serial s ≡ true) ⊎ ParityAt p (segment_of p u 0 y) s

  pub settles_parities : (u : View) → SettlesCounted u → ParityMade p u 0 (segments p v 0)
  settles_parities u f = λ g s rm hs c n. ⊎_elim (λ y. clash y n) (λ m. m) (f g s (there_of_remains p u g rm) hs c)

  -- a segment that stayed
  same_found : (u : View) (y : Seg) (s : ℕ) → In y (remaining p v 0) → SameZones p v u y → counts p 0 (segment_of p u 0 y) s ≡ true
      → found_counted p 0 gs (segment_of p u 0 y).serial s ≡ true
  same_found u y s k sm c =
      let e = zones_segment p r v u y sm in
      subst (λ (x : Segment). found_counted p 0 gs x.serial s ≡ true) e (counted-found p v 0 y s (seg_in y (remaining p v 0) k) (ap (λ (x : Segment). counts p 0 x s) e ∙ c))

  settles_drop : SettlesCounted va
  settles_drop y s hy hs c = let k = there_kept p r v sh acc y hy in inl (same_found va y s k (drop_same p r v sh acc y k) c)

  nothing_settles : SettlesCounted (store_all store_view_of [] va)
  nothing_settles = subst (λ (u : View). SettlesCounted u) (sym (stores_none va)) settles_drop

  module _ (g : Seg) (kg : In g (remaining p v 0)) (ng : sealed_in p v 0 g ≡ false)
      (oth : (y : Seg) → In y (remaining p v 0) → (y ≡ g → ⊥) → sealed_in p v 0 y ≡ true) where
    abbrev x : Segment
    x = segment_of p v 0 g

    -- ---- missing footers

    module _ (wh : is_whole p x ≡ true) where
      abbrev vb : View
      vb = store_all store_view_of (missing_footers p x) va

      restarted-counts : (s : ℕ) → s < p.S → counts p 0 x s ≡ true
      restarted-counts s h = keep_full (counts p 0 x) (below p.S) (full! wh ∙ sym (length-below p.S)) s (in_below p.S s h)
        where
          full! : is_whole p x ≡ true → length (keep (counts p 0 x) (below p.S)) ≡ p.S
          full! q = unfold is_whole counted in eqb-true (length (keep (counts p 0 x) (below p.S))) p.S q

      head : header_at v 0 g ≡ header_at vb 0 g
      head = zones_header p r v va g (drop_same p r v sh acc g kg) ∙ (b_grows p r v sh acc g kg ng oth wh).same_head 0 (omega (arith, r.drives_low))

      serial! : (segment_of p vb 0 g).serial ≡ x.serial
      serial! =
          serial_is p vb 0 g ∙ ap (λ (d : ℕ). header_serial p (header_at vb d g)) (low_first p r) ∙ ap (header_serial p) (sym head)
          ∙ sym (serial_is p v 0 g ∙ ap (λ (d : ℕ). header_serial p (header_at v d g)) (low_first p r))

      settles_footers : SettlesCounted vb
      settles_footers y s hy hs c = go (segs_differ g y)
        where
          go : Dec (g ≡ y) → (found_counted p 0 (segments p v 0) (segment_of p vb 0 y).serial s ≡ true) ⊎ ParityAt p (segment_of p vb 0 y) s
          go (yes e) = inl (subst (λ (n : Seg). found_counted p 0 (segments p v 0) (segment_of p vb 0 n).serial s ≡ true) e
              (ap (λ (n : ℕ). found_counted p 0 (segments p v 0) n s) serial! ∙ counted-found p v 0 g s (seg_in g (remaining p v 0) kg) (restarted-counts s hs)))
          go (no n) =
              let m = grows_was p r va vb g (b_grows p r v sh acc g kg ng oth wh) y hy in
              let k = there_kept p r v sh acc y m in
              inl (same_found vb y s k (λ d hd. drop_same p r v sh acc y k d hd ∙ b_same p r v sh acc g kg ng oth wh y m n d hd) c)

    -- ---- the rewrite

    settles_rewrite : is_whole p x ≡ false → (z0 : Seg) → Vacant p va z0 → suc (greatest_serial gs) < 256 ^ 8
        → SettlesCounted (store_all store_view_of (rewrite_stores p x z0 (suc (greatest_serial gs))) va)
    settles_rewrite nw z0 vz fit y s hy hs c = ⊎_elim
        (λ e. inr (subst (λ (n : Seg). ParityAt p (segment_of p vc 0 n) s) (sym e)
        (rewritten_made p r v sh acc g kg ng oth z0 vz fit nw s (subst (λ (n : Seg). counts p 0 (segment_of p vc 0 n) s ≡ true) e c))))
        (λ k. inl (same_found vc y s k.0 (λ d hd. drop_same p r v sh acc y k.0 d hd ∙ same_else p r v sh acc g kg ng oth z0 vz fit y k.0 k.1.1 d hd) c))
        (used_moved p r v sh acc g kg ng oth z0 vz fit y hy)
      where
        vc : View
        vc = store_all store_view_of (rewrite_stores p x z0 (suc (greatest_serial gs))) va

  -- ---- in each case

  pub settles_mended : rewrites p 0 gs && eqb (greatest_serial gs) last_count ≡ false → rewrites p 0 gs && none_free_of p v gs ≡ false → greatest_serial gs < 256 ^ 8
      → SettlesCounted (store_all store_view_of (mends_of p v) va)
  settles_mended c6 c8 bd = go (mends p r v sh acc c6 c8 bd)
    where
      by : (l : List Store) → mends_of p v ≡ l → SettlesCounted (store_all store_view_of l va) → SettlesCounted (store_all store_view_of (mends_of p v) va)
      by l e f = subst (λ (l : List Store). SettlesCounted (store_all store_view_of l va)) (sym e) f

      go : Mends p v → SettlesCounted (store_all store_view_of (mends_of p v) va)
      go (mends_none us f e) = by [] e nothing_settles
      go (mends_plain g o nw nr e) = by [] e nothing_settles
      go (mends_footers g o wh e) = by (missing_footers p (segment_of p v 0 g)) e (settles_footers g o.open_remains o.open_unsealed o.open_others wh)
      go (mends-rewrite g o nw rg vz fit e) =
          by (rewrite_stores p (segment_of p v 0 g) (free_seg p v gs) (suc (greatest_serial gs))) e
          (settles_rewrite g o.open_remains o.open_unsealed o.open_others nw (free_seg p v gs) vz fit)
