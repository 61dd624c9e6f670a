-- A healthy restart, whole: wherever it is cut, and where it ends. Assumes nothing.
use Rattle.std.specs.Prelude.{◌≡◌, Bool, ◌&&◌, ◌||◌, ◌⊎◌, ◌≢◌, eqb, take}
use Rattle.std.proofs.Math.Path.{refl, sym, ap, ap₂, subst}
use Rattle.std.proofs.Common.{◌∙◌, inl, inr, eq-eqb, arith}
use mathlib.Core.List.{List, [], ◌∷◌, ◌++◌, map, append-nil}
use Rattle.std.proofs.Math.Bool.{true, false, cond, not}
use Prim.Native.Nat.{ℕ, zero, suc, ◌-◌, ◌^◌, ◌≤◌, ◌<◌}
use Rattle.std.proofs.lemmas.Bool.{eqb-false, not-true}
use Rattle.std.proofs.Math.ListN.{length}
use Rattle.spec.specs.declared.Params.{Params}
use Rattle.spec.specs.Counts.{last_count}
use Rattle.spec.specs.Drives.{View, zone_at, pointer_at, chunk_at, Store, store_view_of, store_all, zone_on, zero_spare, is_good, seg_with}
use Rattle.spec.specs.Drives.Store.{put}
use Rattle.spec.specs.Faults.{footers_stored}
use Rattle.spec.specs.Layout.{header_serial, footer_block}
use Rattle.spec.specs.Lists.{up_from, below, any, keep, is_nil, flat, greatest, first_or, same_list, is_in}
use Rattle.spec.specs.Params.{footers}
use Rattle.spec.specs.Restart.{is_whole, is_ragged, missing_footers, rewrite_stores, drop_stores, mend_stores, restart_stores, rewrites, free_seg, free_zones}
use Rattle.spec.specs.Segments.{header_at, remaining, Segment, segment_of, segments, counts, counted, uncounted, greatest_serial, unsealed}
use Rattle.law_basic.specs.Geometry.{Ranged}
use Rattle.law_basic.specs.Ranges.{and_both, length-below, length-keep, same_list_true, nil_is}
use Rattle.law_basic.specs.Stores.{store_all-append}
use Rattle.law_drives.specs.Tests.{cond_true, clash}
use Rattle.law_basic.specs.Mask.{is_in_empty}
use Rattle.proof_crash_machine.specs.Exec.{true≢false}
use Rattle.proof_crash_machine.specs.Facts.Pair.{alone}
use Rattle.proof_crash_machine.specs.Facts.{Ghost, None, Choice, R}
use Rattle.proof_crash_machine.specs.Ghosts.{with_pr}
use Rattle.proof_crash_machine.specs.History.{Mode}
use Rattle.proof_crash_machine.specs.History.Mode.{off as stopped}
use Rattle.proof_crash_machine.specs.Val.{Val}
use Rattle.proof_crash_machine.specs.View.{apply_all, ItemView}
use Rattle.proof_crash_items.specs.Member.{Has, keep_has, has_keep, has_any, map_has, has_map, greatest_some}
use Rattle.proof_crash_items.specs.Named.{zero_choice, zero_few}
use Rattle.proof_crash_items.specs.Refuse.{one-unsealed}
use Rattle.proof_crash_items.specs.SegFacts.{begun_on, heads_alike}
use Rattle.proof_crash_items.specs.Segs.{OnDrives, its_zones, name_of, remains_at_holds, seg_bytes}
use Rattle.proof_crash_items.specs.Sound.{AllSound, sound_append}
use Rattle.proof_crash_items.specs.Stripes.{pointer_is}
use Rattle.proof_crash_items.specs.ZoneBytes.{spares_in, block_in_of}
use Rattle.proof_crash_items.specs.Ranges.{par_of}
use Rattle.proof_crash_restarts.specs.Done.{serial_top, RestartDone, plain_done}
use Rattle.proof_crash_restarts.specs.Drops.{drop_items, drops_follow, dropping}
use Rattle.proof_crash_restarts.specs.Ends.{InOrder, has_us, one_of}
use Rattle.proof_crash_restarts.specs.Feet.{Footing, Upto, feet_sound, feet_all, whole_stripes, whole_pointers, feet-are, feet_order}
use Rattle.proof_crash_restarts.specs.Link.{Linked, linked_on, CutTo}
use Rattle.proof_crash_restarts.specs.Moved.{rewrite_follows}
use Rattle.proof_crash_restarts.specs.MovedEnd.{drops_cut, moved-cut, moved_done}
use Rattle.proof_crash_restarts.specs.Rest.{SettledOn, after_settled, kept_zone_after, remaining_same, segments_same, rest_was}
use Rattle.proof_crash_restarts.specs.Runs.{Always, always_append}
use Rattle.proof_crash_restarts.specs.Same.{segment_same}
use Rattle.spec.specs.declared.Seg.{Seg}
use Rattle.law_basic.specs.Segs.{with_same, with_zone}
use Rattle.law_drives.specs.Headers.{Vacant}
use Rattle.proof_crash_items.specs.Carry.{free_zone, free_zone_on, on_tie, unnamed_pointer}
use Rattle.proof_crash_restarts.specs.MovedPlan.{ready-idle}

-- a segment that isn't whole has fewer than S counted stripes
few_left : (p : Params) (q : Segment) → is_whole p q ≡ false → length (counted p 0 q) < p.S
few_left p q e =
    let a : length (counted p 0 q) ≢ p.S = eqb-false (length (counted p 0 q)) p.S (reveal e) in
    let b : length (counted p 0 q) ≤ p.S = most in
    omega (arith, a, b)
  where
    reveal : is_whole p q ≡ false → eqb (length (counted p 0 q)) p.S ≡ false
    reveal e = unfold is_whole in e

    most : length (counted p 0 q) ≤ p.S
    most = unfold counted in omega (arith, length-keep (counts p 0 q) (below p.S), length-below p.S)

module _ (p : Params) (r : Ranged p) (off : List ℕ) (v₀ : View) (u₀ : ItemView) (g₀ : Ghost) (a : List Val) (s : Bool) (m : Mode) (lk : Linked p r off v₀ u₀ g₀ a s m)
    (none : None (par_of p r off) g₀.un)
    (six : (rewrites p 0 (segments p v₀ 0) && eqb (greatest_serial (segments p v₀ 0)) last_count) ≡ false) where
  abbrev on₀ : OnDrives p r off g₀ v₀ u₀
  on₀ = linked_on p r off v₀ u₀ g₀ a s m lk

  abbrev gs : List Segment
  gs = segments p v₀ 0

  abbrev v : View
  v = store_all store_view_of (drop_stores p v₀ (segments p v₀ 0)) v₀

  abbrev u : ItemView
  u = apply_all u₀ (drop_items p v₀ (segments p v₀ 0))

  abbrev k : SettledOn p r off (with_pr g₀ alone) v u
  k = after_settled p r off g₀ v₀ u₀ (linked_on p r off v₀ u₀ g₀ a s m lk) none

  same_gs : segments p v 0 ≡ gs
  same_gs = segments_same p r off g₀ v₀ u₀ on₀ none

  -- after the resets, with no pair
  linked₁ : Linked p r off v u (with_pr g₀ alone) a s stopped
  linked₁ = record {
    tie = on_tie p r off (with_pr g₀ alone) v u k.on;
    inv = record { facts = k.on.facts; fair = lk.inv.fair; acks = lk.inv.acks; grown = lk.inv.grown; still = lk.inv.still; uniq = lk.inv.uniq; ones = lk.inv.ones; mode = tt };
  }

  -- ---- nothing to mend
  plain : InOrder p v → RestartDone p r off g₀ a s v
  plain ord = plain_done p r off v₀ v u₀ g₀ a s m lk none (drop_items p v₀ gs) (dropping p r off g₀ v₀ u₀ on₀ none) k ord

  -- ---- an unsealed segment
  module _ (o : Seg) (i₀ : Has o (remaining p v₀ 0)) (un₀ : (segment_of p v₀ 0 o).full ≡ false) where
    i : Has o (remaining p v 0)
    i = subst (λ (l : List Seg). Has o l) (sym (remaining_same p r off g₀ v₀ u₀ on₀ none)) i₀

    same_G : segment_of p v 0 o ≡ segment_of p v₀ 0 o
    same_G = segment_same p r v₀ v 0 o (zero_few p r) (λ d b. kept_zone_after p r off g₀ v₀ u₀ on₀ none d o b i₀)

    un : (segment_of p v 0 o).full ≡ false
    un = ap (λ (x : Segment). x.full) same_G ∙ un₀

    abbrev lies : (d : ℕ) → d < p.N → zone_on o d ≡ g₀.hd.zn (name_of p v 0 o) d
    lies d l = its_zones p r off (with_pr g₀ alone) v u k.on 0 (zero_choice p r off g₀.un none) o i d l

    -- ---- missing footers
    module _ (w : is_whole p (segment_of p v 0 o) ≡ true) where
      abbrev feet : List Store
      feet =
          flat (λ d. map (λ j. put d (zone_on o d) (footer_block p (spares_in p (zone_at v d (zone_on o d))) j) zero_spare)
          (up_from (footers_stored p (zone_at v d (zone_on o d))) (footers p - footers_stored p (zone_at v d (zone_on o d))))) (below p.N)

      footing : Footing p r off g₀ a s o (name_of p v 0 o) lies v
      footing = record { u = u; linked = linked₁; set = k; stripes = whole_stripes p r off (with_pr g₀ alone) v u k o i w }

      feet? : Always (Footing p r off g₀ a s o (name_of p v 0 o) lies) v feet × Upto p r off g₀ a s o (name_of p v 0 o) lies v p.N (store_all store_view_of feet v)
      feet? = feet_all p r off g₀ a s o (name_of p v 0 o) lies v (whole_pointers p r off (with_pr g₀ alone) v u k o i w) footing

      healthy_feet_cut : Always (CutTo p r off g₀ a s) v feet
      healthy_feet_cut n = record {
        u = (feet?.0 n).u;
        g' = with_pr g₀ alone;
        same = record { un = refl; said = refl; sent = refl; last = refl; base = refl; top = refl };
        linked = (feet?.0 n).linked;
      }

      abbrev v_f : View
      v_f = store_all store_view_of feet v

      healthy-done? : RestartDone p r off (with_pr g₀ alone) a s v_f
      healthy-done? =
          plain_done p r off v_f v_f feet?.1.foot.u (with_pr g₀ alone) a s stopped feet?.1.foot.linked none []
          (record { are = tt; every = λ z y d l b. absurd (y (feet?.1.foot.set.rest z (d, (l, none d l), b))) }) (unfold apply_all in feet?.1.foot.set)
          (feet_order p r off g₀ a s v v_f u k o i un lies feet?.1)

      feet_done : RestartDone p r off g₀ a s v_f
      feet_done = record {
        u = healthy-done?.u;
        g' = healthy-done?.g';
        same = record {
          un = healthy-done?.same.un;
          said = healthy-done?.same.said;
          sent = healthy-done?.same.sent;
          last = healthy-done?.same.last;
          base = healthy-done?.same.base;
          top = healthy-done?.same.top;
        };
        set = healthy-done?.set;
        b = healthy-done?.b;
        z = healthy-done?.z;
        n = healthy-done?.n;
        opened = healthy-done?.opened;
        linked = healthy-done?.linked;
        acked = healthy-done?.acked;
        sent = healthy-done?.sent;
        floor = healthy-done?.floor;
        still = healthy-done?.still;
      }

      pub feet-both :
          Always (CutTo p r off g₀ a s) v (missing_footers p (segment_of p v 0 o))
          × RestartDone p r off g₀ a s (store_all store_view_of (missing_footers p (segment_of p v 0 o)) v)
      feet-both =
          subst (λ (l : List Store). Always (CutTo p r off g₀ a s) v l × RestartDone p r off g₀ a s (store_all store_view_of l v)) (sym (feet-are p r off (with_pr g₀ alone) v u k o i w))
          (healthy_feet_cut, feet_done)

      feet_right : AllSound p v (missing_footers p (segment_of p v 0 o))
      feet_right = subst (AllSound p v) (sym (feet-are p r off (with_pr g₀ alone) v u k o i w))
          (feet_sound p r off g₀ a s o (name_of p v 0 o) lies v (whole_pointers p r off (with_pr g₀ alone) v u k o i w) footing)

    -- ---- a rewrite
    abbrev w : Seg
    w = free_seg p v₀ gs

    -- its zones are empty once the dropped ones are reset
    vacant : Vacant p v (free_seg p v₀ gs)
    vacant = record {
      vacant_low = λ d l. subst (λ (x : ℕ). x < p.Z) (sym (at d l)) (free d l).0;
      vacant_good = λ d l. ap (is_good p v.offline d) (at d l) ∙ good d l;
      vacant_empty = λ d l. ap (pointer_at v d) (at d l) ∙ unnamed_pointer p r off (with_pr g₀ alone) v u k.on d (first_or 0 (free_zones p v₀ gs d)) l (none d l) (free d l).0 (good d l)
          (λ z y. (free d l).2 z (rest_was p r off g₀ v₀ u₀ on₀ none z y));
      vacant_is = is;
    }
      where
        ch₀ : Choice (par_of p r off) g₀.un (is_in 0)
        ch₀ = zero_choice p r off g₀.un none

        free : (d : ℕ) → d < p.N → (first_or 0 (free_zones p v₀ gs d) < p.Z) × (is_good p v₀.offline d (first_or 0 (free_zones p v₀ gs d)) ≡ true)
            × ((n : ℕ) → R (par_of p r off) g₀.hd u₀ (is_in 0) n → g₀.hd.zn n d ≢ first_or 0 (free_zones p v₀ gs d))
        free d l = free_zone p r off g₀ v₀ u₀ on₀ (λ x q. lk.inv.ones x q) 0 (zero_choice p r off g₀.un none) d l

        at : (d : ℕ) → d < p.N → zone_on (free_seg p v₀ gs) d ≡ first_or 0 (free_zones p v₀ gs d)
        at d l = free_zone_on p r off g₀ v₀ u₀ on₀ (λ x q. lk.inv.ones x q) 0 (zero_choice p r off g₀.un none) d l

        good : (d : ℕ) → d < p.N → is_good p v.offline d (first_or 0 (free_zones p v₀ gs d)) ≡ true
        good d l = ap (λ (x : List ℕ). is_good p x d (first_or 0 (free_zones p v₀ gs d))) (k.on.offline ∙ sym on₀.offline) ∙ (free d l).1

        is : free_seg p v₀ gs ≡ seg_with p (zone_on (free_seg p v₀ gs))
        is = unfold free_seg in with_same p (λ d. first_or 0 (free_zones p v₀ gs d)) (zone_on (seg_with p (λ d. first_or 0 (free_zones p v₀ gs d))))
            (λ d l. sym (with_zone p (λ d. first_or 0 (free_zones p v₀ gs d)) d l))

    wide-serials : greatest_serial gs < 256 ^ 8
    wide-serials = unfold greatest_serial segments in go (greatest_some (map (λ (g : Segment). g.serial) (map (segment_of p v₀ 0) (remaining p v₀ 0))))
      where
        one : (z : Seg) → Has z (remaining p v₀ 0) → (segment_of p v₀ 0 z).serial < 256 ^ 8
        one z j =
            let d0 : 0 < p.N = omega (arith, r.drives_low) in
            let ch₀ : Choice (par_of p r off) g₀.un (is_in 0) = zero_choice p r off g₀.un none in
            let b : 0 < pointer_at v₀ 0 (zone_on z 0) = begun_on p r off g₀ v₀ u₀ on₀ 0 ch₀ z j 0 d0 (is_in_empty 0) in
            let h : header_serial p (header_at v₀ 0 z) ≡ (segment_of p v₀ 0 z).serial = (heads_alike p r off g₀ v₀ u₀ on₀ 0 ch₀ z j 0 d0 (is_in_empty 0)).1 in
            let q : header_serial p (header_at v₀ 0 z) < 256 ^ 8 = wide z
            ((seg_bytes p r off g₀ v₀ u₀ on₀ 0 ch₀ z (remains_at_holds p r off g₀ v₀ u₀ on₀ 0 ch₀ z j) 0 d0 (is_in_empty 0)).serials
            (subst (λ (x : ℕ). 0 < x) (sym (pointer_is v₀ 0 (zone_on z 0))) b)).0 in
            subst (λ (x : ℕ). x < 256 ^ 8) h q
          where
            wide : (z : Seg) → header_serial p (block_in_of (zone_at v₀ 0 (zone_on z 0)) 0).block < 256 ^ 8 → header_serial p (header_at v₀ 0 z) < 256 ^ 8
            wide z l = unfold header_at chunk_at in l

        go : (greatest (map (λ (g : Segment). g.serial) (map (segment_of p v₀ 0) (remaining p v₀ 0))) ≡ 0)
            ⊎ Has (greatest (map (λ (g : Segment). g.serial) (map (segment_of p v₀ 0) (remaining p v₀ 0))))
            (map (λ (g : Segment). g.serial) (map (segment_of p v₀ 0) (remaining p v₀ 0)))
            → greatest (map (λ (g : Segment). g.serial) (map (segment_of p v₀ 0) (remaining p v₀ 0))) < 256 ^ 8
        go (inl e) = omega arith
        go (inr q) =
            let x : (g : Segment)
            × Has g (map (segment_of p v₀ 0) (remaining p v₀ 0))
            × (greatest (map (λ (g : Segment). g.serial) (map (segment_of p v₀ 0) (remaining p v₀ 0))) ≡ g.serial) =
            map_has (λ (g : Segment). g.serial)
            (greatest (map (λ (g : Segment). g.serial) (map (segment_of p v₀ 0) (remaining p v₀ 0))))
            (map (segment_of p v₀ 0) (remaining p v₀ 0)) q in
            let z : (z : Seg) × Has z (remaining p v₀ 0) × (x.0 ≡ segment_of p v₀ 0 z) =
            map_has (segment_of p v₀ 0) x.0 (remaining p v₀ 0) x.1 in
            subst (λ (y : ℕ). y < 256 ^ 8) (sym (x.2 ∙ ap (λ (g : Segment). g.serial) z.2)) (one z.0 z.1)

    module _ (rag : is_ragged p (segment_of p v₀ 0 o) ≡ true) where
      not_last : eqb (greatest_serial gs) last_count ≡ false
      not_last = go (eqb (greatest_serial gs) last_count) refl
        where
          yes? : rewrites p 0 gs ≡ true
          yes? =
              unfold rewrites unsealed segments in and_both (eqb 0 0)
              (any (is_ragged p) (keep (λ (g : Segment). not g.full) (map (segment_of p v₀ 0) (remaining p v₀ 0))))
              (eq-eqb 0 0 refl)
              (has_any (is_ragged p) (keep (λ (g : Segment). not g.full) (map (segment_of p v₀ 0) (remaining p v₀ 0))) (segment_of p v₀ 0 o)
              (has_keep (λ (g : Segment). not g.full) (segment_of p v₀ 0 o)
              (map (segment_of p v₀ 0) (remaining p v₀ 0))
              (has_map (segment_of p v₀ 0) (remaining p v₀ 0) o i₀) (ap not un₀)) rag)

          go : (b : Bool) → eqb (greatest_serial gs) last_count ≡ b → b ≡ false
          go false e = refl
          go true e = clash (and_both (rewrites p 0 gs) (eqb (greatest_serial gs) last_count) yes? e) six

      next_low : suc (greatest_serial gs) < 256 ^ 8
      next_low = let x : greatest_serial gs ≢ last_count = eqb-false (greatest_serial gs) last_count not_last in omega (arith, x, wide-serials)

      top : serial_top p v < suc (greatest_serial gs)
      top = unfold serial_top in (let e : greatest_serial (segments p v 0) ≡ greatest_serial gs = ap greatest_serial same_gs in omega (arith, e))

      unfull : length (counted p 0 (segment_of p v 0 o)) < p.S
      unfull = not_whole (segment_of p v 0 o) (go (is_whole p (segment_of p v 0 o)) refl (ap (is_ragged p) same_G ∙ rag))
        where
          not_whole : (q : Segment) → is_whole p q ≡ false → length (counted p 0 q) < p.S
          not_whole q e = few_left p q e

          go : (b : Bool) → is_whole p (segment_of p v 0 o) ≡ b → is_ragged p (segment_of p v 0 o) ≡ true → is_whole p (segment_of p v 0 o) ≡ false
          go false e q = e
          go true e q =
              true≢false (sym (ap (λ (x : Bool). not x
              && (not (same_list (counted p 0 (segment_of p v 0 o))
              (below (length (counted p 0 (segment_of p v 0 o)))))
              || not (is_nil (uncounted p 0 (segment_of p v 0 o))))) e)
              ∙ reveal q)
            where
              reveal : is_ragged p (segment_of p v 0 o) ≡ true
                  → (not (is_whole p (segment_of p v 0 o))
                  && (not (same_list (counted p 0 (segment_of p v 0 o))
                  (below (length (counted p 0 (segment_of p v 0 o)))))
                  || not (is_nil (uncounted p 0 (segment_of p v 0 o)))))
                  ≡ true
              reveal q = unfold is_ragged in q

      pub moved_both : Always (CutTo p r off g₀ a s) v (rewrite_stores p (segment_of p v 0 o) (free_seg p v₀ gs) (suc (greatest_serial gs)))
          × RestartDone p r off g₀ a s (store_all store_view_of (rewrite_stores p (segment_of p v 0 o) (free_seg p v₀ gs) (suc (greatest_serial gs))) v)
      moved_both = (
        moved-cut p r off v₀ u₀ g₀ a s m lk none o i un (free_seg p v₀ gs) vacant (suc (greatest_serial gs)) next_low top unfull,
        moved_done p r off v₀ u₀ g₀ a s m lk none o i un (free_seg p v₀ gs) vacant (suc (greatest_serial gs)) next_low top unfull,
      )

      moved_right : AllSound p v (rewrite_stores p (segment_of p v 0 o) (free_seg p v₀ gs) (suc (greatest_serial gs)))
      moved_right = (rewrite_follows p r off (with_pr g₀ alone) v u k o i (free_seg p v₀ gs) vacant (suc (greatest_serial gs)) next_low
          (ready-idle p r off (with_pr g₀ alone) v u k o i (free_seg p v₀ gs) un vacant (suc (greatest_serial gs)) top)).sound

    -- ---- what mending o comes to
    abbrev Both : List Store → Type 0
    Both l = Always (CutTo p r off g₀ a s) v l × RestartDone p r off g₀ a s (store_all store_view_of l v)

    -- the others are full
    others_full : (z : Seg) → Has z (remaining p v 0) → (segment_of p v 0 z).full ≡ false → z ≡ o
    others_full z j e = one_of p r off (with_pr g₀ alone) v u k z o j i e un

    nothing : InOrder p v → Both []
    nothing ord = ((λ n. cut n), (unfold store_all in plain ord))
      where
        cut : (n : ℕ) → CutTo p r off g₀ a s (store_all store_view_of (take n []) v)
        cut zero = unfold store_all in record { u = u; g' = with_pr g₀ alone; same = record { un = refl; said = refl; sent = refl; last = refl; base = refl; top = refl }; linked = linked₁ }
        cut (suc n) = unfold store_all in record { u = u; g' = with_pr g₀ alone; same = record { un = refl; said = refl; sent = refl; last = refl; base = refl; top = refl }; linked = linked₁ }

    even_in_order : is_whole p (segment_of p v 0 o) ≡ false → is_ragged p (segment_of p v 0 o) ≡ false → InOrder p v
    even_in_order nw nr z j e = rw (others_full z j e) (counted_in, uncounted_in_holds, few_left p (segment_of p v 0 o) nw)
      where
        G : Segment
        G = segment_of p v 0 o

        either : (x y : Bool) → (not x || not y) ≡ false → (x ≡ true) × (y ≡ true)
        either true true e = (refl, refl)
        either true false e = true≢false (sym e)
        either false y e = true≢false (sym e)

        inner : (not (same_list (counted p 0 G) (below (length (counted p 0 G)))) || not (is_nil (uncounted p 0 G))) ≡ false
        inner = go (is_whole p G) nw (unfold is_ragged in nr)
          where
            go : (b : Bool) → b ≡ false → (not b && (not (same_list (counted p 0 G) (below (length (counted p 0 G)))) || not (is_nil (uncounted p 0 G)))) ≡ false
                → (not (same_list (counted p 0 G) (below (length (counted p 0 G)))) || not (is_nil (uncounted p 0 G))) ≡ false
            go true e q = true≢false (sym e)
            go false e q = q

        two : (same_list (counted p 0 G) (below (length (counted p 0 G))) ≡ true) × (is_nil (uncounted p 0 G) ≡ true)
        two = either (same_list (counted p 0 G) (below (length (counted p 0 G)))) (is_nil (uncounted p 0 G)) inner

        counted_in : counted p 0 G ≡ below (length (counted p 0 G))
        counted_in = same_list_true (counted p 0 G) (below (length (counted p 0 G))) two.0

        uncounted_in_holds : uncounted p 0 G ≡ []
        uncounted_in_holds = nil_is (uncounted p 0 G) two.1

    mended_right : AllSound p v (mend_stores p v₀ gs (segment_of p v₀ 0 o))
    mended_right = subst (λ (x : Segment). AllSound p v (mend_stores p v₀ gs x)) same_G (go (is_whole p (segment_of p v 0 o)) refl (is_ragged p (segment_of p v 0 o)) refl)
      where
        is : (b c : Bool) → is_whole p (segment_of p v 0 o) ≡ b → is_ragged p (segment_of p v 0 o) ≡ c
            → mend_stores p v₀ gs (segment_of p v 0 o)
            ≡ cond b (missing_footers p (segment_of p v 0 o))
            (cond c (rewrite_stores p (segment_of p v 0 o) (free_seg p v₀ gs) (suc (greatest_serial gs))) [])
        is b c e f =
            unfold mend_stores in ap₂ (λ (x y : Bool). cond x (missing_footers p (segment_of p v 0 o))
            (cond y (rewrite_stores p (segment_of p v 0 o) (free_seg p v₀ gs) (suc (greatest_serial gs))) [])) e f

        go :
            (b : Bool)
            → is_whole p (segment_of p v 0 o) ≡ b
            → (c : Bool)
            → is_ragged p (segment_of p v 0 o) ≡ c
            → AllSound p v (mend_stores p v₀ gs (segment_of p v 0 o))
        go true e c f = subst (AllSound p v) (sym (is true c e f)) (feet_right e)
        go false e true f = subst (AllSound p v) (sym (is false true e f)) (moved_right (ap (is_ragged p) (sym same_G) ∙ f))
        go false e false f = subst (AllSound p v) (sym (is false false e f)) tt

    mend_both : Both (mend_stores p v₀ gs (segment_of p v₀ 0 o))
    mend_both = subst (λ (x : Segment). Both (mend_stores p v₀ gs x)) same_G (go (is_whole p (segment_of p v 0 o)) refl (is_ragged p (segment_of p v 0 o)) refl)
      where
        is : (b c : Bool) → is_whole p (segment_of p v 0 o) ≡ b → is_ragged p (segment_of p v 0 o) ≡ c
            → mend_stores p v₀ gs (segment_of p v 0 o)
            ≡ cond b (missing_footers p (segment_of p v 0 o))
            (cond c (rewrite_stores p (segment_of p v 0 o) (free_seg p v₀ gs) (suc (greatest_serial gs))) [])
        is b c e f =
            unfold mend_stores in ap₂ (λ (x y : Bool). cond x (missing_footers p (segment_of p v 0 o))
            (cond y (rewrite_stores p (segment_of p v 0 o) (free_seg p v₀ gs) (suc (greatest_serial gs))) [])) e f

        go : (b : Bool) → is_whole p (segment_of p v 0 o) ≡ b → (c : Bool) → is_ragged p (segment_of p v 0 o) ≡ c → Both (mend_stores p v₀ gs (segment_of p v 0 o))
        go true e c f = subst Both (sym (is true c e f)) (feet-both e)
        go false e true f = subst Both (sym (is false true e f)) (moved_both (ap (is_ragged p) (sym same_G) ∙ f))
        go false e false f = subst Both (sym (is false false e f)) (nothing (even_in_order e f))

  -- ---- all together
  abbrev Whole? : List Store → Type 0
  Whole? l = Always (CutTo p r off g₀ a s) v₀ l × RestartDone p r off g₀ a s (store_all store_view_of l v₀)

  join : (l : List Store) → Always (CutTo p r off g₀ a s) v l × RestartDone p r off g₀ a s (store_all store_view_of l v) → Whole? (drop_stores p v₀ gs ++ l)
  join l b = (
    always_append (CutTo p r off g₀ a s) v₀ (drop_stores p v₀ gs) l (drops_cut p r off v₀ u₀ g₀ a s m lk none) b.0,
    subst (RestartDone p r off g₀ a s) (sym (store_all-append store_view_of (drop_stores p v₀ gs) l v₀)) b.1,
  )

  pub healthy : Whole? (restart_stores p v₀ 0 gs)
  healthy = subst Whole? (sym stores_are) (go (unsealed gs) refl)
    where
      stores_are : restart_stores p v₀ 0 gs ≡ drop_stores p v₀ gs ++ flat (mend_stores p v₀ gs) (unsealed gs)
      stores_are = unfold restart_stores in cond_true (eqb 0 0) (drop_stores p v₀ gs ++ flat (mend_stores p v₀ gs) (unsealed gs)) [] (eq-eqb 0 0 refl)

      short : length (unsealed gs) ≤ 1
      short = one-unsealed p r off g₀ v₀ u₀ on₀ (λ x q. lk.inv.ones x q) 0 (zero_choice p r off g₀.un none)

      from : (q : Segment) → Has q (unsealed gs) → (z : Seg) × Has z (remaining p v₀ 0) × (q ≡ segment_of p v₀ 0 z) × ((segment_of p v₀ 0 z).full ≡ false)
      from q i = unfold unsealed segments in go (keep_has (λ (g : Segment). not g.full) q (map (segment_of p v₀ 0) (remaining p v₀ 0)) (reveal i))
        where
          reveal : Has q (unsealed gs) → Has q (keep (λ (g : Segment). not g.full) (map (segment_of p v₀ 0) (remaining p v₀ 0)))
          reveal i = unfold unsealed segments in i

          go : Has q (map (segment_of p v₀ 0) (remaining p v₀ 0)) × (not q.full ≡ true)
              → (z : Seg) × Has z (remaining p v₀ 0) × (q ≡ segment_of p v₀ 0 z) × ((segment_of p v₀ 0 z).full ≡ false)
          go (h, f) =
              let b : (z : Seg) × Has z (remaining p v₀ 0) × (q ≡ segment_of p v₀ 0 z) = map_has (segment_of p v₀ 0) q (remaining p v₀ 0) h in
              (b.0, b.1, b.2, ap (λ (x : Segment). x.full) (sym b.2) ∙ not-true q.full f)

      go : (l : List Segment) → unsealed gs ≡ l → Whole? (drop_stores p v₀ gs ++ flat (mend_stores p v₀ gs) l)
      go [] e = join (flat (mend_stores p v₀ gs) []) (unfold flat in ((λ n. cut n), (unfold store_all in plain none_open)))
        where
          cut : (n : ℕ) → CutTo p r off g₀ a s (store_all store_view_of (take n []) v)
          cut zero = unfold store_all in record { u = u; g' = with_pr g₀ alone; same = record { un = refl; said = refl; sent = refl; last = refl; base = refl; top = refl }; linked = linked₁ }
          cut (suc n) = unfold store_all in record { u = u; g' = with_pr g₀ alone; same = record { un = refl; said = refl; sent = refl; last = refl; base = refl; top = refl }; linked = linked₁ }

          none_open : InOrder p v
          none_open z j f = absurd (subst (λ (x : List Segment). Has (segment_of p v 0 z) x) (ap unsealed same_gs ∙ e) (has_us p r off (with_pr g₀ alone) v u k z j f))
      go (q ∷ []) e =
          let z : (z : Seg) × Has z (remaining p v₀ 0) × (q ≡ segment_of p v₀ 0 z) × ((segment_of p v₀ 0 z).full ≡ false) =
          from q (subst (λ (x : List Segment). Has q x) (sym e) (inl refl)) in
          subst (λ (x : List Store). Whole? (drop_stores p v₀ gs ++ x)) (single q z.0 z.2) (join (mend_stores p v₀ gs (segment_of p v₀ 0 z.0)) (mend_both z.0 z.1 z.3))
        where
          single : (q : Segment) (z : Seg) → q ≡ segment_of p v₀ 0 z → mend_stores p v₀ gs (segment_of p v₀ 0 z) ≡ flat (mend_stores p v₀ gs) (q ∷ [])
          single q z h = unfold flat in (ap (mend_stores p v₀ gs) (sym h) ∙ sym (append-nil (mend_stores p v₀ gs q)))
      go (q ∷ (x ∷ l)) e = absurd (let y : length (unsealed gs) ≡ suc (suc (length l)) = ap length e in let j : ⊥ = omega (arith, short, y) in j)

  -- each of its stores is of the right kind
  pub healthy_sound : AllSound p v₀ (restart_stores p v₀ 0 gs)
  healthy_sound = subst (AllSound p v₀) (sym stores_are) (go (unsealed gs) refl)
    where
      stores_are : restart_stores p v₀ 0 gs ≡ drop_stores p v₀ gs ++ flat (mend_stores p v₀ gs) (unsealed gs)
      stores_are = unfold restart_stores in cond_true (eqb 0 0) (drop_stores p v₀ gs ++ flat (mend_stores p v₀ gs) (unsealed gs)) [] (eq-eqb 0 0 refl)

      short : length (unsealed gs) ≤ 1
      short = one-unsealed p r off g₀ v₀ u₀ on₀ (λ x q. lk.inv.ones x q) 0 (zero_choice p r off g₀.un none)

      from : (q : Segment) → Has q (unsealed gs) → (z : Seg) × Has z (remaining p v₀ 0) × (q ≡ segment_of p v₀ 0 z) × ((segment_of p v₀ 0 z).full ≡ false)
      from q i = unfold unsealed segments in go (keep_has (λ (g : Segment). not g.full) q (map (segment_of p v₀ 0) (remaining p v₀ 0)) (reveal i))
        where
          reveal : Has q (unsealed gs) → Has q (keep (λ (g : Segment). not g.full) (map (segment_of p v₀ 0) (remaining p v₀ 0)))
          reveal i = unfold unsealed segments in i

          go : Has q (map (segment_of p v₀ 0) (remaining p v₀ 0)) × (not q.full ≡ true)
              → (z : Seg) × Has z (remaining p v₀ 0) × (q ≡ segment_of p v₀ 0 z) × ((segment_of p v₀ 0 z).full ≡ false)
          go (h, f) =
              let b : (z : Seg) × Has z (remaining p v₀ 0) × (q ≡ segment_of p v₀ 0 z) = map_has (segment_of p v₀ 0) q (remaining p v₀ 0) h in
              (b.0, b.1, b.2, ap (λ (x : Segment). x.full) (sym b.2) ∙ not-true q.full f)

      dropped : (l : List Store) → AllSound p v l → AllSound p v₀ (drop_stores p v₀ gs ++ l)
      dropped l k = sound_append p v₀ (drop_stores p v₀ gs) l (drops_follow p r off g₀ v₀ u₀ on₀ none gs v₀).sound k

      go : (l : List Segment) → unsealed gs ≡ l → AllSound p v₀ (drop_stores p v₀ gs ++ flat (mend_stores p v₀ gs) l)
      go [] e = dropped (flat (mend_stores p v₀ gs) []) (unfold flat in tt)
      go (q ∷ []) e =
          let z : (z : Seg) × Has z (remaining p v₀ 0) × (q ≡ segment_of p v₀ 0 z) × ((segment_of p v₀ 0 z).full ≡ false) =
          from q (subst (λ (x : List Segment). Has q x) (sym e) (inl refl)) in
          subst (λ (x : List Store). AllSound p v₀ (drop_stores p v₀ gs ++ x)) (single q z.0 z.2)
          (dropped (mend_stores p v₀ gs (segment_of p v₀ 0 z.0)) (mended_right z.0 z.1 z.3))
        where
          single : (q : Segment) (z : Seg) → q ≡ segment_of p v₀ 0 z → mend_stores p v₀ gs (segment_of p v₀ 0 z) ≡ flat (mend_stores p v₀ gs) (q ∷ [])
          single q z h = unfold flat in (ap (mend_stores p v₀ gs) (sym h) ∙ sym (append-nil (mend_stores p v₀ gs q)))
      go (q ∷ (x ∷ l)) e = absurd (let y : length (unsealed gs) ≡ suc (suc (length l)) = ap length e in let j : ⊥ = omega (arith, short, y) in j)
