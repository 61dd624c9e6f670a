-- Restart, 4: missing footers, store by store. Assumes nothing.
use Rattle.std.specs.Prelude.{◌≡◌, Bool, ◌⊎◌, ◌≢◌, get_or}
use Rattle.std.proofs.Math.Path.{refl, sym, ap, subst}
use Rattle.std.proofs.Common.{◌∙◌, inl, inr}
use mathlib.Core.List.{List, [], ◌∷◌, map}
use Rattle.std.proofs.Math.Bool.{true, false}
use Prim.Native.Nat.{ℕ, suc, ◌+◌, ◌-◌, min, ◌≤◌, ◌<◌}
use Rattle.std.proofs.Math.Decide.{ℕ_discrete}
use borrow.Author.Tests.{eq-eqb, eqb-true}
use native.Mathlib.Omega.{arith}
use Rattle.std.proofs.Math.Dec.{eqb}
use Rattle.std.proofs.Math.ListN.{length}
use Rattle.spec.specs.declared.Params.{Params}
use Rattle.spec.specs.Drives.{Zone, no_zone, View, zone_at, pointer_at, Store, put_zone, store_view_of, store_all, zone_on, sealed_in, data_stored, footers_of}
use Rattle.spec.specs.Drives.{zero_spare, footer_stores, chunk_at, is_good, no_chunk}
use Rattle.spec.specs.Drives.Store.{put}
use Rattle.spec.specs.Faults.{footers_stored}
use Rattle.spec.specs.Layout.{record_of_of, footer_block, header_serial}
use Rattle.spec.specs.Lists.Opt.{none}
use Rattle.spec.specs.Lists.{up_from, below, cons_if, keep, flat, is_in}
use Rattle.spec.specs.Params.{footers, capacity, drives_of}
use Rattle.spec.specs.Restart.{is_whole, missing_footers}
use Rattle.spec.specs.Segments.{remaining, Segment, segment_of, offset_on, has_chunk, counts, counted, is_used, serial_in}
use Rattle.law_basic.specs.Geometry.{Ranged}
use Rattle.law_basic.specs.Ranges.{length-below, map-map, get_d_map-below, length-keep}
use Rattle.law_basic.specs.Segs.{segs_differ}
use Rattle.law_drives.specs.Counting.{pigeon}
use Rattle.law_drives.specs.Tests.{clash}
use Rattle.proof_crash_machine.specs.Facts.Pair.{alone}
use Rattle.proof_crash_machine.specs.Facts.{Ghost, Stripe, Used, Choice}
use Rattle.proof_crash_machine.specs.Ghosts.{with_pr}
use Rattle.proof_crash_machine.specs.History.Mode.{off as stopped}
use Rattle.proof_crash_machine.specs.History.Step.{restart_footer}
use Rattle.proof_crash_machine.specs.Put.{in_fwd, R_fwd as Put·R_fwd, Used_back as Put·Used_back}
use Rattle.proof_crash_machine.specs.Val.{Val}
use Rattle.proof_crash_machine.specs.View.{Item, ItemView, with_item, InI, apply_all, item_some, apply}
use Rattle.proof_crash_machine.specs.View.Item.{chunk, foot}
use Rattle.proof_crash_machine.specs.View.ItemStore.{put as m-put}
use Rattle.proof_crash_items.specs.ZoneBytes.Kind.{footer}
use Rattle.proof_crash_items.specs.Items.{items_in}
use Rattle.proof_crash_items.specs.Member.{Has, has_keep, below_has, has_below}
use Rattle.proof_crash_items.specs.Named.{all_on_present, zero_few}
use Rattle.proof_crash_items.specs.Ranges.{par_of}
use Rattle.proof_crash_items.specs.Segs.{zone_len_holds, On, SegAt, borne_by, is_on, its_zones, name_of, one_there, remaining_has, remains_at_holds, seg_bytes, segs_used_of}
use Rattle.proof_crash_items.specs.Shape.{zone_set_at, zone_set_else, shape_zone}
use Rattle.proof_crash_items.specs.Sound.{Sound, AllSound, sound_put, Follows, follows-cons, follows_nil, store_put}
use Rattle.proof_crash_items.specs.Stripes.{pointer_is, offset_on_holds, counted_has, piece_at, counted_stripe}
use Rattle.proof_crash_items.specs.ZoneBytes.{spares_in, block_in_of, Kind, kind_item, old_spares}
use Rattle.proof_crash_restarts.specs.Ends.{InOrder, none_choice, full_sealed, one_of}
use Rattle.proof_crash_restarts.specs.Link.{state_on, Linked, linked_on, linked_step}
use Rattle.proof_crash_restarts.specs.Order.{flat_same, pointer_zone}
use Rattle.proof_crash_restarts.specs.Rest.{SettledOn, far_off, settled_remains, settled_used}
use Rattle.proof_crash_restarts.specs.Runs.{Always, run_always, run_end, runs_always, runs_end, run_sound, runs_sound}
use Rattle.proof_crash_restarts.specs.Same.{segment_same}
use Rattle.spec.specs.declared.Seg.{Seg}
use Rattle.law_basic.specs.Mask.{is_in_empty}
use Rattle.proof_crash_items.specs.Carry.{Tie, tie_after}
use Rattle.proof_crash_items.specs.Places.{lies_used, store_seg}

-- all pass where none is left out
keep_whole : {A : Type 0} (f : A → Bool) (l : List A) → length (keep f l) ≡ length l → (a : A) → Has a l → f a ≡ true
unfolding keep
keep_whole f [] e a i = absurd i
keep_whole {A} f (b ∷ l) e a i = go (f b) refl e i (keep_whole f l)
  where
    go : (t : Bool) → f b ≡ t → length (cons_if t b (keep f l)) ≡ suc (length l) → Has a (b ∷ l) → (length (keep f l) ≡ length l → (a : A) → Has a l → f a ≡ true)
        → f a ≡ true
    go true q e (inl w) ih = ap f w ∙ q
    go true q e (inr w) ih = ih (shorter e) a w
      where
        shorter : length (cons_if true b (keep f l)) ≡ suc (length l) → length (keep f l) ≡ length l
        shorter e = unfold cons_if in (let x : suc (length (keep f l)) ≡ suc (length l) = e in omega (arith, x))
    go false q e w ih = absurd (long e)
      where
        long : length (cons_if false b (keep f l)) ≡ suc (length l) → ⊥
        long e = unfold cons_if in (let x : length (keep f l) ≡ suc (length l) = e in let y : ⊥ = omega (arith, x, length-keep f l) in y)

module _ (p : Params) (r : Ranged p) (off : List ℕ) (g₀ : Ghost) (a : List Val) (s : Bool) (o : Seg) (nm : ℕ) (lies : (d : ℕ) → d < p.N → zone_on o d ≡ g₀.hd.zn nm d) where
  abbrev g₁ : Ghost
  g₁ = with_pr g₀ alone

  -- what holds after each store: the facts, and all stripes of o, the machine's nm, on every drive
  pub record Footing (w : View) : Type 0 where
    pub u : ItemView
    pub linked : Linked p r off w u (with_pr g₀ alone) a s stopped
    pub set : SettledOn p r off (with_pr g₀ alone) w u
    pub stripes : (d t : ℕ) → d < p.N → t < p.S → (x : Val) × InI (chunk t x) (u d nm)

  module _ (w : View) (k : Footing w) (d : ℕ) (dl : d < p.N) where
    has_head : 0 < length (k.u d nm)
    has_head = let x = k.stripes d 0 dl r.stripes_low in item_some (chunk 0 x.0) (k.u d nm) x.1

    foot_on : On p r off (with_pr g₀ alone) w k.u k.set.on d nm
    foot_on = is_on p r off (with_pr g₀ alone) w k.u k.set.on d nm dl (k.set.none d dl) has_head

    foot_low : zone_on o d < p.Z
    foot_low = subst (λ (x : ℕ). x < p.Z) (sym (lies d dl)) foot_on.low

  -- footer j of o on drive d, made from the spares there
  abbrev foot_store : View → ℕ → ℕ → Store
  foot_store w d j = put d (zone_on o d) (footer_block p (spares_in p (zone_at w d (zone_on o d))) j) zero_spare

  foot_kind : (w : View) (d j : ℕ) → pointer_at w d (zone_on o d) ≡ suc (p.S + j) → j < footers p
      → Kind p d (zone_at w d (zone_on o d)) (footer_block p (spares_in p (zone_at w d (zone_on o d))) j) zero_spare
  foot_kind w d j e l = footer j (pointer_is w d (zone_on o d) ∙ e) l

  module _ (w : View) (d j : ℕ) (k : Footing w) (dl : d < p.N) (e : pointer_at w d (zone_on o d) ≡ suc (p.S + j)) (jl : j < footers p) where
    abbrev w₁ : View
    w₁ = store_view_of (foot_store w d j) w

    abbrev u₁ : ItemView
    u₁ = with_item k.u d nm (foot j)

    zl : zone_on o d < p.Z
    zl = foot_low w k d dl

    sound : Sound p w (foot_store w d j)
    sound = sound_put p w d o (footer_block p (spares_in p (zone_at w d (zone_on o d))) j) zero_spare dl zl (foot_kind w d j e jl)

    foot_length : length (k.u d nm) ≡ suc (p.S + j)
    foot_length =
        let q : On p r off (with_pr g₀ alone) w k.u k.set.on d nm = foot_on w k d dl in
        ap length (sym q.items) ∙ zone_len_holds p r off (with_pr g₀ alone) w k.u k.set.on d (g₀.hd.zn nm d) dl (k.set.none d dl) q.low q.good
        ∙ ap (pointer_at w d) (sym (lies d dl)) ∙ e

    follow : Follows p g₀.hd w (foot_store w d j ∷ []) (m-put d nm (foot j) ∷ [])
    follow = follows-cons p g₀.hd w (foot_store w d j) [] (m-put d nm (foot j)) [] sound
        (store_put p g₀.hd w d nm o (footer_block p (spares_in p (zone_at w d (zone_on o d))) j) zero_spare (lies d dl) (foot_kind w d j e jl) ∙ (unfold kind_item foot_kind in refl))
        (follows_nil p g₀.hd (store_view_of (foot_store w d j) w))

    feet_tie₁ : Tie p r off g₀.un g₀.hd w₁ u₁
    feet_tie₁ = as_one (tie_after p r off g₀.un g₀.hd w k.u k.linked.tie (Used (par_of p r off) g₀.un k.u)
        (lies_used (par_of p r off) (with_pr g₀ alone) (items_in p w) k.u k.set.on.facts k.set.on.placed) (foot_store w d j ∷ []) (m-put d nm (foot j) ∷ []) follow
        ((unfold store_seg in (d, (dl, k.set.none d dl), has_head w k d dl)), tt))
      where
        as_one : Tie p r off g₀.un g₀.hd (store_all store_view_of (foot_store w d j ∷ []) w) (apply_all k.u (m-put d nm (foot j) ∷ [])) → Tie p r off g₀.un g₀.hd w₁ u₁
        as_one q = unfold store_all apply_all apply in q

    feet_linked₁ : Linked p r off w₁ u₁ (with_pr g₀ alone) a s stopped
    feet_linked₁ =
        linked_step p r off w w₁ k.u u₁ (with_pr g₀ alone) (with_pr g₀ alone) a a s s stopped stopped k.linked
        (restart_footer (state_on k.u (with_pr g₀ alone) a s stopped) d nm j k.set.none k.set.rest dl (omega (arith, foot_length)) (unfold capacity in omega (arith, foot_length, jl))
        (λ t l. k.stripes d t dl l)) feet_tie₁

    pub foot_step : Footing w₁
    foot_step = record {
      u = u₁;
      linked = feet_linked₁;
      set = record {
        on = linked_on p r off w₁ u₁ (with_pr g₀ alone) a s stopped feet_linked₁;
        none = k.set.none;
        no_pair = refl;
        rest = λ z i. Put·R_fwd k.u d nm (foot j) (omega (arith, foot_length)) (par_of p r off) (with_pr g₀ alone) g₀.un z
            (k.set.rest z (Put·Used_back k.u d nm (foot j) (omega (arith, foot_length)) (par_of p r off) (with_pr g₀ alone) z i));
      };
      stripes = λ e t l b. ((k.stripes e t l b).0, in_fwd k.u d nm (foot j) (chunk t (k.stripes e t l b).0) e nm (k.stripes e t l b).1);
    }

    -- what the store changes
    pub foot_pointer : pointer_at w₁ d (zone_on o d) ≡ suc (p.S + suc j)
    unfolding store_view_of pointer_at
    foot_pointer =
        ap (λ (q : Zone). q.pointer) (zone_set_at p w k.linked.tie.shape d (zone_on o d)
        (put_zone (footer_block p (spares_in p (zone_at w d (zone_on o d))) j) zero_spare (zone_at w d (zone_on o d))) dl zl)
        ∙ (unfold put_zone in (ap suc (pointer_is w d (zone_on o d) ∙ e) ∙ (let x : suc (suc (p.S + j)) ≡ suc (p.S + suc j) = omega arith in x)))

    pub foot_spares : spares_in p (zone_at w₁ d (zone_on o d)) ≡ spares_in p (zone_at w d (zone_on o d))
    unfolding store_view_of
    foot_spares =
        ap (spares_in p) (zone_set_at p w k.linked.tie.shape d (zone_on o d) (put_zone (footer_block p (spares_in p (zone_at w d (zone_on o d))) j) zero_spare (zone_at w d (zone_on o d))) dl zl)
        ∙ old_spares p r d (zone_at w d (zone_on o d)) (shape_zone p w k.linked.tie.shape d (zone_on o d) dl zl)
        (footer_block p (spares_in p (zone_at w d (zone_on o d))) j) zero_spare j (pointer_is w d (zone_on o d) ∙ e)

    pub foot_other : (x y : ℕ) → (x ≢ d) ⊎ (y ≢ zone_on o d) → zone_at w₁ x y ≡ zone_at w x y
    unfolding store_view_of
    foot_other x y n = zone_set_else p w k.linked.tie.shape d (zone_on o d) (put_zone (footer_block p (spares_in p (zone_at w d (zone_on o d))) j) zero_spare (zone_at w d (zone_on o d))) dl x y n

  other_of : (x y d : ℕ) → y ≢ zone_on o x → (x ≢ d) ⊎ (y ≢ zone_on o d)
  other_of x y d n = go (ℕ_discrete x d)
    where
      go : Dec (x ≡ d) → (x ≢ d) ⊎ (y ≢ zone_on o d)
      go (yes q) = inr (λ e. n (e ∙ ap (zone_on o) (sym q)))
      go (no q) = inl q

  -- ---- one drive, then all
  module _ (v : View) where
    abbrev feet_on_holds : ℕ → List Store
    feet_on_holds d = map (λ j. foot_store v d j) (up_from (footers_stored p (zone_at v d (zone_on o d))) (footers p - footers_stored p (zone_at v d (zone_on o d))))

    -- drives below d are done, the others as they were
    pub record Upto (d : ℕ) (w : View) : Type 0 where
      pub foot : Footing w
      pub done : (e : ℕ) → e < d → e < p.N → pointer_at w e (zone_on o e) ≡ capacity p
      pub left : (e : ℕ) → d ≤ e → zone_at w e (zone_on o e) ≡ zone_at v e (zone_on o e)
      pub other : (e y : ℕ) → y ≢ zone_on o e → zone_at w e y ≡ zone_at v e y

    -- within drive d
    pub record FootWithin (d j : ℕ) (w : View) : Type 0 where
      pub foot : Footing w
      pub at : pointer_at w d (zone_on o d) ≡ suc (p.S + j)
      pub spares : spares_in p (zone_at w d (zone_on o d)) ≡ spares_in p (zone_at v d (zone_on o d))
      pub done : (e : ℕ) → e < d → e < p.N → pointer_at w e (zone_on o e) ≡ capacity p
      pub left : (e : ℕ) → d < e → zone_at w e (zone_on o e) ≡ zone_at v e (zone_on o e)
      pub other : (e y : ℕ) → y ≢ zone_on o e → zone_at w e y ≡ zone_at v e y

    within_step : (d j : ℕ) (w : View) → d < p.N → j < footers p → FootWithin d j w → FootWithin d (suc j) (store_view_of (foot_store v d j) w)
    unfolding pointer_at
    within_step d j w dl jl k = subst (λ (ss : List (List ℕ)). FootWithin d (suc j) (store_view_of (put d (zone_on o d) (footer_block p ss j) zero_spare) w)) k.spares (record {
      foot = foot_step w d j k.foot dl k.at jl;
      at = foot_pointer w d j k.foot dl k.at jl;
      spares = foot_spares w d j k.foot dl k.at jl ∙ k.spares;
      done = λ e b l. ap (λ (q : Zone). q.pointer) (foot_other w d j k.foot dl k.at jl e (zone_on o e) (inl (omega arith))) ∙ k.done e b l;
      left = λ e b. foot_other w d j k.foot dl k.at jl e (zone_on o e) (inl (omega arith)) ∙ k.left e b;
      other = λ e y n. foot_other w d j k.foot dl k.at jl e y (other_of e y d n) ∙ k.other e y n;
    })

    stored_few : (q : Zone) → footers_stored p q ≤ footers p
    stored_few q = unfold footers_stored in omega arith

    drive_step : ((d : ℕ) → d < p.N → pointer_at v d (zone_on o d) ≡ suc (p.S + footers_stored p (zone_at v d (zone_on o d))))
        → (d : ℕ) (w : View) → d < p.N → Upto d w → Always (Footing) w (feet_on_holds d) × Upto (suc d) (store_all store_view_of (feet_on_holds d) w)
    drive_step starts d w dl k = (
      run_always (Footing) (FootWithin d) st (footers p) (λ j u i. i.foot) (λ j u l i. within_step d j u dl l i) (footers_stored p (zone_at v d (zone_on o d)))
          (footers p - footers_stored p (zone_at v d (zone_on o d))) fits w begin?,
      ended? (store_all store_view_of (feet_on_holds d) w) (run_end (Footing) (FootWithin d) st (footers p) (λ j u i. i.foot)
          (λ j u l i. within_step d j u dl l i) (footers_stored p (zone_at v d (zone_on o d))) (footers p - footers_stored p (zone_at v d (zone_on o d))) (footers p) fits
          (omega (arith, stored_few (zone_at v d (zone_on o d)))) w begin?),
    )
      where
        st : ℕ → Store
        st j = foot_store v d j

        fits : footers_stored p (zone_at v d (zone_on o d)) + (footers p - footers_stored p (zone_at v d (zone_on o d))) ≤ footers p
        fits = omega (arith, stored_few (zone_at v d (zone_on o d)))

        begin? : FootWithin d (footers_stored p (zone_at v d (zone_on o d))) w
        begin? = record {
          foot = k.foot;
          at = pointer_zone w v d (zone_on o d) (k.left d (omega arith)) ∙ starts d dl;
          spares = ap (spares_in p) (k.left d (omega arith));
          done = k.done;
          left = λ e b. k.left e (omega arith);
          other = k.other;
        }

        ended? : (u : View) → FootWithin d (footers p) u → Upto (suc d) u
        ended? u i = record { foot = i.foot; done = λ e b l. done e b l (ℕ_discrete e d); left = λ e b. i.left e b; other = i.other }
          where
            done : (e : ℕ) → e < suc d → e < p.N → Dec (e ≡ d) → pointer_at u e (zone_on o e) ≡ capacity p
            done e b l (yes q) = unfold capacity in (ap (λ (x : ℕ). pointer_at u x (zone_on o x)) q ∙ i.at ∙ (let x : suc (p.S + footers p) ≡ 1 + p.S + footers p = omega arith in x))
            done e b l (no q) = i.done e (omega arith) l

    within_sound : (d j : ℕ) (w : View) → d < p.N → j < footers p → FootWithin d j w → Sound p w (foot_store v d j)
    within_sound d j w dl jl k = subst (λ (ss : List (List ℕ)). Sound p w (put d (zone_on o d) (footer_block p ss j) zero_spare)) k.spares (sound w d j k.foot dl k.at jl)

    drive_sound : ((d : ℕ) → d < p.N → pointer_at v d (zone_on o d) ≡ suc (p.S + footers_stored p (zone_at v d (zone_on o d))))
        → (d : ℕ) (w : View) → d < p.N → Upto d w → AllSound p w (feet_on_holds d) × Upto (suc d) (store_all store_view_of (feet_on_holds d) w)
    drive_sound starts d w dl k = (
      run_sound p (FootWithin d) (λ j. foot_store v d j) (footers p) (λ j u l i. within_step d j u dl l i) (λ j u l i. within_sound d j u dl l i)
          (footers_stored p (zone_at v d (zone_on o d))) (footers p - footers_stored p (zone_at v d (zone_on o d))) (omega (arith, stored_few (zone_at v d (zone_on o d)))) w (record {
            foot = k.foot;
            at = pointer_zone w v d (zone_on o d) (k.left d (omega arith)) ∙ starts d dl;
            spares = ap (spares_in p) (k.left d (omega arith));
            done = k.done;
            left = λ e b. k.left e (omega arith);
            other = k.other;
          }),
      (drive_step starts d w dl k).1,
    )

    pub feet_sound : ((d : ℕ) → d < p.N → pointer_at v d (zone_on o d) ≡ suc (p.S + footers_stored p (zone_at v d (zone_on o d)))) → Footing v
        → AllSound p v (flat feet_on_holds (below p.N))
    unfolding below
    feet_sound starts k =
        runs_sound p Upto feet_on_holds p.N (drive_sound starts) 0 p.N (omega arith) v
        (record { foot = k; done = λ e b l. absurd (let q : ⊥ = omega arith in q); left = λ e b. refl; other = λ e y n. refl })

    pub feet_all : ((d : ℕ) → d < p.N → pointer_at v d (zone_on o d) ≡ suc (p.S + footers_stored p (zone_at v d (zone_on o d)))) → Footing v
        → Always (Footing) v (flat feet_on_holds (below p.N)) × Upto p.N (store_all store_view_of (flat feet_on_holds (below p.N)) v)
    unfolding below
    feet_all starts k = (
      runs_always (Footing) Upto feet_on_holds p.N (λ d w i. i.foot) (drive_step starts) 0 p.N (omega arith) v first,
      runs_end (Footing) Upto feet_on_holds p.N (λ d w i. i.foot) (drive_step starts) 0 p.N p.N (omega arith) (omega arith) v first,
    )
      where
        first : Upto 0 v
        first = record { foot = k; done = λ e b l. absurd (let q : ⊥ = omega arith in q); left = λ e b. refl; other = λ e y n. refl }

-- ---- a whole segment

module _ (p : Params) (r : Ranged p) (off : List ℕ) (g : Ghost) (v : View) (u : ItemView) (k : SettledOn p r off g v u) (o : Seg) (i : Has o (remaining p v 0))
    (w : is_whole p (segment_of p v 0 o) ≡ true) where
  abbrev G : Segment
  G = segment_of p v 0 o

  nm : ℕ
  nm = name_of p v 0 o

  ob : SegAt p v u 0 o (name_of p v 0 o)
  ob = remains_at_holds p r off g v u k.on 0 (none_choice p r off g v u k) o i

  all-count : (s : ℕ) → s < p.S → Has s (counted p 0 G)
  all-count s l = unfold counted in has_keep (counts p 0 G) s (below p.S) (has_below s p.S l) (keep_whole (counts p 0 G) (below p.S) full s (has_below s p.S l))
    where
      full : length (keep (counts p 0 G) (below p.S)) ≡ length (below p.S)
      full = long ∙ sym (length-below p.S)
        where
          long : length (keep (counts p 0 G) (below p.S)) ≡ p.S
          long = unfold is_whole counted in eqb-true (length (keep (counts p 0 G) (below p.S))) p.S w

  pub whole_stripes : (d t : ℕ) → d < p.N → t < p.S → (x : Val) × InI (chunk t x) (u d (name_of p v 0 o))
  whole_stripes d t l b =
      let st : Stripe (par_of p r off) u (is_in 0) (name_of p v 0 o) t (piece_at p r off g v u k.on 0 (none_choice p r off g v u k) o t) =
      counted_stripe p r off g v u k.on 0 (none_choice p r off g v u k) o t ob (all-count t b) in
      (piece_at p r off g v u k.on 0 (none_choice p r off g v u k) o t d, st.on d l (far_off p r off g v u k d l))

  -- its data blocks are all there
  pub whole_pointers : (d : ℕ) → d < p.N → pointer_at v d (zone_on o d) ≡ suc (p.S + footers_stored p (zone_at v d (zone_on o d)))
  whole_pointers d l =
      let n : is_in 0 d ≡ false = far_off p r off g v u k d l in
      let has : (t : ℕ) → t < p.S → has_chunk G t d ≡ true = λ t b. (counted_has p r off g v u k.on 0 (none_choice p r off g v u k) o t (all-count t b)).1 d l n in
      let at : (t : ℕ) → t < p.S → (offset_on G d t < data_stored p (zone_at v d (zone_on o d)))
      × ((record_of_of (block_in_of (zone_at v d (zone_on o d)) (suc (offset_on G d t))).spare).stripe ≡ t) =
      λ t b. offset_on_holds p r off g v u k.on 0 (none_choice p r off g v u k) o t d ob l n (has t b) in
      let q : p.S ≤ data_stored p (zone_at v d (zone_on o d)) = pigeon p.S (data_stored p (zone_at v d (zone_on o d))) (λ t. offset_on G d t) (λ t b. (at t b).0)
      (λ s t a b e. sym (at s a).1 ∙ ap (λ (x : ℕ). (record_of_of (block_in_of (zone_at v d (zone_on o d)) (suc x)).spare).stripe) e ∙ (at t b).1) in
      let low : (zone_at v d (zone_on o d)).pointer ≤ capacity p = (seg_bytes p r off g v u k.on 0 (none_choice p r off g v u k) o ob d l (far_off p r off g v u k d l)).low in
      sym (pointer_is v d (zone_on o d)) ∙ exact (zone_at v d (zone_on o d)) q low
    where
      exact : (z : Zone) → p.S ≤ data_stored p z → z.pointer ≤ capacity p → z.pointer ≡ suc (p.S + footers_stored p z)
      exact z q l = unfold data_stored footers_stored capacity in (go q l)
        where
          go : p.S ≤ min (z.pointer - 1) p.S → z.pointer ≤ 1 + p.S + footers p → z.pointer ≡ suc (p.S + min (z.pointer - 1 - p.S) (footers p))
          go q l = omega (arith, r.stripes_low)

  pub feet-are :
      missing_footers p G
      ≡ flat (λ d. map (λ j. put d (zone_on o d) (footer_block p (spares_in p (zone_at v d (zone_on o d))) j) zero_spare)
      (up_from (footers_stored p (zone_at v d (zone_on o d))) (footers p - footers_stored p (zone_at v d (zone_on o d))))) (below p.N)
  feet-are = unfold missing_footers drives_of footer_stores footers_of segment_of in
      same (below p.N) (λ d j. below_has d p.N j)
    where
      one : ℕ → Zone → List Store
      one d q = map (λ (b : List ℕ). put d (zone_on o d) b zero_spare) (map (footer_block p (spares_in p q)) (up_from (footers_stored p q) (footers p - footers_stored p q)))

      same : (l : List ℕ) → ((d : ℕ) → Has d l → d < p.N)
          → flat (λ d. one d (get_or (map (λ d. zone_at v d (zone_on o d)) (below p.N)) d no_zone)) l
          ≡ flat (λ d. map (λ j. put d (zone_on o d) (footer_block p (spares_in p (zone_at v d (zone_on o d))) j) zero_spare)
          (up_from (footers_stored p (zone_at v d (zone_on o d))) (footers p - footers_stored p (zone_at v d (zone_on o d))))) l
      same l h = flat_same (λ d. one d (get_or (map (λ d. zone_at v d (zone_on o d)) (below p.N)) d no_zone))
          (λ d. map (λ j. put d (zone_on o d) (footer_block p (spares_in p (zone_at v d (zone_on o d))) j) zero_spare)
          (up_from (footers_stored p (zone_at v d (zone_on o d))) (footers p - footers_stored p (zone_at v d (zone_on o d))))) l
          (λ d j. ap (one d) (get_d_map-below (λ d. zone_at v d (zone_on o d)) p.N d no_zone (h d j))
          ∙ map-map (λ (b : List ℕ). put d (zone_on o d) b zero_spare) (footer_block p (spares_in p (zone_at v d (zone_on o d))))
          (up_from (footers_stored p (zone_at v d (zone_on o d))) (footers p - footers_stored p (zone_at v d (zone_on o d)))))

-- ---- once all footers stand, every segment is full

module _ (p : Params) (r : Ranged p) (off : List ℕ) (g₀ : Ghost) (a : List Val) (s : Bool) (v v' : View) (u : ItemView) (k : SettledOn p r off (with_pr g₀ alone) v u) (o : Seg)
    (i : Has o (remaining p v 0)) (un : (segment_of p v 0 o).full ≡ false) (lies : (d : ℕ) → d < p.N → zone_on o d ≡ g₀.hd.zn (name_of p v 0 o) d)
    (q : Upto p r off g₀ a s o (name_of p v 0 o) lies v p.N v') where
  abbrev set : SettledOn p r off (with_pr g₀ alone) v' q.foot.u
  set = q.foot.set

  d0 : 0 < p.N
  d0 = omega (arith, r.drives_low)

  -- o remains
  stays : Has o (remaining p v' 0)
  stays = subst (λ (x : Seg). Has x (remaining p v' 0)) (sym (settled_used p r off (with_pr g₀ alone) v u k o i).1)
      (settled_remains p r off (with_pr g₀ alone) v' q.foot.u set (name_of p v 0 o) (0, (d0, set.none 0 d0), begun))
    where
      begun : 0 < length (q.foot.u 0 (name_of p v 0 o))
      begun = let x = q.foot.stripes 0 0 d0 r.stripes_low in item_some (chunk 0 x.0) (q.foot.u 0 (name_of p v 0 o)) x.1

  serial_kept : (d z : ℕ) → zone_at v' d z ≡ zone_at v d z → serial_in p v d z ≡ serial_in p v' d z
  unfolding serial_in chunk_at
  serial_kept d z e = ap (λ (x : Zone). header_serial p (get_or x.blocks 0 no_chunk).block) (sym e)

  all_full : (z : Seg) → Has z (remaining p v' 0) → (segment_of p v' 0 z).full ≡ false → ⊥
  all_full z j e = go (segs_differ z o)
    where
      c' : Choice (par_of p r off) g₀.un (is_in 0)
      c' = none_choice p r off (with_pr g₀ alone) v' q.foot.u set

      go : Dec (z ≡ o) → ⊥
      go (yes w) = clash sealed (sym (full_sealed p r off (with_pr g₀ alone) v' q.foot.u set o) ∙ ap (λ (x : Seg). (segment_of p v' 0 x).full) (sym w) ∙ e)
        where
          sealed : sealed_in p v' 0 o ≡ true
          sealed = unfold sealed_in in all_on_present p 0 (λ d. eqb (pointer_at v' d (zone_on o d)) (capacity p)) (λ d l n. eq-eqb (pointer_at v' d (zone_on o d)) (capacity p) (q.done d l l))
      go (no w) =
          let same : (d : ℕ) → d < p.N → zone_at v' d (zone_on z d) ≡ zone_at v d (zone_on z d) =
          λ d l. q.other d (zone_on z d) (λ x. w (one_there p r off (with_pr g₀ alone) v' q.foot.u set.on 0 c' z o j stays d l x)) in
          w (one_of p r off (with_pr g₀ alone) v u k z o (was same) i (ap (λ (x : Segment). x.full) (sym (segment_same p r v v' 0 z (zero_few p r) same)) ∙ e) un)
        where
          was : ((d : ℕ) → d < p.N → zone_at v' d (zone_on z d) ≡ zone_at v d (zone_on z d)) → Has z (remaining p v 0)
          was same =
              let n : ℕ = name_of p v' 0 z in
              let (h, x) = remaining_has p r off (with_pr g₀ alone) v' q.foot.u set.on 0 c' z j in
              let ez : zone_on z 0 ≡ g₀.hd.zn (name_of p v' 0 z) 0 = its_zones p r off (with_pr g₀ alone) v' q.foot.u set.on 0 c' z j 0 d0 in
              let y : On p r off (with_pr g₀ alone) v' q.foot.u set.on 0 (name_of p v' 0 z) =
              is_on p r off (with_pr g₀ alone) v' q.foot.u set.on 0 (name_of p v' 0 z) d0 (set.none 0 d0) (h.left 0 d0 (is_in_empty 0)) in
              let w : zone_at v' 0 (g₀.hd.zn (name_of p v' 0 z) 0) ≡ zone_at v 0 (g₀.hd.zn (name_of p v' 0 z) 0) = subst (λ (b : ℕ). zone_at v' 0 b ≡ zone_at v 0 b) ez (same 0 d0) in
              let gd : is_good p v.offline 0 (g₀.hd.zn (name_of p v' 0 z) 0) ≡ true =
              ap (λ (b : List ℕ). is_good p b 0 (g₀.hd.zn (name_of p v' 0 z) 0)) (k.on.offline ∙ sym set.on.offline) ∙ y.good in
              let pt : pointer_at v 0 (g₀.hd.zn (name_of p v' 0 z) 0)
              ≡ pointer_at v' 0 (g₀.hd.zn (name_of p v' 0 z) 0) = pointer_zone v v' 0 (g₀.hd.zn (name_of p v' 0 z) 0) (sym w) in
              let us : is_used p v 0 (g₀.hd.zn (name_of p v' 0 z) 0) ≡ true = segs_used_of p v 0 (g₀.hd.zn (name_of p v' 0 z) 0) gd (omega (arith, pt, y.begun)) in
              let (it, _) = borne_by p r off (with_pr g₀ alone) v u k.on 0 (g₀.hd.zn (name_of p v' 0 z) 0) d0 (k.none 0 d0) y.low us in
              let sr : serial_in p v 0 (g₀.hd.zn (name_of p v' 0 z) 0) ≡ name_of p v' 0 z = serial_kept 0 (g₀.hd.zn (name_of p v' 0 z) 0) w ∙ y.serial in
              subst (λ (b : Seg). Has b (remaining p v 0)) (sym x)
              (settled_remains p r off (with_pr g₀ alone) v u k (name_of p v' 0 z) (
                0,
                (d0, k.none 0 d0),
                subst (λ (b : List Item). 0 < length b) (it ∙ ap (u 0) sr)
                    (omega (arith, pt, y.begun, zone_len_holds p r off (with_pr g₀ alone) v u k.on 0 (g₀.hd.zn (name_of p v' 0 z) 0) d0 (k.none 0 d0) y.low gd)),
              ))

  pub feet_order : InOrder p v'
  feet_order z j e = absurd (all_full z j e)
