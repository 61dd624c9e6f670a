-- A healthy restart's stores: resets, then missing footers or the rewrite (01, Restart, 4). Assumes nothing.
use Rattle.std.specs.Prelude.{Option, Some, None, Result, Ok, ℕ, suc, ◌+◌, ◌*◌, ◌≤◌, ◌<◌, eqb, get_or, Bool, true, false, not, ◌&&◌}
use Rattle.std.specs.Prelude.{List, [], ◌∷◌, ◌++◌, map, ◌≡◌, refl}
use Rattle.spec.specs.Bytes.{part}
use Rattle.spec.specs.Counts.{last_count}
use Rattle.spec.specs.Drives.{View, pointer_at, Store, store_view_of, Disk, pointer_of, store_all, zone_on, sealed_in, seg}
use Rattle.spec.specs.Lists.{below, any, keep, flat, first_or}
use Rattle.spec.specs.Params.{capacity}
use Rattle.spec.specs.Restart.{is_whole, is_ragged, missing_footers, rewrite_stores, drop_stores, mend_stores, restart_stores, rewrites, free_seg, none_free_of}
use Rattle.spec.specs.Segments.{left_by1, Segment, segment_of, segments, greatest_serial, unsealed}
use Rattle.spec.specs.declared.Params.{Params}
use Rattle.spec.specs.declared.Seg.{Seg}
use Rattle.recover_drop.specs.AnyList.{fits_alike, segment_alike}
use Rattle.recover_drop.specs.Going.{owes_cut, owes_done, Going, going_start, going_as, going_turn, going_first}
use Rattle.recover_groups.specs.Faulty.{no_recs_fault}
use Rattle.recover_groups.specs.Groups.{recs_fault}
use Rattle.recover_move.specs.Moves.{OtherZones}
use Rattle.recover_segments.specs.Kept.{kept_row, unsealed_at, unsealed-list}
use Rattle.disk_gather.specs.Flags.{Serials, Keeps, FlagsRows}
use Rattle.disk_gather.specs.Found.{remains_leads, kept_serial}
use Rattle.disk_gather.specs.Ranges.{opt_first, opt_first_none, opt_first_in}
use Rattle.std.specs.Option.{unwrap_or, is_none}
use Rattle.std.proofs.lemmas.Option.{none-some}
use Rattle.law_basic.specs.Geometry.{Ranged}
use Rattle.law_basic.specs.Mask.{is_in_empty}
use Rattle.law_basic.specs.Ranges.{and_left, flat_none, flat-cons, nil_is}
use Rattle.law_basic.specs.Segs.{ZonesLow, low_here}
use Rattle.law_restart.specs.Frames.{seen-after}
use Rattle.law_restart.specs.Settled.{healthy_stores, settled}
use Rattle.law_drives.specs.Accept.{Accepted, pointer_ok, zone_good, faults_apart}
use Rattle.law_drives.specs.Dropping.{drop_same, drop_there}
use Rattle.law_drives.specs.Headers.{Vacant, vacant_other}
use Rattle.law_drives.specs.Members.{In, in_map, keep_in, below_in, in_any}
use Rattle.law_drives.specs.Mended.{MendedOpen}
use Rattle.law_drives.specs.Rewriting.{free_vacant}
use Rattle.law_drives.specs.Segs.{remaining-low, seg_is, serial_is}
use Rattle.law_drives.specs.Settled.{SameZones, zero_here, zones_sealed, zones_pointer, zones_segment}
use Rattle.law_drives.specs.Tables.{seg_at, remains_at}
use Rattle.law_drives.specs.Unsealed.{Loose, loose, whole_pointer}
use Rattle.law_drives.specs.Unsealed.Loose.{loose_none, loose-one}
use Rattle.law_drives.specs.Zones.{Shaped}
use Rattle.law_views.specs.Alike.{seen_alike, sealed_alike}
use Rattle.law_views.specs.Views.{Whole, pointer_view, AllFit, seen}
use Rattle.disk_zones.specs.Made.{too_few, Storing, storing_all}
use Rattle.disk_zones.specs.declared.TooFew.{TooFew}
use Rattle.std.proofs.lemmas.Bool.{eqb-false}
use Rattle.std.proofs.Common.{append-nil, inl, sym, ap, ◌∙◌, subst}

-- where no check of a restart that names no drive holds
pub record RefitReady (p : Params) (v : View) : Type 0 where
  pub shaped : Shaped p v
  pub accepted : Accepted p v 0
  pub sixth : rewrites p 0 (segments p v 0) && eqb (greatest_serial (segments p v 0)) last_count ≡ false
  pub eighth : rewrites p 0 (segments p v 0) && none_free_of p v (segments p v 0) ≡ false

-- what is said of the unsealed segment: all its stripes count; it is rewritten
abbrev pub MendMarks : Params → List Segment → Bool → Bool → Type 0
MendMarks p gs whole ragged = (g : Segment) → unsealed gs ≡ g ∷ [] → (whole ≡ is_whole p g) × (ragged ≡ is_ragged p g)

-- ---- the unsealed segment, found by its zone on drive 0

first_made : (f : ℕ → Segment) (ks : List ℕ) (z : ℕ) (y : Segment) → opt_first ks ≡ Some z → map f ks ≡ y ∷ [] → f z ≡ y
unfolding first_or
first_made f [] z y e q = absurd (none-some z e)
first_made f (a ∷ l) z y e q = ap f (sym (ap (λ (o : Option ℕ). unwrap_or o 0) e)) ∙ ap (first_or y) q

module _ (p : Params) (r : Ranged p) (v : View) (rows : List ℕ) (kept : List Bool) (rs : FlagsRows p v 0 rows) (ks : Keeps p v 0 kept) where
  abbrev at : ℕ → Segment
  at y = segment_of p v 0 (seg_at p v 0 y)

  -- none is
  pub none_open : opt_first (keep (unsealed_at p v 0) (below p.Z)) ≡ None → unsealed (segments p v 0) ≡ []
  none_open e = unsealed-list p v 0
      ∙ ap (map at) (nil_is (keep (unsealed_at p v 0) (below p.Z)) (sym (opt_first_none (keep (unsealed_at p v 0) (below p.Z))) ∙ ap is_none e))

  module _ (z : ℕ) (e : opt_first (keep (unsealed_at p v 0) (below p.Z)) ≡ Some z) where
    refit_found : In z (keep (unsealed_at p v 0) (below p.Z))
    refit_found = opt_first_in (keep (unsealed_at p v 0) (below p.Z)) z e

    h : z < p.Z
    h = below_in p.Z z (keep_in (unsealed_at p v 0) (below p.Z) z refit_found).0

    it_remains : remains_at p v 0 z ≡ true
    it_remains = as! (keep_in (unsealed_at p v 0) (below p.Z) z refit_found).1
      where
        as! : unsealed_at p v 0 z ≡ true → remains_at p v 0 z ≡ true
        as! q = unfold unsealed_at in and_left (remains_at p v 0 z) (not (sealed_in p v 0 (seg_at p v 0 z))) q

    refit_row_is : seg (part (8 * z) 8 rows) ≡ seg_at p v 0 z
    refit_row_is = kept_row p v 0 rows kept rs ks z h it_remains

    -- its serial
    pub row_serial : (ns : List ℕ) → Serials p v 0 ns → get_or ns z 0 ≡ (segment_of p v 0 (seg (part (8 * z) 8 rows))).serial
    row_serial ns s =
        kept_serial p v 0 (zero_here p r) ns z s h (remains_leads p v 0 z it_remains) ∙ sym (serial_is p v 0 (seg_at p v 0 z))
        ∙ ap (λ (g : Seg). (segment_of p v 0 g).serial) (sym refit_row_is)

    -- it is the only one
    pub row_open : Shaped p v → Accepted p v 0 → MendedOpen p v (seg (part (8 * z) 8 rows))
    row_open sh acc = go (loose p r v sh acc)
      where
        go : Loose p v → MendedOpen p v (seg (part (8 * z) 8 rows))
        go (loose_none f o) = absurd (subst (λ (l : List Segment). In (at z) l) (sym (unsealed-list p v 0) ∙ f) (in_map at (keep (unsealed_at p v 0) (below p.Z)) z refit_found))
        go (loose-one g kg ng us oth) =
            let q : at z ≡ segment_of p v 0 g = first_made at (keep (unsealed_at p v 0) (below p.Z)) z (segment_of p v 0 g) e (sym (unsealed-list p v 0) ∙ us) in
            subst (MendedOpen p v) (sym (refit_row_is ∙ sym (seg_is p v 0 (seg_at p v 0 z)) ∙ ap (λ (s : Segment). s.seg) q ∙ seg_is p v 0 g))
            (record { open_remains = kg; open_unsealed = ng; open_others = oth; open_is = us })

-- ---- the stores

module _ (p : Params) (r : Ranged p) (off : List ℕ) (n : ℕ) (k₀ : Disk) (w : Whole p k₀) (sn : RefitReady p (seen p off k₀)) where
  abbrev v : View
  v = seen p off k₀

  abbrev gs : List Segment
  gs = segments p (seen p off k₀) 0

  abbrev ss : List Store
  ss = restart_stores p (seen p off k₀) 0 (segments p (seen p off k₀) 0)

  abbrev drops : List Store
  drops = drop_stores p (seen p off k₀) (segments p (seen p off k₀) 0)

  abbrev mends : List Store
  mends = flat (mend_stores p (seen p off k₀) (segments p (seen p off k₀) 0)) (unsealed (segments p (seen p off k₀) 0))

  sh : Shaped p v
  sh = sn.shaped

  acc : Accepted p v 0
  acc = sn.accepted

  refit_start : Going p off n ss k₀ (drops ++ mends) n k₀
  refit_start = going_as p off n ss k₀ ss (drops ++ mends) n k₀ (healthy_stores p v gs) (going_start p off n ss k₀ w (settled p r v sh acc sn.sixth sn.eighth).fits)

  -- ---- the resets

  pub refit_cut : (k₁ : Disk) → Storing p n (drop_stores p (seen p off k₀) (segments p (seen p off k₀) 0)) k₀ too_few k₁
      → Storing p n (restart_stores p (seen p off k₀) 0 (segments p (seen p off k₀) 0)) k₀ too_few k₁
  refit_cut k₁ s = owes_cut p n ss k₀ drops mends n k₀ k₁ refit_start.owes s

  module _ (l₁ : ℕ) (k₁ : Disk) (s₁ : Storing p n (drop_stores p (seen p off k₀) (segments p (seen p off k₀) 0)) k₀ (Ok l₁) k₁) where
    reset! : Going p off n ss k₀ mends l₁ k₁
    reset! = going_turn p r off n ss k₀ drops mends n k₀ l₁ k₁ refit_start s₁

    pub refit_whole : Whole p k₁
    refit_whole = reset!.whole

    -- the view behind them
    seen_dropped : seen p off k₁ ≡ store_all store_view_of drops v
    seen_dropped = seen-after p r off k₀ k₁ drops w (going_first p off n ss k₀ drops mends n k₀ refit_start) (storing_all p n drops k₀ l₁ k₁ s₁)

    -- nothing is stored behind them
    as_made : mends ≡ [] → Storing p n ss k₀ (Ok l₁) k₁
    as_made e = owes_done p n ss k₀ l₁ k₁ (going_as p off n ss k₀ mends [] l₁ k₁ e reset!).owes

    pub refit_none : unsealed (segments p (seen p off k₀) 0) ≡ [] → Storing p n (restart_stores p (seen p off k₀) 0 (segments p (seen p off k₀) 0)) k₀ (Ok l₁) k₁
    refit_none e = as_made (ap (flat (mend_stores p v gs)) e ∙ flat_none (mend_stores p v gs))

    -- ---- the unsealed segment

    module _ (sg : Seg) (o : MendedOpen p (seen p off k₀) sg) where
      abbrev x : Segment
      x = segment_of p (seen p off k₀) 0 sg

      pub unsealed-low : ZonesLow p 0 sg
      unsealed-low = remaining-low p v 0 (zero_here p r) sg o.open_remains

      stays : SameZones p v (seen p off k₁) sg
      stays = subst (λ (u : View). SameZones p v u sg) (sym seen_dropped) (drop_same p r v sh acc sg o.open_remains)

      -- it is as it was, whatever the list is
      dropped_same : (list : List ℕ) → segment_of p (seen p off k₀) 0 sg ≡ segment_of p (seen p list k₁) 0 sg
      dropped_same list = zones_segment p r v (seen p off k₁) sg stays ∙ segment_alike p (seen p off k₁) (seen p list k₁) 0 sg (seen_alike p off list k₁)

      one! : mends ≡ mend_stores p v gs x
      one! =
          ap (flat (mend_stores p v gs)) o.open_is ∙ flat-cons (mend_stores p v gs) x [] ∙ ap (λ (l : List Store). mend_stores p v gs x ++ l) (flat_none (mend_stores p v gs))
          ∙ append-nil (mend_stores p v gs x)

      -- ---- nothing to mend

      pub refit_plain : is_whole p (segment_of p (seen p off k₀) 0 sg) ≡ false → is_ragged p (segment_of p (seen p off k₀) 0 sg) ≡ false
          → Storing p n (restart_stores p (seen p off k₀) 0 (segments p (seen p off k₀) 0)) k₀ (Ok l₁) k₁
      refit_plain q z = as_made (one! ∙ plain!)
        where
          plain! : mend_stores p v gs x ≡ []
          plain! = unfold mend_stores in rw (q, z)

      -- ---- missing footers

      module _ (wh : is_whole p (segment_of p (seen p off k₀) 0 sg) ≡ true) where
        whole! : mend_stores p v gs x ≡ missing_footers p x
        whole! = unfold mend_stores in rw wh

        feet_due : Going p off n ss k₀ (missing_footers p x) l₁ k₁
        feet_due = going_as p off n ss k₀ mends (missing_footers p x) l₁ k₁ (one! ∙ whole!) reset!

        pub feet_fit : (list : List ℕ) → AllFit p (seen p list k₁) (missing_footers p (segment_of p (seen p list k₁) 0 sg))
        feet_fit list = subst (λ (y : Segment). AllFit p (seen p list k₁) (missing_footers p y)) (dropped_same list)
            (fits_alike p (missing_footers p x) (seen p off k₁) (seen p list k₁) (seen_alike p off list k₁) feet_due.fits)

        pub feet_pointers : (d : ℕ) → d < p.N → (1 + p.S ≤ pointer_of p k₁.pointers d (zone_on sg d)) × (pointer_of p k₁.pointers d (zone_on sg d) ≤ capacity p)
        feet_pointers d hd =
            let low : zone_on sg d < p.Z = low_here p sg d unsealed-low hd in
            let e : pointer_at v d (zone_on sg d) ≡ pointer_of p k₁.pointers d (zone_on sg d) =
            zones_pointer p r v (seen p off k₁) sg stays d hd ∙ pointer_view p off k₁ d (zone_on sg d) hd low refit_whole in (
              subst (λ (y : ℕ). 1 + p.S ≤ y) e (whole_pointer p r v sh acc sg o.open_remains o.open_unsealed wh d hd),
              subst (λ (y : ℕ). y ≤ capacity p) e (pointer_ok p v 0 acc d (zone_on sg d) hd low (is_in_empty d) (zone_good p v 0 acc (zero_here p r) sg d o.open_remains hd)),
            )

        pub refit_feet : (m : Result ℕ TooFew) (k' : Disk) → Storing p l₁ (missing_footers p (segment_of p (seen p off k₁) 0 sg)) k₁ m k'
            → Storing p n (restart_stores p (seen p off k₀) 0 (segments p (seen p off k₀) 0)) k₀ m k'
        refit_feet m k' s = feet_due.owes m k' (subst (λ (y : Segment). Storing p l₁ (missing_footers p y) k₁ m k') (sym (dropped_same off)) s)

      -- ---- the rewrite

      module _ (nw : is_whole p (segment_of p (seen p off k₀) 0 sg) ≡ false) (rg : is_ragged p (segment_of p (seen p off k₀) 0 sg) ≡ true) where
        due! : rewrites p 0 gs ≡ true
        due! = as! (ap (any (is_ragged p)) o.open_is ∙ in_any (is_ragged p) (x ∷ []) x (inl refl) rg)
          where
            as! : any (is_ragged p) (unsealed gs) ≡ true → rewrites p 0 gs ≡ true
            as! q = unfold rewrites in q

        pub serial_left : greatest_serial (segments p (seen p off k₀) 0) ≡ last_count → ⊥
        serial_left = eqb-false (greatest_serial gs) last_count (sym (ap (λ (b : Bool). b && eqb (greatest_serial gs) last_count) due!) ∙ sn.sixth)

        -- each drive has a free zone, empty by now
        vacant! : Vacant p (seen p off k₁) (free_seg p v gs)
        vacant! = subst (λ (u : View). Vacant p u (free_seg p v gs)) (sym seen_dropped)
            (free_vacant p r v sh acc (sym (ap (λ (b : Bool). b && none_free_of p v gs) due!) ∙ sn.eighth))

        module _ (to : Seg) (et : to ≡ free_seg p (seen p off k₀) (segments p (seen p off k₀) 0)) where
          to_vacant : Vacant p (seen p off k₁) to
          to_vacant = subst (Vacant p (seen p off k₁)) (sym et) vacant!

          pub to_apart : OtherZones p to sg
          to_apart e he q =
              vacant_other p r (seen p off k₁) to sg e to_vacant
              (subst (λ (u : View). In sg (left_by1 p u 0)) (sym seen_dropped) (drop_there p r v sh acc sg o.open_remains)) he (sym q)

          pub to_empty : (d : ℕ) → d < p.N → pointer_of p k₁.pointers d (zone_on to d) ≡ 0
          to_empty d hd = sym (pointer_view p off k₁ d (zone_on to d) hd (to_vacant.vacant_low d hd) refit_whole) ∙ to_vacant.vacant_empty d hd

          pub still_open : (list : List ℕ) → sealed_in p (seen p list k₁) 0 sg ≡ false
          still_open list = sym (sealed_alike (seen p off k₁) (seen p list k₁) (seen_alike p off list k₁) p 0 sg) ∙ sym (zones_sealed p r v (seen p off k₁) sg stays) ∙ o.open_unsealed

          pub still_good : (list : List ℕ) → recs_fault p 0 (segment_of p (seen p list k₁) 0 sg) ≡ false
          still_good list = subst (λ (y : Segment). recs_fault p 0 y ≡ false) (dropped_same list)
              (let ok = faults_apart p v 0 acc sg o.open_remains in no_recs_fault p 0 x ok.no_stripe_fault ok.no_address_fault)

          pub old_serial : (c : ℕ) → c ≡ (segment_of p (seen p off k₀) 0 sg).serial → (list : List ℕ) → c ≡ (segment_of p (seen p list k₁) 0 sg).serial
          old_serial c e list = e ∙ ap (λ (y : Segment). y.serial) (dropped_same list)

          module _ (serial : ℕ) (es : serial ≡ suc (greatest_serial (segments p (seen p off k₀) 0))) where
            ragged! : mend_stores p v gs x ≡ rewrite_stores p x to serial
            ragged! = as! ∙ (λ j. rewrite_stores p x (sym et j) (sym es j))
              where
                as! : mend_stores p v gs x ≡ rewrite_stores p x (free_seg p v gs) (suc (greatest_serial gs))
                as! = unfold mend_stores in rw (nw, rg)

            moves : Going p off n ss k₀ (rewrite_stores p x to serial) l₁ k₁
            moves = going_as p off n ss k₀ mends (rewrite_stores p x to serial) l₁ k₁ (one! ∙ ragged!) reset!

            pub moves_fit : (list : List ℕ) → AllFit p (seen p list k₁) (rewrite_stores p (segment_of p (seen p list k₁) 0 sg) to serial)
            moves_fit list = subst (λ (y : Segment). AllFit p (seen p list k₁) (rewrite_stores p y to serial)) (dropped_same list)
                (fits_alike p (rewrite_stores p x to serial) (seen p off k₁) (seen p list k₁) (seen_alike p off list k₁) moves.fits)

            pub refit-rewrite :
                (m : Result ℕ TooFew) (k' : Disk)
                → Storing p l₁ (rewrite_stores p (segment_of p (seen p off k₁) 0 sg) to serial) k₁ m k'
                → Storing p n (restart_stores p (seen p off k₀) 0 (segments p (seen p off k₀) 0)) k₀ m k'
            refit-rewrite m k' s = moves.owes m k' (subst (λ (y : Segment). Storing p l₁ (rewrite_stores p y to serial) k₁ m k') (sym (dropped_same off)) s)
