-- One zone rebuilt: header, chunks, footers, under a store count (01, Rebuild). Assumes nothing.
use Rattle.std.specs.Prelude.{Result, Ok, ◌≡◌, Bool, true, false, ℕ, suc, ◌+◌, ◌≤◌, ◌<◌}
use Rattle.std.proofs.Math.Path.{refl, sym, ap}
use Rattle.std.proofs.Common.{◌∙◌, subst, arith}
use mathlib.Core.List.{List, [], ◌∷◌, ◌++◌, map}
use Rattle.spec.specs.declared.Params.{Params}
use Rattle.spec.specs.Drives.{zone_at, Store, Disk, pointer_of, store_disk, store_all, zone_on, sealed_in, zero_spare, footer_stores, zones_in}
use Rattle.spec.specs.Drives.Store.{put}
use Rattle.spec.specs.Faults.{stripe_fault, stored_bad}
use Rattle.spec.specs.Layout.{header_block, header_serial, header_copied, footer_block}
use Rattle.spec.specs.Lists.{below, any}
use Rattle.spec.specs.Params.{in_range, footers, capacity, named, present}
use Rattle.spec.specs.Rebuild.{rebuilt_zone}
use Rattle.spec.specs.Segments.{low_drive, header_at, Segment, segment_of, recs_on, counted}
use Rattle.law_basic.specs.Geometry.{Ranged}
use Rattle.law_basic.specs.Segs.{ZonesLow}
use Rattle.law_views.specs.Pointers.{pointer_set}
use Rattle.law_views.specs.Views.{Whole, AllFit, seen}
use Rattle.law_drives.specs.Frame.{same_sealed}
use Rattle.law_drives.specs.Accept.{named_here}
use Rattle.law_drives.specs.Masks.{named_in}
use Rattle.law_drives.specs.Range.{capacity_over}
use Rattle.law_drives.specs.Segs.{seg_is, serial_is, copied_is, full_is}
use Rattle.law_drives.specs.Tests.{or_first, cond_false}
use Rattle.recover_drop.specs.Going.{going_first}
use Rattle.disk_zones.specs.declared.TooFew.{TooFew}
use Rattle.disk_zones.specs.Made.{too_few, Storing, storing_all, put_pointers}
use Rattle.recover_groups.specs.Chunks.{counted_full}
use Rattle.recover_groups.specs.Faulty.{recs_fault_is}
use Rattle.recover_groups.specs.Groups.{recs_fault}
use Rattle.recover_reset.specs.Lost.{lost_stores}
use Rattle.recover_reset.specs.Rebuilt.{head_store, lost_spares, lost_feet, lost_rest, rebuilt_parts, head_apart, same_rest, feet_room, lost_feet_are}
use Rattle.recover_decode.specs.Group.{lost_on, same_recs_fault}
use Rattle.recover_decode.specs.Moving.{OnDrive, Moving, moving_list, moving_start, moving_as, moving_cut, moving_turn, moving_done, drive_apart}
use Rattle.spec.specs.declared.Seg.{Seg}

module _ (p : Params) (r : Ranged p) (off : List ℕ) (d : ℕ) (g : Seg) (n : ℕ) (hd : d < p.N) (hg : ZonesLow p (named d) g) (hz : zone_on g d < p.Z) (k₀ : Disk) (w : Whole p k₀) where
  abbrev sg : Segment
  sg = segment_of p (seen p off k₀) (named d) g

  abbrev chunks : List Store
  chunks = lost_stores p (named d) d sg (below p.S)

  rest_is : lost_rest p d sg ≡ chunks ++ lost_feet p d sg
  rest_is = unfold lost_rest in refl

  on_chunks : OnDrive d chunks
  on_chunks = lost_on p (named d) d sg (below p.S)

  -- ---- behind the header

  module _ (fits : AllFit p (seen p off k₀) (lost_rest p d sg)) where
    rest_begun : Moving p off (named d) n (lost_rest p d sg) k₀ (chunks ++ lost_feet p d sg) n k₀
    rest_begun = moving_as p off (named d) n (lost_rest p d sg) k₀ (lost_rest p d sg) (chunks ++ lost_feet p d sg) n k₀ rest_is (moving_start p off (named d) n (lost_rest p d sg) k₀ w fits)

    pub chunks_fit : AllFit p (seen p off k₀) chunks
    chunks_fit = going_first p off n (lost_rest p d sg) k₀ chunks (lost_feet p d sg) n k₀ rest_begun.going

    pub chunks_cut : (k : Disk) → Storing p n chunks k₀ too_few k → Storing p n (lost_rest p d sg) k₀ too_few k
    chunks_cut k s = moving_cut p off (named d) n (lost_rest p d sg) k₀ chunks (lost_feet p d sg) n k₀ rest_begun k s

    module _ (l : ℕ) (k : Disk) (s : Storing p n chunks k₀ (Ok l) k) where
      chunks_stored : Moving p off (named d) n (lost_rest p d sg) k₀ (lost_feet p d sg) l k
      chunks_stored = moving_turn p off (named d) n (lost_rest p d sg) k₀ chunks (lost_feet p d sg) n k₀ rest_begun l k s r d (named_in p r d hd) on_chunks

      -- the survivors' zones are not full: no footers
      pub chunks_only : sealed_in p (seen p off k₀) (named d) g ≡ false → Storing p n (lost_rest p d sg) k₀ (Ok l) k
      chunks_only f =
          moving_done p off (named d) n (lost_rest p d sg) k₀ l k (moving_as p off (named d) n (lost_rest p d sg) k₀ (lost_feet p d sg) [] l k no_feet chunks_stored)
        where
          no_feet : lost_feet p d sg ≡ []
          no_feet = unfold lost_feet in
              cond_false sg.full (map (λ i. put d (zone_on sg.seg d) (footer_block p (lost_spares p d sg) i) zero_spare) (below (footers p))) [] (full_is p (seen p off k₀) (named d) g ∙ f)

      module _ (f : sealed_in p (seen p off k₀) (named d) g ≡ true) (good : recs_fault p (named d) sg ≡ false) (ok : in_range p ≡ true)
          (one : pointer_of p k₀.pointers d (zone_on g d) ≡ 1) where
        counted-below : counted p (named d) sg ≡ below p.S
        counted-below = counted_full p (seen p off k₀) (named d) g ok f
            (or_first (stripe_fault p (named d) sg) (any (λ e. any (stored_bad p e) (recs_on sg e)) (present p (named d))) (sym (recs_fault_is p (named d) sg) ∙ good))

        made_all : k ≡ store_all (store_disk p) chunks k₀
        made_all = storing_all p n chunks k₀ l k s

        pub whole_now : Whole p k
        whole_now = chunks_stored.going.whole

        pub room_now : pointer_of p k.pointers d (zone_on g d) + footers p ≤ capacity p
        room_now = feet_room p r off d g hd hz sg (seg_is p (seen p off k₀) (named d) g) k₀ k w chunks_fit made_all one counted-below

        -- the footers too
        pub feet_made : (m' : Result ℕ TooFew) (k' : Disk) → Storing p l (footer_stores p d (zone_on g d) (zone_at (seen p off k) d (zone_on g d)) 0 (footers p)) k m' k'
            → Storing p n (lost_rest p d sg) k₀ m' k'
        feet_made m' k' t =
            let e : footer_stores p d (zone_on g d) (zone_at (seen p off k) d (zone_on g d)) 0 (footers p) ≡ lost_feet p d sg = as! in
            chunks_stored.going.owes m' k' (subst (λ (x : List Store). Storing p l x k m' k') e t)
          where
            as! : footer_stores p d (zone_on g d) (zone_at (seen p off k) d (zone_on g d)) 0 (footers p) ≡ lost_feet p d sg
            as! = lost_feet_are p r off d g hd hz sg (seg_is p (seen p off k₀) (named d) g) k₀ k w chunks_fit made_all one counted-below (full_is p (seen p off k₀) (named d) g ∙ f)

  -- ---- with the header

  module _ (fits : AllFit p (seen p off k₀) (rebuilt_zone p d sg)) (zero! : pointer_of p k₀.pointers d (zone_on g d) ≡ 0) where
    whole_list : Moving p off (named d) n (rebuilt_zone p d sg) k₀ ((head_store p d sg ∷ []) ++ lost_rest p d sg) n k₀
    whole_list =
        moving_as p off (named d) n (rebuilt_zone p d sg) k₀ (rebuilt_zone p d sg) ((head_store p d sg ∷ []) ++ lost_rest p d sg) n k₀ (rebuilt_parts p d sg)
        (moving_start p off (named d) n (rebuilt_zone p d sg) k₀ w fits)

    head_on : OnDrive d (head_store p d sg ∷ [])
    head_on e y q = head_apart p d sg e y (drive_apart d e (zone_on sg.seg d) y q)

    pub head_room : pointer_of p k₀.pointers d (zone_on g d) < capacity p
    head_room = omega (arith, zero!, capacity_over p r)

    pub head_store_is : (serial copied : ℕ) → serial ≡ header_serial p (header_at (seen p off k₀) (low_drive p (named d)) g)
        → copied ≡ header_copied p (header_at (seen p off k₀) (low_drive p (named d)) g)
        → put d (zone_on g d) (header_block p d (zones_in p g) serial copied) zero_spare ≡ head_store p d sg
    unfolding head_store
    head_store_is serial copied a b =
        λ j. put d (zone_on (sym (seg_is p (seen p off k₀) (named d) g) j) d)
        (header_block p d (zones_in p (sym (seg_is p (seen p off k₀) (named d) g) j)) ((a ∙ sym (serial_is p (seen p off k₀) (named d) g)) j)
        ((b ∙ sym (copied_is p (seen p off k₀) (named d) g)) j)) zero_spare

    pub head_cut : (k : Disk) → Storing p n (head_store p d sg ∷ []) k₀ too_few k → Storing p n (rebuilt_zone p d sg) k₀ too_few k
    head_cut k s = moving_cut p off (named d) n (rebuilt_zone p d sg) k₀ (head_store p d sg ∷ []) (lost_rest p d sg) n k₀ whole_list k s

    module _ (l : ℕ) (k : Disk) (s : Storing p n (head_store p d sg ∷ []) k₀ (Ok l) k) where
      zone_headed : Moving p off (named d) n (rebuilt_zone p d sg) k₀ (lost_rest p d sg) l k
      zone_headed = moving_turn p off (named d) n (rebuilt_zone p d sg) k₀ (head_store p d sg ∷ []) (lost_rest p d sg) n k₀ whole_list l k s r d (named_in p r d hd) head_on

      pub head_whole : Whole p k
      head_whole = zone_headed.going.whole

      abbrev sg' : Segment
      sg' = segment_of p (seen p off k) (named d) g

      pub same_now : lost_rest p d sg ≡ lost_rest p d sg'
      same_now = same_rest p d (seen p off k₀) (seen p off k) (named_here p r d hd) (named_in p r d hd) zone_headed.agree (moving_list p off k₀ k) g hg

      pub head_fits : AllFit p (seen p off k) (lost_rest p d sg')
      head_fits = subst (λ (x : List Store). AllFit p (seen p off k) x) same_now zone_headed.going.fits

      pub head_good : recs_fault p (named d) sg ≡ false → recs_fault p (named d) sg' ≡ false
      head_good e = sym (same_recs_fault p (named d) (seen p off k₀) (seen p off k) (named_here p r d hd) zone_headed.agree (moving_list p off k₀ k) g hg) ∙ e

      pub head_sealed : (f : Bool) → f ≡ sealed_in p (seen p off k₀) (named d) g → f ≡ sealed_in p (seen p off k) (named d) g
      head_sealed f e = e ∙ same_sealed p (named d) (seen p off k₀) (seen p off k) (named_here p r d hd) zone_headed.agree (moving_list p off k₀ k) g hg

      -- the pointer stands behind the header
      pub head_one : pointer_of p k.pointers d (zone_on g d) ≡ 1
      head_one =
          let z : ℕ = zone_on g d in
          ap (λ (x : Disk). pointer_of p x.pointers d z) (storing_all p n (head_store p d sg ∷ []) k₀ l k s ∙ as!)
          ∙ ap (λ (x : List ℕ). pointer_of p x d z) (put_pointers p d z (header_block p d (zones_in p g) sg.serial sg.copied) zero_spare k₀)
          ∙ pointer_set p k₀.pointers d z (suc (pointer_of p k₀.pointers d z)) hd hz w.pointers_long (omega (arith, zero!)) ∙ ap suc zero!
        where
          as! : store_all (store_disk p) (head_store p d sg ∷ []) k₀ ≡ store_disk p (put d (zone_on g d) (header_block p d (zones_in p g) sg.serial sg.copied) zero_spare) k₀
          as! = unfold store_all head_store in
              ap (λ (x : Seg). store_disk p (put d (zone_on x d) (header_block p d (zones_in p x) sg.serial sg.copied) zero_spare) k₀) (seg_is p (seen p off k₀) (named d) g)

      pub rest_made : (m' : Result ℕ TooFew) (k' : Disk) → Storing p l (lost_rest p d sg') k m' k' → Storing p n (rebuilt_zone p d sg) k₀ m' k'
      rest_made m' k' t = zone_headed.going.owes m' k' (subst (λ (x : List Store). Storing p l x k m' k') (sym same_now) t)
