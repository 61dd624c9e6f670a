-- The rewrite: headers, counted stripes, resets, done or cut at each (01, Restart, 4). Assumes nothing.
use Rattle.std.specs.Prelude.{ℕ, ◌<◌, Result, Ok, false, List, [], ◌∷◌, ◌++◌, ◌≡◌, eqb}
use Rattle.spec.specs.Drives.{Store, Disk, pointer_of, zone_on, sealed_in, zero_spare, header_stores, reset_stores, zones_in}
use Rattle.spec.specs.Drives.Store.{put}
use Rattle.spec.specs.Layout.{header_block}
use Rattle.spec.specs.Params.{capacity}
use Rattle.spec.specs.Restart.{moved_stripes, rewrite_stores}
use Rattle.spec.specs.Segments.{Segment, segment_of, counted}
use Rattle.spec.specs.declared.Params.{Params}
use Rattle.recover_groups.specs.Groups.{recs_fault}
use Rattle.law_basic.specs.Geometry.{Ranged, capacity-low}
use Rattle.law_basic.specs.Segs.{ZonesLow}
use Rattle.recover_move.specs.Moves.{OtherZones, moved_misses, Moves, moves_start, moves_as, moves_turn, moves_cut, moves_first, moves_found, moves_sealed}
use Rattle.law_drives.specs.Puts.{hits-headers}
use Rattle.law_drives.specs.Segs.{seg_is}
use Rattle.law_drives.specs.Tests.{cond_false}
use Rattle.law_drives.specs.Zones.{hits}
use Rattle.law_views.specs.Views.{Whole, AllFit, seen}
use Rattle.disk_zones.specs.Made.{too_few, Storing}
use Rattle.disk_zones.specs.declared.TooFew.{TooFew}
use Rattle.std.proofs.Common.{append_assoc, sym, ap, ◌∙◌, subst, ne_eqb, arith}
use Rattle.std.proofs.Math.Path.{refl}
use Rattle.spec.specs.declared.Seg.{Seg}

module _ (p : Params) (r : Ranged p) (off : List ℕ) (n : ℕ) (sgm : Seg) (hz : ZonesLow p 0 sgm) (to : Seg) (ne : OtherZones p to sgm) (serial : ℕ) (k₀ : Disk) where
  abbrev x : Segment
  x = segment_of p (seen p off k₀) 0 sgm

  abbrev heads : List Store
  heads = header_stores p to serial (segment_of p (seen p off k₀) 0 sgm).serial

  abbrev movs : List Store
  movs = moved_stripes p (segment_of p (seen p off k₀) 0 sgm) to (counted p 0 (segment_of p (seen p off k₀) 0 sgm)) 0

  abbrev all! : List Store
  all! = rewrite_stores p (segment_of p (seen p off k₀) 0 sgm) to serial

  in_parts : all! ≡ heads ++ (movs ++ reset_stores p sgm)
  in_parts = as! ∙ append_assoc heads movs (reset_stores p x.seg) ∙ ap (λ (y : Seg). heads ++ (movs ++ reset_stores p y)) (seg_is p (seen p off k₀) 0 sgm)
    where
      as! : rewrite_stores p x to serial ≡ (heads ++ movs) ++ reset_stores p x.seg
      as! = unfold rewrite_stores in refl

  -- nothing is stored yet
  pub rewrite_start : Whole p k₀ → AllFit p (seen p off k₀) (rewrite_stores p (segment_of p (seen p off k₀) 0 sgm) to serial)
      → Moves p off n (rewrite_stores p (segment_of p (seen p off k₀) 0 sgm) to serial) k₀ sgm
      (header_stores p to serial (segment_of p (seen p off k₀) 0 sgm).serial ++
      (moved_stripes p (segment_of p (seen p off k₀) 0 sgm) to (counted p 0 (segment_of p (seen p off k₀) 0 sgm)) 0 ++ reset_stores p sgm)) n k₀
  rewrite_start w f = moves_as p off n all! k₀ sgm all! (heads ++ (movs ++ reset_stores p sgm)) n k₀ in_parts (moves_start p off n all! k₀ sgm w f)

  head_misses : (e : ℕ) → e < p.N → hits e (zone_on sgm e) heads ≡ []
  head_misses e he =
      hits-headers p e (zone_on sgm e) to serial x.serial he
      ∙ cond_false (eqb (zone_on to e) (zone_on sgm e)) (put e (zone_on to e) (header_block p e (zones_in p to) serial x.serial) zero_spare ∷ []) []
      (ne_eqb (zone_on to e) (zone_on sgm e) (ne e he))

  module _ (w : Whole p k₀) (f : AllFit p (seen p off k₀) (rewrite_stores p (segment_of p (seen p off k₀) 0 sgm) to serial)) (copied : ℕ)
      (ec : copied ≡ (segment_of p (seen p off k₀) 0 sgm).serial) where
    heads_first : (m₁ : Result ℕ TooFew) (k₁ : Disk) → Storing p n (header_stores p to serial copied) k₀ m₁ k₁ → Storing p n heads k₀ m₁ k₁
    heads_first m₁ k₁ = subst (λ (c : ℕ). Storing p n (header_stores p to serial c) k₀ m₁ k₁) ec

    -- cut at the headers
    pub rewrite_heads : (k₁ : Disk) → Storing p n (header_stores p to serial copied) k₀ too_few k₁
        → Storing p n (rewrite_stores p (segment_of p (seen p off k₀) 0 sgm) to serial) k₀ too_few k₁
    rewrite_heads k₁ s = moves_cut p off n all! k₀ sgm heads (movs ++ reset_stores p sgm) n k₀ k₁ (rewrite_start w f) (heads_first too_few k₁ s)

    module _ (l₁ : ℕ) (k₁ : Disk) (s₁ : Storing p n (header_stores p to serial copied) k₀ (Ok l₁) k₁) where
      rewrite_headed : Moves p off n all! k₀ sgm (movs ++ reset_stores p sgm) l₁ k₁
      rewrite_headed = moves_turn p r off n all! k₀ sgm hz heads (movs ++ reset_stores p sgm) n k₀ l₁ k₁ (rewrite_start w f) (heads_first (Ok l₁) k₁ s₁) head_misses

      found! : segment_of p (seen p off k₀) 0 sgm ≡ segment_of p (seen p off k₁) 0 sgm
      found! = moves_found p r off n all! k₀ sgm (movs ++ reset_stores p sgm) l₁ k₁ rewrite_headed

      -- what the moves ask for
      pub rewrite_whole : Whole p k₁
      rewrite_whole = rewrite_headed.going.whole

      pub rewrite_sealed : sealed_in p (seen p off k₀) 0 sgm ≡ false → sealed_in p (seen p off k₁) 0 sgm ≡ false
      rewrite_sealed q = sym (moves_sealed p r off n all! k₀ sgm (movs ++ reset_stores p sgm) l₁ k₁ rewrite_headed) ∙ q

      pub rewrite_good : recs_fault p 0 (segment_of p (seen p off k₀) 0 sgm) ≡ false → recs_fault p 0 (segment_of p (seen p off k₁) 0 sgm) ≡ false
      rewrite_good q = subst (λ (y : Segment). recs_fault p 0 y ≡ false) found! q

      pub rewrite_fits : AllFit p (seen p off k₁) (moved_stripes p (segment_of p (seen p off k₁) 0 sgm) to (counted p 0 (segment_of p (seen p off k₁) 0 sgm)) 0)
      rewrite_fits =
          subst (λ (y : Segment). AllFit p (seen p off k₁) (moved_stripes p y to (counted p 0 y) 0)) found!
          (moves_first p off n all! k₀ sgm movs (reset_stores p sgm) l₁ k₁ rewrite_headed)

      abbrev second : Result ℕ TooFew → Disk → Type 0
      second m₂ k₂ = Storing p l₁ (moved_stripes p (segment_of p (seen p off k₁) 0 sgm) to (counted p 0 (segment_of p (seen p off k₁) 0 sgm)) 0) k₁ m₂ k₂

      seconds : (m₂ : Result ℕ TooFew) (k₂ : Disk) → second m₂ k₂ → Storing p l₁ movs k₁ m₂ k₂
      seconds m₂ k₂ = subst (λ (y : Segment). Storing p l₁ (moved_stripes p y to (counted p 0 y) 0) k₁ m₂ k₂) (sym found!)

      -- cut at the moves
      pub rewrite_moves : (k₂ : Disk) → second too_few k₂ → Storing p n (rewrite_stores p (segment_of p (seen p off k₀) 0 sgm) to serial) k₀ too_few k₂
      rewrite_moves k₂ s = moves_cut p off n all! k₀ sgm movs (reset_stores p sgm) l₁ k₁ k₂ rewrite_headed (seconds too_few k₂ s)

      -- the resets, done or cut
      pub rewrite-resets :
          (l₂ : ℕ) (k₂ : Disk)
          → second (Ok l₂) k₂
          → (m₃ : Result ℕ TooFew) (k₃ : Disk)
          → Storing p l₂ (reset_stores p sgm) k₂ m₃ k₃
          → Storing p n (rewrite_stores p (segment_of p (seen p off k₀) 0 sgm) to serial) k₀ m₃ k₃
      rewrite-resets l₂ k₂ s₂ m₃ k₃ s =
          (moves_turn p r off n all! k₀ sgm hz movs (reset_stores p sgm) l₁ k₁ l₂ k₂ rewrite_headed (seconds (Ok l₂) k₂ s₂)
          (λ e he. moved_misses p x to (counted p 0 x) 0 e sgm he ne)).going.owes m₃ k₃ s

-- an empty zone has room for a header
pub new_head_room : (p : Params) → Ranged p → (ps : List ℕ) (to : Seg) (d : ℕ) → pointer_of p ps d (zone_on to d) ≡ 0 → pointer_of p ps d (zone_on to d) < capacity p
new_head_room p r ps to d e = omega (arith, e, capacity-low p r)
