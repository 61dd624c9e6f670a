-- The lost chunks of a group, and of all groups (01, Rebuild; Restart, 3). Assumes nothing.
use Rattle.std.specs.Prelude.{Result, Ok, ◌≡◌, List, [], ◌∷◌, ◌++◌, Bool, true, false, cond, ℕ, ◌+◌, ◌-◌, ◌%◌, ◌≤◌, ◌<◌, length}
use Rattle.std.proofs.Math.Path.{refl, ap}
use Rattle.std.proofs.Common.{sym, ◌∙◌, subst, arith}
use Rattle.std.proofs.Math.Nat.{zero-mod, add-mod_right}
use Rattle.spec.specs.declared.Params.{Params}
use Rattle.spec.specs.Drives.{View, pointer_at, view_of, Store, Disk, pointer_of, zone_on, sealed_in}
use Rattle.spec.specs.Drives.Store.{put}
use Rattle.spec.specs.Layout.{Rec, record_bytes}
use Rattle.spec.specs.Lists.{up_from, below, is_in}
use Rattle.spec.specs.Params.{capacity, pointers_len, present}
use Rattle.spec.specs.Parity.{Piece, decode_block, decode_rec}
use Rattle.spec.specs.Segments.{Segment, segment_of, recs_on, counts, stored_piece, piece_of, put_piece, stored_rec}
use Rattle.law_basic.specs.Geometry.{Ranged}
use Rattle.law_basic.specs.Ranges.{up_from_end, below-start, any_same}
use Rattle.law_basic.specs.Segs.{ZonesLow}
use Rattle.law_code.specs.Chunks.{chunk_decoded, rec_lost}
use Rattle.law_code.specs.Code.{decode_apart}
use Rattle.law_views.specs.Views.{Whole, pointer_view, AllFit, seen}
use Rattle.law_drives.specs.Frame.{Agree, same_sealed}
use Rattle.law_drives.specs.Segs.{Here, seg_is, piece_rec}
use Rattle.recover_reset.specs.Lost.{lost-start, lost_store, lost_stores, lost_none, lost-append, lost_hit, lost-step, lost_end, lost_apart, same_lost}
use Rattle.recover_drop.specs.Going.{going_first}
use Rattle.disk_zones.specs.declared.TooFew.{TooFew}
use Rattle.disk_zones.specs.Made.{too_few, Storing}
use Rattle.recover_groups.specs.declared.Group.{Group}
use Rattle.recover_groups.specs.Bases.{stripes_step}
use Rattle.recover_groups.specs.Groups.{group_len, recs_bad, recs_fault, Indexed, segment_in, GroupReads}
use Rattle.recover_reset.specs.Same.{same_recs_on, same_has, same_offset}
use Rattle.recover_decode.specs.Moving.{Lacks, OnDrive, Moving, moving_list, moving_start, moving_as, moving_cut, moving_turn, moving_done, drive_apart}
use Rattle.spec.specs.declared.Seg.{Seg}

pub lost_on : (p : Params) (gone d : ℕ) (g : Segment) (ss : List ℕ) → OnDrive d (lost_stores p gone d g ss)
lost_on p gone d g ss e y q = lost_apart p gone d g ss e y (drive_apart d e (zone_on g.seg d) y q)

-- the store of a decoded chunk
pub lost_store_is : (p : Params) (v : View) (gone : ℕ) (sgm : Seg) (d s : ℕ) (b : List ℕ) (q : Rec) → is_in gone d ≡ true
    → b ≡ decode_block p gone s d (λ e. (stored_piece (segment_of p v gone sgm) s e).block)
    → q ≡ decode_rec p gone s d (stored_rec (segment_of p v gone sgm) s)
    → put d (zone_on sgm d) b (record_bytes q) ≡ lost_store p gone d (segment_of p v gone sgm) s
unfolding lost_store put_piece
lost_store_is p v gone sgm d s b q lost eb eq =
    let sg = segment_of p v gone sgm in
    let f : b ≡ (piece_of p gone sg s d).block = eb ∙ sym (ap (λ (x : Piece). x.block) (chunk_decoded p gone sg s d lost ∙ decode_apart p gone s d (stored_piece sg s))) in
    let h : q ≡ (piece_of p gone sg s d).rec = eq ∙ sym (piece_rec p gone sg s d ∙ rec_lost p gone sg s d lost) in
    λ j. put d (zone_on (sym (seg_is p v gone sgm) j) d) (f j) (record_bytes (h j))

-- room for one
pub lost_room : (p : Params) (off : List ℕ) (gone d : ℕ) (k : Disk) (sgm : Seg) (s : ℕ) → Whole p k → d < p.N → zone_on sgm d < p.Z
    → counts p gone (segment_of p (seen p off k) gone sgm) s ≡ true
    → AllFit p (seen p off k) (lost_stores p gone d (segment_of p (seen p off k) gone sgm) (s ∷ [])) → pointer_of p k.pointers d (zone_on sgm d) < capacity p
lost_room p off gone d k sgm s w hd hz c f =
    let v = seen p off k in
    let sg = segment_of p v gone sgm in
    let a : AllFit p v (put d (zone_on sg.seg d) (piece_of p gone sg s d).block (record_bytes (piece_of p gone sg s d).rec) ∷ []) =
    subst (λ (l : List Store). AllFit p v l) (lost_hit p gone d sg s c ∙ ap (λ (x : Store). x ∷ []) as!) f in
    subst (λ (x : ℕ). x < capacity p) (pointer_view p off k d (zone_on sgm d) hd hz w)
    (subst (λ (x : Seg). pointer_at v d (zone_on x d) < capacity p) (seg_is p v gone sgm) a.0.2)
  where
    as! : lost_store p gone d (segment_of p (seen p off k) gone sgm) s
        ≡ put d (zone_on (segment_of p (seen p off k) gone sgm).seg d) (piece_of p gone (segment_of p (seen p off k) gone sgm) s d).block
        (record_bytes (piece_of p gone (segment_of p (seen p off k) gone sgm) s d).rec)
    as! = unfold lost_store put_piece in refl

-- ---- what was read of a group stays while the present drives stay

module _ (p : Params) (gone : ℕ) (v u : View) (here : Here p gone) (ag : Agree p gone v u) (li : v.offline ≡ u.offline) (g : Seg) (hg : ZonesLow p gone g) where
  pub same_recs_fault : recs_fault p gone (segment_of p v gone g) ≡ recs_fault p gone (segment_of p u gone g)
  unfolding recs_fault
  same_recs_fault = any_same (λ d. recs_bad p d 0 (recs_on (segment_of p v gone g) d)) (λ d. recs_bad p d 0 (recs_on (segment_of p u gone g) d)) (present p gone)
      (λ d. ap (recs_bad p d 0) (same_recs_on p gone v u here ag li g hg d))

  same_indexed : (base : ℕ) (at : List ℕ) → Indexed p (segment_of p v gone g) base at → Indexed p (segment_of p u gone g) base at
  same_indexed base at i = record {
    entry = λ d k hd hk. i.entry d k hd hk ∙ (λ j. cond (same_has p gone v u here ag li g hg (base + k) d j) (same_offset p gone v u here ag li g hg d (base + k) j - base + 1) 0);
    within = λ d k hd hk t.
        subst (λ (x : ℕ). (base ≤ x) × (x < base + group_len p base)) (same_offset p gone v u here ag li g hg d (base + k))
        (i.within d k hd hk (same_has p gone v u here ag li g hg (base + k) d ∙ t));
  }

  pub group_reads_same : (off im ps im' ps' : List ℕ) (w : Group) (at : List ℕ) → v ≡ view_of p off im ps → u ≡ view_of p off im' ps' → w.gone ≡ gone → w.seg ≡ g
      → length ps' ≡ pointers_len p
      → GroupReads p off im ps w at → GroupReads p off im' ps' w at
  group_reads_same off im ps im' ps' w at ev eu ew es l r = record {
    long = l;
    full_right =
        r.full_right ∙ (λ j. sealed_in p (sym ev j) (ew j) (es j)) ∙ same_sealed p gone v u here ag li g hg ∙ (λ j. sealed_in p (eu j) (sym ew j) (sym es j));
    indexed =
        subst (λ (s : Segment). Indexed p s w.base at) (λ j. segment_of p (eu j) (sym ew j) (sym es j))
        (same_indexed w.base at (subst (λ (s : Segment). Indexed p s w.base at) (λ j. segment_of p (sym ev j) (ew j) (es j)) r.indexed));
  }

-- ---- the loop over a group's stripes

module _ (p : Params) (off : List ℕ) (w : Group) (d n : ℕ) (k₀ : Disk) where
  abbrev pub group_found : Segment
  group_found = segment_in p off k₀.image k₀.pointers w

  -- the stores of the group
  abbrev pub group_stores : List Store
  group_stores = lost_stores p w.gone d group_found (up_from w.base (group_len p w.base))

  -- those of stripes k, k + 1, .. of the group are left
  pub record Stripes (k left : ℕ) (x : Disk) : Type 0 where
    pub upto : k ≤ group_len p w.base
    pub moving : Moving p off w.gone n group_stores k₀ (lost_stores p w.gone d group_found (up_from (w.base + k) (group_len p w.base - k))) left x

  pub stripes_start : Whole p k₀ → AllFit p (seen p off k₀) group_stores → Stripes 0 n k₀
  stripes_start wh f = record {
    upto = omega arith;
    moving = moving_as p off w.gone n group_stores k₀ group_stores (lost_stores p w.gone d group_found (up_from (w.base + 0) (group_len p w.base - 0))) n k₀
        (lost-start p w.gone d group_found w.base (group_len p w.base)) (moving_start p off w.gone n group_stores k₀ wh f);
  }

  pub stripes_done : (k left : ℕ) (x : Disk) → Stripes k left x → group_len p w.base ≤ k → Storing p n group_stores k₀ (Ok left) x
  stripes_done k left x s h = moving_done p off w.gone n group_stores k₀ left x
      (moving_as p off w.gone n group_stores k₀ (lost_stores p w.gone d group_found (up_from (w.base + k) (group_len p w.base - k))) [] left x
      (lost_end p w.gone d group_found w.base k (group_len p w.base) h) s.moving)

module _ (p : Params) (r : Ranged p) (off : List ℕ) (w : Group) (d n : ℕ) (k₀ : Disk) (la : Lacks p w.gone d) (hz : ZonesLow p w.gone w.seg) (k left : ℕ) (x : Disk)
    (s : Stripes p off w d n k₀ k left x) (h : k < group_len p w.base) where
  abbrev now! : Segment
  now! = segment_in p off x.image x.pointers w

  abbrev len : ℕ
  len = group_len p w.base

  stripe_step : Moving p off w.gone n (group_stores p off w d n k₀) k₀
      (lost_stores p w.gone d (group_found p off w d n k₀) ((w.base + k) ∷ []) ++ lost_stores p w.gone d (group_found p off w d n k₀) (up_from (w.base + (k + 1)) (len - (k + 1)))) left x
  stripe_step = moving_as p off w.gone n (group_stores p off w d n k₀) k₀ (lost_stores p w.gone d (group_found p off w d n k₀) (up_from (w.base + k) (len - k)))
      (lost_stores p w.gone d (group_found p off w d n k₀) ((w.base + k) ∷ []) ++ lost_stores p w.gone d (group_found p off w d n k₀) (up_from (w.base + (k + 1)) (len - (k + 1)))) left x
      (lost-step p w.gone d (group_found p off w d n k₀) w.base k len h) s.moving

  lost_stripe_same : lost_stores p w.gone d now! ((w.base + k) ∷ []) ≡ lost_stores p w.gone d (group_found p off w d n k₀) ((w.base + k) ∷ [])
  lost_stripe_same = sym (same_lost p w.gone (seen p off k₀) (seen p off x) la.here s.moving.agree (moving_list p off k₀ x) w.seg hz d la.lost ((w.base + k) ∷ []))

  pub stripes_fit : AllFit p (seen p off x) (lost_stores p w.gone d now! ((w.base + k) ∷ []))
  stripes_fit =
      subst (λ (l : List Store). AllFit p (seen p off x) l) (sym lost_stripe_same)
      (going_first p off n (group_stores p off w d n k₀) k₀ (lost_stores p w.gone d (group_found p off w d n k₀) ((w.base + k) ∷ []))
      (lost_stores p w.gone d (group_found p off w d n k₀) (up_from (w.base + (k + 1)) (len - (k + 1)))) left x stripe_step.going)

  pub stripes_read : (at : List ℕ) → GroupReads p off k₀.image k₀.pointers w at → GroupReads p off x.image x.pointers w at
  stripes_read at rd =
      group_reads_same p w.gone (seen p off k₀) (seen p off x) la.here s.moving.agree (moving_list p off k₀ x) w.seg hz off k₀.image k₀.pointers x.image
      x.pointers w at refl refl refl refl
      s.moving.going.whole.pointers_long rd

  stripe_stored : (m : Result ℕ TooFew) (x' : Disk) → Storing p left (lost_stores p w.gone d now! ((w.base + k) ∷ [])) x m x'
      → Storing p left (lost_stores p w.gone d (group_found p off w d n k₀) ((w.base + k) ∷ [])) x m x'
  stripe_stored m x' t = subst (λ (l : List Store). Storing p left l x m x') lost_stripe_same t

  pub stripes_cut : (x' : Disk) → Storing p left (lost_stores p w.gone d now! ((w.base + k) ∷ [])) x too_few x' → Storing p n (group_stores p off w d n k₀) k₀ too_few x'
  stripes_cut x' t = moving_cut p off w.gone n (group_stores p off w d n k₀) k₀ (lost_stores p w.gone d (group_found p off w d n k₀) ((w.base + k) ∷ []))
      (lost_stores p w.gone d (group_found p off w d n k₀) (up_from (w.base + (k + 1)) (len - (k + 1)))) left x stripe_step x' (stripe_stored too_few x' t)

  pub stripes_turn : (y : ℕ) (x' : Disk) → Storing p left (lost_stores p w.gone d now! ((w.base + k) ∷ [])) x (Ok y) x' → Stripes p off w d n k₀ (k + 1) y x'
  stripes_turn y x' t = record {
    upto = omega arith;
    moving = moving_turn p off w.gone n (group_stores p off w d n k₀) k₀ (lost_stores p w.gone d (group_found p off w d n k₀) ((w.base + k) ∷ []))
        (lost_stores p w.gone d (group_found p off w d n k₀) (up_from (w.base + (k + 1)) (len - (k + 1)))) left x stripe_step y x' (stripe_stored (Ok y) x' t) r d la.lost
        (lost_on p w.gone d (group_found p off w d n k₀) ((w.base + k) ∷ []));
  }

-- ---- the loop over the groups

module _ (p : Params) (off : List ℕ) (gone : ℕ) (sgm : Seg) (d n : ℕ) (k₀ : Disk) where
  abbrev pub seg_now : Disk → Segment
  seg_now x = segment_of p (seen p off x) gone sgm

  -- the stores of the segment's chunks
  abbrev pub all_stores : List Store
  all_stores = lost_stores p gone d (seg_now k₀) (below p.S)

  -- those of the groups from stripe base on are left
  pub record Groups (base left : ℕ) (x : Disk) : Type 0 where
    pub first : base % p.G ≡ 0
    pub moving : Moving p off gone n all_stores k₀ (lost_stores p gone d (seg_now k₀) (up_from base (p.S - base))) left x

  pub groups_start : Ranged p → Whole p k₀ → AllFit p (seen p off k₀) all_stores → Groups 0 n k₀
  groups_start r wh f = record {
    first = zero-mod p.G;
    moving = moving_as p off gone n all_stores k₀ all_stores (lost_stores p gone d (seg_now k₀) (up_from 0 (p.S - 0))) n k₀ (ap (lost_stores p gone d (seg_now k₀)) (below-start p.S))
        (moving_start p off gone n all_stores k₀ wh f);
  }

  pub groups_done : (base left : ℕ) (x : Disk) → Groups base left x → p.S ≤ base → Storing p n all_stores k₀ (Ok left) x
  groups_done base left x s h = moving_done p off gone n all_stores k₀ left x
      (moving_as p off gone n all_stores k₀ (lost_stores p gone d (seg_now k₀) (up_from base (p.S - base))) [] left x
      (ap (lost_stores p gone d (seg_now k₀)) (up_from_end base p.S h) ∙ lost_none p gone d (seg_now k₀)) s.moving)

module _ (p : Params) (r : Ranged p) (off : List ℕ) (gone : ℕ) (sgm : Seg) (d n : ℕ) (k₀ : Disk) (la : Lacks p gone d) (hz : ZonesLow p gone sgm) (base left : ℕ) (x : Disk)
    (s : Groups p off gone sgm d n k₀ base left x) (h : base < p.S) where
  abbrev ours : Segment
  ours = seg_now p off gone sgm d n k₀ k₀

  abbrev theirs : Segment
  theirs = seg_now p off gone sgm d n k₀ x

  abbrev part! : Segment → List Store
  part! sg = lost_stores p gone d sg (up_from base (group_len p base))

  abbrev rest! : List Store
  rest! = lost_stores p gone d ours (up_from (base + p.G) (p.S - (base + p.G)))

  step! : Moving p off gone n (all_stores p off gone sgm d n k₀) k₀ (part! ours ++ rest!) left x
  step! = moving_as p off gone n (all_stores p off gone sgm d n k₀) k₀ (lost_stores p gone d ours (up_from base (p.S - base))) (part! ours ++ rest!) left x
      (ap (lost_stores p gone d ours) (stripes_step p base h) ∙ lost-append p gone d ours (up_from base (group_len p base)) (up_from (base + p.G) (p.S - (base + p.G)))) s.moving

  same! : part! theirs ≡ part! ours
  same! = sym (same_lost p gone (seen p off k₀) (seen p off x) la.here s.moving.agree (moving_list p off k₀ x) sgm hz d la.lost (up_from base (group_len p base)))

  pub groups_fit : AllFit p (seen p off x) (part! theirs)
  groups_fit = subst (λ (l : List Store). AllFit p (seen p off x) l) (sym same!) (going_first p off n (all_stores p off gone sgm d n k₀) k₀ (part! ours) rest! left x step!.going)

  pub groups_full : (f : Bool) → f ≡ sealed_in p (seen p off k₀) gone sgm → f ≡ sealed_in p (seen p off x) gone sgm
  groups_full f e = e ∙ same_sealed p gone (seen p off k₀) (seen p off x) la.here s.moving.agree (moving_list p off k₀ x) sgm hz

  pub groups_sound : recs_fault p gone ours ≡ false → recs_fault p gone theirs ≡ false
  groups_sound e = sym (same_recs_fault p gone (seen p off k₀) (seen p off x) la.here s.moving.agree (moving_list p off k₀ x) sgm hz) ∙ e

  this! : (m : Result ℕ TooFew) (x' : Disk) → Storing p left (part! theirs) x m x' → Storing p left (part! ours) x m x'
  this! m x' t = subst (λ (l : List Store). Storing p left l x m x') same! t

  pub groups_cut : (x' : Disk) → Storing p left (part! theirs) x too_few x' → Storing p n (all_stores p off gone sgm d n k₀) k₀ too_few x'
  groups_cut x' t = moving_cut p off gone n (all_stores p off gone sgm d n k₀) k₀ (part! ours) rest! left x step! x' (this! too_few x' t)

  pub groups_turn : (y : ℕ) (x' : Disk) → Storing p left (part! theirs) x (Ok y) x' → Groups p off gone sgm d n k₀ (base + p.G) y x'
  groups_turn y x' t = record {
    first = add-mod_right base p.G ∙ s.first;
    moving = moving_turn p off gone n (all_stores p off gone sgm d n k₀) k₀ (part! ours) rest! left x step! y x' (this! (Ok y) x' t) r d la.lost
        (lost_on p gone d ours (up_from base (group_len p base)));
  }
