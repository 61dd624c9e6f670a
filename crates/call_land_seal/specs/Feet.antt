-- Footers of a segment, drive by drive: the zones of the other drives stay as they came (01, Landing; What a zone holds). Assumes nothing.
use Rattle.std.specs.Prelude.{Result, Ok, ◌≡◌, refl, take, drop, set}
use Rattle.std.proofs.Common.{sym, ◌∙◌, get_or-set_other}
use Rattle.std.proofs.Math.Path.{ap, subst}
use mathlib.Core.List.{List, [], ◌∷◌, ◌++◌, map}
use Prim.Native.Nat.{ℕ, suc, ◌+◌, ◌-◌, ◌^◌, ◌≤◌, ◌<◌}
use native.Mathlib.Omega.{arith}
use Rattle.std.proofs.Math.ListN.{length, get_or, length-map}
use Rattle.spec.specs.declared.Params.{Params}
use Rattle.spec.specs.Drives.{Chunk, no_chunk, Zone, no_zone, View, zone_at, pointer_at, chunk_at, Store, put_zone, set_zone, store_view_of, Disk, pointer_of, store_disk}
use Rattle.spec.specs.Drives.{store_all, zone_on, spares_of, footers_of, zero_spare, footer_stores}
use Rattle.spec.specs.Drives.Store.{put}
use Rattle.spec.specs.Landing.{seal_stores}
use Rattle.spec.specs.Layout.{footer_block}
use Rattle.spec.specs.Lists.{up_from, below, flat}
use Rattle.spec.specs.Params.{spare_len, footers, capacity, unit_len, place_of, place_byte, drives_of}
use Rattle.law_basic.specs.Fields.{length-zero_spare}
use Rattle.law_basic.specs.Geometry.{Ranged, capacity_high, block_within}
use Rattle.law_basic.specs.Ranges.{length_up_from, up_from_add, below_none, flat_append, flat_none, flat-below-snoc}
use Rattle.law_basic.specs.Splice.{length_part}
use Rattle.law_basic.specs.Xor.{AllLong, long_up_from}
use Rattle.law_basic.specs.Segs.{ZonesLow, low_here}
use Rattle.law_views.specs.Pointers.{pointer_set}
use Rattle.law_views.specs.Views.{Whole, pointer_view, blocks_long, spare_view, view_put, whole_put, seen}
use Rattle.disk_zones.specs.declared.TooFew.{TooFew}
use Rattle.disk_zones.specs.Made.{too_few, Storing, storing_all, storing_stop, storing_join, storing_none, put_pointers}
use Rattle.law_drives.specs.Laid.{Long, in_take, in_drop, length_footer}
use Rattle.law_drives.specs.Members.{map_in, get_d_in}
use Rattle.spec.specs.declared.Seg.{Seg}

-- ---- blocks in a row into one zone

module _ (p : Params) (off : List ℕ) (c : capacity p < 256 ^ 4) (d z : ℕ) (hd : d < p.N) (hz : z < p.Z) where
  -- a put leaves the other drives' zones
  other_drive : (v : View) (q : Zone) (e y : ℕ) → (e ≡ d → ⊥) → zone_at (set_zone v d z q) e y ≡ zone_at v e y
  unfolding zone_at set_zone
  other_drive v q e y n = ap (λ (x : List Zone). get_or x y no_zone) (get_or-set_other v.zones d e (set (get_or v.zones d []) z q) [] n)

  abbrev puts : List (List ℕ) → List Store
  puts bs = map (λ (b : List ℕ). put d z b zero_spare) bs

  pub puts_leave : (bs : List (List ℕ)) (k : Disk) → Whole p k → AllLong p.B bs → pointer_of p k.pointers d z + length bs ≤ capacity p
      → Whole p (store_all (store_disk p) (puts bs) k)
      × ((e y : ℕ) → (e ≡ d → ⊥) → zone_at (seen p off (store_all (store_disk p) (puts bs) k)) e y ≡ zone_at (seen p off k) e y)
  unfolding store_all store_view_of
  puts_leave [] k w l h = (w, λ e y n. refl)
  puts_leave (b ∷ bs) k w (lb, l) h =
      let s = put d z b zero_spare in
      let k₁ : Disk = store_disk p s k in
      let n = pointer_of p k.pointers d z in
      let lz : length zero_spare ≡ spare_len = length-zero_spare in
      let hn : pointer_at (seen p off k) d z < capacity p = omega (arith, pointer_view p off k d z hd hz w) in
      let w₁ : Whole p k₁ = whole_put p off k d z hd hz w b zero_spare hn lb lz in
      let v₁ : seen p off k₁ ≡ set_zone (seen p off k) d z (put_zone b zero_spare (zone_at (seen p off k) d z)) = view_put p off k d z hd hz w b zero_spare hn c lb lz in
      let m : pointer_of p k₁.pointers d z ≡ suc n =
      ap (λ (x : List ℕ). pointer_of p x d z) (put_pointers p d z b zero_spare k) ∙ pointer_set p k.pointers d z (suc n) hd hz w.pointers_long (omega arith) in
      let r = puts_leave bs k₁ w₁ l (omega (arith, m)) in
      (r.0, λ e y x. r.1 e y x ∙ ap (λ (v : View). zone_at v e y) v₁ ∙ other_drive (seen p off k) (put_zone b zero_spare (zone_at (seen p off k) d z)) e y x)

-- ---- footer blocks have their length

module _ (p : Params) (off : List ℕ) (r : Ranged p) (k : Disk) (w : Whole p k) (d z : ℕ) (hd : d < p.N) (hz : z < p.Z) where
  view_spare_long : (b : ℕ) → b < capacity p → length (get_or (zone_at (seen p off k) d z).blocks b no_chunk).spare ≡ spare_len
  unfolding chunk_at unit_len
  view_spare_long b hb =
      let a = place_byte p (place_of p d z b) in
      ap length (spare_view p off k d z hd hz w b hb) ∙ length_part (a + p.B) spare_len k.image (omega (arith, block_within p d z b hd hz hb, w.image_long))

  view_spares_long : Long spare_len (spares_of (take p.S (drop 1 (zone_at (seen p off k) d z).blocks)))
  unfolding spares_of
  view_spares_long s m =
      let bs = (zone_at (seen p off k) d z).blocks in
      let (c, i, e) = map_in (λ (c : Chunk). c.spare) (take p.S (drop 1 bs)) s m in
      let (b, h, f) = get_d_in bs no_chunk c (in_drop 1 bs c (in_take p.S (drop 1 bs) c i)) in
      ap length (e ∙ ap (λ (x : Chunk). x.spare) f) ∙ view_spare_long b (subst (λ (x : ℕ). b < x) (blocks_long p off k d z hd hz w) h)

  -- the footers' stores of a zone as it is leave the drives whole, and the other drives' zones
  pub footers_leave : (q : Zone) (n : ℕ) → q ≡ zone_at (seen p off k) d z → pointer_of p k.pointers d z + n ≤ capacity p
      → Whole p (store_all (store_disk p) (footer_stores p d z q 0 n) k)
      × ((e y : ℕ) → (e ≡ d → ⊥) → zone_at (seen p off (store_all (store_disk p) (footer_stores p d z q 0 n) k)) e y ≡ zone_at (seen p off k) e y)
  unfolding footer_stores footers_of
  footers_leave q n e h =
      let ss : List (List ℕ) = spares_of (take p.S (drop 1 (zone_at (seen p off k) d z).blocks)) in
      let c : capacity p < 256 ^ 4 = omega (arith, capacity_high p r) in
      let l : length (map (footer_block p ss) (up_from 0 n)) ≡ n = length-map (up_from 0 n) (footer_block p ss) ∙ length_up_from 0 n in
      subst (λ (x : Zone). Whole p (store_all (store_disk p) (footer_stores p d z x 0 n) k)
      × ((e y : ℕ) → (e ≡ d → ⊥) → zone_at (seen p off (store_all (store_disk p) (footer_stores p d z x 0 n) k)) e y ≡ zone_at (seen p off k) e y)) (sym e)
      (puts_leave p off c d z hd hz (map (footer_block p ss) (up_from 0 n)) k w (long_up_from p.B (footer_block p ss) 0 n (λ j _ _. length_footer p r ss j view_spares_long)) (omega (arith, l)))

-- ---- drive by drive

module _ (p : Params) (off : List ℕ) (k₀ : Disk) (g : Seg) (number : ℕ) where
  -- the stores of drive d
  abbrev pub feet : ℕ → List Store
  feet d = footer_stores p d (zone_on g d) (zone_at (seen p off k₀) d (zone_on g d)) 0 (footers p)

  -- those of the drives below d are made, the other drives' zones are as they came
  pub record Sealing (d left : ℕ) (k : Disk) : Type 0 where
    pub within : d ≤ p.N
    pub made : Storing p number (flat feet (below d)) k₀ (Ok left) k
    pub whole : Whole p k
    pub rest : (e : ℕ) → d ≤ e → e < p.N → zone_at (seen p off k) e (zone_on g e) ≡ zone_at (seen p off k₀) e (zone_on g e)

  pub sealing_start : Whole p k₀ → Sealing 0 number k₀
  sealing_start w = record {
    within = omega arith;
    made = subst (λ (x : List Store). Storing p number x k₀ (Ok number) k₀) (sym (ap (flat feet) below_none ∙ flat_none feet)) (storing_none p number k₀);
    whole = w;
    rest = λ e _ _. refl;
  }

  pub sealing_done : (d left : ℕ) (k : Disk) → Sealing d left k → p.N ≤ d → Storing p number (seal_stores p (seen p off k₀) g) k₀ (Ok left) k
  unfolding seal_stores drives_of
  sealing_done d left k s h =
      let e : d ≡ p.N = omega (arith, s.within) in
      subst (λ (x : ℕ). Storing p number (flat feet (below x)) k₀ (Ok left) k) e s.made

module _ (p : Params) (off : List ℕ) (k₀ : Disk) (g : Seg) (number d left : ℕ) (k : Disk) (s : Sealing p off k₀ g number d left k) (hd : d < p.N) (hg : ZonesLow p 0 g) where
  -- a pointer that waits is as it came
  pub sealing_room : Whole p k₀ → pointer_of p k₀.pointers d (zone_on g d) + footers p ≤ capacity p → pointer_of p k.pointers d (zone_on g d) + footers p ≤ capacity p
  unfolding pointer_at
  sealing_room w₀ room =
      let hz = low_here p g d hg hd in
      let a = pointer_view p off k d (zone_on g d) hd hz s.whole in
      let b = pointer_view p off k₀ d (zone_on g d) hd hz w₀ in
      let e : (zone_at (seen p off k) d (zone_on g d)).pointer ≡ (zone_at (seen p off k₀) d (zone_on g d)).pointer = ap (λ (q : Zone). q.pointer) (s.rest d (omega arith) hd) in
      omega (arith, a, b, e, room)

  -- the call's stores
  abbrev due : List Store
  due = footer_stores p d (zone_on g d) (zone_at (seen p off k) d (zone_on g d)) 0 (footers p)

  module _ (m : Result ℕ TooFew) (k' : Disk) (h : Storing p left due k m k') where
    -- its footers are those of the zone as it came
    as_came : Storing p left (feet p off k₀ g number d) k m k'
    as_came = subst (λ (q : Zone). Storing p left (footer_stores p d (zone_on g d) q 0 (footers p)) k m k') (s.rest d (omega arith) hd) h

    feet_joined : Storing p number (flat (feet p off k₀ g number) (below (d + 1))) k₀ m k'
    feet_joined =
        subst (λ (x : List Store). Storing p number x k₀ m k') (sym (flat-below-snoc (feet p off k₀ g number) d))
        (storing_join p number (flat (feet p off k₀ g number) (below d)) k₀ left k s.made (feet p off k₀ g number d) m k' as_came)

  module _ (k' : Disk) where
    pub sealing_turn : (y : ℕ) → Storing p left due k (Ok y) k' → Ranged p → pointer_of p k.pointers d (zone_on g d) + footers p ≤ capacity p → Sealing p off k₀ g number (d + 1) y k'
    sealing_turn y h r room =
        let hz = low_here p g d hg hd in
        let a : k' ≡ store_all (store_disk p) (feet p off k₀ g number d) k = storing_all p left (feet p off k₀ g number d) k y k' (as_came (Ok y) k' h) in
        let f = footers_leave p off r k s.whole d (zone_on g d) hd hz (zone_at (seen p off k₀) d (zone_on g d)) (footers p) (sym (s.rest d (omega arith) hd)) room in
        record {
          within = omega arith;
          made = feet_joined (Ok y) k' h;
          whole = subst (λ (x : Disk). Whole p x) (sym a) f.0;
          rest = λ x l l'. ap (λ (y : Disk). zone_at (seen p off y) x (zone_on g x)) a ∙ f.1 x (zone_on g x) (λ q. let y : ⊥ = omega arith in y) ∙ s.rest x (omega arith) l';
        }

    -- more are due than the number
    pub sealing_cut : Storing p left due k too_few k' → Storing p number (seal_stores p (seen p off k₀) g) k₀ too_few k'
    unfolding seal_stores drives_of below
    sealing_cut h =
        let ft : ℕ → List Store = feet p off k₀ g number in
        let ts : List Store = flat ft (up_from (0 + (d + 1)) (p.N - (d + 1))) in
        let n : (d + 1) + (p.N - (d + 1)) ≡ p.N = omega arith in
        let q : up_from 0 p.N ≡ up_from 0 (d + 1) ++ up_from (0 + (d + 1)) (p.N - (d + 1)) = ap (up_from 0) (sym n) ∙ up_from_add 0 (d + 1) (p.N - (d + 1)) in
        subst (λ (x : List Store). Storing p number x k₀ too_few k') (sym (ap (flat ft) q ∙ flat_append ft (up_from 0 (d + 1)) (up_from (0 + (d + 1)) (p.N - (d + 1)))))
        (storing_stop p number (flat ft (below (d + 1))) k₀ k' (feet_joined too_few k' h) ts)
