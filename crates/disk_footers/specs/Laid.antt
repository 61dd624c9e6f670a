-- Blocks laid one after the other in a zone: all blocks first and then all spares is as the stores would have it (01, Store count). Assumes nothing.
use Rattle.std.specs.Prelude.{◌≡◌, take, drop}
use Rattle.std.proofs.Math.Path.{refl, sym, ap, ap₂, subst}
use Rattle.std.proofs.Common.{◌∙◌, add-zero}
use mathlib.Core.List.{List, [], ◌∷◌, ◌++◌, map}
use Prim.Native.Nat.{ℕ, zero, suc, ◌+◌, ◌-◌, ◌^◌, min, ◌≤◌, ◌<◌}
use Rattle.std.proofs.Math.Nat.{sub-zero, zero-min, min-zero, suc-min-suc}
use native.Mathlib.Omega.{arith}
use Rattle.std.proofs.Math.ListN.{length, length-append}
use Rattle.std.proofs.lemmas.List.{length-map}
use Rattle.spec.specs.declared.Params.{Params}
use Rattle.spec.specs.Bytes.{to_be, splice}
use Rattle.spec.specs.Drives.{Zone, Store, Disk, zone_at, pointer_at, view_of, mk_disk, pointer_byte, pointer_of, set_pointer, store_disk, store_all, spares_of, footers_of, zero_spare, footer_stores}
use Rattle.spec.specs.Drives.Store.{put}
use Rattle.spec.specs.Layout.{footer_block}
use Rattle.spec.specs.Lists.{up_from}
use Rattle.spec.specs.Params.{spare_len, footers, capacity, unit_len, image_len, place_of, place_byte}
use Rattle.law_basic.specs.Fields.{length-zero_spare}
use Rattle.law_basic.specs.Geometry.{Ranged, block_within, pointer_within, capacity_high}
use Rattle.law_basic.specs.Ranges.{length_up_from, map-take}
use Rattle.law_basic.specs.Splice.{splice_next, splice_again, splice_comm, length-splice}
use Rattle.law_basic.specs.Xor.{AllLong, long_up_from}
use Rattle.law_views.specs.Views.{Whole, pointer_view, whole_put}
use Rattle.disk_footers.specs.Feet.{spares_by, byte_next, footer_long, spares_by-count, spare_long, spares_view, spares_stay}
use Rattle.law_views.specs.Pointers.{pointer_set}
use Rattle.law_basic.specs.Be.{length-to_be}

-- the bytes ss, one in each block from number b on, e bytes behind its begin
unfoldable pub laid : Params → ℕ → ℕ → ℕ → ℕ → List (List ℕ) → List ℕ → List ℕ
laid p d z e b [] im = im
laid p d z e b (s ∷ ss) im = laid p d z e (suc b) ss (splice im (place_byte p (place_of p d z b) + e) s)

-- n spares of zeros
unfoldable pub zero_spares : ℕ → List (List ℕ)
zero_spares zero = []
zero_spares (suc n) = zero_spare ∷ zero_spares n

pub zero_spares_lem : (bs : List (List ℕ)) → map (λ (b : List ℕ). zero_spare) bs ≡ zero_spares (length bs)
unfolding zero_spares
zero_spares_lem [] = refl
zero_spares_lem (b ∷ bs) = ap (λ (x : List (List ℕ)). zero_spare ∷ x) (zero_spares_lem bs)

module _ (p : Params) (d z : ℕ) (hd : d < p.N) (hz : z < p.Z) where
  inside : (e b : ℕ) (im s : List ℕ) (w : ℕ) → e + w ≤ unit_len p → length s ≡ w → b < capacity p → length im ≡ image_len p
      → place_byte p (place_of p d z b) + e + length s ≤ length im
  inside e b im s w h l hb hi = omega (arith, block_within p d z b hd hz hb)

  -- what comes before them may as well be written first
  laid_comm : (e b w : ℕ) (ss : List (List ℕ)) (im : List ℕ) (a : ℕ) (t : List ℕ) → e + w ≤ unit_len p → AllLong w ss → b + length ss ≤ capacity p → length im ≡ image_len p
      → a + length t ≤ place_byte p (place_of p d z b) + e → splice (laid p d z e b ss im) a t ≡ laid p d z e b ss (splice im a t)
  unfolding laid
  laid_comm e b w [] im a t h l c hi g = refl
  laid_comm e b w (s ∷ ss) im a t h l c hi g =
      let x = place_byte p (place_of p d z b) + e in
      let f : x + length s ≤ length im = inside e b im s w h l.0 (omega arith) hi in
      laid_comm e (suc b) w ss (splice im x s) a t h l.1 (omega arith) (length-splice im x s f ∙ hi) (omega (arith, byte_next p d z b))
      ∙ ap (laid p d z e (suc b) ss) (sym (splice_comm im a t x s g f))

  -- blocks, then spares
  pub laid_both : (b : ℕ) (bs : List (List ℕ)) (im : List ℕ) → AllLong p.B bs → b + length bs ≤ capacity p → length im ≡ image_len p
      → laid p d z p.B b (map (λ (x : List ℕ). zero_spare) bs) (laid p d z 0 b bs im) ≡ laid p d z 0 b (map (λ (x : List ℕ). x ++ zero_spare) bs) im
  unfolding laid
  laid_both b [] im l c hi = refl
  laid_both b (x ∷ bs) im l c hi =
      let y = place_byte p (place_of p d z b) in
      let zs : length zero_spare ≡ spare_len = length-zero_spare in
      let u : unit_len p ≡ p.B + spare_len = unit_is in
      let f : y + 0 + length x ≤ length im = inside 0 b im x p.B (omega (arith, u)) l.0 (omega arith) hi in
      let g : y + p.B + length zero_spare ≤ length im = inside p.B b im zero_spare spare_len (omega (arith, u)) zs (omega arith) hi in
      let lx : length x ≡ p.B = l.0 in
      let e : y + p.B ≡ y + 0 + length x = omega arith in
      let i₁ = splice im (y + 0) x in
      let i₂ = splice im (y + 0) (x ++ zero_spare) in
      let l₁ : length i₁ ≡ image_len p = length-splice im (y + 0) x f ∙ hi in
      let q : length (x ++ zero_spare) ≡ p.B + spare_len = length-append x zero_spare ∙ ap₂ ◌+◌ lx zs in
      let l₂ : length i₂ ≡ image_len p = length-splice im (y + 0) (x ++ zero_spare) (omega (arith, q, g, zs)) ∙ hi in
      ap (laid p d z p.B (suc b) (map (λ (v : List ℕ). zero_spare) bs))
      (laid_comm 0 (suc b) p.B bs i₁ (y + p.B) zero_spare (omega (arith, u)) l.1 (omega arith) l₁ (omega (arith, byte_next p d z b, zs, u))
      ∙ ap (laid p d z 0 (suc b) bs) (ap (λ (v : ℕ). splice i₁ v zero_spare) e ∙ splice_next im (y + 0) x zero_spare (omega (arith, g, e))))
      ∙ laid_both (suc b) bs i₂ l.1 (omega arith) l₂
    where
      unit_is : unit_len p ≡ p.B + spare_len
      unit_is = unfold unit_len in refl

  -- the stores of blocks with zero spares, one after the other
  pub stores_laid : (b : List ℕ) (bs : List (List ℕ)) (im ps : List ℕ) → capacity p < 256 ^ 4 → Whole p (mk_disk im ps) → AllLong p.B (b ∷ bs)
      → pointer_of p ps d z + suc (length bs) ≤ capacity p
      → store_all (store_disk p) (map (λ (x : List ℕ). put d z x zero_spare) (b ∷ bs)) (mk_disk im ps)
      ≡ mk_disk (laid p d z 0 (pointer_of p ps d z) (map (λ (x : List ℕ). x ++ zero_spare) (b ∷ bs)) im) (set_pointer p ps d z (pointer_of p ps d z + suc (length bs)))
  unfolding store_all store_disk laid
  stores_laid b [] im ps cap w l c =
      let n = pointer_of p ps d z in
      let y = place_byte p (place_of p d z n) in
      ap₂ (λ (v u : ℕ). mk_disk (splice im v (b ++ zero_spare)) (set_pointer p ps d z u)) (sym (add-zero y)) (let e : suc n ≡ n + 1 = omega arith in e)
  stores_laid b (x ∷ bs) im ps cap w l c =
      let n = pointer_of p ps d z in
      let y = place_byte p (place_of p d z n) in
      let im' = splice im y (b ++ zero_spare) in
      let ps' = set_pointer p ps d z (suc n) in
      let zs : length zero_spare ≡ spare_len = length-zero_spare in
      let v : pointer_at (view_of p [] im ps) d z < capacity p = subst (λ (k : ℕ). k < capacity p) (sym (pointer_view p [] (mk_disk im ps) d z hd hz w)) (omega arith) in
      let w' : Whole p (mk_disk im' ps') = whole_put p [] (mk_disk im ps) d z hd hz w b zero_spare v l.0 zs in
      let q : pointer_of p ps' d z ≡ suc n = pointer_set p ps d z (suc n) hd hz w.pointers_long (omega arith) in
      let e : suc n + suc (length bs) ≡ n + suc (suc (length bs)) = omega arith in
      stores_laid x bs im' ps' cap w' l.1 (omega (arith, q))
      ∙ ap (λ (k : ℕ). mk_disk (laid p d z 0 k (map (λ (x : List ℕ). x ++ zero_spare) (x ∷ bs)) im') (set_pointer p ps' d z (k + suc (length bs)))) q
      ∙ ap₂ (λ (k : ℕ) (u : List ℕ). mk_disk (laid p d z 0 (suc n) (map (λ (x : List ℕ). x ++ zero_spare) (x ∷ bs)) (splice im k (b ++ zero_spare))) u) (sym (add-zero y))
      (again (suc n) (suc n + suc (length bs)) w ∙ ap (set_pointer p ps d z) e)
    where
      again : (i j : ℕ) → Whole p (mk_disk im ps) → set_pointer p (set_pointer p ps d z i) d z j ≡ set_pointer p ps d z j
      again i j w = unfold set_pointer in splice_again ps (pointer_byte p d z) (to_be 4 i) (to_be 4 j)
          (omega (arith, length-to_be 4 i, pointer_within p d z hd hz, w.pointers_long)) (length-to_be 4 j ∙ sym (length-to_be 4 i))

-- ---- the loop that writes n footer blocks, from number first on, at block b: i of them are written

pub record Writing (p : Params) (d z b first n : ℕ) (im₀ : List ℕ) (i : ℕ) (im : List ℕ) : Type 0 where
  pub within : i ≤ n
  pub long : length im ≡ image_len p
  pub same : spares_by p im d z ≡ spares_by p im₀ d z
  pub rest : laid p d z 0 (b + i) (map (footer_block p (spares_by p im₀ d z)) (up_from (first + i) (n - i))) im
      ≡ laid p d z 0 b (map (footer_block p (spares_by p im₀ d z)) (up_from first n)) im₀

module _ (p : Params) (d z b first n : ℕ) (im₀ : List ℕ) where
  pub writing_start : length im₀ ≡ image_len p → Writing p d z b first n im₀ 0 im₀
  writing_start h = record {
    within = omega arith;
    long = h;
    same = refl;
    rest = λ j. laid p d z 0 (add-zero b j) (map (footer_block p (spares_by p im₀ d z)) (up_from (add-zero first j) (sub-zero n j))) im₀;
  }

  pub writing_turn : (i : ℕ) (im im' s : List ℕ) → Ranged p → d < p.N → z < p.Z → b + n ≤ capacity p → i < n → length s ≡ p.B
      → s ≡ footer_block p (spares_by p im d z) (first + i) → im' ≡ splice im (place_byte p (place_of p d z (b + i))) s
      → Writing p d z b first n im₀ i im → Writing p d z b first n im₀ (i + 1) im'
  unfolding laid up_from
  writing_turn i im im' s r hd hz c h ls q e w =
      let y = place_byte p (place_of p d z (b + i)) in
      let ss = spares_by p im₀ d z in
      let hb : b + i < capacity p = omega arith in
      let fits : y + length s ≤ length im = omega (arith, block_within p d z (b + i) hd hz hb, w.long, unit_low_is, ls) in
      let k : n - i ≡ suc (n - (i + 1)) = omega arith in
      let f : map (footer_block p ss) (up_from (first + i) (n - i)) ≡ footer_block p ss (first + i) ∷ map (footer_block p ss) (up_from (suc (first + i)) (n - (i + 1))) =
      ap (λ (x : ℕ). map (footer_block p ss) (up_from (first + i) x)) k in
      let t : s ≡ footer_block p ss (first + i) = q ∙ ap (λ (x : List (List ℕ)). footer_block p x (first + i)) w.same in
      let g : im' ≡ splice im (y + 0) (footer_block p ss (first + i)) = e ∙ ap₂ (λ (x : ℕ) (v : List ℕ). splice im x v) (sym (add-zero y)) t in
      let b₁ : b + (i + 1) ≡ suc (b + i) = omega arith in
      let f₁ : first + (i + 1) ≡ suc (first + i) = omega arith in
      record {
        within = omega arith;
        long = ap length e ∙ length-splice im y s fits ∙ w.long;
        same = ap (λ (x : List ℕ). spares_by p x d z) e ∙ spares_stay p r d z hd hz im w.long (b + i) s hb ls ∙ w.same;
        rest = (λ j. laid p d z 0 (b₁ j) (map (footer_block p ss) (up_from (f₁ j) (n - (i + 1)))) (g j))
            ∙ sym (ap (λ (x : List (List ℕ)). laid p d z 0 (b + i) x im) f) ∙ w.rest;
      }
    where
      unit_low_is : p.B ≤ unit_len p
      unit_low_is = unfold unit_len in omega arith

  pub writing_done : (i : ℕ) (im : List ℕ) → n ≤ i → Writing p d z b first n im₀ i im
      → im ≡ laid p d z 0 b (map (footer_block p (spares_by p im₀ d z)) (up_from first n)) im₀
  unfolding laid up_from
  writing_done i im h w =
      let e : n - i ≡ 0 = omega arith in
      sym (ap (λ (x : ℕ). laid p d z 0 (b + i) (map (footer_block p (spares_by p im₀ d z)) (up_from (first + i) x)) im) e) ∙ w.rest

-- ---- the loop that clears n spares from block b on

pub record Clearing (p : Params) (d z b n : ℕ) (im₀ : List ℕ) (i : ℕ) (im : List ℕ) : Type 0 where
  pub within : i ≤ n
  pub long : length im ≡ image_len p
  pub rest : laid p d z p.B (b + i) (zero_spares (n - i)) im ≡ laid p d z p.B b (zero_spares n) im₀

module _ (p : Params) (d z b n : ℕ) (im₀ : List ℕ) where
  pub clearing_start : length im₀ ≡ image_len p → Clearing p d z b n im₀ 0 im₀
  clearing_start h = record {
    within = omega arith;
    long = h;
    rest = λ j. laid p d z p.B (add-zero b j) (zero_spares (sub-zero n j)) im₀;
  }

  pub clearing_turn : (i : ℕ) (im im' : List ℕ) → d < p.N → z < p.Z → b + n ≤ capacity p → i < n
      → im' ≡ splice im (place_byte p (place_of p d z (b + i)) + p.B) zero_spare → Clearing p d z b n im₀ i im → Clearing p d z b n im₀ (i + 1) im'
  unfolding laid zero_spares
  clearing_turn i im im' hd hz c h e w =
      let y = place_byte p (place_of p d z (b + i)) + p.B in
      let fits : y + length zero_spare ≤ length im = omega (arith, block_within p d z (b + i) hd hz (omega arith), w.long, unit_is, length-zero_spare) in
      let k : n - i ≡ suc (n - (i + 1)) = omega arith in
      let f : zero_spares (n - i) ≡ zero_spare ∷ zero_spares (n - (i + 1)) = ap zero_spares k in
      let b₁ : b + (i + 1) ≡ suc (b + i) = omega arith in
      record {
        within = omega arith;
        long = ap length e ∙ length-splice im y zero_spare fits ∙ w.long;
        rest = ap₂ (λ (x : ℕ) (v : List ℕ). laid p d z p.B x (zero_spares (n - (i + 1))) v) b₁ e
            ∙ sym (ap (λ (x : List (List ℕ)). laid p d z p.B (b + i) x im) f) ∙ w.rest;
      }
    where
      unit_is : unit_len p ≡ p.B + spare_len
      unit_is = unfold unit_len in refl

  pub clearing_done : (i : ℕ) (im : List ℕ) → n ≤ i → Clearing p d z b n im₀ i im → im ≡ laid p d z p.B b (zero_spares n) im₀
  unfolding laid zero_spares
  clearing_done i im h w =
      let e : n - i ≡ 0 = omega arith in
      sym (ap (λ (x : ℕ). laid p d z p.B (b + i) (zero_spares x) im) e) ∙ w.rest

-- ---- both loops and the pointer

pub take_up_from : (k i n : ℕ) → take k (up_from i n) ≡ up_from i (min k n)
unfolding up_from
take_up_from zero i n = ap (up_from i) (sym (zero-min n))
take_up_from (suc k) i zero = ap (up_from i) (sym (min-zero (suc k)))
take_up_from (suc k) i (suc n) = ap (λ (x : List ℕ). i ∷ x) (take_up_from k (suc i) n) ∙ ap (up_from i) (sym (suc-min-suc k n))

-- 01, Store count: the first of the footer stores
pub feet_taken : (p : Params) (d z : ℕ) (q : Zone) (first n k m : ℕ) → m ≡ min k n → take k (footer_stores p d z q first n) ≡ footer_stores p d z q first m
unfolding footer_stores footers_of
feet_taken p d z q first n k m e =
    let f = footer_block p (spares_of (take p.S (drop 1 q.blocks))) in
    let g : List ℕ → Store = λ (b : List ℕ). put d z b zero_spare in
    sym (map-take g k (map f (up_from first n))) ∙ ap (map g) (sym (map-take f k (up_from first n)) ∙ ap (map f) (take_up_from k first n ∙ ap (up_from first) (sym e)))

-- none of them
pub feet_none : (p : Params) (d z : ℕ) (q : Zone) (first n k : ℕ) (disk : Disk) → min k n ≡ 0 → store_all (store_disk p) (take k (footer_stores p d z q first n)) disk ≡ disk
unfolding store_all footer_stores footers_of up_from
feet_none p d z q first n k disk e = ap (λ (x : List Store). store_all (store_disk p) x disk) (feet_taken p d z q first n k 0 (sym e))

pub feet_count : (p : Params) (d z : ℕ) (q : Zone) (first n : ℕ) → length (footer_stores p d z q first n) ≡ n
unfolding footer_stores footers_of
feet_count p d z q first n =
    let f = footer_block p (spares_of (take p.S (drop 1 q.blocks))) in
    length-map (map f (up_from first n)) (λ (b : List ℕ). put d z b zero_spare) ∙ length-map (up_from first n) f ∙ length_up_from first n

module _ (p : Params) (r : Ranged p) (d z first n : ℕ) (hd : d < p.N) (hz : z < p.Z) (im ps im₁ im₂ ps₁ : List ℕ) (w : Whole p (mk_disk im ps))
    (some : 0 < n) (feet : first + n ≤ footers p) (room : pointer_of p ps d z + n ≤ capacity p)
    (wrote : im₁ ≡ laid p d z 0 (pointer_of p ps d z) (map (footer_block p (spares_by p im d z)) (up_from first n)) im)
    (cleared : im₂ ≡ laid p d z p.B (pointer_of p ps d z) (zero_spares n) im₁) (raised : ps₁ ≡ set_pointer p ps d z (pointer_of p ps d z + n)) where
  abbrev ss : List (List ℕ)
  ss = spares_by p im d z

  abbrev blocks : List (List ℕ)
  blocks = map (footer_block p ss) (up_from first n)

  blocks_are_long : AllLong p.B blocks
  blocks_are_long = long_up_from p.B (footer_block p ss) first n
      (λ j a b. footer_long p r ss (spares_by-count p r d z hd hz im w.image_long) (spare_long p r d z hd hz im w.image_long) j (omega arith))

  count : length blocks ≡ n
  count = length-map (up_from first n) (footer_block p ss) ∙ length_up_from first n

  -- the bytes are as after the stores
  bytes : im₂ ≡ laid p d z 0 (pointer_of p ps d z) (map (λ (x : List ℕ). x ++ zero_spare) blocks) im
  bytes =
      cleared ∙ ap₂ (λ (x : List (List ℕ)) (y : List ℕ). laid p d z p.B (pointer_of p ps d z) x y) (sym (zero_spares_lem blocks ∙ ap zero_spares count)) wrote
      ∙ laid_both p d z hd hz (pointer_of p ps d z) blocks im blocks_are_long (omega (arith, count)) w.image_long

  stores : (bs : List (List ℕ)) → bs ≡ blocks → store_all (store_disk p) (map (λ (x : List ℕ). put d z x zero_spare) bs) (mk_disk im ps)
      ≡ mk_disk (laid p d z 0 (pointer_of p ps d z) (map (λ (x : List ℕ). x ++ zero_spare) bs) im) (set_pointer p ps d z (pointer_of p ps d z + length bs))
  stores [] e = absurd (let q : ⊥ = omega (arith, count, ap length e) in q)
  stores (b ∷ bs) e =
      stores_laid p d z hd hz b bs im ps (omega (arith, capacity_high p r)) w (subst (λ (x : List (List ℕ)). AllLong p.B x) (sym e) blocks_are_long) (omega (arith, room, count, ap length e))

  pub feet_stored : (off : List ℕ) → mk_disk im₂ ps₁ ≡ store_all (store_disk p) (footer_stores p d z (zone_at (view_of p off im ps) d z) first n) (mk_disk im ps)
  unfolding footer_stores footers_of
  feet_stored off =
      ap₂ (λ (x y : List ℕ). mk_disk x y) bytes (raised ∙ ap (λ (k : ℕ). set_pointer p ps d z (pointer_of p ps d z + k)) (sym count))
      ∙ sym (stores blocks refl)
      ∙ ap (λ (x : List (List ℕ)). store_all (store_disk p) (map (λ (b : List ℕ). put d z b zero_spare) (map (footer_block p x) (up_from first n))) (mk_disk im ps))
      (sym (spares_view p r d z hd hz im w.image_long off ps w.pointers_long))
