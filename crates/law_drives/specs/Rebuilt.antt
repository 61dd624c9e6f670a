-- Behind a rebuild: the headers on every drive, and that just the segments that remained are there, and remain, with none missing.
use Rattle.std.specs.Prelude.{◌≡◌, refl, Bool, false, ◌&&◌, ◌⊎◌, eqb, length, get_or}
use Rattle.std.proofs.Math.Path.{sym, ap}
use Rattle.std.proofs.Common.{ap₂, ◌∙◌, subst, inl, inr}
use mathlib.Core.List.{List}
use Rattle.std.proofs.Math.Bool.{true, not}
use Prim.Native.Nat.{ℕ, ◌+◌, ◌^◌, ◌≤◌, ◌<◌}
use Rattle.std.proofs.Math.Decide.{ℕ_discrete}
use borrow.Author.Tests.{ne_eqb, not-true}
use native.Mathlib.Omega.{arith}
use Rattle.spec.specs.declared.Params.{Params}
use Rattle.spec.specs.Drives.{Chunk, mk_chunk, no_chunk, Zone, View, zone_at, pointer_at, store_view_of, store_all, zone_on, zero_spare, zones_in, is_good, reset_zone}
use Rattle.spec.specs.Layout.{header_block, header_copied, header_serial}
use Rattle.spec.specs.Lists.{any, is_in}
use Rattle.spec.specs.Params.{capacity, named}
use Rattle.spec.specs.Rebuild.{rebuild_stores}
use Rattle.spec.specs.Segments.{remaining, segment_of, segments, low_drive}
use Rattle.law_basic.specs.Fields.{header_copied_holds, header_serial_holds}
use Rattle.law_basic.specs.Geometry.{Ranged}
use Rattle.law_basic.specs.Ranges.{and_right, and_both, and_left}
use Rattle.law_drives.specs.Accept.{Accepted, named_here, accepted_apart, header_ok, zone_in_range, zone_good, zone_borne, serials_differ}
use Rattle.law_drives.specs.Laid.{copied_word_low, serial_low}
use Rattle.law_drives.specs.Members.{In, keep_in, any_in}
use Rattle.law_drives.specs.Puts.{put_all, puts_new, puts_pointer}
use Rattle.law_drives.specs.Range.{capacity_over}
use Rattle.law_drives.specs.Segs.{remaining-low, Here, copied_is, remaining_left, serial_is}
use Rattle.law_drives.specs.Spots.{SpotsApart}
use Rattle.law_drives.specs.Tests.{clash, not_so}
use Rattle.law_drives.specs.Zones.{Bytes, Shaped, reset_ok, reset_pointer}
use Rattle.spec.specs.declared.Seg.{Seg}
use Rattle.law_basic.specs.Segs.{ZonesLow, zones_in_long, with_same, with_zone}
use Rattle.law_drives.specs.Gather.{Borne, GatherLeft, borne_is, left_in, for_here}
use Rattle.law_drives.specs.Masks.{named_in}
use Rattle.law_basic.specs.Mask.{is_in_empty, is_in-only}
use Rattle.law_drives.specs.Heads.{there_for}
use Rattle.law_drives.specs.Members.{in_any, in_keep}
use Rattle.law_drives.specs.Settled.{its_zone, there_once, zero_here}
use Rattle.law_drives.specs.Tidy.{There}
use Rattle.spec.specs.Drives.{chunk_at, same_seg, seg_with}
use Rattle.spec.specs.Segments.{header_at, is_copy, is_used, left_by1, seg_for, serial_in, zone_for}
use Rattle.law_drives.specs.Rebuilding.RebuiltZone.{zone_of_holds, zone_free, zone_bad}
use Rattle.law_drives.specs.Rebuilding.{RebuiltZone, rebuild_agrees, rebuilt_chunks, rebuilt_chunks_low, rebuilt-kind, zone_emptied, zone_rebuilt}
use Rattle.law_views.specs.Alike.{offline_after}

module _ (p : Params) (r : Ranged p) (v : View) (sh : Shaped p v) (d : ℕ) (hd : d < p.N) (acc : Accepted p v (named d)) where
  abbrev gone : ℕ
  gone = named d

  abbrev before : List Seg
  before = remaining p v (named d)

  abbrev lost : is_in (named d) d ≡ true
  lost = named_in p r d hd

  abbrev here : Here p (named d)
  here = named_here p r d hd

  abbrev apart : SpotsApart p v (named d)
  apart = accepted_apart p v (named d) acc (named_here p r d hd)

  abbrev behind : View
  behind = store_all store_view_of (rebuild_stores p v d (segments p v (named d))) v

  abbrev serial_of_holds : Seg → ℕ
  serial_of_holds g = (segment_of p v (named d) g).serial

  abbrev copied_of_holds : Seg → ℕ
  copied_of_holds g = (segment_of p v (named d) g).copied

  -- a drive is the rebuilt one or a present one
  pub rebuilt_or_present : (e : ℕ) → e < p.N → (e ≡ d) ⊎ (is_in (named d) e ≡ false)
  rebuilt_or_present e he = go (ℕ_discrete e d)
    where
      go : Dec (e ≡ d) → (e ≡ d) ⊎ (is_in (named d) e ≡ false)
      go (yes q) = inl q
      go (no q) = inr (unfold named in (let h = r.drives_high in is_in-only d e (omega arith) (omega arith) ∙ ne_eqb e d q))

  header_bytes : (g : Seg) → In g before → Bytes (header_at v (low_drive p (named d)) g)
  unfolding header_at chunk_at
  header_bytes g m =
      let l = low_drive p (named d) in
      ((sh.zone_ok l (zone_on g l) here.0 (zone_in_range p v (named d) acc here g l m here.0)).sound 0 (omega (arith, capacity_over p r))).block_bytes (inl refl)

  serial_word : (g : Seg) → In g before → serial_of_holds g < 256 ^ 8
  serial_word g m = subst (λ (n : ℕ). n < 256 ^ 8) (sym (serial_is p v (named d) g)) (serial_low p (header_at v (low_drive p (named d)) g) (header_bytes g m))

  copied_word : (g : Seg) → In g before → copied_of_holds g < 256 ^ 8
  copied_word g m = subst (λ (n : ℕ). n < 256 ^ 8) (sym (copied_is p v (named d) g)) (copied_word_low p (header_at v (low_drive p (named d)) g) (header_bytes g m))

  same_here : (e z : ℕ) → e < p.N → z < p.Z → is_in (named d) e ≡ false → zone_at v e z ≡ zone_at behind e z
  same_here e z he hz q = rebuild_agrees p r v sh d hd lost apart e z he hz q

  -- the header on every drive
  pub header_rebuilt : (g : Seg) (e : ℕ) → In g before → e < p.N
      → get_or (zone_at behind e (zone_on g e)).blocks 0 no_chunk ≡ mk_chunk (header_block p e (zones_in p g) (segment_of p v (named d) g).serial (segment_of p v (named d) g).copied) zero_spare
  header_rebuilt g e m he = go (rebuilt_or_present e he)
    where
      Is : ℕ → Type 0
      Is e = get_or (zone_at behind e (zone_on g e)).blocks 0 no_chunk ≡ mk_chunk (header_block p e (zones_in p g) (serial_of_holds g) (copied_of_holds g)) zero_spare

      first_is : (low : ZonesLow p (named d) g) → (0 < length (rebuilt_chunks p r v sh (named d) g d low hd lost))
          × (get_or (rebuilt_chunks p r v sh (named d) g d low hd lost) 0 no_chunk ≡ mk_chunk (header_block p d (zones_in p g) (serial_of_holds g) (copied_of_holds g)) zero_spare)
      first_is low = unfold rebuilt_chunks in (omega arith, refl)

      at_d : Is d
      at_d =
          let low = remaining-low p v (named d) here g m in
          let cs = rebuilt_chunks p r v sh (named d) g d low hd lost in
          let y = reset_zone (zone_at v d (zone_on g d)) in
          let z : y.pointer ≡ 0 = reset_pointer (zone_at v d (zone_on g d)) in
          let n : 0 < length cs = (first_is low).0 in
          let k : length cs ≤ capacity p = rebuilt_chunks_low p r v sh (named d) g d low hd lost in
          let b : length y.blocks ≡ capacity p = (reset_ok p (zone_at v d (zone_on g d)) (sh.zone_ok d (zone_on g d) hd (zone_in_range p v (named d) acc here g d m hd))).blocks_long in
          ap (λ (x : Zone). get_or x.blocks 0 no_chunk) (zone_rebuilt p r v sh d hd lost apart g m)
          ∙ ap (λ (i : ℕ). get_or (put_all d (zone_on g d) cs y).blocks i no_chunk) (let q : 0 ≡ y.pointer + 0 = omega arith in q)
          ∙ puts_new d (zone_on g d) cs y 0 n (omega arith)
          ∙ (first_is low).1

      go : (e ≡ d) ⊎ (is_in (named d) e ≡ false) → Is e
      go (inl q) = subst Is (sym q) at_d
      go (inr q) = ap (λ (x : Zone). get_or x.blocks 0 no_chunk) (sym (same_here e (zone_on g e) he (zone_in_range p v (named d) acc here g e m he) q)) ∙ header_ok p v (named d) acc here g e m he q

  pub rebuilt_used : (g : Seg) (e : ℕ) → In g before → e < p.N → is_used p behind e (zone_on g e) ≡ true
  unfolding is_used pointer_at
  rebuilt_used g e m he =
      and_both (is_good p behind.offline e (zone_on g e)) (not (eqb (zone_at behind e (zone_on g e)).pointer 0))
      (ap (λ (l : List ℕ). is_good p l e (zone_on g e)) (offline_after (rebuild_stores p v d (segments p v (named d))) v) ∙ zone_good p v (named d) acc here g e m he)
      (go (rebuilt_or_present e he))
    where
      Is : ℕ → Type 0
      Is e = not (eqb (zone_at behind e (zone_on g e)).pointer 0) ≡ true

      at_d : Is d
      at_d =
          let low = remaining-low p v (named d) here g m in
          let cs = rebuilt_chunks p r v sh (named d) g d low hd lost in
          let y = reset_zone (zone_at v d (zone_on g d)) in
          let n : 0 < length cs = some! low in
          let q : (zone_at behind d (zone_on g d)).pointer ≡ y.pointer + length cs =
          ap (λ (x : Zone). x.pointer) (zone_rebuilt p r v sh d hd lost apart g m) ∙ puts_pointer d (zone_on g d) cs y in
          ap not (ne_eqb (zone_at behind d (zone_on g d)).pointer 0 (λ z. let x : ⊥ = omega arith in x))
        where
          some! : (low : ZonesLow p (named d) g) → 0 < length (rebuilt_chunks p r v sh (named d) g d low hd lost)
          some! low = unfold rebuilt_chunks in omega arith

      go : (e ≡ d) ⊎ (is_in (named d) e ≡ false) → Is e
      go (inl q) = subst Is (sym q) at_d
      go (inr q) =
          let b = zone_borne p v (named d) here g e (remaining_left p v (named d) g m) he q in
          ap (λ (x : Zone). not (eqb x.pointer 0)) (sym (same_here e (zone_on g e) he (zone_in_range p v (named d) acc here g e m he) q))
          ∙ and_right (is_good p v.offline e (zone_on g e)) (not (eqb (zone_at v e (zone_on g e)).pointer 0)) b.used

  pub rebuilt_serial_in : (g : Seg) (e : ℕ) → In g before → e < p.N → serial_in p behind e (zone_on g e) ≡ (segment_of p v (named d) g).serial
  unfolding serial_in chunk_at
  rebuilt_serial_in g e m he =
      ap (λ (c : Chunk). header_serial p c.block) (header_rebuilt g e m he) ∙ header_serial_holds p e (zones_in p g) (serial_of_holds g) (copied_of_holds g) (zones_in_long p g) (serial_word g m)

  pub rebuilt-copied_in : (g : Seg) (e : ℕ) → In g before → e < p.N → header_copied p (header_at behind e g) ≡ (segment_of p v (named d) g).copied
  unfolding header_at chunk_at
  rebuilt-copied_in g e m he =
      ap (λ (c : Chunk). header_copied p c.block) (header_rebuilt g e m he) ∙ header_copied_holds p e (zones_in p g) (serial_of_holds g) (copied_of_holds g) (zones_in_long p g) (copied_word g m)

  -- the rebuilt drive has no other zone that is not empty
  pub rebuilt_of : (z : ℕ) → z < p.Z → is_used p behind d z ≡ true → (g : Seg) × In g before × (zone_on g d ≡ z)
  unfolding is_used pointer_at
  rebuilt_of z hz q = go (rebuilt-kind p r v sh d hd lost apart z)
    where
      good : is_good p v.offline d z ≡ true
      good = ap (λ (l : List ℕ). is_good p l d z) (sym (offline_after (rebuild_stores p v d (segments p v (named d))) v))
          ∙ and_left (is_good p behind.offline d z) (not (eqb (zone_at behind d z).pointer 0)) q

      some : not (eqb (zone_at behind d z).pointer 0) ≡ true
      some = and_right (is_good p behind.offline d z) (not (eqb (zone_at behind d z).pointer 0)) q

      go : RebuiltZone p r v sh d hd lost apart z → (g : Seg) × In g before × (zone_on g d ≡ z)
      go (zone_of_holds g m e) = (g, m, e)
      go (zone_free k n) =
          clash some (ap (λ (x : Zone). not (eqb x.pointer 0)) (zone_emptied p r v sh d hd lost apart z hz k n) ∙ ap (λ (i : ℕ). not (eqb i 0)) (reset_pointer (zone_at v d z)))
      go (zone_bad k) = clash good k

  -- its zones bear its serial, on every drive
  pub rebuilt_borne : (g : Seg) (e : ℕ) → In g before → e < p.N → Borne p behind e (segment_of p v (named d) g).serial (zone_on g e)
  rebuilt_borne g e m he = record {
    zone_low = zone_in_range p v (named d) acc here g e m he;
    used = rebuilt_used g e m he;
    serial = rebuilt_serial_in g e m he;
    first = λ z l u s. go z l u s (rebuilt_or_present e he);
  }
    where
      go : (z : ℕ) → z < zone_on g e → is_used p behind e z ≡ true → serial_in p behind e z ≡ serial_of_holds g → (e ≡ d) ⊎ (is_in (named d) e ≡ false) → ⊥
      go z l u s (inl q) =
          let hz : z < p.Z = let k = zone_in_range p v (named d) acc here g e m he in omega arith in
          let (h, n, i) = rebuilt_of z hz (subst (λ (x : ℕ). is_used p behind x z ≡ true) q u) in
          let j : serial_of_holds h ≡ serial_of_holds g = sym (rebuilt_serial_in h d n hd) ∙ ap (serial_in p behind d) i ∙ ap (λ (x : ℕ). serial_in p behind x z) (sym q) ∙ s in
          let k : z ≡ zone_on g d = sym i ∙ ap (λ (x : Seg). zone_on x d) (serials_differ p v (named d) here h g n m j) in
          let k2 : z ≡ zone_on g e = k ∙ ap (zone_on g) (sym q) in
          let x : ⊥ = omega arith in x
      go z l u s (inr q) =
          let b = zone_borne p v (named d) here g e (remaining_left p v (named d) g m) he q in
          let hz : z < p.Z = let k = b.zone_low in omega arith in
          b.first z l (was_used z hz q u) (was_serial z hz q ∙ s)
        where
          was_used : (z : ℕ) → z < p.Z → is_in (named d) e ≡ false → is_used p behind e z ≡ true → is_used p v e z ≡ true
          was_used z hz q u = unfold is_used pointer_at in
              (ap₂ (λ (l : List ℕ) (x : Zone). is_good p l e z && not (eqb x.pointer 0)) (sym (offline_after (rebuild_stores p v d (segments p v (named d))) v)) (same_here e z he hz q) ∙ u)

          was_serial : (z : ℕ) → z < p.Z → is_in (named d) e ≡ false → serial_in p v e z ≡ serial_in p behind e z
          was_serial z hz q = unfold serial_in chunk_at in ap (λ (x : Zone). header_serial p (get_or x.blocks 0 no_chunk).block) (same_here e z he hz q)

  -- a segment that remained is there
  pub rebuilt_there : (g : Seg) → In g before → There p behind g
  rebuilt_there g m = subst (There p behind) (sym seg_same!) (there_for p r behind (serial_of_holds g)
      (λ e he. subst (λ (n : ℕ). n < p.Z) (sym (borne_is p behind e (serial_of_holds g) (zone_on g e) (rebuilt_borne g e m he))) (zone_in_range p v (named d) acc here g e m he)))
    where
      seg_same! : g ≡ seg_for p behind 0 (serial_of_holds g)
      seg_same! =
          let l = left_in p v (named d) here g (remaining_left p v (named d) g m) in
          l.is_for ∙ same! l l.serial l.is_for
        where
          same! : GatherLeft p v (named d) g → (s : ℕ) → g ≡ seg_for p v (named d) s → seg_for p v (named d) s ≡ seg_for p behind 0 (serial_of_holds g)
          same! l s q = unfold seg_for in with_same p (zone_for p v (named d) s) (zone_for p behind 0 (serial_of_holds g))
              (λ e he. sym (with_zone p (zone_for p v (named d) s) e he) ∙ sym (ap (λ (x : Seg). zone_on x e) (as! s q))
              ∙ sym (borne_is p behind e (serial_of_holds g) (zone_on g e) (rebuilt_borne g e m he))
              ∙ sym (for_here p behind 0 (serial_of_holds g) e he (is_in_empty e)) ∙ with_zone p (zone_for p behind 0 (serial_of_holds g)) e he)
            where
              as! : (s : ℕ) → g ≡ seg_for p v (named d) s → g ≡ seg_with p (zone_for p v (named d) s)
              as! s q = unfold seg_for in q

  -- and no other
  pub there_rebuilt : (g : Seg) → There p behind g → In g before
  there_rebuilt g m =
      let b = its_zone p r behind g m d hd in
      let (h, n, e) = rebuilt_of (zone_on g d) b.zone_low b.used in
      subst (λ (x : Seg). In x before) (there_once p r behind h g d (rebuilt_there h n) m hd e) n

  -- its copied serial names none of them
  rebuilt_no_copy : (g : Seg) → In g before → is_copy p behind (low_drive p 0) (left_by1 p behind 0) g ≡ false
  rebuilt_no_copy g m = not_so (is_copy p behind (low_drive p 0) (left_by1 p behind 0) g) (λ q. clash (then q) was_none)
    where
      was_none : is_copy p v (low_drive p (named d)) (left_by1 p v (named d)) g ≡ false
      was_none = unfold remaining in not-true (is_copy p v (low_drive p (named d)) (left_by1 p v (named d)) g)
          (keep_in (λ x. not (is_copy p v (low_drive p (named d)) (left_by1 p v (named d)) x)) (left_by1 p v (named d)) g m).1

      l : ℕ
      l = low_drive p 0

      k : ℕ
      k = low_drive p (named d)

      cu : ℕ
      cu = header_copied p (header_at behind l g)

      cv : ℕ
      cv = header_copied p (header_at v k g)

      fu : Seg → Bool
      fu h = not (same_seg h g) && eqb (header_serial p (header_at behind l h)) cu

      fv : Seg → Bool
      fv h = not (same_seg h g) && eqb (header_serial p (header_at v k h)) cv

      same_copied : cu ≡ cv
      same_copied = rebuilt-copied_in g l m (zero_here p r).0 ∙ copied_is p v (named d) g

      same_serial : (h : Seg) → In h before → header_serial p (header_at behind l h) ≡ header_serial p (header_at v k h)
      same_serial h n = as! (rebuilt_serial_in h l n (zero_here p r).0) ∙ serial_is p v (named d) h
        where
          as! : {s : ℕ} → serial_in p behind l (zone_on h l) ≡ s → header_serial p (header_at behind l h) ≡ s
          as! e = unfold serial_in header_at in e

      parts : is_copy p behind l (left_by1 p behind 0) g ≡ true → (not (eqb cu 0) && any fu (left_by1 p behind 0)) ≡ true
      parts q = unfold is_copy in q

      whole : (not (eqb cv 0) && any fv (left_by1 p v (named d))) ≡ true → is_copy p v k (left_by1 p v (named d)) g ≡ true
      whole q = unfold is_copy in q

      then : is_copy p behind l (left_by1 p behind 0) g ≡ true → is_copy p v k (left_by1 p v (named d)) g ≡ true
      then q =
          let q2 = parts q in
          let (h, i, t) = any_in fu (left_by1 p behind 0) (and_right (not (eqb cu 0)) (any fu (left_by1 p behind 0)) q2) in
          let n = there_rebuilt h i in
          whole (and_both (not (eqb cv 0)) (any fv (left_by1 p v (named d)))
          (ap (λ (c : ℕ). not (eqb c 0)) (sym same_copied) ∙ and_left (not (eqb cu 0)) (any fu (left_by1 p behind 0)) q2)
          (in_any fv (left_by1 p v (named d)) h (remaining_left p v (named d) h n) (ap₂ (λ (a c : ℕ). not (same_seg h g) && eqb a c) (sym (same_serial h n)) (sym same_copied) ∙ t)))

  -- so the same segments remain, with none missing
  pub rebuilt_remains : (g : Seg) → In g before → In g (remaining p behind 0)
  unfolding remaining
  rebuilt_remains g m = in_keep (λ x. not (is_copy p behind (low_drive p 0) (left_by1 p behind 0) x)) (left_by1 p behind 0) g (rebuilt_there g m) (ap not (rebuilt_no_copy g m))

  pub remains_rebuilt : (g : Seg) → In g (remaining p behind 0) → In g before
  remains_rebuilt g m = there_rebuilt g (remaining_left p behind 0 g m)
