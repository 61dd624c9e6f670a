-- What else is found by serial: the zones that bear one, all serials there are, those of dropped segments, the open segment. Assumes nothing.
use Rattle.std.specs.Prelude.{◌≡◌, refl, true, false, ◌&&◌, ℕ, ◌<◌, length}
use Rattle.std.proofs.Math.Path.{sym, ap, subst}
use Rattle.std.proofs.Common.{◌∙◌, arith}
use mathlib.Core.List.{List, [], ◌∷◌, map}
use Rattle.std.proofs.Math.Bool.{Bool, not}
use borrow.Author.Tests.{eq-eqb, ne_eqb, eqb-true}
use Rattle.std.proofs.Math.Dec.{eqb}
use Rattle.spec.specs.declared.Params.{Params}
use Rattle.spec.specs.declared.Seg.{Seg}
use Rattle.spec.specs.declared.State.{State}
use Rattle.spec.specs.Drives.{View, no_seg}
use Rattle.spec.specs.Layout.{header_serial}
use Rattle.spec.specs.Lists.{any, below, flat, keep, first_or, is_in}
use Rattle.spec.specs.Params.{drives_of}
use Rattle.spec.specs.Restart.{serials_there, dropped_serials}
use Rattle.spec.specs.Segments.{is_used, serial_in, bearing, header_at, remaining, Segment, segment_of, segments, serial_at, open_segments, open_segment}
use Rattle.law_basic.specs.Geometry.{Ranged}
use Rattle.law_basic.specs.Ranges.{Test, test, and_left, and_right, and_both}
use Rattle.law_basic.specs.Ranges.Test.{yes!, no! }
use Rattle.law_drives.specs.Dropping.{in_rising}
use Rattle.law_drives.specs.Members.{keep_cong, below_in}
use Rattle.law_drives.specs.Puts.{keep-one-below}
use Rattle.law_drives.specs.Settled.{low_first}
use Rattle.law_drives.specs.Tests.{clash}
use Rattle.proof_crash_machine.specs.Exec.{not_1, not_2}
use Rattle.proof_crash_machine.specs.Facts.{Ghost, Choice, None, R}
use Rattle.proof_crash_machine.specs.View.{Item, ItemView}
use Rattle.proof_crash_items.specs.Member.{Has, keep_has, has_keep, below_has, has_below, has_flat, map_has, has_map, any_has, has_any, is_nil_has, first_or_has}
use Rattle.proof_crash_items.specs.Ranges.{par_of}
use Rattle.proof_crash_items.specs.SegFacts.{serial_name}
use Rattle.proof_crash_items.specs.Segs.{OnDrives, On, is_on, segs_used_of, segs_of_used, borne_by, zone_len_holds, name_of, named_seg, segs_name_is, name_once, has_remaining, remaining_has}

module _ (p : Params) (r : Ranged p) (off : List ℕ) (g : Ghost) (v : View) (u : ItemView) (k : OnDrives p r off g v u) where
  -- ---- the zones that bear a serial: the one that its segment names, if the machine has it on the drive

  abbrev bears : ℕ → ℕ → ℕ → Bool
  bears d n z = is_used p v d z && eqb (serial_in p v d z) n

  bears_named : (d n z : ℕ) → d < p.N → g.un d ≡ false → z < p.Z → bears d n z ≡ true → (z ≡ g.hd.zn n d) × (0 < length (u d n))
  bears_named d n z l t b q =
      let a : is_used p v d z ≡ true = and_left (is_used p v d z) (eqb (serial_in p v d z) n) q in
      let s : serial_in p v d z ≡ n = eqb-true (serial_in p v d z) n (and_right (is_used p v d z) (eqb (serial_in p v d z) n) q) in
      let (i, e) = borne_by p r off g v u k d z l t b a in
      let (w, c) = segs_of_used p v d z a in (
        sym e ∙ ap (λ (x : ℕ). g.hd.zn x d) s,
        subst (λ (x : List Item). 0 < length x) (i ∙ ap (u d) s) (omega (arith, zone_len_holds p r off g v u k d z l t b w, c)),
      )

  named_bears : (d n : ℕ) → d < p.N → g.un d ≡ false → 0 < length (u d n) → bears d n (g.hd.zn n d) ≡ true
  named_bears d n l t b =
      let o : On p r off g v u k d n = is_on p r off g v u k d n l t b in
      and_both (is_used p v d (g.hd.zn n d)) (eqb (serial_in p v d (g.hd.zn n d)) n) (segs_used_of p v d (g.hd.zn n d) o.good o.begun) (eq-eqb (serial_in p v d (g.hd.zn n d)) n o.serial)

  pub bearing_has : (d n z : ℕ) → d < p.N → g.un d ≡ false → Has z (bearing p v d n) → (z < p.Z) × (z ≡ g.hd.zn n d) × (0 < length (u d n))
  unfolding bearing
  bearing_has d n z l t i =
      let (a, q) = keep_has (bears d n) z (below p.Z) i in
      let b : z < p.Z = below_has z p.Z a in
      let (e, c) = bears_named d n z l t b q in (b, e, c)

  pub bearing-one : (d n : ℕ) → d < p.N → g.un d ≡ false → 0 < length (u d n) → bearing p v d n ≡ g.hd.zn n d ∷ []
  unfolding bearing
  bearing-one d n l t b =
      keep_cong (bears d n) (λ z. eqb z (g.hd.zn n d)) (below p.Z) (λ z i. go z (below_in p.Z z i) (test (bears d n z)))
      ∙ keep-one-below (λ z. eqb z (g.hd.zn n d)) (g.hd.zn n d) p.Z (λ z. refl) (is_on p r off g v u k d n l t b).low
    where
      go : (z : ℕ) → z < p.Z → Test (bears d n z) → bears d n z ≡ eqb z (g.hd.zn n d)
      go z i (yes! q) = q ∙ sym (eq-eqb z (g.hd.zn n d) (bears_named d n z l t i q).0)
      go z i (no! q) = q ∙ sym (ne_eqb z (g.hd.zn n d) (λ e. clash (ap (bears d n) e ∙ named_bears d n l t b) q))

  -- ---- all serials that there are: those of the machine's segments
  module _ (none : None (par_of p r off) g.un) where
    pub has_serials : (d n : ℕ) → d < p.N → 0 < length (u d n) → Has n (serials_there p v)
    unfolding serials_there drives_of
    has_serials d n l b =
        let o : On p r off g v u k d n = is_on p r off g v u k d n l (none d l) b in
        in_rising (flat (λ d. map (serial_in p v d) (keep (is_used p v d) (below p.Z))) (below p.N)) n
        (has_flat (λ d. map (serial_in p v d) (keep (is_used p v d) (below p.Z))) n (below p.N) d (has_below d p.N l)
        (subst (λ (x : ℕ). Has x (map (serial_in p v d) (keep (is_used p v d) (below p.Z)))) o.serial
        (has_map (serial_in p v d) (keep (is_used p v d) (below p.Z)) (g.hd.zn n d)
        (has_keep (is_used p v d) (g.hd.zn n d) (below p.Z) (has_below (g.hd.zn n d) p.Z o.low) (segs_used_of p v d (g.hd.zn n d) o.good o.begun)))))

  -- ---- those that remain, by serial, and those of dropped segments
  module _ (m : ℕ) (c : Choice (par_of p r off) g.un (is_in m)) where
    abbrev of? : ℕ → Segment → Bool
    of? n h = eqb h.serial n

    pub has_of : (n : ℕ) → R (par_of p r off) g.hd u (is_in m) n → any (of? n) (segments p v m) ≡ true
    unfolding segments
    has_of n h =
        let i : Has (named_seg p g n) (remaining p v m) = has_remaining p r off g v u k m c n h in
        has_any (of? n) (map (segment_of p v m) (remaining p v m)) (segment_of p v m (named_seg p g n)) (has_map (segment_of p v m) (remaining p v m) (named_seg p g n) i)
        (eq-eqb (segment_of p v m (named_seg p g n)).serial n (serial_name p r off g v u k m c (named_seg p g n) i ∙ segs_name_is p r off g v u k m c n h.left))

    pub of_has : (n : ℕ) → any (of? n) (segments p v m) ≡ true → R (par_of p r off) g.hd u (is_in m) n
    unfolding segments
    of_has n q =
        let (h, i, e) = any_has (of? n) (map (segment_of p v m) (remaining p v m)) q in
        let (z, j, s) = map_has (segment_of p v m) h (remaining p v m) i in
        subst (R (par_of p r off) g.hd u (is_in m)) (sym (serial_name p r off g v u k m c z j) ∙ ap (λ (x : Segment). x.serial) (sym s) ∙ eqb-true h.serial n e)
        (remaining_has p r off g v u k m c z j).0

    -- a serial that is there and does not remain
    pub dropped_has : (n : ℕ) → Has n (dropped_serials p v (segments p v m)) → Has n (serials_there p v) × (R (par_of p r off) g.hd u (is_in m) n → ⊥)
    unfolding dropped_serials
    dropped_has n i =
        let (a, q) = keep_has (λ x. not (any (of? x) (segments p v m))) n (serials_there p v) i in
        (a, λ h. not_2 (any (of? n) (segments p v m)) q (has_of n h))

    pub has_dropped : (n : ℕ) → Has n (serials_there p v) → (R (par_of p r off) g.hd u (is_in m) n → ⊥) → Has n (dropped_serials p v (segments p v m))
    unfolding dropped_serials
    has_dropped n i no_such = has_keep (λ x. not (any (of? x) (segments p v m))) n (serials_there p v) i (not_1 (any (of? n) (segments p v m)) (λ q. no_such (of_has n q)))

  -- ---- the open segment is the machine's with that serial
  pub open_is : (st : State) (c : Choice (par_of p r off) g.un (is_in 0)) → R (par_of p r off) g.hd u (is_in 0) st.opened → open_segment p v st ≡ named_seg p g st.opened
  unfolding open_segment open_segments
  open_is st c h =
      let f : Seg → Bool = λ z. eqb (serial_at p v z) st.opened in
      let i : Has (named_seg p g st.opened) (remaining p v 0) = has_remaining p r off g v u k 0 c st.opened h in
      let e : serial_at p v (named_seg p g st.opened) ≡ st.opened = same (named_seg p g st.opened) ∙ segs_name_is p r off g v u k 0 c st.opened h.left in
      let j : Has (named_seg p g st.opened) (keep (λ z. eqb (serial_at p v z) st.opened) (remaining p v 0)) =
      has_keep (λ z. eqb (serial_at p v z) st.opened) (named_seg p g st.opened) (remaining p v 0) i (eq-eqb (serial_at p v (named_seg p g st.opened)) st.opened e) in
      one (first_or no_seg (keep (λ z. eqb (serial_at p v z) st.opened) (remaining p v 0))) (first_or_has no_seg (keep (λ z. eqb (serial_at p v z) st.opened) (remaining p v 0))
      (is_nil_has (keep (λ z. eqb (serial_at p v z) st.opened) (remaining p v 0)) (named_seg p g st.opened) j)) i
    where
      same : (z : Seg) → serial_at p v z ≡ name_of p v 0 z
      same z = unfold serial_at name_of in ap (λ (x : ℕ). header_serial p (header_at v x z)) (sym (low_first p r))

      one : (z : Seg) → Has z (keep (λ z. eqb (serial_at p v z) st.opened) (remaining p v 0)) → Has (named_seg p g st.opened) (remaining p v 0) → z ≡ named_seg p g st.opened
      one z x i =
          let (a, q) = keep_has (λ z. eqb (serial_at p v z) st.opened) z (remaining p v 0) x in
          name_once p r off g v u k 0 c z (named_seg p g st.opened) a i
          (sym (same z) ∙ eqb-true (serial_at p v z) st.opened q ∙ sym (segs_name_is p r off g v u k 0 c st.opened h.left))
