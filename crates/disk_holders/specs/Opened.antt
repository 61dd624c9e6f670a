-- The remaining segment with a serial, none missing, as the state has it open (02, item 4). Assumes nothing.
use Rattle.std.specs.Prelude.{◌≡◌, refl, [], ◌∷◌, Bool, ℕ, ◌≤◌, ◌<◌}
use Rattle.std.proofs.Common.{sym, ◌∙◌, subst, arith}
use Rattle.std.proofs.Math.Path.{ap}
use Rattle.std.proofs.Math.Bool.{true, false, not}
use borrow.Author.Tests.{eq-eqb, ne_eqb, eqb-true}
use Rattle.std.proofs.Math.Dec.{eqb}
use Rattle.spec.specs.declared.Params.{Params}
use Rattle.spec.specs.declared.Seg.{Seg}
use Rattle.spec.specs.declared.State.{State}
use Rattle.spec.specs.Drives.{View, chunk_at, zone_on, no_seg}
use Rattle.spec.specs.Layout.{header_serial}
use Rattle.spec.specs.Lists.{is_nil, first_or}
use Rattle.spec.specs.Segments.{serial_in, lowest_bearing, seg_for, remaining, holders, header_at, serial_at, open_segments, open_segment}
use Rattle.law_basic.specs.Geometry.{Ranged}
use Rattle.law_basic.specs.Mask.{is_in_empty}
use Rattle.law_drives.specs.Gather.{borne, for_here}
use Rattle.law_drives.specs.Members.{In, keep_nothing, keep_cong}
use Rattle.law_drives.specs.Segs.{remaining_once}
use Rattle.law_drives.specs.Settled.{zero_here}
use Rattle.law_drives.specs.Tables.{one_holder}
use Rattle.law_drives.specs.Tests.{clash, same_test}
use Rattle.disk_holders.specs.Borne.{serial_remains, all_borne_on, remains_borne, remains_in, in_remains}

module _ (p : Params) (r : Ranged p) (v : View) where
  first_drive : 0 < p.N
  first_drive = omega (arith, r.drives_low)

  -- a serial that remains stands in its segment's header on drive 0
  for_serial : (s : ℕ) → serial_remains p v 0 s ≡ true → serial_at p v (seg_for p v 0 s) ≡ s
  unfolding serial_at header_at
  for_serial s e =
      ap (λ (z : ℕ). header_serial p (chunk_at v 0 z 0).block) (for_here p v 0 s 0 first_drive (is_in_empty 0))
      ∙ go (borne p v 0 s (all_borne_on p v 0 s (remains_borne p v 0 s e) 0 first_drive (is_in_empty 0))).serial
    where
      go : serial_in p v 0 (lowest_bearing p v 0 s) ≡ s → header_serial p (chunk_at v 0 (lowest_bearing p v 0 s) 0).block ≡ s
      go q = unfold serial_in in q

  -- so a remaining segment is that of its serial
  segment_by_serial : (g : Seg) → In g (remaining p v 0) → (g ≡ seg_for p v 0 (serial_at p v g)) × (serial_remains p v 0 (serial_at p v g) ≡ true)
  segment_by_serial g m =
      let (s, e, q) = in_remains p v 0 (zero_here p r) g m in
      let x : serial_at p v g ≡ s = ap (serial_at p v) e ∙ for_serial s q in
      (e ∙ ap (seg_for p v 0) (sym x), ap (serial_remains p v 0) x ∙ q)

  module _ (st : State) where
    pub serial_not_open : serial_remains p v 0 st.opened ≡ false → open_segments p v st ≡ []
    unfolding open_segments
    serial_not_open q = keep_nothing (λ g. eqb (serial_at p v g) st.opened) (remaining p v 0)
        (λ g m. ne_eqb (serial_at p v g) st.opened (λ e. clash (segment_by_serial g m).1 (ap (serial_remains p v 0) e ∙ q)))

    pub serial_open : serial_remains p v 0 st.opened ≡ true → open_segments p v st ≡ seg_for p v 0 st.opened ∷ []
    serial_open q = same ∙ one_holder p v 0 (zero_here p r) 0 g m (λ h n x. remaining_once p v 0 (zero_here p r) h g 0 n m first_drive (is_in_empty 0) x)
      where
        g : Seg
        g = seg_for p v 0 st.opened

        m : In g (remaining p v 0)
        m = remains_in p v 0 (zero_here p r) st.opened q

        one : (h : Seg) → In h (remaining p v 0) → eqb (serial_at p v h) st.opened ≡ eqb (zone_on h 0) (zone_on g 0)
        one h n = same_test (eqb (serial_at p v h) st.opened) (eqb (zone_on h 0) (zone_on g 0))
            (λ e. eq-eqb (zone_on h 0) (zone_on g 0) (ap (λ (x : Seg). zone_on x 0) ((segment_by_serial h n).0 ∙ ap (seg_for p v 0) (eqb-true (serial_at p v h) st.opened e))))
            (λ e. eq-eqb (serial_at p v h) st.opened
            (ap (serial_at p v) (remaining_once p v 0 (zero_here p r) h g 0 n m first_drive (is_in_empty 0) (eqb-true (zone_on h 0) (zone_on g 0) e)) ∙ for_serial st.opened q))

        same : open_segments p v st ≡ holders p v 0 0 (zone_on g 0)
        same = unfold open_segments holders in keep_cong (λ h. eqb (serial_at p v h) st.opened) (λ h. eqb (zone_on h 0) (zone_on g 0)) (remaining p v 0) one

    -- there is none just if the serial does not remain
    pub open_nil : is_nil (open_segments p v st) ≡ not (serial_remains p v 0 st.opened)
    unfolding is_nil
    open_nil = go (serial_remains p v 0 st.opened) serial_not_open serial_open
      where
        go : (b : Bool) → (b ≡ false → open_segments p v st ≡ []) → (b ≡ true → open_segments p v st ≡ seg_for p v 0 st.opened ∷ []) → is_nil (open_segments p v st) ≡ not b
        go true a b = ap is_nil (b refl)
        go false a b = ap is_nil (a refl)

    pub open_by_serial : serial_remains p v 0 st.opened ≡ true → open_segment p v st ≡ seg_for p v 0 st.opened
    unfolding open_segment first_or
    open_by_serial q = ap (first_or no_seg) (serial_open q)

    pub open_zone_is : serial_remains p v 0 st.opened ≡ true → (d : ℕ) → d < p.N → zone_on (open_segment p v st) d ≡ lowest_bearing p v d st.opened
    open_zone_is q d h = ap (λ (g : Seg). zone_on g d) (open_by_serial q) ∙ for_here p v 0 st.opened d h (is_in_empty d)

-- what is answered of a drive and serial: the zone there, or Z
abbrev pub OpenedOn : Params → View → ℕ → ℕ → ℕ → Type 0
OpenedOn p v d s n =
    ((st : State) → st.opened ≡ s → is_nil (open_segments p v st) ≡ eqb n p.Z) × ((st : State) → st.opened ≡ s → n < p.Z → n ≡ zone_on (open_segment p v st) d) × (n ≤ p.Z)

module _ (p : Params) (r : Ranged p) (v : View) (d s n : ℕ) where
  pub opened_nowhere : serial_remains p v 0 s ≡ false → n ≡ p.Z → OpenedOn p v d s n
  opened_nowhere q e = (
    λ st x. open_nil p r v st ∙ ap not (ap (serial_remains p v 0) x ∙ q) ∙ sym (eq-eqb n p.Z e),
    λ st x h. absurd (let z : ⊥ = omega (arith, e, h) in z),
    omega (arith, e),
  )

  pub opened_at : serial_remains p v 0 s ≡ true → d < p.N → n ≡ lowest_bearing p v d s → OpenedOn p v d s n
  opened_at q h e =
      let l : n < p.Z = subst (λ (k : ℕ). k < p.Z) (sym e) (all_borne_on p v 0 s (remains_borne p v 0 s q) d h (is_in_empty d)) in (
        λ st x. open_nil p r v st ∙ ap not (ap (serial_remains p v 0) x ∙ q) ∙ sym (ne_eqb n p.Z (λ k. let z : ⊥ = omega (arith, k, l) in z)),
        λ st x k. e ∙ ap (lowest_bearing p v d) (sym x) ∙ sym (open_zone_is p r v st (ap (serial_remains p v 0) x ∙ q) d h),
        omega (arith, l),
      )
