-- A remaining segment as read: its fields, its serials; an unsealed one is ragged. Assumes nothing.
use Rattle.std.specs.Prelude.{◌≡◌, List, [], ◌∷◌, map, Bool, true, ◌&&◌, ◌≢◌}
use Rattle.std.proofs.Math.Path.{refl, sym, subst}
use Rattle.std.proofs.Common.{ap, ◌∙◌, inl, inr, arith}
use Rattle.std.proofs.Math.Bool.{false}
use Prim.Native.Nat.{ℕ, ◌≤◌, ◌<◌}
use borrow.Author.Tests.{eqb-false}
use Rattle.std.proofs.Math.Dec.{eqb}
use Rattle.std.proofs.Math.ListN.{length, get_or}
use Rattle.spec.specs.declared.Params.{Params}
use Rattle.spec.specs.Drives.{View, pointer_at, zone_on, sealed_in, zones_in, chunk_at}
use Rattle.spec.specs.Layout.{header_serial, header_copied, header_zone, header_zones}
use Rattle.spec.specs.Lists.{below, all, is_in}
use Rattle.spec.specs.Params.{capacity, present}
use Rattle.spec.specs.Segments.{low_drive, header_at, remaining, Segment, segment_of}
use Rattle.law_basic.specs.Geometry.{Ranged}
use Rattle.proof_crash_machine.specs.Exec.{true≢false}
use Rattle.proof_crash_machine.specs.Facts.{Ghost, Choice, R, Used, Ragged, used}
use Rattle.proof_crash_items.specs.Member.{Has}
use Rattle.proof_crash_items.specs.Named.{present_has}
use Rattle.proof_crash_items.specs.Ranges.{par_of}
use Rattle.proof_crash_items.specs.Segs.{OnDrives, trusted, low-serials, remaining_has, SegAt, its_zones, low_names, name_of, named_seg, remains_at_holds, seg_bytes, seg_len}
use Rattle.proof_crash_items.specs.Segs.{head_names, segs_zones_same}
use Rattle.proof_crash_items.specs.Stripes.{pointer_is}
use Rattle.spec.specs.declared.Seg.{Seg}
use Rattle.law_basic.specs.Segs.{zones_in_is}
use Rattle.law_basic.specs.Ranges.{get_d_map-below, map-below_same}
use Rattle.proof_crash_items.specs.Items.{named_zones}
use Rattle.proof_crash_machine.specs.View.{ItemView}
use Rattle.proof_crash_items.specs.Segs.{drive_here}

pub all_false : {A : Type 0} (f : A → Bool) (l : List A) → all f l ≡ false → (a : A) × Has a l × (f a ≡ false)
unfolding all
all_false f [] e = true≢false (sym e)
all_false {A} f (b ∷ l) e = go (f b) refl e (all_false f l)
  where
    go : (t : Bool) → f b ≡ t → (t && all f l) ≡ false → (all f l ≡ false → (a : A) × Has a l × (f a ≡ false)) → (a : A) × Has a (b ∷ l) × (f a ≡ false)
    go true q e ih = ((ih e).0, inr (ih e).1, (ih e).2)
    go false q e ih = (b, inl refl, q)

module _ (p : Params) (r : Ranged p) (off : List ℕ) (g : Ghost) (v : View) (u : ItemView) (k : OnDrives p r off g v u) (m : ℕ) (c : Choice (par_of p r off) g.un (is_in m)) where
  abbrev G : Seg → Segment
  G z = segment_of p v m z

  pub segment-fields :
      (z : Seg)
      → ((G z).seg ≡ z) × ((G z).serial ≡ header_serial p (header_at v (low_drive p m) z)) ×
      ((G z).copied ≡ header_copied p (header_at v (low_drive p m) z)) × ((G z).full ≡ sealed_in p v m z) × ((G z).names ≡ header_zones p (header_at v (low_drive p m) z))
  unfolding segment_of
  segment-fields z = (refl, refl, refl, refl, refl)

  module _ (z : Seg) (i : Has z (remaining p v m)) where
    abbrev seg_there : SegAt p v u m z (name_of p v m z)
    seg_there = remains_at_holds p r off g v u k m c z i

    pub seg-R : R (par_of p r off) g.hd u (is_in m) (name_of p v m z)
    seg-R = (remaining_has p r off g v u k m c z i).0

    its_head : {A : Type 0} (f : List ℕ → A) → f (header_at v (low_drive p m) z) ≡ f (header_at v (low_drive p m) (named_seg p g (name_of p v m z)))
    its_head f = ap (λ (x : Seg). f (header_at v (low_drive p m) x)) (remaining_has p r off g v u k m c z i).1

    pub begun_on : (d : ℕ) → d < p.N → is_in m d ≡ false → 0 < pointer_at v d (zone_on z d)
    begun_on d l n = omega (arith, seg-R.left d l n, seg_len p r off g v u k m c z seg_there d l n)

    pub seg_used : Used (par_of p r off) g.un u (name_of p v m z)
    seg_used = used (par_of p r off) g u (is_in m) (name_of p v m z) c seg-R.left

    -- its serial is its name
    pub serial_name : (G z).serial ≡ name_of p v m z
    unfolding name_of
    serial_name = (segment-fields z).1

    pub serial_ghost : (G z).serial ≡ g.hd.ser (name_of p v m z)
    serial_ghost = serial_name ∙ sym (k.placed.is (name_of p v m z) seg_used)

    pub copied_ghost : (G z).copied ≡ g.hd.cop (name_of p v m z)
    copied_ghost = (segment-fields z).2 ∙ its_head (header_copied p) ∙ (low-serials p r off g v u k m c (name_of p v m z) seg-R.left).1

    -- the zones that its header names are its own
    pub seg_names : (G z).names ≡ zones_in p z
    seg_names =
        (segment-fields z).4 ∙ its_head (header_zones p)
        ∙ as_zones ∙ sym (zones_in_is p z)
      where
        a : ℕ
        a = low_drive p m

        b : List ℕ
        b = header_at v a (named_seg p g (name_of p v m z))

        names : named_zones p b ≡ g.hd.zn (name_of p v m z)
        names = low_names p r off g v u k m c (name_of p v m z) seg-R.left

        at : (d : ℕ) → d < p.N → zone_on z d ≡ header_zone p b d
        at d l = its_zones p r off g v u k m c z i d l ∙ ap (λ (f : ℕ → ℕ). f d) (sym names) ∙ (unfold named_zones header_zones in get_d_map-below (header_zone p b) p.N d 0 l)

        as_zones : header_zones p b ≡ map (zone_on z) (below p.N)
        as_zones = unfold header_zones in map-below_same (header_zone p b) (zone_on z) p.N (λ d l. sym (at d l))

    -- so are those that the machine's header names, on every drive
    pub seg_zn : (λ (e : ℕ). get_or (zones_in p z) e 0) ≡ g.hd.zn (name_of p v m z)
    seg_zn =
        (λ j e. get_or (sym seg_names j) e 0) ∙ named ∙ its_head (named_zones p) ∙ low_names p r off g v u k m c (name_of p v m z) seg-R.left
      where
        named : (λ (e : ℕ). get_or (G z).names e 0) ≡ named_zones p (header_at v (low_drive p m) z)
        named = unfold named_zones in (λ j e. get_or ((segment-fields z).4 j) e 0)

    -- the headers on the present drives agree
    pub heads_alike : (d : ℕ) → d < p.N → is_in m d ≡ false
        → (header_zones p (header_at v d z) ≡ (G z).names) × (header_serial p (header_at v d z) ≡ (G z).serial) × (header_copied p (header_at v d z) ≡ (G z).copied)
    unfolding header_at
    heads_alike d l q =
        let a : ℕ = low_drive p m in
        let h = drive_here p r off g v u k m c in
        let x = head_names p r off g v u k d (zone_on z d) (name_of p v m z) l (trusted p r off g v u k m c d l q) (seg_there.low d l q) (seg_there.good d l q) (seg_there.items d l q)
        (begun_on d l q) in
        let y = head_names p r off g v u k a (zone_on z a) (name_of p v m z) h.0 (trusted p r off g v u k m c a h.0 h.1) (seg_there.low a h.0 h.1) (seg_there.good a h.0 h.1)
        (seg_there.items a h.0 h.1) (begun_on a h.0 h.1) in (
          segs_zones_same p (chunk_at v d (zone_on z d) 0).block (chunk_at v a (zone_on z a) 0).block (x.2 ∙ sym y.2) ∙ sym (segment-fields z).4,
          x.0 ∙ sym y.0 ∙ sym (segment-fields z).1,
          x.1 ∙ sym y.1 ∙ sym (segment-fields z).2,
        )

    -- an unsealed one is ragged
    pub ragged_of : (G z).full ≡ false → Ragged (par_of p r off) (is_in m) u (name_of p v m z)
    unfolding sealed_in
    ragged_of e =
        let a : (d : ℕ) × Has d (present p m) × (eqb (pointer_at v d (zone_on z d)) (capacity p) ≡ false) =
        all_false (λ d. eqb (pointer_at v d (zone_on z d)) (capacity p)) (present p m) (sym (segment-fields z).3 ∙ e) in
        let l : (a.0 < p.N) × (is_in m a.0 ≡ false) = present_has p m a.0 a.1 in
        let t : g.un a.0 ≡ false = trusted p r off g v u k m c a.0 l.0 l.1 in
        let n : length (u a.0 (name_of p v m z)) ≡ pointer_at v a.0 (zone_on z a.0) = seg_len p r off g v u k m c z seg_there a.0 l.0 l.1 in
        let w : pointer_at v a.0 (zone_on z a.0) ≢ capacity p = eqb-false (pointer_at v a.0 (zone_on z a.0)) (capacity p) a.2 in
        let h : pointer_at v a.0 (zone_on z a.0) ≤ capacity p = subst (λ (x : ℕ). x ≤ capacity p) (pointer_is v a.0 (zone_on z a.0))
        (seg_bytes p r off g v u k m c z seg_there a.0 l.0 l.1).low in
        (a.0, l, omega (arith, n, begun_on a.0 l.0 l.1), omega (arith, n, w, h))
