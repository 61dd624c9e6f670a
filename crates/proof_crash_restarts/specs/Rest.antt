-- After the resets of a healthy restart: the same segments remain, all that is used does, and no pair is left. Assumes nothing.
use Rattle.std.specs.Prelude.{◌≡◌, Bool, false, ◌&&◌, ℕ, ◌<◌, get_or}
use Rattle.std.proofs.Math.Path.{refl, sym, ap, ap₂, subst}
use Rattle.std.proofs.Common.{◌∙◌, inl, inr, arith}
use mathlib.Core.List.{List, [], ◌∷◌, map}
use Rattle.std.proofs.Math.Bool.{true, not}
use Rattle.std.proofs.Math.Dec.{eqb}
use Rattle.std.proofs.Math.ListN.{length}
use Rattle.spec.specs.declared.Params.{Params}
use Rattle.spec.specs.declared.Seg.{Seg}
use Rattle.spec.specs.Drives.{View, Zone, zone_at, pointer_at, store_view_of, store_all, zone_on, reset_zone, chunk_at, is_good, no_chunk}
use Rattle.spec.specs.Lists.{any, is_in}
use Rattle.spec.specs.Restart.{drop_stores}
use Rattle.spec.specs.Segments.{is_used, serial_in, remaining, Segment, segment_of, segments, low_drive}
use Rattle.law_basic.specs.Geometry.{Ranged}
use Rattle.law_basic.specs.Mask.{is_in_empty}
use Rattle.law_basic.specs.Ranges.{Test, test}
use Rattle.law_basic.specs.Ranges.Test.{yes!, no! }
use Rattle.law_drives.specs.Dropping.{drops_at, drop_reset, drop_keeps}
use Rattle.law_drives.specs.Tests.{clash, and_false_right}
use Rattle.law_drives.specs.Zones.{Sized}
use Rattle.proof_crash_machine.specs.Drop.{dropped_end, settle_facts}
use Rattle.proof_crash_machine.specs.Facts.Pair.{alone}
use Rattle.proof_crash_machine.specs.Facts.{Ghost, R, Used, Facts, used, None, Choice}
use Rattle.proof_crash_machine.specs.Ghosts.{with_pr}
use Rattle.proof_crash_machine.specs.Rest.{Dropped, rest_of}
use Rattle.proof_crash_machine.specs.View.{Item, ItemView, apply_all}
use Rattle.proof_crash_items.specs.Carry.{Tie, on_tie, tie_on, tie_after}
use Rattle.proof_crash_items.specs.Found.{has_of, of_has}
use Rattle.proof_crash_items.specs.Items.{items_in}
use Rattle.proof_crash_items.specs.Member.{Has}
use Rattle.proof_crash_items.specs.Named.{zero_choice, none_out, zero_few}
use Rattle.proof_crash_items.specs.Places.{lies_used}
use Rattle.proof_crash_items.specs.Ranges.{par_of}
use Rattle.proof_crash_items.specs.Refuse.{remaining-rising}
use Rattle.proof_crash_items.specs.Segs.{segs_name_is, OnDrives, On, is_on, segs_used_of, segs_of_used, borne_by, name_of, named_seg, drive_here, has_remaining, remaining_has}
use Rattle.proof_crash_items.specs.Segs.{remains_at_holds, its_zones, zone_len_holds}
use Rattle.proof_crash_restarts.specs.Drops.{drop_items, drops_follow, drops_used, dropping}
use Rattle.proof_crash_restarts.specs.Order.{segs_same}
use Rattle.proof_crash_restarts.specs.Same.{segment_same, R_none_any}
use Rattle.spec.specs.Layout.{header_serial}

-- drives with the facts, none missing, no pair, where all that is used remains
pub record SettledOn (p : Params) (r : Ranged p) (off : List ℕ) (g : Ghost) (v : View) (u : ItemView) : Type 0 where
  pub on : OnDrives p r off g v u
  pub none : None (par_of p r off) g.un
  pub no_pair : g.pr ≡ alone
  pub rest : (z : ℕ) → Used (par_of p r off) g.un u z → R (par_of p r off) g.hd u g.un z

module _ (p : Params) (r : Ranged p) (off : List ℕ) (g : Ghost) (v : View) (u : ItemView) (k : SettledOn p r off g v u) where
  pub far_off : None (par_of p r off) (is_in 0)
  far_off = none_out p r off

  -- by name
  pub settled_remains : (n : ℕ) → Used (par_of p r off) g.un u n → Has (named_seg p g n) (remaining p v 0)
  settled_remains n i =
      has_remaining p r off g v u k.on 0 (zero_choice p r off g.un k.none) n (R_none_any (par_of p r off) g.hd u g.un (is_in 0) k.none far_off n (k.rest n i))

  pub settled_name : (n : ℕ) → Used (par_of p r off) g.un u n → name_of p v 0 (named_seg p g n) ≡ n
  settled_name n i = segs_name_is p r off g v u k.on 0 (zero_choice p r off g.un k.none) n
      (R_none_any (par_of p r off) g.hd u g.un (is_in 0) k.none far_off n (k.rest n i)).left

  pub settled_used : (z : Seg) → Has z (remaining p v 0) → Used (par_of p r off) g.un u (name_of p v 0 z) × (z ≡ named_seg p g (name_of p v 0 z))
  settled_used z i =
      let (h, e) = remaining_has p r off g v u k.on 0 (zero_choice p r off g.un k.none) z i in
      (used (par_of p r off) g u (is_in 0) (name_of p v 0 z) (zero_choice p r off g.un k.none) h.left, e)

module _ (p : Params) (r : Ranged p) (off : List ℕ) (g : Ghost) (v : View) (u : ItemView) (k : OnDrives p r off g v u) (none : None (par_of p r off) g.un) where
  abbrev v₁ : View
  v₁ = store_all store_view_of (drop_stores p v (segments p v 0)) v

  abbrev u₁ : ItemView
  u₁ = apply_all u (drop_items p v (segments p v 0))

  abbrev g₁ : Ghost
  g₁ = with_pr g alone

  abbrev c₀ : Choice (par_of p r off) g.un (is_in 0)
  c₀ = zero_choice p r off g.un none

  rest₁ : (z : ℕ) → Used (par_of p r off) g.un u₁ z → R (par_of p r off) g.hd u₁ g.un z
  rest₁ = rest_of (par_of p r off) g u k.facts none (drop_items p v (segments p v 0)) (dropping p r off g v u k none).are (dropping p r off g v u k none).every

  pub after_facts : Facts (par_of p r off) g₁ u₁
  after_facts = settle_facts (par_of p r off) g none u₁
      (dropped_end (par_of p r off) g none (Dropped (par_of p r off) g u) u (drop_items p v (segments p v 0)) (dropping p r off g v u k none).are k.facts (λ z n. n)) rest₁

  pub after_tie : Tie p r off g.un g.hd v₁ u₁
  after_tie = tie_after p r off g.un g.hd v u (on_tie p r off g v u k) (Used (par_of p r off) g.un u) (lies_used (par_of p r off) g (items_in p v) u k.facts k.placed)
      (drop_stores p v (segments p v 0)) (drop_items p v (segments p v 0)) (drops_follow p r off g v u k none (segments p v 0) v) (drops_used p r off g v u k none (segments p v 0))

  pub after_settled : SettledOn p r off g₁ v₁ u₁
  after_settled = record { on = tie_on p r off g₁ v₁ u₁ after_tie after_facts; none = none; no_pair = refl; rest = rest₁ }

  on₁ : OnDrives p r off g₁ v₁ u₁
  on₁ = after_settled.on

  -- ---- zone by zone: those whose serial does not remain are empty, the others are as they were

  sized : Sized p v
  sized = record { drives_long = k.shape.drives; zones_long = k.shape.zones }

  abbrev drops? : ℕ → ℕ → Bool
  drops? d z = drops_at p v (segments p v 0) d z

  rest_kepts : (d z : ℕ) → d < p.N → z < p.Z → drops? d z ≡ false → zone_at v₁ d z ≡ zone_at v d z
  rest_kepts d z l b q = drop_keeps p v (segments p v 0) sized d z l b q

  pub gone_pointer : (d z : ℕ) → d < p.N → z < p.Z → drops? d z ≡ true → pointer_at v₁ d z ≡ 0
  unfolding pointer_at
  gone_pointer d z l b q = ap (λ (x : Zone). x.pointer) (drop_reset p v (segments p v 0) sized d z l b q) ∙ (unfold reset_zone in refl)

  -- zones of segments that remain are untouched
  stays : (d : ℕ) (z : Seg) → d < p.N → Has z (remaining p v 0) → drops? d (zone_on z d) ≡ false
  unfolding drops_at
  stays d z l i = and_false_right (is_used p v d (zone_on z d)) (not (any (λ (g : Segment). eqb g.serial (serial_in p v d (zone_on z d))) (segments p v 0)))
      (ap not (subst (λ (x : ℕ). any (λ (g : Segment). eqb g.serial x) (segments p v 0) ≡ true) (sym serial)
      (has_of p r off g v u k 0 c₀ (name_of p v 0 z) (remaining_has p r off g v u k 0 c₀ z i).0)))
    where
      serial : serial_in p v d (zone_on z d) ≡ name_of p v 0 z
      serial = ap (serial_in p v d) (its_zones p r off g v u k 0 c₀ z i d l)
          ∙ (is_on p r off g v u k d (name_of p v 0 z) l (none d l) ((remaining_has p r off g v u k 0 c₀ z i).0.left d l (is_in_empty d))).serial

  pub kept_zone_after : (d : ℕ) (z : Seg) → d < p.N → Has z (remaining p v 0) → zone_at v₁ d (zone_on z d) ≡ zone_at v d (zone_on z d)
  kept_zone_after d z l i = rest_kepts d (zone_on z d) l ((remains_at_holds p r off g v u k 0 c₀ z i).low d l (is_in_empty d)) (stays d z l i)

  -- a zone that is used after the resets is as it was, and its serial remains
  pub rest_used_after : (d z : ℕ) → d < p.N → z < p.Z → is_used p v₁ d z ≡ true → (zone_at v₁ d z ≡ zone_at v d z) × R (par_of p r off) g.hd u (is_in 0) (serial_in p v d z)
  rest_used_after d z l b q = go (test (drops? d z))
    where
      pos : 0 < pointer_at v₁ d z
      pos = (segs_of_used p v₁ d z q).1

      same_offline : v₁.offline ≡ v.offline
      same_offline = on₁.offline ∙ sym k.offline

      go : Test (drops? d z) → (zone_at v₁ d z ≡ zone_at v d z) × R (par_of p r off) g.hd u (is_in 0) (serial_in p v d z)
      go (yes! e) = absurd (let j : ⊥ = omega (arith, gone_pointer d z l b e, pos) in j)
      go (no! e) = (rest_kepts d z l b e, of_has p r off g v u k 0 c₀ (serial_in p v d z) (there (test (any (λ (g : Segment). eqb g.serial (serial_in p v d z)) (segments p v 0)))))
        where
          used_then : is_used p v d z ≡ true
          used_then = unfold is_used pointer_at in (ap₂ (λ (x : List ℕ) (y : Zone). is_good p x d z && not (eqb y.pointer 0)) (sym same_offline) (sym (rest_kepts d z l b e)) ∙ q)

          dropped : any (λ (g : Segment). eqb g.serial (serial_in p v d z)) (segments p v 0) ≡ false → drops? d z ≡ true
          dropped t = unfold drops_at in ap₂ (λ (x y : Bool). x && not y) used_then t

          there : Test (any (λ (g : Segment). eqb g.serial (serial_in p v d z)) (segments p v 0)) → any (λ (g : Segment). eqb g.serial (serial_in p v d z)) (segments p v 0) ≡ true
          there (yes! t) = t
          there (no! t) = clash (dropped t) e

  -- what is in use after the resets remained before
  pub rest_was : (y : ℕ) → Used (par_of p r off) g.un u₁ y → R (par_of p r off) g.hd u (is_in 0) y
  rest_was y (d, t, b) =
      let o : On p r off g₁ v₁ u₁ on₁ d y = is_on p r off g₁ v₁ u₁ on₁ d y t.0 (none d t.0) b in
      let (w, q) = rest_used_after d (g.hd.zn y d) t.0 o.low (segs_used_of p v₁ d (g.hd.zn y d) o.good o.begun) in
      subst (R (par_of p r off) g.hd u (is_in 0)) (serial_kept d (g.hd.zn y d) w ∙ o.serial) q
    where
      serial_kept : (d z : ℕ) → zone_at v₁ d z ≡ zone_at v d z → serial_in p v d z ≡ serial_in p v₁ d z
      serial_kept d z e = unfold serial_in chunk_at in ap (λ (q : Zone). header_serial p (get_or q.blocks 0 no_chunk).block) (sym e)

  -- ---- the same segments remain
  d0 : 0 < p.N
  d0 = omega (arith, r.drives_low)

  abbrev same_name : (n : ℕ) → named_seg p g₁ n ≡ named_seg p g n
  same_name n = unfold named_seg in refl

  same_fwd : (z : Seg) → Has z (remaining p v 0) → Has z (remaining p v₁ 0)
  same_fwd z i =
      let n : ℕ = name_of p v 0 z in
      let (h, e) = remaining_has p r off g v u k 0 c₀ z i in
      let o : On p r off g v u k 0 n = is_on p r off g v u k 0 n d0 (none 0 d0) (h.left 0 d0 (is_in_empty 0)) in
      let y : ℕ = g.hd.zn n 0 in
      let ez : zone_on z 0 ≡ g.hd.zn n 0 = its_zones p r off g v u k 0 c₀ z i 0 d0 in
      let w : zone_at v₁ 0 (g.hd.zn n 0) ≡ zone_at v 0 (g.hd.zn n 0) = subst (λ (x : ℕ). zone_at v₁ 0 x ≡ zone_at v 0 x) ez (kept_zone_after 0 z d0 i) in
      subst (λ (x : Seg). Has x (remaining p v₁ 0)) (same_name n ∙ sym e)
      (settled_remains p r off g₁ v₁ u₁ after_settled n (0, (d0, none 0 d0), begun n o w))
    where
      begun : (n : ℕ) → On p r off g v u k 0 n → zone_at v₁ 0 (g.hd.zn n 0) ≡ zone_at v 0 (g.hd.zn n 0) → 0 < length (u₁ 0 n)
      begun n o w =
          let y : ℕ = g.hd.zn n 0 in
          let pt : pointer_at v₁ 0 (g.hd.zn n 0) ≡ pointer_at v 0 (g.hd.zn n 0) = (unfold pointer_at in ap (λ (x : Zone). x.pointer) w) in
          let gd : is_good p v₁.offline 0 (g.hd.zn n 0) ≡ true = ap (λ (x : List ℕ). is_good p x 0 (g.hd.zn n 0)) (on₁.offline ∙ sym k.offline) ∙ o.good in
          let us : is_used p v₁ 0 (g.hd.zn n 0) ≡ true = segs_used_of p v₁ 0 (g.hd.zn n 0) gd (omega (arith, pt, o.begun)) in
          let sr : serial_in p v₁ 0 (g.hd.zn n 0) ≡ n = serial_kept 0 (g.hd.zn n 0) w ∙ o.serial in
          let (it, _) = borne_by p r off g₁ v₁ u₁ on₁ 0 (g.hd.zn n 0) d0 (none 0 d0) o.low us in
          subst (λ (x : List Item). 0 < length x) (it ∙ ap (u₁ 0) sr) (omega (arith, pt, o.begun, zone_len_holds p r off g₁ v₁ u₁ on₁ 0 (g.hd.zn n 0) d0 (none 0 d0) o.low gd))
        where
          serial_kept : (d z : ℕ) → zone_at v₁ d z ≡ zone_at v d z → serial_in p v₁ d z ≡ serial_in p v d z
          serial_kept d z e = unfold serial_in chunk_at in ap (λ (q : Zone). header_serial p (get_or q.blocks 0 no_chunk).block) e

  same_bwd : (z : Seg) → Has z (remaining p v₁ 0) → Has z (remaining p v 0)
  same_bwd z i =
      let n : ℕ = name_of p v₁ 0 z in
      let (h, e) = remaining_has p r off g₁ v₁ u₁ on₁ 0 (zero_choice p r off g.un none) z i in
      let o : On p r off g₁ v₁ u₁ on₁ 0 n = is_on p r off g₁ v₁ u₁ on₁ 0 n d0 (none 0 d0) (h.left 0 d0 (is_in_empty 0)) in
      let (w, q) = rest_used_after 0 (g.hd.zn n 0) d0 o.low (segs_used_of p v₁ 0 (g.hd.zn n 0) o.good o.begun) in
      subst (λ (x : Seg). Has x (remaining p v 0)) (sym (e ∙ same_name n))
      (has_remaining p r off g v u k 0 c₀ n (subst (R (par_of p r off) g.hd u (is_in 0)) (serial_kept 0 (g.hd.zn n 0) w ∙ o.serial) q))
    where
      serial_kept : (d z : ℕ) → zone_at v₁ d z ≡ zone_at v d z → serial_in p v d z ≡ serial_in p v₁ d z
      serial_kept d z e = unfold serial_in chunk_at in ap (λ (q : Zone). header_serial p (get_or q.blocks 0 no_chunk).block) (sym e)

  pub remaining_same : remaining p v₁ 0 ≡ remaining p v 0
  remaining_same = segs_same (low_drive p 0) (remaining p v₁ 0) (remaining p v 0)
      (remaining-rising p v₁ 0 (drive_here p r off g v u k 0 c₀)) (remaining-rising p v 0 (drive_here p r off g v u k 0 c₀)) same_bwd same_fwd

  map_has_same : (l : List Seg) → ((z : Seg) → Has z l → Has z (remaining p v 0)) → map (segment_of p v₁ 0) l ≡ map (segment_of p v 0) l
  map_has_same [] h = refl
  map_has_same (z ∷ l) h =
      ap₂ (λ (x : Segment) (y : List Segment). x ∷ y) (segment_same p r v v₁ 0 z (zero_few p r) (λ d b. kept_zone_after d z b (h z (inl refl)))) (map_has_same l (λ y i. h y (inr i)))

  pub segments_same : segments p v₁ 0 ≡ segments p v 0
  unfolding segments
  segments_same = ap (map (segment_of p v₁ 0)) remaining_same ∙ map_has_same (remaining p v 0) (λ z i. i)
