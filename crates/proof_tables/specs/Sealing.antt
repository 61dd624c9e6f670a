-- Footers are stored: where they fall, that they fit, and that a segment sealed by them says the same. Assumes nothing.
use Rattle.std.specs.Prelude.{◌≡◌, Bool, eqb, length, get_or}
use Rattle.std.proofs.Math.Path.{refl, ap}
use Rattle.std.proofs.Common.{sym, ◌∙◌, subst, le_of_eq, eq-eqb, ne_eqb}
use mathlib.Core.List.{List, [], map}
use Rattle.std.proofs.Math.Bool.{true, false}
use Prim.Native.Nat.{ℕ, ◌+◌, ◌-◌, min, ◌<◌}
use Rattle.std.proofs.Math.Decide.{ℕ_discrete}
use native.Mathlib.Omega.{arith}
use Rattle.spec.specs.declared.Params.{Params}
use Rattle.spec.specs.Drives.{Chunk, no_chunk, Zone, View, zone_at, pointer_at, chunk_at, Store, store_view_of, store_all, zone_on, sealed_in, data_stored, record_in, footer_stores}
use Rattle.spec.specs.Landing.{seal_stores}
use Rattle.spec.specs.Lists.{below, all, flat}
use Rattle.spec.specs.Params.{footers, capacity, drives_of, present}
use Rattle.spec.specs.Segments.{header_at, records_in}
use Rattle.law_basic.specs.Geometry.{Ranged}
use Rattle.law_drives.specs.Footers.{within_each, footer_chunks, footer_puts, footers-count, footer_rooms, footer_records, hits_each}
use Rattle.law_drives.specs.Growing.{Grows}
use Rattle.law_drives.specs.Members.{In, in_all, map_cong, flat_cong, below_in}
use Rattle.law_drives.specs.Puts.{put_at, put_all, puts_pointer, puts_old}
use Rattle.law_drives.specs.Range.{capacity_is, capacity_over}
use Rattle.law_drives.specs.Settled.{sealed_full, its_zone, its_zones_low}
use Rattle.law_drives.specs.Tests.{not_so, cond_true, cond_false, eqb_self}
use Rattle.law_drives.specs.Zones.{Shaped, zone_store, hits, zone_after, Room, Within, Roomy}
use Rattle.spec.specs.declared.Seg.{Seg}
use Rattle.law_basic.specs.Segs.{zone_is}
use Rattle.law_drives.specs.Gather.{present_in}
use Rattle.law_drives.specs.Tidy.{There}
use Rattle.law_views.specs.Alike.{offline_after}

-- ---- a segment sealed on every drive

module _ (p : Params) (r : Ranged p) (v : View) (sh : Shaped p v) (z : Seg) (hz : There p v z) (behind : (e : ℕ) → e < p.N → pointer_at v e (zone_on z e) ≡ 1 + p.S) where
  sealing_zl : (e : ℕ) → e < p.N → zone_on z e < p.Z
  sealing_zl e he = (its_zone p r v z hz e he).zone_low

  abbrev ss : List Store
  ss = seal_stores p v z

  abbrev u : View
  u = store_all store_view_of ss v

  ft : ℕ → List Chunk
  ft d = footer_chunks p (zone_at v d (zone_on z d)) 0 (footers p)

  seal_stores_are : ss ≡ flat (λ d. map (put_at d (zone_on z d)) (ft d)) (drives_of p)
  unfolding ft
  seal_stores_are =
      as! (flat_cong (λ d. footer_stores p d (zone_on z d) (zone_at v d (zone_on z d)) 0 (footers p)) (λ d. map (put_at d (zone_on z d)) (footer_chunks p (zone_at v d (zone_on z d)) 0 (footers p)))
      (drives_of p) (λ d m. footer_puts p d (zone_on z d) (zone_at v d (zone_on z d)) 0 (footers p)))
    where
      as! : flat (λ d. footer_stores p d (zone_on z d) (zone_at v d (zone_on z d)) 0 (footers p)) (drives_of p) ≡ flat
          (λ d. map (put_at d (zone_on z d)) (footer_chunks p (zone_at v d (zone_on z d)) 0 (footers p))) (drives_of p)
          → seal_stores p v z ≡ flat (λ d. map (put_at d (zone_on z d)) (footer_chunks p (zone_at v d (zone_on z d)) 0 (footers p))) (drives_of p)
      as! e = unfold seal_stores in e

  filled_zone_pointer : (e : ℕ) → e < p.N → (zone_at v e (zone_on z e)).pointer ≡ 1 + p.S
  filled_zone_pointer e he = as! (behind e he)
    where
      as! : pointer_at v e (zone_on z e) ≡ 1 + p.S → (zone_at v e (zone_on z e)).pointer ≡ 1 + p.S
      as! q = unfold pointer_at in q

  pub seal_zone : (e : ℕ) → e < p.N → zone_at u e (zone_on z e) ≡ put_all e (zone_on z e) (footer_chunks p (zone_at v e (zone_on z e)) 0 (footers p)) (zone_at v e (zone_on z e))
  unfolding ft
  seal_zone e he =
      zone_after p v e (zone_on z e) ss sh.sized he (sealing_zl e he)
      ∙ ap (λ (l : List Store). store_all zone_store l (zone_at v e (zone_on z e)))
      (ap (hits e (zone_on z e)) seal_stores_are ∙ hits_each p e (zone_on z e) (zone_on z) ft he
      ∙ cond_true (eqb (zone_on z e) (zone_on z e)) (map (put_at e (zone_on z e)) (ft e)) [] (eqb_self (zone_on z e)))

  sealing_off_zone : (e y : ℕ) → e < p.N → (y ≡ zone_on z e → ⊥) → hits e y ss ≡ []
  unfolding ft
  sealing_off_zone e y he n =
      ap (hits e y) seal_stores_are ∙ hits_each p e y (zone_on z) ft he ∙ cond_false (eqb (zone_on z e) y) (map (put_at e (zone_on z e)) (ft e)) [] (ne_eqb (zone_on z e) y (λ q. n (sym q)))

  pub seal_other : (e y : ℕ) → e < p.N → y < p.Z → (y ≡ zone_on z e → ⊥) → zone_at u e y ≡ zone_at v e y
  seal_other e y he hy n =
      zone_after p v e y ss sh.sized he hy ∙ ap (λ (l : List Store). store_all zone_store l (zone_at v e y)) (sealing_off_zone e y he n) ∙ nothing
    where
      nothing : store_all zone_store [] (zone_at v e y) ≡ zone_at v e y
      nothing = unfold store_all in refl

  pub seal_pointer : (e : ℕ) → e < p.N → pointer_at u e (zone_on z e) ≡ capacity p
  seal_pointer e he = as! (ap (λ (q : Zone). q.pointer) (seal_zone e he) ∙ puts_pointer e (zone_on z e) (footer_chunks p (zone_at v e (zone_on z e)) 0 (footers p)) (zone_at v e (zone_on z e))
      ∙ (let a = filled_zone_pointer e he in let b = footers-count p r (zone_at v e (zone_on z e)) (sh.zone_ok e (zone_on z e) he (sealing_zl e he)) 0 (footers p) in let c = capacity_is p r in let
      x : (zone_at v e (zone_on z e)).pointer + length (footer_chunks p (zone_at v e (zone_on z e)) 0 (footers p))
      ≡ capacity p = omega arith in x))
    where
      as! : (zone_at u e (zone_on z e)).pointer ≡ capacity p → pointer_at u e (zone_on z e) ≡ capacity p
      as! q = unfold pointer_at in q

  pub seal_roomy : Roomy p v ss
  unfolding ft
  seal_roomy e k he hk = go (ℕ_discrete k (zone_on z e))
    where
      fit : Room p (pointer_at v e (zone_on z e)) (map (put_at e (zone_on z e)) (ft e))
      fit =
          as! (footer_rooms p r (zone_at v e (zone_on z e)) (sh.zone_ok e (zone_on z e) he (sealing_zl e he)) e (zone_on z e) 0 (footers p)
          (let a = filled_zone_pointer e he in let c = capacity_is p r in omega arith))
        where
          as! : Room p (zone_at v e (zone_on z e)).pointer (map (put_at e (zone_on z e)) (footer_chunks p (zone_at v e (zone_on z e)) 0 (footers p)))
              → Room p (pointer_at v e (zone_on z e)) (map (put_at e (zone_on z e)) (ft e))
          as! x = unfold pointer_at ft in x

      go : Dec (k ≡ zone_on z e) → Room p (pointer_at v e k) (hits e k ss)
      go (no n) = subst (λ (l : List Store). Room p (pointer_at v e k) l) (sym (sealing_off_zone e k he n)) tt
      go (yes q) = subst (λ (x : ℕ). Room p (pointer_at v e x) (hits e x ss)) (sym q)
          (subst (λ (l : List Store). Room p (pointer_at v e (zone_on z e)) l)
          (sym (ap (hits e (zone_on z e)) seal_stores_are ∙ hits_each p e (zone_on z e) (zone_on z) ft he
          ∙ cond_true (eqb (zone_on z e) (zone_on z e)) (map (put_at e (zone_on z e)) (ft e)) [] (eqb_self (zone_on z e)))) fit)

  pub seal_within : (s : Store) → In s ss → Within p s
  unfolding ft
  seal_within s m = within_each p z ft (its_zones_low p r v z hz) s (subst (λ (l : List Store). In s l) seal_stores_are m)

  pub seal_grows : Grows p v u z
  seal_grows = record {
    zone_is = hz;
    others = seal_other;
    used_before = λ e he. let a = behind e he in omega arith;
    used_now = λ e he. let a = seal_pointer e he in let c = capacity_over p r in omega arith;
    low_now = λ e he. le_of_eq (seal_pointer e he);
    same_head = head;
    same_offline = offline_after ss v;
  }
    where
      head : (e : ℕ) → e < p.N → header_at v e z ≡ header_at u e z
      head e he =
          as! (sym (ap (λ (q : Zone). (get_or q.blocks 0 no_chunk).block) (seal_zone e he)
          ∙ ap (λ (c : Chunk). c.block)
          (puts_old e (zone_on z e) (footer_chunks p (zone_at v e (zone_on z e)) 0 (footers p)) (zone_at v e (zone_on z e)) 0 (let a = filled_zone_pointer e he in omega arith))))
        where
          as! : (get_or (zone_at v e (zone_on z e)).blocks 0 no_chunk).block ≡ (get_or (zone_at u e (zone_on z e)).blocks 0 no_chunk).block → header_at v e z ≡ header_at u e z
          as! e = unfold header_at chunk_at in e

  pub seal_sealed : sealed_in p u 0 z ≡ true
  seal_sealed = as! (in_all (λ e. eqb (pointer_at u e (zone_on z e)) (capacity p)) (present p 0) (λ e m. eq-eqb (pointer_at u e (zone_on z e)) (capacity p) (seal_pointer e (present_in p 0 e m).0)))
    where
      as! : all (λ e. eqb (pointer_at u e (zone_on z e)) (capacity p)) (present p 0) ≡ true → sealed_in p u 0 z ≡ true
      as! q = unfold sealed_in in q

  open_yet : sealed_in p v 0 z ≡ false
  open_yet = not_so (sealed_in p v 0 z) (λ q.
      let h0 : 0 < p.N = omega (arith, r.drives_low) in
      let a = sealed_full p v z q 0 h0 in
      let b = behind 0 h0 in
      let c = capacity_over p r in
      let bad : ⊥ = omega arith in bad)

  -- it says the same
  pub seal_records : (e : ℕ) → e < p.N → records_in p (sealed_in p v 0 z) (zone_at v e (zone_on z e)) ≡ records_in p (sealed_in p u 0 z) (zone_at u e (zone_on z e))
  seal_records e he =
      ap (λ (w : Bool). records_in p w (zone_at v e (zone_on z e))) open_yet
      ∙ go (zone_at v e (zone_on z e)) (zone_at u e (zone_on z e)) (filled_zone_pointer e he) (at u e (seal_pointer e he))
      (λ x h. sym (ap (λ (q : Zone). record_in p true q x) (seal_zone e he)
      ∙ footer_records p r (zone_at v e (zone_on z e)) (sh.zone_ok e (zone_on z e) he (sealing_zl e he)) e (zone_on z e) (filled_zone_pointer e he) x h))
      ∙ ap (λ (w : Bool). records_in p w (zone_at u e (zone_on z e))) (sym seal_sealed)
    where
      at : (w : View) (e : ℕ) → pointer_at w e (zone_on z e) ≡ capacity p → (zone_at w e (zone_on z e)).pointer ≡ capacity p
      at w e q = unfold pointer_at in q

      go : (q q2 : Zone) → q.pointer ≡ 1 + p.S → q2.pointer ≡ capacity p → ((x : ℕ) → x < p.S → record_in p false q x ≡ record_in p true q2 x)
          → records_in p false q ≡ records_in p true q2
      go q q2 a b f = unfold records_in in
          let n1 : data_stored p q ≡ p.S = (unfold data_stored in (let z : min (q.pointer - 1) p.S ≡ p.S = omega arith in z)) in
          let n2 : data_stored p q2 ≡ p.S = (unfold data_stored in (let c = capacity_over p r in let z : min (q2.pointer - 1) p.S ≡ p.S = omega arith in z)) in
          ap (λ (n : ℕ). map (record_in p false q) (below n)) n1
          ∙ map_cong (record_in p false q) (record_in p true q2) (below p.S) (λ x m. f x (below_in p.S x m))
          ∙ ap (λ (n : ℕ). map (record_in p true q2) (below n)) (sym n2)
