-- The segment that reclaim takes, as the code tells it (01, Reclaim; 02, item 4). Assumes nothing.
use Prim.Native.Nat.{ℕ, ◌+◌, ◌*◌, ◌≤◌, ◌<◌}
use Rattle.call_reclaim_live.specs.Fewest.{taken_as, taken_none, taken_some}
use Rattle.call_reclaim_live.specs.Least.{live_number}
use Rattle.call_reclaim_live.specs.Live.{in_seg, live_below, drive_low}
use Rattle.call_reclaim_live.specs.Owners.{OwnersShown, number_low, number_is, number_place}
use Rattle.spec.specs.Drives.{View, zone_on}
use Rattle.spec.specs.Lists.{Opt, keep}
use Rattle.spec.specs.Lists.Opt.{none, some}
use Rattle.spec.specs.Params.{capacity, place_of, place_block, place_zone, place_drive}
use Rattle.spec.specs.Reclaim.{places_in, flying, Victim, victim_of, victim, is_none, victim_segment, victim_live, idle}
use Rattle.spec.specs.Segments.{place_segment}
use Rattle.spec.specs.declared.Params.{Params}
use Rattle.spec.specs.declared.Seg.{Seg}
use Rattle.spec.specs.declared.State.{State}
use Rattle.law_basic.specs.Geometry.{Ranged, capacity-low, place_again}
use Rattle.law_basic.specs.Segs.{ZonesLow}
use Rattle.law_drives.specs.Members.{keep_cong}
use Rattle.law_drives.specs.Tables.{seg_at}
use Rattle.call_reclaim_victim.specs.Outside.{is_outside}
use Rattle.call_reclaim_victim.specs.Waiting.{is_odd, flying_in, odd_zone, odd_nobody, IdleBelow, place_number, foremost, waiting-found, waiting_live_in, flying_in_lem}
use Rattle.call_reclaim_victim.specs.declared.Chosen.{Chosen}
use Rattle.call_reclaim_victim.specs.declared.Idle.{Idle}
use borrow.Author.Tests.{le-leb, lt-leb, eqb-true}
use Rattle.std.specs.Prelude.{Option, Some, None, unwrap_or, leb, get_or, replicate, true, false, List, ◌≡◌}
use Rattle.std.proofs.Math.ListN.{length}
use Rattle.std.proofs.lemmas.List.{length-replicate}
use Rattle.std.proofs.Math.Bool.{Bool, not}
use Rattle.std.proofs.Math.Path.{sym, ap, subst}
use Rattle.std.proofs.Common.{◌∙◌, arith}
use Rattle.std.proofs.Math.Nat.{mod-lt}

-- what r says of the segment that reclaim takes, with the drives v, the address table tb and the state st
pub record Looked (p : Params) (v : View) (tb : List ℕ) (st : State) (r : Chosen) : Type 0 where
  -- no segment is sealed just if the zone is not below Z
  pub nobody : is_none (victim p v tb) ≡ leb p.Z r.zone
  pub segment : r.zone < p.Z → victim_segment (victim p v tb) ≡ r.segment
  -- its zones are zones, and on drive 0 it has this one
  pub zones_low : r.zone < p.Z → ZonesLow p 0 r.segment
  pub zone_is : r.zone < p.Z → zone_on r.segment 0 ≡ r.zone
  -- how many live blocks it has; 0 where there is no such segment
  pub live : length (victim_live (victim p v tb)) ≡ r.live
  -- the first that is not in flight, if there is one
  pub first : place_number r.first ≡ foremost (idle p v st (victim p v tb))
  -- the lowest zone with a live block that is no data block, if there is one
  pub odd : odd_zone p (victim_live (victim p v tb)) ≡ r.odd
  -- the first one not in flight, where there is one, is a block of the image in that segment
  pub found : (q : ℕ) → place_number r.first ≡ Some q
      → (r.zone < p.Z) × (q < p.N * p.Z * capacity p) × (place_segment p v 0 q ≡ r.segment) × (r.odd ≡ None → is_odd p q ≡ false)
  -- some place of the table is no place of the image; not looked at where no segment is sealed
  pub outside : r.zone < p.Z → r.outside ≡ is_outside p v tb

-- ---- the two cases

-- no segment is sealed
pub looked_none : (p : Params) (v : View) (tb : List ℕ) (st : State) (g : ℕ) → victim p v tb ≡ taken_as p v tb g → p.Z ≤ g → (r : Chosen) → p.Z ≤ r.zone → r.live ≡ 0
    → r.first ≡ None → r.odd ≡ None → Looked p v tb st r
unfolding is_none victim_live idle foremost keep
looked_none p v tb st g taken h r es el ef eo =
    let w : victim p v tb ≡ none = taken ∙ taken_none p v tb g h in
    record {
      nobody = ap is_none w ∙ sym (le-leb p.Z r.zone es);
      segment = λ l. absurd (let q : ⊥ = omega (arith, es, l) in q);
      zones_low = λ l. absurd (let q : ⊥ = omega (arith, es, l) in q);
      zone_is = λ l. absurd (let q : ⊥ = omega (arith, es, l) in q);
      live = ap (λ (x : Opt Victim). length (victim_live x)) w ∙ sym el;
      first = ap place_number ef ∙ sym (ap (λ (x : Opt Victim). foremost (idle p v st x)) w);
      odd = ap (λ (x : Opt Victim). odd_zone p (victim_live x)) w ∙ odd_nobody p ∙ sym eo;
      found = λ q n.
          let k : q + 1 ≡ q = ap (λ (o : Option ℕ). unwrap_or o (q + 1)) (sym (ap place_number ef) ∙ n) in absurd (let z : ⊥ = omega (arith, k) in z);
      outside = λ l. absurd (let q : ⊥ = omega (arith, es, l) in q);
    }

module _ (p : Params) (rg : Ranged p) (v : View) (tb rows ss : List ℕ) (sealed : List Bool) (sh : OwnersShown p v rows ss sealed) (st : State) (g : ℕ) (h : g < p.Z)
    (is : get_or sealed g false ≡ true) (taken : victim p v tb ≡ taken_as p v tb g) where
  abbrev all! : ℕ
  all! = p.N * p.Z * capacity p

  abbrev S : Seg
  S = seg_at p v 0 g

  abbrev live! : List ℕ
  live! = live_below p tb (in_seg p S) all!

  is_some : victim p v tb ≡ some (victim_of p (places_in p tb) S)
  is_some = taken ∙ taken_some p v tb g h

  its_live : victim_live (victim p v tb) ≡ live!
  unfolding victim_live
  its_live = ap victim_live is_some ∙ live_number p rg v tb rows ss sealed sh g h is

  -- its blocks are of it
  of_it : (q : ℕ) → q < all! → in_seg p S q ≡ true → place_segment p v 0 q ≡ S
  unfolding in_seg
  of_it q l e =
      let z : place_zone p q ≡ zone_on S (place_drive p q) = eqb-true (place_zone p q) (zone_on S (place_drive p q)) e in
      let f : place_of p (place_drive p q) (zone_on S (place_drive p q)) (place_block p q) ≡ q = ap (λ (x : ℕ). place_of p (place_drive p q) x (place_block p q)) (sym z) ∙ place_again p q in
      subst (λ (x : ℕ). place_segment p v 0 x ≡ S) f (number_place p rg v rows ss sealed sh g h is (place_drive p q) (place_block p q) (drive_low p rg q l) (low q))
    where
      low : (q : ℕ) → place_block p q < capacity p
      low q = unfold place_block in mod-lt q (omega (arith, capacity-low p rg))

  its_idle : idle p v st (victim p v tb) ≡ keep (λ q. not (flying_in p v st S q)) live!
  unfolding idle
  its_idle = ap (keep (λ q. not (flying p v st q))) its_live
      ∙ keep_cong (λ q. not (flying p v st q)) (λ q. not (flying_in p v st S q)) live!
      (λ q m. let t = waiting_live_in p v st S tb all! q m in ap not (flying_in_lem p v st S q (of_it q t.0 t.1)))

  -- one is
  pub looked_some : (n : ℕ) → length live! ≡ n → (i : Idle) → IdleBelow p v st S tb all! i → (r : Chosen) → r.zone ≡ g → r.segment ≡ S → r.live ≡ n
      → r.first ≡ i.first → r.odd ≡ i.odd → r.outside ≡ is_outside p v tb → Looked p v tb st r
  unfolding is_none victim_segment victim_of
  looked_some n so i wait r ez es el ef eo ex =
      let f : ℕ → Bool = λ q. not (flying_in p v st S q) in
      let e : place_number r.first ≡ foremost (keep f live!) = ap place_number ef ∙ wait.first in
      record {
        nobody = ap is_none is_some ∙ sym (lt-leb p.Z r.zone (omega (arith, ez, h)));
        segment = λ _. ap victim_segment is_some ∙ sym es;
        zones_low = λ _. subst (λ (x : Seg). ZonesLow p 0 x) (sym es) (number_low p rg v rows ss sealed sh g h is);
        zone_is = λ _. ap (λ (x : Seg). zone_on x 0) es ∙ number_is p rg v rows ss sealed sh g h is ∙ sym ez;
        live = ap length its_live ∙ so ∙ sym el;
        first = e ∙ ap foremost (sym its_idle);
        odd = ap (odd_zone p) its_live ∙ sym wait.odd ∙ sym eo;
        found = λ q m.
            let t = waiting-found p v st S tb all! q (sym e ∙ m) in
            (omega (arith, ez, h), t.0, of_it q t.0 t.1 ∙ sym es, λ o. t.2 (sym wait.odd ∙ sym eo ∙ o));
        outside = λ _. ex;
      }

-- ---- clear marks, however many

-- n bytes of them are some, and below the bound of `look_with`
pub marks_long : (n : ℕ) → 0 < n → n < 268435456 → (0 < length {A = ℕ} (replicate n 0)) × (length {A = ℕ} (replicate n 0) < 268435456)
marks_long n low high =
    let e : n ≡ length {A = ℕ} (replicate n 0) = sym (length-replicate {A = ℕ} n 0) in
    (subst (λ (x : ℕ). 0 < x) e low, subst (λ (x : ℕ). x < 268435456) e high)
