-- The segment that reclaim takes: sealed, not the open one; without live blocks, nothing that is read lies in it. Assumes nothing.
use Rattle.std.specs.Prelude.{◌≡◌, List, [], ◌∷◌, map, Bool, true, false, not, ◌⊎◌, ◌≢◌, ℕ, ◌-◌, ◌≤◌, ◌<◌, length}
use Rattle.std.proofs.Math.Path.{refl}
use Rattle.std.proofs.Common.{sym, ap, ◌∙◌, subst, inl, inr, ⊎_elim, arith}
use Rattle.std.proofs.Math.Decide.{ℕ_discrete}
use borrow.Author.Tests.{ne_eqb, eqb-true, eqb-false, not-true, not-false}
use Rattle.std.proofs.Math.Dec.{eqb}
use Rattle.spec.specs.declared.Params.{Params}
use Rattle.spec.specs.declared.State.{State}
use Rattle.spec.specs.Counts.{never_place}
use Rattle.spec.specs.Drives.{View, pointer_at, zone_on, sealed_in}
use Rattle.spec.specs.History.{Send}
use Rattle.spec.specs.Lists.{Opt, below, all, any, is_member_of, keep, flat, is_in}
use Rattle.spec.specs.Lists.Opt.{none, some}
use Rattle.spec.specs.Memory.{stripe_in, landed_in, state_ok, place_at_of}
use Rattle.spec.specs.Params.{capacity, place_of, place_block, place_drive, drives_of, present}
use Rattle.spec.specs.Reclaim.{places_in, segment_places, live_in, Victim, victim_of, fewer, fewest, victim}
use Rattle.law_basic.specs.Geometry.{Ranged, place_again}
use Rattle.law_basic.specs.Mask.{is_in_empty, ones_all}
use Rattle.law_basic.specs.Ranges.{Test, test}
use Rattle.law_basic.specs.Ranges.Test.{yes!, no! }
use Rattle.law_drives.specs.Best.{fewer_is}
use Rattle.law_drives.specs.Tests.{clash}
use Rattle.proof_crash_machine.specs.Facts.{InV, Counted, Off, Facts, None, self_none, Used}
use Rattle.proof_crash_machine.specs.History.{Inv}
use Rattle.proof_crash_machine.specs.History.Mode.{run}
use Rattle.proof_crash_machine.specs.Memory.{Mem}
use Rattle.proof_crash_machine.specs.Reclaim.{Quiet}
use Rattle.proof_crash_machine.specs.Val.{Val, pads, pads_stamp}
use Rattle.proof_crash_machine.specs.View.{Item, ItemView, InI}
use Rattle.proof_crash_machine.specs.View.Item.{chunk}
use Rattle.spec.specs.Segments.{remaining}
use Rattle.proof_crash_items.specs.Segs.{OnDrives, named_seg}
use Rattle.proof_crash_calls.proofs.Entries.{entry_within, entry_low, entry_zone}
use Rattle.proof_crash_calls.specs.Live.{Live}
use Rattle.proof_crash_calls.proofs.Live.{live_inv, live_none, live_drives, live_trust, live_seg_len}
use Rattle.proof_crash_items.specs.Member.{Has, keep_has, has_keep, below_has, has_below, all_has, has_all, any_has, has_any, any_false_in, has_flat, map_has, has_map}
use Rattle.proof_crash_items.specs.Ranges.{capacity_few, par_of}
use Rattle.proof_crash_calls.specs.Base.{eqb_self}
use Rattle.proof_crash_calls.specs.Go.{mst}
use Rattle.proof_crash_calls.proofs.Held.{counted-kept, entry_to}
use Rattle.proof_crash_calls.specs.Held.{Entry, TableOk}
use Rattle.proof_crash_calls.specs.Rel.{SlotOf, in_use_of}
use Rattle.proof_crash_calls.proofs.Sending.{slots_ok}
use Rattle.spec.specs.declared.Seg.{Seg}

-- ---- which segment

opt_none : {A : Type 0} {x : Victim} → none ≡ some x → A
opt_none e = absurd (let z : ◌≡◌ {A = ℕ} 0 1 = cc in let q : ⊥ = omega arith in q)

fewest_in : (o : Opt Victim) (l : List Victim) (x : Victim) → fewest o l ≡ some x → (o ≡ some x) ⊎ Has x l
unfolding fewest
fewest_in o [] x e = inl e
fewest_in o (b ∷ l) x e =
    ⊎_elim (λ (q : fewer o b ≡ some x). ⊎_elim (λ (w : o ≡ some x). inl w) (λ (w : x ≡ b). inr (inl w)) (fewer_is o b x q)) (λ (q : Has x l). inr (inr q)) (fewest_in (fewer o b) l x e)

pub record VictimIs (p : Params) (v : View) (tb : List ℕ) (w : Victim) : Type 0 where
  pub low : Has w.segment (remaining p v 0)
  pub sealed : (d : ℕ) → d < p.N → pointer_at v d (zone_on w.segment d) ≡ capacity p
  pub live : w.live ≡ live_in p (places_in p tb) w.segment

present-all? : (p : Params) (d : ℕ) → d < p.N → Has d (present p 0)
unfolding present drives_of
present-all? p d l = has_keep (λ d. not (is_in 0 d)) d (below p.N) (has_below d p.N l) (ap not (is_in_empty d))

pub victim_is : (p : Params) (v : View) (tb : List ℕ) (w : Victim) → victim p v tb ≡ some w → VictimIs p v tb w
unfolding victim
victim_is p v tb w e = ⊎_elim (λ (q : none ≡ some w). opt_none q)
    (λ (q : Has w (map (victim_of p (places_in p tb)) (keep (sealed_in p v 0) (remaining p v 0)))).
    let a : (z : Seg) × Has z (keep (sealed_in p v 0) (remaining p v 0))
    × (w ≡ victim_of p (places_in p tb) z) = map_has (victim_of p (places_in p tb)) w (keep (sealed_in p v 0) (remaining p v 0)) q in
    let b : Has a.0 (remaining p v 0) × (sealed_in p v 0 a.0 ≡ true) = keep_has (sealed_in p v 0) a.0 (remaining p v 0) a.1 in
    let s : w.segment ≡ a.0 = ap (λ (x : Victim). x.segment) a.2 ∙ of a.0 in
    record {
      low = subst (λ (z : Seg). Has z (remaining p v 0)) (sym s) b.0;
      sealed = λ d l. ap (λ (z : Seg). pointer_at v d (zone_on z d)) s ∙ full a.0 b.1 d l;
      live = ap (λ (x : Victim). x.live) a.2 ∙ alive a.0 ∙ ap (live_in p (places_in p tb)) (sym s);
    }) (fewest_in none (map (victim_of p (places_in p tb)) (keep (sealed_in p v 0) (remaining p v 0))) w e)
  where
    of : (z : Seg) → (victim_of p (places_in p tb) z).segment ≡ z
    of z = unfold victim_of in refl

    alive : (z : Seg) → (victim_of p (places_in p tb) z).live ≡ live_in p (places_in p tb) z
    alive z = unfold victim_of in refl

    full : (z : Seg) → sealed_in p v 0 z ≡ true → (d : ℕ) → d < p.N → pointer_at v d (zone_on z d) ≡ capacity p
    full z q d l = unfold sealed_in in
        eqb-true (pointer_at v d (zone_on z d)) (capacity p) (all_has (λ d. eqb (pointer_at v d (zone_on z d)) (capacity p)) (present p 0) q d (present-all? p d l))

-- ---- live blocks

-- a place that the table holds
pub place_has : (p : Params) (tb : List ℕ) (q : ℕ) → Has q (places_in p tb) → (a : ℕ) × (a < p.L) × (place_at_of tb a ≡ q) × (q ≢ never_place)
unfolding places_in
place_has p tb q i =
    let b : Has q (map (place_at_of tb) (below p.L)) × (not (eqb q never_place) ≡ true) = keep_has (λ q. not (eqb q never_place)) q (map (place_at_of tb) (below p.L)) i in
    let c : (a : ℕ) × Has a (below p.L) × (q ≡ place_at_of tb a) = map_has (place_at_of tb) q (below p.L) b.0 in
    (c.0, below_has c.0 p.L c.1, sym c.2, eqb-false q never_place (not-true (eqb q never_place) b.1))

pub has_place : (p : Params) (tb : List ℕ) (a : ℕ) → a < p.L → place_at_of tb a ≢ never_place → Has (place_at_of tb a) (places_in p tb)
unfolding places_in
has_place p tb a l n =
    has_keep (λ q. not (eqb q never_place)) (place_at_of tb a) (map (place_at_of tb) (below p.L)) (has_map (place_at_of tb) (below p.L) a (has_below a p.L l))
    (ap not (ne_eqb (place_at_of tb a) never_place n))

member_has : (q : ℕ) (l : List ℕ) → is_member_of q l ≡ true → Has q l
unfolding is_member_of
member_has q l e = let a : (k : ℕ) × Has k l × (eqb q k ≡ true) = any_has (λ k. eqb q k) l e in subst (λ (k : ℕ). Has k l)
    (sym (eqb-true q a.0 a.2)) a.1

has_member : (q : ℕ) (l : List ℕ) → Has q l → is_member_of q l ≡ true
unfolding is_member_of
has_member q l i = has_any (λ k. eqb q k) l q i (eqb_self q)

-- a live block is held by the table
pub live_has : (p : Params) (qs : List ℕ) (z : Seg) (q : ℕ) → Has q (live_in p qs z) → Has q qs
unfolding live_in
live_has p qs z q i = member_has q qs (keep_has (λ q. is_member_of q qs) q (segment_places p z) i).1

-- what the table holds of a segment is live
pub has_live : (p : Params) (qs : List ℕ) (z : Seg) (d b : ℕ) → d < p.N → b < capacity p → Has (place_of p d (zone_on z d) b) qs → Has (place_of p d (zone_on z d) b) (live_in p qs z)
unfolding live_in segment_places drives_of
has_live p qs z d b dl bl i = has_keep (λ q. is_member_of q qs) (place_of p d (zone_on z d) b) (flat (λ d. map (place_of p d (zone_on z d)) (below (capacity p))) (below p.N))
    (has_flat (λ d. map (place_of p d (zone_on z d)) (below (capacity p))) (place_of p d (zone_on z d) b) (below p.N) d (has_below d p.N dl)
    (has_map (place_of p d (zone_on z d)) (below (capacity p)) b (has_below b (capacity p) bl)))
    (has_member (place_of p d (zone_on z d) b) qs i)

-- ---- the open segment isn't sealed

some_clear : (f : ℕ → Bool) (n : ℕ) → all f (below n) ≡ false → (d : ℕ) × (d < n) × (f d ≡ false)
some_clear f n e = go (test (any (λ d. not (f d)) (below n)))
  where
    go : Test (any (λ d. not (f d)) (below n)) → (d : ℕ) × (d < n) × (f d ≡ false)
    go (yes! q) = let a : (d : ℕ) × Has d (below n) × (not (f d) ≡ true) = any_has (λ d. not (f d)) (below n) q in (a.0, below_has a.0 n a.1, not-true (f a.0) a.2)
    go (no! q) = clash (has_all f (below n) (λ d i. not-false (f d) (any_false_in (λ d. not (f d)) (below n) q d i))) e

module _ (p : Params) (h : Ranged p) (off : List ℕ) (v : View) (st : State) (fl tb : List ℕ) (ss : List Send) (n : ℕ) (l : Live p h off v st fl tb ss n) (ok : state_ok p st ≡ true) where
  abbrev M : Mem
  M = l.M

  inv_victim : Inv (par_of p h off) (mst l.g l.u l.a l.c (run l.M))
  inv_victim = live_inv p h off v st fl tb ss n l

  pub open_unsealed : (y : ℕ) → Used (par_of p h off) l.g.un l.u y → ((d : ℕ) → d < p.N → pointer_at v d (zone_on (named_seg p l.g y) d) ≡ capacity p) → l.M.is_open ≡ true
      → l.M.zone ≢ y
  open_unsealed y yu full o e =
      absurd (slot.out lost.0 lost.1 lost.2 (there lost.0 lost.1 s₀ (omega (arith, low))).0 (subst
      (λ (x : ℕ). InI (chunk x (there lost.0 lost.1 s₀ (omega (arith, low))).0) (l.u lost.0 M.zone)) (sym w.3)
      (there lost.0 lost.1 s₀ (omega (arith, low))).1))
    where
      -- every stripe is on every drive
      there : (d : ℕ) → d < p.N → (s : ℕ) → s < p.S → (x : Val) × InI (chunk s x) (l.u d M.zone)
      there d dl s sl = (inv_victim.facts.zones d M.zone (dl, live_trust p h off v st fl tb ss n l d dl)).sealed
          (let f : length (l.u d M.zone) ≡ capacity p = ap (λ (x : ℕ). length (l.u d x)) e
          ∙ live_seg_len p h off v st fl tb ss n l y yu d dl
          ∙ full d dl in omega (arith, f, capacity_few p h)) s sl

      ends : M.next ≡ p.S
      ends =
          let t : (x : Val) × InI (chunk (p.S - 1) x) (l.u 0 M.zone) = there 0 (omega (arith, h.drives_low)) (p.S - 1) (omega (arith, h.stripes_low)) in
          omega (arith, inv_victim.mode.below o 0 (p.S - 1) t.0 (omega (arith, h.drives_low)) t.1, inv_victim.mode.few, h.stripes_low)

      flies : (s : ℕ) × (M.fly s ≡ true)
      flies = l.rel.busy o ends

      s₀ : ℕ
      s₀ = flies.0

      low : s₀ < p.S
      low = omega (arith, (inv_victim.mode.flies s₀ flies.1).1, ends)

      w : (i : ℕ) × (i < 8) × (in_use_of st i ≡ true) × (stripe_in st i ≡ s₀)
      w = l.rel.flies s₀ flies.1

      slot : SlotOf p l.u st fl M.zone w.0 (M.F (stripe_in st w.0)) (M.ready (stripe_in st w.0))
      slot = l.rel.slot w.0 w.1 w.2

      lost : (d : ℕ) × (d < p.N) × (is_in (landed_in st w.0) d ≡ false)
      lost = some_clear (is_in (landed_in st w.0)) p.N (sym (ones_all p.N (landed_in st w.0) h.drives_high (slots_ok p st ok w.0 w.1).1) ∙ slot.mask)

  -- ---- nothing live: nothing that is read

  victim_k : OnDrives p h off l.g v l.u
  victim_k = live_drives p h off v st fl tb ss n l

  victim-none? : None (par_of p h off) l.g.un
  victim-none? = live_none p h off v st fl tb ss n l

  -- an entry of the table lies elsewhere
  entry_elsewhere : (y : ℕ) → live_in p (places_in p tb) (named_seg p l.g y) ≡ [] → (a : ℕ) → a < p.L → (e : Entry p h off l.g l.u (place_at_of tb a) a) → e.n ≡ y → ⊥
  entry_elsewhere y dead a al e same =
      let z : Seg = named_seg p l.g y in
      let q : ℕ = place_at_of tb a in
      let m : Has (place_at_of tb a) (places_in p tb) = has_place p tb a al
      (let f : place_at_of tb a ≢ never_place = omega (arith, entry_low p h off l.g v l.u victim_k victim-none? (place_at_of tb a) a e) in f) in
      let f : place_at_of tb a ≡ place_of p (place_drive p (place_at_of tb a)) (zone_on (named_seg p l.g y) (place_drive p (place_at_of tb a))) (place_block p (place_at_of tb a)) =
      sym (place_again p (place_at_of tb a)) ∙ ap (λ (x : ℕ). place_of p (place_drive p (place_at_of tb a)) x (place_block p (place_at_of tb a)))
      (sym (entry_zone p h off l.g v l.u victim_k victim-none? (place_at_of tb a) a e) ∙ ap (λ (x : ℕ). zone_on (named_seg p l.g x) (place_drive p (place_at_of tb a))) same) in
      let i : Has (place_of p (place_drive p q) (zone_on z (place_drive p q)) (place_block p q)) (live_in p (places_in p tb) z) =
      has_live p (places_in p tb) z (place_drive p q) (place_block p q) e.drive
      (entry_within p h off l.g v l.u victim_k victim-none? q a e) (subst (λ (x : ℕ). Has x (places_in p tb)) f m) in
      subst (λ (x : List ℕ). Has (place_of p (place_drive p q) (zone_on z (place_drive p q)) (place_block p q)) x) dead i

  pub quiet : (y : ℕ) → live_in p (places_in p tb) (named_seg p l.g y) ≡ [] → Quiet (par_of p h off) l.g l.u y
  quiet y dead a = go (ℕ_discrete (l.g.base a) 0) (inv_victim.facts.content.floor a)
    where
      go : Dec (l.g.base a ≡ 0) → (l.g.base a ≡ 0) ⊎ ((x : Val) × Counted (par_of p h off) l.g.hd l.u l.g.un x × (x.addr ≡ a) × (l.g.base a ≤ x.stamp))
          → (l.g.base a ≡ 0) ⊎ ((x : Val) × (c : Counted (par_of p h off) l.g.hd l.u l.g.un x) × (c.z ≢ y) × (x.addr ≡ a) × (l.g.base a ≤ x.stamp))
      go (yes e) f = inl e
      go (no e) (inl f) = inl f
      go (no e) (inr (x, c, xa, xs)) = ⊎_elim (λ (w : (place_at_of tb a ≡ never_place) × (l.g.base a ≡ 0)). inl w.1)
          (λ (w : Entry p h off l.g l.u (place_at_of tb a) a). inr (
            w.x,
            w.counts,
            (λ b. entry_elsewhere y dead a sent w (sym w.same ∙ b)),
            w.addr,
            w.floor,
          )) (l.table a sent)
        where
          -- the address is in range
          sent : a < p.L
          sent =
              subst (λ (y : ℕ). y < p.L) xa (⊎_elim (λ (b : x ≡ pads). absurd (let r : ⊥ = omega (arith, pads_stamp x b, xs, e) in r)) (λ (b : InV x l.g.sent). (inv_victim.ones x b).1)
              (inv_victim.facts.parity.sound l.g.un (self_none (par_of p h off) l.g.un victim-none?) c.z c.s c.f c.st x c.dt))

  -- what is left when such a segment is emptied
  pub table_left : (y : ℕ) → live_in p (places_in p tb) (named_seg p l.g y) ≡ [] → (u : ItemView) → Facts (par_of p h off) l.g u → ((e x : ℕ) → x ≢ y → u e x ≡ l.u e x)
      → TableOk p h off l.g u tb
  table_left y dead u f same a al = ⊎_elim (λ w. inl w)
      (λ (w : Entry p h off l.g l.u (place_at_of tb a) a).
      let n : w.n ≢ y = entry_elsewhere y dead a al w in
      inr (entry_to p h off l.g l.g l.u u (place_at_of tb a) a w refl
      (subst (λ (x : List Item). Off x (place_block p (place_at_of tb a)) (chunk w.s w.x)) (sym (same (place_drive p (place_at_of tb a)) w.n n)) w.at)
      (counted-kept (par_of p h off) l.g l.g l.u u f inv_victim.mode.no_pair refl w.x w.counts
      (λ d b. same d w.counts.z (λ q. n (sym w.same ∙ q)))) w.same w.floor)) (l.table a al)
