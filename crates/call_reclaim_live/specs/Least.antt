-- The lowest sealed segment with the least count, and when it is the one that reclaim takes (01, Reclaim). Assumes nothing.
use Prim.Native.Nat.{ℕ, zero, suc, ◌+◌, ◌*◌, ◌≤◌, ◌<◌}
use Rattle.call_reclaim_live.specs.Fewest.{victim_number, taken_as, taken_none, taken_some, pick_of, pick_new, pick_less, pick_old}
use Rattle.call_reclaim_live.specs.Live.{in_seg, live_below, LiveCounted, keep_nobody, live_all, live_owned}
use Rattle.call_reclaim_live.specs.Owners.{OwnersShown, number_low}
use Rattle.spec.specs.Drives.{View, sealed_in}
use Rattle.spec.specs.Lists.{Opt, up_from, below, keep}
use Rattle.spec.specs.Lists.Opt.{none, some}
use Rattle.spec.specs.Params.{capacity}
use Rattle.spec.specs.Reclaim.{places_in, Victim, victim_of, fewer, fewest, victim}
use Rattle.spec.specs.declared.Params.{Params}
use Rattle.law_basic.specs.Geometry.{Ranged}
use Rattle.law_basic.specs.Ranges.{Test, test, not_both, keep_hit, keep_miss, keep-below_same}
use Rattle.law_basic.specs.Ranges.Test.{yes!, no! }
use Rattle.law_drives.specs.Tables.{seg_at, remains_at}
use Rattle.std.proofs.Common.{lt-ltb, le-ltb, eqb-true, ◌∙◌, subst, arith}
use Rattle.std.proofs.lemmas.Bool.{eqb-false}
use Rattle.std.proofs.Math.Arith.{lt_of_le-ne}
use Rattle.std.specs.Prelude.{ltb, eqb, length, Bool, true, false, cond, ◌&&◌, ◌≡◌}
use Rattle.std.proofs.Math.ListN.{get_or}
use mathlib.Core.List.{List, map}
use Rattle.std.proofs.Math.Path.{refl, sym, ap}
use Rattle.std.proofs.Math.Decide.{dec_le, dec_lt}

-- best is the lowest of the sealed segments below n with the least count; not below Z where none is sealed
pub record Least (p : Params) (sealed : List Bool) (live : List ℕ) (n best : ℕ) : Type 0 where
  pub early : best < p.Z → best < n
  pub taken : best < p.Z → get_or sealed best false ≡ true
  pub least : best < p.Z → (k : ℕ) → k < n → get_or sealed k false ≡ true → get_or live best 0 ≤ get_or live k 0
  pub first : best < p.Z → (k : ℕ) → k < best → get_or sealed k false ≡ true → get_or live best 0 < get_or live k 0
  pub nobody : p.Z ≤ best → (k : ℕ) → k < n → get_or sealed k false ≡ true → ⊥

module _ (p : Params) (sealed : List Bool) (live : List ℕ) where
  abbrev s : ℕ → Bool
  s k = get_or sealed k false

  abbrev at : ℕ → ℕ
  at k = get_or live k 0

  pub least_none : (best : ℕ) → p.Z ≤ best → Least p sealed live 0 best
  least_none best h = record {
    early = λ l. absurd (let q : ⊥ = omega arith in q);
    taken = λ l. absurd (let q : ⊥ = omega arith in q);
    least = λ l. absurd (let q : ⊥ = omega arith in q);
    first = λ l. absurd (let q : ⊥ = omega arith in q);
    nobody = λ _ k l. absurd (let q : ⊥ = omega arith in q);
  }

  module _ (n best : ℕ) (so : Least p sealed live n best) (low : n < p.Z) where
    -- a number below n + 1 is below n, or n
    last_or_below : {A : Type 0} (k : ℕ) → k < n + 1 → (k < n → A) → (k ≡ n → A) → A
    last_or_below {A} k l f g = go (dec_lt k n)
      where
        go : Dec (k < n) → A
        go (yes h) = f h
        go (no h) = g (omega arith)

    -- segment n is not sealed
    pass : s n ≡ false → Least p sealed live (n + 1) best
    pass e = record {
      early = λ l. omega (arith, so.early l);
      taken = so.taken;
      least = λ l k h q. last_or_below k h (λ b. so.least l k b q) (λ b. absurd (not_both (s n) (ap s (sym b) ∙ q) e));
      first = so.first;
      nobody = λ l k h q. last_or_below k h (λ b. so.nobody l k b q) (λ b. not_both (s n) (ap s (sym b) ∙ q) e);
    }

    -- it is, and is no better
    least_stays : s n ≡ true → best < p.Z → at best ≤ at n → Least p sealed live (n + 1) best
    least_stays e b m = record {
      early = λ l. omega (arith, so.early l);
      taken = so.taken;
      least = λ l k h q. last_or_below k h (λ x. so.least l k x q) (λ x. subst (λ (y : ℕ). at best ≤ at y) (sym x) m);
      first = so.first;
      nobody = λ l. absurd (let q : ⊥ = omega arith in q);
    }

    -- it is, and is the first or better
    move : s n ≡ true → ((k : ℕ) → k < n → s k ≡ true → at n < at k) → Least p sealed live (n + 1) n
    move e m = record {
      early = λ l. omega arith;
      taken = λ l. e;
      least = λ l k h q. last_or_below k h (λ x. let w : at n < at k = m k x q in omega (arith, w)) (λ x. subst (λ (y : ℕ). at n ≤ at y) (sym x) (omega arith));
      first = λ l k h q. m k h q;
      nobody = λ l. absurd (let q : ⊥ = omega arith in q);
    }

    pub least_turn : (best' : ℕ) → best' ≡ cond (s n) (pick_of p live best n) best → Least p sealed live (n + 1) best'
    least_turn best' e = subst (λ (x : ℕ). Least p sealed live (n + 1) x) (sym e) (go (test (s n)))
      where
        goal : ℕ → Type 0
        goal x = Least p sealed live (n + 1) x

        picked : s n ≡ true → Dec (p.Z ≤ best) → Dec (at n < at best) → goal (pick_of p live best n)
        picked t (yes h) d = subst goal (sym (pick_new p live best n h)) (move t (λ k l q. absurd (so.nobody h k l q)))
        picked t (no h) (yes l) =
            let b : best < p.Z = omega arith in
            subst goal (sym (pick_less p live best n b l)) (move t (λ k x q. let w : at best ≤ at k = so.least b k x q in omega (arith, l, w)))
        picked t (no h) (no l) =
            let b : best < p.Z = omega arith in
            let m : at best ≤ at n = omega arith in
            subst goal (sym (pick_old p live best n b m)) (least_stays t b m)

        go : Test (s n) → goal (cond (s n) (pick_of p live best n) best)
        go (yes! t) = subst goal (sym (ap (λ (b : Bool). cond b (pick_of p live best n) best) t)) (picked t (dec_le p.Z best) (dec_lt (at n) (at best)))
        go (no! t) = subst goal (sym (ap (λ (b : Bool). cond b (pick_of p live best n) best) t)) (pass t)

-- ---- the segment with fewest live blocks, the first on a tie

-- none so far, or one with more than n live blocks
data Over (n : ℕ) : Opt Victim → Type 0 where
  over_none : Over n none
  over_some : {a : Victim} → n < length a.live → Over n (some a)

over_fewer : (n : ℕ) (o : Opt Victim) (b : Victim) → Over n o → n < length b.live → Over n (fewer o b)
unfolding fewer
over_fewer n none b w h = over_some h
over_fewer n (some a) b (over_some l) h = go (ltb (length b.live) (length a.live))
  where
    go : (c : Bool) → Over n (some (cond c b a))
    go true = over_some h
    go false = over_some l

fewer-take : (o : Opt Victim) (b : Victim) → Over (length b.live) o → fewer o b ≡ some b
unfolding fewer
fewer-take none b w = refl
fewer-take (some a) b (over_some l) = ap (λ (c : Bool). some (cond c b a)) (lt-ltb (length b.live) (length a.live) l)

fewer_stay : (a b : Victim) → length a.live ≤ length b.live → fewer (some a) b ≡ some a
unfolding fewer
fewer_stay a b l = ap (λ (c : Bool). some (cond c b a)) (le-ltb (length b.live) (length a.live) l)

module _ (W : ℕ → Victim) (t : ℕ → Bool) where
  abbrev size : ℕ → ℕ
  size k = length (W k).live

  abbrev rest : Opt Victim → ℕ → ℕ → Opt Victim
  rest o i n = fewest o (map W (keep t (up_from i n)))

  hit : (o : Opt Victim) (i n : ℕ) → t i ≡ true → rest o i (suc n) ≡ rest (fewer o (W i)) (suc i) n
  unfolding fewest up_from
  hit o i n e = ap (λ (l : List ℕ). fewest o (map W l)) (keep_hit t i (up_from (suc i) n) e)

  miss : (o : Opt Victim) (i n : ℕ) → t i ≡ false → rest o i (suc n) ≡ rest o (suc i) n
  unfolding up_from
  miss o i n e = ap (λ (l : List ℕ). fewest o (map W l)) (keep_miss t i (up_from (suc i) n) e)

  victim_stays : (a : Victim) (i n : ℕ) → ((k : ℕ) → i ≤ k → t k ≡ true → k < i + n → length a.live ≤ size k) → rest (some a) i n ≡ some a
  unfolding fewest up_from keep
  victim_stays a i zero h = refl
  victim_stays a i (suc n) h = go (test (t i)) (victim_stays a (suc i) n (λ k x y z. h k (omega arith) y (omega arith)))
    where
      go : Test (t i) → rest (some a) (suc i) n ≡ some a → rest (some a) i (suc n) ≡ some a
      go (yes! e) r = hit (some a) i n e ∙ ap (λ (o : Opt Victim). rest o (suc i) n) (fewer_stay a (W i) (h i (omega arith) e (omega arith))) ∙ r
      go (no! e) r = miss (some a) i n e ∙ r

  module _ (g : ℕ) (is : t g ≡ true) (before : (k : ℕ) → k < g → t k ≡ true → size g < size k) where
    least_finds : (o : Opt Victim) (i n : ℕ) → i ≤ g → g < i + n → Over (size g) o → ((k : ℕ) → g < k → k < i + n → t k ≡ true → size g ≤ size k)
        → rest o i n ≡ some (W g)
    least_finds o i zero low high w h = absurd (let q : ⊥ = omega arith in q)
    least_finds o i (suc n) low high w h = go (test (eqb i g)) (λ u x y. least_finds u (suc i) n x (omega arith) y (λ k a b. h k a (omega arith)))
      where
        go : Test (eqb i g) → ((u : Opt Victim) → suc i ≤ g → Over (size g) u → rest u (suc i) n ≡ some (W g)) → rest o i (suc n) ≡ some (W g)
        go (yes! e) r =
            let q : i ≡ g = eqb-true i g e in
            hit o i n (ap t q ∙ is)
            ∙ ap (λ (x : Opt Victim). rest x (suc i) n) (ap (λ (x : ℕ). fewer o (W x)) q ∙ fewer-take o (W g) w)
            ∙ victim_stays (W g) (suc i) n (λ k x y z. h k (omega (arith, q, x)) (omega (arith, z)) y)
        go (no! e) r = other (test (t i))
          where
            l : i < g
            l = lt_of_le-ne low (eqb-false i g e)

            other : Test (t i) → rest o i (suc n) ≡ some (W g)
            other (yes! f) = hit o i n f ∙ r (fewer o (W i)) (omega (arith, l)) (over_fewer (size g) o (W i) w (before i l f))
            other (no! f) = miss o i n f ∙ r o (omega (arith, l)) w

-- 01, Reclaim: by the flags, a sealed segment with fewer live blocks than those below it, and no more than those above
module _ (p : Params) (v : View) (tb : List ℕ) (sealed : List Bool)
    (flagged : (g : ℕ) → g < p.Z → get_or sealed g false ≡ (remains_at p v 0 g && sealed_in p v 0 (seg_at p v 0 g))) where
  abbrev W : ℕ → Victim
  W g = victim_of p (places_in p tb) (seg_at p v 0 g)

  victim_flagged : victim p v tb ≡ fewest none (map W (keep (λ g. get_or sealed g false) (below p.Z)))
  victim_flagged = victim_number p v tb
      ∙ ap (λ (l : List ℕ). fewest none (map W l)) (keep-below_same (λ g. remains_at p v 0 g && sealed_in p v 0 (seg_at p v 0 g)) (λ g. get_or sealed g false) p.Z (λ g h. sym (flagged g h)))

  pub victim-least : (g : ℕ) → g < p.Z → get_or sealed g false ≡ true → ((k : ℕ) → k < g → get_or sealed k false ≡ true → length (W g).live < length (W k).live)
      → ((k : ℕ) → g < k → k < p.Z → get_or sealed k false ≡ true → length (W g).live ≤ length (W k).live) → victim p v tb ≡ taken_as p v tb g
  unfolding below
  victim-least g h is before after =
      victim_flagged
      ∙ least_finds W (λ k. get_or sealed k false) g is before none 0 p.Z (omega arith) (omega (arith, h)) over_none (λ k a b q. after k a (omega (arith, b)) q)
      ∙ sym (taken_some p v tb g h)

  -- none is sealed
  pub victim_nobody : ((k : ℕ) → k < p.Z → get_or sealed k false ≡ false) → (g : ℕ) → p.Z ≤ g → victim p v tb ≡ taken_as p v tb g
  unfolding fewest below
  victim_nobody none! g h =
      victim_flagged
      ∙ ap (λ (l : List ℕ). fewest none (map W l)) (keep_nobody (λ k. get_or sealed k false) 0 p.Z (λ k a b. none! k (omega (arith, b))))
      ∙ sym (taken_none p v tb g h)

-- by the tables, the least is the one that reclaim takes
module _ (p : Params) (r : Ranged p) (v : View) (tb rows ss : List ℕ) (sealed : List Bool) (sh : OwnersShown p v rows ss sealed) where
  abbrev its : ℕ → List ℕ
  its g = (victim_of p (places_in p tb) (seg_at p v 0 g)).live

  -- the live blocks of a sealed segment
  pub live_number : (g : ℕ) → g < p.Z → get_or sealed g false ≡ true → its g ≡ live_below p tb (in_seg p (seg_at p v 0 g)) (p.N * p.Z * capacity p)
  unfolding victim_of
  live_number g h e = live_all p r tb (seg_at p v 0 g) (number_low p r v rows ss sealed sh g h e)

  count_live : (live : List ℕ) → LiveCounted p ss tb live (p.N * p.Z * capacity p) → (g : ℕ) → g < p.Z → get_or sealed g false ≡ true → length (its g) ≡ get_or live g 0
  count_live live so g h e =
      ap length (live_number g h e ∙ sym (live_owned p r tb ss g (seg_at p v 0 g) (sh.owns g h e) (p.N * p.Z * capacity p) (omega arith)))
      ∙ sym (so g (omega (arith, h, r.zones_high)))

  pub least_taken : (live : List ℕ) → LiveCounted p ss tb live (p.N * p.Z * capacity p) → (best : ℕ) → Least p sealed live p.Z best → victim p v tb ≡ taken_as p v tb best
  least_taken live so best le = go (dec_lt best p.Z)
    where
      size : (g : ℕ) → g < p.Z → get_or sealed g false ≡ true → length (its g) ≡ get_or live g 0
      size = count_live live so

      go : Dec (best < p.Z) → victim p v tb ≡ taken_as p v tb best
      go (no n) = victim_nobody p v tb sealed sh.flagged (λ k h. miss k h (test (get_or sealed k false))) best (omega arith)
        where
          miss : (k : ℕ) → k < p.Z → Test (get_or sealed k false) → get_or sealed k false ≡ false
          miss k h (yes! e) = absurd (le.nobody (omega arith) k h e)
          miss k h (no! e) = e
      go (yes h) =
          let is = le.taken h in
          victim-least p v tb sealed sh.flagged best h is
          (λ k l e. omega (arith, size best h is, size k (omega (arith, l, h)) e, le.first h k l e))
          (λ k l m e. omega (arith, size best h is, size k m e, le.least h k m e))
