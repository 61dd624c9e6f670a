-- The live blocks of a segment by their records (01, Reclaim): those counted are no more than all, and where they are all, what is known of
-- them is known of all. Then the segment, by the entries of the table. Assumes nothing.
use Rattle.std.specs.Option.{option_or}
use Rattle.std.specs.Prelude.{Some, None, ℕ, suc, ◌+◌, ◌-◌, ◌*◌, min, ◌≤◌, ◌<◌, eqb, length, get_or, Bool, true, false, cond, List, [], ◌∷◌, ◌++◌, ◌≡◌, refl}
use Rattle.call_reclaim_live.specs.Fewest.{taken_as}
use Rattle.call_reclaim_live.specs.Least.{Least, victim-least, live_number}
use Rattle.call_reclaim_live.specs.Live.{in_seg, numbered, is_live_in, live_below, live_owned, live_split, live_more}
use Rattle.call_reclaim_live.specs.Owners.{OwnersShown}
use Rattle.disk_gather.specs.Owners.{row_seg}
use Rattle.spec.specs.Drives.{View, zone_on}
use Rattle.spec.specs.Lists.{up_from, keep}
use Rattle.spec.specs.Memory.{place_at_of}
use Rattle.spec.specs.Params.{between, capacity, place_of, place_block, place_zone, place_drive}
use Rattle.spec.specs.Reclaim.{places_in, victim_of, victim}
use Rattle.spec.specs.declared.Params.{Params}
use Rattle.spec.specs.declared.Seg.{Seg}
use Rattle.spec.specs.declared.State.{State}
use Rattle.call_reclaim_entries.specs.Entries.{taken_in, TakenCounted, taken_live}
use Rattle.law_basic.specs.Geometry.{Ranged, between_of, data_below, place_block_lem, place_zone_lem, place_drive_lem, place_lt}
use Rattle.law_basic.specs.Ranges.{and_both}
use Rattle.law_drives.specs.Tables.{seg_at}
use Rattle.mem_marks.specs.Marks.{is_pointed}
use Rattle.call_reclaim_victim.specs.Looked.{Looked, looked_some}
use Rattle.call_reclaim_victim.specs.Outside.{is_outside}
use Rattle.call_reclaim_victim.specs.Waiting.{is_odd, place_number, foremost, flying_in, odd_zone, IdleStepped, IdleBelow, waiting_none, waiting-step}
use Rattle.call_reclaim_victim.specs.declared.Chosen.{Chosen}
use Rattle.call_reclaim_victim.specs.declared.Idle.{Idle}
use Rattle.call_reclaim_victim.specs.declared.Seen.{Seen}
use Rattle.call_reclaim_records.specs.Vouch.{Enough, pointed_by, live_longer}
use Rattle.std.proofs.Common.{eq-eqb, length-append, append-nil, sym, ◌∙◌, subst, arith}
use Rattle.std.proofs.Math.Bool.{not}
use Rattle.std.proofs.Math.Path.{ap}

-- what is seen, as the first live block that waits: none of those seen is a header or footer block
abbrev pub seen_idle : Seen → Idle
seen_idle s = record { first = s.first; odd = None }

-- what s says of the live blocks of segment h below place n
pub record Vouched (p : Params) (v : View) (st : State) (h : Seg) (tb : List ℕ) (n : ℕ) (s : Seen) : Type 0 where
  pub counted : s.live ≤ length (live_below p tb (in_seg p h) n)
  pub whole : s.live ≡ length (live_below p tb (in_seg p h) n) → IdleBelow p v st h tb n (seen_idle s)

-- from place a to place b, s becomes r
abbrev pub Sees : Params → View → State → Seg → List ℕ → ℕ → ℕ → Seen → Seen → Type 0
Sees p v st h tb a b s r = Vouched p v st h tb a s → Vouched p v st h tb b r

-- ---- from place to place

nil_long : (l : List ℕ) → length l ≡ 0 → l ≡ []
nil_long [] e = refl
nil_long (x ∷ l) e = absurd (let q : suc (length l) ≡ 0 = e in let z : ⊥ = omega (arith, q) in z)

module _ (p : Params) (v : View) (st : State) (h : Seg) (tb : List ℕ) where
  abbrev live : ℕ → List ℕ
  live n = live_below p tb (in_seg p h) n

  pub vouched_none : Vouched p v st h tb 0 (record { live = 0; first = None })
  vouched_none = record { counted = omega arith; whole = λ _. waiting_none p v st h tb }

  -- over places that are not looked at
  pub vouched_skip : (a b : ℕ) (s : Seen) → a ≤ b → Vouched p v st h tb a s → Vouched p v st h tb b s
  vouched_skip a b s k w = record {
    counted = omega (arith, w.counted, live_longer p tb (in_seg p h) a b k);
    whole = λ e.
        let m : List ℕ = keep (is_live_in p tb (in_seg p h)) (up_from a (b - a)) in
        let d : live b ≡ live a ++ m = live_split p tb (in_seg p h) a b k in
        let l : length (live b) ≡ length (live a) + length m = ap length d ∙ length-append (live a) m in
        let z : m ≡ [] = nil_long m (omega (arith, e, l, w.counted)) in
        let same : live b ≡ live a = d ∙ ap (λ (x : List ℕ). live a ++ x) z ∙ append-nil (live a) in
        let t = w.whole (omega (arith, e, ap length same)) in
        record {
          first = t.first ∙ ap (λ (x : List ℕ). foremost (keep (λ q. not (flying_in p v st h q)) x)) (sym same);
          odd = t.odd ∙ ap (odd_zone p) (sym same);
        };
  }

  -- over a data block that is live
  pub vouched_step : (q : ℕ) (s r : Seen) (i : Idle) → is_live_in p tb (in_seg p h) q ≡ true → is_odd p q ≡ false → IdleStepped p v st h (seen_idle s) q i
      → r.live ≡ s.live + 1 → place_number r.first ≡ place_number i.first → Vouched p v st h tb q s → Vouched p v st h tb (q + 1) r
  vouched_step q s r i e o step el ef w = record {
    counted = omega (arith, w.counted, el, l);
    whole = λ k.
        let t = waiting-step p v st h tb q (seen_idle s) i e (w.whole (omega (arith, k, el, l))) step in
        record { first = ef ∙ t.first; odd = sym (step.odd ∙ ap (λ (b : Bool). cond b (Some (min (place_zone p q) (place_zone p q))) None) o) ∙ t.odd };
  }
    where
      l : length (live (q + 1)) ≡ length (live q) + 1
      l = ap length (live_more p tb (in_seg p h) q e) ∙ length-append (live q) (q ∷ [])

-- a data block more, as it is seen
pub step-seen : (p : Params) (v : View) (st : State) (h : Seg) (q : ℕ) (s : Seen) (i : Idle) → is_odd p q ≡ false → i.odd ≡ None
    → place_number i.first ≡ option_or (place_number s.first) (cond (flying_in p v st h q) None (Some q)) → IdleStepped p v st h (seen_idle s) q i
step-seen p v st h q s i even eo ef = record { first = ef; odd = eo ∙ sym (ap (λ (b : Bool). cond b (Some (min (place_zone p q) (place_zone p q))) None) even) }

-- the data block at offset o of a zone of segment h
module _ (p : Params) (r : Ranged p) (h : Seg) (d o q : ℕ) (hd : d < p.N) (hz : zone_on h d < p.Z) (ho : o < p.S) (e : q ≡ place_of p d (zone_on h d) 1 + o) where
  q_is : q ≡ place_of p d (zone_on h d) (1 + o)
  unfolding place_of
  q_is = omega (arith, e)

  fits : 1 + o < capacity p
  fits = data_below p r (1 + o) (omega (arith, ho))

  pub vouched_low : q < p.N * p.Z * capacity p
  vouched_low = subst (λ (x : ℕ). x < p.N * p.Z * capacity p) (sym q_is) (place_lt p d (zone_on h d) (1 + o) hd hz fits)

  pub data_even : is_odd p q ≡ false
  unfolding is_odd
  data_even = ap (λ (x : ℕ). not (between 1 p.S x)) (ap (place_block p) q_is ∙ place_block_lem p d (zone_on h d) (1 + o) fits)
      ∙ ap not (between_of 1 p.S (1 + o) (omega arith) (omega (arith, ho)))

  pub data_live : (tb : List ℕ) (a : ℕ) → a < p.L → place_at_of tb a ≡ q → is_live_in p tb (in_seg p h) q ≡ true
  unfolding is_live_in in_seg
  data_live tb a k f =
      let z : place_zone p q ≡ zone_on h d = ap (place_zone p) q_is ∙ place_zone_lem p d (zone_on h d) (1 + o) hz fits in
      let y : place_drive p q ≡ d = ap (place_drive p) q_is ∙ place_drive_lem p d (zone_on h d) (1 + o) hz fits in
      and_both (eqb (place_zone p q) (zone_on h (place_drive p q))) (is_pointed tb p.L q) (eq-eqb (place_zone p q) (zone_on h (place_drive p q)) (z ∙ ap (zone_on h) (sym y)))
      (pointed_by tb p.L a q k f)

-- ---- the segment

module _ (p : Params) (rg : Ranged p) (v : View) (tb rows ss : List ℕ) (sealed : List Bool) (sh : OwnersShown p v rows ss sealed) (st : State) (g : ℕ) (h : g < p.Z)
    (is : get_or sealed g false ≡ true) where
  abbrev all! : ℕ
  all! = p.N * p.Z * capacity p

  abbrev S : Seg
  S = row_seg rows g

  its_row : S ≡ seg_at p v 0 g
  its_row = sh.its_row g h is

  -- all its live blocks are seen, and the others have enough
  module _ (s : Seen) (w : Vouched p v st S tb all! s) (long : length (live_below p tb (in_seg p S) all!) ≤ s.live) (others : (k : ℕ) → k < p.Z → Enough p rows sealed tb g s.live k) where
    size : (k : ℕ) → k < p.Z → get_or sealed k false ≡ true → length (victim_of p (places_in p tb) (seg_at p v 0 k)).live ≡ length (live_below p tb (in_seg p (row_seg rows k)) all!)
    size k l e = ap length (live_number p rg v tb rows ss sealed sh k l e) ∙ ap (λ (x : Seg). length (live_below p tb (in_seg p x) all!)) (sym (sh.its_row k l e))

    as_many : length (live_below p tb (in_seg p S) all!) ≡ s.live
    as_many = omega (arith, long, w.counted)

    taken : victim p v tb ≡ taken_as p v tb g
    taken = victim-least p v tb sealed sh.flagged g h is
        (λ k l e. omega (arith, size g h is, size k (omega (arith, l, h)) e, as_many, (others k (omega (arith, l, h)) e).0 l))
        (λ k l m e. omega (arith, size g h is, size k m e, as_many, (others k m e).1 l))

    pub looked_sure : (r : Chosen) → r.zone ≡ g → r.segment ≡ S → r.live ≡ s.live → r.first ≡ s.first → r.odd ≡ None → r.outside ≡ is_outside p v tb
        → Looked p v tb st r
    looked_sure r ez es el ef eo ex =
        looked_some p rg v tb rows ss sealed sh st g h is taken s.live (ap (λ (x : Seg). length (live_below p tb (in_seg p x) all!)) (sym its_row) ∙ as_many) (seen_idle s)
        (subst (λ (x : Seg). IdleBelow p v st x tb all! (seen_idle s)) its_row (w.whole (sym as_many))) r ez (es ∙ its_row) el ef eo ex

  -- by the entries of the table: no more live blocks than entries, and where there are none the others have enough
  module _ (used : List ℕ) (en : TakenCounted p ss tb p.L used) (le : Least p sealed used p.Z g) where
    -- the entries of a sealed segment
    vouched_entries : (k : ℕ) → k < p.Z → get_or sealed k false ≡ true
        → (length (live_below p tb (in_seg p (row_seg rows k)) all!) ≤ get_or used k 0) × (0 < get_or used k 0 → 0 < length (live_below p tb (in_seg p (row_seg rows k)) all!))
    vouched_entries k l e =
        let s : live_below p tb (numbered p ss k) all! ≡ live_below p tb (in_seg p (row_seg rows k)) all! =
        live_owned p rg tb ss k (seg_at p v 0 k) (sh.owns k l e) all! (omega arith) ∙ ap (λ (x : Seg). live_below p tb (in_seg p x) all!) (sym (sh.its_row k l e)) in
        let t : length (live_below p tb (in_seg p (row_seg rows k)) all!) ≡ length (taken_in p ss tb p.L k) = ap length (sym (taken_live p ss tb k ∙ s)) in
        let low : k ≤ 1024 = omega (arith, l, rg.zones_high) in
        (omega (arith, t, en.most k low), λ x. omega (arith, t, en.least k low x))

    -- where it has none, each lower one has an entry, and so a live block
    none_else : get_or used g 0 ≡ 0 → (k : ℕ) → k < p.Z → Enough p rows sealed tb g 0 k
    none_else z k l e = (
      (λ b. let u : get_or used g 0 < get_or used k 0 = le.first h k b e in (vouched_entries k l e).1 (omega (arith, u))),
      λ b. omega arith,
    )

    pub looked_empty : get_or used g 0 ≡ 0 → (r : Chosen) → r.zone ≡ g → r.segment ≡ S → r.live ≡ 0 → r.first ≡ None → r.odd ≡ None
        → r.outside ≡ is_outside p v tb → Looked p v tb st r
    looked_empty z =
        let s : Seen = record { live = 0; first = None } in
        looked_sure s (vouched_skip p v st S tb 0 all! s (omega arith) (vouched_none p v st S tb)) (omega (arith, (vouched_entries g h is).0, z)) (none_else z)

    -- where it has some, they are all live blocks that are seen
    pub looked_seen : (s : Seen) → Vouched p v st S tb all! s → s.live ≡ get_or used g 0 → ((k : ℕ) → k < p.Z → Enough p rows sealed tb g (get_or used g 0) k)
        → (r : Chosen) → r.zone ≡ g → r.segment ≡ S → r.live ≡ get_or used g 0 → r.first ≡ s.first → r.odd ≡ None → r.outside ≡ is_outside p v tb
        → Looked p v tb st r
    looked_seen s w e others r ez es el =
        looked_sure s w (omega (arith, (vouched_entries g h is).0, e)) (λ k l. subst (λ (x : ℕ). Enough p rows sealed tb g x k) (sym e) (others k l)) r ez es (el ∙ sym e)
