-- The open segment and its next stripe: the first unsealed one; and the memory that all makes (01, Restart; Write; 02, item 4). Assumes nothing.
use Rattle.std.specs.Prelude.{◌≡◌, refl, List, [], ◌∷◌, map, Bool, true, false, cond, not, ◌&&◌, ℕ, ◌+◌, ◌*◌, ◌<◌, ltb, eqb, length, get_or}
use Rattle.std.proofs.Common.{sym, ap, ◌∙◌, subst, inl, lt-ltb, le-ltb, eq-eqb, ne_eqb, arith}
use Rattle.std.proofs.Math.Decide.{ℕ_discrete}
use Rattle.spec.specs.declared.Params.{Params}
use Rattle.spec.specs.declared.State.{State}
use Rattle.spec.specs.declared.Seg.{Seg}
use Rattle.spec.specs.Bytes.{part}
use Rattle.spec.specs.Drives.{View, sealed_in, seg}
use Rattle.spec.specs.Lists.{below, any, keep, first_or}
use Rattle.spec.specs.Memory.{mk_memory, idle_state}
use Rattle.spec.specs.Restart.{open_of_of, next_of, restart_memory}
use Rattle.spec.specs.Segments.{remaining, Segment, segment_of, segments, counted, candidates, address_table, compact_table, greatest_stamp, greatest_serial, unsealed}
use Rattle.law_basic.specs.Ranges.{and_left, and_both}
use Rattle.law_drives.specs.Members.{In, keep_in, below_in}
use Rattle.law_basic.specs.Segs.{ZonesLow}
use Rattle.law_drives.specs.Segs.{Here, remaining-low, serial_is}
use Rattle.law_drives.specs.Spots.{SpotsApart}
use Rattle.law_drives.specs.Tables.{seg_at, remains_at, at-remaining}
use Rattle.law_drives.specs.Tests.{and_false_left, and_false_right, cond_true, cond_false, cond_same}
use Rattle.disk_gather.specs.Flags.{Serials, Keeps, FlagsRows}
use Rattle.disk_gather.specs.Found.{found_row_seg, remains_leads, kept_serial}
use Rattle.recover_groups.specs.Groups.{recs_fault}
use Rattle.recover_addresses.specs.Lies.{Gathered}
use Rattle.recover_addresses.specs.Told.{Known}
use Rattle.recover_compact.specs.Compacts.{SegmentShown, Else}
use Rattle.recover_tables.specs.Walk.{tour_cands, Walked, walked_all, Toured, toured_told, toured_hit}
use Rattle.recover_segments.specs.Kept.{unsealed_at, unsealed-list}

-- what loading the memory asks for: no bad record, no zone of two segments, and what was gathered of them
pub record Loading (p : Params) (v : View) (gone : ℕ) (rows serials : List ℕ) (kept : List Bool) : Type 0 where
  pub here : Here p gone
  pub apart : SpotsApart p v gone
  pub clean : any (recs_fault p gone) (segments p v gone) ≡ false
  pub rows_are : FlagsRows p v gone rows
  pub serials_are : Serials p v gone serials
  pub kept_are : Keeps p v gone kept

-- the row of a segment that remains: the segment, its zones and its serial; and what the walk over its stripes makes of the tables
module _ (p : Params) (v : View) (gone : ℕ) (here : Here p gone) (rows serials owners : List ℕ) (b : Gathered p v gone rows serials owners) (z : ℕ) (hz : z < p.Z)
    (e : remains_at p v gone z ≡ true) (g : Seg) (q : g ≡ seg (part (8 * z) 8 rows)) where
  row_at : g ≡ seg_at p v gone z
  row_at = q ∙ found_row_seg p v gone rows z b.rows_are hz (remains_leads p v gone z e)

  pub row_remains : In g (remaining p v gone)
  row_remains = subst (λ (y : Seg). In y (remaining p v gone)) (sym row_at) (at-remaining p v gone here z hz e)

  pub head_row_low : ZonesLow p gone g
  head_row_low = remaining-low p v gone here g row_remains

  pub head_row_serial : get_or serials z 0 ≡ (segment_of p v gone g).serial
  head_row_serial =
      kept_serial p v gone here serials z b.serials_are hz (remains_leads p v gone z e) ∙ sym (serial_is p v gone (seg_at p v gone z))
      ∙ ap (λ (y : Seg). (segment_of p v gone y).serial) (sym row_at)

  module _ (co co' tb : List ℕ) (m : ℕ) (t : Toured p v gone z co tb m) (sh : SegmentShown p v gone g co') (el : Else p gone g co co') where
    shown! : SegmentShown p v gone (seg_at p v gone z) co'
    shown! = subst (λ (y : Seg). SegmentShown p v gone y co') row_at sh

    else! : Else p gone (seg_at p v gone z) co co'
    else! = subst (λ (y : Seg). Else p gone y co co') row_at el

    pub row_told : Known p v gone co' tb
    row_told = (tour_cands p v gone (below z), toured_told p v gone here z hz e co co' tb m t shown! else!)

    pub row_toured : length co' ≡ length co → (tb' : List ℕ) (m' n' : ℕ) → Walked p v gone co' g (below p.S) tb tb' m m' 0 n'
        → Toured p v gone (z + 1) co' tb' m' × (n' ≡ length (counted p gone (segment_of p v gone (seg_at p v gone z))))
    row_toured l tb' m' n' w =
        let a = subst (λ (y : Seg). Walked p v gone co' y (below p.S) tb tb' m m' 0 n') row_at w in
        (toured_hit p v gone here z hz e co co' tb m t shown! else! l tb' m' n' a, (walked_all p v gone co' (seg_at p v gone z) tb tb' m m' n' a).2)

-- the first unsealed segment
pub data OpenFound (p : Params) (v : View) (gone u : ℕ) : Type 0 where
  none_open : u ≡ p.Z → unsealed (segments p v gone) ≡ [] → OpenFound p v gone u
  one_open : (us : List Segment) → u < p.Z → remains_at p v gone u ≡ true → unsealed (segments p v gone) ≡ segment_of p v gone (seg_at p v gone u) ∷ us → OpenFound p v gone u

pub open_found : (p : Params) (v : View) (gone u : ℕ) → u ≡ first_or p.Z (keep (unsealed_at p v gone) (below p.Z)) → OpenFound p v gone u
unfolding first_or
open_found p v gone u e = go (keep (unsealed_at p v gone) (below p.Z)) refl
  where
    at : ℕ → Segment
    at z = segment_of p v gone (seg_at p v gone z)

    remains! : (z : ℕ) → unsealed_at p v gone z ≡ true → remains_at p v gone z ≡ true
    remains! z q = unfold unsealed_at in and_left (remains_at p v gone z) (not (sealed_in p v gone (seg_at p v gone z))) q

    go : (l : List ℕ) → keep (unsealed_at p v gone) (below p.Z) ≡ l → OpenFound p v gone u
    go [] q = none_open (e ∙ ap (first_or p.Z) q) (unsealed-list p v gone ∙ ap (map at) q)
    go (z ∷ l) q =
        let y : u ≡ z = e ∙ ap (first_or p.Z) q in
        let (i, t) = keep_in (unsealed_at p v gone) (below p.Z) z (subst (λ (x : List ℕ). In z x) (sym q) (inl refl)) in
        one_open (map at l) (subst (λ (n : ℕ). n < p.Z) (sym y) (below_in p.Z z i)) (ap (remains_at p v gone) y ∙ remains! z t)
        (unsealed-list p v gone ∙ ap (map at) q ∙ ap (λ (n : ℕ). at n ∷ map at l) (sym y))

-- how many stripes of the segment at zone u count, if it remains
abbrev pub OpenNext : Params → View → ℕ → ℕ → ℕ → Type 0
OpenNext p v gone u n = u < p.Z → remains_at p v gone u ≡ true → n ≡ length (counted p gone (segment_of p v gone (seg_at p v gone u)))

-- what the state takes from them: the serial of the open segment or 0, and its next stripe
next_open_is : (p : Params) (v : View) (gone u n : ℕ) (ns : List ℕ) → Here p gone → Serials p v gone ns → OpenFound p v gone u → OpenNext p v gone u n
    → (cond (eqb gone 0 && ltb u p.Z) (get_or ns u 0) 0 ≡ open_of_of (cond (eqb gone 0) (unsealed (segments p v gone)) []))
    × (cond (eqb gone 0 && ltb u p.Z) n 0 ≡ next_of p (cond (eqb gone 0) (unsealed (segments p v gone)) []))
unfolding open_of_of next_of
next_open_is p v gone u n ns here sn (none_open h e) f =
    let x : cond (eqb gone 0) (unsealed (segments p v gone)) [] ≡ [] = ap (λ (y : List Segment). cond (eqb gone 0) y []) e ∙ cond_same (eqb gone 0) [] in
    let t : eqb gone 0 && ltb u p.Z ≡ false = and_false_right (eqb gone 0) (ltb u p.Z) (le-ltb u p.Z (omega arith)) in
    (cond_false (eqb gone 0 && ltb u p.Z) (get_or ns u 0) 0 t ∙ sym (ap open_of_of x), cond_false (eqb gone 0 && ltb u p.Z) n 0 t ∙ sym (ap (next_of p) x))
next_open_is p v gone u n ns here sn (one_open us h m e) f = go (ℕ_discrete gone 0)
  where
    g : Segment
    g = segment_of p v gone (seg_at p v gone u)

    its_serial! : get_or ns u 0 ≡ (segment_of p v gone (seg_at p v gone u)).serial
    its_serial! = kept_serial p v gone here ns u sn h (remains_leads p v gone u m) ∙ sym (serial_is p v gone (seg_at p v gone u))

    go : Dec (gone ≡ 0) → (cond (eqb gone 0 && ltb u p.Z) (get_or ns u 0) 0 ≡ open_of_of (cond (eqb gone 0) (unsealed (segments p v gone)) []))
        × (cond (eqb gone 0 && ltb u p.Z) n 0 ≡ next_of p (cond (eqb gone 0) (unsealed (segments p v gone)) []))
    go (no z) =
        let x : cond (eqb gone 0) (unsealed (segments p v gone)) [] ≡ [] = cond_false (eqb gone 0) (unsealed (segments p v gone)) [] (ne_eqb gone 0 z) in
        let t : eqb gone 0 && ltb u p.Z ≡ false = and_false_left (eqb gone 0) (ltb u p.Z) (ne_eqb gone 0 z) in
        (cond_false (eqb gone 0 && ltb u p.Z) (get_or ns u 0) 0 t ∙ sym (ap open_of_of x), cond_false (eqb gone 0 && ltb u p.Z) n 0 t ∙ sym (ap (next_of p) x))
    go (yes z) =
        let x : cond (eqb gone 0) (unsealed (segments p v gone)) [] ≡ g ∷ us = cond_true (eqb gone 0) (unsealed (segments p v gone)) [] (eq-eqb gone 0 z) ∙ e in
        let t : eqb gone 0 && ltb u p.Z ≡ true = and_both (eqb gone 0) (ltb u p.Z) (eq-eqb gone 0 z) (lt-ltb u p.Z h) in (
          cond_true (eqb gone 0 && ltb u p.Z) (get_or ns u 0) 0 t ∙ its_serial! ∙ sym (ap open_of_of x),
          cond_true (eqb gone 0 && ltb u p.Z) n 0 t ∙ f h m ∙ ap (λ (y : ℕ). length (counted p y g)) z ∙ sym (ap (next_of p) x),
        )

-- ---- the whole memory

-- both tables and the greatest stamp are what the drives say
pub record SaidTables (p : Params) (v : View) (gone : ℕ) (tb cs : List ℕ) (t : ℕ) : Type 0 where
  pub addresses : tb ≡ address_table p (candidates p gone (segments p v gone))
  pub compact : cs ≡ compact_table p (segments p v gone)
  pub most : t ≡ greatest_stamp (candidates p gone (segments p v gone))

pub memory_is : (p : Params) (v : View) (gone t r u n : ℕ) (ns : List ℕ) (st : State) (tb cs fl : List ℕ) → Here p gone → Serials p v gone ns → SaidTables p v gone tb cs t
    → r ≡ greatest_serial (segments p v gone) → OpenFound p v gone u → OpenNext p v gone u n
    → st ≡ idle_state 1 gone t r (cond (eqb gone 0 && ltb u p.Z) (get_or ns u 0) 0) (cond (eqb gone 0 && ltb u p.Z) n 0) → mk_memory st tb cs fl ≡ restart_memory p v gone fl
unfolding restart_memory
memory_is p v gone t r u n ns st tb cs fl here sn s er o f es =
    let h = next_open_is p v gone u n ns here sn o f in
    let e : st ≡ idle_state 1 gone (greatest_stamp (candidates p gone (segments p v gone))) (greatest_serial (segments p v gone))
    (open_of_of (cond (eqb gone 0) (unsealed (segments p v gone)) [])) (next_of p (cond (eqb gone 0) (unsealed (segments p v gone)) [])) =
    es ∙ (λ j. idle_state 1 gone (s.most j) (er j) (h.0 j) (h.1 j)) in
    λ j. mk_memory (e j) (s.addresses j) (s.compact j) fl
