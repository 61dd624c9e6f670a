-- The checks of reclaim one after the other, and what it then does (01, Refusals; Reclaim). Assumes nothing.
use Rattle.std.specs.Prelude.{Option, Some, None, ℕ, suc, ◌*◌, ◌<◌, eqb, length, drop, Bool, ◌&&◌, ◌||◌, ◌≡◌}
use Rattle.spec.specs.Calls.{Check, ninth, ruled, first_refusal}
use Rattle.spec.specs.Calls.Check.{rule, zones}
use Rattle.spec.specs.Drives.{View, view_of, Disk}
use Rattle.spec.specs.Engine.{lent_ok_of}
use Rattle.spec.specs.Lists.{Opt, cons_if, keep, is_nil, first_or}
use Rattle.spec.specs.Lists.Opt.{none, some}
use Rattle.spec.specs.Memory.{Memory, state_ok, state_faults}
use Rattle.spec.specs.Params.{in_range, capacity, place_zone}
use Rattle.spec.specs.Reclaim.{table_faults, Victim, victim, is_none, victim_segment, victim_live, idle, must_copy, copy_waits, copy_full, reclaim_checks_in, copy_order, reclaim_checks}
use Rattle.spec.specs.Segments.{place_segment}
use Rattle.spec.specs.Write.{opens, no_serial, must_wait, scarce, room_rules}
use Rattle.spec.specs.declared.Answer.{Answer}
use Rattle.spec.specs.declared.Answer.TheVariants.{Refused, BadZone}
use Rattle.spec.specs.declared.Params.{Params}
use Rattle.spec.specs.declared.Seg.{Seg}
use Rattle.spec.specs.declared.State.{State}
use Rattle.law_basic.specs.Ranges.{keep_none, nil_is}
use Rattle.law_basic.specs.Segs.{ZonesLow}
use Rattle.law_calls.specs.Refusals.{or_next, refusal_append, zones_pass, none_left, state_fault, state_fine, rule_fails, rule_passes, least_zero}
use Rattle.mem_calls.specs.Listed.{list_rule_of, list_fails, list_passes}
use Rattle.call_reclaim.specs.declared.Picked.{Picked}
use Rattle.call_reclaim.specs.declared.Picked.TheVariants.{Clear, Copy}
use Rattle.call_reclaim_victim.specs.Waiting.{is_odd, lowest, odd_zone}
use Rattle.law_views.specs.Views.{seen}
use Rattle.std.proofs.Common.{eq-eqb, ne_eqb, ◌∙◌, arith}
use Rattle.std.proofs.Math.Bool.{true, false, cond, not}
use mathlib.Core.List.{List, [], ◌∷◌, ◌++◌, map}
use Rattle.std.proofs.Math.Path.{refl, sym, ap, ap₂}

-- 01, Refusals: the first check of a reclaim that holds, on what it is lent
abbrev pub reclaim_refusal : Params → List ℕ → Disk → Memory → Opt Answer
reclaim_refusal p off k m = first_refusal (reclaim_checks p (lent_ok_of p off k m) (seen p off k) m (victim p (seen p off k) m.addresses))

-- 01, Refusals, 6 to 8, of a copy
unfoldable pub copy_rules : Params → View → State → List Check
copy_rules p v st = rule 6 (no_serial p st) ∷ room_rules copy_order (must_wait p st) (opens p st && scarce p v 1)

-- 01, Refusals, 9: the bad zones of reclaim
unfoldable pub bad_zones : Params → View → State → List ℕ → Opt Victim → List ℕ
bad_zones p v st tb w = state_faults p st ++ table_faults p v tb ++ map (place_zone p) (keep (is_odd p) (victim_live w))

-- the checks from 5 on
unfoldable pub later_checks : Params → View → State → List ℕ → Opt Victim → List Check
later_checks p v st tb w =
    rule 5 (is_none w || (must_copy w && is_nil (idle p v st w))) ∷ rule 6 (must_copy w && no_serial p st)
    ∷ room_rules copy_order (copy_waits p st w) (copy_full p v st w) ++ (zones (bad_zones p v st tb w) ∷ [])

-- the block at q is copied, the first of w's live blocks not in flight; g is what the code has of the segment
abbrev pub CopyAt : Params → View → State → Opt Victim → Seg → ℕ → Type 0
CopyAt p v st w g q =
    (is_nil (victim_live w) ≡ false) × (first_or 0 (idle p v st w) ≡ q) × (q < p.N * p.Z * capacity p) × (is_odd p q ≡ false) × (place_segment p v 0 q ≡ g) × ZonesLow p 0 g

-- what the code chooses where no check holds: to reset the segment w, or to copy a block of it
abbrev pub Chose : Params → View → State → Opt Victim → Picked → Type 0
Chose p v st w (Clear g) = (is_nil (victim_live w) ≡ true) × (victim_segment w ≡ g) × ZonesLow p 0 g
Chose p v st w (Copy g q) = CopyAt p v st w g q.0

-- ---- the first checks

module _ (p : Params) (off : List ℕ) (k : Disk) (m : Memory) where
  -- the segment
  abbrev pub taken : Opt Victim
  taken = victim p (seen p off k) m.addresses

  -- the first refusal among the checks from the i-th on, counted from 0
  abbrev pub reclaim_from : ℕ → Opt Answer
  reclaim_from i = first_refusal (drop i (reclaim_checks p (lent_ok_of p off k m) (seen p off k) m taken))

  abbrev rest : ℕ → List Check
  rest i = drop (suc i) (reclaim_checks p (lent_ok_of p off k m) (seen p off k) m taken)

  pub reclaim_range_fails : in_range p ≡ false → reclaim_from 0 ≡ some (Refused 1)
  unfolding reclaim_checks_in
  reclaim_range_fails e = rule_fails 1 (not (in_range p)) (rest 0) (ap not e)

  pub reclaim_range_passes : in_range p ≡ true → reclaim_from 0 ≡ reclaim_from 1
  unfolding reclaim_checks_in
  reclaim_range_passes e = rule_passes 1 (not (in_range p)) (rest 0) (ap not e)

  pub reclaim_lengths_fail : lent_ok_of p off k m ≡ false → reclaim_from 1 ≡ some (Refused 2)
  unfolding reclaim_checks_in
  reclaim_lengths_fail e = rule_fails 2 (not (lent_ok_of p off k m)) (rest 1) (ap not e)

  pub reclaim_lengths_pass : lent_ok_of p off k m ≡ true → reclaim_from 1 ≡ reclaim_from 2
  unfolding reclaim_checks_in
  reclaim_lengths_pass e = rule_passes 2 (not (lent_ok_of p off k m)) (rest 1) (ap not e)

  -- 02, item 4
  pub reclaim_list_fails : (r : Answer) → some r ≡ list_rule_of p off → reclaim_from 2 ≡ some r
  unfolding reclaim_checks_in view_of
  reclaim_list_fails r e = sym (list_fails p (seen p off k) (rest 3) r e)

  pub reclaim_list_passes : none ≡ list_rule_of p off → reclaim_from 2 ≡ reclaim_from 4
  unfolding reclaim_checks_in view_of
  reclaim_list_passes e = list_passes p (seen p off k) (rest 3) e

  pub reclaim_missing_fails : (m.state.missing ≡ 0 → ⊥) → reclaim_from 4 ≡ some (Refused 3)
  unfolding reclaim_checks_in
  reclaim_missing_fails f = rule_fails 3 (not (eqb m.state.missing 0)) (rest 4) (ap not (ne_eqb m.state.missing 0 f))

  pub reclaim_missing_passes : m.state.missing ≡ 0 → reclaim_from 4 ≡ reclaim_from 5
  unfolding reclaim_checks_in
  reclaim_missing_passes f = rule_passes 3 (not (eqb m.state.missing 0)) (rest 4) (ap not (eq-eqb m.state.missing 0 f))

  -- the rest
  pub from_later : reclaim_from 5 ≡ first_refusal (later_checks p (seen p off k) m.state m.addresses taken)
  unfolding reclaim_checks_in later_checks bad_zones is_odd
  from_later = refl

  -- 1 and 2 pass
  pub reclaim_lent : in_range p ≡ true → lent_ok_of p off k m ≡ true → reclaim_from 0 ≡ reclaim_from 2
  reclaim_lent e f = reclaim_range_passes e ∙ reclaim_lengths_pass f

  -- and 10 and the narrow 1
  pub list_done : in_range p ≡ true → lent_ok_of p off k m ≡ true → none ≡ list_rule_of p off → reclaim_from 0 ≡ reclaim_from 4
  list_done e f g = reclaim_lent e f ∙ reclaim_list_passes g

  -- and 3
  pub front_passes : in_range p ≡ true → lent_ok_of p off k m ≡ true → none ≡ list_rule_of p off → m.state.missing ≡ 0
      → reclaim_refusal p off k m ≡ first_refusal (later_checks p (seen p off k) m.state m.addresses taken)
  front_passes e f g i = list_done e f g ∙ reclaim_missing_passes i ∙ from_later

-- ---- 6 to 8

module _ (p : Params) (v : View) (st : State) where
  pub rules_serial : no_serial p st ≡ true → some (Refused 6) ≡ first_refusal (copy_rules p v st)
  unfolding copy_rules first_refusal ruled
  rules_serial a = sym (λ j. first_refusal (rule 6 (a j) ∷ room_rules copy_order (must_wait p st) (opens p st && scarce p v 1)))

  module _ (a : no_serial p st ≡ false) where
    pub rules_full : (opens p st && scarce p v 1) ≡ true → some (Refused 8) ≡ first_refusal (copy_rules p v st)
    unfolding copy_rules first_refusal ruled
    rules_full f = sym (λ j. first_refusal (rule 6 (a j) ∷ room_rules copy_order (must_wait p st) (f j)))

    module _ (f : (opens p st && scarce p v 1) ≡ false) where
      pub rules_wait : must_wait p st ≡ true → some (Refused 7) ≡ first_refusal (copy_rules p v st)
      unfolding copy_rules first_refusal ruled
      rules_wait b = sym (λ j. first_refusal (rule 6 (a j) ∷ room_rules copy_order (b j) (f j)))

      pub rules_pass : must_wait p st ≡ false → none ≡ first_refusal (copy_rules p v st)
      unfolding copy_rules first_refusal ruled
      rules_pass b = sym (λ j. first_refusal (rule 6 (a j) ∷ room_rules copy_order (b j) (f j)))

-- ---- bad zones

-- what a zone refuses, if there is one
unfoldable pub zone_refusal : Option ℕ → Opt Answer
zone_refusal None = none
zone_refusal (Some z) = some (BadZone z)

zero_first : (l : List ℕ) → first_refusal (zones (0 ∷ l) ∷ []) ≡ some (BadZone 0)
unfolding first_refusal ninth
zero_first l = ap (λ (n : ℕ). some (BadZone n)) (least_zero l)

module _ (p : Params) (v : View) (st : State) (tb zs : List ℕ) where
  pub fault_state : state_ok p st ≡ false → first_refusal (zones (state_faults p st ++ table_faults p v tb ++ zs) ∷ []) ≡ some (BadZone 0)
  fault_state e = ap (λ (l : List ℕ). first_refusal (zones (l ++ table_faults p v tb ++ zs) ∷ [])) (state_fault p st e) ∙ zero_first (table_faults p v tb ++ zs)

  pub fault_table : state_ok p st ≡ true → (b : Bool) → table_faults p v tb ≡ cons_if b 0 []
      → first_refusal (zones (state_faults p st ++ table_faults p v tb ++ zs) ∷ []) ≡ cond b (some (BadZone 0)) (first_refusal (zones zs ∷ []))
  unfolding cons_if
  fault_table e b f = ap₂ (λ (l n : List ℕ). first_refusal (zones (l ++ n ++ zs) ∷ [])) (state_fine p st e) f ∙ go b
    where
      go : (b : Bool) → first_refusal (zones (cons_if b 0 [] ++ zs) ∷ []) ≡ cond b (some (BadZone 0)) (first_refusal (zones zs ∷ []))
      go true = zero_first zs
      go false = refl

-- 01, Refusals, 9: live blocks that are no data blocks name their own zones
pub odd_zones : (zs : List ℕ) → first_refusal (zones zs ∷ []) ≡ zone_refusal (lowest zs)
unfolding first_refusal ninth lowest zone_refusal
odd_zones [] = refl
odd_zones (z ∷ zs) = refl

-- ---- from 5 on

module _ (p : Params) (v : View) (st : State) (tb : List ℕ) (w : Opt Victim) where
  abbrev pub later : Opt Answer
  later = first_refusal (later_checks p v st tb w)

  abbrev more : List Check
  more = drop 1 (later_checks p v st tb w)

  -- 01, Refusals, 5, of reclaim
  abbrev idles : Bool
  idles = is_none w || (must_copy w && is_nil (idle p v st w))

  -- no sealed segment
  pub nobody_fails : is_none w ≡ true → later ≡ some (Refused 5)
  unfolding later_checks
  nobody_fails e = rule_fails 5 idles more (ap (λ (x : Bool). x || (must_copy w && is_nil (idle p v st w))) e)

  module _ (e : is_none w ≡ false) where
    -- none live
    pub dead_checks : is_nil (victim_live w) ≡ true → later ≡ first_refusal (zones (state_faults p st ++ table_faults p v tb ++ []) ∷ [])
    unfolding later_checks bad_zones
    dead_checks d =
        let n : must_copy w ≡ false = ap not d in
        rule_passes 5 idles more (λ j. e j || (n j && is_nil (idle p v st w)))
        ∙ (λ j. first_refusal (rule 6 (n j && no_serial p st) ∷ room_rules copy_order (n j && must_wait p st) (n j && opens p st && scarce p v 1) ++ (zones (bad_zones p v st tb w) ∷ [])))
        ∙ none_hold
        ∙ ap (λ (l : List ℕ). first_refusal (zones (state_faults p st ++ table_faults p v tb ++ map (place_zone p) (keep (is_odd p) l)) ∷ [])) (nil_is (victim_live w) d)
        ∙ ap (λ (l : List ℕ). first_refusal (zones (state_faults p st ++ table_faults p v tb ++ map (place_zone p) l) ∷ [])) (keep_none (is_odd p))
      where
        none_hold : first_refusal (rule 6 false ∷ room_rules copy_order false false ++ (zones (bad_zones p v st tb w) ∷ [])) ≡ first_refusal (zones (bad_zones p v st tb w) ∷ [])
        none_hold = unfold first_refusal ruled in refl

    module _ (d : is_nil (victim_live w) ≡ false) where
      alive : must_copy w ≡ true
      alive = ap not d

      -- all in flight
      pub idle_fails : is_nil (idle p v st w) ≡ true → later ≡ some (Refused 5)
      unfolding later_checks
      idle_fails f = rule_fails 5 idles more (λ j. e j || (alive j && f j))

      -- some not
      pub idle_passes : is_nil (idle p v st w) ≡ false → later ≡ or_next (first_refusal (copy_rules p v st)) (first_refusal (zones (bad_zones p v st tb w) ∷ []))
      unfolding later_checks copy_rules
      idle_passes f =
          rule_passes 5 idles more (λ j. e j || (alive j && f j))
          ∙ (λ j. first_refusal (rule 6 (alive j && no_serial p st)
          ∷ room_rules copy_order (alive j && must_wait p st) (alive j && opens p st && scarce p v 1) ++ (zones (bad_zones p v st tb w) ∷ [])))
          ∙ refusal_append (copy_rules p v st) (zones (bad_zones p v st tb w) ∷ [])

-- the zones, once neither state nor table is at fault
pub zones_odd : (p : Params) (v : View) (st : State) (tb : List ℕ) (w : Opt Victim) (fault : Bool) (odd : Option ℕ)
    → ((zs : List ℕ) → first_refusal (zones (state_faults p st ++ table_faults p v tb ++ zs) ∷ []) ≡ cond fault (some (BadZone 0)) (first_refusal (zones zs ∷ [])))
    → odd_zone p (victim_live w) ≡ odd → first_refusal (zones (bad_zones p v st tb w) ∷ []) ≡ cond fault (some (BadZone 0)) (zone_refusal odd)
unfolding bad_zones odd_zone
zones_odd p v st tb w fault odd h o = h (map (place_zone p) (keep (is_odd p) (victim_live w)))
    ∙ ap (cond fault (some (BadZone 0))) (odd_zones (map (place_zone p) (keep (is_odd p) (victim_live w))) ∙ ap zone_refusal o)

-- ---- lists

pub length-nil : {A : Type 0} (l : List A) → length l ≡ 0 → is_nil l ≡ true
unfolding is_nil
length-nil [] h = refl
length-nil (a ∷ l) h = absurd (let q : ⊥ = omega arith in q)

pub length_some : {A : Type 0} (l : List A) → 0 < length l → is_nil l ≡ false
unfolding is_nil
length_some [] h = absurd (let q : ⊥ = omega arith in q)
length_some (a ∷ l) h = refl

-- the first of a list, whatever stands for none
pub first_found : (l : List ℕ) (d x : ℕ) → first_or d l ≡ x → (x ≡ d → ⊥) → first_or 0 l ≡ x
unfolding first_or
first_found [] d x e n = absurd (n (sym e))
first_found (y ∷ l) d x e n = e

pub no_zones : first_refusal (zones [] ∷ []) ≡ none
no_zones = zones_pass [] [] refl ∙ none_left
