-- The checks of a restart one after the other: each refuses, or leaves it to the next (01, Refusals; 02, item 4). Assumes nothing.
use Rattle.std.specs.Prelude.{Option, Some, None, ℕ, ◌≤◌, ◌<◌, ltb, Bool, true, false, cond, ◌&&◌, ◌||◌, ◌≡◌}
use Rattle.spec.specs.Calls.{Check, first_refusal}
use Rattle.spec.specs.Calls.Check.{rule, zones}
use Rattle.spec.specs.Counts.{last_count}
use Rattle.spec.specs.Drives.{View, pointer_at, is_good, few_good, above_narrow}
use Rattle.spec.specs.Faults.{pointer_faults, segment_faults, image_checks}
use Rattle.spec.specs.Lists.{Opt, only, powers, below, any, keep, is_nil, first_or}
use Rattle.spec.specs.Lists.Opt.{none, some}
use Rattle.spec.specs.Params.{in_range, capacity, no_drive, named, present}
use Rattle.spec.specs.Restart.{none_free_of, names_drive, rewrites, restart_checks}
use Rattle.spec.specs.Write.{list_rules}
use Rattle.spec.specs.Segments.{Segment, segments, greatest_serial}
use Rattle.spec.specs.declared.Answer.{Answer}
use Rattle.spec.specs.declared.Answer.TheVariants.{Refused, BadZone}
use Rattle.spec.specs.declared.Params.{Params}
use Rattle.recover_check.specs.Faults.{Examined, ragged_by}
use Rattle.recover_check.specs.Mends.{names_zone_lem, zone_le, rewrites_is}
use Rattle.recover_check.specs.declared.Exam.{Exam}
use Rattle.recover_headers.specs.Lowest.{low-named}
use Rattle.disk_gather.specs.Ranges.{opt_first, opt_first_or, opt_first_none, opt_first_low}
use Rattle.std.specs.Option.{unwrap_or, is_none}
use Rattle.law_basic.specs.Ranges.{and_both, nil_is}
use Rattle.law_basic.specs.Geometry.{ranged}
use Rattle.mem_calls.specs.Listed.{list_rule_of, list_fails, list_passes}
use Rattle.law_calls.specs.Refusals.{none_left, or_next, refusal_append, rule_fails, rule_passes, zones_pass, rule_free, zones_free}
use Rattle.law_drives.specs.Accept.{named_here}
use Rattle.law_drives.specs.Segs.{Here}
use Rattle.law_drives.specs.Settled.{zero_here}
use Rattle.law_drives.specs.Tests.{and_false_right, or_first, or_right}
use Rattle.std.proofs.Common.{lt-ltb, le-ltb, eq-eqb, ne_eqb, eqb-true, ap₂, ◌∙◌, subst, arith}
use Rattle.std.proofs.lemmas.Bool.{not-false}
use Rattle.std.proofs.Math.Dec.{eqb}
use Rattle.std.proofs.Math.Decide.{dec_lt}
use Rattle.std.proofs.Math.Bool.{not}
use mathlib.Core.List.{List, [], ◌∷◌, ◌++◌}
use Rattle.std.proofs.Math.Path.{refl, sym, ap}

-- 01, Refusals: 1, 2, the list's of 02, item 4, and the write pointers of 9
unfoldable pub front_checks : Params → Bool → View → ℕ → List Check
front_checks p long v d = rule 1 (not (in_range p) || not (names_drive p d)) ∷ rule 2 (not long) ∷ list_rules p v ++ (zones (pointer_faults p v (named d)) ∷ [])

-- 01, Refusals: what of 9 is left, then 6 and 8
unfoldable pub rest_checks : Params → View → ℕ → List Segment → List Check
rest_checks p v gone gs =
    zones (segment_faults p v gone gs) ∷ rule 6 (rewrites p gone gs && eqb (greatest_serial gs) last_count) ∷ rule 8 (rewrites p gone gs && none_free_of p v gs) ∷ []

module _ (p : Params) (long : Bool) (v : View) (d : ℕ) (gs : List Segment) where
  abbrev bad1 : Bool
  bad1 = not (in_range p) || not (names_drive p d)

  abbrev ps : List ℕ
  ps = pointer_faults p v (named d)

  abbrev few : Bool
  few = few_good p v.offline

  abbrev narrow : Bool
  narrow = above_narrow p v.offline

  rest! : List Check
  rest! =
      zones (cond (is_nil (pointer_faults p v (named d))) (segment_faults p v (named d) gs) []) ∷ rule 6
      (rewrites p (named d) gs && eqb (greatest_serial gs) last_count) ∷ rule 8 (rewrites p (named d) gs && none_free_of p v gs) ∷ []

  all_are : restart_checks p long v d gs ≡ rule 1 bad1 ∷ rule 2 (not long) ∷ rule 10 few ∷ rule 1 narrow ∷ zones ps ∷ rest!
  unfolding restart_checks image_checks rest!
  all_are = refl

  front_are : front_checks p long v d ≡ rule 1 bad1 ∷ rule 2 (not long) ∷ rule 10 few ∷ rule 1 narrow ∷ zones ps ∷ []
  unfolding front_checks
  front_are = refl

  -- the first checks, then the rest
  all_front : restart_checks p long v d gs ≡ front_checks p long v d ++ rest!
  all_front = all_are ∙ sym (ap (λ (l : List Check). l ++ rest!) front_are)

  -- a first check that holds is the first of all
  pub restart_front_refused : (a : Answer) → first_refusal (front_checks p long v d) ≡ some a → first_refusal (restart_checks p long v d gs) ≡ some a
  restart_front_refused a e =
      ap first_refusal all_front ∙ refusal_append (front_checks p long v d) rest! ∙ ap (λ (r : Opt Answer). or_next r (first_refusal rest!)) e

  -- where none of them holds
  pub record Fronted : Type 0 where
    pub in_range_holds : in_range p ≡ true
    pub names : names_drive p d ≡ true
    pub lent : long ≡ true
    pub pointers_ok : pointer_faults p v (named d) ≡ []
    pub goes_on : first_refusal (restart_checks p long v d gs) ≡ first_refusal (rest_checks p v (named d) gs)

  pub restart_front_passed : first_refusal (front_checks p long v d) ≡ none → Fronted
  restart_front_passed e =
      let f₁ = rule_free 1 bad1 (rule 2 (not long) ∷ rule 10 few ∷ rule 1 narrow ∷ zones ps ∷ []) (ap first_refusal (sym front_are) ∙ e) in
      let f₂ = rule_free 2 (not long) (rule 10 few ∷ rule 1 narrow ∷ zones ps ∷ []) f₁.1 in
      let f₃ = rule_free 10 few (rule 1 narrow ∷ zones ps ∷ []) f₂.1 in
      let f₄ = rule_free 1 narrow (zones ps ∷ []) f₃.1 in
      let f₅ = zones_free ps [] f₄.1 in
      record {
        in_range_holds = not-false (in_range p) (or_first (not (in_range p)) (not (names_drive p d)) f₁.0);
        names = not-false (names_drive p d) (or_right (not (in_range p)) (not (names_drive p d)) f₁.0);
        lent = not-false long f₂.0;
        pointers_ok = f₅.0;
        goes_on =
            ap first_refusal all_front ∙ refusal_append (front_checks p long v d) rest! ∙ ap (λ (r : Opt Answer). or_next r (first_refusal rest!)) e
            ∙ left f₅.0;
      }
    where
      left : pointer_faults p v (named d) ≡ [] → first_refusal rest! ≡ first_refusal (rest_checks p v (named d) gs)
      left q =
          unfold rest! rest_checks in ap (λ (zs : List ℕ). first_refusal
          (zones (cond (is_nil zs) (segment_faults p v (named d) gs) []) ∷ rule 6 (rewrites p (named d) gs && eqb (greatest_serial gs) last_count) ∷
          rule 8 (rewrites p (named d) gs && none_free_of p v gs) ∷ [])) q
          ∙ nil!
        where
          nil! :
              first_refusal (zones (cond (is_nil {A = ℕ} []) (segment_faults p v (named d) gs) []) ∷ rule 6
              (rewrites p (named d) gs && eqb (greatest_serial gs) last_count) ∷ rule 8 (rewrites p (named d) gs && none_free_of p v gs) ∷ [])
              ≡ first_refusal (zones (segment_faults p v (named d) gs) ∷ rule 6 (rewrites p (named d) gs && eqb (greatest_serial gs) last_count) ∷ rule 8
              (rewrites p (named d) gs && none_free_of p v gs) ∷ [])
          nil! = unfold is_nil in refl

-- ---- the front checks, in order

module _ (p : Params) (long : Bool) (v : View) (d : ℕ) where
  abbrev wrong1 : Bool
  wrong1 = not (in_range p) || not (names_drive p d)

  abbrev tail3 : List Check
  tail3 = zones (pointer_faults p v (named d)) ∷ []

  pub restart_numbers_fail : (not (in_range p) || not (names_drive p d)) ≡ true → some (Refused 1) ≡ first_refusal (front_checks p long v d)
  unfolding front_checks
  restart_numbers_fail e = sym (rule_fails 1 wrong1 (rule 2 (not long) ∷ list_rules p v ++ tail3) e)

  module _ (ok : (not (in_range p) || not (names_drive p d)) ≡ false) where
    pub restart_lengths_fail : long ≡ false → some (Refused 2) ≡ first_refusal (front_checks p long v d)
    unfolding front_checks
    restart_lengths_fail e = sym (rule_passes 1 wrong1 (rule 2 (not long) ∷ list_rules p v ++ tail3) ok ∙ rule_fails 2 (not long) (list_rules p v ++ tail3) (ap not e))

    module _ (l : long ≡ true) where
      lengths_past : first_refusal (front_checks p long v d) ≡ first_refusal (list_rules p v ++ tail3)
      unfolding front_checks
      lengths_past = rule_passes 1 wrong1 (rule 2 (not long) ∷ list_rules p v ++ tail3) ok ∙ rule_passes 2 (not long) (list_rules p v ++ tail3) (ap not l)

      -- 02, item 4
      pub restart_list_fails : (r : Answer) → some r ≡ list_rule_of p v.offline → some r ≡ first_refusal (front_checks p long v d)
      restart_list_fails r e = list_fails p v tail3 r e ∙ sym lengths_past

      module _ (fits : none ≡ list_rule_of p v.offline) where
        front_past_holds : first_refusal (front_checks p long v d) ≡ first_refusal (zones (pointer_faults p v (named d)) ∷ [])
        front_past_holds = lengths_past ∙ list_passes p v tail3 fits

        bad! : ℕ → Bool
        bad! z = any (λ e. is_good p v.offline e z && ltb (capacity p) (pointer_at v e z)) (present p (named d))

        pointers_are : pointer_faults p v (named d) ≡ keep bad! (below p.Z)
        unfolding pointer_faults bad!
        pointers_are = refl

        pub restart_pointers_fail : (z : ℕ) → Some z ≡ opt_first (pointer_faults p v (named d)) → some (BadZone z) ≡ first_refusal (front_checks p long v d)
        restart_pointers_fail z e =
            let l = pointer_faults p v (named d) in
            let q : first_or p.Z l ≡ z = sym (opt_first_or p.Z l) ∙ ap (λ (o : Option ℕ). unwrap_or o p.Z) (sym e) in
            let h : z < p.Z = opt_first_low bad! p.Z z (ap opt_first (sym pointers_are) ∙ sym e) in
            sym (front_past_holds ∙ low-named bad! p.Z l pointers_are [] (omega arith) ∙ ap (λ (y : ℕ). some (BadZone y)) q)

        pub restart_pointers_pass : None ≡ opt_first (pointer_faults p v (named d)) → none ≡ first_refusal (front_checks p long v d)
        restart_pointers_pass e =
            let l = pointer_faults p v (named d) in
            sym (front_past_holds ∙ zones_pass l [] (nil_is l (sym (opt_first_none l) ∙ ap is_none (sym e))) ∙ none_left)

-- ---- the checks behind them, in order

pub segments-fail :
    (p : Params) (v : View) (gone : ℕ) (e : Exam)
    → Examined p v gone (segments p v gone) e
    → e.zone < p.Z
    → some (BadZone e.zone) ≡ first_refusal (rest_checks p v gone (segments p v gone))
unfolding rest_checks
segments-fail p v gone e x h =
    let gs = segments p v gone in
    sym (names_zone_lem p v gone e (rule 6 (rewrites p gone gs && eqb (greatest_serial gs) last_count) ∷ rule 8 (rewrites p gone gs && none_free_of p v gs) ∷ []) x h)

-- no zone below Z: none is bad
pub zone_none : (p : Params) (v : View) (gone : ℕ) (e : Exam) → Examined p v gone (segments p v gone) e → p.Z ≤ e.zone → e.zone ≡ p.Z
zone_none p v gone e x h = let l = zone_le p v gone e x in omega arith

-- 01, Restart, 5: with a drive missing nothing is rewritten
pub gone_plain : (p : Params) (v : View) (gone : ℕ) (e : Exam) → Examined p v gone (segments p v gone) e → e.zone ≡ p.Z → (gone ≡ 0 → ⊥)
    → rewrites p gone (segments p v gone) ≡ false
gone_plain p v gone e x z n = rewrites_is p v gone e x z ∙ ap (λ (b : Bool). b && ragged_by p e) (ne_eqb gone 0 n)

pub here_plain : (p : Params) (v : View) (gone : ℕ) (e : Exam) → Examined p v gone (segments p v gone) e → e.zone ≡ p.Z → gone ≡ 0
    → rewrites p gone (segments p v gone) ≡ ragged_by p e
here_plain p v gone e x z q = rewrites_is p v gone e x z ∙ ap (λ (b : Bool). b && ragged_by p e) (eq-eqb gone 0 q)

module _ (p : Params) (v : View) (gone : ℕ) (gs : List Segment) where
  abbrev six : Bool
  six = rewrites p gone gs && eqb (greatest_serial gs) last_count

  abbrev eight : Bool
  eight = rewrites p gone gs && none_free_of p v gs

  module _ (ok : segment_faults p v gone gs ≡ []) where
    restart_rest_passed : first_refusal (rest_checks p v gone gs) ≡ first_refusal (rule 6 six ∷ rule 8 eight ∷ [])
    unfolding rest_checks
    restart_rest_passed = zones_pass (segment_faults p v gone gs) (rule 6 six ∷ rule 8 eight ∷ []) ok

    -- nothing is rewritten
    pub plain_pass : rewrites p gone gs ≡ false → none ≡ first_refusal (rest_checks p v gone gs)
    plain_pass q = sym (restart_rest_passed ∙ rule_passes 6 six (rule 8 eight ∷ []) (ap (λ (b : Bool). b && eqb (greatest_serial gs) last_count) q)
        ∙ rule_passes 8 eight [] (ap (λ (b : Bool). b && none_free_of p v gs) q) ∙ none_left)

    module _ (q : rewrites p gone gs ≡ true) where
      pub restart_serial_fails : greatest_serial gs ≡ last_count → some (Refused 6) ≡ first_refusal (rest_checks p v gone gs)
      restart_serial_fails h =
          sym (restart_rest_passed ∙ rule_fails 6 six (rule 8 eight ∷ []) (and_both (rewrites p gone gs) (eqb (greatest_serial gs) last_count) q (eq-eqb (greatest_serial gs) last_count h)))

      module _ (h : greatest_serial gs ≡ last_count → ⊥) where
        fine6 : six ≡ false
        fine6 = and_false_right (rewrites p gone gs) (eqb (greatest_serial gs) last_count) (ne_eqb (greatest_serial gs) last_count h)

        pub restart_zones_fail : none_free_of p v gs ≡ true → some (Refused 8) ≡ first_refusal (rest_checks p v gone gs)
        restart_zones_fail h8 =
            sym (restart_rest_passed
            ∙ rule_passes 6 six (rule 8 eight ∷ []) fine6
            ∙ rule_fails 8 eight [] (and_both (rewrites p gone gs) (none_free_of p v gs) q h8))

        pub restart_zones_suffice : none_free_of p v gs ≡ false → none ≡ first_refusal (rest_checks p v gone gs)
        restart_zones_suffice h8 =
            sym (restart_rest_passed ∙ rule_passes 6 six (rule 8 eight ∷ []) fine6
            ∙ rule_passes 8 eight [] (and_false_right (rewrites p gone gs) (none_free_of p v gs) h8) ∙ none_left)

-- where none of them holds
pub record Rested (p : Params) (v : View) (gone : ℕ) (gs : List Segment) : Type 0 where
  pub segments_ok : segment_faults p v gone gs ≡ []
  pub sixth : rewrites p gone gs && eqb (greatest_serial gs) last_count ≡ false
  pub eighth : rewrites p gone gs && none_free_of p v gs ≡ false

pub rested : (p : Params) (v : View) (gone : ℕ) (gs : List Segment) → first_refusal (rest_checks p v gone gs) ≡ none → Rested p v gone gs
unfolding rest_checks
rested p v gone gs e =
    let c6 = rewrites p gone gs && eqb (greatest_serial gs) last_count in
    let c8 = rewrites p gone gs && none_free_of p v gs in
    let f₉ = zones_free (segment_faults p v gone gs) (rule 6 c6 ∷ rule 8 c8 ∷ []) e in
    let f₆ = rule_free 6 c6 (rule 8 c8 ∷ []) f₉.1 in
    let f₈ = rule_free 8 c8 [] f₆.1 in
    record { segments_ok = f₉.0; sixth = f₆.0; eighth = f₈.0 }

-- ---- small facts

-- 01, Refusals, 1: missing drive below N or 255
pub names_low : (p : Params) (d : ℕ) → d < p.N → names_drive p d ≡ true
unfolding names_drive
names_low p d h = ap (λ (b : Bool). b || eqb d no_drive) (lt-ltb d p.N h)

pub names_high : (p : Params) (d : ℕ) → p.N ≤ d → names_drive p d ≡ eqb d 255
unfolding names_drive no_drive
names_high p d h = ap (λ (b : Bool). b || eqb d 255) (le-ltb d p.N h)

-- so a drive is present
pub names_here : (p : Params) (d : ℕ) → in_range p ≡ true → names_drive p d ≡ true → Here p (named d)
names_here p d ok n = go (dec_lt d p.N)
  where
    none_named : named 255 ≡ 0
    none_named = unfold named only powers in refl

    go : Dec (d < p.N) → Here p (named d)
    go (yes h) = named_here p (ranged p ok) d h
    go (no h) =
        let e : d ≡ 255 = eqb-true d 255 (sym (names_high p d (omega (arith, h))) ∙ n) in
        subst (λ (g : ℕ). Here p g) (sym (ap named e ∙ none_named)) (zero_here p (ranged p ok))

-- no fault: the exam names none
pub zone_all : (p : Params) (v : View) (gone : ℕ) (e : Exam) → Examined p v gone (segments p v gone) e → segment_faults p v gone (segments p v gone) ≡ [] → e.zone ≡ p.Z
zone_all p v gone e x q = x.zone_is ∙ ap (first_or p.Z) q ∙ none!
  where
    none! : first_or p.Z [] ≡ p.Z
    none! = unfold first_or in refl

-- 01, Restart, 4: counted stripes are 0 to c - 1, fewer than S: other chunks decide
pub ragged_last : (p : Params) (e : Exam) → (e.counted ≡ p.S → ⊥) → e.top ≡ e.counted → not (eqb e.part 0) ≡ ragged_by p e
unfolding ragged_by
ragged_last p e n q = sym (ap₂ (λ (a b : Bool). not a && (not b || not (eqb e.part 0))) (ne_eqb e.counted p.S n) (eq-eqb e.top e.counted q))
