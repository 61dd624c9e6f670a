-- The checks of a rebuild one after the other: each refuses, or leaves it to the next (01, Refusals). Assumes nothing.
use Rattle.std.proofs.Math.Path.{◌≡◌, refl, sym}
use Rattle.std.proofs.Common.{ap, ◌∙◌, ltb-true, eqb-true}
use mathlib.Core.List.{List, [], ◌∷◌, ◌++◌}
use Rattle.std.specs.Prelude.{Option, Some, None, Bool, cond, ◌&&◌, ◌||◌, ℕ, ◌<◌, ltb, eqb}
use Rattle.std.proofs.Math.Bool.{true, false, not}
use Rattle.std.proofs.lemmas.Bool.{not-false}
use native.Mathlib.Omega.{arith}
use Rattle.spec.specs.declared.Params.{Params}
use Rattle.spec.specs.declared.Answer.{Answer}
use Rattle.spec.specs.declared.Answer.TheVariants.{Refused, BadZone}
use Rattle.spec.specs.Calls.Check.{rule, zones}
use Rattle.spec.specs.Calls.{Check, ninth, ruled, first_refusal}
use Rattle.spec.specs.Drives.{pointer_at, Disk, is_good, few_good, above_narrow}
use Rattle.spec.specs.Engine.{lent_ok_of}
use Rattle.spec.specs.Faults.{pointer_faults, segment_faults, image_checks}
use Rattle.spec.specs.Lists.{Opt, below, any, keep, is_nil, first_or}
use Rattle.spec.specs.Lists.Opt.{none, some}
use Rattle.spec.specs.Memory.{Memory}
use Rattle.spec.specs.Params.{in_range, capacity, named, present}
use Rattle.spec.specs.Rebuild.{names_missing, rebuild_checks}
use Rattle.spec.specs.Segments.{segments}
use Rattle.spec.specs.Write.{list_rules}
use Rattle.law_basic.specs.Ranges.{and_left, and_right, nil_is}
use Rattle.law_views.specs.Alike.{seen_offline}
use Rattle.law_views.specs.Views.{seen}
use Rattle.mem_calls.specs.Listed.{list_rule_of, list_fails, list_passes}
use Rattle.law_calls.specs.Refusals.{rule_fails, rule_passes, zones_pass, none_left, rule_free, zones_free}
use Rattle.law_drives.specs.Tests.{or_first, or_right}
use Rattle.recover_headers.specs.Lowest.{low-named}
use Rattle.disk_gather.specs.Ranges.{opt_first, opt_first_or, opt_first_none, opt_first_low}
use Rattle.std.specs.Option.{unwrap_or, is_none}

-- 01, Refusals, 1: the parameters, and the drive that the last restart named missing
unfoldable pub bad_numbers : Params → ℕ → ℕ → Bool
bad_numbers p missing d = not (in_range p) || not (ltb d p.N && eqb missing (named d))

pub numbers_bad : (p : Params) (missing d : ℕ) → in_range p ≡ false → bad_numbers p missing d ≡ true
unfolding bad_numbers
numbers_bad p missing d e = ap (λ (x : Bool). not x || not (ltb d p.N && eqb missing (named d))) e

pub numbers_named : (p : Params) (missing d : ℕ) → in_range p ≡ true → bad_numbers p missing d ≡ not (ltb d p.N && eqb missing (named d))
unfolding bad_numbers
numbers_named p missing d e = ap (λ (x : Bool). not x || not (ltb d p.N && eqb missing (named d))) e

pub numbers_good : (p : Params) (missing d : ℕ) → bad_numbers p missing d ≡ false → (in_range p ≡ true) × (d < p.N) × (missing ≡ named d)
unfolding bad_numbers
numbers_good p missing d e =
    let a = not-false (in_range p) (or_first (not (in_range p)) (not (ltb d p.N && eqb missing (named d))) e) in
    let b = not-false (ltb d p.N && eqb missing (named d)) (or_right (not (in_range p)) (not (ltb d p.N && eqb missing (named d))) e) in
    (a, ltb-true d p.N (and_left (ltb d p.N) (eqb missing (named d)) b), eqb-true missing (named d) (and_right (ltb d p.N) (eqb missing (named d)) b))

-- ---- the checks up to the pointers of 9

module _ (p : Params) (off : List ℕ) (k : Disk) (m : Memory) (d : ℕ) where
  -- the zones whose pointers are above capacity
  abbrev pub high_pointers : List ℕ
  high_pointers = pointer_faults p (seen p off k) (named d)

  -- the first of them that holds
  unfoldable pub rebuild_front : Opt Answer
  rebuild_front = first_refusal (rule 1 (bad_numbers p m.state.missing d) ∷ rule 2 (not (lent_ok_of p off k m)) ∷ list_rules p (seen p off k) ++ (zones high_pointers ∷ []))

  -- the checks behind 2
  abbrev behind : List Check
  behind = list_rules p (seen p off k) ++ (zones high_pointers ∷ [])

  -- the first of all
  unfoldable pub rebuild_refusal : Opt Answer
  rebuild_refusal = first_refusal (rebuild_checks p (lent_ok_of p off k m) (seen p off k) m d (segments p (seen p off k) (named d)))

  pub rebuild_numbers_fail : bad_numbers p m.state.missing d ≡ true → some (Refused 1) ≡ rebuild_front
  unfolding rebuild_front
  rebuild_numbers_fail e = sym (rule_fails 1 (bad_numbers p m.state.missing d) (rule 2 (not (lent_ok_of p off k m)) ∷ behind) e)

  module _ (e : bad_numbers p m.state.missing d ≡ false) where
    pub rebuild_lengths_fail : lent_ok_of p off k m ≡ false → some (Refused 2) ≡ rebuild_front
    unfolding rebuild_front
    rebuild_lengths_fail f =
        sym (rule_passes 1 (bad_numbers p m.state.missing d) (rule 2 (not (lent_ok_of p off k m)) ∷ behind) e ∙ rule_fails 2 (not (lent_ok_of p off k m)) behind (ap not f))

    module _ (f : lent_ok_of p off k m ≡ true) where
      order_fitting : rebuild_front ≡ first_refusal (list_rules p (seen p off k) ++ (zones high_pointers ∷ []))
      order_fitting = unfold rebuild_front in
          (rule_passes 1 (bad_numbers p m.state.missing d) (rule 2 (not (lent_ok_of p off k m)) ∷ behind) e ∙ rule_passes 2 (not (lent_ok_of p off k m)) behind (ap not f))

      -- 02, item 4
      is_rule : list_rule_of p off ≡ list_rule_of p (seen p off k).offline
      is_rule = ap (list_rule_of p) (sym (seen_offline p off k))

      pub rebuild_list_fails : (r : Answer) → some r ≡ list_rule_of p off → some r ≡ rebuild_front
      rebuild_list_fails r n = list_fails p (seen p off k) (zones high_pointers ∷ []) r (n ∙ is_rule) ∙ sym order_fitting

      module _ (c : none ≡ list_rule_of p off) where
        passed : rebuild_front ≡ first_refusal (zones high_pointers ∷ [])
        passed = order_fitting ∙ list_passes p (seen p off k) (zones high_pointers ∷ []) (c ∙ is_rule)

        abbrev high : ℕ → Bool
        high z = any (λ y. is_good p (seen p off k).offline y z && ltb (capacity p) (pointer_at (seen p off k) y z)) (present p (named d))

        range : high_pointers ≡ keep high (below p.Z)
        range = unfold pointer_faults in refl

        pub rebuild_pointers_fail : (z : ℕ) → Some z ≡ opt_first high_pointers → some (BadZone z) ≡ rebuild_front
        rebuild_pointers_fail z e =
            let q : first_or p.Z high_pointers ≡ z = sym (opt_first_or p.Z high_pointers) ∙ ap (λ (o : Option ℕ). unwrap_or o p.Z) (sym e) in
            let h : z < p.Z = opt_first_low high p.Z z (ap opt_first (sym range) ∙ sym e) in
            sym (passed ∙ low-named high p.Z high_pointers range [] (omega arith) ∙ ap (λ (x : ℕ). some (BadZone x)) q)

        pub rebuild_pointers_pass : None ≡ opt_first high_pointers → none ≡ rebuild_front
        rebuild_pointers_pass e = sym (passed ∙ zones_pass high_pointers [] (nil_is high_pointers (sym (opt_first_none high_pointers) ∙ ap is_none (sym e))) ∙ none_left)

  -- ---- they are the first of all

  abbrev faults : List ℕ
  faults = segment_faults p (seen p off k) (named d) (segments p (seen p off k) (named d))

  checks_are : rebuild_refusal
      ≡ first_refusal (rule 1 (bad_numbers p m.state.missing d) ∷ rule 2 (not (lent_ok_of p off k m)) ∷ list_rules p (seen p off k)
      ++ (zones high_pointers ∷ zones (cond (is_nil high_pointers) faults []) ∷ []))
  unfolding rebuild_refusal rebuild_checks image_checks bad_numbers names_missing
  checks_are = refl

  pub rebuild_front_refused : (a : Answer) → rebuild_front ≡ some a → rebuild_refusal ≡ some a
  unfolding rebuild_front
  rebuild_front_refused a e =
      checks_are
      ∙ go (bad_numbers p m.state.missing d) (not (lent_ok_of p off k m)) (few_good p (seen p off k).offline) (above_narrow p (seen p off k).offline) high_pointers faults e
    where
      go : (b c f n : Bool) (ps ss : List ℕ) → first_refusal (rule 1 b ∷ rule 2 c ∷ rule 10 f ∷ rule 1 n ∷ zones ps ∷ []) ≡ some a
          → first_refusal (rule 1 b ∷ rule 2 c ∷ rule 10 f ∷ rule 1 n ∷ zones ps ∷ zones (cond (is_nil ps) ss []) ∷ []) ≡ some a
      go true c f n ps ss h = unfold first_refusal ruled in h
      go false true f n ps ss h = unfold first_refusal ruled in h
      go false false true n ps ss h = unfold first_refusal ruled in h
      go false false false true ps ss h = unfold first_refusal ruled in h
      go false false false false (z ∷ ps) ss h = unfold first_refusal ruled ninth in h
      go false false false false [] ss h = absurd (nothing a (unfold first_refusal ruled ninth in h))
        where
          nothing : (a : Answer) → ◌≡◌ {A = Opt Answer} none (some a) → ⊥
          nothing a q = let z : ◌≡◌ {A = ℕ} 0 1 = cc in let y : ⊥ = omega arith in y

  -- where none of them holds
  pub record RebuildReady : Type 0 where
    pub in_range_holds : in_range p ≡ true
    pub drive_low : d < p.N
    pub missing_is : m.state.missing ≡ named d
    pub lent : lent_ok_of p off k m ≡ true
    pub pointers_ok : high_pointers ≡ []

  record Front : Type 0 where
    pub numbers : bad_numbers p m.state.missing d ≡ false
    pub lengths : not (lent_ok_of p off k m) ≡ false
    pub enough : few_good p (seen p off k).offline ≡ false
    pub narrow : above_narrow p (seen p off k).offline ≡ false
    pub pointers : high_pointers ≡ []

  front_free : rebuild_front ≡ none → Front
  unfolding rebuild_front
  front_free e =
      let v = seen p off k in
      let f₁ = rule_free 1 (bad_numbers p m.state.missing d) (rule 2 (not (lent_ok_of p off k m)) ∷ behind) e in
      let f₂ = rule_free 2 (not (lent_ok_of p off k m)) behind f₁.1 in
      let f₃ = rule_free 10 (few_good p v.offline) (rule 1 (above_narrow p v.offline) ∷ zones high_pointers ∷ []) f₂.1 in
      let f₄ = rule_free 1 (above_narrow p v.offline) (zones high_pointers ∷ []) f₃.1 in
      let f₅ = zones_free high_pointers [] f₄.1 in
      record { numbers = f₁.0; lengths = f₂.0; enough = f₃.0; narrow = f₄.0; pointers = f₅.0 }

  pub rebuild_ready : rebuild_front ≡ none → RebuildReady
  rebuild_ready e =
      let f = front_free e in
      let g = numbers_good p m.state.missing d f.numbers in
      record { in_range_holds = g.0; drive_low = g.1; missing_is = g.2; lent = not-false (lent_ok_of p off k m) f.lengths; pointers_ok = f.pointers }

  -- the segments of 9 are left
  pub rebuild_front_passed : rebuild_front ≡ none → rebuild_refusal ≡ first_refusal (zones (segment_faults p (seen p off k) (named d) (segments p (seen p off k) (named d))) ∷ [])
  rebuild_front_passed e =
      let v = seen p off k in
      let f = front_free e in
      let rest = zones (cond (is_nil high_pointers) faults []) ∷ [] in
      checks_are
      ∙ rule_passes 1 (bad_numbers p m.state.missing d) (rule 2 (not (lent_ok_of p off k m)) ∷ list_rules p v ++ (zones high_pointers ∷ rest)) f.numbers
      ∙ rule_passes 2 (not (lent_ok_of p off k m)) (list_rules p v ++ (zones high_pointers ∷ rest)) f.lengths
      ∙ rule_passes 10 (few_good p v.offline) (rule 1 (above_narrow p v.offline) ∷ zones high_pointers ∷ rest) f.enough
      ∙ rule_passes 1 (above_narrow p v.offline) (zones high_pointers ∷ rest) f.narrow
      ∙ zones_pass high_pointers rest f.pointers
      ∙ ap (λ (l : List ℕ). first_refusal (zones l ∷ [])) (ap (λ (l : List ℕ). cond (is_nil l) faults []) f.pointers ∙ none!)
    where
      none! : cond (is_nil {A = ℕ} []) faults [] ≡ faults
      none! = unfold is_nil in refl
