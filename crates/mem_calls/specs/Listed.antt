-- What the list of offline zones comes to (02, item 4): 10 where a drive has too few good zones, else 1 where L is above the narrow bound, else no refusal. Assumes nothing.
use Rattle.std.specs.Prelude.{ℕ, suc, ◌+◌, ◌-◌, ◌*◌, ◌/◌, ◌%◌, min, ◌≤◌, ◌<◌, Bool, true, false, List, ◌++◌, ◌≡◌}
use Rattle.spec.specs.declared.Answer.{Answer}
use Rattle.spec.specs.declared.Answer.TheVariants.{Refused}
use Rattle.spec.specs.declared.Params.{Params}
use Rattle.spec.specs.Calls.{Check, first_refusal, ruled}
use Rattle.spec.specs.Drives.{View, good_count, few_good, above_narrow}
use Rattle.spec.specs.Lists.{Opt}
use Rattle.spec.specs.Lists.Opt.{none, some}
use Rattle.spec.specs.Params.{data_count, most_with, most_addresses}
use Rattle.spec.specs.Write.{list_rules}
use Rattle.law_basic.specs.Geometry.{Ranged, data_count-low}
use Rattle.std.proofs.Math.Path.{refl, sym, ap, ap₂, subst}
use Rattle.std.proofs.Common.{◌∙◌, mul-le-mul, mul-le-mul_right, suc-mul, div-lt_iff_lt-mul, div-add-mod', mod-lt}
use borrow.Author.Tests.{lt-ltb, le-ltb}
use Rattle.std.proofs.Math.Dec.{ltb}
use Rattle.std.proofs.Math.Decide.{dec_le, dec_lt}
use Rattle.std.proofs.Math.Nat.{mul_assoc}
use native.Mathlib.Omega.{arith}

unfoldable pub list_rule_of : Params → List ℕ → Opt Answer
list_rule_of p off = ruled 10 (few_good p off) (ruled 1 (above_narrow p off) none)

module _ (p : Params) (off : List ℕ) where
  pub list_few : few_good p off ≡ true → list_rule_of p off ≡ some (Refused 10)
  unfolding list_rule_of ruled
  list_few e = ap (λ (x : Bool). ruled 10 x (ruled 1 (above_narrow p off) none)) e

  pub list_narrow : few_good p off ≡ false → above_narrow p off ≡ true → list_rule_of p off ≡ some (Refused 1)
  unfolding list_rule_of ruled
  list_narrow e f = ap₂ (λ (x y : Bool). ruled 10 x (ruled 1 y none)) e f

  pub list_fits : few_good p off ≡ false → above_narrow p off ≡ false → list_rule_of p off ≡ none
  unfolding list_rule_of ruled
  list_fits e f = ap₂ (λ (x y : Bool). ruled 10 x (ruled 1 y none)) e f

  -- neither test holds where it is none
  pub list_clear : list_rule_of p off ≡ none → (few_good p off ≡ false) × (above_narrow p off ≡ false)
  unfolding list_rule_of ruled
  list_clear e = go (few_good p off) (above_narrow p off) e
    where
      go : (f n : Bool) → ruled 10 f (ruled 1 n none) ≡ none → (f ≡ false) × (n ≡ false)
      go true n e = cc
      go false true e = cc
      go false false e = (refl, refl)

-- ---- a count that stops where the zones are enough

-- fewer zones have no more addresses
most_fewer : (p : Params) (n m : ℕ) → n ≤ m → most_with p n ≤ most_with p m
unfolding most_with
most_fewer p n m h =
    let k : n - 3 ≤ m - 3 = omega arith in
    mul-le-mul_right (data_count p) (mul-le-mul_right p.S k)

module _ (p : Params) (off : List ℕ) (most n : ℕ) (low : 4 ≤ most) (enough : p.L ≤ most_with p most) (is : n ≡ min most (good_count p off)) where
  pub few_by : ltb n 4 ≡ few_good p off
  unfolding few_good
  few_by = go (dec_lt n 4)
    where
      go : Dec (n < 4) → ltb n 4 ≡ ltb (good_count p off) 4
      go (yes h) = lt-ltb n 4 h ∙ sym (lt-ltb (good_count p off) 4 (omega arith))
      go (no h) = le-ltb n 4 (omega arith) ∙ sym (le-ltb (good_count p off) 4 (omega arith))

  pub narrow_by : ltb (most_with p n) p.L ≡ above_narrow p off
  unfolding above_narrow
  narrow_by = go (dec_le (good_count p off) most)
    where
      go : Dec (good_count p off ≤ most) → ltb (most_with p n) p.L ≡ ltb (most_with p (good_count p off)) p.L
      go (yes h) = let e : n ≡ good_count p off = omega arith in ap (λ (x : ℕ). ltb (most_with p x) p.L) e
      go (no h) =
          let e : n ≡ most = omega arith in
          let m : most_with p most ≤ most_with p (good_count p off) = most_fewer p most (good_count p off) (omega arith) in
          le-ltb (most_with p n) p.L (subst (λ (x : ℕ). p.L ≤ most_with p x) (sym e) enough) ∙ sym (le-ltb (most_with p (good_count p off)) p.L (omega arith))

-- where it stops: so many zones that the bound of L is met
module _ (p : Params) (r : Ranged p) where
  abbrev segment : ℕ
  segment = p.S * data_count p

  abbrev stops : ℕ
  stops = 4 + (p.L - 1) / segment

  pub segment_low : 0 < segment
  segment_low = let d : 1 ≤ data_count p = omega (arith, data_count-low p r) in let m : 1 * 1 ≤ segment = mul-le-mul r.stripes_low d in omega arith

  with_segment : (n : ℕ) → most_with p n ≡ (n - 3) * segment
  unfolding most_with
  with_segment n = mul_assoc (n - 3) p.S (data_count p)

  pub stops_high : stops ≤ p.Z
  unfolding most_addresses
  stops_high =
      let h : p.L ≤ (p.Z - 3) * segment = subst (λ (x : ℕ). p.L ≤ x) (with_segment p.Z) r.addresses_high in
      let l : p.L - 1 < (p.Z - 3) * segment = omega (arith, r.addresses_low) in
      let d : (p.L - 1) / segment < p.Z - 3 = (div-lt_iff_lt-mul {k = segment} {x = p.L - 1} {y = p.Z - 3} segment_low).1 l in
      omega arith

  pub stops_enough : p.L ≤ most_with p stops
  stops_enough =
      let q = (p.L - 1) / segment in
      let e : stops - 3 ≡ suc q = omega arith in
      let m : suc q * segment ≡ q * segment + segment = suc-mul q segment in
      let d : q * segment + (p.L - 1) % segment ≡ p.L - 1 = div-add-mod' (p.L - 1) segment in
      let l : (p.L - 1) % segment < segment = mod-lt (p.L - 1) segment_low in
      subst (λ (x : ℕ). p.L ≤ x) (sym (with_segment stops ∙ ap (λ (x : ℕ). x * segment) e ∙ m)) (omega (arith, d, l, r.addresses_low))

-- the checks of the list in front of others, by what `list_rule` answers
module _ (p : Params) (v : View) (cs : List Check) where
  pub list_passes : none ≡ list_rule_of p v.offline → first_refusal (list_rules p v ++ cs) ≡ first_refusal cs
  unfolding first_refusal ruled
  list_passes e =
      let (f, n) = list_clear p v.offline (sym e) in
      ap₂ (λ (x y : Bool). ruled 10 x (ruled 1 y (first_refusal cs))) f n

  pub list_fails : (a : Answer) → some a ≡ list_rule_of p v.offline → some a ≡ first_refusal (list_rules p v ++ cs)
  unfolding first_refusal ruled list_rule_of
  list_fails a e = go (few_good p v.offline) (above_narrow p v.offline) e
    where
      go : (f n : Bool) → some a ≡ ruled 10 f (ruled 1 n none) → some a ≡ ruled 10 f (ruled 1 n (first_refusal cs))
      go true n e = e
      go false true e = e
      go false false e = cc
