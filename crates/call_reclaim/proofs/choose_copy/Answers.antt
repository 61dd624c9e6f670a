-- `choose_copy`: no idle block is `idle_fails`; else the rules of a copy, then the
-- zones at fault (`zones_odd`); none left, the first idle one is it. Assumes nothing.
use Rattle.std.specs.Prelude.{Option, Some, None}
use Rattle.spec.specs.declared.Place.{Place}
use Rattle.call_reclaim_victim.specs.Waiting.{place_number, foremost, foremost_none, foremost_some}
use Prim.Native.Nat.{ℕ, ◌<◌}
use Rattle.mem_calls.specs.Left.{passed_on}
use Rattle.std.proofs.lemmas.Result.{IfOk-from_err}
use Rattle.spec.specs.Calls.{first_refusal}
use Rattle.spec.specs.Calls.Check.{zones}
use Rattle.spec.specs.Drives.{View}
use Rattle.disk_drives.specs.Viewed.{viewed}
use Rattle.spec.specs.Lists.{Opt, is_nil}
use Rattle.spec.specs.Lists.Opt.{none, some}
use Rattle.spec.specs.Memory.{state_of, state_faults}
use Rattle.spec.specs.Reclaim.{table_faults, Victim, victim, is_none, victim_live, idle}
use Rattle.spec.specs.declared.Answer.{Answer}
use Rattle.spec.specs.declared.Answer.TheVariants.{BadZone}
use Rattle.call_reclaim.specs.Choosing.{copy_rules, bad_zones, later_checks, zone_refusal, zones_odd, length_some, idle_fails, idle_passes}
use Rattle.law_calls.specs.Refusals.{or_next}
use Rattle.call_filling.specs.Aims.{front_aim}
use borrow.Author.Tests.{lt-leb}
use mathlib.Core.Bool.{Bool, false, cond}
use mathlib.Core.List.{List, [], ◌∷◌, ◌++◌}
use mathlib.Core.Path.{◌≡◌, sym, ap, ◌∙◌, subst}
use Rattle.call_reclaim.proofs.choose_copy.Goals as goal
use Rattle.call_reclaim.proofs.choose_copy.Goals.{Start, After-has_fault}

abbrev view : (c : Start) → View
view c = viewed c.args.drives.now

abbrev taken : (c : Start) → Opt Victim
taken c = victim c.args.drives.now.p (view c) c.args.addresses.now

-- there is a segment, with live blocks
some_taken : (c : Start) → is_none (taken c) ≡ false
some_taken c =
    let l = c.requires.looked in
    l.0.nobody ∙ lt-leb c.args.drives.now.p.Z c.args.seen.zone l.1

some_live : (c : Start) → is_nil (victim_live (taken c)) ≡ false
some_live c =
    let l = c.requires.looked in
    length_some (victim_live (taken c)) (subst (λ (x : ℕ). 0 < x) (sym l.0.live) l.2)

-- all checks, where there is an idle block
abbrev later : (c : Start) → Opt Answer
later c = first_refusal (later_checks c.args.drives.now.p (view c) (state_of c.args.bytes.now) c.args.addresses.now (taken c))

abbrev at_fault : (c : Start) → Opt Answer
at_fault c = first_refusal (zones (bad_zones c.args.drives.now.p (view c) (state_of c.args.bytes.now) c.args.addresses.now (taken c)) ∷ [])

-- the first of them, as the look tells it
idle_at : (c : Start) (q : Option Place) → c.args.seen.first ≡ q → foremost (idle c.args.drives.now.p (view c) (state_of c.args.bytes.now) (taken c)) ≡ place_number q
idle_at c q e = sym c.requires.looked.0.first ∙ ap place_number e

from_rules : (c : Start) (q : Place) → c.args.seen.first ≡ Some q → (x : Opt Answer) → x ≡ first_refusal (copy_rules c.args.drives.now.p (view c) (state_of c.args.bytes.now))
    → later c ≡ or_next x (at_fault c)
from_rules c q f x e =
    idle_passes c.args.drives.now.p (view c) (state_of c.args.bytes.now) c.args.addresses.now (taken c) (some_taken c) (some_live c)
    (foremost_some _ q.0 (idle_at c (Some q) f)).0
    ∙ ap (λ (y : Opt Answer). or_next y (at_fault c)) (sym e)

pub returns-in_default : goal.returns-in_default
returns-in_default c =
    let s = (goal.at.returns-in_default c).Start in
    record { check_value = sym (idle_fails _ _ _ _ _ (some_taken s) (some_live s) (foremost_none _ (idle_at s None c.in_default.is))); copy_at = tt }

pub copy_rules-requires : goal.copy_rules-requires
copy_rules-requires c =
    let q = c.requires.f_value in
    record { p_value = c.args.drives.now.sound; pointers_len = (c.args.drives.now.whole.pointers_long, c.args.drives.now.listed, q.1 ∙ sym (front_aim c.args.drives.now.p _ c.args.f q.0)) }

pub returns-in_err-copy_rules : goal.returns-in_err-copy_rules
returns-in_err-copy_rules c =
    let s = (goal.at.returns-in_err-copy_rules c).Start in
    let h = c.in_err-copy_rules.ensures _ c.args.drives.now.image.now c.requires.f_value.0 c.args.drives.now.whole.image_long in record {
      check_value = passed_on _ c.in_err-copy_rules.field-0.0 c.from_residual.ensures.1 ∙ sym (from_rules s _ c.in-Some.is _ h);
      copy_at = IfOk-from_err c.from_residual.result _ c.from_residual.ensures.0;
    }

-- the zones at fault, once the rules pass
module _ (c : After-has_fault) (s : Start) (is : later s ≡ at_fault s) where
  from_zones : ((zs : List ℕ) → first_refusal (zones (state_faults s.args.drives.now.p (state_of s.args.bytes.now) ++ table_faults s.args.drives.now.p (view s) s.args.addresses.now ++ zs) ∷ [])
      ≡ cond c.has_fault.result (some (BadZone 0)) (first_refusal (zones zs ∷ [])))
      → later s ≡ cond c.has_fault.result (some (BadZone 0)) (zone_refusal s.args.seen.odd)
  from_zones h = is ∙ zones_odd _ (view s) (state_of s.args.bytes.now) s.args.addresses.now (taken s) c.has_fault.result s.args.seen.odd h s.requires.looked.0.odd

pub returns-then-has_fault : goal.returns-then-has_fault
returns-then-has_fault c =
    let a = c.args in
    let k = c.requires.looked in
    let g = goal.at.returns-then-has_fault c in
    let r = from_rules g.Start _ c.in-Some.is none (c.in_ok-copy_rules.ensures _ a.drives.now.image.now c.requires.f_value.0 c.args.drives.now.whole.image_long) in
    let z = from_zones g.After-has_fault g.Start r (λ zs. c.has_fault.ensures _ a.addresses.now zs (k.0.outside k.1)) in
    record { check_value = sym (z ∙ ap (λ (x : Bool). cond x (some (BadZone 0)) (zone_refusal a.seen.odd)) c.if-has_fault.true); copy_at = tt }

pub returns-in-Some-odd : goal.returns-in-Some-odd
unfolding zone_refusal
returns-in-Some-odd c =
    let a = c.args in
    let k = c.requires.looked in
    let g = goal.at.returns-in-Some-odd c in
    let r = from_rules g.Start _ c.in-Some.is none (c.in_ok-copy_rules.ensures _ a.drives.now.image.now c.requires.f_value.0 c.args.drives.now.whole.image_long) in
    let z = from_zones g.After-has_fault g.Start r (λ zs. c.has_fault.ensures _ a.addresses.now zs (k.0.outside k.1)) in
    let f = c.if-has_fault.false in
    record { check_value = sym (z ∙ (λ j. cond (f j) (some (BadZone 0)) (zone_refusal (c.in-Some-odd.is j)))); copy_at = tt }

pub returns : goal.returns
unfolding zone_refusal
returns c =
    let a = c.args in
    let k = c.requires.looked in
    let g = goal.at.returns c in
    let r = from_rules g.Start _ c.in-Some.is none (c.in_ok-copy_rules.ensures _ a.drives.now.image.now c.requires.f_value.0 c.args.drives.now.whole.image_long) in
    let z = from_zones g.After-has_fault g.Start r (λ zs. c.has_fault.ensures _ a.addresses.now zs (k.0.outside k.1)) in
    let f = c.if-has_fault.false in
    let q = k.0.found _ (ap place_number c.in-Some.is) in record {
      check_value = sym (z ∙ (λ j. cond (f j) (some (BadZone 0)) (zone_refusal (c.in_default-odd.is j))));
      copy_at = (
        some_live g.Start,
        (foremost_some _ _ (idle_at g.Start _ c.in-Some.is)).1,
        q.1,
        q.3 c.in_default-odd.is,
        q.2,
        k.0.zones_low k.1,
      );
    }
