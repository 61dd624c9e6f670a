-- The write of no bytes (02, item 1): where a stripe is filling and the address is in range it is the closing; else it is refused, or does nothing. Assumes nothing.
use Rattle.std.specs.Prelude.{◌≡◌, Bool, true, false, ℕ, ◌<◌, leb, eqb}
use Rattle.std.proofs.Math.Path.{refl, ap₂}
use Rattle.std.proofs.Common.{sym, ap, ◌∙◌, le-leb, arith}
use mathlib.Core.List.{List, [], ◌∷◌, append-nil}
use Rattle.std.proofs.lemmas.Bool.{lt-leb}
use Rattle.spec.specs.declared.Answer.{Answer}
use Rattle.spec.specs.declared.Answer.TheVariants.{Refused, Nothing}
use Rattle.spec.specs.declared.Params.{Params}
use Rattle.spec.specs.Calls.{first_refusal, ruled, mk_plan, Verdict, decided, After, mk_after, limited, outcome}
use Rattle.spec.specs.Calls.Check.{zones}
use Rattle.spec.specs.Calls.Verdict.{refused, due}
use Rattle.spec.specs.Closing.{close_checks, close_plan, close_verdict, empty_checks, empty_plan, empty_verdict}
use Rattle.spec.specs.Drives.{View, view_of, few_good, above_narrow, Disk, store_disk, store_all}
use Rattle.spec.specs.Engine.{store_count, lent_block, verdict, lent_ok_of, call_on, call_disk}
use Rattle.spec.specs.Engine.Call.{write, close}
use Rattle.spec.specs.Lists.{is_nil}
use Rattle.spec.specs.Lists.Opt.{none, some}
use Rattle.spec.specs.Memory.{Memory, has_filling, state_faults}
use Rattle.spec.specs.Params.{in_range}
use Rattle.spec.specs.Write.{write_verdict}
use Rattle.law_basic.specs.Ranges.{Test, test, not_both}
use Rattle.law_basic.specs.Ranges.Test.{yes!, no! }
use Rattle.law_checks.specs.Checks.{Decided, decide}
use Rattle.law_checks.specs.Passed.{EmptyPassed, empty_passed}
use Rattle.law_checks.specs.Checks.Decided.{stops, goes}

module _ (p : Params) (long : Bool) (v : View) (m : Memory) (a : ℕ) where
  -- where a stripe is filling and the address is in range
  same_refusal : has_filling p m.state ≡ true → leb p.L a ≡ false → first_refusal (empty_checks p long v m a) ≡ first_refusal (close_checks p long v m)
  unfolding empty_checks close_checks first_refusal ruled
  same_refusal h l = rw (h, l) refl

  -- 1, 2, 10, the narrow 1 and 3 pass
  module _ (ranged : in_range p ≡ true) (lent : long ≡ true) (enough : few_good p v.offline ≡ false) (fit : above_narrow p v.offline ≡ false)
      (healthy : eqb m.state.missing 0 ≡ true) where
    -- the address is out of range
    pub far_refusal : leb p.L a ≡ true → first_refusal (empty_checks p long v m a) ≡ some (Refused 4)
    unfolding empty_checks first_refusal ruled
    far_refusal l = rw (ranged, lent, enough, fit, healthy, l) refl

    -- where none is filling no more than the state is looked at
    pub idle_refusal : leb p.L a ≡ false → has_filling p m.state ≡ false → first_refusal (empty_checks p long v m a) ≡ first_refusal (zones (state_faults p m.state) ∷ [])
    unfolding empty_checks first_refusal ruled
    idle_refusal l h = rw (ranged, lent, enough, fit, healthy, l, h) (ap (λ (zs : List ℕ). first_refusal (zones zs ∷ [])) (append-nil (state_faults p m.state)))

  filling_plan : has_filling p m.state ≡ true → empty_plan p m ≡ close_plan p m
  unfolding empty_plan
  filling_plan h = rw h refl

  pub empty_closes : has_filling p m.state ≡ true → leb p.L a ≡ false → empty_verdict p long v m a ≡ close_verdict p long v m
  unfolding empty_verdict close_verdict
  empty_closes h l = ap₂ decided (same_refusal h l) (filling_plan h)

  -- the closing that it means is not refused
  pub empty_asks : has_filling p m.state ≡ true → first_refusal (empty_checks p long v m a) ≡ none → first_refusal (close_checks p long v m) ≡ none
  empty_asks h e = sym (same_refusal h (lt-leb p.L a (empty_passed p long v m a e).address_low)) ∙ e

  -- where none is filling nothing is due
  idle_plan : has_filling p m.state ≡ false → empty_plan p m ≡ mk_plan [] Nothing m []
  unfolding empty_plan
  idle_plan h = rw h refl

-- how it ends
pub data Emptied (p : Params) (long : Bool) (v : View) (m : Memory) (a : ℕ) : Type 0 where
  as_closing : has_filling p m.state ≡ true → a < p.L → empty_verdict p long v m a ≡ close_verdict p long v m → Emptied p long v m a
  as_refused : (r : Answer) → first_refusal (empty_checks p long v m a) ≡ some r → empty_verdict p long v m a ≡ refused r → Emptied p long v m a
  as_nothing : EmptyPassed p long v m a → has_filling p m.state ≡ false → empty_verdict p long v m a ≡ due (mk_plan [] Nothing m []) → Emptied p long v m a

pub empty_decided : (p : Params) (long : Bool) (v : View) (m : Memory) (a : ℕ) → Emptied p long v m a
unfolding empty_verdict
empty_decided p long v m a = go (decide (empty_checks p long v m a) (empty_plan p m)) (test (has_filling p m.state))
  where
    go : Decided (empty_checks p long v m a) (empty_plan p m) (empty_verdict p long v m a) → Test (has_filling p m.state) → Emptied p long v m a
    go (stops r e f) h = as_refused r e f
    go (goes e f) (yes! h) =
        let c = empty_passed p long v m a e in
        as_closing h c.address_low (empty_closes p long v m a h (lt-leb p.L a c.address_low))
    go (goes e f) (no! h) = as_nothing (empty_passed p long v m a e) h (f ∙ ap due (idle_plan p long v m a h))

-- ---- the call on the lent bytes

pub data EmptyLeaves (p : Params) (off : List ℕ) (k : Disk) (m : Memory) (a n : ℕ) : Type 0 where
  as_close : has_filling p m.state ≡ true → a < p.L → call_disk p off k m (write a [] n) ≡ call_disk p off k m (close n) → EmptyLeaves p off k m a n
  as_refusal : (r : Answer) → first_refusal (empty_checks p (lent_ok_of p off k m) (view_of p off k.image k.pointers) m a) ≡ some r
      → call_disk p off k m (write a [] n) ≡ mk_after r k m [] → EmptyLeaves p off k m a n
  as_idle : EmptyPassed p (lent_ok_of p off k m) (view_of p off k.image k.pointers) m a → has_filling p m.state ≡ false
      → call_disk p off k m (write a [] n) ≡ mk_after Nothing k m [] → EmptyLeaves p off k m a n

pub empty_leaves : (p : Params) (off : List ℕ) (k : Disk) (m : Memory) (a n : ℕ) → EmptyLeaves p off k m a n
unfolding call_disk call_on verdict store_count lent_block
empty_leaves p off k m a n = go (empty_decided p (lent_ok_of p off k m) v m a)
  where
    v : View
    v = view_of p off k.image k.pointers

    ended : Verdict → After Disk
    ended w = outcome p (store_disk p) n k m [] w

    nothing : ended (due (mk_plan [] Nothing m [])) ≡ mk_after Nothing k m []
    nothing = let e = le-leb 0 n (omega arith) in unfold outcome limited store_all in rw e refl

    refused_is : (r : Answer) → ended (refused r) ≡ mk_after r k m []
    refused_is r = unfold outcome in refl

    go : Emptied p (lent_ok_of p off k m) v m a → EmptyLeaves p off k m a n
    go (as_closing h l e) = as_close h l (ap ended e)
    go (as_refused r e f) = as_refusal r e (ap ended f ∙ refused_is r)
    go (as_nothing c h e) = as_idle c h (ap ended e ∙ nothing)

-- a write of some bytes is that of 01
pub write_leaves : (p : Params) (off : List ℕ) (k : Disk) (m : Memory) (a : ℕ) (b : List ℕ) (n : ℕ) → is_nil b ≡ false
    → outcome p (store_disk p) n k m b (write_verdict p (lent_ok_of p off k m) (view_of p off k.image k.pointers) m a b) ≡ call_disk p off k m (write a b n)
unfolding is_nil call_disk call_on store_count lent_block verdict
write_leaves p off k m a [] n e = absurd (not_both true refl e)
write_leaves p off k m a (x ∷ b) n e = refl
