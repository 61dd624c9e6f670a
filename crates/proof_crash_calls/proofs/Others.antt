-- Calls that change nothing: reads at any time, every call but restart while the power is off, and writes, landings, closings and reclaims while a drive is missing. Assumes nothing.
use Rattle.std.specs.Prelude.{◌≡◌, List, [], ◌∷◌, Bool, true, false, ◌&&◌, ◌≢◌, ℕ, ◌^◌, ◌<◌, leb, eqb, length, replicate}
use Rattle.std.proofs.Math.Path.{refl, ap}
use Rattle.std.proofs.Common.{sym, ◌∙◌, le-leb, eq-eqb, arith}
use Rattle.std.proofs.Math.Dec.{ltb}
use Rattle.std.specs.Int.Count.{ones}
use Rattle.spec.specs.declared.Params.{Params}
use Rattle.spec.specs.declared.State.{State}
use Rattle.spec.specs.declared.Answer.{Answer}
use Rattle.spec.specs.Answers.{finished}
use Rattle.spec.specs.Calls.{first_refusal, mk_plan, decided, After, mk_after, limited, outcome}
use Rattle.spec.specs.Calls.Verdict.{due}
use Rattle.spec.specs.Closing.{close_checks, empty_checks}
use Rattle.spec.specs.Drives.{View, Disk, store_disk, store_all}
use Rattle.spec.specs.Engine.{Call, store_count, lent_block, lent_ok_of, call_on, call_disk}
use Rattle.spec.specs.Engine.Call.{write, land, close, reclaim, read, fill, restart, rebuild}
use Rattle.spec.specs.History.{World, mk_world, call_of, restart_of, before, happens, world_after, sent_after, untrusted_after, Mark, Hist, marked, step}
use Rattle.spec.specs.History.Event.{calls}
use Rattle.spec.specs.Landing.{land_checks}
use Rattle.spec.specs.Lists.{Opt, all}
use Rattle.spec.specs.Lists.Opt.{none, some}
use Rattle.spec.specs.Memory.{Memory, slots, idle_state, zero_state, slot_ok_of, state_ok}
use Rattle.spec.specs.Params.{in_range, named, parity_count}
use Rattle.spec.specs.Read.{read_plan, fill_plan}
use Rattle.spec.specs.Reclaim.{victim, reclaim_checks}
use Rattle.spec.specs.Segments.{segments}
use Rattle.spec.specs.Write.{write_checks}
use Rattle.law_drives.specs.Tests.{clash, not_so}
use Rattle.law_basic.specs.Geometry.{ranged}
use Rattle.law_views.specs.Views.{seen}
use Rattle.law_checks.specs.Passed.{write_passed, land_passed, close_passed, reclaim_passed, read_passed, rebuild_passed, empty_passed}
use Rattle.proof_crash_machine.specs.Exec.{true≢false}
use Rattle.proof_crash_items.specs.Named.{named_not_zero}
use Rattle.proof_crash_calls.specs.Join.{GoesOn}
use Rattle.proof_crash_calls.proofs.Join.{read_goes_on, fill_goes_on}
use Rattle.proof_crash_calls.proofs.Refusals.{Decides, decides, refused-step}

-- ---- refused calls, whatever their answer

pub refused-any :
    (p : Params) (off : List ℕ) (s : Hist) (c : Call)
    → (first_refusal (decides p (lent_ok_of p off s.world.disk s.world.memory) (seen p off s.world.disk) s.world.memory c).checks ≡ none → ⊥)
    → step p off s (calls c) ≡ s
refused-any p off s c out = go (first_refusal (decides p (lent_ok_of p off s.world.disk s.world.memory) (seen p off s.world.disk) s.world.memory c).checks) refl
  where
    go : (o : Opt Answer) → first_refusal (decides p (lent_ok_of p off s.world.disk s.world.memory) (seen p off s.world.disk) s.world.memory c).checks ≡ o
        → step p off s (calls c) ≡ s
    go none e = absurd (out e)
    go (some a) e = refused-step p off s c a e

-- ---- reads

-- a call whose plan stores nothing and keeps memory
hist_unchanged : (p : Params) (off : List ℕ) (s : Hist) (c : Call) (a : Answer) (b : List ℕ)
    → call_disk p off s.world.disk s.world.memory c ≡ mk_after a s.world.disk s.world.memory b
    → sent_after c a s.sends ≡ s.sends → untrusted_after c a s.untrusted ≡ s.untrusted → finished a ≡ false → step p off s (calls c) ≡ s
unfolding step happens before call_of world_after
hist_unchanged p off s c a b r e f g = λ j. record {
  world = mk_world (r j).drives (r j).memory;
  sends = (ap (λ (x : After Disk). sent_after c x.answer s.sends) r ∙ e) j;
  untrusted = (ap (λ (x : After Disk). untrusted_after c x.answer s.untrusted) r ∙ f) j;
  mark = (ap (λ (x : After Disk). marked (finished x.answer) (mk_world x.drives x.memory) (length (sent_after c x.answer s.sends)) s.mark) r
      ∙ kept (finished a) g (mk_world s.world.disk s.world.memory) (length (sent_after c a s.sends)) s.mark) j;
}
  where
    kept : (b : Bool) → b ≡ false → (w : World) (j : ℕ) (o : Opt Mark) → marked b w j o ≡ o
    kept true q w j o = true≢false (sym q)
    kept false q w j o = unfold marked in refl

-- a plan with no stores is done
nothing_due : (p : Params) (k : Disk) (m : Memory) (n : ℕ) (b : List ℕ) (a : Answer) (c : List ℕ) → outcome p (store_disk p) n k m b (due (mk_plan [] a m c)) ≡ mk_after a k m c
unfolding outcome
nothing_due p k m n b a c = ap (λ (t : Bool). limited t p (store_disk p) n k m b (mk_plan [] a m c)) (le-leb 0 n (omega arith)) ∙ (unfold limited store_all in refl)

-- a call that is refused, or whose plan stores nothing, keeps memory and sends nothing
unchanged_step : (p : Params) (off : List ℕ) (s : Hist) (c : Call) (r : Answer) (b : List ℕ)
    → (decides p (lent_ok_of p off s.world.disk s.world.memory) (seen p off s.world.disk) s.world.memory c).plan ≡ mk_plan [] r s.world.memory b
    → GoesOn c r → untrusted_after c r s.untrusted ≡ s.untrusted → step p off s (calls c) ≡ s
unchanged_step p off s c r b plan_is q u = go (first_refusal D.checks) refl
  where
    D : Decides p (lent_ok_of p off s.world.disk s.world.memory) (seen p off s.world.disk) s.world.memory c
    D = decides p (lent_ok_of p off s.world.disk s.world.memory) (seen p off s.world.disk) s.world.memory c

    go : (o : Opt Answer) → first_refusal D.checks ≡ o → step p off s (calls c) ≡ s
    go (some x) e = refused-step p off s c x e
    go none e = hist_unchanged p off s c r b is (q.sent s.sends) u q.open?
      where
        due_is : decided none D.plan ≡ due (mk_plan [] r s.world.memory b)
        due_is = ap (decided none) plan_is ∙ (unfold decided in refl)

        is : call_disk p off s.world.disk s.world.memory c ≡ mk_after r s.world.disk s.world.memory b
        is =
            unfold call_disk call_on in (ap (outcome p (store_disk p) (store_count c) s.world.disk s.world.memory (lent_block c))
            (D.is ∙ ap (λ (o : Opt Answer). decided o D.plan) e ∙ due_is)
            ∙ nothing_due p s.world.disk s.world.memory (store_count c) (lent_block c) r b)

pub read_step : (p : Params) (off : List ℕ) (s : Hist) (a : ℕ) → step p off s (calls (read a)) ≡ s
unfolding decides read_plan untrusted_after
read_step p off s a =
    let q = read_plan p (seen p off s.world.disk) s.world.memory a in
    unchanged_step p off s (read a) q.answer [] refl (read_goes_on p (seen p off s.world.disk) s.world.memory a) refl

pub fill_step : (p : Params) (off : List ℕ) (s : Hist) (a : ℕ) (b : List ℕ) → step p off s (calls (fill a b)) ≡ s
unfolding decides fill_plan untrusted_after
fill_step p off s a b =
    let q = fill_plan p (seen p off s.world.disk) s.world.memory a in
    unchanged_step p off s (fill a b) q.answer q.block refl (fill_goes_on p (seen p off s.world.disk) s.world.memory a b) refl

-- ---- the power is off: the state is all zeros

zero_bad : (p : Params) → state_ok p zero_state ≡ false
zero_bad p = not_so (state_ok p zero_state) (λ q. out q)
  where
    live : (a b c d e f g : Bool) → (a && b && c && d && e && f && g) ≡ true → a ≡ true
    live true b c d e f g q = refl
    live false b c d e f g q = q

    out : state_ok p zero_state ≡ true → ⊥
    out q = unfold state_ok zero_state idle_state in clash
        (live (eqb 0 1) (ltb 0 (2 ^ p.N)) (leb (ones 0) (parity_count p)) (leb 0 0) (leb 0 p.S) (all (slot_ok_of p zero_state) slots) (all (λ o. ltb o p.S) (replicate 64 0)) q) refl

-- the state's numbers are out of range
off_bad : (p : Params) (m : Memory) → m.state ≡ zero_state → state_ok p m.state ≡ true → ⊥
off_bad p m z q = clash {b = state_ok p m.state} q (ap (state_ok p) z ∙ zero_bad p)

pub off_refused : (p : Params) (long : Bool) (v : View) (m : Memory) (c : Call) → restart_of c ≡ none → m.state ≡ zero_state → first_refusal (decides p long v m c).checks ≡ none → ⊥
unfolding decides
off_refused p long v m (write a [] n) r z e = off_bad p m z (empty_passed p long v m a e).state_fine
off_refused p long v m (write a (x ∷ b) n) r z e = off_bad p m z (write_passed p long v m a (x ∷ b) e).state_fine
off_refused p long v m (land d s n) r z e = off_bad p m z (land_passed p long v m d s e).state_fine
off_refused p long v m (close n) r z e = off_bad p m z (close_passed p long v m e).state_fine
off_refused p long v m (reclaim n) r z e = off_bad p m z (reclaim_passed p long v m (victim p v m.addresses) e).state_fine
off_refused p long v m (read a) r z e = off_bad p m z (read_passed p long v m a e).state_fine
off_refused p long v m (fill a b) r z e = off_bad p m z (read_passed p (long && eqb (length b) p.B) v m a e).state_fine
off_refused p long v m (restart d n) r z e = absurd (let x : ◌≡◌ {A = ℕ} 0 1 = boot r in let q : ⊥ = omega arith in q)
  where
    boot : restart_of (restart d n) ≡ none → ◌≡◌ {A = ℕ} 0 1
    boot e = unfold restart_of in cc
off_refused p long v m (rebuild d n) r z e =
    let c = rebuild_passed p long v m d (segments p v (named d)) e in
    named_nothing c.in_range_holds c.drive_low (sym c.names ∙ none_missing)
  where
    none_missing : m.state.missing ≡ 0
    none_missing = ap (λ (x : State). x.missing) z ∙ (unfold zero_state idle_state in refl)

    named_nothing : in_range p ≡ true → d < p.N → named d ≡ 0 → ⊥
    named_nothing i l f = clash (eq-eqb (named d) 0 f) (named_not_zero d (omega (arith, l, (ranged p i).drives_high)))

-- after a cut, and before the first restart
pub off_step : (p : Params) (off : List ℕ) (s : Hist) (c : Call) → restart_of c ≡ none → s.world.memory.state ≡ zero_state → step p off s (calls c) ≡ s
off_step p off s c r z = refused-any p off s c (off_refused p (lent_ok_of p off s.world.disk s.world.memory) (seen p off s.world.disk) s.world.memory c r z)

-- ---- a drive is missing: read-only, but for a rebuild

pub missing_step : (p : Params) (off : List ℕ) (s : Hist) (c : Call) → restart_of c ≡ none → ((d n : ℕ) → c ≡ rebuild d n → ⊥) → s.world.memory.state.missing ≢ 0
    → step p off s (calls c) ≡ s
missing_step p off s (write a [] n) r nb z = refused-any p off s (write a [] n) (λ e. out (unfold decides in e))
  where
    out : first_refusal (empty_checks p (lent_ok_of p off s.world.disk s.world.memory) (seen p off s.world.disk) s.world.memory a) ≡ none → ⊥
    out e = z (empty_passed p (lent_ok_of p off s.world.disk s.world.memory) (seen p off s.world.disk) s.world.memory a e).healthy
missing_step p off s (write a (x ∷ b) n) r nb z = refused-any p off s (write a (x ∷ b) n) (λ e. out (unfold decides in e))
  where
    out : first_refusal (write_checks p (lent_ok_of p off s.world.disk s.world.memory) (seen p off s.world.disk) s.world.memory a (x ∷ b)) ≡ none → ⊥
    out e = z (write_passed p (lent_ok_of p off s.world.disk s.world.memory) (seen p off s.world.disk) s.world.memory a (x ∷ b) e).healthy
missing_step p off s (land d t n) r nb z = refused-any p off s (land d t n) (λ e. out (unfold decides in e))
  where
    out : first_refusal (land_checks p (lent_ok_of p off s.world.disk s.world.memory) (seen p off s.world.disk) s.world.memory d t) ≡ none → ⊥
    out e = z (land_passed p (lent_ok_of p off s.world.disk s.world.memory) (seen p off s.world.disk) s.world.memory d t e).healthy
missing_step p off s (close n) r nb z = refused-any p off s (close n) (λ e. out (unfold decides in e))
  where
    out : first_refusal (close_checks p (lent_ok_of p off s.world.disk s.world.memory) (seen p off s.world.disk) s.world.memory) ≡ none → ⊥
    out e = z (close_passed p (lent_ok_of p off s.world.disk s.world.memory) (seen p off s.world.disk) s.world.memory e).healthy
missing_step p off s (reclaim n) r nb z = refused-any p off s (reclaim n) (λ e. out (unfold decides in e))
  where
    out :
        first_refusal (reclaim_checks p (lent_ok_of p off s.world.disk s.world.memory) (seen p off s.world.disk) s.world.memory
        (victim p (seen p off s.world.disk) s.world.memory.addresses)) ≡ none
        → ⊥
    out e =
        let v = seen p off s.world.disk in
        z (reclaim_passed p (lent_ok_of p off s.world.disk s.world.memory) v s.world.memory (victim p v s.world.memory.addresses) e).healthy
missing_step p off s (read a) r nb z = read_step p off s a
missing_step p off s (fill a b) r nb z = fill_step p off s a b
missing_step p off s (restart d n) r nb z = absurd (let x : ◌≡◌ {A = ℕ} 0 1 = boot r in let q : ⊥ = omega arith in q)
  where
    boot : restart_of (restart d n) ≡ none → ◌≡◌ {A = ℕ} 0 1
    boot e = unfold restart_of in cc
missing_step p off s (rebuild d n) r nb z = absurd (nb d n refl)
