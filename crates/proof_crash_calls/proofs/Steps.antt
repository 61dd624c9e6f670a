-- The events of a healthy run that are no restart, over a history. Assumes nothing.
use Rattle.std.specs.Prelude.{◌≡◌, List, Bool, true, false, cond, ℕ, length}
use Rattle.std.proofs.Math.Path.{refl}
use Rattle.std.proofs.Common.{sym, ◌∙◌, arith}
use Rattle.spec.specs.declared.Params.{Params}
use Rattle.spec.specs.Answers.{is_refused, is_cut_of, finished}
use Rattle.spec.specs.Calls.{After}
use Rattle.spec.specs.Drives.{Disk}
use Rattle.spec.specs.Engine.{Call, call_disk}
use Rattle.spec.specs.Engine.Call.{write, land, close, reclaim, read, fill, restart, rebuild}
use Rattle.spec.specs.History.{World, mk_world, call_of, restart_of, before, happens, world_after, Send, sent_after, untrusted_after, Mark, Hist, marked, step}
use Rattle.spec.specs.History.Event.{calls}
use Rattle.spec.specs.Lists.{Opt}
use Rattle.spec.specs.Lists.Opt.{none}
use Rattle.spec.specs.Memory.{Memory}
use Rattle.spec.specs.Params.{named}
use Rattle.law_basic.specs.Geometry.{Ranged}
use Rattle.law_drives.specs.Tests.{cond_true}
use Rattle.proof_crash_machine.specs.Exec.{true≢false}
use Rattle.proof_crash_calls.specs.Join.{Healthy, Next}
use Rattle.proof_crash_calls.proofs.Join.{rebuild_refused, call_next}
use Rattle.proof_crash_calls.specs.Join.Next.{goes, stops}
use Rattle.proof_crash_calls.specs.Steps.{Running, Stepped}
use Rattle.proof_crash_calls.specs.Steps.Stepped.{goes_on, is_over}

untrusted-same :
    (p : Params) (h : Ranged p) (off : List ℕ) (k : Disk) (m : Memory) (ss : List Send) (n : ℕ)
    → Healthy p h off k m ss n
    → (c : Call)
    → restart_of c ≡ none
    → (us : ℕ)
    → untrusted_after c (call_disk p off k m c).answer us ≡ us
unfolding untrusted_after
untrusted-same p h off k m ss n x (write a b c) e us = refl
untrusted-same p h off k m ss n x (land d s c) e us = refl
untrusted-same p h off k m ss n x (close c) e us = refl
untrusted-same p h off k m ss n x (reclaim c) e us = refl
untrusted-same p h off k m ss n x (read a) e us = refl
untrusted-same p h off k m ss n x (fill a b) e us = refl
untrusted-same p h off k m ss n x (restart d c) e us = absurd (let z : ◌≡◌ {A = ℕ} 0 1 = boot e in let q : ⊥ = omega arith in q)
  where
    boot : restart_of (restart d c) ≡ none → ◌≡◌ {A = ℕ} 0 1
    boot e = unfold restart_of in cc
untrusted-same p h off k m ss n x (rebuild d c) e us =
    cond_true (is_refused (call_disk p off k m (rebuild d c)).answer) us (cond (is_cut_of (call_disk p off k m (rebuild d c)).answer) (named d) 0) (rebuild_refused p h off k m ss n x d c)

pub run_step : (p : Params) (h : Ranged p) (off : List ℕ) (s : Hist) (n : ℕ) (x : Running p h off s n) (c : Call) → restart_of c ≡ none
    → Stepped p h off x.healthy.live.g n s (step p off s (calls c))
unfolding step happens before call_of world_after
run_step p h off s n x c e = go (call_next p h off k m s.sends n x.healthy c e)
  where
    k : Disk
    k = s.world.disk

    m : Memory
    m = s.world.memory

    r : After Disk
    r = call_disk p off s.world.disk s.world.memory c

    trust : untrusted_after c (call_disk p off s.world.disk s.world.memory c).answer s.untrusted ≡ 0
    trust = untrusted-same p h off k m s.sends n x.healthy c e s.untrusted ∙ x.trusted

    kept? : (b : Bool) → b ≡ false → (w : World) (j : ℕ) (o : Opt Mark) → marked b w j o ≡ o
    kept? true q w j o = true≢false (sym q)
    kept? false q w j o = unfold marked in refl

    go :
        Next p h off x.healthy.live.g n (call_disk p off s.world.disk s.world.memory c)
        (sent_after c (call_disk p off s.world.disk s.world.memory c).answer s.sends)
        → Stepped p h off x.healthy.live.g n s (step p off s (calls c))
    go (goes a b y l) = goes_on (kept? (finished r.answer) b (mk_world r.drives r.memory) (length (sent_after c r.answer s.sends)) s.mark) (record { healthy = y; trusted = trust }) l
    go (stops a b z y l) =
        is_over (kept? (finished r.answer) b (mk_world r.drives r.memory) (length (sent_after c r.answer s.sends)) s.mark) (record { ended = y; trusted = trust; dark = z }) l
