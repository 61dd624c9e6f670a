-- What holds between calls holds after a finished restart and after every uncut call, and refusal 9 comes from restarts alone. Assumes nothing.
use Rattle.std.specs.Prelude.{◌≡◌, List, [], ◌∷◌, true, false, ℕ, ◌<◌}
use Rattle.std.proofs.Math.Path.{refl}
use Rattle.std.proofs.Common.{sym, ap, ◌∙◌, subst, ⊎_elim, eq-eqb}
use Rattle.spec.specs.Lists.Opt.{none}
use Rattle.spec.specs.declared.Answer.TheVariants.{Rebuilt, Nothing}
use Rattle.spec.specs.declared.Answer.{Answer}
use Rattle.spec.specs.declared.Params.{Params}
use Rattle.spec.specs.Answers.{kind, is_refused, is_refused_as, is_cut_of, finished}
use Rattle.spec.specs.Calls.{Check, first_refusal, Plan, mk_plan, decided, After, mk_after, outcome}
use Rattle.spec.specs.Demands.{NotNinth}
use Rattle.spec.specs.Drives.{Disk, store_disk, store_all}
use Rattle.spec.specs.Engine.{Call, store_count, lent_block, verdict, lent_ok_of, call_on, call_disk}
use Rattle.spec.specs.Engine.Call.{write, land, close, reclaim, read, fill, restart, rebuild}
use Rattle.spec.specs.History.{restart_of}
use Rattle.spec.specs.Memory.{Memory}
use Rattle.spec.specs.Params.{named}
use Rattle.spec.specs.Rebuild.{rebuild_checks, rebuild_stores, rebuild_verdict}
use Rattle.spec.specs.Reclaim.{table_faults}
use Rattle.spec.specs.Restart.{restart_verdict}
use Rattle.spec.specs.Segments.{segments, candidates, address_table}
use Rattle.law_basic.specs.Geometry.{ranged}
use Rattle.law_views.specs.Views.{Whole, seen}
use Rattle.law_calls.specs.Refusals.{refusal_kind, refused_unfinished}
use Rattle.law_checks.specs.Empty.{EmptyLeaves, empty_leaves}
use Rattle.law_checks.specs.Empty.EmptyLeaves.{as_close, as_refusal, as_idle}
use Rattle.law_checks.specs.Passed.{rebuild_passed, rebuild_mild, empty_mild}
use Rattle.law_drives.specs.Masks.{named_some}
use Rattle.law_drives.specs.Tests.{clash}
use Rattle.law_drives.specs.Zones.{Shaped}
use Rattle.proof_tables.specs.Going.{well_write, well_close}
use Rattle.proof_tables.specs.Landings.{well_land}
use Rattle.proof_tables.specs.Live.{table_clear}
use Rattle.proof_tables.specs.Losing.{idle-kept, refused-kept, lost_write, lost_land, lost_close, lost_reclaim, lost_rebuild}
use Rattle.proof_tables.specs.Outcomes.{EndedAs, outcome_ends, cut_unfinished, cut-cut}
use Rattle.proof_tables.specs.Outcomes.EndedAs.{ended-refused, ended_done, ended-cut}
use Rattle.proof_tables.specs.Reading.{read_idle, fill_idle}
use Rattle.proof_tables.specs.Reclaiming.{well_reclaim}
use Rattle.proof_tables.specs.Restarting.{run-started}
use Rattle.proof_tables.specs.Run.{Well, Run, Kept}
use Rattle.proof_tables.specs.Starting.{start_checks, start_plan, start_begins}

-- Reading order: Run (what holds between calls); lists and numbers: Tests, Members, Range, Masks, Tallies, Counting; what the drives say: Segs,
-- Ranks, Tables, Accept, Frame, Settled, Growing; reads: Reads, Base, Reading; stores: Zones, Image, Laid, Puts, Sealing, Joins; checks and how a call
-- ends: Checks, Outcomes, Idle; a drive missing: Rebuilding, Losing, Starting; none missing: Slots, Opened, Filling, Carried, Heading, Sending, Live,
-- Going (write, closing), Bounds, Resetting, Reclaiming, Chunks, Pointing, Landings; a healthy restart: Resting, Dropping, Unsealed, Mending, Rewriting,
-- Restarting. A helper named as!, bs! .. is the same fact with a definition opened.

-- ---- a restart, on any bytes

pub restart_ends : (p : Params) (off : List ℕ) (k : Disk) (m : Memory) (d n : ℕ) → EndedAs p k m (start_checks p off k m d) (start_plan p off k m d) (call_disk p off k m (restart d n))
unfolding call_disk call_on verdict store_count lent_block restart_verdict
restart_ends p off k m d n = outcome_ends p k m (start_checks p off k m d) (start_plan p off k m d) n []

-- finished: what holds between calls holds
pub restart_finished : (p : Params) (off : List ℕ) (k : Disk) (m : Memory) (d n : ℕ) → (Whole p k → Shaped p (seen p off k)) → finished (call_disk p off k m (restart d n)).answer ≡ true
    → Run p off (call_disk p off k m (restart d n)).drives (call_disk p off k m (restart d n)).memory
restart_finished p off k m d n sh q = go (restart_ends p off k m d n)
  where
    r : After Disk
    r = call_disk p off k m (restart d n)

    go : EndedAs p k m (start_checks p off k m d) (start_plan p off k m d) (call_disk p off k m (restart d n))
        → Run p off (call_disk p off k m (restart d n)).drives (call_disk p off k m (restart d n)).memory
    go (ended-refused a e f g h) = clash q (ap finished f ∙ refused_unfinished a (refusal_kind (start_checks p off k m d) a e))
    go (ended_done c f g h) =
        subst (λ (x : Disk). Run p off x (call_disk p off k m (restart d n)).memory) (sym g)
        (subst (λ (x : Memory). Run p off (store_all (store_disk p) (start_plan p off k m d).stores k) x) (sym h) (run-started p off k m d sh (start_begins p off k m d c)))
    go (ended-cut c f) = clash q (ap finished f ∙ cut_unfinished)

-- ---- one call

-- what a call gives
abbrev pub CallKeeps : Params → List ℕ → Call → After Disk → Type 0
CallKeeps p off c r = NotNinth (restart_of c) r.answer × (is_cut_of r.answer ≡ false → Run p off r.drives r.memory)

kept_step : (p : Params) (off : List ℕ) (r : After Disk) → Kept p off r → (is_refused_as 9 r.answer ≡ false) × (is_cut_of r.answer ≡ false → Run p off r.drives r.memory)
kept_step p off r k = (k.never_ninth, k.runs_on)

-- with none missing no drive can be rebuilt
well_rebuild : (p : Params) (off : List ℕ) (k : Disk) (m : Memory) (u : Run p off k m) → Well p off k m → (d n : ℕ) → Kept p off (call_disk p off k m (rebuild d n))
unfolding call_disk call_on verdict store_count lent_block rebuild_verdict
well_rebuild p off k m u we d n = go (outcome_ends p k m checks plan n [])
  where
    plan : Plan
    plan = mk_plan (rebuild_stores p (seen p off k) d (segments p (seen p off k) (named d))) Rebuilt m []

    checks : List Check
    checks = rebuild_checks p (lent_ok_of p off k m) (seen p off k) m d (segments p (seen p off k) (named d))

    never! : {X : Type 0} → d < p.N → m.state.missing ≡ named d → X
    never! hd e = clash (eq-eqb (named d) 0 (sym e ∙ we.none_missing)) (named_some p (ranged p u.base.ranged) d hd)

    passed! : {X : Type 0} → first_refusal checks ≡ none → X
    passed! q = let c = rebuild_passed p (lent_ok_of p off k m) (seen p off k) m d (segments p (seen p off k) (named d)) q in never! c.drive_low c.names

    go : EndedAs p k m checks plan (outcome p (store_disk p) n k m [] (decided (first_refusal checks) plan)) → Kept p off (outcome p (store_disk p) n k m [] (decided (first_refusal checks) plan))
    go (ended-refused a e f g h) = refused-kept p off k m _ a u (rebuild_mild p (lent_ok_of p off k m) (seen p off k) m d (segments p (seen p off k) (named d)) (λ hd q. never! hd q) a e) f g h
    go (ended_done c f g h) = passed! c
    go (ended-cut c f) = passed! c

restart_step : (p : Params) (off : List ℕ) (k : Disk) (m : Memory) (u : Run p off k m) (d n : ℕ) → is_cut_of (call_disk p off k m (restart d n)).answer ≡ false
    → Run p off (call_disk p off k m (restart d n)).drives (call_disk p off k m (restart d n)).memory
restart_step p off k m u d n nc = go (restart_ends p off k m d n)
  where
    go : EndedAs p k m (start_checks p off k m d) (start_plan p off k m d) (call_disk p off k m (restart d n))
        → Run p off (call_disk p off k m (restart d n)).drives (call_disk p off k m (restart d n)).memory
    go (ended-refused a e f g h) = subst (λ (x : Disk). Run p off x (call_disk p off k m (restart d n)).memory) (sym g) (subst (λ (x : Memory). Run p off k x) (sym h) u)
    go (ended_done c f g h) =
        subst (λ (x : Disk). Run p off x (call_disk p off k m (restart d n)).memory) (sym g) (subst (λ (x : Memory). Run p off (store_all (store_disk p) (start_plan p off k m d).stores k) x) (sym h)
        (run-started p off k m d (λ w. u.base.shaped) (start_begins p off k m d c)))
    go (ended-cut c f) = clash (ap is_cut_of f ∙ cut-cut) nc

close_kept : (p : Params) (off : List ℕ) (k : Disk) (m : Memory) → Run p off k m → (n : ℕ) → Kept p off (call_disk p off k m (close n))
close_kept p off k m u n = ⊎_elim (λ x. lost_close p off k m u x n) (λ x. well_close p off k m u x n) u.mode

-- a write of no bytes: a closing, or all stays
empty_kept : (p : Params) (off : List ℕ) (k : Disk) (m : Memory) → Run p off k m → (a n : ℕ) → Kept p off (call_disk p off k m (write a [] n))
empty_kept p off k m u a n = go (empty_leaves p off k m a n)
  where
    r : After Disk
    r = call_disk p off k m (write a [] n)

    stays : (x : Answer) → is_refused_as 9 x ≡ false → r ≡ mk_after x k m [] → Kept p off r
    stays x q e =
        refused-kept p off k m r x u q (ap (λ (y : After Disk). y.answer) e) (ap (λ (y : After Disk). y.drives) e) (ap (λ (y : After Disk). y.memory) e)

    nothing_mild : is_refused_as 9 Nothing ≡ false
    nothing_mild = unfold is_refused_as is_refused kind in refl

    table_said : m.state.missing ≡ 0 → table_faults p (seen p off k) m.addresses ≡ []
    table_said z =
        table_clear p (ranged p u.base.ranged) (seen p off k) m.addresses
        (u.base.addresses_say ∙ ap (λ (g : ℕ). address_table p (candidates p g (segments p (seen p off k) g))) z)

    go : EmptyLeaves p off k m a n → Kept p off r
    go (as_close h l e) = subst (λ (y : After Disk). Kept p off y) (sym e) (close_kept p off k m u n)
    go (as_refusal x c e) = stays x (empty_mild p (lent_ok_of p off k m) (seen p off k) m a u.base.state_ok_holds table_said x c) e
    go (as_idle c h e) = stays Nothing nothing_mild e

pub stepped : (p : Params) (off : List ℕ) (k : Disk) (m : Memory) → Run p off k m → (c : Call) → CallKeeps p off c (call_disk p off k m c)
unfolding restart_of
stepped p off k m u (write a [] n) = kept_step p off (call_disk p off k m (write a [] n)) (empty_kept p off k m u a n)
stepped p off k m u (write a (x ∷ b) n) =
    kept_step p off (call_disk p off k m (write a (x ∷ b) n)) (⊎_elim (λ q. lost_write p off k m u q a x b n) (λ q. well_write p off k m u q a n x b) u.mode)
stepped p off k m u (land d s n) = kept_step p off (call_disk p off k m (land d s n)) (⊎_elim (λ x. lost_land p off k m u x d s n) (λ x. well_land p off k m u x d s n) u.mode)
stepped p off k m u (close n) = kept_step p off (call_disk p off k m (close n)) (close_kept p off k m u n)
stepped p off k m u (reclaim n) = kept_step p off (call_disk p off k m (reclaim n)) (⊎_elim (λ x. lost_reclaim p off k m u x n) (λ x. well_reclaim p off k m u x n) u.mode)
stepped p off k m u (read a) = kept_step p off (call_disk p off k m (read a)) (idle-kept p off k m u.base (call_disk p off k m (read a)) u (read_idle p off k m u.base a))
stepped p off k m u (fill a b) = kept_step p off (call_disk p off k m (fill a b)) (idle-kept p off k m u.base (call_disk p off k m (fill a b)) u (fill_idle p off k m u.base a b))
stepped p off k m u (restart d n) = (tt, restart_step p off k m u d n)
stepped p off k m u (rebuild d n) = kept_step p off (call_disk p off k m (rebuild d n)) (⊎_elim (λ x. lost_rebuild p off k m u x d n) (λ x. well_rebuild p off k m u x d n) u.mode)
