-- Demand 2 on the lent bytes, from demand 2 with the state as a value: in a run each call on bytes is the call on the decoded state. Assumes nothing.
use Rattle.std.specs.Prelude.{◌≡◌, Bool, ◌&&◌, ℕ, length, replicate}
use Rattle.std.proofs.Math.Path.{refl, ap, ap₂, subst}
use Rattle.std.proofs.Common.{sym, ◌∙◌}
use mathlib.Core.List.{List, [], ◌∷◌}
use Rattle.std.proofs.Math.Bool.{true, false}
use Rattle.std.proofs.Math.Decide.{ℕ_discrete}
use Rattle.spec.specs.declared.Params.{Params}
use Rattle.spec.specs.Answers.{kind, values, is_refused, is_refused_as, is_cut_of, finished}
use Rattle.spec.specs.Calls.{After}
use Rattle.spec.specs.Demands.{NotNinth, said_at}
use Rattle.spec.specs.Drives.{Disk, view_of}
use Rattle.spec.specs.Engine.{Call, lent_ok_of, call_on, call_disk, Lent, Left, lent_disk, lent_memory, call_bytes, left_by, lent_all, lent_long}
use Rattle.spec.specs.Engine.Call.{write, land, close, reclaim, read, fill, restart, rebuild}
use Rattle.spec.specs.History.{World, mk_world, restart_of, seen_by}
use Rattle.spec.specs.Memory.{state_len}
use Rattle.spec.specs.Params.{in_range, no_drive, named}
use Rattle.spec.specs.Restart.{names_drive}
use Rattle.spec.specs.Segments.{Segment, segments}
use Rattle.law_views.specs.Views.{Whole, seen}
use Rattle.law_calls.specs.Refusals.{refused_unfinished}
use Rattle.law_lent.specs.Hosts.{bytes_short}
use Rattle.law_lent.specs.Shorts.{short_answer, short_refused, restart_short}
use Rattle.spec_demands.specs.Engines.{Reply, on_values, on_bytes, call_world, call_lent, view_in, reads_as}
use Rattle.spec_demands.specs.Tables.{Pending, pending_after, found_after, Says, open_in, landing_stores, Lands, Restarts, Rebuilds, CallSays, SaysOn, AfterRestart}
use Rattle.law_drives.specs.Image.{bytes_of_lem, shaped_of}
use Rattle.law_drives.specs.Tests.{clash}
use Rattle.law_drives.specs.Zones.{Shaped}
use Rattle.proof_tables.specs.Run.{Run}
use Rattle.proof_tables.specs.Theorem.{restart_finished, stepped}
use Rattle.proof_bytes.specs.Sections.{StateFits}
use Rattle.proof_bytes.specs.Reads.{grounded_reads, shaped_grounded}
use Rattle.proof_bytes.specs.Kept.{on_fits, finished_fits, answer_same, simulates, state_long}
use Rattle.proof_bytes.specs.Runs.{run_restart}

-- ---- a reply on bytes, decoded

abbrev pub world_of : Lent → World
world_of l = mk_world (lent_disk l) (lent_memory l)

abbrev pub reply_of : Reply Lent → Reply World
reply_of r = record { answer = r.answer; world = world_of r.world; block = r.block }

pub reply_same : (p : Params) (l : Lent) (c : Call) → length l.state ≡ state_len → StateFits (call_disk p l.offline (lent_disk l) (lent_memory l) c).memory.state
    → reply_of (call_lent p l c) ≡ call_world l.offline p (world_of l) c
unfolding call_lent call_world
reply_same p l c e f = ap (λ (r : After Disk). record { answer = r.answer; world = mk_world r.drives r.memory; block = r.block }) (simulates p l c e f)

-- 02, item 4: no call changes the list
pub list_same : (p : Params) (l : Lent) (c : Call) → (call_bytes p l c).lent.offline ≡ l.offline
unfolding call_bytes
list_same p l c = go (call_on p l.offline (lent_long p l) (lent_disk l) (lent_memory l) c)
  where
    by! : (r : After Disk) (t : Bool) → (left_by l r t).lent.offline ≡ l.offline
    by! r true = unfold left_by in refl
    by! r false = unfold left_by lent_all in refl

    go : (r : After Disk) → (left_by l r (is_refused r.answer)).lent.offline ≡ l.offline
    go r = by! r (is_refused r.answer)

pub lent_list : (p : Params) (l : Lent) (c : Call) → (call_lent p l c).world.offline ≡ l.offline
unfolding call_lent
lent_list p l c = list_same p l c

-- a state of another length: refused with 1 or 2
pub short_answer_lem : (p : Params) (l : Lent) (d n : ℕ) → (length l.state ≡ state_len → ⊥) → (call_bytes p l (restart d n)).answer ≡ short_answer (in_range p && names_drive p d)
short_answer_lem p l d n h = sym (ap (λ (x : Left). x.answer)
    (bytes_short p l (restart d n) h (short_answer good) [] (short_refused good) (restart_short p l.offline (lent_disk l) (lent_memory l) d n)))
  where
    good : Bool
    good = in_range p && names_drive p d

short_ninth : (b : Bool) → is_refused_as 9 (short_answer b) ≡ false
unfolding is_refused_as is_refused kind values
short_ninth true = refl
short_ninth false = refl

-- ---- between calls

-- what holds of the lent bytes in a run
pub record BytesRun (p : Params) (l : Lent) : Type 0 where
  pub long : length l.state ≡ state_len
  pub fits : StateFits (lent_memory l).state
  pub run : Run p l.offline (lent_disk l) (lent_memory l)

module _ (p : Params) (l : Lent) (g : BytesRun p l) where
  pub going_fits : (c : Call) → StateFits (call_disk p l.offline (lent_disk l) (lent_memory l) c).memory.state
  unfolding call_disk
  going_fits c = on_fits p l.offline (lent_ok_of p l.offline (lent_disk l) (lent_memory l)) (lent_disk l) (lent_memory l) c g.fits
      (grounded_reads p (seen p l.offline (lent_disk l)) (shaped_grounded p (seen p l.offline (lent_disk l)) g.run.base.shaped))
      (run_restart p l.offline (lent_disk l) (lent_memory l) c (λ w. g.run.base.shaped))

  pub going_same : (c : Call) → reply_of (call_lent p l c) ≡ call_world l.offline p (world_of l) c
  going_same c = reply_same p l c g.long (going_fits c)

  pub going_on : (c : Call) → is_cut_of (call_lent p l c).answer ≡ false → BytesRun p (call_lent p l c).world
  unfolding call_lent
  going_on c q =
      let e = simulates p l c g.long (going_fits c) in
      record {
        long = state_long p l c g.long (going_fits c);
        fits = subst (λ (r : After Disk). StateFits r.memory.state) (sym e) (going_fits c);
        run = subst (λ (o : List ℕ). Run p o (lent_disk (call_bytes p l c).lent) (lent_memory (call_bytes p l c).lent)) (sym (list_same p l c))
            (subst (λ (r : After Disk). Run p l.offline r.drives r.memory) (sym e)
            ((stepped p l.offline (lent_disk l) (lent_memory l) g.run c).1 (ap (λ (r : After Disk). is_cut_of r.answer) (sym e) ∙ q)));
      }

  world_reads_same : (a : ℕ) → reads_as on_bytes p l a ≡ reads_as (on_values l.offline) p (world_of l) a
  unfolding reads_as
  world_reads_same a = ap₂ (λ (r s : Reply World). seen_by r.answer s.answer s.block) (going_same (read a)) (going_same (fill a (replicate p.B 0)))

  says_same : Says (on_values l.offline) p (world_of l) → Says on_bytes p l
  unfolding view_in
  says_same s = record { addresses_say = s.addresses_say; compact_says = s.compact_says; reads_say = λ a h. world_reads_same a ∙ s.reads_say a h }

-- ---- one call

-- a reply with another list
abbrev relist : Reply Lent → List ℕ → Reply Lent
relist r off = record {
  answer = r.answer;
  world = record {
    offline = off;
    image = r.world.image;
    pointers = r.world.pointers;
    addresses = r.world.addresses;
    compact = r.world.compact;
    inflight = r.world.inflight;
    state = r.world.state;
  };
  block = r.block;
}

module _ (p : Params) (l : Lent) (ws : List Pending) (r : Reply Lent) (o : r.world.offline ≡ l.offline) where
  lands_same : (d s n : ℕ) → Lands (on_values l.offline) p (world_of l) ws d s (reply_of r) n → Lands on_bytes p l ws d s r n
  unfolding view_in open_in landing_stores lent_disk lent_memory
  lands_same d s n x = subst (λ (off : List ℕ). Lands on_bytes p l ws d s (relist r off) n) (sym o)
      (record { block = x.block; rec = x.rec; stored = x.stored; numbered = x.numbered; sent = x.sent; acknowledges = x.acknowledges })

  restarts_same : (d : ℕ) → Restarts (on_values l.offline) p (world_of l) d (reply_of r) → Restarts on_bytes p l d r
  unfolding view_in
  restarts_same d x = record { reports = x.reports; under = x.under }

  rebuilds_same : Rebuilds (on_values l.offline) p (world_of l) (reply_of r) → Rebuilds on_bytes p l r
  unfolding view_in call_lent call_world
  rebuilds_same x = record {
    says_same = λ a h. ap (λ (y : List ℕ). said_at p (view_of p y (lent_disk r.world).image (lent_disk r.world).pointers) 0 a) o ∙ x.says_same a h;
    accepted = λ u n e f. go u n e f (ℕ_discrete (length u.state) state_len);
  }
    where
      go : (u : Lent) (n : ℕ) → lent_disk u ≡ lent_disk r.world → u.offline ≡ l.offline → Dec (length u.state ≡ state_len)
          → is_refused_as 9 (call_bytes p u (restart no_drive n)).answer ≡ false
      go u n e f (yes h) = ap (is_refused_as 9) (answer_same p u (restart no_drive n) h)
          ∙ ap (λ (y : List ℕ). is_refused_as 9 (call_disk p y (lent_disk u) (lent_memory u) (restart no_drive n)).answer) f ∙ x.accepted (world_of u) n e refl
      go u n e f (no h) = ap (is_refused_as 9) (short_answer_lem p u no_drive n h) ∙ short_ninth (in_range p && names_drive p no_drive)

  bytes_call_says : (c : Call) → CallSays (on_values l.offline) p (world_of l) ws c (reply_of r) → CallSays on_bytes p l ws c r
  bytes_call_says (write a b n) x = tt
  bytes_call_says (land d s n) x = λ y e. lands_same d s y (x y e)
  bytes_call_says (close n) x = tt
  bytes_call_says (reclaim n) x = tt
  bytes_call_says (read a) x = tt
  bytes_call_says (fill a b) x = tt
  bytes_call_says (restart d n) x = λ e. restarts_same d (x e)
  bytes_call_says (rebuild d n) x = λ e. rebuilds_same (x e)

-- ---- lists of calls

bytes_says_on : (p : Params) (l : Lent) → BytesRun p l → (ws : List Pending) (old : List Segment) (cs : List Call)
    → SaysOn (on_values l.offline) p (world_of l) ws old cs → SaysOn on_bytes p l ws old cs
unfolding view_in
bytes_says_on p l g ws old [] (s, y) = (says_same p l g s, y)
bytes_says_on p l g ws old (c ∷ cs) (s, y, n, x, t) = (
  says_same p l g s,
  y,
  subst (λ (r : Reply World). NotNinth (restart_of c) r.answer) (sym e) n,
  bytes_call_says p l ws (call_lent p l c) (lent_list p l c) c (subst (λ (r : Reply World). CallSays (on_values l.offline) p (world_of l) ws c r) (sym e) x),
  λ q. bytes_says_on p (call_lent p l c).world (going_on p l g c q) (pending_after c (call_lent p l c).answer ws) (found_after p (view_in on_bytes p l) c (call_lent p l c).answer old) cs
      (subst (λ (o : List ℕ). SaysOn (on_values o) p (world_of (call_lent p l c).world) (pending_after c (call_lent p l c).answer ws)
      (found_after p (view_in on_bytes p l) c (call_lent p l c).answer old) cs) (sym (lent_list p l c)) (subst Next (sym e) t q)),
)
  where
    e : reply_of (call_lent p l c) ≡ call_world l.offline p (world_of l) c
    e = going_same p l g c

    Next : Reply World → Type 0
    Next r = is_cut_of r.answer ≡ false
        → SaysOn (on_values l.offline) p r.world (pending_after c r.answer ws) (found_after p (view_in (on_values l.offline) p (world_of l)) c r.answer old) cs

-- ---- from the restart on

-- demand 2 with the state as a value gives demand 2 of the lent bytes
pub lift_2 : ((off : List ℕ) → AfterRestart (on_values off)) → AfterRestart on_bytes
unfolding view_in
lift_2 two p l d n cs by q = go (ℕ_discrete (length l.state) state_len)
  where
    c : Call
    c = restart d n

    answer! : (call_lent p l c).answer ≡ (call_bytes p l c).answer
    answer! = unfold call_lent in refl

    go : Dec (length l.state ≡ state_len)
        → Restarts on_bytes p l d (call_lent p l (restart d n)) × SaysOn on_bytes p (call_lent p l (restart d n)).world [] (segments p (view_in on_bytes p l) (named d)) cs
    go (no h) = clash q (ap finished (answer! ∙ short_answer_lem p l d n h) ∙ refused_unfinished (short_answer (in_range p && names_drive p d)) (short_refused (in_range p && names_drive p d)))
    go (yes h) = (
      restarts_same p l [] (call_lent p l c) (lent_list p l c) d (subst (λ (r : Reply World). Restarts (on_values l.offline) p (world_of l) d r) (sym e) t.0),
      bytes_says_on p (call_lent p l c).world going [] (segments p (view_in on_bytes p l) (named d)) cs
          (subst (λ (o : List ℕ). SaysOn (on_values o) p (world_of (call_lent p l c).world) [] (segments p (view_in on_bytes p l) (named d)) cs) (sym (lent_list p l c))
          (subst (λ (r : Reply World). SaysOn (on_values l.offline) p r.world [] (segments p (view_in (on_values l.offline) p (world_of l)) (named d)) cs) (sym e) t.1)),
    )
      where
        shaped! : Whole p (lent_disk l) → Shaped p (seen p l.offline (lent_disk l))
        shaped! w = shaped_of p l.offline (lent_disk l) w (bytes_of_lem (lent_disk l).image by)

        fin : finished (call_disk p l.offline (lent_disk l) (lent_memory l) c).answer ≡ true
        fin = ap finished (sym (answer! ∙ answer_same p l c h)) ∙ q

        f : StateFits (call_disk p l.offline (lent_disk l) (lent_memory l) c).memory.state
        f = unfold call_disk in finished_fits p l.offline (lent_ok_of p l.offline (lent_disk l) (lent_memory l)) (lent_disk l) (lent_memory l) d n
            (run_restart p l.offline (lent_disk l) (lent_memory l) c shaped!) (on! fin)
          where
            on! : finished (call_disk p l.offline (lent_disk l) (lent_memory l) (restart d n)).answer ≡ true
                → finished (call_on p l.offline (lent_ok_of p l.offline (lent_disk l) (lent_memory l)) (lent_disk l) (lent_memory l) (restart d n)).answer ≡ true
            on! x = unfold call_disk in x

        e : reply_of (call_lent p l c) ≡ call_world l.offline p (world_of l) c
        e = reply_same p l c h f

        t : Restarts (on_values l.offline) p (world_of l) d (call_world l.offline p (world_of l) (restart d n))
            × SaysOn (on_values l.offline) p (call_world l.offline p (world_of l) (restart d n)).world [] (segments p (view_in (on_values l.offline) p (world_of l)) (named d)) cs
        t = two l.offline p (world_of l) d n cs by (ap (λ (r : Reply World). finished r.answer) (sym e) ∙ q)

        going : BytesRun p (call_lent p l (restart d n)).world
        going = unfold call_lent in record {
          long = state_long p l c h f;
          fits = subst (λ (r : After Disk). StateFits r.memory.state) (sym (simulates p l c h f)) f;
          run = subst (λ (o : List ℕ). Run p o (lent_disk (call_bytes p l c).lent) (lent_memory (call_bytes p l c).lent)) (sym (list_same p l c))
              (subst (λ (r : After Disk). Run p l.offline r.drives r.memory) (sym (simulates p l c h f)) (restart_finished p l.offline (lent_disk l) (lent_memory l) d n shaped! fin));
        }
