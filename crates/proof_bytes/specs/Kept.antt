-- Every call, on any lent bytes: the state that it leaves fits, all that it leaves is bytes, and on bytes it does what it does on the decoded state. Assumes nothing.
use Rattle.std.specs.Prelude.{◌≡◌, List, [], ◌∷◌, true, cond, ℕ, length, take}
use Rattle.std.proofs.Math.Path.{refl, ap}
use Rattle.std.proofs.Common.{sym, ◌∙◌, subst}
use Rattle.std.proofs.Math.Bool.{Bool, false}
use Rattle.std.proofs.Math.Dec.{leb}
use Rattle.spec.specs.Lists.Opt.{none}
use Rattle.spec.specs.declared.Params.{Params}
use Rattle.spec.specs.declared.State.{State}
use Rattle.spec.specs.declared.Answer.{Answer}
use Rattle.spec.specs.declared.Answer.TheVariants.{Cut, Nothing}
use Rattle.spec.specs.Answers.{is_refused, finished}
use Rattle.spec.specs.Calls.{first_refusal, Verdict, decided, After, mk_after, cut_memory, limited, outcome, mk_plan}
use Rattle.spec.specs.Calls.Verdict.{due}
use Rattle.spec.specs.Drives.{View, Store, Disk, store_disk, store_all}
use Rattle.spec.specs.Engine.{Call, store_count, lent_block, lent_ok_of, call_on, call_disk, Lent, Left, lent_disk, lent_memory, lent_all, left_by, lent_long, call_bytes}
use Rattle.spec.specs.Engine.Call.{write, land, close, reclaim, read, fill, restart, rebuild}
use Rattle.spec.specs.Lists.{first_or}
use Rattle.spec.specs.Memory.{Memory, mk_memory, state_len, has_filling}
use Rattle.spec.specs.Params.{named}
use Rattle.spec.specs.Read.{lies, lookup, read_plan, fill_plan}
use Rattle.spec.specs.Reclaim.{victim, idle}
use Rattle.spec.specs.Restart.{restart_stores, restart_checks, restart_plan}
use Rattle.spec.specs.Segments.{segments}
use Rattle.law_basic.specs.Sections.{state_of_state_bytes}
use Rattle.law_basic.specs.Stores.{refused_same}
use Rattle.law_views.specs.Views.{seen}
use Rattle.law_calls.specs.Refusals.{refusal_kind, refused_unfinished}
use Rattle.law_lent.specs.Hosts.{bytes_long}
use Rattle.law_lent.specs.Shorts.{write_keeps, land_keeps, close_keeps, reclaim_keeps, read_keeps, fill_keeps, restart_keeps, rebuild_keeps}
use Rattle.proof_crash_calls.proofs.Refusals.{Decides, decides}
use Rattle.law_checks.specs.Checks.{Decided, decide}
use Rattle.law_checks.specs.Checks.Decided.{stops, goes}
use Rattle.law_drives.specs.Laid.{in_take}
use Rattle.law_drives.specs.Tests.{clash}
use Rattle.law_drives.specs.Zones.{Bytes}
use Rattle.proof_tables.specs.Outcomes.{cut_unfinished}
use Rattle.proof_bytes.specs.Sections.{StateFits, fits_state_of, bytes_state_bytes, length-state_bytes, state_sections_counted, fitting}
use Rattle.proof_bytes.specs.Changes.{fits_zero}
use Rattle.proof_bytes.specs.Reads.{LowReads, grounded_reads}
use Rattle.proof_bytes.specs.Fitted.{write_fits, land_fits, close_fits, reclaim_fits, restart_fits}
use Rattle.proof_bytes.specs.Images.{ViewBytes, StoresBytes, view_bytes, view_grounded, stores_view, stores_disk}
use Rattle.proof_bytes.specs.Stored.{PlanBytes, write_bytes, land_bytes, close_bytes, reclaim_bytes, read_bytes, found_bytes, restarts_bytes, rebuilds_bytes}
use Rattle.spec.specs.Closing.{close_plan, empty_plan}
use Rattle.law_checks.specs.Empty.{empty_asks}

-- ---- how a call ends

module _ (p : Params) (off : List ℕ) (long : Bool) (k : Disk) (m : Memory) (c : Call) where
  abbrev due! : Decides p long (seen p off k) m c
  due! = decides p long (seen p off k) m c

  -- refused, done, or cut
  pub data Ends : Type 0 where
    ends_refused : (a : Answer) → is_refused a ≡ true → call_on p off long k m c ≡ mk_after a k m (lent_block c) → Ends
    ends_done : first_refusal due!.checks ≡ none
        → call_on p off long k m c ≡ mk_after due!.plan.answer (store_all (store_disk p) due!.plan.stores k) due!.plan.memory due!.plan.block → Ends
    ends_cut : first_refusal due!.checks ≡ none
        → call_on p off long k m c ≡ mk_after Cut (store_all (store_disk p) (take (store_count c) due!.plan.stores) k) (cut_memory p m) (lent_block c) → Ends

  pub ends : Ends
  unfolding call_on
  ends = go (decide due!.checks due!.plan)
    where
      run : Verdict → After Disk
      run w = outcome p (store_disk p) (store_count c) k m (lent_block c) w

      limits : (t : Bool) → leb (length due!.plan.stores) (store_count c) ≡ t → first_refusal due!.checks ≡ none → call_on p off long k m c ≡ run (due due!.plan) → Ends
      limits true e q r = ends_done q (r ∙ all! e)
        where
          all! : leb (length due!.plan.stores) (store_count c) ≡ true
              → run (due due!.plan) ≡ mk_after due!.plan.answer (store_all (store_disk p) due!.plan.stores k) due!.plan.memory due!.plan.block
          all! e = unfold outcome limited in rw e
      limits false e q r = ends_cut q (r ∙ cut! e)
        where
          cut! : leb (length due!.plan.stores) (store_count c) ≡ false
              → run (due due!.plan) ≡ mk_after Cut (store_all (store_disk p) (take (store_count c) due!.plan.stores) k) (cut_memory p m) (lent_block c)
          cut! e = unfold outcome limited in rw e

      go : Decided due!.checks due!.plan (decided (first_refusal due!.checks) due!.plan) → Ends
      go (stops a e w) = ends_refused a (refusal_kind due!.checks a e) (ap run (due!.is ∙ w) ∙ refused_same p (store_disk p) (store_count c) k m (lent_block c) a)
      go (goes q w) = limits (leb (length due!.plan.stores) (store_count c)) refl q (ap run (due!.is ∙ w))

-- ---- the state that a call leaves fits

-- where a restart goes on, the state that it makes fits
abbrev pub RestartFits : Params → Bool → View → Memory → Call → Type 0
RestartFits p long v m (write a b n) = Unit {0}
RestartFits p long v m (land d s n) = Unit {0}
RestartFits p long v m (close n) = Unit {0}
RestartFits p long v m (reclaim n) = Unit {0}
RestartFits p long v m (read a) = Unit {0}
RestartFits p long v m (fill a b) = Unit {0}
RestartFits p long v m (restart d n) =
    first_refusal (restart_checks p long v d (segments p v (named d))) ≡ none → StateFits (restart_plan p v d (segments p v (named d)) m.inflight).memory.state
RestartFits p long v m (rebuild d n) = Unit {0}

plan_fits : (p : Params) (long : Bool) (v : View) (m : Memory) (c : Call) → StateFits m.state → LowReads p v → RestartFits p long v m c
    → first_refusal (decides p long v m c).checks ≡ none → StateFits (decides p long v m c).plan.memory.state
unfolding decides empty_plan read_plan fill_plan
plan_fits p long v m (write a [] n) f r h q = go (has_filling p m.state) refl
  where
    go : (t : Bool) → has_filling p m.state ≡ t → StateFits (cond t (close_plan p m) (mk_plan [] Nothing m [])).memory.state
    go true e = close_fits p long v m f (empty_asks p long v m a e q)
    go false e = f
plan_fits p long v m (write a (x ∷ b) n) f r h q = write_fits p long v m f a (x ∷ b) q
plan_fits p long v m (land d s n) f r h q = land_fits p long v m f d s q
plan_fits p long v m (close n) f r h q = close_fits p long v m f q
plan_fits p long v m (reclaim n) f r h q = reclaim_fits p long v m f r (victim p v m.addresses) (first_or 0 (idle p v m.state (victim p v m.addresses))) q
plan_fits p long v m (read a) f r h q = f
plan_fits p long v m (fill a b) f r h q = f
plan_fits p long v m (restart d n) f r h q = h q
plan_fits p long v m (rebuild d n) f r h q = f

cut_fits : (p : Params) (m : Memory) → StateFits (cut_memory p m).state
unfolding cut_memory
cut_fits p m = fits_zero

pub on_fits : (p : Params) (off : List ℕ) (long : Bool) (k : Disk) (m : Memory) (c : Call) → StateFits m.state → LowReads p (seen p off k) → RestartFits p long (seen p off k) m c
    → StateFits (call_on p off long k m c).memory.state
on_fits p off long k m c f r h = go (ends p off long k m c)
  where
    go : Ends p off long k m c → StateFits (call_on p off long k m c).memory.state
    go (ends_refused a x e) = subst (λ (x : After Disk). StateFits x.memory.state) (sym e) f
    go (ends_done q e) = subst (λ (x : After Disk). StateFits x.memory.state) (sym e) (plan_fits p long (seen p off k) m c f r h q)
    go (ends_cut q e) = subst (λ (x : After Disk). StateFits x.memory.state) (sym e) (cut_fits p m)

-- a finished restart needs nothing of the state that it found
pub finished_fits : (p : Params) (off : List ℕ) (long : Bool) (k : Disk) (m : Memory) (d n : ℕ) → RestartFits p long (seen p off k) m (restart d n)
    → finished (call_on p off long k m (restart d n)).answer ≡ true → StateFits (call_on p off long k m (restart d n)).memory.state
unfolding decides
finished_fits p off long k m d n h t = go (ends p off long k m (restart d n))
  where
    go : Ends p off long k m (restart d n) → StateFits (call_on p off long k m (restart d n)).memory.state
    go (ends_refused a x e) = clash t (ap (λ (r : After Disk). finished r.answer) e ∙ refused_unfinished a x)
    go (ends_done q e) = subst (λ (x : After Disk). StateFits x.memory.state) (sym e) (h q)
    go (ends_cut q e) = clash t (ap (λ (r : After Disk). finished r.answer) e ∙ cut_unfinished)

-- ---- all that a call leaves is bytes

plan_bytes : (p : Params) (long : Bool) (v : View) (m : Memory) (c : Call) → ViewBytes v → Bytes m.inflight → Bytes (lent_block c) → PlanBytes (decides p long v m c).plan
unfolding decides lent_block empty_plan read_plan fill_plan lookup
plan_bytes p long v m (write a [] n) h g k = go (has_filling p m.state)
  where
    go : (t : Bool) → PlanBytes (cond t (close_plan p m) (mk_plan [] Nothing m []))
    go true = close_bytes p v m h g
    go false = read_bytes p v m h g _ [] k
plan_bytes p long v m (write a (x ∷ b) n) h g k = write_bytes p v m h g a (x ∷ b) k
plan_bytes p long v m (land d s n) h g k = land_bytes p v m h g d s
plan_bytes p long v m (close n) h g k = close_bytes p v m h g
plan_bytes p long v m (reclaim n) h g k = reclaim_bytes p v m h g (victim p v m.addresses) (first_or 0 (idle p v m.state (victim p v m.addresses)))
plan_bytes p long v m (read a) h g k = read_bytes p v m h g _ [] k
plan_bytes p long v m (fill a b) h g k = read_bytes p v m h g _ _ (found_bytes p v m h g m.state.missing m.compact (lies p m.state.missing m.addresses a))
plan_bytes p long v m (restart d n) h g k = restarts_bytes p v m h g d
plan_bytes p long v m (rebuild d n) h g k = rebuilds_bytes p v m h g d

-- image, in-flight buffer and block
pub record AfterBytes (r : After Disk) : Type 0 where
  pub image_bytes : Bytes r.drives.image
  pub inflight_bytes : Bytes r.memory.inflight
  pub block_bytes : Bytes r.block

on_bytes_lem : (p : Params) (off : List ℕ) (long : Bool) (k : Disk) (m : Memory) (c : Call) → Bytes k.image → Bytes m.inflight → Bytes (lent_block c) → AfterBytes (call_on p off long k m c)
on_bytes_lem p off long k m c h g b = go (ends p off long k m c)
  where
    q : PlanBytes (decides p long (seen p off k) m c).plan
    q = plan_bytes p long (seen p off k) m c (view_bytes p off k.image k.pointers h) g b

    ss : List Store
    ss = (decides p long (seen p off k) m c).plan.stores

    cut! : Bytes (cut_memory p m).inflight
    cut! = unfold cut_memory in g

    go : Ends p off long k m c → AfterBytes (call_on p off long k m c)
    go (ends_refused a x e) = subst AfterBytes (sym e) (record { image_bytes = h; inflight_bytes = g; block_bytes = b })
    go (ends_done x e) = subst AfterBytes (sym e) (record { image_bytes = stores_disk p k ss h q.stores_bytes; inflight_bytes = q.inflight_bytes; block_bytes = q.block_bytes })
    go (ends_cut x e) = subst AfterBytes (sym e) (record {
      image_bytes = stores_disk p k (take (store_count c) ss) h (λ s i. q.stores_bytes s (in_take (store_count c) ss s i));
      inflight_bytes = cut!;
      block_bytes = b;
    })

-- on an image of bytes a restart reads bytes after its stores, so that its state fits
bytes_restart : (p : Params) (off : List ℕ) (long : Bool) (k : Disk) (m : Memory) (c : Call) → Bytes k.image → Bytes m.inflight → RestartFits p long (seen p off k) m c
bytes_restart p off long k m (write a b n) h g = tt
bytes_restart p off long k m (land d s n) h g = tt
bytes_restart p off long k m (close n) h g = tt
bytes_restart p off long k m (reclaim n) h g = tt
bytes_restart p off long k m (read a) h g = tt
bytes_restart p off long k m (fill a b) h g = tt
bytes_restart p off long k m (restart d n) h g =
    λ q. restart_fits p long (seen p off k) d m.inflight
    (grounded_reads p _ (view_grounded p _ (stores_view (seen p off k) (restart_stores p (seen p off k) (named d) (segments p (seen p off k) (named d)))
    v (plan! (restarts_bytes p (seen p off k) m v g d))))) q
  where
    v : ViewBytes (seen p off k)
    v = view_bytes p off k.image k.pointers h

    plan! : PlanBytes (restart_plan p (seen p off k) d (segments p (seen p off k) (named d)) m.inflight)
        → StoresBytes (restart_stores p (seen p off k) (named d) (segments p (seen p off k) (named d)))
    plan! x = unfold restart_plan in x.stores_bytes
bytes_restart p off long k m (rebuild d n) h g = tt

-- ---- on the lent bytes

-- image, in-flight buffer and state hold bytes
pub record LentBytes (l : Lent) : Type 0 where
  pub image_bytes : Bytes l.image
  pub inflight_bytes : Bytes l.inflight
  pub state_bytes_holds : Bytes l.state

module _ (p : Params) (l : Lent) (c : Call) (h : LentBytes l) (b : Bytes (lent_block c)) where
  fits_on : (long : Bool) → StateFits (call_on p l.offline long (lent_disk l) (lent_memory l) c).memory.state
  unfolding lent_disk lent_memory
  fits_on long = on_fits p l.offline long (lent_disk l) (lent_memory l) c (fits_state_of l.state h.state_bytes_holds)
      (grounded_reads p _ (view_grounded p _ (view_bytes p l.offline l.image l.pointers h.image_bytes)))
      (bytes_restart p l.offline long (lent_disk l) (lent_memory l) c h.image_bytes h.inflight_bytes)

  -- the state that every call leaves fits its bytes
  pub call_fits : StateFits (call_disk p l.offline (lent_disk l) (lent_memory l) c).memory.state
  unfolding call_disk
  call_fits = fits_on (lent_ok_of p l.offline (lent_disk l) (lent_memory l))

  -- and all that it leaves is bytes again
  pub call_bytes_holds : LentBytes (call_bytes p l c).lent × Bytes (call_bytes p l c).block
  unfolding call_bytes left_by lent_all lent_disk lent_memory
  call_bytes_holds = go (is_refused r.answer) (on_bytes_lem p l.offline long (lent_disk l) (lent_memory l) c h.image_bytes h.inflight_bytes b)
    where
      long : Bool
      long = lent_long p l

      r : After Disk
      r = call_on p l.offline long (lent_disk l) (lent_memory l) c

      go : (t : Bool) → AfterBytes r → LentBytes (left_by l r t).lent × Bytes (left_by l r t).block
      go true a = (h, a.block_bytes)
      go false a = (record { image_bytes = a.image_bytes; inflight_bytes = a.inflight_bytes; state_bytes_holds = bytes_state_bytes r.memory.state }, a.block_bytes)

-- ---- simulation

pub refusal_keeps : (p : Params) (off : List ℕ) (k : Disk) (m : Memory) (c : Call) → is_refused (call_disk p off k m c).answer ≡ true
    → call_disk p off k m c ≡ mk_after (call_disk p off k m c).answer k m (lent_block c)
unfolding lent_block
refusal_keeps p off k m (write a b n) = write_keeps p off k m a b n
refusal_keeps p off k m (land d s n) = land_keeps p off k m d s n
refusal_keeps p off k m (close n) = close_keeps p off k m n
refusal_keeps p off k m (reclaim n) = reclaim_keeps p off k m n
refusal_keeps p off k m (read a) = read_keeps p off k m a
refusal_keeps p off k m (fill a b) = fill_keeps p off k m a b
refusal_keeps p off k m (restart d n) = restart_keeps p off k m d n
refusal_keeps p off k m (rebuild d n) = rebuild_keeps p off k m d n

-- what a call of the host leaves, decoded
abbrev pub decoded : Left → After Disk
decoded r = mk_after r.answer (lent_disk r.lent) (lent_memory r.lent) r.block

-- the answer is the same in any case
pub answer_same : (p : Params) (l : Lent) (c : Call) → length l.state ≡ state_len → (call_bytes p l c).answer ≡ (call_disk p l.offline (lent_disk l) (lent_memory l) c).answer
answer_same p l c e = ap (λ (x : Left). x.answer) (bytes_long p l c e) ∙ go (is_refused (call_disk p l.offline (lent_disk l) (lent_memory l) c).answer)
  where
    go : (t : Bool) → (left_by l (call_disk p l.offline (lent_disk l) (lent_memory l) c) t).answer ≡ (call_disk p l.offline (lent_disk l) (lent_memory l) c).answer
    go true = unfold left_by in refl
    go false = unfold left_by in refl

-- where the state has its length and what is left fits, a call on bytes is the call on the decoded state
module _ (p : Params) (l : Lent) (c : Call) (e : length l.state ≡ state_len) (f : StateFits (call_disk p l.offline (lent_disk l) (lent_memory l) c).memory.state) where
  abbrev done : After Disk
  done = call_disk p l.offline (lent_disk l) (lent_memory l) c

  pub simulates : decoded (call_bytes p l c) ≡ call_disk p l.offline (lent_disk l) (lent_memory l) c
  simulates = ap decoded (bytes_long p l c e) ∙ go (is_refused done.answer) refl
    where
      go : (t : Bool) → is_refused done.answer ≡ t → decoded (left_by l done t) ≡ done
      go true q = same ∙ sym (refusal_keeps p l.offline (lent_disk l) (lent_memory l) c q)
        where
          same : decoded (left_by l done true) ≡ mk_after done.answer (lent_disk l) (lent_memory l) (lent_block c)
          same = unfold left_by in ap (λ (x : After Disk). mk_after done.answer (lent_disk l) (lent_memory l) x.block) (refusal_keeps p l.offline (lent_disk l) (lent_memory l) c q)
      go false q = unfold left_by lent_all lent_disk lent_memory in
          ap (λ (s : State). mk_after done.answer done.drives (mk_memory s done.memory.addresses done.memory.compact done.memory.inflight) done.block)
          (state_of_state_bytes done.memory.state (state_sections_counted done.memory.state f) (fitting done.memory.state f))

  -- and leaves the state its length
  pub state_long : length (call_bytes p l c).lent.state ≡ state_len
  state_long = ap (λ (x : Left). length x.lent.state) (bytes_long p l c e) ∙ go (is_refused done.answer)
    where
      go : (t : Bool) → length (left_by l done t).lent.state ≡ state_len
      go true = unfold left_by in e
      go false = unfold left_by lent_all in length-state_bytes done.memory.state f

-- on lent bytes: image, in-flight buffer, state and block hold bytes, and the state has its length
pub simulates_bytes : (p : Params) (l : Lent) (c : Call) → LentBytes l → Bytes (lent_block c) → length l.state ≡ state_len
    → decoded (call_bytes p l c) ≡ call_disk p l.offline (lent_disk l) (lent_memory l) c
simulates_bytes p l c h b e = simulates p l c e (call_fits p l c h b)
