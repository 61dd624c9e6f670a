-- Demand 2 with the state as a value, put together by induction over the calls from what each crate proves of one call. Assumes nothing.
use Rattle.std.specs.Prelude.{◌≡◌, List, [], ◌∷◌, false, ℕ}
use Rattle.spec.specs.declared.Params.{Params}
use Rattle.spec.specs.Answers.{is_cut_of}
use Rattle.spec.specs.Drives.{Disk}
use Rattle.spec.specs.Engine.{Call, call_disk}
use Rattle.spec.specs.Engine.Call.{write, land, close, reclaim, read, fill, restart, rebuild}
use Rattle.spec.specs.History.{mk_world, seen_at}
use Rattle.spec.specs.Memory.{Memory}
use Rattle.spec.specs.Params.{named}
use Rattle.spec.specs.Segments.{Segment, segments}
use Rattle.proof_flights.specs.Flown.{Flown}
use Rattle.proof_flights.specs.Idled.{flown_read, flown_fill}
use Rattle.proof_flights.specs.LandedCall.{flown_land, lands_say}
use Rattle.proof_flights.specs.Reclaimed.{flown_reclaim}
use Rattle.proof_flights.specs.RestartedCall.{flown_restart, flown_restart_step, flown_rebuild}
use Rattle.proof_flights.specs.Shut.{flown_close, flown_empty}
use Rattle.proof_flights.specs.Written.{flown_write}
use Rattle.proof_rebuilt.specs.Theorem.{rebuilds_say}
use Rattle.spec_demands.specs.Engines.{call_world, on_values, view_in, reads_as}
use Rattle.spec_demands.specs.Layouts.{Layout}
use Rattle.spec_demands.specs.Tables.{Pending, pending_after, found_after, Says, CallSays, SaysOn, AfterRestart}
use Rattle.law_drives.specs.Image.{bytes_of_lem, shaped_of}
use Rattle.law_drives.specs.Zones.{Shaped}
use Rattle.proof_tables.specs.Reading.{run_says}
use Rattle.proof_tables.specs.Run.{Run}
use Rattle.proof_tables.specs.Theorem.{restart_finished, stepped}
use Rattle.law_views.specs.Views.{Whole, seen}
use Rattle.proof_layout.specs.Calls.{KeepsLaid, laid_write, laid_close, laid_empty, laid_read, laid_fill, laid_reclaim, laid_land, laid_rebuild}
use Rattle.proof_layout.specs.Laid.{Laid, layout_of}
use Rattle.proof_layout.specs.Restarts.{restarts_say, laid_first, laid_again}

-- what holds between calls, of the tables, the layout and the stripes in flight
pub record Invariant (p : Params) (off : List ℕ) (k : Disk) (m : Memory) (ws : List Pending) (old : List Segment) : Type 0 where
  pub runs : Run p off k m
  pub laid : Laid p (seen p off k) m.state.missing old
  pub flown : Flown p off k m ws old

-- tables and reads, as the engine over values gives them
pub says_here : (p : Params) (off : List ℕ) (k : Disk) (m : Memory) → Run p off k m → Says (on_values off) p (mk_world k m)
unfolding view_in reads_as call_world seen_at
says_here p off k m u = let s = run_says p off k m u.base in record { addresses_say = s.addresses_say; compact_says = s.compact_says; reads_say = s.reads_say }

layout_here : (p : Params) (off : List ℕ) (k : Disk) (m : Memory) (ws : List Pending) (old : List Segment) → Invariant p off k m ws old
    → Layout p (view_in (on_values off) p (mk_world k m)) m.state.missing old
unfolding view_in
layout_here p off k m ws old h = layout_of p (seen p off k) m.state.missing old h.laid h.flown.parities

-- the layout, by any call
pub laid-step : (p : Params) (off : List ℕ) (k : Disk) (m : Memory) → Run p off k m → (old : List Segment) → Laid p (seen p off k) m.state.missing old
    → (c : Call) → is_cut_of (call_disk p off k m c).answer ≡ false
    → KeepsLaid p off (found_after p (seen p off k) c (call_disk p off k m c).answer old) (call_disk p off k m c)
unfolding found_after
laid-step p off k m u old l (write a [] n) nc = laid_empty p off k m u old l n a nc
laid-step p off k m u old l (write a (x ∷ b) n) nc = laid_write p off k m u old l a x b n nc
laid-step p off k m u old l (land d s n) nc = laid_land p off k m u old l d s n nc
laid-step p off k m u old l (close n) nc = laid_close p off k m u old l n nc
laid-step p off k m u old l (reclaim n) nc = laid_reclaim p off k m u old l n nc
laid-step p off k m u old l (read a) nc = laid_read p off k m u old l a
laid-step p off k m u old l (fill a b) nc = laid_fill p off k m u old l a b
laid-step p off k m u old l (restart d n) nc = laid_again p off k m u old l d n nc
laid-step p off k m u old l (rebuild d n) nc = laid_rebuild p off k m u old l d n nc

-- the stripes in flight, by any call
flown-step : (p : Params) (off : List ℕ) (k : Disk) (m : Memory) → Run p off k m → (ws : List Pending) (old : List Segment) → Flown p off k m ws old
    → (c : Call) → is_cut_of (call_disk p off k m c).answer ≡ false
    → Flown p off (call_disk p off k m c).drives (call_disk p off k m c).memory (pending_after c (call_disk p off k m c).answer ws)
    (found_after p (seen p off k) c (call_disk p off k m c).answer old)
unfolding found_after
flown-step p off k m u ws old f (write a [] n) nc = flown_empty p off k m u ws old f n a nc
flown-step p off k m u ws old f (write a (x ∷ b) n) nc = flown_write p off k m u ws old f a x b n nc
flown-step p off k m u ws old f (land d s n) nc = flown_land p off k m ws old d s n u f nc
flown-step p off k m u ws old f (close n) nc = flown_close p off k m u ws old f n nc
flown-step p off k m u ws old f (reclaim n) nc = flown_reclaim p off k m u ws old f n nc
flown-step p off k m u ws old f (read a) nc = flown_read p off k m u ws old f a nc
flown-step p off k m u ws old f (fill a b) nc = flown_fill p off k m u ws old f a b nc
flown-step p off k m u ws old f (restart d n) nc = flown_restart_step p off k m ws old d n (λ w. u.base.shaped) f nc
flown-step p off k m u ws old f (rebuild d n) nc = flown_rebuild p off k m ws old d n u f nc

call_says : (p : Params) (off : List ℕ) (k : Disk) (m : Memory) (ws : List Pending) (old : List Segment) → Invariant p off k m ws old → (c : Call)
    → CallSays (on_values off) p (mk_world k m) ws c (call_world off p (mk_world k m) c)
unfolding call_world
call_says p off k m ws old h (write a b n) = tt
call_says p off k m ws old h (land d s n) = λ x e. lands_say p off k m ws old d s n h.runs h.flown x e
call_says p off k m ws old h (close n) = tt
call_says p off k m ws old h (reclaim n) = tt
call_says p off k m ws old h (read a) = tt
call_says p off k m ws old h (fill a b) = tt
call_says p off k m ws old h (restart d n) = λ q. restarts_say p off k m d n q
call_says p off k m ws old h (rebuild d n) = λ q. rebuilds_say p off k m h.runs d n q

holds-step : (p : Params) (off : List ℕ) (k : Disk) (m : Memory) (ws : List Pending) (old : List Segment) → Invariant p off k m ws old
    → (c : Call) → is_cut_of (call_disk p off k m c).answer ≡ false
    → Invariant p off (call_disk p off k m c).drives (call_disk p off k m c).memory (pending_after c (call_disk p off k m c).answer ws)
    (found_after p (seen p off k) c (call_disk p off k m c).answer old)
holds-step p off k m ws old h c nc = record {
  runs = (stepped p off k m h.runs c).1 nc;
  laid = laid-step p off k m h.runs old h.laid c nc;
  flown = flown-step p off k m h.runs ws old h.flown c nc;
}

says_on : (p : Params) (off : List ℕ) (k : Disk) (m : Memory) (ws : List Pending) (old : List Segment) → Invariant p off k m ws old
    → (cs : List Call) → SaysOn (on_values off) p (mk_world k m) ws old cs
unfolding call_world view_in
says_on p off k m ws old h [] = (says_here p off k m h.runs, layout_here p off k m ws old h)
says_on p off k m ws old h (c ∷ cs) = (
  says_here p off k m h.runs,
  layout_here p off k m ws old h,
  (stepped p off k m h.runs c).0,
  call_says p off k m ws old h c,
  λ nc. says_on p off (call_disk p off k m c).drives (call_disk p off k m c).memory (pending_after c (call_disk p off k m c).answer ws)
      (found_after p (seen p off k) c (call_disk p off k m c).answer old) (holds-step p off k m ws old h c nc) cs,
)

-- demand 2, with the state as a value
pub after_restart : (off : List ℕ) → AfterRestart (on_values off)
unfolding call_world view_in
after_restart off p w d n cs by q =
    let k = w.disk in
    let m = w.memory in
    let sh : Whole p k → Shaped p (seen p off k) = λ x. shaped_of p off k x (bytes_of_lem k.image by) in
    let a = call_disk p off k m (restart d n) in (
      restarts_say p off k m d n q,
      says_on p off a.drives a.memory [] (segments p (seen p off k) (named d))
          (record { runs = restart_finished p off k m d n sh q; laid = laid_first p off k m d n sh q; flown = flown_restart p off k m d n sh q }) cs,
    )
