-- The checks of a landing one after the other: each refuses, or leaves it to the next (01, Refusals). Assumes nothing.
use Rattle.std.specs.Prelude.{◌≡◌, refl, Bool, true, false, ◌&&◌, eqb, drop}
use Rattle.std.proofs.Math.Path.{sym, ap}
use Rattle.std.proofs.Common.{◌∙◌, subst, arith}
use mathlib.Core.List.{List, [], ◌∷◌, ◌++◌}
use Rattle.std.proofs.Math.Bool.{cond, not}
use Prim.Native.Nat.{ℕ, suc, ◌≤◌, ◌<◌}
use borrow.Author.Tests.{eq-eqb, ne_eqb, ltb-true}
use Rattle.std.proofs.Math.Dec.{ltb}
use Rattle.spec.specs.declared.Params.{Params}
use Rattle.spec.specs.declared.State.{State}
use Rattle.spec.specs.declared.Answer.{Answer}
use Rattle.spec.specs.declared.Answer.TheVariants.{Refused, BadZone}
use Rattle.spec.specs.Calls.Check.{zones}
use Rattle.spec.specs.Calls.{Check, ninth, first_refusal}
use Rattle.spec.specs.Drives.{View, view_of, Disk, zone_on}
use Rattle.spec.specs.Engine.{lent_ok_of}
use Rattle.spec.specs.Landing.{slot_of, ready, waiting, completes, seals, misplaced, overfull, entry_faults, land_faults, land_checks}
use Rattle.spec.specs.Lists.{Opt, is_nil, cons_if, flat, least}
use Rattle.spec.specs.Lists.Opt.{none, some}
use Rattle.spec.specs.Memory.{Memory, slot_count, filled_in_of, entries_in, state_ok}
use Rattle.spec.specs.Segments.{open_segments, open_segment}
use Rattle.spec.specs.Layout.{Rec}
use Rattle.spec.specs.Params.{data_count, in_range}
use Rattle.law_basic.specs.Geometry.{ranged, data_count_high}
use Rattle.law_views.specs.Views.{seen}
use Rattle.law_calls.specs.Refusals.{rule_fails, rule_passes, state_fault, state_fine, least_zero}
use Rattle.call_land_faults.specs.Lowest.{faults_of, land_faults_are, lowest_refused, low_faults}
use Rattle.law_basic.specs.Ranges.{Test, test, not_both}
use Rattle.law_basic.specs.Ranges.Test.{yes!, no! }
use Rattle.law_basic.specs.Segs.{ZonesLow, low_here}
use Rattle.law_drives.specs.Segs.{remaining-low}
use Rattle.law_drives.specs.Settled.{zero_here}
use Rattle.mem_calls.specs.Listed.{list_rule_of, list_fails, list_passes}
use Rattle.mem_rows.specs.declared.Row.{Row}
use Rattle.mem_rows.specs.Rows.{slot_row}
use Rattle.call_land_chunk.specs.Alone.{alone, row_ready, row_entries, filled-alone}
use Rattle.call_land.specs.declared.Look.{Look}
use Rattle.call_land.specs.declared.Target.{Target}
use Rattle.call_land.specs.Plan.{Looks, LookedAt, TargetAt, look_done, look_seals, seals_done}
use Rattle.call_land.specs.Ready.{opened_remains}
use Rattle.spec.specs.declared.Seg.{Seg}

-- 01, Refusals, 5: what the row says of the chunk
pub waits_row : (p : Params) (st : State) (d s : ℕ) (l : Look) → Looks p st d s l → (ltb d p.N && ltb l.slot slot_count && ready p (alone l.row) 0 d) ≡ waiting p st d s
unfolding waiting
waits_row p st d s l w = go (test (ltb (slot_of st s) slot_count))
  where
    i : ℕ
    i = slot_of st s

    a : Bool
    a = ltb d p.N

    b : Bool
    b = ltb (slot_of st s) slot_count

    same : (x : Bool) → x ≡ false → (a && x && ready p (alone l.row) 0 d) ≡ (a && x && ready p st i d)
    same true q = absurd (not_both true refl q)
    same false q = shut a
      where
        shut : (y : Bool) → (y && false && ready p (alone l.row) 0 d) ≡ (y && false && ready p st i d)
        shut true = refl
        shut false = refl

    go : Test b → (a && ltb l.slot slot_count && ready p (alone l.row) 0 d) ≡ (a && b && ready p st i d)
    go (yes! t) =
        let e : l.row ≡ slot_row st i = w.row (unfold slot_count in ltb-true (slot_of st s) 8 t) in
        (λ j. a && ltb (w.slot j) slot_count && ready p (alone (e j)) 0 d) ∙ ap (λ (x : Bool). a && b && x) (row_ready st i p d)
    go (no! t) = ap (λ (x : ℕ). a && ltb x slot_count && ready p (alone l.row) 0 d) w.slot ∙ same b t

-- ---- 9, behind the state's numbers

module _ (p : Params) (v : View) (m : Memory) (tb : List ℕ) (opened d s : ℕ) (l : Look) (w : LookedAt p m tb opened d s l) (ok : in_range p ≡ true) where
  abbrev g₀ : Seg
  g₀ = open_segment p v m.state

  abbrev i₀ : ℕ
  i₀ = slot_of m.state s

  -- the entries of the row
  abbrev es : List Rec
  es = entries_in (alone l.row) 0

  seven : data_count p ≤ 7
  seven = data_count_high p (ranged p ok)

  pub looked_filled : filled_in_of (alone l.row) 0 ≤ 8
  looked_filled =
      let e : filled_in_of (alone l.row) 0 ≡ filled_in_of m.state i₀ = ap (λ (x : Row). filled_in_of (alone x) 0) (w.looks.row w.slot_low) ∙ filled-alone m.state i₀ in
      omega (arith, e, w.filled-low, seven)

  -- 02, item 4: no remaining segment has the open serial
  pub open_fails : is_nil (open_segments p v m.state) ≡ true → some (BadZone 0) ≡ first_refusal (zones (land_faults p v m d s) ∷ [])
  unfolding land_faults cons_if first_refusal ninth
  open_fails e =
      let zs : List ℕ = cons_if (misplaced p v d (zone_on g₀ d) s) (zone_on g₀ d)
      (cond (seals p m.state i₀ d) (overfull p v d g₀) [] ++ cond (completes p m.state i₀ d) (flat (entry_faults p v m.addresses) (entries_in m.state i₀)) []) in
      sym (ap (λ (x : Bool). first_refusal (zones (cons_if x 0 zs) ∷ [])) e ∙ ap (λ (x : ℕ). some (BadZone x)) (least_zero zs))

  -- one has it
  module _ (t : Target) (o : TargetAt p v m.state d l.done t) where
    open_zones : ZonesLow p 0 (open_segment p v m.state)
    open_zones = remaining-low p v 0 (zero_here p (ranged p ok)) g₀ (opened_remains p v m.state o.some)

    pub looked_zone : d < p.N → t.zone < p.Z
    looked_zone hd = subst (λ (x : ℕ). x < p.Z) (sym o.zone) (low_here p g₀ d open_zones hd)

    order_whole! : l.seals ≡ true → t.segment ≡ open_segment p v m.state
    order_whole! e = o.whole (seals_done p m.state d s l w.looks e)

    pub looked_low : l.seals ≡ true → ZonesLow p 0 t.segment
    looked_low e = subst (λ (x : Seg). ZonesLow p 0 x) (sym (order_whole! e)) open_zones

    -- the bad zones by the row are those of the definition
    order_faults_are : faults_of p v tb (entries_in (alone l.row) 0) d t.zone t.segment s l.done l.seals ≡ land_faults p v m d s
    order_faults_are =
        ap (λ (x : List ℕ). faults_of p v x es d t.zone t.segment s l.done l.seals) (sym w.addresses)
        ∙ land_faults_are p v m d s o.some es t.zone t.segment l.done l.seals
        (ap (λ (x : Row). entries_in (alone x) 0) (w.looks.row w.slot_low) ∙ row_entries m.state i₀ (omega (arith, w.filled-low, seven))) o.zone order_whole!
        (look_done p m.state d s l w.looks w.slot_low) (look_seals p m.state d s l w.looks w.slot_low)

    -- the refusal, by the lowest of them
    pub faults_refused : d < p.N → (y : ℕ) → y ≡ least p.Z (faults_of p v tb (entries_in (alone l.row) 0) d t.zone t.segment s l.done l.seals)
        → first_refusal (zones (cons_if (ltb y p.Z) y []) ∷ []) ≡ first_refusal (zones (land_faults p v m d s) ∷ [])
    faults_refused hd y q =
        let zs = faults_of p v tb es d t.zone t.segment s l.done l.seals in
        ap (λ (x : ℕ). first_refusal (zones (cons_if (ltb x p.Z) x []) ∷ [])) q
        ∙ lowest_refused p.Z zs (low_faults p (ranged p ok) v tb es d t.zone t.segment s l.done l.seals (looked_zone hd) looked_low)
        ∙ ap (λ (x : List ℕ). first_refusal (zones x ∷ [])) order_faults_are

module _ (p : Params) (off : List ℕ) (k : Disk) (m : Memory) (d s : ℕ) where
  -- the first refusal among the checks from the i-th on, counted from 0
  abbrev pub land_from : ℕ → Opt Answer
  land_from i = first_refusal (drop i (land_checks p (lent_ok_of p off k m) (seen p off k) m d s))

  -- the checks after the i-th
  abbrev rest : ℕ → List Check
  rest i = drop (suc i) (land_checks p (lent_ok_of p off k m) (seen p off k) m d s)

  pub land_range_fails : in_range p ≡ false → some (Refused 1) ≡ land_from 0
  unfolding land_checks
  land_range_fails e = sym (rule_fails 1 (not (in_range p)) (rest 0) (ap not e))

  pub land_range_passes : in_range p ≡ true → land_from 1 ≡ land_from 0
  unfolding land_checks
  land_range_passes e = sym (rule_passes 1 (not (in_range p)) (rest 0) (ap not e))

  pub land_lengths_fail : lent_ok_of p off k m ≡ false → some (Refused 2) ≡ land_from 1
  unfolding land_checks
  land_lengths_fail e = sym (rule_fails 2 (not (lent_ok_of p off k m)) (rest 1) (ap not e))

  pub land_lengths_pass : lent_ok_of p off k m ≡ true → land_from 2 ≡ land_from 1
  unfolding land_checks
  land_lengths_pass e = sym (rule_passes 2 (not (lent_ok_of p off k m)) (rest 1) (ap not e))

  -- 02, item 4
  pub land_list_fails : (r : Answer) → some r ≡ list_rule_of p off → some r ≡ land_from 2
  unfolding land_checks view_of
  land_list_fails r e = list_fails p (seen p off k) (rest 3) r e

  pub land_list_passes : none ≡ list_rule_of p off → land_from 4 ≡ land_from 2
  unfolding land_checks view_of
  land_list_passes e = sym (list_passes p (seen p off k) (rest 3) e)

  -- 1 and 2 pass, and 10 and the narrow 1
  pub land_lent : in_range p ≡ true → lent_ok_of p off k m ≡ true → land_from 2 ≡ land_from 0
  land_lent e f = land_lengths_pass f ∙ land_range_passes e

  pub land_listed : in_range p ≡ true → lent_ok_of p off k m ≡ true → none ≡ list_rule_of p off → land_from 4 ≡ land_from 0
  land_listed e f g = land_list_passes g ∙ land_lent e f

  pub land_missing_fails : (m.state.missing ≡ 0 → ⊥) → some (Refused 3) ≡ land_from 4
  unfolding land_checks
  land_missing_fails f = sym (rule_fails 3 (not (eqb m.state.missing 0)) (rest 4) (ap not (ne_eqb m.state.missing 0 f)))

  pub land_missing_passes : m.state.missing ≡ 0 → land_from 5 ≡ land_from 4
  unfolding land_checks
  land_missing_passes f = sym (rule_passes 3 (not (eqb m.state.missing 0)) (rest 4) (ap not (eq-eqb m.state.missing 0 f)))

  pub waiting_fails : waiting p m.state d s ≡ false → some (Refused 5) ≡ land_from 5
  unfolding land_checks
  waiting_fails e = sym (rule_fails 5 (not (waiting p m.state d s)) (rest 5) (ap not e))

  pub waiting_passes : waiting p m.state d s ≡ true → land_from 6 ≡ land_from 5
  unfolding land_checks
  waiting_passes e = sym (rule_passes 5 (not (waiting p m.state d s)) (rest 5) (ap not e))

  pub land_state_fails : state_ok p m.state ≡ false → some (BadZone 0) ≡ land_from 6
  unfolding land_checks first_refusal ninth
  land_state_fails e =
      let zs = land_faults p (seen p off k) m d s in
      sym (ap (λ (x : List ℕ). first_refusal (zones (x ++ zs) ∷ [])) (state_fault p m.state e) ∙ ap (λ (x : ℕ). some (BadZone x)) (least_zero zs))

  -- behind the state's numbers
  pub land_state_passes : state_ok p m.state ≡ true → first_refusal (zones (land_faults p (seen p off k) m d s) ∷ []) ≡ land_from 6
  unfolding land_checks
  land_state_passes e = ap (λ (x : List ℕ). first_refusal (zones (x ++ land_faults p (seen p off k) m d s) ∷ [])) (sym (state_fine p m.state e))
