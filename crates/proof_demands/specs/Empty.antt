-- Empty drives are accepted: no segment remains, so nothing is wrong with one, and none is rewritten. Assumes nothing.
use Rattle.std.specs.Prelude.{◌≡◌, refl, Bool, false, ◌&&◌, ℕ, ◌<◌, length}
use Rattle.std.proofs.Common.{sym, ◌∙◌, arith}
use Rattle.std.proofs.Math.Path.{ap}
use mathlib.Core.List.{List, [], ◌∷◌, map}
use Rattle.std.proofs.Math.Bool.{true, not, and-false}
use borrow.Author.Tests.{le-ltb, eqb-true, not-true}
use Rattle.std.proofs.Math.Dec.{ltb, eqb}
use Rattle.spec.specs.declared.Params.{Params}
use Rattle.spec.specs.declared.Answer.{Answer}
use Rattle.spec.specs.Answers.{kind, is_refused}
use Rattle.spec.specs.Calls.{After, first_refusal}
use Rattle.spec.specs.Counts.{last_count}
use Rattle.spec.specs.Lists.Opt.{none, some}
use Rattle.spec.specs.Drives.{View, pointer_at, Disk, zone_on, above_narrow, few_good, is_good, list_ok, view_of}
use Rattle.spec.specs.Engine.{lent_ok_of, call_disk, Lent, Left, lent_disk, lent_memory, left_by, call_bytes}
use Rattle.spec.specs.Engine.Call.{restart}
use Rattle.spec.specs.Faults.{pointer_faults, segment_fault, segment_faults}
use Rattle.spec.specs.History.{empty_disk}
use Rattle.spec.specs.Lists.{below, all, any, keep, is_nil, first_or}
use Rattle.spec.specs.Memory.{Memory, state_len}
use Rattle.spec.specs.Params.{in_range, capacity, named, present}
use Rattle.spec.specs.Restart.{is_ragged, names_drive, rewrites, restart_plan, none_free_of}
use Rattle.spec.specs.Segments.{low_drive, left_by1, is_copy, remaining, Segment, segment_of, segments, greatest_serial, unsealed, gathered, leads, lowest_bearing, seg_for, serial_in}
use Rattle.law_basic.specs.Geometry.{Ranged, ranged}
use Rattle.law_basic.specs.Ranges.{and_left, and_right, Test, test}
use Rattle.law_views.specs.Views.{seen}
use Rattle.law_lent.specs.Hosts.{bytes_long}
use Rattle.spec_demands.specs.Histories.{lent_in_order}
use Rattle.proof_crash_items.specs.Start.{start_pointer, start_unused}
use Rattle.law_checks.specs.Passed.{restart_goes}
use Rattle.law_drives.specs.Members.{keep_nothing, in_none, below_in, In, first_in}
use Rattle.proof_tables.specs.Outcomes.{EndedAs}
use Rattle.proof_tables.specs.Outcomes.EndedAs.{ended-refused, ended_done, ended-cut}
use Rattle.proof_tables.specs.Starting.{start_checks, start_plan}
use Rattle.proof_tables.specs.Theorem.{restart_ends}
use Rattle.spec.specs.declared.Seg.{Seg}
use Rattle.law_drives.specs.Gather.{present_in}
use Rattle.law_basic.specs.Ranges.Test.{yes!, no! }

module _ (p : Params) (rg : in_range p ≡ true) (off : List ℕ) (ok : list_ok p off ≡ true) (k : Disk) (e : empty_disk p off k ≡ true) (d : ℕ) where
  abbrev r : Ranged p
  r = ranged p rg

  abbrev v : View
  v = seen p off k

  abbrev low : ℕ
  low = low_drive p (named d)

  -- the lowest present drive is one of the array
  low_there : low_drive p (named d) < p.N
  unfolding low_drive
  low_there = go (present p (named d)) (λ x n. (present_in p (named d) x n).0)
    where
      go : (l : List ℕ) → ((x : ℕ) → In x l → x < p.N) → first_or 0 l < p.N
      go [] h = unfold first_or in omega (arith, r.drives_low)
      go (x ∷ l) h = h (first_or 0 (x ∷ l)) (first_in (x ∷ l) 0 (unfold is_nil in refl))

  -- no zone there is in use
  none_leads : (z : ℕ) → z < p.Z → leads p v low z ≡ false
  unfolding leads
  none_leads z hz = ap (λ (b : Bool). b && eqb (lowest_bearing p v low (serial_in p v low z)) z) (start_unused p r off k e low z low_there hz)

  none_gathered : gathered p v (named d) ≡ []
  unfolding gathered
  none_gathered = ap (map (λ z. seg_for p v (named d) (serial_in p v low z))) (keep_nothing (leads p v low) (below p.Z) (λ z m. none_leads z (below_in p.Z z m)))

  none_left : left_by1 p v (named d) ≡ []
  unfolding left_by1
  none_left = ap (keep (λ g. all (λ x. ltb (zone_on g x) p.Z) (present p (named d)))) none_gathered ∙ (unfold keep in refl)

  none_remains : segments p v (named d) ≡ []
  unfolding segments remaining
  none_remains = ap (λ (l : List Seg). map (segment_of p v (named d)) (keep (λ g. not (is_copy p v (low_drive p (named d)) l g)) l)) none_left ∙ (unfold keep in refl)

  -- no pointer of a good zone is above the capacity
  not_above : (x z : ℕ) → x < p.N → z < p.Z → Test (is_good p off x z) → is_good p v.offline x z && ltb (capacity p) (pointer_at v x z) ≡ false
  unfolding view_of
  not_above x z hx hz (yes! q) =
      ap (λ (b : Bool). is_good p off x z && b) (ap (ltb (capacity p)) (start_pointer p r off k e x z hx hz q) ∙ le-ltb (capacity p) 0 (omega arith)) ∙ and-false (is_good p off x z)
  not_above x z hx hz (no! q) = ap (λ (b : Bool). b && ltb (capacity p) (pointer_at v x z)) q

  no_pointer : pointer_faults p v (named d) ≡ []
  unfolding pointer_faults
  no_pointer = keep_nothing (λ z. any (λ x. is_good p v.offline x z && ltb (capacity p) (pointer_at v x z)) (present p (named d))) (below p.Z) (λ z m.
      in_none (λ x. is_good p v.offline x z && ltb (capacity p) (pointer_at v x z)) (present p (named d)) (λ x n.
      let (hx, hn) = present_in p (named d) x n in
      not_above x z hx (below_in p.Z z m) (test (is_good p off x z))))

  no_segment : (gs : List Segment) → gs ≡ [] → segment_faults p v (named d) gs ≡ []
  unfolding segment_faults keep
  no_segment gs q = ap (λ (l : List Segment). map (λ (g : Segment). zone_on g.seg (low_drive p (named d))) (keep (segment_fault p v (named d) l) l)) q

  no_rewrite : (gs : List Segment) → gs ≡ [] → (b : Bool) → rewrites p (named d) gs && b ≡ false
  unfolding rewrites unsealed keep any
  no_rewrite gs q b = ap (λ (l : List Segment). (eqb (named d) 0 && any (is_ragged p) (unsealed l)) && b) q ∙ ap (λ (x : Bool). x && b) (and-false (eqb (named d) 0))

  list_fine : (few_good p v.offline ≡ false) × (above_narrow p v.offline ≡ false)
  unfolding view_of
  list_fine =
      let q : (not (few_good p off) && not (above_narrow p off)) ≡ true = unfold list_ok in ok in
      (not-true (few_good p off) (and_left (not (few_good p off)) (not (above_narrow p off)) q), not-true (above_narrow p off) (and_right (not (few_good p off)) (not (above_narrow p off)) q))

  checks_pass : (m : Memory) → names_drive p d ≡ true → lent_ok_of p off k m ≡ true → first_refusal (start_checks p off k m d) ≡ none
  checks_pass m nm lo =
      let gs = segments p v (named d) in
      restart_goes p (lent_ok_of p off k m) v d gs (record {
        in_range_holds = rg;
        names = nm;
        lent = lo;
        zones_enough = list_fine.0;
        addresses_fit = list_fine.1;
        pointers_fine = no_pointer;
        segments_fine = no_segment gs none_remains;
        serial_left = no_rewrite gs none_remains (eqb (greatest_serial gs) last_count);
        zone_left = no_rewrite gs none_remains (none_free_of p v gs);
      })

  some_not_none : {X : Type 0} {a : Answer} → some a ≡ none → X
  some_not_none q = absurd (let z : ◌≡◌ {A = ℕ} 0 1 = cc in let y : ⊥ = omega arith in y)

  pub empty_accepted : (m : Memory) (n : ℕ) → names_drive p d ≡ true → lent_ok_of p off k m ≡ true → is_refused (call_disk p off k m (restart d n)).answer ≡ false
  empty_accepted m n nm lo = go (restart_ends p off k m d n)
    where
      go : EndedAs p k m (start_checks p off k m d) (start_plan p off k m d) (call_disk p off k m (restart d n)) → is_refused (call_disk p off k m (restart d n)).answer ≡ false
      go (ended-refused a q f g h) = some_not_none (sym q ∙ checks_pass m nm lo)
      go (ended_done c f g h) = ap is_refused f ∙ (unfold is_refused kind restart_plan in refl)
      go (ended-cut c f) = ap is_refused f ∙ (unfold is_refused kind in refl)

left_answer : (l : Lent) (x : After Disk) (b : Bool) → (left_by l x b).answer ≡ x.answer
unfolding left_by
left_answer l x true = refl
left_answer l x false = refl

-- of the lent bytes
pub accepts_empty : (p : Params) (l : Lent) (d n : ℕ) → lent_in_order p l d ≡ true → empty_disk p l.offline (lent_disk l) ≡ true
    → is_refused (call_bytes p l (restart d n)).answer ≡ false
accepts_empty p l d n o e =
    let k = lent_disk l in
    let m = lent_memory l in
    let off = l.offline in
    let (rg, nm, lo, ok, st) = parts o in
    ap (λ (x : Left). is_refused x.answer) (bytes_long p l (restart d n) st)
    ∙ ap is_refused (left_answer l (call_disk p off k m (restart d n)) (is_refused (call_disk p off k m (restart d n)).answer))
    ∙ empty_accepted p rg off ok k e d m n nm lo
  where
    parts : lent_in_order p l d ≡ true
        → (in_range p ≡ true) × (names_drive p d ≡ true) × (lent_ok_of p l.offline (lent_disk l) (lent_memory l) ≡ true) × (list_ok p l.offline ≡ true) × (length l.state ≡ state_len)
    parts = unfold lent_in_order in (λ q.
        let a = in_range p in
        let b = names_drive p d in
        let c = lent_ok_of p l.offline (lent_disk l) (lent_memory l) in
        let f = list_ok p l.offline in
        let s = eqb (length l.state) state_len in
        let abcf : ((a && b) && c) && f ≡ true = and_left (((a && b) && c) && f) s q in
        let abc : (a && b) && c ≡ true = and_left ((a && b) && c) f abcf in
        let ab : a && b ≡ true = and_left (a && b) c abc in
        (and_left a b ab, and_right a b ab, and_right (a && b) c abc, and_right ((a && b) && c) f abcf, eqb-true (length l.state) state_len (and_right (((a && b) && c) && f) s q)))
