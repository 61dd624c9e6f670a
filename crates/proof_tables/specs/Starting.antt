-- A finished restart that names a drive missing. Assumes nothing.
use Rattle.std.specs.Prelude.{◌≡◌, true, false, ◌&&◌, ℕ, ◌<◌, eqb, length}
use Rattle.std.proofs.Math.Path.{refl}
use Rattle.std.proofs.Common.{sym, ap, ap₂, ◌∙◌, subst, inl, arith}
use mathlib.Core.List.{List, [], ◌++◌}
use Rattle.spec.specs.Lists.Opt.{none}
use Rattle.spec.specs.declared.Params.{Params}
use Rattle.spec.specs.Calls.{Check, Plan, first_refusal}
use Rattle.spec.specs.Counts.{last_count}
use Rattle.spec.specs.Drives.{View, Store, store_view_of, Disk, store_disk, store_all, above_narrow, few_good, view_of}
use Rattle.spec.specs.Engine.{lent_ok_of}
use Rattle.spec.specs.Lists.{flat}
use Rattle.spec.specs.Memory.{Memory, idle_state, state_ok}
use Rattle.spec.specs.Params.{in_range, inflight_len, named, offline_len}
use Rattle.spec.specs.Restart.{drop_stores, mend_stores, restart_stores, open_of_of, next_of, restart_memory, names_drive, rewrites, restart_checks, restart_plan, none_free_of}
use Rattle.spec.specs.Segments.{Segment, segments, candidates, address_table, compact_table, greatest_stamp, greatest_serial, unsealed}
use Rattle.law_basic.specs.Geometry.{ranged}
use Rattle.law_views.specs.Views.{Whole, seen}
use Rattle.law_drives.specs.Lengths.{lengths_of, whole_of, of_lengths}
use Rattle.law_drives.specs.Accept.{Accepted, in_groups, accepted_apart, named_here}
use Rattle.law_checks.specs.Passed.{restart_passed}
use Rattle.law_drives.specs.Masks.{named-low, named_ones, named_some}
use Rattle.law_drives.specs.States.{idle_ok}
use Rattle.law_drives.specs.Tables.{length_addresses, length_compact}
use Rattle.law_drives.specs.Tests.{cond_false}
use Rattle.law_drives.specs.Spots.{SpotsApart}
use Rattle.law_drives.specs.Zones.{Shaped}
use Rattle.proof_tables.specs.Base.{Decodes, Base}
use Rattle.proof_tables.specs.Run.{Run}
use Rattle.law_basic.specs.Segs.{low_here}
use Rattle.law_drives.specs.Segs.{Here}

-- what a restart's memory says, by its definition
module _ (p : Params) (v : View) (gone : ℕ) (fl : List ℕ) where
  pub memory_missing : (restart_memory p v gone fl).state.missing ≡ gone
  unfolding restart_memory idle_state
  memory_missing = refl

  pub memory_addresses : (restart_memory p v gone fl).addresses ≡ address_table p (candidates p gone (segments p v gone))
  unfolding restart_memory
  memory_addresses = refl

  pub memory_compact : (restart_memory p v gone fl).compact ≡ compact_table p (segments p v gone)
  unfolding restart_memory
  memory_compact = refl

  pub memory_inflight : (restart_memory p v gone fl).inflight ≡ fl
  unfolding restart_memory
  memory_inflight = refl

-- the base of what holds after a restart: k is the disk with its stores made, v its view
pub restarted_base : (p : Params) (off : List ℕ) (k : Disk) (v : View) (gone : ℕ) (fl : List ℕ) → in_range p ≡ true → few_good p off ≡ false → above_narrow p off ≡ false
    → length off ≡ offline_len p → Here p gone → SpotsApart p v gone → Whole p k → seen p off k ≡ v → Shaped p v → length fl ≡ inflight_len p
    → state_ok p (restart_memory p v gone fl).state ≡ true → Decodes p v gone → Base p off k (restart_memory p v gone fl)
restarted_base p off k v gone fl r ge gf ol low_here apart w e sh l st de =
    let m = restart_memory p v gone fl in
    record {
      ranged = r;
      zones_enough = ge;
      addresses_fit = gf;
      low_here = subst (λ (g : ℕ). Here p g) (sym (memory_missing p v gone fl)) low_here;
      apart = subst (λ (x : View). SpotsApart p x m.state.missing) (sym e) (subst (λ (g : ℕ). SpotsApart p v g) (sym (memory_missing p v gone fl)) apart);
      lent = of_lengths p off k m (record {
        offline_ok = ol;
        image_ok = w.image_long;
        pointers_ok = w.pointers_long;
        addresses_ok = ap length (memory_addresses p v gone fl) ∙ length_addresses p (candidates p gone (segments p v gone));
        compact_ok = ap length (memory_compact p v gone fl) ∙ length_compact p v gone low_here;
        inflight_ok = ap length (memory_inflight p v gone fl) ∙ l;
      });
      shaped = subst (λ (x : View). Shaped p x) (sym e) sh;
      state_ok_holds = st;
      addresses_say = memory_addresses p v gone fl ∙ ap₂ (λ (x : View) (g : ℕ). address_table p (candidates p g (segments p x g))) (sym e) (sym (memory_missing p v gone fl));
      compact_says = memory_compact p v gone fl ∙ ap₂ (λ (x : View) (g : ℕ). compact_table p (segments p x g)) (sym e) (sym (memory_missing p v gone fl));
      decodes = subst (λ (x : View). Decodes p x m.state.missing) (sym e) (subst (λ (g : ℕ). Decodes p v g) (sym (memory_missing p v gone fl)) de);
    }

lost_state : (p : Params) (v : View) (gone : ℕ) (fl : List ℕ) → eqb gone 0 ≡ false → (t s : ℕ) × ((restart_memory p v gone fl).state ≡ idle_state 1 gone t s 0 0)
unfolding restart_memory open_of_of next_of
lost_state p v gone fl q =
    let gs = segments p v gone in (
      greatest_stamp (candidates p gone gs),
      greatest_serial gs,
      ap (λ (us : List Segment). idle_state 1 gone (greatest_stamp (candidates p gone gs)) (greatest_serial gs) (open_of_of us) (next_of p us))
          (cond_false (eqb gone 0) (unsealed gs) [] q),
    )

-- the checks of a restart
abbrev pub start_checks : Params → List ℕ → Disk → Memory → ℕ → List Check
start_checks p off k m d = restart_checks p (lent_ok_of p off k m) (seen p off k) d (segments p (seen p off k) (named d))

abbrev pub start_plan : Params → List ℕ → Disk → Memory → ℕ → Plan
start_plan p off k m d = restart_plan p (seen p off k) d (segments p (seen p off k) (named d)) m.inflight

pub record Begins (p : Params) (off : List ℕ) (k : Disk) (m : Memory) (d : ℕ) : Type 0 where
  pub in_range! : in_range p ≡ true
  pub names! : names_drive p d ≡ true
  pub lent! : lent_ok_of p off k m ≡ true
  pub enough! : few_good p off ≡ false
  pub fit! : above_narrow p off ≡ false
  pub accepted! : Accepted p (seen p off k) (named d)
  pub sixth! : rewrites p (named d) (segments p (seen p off k) (named d)) && eqb (greatest_serial (segments p (seen p off k) (named d))) last_count ≡ false
  pub eighth! : rewrites p (named d) (segments p (seen p off k) (named d)) && none_free_of p (seen p off k) (segments p (seen p off k) (named d)) ≡ false

pub start_begins : (p : Params) (off : List ℕ) (k : Disk) (m : Memory) (d : ℕ) → first_refusal (start_checks p off k m d) ≡ none → Begins p off k m d
start_begins p off k m d e =
    let c = restart_passed p (lent_ok_of p off k m) (seen p off k) d (segments p (seen p off k) (named d)) e in
    record {
      in_range! = c.in_range_holds;
      names! = c.names;
      lent! = c.lent;
      enough! = enough! c.zones_enough;
      fit! = fit! c.addresses_fit;
      accepted! = record { pointers_ok = c.pointers_fine; segments_ok = c.segments_fine };
      sixth! = c.serial_left;
      eighth! = c.zone_left;
    }
  where
    enough! : few_good p (seen p off k).offline ≡ false → few_good p off ≡ false
    enough! q = unfold view_of in q

    fit! : above_narrow p (seen p off k).offline ≡ false → above_narrow p off ≡ false
    fit! q = unfold view_of in q

-- the restart that names a drive stores nothing
pub start-lost : (p : Params) (off : List ℕ) (k : Disk) (m : Memory) (d : ℕ) → (Whole p k → Shaped p (seen p off k)) → Begins p off k m d → d < p.N
    → Run p off (store_all (store_disk p) (start_plan p off k m d).stores k) (start_plan p off k m d).memory
start-lost p off k m d sh b hd =
    let v = seen p off k in
    let gone = named d in
    let gs = segments p v gone in
    let rg = ranged p b.in_range! in
    let w = whole_of p off k m b.lent! in
    let ns : eqb gone 0 ≡ false = named_some p rg d hd in
    let s0 : (start_plan p off k m d).stores ≡ [] = no_stores gs ns in
    let em : (start_plan p off k m d).memory ≡ restart_memory p v gone m.inflight = the-memory gs s0 in
    let ek : store_all (store_disk p) (start_plan p off k m d).stores k ≡ k = ap (λ (x : List Store). store_all (store_disk p) x k) s0 ∙ nothing in
    let (t, s, est) = lost_state p v gone m.inflight ns in
    let st : state_ok p (restart_memory p v gone m.inflight).state ≡ true = ap (state_ok p) est
    ∙ idle_ok p rg gone t s 0 0 (named-low p rg d hd) (named_ones p rg d hd) (omega arith) (omega arith) in
    let mm = memory_missing p v gone m.inflight in
    let lh = named_here p rg d hd in
    subst (λ (x : Disk). Run p off x (start_plan p off k m d).memory) (sym ek)
    (subst (λ (x : Memory). Run p off k x) (sym em) (record {
      base = restarted_base p off k v gone m.inflight b.in_range! b.enough! b.fit! (lengths_of p off k m b.lent!).offline_ok lh
          (accepted_apart p v gone b.accepted! lh) w refl (sh w) (lengths_of p off k m b.lent!).inflight_ok st (λ e h. in_groups p v gone b.accepted!);
      mode = inl (record { which = d; which_low = hd; names_it = mm; accepts = subst (λ (g : ℕ). Accepted p v g) (sym mm) b.accepted! });
    }))
  where
    no_stores : (gs : List Segment) → eqb (named d) 0 ≡ false → (restart_plan p (seen p off k) d gs m.inflight).stores ≡ []
    no_stores gs q = unfold restart_plan restart_stores in cond_false (eqb (named d) 0) (drop_stores p (seen p off k) gs ++ flat (mend_stores p (seen p off k) gs) (unsealed gs)) [] q

    the-memory :
        (gs : List Segment)
        → (restart_plan p (seen p off k) d gs m.inflight).stores ≡ []
        → (restart_plan p (seen p off k) d gs m.inflight).memory ≡ restart_memory p (seen p off k) (named d) m.inflight
    the-memory gs q = after gs ∙ ap (λ (x : List Store). restart_memory p (store_all store_view_of x (seen p off k)) (named d) m.inflight) q ∙ none_made
      where
        after :
            (gs : List Segment)
            → (restart_plan p (seen p off k) d gs m.inflight).memory ≡ restart_memory p
            (store_all store_view_of (restart_plan p (seen p off k) d gs m.inflight).stores (seen p off k)) (named d) m.inflight
        after gs = unfold restart_plan in refl

        none_made : restart_memory p (store_all store_view_of [] (seen p off k)) (named d) m.inflight ≡ restart_memory p (seen p off k) (named d) m.inflight
        none_made = unfold store_all in refl

    nothing : store_all (store_disk p) [] k ≡ k
    nothing = unfold store_all in refl
