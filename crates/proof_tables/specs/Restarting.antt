-- A finished restart that names no drive; a restart in general. Assumes nothing.
use Rattle.std.specs.Prelude.{◌≡◌, List, ◌++◌, true, false, ◌&&◌, ◌⊎◌, ℕ, ◌≤◌, ◌<◌, ltb, eqb, length}
use Rattle.std.proofs.Math.Path.{refl}
use Rattle.std.proofs.Common.{sym, ap, ap₂, ◌∙◌, subst, inl, inr, ⊎_elim, ltb-true, eqb-true, lit≤}
use Rattle.spec.specs.declared.Params.{Params}
use Rattle.spec.specs.Counts.{last_count}
use Rattle.spec.specs.Drives.{View, Store, store_view_of, Disk, store_disk, store_all}
use Rattle.spec.specs.Lists.{flat}
use Rattle.spec.specs.Memory.{Memory}
use Rattle.spec.specs.Params.{no_drive, named}
use Rattle.spec.specs.Restart.{drop_stores, mend_stores, restart_stores, restart_memory, names_drive, rewrites, restart_plan, none_free_of}
use Rattle.spec.specs.Segments.{Segment, segments, candidates, address_table, compact_table, greatest_serial, unsealed}
use Rattle.law_basic.specs.Geometry.{Ranged, ranged}
use Rattle.law_basic.specs.Mask.{only_none}
use Rattle.law_basic.specs.Stores.{store_all-append}
use Rattle.law_views.specs.Views.{Whole, seen}
use Rattle.law_drives.specs.Accept.{Accepted}
use Rattle.law_drives.specs.Joins.{roomy_append, within_append}
use Rattle.law_drives.specs.Lengths.{lengths_of, whole_of}
use Rattle.law_drives.specs.Mended.{mended, serials-small}
use Rattle.law_drives.specs.States.{state_of_lem}
use Rattle.law_drives.specs.Tests.{or_cases}
use Rattle.law_drives.specs.Zones.{Shaped, shaped_after}
use Rattle.proof_tables.specs.Going.{well_run}
use Rattle.proof_tables.specs.Resting.{rest_healthy}
use Rattle.proof_tables.specs.Run.{HealthyState, Run}
use Rattle.proof_tables.specs.Starting.{memory_missing, memory_addresses, memory_compact, memory_inflight, start_plan, Begins, start-lost}
use Rattle.law_drives.specs.Mending.{drop_roomy, drop_within}

-- ---- a restart that names none

pub well_start : (p : Params) (off : List ℕ) (k : Disk) (m : Memory) (d : ℕ) → (Whole p k → Shaped p (seen p off k)) → Begins p off k m d → named d ≡ 0
    → Run p off (store_all (store_disk p) (start_plan p off k m d).stores k) (start_plan p off k m d).memory
well_start p off k m d shk b nd =
    let r = ranged p b.in_range! in
    let w = whole_of p off k m b.lent! in
    let sh = shk w in
    let v = seen p off k in
    let gs = segments p v 0 in
    let acc : Accepted p v 0 = subst (λ (g : ℕ). Accepted p v g) nd b.accepted! in
    let ds = drop_stores p v gs in
    let ts = flat (mend_stores p v gs) (unsealed gs) in
    let va = store_all store_view_of ds v in
    let md = mended p r v sh acc (subst (λ (g : ℕ). rewrites p g (segments p v g) && eqb (greatest_serial (segments p v g)) last_count ≡ false) nd b.sixth!)
    (subst (λ (g : ℕ). rewrites p g (segments p v g) && none_free_of p v (segments p v g) ≡ false) nd b.eighth!) (serials-small p r v sh) in
    let v2 = store_all store_view_of ts va in
    let ss = ds ++ ts in
    let ev : store_all store_view_of ss v ≡ v2 = store_all-append store_view_of ds ts v in
    let room = roomy_append p v ds ts sh.sized (drop_roomy p r v sh acc) md.mend_roomy in
    let sh2 : Shaped p v2 = subst (λ (x : View). Shaped p x) ev (shaped_after p v ss sh room) in
    let (hk, sk) = rest_healthy p r v2 sh2 md.mend_bound md.mend_tidy md.mend_rest m.inflight in
    let mem = restart_memory p v2 0 m.inflight in
    let es : (start_plan p off k m d).stores ≡ ss = stores_are gs in
    let em : (start_plan p off k m d).memory ≡ mem =
    memory_is
    ∙ ap₂ (λ (l : List Store) (g : ℕ). restart_memory p (store_all store_view_of l v) g m.inflight) es nd
    ∙ ap (λ (x : View). restart_memory p x 0 m.inflight) ev in
    let so = state_of_lem p r mem.state sk in
    subst (λ (l : List Store). Run p off (store_all (store_disk p) l k) (start_plan p off k m d).memory) (sym es)
    (subst (λ (x : Memory). Run p off (store_all (store_disk p) ss k) x) (sym em)
    (well_run p off k ss mem b.in_range! b.enough! b.fit! (lengths_of p off k m b.lent!).offline_ok w sh room
    (within_append p ds ts (drop_within p r v sh acc) md.mend_within) (memory_missing p v2 0 m.inflight) so
    (subst (λ (x : View). HealthyState p x mem.state) (sym ev) hk)
    (memory_addresses p v2 0 m.inflight ∙ ap (λ (x : View). address_table p (candidates p 0 (segments p x 0))) (sym ev))
    (memory_compact p v2 0 m.inflight ∙ ap (λ (x : View). compact_table p (segments p x 0)) (sym ev))
    (ap length (memory_inflight p v2 0 m.inflight) ∙ (lengths_of p off k m b.lent!).inflight_ok)))
  where
    plan! : (g : ℕ) → named d ≡ g → (start_plan p off k m d).stores ≡ restart_stores p (seen p off k) g (segments p (seen p off k) g)
    plan! g e = as! ∙ ap (λ (n : ℕ). restart_stores p (seen p off k) n (segments p (seen p off k) n)) e
      where
        as! : (start_plan p off k m d).stores ≡ restart_stores p (seen p off k) (named d) (segments p (seen p off k) (named d))
        as! = unfold restart_plan in refl

    stores_are : (gs : List Segment) → (start_plan p off k m d).stores
        ≡ drop_stores p (seen p off k) (segments p (seen p off k) 0) ++ flat (mend_stores p (seen p off k) (segments p (seen p off k) 0)) (unsealed (segments p (seen p off k) 0))
    stores_are gs = plan! 0 nd ∙ zero!
      where
        zero! : restart_stores p (seen p off k) 0 (segments p (seen p off k) 0)
            ≡ drop_stores p (seen p off k) (segments p (seen p off k) 0) ++ flat (mend_stores p (seen p off k) (segments p (seen p off k) 0)) (unsealed (segments p (seen p off k) 0))
        zero! = unfold restart_stores in refl

    memory_is : (start_plan p off k m d).memory ≡ restart_memory p (store_all store_view_of (start_plan p off k m d).stores (seen p off k)) (named d) m.inflight
    memory_is = unfold restart_plan in refl

-- ---- any restart

pub names_or_none : (p : Params) → Ranged p → (d : ℕ) → names_drive p d ≡ true → (d < p.N) ⊎ (named d ≡ 0)
names_or_none p r d q = ⊎_elim (λ x. inl (ltb-true d p.N x)) (λ x. inr (none! (eqb-true d no_drive x))) (parts q)
  where
    parts : names_drive p d ≡ true → (ltb d p.N ≡ true) ⊎ (eqb d no_drive ≡ true)
    parts q = unfold names_drive in or_cases (ltb d p.N) (eqb d no_drive) q

    is_255 : no_drive ≡ 255
    is_255 = unfold no_drive in refl

    none! : d ≡ no_drive → named d ≡ 0
    none! e = unfold named in only_none d (subst (λ (n : ℕ). 8 ≤ n) (sym (e ∙ is_255)) (lit≤ tt))

pub run-started :
    (p : Params) (off : List ℕ) (k : Disk) (m : Memory) (d : ℕ)
    → (Whole p k → Shaped p (seen p off k))
    → Begins p off k m d
    → Run p off (store_all (store_disk p) (start_plan p off k m d).stores k) (start_plan p off k m d).memory
run-started p off k m d sh b = ⊎_elim (λ x. start-lost p off k m d sh b x) (λ x. well_start p off k m d sh b x) (names_or_none p (ranged p b.in_range!) d b.names!)
