-- With no drive missing: what a call must leave; writes and closings. Assumes nothing.
use Rattle.std.specs.Prelude.{◌≡◌, List, [], ◌∷◌, true, cond, eqb, length, replicate}
use Rattle.std.proofs.Math.Path.{refl}
use Rattle.std.proofs.Common.{sym, ap, ap₂, ◌∙◌, subst, inr, lit<}
use Rattle.std.proofs.Math.Bool.{false}
use Prim.Native.Nat.{ℕ, zero, suc, ◌+◌, ◌-◌, ◌^◌, ◌≤◌, ◌<◌}
use Rattle.std.proofs.lemmas.Bool.{eqb-false}
use native.Mathlib.Omega.{arith}
use Rattle.std.proofs.lemmas.List.{length-replicate}
use Rattle.spec.specs.Lists.Opt.{none}
use Rattle.spec.specs.declared.Params.{Params}
use Rattle.spec.specs.declared.State.{State}
use Rattle.spec.specs.Answers.{kind, is_refused, is_refused_as}
use Rattle.spec.specs.Calls.{Check, first_refusal, decided, outcome}
use Rattle.spec.specs.Closing.{padded, close_checks, close_plan, close_verdict}
use Rattle.spec.specs.Counts.{padding_address, last_count}
use Rattle.spec.specs.Drives.{View, pointer_at, Store, store_view_of, Disk, store_disk, store_all, above_narrow, empty_count, few_good}
use Rattle.spec.specs.Engine.{store_count, lent_block, verdict, lent_ok_of, call_on, call_disk}
use Rattle.spec.specs.Engine.Call.{write, close}
use Rattle.spec.specs.Lists.{keep, is_in}
use Rattle.spec.specs.Memory.{Memory, mk_memory, filled_in_of, filling_slot, has_filling, set_stamp, add_entry}
use Rattle.spec.specs.Params.{data_count, in_range, inflight_len, offline_len}
use Rattle.spec.specs.Segments.{segments, candidates, address_table, compact_table}
use Rattle.spec.specs.Write.{opens, no_stamp, scarce, placed, sending, write_checks, write_plan, write_verdict_in}
use Rattle.law_basic.specs.Be.{be_room}
use Rattle.law_basic.specs.Geometry.{Ranged, ranged, addresses_all}
use Rattle.law_basic.specs.Mask.{is_in_empty}
use Rattle.law_views.specs.Views.{Whole, seen, view_stores, whole_stores}
use Rattle.law_drives.specs.Lengths.{lengths_of, whole_of, of_lengths}
use Rattle.law_checks.specs.Passed.{write_passed, write_mild, close_passed, close_mild}
use Rattle.law_drives.specs.Members.{In}
use Rattle.law_drives.specs.Range.{capacity_word}
use Rattle.law_drives.specs.States.{StateOk, state_of_lem, of_state}
use Rattle.law_drives.specs.Tables.{length_addresses, length_compact}
use Rattle.law_drives.specs.Tests.{clash}
use Rattle.law_drives.specs.Spots.{SpotsApart}
use Rattle.law_drives.specs.Zones.{Shaped, hits, Room, Within, Roomy, all_fit, shaped_after}
use Rattle.proof_tables.specs.Carried.{stamp_healthy, stamp_ok}
use Rattle.proof_tables.specs.Filling.{placed_inflight_long, add_ok, fill-healthy}
use Rattle.proof_tables.specs.Live.{table_clear}
use Rattle.proof_tables.specs.Losing.{refused-kept, cut-kept}
use Rattle.proof_tables.specs.Outcomes.{EndedAs, outcome_ends}
use Rattle.proof_tables.specs.Outcomes.EndedAs.{ended-refused, ended_done, ended-cut}
use Rattle.proof_tables.specs.Run.{flies, HealthyState, Well, Run, Kept}
use Rattle.proof_tables.specs.Sending.{filling-flies, SentOk, sent_ok, plenty}
use Rattle.proof_tables.specs.Slots.{filled-added, some_flies}
use Rattle.law_basic.specs.Segs.{low_here}
use Rattle.law_drives.specs.Segs.{Here}
use Rattle.law_drives.specs.Settled.{zero_here}
use Rattle.law_drives.specs.Spots.{none_apart}

-- stores made and a memory that goes with the view after them
pub well_run : (p : Params) (off : List ℕ) (k : Disk) (ss : List Store) (m : Memory) → in_range p ≡ true → few_good p off ≡ false → above_narrow p off ≡ false
    → length off ≡ offline_len p → Whole p k → Shaped p (seen p off k) → Roomy p (seen p off k) ss
    → ((s : Store) → In s ss → Within p s)
    → m.state.missing ≡ 0 → StateOk p m.state → HealthyState p (store_all store_view_of ss (seen p off k)) m.state
    → m.addresses ≡ address_table p (candidates p 0 (segments p (store_all store_view_of ss (seen p off k)) 0))
    → m.compact ≡ compact_table p (segments p (store_all store_view_of ss (seen p off k)) 0) → length m.inflight ≡ inflight_len p
    → Run p off (store_all (store_disk p) ss k) m
well_run p off k ss m ir ge gf ol w sh ro wi ms so he ad co fl =
    let r = ranged p ir in
    let fit = all_fit p (seen p off k) ss sh.sized wi ro in
    let ev = view_stores p off k ss (capacity_word p r) w fit in
    let w' = whole_stores p off k ss (capacity_word p r) w fit in
    let u = store_all store_view_of ss (seen p off k) in
    let k' = store_all (store_disk p) ss k in
    record {
      base = record {
        ranged = ir;
        lent = of_lengths p off k' m (record {
          offline_ok = ol;
          image_ok = w'.image_long;
          pointers_ok = w'.pointers_long;
          addresses_ok = ap length ad ∙ length_addresses p (candidates p 0 (segments p u 0));
          compact_ok = ap length co ∙ length_compact p u 0 (zero_here p r);
          inflight_ok = fl;
        });
        zones_enough = ge;
        addresses_fit = gf;
        low_here = subst (λ (g : ℕ). Here p g) (sym ms) (zero_here p r);
        apart = subst (λ (g : ℕ). SpotsApart p (seen p off k') g) (sym ms) (none_apart p (seen p off k'));
        shaped = subst (λ (x : View). Shaped p x) (sym ev) (shaped_after p (seen p off k) ss sh ro);
        state_ok_holds = of_state p m.state so;
        addresses_say = ad ∙ ap₂ (λ (x : View) (g : ℕ). address_table p (candidates p g (segments p x g))) (sym ev) (sym ms);
        compact_says = co ∙ ap₂ (λ (x : View) (g : ℕ). compact_table p (segments p x g)) (sym ev) (sym ms);
        decodes = λ d q. clash q (ap (λ (x : ℕ). is_in x d) ms ∙ is_in_empty d);
      };
      mode = inr (record { none_missing = ms; healthy = subst (λ (x : View). HealthyState p x m.state) (sym ev) he });
    }

pub address_small : (p : Params) → in_range p ≡ true → (a : ℕ) → a < p.L → a < 256 ^ 8
address_small p q a h = let x = addresses_all p (ranged p q) in omega arith

module _ (p : Params) (off : List ℕ) (k : Disk) (m : Memory) (u : Run p off k m) (we : Well p off k m) where
  abbrev v : View
  v = seen p off k

  abbrev st : State
  st = m.state

  rg : Ranged p
  rg = ranged p u.base.ranged

  so : StateOk p st
  so = state_of_lem p rg st u.base.state_ok_holds

  wh : Whole p k
  wh = whole_of p off k m u.base.lent

  pub address_table_holds : m.addresses ≡ address_table p (candidates p 0 (segments p v 0))
  address_table_holds = u.base.addresses_say ∙ ap (λ (g : ℕ). address_table p (candidates p g (segments p v g))) we.none_missing

  pub compact_table_holds : m.compact ≡ compact_table p (segments p v 0)
  compact_table_holds = u.base.compact_says ∙ ap (λ (g : ℕ). compact_table p (segments p v g)) we.none_missing

  pub buffer_long : length m.inflight ≡ inflight_len p
  buffer_long = (lengths_of p off k m u.base.lent).inflight_ok

  pub offline_long : length off ≡ offline_len p
  offline_long = (lengths_of p off k m u.base.lent).offline_ok

  -- a sent block, in a memory whose state may have another stamp
  pub sent_run : (su sw : State) (ss : List Store) (fl : List ℕ) → SentOk p v st su ss fl → sw.missing ≡ su.missing → StateOk p sw → HealthyState p (store_all store_view_of ss v) sw
      → Run p off (store_all (store_disk p) ss k) (mk_memory sw m.addresses m.compact fl)
  sent_run su sw ss fl s e sok he =
      well_run p off k ss (mk_memory sw m.addresses m.compact fl) u.base.ranged u.base.zones_enough u.base.addresses_fit
      offline_long wh u.base.shaped s.has_room s.all_within (e ∙ s.missing_after ∙ we.none_missing) sok he
      (address_table_holds ∙ s.addresses_after) (compact_table_holds ∙ s.compact_after) s.buffer_after

  -- ---- write

  module _ (a n x : ℕ) (more : List ℕ) where
    abbrev b : List ℕ
    b = x ∷ more

    abbrev checks : List Check
    checks = write_checks p (lent_ok_of p off k m) v m a b

    run_written : first_refusal checks ≡ none → (x : Disk) → x ≡ store_all (store_disk p) (write_plan p v m a b).stores k → Run p off x (write_plan p v m a b).memory
    run_written e x ex =
        let c = write_passed p (lent_ok_of p off k m) v m a b e in
        let t = suc st.stamp.0 in
        let ha : a < 256 ^ 8 = address_small p u.base.ranged a c.address_low in
        let ht : t < 256 ^ 8 = (let nl = eqb-false st.stamp.0 last_count (stamp_left c.stamp_left) in let f = we.healthy.stamp_fits in omega arith) in
        let s = sent_ok p rg v u.base.shaped st we.healthy so m.inflight buffer_long a t 1 b ha ht (omega arith) c.block_long c.no_wait c.serial_left (λ q. zones_left c.room) in
        let q = sending p v st m.inflight a t 1 b in
        subst (λ (y : Disk). Run p off y (write_plan p v m a b).memory) (sym (ex ∙ ap (λ (l : List Store). store_all (store_disk p) l k) stores_is))
        (subst (λ (y : Memory). Run p off (store_all (store_disk p) q.stores k) y) (sym memory_is)
        (sent_run q.state (set_stamp q.state t) q.stores q.inflight s (missing_same q.state t)
        (stamp_ok p q.state t s.state_after_holds) (stamp_healthy p (store_all store_view_of q.stores v) q.state t ht s.healthy_after)))
      where
        stamp_left : no_stamp st ≡ false → eqb st.stamp.0 last_count ≡ false
        stamp_left q = unfold no_stamp in q

        zones_left : scarce p v (cond (opens p st) 2 1) ≡ false → 1 ≤ empty_count p v
        zones_left q = plenty p v (cond (opens p st) 2 1) q

        stores_is : (write_plan p v m a b).stores ≡ (sending p v st m.inflight a (suc st.stamp.0) 1 b).stores
        stores_is = unfold write_plan in refl

        memory_is :
            (write_plan p v m a b).memory
            ≡ mk_memory (set_stamp (sending p v st m.inflight a (suc st.stamp.0) 1 b).state (suc st.stamp.0)) m.addresses m.compact
            (sending p v st m.inflight a (suc st.stamp.0) 1 b).inflight
        memory_is = unfold write_plan in refl

        missing_same : (s : State) (t : ℕ) → (set_stamp s t).missing ≡ s.missing
        missing_same s t = unfold set_stamp in refl

    pub well_write : Kept p off (call_disk p off k m (write a b n))
    unfolding call_disk call_on verdict store_count lent_block write_verdict_in
    well_write = go (outcome_ends p k m checks (write_plan p v m a b) n b)
      where
        mild_sent : is_refused_as 9 (write_plan p v m a b).answer ≡ false
        mild_sent = unfold write_plan is_refused_as is_refused kind in refl

        go :
            EndedAs p k m checks (write_plan p v m a b) (outcome p (store_disk p) n k m b (decided (first_refusal checks) (write_plan p v m a b)))
            → Kept p off (outcome p (store_disk p) n k m b (decided (first_refusal checks) (write_plan p v m a b)))
        go (ended-refused x e f g h) = refused-kept p off k m _ x u (write_mild p (lent_ok_of p off k m) v m a b u.base.state_ok_holds x e) f g h
        go (ended_done c f g h) = record {
          never_ninth = ap (is_refused_as 9) f ∙ mild_sent;
          runs_on = λ x. subst (λ (y : Memory). Run p off (outcome p (store_disk p) n k m b (decided (first_refusal checks) (write_plan p v m a b))).drives y) (sym h) (run_written c _ g);
        }
        go (ended-cut c f) = cut-kept p off _ f

  -- ---- closing

  module _ (n : ℕ) where
    abbrev close_list : List Check
    close_list = close_checks p (lent_ok_of p off k m) v m

    pub record PadOk (su : State) (fl : List ℕ) : Type 0 where
      pub pad_healthy : HealthyState p v su
      pub pad_state : StateOk p su
      pub pad_long : length fl ≡ inflight_len p
      pub pad_missing : su.missing ≡ st.missing

    padding_ok : (i x : ℕ) (su : State) (fl : List ℕ) → i < 8 → flies su i ≡ true → filled_in_of su i + x ≤ data_count p → PadOk su fl
        → PadOk (padded p i x su fl).state (padded p i x su fl).inflight
    unfolding padded placed
    padding_ok i zero su fl hi fi l o = o
    padding_ok i (suc x) su fl hi fi l o =
        let sw = add_entry su i padding_address 0 0 in
        let room : filled_in_of su i < data_count p = omega arith in
        let ls = o.pad_healthy.lists in
        padding_ok i x sw (placed p su fl i padding_address 0 0 (replicate p.B 0)).inflight hi
        (some_flies sw i (λ q. let e = filled-added su ls i hi padding_address 0 0 in let z : ⊥ = omega arith in z))
        (let e = filled-added su ls i hi padding_address 0 0 in omega arith)
        (record {
          pad_healthy = fill-healthy p rg v su i padding_address 0 0 o.pad_healthy o.pad_state hi fi room (lit< tt) (lit< tt);
          pad_state = add_ok p rg su ls o.pad_state i hi padding_address 0 0 room (omega arith);
          pad_long = placed_inflight_long p rg su fl i padding_address 0 0 (replicate p.B 0) o.pad_long hi room (length-replicate p.B 0);
          pad_missing = missing_same i su ∙ o.pad_missing;
        })
      where
        missing_same : (i : ℕ) (su : State) → (add_entry su i padding_address 0 0).missing ≡ su.missing
        missing_same i su = unfold add_entry in refl

    run_closed : first_refusal close_list ≡ none → (x : Disk) → x ≡ store_all (store_disk p) (close_plan p m).stores k → Run p off x (close_plan p m).memory
    run_closed e x ex =
        let f : has_filling p st ≡ true = (close_passed p (lent_ok_of p off k m) v m e).filling in
        let (hi, fi, be_room) = filling-flies p st f in
        let i = filling_slot p st in
        let q = padded p i (data_count p - filled_in_of st i) st m.inflight in
        let o : PadOk q.state q.inflight = padding_ok i (data_count p - filled_in_of st i) st m.inflight hi fi (omega arith)
        (record { pad_healthy = we.healthy; pad_state = so; pad_long = buffer_long; pad_missing = refl }) in
        subst (λ (y : Disk). Run p off y (close_plan p m).memory) (sym (ex ∙ ap (λ (l : List Store). store_all (store_disk p) l k) stores_is))
        (subst (λ (y : Memory). Run p off (store_all (store_disk p) [] k) y) (sym memory_is)
        (well_run p off k [] (mk_memory q.state m.addresses m.compact q.inflight) u.base.ranged u.base.zones_enough u.base.addresses_fit
        offline_long wh u.base.shaped (λ d z hd hz. none_room d z) (λ s m. absurd m)
        (o.pad_missing ∙ we.none_missing) o.pad_state (subst (λ (y : View). HealthyState p y q.state) (sym nothing) o.pad_healthy)
        (address_table_holds ∙ ap (λ (y : View). address_table p (candidates p 0 (segments p y 0))) (sym nothing))
        (compact_table_holds ∙ ap (λ (y : View). compact_table p (segments p y 0)) (sym nothing)) o.pad_long))
      where
        stores_is : (close_plan p m).stores ≡ []
        stores_is = unfold close_plan in refl

        memory_is :
            (close_plan p m).memory
            ≡ mk_memory (padded p (filling_slot p st) (data_count p - filled_in_of st (filling_slot p st)) st m.inflight).state m.addresses
            m.compact (padded p (filling_slot p st) (data_count p - filled_in_of st (filling_slot p st)) st m.inflight).inflight
        memory_is = unfold close_plan in refl

        nothing : store_all store_view_of [] v ≡ v
        nothing = unfold store_all in refl

        none_room : (d z : ℕ) → Room p (pointer_at v d z) (hits d z [])
        none_room d z = unfold keep in tt

    pub well_close : Kept p off (call_disk p off k m (close n))
    unfolding call_disk call_on verdict store_count lent_block close_verdict
    well_close = go (outcome_ends p k m close_list (close_plan p m) n [])
      where
        mild_closed : is_refused_as 9 (close_plan p m).answer ≡ false
        mild_closed = unfold close_plan is_refused_as is_refused kind in refl

        go :
            EndedAs p k m close_list (close_plan p m) (outcome p (store_disk p) n k m [] (decided (first_refusal close_list) (close_plan p m)))
            → Kept p off (outcome p (store_disk p) n k m [] (decided (first_refusal close_list) (close_plan p m)))
        go (ended-refused x e f g h) =
            refused-kept p off k m _ x u (close_mild p (lent_ok_of p off k m) v m u.base.state_ok_holds (λ z. table_clear p rg v m.addresses address_table_holds) x e) f g h
        go (ended_done c f g h) = record {
          never_ninth = ap (is_refused_as 9) f ∙ mild_closed;
          runs_on = λ x. subst (λ (y : Memory). Run p off (outcome p (store_disk p) n k m [] (decided (first_refusal close_list) (close_plan p m))).drives y) (sym h) (run_closed c _ g);
        }
        go (ended-cut c f) = cut-kept p off _ f
