-- What is so where no check of a reclaim holds, and its three ends (01, Reclaim; Store count). Assumes nothing.
use Rattle.std.specs.Prelude.{ℕ, ◌<◌, length, true, false, cond, ◌&&◌, ◌≡◌}
use Rattle.spec.specs.Calls.{Plan, decided, mk_after, outcome}
use Rattle.spec.specs.Calls.Verdict.{due}
use Rattle.spec.specs.Counts.{last_count}
use Rattle.spec.specs.Drives.{View, Disk, store_disk, empty_count}
use Rattle.spec.specs.Engine.{store_count, lent_block, verdict, lent_ok_of, call_on, call_disk}
use Rattle.spec.specs.Engine.Call.{reclaim}
use Rattle.spec.specs.Lists.{Opt, is_nil, first_or}
use Rattle.spec.specs.Lists.Opt.{none, some}
use Rattle.spec.specs.Memory.{Memory, mk_memory}
use Rattle.spec.specs.Params.{in_range, offline_len, addresses_len, compact_len, inflight_len}
use Rattle.spec.specs.Reclaim.{Victim, victim, victim_segment, victim_live, idle, reclaim_checks, reset_plan, copy_plan, reclaim_verdict_in}
use Rattle.spec.specs.Write.{opens, no_serial, scarce}
use Rattle.spec.specs.declared.Params.{Params}
use Rattle.spec.specs.declared.State.{State}
use Rattle.law_calls.specs.Refusals.{call_refused, next_low}
use Rattle.law_basic.specs.Ranges.{and_both, not_both}
use Rattle.law_checks.specs.Passed.{ReclaimPassed, reclaim_passed}
use Rattle.call_reclaim.specs.Choosing.{reclaim_refusal}
use Rattle.call_copy.specs.Copying.{CopyReady}
use Rattle.mem_rows.specs.Refused.{refused_state}
use Rattle.mem_rows.specs.Rows.{after_change}
use Rattle.mem_rows.specs.declared.Change.{Change}
use Rattle.law_views.specs.Views.{Whole, seen}
use Rattle.call_write.specs.Ready.{lent_long_lem}
use Rattle.std.proofs.Common.{eq-eqb, leb-false, ◌∙◌, arith}
use Rattle.std.proofs.Math.Dec.{eqb}
use mathlib.Core.List.{List, []}
use Rattle.std.proofs.Math.Path.{sym, ap}
use Rattle.spec.specs.declared.Seg.{Seg}

-- 01, Refusals, 8: not scarce
one_left : (p : Params) (v : View) → scarce p v 1 ≡ false → 0 < empty_count p v
unfolding scarce
one_left p v h = omega (arith, leb-false (empty_count p v) 1 h)

module _ (p : Params) (off : List ℕ) (k : Disk) (m : Memory) (none! : reclaim_refusal p off k m ≡ none) where
  abbrev w : Opt Victim
  w = victim p (seen p off k) m.addresses

  -- parameters and lengths
  pub record ReclaimLengths : Type 0 where
    pub in_range_holds : in_range p ≡ true
    pub whole : Whole p k
    pub offline_long : length off ≡ offline_len p
    pub addresses_long : length m.addresses ≡ addresses_len p
    pub compact_long : length m.compact ≡ compact_len p
    pub inflight_long : length m.inflight ≡ inflight_len p

  reclaim_checks_passed : ReclaimPassed p (lent_ok_of p off k m) (seen p off k) m w
  reclaim_checks_passed = reclaim_passed p (lent_ok_of p off k m) (seen p off k) m w none!

  pub lent : ReclaimLengths
  lent =
      let l = lent_long_lem p off k m reclaim_checks_passed.lent in
      record {
        in_range_holds = reclaim_checks_passed.in_range_holds;
        whole = record { image_long = l.0; pointers_long = l.1 };
        offline_long = l.5;
        addresses_long = l.2;
        compact_long = l.3;
        inflight_long = l.4;
      }

  -- 01, Refusals, 6 to 9: what is left to check of a copy
  pub copy_ready : is_nil (victim_live w) ≡ false → CopyReady p off k m
  unfolding no_serial
  copy_ready d =
      let st = m.state in
      let v = seen p off k in
      let l = lent in
      record {
        in_range_holds = l.in_range_holds;
        whole = l.whole;
        offline_long = l.offline_long;
        addresses_long = l.addresses_long;
        compact_long = l.compact_long;
        inflight_long = l.inflight_long;
        serial_left = λ q s. not_both (opens p st && eqb st.serial.0 last_count) (and_both (opens p st) (eqb st.serial.0 last_count) q (eq-eqb st.serial.0 last_count s))
            (reclaim_checks_passed.serial_left d);
        waits = reclaim_checks_passed.no_wait d;
        empties = λ q. one_left p v (reclaim_checks_passed.room d q);
        next_high = next_low p st reclaim_checks_passed.state_fine;
      }

-- ---- the three ends

module _ (p : Params) (off : List ℕ) (k : Disk) (m : Memory) (n : ℕ) where
  abbrev w! : Opt Victim
  w! = victim p (seen p off k) m.addresses

  abbrev both : Plan
  both = cond (is_nil (victim_live w!)) (reset_plan p m (victim_segment w!)) (copy_plan p (seen p off k) m (first_or 0 (idle p (seen p off k) m.state w!)))

  -- 01, Store count: a refusal changes nothing
  pub reclaim_refused : (c : Change) → reclaim_refusal p off k m ≡ some c.answer
      → after_change m.state c k.image k.pointers m.addresses m.compact m.inflight [] ≡ call_disk p off k m (reclaim n)
  unfolding call_disk call_on store_count lent_block verdict reclaim_verdict_in
  reclaim_refused c e =
      ap (λ (x : State). mk_after c.answer k (mk_memory x m.addresses m.compact m.inflight) []) (refused_state (reclaim_checks p (lent_ok_of p off k m) (seen p off k) m w!) m.state c e)
      ∙ sym (call_refused p (store_disk p) n k m [] (reclaim_refusal p off k m) both c.answer e)

  -- 01, Reclaim: with none live it resets its zones
  pub reclaim_clear : (g : Seg) → reclaim_refusal p off k m ≡ none → is_nil (victim_live w!) ≡ true → victim_segment w! ≡ g
      → outcome p (store_disk p) n k m [] (due (reset_plan p m g)) ≡ call_disk p off k m (reclaim n)
  unfolding call_disk call_on store_count lent_block verdict reclaim_verdict_in decided
  reclaim_clear g e d s =
      sym ((λ j. outcome p (store_disk p) n k m [] (decided (e j) (cond (d j) (reset_plan p m (s j)) (copy_plan p (seen p off k) m (first_or 0 (idle p (seen p off k) m.state w!)))))))

  -- 01, Reclaim: otherwise it copies a block
  pub reclaim_copy : (q : ℕ) → reclaim_refusal p off k m ≡ none → is_nil (victim_live w!) ≡ false → first_or 0 (idle p (seen p off k) m.state w!) ≡ q
      → outcome p (store_disk p) n k m [] (due (copy_plan p (seen p off k) m q)) ≡ call_disk p off k m (reclaim n)
  unfolding call_disk call_on store_count lent_block verdict reclaim_verdict_in decided
  reclaim_copy q e d s =
      sym ((λ j. outcome p (store_disk p) n k m [] (decided (e j) (cond (d j) (reset_plan p m (victim_segment w!)) (copy_plan p (seen p off k) m (s j))))))
