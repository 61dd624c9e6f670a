-- Closing (01, Closing; Refusals, 5), and the write of no bytes that means it (02, item 1). Assumes nothing.
use Rattle.std.specs.Prelude.{List, [], ◌∷◌, ◌++◌, Bool, cond, not, ◌&&◌, ◌||◌, ℕ, zero, suc, ◌-◌, leb, eqb, replicate}
use Rattle.spec.specs.declared.Params.{Params}
use Rattle.spec.specs.declared.State.{State}
use Rattle.spec.specs.declared.Answer.TheVariants.{Closed, Nothing}
use Rattle.spec.specs.Calls.{Check, first_refusal, Plan, mk_plan, Verdict, decided}
use Rattle.spec.specs.Calls.Check.{rule, zones}
use Rattle.spec.specs.Counts.{padding_address}
use Rattle.spec.specs.Drives.{View}
use Rattle.spec.specs.Lists.{is_nil}
use Rattle.spec.specs.Memory.{Memory, mk_memory, stripe_in, filled_in_of, filling_slot, has_filling, state_faults}
use Rattle.spec.specs.Params.{data_count, in_range}
use Rattle.spec.specs.Reclaim.{table_faults, victim, idle}
use Rattle.spec.specs.Write.{scarce, list_rules, Placed, placed}

-- 01, Closing: k open positions filled with zero blocks at the padding address, stamp 0
unfoldable pub padded : Params → ℕ → ℕ → State → List ℕ → Placed
padded p i zero st fl = record { state = st; inflight = fl; drive = 0 }
padded p i (suc k) st fl =
    let q = placed p st fl i padding_address 0 0 (replicate p.B 0) in
    padded p i k q.state q.inflight

-- 01, Refusals, 5: with 1 or fewer zones empty while the segment reclaim would take has a live block not in flight
abbrev pub reclaim_first : Params → View → Memory → Bool
reclaim_first p v m = scarce p v 1 && not (is_nil (idle p v m.state (victim p v m.addresses)))

-- 01, Closing; Refusals
unfoldable pub close_checks : Params → Bool → View → Memory → List Check
close_checks p long v m =
    let st = m.state in
    rule 1 (not (in_range p)) ∷ rule 2 (not long) ∷ list_rules p v
    ++ (rule 3 (not (eqb st.missing 0)) ∷ rule 5 (not (has_filling p st) || reclaim_first p v m)
    ∷ zones (state_faults p st ++ cond (scarce p v 1) (table_faults p v m.addresses) []) ∷ [])

-- 01, Closing: no store is due
unfoldable pub close_plan : Params → Memory → Plan
close_plan p m =
    let st = m.state in
    let i = filling_slot p st in
    let q = padded p i (data_count p - filled_in_of st i) st m.inflight in
    mk_plan [] (Closed (stripe_in st i)) (mk_memory q.state m.addresses m.compact q.inflight) []

-- 01, Closing: the call
unfoldable pub close_verdict : Params → Bool → View → Memory → Verdict
close_verdict p long v m =
    let q = close_plan p m in
    decided (first_refusal (close_checks p long v m)) q

-- ---- a write of no bytes

-- 02, item 1: its checks; 5 is for scarce zones alone, and where none is filling no place is looked at
unfoldable pub empty_checks : Params → Bool → View → Memory → ℕ → List Check
empty_checks p long v m a =
    let st = m.state in
    rule 1 (not (in_range p)) ∷ rule 2 (not long) ∷ list_rules p v
    ++ (rule 3 (not (eqb st.missing 0)) ∷ rule 4 (leb p.L a) ∷ rule 5 (has_filling p st && reclaim_first p v m)
    ∷ zones (state_faults p st ++ cond (has_filling p st && scarce p v 1) (table_faults p v m.addresses) []) ∷ [])

-- 02, item 1: the filling stripe is closed, else nothing is done
unfoldable pub empty_plan : Params → Memory → Plan
empty_plan p m =
    let q = close_plan p m in
    cond (has_filling p m.state) q (mk_plan [] Nothing m [])

-- 02, item 1: the call
unfoldable pub empty_verdict : Params → Bool → View → Memory → ℕ → Verdict
empty_verdict p long v m a =
    let q = empty_plan p m in
    decided (first_refusal (empty_checks p long v m a)) q
