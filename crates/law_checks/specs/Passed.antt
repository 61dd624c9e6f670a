-- What holds where no check of a call refuses (01, Refusals): one record for each call, a field for each rule. The lists are taken apart here and nowhere else. Assumes nothing.
use Rattle.std.specs.Prelude.{◌≡◌, Bool, true, false, ◌&&◌, ◌||◌, ℕ, suc, ◌<◌, ltb, length}
use Rattle.std.proofs.Math.Path.{refl, ap, ap₂}
use Rattle.std.proofs.Common.{sym, ◌∙◌, subst, arith}
use mathlib.Core.List.{List, [], ◌∷◌, ◌++◌, map}
use Rattle.std.proofs.Math.Bool.{cond, not}
use borrow.Author.Tests.{lt-leb, leb-false, ltb-true, eqb-true, not-true, not-false}
use Rattle.std.proofs.Math.Dec.{eqb}
use Rattle.spec.specs.declared.Answer.{Answer}
use Rattle.spec.specs.declared.Answer.TheVariants.{Refused}
use Rattle.spec.specs.declared.Params.{Params}
use Rattle.spec.specs.declared.State.{State}
use Rattle.spec.specs.Answers.{kind, values, is_refused, is_refused_as}
use Rattle.spec.specs.Calls.{Check, ninth, ruled, first_refusal}
use Rattle.spec.specs.Calls.Check.{rule, zones}
use Rattle.spec.specs.Closing.{close_checks, empty_checks, reclaim_first}
use Rattle.spec.specs.Counts.{last_count}
use Rattle.spec.specs.Drives.{View, few_good, above_narrow, list_ok}
use Rattle.spec.specs.Faults.{pointer_faults, segment_faults, image_checks}
use Rattle.spec.specs.Landing.{waiting, land_faults, land_checks}
use Rattle.spec.specs.Lists.{Opt, keep, is_nil}
use Rattle.spec.specs.Lists.Opt.{none, some}
use Rattle.spec.specs.Memory.{Memory, has_filling, state_ok, state_faults}
use Rattle.spec.specs.Params.{between, in_range, place_block, place_zone, named}
use Rattle.spec.specs.Read.{Found, lies, found_faults, decode_faults, read_checks}
use Rattle.spec.specs.Rebuild.{names_missing, rebuild_checks}
use Rattle.spec.specs.Reclaim.{Victim, table_faults, is_none, victim_live, idle, must_copy, copy_waits, copy_full, reclaim_before, reclaim_checks_in, copy_order, reclaim_checks}
use Rattle.spec.specs.Restart.{names_drive, rewrites, none_free_of, restart_checks}
use Rattle.spec.specs.Segments.{Segment, greatest_serial}
use Rattle.spec.specs.Write.{opens, no_stamp, no_serial, must_wait, scarce, list_rules, CheckOrder, room_rules, write_full, write_before, write_checks_in, write_order, write_checks}
use Rattle.spec.specs.Write.CheckOrder.{full_first, wait_first}
use Rattle.law_basic.specs.Ranges.{or-false, and_left, and_right, not_both}
use Rattle.law_calls.specs.Refusals.{or_next, refusal_append, state_fine as state-clear, state_free}
use Rattle.law_checks.specs.Checks.{Mild}

-- ---- lists of checks

-- no check holds
abbrev Passes : List Check → Type 0
Passes [] = Unit {0}
Passes (rule n b ∷ cs) = (b ≡ false) × Passes cs
Passes (zones zs ∷ cs) = (zs ≡ []) × Passes cs

-- none is the ninth: no zone is bad where what stands before doesn't hold
abbrev Clear : List Check → Type 0
Clear [] = Unit {0}
Clear (rule n b ∷ cs) = (eqb n 9 ≡ false) × (b ≡ false → Clear cs)
Clear (zones zs ∷ cs) = (zs ≡ []) × Clear cs

pub some_none : {X : Type 0} {a : Answer} → some a ≡ none → X
some_none e = absurd (let z : ◌≡◌ {A = ℕ} 0 1 = cc in let q : ⊥ = omega arith in q)

passes : (cs : List Check) → first_refusal cs ≡ none → Passes cs
unfolding first_refusal ruled ninth
passes [] q = tt
passes (rule n true ∷ cs) q = some_none q
passes (rule n false ∷ cs) q = (refl, passes cs q)
passes (zones [] ∷ cs) q = (refl, passes cs q)
passes (zones (z ∷ zs) ∷ cs) q = some_none q

none_refused : (cs : List Check) → Passes cs → first_refusal cs ≡ none
unfolding first_refusal ruled ninth
none_refused [] c = refl
none_refused (rule n true ∷ cs) c = absurd (not_both true refl c.0)
none_refused (rule n false ∷ cs) c = none_refused cs c.1
none_refused (zones [] ∷ cs) c = none_refused cs c.1
none_refused (zones (z ∷ zs) ∷ cs) c = let e = c.0 in absurd (let x : ◌≡◌ {A = ℕ} 0 1 = cc in let y : ⊥ = omega arith in y)

some_some : {a b : Answer} → some a ≡ some b → a ≡ b
some_some e = cc

refused-ninth : (n : ℕ) → eqb n 9 ≡ false → is_refused_as 9 (Refused n) ≡ false
unfolding is_refused_as is_refused kind values
refused-ninth n q = q

clear : (cs : List Check) → Clear cs → Mild cs
unfolding first_refusal ruled ninth
clear [] c a q = some_none (sym q)
clear (rule n true ∷ cs) c a q = subst (λ (x : Answer). is_refused_as 9 x ≡ false) (some_some q) (refused-ninth n c.0)
clear (rule n false ∷ cs) c a q = clear cs (c.1 refl) a q
clear (zones [] ∷ cs) c a q = clear cs c.1 a q
clear (zones (z ∷ zs) ∷ cs) c a q = let e = c.0 in absurd (let x : ◌≡◌ {A = ℕ} 0 1 = cc in let y : ⊥ = omega arith in y)

-- ---- 7 and 8, in either order

neither_refuses : (r s : Opt Answer) → or_next r s ≡ none → (r ≡ none) × (s ≡ none)
neither_refuses none s e = (refl, e)
neither_refuses (some a) s e = some_none e

rooms_pass : (o : CheckOrder) (wait full : Bool) → first_refusal (room_rules o wait full) ≡ none → (wait ≡ false) × (full ≡ false)
unfolding first_refusal ruled
rooms_pass o false false e = (refl, refl)
rooms_pass full_first true false e = some_none e
rooms_pass full_first false true e = some_none e
rooms_pass full_first true true e = some_none e
rooms_pass wait_first true false e = some_none e
rooms_pass wait_first false true e = some_none e
rooms_pass wait_first true true e = some_none e

-- no check holds: none before, neither 7 nor 8, none behind
room_passes : (o : CheckOrder) (before cs : List Check) (wait full : Bool) → first_refusal (before ++ room_rules o wait full ++ cs) ≡ none
    → Passes before × (wait ≡ false) × (full ≡ false) × Passes cs
room_passes o before cs wait full e =
    let (r, c) = neither_refuses _ _ (sym (refusal_append (before ++ room_rules o wait full) cs) ∙ e) in
    let (b, w) = neither_refuses _ _ (sym (refusal_append before (room_rules o wait full)) ∙ r) in
    let (c7, c8) = rooms_pass o wait full w in
    (passes before b, c7, c8, passes cs c)

room_clear : (o : CheckOrder) (wait full : Bool) (cs : List Check) → Clear cs → Clear (room_rules o wait full ++ cs)
room_clear full_first wait full cs c = (refl, λ c8. (refl, λ c7. c))
room_clear wait_first wait full cs c = (refl, λ c7. (refl, λ c8. c))

-- ---- 10 and the narrow 1 (02, item 4)

-- a list that no call refuses
pub list_parts : (p : Params) (off : List ℕ) → list_ok p off ≡ true → (few_good p off ≡ false) × (above_narrow p off ≡ false)
unfolding list_ok
list_parts p off e =
    let a = not (few_good p off) in
    let b = not (above_narrow p off) in
    (not-true (few_good p off) (and_left a b e), not-true (above_narrow p off) (and_right a b e))

-- neither is the ninth
past-list : {C : Type 0} (p : Params) (v : View) → C
    → (eqb 10 9 ≡ false) × (few_good p v.offline ≡ false → (eqb 1 9 ≡ false) × (above_narrow p v.offline ≡ false → C))
past-list p v c = (refl, λ good. (refl, λ fit. c))

-- ---- tests

-- a test that is asked only where something lives
unless : (a b : Bool) → (not a && b) ≡ false → a ≡ false → b ≡ false
unless true b h e = absurd (not_both true refl e)
unless false b h e = h

unless_both : (a b c : Bool) → (not a && b && c) ≡ false → a ≡ false → b ≡ true → c ≡ false
unless_both true b c h e f = absurd (not_both true refl e)
unless_both false true c h e f = h
unless_both false false c h e f = absurd (not_both false f refl)

pub nil_both : (xs ys : List ℕ) → (xs ++ ys) ≡ [] → (xs ≡ []) × (ys ≡ [])
nil_both [] ys e = (refl, e)
nil_both (x ∷ xs) ys e = absurd (let z : ◌≡◌ {A = ℕ} (suc (length (xs ++ ys))) 0 = ap length e in let w : ⊥ = omega arith in w)

nil-all : (xs ys : List ℕ) → xs ≡ [] → ys ≡ [] → xs ++ ys ≡ []
nil-all xs ys e f = ap₂ (λ (a b : List ℕ). a ++ b) e f

none_missing : (n : ℕ) → not (eqb n 0) ≡ false → n ≡ 0
none_missing n e = eqb-true n 0 (not-false (eqb n 0) e)

-- ---- write

pub record WritePassed (p : Params) (long : Bool) (v : View) (m : Memory) (a : ℕ) (b : List ℕ) : Type 0 where
  pub in_range_holds : in_range p ≡ true
  pub lent : long ≡ true
  pub block_long : length b ≡ p.B
  pub zones_enough : few_good p v.offline ≡ false
  pub addresses_fit : above_narrow p v.offline ≡ false
  pub healthy : m.state.missing ≡ 0
  pub address_low : a < p.L
  pub stamp_left : no_stamp m.state ≡ false
  pub serial_left : no_serial p m.state ≡ false
  pub no_wait : must_wait p m.state ≡ false
  pub room : scarce p v (cond (opens p m.state) 2 1) ≡ false
  pub state_fine : state_ok p m.state ≡ true

module _ (p : Params) (long : Bool) (v : View) (m : Memory) (a : ℕ) (b : List ℕ) where
  pub write_passed : first_refusal (write_checks p long v m a b) ≡ none → WritePassed p long v m a b
  unfolding write_checks_in
  write_passed e =
      let st = m.state in
      let ((c1, (c2, (good, (fit, (c3, (c4, (c6, before))))))), c7, c8, (c9, c)) =
      room_passes write_order (write_before p long v m a b) (zones (state_faults p st) ∷ []) (must_wait p st) (write_full p v st) e in
      let two = or-false (not long) (not (eqb (length b) p.B)) c2 in
      let six = or-false (no_stamp st) (no_serial p st) c6 in
      record {
        in_range_holds = not-false (in_range p) c1;
        lent = not-false long two.0;
        block_long = eqb-true (length b) p.B (not-false (eqb (length b) p.B) two.1);
        zones_enough = good;
        addresses_fit = fit;
        healthy = none_missing st.missing c3;
        address_low = leb-false p.L a c4;
        stamp_left = six.0;
        serial_left = six.1;
        no_wait = c7;
        room = c8;
        state_fine = state_free p st c9;
      }

  pub write_mild : state_ok p m.state ≡ true → Mild (write_checks p long v m a b)
  unfolding write_checks_in
  write_mild ok =
      let st = m.state in
      let rooms = room_clear write_order (must_wait p st) (write_full p v st) (zones (state_faults p st) ∷ []) (state-clear p st ok, tt) in
      clear (write_checks p long v m a b) (refl, λ c1. (refl, λ c2. past-list p v (refl, λ c3. (refl, λ c4. (refl, λ c6. rooms)))))

-- ---- landing

pub record LandPassed (p : Params) (long : Bool) (v : View) (m : Memory) (d s : ℕ) : Type 0 where
  pub in_range_holds : in_range p ≡ true
  pub lent : long ≡ true
  pub zones_enough : few_good p v.offline ≡ false
  pub addresses_fit : above_narrow p v.offline ≡ false
  pub healthy : m.state.missing ≡ 0
  pub waits : waiting p m.state d s ≡ true
  pub state_fine : state_ok p m.state ≡ true
  pub chunk_fine : land_faults p v m d s ≡ []

module _ (p : Params) (long : Bool) (v : View) (m : Memory) (d s : ℕ) where
  pub land_passed : first_refusal (land_checks p long v m d s) ≡ none → LandPassed p long v m d s
  unfolding land_checks
  land_passed e =
      let st = m.state in
      let (c1, (c2, (good, (fit, (c3, (c5, (c9, c))))))) = passes (land_checks p long v m d s) e in
      let nine = nil_both (state_faults p st) (land_faults p v m d s) c9 in
      record {
        in_range_holds = not-false (in_range p) c1;
        lent = not-false long c2;
        zones_enough = good;
        addresses_fit = fit;
        healthy = none_missing st.missing c3;
        waits = not-false (waiting p st d s) c5;
        state_fine = state_free p st nine.0;
        chunk_fine = nine.1;
      }

  pub land_mild : state_ok p m.state ≡ true → (m.state.missing ≡ 0 → waiting p m.state d s ≡ true → land_faults p v m d s ≡ []) → Mild (land_checks p long v m d s)
  unfolding land_checks
  land_mild ok fine =
      let st = m.state in
      clear (land_checks p long v m d s) (
        refl,
        λ c1. (
          refl,
          λ c2. past-list p v (
            refl,
            λ c3. (
              refl,
              λ c5.
                  (nil-all (state_faults p st) (land_faults p v m d s) (state-clear p st ok) (fine (none_missing st.missing c3) (not-false (waiting p st d s) c5)), tt),
            ),
          ),
        ),
      )

-- ---- closing

-- no fault of the state, and none of others that are looked at or not
all_clear : (p : Params) (st : State) (t : Bool) (zs : List ℕ) → state_ok p st ≡ true → zs ≡ [] → state_faults p st ++ cond t zs [] ≡ []
all_clear p st true zs ok e = nil-all (state_faults p st) zs (state-clear p st ok) e
all_clear p st false zs ok e = nil-all (state_faults p st) [] (state-clear p st ok) refl

pub record ClosePassed (p : Params) (long : Bool) (v : View) (m : Memory) : Type 0 where
  pub in_range_holds : in_range p ≡ true
  pub lent : long ≡ true
  pub zones_enough : few_good p v.offline ≡ false
  pub addresses_fit : above_narrow p v.offline ≡ false
  pub healthy : m.state.missing ≡ 0
  pub filling : has_filling p m.state ≡ true
  pub none_idle : reclaim_first p v m ≡ false
  pub state_fine : state_ok p m.state ≡ true
  pub table_fine : cond (scarce p v 1) (table_faults p v m.addresses) [] ≡ []

module _ (p : Params) (long : Bool) (v : View) (m : Memory) where
  pub close_passed : first_refusal (close_checks p long v m) ≡ none → ClosePassed p long v m
  unfolding close_checks
  close_passed e =
      let st = m.state in
      let (c1, (c2, (good, (fit, (c3, (c5, (c9, c))))))) = passes (close_checks p long v m) e in
      let five = or-false (not (has_filling p st)) (reclaim_first p v m) c5 in
      let nine = nil_both (state_faults p st) (cond (scarce p v 1) (table_faults p v m.addresses) []) c9 in
      record {
        in_range_holds = not-false (in_range p) c1;
        lent = not-false long c2;
        zones_enough = good;
        addresses_fit = fit;
        healthy = none_missing st.missing c3;
        filling = not-false (has_filling p st) five.0;
        none_idle = five.1;
        state_fine = state_free p st nine.0;
        table_fine = nine.1;
      }

  pub close_mild : state_ok p m.state ≡ true → (m.state.missing ≡ 0 → table_faults p v m.addresses ≡ []) → Mild (close_checks p long v m)
  unfolding close_checks
  close_mild ok fine =
      let st = m.state in
      clear (close_checks p long v m) (
        refl,
        λ c1. (
          refl,
          λ c2. past-list p v (
            refl,
            λ c3. (
              refl,
              λ c5. (all_clear p st (scarce p v 1) (table_faults p v m.addresses) ok (fine (none_missing st.missing c3)), tt),
            ),
          ),
        ),
      )

-- ---- the write of no bytes

pub record EmptyPassed (p : Params) (long : Bool) (v : View) (m : Memory) (a : ℕ) : Type 0 where
  pub in_range_holds : in_range p ≡ true
  pub lent : long ≡ true
  pub zones_enough : few_good p v.offline ≡ false
  pub addresses_fit : above_narrow p v.offline ≡ false
  pub healthy : m.state.missing ≡ 0
  pub address_low : a < p.L
  pub state_fine : state_ok p m.state ≡ true

module _ (p : Params) (long : Bool) (v : View) (m : Memory) (a : ℕ) where
  pub empty_passed : first_refusal (empty_checks p long v m a) ≡ none → EmptyPassed p long v m a
  unfolding empty_checks
  empty_passed e =
      let st = m.state in
      let few = has_filling p st && scarce p v 1 in
      let (c1, (c2, (good, (fit, (c3, (c4, (c5, (c9, c)))))))) = passes (empty_checks p long v m a) e in
      record {
        in_range_holds = not-false (in_range p) c1;
        lent = not-false long c2;
        zones_enough = good;
        addresses_fit = fit;
        healthy = none_missing st.missing c3;
        address_low = leb-false p.L a c4;
        state_fine = state_free p st (nil_both (state_faults p st) (cond few (table_faults p v m.addresses) []) c9).0;
      }

  pub empty_mild : state_ok p m.state ≡ true → (m.state.missing ≡ 0 → table_faults p v m.addresses ≡ []) → Mild (empty_checks p long v m a)
  unfolding empty_checks
  empty_mild ok fine =
      let st = m.state in
      clear (empty_checks p long v m a) (
        refl,
        λ c1. (
          refl,
          λ c2. past-list p v (
            refl,
            λ c3. (
              refl,
              λ c4. (
                refl,
                λ c5. (all_clear p st (has_filling p st && scarce p v 1) (table_faults p v m.addresses) ok (fine (none_missing st.missing c3)), tt),
              ),
            ),
          ),
        ),
      )

-- ---- reclaim

-- the live blocks of the segment taken that aren't data blocks, by their zones
abbrev pub stray_faults : Params → Opt Victim → List ℕ
stray_faults p w = map (place_zone p) (keep (λ q. not (between 1 p.S (place_block p q))) (victim_live w))

pub record ReclaimPassed (p : Params) (long : Bool) (v : View) (m : Memory) (w : Opt Victim) : Type 0 where
  pub in_range_holds : in_range p ≡ true
  pub lent : long ≡ true
  pub zones_enough : few_good p v.offline ≡ false
  pub addresses_fit : above_narrow p v.offline ≡ false
  pub healthy : m.state.missing ≡ 0
  pub taken : is_none w ≡ false
  pub some_idle : is_nil (victim_live w) ≡ false → is_nil (idle p v m.state w) ≡ false
  pub serial_left : is_nil (victim_live w) ≡ false → no_serial p m.state ≡ false
  pub no_wait : is_nil (victim_live w) ≡ false → must_wait p m.state ≡ false
  pub room : is_nil (victim_live w) ≡ false → opens p m.state ≡ true → scarce p v 1 ≡ false
  pub state_fine : state_ok p m.state ≡ true
  pub table_fine : table_faults p v m.addresses ≡ []
  pub live_fine : stray_faults p w ≡ []

module _ (p : Params) (long : Bool) (v : View) (m : Memory) (w : Opt Victim) where
  pub reclaim_passed : first_refusal (reclaim_checks p long v m w) ≡ none → ReclaimPassed p long v m w
  unfolding reclaim_checks_in
  reclaim_passed e =
      let st = m.state in
      let dead = is_nil (victim_live w) in
      let ts = table_faults p v m.addresses in
      let zs = state_faults p st ++ ts ++ stray_faults p w in
      let ((c1, (c2, (good, (fit, (c3, (c5, (c6, before))))))), c7, c8, (c9, c)) = room_passes copy_order (reclaim_before p long v m w) (zones zs ∷ []) (copy_waits p st w) (copy_full p v st w) e in
      let five = or-false (is_none w) (not dead && is_nil (idle p v st w)) c5 in
      let nine = nil_both (state_faults p st ++ ts) (stray_faults p w) c9 in
      let state = nil_both (state_faults p st) ts nine.0 in
      record {
        in_range_holds = not-false (in_range p) c1;
        lent = not-false long c2;
        zones_enough = good;
        addresses_fit = fit;
        healthy = none_missing st.missing c3;
        taken = five.0;
        some_idle = unless dead (is_nil (idle p v st w)) five.1;
        serial_left = unless dead (no_serial p st) c6;
        no_wait = unless dead (must_wait p st) c7;
        room = unless_both dead (opens p st) (scarce p v 1) c8;
        state_fine = state_free p st state.0;
        table_fine = state.1;
        live_fine = nine.1;
      }

  pub reclaim_mild : state_ok p m.state ≡ true → (m.state.missing ≡ 0 → table_faults p v m.addresses ≡ [])
      → (m.state.missing ≡ 0 → is_none w ≡ false → stray_faults p w ≡ []) → Mild (reclaim_checks p long v m w)
  unfolding reclaim_checks_in
  reclaim_mild ok table live =
      let st = m.state in
      let ts = table_faults p v m.addresses in
      let zs = state_faults p st ++ ts ++ stray_faults p w in
      clear (reclaim_checks p long v m w) (
        refl,
        λ c1. (
          refl,
          λ c2. past-list p v (
            refl,
            λ c3. (
              refl,
              λ c5. (
                refl,
                λ c6.
                    let h = none_missing st.missing c3 in
                    let five = or-false (is_none w) (must_copy w && is_nil (idle p v st w)) c5 in
                    let fine = nil-all (state_faults p st ++ ts) (stray_faults p w) (nil-all (state_faults p st) ts (state-clear p st ok) (table h)) (live h five.0) in
                    room_clear copy_order (copy_waits p st w) (copy_full p v st w) (zones zs ∷ []) (fine, tt),
              ),
            ),
          ),
        ),
      )

-- ---- the two reads: one list of checks, with the lent block's length among the lengths of the second

abbrev pub found_in_of : Params → Memory → ℕ → Found
found_in_of p m a = lies p m.state.missing m.addresses a

pub record ReadPassed (p : Params) (long : Bool) (v : View) (m : Memory) (a : ℕ) : Type 0 where
  pub in_range_holds : in_range p ≡ true
  pub lent : long ≡ true
  pub zones_enough : few_good p v.offline ≡ false
  pub addresses_fit : above_narrow p v.offline ≡ false
  pub address_low : a < p.L
  pub state_fine : state_ok p m.state ≡ true
  pub place_fine : found_faults p v m.state.missing (found_in_of p m a) ≡ []
  pub decodes : decode_faults p v m.state.missing m.compact (found_in_of p m a) ≡ []

-- whichever lengths are looked at, as long as they are right
pub passed_too : (p : Params) (long also : Bool) (v : View) (m : Memory) (a : ℕ) → also ≡ true → ReadPassed p long v m a → ReadPassed p also v m a
passed_too p long also v m a e c = record {
  in_range_holds = c.in_range_holds;
  lent = e;
  zones_enough = c.zones_enough;
  addresses_fit = c.addresses_fit;
  address_low = c.address_low;
  state_fine = c.state_fine;
  place_fine = c.place_fine;
  decodes = c.decodes;
}

module _ (p : Params) (long : Bool) (v : View) (m : Memory) (a : ℕ) where
  abbrev place_faults_holds : List ℕ
  place_faults_holds = found_faults p v m.state.missing (found_in_of p m a)

  abbrev decode_faults_holds : List ℕ
  decode_faults_holds = decode_faults p v m.state.missing m.compact (found_in_of p m a)

  pub read_passed : first_refusal (read_checks p long v m a) ≡ none → ReadPassed p long v m a
  unfolding read_checks
  read_passed e =
      let st = m.state in
      let (c1, (c2, (good, (fit, (c4, (c9, (c10, c))))))) = passes (read_checks p long v m a) e in
      let nine = nil_both (state_faults p st) place_faults_holds c9 in
      record {
        in_range_holds = not-false (in_range p) c1;
        lent = not-false long c2;
        zones_enough = good;
        addresses_fit = fit;
        address_low = leb-false p.L a c4;
        state_fine = state_free p st nine.0;
        place_fine = nine.1;
        decodes = c10;
      }

  pub read_goes : ReadPassed p long v m a → first_refusal (read_checks p long v m a) ≡ none
  unfolding read_checks
  read_goes c =
      let nine = nil-all (state_faults p m.state) place_faults_holds (state-clear p m.state c.state_fine) c.place_fine in
      none_refused (read_checks p long v m a) (ap not c.in_range_holds, (ap not c.lent, (c.zones_enough, (c.addresses_fit, (lt-leb p.L a c.address_low, (nine, (c.decodes, tt)))))))

  pub read_mild : state_ok p m.state ≡ true → (a < p.L → place_faults_holds ≡ []) → (a < p.L → decode_faults_holds ≡ []) → Mild (read_checks p long v m a)
  unfolding read_checks
  read_mild ok fine decodes =
      clear (read_checks p long v m a) (
        refl,
        λ c1. (
          refl,
          λ c2. past-list p v (
            refl,
            λ c4.
                let low = leb-false p.L a c4 in
                (nil-all (state_faults p m.state) place_faults_holds (state-clear p m.state ok) (fine low), (decodes low, tt)),
          ),
        ),
      )

-- ---- the drives, for a restart and a rebuild

module _ (p : Params) (v : View) (gone : ℕ) (gs : List Segment) where
  abbrev seg_faults : List ℕ
  seg_faults = cond (is_nil (pointer_faults p v gone)) (segment_faults p v gone gs) []

  -- the segments are looked at where the pointers are fine
  seg_of : pointer_faults p v gone ≡ [] → seg_faults ≡ [] → segment_faults p v gone gs ≡ []
  unfolding is_nil
  seg_of q e = ap (λ (zs : List ℕ). cond (is_nil zs) (segment_faults p v gone gs) []) (sym q) ∙ e

  of_seg : pointer_faults p v gone ≡ [] → segment_faults p v gone gs ≡ [] → seg_faults ≡ []
  unfolding is_nil
  of_seg q e = ap (λ (zs : List ℕ). cond (is_nil zs) (segment_faults p v gone gs) []) q ∙ e

-- ---- restart

pub record RestartPassed (p : Params) (long : Bool) (v : View) (d : ℕ) (gs : List Segment) : Type 0 where
  pub in_range_holds : in_range p ≡ true
  pub names : names_drive p d ≡ true
  pub lent : long ≡ true
  pub zones_enough : few_good p v.offline ≡ false
  pub addresses_fit : above_narrow p v.offline ≡ false
  pub pointers_fine : pointer_faults p v (named d) ≡ []
  pub segments_fine : segment_faults p v (named d) gs ≡ []
  pub serial_left : (rewrites p (named d) gs && eqb (greatest_serial gs) last_count) ≡ false
  pub zone_left : (rewrites p (named d) gs && none_free_of p v gs) ≡ false

module _ (p : Params) (long : Bool) (v : View) (d : ℕ) (gs : List Segment) where
  pub restart_passed : first_refusal (restart_checks p long v d gs) ≡ none → RestartPassed p long v d gs
  unfolding restart_checks image_checks
  restart_passed e =
      let (c1, (c2, (good, (fit, (c9, (c10, (c6, (c8, c)))))))) = passes (restart_checks p long v d gs) e in
      let one = or-false (not (in_range p)) (not (names_drive p d)) c1 in
      record {
        in_range_holds = not-false (in_range p) one.0;
        names = not-false (names_drive p d) one.1;
        lent = not-false long c2;
        zones_enough = good;
        addresses_fit = fit;
        pointers_fine = c9;
        segments_fine = seg_of p v (named d) gs c9 c10;
        serial_left = c6;
        zone_left = c8;
      }

  pub restart_goes : RestartPassed p long v d gs → first_refusal (restart_checks p long v d gs) ≡ none
  unfolding restart_checks image_checks
  restart_goes c =
      let one = ap₂ (λ (x y : Bool). not x || not y) c.in_range_holds c.names in
      let ten = of_seg p v (named d) gs c.pointers_fine c.segments_fine in
      none_refused (restart_checks p long v d gs) (one, (ap not c.lent, (c.zones_enough, (c.addresses_fit, (c.pointers_fine, (ten, (c.serial_left, (c.zone_left, tt))))))))

  -- all but the serials
  pub restart_sixth : in_range p ≡ true → names_drive p d ≡ true → long ≡ true → few_good p v.offline ≡ false → above_narrow p v.offline ≡ false
      → pointer_faults p v (named d) ≡ [] → segment_faults p v (named d) gs ≡ []
      → (rewrites p (named d) gs && eqb (greatest_serial gs) last_count) ≡ true → first_refusal (restart_checks p long v d gs) ≡ some (Refused 6)
  unfolding restart_checks image_checks first_refusal ruled ninth
  restart_sixth r n l good fit ps ss six =
      let eight = rewrites p (named d) gs && none_free_of p v gs in
      let rest : List Check = rule 6 (rewrites p (named d) gs && eqb (greatest_serial gs) last_count) ∷ rule 8 eight ∷ [] in
      let behind = first_refusal (image_checks p v (named d) gs ++ rest) in
      ap₂ (λ (x y : Bool). ruled 1 (not x || not y) (ruled 2 (not long) (first_refusal (list_rules p v ++ image_checks p v (named d) gs ++ rest)))) r n
      ∙ ap₂ (λ (x y : Bool). ruled 2 (not x) (ruled 10 y (ruled 1 (above_narrow p v.offline) behind))) l good
      ∙ ap (λ (x : Bool). ruled 1 x behind) fit
      ∙ ap (λ (zs : List ℕ). ninth zs (ninth (seg_faults p v (named d) gs) (first_refusal rest))) ps
      ∙ ap₂ (λ (zs : List ℕ) (x : Bool). ninth zs (ruled 6 x (ruled 8 eight none))) (of_seg p v (named d) gs ps ss) six

  pub restart_mild : pointer_faults p v (named d) ≡ [] → segment_faults p v (named d) gs ≡ [] → Mild (restart_checks p long v d gs)
  unfolding restart_checks image_checks
  restart_mild ps ss = clear (restart_checks p long v d gs) (refl, λ c1. (refl, λ c2. past-list p v (ps, (of_seg p v (named d) gs ps ss, (refl, λ c6. (refl, λ c8. tt))))))

-- ---- rebuild

pub record RebuildPassed (p : Params) (long : Bool) (v : View) (m : Memory) (d : ℕ) (gs : List Segment) : Type 0 where
  pub in_range_holds : in_range p ≡ true
  pub drive_low : d < p.N
  pub names : m.state.missing ≡ named d
  pub lent : long ≡ true
  pub zones_enough : few_good p v.offline ≡ false
  pub addresses_fit : above_narrow p v.offline ≡ false
  pub pointers_fine : pointer_faults p v (named d) ≡ []
  pub segments_fine : segment_faults p v (named d) gs ≡ []

-- the drive that the last restart named missing
names_parts : (p : Params) (st : State) (d : ℕ) → names_missing p st d ≡ true → (d < p.N) × (st.missing ≡ named d)
unfolding names_missing
names_parts p st d e =
    let low = ltb d p.N in
    let same = eqb st.missing (named d) in
    (ltb-true d p.N (and_left low same e), eqb-true st.missing (named d) (and_right low same e))

module _ (p : Params) (long : Bool) (v : View) (m : Memory) (d : ℕ) (gs : List Segment) where
  named_of : (not (in_range p) || not (names_missing p m.state d)) ≡ false → (d < p.N) × (m.state.missing ≡ named d)
  named_of e = names_parts p m.state d (not-false (names_missing p m.state d) (or-false (not (in_range p)) (not (names_missing p m.state d)) e).1)

  pub rebuild_passed : first_refusal (rebuild_checks p long v m d gs) ≡ none → RebuildPassed p long v m d gs
  unfolding rebuild_checks image_checks
  rebuild_passed e =
      let (c1, (c2, (good, (fit, (c9, (c10, c)))))) = passes (rebuild_checks p long v m d gs) e in
      let (low, same) = named_of c1 in
      record {
        in_range_holds = not-false (in_range p) (or-false (not (in_range p)) (not (names_missing p m.state d)) c1).0;
        drive_low = low;
        names = same;
        lent = not-false long c2;
        zones_enough = good;
        addresses_fit = fit;
        pointers_fine = c9;
        segments_fine = seg_of p v (named d) gs c9 c10;
      }

  pub rebuild_mild : (d < p.N → m.state.missing ≡ named d → (pointer_faults p v (named d) ≡ []) × (segment_faults p v (named d) gs ≡ [])) → Mild (rebuild_checks p long v m d gs)
  unfolding rebuild_checks image_checks
  rebuild_mild fine =
      clear (rebuild_checks p long v m d gs) (
        refl,
        λ c1. (
          refl,
          λ c2.
              let (low, same) = named_of c1 in
              let (ps, ss) = fine low same in
              past-list p v (ps, (of_seg p v (named d) gs ps ss, tt)),
        ),
      )
