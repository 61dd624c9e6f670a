-- Checks in order: the first that holds refuses; a call with none is due (01, Refusals). Assumes nothing.
use Rattle.std.specs.Prelude.{ℕ, ◌≤◌, ◌<◌, ◌^◌, min, length, take, Bool, true, false, not, ◌&&◌, List, [], ◌∷◌, ◌++◌, ◌≡◌, eqb}
use Rattle.spec.specs.Calls.{Check, ninth, ruled, first_refusal, Plan, decided, mk_after, cut_memory, outcome}
use Rattle.spec.specs.Calls.Check.{rule, zones}
use Rattle.spec.specs.Drives.{Store, store_all}
use Rattle.spec.specs.Lists.{Opt, cons_if, least, all}
use Rattle.spec.specs.Lists.Opt.{none, some}
use Rattle.spec.specs.Memory.{Memory, state_ok, state_faults, slots, slot_ok_of}
use Rattle.spec.specs.declared.Answer.{Answer}
use Rattle.spec.specs.declared.Answer.TheVariants.{Refused, BadZone, Cut}
use Rattle.spec.specs.declared.Params.{Params}
use Rattle.spec.specs.declared.State.{State}
use Rattle.spec.specs.Params.{parity_count}
use Rattle.law_basic.specs.Stores.{stores_all, refused_same, done_all, cut_prefix}
use Rattle.std.proofs.Math.Path.{refl, ap}
use Rattle.std.proofs.Common.{sym, ◌∙◌, subst, leb-true, ne_eqb, arith}
use Rattle.std.proofs.Math.Dec.{leb, ltb}
use Rattle.std.specs.Int.Count.{ones}
use Rattle.spec.specs.Answers.{kind, is_refused, finished}
use Rattle.law_basic.specs.Ranges.{and_left, and_right}

module _ (n : ℕ) (b : Bool) (cs : List Check) where
  pub rule_fails : b ≡ true → first_refusal (rule n b ∷ cs) ≡ some (Refused n)
  unfolding first_refusal ruled
  rule_fails e = ap (λ (x : Bool). ruled n x (first_refusal cs)) e

  pub rule_passes : b ≡ false → first_refusal (rule n b ∷ cs) ≡ first_refusal cs
  unfolding first_refusal ruled
  rule_passes e = ap (λ (x : Bool). ruled n x (first_refusal cs)) e

pub zone_fails : (z : ℕ) (cs : List Check) → first_refusal (zones (z ∷ []) ∷ cs) ≡ some (BadZone z)
unfolding first_refusal ninth least
zone_fails z cs = refl

pub zones_pass : (zs : List ℕ) (cs : List Check) → zs ≡ [] → first_refusal (zones zs ∷ cs) ≡ first_refusal cs
unfolding first_refusal ninth
zones_pass zs cs e = ap (λ (x : List ℕ). ninth x (first_refusal cs)) e

pub none_left : first_refusal [] ≡ none
unfolding first_refusal
none_left = refl

-- the first of two refusals
abbrev pub or_next : Opt Answer → Opt Answer → Opt Answer
or_next none r = r
or_next (some a) r = some a

-- checks after checks
pub refusal_append : (xs cs : List Check) → first_refusal (xs ++ cs) ≡ or_next (first_refusal xs) (first_refusal cs)
unfolding first_refusal ruled ninth
refusal_append [] cs = refl
refusal_append (rule n true ∷ xs) cs = refl
refusal_append (rule n false ∷ xs) cs = refusal_append xs cs
refusal_append (zones [] ∷ xs) cs = refusal_append xs cs
refusal_append (zones (z ∷ zs) ∷ xs) cs = refl

-- what is so where no check holds

not_some : (a : Answer) → some a ≡ none → ⊥
not_some a e = let z : ◌≡◌ {A = ℕ} 0 1 = cc in omega arith

pub rule_free : (n : ℕ) (b : Bool) (cs : List Check) → first_refusal (rule n b ∷ cs) ≡ none → (b ≡ false) × (first_refusal cs ≡ none)
rule_free n true cs e = absurd (not_some (Refused n) (sym (rule_fails n true cs refl) ∙ e))
rule_free n false cs e = (refl, sym (rule_passes n false cs refl) ∙ e)

pub zones_free : (zs : List ℕ) (cs : List Check) → first_refusal (zones zs ∷ cs) ≡ none → (zs ≡ []) × (first_refusal cs ≡ none)
unfolding first_refusal ninth
zones_free [] cs e = (refl, e)
zones_free (z ∷ zs) cs e = absurd (not_some (BadZone (least z zs)) e)

-- 01, Refusals, 9: the state's numbers
pub state_fault : (p : Params) (st : State) → state_ok p st ≡ false → state_faults p st ≡ 0 ∷ []
unfolding state_faults cons_if
state_fault p st e = ap (λ (x : Bool). cons_if (not x) 0 []) e

pub state_fine : (p : Params) (st : State) → state_ok p st ≡ true → state_faults p st ≡ []
unfolding state_faults cons_if
state_fine p st e = ap (λ (x : Bool). cons_if (not x) 0 []) e

pub state_free : (p : Params) (st : State) → state_faults p st ≡ [] → state_ok p st ≡ true
unfolding state_faults cons_if
state_free p st e = go (state_ok p st) e
  where
    go : (b : Bool) → cons_if {A = ℕ} (not b) 0 [] ≡ [] → b ≡ true
    go true q = refl
    go false q = absurd (let z : ◌≡◌ {A = ℕ} 1 0 = ap length q in let w : ⊥ = omega arith in w)

-- ---- what a call leaves

module _ {D : Type 0} (p : Params) (f : Store → D → D) (n : ℕ) (d : D) (m : Memory) (b : List ℕ) (r : Opt Answer) (q : Plan) where
  -- 01, Store count: a refusal changes nothing
  pub call_refused : (a : Answer) → r ≡ some a → outcome p f n d m b (decided r q) ≡ mk_after a d m b
  unfolding decided
  call_refused a e = ap (λ (x : Opt Answer). outcome p f n d m b (decided x q)) e ∙ refused_same p f n d m b a

  -- all stores made
  pub call_done : r ≡ none → length q.stores ≤ n → outcome p f n d m b (decided r q) ≡ mk_after q.answer (store_all f (take n q.stores) d) q.memory q.block
  unfolding decided
  call_done e h =
      ap (λ (x : Opt Answer). outcome p f n d m b (decided x q)) e ∙ done_all p f n d m b q h
      ∙ ap (λ (x : D). mk_after q.answer x q.memory q.block) (sym (stores_all f n q.stores d h))

  -- just so many, and cut
  pub call_cut : r ≡ none → n < length q.stores → outcome p f n d m b (decided r q) ≡ mk_after Cut (store_all f (take n q.stores) d) (cut_memory p m) b
  unfolding decided
  call_cut e h = ap (λ (x : Opt Answer). outcome p f n d m b (decided x q)) e ∙ cut_prefix p f n d m b q h

pub refusal_kind : (cs : List Check) (a : Answer) → first_refusal cs ≡ some a → is_refused a ≡ true
unfolding first_refusal ruled ninth
refusal_kind [] a q = absurd (let z : ◌≡◌ {A = ℕ} 0 1 = cc in let y : ⊥ = omega arith in y)
refusal_kind (rule n true ∷ cs) a q = let e : Refused n ≡ a = cc in subst (λ (x : Answer). is_refused x ≡ true) e kind0
  where
    kind0 : is_refused (Refused n) ≡ true
    kind0 = unfold is_refused kind in refl
refusal_kind (rule n false ∷ cs) a q = refusal_kind cs a q
refusal_kind (zones [] ∷ cs) a q = refusal_kind cs a q
refusal_kind (zones (z ∷ zs) ∷ cs) a q = let e : BadZone (least z zs) ≡ a = cc in subst (λ (x : Answer). is_refused x ≡ true) e kind1
  where
    kind1 : is_refused (BadZone (least z zs)) ≡ true
    kind1 = unfold is_refused kind in refl

-- 01, Refusals, 9: the next stripe number; 02, item 4: the open segment's serial
module _ (p : Params) (st : State) (h : state_ok p st ≡ true) where
  abbrev before : Bool
  before = eqb st.live 1 && ltb st.missing (2 ^ p.N) && leb (ones st.missing) (parity_count p)

  refusals_opened_next : (before && leb st.opened st.serial.0 && leb st.next p.S) ≡ true
  unfolding state_ok
  refusals_opened_next =
      let a = before && leb st.opened st.serial.0 && leb st.next p.S in
      let b = all (slot_ok_of p st) slots in
      let c = all (λ o. ltb o p.S) st.offsets in
      and_left a b (and_left (a && b) c h)

  pub next_low : st.next ≤ p.S
  next_low = leb-true st.next p.S (and_right (before && leb st.opened st.serial.0) (leb st.next p.S) refusals_opened_next)

  pub opened_low : st.opened ≤ st.serial.0
  opened_low =
      let a = leb st.opened st.serial.0 in
      leb-true st.opened st.serial.0 (and_right before a (and_left (before && a) (leb st.next p.S) refusals_opened_next))

pub least_zero : (zs : List ℕ) → least 0 zs ≡ 0
unfolding least
least_zero [] = refl
least_zero (z ∷ zs) = let e : min 0 z ≡ 0 = omega arith in ap (λ (x : ℕ). least x zs) e ∙ least_zero zs

pub refused_unfinished : (a : Answer) → is_refused a ≡ true → finished a ≡ false
unfolding is_refused finished
refused_unfinished a q = let h = leb-true (kind a) 1 q in ne_eqb (kind a) 12 (λ e. let z : ⊥ = omega arith in z)
