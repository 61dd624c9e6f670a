-- The part of the lent image that the first read answers with, by its bytes and its place (01, Read; Which form to use where). Assumes nothing.
use Rattle.std.specs.Prelude.{◌≡◌, refl, List, [], ◌∷◌, Bool, true, false, cond, ℕ, leb, eqb, get_or}
use Rattle.std.proofs.Common.{sym, ap, arith}
use Rattle.spec.specs.Host.{part_at, part_len}
use Rattle.spec.specs.declared.Params.{Params}
use Rattle.spec.specs.declared.Stamp.{Stamp}
use Rattle.spec.specs.declared.Answer.{Answer}
use Rattle.spec.specs.declared.Answer.TheVariants.{Refused, BadZone, Part}
use Rattle.spec.specs.Answers.{kind, values}
use Rattle.spec.specs.Calls.Check.{rule, zones}
use Rattle.spec.specs.Calls.{Check, ninth, ruled, first_refusal}
use Rattle.spec.specs.Lists.Opt.{some}
use Rattle.spec.specs.Lists.{least}
use Rattle.law_basic.specs.Ranges.{not_both}

pub part_here : (p : Params) (n : ℕ) (t : Stamp) → (part_at (Part n t) ≡ n) × (part_len p (Part n t) ≡ p.B)
unfolding part_at part_len kind values
part_here p n t = (refl, refl)

pub part_none : (p : Params) (r : Answer) → eqb (kind r) 8 ≡ false → (0 ≡ part_at r) × (0 ≡ part_len p r)
unfolding part_at part_len
part_none p r e = (sym (ap (λ (x : Bool). cond x (get_or (values r) 0 0) 0) e), sym (ap (λ (x : Bool). cond x p.B 0) e))

-- refusals are no parts
refusal_kind-low : (cs : List Check) (r : Answer) → first_refusal cs ≡ some r → leb (kind r) 1 ≡ true
unfolding first_refusal ruled ninth kind
refusal_kind-low [] r e = absurd (let z : ◌≡◌ {A = ℕ} 0 1 = cc in let w : ⊥ = omega arith in w)
refusal_kind-low (rule n true ∷ cs) r e = let q : Refused n ≡ r = cc in ap (λ (x : Answer). leb (kind x) 1) (sym q)
refusal_kind-low (rule n false ∷ cs) r e = refusal_kind-low cs r e
refusal_kind-low (zones [] ∷ cs) r e = refusal_kind-low cs r e
refusal_kind-low (zones (z ∷ zs) ∷ cs) r e = let q : BadZone (least z zs) ≡ r = cc in ap (λ (x : Answer). leb (kind x) 1) (sym q)

pub part_not_refused : (cs : List Check) (at : ℕ) (t : Stamp) → first_refusal cs ≡ some (Part at t) → ⊥
unfolding kind
part_not_refused cs at t e = not_both (leb (kind (Part at t)) 1) (refusal_kind-low cs (Part at t) e) refl
