-- Refusal 1 of restart and rebuild, on the state's bytes of any length (01, Refusals, 1). Assumes nothing.
use Rattle.std.specs.Prelude.{ℕ, ◌<◌, ◌≤◌, length, get_or, Bool, true, false, ◌&&◌, ◌||◌, List, [], ◌∷◌, ◌≡◌, refl}
use Rattle.mem_codec.specs.Codec.{state_read}
use Rattle.spec.specs.Bytes.{le_of, part}
use Rattle.spec.specs.Memory.{state_of}
use Rattle.spec.specs.Params.{in_range, named, no_drive}
use Rattle.spec.specs.Lists.{only}
use Rattle.spec.specs.Rebuild.{names_missing}
use Rattle.spec.specs.Restart.{names_drive}
use Rattle.spec.specs.declared.Params.{Params}
use Rattle.spec.specs.declared.State.{State}
use Rattle.law_basic.specs.Le.{le_of_part-one}
use Rattle.std.proofs.Common.{lt-ltb, le-ltb, sym, ◌∙◌, arith}
use Rattle.std.proofs.Math.Dec.{eqb}
use Rattle.std.proofs.Math.Path.{ap}

-- a state of one byte or none names no drive
none_read : (bs : List ℕ) → length bs < 2 → 0 ≡ le_of (part 1 1 bs)
unfolding le_of part
none_read [] h = refl
none_read (b ∷ []) h = refl
none_read (b ∷ c ∷ bs) h = absurd (omega arith)

pub missing_short : (bs : List ℕ) → length bs < 2 → 0 ≡ (state_of bs).missing
missing_short bs h = none_read bs h ∙ ap (λ (x : State). x.missing) (sym (state_read bs))

pub missing_long : (bs : List ℕ) → 1 < length bs → get_or bs 1 0 ≡ (state_of bs).missing
missing_long bs h = le_of_part-one 1 bs h ∙ ap (λ (x : State). x.missing) (sym (state_read bs))

-- ---- restart

module _ (p : Params) (d : ℕ) where
  pub out_of_range : in_range p ≡ false → false ≡ (in_range p && names_drive p d)
  out_of_range e = ap (λ (x : Bool). x && names_drive p d) (sym e)

  pub names_one : in_range p ≡ true → d < p.N → true ≡ (in_range p && names_drive p d)
  unfolding names_drive
  names_one e h = ap (λ (x : Bool). x || eqb d no_drive) (sym (lt-ltb d p.N h)) ∙ ap (λ (x : Bool). x && names_drive p d) (sym e)

  pub names_none : in_range p ≡ true → p.N ≤ d → (r : Bool) → r ≡ eqb d 255 → r ≡ (in_range p && names_drive p d)
  unfolding names_drive no_drive
  names_none e h r f = f ∙ ap (λ (x : Bool). x || eqb d 255) (sym (le-ltb d p.N h)) ∙ ap (λ (x : Bool). x && names_drive p d) (sym e)

-- ---- rebuild

module _ (p : Params) (st : State) (d : ℕ) where
  pub out_of_reach : in_range p ≡ false → false ≡ (in_range p && names_missing p st d)
  out_of_reach e = ap (λ (x : Bool). x && names_missing p st d) (sym e)

  pub names_beyond : in_range p ≡ true → p.N ≤ d → false ≡ (in_range p && names_missing p st d)
  unfolding names_missing
  names_beyond e h = ap (λ (x : Bool). x && eqb st.missing (named d)) (sym (le-ltb d p.N h)) ∙ ap (λ (x : Bool). x && names_missing p st d) (sym e)

  pub names_it : in_range p ≡ true → d < p.N → (gone only' : ℕ) (r : Bool) → gone ≡ st.missing → only' ≡ only d → r ≡ eqb gone only'
      → r ≡ (in_range p && names_missing p st d)
  unfolding names_missing named
  names_it e h gone only' r f g q =
      q ∙ ap (λ (x : ℕ). eqb x only') f ∙ ap (eqb st.missing) g
      ∙ ap (λ (x : Bool). x && eqb st.missing (only d)) (sym (lt-ltb d p.N h)) ∙ ap (λ (x : Bool). x && names_missing p st d) (sym e)
