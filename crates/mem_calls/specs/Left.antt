-- What the checks of a call come to, as the definitions have it (01, Refusals). Assumes nothing.
use Rattle.std.specs.Prelude.{Result, Ok, Err, IsErrAnd, Bool, true, false, not, ◌≡◌}
use Rattle.std.proofs.Math.Path.{refl, ap}
use Rattle.spec.specs.Calls.{ruled}
use Rattle.mem_calls.specs.declared.Refusal.{Refusal}
use Rattle.mem_calls.specs.declared.Refusal.TheVariants.{Range, Lengths, Missing, Address, NotDue, NoCount, Wait, Full, BadZone, FewZones}
use Rattle.spec.specs.Lists.{Opt}
use Rattle.spec.specs.Lists.Opt.{none, some}
use Rattle.spec.specs.declared.Answer.{Answer}
use Rattle.spec.specs.declared.Answer.TheVariants.{Refused, BadZone as bad_zone}

-- 01, Refusals: the number that a refusal gives, and 9's zone
abbrev pub answer_of : Refusal → Answer
answer_of Range = Refused 1
answer_of Lengths = Refused 2
answer_of Missing = Refused 3
answer_of Address = Refused 4
answer_of NotDue = Refused 5
answer_of NoCount = Refused 6
answer_of Wait = Refused 7
answer_of Full = Refused 8
answer_of (BadZone z) = bad_zone z
answer_of FewZones = Refused 10

-- the refusal, if there is one
abbrev pub checked : {T : Type 0} → Result T Refusal → Opt Answer
checked (Ok _) = none
checked (Err r) = some (answer_of r)

-- what a `?` returns
pub passed_on : {T : Type 0} (r : Result T Refusal) (e : Refusal) → IsErrAnd r (λ y. y ≡ e) → checked r ≡ some (answer_of e)
passed_on (Ok x) e h = absurd h
passed_on (Err y) e h = ap (λ (x : Refusal). some (answer_of x)) h

-- ---- what `lent_ok` answers says of the lengths

pub lent_whole : (b : Bool) → none ≡ ruled 2 (not b) none → b ≡ true
unfolding ruled
lent_whole true e = refl
lent_whole false e = cc

pub lent_short : (b : Bool) (a : Answer) → some a ≡ ruled 2 (not b) none → (b ≡ false) × (some a ≡ some (Refused 2))
unfolding ruled
lent_short true a e = cc
lent_short false a e = (refl, e)
