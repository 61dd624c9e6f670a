-- Answers: this paper's number and values of each (01, The calls; Which form to use where). Assumes nothing.
use Rattle.std.specs.Prelude.{List, [], ◌∷◌, Bool, cond, ◌&&◌, ℕ, leb, eqb, get_or}
use Rattle.spec.specs.declared.Answer.{Answer}
use Rattle.spec.specs.declared.Answer.TheVariants.{Refused, BadZone, Cut, Sent, Landed, Closed, Copied, Reset, Part, Never, Lost, Filled, Restarted, Rebuilt, Nothing}

-- the kinds of answer; refusals are told apart by their values
unfoldable pub kind : Answer → ℕ
kind (Refused n) = 0
kind (BadZone z) = 1
kind Cut = 2
kind (Sent t s d) = 3
kind (Landed n) = 4
kind (Closed s) = 5
kind (Copied t s d) = 6
kind (Reset z) = 7
kind (Part n t) = 8
kind Never = 9
kind (Lost t) = 10
kind (Filled t) = 11
kind (Restarted n) = 12
kind Rebuilt = 13
kind Nothing = 14

-- 01: the refusal's number (9 with its zone); stamp, stripe and drive of a write or copy; the number acknowledged; the stripe closed; the
-- zone reset; the block's offset in the image; the uncounted stripes. 02, item 2: the stamp that a read passes on, 0 if never written
unfoldable pub values : Answer → List ℕ
values (Refused n) = n ∷ []
values (BadZone z) = 9 ∷ z ∷ []
values Cut = []
values (Sent t s d) = t.0 ∷ s ∷ d ∷ []
values (Landed n) = n ∷ []
values (Closed s) = s ∷ []
values (Copied t s d) = t.0 ∷ s ∷ d ∷ []
values (Reset z) = z ∷ []
values (Part n t) = n ∷ t.0 ∷ []
values Never = 0 ∷ []
values (Lost t) = t.0 ∷ []
values (Filled t) = t.0 ∷ []
values (Restarted r) = r.uncounted ∷ []
values Rebuilt = []
values Nothing = []

-- refused, with which number
unfoldable pub is_refused : Answer → Bool
is_refused r = leb (kind r) 1

-- refused with number n
unfoldable pub is_refused_as : ℕ → Answer → Bool
is_refused_as n r = is_refused r && eqb (get_or (values r) 0 0) n

-- 02, item 2: the stamp that a read passes on: behind the offset of a part, else the first value
unfoldable pub stamp_told : Answer → ℕ
stamp_told r = get_or (values r) (cond (eqb (kind r) 8) 1 0) 0

-- 01, Store count: cut
unfoldable pub is_cut_of : Answer → Bool
is_cut_of r = eqb (kind r) 2

-- 01, Store count: a restart or rebuild neither refused nor cut is finished; this is a restart's answer then
unfoldable pub finished : Answer → Bool
finished r = eqb (kind r) 12
