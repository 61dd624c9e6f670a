-- Which record of an address holds (01, The calls, last paragraph). Assumes nothing.
use Rattle.std.specs.Prelude.{List, [], ◌∷◌, Bool, cond, ◌&&◌, ◌||◌, ℕ, ltb, eqb}
use Rattle.spec.specs.Counts.{never_place}
use Rattle.spec.specs.Lists.{Opt, keep}
use Rattle.spec.specs.Lists.Opt.{none, some}

-- a completed record of an address: stamp, serial of its segment, drive, offset, and its place
pub record Cand : Type 0 where
  pub address : ℕ
  pub stamp : ℕ
  pub serial : ℕ
  pub drive : ℕ
  pub offset : ℕ
  pub place : ℕ

-- 01, The calls: greater stamp, then greater serial, then lower drive, then lower offset
unfoldable pub beats : Cand → Cand → Bool
beats a b =
    ltb b.stamp a.stamp
    || (eqb a.stamp b.stamp
    && (ltb b.serial a.serial
    || (eqb a.serial b.serial && (ltb a.drive b.drive || (eqb a.drive b.drive && ltb a.offset b.offset)))))

-- 01, The calls: the better of two
unfoldable pub better : Opt Cand → Cand → Opt Cand
better none c = some c
better (some b) c = some (cond (beats c b) c b)

-- the one that holds among b and cs; on a tie in every part the earlier
unfoldable pub best : Opt Cand → List Cand → Opt Cand
best b [] = b
best b (c ∷ cs) = best (better b c) cs

-- 01, The array: its place, or never written
unfoldable pub place_or : Opt Cand → ℕ
place_or none = never_place
place_or (some c) = c.place

-- those of address a
unfoldable pub cands_of : ℕ → List Cand → List Cand
cands_of a cs = keep (λ (c : Cand). eqb c.address a) cs
