-- Candidates as values of the code (01, The calls, last paragraph). Assumes nothing.
use Rattle.std.specs.Prelude.{◌≡◌, refl, Option, Some, None, Bool, true, false, ◌&&◌, ◌||◌, eqb}
use Rattle.std.proofs.Common.{sym, ◌∙◌, le_of_eq, le-ltb, eq-eqb, ne_eqb}
use Rattle.std.proofs.Math.Dec.{ltb}
use Rattle.spec.specs.Counts.{never_place}
use Rattle.spec.specs.Lists.{Opt}
use Rattle.spec.specs.Lists.Opt.{none, some}
use Rattle.spec.specs.Rank.{Cand, beats, better, place_or}
use Rattle.disk_rank.specs.declared.Cand.{Cand as CandValue}

-- the candidate that a value of the code stands for
abbrev pub ranked : CandValue → Cand
ranked c = record {
  address = c.address.0;
  stamp = c.stamp.0;
  serial = c.serial.0;
  drive = c.drive;
  offset = c.offset;
  place = c.place.0;
}

-- one, or none
abbrev pub ranked_best : Option CandValue → Opt Cand
ranked_best None = none
ranked_best (Some c) = some (ranked c)

-- ---- 01, The calls: the first of the four parts that differs decides

stop : (x y z : Bool) → y ≡ false → x ≡ (x || (y && z))
stop true y z e = refl
stop false y z e = rw e

skip : (x y z : Bool) → x ≡ false → y ≡ true → z ≡ (x || (y && z))
skip x y z e f = rw (e, f)

module _ (a b : Cand) where
  pub by_stamp : (a.stamp ≡ b.stamp → ⊥) → ltb b.stamp a.stamp ≡ beats a b
  unfolding beats
  by_stamp h = stop (ltb b.stamp a.stamp) (eqb a.stamp b.stamp)
      (ltb b.serial a.serial
      || (eqb a.serial b.serial && (ltb a.drive b.drive || (eqb a.drive b.drive && ltb a.offset b.offset)))) (ne_eqb a.stamp b.stamp h)

  rank_same_stamp : a.stamp ≡ b.stamp
      → (ltb b.serial a.serial
      || (eqb a.serial b.serial && (ltb a.drive b.drive || (eqb a.drive b.drive && ltb a.offset b.offset)))) ≡ beats a b
  unfolding beats
  rank_same_stamp e = skip (ltb b.stamp a.stamp) (eqb a.stamp b.stamp)
      (ltb b.serial a.serial
      || (eqb a.serial b.serial && (ltb a.drive b.drive || (eqb a.drive b.drive && ltb a.offset b.offset))))
      (le-ltb b.stamp a.stamp (le_of_eq e)) (eq-eqb a.stamp b.stamp e)

  pub by_serial_holds : a.stamp ≡ b.stamp → (a.serial ≡ b.serial → ⊥) → ltb b.serial a.serial ≡ beats a b
  by_serial_holds e h = stop (ltb b.serial a.serial) (eqb a.serial b.serial)
      (ltb a.drive b.drive || (eqb a.drive b.drive && ltb a.offset b.offset)) (ne_eqb a.serial b.serial h)
      ∙ rank_same_stamp e

  rank_same_serial : a.stamp ≡ b.stamp → a.serial ≡ b.serial
      → (ltb a.drive b.drive || (eqb a.drive b.drive && ltb a.offset b.offset)) ≡ beats a b
  rank_same_serial e f = skip (ltb b.serial a.serial) (eqb a.serial b.serial)
      (ltb a.drive b.drive || (eqb a.drive b.drive && ltb a.offset b.offset))
      (le-ltb b.serial a.serial (le_of_eq f)) (eq-eqb a.serial b.serial f)
      ∙ rank_same_stamp e

  pub by_drive : a.stamp ≡ b.stamp → a.serial ≡ b.serial → (a.drive ≡ b.drive → ⊥) → ltb a.drive b.drive ≡ beats a b
  by_drive e f h = stop (ltb a.drive b.drive) (eqb a.drive b.drive) (ltb a.offset b.offset) (ne_eqb a.drive b.drive h)
      ∙ rank_same_serial e f

  pub by_offset : a.stamp ≡ b.stamp → a.serial ≡ b.serial → a.drive ≡ b.drive → ltb a.offset b.offset ≡ beats a b
  by_offset e f g = skip (ltb a.drive b.drive) (eqb a.drive b.drive) (ltb a.offset b.offset)
      (le-ltb a.drive b.drive (le_of_eq (sym g))) (eq-eqb a.drive b.drive g)
      ∙ rank_same_serial e f

-- 01, The calls: the better of what holds so far and one more
pub better_first : (c : Cand) → some c ≡ better none c
unfolding better
better_first c = refl

pub better_new : (b c : Cand) → beats c b ≡ true → some c ≡ better (some b) c
unfolding better
better_new b c e = rw e

pub better_old : (b c : Cand) → beats c b ≡ false → some b ≡ better (some b) c
unfolding better
better_old b c e = rw e

-- 01, The array: its place, or never written
pub place_none : never_place ≡ place_or none
unfolding place_or
place_none = refl

pub place_some : (c : Cand) → c.place ≡ place_or (some c)
unfolding place_or
place_some c = refl
