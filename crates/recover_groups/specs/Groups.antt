-- A group of a segment: its records, what is wrong with them, and the index of its chunks (01, What a zone holds; Restart, 3; Refusals, 9). Assumes nothing.
use Rattle.std.specs.Prelude.{◌≡◌, List, map, Bool, true, false, cond, ◌||◌, ℕ, ◌+◌, ◌-◌, ◌*◌, ◌/◌, min, ◌≤◌, ◌<◌, eqb, length, get_or, take, drop}
use Rattle.spec.specs.declared.Params.{Params}
use Rattle.spec.specs.Drives.{view_of, sealed_in}
use Rattle.spec.specs.Faults.{outside, twice, stored_bad}
use Rattle.spec.specs.Layout.{Rec}
use Rattle.spec.specs.Lists.{below, any, index_of, is_in}
use Rattle.spec.specs.Params.{pointers_len, present}
use Rattle.spec.specs.Segments.{Segment, segment_of, recs_on, offset_on, has_chunk}
use Rattle.recover_groups.specs.declared.Group.{Group}

-- 01, What a zone holds: how many stripes the group from stripe base on has; the last group may be short
unfoldable pub group_len : Params → ℕ → ℕ
group_len p base = min p.G (p.S - base)

-- 01, What a zone holds: how many groups begin at stripe base or behind it, base being a group's first stripe
unfoldable pub groups_left : Params → ℕ → ℕ
groups_left p base = (p.S - base + p.G - 1) / p.G

-- 01, What a zone holds: the first stripes of the groups from base on: base, base + G, .., below S
unfoldable pub bases_from : Params → ℕ → List ℕ
bases_from p base = map (λ i. base + i * p.G) (below (groups_left p base))

-- the records of a group, of those of a zone
unfoldable pub group_recs : Params → ℕ → List Rec → List Rec
group_recs p base rs = take (group_len p base) (drop base rs)

-- 01, Refusals, 9: of records at data offsets o, o + 1, .. of a drive: one is outside its group, twice there, or has a bad data address
unfoldable pub recs_bad : Params → ℕ → ℕ → List Rec → Bool
recs_bad p d o rs = outside p o rs || twice rs || any (stored_bad p d) rs

-- 01, Refusals, 9: such a record of the group on some present drive
unfoldable pub group_fault : Params → ℕ → Segment → ℕ → Bool
group_fault p gone g base = any (λ d. recs_bad p d base (group_recs p base (recs_on g d))) (present p gone)

-- 01, Refusals, 9: such a record of the segment
unfoldable pub recs_fault : Params → ℕ → Segment → Bool
recs_fault p gone g = any (λ d. recs_bad p d 0 (recs_on g d)) (present p gone)

-- the index of a group holds, at 256 x drive + stripe of the group, the offset of its chunk in the group + 1, or 0
pub record Indexed (p : Params) (g : Segment) (base : ℕ) (at : List ℕ) : Type 0 where
  pub entry : (d k : ℕ) → d < p.N → k < group_len p base
      → get_or at (256 * d + k) 0 ≡ cond (has_chunk g (base + k) d) (offset_on g d (base + k) - base + 1) 0
  pub within : (d k : ℕ) → d < p.N → k < group_len p base → has_chunk g (base + k) d ≡ true
      → (base ≤ offset_on g d (base + k)) × (offset_on g d (base + k) < base + group_len p base)

-- stripe k of the group has an entry of the drive, which lies in the group
abbrev pub Entered : Params → ℕ → List ℕ → ℕ → ℕ → Type 0
Entered p base at d k = (1 ≤ get_or at (256 * d + k) 0) × (get_or at (256 * d + k) 0 ≤ group_len p base)

-- stripe k of the group has an entry of every present drive
abbrev pub AllEntered : Params → ℕ → ℕ → List ℕ → ℕ → Type 0
AllEntered p gone base at k = (d : ℕ) → d < p.N → is_in gone d ≡ false → Entered p base at d k

-- the segment of a group, as image and pointers show it
abbrev pub segment_in : Params → List ℕ → List ℕ → List ℕ → Group → Segment
segment_in p off im ps w = segment_of p (view_of p off im ps) w.gone w.seg

-- the group is as image and pointers show it, and the index is the group's
pub record GroupReads (p : Params) (off im ps : List ℕ) (w : Group) (at : List ℕ) : Type 0 where
  pub long : length ps ≡ pointers_len p
  pub full_right : w.full ≡ sealed_in p (view_of p off im ps) w.gone w.seg
  pub indexed : Indexed p (segment_in p off im ps w) w.base at

-- the entry of stripe s, of the records of its group: the index of its record + 1, or 0
unfoldable pub entry_of : List Rec → ℕ → ℕ
entry_of rs s = cond (any (λ (r : Rec). eqb r.stripe s) rs) (index_of (λ (r : Rec). eqb r.stripe s) rs + 1) 0

-- the entries of the group's stripes on drive d are those of records rs
abbrev pub Row : Params → ℕ → List Rec → ℕ → List ℕ → Type 0
Row p base rs d at = (k : ℕ) → k < group_len p base → get_or at (256 * d + k) 0 ≡ entry_of rs (base + k)

-- the entries of lower drives are the same
abbrev pub SameBelow : ℕ → List ℕ → List ℕ → Type 0
SameBelow d at to = (j : ℕ) → j < 256 * d → get_or to j 0 ≡ get_or at j 0
