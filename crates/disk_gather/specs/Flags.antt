-- The segments that lead on the lowest present drive, zone by zone, and arrays that say which are left by 1 and which remain (01, Restart, 1 and 2; 02, item 4). Assumes nothing.
use Rattle.std.specs.Prelude.{◌≡◌, List, Bool, true, false, not, ◌&&◌, ℕ, ◌*◌, ◌≤◌, ◌<◌, leb, ltb, eqb, length, get_or}
use Rattle.spec.specs.declared.Params.{Params}
use Rattle.spec.specs.Bytes.{part}
use Rattle.spec.specs.Drives.{View, zone_on}
use Rattle.spec.specs.Lists.{all, any}
use Rattle.spec.specs.Params.{present}
use Rattle.spec.specs.Segments.{low_drive, serial_in, bearing, lowest_bearing, leads}
use Rattle.law_drives.specs.Tables.{seg_at, remains_at}

-- 01, Restart, 1: a segment leads at this zone of the lowest present drive, and it is left
unfoldable pub left_at : Params → View → ℕ → ℕ → Bool
left_at p v gone z = leads p v (low_drive p gone) z && all (λ d. ltb (zone_on (seg_at p v gone z) d) p.Z) (present p gone)

-- an array of numbers says the serials in the headers of the lowest present drive
abbrev pub Serials : Params → View → ℕ → List ℕ → Type 0
Serials p v gone l = (p.Z ≤ length l) × ((z : ℕ) → z < p.Z → get_or l z 0 ≡ serial_in p v (low_drive p gone) z)

-- an array of flags says where a segment leads that is left by 1
abbrev pub LeftFlags : Params → View → ℕ → List Bool → Type 0
LeftFlags p v gone l = (p.Z ≤ length l) × ((z : ℕ) → z < p.Z → get_or l z false ≡ left_at p v gone z)

-- an array of flags says where one leads that remains
abbrev pub Keeps : Params → View → ℕ → List Bool → Type 0
Keeps p v gone l = (p.Z ≤ length l) × ((z : ℕ) → z < p.Z → get_or l z false ≡ remains_at p v gone z)

-- an array has, in a row of eight, the zones of the segment that leads there
abbrev pub FlagsRows : Params → View → ℕ → List ℕ → Type 0
FlagsRows p v gone l = (8 * p.Z ≤ length l) × ((z : ℕ) → z < p.Z → leads p v (low_drive p gone) z ≡ true → part (8 * z) 8 l ≡ (seg_at p v gone z).zones)

-- another zone than z is the lowest that bears serial c, and flagged
unfoldable pub other_left : Params → View → ℕ → List Bool → ℕ → ℕ → Bool
other_left p v low flags z c =
    let h = lowest_bearing p v low c in
    ltb h p.Z && (not (eqb h z) && get_or flags h false)

-- an array of flags says, by the zones of the lowest present drive, whose serial some present drive bears twice
abbrev pub Repeats : Params → View → ℕ → List Bool → Type 0
Repeats p v gone l = (z : ℕ) → z < p.Z → get_or l z false ≡ any (λ d. leb 2 (length (bearing p v d (serial_in p v (low_drive p gone) z)))) (present p gone)
