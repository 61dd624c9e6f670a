-- What a restart leaves: all segments sealed but at most one, whose stripes are 0 to c - 1.
use Rattle.std.specs.Prelude.{◌≡◌, ℕ, ◌+◌, ◌<◌, length}
use Rattle.spec.specs.declared.Params.{Params}
use Rattle.spec.specs.Drives.{View, pointer_at, zone_on}
use Rattle.spec.specs.Params.{capacity}
use Rattle.spec.specs.Segments.{segment_of, counted}
use Rattle.law_drives.specs.Tidy.{spare_at, There}
use Rattle.spec.specs.declared.Seg.{Seg}

-- an open segment with its stripes 0 to c - 1 on every drive, and nothing else
pub record Steady (p : Params) (v : View) (g : Seg) (c : ℕ) : Type 0 where
  pub steady_low : There p v g
  pub steady_few : c < p.S
  pub steady_pointer : (d : ℕ) → d < p.N → pointer_at v d (zone_on g d) ≡ 1 + c
  pub steady_stripes : (d o : ℕ) → d < p.N → o < c → (spare_at p v d (zone_on g d) o).stripe < c
  pub steady_count : length (counted p 0 (segment_of p v 0 g)) ≡ c

abbrev pub SealedAll : Params → View → Seg → Type 0
SealedAll p v z = (d : ℕ) → d < p.N → pointer_at v d (zone_on z d) ≡ capacity p

pub data Rest (p : Params) (v : View) : Type 0 where
  rest_sealed : ((z : Seg) → There p v z → SealedAll p v z) → Rest p v
  rest_open : (g : Seg) (c : ℕ) → Steady p v g c → ((z : Seg) → There p v z → (z ≡ g → ⊥) → SealedAll p v z) → Rest p v
