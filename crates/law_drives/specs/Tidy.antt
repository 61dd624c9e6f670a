-- Segments by their zones and headers alone: those that there are, and tidy.
use Rattle.std.specs.Prelude.{◌≡◌, true, false, ℕ, ◌≤◌, ◌<◌}
use Rattle.spec.specs.declared.Params.{Params}
use Rattle.spec.specs.declared.Seg.{Seg}
use Rattle.spec.specs.Drives.{View, zone_at, pointer_at, record_in, is_good, zone_on}
use Rattle.spec.specs.Layout.{header_serial, header_copied, Rec}
use Rattle.spec.specs.Params.{capacity}
use Rattle.spec.specs.Segments.{is_used, header_at, left_by1}
use Rattle.law_drives.specs.Members.{In}

-- the record of a data offset, by its spare
abbrev pub spare_at : Params → View → ℕ → ℕ → ℕ → Rec
spare_at p v d z o = record_in p false (zone_at v d z) o

-- a segment that there is: its serial is on every drive
abbrev pub There : Params → View → Seg → Type 0
There p v g = In g (left_by1 p v 0)

-- the segments by their zones and headers alone: every zone that is not empty is one of a segment that there is, and none is a copy of another
pub record Tidy (p : Params) (v : View) (serial : ℕ) : Type 0 where
  pub pointer_low : (d z : ℕ) → d < p.N → z < p.Z → is_good p v.offline d z ≡ true → pointer_at v d z ≤ capacity p
  pub together : (d z : ℕ) → d < p.N → z < p.Z → is_used p v d z ≡ true → (g : Seg) × There p v g × (zone_on g d ≡ z)
  pub copied_less : (g : Seg) → There p v g → header_copied p (header_at v 0 g) < header_serial p (header_at v 0 g)
  pub serial_known : (g : Seg) → There p v g → header_serial p (header_at v 0 g) ≤ serial
  pub no_copy : (g h : Seg) → There p v g → There p v h → header_copied p (header_at v 0 g) ≡ header_serial p (header_at v 0 h) → ⊥
