-- What the address table holds, as far as reclaim needs it: places of records that count, at or above the floor. Assumes nothing.
use Rattle.std.specs.Prelude.{◌≡◌, List, ◌⊎◌, ℕ, ◌≤◌, ◌<◌, length}
use Rattle.spec.specs.declared.Params.{Params}
use Rattle.spec.specs.Counts.{never_place}
use Rattle.spec.specs.Memory.{place_at_of}
use Rattle.spec.specs.Params.{place_block, place_zone, place_drive}
use Rattle.law_basic.specs.Geometry.{Ranged}
use Rattle.proof_crash_machine.specs.Facts.{Par, Ghost, Counted, Off}
use Rattle.proof_crash_machine.specs.Val.{Val}
use Rattle.proof_crash_machine.specs.View.{Item, ItemView}
use Rattle.proof_crash_machine.specs.View.Item.{chunk}
use Rattle.proof_crash_items.specs.Ranges.{par_of}

-- ---- drives that grew

-- v' has what v has, where it was, and no zone more is in use
pub record Grown (P : Par) (v v' : ItemView) : Type 0 where
  pub fwd : (e y j : ℕ) (i : Item) → e < P.N → Off (v e y) j i → Off (v' e y) j i
  pub back : (e y : ℕ) → e < P.N → 0 < length (v' e y) → 0 < length (v e y)

-- ---- an entry

-- at place q, in a zone of segment n, lies a record of address a that counts, in that segment, at or above the floor
pub record Entry (p : Params) (h : Ranged p) (off : List ℕ) (g : Ghost) (v : ItemView) (q a : ℕ) : Type 0 where
  pub s : ℕ
  pub x : Val
  pub drive : place_drive p q < p.N
  pub zone : place_zone p q < p.Z
  pub n : ℕ
  pub lies : g.hd.zn n (place_drive p q) ≡ place_zone p q
  pub at : Off (v (place_drive p q) n) (place_block p q) (chunk s x)
  pub counts : Counted (par_of p h off) g.hd v g.un x
  pub same : counts.z ≡ n
  pub addr : x.addr ≡ a
  pub floor : g.base a ≤ x.stamp

abbrev pub TableOk : (p : Params) → Ranged p → List ℕ → Ghost → ItemView → List ℕ → Type 0
TableOk p h off g v tb = (a : ℕ) → a < p.L → ((place_at_of tb a ≡ never_place) × (g.base a ≡ 0)) ⊎ Entry p h off g v (place_at_of tb a) a
