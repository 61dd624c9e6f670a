-- The NVMe zone rules as a statement (demand 2; 01, The array): what a call leaves on the drives is stores one after the other. Assumes nothing.
use Rattle.std.specs.Prelude.{◌≡◌, List, [], ◌∷◌, ℕ, ◌<◌, length, true}
use Rattle.spec.specs.Bytes.{part}
use Rattle.spec.specs.declared.Params.{Params}
use Rattle.spec.specs.Drives.{Disk, pointer_of, Store, store_disk, store_all, is_good, pointer_byte}
use Rattle.spec.specs.Drives.Store.{put, reset}
use Rattle.spec.specs.Engine.{Call, Lent, lent_disk, call_bytes, lent_all, lent_memory}
use Rattle.spec.specs.Params.{spare_len, capacity, place_byte, place_of, zone_len}

-- 01, The array: one block with its spare at the zone's pointer, below the capacity; or the reset of a zone; 02, item 4: of one that is not offline
abbrev pub Obeys : Params → List ℕ → Disk → Store → Type 0
Obeys p off k (put d z b s) = (d < p.N) × (z < p.Z) × (is_good p off d z ≡ true) × (length b ≡ p.B) × (length s ≡ spare_len) × (pointer_of p k.pointers d z < capacity p)
Obeys p off k (reset d z) = (d < p.N) × (z < p.Z) × (is_good p off d z ≡ true)

-- one after the other
abbrev pub ObeyAll : Params → List ℕ → Disk → List Store → Type 0
ObeyAll p off k [] = Unit {0}
ObeyAll p off k (s ∷ ss) = Obeys p off k s × ObeyAll p off (store_disk p s k) ss

-- every call, cut ones included: image and pointers are as after these stores, and no other byte of them changes
abbrev pub ZoneRules : Type 0
ZoneRules = (p : Params) (l : Lent) (c : Call)
    → (ss : List Store) × (lent_disk (call_bytes p l c).lent ≡ store_all (store_disk p) ss (lent_disk l)) × ObeyAll p l.offline (lent_disk l) ss

-- ---- offline zones are never read or checked (02, item 4)

-- k and h differ in bytes and pointers of offline zones alone
pub record SameGood (p : Params) (off : List ℕ) (k h : Disk) : Type 0 where
  pub same_image : length k.image ≡ length h.image
  pub same_pointers : length k.pointers ≡ length h.pointers
  pub zone_bytes : (d z : ℕ) → d < p.N → z < p.Z → is_good p off d z ≡ true
      → part (place_byte p (place_of p d z 0)) (zone_len p) k.image ≡ part (place_byte p (place_of p d z 0)) (zone_len p) h.image
  pub pointer_bytes : (d z : ℕ) → d < p.N → z < p.Z → is_good p off d z ≡ true → part (pointer_byte p d z) 4 k.pointers ≡ part (pointer_byte p d z) 4 h.pointers

-- the lent buffers with other drives
abbrev pub lent_on : Lent → Disk → Lent
lent_on l h = lent_all l.offline h (lent_memory l) l.state

-- the same answer, the same buffers beside the drives, the same block, and the same stores
pub record SameCall (p : Params) (l : Lent) (h : Disk) (c : Call) : Type 0 where
  pub same_answer : (call_bytes p l c).answer ≡ (call_bytes p (lent_on l h) c).answer
  pub same_block : (call_bytes p l c).block ≡ (call_bytes p (lent_on l h) c).block
  pub same_rest : lent_on (call_bytes p l c).lent (lent_disk l) ≡ lent_on (call_bytes p (lent_on l h) c).lent (lent_disk l)
  pub same_stores : (ss : List Store) × (lent_disk (call_bytes p l c).lent ≡ store_all (store_disk p) ss (lent_disk l))
      × (lent_disk (call_bytes p (lent_on l h) c).lent ≡ store_all (store_disk p) ss h)

-- 02, item 4: "such zones are never read, stored to, reset or checked": of every call; that they are not stored to is in the zone rules
abbrev pub OfflineApart : Type 0
OfflineApart = (p : Params) (l : Lent) (h : Disk) (c : Call) → SameGood p l.offline (lent_disk l) h → SameCall p l h c
