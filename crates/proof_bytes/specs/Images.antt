-- Bytes on the drives: the view of an image of bytes holds bytes, and stores of bytes keep that. Assumes nothing.
use Rattle.std.specs.Prelude.{refl, List, [], ◌∷◌, ◌++◌, map, Bool, true, false, cond, length, get_or, take, drop, set}
use Rattle.std.proofs.Common.{sym, subst, inl, inr, ⊎_elim}
use Prim.Native.Nat.{ℕ, zero, suc, ◌+◌, ◌*◌}
use Rattle.spec.specs.declared.Params.{Params}
use Rattle.spec.specs.Bytes.{splice}
use Rattle.spec.specs.Drives.{Chunk, mk_chunk, no_chunk, Zone, mk_zone, no_zone, View, zone_at, chunk_of, zone_of, drive_of, view_of, Store, put_zone, reset_zone}
use Rattle.spec.specs.Drives.{set_zone, store_view_of, Disk, store_disk, store_all}
use Rattle.spec.specs.Drives.{pointer_of, zones_of}
use Rattle.spec.specs.Drives.Store.{put, reset}
use Rattle.spec.specs.Lists.{flat, pieces, zipped}
use Rattle.spec.specs.Params.{capacity, unit_len, zone_len, drive_len, place_of, place_byte}
use Rattle.law_drives.specs.Image.{bytes_take, bytes_drop}
use Rattle.law_drives.specs.Laid.{bytes_nil, bytes_append}
use Rattle.law_drives.specs.Members.{In, map_in, flat_in, in_append}
use Rattle.law_drives.specs.Zones.{Bytes}
use Rattle.proof_bytes.specs.Reads.{Grounded}

-- ---- lists of bytes

pub bytes_splice : (l : List ℕ) (at : ℕ) (s : List ℕ) → Bytes l → Bytes s → Bytes (splice l at s)
unfolding splice
bytes_splice l at s h g =
    bytes_append (take at l) (s ++ drop (at + length s) l) (bytes_take at l h) (bytes_append s (drop (at + length s) l) g (bytes_drop (at + length s) l h))

-- ---- what holds of every element holds of the one asked for

pub get_map : {A B : Type 0} (P : B → Type 0) (f : A → B) (l : List A) (k : ℕ) (d : B) → P d → ((a : A) → P (f a)) → P (get_or (map f l) k d)
get_map P f [] k d h g = h
get_map P f (a ∷ l) zero d h g = g a
get_map P f (a ∷ l) (suc k) d h g = get_map P f l k d h g

get_set : {A : Type 0} (P : A → Type 0) (l : List A) (i : ℕ) (x : A) (d : A) → ((k : ℕ) → P (get_or l k d)) → P x → (k : ℕ) → P (get_or (set l i x) k d)
get_set P [] i x d h g k = h k
get_set P (a ∷ l) zero x d h g zero = g
get_set P (a ∷ l) zero x d h g (suc k) = h (suc k)
get_set P (a ∷ l) (suc i) x d h g zero = h 0
get_set P (a ∷ l) (suc i) x d h g (suc k) = get_set P l i x d (λ j. h (suc j)) g k

-- ---- the view

abbrev pub ChunkBytes : Chunk → Type 0
ChunkBytes c = Bytes c.block × Bytes c.spare

abbrev pub BytesOfZone : Zone → Type 0
BytesOfZone q = (b : ℕ) → ChunkBytes (get_or q.blocks b no_chunk)

abbrev pub ViewBytes : View → Type 0
ViewBytes v = (d z : ℕ) → BytesOfZone (zone_at v d z)

none_bytes : ChunkBytes no_chunk
unfolding no_chunk
none_bytes = (bytes_nil, bytes_nil)

pub no_zone_bytes : BytesOfZone no_zone
unfolding no_zone
no_zone_bytes b = none_bytes

module _ (p : Params) where
  chunks_of : (u n b : ℕ) (im : List ℕ) → Bytes im → ChunkBytes (get_or (map (chunk_of p) (pieces u n im)) b no_chunk)
  unfolding pieces chunk_of
  chunks_of u zero b im h = none_bytes
  chunks_of u (suc n) zero im h = (bytes_take p.B (take u im) (bytes_take u im h), bytes_drop p.B (take u im) (bytes_take u im h))
  chunks_of u (suc n) (suc b) im h = chunks_of u n b (drop u im) (bytes_drop u im h)

  zone_of_bytes : (im w : List ℕ) → Bytes im → BytesOfZone (zone_of p im w)
  unfolding zone_of
  zone_of_bytes im w h b = chunks_of (unit_len p) (capacity p) b im h

  zones_of_holds : (u n z : ℕ) (im ps : List ℕ) → Bytes im → BytesOfZone (get_or (zipped (zone_of p) (pieces u n im) (pieces 4 n ps)) z no_zone)
  unfolding pieces zipped
  zones_of_holds u zero z im ps h = no_zone_bytes
  zones_of_holds u (suc n) zero im ps h = zone_of_bytes (take u im) (take 4 ps) (bytes_take u im h)
  zones_of_holds u (suc n) (suc z) im ps h = zones_of_holds u n z (drop u im) (drop 4 ps) (bytes_drop u im h)

  drive_of_holds : (im ps : List ℕ) (z : ℕ) → Bytes im → BytesOfZone (get_or (drive_of p im ps) z no_zone)
  unfolding drive_of
  drive_of_holds im ps z h = zones_of_holds (zone_len p) p.Z z im ps h

  drives_of_holds : (u w n d z : ℕ) (im ps : List ℕ) → Bytes im → BytesOfZone (get_or (get_or (zipped (drive_of p) (pieces u n im) (pieces w n ps)) d []) z no_zone)
  unfolding pieces zipped
  drives_of_holds u w zero d z im ps h = no_zone_bytes
  drives_of_holds u w (suc n) zero z im ps h = drive_of_holds (take u im) (take w ps) z (bytes_take u im h)
  drives_of_holds u w (suc n) (suc d) z im ps h = drives_of_holds u w n d z (drop u im) (drop w ps) (bytes_drop u im h)

  -- an image of bytes is seen as bytes
  pub view_bytes : (off im ps : List ℕ) → Bytes im → ViewBytes (view_of p off im ps)
  unfolding zone_at view_of zones_of
  view_bytes off im ps h d z = drives_of_holds (drive_len p) (4 * p.Z) p.N d z im ps h

  pub view_grounded : (v : View) → ViewBytes v → Grounded p v
  view_grounded v h d z b = ((h d z b).1, λ x. (h d z b).0)

-- ---- stores

-- block and spare hold bytes
abbrev pub StoreBytes : Store → Type 0
StoreBytes (put d z b s) = Bytes b × Bytes s
StoreBytes (reset d z) = Unit {0}

abbrev pub StoresBytes : List Store → Type 0
StoresBytes ss = (s : Store) → In s ss → StoreBytes s

set_zone_bytes : (v : View) (d z : ℕ) (q : Zone) → ViewBytes v → BytesOfZone q → ViewBytes (set_zone v d z q)
unfolding zone_at set_zone
set_zone_bytes v d z q h g e y =
    get_set (λ (l : List Zone). (i : ℕ) → BytesOfZone (get_or l i no_zone)) v.zones d (set (get_or v.zones d []) z q) [] h (get_set BytesOfZone (get_or v.zones d []) z q no_zone (h d) g) e y

put_zone_bytes : (q : Zone) (b s : List ℕ) → BytesOfZone q → Bytes b → Bytes s → BytesOfZone (put_zone b s q)
unfolding put_zone
put_zone_bytes q b s h x y = get_set ChunkBytes q.blocks q.pointer (mk_chunk b s) no_chunk h (x, y)

pub store_view : (v : View) (s : Store) → ViewBytes v → StoreBytes s → ViewBytes (store_view_of s v)
unfolding store_view_of reset_zone
store_view v (put d z b s) h g = set_zone_bytes v d z (put_zone b s (zone_at v d z)) h (put_zone_bytes (zone_at v d z) b s (h d z) g.0 g.1)
store_view v (reset d z) h g = set_zone_bytes v d z (mk_zone 0 (zone_at v d z).blocks) h (h d z)

pub stores_view : (v : View) (ss : List Store) → ViewBytes v → StoresBytes ss → ViewBytes (store_all store_view_of ss v)
unfolding store_all
stores_view v [] h g = h
stores_view v (s ∷ ss) h g = stores_view (store_view_of s v) ss (store_view v s h (g s (inl refl))) (λ t m. g t (inr m))

store_disk_lem : (p : Params) (k : Disk) (s : Store) → Bytes k.image → StoreBytes s → Bytes (store_disk p s k).image
unfolding store_disk
store_disk_lem p k (put d z b s) h g = bytes_splice k.image (place_byte p (place_of p d z (pointer_of p k.pointers d z))) (b ++ s) h (bytes_append b s g.0 g.1)
store_disk_lem p k (reset d z) h g = h

pub stores_disk : (p : Params) (k : Disk) (ss : List Store) → Bytes k.image → StoresBytes ss → Bytes (store_all (store_disk p) ss k).image
unfolding store_all
stores_disk p k [] h g = h
stores_disk p k (s ∷ ss) h g = stores_disk p (store_disk p s k) ss (store_disk_lem p k s h (g s (inl refl))) (λ t m. g t (inr m))

-- ---- lists of stores

pub stores_bytes_none : StoresBytes []
stores_bytes_none s m = absurd m

pub stores_bytes_cons : (s : Store) (ss : List Store) → StoreBytes s → StoresBytes ss → StoresBytes (s ∷ ss)
stores_bytes_cons s ss h g t (inl e) = subst StoreBytes (sym e) h
stores_bytes_cons s ss h g t (inr m) = g t m

pub stores_bytes_append : (ss ts : List Store) → StoresBytes ss → StoresBytes ts → StoresBytes (ss ++ ts)
stores_bytes_append ss ts h g s m = ⊎_elim (λ x. h s x) (λ x. g s x) (in_append s ss ts m)

pub stores_cond : (b : Bool) (ss ts : List Store) → StoresBytes ss → StoresBytes ts → StoresBytes (cond b ss ts)
stores_cond true ss ts h g = h
stores_cond false ss ts h g = g

pub stores_map : {A : Type 0} (f : A → Store) (l : List A) → ((a : A) → In a l → StoreBytes (f a)) → StoresBytes (map f l)
stores_map f l h s m = let (a, i, e) = map_in f l s m in subst StoreBytes (sym e) (h a i)

pub stores_flat : {A : Type 0} (f : A → List Store) (l : List A) → ((a : A) → In a l → StoresBytes (f a)) → StoresBytes (flat f l)
stores_flat f l h s m = let (a, i, e) = flat_in f l s m in h a i s e
