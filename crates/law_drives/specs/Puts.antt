-- Puts in a row on one zone, resets, and which stores of a list fall on a zone.
use Rattle.std.specs.Prelude.{◌≡◌, List, [], ◌∷◌, ◌++◌, map, Bool, true, false, cond, ◌&&◌, ℕ, zero, suc, ◌+◌, ◌≤◌, ◌<◌, eqb, length, get_or}
use Rattle.std.proofs.Math.Path.{refl}
use Rattle.std.proofs.Common.{sym, ap, ap₂, ◌∙◌, subst, ⊎_elim, add-zero, eq-eqb, ne_eqb, eqb-true, arith, length-set, get_or-set_same, get_or-set_other}
use Rattle.std.proofs.Math.Decide.{ℕ_discrete}
use Rattle.spec.specs.declared.Params.{Params}
use Rattle.spec.specs.Drives.{Chunk, mk_chunk, no_chunk, Zone, Store, put_zone, store_all, zone_on, zero_spare, header_stores, reset_stores, zones_in}
use Rattle.spec.specs.Drives.Store.{put, reset}
use Rattle.spec.specs.Layout.{header_block, Rec, record_bytes, footer_block}
use Rattle.spec.specs.Lists.{up_from, below, cons_if, keep, flat}
use Rattle.spec.specs.Params.{spare_len, capacity, drives_of}
use Rattle.law_basic.specs.Fields.{length_record, length-zero_spare, header_block_long}
use Rattle.law_basic.specs.Geometry.{Ranged}
use Rattle.law_basic.specs.Ranges.{Test, test, keep_append, keep-map}
use Rattle.law_basic.specs.Ranges.Test.{yes!, no! }
use Rattle.law_drives.specs.Laid.{bytes_header, bytes_zero_spare, bytes_record, Long, length_footer, bytes_footer}
use Rattle.law_drives.specs.Members.{In, map_in, keep_nothing, keep_all, keep-flat, from_in}
use Rattle.law_drives.specs.Tables.{the_row}
use Rattle.law_drives.specs.Tests.{and_false_right}
use Rattle.law_drives.specs.Zones.{Bytes, SoundChunk, hits_at_of, zone_store, hits, Room}
use Rattle.spec.specs.declared.Seg.{Seg}

-- ---- which fall on a zone

pub hits-append : (d z : ℕ) (ss ts : List Store) → hits d z (ss ++ ts) ≡ hits d z ss ++ hits d z ts
hits-append d z ss ts = keep_append (hits_at_of d z) ss ts

pub hits-flat : {A : Type 0} (d z : ℕ) (f : A → List Store) (l : List A) → hits d z (flat f l) ≡ flat (λ a. hits d z (f a)) l
hits-flat d z f l = keep-flat (hits_at_of d z) f l

-- the store of a chunk
unfoldable pub put_at : ℕ → ℕ → Chunk → Store
put_at d z c = put d z c.block c.spare

pub hits-puts : (e y d z : ℕ) (cs : List Chunk) → hits e y (map (put_at d z) cs) ≡ cond (eqb d e && eqb z y) (map (put_at d z) cs) []
hits-puts e y d z cs = go (test (eqb d e && eqb z y))
  where
    hit : (c : Chunk) → hits_at_of e y (put_at d z c) ≡ (eqb d e && eqb z y)
    hit c = unfold hits_at_of put_at in refl

    of : (s : Store) → In s (map (put_at d z) cs) → hits_at_of e y s ≡ (eqb d e && eqb z y)
    of s m = let (c, i, q) = map_in (put_at d z) cs s m in ap (hits_at_of e y) q ∙ hit c

    go : Test (eqb d e && eqb z y) → hits e y (map (put_at d z) cs) ≡ cond (eqb d e && eqb z y) (map (put_at d z) cs) []
    go (yes! q) = rw q (keep_all (hits_at_of e y) (map (put_at d z) cs) (λ s m. of s m ∙ q))
    go (no! q) = rw q (keep_nothing (hits_at_of e y) (map (put_at d z) cs) (λ s m. of s m ∙ q))

-- one number of a range
pub keep_one : (f : ℕ → Bool) (z i n : ℕ) → ((y : ℕ) → f y ≡ eqb y z) → i ≤ z → z < i + n → keep f (up_from i n) ≡ z ∷ []
unfolding keep cons_if up_from
keep_one f z i zero h a b = absurd (let q : ⊥ = omega arith in q)
keep_one f z i (suc n) h a b = go (ℕ_discrete i z) (keep_one f z (suc i) n h)
  where
    go : Dec (i ≡ z) → (suc i ≤ z → z < suc i + n → keep f (up_from (suc i) n) ≡ z ∷ []) → cons_if (f i) i (keep f (up_from (suc i) n)) ≡ z ∷ []
    go (yes e) ih =
        let t : f i ≡ true = h i ∙ eq-eqb i z e in
        rw t (ap₂ ◌∷◌ e (keep_nothing f (up_from (suc i) n) (λ y m. let (u, w) = from_in (suc i) n y m in h y ∙ ne_eqb y z (λ q. let x : ⊥ = omega arith in x))))
    go (no e) ih = let t : f i ≡ false = h i ∙ ne_eqb i z e in rw t (ih (omega arith) (omega arith))

pub keep-one-below : (f : ℕ → Bool) (z n : ℕ) → ((y : ℕ) → f y ≡ eqb y z) → z < n → keep f (below n) ≡ z ∷ []
unfolding below
keep-one-below f z n h b = keep_one f z 0 n h (omega arith) (omega arith)

-- a zone that each drive has of its own counts on the drive alone
pub on_drive : (z : ℕ → ℕ) (d e y : ℕ) → (eqb d e && eqb (z d) y) ≡ (eqb d e && eqb (z e) y)
on_drive z d e y = go (test (eqb d e))
  where
    go : Test (eqb d e) → (eqb d e && eqb (z d) y) ≡ (eqb d e && eqb (z e) y)
    go (yes! q) = ap (λ (x : ℕ). eqb d e && eqb (z x) y) (eqb-true d e q)
    go (no! q) = rw q

-- of a store for each drive, those that fall on a zone of drive e
pub hits_drives : (p : Params) (e y : ℕ) (z : ℕ → ℕ) (f : ℕ → Store) → ((d : ℕ) → hits_at_of e y (f d) ≡ (eqb d e && eqb (z d) y)) → e < p.N
    → hits e y (map f (drives_of p)) ≡ cond (eqb (z e) y) (f e ∷ []) []
unfolding drives_of
hits_drives p e y z f h he = keep-map (hits_at_of e y) f (below p.N) ∙ go (test (eqb (z e) y))
  where
    go : Test (eqb (z e) y) → map f (keep (λ d. hits_at_of e y (f d)) (below p.N)) ≡ cond (eqb (z e) y) (f e ∷ []) []
    go (yes! q) = rw q (ap (map f) (keep-one-below (λ d. hits_at_of e y (f d)) e p.N (λ d. h d ∙ on_drive z d e y ∙ (ap (λ (x : Bool). eqb d e && x) q ∙ and_true! (eqb d e))) he))
      where
        and_true! : (b : Bool) → b && true ≡ b
        and_true! true = refl
        and_true! false = refl
    go (no! q) = rw q (ap (map f) (keep_nothing (λ d. hits_at_of e y (f d)) (below p.N) (λ d m. h d ∙ on_drive z d e y ∙ and_false_right (eqb d e) (eqb (z e) y) q)))

pub hits-resets : (p : Params) (e y : ℕ) (g : Seg) → e < p.N → hits e y (reset_stores p g) ≡ cond (eqb (zone_on g e) y) (reset e (zone_on g e) ∷ []) []
unfolding reset_stores
hits-resets p e y g h = hits_drives p e y (zone_on g) (λ d. reset d (zone_on g d)) (λ d. unfold hits_at_of in refl) h

pub hits-headers : (p : Params) (e y : ℕ) (g : Seg) (r c : ℕ) → e < p.N
    → hits e y (header_stores p g r c) ≡ cond (eqb (zone_on g e) y) (put e (zone_on g e) (header_block p e (zones_in p g) r c) zero_spare ∷ []) []
unfolding header_stores
hits-headers p e y g r c h = hits_drives p e y (zone_on g) (λ d. put d (zone_on g d) (header_block p d (zones_in p g) r c) zero_spare) (λ d. unfold hits_at_of in refl) h

-- of a list for each number of a range, those of one number
pub flat-one : {B : Type 0} (h : ℕ → Bool) (f : ℕ → List B) (z n : ℕ) → z < n → flat (λ g. cond (eqb g z) (f g) []) (keep h (below n)) ≡ cond (h z) (f z) []
unfolding below
flat-one h f z n l = the_row h f z 0 n (omega arith) (omega arith)

-- ---- puts in a row

abbrev pub put_all : ℕ → ℕ → List Chunk → Zone → Zone
put_all d z cs q = store_all zone_store (map (put_at d z) cs) q

pub puts_pointer : (d z : ℕ) (cs : List Chunk) (q : Zone) → (put_all d z cs q).pointer ≡ q.pointer + length cs
unfolding store_all zone_store put_at put_zone
puts_pointer d z [] q = sym (add-zero q.pointer)
puts_pointer d z (c ∷ cs) q = puts_pointer d z cs (put_zone c.block c.spare q) ∙ omega arith

-- what was there stays
pub puts_old : (d z : ℕ) (cs : List Chunk) (q : Zone) (b : ℕ) → b < q.pointer → get_or (put_all d z cs q).blocks b no_chunk ≡ get_or q.blocks b no_chunk
unfolding store_all zone_store put_at put_zone
puts_old d z [] q b h = refl
puts_old d z (c ∷ cs) q b h =
    puts_old d z cs (put_zone c.block c.spare q) b (omega arith) ∙ get_or-set_other q.blocks q.pointer b (mk_chunk c.block c.spare) no_chunk (λ e. let x : ⊥ = omega arith in x)

-- and what is put is there
pub puts_new : (d z : ℕ) (cs : List Chunk) (q : Zone) (i : ℕ) → i < length cs → q.pointer + length cs ≤ length q.blocks
    → get_or (put_all d z cs q).blocks (q.pointer + i) no_chunk ≡ get_or cs i no_chunk
unfolding store_all zone_store put_at put_zone
puts_new d z [] q i h l = absurd (let x : ⊥ = omega arith in x)
puts_new d z (c ∷ cs) q zero h l =
    ap (λ (x : ℕ). get_or (put_all d z cs (put_zone c.block c.spare q)).blocks x no_chunk) (add-zero q.pointer)
    ∙ puts_old d z cs (put_zone c.block c.spare q) q.pointer (omega arith)
    ∙ get_or-set_same q.blocks q.pointer (mk_chunk c.block c.spare) no_chunk (omega arith)
puts_new d z (c ∷ cs) q (suc i) h l =
    ap (λ (x : ℕ). get_or (put_all d z cs (put_zone c.block c.spare q)).blocks x no_chunk) (let e : q.pointer + suc i ≡ suc q.pointer + i = omega arith in e)
    ∙ puts_new d z cs (put_zone c.block c.spare q) i (omega arith)
    (subst (λ (x : ℕ). suc q.pointer + length cs ≤ x) (sym (length-set q.blocks q.pointer (mk_chunk c.block c.spare))) (omega arith))

-- ---- room

pub room_puts : (p : Params) (d z n : ℕ) (cs : List Chunk) → n + length cs ≤ capacity p → ((i : ℕ) → i < length cs → SoundChunk p (n + i) (get_or cs i no_chunk))
    → Room p n (map (put_at d z) cs)
unfolding put_at
room_puts p d z n [] h f = tt
room_puts p d z n (c ∷ cs) h f = (
  record { room = omega arith; fine = subst (λ (x : ℕ). SoundChunk p x c) (add-zero n) (f 0 (omega arith)) },
  room_puts p d z (suc n) cs (omega arith) (λ i l. subst (λ (x : ℕ). SoundChunk p x (get_or cs i no_chunk)) (let e : n + suc i ≡ suc n + i = omega arith in e) (f (suc i) (omega arith))),
)

pub room_append : (p : Params) (d z n : ℕ) (cs : List Chunk) (ss : List Store) → Room p n (map (put_at d z) cs) → Room p (n + length cs) ss → Room p n (map (put_at d z) cs ++ ss)
unfolding put_at
room_append p d z n [] ss a b = subst (λ (x : ℕ). Room p x ss) (add-zero n) b
room_append p d z n (c ∷ cs) ss a b = (a.0, room_append p d z (suc n) cs ss a.1 (subst (λ (x : ℕ). Room p x ss) (let e : n + suc (length cs) ≡ suc n + length cs = omega arith in e) b))

-- ---- chunks that are sound

pub header_sound : (p : Params) → Ranged p → (d : ℕ) (zs : List ℕ) (r c : ℕ) → length zs ≡ p.N → SoundChunk p 0 (mk_chunk (header_block p d zs r c) zero_spare)
header_sound p r d zs s c n = record {
  block_long = header_block_long p r d zs s c n;
  spare_long = length-zero_spare;
  spare_bytes = bytes_zero_spare;
  block_bytes = λ x. bytes_header p d zs s c;
}

-- a data chunk
pub data_sound : (p : Params) (n : ℕ) (b : List ℕ) (r : Rec) → 1 ≤ n → n ≤ p.S → length b ≡ p.B → SoundChunk p n (mk_chunk b (record_bytes r))
data_sound p n b r l h e = record {
  block_long = e;
  spare_long = length_record r;
  spare_bytes = bytes_record r;
  block_bytes = λ x. absurd (⊎_elim (λ y. let z : ⊥ = omega arith in z) (λ y. let z : ⊥ = omega arith in z) x);
}

pub footer_sound : (p : Params) → Ranged p → (n : ℕ) (ss : List (List ℕ)) (i : ℕ) → Long spare_len ss → ((s : List ℕ) → In s ss → Bytes s)
    → SoundChunk p n (mk_chunk (footer_block p ss i) zero_spare)
footer_sound p r n ss i l b = record {
  block_long = length_footer p r ss i l;
  spare_long = length-zero_spare;
  spare_bytes = bytes_zero_spare;
  block_bytes = λ x. bytes_footer p ss i b;
}
