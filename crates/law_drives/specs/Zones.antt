-- What a list of stores does to one zone, and when it fits.
use Rattle.std.specs.Prelude.{◌≡◌, refl, List, [], ◌∷◌, Bool, true, false, cond, ◌&&◌, ◌⊎◌, ℕ, suc, ◌<◌, eqb, length, get_or, set}
use Rattle.std.proofs.Common.{sym, ap, ap₂, ◌∙◌, subst, inl, inr, eqb-true, length-set, get_or-set_same, get_or-set_other}
use Rattle.std.proofs.Math.Decide.{ℕ_discrete}
use Rattle.std.proofs.lemmas.Bool.{eqb-false}
use Rattle.spec.specs.declared.Params.{Params}
use Rattle.spec.specs.Drives.{Chunk, mk_chunk, no_chunk, Zone, no_zone, View, zone_at, pointer_at, Store, put_zone, reset_zone, set_zone, store_view_of, store_all}
use Rattle.spec.specs.Drives.Store.{put, reset}
use Rattle.spec.specs.Lists.{cons_if, keep}
use Rattle.spec.specs.Params.{spare_len, capacity}
use Rattle.law_basic.specs.Ranges.{Test, test, and_left, and_right, and_both}
use Rattle.law_basic.specs.Ranges.Test.{yes!, no! }
use Rattle.law_views.specs.Views.{Fits, AllFit}
use Rattle.law_drives.specs.Members.{In}
use Rattle.law_drives.specs.Tests.{cond_true, cond_false, eqb_self}

-- the view has N drives of Z zones
pub record Sized (p : Params) (v : View) : Type 0 where
  pub drives_long : length v.zones ≡ p.N
  pub zones_long : (d : ℕ) → d < p.N → length (get_or v.zones d []) ≡ p.Z

-- ---- bytes, chunks and zones as they should be

abbrev pub Bytes : List ℕ → Type 0
Bytes l = (i : ℕ) → get_or l i 0 < 256

-- the numbers of header and footer blocks
abbrev pub Plain : Params → ℕ → Type 0
Plain p b = (b ≡ 0) ⊎ (p.S < b)

-- block and spare have their lengths; the spare is of bytes, and so are header and footer blocks
pub record SoundChunk (p : Params) (b : ℕ) (c : Chunk) : Type 0 where
  pub block_long : length c.block ≡ p.B
  pub spare_long : length c.spare ≡ spare_len
  pub spare_bytes : Bytes c.spare
  pub block_bytes : Plain p b → Bytes c.block

pub record ZoneOk (p : Params) (q : Zone) : Type 0 where
  pub blocks_long : length q.blocks ≡ capacity p
  pub sound : (b : ℕ) → b < capacity p → SoundChunk p b (get_or q.blocks b no_chunk)

pub record Shaped (p : Params) (v : View) : Type 0 where
  pub sized : Sized p v
  pub zone_ok : (d z : ℕ) → d < p.N → z < p.Z → ZoneOk p (zone_at v d z)

-- ---- one store

unfoldable pub hits_at_of : ℕ → ℕ → Store → Bool
hits_at_of d z (put e y b s) = eqb e d && eqb y z
hits_at_of d z (reset e y) = eqb e d && eqb y z

unfoldable pub zone_store : Store → Zone → Zone
zone_store (put e y b s) q = put_zone b s q
zone_store (reset e y) q = reset_zone q

abbrev pub hits : ℕ → ℕ → List Store → List Store
hits d z ss = keep (hits_at_of d z) ss

pub zone_set : (p : Params) (v : View) (d z : ℕ) (q : Zone) → Sized p v → d < p.N → z < p.Z → zone_at (set_zone v d z q) d z ≡ q
unfolding zone_at set_zone
zone_set p v d z q s hd hz =
    ap (λ x. get_or x z no_zone) (get_or-set_same v.zones d (set (get_or v.zones d []) z q) [] (subst (λ x. d < x) (sym s.drives_long) hd))
    ∙ get_or-set_same (get_or v.zones d []) z q no_zone (subst (λ x. z < x) (sym (s.zones_long d hd)) hz)

pub zone_set_other : (p : Params) (v : View) (d z e y : ℕ) (q : Zone) → (eqb e d && eqb y z) ≡ false → Sized p v → d < p.N → zone_at (set_zone v e y q) d z ≡ zone_at v d z
unfolding zone_at set_zone
zone_set_other p v d z e y q h s hd = go (test (eqb e d))
  where
    go : Test (eqb e d) → get_or (get_or (set v.zones e (set (get_or v.zones e []) y q)) d []) z no_zone ≡ get_or (get_or v.zones d []) z no_zone
    go (no! n) = ap (λ x. get_or x z no_zone) (get_or-set_other v.zones e d (set (get_or v.zones e []) y q) [] (λ x. eqb-false e d n (sym x)))
    go (yes! n) =
        let i : e ≡ d = eqb-true e d n in
        let k : eqb y z ≡ false = rw n at h in
        ap (λ x. get_or (get_or (set v.zones x (set (get_or v.zones x []) y q)) d []) z no_zone) i
        ∙ ap (λ x. get_or x z no_zone) (get_or-set_same v.zones d (set (get_or v.zones d []) y q) [] (subst (λ x. d < x) (sym s.drives_long) hd))
        ∙ get_or-set_other (get_or v.zones d []) y z q no_zone (λ x. eqb-false y z k (sym x))

pub sized_set : (p : Params) (v : View) (d z : ℕ) (q : Zone) → Sized p v → Sized p (set_zone v d z q)
unfolding set_zone
sized_set p v d z q s = record {
  drives_long = length-set v.zones d (set (get_or v.zones d []) z q) ∙ s.drives_long;
  zones_long = λ e h. go e h (ℕ_discrete e d);
}
  where
    go : (e : ℕ) → e < p.N → Dec (e ≡ d) → length (get_or (set v.zones d (set (get_or v.zones d []) z q)) e []) ≡ p.Z
    go e h (yes x) = ap length (ap (λ y. get_or (set v.zones d (set (get_or v.zones d []) z q)) y []) x
        ∙ get_or-set_same v.zones d (set (get_or v.zones d []) z q) [] (subst (λ y. d < y) (sym s.drives_long) (subst (λ y. y < p.N) x h)))
        ∙ length-set (get_or v.zones d []) z q ∙ s.zones_long d (subst (λ y. y < p.N) x h)
    go e h (no x) = ap length (get_or-set_other v.zones d e (set (get_or v.zones d []) z q) [] x) ∙ s.zones_long e h

pub sized_store : (p : Params) (v : View) (s : Store) → Sized p v → Sized p (store_view_of s v)
unfolding store_view_of
sized_store p v (put e y b s) w = sized_set p v e y (put_zone b s (zone_at v e y)) w
sized_store p v (reset e y) w = sized_set p v e y (reset_zone (zone_at v e y)) w

pub zone_stored : (p : Params) (v : View) (d z : ℕ) (s : Store) → Sized p v → d < p.N → z < p.Z
    → zone_at (store_view_of s v) d z ≡ cond (hits_at_of d z s) (zone_store s (zone_at v d z)) (zone_at v d z)
unfolding store_view_of hits_at_of zone_store
zone_stored p v d z (put e y b s) w hd hz = go (test (eqb e d && eqb y z))
  where
    go : Test (eqb e d && eqb y z) → zone_at (set_zone v e y (put_zone b s (zone_at v e y))) d z ≡ cond (eqb e d && eqb y z) (put_zone b s (zone_at v d z)) (zone_at v d z)
    go (yes! h) =
        let i : e ≡ d = eqb-true e d (and_left (eqb e d) (eqb y z) h) in
        let j : y ≡ z = eqb-true y z (and_right (eqb e d) (eqb y z) h) in
        ap₂ (λ x t. zone_at (set_zone v x t (put_zone b s (zone_at v x t))) d z) i j
        ∙ zone_set p v d z (put_zone b s (zone_at v d z)) w hd hz
        ∙ sym (cond_true (eqb e d && eqb y z) (put_zone b s (zone_at v d z)) (zone_at v d z) h)
    go (no! h) = zone_set_other p v d z e y (put_zone b s (zone_at v e y)) h w hd
        ∙ sym (cond_false (eqb e d && eqb y z) (put_zone b s (zone_at v d z)) (zone_at v d z) h)
zone_stored p v d z (reset e y) w hd hz = go (test (eqb e d && eqb y z))
  where
    go : Test (eqb e d && eqb y z) → zone_at (set_zone v e y (reset_zone (zone_at v e y))) d z ≡ cond (eqb e d && eqb y z) (reset_zone (zone_at v d z)) (zone_at v d z)
    go (yes! h) =
        let i : e ≡ d = eqb-true e d (and_left (eqb e d) (eqb y z) h) in
        let j : y ≡ z = eqb-true y z (and_right (eqb e d) (eqb y z) h) in
        ap₂ (λ x t. zone_at (set_zone v x t (reset_zone (zone_at v x t))) d z) i j
        ∙ zone_set p v d z (reset_zone (zone_at v d z)) w hd hz
        ∙ sym (cond_true (eqb e d && eqb y z) (reset_zone (zone_at v d z)) (zone_at v d z) h)
    go (no! h) = zone_set_other p v d z e y (reset_zone (zone_at v e y)) h w hd
        ∙ sym (cond_false (eqb e d && eqb y z) (reset_zone (zone_at v d z)) (zone_at v d z) h)

-- ---- a list of stores, zone by zone

pub zone_after : (p : Params) (v : View) (d z : ℕ) (ss : List Store) → Sized p v → d < p.N → z < p.Z
    → zone_at (store_all store_view_of ss v) d z ≡ store_all zone_store (hits d z ss) (zone_at v d z)
unfolding store_all keep cons_if
zone_after p v d z [] w hd hz = refl
zone_after p v d z (s ∷ ss) w hd hz = go (test (hits_at_of d z s)) (zone_after p (store_view_of s v) d z ss (sized_store p v s w) hd hz)
  where
    go : Test (hits_at_of d z s) → zone_at (store_all store_view_of ss (store_view_of s v)) d z ≡ store_all zone_store (hits d z ss) (zone_at (store_view_of s v) d z)
        → zone_at (store_all store_view_of (s ∷ ss) v) d z ≡ store_all zone_store (hits d z (s ∷ ss)) (zone_at v d z)
    go (yes! h) ih = ih ∙ ap (store_all zone_store (hits d z ss)) (zone_stored p v d z s w hd hz ∙ cond_true (hits_at_of d z s) (zone_store s (zone_at v d z)) (zone_at v d z) h) ∙ rw h refl
    go (no! h) ih = ih ∙ ap (store_all zone_store (hits d z ss)) (zone_stored p v d z s w hd hz ∙ cond_false (hits_at_of d z s) (zone_store s (zone_at v d z)) (zone_at v d z) h) ∙ rw h refl

-- what a put must be, at pointer n
pub record Fine (p : Params) (n : ℕ) (b s : List ℕ) : Type 0 where
  pub room : n < capacity p
  pub fine : SoundChunk p n (mk_chunk b s)

-- the stores of one zone, from pointer n on
abbrev pub Room : Params → ℕ → List Store → Type 0
Room p n [] = Unit {0}
Room p n (put d z b s ∷ ss) = Fine p n b s × Room p (suc n) ss
Room p n (reset d z ∷ ss) = Room p 0 ss

abbrev pub Within : Params → Store → Type 0
Within p (put d z b s) = (d < p.N) × (z < p.Z)
Within p (reset d z) = (d < p.N) × (z < p.Z)

pub put_ok : (p : Params) (b s : List ℕ) (q : Zone) → Fine p q.pointer b s → ZoneOk p q → ZoneOk p (put_zone b s q)
unfolding put_zone
put_ok p b s q f k = record {
  blocks_long = length-set q.blocks q.pointer (mk_chunk b s) ∙ k.blocks_long;
  sound = λ i h. go i h (ℕ_discrete i q.pointer);
}
  where
    go : (i : ℕ) → i < capacity p → Dec (i ≡ q.pointer) → SoundChunk p i (get_or (set q.blocks q.pointer (mk_chunk b s)) i no_chunk)
    go i h (yes e) = subst (λ x. SoundChunk p x (get_or (set q.blocks q.pointer (mk_chunk b s)) x no_chunk)) (sym e)
        (subst (λ c. SoundChunk p q.pointer c) (sym (get_or-set_same q.blocks q.pointer (mk_chunk b s) no_chunk (subst (λ x. q.pointer < x) (sym k.blocks_long) f.room))) f.fine)
    go i h (no e) = subst (λ c. SoundChunk p i c) (sym (get_or-set_other q.blocks q.pointer i (mk_chunk b s) no_chunk e)) (k.sound i h)

pub reset_ok : (p : Params) (q : Zone) → ZoneOk p q → ZoneOk p (reset_zone q)
unfolding reset_zone
reset_ok p q k = record { blocks_long = k.blocks_long; sound = k.sound }

pub put_pointer : (b s : List ℕ) (q : Zone) → (put_zone b s q).pointer ≡ suc q.pointer
unfolding put_zone
put_pointer b s q = refl

pub reset_pointer : (q : Zone) → (reset_zone q).pointer ≡ 0
unfolding reset_zone
reset_pointer q = refl

-- stores that have room in their zone leave it sound
pub room_ok : (p : Params) (ss : List Store) (q : Zone) → Room p q.pointer ss → ZoneOk p q → ZoneOk p (store_all zone_store ss q)
unfolding store_all zone_store
room_ok p [] q r k = k
room_ok p (put d z b s ∷ ss) q r k =
    room_ok p ss (put_zone b s q) (subst (λ x. Room p x ss) (sym (put_pointer b s q)) r.1) (put_ok p b s q r.0 k)
room_ok p (reset d z ∷ ss) q r k = room_ok p ss (reset_zone q) (subst (λ x. Room p x ss) (sym (reset_pointer q)) r) (reset_ok p q k)

-- the stores of a list have room where they fall
abbrev pub Roomy : Params → View → List Store → Type 0
Roomy p v ss = (d z : ℕ) → d < p.N → z < p.Z → Room p (pointer_at v d z) (hits d z ss)

pub hits_yes : (d z : ℕ) (s : Store) (ss : List Store) → hits_at_of d z s ≡ true → hits d z (s ∷ ss) ≡ s ∷ hits d z ss
unfolding keep cons_if
hits_yes d z s ss h = rw h

pub hits_no : (d z : ℕ) (s : Store) (ss : List Store) → hits_at_of d z s ≡ false → hits d z (s ∷ ss) ≡ hits d z ss
unfolding keep cons_if
hits_no d z s ss h = rw h

hit_self : (p : Params) (d z : ℕ) (b s : List ℕ) → hits_at_of d z (put d z b s) ≡ true
unfolding hits_at_of
hit_self p d z b s = and_both (eqb d d) (eqb z z) (eqb_self d) (eqb_self z)

room_put : (p : Params) (d z : ℕ) (b s : List ℕ) (ss : List Store) (n : ℕ) → Room p n (put d z b s ∷ ss) → Fine p n b s
room_put p d z b s ss n r = r.0

-- after a store the rest has room
room_next : (p : Params) (s : Store) (ss : List Store) (q : Zone) → Room p q.pointer (s ∷ ss) → Room p (zone_store s q).pointer ss
unfolding zone_store
room_next p (put d z b s) ss q r = subst (λ x. Room p x ss) (sym (put_pointer b s q)) r.1
room_next p (reset d z) ss q r = subst (λ x. Room p x ss) (sym (reset_pointer q)) r

pub roomy_next : (p : Params) (v : View) (s : Store) (ss : List Store) → Sized p v → Roomy p v (s ∷ ss) → Roomy p (store_view_of s v) ss
unfolding pointer_at
roomy_next p v s ss w r d z hd hz = go (test (hits_at_of d z s))
  where
    go : Test (hits_at_of d z s) → Room p (zone_at (store_view_of s v) d z).pointer (hits d z ss)
    go (yes! h) =
        subst (λ x. Room p x.pointer (hits d z ss))
        (sym (zone_stored p v d z s w hd hz ∙ cond_true (hits_at_of d z s) (zone_store s (zone_at v d z)) (zone_at v d z) h))
        (room_next p s (hits d z ss) (zone_at v d z) (subst (λ x. Room p (zone_at v d z).pointer x) (hits_yes d z s ss h) (r d z hd hz)))
    go (no! h) =
        subst (λ x. Room p x.pointer (hits d z ss))
        (sym (zone_stored p v d z s w hd hz ∙ cond_false (hits_at_of d z s) (zone_store s (zone_at v d z)) (zone_at v d z) h))
        (subst (λ x. Room p (zone_at v d z).pointer x) (hits_no d z s ss h) (r d z hd hz))

fits_first : (p : Params) (v : View) (s : Store) (ss : List Store) → Within p s → Roomy p v (s ∷ ss) → Fits p v s
fits_first p v (put d z b s) ss w r =
    let f : Fine p (pointer_at v d z) b s = room_put p d z b s (hits d z ss) (pointer_at v d z)
    (subst (λ x. Room p (pointer_at v d z) x) (hits_yes d z (put d z b s) ss (hit_self p d z b s)) (r d z w.0 w.1)) in
    (w.0, w.1, f.room, f.fine.block_long, f.fine.spare_long)
fits_first p v (reset d z) ss w r = w

-- stores within the array that have room fit
pub all_fit : (p : Params) (v : View) (ss : List Store) → Sized p v → ((s : Store) → In s ss → Within p s) → Roomy p v ss → AllFit p v ss
all_fit p v [] w i r = tt
all_fit p v (s ∷ ss) w i r = (
  fits_first p v s ss (i s (inl refl)) r,
  all_fit p (store_view_of s v) ss (sized_store p v s w) (λ t m. i t (inr m)) (roomy_next p v s ss w r),
)

pub sized_after : (p : Params) (v : View) (ss : List Store) → Sized p v → Sized p (store_all store_view_of ss v)
unfolding store_all
sized_after p v [] w = w
sized_after p v (s ∷ ss) w = sized_after p (store_view_of s v) ss (sized_store p v s w)

-- and leave every zone sound
pub shaped_after : (p : Params) (v : View) (ss : List Store) → Shaped p v → Roomy p v ss → Shaped p (store_all store_view_of ss v)
unfolding pointer_at
shaped_after p v ss k r = record {
  sized = sized_after p v ss k.sized;
  zone_ok = λ d z hd hz. subst (λ x. ZoneOk p x) (sym (zone_after p v d z ss k.sized hd hz))
      (room_ok p (hits d z ss) (zone_at v d z) (r d z hd hz) (k.zone_ok d z hd hz));
}
