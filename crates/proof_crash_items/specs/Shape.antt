-- The shape of a view: its lengths; what a store changes of it. Assumes nothing.
use Rattle.std.specs.Prelude.{◌≡◌, List, [], ◌∷◌, ◌⊎◌, ◌≢◌, length, get_or, take, set}
use Rattle.std.proofs.Math.Path.{refl, ap}
use Rattle.std.proofs.Common.{sym, ◌∙◌, inl, inr, ⊎_elim, arith, length-set, get_or-set_same, get_or-set_other}
use Prim.Native.Nat.{ℕ, zero, suc, ◌<◌}
use Rattle.std.proofs.Math.Decide.{ℕ_discrete}
use Rattle.spec.specs.declared.Params.{Params}
use Rattle.spec.specs.Drives.{Chunk, mk_chunk, no_chunk, Zone, no_zone, View, zone_at, pointer_at, chunk_at, Store, put_zone, reset_zone, set_zone, store_view_of, store_all}
use Rattle.spec.specs.Drives.Store.{put, reset}
use Rattle.spec.specs.Params.{spare_len, capacity}
use Rattle.law_views.specs.Views.{Fits, AllFit}

pub record Shape (p : Params) (v : View) : Type 0 where
  pub drives : length v.zones ≡ p.N
  pub zones : (d : ℕ) → d < p.N → length (get_or v.zones d []) ≡ p.Z
  pub blocks : (d z : ℕ) → d < p.N → z < p.Z → length (zone_at v d z).blocks ≡ capacity p
  pub long : (d z k : ℕ) → d < p.N → z < p.Z → k < capacity p → (length (chunk_at v d z k).block ≡ p.B) × (length (chunk_at v d z k).spare ≡ spare_len)

-- ---- one zone set

pub zone_set_at : (p : Params) (v : View) → Shape p v → (d z : ℕ) (q : Zone) → d < p.N → z < p.Z → zone_at (set_zone v d z q) d z ≡ q
unfolding zone_at set_zone
zone_set_at p v h d z q l k =
    ap (λ (x : List Zone). get_or x z no_zone) (get_or-set_same v.zones d (set (get_or v.zones d []) z q) [] (omega (arith, h.drives)))
    ∙ get_or-set_same (get_or v.zones d []) z q no_zone (omega (arith, h.zones d l))

pub zone_set_else : (p : Params) (v : View) → Shape p v → (d z : ℕ) (q : Zone) → d < p.N → (e y : ℕ) → (e ≢ d) ⊎ (y ≢ z) → zone_at (set_zone v d z q) e y ≡ zone_at v e y
unfolding zone_at set_zone
zone_set_else p v h d z q l e y n = go (ℕ_discrete e d)
  where
    go : Dec (e ≡ d) → get_or (get_or (set v.zones d (set (get_or v.zones d []) z q)) e []) y no_zone ≡ get_or (get_or v.zones e []) y no_zone
    go (no k) = ap (λ (x : List Zone). get_or x y no_zone) (get_or-set_other v.zones d e (set (get_or v.zones d []) z q) [] k)
    go (yes k) =
        ap (λ (x : ℕ). get_or (get_or (set v.zones d (set (get_or v.zones d []) z q)) x []) y no_zone) k
        ∙ ap (λ (x : List Zone). get_or x y no_zone) (get_or-set_same v.zones d (set (get_or v.zones d []) z q) [] (omega (arith, h.drives)))
        ∙ get_or-set_other (get_or v.zones d []) z y q no_zone (⊎_elim (λ (i : e ≢ d). absurd (i k)) (λ i. i) n)
        ∙ ap (λ (x : ℕ). get_or (get_or v.zones x []) y no_zone) (sym k)

-- whatever holds of q, and of each zone of v elsewhere
pub set_elim : (p : Params) (v : View) → Shape p v → (Q : ℕ → ℕ → Zone → Type 0) (d z : ℕ) (q : Zone) → d < p.N → z < p.Z → Q d z q
    → (e y : ℕ) → Q e y (zone_at v e y) → Q e y (zone_at (set_zone v d z q) e y)
set_elim p v h Q d z q l k new e y old = go (ℕ_discrete e d) (ℕ_discrete y z)
  where
    go : Dec (e ≡ d) → Dec (y ≡ z) → Q e y (zone_at (set_zone v d z q) e y)
    go (yes a) (yes b) = rw (a, b) (rw (zone_set_at p v h d z q l k) new)
    go (yes a) (no b) = rw (zone_set_else p v h d z q l e y (inr b)) old
    go (no a) (yes b) = rw (zone_set_else p v h d z q l e y (inl a)) old
    go (no a) (no b) = rw (zone_set_else p v h d z q l e y (inl a)) old

-- ---- the shape is kept

-- a zone's part of it
pub record ZoneShape (p : Params) (q : Zone) : Type 0 where
  pub count : length q.blocks ≡ capacity p
  pub long : (k : ℕ) → k < capacity p → (length (get_or q.blocks k no_chunk).block ≡ p.B) × (length (get_or q.blocks k no_chunk).spare ≡ spare_len)

pub shape_zone : (p : Params) (v : View) → Shape p v → (d z : ℕ) → d < p.N → z < p.Z → ZoneShape p (zone_at v d z)
unfolding chunk_at
shape_zone p v h d z l k = record { count = h.blocks d z l k; long = λ j b. h.long d z j l k b }

set_drives : (p : Params) (v : View) → Shape p v → (d z : ℕ) (q : Zone) → (e : ℕ) → e < p.N → length (get_or (set_zone v d z q).zones e []) ≡ p.Z
unfolding set_zone
set_drives p v h d z q e l = go (ℕ_discrete e d)
  where
    go : Dec (e ≡ d) → length (get_or (set v.zones d (set (get_or v.zones d []) z q)) e []) ≡ p.Z
    go (no k) = ap length (get_or-set_other v.zones d e (set (get_or v.zones d []) z q) [] k) ∙ h.zones e l
    go (yes k) =
        ap (λ (x : ℕ). length (get_or (set v.zones d (set (get_or v.zones d []) z q)) x [])) k
        ∙ ap length (get_or-set_same v.zones d (set (get_or v.zones d []) z q) [] (omega (arith, h.drives)))
        ∙ length-set (get_or v.zones d []) z q ∙ ap (λ (x : ℕ). length (get_or v.zones x [])) (sym k) ∙ h.zones e l

pub shape_set : (p : Params) (v : View) → Shape p v → (d z : ℕ) (q : Zone) → d < p.N → z < p.Z → ZoneShape p q → Shape p (set_zone v d z q)
unfolding chunk_at
shape_set p v h d z q l k s = record {
  drives = count;
  zones = set_drives p v h d z q;
  blocks = λ e y a b. (zone e y a b).count;
  long = λ e y j a b c. (zone e y a b).long j c;
}
  where
    count : length (set_zone v d z q).zones ≡ p.N
    count = unfold set_zone in (length-set v.zones d (set (get_or v.zones d []) z q) ∙ h.drives)

    zone : (e y : ℕ) → e < p.N → y < p.Z → ZoneShape p (zone_at (set_zone v d z q) e y)
    zone e y a b = set_elim p v h (λ (i j : ℕ) (x : Zone). ZoneShape p x) d z q l k s e y (shape_zone p v h e y a b)

pub put_shape : (p : Params) (q : Zone) (b s : List ℕ) → ZoneShape p q → length b ≡ p.B → length s ≡ spare_len → ZoneShape p (put_zone b s q)
unfolding put_zone
put_shape p q b s h lb ls = record { count = length-set q.blocks q.pointer (mk_chunk b s) ∙ h.count; long = λ k l. go k l (ℕ_discrete k q.pointer) }
  where
    go : (k : ℕ) → k < capacity p → Dec (k ≡ q.pointer)
        → (length (get_or (set q.blocks q.pointer (mk_chunk b s)) k no_chunk).block ≡ p.B) × (length (get_or (set q.blocks q.pointer (mk_chunk b s)) k no_chunk).spare ≡ spare_len)
    go k l (yes e) =
        let r : get_or (set q.blocks q.pointer (mk_chunk b s)) k no_chunk ≡ mk_chunk b s =
        ap (λ (x : ℕ). get_or (set q.blocks q.pointer (mk_chunk b s)) x no_chunk) e ∙ get_or-set_same q.blocks q.pointer (mk_chunk b s) no_chunk (omega (arith, h.count)) in
        (ap (λ (c : Chunk). length c.block) r ∙ lb, ap (λ (c : Chunk). length c.spare) r ∙ ls)
    go k l (no e) =
        let r : get_or (set q.blocks q.pointer (mk_chunk b s)) k no_chunk ≡ get_or q.blocks k no_chunk = get_or-set_other q.blocks q.pointer k (mk_chunk b s) no_chunk e in
        (ap (λ (c : Chunk). length c.block) r ∙ (h.long k l).0, ap (λ (c : Chunk). length c.spare) r ∙ (h.long k l).1)

pub reset_shape : (p : Params) (q : Zone) → ZoneShape p q → ZoneShape p (reset_zone q)
unfolding reset_zone
reset_shape p q h = record { count = h.count; long = h.long }

pub shape_store : (p : Params) (v : View) (s : Store) → Shape p v → Fits p v s → Shape p (store_view_of s v)
unfolding store_view_of
shape_store p v (put d z b s) h (l, k, r, lb, ls) = shape_set p v h d z (put_zone b s (zone_at v d z)) l k (put_shape p (zone_at v d z) b s (shape_zone p v h d z l k) lb ls)
shape_store p v (reset d z) h (l, k) = shape_set p v h d z (reset_zone (zone_at v d z)) l k (reset_shape p (zone_at v d z) (shape_zone p v h d z l k))

pub shape_stores : (p : Params) (v : View) (ss : List Store) → Shape p v → AllFit p v ss → Shape p (store_all store_view_of ss v)
unfolding store_all
shape_stores p v [] h f = h
shape_stores p v (s ∷ ss) h f = shape_stores p (store_view_of s v) ss (shape_store p v s h f.0) f.1

pub fit_take : (p : Params) (v : View) (ss : List Store) (n : ℕ) → AllFit p v ss → AllFit p v (take n ss)
fit_take p v [] zero f = tt
fit_take p v [] (suc n) f = tt
fit_take p v (s ∷ ss) zero f = tt
fit_take p v (s ∷ ss) (suc n) f = (f.0, fit_take p (store_view_of s v) ss n f.1)

-- ---- what a put changes

module _ (p : Params) (v : View) (h : Shape p v) (d z : ℕ) (b t : List ℕ) (l : d < p.N) (m : z < p.Z) where
  pub put-at : zone_at (store_view_of (put d z b t) v) d z ≡ put_zone b t (zone_at v d z)
  unfolding store_view_of
  put-at = zone_set_at p v h d z (put_zone b t (zone_at v d z)) l m

  pub put_pointer_at : pointer_at (store_view_of (put d z b t) v) d z ≡ suc (pointer_at v d z)
  unfolding pointer_at
  put_pointer_at = ap (λ (q : Zone). q.pointer) put-at ∙ raised
    where
      raised : (put_zone b t (zone_at v d z)).pointer ≡ suc (zone_at v d z).pointer
      raised = unfold put_zone in refl
