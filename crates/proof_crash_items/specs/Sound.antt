-- Lists of stores of the right kinds: they fit, keep the byte facts, and are the machine's stores. Assumes nothing.
use Rattle.std.specs.Prelude.{◌≡◌, true, false, length, take}
use Rattle.std.proofs.Math.Path.{refl, ap₂, subst}
use Rattle.std.proofs.Common.{sym, ap, ◌∙◌, inl, inr, arith}
use mathlib.Core.List.{List, [], ◌∷◌, ◌++◌, map}
use Prim.Native.Nat.{ℕ, zero, suc, ◌+◌, ◌≤◌, ◌<◌}
use Rattle.std.proofs.Math.Decide.{ℕ_discrete}
use Rattle.spec.specs.declared.Params.{Params}
use Rattle.spec.specs.Drives.{Zone, View, zone_at, pointer_at, Store, put_zone, reset_zone, set_zone, store_view_of, store_all, zone_on, is_good}
use Rattle.spec.specs.Drives.Store.{put, reset}
use Rattle.spec.specs.Lists.{up_from}
use Rattle.spec.specs.Params.{spare_len, capacity}
use Rattle.law_basic.specs.Geometry.{Ranged}
use Rattle.law_views.specs.Views.{Fits, AllFit}
use Rattle.proof_crash_machine.specs.Mask.{Mask}
use Rattle.proof_crash_machine.specs.Steps.{list}
use Rattle.proof_crash_machine.specs.View.{Item, ItemStore, apply_all}
use Rattle.proof_crash_machine.specs.View.ItemStore.{put as m-put, reset as m-reset}
use Rattle.proof_crash_items.specs.Items.{items_in, store_item, store_items, items_stores, append_stores}
use Rattle.proof_crash_items.specs.Shape.{Shape, zone_set_else, set_elim, shape_zone, shape_store}
use Rattle.proof_crash_items.specs.ZoneBytes.{ZoneBytes, Kind, kind_fits, kind_item, kind_item_lem, bytes_reset, bytes_put}
use Rattle.spec.specs.declared.Seg.{Seg}
use Rattle.proof_crash_items.specs.Places.{append_places, place_store}
use Rattle.proof_crash_machine.specs.Facts.{Heads}

-- a store of the right kind for the drives as they are
abbrev pub Sound : Params → View → Store → Type 0
Sound p v (put d z b t) = (d < p.N) × (z < p.Z) × Kind p d (zone_at v d z) b t
Sound p v (reset d z) = (d < p.N) × (z < p.Z)

abbrev pub AllSound : Params → View → List Store → Type 0
AllSound p v [] = Unit {0}
AllSound p v (s ∷ ss) = Sound p v s × AllSound p (store_view_of s v) ss

-- byte facts of a drive (of its good zones: the others are never looked at), and of the trusted ones
abbrev pub BytesOn : Params → View → ℕ → Type 0
BytesOn p v d = (z : ℕ) → z < p.Z → is_good p v.offline d z ≡ true → ZoneBytes p d (zone_at v d z)

abbrev pub BytesOk : Params → Mask → View → Type 0
BytesOk p un v = (d : ℕ) → d < p.N → un d ≡ false → BytesOn p v d

pub sound_fits : (p : Params) → Ranged p → (v : View) (s : Store) → Shape p v → Sound p v s → Fits p v s
unfolding pointer_at
sound_fits p r v (put d z b t) h (l, k, q) =
    let f : ((zone_at v d z).pointer < capacity p) × (length b ≡ p.B) × (length t ≡ spare_len) = kind_fits p r (zone_at v d z) (shape_zone p v h d z l k) d b t q in
    (l, k, f.0, f.1, f.2)
sound_fits p r v (reset d z) h f = f

pub sounds_fit : (p : Params) → Ranged p → (v : View) (ss : List Store) → Shape p v → AllSound p v ss → AllFit p v ss
sounds_fit p r v [] h f = tt
sounds_fit p r v (s ∷ ss) h f =
    let a : Fits p v s = sound_fits p r v s h f.0 in
    (a, sounds_fit p r (store_view_of s v) ss (shape_store p v s h a) f.1)

-- a store keeps the byte facts of each drive
pub bytes_store : (p : Params) → Ranged p → (v : View) (s : Store) → Shape p v → Sound p v s → (e : ℕ) → BytesOn p v e → BytesOn p (store_view_of s v) e
unfolding store_view_of
bytes_store p r v (put d z b t) h (l, k, q) e f y m w = go (ℕ_discrete e d) (ℕ_discrete y z)
  where
    good : is_good p v.offline e y ≡ true
    good = unfold set_zone in w

    go : Dec (e ≡ d) → Dec (y ≡ z) → ZoneBytes p e (zone_at (set_zone v d z (put_zone b t (zone_at v d z))) e y)
    go (no n) o = rw (zone_set_else p v h d z (put_zone b t (zone_at v d z)) l e y (inl n)) (f y m good)
    go (yes n) (no o) = rw (zone_set_else p v h d z (put_zone b t (zone_at v d z)) l e y (inr o)) (f y m good)
    go (yes n) (yes o) = set_elim p v h (λ (i j : ℕ) (x : Zone). ZoneBytes p i x) d z (put_zone b t (zone_at v d z)) l k
        (bytes_put p r d (zone_at v d z) (shape_zone p v h d z l k) b t q (subst (λ (i : ℕ). ZoneBytes p i (zone_at v i z)) n (subst (λ (j : ℕ). ZoneBytes p e (zone_at v e j)) o (f y m good))))
        e y (f y m good)
bytes_store p r v (reset d z) h (l, k) e f y m w =
    set_elim p v h (λ (i j : ℕ) (x : Zone). ZoneBytes p i x) d z (reset_zone (zone_at v d z)) l k (bytes_reset p d (zone_at v d z)) e y (f y m (unfold set_zone in w))

pub bytes_stores : (p : Params) → Ranged p → (v : View) (ss : List Store) → Shape p v → AllSound p v ss → (e : ℕ) → BytesOn p v e → BytesOn p (store_all store_view_of ss v) e
unfolding store_all
bytes_stores p r v [] h f e g = g
bytes_stores p r v (s ∷ ss) h f e g =
    bytes_stores p r (store_view_of s v) ss (shape_store p v s h (sound_fits p r v s h f.0)) f.1 e (bytes_store p r v s h f.0 e g)

pub sound_take : (p : Params) (v : View) (ss : List Store) (n : ℕ) → AllSound p v ss → AllSound p v (take n ss)
sound_take p v [] zero f = tt
sound_take p v [] (suc n) f = tt
sound_take p v (s ∷ ss) zero f = tt
sound_take p v (s ∷ ss) (suc n) f = (f.0, sound_take p (store_view_of s v) ss n f.1)

pub sound_append : (p : Params) (v : View) (ss ts : List Store) → AllSound p v ss → AllSound p (store_all store_view_of ss v) ts → AllSound p v (ss ++ ts)
unfolding store_all
sound_append p v [] ts f g = g
sound_append p v (s ∷ ss) ts f g = (f.0, sound_append p (store_view_of s v) ss ts f.1 g)

-- ---- the stores of a call, and the machine's

-- ms are stores in segments, that lie where h says
pub record Follows (p : Params) (h : Heads) (v : View) (ss : List Store) (ms : List ItemStore) : Type 0 where
  pub sound : AllSound p v ss
  pub items : store_items p v ss ≡ map (place_store h) ms

pub follows_nil : (p : Params) (h : Heads) (v : View) → Follows p h v [] []
unfolding store_items
follows_nil p h v = record { sound = tt; items = refl }

pub follows-cons :
    (p : Params) (h : Heads) (v : View) (s : Store) (ss : List Store) (m : ItemStore) (ms : List ItemStore)
    → Sound p v s
    → store_item p v s ≡ place_store h m
    → Follows p h (store_view_of s v) ss ms
    → Follows p h v (s ∷ ss) (m ∷ ms)
unfolding store_items
follows-cons p h v s ss m ms a e f = record { sound = (a, f.sound); items = ap₂ (λ (x : ItemStore) (y : List ItemStore). x ∷ y) e f.items }

pub follows_append : (p : Params) (h : Heads) (v : View) (ss ts : List Store) (ms ns : List ItemStore) → Follows p h v ss ms → Follows p h (store_all store_view_of ss v) ts ns
    → Follows p h v (ss ++ ts) (ms ++ ns)
follows_append p h v ss ts ms ns a b = record {
  sound = sound_append p v ss ts a.sound b.sound;
  items = append_stores p v ss ts ∙ ap₂ (λ (x y : List ItemStore). x ++ y) a.items b.items ∙ sym (append_places h ms ns);
}

-- the items after all stores, and after the first n of them
pub follows_all : (p : Params) → Ranged p → (h : Heads) (v : View) (ss : List Store) (ms : List ItemStore) → Shape p v → Follows p h v ss ms
    → items_in p (store_all store_view_of ss v) ≡ apply_all (items_in p v) (map (place_store h) ms)
follows_all p r h v ss ms s f = items_stores p v ss s (sounds_fit p r v ss s f.sound) ∙ ap (apply_all (items_in p v)) f.items

-- one store, in a segment's zone
pub sound_put : (p : Params) (v : View) (d : ℕ) (g : Seg) (b t : List ℕ) → d < p.N → zone_on g d < p.Z → Kind p d (zone_at v d (zone_on g d)) b t → Sound p v (put d (zone_on g d) b t)
sound_put p v d g b t l m k = (l, m, k)

pub store_put : (p : Params) (h : Heads) (v : View) (d n : ℕ) (g : Seg) (b t : List ℕ) → zone_on g d ≡ h.zn n d → (k : Kind p d (zone_at v d (zone_on g d)) b t)
    → store_item p v (put d (zone_on g d) b t) ≡ place_store h (m-put d n (kind_item p d (zone_at v d (zone_on g d)) b t k))
unfolding store_item pointer_at place_store
store_put p h v d n g b t e k = ap₂ (λ (x : ℕ) (i : Item). m-put d x i) e (kind_item_lem p d (zone_at v d (zone_on g d)) b t k)

pub store_reset : (p : Params) (h : Heads) (v : View) (d n z : ℕ) → z ≡ h.zn n d → store_item p v (reset d z) ≡ place_store h (m-reset d n)
unfolding store_item place_store
store_reset p h v d n z e = ap (m-reset d) e

-- stores st j, st (j + 1), .. under an invariant
module _ (p : Params) (h : Heads) (I : ℕ → View → Type 0) (st : ℕ → Store) (ms : ℕ → ItemStore) (hi : ℕ)
    (step : (j : ℕ) (v : View) → j < hi → I j v → Sound p v (st j) × (store_item p v (st j) ≡ place_store h (ms j)) × I (suc j) (store_view_of (st j) v)) where
  pub follows_list : (j n : ℕ) → j + n ≤ hi → (v : View) → I j v → Follows p h v (map st (up_from j n)) (list ms j n)
  unfolding up_from list store_items
  follows_list j zero b v i = record { sound = tt; items = refl }
  follows_list j (suc n) b v i =
      let a : Sound p v (st j) × (store_item p v (st j) ≡ place_store h (ms j)) × I (suc j) (store_view_of (st j) v) = step j v (omega arith) i in
      let c : Follows p h (store_view_of (st j) v) (map st (up_from (suc j) n)) (list ms (suc j) n) = follows_list (suc j) n (omega arith) (store_view_of (st j) v) a.2 in
      record { sound = (a.0, c.sound); items = ap₂ (λ (x : ItemStore) (y : List ItemStore). x ∷ y) a.1 c.items }

  pub follows_end : (j n t : ℕ) → j + n ≤ hi → t ≡ j + n → (v : View) → I j v → I t (store_all store_view_of (map st (up_from j n)) v)
  unfolding up_from store_all
  follows_end j zero t b e v i = subst (λ (k : ℕ). I k v) (omega arith) i
  follows_end j (suc n) t b e v i = follows_end (suc j) n t (omega arith) (omega arith) (store_view_of (st j) v) (step j v (omega arith) i).2
